-- What a machine file says, on the document that its bytes spell.
use Rattle.std.specs.Prelude.{ℕ, ℤ, pos, negsuc, Bool, ◌&&◌, ◌||◌, not, ◌==◌, nat_lt, nat_eq, if◌then◌else◌, List, [], ◌∷◌, map, length, codes, Option, Some, None, is_some, option_map, option_and_then, Result, Ok, Err}
use Rattle.std.specs.List.{list_all}
use Rattle.std.specs.Str.{is_utf8}
use Rattle.std.specs.Cmp.Lexicographic.{pointwise}
use Rattle.toml.specs.Data.{Data, Items, no_items, item, Members, no_members, member, get_member, as_integer, as_array, as_table}
use Rattle.toml.specs.Parse.{parse_document}
use Rattle.mpc_values.specs.declared.limits.TheConstants.{MAX_CORES}
use Rattle.topology.specs.declared.core_numbers.CoreNumbers.{CoreNumbers}
use Rattle.topology.specs.declared.core_numbers.TheConstants.{INSTANCE_NUMBERS}
use Rattle.topology.specs.declared.refusals.MachineRefusal.{MachineRefusal}
use Rattle.topology.specs.declared.refusals.MachineRefusal.TheVariants.{NotToml, BadField, NoCores, TooManyCores, NotNested}

-- the document of some bytes, where they are UTF-8 and a TOML document
abbrev pub document_of : List ℕ → Option Members
document_of bytes = if is_utf8 bytes then parse_document bytes else None

-- the two texts have the same bytes
abbrev pub same_text : List ℕ → List ℕ → Bool
same_text a b = pointwise nat_eq a b

-- the keys of a table
abbrev pub keys_of : Members → List (List ℕ)
keys_of no_members = []
keys_of (member key value rest) = key ∷ keys_of rest

-- the values of an array
abbrev pub values_of : Items → List Data
values_of no_items = []
values_of (item value rest) = value ∷ values_of rest

-- the one key of a machine file
abbrev pub is_core_key : List ℕ → Bool
is_core_key key = same_text key (codes "core")

abbrev pub is_table : Data → Bool
is_table value = is_some (as_table value)

-- the values, where all are tables
abbrev pub tables_of : Items → Option (List Data)
tables_of values = if list_all is_table (values_of values) then Some (values_of values) else None

-- the values that stand for cores: none where there is no key, else those of an array of tables
abbrev pub core_values : Option Data → Option (List Data)
core_values None = Some []
core_values (Some value) = option_and_then tables_of (as_array value)

-- the tables of the cores, where the document has no other key and an array of tables at this one
abbrev pub core_tables : Members → Option (List Data)
core_tables document = if list_all is_core_key (keys_of document) then core_values (get_member (codes "core") document) else None

-- one of the four keys of a core's table
abbrev pub is_level_key : List ℕ → Bool
is_level_key key = ((same_text key (codes "numa") || same_text key (codes "l3")) || same_text key (codes "l2")) || same_text key (codes "l1")

-- an integer of 0 to 255
abbrev pub byte_of : ℤ → Option ℕ
byte_of (pos n) = if nat_lt n INSTANCE_NUMBERS then Some n else None
byte_of (negsuc n) = None

-- the value, where it is an integer of 0 to 255
abbrev pub byte_in : Data → Option ℕ
byte_in value = option_and_then byte_of (as_integer value)

-- the value at a key of a table, where it is an integer of 0 to 255
abbrev pub byte_at : List ℕ → Members → Option ℕ
byte_at key fields = option_and_then byte_in (get_member key fields)

-- the four numbers, where all are there
abbrev pub four_numbers : Option ℕ → Option ℕ → Option ℕ → Option ℕ → Option CoreNumbers
four_numbers (Some numa) (Some l3) (Some l2) (Some l1) = Some (record { numa = numa; l3 = l3; l2 = l2; l1 = l1 })
four_numbers _ _ _ _ = None

-- the numbers of a core, where its table has the four keys and no other, each with an integer of 0 to 255
abbrev pub numbers_in : Members → Option CoreNumbers
numbers_in fields =
    if list_all is_level_key (keys_of fields)
    then four_numbers (byte_at (codes "numa") fields) (byte_at (codes "l3") fields)
    (byte_at (codes "l2") fields) (byte_at (codes "l1") fields)
    else None

abbrev pub numbers_of_core : Data → Option CoreNumbers
numbers_of_core value = option_and_then numbers_in (as_table value)

-- all of them, where each is there
abbrev pub together : List (Option CoreNumbers) → Option (List CoreNumbers)
together [] = Some []
together (first ∷ rest) = option_and_then (λ numbers. option_map (λ more. numbers ∷ more) (together rest)) first

-- two cores of one instance of an inner level are in one of the level around it
abbrev pub keeps_apart : CoreNumbers → CoreNumbers → Bool
keeps_apart a b =
    ((not (a.l1 == b.l1) || a.l2 == b.l2) && (not (a.l2 == b.l2) || a.l3 == b.l3)) && (not (a.l3 == b.l3) || a.numa == b.numa)

-- each level lies within the level around it
abbrev pub is_nested : List CoreNumbers → Bool
is_nested machine = list_all (λ a. list_all (keeps_apart a) machine) machine

-- the machine of cores with these numbers
abbrev pub nested_machine : Option (List CoreNumbers) → Result (List CoreNumbers) MachineRefusal
nested_machine None = Err BadField
nested_machine (Some machine) = if is_nested machine then Ok machine else Err NotNested

-- the machine of these core tables
abbrev pub machine_of_tables : Option (List Data) → Result (List CoreNumbers) MachineRefusal
machine_of_tables None = Err BadField
machine_of_tables (Some tables) =
    if length tables == 0 then Err NoCores
    else if nat_lt MAX_CORES (length tables) then Err TooManyCores
    else nested_machine (together (map numbers_of_core tables))

-- the machine that a document tells, or the refusal of the first rule that it breaks
abbrev pub machine_in : Option Members → Result (List CoreNumbers) MachineRefusal
machine_in None = Err NotToml
machine_in (Some document) = machine_of_tables (core_tables document)

-- the machine that a file's bytes tell, or the refusal of the first rule that they break
abbrev pub machine_of : List ℕ → Result (List CoreNumbers) MachineRefusal
machine_of bytes = machine_in (document_of bytes)
