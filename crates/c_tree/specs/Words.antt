-- Words as values: read as what is due, as conditions, compared, and pointers moved.
use Rattle.std.specs.Prelude.{ℕ, ℤ, pos, negsuc, ◌+ℤ◌, ◌-ℤ◌, ◌*ℤ◌, ◌/◌, Bool, true, false, not, ◌&&◌, if◌then◌else◌, nat_lt, nat_eq, Result, Ok, Err, List, [], ◌∷◌, ◌++◌}
use Rattle.std.specs.Ordering.{int_eq}
use Rattle.std.specs.Fmt.{signed_decimal}
use Rattle.mpc_values.specs.declared.values.Word.{Word}
use Rattle.mpc_values.specs.declared.values.Word.TheVariants.{Undef, Int, Null, Ptr, Comm, Req}
use Rattle.mpc_values.specs.declared.values.Obj.{Obj}
use Rattle.mpc_values.specs.declared.values.Obj.TheVariants.{Glob, Dyn}
use Rattle.mpc_values.specs.declared.faults.Fault.{Fault}
use Rattle.mpc_values.specs.declared.faults.Fault.TheVariants as fault
use Rattle.c_tree.specs.declared.formats.Piece.{Piece}
use Rattle.c_tree.specs.declared.formats.Piece.TheVariants as piece
use Rattle.c_tree.specs.declared.program.Width.TheVariants.{Long}
use Rattle.c_tree.specs.declared.program.Scalar.{Scalar}
use Rattle.c_tree.specs.declared.program.Scalar.TheVariants as scalar
use Rattle.c_tree.specs.Numbers.{number_of}

-- a word read where a pointer is due; another word is NULL
abbrev pub pointer_of : Word → Word
pointer_of (Ptr obj at) = Ptr obj at
pointer_of word = Null

-- a word read where a communicator is due; another word is MPI_COMM_NULL
abbrev pub comm_of : Word → Word
comm_of (Comm comm) = Comm comm
comm_of word = Comm 0

-- a word read where a request is due; another word is MPI_REQUEST_NULL
abbrev pub request_of : Word → Word
request_of (Req req) = Req req
request_of word = Req 0

-- a word read as what is due
abbrev pub read_as : Scalar → Word → Word
read_as (scalar.Number width) word = Int (number_of width word)
read_as scalar.Pointer word = pointer_of word
read_as scalar.Comm word = comm_of word
read_as scalar.Request word = request_of word

-- a number or pointer as a condition: it holds where it is neither 0 nor NULL
abbrev pub holds : Word → Bool
holds (Int z) = not (int_eq z (pos 0))
holds (Ptr obj at) = true
holds word = false

-- 1 where a condition holds, and else 0
abbrev pub truth : Bool → Word
truth true = Int (pos 1)
truth false = Int (pos 0)

abbrev pub same_object : Obj → Obj → Bool
same_object (Glob a) (Glob b) = nat_eq a b
same_object (Dyn a) (Dyn b) = nat_eq a b
same_object a b = false

-- whether two words are the same
abbrev pub same_word : Word → Word → Bool
same_word Undef Undef = true
same_word (Int a) (Int b) = int_eq a b
same_word Null Null = true
same_word (Ptr a i) (Ptr b j) = same_object a b && nat_eq i j
same_word (Comm a) (Comm b) = nat_eq a b
same_word (Req a) (Req b) = nat_eq a b
same_word a b = false

-- the pointer to a place of an object, which is from 0 to 4,294,967,295
abbrev pub pointer_at : Obj → ℤ → Result Word Fault
pointer_at obj (pos at) = if nat_lt at 4294967296 then Ok (Ptr obj at) else Err fault.Bounds
pointer_at obj (negsuc at) = Err fault.Bounds

-- A pointer so many words further. NULL cannot be moved.
abbrev pub moved : Word → ℤ → Result Word Fault
moved (Ptr obj at) words = pointer_at obj (pos at +ℤ words)
moved word words = Err fault.NullAccess

-- so many elements of so many words, on or back
abbrev pub elements : Bool → ℕ → ℤ → ℤ
elements back words count = if back then pos 0 -ℤ pos words *ℤ count else pos words *ℤ count

-- the words that malloc of so many bytes asks for, for elements of a size: rounded down, and -1 for a negative number
abbrev pub malloc_words : ℕ → ℤ → ℤ
malloc_words size (pos bytes) = pos (bytes / size)
malloc_words size (negsuc bytes) = negsuc 0

-- the bytes of a text with its numbers in decimal
abbrev pub printed : List Piece → List Word → List ℕ
printed [] words = []
printed (piece.Text text ∷ pieces) words = text ++ printed pieces words
printed (piece.Number ∷ pieces) [] = printed pieces []
printed (piece.Number ∷ pieces) (word ∷ words) = signed_decimal (number_of Long word) ++ printed pieces words
