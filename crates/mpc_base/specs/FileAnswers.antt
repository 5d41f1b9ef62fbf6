-- What a store's answers say of its files.
use Rattle.std.specs.Prelude.{◌≡◌, ◌≢◌, ℕ, ◌≤◌, ◌<◌, List, length, Option, Some, None}
use Rattle.std.specs.FinMap as map
use Rattle.mpc_base.specs.Told.{Store, content_of}
use Rattle.mpc_base.specs.declared.file_store.ReadAnswer.{ReadAnswer}
use Rattle.mpc_base.specs.declared.file_store.ReadAnswer.TheVariants as read
use Rattle.mpc_base.specs.declared.file_store.WriteAnswer.{WriteAnswer}
use Rattle.mpc_base.specs.declared.file_store.WriteAnswer.TheVariants as write

-- a file's content is longer than the limit
abbrev pub IsTooLong : ℕ → Option (List ℕ) → Type 0
IsTooLong limit None = ⊥
IsTooLong limit (Some content) = limit < length content

-- what an answer says of the file, where the store tells it
abbrev pub ReadsFile : Option (List ℕ) → ℕ → ReadAnswer → Type 0
ReadsFile file limit (read.Bytes bytes) = (file ≡ Some bytes.items) × (length bytes.items ≤ limit)
ReadsFile file limit read.Missing = file ≡ None
ReadsFile file limit read.TooLong = IsTooLong limit file
ReadsFile file limit read.Failed = Unit {0}
ReadsFile file limit read.Memory = Unit {0}

-- no more bytes than the limit are handed out
abbrev pub IsWithin : ℕ → ReadAnswer → Type 0
IsWithin limit (read.Bytes bytes) = length bytes.items ≤ limit
IsWithin limit read.Missing = Unit {0}
IsWithin limit read.TooLong = Unit {0}
IsWithin limit read.Failed = Unit {0}
IsWithin limit read.Memory = Unit {0}

-- what a read answers
abbrev pub Reads : Option Store → List ℕ → ℕ → ReadAnswer → Type 0
Reads None name limit answer = IsWithin limit answer
Reads (Some store) name limit answer = ReadsFile (content_of store name) limit answer

-- every other file is as it was
abbrev pub KeepsOtherFiles : List ℕ → Store → Store → Type 0
KeepsOtherFiles name old new = (other : List ℕ) → other ≢ name → content_of new other ≡ content_of old other

-- after a failed write nothing is told of the file
abbrev pub IsUntoldAt : List ℕ → Store → Option Store → Type 0
IsUntoldAt name old None = ⊥
IsUntoldAt name old (Some new) = KeepsOtherFiles name old new

-- what a write answers
abbrev pub Writes : Option Store → Option Store → List ℕ → List ℕ → WriteAnswer → Type 0
Writes None new name bytes answer = new ≡ None
Writes (Some old) new name bytes write.Written = new ≡ Some (map.insert old name bytes)
Writes (Some old) new name bytes write.Failed = IsUntoldAt name old new
Writes (Some old) new name bytes write.Memory = new ≡ Some old
