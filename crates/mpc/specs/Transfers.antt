-- What the adapters make of a source's bytes, of a target's, and of the system's refusals.
use Rattle.std.specs.Prelude.{ℕ, List, Option, Some, None}
use Rattle.std.specs.Io.KnownBytes.{Appends}
use Rattle.mpc_base.specs.FileAnswers.{IsWithin, ReadsFile}
use Rattle.mpc_base.specs.declared.file_store.ReadAnswer.{ReadAnswer}
use Rattle.mpc_base.specs.declared.file_store.WriteAnswer.{WriteAnswer}
use Rattle.mpc_base.specs.declared.file_store.WriteAnswer.TheVariants as write

-- what standard output tells of the bytes that it took: nothing
abbrev pub no_bytes : Option (List ℕ)
no_bytes = None

-- what a read answers of a source: where the source tells its bytes, these are the file's content
abbrev pub ReadsSource : Option (List ℕ) → ℕ → ReadAnswer → Type 0
ReadsSource None limit answer = IsWithin limit answer
ReadsSource (Some content) limit answer = ReadsFile (Some content) limit answer

-- what a write answers: only where the target took all of the bytes are they written
abbrev pub WritesAll : Option (List ℕ) → Option (List ℕ) → List ℕ → WriteAnswer → Type 0
WritesAll before after bytes write.Written = Appends before after bytes
WritesAll before after bytes write.Failed = Unit {0}
WritesAll before after bytes write.Memory = ⊥
