-- What a task sees of a communicator is what the definitions say.
use Rattle.std.proofs.Common.{◌≡◌, ◌==◌, ℕ, zero, suc, Bool, true, false, if◌then◌else◌, List, length, position, Option, Some, None, refl, sym, ap, ◌∙◌}
use Rattle.std.specs.Option.{option_map}
use Rattle.std.proofs.lemmas.Option.{slice_get-map}
use Rattle.mpc_values.specs.declared.values.Word.{Word}
use Rattle.mpc_values.specs.declared.values.Word.TheVariants.{Undef, Int, Null, Ptr, Comm, Req}
use Rattle.mpi_comm.specs.declared.communicators.Communicator.{Communicator}
use Rattle.mpi_comm.specs.Communicators.{comm_at, living, group_at, group_in, group_of, view_of}
use Rattle.mpi_comm.specs.Seen.{seen_of, seen_all, seen_at, alive, rank_in, size_in}
use Rattle.node_core.specs.CommsSeen.{view_with, view_seen}

seen_at_is : (comms : List Communicator) (number : ℕ) → seen_at (seen_all comms) number ≡ option_map seen_of (comm_at comms number)
seen_at_is comms zero = refl
seen_at_is comms (suc index) = slice_get-map seen_of comms index

living_if : (comm : Communicator) (b : Bool) → (if b then Some (seen_of comm) else None) ≡ option_map seen_of (if b then Some comm else None)
living_if comm true = refl
living_if comm false = refl

living_is : (c : Option Communicator) → alive (option_map seen_of c) ≡ option_map seen_of (living c)
living_is None = refl
living_is (Some comm) = living_if comm comm.lives

member_is : (number : ℕ) (members : List ℕ) (rank : Option ℕ) → option_map view_of (group_at number members rank) ≡ view_with number rank (Some (length members))
member_is number members None = refl
member_is number members (Some rank) = refl

found_is : (task number : ℕ) (c : Option Communicator) → option_map view_of (group_in task number c) ≡ view_with number (rank_in task (option_map seen_of c)) (size_in (option_map seen_of c))
found_is task number None = refl
found_is task number (Some comm) = member_is number comm.members (position (λ member. member == task) comm.members)

-- what a task sees of a communicator by its word
pub view_is : (comms : List Communicator) (task : ℕ) (word : Word) → option_map view_of (group_of comms task word) ≡ view_seen (seen_all comms) task word
view_is comms task (Comm number) =
    found_is task number (living (comm_at comms number))
    ∙ ap (λ s. view_with number (rank_in task s) (size_in s)) (sym (ap alive (seen_at_is comms number) ∙ living_is (comm_at comms number)))
view_is comms task Undef = refl
view_is comms task (Int z) = refl
view_is comms task Null = refl
view_is comms task (Ptr obj at) = refl
view_is comms task (Req req) = refl
