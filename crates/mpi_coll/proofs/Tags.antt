-- Comparing two kinds of calls, operations or datatypes compares their numbers.
use Rattle.std.proofs.Common.{◌≡◌, ◌==◌, refl, ap, ◌∙◌}
use denote.Enum.Bare.{sameb}
use denote.Enum.Declared.{tag_of}
use Rattle.mpc_values.specs.declared.values.Op.{Op}
use Rattle.mpc_values.specs.declared.values.Op.TheVariants.{Max, Min, Sum, Prod, Land, Band, Lor, Bor, Lxor, Bxor}
use Rattle.mpc_values.specs.declared.values.Datatype.{Datatype}
use Rattle.mpc_values.specs.declared.values.Datatype.TheVariants.{Int, Long}
use Rattle.mpc_values.specs.declared.collectives.CollKind.{CollKind}
use Rattle.mpc_values.specs.declared.collectives.CollKind.TheVariants.{Barrier, Bcast, Reduce, Allreduce, Scan, Exscan, Gather, Allgather, Scatter, Alltoall, Dup, Split, Free}
use Rattle.mpc_values.specs.contracts.values.Op.{the_type as op_type}
use Rattle.mpc_values.specs.contracts.values.Datatype.{the_type as data_type}
use Rattle.mpc_values.specs.contracts.collectives.CollKind.{the_type as kind_type}
use Rattle.mpi_args.specs.Datatypes.{is_same_datatype}
use Rattle.mpi_coll.specs.Meetings.{kind_number, op_number}

kind_tag : (kind : CollKind) → tag_of kind_type kind ≡ kind_number kind
kind_tag Barrier = refl
kind_tag Bcast = refl
kind_tag Reduce = refl
kind_tag Allreduce = refl
kind_tag Scan = refl
kind_tag Exscan = refl
kind_tag Gather = refl
kind_tag Allgather = refl
kind_tag Scatter = refl
kind_tag Alltoall = refl
kind_tag Dup = refl
kind_tag Split = refl
kind_tag Free = refl

op_tag : (op : Op) → tag_of op_type op ≡ op_number op
op_tag Max = refl
op_tag Min = refl
op_tag Sum = refl
op_tag Prod = refl
op_tag Land = refl
op_tag Band = refl
op_tag Lor = refl
op_tag Bor = refl
op_tag Lxor = refl
op_tag Bxor = refl

pub kind_tests : (a b : CollKind) → sameb kind_type a b ≡ (kind_number a == kind_number b)
kind_tests a b = ap (λ n. n == tag_of kind_type b) (kind_tag a) ∙ ap (λ n. kind_number a == n) (kind_tag b)

pub op_tests : (a b : Op) → sameb op_type a b ≡ (op_number a == op_number b)
op_tests a b = ap (λ n. n == tag_of op_type b) (op_tag a) ∙ ap (λ n. op_number a == n) (op_tag b)

pub type_tests : (a b : Datatype) → sameb data_type a b ≡ is_same_datatype a b
type_tests Int Int = refl
type_tests Int Long = refl
type_tests Long Int = refl
type_tests Long Long = refl
