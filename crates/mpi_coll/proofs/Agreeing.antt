-- Calls that agree: agreeing is the same from both sides, and such calls give each member the same.
use Rattle.std.proofs.Common.{◌≡◌, ℕ, ℤ, pos, Bool, true, false, ◌&&◌, ◌==◌, not, List, [], ◌∷◌, get_or, refl, ap, sym, ◌∙◌}
use Rattle.std.specs.Prelude.{◌||◌, nat_abs}
use Rattle.std.specs.Ordering.{int_eq}
use Rattle.std.proofs.lemmas.Bool.{false≢true}
use Rattle.std.proofs.lemmas.Bool.Decides.{Decides-int_eq}
use Rattle.mpc_values.specs.declared.values.Op.{Op}
use Rattle.mpc_values.specs.declared.values.Op.TheVariants.{Max, Min, Sum, Prod, Land, Band, Lor, Bor, Lxor, Bxor}
use Rattle.mpc_values.specs.declared.values.Datatype.{Datatype}
use Rattle.mpc_values.specs.declared.values.Datatype.TheVariants.{Int, Long}
use Rattle.mpc_values.specs.declared.collectives.Coll.{Coll}
use Rattle.mpc_values.specs.declared.collectives.CollKind.{CollKind}
use Rattle.mpc_values.specs.declared.collectives.CollKind.TheVariants.{Barrier, Bcast, Reduce, Allreduce, Scan, Exscan, Gather, Allgather, Scatter, Alltoall, Dup, Split, Free}
use Rattle.mpi_args.specs.Datatypes.{is_same_datatype}
use Rattle.mpi_coll.specs.Arguments.{has_root, is_fold, has_words, is_root, count_of}
use Rattle.mpi_coll.specs.Meetings.{kind_number, op_number, agree}
use Rattle.mpi_coll.proofs.Comparisons.{eq_yes, eq_from, both_yes, both_from}
use Rattle.mpi_coll.specs.Results.{Given, result_in, result_of}

abbrev kinds : List CollKind
kinds = Barrier ∷ Bcast ∷ Reduce ∷ Allreduce ∷ Scan ∷ Exscan ∷ Gather ∷ Allgather ∷ Scatter ∷ Alltoall ∷ Dup ∷ Split ∷ Free ∷ []

kind_at : (kind : CollKind) → get_or kinds (kind_number kind) Barrier ≡ kind
kind_at Barrier = refl
kind_at Bcast = refl
kind_at Reduce = refl
kind_at Allreduce = refl
kind_at Scan = refl
kind_at Exscan = refl
kind_at Gather = refl
kind_at Allgather = refl
kind_at Scatter = refl
kind_at Alltoall = refl
kind_at Dup = refl
kind_at Split = refl
kind_at Free = refl

abbrev ops : List Op
ops = Max ∷ Min ∷ Sum ∷ Prod ∷ Land ∷ Band ∷ Lor ∷ Bor ∷ Lxor ∷ Bxor ∷ []

op_at : (op : Op) → get_or ops (op_number op) Max ≡ op
op_at Max = refl
op_at Min = refl
op_at Sum = refl
op_at Prod = refl
op_at Land = refl
op_at Band = refl
op_at Lor = refl
op_at Bor = refl
op_at Lxor = refl
op_at Bxor = refl

-- kinds, operations and datatypes that are alike in number are one
pub same_kind : (a b : CollKind) → (kind_number a == kind_number b) ≡ true → a ≡ b
same_kind a b h = sym (kind_at a) ∙ (ap (λ n. get_or kinds n Barrier) (eq_from (kind_number a) (kind_number b) h) ∙ kind_at b)

pub same_op : (a b : Op) → (op_number a == op_number b) ≡ true → a ≡ b
same_op a b h = sym (op_at a) ∙ (ap (λ n. get_or ops n Max) (eq_from (op_number a) (op_number b) h) ∙ op_at b)

pub same_type : (a b : Datatype) → is_same_datatype a b ≡ true → a ≡ b
same_type Int Int h = refl
same_type Int Long h = absurd (false≢true h)
same_type Long Int h = absurd (false≢true h)
same_type Long Long h = refl

type_same : (a : Datatype) → is_same_datatype a a ≡ true
type_same Int = refl
type_same Long = refl

implied : (x y : Bool) → (not x || y) ≡ true → x ≡ true → y ≡ true
implied true y h p = h
implied false y h p = absurd (false≢true p)

implied-from : (x y : Bool) → (x ≡ true → y ≡ true) → (not x || y) ≡ true
implied-from true y h = h refl
implied-from false y h = refl

-- What two calls that agree have alike.
pub record Alike (a b : Coll) : Type 0 where
  pub what : a.what ≡ b.what
  pub root : has_root a.what ≡ true → a.root ≡ b.root
  pub op : is_fold a.what ≡ true → a.op ≡ b.op
  pub kind : has_words a.what ≡ true → a.kind ≡ b.kind
  pub count : count_of a ≡ count_of b

abbrev kinds_same : Coll → Coll → Bool
kinds_same a b = kind_number a.what == kind_number b.what

abbrev roots_same : Coll → Coll → Bool
roots_same a b = not (has_root a.what) || int_eq a.root b.root

abbrev ops_same : Coll → Coll → Bool
ops_same a b = not (is_fold a.what) || op_number a.op == op_number b.op

abbrev types_same : Coll → Coll → Bool
types_same a b = not (has_words a.what) || is_same_datatype a.kind b.kind

abbrev counts_same : Coll → Coll → Bool
counts_same a b = int_eq (count_of a) (count_of b)

pub Alike-from_agree : (a b : Coll) → agree a b ≡ true → Alike a b
Alike-from_agree a b h =
    let first = both_from (kinds_same a b) (roots_same a b && (ops_same a b && (types_same a b && counts_same a b))) h in
    let second = both_from (roots_same a b) (ops_same a b && (types_same a b && counts_same a b)) first.1 in
    let third = both_from (ops_same a b) (types_same a b && counts_same a b) second.1 in
    let fourth = both_from (types_same a b) (counts_same a b) third.1 in
    record {
      what = same_kind a.what b.what first.0;
      root = λ r. (Decides-int_eq a.root b.root).0 (implied (has_root a.what) (int_eq a.root b.root) second.0 r);
      op = λ f. same_op a.op b.op (implied (is_fold a.what) (op_number a.op == op_number b.op) third.0 f);
      kind = λ w. same_type a.kind b.kind (implied (has_words a.what) (is_same_datatype a.kind b.kind) fourth.0 w);
      count = (Decides-int_eq (count_of a) (count_of b)).0 fourth.1;
    }

pub agree-from_Alike : (a b : Coll) → Alike a b → agree a b ≡ true
agree-from_Alike a b s =
    both_yes (kinds_same a b) (roots_same a b && (ops_same a b && (types_same a b && counts_same a b))) (eq_yes (kind_number a.what) (kind_number b.what) (ap kind_number s.what))
    (both_yes (roots_same a b) (ops_same a b && (types_same a b && counts_same a b)) (implied-from (has_root a.what) (int_eq a.root b.root) (λ r. (Decides-int_eq a.root b.root).1 (s.root r)))
    (both_yes (ops_same a b) (types_same a b && counts_same a b) (implied-from (is_fold a.what) (op_number a.op == op_number b.op) (λ f. eq_yes (op_number a.op) (op_number b.op) (ap op_number (s.op f))))
    (both_yes (types_same a b) (counts_same a b) (implied-from (has_words a.what) (is_same_datatype a.kind b.kind) (λ w. ap (is_same_datatype a.kind) (sym (s.kind w)) ∙ type_same a.kind))
    ((Decides-int_eq (count_of a) (count_of b)).1 s.count))))

Alike-mirror : (a b : Coll) → Alike a b → Alike b a
Alike-mirror a b s = record {
  what = sym s.what;
  root = λ r. sym (s.root (ap has_root s.what ∙ r));
  op = λ f. sym (s.op (ap is_fold s.what ∙ f));
  kind = λ w. sym (s.kind (ap has_words s.what ∙ w));
  count = sym s.count;
}

Alike-along : (a b c : Coll) → Alike a b → Alike b c → Alike a c
Alike-along a b c s t = record {
  what = s.what ∙ t.what;
  root = λ r. s.root r ∙ t.root (sym (ap has_root s.what) ∙ r);
  op = λ f. s.op f ∙ t.op (sym (ap is_fold s.what) ∙ f);
  kind = λ w. s.kind w ∙ t.kind (sym (ap has_words s.what) ∙ w);
  count = s.count ∙ t.count;
}

pub agree-mirror : (a b : Coll) → agree a b ≡ true → agree b a ≡ true
agree-mirror a b h = agree-from_Alike b a (Alike-mirror a b (Alike-from_agree a b h))

pub agree-along : (a b c : Coll) → agree a b ≡ true → agree b c ≡ true → agree a c ≡ true
agree-along a b c h g = agree-from_Alike a c (Alike-along a b c (Alike-from_agree a b h) (Alike-from_agree b c g))

pub agree-itself : (a : Coll) → agree a a ≡ true
agree-itself a = agree-from_Alike a a (record { what = refl; root = λ _. refl; op = λ _. refl; kind = λ _. refl; count = refl })

same_result : (what : CollKind) (r r' : ℤ) (op op' : Op) (kind kind' : Datatype) (count rank : ℕ) (given : Given)
    → (has_root what ≡ true → r ≡ r') → (is_fold what ≡ true → op ≡ op') → (has_words what ≡ true → kind ≡ kind')
    → result_in what (int_eq r (pos rank)) (nat_abs r) op kind count rank given ≡ result_in what (int_eq r' (pos rank)) (nat_abs r') op' kind' count rank given
same_result Barrier r r' op op' kind kind' count rank given p q w = refl
same_result Bcast r r' op op' kind kind' count rank given p q w = rw (p refl) refl
same_result Reduce r r' op op' kind kind' count rank given p q w = rw (p refl, q refl, w refl) refl
same_result Allreduce r r' op op' kind kind' count rank given p q w = rw (q refl, w refl) refl
same_result Scan r r' op op' kind kind' count rank given p q w = rw (q refl, w refl) refl
same_result Exscan r r' op op' kind kind' count rank given p q w = rw (q refl, w refl) refl
same_result Gather r r' op op' kind kind' count rank given p q w = rw (p refl) refl
same_result Allgather r r' op op' kind kind' count rank given p q w = refl
same_result Scatter r r' op op' kind kind' count rank given p q w = rw (p refl) refl
same_result Alltoall r r' op op' kind kind' count rank given p q w = refl
same_result Dup r r' op op' kind kind' count rank given p q w = refl
same_result Split r r' op op' kind kind' count rank given p q w = refl
same_result Free r r' op op' kind kind' count rank given p q w = refl

-- calls that agree give each member the same
pub agree-result_of : (a b : Coll) (rank : ℕ) (given : Given) → agree a b ≡ true → result_of a rank given ≡ result_of b rank given
agree-result_of a b rank given h =
    let s = Alike-from_agree a b h in
    same_result a.what a.root b.root a.op b.op a.kind b.kind (nat_abs (count_of a)) rank given s.root s.op s.kind
    ∙ (ap (λ what. result_in what (is_root b rank) (nat_abs b.root) b.op b.kind (nat_abs (count_of a)) rank given) s.what
    ∙ ap (λ n. result_in b.what (is_root b rank) (nat_abs b.root) b.op b.kind (nat_abs n) rank given) s.count)
