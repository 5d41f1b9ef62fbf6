use Rattle.std.proofs.Common.{◌-◌, drop, arith}
use Rattle.std.proofs.lemmas.List.{drop_all}
use Rattle.std.proofs.lemmas.Result.{IfOk-weaker}
use Rattle.mpc_values.specs.declared.failures.Memory.{Memory}
use Rattle.c_types.specs.declared.nodes.Looked.{Looked}
use Rattle.c_types.specs.Outcomes.{fault}
use Rattle.c_types.specs.Typed as typed
use Rattle.c_types.proofs.CallForms as forms
use Rattle.c_types.proofs.LookSteps.{same_element, special_of, kinds_on, givens_on, first_on, row_first_on, made_on, row_made_on, made_end}
use Rattle.c_types.proofs.expressions.+look.Goals as goal

pub look-returns-in_ok-given-in-Own-clause-kind : goal.look-returns-in_ok-given-in-Own-clause-kind
look-returns-in_ok-given-in-Own-clause-kind t c =
    forms.own_kind c.args.names.now c.args.want c.args.e.now c.in-Call.at c.in-Call.name c.as_slice-in-Call.result.now c.in-Call.arguments c.deref-in-Own.result.now c.meaning.result c.callee_of.result
    c.in-Call.is c.as_slice-in-Call.ensures c.meaning.ensures c.callee_of.ensures c.deref-in-Own.ensures.value c.in-Own.place _ _ c.in-Own.is c.in_ok-given-in-Own.ensures.kinds c.own_call.ensures.kind

pub look-returns-in_ok-given-in-Own-clause-first : goal.look-returns-in_ok-given-in-Own-clause-first
look-returns-in_ok-given-in-Own-clause-first t c =
    forms.own_first c.args.names.now c.args.want c.args.e.now c.in-Call.at c.in-Call.name c.as_slice-in-Call.result.now c.in-Call.arguments c.deref-in-Own.result.now c.meaning.result c.callee_of.result
    c.in-Call.is c.as_slice-in-Call.ensures c.meaning.ensures c.callee_of.ensures c.deref-in-Own.ensures.value c.in-Own.place _ _ _ c.in-Own.is c.in_ok-given-in-Own.ensures.kinds c.in_ok-given-in-Own.ensures.first c.own_call.ensures.first

pub look-returns-in_ok-given-in-Own-clause-made : goal.look-returns-in_ok-given-in-Own-clause-made
look-returns-in_ok-given-in-Own-clause-made t c =
    forms.own_made c.args.names.now c.args.want c.args.e.now c.in-Call.at c.in-Call.name c.as_slice-in-Call.result.now c.in-Call.arguments c.deref-in-Own.result.now c.meaning.result c.callee_of.result
    c.in-Call.is c.as_slice-in-Call.ensures c.meaning.ensures c.callee_of.ensures c.deref-in-Own.ensures.value c.in-Own.place c.own_params-params.result.now c.in_ok-given-in-Own.given.made c.own_call.result.made c.in-Own.is c.own_params-params.ensures c.in_ok-given-in-Own.ensures.made c.own_call.ensures.made

pub look-returns-in_ok-given-in-Mpi-clause-kind : goal.look-returns-in_ok-given-in-Mpi-clause-kind
look-returns-in_ok-given-in-Mpi-clause-kind t c =
    forms.mpi_kind c.args.names.now c.args.want c.args.e.now c.in-Call.at c.in-Call.name c.as_slice-in-Call.result.now c.in-Call.arguments c.deref-in-Mpi.result.now c.meaning.result c.callee_of.result
    c.in-Call.is c.as_slice-in-Call.ensures c.meaning.ensures c.callee_of.ensures c.deref-in-Mpi.ensures.value c.in-Mpi.function c.deref-in-Mpi-2.result.now _ _ c.in-Mpi.is c.deref-in-Mpi-2.ensures.value c.in_ok-given-in-Mpi.ensures.givens c.mpi_call.ensures.kind

pub look-returns-in_ok-given-in-Mpi-clause-first : goal.look-returns-in_ok-given-in-Mpi-clause-first
look-returns-in_ok-given-in-Mpi-clause-first t c =
    forms.mpi_first c.args.names.now c.args.want c.args.e.now c.in-Call.at c.in-Call.name c.as_slice-in-Call.result.now c.in-Call.arguments c.deref-in-Mpi.result.now c.meaning.result c.callee_of.result
    c.in-Call.is c.as_slice-in-Call.ensures c.meaning.ensures c.callee_of.ensures c.deref-in-Mpi.ensures.value c.in-Mpi.function c.deref-in-Mpi-2.result.now _ _ _ c.in-Mpi.is c.deref-in-Mpi-2.ensures.value c.in_ok-given-in-Mpi.ensures.givens c.in_ok-given-in-Mpi.ensures.first c.mpi_call.ensures.first

pub look-returns-in_ok-given-in-Mpi-clause-made : goal.look-returns-in_ok-given-in-Mpi-clause-made
look-returns-in_ok-given-in-Mpi-clause-made t c =
    forms.mpi_made c.args.names.now c.args.want c.args.e.now c.in-Call.at c.in-Call.name c.as_slice-in-Call.result.now c.in-Call.arguments c.deref-in-Mpi.result.now c.meaning.result c.callee_of.result
    c.in-Call.is c.as_slice-in-Call.ensures c.meaning.ensures c.callee_of.ensures c.deref-in-Mpi.ensures.value c.in-Mpi.function c.arguments.result.now c.in_ok-given-in-Mpi.given.givens.items c.in_ok-given-in-Mpi.given.made c.mpi_call.result.made c.in-Mpi.is c.arguments.ensures c.in_ok-given-in-Mpi.ensures.givens c.in_ok-given-in-Mpi.ensures.made c.mpi_call.ensures.made

pub look-returns-in_ok-given-in-Printf-clause-kind : goal.look-returns-in_ok-given-in-Printf-clause-kind
look-returns-in_ok-given-in-Printf-clause-kind t c =
    IfOk-weaker {X = Looked} {Y = Memory} _ _ _ (λ (r : Looked) h. forms.printf_kind c.args.names.now c.args.want c.args.e.now c.in-Call.at c.in-Call.name c.as_slice-in-Call.result.now c.in-Call.arguments c.deref-in-Printf.result.now c.meaning.result c.callee_of.result
    c.in-Call.is c.as_slice-in-Call.ensures c.meaning.ensures c.callee_of.ensures c.deref-in-Printf.ensures.value c.deref-in-Printf-2.result.now c.in_ok-given-in-Printf.given.kinds.items r.kind c.in-Printf.is c.deref-in-Printf-2.ensures.value c.in_ok-given-in-Printf.ensures.kinds h) c.printf_call.ensures.kind

pub look-returns-in_ok-given-in-Printf-clause-first : goal.look-returns-in_ok-given-in-Printf-clause-first
look-returns-in_ok-given-in-Printf-clause-first t c =
    IfOk-weaker {X = Looked} {Y = Memory} _ _ _ (λ (r : Looked) h. forms.printf_first c.args.names.now c.args.want c.args.e.now c.in-Call.at c.in-Call.name c.as_slice-in-Call.result.now c.in-Call.arguments c.deref-in-Printf.result.now c.meaning.result c.callee_of.result
    c.in-Call.is c.as_slice-in-Call.ensures c.meaning.ensures c.callee_of.ensures c.deref-in-Printf.ensures.value c.deref-in-Printf-2.result.now c.in_ok-given-in-Printf.given.kinds.items (fault c.in_ok-given-in-Printf.given.made) (fault r.made) c.in-Printf.is c.deref-in-Printf-2.ensures.value c.in_ok-given-in-Printf.ensures.kinds c.in_ok-given-in-Printf.ensures.first h) c.printf_call.ensures.first

pub look-returns-in_ok-given-in-Printf-clause-made : goal.look-returns-in_ok-given-in-Printf-clause-made
look-returns-in_ok-given-in-Printf-clause-made t c =
    IfOk-weaker {X = Looked} {Y = Memory} _ _ _ (λ (r : Looked) h. forms.printf_made c.args.names.now c.args.want c.args.e.now c.in-Call.at c.in-Call.name c.as_slice-in-Call.result.now c.in-Call.arguments c.deref-in-Printf.result.now c.meaning.result c.callee_of.result
    c.in-Call.is c.as_slice-in-Call.ensures c.meaning.ensures c.callee_of.ensures c.deref-in-Printf.ensures.value c.deref-in-Printf-2.result.now c.in_ok-given-in-Printf.given.made r.made c.in-Printf.is c.deref-in-Printf-2.ensures.value c.in_ok-given-in-Printf.ensures.made h) c.printf_call.ensures.made

pub look-returns-in_ok-given-in-Malloc-clause-kind : goal.look-returns-in_ok-given-in-Malloc-clause-kind
look-returns-in_ok-given-in-Malloc-clause-kind t c =
    IfOk-weaker {X = Looked} {Y = Memory} _ _ _ (λ (r : Looked) h. forms.malloc_kind c.args.names.now c.args.want c.args.e.now c.in-Call.at c.in-Call.name c.as_slice-in-Call.result.now c.in-Call.arguments c.deref-in-Malloc.result.now c.meaning.result c.callee_of.result
    c.in-Call.is c.as_slice-in-Call.ensures c.meaning.ensures c.callee_of.ensures c.deref-in-Malloc.ensures.value c.in_ok-given-in-Malloc.given.kinds.items r.kind c.in-Malloc.is c.in_ok-given-in-Malloc.ensures.kinds h) c.malloc_call.ensures.kind

pub look-returns-in_ok-given-in-Malloc-clause-first : goal.look-returns-in_ok-given-in-Malloc-clause-first
look-returns-in_ok-given-in-Malloc-clause-first t c =
    IfOk-weaker {X = Looked} {Y = Memory} _ _ _ (λ (r : Looked) h. forms.malloc_first c.args.names.now c.args.want c.args.e.now c.in-Call.at c.in-Call.name c.as_slice-in-Call.result.now c.in-Call.arguments c.deref-in-Malloc.result.now c.meaning.result c.callee_of.result
    c.in-Call.is c.as_slice-in-Call.ensures c.meaning.ensures c.callee_of.ensures c.deref-in-Malloc.ensures.value c.in_ok-given-in-Malloc.given.kinds.items (fault c.in_ok-given-in-Malloc.given.made) (fault r.made) c.in-Malloc.is c.in_ok-given-in-Malloc.ensures.kinds c.in_ok-given-in-Malloc.ensures.first h) c.malloc_call.ensures.first

pub look-returns-in_ok-given-in-Malloc-clause-made : goal.look-returns-in_ok-given-in-Malloc-clause-made
look-returns-in_ok-given-in-Malloc-clause-made t c =
    IfOk-weaker {X = Looked} {Y = Memory} _ _ _ (λ (r : Looked) h. forms.malloc_made c.args.names.now c.args.want c.args.e.now c.in-Call.at c.in-Call.name c.as_slice-in-Call.result.now c.in-Call.arguments c.deref-in-Malloc.result.now c.meaning.result c.callee_of.result
    c.in-Call.is c.as_slice-in-Call.ensures c.meaning.ensures c.callee_of.ensures c.deref-in-Malloc.ensures.value c.in_ok-given-in-Malloc.given.made r.made c.in-Malloc.is c.in_ok-given-in-Malloc.ensures.made h) c.malloc_call.ensures.made

pub look-returns-in_ok-given-in-Free-clause-kind : goal.look-returns-in_ok-given-in-Free-clause-kind
look-returns-in_ok-given-in-Free-clause-kind t c =
    IfOk-weaker {X = Looked} {Y = Memory} _ _ _ (λ (r : Looked) h. forms.free_kind c.args.names.now c.args.want c.args.e.now c.in-Call.at c.in-Call.name c.as_slice-in-Call.result.now c.in-Call.arguments c.deref-in-Free.result.now c.meaning.result c.callee_of.result
    c.in-Call.is c.as_slice-in-Call.ensures c.meaning.ensures c.callee_of.ensures c.deref-in-Free.ensures.value c.in_ok-given-in-Free.given.kinds.items r.kind c.in-Free.is c.in_ok-given-in-Free.ensures.kinds h) c.free_call.ensures.kind

pub look-returns-in_ok-given-in-Free-clause-first : goal.look-returns-in_ok-given-in-Free-clause-first
look-returns-in_ok-given-in-Free-clause-first t c =
    IfOk-weaker {X = Looked} {Y = Memory} _ _ _ (λ (r : Looked) h. forms.free_first c.args.names.now c.args.want c.args.e.now c.in-Call.at c.in-Call.name c.as_slice-in-Call.result.now c.in-Call.arguments c.deref-in-Free.result.now c.meaning.result c.callee_of.result
    c.in-Call.is c.as_slice-in-Call.ensures c.meaning.ensures c.callee_of.ensures c.deref-in-Free.ensures.value c.in_ok-given-in-Free.given.kinds.items (fault c.in_ok-given-in-Free.given.made) (fault r.made) c.in-Free.is c.in_ok-given-in-Free.ensures.kinds c.in_ok-given-in-Free.ensures.first h) c.free_call.ensures.first

pub look-returns-in_ok-given-in-Free-clause-made : goal.look-returns-in_ok-given-in-Free-clause-made
look-returns-in_ok-given-in-Free-clause-made t c =
    IfOk-weaker {X = Looked} {Y = Memory} _ _ _ (λ (r : Looked) h. forms.free_made c.args.names.now c.args.want c.args.e.now c.in-Call.at c.in-Call.name c.as_slice-in-Call.result.now c.in-Call.arguments c.deref-in-Free.result.now c.meaning.result c.callee_of.result
    c.in-Call.is c.as_slice-in-Call.ensures c.meaning.ensures c.callee_of.ensures c.deref-in-Free.ensures.value c.in_ok-given-in-Free.given.made r.made c.in-Free.is c.in_ok-given-in-Free.ensures.made h) c.free_call.ensures.made

pub look-returns-in_ok-given-in-Nothing-clause-kind : goal.look-returns-in_ok-given-in-Nothing-clause-kind
look-returns-in_ok-given-in-Nothing-clause-kind t c =
    forms.nothing_kind c.args.names.now c.args.want c.args.e.now c.in-Call.at c.in-Call.name c.as_slice-in-Call.result.now c.in-Call.arguments c.deref-in-Nothing.result.now c.meaning.result c.callee_of.result
    c.in-Call.is c.as_slice-in-Call.ensures c.meaning.ensures c.callee_of.ensures c.deref-in-Nothing.ensures.value _ c.in-Nothing.is c.no_call.ensures.kind

pub look-returns-in_ok-given-in-Nothing-clause-first : goal.look-returns-in_ok-given-in-Nothing-clause-first
look-returns-in_ok-given-in-Nothing-clause-first t c =
    forms.nothing_first c.args.names.now c.args.want c.args.e.now c.in-Call.at c.in-Call.name c.as_slice-in-Call.result.now c.in-Call.arguments c.deref-in-Nothing.result.now c.meaning.result c.callee_of.result
    c.in-Call.is c.as_slice-in-Call.ensures c.meaning.ensures c.callee_of.ensures c.deref-in-Nothing.ensures.value _ _ c.in-Nothing.is c.in_ok-given-in-Nothing.ensures.first c.no_call.ensures.first

pub look-returns-in_ok-given-in-Nothing-clause-made : goal.look-returns-in_ok-given-in-Nothing-clause-made
look-returns-in_ok-given-in-Nothing-clause-made t c =
    forms.nothing_is_made c.args.names.now c.args.want c.args.e.now c.in-Call.at c.in-Call.name c.as_slice-in-Call.result.now c.in-Call.arguments c.deref-in-Nothing.result.now c.meaning.result c.callee_of.result
    c.in-Call.is c.as_slice-in-Call.ensures c.meaning.ensures c.callee_of.ensures c.deref-in-Nothing.ensures.value c.no_call.result.made c.in-Nothing.is c.no_call.ensures.made

pub look_every-loop-i-preserved : goal.look_every-loop-i-preserved
look_every-loop-i-preserved t c = record {
  from = omega (arith, c.loop-i.invariant.from);
  kinds = kinds_on c.args.names.now _ _ c.index-arguments-i.result _ _ _ _ c.loop-i-test.true c.index-arguments-i.is c.in_ok-push.ensures.items c.in_ok-x.ensures.kind c.loop-i.invariant.kinds;
  first = first_on c.args.names.now _ _ c.index-arguments-i.result _ _ _ _ c.loop-i-test.true c.index-arguments-i.is c.in_ok-made.ensures.refused c.in_ok-x.ensures.first c.loop-i.invariant.first;
  made = made_on c.args.names.now c.args.arguments.now c.loop-i.i c.args.from c.index-arguments-i.result c.args.params.now c.loop-i.made c.in_ok-made.made c.in_ok-x.x.made c.param_at.result c.in_ok-x.x.kind _
      c.loop-i-test.true c.index-arguments-i.is c.loop-i.invariant.from c.param_at.ensures c.in_ok-x.ensures.kind c.in_ok-x.ensures.made c.in_ok-made.ensures.made c.loop-i.invariant.made;
}

pub look_every-returns-clause-made : goal.look_every-returns-clause-made
look_every-returns-clause-made t c =
    made_end c.args.names.now (typed.Own (drop (c.loop-i.i - c.args.from) c.args.params.now)) (drop c.loop-i.i c.args.arguments.now) c.loop-i.made _ (drop_all _ _ c.loop-i-test.false) c.loop-i.invariant.made

pub look_row-loop-i-preserved : goal.look_row-loop-i-preserved
look_row-loop-i-preserved t c =
    let element = same_element c.args.arguments.now c.loop-i.i c.index-arguments-i.result c.index-arguments-i-in-loop-i.result c.loop-i-test.true c.index-arguments-i.is c.index-arguments-i-in-loop-i.is in
    let is_special = special_of c.args.names.now.scopes c.index-arguments-i.result c.index-arguments-i-in-loop-i.result c.special-special.result element c.special-special.ensures in
    record {
      givens = givens_on c.args.names.now _ _ c.index-arguments-i.result _ _ c.special-special.result c.in_ok-x.x.kind c.or_typed.result _ c.loop-i-test.true c.index-arguments-i.is c.in_ok-push.ensures.items
          c.or_typed.ensures is_special c.in_ok-x.ensures.kind c.loop-i.invariant.givens;
      first = row_first_on c.args.names.now _ _ c.index-arguments-i.result c.special-special.result _ _ _ _ c.loop-i-test.true c.index-arguments-i.is c.in_ok-made.ensures.refused is_special
          c.in_ok-x.ensures.first c.loop-i.invariant.first;
      made = row_made_on c.args.names.now c.args.arguments.now c.loop-i.i c.index-arguments-i.result c.args.row.now c.loop-i.made c.in_ok-made.made c.in_ok-x.x.made c.special-special.result c.row_due.result c.in_ok-x.x.kind _
          c.loop-i-test.true c.index-arguments-i.is is_special c.row_due.ensures c.in_ok-x.ensures.kind c.in_ok-x.ensures.made c.in_ok-made.ensures.made c.loop-i.invariant.made;
    }

pub look_row-returns-clause-made : goal.look_row-returns-clause-made
look_row-returns-clause-made t c =
    made_end c.args.names.now (typed.Row (drop c.loop-i.i c.args.row.now)) (drop c.loop-i.i c.args.arguments.now) c.loop-i.made _ (drop_all _ _ c.loop-i-test.false) c.loop-i.invariant.made
