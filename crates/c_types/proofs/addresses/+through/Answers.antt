use Rattle.c_types.proofs.Walks.{call_through}
use Rattle.c_types.proofs.addresses.+through.Goals as goal

pub through-returns-in_ok-through_call-in-Call : goal.through-returns-in_ok-through_call-in-Call
through-returns-in_ok-through_call-in-Call t c =
    call_through _ _ _ _ _ _ _ _ c.in-Call.is c.as_slice.ensures c.deref.ensures.value c.in_ok-through_call-in-Call.ensures
