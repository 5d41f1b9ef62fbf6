use Rattle.std.proofs.Common.{arith}
use Rattle.c_types.proofs.Two.{too_few, too_many}
use Rattle.c_types.proofs.calls.may_start.Goals as goal

pub returns-in_default : goal.returns-in_default
returns-in_default c = too_few c.args.names.now.scopes c.args.arguments.now (omega (arith, c.in_default.len_below))

pub returns-in_default-2 : goal.returns-in_default-2
returns-in_default-2 c = too_many c.args.names.now.scopes c.args.arguments.now (omega (arith, c.in_default.len_at_least))
