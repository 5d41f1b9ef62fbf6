use Rattle.std.proofs.Common.{refl}
use Rattle.mpc_top.proofs.Lines.{wrote_line}
use Rattle.mpc_top.proofs.top.close.Goals as goal

pub returns : goal.returns
returns g c = record {
  status_is = c.status.ensures;
  kept_none = refl;
  line = rw (← c.requires) (wrote_line _ _ c.args.line.now _ _ c.write_all-written.result c.write_all-written.ensures.ok c.write_all-written.ensures.err c.write_all-written.ensures.cause);
}
