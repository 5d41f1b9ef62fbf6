use Rattle.mpc_base.proofs.StoreLemmas.{put_file}
use Rattle.mpc_base.proofs.mem_files.MemFiles.put.Goals as goal

pub returns-clause-ok : goal.returns-clause-ok
returns-clause-ok c =
    rw (← c.self.view_is, ← c.in_ok-name.ensures.ok, ← c.in_ok-content.ensures.items)
    (put_file c.self.inside.files c.insert.new.self _ c.in_ok-content.content c.in_ok-insert.ensures.updates)
