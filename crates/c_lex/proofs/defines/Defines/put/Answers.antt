use Rattle.std.proofs.Common.{Some}
use Rattle.std.proofs.lemmas.Map.Text.{btree_map_updates_str}
use Rattle.c_lex.proofs.defines.Defines.put.Goals as goal

pub returns : goal.returns
returns c = λ i name. btree_map_updates_str c.args.name.now c.args.self.now.numbers c.insert.new.self (Some c.args.number) c.in_ok-insert.ensures.updates name i
