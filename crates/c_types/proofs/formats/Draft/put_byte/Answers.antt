use Rattle.c_types.proofs.DraftSteps.{byte_put}
use Rattle.c_types.proofs.formats.Draft.put_byte.Goals as goal

pub returns : goal.returns
returns c = byte_put c.args.self.now _ _ c.in_ok-push.ensures.items
