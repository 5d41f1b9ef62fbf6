use Rattle.std.proofs.Common.{◌≡◌, ◌+◌, ◌<◌, ◌≤◌, length, get_or, subst, ap, ◌∙◌, arith}
use Rattle.std.proofs.lemmas.List.{get_or_default}
use Rattle.mem_space.specs.Spaces.{Space, made_in}
use Rattle.mem_space.specs.Words.{live_of}
use Rattle.mem_space.proofs.space.Space.words_with.Goals as goal
use Rattle.mem_space.proofs.space.Space.words_with.Goals.{After-index}

-- what is counted of the task
counted_words : (c : After-index) → c.index.result.now ≡ live_of c.self.inside.heap c.args.task (get_or c.self.inside.made.items c.args.task 0)
counted_words c =
    let cores = ap (λ (s : Space). length s.sharing.cores) c.self.view_is in
    let below : c.args.task < length c.self.inside.levels.cores = omega (arith, cores, c.requires) in
    let counted = c.self.invariant.counted in
    c.index.ensures ∙ (get_or_default c.self.inside.used.items c.args.task c.index.result.now 0 (omega (arith, counted.all_used)) ∙ (counted.each c.args.task below).words)

pub returns-then-words-self : goal.returns-then-words-self
returns-then-words-self c =
    let live = counted_words (goal.at.returns-then-words-self c).After-index in
    subst (λ (s : Space). (c.index.result.now + c.args.len ≡ live_of s.heap c.args.task (made_in s c.args.task) + c.args.len) × (c.index.result.now + c.args.len ≤ s.quota)) c.self.view_is
    (omega (arith, live), omega arith)

pub returns-else-words-self : goal.returns-else-words-self
returns-else-words-self c =
    let live = counted_words (goal.at.returns-else-words-self c).After-index in
    subst (λ (s : Space). s.quota < live_of s.heap c.args.task (made_in s c.args.task) + c.args.len) c.self.view_is (omega (arith, live))
