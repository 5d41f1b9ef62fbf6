use Rattle.std.proofs.Common.{◌≡◌, ap, sym, ◌∙◌, Some, None, arith, refl}
use Rattle.std.specs.Option.{option_map}
use Rattle.mpc_base.proofs.StoreLemmas.{get_file, content_at}
use Rattle.mpc_base.proofs.mem_files.MemFiles.content.Goals as goal

pub returns-in_default-clause-content : goal.returns-in_default-clause-content
returns-in_default-clause-content c =
    let none : content_at c.self.inside.files.entries c.args.name.now ≡ None = sym c.in_default.ensures.value in
    rw (← c.self.view_is) (get_file c.self.inside.files.entries c.args.name.now ∙ ap (option_map (λ v. v.items)) none)

pub returns-then-len-limit-clause-content : goal.returns-then-len-limit-clause-content
returns-then-len-limit-clause-content c =
    let some : content_at c.self.inside.files.entries c.args.name.now ≡ Some c.in-Some.content.now = sym c.in-Some.ensures.value in
    let held = get_file c.self.inside.files.entries c.args.name.now ∙ ap (option_map (λ v. v.items)) some in
    rw (← c.self.view_is, held) (omega (arith, c.if-len-limit.true, c.len.ensures, c.in-Some.content.now.ok.0))

pub returns-in-Ok-clause-content : goal.returns-in-Ok-clause-content
returns-in-Ok-clause-content c =
    let some : content_at c.self.inside.files.entries c.args.name.now ≡ Some c.in-Some.content.now = sym c.in-Some.ensures.value in
    let held = get_file c.self.inside.files.entries c.args.name.now ∙ ap (option_map (λ v. v.items)) some in
    let same = c.in-Ok.ensures.items ∙ c.as_slice.ensures.value in
    (rw (← c.self.view_is, held, same) refl, rw same (omega (arith, c.if-len-limit.false, c.len.ensures, c.in-Some.content.now.ok.0)))
