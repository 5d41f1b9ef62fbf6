use Rattle.std.proofs.Common.{◌≡◌, map, sym, ap, ◌∙◌, subst}
use Rattle.c_tree.specs.SyntaxOf.{tree_of}
use Rattle.c_parse.specs.Symbols.{Symbols, sym_of}
use Rattle.c_parse.specs.Parsed.{Spelt, RefusedAt}
use Rattle.c_parse.proofs.OneAnswer.{spelt_by, same_tree, same_refusal, never_both}
use Rattle.c_parse.proofs.Refused.{refused_there}
use Rattle.c_parse.proofs.parser.parse.Goals as goal

pub returns-in-Ok : goal.returns-in-Ok
returns-in-Ok c =
    let src = c.args.src.now in
    let ts = c.args.tokens.now in
    let e : c.new-cursor.result ≡ map (sym_of src) c.in_ok-symbols.symbols.items = c.new-cursor.ensures ∙ ap (map (sym_of src)) c.as_slice.ensures.value in
    let seen : Symbols src ts c.new-cursor.result = subst (Symbols src ts) (sym e) c.in_ok-symbols.ensures in
    let spelt : Spelt src ts (tree_of c.in-Ok.tree) = spelt_by src ts c.new-cursor.result _ _ seen c.in-Ok.ensures in
    record {
      tree = spelt;
      refused = tt;
      only_tree = λ u other. same_tree c.reading_laws.ensures src ts u (tree_of c.in-Ok.tree) other spelt;
      only_refusal = λ q refused. never_both c.reading_laws.ensures src ts (tree_of c.in-Ok.tree) q spelt refused;
    }

pub returns-in-Err-Refused : goal.returns-in-Err-Refused
returns-in-Err-Refused c =
    let src = c.args.src.now in
    let ts = c.args.tokens.now in
    let e : c.new-cursor.result ≡ map (sym_of src) c.in_ok-symbols.symbols.items = c.new-cursor.ensures ∙ ap (map (sym_of src)) c.as_slice.ensures.value in
    let seen : Symbols src ts c.new-cursor.result = subst (Symbols src ts) (sym e) c.in_ok-symbols.ensures in
    let refused : RefusedAt src ts c.refusal.result = subst (RefusedAt src ts) (sym c.refusal.ensures) (refused_there src ts c.new-cursor.result _ seen (rw c.in-Err-Refused.field-0-is at c.in-Err-Refused.ensures)) in
    record {
      tree = tt;
      refused = refused;
      only_tree = λ u spelt. never_both c.reading_laws.ensures src ts u c.refusal.result spelt refused;
      only_refusal = λ q other. same_refusal c.reading_laws.ensures src ts q c.refusal.result other refused;
    }
