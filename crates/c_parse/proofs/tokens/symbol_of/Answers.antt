use Rattle.std.proofs.Common.{◌≡◌, [], w64, sym, ap, ◌∙◌, subst, rules}
use Rattle.std.proofs.lemmas.Int.{to_z-of_z}
use mir.Val.{to_z, of_z}
use Rattle.c_parse.specs.declared.symbols.Class.TheVariants as class
use Rattle.c_parse.specs.Seen.{made}
use Rattle.c_parse.specs.Symbols as spec
use Rattle.c_parse.specs.Symbols.{Shows, as_name, as_number, as_text, as_key, as_sign}
use Rattle.c_parse.proofs.Shown.{sees_some}
use Rattle.c_parse.proofs.tokens.symbol_of.Goals as goal

pub returns-in-Name : goal.returns-in-Name
returns-in-Name c = sees_some _ _ _ _ _ c.alone.ensures (as_name c.in-Name.is)

pub returns-in-Text : goal.returns-in-Text
returns-in-Text c = sees_some _ _ _ _ _ c.alone-in-Text.ensures (as_text c.in-Text.is)

pub returns-in-Key : goal.returns-in-Key
returns-in-Key c =
    let class = spec.key_class c.in-Key.key in
    sees_some c.args.src.now c.args.token class [] _ (c.alone-in-Key.ensures ∙ ap (λ d. made c.args.token d []) c.key_class.ensures) (as_key c.in-Key.key c.in-Key.is)

pub returns-in-Sign : goal.returns-in-Sign
returns-in-Sign c =
    let class = spec.sign_class c.in-Sign.sign in
    sees_some c.args.src.now c.args.token class [] _ (c.alone-in-Sign.ensures ∙ ap (λ d. made c.args.token d []) c.sign_class.ensures) (as_sign c.in-Sign.sign c.in-Sign.is)

pub returns-in-Number : goal.returns-in-Number
returns-in-Number c =
    let e : to_z w64 (of_z w64 c.in-Number.value) ≡ c.in-Number.value = to_z-of_z w64 c.in-Number.value (search rules) in
    let h : Shows c.args.src.now c.args.token (class.Number (to_z w64 (of_z w64 c.in-Number.value)) c.in-Number.long) [] =
    subst (λ v. Shows c.args.src.now c.args.token (class.Number v c.in-Number.long) []) (sym e) (as_number c.in-Number.value c.in-Number.long c.in-Number.is) in
    sees_some c.args.src.now c.args.token _ _ _ c.alone-in-Number.ensures h
