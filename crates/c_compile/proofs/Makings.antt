-- Code that is made from its end: what stands in the list of the instructions made.
use Rattle.std.proofs.Common.{◌≡◌, ℕ, suc, ◌+◌, ◌<◌, List, [], ◌∷◌, ◌++◌, length, refl, sym, ap, ◌∙◌, arith, append_assoc, Vec, Global, reverse, take, get_or, set}
use Rattle.std.proofs.lemmas.List.{reverse-reverse, reverse-append, take_more, length-reverse}
use Rattle.std.proofs.Math.Seq.{set-append_seam}
use Rattle.c_tree.specs.declared.program.Expr.{Expr}
use Rattle.c_tree.specs.declared.program.Expr.TheVariants.{Apply}
use Rattle.c_tree.specs.declared.program.Callee.{Callee}
use Rattle.c_tree.specs.declared.program.Callee.TheVariants.{Print}
use Rattle.c_tree.specs.declared.formats.Piece.{Piece}
use Rattle.c_code.specs.declared.printing.Printing.{Printing}
use Rattle.c_tree.specs.ProgramOf.{expr_of, exprs_of}
use Rattle.c_tree.proofs.ProgramRows.{apply_is}
use Rattle.c_code.specs.declared.instr.Instr.{Instr}
use Rattle.c_code.specs.declared.instr.Instr.TheVariants as i
use Rattle.c_compile.specs.Compiled.{count_of, expr_code, exprs_code, callee_code, drops}

-- there are as many arguments as expressions in the list
pub counted : (es : List Expr) → count_of (exprs_of es) ≡ length es
counted [] = refl
counted (e ∷ es) = ap suc (counted es)

-- the code of a call that prints
pub print_made : (line n count : ℕ) (callee : Callee) (format copy : List Piece) (printed : Printing) (out made : List Instr) → callee ≡ Print format → copy ≡ format → printed ≡ record { format = copy; count = count } → count ≡ n
    → made ≡ i.Print printed line ∷ out → made ≡ callee_code line callee n ++ out
print_made line n count callee format copy printed out made is same p' c m =
    m
    ∙ ap (λ z. i.Print z line ∷ out) (p' ∙ ap (λ f. record { format = f; count = count }) same ∙ ap (λ k. record { format = format; count = k }) c)
    ∙ ap (λ z. callee_code line z n ++ out) (sym is)

-- a call's code, from that of its arguments
pub apply_made : (line : ℕ) (e : Expr) (callee : Callee) (arguments : Vec Expr Global) (given : List Expr) (n : ℕ) (out called made : List Instr) → e ≡ Apply callee arguments → given ≡ arguments.items → n ≡ length given
    → called ≡ callee_code line callee n ++ out → made ≡ exprs_code line (exprs_of given) ++ called → made ≡ expr_code line (expr_of e) ++ out
apply_made line e callee arguments given n out called made is same len c m =
    let args = exprs_of arguments.items in
    m
    ∙ ap (λ l. exprs_code line (exprs_of l) ++ called) same
    ∙ ap (λ l. exprs_code line args ++ l) (c ∙ ap (λ k. callee_code line callee k ++ out) (len ∙ ap length same ∙ sym (counted arguments.items)))
    ∙ sym (append_assoc (exprs_code line args) (callee_code line callee (count_of args)) out)
    ∙ ap (λ x. expr_code line x ++ out) (sym (ap expr_of is ∙ apply_is callee arguments))

-- another instruction in the place of one
pub mended : (back front rest : List Instr) (x y : Instr) (n : ℕ) → reverse back ≡ front ++ x ∷ rest → length rest ≡ n → reverse (set back n y) ≡ front ++ y ∷ rest
mended back front rest x y n e len =
    let is : back ≡ reverse rest ++ x ∷ reverse front = sym (reverse-reverse back) ∙ ap reverse e ∙ reverse-append front (x ∷ rest) ∙ ap (λ l. l ++ reverse front) (reverse-append (x ∷ []) rest) ∙ append_assoc (reverse rest) (x ∷ []) (reverse front) in
    let long : n ≡ length (reverse rest) = omega (arith, len, length-reverse rest) in
    ap (λ b. reverse (set b n y)) is
    ∙ ap (λ k. reverse (set (reverse rest ++ x ∷ reverse front) k y)) long
    ∙ ap reverse (set-append_seam (reverse rest) x (reverse front) y)
    ∙ reverse-append (reverse rest) (y ∷ reverse front)
    ∙ ap (λ l. reverse (y ∷ reverse front) ++ l) (reverse-reverse rest)
    ∙ ap (λ l. l ++ rest) (reverse-append (y ∷ []) (reverse front) ∙ ap (λ l. l ++ y ∷ []) (reverse-reverse front))
    ∙ append_assoc front (y ∷ []) rest

-- the drops of one local more
pub dropped_more : (line at : ℕ) (slots : List ℕ) (d : ℕ) (out start : List Instr) → at < length slots → out ≡ drops line (reverse (take at slots)) ++ start → i.Release (get_or slots at d) line ∷ out ≡ drops line (reverse (take (at + 1) slots)) ++ start
dropped_more line at slots d out start lt e =
    ap (λ l. i.Release (get_or slots at d) line ∷ l) e
    ∙ ap (λ l. drops line l ++ start) (sym (ap reverse (take_more slots at d lt) ∙ reverse-append (take at slots) (get_or slots at d ∷ [])))
