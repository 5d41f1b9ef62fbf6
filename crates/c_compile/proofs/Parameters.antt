-- The parameters in memory of a function, whose code is made from the last to the first.
use Rattle.std.proofs.Common.{◌≡◌, ℕ, suc, ◌+◌, ◌-◌, ◌<◌, ◌≤◌, Bool, true, false, List, [], ◌∷◌, ◌++◌, length, sym, ap, ◌∙◌, subst, arith, append_assoc, length-append, drop, take, get_or}
use Rattle.std.proofs.lemmas.List.{take_more, length-take}
use Rattle.std.proofs.Math.Seq.{drop-cons, drop-length, take-length}
use Rattle.c_code.specs.declared.instr.Instr.{Instr}
use Rattle.c_code.specs.declared.instr.Instr.TheVariants as i
use Rattle.std.proofs.Common.{pos}
use Rattle.std.specs.Prelude.{slice_get}
use Rattle.mpc_values.specs.declared.values.Word.TheVariants.{Int}
use Rattle.c_tree.specs.declared.program.Function.{Function}
use Rattle.c_tree.specs.declared.program.Stmt.{Stmt}
use Rattle.c_tree.specs.Programs as p
use Rattle.c_tree.specs.ProgramOf.{function_of, stmts_of}
use Rattle.c_code.specs.declared.code.Entry.{Entry}
use Rattle.c_code.specs.FlatCode.{FlatCode, flat}
use Rattle.c_code.specs.Following.{NeverSticks}
use Rattle.c_compile.specs.Correct.{compiled, Behaves, HasMain}
use Rattle.c_compile.proofs.Functions.{behaves, never_sticks}
use Rattle.c_compile.specs.Compiled.{Place, outside, params_code, items_code, ending_code, function_code, functions_code, entries_from, params_of}
use Rattle.c_compile.specs.Standing.{Standing, Fits, place_of, with_opened, closing, opened_place, in_memory}
use Rattle.c_compile.proofs.Blocks.{closed_both, opened_both, opened_on, closing_length, all_inside}

-- one parameter more
last_in_memory : (slot : ℕ) (xs : List Bool) (b : Bool) → in_memory slot (xs ++ b ∷ []) ≡ in_memory slot xs ++ in_memory (slot + length xs) (b ∷ [])
last_in_memory slot [] b = let e : slot ≡ slot + 0 = omega arith in ap (λ n. in_memory n (b ∷ [])) e
last_in_memory slot (false ∷ xs) b = let e : suc slot + length xs ≡ slot + length (false ∷ xs) = omega arith in last_in_memory (suc slot) xs b ∙ ap (λ n. in_memory (suc slot) xs ++ in_memory n (b ∷ [])) e
last_in_memory slot (true ∷ xs) b =
    let e : suc slot + length xs ≡ slot + length (true ∷ xs) = omega arith in
    ap (λ l. slot ∷ l) (last_in_memory (suc slot) xs b ∙ ap (λ n. in_memory (suc slot) xs ++ in_memory n (b ∷ [])) e)

taken_in_memory : (params : List Bool) (k : ℕ) (b d : Bool) → k < length params → b ≡ get_or params k d → in_memory 0 (take (k + 1) params) ≡ in_memory 0 (take k params) ++ in_memory k (b ∷ [])
taken_in_memory params k b d lt is =
    let n : 0 + length (take k params) ≡ k = omega (arith, length-take k params, lt) in
    ap (in_memory 0) (take_more params k d lt) ∙ last_in_memory 0 (take k params) (get_or params k d) ∙ ap (λ m. in_memory 0 (take k params) ++ in_memory m (get_or params k d ∷ [])) n
    ∙ ap (λ z. in_memory 0 (take k params) ++ in_memory k (z ∷ [])) (sym is)

pub param_closed : (end k slot : ℕ) (params : List Bool) (b d : Bool) (out made start : List Instr) → k < length params → b ≡ get_or params k d → slot ≡ k → out ≡ closing end (in_memory 0 (take k params)) ++ start
    → made ≡ closing end (in_memory slot (b ∷ [])) ++ out → made ≡ closing end (in_memory 0 (take (k + 1) params)) ++ start
param_closed end k slot params b d out made start lt is at o m =
    let one = in_memory k (b ∷ []) in
    let all = in_memory 0 (take k params) in
    m ∙ ap (λ n. closing end (in_memory n (b ∷ [])) ++ out) at ∙ ap (λ l. closing end one ++ l) o ∙ sym (append_assoc (closing end one) (closing end all) start) ∙ ap (λ l. l ++ start) (sym (closed_both end all one))
    ∙ ap (λ l. closing end l ++ start) (sym (taken_in_memory params k b d lt is))

pub param_opened : (k slot : ℕ) (params : List Bool) (b d : Bool) (s now new : Standing) → k < length params → b ≡ get_or params k d → slot ≡ k → now ≡ with_opened s (in_memory 0 (take k params))
    → new ≡ with_opened now (in_memory slot (b ∷ [])) → new ≡ with_opened s (in_memory 0 (take (k + 1) params))
param_opened k slot params b d s now new lt is at n m =
    m ∙ ap (λ j. with_opened now (in_memory j (b ∷ []))) at ∙ ap (λ z. with_opened z (in_memory k (b ∷ []))) n ∙ opened_both s (in_memory 0 (take k params)) (in_memory k (b ∷ []))
    ∙ ap (with_opened s) (sym (taken_in_memory params k b d lt is))

-- What is made of the parameters from one on, whatever stands behind them.
pub record Saved (params : List Bool) (first : List Instr) (begun : Standing) (left : ℕ) (out : List Instr) (now : Standing) : Type 0 where
  pub within : left ≤ length params
  pub is : (s : Standing) (end : ℕ) (place : Place) (body : Place → List Instr) (behind : List Instr) → begun ≡ with_opened s (in_memory 0 params) → first ≡ body (opened_place (in_memory 0 params) place) ++ (closing end (in_memory 0 params) ++ behind)
      → (out ≡ params_code end left (drop left params) (opened_place (in_memory 0 (take left params)) place) body ++ (closing end (in_memory 0 (take left params)) ++ behind)) × (now ≡ with_opened s (in_memory 0 (take left params)))

-- Before the last one.
pub saved_none : (params : List Bool) (first : List Instr) (begun : Standing) → Saved params first begun (length params) first begun
saved_none params first begun = record {
  within = omega arith;
  is = λ s end place body behind b f.
      let all = take-length params in
      let none = drop-length params in (
        f
            ∙ ap (λ l. params_code end (length params) l (opened_place (in_memory 0 params) place) body ++ (closing end (in_memory 0 params) ++ behind)) (sym none)
            ∙ ap (λ l. params_code end (length params) (drop (length params) params) (opened_place (in_memory 0 l) place) body ++ (closing end (in_memory 0 l) ++ behind)) (sym all),
        b ∙ ap (λ l. with_opened s (in_memory 0 l)) (sym all),
      );
}

-- One more.
pub saved_more : (params : List Bool) (first out made : List Instr) (begun now new : Standing) (left k slot : ℕ) (b e' : Bool) → left ≡ suc k → slot ≡ k → b ≡ get_or params k e' → Saved params first begun left out now
    → ((s : Standing) (end : ℕ) (more : List Bool) (place : Place) (body : Place → List Instr) (behind : List Instr) → now ≡ with_opened s (in_memory slot (b ∷ []))
    → out ≡ params_code end (suc slot) more (opened_place (in_memory slot (b ∷ [])) place) body ++ (closing end (in_memory slot (b ∷ [])) ++ behind) → (made ≡ params_code end slot (b ∷ more) place body ++ behind) × (new ≡ s))
    → Saved params first begun k made new
saved_more params first out made begun now new left k slot b e' is at at_b m put = record {
  within = let w = m.within in omega (arith, is, w);
  is = λ s end place body behind e f.
      let w = m.within in
      let lt : k < length params = omega (arith, is, w) in
      let old = m.is s end place body behind e f in
      let d = in_memory 0 (take k params) in
      let one = in_memory slot (b ∷ []) in
      let d_is : in_memory 0 (take left params) ≡ d ++ one =
      let n : left ≡ k + 1 = omega (arith, is) in
      ap (λ j. in_memory 0 (take j params)) n ∙ taken_in_memory params k b e' lt at_b ∙ ap (λ j. d ++ in_memory j (b ∷ [])) (sym at) in
      let n : left ≡ suc slot = omega (arith, is, at) in
      let out_is : out ≡ params_code end (suc slot) (drop left params) (opened_place one (opened_place d place)) body ++ (closing end one ++ (closing end d ++ behind)) =
      old.0
      ∙ ap (λ j. params_code end j (drop left params) (opened_place (in_memory 0 (take left params)) place) body ++ (closing end (in_memory 0 (take left params)) ++ behind)) n
      ∙ ap (λ z. params_code end (suc slot) (drop left params) (opened_place z place) body ++ (closing end z ++ behind)) d_is
      ∙ ap (λ z. params_code end (suc slot) (drop left params) z body ++ (closing end (d ++ one) ++ behind)) (opened_on d one place)
      ∙ ap (λ z. params_code end (suc slot) (drop left params) (opened_place one (opened_place d place)) body ++ z) (ap (λ z. z ++ behind) (closed_both end d one) ∙ append_assoc (closing end one) (closing end d) behind) in
      let done = put (with_opened s d) end (drop left params) (opened_place d place) body (closing end d ++ behind) (old.1 ∙ ap (with_opened s) d_is ∙ sym (opened_both s d one)) out_is in
      let front : drop k params ≡ b ∷ drop left params = drop-cons params k e' lt ∙ ap (λ z. z ∷ drop (suc k) params) (sym at_b) ∙ ap (λ j. b ∷ drop j params) (sym is) in (
        done.0
            ∙ ap (λ j. params_code end j (b ∷ drop left params) (opened_place d place) body ++ (closing end d ++ behind)) at
            ∙ ap (λ l. params_code end k l (opened_place d place) body ++ (closing end d ++ behind)) (sym front),
        done.1,
      );
}

-- A function's body stands in nothing.
pub outside_place : (made : ℕ) → place_of (record { exit = made; again = made; opened = []; outside = 0 }) made ≡ outside
outside_place made = let e : made - made ≡ 0 = omega arith in ap (λ n. record { exit = n; again = n; in_loop = []; in_function = [] }) e

-- All parameters.
pub saved_all : (params : List Bool) (first out : List Instr) (begun now : Standing) (left : ℕ) → left ≡ 0 → Saved params first begun left out now → (s : Standing) (end : ℕ) (place : Place) (body : Place → List Instr) (behind : List Instr)
    → begun ≡ with_opened s (in_memory 0 params) → first ≡ body (opened_place (in_memory 0 params) place) ++ (closing end (in_memory 0 params) ++ behind) → out ≡ params_code end 0 params place body ++ behind
saved_all params first out begun now left is m s end place body behind b f =
    (m.is s end place body behind b f).0 ∙ ap (λ n. params_code end n (drop n params) (opened_place (in_memory 0 (take n params)) place) body ++ (closing end (in_memory 0 (take n params)) ++ behind)) is

-- A function's code, from that of its parameters and its body.
pub function_put : (f : Function) (params : List Bool) (items : List Stmt) (start returned pushed dropped bodied made : List Instr) (n : ℕ) (first opened after : Standing) → params ≡ f.params → items ≡ f.body.items → returned ≡ i.Return f.end_line ∷ start
    → pushed ≡ i.Push (Int (pos 0)) ∷ returned → n ≡ length pushed → first ≡ record { exit = n; again = n; opened = []; outside = 0 } → dropped ≡ closing f.end_line (in_memory 0 params) ++ pushed → opened ≡ with_opened first (in_memory 0 params)
    → bodied ≡ items_code f.end_line (ending_code f.ending f.end_line) (stmts_of items) (place_of opened (length dropped)) ++ dropped → after ≡ opened
    → ((s : Standing) (end : ℕ) (place : Place) (body : Place → List Instr) (behind : List Instr) → after ≡ with_opened s (in_memory 0 params) → bodied ≡ body (opened_place (in_memory 0 params) place) ++ (closing end (in_memory 0 params) ++ behind)
    → made ≡ params_code end 0 params place body ++ behind)
    → made ≡ function_code (function_of f) ++ start
function_put f params items start returned pushed dropped bodied made n first opened after same_params same_items r q len at d o b a put =
    let end = f.end_line in
    let d' = in_memory 0 params in
    let body : Place → List Instr = items_code end (ending_code f.ending end) (stmts_of items) in
    let is_out : place_of first (length pushed) ≡ outside = ap (λ z. place_of z (length pushed)) at ∙ ap (λ k. place_of (record { exit = k; again = k; opened = []; outside = 0 }) (length pushed)) len ∙ outside_place (length pushed) in
    let fits : Fits first (length pushed) = subst (λ z. Fits z (length pushed)) (sym at) (record { exit = omega (arith, len); again = omega (arith, len); outside = omega arith }) in
    let long : length dropped ≡ length d' + length pushed = ap length d ∙ length-append (closing end d') pushed ∙ ap (λ k. k + length pushed) (closing_length end d') in
    let place : place_of opened (length dropped) ≡ opened_place d' outside =
    ap (λ z. place_of z (length dropped)) o ∙ ap (place_of (with_opened first d')) long ∙ all_inside d' first (length pushed) fits ∙ ap (opened_place d') is_out in
    let bodied_is : bodied ≡ body (opened_place d' outside) ++ (closing end d' ++ pushed) = b ∙ ap (λ z. body z ++ dropped) place ∙ ap (λ z. body (opened_place d' outside) ++ z) d in
    put first end outside body pushed (a ∙ o) bodied_is
    ∙ ap (λ z. params_code end 0 params outside body ++ z) (q ∙ ap (λ z. i.Push (Int (pos 0)) ∷ z) r)
    ∙ sym (append_assoc (params_code end 0 params outside body) (i.Push (Int (pos 0)) ∷ i.Return end ∷ []) start)
    ∙ ap (λ l. (params_code end 0 params outside (items_code end (ending_code f.ending end) (stmts_of l)) ++ (i.Push (Int (pos 0)) ∷ i.Return end ∷ [])) ++ start) same_items
    ∙ ap (λ l. (params_code end 0 l outside (items_code end (ending_code f.ending end) (stmts_of f.body.items)) ++ (i.Push (Int (pos 0)) ∷ i.Return end ∷ [])) ++ start) same_params

-- The parts of a program's code.
pub flat_is : (program : p.Program) (instrs : List Instr) (entries : List Entry) (arguments : ℕ) → instrs ≡ functions_code program.functions → entries ≡ entries_from 0 program.functions → arguments ≡ params_of (slice_get program.functions program.main)
    → flat instrs entries program.main arguments ≡ compiled program
flat_is program instrs entries arguments a b c =
    ap (λ z. flat z entries program.main arguments) a ∙ ap (λ z. flat (functions_code program.functions) z program.main arguments) b ∙ ap (λ z. flat (functions_code program.functions) (entries_from 0 program.functions) program.main z) c

pub flat_never_sticks : (program : p.Program) (instrs : List Instr) (entries : List Entry) (arguments : ℕ) → instrs ≡ functions_code program.functions → entries ≡ entries_from 0 program.functions → arguments ≡ params_of (slice_get program.functions program.main)
    → HasMain program → NeverSticks (flat instrs entries program.main arguments)
flat_never_sticks program instrs entries arguments a b c h = subst NeverSticks (sym (flat_is program instrs entries arguments a b c)) (never_sticks program h)

pub flat_behaves : (program : p.Program) (code : FlatCode) → code ≡ compiled program → Behaves code program
flat_behaves program code e = subst (λ z. Behaves z program) (sym e) (behaves program)
