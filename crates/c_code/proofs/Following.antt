-- More steps change nothing, and what a machine has come to demands what the code demands.
use Rattle.std.proofs.Common.{◌≡◌, ℕ, zero, suc, ◌+◌, Bool, true, false, cond, List, [], ◌∷◌, ◌++◌, Some, refl, sym, ap, ◌∙◌, subst, arith, append_assoc}
use Rattle.std.specs.Prelude.{slice_get}
use Rattle.std.proofs.lemmas.List.{append-nil}
use Rattle.mpc_values.specs.declared.calls.Call.{Call}
use Rattle.mpc_values.specs.declared.answers.Answer.{Answer}
use Rattle.c_tree.specs.Asking.{Next, Misfit, fits}
use Rattle.c_tree.specs.Asking as asking
use Rattle.c_tree.specs.Scripts.{ends_run}
use Rattle.c_code.specs.declared.code.Entry.{Entry}
use Rattle.c_code.specs.FlatCode.{FlatCode}
use Rattle.c_code.specs.Machine.{Mach, Stepped, Moves, Asks, Sticks, Behind, Goes, Ends, step, resume}
use Rattle.c_code.specs.Demands.{behind, stepped, exec, Reaches, Demands, begins, turn_limit}
use Rattle.c_code.specs.Following.{Follows, AsksNow, NeverSticks}

module _ (code : FlatCode) where
  -- more steps change nothing
  longer_behind : (n : ℕ) → ((m : Mach) (answers : List Answer) (o : Next) → exec code n m answers ≡ Some o → exec code (suc n) m answers ≡ Some o)
      → (ends : Bool) (b : Behind) (more : List Answer) (o : Next) → behind (exec code n) ends b more ≡ Some o → behind (exec code (suc n)) ends b more ≡ Some o
  longer_behind n h true b more o e = e
  longer_behind n h false (Goes m) more o e = h m more o e
  longer_behind n h false Ends more o e = e

  longer_fit : (n : ℕ) → ((m : Mach) (answers : List Answer) (o : Next) → exec code n m answers ≡ Some o → exec code (suc n) m answers ≡ Some o)
      → (fit ends : Bool) (b : Behind) (more : List Answer) (o : Next) → cond fit (behind (exec code n) ends b more) (Some Misfit) ≡ Some o → cond fit (behind (exec code (suc n)) ends b more) (Some Misfit) ≡ Some o
  longer_fit n h true ends b more o e = longer_behind n h ends b more o e
  longer_fit n h false ends b more o e = e

  longer_step : (n : ℕ) → ((m : Mach) (answers : List Answer) (o : Next) → exec code n m answers ≡ Some o → exec code (suc n) m answers ≡ Some o)
      → (m : Mach) (st : Stepped) (answers : List Answer) (o : Next) → stepped code (exec code n) m st answers ≡ Some o → stepped code (exec code (suc n)) m st answers ≡ Some o
  longer_step n h m (Moves m') answers o e = h m' answers o e
  longer_step n h m (Asks call line) [] o e = e
  longer_step n h m (Asks call line) (a ∷ more) o e = longer_fit n h (fits call a) (ends_run call) (resume code m a m.script) more o e
  longer_step n h m Sticks answers o e = e

  longer_by_one : (n : ℕ) (m : Mach) (answers : List Answer) (o : Next) → exec code n m answers ≡ Some o → exec code (suc n) m answers ≡ Some o
  longer_by_one zero m answers o e = absurd (cc e)
  longer_by_one (suc n) m answers o e = longer_step n (longer_by_one n) m (step code m m.script) answers o e

  pub longer : (k n : ℕ) (m : Mach) (answers : List Answer) (o : Next) → exec code n m answers ≡ Some o → exec code (k + n) m answers ≡ Some o
  longer zero n m answers o e = let same : n ≡ zero + n = omega arith in subst (λ j. exec code j m answers ≡ Some o) same e
  longer (suc k) n m answers o e = let same : suc (k + n) ≡ suc k + n = omega arith in subst (λ j. exec code j m answers ≡ Some o) same (longer_by_one (k + n) m answers o (longer k n m answers o e))

  -- from a state, behind a list of answers, one thing at most is demanded
  pub reached_once : (m : Mach) (answers : List Answer) (o o' : Next) → Reaches code m answers o → Reaches code m answers o' → o ≡ o'
  reached_once m answers o o' r r' =
      let a = longer r'.steps r.steps m answers o r.ends in
      let b = longer r.steps r'.steps m answers o' r'.ends in
      let same : r.steps + r'.steps ≡ r'.steps + r.steps = omega arith in
      let b' = subst (λ j. exec code j m answers ≡ Some o') same b in
      cc (a, b')

-- The code demands one thing at most behind a list of answers.
pub demands_once : (code : FlatCode) (entry : Entry) (answers : List Answer) (o o' : Next) → slice_get code.entries code.main ≡ Some entry → Demands code answers o → Demands code answers o' → o ≡ o'
demands_once code entry answers o o' h d d' = reached_once code (begins code entry turn_limit) answers o o' (d entry h) (d' entry h)

-- A machine that begins follows no answers.
pub follows_begun : (code : FlatCode) (entry : Entry) → slice_get code.entries code.main ≡ Some entry → Follows code [] (begins code entry turn_limit)
follows_begun code entry h = record { entry = entry; main = h; steps = 0; same = λ n more. let e : 0 + n ≡ n = omega arith in ap (λ j. exec code j (begins code entry turn_limit) more) e }

-- It follows the same answers behind a step that leads on.
pub follows_moved : (code : FlatCode) (given : List Answer) (m m' : Mach) → Follows code given m → step code m m.script ≡ Moves m' → Follows code given m'
follows_moved code given m m' f e = record {
  entry = f.entry;
  main = f.main;
  steps = suc f.steps;
  same = λ n more.
      let one : suc f.steps + n ≡ f.steps + suc n = omega arith in
      ap (λ j. exec code j (begins code f.entry turn_limit) (given ++ more)) one ∙ f.same (suc n) more ∙ ap (λ st. stepped code (exec code n) m st more) e;
}

-- Behind an answer to what it asks, it follows one answer more.
pub follows_answered : (code : FlatCode) (given : List Answer) (m m' : Mach) (call : Call) (line : ℕ) (a : Answer) → Follows code given m → AsksNow code m call line → fits call a ≡ true → ends_run call ≡ false
    → resume code m a m.script ≡ Goes m' → Follows code (given ++ a ∷ []) m'
follows_answered code given m m' call line a f e fit goes r = record {
  entry = f.entry;
  main = f.main;
  steps = suc f.steps;
  same = λ n more.
      let one : suc f.steps + n ≡ f.steps + suc n = omega arith in
      ap (λ j. exec code j (begins code f.entry turn_limit) ((given ++ a ∷ []) ++ more)) one
      ∙ ap (exec code (f.steps + suc n) (begins code f.entry turn_limit)) (append_assoc given (a ∷ []) more)
      ∙ f.same (suc n) (a ∷ more)
      ∙ ap (λ st. stepped code (exec code n) m st (a ∷ more)) e
      ∙ ap (λ b. cond b (behind (exec code n) (ends_run call) (resume code m a m.script) more) (Some Misfit)) fit
      ∙ ap (λ b. behind (exec code n) b (resume code m a m.script) more) goes
      ∙ ap (λ b. behind (exec code n) false b more) r;
}

-- What it asks is what the code demands behind the answers that it follows.
pub asks_demanded : (code : FlatCode) (given : List Answer) (m : Mach) (call : Call) (line : ℕ) → Follows code given m → AsksNow code m call line → Demands code given (asking.Asks call line)
asks_demanded code given m call line f e entry h =
    let same : f.entry ≡ entry = cc (f.main, h) in
    let none = append-nil given in
    let here : exec code (f.steps + 1) (begins code f.entry turn_limit) given ≡ Some (asking.Asks call line) =
    ap (exec code (f.steps + 1) (begins code f.entry turn_limit)) (sym none) ∙ f.same 1 [] ∙ ap (λ st. stepped code (exec code 0) m st []) e in
    subst (λ z. Reaches code (begins code z turn_limit) given (asking.Asks call line)) same (record { steps = f.steps + 1; ends = here })

-- Code that never sticks leads on, or asks, wherever a machine has come to.
pub follows_unstuck : (code : FlatCode) (given : List Answer) (m : Mach) → NeverSticks code → Follows code given m → step code m m.script ≡ Sticks → ⊥
follows_unstuck code given m lives f stuck =
    let same : lives.entry ≡ f.entry = cc (lives.main, f.main) in
    let d = lives.demands given in
    let r = subst (λ z. Reaches code (begins code z turn_limit) given d.0) same d.1 in
    let none = append-nil given in
    let far = longer code f.steps r.steps (begins code f.entry turn_limit) given d.0 r.ends in
    no_end r.steps d.0 (sym (f.same r.steps []) ∙ ap (exec code (f.steps + r.steps) (begins code f.entry turn_limit)) none ∙ far)
  where
    no_end : (n : ℕ) (o : Next) → exec code n m [] ≡ Some o → ⊥
    no_end zero o e = absurd (cc e)
    no_end (suc n) o e = let h = sym e ∙ ap (λ st. stepped code (exec code n) m st []) stuck in absurd (cc h)
