-- Each step keeps the rule.
use Rattle.std.proofs.Common.{◌≡◌, ◌≢◌, ℕ, zero, suc, ◌+◌, ◌%◌, ◌^◌, ◌<◌, ◌≤◌, List, [], ◌∷◌, ◌++◌, length, set, cond, eqb, eq-eqb, ne_eqb, refl, sym, ap, ◌∙◌, subst, ⊎_elim, arith, Bool, true, false, true≢false, length-append, Option, Some, None}
use Rattle.std.specs.Prelude.{slice_index, slice_set}
use Rattle.std.proofs.Math.Nat.{mod-add-mod}
use mathlib.Core.Option as maybe
use mathlib.Core.Option.{some, none, some-injective, some-ne-none}
use native.Mathlib.Decide.{ℕ_discrete}
use lib.ListN.{get_elem?}
use base.Stored.{Gv}
use Rattle.atomic_table.specs.Table.{State, Me, Step, step, Act, keeps, takes, gives, Allows, Splits, Joins, put_back, rest, Valid, opening, stepped, carried_after}
use Rattle.atomic_table.proofs.Lists.{at_set, set_again, one_turn}
use Rattle.task_gate.specs.History.{items_of, StartsWith, Keeps, KeepsAll, Adds}
use Rattle.task_gate.specs.Rule.{total, busy, parts, Owned, NotAmong, FirstApart, NotIn, Turn, Knows, Slot, Ruled, maker, one_less, next_pass, joined, spent, at_stage, leaving, counted_view, waits_or_inside, drew, looked, Comes, counted, set_down, picked_up, put_out, ticket_of, history_of}
use Rattle.task_gate.specs.declared.views.View.{View}
use Rattle.task_gate.specs.declared.views.Stage.{Stage}
use Rattle.task_gate.specs.declared.views.Stage.TheVariants.{Outside, Waits, Inside}
use Rattle.task_gate.proofs.Lists.{total_set, total_snoc, total_le, length_set, at_below, at_end, each_set, starts_same, keeps_more, not_owned, owned_as, owned_both, apart_both, keeps_both}

abbrev W : ℕ
W = 18446744073709551616

-- a choice by a number
at_key : (f : ℕ → ℕ) (k n v : ℕ) → n ≡ k → cond (eqb n k) v (f n) ≡ v
at_key f k n v e = ap (λ b. cond b v (f n)) (eq-eqb n k e)

off_key : (f : ℕ → ℕ) (k n v : ℕ) → n ≢ k → cond (eqb n k) v (f n) ≡ f n
off_key f k n v ne = ap (λ b. cond b v (f n)) (ne_eqb n k ne)

-- the turn of a seat, when the next ticket is drawn by another
turn_drawn : (d s : ℕ) (log : List (ℕ × Gv)) (f : Gv) (h h' o : ℕ → ℕ) (out : maybe.Option (ℕ × Bool)) (j : ℕ) (g : Stage) → ((t : ℕ) → t < d → h' t ≡ h t) → Turn d s log f h o out j g → Turn (d + 1) s log f h' o out j g
turn_drawn d s log f h h' o out j Outside same k = k
turn_drawn d s log f h h' o out j (Waits t) same k = let below : t < d = k.1 in (k.0, omega arith, same t below ∙ k.2, k.3)
turn_drawn d s log f h h' o out j (Inside t l b) same k = let below : t < d = k.1 in (k.0, omega arith, same t below ∙ k.2, k.3, k.4)

-- no step's words matter to what it tells
abbrev any_step : {S : Type 0} → Step S
any_step = step 0 0 0 0 none

module _ {S : Type 0} (base : S → Gv) (history : S → List (ℕ × Gv)) where
  slot_drawn : (s : ℕ) (log : List (ℕ × Gv)) (f : Gv) (h h' : ℕ → ℕ) (out : maybe.Option (ℕ × Bool)) (homes : List (maybe.Option (Option S))) → ((k : ℕ) (b : Bool) → out ≡ some (k, b) → h' s ≡ h s) → Slot base history s log f h out homes → Slot base history s log f h' out homes
  slot_drawn s log f h h' none homes same k = k
  slot_drawn s log f h h' (some (j, true)) homes same k = (k.0, same j true refl ∙ k.1)
  slot_drawn s log f h h' (some (j, false)) homes same k = (k.0, same j false refl ∙ k.1)

  pub draws : (slots id : ℕ) (m : Me (Option S) View) → m.0.stage ≡ Outside → 0 < m.0.parts → Allows (Ruled base history) slots id m 0 (λ n. (n + 1) % 2 ^ 64) (drew any_step m)
  draws slots id m outside some_part s r wide at below =
      let w : View = at_stage m.0 (Waits r.drawn) in
      let h' : ℕ → ℕ = λ t. cond (eqb t r.drawn) id (r.holder t) in
      let mine = r.each id m.0 at in
      let idle : busy m.0 ≡ 0 = ap waits_or_inside outside in
      let same : (t : ℕ) → t < r.drawn → h' t ≡ r.holder t = λ t lt. off_key r.holder r.drawn t id (λ e. absurd (omega arith)) in
      let not_in : NotIn r.out id = subst (Turn r.drawn r.served r.log r.first r.holder r.owner r.out id) outside mine.turn in
      let sums : total busy s.views + r.served ≡ r.drawn = r.waiting in
      let low : r.served ≤ r.drawn = omega arith in
      let sum' = total_set busy s.views id m.0 w at in
      let sum'' = total_set parts s.views id m.0 w at in (
        w,
        keeps,
        tt,
        record {
          drawn = r.drawn + 1;
          served = r.served;
          log = r.log;
          first = r.first;
          holder = h';
          owner = r.owner;
          out = r.out;
          words = ap (λ ws. slice_set ws 0 ((slice_index ws 0 + 1) % 2 ^ 64)) r.words ∙ ap (λ n. n ∷ (r.served % 2 ^ 64) ∷ (length r.log % 2 ^ 64) ∷ []) (mod-add-mod r.drawn W 1);
          slot = slot_drawn r.served r.log r.first r.holder h' r.out s.homes (λ k b e. same r.served (r.inside k b e).1) r.slot;
          shares = omega (arith, sum'', r.shares);
          waiting = omega arith;
          inside = λ k b e. let i = r.inside k b e in (subst (λ n. k < n) (sym (length_set s.views id w)) i.0, omega (arith, i.1));
          each = each_set (λ j v. Knows (r.drawn + 1) r.served r.log r.first h' r.owner r.out j v) s.views id w
              (λ j u apart there. let k = r.each j u there in record {
                base = k.base;
                share = k.share;
                keeps = k.keeps;
                owned = k.owned;
                apart = k.apart;
                makes = k.makes;
                turn = turn_drawn r.drawn r.served r.log r.first r.holder h' r.owner r.out j u.stage same k.turn;
              })
              (record {
                base = mine.base;
                share = omega arith;
                keeps = mine.keeps;
                owned = mine.owned;
                apart = mine.apart;
                makes = mine.makes;
                turn = (low, omega arith, at_key r.holder r.drawn r.drawn id refl, not_in);
              });
        },
        (r.drawn, refl, sym (ap (λ ws. slice_index ws 0) r.words)),
      )

  -- nothing changed, though the lists were written again
  unchanged : (s : State (Option S) View) (words : List ℕ) (views : List View) → words ≡ s.words → views ≡ s.views → Ruled base history s → Ruled base history record { words = words; homes = s.homes; views = views }
  unchanged s words views w v r = subst (λ (p : List ℕ × List View). Ruled base history record { words = p.0; homes = s.homes; views = p.1 }) (λ i. (sym w i, sym v i)) r

  -- a pass whose turn it is finds the value at home
  home_at : (s : ℕ) (log : List (ℕ × Gv)) (f : Gv) (h : ℕ → ℕ) (out : maybe.Option (ℕ × Bool)) (homes : List (maybe.Option (Option S))) (id : ℕ) → h s ≡ id → NotIn out id → Slot base history s log f h out homes
      → (out ≡ none) × ((x : S) × (homes ≡ some (Some x) ∷ []) × (history x ≡ log) × (base x ≡ f))
  home_at s log f h none homes id e n k = (refl, k)
  home_at s log f h (some (j, true)) homes id e n k = absurd (n (sym k.1 ∙ e))
  home_at s log f h (some (j, false)) homes id e n k = absurd (n (sym k.1 ∙ e))

  -- the turn of another seat, when one goes inside, or lays down or takes up the slot
  turn_inside : (d s : ℕ) (log : List (ℕ × Gv)) (f : Gv) (h o : ℕ → ℕ) (out : maybe.Option (ℕ × Bool)) (id : ℕ) (b : Bool) (j : ℕ) (g : Stage) → j ≢ id → ((c : Bool) → out ≢ some (j, c)) → Turn d s log f h o out j g → Turn d s log f h o (some (id, b)) j g
  turn_inside d s log f h o out id b j Outside apart un k = λ e. apart (sym e)
  turn_inside d s log f h o out id b j (Waits t) apart un k = (k.0, k.1, k.2, λ e. apart (sym e))
  turn_inside d s log f h o out id b j (Inside t l c) apart un k = absurd (un c k.4)

  look_yes : (slots id : ℕ) (m : Me (Option S) View) (t : ℕ) → m.0.stage ≡ Waits t → (s : State (Option S) View) → (r : Ruled base history s) → get_elem? s.views id ≡ some m.0 → t ≡ r.served
      → (w : View) × (a : Act (Option S)) × (Valid s.homes m.1 a) × Ruled base history (stepped s 1 (slice_index s.words 1) id m.1 w a) × Comes base history t m (w, carried_after m.1 a)
  look_yes slots id m t waits s r at same =
      let mine = r.each id m.0 at in
      let turn : (r.served ≤ t) × (t < r.drawn) × (r.holder t ≡ id) × NotIn r.out id = subst (Turn r.drawn r.served r.log r.first r.holder r.owner r.out id) waits mine.turn in
      let found = home_at r.served r.log r.first r.holder r.out s.homes id (ap r.holder (sym same) ∙ turn.2) turn.3 r.slot in
      let x : S = found.1.0 in
      let is_home = found.1.1 in
      let is_log = found.1.2 in
      let w : View = at_stage m.0 (Inside t (history x) true) in
      let one : busy m.0 ≡ 1 = ap waits_or_inside waits in
      let some_part : 0 < m.0.parts = omega (arith, mine.share) in
      let sum' = total_set busy s.views id m.0 w at in
      let sum'' = total_set parts s.views id m.0 w at in
      let lt : t < r.drawn = turn.1 in (
        w,
        takes 0 (Some x),
        ap (λ hs. get_elem? hs 0) is_home,
        record {
          drawn = r.drawn;
          served = r.served;
          log = r.log;
          first = r.first;
          holder = r.holder;
          owner = r.owner;
          out = some (id, true);
          words = ap (λ ws. slice_set ws 1 (slice_index ws 1)) r.words;
          slot = (ap (λ hs. slice_set hs 0 none) is_home, ap r.holder (sym same) ∙ turn.2);
          shares = omega (arith, sum'', r.shares);
          waiting = omega (arith, sum', r.waiting);
          inside = λ k b e. let i : id ≡ k = ap (λ (y : ℕ × Bool). y.0) (some-injective _ _ e) in (subst (λ n. n < length (set s.views id w)) i (omega (arith, length_set s.views id w, at_below s.views id m.0 at)), omega arith);
          each = each_set (λ j v. Knows r.drawn r.served r.log r.first r.holder r.owner (some (id, true)) j v) s.views id w
              (λ j u apart there. let k = r.each j u there in record {
                base = k.base;
                share = k.share;
                keeps = k.keeps;
                owned = k.owned;
                apart = k.apart;
                makes = k.makes;
                turn = turn_inside r.drawn r.served r.log r.first r.holder r.owner r.out id true j u.stage apart (λ c e. some-ne-none (j, c) (sym e ∙ found.0)) k.turn;
              })
              (record {
                base = mine.base;
                share = omega (arith, mine.share);
                keeps = mine.keeps;
                owned = mine.owned;
                apart = mine.apart;
                makes = mine.makes;
                turn = (same, lt, turn.2, is_log, refl);
              });
        },
        (x, refl, found.1.3 ∙ sym (mine.base some_part), subst (λ l. KeepsAll l m.0.claims) (sym is_log) mine.keeps),
      )

  same_ticket : (g : Stage) (t u : ℕ) → g ≡ Waits t → g ≡ Waits u → t ≡ u
  same_ticket g t u a b = ap ticket_of (sym a ∙ b)

  looks_case : (slots id : ℕ) (m : Me (Option S) View) (t : ℕ) → m.0.stage ≡ Waits t → (s : State (Option S) View) → (r : Ruled base history s) → get_elem? s.views id ≡ some m.0 → Dec (t % 2 ^ 64 ≡ slice_index s.words 1)
      → (w : View) × (a : Act (Option S)) × (Valid s.homes m.1 a) × Ruled base history (stepped s 1 (slice_index s.words 1) id m.1 w a) × looked base history any_step m (slice_index s.words 1) (w, carried_after m.1 a)
  looks_case slots id m t waits s r at (yes e) =
      let mine = r.each id m.0 at in
      let turn : (r.served ≤ t) × (t < r.drawn) × (r.holder t ≡ id) × NotIn r.out id = subst (Turn r.drawn r.served r.log r.first r.holder r.owner r.out id) waits mine.turn in
      let few = total_le busy parts s.views (λ j v there. (r.each j v there).share) in
      let near : t < r.served + W = omega (arith, few, r.shares, r.waiting, turn.1) in
      let found : slice_index s.words 1 ≡ r.served % 2 ^ 64 = ap (λ ws. slice_index ws 1) r.words in
      let same : r.served ≡ t = one_turn r.served t W turn.0 near (sym (e ∙ found)) in
      let c = look_yes slots id m t waits s r at (sym same) in
      (c.0, c.1, c.2, c.3, λ u is. (λ _. subst (λ (n : ℕ). Comes base history n m (c.0, carried_after m.1 c.1)) (same_ticket m.0.stage t u waits is) c.4, λ ne. absurd (ne (ap (λ (n : ℕ). n % 2 ^ 64) (sym (same_ticket m.0.stage t u waits is)) ∙ e))))
  looks_case slots id m t waits s r at (no ne) = (
    m.0,
    keeps,
    tt,
    unchanged s (slice_set s.words 1 (slice_index s.words 1)) (slice_set s.views id m.0) (ap (λ ws. slice_set ws 1 (slice_index ws 1)) r.words ∙ sym r.words) (set_again s.views id m.0 at) r,
    λ u is. (λ e. absurd (ne (ap (λ (n : ℕ). n % 2 ^ 64) (same_ticket m.0.stage t u waits is) ∙ e)), λ _. refl),
  )

  pub looks : (slots id : ℕ) (m : Me (Option S) View) (t : ℕ) → m.0.stage ≡ Waits t → Allows (Ruled base history) slots id m 1 (λ n. n) (looked base history any_step m)
  looks slots id m t waits s r wide at below = looks_case slots id m t waits s r at (ℕ_discrete (t % 2 ^ 64) (slice_index s.words 1))

  -- only one seat is inside
  no_other : (out : maybe.Option (ℕ × Bool)) (id j : ℕ) (b : Bool) → out ≡ some (id, b) → j ≢ id → (c : Bool) → out ≢ some (j, c)
  no_other out id j b is apart c e = apart (ap (λ (y : ℕ × Bool). y.0) (some-injective _ _ (sym e ∙ is)))

  abbrev InTurn : (s : State (Option S) View) (r : Ruled base history s) (id t : ℕ) (h : List (ℕ × Gv)) (b : Bool) → Type 0
  InTurn s r id t h b = (t ≡ r.served) × (t < r.drawn) × (r.holder t ≡ id) × (h ≡ r.log) × (r.out ≡ some (id, b))

  in_turn : (s : State (Option S) View) (r : Ruled base history s) (id : ℕ) (v : View) (t : ℕ) (h : List (ℕ × Gv)) (b : Bool) → v.stage ≡ Inside t h b → get_elem? s.views id ≡ some v → InTurn s r id t h b
  in_turn s r id v t h b is at = subst (Turn r.drawn r.served r.log r.first r.holder r.owner r.out id) is (r.each id v at).turn

  homes_in : (s : State (Option S) View) (r : Ruled base history s) (id : ℕ) → r.out ≡ some (id, true) → s.homes ≡ none ∷ []
  homes_in s r id is = (subst (λ o. Slot base history r.served r.log r.first r.holder o s.homes) is r.slot).0

  homes_empty : (s : State (Option S) View) (r : Ruled base history s) (id : ℕ) → r.out ≡ some (id, false) → s.homes ≡ some None ∷ []
  homes_empty s r id is = (subst (λ o. Slot base history r.served r.log r.first r.holder o s.homes) is r.slot).0

  -- the seat inside lays the slot down, or takes it up
  stays : (s : State (Option S) View) (r : Ruled base history s) (id : ℕ) (v : View) (t : ℕ) (h : List (ℕ × Gv)) (b c : Bool) (words : List ℕ) (homes : List (maybe.Option (Option S))) → v.stage ≡ Inside t h b → get_elem? s.views id ≡ some v
      → words ≡ s.words → (r.holder r.served ≡ id → Slot base history r.served r.log r.first r.holder (some (id, c)) homes)
      → Ruled base history record { words = words; homes = homes; views = set s.views id (at_stage v (Inside t h c)) }
  stays s r id v t h b c words homes is at same slot =
      let mine = r.each id v at in
      let turn = in_turn s r id v t h b is at in
      let w : View = at_stage v (Inside t h c) in
      let one : busy v ≡ 1 = ap waits_or_inside is in
      let sum' = total_set busy s.views id v w at in
      let sum'' = total_set parts s.views id v w at in
      let lt : t < r.drawn = turn.1 in
      let now : t ≡ r.served = turn.0 in
      record {
        drawn = r.drawn;
        served = r.served;
        log = r.log;
        first = r.first;
        holder = r.holder;
        owner = r.owner;
        out = some (id, c);
        words = same ∙ r.words;
        slot = slot (ap r.holder (sym turn.0) ∙ turn.2);
        shares = omega (arith, sum'', r.shares);
        waiting = omega (arith, sum', r.waiting);
        inside = λ k d e. let i : id ≡ k = ap (λ (y : ℕ × Bool). y.0) (some-injective _ _ e) in (subst (λ n. n < length (set s.views id w)) i (omega (arith, length_set s.views id w, at_below s.views id v at)), omega arith);
        each = each_set (λ j u. Knows r.drawn r.served r.log r.first r.holder r.owner (some (id, c)) j u) s.views id w
            (λ j u apart there. let k = r.each j u there in record {
              base = k.base;
              share = k.share;
              keeps = k.keeps;
              owned = k.owned;
              apart = k.apart;
              makes = k.makes;
              turn = turn_inside r.drawn r.served r.log r.first r.holder r.owner r.out id c j u.stage apart (no_other r.out id j b turn.4 apart) k.turn;
            })
            (record {
              base = mine.base;
              share = omega (arith, mine.share);
              keeps = mine.keeps;
              owned = mine.owned;
              apart = mine.apart;
              makes = mine.makes;
              turn = (turn.0, turn.1, turn.2, turn.3, refl);
            });
      }

  pub sets_down : (slots id : ℕ) (m : Me (Option S) View) (t : ℕ) (h : List (ℕ × Gv)) → m.0.stage ≡ Inside t h true → m.1 ≡ (0, None) ∷ [] → Allows (Ruled base history) slots id m 1 (λ n. n) (set_down any_step m)
  sets_down slots id m t h is empty s r wide at below =
      let turn = in_turn s r id m.0 t h true is at in
      let homes : s.homes ≡ none ∷ [] = homes_in s r id turn.4 in
      let after : put_back s.homes m.1 ≡ some None ∷ [] = ap (put_back s.homes) empty ∙ ap (λ hs. slice_set hs 0 (some None)) homes in (
        at_stage m.0 (Inside t h false),
        gives,
        tt,
        stays s r id m.0 t h true false (slice_set s.words 1 (slice_index s.words 1)) (put_back s.homes m.1) is at (ap (λ ws. slice_set ws 1 (slice_index ws 1)) r.words ∙ sym r.words) (λ e. (after, e)),
        (λ u l e. λ i. (at_stage m.0 (Inside (ap ticket_of (sym is ∙ e) i) (ap history_of (sym is ∙ e) i) false), rest m.1)),
      )

  pub picks_up : (slots id : ℕ) (m : Me (Option S) View) (t : ℕ) (h : List (ℕ × Gv)) → m.0.stage ≡ Inside t h false → Allows (Ruled base history) slots id m 1 (λ n. n) (picked_up any_step m)
  picks_up slots id m t h is s r wide at below =
      let turn = in_turn s r id m.0 t h false is at in
      let homes : s.homes ≡ some None ∷ [] = homes_empty s r id turn.4 in (
        at_stage m.0 (Inside t h true),
        takes 0 None,
        ap (λ hs. get_elem? hs 0) homes,
        stays s r id m.0 t h false true (slice_set s.words 1 (slice_index s.words 1)) (slice_set s.homes 0 none) is at (ap (λ ws. slice_set ws 1 (slice_index ws 1)) r.words ∙ sym r.words) (λ e. (ap (λ hs. slice_set hs 0 none) homes, e)),
        (λ u l e. λ i. (at_stage m.0 (Inside (ap ticket_of (sym is ∙ e) i) (ap history_of (sym is ∙ e) i) true), (0, None) ∷ m.1)),
      )

  -- the turn of another seat does not read the history unless it is inside
  turn_counted : (d s : ℕ) (log log' : List (ℕ × Gv)) (f : Gv) (h o : ℕ → ℕ) (out : maybe.Option (ℕ × Bool)) (j : ℕ) (g : Stage) → ((c : Bool) → out ≢ some (j, c)) → Turn d s log f h o out j g → Turn d s log' f h o out j g
  turn_counted d s log log' f h o out j Outside un k = k
  turn_counted d s log log' f h o out j (Waits t) un k = k
  turn_counted d s log log' f h o out j (Inside t l c) un k = absurd (un c k.4)

  -- the history of the value in hand
  abbrev value_history : List (ℕ × Gv) → List (ℕ × Option S) → List (ℕ × Gv)
  value_history d [] = d
  value_history d ((j, Some y) ∷ xs) = history y
  value_history d ((j, None) ∷ xs) = d

  pub counts : (slots id : ℕ) (m : Me (Option S) View) (t k n : ℕ) (l h : List (ℕ × Gv)) (cs : List (ℕ × List (ℕ × Gv))) (x : S) → m.0.stage ≡ Inside t h true → m.1 ≡ (0, Some x) ∷ [] → m.0.makes ≡ false → m.0.claims ≡ (n, l) ∷ cs → Adds h (history x) n k
      → Allows (Ruled base history) slots id m 2 (λ a. (a + k) % 2 ^ 64) (counted base history any_step m)
  counts slots id m t k n l h cs x is hand pass claims adds s r wide at below =
      let mine = r.each id m.0 at in
      let turn = in_turn s r id m.0 t h true is at in
      let log' : List (ℕ × Gv) = history x in
      let w : View = counted_view m.0 t log' in
      let one : busy m.0 ≡ 1 = ap waits_or_inside is in
      let sum' = total_set busy s.views id m.0 w at in
      let sum'' = total_set parts s.views id m.0 w at in
      let lt : t < r.drawn = turn.1 in
      let now : t ≡ r.served = turn.0 in
      let more : StartsWith log' r.log = subst (StartsWith log') turn.3 adds.0 in
      let len : length log' ≡ length r.log + k = subst (λ (g : List (ℕ × Gv)). length log' ≡ length g + k) turn.3 adds.1 in
      let same : (m : ℕ) → m ≢ n → items_of m log' ≡ items_of m r.log = λ i ne. adds.2 i ne ∙ ap (items_of i) turn.3 in
      let owns : (r.owner n ≡ id) × Owned r.owner id cs = subst (Owned r.owner id) claims mine.owned in
      let apart : NotAmong n cs = subst FirstApart claims mine.apart in
      let kept : Keeps r.log (n, l) × KeepsAll r.log cs = subst (KeepsAll r.log) claims mine.keeps in
      let left : leaving log' m.0.claims ≡ (n, log') ∷ cs = ap (leaving log') claims in (
        w,
        keeps,
        tt,
        record {
          drawn = r.drawn;
          served = r.served;
          log = log';
          first = r.first;
          holder = r.holder;
          owner = r.owner;
          out = r.out;
          words = ap (λ ws. slice_set ws 2 ((slice_index ws 2 + k) % 2 ^ 64)) r.words
              ∙ (ap (λ a. (r.drawn % 2 ^ 64) ∷ (r.served % 2 ^ 64) ∷ a ∷ []) (mod-add-mod (length r.log) W k ∙ ap (λ a. a % 2 ^ 64) (sym len)));
          slot = subst (λ o. Slot base history r.served log' r.first r.holder o s.homes) (sym turn.4) (homes_in s r id turn.4, ap r.holder (sym turn.0) ∙ turn.2);
          shares = omega (arith, sum'', r.shares);
          waiting = omega (arith, sum', r.waiting);
          inside = λ j d e. let i = r.inside j d e in (subst (λ a. j < a) (sym (length_set s.views id w)) i.0, i.1);
          each = each_set (λ j u. Knows r.drawn r.served log' r.first r.holder r.owner r.out j u) s.views id w
              (λ j u off there. let k' = r.each j u there in let other : r.owner n ≢ j = λ e. off (sym e ∙ owns.0) in record {
                base = k'.base;
                share = k'.share;
                keeps = keeps_more r.log log' more u.claims n same (not_owned r.owner j n u.claims other k'.owned) k'.keeps;
                owned = k'.owned;
                apart = k'.apart;
                makes = λ yes i le. let g = k'.makes yes i le in (g.0, same i (λ (e : i ≡ n). other (ap r.owner (sym e) ∙ g.0)) ∙ g.1);
                turn = turn_counted r.drawn r.served r.log log' r.first r.holder r.owner r.out j u.stage (no_other r.out id j true turn.4 off) k'.turn;
              })
              (record {
                base = mine.base;
                share = omega (arith, mine.share);
                keeps = subst (KeepsAll log') (sym left) ((starts_same log', refl), keeps_more r.log log' more cs n same apart kept.1);
                owned = subst (Owned r.owner id) (sym left) owns;
                apart = subst FirstApart (sym left) apart;
                makes = λ yes. absurd (true≢false (sym yes ∙ pass));
                turn = (turn.0, turn.1, turn.2, refl, turn.4);
              });
        },
        (λ u l' y at_u in_hand. λ i. (counted_view m.0 (ap ticket_of (sym is ∙ at_u) i) (ap (value_history (history x)) (sym hand ∙ in_hand) i), m.1)),
      )

  -- the turn of another seat, when one has been served
  turn_served : (d s : ℕ) (log : List (ℕ × Gv)) (f : Gv) (h o : ℕ → ℕ) (out : maybe.Option (ℕ × Bool)) (id j : ℕ) (g : Stage) → h s ≡ id → j ≢ id → ((c : Bool) → out ≢ some (j, c)) → Turn d s log f h o out j g → Turn d (s + 1) log f h o none j g
  turn_served d s log f h o out id j Outside held apart un k = tt
  turn_served d s log f h o out id j (Waits t) held apart un k =
      let ne : t ≢ s = λ e. apart (sym k.2 ∙ (ap h e ∙ held)) in
      let le : s ≤ t = k.0 in
      (omega arith, k.1, k.2, tt)
  turn_served d s log f h o out id j (Inside t l c) held apart un k = absurd (un c k.4)

  pub serves : (slots id : ℕ) (m : Me (Option S) View) (t : ℕ) (h : List (ℕ × Gv)) (x : S) → m.0.stage ≡ Inside t h true → m.1 ≡ (0, Some x) ∷ [] → history x ≡ h → base x ≡ m.0.base
      → Allows (Ruled base history) slots id m 1 (λ a. (a + 1) % 2 ^ 64) (put_out any_step m)
  serves slots id m t h x is hand told based s r wide at below =
      let mine = r.each id m.0 at in
      let turn = in_turn s r id m.0 t h true is at in
      let homes : s.homes ≡ none ∷ [] = homes_in s r id turn.4 in
      let after : put_back s.homes m.1 ≡ some (Some x) ∷ [] = ap (put_back s.homes) hand ∙ ap (λ hs. slice_set hs 0 (some (Some x))) homes in
      let w : View = at_stage m.0 Outside in
      let one : busy m.0 ≡ 1 = ap waits_or_inside is in
      let some_part : 0 < m.0.parts = omega (arith, mine.share) in
      let sum' = total_set busy s.views id m.0 w at in
      let sum'' = total_set parts s.views id m.0 w at in
      let lt : t < r.drawn = turn.1 in
      let now : t ≡ r.served = turn.0 in (
        w,
        gives,
        tt,
        record {
          drawn = r.drawn;
          served = r.served + 1;
          log = r.log;
          first = r.first;
          holder = r.holder;
          owner = r.owner;
          out = none;
          words = ap (λ ws. slice_set ws 1 ((slice_index ws 1 + 1) % 2 ^ 64)) r.words ∙ ap (λ n. (r.drawn % 2 ^ 64) ∷ n ∷ (length r.log % 2 ^ 64) ∷ []) (mod-add-mod r.served W 1);
          slot = (x, after, told ∙ turn.3, based ∙ mine.base some_part);
          shares = omega (arith, sum'', r.shares);
          waiting = omega (arith, sum', r.waiting);
          inside = λ j d e. absurd (some-ne-none (j, d) (sym e));
          each = each_set (λ j u. Knows r.drawn (r.served + 1) r.log r.first r.holder r.owner none j u) s.views id w
              (λ j u off there. let k = r.each j u there in record {
                base = k.base;
                share = k.share;
                keeps = k.keeps;
                owned = k.owned;
                apart = k.apart;
                makes = k.makes;
                turn = turn_served r.drawn r.served r.log r.first r.holder r.owner r.out id j u.stage (ap r.holder (sym turn.0) ∙ turn.2) off (no_other r.out id j true turn.4 off) k.turn;
              })
              (record {
                base = mine.base;
                share = omega arith;
                keeps = mine.keeps;
                owned = mine.owned;
                apart = mine.apart;
                makes = mine.makes;
                turn = tt;
              });
        },
        ap (λ c. (w, rest c)) hand,
      )

  turn_same_owner : (d s : ℕ) (log : List (ℕ × Gv)) (f : Gv) (h o o' : ℕ → ℕ) (out : maybe.Option (ℕ × Bool)) (j : ℕ) (g : Stage) → Turn d s log f h o out j g → Turn d s log f h o' out j g
  turn_same_owner d s log f h o o' out j Outside k = k
  turn_same_owner d s log f h o o' out j (Waits t) k = k
  turn_same_owner d s log f h o o' out j (Inside t l c) k = k

  not_in_new : (out : maybe.Option (ℕ × Bool)) (n : ℕ) → ((k : ℕ) (b : Bool) → out ≡ some (k, b) → k < n) → NotIn out n
  not_in_new none n f = tt
  not_in_new (some (k, b)) n f = λ e. absurd (omega (arith, f k b refl))

  pub splits : (id : ℕ) (v : View) → v.stage ≡ Outside → v.makes ≡ true → v.claims ≡ [] → 1 < v.parts → Splits (Ruled base history) id v (one_less v) (next_pass v)
  splits id v outside makes no_claims enough s r at =
      let mine = r.each id v at in
      let u : View = one_less v in
      let w : View = next_pass v in
      let vs : List View = set s.views id u in
      let new : ℕ = length vs in
      let o' : ℕ → ℕ = λ n. cond (eqb n v.next) new (r.owner n) in
      let idle : busy v ≡ 0 = ap waits_or_inside outside in
      let sum' = total_set busy s.views id v u at in
      let sum'' = total_set parts s.views id v u at in
      let more' = total_snoc busy vs w in
      let more'' = total_snoc parts vs w in
      let in_list = at_below s.views id v at in
      let len = length_set s.views id u in
      let not_new : (k : ℕ) → k < length s.views → k ≢ new = λ k lt e. absurd (omega arith) in
      let owns : (r.owner v.next ≡ id) × (items_of v.next r.log ≡ []) = mine.makes makes v.next (omega arith) in
      -- a number of another seat is not the new one
      let other : (j n : ℕ) → j ≢ id → r.owner n ≡ j → o' n ≡ j = λ j n apart is. off_key r.owner v.next n new (λ e. apart (sym is ∙ (ap r.owner e ∙ owns.0))) ∙ is in
      record {
        drawn = r.drawn;
        served = r.served;
        log = r.log;
        first = r.first;
        holder = r.holder;
        owner = o';
        out = r.out;
        words = r.words;
        slot = r.slot;
        shares = omega (arith, more'', sum'', r.shares);
        waiting = omega (arith, more', sum', r.waiting);
        inside = λ k b e. let i = r.inside k b e in (omega (arith, i.0, length-append vs (w ∷ [])), i.1);
        each = λ j y e. ⊎_elim
            (each_set (λ j z. Knows r.drawn r.served r.log r.first r.holder o' r.out j z) s.views id u
            (λ j z apart there. let k = r.each j z there in record {
              base = k.base;
              share = k.share;
              keeps = k.keeps;
              apart = k.apart;
              owned = owned_as r.owner o' j j z.claims (λ n. other j n apart) k.owned;
              makes = λ yes n le. let g = k.makes yes n le in (other j n apart g.0, g.1);
              turn = turn_same_owner r.drawn r.served r.log r.first r.holder r.owner o' r.out j z.stage k.turn;
            })
            (record {
              base = λ _. mine.base (omega arith);
              share = omega arith;
              keeps = mine.keeps;
              apart = mine.apart;
              owned = subst (Owned o' id) (sym no_claims) tt;
              makes = λ yes n le. let g = mine.makes makes n (omega arith) in (off_key r.owner v.next n new (λ e. absurd (omega arith)) ∙ g.0, g.1);
              turn = turn_same_owner r.drawn r.served r.log r.first r.holder r.owner o' r.out id v.stage mine.turn;
            })
            j y)
            (λ (h : (j ≡ new) × (w ≡ y)). subst (λ (z : ℕ × View). Knows r.drawn r.served r.log r.first r.holder o' r.out z.0 z.1) (λ i. (sym h.0 i, h.1 i))
            (record {
              base = λ _. mine.base (omega arith);
              share = omega arith;
              keeps = (((r.log, refl), owns.1), tt);
              owned = (at_key r.owner v.next v.next new refl, tt);
              apart = tt;
              makes = λ yes. absurd (true≢false (sym yes));
              turn = not_in_new r.out new (λ k b e'. omega (arith, (r.inside k b e').0));
            }))
            (at_end vs w y j e);
      }

  pub joins : (id : ℕ) (v : View) (other : ℕ) (w : View) (n : ℕ) (l : List (ℕ × Gv)) (cs : List (ℕ × List (ℕ × Gv))) → v.stage ≡ Outside → w.stage ≡ Outside → v.makes ≡ false → w.makes ≡ false → v.claims ≡ (n, l) ∷ cs → 0 < v.parts → Joins (Ruled base history) id v other w (joined v w) spent
  joins id v other w n l cs outside outside' pass pass' claims some_part s r at apart there' =
      let both : View = joined v w in
      let vs : List View = set s.views id both in
      let there : get_elem? s.views other ≡ some w = ⊎_elim (λ (t : (other ≡ id) × (both ≡ w)). absurd (apart t.0)) (λ (t : (other ≢ id) × (get_elem? s.views other ≡ some w)). t.1) (at_set s.views id other both w there') in
      let mine = r.each id v at in
      let theirs = r.each other w there in
      let o' : ℕ → ℕ = λ k. cond (eqb (r.owner k) other) id (r.owner k) in
      let idle : busy v ≡ 0 = ap waits_or_inside outside in
      let idle' : busy w ≡ 0 = ap waits_or_inside outside' in
      let sum' = total_set busy s.views id v both at in
      let sum'' = total_set parts s.views id v both at in
      let last' = total_set busy vs other w spent there' in
      let last'' = total_set parts vs other w spent there' in
      let stays_own : (j k : ℕ) → j ≢ other → r.owner k ≡ j → o' k ≡ j = λ j k ne is. ap (λ b. cond b id (r.owner k)) (ne_eqb (r.owner k) other (λ e. ne (sym is ∙ e))) ∙ is in
      let comes_over : (k : ℕ) → r.owner k ≡ other → o' k ≡ id = λ k is. ap (λ b. cond b id (r.owner k)) (eq-eqb (r.owner k) other is) in
      let owns : (r.owner n ≡ id) × Owned r.owner id cs = subst (Owned r.owner id) claims mine.owned in
      let ours : Owned o' id v.claims = owned_as r.owner o' id id v.claims (λ k. stays_own id k (λ e. apart (sym e))) mine.owned in
      let taken : Owned o' id w.claims = owned_as r.owner o' other id w.claims comes_over theirs.owned in
      let first_apart : NotAmong n (cs ++ w.claims) = apart_both n cs w.claims (subst FirstApart claims mine.apart) (not_owned r.owner other n w.claims (λ e. apart (sym e ∙ owns.0)) theirs.owned) in
      record {
        drawn = r.drawn;
        served = r.served;
        log = r.log;
        first = r.first;
        holder = r.holder;
        owner = o';
        out = r.out;
        words = r.words;
        slot = r.slot;
        shares = omega (arith, last'', sum'', r.shares);
        waiting = omega (arith, last', sum', r.waiting);
        inside = λ k b e. let i = r.inside k b e in (omega (arith, i.0, length_set vs other spent, length_set s.views id both), i.1);
        each = each_set (λ j z. Knows r.drawn r.served r.log r.first r.holder o' r.out j z) vs other spent
            (λ j y off at_y. each_set (λ j z. j ≢ other → Knows r.drawn r.served r.log r.first r.holder o' r.out j z) s.views id both
            (λ j z not_id at_z not_other. let k = r.each j z at_z in record {
              base = k.base;
              share = k.share;
              keeps = k.keeps;
              apart = k.apart;
              owned = owned_as r.owner o' j j z.claims (λ i. stays_own j i not_other) k.owned;
              makes = λ yes i le. let g = k.makes yes i le in (stays_own j i not_other g.0, g.1);
              turn = turn_same_owner r.drawn r.served r.log r.first r.holder r.owner o' r.out j z.stage k.turn;
            })
            (λ _. record {
              base = λ _. mine.base some_part;
              share = omega (arith, mine.share);
              keeps = keeps_both r.log v.claims w.claims mine.keeps theirs.keeps;
              owned = owned_both o' id v.claims w.claims ours taken;
              apart = subst (λ ds. FirstApart (ds ++ w.claims)) (sym claims) first_apart;
              makes = λ yes. absurd (true≢false (sym yes ∙ pass));
              turn = turn_same_owner r.drawn r.served r.log r.first r.holder r.owner o' r.out id v.stage mine.turn;
            })
            j y at_y off)
            (record {
              base = λ lt. absurd (omega arith);
              share = omega arith;
              keeps = tt;
              owned = tt;
              apart = tt;
              makes = λ yes. absurd (true≢false (sym yes));
              turn = turn_same_owner r.drawn r.served r.log r.first r.holder r.owner o' r.out other Outside (subst (Turn r.drawn r.served r.log r.first r.holder r.owner r.out other) outside' theirs.turn);
            });
      }

  pub begins : (x : S) → history x ≡ [] → Ruled base history (opening (0 ∷ 0 ∷ 0 ∷ []) (Some x ∷ []) (maker (base x) 0))
  begins x empty = record {
    drawn = 0;
    served = 0;
    log = [];
    first = base x;
    holder = λ _. 0;
    owner = λ _. 0;
    out = none;
    words = refl;
    slot = (x, refl, empty, refl);
    shares = refl;
    waiting = refl;
    inside = λ k b e. absurd (some-ne-none (k, b) (sym e));
    each = one;
  }
    where
      one : (j : ℕ) (v : View) → get_elem? (maker (base x) 0 ∷ []) j ≡ some v → Knows 0 0 [] (base x) (λ _. 0) (λ _. 0) none j v
      one zero v e = subst (Knows 0 0 [] (base x) (λ _. 0) (λ _. 0) none 0) (some-injective _ _ e)
          (record { base = λ _. refl; share = omega arith; keeps = tt; owned = tt; apart = tt; makes = λ _ n _. (refl, refl); turn = tt })
      one (suc j) v e = absurd (some-ne-none v (sym e))
