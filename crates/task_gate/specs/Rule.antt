-- The rule of the gate's table, and what each step tells.
-- Word 0 counts the tickets drawn, word 1 those served, word 2 the items, each modulo 2 ^ 64. Slot 0 has the value while no pass is inside.
use Rattle.std.specs.Prelude.{◌≡◌, ◌≢◌, ℕ, ◌+◌, ◌-◌, ◌%◌, ◌^◌, ◌<◌, ◌≤◌, List, [], ◌∷◌, ◌++◌, length, Option, Some, None, Bool, true, false}
use mathlib.Core.Option as maybe
use mathlib.Core.Option.{some, none}
use lib.ListN.{get_elem?}
use base.Stored.{Gv}
use Rattle.atomic_table.specs.Table.{State, Me, Step, rest}
use Rattle.task_gate.specs.History.{items_of, KeepsAll}
use Rattle.task_gate.specs.declared.views.View.{View}
use Rattle.task_gate.specs.declared.views.Stage.{Stage}
use Rattle.task_gate.specs.declared.views.Stage.TheVariants.{Outside, Waits, Inside}

abbrev pub total : (View → ℕ) → List View → ℕ
total f [] = 0
total f (v ∷ vs) = f v + total f vs

abbrev pub waits_or_inside : Stage → ℕ
waits_or_inside Outside = 0
waits_or_inside (Waits t) = 1
waits_or_inside (Inside t h b) = 1

abbrev pub ticket_of : Stage → ℕ
ticket_of Outside = 0
ticket_of (Waits t) = t
ticket_of (Inside t h b) = t

abbrev pub history_of : Stage → List (ℕ × Gv)
history_of Outside = []
history_of (Waits t) = []
history_of (Inside t h b) = h

abbrev pub busy : View → ℕ
busy v = waits_or_inside v.stage

abbrev pub parts : View → ℕ
parts v = v.parts

abbrev pub all_parts : ℕ
all_parts = 4294967296

-- each of these numbers belongs to the seat j
abbrev pub Owned : (ℕ → ℕ) → ℕ → List (ℕ × List (ℕ × Gv)) → Type 0
Owned owner j [] = Unit {0}
Owned owner j (c ∷ cs) = (owner c.0 ≡ j) × Owned owner j cs

abbrev pub NotAmong : ℕ → List (ℕ × List (ℕ × Gv)) → Type 0
NotAmong n [] = Unit {0}
NotAmong n (c ∷ cs) = (c.0 ≢ n) × NotAmong n cs

-- the first number is not among the others
abbrev pub FirstApart : List (ℕ × List (ℕ × Gv)) → Type 0
FirstApart [] = Unit {0}
FirstApart (c ∷ cs) = NotAmong c.0 cs

-- the seat that is inside, and whether it has the slot in hand, is not j
abbrev pub NotIn : maybe.Option (ℕ × Bool) → ℕ → Type 0
NotIn none j = Unit {0}
NotIn (some o) j = o.0 ≢ j

module _ (drawn served : ℕ) (log : List (ℕ × Gv)) (first : Gv) (holder owner : ℕ → ℕ) (out : maybe.Option (ℕ × Bool)) (j : ℕ) where
  abbrev pub Turn : Stage → Type 0
  Turn Outside = NotIn out j
  Turn (Waits t) = (served ≤ t) × (t < drawn) × (holder t ≡ j) × NotIn out j
  Turn (Inside t h b) = (t ≡ served) × (t < drawn) × (holder t ≡ j) × (h ≡ log) × (out ≡ some (j, b))

  pub record Knows (v : View) : Type 0 where
    pub base : 0 < v.parts → v.base ≡ first
    pub share : busy v ≤ v.parts
    pub keeps : KeepsAll log v.claims
    pub owned : Owned owner j v.claims
    pub apart : FirstApart v.claims
    pub makes : v.makes ≡ true → (n : ℕ) → v.next ≤ n → (owner n ≡ j) × (items_of n log ≡ [])
    pub turn : Turn v.stage

module _ {S : Type 0} (base : S → Gv) (history : S → List (ℕ × Gv)) where
  -- the value is at home while no pass is inside; else the slot is empty, or in the hand of that pass
  abbrev pub Slot : ℕ → List (ℕ × Gv) → Gv → (ℕ → ℕ) → maybe.Option (ℕ × Bool) → List (maybe.Option (Option S)) → Type 0
  Slot served log first holder none homes = (x : S) × (homes ≡ some (Some x) ∷ []) × (history x ≡ log) × (base x ≡ first)
  Slot served log first holder (some (j, true)) homes = (homes ≡ none ∷ []) × (holder served ≡ j)
  Slot served log first holder (some (j, false)) homes = (homes ≡ some None ∷ []) × (holder served ≡ j)

  pub record Ruled (s : State (Option S) View) : Type 0 where
    pub drawn : ℕ
    pub served : ℕ
    pub log : List (ℕ × Gv)
    pub first : Gv
    pub holder : ℕ → ℕ
    pub owner : ℕ → ℕ
    pub out : maybe.Option (ℕ × Bool)
    pub words : s.words ≡ (drawn % 2 ^ 64) ∷ (served % 2 ^ 64) ∷ (length log % 2 ^ 64) ∷ []
    pub slot : Slot served log first holder out s.homes
    pub shares : total parts s.views ≡ all_parts
    pub waiting : total busy s.views + served ≡ drawn
    pub inside : (k : ℕ) (b : Bool) → out ≡ some (k, b) → (k < length s.views) × (served < drawn)
    pub each : (j : ℕ) (v : View) → get_elem? s.views j ≡ some v → Knows drawn served log first holder owner out j v

-- the first view: it makes the passes
abbrev pub maker : Gv → ℕ → View
maker b n = record { base = b; parts = all_parts - n; makes = true; next = n; claims = []; stage = Outside }

-- a pass that has made no item
abbrev pub fresh_pass : Gv → ℕ → View
fresh_pass b n = record { base = b; parts = 1; makes = false; next = 0; claims = (n, []) ∷ []; stage = Outside }

abbrev pub one_less : View → View
one_less v = record { base = v.base; parts = v.parts - 1; makes = v.makes; next = v.next + 1; claims = v.claims; stage = v.stage }

abbrev pub next_pass : View → View
next_pass v = fresh_pass v.base v.next

abbrev pub joined : View → View → View
joined v w = record { base = v.base; parts = v.parts + w.parts; makes = v.makes; next = v.next; claims = v.claims ++ w.claims; stage = v.stage }

-- the base of a spent seat is never read
abbrev pub spent : View
spent = record { base = base.Stored.gnil; parts = 0; makes = false; next = 0; claims = []; stage = Outside }

abbrev pub at_stage : View → Stage → View
at_stage v g = record { base = v.base; parts = v.parts; makes = v.makes; next = v.next; claims = v.claims; stage = g }

-- the pass leaves this history
abbrev pub leaving : List (ℕ × Gv) → List (ℕ × List (ℕ × Gv)) → List (ℕ × List (ℕ × Gv))
leaving h [] = []
leaving h (c ∷ cs) = (c.0, h) ∷ cs

abbrev pub counted_view : View → ℕ → List (ℕ × Gv) → View
counted_view v t h = record { base = v.base; parts = v.parts; makes = v.makes; next = v.next; claims = leaving h v.claims; stage = Inside t h true }

abbrev pub Sat : Type 0 → Type 0
Sat S = Me (Option S) View

abbrev pub At : Type 0 → Type 0
At S = Step (Option S)

module _ {S : Type 0} where
  abbrev pub drew : At S → Sat S → ℕ → Sat S → Type 0
  drew st m found m' = (t : ℕ) × (m' ≡ (at_stage m.0 (Waits t), m.1)) × (t % 2 ^ 64 ≡ found)

  module _ (base : S → Gv) (history : S → List (ℕ × Gv)) where
    -- its turn has come, and it has the slot with the value
    abbrev pub Comes : ℕ → Sat S → Sat S → Type 0
    Comes t m m' = (x : S) × (m' ≡ (at_stage m.0 (Inside t (history x) true), (0, Some x) ∷ m.1)) × (base x ≡ m.0.base) × KeepsAll (history x) m.0.claims

    abbrev pub looked : At S → Sat S → ℕ → Sat S → Type 0
    looked st m found m' = (t : ℕ) → m.0.stage ≡ Waits t → (t % 2 ^ 64 ≡ found → Comes t m m') × (t % 2 ^ 64 ≢ found → m' ≡ m)

    abbrev pub counted : At S → Sat S → ℕ → Sat S → Type 0
    counted st m found m' = (t : ℕ) (h : List (ℕ × Gv)) (x : S) → m.0.stage ≡ Inside t h true → m.1 ≡ (0, Some x) ∷ [] → m' ≡ (counted_view m.0 t (history x), m.1)

  -- the emptied slot goes home
  abbrev pub set_down : At S → Sat S → ℕ → Sat S → Type 0
  set_down st m found m' = (t : ℕ) (h : List (ℕ × Gv)) → m.0.stage ≡ Inside t h true → m' ≡ (at_stage m.0 (Inside t h false), rest m.1)

  -- the empty slot is taken again
  abbrev pub picked_up : At S → Sat S → ℕ → Sat S → Type 0
  picked_up st m found m' = (t : ℕ) (h : List (ℕ × Gv)) → m.0.stage ≡ Inside t h false → m' ≡ (at_stage m.0 (Inside t h true), (0, None) ∷ m.1)

  abbrev pub put_out : At S → Sat S → ℕ → Sat S → Type 0
  put_out st m found m' = m' ≡ (at_stage m.0 Outside, [])
