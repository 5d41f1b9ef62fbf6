-- The slots of the functions that are open.
use Rattle.std.proofs.Common.{◌≡◌, ℕ, suc, ◌+◌, List, [], ◌∷◌, length, refl, ap, ◌∙◌, take, drop, set, arith}
use Rattle.std.proofs.lemmas.List.{take-set-le, drop-set-add}
use Rattle.mpc_values.specs.declared.values.Word.{Word}
use Rattle.task_vm.specs.declared.frames.Caller.{Caller}
use Rattle.task_vm.specs.Framed.{frames_in, framed}

-- as many frames as calls that wait
pub length-frames_in : (callers : List Caller) (all : List Word) → length (frames_in callers all) ≡ length callers
length-frames_in [] all = refl
length-frames_in (c ∷ callers) all = ap (λ n. suc n) (length-frames_in callers (take c.base all))

-- a slot of the present function that is set changes no other function's
pub framed-set : (base : ℕ) (callers : List Caller) (all : List Word) (slot : ℕ) (w : Word)
    → framed base callers (set all (base + slot) w) ≡ record (framed base callers all) { slots = set (drop base all) slot w }
framed-set base callers all slot w =
    ap (λ (s : List Word). record { slots = s; frames = frames_in callers (take base (set all (base + slot) w)) }) (drop-set-add base all slot w)
    ∙ ap (λ (t : List Word). record { slots = set (drop base all) slot w; frames = frames_in callers t }) (take-set-le base all (base + slot) w (omega arith))
