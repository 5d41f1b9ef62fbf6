-- The slots of the functions that are open, as definitions see them.
use Rattle.std.specs.Prelude.{ℕ, List, [], ◌∷◌, take, drop}
use Rattle.mpc_values.specs.declared.values.Word.{Word}
use Rattle.c_code.specs.Machine.{Frame}
use Rattle.task_vm.specs.declared.frames.Caller.{Caller}

-- the words of the present function's locals, and the calls that wait, the latest first
pub record Framed : Type 0 where
  pub slots : List Word
  pub frames : List Frame

-- The calls that wait, the latest first, whose slots stand one behind the other in a list: those of a caller from its
-- base on, up to where those of the function that it called begin.
abbrev pub frames_in : List Caller → List Word → List Frame
frames_in [] all = []
frames_in (c ∷ callers) all = record { pc = c.pc; slots = drop c.base all; line = c.line } ∷ frames_in callers (take c.base all)

-- the present function's slots stand from a base on
abbrev pub framed : ℕ → List Caller → List Word → Framed
framed base callers all = record { slots = drop base all; frames = frames_in callers (take base all) }
