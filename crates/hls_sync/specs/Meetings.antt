-- Meetings at constructs: the k-th arrivals at a construct of the tasks of one instance of its level are its k-th meeting.
use Rattle.std.specs.Prelude.{ℕ, ◌==◌, ◌&&◌, Bool, List, length, map, filter, Option, None, option_map}
use Rattle.std.specs.List.{last_or, range_with_len}
use Rattle.c_tree.specs.declared.program.HlsKind.{HlsKind}
use Rattle.hls_sync.specs.declared.visits.Visit.{Visit}

-- A construct as its tasks meet there: its kind, its number, how many tasks the run has, and the instance of each task.
pub record Site : Type 0 where
  pub kind : HlsKind
  pub construct : ℕ
  pub tasks : ℕ
  pub instance_of : ℕ → ℕ

-- two tasks are in one instance
abbrev pub are_together : Site → ℕ → ℕ → Bool
are_together site task other = site.instance_of task == site.instance_of other

-- how many tasks the instance of a task has, finished ones too
abbrev pub instance_size : Site → ℕ → ℕ
instance_size site task = length (filter (are_together site task) (range_with_len 0 site.tasks))

-- it is one of the task at the construct
abbrev pub is_visit_of : ℕ → ℕ → Visit → Bool
is_visit_of construct task v = v.construct == construct && v.task == task

-- the arrivals of one task at a construct, in order
abbrev pub visits_of : List Visit → ℕ → ℕ → List Visit
visits_of visits construct task = filter (is_visit_of construct task) visits

-- the number of the meeting that a task's next arrival belongs to
abbrev pub next_visit : List Visit → ℕ → ℕ → ℕ
next_visit visits construct task = length (visits_of visits construct task)

-- the number of the meeting of a task's latest arrival
abbrev pub latest_visit : List Visit → ℕ → ℕ → Option ℕ
latest_visit visits construct task = option_map (λ (v : Visit). v.meeting) (last_or None (visits_of visits construct task))

-- The tasks that have arrived at a meeting of the task's instance, in the order in which they came.
abbrev pub tasks_at : Site → List Visit → ℕ → ℕ → List ℕ
tasks_at site visits task meeting =
    map (λ (v : Visit). v.task)
    (filter (λ (v : Visit). v.construct == site.construct && (v.meeting == meeting && are_together site task v.task)) visits)

-- all tasks of the instance have arrived at the meeting
abbrev pub all_came : Site → List Visit → ℕ → ℕ → Bool
all_came site visits task meeting = length (tasks_at site visits task meeting) == instance_size site task
