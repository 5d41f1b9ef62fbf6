-- What a meeting at a construct lets its tasks do: who runs the block, who has ended it, and who may go on.
use Rattle.std.specs.Prelude.{ℕ, ◌+◌, ◌==◌, ◌&&◌, not, Bool, true, false, if◌then◌else◌, List, [], ◌∷◌, ◌++◌, length, filter, Option, Some, None}
use Rattle.std.specs.List.{list_any, last_or}
use Rattle.mpc_values.specs.declared.answers.Way.{Way}
use Rattle.mpc_values.specs.declared.answers.Way.TheVariants.{Run, Skip, Hold}
use Rattle.c_tree.specs.declared.program.HlsKind.{HlsKind}
use Rattle.c_tree.specs.declared.program.HlsKind.TheVariants.{Single, Nowait, Barrier}
use Rattle.hls_sync.specs.declared.visits.Visit.{Visit}
use Rattle.hls_sync.specs.Meetings.{Site, instance_size, is_visit_of, visits_of, next_visit, latest_visit, tasks_at, all_came}

-- A single runs its block on the last task of the instance to arrive, and holds the others; a single nowait runs it on
-- the first to arrive, and the others skip it. `before` says how many have arrived before, of so many.
abbrev pub way_in : HlsKind → ℕ → ℕ → Way
way_in Single before size = if before + 1 == size then Run else Hold
way_in Nowait before size = if before == 0 then Run else Skip
way_in Barrier before size = Skip

-- a task's way at its next meeting
abbrev pub way_of : Site → List Visit → ℕ → Way
way_of site visits task =
    way_in site.kind (length (tasks_at site visits task (next_visit visits site.construct task))) (instance_size site task)

-- the visits with one arrival of the task more
abbrev pub with_visit : List Visit → ℕ → ℕ → List Visit
with_visit visits construct task = visits ++ record { construct = construct; task = task; meeting = next_visit visits construct task } ∷ []

-- the first, if there is one
abbrev pub first_of_them : List ℕ → Option ℕ
first_of_them [] = None
first_of_them (task ∷ more) = Some task

-- The task that runs the block, of those that came in this order: of a single the last of all, of a single nowait the
-- first to come.
abbrev pub runner_in : HlsKind → Bool → List ℕ → Option ℕ
runner_in Single all tasks = if all then last_or None tasks else None
runner_in Nowait all tasks = first_of_them tasks
runner_in Barrier all tasks = None

-- the task that runs the block at a meeting of the task's instance, once it is settled
abbrev pub runner_of : Site → List Visit → ℕ → ℕ → Option ℕ
runner_of site visits task meeting = runner_in site.kind (all_came site visits task meeting) (tasks_at site visits task meeting)

-- it is this task
abbrev pub is_task : ℕ → Option ℕ → Bool
is_task task None = false
is_task task (Some other) = other == task

-- the runner has made its exit from the meeting
abbrev pub has_exit : List Visit → ℕ → ℕ → ℕ → Bool
has_exit exits construct runner meeting = list_any (λ (e : Visit). is_visit_of construct runner e && e.meeting == meeting) exits

-- the same of a runner, once there is one
abbrev pub has_exit_of : List Visit → ℕ → ℕ → Option ℕ → Bool
has_exit_of exits construct meeting None = false
has_exit_of exits construct meeting (Some runner) = has_exit exits construct runner meeting

-- the running task has made its exit from a meeting of the task's instance; a task that has not arrived may go
abbrev pub has_ended : Site → List Visit → List Visit → ℕ → Option ℕ → Bool
has_ended site visits exits task None = true
has_ended site visits exits task (Some meeting) = has_exit_of exits site.construct meeting (runner_of site visits task meeting)

-- A held task may go on once the running task has made its exit from the meeting of the task's latest arrival.
abbrev pub may_go : Site → List Visit → List Visit → ℕ → Bool
may_go site visits exits task = has_ended site visits exits task (latest_visit visits site.construct task)

-- the task runs the meeting of this arrival of its own, and has not ended it
abbrev pub is_running : Site → List Visit → List Visit → ℕ → Visit → Bool
is_running site visits exits task v =
    is_task task (runner_of site visits task v.meeting) && not (has_exit exits site.construct task v.meeting)

-- the latest meeting that the task runs and has not ended
abbrev pub running_visit : Site → List Visit → List Visit → ℕ → Option Visit
running_visit site visits exits task = last_or None (filter (is_running site visits exits task) (visits_of visits site.construct task))

-- the exits with one more
abbrev pub with_exit : List Visit → Option Visit → List Visit
with_exit exits None = exits
with_exit exits (Some v) = exits ++ v ∷ []

-- all tasks of the instance have arrived at a meeting; a task that has not arrived may go
abbrev pub is_whole : Site → List Visit → ℕ → Option ℕ → Bool
is_whole site visits task None = true
is_whole site visits task (Some meeting) = all_came site visits task meeting

-- A task may go on after a barrier once all tasks of its instance have arrived at the meeting of its latest arrival.
abbrev pub may_leave_bar : Site → List Visit → ℕ → Bool
may_leave_bar site visits task = is_whole site visits task (latest_visit visits site.construct task)
