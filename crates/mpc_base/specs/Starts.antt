-- Jobs that were started, and what becomes of the counts of who starts them.
use Rattle.std.specs.Prelude.{◌≡◌, ℕ, ◌+◌, ◌-◌, ◌^◌, ◌≤◌, min, Result, Ok, Err}
use Rattle.mpc_base.specs.Causes.{Rose}
use Rattle.mpc_base.specs.FailLists.{FailsAt, failed_so_far}
use Rattle.mpc_base.specs.declared.jobs.Started.{Started}
use Rattle.mpc_base.specs.declared.jobs.StartedAs.{StartedAs}
use Rattle.mpc_base.specs.declared.jobs.StartedAs.TheVariants.{OnThread, Late}
use Rattle.mpc_base.specs.declared.listed_spawner.ListedSpawner.{ListedSpawner}
use Rattle.mpc_base.specs.declared.asks.Choice.{Choice}
use Rattle.mpc_base.specs.declared.asks.Choice.TheVariants as choice
use Rattle.mpc_base.specs.declared.asks.Chosen.{Chosen}

abbrev pub job_within : {J Out : Type 0} → StartedAs J Out → J
job_within (OnThread handle) = handle.promise.0.value
job_within (Late job) = job

-- the job that was started
abbrev pub job_of : {J Out : Type 0} → Started J Out → J
job_of started = job_within started.way

-- What a spawner that counts for itself is to those who call it: how many starts failed, and how many did not.
pub record SpawnCounts : Type 0 where
  pub faults : ℕ
  pub starts : ℕ

-- what was chosen
abbrev pub choice_of : {J : Type 0} → Chosen J → Choice
choice_of chosen = chosen.choice

-- the spawner that starts are handed on to
abbrev pub inner_of : {S : Type 0} → ListedSpawner S → S
inner_of spawner = spawner.inner

-- which starts are refused
abbrev pub refusals_of : {S : Type 0} → ListedSpawner S → FailsAt
refusals_of spawner = spawner.fails

-- the count of faults of a spawner that refuses listed starts, by that of its inner one
abbrev pub faults_with : ℕ → FailsAt → ℕ
faults_with inner refusals = min (inner + failed_so_far refusals) (2 ^ 64 - 1)

-- the count has risen by one, or stands at its type's end
abbrev pub RoseByOne : ℕ → ℕ → Type 0
RoseByOne before now = now ≡ min (before + 1) (2 ^ 64 - 1)

-- the count of faults around a choice: only a refusal is a fault
abbrev pub ChoiceCounts : Choice → ℕ → ℕ → Type 0
ChoiceCounts choice.Refuse before now = (before ≤ now) × Rose before now
ChoiceCounts choice.OnThread before now = now ≡ before
ChoiceCounts choice.Late before now = now ≡ before

-- the count of starts around a start
abbrev pub StartCounts : {T E : Type 0} → Result T E → ℕ → ℕ → Type 0
StartCounts (Ok _) before now = RoseByOne before now
StartCounts (Err _) before now = now ≡ before
