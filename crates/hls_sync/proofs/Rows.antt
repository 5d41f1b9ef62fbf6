-- The rows of four tasks in two instances.
use Rattle.std.proofs.Common.{◌≡◌, ℕ, ◌%◌, ◌<◌, List, get_or, refl, sym, subst, arith, zero, suc}
use Rattle.std.specs.List.{Contains, count_by}
use Rattle.c_tree.specs.declared.program.HlsKind.{HlsKind}
use Rattle.hls_sync.specs.declared.visits.HlsRow.{HlsRow}
use Rattle.hls_sync.specs.Meetings.{instance_size}
use Rattle.hls_sync.specs.Shown.{is_mate, IsApart, IsSiteOf}
use Rattle.hls_sync.specs.Syncs.{Syncs, rows_of, IsGiven}
use Rattle.hls_sync.specs.Cases.{site, rows}

-- what holds of each row holds of one that is contained
each_row : (P : HlsRow → Type 0) → P (record { construct = 7; task = 0; inst = 0 }) → P (record { construct = 7; task = 1; inst = 1 }) → P (record { construct = 7; task = 2; inst = 0 }) → P (record { construct = 7; task = 3; inst = 1 })
    → (row : HlsRow) (k : ℕ) → k < 4 → get_or rows k row ≡ row → P row
each_row P a b c d row zero h is = subst P is a
each_row P a b c d row (suc zero) h is = subst P is b
each_row P a b c d row (suc (suc zero)) h is = subst P is c
each_row P a b c d row (suc (suc (suc zero))) h is = subst P is d
each_row P a b c d row (suc (suc (suc (suc k)))) h is = absurd (omega arith)

pub rows_make_a_site : (kind : HlsKind) → IsSiteOf rows (site kind)
rows_make_a_site kind = record {
  instances = λ row there at_site. each_row (λ r. (site kind).instance_of r.task ≡ r.inst) refl refl refl refl row there.0 there.1 there.2;
  sizes = λ row there at_site. each_row (λ r. instance_size (site kind) r.task ≡ count_by (is_mate r) rows) refl refl refl refl row there.0 there.1 there.2;
}

-- a task below 4 has its row
pub given_row : (task : ℕ) → task < 4 → Contains rows (record { construct = 7; task = task; inst = task % 2 })
given_row zero h = (0, omega arith, refl)
given_row (suc zero) h = (1, omega arith, refl)
given_row (suc (suc zero)) h = (2, omega arith, refl)
given_row (suc (suc (suc zero))) h = (3, omega arith, refl)
given_row (suc (suc (suc (suc task)))) h = absurd (omega arith)

task_at : (k : ℕ) (d : HlsRow) → k < 4 → (get_or rows k d).task ≡ k
task_at zero d h = refl
task_at (suc zero) d h = refl
task_at (suc (suc zero)) d h = refl
task_at (suc (suc (suc zero))) d h = refl
task_at (suc (suc (suc (suc k)))) d h = absurd (omega arith)

pub rows_are_apart : IsApart rows
rows_are_apart i j d before within construct task = absurd (let at_i = task_at i d (omega arith) in let at_j = task_at j d within in omega (arith, at_i, at_j, task))

-- tables of these rows have the row of each task
pub given_task : (v : Syncs) (task : ℕ) → rows_of v ≡ rows → task < 4 → IsGiven v 7 (task % 2) task
given_task v task is h = subst (λ (rs : List HlsRow). Contains rs (record { construct = 7; task = task; inst = task % 2 })) (sym is) (given_row task h)
