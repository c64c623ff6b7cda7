-- A history with one configuration since the last acknowledged one: what holds of it holds of each.
use Rattle.std.proofs.Common.{◌≡◌, ℕ, Bool, true, List, Some, subst, sym}
use Rattle.std.specs.Prelude.{slice_get}
use Rattle.ddf_bay.specs.Sectors.{Image}
use Rattle.ddf_config.specs.Configuration.{Configuration}
use Rattle.ddf_data_group.specs.Grouped.{KeepsArrays, Promises}
use Rattle.ddf_history.specs.Groups.{groups}
use Rattle.ddf_history.specs.Issued.{IsSince, Past}
use Rattle.ddf_stage.specs.declared.desk.Desk.{Desk}
use Rattle.ddf_stage.specs.declared.desk.Staged.{Staged}
use Rattle.ddf_stage.specs.Laid.{on_desk}
use Rattle.ddf_stage_promise.specs.Footing.{Footing}
use Rattle.ddf_stage_promise.specs.Staged.{KeepsStaged, ShowsOne, arrays_on, desks_on, laid_over, losing, seats_on}

module _ (group : List ℕ) (footing : Footing) (past : Past (groups group)) (number : ℕ) (config : Configuration)
    (only : (n : ℕ) (c : Configuration) → IsSince past.changes n c → (n ≡ number) × (c ≡ config)) (image : Image) where
  pub keeps_each : (promises : Promises)
      → ((lost : ℕ → Bool) → ((slot : ℕ) → past.lost slot ≡ true → lost slot ≡ true)
      → KeepsArrays config (seats_on group footing (losing group footing past lost) config) (laid_over group footing (losing group footing past lost) number config image) promises)
      → KeepsStaged group footing past image promises
  keeps_each promises keeps lost stay n c is =
      let same = only n c is in
      subst (λ (x : ℕ). KeepsArrays c (seats_on group footing (losing group footing past lost) c) (laid_over group footing (losing group footing past lost) x c image) promises) (sym same.0)
      (subst (λ (x : Configuration). KeepsArrays x (seats_on group footing (losing group footing past lost) x) (laid_over group footing (losing group footing past lost) number x image) promises) (sym same.1)
      (keeps lost stay))

  pub shows_each : ((j k : ℕ) (desk other : Desk) (shown found : Staged) → slice_get (desks_on group footing past config) j ≡ Some desk → slice_get (desks_on group footing past config) k ≡ Some other
      → on_desk (arrays_on group footing past number config) image desk ≡ Some shown → on_desk (arrays_on group footing past number config) image other ≡ Some found → shown ≡ found)
      → ShowsOne group footing past image
  shows_each one n c is =
      let same = only n c is in
      subst
      (λ (x : ℕ). (j k : ℕ) (desk other : Desk) (shown found : Staged) → slice_get (desks_on group footing past c) j ≡ Some desk → slice_get (desks_on group footing past c) k ≡ Some other
      → on_desk (arrays_on group footing past x c) image desk ≡ Some shown → on_desk (arrays_on group footing past x c) image other ≡ Some found → shown ≡ found) (sym same.0)
      (subst
      (λ (x : Configuration). (j k : ℕ) (desk other : Desk) (shown found : Staged) → slice_get (desks_on group footing past x) j ≡ Some desk → slice_get (desks_on group footing past x) k ≡ Some other
      → on_desk (arrays_on group footing past number x) image desk ≡ Some shown → on_desk (arrays_on group footing past number x) image other ≡ Some found → shown ≡ found) (sym same.1)
      one)
