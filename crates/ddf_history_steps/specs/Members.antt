-- What a call leaves of the members of its group's history.
use Rattle.std.specs.Prelude.{◌≡◌, ℕ, true, List, Some, slice_get}
use Rattle.ddf_config.specs.Configuration.{Configuration}
use Rattle.ddf_view.specs.View.{View}
use Rattle.ddf_history.specs.Calls.{IsAside}
use Rattle.ddf_history.specs.Groups.{Disk, groups, has_current, has_missing}
use Rattle.ddf_history.specs.Issued.{IsSince, Past}
use Rattle.ddf_history.specs.Reading.{Shown}
use Rattle.ddf_steps.specs.Steps.{Step}

-- By the configurations since the last acknowledged one, at the call's entry and then. A disk that was no current member is none; one that was
-- is one, where each of the call's steps has it so; one that was missing is missing. A slot that was aside of the history is so, while it shows
-- what it showed.
pub record KeepsMembers (group : List ℕ) (past now : Past (groups group)) (steps : List Step) : Type 0 where
  pub makes_none : (disk : Disk) → ((number : ℕ) (config : Configuration) → IsSince past.changes number config → has_current config disk ≡ true → ⊥)
      → (number : ℕ) (config : Configuration) → IsSince now.changes number config → has_current config disk ≡ true → ⊥
  pub stays_current : (disk : Disk) → ((number : ℕ) (config : Configuration) → IsSince past.changes number config → has_current config disk ≡ true)
      → ((place : ℕ) (step : Step) → slice_get steps place ≡ Some step → has_current step.config disk ≡ true)
      → (number : ℕ) (config : Configuration) → IsSince now.changes number config → has_current config disk ≡ true
  pub stays_missing : (disk : Disk) → ((number : ℕ) (config : Configuration) → IsSince past.changes number config → has_missing config disk ≡ true)
      → (number : ℕ) (config : Configuration) → IsSince now.changes number config → has_missing config disk ≡ true
  pub stays_aside : (slot : ℕ) (shown : Shown View) → IsAside past slot shown → IsAside now slot shown
