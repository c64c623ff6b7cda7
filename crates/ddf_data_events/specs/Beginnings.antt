-- How a history of a group and of its data begins.
use Rattle.std.specs.Prelude.{ℕ, ◌<◌, ◌^◌, List, None}
use Rattle.ddf_bay.specs.State.{BayState}
use Rattle.ddf_data_group.specs.Grouped.{Promises}
use Rattle.ddf_history.specs.Groups.{groups}
use Rattle.ddf_history.specs.Issued.{Past}
use Rattle.ddf_data_events.specs.Moments.{KeepsAll, Moment}

-- nothing is promised of any array
abbrev pub none_promised : Promises
none_promised array = None

-- the moment at which a history of a group begins on a bay, with these floors of its slots' disks
abbrev pub first_moment : {group : List ℕ} {B : Type 0} → Past (groups group) → B → (floor : ℕ → ℕ) → ((slot : ℕ) → floor slot < 2 ^ 64) → Moment group B
first_moment past bay floor small = record { past = past; bay = bay; promises = none_promised; floor = floor; small = small }

-- A history of a group and of its data begins on a bay: all is kept, nothing is promised of any array yet, and the disk of each member has a floor.
pub record Begins (group : List ℕ) {B : Type 0} (disks : B → BayState B) (past : Past (groups group)) (bay : B) : Type 0 where
  pub floor : ℕ → ℕ
  pub small : (slot : ℕ) → floor slot < 2 ^ 64
  pub keeps : KeepsAll disks (first_moment past bay floor small)
