-- Two groups over the same disks: what is known of both at one moment, and that neither has a disk of the other.
use Rattle.std.specs.Prelude.{◌≡◌, ℕ, ◌<◌, ◌≤◌, ◌^◌, Bool, List, true, Some, slice_get}
use Rattle.ddf_bay.specs.State.{BayState}
use Rattle.ddf_config.specs.Configuration.{Configuration}
use Rattle.ddf_data_group.specs.Grouped.{Promises}
use Rattle.ddf_history.specs.Groups.{Disk, groups, has_current}
use Rattle.ddf_history.specs.Issued.{IsSince, Past}
use Rattle.ddf_seats.specs.Group.{GroupValue}
use Rattle.ddf_history_steps.specs.Going.{IsAdmitted}
use Rattle.ddf_data_events.specs.Moments.{KeepsAll, Moment}

-- ---- one group

-- What is known of a group beside its bay: what was issued and lost, what is promised of its arrays, and the floor of each slot's disk.
pub record Known (group : List ℕ) : Type 0 where
  pub past : Past (groups group)
  pub promises : Promises
  pub floor : ℕ → ℕ
  pub small : (slot : ℕ) → floor slot < 2 ^ 64

-- the moment of its history on a bay
abbrev pub moment_of : {group : List ℕ} {B : Type 0} → Known group → B → Moment group B
moment_of known bay = record { past = known.past; bay = bay; promises = known.promises; floor = known.floor; small = known.small }

abbrev pub known_of : {group : List ℕ} {B : Type 0} → Moment group B → Known group
known_of moment = record { past = moment.past; promises = moment.promises; floor = moment.floor; small = moment.small }

-- A change of this engine is acknowledged, and no disk joins by one that isn't yet: each that is a current member since the last acknowledged change is one by that.
pub record HasItsMembers (group : List ℕ) (past : Past (groups group)) : Type 0 where
  pub own : past.changes.own_from ≤ past.changes.acked
  pub none_joins : (number : ℕ) (config last : Configuration) (disk : Disk) → IsSince past.changes number config → has_current config disk ≡ true
      → slice_get past.changes.issued past.changes.acked ≡ Some last → has_current last disk ≡ true

-- ---- two groups

-- They are two, and since the last acknowledged change of each no slot has the disk of a current member of both, and no disk is one of both.
pub record AreApart (one other : List ℕ) (ours : Past (groups one)) (theirs : Past (groups other)) : Type 0 where
  pub another : one ≡ other → ⊥
  pub no_slot : (slot m n : ℕ) (config next : Configuration) → IsSince ours.changes m config → IsSince theirs.changes n next → has_current config (ours.disk slot) ≡ true
      → has_current next (theirs.disk slot) ≡ true → ⊥
  pub no_disk : (disk : Disk) (m n : ℕ) (config next : Configuration) → IsSince ours.changes m config → IsSince theirs.changes n next → has_current config disk ≡ true
      → has_current next disk ≡ true → ⊥

-- Two groups over one bay.
pub record Both (one other : List ℕ) (B : Type 0) : Type 0 where
  pub bay : B
  pub ours : Known one
  pub theirs : Known other

module _ {one other : List ℕ} {B : Type 0} where
  abbrev pub our_moment : Both one other B → Moment one B
  our_moment both = moment_of both.ours both.bay

  abbrev pub their_moment : Both one other B → Moment other B
  their_moment both = moment_of both.theirs both.bay

  -- the same, told of the other one
  abbrev pub turned : Both one other B → Both other one B
  turned both = record { bay = both.bay; ours = both.theirs; theirs = both.ours }

-- Both histories hold all, each group has its own members, and they are apart.
pub record AreBeside {one other : List ℕ} {B : Type 0} (disks : B → BayState B) (both : Both one other B) : Type 0 where
  pub keeps : KeepsAll disks (our_moment both)
  pub keeps_theirs : KeepsAll disks (their_moment both)
  pub members : HasItsMembers one both.ours.past
  pub their_members : HasItsMembers other both.theirs.past
  pub apart : AreApart one other both.ours.past both.theirs.past

-- A group that joins another one: at this moment of its own history over the same bay it stands beside a third one too, and its history admits what was found of it by a
-- look that left these slots out.
pub record JoinsBeside {one other : List ℕ} {B : Type 0} (disks : B → BayState B) (both : Both one other B) (former : List ℕ) (left : List Bool) (joining : GroupValue) (known : Known former) : Type 0 where
  pub beside : AreBeside disks (record { bay = both.bay; ours = known; theirs = both.theirs })
  pub admitted : IsAdmitted former known.past (disks both.bay) left joining
