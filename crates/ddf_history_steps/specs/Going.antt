-- What a call that takes a group means to a history of it.
use Rattle.std.specs.Prelude.{◌≡◌, ◌⊎◌, ℕ, ◌+◌, ◌<◌, ◌≤◌, ◌==◌, not, Bool, true, false, List, [], ◌∷◌, length, map, filter, take, if◌then◌else◌}
use Rattle.ddf_bay.specs.State.{BayState}
use Rattle.ddf_bay.specs.Moments.{StopsLeave}
use Rattle.ddf_config.specs.Configuration.{Configuration}
use Rattle.ddf_history.specs.Issued.{Past, IsSince, acknowledge, issue, leave_out, take_off}
use Rattle.ddf_history.specs.Promise.{IsKept}
use Rattle.ddf_history.specs.Answer.{HasMember, IsReadable}
use Rattle.ddf_history.specs.Groups.{groups, has_current}
use Rattle.ddf_history.specs.Scenes.{scene_of}
use Rattle.ddf_seats.specs.Group.{GroupValue}
use Rattle.ddf_seats.specs.Leading.{some}
use Rattle.ddf_steps.specs.Steps.{Step}
use Rattle.ddf_history_steps.specs.Kept.{AreAllKept, is_read}

-- ---- the changes of a call

-- The configurations that a call issues with these steps. A step that gives the configuration as it is to seats that lag issues none.
abbrev pub changes_in : GroupValue → List Step → List Configuration
changes_in found steps = map (λ step. step.config) (filter (λ step. not (step.config.sequence == found.config.sequence)) steps)

module _ (group : List ℕ) where
  -- The history as a call goes on from it: what it assembled is the last change. Where members are absent, the slots of current members
  -- that it doesn't read count as lost.
  abbrev pub begun : Past (groups group) → (readable : ℕ → Bool) → GroupValue → (number : ℕ) → Past (groups group)
  begun past readable found number = if some found.absent then take_off (leave_out past readable found.config) number else take_off past number

  -- changes issued one after another
  abbrev pub issue_all : Past (groups group) → List Configuration → Past (groups group)
  issue_all past [] = past
  issue_all past (next ∷ others) = issue_all (issue past next) others

  -- Behind what the call assembled, the first of its changes are issued, so many, and this is the last that is acknowledged: it was so at
  -- entry, or what was assembled is, or one of them. Where members are absent their loss is the first, so that no slot counts as lost before it
  -- is issued. They are issued in turn: before the next one all are acknowledged, but for that loss, which comes first of all.
  pub record IsUnderway (past : Past (groups group)) (readable : ℕ → Bool) (found : GroupValue) (changes : List Configuration) (now : Past (groups group)) : Type 0 where
    pub number : ℕ
    pub since : IsSince past.changes number found.config
    pub issued : ℕ
    pub few : issued ≤ length changes
    pub loses : some found.absent ≡ true → 1 ≤ issued
    pub acked : ℕ
    pub stands : (acked ≡ past.changes.acked) ⊎ (number ≤ acked)
    pub most : acked ≤ number + issued
    pub in_turn : (issued ≡ 0) ⊎ (number + issued ≤ acked + 1) ⊎ ((some found.absent ≡ true) × (issued ≡ 1))
    pub is_now : now ≡ acknowledge (issue_all (begun past readable found number) (take issued changes)) acked

  -- how far it came: not yet begun, or under way
  abbrev pub Goes : Past (groups group) → (readable : ℕ → Bool) → GroupValue → List Configuration → Past (groups group) → Type 0
  Goes past readable found changes now = (now ≡ past) ⊎ IsUnderway past readable found changes now

  -- All its changes are issued and acknowledged.
  pub record IsOver (past : Past (groups group)) (readable : ℕ → Bool) (found : GroupValue) (changes : List Configuration) (now : Past (groups group)) : Type 0 where
    pub number : ℕ
    pub since : IsSince past.changes number found.config
    pub is_now : now ≡ acknowledge (issue_all (begun past readable found number) changes) (number + length changes)

  -- where it ends: where it was done, all is acknowledged
  abbrev pub Ends : Past (groups group) → (readable : ℕ → Bool) → GroupValue → List Configuration → (done : Bool) → Past (groups group) → Type 0
  Ends past readable found changes true now = IsOver past readable found changes now
  Ends past readable found changes false now = Goes past readable found changes now

  -- The slots stay: the disk in each, and which of them are lost and have returned. Besides, none is lost that the call reads, and of the others a
  -- current member's alone.
  pub record KeepsSlots (past now : Past (groups group)) (readable : ℕ → Bool) (found : GroupValue) : Type 0 where
    pub same_slots : now.slots ≡ past.slots
    pub same_disks : now.disk ≡ past.disk
    pub same_returned : now.returned ≡ past.returned
    pub same_own : now.changes.own_from ≡ past.changes.own_from
    pub still_lost : (slot : ℕ) → past.lost slot ≡ true → now.lost slot ≡ true
    pub not_lost : (slot : ℕ) → readable slot ≡ true → now.lost slot ≡ past.lost slot
    pub lost_one : (slot : ℕ) → now.lost slot ≡ true → (past.lost slot ≡ true) ⊎ ((readable slot ≡ false) × (has_current found.config (past.disk slot) ≡ true))

  -- ---- what a call asks of a history, and what it promises

  -- A history admits a call that takes its group and leaves these slots out. A current member is among the slots that it reads. In a group
  -- from elsewhere all members are present until a change of this engine is acknowledged. The disks show what they should.
  pub record IsAdmitted {D : Type 0} (past : Past (groups group)) (disks : BayState D) (left : List Bool) (found : GroupValue) : Type 0 where
    pub same_slots : past.slots ≡ length disks.sizes
    pub may_read : IsReadable past (scene_of disks.sizes disks.held) (is_read left)
    pub member : HasMember past (scene_of disks.sizes disks.held) (is_read left)
    pub all_present : past.changes.acked < past.changes.own_from → found.absent ≡ []
    pub is_kept : IsKept past (scene_of disks.sizes disks.held)

  -- Whatever a stop leaves, at any moment since the call's entry, shows what it should for the changes as they then are; and so does, at
  -- its end, whatever a stop may leave then, where the bay still tells of it.
  pub record KeepsHistory {D : Type 0} (old new : BayState D) (past : Past (groups group)) (left : List Bool) (found : GroupValue) (changes : List Configuration) (done : Bool) : Type 0 where
    pub any_moment : StopsLeave old new (λ image. (now : Past (groups group)) × Goes past (is_read left) found changes now × IsKept now (scene_of old.sizes image))
    pub ends : new.tells_left → (now : Past (groups group)) × Ends past (is_read left) found changes done now × AreAllKept group now new
