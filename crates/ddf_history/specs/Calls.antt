-- What a call knows of the disks.
use Rattle.std.specs.Prelude.{◌≡◌, ◌≢◌, ◌⊎◌, ℕ, ◌≤◌, ◌∷◌, [], Bool, true, false}
use Rattle.ddf_history.specs.Reading.{Reading, Shown, Scene, ShowsGroup, IsCopyOf, stands}
use Rattle.ddf_history.specs.Leaders.{seen}
use Rattle.ddf_history.specs.Issued.{Past, IsSince, is_away}
use Rattle.ddf_history.specs.Promise.{IsKept, IsNamed, IsStanding}
use Rattle.ddf_history.specs.Steps.{IsShown}
use Rattle.ddf_history.specs.Answer.{IsClaimed, IsPart, IsLeader, IsReadAs, IsReadable, HasMember}

module _ {reading : Reading} where
  -- A call read these slots of what the disks held, a current member among them, and assembled this configuration.
  pub record IsAssembled (past : Past reading) (held : Scene reading.Copy) (readable : ℕ → Bool) (config : reading.Config) : Type 0 where
    pub is_kept : IsKept past held
    pub may_read : IsReadable past held readable
    pub member : HasMember past held readable
    pub is_read : IsReadAs reading past.slots (seen readable held) config

  -- Each current member that isn't away was read.
  abbrev pub AreSeated : Past reading → (readable : ℕ → Bool) → reading.Config → Type 0
  AreSeated past readable config = (slot : ℕ) → is_away past slot ≡ false → reading.has_current config (past.disk slot) ≡ true → readable slot ≡ true

  -- A call that doesn't take the group writes slots whose disks aren't current members since the last acknowledged
  -- configuration. What they show then doesn't show the group, nor names such a member. Other slots show what they showed.
  pub record IsAside (past : Past reading) (slot : ℕ) (after : Shown reading.Copy) : Type 0 where
    pub no_member : (number : ℕ) (config : reading.Config) → IsSince past.changes number config → reading.has_current config (past.disk slot) ≡ true → ⊥
    pub shows_none : (copy : reading.Copy) → IsCopyOf after copy → stands reading copy ≡ true → ⊥
    pub names_none : (copy : reading.Copy) (number : ℕ) (config : reading.Config) → IsCopyOf after copy → IsSince past.changes number config → reading.has_current config (reading.disk_of copy) ≡ true → ⊥

  abbrev pub AreAside : Past reading → (before after : Scene reading.Copy) → Type 0
  AreAside past before after = (slot : ℕ) → (after slot ≡ before slot) ⊎ IsAside past slot (after slot)

  -- ---- the start of a history

  -- One configuration was issued, and is acknowledged. Nothing is lost.
  pub record IsStart (past : Past reading) (config : reading.Config) : Type 0 where
    pub issued_is : past.changes.issued ≡ config ∷ []
    pub acked_is : past.changes.acked ≡ 0
    pub own : past.changes.own_from ≤ 1
    pub lost_none : (slot : ℕ) → past.lost slot ≡ false
    pub returned_none : (slot : ℕ) → past.returned slot ≡ false
    pub alone : (s t : ℕ) → reading.has_current config (past.disk s) ≡ true → past.disk s ≡ past.disk t → s ≡ t

  -- A new group: each slot whose disk is a member shows the configuration fully, and agrees with the others. No other slot
  -- shows the group.
  pub record IsFounded (past : Past reading) (scene : Scene reading.Copy) (config : reading.Config) : Type 0 where
    pub own : past.changes.own_from ≡ 0
    pub members : (slot : ℕ) → reading.has_current config (past.disk slot) ≡ true → IsShown reading (past.disk slot) (Unit {0}) (scene slot) config
    pub others : (slot : ℕ) (copy : reading.Copy) → reading.has_current config (past.disk slot) ≡ false → IsCopyOf (scene slot) copy → stands reading copy ≡ true → ⊥
    pub names_none : (slot : ℕ) (copy : reading.Copy) → reading.has_current config (past.disk slot) ≡ false → IsCopyOf (scene slot) copy → reading.has_current config (reading.disk_of copy) ≡ true → ⊥
    pub agree : (s t : ℕ) (one other : reading.Copy) → s ≢ t → IsStanding past scene s one → IsStanding past scene t other → reading.Agree one other

  -- A group from elsewhere: assembly of all slots gives the configuration, and no slot that shows the group lists a current
  -- member as missing.
  pub record IsFound (past : Past reading) (scene : Scene reading.Copy) (config : reading.Config) : Type 0 where
    pub own : past.changes.own_from ≡ 1
    pub is_read : IsReadAs reading past.slots scene config
    pub members : (slot : ℕ) → reading.has_current config (past.disk slot) ≡ true → IsNamed reading (past.disk slot) (scene slot)
    pub named : (slot : ℕ) (copy : reading.Copy) → IsCopyOf (scene slot) copy → reading.disk_of copy ≡ past.disk slot
    pub misses_none : (slot : ℕ) (copy : reading.Copy) (disk : reading.Disk) → IsCopyOf (scene slot) copy → ShowsGroup reading (scene slot) → reading.has_current config disk ≡ true → reading.lists_missing copy disk ≡ true → ⊥
    -- A slot that leads shows what the leaders give.
    pub leaders_show : (slot : ℕ) (copy : reading.Copy) → IsLeader reading scene slot copy → reading.Shows copy config
    -- Each current member is there.
    pub are_present : (disk : reading.Disk) → reading.has_current config disk ≡ true → (slot : ℕ) × (copy : reading.Copy) × IsPart reading scene slot copy × (reading.disk_of copy ≡ disk)
    pub agree_or : (one other : reading.Copy) → reading.Agree one other ⊎ (reading.Agree one other → ⊥)

module _ (reading : Reading) where
  -- The slots that the lowest leader claims are made sure: a stop leaves what they held.
  abbrev pub AreSure : (readable : ℕ → Bool) → (held scene : Scene reading.Copy) → Type 0
  AreSure readable held scene = (slot : ℕ) (copy : reading.Copy) → IsClaimed reading (seen readable held) slot copy → scene slot ≡ held slot

  -- No member is absent: for each current member there is a slot that is claimed.
  abbrev pub NoneAbsent : (readable : ℕ → Bool) → (held : Scene reading.Copy) → reading.Config → Type 0
  NoneAbsent readable held config = (disk : reading.Disk) → reading.has_current config disk ≡ true → (slot : ℕ) × (copy : reading.Copy) × IsClaimed reading (seen readable held) slot copy × (reading.disk_of copy ≡ disk)
