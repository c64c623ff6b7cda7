-- What each slot shows at every moment, whatever a stop leaves.
use Rattle.std.specs.Prelude.{◌≡◌, ◌≢◌, ◌⊎◌, ℕ, ◌<◌, ◌≤◌, ◌+◌, not, true, false, Some, slice_get}
use Rattle.ddf_history.specs.Reading.{Reading, Shown, Scene, ShowsGroup, IsCopyOf, stands}
use Rattle.ddf_history.specs.Reading.Shown.{One}
use Rattle.ddf_history.specs.Issued.{Changes, Past, IsSince, IsChain, is_away}
use Rattle.ddf_history.specs.Leaders.{seen, leading_copies}

-- The slot shows copies, and they name the disk.
pub record IsNamed (reading : Reading) (disk : reading.Disk) (shown : Shown reading.Copy) : Type 0 where
  pub copy : reading.Copy
  pub is_copy : IsCopyOf shown copy
  pub all : (other : reading.Copy) → IsCopyOf shown other → reading.disk_of other ≡ disk

module _ {reading : Reading} where
  -- The disk's slot shows, in copies that don't differ, a configuration since the last acknowledged one of which it is a
  -- current member.
  pub record IsOn (changes : Changes reading) (disk : reading.Disk) (shown : Shown reading.Copy) : Type 0 where
    pub number : ℕ
    pub config : reading.Config
    pub since : IsSince changes number config
    pub copy : reading.Copy
    pub is_only : shown ≡ One copy
    pub is_ours : reading.is_ours copy ≡ true
    pub names : reading.disk_of copy ≡ disk
    pub shows : reading.Shows copy config
    pub is_full : changes.own_from ≤ number → reading.ShowsFully copy config
    pub is_member : reading.has_current config disk ≡ true

  -- A copy of the group that is out of the way: it is older than the last acknowledged configuration, and its disk has the
  -- reference of no current member.
  pub record IsBehind (changes : Changes reading) (disk : reading.Disk) (copy : reading.Copy) : Type 0 where
    pub is_older : (config : reading.Config) → slice_get changes.issued changes.acked ≡ Some config → reading.sequence_of copy < reading.sequence config
    pub is_other : (number : ℕ) (config : reading.Config) (member : reading.Disk) → IsSince changes number config → reading.has_current config member ≡ true → reading.reference member ≢ reading.reference disk

  -- The disk isn't a current member in the last acknowledged configuration. Where it is one later, its slot shows another group.
  -- What it shows of this group is out of the way, and none of its copies lists a current member as missing then.
  pub record IsOutside (changes : Changes reading) (disk : reading.Disk) (shown : Shown reading.Copy) : Type 0 where
    pub no_member : (config : reading.Config) → slice_get changes.issued changes.acked ≡ Some config → reading.has_current config disk ≡ true → ⊥
    pub shows_some : (number : ℕ) (config : reading.Config) → IsSince changes number config → reading.has_current config disk ≡ true → IsNamed reading disk shown
    pub joins_later : (number : ℕ) (config : reading.Config) (copy : reading.Copy) → IsSince changes number config → reading.has_current config disk ≡ true → IsCopyOf shown copy → reading.is_ours copy ≡ true → ⊥
    pub is_behind : (copy : reading.Copy) → IsCopyOf shown copy → stands reading copy ≡ true → IsBehind changes disk copy
    pub misses_none : (copy : reading.Copy) (number : ℕ) (config : reading.Config) (member : reading.Disk) → IsCopyOf shown copy → ShowsGroup reading shown → IsSince changes number config → reading.has_current config member ≡ true → reading.lists_missing copy member ≡ true → ⊥

  -- Before the first change of this engine is acknowledged a current member's slot may show an older configuration, in copies
  -- that may differ. They list no current member as missing.
  pub record IsLagging (changes : Changes reading) (disk : reading.Disk) (shown : Shown reading.Copy) : Type 0 where
    pub is_young : changes.acked < changes.own_from
    pub shows_some : IsNamed reading disk shown
    pub is_member : (config : reading.Config) → slice_get changes.issued changes.acked ≡ Some config → reading.has_current config disk ≡ true
    pub is_older : (copy : reading.Copy) (config : reading.Config) → IsCopyOf shown copy → stands reading copy ≡ true → slice_get changes.issued changes.acked ≡ Some config → reading.sequence_of copy < reading.sequence config
    pub misses_none : (copy : reading.Copy) (number : ℕ) (config : reading.Config) (member : reading.Disk) → IsCopyOf shown copy → ShowsGroup reading shown → IsSince changes number config → reading.has_current config member ≡ true → reading.lists_missing copy member ≡ true → ⊥

  -- What a slot shows that isn't away.
  abbrev pub IsRight : Changes reading → reading.Disk → Shown reading.Copy → Type 0
  IsRight changes disk shown = IsOn changes disk shown ⊎ IsOutside changes disk shown ⊎ IsLagging changes disk shown

  -- A slot that isn't away shows a copy of the group.
  pub record IsStanding (past : Past reading) (scene : Scene reading.Copy) (slot : ℕ) (copy : reading.Copy) : Type 0 where
    pub is_here : is_away past slot ≡ false
    pub is_copy : IsCopyOf (scene slot) copy
    pub is_standing : stands reading copy ≡ true

  -- Each slot by itself, and what several have in common.
  pub record IsKept (past : Past reading) (scene : Scene reading.Copy) : Type 0 where
    pub last : reading.Config
    pub is_last : slice_get past.changes.issued past.changes.acked ≡ Some last
    -- Only the first may be from elsewhere.
    pub own_next : past.changes.own_from ≤ past.changes.acked + 1
    pub chain : IsChain past.changes
    pub each : (slot : ℕ) → is_away past slot ≡ false → IsRight past.changes (past.disk slot) (scene slot)
    -- Two slots that show the same configuration agree.
    pub agree : (s t number : ℕ) (one other : reading.Copy) (config : reading.Config) → s ≢ t → IsStanding past scene s one → IsStanding past scene t other → IsSince past.changes number config → reading.Shows one config → reading.Shows other config → reading.Agree one other
    -- No two slots that show the group have one reference.
    pub apart : (s t : ℕ) (one other : reading.Copy) → s ≢ t → IsStanding past scene s one → IsStanding past scene t other → reading.reference (past.disk s) ≢ reading.reference (past.disk t)
    -- A copy of a slot that shows the group, or that names a current member, names its slot's disk.
    pub named : (slot : ℕ) (copy : reading.Copy) → IsCopyOf (scene slot) copy → ShowsGroup reading (scene slot) ⊎ ((number : ℕ) × (config : reading.Config) × IsSince past.changes number config × (reading.has_current config (reading.disk_of copy) ≡ true)) → reading.disk_of copy ≡ past.disk slot
    -- No member is in two slots.
    pub alone : (s t number : ℕ) (config : reading.Config) → IsSince past.changes number config → reading.has_current config (past.disk s) ≡ true → past.disk s ≡ past.disk t → s ≡ t
    -- Each configuration since the last acknowledged one lists a returned slot's member as missing.
    pub gone : (slot number : ℕ) (config : reading.Config) → past.returned slot ≡ true → IsSince past.changes number config → reading.has_missing config (past.disk slot) ≡ true
    -- Where a disk that joins shows such a configuration, each member of the last acknowledged one shows a later one than that.
    pub entered : (s t : ℕ) → is_away past s ≡ false → is_away past t ≡ false → IsOn past.changes (past.disk s) (scene s) → reading.has_current last (past.disk s) ≡ false
        → (on : IsOn past.changes (past.disk t) (scene t)) → reading.has_current last (past.disk t) ≡ true → past.changes.acked < on.number
    -- Where a later configuration has a member that the last acknowledged one hasn't, each slot's disk that is a member of that one, and isn't
    -- away, is still a member.
    pub remain : (number : ℕ) (config : reading.Config) (joined : reading.Disk) (slot : ℕ) → IsSince past.changes number config → reading.has_current config joined ≡ true → reading.has_current last joined ≡ false
        → is_away past slot ≡ false → reading.has_current last (past.disk slot) ≡ true → reading.has_current config (past.disk slot) ≡ true
    -- Where the first configuration is from elsewhere, and no slot shows a later one, the slots that show it give it together.
    pub give : past.changes.acked < past.changes.own_from
        → ((slot : ℕ) → is_away past slot ≡ false → (on : IsOn past.changes (past.disk slot) (scene slot)) → on.number ≡ past.changes.acked)
        → reading.read (leading_copies reading (reading.sequence last) (seen (λ slot. not (is_away past slot)) scene) past.slots) ≡ last
