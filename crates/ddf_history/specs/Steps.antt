-- What a call does to the disks, and which change it may issue.
use Rattle.std.specs.Prelude.{◌≡◌, ◌≢◌, ◌⊎◌, ℕ, ◌<◌, ◌≤◌, not, Bool, true, false, Some, slice_get}
use Rattle.ddf_history.specs.Reading.{Reading, Shown, Scene, ShowsGroup, IsCopyOf}
use Rattle.ddf_history.specs.Reading.Shown.{One}
use Rattle.ddf_history.specs.Issued.{Changes, Past, IsSince, is_away}
use Rattle.ddf_history.specs.Leaders.{seen, leading_copies}
use Rattle.ddf_history.specs.Promise.{IsNamed, IsOn, IsOutside, IsLagging, IsStanding}

-- Of two copies that differ one alone is shown.
pub record IsPart {A : Type 0} (before after : Shown A) : Type 0 where
  pub copy : A
  pub is_copy : IsCopyOf before copy
  pub is_only : after ≡ One copy

-- New copies are written to these slots: each shows what it showed, perhaps of two copies one alone, or its new copy. Other
-- slots show what they showed.
abbrev pub AreWritten : {A : Type 0} → (seats : ℕ → Bool) → (new : ℕ → A) → (before after : Scene A) → Type 0
AreWritten seats new before after = (slot : ℕ) → (after slot ≡ before slot) ⊎ (seats slot ≡ true) × (IsPart (before slot) (after slot) ⊎ (after slot ≡ One (new slot)))

-- A change that may follow the last one, and makes no member current.
pub record MayFollow (reading : Reading) (last next : reading.Config) : Type 0 where
  pub rises : reading.sequence last < reading.sequence next
  pub no_more : (disk : reading.Disk) → reading.has_current next disk ≡ true → reading.has_current last disk ≡ true
  pub stays_missing : (disk : reading.Disk) → reading.has_missing last disk ≡ true → reading.has_missing next disk ≡ true

-- A slot shows this configuration, fully where it is this engine's.
pub record IsShown (reading : Reading) (disk : reading.Disk) (own : Type 0) (shown : Shown reading.Copy) (config : reading.Config) : Type 0 where
  pub copy : reading.Copy
  pub is_only : shown ≡ One copy
  pub is_ours : reading.is_ours copy ≡ true
  pub names : reading.disk_of copy ≡ disk
  pub shows : reading.Shows copy config
  pub is_full : own → reading.ShowsFully copy config

-- Each slot's disk that is a member before a change, and isn't away, is one behind it.
abbrev pub DoRemain : (reading : Reading) → (is_here : ℕ → Type 0) → (disk : ℕ → reading.Disk) → (last next : reading.Config) → Type 0
DoRemain reading is_here disk last next = (slot : ℕ) → is_here slot → reading.has_current last (disk slot) ≡ true → reading.has_current next (disk slot) ≡ true

-- Slots that show nothing of this group are written last: where one shows its new copy, so does each written one that showed a copy of the
-- group alone.
abbrev pub OthersLast : (reading : Reading) → (seats : ℕ → Bool) → (new : ℕ → reading.Copy) → (before after : Scene reading.Copy) → Type 0
OthersLast reading seats new before after = (s t : ℕ) (copy : reading.Copy) → seats s ≡ true → ((other : reading.Copy) → IsCopyOf (before s) other → reading.is_ours other ≡ true → ⊥) → after s ≡ One (new s)
    → seats t ≡ true → before t ≡ One copy → reading.is_ours copy ≡ true → after t ≡ One (new t)

-- A slot shows a copy that shows the configuration.
pub record HasShown (reading : Reading) (shown : Shown reading.Copy) (config : reading.Config) : Type 0 where
  pub copy : reading.Copy
  pub is_copy : IsCopyOf shown copy
  pub shows : reading.Shows copy config

module _ {reading : Reading} where
  -- Each current member that isn't written shows the configuration.
  abbrev pub OthersShow : Past reading → Scene reading.Copy → reading.Config → (seats : ℕ → Bool) → Type 0
  OthersShow past scene config seats = (slot : ℕ) → is_away past slot ≡ false → seats slot ≡ false → reading.has_current config (past.disk slot) ≡ true → HasShown reading (scene slot) config

  -- The last of the issued changes.
  pub record IsLast (changes : Changes reading) (number : ℕ) (config : reading.Config) : Type 0 where
    pub since : IsSince changes number config
    pub none_later : (i : ℕ) (next : reading.Config) → IsSince changes i next → i ≤ number

  -- The new copies of the last configuration: each names its disk and shows the configuration, fully where it is this engine's.
  -- They agree with one another, and with what already shows it.
  pub record MayWrite (past : Past reading) (scene : Scene reading.Copy) (number : ℕ) (config : reading.Config) (seats : ℕ → Bool) (new : ℕ → reading.Copy) : Type 0 where
    pub at_last : IsLast past.changes number config
    pub names : (slot : ℕ) → seats slot ≡ true → reading.disk_of (new slot) ≡ past.disk slot
    pub are_ours : (slot : ℕ) → seats slot ≡ true → reading.is_ours (new slot) ≡ true
    pub show : (slot : ℕ) → seats slot ≡ true → reading.Shows (new slot) config
    pub are_full : (slot : ℕ) → seats slot ≡ true → past.changes.own_from ≤ number → reading.ShowsFully (new slot) config
    pub are_members : (slot : ℕ) → seats slot ≡ true → reading.has_current config (past.disk slot) ≡ true
    pub agree : (s t : ℕ) → s ≢ t → seats s ≡ true → seats t ≡ true → reading.Agree (new s) (new t)
    pub agree_before : (s t : ℕ) (other : reading.Copy) → s ≢ t → seats s ≡ true → IsStanding past scene t other → reading.Shows other config → reading.Agree (new s) other
    pub agree_after : (s t : ℕ) (other : reading.Copy) → s ≢ t → seats s ≡ true → IsStanding past scene t other → reading.Shows other config → reading.Agree other (new s)

  -- Disks that join are written last: where one shows its new copy, each member that the group had shows a later configuration
  -- than the last acknowledged one.
  abbrev pub JoinLast : Past reading → (seats : ℕ → Bool) → (new : ℕ → reading.Copy) → (after : Scene reading.Copy) → Type 0
  JoinLast past seats new after = (last : reading.Config) (s t : ℕ) → slice_get past.changes.issued past.changes.acked ≡ Some last → is_away past s ≡ false → seats s ≡ true → reading.has_current last (past.disk s) ≡ false → after s ≡ One (new s)
      → is_away past t ≡ false → reading.has_current last (past.disk t) ≡ true → (on : IsOn past.changes (past.disk t) (after t)) → past.changes.acked < on.number

  -- Where the configuration is from elsewhere, the slots that show it give it together.
  abbrev pub GivesAfter : Past reading → ℕ → reading.Config → (after : Scene reading.Copy) → Type 0
  GivesAfter past number config after = number < past.changes.own_from → reading.read (leading_copies reading (reading.sequence config) (seen (λ slot. not (is_away past slot)) after) past.slots) ≡ config

  -- A change that takes in the members of another group, each in a slot of its own that shows nothing of this group.
  pub record MayJoin (past : Past reading) (scene : Scene reading.Copy) (last next : reading.Config) : Type 0 where
    pub rises : reading.sequence last < reading.sequence next
    -- Each member stays one.
    pub keeps : (disk : reading.Disk) → reading.has_current last disk ≡ true → reading.has_current next disk ≡ true
    pub not_again : (disk : reading.Disk) → reading.has_missing last disk ≡ true → reading.has_current next disk ≡ true → ⊥
    -- The reference of a member that joins is not that of another one, nor of a disk that shows this group.
    pub is_new : (one other : reading.Disk) → reading.has_current last one ≡ true → reading.has_current next other ≡ true → reading.reference one ≡ reading.reference other → one ≡ other
    pub is_free : (slot : ℕ) (copy : reading.Copy) (disk : reading.Disk) → IsStanding past scene slot copy → IsOutside past.changes (past.disk slot) (scene slot) → reading.has_current next disk ≡ true → reading.reference disk ≢ reading.reference (past.disk slot)
    pub misses_none : (slot : ℕ) (copy : reading.Copy) (disk : reading.Disk) → is_away past slot ≡ false → IsCopyOf (scene slot) copy → ShowsGroup reading (scene slot) → IsOutside past.changes (past.disk slot) (scene slot) → reading.has_current next disk ≡ true → reading.lists_missing copy disk ≡ true → ⊥
    pub shows_some : (slot : ℕ) → is_away past slot ≡ false → IsOutside past.changes (past.disk slot) (scene slot) → reading.has_current next (past.disk slot) ≡ true → IsNamed reading (past.disk slot) (scene slot)
    pub joins_later : (slot : ℕ) (copy : reading.Copy) → is_away past slot ≡ false → IsOutside past.changes (past.disk slot) (scene slot) → reading.has_current next (past.disk slot) ≡ true → IsCopyOf (scene slot) copy → reading.is_ours copy ≡ true → ⊥
    pub alone : (s t : ℕ) → reading.has_current next (past.disk s) ≡ true → past.disk s ≡ past.disk t → s ≡ t
    pub named : (slot : ℕ) (copy : reading.Copy) → IsCopyOf (scene slot) copy → reading.has_current next (reading.disk_of copy) ≡ true → reading.disk_of copy ≡ past.disk slot
    -- No slot lags.
    pub none_lags : (slot : ℕ) → is_away past slot ≡ false → IsLagging past.changes (past.disk slot) (scene slot) → ⊥
    -- It drops the member of no slot that has returned.
    pub gone : (slot : ℕ) → past.returned slot ≡ true → reading.has_missing next (past.disk slot) ≡ true

  -- Each slot whose disk is a current member shows this configuration.
  abbrev pub AllShow : Past reading → Scene reading.Copy → ℕ → reading.Config → Type 0
  AllShow past scene number config = (slot : ℕ) → is_away past slot ≡ false → reading.has_current config (past.disk slot) ≡ true → IsShown reading (past.disk slot) (past.changes.own_from ≤ number) (scene slot) config

  -- No slot shows a later one.
  abbrev pub NoneLater : Past reading → Scene reading.Copy → ℕ → Type 0
  NoneLater past scene number = (slot : ℕ) → is_away past slot ≡ false → (on : IsOn past.changes (past.disk slot) (scene slot)) → on.number ≤ number
