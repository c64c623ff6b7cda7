-- What assembly answers.
use Rattle.std.specs.Prelude.{◌≡◌, ◌≢◌, ◌⊎◌, ℕ, ◌<◌, ◌≤◌, Bool, true, false}
use Rattle.ddf_history.specs.Reading.{Reading, Scene, ShowsGroup, IsCopyOf, IsFirstOf, stands}
use Rattle.ddf_history.specs.Reading.Shown.{Differ}
use Rattle.ddf_history.specs.Leaders.{leading_copies}
use Rattle.ddf_history.specs.Issued.{Past, IsSince}

pub data Answer (C : Type 0) : Type 0 where
  NoGroup : Answer C
  Conflict : Answer C
  Split : Answer C
  Is : C → Answer C

module _ (reading : Reading) where
  -- The slot shows the group, with the greatest sequence.
  pub record IsLeader (scene : Scene reading.Copy) (slot : ℕ) (copy : reading.Copy) : Type 0 where
    pub is_copy : IsCopyOf (scene slot) copy
    pub is_standing : stands reading copy ≡ true
    pub greatest : (t : ℕ) (other : reading.Copy) → IsCopyOf (scene t) other → stands reading other ≡ true → reading.sequence_of other ≤ reading.sequence_of copy

  -- The slot is the lowest leader, known by this copy.
  pub record IsLowest (scene : Scene reading.Copy) (slot : ℕ) (copy : reading.Copy) : Type 0 where
    pub leads : (leading : reading.Copy) × IsLeader scene slot leading
    pub lowest : (t : ℕ) (other : reading.Copy) → IsLeader scene t other → slot ≤ t
    pub is_first : IsFirstOf (scene slot) copy

  -- The lowest leader lists the slot's disk as a current member.
  pub record IsClaimed (scene : Scene reading.Copy) (slot : ℕ) (copy : reading.Copy) : Type 0 where
    pub leader : ℕ
    pub leading : reading.Copy
    pub is_lowest : IsLowest scene leader leading
    pub is_first : IsFirstOf (scene slot) copy
    pub is_listed : reading.lists_current leading (reading.disk_of copy) ≡ true

  -- The slot shows the group, or is claimed by it. Its disk is known by its first copy.
  abbrev pub IsPart : Scene reading.Copy → ℕ → reading.Copy → Type 0
  IsPart scene slot copy = (IsFirstOf (scene slot) copy × ShowsGroup reading (scene slot)) ⊎ IsClaimed scene slot copy

  -- A leader's two copies differ.
  pub record HasCopies (scene : Scene reading.Copy) : Type 0 where
    pub slot : ℕ
    pub copy : reading.Copy
    pub leads : IsLeader scene slot copy
    pub primary : reading.Copy
    pub secondary : reading.Copy
    pub differ : scene slot ≡ Differ primary secondary

  -- Two slots have one reference.
  pub record HasTwin (scene : Scene reading.Copy) : Type 0 where
    pub s : ℕ
    pub t : ℕ
    pub apart : s ≢ t
    pub one : reading.Copy
    pub other : reading.Copy
    pub one_is : IsPart scene s one
    pub other_is : IsPart scene t other
    pub same : reading.reference (reading.disk_of one) ≡ reading.reference (reading.disk_of other)

  -- Two leaders differ.
  pub record HasDispute (scene : Scene reading.Copy) : Type 0 where
    pub s : ℕ
    pub t : ℕ
    pub apart : s ≢ t
    pub one : reading.Copy
    pub other : reading.Copy
    pub one_leads : IsLeader scene s one
    pub other_leads : IsLeader scene t other
    pub differ : reading.Agree one other → ⊥

  abbrev pub HasConflict : Scene reading.Copy → Type 0
  HasConflict scene = HasCopies scene ⊎ HasTwin scene ⊎ HasDispute scene

  -- A slot that shows the group and isn't a leader lists a leader as missing, of two copies that differ in either one.
  pub record HasSplit (scene : Scene reading.Copy) : Type 0 where
    pub s : ℕ
    pub t : ℕ
    pub older : reading.Copy
    pub leading : reading.Copy
    pub is_copy : IsCopyOf (scene s) older
    pub is_standing : stands reading older ≡ true
    pub leads : IsLeader scene t leading
    pub is_older : reading.sequence_of older < reading.sequence_of leading
    pub missing : reading.Copy
    pub is_missing : IsCopyOf (scene s) missing
    pub misses : reading.lists_missing missing (reading.disk_of leading) ≡ true

  -- The leaders are read together.
  pub record IsReadAs (slots : ℕ) (scene : Scene reading.Copy) (config : reading.Config) : Type 0 where
    pub leader : ℕ
    pub leading : reading.Copy
    pub leads : IsLeader scene leader leading
    pub lowest : (t : ℕ) (other : reading.Copy) → IsLeader scene t other → leader ≤ t
    pub no_conflict : HasConflict scene → ⊥
    pub no_split : HasSplit scene → ⊥
    pub is_read : reading.read (leading_copies reading (reading.sequence_of leading) scene slots) ≡ config

  -- The answer over what the slots show: the first of these that holds.
  abbrev pub IsAnswer : ℕ → Scene reading.Copy → Answer reading.Config → Type 0
  IsAnswer slots scene NoGroup = (slot : ℕ) (copy : reading.Copy) → IsCopyOf (scene slot) copy → stands reading copy ≡ true → ⊥
  IsAnswer slots scene Conflict = HasConflict scene
  IsAnswer slots scene Split = (HasConflict scene → ⊥) × HasSplit scene
  IsAnswer slots scene (Is config) = IsReadAs slots scene config

-- ---- what the history promises of it

module _ {reading : Reading} where
  -- The slots that a call reads are some of those that aren't lost.
  pub record IsReadable (past : Past reading) (scene : Scene reading.Copy) (readable : ℕ → Bool) : Type 0 where
    pub below : (slot : ℕ) → readable slot ≡ true → slot < past.slots
    pub not_lost : (slot : ℕ) → readable slot ≡ true → past.lost slot ≡ false
    -- They are all that show the group, where it is from elsewhere and no change of this engine was acknowledged.
    pub all_young : past.changes.acked < past.changes.own_from → (slot : ℕ) (copy : reading.Copy) → IsCopyOf (scene slot) copy → stands reading copy ≡ true → readable slot ≡ true

  -- Among them is a current member: it has not returned, and shows the last acknowledged configuration or a later one.
  pub record HasMember (past : Past reading) (scene : Scene reading.Copy) (readable : ℕ → Bool) : Type 0 where
    pub slot : ℕ
    pub is_readable : readable slot ≡ true
    pub is_here : past.returned slot ≡ false
    pub number : ℕ
    pub config : reading.Config
    pub since : IsSince past.changes number config
    pub copy : reading.Copy
    pub is_copy : IsCopyOf (scene slot) copy
    pub is_standing : stands reading copy ≡ true
    pub shows : reading.Shows copy config

  -- A slot that has returned is among them.
  pub record HasReturned (past : Past reading) (readable : ℕ → Bool) : Type 0 where
    pub slot : ℕ
    pub is_readable : readable slot ≡ true
    pub is_returned : past.returned slot ≡ true

  -- The answer is a configuration since the last acknowledged one. It may be a refusal where a slot that has returned is read.
  abbrev pub IsPromised : Past reading → (ℕ → Bool) → Answer reading.Config → Type 0
  IsPromised past readable NoGroup = ⊥
  IsPromised past readable Conflict = HasReturned past readable
  IsPromised past readable Split = HasReturned past readable
  IsPromised past readable (Is config) = (number : ℕ) × IsSince past.changes number config
