-- The changes that were issued, and what is known of the slots.
use Rattle.std.specs.Prelude.{◌≡◌, ℕ, ◌<◌, ◌≤◌, ◌+◌, ◌∷◌, ◌++◌, [], ◌||◌, ◌&&◌, ◌==◌, not, Bool, true, List, take, Some, slice_get}
use Rattle.ddf_history.specs.Reading.{Reading}

-- The configurations that were issued, the number of the last that was acknowledged, and the number from which on they are
-- this engine's: 0, or 1 where the first was found on disks from elsewhere.
pub record Changes (reading : Reading) : Type 0 where
  pub issued : List reading.Config
  pub acked : ℕ
  pub own_from : ℕ

-- The changes, how many slots there are, the disk in each slot, and which slots are lost, or have returned from a loss.
pub record Past (reading : Reading) : Type 0 where
  pub changes : Changes reading
  pub slots : ℕ
  pub disk : ℕ → reading.Disk
  pub lost : ℕ → Bool
  pub returned : ℕ → Bool

module _ {reading : Reading} where
  -- Nothing is promised of the slot.
  abbrev pub is_away : Past reading → ℕ → Bool
  is_away past slot = past.lost slot || past.returned slot

  -- The configuration was issued with this number, and is the last that was acknowledged or a later one.
  pub record IsSince (changes : Changes reading) (number : ℕ) (config : reading.Config) : Type 0 where
    pub late : changes.acked ≤ number
    pub is_there : slice_get changes.issued number ≡ Some config

  -- From the last acknowledged configuration on, sequences rise, a missing member isn't current again, a member that isn't
  -- current any more isn't so again, and no two current members have one reference.
  pub record IsChain (changes : Changes reading) : Type 0 where
    pub rises : (i j : ℕ) (config next : reading.Config) → IsSince changes i config → IsSince changes j next → i < j → reading.sequence config < reading.sequence next
    pub stays_missing : (i j : ℕ) (config next : reading.Config) (disk : reading.Disk) → IsSince changes i config → IsSince changes j next → i ≤ j → reading.has_missing config disk ≡ true → reading.has_current next disk ≡ true → ⊥
    pub stays_gone : (i j l : ℕ) (config next last : reading.Config) (disk : reading.Disk) → IsSince changes i config → IsSince changes j next → IsSince changes l last → i ≤ j → j ≤ l → reading.has_current config disk ≡ true → reading.has_current last disk ≡ true → reading.has_current next disk ≡ true
    -- Only the change behind the last acknowledged one makes disks current members.
    pub joins_first : (i j : ℕ) (config next : reading.Config) (disk : reading.Disk) → IsSince changes i config → IsSince changes j next → i ≤ j → changes.acked < i → reading.has_current next disk ≡ true → reading.has_current config disk ≡ true
    pub one_reference : (i j : ℕ) (config next : reading.Config) (one other : reading.Disk) → IsSince changes i config → IsSince changes j next → reading.has_current config one ≡ true → reading.has_current next other ≡ true → reading.reference one ≡ reading.reference other → one ≡ other

  -- ---- what a call adds and takes off

  -- A change is issued.
  abbrev pub issued : Changes reading → reading.Config → Changes reading
  issued changes config = record { issued = changes.issued ++ config ∷ []; acked = changes.acked; own_from = changes.own_from }

  -- The changes behind this number are taken off.
  abbrev pub cut : Changes reading → ℕ → Changes reading
  cut changes number = record { issued = take (number + 1) changes.issued; acked = changes.acked; own_from = changes.own_from }

  -- The change of this number is acknowledged.
  abbrev pub acknowledged : Changes reading → ℕ → Changes reading
  acknowledged changes number = record { issued = changes.issued; acked = number; own_from = changes.own_from }

  abbrev pub issue : Past reading → reading.Config → Past reading
  issue past config = record { changes = issued past.changes config; slots = past.slots; disk = past.disk; lost = past.lost; returned = past.returned }

  abbrev pub take_off : Past reading → ℕ → Past reading
  take_off past number = record { changes = cut past.changes number; slots = past.slots; disk = past.disk; lost = past.lost; returned = past.returned }

  abbrev pub acknowledge : Past reading → ℕ → Past reading
  acknowledge past number = record { changes = acknowledged past.changes number; slots = past.slots; disk = past.disk; lost = past.lost; returned = past.returned }

  -- The changes are the same, with other slots away.
  abbrev pub with_slots : Past reading → (lost returned : ℕ → Bool) → Past reading
  with_slots past lost returned = record { changes = past.changes; slots = past.slots; disk = past.disk; lost = lost; returned = returned }

  -- The slots of current members that a call doesn't read count as lost.
  abbrev pub leave_out : Past reading → (readable : ℕ → Bool) → reading.Config → Past reading
  leave_out past readable config = with_slots past (λ slot. past.lost slot || not (readable slot) && reading.has_current config (past.disk slot)) past.returned

  -- A slot is lost.
  abbrev pub lose : Past reading → ℕ → Past reading
  lose past slot = with_slots past (λ other. past.lost other || (other == slot)) (λ other. past.returned other && not (other == slot))

  -- A lost slot returns.
  abbrev pub give_back : Past reading → ℕ → Past reading
  give_back past slot = with_slots past (λ other. past.lost other && not (other == slot)) (λ other. past.returned other || (other == slot))
