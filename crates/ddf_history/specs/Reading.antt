-- What is read of a disk's copies, and how a copy stands to a configuration.
use Rattle.std.specs.Prelude.{◌≡◌, ◌⊎◌, ℕ, ◌&&◌, Bool, true, List, [], ◌∷◌}

-- What a slot shows: nothing, one copy, or two whole ones of one sequence that differ. Two level copies count once.
pub data Shown (A : Type 0) : Type 0 where
  Nothing : Shown A
  One : A → Shown A
  Differ : A → A → Shown A

-- The slot shows this copy, of two that differ either one.
abbrev pub IsCopyOf : {A : Type 0} → Shown A → A → Type 0
IsCopyOf Nothing copy = ⊥
IsCopyOf (One found) copy = copy ≡ found
IsCopyOf (Differ primary secondary) copy = (copy ≡ primary) ⊎ (copy ≡ secondary)

-- The slot's disk is known by this copy, of two that differ the primary one.
abbrev pub IsFirstOf : {A : Type 0} → Shown A → A → Type 0
IsFirstOf Nothing copy = ⊥
IsFirstOf (One found) copy = copy ≡ found
IsFirstOf (Differ primary secondary) copy = copy ≡ primary

-- What each slot shows, at one moment.
abbrev pub Scene : (A : Type 0) → Type 0
Scene A = ℕ → Shown A

-- What is read of the copies of one group. A copy stands for what is read of it, so level copies are equal.
pub record Reading : Type 1 where
  pub Copy : Type 0
  pub Config : Type 0
  -- A disk's name: its GUID and reference.
  pub Disk : Type 0
  pub reference : Disk → ℕ
  -- The copy's header names the group.
  pub is_ours : Copy → Bool
  pub sequence_of : Copy → ℕ
  -- The disk that the copy says it stands on.
  pub disk_of : Copy → Disk
  pub lists_current : Copy → Disk → Bool
  pub lists_missing : Copy → Disk → Bool
  -- No named field differs between them.
  pub Agree : Copy → Copy → Type 0
  -- The configuration that leaders give, in rising slots.
  pub read : List Copy → Config
  pub sequence : Config → ℕ
  pub has_current : Config → Disk → Bool
  pub has_missing : Config → Disk → Bool
  pub Shows : Copy → Config → Type 0
  pub ShowsFully : Copy → Config → Type 0

-- By such a copy its disk shows the group: it names the group, and lists its own disk as a current member.
abbrev pub stands : (reading : Reading) → reading.Copy → Bool
stands reading copy = reading.is_ours copy && reading.lists_current copy (reading.disk_of copy)

-- A slot shows the group by one of its copies.
pub record ShowsGroup (reading : Reading) (shown : Shown reading.Copy) : Type 0 where
  pub copy : reading.Copy
  pub is_copy : IsCopyOf shown copy
  pub is_standing : stands reading copy ≡ true

-- All items of a list have P.
abbrev pub Each : {A : Type 0} → (A → Type 0) → List A → Type 0
Each P [] = Unit {0}
Each P (x ∷ xs) = P x × Each P xs

-- What the definitions of a reading owe.
pub record IsSound (reading : Reading) : Type 0 where
  pub fully_shows : (copy : reading.Copy) (config : reading.Config) → reading.ShowsFully copy config → reading.Shows copy config
  pub same_sequence : (copy : reading.Copy) (config : reading.Config) → reading.Shows copy config → reading.sequence_of copy ≡ reading.sequence config
  pub same_current : (copy : reading.Copy) (config : reading.Config) (disk : reading.Disk) → reading.Shows copy config → reading.lists_current copy disk ≡ reading.has_current config disk
  pub same_missing : (copy : reading.Copy) (config : reading.Config) (disk : reading.Disk) → reading.Shows copy config → reading.lists_missing copy disk ≡ reading.has_missing config disk
  -- A member is current or missing, and its reference is its own.
  pub not_both : (config : reading.Config) (disk : reading.Disk) → reading.has_current config disk ≡ true → reading.has_missing config disk ≡ true → ⊥
  pub one_reference : (config : reading.Config) (one other : reading.Disk) → reading.has_current config one ≡ true → reading.has_current config other ≡ true → reading.reference one ≡ reading.reference other → one ≡ other
  -- Two copies differ of which one lists a disk as missing and one as current, where the first shows a configuration.
  pub differ : (one other : reading.Copy) (config : reading.Config) (disk : reading.Disk) → reading.Shows one config → reading.lists_missing one disk ≡ true → reading.lists_current other disk ≡ true → reading.Agree one other → ⊥
  -- Leaders of the group that all show a configuration fully give it.
  pub reads : (copy : reading.Copy) (copies : List reading.Copy) (config : reading.Config) → Each (λ x. (reading.is_ours x ≡ true) × reading.ShowsFully x config) (copy ∷ copies) → reading.read (copy ∷ copies) ≡ config
