-- What a slot shows.
use Rattle.std.specs.Prelude.{◌≡◌, ◌≢◌, ◌⊎◌, ℕ, true, List, Ok}
use Rattle.ddf_header.specs.declared.reading.Header.{Header}
use Rattle.ddf_copy.specs.declared.copy.DiskCopy.{DiskCopy}
use Rattle.ddf_copy.specs.declared.fault.CopyFault.{CopyFault}
use Rattle.ddf_copy.specs.declared.which.Which.{Which}
use Rattle.ddf_copy.specs.declared.which.Which.TheVariants.{Secondary}
use Rattle.ddf_copy.specs.declared.newest_copy.Newest.{Newest}
use Rattle.ddf_copy.specs.declared.newest_copy.Newest.TheVariants.{One, Level, Neither, TwoDiffer}
use Rattle.ddf_copy.specs.Anchor.{anchor_at}
use Rattle.ddf_copy.specs.Copies.{copy_of, newest_of}
use Rattle.ddf_copy.specs.Written.{is_level}

-- two copies of one group that are level
pub record IsSame (one other : DiskCopy) : Type 0 where
  pub same_group : one.header.guid ≡ other.header.guid
  pub are_level : is_level one other ≡ true

-- The newest copy is this one. Of two that differ either is.
abbrev pub IsNewest : Newest → DiskCopy → Type 0
IsNewest (One which found) copy = IsSame found copy
IsNewest (Level found) copy = IsSame found copy
IsNewest (TwoDiffer primary secondary) copy = IsSame primary copy ⊎ IsSame secondary copy
IsNewest (Neither primary secondary) copy = ⊥

-- The copy that an update writes last, so that a disk shows it until the other one is the new one.
abbrev pub last_of : Newest → Which
last_of (One which found) = which
last_of (Level found) = Secondary
last_of (TwoDiffer primary secondary) = Secondary
last_of (Neither primary secondary) = Secondary

-- The copy in this place is whole, and is the newest.
pub record HasNewest (size : ℕ) (sector : ℕ → List ℕ) (anchor : Header) (which : Which) : Type 0 where
  pub copy : DiskCopy
  pub is_there : copy_of size sector anchor which ≡ Ok copy
  pub is_newest : IsNewest (newest_of size sector anchor) copy

-- A newest copy of a disk that has one stands in the place that is written last.
abbrev pub IsLast : Newest → Which → Type 0
IsLast newest last =
    (size : ℕ) (sector : ℕ → List ℕ) (anchor : Header) → newest ≡ newest_of size sector anchor
    → ((first second : CopyFault) → newest ≢ Neither first second) → HasNewest size sector anchor last

-- A disk of so many sectors has an anchor, and its newest copy is this one.
pub record Shows (size : ℕ) (sector : ℕ → List ℕ) (copy : DiskCopy) : Type 0 where
  pub anchor : Header
  pub is_anchored : anchor_at size sector ≡ Ok anchor
  pub is_newest : IsNewest (newest_of size sector anchor) copy
