-- What an update of one slot promises.
use Rattle.std.specs.Prelude.{◌≡◌, ◌≢◌, ◌⊎◌, ℕ, ◌-◌, true, Some, Ok, Err, List}
use Rattle.ddf_copy.specs.declared.fault.CopyFault.TheVariants.{Opened}
use Rattle.ddf_bay.specs.State.{BayState, size_of}
use Rattle.ddf_bay.specs.Sectors.{Image}
use Rattle.ddf_bay.specs.Moments.{IsSettled}
use Rattle.ddf_header.specs.declared.geometry.Geometry.{Geometry}
use Rattle.ddf_header.specs.declared.reading.Header.{Header}
use Rattle.ddf_copy.specs.declared.copy.DiskCopy.{DiskCopy}
use Rattle.ddf_copy.specs.declared.which.Which.{Which}
use Rattle.ddf_copy.specs.declared.which.Which.TheVariants.{Primary, Secondary}
use Rattle.ddf_copy.specs.declared.fault.AnchorFault.TheVariants.{Blank}
use Rattle.ddf_copy.specs.declared.newest_copy.Newest.TheVariants.{Level, One, TwoDiffer}
use Rattle.ddf_copy.specs.Anchor.{anchor_at}
use Rattle.ddf_copy.specs.Copies.{copy_of, newest_at, newest_of}
use Rattle.ddf_copy.specs.Headers.{IsUnder, anchor_header, written_as}
use Rattle.ddf_copy.specs.Runs.{IsInCopy, IsInParts, parts_of}
use Rattle.ddf_copy.specs.Shows.{IsNewest, Shows}
use Rattle.ddf_copy.specs.Which.{other_of, place_of}
use Rattle.ddf_copy.specs.Written.{is_level}
use Rattle.ddf_update.specs.declared.prepared.Prepared.{Prepared}
use Rattle.ddf_update.specs.Gate.{StopsLeaveSince}
use Rattle.ddf_update.specs.Prepared.{writes_anchor}

-- a sector of one of the two copies
abbrev pub IsInEither : Prepared → ℕ → Type 0
IsInEither prepared l = IsInCopy prepared.first.lba prepared.runs l ⊎ IsInCopy prepared.second.lba prepared.runs l

-- a sector that an update writes: one of a copy, or the last one where the anchor is written
abbrev pub IsWritten : (size : ℕ) → Prepared → ℕ → Type 0
IsWritten size prepared l = IsInEither prepared l ⊎ ((writes_anchor prepared.mode ≡ true) × (l ≡ size - 1))

-- Both copies are the new one, and level, under this anchor.
pub record AreBoth (size : ℕ) (sector : ℕ → List ℕ) (anchor : Header) (copy : DiskCopy) : Type 0 where
  pub is_anchored : anchor_at size sector ≡ Ok anchor
  pub primary_is : copy_of size sector anchor Primary ≡ Ok (written_as copy Primary)
  pub secondary_is : copy_of size sector anchor Secondary ≡ Ok (written_as copy Secondary)
  pub are_level : newest_of size sector anchor ≡ Level (written_as copy Primary)

-- ---- a change

-- A slot may get a new copy: nothing is pending there, it shows its copy `last`, the new copy can be written under its anchor,
-- and is level with the old one where the sequences are equal.
pub record MayChange {D : Type 0} (disks : BayState D) (slot : ℕ) (anchor : Header) (last : Which) (old new : DiskCopy) : Type 0 where
  pub is_settled : IsSettled disks.may_hold disks.held slot
  pub is_anchored : anchor_at (size_of disks slot) (disks.held slot) ≡ Ok anchor
  pub last_is : copy_of (size_of disks slot) (disks.held slot) anchor last ≡ Ok old
  pub is_newest : IsNewest (newest_of (size_of disks slot) (disks.held slot) anchor) old
  pub is_under : IsUnder (size_of disks slot) anchor new
  pub is_newer : new.header.sequence ≡ old.header.sequence → is_level new old ≡ true

-- a copy is read as it was before, or its header is open, or it is the new one
abbrev pub IsReadPartly : (size : ℕ) (before now : ℕ → List ℕ) (anchor : Header) → Which → DiskCopy → Type 0
IsReadPartly size before now anchor which new =
    (copy_of size now anchor which ≡ copy_of size before anchor which)
    ⊎ (copy_of size now anchor which ≡ Err (Opened new.header.sequence))
    ⊎ (copy_of size now anchor which ≡ Ok (written_as new which))

-- The copy `last` changes only once the other one is the new one.
abbrev pub AreReadPartly : (size : ℕ) (before now : ℕ → List ℕ) (anchor : Header) → (last : Which) → DiskCopy → Type 0
AreReadPartly size before now anchor last new =
    (IsReadPartly size before now anchor (other_of last) new × (copy_of size now anchor last ≡ copy_of size before anchor last))
    ⊎ ((copy_of size now anchor (other_of last) ≡ Ok (written_as new (other_of last))) × IsReadPartly size before now anchor last new)

-- What a stop leaves of the sectors of a slot that gets a new copy: it shows the old copy or the new one, and all outside the
-- two copies is as it was.
pub record IsChanging (size : ℕ) (before now : ℕ → List ℕ) (prepared : Prepared) (anchor : Header) (last : Which) (old new : DiskCopy) : Type 0 where
  pub shows : Shows size now old ⊎ Shows size now new
  pub is_anchored : anchor_at size now ≡ Ok anchor
  pub copies : AreReadPartly size before now anchor last new
  -- Its two copies don't differ, unless those that it had did.
  pub alike : (primary secondary : DiskCopy) → newest_of size now anchor ≡ TwoDiffer primary secondary → newest_of size before anchor ≡ TwoDiffer primary secondary
  pub outside : (l : ℕ) → (now l ≡ before l) ⊎ IsInEither prepared l

-- A stop leaves a slot that shows the old copy or the new one, and other slots as they might be left before.
pub record IsOldOrNew {D : Type 0} (before : BayState D) (slot : ℕ) (prepared : Prepared) (anchor : Header) (last : Which) (old new : DiskCopy) (image : Image) : Type 0 where
  pub here : IsChanging (size_of before slot) (before.held slot) (image slot) prepared anchor last old new
  pub other_slots : (s l : ℕ) → s ≢ slot → before.may_hold s l (image s l)

-- The slot has the new copy in both places, and nothing is pending there.
pub record IsChanged {D : Type 0} (old new : BayState D) (slot : ℕ) (anchor : Header) (prepared : Prepared) (copy : DiskCopy) : Type 0 where
  pub are_both : AreBoth (size_of old slot) (new.held slot) anchor copy
  pub is_settled : IsSettled new.may_hold new.held slot
  pub outside : (l : ℕ) → (new.held slot l ≡ old.held slot l) ⊎ IsInEither prepared l
  pub other_slots : (s l : ℕ) → s ≢ slot → new.held s l ≡ old.held s l
  pub others_left : (s l : ℕ) (bytes : List ℕ) → s ≢ slot → new.may_hold s l bytes → old.may_hold s l bytes

-- ---- a founding

-- A slot may get its first copies: its last sector doesn't begin as an anchor, and the copy can be written under its own.
pub record MayFound {D : Type 0} (disks : BayState D) (slot : ℕ) (new : DiskCopy) : Type 0 where
  pub is_blank : anchor_at (size_of disks slot) (disks.held slot) ≡ Err Blank
  pub is_under : IsUnder (size_of disks slot) (anchor_header new) new

-- A stop leaves a slot that is blank or has the new copy in both places. All outside the two copies and the anchor is as it was, and other
-- slots are as they might be left before.
pub record IsBlankOrNew {D : Type 0} (before : BayState D) (slot : ℕ) (prepared : Prepared) (new : DiskCopy) (image : Image) : Type 0 where
  pub shows : (anchor_at (size_of before slot) (image slot) ≡ Err Blank) ⊎ AreBoth (size_of before slot) (image slot) (anchor_header new) new
  pub outside : (l : ℕ) → (image slot l ≡ before.held slot l) ⊎ IsInEither prepared l ⊎ (l ≡ size_of before slot - 1)
  pub other_slots : (s l : ℕ) → s ≢ slot → before.may_hold s l (image s l)

-- The slot has its anchor and the new copy in both places, and nothing is pending there.
pub record HasFirstCopy {D : Type 0} (old new : BayState D) (slot : ℕ) (prepared : Prepared) (copy : DiskCopy) : Type 0 where
  pub are_both : AreBoth (size_of old slot) (new.held slot) (anchor_header copy) copy
  pub is_settled : IsSettled new.may_hold new.held slot
  pub since : StopsLeaveSince old new (IsBlankOrNew old slot prepared copy)
  pub outside : (l : ℕ) → (new.held slot l ≡ old.held slot l) ⊎ IsInEither prepared l ⊎ (l ≡ size_of old slot - 1)
  pub other_slots : (s l : ℕ) → s ≢ slot → new.held s l ≡ old.held s l
  pub others_left : (s l : ℕ) (bytes : List ℕ) → s ≢ slot → new.may_hold s l bytes → old.may_hold s l bytes

-- ---- an adoption

-- A slot may get a copy of another group than the one that it shows: it shows its copy `last`, and the new copy has the same places and
-- sections, and can be written there under an anchor of its own.
pub record MayAdopt {D : Type 0} (disks : BayState D) (slot : ℕ) (anchor : Header) (last : Which) (old new : DiskCopy) : Type 0 where
  pub is_anchored : anchor_at (size_of disks slot) (disks.held slot) ≡ Ok anchor
  pub last_is : copy_of (size_of disks slot) (disks.held slot) anchor last ≡ Ok old
  pub is_newest : IsNewest (newest_of (size_of disks slot) (disks.held slot) anchor) old
  pub is_under : IsUnder (size_of disks slot) (anchor_header new) new
  pub same_places : (which : Which) → place_of which new.header ≡ place_of which anchor
  pub same_sections : new.header.geometry ≡ old.header.geometry
  pub other_group : new.header.guid ≢ old.header.guid

-- The newest copy of a slot that is adopted: as it was, or the former group's alone, or the new one, alone or in both places.
abbrev pub IsReadAdopting : (size : ℕ) (before now : ℕ → List ℕ) → (last : Which) → (old new : DiskCopy) → Type 0
IsReadAdopting size before now last old new =
    (newest_at size now ≡ newest_at size before)
    ⊎ (newest_at size now ≡ Some (One last old))
    ⊎ (newest_at size now ≡ Some (One (other_of last) (written_as new (other_of last))))
    ⊎ (newest_at size now ≡ Some (Level (written_as new Primary)))

-- What a stop leaves of the sectors of a slot that is adopted: it shows the former group's copy or the new one, its anchor is what it was or the
-- new one, and all outside the two copies and the anchor is as it was.
pub record IsAdopting (size : ℕ) (before now : ℕ → List ℕ) (prepared : Prepared) (last : Which) (old new : DiskCopy) : Type 0 where
  pub shows : Shows size now old ⊎ Shows size now new
  pub newest : IsReadAdopting size before now last old new
  pub anchored : (anchor_at size now ≡ anchor_at size before) ⊎ (anchor_at size now ≡ Ok (anchor_header new))
  pub outside : (l : ℕ) → (now l ≡ before l) ⊎ IsInEither prepared l ⊎ (l ≡ size - 1)

-- A stop leaves a slot that shows the former group's copy or the new one, and other slots as they might be left before.
pub record IsFormerOrNew {D : Type 0} (before : BayState D) (slot : ℕ) (prepared : Prepared) (last : Which) (old new : DiskCopy) (image : Image) : Type 0 where
  pub here : IsAdopting (size_of before slot) (before.held slot) (image slot) prepared last old new
  pub other_slots : (s l : ℕ) → s ≢ slot → before.may_hold s l (image s l)

-- The slot has its new anchor and the new copy in both places, and nothing is pending there.
pub record IsAdopted {D : Type 0} (old new : BayState D) (slot : ℕ) (prepared : Prepared) (last : Which) (former copy : DiskCopy) : Type 0 where
  pub are_both : AreBoth (size_of old slot) (new.held slot) (anchor_header copy) copy
  pub is_settled : IsSettled new.may_hold new.held slot
  pub since : StopsLeaveSince old new (IsFormerOrNew old slot prepared last former copy)
  pub outside : (l : ℕ) → (new.held slot l ≡ old.held slot l) ⊎ IsInEither prepared l ⊎ (l ≡ size_of old slot - 1)
  pub other_slots : (s l : ℕ) → s ≢ slot → new.held s l ≡ old.held s l
  pub others_left : (s l : ℕ) (bytes : List ℕ) → s ≢ slot → new.may_hold s l bytes → old.may_hold s l bytes

-- ---- a move

-- a sector of the copy at an LBA: its header, or a part of a section that is read
abbrev pub IsOfCopy : (lba : ℕ) → Geometry → ℕ → Type 0
IsOfCopy lba geometry l = (l ≡ lba) ⊎ IsInParts lba (parts_of geometry) l

-- A slot may get a copy of another group at other places: it shows its copy `last`, the new copy can be written under an anchor of its own,
-- and shares no sector with the two that are there.
pub record MayMove {D : Type 0} (disks : BayState D) (slot : ℕ) (anchor : Header) (last : Which) (old new : DiskCopy) : Type 0 where
  pub is_anchored : anchor_at (size_of disks slot) (disks.held slot) ≡ Ok anchor
  pub last_is : copy_of (size_of disks slot) (disks.held slot) anchor last ≡ Ok old
  pub is_newest : IsNewest (newest_of (size_of disks slot) (disks.held slot) anchor) old
  pub is_under : IsUnder (size_of disks slot) (anchor_header new) new
  pub lies_apart : (own which : Which) (l : ℕ) → IsOfCopy (place_of own new.header) new.header.geometry l → IsOfCopy (place_of which anchor) old.header.geometry l → ⊥

-- What a stop leaves of the sectors of a slot that is moved: its anchor and its newest copy are what they were, or both copies are the new one
-- under its own anchor. All outside the two new copies and the anchor is as it was.
pub record IsMoving (size : ℕ) (before now : ℕ → List ℕ) (prepared : Prepared) (new : DiskCopy) : Type 0 where
  pub reads : ((anchor_at size now ≡ anchor_at size before) × (newest_at size now ≡ newest_at size before)) ⊎ AreBoth size now (anchor_header new) new
  pub outside : (l : ℕ) → (now l ≡ before l) ⊎ IsInEither prepared l ⊎ (l ≡ size - 1)

-- A stop leaves a slot that is moved or isn't, and other slots as they might be left before.
pub record IsMovedOrNot {D : Type 0} (before : BayState D) (slot : ℕ) (prepared : Prepared) (new : DiskCopy) (image : Image) : Type 0 where
  pub here : IsMoving (size_of before slot) (before.held slot) (image slot) prepared new
  pub other_slots : (s l : ℕ) → s ≢ slot → before.may_hold s l (image s l)

-- The slot has its new anchor and the new copy in both places, and nothing is pending there.
pub record IsMoved {D : Type 0} (old new : BayState D) (slot : ℕ) (prepared : Prepared) (copy : DiskCopy) : Type 0 where
  pub are_both : AreBoth (size_of old slot) (new.held slot) (anchor_header copy) copy
  pub is_settled : IsSettled new.may_hold new.held slot
  pub since : StopsLeaveSince old new (IsMovedOrNot old slot prepared copy)
  pub outside : (l : ℕ) → (new.held slot l ≡ old.held slot l) ⊎ IsInEither prepared l ⊎ (l ≡ size_of old slot - 1)
  pub other_slots : (s l : ℕ) → s ≢ slot → new.held s l ≡ old.held s l
  pub others_left : (s l : ℕ) (bytes : List ℕ) → s ≢ slot → new.may_hold s l bytes → old.may_hold s l bytes
