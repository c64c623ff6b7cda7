-- How a slot is seen: as it is, or turned where its anchor is sealed in Linux's kind. One whose last sector could not be
-- read is neither.
use Rattle.std.specs.Prelude.{◌≡◌, ℕ, ◌-◌, ◌<◌, Bool, true, false, not, ◌&&◌, nat_le, ◌==◌, IsTrue, ◌↔◌, if◌then◌else◌, List, Option, Some, None, is_some, Result, Ok, Err, slice_index_or}
use Rattle.ddf_bay.specs.State.{BayState, size_of}
use Rattle.ddf_seal.specs.Seal.{seal_check}
use Rattle.ddf_seal.specs.declared.sealing.SealFault.{SealFault}
use Rattle.ddf_header.specs.Header.{header_signature}
use Rattle.ddf_update.specs.declared.new_layout.NewLayout.{NewLayout}
use Rattle.ddf_update.specs.NewLayouts.{least_sectors}
use Rattle.ddf_linux.specs.declared.kind.SlotKind.{SlotKind}
use Rattle.ddf_linux.specs.declared.kind.SlotKind.TheVariants.{Plain, Unread, Turned}
use Rattle.ddf_linux.specs.declared.places.Places.{Places}
use Rattle.ddf_linux.specs.Crcs.{constant_of, IsLinuxSealed}
use Rattle.ddf_linux.specs.Places.{constant_at, new_places, places_of, signature_of}
use Rattle.ddf_linux.specs.Turning.{turned}

abbrev pub is_turned : SlotKind → Bool
is_turned (Turned places) = true
is_turned Plain = false
is_turned Unread = false

abbrev pub is_unread : SlotKind → Bool
is_unread (Turned places) = false
is_unread Plain = false
is_unread Unread = true

-- ---- by the slot's last sector

abbrev pub kind_if : Result Unit SealFault → Places → SlotKind
kind_if (Ok _) places = Turned places
kind_if (Err _) places = Plain

-- A slot with these bytes in its last sector: they are turned, and where they are then a sealed header, the slot is.
unfoldable pub kind_by : (last : ℕ) → List ℕ → SlotKind
kind_by last bytes =
    let anchor = turned (constant_of 512) bytes in
    kind_if (seal_check header_signature anchor) (places_of last anchor)

-- a slot of so many sectors, as they read: one without sectors is as it is
abbrev pub kind_of_sectors : (size : ℕ) → (ℕ → List ℕ) → SlotKind
kind_of_sectors size sector = if size == 0 then Plain else kind_by (size - 1) (sector (size - 1))

abbrev pub held_kind : {D : Type 0} → BayState D → ℕ → SlotKind
held_kind disks slot = kind_of_sectors (size_of disks slot) (disks.held slot)

-- the slot's last sector is sealed as an anchor in Linux's kind
abbrev pub HasLinuxAnchor : {D : Type 0} → BayState D → ℕ → Type 0
HasLinuxAnchor disks slot = (0 < size_of disks slot) × IsLinuxSealed header_signature (disks.held slot (size_of disks slot - 1))

-- A slot that could be read is seen so.
pub record IsKindOf {D : Type 0} (disks : BayState D) (slot : ℕ) (kind : SlotKind) : Type 0 where
  pub exact : kind ≡ held_kind disks slot
  pub turned : IsTrue (is_turned kind) ↔ HasLinuxAnchor disks slot

-- ---- by its size alone

-- A disk of a layout may be founded on a slot: there is room for one, and its last sector begins as no anchor.
abbrev pub may_be_founded : NewLayout → (size : ℕ) → (last : List ℕ) → Bool
may_be_founded layout size last = nat_le (least_sectors layout) size && not (signature_of last == header_signature)

-- it is seen as that disk will be where new disks are founded for Linux
abbrev pub is_founded : (founds : Option NewLayout) (size : ℕ) → (last : List ℕ) → Bool
is_founded None size last = false
is_founded (Some layout) size last = may_be_founded layout size last

-- as this: turned at the places of such a disk
abbrev pub founded_kind : (founds : Option NewLayout) → (size : ℕ) → SlotKind
founded_kind None size = Plain
founded_kind (Some layout) size = Turned (new_places layout size)

-- A slot that could be read is seen so, where new disks of a layout are founded for Linux, or none.
pub record IsSeenAs {D : Type 0} (founds : Option NewLayout) (disks : BayState D) (slot : ℕ) (kind : SlotKind) : Type 0 where
  pub founded : is_founded founds (size_of disks slot) (disks.held slot (size_of disks slot - 1)) ≡ true → kind ≡ founded_kind founds (size_of disks slot)
  pub other : is_founded founds (size_of disks slot) (disks.held slot (size_of disks slot - 1)) ≡ false → IsKindOf disks slot kind

-- ---- by the sector

-- what is added to the CRC of a sector of the slot, by its LBA and its bytes
abbrev pub kind_constant : SlotKind → ℕ → List ℕ → Option ℕ
kind_constant (Turned places) lba bytes = constant_at places lba bytes
kind_constant Plain lba bytes = None
kind_constant Unread lba bytes = None

-- a sector is one of those that are turned
abbrev pub turns : SlotKind → ℕ → List ℕ → Bool
turns kind lba bytes = is_some (kind_constant kind lba bytes)

abbrev pub turned_by : Option ℕ → List ℕ → List ℕ
turned_by None bytes = bytes
turned_by (Some constant) bytes = turned constant bytes

-- a sector, turned if it is one of those
abbrev pub turn : SlotKind → ℕ → List ℕ → List ℕ
turn kind lba bytes = turned_by (kind_constant kind lba bytes) bytes

-- the kind of a slot in a list of them
abbrev pub kind_at : List SlotKind → ℕ → SlotKind
kind_at kinds slot = slice_index_or kinds slot Plain
