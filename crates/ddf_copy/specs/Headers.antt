-- The headers that a copy is written behind.
use Rattle.std.specs.Prelude.{◌≡◌, ℕ, None}
use Rattle.ddf_header.specs.declared.kind.HeaderKind.TheVariants.{Anchor}
use Rattle.ddf_header.specs.declared.reading.Header.{Header}
use Rattle.ddf_header.specs.Header.{IsHeaderOf}
use Rattle.ddf_copy.specs.declared.copy.DiskCopy.{DiskCopy}
use Rattle.ddf_copy.specs.declared.which.Which.{Which}
use Rattle.ddf_copy.specs.Gate.{gate_fault, header_bytes}
use Rattle.ddf_copy.specs.Which.{kind_of, place_of}
use Rattle.ddf_copy.specs.Written.{CanBeCopy}

-- the header of a copy in its place
abbrev pub closed_header : DiskCopy → Which → Header
closed_header copy which = record copy.header { kind = kind_of which; openness = 0 }

-- the header while the sections change
abbrev pub opened_header : DiskCopy → Which → Header
opened_header copy which = record copy.header { kind = kind_of which; openness = 1 }

-- the anchor of a disk with these copies
abbrev pub anchor_header : DiskCopy → Header
anchor_header copy = record copy.header { kind = Anchor; openness = 0xFF; sequence = 0xFFFF_FFFF }

-- the copy as it is read in its place
abbrev pub written_as : DiskCopy → Which → DiskCopy
written_as copy which = record copy { header = closed_header copy which }

-- A copy can be written in both places of a disk of so many sectors with this anchor, so that it is whole there.
pub record IsUnder (size : ℕ) (anchor : Header) (copy : DiskCopy) : Type 0 where
  pub is_copy : CanBeCopy copy
  pub in_place : (which : Which) → place_of which copy.header ≡ place_of which anchor
  pub has_gate : (which : Which) → gate_fault size anchor which (closed_header copy which) (header_bytes (closed_header copy which)) ≡ None

-- an anchor is the value of the sector that it is written as
abbrev pub IsAnchor : Header → Type 0
IsAnchor anchor = IsHeaderOf Anchor anchor (header_bytes anchor)

-- A header of a copy that was read in its place, under an anchor.
pub record IsReadHeader (size : ℕ) (anchor : Header) (which : Which) (header : Header) : Type 0 where
  pub is_header : IsHeaderOf (kind_of which) header (header_bytes header)
  pub has_gate : gate_fault size anchor which header (header_bytes header) ≡ None
