-- The copies of a disk, by its size and the bytes of its sectors, under its anchor.
use Rattle.std.specs.Prelude.{ℕ, List, Bool, false, nat_lt, if◌then◌else◌, Option, Some, None, Result, Ok, Err}
use Rattle.ddf_header.specs.declared.reading.Header.{Header}
use Rattle.ddf_copy.specs.declared.copy.DiskCopy.{DiskCopy}
use Rattle.ddf_copy.specs.declared.which.Which.{Which}
use Rattle.ddf_copy.specs.declared.which.Which.TheVariants.{Primary, Secondary}
use Rattle.ddf_copy.specs.declared.fault.AnchorFault.{AnchorFault}
use Rattle.ddf_copy.specs.declared.fault.CopyFault.{CopyFault}
use Rattle.ddf_copy.specs.declared.copies.Copies.{Copies}
use Rattle.ddf_copy.specs.declared.newest_copy.Newest.{Newest}
use Rattle.ddf_copy.specs.declared.newest_copy.Newest.TheVariants as newests
use Rattle.ddf_copy.specs.Anchor.{anchor_at}
use Rattle.ddf_copy.specs.Which.{place_of}
use Rattle.ddf_copy.specs.Gate.{header_of}
use Rattle.ddf_copy.specs.Sections.{and_then, copy_in, raw_at}
use Rattle.ddf_copy.specs.Written.{is_level}

-- The copy, where it is whole: its header is as it is to be, and so are its sections. Otherwise the first fault.
unfoldable pub copy_of : (size : ℕ) → (ℕ → List ℕ) → (anchor : Header) → Which → Result DiskCopy CopyFault
copy_of size sector anchor which =
    and_then (header_of size sector anchor which) (λ header. copy_in header (raw_at sector (place_of which anchor) header.geometry))

-- both are whole, and level
abbrev pub are_level : Result DiskCopy CopyFault → Result DiskCopy CopyFault → Bool
are_level (Ok primary) (Ok secondary) = is_level primary secondary
are_level primary secondary = false

-- both copies of a disk
abbrev pub copies_of : (size : ℕ) → (ℕ → List ℕ) → (anchor : Header) → Copies
copies_of size sector anchor = record {
  primary = copy_of size sector anchor Primary;
  secondary = copy_of size sector anchor Secondary;
  level = are_level (copy_of size sector anchor Primary) (copy_of size sector anchor Secondary);
}

-- of two whole copies that of the greater sequence, and of one sequence both
abbrev pub newest_of_both : Bool → DiskCopy → DiskCopy → Newest
newest_of_both level primary secondary =
    if nat_lt primary.header.sequence secondary.header.sequence then newests.One Secondary secondary
    else if nat_lt secondary.header.sequence primary.header.sequence then newests.One Primary primary
    else if level then newests.Level primary
    else newests.TwoDiffer primary secondary

-- the newest of the copies that are whole
abbrev pub newest_in : Bool → Result DiskCopy CopyFault → Result DiskCopy CopyFault → Newest
newest_in level (Ok primary) (Ok secondary) = newest_of_both level primary secondary
newest_in level (Ok primary) (Err fault) = newests.One Primary primary
newest_in level (Err fault) (Ok secondary) = newests.One Secondary secondary
newest_in level (Err first) (Err second) = newests.Neither first second

abbrev pub newest_of_copies : Copies → Newest
newest_of_copies copies = newest_in copies.level copies.primary copies.secondary

-- The newest copy of a disk. Of two that are level the primary one stands for both.
unfoldable pub newest_of : (size : ℕ) → (ℕ → List ℕ) → (anchor : Header) → Newest
newest_of size sector anchor = newest_of_copies (copies_of size sector anchor)

-- the copy that stands for the disk: of two that differ the primary one
abbrev pub standing_copy : Newest → Option DiskCopy
standing_copy (newests.One which copy) = Some copy
standing_copy (newests.Level copy) = Some copy
standing_copy (newests.TwoDiffer primary secondary) = Some primary
standing_copy (newests.Neither first second) = None

-- the newest copy under a disk's anchor, where it has one
abbrev pub newest_under : (size : ℕ) → (ℕ → List ℕ) → Result Header AnchorFault → Option Newest
newest_under size sector (Ok anchor) = Some (newest_of size sector anchor)
newest_under size sector (Err fault) = None

abbrev pub newest_at : (size : ℕ) → (ℕ → List ℕ) → Option Newest
newest_at size sector = newest_under size sector (anchor_at size sector)
