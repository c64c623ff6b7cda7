-- What a disk shows of itself, by its size and the bytes of its sectors.
use Rattle.std.specs.Prelude.{ℕ, List, nat_lt, Result, Ok, Err, if◌then◌else◌}
use Rattle.ddf_header.specs.declared.kind.HeaderKind.{HeaderKind}
use Rattle.ddf_header.specs.declared.kind.HeaderKind.TheVariants.{Primary, Secondary}
use Rattle.ddf_header.specs.declared.reading.Header.{Header}
use Rattle.ddf_header.specs.declared.fault.HeaderFault.{HeaderFault}
use Rattle.ddf_header.specs.Header.{decoded}
use Rattle.ddf_copy.specs.declared.fault.AnchorFault.{AnchorFault}
use Rattle.ddf_copy.specs.declared.fault.AnchorFault.TheVariants.{Damaged}
use Rattle.ddf_copy.specs.Anchor.{anchor_at}
use Rattle.ddf_copy.specs.Copies.{copies_of}
use Rattle.ddf_text.specs.declared.view.HeaderView.{HeaderView}
use Rattle.ddf_text.specs.declared.view.HeaderView.TheVariants as header_views
use Rattle.ddf_text.specs.declared.view.Headers.{Headers}
use Rattle.ddf_text.specs.declared.view.DiskView.{DiskView}
use Rattle.ddf_text.specs.declared.view.DiskView.TheVariants as views

abbrev pub decoded_view : Result Header HeaderFault → HeaderView
decoded_view (Ok header) = header_views.Header header
decoded_view (Err fault) = header_views.Fault fault

-- what stands where a header is to be
unfoldable pub header_view : ℕ → (ℕ → List ℕ) → ℕ → HeaderKind → HeaderView
header_view size sector lba kind = if nat_lt lba size then decoded_view (decoded kind (sector lba)) else header_views.Room

-- the anchor, the two headers that it names, and both copies
abbrev pub headers_view : ℕ → (ℕ → List ℕ) → Header → Headers
headers_view size sector anchor = record {
  anchor = anchor;
  primary = header_view size sector anchor.primary_lba Primary;
  secondary = header_view size sector anchor.secondary_lba Secondary;
  copies = copies_of size sector anchor;
}

-- A slot without an anchor is damaged, or else blank.
abbrev pub anchored_view : ℕ → (ℕ → List ℕ) → Result Header AnchorFault → DiskView
anchored_view size sector (Ok anchor) = views.Headers (headers_view size sector anchor)
anchored_view size sector (Err (Damaged fault)) = views.Damaged fault
anchored_view size sector (Err fault) = views.Blank

-- what a disk of so many sectors shows of itself
unfoldable pub disk_view : ℕ → (ℕ → List ℕ) → DiskView
disk_view size sector = anchored_view size sector (anchor_at size sector)
