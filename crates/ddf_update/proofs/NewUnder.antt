-- The copies of a new group's disks can be written in both places of their disks.
use Rattle.std.proofs.Common.{◌≡◌, ℕ, ◌*◌, ◌-◌, ◌<◌, ◌≤◌, ◌^◌, true, List, ◌∷◌, length, get_or, None, refl, sym, ◌∙◌, subst, inl, inr, arith}
use Rattle.std.proofs.lemmas.Bool.{ne_eqb}
use Rattle.std.specs.List.{AllByRecursion}
use Rattle.ddf_bytes.specs.declared.stamp.Stamp.{Stamp}
use Rattle.ddf_seal.specs.Seal.{seal_place}
use Rattle.ddf_seal.specs.Unread.{Fits, placed, places, u32s_at}
use Rattle.ddf_seal.proofs.Same.{AreWithin, cleared-cleared, cleared_outside, within_from_test}
use Rattle.ddf_header.specs.declared.kind.HeaderKind.TheVariants.{Primary}
use Rattle.ddf_header.specs.declared.kind.Revision.{Revision}
use Rattle.ddf_header.specs.declared.kind.Revision.TheVariants.{R100, R120, R200}
use Rattle.ddf_header.specs.declared.layout.TheConstants.{SECTIONS_AT}
use Rattle.ddf_header.specs.Layout.{revision_text}
use Rattle.ddf_header.specs.Geometry.{section_numbers}
use Rattle.ddf_header.specs.Header.{IsHeader, IsWritable, are_header_places, header_fields, is_open_flag}
use Rattle.ddf_tables.specs.Sectors.{IsController, IsDiskData, controller_fields, disk_data_fields}
use Rattle.ddf_tables.specs.Disks.{IsDiskTable}
use Rattle.ddf_tables.specs.Arrays.{IsArrayTable}
use Rattle.ddf_tables.specs.BadBlocks.{IsLog}
use Rattle.ddf_copy.specs.declared.copy.DiskCopy.{DiskCopy}
use Rattle.ddf_copy.specs.declared.which.Which.{Which}
use Rattle.ddf_copy.specs.declared.which.Which.TheVariants as whiches
use Rattle.ddf_copy.specs.Gate.{gate_fault, header_bytes}
use Rattle.ddf_copy.specs.Headers.{IsUnder, anchor_header, closed_header}
use Rattle.ddf_copy.specs.Room.{room_fault}
use Rattle.ddf_copy.specs.Which.{other_of, place_of}
use Rattle.ddf_copy.specs.Written.{CanBeCopy}
use Rattle.ddf_update.specs.declared.new_layout.NewLayout.{NewLayout}
use Rattle.ddf_update.specs.NewLayouts.{copy_length, least_sectors, primary_back, rows_of, secondary_back, table_sectors_of}
use Rattle.ddf_update.specs.NewCopies.{named_controller, named_disk_data, named_header, new_arrays, new_controller, new_copy, new_disk_data, new_disks, new_geometry, new_header, new_header_bytes, new_log, new_sector_bytes}
use Rattle.ddf_copy.proofs.Anchored.{anchor_shares}
use Rattle.ddf_update.proofs.NewNumbers.{are_few, few_rows, no_geometry_fault}
use Rattle.ddf_update.proofs.NewRoom.{IsNear, has_room}
use Rattle.ddf_update.proofs.NewRows.{reference_fits}
use Rattle.ddf_update.proofs.NewSlots.{slots_can, slots_counted, slots_fit}

-- ---- the header

length-header_bytes : length new_header_bytes ≡ 512
unfolding new_header_bytes placed
length-header_bytes = refl

length-sector_bytes : length new_sector_bytes ≡ 512
unfolding new_sector_bytes
length-sector_bytes = refl

header_within : (layout : NewLayout) (revision : Revision) (stamp : Stamp) (size : ℕ) → AreWithin (length new_header_bytes) (seal_place ∷ places (header_fields (named_header layout revision stamp size)))
header_within layout revision stamp size =
    let spans = seal_place ∷ places (header_fields (named_header layout revision stamp size)) in
    subst (λ n. AreWithin n spans) (sym length-header_bytes) (within_from_test 512 spans refl)

pub length-header_rest : (layout : NewLayout) (revision : Revision) (stamp : Stamp) (size : ℕ) → length (new_header layout revision stamp size).rest ≡ 512
length-header_rest layout revision stamp size =
    let spans = seal_place ∷ places (header_fields (named_header layout revision stamp size)) in
    (cleared_outside spans new_header_bytes (header_within layout revision stamp size)).size ∙ length-header_bytes

places_good : (layout : NewLayout) (size : ℕ) → least_sectors layout ≤ size → size < 2 ^ 64 → are_header_places (size - primary_back layout) (size - secondary_back layout) ≡ true
unfolding are_header_places
places_good layout size large fits =
    let apart = ne_eqb (size - primary_back layout) (size - secondary_back layout) (λ (e : size - primary_back layout ≡ size - secondary_back layout). absurd (omega (arith, e, large))) in
    let first = ne_eqb (size - primary_back layout) (2 ^ 64 - 1) (λ (e : size - primary_back layout ≡ 2 ^ 64 - 1). absurd (omega (arith, e, fits))) in
    let second = ne_eqb (size - secondary_back layout) (2 ^ 64 - 1) (λ (e : size - secondary_back layout ≡ 2 ^ 64 - 1). absurd (omega (arith, e, fits))) in
    rw (apart, first, second) refl

header_is : (layout : NewLayout) (revision : Revision) (stamp : Stamp) (size : ℕ) → least_sectors layout ≤ size → size < 2 ^ 64 → IsHeader Primary (new_header layout revision stamp size)
unfolding is_open_flag
header_is layout revision stamp size large fits = record {
  of_kind = refl;
  has_flag = refl;
  has_places = places_good layout size large fits;
  has_geometry = no_geometry_fault layout size;
}

sections_fit : (layout : NewLayout) (size : ℕ) → Fits (u32s_at SECTIONS_AT 16 (section_numbers (new_geometry layout size).sections))
sections_fit layout size = let few = are_few layout in (
  refl,
  (
    omega arith,
    (
      omega arith,
      (
        omega arith,
        (
          omega arith,
          (
            omega arith,
            (
              omega arith,
              (
                omega arith,
                (
                  omega arith,
                  (omega arith, (omega arith, (omega arith, (omega arith, (omega arith, (omega arith, (omega arith, (omega arith, tt)))))))),
                ),
              ),
            ),
          ),
        ),
      ),
    ),
  ),
)

-- a revision is written as eight characters
text_long : (revision : Revision) → length (revision_text revision) ≡ 8
text_long R100 = refl
text_long R120 = refl
text_long R200 = refl

header_writable : (layout : NewLayout) (revision : Revision) (stamp : Stamp) (size : ℕ) → least_sectors layout ≤ size → size < 2 ^ 64 → IsWritable Primary (new_header layout revision stamp size)
header_writable layout revision stamp size large fits =
    let spans = seal_place ∷ places (header_fields (named_header layout revision stamp size)) in
    let few = are_few layout in
    record {
      is_header = header_is layout revision stamp size large fits;
      is_record = record {
        fields_fit = (
          refl,
          (
            text_long revision,
            (
              omega arith,
              (
                omega arith,
                (
                  omega arith,
                  (
                    omega (arith, fits),
                    (
                      omega (arith, fits),
                      (
                        omega arith,
                        (omega arith, (omega (arith, fits), (omega arith, (omega arith, (omega arith, (omega arith, (omega arith, (sections_fit layout size, tt)))))))),
                      ),
                    ),
                  ),
                ),
              ),
            ),
          ),
        );
        others_clear = cleared-cleared spans new_header_bytes (header_within layout revision stamp size);
      };
      rest_size = length-header_rest layout revision stamp size;
    }

sections_near : (layout : NewLayout) (size : ℕ) → AllByRecursion (IsNear (copy_length layout)) (new_geometry layout size).sections
sections_near layout size = (
  inr (omega arith, omega arith),
  (inr (omega arith, omega arith), (inr (omega arith, omega arith), (inr (omega arith, omega arith), (inr (omega arith, omega arith), (inr (omega arith, omega arith), (inl refl, (inl refl, tt))))))),
)

-- ---- the records of one sector

controller_can : (stamp : Stamp) → IsController (new_controller stamp)
controller_can stamp =
    let spans = seal_place ∷ places (controller_fields (named_controller stamp)) in
    let inside = subst (λ n. AreWithin n spans) (sym length-sector_bytes) (within_from_test 512 spans refl) in
    record {
      is_record = record { fields_fit = (refl, tt); others_clear = cleared-cleared spans new_sector_bytes inside };
      rest_size = (cleared_outside spans new_sector_bytes inside).size ∙ length-sector_bytes;
    }

disk_data_can : (stamp : Stamp) (place : ℕ) → place < 63 → IsDiskData (new_disk_data stamp place)
disk_data_can stamp place lt =
    let spans = seal_place ∷ places (disk_data_fields (named_disk_data stamp place)) in
    let inside = subst (λ n. AreWithin n spans) (sym length-sector_bytes) (within_from_test 512 spans refl) in
    record {
      is_record = record { fields_fit = (refl, (omega (arith, reference_fits stamp place lt), tt)); others_clear = cleared-cleared spans new_sector_bytes inside };
      rest_size = (cleared_outside spans new_sector_bytes inside).size ∙ length-sector_bytes;
    }

-- ---- the copy

-- the tables and the log of a new copy, as the calls that make them promise them
pub record AreMade (layout : NewLayout) (revision : Revision) (stamp : Stamp) (sizes : List ℕ) : Type 0 where
  pub disks_can : IsDiskTable (rows_of layout) (new_disks layout revision stamp sizes)
  pub disks_size : length (new_disks layout revision stamp sizes).rest ≡ 512 * table_sectors_of layout
  pub arrays_can : IsArrayTable (rows_of layout) (new_arrays layout)
  pub arrays_size : length (new_arrays layout).rest ≡ 512 * table_sectors_of layout
  pub log_can : IsLog new_log
  pub log_size : length new_log.rest ≡ 512

copy_is : (layout : NewLayout) (revision : Revision) (stamp : Stamp) (sizes : List ℕ) (place : ℕ) → AreMade layout revision stamp sizes → place < rows_of layout → least_sectors layout ≤ get_or sizes place 0 → get_or sizes place 0 < 2 ^ 64 → CanBeCopy (new_copy layout revision stamp sizes place)
copy_is layout revision stamp sizes place made lt large fits =
    let size = get_or sizes place 0 in
    record {
      header_can = header_writable layout revision stamp size large fits;
      is_closed = refl;
      controller_can = controller_can stamp;
      disks_can = made.disks_can;
      disks_size = made.disks_size;
      arrays_can = made.arrays_can;
      arrays_size = made.arrays_size;
      slots_can = slots_can layout stamp size _ 1;
      slots_fit = slots_fit layout stamp size;
      slots_count = slots_counted layout stamp;
      disk_data_can = disk_data_can stamp place (omega (arith, lt, few_rows layout));
      has_log = (made.log_can, made.log_size, omega arith);
    }

copy_has_room : (layout : NewLayout) (revision : Revision) (stamp : Stamp) (sizes : List ℕ) (place : ℕ) (which : Which) → least_sectors layout ≤ get_or sizes place 0
    → room_fault (get_or sizes place 0 - 1) (place_of which (anchor_header (new_copy layout revision stamp sizes place))) (place_of (other_of which) (anchor_header (new_copy layout revision stamp sizes place))) (new_geometry layout (get_or sizes place 0)).sections ≡ None
copy_has_room layout revision stamp sizes place whiches.Primary large =
    let size = get_or sizes place 0 in
    has_room (copy_length layout) (omega arith) (size - 1) (size - primary_back layout) (size - secondary_back layout) (new_geometry layout size).sections
    (record { own_ends = omega (arith, large); other_ends = omega (arith, large); are_apart = inl (omega (arith, large)) }) (sections_near layout size)
copy_has_room layout revision stamp sizes place whiches.Secondary large =
    let size = get_or sizes place 0 in
    has_room (copy_length layout) (omega arith) (size - 1) (size - secondary_back layout) (size - primary_back layout) (new_geometry layout size).sections
    (record { own_ends = omega (arith, large); other_ends = omega (arith, large); are_apart = inr (omega (arith, large)) }) (sections_near layout size)

copy_has_gate : (layout : NewLayout) (revision : Revision) (stamp : Stamp) (sizes : List ℕ) (place : ℕ) (which : Which) → CanBeCopy (new_copy layout revision stamp sizes place) → least_sectors layout ≤ get_or sizes place 0
    → gate_fault (get_or sizes place 0) (anchor_header (new_copy layout revision stamp sizes place)) which (closed_header (new_copy layout revision stamp sizes place) which) (header_bytes (closed_header (new_copy layout revision stamp sizes place) which)) ≡ None
unfolding gate_fault
copy_has_gate layout revision stamp sizes place which is large =
    rw (anchor_shares (new_copy layout revision stamp sizes place) which is (length-header_rest layout revision stamp (get_or sizes place 0)), copy_has_room layout revision stamp sizes place which large) refl

copy_in_place : (copy : DiskCopy) (which : Which) → place_of which copy.header ≡ place_of which (anchor_header copy)
copy_in_place copy whiches.Primary = refl
copy_in_place copy whiches.Secondary = refl

pub copy_is_under : (layout : NewLayout) (revision : Revision) (stamp : Stamp) (sizes : List ℕ) (place : ℕ) → AreMade layout revision stamp sizes → place < rows_of layout → least_sectors layout ≤ get_or sizes place 0 → get_or sizes place 0 < 2 ^ 64
    → IsUnder (get_or sizes place 0) (anchor_header (new_copy layout revision stamp sizes place)) (new_copy layout revision stamp sizes place)
copy_is_under layout revision stamp sizes place made lt large fits =
    let is = copy_is layout revision stamp sizes place made lt large fits in
    record { is_copy = is; in_place = λ which. copy_in_place (new_copy layout revision stamp sizes place) which; has_gate = λ which. copy_has_gate layout revision stamp sizes place which is large }
