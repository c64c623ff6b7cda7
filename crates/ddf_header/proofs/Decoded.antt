-- A sector is decoded to a header exactly where the header is its value.
use Rattle.std.proofs.Common.{◌≡◌, ◌↔◌, ◌⊎◌, inl, inr, ℕ, Bool, true, false, cond, eqb, List, length, Option, Some, None, Result, Ok, Err, refl, sym, ◌∙◌, ap, subst, arith}
use Rattle.std.specs.Prelude.{IfOk, is_none, unwrap_or, slice_index}
use Rattle.std.specs.Result.{result_err}
use Rattle.std.specs.Str.{bytes_eq}
use Rattle.std.specs.Int.{w64}
use Rattle.std.proofs.lemmas.Bool.{eqb-true}
use Rattle.std.proofs.lemmas.Slice.Eq.{bytes_eq-Decides}
use Rattle.ddf_lemmas.proofs.Options.{none_from_map}
use Rattle.ddf_bytes.specs.Bytes.{bytes_at, number_at}
use Rattle.ddf_bytes.specs.Choices.{ok_unless, when}
use Rattle.ddf_bytes.proofs.Nones.{none_first, none_when_not}
use Rattle.ddf_seal.specs.Seal.{seal_check}
use Rattle.ddf_seal.specs.Unread.{AreBytes}
use Rattle.ddf_seal.specs.declared.sealing.SealFault.{SealFault}
use Rattle.ddf_seal.proofs.Seals.{sealed_from_check, check_from_sealed}
use Rattle.ddf_seal.proofs.Common.{none_err}
use Rattle.ddf_header.specs.declared.kind.HeaderKind.{HeaderKind}
use Rattle.ddf_header.specs.declared.kind.Revision.{Revision}
use Rattle.ddf_header.specs.declared.kind.Revision.TheVariants.{R100, R120, R200}
use Rattle.ddf_header.specs.declared.geometry.Section.{Section}
use Rattle.ddf_header.specs.declared.geometry.Geometry.{Geometry}
use Rattle.ddf_header.specs.declared.reading.Header.{Header}
use Rattle.ddf_header.specs.declared.fault.HeaderFault.{HeaderFault}
use Rattle.ddf_header.specs.declared.fault.HeaderFault.TheVariants as faults
use Rattle.ddf_header.specs.declared.layout.TheConstants.{REVISION_AT, OPEN_FLAG_AT, PRIMARY_LBA_AT, SECONDARY_LBA_AT, KIND_AT}
use Rattle.ddf_header.specs.Layout.{kind_code, revision_text, revision_of}
use Rattle.ddf_header.specs.Geometry.{geometry_at, geometry_fault, IsSound}
use Rattle.ddf_header.specs.Header.{header_signature, is_open_flag, are_header_places, IsHeaderOf, IsWritable, faults_of, first_fault, header_at, decoded}
use Rattle.ddf_header.proofs.Sound.{sound}
use Rattle.ddf_header.proofs.Encoded.{writable_from_value}
use Rattle.ddf_header.proofs.Faults.{KindStands, no_fault}
use Rattle.ddf_header.proofs.Sections.{numbers_of_sections, sections_from_numbers}

-- ---- what it says that there is no fault

sealed : Result Unit SealFault
sealed = Ok tt

some_revision : (o : Option Revision) → when (is_none o) faults.Revision ≡ None → o ≡ Some (unwrap_or o R100)
some_revision None h = absurd cc
some_revision (Some r) h = refl

pub ok_parts : (o : Option HeaderFault) (x y : Header) → ok_unless o x ≡ Ok y → (o ≡ None) × (x ≡ y)
ok_parts None x y h = (refl, cc)
ok_parts (Some e) x y h = absurd cc

conditions : (kind : HeaderKind) (sector : List ℕ) → first_fault kind sector ≡ None
    → KindStands kind sector (unwrap_or (revision_of (bytes_at sector REVISION_AT 8)) R100) × (geometry_fault (geometry_at sector) ≡ None)
unfolding first_fault
conditions kind sector h =
    let none = none_first (faults_of kind sector) h in
    let seal = seal_check header_signature sector in (
      record {
        before = record {
          before = record {
            before = record {
              before = record { seal_stands = none_err seal (none_from_map faults.Seal (result_err seal) none.0) };
              revision_stands = some_revision (revision_of (bytes_at sector REVISION_AT 8)) none.1.0;
            };
            flag_stands = none_when_not (is_open_flag kind (slice_index sector OPEN_FLAG_AT)) (faults.OpenFlag (slice_index sector OPEN_FLAG_AT)) none.1.1.0;
          };
          places_stand = none_when_not (are_header_places (number_at w64 sector PRIMARY_LBA_AT) (number_at w64 sector SECONDARY_LBA_AT)) faults.Place none.1.1.1.0;
        };
        kind_stands = eqb-true (slice_index sector KIND_AT) (kind_code kind) (none_when_not (eqb (slice_index sector KIND_AT) (kind_code kind)) (faults.Kind (slice_index sector KIND_AT)) none.1.1.1.1.0);
      },
      none_from_map faults.Geometry (geometry_fault (geometry_at sector)) none.1.1.1.1.1.0,
    )

-- ---- revisions

picks : (a b c : Bool) (revision : Revision) → cond a (Some R100) (cond b (Some R120) (cond c (Some R200) None)) ≡ Some revision
    → ((a ≡ true) × (revision ≡ R100)) ⊎ (((b ≡ true) × (revision ≡ R120)) ⊎ ((c ≡ true) × (revision ≡ R200)))
picks true b c revision h = inl (refl, cc)
picks false true c revision h = inr (inl (refl, cc))
picks false false true revision h = inr (inr (refl, cc))
picks false false false revision h = absurd cc

text_of_revision : (text : List ℕ) (revision : Revision) → revision_of text ≡ Some revision → text ≡ revision_text revision
unfolding revision_of
text_of_revision text revision h =
    elim (picks (bytes_eq text (revision_text R100)) (bytes_eq text (revision_text R120)) (bytes_eq text (revision_text R200)) revision h) [
      | inl one ↦ (bytes_eq-Decides text (revision_text R100)).0 one.0 ∙ ap revision_text (sym one.1)
      | inr others ↦ elim others [
        | inl two ↦ (bytes_eq-Decides text (revision_text R120)).0 two.0 ∙ ap revision_text (sym two.1)
        | inr three ↦ (bytes_eq-Decides text (revision_text R200)).0 three.0 ∙ ap revision_text (sym three.1)
      ]
    ]

revision_of_text : (revision : Revision) → revision_of (revision_text revision) ≡ Some revision
unfolding revision_of
revision_of_text R100 = refl
revision_of_text R120 = refl
revision_of_text R200 = refl

-- ---- both ways

abbrev geometry_of : (workspace_length workspace_lba max_disks max_arrays max_partitions record_length max_members : ℕ) (sections : List Section) → Geometry
geometry_of workspace_length workspace_lba max_disks max_arrays max_partitions record_length max_members sections = record {
  workspace_length = workspace_length;
  workspace_lba = workspace_lba;
  max_disks = max_disks;
  max_arrays = max_arrays;
  max_partitions = max_partitions;
  record_length = record_length;
  max_members = max_members;
  sections = sections;
}

same_geometry : (a b : Geometry) → a.workspace_length ≡ b.workspace_length → a.workspace_lba ≡ b.workspace_lba → a.max_disks ≡ b.max_disks → a.max_arrays ≡ b.max_arrays
    → a.max_partitions ≡ b.max_partitions → a.record_length ≡ b.record_length → a.max_members ≡ b.max_members → a.sections ≡ b.sections → a ≡ b
same_geometry a b e1 e2 e3 e4 e5 e6 e7 e8 =
    let all : geometry_of a.workspace_length a.workspace_lba a.max_disks a.max_arrays a.max_partitions a.record_length a.max_members a.sections
    ≡ geometry_of b.workspace_length b.workspace_lba b.max_disks b.max_arrays b.max_partitions b.record_length b.max_members b.sections = cc in
    all

abbrev header_of : (kind : HeaderKind) (guid : List ℕ) (revision : Revision) (sequence timestamp openness primary_lba secondary_lba : ℕ) (geometry : Geometry) (rest : List ℕ) → Header
header_of kind guid revision sequence timestamp openness primary_lba secondary_lba geometry rest = record {
  kind = kind;
  guid = guid;
  revision = revision;
  sequence = sequence;
  timestamp = timestamp;
  openness = openness;
  primary_lba = primary_lba;
  secondary_lba = secondary_lba;
  geometry = geometry;
  rest = rest;
}

same_header : (a b : Header) → a.kind ≡ b.kind → a.guid ≡ b.guid → a.revision ≡ b.revision → a.sequence ≡ b.sequence → a.timestamp ≡ b.timestamp → a.openness ≡ b.openness
    → a.primary_lba ≡ b.primary_lba → a.secondary_lba ≡ b.secondary_lba → a.geometry ≡ b.geometry → a.rest ≡ b.rest → a ≡ b
same_header a b e1 e2 e3 e4 e5 e6 e7 e8 e9 e10 =
    let all : header_of a.kind a.guid a.revision a.sequence a.timestamp a.openness a.primary_lba a.secondary_lba a.geometry a.rest
    ≡ header_of b.kind b.guid b.revision b.sequence b.timestamp b.openness b.primary_lba b.secondary_lba b.geometry b.rest = cc in
    all

-- the header that is read from a sector without a fault is its value
pub header_at_is : (kind : HeaderKind) (sector : List ℕ) → length sector ≡ 512 → AreBytes sector → first_fault kind sector ≡ None → IsHeaderOf kind (header_at kind sector) sector
unfolding geometry_at
header_at_is kind sector size are h =
    let known = conditions kind sector h in
    let stands = known.0 in
    record {
      size = size;
      is_record = record {
        are_bytes = are;
        is_sealed = sealed_from_check header_signature sector (omega arith) are stands.before.before.before.before.seal_stands;
        fields_stand = (
          refl,
          (
            text_of_revision (bytes_at sector REVISION_AT 8) (unwrap_or (revision_of (bytes_at sector REVISION_AT 8)) R100) stands.before.before.before.revision_stands,
            (refl, (refl, (refl, (refl, (refl, (stands.kind_stands, (refl, (refl, (refl, (refl, (refl, (refl, (refl, (numbers_of_sections sector, tt)))))))))))))),
          ),
        );
        others_stay = refl;
      };
      is_header = record {
        of_kind = refl;
        has_flag = stands.before.before.flag_stands;
        has_places = stands.before.places_stand;
        has_geometry = known.1;
      };
    }

-- the value of a sector is what is read from it, and there is no fault
pub decoded_is : (kind : HeaderKind) (sector : List ℕ) (header : Header) → IsHeaderOf kind header sector → decoded kind sector ≡ Ok header
unfolding geometry_at
decoded_is kind sector header is =
    let guid = is.is_record.fields_stand in
    let revision = guid.1 in
    let sequence = revision.1 in
    let timestamp = sequence.1 in
    let openness = timestamp.1 in
    let primary = openness.1 in
    let secondary = primary.1 in
    let code = secondary.1 in
    let workspace_length = code.1 in
    let workspace_lba = workspace_length.1 in
    let max_disks = workspace_lba.1 in
    let max_arrays = max_disks.1 in
    let max_partitions = max_arrays.1 in
    let record_length = max_partitions.1 in
    let max_members = record_length.1 in
    let numbers = max_members.1 in
    let of_kind = is.is_header.of_kind in
    let known : revision_of (bytes_at sector REVISION_AT 8) ≡ Some header.revision = ap revision_of revision.0 ∙ revision_of_text header.revision in
    let geometry : geometry_at sector ≡ header.geometry = same_geometry (geometry_at sector) header.geometry workspace_length.0 workspace_lba.0 max_disks.0 max_arrays.0 max_partitions.0
    record_length.0 max_members.0 (sections_from_numbers sector header.geometry.sections numbers.0) in
    let places : are_header_places (number_at w64 sector PRIMARY_LBA_AT) (number_at w64 sector SECONDARY_LBA_AT) ≡ true = rw (primary.0, secondary.0) is.is_header.has_places in
    let stands : KindStands kind sector header.revision = record {
      before = record {
        before = record {
          before = record {
            before = record { seal_stands = check_from_sealed header_signature sector (omega (arith, is.size)) is.is_record.are_bytes (omega arith) is.is_record.is_sealed };
            revision_stands = known;
          };
          flag_stands = rw openness.0 is.is_header.has_flag;
        };
        places_stand = places;
      };
      kind_stands = code.0 ∙ ap kind_code of_kind;
    } in
    let none = no_fault kind sector header.revision stands (ap geometry_fault geometry ∙ is.is_header.has_geometry) in
    let same : header_at kind sector ≡ header = same_header (header_at kind sector) header (sym of_kind) guid.0 (ap (λ o. unwrap_or o R100) known) sequence.0 timestamp.0 openness.0
    primary.0 secondary.0 geometry (sym is.is_record.others_stay) in
    ap (λ o. ok_unless o (header_at kind sector)) none ∙ ap Ok same

pub decodes : (kind : HeaderKind) (sector : List ℕ) (result : Result Header HeaderFault) → length sector ≡ 512 → AreBytes sector → result ≡ decoded kind sector
    → (header : Header) → (result ≡ Ok header) ↔ IsHeaderOf kind header sector
decodes kind sector result size are exact header = (
  λ e.
      let parts = ok_parts (first_fault kind sector) (header_at kind sector) header (sym exact ∙ e) in
      subst (λ (h : Header). IsHeaderOf kind h sector) parts.1 (header_at_is kind sector size are parts.0),
  λ is. exact ∙ decoded_is kind sector header is,
)

pub decoded_writable : (kind : HeaderKind) (sector : List ℕ) (result : Result Header HeaderFault) → length sector ≡ 512 → AreBytes sector → result ≡ decoded kind sector → IfOk result (IsWritable kind)
decoded_writable kind sector (Ok header) size are exact = writable_from_value kind header sector ((decodes kind sector (Ok header) size are exact header).0 refl)
decoded_writable kind sector (Err fault) size are exact = tt

pub decoded_sound : (kind : HeaderKind) (sector : List ℕ) (result : Result Header HeaderFault) → length sector ≡ 512 → AreBytes sector → result ≡ decoded kind sector → IfOk result (λ header. IsSound header.geometry)
decoded_sound kind sector (Ok header) size are exact = sound header.geometry ((decodes kind sector (Ok header) size are exact header).0 refl).is_header.has_geometry
decoded_sound kind sector (Err fault) size are exact = tt
