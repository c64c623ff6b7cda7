use Rattle.std.proofs.Common.{◌≡◌, ◌∙◌, Some, sym, ap, refl}
use Rattle.std.specs.Int.{w64}
use Rattle.std.specs.Prelude.{slice_index}
use Rattle.std.proofs.lemmas.Bool.{ne_eqb}
use Rattle.ddf_bytes.specs.Bytes.{bytes_at, number_at}
use Rattle.ddf_header.specs.declared.layout.TheConstants.{REVISION_AT, PRIMARY_LBA_AT, SECONDARY_LBA_AT, KIND_AT}
use Rattle.ddf_header.specs.Layout.{kind_code, revision_of}
use Rattle.ddf_header.specs.Geometry.{geometry_at, geometry_fault}
use Rattle.ddf_header.specs.Header.{are_header_places}
use Rattle.ddf_header.proofs.Faults.{SealStands, RevisionStands, PlacesStand, KindStands, flag_stands_from, seal_fault, revision_fault, flag_fault, place_fault, kind_fault, geometry_found, no_fault}
use Rattle.ddf_header.proofs.reading.read.Goals as goal
use Rattle.ddf_header.proofs.reading.read.Goals.{After-are_header_places, After-fault}

pub returns-in-Err : goal.returns-in-Err
returns-in-Err c = rw (seal_fault c.args.kind c.args.sector.now c.in-Err.fault (sym c.check.ensures.exact ∙ c.in-Err.is)) refl

pub returns-in_default-from_text : goal.returns-in_default-from_text
returns-in_default-from_text c =
    let sealed : SealStands c.args.sector.now = record { seal_stands = sym c.check.ensures.exact ∙ c.in_default.is } in
    rw (revision_fault c.args.kind c.args.sector.now sealed (sym c.from_text.ensures ∙ c.in_default-from_text.is)) refl

places : (c : After-are_header_places) → are_header_places (number_at w64 c.args.sector.now PRIMARY_LBA_AT) (number_at w64 c.args.sector.now SECONDARY_LBA_AT) ≡ c.are_header_places.result
places c = sym (rw (← c.be64-primary_lba.ensures, ← c.be64-secondary_lba.ensures) c.are_header_places.ensures)

-- what is known once the geometry is read
of_kind : (c : After-fault) → are_header_places (number_at w64 c.args.sector.now PRIMARY_LBA_AT) (number_at w64 c.args.sector.now SECONDARY_LBA_AT) ≡ c.are_header_places.result → KindStands c.args.kind c.args.sector.now c.in-Some.revision
of_kind c places = record {
  before = record {
    before = flag_stands_from c.args.kind c.args.sector.now c.in-Some.revision (sym c.check.ensures.exact ∙ c.in_default.is) (sym c.from_text.ensures ∙ c.in-Some.is)
        (sym c.is_open_flag.ensures ∙ c.if-not-is_open_flag.false);
    places_stand = places ∙ c.if-not-are_header_places.false;
  };
  kind_stands = c.if-sector-code.false ∙ c.code.ensures;
}

geometry : (c : After-fault) → geometry_fault (geometry_at c.args.sector.now) ≡ c.fault.result
geometry c = ap geometry_fault (sym c.read-geometry.ensures) ∙ sym c.fault.ensures

pub returns-then-not-is_open_flag : goal.returns-then-not-is_open_flag
returns-then-not-is_open_flag c =
    let of_revision : RevisionStands c.args.sector.now c.in-Some.revision = record {
      before = record { seal_stands = sym c.check.ensures.exact ∙ c.in_default.is };
      revision_stands = sym c.from_text.ensures ∙ c.in-Some.is;
    } in
    rw (flag_fault c.args.kind c.args.sector.now c.in-Some.revision of_revision (sym c.is_open_flag.ensures ∙ c.if-not-is_open_flag.true)) refl

pub returns-then-not-are_header_places : goal.returns-then-not-are_header_places
returns-then-not-are_header_places c =
    let flagged = flag_stands_from c.args.kind c.args.sector.now c.in-Some.revision (sym c.check.ensures.exact ∙ c.in_default.is) (sym c.from_text.ensures ∙ c.in-Some.is)
    (sym c.is_open_flag.ensures ∙ c.if-not-is_open_flag.false) in
    let of_places = places (goal.at.returns-then-not-are_header_places c).After-are_header_places in
    rw (place_fault c.args.kind c.args.sector.now c.in-Some.revision flagged (of_places ∙ c.if-not-are_header_places.true)) refl

pub returns-then-sector-code : goal.returns-then-sector-code
returns-then-sector-code c =
    let sector = c.args.sector.now in
    let flagged = flag_stands_from c.args.kind sector c.in-Some.revision (sym c.check.ensures.exact ∙ c.in_default.is) (sym c.from_text.ensures ∙ c.in-Some.is)
    (sym c.is_open_flag.ensures ∙ c.if-not-is_open_flag.false) in
    let of_places = places (goal.at.returns-then-sector-code c).After-are_header_places in
    let placed : PlacesStand c.args.kind sector c.in-Some.revision = record { before = flagged; places_stand = of_places ∙ c.if-not-are_header_places.false } in
    let other = ne_eqb (slice_index sector KIND_AT) (kind_code c.args.kind) (λ e. c.if-sector-code.true (e ∙ sym c.code.ensures)) in
    rw (kind_fault c.args.kind sector c.in-Some.revision placed other) refl

pub returns-in-Some-fault : goal.returns-in-Some-fault
returns-in-Some-fault c =
    let known = (goal.at.returns-in-Some-fault c).After-fault in
    let of_places = places (goal.at.returns-in-Some-fault c).After-are_header_places in
    rw (geometry_found c.args.kind c.args.sector.now c.in-Some.revision c.in-Some-fault.offset (of_kind known of_places) (geometry known ∙ c.in-Some-fault.is)) refl

pub returns : goal.returns
returns c =
    let known = (goal.at.returns c).After-fault in
    let of_places = places (goal.at.returns c).After-are_header_places in
    let none = no_fault c.args.kind c.args.sector.now c.in-Some.revision (of_kind known of_places) (geometry known ∙ c.in_default-fault.is) in
    let revision : revision_of (bytes_at c.args.sector.now REVISION_AT 8) ≡ Some c.in-Some.revision = sym c.from_text.ensures ∙ c.in-Some.is in
    rw (none, revision, c.guid_at.ensures, c.be32.ensures, c.be32-2.ensures, c.be64-primary_lba.ensures, c.be64-secondary_lba.ensures, c.read-geometry.ensures, c.clear.ensures.unread) refl
