-- A copy that has room in one place can be written in both.
use Rattle.std.proofs.Common.{◌≡◌, ◌⊎◌, ℕ, zero, suc, ◌+◌, ◌-◌, ◌<◌, ◌≤◌, Bool, true, false, not, ◌&&◌, eqb, ltb, List, [], ◌∷◌, Option, Some, None, refl, sym, ap, ◌∙◌, eq-eqb, inl, inr, arith}
use Rattle.std.proofs.lemmas.Bool.{cases_lt, le-ltb, ne_eqb, lt-leb, or_parts}
use Rattle.std.proofs.lemmas.Iterator.Adapters.{position_from-zero}
use Rattle.std.specs.Prelude.{slice_get}
use Rattle.std.specs.List.{list_any, position, position_from, range_with_len}
use Rattle.ddf_header.specs.declared.geometry.Section.{Section}
use Rattle.ddf_header.specs.declared.reading.Header.{Header}
use Rattle.ddf_header.specs.Geometry.{is_absent}
use Rattle.ddf_copy.specs.declared.copy.DiskCopy.{DiskCopy}
use Rattle.ddf_copy.specs.declared.which.Which.{Which}
use Rattle.ddf_copy.specs.declared.which.Which.TheVariants.{Primary, Secondary}
use Rattle.ddf_copy.specs.Gate.{differ_at, first_difference, gate_fault, header_bytes, is_same_byte, is_shared}
use Rattle.ddf_copy.specs.Headers.{IsAnchor, IsReadHeader, IsUnder, anchor_header, closed_header}
use Rattle.ddf_copy.specs.Room.{has_no_room, has_sector_of, is_out_of_room, meets_copy, room_fault, share}
use Rattle.ddf_copy.specs.Which.{other_of, place_of}
use Rattle.ddf_copy.specs.Written.{CanBeCopy}
use Rattle.ddf_copy.proofs.Gates.{gate_from, headers_in_room, section_in_room}
use Rattle.ddf_copy.proofs.Shared.{bytes_same, same_at, shared_middle}
use Rattle.std.proofs.Common.{subst}
use Rattle.std.specs.Int.{from_be_bytes, w64}
use Rattle.ddf_bytes.specs.Bytes.{number_at}
use Rattle.ddf_header.specs.declared.kind.HeaderKind.{HeaderKind}
use Rattle.ddf_header.specs.declared.kind.HeaderKind.TheVariants.{Anchor}
use Rattle.ddf_header.specs.declared.layout.TheConstants.{PRIMARY_LBA_AT, SECONDARY_LBA_AT, KIND_AT}
use Rattle.ddf_header.specs.Header.{IsHeaderOf}
use Rattle.ddf_copy.specs.Which.{kind_of}
use Rattle.std.proofs.Common.{Err}
use Rattle.std.proofs.Math.Bool.{and-false, and_comm}
use Rattle.ddf_copy.specs.Faults.{IsCopyFaultOf, copy_failed}
use Rattle.ddf_copy.specs.declared.fault.CopyFault.{CopyFault}
use Rattle.ddf_copy.specs.declared.fault.CopyFault.TheVariants as faults
use Rattle.ddf_copy.proofs.Anchored.{anchor_shares}

share_turn : (one many other more : ℕ) → share one many other more ≡ share other more one many
share_turn one many other more = and_comm (ltb one (other + more)) (ltb other (one + many))

-- ---- lists of sections

abbrev AllAt : (p : Section → Bool) → List Section → Type 0
AllAt p sections = (index : ℕ) (section : Section) → slice_get sections index ≡ Some section → p section ≡ false

abbrev some_item : Section → Option Section
some_item x = Some x

same_item : (x y : Section) → some_item x ≡ some_item y → x ≡ y
same_item x y e = cc

any_none : (p : Section → Bool) (sections : List Section) → list_any p sections ≡ false → AllAt p sections
any_none p [] h index section at = absurd cc
any_none p (x ∷ xs) h zero section at = ap p (sym (same_item x section at)) ∙ (or_parts (p x) (list_any p xs) h).0
any_none p (x ∷ xs) h (suc index) section at = any_none p xs (or_parts (p x) (list_any p xs) h).1 index section at

none_any : (p : Section → Bool) (sections : List Section) → AllAt p sections → list_any p sections ≡ false
none_any p [] all = refl
none_any p (x ∷ xs) all = rw (all 0 x refl, none_any p xs (λ index section at. all (suc index) section at)) refl

none_at : (p : Section → Bool) (n : ℕ) (sections : List Section) → AllAt p sections → position_from p n sections ≡ None
none_at p n [] all = refl
none_at p n (x ∷ xs) all = rw (all 0 x refl) (none_at p (n + 1) xs (λ index section at. all (suc index) section at))

-- ---- room, from either side

present_share : (lba at many : ℕ) (section : Section) → has_sector_of lba at many section ≡ false → 0 < section.length → share at many (lba + section.offset) section.length ≡ false
present_share lba at many section h some =
    let present : eqb section.length 0 ≡ false = ne_eqb section.length 0 (λ (e : section.length ≡ 0). absurd (omega (arith, some, e))) in
    rw present at h

no_sector : (lba at many : ℕ) (section : Section) → (0 < section.length → share at many (lba + section.offset) section.length ≡ false) → has_sector_of lba at many section ≡ false
no_sector lba at many section apart = ⊎_elim' (cases_lt 0 section.length)
  where
    ⊎_elim' : (0 < section.length) ⊎ (section.length ≤ 0) → has_sector_of lba at many section ≡ false
    ⊎_elim' (inl some) = rw (apart some) (and-false (not (is_absent section)))
    ⊎_elim' (inr none) = let zero_is : section.length ≡ 0 = omega (arith, none) in rw (eq-eqb section.length 0 zero_is) refl

module _ (last own other : ℕ) (sections : List Section) (h : room_fault last own other sections ≡ None) where
  headers_apart : (share own 1 other 1 ≡ false) × (list_any (has_sector_of other own 1) sections ≡ false)
  headers_apart = or_parts (share own 1 other 1) (list_any (has_sector_of other own 1) sections) (headers_in_room last own other sections h).is_apart

  section_apart : (index : ℕ) (section : Section) → slice_get sections index ≡ Some section → 0 < section.length
      → (share (own + section.offset) section.length other 1 ≡ false) × (list_any (has_sector_of other (own + section.offset) section.length) sections ≡ false)
  section_apart index section at some =
      or_parts (share (own + section.offset) section.length other 1) (list_any (has_sector_of other (own + section.offset) section.length) sections) (section_in_room last own other sections h index section at some).is_apart

  header_turn : meets_copy own sections other 1 ≡ false
  header_turn =
      let first = share_turn other 1 own 1 ∙ headers_apart.0 in
      let others = none_any (has_sector_of own other 1) sections (λ index section at. no_sector own other 1 section
      (λ some. share_turn other 1 (own + section.offset) section.length ∙ (section_apart index section at some).0)) in
      rw (first, others) refl

  section_turn : (index : ℕ) (section : Section) → slice_get sections index ≡ Some section → 0 < section.length → meets_copy own sections (other + section.offset) section.length ≡ false
  section_turn index section at some =
      let first = share_turn (other + section.offset) section.length own 1
      ∙ present_share other own 1 section (any_none (has_sector_of other own 1) sections headers_apart.1 index section at) some in
      let others = none_any (has_sector_of own (other + section.offset) section.length) sections (λ i t here. no_sector own (other + section.offset) section.length t
      (λ also. share_turn (other + section.offset) section.length (own + t.offset) t.length
      ∙ present_share other (own + t.offset) t.length section (any_none (has_sector_of other (own + t.offset) t.length) sections (section_apart i t here also).1 index section at) some)) in
      rw (first, others) refl

  in_room_turn : AllAt (is_out_of_room last other own sections) sections
  unfolding is_out_of_room
  in_room_turn index section at = by_length (cases_lt 0 section.length)
    where
      by_length : (0 < section.length) ⊎ (section.length ≤ 0) → is_out_of_room last other own sections section ≡ false
      by_length (inl some) =
          let part = section_in_room last own other sections h index section at some in
          let one = le-ltb last (other + section.offset + section.length) part.other_ends in
          let two = le-ltb last (own + section.offset + section.length) part.ends in
          rw (one, two, section_turn index section at some) (and-false (not (is_absent section)))
      by_length (inr none) = let zero_is : section.length ≡ 0 = omega (arith, none) in rw (eq-eqb section.length 0 zero_is) refl

  pub room_turn : room_fault last other own sections ≡ None
  unfolding room_fault has_no_room
  room_turn =
      let headers = headers_in_room last own other sections h in
      let one = lt-leb last other headers.other_below in
      let two = lt-leb last own headers.own_below in
      let none : position (is_out_of_room last other own sections) sections ≡ None =
      position_from-zero (is_out_of_room last other own sections) sections ∙ none_at (is_out_of_room last other own sections) 0 sections in_room_turn in
      rw (one, two, header_turn, none) refl

-- ---- the bytes that are shared

same_is : (byte : Option ℕ) → is_same_byte byte byte ≡ true
same_is (Some byte) = eq-eqb byte byte refl
same_is None = refl

none_differ : (shared same : Bool) → (shared ≡ true → same ≡ true) → (shared && not same) ≡ false
none_differ true same h = rw (h refl) refl
none_differ false same h = refl

none_in : (p : ℕ → Bool) (n from count : ℕ) → ((i : ℕ) → i < from + count → p i ≡ false) → position_from p n (range_with_len from count) ≡ None
none_in p n from zero fails = refl
none_in p n from (suc count) fails = rw (fails from (omega arith)) (none_in p (n + 1) (from + 1) count (λ i below. fails i (omega (arith, below))))

no_difference : (one other : List ℕ) → ((at : ℕ) → at < 512 → is_shared at ≡ true → slice_get one at ≡ slice_get other at) → first_difference one other ≡ None
unfolding first_difference
no_difference one other same =
    position_from-zero (differ_at one other) (range_with_len 0 512)
    ∙ none_in (differ_at one other) 0 0 512
    (λ at below. none_differ (is_shared at) (is_same_byte (slice_get one at) (slice_get other at))
    (λ shared. rw (same at (omega (arith, below)) shared) (same_is (slice_get other at))))

-- ---- both places

gate_none : (size : ℕ) (anchor : Header) (which : Which) (header : Header) (sector : List ℕ) → header.openness ≡ 0 → first_difference (header_bytes anchor) sector ≡ None
    → room_fault (size - 1) (place_of which anchor) (place_of (other_of which) anchor) header.geometry.sections ≡ None → gate_fault size anchor which header sector ≡ None
unfolding gate_fault
gate_none size anchor which header sector closed differ room = rw (eq-eqb header.openness 0 closed, differ, room) refl

room_for : (last : ℕ) (anchor : Header) (sections : List Section) (which also : Which) → room_fault last (place_of which anchor) (place_of (other_of which) anchor) sections ≡ None
    → room_fault last (place_of also anchor) (place_of (other_of also) anchor) sections ≡ None
room_for last anchor sections Primary Primary h = h
room_for last anchor sections Primary Secondary h = room_turn last anchor.primary_lba anchor.secondary_lba sections h
room_for last anchor sections Secondary Primary h = room_turn last anchor.secondary_lba anchor.primary_lba sections h
room_for last anchor sections Secondary Secondary h = h

pub under_again : (size : ℕ) (anchor : Header) (which : Which) (copy : DiskCopy) → CanBeCopy copy → ((also : Which) → place_of also copy.header ≡ place_of also anchor)
    → gate_fault size anchor which (closed_header copy which) (header_bytes (closed_header copy which)) ≡ None → IsUnder size anchor copy
under_again size anchor which copy is places gate =
    let long = is.header_can.rest_size in
    let found = gate_from size anchor which (closed_header copy which) (header_bytes (closed_header copy which)) gate in
    record {
      is_copy = is;
      in_place = places;
      has_gate = λ also. gate_none size anchor also (closed_header copy also) (header_bytes (closed_header copy also)) refl
          (no_difference (header_bytes anchor) (header_bytes (closed_header copy also)) (λ at below shared.
          same_at (header_bytes anchor) (header_bytes (closed_header copy which)) found.is_shared at below shared
          ∙ sym (same_at (header_bytes (anchor_header copy)) (header_bytes (closed_header copy which)) (anchor_shares copy which is long) at below shared)
          ∙ same_at (header_bytes (anchor_header copy)) (header_bytes (closed_header copy also)) (anchor_shares copy also is long) at below shared))
          (room_for (size - 1) anchor copy.header.geometry.sections which also found.has_room);
    }

-- ---- a copy that was read

number_same : (one other : List ℕ) → first_difference one other ≡ None → (at : ℕ) → PRIMARY_LBA_AT ≤ at → at + 8 ≤ KIND_AT → number_at w64 one at ≡ number_at w64 other at
number_same one other same at from fits =
    ap (from_be_bytes w64) (bytes_same one other at 8 (λ i low below. same_at one other same i (omega (arith, below, fits)) (shared_middle i (omega (arith, from, low)) (omega (arith, below, fits)))))

same_places : (kind : HeaderKind) (anchor header : Header) (one other : List ℕ) → IsHeaderOf Anchor anchor one → IsHeaderOf kind header other → first_difference one other ≡ None
    → (also : Which) → place_of also header ≡ place_of also anchor
same_places kind anchor header one other is here same Primary =
    sym here.is_record.fields_stand.1.1.1.1.1.0 ∙ sym (number_same one other same PRIMARY_LBA_AT (omega arith) (omega arith)) ∙ is.is_record.fields_stand.1.1.1.1.1.0
same_places kind anchor header one other is here same Secondary =
    sym here.is_record.fields_stand.1.1.1.1.1.1.0 ∙ sym (number_same one other same SECONDARY_LBA_AT (omega arith) (omega arith)) ∙ is.is_record.fields_stand.1.1.1.1.1.1.0

closed_is : (copy : DiskCopy) (which : Which) → copy.header.kind ≡ kind_of which → copy.header.openness ≡ 0 → closed_header copy which ≡ copy.header
closed_is copy which kind closed = rw (← kind, ← closed) refl

-- A copy that was read can be written again, in both places.
pub under_read : (size : ℕ) (anchor : Header) (which : Which) (copy : DiskCopy) → IsAnchor anchor → CanBeCopy copy → IsReadHeader size anchor which copy.header → IsUnder size anchor copy
under_read size anchor which copy anchored is read =
    let found = gate_from size anchor which copy.header (header_bytes copy.header) read.has_gate in
    let same = closed_is copy which read.is_header.is_header.of_kind found.is_closed in
    under_again size anchor which copy is
    (same_places (kind_of which) anchor copy.header (header_bytes anchor) (header_bytes copy.header) anchored read.is_header found.is_shared)
    (subst (λ (header : Header). gate_fault size anchor which header (header_bytes header) ≡ None) (sym same) read.has_gate)

-- a fault that is no failed call names no other slot
pub no_fault : (T : Type 0) (slot : ℕ) (fault : CopyFault) → copy_failed {T = T} (Err fault) ≡ false → IsCopyFaultOf slot fault
no_fault T slot (faults.Header fault) h = tt
no_fault T slot (faults.Opened sequence) h = tt
no_fault T slot (faults.Anchor offset) h = tt
no_fault T slot (faults.Room offset) h = tt
no_fault T slot (faults.Section name fault) h = tt
no_fault T slot (faults.Slot index fault) h = tt
no_fault T slot (faults.Disk named) h = absurd cc
no_fault T slot faults.Memory h = tt

-- ---- a copy that is rewritten

shares_anchor : (anchor : Header) (old new : DiskCopy) (which also : Which) → CanBeCopy old → CanBeCopy new → anchor_header new ≡ anchor_header old
    → first_difference (header_bytes anchor) (header_bytes (closed_header old which)) ≡ None → first_difference (header_bytes anchor) (header_bytes (closed_header new also)) ≡ None
shares_anchor anchor old new which also old_is new_is same shared =
    let new_shares = subst (λ (header : Header). first_difference (header_bytes header) (header_bytes (closed_header new also)) ≡ None) same (anchor_shares new also new_is new_is.header_can.rest_size) in
    no_difference (header_bytes anchor) (header_bytes (closed_header new also)) (λ at below here.
    same_at (header_bytes anchor) (header_bytes (closed_header old which)) shared at below here
    ∙ sym (same_at (header_bytes (anchor_header old)) (header_bytes (closed_header old which)) (anchor_shares old which old_is old_is.header_can.rest_size) at below here)
    ∙ same_at (header_bytes (anchor_header old)) (header_bytes (closed_header new also)) new_shares at below here)

room_of : (size : ℕ) (anchor : Header) (copy : DiskCopy) → IsUnder size anchor copy → (which : Which) → room_fault (size - 1) (place_of which anchor) (place_of (other_of which) anchor) copy.header.geometry.sections ≡ None
room_of size anchor copy under which = (gate_from size anchor which (closed_header copy which) (header_bytes (closed_header copy which)) (under.has_gate which)).has_room

same_place : (old new : DiskCopy) → anchor_header new ≡ anchor_header old → (which : Which) → place_of which new.header ≡ place_of which old.header
same_place old new same Primary = ap (λ (header : Header). header.primary_lba) same
same_place old new same Secondary = ap (λ (header : Header). header.secondary_lba) same

-- A copy whose header differs in its sequence, kind and flag alone can be written where the old one can.
pub under_changed : (size : ℕ) (anchor : Header) (old new : DiskCopy) → IsUnder size anchor old → CanBeCopy new → anchor_header new ≡ anchor_header old → IsUnder size anchor new
under_changed size anchor old new under is same =
    let geometry : new.header.geometry ≡ old.header.geometry = ap (λ (header : Header). header.geometry) same in
    record {
      is_copy = is;
      in_place = λ which. same_place old new same which ∙ under.in_place which;
      has_gate = λ which. gate_none size anchor which (closed_header new which) (header_bytes (closed_header new which)) refl
          (shares_anchor anchor old new which which under.is_copy is same
          (gate_from size anchor which (closed_header old which) (header_bytes (closed_header old which)) (under.has_gate which)).is_shared)
          (rw geometry (room_of size anchor old under which));
    }

same_lba : (anchor : Header) (old new : DiskCopy) (size : ℕ) → IsUnder size anchor old → new.header.primary_lba ≡ old.header.primary_lba → new.header.secondary_lba ≡ old.header.secondary_lba
    → (which : Which) → place_of which anchor ≡ place_of which (anchor_header new)
same_lba anchor old new size under primary secondary Primary = sym (primary ∙ under.in_place Primary)
same_lba anchor old new size under primary secondary Secondary = sym (secondary ∙ under.in_place Secondary)

-- A copy of another group, in the places and with the sections of the old one, can be written under its own anchor.
pub under_adopted : (size : ℕ) (anchor : Header) (old new : DiskCopy) → IsUnder size anchor old → CanBeCopy new → new.header.geometry ≡ old.header.geometry
    → new.header.primary_lba ≡ old.header.primary_lba → new.header.secondary_lba ≡ old.header.secondary_lba → IsUnder size (anchor_header new) new
under_adopted size anchor old new under is geometry primary secondary =
    let places = same_lba anchor old new size under primary secondary in
    record {
      is_copy = is;
      in_place = own;
      has_gate = λ which. gate_none size (anchor_header new) which (closed_header new which) (header_bytes (closed_header new which)) refl (anchor_shares new which is is.header_can.rest_size)
          (subst (λ (n : ℕ). room_fault (size - 1) n (place_of (other_of which) (anchor_header new)) new.header.geometry.sections ≡ None) (places which)
          (subst (λ (n : ℕ). room_fault (size - 1) (place_of which anchor) n new.header.geometry.sections ≡ None) (places (other_of which)) (rw geometry (room_of size anchor old under which))));
    }
  where
    own : (which : Which) → place_of which new.header ≡ place_of which (anchor_header new)
    own Primary = refl
    own Secondary = refl
