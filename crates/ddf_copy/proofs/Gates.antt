-- What a header without a fault has.
use Rattle.std.proofs.Common.{◌≡◌, ℕ, ◌+◌, ◌-◌, ◌*◌, ◌<◌, ◌≤◌, Bool, true, false, cond, not, ◌||◌, ◌&&◌, eqb, ltb, List, [], ◌∷◌, Option, Some, None, Result, Ok, Err, leb, refl, sym, ◌∙◌, ap, arith}
use Rattle.std.specs.Prelude.{slice_get, option_map}
use Rattle.std.specs.List.{position}
use Rattle.std.proofs.lemmas.Bool.{leb-false, ne_eqb, ltb-false, eqb-true}
use Rattle.std.proofs.lemmas.Iterator.Adapters.{position_from-zero}
use Rattle.ddf_header.specs.declared.geometry.Section.{Section}
use Rattle.ddf_header.specs.declared.reading.Header.{Header}
use Rattle.std.specs.Int.{w64}
use Rattle.ddf_lemmas.proofs.Tests.{all_false}
use Rattle.ddf_bytes.specs.Bytes.{bytes_at, number_at}
use Rattle.ddf_bytes.specs.Choices.{first_of, ok_unless, when}
use Rattle.ddf_header.specs.declared.fault.HeaderFault.{HeaderFault}
use Rattle.ddf_header.specs.declared.kind.HeaderKind.{HeaderKind}
use Rattle.ddf_header.specs.declared.layout.TheConstants.{GUID_AT, PRIMARY_LBA_AT, SECONDARY_LBA_AT, SECTIONS_AT}
use Rattle.ddf_header.proofs.Decoded.{decoded_is}
use Rattle.ddf_header.specs.Header.{IsHeaderOf, decoded, first_fault, header_at}
use Rattle.ddf_header.specs.Geometry.{geometry_at}
use Rattle.ddf_header.proofs.Sound.{none_passes}
use Rattle.ddf_copy.specs.declared.which.Which.{Which}
use Rattle.ddf_copy.specs.declared.fault.CopyFault.{CopyFault}
use Rattle.ddf_copy.specs.declared.fault.CopyFault.TheVariants as faults
use Rattle.ddf_copy.specs.Faults.{copy_failed}
use Rattle.ddf_copy.specs.Gate.{gated, header_in, header_of, first_difference, gate_fault, header_bytes}
use Rattle.ddf_copy.specs.Room.{DoFit, has_no_room, is_out_of_room, meets_copy, room_fault}
use Rattle.ddf_copy.specs.Which.{kind_of, other_of, place_of}

-- ---- the faults of a header, in order

closed_from : (closed : Bool) (sequence : ℕ) (differ room : Option ℕ)
    → first_of (when (not closed) (faults.Opened sequence) ∷ option_map faults.Anchor differ ∷ option_map faults.Room room ∷ []) ≡ None
    → (closed ≡ true) × (differ ≡ None) × (room ≡ None)
closed_from true sequence None None h = (refl, refl, refl)
closed_from true sequence None (Some r) h = absurd cc
closed_from true sequence (Some d) room h = absurd cc
closed_from false sequence differ room h = absurd cc

no_call : (closed : Bool) (sequence : ℕ) (differ room : Option ℕ) (fault : CopyFault)
    → first_of (when (not closed) (faults.Opened sequence) ∷ option_map faults.Anchor differ ∷ option_map faults.Room room ∷ []) ≡ Some fault
    → copy_failed {T = Header} (Err fault) ≡ false
no_call true sequence None None fault h = absurd cc
no_call true sequence None (Some r) fault h = let same : fault ≡ faults.Room r = cc in rw same refl
no_call true sequence (Some d) room fault h = let same : fault ≡ faults.Anchor d = cc in rw same refl
no_call false sequence differ room fault h = let same : fault ≡ faults.Opened sequence = cc in rw same refl

-- A header without a fault is closed, is the anchor's, and has room.
pub record IsGate (size : ℕ) (anchor : Header) (which : Which) (header : Header) (sector : List ℕ) : Type 0 where
  pub is_closed : header.openness ≡ 0
  pub is_shared : first_difference (header_bytes anchor) sector ≡ None
  pub has_room : room_fault (size - 1) (place_of which anchor) (place_of (other_of which) anchor) header.geometry.sections ≡ None

pub gate_from : (size : ℕ) (anchor : Header) (which : Which) (header : Header) (sector : List ℕ) → gate_fault size anchor which header sector ≡ None → IsGate size anchor which header sector
unfolding gate_fault
gate_from size anchor which header sector h =
    let parts = closed_from (eqb header.openness 0) header.sequence (first_difference (header_bytes anchor) sector)
    (room_fault (size - 1) (place_of which anchor) (place_of (other_of which) anchor) header.geometry.sections) h in
    record { is_closed = eqb-true header.openness 0 parts.0; is_shared = parts.1; has_room = parts.2 }

-- the fault of a header is no failed call
pub no_call_failed : (size : ℕ) (anchor : Header) (which : Which) (header : Header) (sector : List ℕ) (fault : CopyFault) → gate_fault size anchor which header sector ≡ Some fault
    → copy_failed {T = Header} (Err fault) ≡ false
unfolding gate_fault
no_call_failed size anchor which header sector fault h =
    no_call (eqb header.openness 0) header.sequence (first_difference (header_bytes anchor) sector)
    (room_fault (size - 1) (place_of which anchor) (place_of (other_of which) anchor) header.geometry.sections) fault h

-- ---- room

no_header : (bad : Bool) (rest : Option ℕ) → cond bad (Some 0) rest ≡ None → (bad ≡ false) × (rest ≡ None)
no_header true rest h = absurd cc
no_header false rest h = (refl, h)

none_map : (o : Option ℕ) → option_map (λ index. SECTIONS_AT + 8 * index) o ≡ None → o ≡ None
none_map None h = refl
none_map (Some n) h = absurd cc

none_of : (absent own other meeting : Bool) → (not absent && (own || other || meeting)) ≡ false → absent ≡ false → (own ≡ false) × (other ≡ false) × (meeting ≡ false)
none_of true own other meeting h present = absurd cc
none_of false true other meeting h present = absurd cc
none_of false false true meeting h present = absurd cc
none_of false false false meeting h present = (refl, refl, h)

-- a present section that has room
pub record IsInRoom (last own other : ℕ) (sections : List Section) (section : Section) : Type 0 where
  pub ends : own + section.offset + section.length ≤ last
  pub other_ends : other + section.offset + section.length ≤ last
  pub is_apart : meets_copy other sections (own + section.offset) section.length ≡ false

pub section_in_room : (last own other : ℕ) (sections : List Section) → room_fault last own other sections ≡ None
    → (index : ℕ) (section : Section) → slice_get sections index ≡ Some section → 0 < section.length → IsInRoom last own other sections section
unfolding room_fault is_out_of_room
section_in_room last own other sections h index section at some =
    let rest = no_header (has_no_room last own other sections) (option_map (λ index. SECTIONS_AT + 8 * index) (position (is_out_of_room last own other sections) sections)) h in
    let none = none_map (position (is_out_of_room last own other sections) sections) rest.1 in
    let out : is_out_of_room last own other sections section ≡ false = none_passes (is_out_of_room last own other sections) 0 sections index section (sym (position_from-zero (is_out_of_room last own other sections) sections) ∙ none) at in
    let parts = none_of (eqb section.length 0) (ltb last (own + section.offset + section.length)) (ltb last (other + section.offset + section.length))
    (meets_copy other sections (own + section.offset) section.length) out (ne_eqb section.length 0 (λ (e : section.length ≡ 0). absurd (omega (arith, some)))) in
    let one = ltb-false last (own + section.offset + section.length) parts.0 in
    let two = ltb-false last (other + section.offset + section.length) parts.1 in
    record { ends = omega (arith, one); other_ends = omega (arith, two); is_apart = parts.2 }

pub sections_fit : (last own other : ℕ) (sections : List Section) → room_fault last own other sections ≡ None → DoFit last own sections
sections_fit last own other sections h = λ index section at some. (section_in_room last own other sections h index section at some).ends

-- ---- a header that was read

pub ok_parts : {E : Type 0} (o : Option E) (value header : Header) → ok_unless o value ≡ Ok header → (o ≡ None) × (value ≡ header)
ok_parts None value header h = (refl, cc)
ok_parts (Some e) value header h = absurd cc

gated_parts : (size : ℕ) (anchor : Header) (which : Which) (sector : List ℕ) (read : Result Header HeaderFault) (header : Header) → gated size anchor which sector read ≡ Ok header
    → (read ≡ Ok header) × (gate_fault size anchor which header sector ≡ None)
gated_parts size anchor which sector (Ok value) header h =
    let parts = ok_parts (gate_fault size anchor which value sector) value header h in
    (ap Ok parts.1, rw parts.1 at parts.0)
gated_parts size anchor which sector (Err fault) header h = absurd cc

pub placed_parts : (within : Bool) (found : Result Header CopyFault) (header : Header) → cond within found (Err (faults.Room 0)) ≡ Ok header → found ≡ Ok header
placed_parts true found header h = h
placed_parts false found header h = absurd cc

-- A header that was found has what stands in its sector, and is the anchor's.
pub record IsFound (size : ℕ) (sector : ℕ → List ℕ) (anchor : Header) (which : Which) (header : Header) : Type 0 where
  pub geometry_is : header.geometry ≡ geometry_at (sector (place_of which anchor))
  pub guid_is : header.guid ≡ bytes_at (sector (place_of which anchor)) GUID_AT 24
  pub primary_is : header.primary_lba ≡ number_at w64 (sector (place_of which anchor)) PRIMARY_LBA_AT
  pub secondary_is : header.secondary_lba ≡ number_at w64 (sector (place_of which anchor)) SECONDARY_LBA_AT
  pub is_gate : IsGate size anchor which header (sector (place_of which anchor))

pub found_is : (size : ℕ) (sector : ℕ → List ℕ) (anchor : Header) (which : Which) (header : Header) → header_of size sector anchor which ≡ Ok header → IsFound size sector anchor which header
unfolding header_of header_in
found_is size sector anchor which header h =
    let bytes = sector (place_of which anchor) in
    let parts = gated_parts size anchor which bytes (decoded (kind_of which) bytes) header (placed_parts (ltb (place_of which anchor) size) (gated size anchor which bytes (decoded (kind_of which) bytes)) header h) in
    let value = (ok_parts (first_fault (kind_of which) bytes) (header_at (kind_of which) bytes) header parts.0).1 in
    record {
      geometry_is = ap (λ (found : Header). found.geometry) (sym value);
      guid_is = ap (λ (found : Header). found.guid) (sym value);
      primary_is = ap (λ (found : Header). found.primary_lba) (sym value);
      secondary_is = ap (λ (found : Header). found.secondary_lba) (sym value);
      is_gate = gate_from size anchor which header bytes parts.1;
    }

-- ---- the headers have room

pub record AreHeadersInRoom (last own other : ℕ) (sections : List Section) : Type 0 where
  pub own_below : own < last
  pub other_below : other < last
  pub is_apart : meets_copy other sections own 1 ≡ false

pub headers_in_room : (last own other : ℕ) (sections : List Section) → room_fault last own other sections ≡ None → AreHeadersInRoom last own other sections
unfolding room_fault has_no_room
headers_in_room last own other sections h =
    let none = no_header (has_no_room last own other sections) (option_map (λ index. SECTIONS_AT + 8 * index) (position (is_out_of_room last own other sections) sections)) h in
    let parts = all_false (leb last own) (leb last other) (meets_copy other sections own 1) none.0 in
    record { own_below = leb-false last own parts.0; other_below = leb-false last other parts.1; is_apart = parts.2 }

-- ---- a header that stands in its sector

pub geometry_read : (kind : HeaderKind) (sector : List ℕ) (header : Header) → IsHeaderOf kind header sector → geometry_at sector ≡ header.geometry
geometry_read kind sector header is = ap (λ (found : Header). found.geometry) (ok_parts (first_fault kind sector) (header_at kind sector) header (decoded_is kind sector header is)).1
