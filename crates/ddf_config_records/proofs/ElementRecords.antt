-- The value of an element record: what is read from bytes is it, and it is the only one.
use Rattle.std.proofs.Common.{◌≡◌, ℕ, zero, suc, ◌+◌, ◌*◌, ◌<◌, ◌≤◌, ◌||◌, eqb, ltb, List, [], ◌∷◌, length, map, None, refl, sym, ◌∙◌, ap, arith}
use Rattle.std.specs.Prelude.{slice_index}
use Rattle.std.specs.List.{range_with_len}
use Rattle.std.specs.Int.{w16, w32, w64}
use Rattle.std.proofs.lemmas.Bool.{ltb-false, eqb-false, or_parts}
use Rattle.ddf_bytes.specs.Bytes.{number_at}
use Rattle.ddf_bytes.proofs.Nones.{none_first, none_when}
use Rattle.ddf_seal.specs.Seal.{IsSealed, seal_place}
use Rattle.ddf_seal.specs.Unread.{AreBytes, cleared, places, numbers32_at, numbers64_at}
use Rattle.ddf_seal.specs.Records.{record_bytes}
use Rattle.ddf_seal.proofs.Same.{cleared_outside}
use Rattle.ddf_seal.proofs.Records.{record_again, record_from_bytes, record_written, length-record_bytes}
use Rattle.ddf_header.specs.declared.geometry.Geometry.{Geometry}
use Rattle.ddf_config_records.specs.declared.place.Place.{Place}
use Rattle.ddf_config_records.specs.declared.fault.ElementFault.TheVariants as faults
use Rattle.ddf_config_records.specs.declared.layout.TheConstants.{MEMBERS_AT, STRIP_AT, LEVEL_AT, ELEMENTS_AT, INDEX_AT, BLOCK_SIZE_AT, REFERENCES_AT}
use Rattle.ddf_config_records.specs.ElementValue.{ElementValue}
use Rattle.ddf_config_records.specs.Elements.{record_size, HasRoom, element_fields, element_faults_of, fault_of, element_fault, element_fault_at, member_at, members_at, element_with, element_rest, element_at, CanBeElement, IsElementOf}
use Rattle.ddf_config_records.proofs.Elements.{same_place, length-members_at, element_within, element_apart}

-- ---- no fault

-- an element without a fault has members, as few as are allowed
pub record HasMembers (most members : ℕ) : Type 0 where
  pub present : 0 < members
  pub allowed : members ≤ most
  pub few : members ≤ 64

pub has_members : (most members strip level elements index block_size : ℕ) → fault_of most members strip level elements index block_size ≡ None → HasMembers most members
unfolding fault_of
has_members most members strip level elements index block_size h =
    let none = none_first (element_faults_of most members strip level elements index block_size) h in
    let all = none_when (eqb members 0 || ltb most members || ltb 64 members) (faults.Members members) none.0 in
    let last = or_parts (eqb members 0 || ltb most members) (ltb 64 members) all in
    let two = or_parts (eqb members 0) (ltb most members) last.0 in
    let some = eqb-false members 0 two.0 in
    record {
      present = omega arith;
      allowed = ltb-false most members two.1;
      few = ltb-false 64 members last.1;
    }

pub members_at_most : (most : ℕ) (bytes : List ℕ) → element_fault_at most bytes ≡ None → HasMembers most (number_at w16 bytes MEMBERS_AT)
members_at_most most bytes none = has_members most (number_at w16 bytes MEMBERS_AT) (slice_index bytes STRIP_AT) (slice_index bytes LEVEL_AT) (slice_index bytes ELEMENTS_AT) (slice_index bytes INDEX_AT) (number_at w16 bytes BLOCK_SIZE_AT) none

-- ---- members

numbers_of_references : (most : ℕ) (bytes : List ℕ) (k count : ℕ) → numbers32_at bytes (REFERENCES_AT + 4 * k) count ≡ map (λ (place : Place). place.reference) (map (member_at most bytes) (range_with_len k count))
unfolding numbers32_at
numbers_of_references most bytes k zero = refl
numbers_of_references most bytes k (suc count) =
    let next : REFERENCES_AT + 4 * k + 4 ≡ REFERENCES_AT + 4 * (k + 1) = omega arith in
    ap (λ (at : ℕ). number_at w32 bytes (REFERENCES_AT + 4 * k) ∷ numbers32_at bytes at count) next ∙ ap (λ (l : List ℕ). number_at w32 bytes (REFERENCES_AT + 4 * k) ∷ l) (numbers_of_references most bytes (k + 1) count)

numbers_of_starts : (most : ℕ) (bytes : List ℕ) (k count : ℕ) → numbers64_at bytes (REFERENCES_AT + 4 * most + 8 * k) count ≡ map (λ (place : Place). place.start) (map (member_at most bytes) (range_with_len k count))
unfolding numbers64_at
numbers_of_starts most bytes k zero = refl
numbers_of_starts most bytes k (suc count) =
    let next : REFERENCES_AT + 4 * most + 8 * k + 8 ≡ REFERENCES_AT + 4 * most + 8 * (k + 1) = omega arith in
    ap (λ (at : ℕ). number_at w64 bytes (REFERENCES_AT + 4 * most + 8 * k) ∷ numbers64_at bytes at count) next ∙ ap (λ (l : List ℕ). number_at w64 bytes (REFERENCES_AT + 4 * most + 8 * k) ∷ l) (numbers_of_starts most bytes (k + 1) count)

pub references_stand : (most : ℕ) (bytes : List ℕ) (count : ℕ) → numbers32_at bytes REFERENCES_AT count ≡ map (λ (place : Place). place.reference) (members_at most bytes count)
unfolding members_at
references_stand most bytes count = numbers_of_references most bytes 0 count

pub starts_stand : (most : ℕ) (bytes : List ℕ) (count : ℕ) → numbers64_at bytes (REFERENCES_AT + 4 * most) count ≡ map (λ (place : Place). place.start) (members_at most bytes count)
unfolding members_at
starts_stand most bytes count =
    let here : REFERENCES_AT + 4 * most ≡ REFERENCES_AT + 4 * most + 8 * 0 = omega arith in
    ap (λ (at : ℕ). numbers64_at bytes at count) here ∙ numbers_of_starts most bytes 0 count

cons_parts : (x y : ℕ) (xs ys : List ℕ) → x ∷ xs ≡ y ∷ ys → (x ≡ y) × (xs ≡ ys)
cons_parts x y xs ys e = (cc, cc)

-- places are what their numbers are
same_places : (a b : List Place) → map (λ (place : Place). place.reference) a ≡ map (λ (place : Place). place.reference) b → map (λ (place : Place). place.start) a ≡ map (λ (place : Place). place.start) b → a ≡ b
same_places [] [] h k = refl
same_places [] (y ∷ b) h k = absurd cc
same_places (x ∷ a) [] h k = absurd cc
same_places (x ∷ a) (y ∷ b) h k =
    let one = cons_parts x.reference y.reference (map (λ (place : Place). place.reference) a) (map (λ (place : Place). place.reference) b) h in
    let two = cons_parts x.start y.start (map (λ (place : Place). place.start) a) (map (λ (place : Place). place.start) b) k in
    let head : x ≡ y = same_place x.reference x.start y.reference y.start one.0 two.0 in
    ap (λ (place : Place). place ∷ a) head ∙ ap (λ (l : List Place). y ∷ l) (same_places a b one.1 two.1)

-- ---- both ways

abbrev element_of : (array : List ℕ) (timestamp sequence strip level qualifier elements index secondary blocks size block_size : ℕ) (spares : List ℕ) (members : List Place) (rest : List ℕ) → ElementValue
element_of array timestamp sequence strip level qualifier elements index secondary blocks size block_size spares members rest = record {
  array = array;
  timestamp = timestamp;
  sequence = sequence;
  strip = strip;
  level = level;
  qualifier = qualifier;
  elements = elements;
  index = index;
  secondary = secondary;
  blocks = blocks;
  size = size;
  block_size = block_size;
  spares = spares;
  members = members;
  rest = rest;
}

same_element : (a b : ElementValue) → a.array ≡ b.array → a.timestamp ≡ b.timestamp → a.sequence ≡ b.sequence → a.strip ≡ b.strip → a.level ≡ b.level → a.qualifier ≡ b.qualifier → a.elements ≡ b.elements
    → a.index ≡ b.index → a.secondary ≡ b.secondary → a.blocks ≡ b.blocks → a.size ≡ b.size → a.block_size ≡ b.block_size → a.spares ≡ b.spares → a.members ≡ b.members → a.rest ≡ b.rest → a ≡ b
same_element a b e1 e2 e3 e4 e5 e6 e7 e8 e9 e10 e11 e12 e13 e14 e15 =
    let all : element_of a.array a.timestamp a.sequence a.strip a.level a.qualifier a.elements a.index a.secondary a.blocks a.size a.block_size a.spares a.members a.rest
    ≡ element_of b.array b.timestamp b.sequence b.strip b.level b.qualifier b.elements b.index b.secondary b.blocks b.size b.block_size b.spares b.members b.rest = cc in
    all

-- the fault of what is read is that of the bytes
pub fault_at_is : (most : ℕ) (bytes : List ℕ) → element_fault most (element_at most bytes) ≡ element_fault_at most bytes
unfolding element_with
fault_at_is most bytes =
    ap (λ (n : ℕ). fault_of most n (slice_index bytes STRIP_AT) (slice_index bytes LEVEL_AT) (slice_index bytes ELEMENTS_AT) (slice_index bytes INDEX_AT) (number_at w16 bytes BLOCK_SIZE_AT)) (length-members_at most bytes (number_at w16 bytes MEMBERS_AT))

-- the element that is read from a sealed record without a fault is its value
pub element_at_is : (signature : ℕ) (geometry : Geometry) (bytes : List ℕ) → length bytes ≡ record_size geometry → AreBytes bytes → IsSealed signature bytes → element_fault_at geometry.max_members bytes ≡ None
    → IsElementOf signature geometry (element_at geometry.max_members bytes) bytes
unfolding element_with element_rest
element_at_is signature geometry bytes size are sealed none =
    let most = geometry.max_members in
    let count = number_at w16 bytes MEMBERS_AT in
    let same : count ≡ length (members_at most bytes count) = sym (length-members_at most bytes count) in
    let references : numbers32_at bytes REFERENCES_AT (length (members_at most bytes count)) ≡ map (λ (place : Place). place.reference) (members_at most bytes count) =
    ap (numbers32_at bytes REFERENCES_AT) (sym same) ∙ references_stand most bytes count in
    let starts : numbers64_at bytes (REFERENCES_AT + 4 * most) (length (members_at most bytes count)) ≡ map (λ (place : Place). place.start) (members_at most bytes count) =
    ap (numbers64_at bytes (REFERENCES_AT + 4 * most)) (sym same) ∙ starts_stand most bytes count in
    record {
      size = size;
      is_record = record {
        are_bytes = are;
        is_sealed = sealed;
        fields_stand = (refl, (refl, (refl, (same, (refl, (refl, (refl, (refl, (refl, (refl, (refl, (refl, (refl, (refl, (references, (starts, tt))))))))))))))));
        others_stay = refl;
      };
      is_element = fault_at_is most bytes ∙ none;
    }

-- the value of a record is what is read from it
pub element_is : (signature : ℕ) (geometry : Geometry) (element : ElementValue) (bytes : List ℕ) → IsElementOf signature geometry element bytes → element_at geometry.max_members bytes ≡ element
unfolding element_with element_rest
element_is signature geometry element bytes is =
    let most = geometry.max_members in
    let s1 = is.is_record.fields_stand in
    let s2 = s1.1 in
    let s3 = s2.1 in
    let s4 = s3.1 in
    let s5 = s4.1 in
    let s6 = s5.1 in
    let s7 = s6.1 in
    let s8 = s7.1 in
    let s9 = s8.1 in
    let s10 = s9.1 in
    let s11 = s10.1 in
    let s12 = s11.1 in
    let s13 = s12.1 in
    let s14 = s13.1 in
    let s15 = s14.1 in
    let s16 = s15.1 in
    let count = number_at w16 bytes MEMBERS_AT in
    let read = members_at most bytes count in
    let references : map (λ (place : Place). place.reference) read ≡ map (λ (place : Place). place.reference) element.members = sym (references_stand most bytes count) ∙ ap (numbers32_at bytes REFERENCES_AT) s4.0 ∙ s15.0 in
    let starts : map (λ (place : Place). place.start) read ≡ map (λ (place : Place). place.start) element.members = sym (starts_stand most bytes count) ∙ ap (numbers64_at bytes (REFERENCES_AT + 4 * most)) s4.0 ∙ s16.0 in
    let members : read ≡ element.members = same_places read element.members references starts in
    let rest : element_rest most bytes ≡ element.rest =
    ap (λ (places_of : List Place). cleared (seal_place ∷ places (element_fields most (record element { members = places_of }))) bytes) members ∙ sym is.is_record.others_stay in
    same_element (element_at most bytes) element s1.0 s2.0 s3.0 s5.0 s6.0 s7.0 s8.0 s9.0 s10.0 s11.0 s12.0 s13.0 s14.0 members rest

-- ---- writing

pub allowed : (geometry : Geometry) (element : ElementValue) → element_fault geometry.max_members element ≡ None → length element.members ≤ geometry.max_members
allowed geometry element none =
    (has_members geometry.max_members (length element.members) element.strip element.level element.elements element.index element.block_size none).allowed

pub element_again : (signature : ℕ) (geometry : Geometry) (element : ElementValue) (bytes : List ℕ) → HasRoom geometry → IsElementOf signature geometry element bytes
    → record_bytes signature (element_fields geometry.max_members element) element.rest ≡ bytes
element_again signature geometry element bytes room is =
    let within = element_within geometry.max_members element (length bytes) (allowed geometry element is.is_element) (omega (arith, room.whole, is.size)) in
    record_again signature (element_fields geometry.max_members element) element.rest bytes within is.is_record

pub can_be_element : (signature : ℕ) (geometry : Geometry) (element : ElementValue) (bytes : List ℕ) → HasRoom geometry → IsElementOf signature geometry element bytes → CanBeElement geometry element
can_be_element signature geometry element bytes room is =
    let within = element_within geometry.max_members element (length bytes) (allowed geometry element is.is_element) (omega (arith, room.whole, is.size)) in
    record {
      size = ap length is.is_record.others_stay ∙ (cleared_outside (seal_place ∷ places (element_fields geometry.max_members element)) bytes within).size ∙ is.size;
      is_element = is.is_element;
      is_record = record_from_bytes signature (element_fields geometry.max_members element) element.rest bytes within is.is_record;
    }

pub element_length : (signature : ℕ) (geometry : Geometry) (element : ElementValue) → HasRoom geometry → CanBeElement geometry element → length (record_bytes signature (element_fields geometry.max_members element) element.rest) ≡ record_size geometry
element_length signature geometry element room can =
    let within = element_within geometry.max_members element (length element.rest) (allowed geometry element can.is_element) (omega (arith, room.whole, can.size)) in
    length-record_bytes signature (element_fields geometry.max_members element) element.rest within can.is_record.fields_fit ∙ can.size

pub element_written : (signature : ℕ) (geometry : Geometry) (element : ElementValue) → HasRoom geometry → CanBeElement geometry element
    → AreBytes (record_bytes signature (element_fields geometry.max_members element) element.rest)
    → IsElementOf signature geometry element (record_bytes signature (element_fields geometry.max_members element) element.rest)
element_written signature geometry element room can are =
    let few = allowed geometry element can.is_element in
    let fields = element_fields geometry.max_members element in
    let within = element_within geometry.max_members element (length element.rest) few (omega (arith, room.whole, can.size)) in
    record {
      size = length-record_bytes signature fields element.rest within can.is_record.fields_fit ∙ can.size;
      is_record = record_written signature fields element.rest within (element_apart geometry.max_members element few) can.is_record are;
      is_element = can.is_element;
    }
