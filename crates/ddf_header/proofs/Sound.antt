-- What a geometry without a fault has.
use Rattle.std.proofs.Common.{◌≡◌, ℕ, zero, suc, ◌+◌, ◌*◌, Bool, true, false, cond, eqb, ltb, ◌||◌, List, [], ◌∷◌, take, Option, Some, None, refl, sym, ◌∙◌, ap, zero-add, arith, inl, inr}
use Rattle.std.specs.Prelude.{slice_get}
use Rattle.std.specs.List.{list_any, enumerate_from, position_from}
use Rattle.std.proofs.lemmas.Bool.{cases_eq, eq-eqb, ne_eqb, ltb-false, eqb-true, eqb-false, or_parts}
use Rattle.std.proofs.lemmas.Iterator.Adapters.{position_from-zero}
use Rattle.ddf_lemmas.proofs.Options.{none_from_map}
use Rattle.ddf_bytes.proofs.Nones.{none_first, none_when_not}
use Rattle.ddf_header.specs.declared.geometry.Section.{Section}
use Rattle.ddf_header.specs.declared.geometry.Geometry.{Geometry}
use Rattle.ddf_header.specs.declared.layout.TheConstants.{MAX_DISKS_AT, MAX_ARRAYS_AT, RECORD_LENGTH_AT, MAX_MEMBERS_AT, SECTIONS_AT}
use Rattle.ddf_header.specs.Geometry.{is_maximum, is_member_maximum, record_sectors, least_bytes, is_short, is_long, meets, is_bad_section, bad_section, geometry_faults_of, geometry_fault, IsGoodSection, IsSound}

-- ---- no place passes

abbrev option_some : {X : Type 0} → X → Option X
option_some x = Some x

some_is : {X : Type 0} (x y : X) → option_some x ≡ option_some y → x ≡ y
some_is x y e = cc

first_fails : (b : Bool) (n : ℕ) (rest : Option ℕ) → cond b (Some n) rest ≡ None → b ≡ false
first_fails true n rest h = absurd cc
first_fails false n rest h = refl

rest_none : (b : Bool) (n : ℕ) (rest : Option ℕ) → cond b (Some n) rest ≡ None → rest ≡ None
rest_none true n rest h = absurd cc
rest_none false n rest h = h

pub none_passes : {X : Type 0} (p : X → Bool) (n : ℕ) (xs : List X) (i : ℕ) (x : X) → position_from p n xs ≡ None → slice_get xs i ≡ Some x → p x ≡ false
none_passes p n [] i x h at = absurd cc
none_passes p n (y ∷ ys) zero x h at = ap p (sym (some_is y x at)) ∙ first_fails (p y) n (position_from p (n + 1) ys) h
none_passes p n (y ∷ ys) (suc i) x h at = none_passes p (n + 1) ys i x (rest_none (p y) n (position_from p (n + 1) ys) h) at

numbered : (n : ℕ) (xs : List Section) (i : ℕ) (x : Section) → slice_get xs i ≡ Some x → slice_get (enumerate_from n xs) i ≡ Some (n + i, x)
numbered n [] i x at = absurd cc
numbered n (y ∷ ys) zero x at =
    let k : n ≡ n + 0 = omega arith in
    ap (λ (z : Section). Some (n, z)) (some_is y x at) ∙ ap (λ (m : ℕ). Some (m, x)) k
numbered n (y ∷ ys) (suc i) x at =
    let k : n + 1 + i ≡ n + suc i = omega arith in
    numbered (n + 1) ys i x at ∙ ap (λ (m : ℕ). Some (m, x)) k

-- ---- a section that is not bad

good_section : (geometry : Geometry) (index : ℕ) (section : Section) → is_bad_section geometry index section ≡ false → IsGoodSection geometry index section
unfolding is_bad_section is_short
good_section geometry index section h = elim (cases_eq section.length 0) [
  | inl absent ↦
      let late : ltb index 5 ≡ false = rw (eq-eqb section.length 0 absent) at h in
      record {
        needed = λ lt. absurd (omega (arith, ltb-false index 5 late));
        behind_header = λ present. absurd (omega arith);
        long_enough = λ present. absurd (omega arith);
        short_enough = λ present. absurd (omega arith);
        lies_apart = λ present. absurd (omega arith);
      }
  | inr present ↦
      let behind = eqb section.offset 0 in
      let short = is_short geometry index section in
      let long = is_long index section in
      let meeting = list_any (meets section) (take index geometry.sections) in
      let parts : (behind || short || long || meeting) ≡ false = rw (ne_eqb section.length 0 present) at h in
      let last = or_parts (behind || short || long) meeting parts in
      let third = or_parts (behind || short) long last.0 in
      let second = or_parts behind short third.0 in
      let apart_from_header = eqb-false section.offset 0 second.0 in
      record {
        needed = λ lt. omega arith;
        behind_header = λ _. omega arith;
        long_enough = λ _. ltb-false (512 * section.length) (least_bytes geometry index) second.1;
        short_enough = λ _. third.1;
        lies_apart = λ _. last.1;
      }
]

abbrev test : Geometry → ℕ × Section → Bool
test geometry pair = is_bad_section geometry pair.0 pair.1

pub sound : (geometry : Geometry) → geometry_fault geometry ≡ None → IsSound geometry
unfolding geometry_fault
sound geometry h =
    let none = none_first (geometry_faults_of geometry) h in
    let no_section : position_from (test geometry) 0 (enumerate_from 0 geometry.sections) ≡ None =
    sym (position_from-zero (test geometry) (enumerate_from 0 geometry.sections)) ∙ none_from_map (λ (index : ℕ). SECTIONS_AT + 8 * index) (bad_section geometry) none.1.1.1.1.0 in
    record {
      disks_known = none_when_not (is_maximum geometry.max_disks) MAX_DISKS_AT none.0;
      arrays_known = none_when_not (is_maximum geometry.max_arrays) MAX_ARRAYS_AT none.1.0;
      records_fit = eqb-true geometry.record_length (record_sectors geometry.max_members) (none_when_not (eqb geometry.record_length (record_sectors geometry.max_members)) RECORD_LENGTH_AT none.1.1.0);
      members_known = none_when_not (is_member_maximum geometry.max_members) MAX_MEMBERS_AT none.1.1.1.0;
      sections_good = λ index section at.
          good_section geometry index section (ap (λ (n : ℕ). is_bad_section geometry n section) (sym (zero-add index))
          ∙ none_passes (test geometry) 0 (enumerate_from 0 geometry.sections) index (0 + index, section) no_section (numbered 0 geometry.sections index section at));
    }
