-- The sections of a moved disk: they have no fault, and lie within the sectors of a copy.
use Rattle.std.proofs.Common.{◌≡◌, ◌⊎◌, ℕ, ◌+◌, ◌*◌, ◌/◌, ◌<◌, ◌≤◌, Bool, true, false, not, eqb, ltb, List, [], ◌∷◌, length, take, Option, Some, None, inl, inr, ⊎_elim, refl, sym, ap, ◌∙◌, arith}
use Rattle.std.specs.Prelude.{slice_get, option_map, unwrap_or}
use Rattle.std.specs.List.{AllByRecursion, enumerate_from, list_any, position_from}
use Rattle.std.proofs.Math.Nat.{div-mul-le_self}
use Rattle.std.proofs.lemmas.Bool.{cases_eq, cases_lt, eq-eqb, le-ltb, ne_eqb}
use Rattle.std.proofs.lemmas.Iterator.Adapters.{position_from-zero}
use Rattle.ddf_bytes.specs.Choices.{first_of, when}
use Rattle.ddf_header.specs.declared.geometry.Section.{Section}
use Rattle.ddf_header.specs.declared.geometry.Geometry.{Geometry}
use Rattle.ddf_header.specs.declared.layout.TheConstants.{MAX_ARRAYS_AT, MAX_DISKS_AT, MAX_MEMBERS_AT, RECORD_LENGTH_AT, SECTIONS_AT}
use Rattle.ddf_header.specs.Geometry.{IsGoodSection, IsSound, bad_section, geometry_fault, is_bad_section, is_maximum, is_member_maximum, is_short, least_bytes, meets, record_sectors, section_of}
use Rattle.ddf_copy.specs.Runs.{IsInParts, parts_of}
use Rattle.ddf_copy.proofs.Laid.{section_found}
use Rattle.ddf_update.specs.Update.{IsOfCopy}
use Rattle.ddf_update.proofs.NewRoom.{IsNear}
use Rattle.ddf_moving.specs.Places.{absent, copy_length, moved_geometry}
use Rattle.ddf_moving.proofs.Lengths.{section_ends, some_length}

-- ---- eight sections

abbrev nowhere : Section
nowhere = record { offset = 0; length = 0 }

abbrev at : List Section → ℕ → Section
at sections k = unwrap_or (slice_get sections k) nowhere

eight_are : (sections : List Section) → length sections ≡ 8
    → sections ≡ at sections 0 ∷ at sections 1 ∷ at sections 2 ∷ at sections 3 ∷ at sections 4 ∷ at sections 5 ∷ at sections 6 ∷ at sections 7 ∷ []
eight_are [] is = absurd (omega (arith, is))
eight_are (a ∷ []) is = absurd (omega (arith, is))
eight_are (a ∷ b ∷ []) is = absurd (omega (arith, is))
eight_are (a ∷ b ∷ c ∷ []) is = absurd (omega (arith, is))
eight_are (a ∷ b ∷ c ∷ d ∷ []) is = absurd (omega (arith, is))
eight_are (a ∷ b ∷ c ∷ d ∷ e ∷ []) is = absurd (omega (arith, is))
eight_are (a ∷ b ∷ c ∷ d ∷ e ∷ f ∷ []) is = absurd (omega (arith, is))
eight_are (a ∷ b ∷ c ∷ d ∷ e ∷ f ∷ g ∷ []) is = absurd (omega (arith, is))
eight_are (a ∷ b ∷ c ∷ d ∷ e ∷ f ∷ g ∷ h ∷ []) is = refl
eight_are (a ∷ b ∷ c ∷ d ∷ e ∷ f ∷ g ∷ h ∷ i ∷ rest) is = absurd (omega (arith, is))

-- ---- no fault

good_not_bad : (geometry : Geometry) (index : ℕ) (section : Section) → IsGoodSection geometry index section → is_bad_section geometry index section ≡ false
unfolding is_bad_section is_short
good_not_bad geometry index section good = elim (cases_eq section.length 0) [
  | inl none ↦
      let late : ltb index 5 ≡ false = le-ltb index 5 (⊎_elim (λ (lt : index < 5). absurd (omega (arith, none, good.needed lt))) (λ (le : 5 ≤ index). le) (cases_lt index 5)) in
      rw (eq-eqb section.length 0 none) late
  | inr present ↦
      let some : 0 < section.length = omega (arith, present) in
      let behind = ne_eqb section.offset 0 (λ (e : section.offset ≡ 0). absurd (omega (arith, e, good.behind_header some))) in
      let long = le-ltb (512 * section.length) (least_bytes geometry index) (good.long_enough some) in
      rw (ne_eqb section.length 0 present, behind, long, good.short_enough some, good.lies_apart some) refl
]

none_from : {X : Type 0} (p : X → Bool) (n : ℕ) (xs : List X) → AllByRecursion (λ x. p x ≡ false) xs → position_from p n xs ≡ None
none_from p n [] fails = refl
none_from p n (x ∷ xs) fails = rw fails.0 (none_from p (n + 1) xs fails.1)

no_faults : (a b c d : Bool) (o : Option ℕ) (w x y z : ℕ) (f : ℕ → ℕ) → a ≡ true → b ≡ true → c ≡ true → d ≡ true → o ≡ None
    → first_of (when (not a) w ∷ when (not b) x ∷ when (not c) y ∷ when (not d) z ∷ option_map f o ∷ []) ≡ None
no_faults a b c d o w x y z f first second third fourth none = rw (first, second, third, fourth, none) refl

module _ (old like : Geometry) (left : ℕ) (sound : IsSound like) (eight : length like.sections ≡ 8) where
  abbrev own : Geometry
  own = moved_geometry old like left

  abbrev copy : ℕ
  copy = copy_length like

  found : (k : ℕ) → k < 8 → slice_get like.sections k ≡ Some (section_of like k)
  found k lt = section_found like k eight lt

  pub was_good : (k : ℕ) → k < 8 → IsGoodSection like k (section_of like k)
  was_good k lt = sound.sections_good k (section_of like k) (found k lt)

  good : (k : ℕ) → k < 6 → take k own.sections ≡ take k like.sections → IsGoodSection own k (section_of like k)
  unfolding least_bytes
  good k lt same =
      let is = was_good k (omega (arith, lt)) in
      record {
        needed = is.needed;
        behind_header = is.behind_header;
        long_enough = is.long_enough;
        short_enough = is.short_enough;
        lies_apart = λ some. ap (λ (earlier : List Section). list_any (meets (section_of like k)) earlier) same ∙ is.lies_apart some;
      }

  absent_good : (k : ℕ) → 5 ≤ k → IsGoodSection own k absent
  absent_good k le = record {
    needed = λ lt. absurd (omega (arith, lt, le));
    behind_header = λ some. absurd (omega (arith, some));
    long_enough = λ some. absurd (omega (arith, some));
    short_enough = λ some. absurd (omega (arith, some));
    lies_apart = λ some. absurd (omega (arith, some));
  }

  earlier : (k : ℕ) → take k (section_of like 0 ∷ section_of like 1 ∷ section_of like 2 ∷ section_of like 3 ∷ section_of like 4 ∷ section_of like 5 ∷ section_of like 6 ∷ section_of like 7 ∷ []) ≡ take k like.sections
  earlier k = ap (λ (sections : List Section). take k sections) (sym (eight_are like.sections eight))

  not_bad : (k : ℕ) → k < 6 → take k own.sections ≡ take k like.sections → is_bad_section own k (section_of like k) ≡ false
  not_bad k lt same = good_not_bad own k (section_of like k) (good k lt same)

  none_bad : AllByRecursion (λ (pair : ℕ × Section). is_bad_section own pair.0 pair.1 ≡ false) (enumerate_from 0 own.sections)
  none_bad = (
    not_bad 0 (omega arith) (earlier 0),
    (
      not_bad 1 (omega arith) (earlier 1),
      (
        not_bad 2 (omega arith) (earlier 2),
        (
          not_bad 3 (omega arith) (earlier 3),
          (
            not_bad 4 (omega arith) (earlier 4),
            (
              not_bad 5 (omega arith) (earlier 5),
              (good_not_bad own 6 absent (absent_good 6 (omega arith)), (good_not_bad own 7 absent (absent_good 7 (omega arith)), tt)),
            ),
          ),
        ),
      ),
    ),
  )

  no_bad : bad_section own ≡ None
  no_bad =
      position_from-zero (λ (pair : ℕ × Section). is_bad_section own pair.0 pair.1) (enumerate_from 0 own.sections)
      ∙ none_from (λ (pair : ℕ × Section). is_bad_section own pair.0 pair.1) 0 (enumerate_from 0 own.sections) none_bad

  pub no_fault : geometry_fault own ≡ None
  unfolding geometry_fault
  no_fault =
      no_faults (is_maximum like.max_disks) (is_maximum like.max_arrays) (eqb like.record_length (record_sectors like.max_members)) (is_member_maximum like.max_members) (bad_section own)
      MAX_DISKS_AT MAX_ARRAYS_AT RECORD_LENGTH_AT MAX_MEMBERS_AT (λ (index : ℕ). SECTIONS_AT + 8 * index)
      sound.disks_known sound.arrays_known (eq-eqb like.record_length (record_sectors like.max_members) sound.records_fit) sound.members_known no_bad

  -- ---- where they lie

  near : (k : ℕ) → k < 6 → IsNear copy (section_of like k)
  near k lt = elim (cases_eq (section_of like k).length 0) [
    | inl none ↦ inl none
    | inr present ↦
        let some : 0 < (section_of like k).length = omega (arith, present) in
        let behind = (was_good k (omega (arith, lt))).behind_header some in
        inr (omega (arith, behind), section_ends like k (section_of like k) lt (found k (omega (arith, lt))) some)
  ]

  pub sections_near : AllByRecursion (IsNear copy) own.sections
  sections_near = (
    near 0 (omega arith),
    (near 1 (omega arith), (near 2 (omega arith), (near 3 (omega arith), (near 4 (omega arith), (near 5 (omega arith), (inl refl, (inl refl, tt))))))),
  )

  -- a part is empty, or it ends within the sectors of a copy
  abbrev IsPart : Section → Type 0
  IsPart part = (part.length ≡ 0) ⊎ (part.offset + part.length ≤ copy)

  whole_part : (k : ℕ) → k < 6 → IsPart (section_of like k)
  whole_part k lt = elim (near k lt) [ inl none ↦ inl none | inr within ↦ inr within.1 ]

  first_part : (k : ℕ) → k < 5 → IsPart (record { offset = (section_of like k).offset; length = 1 })
  first_part k lt =
      let some = (was_good k (omega (arith, lt))).needed lt in
      let ends = section_ends like k (section_of like k) (omega (arith, lt)) (found k (omega (arith, lt))) some in
      inr (omega (arith, ends, some))

  slots_part : IsPart (record { offset = (section_of like 3).offset; length = (section_of like 3).length / like.record_length * like.record_length })
  slots_part =
      let some = (was_good 3 (omega arith)).needed (omega arith) in
      let ends = section_ends like 3 (section_of like 3) (omega arith) (found 3 (omega arith)) some in
      let less = div-mul-le_self (section_of like 3).length like.record_length in
      inr (omega (arith, ends, less))

  are_parts : AllByRecursion IsPart (parts_of own)
  are_parts = (
    first_part 0 (omega arith),
    (whole_part 1 (omega arith), (whole_part 2 (omega arith), (slots_part, (first_part 4 (omega arith), (whole_part 5 (omega arith), tt))))),
  )

  in_parts : (parts : List Section) → AllByRecursion IsPart parts → (lba l : ℕ) → IsInParts lba parts l → (lba ≤ l) × (l < lba + copy)
  in_parts [] are lba l none = absurd none
  in_parts (part ∷ parts) are lba l (inl here) = elim are.0 [
    | inl none ↦ absurd (omega (arith, none, here.0, here.1))
    | inr ends ↦ (omega (arith, here.0), omega (arith, here.1, ends))
  ]
  in_parts (part ∷ parts) are lba l (inr later) = in_parts parts are.1 lba l later

  pub copy_within : (lba l : ℕ) → IsOfCopy lba own l → (lba ≤ l) × (l < lba + copy)
  copy_within lba l (inl header) = let some = some_length like in (omega (arith, header), omega (arith, header, some))
  copy_within lba l (inr part) = in_parts (parts_of own) are_parts lba l part
