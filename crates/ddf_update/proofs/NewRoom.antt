-- Two copies that lie apart, before the last sector, have room.
use Rattle.std.proofs.Common.{◌≡◌, ◌⊎◌, ℕ, ◌+◌, ◌≤◌, Bool, false, not, leb, ltb, List, [], ◌∷◌, None, refl, ◌∙◌, eq-eqb, inl, inr, arith}
use Rattle.std.proofs.lemmas.Bool.{le-ltb, lt-leb}
use Rattle.std.proofs.lemmas.Iterator.Adapters.{position_from-zero}
use Rattle.std.specs.List.{AllByRecursion, list_any, position, position_from}
use Rattle.std.proofs.Math.Bool.{and-false}
use Rattle.ddf_header.specs.declared.geometry.Section.{Section}
use Rattle.ddf_header.specs.Geometry.{is_absent}
use Rattle.ddf_copy.specs.Room.{has_no_room, has_sector_of, is_out_of_room, meets_copy, room_fault, share}

-- a section is absent, or lies behind its header and ends within the sectors of a copy
abbrev pub IsNear : (sectors : ℕ) → Section → Type 0
IsNear sectors section = (section.length ≡ 0) ⊎ ((1 ≤ section.offset) × (section.offset + section.length ≤ sectors))

-- the sectors of a copy lie before or behind others
abbrev AreApart : (sectors lba at many : ℕ) → Type 0
AreApart sectors lba at many = (lba + sectors ≤ at) ⊎ (at + many ≤ lba)

-- runs of sectors that lie apart share none
none_shared : (one many other more : ℕ) → (other + more ≤ one) ⊎ (one + many ≤ other) → share one many other more ≡ false
none_shared one many other more (inl before) = rw (le-ltb one (other + more) before) refl
none_shared one many other more (inr behind) = rw (le-ltb other (one + many) behind) (and-false (ltb one (other + more)))

-- two copies of so many sectors that lie apart, before the last sector
pub record AreCopiesApart (sectors last own other : ℕ) : Type 0 where
  pub own_ends : own + sectors ≤ last
  pub other_ends : other + sectors ≤ last
  pub are_apart : (other + sectors ≤ own) ⊎ (own + sectors ≤ other)

module _ (sectors : ℕ) (some : 1 ≤ sectors) where
  section_apart : (lba at many : ℕ) (section : Section) → IsNear sectors section → AreApart sectors lba at many → has_sector_of lba at many section ≡ false
  section_apart lba at many section (inl absent) apart = rw (eq-eqb section.length 0 absent) refl
  section_apart lba at many section (inr near) (inl before) =
      rw (none_shared at many (lba + section.offset) section.length (inl (omega (arith, near.1, before)))) (and-false (not (is_absent section)))
  section_apart lba at many section (inr near) (inr behind) =
      rw (none_shared at many (lba + section.offset) section.length (inr (omega (arith, near.0, behind)))) (and-false (not (is_absent section)))

  sections_apart : (lba at many : ℕ) (sections : List Section) → AllByRecursion (IsNear sectors) sections → AreApart sectors lba at many → list_any (has_sector_of lba at many) sections ≡ false
  sections_apart lba at many [] near apart = refl
  sections_apart lba at many (section ∷ sections) near apart = rw (section_apart lba at many section near.0 apart, sections_apart lba at many sections near.1 apart) refl

  copy_apart : (lba at many : ℕ) (sections : List Section) → AllByRecursion (IsNear sectors) sections → AreApart sectors lba at many → meets_copy lba sections at many ≡ false
  copy_apart lba at many sections near (inl before) = rw (none_shared at many lba 1 (inl (omega (arith, before))), sections_apart lba at many sections near (inl before)) refl
  copy_apart lba at many sections near (inr behind) = rw (none_shared at many lba 1 (inr behind), sections_apart lba at many sections near (inr behind)) refl

  in_room : (last own other : ℕ) (sections : List Section) (section : Section) → AreCopiesApart sectors last own other → AllByRecursion (IsNear sectors) sections → IsNear sectors section → is_out_of_room last own other sections section ≡ false
  unfolding is_out_of_room
  in_room last own other sections section are near (inl absent) = rw (eq-eqb section.length 0 absent) refl
  in_room last own other sections section are near (inr here) =
      let own_ends = le-ltb last (own + section.offset + section.length) (omega (arith, here.1, are.own_ends)) in
      let other_ends = le-ltb last (other + section.offset + section.length) (omega (arith, here.1, are.other_ends)) in
      let apart : AreApart sectors other (own + section.offset) section.length =
      elim are.are_apart [ inl before ↦ inl (omega (arith, before)) | inr behind ↦ inr (omega (arith, behind, here.1)) ] in
      rw (own_ends, other_ends, copy_apart other (own + section.offset) section.length sections near apart) (and-false (not (is_absent section)))

  none_out : (p : Section → Bool) (n : ℕ) (sections : List Section) → AllByRecursion (λ section. p section ≡ false) sections → position_from p n sections ≡ None
  none_out p n [] fails = refl
  none_out p n (section ∷ sections) fails = rw fails.0 (none_out p (n + 1) sections fails.1)

  all_in_room : (last own other : ℕ) (all sections : List Section) → AreCopiesApart sectors last own other → AllByRecursion (IsNear sectors) all → AllByRecursion (IsNear sectors) sections → AllByRecursion (λ section. is_out_of_room last own other all section ≡ false) sections
  all_in_room last own other all [] are near here = tt
  all_in_room last own other all (section ∷ sections) are near here = (in_room last own other all section are near here.0, all_in_room last own other all sections are near here.1)

  pub has_room : (last own other : ℕ) (sections : List Section) → AreCopiesApart sectors last own other → AllByRecursion (IsNear sectors) sections → room_fault last own other sections ≡ None
  unfolding room_fault has_no_room
  has_room last own other sections are near =
      let own_before : leb last own ≡ false = lt-leb last own (omega (arith, are.own_ends)) in
      let other_before : leb last other ≡ false = lt-leb last other (omega (arith, are.other_ends)) in
      let apart : AreApart sectors other own 1 = elim are.are_apart [ inl before ↦ inl before | inr behind ↦ inr (omega (arith, behind)) ] in
      let none : position (is_out_of_room last own other sections) sections ≡ None =
      position_from-zero (is_out_of_room last own other sections) sections ∙ none_out (is_out_of_room last own other sections) 0 sections (all_in_room last own other sections sections are near near) in
      rw (own_before, other_before, copy_apart other own 1 sections near apart, none) refl
