-- An exchange that leaves what is kept for a disk's records leaves each sector of its two copies.
use Rattle.std.proofs.Common.{◌≡◌, ℕ, zero, suc, ◌+◌, ◌<◌, ◌≤◌, List, [], ◌∷◌, length, Some, ⊎_elim, arith}
use Rattle.std.proofs.Math.Nat.{div-mul-le_self}
use Rattle.std.proofs.lemmas.Bool.{ne_eqb}
use Rattle.std.specs.Prelude.{slice_get}
use Rattle.std.specs.List.{AllByRecursion, flat_map}
use Rattle.ddf_lemmas.proofs.Lists.{first_all, second_all}
use Rattle.ddf_header.specs.declared.geometry.Section.{Section}
use Rattle.ddf_header.specs.declared.geometry.Geometry.{Geometry}
use Rattle.ddf_header.specs.declared.reading.Header.{Header}
use Rattle.ddf_header.specs.Geometry.{IsSound, section_of}
use Rattle.ddf_copy.specs.declared.which.Which.{Which}
use Rattle.ddf_copy.specs.declared.which.Which.TheVariants.{Primary, Secondary}
use Rattle.ddf_copy.specs.Which.{place_of}
use Rattle.ddf_copy.proofs.Laid.{section_found}
use Rattle.ddf_update.specs.Update.{IsOfCopy}
use Rattle.ddf_badblocks.specs.declared.fitting.Stretch.{Stretch}
use Rattle.ddf_logs.specs.Kept.{copy_stretches, kept_under, stretch_of, stretches_of}

-- each sector of a stretch is where it is seen
abbrev pub Stays : (ℕ → ℕ) → Stretch → Type 0
Stays at stretch = (l : ℕ) → stretch.start ≤ l → l < stretch.start + stretch.length → at l ≡ l

-- a section that is there
one_stays : (at : ℕ → ℕ) (lba : ℕ) (section : Section) → 0 < section.length → AllByRecursion (Stays at) (stretches_of lba section) → Stays at (stretch_of lba section)
one_stays at lba section some all =
    let there = rw (ne_eqb section.length 0 (λ (none : section.length ≡ 0). absurd (omega (arith, some, none)))) at all in
    there.0

section_stays : (at : ℕ → ℕ) (lba : ℕ) (sections : List Section) → AllByRecursion (Stays at) (flat_map (stretches_of lba) sections)
    → (k : ℕ) (section : Section) → slice_get sections k ≡ Some section → 0 < section.length → Stays at (stretch_of lba section)
section_stays at lba [] all k section is some = absurd cc
section_stays at lba (one ∷ others) all zero section is some =
    let same : one ≡ section = cc in
    one_stays at lba section some (rw same at (first_all (Stays at) (stretches_of lba one) (flat_map (stretches_of lba) others) all))
section_stays at lba (one ∷ others) all (suc k) section is some =
    section_stays at lba others (second_all (Stays at) (stretches_of lba one) (flat_map (stretches_of lba) others) all) k section is some

module _ (at : ℕ → ℕ) (geometry : Geometry) (are_eight : length geometry.sections ≡ 8) (is_sound : IsSound geometry) where
  module _ (lba : ℕ) (all : AllByRecursion (Stays at) (copy_stretches lba geometry.sections)) where
    stays : (k : ℕ) → k < 8 → 0 < (section_of geometry k).length → Stays at (stretch_of lba (section_of geometry k))
    stays k below some = section_stays at lba geometry.sections all.1 k (section_of geometry k) (section_found geometry k are_eight below) some

    -- the first five sections are there
    there : (k : ℕ) → k < 5 → 0 < (section_of geometry k).length
    there k below = (is_sound.sections_good k (section_of geometry k) (section_found geometry k are_eight (omega (arith, below)))).needed below

    pub copy_stays : (l : ℕ) → IsOfCopy lba geometry l → at l ≡ l
    copy_stays l in_copy = ⊎_elim
        (λ here. all.0 l (omega (arith, here)) (omega (arith, here)))
        (λ in_parts. ⊎_elim
        (λ here. let some = there 0 (omega arith) in stays 0 (omega arith) some l here.0 (omega (arith, some, here.1)))
        (λ behind. ⊎_elim
        (λ here. stays 1 (omega arith) (there 1 (omega arith)) l here.0 here.1)
        (λ behind. ⊎_elim
        (λ here. stays 2 (omega arith) (there 2 (omega arith)) l here.0 here.1)
        (λ behind. ⊎_elim
        (λ here. stays 3 (omega arith) (there 3 (omega arith)) l here.0 (let part = div-mul-le_self (section_of geometry 3).length geometry.record_length in omega (arith, part, here.1)))
        (λ behind. ⊎_elim
        (λ here. let some = there 4 (omega arith) in stays 4 (omega arith) some l here.0 (omega (arith, some, here.1)))
        (λ behind. ⊎_elim
        (λ here. stays 5 (omega arith) (omega (arith, here.0, here.1)) l here.0 here.1)
        (λ none. absurd none)
        behind)
        behind)
        behind)
        behind)
        behind)
        in_parts)
        in_copy

  pub both_stay : (anchor : Header) → AllByRecursion (Stays at) (kept_under anchor geometry) → (which : Which) (l : ℕ) → IsOfCopy (place_of which anchor) geometry l → at l ≡ l
  both_stay anchor all Primary = copy_stays anchor.primary_lba (first_all (Stays at) (copy_stretches anchor.primary_lba geometry.sections) (copy_stretches anchor.secondary_lba geometry.sections) all.1)
  both_stay anchor all Secondary = copy_stays anchor.secondary_lba (second_all (Stays at) (copy_stretches anchor.primary_lba geometry.sections) (copy_stretches anchor.secondary_lba geometry.sections) all.1)
