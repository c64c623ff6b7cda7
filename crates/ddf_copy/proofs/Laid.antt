-- The sections of a copy lie apart, before the last sector, and apart from the other copy.
use Rattle.std.proofs.Common.{◌≡◌, ◌⊎◌, ℕ, zero, suc, ◌+◌, ◌*◌, ◌/◌, ◌<◌, ◌≤◌, Bool, true, false, not, ◌&&◌, eqb, ltb, List, [], ◌∷◌, length, take, Option, Some, None, unwrap_or, refl, sym, ap, ◌∙◌, inl, inr, ⊎_elim, arith}
use Rattle.std.proofs.lemmas.Bool.{ltb-false, ne_eqb, or_parts}
use Rattle.std.proofs.lemmas.Option.{slice_get-get_or}
use Rattle.std.proofs.Math.Nat.{div-mul-le_self, le-div_iff_mul-le, mul-le-mul_right}
use Rattle.std.specs.Prelude.{slice_get}
use Rattle.std.specs.List.{list_any}
use Rattle.ddf_lemmas.proofs.Lists.{none_any}
use Rattle.ddf_header.specs.declared.geometry.Section.{Section}
use Rattle.ddf_header.specs.declared.geometry.Geometry.{Geometry}
use Rattle.ddf_header.specs.Geometry.{IsSound, least_bytes, meets, section_numbers, section_of}
use Rattle.ddf_header.proofs.Sound.{sound}
use Rattle.ddf_copy.specs.declared.copy.DiskCopy.{DiskCopy}
use Rattle.ddf_copy.specs.declared.raw.Raw.{Raw}
use Rattle.ddf_copy.specs.declared.run.Run.{Run}
use Rattle.ddf_copy.specs.Room.{has_sector_of, meets_copy, room_fault, share}
use Rattle.ddf_copy.specs.Written.{CanBeCopy}
use Rattle.ddf_copy.specs.Runs.{AreRunsOf, AreApart, AreOn, IsInCopy, IsInParts, RunsCover, log_run, parts_of, runs_at}
use Rattle.ddf_copy.specs.Sections.{HasSizes, whole_slots}
use Rattle.ddf_copy.proofs.Gates.{headers_in_room, section_in_room}

-- ---- runs within sections

-- A run has sectors, and lies within the section at a place.
pub record IsWithin (geometry : Geometry) (k : ℕ) (run : Run) : Type 0 where
  pub some : 0 < length run.sectors
  pub begins : run.offset ≡ (section_of geometry k).offset
  pub ends : length run.sectors ≤ (section_of geometry k).length
  pub is_section : k < 8

-- each within the section at its place, from a place on
abbrev pub AreWithin : Geometry → (k : ℕ) → List Run → Type 0
AreWithin geometry k [] = Unit {0}
AreWithin geometry k (run ∷ runs) = IsWithin geometry k run × AreWithin geometry (suc k) runs

-- A geometry without a fault, that has eight sections, and the runs of its sections.
pub record AreLaid (geometry : Geometry) (runs : List Run) : Type 0 where
  pub is_sound : IsSound geometry
  pub are_eight : length geometry.sections ≡ 8
  pub are_within : AreWithin geometry 0 runs

pub section_found : (geometry : Geometry) (k : ℕ) → length geometry.sections ≡ 8 → k < 8 → slice_get geometry.sections k ≡ Some (section_of geometry k)
section_found geometry k eight lt =
    let none : Section = record { offset = 0; length = 0 } in
    let is = slice_get-get_or geometry.sections k none (omega (arith, eight, lt)) in
    is ∙ ap Some (sym (ap (λ (o : Option Section). unwrap_or o none) is))

-- ---- apart from one another

pub get_take : (xs : List Section) (count i : ℕ) → i < count → slice_get (take count xs) i ≡ slice_get xs i
get_take xs zero i lt = absurd (omega (arith, lt))
get_take [] (suc count) i lt = refl
get_take (x ∷ xs) (suc count) zero lt = refl
get_take (x ∷ xs) (suc count) (suc i) lt = get_take xs count i (omega (arith, lt))

one_fails : (a b c d : Bool) → (not a && not b && c && d) ≡ false → a ≡ false → b ≡ false → (c ≡ false) ⊎ (d ≡ false)
one_fails true b c d h ha hb = absurd cc
one_fails false true c d h ha hb = absurd cc
one_fails false false true true h ha hb = absurd cc
one_fails false false true false h ha hb = inr refl
one_fails false false false d h ha hb = inl refl

meet : (one other : Section) → meets other one ≡ false → (l : ℕ) → one.offset ≤ l → l < one.offset + one.length → other.offset ≤ l → l < other.offset + other.length → ⊥
unfolding meets
meet one other apart l a b c d =
    let fails = one_fails (eqb other.length 0) (eqb one.length 0) (ltb other.offset (one.offset + one.length)) (ltb one.offset (other.offset + other.length)) apart
    (ne_eqb other.length 0 (λ (e : other.length ≡ 0). absurd (omega (arith, c, d, e)))) (ne_eqb one.length 0 (λ (e : one.length ≡ 0). absurd (omega (arith, a, b, e)))) in
    ⊎_elim (λ no. omega (arith, a, b, c, d, ltb-false other.offset (one.offset + one.length) no)) (λ no. omega (arith, a, b, c, d, ltb-false one.offset (other.offset + other.length) no)) fails

-- no sector lies in two sections
sections_apart : (geometry : Geometry) → IsSound geometry → length geometry.sections ≡ 8 → (i j l : ℕ) → i < j → j < 8
    → (section_of geometry i).offset ≤ l → l < (section_of geometry i).offset + (section_of geometry i).length
    → (section_of geometry j).offset ≤ l → l < (section_of geometry j).offset + (section_of geometry j).length → ⊥
sections_apart geometry sound eight i j l less below a b c d =
    let one = section_of geometry i in
    let other = section_of geometry j in
    let good = sound.sections_good j other (section_found geometry j eight below) in
    let found = get_take geometry.sections j i less ∙ section_found geometry i eight (omega (arith, less, below)) in
    let apart : meets other one ≡ false = none_any (meets other) (take j geometry.sections) i one (good.lies_apart (omega (arith, c, d))) found in
    meet one other apart l a b c d

-- a sector of a later run lies in no earlier section
later_apart : (geometry : Geometry) → IsSound geometry → length geometry.sections ≡ 8 → (i k l : ℕ) (runs : List Run) → i < k → AreWithin geometry k runs
    → (section_of geometry i).offset ≤ l → l < (section_of geometry i).offset + (section_of geometry i).length → RunsCover 0 runs l → ⊥
later_apart geometry sound eight i k l [] less within from below in_runs = in_runs
later_apart geometry sound eight i k l (run ∷ runs) less within from below in_runs = ⊎_elim
    (λ here.
    let begins = within.0.begins in
    let ends = within.0.ends in
    sections_apart geometry sound eight i k l less within.0.is_section from below (omega (arith, here.0, begins)) (omega (arith, here.1, begins, ends)))
    (λ later. later_apart geometry sound eight i (suc k) l runs (omega (arith, less)) within.1 from below later)
    in_runs

apart_from : (geometry : Geometry) → IsSound geometry → length geometry.sections ≡ 8 → (k : ℕ) (runs : List Run) → AreWithin geometry k runs → AreApart runs
apart_from geometry sound eight k [] within = tt
apart_from geometry sound eight k (run ∷ runs) within =
    let some = within.0.some in
    let begins = within.0.begins in
    let ends = within.0.ends in
    let section = section_of geometry k in
    let good = sound.sections_good k section (section_found geometry k eight within.0.is_section) in
    let behind : 0 < section.offset = good.behind_header (omega (arith, some, ends)) in (
      omega (arith, behind, begins),
      λ l from below in_runs. later_apart geometry sound eight k (suc k) l runs (omega arith) within.1 (omega (arith, from, begins)) (omega (arith, below, begins, ends)) in_runs,
      apart_from geometry sound eight (suc k) runs within.1,
    )

pub runs_apart : (geometry : Geometry) (runs : List Run) → AreLaid geometry runs → AreApart runs
runs_apart geometry runs laid = apart_from geometry laid.is_sound laid.are_eight 0 runs laid.are_within

-- ---- before the last sector

on_from : (last own other : ℕ) (geometry : Geometry) → length geometry.sections ≡ 8 → room_fault last own other geometry.sections ≡ None → (k : ℕ) (runs : List Run) → AreWithin geometry k runs
    → (i : ℕ) (run : Run) → slice_get runs i ≡ Some run → (0 < length run.sectors) × (own + run.offset + length run.sectors ≤ last)
on_from last own other geometry eight room k [] within i run at = absurd cc
on_from last own other geometry eight room k (first ∷ runs) within zero run at =
    let same : first ≡ run = cc in
    let some = within.0.some in
    let begins = within.0.begins in
    let ends = within.0.ends in
    let fits = section_in_room last own other geometry.sections room k (section_of geometry k) (section_found geometry k eight within.0.is_section) (omega (arith, some, ends)) in
    let here : (0 < length first.sectors) × (own + first.offset + length first.sectors ≤ last) = (some, omega (arith, begins, ends, fits.ends)) in
    rw same at here
on_from last own other geometry eight room k (first ∷ runs) within (suc i) run at = on_from last own other geometry eight room (suc k) runs within.1 i run at

pub runs_on : (last own other : ℕ) (geometry : Geometry) (runs : List Run) → AreLaid geometry runs → room_fault last own other geometry.sections ≡ None → AreOn last own runs
runs_on last own other geometry runs laid room = on_from last own other geometry laid.are_eight room 0 runs laid.are_within

in_runs_below : (last lba : ℕ) (runs : List Run) → AreOn last lba runs → (l : ℕ) → RunsCover lba runs l → l < last
in_runs_below last lba [] on l in_runs = absurd in_runs
in_runs_below last lba (run ∷ runs) on l in_runs = ⊎_elim (λ here. omega (arith, here.1, (on 0 run refl).1)) (λ later. in_runs_below last lba runs (λ k other at. on (suc k) other at) l later) in_runs

-- each sector of a copy lies before the last one
pub copy_below : (last own other : ℕ) (geometry : Geometry) (runs : List Run) → AreLaid geometry runs → room_fault last own other geometry.sections ≡ None → (l : ℕ) → IsInCopy own runs l → l < last
copy_below last own other geometry runs laid room l in_copy = ⊎_elim
    (λ (here : l ≡ own). let below = (headers_in_room last own other geometry.sections room).own_below in omega (arith, here, below))
    (λ in_runs. in_runs_below last own runs (runs_on last own other geometry runs laid room) l in_runs)
    in_copy

-- ---- apart from the other copy

pub unshared : (one many other more l : ℕ) → share one many other more ≡ false → one ≤ l → l < one + many → other ≤ l → l < other + more → ⊥
unshared one many other more l none a b c d = ⊎_elim
    (λ no. omega (arith, b, c, a, d, ltb-false one (other + more) no))
    (λ no. omega (arith, a, b, c, d, ltb-false other (one + many) no))
    (either (ltb one (other + more)) (ltb other (one + many)) none)
  where
    either : (a b : Bool) → (a && b) ≡ false → (a ≡ false) ⊎ (b ≡ false)
    either true true h = absurd cc
    either true false h = inr refl
    either false b h = inl refl

pub unmet_run : (geometry : Geometry) → length geometry.sections ≡ 8 → (lba at many l k : ℕ) (runs : List Run) → AreWithin geometry k runs → list_any (has_sector_of lba at many) geometry.sections ≡ false
    → at ≤ l → l < at + many → RunsCover lba runs l → ⊥
unmet_run geometry eight lba at many l k [] within none from below in_runs = in_runs
unmet_run geometry eight lba at many l k (run ∷ runs) within none from below in_runs = ⊎_elim
    (λ here.
    let begins = within.0.begins in
    let ends = within.0.ends in
    let section = section_of geometry k in
    let fails : has_sector_of lba at many section ≡ false = none_any (has_sector_of lba at many) geometry.sections k section none (section_found geometry k eight within.0.is_section) in
    let apart = present_share (eqb section.length 0) (share at many (lba + section.offset) section.length) fails (ne_eqb section.length 0 (λ (e : section.length ≡ 0). absurd (omega (arith, e, ends, here.0, here.1)))) in
    unshared at many (lba + section.offset) section.length l apart from below (omega (arith, here.0, begins)) (omega (arith, here.1, begins, ends)))
    (λ later. unmet_run geometry eight lba at many l (suc k) runs within.1 none from below later)
    in_runs
  where
    present_share : (absent shared : Bool) → (not absent && shared) ≡ false → absent ≡ false → shared ≡ false
    present_share true shared h present = absurd cc
    present_share false shared h present = h

-- a run of sectors that meets no part of a copy has none of its sectors
unmet : (geometry : Geometry) (runs : List Run) → AreLaid geometry runs → (lba at many l : ℕ) → meets_copy lba geometry.sections at many ≡ false → at ≤ l → l < at + many → IsInCopy lba runs l → ⊥
unmet geometry runs laid lba at many l none from below in_copy =
    let parts = or_parts (share at many lba 1) (list_any (has_sector_of lba at many) geometry.sections) none in
    ⊎_elim
    (λ (here : l ≡ lba). unshared at many lba 1 l parts.0 from below (omega (arith, here)) (omega (arith, here)))
    (λ in_runs. unmet_run geometry laid.are_eight lba at many l 0 runs laid.are_within parts.1 from below in_runs)
    in_copy

run_apart : (last own other : ℕ) (geometry : Geometry) (all : List Run) → AreLaid geometry all → room_fault last own other geometry.sections ≡ None → (l k : ℕ) (runs : List Run) → AreWithin geometry k runs
    → RunsCover own runs l → IsInCopy other all l → ⊥
run_apart last own other geometry all laid room l k [] within in_runs in_other = in_runs
run_apart last own other geometry all laid room l k (run ∷ runs) within in_runs in_other = ⊎_elim
    (λ here.
    let begins = within.0.begins in
    let ends = within.0.ends in
    let section = section_of geometry k in
    let fits = section_in_room last own other geometry.sections room k section (section_found geometry k laid.are_eight within.0.is_section) (omega (arith, ends, here.0, here.1)) in
    unmet geometry all laid other (own + section.offset) section.length l fits.is_apart (omega (arith, here.0, begins)) (omega (arith, here.1, begins, ends)) in_other)
    (λ later. run_apart last own other geometry all laid room l (suc k) runs within.1 later in_other)
    in_runs

-- no sector lies in both copies
pub copies_apart : (last own other : ℕ) (geometry : Geometry) (runs : List Run) → AreLaid geometry runs → room_fault last own other geometry.sections ≡ None
    → (l : ℕ) → IsInCopy own runs l → IsInCopy other runs l → ⊥
copies_apart last own other geometry runs laid room l in_own in_other = ⊎_elim
    (λ (here : l ≡ own). unmet geometry runs laid other own 1 l (headers_in_room last own other geometry.sections room).is_apart (omega (arith, here)) (omega (arith, here)) in_other)
    (λ in_runs. run_apart last own other geometry runs laid room l 0 runs laid.are_within in_runs in_other)
    in_own

-- ---- the runs that a copy is written as

present : (geometry : Geometry) → IsSound geometry → length geometry.sections ≡ 8 → (k : ℕ) → k < 5 → 0 < (section_of geometry k).length
present geometry sound eight k lt = (sound.sections_good k (section_of geometry k) (section_found geometry k eight (omega (arith, lt)))).needed lt

whole_some : (geometry : Geometry) → IsSound geometry → length geometry.sections ≡ 8 → 0 < (whole_slots geometry).length
unfolding least_bytes
whole_some geometry sound eight =
    let records = (section_of geometry 3).length in
    let slot = geometry.record_length in
    let good = sound.sections_good 3 (section_of geometry 3) (section_found geometry 3 eight (omega arith)) in
    let long : 512 * slot ≤ 512 * records = good.long_enough (good.needed (omega arith)) in
    let some : 0 < slot = let fit = sound.records_fit in omega (arith, fit) in
    let one : 1 ≤ records / slot = (le-div_iff_mul-le some).1 (omega (arith, long)) in
    let product : 1 * slot ≤ (records / slot) * slot = mul-le-mul_right slot one in
    omega (arith, some, product)

pub are_laid : (geometry : Geometry) (raw : Raw) → IsSound geometry → length geometry.sections ≡ 8 → HasSizes geometry raw → AreLaid geometry (runs_at geometry raw)
are_laid geometry raw sound eight sizes = record {
  is_sound = sound;
  are_eight = eight;
  are_within = (
    record { some = omega arith; begins = refl; ends = omega (arith, present geometry sound eight 0 (omega arith)); is_section = omega arith },
    (
      record { some = omega (arith, sizes.disks_size, present geometry sound eight 1 (omega arith)); begins = refl; ends = omega (arith, sizes.disks_size); is_section = omega arith },
      (
        record { some = omega (arith, sizes.arrays_size, present geometry sound eight 2 (omega arith)); begins = refl; ends = omega (arith, sizes.arrays_size); is_section = omega arith },
        (
          record {
            some = omega (arith, sizes.records_size, whole_some geometry sound eight);
            begins = refl;
            ends = let part = div-mul-le_self (section_of geometry 3).length geometry.record_length in omega (arith, sizes.records_size, part);
            is_section = omega arith;
          },
          (
            record { some = omega arith; begins = refl; ends = omega (arith, present geometry sound eight 4 (omega arith)); is_section = omega arith },
            log_within raw.bad_blocks sizes.bad_blocks_size,
          ),
        ),
      ),
    ),
  );
}
  where
    log_within : (sectors : List (List ℕ)) → length sectors ≡ (section_of geometry 5).length → AreWithin geometry 5 (log_run (section_of geometry 5) sectors)
    log_within [] size = tt
    log_within (sector ∷ sectors) size = (record { some = omega arith; begins = refl; ends = omega (arith, size); is_section = omega arith }, tt)

-- ---- where they are read

-- the runs lie in the parts that are read, and have all their sectors
pub part_in_runs : (geometry : Geometry) (raw : Raw) → HasSizes geometry raw → (lba l : ℕ) → IsInParts lba (parts_of geometry) l → RunsCover lba (runs_at geometry raw) l
part_in_runs geometry raw sizes lba l in_parts = ⊎_elim
    (λ here. inl (here.0, omega (arith, here.1)))
    (λ behind. ⊎_elim
    (λ here. inr (inl (here.0, omega (arith, here.1, sizes.disks_size))))
    (λ behind. ⊎_elim
    (λ here. inr (inr (inl (here.0, omega (arith, here.1, sizes.arrays_size)))))
    (λ behind. ⊎_elim
    (λ here. inr (inr (inr (inl (here.0, omega (arith, here.1, sizes.records_size))))))
    (λ behind. ⊎_elim
    (λ here. inr (inr (inr (inr (inl (here.0, omega (arith, here.1)))))))
    (λ behind. inr (inr (inr (inr (inr (log_part raw.bad_blocks sizes.bad_blocks_size behind))))))
    behind)
    behind)
    behind)
    behind)
    in_parts
  where
    log_part : (sectors : List (List ℕ)) → length sectors ≡ (section_of geometry 5).length → IsInParts lba (section_of geometry 5 ∷ []) l → RunsCover lba (log_run (section_of geometry 5) sectors) l
    log_part [] size behind = ⊎_elim (λ here. absurd (omega (arith, size, here.0, here.1))) (λ none. absurd none) behind
    log_part (sector ∷ sectors) size behind = ⊎_elim (λ here. inl (here.0, omega (arith, size, here.1))) (λ none. absurd none) behind

-- ---- the sections of a header that can be written

length-numbers : (sections : List Section) → length (section_numbers sections) ≡ 2 * length sections
length-numbers [] = refl
length-numbers (section ∷ sections) = let rest = length-numbers sections in omega (arith, rest)

pub eight_sections : (copy : DiskCopy) → CanBeCopy copy → length copy.header.geometry.sections ≡ 8
eight_sections copy is =
    let fits = is.header_can.is_record.fields_fit in
    let numbers = fits.1.1.1.1.1.1.1.1.1.1.1.1.1.1.1.0 in
    let count : length (section_numbers copy.header.geometry.sections) ≡ 16 = numbers.0 in
    omega (arith, count, length-numbers copy.header.geometry.sections)

-- the runs that a copy is written as
pub runs_laid : (copy : DiskCopy) (runs : List Run) → CanBeCopy copy → AreRunsOf copy runs → AreLaid copy.header.geometry runs
runs_laid copy runs is are =
    rw are.are_runs (are_laid copy.header.geometry are.raw (sound copy.header.geometry is.header_can.is_header.has_geometry) (eight_sections copy is) are.has_sizes)
