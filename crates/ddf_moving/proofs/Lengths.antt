-- How long a copy is: each of its first six sections ends within it.
use Rattle.std.proofs.Common.{◌≡◌, ℕ, zero, suc, ◌+◌, ◌<◌, ◌≤◌, max, List, [], ◌∷◌, take, fold, Some, refl, ap, ◌∙◌, arith}
use Rattle.std.specs.Prelude.{slice_get}
use Rattle.std.proofs.Math.Nat.{le-max_left, le-max_right}
use Rattle.std.proofs.lemmas.Bool.{ne_eqb}
use Rattle.ddf_header.specs.declared.geometry.Section.{Section}
use Rattle.ddf_header.specs.declared.geometry.Geometry.{Geometry}
use Rattle.ddf_copy.proofs.Laid.{get_take}
use Rattle.ddf_moving.specs.Places.{copy_length, end_of}

-- the longer of a copy and of what ends with a section
abbrev longer : ℕ → Section → ℕ
longer most section = max most (end_of section)

fold_least : (start : ℕ) (sections : List Section) → start ≤ fold longer start sections
fold_least start [] = omega arith
fold_least start (section ∷ sections) =
    let first = le-max_left start (end_of section) in
    let rest = fold_least (max start (end_of section)) sections in
    omega (arith, first, rest)

fold_each : (start : ℕ) (sections : List Section) (k : ℕ) (section : Section) → slice_get sections k ≡ Some section → end_of section ≤ fold longer start sections
fold_each start [] k section at = absurd cc
fold_each start (first ∷ sections) zero section at =
    let same : first ≡ section = cc in
    let here = le-max_right start (end_of first) in
    let rest = fold_least (max start (end_of first)) sections in
    let ends : end_of first ≡ end_of section = ap (λ (one : Section). end_of one) same in
    omega (arith, here, rest, ends)
fold_each start (first ∷ sections) (suc k) section at = fold_each (max start (end_of first)) sections k section at

pub some_length : (geometry : Geometry) → 1 ≤ copy_length geometry
unfolding copy_length
some_length geometry = fold_least 1 (take 6 geometry.sections)

pub section_ends : (geometry : Geometry) (k : ℕ) (section : Section) → k < 6 → slice_get geometry.sections k ≡ Some section → 0 < section.length
    → section.offset + section.length ≤ copy_length geometry
unfolding copy_length
section_ends geometry k section lt found some =
    let ends = fold_each 1 (take 6 geometry.sections) k section (get_take geometry.sections 6 k lt ∙ found) in
    let is : end_of section ≡ section.offset + section.length = rw (ne_eqb section.length 0 (λ (e : section.length ≡ 0). absurd (omega (arith, e, some)))) refl in
    omega (arith, ends, is)
