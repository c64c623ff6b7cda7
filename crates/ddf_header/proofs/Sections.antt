-- The sections of a geometry, and the numbers that they are written as.
use Rattle.std.proofs.Common.{◌≡◌, ℕ, ◌+◌, ◌*◌, ◌<◌, List, [], ◌∷◌, ◌++◌, length, take, get_or, refl, sym, ◌∙◌, ap, arith}
use Rattle.std.specs.List.{flat_map}
use Rattle.std.specs.Int.{w32, to_be_bytes}
use Rattle.std.proofs.lemmas.List.{take_more}
use Rattle.std.proofs.lemmas.List.Concat.{flat_map-append}
use Rattle.ddf_seal.specs.Unread.{numbers32_at}
use Rattle.ddf_header.specs.declared.geometry.Section.{Section}
use Rattle.ddf_header.specs.declared.layout.TheConstants.{SECTIONS_AT}
use Rattle.ddf_header.specs.Geometry.{sections_at, section_numbers}

paired : List ℕ → List Section
paired [] = []
paired (n ∷ []) = []
paired (n ∷ m ∷ ns) = record { offset = n; length = m } ∷ paired ns

paired-numbers : (sections : List Section) → paired (section_numbers sections) ≡ sections
unfolding paired
paired-numbers [] = refl
paired-numbers (section ∷ sections) = ap (λ rest. section ∷ rest) (paired-numbers sections)

pub numbers_of_sections : (sector : List ℕ) → numbers32_at sector SECTIONS_AT 16 ≡ section_numbers (sections_at sector)
unfolding numbers32_at
numbers_of_sections sector = refl

pub sections_from_numbers : (sector : List ℕ) (sections : List Section) → numbers32_at sector SECTIONS_AT 16 ≡ section_numbers sections → sections_at sector ≡ sections
sections_from_numbers sector sections h =
    sym (paired-numbers (sections_at sector)) ∙ ap paired (sym (numbers_of_sections sector) ∙ h) ∙ paired-numbers sections

-- the bytes of sections, one after another
abbrev pub section_bytes : List Section → List ℕ
section_bytes sections = flat_map (to_be_bytes w32) (section_numbers sections)

section_bytes-append : (a b : List Section) → section_bytes (a ++ b) ≡ section_bytes a ++ section_bytes b
section_bytes-append a b =
    ap (flat_map (to_be_bytes w32)) (flat_map-append (λ (section : Section). section.offset ∷ section.length ∷ []) a b) ∙ flat_map-append (to_be_bytes w32) (section_numbers a) (section_numbers b)

pub section_bytes_more : (sections : List Section) (i : ℕ) (section : Section) → i < length sections → section_bytes (take (i + 1) sections) ≡ section_bytes (take i sections) ++ section_bytes (get_or sections i section ∷ [])
section_bytes_more sections i section lt =
    ap section_bytes (take_more sections i section lt) ∙ section_bytes-append (take i sections) (get_or sections i section ∷ [])

pub length-section_bytes : (sections : List Section) → length (section_bytes sections) ≡ 8 * length sections
length-section_bytes [] = refl
length-section_bytes (section ∷ sections) =
    let rest = length-section_bytes sections in
    omega (arith, rest)
