-- The sources of a block of an array.
use Rattle.std.proofs.Common.{◌≡◌, ◌≢◌, ◌∙◌, ℕ, List, [], ◌∷◌, ◌++◌, Bool, true, false, Option, Some, None, inl, refl, sym, ap, subst, map, length, slice_get}
use Rattle.std.specs.Prelude.{if◌then◌else◌}
use Rattle.std.specs.List.{range_with_len, flat_map}
use Rattle.ddf_bay.specs.Sectors.{Image}
use Rattle.ddf_secondary.specs.declared.spot.Spot.{Spot}
use Rattle.ddf_secondary.specs.Spots.{spots}
use Rattle.ddf_array.specs.declared.part.Part.{Part}
use Rattle.ddf_array.specs.declared.site.Site.{Site}
use Rattle.ddf_array.specs.Cells.{is_in_every}
use Rattle.ddf_array.specs.Volume.{Volume}
use Rattle.ddf_array.specs.Sources.{Source, copy, row, copies, rows, sources, every_source, trusts_parity, first_copy, element_copies, element_rows, at_element}
use Rattle.ddf_array.proofs.Elements.{along_every, along_one}
use Rattle.ddf_read.specs.declared.kind.Kind.{Kind}
use Rattle.ddf_read.specs.declared.kind.Kind.TheVariants.{Copies, Rows}
use Rattle.ddf_read.specs.Kinds.{sources_in, sources_of}
use Rattle.ddf_read.specs.Reading.{IsGivenBy}
use Rattle.ddf_read.proofs.Tries.{given_before}

pub sources_untrusted : (v : Volume) (block : ℕ) → trusts_parity v ≡ false → sources v block ≡ map copy (copies v block)
sources_untrusted v block is = ap (λ b. if b then every_source v block else map copy (copies v block)) is

pub sources_trusted : (v : Volume) (block : ℕ) → trusts_parity v ≡ true → sources v block ≡ map copy (copies v block) ++ map row (rows v block)
sources_trusted v block is = ap (λ b. if b then every_source v block else map copy (copies v block)) is

first_by : (P : ℕ → Type 0) (image : Image) (trusts : Bool) (first second : List Source) (bytes : List ℕ) → IsGivenBy P image first bytes → IsGivenBy P image (if trusts then first ++ second else first) bytes
first_by P image false first second bytes given = given
first_by P image true first second bytes given = given_before P image first second bytes given

-- bytes given by a copy are given by the sources
pub given_first : (v : Volume) (block : ℕ) (P : ℕ → Type 0) (image : Image) (bytes : List ℕ) → IsGivenBy P image (map copy (copies v block)) bytes → IsGivenBy P image (sources v block) bytes
given_first v block P image bytes given = first_by P image (trusts_parity v) (map copy (copies v block)) (map row (rows v block)) bytes given

-- the first copy is the first source
front : (site : Site) (sites : List Site) → slice_get sites 0 ≡ Some site → (rest : List Site) × (sites ≡ site ∷ rest)
front site [] e = absurd (cc)
front site (one ∷ rest) e = let same : one ≡ site = cc in (rest, ap (λ s. s ∷ rest) same)

pub given_by_first : (v : Volume) (block : ℕ) (site : Site) (P : ℕ → Type 0) (image : Image) (bytes : List ℕ) → first_copy v block ≡ Some site
    → bytes ≡ image site.slot site.lba → IsGivenBy P image (sources v block) bytes
given_by_first v block site P image bytes first e =
    let split = front site (copies v block) first in
    given_first v block P image bytes
    (subst (λ (l : List Site). IsGivenBy P image (map copy l) bytes) (sym split.1) (inl e))

some_copies : (v : Volume) (block : ℕ) (trusts : Bool) (site : Site) → first_copy v block ≡ Some site → (if trusts then every_source v block else map copy (copies v block)) ≡ [] → ⊥
some_copies v block true site first e =
    let split = front site (copies v block) first in
    absurd (nothing (subst (λ (l : List Site). map copy l ++ map row (rows v block) ≡ []) split.1 e))
  where
    nothing : {x : Source} {xs : List Source} → x ∷ xs ≡ [] → ⊥
    nothing e = cc
some_copies v block false site first e =
    let split = front site (copies v block) first in
    absurd (nothing (subst (λ (l : List Site). map copy l ≡ []) split.1 e))
  where
    nothing : {x : Source} {xs : List Source} → x ∷ xs ≡ [] → ⊥
    nothing e = cc

-- a block with a copy has a source
pub has_first : (v : Volume) (block : ℕ) (site : Site) → first_copy v block ≡ Some site → sources v block ≢ []
has_first v block site first e = some_copies v block (trusts_parity v) site first e

-- ---- kind by kind

pub flat-same : {X : Type 0} (f g : ℕ → List X) → ((x : ℕ) → f x ≡ g x) → (xs : List ℕ) → flat_map f xs ≡ flat_map g xs
flat-same f g e [] = refl
flat-same f g e (x ∷ xs) = ap (λ l. l ++ flat_map f xs) (e x) ∙ ap (λ l. g x ++ l) (flat-same f g e xs)

module _ {A : Type 0} (wrap : A → Source) (of_element : Part → ℕ → List A) (block : ℕ) where
  wrapped : (found : Option Part) → map wrap (elim found [ None ↦ [] | Some part ↦ of_element part block ]) ≡ elim found [ None ↦ [] | Some part ↦ map wrap (of_element part block) ]
  wrapped None = refl
  wrapped (Some part) = refl

module _ (v : Volume) (block : ℕ) (spot : Spot) (at : slice_get (spots v.tiers) block ≡ Some spot) where
  pub kind_every : (kind : Kind) → is_in_every v.tiers.level ≡ true
      → sources_of kind v block ≡ flat_map (at_element v.parts (sources_in kind) spot.block) (range_with_len 0 (length v.parts))
  kind_every Copies is =
      along_every v copy element_copies block spot at is
      ∙ flat-same _ _ (λ element. wrapped copy element_copies spot.block (slice_get v.parts element)) (range_with_len 0 (length v.parts))
  kind_every Rows is =
      along_every v row element_rows block spot at is
      ∙ flat-same _ _ (λ element. wrapped row element_rows spot.block (slice_get v.parts element)) (range_with_len 0 (length v.parts))

  pub kind_one : (kind : Kind) → is_in_every v.tiers.level ≡ false → sources_of kind v block ≡ at_element v.parts (sources_in kind) spot.block spot.element
  kind_one Copies is = along_one v copy element_copies block spot at is ∙ wrapped copy element_copies spot.block (slice_get v.parts spot.element)
  kind_one Rows is = along_one v row element_rows block spot at is ∙ wrapped row element_rows spot.block (slice_get v.parts spot.element)
