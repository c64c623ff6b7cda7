-- Blocks that have no copy.
use Rattle.std.proofs.Common.{◌≡◌, ◌≢◌, ◌∙◌, ℕ, ◌+◌, ◌<◌, List, [], ◌∷◌, ◌++◌, Bool, true, false, Some, None, inl, slice_get, get_or, map, refl, sym, ap, subst}
use Rattle.std.specs.Prelude.{if◌then◌else◌}
use Rattle.std.proofs.lemmas.Option.{get_or_from_slice_get}
use Rattle.ddf_bay.specs.Sectors.{Image}
use Rattle.ddf_array.specs.declared.part.Part.{Part}
use Rattle.ddf_array.specs.declared.site.Site.{Site}
use Rattle.ddf_array.specs.Sources.{Source, copy, row, copies, rows, first_copy, sources, trusts_parity}
use Rattle.ddf_array.specs.Values.{sum_at}
use Rattle.ddf_array.specs.Volume.{Volume}
use Rattle.ddf_read.specs.Along.{further, LieAlong}
use Rattle.ddf_read.specs.Reading.{IsGivenBy}
use Rattle.ddf_read.proofs.BlockSources.{sources_trusted}

-- an element by its number
pub same_part : (parts now : List Part) (element : ℕ) (one part : Part) → now ≡ parts → one ≡ get_or now element one → slice_get parts element ≡ Some part → one ≡ part
same_part parts now element one part are is there =
    is ∙ ap (λ l. get_or l element one) are ∙ get_or_from_slice_get parts element part one there

nothing : {X : Type 0} (xs : List X) → slice_get xs 0 ≡ None → xs ≡ []
nothing [] e = refl
nothing (x ∷ xs) e = absurd (cc)

something : {X : Type 0} (x : X) (xs : List X) → slice_get xs 0 ≡ Some x → (rest : List X) × (xs ≡ x ∷ rest)
something x [] e = absurd (cc)
something x (y ∷ ys) e = let same : y ≡ x = cc in (ys, ap (λ z. z ∷ ys) same)

by_trust : (trusts : Bool) (copied rowed : List Source) → copied ≡ [] → rowed ≡ [] → (if trusts then copied ++ rowed else copied) ≡ []
by_trust true copied rowed e f = ap (λ l. l ++ rowed) e ∙ f
by_trust false copied rowed e f = e

-- without a row it has no source
pub no_source : (v : Volume) (block : ℕ) → first_copy v block ≡ None → slice_get (rows v block) 0 ≡ None → sources v block ≡ []
no_source v block lacks no_row =
    by_trust (trusts_parity v) (map copy (copies v block)) (map row (rows v block)) (ap (map copy) (nothing (copies v block) lacks)) (ap (map row) (nothing (rows v block) no_row))

trusts_by : (trusts : Bool) (copied rowed : List Source) → copied ≡ [] → (if trusts then copied ++ rowed else copied) ≢ [] → trusts ≡ true
trusts_by true copied rowed e some = refl
trusts_by false copied rowed e some = absurd (some e)

module _ (v : Volume) (start count k : ℕ) (along : LieAlong v start count) (below : k < count) (lacks : first_copy v start ≡ None) (some : sources v start ≢ []) where
  no_copies : copies v (start + k) ≡ []
  no_copies = along.copies_are k below ∙ ap (map (further k)) (nothing (copies v start) lacks)

  trusted : trusts_parity v ≡ true
  trusted = trusts_by (trusts_parity v) (map copy (copies v start)) (map row (rows v start)) (ap (map copy) (nothing (copies v start) lacks)) some

  -- its first source is its first row, and so it is of the blocks beside it
  pub given_by_row : (sites : List Site) → slice_get (rows v start) 0 ≡ Some sites → (P : ℕ → Type 0) (image : Image) (bytes : List ℕ)
      → bytes ≡ sum_at image (map (further k) sites) → IsGivenBy P image (sources v (start + k)) bytes
  given_by_row sites first P image bytes e =
      let split = something sites (rows v start) first in
      let here : rows v (start + k) ≡ map (further k) sites ∷ map (map (further k)) split.0 = along.rows_are k below ∙ ap (map (map (further k))) split.1 in
      let all : sources v (start + k) ≡ row (map (further k) sites) ∷ map row (map (map (further k)) split.0) =
      sources_trusted v (start + k) trusted ∙ ap (λ l. map copy l ++ map row (rows v (start + k))) no_copies ∙ ap (map row) here in
      subst (λ (l : List Source). IsGivenBy P image l bytes) (sym all) (inl e)
