-- What several crates above ask of the definitions of this one.
use Rattle.std.proofs.Common.{Bool, List, None, Some, [], ap, false, map, refl, slice_get, subst, true, ℕ, ⊎_elim, ◌∙◌, ◌∷◌, ◌≡◌}
use Rattle.std.specs.Prelude.{if◌then◌else◌, not}
use Rattle.ddf_bay.specs.Sectors.{Image}
use Rattle.ddf_array.specs.Sources.{copy}
use Rattle.ddf_array.specs.Values.{bytes_at}
use Rattle.ddf_array.specs.declared.site.Site.{Site}
use Rattle.ddf_read.specs.Reading.{IsGivenBy}
use Rattle.ddf_read.specs.declared.fault.VolumeFault.{VolumeFault}

pub none_by : (a b c : Bool) (x y z : VolumeFault) → (if a then Some x else (if not b then Some y else (if c then Some z else None))) ≡ None → (a ≡ false) × (b ≡ true) × (c ≡ false)
none_by true b c x y z e = absurd (cc)
none_by false false c x y z e = absurd (cc)
none_by false true true x y z e = absurd (cc)
none_by false true false x y z e = (refl, refl, refl)

pub first_taken_by : (failed : ℕ → Type 0) (image : Image) (cells : List Site) (one : Site) (bytes : List ℕ) → slice_get cells 0 ≡ Some one → (failed one.slot → ⊥) → IsGivenBy failed image (map copy cells) bytes
    → bytes ≡ bytes_at image one
first_taken_by failed image [] one bytes at good is = absurd is
first_taken_by failed image (cell ∷ cells) one bytes at good is =
    let same : cell ≡ one = cc in
    ⊎_elim (λ read. read ∙ ap (bytes_at image) same) (λ later. absurd (good (subst (λ (site : Site). failed site.slot) same later.0))) is
