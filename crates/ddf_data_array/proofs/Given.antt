-- What a read gives, and where blocks can be read.
use Rattle.std.proofs.Common.{◌≡◌, ⊎_elim, ℕ, suc, Bool, false, true, List, [], ◌∷◌, Option, Some, refl, sym, subst, slice_get}
use Rattle.std.specs.Prelude.{is_some}
use Rattle.ddf_bytes.specs.Counts.{Rose}
use Rattle.ddf_bay.specs.Sectors.{Image}
use Rattle.ddf_array.specs.Volume.{Volume, IsVolume}
use Rattle.ddf_array.specs.Within.{is_within}
use Rattle.ddf_array.specs.Sources.{Source, copies, sources}
use Rattle.ddf_array.specs.Values.{given}
use Rattle.ddf_read.specs.Reading.{IsGivenBy}
use Rattle.ddf_cells.specs.Degraded.{is_degraded}
use Rattle.ddf_cells.proofs.Whole.{has_copy}
use Rattle.ddf_data_array.specs.Allowed.{Allowed, May}
use Rattle.ddf_data_array.specs.Changing.{HaveCells}
use Rattle.ddf_data_array.specs.Kept.{IsKeptData}

given_may : (failed : ℕ → Type 0) (image : Image) (o : Option (List (List ℕ))) (bytes : List ℕ) (all : List Source)
    → ((k : ℕ) (source : Source) → slice_get all k ≡ Some source → May o (given image source)) → IsGivenBy failed image all bytes → May o bytes
given_may failed image o bytes [] may is = absurd is
given_may failed image o bytes (source ∷ all) may is =
    ⊎_elim (λ same. subst (May o) (sym same) (may 0 source refl)) (λ later. given_may failed image o bytes all (λ k other at. may (suc k) other at) later.1) is

pub read_may : (old new : ℕ → ℕ) (is_absent : ℕ → ℕ → Bool) (v : Volume) (image : Image) (allowed : Allowed) (block : ℕ) (bytes : List ℕ) → IsKeptData is_absent v image allowed
    → IsGivenBy (λ slot. Rose (old slot) (new slot)) image (sources v block) bytes → May (allowed block) bytes
read_may old new is_absent v image allowed block bytes kept is = given_may (λ slot. Rose (old slot) (new slot)) image (allowed block) bytes (sources v block) (kept.reads block) is

first_there : {X : Type 0} (xs : List X) (k : ℕ) (x : X) → slice_get xs k ≡ Some x → is_some (slice_get xs 0) ≡ true
first_there [] k x e = absurd (cc)
first_there (y ∷ xs) k x e = refl

pub have_cells : (v : Volume) → IsVolume v → is_within v ≡ true → is_degraded v ≡ false → HaveCells v
have_cells v known within whole block below = let there = has_copy v known whole block within below in first_there (copies v block) there.0 there.1.0 there.1.1
