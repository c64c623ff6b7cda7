-- Reads of cells without a block, one after another.
use Rattle.std.proofs.Common.{ℕ, ◌+◌, ◌<◌, Bool, List, [], ◌∷◌, length, Some, subst}
use Rattle.std.specs.Prelude.{slice_index_or, slice_set}
use Rattle.ddf_bay.specs.Sectors.{Image}
use Rattle.ddf_bay.specs.State.{BayState}
use Rattle.ddf_array.specs.declared.part.Part.{Part}
use Rattle.ddf_array.specs.Sources.{Source}
use Rattle.ddf_read.specs.Reading.{OnlyReads, Failed, NoneLeft}
use Rattle.ddf_read.proofs.OnlyReading.{failed_before, failed_behind}
use Rattle.ddf_read.proofs.Tries.{IsGivenBy-wider, NotRead-wider, Within}
use Rattle.ddf_cells.specs.Without.{own_sources, AreGivenWithout, IsGivenWithout, NoneLeftWithout}
use Rattle.ddf_cells.proofs.Piecewise.{one_more}

pub given_wider : {P Q : ℕ → Type 0} → Within P Q → (image : Image) (sources : List Source) (bytes : List ℕ) → IsGivenWithout P image sources bytes → IsGivenWithout Q image sources bytes
given_wider within image [] bytes is = is
given_wider within image (source ∷ sources) bytes is = IsGivenBy-wider within image (source ∷ sources) bytes is

module _ {D : Type 0} {a b c : BayState D} (so_far : OnlyReads a b) (next : OnlyReads b c) (marked : Bool) (part : Part) (position sector : ℕ) where
  given_later : (sources : List Source) (bytes : List ℕ) → IsGivenWithout (Failed b c) b.held sources bytes → IsGivenWithout (Failed a c) a.held sources bytes
  given_later sources bytes given =
      subst (λ (image : Image). IsGivenWithout (Failed a c) image sources bytes) so_far.reads.same_held
      (given_wider (failed_before so_far next) b.held sources bytes given)

  pub given_one_more : (at : ℕ) (out : List (List ℕ)) (bytes : List ℕ) → at < length out
      → AreGivenWithout (Failed a b) a.held marked part position sector out at → IsGivenWithout (Failed b c) b.held (own_sources marked part position (sector + at)) bytes
      → AreGivenWithout (Failed a c) a.held marked part position sector (slice_set out at bytes) (at + 1)
  given_one_more at out bytes inside given here =
      one_more (λ k x. IsGivenWithout (Failed a c) a.held (own_sources marked part position (sector + k)) x) out at bytes inside
      (λ k below. given_wider (failed_behind so_far next) a.held (own_sources marked part position (sector + k)) (slice_index_or out k []) (given k below))
      (given_later (own_sources marked part position (sector + at)) bytes here)

  pub left_one : (at total slot : ℕ) → at < total → NoneLeft (Failed b c) (own_sources marked part position (sector + at)) slot → NoneLeftWithout (Failed a c) marked part position sector total slot
  left_one at total slot inside left = record {
    cell = at;
    is_in = inside;
    none_left = NotRead-wider (failed_before so_far next) (own_sources marked part position (sector + at)) (Some slot) left;
  }
