-- A bay that was looked at, fenced, and exchanged.
use Rattle.std.proofs.Common.{◌≡◌, ◌∙◌, ℕ, ◌<◌, Bool, true, false, List, [], length, ap, subst, sym, arith}
use Rattle.std.specs.Prelude.{slice_index, slice_index_or}
use Rattle.ddf_bay.specs.State.{BayState}
use Rattle.ddf_bay.specs.ReadsOnly.{AreFailed, LookFailed, SlotSame}
use Rattle.ddf_fenced.specs.declared.fenced.Fenced.{Fenced}
use Rattle.ddf_fenced.specs.FencedBays as fences
use Rattle.ddf_badblocks.specs.declared.range.Range.{Range}
use Rattle.ddf_badblocks.specs.declared.remapped.Remapped.{Remapped}
use Rattle.ddf_badblocks.specs.declared.remapped.RemapFault.{RemapFault}
use Rattle.ddf_badblocks.specs.Bad.{FirstBad}
use Rattle.ddf_badblocks.specs.Ranges.{are_exchangeable}
use Rattle.ddf_badblocks.specs.RemappedBays as exchanges
use Rattle.ddf_logs.specs.Looks.{AreLooks, below, disks_of, exchange_or, is_fenced, ranges_of}
use Rattle.ddf_logs.proofs.Given.{never_bad}

-- no slot's ranges are refused
pub never_refused : {B : Type 0} (disks : B → BayState B) (inner looked : B) (shut : Fenced B) {tells : Type 0} (failed : List Bool) (ranges : List (List Range)) (fault : RemapFault)
    → fences.inner_of shut ≡ looked → (disks looked).sizes ≡ (disks inner).sizes → length failed ≡ length (disks inner).sizes → AreLooks tells (disks inner) failed ranges
    → FirstBad (fences.disks_of disks shut).sizes ranges fault → ⊥
never_refused {B = B} disks inner looked shut failed ranges fault under same many looks bad =
    never_bad (disks inner).sizes ranges fault (λ s lt. looks.can s (omega (arith, lt, many)))
    (subst (λ (sizes : List ℕ). FirstBad sizes ranges fault) (ap (λ (one : B). (disks one).sizes) under ∙ same) bad)

module _ {B : Type 0} (disks : B → BayState B) (inner looked : B) (shut : Fenced B) (bay : Remapped (Fenced B)) (failed : List Bool) (ranges : List (List Range))
    (over : exchanges.inner_of bay ≡ shut) (logs : exchanges.logs_of bay ≡ ranges) (under : fences.inner_of shut ≡ looked)
    (marked : (s : ℕ) → fences.is_fenced shut s ≡ slice_index_or failed s false) (many : length failed ≡ length (disks inner).sizes) where
  below_is : below bay ≡ looked
  below_is = ap fences.inner_of over ∙ under

  fenced_is : (s : ℕ) → is_fenced bay s ≡ slice_index_or failed s false
  fenced_is s = ap (λ (one : Fenced B). fences.is_fenced one s) over ∙ marked s

  ranges_are : (s : ℕ) → ranges_of bay s ≡ slice_index_or ranges s []
  ranges_are s = ap (λ (all : List (List Range)). slice_index_or all s []) logs

  -- what holds of the bay that was looked at
  pub holds_below : (P : B → Type 0) → P looked → P (below bay)
  holds_below P p = subst P (sym below_is) p

  pub failed_below : AreFailed (disks inner) (disks looked) failed → (s : ℕ) → s < length (disks inner).sizes → is_fenced bay s ≡ true → LookFailed (disks inner) (disks (below bay)) s
  failed_below are s lt is = holds_below (λ (one : B). LookFailed (disks inner) (disks one) s) (are.rose s (omega (arith, lt, many)) (sym (fenced_is s) ∙ is))

  pub read_below : AreFailed (disks inner) (disks looked) failed → (s : ℕ) → s < length (disks inner).sizes → is_fenced bay s ≡ false → SlotSame (disks inner) (disks (below bay)) s
  read_below are s lt is = holds_below (λ (one : B). SlotSame (disks inner) (disks one) s) (are.same s (omega (arith, lt, many)) (sym (fenced_is s) ∙ is))

  module _ {tells : Type 0} (looks : AreLooks tells (disks inner) failed ranges) where
    pub all_exchanged : tells → (s : ℕ) → s < length (disks inner).sizes → ranges_of bay s ≡ exchange_or (disks inner) s (is_fenced bay s)
    all_exchanged told s lt = ranges_are s ∙ looks.are told s (omega (arith, lt, many)) ∙ ap (exchange_or (disks inner) s) (sym (fenced_is s))

    pub all_can : (s : ℕ) → s < length (disks inner).sizes → are_exchangeable (slice_index (disks inner).sizes s) (ranges_of bay s) ≡ true
    all_can s lt = ap (are_exchangeable (slice_index (disks inner).sizes s)) (ranges_are s) ∙ looks.can s (omega (arith, lt, many))

  -- its own counts are those of the fences
  pub no_faults : ((s : ℕ) → fences.is_fenced shut s ≡ true → ((fences.disks_of disks shut).failed_reads s ≡ 0) × ((fences.disks_of disks shut).failed_writes s ≡ 0))
      → (s : ℕ) → is_fenced bay s ≡ true → ((disks_of disks bay).failed_reads s ≡ 0) × ((disks_of disks bay).failed_writes s ≡ 0)
  no_faults none s is =
      subst (λ (one : Fenced B). ((fences.disks_of disks one).failed_reads s ≡ 0) × ((fences.disks_of disks one).failed_writes s ≡ 0)) (sym over)
      (none s (sym (ap (λ (one : Fenced B). fences.is_fenced one s) over) ∙ is))
