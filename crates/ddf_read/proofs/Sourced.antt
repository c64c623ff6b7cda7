-- Where a read isn't refused, each block of the range has a source.
use Rattle.std.proofs.Common.{◌≡◌, ◌∙◌, ℕ, ◌+◌, ◌<◌, ◌≤◌, List, [], ◌∷◌, Bool, true, false, None, refl, sym, ap, arith, map, length, slice_get}
use Rattle.std.specs.Prelude.{is_none, nat_lt, not, ◌&&◌, if◌then◌else◌}
use Rattle.std.specs.List.{range_with_len, list_any}
use Rattle.std.proofs.lemmas.Bool.{ltb-false, false_from_ne_true}
use Rattle.ddf_lemmas.proofs.Tests.{true_not_false}
use Rattle.ddf_array.specs.declared.site.Site.{Site}
use Rattle.ddf_array.specs.Volume.{Volume, IsVolume, capacity}
use Rattle.ddf_array.specs.Sources.{copy, copies, every_source}
use Rattle.ddf_array.specs.Within.{is_within}
use Rattle.ddf_array.proofs.Enough.{has_source}
use Rattle.ddf_read.specs.declared.fault.VolumeFault.TheVariants.{Range, Lost, Unsure}
use Rattle.ddf_read.specs.Given.{HaveSources}
use Rattle.ddf_read.specs.Refused.{lacks_copy, is_unsure, read_refusal}
use Rattle.ddf_read.proofs.Lacking.{any_hit}
use Rattle.ddf_read.proofs.Common.{none_by}

some_copy : (found : List Site) → is_none (slice_get found 0) ≡ false → 0 < length (map copy found)
some_copy [] e = absurd (cc)
some_copy (site ∷ sites) e = omega arith

module _ (v : Volume) (known : IsVolume v) (start count : ℕ) (none : read_refusal v start count ≡ None) where
  parts : (nat_lt (capacity v) (start + count) ≡ false) × (is_within v ≡ true) × (is_unsure v start count ≡ false)
  parts = none_by (nat_lt (capacity v) (start + count)) (is_within v) (is_unsure v start count) (Range (capacity v)) Lost Unsure none

  pub below_capacity : start + count ≤ capacity v
  below_capacity = ltb-false (capacity v) (start + count) parts.0

  sourced : (k : ℕ) → k < count → (b : Bool) → v.marked ≡ b → 0 < length (if not b then every_source v (start + k) else map copy (copies v (start + k)))
  sourced k below true is =
      let sure : list_any (lacks_copy v) (range_with_len start count) ≡ false = ap (λ b. b && list_any (lacks_copy v) (range_with_len start count)) (sym is) ∙ parts.2 in
      let there = false_from_ne_true (lacks_copy v (start + k)) (λ lacks. true_not_false (sym (any_hit (lacks_copy v) start count k below lacks) ∙ sure)) in
      some_copy (copies v (start + k)) there
  sourced k below false is = has_source v known (start + k) (omega (arith, below_capacity)) parts.1

  pub have_sources : HaveSources v start count
  have_sources k below e =
      let some = sourced k below v.marked refl in
      omega (arith, some, ap length e)
