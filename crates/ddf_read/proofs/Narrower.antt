-- A part of a range that isn't refused isn't refused.
use Rattle.std.proofs.Common.{◌≡◌, ◌∙◌, ℕ, ◌+◌, ◌≤◌, Bool, true, false, Some, None, refl, sym, ap, arith}
use Rattle.std.specs.Prelude.{nat_lt, not, ◌&&◌, if◌then◌else◌}
use Rattle.std.specs.List.{range_with_len, list_any}
use Rattle.std.proofs.lemmas.Bool.{le-ltb, ltb-false, false_from_ne_true}
use Rattle.ddf_lemmas.proofs.Tests.{true_not_false}
use Rattle.ddf_array.specs.Volume.{Volume, capacity}
use Rattle.ddf_array.specs.Within.{is_within}
use Rattle.ddf_read.specs.declared.fault.VolumeFault.{VolumeFault}
use Rattle.ddf_read.specs.declared.fault.VolumeFault.TheVariants.{Range, Lost, Unsure}
use Rattle.ddf_read.specs.Refused.{lacks_copy, is_unsure, read_refusal}
use Rattle.ddf_read.proofs.Lacking.{any_hit, any_none}
use Rattle.ddf_read.proofs.Common.{none_by}

pub none_of : (a b c : Bool) (x y z : VolumeFault) → a ≡ false → b ≡ true → c ≡ false → (if a then Some x else (if not b then Some y else (if c then Some z else None))) ≡ None
none_of true b c x y z past within unsure = absurd (cc)
none_of false false c x y z past within unsure = absurd (cc)
none_of false true true x y z past within unsure = absurd (cc)
none_of false true false x y z past within unsure = refl

-- a test that no number of a range passes
none_in : (p : ℕ → Bool) (start count at size : ℕ) → at + size ≤ count → list_any p (range_with_len start count) ≡ false → list_any p (range_with_len (start + at) size) ≡ false
none_in p start count at size inside none = any_none p (start + at) size (λ k below.
    let same : start + at + k ≡ start + (at + k) = omega arith in
    ap p same ∙ false_from_ne_true (p (start + (at + k))) (λ here. true_not_false (sym (any_hit p start count (at + k) (omega (arith, inside, below)) here) ∙ none)))

both : (marked : Bool) (whole part : Bool) → (whole ≡ false → part ≡ false) → (marked && whole) ≡ false → (marked && part) ≡ false
both true whole part less e = less e
both false whole part less e = refl

pub part_of : (v : Volume) (start count at size : ℕ) → at + size ≤ count → read_refusal v start count ≡ None → read_refusal v (start + at) size ≡ None
part_of v start count at size inside none =
    let whole = none_by (nat_lt (capacity v) (start + count)) (is_within v) (is_unsure v start count) (Range (capacity v)) Lost Unsure none in
    let below : start + count ≤ capacity v = ltb-false (capacity v) (start + count) whole.0 in
    none_of (nat_lt (capacity v) (start + at + size)) (is_within v) (is_unsure v (start + at) size) (Range (capacity v)) Lost Unsure
    (le-ltb (capacity v) (start + at + size) (omega (arith, below, inside)))
    whole.1
    (both v.marked (list_any (lacks_copy v) (range_with_len start count)) (list_any (lacks_copy v) (range_with_len (start + at) size)) (none_in (lacks_copy v) start count at size inside) whole.2)
