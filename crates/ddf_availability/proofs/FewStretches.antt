-- A range of blocks has no more stretches than blocks, however it is cut into pieces.
use Rattle.std.proofs.Common.{ℕ, zero, suc, ◌+◌, ◌-◌, ◌*◌, ◌≤◌, Bool, true, false, List, [], ◌∷◌, length, map, min, Option, Some, None, if◌then◌else◌, arith}
use Rattle.std.specs.List.{range_with_len}
use Rattle.std.proofs.Math.Nat.{suc-mul}
use Rattle.std.proofs.lemmas.List.FromFn.{length-map-range_with_len}
use Rattle.ddf_array.specs.declared.site.Site.{Site}
use Rattle.ddf_array.specs.Sources.{first_copy}
use Rattle.ddf_array.specs.Volume.{Volume}
use Rattle.ddf_read.specs.Stretches.{copy_stretches, follows, is_break, stretches}
use Rattle.ddf_pieces.specs.Pieces.{over_pieces, piece_of}

one_break : (one next : Option Site) → is_break one next ≤ 1
one_break (Some one) (Some next) = by (follows one next)
  where
    by : (b : Bool) → (if b then 0 else 1) ≤ 1
    by true = omega arith
    by false = omega arith
one_break None next = omega arith
one_break (Some one) None = omega arith

few_stretches : (sites : List (Option Site)) → stretches sites ≤ length sites
few_stretches [] = omega arith
few_stretches (one ∷ []) = omega arith
few_stretches (one ∷ (next ∷ others)) =
    let here = one_break one next in
    let rest = few_stretches (next ∷ others) in
    omega (arith, here, rest)

few_of_range : (volume : Volume) (start count : ℕ) → copy_stretches volume start count ≤ count
few_of_range volume start count =
    let few = few_stretches (map (first_copy volume) (range_with_len start count)) in
    let long = length-map-range_with_len (first_copy volume) start count in
    omega (arith, few, long)

pub few_over : (volume : Volume) (each start count pieces : ℕ) → over_pieces (copy_stretches volume) each start count pieces ≤ count
few_over volume each start count pieces = let few = up_to pieces in omega (arith, few)
  where
    up_to : (some : ℕ) → over_pieces (copy_stretches volume) each start count some ≤ min (some * each) count
    up_to zero = omega arith
    up_to (suc some) =
        let before = up_to some in
        let next = few_of_range volume (start + some * each) (piece_of each (count - some * each)) in
        let more = suc-mul some each in
        omega (arith, before, next, more)
