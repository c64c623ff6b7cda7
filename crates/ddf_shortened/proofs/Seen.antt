-- What a call asks for of a slot as it is seen, it may ask for of the slot below.
use Rattle.std.proofs.Common.{◌≡◌, ◌<◌, ◌≤◌, ℕ, ◌+◌, ◌-◌, List, true, false, length, arith}
use Rattle.std.specs.Prelude.{slice_index}
use Rattle.ddf_shortened.specs.declared.ends.SlotEnd.{SlotEnd}
use Rattle.ddf_shortened.specs.SlotEnds.{end_at, is_early}
use Rattle.ddf_shortened.specs.Sizes.{seen_sizes, seen_index, seen_length, seen_small}

module _ (ends : List SlotEnd) (sizes : List ℕ) (s : ℕ) where
  pub slot_below : s < length (seen_sizes ends sizes) → s < length sizes
  slot_below lt = let long = seen_length ends sizes in omega (arith, lt, long)

  pub sector_below : (l : ℕ) → l < slice_index (seen_sizes ends sizes) s → l < slice_index sizes s
  sector_below l lt = let small = seen_small ends sizes s in omega (arith, lt, small)

  pub run_below : (l n : ℕ) → l + n ≤ slice_index (seen_sizes ends sizes) s → l + n ≤ slice_index sizes s
  run_below l n le = let small = seen_small ends sizes s in omega (arith, le, small)

  pub size_early : is_early (end_at ends s) ≡ true → slice_index (seen_sizes ends sizes) s ≡ slice_index sizes s - 256
  size_early is = rw is at (seen_index ends sizes s)

  pub size_last : is_early (end_at ends s) ≡ false → slice_index (seen_sizes ends sizes) s ≡ slice_index sizes s
  size_last is = rw is at (seen_index ends sizes s)
