-- A part of a range that can be written can be written.
use Rattle.std.proofs.Common.{◌≡◌, ℕ, ◌+◌, ◌≤◌, None, arith}
use Rattle.std.specs.Prelude.{nat_lt}
use Rattle.std.proofs.lemmas.Bool.{le-ltb, ltb-false}
use Rattle.ddf_array.specs.Volume.{Volume, capacity}
use Rattle.ddf_array.specs.Within.{is_within}
use Rattle.ddf_read.specs.declared.fault.VolumeFault.TheVariants.{Range, Lost, Degraded}
use Rattle.ddf_read.proofs.Common.{none_by}
use Rattle.ddf_read.proofs.Narrower.{none_of}
use Rattle.ddf_cells.specs.Degraded.{is_degraded}
use Rattle.ddf_write.specs.WriteRefused.{write_refusal}

pub part_of : (v : Volume) (start count at size : ℕ) → at + size ≤ count → write_refusal v start count ≡ None → write_refusal v (start + at) size ≡ None
part_of v start count at size inside none =
    let whole = none_by (nat_lt (capacity v) (start + count)) (is_within v) (is_degraded v) (Range (capacity v)) Lost Degraded none in
    let below : start + count ≤ capacity v = ltb-false (capacity v) (start + count) whole.0 in
    none_of (nat_lt (capacity v) (start + at + size)) (is_within v) (is_degraded v) (Range (capacity v)) Lost Degraded
    (le-ltb (capacity v) (start + at + size) (omega (arith, below, inside))) whole.1 whole.2
