use Rattle.std.proofs.Common.{◌≡◌, ◌-◌, ◌≤◌, find, length, not}
use Rattle.std.specs.List.{range_with_len}
use Rattle.ddf_import.specs.Joined.{is_taken}
use Rattle.ddf_import.proofs.numbers.least_free.Given as goal

abbrev pub invariant-loop-number : goal.invariant-loop-number
invariant-loop-number l = record {
  within : l.number ≤ length l.taken;
  first : find (λ number. not (is_taken l.taken number)) (range_with_len l.number (length l.taken - l.number))
      ≡ find (λ number. not (is_taken l.taken number)) (range_with_len 0 (length l.taken));
}

abbrev pub decreases-loop-number : goal.decreases-loop-number
decreases-loop-number l = length l.taken - l.number
