use Rattle.std.proofs.Common.{◌≡◌, find, ◌+◌, length}
use Rattle.std.specs.List.{enumerate_from}
use Rattle.ddf_request.specs.Named.{has_place}
use Rattle.ddf_request.proofs.named.placed_guid.Given as goal

abbrev pub invariant-loop-guid : goal.invariant-loop-guid
invariant-loop-guid l = record {
  same : find (has_place l.word) (enumerate_from l.place l.guid-iterator) ≡ find (has_place l.word) (enumerate_from 0 l.arrays.entries);
  counted : l.place + length l.guid-iterator ≡ length l.arrays.entries;
}
