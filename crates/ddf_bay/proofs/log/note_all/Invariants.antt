use Rattle.std.proofs.Common.{◌≤◌, ◌+◌, take}
use Rattle.std.specs.HashMap.{hash_map_len, spare}
use Rattle.ddf_bay.specs.Finding.{noted, Finds, IsWithin}
use Rattle.ddf_bay.proofs.log.note_all.Given as goal

abbrev pub invariant-loop-at : goal.invariant-loop-at
invariant-loop-at l = record {
  few : hash_map_len l.index ≤ l.at;
  room : hash_map_len l.initial.index + spare l.initial.index ≤ hash_map_len l.index + spare l.index;
  finds : Finds (noted l.index) (take l.at l.logged);
  within : IsWithin (noted l.index) (take l.at l.logged);
}
