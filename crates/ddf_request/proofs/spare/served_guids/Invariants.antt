use Rattle.std.proofs.Common.{◌≡◌, Some, take}
use Rattle.ddf_request.specs.Spare.{served_guids}
use Rattle.ddf_request.proofs.spare.served_guids.Given as goal

abbrev pub invariant-loop-word : goal.invariant-loop-word
invariant-loop-word l = served_guids l.arrays.entries (take l.word-index l.words) ≡ Some l.guids.items
