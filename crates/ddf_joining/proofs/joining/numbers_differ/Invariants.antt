use Rattle.std.proofs.Common.{◌≡◌, ◌++◌, take}
use Rattle.ddf_joining.proofs.joining.numbers_differ.Given as goal

abbrev pub invariant-loop-disk : goal.invariant-loop-disk
invariant-loop-disk l = l.all.items ≡ l.native ++ take l.disk-index l.joining
