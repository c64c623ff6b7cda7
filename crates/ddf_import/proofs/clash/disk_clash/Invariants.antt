use Rattle.std.proofs.Common.{◌≡◌, find}
use Rattle.ddf_import.specs.Clash.{is_there}
use Rattle.ddf_import.proofs.clash.disk_clash.Given as goal

abbrev pub invariant-loop-reference : goal.invariant-loop-reference
invariant-loop-reference l = find (is_there l.members.entries) l.reference-iterator ≡ find (is_there l.members.entries) l.joining.entries
