use Rattle.std.proofs.Common.{◌≡◌}
use Rattle.std.specs.Prelude.{find}
use Rattle.ddf_request.specs.Named.{has_printed_name}
use Rattle.ddf_request.proofs.named.printed_guid.Given as goal

abbrev pub invariant-loop-guid : goal.invariant-loop-guid
invariant-loop-guid l = find (has_printed_name l.word) l.guid-iterator ≡ find (has_printed_name l.word) l.arrays.entries
