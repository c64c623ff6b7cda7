use Rattle.std.proofs.Common.{ap}
use Rattle.std.specs.Prelude.{option_map}
use Rattle.ddf_config.specs.declared.refusal.Refusal.TheVariants.{BadBlocks}
use Rattle.ddf_config.specs.declared.seat.Seat.{Seat}
use Rattle.ddf_rebuild_command.proofs.planning.bad_spare.Goals as goal

pub returns-in-Some-clause-bad : goal.returns-in-Some-clause-bad
returns-in-Some-clause-bad c = rw c.in-Begin.is (ap (option_map (λ (seat : Seat). BadBlocks seat.slot)) c.in-Some.ensures)
