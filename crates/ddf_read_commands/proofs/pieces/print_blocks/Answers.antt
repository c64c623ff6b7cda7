use Rattle.std.proofs.Common.{refl, arith}
use Rattle.ddf_answer.specs.declared.failure.Failure.TheVariants.{Memory}
use Rattle.ddf_read_commands.specs.Read.{NotRead}
use Rattle.ddf_read_commands.proofs.ReadCalls.{none_of_blocks}
use Rattle.ddf_read_commands.proofs.pieces.print_blocks.Goals as goal

pub returns-in-Err-clause-done : goal.returns-in-Err-clause-done
returns-in-Err-clause-done g c = record { outcome = NotRead Memory; has = tt; ends = (refl, λ told. refl) }

pub returns-in-Err-clause-calls : goal.returns-in-Err-clause-calls
returns-in-Err-clause-calls g c = none_of_blocks (g.B.Bay.disks c.args.bay.now) (g.B.Bay.disks c.args.bay.now) 0 (omega arith) c.args.view.now c.args.start c.args.count
