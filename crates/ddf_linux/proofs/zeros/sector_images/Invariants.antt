use Rattle.std.proofs.Common.{◌*◌, ◌^◌}
use Rattle.ddf_linux.specs.Zeros.{AreImages}
use Rattle.ddf_linux.proofs.zeros.sector_images.Given as goal

abbrev pub invariant-loop : goal.invariant-loop
invariant-loop l = AreImages (8 * 2 ^ l.counter) l.images
