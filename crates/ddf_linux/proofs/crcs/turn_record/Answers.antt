use Rattle.ddf_linux.specs.CrcLaws.{sealed_from_linux, linux_from_sealed, linux_from_standard, standard_from_linux}
use Rattle.ddf_linux.proofs.crcs.turn_record.Goals as goal

pub returns-clause-from_linux : goal.returns-clause-from_linux
returns-clause-from_linux c = λ signature.
    rw (c.add.ensures, c.constant_of.ensures.exact) (sealed_from_linux signature c.args.bytes.now c.requires, linux_from_sealed signature c.args.bytes.now c.requires)

pub returns-clause-from_standard : goal.returns-clause-from_standard
returns-clause-from_standard c = λ signature.
    rw (c.add.ensures, c.constant_of.ensures.exact) (linux_from_standard signature c.args.bytes.now c.requires, standard_from_linux signature c.args.bytes.now c.requires)
