use Rattle.std.proofs.Common.{refl}
use Rattle.ddf_copy.proofs.CopiesRead.{controller_is, disk_data_is, sections_are}
use Rattle.ddf_copy.specs.Written.{controller_written, disk_data_written}
use Rattle.ddf_copy.proofs.writing.raw_of.Goals as goal

pub returns-clause-read : goal.returns-clause-read
returns-clause-read c = λ header geometry guid sequence.
    let copy = c.args.copy.now in
    sections_are header copy _ geometry guid sequence
    (controller_is copy.controller c.encode_controller.result (c.encode_controller.ensures.made c.requires.controller_can))
    c.in_ok-disks.ensures.read
    c.in_ok-arrays.ensures.read
    c.in_ok-records.ensures.read
    (disk_data_is copy.disk_data c.encode_disk_data.result (c.encode_disk_data.ensures.made c.requires.disk_data_can))
    c.in_ok-bad_blocks.ensures.read

pub returns-clause-written : goal.returns-clause-written
unfolding controller_written disk_data_written
returns-clause-written c = rw (c.encode_controller.ensures.exact, c.in_ok-disks.ensures.written, c.in_ok-arrays.ensures.written, c.in_ok-records.ensures.written, c.encode_disk_data.ensures.exact, c.in_ok-bad_blocks.ensures.written) refl
