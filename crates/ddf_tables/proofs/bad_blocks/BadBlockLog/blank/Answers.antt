use Rattle.std.proofs.Common.{◌*◌, arith}
use Rattle.ddf_tables.proofs.LogValues.{blank_log_writable, blank_log_size}
use Rattle.ddf_tables.proofs.bad_blocks.BadBlockLog.blank.Goals as goal

pub returns-clause-writable : goal.returns-clause-writable
returns-clause-writable c = blank_log_writable (512 * c.args.sectors) c.new_log.result (omega arith) c.new_log.ensures

pub returns-clause-size : goal.returns-clause-size
returns-clause-size c = blank_log_size (512 * c.args.sectors) c.new_log.result (omega arith) c.new_log.ensures
