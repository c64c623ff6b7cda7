use Rattle.std.proofs.Common.{sym}
use Rattle.ddf_seal.proofs.CrcTables.{block_step}
use Rattle.ddf_seal.proofs.crc.after_block.Goals as goal

pub returns : goal.returns
returns c =
    rw (c.after_zeros.ensures, c.after_zeros-2.ensures, c.after_zeros-3.ensures, c.after_zeros-4.ensures)
    (sym (block_step c.args.register c.number-4.result c.number-3.result c.number-2.result c.number.result c.args.block.now c.told-block
    c.number-4.ensures c.number-3.ensures c.number-2.ensures c.number.ensures))
