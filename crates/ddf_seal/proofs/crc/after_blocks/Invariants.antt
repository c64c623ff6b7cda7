use Rattle.std.proofs.Common.{◌≡◌, fold, take}
use Rattle.ddf_seal.specs.Crc.{byte_step}
use Rattle.ddf_seal.proofs.crc.after_blocks.Given as goal

abbrev pub invariant-loop-block : goal.invariant-loop-block
invariant-loop-block l = l.register ≡ fold (fold (fold byte_step)) l.fn.register (take l.block-index l.blocks)
