use Rattle.std.proofs.Common.{arith}
use Rattle.ddf_tables.proofs.LogValues.{log_decoded, log_only, log_writable, log_size}
use Rattle.ddf_tables.proofs.bad_blocks.decode_bad_blocks.Goals as goal

value : goal.returns-clause-value
value c = log_decoded c.args.section.now c.read.result c.requires (λ i. omega (arith, c.type_inv.section i)) c.read.ensures

pub returns-clause-value : goal.returns-clause-value
returns-clause-value c = value c

pub returns-clause-only : goal.returns-clause-only
returns-clause-only c = log_only c.args.section.now c.read.result c.read.ensures

pub returns-clause-writable : goal.returns-clause-writable
returns-clause-writable c = log_writable c.args.section.now c.read.result (value c)

pub returns-clause-size : goal.returns-clause-size
returns-clause-size c = log_size c.args.section.now c.read.result (value c)
