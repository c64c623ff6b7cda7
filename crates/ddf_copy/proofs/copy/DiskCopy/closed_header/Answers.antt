use Rattle.std.proofs.Common.{arith}
use Rattle.ddf_copy.proofs.HeadersWritten.{gate_can}
use Rattle.ddf_copy.proofs.copy.DiskCopy.closed_header.Goals as goal

pub returns-clause-writable : goal.returns-clause-writable
returns-clause-writable c = λ is. rw c.kind.ensures (gate_can c.args.self.now.header c.args.which 0 (omega arith) is.header_can)
