use Rattle.ddf_copy.proofs.HeadersWritten.{anchor_can}
use Rattle.ddf_copy.proofs.copy.DiskCopy.anchor_header.Goals as goal

pub returns-clause-writable : goal.returns-clause-writable
returns-clause-writable c = λ is. anchor_can c.args.self.now.header is.header_can
