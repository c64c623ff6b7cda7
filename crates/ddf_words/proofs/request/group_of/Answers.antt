use Rattle.std.proofs.Common.{arith}
use Rattle.ddf_words.proofs.Guids.{reads_group}
use Rattle.ddf_words.proofs.request.group_of.Goals as goal

pub returns-in-64-clause-found : goal.returns-in-64-clause-found
returns-in-64-clause-found c =
    rw c.as_bytes.ensures.value at (reads_group c.as_bytes.result.now c.parse.result c.in-64.len_at_least (omega arith) c.parse.ensures.digits.0 c.parse.ensures.value)
