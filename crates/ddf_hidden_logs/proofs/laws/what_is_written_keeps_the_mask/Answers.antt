use Rattle.ddf_hidden_logs.proofs.Lasts.{carry_now, exchange_both, exchange_stays, mask_both, mask_stays}
use Rattle.ddf_hidden_logs.proofs.laws.what_is_written_keeps_the_mask.Goals as goal

pub returns-clause-shown : goal.returns-clause-shown
returns-clause-shown c = λ size before now anchor which copy whole whole_now is stands carry seen. (
  carry_now size before now whole whole_now anchor carry.is_anchored which copy is stands carry seen,
  mask_stays size before now whole whole_now anchor carry.is_anchored which copy is stands carry seen,
  exchange_stays size before now whole whole_now anchor carry.is_anchored which copy is stands carry seen,
)

pub returns-clause-exchanged : goal.returns-clause-exchanged
returns-clause-exchanged c = λ size before now anchor which copy whole whole_now is stands carry seen. (
  exchange_both size before now whole whole_now anchor which copy carry.is_anchored is stands carry seen,
  mask_both size before now whole whole_now anchor which copy carry.is_anchored is stands carry seen,
)
