use Rattle.std.proofs.Common.{inl, inr, subst, refl}
use Rattle.ddf_words.specs.Input.{IsUnread}
use Rattle.ddf_words.specs.declared.batch_input.BatchFault.{BatchFault}
use Rattle.ddf_batch.proofs.batch.batch.Goals as goal

pub returns-in-Err-Long-clause-run : goal.returns-in-Err-Long-clause-run
returns-in-Err-Long-clause-run g c =
    let long = subst (λ (fault : BatchFault). IsUnread g.S.Source.tells (g.S.Source.input c.args.source.now) (g.S.Source.input c.read_batch.new.source) fault) c.in-Err-Long.field-0-is c.in-Err-Long.ensures.fault in
    rw c.code.ensures (inr (inl (record { is_long = long; ends = c.tell.ensures.ends; stream = c.tell.ensures.stream; same_bay = refl })))
