use Rattle.std.proofs.Common.{◌∙◌, sym, subst, List, ℕ}
use Rattle.ddf_seal.specs.Unread.{AreBytes}
use Rattle.ddf_tables.specs.BadBlocks.{IsLogOf}
use Rattle.ddf_tables.proofs.LogValues.{log_again, log_is_written}
use Rattle.ddf_tables.proofs.bad_blocks.encode_bad_blocks.Goals as goal

pub returns-clause-back : goal.returns-clause-back
returns-clause-back c = λ section is. c.write.ensures.exact ∙ log_again c.args.log.now section is

pub returns-clause-made : goal.returns-clause-made
returns-clause-made c = λ can.
    let log = c.args.log.now in
    let exact = c.write.ensures.exact in
    subst (λ (section : List ℕ). IsLogOf log section) (sym exact) (log_is_written log can (subst AreBytes exact c.write.ensures.bytes))
