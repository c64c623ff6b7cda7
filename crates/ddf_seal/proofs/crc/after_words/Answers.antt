use Rattle.std.proofs.Common.{[], get_or, fold, sym, ◌∙◌, ap}
use Rattle.std.proofs.lemmas.List.Sums.{fold_more}
use Rattle.ddf_seal.specs.Crc.{byte_step}
use Rattle.ddf_seal.proofs.crc.after_words.Goals as goal

pub loop-word-preserved : goal.loop-word-preserved
loop-word-preserved c =
    let words = c.args.words.now in
    let i = c.loop-word.word-index in
    c.after_zeros-register.ensures ∙ sym (c.number.ensures c.loop-word.register) ∙ ap (λ r. fold byte_step r (get_or words i [])) c.loop-word.invariant
    ∙ sym (fold_more (fold byte_step) c.args.register words i [] c.loop-word-test.true)
