use Rattle.std.proofs.Common.{◌≡◌, ◌∙◌, length, sym, ap, subst}
use Rattle.std.proofs.lemmas.List.{take_all}
use Rattle.ddf_seal.specs.Unread.{cleared, places, written}
use Rattle.ddf_seal.proofs.Same.{AreWithin, within_from_test}
use Rattle.ddf_seal.proofs.Records.{written-cleared}
use Rattle.ddf_seal.proofs.unread.clear.Goals as goal

pub returns-clause-again : goal.returns-clause-again
returns-clause-again c = λ values same fits stand.
    let bytes = c.args.bytes.now in
    let spans = c.args.fields.now in
    let unread : c.loop-field.bytes ≡ cleared spans bytes = c.loop-field.invariant ∙ ap (λ l. cleared l bytes) (take_all c.loop-field.field-index spans c.loop-field-test.false) in
    let within : AreWithin (length bytes) (places values) = subst (AreWithin (length bytes)) (sym same) (within_from_test (length bytes) spans c.requires) in
    ap (written values) unread ∙ ap (λ l. written values (cleared l bytes)) (sym same) ∙ written-cleared values bytes within fits stand
