use Rattle.std.proofs.Common.{◌∙◌, Some, sym, ap}
use Rattle.ddf_request.specs.Spare.{served_guid}
use Rattle.ddf_request.proofs.Served.{served_more, served_none}
use Rattle.ddf_request.proofs.spare.served_guids.Goals as goal

pub returns-in-None : goal.returns-in-None
returns-in-None c =
    let arrays = c.args.arrays.now.entries in
    let word = c.word-item.result in
    sym (served_none arrays c.args.words.now c.loop-word.word-index c.loop-word.guids.items word c.loop-word-test.true c.loop-word.invariant (sym c.word-item.is)
    (ap (served_guid arrays) (sym c.items.ensures) ∙ sym c.in-None.ensures))

pub loop-word-preserved : goal.loop-word-preserved
loop-word-preserved c =
    let arrays = c.args.arrays.now.entries in
    let word = c.word-item.result in
    served_more arrays c.args.words.now c.loop-word.word-index c.loop-word.guids.items word c.loop-word-test.true c.loop-word.invariant (sym c.word-item.is) c.in-Some.guid
    (ap (served_guid arrays) (sym c.items.ensures) ∙ sym c.in-Some.ensures)
    ∙ ap Some (sym c.in_ok-push-in-Some.ensures.items)
