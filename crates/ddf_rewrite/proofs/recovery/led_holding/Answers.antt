use Rattle.std.proofs.Common.{◌∙◌, sym, ap}
use Rattle.ddf_copy.proofs.Levels.{room_of}
use Rattle.ddf_view.specs.View.{View, find_held}
use Rattle.ddf_rewrite.proofs.Premises.{own_can}
use Rattle.ddf_rewrite.proofs.recovery.led_holding.Goals as goal

pub recovered_record-requires-clause-room : goal.recovered_record-requires-clause-room
recovered_record-requires-clause-room c = room_of c.args.old.now c.requires.old

pub recovered_record-requires-clause-own : goal.recovered_record-requires-clause-own
recovered_record-requires-clause-own c = λ held at.
    let wanted = c.wanted.inside in
    own_can c.args.old.now wanted.guid wanted.index held c.requires.old
    (ap (λ (view : View). find_held wanted.guid wanted.index view.elements) (sym c.new.ensures) ∙ sym c.find_held-own.ensures ∙ sym c.as_ref.ensures.value ∙ at)
