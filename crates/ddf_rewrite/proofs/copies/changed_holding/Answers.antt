use Rattle.std.proofs.Common.{◌∙◌, sym, ap}
use Rattle.ddf_copy.proofs.Levels.{room_of}
use Rattle.ddf_view.specs.View.{View, find_held}
use Rattle.ddf_rewrite.specs.Before.{before}
use Rattle.ddf_rewrite.proofs.Premises.{leader_can, own_can}
use Rattle.ddf_rewrite.proofs.copies.changed_holding.Goals as goal

pub changed_record-requires-clause-room : goal.changed_record-requires-clause-room
changed_record-requires-clause-room c = room_of c.args.old.now c.requires.old

pub changed_record-requires-clause-own : goal.changed_record-requires-clause-own
changed_record-requires-clause-own c = λ held at.
    let wanted = c.wanted.inside in
    own_can c.args.old.now wanted.guid wanted.index held c.requires.old
    (ap (λ (view : View). find_held wanted.guid wanted.index view.elements) (sym c.new.ensures) ∙ sym c.find_held-own.ensures ∙ sym c.as_ref.ensures.value ∙ at)

pub changed_record-requires-clause-leader : goal.changed_record-requires-clause-leader
changed_record-requires-clause-leader c = λ held at.
    let wanted = c.wanted.inside in
    leader_can c.args.old.now.header.geometry (before c.args.leaders.now) wanted.guid wanted.index held c.requires.leaders (sym c.leading_record-leader.ensures ∙ sym c.as_ref-2.ensures.value ∙ at)
