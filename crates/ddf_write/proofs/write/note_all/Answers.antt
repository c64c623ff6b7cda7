use Rattle.std.proofs.Common.{◌∙◌, ⊎_elim, inr, ◌<◌, ◌≤◌, length, arith}
use Rattle.std.proofs.lemmas.Bool.{cases_lt}
use Rattle.ddf_write.proofs.Noting.{none_past, one_long, one_noted, one_only, one_stays}
use Rattle.ddf_write.proofs.write.note_all.Goals as goal

pub loop-slot-preserved : goal.loop-slot-preserved
loop-slot-preserved c =
    let below : c.loop-slot.slot < length c.loop-slot.touched = omega (arith, c.loop-slot-test.true, c.loop-slot.invariant.long) in
    rw c.note.ensures (record {
      long = one_long c.args.these.now c.loop-slot.touched c.loop-slot.slot ∙ c.loop-slot.invariant.long;
      stays = λ slot is. one_stays c.args.these.now c.loop-slot.touched c.loop-slot.slot below slot (c.loop-slot.invariant.stays slot is);
      noted = λ slot within is. one_noted c.args.these.now c.loop-slot.touched c.loop-slot.slot below c.loop-slot.invariant.noted slot within is;
      only = λ slot is. ⊎_elim (λ was. c.loop-slot.invariant.only slot was) (λ one. inr one) (one_only c.args.these.now c.loop-slot.touched c.loop-slot.slot slot is);
    })

pub returns-clause-noted : goal.returns-clause-noted
returns-clause-noted c = λ slot is. ⊎_elim
    (λ (below : slot < c.loop-slot.slot). c.loop-slot.invariant.noted slot below is)
    (λ (past : c.loop-slot.slot ≤ slot). absurd (none_past c.args.these.now slot (omega (arith, past, c.loop-slot-test.false, c.told-these)) is))
    (cases_lt slot c.loop-slot.slot)
