use Rattle.std.proofs.Common.{⊎_elim, inl, inr}
use Rattle.ddf_write.proofs.WriteEnds.{noted_written}
use Rattle.ddf_cells.proofs.WriteSteps.{none_touched}
use Rattle.ddf_write.proofs.write.write_unsynced.Goals as goal

pub returns-in-Ok-clause-noted : goal.returns-in-Ok-clause-noted
returns-in-Ok-clause-noted g c = λ tells slot written. c.note_all.ensures.noted slot (c.in-Ok.ensures.noted tells slot written)

pub returns-in-Ok-clause-notes : goal.returns-in-Ok-clause-notes
returns-in-Ok-clause-notes g c = record {
  stays = c.note_all.ensures.stays;
  only = λ slot is. ⊎_elim inl
      (λ these. inr (noted_written c.args.view.now c.write_refusal.ensures.sound c.args.start c.args.from.now g.B.Bay.tells c.in-Ok.ensures.writes (none_touched 64) slot these))
      (c.note_all.ensures.only slot is);
}
