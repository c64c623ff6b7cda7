use Rattle.std.proofs.Common.{◌≡◌, ◌+◌, List, [], ◌∷◌, ◌++◌, length, take, get_or, sym, subst, length-take, arith}
use Rattle.std.specs.Prelude.{None}
use Rattle.std.proofs.lemmas.List.{take_more}
use Rattle.ddf_bay.specs.Finding.{noted, Finds, IsWithin}
use Rattle.ddf_bay.specs.declared.logged_write.LoggedWrite.{LoggedWrite}
use Rattle.ddf_bay.proofs.Finding.{finds_push, within_push}
use Rattle.ddf_bay.proofs.log.note_all.Goals as goal

-- what `get_or` of a write answers past the end
abbrev none : LoggedWrite
none = record { slot = 0; lba = 0; bytes = []; at = 0; settled = None }

pub loop-at-preserved : goal.loop-at-preserved
loop-at-preserved c =
    let rs = c.args.logged.now in
    let at = c.loop-at.at in
    let end : at ≡ length (take at rs) = simp length-take (omega arith) in
    let more : take (at + 1) rs ≡ take at rs ++ get_or rs at none ∷ [] = take_more rs at none c.loop-at-test.true in
    record {
      few = omega arith;
      room = omega arith;
      finds = subst (λ (xs : List LoggedWrite). Finds (noted c.note.new.index) xs) (sym more) (finds_push (noted c.loop-at.index) (noted c.note.new.index) (take at rs) (get_or rs at none) (rw (← end) (λ s l. c.note.ensures.updates.0 (record { slot = s; lba = l }))) c.loop-at.invariant.within c.loop-at.invariant.finds);
      within = subst (λ (xs : List LoggedWrite). IsWithin (noted c.note.new.index) xs) (sym more) (within_push (noted c.loop-at.index) (noted c.note.new.index) (take at rs) (get_or rs at none) (rw (← end) (λ s l. c.note.ensures.updates.0 (record { slot = s; lba = l }))) c.loop-at.invariant.within);
    }
