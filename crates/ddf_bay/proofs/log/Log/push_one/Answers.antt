use Rattle.std.proofs.Common.{◌≡◌, List, length, sym, subst, arith}
use Rattle.std.specs.Prelude.{IsTrue}
use Rattle.ddf_bay.specs.Logged.{are_whole}
use Rattle.ddf_bay.specs.LoggedLaws.{whole_added}
use Rattle.ddf_bay.specs.Finding.{noted, Finds, IsWithin}
use Rattle.ddf_bay.specs.declared.logged_write.LoggedWrite.{LoggedWrite}
use Rattle.ddf_bay.proofs.Finding.{finds_push, within_push}
use Rattle.ddf_bay.proofs.log.Log.push_one.Goals as goal

pub invariant_of-self-clause-finds : goal.invariant_of-self-clause-finds
invariant_of-self-clause-finds c =
    let end : c.len-at.result ≡ length c.args.self.now.logged.items = omega arith in
    subst (λ (rs : List LoggedWrite). Finds (noted c.note.new.index) rs) (sym c.in-Ok.ensures.items) (finds_push (noted c.args.self.now.index) (noted c.note.new.index) c.args.self.now.logged.items c.args.entry (rw (← end) (λ s l. c.note.ensures.updates.0 (record { slot = s; lba = l }))) c.args.self.now.within c.args.self.now.finds)

pub invariant_of-self-clause-within : goal.invariant_of-self-clause-within
invariant_of-self-clause-within c =
    let end : c.len-at.result ≡ length c.args.self.now.logged.items = omega arith in
    subst (λ (rs : List LoggedWrite). IsWithin (noted c.note.new.index) rs) (sym c.in-Ok.ensures.items) (within_push (noted c.args.self.now.index) (noted c.note.new.index) c.args.self.now.logged.items c.args.entry (rw (← end) (λ s l. c.note.ensures.updates.0 (record { slot = s; lba = l }))) c.args.self.now.within)

pub invariant_of-self-clause-whole : goal.invariant_of-self-clause-whole
invariant_of-self-clause-whole c = subst (λ (rs : List LoggedWrite). IsTrue (are_whole rs)) (sym c.in-Ok.ensures.items) (whole_added c.args.self.now.logged.items c.args.entry c.args.self.now.whole c.requires.whole)
