use Rattle.std.proofs.Common.{◌≡◌, ◌∙◌, ◌⊎◌, inl, inr, ⊎_elim, ℕ, ◌<◌, List, sym, ap, subst, arith, length}
use Rattle.std.proofs.lemmas.Result.{err_from_is_err_and, IfErr-weaker, on_ok_weaker}
use Rattle.ddf_bytes.specs.Counts.{Rose}
use Rattle.ddf_bay.specs.Sectors.{Image}
use Rattle.ddf_bay.proofs.Steps.{rose_since}
use Rattle.ddf_array.specs.Volume.{capacity}
use Rattle.ddf_read.specs.Reading.{Failed}
use Rattle.ddf_cells.specs.Parity.{IsParityCell}
use Rattle.ddf_cells.specs.Touching.{IsTouchedSlot}
use Rattle.ddf_cells.proofs.Ends.{both_of_err, moments_end, settled_end}
use Rattle.ddf_cells.proofs.WriteSteps.{none_touched, writes_then, writes_wider}
use Rattle.ddf_resync.specs.Copying.{AreCopied}
use Rattle.ddf_resync.specs.Resyncing.{MayResync}
use Rattle.ddf_resync.specs.Setting.{AreRightIn, SetsParity}
use Rattle.ddf_resync.proofs.Copied.{copied_wider}
use Rattle.ddf_resync.proofs.Resynced.{equal_mid, given_there, noted_set, resynced, set_noted, set_there}
use Rattle.ddf_resync.proofs.Stops.{failed_before, row_since}
use Rattle.ddf_resync.proofs.resyncing.resync_all.Goals as goal

pub returns-in_err-copy_all-clause-cause : goal.returns-in_err-copy_all-clause-cause
returns-in_err-copy_all-clause-cause g c =
    let p = err_from_is_err_and c.from_residual.result c.from_residual.ensures.1 in
    rw (p.1, p.2)
    (⊎_elim (λ failed. inl (noted_set c.args.view.now g.B.Bay.tells (g.B.Bay.disks c.args.bay.now).held c.in_err-copy_all.ensures.writes (none_touched 64) _ failed.0, failed.1)) (λ block. inr (inl block)) c.in_err-copy_all.ensures.cause)

pub set_all-requires-clause-fits : goal.set_all-requires-clause-fits
set_all-requires-clause-fits g c = rw c.in_ok-copy_all.ensures.writes.same_sizes c.requires.fits

pub returns-in_err-set_all-clause-any_moment : goal.returns-in_err-set_all-clause-any_moment
returns-in_err-set_all-clause-any_moment g c =
    let v = c.args.view.now in
    let May = MayResync v g.B.Bay.tells (g.B.Bay.disks c.args.bay.now).held in
    (writes_then May g.B.Bay.tells c.in_ok-copy_all.ensures.writes
    (writes_wider (SetsParity v) May g.B.Bay.tells (λ s l bytes of. inr of) c.in_err-set_all.ensures.writes)).any_moment

pub returns-in_err-set_all-clause-left : goal.returns-in_err-set_all-clause-left
returns-in_err-set_all-clause-left g c = λ s l bytes may.
    let v = c.args.view.now in
    let May = MayResync v g.B.Bay.tells (g.B.Bay.disks c.args.bay.now).held in
    ⊎_elim inl (λ given. inr given.0) ((writes_then May g.B.Bay.tells c.in_ok-copy_all.ensures.writes (writes_wider (SetsParity v) May g.B.Bay.tells (λ s l bytes of. inr of) c.in_err-set_all.ensures.writes)).left s l bytes may)

pub returns-in_err-set_all-clause-held : goal.returns-in_err-set_all-clause-held
returns-in_err-set_all-clause-held g c = λ tells s l.
    let v = c.args.view.now in
    let May = MayResync v g.B.Bay.tells (g.B.Bay.disks c.args.bay.now).held in
    ⊎_elim inl (λ given. inr given.0) ((writes_then May g.B.Bay.tells c.in_ok-copy_all.ensures.writes (writes_wider (SetsParity v) May g.B.Bay.tells (λ s l bytes of. inr of) c.in_err-set_all.ensures.writes)).held tells s l)

pub returns-in_err-set_all-clause-cause : goal.returns-in_err-set_all-clause-cause
returns-in_err-set_all-clause-cause g c =
    let v = c.args.view.now in
    let May = MayResync v g.B.Bay.tells (g.B.Bay.disks c.args.bay.now).held in
    let p = err_from_is_err_and c.from_residual-in_err-set_all.result c.from_residual-in_err-set_all.ensures.1 in
    let w = writes_then May g.B.Bay.tells c.in_ok-copy_all.ensures.writes (writes_wider (SetsParity v) May g.B.Bay.tells (λ s l bytes of. inr of) c.in_err-set_all.ensures.writes) in
    rw (p.1, p.2)
    (⊎_elim (λ failed. inl (noted_set v g.B.Bay.tells (g.B.Bay.disks c.args.bay.now).held w (none_touched 64) _ failed.0, failed.1)) (λ row. inr (inr row))
    (row_since May (SetsParity v) g.B.Bay.tells c.in_ok-copy_all.ensures.writes c.in_err-set_all.ensures.writes v (IsTouchedSlot c.set_all.new.touched) _ c.in_err-set_all.ensures.cause))

pub returns-clause-cause : goal.returns-clause-cause
returns-clause-cause g c =
    let v = c.args.view.now in
    let old = g.B.Bay.disks c.args.bay.now in
    let May = MayResync v g.B.Bay.tells old.held in
    let w = writes_then May g.B.Bay.tells c.in_ok-copy_all.ensures.writes (writes_wider (SetsParity v) May g.B.Bay.tells (λ s l bytes of. inr of) c.in_ok-set_all.ensures.writes) in
    IfErr-weaker c.sync_touched.result _ _
    (λ slot both. inl (noted_set v g.B.Bay.tells old.held w (none_touched 64) slot both.0, rose_since _ _ _ (w.writes_rise slot) both.1))
    (both_of_err c.sync_touched.result _ _ c.sync_touched.ensures.touched c.sync_touched.ensures.failed)

pub returns-clause-any_moment : goal.returns-clause-any_moment
returns-clause-any_moment g c =
    let v = c.args.view.now in
    let May = MayResync v g.B.Bay.tells (g.B.Bay.disks c.args.bay.now).held in
    let w = writes_then May g.B.Bay.tells c.in_ok-copy_all.ensures.writes
    (writes_wider (SetsParity v) May g.B.Bay.tells (λ s l bytes of. inr of) c.in_ok-set_all.ensures.writes) in
    moments_end May g.B.Bay.tells w (g.B.Bay.disks c.sync_touched.new.bay) c.sync_touched.ensures.left c.sync_touched.ensures.held c.sync_touched.ensures.any_moment

pub returns-clause-held : goal.returns-clause-held
returns-clause-held g c = λ tells s l.
    let v = c.args.view.now in
    let old = g.B.Bay.disks c.args.bay.now in
    let May = MayResync v g.B.Bay.tells old.held in
    let w = writes_then May g.B.Bay.tells c.in_ok-copy_all.ensures.writes
    (writes_wider (SetsParity v) May g.B.Bay.tells (λ s l bytes of. inr of) c.in_ok-set_all.ensures.writes) in
    subst (λ (image : Image). (image s l ≡ old.held s l) ⊎ May s l (image s l)) (sym c.sync_touched.ensures.held) (⊎_elim inl (λ given. inr given.0) (w.held tells s l))

pub returns-clause-resynced : goal.returns-clause-resynced
returns-clause-resynced g c = λ tells.
    let v = c.args.view.now in
    let old = g.B.Bay.disks c.args.bay.now in
    let a = g.B.Bay.disks c.copy_all.new.bay in
    let b = g.B.Bay.disks c.set_all.new.bay in
    let n = g.B.Bay.disks c.sync_touched.new.bay in
    let May = MayResync v g.B.Bay.tells old.held in
    let first = c.in_ok-copy_all.ensures.writes in
    let next = c.in_ok-set_all.ensures.writes in
    let same : n.held ≡ b.held = c.sync_touched.ensures.held in
    let fewer : (slot : ℕ) → Failed old a slot → Failed old n slot =
    λ slot failed. subst (λ (m : ℕ). Rose (old.failed_reads slot) m) (sym (ap (λ (f : ℕ → ℕ). f slot) c.sync_touched.ensures.reads)) (failed_before May (SetsParity v) g.B.Bay.tells first next slot failed) in
    let copied : AreCopied (Failed old n) v old.held a.held 0 (capacity v) = copied_wider v fewer old.held a.held 0 (capacity v) (c.in_ok-copy_all.ensures.copied tells) in
    let equal = equal_mid v c.requires.known old.held a.held copied in
    let right : AreRightIn v n.held (length v.parts) =
    subst (λ (f : Image). AreRightIn v f (length v.parts)) (sym same) (c.in_ok-set_all.ensures.set tells equal) in
    let only : (s l : ℕ) → (n.held s l ≡ a.held s l) ⊎ IsParityCell v s l =
    λ s l. ⊎_elim (λ was. inl (ap (λ (f : Image). f s l) same ∙ was)) (λ given. inr given.0) (next.held tells s l) in
    on_ok_weaker c.sync_touched.result
    (λ settled. resynced (Failed old n) v c.requires.known c.requires.apart c.requires.whole old.held a.held n.held copied only right)
    c.sync_touched.ensures.settled

pub returns-clause-durable : goal.returns-clause-durable
returns-clause-durable g c = λ tells.
    let v = c.args.view.now in
    let old = g.B.Bay.disks c.args.bay.now in
    let first = c.in_ok-copy_all.ensures.writes in
    let next = c.in_ok-set_all.ensures.writes in
    on_ok_weaker c.sync_touched.result
    (λ synced slot is_set.
    let there = set_there v c.requires.known old.sizes c.requires.fits slot is_set in
    let noted = set_noted v c.requires.known c.copy_all.new.touched c.set_all.new.touched slot next.touched_up (c.in_ok-copy_all.ensures.noted tells) c.in_ok-set_all.ensures.noted is_set in
    synced slot (subst (λ (sizes : List ℕ). slot < length sizes) (sym (next.same_sizes ∙ first.same_sizes)) there) noted)
    c.sync_touched.ensures.settled

pub returns-clause-settled : goal.returns-clause-settled
returns-clause-settled g c = λ tells.
    let v = c.args.view.now in
    let old = g.B.Bay.disks c.args.bay.now in
    let May = MayResync v g.B.Bay.tells old.held in
    let w = writes_then May g.B.Bay.tells c.in_ok-copy_all.ensures.writes
    (writes_wider (SetsParity v) May g.B.Bay.tells (λ s l bytes of. inr of) c.in_ok-set_all.ensures.writes) in
    on_ok_weaker c.sync_touched.result
    (λ synced slot settled.
    settled_end May g.B.Bay.tells w (g.B.Bay.disks c.sync_touched.new.bay) c.sync_touched.ensures.left c.sync_touched.ensures.held tells
    (given_there v c.requires.known old.sizes c.requires.fits g.B.Bay.tells old.held)
    (λ on is_on touched. synced on (subst (λ (sizes : List ℕ). on < length sizes) (sym w.same_sizes) is_on) touched)
    slot settled)
    c.sync_touched.ensures.settled

-- ---- what it costs

pub returns-in_err-copy_all-clause-asked : goal.returns-in_err-copy_all-clause-asked
returns-in_err-copy_all-clause-asked g c = omega (arith, c.in_err-copy_all.ensures.asks.asked)

pub returns-in_err-copy_all-clause-sectors : goal.returns-in_err-copy_all-clause-sectors
returns-in_err-copy_all-clause-sectors g c = omega (arith, c.in_err-copy_all.ensures.asks.written)

pub returns-in_err-set_all-clause-asked : goal.returns-in_err-set_all-clause-asked
returns-in_err-set_all-clause-asked g c = omega (arith, c.in_ok-copy_all.ensures.asks.asked, c.in_err-set_all.ensures.asks.asked)

pub returns-in_err-set_all-clause-sectors : goal.returns-in_err-set_all-clause-sectors
returns-in_err-set_all-clause-sectors g c = omega (arith, c.in_ok-copy_all.ensures.asks.written, c.in_err-set_all.ensures.asks.written)

pub returns-clause-asked : goal.returns-clause-asked
returns-clause-asked g c = omega (arith, c.in_ok-copy_all.ensures.asks.asked, c.in_ok-set_all.ensures.asks.asked, c.sync_touched.ensures.spends.costs.asked)

pub returns-clause-sectors : goal.returns-clause-sectors
returns-clause-sectors g c = omega (arith, c.in_ok-copy_all.ensures.asks.written, c.in_ok-set_all.ensures.asks.written, c.sync_touched.ensures.spends.costs.written)

pub returns-clause-unfailed : goal.returns-clause-unfailed
returns-clause-unfailed g c =
    on_ok_weaker c.sync_touched.result (λ same. same ∙ c.in_ok-set_all.ensures.unfailed ∙ c.in_ok-copy_all.ensures.unfailed) c.sync_touched.ensures.unfailed
