use Rattle.std.proofs.Common.{◌≡◌, ◌∙◌, inl, inr, false, sym, subst, arith}
use Rattle.std.proofs.lemmas.Result.{IfErr-weaker, on_ok_weaker}
use Rattle.ddf_array.specs.Within.{is_redundant}
use Rattle.ddf_bay.specs.Sectors.{Image}
use Rattle.ddf_read.specs.Reading.{Failed}
use Rattle.ddf_read.proofs.OnlyReading.{only_reads_start}
use Rattle.ddf_resync.specs.Resyncing.{HasResynced}
use Rattle.ddf_resync.proofs.Differing.{clean_resynced, differed_behind, fault_behind, goes_behind, goes_read, held_behind, held_read, left_behind, left_read, moments_behind, moments_read, resynced_behind, settled_read}
use Rattle.ddf_resync.proofs.Resynced.{not_refused, plain_resynced}
use Rattle.ddf_resync.proofs.resyncing.resync_differing.Goals as goal

-- it is refused, or not redundant by its level
pub returns-in-Some-clause-agreed : goal.returns-in-Some-clause-agreed
returns-in-Some-clause-agreed g c = λ tells. inl (only_reads_start (g.B.Bay.disks c.args.bay.now))

pub returns-then-not-redundant-clause-resynced : goal.returns-then-not-redundant-clause-resynced
returns-then-not-redundant-clause-resynced g c = λ tells.
    let v = c.args.view.now in
    let old = g.B.Bay.disks c.args.bay.now in
    let is = not_refused v (sym c.in_default.ensures.value) in
    let plain : is_redundant v ≡ false = sym c.if-not-redundant.ensures in
    plain_resynced v c.resync_refusal.ensures.sound plain c.requires.apart is.1 (Failed old old) old.held

pub returns-then-not-redundant-clause-agreed : goal.returns-then-not-redundant-clause-agreed
returns-then-not-redundant-clause-agreed g c = λ tells. inl (only_reads_start (g.B.Bay.disks c.args.bay.now))

pub is_clean-requires-clause-within : goal.is_clean-requires-clause-within
is_clean-requires-clause-within g c = (not_refused c.args.view.now (sym c.in_default.ensures.value)).0

-- nothing differs
pub returns-then-is_clean-clause-any_moment : goal.returns-then-is_clean-clause-any_moment
returns-then-is_clean-clause-any_moment g c = moments_read c.args.view.now g.B.Bay.tells c.is_clean.ensures.reads

pub returns-then-is_clean-clause-left : goal.returns-then-is_clean-clause-left
returns-then-is_clean-clause-left g c = left_read c.args.view.now g.B.Bay.tells c.is_clean.ensures.reads

pub returns-then-is_clean-clause-held : goal.returns-then-is_clean-clause-held
returns-then-is_clean-clause-held g c = λ tells. held_read c.args.view.now g.B.Bay.tells c.is_clean.ensures.reads

pub returns-then-is_clean-clause-resynced : goal.returns-then-is_clean-clause-resynced
returns-then-is_clean-clause-resynced g c = λ tells.
    let v = c.args.view.now in
    let old = g.B.Bay.disks c.args.bay.now in
    let new = g.B.Bay.disks c.is_clean.new.bay in
    subst (λ (image : Image). HasResynced (Failed old new) v old.held image) (sym c.is_clean.ensures.reads.reads.same_held)
    (clean_resynced v c.resync_refusal.ensures.sound old.held (c.is_clean.ensures.yes tells c.if-is_clean.true) (Failed old new))

pub returns-then-is_clean-clause-settled : goal.returns-then-is_clean-clause-settled
returns-then-is_clean-clause-settled g c = λ tells. settled_read c.args.view.now g.B.Bay.tells c.is_clean.ensures.reads

pub returns-then-is_clean-clause-goes : goal.returns-then-is_clean-clause-goes
returns-then-is_clean-clause-goes g c = goes_read c.args.view.now g.B.Bay.tells c.is_clean.ensures.reads

pub returns-then-is_clean-clause-asked : goal.returns-then-is_clean-clause-asked
returns-then-is_clean-clause-asked g c = omega (arith, c.is_clean.ensures.reads.reads.none_asked)

pub returns-then-is_clean-clause-sectors : goal.returns-then-is_clean-clause-sectors
returns-then-is_clean-clause-sectors g c = omega (arith, c.is_clean.ensures.reads.reads.none_written)

pub returns-then-is_clean-clause-agreed : goal.returns-then-is_clean-clause-agreed
returns-then-is_clean-clause-agreed g c = λ tells. inl c.is_clean.ensures.reads

-- it is resynced
pub resync-requires-clause-fits : goal.resync-requires-clause-fits
resync-requires-clause-fits g c = rw c.is_clean.ensures.reads.reads.same_sizes c.requires.fits

pub returns-clause-any_moment : goal.returns-clause-any_moment
returns-clause-any_moment g c = moments_behind c.args.view.now g.B.Bay.tells c.is_clean.ensures.reads (g.B.Bay.disks c.resync.new.bay) c.resync.ensures.any_moment

pub returns-clause-left : goal.returns-clause-left
returns-clause-left g c = left_behind c.args.view.now g.B.Bay.tells c.is_clean.ensures.reads (g.B.Bay.disks c.resync.new.bay) c.resync.ensures.left

pub returns-clause-held : goal.returns-clause-held
returns-clause-held g c = λ tells. held_behind c.args.view.now g.B.Bay.tells c.is_clean.ensures.reads (g.B.Bay.disks c.resync.new.bay) (c.resync.ensures.held tells)

pub returns-clause-resynced : goal.returns-clause-resynced
returns-clause-resynced g c = λ tells.
    on_ok_weaker c.resync.result (λ is. resynced_behind c.args.view.now g.B.Bay.tells c.is_clean.ensures.reads (g.B.Bay.disks c.resync.new.bay) is) (c.resync.ensures.resynced tells)

pub returns-clause-settled : goal.returns-clause-settled
returns-clause-settled g c = λ tells.
    on_ok_weaker c.resync.result (λ stay slot settled. stay slot (settled_read c.args.view.now g.B.Bay.tells c.is_clean.ensures.reads slot settled)) (c.resync.ensures.settled tells)

pub returns-clause-unfailed : goal.returns-clause-unfailed
returns-clause-unfailed g c = on_ok_weaker c.resync.result (λ same. same ∙ c.is_clean.ensures.reads.same_writes) c.resync.ensures.unfailed

pub returns-clause-fault : goal.returns-clause-fault
returns-clause-fault g c =
    IfErr-weaker c.resync.result _ _
    (λ fault is. fault_behind c.args.view.now g.B.Bay.tells c.is_clean.ensures.reads (g.B.Bay.disks c.resync.new.bay) (sym c.in_default.ensures.value) fault is) c.resync.ensures.fault

pub returns-clause-goes : goal.returns-clause-goes
returns-clause-goes g c = goes_behind c.args.view.now g.B.Bay.tells c.is_clean.ensures.reads (g.B.Bay.disks c.resync.new.bay) c.resync.ensures.goes

pub returns-clause-asked : goal.returns-clause-asked
returns-clause-asked g c = omega (arith, c.is_clean.ensures.reads.reads.none_asked, c.resync.ensures.asked)

pub returns-clause-sectors : goal.returns-clause-sectors
returns-clause-sectors g c = omega (arith, c.is_clean.ensures.reads.reads.none_written, c.resync.ensures.sectors)

pub returns-clause-agreed : goal.returns-clause-agreed
returns-clause-agreed g c = λ tells.
    inr (differed_behind c.args.view.now g.B.Bay.tells c.is_clean.ensures.reads (g.B.Bay.disks c.resync.new.bay) c.resync.ensures.goes (c.is_clean.ensures.no tells c.if-is_clean.false))
