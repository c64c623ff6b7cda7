use Rattle.std.proofs.Common.{◌≡◌, ◌-◌, ℕ, Ok, refl, subst, sym, arith, ⊎_elim}
use Rattle.std.specs.Prelude.{IfOk, slice_index}
use Rattle.ddf_bay.specs.State.{on_slot}
use Rattle.ddf_bay.proofs.Looks.{looks_then, reads_then}
use Rattle.ddf_copy.specs.declared.copies.Copies.{Copies}
use Rattle.ddf_copy.specs.Anchor.{anchor_at}
use Rattle.ddf_copy.specs.Copies.{copies_of}
use Rattle.ddf_copy.specs.Faults.{show_failed}
use Rattle.ddf_logs.specs.Defects.{TellsDefect}
use Rattle.ddf_logs.proofs.Defects.{anchored_ok, empty_told}
use Rattle.ddf_logs.proofs.defect.defect_at.Goals as goal

pub returns-then-size-eq0-clause-defect : goal.returns-then-size-eq0-clause-defect
returns-then-size-eq0-clause-defect g c = λ tells.
    let none : slice_index (g.B.Bay.disks c.args.bay.now).sizes c.args.slot ≡ 0 = omega (arith, c.if-size-eq0.true, c.size.ensures.size) in
    empty_told (slice_index (g.B.Bay.disks c.args.bay.now).sizes c.args.slot) ((g.B.Bay.disks c.args.bay.now).held c.args.slot) none

pub returns-in-Ok-clause-defect : goal.returns-in-Ok-clause-defect
returns-in-Ok-clause-defect g c = λ tells.
    let size = slice_index (g.B.Bay.disks c.args.bay.now).sizes c.args.slot in
    let sector = (g.B.Bay.disks c.args.bay.now).held c.args.slot in
    let next = g.B.Bay.disks c.anchor_of.new.bay in
    let anchor = c.in-Ok.anchor in
    let anchored : Ok anchor ≡ anchor_at size sector = ⊎_elim (λ is. is) (λ fault. absurd cc) (c.in-Ok.ensures.anchor tells) in
    let sized : slice_index next.sizes c.args.slot - 1 ≡ size - 1 = rw c.anchor_of.ensures.reads.same_sizes refl in
    let same : on_slot copies_of next c.args.slot anchor ≡ copies_of size sector anchor = rw (c.anchor_of.ensures.reads.same_sizes, c.anchor_of.ensures.reads.same_held) refl in
    anchored_ok size sector anchor (sym anchored) c.defect_under.result
    (subst (λ (copies : Copies). IfOk c.defect_under.result (TellsDefect (size - 1) anchor copies)) same
    (subst (λ (last : ℕ). IfOk c.defect_under.result (TellsDefect last anchor (on_slot copies_of next c.args.slot anchor))) sized (c.defect_under.ensures.defect tells)))

pub returns-in-Ok-clause-reads : goal.returns-in-Ok-clause-reads
returns-in-Ok-clause-reads g c = reads_then c.in-Ok.ensures.reads c.defect_under.ensures.reads

pub returns-in-Ok-clause-look : goal.returns-in-Ok-clause-look
returns-in-Ok-clause-look g c = looks_then c.args.slot (show_failed c.defect_under.result) c.in-Ok.ensures.look c.defect_under.ensures.look

pub returns-in-Ok-clause-calls : goal.returns-in-Ok-clause-calls
returns-in-Ok-clause-calls g c = let more = c.defect_under.ensures.calls in let before = c.in-Ok.ensures.calls in omega (arith, more, before)
