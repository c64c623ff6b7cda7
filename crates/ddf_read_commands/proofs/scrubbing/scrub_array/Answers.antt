use Rattle.std.proofs.Common.{Err, sym, subst}
use Rattle.std.proofs.lemmas.Result.{err_from_is_err_and}
use Rattle.ddf_array.proofs.Fits.{view_fits}
use Rattle.ddf_recovery.specs.Recovery.{trusted_seats}
use Rattle.ddf_recovery.proofs.Trusted.{trusted_fit}
use Rattle.ddf_answer.specs.declared.failure.Failure.{Failure}
use Rattle.ddf_answer.specs.Call.{work_of}
use Rattle.ddf_read_commands.specs.Scrub.{IsScrubOf}
use Rattle.ddf_read_commands.proofs.ComparedSlots.{compared_there}
use Rattle.ddf_read_commands.proofs.Scrubbed.{not_scrubbed, scrub_fault, was_scrubbed}
use Rattle.ddf_read_commands.proofs.scrubbing.scrub_array.Goals as goal

pub returns-in_err-view-clause-scrubbed : goal.returns-in_err-view-clause-scrubbed
returns-in_err-view-clause-scrubbed g c =
    let p = err_from_is_err_and c.from_residual.result c.from_residual.ensures.1 in
    let disks = g.B.Bay.disks c.args.bay.now in
    rw (p.1, p.2)
    (not_scrubbed (work_of g.B.Bay.tells disks disks) c.args.group.now.config (trusted_seats c.args.group.now) c.args.name.now _ c.in_err-view.ensures.may)

pub scrub-requires : goal.scrub-requires
scrub-requires g c =
    let sizes = (g.B.Bay.disks c.args.bay.now).sizes in
    view_fits c.args.group.now.config c.in_ok-view.field-0-0 (trusted_seats c.args.group.now) c.in_ok-view.view sizes c.in_ok-view.ensures.may.is_view (trusted_fit sizes c.args.group.now c.requires)

pub returns-in-Ok-clause-scrubbed : goal.returns-in-Ok-clause-scrubbed
returns-in-Ok-clause-scrubbed g c =
    let work = work_of g.B.Bay.tells (g.B.Bay.disks c.args.bay.now) (g.B.Bay.disks c.scrub.new.bay) in
    let used = c.in_ok-view.ensures.may in
    was_scrubbed work c.args.group.now.config (trusted_seats c.args.group.now) c.args.name.now (c.in_ok-view.field-0-0, c.in_ok-view.view) used c.in-Ok.found c.in-Ok.ensures.ok c.in-Ok.ensures.found

pub returns-clause-scrubbed : goal.returns-clause-scrubbed
returns-clause-scrubbed g c =
    let disks = g.B.Bay.disks c.args.bay.now in
    let work = work_of g.B.Bay.tells disks (g.B.Bay.disks c.scrub.new.bay) in
    let used = c.in_ok-view.ensures.may in
    let fits = view_fits c.args.group.now.config c.in_ok-view.field-0-0 (trusted_seats c.args.group.now) c.in_ok-view.view disks.sizes used.is_view (trusted_fit disks.sizes c.args.group.now c.requires) in
    subst (λ (failure : Failure). IsScrubOf work c.args.group.now.config (trusted_seats c.args.group.now) c.args.name.now (Err failure)) (sym c.failure_of.ensures)
    (scrub_fault work c.args.group.now.config (trusted_seats c.args.group.now) c.args.name.now (c.in_ok-view.field-0-0, c.in_ok-view.view) used
    (λ slot is. compared_there slot disks.sizes c.in_ok-view.view fits is.1.0) c.in-Err.fault c.in-Err.ensures.fault)
