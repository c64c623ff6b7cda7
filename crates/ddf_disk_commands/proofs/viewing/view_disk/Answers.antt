use Rattle.std.proofs.Common.{◌≡◌, ◌∙◌, Ok, ap, refl, rules, ⊎_elim}
use Rattle.std.specs.Prelude.{slice_index}
use Rattle.ddf_bay.proofs.Looks.{looks_then, reads_then}
use Rattle.ddf_copy.specs.Anchor.{anchor_at}
use Rattle.ddf_text.specs.declared.view.DiskView.TheVariants as views
use Rattle.ddf_disk_commands.specs.Disk.{anchored_view, disk_view, headers_view}
use Rattle.ddf_disk_commands.proofs.viewing.view_disk.Goals as goal

pub returns-in_err-headers-in-Ok-clause-reads : goal.returns-in_err-headers-in-Ok-clause-reads
returns-in_err-headers-in-Ok-clause-reads g c = reads_then c.in-Ok.ensures.reads c.view_headers.ensures.reads

pub returns-in_err-headers-in-Ok-clause-look : goal.returns-in_err-headers-in-Ok-clause-look
returns-in_err-headers-in-Ok-clause-look g c = search (rules, looks_then c.args.slot _ c.in-Ok.ensures.look c.in_err-headers-in-Ok.ensures.look)

pub returns-in_ok-headers-in-Ok-clause-view : goal.returns-in_ok-headers-in-Ok-clause-view
unfolding disk_view
returns-in_ok-headers-in-Ok-clause-view g c = λ tells.
    let size = slice_index (g.B.Bay.disks c.args.bay.now).sizes c.args.slot in
    let sector = (g.B.Bay.disks c.args.bay.now).held c.args.slot in
    let next = g.B.Bay.disks c.anchor_of.new.bay in
    let anchored : Ok c.in-Ok.anchor ≡ anchor_at size sector = ⊎_elim (λ is. is) (λ fault. absurd cc) (c.in-Ok.ensures.anchor tells) in
    let same : headers_view (slice_index next.sizes c.args.slot) (next.held c.args.slot) c.in-Ok.anchor ≡ headers_view size sector c.in-Ok.anchor =
    rw (c.anchor_of.ensures.reads.same_sizes, c.anchor_of.ensures.reads.same_held) refl in
    ap views.Headers (c.in_ok-headers-in-Ok.ensures.view tells ∙ same) ∙ ap (anchored_view size sector) anchored

pub returns-in_ok-headers-in-Ok-clause-reads : goal.returns-in_ok-headers-in-Ok-clause-reads
returns-in_ok-headers-in-Ok-clause-reads g c = reads_then c.in-Ok.ensures.reads c.view_headers.ensures.reads

pub returns-in_ok-headers-in-Ok-clause-look : goal.returns-in_ok-headers-in-Ok-clause-look
returns-in_ok-headers-in-Ok-clause-look g c = looks_then c.args.slot _ c.in-Ok.ensures.look c.in_ok-headers-in-Ok.ensures.look
