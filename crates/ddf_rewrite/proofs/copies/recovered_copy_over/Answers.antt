use Rattle.std.proofs.Common.{◌≡◌, ◌∙◌, IfOk, Bool, List, filter_map, ap, subst}
use Rattle.ddf_tables.specs.declared.disks.DiskEntry.{DiskEntry}
use Rattle.ddf_tables.specs.declared.disks.DiskRow.{DiskRow}
use Rattle.ddf_copy.specs.declared.copy.DiskCopy.{DiskCopy}
use Rattle.ddf_view.specs.View.{disk_of, view_of}
use Rattle.ddf_rewrite.specs.Before.{before}
use Rattle.ddf_rewrite.specs.Copies.{copy_after, recovered_copy, recovered_holdings}
use Rattle.ddf_rewrite.specs.Disks.{recovered_disks}
use Rattle.ddf_rewrite.specs.Notes.{Holding}
use Rattle.ddf_rewrite.proofs.Premises.{can_hold_spare}
use Rattle.ddf_rewrite.proofs.copies.recovered_copy_over.Goals as goal

pub copy_after-requires-clause-spare : goal.copy_after-requires-clause-spare
copy_after-requires-clause-spare c = can_hold_spare c.args.old.now c.args.config.now c.requires.old c.requires.fits.entries_fit

pub copy_after-requires-clause-all : goal.copy_after-requires-clause-all
copy_after-requires-clause-all c = c.deref-3.ensures.value ∙ c.in_ok-all.ensures

pub returns : goal.returns
unfolding recovered_copy view_of
returns c =
    let old = c.args.old.now in
    let config = c.args.config.now in
    let time = c.args.timestamp in
    let leaders = before c.args.leaders.now in
    let holdings : c.deref-2.result.now ≡ recovered_holdings old leaders config = c.deref-2.ensures.value ∙ c.in_ok-holdings.ensures config (c.deref.ensures.value ∙ c.in_ok-all.ensures) in
    let disks : c.in_ok-entries.entries.items ≡ recovered_disks leaders.disks (view_of old).disks =
    c.in_ok-entries.ensures ∙ ap (λ (leading : List DiskEntry). recovered_disks leading (filter_map disk_of c.rows.result.now)) c.disk_rows.ensures
    ∙ ap (λ (own : List DiskRow). recovered_disks leaders.disks (filter_map disk_of own)) c.rows.ensures in
    let made : copy_after old c.are_noted.result config time c.in_ok-entries.entries.items c.deref-2.result.now ≡ recovered_copy old leaders config time =
    ap (λ (noted : Bool). copy_after old noted config time c.in_ok-entries.entries.items c.deref-2.result.now) c.are_noted.ensures
    ∙ ap (λ (entries : List DiskEntry). copy_after old leaders.noted config time entries c.deref-2.result.now) disks
    ∙ ap (λ (all : List Holding). copy_after old leaders.noted config time (recovered_disks leaders.disks (view_of old).disks) all) holdings in
    subst (λ (x : DiskCopy). IfOk c.copy_after.result (λ copy. copy ≡ x)) made c.copy_after.ensures
