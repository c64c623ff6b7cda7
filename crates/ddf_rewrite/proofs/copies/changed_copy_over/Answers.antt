use Rattle.std.proofs.Common.{◌≡◌, ◌∙◌, IfOk, true, List, filter_map, ap, sym, subst}
use Rattle.std.proofs.lemmas.Result.{IfOk-weaker}
use Rattle.ddf_tables.specs.declared.disks.DiskEntry.{DiskEntry}
use Rattle.ddf_tables.specs.declared.disks.DiskRow.{DiskRow}
use Rattle.ddf_copy.specs.declared.copy.DiskCopy.{DiskCopy}
use Rattle.ddf_copy.specs.Written.{CanBeCopy}
use Rattle.ddf_view.specs.View.{disk_of, view_of}
use Rattle.ddf_rewrite.specs.Before.{before}
use Rattle.ddf_rewrite.specs.Copies.{changed_copy, changed_holdings, copy_after}
use Rattle.ddf_rewrite.specs.Disks.{changed_disks}
use Rattle.ddf_rewrite.specs.Hold.{CanWrite}
use Rattle.ddf_rewrite.specs.Notes.{Holding}
use Rattle.ddf_rewrite.proofs.Premises.{can_hold_spare}
use Rattle.ddf_rewrite.proofs.Roomy.{room_from_none, roomy_change_can, write_can}
use Rattle.ddf_rewrite.proofs.copies.changed_copy_over.Goals as goal

pub copy_after-requires-clause-spare : goal.copy_after-requires-clause-spare
copy_after-requires-clause-spare c =
    let old = c.args.old.now in
    let config = c.args.config.now in
    can_hold_spare old config c.requires.old (room_from_none old (before c.args.leaders.now) config c.args.timestamp c.requires.old c.requires.room).entries

pub copy_after-requires-clause-all : goal.copy_after-requires-clause-all
copy_after-requires-clause-all c = c.deref-4.ensures.value ∙ c.in_ok-all.ensures

pub returns-clause-exact : goal.returns-clause-exact
unfolding changed_copy view_of
returns-clause-exact c =
    let old = c.args.old.now in
    let config = c.args.config.now in
    let time = c.args.timestamp in
    let leaders = before c.args.leaders.now in
    let holdings : c.deref-3.result.now ≡ changed_holdings old leaders config time = c.deref-3.ensures.value ∙ c.in_ok-holdings.ensures.exact in
    let disks : c.in_ok-entries.entries.items ≡ changed_disks config leaders.disks old.header.revision (view_of old).disks =
    c.in_ok-entries.ensures ∙ ap (λ (leading : List DiskEntry). changed_disks config leading old.header.revision (filter_map disk_of c.rows.result.now)) c.disk_rows.ensures
    ∙ ap (λ (own : List DiskRow). changed_disks config leaders.disks old.header.revision (filter_map disk_of own)) c.rows.ensures in
    let made : copy_after old true config time c.in_ok-entries.entries.items c.deref-3.result.now ≡ changed_copy old leaders config time =
    ap (λ (entries : List DiskEntry). copy_after old true config time entries c.deref-3.result.now) disks
    ∙ ap (λ (all : List Holding). copy_after old true config time (changed_disks config leaders.disks old.header.revision (view_of old).disks) all) holdings in
    subst (λ (x : DiskCopy). IfOk c.copy_after.result (λ copy. copy ≡ x)) made c.copy_after.ensures

pub returns-clause-numbers : goal.returns-clause-numbers
returns-clause-numbers c =
    let old = c.args.old.now in
    let config = c.args.config.now in
    let time = c.args.timestamp in
    let leaders = before c.args.leaders.now in
    IfOk-weaker c.copy_after.result (λ copy. copy ≡ changed_copy old leaders config time) (λ copy. CanWrite old leaders config time)
    (λ copy is. write_can old leaders config time c.requires.old c.requires.holdable c.requires.leaders c.ranges.timestamp.fits c.in_ok-holdings.ensures.sizes c.requires.room) (returns-clause-exact c)

pub returns-clause-writable : goal.returns-clause-writable
returns-clause-writable c =
    let old = c.args.old.now in
    let config = c.args.config.now in
    let time = c.args.timestamp in
    let leaders = before c.args.leaders.now in
    IfOk-weaker c.copy_after.result (λ copy. copy ≡ changed_copy old leaders config time) CanBeCopy
    (λ copy is. subst CanBeCopy (sym is)
    (roomy_change_can old leaders config time c.requires.old c.requires.holdable c.requires.leaders c.ranges.timestamp.fits c.in_ok-holdings.ensures.sizes c.requires.room)) (returns-clause-exact c)
