use Rattle.std.proofs.Common.{◌≡◌, ◌∙◌, List, ap, refl}
use Rattle.ddf_tables.specs.declared.disks.DiskEntry.{DiskEntry}
use Rattle.ddf_view.specs.View.{view_of}
use Rattle.ddf_rewrite.specs.Copies.{slots_after}
use Rattle.ddf_rewrite.specs.Disks.{disks_for}
use Rattle.ddf_rewrite.proofs.copies.copy_after.Goals as goal

pub returns : goal.returns
unfolding view_of
returns c =
    let change = c.args.issue.now in
    let slots : c.new.result ≡ slots_after c.args.old.now c.args.noted change.config.now change.timestamp c.args.holdings.now = c.new.ensures ∙ c.in_ok-slots.ensures in
    let told : c.in_ok-told.told.items ≡ disks_for c.args.old.now.header.revision c.args.noted change.config.now c.args.entries.items =
    c.in_ok-told.ensures ∙ ap (λ (list : List DiskEntry). disks_for c.args.old.now.header.revision c.args.noted change.config.now list) c.deref.ensures.value in
    rw (c.header_after.ensures, c.in_ok-disks.ensures, told, c.in_ok-arrays.ensures, slots, c.in_ok-bad.ensures) refl
