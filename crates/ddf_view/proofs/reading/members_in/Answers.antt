use Rattle.std.proofs.Common.{◌≡◌, ◌∙◌, ℕ, IfOk, List, map, filter_map, ap, subst}
use Rattle.ddf_tables.specs.declared.arrays.ArrayEntry.{ArrayEntry}
use Rattle.ddf_tables.specs.declared.disks.DiskEntry.{DiskEntry}
use Rattle.ddf_config.specs.declared.member.Member.{Member}
use Rattle.ddf_view.specs.declared.spare_reading.ArraySpares.{ArraySpares}
use Rattle.ddf_view.specs.View.{disk_of}
use Rattle.ddf_view.specs.Reading.{arrays_in, disks_in, member_entry_in}
use Rattle.ddf_view.specs.Spares.{member_entry_among, spares_of}
use Rattle.ddf_view.proofs.Spares.{members_alike}
use Rattle.ddf_view.proofs.reading.members_in.Goals as goal

pub returns : goal.returns
returns c =
    let views = c.args.views.now in
    let all : c.deref.result.now ≡ map (spares_of views) (arrays_in views) =
    c.deref.ensures.value ∙ c.in_ok-all.ensures ∙ ap (λ (entries : List ArrayEntry). map (spares_of views) entries) c.array_rows.ensures in
    let made : map (member_entry_among c.deref.result.now) (filter_map disk_of c.disk_rows.result.now) ≡ map (member_entry_in views) (disks_in views) =
    ap (λ (disks : List DiskEntry). map (member_entry_among c.deref.result.now) disks) c.disk_rows.ensures
    ∙ ap (λ (spares : List ArraySpares). map (member_entry_among spares) (disks_in views)) all
    ∙ members_alike views (disks_in views) in
    subst (λ (entries : List (ℕ × Member)). IfOk c.members_among.result (λ members. members.entries ≡ entries)) made c.members_among.ensures
