use Rattle.std.proofs.Common.{rules, ◌≡◌, ◌∙◌, ◌+◌, ◌++◌, ℕ, List, length, ap, sym}
use Rattle.ddf_tables.specs.declared.arrays.ArrayRow.{ArrayRow}
use Rattle.ddf_tables.specs.declared.disks.DiskRow.{DiskRow}
use Rattle.ddf_joining.specs.Joining.{full_of_entries}
use Rattle.ddf_joining.specs.Telling.{SideValue, disk_rows_told}
use Rattle.ddf_rewrite.specs.Before.{before}
use Rattle.ddf_seats.specs.Seated.{views_in}
use Rattle.ddf_joining.proofs.Telling.{arrays_counted, rows_counted}
use Rattle.ddf_joining.proofs.sides.step_of_both.Goals as goal

pub step_told-requires-clause-few : goal.step_told-requires-clause-few
step_told-requires-clause-few c =
    let native = c.args.native.now in
    let other = c.args.other.now in
    let many : c.len.result ≡ length c.in_ok-rows.rows.items = search rules in
    let many_arrays : c.len-2.result ≡ length c.in_ok-arrays.arrays.items = search rules in
    let rows : c.len.result ≡ length (before (views_in native.leaders)).disks + length (before (views_in other.leaders)).disks =
    many ∙ ap (λ (all : List DiskRow). length all) c.in_ok-rows.ensures
    ∙ ap (λ (side : SideValue). length (disk_rows_told side.leaders ++ disk_rows_told c.other.inside.leaders.now)) c.native.view_is
    ∙ ap (λ (side : SideValue). length (disk_rows_told native.leaders ++ disk_rows_told side.leaders)) c.other.view_is
    ∙ rows_counted native.leaders other.leaders in
    let arrays : c.len-2.result ≡ length native.config.arrays + length other.config.arrays =
    many_arrays ∙ ap (λ (all : List ArrayRow). length all) c.in_ok-arrays.ensures ∙ arrays_counted native.config other.config in
    sym (ap (λ (n : ℕ). full_of_entries n c.len-2.result) rows ∙ ap (λ (n : ℕ). full_of_entries (length (before (views_in native.leaders)).disks + length (before (views_in other.leaders)).disks) n) arrays)
    ∙ sym c.full_of_entries-full.ensures ∙ c.in_default.is
