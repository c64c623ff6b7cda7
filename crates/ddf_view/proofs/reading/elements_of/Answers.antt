use Rattle.std.proofs.Common.{◌≡◌, ap, ◌∙◌, List, map}
use Rattle.std.specs.List.{range_with_len}
use Rattle.ddf_tables.specs.declared.disks.DiskEntry.{DiskEntry}
use Rattle.ddf_view.specs.Reading.{disks_in, element_in, elements_in}
use Rattle.ddf_view.proofs.Rebuilt.{made_on}
use Rattle.ddf_view.proofs.reading.elements_of.Goals as goal

pub loop-index-preserved : goal.loop-index-preserved
loop-index-preserved c =
    let element = element_in (disks_in c.args.views.now) (elements_in c.args.views.now) c.args.array.now in
    let is : c.element_in.result ≡ element c.loop-index.index =
    c.element_in.ensures ∙ ap (λ (disks : List DiskEntry). element_in disks (elements_in c.args.views.now) c.args.array.now c.loop-index.index) c.disk_rows-rows.ensures in
    rw (c.in_ok-push.ensures.items, is)
    (made_on element c.loop-index.elements.items (map element (range_with_len 0 c.count_in-count.result)) c.loop-index.index c.count_in-count.result c.loop-index-test.true c.loop-index.invariant)
