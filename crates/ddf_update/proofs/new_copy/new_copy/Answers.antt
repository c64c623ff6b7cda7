use Rattle.std.proofs.Common.{◌≡◌, ◌<◌, ◌≤◌, ◌^◌, get_or, refl, ap, subst, arith}
use Rattle.ddf_tables.specs.Disks.{IsDiskTable}
use Rattle.ddf_tables.specs.Arrays.{IsArrayTable}
use Rattle.ddf_tables.specs.BadBlocks.{IsLog}
use Rattle.ddf_update.specs.declared.new_layout.Numbers.{Numbers}
use Rattle.ddf_update.specs.NewLayouts.{least_sectors, rows_of, slots_of}
use Rattle.ddf_update.proofs.NewNumbers.{few_rows, some_slots}
use Rattle.ddf_update.proofs.NewUnder.{AreMade, copy_is_under}
use Rattle.ddf_update.proofs.new_copy.new_copy.Goals as goal

pub new_disk_data-requires : goal.new_disk_data-requires
new_disk_data-requires c = omega (arith, c.requires.within, c.requires.few, few_rows c.args.layout)

pub new_slots-requires : goal.new_slots-requires
new_slots-requires c =
    let slots : c.numbers-numbers.result.slots ≡ slots_of c.args.layout = ap (λ (numbers : Numbers). numbers.slots) c.numbers-numbers.ensures.exact in
    omega (arith, c.from.ensures, slots, some_slots c.args.layout)

pub returns-clause-exact : goal.returns-clause-exact
returns-clause-exact c =
    rw (c.new_header.ensures, c.new_controller.ensures, c.in_ok-disks.ensures.exact, c.in_ok-arrays.ensures.exact, c.new.ensures, c.in_ok-slots.ensures, c.from.ensures, c.from-2.ensures, c.numbers-numbers.ensures.exact, c.new_disk_data.ensures, c.in_ok-log.ensures.exact) refl

pub returns-clause-whole : goal.returns-clause-whole
returns-clause-whole c =
    let layout = c.args.layout in
    let revision = c.args.revision in
    let stamp = c.args.stamp.now in
    let sizes = c.args.sizes.now in
    let place = c.args.place in
    let made : AreMade layout revision stamp sizes = record {
      disks_can = subst (IsDiskTable (rows_of layout)) c.in_ok-disks.ensures.exact c.in_ok-disks.ensures.writable;
      disks_size = rw c.in_ok-disks.ensures.exact at c.in_ok-disks.ensures.size;
      arrays_can = subst (IsArrayTable (rows_of layout)) c.in_ok-arrays.ensures.exact c.in_ok-arrays.ensures.writable;
      arrays_size = rw c.in_ok-arrays.ensures.exact at c.in_ok-arrays.ensures.size;
      log_can = subst IsLog c.in_ok-log.ensures.exact c.in_ok-log.ensures.writable;
      log_size = rw c.in_ok-log.ensures.exact at c.in_ok-log.ensures.size;
    } in
    let below : place < rows_of layout = omega (arith, c.requires.within, c.requires.few) in
    let large : least_sectors layout ≤ get_or sizes place 0 = c.requires.large place c.requires.within in
    let fits : get_or sizes place 0 < 2 ^ 64 = omega (arith, c.type_inv.sizes place) in
    rw (c.new_header.ensures, c.new_controller.ensures, c.in_ok-disks.ensures.exact, c.in_ok-arrays.ensures.exact, c.new.ensures, c.in_ok-slots.ensures, c.from.ensures, c.from-2.ensures, c.numbers-numbers.ensures.exact, c.new_disk_data.ensures, c.in_ok-log.ensures.exact)
    (copy_is_under layout revision stamp sizes place made below large fits)
