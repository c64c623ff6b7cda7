use Rattle.std.proofs.Common.{◌<◌, ◌∙◌, ap, arith, rules}
use Rattle.ddf_header.specs.declared.geometry.Section.{Section}
use Rattle.ddf_header.specs.Geometry.{least_bytes}
use Rattle.ddf_bay.proofs.Looks.{looks_then, reads_then}
use Rattle.ddf_copy.proofs.raw.read_raw.Goals as goal

pub read_first-requires-clause-some : goal.read_first-requires-clause-some
read_first-requires-clause-some g c = (c.requires.sound.sections_good 0 c.section.result c.section.ensures.found).needed (omega arith)

pub read_first-requires-clause-fits : goal.read_first-requires-clause-fits
read_first-requires-clause-fits g c =
    let some : 0 < c.section.result.length = (c.requires.sound.sections_good 0 c.section.result c.section.ensures.found).needed (omega arith) in
    omega (arith, c.requires.some, c.requires.fit 0 c.section.result c.section.ensures.found some)

pub read_first-requires-2-clause-some : goal.read_first-requires-2-clause-some
read_first-requires-2-clause-some g c = (c.requires.sound.sections_good 4 c.section-4.result c.section-4.ensures.found).needed (omega arith)

pub read_first-requires-2-clause-fits : goal.read_first-requires-2-clause-fits
read_first-requires-2-clause-fits g c =
    let some : 0 < c.section-4.result.length = (c.requires.sound.sections_good 4 c.section-4.result c.section-4.ensures.found).needed (omega arith) in
    let sizes = c.read_section-3.ensures.reads.same_sizes ∙ c.read_section-2.ensures.reads.same_sizes ∙ c.read_section.ensures.reads.same_sizes ∙ c.read_first.ensures.reads.same_sizes in
    rw sizes (omega (arith, c.requires.some, c.requires.fit 4 c.section-4.result c.section-4.ensures.found some))

pub returns-in_err-bad_blocks-clause-reads : goal.returns-in_err-bad_blocks-clause-reads
returns-in_err-bad_blocks-clause-reads g c = reads_then (reads_then (reads_then (reads_then (reads_then c.read_first.ensures.reads c.read_section.ensures.reads) c.read_section-2.ensures.reads) c.read_section-3.ensures.reads) c.read_first-2.ensures.reads) c.read_section-4.ensures.reads

pub returns-clause-sizes : goal.returns-clause-sizes
unfolding least_bytes
returns-clause-sizes g c =
    let disks = c.requires.sound.sections_good 1 c.section-2.result c.section-2.ensures.found in
    let arrays = c.requires.sound.sections_good 2 c.section-3.result c.section-3.ensures.found in
    record {
      disks_size = c.in_ok-disks.ensures.length ∙ ap (λ (section : Section). section.length) c.section-2.ensures.value;
      arrays_size = c.in_ok-arrays.ensures.length ∙ ap (λ (section : Section). section.length) c.section-3.ensures.value;
      records_size = c.in_ok-records.ensures.length ∙ ap (λ (section : Section). section.length) c.whole_slots.ensures.value;
      bad_blocks_size = c.in_ok-bad_blocks.ensures.length ∙ ap (λ (section : Section). section.length) c.section-5.ensures.value;
      disks_hold = rw c.in_ok-disks.ensures.length (disks.long_enough (disks.needed (omega arith)));
      arrays_hold = rw c.in_ok-arrays.ensures.length (arrays.long_enough (arrays.needed (omega arith)));
    }

pub returns-in_err-records-clause-reads : goal.returns-in_err-records-clause-reads
returns-in_err-records-clause-reads g c = reads_then (reads_then (reads_then c.read_first.ensures.reads c.read_section.ensures.reads) c.read_section-2.ensures.reads) c.read_section-3.ensures.reads

pub returns-in_err-records-clause-look : goal.returns-in_err-records-clause-look
returns-in_err-records-clause-look g c = search (rules, looks_then c.args.slot _ (looks_then c.args.slot _ (looks_then c.args.slot _ c.in_ok-controller.ensures.look c.in_ok-disks.ensures.look) c.in_ok-arrays.ensures.look) c.in_err-records.ensures.look)

pub returns-in_err-disk_data-clause-reads : goal.returns-in_err-disk_data-clause-reads
returns-in_err-disk_data-clause-reads g c = reads_then (reads_then (reads_then (reads_then c.read_first.ensures.reads c.read_section.ensures.reads) c.read_section-2.ensures.reads) c.read_section-3.ensures.reads) c.read_first-2.ensures.reads

pub returns-in_err-disk_data-clause-look : goal.returns-in_err-disk_data-clause-look
returns-in_err-disk_data-clause-look g c = search (rules, looks_then c.args.slot _ (looks_then c.args.slot _ (looks_then c.args.slot _ (looks_then c.args.slot _ c.in_ok-controller.ensures.look c.in_ok-disks.ensures.look) c.in_ok-arrays.ensures.look) c.in_ok-records.ensures.look) c.in_err-disk_data.ensures.look)

pub returns-in_err-bad_blocks-clause-look : goal.returns-in_err-bad_blocks-clause-look
returns-in_err-bad_blocks-clause-look g c = search (rules, looks_then c.args.slot _ (looks_then c.args.slot _ (looks_then c.args.slot _ (looks_then c.args.slot _ (looks_then c.args.slot _ c.in_ok-controller.ensures.look c.in_ok-disks.ensures.look) c.in_ok-arrays.ensures.look) c.in_ok-records.ensures.look) c.in_ok-disk_data.ensures.look) c.in_err-bad_blocks.ensures.look)

pub returns-clause-reads : goal.returns-clause-reads
returns-clause-reads g c = reads_then (reads_then (reads_then (reads_then (reads_then c.read_first.ensures.reads c.read_section.ensures.reads) c.read_section-2.ensures.reads) c.read_section-3.ensures.reads) c.read_first-2.ensures.reads) c.read_section-4.ensures.reads

pub returns-clause-look : goal.returns-clause-look
returns-clause-look g c = looks_then c.args.slot _ (looks_then c.args.slot _ (looks_then c.args.slot _ (looks_then c.args.slot _ (looks_then c.args.slot _ c.in_ok-controller.ensures.look c.in_ok-disks.ensures.look) c.in_ok-arrays.ensures.look) c.in_ok-records.ensures.look) c.in_ok-disk_data.ensures.look) c.in_ok-bad_blocks.ensures.look

pub read_section-requires-4-clause-fits : goal.read_section-requires-4-clause-fits
read_section-requires-4-clause-fits g c = λ some.
    let sizes = c.read_first-2.ensures.reads.same_sizes ∙ c.read_section-3.ensures.reads.same_sizes ∙ c.read_section-2.ensures.reads.same_sizes ∙ c.read_section.ensures.reads.same_sizes ∙ c.read_first.ensures.reads.same_sizes in
    rw sizes (omega (arith, c.requires.some, c.requires.fit 5 c.section-5.result c.section-5.ensures.found some))
