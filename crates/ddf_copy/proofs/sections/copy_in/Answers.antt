use Rattle.std.proofs.Common.{◌*◌, ◌∙◌, ap, ℕ, length}
use Rattle.ddf_header.specs.Geometry.{section_of}
use Rattle.ddf_copy.proofs.sections.copy_in.Goals as goal

pub returns-clause-writable : goal.returns-clause-writable
returns-clause-writable c = record {
  header_can = c.requires.writable;
  is_closed = c.requires.closed;
  controller_can = c.in_ok-controller.ensures.writable;
  disks_can = c.in_ok-disks.ensures.writable;
  disks_size = c.in_ok-disks.ensures.size ∙ ap (λ (n : ℕ). 512 * n) (ap length c.items.ensures ∙ c.requires.sizes.disks_size);
  arrays_can = c.in_ok-arrays.ensures.writable;
  arrays_size = c.in_ok-arrays.ensures.size ∙ ap (λ (n : ℕ). 512 * n) (ap length c.items-2.ensures ∙ c.requires.sizes.arrays_size);
  slots_can = c.in_ok-slots.ensures.writable;
  slots_fit = c.in_ok-slots.ensures.fits;
  slots_count = c.in_ok-slots.ensures.count;
  disk_data_can = c.in_ok-disk_data.ensures.writable;
  has_log = c.in_ok-bad.ensures.writable (section_of c.args.header.now.geometry 5) (ap length c.items-4.ensures ∙ c.requires.sizes.bad_blocks_size);
}
