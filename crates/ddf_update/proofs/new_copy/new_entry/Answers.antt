use Rattle.std.proofs.Common.{refl, arith}
use Rattle.ddf_update.specs.NewCopies.{named_entry}
use Rattle.ddf_update.proofs.NewNumbers.{few_rows}
use Rattle.ddf_update.proofs.new_copy.new_entry.Goals as goal

pub disk_guid-requires : goal.disk_guid-requires
disk_guid-requires c = omega (arith, c.requires.within, few_rows c.args.layout)

pub reference_at-requires : goal.reference_at-requires
reference_at-requires c = omega (arith, c.requires.within, few_rows c.args.layout)

pub returns : goal.returns
returns c = rw (c.disk_guid.ensures, c.reference_at.ensures, c.workspace_back.ensures, c.entry_rest.ensures (named_entry c.args.layout c.args.revision c.args.stamp.now c.args.place c.args.size)) refl
