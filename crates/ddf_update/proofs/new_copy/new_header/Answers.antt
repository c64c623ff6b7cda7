use Rattle.std.proofs.Common.{refl}
use Rattle.ddf_update.specs.NewCopies.{named_header}
use Rattle.ddf_update.proofs.new_copy.new_header.Goals as goal

pub returns : goal.returns
returns c = rw (c.new_guid.ensures, c.timestamp.ensures, c.primary_back.ensures, c.secondary_back.ensures, c.new_geometry.ensures, c.header_rest.ensures (named_header c.args.layout c.args.revision c.args.stamp.now c.args.size)) refl
