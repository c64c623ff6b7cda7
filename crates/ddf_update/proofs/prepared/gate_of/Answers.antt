use Rattle.ddf_copy.specs.Which.{kind_of}
use Rattle.ddf_update.proofs.prepared.gate_of.Goals as goal

pub returns : goal.returns
returns c = record {
  lba_is = c.place.ensures;
  opened_is = rw c.opened_header.ensures.value at (c.encode.ensures.made (kind_of c.args.which) (c.opened_header.ensures.writable c.requires));
  closed_is = rw c.closed_header.ensures.value at (c.encode-2.ensures.made (kind_of c.args.which) (c.closed_header.ensures.writable c.requires));
}
