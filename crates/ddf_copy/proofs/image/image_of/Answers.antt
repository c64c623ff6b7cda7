use Rattle.ddf_header.specs.Header.{IsHeaderOf}
use Rattle.ddf_copy.specs.Headers.{closed_header}
use Rattle.ddf_copy.specs.Which.{kind_of}
use Rattle.ddf_copy.proofs.Images.{image_stands}
use Rattle.ddf_copy.proofs.image.image_of.Goals as goal

pub returns-clause-whole : goal.returns-clause-whole
returns-clause-whole c = λ size sector anchor under holds.
    let copy = c.args.copy.now in
    let which = c.args.which in
    let is_header : IsHeaderOf (kind_of which) (closed_header copy which) c.encode-header.result =
    rw c.closed_header.ensures.value at (c.encode-header.ensures.made (kind_of which) (c.closed_header.ensures.writable c.requires)) in
    image_stands size sector anchor which copy c.encode-header.result c.in_ok-raw.raw c.in_ok-image.image.items
    (record { is_header = is_header; is_read = c.in_ok-raw.ensures.read; has_sizes = c.in_ok-raw.ensures.sizes; are_long = c.in_ok-image.ensures.long })
    c.in_ok-image.ensures.bytes
    under
    holds
