use Rattle.std.proofs.Common.{◌∙◌, ◌++◌, drop, length, replicate, List, ℕ, ap}
use Rattle.ddf_request.proofs.Names.{padded_is}
use Rattle.ddf_request.proofs.new_array.padded.Goals as goal

pub returns : goal.returns
returns c = ap (λ (first : List ℕ). first ++ drop (length c.args.name.now) (replicate 16 0x20)) c.copy_from_slice.ensures.after ∙ padded_is c.args.name.now c.requires
