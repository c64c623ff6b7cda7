use Rattle.std.proofs.Common.{◌≡◌, ◌∷◌, []}
use Rattle.ddf_hidden_logs.specs.Masks.{mask_of}
use Rattle.ddf_hidden_logs.proofs.Cuts.{pieces_one}
use Rattle.ddf_hidden_logs.proofs.calls.HiddenBay.write.Goals as goal

pub returns-clause-left : goal.returns-clause-left
returns-clause-left g c =
    let run : c.from_ref.result.now ≡ c.args.from.now ∷ [] = c.from_ref.ensures.value in
    rw run at c.write_run.ensures.left

pub returns-clause-inner : goal.returns-clause-inner
returns-clause-inner g c =
    let run : c.from_ref.result.now ≡ c.args.from.now ∷ [] = c.from_ref.ensures.value in
    let one = pieces_one (mask_of c.args.self.now.masks.items c.args.slot) c.args.lba c.args.from.now in
    rw one at (rw run at c.write_run.ensures.inner)
