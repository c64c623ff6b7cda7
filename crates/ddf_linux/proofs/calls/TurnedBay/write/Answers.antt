use Rattle.std.proofs.Common.{◌≡◌, ◌∷◌, []}
use Rattle.ddf_linux.specs.Kinds.{kind_at}
use Rattle.ddf_linux.proofs.Cuts.{pieces_one}
use Rattle.ddf_linux.proofs.calls.TurnedBay.write.Goals as goal

pub returns-clause-left : goal.returns-clause-left
returns-clause-left g c =
    let run : c.from_ref.result.now ≡ c.args.from.now ∷ [] = c.from_ref.ensures.value in
    rw run at c.write_run.ensures.left

pub returns-clause-inner : goal.returns-clause-inner
returns-clause-inner g c =
    let run : c.from_ref.result.now ≡ c.args.from.now ∷ [] = c.from_ref.ensures.value in
    let one = pieces_one (kind_at c.args.self.now.kinds c.args.slot) c.args.lba c.args.from.now in
    rw one at (rw run at c.write_run.ensures.inner)
