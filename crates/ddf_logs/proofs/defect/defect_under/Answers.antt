use Rattle.std.proofs.Common.{◌≡◌, ℕ, ◌+◌, ◌-◌, subst, arith}
use Rattle.std.specs.Prelude.{slice_index}
use Rattle.ddf_copy.specs.Whole.{AreUnder}
use Rattle.ddf_logs.proofs.defect.defect_under.Goals as goal

pub defect_of-requires-clause-under : goal.defect_of-requires-clause-under
defect_of-requires-clause-under g c =
    let back : slice_index (g.B.Bay.disks c.args.bay.now).sizes c.args.slot ≡ c.size-last.result - 1 + 1 = omega (arith, c.requires.some, c.size-last.ensures.size) in
    subst (λ (n : ℕ). AreUnder n c.args.anchor.now c.in-Ok.copies) back (c.in-Ok.ensures.under c.requires.anchor)
