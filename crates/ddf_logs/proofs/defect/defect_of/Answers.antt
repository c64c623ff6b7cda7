use Rattle.std.proofs.Common.{◌≡◌, Some, arith, rules}
use Rattle.std.proofs.lemmas.Grind.{common_steps}
use Rattle.ddf_copy.specs.Copies.{newest_of_copies, standing_copy}
use Rattle.ddf_logs.proofs.Rooms.{small_places}
use Rattle.ddf_logs.proofs.defect.defect_of.Goals as goal

pub defect_in-requires-clause-primary : goal.defect_in-requires-clause-primary
defect_in-requires-clause-primary c =
    let stands : standing_copy (newest_of_copies c.args.copies.now) ≡ Some c.in-Some.copy.now = first_of (search rules, grind (arith, common_steps)) in
    (small_places c.args.last c.args.anchor.now c.args.copies.now c.in-Some.copy.now c.requires.small c.requires.under stands).0

pub defect_in-requires-clause-secondary : goal.defect_in-requires-clause-secondary
defect_in-requires-clause-secondary c =
    let stands : standing_copy (newest_of_copies c.args.copies.now) ≡ Some c.in-Some.copy.now = first_of (search rules, grind (arith, common_steps)) in
    (small_places c.args.last c.args.anchor.now c.args.copies.now c.in-Some.copy.now c.requires.small c.requires.under stands).1
