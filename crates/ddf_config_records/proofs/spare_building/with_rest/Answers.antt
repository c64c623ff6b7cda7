use Rattle.std.proofs.Common.{subst, length, ◌≡◌, List, ℕ, arith}
use Rattle.std.specs.List.{AllByRecursion}
use Rattle.ddf_config_records.specs.declared.layout.TheConstants.{SPARE_ENTRIES_AT}
use Rattle.ddf_config_records.proofs.Building.{entries_fit}
use Rattle.ddf_config_records.proofs.spare_building.with_rest.Goals as goal

pub returns-clause-fits : goal.returns-clause-fits
returns-clause-fits c =
    let guids = subst (λ (l : List (List ℕ)). AllByRecursion (λ guid. length guid ≡ 24) l) c.items.ensures c.guids_fit.ensures in
    (omega arith, (omega arith, entries_fit SPARE_ENTRIES_AT c.args.spare.arrays guids))
