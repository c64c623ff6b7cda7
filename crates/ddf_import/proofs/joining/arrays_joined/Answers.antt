use Rattle.std.proofs.Common.{◌≡◌, List, ℕ, None, sym, subst}
use Rattle.std.specs.Map.{lookup}
use Rattle.std.specs.List.{AllByRecursion}
use Rattle.ddf_config.specs.declared.array.Array.{Array}
use Rattle.ddf_config.specs.Configuration.{Configuration}
use Rattle.ddf_config.specs.Members.{same_guid}
use Rattle.ddf_import.proofs.Apart.{arrays_fresh}
use Rattle.ddf_import.proofs.joining.arrays_joined.Goals as goal

pub arrays_among-requires-clause-fresh : goal.arrays_among-requires-clause-fresh
arrays_among-requires-clause-fresh c =
    subst (λ (joining : Configuration). AllByRecursion (λ (entry : List ℕ × Array). lookup (same_guid entry.0) c.config.inside.arrays.entries ≡ None) joining.arrays) (sym c.joining.view_is)
    (subst (λ (config : Configuration). AllByRecursion (λ (entry : List ℕ × Array). lookup (same_guid entry.0) config.arrays ≡ None) c.args.joining.now.arrays) (sym c.config.view_is)
    (arrays_fresh c.args.config.now c.args.joining.now c.requires.cause))
