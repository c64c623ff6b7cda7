use Rattle.std.proofs.Common.{ℕ, false, Option, ◌∙◌}
use Rattle.std.specs.Prelude.{◌==◌}
use Rattle.std.specs.Option.{option_map_or}
use Rattle.ddf_rewrite.specs.Placement.{slot_of}
use Rattle.ddf_rewrite.proofs.Stays.{any_of_mapped}
use Rattle.ddf_rewrite.proofs.placement.is_taken.Goals as goal

pub returns : goal.returns
returns c = λ group sequence all items h.
    c.is_among.ensures ∙ any_of_mapped (λ (place : Option ℕ). option_map_or (λ taken. taken == c.args.slot) place false) (slot_of group sequence all) c.args.standing.now items h
