use Rattle.std.proofs.Common.{◌≡◌, ◌∙◌, ℕ, Bool, true, Option, length, sym, ap}
use Rattle.std.specs.Prelude.{nat_lt}
use Rattle.std.specs.List.{list_any}
use Rattle.ddf_config.specs.ElementValue.{ElementValue}
use Rattle.ddf_config.specs.Within.{has_enough_parts, is_mirrored, is_part_within}
use Rattle.ddf_array.specs.Viewing.{is_seated}
use Rattle.ddf_text.proofs.Counts.{some_pass}
use Rattle.ddf_text.proofs.standing.is_within.Goals as goal

pub returns-then-is_mirrored : goal.returns-then-is_mirrored
returns-then-is_mirrored c =
    let parts = c.items-parts.result.now in
    let within : Option ElementValue → Bool = is_part_within (is_seated c.args.seats.now) in
    let mirrored : is_mirrored c.args.array.now ≡ true = sym c.is_mirrored.ensures ∙ c.if-is_mirrored.true in
    ap (λ (n : ℕ). nat_lt n (length parts)) c.count_beyond-beyond.ensures ∙ some_pass within parts ∙ ap (list_any within) c.items-parts.ensures
    ∙ sym (ap (λ (b : Bool). has_enough_parts b within c.args.array.now.elements) mirrored)
