use Rattle.std.proofs.Common.{◌≡◌, ◌∙◌, Bool, false, true, not, [], ◌∷◌, sym, ap}
use Rattle.ddf_config.specs.declared.refusal.Refusal.TheVariants.{Lost, Shape}
use Rattle.ddf_config.specs.Extents.{extents}
use Rattle.ddf_config.specs.Levels.{unserved_level}
use Rattle.ddf_config.specs.Refusals.{first_refusal, refuse_if}
use Rattle.ddf_config.specs.Unusable.{is_served_on, unusable}
use Rattle.ddf_config.specs.Within.{is_complete}
use Rattle.ddf_request.specs.FirstCauses.{is_useless}
use Rattle.ddf_request.proofs.FirstCauses.{first_of_two, levels_useless, none_of_both}
use Rattle.ddf_request.proofs.usable.useless.Goals as goal

pub returns-then-is_useless : goal.returns-then-is_useless
returns-then-is_useless c =
    let config = c.args.config.now in
    let guid = c.args.guid.now in
    let array = c.args.array.now in
    let ill : Bool = not (is_served_on config.members c.args.seats.now (extents config.arrays) array) in
    let found : c.in_ok-refusal.refusal ≡ unusable config.members c.args.seats.now (extents config.arrays) guid array =
    c.in_ok-refusal.ensures in
    let useless : is_useless (first_refusal (unserved_level guid array ∷ refuse_if ill Shape ∷ refuse_if (not (is_complete array)) Lost ∷ [])) ≡ true =
    sym (ap is_useless found) ∙ sym c.is_useless.ensures ∙ c.if-is_useless.true in
    found ∙ first_of_two (unserved_level guid array) (refuse_if ill Shape) (not (is_complete array)) useless

pub returns : goal.returns
returns c =
    let config = c.args.config.now in
    let guid = c.args.guid.now in
    let array = c.args.array.now in
    let ill : Bool = not (is_served_on config.members c.args.seats.now (extents config.arrays) array) in
    let found : c.in_ok-refusal.refusal ≡ unusable config.members c.args.seats.now (extents config.arrays) guid array =
    c.in_ok-refusal.ensures in
    let useful : is_useless (first_refusal (unserved_level guid array ∷ refuse_if ill Shape ∷ refuse_if (not (is_complete array)) Lost ∷ [])) ≡ false =
    sym (ap is_useless found) ∙ sym c.is_useless.ensures ∙ c.if-is_useless.false in
    none_of_both (unserved_level guid array) ill (not (is_complete array)) (levels_useless guid array.elements) useful
