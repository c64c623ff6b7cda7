use Rattle.std.proofs.Common.{◌∙◌, List, ap, sym, subst, map}
use Rattle.std.specs.Prelude.{All}
use Rattle.ddf_array.specs.declared.part.Part.{Part}
use Rattle.ddf_array.specs.Volume.{IsPart, size_of}
use Rattle.ddf_array.specs.Viewing.{parts_of}
use Rattle.ddf_array.proofs.Sizes.{tiers_sizes}
use Rattle.ddf_array.proofs.Parts.{is_view}
use Rattle.ddf_array.proofs.viewing.view_array.Goals as goal

pub of-requires : goal.of-requires
of-requires c =
    let array = c.args.array.now in
    let seats = c.args.seats.now in
    let tiers = c.in-Some-2.tiers in
    let parts = c.new.ensures ∙ c.in_ok-parts.ensures.value ∙ ap (parts_of seats) c.items.ensures in
    is_view c.is_marked.result tiers c.new.result c.elements.ensures.sound
    (tiers_sizes seats array tiers (sym c.in_ok-tiers.ensures ∙ c.in-Some-2.is) ∙ ap (map size_of) (sym parts))
    (subst (λ (l : List Part). All IsPart l) (sym c.new.ensures) c.in_ok-parts.ensures.sound)
