use Rattle.std.proofs.Common.{◌≡◌, ◌∙◌, List, Some, ap, sym, subst, map, length, arith}
use Rattle.std.specs.Prelude.{All}
use Rattle.ddf_config.specs.ElementValue.{ElementValue}
use Rattle.ddf_config.specs.Shapes.{element_shape}
use Rattle.ddf_array.specs.declared.place.Place.{Place}
use Rattle.ddf_array.specs.Places.{Ends}
use Rattle.ddf_array.specs.Viewing.{place_of}
use Rattle.ddf_array.proofs.Parts.{is_part}
use Rattle.ddf_array.proofs.viewing.part_of.Goals as goal

pub returns-clause-sound : goal.returns-clause-sound
returns-clause-sound c =
    let e = c.element.inside in
    let element : ElementValue = record { level = e.level; qualifier = e.qualifier; strip = e.strip; blocks = e.blocks; stand_in = e.stand_in; positions = e.positions.items } in
    let shape = c.in-Some.shape in
    let made : element_shape c.args.elements element ≡ Some shape = subst (λ (x : ElementValue). element_shape c.args.elements x ≡ Some shape) (sym c.element.view_is) (sym c.in-Some.ensures.value) in
    let same = ap length c.as_slice.ensures.value in
    is_part c.args.seats.now c.args.elements element shape c.new.result made (omega (arith, same, c.as_slice.ensures.fits))
    (c.new.ensures ∙ c.in_ok-places.ensures.value ∙ ap (map (place_of c.args.seats.now e.blocks)) c.as_slice.ensures.value)
    (subst (λ (l : List Place). All (λ place. Ends place e.blocks) l) (sym c.new.ensures) c.in_ok-places.ensures.ends)
