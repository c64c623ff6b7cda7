use Rattle.std.proofs.Common.{◌∙◌, refl, sym, arith}
use Rattle.ddf_rebuild_command.proofs.BackMade.{here_at}
use Rattle.ddf_rebuild_command.proofs.Views.{few_elements}
use Rattle.ddf_rebuild_command.proofs.going_back.planned_back.Goals as goal

pub choose-requires : goal.choose-requires
choose-requires c = λ found there.
    let few = few_elements c.args.config.now c.args.guid c.args.seats.now c.args.view c.requires.viewed c.parts-parts.ensures.sound found there in
    omega (arith, few)

pub returns : goal.returns
returns c = record {
  is_chosen = sym c.in-Some.ensures;
  room = c.in_ok-room.room;
  is_room = c.in_ok-room.ensures;
  change_is = c.change_to.ensures.is;
  can_be_asked = c.change_to.ensures.fits;
  slot_is = c.slot_of.ensures;
  start_is = refl;
  small = λ floor at. c.small_floor-floor.ensures floor (c.floor_of.ensures ∙ at);
  is_view = c.requires.viewed;
  known = c.parts-parts.ensures.sound;
  is_here = here_at c.args.config.now c.args.guid c.args.seats.now c.args.view c.requires.viewed c.in-Some.target (sym c.in-Some.ensures);
}
