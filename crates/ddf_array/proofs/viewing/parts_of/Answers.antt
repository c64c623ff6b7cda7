use Rattle.std.proofs.Common.{◌∙◌, ◌++◌, sym, ap, length, take, filter_map}
use Rattle.std.specs.Prelude.{option_to_list}
use Rattle.ddf_array.specs.Viewing.{known_part}
use Rattle.ddf_config.proofs.Entries.{filter_map_more}
use Rattle.ddf_array.proofs.viewing.parts_of.Goals as goal

pub loop-part-preserved : goal.loop-part-preserved
loop-part-preserved c =
    let parts = c.args.parts.now in
    let h = known_part c.args.seats.now (length parts) in
    let i = c.loop-part.part-index in
    let x = c.part-item.result in
    let e = c.in_ok-push_part.ensures in
    record {
      value =
          e.value ∙ ap (λ l. l ++ option_to_list (h x)) c.loop-part.invariant.value
          ∙ ap (λ y. filter_map h (take i parts) ++ option_to_list (h y)) c.part-item.is
          ∙ sym (filter_map_more h parts i x c.loop-part-test.true);
      sound = e.sound c.loop-part.invariant.sound;
    }
