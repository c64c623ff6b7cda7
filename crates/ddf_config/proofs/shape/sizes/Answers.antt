use Rattle.std.proofs.Common.{◌∙◌, ◌++◌, sym, ap, length, take, filter_map, option_to_list}
use Rattle.ddf_config.specs.Shapes.{part_size}
use Rattle.ddf_config.proofs.Entries.{filter_map_more}
use Rattle.ddf_config.proofs.shape.sizes.Goals as goal

pub loop-part-preserved : goal.loop-part-preserved
loop-part-preserved c =
    let parts = c.args.parts.now in
    let h = part_size (length parts) in
    let i = c.loop-part.part-index in
    let x = c.part-item.result in
    let e = c.in_ok-push_size.ensures in
    record {
      value =
          e.value ∙ ap (λ l. l ++ option_to_list (h x)) c.loop-part.invariant.value
          ∙ ap (λ y. filter_map h (take i parts) ++ option_to_list (h y)) c.part-item.is
          ∙ sym (filter_map_more h parts i x c.loop-part-test.true);
      small = e.small c.loop-part.invariant.small;
    }
