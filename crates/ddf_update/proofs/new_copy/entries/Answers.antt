use Rattle.std.proofs.Common.{◌≡◌, ◌++◌, [], ◌∷◌, ◌<◌, length, get_or, sym, ap, ◌∙◌, arith}
use Rattle.ddf_update.specs.NewCopies.{new_entry}
use Rattle.ddf_update.proofs.NewRows.{entries_more}
use Rattle.ddf_update.proofs.new_copy.entries.Goals as goal

pub loop-place-preserved : goal.loop-place-preserved
loop-place-preserved c =
    let place = c.loop-place.place in
    let sizes = c.args.sizes.now in
    let pushed : c.push.new.self.items ≡ c.loop-place.rows.items ++ c.new_entry.result ∷ [] = c.in_ok-push.ensures.items in
    let within : place < length sizes = omega arith in
    let more = entries_more c.args.layout c.args.revision c.args.stamp.now 0 sizes place place within (omega arith) in
    pushed ∙ ap (λ row. c.loop-place.rows.items ++ row ∷ []) c.new_entry.ensures ∙ ap (λ rows. rows ++ new_entry c.args.layout c.args.revision c.args.stamp.now place (get_or sizes place 0) ∷ []) c.loop-place.invariant ∙ sym more
