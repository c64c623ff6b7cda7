use Rattle.std.proofs.Common.{◌≡◌, ◌∙◌, ◌<◌, ◌++◌, ◌∷◌, [], List, get_or, length, take, string_bytes, sym, ap, arith}
use Rattle.std.proofs.lemmas.Grind.{common_steps}
use Rattle.std.proofs.lemmas.List.{get_or-map, length-map, map_push, take_more}
use Rattle.ddf_words.specs.Words.{Word, words_of}
use Rattle.ddf_words.proofs.batch_order.with_assemble.Goals as goal

pub loop-word-preserved : goal.loop-word-preserved
loop-word-preserved c =
    let words = words_of c.args.words.now in
    let place = c.loop-word.word-index in
    let lt : place < length words = omega (arith, length-map c.args.words.now string_bytes, c.loop-word-test.true) in
    let here : get_or words place [] ≡ string_bytes c.word-item.result = get_or-map string_bytes c.args.words.now place c.word-item.result [] c.loop-word-test.true ∙ ap string_bytes (sym c.word-item.is) in
    let cloned : string_bytes c.in_ok-clone.field-0 ≡ string_bytes c.word-item.result = c.in_ok-clone.ensures.cases in
    let pushed : c.push.new.self.items ≡ c.loop-word.twin.items ++ c.in_ok-clone.field-0 ∷ [] = grind (arith, common_steps) in
    ap words_of pushed ∙ map_push string_bytes c.loop-word.twin.items c.in_ok-clone.field-0 ∙ ap (λ (ws : List Word). ws ++ string_bytes c.in_ok-clone.field-0 ∷ []) c.loop-word.invariant
    ∙ ap (λ (w : Word). take place words ++ w ∷ []) (cloned ∙ sym here) ∙ sym (take_more words place [] lt)
