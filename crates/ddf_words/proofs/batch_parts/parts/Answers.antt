use Rattle.std.proofs.Common.{◌≡◌, ◌∙◌, ◌++◌, ◌∷◌, [], List, length, take, string_bytes, sym, ap, arith}
use Rattle.std.proofs.lemmas.Grind.{common_steps}
use Rattle.std.proofs.lemmas.Iterator.Consumers.{YieldsList-turn, YieldsList-end}
use Rattle.std.proofs.lemmas.Iterator.Splits.{YieldsList-from_str_split}
use Rattle.std.proofs.lemmas.List.{length_push, map_push, take_all, take_more}
use Rattle.ddf_words.specs.Words.{Word, dashes, words_of}
use Rattle.ddf_words.specs.Lines.{parts_of}
use Rattle.ddf_words.proofs.batch_parts.parts.Goals as goal

pub loop-part-preserved : goal.loop-part-preserved
loop-part-preserved c =
    let turn = YieldsList-turn (YieldsList-from_str_split 0x20 c.args.line.now (omega arith) (cc) (cc) (cc)) c.loop-part.yielded _ c.loop-part.yielded_by _ _ c.in-Some.part c.in-Some.is c.next.ensures.steps in
    let parts = parts_of c.args.line.now in
    let copied : string_bytes c.in_ok-from_str-2.field-0 ≡ c.in-Some.part.now = c.in_ok-from_str-2.ensures.ok in
    let pushed : c.push-in-loop-part.new.self.items ≡ c.loop-part.words.items ++ c.in_ok-from_str-2.field-0 ∷ [] = grind (arith, common_steps) in
    let long = length_push c.loop-part.yielded c.in-Some.part in
    rw long record {
      can_next = tt;
      is_finite = tt;
      words = ap words_of pushed ∙ map_push string_bytes c.loop-part.words.items c.in_ok-from_str-2.field-0
          ∙ ap (λ (ws : List Word). ws ++ string_bytes c.in_ok-from_str-2.field-0 ∷ []) c.loop-part.invariant.words
          ∙ ap (λ (w : Word). dashes ∷ (take (length c.loop-part.yielded) parts ++ w ∷ [])) (copied ∙ turn.1)
          ∙ ap (λ (ws : List Word). dashes ∷ ws) (sym (take_more parts (length c.loop-part.yielded) c.in-Some.part.now turn.0));
    }

pub returns : goal.returns
returns c =
    let end = YieldsList-end (YieldsList-from_str_split 0x20 c.args.line.now (omega arith) (cc) (cc) (cc)) c.loop-part.yielded _ c.loop-part.yielded_by _ _ c.in-None.is c.next.ensures.steps in
    c.loop-part.invariant.words ∙ ap (λ (ws : List Word). dashes ∷ ws) (take_all (length c.loop-part.yielded) (parts_of c.args.line.now) (omega (arith, end.1)))
