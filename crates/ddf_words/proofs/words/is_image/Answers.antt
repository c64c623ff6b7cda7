use Rattle.std.proofs.Common.{◌≡◌, ◌≢◌, ◌∙◌, [], get_or, string_bytes, sym, ap, arith}
use Rattle.std.proofs.lemmas.Grind.{common_steps}
use Rattle.ddf_words.specs.Words.{words_of}
use Rattle.ddf_words.proofs.Lists.{word_at, fresh_words, words_fresh}
use Rattle.ddf_words.proofs.words.is_image.Goals as goal

pub returns : goal.returns
returns c =
    let here : get_or (words_of c.args.words.now) c.args.place [] ≡ string_bytes c.index-words-place.result = word_at c.args.words.now c.args.place c.index-words-place.result c.requires ∙ ap string_bytes (sym c.index-words-place.is) in
    let named : string_bytes c.index-words-place.result ≢ [] = λ e. grind (arith, common_steps) in (
      λ yes. record {
        few = omega arith;
        named = λ e. named (sym here ∙ e);
        fresh = λ k below e. fresh_words c.args.words.now c.args.place c.index-words-place.result c.requires (c.is_fresh.ensures.0 yes) k below (e ∙ here);
      },
      λ next. c.is_fresh.ensures.1 (words_fresh c.args.words.now c.args.place c.index-words-place.result c.requires (λ k below e. next.fresh k below (e ∙ sym here))),
    )
