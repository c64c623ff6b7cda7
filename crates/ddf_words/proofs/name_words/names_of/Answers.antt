use Rattle.std.proofs.Common.{◌≡◌, ◌<◌, ◌++◌, ◌∷◌, ◌∙◌, [], length, take, string_bytes, sym, ap, arith}
use Rattle.std.proofs.lemmas.Bool.{eqb-true}
use Rattle.std.proofs.lemmas.Grind.{common_steps}
use Rattle.std.proofs.lemmas.List.{length-map, take_more}
use Rattle.ddf_words.specs.Words.{Word, words_of}
use Rattle.ddf_words.proofs.Lists.{word_at, fresh_words, words_fresh}
use Rattle.ddf_words.proofs.Names.{wanting_name, wrong_name, names_more}
use Rattle.ddf_words.proofs.name_words.names_of.Goals as goal

pub returns-then-not-is_name-clause-place : goal.returns-then-not-is_name-clause-place
returns-then-not-is_name-clause-place c = λ place e.
    let lt : c.loop-place.place < length (words_of c.args.words.now) = omega (arith, length-map c.args.words.now string_bytes) in
    let here = word_at c.args.words.now c.loop-place.place c.index-words-place.result (omega arith) ∙ ap string_bytes (sym c.index-words-place.is) in
    let same : c.loop-place.place ≡ place = cc in
    rw same at (wrong_name (words_of c.args.words.now) c.loop-place.place lt c.loop-place.invariant.are
    (λ name fresh. let yes = c.is_name.ensures.1 (rw here at name) in cc))

pub returns-then-not-is_fresh-clause-place : goal.returns-then-not-is_fresh-clause-place
returns-then-not-is_fresh-clause-place c = λ place e.
    let lt : c.loop-place.place < length (words_of c.args.words.now) = omega (arith, length-map c.args.words.now string_bytes) in
    let here = word_at c.args.words.now c.loop-place.place c.index-words-place.result (omega arith) ∙ ap string_bytes (sym c.index-words-place.is) in
    let same : c.loop-place.place ≡ place = cc in
    rw same at (wrong_name (words_of c.args.words.now) c.loop-place.place lt c.loop-place.invariant.are
    (λ name fresh.
    let yes = c.is_fresh.ensures.1 (words_fresh c.args.words.now c.loop-place.place c.index-words-place.result c.loop-place-test.true (λ k below e. fresh k below (e ∙ sym here))) in
    cc))

pub loop-place-preserved : goal.loop-place-preserved
loop-place-preserved c =
    let words = words_of c.args.words.now in
    let lt : c.loop-place.place < length (words_of c.args.words.now) = omega (arith, length-map c.args.words.now string_bytes) in
    let here = word_at c.args.words.now c.loop-place.place c.index-words-place.result (omega arith) ∙ ap string_bytes (sym c.index-words-place.is) in
    let pushed : c.push.new.self.items ≡ c.loop-place.names.items ++ c.in-Ok.name ∷ [] = grind (arith, common_steps) in
    record {
      names = rw (pushed, c.loop-place.invariant.names, take_more words c.loop-place.place [] lt)
          (ap (λ (w : Word). take c.loop-place.place words ++ w ∷ []) (c.in-Ok.ensures ∙ sym here));
      are = names_more words c.loop-place.place lt c.loop-place.invariant.are
          (rw here (c.is_name.ensures.0 c.if-not-is_name.false))
          (λ k below e. fresh_words c.args.words.now c.loop-place.place c.index-words-place.result c.loop-place-test.true (c.is_fresh.ensures.0 c.if-not-is_fresh.false) k below (e ∙ here));
    }

pub returns-then-is_empty-clause-place : goal.returns-then-is_empty-clause-place
returns-then-is_empty-clause-place c = λ place e.
    let same : 0 ≡ place = cc in
    rw same at (wanting_name (words_of c.args.words.now) (length-map c.args.words.now string_bytes ∙ eqb-true (length c.args.words.now) 0 (sym c.is_empty.ensures ∙ c.if-is_empty.true)))
