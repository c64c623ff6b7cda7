use Rattle.std.proofs.Common.{◌≢◌, ◌<◌, ◌∙◌, [], get_or, length, string_bytes, sym, ap, arith}
use Rattle.std.proofs.lemmas.List.{length-map, take_all}
use Rattle.ddf_words.specs.Words.{AreImages, words_of, dashes}
use Rattle.ddf_words.proofs.Lists.{word_at}
use Rattle.ddf_words.proofs.Grammar.{not_next, one_more, front_is, no_dashes_left}
use Rattle.ddf_words.proofs.words.image_count.Goals as goal

pub returns-then-not-is_image-clause-wrong : goal.returns-then-not-is_image-clause-wrong
returns-then-not-is_image-clause-wrong c =
    let long = length-map c.args.words.now string_bytes in
    let lt : c.loop-place.place < length (words_of c.args.words.now) = omega (arith, long, c.loop-place-test.true) in
    let here = word_at c.args.words.now c.loop-place.place c.index-words-place.result (omega arith) ∙ ap string_bytes (sym c.index-words-place.is) in
    let other : get_or (words_of c.args.words.now) c.loop-place.place [] ≢ dashes = λ e. let yes = c.is.ensures.1 (sym here ∙ e) in cc in
    not_next (words_of c.args.words.now) c.loop-place.place lt c.loop-place.invariant other (λ next. let yes = c.is_image.ensures.1 next in cc)

pub loop-place-preserved : goal.loop-place-preserved
loop-place-preserved c =
    let long = length-map c.args.words.now string_bytes in
    let lt : c.loop-place.place < length (words_of c.args.words.now) = omega (arith, long, c.loop-place-test.true) in
    let here = word_at c.args.words.now c.loop-place.place c.index-words-place.result (omega arith) ∙ ap string_bytes (sym c.index-words-place.is) in
    let other : get_or (words_of c.args.words.now) c.loop-place.place [] ≢ dashes = λ e. let yes = c.is.ensures.1 (sym here ∙ e) in cc in
    rw (← front_is (words_of c.args.words.now) c.loop-place.place lt c.loop-place.invariant other)
    (one_more (words_of c.args.words.now) c.loop-place.place lt c.loop-place.invariant other (c.is_image.ensures.0 c.if-not-is_image.false))

pub returns-clause-wrong : goal.returns-clause-wrong
returns-clause-wrong c =
    let long = length-map c.args.words.now string_bytes in
    let all : AreImages (words_of c.args.words.now) = rw (take_all c.loop-place.place (words_of c.args.words.now) (omega (arith, long, c.loop-place-test.false))) at c.loop-place.invariant in
    rw long at (no_dashes_left (words_of c.args.words.now) all)
