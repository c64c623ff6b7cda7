use Rattle.std.proofs.Common.{◌≡◌, ◌<◌, ◌∙◌, ◌++◌, ◌∷◌, [], length, string_bytes, sym, ap, Ok, arith}
use Rattle.std.proofs.lemmas.Bool.{eqb-true}
use Rattle.std.proofs.lemmas.List.{length-map}
use Rattle.std.proofs.lemmas.Grind.{common_steps}
use Rattle.ddf_words.specs.Words.{words_of}
use Rattle.ddf_words.proofs.Lists.{word_at}
use Rattle.ddf_words.proofs.Elements.{no_element, many_elements, elements_more, no_elements}
use Rattle.ddf_words.proofs.element_words.elements_of.Goals as goal

pub returns-then-place-ge-MOST_ELEMENTS-clause-place : goal.returns-then-place-ge-MOST_ELEMENTS-clause-place
returns-then-place-ge-MOST_ELEMENTS-clause-place c = λ place e.
    let lt : c.loop-place.place < length (words_of c.args.words.now) = omega (arith, length-map c.args.words.now string_bytes) in
    let same : c.loop-place.place ≡ place = cc in
    rw same at (many_elements (words_of c.args.words.now) c.loop-place.elements.items c.loop-place.place lt c.loop-place.invariant.spell (omega (arith, c.loop-place.invariant.few)))

pub returns-in-Ok-None-clause-place : goal.returns-in-Ok-None-clause-place
returns-in-Ok-None-clause-place c = λ place e.
    let lt : c.loop-place.place < length (words_of c.args.words.now) = omega (arith, length-map c.args.words.now string_bytes) in
    let here = word_at c.args.words.now c.loop-place.place c.index-words-place.result (omega arith) ∙ ap string_bytes (sym c.index-words-place.is) in
    let same : c.loop-place.place ≡ place = cc in
    rw same at (no_element (words_of c.args.words.now) c.loop-place.elements.items c.loop-place.place lt c.loop-place.invariant.spell (omega arith)
    (λ element spells. c.element_of.ensures.none (c.in-Ok-None.is ∙ ap Ok c.in-Ok-None.field-0-is) element (rw (here ∙ sym c.as_str.ensures.value) at spells)))

pub loop-place-preserved : goal.loop-place-preserved
loop-place-preserved c =
    let lt : c.loop-place.place < length (words_of c.args.words.now) = omega (arith, length-map c.args.words.now string_bytes) in
    let here = word_at c.args.words.now c.loop-place.place c.index-words-place.result (omega arith) ∙ ap string_bytes (sym c.index-words-place.is) in
    let pushed : c.push.new.self.items ≡ c.loop-place.elements.items ++ c.in-Ok-Some.element ∷ [] = grind (arith, common_steps) in
    let found = rw c.in-Ok-Some.field-0-is at c.in-Ok-Some.ensures.found in
    record {
      few = omega arith;
      spell = rw pushed (elements_more (words_of c.args.words.now) c.loop-place.elements.items c.loop-place.place lt c.loop-place.invariant.spell c.in-Ok-Some.element
          (rw (here ∙ sym c.as_str.ensures.value) found));
    }

pub returns-then-is_empty-clause-place : goal.returns-then-is_empty-clause-place
returns-then-is_empty-clause-place c = λ place e.
    let same : 0 ≡ place = cc in
    rw same at (no_elements (words_of c.args.words.now) (length-map c.args.words.now string_bytes ∙ eqb-true (length c.args.words.now) 0 (sym c.is_empty.ensures ∙ c.if-is_empty.true)))
