use Rattle.std.proofs.Common.{◌≡◌, ◌<◌, ◌∙◌, ℕ, [], get_or, length, string_bytes, sym, ap, ◌++◌, ◌∷◌, List, arith}
use Rattle.std.proofs.lemmas.Bool.{eqb-true, eqb-false}
use Rattle.std.proofs.lemmas.List.{length-map}
use Rattle.std.proofs.lemmas.Grind.{common_steps}
use Rattle.std.specs.Prelude.{Contains}
use Rattle.ddf_words.specs.Words.{words_of}
use Rattle.ddf_words.proofs.Lists.{word_at}
use Rattle.ddf_words.proofs.Grammar.{no_slot, slot_again, one_slot_more}
use Rattle.ddf_words.proofs.slot_words.slots_of.Goals as goal

pub returns-in_default-clause-place : goal.returns-in_default-clause-place
returns-in_default-clause-place c = λ place e.
    let lt : c.loop-place.place < length (words_of c.args.words.now) = omega (arith, length-map c.args.words.now string_bytes) in
    let here = word_at c.args.words.now c.loop-place.place c.index-words-place.result (omega arith) ∙ ap string_bytes (sym c.index-words-place.is) in
    let same : c.loop-place.place ≡ place = cc in
    rw same at (no_slot (words_of c.args.words.now) c.loop-place.slots.items c.loop-place.place lt c.loop-place.invariant
    (λ slot small is. let some = c.byte_of.ensures.every slot (record { spelled = c.as_str.ensures.value ∙ sym here ∙ is; within = small }) in cc))

pub returns-then-contains-clause-place : goal.returns-then-contains-clause-place
returns-then-contains-clause-place c = λ place e.
    let lt : c.loop-place.place < length (words_of c.args.words.now) = omega (arith, length-map c.args.words.now string_bytes) in
    let here = word_at c.args.words.now c.loop-place.place c.index-words-place.result (omega arith) ∙ ap string_bytes (sym c.index-words-place.is) in
    let same : c.loop-place.place ≡ place = cc in
    let named = c.in-Some.ensures.found in
    let k = c.if-contains.ensures.cases in
    let again : Contains c.loop-place.slots.items c.in-Some.slot =
    (k.0, omega (arith, c.deref.ensures.len, k.1), ap (λ (slots : List ℕ). get_or slots k.0 c.in-Some.slot) (sym c.deref.ensures.value) ∙ eqb-true _ _ (k.2 c.in-Some.slot)) in
    rw same at (slot_again (words_of c.args.words.now) c.loop-place.slots.items c.loop-place.place lt c.loop-place.invariant c.in-Some.slot named.within (here ∙ sym c.as_str.ensures.value ∙ named.spelled) again)

pub loop-place-preserved : goal.loop-place-preserved
loop-place-preserved c =
    let lt : c.loop-place.place < length (words_of c.args.words.now) = omega (arith, length-map c.args.words.now string_bytes) in
    let here = word_at c.args.words.now c.loop-place.place c.index-words-place.result (omega arith) ∙ ap string_bytes (sym c.index-words-place.is) in
    let named = c.in-Some.ensures.found in
    let fresh : Contains c.loop-place.slots.items c.in-Some.slot → ⊥ = λ again.
    eqb-false _ _ (c.if-contains.ensures.cases again.0 c.in-Some.slot (omega arith) (omega (arith, c.deref.ensures.len))) (ap (λ (slots : List ℕ). get_or slots again.0 c.in-Some.slot) c.deref.ensures.value ∙ again.2) in
    let pushed : c.push.new.self.items ≡ c.loop-place.slots.items ++ c.in-Some.slot ∷ [] = grind (arith, common_steps) in
    rw pushed (one_slot_more (words_of c.args.words.now) c.loop-place.slots.items c.loop-place.place lt c.loop-place.invariant c.in-Some.slot named.within (here ∙ sym c.as_str.ensures.value ∙ named.spelled) fresh)
