use Rattle.std.proofs.Common.{◌∙◌, ap, sym, Ok, arith}
use Rattle.ddf_words.proofs.Elements.{cut_slots, has_at, some_blocks}
use Rattle.ddf_words.proofs.element_words.element_of.Goals as goal

pub returns-in_default-clause-none : goal.returns-in_default-clause-none
returns-in_default-clause-none c = λ none element spells. has_at element c.args.word.now spells c.in_default.ensures.cases

pub returns-in_default-number_of-clause-none : goal.returns-in_default-number_of-clause-none
returns-in_default-number_of-clause-none c = λ none element spells.
    let cut = cut_slots element c.args.word.now spells c.in-Some.slots c.in-Some.extent c.in-Some.ensures.cases in
    let some = c.number_of.ensures.every _ cut.1 in
    cc

pub returns-then-extent-eq0-clause-none : goal.returns-then-extent-eq0-clause-none
returns-then-extent-eq0-clause-none c = λ none element spells.
    let cut = cut_slots element c.args.word.now spells c.in-Some.slots c.in-Some.extent c.in-Some.ensures.cases in
    let some = c.number_of.ensures.every _ cut.1 in
    omega (arith, some_blocks element c.args.word.now spells c.in-Some-number_of.extent (sym c.in-Some-number_of.is ∙ some), c.if-extent-eq0.true)

pub returns-in-None-clause-none : goal.returns-in-None-clause-none
returns-in-None-clause-none c = λ none element spells.
    let cut = cut_slots element c.args.word.now spells c.in-Some.slots c.in-Some.extent c.in-Some.ensures.cases in
    c.element_slots_of.ensures.none (c.in_ok-slots.was ∙ ap Ok c.in-None.is) element.slots cut.0
