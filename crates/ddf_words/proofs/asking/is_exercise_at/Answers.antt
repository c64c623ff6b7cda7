use Rattle.std.proofs.Common.{◌≡◌, ◌∙◌, get_or, [], sym, string_bytes, arith}
use Rattle.std.proofs.lemmas.Slice.Eq.{bytes_eq-Decides}
use Rattle.ddf_words.proofs.Lists.{position-map}
use Rattle.ddf_words.specs.Words.{is_dashes, words_of}
use Rattle.ddf_words.specs.Asking.{exercise}
use Rattle.ddf_words.proofs.asking.is_exercise_at.Goals as goal

pub returns-in_default-clause-no : goal.returns-in_default-clause-no
returns-in_default-clause-no c = λ no leads.
    let at = position-map is_dashes string_bytes c.args.words.now ∙ sym c.first_dashes.ensures ∙ c.in_default.is in
    let other = leads.is_first in
    cc

pub returns-then-place-count-clause-no : goal.returns-then-place-count-clause-no
returns-then-place-count-clause-no c = λ no leads.
    let at = position-map is_dashes string_bytes c.args.words.now ∙ sym c.first_dashes.ensures ∙ c.in-Some.is in
    let other = leads.is_first in
    let same : c.in-Some.count ≡ leads.count = cc in
    omega (arith, leads.next, same, c.if-place-count.true)

pub returns-then-place-count-gt1-clause-no : goal.returns-then-place-count-gt1-clause-no
returns-then-place-count-gt1-clause-no c = λ no leads.
    let at = position-map is_dashes string_bytes c.args.words.now ∙ sym c.first_dashes.ensures ∙ c.in-Some.is in
    let other = leads.is_first in
    let same : c.in-Some.count ≡ leads.count = cc in
    omega (arith, leads.next, same, c.if-place-count-gt1.true)

pub returns-clause-yes : goal.returns-clause-yes
returns-clause-yes c = λ yes. record {
  count = c.in-Some.count;
  is_first = position-map is_dashes string_bytes c.args.words.now ∙ sym c.first_dashes.ensures ∙ c.in-Some.is;
  next = omega (arith, c.if-place-count.false, c.if-place-count-gt1.false);
  here = (bytes_eq-Decides (get_or (words_of c.args.words.now) c.args.place []) exercise).0 (sym c.is_exercise.ensures ∙ yes);
}
