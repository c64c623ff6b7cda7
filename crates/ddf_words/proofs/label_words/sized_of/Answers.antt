use Rattle.std.proofs.Common.{◌≡◌, ◌+◌, ◌∙◌, Err, ap, string_bytes, arith}
use Rattle.std.proofs.lemmas.List.{length-map}
use Rattle.ddf_words.specs.Words.{words_of, GoWrongAt, NameSized}
use Rattle.ddf_words.proofs.Faults.{passed_on}
use Rattle.ddf_words.proofs.Labels.{wrong_large, wrong_unsized}
use Rattle.ddf_words.proofs.label_words.sized_of.Goals as goal

pub returns-in_err-slots-clause-place : goal.returns-in_err-slots-clause-place
returns-in_err-slots-clause-place c = λ place e.
    wrong_unsized (words_of c.args.words.now) place (c.behind_large.ensures.none c.in_default.is)
    (c.slots_of.ensures.place place (passed_on c.slots_of.result c.in_err-slots.field-0.0 c.from_residual.result place c.in_err-slots.was c.from_residual.ensures.1 e))

-- where the words behind `large` go wrong
wrong_slots : (c : goal.In-Err-Place) → GoWrongAt NameSized (words_of c.args.words.now) (1 + c.in-Err-Place.place)
wrong_slots c = wrong_large (words_of c.args.words.now) (words_of c.in-Some.rest.now) c.in-Err-Place.place c.in-Some.ensures.found
    (c.slots_of-2.ensures.place c.in-Err-Place.place (c.in-Err-Place.is ∙ ap Err c.in-Err-Place.field-0-is))

pub overflow_add-result : goal.overflow_add-result
overflow_add-result c = omega (arith, (wrong_slots c).within, length-map c.args.words.now string_bytes)

pub returns-in-Err-Place-clause-place : goal.returns-in-Err-Place-clause-place
returns-in-Err-Place-clause-place c = λ place e.
    let same : 1 + c.in-Err-Place.place ≡ place = cc in
    rw same at (wrong_slots c)
