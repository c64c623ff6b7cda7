use Rattle.std.proofs.Common.{◌≡◌, ◌∷◌, ◌+◌, ◌∙◌, Err, sym, ap, string_bytes, arith}
use Rattle.std.proofs.lemmas.List.{length-map, nil_from_length}
use Rattle.ddf_words.specs.Words.{Word, words_of, IsCommand, GoWrongAt}
use Rattle.ddf_words.proofs.Requests.{no_command, other_command, more_words, wrong_disks}
use Rattle.ddf_words.proofs.Lists.{some_left}
use Rattle.ddf_words.proofs.request.command_of.Goals as goal

pub returns-in_default-clause-place : goal.returns-in_default-clause-place
returns-in_default-clause-place c = λ place e.
    let same : 0 ≡ place = cc in
    rw same at (no_command (words_of c.args.words.now) (ap words_of (nil_from_length c.args.words.now c.in_default.ensures.cases)))

pub returns-in_default-as_str-clause-place : goal.returns-in_default-as_str-clause-place
returns-in_default-as_str-clause-place c = λ place e.
    other_command (words_of c.args.words.now) (words_of c.in-Some.rest.now) (string_bytes c.in-Some.name.now) place (ap words_of c.in-Some.ensures.cases.0)
    (λ e. c.in_default-as_str.not-examine (c.as_str.ensures.value ∙ e)) (λ e. c.in_default-as_str.not-label (c.as_str.ensures.value ∙ e))
    (c.group_command_of.ensures.place place e)

pub returns-in_default-rest-clause-place : goal.returns-in_default-rest-clause-place
returns-in_default-rest-clause-place c = λ place e.
    let same : 1 ≡ place = cc in
    let more = some_left c.in-Some.rest.now (omega (arith, c.in_default-rest.len_at_least)) in
    rw same at (more_words (words_of c.args.words.now) (words_of more.1.0) (string_bytes more.0)
    (ap words_of (c.in-Some.ensures.cases.0 ∙ ap (λ ws. c.in-Some.name.now ∷ ws) more.1.1) ∙ ap (λ (w : Word). w ∷ string_bytes more.0 ∷ words_of more.1.0) (sym c.as_str.ensures.value ∙ c.in-examine.is)))

-- where the words behind `label` go wrong
wrong_label : (c : goal.In-Err-Place) → GoWrongAt IsCommand (words_of c.args.words.now) (1 + c.in-Err-Place.place)
wrong_label c = wrong_disks (words_of c.args.words.now) (words_of c.in-Some.rest.now) c.in-Err-Place.place
    (ap words_of c.in-Some.ensures.cases.0 ∙ ap (λ (w : Word). w ∷ words_of c.in-Some.rest.now) (sym c.as_str.ensures.value ∙ c.in-label.is))
    (c.label_of.ensures.place c.in-Err-Place.place (c.in-Err-Place.is ∙ ap Err c.in-Err-Place.field-0-is))

pub overflow_add-result : goal.overflow_add-result
overflow_add-result c = omega (arith, (wrong_label c).within, length-map c.args.words.now string_bytes)

pub returns-in-Err-Place-clause-place : goal.returns-in-Err-Place-clause-place
returns-in-Err-Place-clause-place c = λ place e.
    let same : 1 + c.in-Err-Place.place ≡ place = cc in
    rw same at (wrong_label c)
