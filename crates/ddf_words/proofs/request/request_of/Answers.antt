use Rattle.std.proofs.Common.{◌≡◌, ◌+◌, ◌∙◌, Err, sym, ap, string_bytes, arith}
use Rattle.std.proofs.lemmas.List.{length-map, nil_from_length}
use Rattle.std.proofs.lemmas.Result.{err_from_is_err_and}
use Rattle.std.proofs.lemmas.Option.{none-some}
use Rattle.ddf_words.specs.Words.{words_of, IsRequest, GoWrongAt}
use Rattle.ddf_words.proofs.Requests.{no_request, wrong_without_group, wrong_over_group}
use Rattle.ddf_words.specs.declared.words.WordFault.TheVariants.{Place}
use Rattle.ddf_words.proofs.request.request_of.Goals as goal
use Rattle.ddf_words.proofs.Faults.{same_error}

pub returns-in_default-clause-place : goal.returns-in_default-clause-place
returns-in_default-clause-place c = λ place e.
    let same : 0 ≡ place = cc in
    rw same at (no_request (words_of c.args.words.now) (ap words_of (nil_from_length c.args.words.now c.in_default.ensures.cases)))

pub returns-in_err-command-clause-place : goal.returns-in_err-command-clause-place
returns-in_err-command-clause-place c = λ place e.
    let given = err_from_is_err_and c.from_residual.result c.from_residual.ensures.1 in
    let at : given.0 ≡ Place place = same_error given.0 (Place place) (sym given.1 ∙ e) in
    wrong_without_group (words_of c.args.words.now) (string_bytes c.in-Some.first.now) (words_of c.in-Some.rest.now) place (ap words_of c.in-Some.ensures.cases.0)
    (λ group names. none-some group (sym c.in_default-group_of.is ∙ c.group_of.ensures.every group names))
    (c.command_of.ensures.place place (c.in_err-command.was ∙ ap Err (sym given.2 ∙ at)))

-- where the words behind the group go wrong
wrong_command : (c : goal.In-Err-Place) → GoWrongAt IsRequest (words_of c.args.words.now) (1 + c.in-Err-Place.place)
wrong_command c = wrong_over_group (words_of c.args.words.now) (string_bytes c.in-Some.first.now) (words_of c.in-Some.rest.now) c.in-Err-Place.place (ap words_of c.in-Some.ensures.cases.0)
    c.in-Some-group_of.group c.in-Some-group_of.ensures.found
    (c.group_command_of.ensures.place c.in-Err-Place.place (c.in-Err-Place.is ∙ ap Err c.in-Err-Place.field-0-is))

pub overflow_add-result : goal.overflow_add-result
overflow_add-result c = omega (arith, (wrong_command c).within, length-map c.args.words.now string_bytes)

pub returns-in-Err-Place-clause-place : goal.returns-in-Err-Place-clause-place
returns-in-Err-Place-clause-place c = λ place e.
    let same : 1 + c.in-Err-Place.place ≡ place = cc in
    rw same at (wrong_command c)
