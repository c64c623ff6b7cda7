use Rattle.std.proofs.Common.{◌≡◌, ◌+◌, ◌∙◌, Ok, Err, inl, ap, drop, string_bytes, arith}
use Rattle.std.proofs.lemmas.List.{length-map}
use Rattle.ddf_words.specs.Words.{words_of, IsRequest, GoWrongAt}
use Rattle.ddf_words.proofs.Lists.{words_behind}
use Rattle.ddf_words.proofs.Fitting.{fits_command}
use Rattle.ddf_words.proofs.Grammar.{is_asked, same_asked, goes_wrong}
use Rattle.ddf_words.proofs.words.asked.Goals as goal

pub returns-in-Ok-request_of-clause-ok : goal.returns-in-Ok-request_of-clause-ok
returns-in-Ok-request_of-clause-ok c =
    is_asked (words_of c.args.words.now) c.in-Ok.images c.in-Ok.ensures.found c.in-Ok-request_of.asked (rw (words_behind c.args.words.now (c.in-Ok.images + 1)) at c.in-Ok-request_of.ensures.found)

pub returns-in-Ok-request_of-clause-fits : goal.returns-in-Ok-request_of-clause-fits
returns-in-Ok-request_of-clause-fits c =
    let asked = c.in-Ok-request_of.asked in
    fits_command asked.group asked.command _ c.in-Ok-request_of.ensures.found

pub returns-in-Ok-request_of-clause-every : goal.returns-in-Ok-request_of-clause-every
returns-in-Ok-request_of-clause-every c = λ asked is. inl (ap Ok
    (same_asked (words_of c.args.words.now) c.in-Ok.images c.in-Ok.ensures.found c.in-Ok-request_of.asked (rw (words_behind c.args.words.now (c.in-Ok.images + 1)) at c.in-Ok-request_of.ensures.found) asked is))

-- where the words behind the dashes go wrong
wrong_request : (c : goal.In-Err-Place) → GoWrongAt IsRequest (drop (c.in-Ok.images + 1) (words_of c.args.words.now)) c.in-Err-Place.place
wrong_request c = rw (words_behind c.args.words.now (c.in-Ok.images + 1)) at (c.request_of.ensures.place c.in-Err-Place.place (c.in-Err-Place.is ∙ ap Err c.in-Err-Place.field-0-is))

pub overflow_add-result-in-Err-Place : goal.overflow_add-result-in-Err-Place
overflow_add-result-in-Err-Place c =
    let wrong = (goes_wrong (words_of c.args.words.now) c.in-Ok.images c.in-Ok.ensures.found c.in-Err-Place.place (wrong_request c)).within in
    omega (arith, wrong, length-map c.args.words.now string_bytes)

pub returns-in-Err-Place-clause-every : goal.returns-in-Err-Place-clause-every
returns-in-Err-Place-clause-every c = λ asked is.
    absurd ((goes_wrong (words_of c.args.words.now) c.in-Ok.images c.in-Ok.ensures.found c.in-Err-Place.place (wrong_request c)).refused (record { asked = asked; is_asked = is }))

pub returns-in-Err-Place-clause-place : goal.returns-in-Err-Place-clause-place
returns-in-Err-Place-clause-place c = λ place e.
    let same : c.in-Ok.images + 1 + c.in-Err-Place.place ≡ place = cc in
    rw same at (goes_wrong (words_of c.args.words.now) c.in-Ok.images c.in-Ok.ensures.found c.in-Err-Place.place (wrong_request c))
