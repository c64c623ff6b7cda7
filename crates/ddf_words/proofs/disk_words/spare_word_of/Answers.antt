use Rattle.std.proofs.Common.{◌≡◌, ◌+◌, ◌∷◌, ◌∙◌, Err, codes, sym, ap, string_bytes, arith}
use Rattle.std.proofs.lemmas.List.{length-map, nil_from_length}
use Rattle.ddf_words.specs.Words.{Word, words_of, AreSpareWords, GoWrongAt}
use Rattle.ddf_words.proofs.Disks.{wanting_use, wrong_use, wrong_global_end, wrong_revertible_end, wrong_off_end, wrong_names}
use Rattle.ddf_words.proofs.Faults.{passed_on}
use Rattle.ddf_words.proofs.Lists.{named_words}
use Rattle.ddf_words.proofs.disk_words.spare_word_of.Goals as goal

pub returns-in_default-clause-place : goal.returns-in_default-clause-place
returns-in_default-clause-place c = λ place e.
    let same : 0 ≡ place = cc in
    rw same at (wanting_use (words_of c.args.words.now) (ap words_of (nil_from_length c.args.words.now c.in_default.ensures.cases)))

pub returns-in_err-ends_at-in-global-clause-place : goal.returns-in_err-ends_at-in-global-clause-place
returns-in_err-ends_at-in-global-clause-place c = λ place e.
    let words = words_of c.args.words.now in
    let more = c.ends_at.ensures.place place (passed_on c.ends_at.result c.in_err-ends_at-in-global.field-0.0 c.from_residual.result place c.in_err-ends_at-in-global.was c.from_residual.ensures.1 e) in
    let parts = named_words words (words_of c.in-Some.names.now) (string_bytes c.in-Some.first.now) (codes "global") (ap words_of c.in-Some.ensures.cases.0) (sym c.as_str.ensures.value ∙ c.in-global.is) in
    rw (more.0, parts) (wrong_global_end words more.1)

pub returns-in_err-ends_at-in-revertible-clause-place : goal.returns-in_err-ends_at-in-revertible-clause-place
returns-in_err-ends_at-in-revertible-clause-place c = λ place e.
    let words = words_of c.args.words.now in
    let more = c.ends_at-in-revertible.ensures.place place (passed_on c.ends_at-in-revertible.result c.in_err-ends_at-in-revertible.field-0.0 c.from_residual-in_err-ends_at-in-revertible.result place c.in_err-ends_at-in-revertible.was
    c.from_residual-in_err-ends_at-in-revertible.ensures.1 e) in
    let parts = named_words words (words_of c.in-Some.names.now) (string_bytes c.in-Some.first.now) (codes "revertible") (ap words_of c.in-Some.ensures.cases.0) (sym c.as_str.ensures.value ∙ c.in-revertible.is) in
    rw (more.0, parts) (wrong_revertible_end words more.1)

pub returns-in_err-ends_at-in-off-clause-place : goal.returns-in_err-ends_at-in-off-clause-place
returns-in_err-ends_at-in-off-clause-place c = λ place e.
    let words = words_of c.args.words.now in
    let more = c.ends_at-in-off.ensures.place place (passed_on c.ends_at-in-off.result c.in_err-ends_at-in-off.field-0.0 c.from_residual-in_err-ends_at-in-off.result place c.in_err-ends_at-in-off.was
    c.from_residual-in_err-ends_at-in-off.ensures.1 e) in
    let parts = named_words words (words_of c.in-Some.names.now) (string_bytes c.in-Some.first.now) (codes "off") (ap words_of c.in-Some.ensures.cases.0) (sym c.as_str.ensures.value ∙ c.in-off.is) in
    rw (more.0, parts) (wrong_off_end words more.1)

-- where the words behind `for` go wrong
wrong_for : (c : goal.In-Err-Place) → GoWrongAt AreSpareWords (words_of c.args.words.now) (1 + c.in-Err-Place.place)
wrong_for c = wrong_names (words_of c.args.words.now) (words_of c.in-Some.names.now) c.in-Err-Place.place
    (ap words_of c.in-Some.ensures.cases.0 ∙ ap (λ (w : Word). w ∷ words_of c.in-Some.names.now) (sym c.as_str.ensures.value ∙ c.in-for.is))
    (c.names_of.ensures.place c.in-Err-Place.place (c.in-Err-Place.is ∙ ap Err c.in-Err-Place.field-0-is))

pub overflow_add-result : goal.overflow_add-result
overflow_add-result c = omega (arith, (wrong_for c).within, length-map c.args.words.now string_bytes)

pub returns-in-Err-Place-clause-place : goal.returns-in-Err-Place-clause-place
returns-in-Err-Place-clause-place c = λ place e.
    let same : 1 + c.in-Err-Place.place ≡ place = cc in
    rw same at (wrong_for c)

pub returns-in_default-as_str-clause-place : goal.returns-in_default-as_str-clause-place
returns-in_default-as_str-clause-place c = λ place e.
    let same : 0 ≡ place = cc in
    rw same at (wrong_use (words_of c.args.words.now) (words_of c.in-Some.names.now) (string_bytes c.in-Some.first.now) (ap words_of c.in-Some.ensures.cases.0)
    (λ e. c.in_default-as_str.not-global (c.as_str.ensures.value ∙ e))
    (λ e. c.in_default-as_str.not-revertible (c.as_str.ensures.value ∙ e))
    (λ e. c.in_default-as_str.not-off (c.as_str.ensures.value ∙ e))
    (λ e. c.in_default-as_str.not-for (c.as_str.ensures.value ∙ e)))
