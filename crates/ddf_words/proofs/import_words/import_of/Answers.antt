use Rattle.ddf_words.specs.Words.{words_of}
use Rattle.ddf_words.proofs.Faults.{passed_on}
use Rattle.ddf_words.proofs.Imports.{guid_stands, wrong_import_end, wrong_import_guid}
use Rattle.ddf_words.proofs.import_words.import_of.Goals as goal

pub returns-in_err-group-clause-place : goal.returns-in_err-group-clause-place
returns-in_err-group-clause-place c = λ place e.
    let lacks = c.guid_at.ensures.place place (passed_on c.guid_at.result c.in_err-group.field-0.0 c.from_residual.result place c.in_err-group.was c.from_residual.ensures.1 e) in
    rw lacks.0 (wrong_import_guid (words_of c.args.words.now) lacks.1)

pub returns-in_err-ends_at-clause-place : goal.returns-in_err-ends_at-clause-place
returns-in_err-ends_at-clause-place c = λ place e.
    let words = words_of c.args.words.now in
    let more = c.ends_at.ensures.place place (passed_on c.ends_at.result c.in_err-ends_at.field-0.0 c.from_residual-in_err-ends_at.result place c.in_err-ends_at.was c.from_residual-in_err-ends_at.ensures.1 e) in
    rw more.0 (wrong_import_end words (guid_stands c.in_ok-group.group words 1 c.in_ok-group.ensures.found) more.1)
