use Rattle.std.proofs.Common.{◌≡◌, ◌+◌, ◌∙◌, Err, ap, length-drop, string_bytes, arith}
use Rattle.std.proofs.lemmas.List.{length-map}
use Rattle.ddf_words.specs.Words.{words_of}
use Rattle.ddf_words.proofs.Arrays.{wrong_create_name, wrong_level, wrong_code, wrong_secondary, wrong_elements}
use Rattle.ddf_words.proofs.Faults.{passed_on}
use Rattle.ddf_words.proofs.Levels.{level_stands, secondary_stands}
use Rattle.ddf_words.proofs.Lists.{words_behind}
use Rattle.ddf_words.proofs.Names.{plain_name_stands}
use Rattle.ddf_words.proofs.Numbers.{number_stands}
use Rattle.ddf_words.proofs.array_words.create_of.Goals as goal

pub returns-in_err-name-clause-place : goal.returns-in_err-name-clause-place
returns-in_err-name-clause-place c = λ place e.
    let lacks = c.plain_name_at.ensures.place place (passed_on c.plain_name_at.result c.in_err-name.field-0.0 c.from_residual.result place c.in_err-name.was c.from_residual.ensures.1 e) in
    rw lacks.0 (wrong_create_name (words_of c.args.words.now) lacks.1)

pub returns-in_err-level-clause-place : goal.returns-in_err-level-clause-place
returns-in_err-level-clause-place c = λ place e.
    let words = words_of c.args.words.now in
    let lacks = c.level_at.ensures.place place (passed_on c.level_at.result c.in_err-level.field-0.0 c.from_residual-in_err-level.result place c.in_err-level.was c.from_residual-in_err-level.ensures.1 e) in
    let name = plain_name_stands c.in_ok-name.name words 1 c.in_ok-name.ensures.found in
    rw lacks.0 (wrong_level words name lacks.1)

pub returns-in_err-code-clause-place : goal.returns-in_err-code-clause-place
returns-in_err-code-clause-place c = λ place e.
    let words = words_of c.args.words.now in
    let lacks = c.byte_at.ensures.place place (passed_on c.byte_at.result c.in_err-code.field-0.0 c.from_residual-in_err-code.result place c.in_err-code.was c.from_residual-in_err-code.ensures.1 e) in
    let name = plain_name_stands c.in_ok-name.name words 1 c.in_ok-name.ensures.found in
    let level = level_stands (c.in_ok-level.level, c.in_ok-level.qualifier) words 2 c.in_ok-level.ensures.found in
    rw lacks.0 (wrong_code words name level lacks.1)

pub returns-in_err-secondary-clause-place : goal.returns-in_err-secondary-clause-place
returns-in_err-secondary-clause-place c = λ place e.
    let words = words_of c.args.words.now in
    let lacks = c.secondary_at.ensures.place place (passed_on c.secondary_at.result c.in_err-secondary.field-0.0 c.from_residual-in_err-secondary.result place c.in_err-secondary.was c.from_residual-in_err-secondary.ensures.1 e) in
    let name = plain_name_stands c.in_ok-name.name words 1 c.in_ok-name.ensures.found in
    let level = level_stands (c.in_ok-level.level, c.in_ok-level.qualifier) words 2 c.in_ok-level.ensures.found in
    let code = number_stands 15 c.in_ok-code.code words 3 c.in_ok-code.ensures.found in
    rw lacks.0 (wrong_secondary words name level code lacks.1)

pub overflow_add-result : goal.overflow_add-result
overflow_add-result c =
    let wrong = rw (words_behind c.args.words.now 5) at (c.elements_of.ensures.place c.in-Err-Place.place (c.in-Err-Place.is ∙ ap Err c.in-Err-Place.field-0-is)) in
    rw c.in-Err-Place.field-0-is (omega (arith, wrong.within, c.in_ok-secondary.ensures.found.within, length-drop 5 (words_of c.args.words.now), length-map c.args.words.now string_bytes))

pub returns-in-Err-Place-clause-place : goal.returns-in-Err-Place-clause-place
returns-in-Err-Place-clause-place c = λ place e.
    let words = words_of c.args.words.now in
    let name = plain_name_stands c.in_ok-name.name words 1 c.in_ok-name.ensures.found in
    let level = level_stands (c.in_ok-level.level, c.in_ok-level.qualifier) words 2 c.in_ok-level.ensures.found in
    let code = number_stands 15 c.in_ok-code.code words 3 c.in_ok-code.ensures.found in
    let secondary = secondary_stands c.in_ok-secondary.secondary words 4 c.in_ok-secondary.ensures.found in
    let wrong = rw (words_behind c.args.words.now 5) at (c.elements_of.ensures.place c.in-Err-Place.place (c.in-Err-Place.is ∙ ap Err c.in-Err-Place.field-0-is)) in
    let same : 5 + c.in-Err-Place.place ≡ place = cc in
    rw same at (wrong_elements words c.in-Err-Place.place name level code secondary wrong)
