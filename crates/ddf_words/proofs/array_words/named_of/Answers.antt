use Rattle.ddf_words.specs.Words.{words_of}
use Rattle.ddf_words.proofs.Arrays.{wrong_named_name, wrong_named_end}
use Rattle.ddf_words.proofs.Faults.{passed_on}
use Rattle.ddf_words.proofs.Names.{name_stands}
use Rattle.ddf_words.proofs.array_words.named_of.Goals as goal

pub returns-in_err-name-clause-place : goal.returns-in_err-name-clause-place
returns-in_err-name-clause-place c = λ place e command.
    let lacks = c.name_at.ensures.place place (passed_on c.name_at.result c.in_err-name.field-0.0 c.from_residual.result place c.in_err-name.was c.from_residual.ensures.1 e) in
    rw lacks.0 (wrong_named_name command (words_of c.args.words.now) lacks.1)

pub returns-in_err-ends_at-clause-place : goal.returns-in_err-ends_at-clause-place
returns-in_err-ends_at-clause-place c = λ place e command.
    let words = words_of c.args.words.now in
    let more = c.ends_at.ensures.place place (passed_on c.ends_at.result c.in_err-ends_at.field-0.0 c.from_residual-in_err-ends_at.result place c.in_err-ends_at.was c.from_residual-in_err-ends_at.ensures.1 e) in
    rw more.0 (wrong_named_end command words (name_stands c.in_ok-name.name words 1 c.in_ok-name.ensures.found) more.1)
