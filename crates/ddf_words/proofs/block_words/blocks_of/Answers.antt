use Rattle.std.proofs.Common.{◌^◌}
use Rattle.ddf_words.specs.Words.{words_of}
use Rattle.ddf_words.proofs.Blocks.{wrong_name, wrong_start, wrong_count, wrong_more}
use Rattle.ddf_words.proofs.Faults.{passed_on}
use Rattle.ddf_words.proofs.Names.{name_stands}
use Rattle.ddf_words.proofs.Numbers.{number_stands}
use Rattle.ddf_words.proofs.block_words.blocks_of.Goals as goal

pub returns-in_err-name-clause-place : goal.returns-in_err-name-clause-place
returns-in_err-name-clause-place c = λ place e command.
    let lacks = c.name_at.ensures.place place (passed_on c.name_at.result c.in_err-name.field-0.0 c.from_residual.result place c.in_err-name.was c.from_residual.ensures.1 e) in
    rw lacks.0 (wrong_name command (words_of c.args.words.now) lacks.1)

pub returns-in_err-start-clause-place : goal.returns-in_err-start-clause-place
returns-in_err-start-clause-place c = λ place e command.
    let words = words_of c.args.words.now in
    let lacks = c.number_at.ensures.place place (passed_on c.number_at.result c.in_err-start.field-0.0 c.from_residual-in_err-start.result place c.in_err-start.was c.from_residual-in_err-start.ensures.1 e) in
    let name = name_stands c.in_ok-name.name words 1 c.in_ok-name.ensures.found in
    rw lacks.0 (wrong_start command words name lacks.1)

pub returns-in_err-count-clause-place : goal.returns-in_err-count-clause-place
returns-in_err-count-clause-place c = λ place e command.
    let words = words_of c.args.words.now in
    let lacks = c.number_at-2.ensures.place place (passed_on c.number_at-2.result c.in_err-count.field-0.0 c.from_residual-in_err-count.result place c.in_err-count.was c.from_residual-in_err-count.ensures.1 e) in
    let name = name_stands c.in_ok-name.name words 1 c.in_ok-name.ensures.found in
    let start = number_stands (2 ^ 60) c.in_ok-start.start words 2 c.in_ok-start.ensures.found in
    rw lacks.0 (wrong_count command words name start lacks.1)

pub returns-in_err-ends_at-clause-place : goal.returns-in_err-ends_at-clause-place
returns-in_err-ends_at-clause-place c = λ place e command.
    let words = words_of c.args.words.now in
    let more = c.ends_at.ensures.place place (passed_on c.ends_at.result c.in_err-ends_at.field-0.0 c.from_residual-in_err-ends_at.result place c.in_err-ends_at.was c.from_residual-in_err-ends_at.ensures.1 e) in
    let name = name_stands c.in_ok-name.name words 1 c.in_ok-name.ensures.found in
    let start = number_stands (2 ^ 60) c.in_ok-start.start words 2 c.in_ok-start.ensures.found in
    let count = number_stands (2 ^ 60) c.in_ok-count.count words 3 c.in_ok-count.ensures.found in
    rw more.0 (wrong_more command words name start count more.1)
