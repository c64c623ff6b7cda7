use Rattle.ddf_words.specs.Words.{words_of}
use Rattle.ddf_words.proofs.Arrays.{wrong_copyback_end, wrong_copyback_name, wrong_copyback_slot}
use Rattle.ddf_words.proofs.Faults.{passed_on}
use Rattle.ddf_words.proofs.Names.{name_stands}
use Rattle.ddf_words.proofs.Numbers.{number_stands}
use Rattle.ddf_words.proofs.array_words.copyback_of.Goals as goal

pub returns-in_err-name-clause-place : goal.returns-in_err-name-clause-place
returns-in_err-name-clause-place c = λ place e.
    let lacks = c.name_at.ensures.place place (passed_on c.name_at.result c.in_err-name.field-0.0 c.from_residual.result place c.in_err-name.was c.from_residual.ensures.1 e) in
    rw lacks.0 (wrong_copyback_name (words_of c.args.words.now) lacks.1)

pub returns-in_err-slot-clause-place : goal.returns-in_err-slot-clause-place
returns-in_err-slot-clause-place c = λ place e.
    let words = words_of c.args.words.now in
    let lacks = c.byte_at.ensures.place place (passed_on c.byte_at.result c.in_err-slot.field-0.0 c.from_residual-in_err-slot.result place c.in_err-slot.was c.from_residual-in_err-slot.ensures.1 e) in
    let name = name_stands c.in_ok-name.name words 1 c.in_ok-name.ensures.found in
    rw lacks.0 (wrong_copyback_slot words name lacks.1)

pub returns-in_err-ends_at-clause-place : goal.returns-in_err-ends_at-clause-place
returns-in_err-ends_at-clause-place c = λ place e.
    let words = words_of c.args.words.now in
    let more = c.ends_at.ensures.place place (passed_on c.ends_at.result c.in_err-ends_at.field-0.0 c.from_residual-in_err-ends_at.result place c.in_err-ends_at.was c.from_residual-in_err-ends_at.ensures.1 e) in
    let name = name_stands c.in_ok-name.name words 1 c.in_ok-name.ensures.found in
    rw more.0 (wrong_copyback_end words name (number_stands 63 c.in_ok-slot.slot words 2 c.in_ok-slot.ensures.found) more.1)
