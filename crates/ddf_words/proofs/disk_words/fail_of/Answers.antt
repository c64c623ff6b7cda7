use Rattle.ddf_words.specs.Words.{words_of}
use Rattle.ddf_words.proofs.Disks.{wrong_fail_slot, wrong_fail_end}
use Rattle.ddf_words.proofs.Faults.{passed_on}
use Rattle.ddf_words.proofs.Numbers.{number_stands}
use Rattle.ddf_words.proofs.disk_words.fail_of.Goals as goal

pub returns-in_err-slot-clause-place : goal.returns-in_err-slot-clause-place
returns-in_err-slot-clause-place c = λ place e.
    let lacks = c.byte_at.ensures.place place (passed_on c.byte_at.result c.in_err-slot.field-0.0 c.from_residual.result place c.in_err-slot.was c.from_residual.ensures.1 e) in
    rw lacks.0 (wrong_fail_slot (words_of c.args.words.now) lacks.1)

pub returns-in_err-ends_at-clause-place : goal.returns-in_err-ends_at-clause-place
returns-in_err-ends_at-clause-place c = λ place e.
    let words = words_of c.args.words.now in
    let more = c.ends_at.ensures.place place (passed_on c.ends_at.result c.in_err-ends_at.field-0.0 c.from_residual-in_err-ends_at.result place c.in_err-ends_at.was c.from_residual-in_err-ends_at.ensures.1 e) in
    rw more.0 (wrong_fail_end words (number_stands 63 c.in_ok-slot.slot words 1 c.in_ok-slot.ensures.found) more.1)
