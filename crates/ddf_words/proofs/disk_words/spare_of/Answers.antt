use Rattle.std.proofs.Common.{◌≡◌, ◌+◌, ◌∙◌, Err, ap, drop, length-drop, string_bytes, arith}
use Rattle.std.proofs.lemmas.List.{length-map}
use Rattle.ddf_words.specs.Words.{words_of, AreSpareWords, GoWrongAt}
use Rattle.ddf_words.proofs.Disks.{wrong_spare_slot, wrong_spare_use}
use Rattle.ddf_words.proofs.Faults.{passed_on}
use Rattle.ddf_words.proofs.Lists.{words_behind}
use Rattle.ddf_words.proofs.Numbers.{number_stands}
use Rattle.ddf_words.proofs.disk_words.spare_of.Goals as goal

pub returns-in_err-slot-clause-place : goal.returns-in_err-slot-clause-place
returns-in_err-slot-clause-place c = λ place e.
    let lacks = c.byte_at.ensures.place place (passed_on c.byte_at.result c.in_err-slot.field-0.0 c.from_residual.result place c.in_err-slot.was c.from_residual.ensures.1 e) in
    rw lacks.0 (wrong_spare_slot (words_of c.args.words.now) lacks.1)

-- where the words behind the slot go wrong
wrong_use : (c : goal.In-Err-Place) → GoWrongAt AreSpareWords (drop 2 (words_of c.args.words.now)) c.in-Err-Place.place
wrong_use c = rw (words_behind c.args.words.now 2) at (c.spare_word_of.ensures.place c.in-Err-Place.place (c.in-Err-Place.is ∙ ap Err c.in-Err-Place.field-0-is))

pub overflow_add-result : goal.overflow_add-result
overflow_add-result c =
    omega (arith, (wrong_use c).within, c.in_ok-slot.ensures.found.within, length-drop 2 (words_of c.args.words.now), length-map c.args.words.now string_bytes)

pub returns-in-Err-Place-clause-place : goal.returns-in-Err-Place-clause-place
returns-in-Err-Place-clause-place c = λ place e.
    let words = words_of c.args.words.now in
    let same : 2 + c.in-Err-Place.place ≡ place = cc in
    rw same at (wrong_spare_use words c.in-Err-Place.place (number_stands 63 c.in_ok-slot.slot words 1 c.in_ok-slot.ensures.found) (wrong_use c))
