use Rattle.std.proofs.Common.{refl, string_bytes, arith}
use Rattle.std.proofs.lemmas.List.{length-map}
use Rattle.ddf_words.specs.Words.{words_of}
use Rattle.ddf_words.proofs.ExerciseLeading.{leads_there}
use Rattle.ddf_words.proofs.ExerciseTelling.{with_both, with_more_words, without_rounds, without_seed}
use Rattle.ddf_words.proofs.ExerciseWrongly.{none_stands}
use Rattle.ddf_words.proofs.asking.asking_at.Goals as goal

pub returns-then-not-is_exercise_at : goal.returns-then-not-is_exercise_at
returns-then-not-is_exercise_at c = none_stands (words_of c.args.words.now)
    (λ stands. c.is_exercise_at.ensures.no c.if-not-is_exercise_at.true (leads_there (words_of c.args.words.now) c.args.place c.requires stands)) c.args.place c.requires

pub returns-in_default : goal.returns-in_default
returns-in_default c = without_seed (words_of c.args.words.now) c.args.place c.requires (c.is_exercise_at.ensures.yes c.if-not-is_exercise_at.false) (c.in_default.ensures.none refl)

pub returns-in_default-number_at : goal.returns-in_default-number_at
returns-in_default-number_at c = without_rounds (words_of c.args.words.now) c.args.place c.requires (c.is_exercise_at.ensures.yes c.if-not-is_exercise_at.false)
    c.in-Some.seed c.in-Some.ensures.found (c.in_default-number_at.ensures.none refl)

pub returns-then-words-place : goal.returns-then-words-place
returns-then-words-place c = with_more_words (words_of c.args.words.now) c.args.place c.requires (c.is_exercise_at.ensures.yes c.if-not-is_exercise_at.false)
    c.in-Some.seed c.in-Some.ensures.found c.in-Some-number_at.rounds c.in-Some-number_at.ensures.found (omega (arith, length-map c.args.words.now string_bytes, c.if-words-place.true))

pub returns : goal.returns
returns c = with_both (words_of c.args.words.now) c.args.place c.requires (c.is_exercise_at.ensures.yes c.if-not-is_exercise_at.false)
    c.in-Some.seed c.in-Some.ensures.found c.in-Some-number_at.rounds c.in-Some-number_at.ensures.found (omega (arith, length-map c.args.words.now string_bytes, c.if-words-place.false))
