use Rattle.std.proofs.Common.{◌≡◌, ◌<◌, ◌^◌, ◌∙◌, ℕ, Ok, ap, sym, true, arith}
use Rattle.std.specs.Prelude.{Result}
use Rattle.std.specs.Str.Parse.{ParsesUnsigned}
use Rattle.std.specs.Fmt.{decimal}
use Rattle.std.proofs.lemmas.Bool.{true≢false}
use Rattle.std.proofs.lemmas.Fmt.{parse-decimal}
use Rattle.std.proofs.lemmas.Slice.Eq.{bytes_eq-Decides}
use Rattle.ddf_words.specs.Words.{Word, SpellsNumber}
use Rattle.ddf_words.proofs.number_words.number_of.Goals as goal
use Rattle.ddf_words.proofs.number_words.number_of.Goals.{else-number-most-via-then-number-most+else-is_decimal, else-number-most-via-else-number-most}

-- the text of a number is read as the number
is_read : {E : Type 0} (most number : ℕ) (text : Word) (read : Result ℕ E) → most < 2 ^ 64 → SpellsNumber most number text → ParsesUnsigned 64 10 text read → read ≡ Ok number
is_read most number text read small spells parses = parse-decimal 64 number text read (omega (arith, spells.within)) (omega (arith, spells.within)) spells.spelled parses

pub returns-in_default-clause-every : goal.returns-in_default-clause-every
returns-in_default-clause-every c = λ number spells.
    let read = is_read c.args.most number c.args.text.now c.parse.result c.ranges.most.fits spells c.parse.ensures.value.0 in
    cc

pub returns-then-is_decimal-clause-every : goal.returns-then-is_decimal-clause-every
returns-then-is_decimal-clause-every c = λ number spells.
    let read = is_read c.args.most number c.args.text.now c.parse.result c.ranges.most.fits spells c.parse.ensures.value.0 in
    let same : c.in-Ok.number ≡ number = cc in
    cc

pub returns-else-number-most-clause-every : goal.returns-else-number-most-clause-every
returns-else-number-most-clause-every c = λ number spells.
    let read = is_read c.args.most number c.args.text.now c.parse.result c.ranges.most.fits spells c.parse.ensures.value.0 in
    let same : c.in-Ok.number ≡ number = cc in
    elim c.else-number-most.branch [
      | else-number-most-via-then-number-most+else-is_decimal w ↦
          let spelled : c.args.text.now ≡ decimal c.in-Ok.number = spells.spelled ∙ ap decimal (sym same) in
          let holds : w.is_decimal.result ≡ true = w.is_decimal.ensures ∙ (bytes_eq-Decides c.args.text.now (decimal c.in-Ok.number)).1 spelled in
          absurd (true≢false (sym holds ∙ w.if-is_decimal.false))
      | else-number-most-via-else-number-most w ↦ absurd (omega (arith, spells.within))
    ]
