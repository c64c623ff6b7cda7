use Rattle.std.proofs.Common.{◌≡◌, ◌∙◌, ◌-◌, ℕ, List, None, Ok, Err, inl, sym, ap, subst, arith}
use Rattle.ddf_words.specs.Words.{Word, GoWrongAt, IsAccepted, IsAsked, words_of}
use Rattle.ddf_words.specs.declared.command.Asked.{Asked}
use Rattle.ddf_words.specs.Lines.{IsLine}
use Rattle.ddf_words.proofs.Batches.{one_asked}
use Rattle.ddf_words.proofs.LineWords.{accepted_behind, as_asked, asked_in, asks_for, named_as, no_name, wrong_line}
use Rattle.ddf_words.proofs.batch_line.line_command.Goals as goal

pub returns-then-not-is_named-clause-place : goal.returns-then-not-is_named-clause-place
returns-then-not-is_named-clause-place c = λ line e place is.
    let same : 0 ≡ place = cc in
    subst (λ (n : ℕ). GoWrongAt IsLine line n) same (no_name line (named_as (words_of c.args.words.now) line e c.is_named.result c.is_named.ensures ∙ c.if-not-is_named.true))

pub returns-in-Ok-clause-found : goal.returns-in-Ok-clause-found
returns-in-Ok-clause-found c = λ line e.
    asks_for line (named_as (words_of c.args.words.now) line e c.is_named.result c.is_named.ensures ∙ c.if-not-is_named.false) c.in-Ok.asked.group c.in-Ok.asked.command
    (asked_in line c.in-Ok.asked (subst (λ (ws : List Word). IsAsked ws c.in-Ok.asked) e c.in-Ok.ensures.ok))

pub returns-in-Ok-clause-every : goal.returns-in-Ok-clause-every
returns-in-Ok-clause-every c = λ line e command asks.
    let other : Asked = record { group = None; command = command } in
    let same : other ≡ c.in-Ok.asked = one_asked c.asked.result c.in-Ok.asked other c.in-Ok.is
    (c.asked.ensures.every other (subst (λ (ws : List Word). IsAsked ws other) (sym e) (as_asked line command asks.spells))) in
    inl (ap Ok (ap (λ (one : Asked). one.command) (sym same)))

pub returns-in-Err-Place-clause-every : goal.returns-in-Err-Place-clause-every
returns-in-Err-Place-clause-every c = λ line e command asks.
    absurd ((c.asked.ensures.place c.in-Err-Place.place (c.in-Err-Place.is ∙ ap Err c.in-Err-Place.field-0-is)).refused
    (subst (λ (ws : List Word). IsAccepted ws) (sym e) (accepted_behind line (record { command = command; asks = asks }))))

pub returns-in-Err-Place-clause-place : goal.returns-in-Err-Place-clause-place
returns-in-Err-Place-clause-place c = λ line e place is.
    let wrong = c.asked.ensures.place c.in-Err-Place.place (c.in-Err-Place.is ∙ ap Err c.in-Err-Place.field-0-is) in
    let said : c.saturating_sub.result ≡ place = cc in
    let same : c.in-Err-Place.place - 1 ≡ place = omega (arith, said, c.saturating_sub.ensures) in
    subst (λ (n : ℕ). GoWrongAt IsLine line n) same
    (wrong_line line (named_as (words_of c.args.words.now) line e c.is_named.result c.is_named.ensures ∙ c.if-not-is_named.false) c.in-Err-Place.place
    (subst (λ (ws : List Word). GoWrongAt IsAccepted ws c.in-Err-Place.place) e wrong))
