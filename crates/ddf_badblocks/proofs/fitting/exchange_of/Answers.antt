use Rattle.std.proofs.Common.{◌≡◌, length, sym, ◌∙◌, arith}
use Rattle.std.proofs.lemmas.Grind.{common_steps}
use Rattle.ddf_badblocks.proofs.LogFits.{fits_empty, fits_exchange, fits_not, found_ok, ranges_empty, spare_small}
use Rattle.ddf_badblocks.proofs.fitting.exchange_of.Goals as goal

pub returns-then-is_empty : goal.returns-then-is_empty
returns-then-is_empty c =
    let log = c.args.log.now in
    let none : length log.entries ≡ 0 = grind (arith, common_steps, c.entries.ensures, c.is_empty.ensures, c.if-is_empty.true) in
    (c.none.ensures ∙ sym (ranges_empty log none), fits_empty log c.args.size c.args.kept.now c.args.last none)

pub returns-then-not-all_fit : goal.returns-then-not-all_fit
returns-then-not-all_fit c =
    let log = c.args.log.now in
    let some : length log.entries ≡ 0 → ⊥ = λ none. grind (arith, common_steps, none, c.entries.ensures, c.is_empty.ensures, c.if-is_empty.false) in
    fits_not log c.args.size c.args.kept.now c.args.last (sym c.all_fit.ensures ∙ c.if-not-all_fit.true) some

pub ranges_of-requires : goal.ranges_of-requires
ranges_of-requires c =
    let log = c.args.log.now in
    let some : length log.entries ≡ 0 → ⊥ = λ none. grind (arith, common_steps, none, c.entries.ensures, c.is_empty.ensures, c.if-is_empty.false) in
    spare_small log c.args.size c.args.kept.now c.args.last (sym c.all_fit.ensures ∙ c.if-not-all_fit.false) some (omega (arith, c.ranges.last.fits))

pub returns : goal.returns
returns c =
    let log = c.args.log.now in
    let some : length log.entries ≡ 0 → ⊥ = λ none. grind (arith, common_steps, none, c.entries.ensures, c.is_empty.ensures, c.if-is_empty.false) in
    let same = fits_exchange log c.args.size c.args.kept.now c.args.last (sym c.all_fit.ensures ∙ c.if-not-all_fit.false) some in
    found_ok log c.args.size c.args.kept.now c.args.last same c.in_ok-ranges.ranges.items c.in_ok-ranges.ensures c.exchange_on.result c.exchange_on.ensures
