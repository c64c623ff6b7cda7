use Rattle.std.proofs.Common.{◌≡◌, None, true, false, length, sym, ◌∙◌, arith, rules}
use Rattle.std.specs.Prelude.{is_some}
use Rattle.std.proofs.lemmas.Grind.{common_steps}
use Rattle.ddf_lemmas.proofs.Options.{none_from_not_some}
use Rattle.ddf_badblocks.specs.Fits.{ranges_of}
use Rattle.ddf_badblocks.specs.Unfit.{first_wrong}
use Rattle.ddf_badblocks.proofs.LogFits.{fits_empty, spare_small}
use Rattle.ddf_badblocks.proofs.Unfits.{all_in_place, told_area, told_found, told_ok}
use Rattle.ddf_badblocks.proofs.unfit.unfit_of.Goals as goal

pub returns-then-is_empty : goal.returns-then-is_empty
returns-then-is_empty c =
    let log = c.args.log.now in
    let none : length log.entries ≡ 0 = grind (arith, common_steps, c.entries.ensures, c.is_empty.ensures, c.if-is_empty.true) in
    fits_empty log c.args.size c.args.kept.now c.args.last none

pub returns-then-not-area_fits : goal.returns-then-not-area_fits
returns-then-not-area_fits c =
    let log = c.args.log.now in
    let some : length log.entries ≡ 0 → ⊥ = λ none. grind (arith, common_steps, none, c.entries.ensures, c.is_empty.ensures, c.if-is_empty.false) in
    told_area log c.args.size c.args.kept.now c.args.last some (sym c.area_fits.ensures ∙ c.if-not-area_fits.true)

pub returns-then-is_some : goal.returns-then-is_some
returns-then-is_some c =
    let log = c.args.log.now in
    let some : length log.entries ≡ 0 → ⊥ = λ none. grind (arith, common_steps, none, c.entries.ensures, c.is_empty.ensures, c.if-is_empty.false) in
    let there : is_some c.first_wrong-found.result ≡ true = first_of (search rules, grind (arith, common_steps, c.is_some.ensures, c.if-is_some.true)) in
    told_found log c.args.size c.args.kept.now c.args.last some c.first_wrong-found.result there (sym c.area_fits.ensures ∙ c.if-not-area_fits.false) (sym c.first_wrong-found.ensures)

pub ranges_of-requires : goal.ranges_of-requires
ranges_of-requires c =
    let log = c.args.log.now in
    let some : length log.entries ≡ 0 → ⊥ = λ none. grind (arith, common_steps, none, c.entries.ensures, c.is_empty.ensures, c.if-is_empty.false) in
    let gone : is_some c.first_wrong-found.result ≡ false = first_of (search rules, grind (arith, common_steps, c.is_some.ensures, c.if-is_some.false)) in
    let none : first_wrong c.args.size log.spare_count c.args.kept.now 0 log.entries ≡ None = sym c.first_wrong-found.ensures ∙ none_from_not_some c.first_wrong-found.result gone in
    spare_small log c.args.size c.args.kept.now c.args.last (all_in_place log c.args.size c.args.kept.now c.args.last some (sym c.area_fits.ensures ∙ c.if-not-area_fits.false) none) some (omega (arith, c.ranges.last.fits))

pub returns : goal.returns
returns c =
    let log = c.args.log.now in
    let some : length log.entries ≡ 0 → ⊥ = λ none. grind (arith, common_steps, none, c.entries.ensures, c.is_empty.ensures, c.if-is_empty.false) in
    let gone : is_some c.first_wrong-found.result ≡ false = first_of (search rules, grind (arith, common_steps, c.is_some.ensures, c.if-is_some.false)) in
    let none : first_wrong c.args.size log.spare_count c.args.kept.now 0 log.entries ≡ None = sym c.first_wrong-found.ensures ∙ none_from_not_some c.first_wrong-found.result gone in
    let same : c.as_slice.result.now ≡ ranges_of log = first_of (search rules, grind (arith, common_steps, c.as_slice.ensures, c.in_ok-ranges.ensures)) in
    told_ok log c.args.size c.args.kept.now c.args.last some (sym c.area_fits.ensures ∙ c.if-not-area_fits.false) none
    c.as_slice.result.now same c.first_shared.result c.first_shared.ensures
