use Rattle.std.proofs.Common.{◌-◌, arith}
use Rattle.std.proofs.lemmas.Nat.{mod_below}
use Rattle.ddf_secondary.proofs.Longer.{before_none, band_some, band_later, band_fits, band_falls, in_band, past_band}
use Rattle.ddf_secondary.proofs.spanned.unit_place.Goals as goal

pub bands-init : goal.bands-init
bands-init c = omega (arith, before_none c.args.sizes.now)

pub overflow_sub-rows : goal.overflow_sub-rows
overflow_sub-rows c =
    omega (arith, c.band_from-band.ensures.end (band_later c.args.sizes.now c.bands.row c.bands.left c.args.unit c.bands.invariant c.requires.within c.requires.small))

pub nonzero_div-left : goal.nonzero_div-left
nonzero_div-left c =
    band_some c.args.sizes.now c.bands.row c.bands.left c.args.unit _ c.bands.invariant c.requires.within c.band_from-band.ensures.elements

pub nonzero_rem-left : goal.nonzero_rem-left
nonzero_rem-left c =
    band_some c.args.sizes.now c.bands.row c.bands.left c.args.unit _ c.bands.invariant c.requires.within c.band_from-band.ensures.elements

pub nth_longer-requires-clause-within : goal.nth_longer-requires-clause-within
nth_longer-requires-clause-within c =
    let some = band_some c.args.sizes.now c.bands.row c.bands.left c.args.unit _ c.bands.invariant c.requires.within c.band_from-band.ensures.elements in
    omega (arith, mod_below c.bands.left c.band_from-band.result.elements some, c.band_from-band.ensures.elements)

pub returns-then-left-band : goal.returns-then-left-band
returns-then-left-band c =
    let some = band_some c.args.sizes.now c.bands.row c.bands.left c.args.unit _ c.bands.invariant c.requires.within c.band_from-band.ensures.elements in
    let found = in_band c.args.sizes.now c.bands.row c.band_from-band.result.end c.bands.left c.args.unit c.band_from-band.result.elements c.nth_longer.result c.band_from-band.ensures.apart c.bands.invariant some c.band_from-band.ensures.elements c.if-left-band.true c.nth_longer.ensures in
    (found.place, found.at_place, found.unit_is)

pub bands-smaller : goal.bands-smaller
bands-smaller c =
    let some = band_some c.args.sizes.now c.bands.row c.bands.left c.args.unit _ c.bands.invariant c.requires.within c.band_from-band.ensures.elements in
    let later = c.band_from-band.ensures.end (band_later c.args.sizes.now c.bands.row c.bands.left c.args.unit c.bands.invariant c.requires.within c.requires.small) in
    band_falls c.bands.left c.band_from-band.result.elements (c.band_from-band.result.end - c.bands.row) some (omega arith) c.if-left-band.false

pub bands-preserved : goal.bands-preserved
bands-preserved c =
    let some = band_some c.args.sizes.now c.bands.row c.bands.left c.args.unit _ c.bands.invariant c.requires.within c.band_from-band.ensures.elements in
    let later = c.band_from-band.ensures.end (band_later c.args.sizes.now c.bands.row c.bands.left c.args.unit c.bands.invariant c.requires.within c.requires.small) in
    past_band c.args.sizes.now c.bands.row c.band_from-band.result.end c.bands.left c.args.unit c.band_from-band.result.elements c.band_from-band.ensures.apart c.bands.invariant c.band_from-band.ensures.elements later
    (band_fits c.bands.left c.band_from-band.result.elements (c.band_from-band.result.end - c.bands.row) some c.if-left-band.false)
