use Rattle.std.proofs.Common.{◌≡◌, ◌+◌, ◌*◌, ◌<◌, ◌≤◌, false, ⊎_elim, sym, arith}
use Rattle.std.proofs.Math.Nat.{mul-le-mul_left, mul-le-mul_right}
use Rattle.std.specs.List.{list_any}
use Rattle.std.proofs.lemmas.Bool.{cases_lt}
use Rattle.ddf_config.specs.Room.{meets, is_free, least_start_of}
use Rattle.ddf_config.proofs.Starts.{find_in_range, find_none_in_range, free_yes, free_no, free_past}
use Rattle.ddf_config.proofs.room.least_start.Goals as goal

pub returns-in-None : goal.returns-in-None
unfolding least_start_of
returns-in-None c =
    let a = c.args in
    let place = c.loop-place.place in
    let test = rw c.from.ensures at c.loop-place-test.true in
    let within : place * a.strip + a.blocks ≤ a.size = omega (arith, test, c.from-in-loop-place.ensures, c.from-in-loop-place-2.ensures) in
    let reach : place ≤ place * a.strip = omega (arith, mul-le-mul_left place c.requires) in
    let apart : list_any (meets (place * a.strip) a.blocks) a.taken.now ≡ false = rw c.from-in-loop-place-3.ensures at c.in-None.ensures in
    rw c.from-in-loop-place-3.ensures
    (sym (find_in_range (is_free a.taken.now a.size a.blocks) (λ k. k * a.strip) 0 (a.size + 1) place (omega arith) (omega arith)
    (λ j at_least below. c.loop-place.invariant.taken_before j below)
    (free_yes a.taken.now a.size a.blocks (place * a.strip) within apart)))

pub loop-place-preserved : goal.loop-place-preserved
loop-place-preserved c =
    let a = c.args in
    let place = c.loop-place.place in
    let next = c.strips_up_to-place in
    let met = rw c.from-in-loop-place-3.ensures at c.in-Some.ensures in
    record {
      small = omega (arith, next.ensures.least, met.1, c.ranges.strip.fits);
      taken_before = λ k below.
          ⊎_elim (λ (old : k < place). c.loop-place.invariant.taken_before k old)
          (λ (new : place ≤ k).
          let after : place * a.strip ≤ k * a.strip = mul-le-mul_right a.strip new in
          let step : (k + 1) * a.strip ≤ next.result * a.strip = mul-le-mul_right a.strip (omega arith) in
          let before : k * a.strip < c.in-Some.end = omega (arith, step, next.ensures.least) in
          free_no a.taken.now a.size a.blocks (k * a.strip) (met.2 (k * a.strip) after before))
          (cases_lt k place);
    }

pub returns : goal.returns
unfolding least_start_of
returns c =
    let a = c.args in
    let place = c.loop-place.place in
    let test = rw c.from.ensures at c.loop-place-test.false in
    let past : a.size < place * a.strip + a.blocks = omega (arith, test, c.from-in-loop-place.ensures, c.from-in-loop-place-2.ensures) in
    sym (find_none_in_range (is_free a.taken.now a.size a.blocks) (λ k. k * a.strip) 0 (a.size + 1)
    (λ j at_least below.
    ⊎_elim (λ (old : j < place). c.loop-place.invariant.taken_before j old)
    (λ (new : place ≤ j).
    let after : place * a.strip ≤ j * a.strip = mul-le-mul_right a.strip new in
    free_past a.taken.now a.size a.blocks (j * a.strip) (omega (arith, past, after)))
    (cases_lt j place)))
