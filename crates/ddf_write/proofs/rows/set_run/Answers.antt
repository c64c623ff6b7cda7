use Rattle.std.proofs.Common.{◌≡◌, ◌∙◌, ◌<◌, Some, sym, ap, subst, arith, length, rules}
use Rattle.std.specs.Prelude.{option_map, slice_set, true}
use Rattle.std.proofs.lemmas.Grind.{common_steps}
use Rattle.ddf_bay.specs.Sectors.{Image}
use Rattle.ddf_bay.specs.Moments.{Mixes}
use Rattle.ddf_bay.proofs.Runs.{put_mixes}
use Rattle.ddf_array.specs.declared.site.Site.{Site}
use Rattle.ddf_read.specs.Along.{further}
use Rattle.ddf_read.proofs.Sites.{site_at_there}
use Rattle.ddf_read.proofs.SourcesAlong.{site_further}
use Rattle.ddf_cells.specs.Touching.{IsTouchedSlot}
use Rattle.ddf_cells.proofs.WriteSteps.{touch_here, writes_run}
use Rattle.ddf_write.specs.Writing.{MayGive}
use Rattle.ddf_cells.proofs.Whole.{whole_site}
use Rattle.ddf_write.proofs.RowSteps.{run_gives, run_only, run_set, run_written}
use Rattle.ddf_write.proofs.rows.set_run.Goals as goal
use Rattle.ddf_write.proofs.KeptValues.{never_some}

pub site_at-requires-clause-part : goal.site_at-requires-clause-part
site_at-requires-clause-part g c = c.requires.known.are_parts c.args.element c.args.part.now c.requires.is_part

pub unreachable-requires : goal.unreachable-requires
unreachable-requires g c =
    let own = whole_site c.args.view.now c.requires.whole c.args.element c.args.part.now c.requires.is_part c.requires.keeps c.args.parity c.args.sector c.requires.inside in
    never_some (c.in_default.ensures ∙ own.1)

pub touch-requires : goal.touch-requires
touch-requires g c =
    let there = site_at_there (g.B.Bay.disks c.args.bay.now).sizes c.args.part.now c.args.parity c.args.sector c.args.count c.in-Some.first (c.requires.fits c.args.element c.args.part.now c.requires.is_part) c.requires.sectors (sym c.in-Some.ensures) in
    omega (arith, there.slot_is, g.met.B.Bay.few c.args.bay.now)

pub write_run-requires-clause-slot : goal.write_run-requires-clause-slot
write_run-requires-clause-slot g c =
    let there = site_at_there (g.B.Bay.disks c.args.bay.now).sizes c.args.part.now c.args.parity c.args.sector c.args.count c.in-Some.first (c.requires.fits c.args.element c.args.part.now c.requires.is_part) c.requires.sectors (sym c.in-Some.ensures) in
    there.slot_is

pub returns-in-Ok-clause-writes : goal.returns-in-Ok-clause-writes
returns-in-Ok-clause-writes g c =
    let v = c.args.view.now in
    let one = c.in-Some.first in
    let mid = g.B.Bay.disks c.args.bay.now in
    let sums = c.sum_rows.new.out in
    let n : length c.sum_rows.new.out ≡ c.args.count = first_of (grind (arith, common_steps), search rules) in
    let there = site_at_there (g.B.Bay.disks c.args.bay.now).sizes c.args.part.now c.args.parity c.args.sector c.args.count one (c.requires.fits c.args.element c.args.part.now c.requires.is_part) c.requires.sectors (sym c.in-Some.ensures) in
    let few : one.slot < length c.args.touched.now = omega (arith, there.slot_is, g.met.B.Bay.few c.args.bay.now, c.told-touched) in
    rw c.touch.ensures
    (writes_run (MayGive v c.args.start c.args.from.now) g.B.Bay.tells one.slot one.lba sums c.args.touched.now _ _ few (omega (arith, n, c.requires.some))
    (run_gives v c.args.element c.args.part.now c.requires.is_part c.args.sector c.args.count c.args.parity c.requires.is_parity c.args.start c.args.from.now c.requires.rows_touched one (sym c.in-Some.ensures) sums n)
    (λ tells. subst (λ (f : Image). Mixes mid.held f one.slot one.lba sums) (sym (c.in-Ok.ensures.held tells)) (put_mixes mid.held one.slot one.lba sums))
    c.write_run.ensures.left c.write_run.ensures.any_moment c.write_run.ensures.spends)

pub returns-in-Err-clause-writes : goal.returns-in-Err-clause-writes
returns-in-Err-clause-writes g c =
    let v = c.args.view.now in
    let one = c.in-Some.first in
    let sums = c.sum_rows.new.out in
    let n : length c.sum_rows.new.out ≡ c.args.count = first_of (grind (arith, common_steps), search rules) in
    let there = site_at_there (g.B.Bay.disks c.args.bay.now).sizes c.args.part.now c.args.parity c.args.sector c.args.count one (c.requires.fits c.args.element c.args.part.now c.requires.is_part) c.requires.sectors (sym c.in-Some.ensures) in
    let few : one.slot < length c.args.touched.now = omega (arith, there.slot_is, g.met.B.Bay.few c.args.bay.now, c.told-touched) in
    rw c.touch.ensures
    (writes_run (MayGive v c.args.start c.args.from.now) g.B.Bay.tells one.slot one.lba sums c.args.touched.now _ _ few (omega (arith, n, c.requires.some))
    (run_gives v c.args.element c.args.part.now c.requires.is_part c.args.sector c.args.count c.args.parity c.requires.is_parity c.args.start c.args.from.now c.requires.rows_touched one (sym c.in-Some.ensures) sums n)
    (λ tells. c.in-Err.ensures.held_failed tells)
    c.write_run.ensures.left c.write_run.ensures.any_moment c.write_run.ensures.spends)

pub returns-in-Ok-clause-only : goal.returns-in-Ok-clause-only
returns-in-Ok-clause-only g c = λ tells s l.
    let v = c.args.view.now in
    let one = c.in-Some.first in
    let mid = g.B.Bay.disks c.args.bay.now in
    let new = g.B.Bay.disks c.write_run.new.self in
    let sums = c.sum_rows.new.out in
    let n : length c.sum_rows.new.out ≡ c.args.count = first_of (grind (arith, common_steps), search rules) in
    let mixes : Mixes mid.held new.held one.slot one.lba sums = subst (λ (f : Image). Mixes mid.held f one.slot one.lba sums) (sym (c.in-Ok.ensures.held tells)) (put_mixes mid.held one.slot one.lba sums) in
    (run_only v c.args.element c.args.part.now c.requires.is_part c.args.sector c.args.count c.args.parity c.requires.is_parity c.args.start c.args.from.now c.requires.rows_touched one (sym c.in-Some.ensures) sums n mid.held new.held mixes s l)

pub returns-in-Err-clause-only : goal.returns-in-Err-clause-only
returns-in-Err-clause-only g c = λ tells s l.
    let v = c.args.view.now in
    let one = c.in-Some.first in
    let mid = g.B.Bay.disks c.args.bay.now in
    let new = g.B.Bay.disks c.write_run.new.self in
    let sums = c.sum_rows.new.out in
    let n : length c.sum_rows.new.out ≡ c.args.count = first_of (grind (arith, common_steps), search rules) in
    (run_only v c.args.element c.args.part.now c.requires.is_part c.args.sector c.args.count c.args.parity c.requires.is_parity c.args.start c.args.from.now c.requires.rows_touched one (sym c.in-Some.ensures) sums n mid.held new.held (c.in-Err.ensures.held_failed tells) s l)

pub returns-in-Ok-clause-summed : goal.returns-in-Ok-clause-summed
returns-in-Ok-clause-summed g c = λ tells entry filled values j other below at.
    let v = c.args.view.now in
    let one = c.in-Some.first in
    let mid = g.B.Bay.disks c.args.bay.now in
    let new = g.B.Bay.disks c.write_run.new.self in
    let sums = c.sum_rows.new.out in
    let n : length c.sum_rows.new.out ≡ c.args.count = first_of (grind (arith, common_steps), search rules) in
    run_set v c.args.element c.args.part.now c.requires.is_part c.args.sector c.args.count c.args.parity c.requires.is_parity c.args.start c.args.from.now c.requires.rows_touched one (sym c.in-Some.ensures) sums n
    c.requires.known c.requires.apart c.requires.whole c.requires.inside c.requires.sectors mid.held new.held (c.in-Ok.ensures.held tells)
    (λ i inside. c.sum_rows.ensures.sums entry mid.held filled values i (omega (arith, inside, n)))
    j other below at

pub returns-in-Ok-clause-noted : goal.returns-in-Ok-clause-noted
returns-in-Ok-clause-noted g c = λ j other below at.
    let one = c.in-Some.first in
    let there = site_at_there (g.B.Bay.disks c.args.bay.now).sizes c.args.part.now c.args.parity c.args.sector c.args.count one (c.requires.fits c.args.element c.args.part.now c.requires.is_part) c.requires.sectors (sym c.in-Some.ensures) in
    let few : one.slot < length c.args.touched.now = omega (arith, there.slot_is, g.met.B.Bay.few c.args.bay.now, c.told-touched) in
    let same : further j one ≡ other = some_same (ap (option_map (further j)) c.in-Some.ensures ∙ sym (site_further c.args.part.now.places c.args.parity c.args.sector j) ∙ at) in
    rw c.touch.ensures (subst (λ (o : Site). IsTouchedSlot (slice_set c.args.touched.now one.slot true) o.slot) same (touch_here c.args.touched.now one.slot few))
  where
    some_same : {X : Type 0} {a b : X} → Some a ≡ Some b → a ≡ b
    some_same e = cc

pub returns-in-Err-clause-cause : goal.returns-in-Err-clause-cause
returns-in-Err-clause-cause g c =
    let v = c.args.view.now in
    let one = c.in-Some.first in
    let sums = c.sum_rows.new.out in
    let n : length c.sum_rows.new.out ≡ c.args.count = first_of (grind (arith, common_steps), search rules) in
    let written = run_written v c.args.element c.args.part.now c.requires.is_part c.args.sector c.args.count c.args.parity c.requires.is_parity c.args.start c.args.from.now c.requires.rows_touched one (sym c.in-Some.ensures) sums n c.requires.some in
    (written, c.in-Err.ensures.failed)
