use Rattle.std.proofs.Common.{◌≡◌, ◌∙◌, inl, inr, ℕ, ◌+◌, ◌/◌, ◌<◌, ◌≤◌, ◌^◌, None, Some, sym, ap, subst, arith, length, rules, []}
use Rattle.std.specs.Prelude.{slice_index_or}
use Rattle.std.proofs.lemmas.Grind.{common_steps}
use Rattle.std.proofs.lemmas.Option.{slice_get_within}
use Rattle.ddf_bytes.specs.Counts.{Rose}
use Rattle.ddf_bay.specs.Sectors.{Image}
use Rattle.ddf_bay.specs.Moments.{Mixes}
use Rattle.ddf_bay.proofs.Runs.{put_mixes}
use Rattle.ddf_primary.specs.Cells.{depth_of, parity_member}
use Rattle.ddf_primary.proofs.ShapeFacts.{depth_le}
use Rattle.ddf_array.specs.declared.part.Part.{Part}
use Rattle.ddf_array.specs.declared.site.Site.{Site}
use Rattle.ddf_array.specs.Rows.{row_sum}
use Rattle.ddf_cells.proofs.Depths.{blocks_small}
use Rattle.ddf_cells.proofs.WriteSteps.{touch_here, writes_read}
use Rattle.ddf_resync.specs.Setting.{SetsParity}
use Rattle.ddf_resync.proofs.SetStep.{parity_along, parity_is, parity_slot, parity_there, step_kept, step_noted, step_right, step_writes}
use Rattle.ddf_resync.proofs.Stops.{asks_behind, asks_read}
use Rattle.ddf_resync.proofs.setting.set_piece.Goals as goal

pub strip_of-requires : goal.strip_of-requires
strip_of-requires g c =
    c.requires.known.are_parts c.args.element c.args.part.now c.requires.is_part

pub site_at-requires-clause-part : goal.site_at-requires-clause-part
site_at-requires-clause-part g c =
    c.requires.known.are_parts c.args.element c.args.part.now c.requires.is_part

pub read_sums-requires-clause-small : goal.read_sums-requires-clause-small
read_sums-requires-clause-small g c =
    let shape = c.args.part.now.shape in
    let inside : c.args.sector + c.args.count ≤ depth_of shape = c.requires.sectors in
    let all : c.args.sector + c.args.count < 2 ^ 64 =
    omega (arith, inside, depth_le shape.layout shape.strip shape.blocks, blocks_small shape (c.requires.known.are_parts c.args.element c.args.part.now c.requires.is_part).shape_is) in
    first_of (grind (arith, common_steps), search rules)

pub read_sums-requires-clause-there : goal.read_sums-requires-clause-there
read_sums-requires-clause-there g c =
    slice_get_within c.args.view.now.parts c.args.element c.args.part.now c.requires.is_part

pub read_sums-requires-clause-parity : goal.read_sums-requires-clause-parity
read_sums-requires-clause-parity g c = λ other at k below.
    let is = parity_is c.args.part.now c.args.sector c.strip_of.result _ c.from-parity.result c.strip_of.ensures c.in-Some.ensures c.from-parity.ensures in
    let same : c.args.part.now ≡ other = some_is (sym c.requires.is_part ∙ at) in
    let within : k < c.args.count = first_of (grind (arith, common_steps), search rules) in
    subst (λ (q : Part). parity_member q.shape ((c.args.sector + k) / q.shape.strip) ≡ Some c.from-parity.result) same (parity_along c.args.view.now c.requires.known c.args.element c.args.part.now c.requires.is_part c.requires.keeps c.args.sector c.args.count c.requires.some c.requires.sectors c.requires.row c.from-parity.result is k within)
  where
    some_is : {X : Type 0} {a b : X} → Some a ≡ Some b → a ≡ b
    some_is e = cc

pub unreachable-requires-in_default-site_at : goal.unreachable-requires-in_default-site_at
unreachable-requires-in_default-site_at g c =
    let is = parity_is c.args.part.now c.args.sector c.strip_of.result _ c.from-parity.result c.strip_of.ensures c.in-Some.ensures c.from-parity.ensures in
    never (c.in_default-site_at.ensures ∙ (parity_there c.args.view.now c.requires.known c.args.element c.args.part.now c.requires.is_part c.requires.keeps c.args.sector c.args.count c.requires.some c.requires.sectors c.requires.row c.from-parity.result is c.requires.whole).1)
  where
    never : {one : Site} → None ≡ Some one → ⊥
    never e = cc

pub touch-requires : goal.touch-requires
touch-requires g c =
    let is = parity_is c.args.part.now c.args.sector c.strip_of.result _ c.from-parity.result c.strip_of.ensures c.in-Some.ensures c.from-parity.ensures in
    let first = c.in-Some-site_at.first in
    let at = sym c.in-Some-site_at.ensures in
    omega (arith, parity_slot c.args.view.now c.requires.known c.args.element c.args.part.now c.requires.is_part c.requires.keeps c.args.sector c.args.count c.requires.some c.requires.sectors c.requires.row c.from-parity.result is first at (g.B.Bay.disks c.args.bay.now).sizes c.requires.fits, g.met.B.Bay.few c.args.bay.now)

pub write_run-requires-clause-slot : goal.write_run-requires-clause-slot
write_run-requires-clause-slot g c =
    let is = parity_is c.args.part.now c.args.sector c.strip_of.result _ c.from-parity.result c.strip_of.ensures c.in-Some.ensures c.from-parity.ensures in
    let first = c.in-Some-site_at.first in
    let at = sym c.in-Some-site_at.ensures in
    rw c.in_ok-read_sums.ensures.reads.reads.same_sizes (parity_slot c.args.view.now c.requires.known c.args.element c.args.part.now c.requires.is_part c.requires.keeps c.args.sector c.args.count c.requires.some c.requires.sectors c.requires.row c.from-parity.result is first at (g.B.Bay.disks c.args.bay.now).sizes c.requires.fits)

-- no source is left of a data cell
pub returns-in_err-read_sums-clause-asks : goal.returns-in_err-read_sums-clause-asks
returns-in_err-read_sums-clause-asks g c =
    asks_read 0 c.args.count c.in_err-read_sums.ensures.reads (omega arith)

-- the sums are written
pub returns-in-Ok-clause-writes : goal.returns-in-Ok-clause-writes
returns-in-Ok-clause-writes g c =
    let is = parity_is c.args.part.now c.args.sector c.strip_of.result _ c.from-parity.result c.strip_of.ensures c.in-Some.ensures c.from-parity.ensures in
    let first = c.in-Some-site_at.first in
    let at = sym c.in-Some-site_at.ensures in
    let mid = g.B.Bay.disks c.read_sums.new.bay in
    let sums = c.read_sums.new.out in
    let n : length c.read_sums.new.out ≡ c.args.count = first_of (grind (arith, common_steps), search rules) in
    let few : first.slot < length c.args.touched.now = omega (arith, parity_slot c.args.view.now c.requires.known c.args.element c.args.part.now c.requires.is_part c.requires.keeps c.args.sector c.args.count c.requires.some c.requires.sectors c.requires.row c.from-parity.result is first at (g.B.Bay.disks c.args.bay.now).sizes c.requires.fits, g.met.B.Bay.few c.args.bay.now, c.told-touched) in
    rw c.touch.ensures
    (step_writes c.args.view.now c.requires.known c.args.element c.args.part.now c.requires.is_part c.requires.keeps c.args.sector c.args.count c.requires.some c.requires.sectors c.requires.row c.from-parity.result is first at c.requires.apart sums n c.in_ok-read_sums.ensures.reads g.B.Bay.tells c.args.touched.now _ _ few
    (λ tells. subst (λ (f : Image). Mixes mid.held f first.slot first.lba sums) (sym (c.in-Ok.ensures.held tells)) (put_mixes mid.held first.slot first.lba sums))
    c.write_run.ensures.left c.write_run.ensures.any_moment c.write_run.ensures.spends)

pub returns-in-Err-clause-writes : goal.returns-in-Err-clause-writes
returns-in-Err-clause-writes g c =
    let is = parity_is c.args.part.now c.args.sector c.strip_of.result _ c.from-parity.result c.strip_of.ensures c.in-Some.ensures c.from-parity.ensures in
    let first = c.in-Some-site_at.first in
    let at = sym c.in-Some-site_at.ensures in
    let sums = c.read_sums.new.out in
    let n : length c.read_sums.new.out ≡ c.args.count = first_of (grind (arith, common_steps), search rules) in
    let few : first.slot < length c.args.touched.now = omega (arith, parity_slot c.args.view.now c.requires.known c.args.element c.args.part.now c.requires.is_part c.requires.keeps c.args.sector c.args.count c.requires.some c.requires.sectors c.requires.row c.from-parity.result is first at (g.B.Bay.disks c.args.bay.now).sizes c.requires.fits, g.met.B.Bay.few c.args.bay.now, c.told-touched) in
    rw c.touch.ensures
    (step_writes c.args.view.now c.requires.known c.args.element c.args.part.now c.requires.is_part c.requires.keeps c.args.sector c.args.count c.requires.some c.requires.sectors c.requires.row c.from-parity.result is first at c.requires.apart sums n c.in_ok-read_sums.ensures.reads g.B.Bay.tells c.args.touched.now _ _ few
    (λ tells. c.in-Err.ensures.held_failed tells)
    c.write_run.ensures.left c.write_run.ensures.any_moment c.write_run.ensures.spends)

pub returns-in-Ok-clause-set : goal.returns-in-Ok-clause-set
returns-in-Ok-clause-set g c = λ tells equal.
    let is = parity_is c.args.part.now c.args.sector c.strip_of.result _ c.from-parity.result c.strip_of.ensures c.in-Some.ensures c.from-parity.ensures in
    let first = c.in-Some-site_at.first in
    let at = sym c.in-Some-site_at.ensures in
    let sums = c.read_sums.new.out in
    let n : length c.read_sums.new.out ≡ c.args.count = first_of (grind (arith, common_steps), search rules) in
    let are : (j : ℕ) → j < c.args.count → slice_index_or sums j [] ≡ row_sum c.args.view.now (g.B.Bay.disks c.args.bay.now).held c.args.element c.args.part.now (c.args.sector + j) =
    λ j below. c.in_ok-read_sums.ensures.sums tells (inr (inr (c.requires.marked, equal))) c.args.part.now c.requires.is_part j (omega (arith, below, n, c.read_sums.auto.out)) in
    step_right c.args.view.now c.requires.known c.args.element c.args.part.now c.requires.is_part c.requires.keeps c.args.sector c.args.count c.requires.some c.requires.sectors c.requires.row c.from-parity.result is first at c.requires.apart sums n c.in_ok-read_sums.ensures.reads c.requires.whole (g.B.Bay.disks c.write_run.new.self).held (c.in-Ok.ensures.held tells) are

pub returns-in-Ok-clause-kept : goal.returns-in-Ok-clause-kept
returns-in-Ok-clause-kept g c = λ tells equal.
    let is = parity_is c.args.part.now c.args.sector c.strip_of.result _ c.from-parity.result c.strip_of.ensures c.in-Some.ensures c.from-parity.ensures in
    let first = c.in-Some-site_at.first in
    let at = sym c.in-Some-site_at.ensures in
    let sums = c.read_sums.new.out in
    let n : length c.read_sums.new.out ≡ c.args.count = first_of (grind (arith, common_steps), search rules) in
    let are : (j : ℕ) → j < c.args.count → slice_index_or sums j [] ≡ row_sum c.args.view.now (g.B.Bay.disks c.args.bay.now).held c.args.element c.args.part.now (c.args.sector + j) =
    λ j below. c.in_ok-read_sums.ensures.sums tells (inr (inr (c.requires.marked, equal))) c.args.part.now c.requires.is_part j (omega (arith, below, n, c.read_sums.auto.out)) in
    step_kept c.args.view.now c.requires.known c.args.element c.args.part.now c.requires.is_part c.requires.keeps c.args.sector c.args.count c.requires.some c.requires.sectors c.requires.row c.from-parity.result is first at c.requires.apart sums n c.in_ok-read_sums.ensures.reads c.requires.whole (g.B.Bay.disks c.write_run.new.self).held (c.in-Ok.ensures.held tells) are

pub returns-in-Ok-clause-noted : goal.returns-in-Ok-clause-noted
returns-in-Ok-clause-noted g c =
    let is = parity_is c.args.part.now c.args.sector c.strip_of.result _ c.from-parity.result c.strip_of.ensures c.in-Some.ensures c.from-parity.ensures in
    let first = c.in-Some-site_at.first in
    let at = sym c.in-Some-site_at.ensures in
    let few : first.slot < length c.args.touched.now = omega (arith, parity_slot c.args.view.now c.requires.known c.args.element c.args.part.now c.requires.is_part c.requires.keeps c.args.sector c.args.count c.requires.some c.requires.sectors c.requires.row c.from-parity.result is first at (g.B.Bay.disks c.args.bay.now).sizes c.requires.fits, g.met.B.Bay.few c.args.bay.now, c.told-touched) in
    rw c.touch.ensures (step_noted c.args.view.now c.requires.known c.args.element c.args.part.now c.requires.is_part c.requires.keeps c.args.sector c.args.count c.requires.some c.requires.sectors c.requires.row c.from-parity.result is first at c.args.touched.now few)

pub returns-in-Ok-clause-asks : goal.returns-in-Ok-clause-asks
returns-in-Ok-clause-asks g c =
    let n : length c.read_sums.new.out ≡ c.args.count = first_of (grind (arith, common_steps), search rules) in
    let costs = c.write_run.ensures.spends.costs in
    asks_behind 0 c.args.count (length c.read_sums.new.out) c.in_ok-read_sums.ensures.reads costs.asked costs.written (omega (arith, n))

pub returns-in-Err-clause-asks : goal.returns-in-Err-clause-asks
returns-in-Err-clause-asks g c =
    let n : length c.read_sums.new.out ≡ c.args.count = first_of (grind (arith, common_steps), search rules) in
    let costs = c.write_run.ensures.spends.costs in
    asks_behind 0 c.args.count (length c.read_sums.new.out) c.in_ok-read_sums.ensures.reads costs.asked costs.written (omega (arith, n))

pub returns-in-Err-clause-cause : goal.returns-in-Err-clause-cause
returns-in-Err-clause-cause g c =
    let is = parity_is c.args.part.now c.args.sector c.strip_of.result _ c.from-parity.result c.strip_of.ensures c.in-Some.ensures c.from-parity.ensures in
    let first = c.in-Some-site_at.first in
    let at = sym c.in-Some-site_at.ensures in
    let old = g.B.Bay.disks c.args.bay.now in
    let mid = g.B.Bay.disks c.read_sums.new.bay in
    let new = g.B.Bay.disks c.write_run.new.self in
    let few : first.slot < length c.args.touched.now = omega (arith, parity_slot c.args.view.now c.requires.known c.args.element c.args.part.now c.requires.is_part c.requires.keeps c.args.sector c.args.count c.requires.some c.requires.sectors c.requires.row c.from-parity.result is first at (g.B.Bay.disks c.args.bay.now).sizes c.requires.fits, g.met.B.Bay.few c.args.bay.now, c.told-touched) in
    let same : mid.failed_writes first.slot ≡ old.failed_writes first.slot = ap (λ (f : ℕ → ℕ). f first.slot) c.in_ok-read_sums.ensures.reads.same_writes in
    inl (rw c.touch.ensures (touch_here c.args.touched.now first.slot few), subst (λ (n : ℕ). Rose n (new.failed_writes first.slot)) same c.in-Err.ensures.failed)

pub returns-in_err-read_sums-clause-writes : goal.returns-in_err-read_sums-clause-writes
returns-in_err-read_sums-clause-writes g c = writes_read (SetsParity c.args.view.now) g.B.Bay.tells c.args.touched.now c.in_err-read_sums.ensures.reads
