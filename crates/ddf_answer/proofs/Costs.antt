-- How many sectors are asked to be written: those of a copy, and of calls one behind another.
use Rattle.std.proofs.Common.{◌≡◌, ◌∙◌, ℕ, ◌+◌, ◌*◌, ◌≤◌, List, [], ◌∷◌, length, refl, ap, arith}
use Rattle.ddf_bay.specs.Moments.{Costs}
use Rattle.ddf_bay.specs.ReadsOnly.{ReadsOnly}
use Rattle.ddf_bay.specs.State.{BayState}
use Rattle.ddf_header.specs.declared.geometry.Geometry.{Geometry}
use Rattle.ddf_header.specs.declared.geometry.Section.{Section}
use Rattle.ddf_header.specs.Geometry.{section_of}
use Rattle.ddf_copy.specs.declared.copy.DiskCopy.{DiskCopy}
use Rattle.ddf_copy.specs.declared.raw.Raw.{Raw}
use Rattle.ddf_copy.specs.declared.run.Run.{Run}
use Rattle.ddf_copy.specs.Runs.{AreRunsOf, log_run, runs_at, sector_count}
use Rattle.ddf_copy.specs.Sections.{HasSizes}
use Rattle.ddf_answer.specs.Call.{Work, work_of}
use Rattle.ddf_answer.specs.Costs.{WritesAtMost, copy_sectors, disk_sectors}

-- ---- a copy

log_count : (section : Section) (sectors : List (List ℕ)) → sector_count (log_run section sectors) ≡ length sectors
log_count section [] = refl
log_count section (sector ∷ sectors) = omega arith

count_at : (geometry : Geometry) (raw : Raw) → HasSizes geometry raw → sector_count (runs_at geometry raw) ≡ copy_sectors geometry
unfolding copy_sectors
count_at geometry raw sizes =
    let log = log_count (section_of geometry 5) raw.bad_blocks in
    omega (arith, log, sizes.disks_size, sizes.arrays_size, sizes.records_size, sizes.bad_blocks_size)

-- The runs of a copy have the sectors that are written of it.
pub runs_count : (copy : DiskCopy) (runs : List Run) → AreRunsOf copy runs → sector_count runs ≡ copy_sectors copy.header.geometry
runs_count copy runs are = ap sector_count are.are_runs ∙ count_at copy.header.geometry are.raw are.has_sizes

pub disk_count : (copy : DiskCopy) (runs : List Run) → AreRunsOf copy runs → 2 * (sector_count runs + 2) + 1 ≡ disk_sectors copy
disk_count copy runs are = ap (λ n. 2 * (n + 2) + 1) (runs_count copy runs are)

-- ---- calls

-- It only read.
pub none_written : {D : Type 0} (work : Work D) → ReadsOnly work.old work.new → WritesAtMost work 0
none_written work reads = record {
  asked = let same = reads.none_asked in omega (arith, same);
  written = let same = reads.none_written in omega (arith, same);
}

-- Less is said of it.
pub writes_most : {D : Type 0} {work : Work D} {few : ℕ} (most : ℕ) → few ≤ most → WritesAtMost work few → WritesAtMost work most
writes_most most le writes = record {
  asked = let few = writes.asked in omega (arith, le, few);
  written = let few = writes.written in omega (arith, le, few);
}

-- One call came behind another.
pub writes_then : {D : Type 0} (tells : Type 0) {old middle new : BayState D} {first second : ℕ} (most : ℕ) → first + second ≤ most → WritesAtMost (work_of tells old middle) first
    → WritesAtMost (work_of tells middle new) second → WritesAtMost (work_of tells old new) most
writes_then tells most le one other = record {
  asked = let first = one.asked in let second = other.asked in omega (arith, le, first, second);
  written = let first = one.written in let second = other.written in omega (arith, le, first, second);
}

-- It read before it wrote.
pub writes_since : {D : Type 0} (tells : Type 0) (old middle new : BayState D) → ReadsOnly old middle → (most : ℕ) → WritesAtMost (work_of tells middle new) most → WritesAtMost (work_of tells old new) most
writes_since tells old middle new reads most writes = record {
  asked = let same = reads.none_asked in let few = writes.asked in omega (arith, same, few);
  written = let same = reads.none_written in let few = writes.written in omega (arith, same, few);
}

-- It is what it costs.
pub costs_writes : {D : Type 0} (tells : Type 0) {old new : BayState D} {sectors calls : ℕ} → Costs old new sectors calls → WritesAtMost (work_of tells old new) sectors
costs_writes tells costs = record { asked = costs.asked; written = costs.written }
