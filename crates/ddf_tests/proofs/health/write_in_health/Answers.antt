use Rattle.std.proofs.Common.{◌≡◌, ◌∙◌, ◌<◌, ◌≤◌, ◌+◌, ◌-◌, ◌^◌, ℕ, Result, Ok, Err, refl, ⊎_elim, arith, List}
use Rattle.std.specs.Prelude.{IfErr, slice_index}
use Rattle.ddf_bytes.specs.Counts.{Rose}
use Rattle.ddf_bay.specs.declared.disk_fault.DiskFault.{DiskFault}
use Rattle.ddf_bay.specs.Memory.{IsHealthy, MayBecome, MemoryState, state_of}
use Rattle.ddf_bay.specs.MemoryLaws.{becomes_start}
use Rattle.ddf_update.specs.Group.{IsOneOf}
use Rattle.ddf_tests.proofs.health.write_in_health.Goals as goal

none_failed : (old new : MemoryState) (n : ℕ) → MayBecome old new → IsHealthy old → new.asked ≤ old.asked + n → old.asked + n ≤ old.room + old.written
    → (slot : ℕ) → slice_index new.failed_writes slot ≡ slice_index old.failed_writes slot
none_failed old new n may healthy spent room slot = ⊎_elim (λ same. same)
    (λ short. absurd (omega (arith, short, may.same_room, spent, room)))
    (may.no_writes slot (record { none_listed = healthy.none_listed; never_over = healthy.never_over; plugged = healthy.plugged slot }))

no_rise : (a : ℕ) → a < 2 ^ 64 - 1 → Rose a a → ⊥
no_rise a below rose = ⊎_elim (λ up. omega (arith, up)) (λ last. omega (arith, last, below)) rose

answered : (result : Result (Unit {0}) DiskFault) (slots : List ℕ) (before after : ℕ → ℕ) → ((s : ℕ) → after s ≡ before s) → ((s : ℕ) → before s < 2 ^ 64 - 1)
    → IfErr result (λ e. IsOneOf slots e.0 × Rose (before e.0) (after e.0)) → result ≡ Ok tt
answered (Ok done) slots before after same below failed = refl
answered (Err e) slots before after same below failed = absurd (no_rise (before e.0) (below e.0) (rw (same e.0) at failed.1))

pub returns-clause-good : goal.returns-clause-good
returns-clause-good c =
    let old = state_of c.args.bay.now in
    let new = state_of c.write_disks.new.bay in
    let may : MayBecome old new = c.write_disks.ensures.spends.goes_on c.write_disks.new.bay (becomes_start new) in
    let same : (slot : ℕ) → slice_index new.failed_writes slot ≡ slice_index old.failed_writes slot = none_failed old new _ may c.requires.healthy c.write_disks.ensures.spends.costs.asked c.requires.room in
    answered c.write_disks.result c.args.slots.now (slice_index old.failed_writes) (slice_index new.failed_writes) same c.requires.below c.write_disks.ensures.failed

pub returns-clause-still : goal.returns-clause-still
returns-clause-still c =
    let may : MayBecome (state_of c.args.bay.now) (state_of c.write_disks.new.bay) = c.write_disks.ensures.spends.goes_on c.write_disks.new.bay (becomes_start (state_of c.write_disks.new.bay)) in
    record {
      none_listed = may.same_failing ∙ c.requires.healthy.none_listed;
      never_over = may.same_stop ∙ c.requires.healthy.never_over;
      plugged = λ slot. rw may.same_unplugged (c.requires.healthy.plugged slot);
    }
