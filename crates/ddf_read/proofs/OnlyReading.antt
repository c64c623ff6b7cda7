-- Calls that only read, one after another.
use Rattle.std.proofs.Common.{◌∙◌, refl, arith}
use Rattle.ddf_bytes.proofs.Common.{rose_behind}
use Rattle.ddf_bay.specs.State.{BayState}
use Rattle.ddf_bay.proofs.Looks.{reads_start, reads_then}
use Rattle.ddf_bay.proofs.Steps.{rose_since}
use Rattle.ddf_read.specs.Reading.{OnlyReads, Failed}
use Rattle.ddf_read.proofs.Tries.{Within}

-- before the first call
pub only_reads_start : {D : Type 0} (a : BayState D) → OnlyReads a a
only_reads_start a = record { reads = reads_start a; never_falls = λ slot. omega arith; same_writes = refl }

module _ {D : Type 0} {a b c : BayState D} (so_far : OnlyReads a b) (next : OnlyReads b c) where
  pub only_reads_then : OnlyReads a c
  only_reads_then = record {
    reads = reads_then so_far.reads next.reads;
    never_falls = λ slot. omega (arith, so_far.never_falls slot, next.never_falls slot);
    same_writes = next.same_writes ∙ so_far.same_writes;
  }

  pub failed_behind : Within (Failed a b) (Failed a c)
  failed_behind slot rose = rose_behind (a.failed_reads slot) (b.failed_reads slot) (c.failed_reads slot) (so_far.never_falls slot) (next.never_falls slot) rose

  pub failed_before : Within (Failed b c) (Failed a c)
  failed_before slot rose = rose_since (a.failed_reads slot) (b.failed_reads slot) (c.failed_reads slot) (so_far.never_falls slot) rose
