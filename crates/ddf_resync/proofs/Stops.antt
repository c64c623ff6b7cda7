-- Causes behind earlier calls.
use Rattle.std.proofs.Common.{◌⊎◌, inl, inr, ℕ, ◌+◌, ◌≤◌, Bool, List, Some, arith}
use Rattle.ddf_bytes.specs.Counts.{Rose}
use Rattle.ddf_bay.specs.State.{BayState}
use Rattle.ddf_bay.proofs.Steps.{rose_since, rose_then}
use Rattle.ddf_array.specs.Sources.{sources}
use Rattle.ddf_array.specs.Volume.{Volume}
use Rattle.ddf_read.specs.Reading.{Failed, OnlyReads}
use Rattle.ddf_read.proofs.Tries.{NotRead-wider}
use Rattle.ddf_cells.specs.CellSources.{cell_sources}
use Rattle.ddf_cells.specs.Touching.{Giving, Writes}
use Rattle.ddf_resync.specs.Copying.{Asks}
use Rattle.ddf_resync.specs.Resyncing.{NoneLeftOfBlock, NoneLeftOfRow}

module _ {D : Type 0} (May Other : Giving) (tells : Type 0) {a b c : BayState D} {t u w x : List Bool} (first : Writes May tells a b t u) (next : Writes Other tells b c w x) where
  pub failed_since : (slot : ℕ) → Failed b c slot → Failed a c slot
  failed_since slot rose = rose_since (a.failed_reads slot) (b.failed_reads slot) (c.failed_reads slot) (first.reads_rise slot) rose

  pub block_since : (v : Volume) (Named : ℕ → Type 0) (slot : ℕ) → (Named slot × Rose (b.failed_writes slot) (c.failed_writes slot)) ⊎ NoneLeftOfBlock (Failed b c) v slot → (Named slot × Rose (a.failed_writes slot) (c.failed_writes slot)) ⊎ NoneLeftOfBlock (Failed a c) v slot
  block_since v Named slot (inl (named, rose)) = inl (named, rose_since (a.failed_writes slot) (b.failed_writes slot) (c.failed_writes slot) (first.writes_rise slot) rose)
  block_since v Named slot (inr left) = inr (record { block = left.block; below = left.below; several = left.several; none_left = NotRead-wider failed_since (sources v left.block) (Some slot) left.none_left })

  pub row_since : (v : Volume) (Named : ℕ → Type 0) (slot : ℕ) → (Named slot × Rose (b.failed_writes slot) (c.failed_writes slot)) ⊎ NoneLeftOfRow (Failed b c) v slot → (Named slot × Rose (a.failed_writes slot) (c.failed_writes slot)) ⊎ NoneLeftOfRow (Failed a c) v slot
  row_since v Named slot (inl (named, rose)) = inl (named, rose_since (a.failed_writes slot) (b.failed_writes slot) (c.failed_writes slot) (first.writes_rise slot) rose)
  row_since v Named slot (inr left) =
      let of = left.for_sum in
      inr (record {
        element = left.element;
        part = left.part;
        is_part = left.is_part;
        sector = left.sector;
        count = left.count;
        keeps = left.keeps;
        inside = left.inside;
        for_sum = record {
          cell = of.cell;
          is_in = of.is_in;
          number = of.number;
          other = of.other;
          is_data = of.is_data;
          none_left = NotRead-wider failed_since (cell_sources v left.element left.part (left.sector + of.cell) of.other) (Some slot) of.none_left;
        };
      })

  pub failed_before : (slot : ℕ) → Failed a b slot → Failed a c slot
  failed_before slot rose = rose_then (a.failed_reads slot) (b.failed_reads slot) (c.failed_reads slot) (first.reads_rise slot) rose (next.reads_rise slot)

-- sectors that are asked for while a count goes on
pub asks_start : {D : Type 0} (a : BayState D) (n : ℕ) → Asks a a n n
asks_start a n = record { asked = omega arith; written = omega arith }

pub asks_then : {D : Type 0} {a b c : BayState D} (from mid to : ℕ) → Asks a b from mid → Asks b c mid to → Asks a c from to
asks_then from mid to first next = record { asked = omega (arith, first.asked, next.asked); written = omega (arith, first.written, next.written) }

-- those of calls that only read
pub asks_read : {D : Type 0} {a b : BayState D} (from to : ℕ) → OnlyReads a b → from ≤ to → Asks a b from to
asks_read from to reads le = record { asked = omega (arith, reads.reads.none_asked, le); written = omega (arith, reads.reads.none_written, le) }

-- and of reads before writes
pub asks_behind : {D : Type 0} {a b c : BayState D} (from to n : ℕ) → OnlyReads a b → c.sectors_asked ≤ b.sectors_asked + n → c.sectors_written ≤ b.sectors_written + n → from + n ≤ to → Asks a c from to
asks_behind from to n reads asked written le = record { asked = omega (arith, reads.reads.none_asked, asked, le); written = omega (arith, reads.reads.none_written, written, le) }

-- a count that begins elsewhere
pub asks_from : {D : Type 0} {a b : BayState D} (n most from to : ℕ) → Asks a b 0 n → n ≤ most → from + most ≤ to → Asks a b from to
asks_from n most from to asks le le' = record { asked = omega (arith, asks.asked, le, le'); written = omega (arith, asks.written, le, le') }
