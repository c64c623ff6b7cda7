-- How often a write of blocks calls the bay, where no element of the array keeps parity.
use Rattle.std.proofs.Common.{◌≡◌, ◌∙◌, ℕ, ◌+◌, ◌*◌, ◌<◌, ◌≤◌, false, List, length, Result, Ok, Err, ap, sym, subst, inl, arith}
use Rattle.ddf_bytes.specs.Streams.{SourceState}
use Rattle.ddf_bay.specs.State.{BayState}
use Rattle.ddf_array.specs.Volume.{Volume}
use Rattle.ddf_read.specs.declared.fault.VolumeFault.{VolumeFault}
use Rattle.ddf_read.specs.declared.fault.VolumeFault.TheVariants.{Degraded, Disk, Lost, Range, Unsure}
use Rattle.ddf_cells.specs.CellsOn.{write_stretches}
use Rattle.ddf_write.specs.Keeping.{Keeping}
use Rattle.ddf_write.specs.Looking.{most_blocks}
use Rattle.ddf_write.specs.RowWrites.{keeps_parity_anywhere}
use Rattle.ddf_pieces.specs.Pieces.{GrewByPieces}
use Rattle.ddf_pieces.specs.Writing.{ArePiecesWritten}
use Rattle.ddf_pieces.specs.declared.fault.PieceFault.TheVariants as pieces
use Rattle.ddf_group.specs.declared.answer.Assembly.{Assembly}
use Rattle.ddf_seats.specs.Group.{GroupValue}
use Rattle.ddf_answer.specs.Call.{Work, work_of}
use Rattle.ddf_read_commands.specs.Read.{most_looks}
use Rattle.ddf_write_commands.specs.Planned.{IsPlanned}
use Rattle.ddf_write_commands.specs.Write.{CallsOfPlan, CallsOfWriting, write_request}

-- ---- it only looked for the group

pub few_in : {D : Type 0} (work : Work D) (timestamp : ℕ) (word : List ℕ) (start count : ℕ) (answer : Result GroupValue Assembly) → work.new.calls ≤ work.old.calls + most_looks (length work.old.sizes)
    → CallsOfWriting work timestamp word start count answer
few_in work timestamp word start count (Ok found) few = inl few
few_in work timestamp word start count (Err fault) few = few

-- ---- what comes of the pieces

module _ (volume : Volume) (start count each : ℕ) (some : 0 < each) where
  pub none_grew : (old new : ℕ) → new ≤ old → GrewByPieces (write_stretches volume) each start count old new
  none_grew old new none = record { pieces = 0; few = omega (arith, some); grew = omega (arith, none) }

  pub stopped_grew : {D : Type 0} (tells : Type 0) (old new : BayState D) (ahead : ℕ) (kept : Keeping) (source_tells : Type 0) (before after : SourceState) (first : List ℕ) (fault : VolumeFault)
      → ArePiecesWritten tells old new volume start count each ahead kept source_tells before after first (Err (pieces.Volume fault)) → keeps_parity_anywhere volume ≡ false
      → GrewByPieces (write_stretches volume) each start count (old.calls + length old.sizes) new.calls
  stopped_grew tells old new ahead kept source_tells before after first (Range most) came none = let same = came.none_called in none_grew (old.calls + length old.sizes) new.calls (omega (arith, same))
  stopped_grew tells old new ahead kept source_tells before after first Lost came none = let same = came.none_called in none_grew (old.calls + length old.sizes) new.calls (omega (arith, same))
  stopped_grew tells old new ahead kept source_tells before after first Unsure came none = absurd came
  stopped_grew tells old new ahead kept source_tells before after first Degraded came none = let same = came.none_called in none_grew (old.calls + length old.sizes) new.calls (omega (arith, same))
  stopped_grew tells old new ahead kept source_tells before after first (Disk slot) came none = came.are.calls none

  -- between the steps
  pub grew_between : {D : Type 0} (old opened behind new : BayState D) → opened.sizes ≡ old.sizes → behind.sizes ≡ opened.sizes → opened.calls ≤ old.calls + 51 * length old.sizes
      → new.calls ≤ behind.calls + 25 * length behind.sizes → GrewByPieces (write_stretches volume) each start count (opened.calls + length opened.sizes) behind.calls
      → GrewByPieces (write_stretches volume) each start count (old.calls + 77 * length old.sizes) new.calls
  grew_between old opened behind new same_opened same_behind opens closes grew =
      let more = grew.grew in
      let one = ap (λ (sizes : List ℕ). length sizes) same_opened in
      let two = ap (λ (sizes : List ℕ). length sizes) same_behind in
      record { pieces = grew.pieces; few = grew.few; grew = omega (arith, more, one, two, opens, closes) }

-- ---- since the entry

module _ {D : Type 0} (tells : Type 0) (old middle looked : BayState D) (same_middle : middle.sizes ≡ old.sizes) (same_looked : looked.sizes ≡ middle.sizes)
    (read : middle.calls ≤ old.calls + 15 * length old.sizes) (timestamp : ℕ) (word : List ℕ) (start count : ℕ) (group : GroupValue) (planned : IsPlanned group timestamp word (write_request word start count))
    (view : Volume) (volume_is : planned.volume ≡ view) (idle : keeps_parity_anywhere view ≡ false → looked.calls ≡ middle.calls) where
  plain : keeps_parity_anywhere planned.volume ≡ false → keeps_parity_anywhere view ≡ false
  plain none = ap keeps_parity_anywhere (sym volume_is) ∙ none

  -- What lies beside the blocks was looked at, and it ended there.
  pub looked_calls : CallsOfPlan (work_of tells old looked) group timestamp word start count
  looked_calls = record {
    plan = planned;
    most = λ none. let same = idle (plain none) in record { pieces = 0; few = omega arith; grew = omega (arith, read, same) };
  }

  -- The blocks were written behind it, or some of them.
  pub written_calls : (new : BayState D) (each : ℕ) → (keeps_parity_anywhere view ≡ false → each ≡ most_blocks)
      → (keeps_parity_anywhere view ≡ false → GrewByPieces (write_stretches view) each start count (looked.calls + 77 * length looked.sizes) new.calls)
      → CallsOfPlan (work_of tells old new) group timestamp word start count
  written_calls new each each_is calls = record {
    plan = planned;
    most = λ none.
        let own = subst (λ (v : Volume). GrewByPieces (write_stretches v) most_blocks start count (looked.calls + 77 * length looked.sizes) new.calls) (sym volume_is)
        (subst (λ (n : ℕ). GrewByPieces (write_stretches view) n start count (looked.calls + 77 * length looked.sizes) new.calls) (each_is (plain none)) (calls (plain none))) in
        let more = own.grew in
        let same = idle (plain none) in
        let one = ap (λ (sizes : List ℕ). length sizes) same_middle in
        let two = ap (λ (sizes : List ℕ). length sizes) same_looked in
        record { pieces = own.pieces; few = own.few; grew = omega (arith, more, same, one, two, read) };
  }
