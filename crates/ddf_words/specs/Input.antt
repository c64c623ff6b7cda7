-- The text of a batch, as the input gives it.
use Rattle.std.specs.Prelude.{◌≡◌, ℕ, ◌<◌, ◌≤◌, List, [], length}
use Rattle.ddf_bytes.specs.Counts.{Rose}
use Rattle.ddf_bytes.specs.Streams.{SourceState}
use Rattle.ddf_words.specs.declared.batch_input.BatchFault.{BatchFault}
use Rattle.ddf_words.specs.declared.batch_input.BatchFault.TheVariants.{Failed, Long, Memory}

-- All that was left is the text, at most 65,536 bytes of it. `tells` is that the input tells what is left.
pub record IsRead (tells : Type 0) (old new : SourceState) (text : List ℕ) : Type 0 where
  pub few : length text ≤ 65536
  pub is_all : tells → (text ≡ old.left) × (new.left ≡ [])
  pub same_faults : new.faults ≡ old.faults

-- Why there is no text: more was left, a read failed, or memory ran out before anything was read.
abbrev pub IsUnread : (tells : Type 0) (old new : SourceState) → BatchFault → Type 0
IsUnread tells old new Long = (tells → 65536 < length old.left) × (new.faults ≡ old.faults)
IsUnread tells old new Failed = Rose old.faults new.faults
IsUnread tells old new Memory = new ≡ old
