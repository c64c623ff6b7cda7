-- A source and a sink in memory, as contracts see them: what they hold, and which of their calls fail.
use Rattle.std.specs.Prelude.{ℕ, List, Bool, ◌==◌}
use Rattle.std.specs.List.{list_any}
use Rattle.ddf_bytes.specs.Streams.{SourceState, SinkState}

-- the number stands in the list of the calls that fail
abbrev pub is_listed : List ℕ → ℕ → Bool
is_listed failing number = list_any (λ listed. listed == number) failing

-- a source in memory: the bytes that are left, the numbers of the calls that fail, the calls made, those that failed
pub record MemoryInput : Type 0 where
  pub left : List ℕ
  pub failing : List ℕ
  pub calls : ℕ
  pub faults : ℕ

-- a sink in memory: the bytes that were taken, how many more fit, and its calls
pub record MemoryOutput : Type 0 where
  pub taken : List ℕ
  pub room : ℕ
  pub failing : List ℕ
  pub calls : ℕ
  pub faults : ℕ
  pub empty_takes : ℕ

-- what each of them tells
abbrev pub input_of : MemoryInput → SourceState
input_of source = record { left = source.left; faults = source.faults }

abbrev pub output_of : MemoryOutput → SinkState
output_of sink = record { taken = sink.taken; faults = sink.faults; empty_takes = sink.empty_takes }
