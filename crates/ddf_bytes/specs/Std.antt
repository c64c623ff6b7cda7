-- A source and a sink over std's: nothing of their bytes is told, but what std tells of the reader and the writer holds through them.
use Rattle.std.specs.Prelude.{ℕ, List, [], Option}
use Rattle.ddf_bytes.specs.Streams.{SourceState, SinkState}
use Rattle.ddf_bytes.specs.declared.std_source.StdSource.{StdSource}
use Rattle.ddf_bytes.specs.declared.std_sink.StdSink.{StdSink}

abbrev pub std_input : {R : Type 0} → StdSource R → SourceState
std_input source = record { left = []; faults = source.faults }

abbrev pub std_output : {W : Type 0} → StdSink W → SinkState
std_output sink = record { taken = []; faults = sink.faults; empty_takes = sink.empty_takes }

-- the bytes that the reader has left, where std knows them
abbrev pub reader_left : {R : Type 0} → (R → Option (List ℕ)) → StdSource R → Option (List ℕ)
reader_left left source = left source.reader

-- the bytes that the writer holds, where std knows them
abbrev pub writer_held : {W : Type 0} → (W → Option (List ℕ)) → StdSink W → Option (List ℕ)
writer_held held sink = held sink.writer
