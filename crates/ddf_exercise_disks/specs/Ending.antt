-- How a call ends of which nothing fails.
use Rattle.std.specs.Prelude.{◌≡◌, ◌⊎◌, ℕ, List, [], ◌++◌}
use Rattle.ddf_bytes.specs.Streams.{SinkState}
use Rattle.ddf_answer.specs.Call.{Answer}

-- It told this and was done, so that this holds; or memory ran out, or its output failed.
abbrev pub EndsWell : Answer → (text : List ℕ) → (P : Type 0) → Type 0
EndsWell answer text P = (answer.status ≡ 5) ⊎ (answer.status ≡ 6) ⊎ ((answer.status ≡ 0) × (answer.new.taken ≡ answer.old.taken ++ text) × P)

-- an output that took nothing yet
abbrev pub unused : SinkState
unused = record { taken = []; faults = 0; empty_takes = 0 }
