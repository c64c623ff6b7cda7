-- What a call tells its output, and how it ends.
use Rattle.std.specs.Prelude.{◌≡◌, ◌⊎◌, ℕ, ◌<◌, List, ◌++◌}
use Rattle.ddf_bytes.specs.Streams.{TakesFront}
use Rattle.ddf_answer.specs.Call.{Answer}

-- The text was written. Where memory or the output gave out, it is a front of it.
pub record Tells (answer : Answer) (text : List ℕ) : Type 0 where
  pub whole : answer.status < 5 → answer.new.taken ≡ answer.old.taken ++ text
  pub front : TakesFront answer.old answer.new text

-- memory ran out, or a stream failed
abbrev pub IsCutShort : ℕ → Type 0
IsCutShort status = (status ≡ 5) ⊎ (status ≡ 6)

-- A call tells this text and ends with this status, unless it is cut short.
pub record EndsWith (expected : ℕ) (text : List ℕ) (answer : Answer) : Type 0 where
  pub ends : (answer.status ≡ expected) ⊎ IsCutShort answer.status
  pub tells : answer.tells → Tells answer text

-- A call told exactly this text and ended with this status.
pub record EndedWith (expected : ℕ) (text : List ℕ) (answer : Answer) : Type 0 where
  pub ends : answer.status ≡ expected
  pub tells : answer.tells → answer.new.taken ≡ answer.old.taken ++ text

-- A call that takes no memory any more tells this text and ends with this status, unless the output gives out.
pub record ClosesWith (expected : ℕ) (text : List ℕ) (answer : Answer) : Type 0 where
  pub ends : (answer.status ≡ expected) ⊎ (answer.status ≡ 6)
  pub tells : answer.tells → Tells answer text
