-- What is known of where slots are seen to end.
use Rattle.std.specs.Prelude.{ℕ, Bool}
use Rattle.ddf_shortened.specs.declared.ends.Ends.{Ends}
use Rattle.ddf_shortened.specs.SlotEnds.{end_at, is_early, is_unread}

-- a slot is seen 256 sectors shorter than it is
abbrev pub ends_before : Ends → ℕ → Bool
ends_before ends slot = is_early (end_at ends.slots slot)

-- a read of the look at it failed
abbrev pub unread_in : Ends → ℕ → Bool
unread_in ends slot = is_unread (end_at ends.slots slot)
