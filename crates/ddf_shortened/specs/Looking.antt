-- What a look at one slot leaves of a bay.
use Rattle.std.specs.Prelude.{ℕ}
use Rattle.ddf_bay.specs.State.{BayState}
use Rattle.ddf_bay.specs.Moments.{Remembers, SpendsReads}
use Rattle.ddf_bay.specs.ReadsOnly.{ReadsOnly}

-- It reads, in at most so many calls, and nothing else.
pub record Looks {D : Type 0} (old new : BayState D) (slot most : ℕ) : Type 0 where
  pub reads : ReadsOnly old new
  pub remembers : Remembers old new
  pub spends : SpendsReads old new slot most
