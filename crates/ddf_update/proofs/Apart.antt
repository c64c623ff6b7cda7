-- When runs lie apart: in order, one behind the other.
use Rattle.std.proofs.Common.{◌⊎◌, ℕ, ◌+◌, ◌<◌, ◌≤◌, List, [], ◌∷◌, length, inl, inr, ⊎_elim, arith}
use Rattle.ddf_copy.specs.declared.run.Run.{Run}
use Rattle.ddf_update.specs.declared.gate.Gate.{Gate}
use Rattle.ddf_copy.specs.Runs.{AreApart, IsInCopy, RunsCover}
use Rattle.ddf_update.specs.Gate.{AreBothApart}

-- the first run begins at this offset or behind it, and each other one behind the run before it
abbrev pub AreInOrder : (from : ℕ) → List Run → Type 0
AreInOrder from [] = Unit {0}
AreInOrder from (run ∷ runs) = (from ≤ run.offset) × AreInOrder (run.offset + length run.sectors) runs

-- where the last of them ends
abbrev pub end_of : (from : ℕ) → List Run → ℕ
end_of from [] = from
end_of from (run ∷ runs) = end_of (run.offset + length run.sectors) runs

past_from : (from lba : ℕ) (runs : List Run) (l : ℕ) → AreInOrder from runs → RunsCover lba runs l → lba + from ≤ l
past_from from lba [] l order there = absurd there
past_from from lba (run ∷ runs) l order (inl there) = omega (arith, order.0, there.0)
past_from from lba (run ∷ runs) l order (inr there) = omega (arith, order.0, past_from (run.offset + length run.sectors) lba runs l order.1 there)

from_below : (from : ℕ) (runs : List Run) → AreInOrder from runs → from ≤ end_of from runs
from_below from [] order = omega arith
from_below from (run ∷ runs) order = omega (arith, order.0, from_below (run.offset + length run.sectors) runs order.1)

before_end : (from lba : ℕ) (runs : List Run) (l : ℕ) → AreInOrder from runs → RunsCover lba runs l → l < lba + end_of from runs
before_end from lba [] l order there = absurd there
before_end from lba (run ∷ runs) l order (inl there) = omega (arith, there.1, from_below (run.offset + length run.sectors) runs order.1)
before_end from lba (run ∷ runs) l order (inr there) = before_end (run.offset + length run.sectors) lba runs l order.1 there

pub apart_in_order : (from : ℕ) (runs : List Run) → 0 < from → AreInOrder from runs → AreApart runs
apart_in_order from [] behind order = tt
apart_in_order from (run ∷ runs) behind order = (
  omega (arith, order.0),
  λ l low high there. omega (arith, high, past_from (run.offset + length run.sectors) 0 runs l order.1 there),
  apart_in_order (run.offset + length run.sectors) runs (omega (arith, order.0)) order.1,
)

-- a copy ends where its last run does
module _ (from : ℕ) (runs : List Run) (behind : 0 < from) (order : AreInOrder from runs) where
  pub copy_within : (lba l : ℕ) → IsInCopy lba runs l → (lba ≤ l) × (l < lba + end_of from runs)
  copy_within lba l (inl here) = (omega (arith, here), omega (arith, here, from_below from runs order))
  copy_within lba l (inr there) = (omega (arith, past_from from lba runs l order there), before_end from lba runs l order there)

  pub both_apart : (first second : Gate) → (first.lba + end_of from runs ≤ second.lba) ⊎ (second.lba + end_of from runs ≤ first.lba) → AreBothApart first second runs
  both_apart first second apart l one two =
      let at_one = copy_within first.lba l one in
      let at_two = copy_within second.lba l two in
      ⊎_elim (λ low. omega (arith, low, at_one.1, at_two.0)) (λ high. omega (arith, high, at_one.0, at_two.1)) apart
