-- How many sectors a rebuild asks for: the calls of a run, one behind another.
use Rattle.std.proofs.Common.{◌≡◌, ℕ, ◌+◌, ◌-◌, ◌*◌, ◌≤◌, Bool, true, false, List, [], ◌∷◌, Option, None, Ok, Err, Result, inl, subst, arith}
use Rattle.std.proofs.Math.Nat.{mul-le-mul_right}
use Rattle.std.specs.Prelude.{min}
use Rattle.ddf_bay.specs.Moments.{SpendsOver}
use Rattle.ddf_bay.specs.ReadsOnly.{ReadsOnly}
use Rattle.ddf_bay.specs.State.{BayState}
use Rattle.ddf_primary.specs.Cells.{depth_of, height_of}
use Rattle.ddf_primary.specs.Placement.{Placement}
use Rattle.ddf_cells.specs.Writing.{AsksFor}
use Rattle.ddf_cells.proofs.Writes.{asks_start, asks_then}
use Rattle.ddf_rebuild.specs.Rebuilding.{sectors_of}
use Rattle.ddf_update.specs.Prepared.{all_sectors}
use Rattle.ddf_group.specs.declared.answer.Assembly.{Assembly}
use Rattle.ddf_recovery.specs.Committed.{left_behind, next_updates, recovery_updates}
use Rattle.ddf_seats.specs.Group.{GroupValue}
use Rattle.ddf_steps.specs.Ready.{ReadyStep}
use Rattle.ddf_recovery.specs.Ready.{ReadyValue, all_ready}
use Rattle.ddf_answer.specs.Call.{Work, work_of}
use Rattle.ddf_answer.specs.Costs.{WritesAtMost}
use Rattle.ddf_answer.proofs.Costs.{none_written}
use Rattle.ddf_group_commands.specs.Costs.{ready_sectors}
use Rattle.ddf_write_commands.specs.Around.{rest}
use Rattle.ddf_write_commands.specs.Costs.{sectors_before}
use Rattle.ddf_write_commands.proofs.Costs.{before_add, with_steps}
use Rattle.ddf_rebuild_command.specs.Costs.{CostsOf, sectors_from}

-- ---- calls

-- less is said of them
pub asks_most : {D : Type 0} {a b : BayState D} {n : ℕ} (total : ℕ) → n ≤ total → AsksFor a b n → AsksFor a b total
asks_most {b = b} total most one = asks_then total (omega (arith, most)) one (asks_start b)

pub asks_spent : {D : Type 0} {a b : BayState D} {n calls : ℕ} → SpendsOver a b n calls → AsksFor a b n
asks_spent spends = record {
  goes_on = spends.goes_on;
  same_sizes = spends.same_sizes;
  reads_rise = spends.reads_rise;
  writes_rise = spends.writes_rise;
  asked_up = spends.costs.asked_up;
  asked = spends.costs.asked;
  written_up = spends.costs.written_up;
  written = spends.costs.written;
}

-- ---- rows

parts_add : (depth first row : ℕ) → first ≤ row → (min row depth - first) + (depth - row) ≤ depth - first
parts_add depth first row le = omega (arith, le)

part_below : (depth first row : ℕ) → min row depth - first ≤ depth - first
part_below depth first row = omega arith

rows_add : (shape : Placement) (from row : ℕ) → from ≤ row → sectors_of shape from row + sectors_from shape row ≤ sectors_from shape from
rows_add shape from row le = parts_add (depth_of shape) (from * height_of shape) (row * height_of shape) (mul-le-mul_right (height_of shape) le)

rows_below : (shape : Placement) (from row : ℕ) → sectors_of shape from row ≤ sectors_from shape from
rows_below shape from row = part_below (depth_of shape) (from * height_of shape) (row * height_of shape)

-- ---- steps

next_add : (recovery : Option ReadyStep) (steps : List ReadyStep)
    → all_sectors (next_updates (with_steps recovery steps)) + ready_sectors (left_behind (with_steps recovery steps)).steps ≤ ready_sectors steps
next_add recovery [] = omega arith
next_add recovery (one ∷ others) = omega arith

-- ---- the first steps

-- The recovery was not written, or nothing is to be behind it,
pub alone_asks : {D : Type 0} {old middle : BayState D} (begins : Bool) (ready : ReadyValue) → AsksFor old middle (all_sectors (recovery_updates ready)) → AsksFor old middle (sectors_before begins ready)
alone_asks true ready asks = asks_most (all_sectors (recovery_updates ready) + all_sectors (next_updates ready)) (omega arith) asks
alone_asks false ready asks = asks

-- or a step was behind it.
pub first_behind : {D : Type 0} {old middle new : BayState D} (begins : Bool) → begins ≡ true → (ready now_ready : ReadyValue) → now_ready ≡ record ready { recovery = None }
    → AsksFor old middle (all_sectors (recovery_updates ready)) → AsksFor middle new (all_sectors (next_updates now_ready)) → AsksFor old new (sectors_before begins ready)
first_behind {middle = middle} {new = new} true is ready now_ready same recovers writes =
    asks_then (all_sectors (recovery_updates ready) + all_sectors (next_updates ready)) (omega arith) recovers
    (subst (λ (one : ReadyValue). AsksFor middle new (all_sectors (next_updates one))) same writes)
first_behind false is ready now_ready same recovers writes = absurd cc

-- ---- the rounds

module _ {D : Type 0} {old middle : BayState D} (shape : Placement) (from row : ℕ) (ready : ReadyValue) where
  -- The first failed,
  pub first_asks : AsksFor old middle (sectors_of shape from row + all_sectors (next_updates ready)) → AsksFor old middle (ready_sectors ready.steps + sectors_from shape from)
  first_asks first =
      let rows = rows_below shape from row in
      let steps = next_add ready.recovery ready.steps in
      asks_most (ready_sectors ready.steps + sectors_from shape from) (omega (arith, rows, steps)) first

  -- or was done, and others behind it.
  pub rounds_ask : {new : BayState D} → from ≤ row → (now_ready : ReadyValue) → now_ready ≡ left_behind ready → AsksFor old middle (sectors_of shape from row + all_sectors (next_updates ready))
      → AsksFor middle new (ready_sectors now_ready.steps + sectors_from shape row) → AsksFor old new (ready_sectors ready.steps + sectors_from shape from)
  rounds_ask {new = new} le now_ready is first others =
      let rows = rows_add shape from row le in
      let steps = next_add ready.recovery ready.steps in
      asks_then (ready_sectors ready.steps + sectors_from shape from) (omega (arith, rows, steps)) first
      (subst (λ (one : ReadyValue). AsksFor middle new (ready_sectors one.steps + sectors_from shape row)) is others)

-- ---- a run

module _ {D : Type 0} {old middle : BayState D} (begins : Bool) (ready : ReadyValue) (most : ℕ) where
  -- The first steps were not written,
  pub opening_asks : AsksFor old middle (sectors_before begins ready) → AsksFor old middle (ready_sectors (all_ready ready) + most)
  opening_asks opens =
      let steps = before_add begins ready.recovery ready.steps in
      asks_most (ready_sectors (all_ready ready) + most) (omega (arith, steps)) opens

  -- or were, and the rounds behind them.
  pub filling_asks : {new : BayState D} → (now_ready : ReadyValue) → now_ready ≡ record { recovery = None; steps = rest begins ready.steps } → AsksFor old middle (sectors_before begins ready)
      → AsksFor middle new (ready_sectors now_ready.steps + most) → AsksFor old new (ready_sectors (all_ready ready) + most)
  filling_asks {new = new} now_ready is opens rounds =
      let steps = before_add begins ready.recovery ready.steps in
      asks_then (ready_sectors (all_ready ready) + most) (omega (arith, steps)) opens
      (subst (λ (one : ReadyValue). AsksFor middle new (ready_sectors one.steps + most)) is rounds)

-- ---- a call

-- It only read,
pub none_cost : {D : Type 0} (work : Work D) (timestamp : ℕ) (word : List ℕ) → ReadsOnly work.old work.new → (meaning : Result GroupValue Assembly) → CostsOf work timestamp word meaning
none_cost work timestamp word reads (Ok found) = inl (none_written work reads)
none_cost work timestamp word reads (Err fault) = none_written work reads

-- or it read before it wrote.
pub most_since : {D : Type 0} (tells : Type 0) (entry start new : BayState D) → ReadsOnly entry start → (sectors : ℕ) → AsksFor start new sectors → WritesAtMost (work_of tells entry new) sectors
most_since tells entry start new reads sectors asks = record {
  asked = let same = reads.none_asked in let most = asks.asked in omega (arith, same, most);
  written = let same = reads.none_written in let most = asks.written in omega (arith, same, most);
}
