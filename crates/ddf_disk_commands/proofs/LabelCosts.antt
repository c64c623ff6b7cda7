-- How many sectors `label` asks to be written.
use Rattle.std.proofs.Common.{◌≡◌, ◌∙◌, ℕ, Bool, suc, ◌+◌, ◌*◌, ◌-◌, ◌≤◌, List, [], ◌∷◌, length, refl, ap, arith}
use Rattle.std.specs.Prelude.{slice_get, Some}
use Rattle.std.proofs.lemmas.List.Sums.{sum_by-cons}
use Rattle.ddf_bytes.specs.declared.stamp.Stamp.{Stamp}
use Rattle.ddf_bay.specs.Moments.{SpendsOver}
use Rattle.ddf_bay.specs.ReadsOnly.{ReadsOnly}
use Rattle.ddf_bay.specs.State.{BayState}
use Rattle.ddf_header.specs.declared.kind.Revision.{Revision}
use Rattle.ddf_update.specs.declared.prepared.Prepared.{Prepared}
use Rattle.ddf_update.specs.Group.{AreFirst}
use Rattle.ddf_update.specs.declared.new_layout.NewLayout.{NewLayout}
use Rattle.ddf_update.specs.declared.new_layout.NewLayout.TheVariants.{Large, Small}
use Rattle.ddf_update.specs.NewCopies.{new_copy, new_geometry}
use Rattle.ddf_update.specs.NewLayouts.{copy_length}
use Rattle.ddf_update.specs.Prepared.{all_calls, all_sectors, most_calls, most_sectors}
use Rattle.ddf_update.proofs.Lies.{few_runs}
use Rattle.ddf_answer.specs.Call.{work_of}
use Rattle.ddf_answer.specs.Costs.{WritesAtMost, copy_sectors}
use Rattle.ddf_answer.proofs.Costs.{costs_writes, none_written, runs_count, writes_most, writes_since}
use Rattle.ddf_disk_commands.specs.Label.{label_sectors, label_slots, most_labelled}
use Rattle.ddf_disk_commands.specs.LabelRefusal.{label_layout, layout_of}

-- each new copy has as many sectors behind its header
new_sectors : (layout : NewLayout) (size : ℕ) → copy_sectors (new_geometry layout size) ≡ copy_length layout - 1
unfolding copy_sectors
new_sectors Small size = refl
new_sectors Large size = refl

-- Updates of so many sectors each.
all_alike : (each : ℕ) (updates : List Prepared) → ((place : ℕ) (update : Prepared) → slice_get updates place ≡ Some update → most_sectors update ≡ each) → all_sectors updates ≡ each * length updates
all_alike each [] are = omega arith
all_alike each (update ∷ updates) are =
    let here = are 0 update refl in
    let rest = all_alike each updates (λ place one at. are (suc place) one at) in
    let both = sum_by-cons most_sectors update updates in
    omega (arith, here, rest, both)

-- Updates of few calls each.
all_few : (updates : List Prepared) → ((place : ℕ) (update : Prepared) → slice_get updates place ≡ Some update → length update.runs ≤ 6) → all_calls updates ≤ 25 * length updates
all_few [] few = omega arith
all_few (update ∷ updates) few =
    let here = few 0 update refl in
    let rest = all_few updates (λ place one at. few (suc place) one at) in
    let both = sum_by-cons most_calls update updates in
    omega (arith, here, rest, both)

module _ {D : Type 0} (tells : Type 0) (a b : BayState D) (reads : ReadsOnly a b) (large : Bool) (named slots : List ℕ) (are : slots ≡ label_slots a.sizes named) where
  -- It was found before that nothing fits,
  pub label_unwritten : WritesAtMost (work_of tells a b) (label_sectors (label_layout large a.sizes named) * length (label_slots a.sizes named))
  label_unwritten = writes_most (label_sectors (label_layout large a.sizes named) * length (label_slots a.sizes named)) (omega arith) (none_written (work_of tells a b) reads)

  -- or the slots got their copies, so far as they did.
  pub label_costs : (revision : Revision) (stamp : Stamp) (sizes : List ℕ) (updates : List Prepared) → AreFirst sizes (new_copy (layout_of large (length slots)) revision stamp sizes) updates → length updates ≡ length slots
      → (c : BayState D) (calls : ℕ) → SpendsOver b c (all_sectors updates) calls → WritesAtMost (work_of tells a c) (label_sectors (label_layout large a.sizes named) * length (label_slots a.sizes named))
  label_costs revision stamp sizes updates first counted c calls spends =
      let firsts : AreFirst sizes (new_copy (label_layout large a.sizes named) revision stamp sizes) updates = rw are at first in
      let all = all_alike (label_sectors (label_layout large a.sizes named)) updates (λ place update at.
      let copy = new_copy (label_layout large a.sizes named) revision stamp sizes place in
      let count = runs_count copy update.runs (firsts.are_prepared place update at).runs_are ∙ new_sectors (label_layout large a.sizes named) _ in
      omega (arith, count)) in
      let many : length updates ≡ length (label_slots a.sizes named) = counted ∙ ap length are in
      let most : all_sectors updates ≡ label_sectors (label_layout large a.sizes named) * length (label_slots a.sizes named) =
      all ∙ ap (λ (count : ℕ). label_sectors (label_layout large a.sizes named) * count) many in
      writes_since tells a b c reads (label_sectors (label_layout large a.sizes named) * length (label_slots a.sizes named))
      (writes_most (label_sectors (label_layout large a.sizes named) * length (label_slots a.sizes named)) (omega (arith, most)) (costs_writes tells spends.costs))

  -- Each slot was looked at once, and got its copies in few calls.
  pub label_few : (revision : Revision) (stamp : Stamp) (sizes : List ℕ) (updates : List Prepared) → AreFirst sizes (new_copy (layout_of large (length slots)) revision stamp sizes) updates → length updates ≡ length slots
      → (c : BayState D) (sectors : ℕ) → SpendsOver b c sectors (all_calls updates) → b.calls ≤ a.calls + length (label_slots a.sizes named) → c.calls ≤ a.calls + most_labelled (length (label_slots a.sizes named))
  label_few revision stamp sizes updates first counted c sectors spends looked =
      let few = all_few updates (λ place update at. few_runs (new_copy (layout_of large (length slots)) revision stamp sizes place) update.runs (first.are_prepared place update at).runs_are) in
      let many : length updates ≡ length (label_slots a.sizes named) = counted ∙ ap length are in
      let most = spends.costs.calls_most in
      omega (arith, few, many, most, looked)
