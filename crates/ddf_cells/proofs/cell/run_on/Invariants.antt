use Rattle.std.proofs.Common.{◌≡◌, ℕ, ◌+◌, ◌-◌, ◌<◌, ◌≤◌, Some}
use Rattle.ddf_array.specs.Places.{site_on}
use Rattle.ddf_cells.specs.CellsOn.{cell_on}
use Rattle.ddf_cells.proofs.cell.run_on.Given as goal

abbrev pub invariant-loop-count : goal.invariant-loop-count
invariant-loop-count l = record {
  some : 0 < l.count;
  within : l.count ≤ l.most;
  follow : (k : ℕ) → k < l.count → cell_on l.view l.element l.position (l.start + k) ≡ Some (site_on l.first.slot (l.first.lba + k));
}

abbrev pub decreases-loop-count : goal.decreases-loop-count
decreases-loop-count l = l.most - l.count
