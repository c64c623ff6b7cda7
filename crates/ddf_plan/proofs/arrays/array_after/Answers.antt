use Rattle.ddf_plan.proofs.arrays.array_after.Goals as goal

pub returns-in-Lose : goal.returns-in-Lose
returns-in-Lose c = rw c.in-Lose.is (rw c.items.ensures at c.lost_array.ensures)

pub returns-in-Fail : goal.returns-in-Fail
returns-in-Fail c = rw c.in-Fail.is (rw c.from_ref.ensures.value at c.lost_array-in-Fail.ensures)
