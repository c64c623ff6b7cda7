use Rattle.std.proofs.Common.{◌≡◌, ◌+◌, ◌-◌, ◌<◌, ◌≤◌, ℕ, List, None, Option, sym, subst, ◌∙◌, find, slice_index_or, arith}
use Rattle.ddf_badblocks.specs.declared.side.Side.{Side}
use Rattle.ddf_badblocks.specs.Sides.{holds}
use Rattle.ddf_badblocks.proofs.InRow.{last_has, none_has}
use Rattle.ddf_badblocks.proofs.side.find_side.Goals as goal
use Rattle.ddf_badblocks.proofs.side.find_side.Goals.{then-at-gt0+else-lba-side, else-at-gt0}

abbrev none_side : Side
none_side = record { first = 0; count = 0; other = 0 }

here : (sides : List Side) (l : ℕ) (found : Option Side) → find (holds (l + 0)) sides ≡ found → find (holds l) sides ≡ found
here sides l found is =
    let zero : l + 0 ≡ l = omega arith in
    subst (λ (n : ℕ). find (holds n) sides ≡ found) {x = l + 0} zero is

pub overflow_sub-lba : goal.overflow_sub-lba
overflow_sub-lba c = c.begun_by-at.ensures.before (c.begun_by-at.result - 1) _ (omega (arith, c.if-at-gt0.true))

pub returns-then-lba-side-clause-found : goal.returns-then-lba-side-clause-found
returns-then-lba-side-clause-found c =
    let sides = c.args.sides.now in
    sym (here sides c.args.lba _ (last_has sides c.requires.row c.args.lba c.begun_by-at.result c.begun_by-at.ensures.within c.begun_by-at.ensures.before c.begun_by-at.ensures.behind none_side
    (omega (arith, c.if-at-gt0.true)) (omega (arith, c.if-lba-side.true)) 0 (omega (arith, c.if-lba-side.true))))

pub returns-then-lba-side-clause-alike : goal.returns-then-lba-side-clause-alike
returns-then-lba-side-clause-alike c = λ k lt.
    let sides = c.args.sides.now in
    let has = last_has sides c.requires.row c.args.lba c.begun_by-at.result c.begun_by-at.ensures.within c.begun_by-at.ensures.before c.begun_by-at.ensures.behind none_side
    (omega (arith, c.if-at-gt0.true)) (omega (arith, c.if-lba-side.true)) in
    has k lt ∙ sym (here sides c.args.lba _ (has 0 (omega (arith, c.if-lba-side.true))))

pub returns-then-at-sides-clause-found : goal.returns-then-at-sides-clause-found
returns-then-at-sides-clause-found c =
    let sides = c.args.sides.now in
    let last : 0 < c.begun_by-at.result → (slice_index_or sides (c.begun_by-at.result - 1) none_side).first + (slice_index_or sides (c.begun_by-at.result - 1) none_side).count ≤ c.args.lba = λ some.
    let low = c.begun_by-at.ensures.before (c.begun_by-at.result - 1) none_side (omega (arith, some)) in
    elim c.if-at-gt0.branch [
      | then-at-gt0+else-lba-side w ↦ omega (arith, low, w.if-lba-side.false)
      | else-at-gt0 w ↦ absurd (omega (arith, some, w.if-at-gt0.false))
    ] in
    sym (here sides c.args.lba None (none_has sides c.requires.row c.args.lba c.begun_by-at.result c.begun_by-at.ensures.within c.begun_by-at.ensures.before c.begun_by-at.ensures.behind none_side last 0 (λ lt. let next = c.begun_by-at.ensures.behind c.begun_by-at.result none_side (omega arith) lt in omega (arith, next))))

pub returns-then-at-sides-clause-alike : goal.returns-then-at-sides-clause-alike
returns-then-at-sides-clause-alike c = λ k lt.
    let sides = c.args.sides.now in
    let last : 0 < c.begun_by-at.result → (slice_index_or sides (c.begun_by-at.result - 1) none_side).first + (slice_index_or sides (c.begun_by-at.result - 1) none_side).count ≤ c.args.lba = λ some.
    let low = c.begun_by-at.ensures.before (c.begun_by-at.result - 1) none_side (omega (arith, some)) in
    elim c.if-at-gt0.branch [
      | then-at-gt0+else-lba-side w ↦ omega (arith, low, w.if-lba-side.false)
      | else-at-gt0 w ↦ absurd (omega (arith, some, w.if-at-gt0.false))
    ] in
    let next : (j : ℕ) → j < (slice_index_or sides c.begun_by-at.result none_side).first - c.args.lba → find (holds (c.args.lba + j)) sides ≡ None =
    λ j less. none_has sides c.requires.row c.args.lba c.begun_by-at.result c.begun_by-at.ensures.within c.begun_by-at.ensures.before c.begun_by-at.ensures.behind none_side last j (λ in_range. omega (arith, less)) in
    next k lt ∙ sym (here sides c.args.lba None (next 0 (omega (arith, lt))))

pub returns-else-at-sides-clause-found : goal.returns-else-at-sides-clause-found
returns-else-at-sides-clause-found c =
    let sides = c.args.sides.now in
    let last : 0 < c.begun_by-at.result → (slice_index_or sides (c.begun_by-at.result - 1) none_side).first + (slice_index_or sides (c.begun_by-at.result - 1) none_side).count ≤ c.args.lba = λ some.
    let low = c.begun_by-at.ensures.before (c.begun_by-at.result - 1) none_side (omega (arith, some)) in
    elim c.if-at-gt0.branch [
      | then-at-gt0+else-lba-side w ↦ omega (arith, low, w.if-lba-side.false)
      | else-at-gt0 w ↦ absurd (omega (arith, some, w.if-at-gt0.false))
    ] in
    sym (here sides c.args.lba None (none_has sides c.requires.row c.args.lba c.begun_by-at.result c.begun_by-at.ensures.within c.begun_by-at.ensures.before c.begun_by-at.ensures.behind none_side last 0 (λ lt. absurd (omega (arith, lt, c.if-at-sides.false)))))

pub returns-else-at-sides-clause-alike : goal.returns-else-at-sides-clause-alike
returns-else-at-sides-clause-alike c = λ k lt.
    let sides = c.args.sides.now in
    let last : 0 < c.begun_by-at.result → (slice_index_or sides (c.begun_by-at.result - 1) none_side).first + (slice_index_or sides (c.begun_by-at.result - 1) none_side).count ≤ c.args.lba = λ some.
    let low = c.begun_by-at.ensures.before (c.begun_by-at.result - 1) none_side (omega (arith, some)) in
    elim c.if-at-gt0.branch [
      | then-at-gt0+else-lba-side w ↦ omega (arith, low, w.if-lba-side.false)
      | else-at-gt0 w ↦ absurd (omega (arith, some, w.if-at-gt0.false))
    ] in
    let next : (j : ℕ) → find (holds (c.args.lba + j)) sides ≡ None =
    λ j. none_has sides c.requires.row c.args.lba c.begun_by-at.result c.begun_by-at.ensures.within c.begun_by-at.ensures.before c.begun_by-at.ensures.behind none_side last j (λ in_range. absurd (omega (arith, in_range, c.if-at-sides.false))) in
    next k ∙ sym (here sides c.args.lba None (next 0))
