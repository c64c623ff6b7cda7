-- How many cells and stretches a range of blocks has on a position, counted stretch by stretch.
use Rattle.std.proofs.Common.{◌≡◌, ◌≢◌, ◌∙◌, ℕ, zero, suc, ◌+◌, ◌-◌, ◌<◌, ◌≤◌, List, [], ◌∷◌, ◌++◌, Option, Some, None, refl, sym, ap, arith, ⊎_elim}
use Rattle.std.specs.Prelude.{if◌then◌else◌}
use Rattle.std.specs.List.{range_with_len, sum_by}
use Rattle.std.proofs.lemmas.Bool.{cases_lt}
use Rattle.std.proofs.lemmas.List.Sums.{sum_by_push}
use Rattle.ddf_array.specs.declared.site.Site.{Site}
use Rattle.ddf_array.specs.Places.{site_on}
use Rattle.ddf_array.specs.Volume.{Volume}
use Rattle.ddf_array.proofs.Ranges.{range-more}
use Rattle.ddf_read.specs.Stretches.{follows}
use Rattle.ddf_read.proofs.Counted.{broken_by, followed}
use Rattle.ddf_cells.specs.CellsOn.{cell_on, cells_on, how_many, is_end, stretches_on, IsRunOn}

-- ---- two neighbours

joined : (slot lba : ℕ) (one next : Option Site) → one ≡ Some (site_on slot lba) → next ≡ Some (site_on slot (lba + 1)) → is_end one next ≡ 0
joined slot lba one next e f = ap (λ o. is_end o next) e ∙ ap (is_end (Some (site_on slot lba))) f ∙ ap (λ b. if b then 0 else 1) (followed slot lba)

broken : (slot lba : ℕ) (next : Option Site) → next ≢ Some (site_on slot (lba + 1)) → is_end (Some (site_on slot lba)) next ≡ 1
broken slot lba None other = refl
broken slot lba (Some next) other = broken_by slot lba next (follows (site_on slot lba) next) refl (λ same. other (ap Some same))

-- ---- on a position

module _ (v : Volume) (element position : ℕ) where
  abbrev at : ℕ → Option Site
  at block = cell_on v element position block

  -- a block that has no cell there
  many_passed : (one : Option Site) (others : List (Option Site)) → one ≡ None → how_many (one ∷ others) ≡ how_many others
  many_passed None others e = refl
  many_passed (Some one) others e = absurd (cc)

  stretches_passed : (one : Option Site) (others : List (Option Site)) → one ≡ None → stretches_on (one ∷ others) ≡ stretches_on others
  stretches_passed None [] e = refl
  stretches_passed None (next ∷ others) e = let none : 0 + stretches_on (next ∷ others) ≡ stretches_on (next ∷ others) = omega arith in none
  stretches_passed (Some one) others e = absurd (cc)

  pub passed_cells : (a n : ℕ) → 0 < n → at a ≡ None → how_many (cells_on v element position a n) ≡ how_many (cells_on v element position (a + 1) (n - 1))
  passed_cells a zero some none = absurd (omega (arith, some))
  passed_cells a (suc n) some none = let less : suc n - 1 ≡ n = omega arith in rw less (many_passed (at a) (cells_on v element position (a + 1) n) none)

  pub passed_stretches : (a n : ℕ) → 0 < n → at a ≡ None → stretches_on (cells_on v element position a n) ≡ stretches_on (cells_on v element position (a + 1) (n - 1))
  passed_stretches a zero some none = absurd (omega (arith, some))
  passed_stretches a (suc n) some none = let less : suc n - 1 ≡ n = omega arith in rw less (stretches_passed (at a) (cells_on v element position (a + 1) n) none)

  -- blocks that have none there
  pub passed : (n a m : ℕ) → n ≤ m → ((k : ℕ) → k < n → at (a + k) ≡ None)
      → (how_many (cells_on v element position a m) ≡ how_many (cells_on v element position (a + n) (m - n))) × (stretches_on (cells_on v element position a m) ≡ stretches_on (cells_on v element position (a + n) (m - n)))
  passed zero a m within none =
      let same : a + 0 ≡ a = omega arith in
      let left : m - 0 ≡ m = omega arith in
      (rw (same, left) refl, rw (same, left) refl)
  passed (suc n) a m within none =
      let here : at a ≡ None = ap at (omega arith) ∙ none 0 (omega arith) in
      let rest = passed n (a + 1) (m - 1) (omega (arith, within)) (λ k below. let same : a + suc k ≡ a + 1 + k = omega arith in ap at (sym same) ∙ none (suc k) (omega (arith, below))) in
      let block : a + 1 + n ≡ a + suc n = omega arith in
      let left : m - 1 - n ≡ m - suc n = omega arith in (
        passed_cells a m (omega (arith, within)) here ∙ rest.0 ∙ ap (λ b. how_many (cells_on v element position b (m - 1 - n))) block ∙ ap (λ l. how_many (cells_on v element position (a + suc n) l)) left,
        passed_stretches a m (omega (arith, within)) here ∙ rest.1 ∙ ap (λ b. stretches_on (cells_on v element position b (m - 1 - n))) block ∙ ap (λ l. stretches_on (cells_on v element position (a + suc n) l)) left,
      )

  -- the blocks of a stretch behind the first
  behind : (first : Site) (a count most : ℕ) → IsRunOn v element position first a (suc (suc count)) (suc (suc most))
      → IsRunOn v element position (site_on first.slot (first.lba + 1)) (a + 1) (suc count) (suc most)
  behind first a count most is = record {
    some = omega arith;
    within = omega (arith, is.within);
    follow = λ k below.
        let block : a + suc k ≡ a + 1 + k = omega arith in
        let lba : first.lba + suc k ≡ first.lba + 1 + k = omega arith in
        ap at (sym block) ∙ is.follow (suc k) (omega arith) ∙ ap (λ n. Some (site_on first.slot n)) lba;
    ends = λ below same.
        let block : a + suc (suc count) ≡ a + 1 + suc count = omega arith in
        let lba : first.lba + 1 + suc count ≡ first.lba + suc (suc count) = omega arith in
        is.ends (omega arith) (ap at block ∙ same ∙ ap (λ n. Some (site_on first.slot n)) lba);
  }

  here_is : (first : Site) (a count most : ℕ) → IsRunOn v element position first a (suc count) most → at a ≡ Some (site_on first.slot first.lba)
  here_is first a count most is = ap at (omega arith) ∙ is.follow 0 (omega arith) ∙ ap (λ n. Some (site_on first.slot n)) (omega arith)

  -- a stretch counts once
  pub run_stretches : (first : Site) (count a most : ℕ) → IsRunOn v element position first a count most
      → stretches_on (cells_on v element position a most) ≡ 1 + stretches_on (cells_on v element position (a + count) (most - count))
  run_stretches first zero a most is = absurd (omega (arith, is.some))
  run_stretches first (suc zero) a zero is = absurd (omega (arith, is.within))
  run_stretches first (suc zero) a (suc zero) is = ap (λ o. is_end o None) (here_is first a 0 1 is)
  run_stretches first (suc zero) a (suc (suc most)) is =
      let rest : suc (suc most) - 1 ≡ suc most = omega arith in
      ap (λ n. n + stretches_on (cells_on v element position (a + 1) (suc most)))
      (ap (λ o. is_end o (at (a + 1))) (here_is first a 0 (suc (suc most)) is) ∙ broken first.slot first.lba (at (a + 1)) (is.ends (omega arith)))
      ∙ ap (λ n. 1 + stretches_on (cells_on v element position (a + 1) n)) (sym rest)
  run_stretches first (suc (suc count)) a zero is = absurd (omega (arith, is.within))
  run_stretches first (suc (suc count)) a (suc zero) is = absurd (omega (arith, is.within))
  run_stretches first (suc (suc count)) a (suc (suc most)) is =
      let later = run_stretches (site_on first.slot (first.lba + 1)) (suc count) (a + 1) (suc most) (behind first a count most is) in
      let block : a + 1 + suc count ≡ a + suc (suc count) = omega arith in
      let left : suc most - suc count ≡ suc (suc most) - suc (suc count) = omega arith in
      ap (λ n. n + stretches_on (cells_on v element position (a + 1) (suc most)))
      (joined first.slot first.lba (at a) (at (a + 1)) (here_is first a (suc count) (suc (suc most)) is) (is.follow 1 (omega arith)))
      ∙ omega arith ∙ later
      ∙ ap (λ b. 1 + stretches_on (cells_on v element position b (suc most - suc count))) block
      ∙ ap (λ n. 1 + stretches_on (cells_on v element position (a + suc (suc count)) n)) left

  many_found : (one : Option Site) (site : Site) (others : List (Option Site)) → one ≡ Some site → how_many (one ∷ others) ≡ 1 + how_many others
  many_found None site others e = absurd (cc)
  many_found (Some one) site others e = refl

  -- and its cells as many times
  pub run_cells : (slot lba count a most : ℕ) → count ≤ most → ((k : ℕ) → k < count → at (a + k) ≡ Some (site_on slot (lba + k)))
      → how_many (cells_on v element position a most) ≡ count + how_many (cells_on v element position (a + count) (most - count))
  run_cells slot lba zero a most within follow =
      let same : a + 0 ≡ a = omega arith in
      let left : most - 0 ≡ most = omega arith in
      let none : how_many (cells_on v element position a most) ≡ 0 + how_many (cells_on v element position a most) = omega arith in
      rw (same, left) none
  run_cells slot lba (suc count) a zero within follow = absurd (omega (arith, within))
  run_cells slot lba (suc count) a (suc most) within follow =
      let here : at a ≡ Some (site_on slot (lba + 0)) = ap at (omega arith) ∙ follow 0 (omega arith) in
      let later = run_cells slot (lba + 1) count (a + 1) most (omega (arith, within))
      (λ k below.
      let block : a + suc k ≡ a + 1 + k = omega arith in
      let next : lba + suc k ≡ lba + 1 + k = omega arith in
      ap at (sym block) ∙ follow (suc k) (omega (arith, below)) ∙ ap (λ n. Some (site_on slot n)) next) in
      let block : a + 1 + count ≡ a + suc count = omega arith in
      let left : most - count ≡ suc most - suc count = omega arith in
      let same : how_many (cells_on v element position (a + 1 + count) (most - count)) ≡ how_many (cells_on v element position (a + suc count) (suc most - suc count)) =
      ap (λ b. how_many (cells_on v element position b (most - count))) block ∙ ap (λ n. how_many (cells_on v element position (a + suc count) n)) left in
      many_found (at a) (site_on slot (lba + 0)) (cells_on v element position (a + 1) most) here
      ∙ (let sum : 1 + how_many (cells_on v element position (a + 1) most) ≡ suc count + how_many (cells_on v element position (a + suc count) (suc most - suc count)) = omega (arith, later, same) in sum)

-- ---- sums over positions and elements

pub sum_more : (f : ℕ → ℕ) (n : ℕ) → sum_by f (range_with_len 0 (n + 1)) ≡ sum_by f (range_with_len 0 n) + f n
sum_more f n = let same : 0 + n ≡ n = omega arith in ap (sum_by f) (range-more 0 n ∙ ap (λ k. range_with_len 0 n ++ k ∷ []) same) ∙ sum_by_push f (range_with_len 0 n) n

pub sum_below : (f : ℕ → ℕ) (k n : ℕ) → k ≤ n → sum_by f (range_with_len 0 k) ≤ sum_by f (range_with_len 0 n)
sum_below f k zero le = let same : k ≡ 0 = omega (arith, le) in rw same (omega arith)
sum_below f k (suc n) le =
    ⊎_elim
    (λ (less : k < suc n).
    let before = sum_below f k n (omega (arith, less)) in
    let more = sum_more f n in
    let e : n + 1 ≡ suc n = omega arith in
    let last : sum_by f (range_with_len 0 (suc n)) ≡ sum_by f (range_with_len 0 n) + f n = ap (λ m. sum_by f (range_with_len 0 m)) (sym e) ∙ more in
    omega (arith, before, last))
    (λ (all : suc n ≤ k). let same : k ≡ suc n = omega (arith, le, all) in rw same (omega arith))
    (cases_lt k (suc n))
