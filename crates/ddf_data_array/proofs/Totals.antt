-- The sum of a row of which one cell is the sum of the others.
use Rattle.std.proofs.Common.{◌≡◌, ◌≢◌, ◌∙◌, ⊎_elim, ℕ, zero, suc, ◌+◌, ◌-◌, ◌<◌, ◌≤◌, Bool, true, false, List, [], ◌∷◌, ◌++◌, Some, refl, sym, ap, arith, map, length, slice_get}
use Rattle.std.specs.Prelude.{bit_xor, ◌==◌, if◌then◌else◌}
use Rattle.std.specs.List.{range_with_len}
use Rattle.std.proofs.lemmas.Bool.{ne_eqb, eq-eqb, cases_lt}
use Rattle.std.proofs.lemmas.List.{map-append}
use Rattle.std.proofs.lemmas.Simd.{length-zip2}
use Rattle.ddf_lemmas.proofs.Lists.{first_get, in_either, in_second, slice_get-range}
use Rattle.ddf_parity.specs.Xor.{xor, xor_all, zeros}
use Rattle.ddf_parity.specs.XorLaws.{xor_all_first, xor_all_taken_out, xor_with_itself, same_from_zero}
use Rattle.ddf_primary.specs.declared.layout.Layout.{Layout}
use Rattle.ddf_primary.specs.declared.parity.ParityLayout.{ParityLayout}
use Rattle.ddf_primary.specs.declared.parity.ParityLayout.TheVariants.{Raid4First, Raid4Last, Raid5ZeroRestart, Raid5LastRestart, Raid5LastContinuation}
use Rattle.ddf_primary.specs.Cells.{after_parity, before_parity, data_around, parity_by}
use Rattle.ddf_primary.proofs.Needs.{parity_row}
use Rattle.ddf_array.specs.Rows.{data_by}
use Rattle.ddf_array.specs.Sources.{other_positions}
use Rattle.ddf_array.proofs.Ranges.{range-around}
use Rattle.ddf_array.proofs.RowParity.{around_by}
use Rattle.ddf_array.proofs.RowSums.{long_zeros, others_are}
use Rattle.ddf_cells.proofs.Lists.{in_range}

-- ---- sums have 512 bytes

pub long_sum : (cell : ℕ → List ℕ) → ((q : ℕ) → length (cell q) ≡ 512) → (positions : List ℕ) → length (xor_all (map cell positions)) ≡ 512
long_sum cell long [] = long_zeros
long_sum cell long (q ∷ positions) =
    let one = long q in
    let rest = long_sum cell long positions in
    ap length (xor_all_first (cell q) (map cell positions)) ∙ length-zip2 bit_xor (cell q) (xor_all (map cell positions)) (one ∙ sym rest) ∙ one

-- ---- a range but for one

map_on : {Y : Type 0} (f g : ℕ → Y) (first n : ℕ) → ((k : ℕ) → first ≤ k → k < first + n → f k ≡ g k) → map f (range_with_len first n) ≡ map g (range_with_len first n)
map_on f g first zero same = refl
map_on f g first (suc n) same =
    ap (λ y. y ∷ map f (range_with_len (first + 1) n)) (same first (omega arith) (omega arith))
    ∙ ap (λ l. g first ∷ l) (map_on f g (first + 1) n (λ k low high. same k (omega (arith, low)) (omega (arith, high))))

-- what is at each position: the sum at the parity's, and a cell at each other
abbrev pub with_sum : (sum : List ℕ) (cell : ℕ → List ℕ) (parity : ℕ) → ℕ → List ℕ
with_sum sum cell parity q = if parity == q then sum else cell q

-- ---- the whole row

module _ (cell : ℕ → List ℕ) (long : (q : ℕ) → length (cell q) ≡ 512) (members parity : ℕ) (below : parity < members) (layout : Layout) (number : ℕ) (is : parity_by layout members number ≡ Some parity) where
  abbrev sum : List ℕ
  sum = xor_all (map cell (data_by layout members number))

  abbrev all : ℕ → List ℕ
  all = with_sum sum cell parity

  long_by : (b : Bool) (q : ℕ) → length (if b then sum else cell q) ≡ 512
  long_by true q = long_sum cell long (data_by layout members number)
  long_by false q = long q

  pub long_all : (q : ℕ) → length (all q) ≡ 512
  long_all q = long_by (parity == q) q

  at_parity : all parity ≡ sum
  at_parity = ap (λ b. if b then sum else cell parity) (eq-eqb parity parity refl)

  elsewhere : (q : ℕ) → q ≢ parity → all q ≡ cell q
  elsewhere q other = ap (λ b. if b then sum else cell q) (ne_eqb parity q (λ same. other (sym same)))

  -- it sums to zero
  pub total : xor_all (map all (range_with_len 0 members)) ≡ zeros
  total =
      let front = before_parity parity in
      let behind = range_with_len (parity + 1) (members - parity - 1) in
      let count : members - parity - 1 ≡ members - 1 - parity = omega arith in
      ap (λ l. xor_all (map all l)) (range-around members parity below)
      ∙ ap xor_all (map-append all front (parity ∷ behind))
      ∙ xor_all_taken_out (map all front) (all parity) (map all behind)
      ∙ ap (λ (l : List ℕ). xor l (xor_all (map all front ++ map all behind))) at_parity
      ∙ ap (λ l. xor sum (xor_all (l ++ map all behind))) (map_on all cell 0 parity (λ k low high. elsewhere k (λ same. omega (arith, same, high))))
      ∙ ap (λ l. xor sum (xor_all (map cell front ++ l))) (map_on all cell (parity + 1) (members - parity - 1) (λ k low high. elsewhere k (λ same. omega (arith, same, low))))
      ∙ ap (λ (n : ℕ). xor sum (xor_all (map cell front ++ map cell (range_with_len (parity + 1) n)))) count
      ∙ ap (xor sum) (sym (around_by cell members parity layout number is))
      ∙ xor_with_itself sum (long_sum cell long (data_by layout members number))

  -- so each is the sum of the others
  pub from_others : (q : ℕ) → q < members → all q ≡ xor_all (map all (other_positions members q))
  from_others q within =
      let front = range_with_len 0 q in
      let behind = range_with_len (q + 1) (members - q - 1) in
      let zero_sum : xor (all q) (xor_all (map all front ++ map all behind)) ≡ zeros =
      sym (xor_all_taken_out (map all front) (all q) (map all behind)) ∙ ap xor_all (sym (map-append all front (q ∷ behind)))
      ∙ ap (λ l. xor_all (map all l)) (sym (range-around members q within)) ∙ total in
      let others : xor_all (map all front ++ map all behind) ≡ xor_all (map all (other_positions members q)) =
      ap xor_all (sym (map-append all front behind)) ∙ ap (λ l. xor_all (map all l)) (sym (others_are members q within)) in
      same_from_zero (all q) (xor_all (map all (other_positions members q))) (long_all q) (long_sum all long_all (other_positions members q))
      (ap (xor (all q)) (sym others) ∙ zero_sum)

  -- the parity is the sum where another cell is the sum of the others
  pub parity_from : (own : List ℕ) (q : ℕ) → length own ≡ 512 → q < members → q ≢ parity → cell q ≡ xor_all (map (with_sum own cell parity) (other_positions members q)) → own ≡ sum
  parity_from own q long_own within other e =
      let each = with_sum own cell parity in
      let front = before_parity parity in
      let behind = range_with_len (parity + 1) (members - parity - 1) in
      let count : members - parity - 1 ≡ members - 1 - parity = omega arith in
      let each_parity : each parity ≡ own = ap (λ b. if b then own else cell parity) (eq-eqb parity parity refl) in
      let each_cell : (k : ℕ) → k ≢ parity → each k ≡ cell k = λ k apart. ap (λ b. if b then own else cell k) (ne_eqb parity k (λ same. apart (sym same))) in
      let by_parity : xor_all (map each (range_with_len 0 members)) ≡ xor own sum =
      ap (λ l. xor_all (map each l)) (range-around members parity below)
      ∙ ap xor_all (map-append each front (parity ∷ behind))
      ∙ xor_all_taken_out (map each front) (each parity) (map each behind)
      ∙ ap (λ (l : List ℕ). xor l (xor_all (map each front ++ map each behind))) each_parity
      ∙ ap (λ l. xor own (xor_all (l ++ map each behind))) (map_on each cell 0 parity (λ k low high. each_cell k (λ same. omega (arith, same, high))))
      ∙ ap (λ l. xor own (xor_all (map cell front ++ l))) (map_on each cell (parity + 1) (members - parity - 1) (λ k low high. each_cell k (λ same. omega (arith, same, low))))
      ∙ ap (λ (n : ℕ). xor own (xor_all (map cell front ++ map cell (range_with_len (parity + 1) n)))) count
      ∙ ap (xor own) (sym (around_by cell members parity layout number is)) in
      let before_q = range_with_len 0 q in
      let behind_q = range_with_len (q + 1) (members - q - 1) in
      let others : xor_all (map each before_q ++ map each behind_q) ≡ cell q =
      ap xor_all (sym (map-append each before_q behind_q)) ∙ ap (λ l. xor_all (map each l)) (sym (others_are members q within)) ∙ sym e in
      let by_q : xor_all (map each (range_with_len 0 members)) ≡ zeros =
      ap (λ l. xor_all (map each l)) (range-around members q within)
      ∙ ap xor_all (map-append each before_q (q ∷ behind_q))
      ∙ xor_all_taken_out (map each before_q) (each q) (map each behind_q)
      ∙ ap (λ (l : List ℕ). xor l (xor_all (map each before_q ++ map each behind_q))) (each_cell q other)
      ∙ ap (xor (cell q)) others
      ∙ xor_with_itself (cell q) (long q) in
      same_from_zero own sum long_own (long_sum cell long (data_by layout members number)) (sym by_parity ∙ by_q)

-- ---- each position but the parity's holds data

module _ (members parity q : ℕ) (below : q < members) (other : q ≢ parity) where
  in_front : q < parity → slice_get (before_parity parity) q ≡ Some q
  in_front less = let e : 0 + q ≡ q = omega arith in slice_get-range 0 parity q less ∙ ap Some e

  in_behind : parity < q → slice_get (after_parity members parity) (q - parity - 1) ≡ Some q
  in_behind more =
      let e : parity + 1 + (q - parity - 1) ≡ q = omega (arith, more) in
      slice_get-range (parity + 1) (members - 1 - parity) (q - parity - 1) (omega (arith, more, below)) ∙ ap Some e

  either : {A : Type 0} → (q < parity → A) → (parity < q → A) → A
  either less more = ⊎_elim less (λ most. more (omega (arith, most, other))) (cases_lt q parity)

  pub other_item : (k : ℕ) × (slice_get (range_with_len 0 parity ++ range_with_len (parity + 1) (members - parity - 1)) k ≡ Some q)
  other_item =
      let count : members - 1 - parity ≡ members - parity - 1 = omega arith in
      let there : (k : ℕ) × (slice_get (before_parity parity ++ after_parity members parity) k ≡ Some q) =
      either (λ less. (q, first_get (before_parity parity) (after_parity members parity) q q (in_front less))) (λ more. in_second (before_parity parity) (after_parity members parity) (q - parity - 1) q (in_behind more)) in
      (there.0, ap (λ (n : ℕ). slice_get (range_with_len 0 parity ++ range_with_len (parity + 1) n) there.0) (sym count) ∙ there.1)

  data_item : (layout : ParityLayout) → (k : ℕ) × (slice_get (data_around layout members parity) k ≡ Some q)
  data_item Raid4First = either (λ less. (q, first_get (before_parity parity) (after_parity members parity) q q (in_front less))) (λ more. in_second (before_parity parity) (after_parity members parity) (q - parity - 1) q (in_behind more))
  data_item Raid4Last = either (λ less. (q, first_get (before_parity parity) (after_parity members parity) q q (in_front less))) (λ more. in_second (before_parity parity) (after_parity members parity) (q - parity - 1) q (in_behind more))
  data_item Raid5ZeroRestart = either (λ less. (q, first_get (before_parity parity) (after_parity members parity) q q (in_front less))) (λ more. in_second (before_parity parity) (after_parity members parity) (q - parity - 1) q (in_behind more))
  data_item Raid5LastRestart = either (λ less. (q, first_get (before_parity parity) (after_parity members parity) q q (in_front less))) (λ more. in_second (before_parity parity) (after_parity members parity) (q - parity - 1) q (in_behind more))
  data_item Raid5LastContinuation =
      either (λ less. in_second (after_parity members parity) (before_parity parity) q q (in_front less)) (λ more. (q - parity - 1, first_get (after_parity members parity) (before_parity parity) (q - parity - 1) q (in_behind more)))

  pub data_at : (layout : Layout) (number : ℕ) → parity_by layout members number ≡ Some parity → (k : ℕ) × (slice_get (data_by layout members number) k ≡ Some q)
  data_at layout number e =
      let row = parity_row layout members number parity e in
      let there = data_item row.kind in
      (there.0, ap (λ l. slice_get l there.0) row.data_are ∙ there.1)

-- and the data cells lie at other positions
module _ (members parity : ℕ) (below : parity < members) where
  abbrev IsData : ℕ → Type 0
  IsData x = (x ≢ parity) × (x < members)

  front_data : (k x : ℕ) → slice_get (before_parity parity) k ≡ Some x → IsData x
  front_data k x e = let bounds = in_range 0 parity k x e in ((λ same. omega (arith, same, bounds.1)), omega (arith, bounds.1))

  behind_data : (k x : ℕ) → slice_get (after_parity members parity) k ≡ Some x → IsData x
  behind_data k x e = let bounds = in_range (parity + 1) (members - 1 - parity) k x e in ((λ same. omega (arith, same, bounds.0)), omega (arith, bounds.1, bounds.0))

  in_order : (k x : ℕ) → slice_get (before_parity parity ++ after_parity members parity) k ≡ Some x → IsData x
  in_order k x e = ⊎_elim (λ front. front_data front.0 x front.1) (λ back. behind_data back.0 x back.1) (in_either (before_parity parity) (after_parity members parity) k x e)

  is_data_around : (layout : ParityLayout) (k x : ℕ) → slice_get (data_around layout members parity) k ≡ Some x → IsData x
  is_data_around Raid4First k x e = in_order k x e
  is_data_around Raid4Last k x e = in_order k x e
  is_data_around Raid5ZeroRestart k x e = in_order k x e
  is_data_around Raid5LastRestart k x e = in_order k x e
  is_data_around Raid5LastContinuation k x e =
      ⊎_elim (λ front. behind_data front.0 x front.1) (λ back. front_data back.0 x back.1) (in_either (after_parity members parity) (before_parity parity) k x e)

  pub is_data : (layout : Layout) (number k x : ℕ) → parity_by layout members number ≡ Some parity → slice_get (data_by layout members number) k ≡ Some x → (x ≢ parity) × (x < members)
  is_data layout number k x is e =
      let row = parity_row layout members number parity is in
      is_data_around row.kind k x (ap (λ l. slice_get l k) (sym row.data_are) ∙ e)
