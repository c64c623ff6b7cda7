-- Reads of the blocks of a range, piece by piece.
use Rattle.std.proofs.Common.{◌≡◌, ◌∙◌, ⊎_elim, ℕ, ◌+◌, ◌-◌, ◌<◌, ◌≤◌, List, [], ◌++◌, Some, sym, subst, arith, length, take}
use Rattle.std.specs.Prelude.{slice_index_or, slice_set}
use Rattle.std.proofs.lemmas.Bool.{cases_lt}
use Rattle.std.proofs.lemmas.List.{get_or_append_left, get_or-append_right, get_or-take, length-take-le, get_or-set_same, get_or-set_other}
use Rattle.ddf_bay.specs.State.{BayState}
use Rattle.ddf_array.specs.Volume.{Volume}
use Rattle.ddf_array.specs.Sources.{sources}
use Rattle.ddf_read.specs.Given.{AreGiven, NoneLeftIn}
use Rattle.ddf_read.specs.Reading.{OnlyReads, Failed, IsGivenBy, NoneLeft}
use Rattle.ddf_read.proofs.OnlyReading.{failed_before, failed_behind}
use Rattle.ddf_read.proofs.Steps.{given_later}
use Rattle.ddf_read.proofs.Tries.{IsGivenBy-wider, NotRead-wider}

-- the sectors of a piece, within the whole
module _ (out piece rest : List (List ℕ)) (at : ℕ) (inside : at ≤ length out) where
  before_piece : (k : ℕ) → k < at → slice_index_or (take at out ++ (piece ++ rest)) k [] ≡ slice_index_or out k []
  before_piece k below =
      let long = length-take-le at out inside in
      get_or_append_left (take at out) (piece ++ rest) [] k (omega (arith, long)) ∙ get_or-take at out k [] below

  in_piece : (k : ℕ) → at ≤ k → k < at + length piece → slice_index_or (take at out ++ (piece ++ rest)) k [] ≡ slice_index_or piece (k - at) []
  in_piece k from below =
      get_or-append_right (take at out) (piece ++ rest) at k [] (length-take-le at out inside) from
      ∙ get_or_append_left piece rest [] (k - at) (omega arith)

module _ {D : Type 0} {a b c : BayState D} (so_far : OnlyReads a b) (next : OnlyReads b c) where
  -- one piece more
  pub given_more : (v : Volume) (start at count : ℕ) (out piece rest : List (List ℕ)) → at ≤ length out → count ≤ length piece
      → AreGiven (Failed a b) a.held v start at out → AreGiven (Failed b c) b.held v (start + at) count piece
      → AreGiven (Failed a c) a.held v start (at + count) (take at out ++ (piece ++ rest))
  given_more v start at count out piece rest inside long given here k below =
      ⊎_elim
      (λ (earlier : k < at).
      subst (λ (bytes : List ℕ). IsGivenBy (Failed a c) a.held (sources v (start + k)) bytes) (sym (before_piece out piece rest at inside k earlier))
      (IsGivenBy-wider (failed_behind so_far next) a.held (sources v (start + k)) (slice_index_or out k []) (given k earlier)))
      (λ (later : at ≤ k).
      let same : start + at + (k - at) ≡ start + k = omega arith in
      let there = given_later so_far next (sources v (start + at + (k - at))) (slice_index_or piece (k - at) []) (here (k - at) (omega arith)) in
      subst (λ (bytes : List ℕ). IsGivenBy (Failed a c) a.held (sources v (start + k)) bytes) (sym (in_piece out piece rest at inside k later (omega arith)))
      (subst (λ (block : ℕ). IsGivenBy (Failed a c) a.held (sources v block) (slice_index_or piece (k - at) [])) same there))
      (cases_lt k at)

  -- what a later call gives
  pub given_after : (v : Volume) (start count : ℕ) (out : List (List ℕ)) → AreGiven (Failed b c) b.held v start count out → AreGiven (Failed a c) a.held v start count out
  given_after v start count out given k below = given_later so_far next (sources v (start + k)) (slice_index_or out k []) (given k below)

  pub left_after : (v : Volume) (start count slot : ℕ) → NoneLeftIn (Failed b c) v start count slot → NoneLeftIn (Failed a c) v start count slot
  left_after v start count slot left = record {
    block = left.block;
    is_in = left.is_in;
    none_left = NotRead-wider (failed_before so_far next) (sources v (start + left.block)) (Some slot) left.none_left;
  }

  -- one block more
  pub given_one_more : (v : Volume) (start at : ℕ) (out : List (List ℕ)) (bytes : List ℕ) → at < length out
      → AreGiven (Failed a b) a.held v start at out → IsGivenBy (Failed b c) b.held (sources v (start + at)) bytes
      → AreGiven (Failed a c) a.held v start (at + 1) (slice_set out at bytes)
  given_one_more v start at out bytes inside given here k below =
      ⊎_elim
      (λ (earlier : k < at).
      subst (λ (l : List ℕ). IsGivenBy (Failed a c) a.held (sources v (start + k)) l) (sym (get_or-set_other out at k bytes [] (λ same. omega (arith, same, earlier))))
      (IsGivenBy-wider (failed_behind so_far next) a.held (sources v (start + k)) (slice_index_or out k []) (given k earlier)))
      (λ (later : at ≤ k).
      let same : at ≡ k = omega arith in
      subst (λ (n : ℕ). IsGivenBy (Failed a c) a.held (sources v (start + n)) (slice_index_or (slice_set out at bytes) n [])) same
      (subst (λ (l : List ℕ). IsGivenBy (Failed a c) a.held (sources v (start + at)) l) (sym (get_or-set_same out at bytes [] inside))
      (given_later so_far next (sources v (start + at)) bytes here)))
      (cases_lt k at)

  -- a block of which no source is left
  pub left_one : (v : Volume) (start at total slot : ℕ) → at < total → NoneLeft (Failed b c) (sources v (start + at)) slot → NoneLeftIn (Failed a c) v start total slot
  left_one v start at total slot inside left = record {
    block = at;
    is_in = inside;
    none_left = NotRead-wider (failed_before so_far next) (sources v (start + at)) (Some slot) left;
  }

  -- a piece of which no source is left
  pub left_more : (v : Volume) (start at count total slot : ℕ) → at + count ≤ total → NoneLeftIn (Failed b c) v (start + at) count slot → NoneLeftIn (Failed a c) v start total slot
  left_more v start at count total slot inside left =
      let same : start + at + left.block ≡ start + (at + left.block) = omega arith in
      record {
        block = at + left.block;
        is_in = omega (arith, left.is_in);
        none_left = subst (λ (block : ℕ). NoneLeft (Failed a c) (sources v block) slot) same (NotRead-wider (failed_before so_far next) (sources v (start + at + left.block)) (Some slot) left.none_left);
      }
