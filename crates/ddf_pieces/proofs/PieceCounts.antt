-- How many blocks the first pieces have, and what is counted for each of them.
use Rattle.std.proofs.Common.{min, ⊎_elim, zero, ◌%◌, ◌/◌, ◌≡◌, ◌∙◌, ℕ, suc, ◌+◌, ◌-◌, ◌*◌, ◌<◌, ◌≤◌, sym, ap, arith}
use Rattle.std.proofs.Math.Nat.{mul-mod_left, suc-mul}
use Rattle.std.proofs.lemmas.Bool.{cases_lt}
use Rattle.std.proofs.lemmas.Nat.{div-add-mod', mod_below}
use Rattle.ddf_write.specs.Looking as looking
use Rattle.ddf_pieces.specs.Pieces.{AreWholePieces, EndWithPiece, over_pieces, piece_blocks, piece_of, room_for}

-- So many pieces are done, and the last of them not before it was begun.
pub record AreDone (each count at : ℕ) : Type 0 where
  pub pieces : ℕ
  pub within : at ≤ count
  pub are : at < count → at ≡ pieces * each
  pub few : pieces * each < count + each

pub whole_of : (each count at : ℕ) → AreDone each count at → AreWholePieces each count at
whole_of each count at done = record { within = done.within; pieces = done.pieces; are = done.are }

pub done_start : (each count : ℕ) → 0 < each → AreDone each count 0
done_start each count some = record { pieces = 0; within = omega arith; are = λ more. omega arith; few = omega (arith, some) }

module _ (each count at : ℕ) (done : AreDone each count at) (more : at < count) (size : ℕ) (is : size ≡ piece_of each (count - at)) where
  pub one_more : suc done.pieces * each ≡ at + each
  one_more = suc-mul done.pieces each ∙ ap (λ n. n + each) (sym (done.are more))

  abbrev pub done_more : AreDone each count (at + size)
  done_more = record {
    pieces = suc done.pieces;
    within = omega (arith, is, more);
    are = λ later. let full : size ≡ each = omega (arith, is, later, more) in omega (arith, one_more, full);
    few = omega (arith, one_more, more);
  }

  pub over_more : (number : (start count : ℕ) → ℕ) (start : ℕ) → over_pieces number each start count (suc done.pieces) ≡ over_pieces number each start count done.pieces + number (start + at) size
  over_more number start =
      let here : done.pieces * each ≡ at = sym (done.are more) in
      ap (λ n. over_pieces number each start count done.pieces + number (start + n) (piece_of each (count - n))) here
      ∙ ap (λ n. over_pieces number each start count done.pieces + number (start + at) n) (sym is)

-- one piece more of whole ones
pub whole_more : (each count at size : ℕ) → AreWholePieces each count at → at < count → size ≡ piece_of each (count - at) → AreWholePieces each count (at + size)
whole_more each count at size whole more is =
    let next : suc whole.pieces * each ≡ at + each = suc-mul whole.pieces each ∙ ap (λ n. n + each) (sym (whole.are more)) in
    record {
      within = omega (arith, is, more);
      pieces = suc whole.pieces;
      are = λ later. let full : size ≡ each = omega (arith, is, later, more) in omega (arith, next, full);
    }

-- Of a command's pieces all but the last are full.
pub full_pieces : (count at : ℕ) → AreWholePieces (room_for count) count at → at < count → at % piece_blocks ≡ 0
full_pieces count at whole more =
    ⊎_elim
    (λ (many : piece_blocks < count). let full : room_for count ≡ piece_blocks = omega (arith, many) in omega (arith, whole.are more ∙ ap (λ n. whole.pieces * n) full))
    (λ (few : count ≤ piece_blocks). let only : room_for count ≡ count = omega (arith, few, more) in let none : at ≡ 0 = first whole.pieces (whole.are more ∙ ap (λ n. whole.pieces * n) only) in omega (arith, none))
    (cases_lt piece_blocks count)
  where
    first : (pieces : ℕ) → at ≡ pieces * count → at ≡ 0
    first zero is = is ∙ omega arith
    first (suc pieces) is = absurd (omega (arith, is, suc-mul pieces count, more))

-- the next piece of a command
pub next_piece : (count at : ℕ) → at < count → piece_of (room_for count) (count - at) ≡ min (count - at) piece_blocks
next_piece count at more = omega (arith, more)

-- ---- pieces that are written: the first may be shorter

pub ends_start : (each ahead count : ℕ) → EndWithPiece each ahead count 0
ends_start each ahead count = record { within = omega arith; pieces = 0; are = λ some. absurd (omega (arith, some)) }

module _ (each ahead count at size : ℕ) (some : 0 < each) (more : at < count) (is : size ≡ looking.piece_of each ahead at (count - at)) where
  pub size_some : 0 < size
  size_some = omega (arith, is, more, mod_below (ahead + at) each some)

  pub size_within : at + size ≤ count
  size_within = omega (arith, is, more)

  pub ends_more : EndWithPiece each ahead count (at + size)
  ends_more = record {
    within = size_within;
    pieces = suc ((ahead + at) / each);
    are = λ begun later.
        let full : size ≡ each - (ahead + at) % each = omega (arith, is, later, more) in
        let rest = mod_below (ahead + at) each some in
        let parts = div-add-mod' (ahead + at) each in
        omega (arith, full, rest, parts, suc-mul ((ahead + at) / each) each);
  }

-- one that is as long as the others
pub plain_size : (each count at size : ℕ) → (pieces : ℕ) → at ≡ pieces * each → at < count → size ≡ looking.piece_of each 0 at (count - at) → size ≡ piece_of each (count - at)
plain_size each count at size pieces are more is =
    let there : 0 + at ≡ pieces * each = omega (arith, are) in
    let none : (0 + at) % each ≡ 0 = ap (λ n. n % each) there ∙ mul-mod_left pieces each in
    omega (arith, is, none)
