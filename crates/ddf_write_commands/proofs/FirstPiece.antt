-- The first piece of the input, at the beginning of the room for a piece.
use Rattle.std.proofs.Common.{◌≡◌, ◌∙◌, ◌+◌, ◌-◌, ◌*◌, ◌%◌, ◌≤◌, ℕ, List, ◌++◌, length, max, min, take, drop, sym, ap, arith, length-append}
use Rattle.std.proofs.lemmas.List.{length-drop, take-append-drop, take_all, take_at}
use Rattle.ddf_bytes.specs.Streams.{Gives, SourceState}
use Rattle.ddf_answer.specs.Call.{input_of}
use Rattle.ddf_write_commands.specs.Payload.{IsFirstPiece, Pieces, first_piece, room_of}

-- The first piece is one of those for which there is room.
pub first_within : (pieces : Pieces) (count : ℕ) → first_piece pieces count ≤ room_of pieces count
first_within pieces count = least_of (pieces.each - (pieces.ahead + 0) % pieces.each) pieces.each count (omega arith)
  where
    least_of : (less each count : ℕ) → less ≤ each → min less count ≤ max 1 (min each count)
    least_of less each count few = omega (arith, few)

module _ (tells : Type 0) (old new : SourceState) (pieces : Pieces) (count size : ℕ) (items into : List ℕ) (room : length items ≡ 512 * room_of pieces count) (is : size ≡ 512 * first_piece pieces count)
    (long : length into ≡ size) where
  abbrev rest : List ℕ
  rest = drop size items

  within : first_piece pieces count ≤ room_of pieces count
  within = first_within pieces count

  whole_long : length (into ++ rest) ≡ length items
  whole_long =
      let both = length-append into rest in
      let less = length-drop size items in
      omega (arith, both, less, long, is, room, within)

  pub first_filled : (tells → Gives old new into size) → new.faults ≡ old.faults → IsFirstPiece (input_of tells old new) pieces count (into ++ rest)
  first_filled gives same = record {
    size = whole_long ∙ room;
    bytes = λ told.
        let came = gives told in
        let is_into : into ≡ take size old.left = sym (take_all size into (omega (arith, long))) ∙ came.first in
        let is_first : take (512 * first_piece pieces count) (into ++ rest) ≡ into = take_at into rest (512 * first_piece pieces count) (long ∙ is) in
        sym (take-append-drop size old.left) ∙ ap (λ (front : List ℕ). front ++ drop size old.left) (sym is_into) ∙ ap (λ (left : List ℕ). into ++ left) (sym came.others)
        ∙ ap (λ (front : List ℕ). front ++ new.left) (sym is_first);
    same_faults = same;
  }
