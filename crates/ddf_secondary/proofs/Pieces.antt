-- Pieces of any lengths, joined end to end: item j of piece i stands past the pieces before it.
use Rattle.std.proofs.Common.{◌≡◌, ℕ, zero, suc, ◌+◌, ◌-◌, ◌<◌, List, [], ◌∷◌, ◌++◌, length, take, Some, slice_get, ⊎_elim, refl, sym, ap, ◌∙◌, arith, length-append}
use Rattle.std.specs.List.{flat_map}
use Rattle.std.proofs.lemmas.Bool.{cases_lt}
use Rattle.std.proofs.lemmas.Option.{none-some, same_Some}
use Rattle.ddf_lemmas.proofs.Lists.{slice_get-append_left, slice_get-append_right}

module _ {X A : Type 0} (f : X → List A) where
  pub piece_at : (xs : List X) (i j : ℕ) (x : X) → slice_get xs i ≡ Some x → j < length (f x) → slice_get (flat_map f xs) (length (flat_map f (take i xs)) + j) ≡ slice_get (f x) j
  piece_at [] i j x there below = absurd (none-some x there)
  piece_at (y ∷ ys) zero j x there below =
      let same : y ≡ x = same_Some y x there in
      let e : 0 + j ≡ j = omega arith in
      let within : j < length (f y) = omega (arith, ap (λ z. length (f z)) same) in
      rw e (slice_get-append_left (f y) (flat_map f ys) j within ∙ ap (λ z. slice_get (f z) j) same)
  piece_at (y ∷ ys) (suc i) j x there below =
      let e : length (f y ++ flat_map f (take i ys)) + j ≡ length (f y) + (length (flat_map f (take i ys)) + j) = omega (arith, length-append (f y) (flat_map f (take i ys))) in
      rw e (slice_get-append_right (f y) (flat_map f ys) (length (flat_map f (take i ys)) + j) ∙ piece_at ys i j x there below)

  -- where an item of the joined list comes from
  pub record PieceOf (xs : List X) (n : ℕ) (a : A) : Type 0 where
    pub piece : ℕ
    pub item : X
    pub offset : ℕ
    pub piece_is : slice_get xs piece ≡ Some item
    pub offset_is : slice_get (f item) offset ≡ Some a
    pub place_is : n ≡ length (flat_map f (take piece xs)) + offset

  pub piece_inverse : (xs : List X) (n : ℕ) (a : A) → slice_get (flat_map f xs) n ≡ Some a → PieceOf xs n a
  piece_inverse [] n a there = absurd (none-some a there)
  piece_inverse (x ∷ xs) n a there =
      ⊎_elim
      (λ below. record {
        piece = 0;
        item = x;
        offset = n;
        piece_is = refl;
        offset_is = sym (slice_get-append_left (f x) (flat_map f xs) n below) ∙ there;
        place_is = omega arith;
      })
      (λ past.
      let split : n ≡ length (f x) + (n - length (f x)) = omega arith in
      let later : slice_get (flat_map f xs) (n - length (f x)) ≡ Some a =
      sym (slice_get-append_right (f x) (flat_map f xs) (n - length (f x))) ∙ sym (ap (slice_get (f x ++ flat_map f xs)) split) ∙ there in
      let rest = piece_inverse xs (n - length (f x)) a later in
      record {
        piece = suc rest.piece;
        item = rest.item;
        offset = rest.offset;
        piece_is = rest.piece_is;
        offset_is = rest.offset_is;
        place_is = omega (arith, rest.place_is, length-append (f x) (flat_map f (take rest.piece xs)));
      })
      (cases_lt n (length (f x)))
