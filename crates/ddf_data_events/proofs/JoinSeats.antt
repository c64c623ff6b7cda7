-- The seat of one reference among slots, by two histories.
use Rattle.std.proofs.Common.{◌≡◌, ◌⊎◌, ◌∙◌, inl, inr, ⊎_elim, ℕ, zero, suc, ◌+◌, Bool, true, false, ◌&&◌, nat_eq, Option, Some, cond, find, refl, ap, sym}
use Rattle.std.specs.List.{cons_option}
use Rattle.ddf_config.specs.declared.seat.Seat.{Seat}
use Rattle.ddf_history.specs.Groups.{Disk}
use Rattle.ddf_data_history.specs.Promised.{seat_if}
use Rattle.ddf_data_history.proofs.Seats.{found, seat_of, seats_by}

-- Among these slots this one has a seat, of this reference.
abbrev pub has_it : (reference : ℕ) (disk : ℕ → Disk) (here : ℕ → Bool) → ℕ → Bool
has_it reference disk here slot = here slot && nat_eq (disk slot).reference reference

-- It has such a seat in both, for the same disk, or in none.
abbrev pub IsAlikeSlot : (reference : ℕ) (disk also : ℕ → Disk) (here there : ℕ → Bool) → ℕ → Type 0
IsAlikeSlot reference disk also here there slot =
    ((has_it reference disk here slot ≡ true) × (has_it reference also there slot ≡ true) × (disk slot ≡ also slot)) ⊎ ((has_it reference disk here slot ≡ false) × (has_it reference also there slot ≡ false))

-- the seat of a reference among slots of which the first has one, or none
abbrev found_by : (floor : ℕ → ℕ) (disk : ℕ → Disk) (here : ℕ → Bool) (reference a n : ℕ) → Bool → Option Seat
found_by floor disk here reference a n first = find (λ (seat : Seat). nat_eq seat.reference reference) (cons_option (seat_if first floor (disk a) a) (seats_by floor disk here (a + 1) n))

module _ (floor : ℕ → ℕ) (disk : ℕ → Disk) (here : ℕ → Bool) (reference a n : ℕ) where
  skipped : has_it reference disk here a ≡ false → found floor disk here reference a (suc n) ≡ found floor disk here reference (a + 1) n
  skipped none = go (here a) (nat_eq (disk a).reference reference) refl none
    where
      go : (h c : Bool) → nat_eq (disk a).reference reference ≡ c → (h && c) ≡ false → found_by floor disk here reference a n h ≡ found floor disk here reference (a + 1) n
      go true true is e = absurd cc
      go true false is e = ap (λ (b : Bool). cond b (Some (seat_of floor disk a)) (found floor disk here reference (a + 1) n)) is
      go false c is e = refl

  taken : has_it reference disk here a ≡ true → found floor disk here reference a (suc n) ≡ Some (seat_of floor disk a)
  taken has = go (here a) (nat_eq (disk a).reference reference) refl has
    where
      go : (h c : Bool) → nat_eq (disk a).reference reference ≡ c → (h && c) ≡ true → found_by floor disk here reference a n h ≡ Some (seat_of floor disk a)
      go true true is e = ap (λ (b : Bool). cond b (Some (seat_of floor disk a)) (found floor disk here reference (a + 1) n)) is
      go true false is e = absurd cc
      go false c is e = absurd cc

-- Where each slot is alike the same seat is found.
pub alike_found : (floor : ℕ → ℕ) (reference : ℕ) (disk also : ℕ → Disk) (here there : ℕ → Bool) → ((slot : ℕ) → IsAlikeSlot reference disk also here there slot) → (a n : ℕ)
    → found floor disk here reference a n ≡ found floor also there reference a n
alike_found floor reference disk also here there alike a zero = refl
alike_found floor reference disk also here there alike a (suc n) = ⊎_elim
    (λ both.
    taken floor disk here reference a n both.0 ∙ ap (λ (one : Disk). Some (record { reference = one.reference; slot = a; floor = floor a; bad = 0 })) both.2 ∙ sym (taken floor also there reference a n both.1))
    (λ none. skipped floor disk here reference a n none.0 ∙ alike_found floor reference disk also here there alike (a + 1) n ∙ sym (skipped floor also there reference a n none.1))
    (alike a)

-- Of one history's slots they are alike where those with the reference have a seat alike.
pub same_slots : (reference : ℕ) (disk : ℕ → Disk) (here there : ℕ → Bool) (slot : ℕ) → ((disk slot).reference ≡ reference → here slot ≡ there slot) → (nat_eq (disk slot).reference reference ≡ true → (disk slot).reference ≡ reference)
    → IsAlikeSlot reference disk disk here there slot
same_slots reference disk here there slot same is = go (here slot) refl (there slot) refl (nat_eq (disk slot).reference reference) refl
  where
    has : (slots : ℕ → Bool) (x c : Bool) → slots slot ≡ x → nat_eq (disk slot).reference reference ≡ c → has_it reference disk slots slot ≡ (x && c)
    has slots x c h e = ap (λ (b : Bool). b && nat_eq (disk slot).reference reference) h ∙ ap (λ (b : Bool). x && b) e

    none : (x : Bool) → (x && false) ≡ false
    none true = refl
    none false = refl

    go : (x : Bool) → here slot ≡ x → (y : Bool) → there slot ≡ y → (c : Bool) → nat_eq (disk slot).reference reference ≡ c → IsAlikeSlot reference disk disk here there slot
    go true h true t true c = inl (has here true true h c, has there true true t c, refl)
    go false h false t true c = inr (has here false true h c, has there false true t c)
    go true h false t true c = absurd (let one = sym h ∙ same (is c) ∙ t in cc)
    go false h true t true c = absurd (let one = sym h ∙ same (is c) ∙ t in cc)
    go x h y t false c = inr (has here x false h c ∙ none x, has there y false t c ∙ none y)
