-- The seats that configurations list among slots.
use Rattle.std.proofs.Common.{◌≡◌, ◌≢◌, ◌∙◌, ◌⊎◌, inl, inr, ⊎_elim, ℕ, zero, suc, ◌+◌, ◌<◌, ◌≤◌, ◌^◌, Bool, true, false, not, List, Option, Some, None, refl, sym, ap, subst, arith, nat_eq, slice_get, ◌&&◌}
use Rattle.std.proofs.Math.Path.{fun_ext}
use Rattle.std.specs.Prelude.{filter_map, find, is_some, option_map, ◌==◌, if◌then◌else◌}
use Rattle.std.specs.List.{cons_option, range_with_len}
use Rattle.std.specs.Map.{lookup}
use Rattle.std.specs.Option.{option_map_or}
use Rattle.std.specs.Str.{bytes_eq}
use Rattle.std.proofs.lemmas.Bool.{cases_eq, eq-eqb, eqb-true, ne_eqb}
use Rattle.ddf_lemmas.proofs.Tests.{and_second, true_false}
use Rattle.ddf_config.specs.declared.member.Member.{Member}
use Rattle.ddf_config.specs.declared.seat.Seat.{Seat}
use Rattle.ddf_config.specs.Configuration.{Configuration}
use Rattle.ddf_config.specs.Members.{is_current}
use Rattle.ddf_config.specs.Seats.{floor_of, slot_of}
use Rattle.ddf_array.specs.Apart.{AreSeats}
use Rattle.ddf_array.specs.Losing.{AreFewer}
use Rattle.ddf_array.proofs.Consistent.{in_filter}
use Rattle.ddf_data_group.specs.Over.{AreCurrentSeats}
use Rattle.ddf_history.specs.Groups.{Disk, has_current}
use Rattle.ddf_data_history.specs.Promised.{seat_if}

eq_turned : (a b : ℕ) → (a == b) ≡ (b == a)
eq_turned a b = ⊎_elim (λ same. eq-eqb a b same ∙ sym (eq-eqb b a (sym same))) (λ apart. ne_eqb a b apart ∙ sym (ne_eqb b a (λ same. apart (sym same)))) (cases_eq a b)

-- a current member, by its reference
current_by : (o : Option Member) (guid : List ℕ) → option_map_or (λ (member : Member). bytes_eq member.guid guid && not member.missing) o false ≡ true
    → ◌≡◌ {A = Bool} (elim o [ None ↦ false | Some member ↦ not member.missing ]) true
current_by None guid e = absurd (cc)
current_by (Some member) guid e = and_second (bytes_eq member.guid guid) (not member.missing) e

pub is_current_by : (config : Configuration) (disk : Disk) → has_current config disk ≡ true → is_current config.members disk.reference ≡ true
is_current_by config disk e =
    current_by (lookup (nat_eq disk.reference) config.members) disk.guid
    (ap (λ (test : ℕ → Bool). option_map_or (λ (member : Member). bytes_eq member.guid disk.guid && not member.missing) (lookup test config.members) false)
    (fun_ext (λ k. eq_turned disk.reference k)) ∙ e)

-- ---- slots that have a seat

module _ (floor : ℕ → ℕ) (disk : ℕ → Disk) where
  abbrev pub seat_of : ℕ → Seat
  seat_of slot = record { reference = (disk slot).reference; slot = slot; floor = floor slot; bad = 0 }

  abbrev pub seats_by : (ℕ → Bool) → (a n : ℕ) → List Seat
  seats_by here a n = filter_map (λ slot. seat_if (here slot) floor (disk slot) slot) (range_with_len a n)

  abbrev pub found : (ℕ → Bool) → (reference a n : ℕ) → Option Seat
  found here reference a n = find (λ (seat : Seat). nat_eq seat.reference reference) (seats_by here a n)

  pub record HasSeat (here : ℕ → Bool) (reference : ℕ) (seat : Seat) : Type 0 where
    pub slot : ℕ
    pub is_here : here slot ≡ true
    pub is_reference : (disk slot).reference ≡ reference
    pub is_seat : seat ≡ seat_of slot

  seat_here : (here : ℕ → Bool) (reference a : ℕ) (seat : Seat) (rest : Option Seat) → here a ≡ true → (c : Bool) → nat_eq (disk a).reference reference ≡ c → (if c then Some (seat_of a) else rest) ≡ Some seat
      → (rest ≡ Some seat → HasSeat here reference seat) → HasSeat here reference seat
  seat_here here reference a seat rest is true same e later =
      let one : seat_of a ≡ seat = cc in record { slot = a; is_here = is; is_reference = eqb-true (disk a).reference reference same; is_seat = sym one }
  seat_here here reference a seat rest is false apart e later = later e

  seat_by : (here : ℕ → Bool) (reference a n : ℕ) (seat : Seat) (b : Bool) → here a ≡ b
      → find (λ (seat : Seat). nat_eq seat.reference reference) (cons_option (seat_if b floor (disk a) a) (seats_by here (a + 1) n)) ≡ Some seat
      → (found here reference (a + 1) n ≡ Some seat → HasSeat here reference seat) → HasSeat here reference seat
  seat_by here reference a n seat true is e later = seat_here here reference a seat (found here reference (a + 1) n) is (nat_eq (disk a).reference reference) refl e later
  seat_by here reference a n seat false is e later = later e

  -- a seat that is found is a slot's
  pub has_seat : (here : ℕ → Bool) (reference a n : ℕ) (seat : Seat) → found here reference a n ≡ Some seat → HasSeat here reference seat
  has_seat here reference a zero seat e = absurd (cc)
  has_seat here reference a (suc n) seat e = seat_by here reference a n seat (here a) refl e (has_seat here reference (a + 1) n seat)

  there_here : (here : ℕ → Bool) (reference a : ℕ) (rest : Option Seat) (c : Bool) → nat_eq (disk a).reference reference ≡ c → ((nat_eq (disk a).reference reference ≡ false) → (seat : Seat) × (rest ≡ Some seat))
      → (seat : Seat) × ((if c then Some (seat_of a) else rest) ≡ Some seat)
  there_here here reference a rest true same later = (seat_of a, refl)
  there_here here reference a rest false apart later = later apart

  there_by : (here : ℕ → Bool) (reference a n slot : ℕ) → here slot ≡ true → (disk slot).reference ≡ reference → (b : Bool) → here a ≡ b
      → (slot ≢ a → (seat : Seat) × (found here reference (a + 1) n ≡ Some seat))
      → (seat : Seat) × (find (λ (seat : Seat). nat_eq seat.reference reference) (cons_option (seat_if b floor (disk a) a) (seats_by here (a + 1) n)) ≡ Some seat)
  there_by here reference a n slot is same true at later =
      there_here here reference a (found here reference (a + 1) n) (nat_eq (disk a).reference reference) refl (λ apart. later (λ on.
      true_false (nat_eq (disk a).reference reference) (eq-eqb (disk a).reference reference (ap (λ (k : ℕ). (disk k).reference) (sym on) ∙ same)) apart))
  there_by here reference a n slot is same false at later = later (λ on. true_false (here a) (ap here (sym on) ∙ is) at)

  -- a slot that has one is found, or one of the same reference
  pub is_found : (here : ℕ → Bool) (reference a n slot : ℕ) → a ≤ slot → slot < a + n → here slot ≡ true → (disk slot).reference ≡ reference → (seat : Seat) × (found here reference a n ≡ Some seat)
  is_found here reference a zero slot low high is same = absurd (omega (arith, low, high))
  is_found here reference a (suc n) slot low high is same =
      there_by here reference a n slot is same (here a) refl (λ apart. is_found here reference (a + 1) n slot (omega (arith, low, apart)) (omega (arith, high)) is same)

  seat_below_by : (here : ℕ → Bool) (reference a n : ℕ) (seat : Seat) (b : Bool) → here a ≡ b
      → find (λ (seat : Seat). nat_eq seat.reference reference) (cons_option (seat_if b floor (disk a) a) (seats_by here (a + 1) n)) ≡ Some seat
      → (found here reference (a + 1) n ≡ Some seat → (a + 1 ≤ seat.slot) × (seat.slot < a + 1 + n)) → (a ≤ seat.slot) × (seat.slot < a + suc n)
  seat_below_by here reference a n seat true is e later = by (nat_eq (disk a).reference reference) e
    where
      by : (c : Bool) → (if c then Some (seat_of a) else found here reference (a + 1) n) ≡ Some seat → (a ≤ seat.slot) × (seat.slot < a + suc n)
      by true e = let same : seat_of a ≡ seat = cc in let slot : a ≡ seat.slot = ap (λ (s : Seat). s.slot) same in (omega (arith, slot), omega (arith, slot))
      by false e = let rest = later e in (omega (arith, rest.0), omega (arith, rest.1))
  seat_below_by here reference a n seat false is e later = let rest = later e in (omega (arith, rest.0), omega (arith, rest.1))

  pub seat_below : (here : ℕ → Bool) (reference a n : ℕ) (seat : Seat) → found here reference a n ≡ Some seat → (a ≤ seat.slot) × (seat.slot < a + n)
  seat_below here reference a zero seat e = absurd (cc)
  seat_below here reference a (suc n) seat e = seat_below_by here reference a n seat (here a) refl e (seat_below here reference (a + 1) n seat)

  both : (a b c : ℕ) → a ≡ c → b ≡ c → a ≡ b
  both a b c one other = one ∙ sym other

  same_of : (x y : Seat) (s t : ℕ) → x ≡ seat_of s → s ≡ t → y ≡ seat_of t → x ≡ y
  same_of x y s t one same other = one ∙ ap seat_of same ∙ sym other

  -- ---- fewer slots

  module _ (here fewer : ℕ → Bool) (n : ℕ) (less : (slot : ℕ) → fewer slot ≡ true → here slot ≡ true)
      (alone : (s t : ℕ) → here s ≡ true → here t ≡ true → (disk s).reference ≡ (disk t).reference → s ≡ t) where
    same_seat : (reference : ℕ) (seat : Seat) → found fewer reference 0 n ≡ Some seat → found here reference 0 n ≡ Some seat
    same_seat reference seat e =
        let has = has_seat fewer reference 0 n seat e in
        let bounds = seat_below fewer reference 0 n seat e in
        let slot_is : seat.slot ≡ has.slot = ap (λ (s : Seat). s.slot) has.is_seat in
        let other = is_found here reference 0 n has.slot (omega arith) (omega (arith, bounds.1, slot_is)) (less has.slot has.is_here) has.is_reference in
        let its = has_seat here reference 0 n other.0 other.1 in
        let one = alone its.slot has.slot its.is_here (less has.slot has.is_here) (both (disk its.slot).reference (disk has.slot).reference reference its.is_reference has.is_reference) in
        other.1 ∙ ap Some (same_of other.0 seat its.slot has.slot its.is_seat one has.is_seat)

    pub are_fewer : AreFewer (seats_by here 0 n) (seats_by fewer 0 n)
    are_fewer reference = by (found fewer reference 0 n) refl
      where
        by : (o : Option Seat) → found fewer reference 0 n ≡ o
            → (option_map (λ (seat : Seat). seat.floor) (found fewer reference 0 n) ≡ None)
            ⊎ ((option_map (λ (seat : Seat). seat.floor) (found fewer reference 0 n) ≡ option_map (λ (seat : Seat). seat.floor) (found here reference 0 n))
            × (◌≡◌ {A = ℕ} (elim (found fewer reference 0 n) [ None ↦ 64 | Some seat ↦ seat.slot ]) (elim (found here reference 0 n) [ None ↦ 64 | Some seat ↦ seat.slot ])))
        by None is = inl (ap (option_map (λ (seat : Seat). seat.floor)) is)
        by (Some seat) is =
            let same : found fewer reference 0 n ≡ found here reference 0 n = is ∙ sym (same_seat reference seat is) in
            inr (ap (option_map (λ (seat : Seat). seat.floor)) same, ap (λ (o : Option Seat). elim o [ None ↦ 64 | Some seat ↦ seat.slot ]) same)

  -- ---- where they are

  pub record IsAt (here : ℕ → Bool) (n reference f slot : ℕ) : Type 0 where
    pub is_floor : f ≡ floor slot
    pub is_reference : (disk slot).reference ≡ reference
    pub is_here : here slot ≡ true

  -- the seat of a reference is a slot's, with its floor
  pub is_at : (here : ℕ → Bool) (n reference f slot : ℕ) → floor_of (seats_by here 0 n) reference ≡ Some f → slot_of (seats_by here 0 n) reference ≡ slot → IsAt here n reference f slot
  is_at here n reference f slot e at = by (found here reference 0 n) refl e at
    where
      by : (o : Option Seat) → found here reference 0 n ≡ o → option_map (λ (seat : Seat). seat.floor) o ≡ Some f → ◌≡◌ {A = ℕ} (elim o [ None ↦ 64 | Some seat ↦ seat.slot ]) slot → IsAt here n reference f slot
      by None is e at = absurd (cc)
      by (Some seat) is e at =
          let has = has_seat here reference 0 n seat is in
          let slots : has.slot ≡ slot = ap (λ (s : Seat). s.slot) (sym has.is_seat) ∙ at in
          let floors : seat.floor ≡ f = cc in
          record {
            is_floor = sym floors ∙ ap (λ (s : Seat). s.floor) has.is_seat ∙ ap floor slots;
            is_reference = ap (λ (k : ℕ). (disk k).reference) (sym slots) ∙ has.is_reference;
            is_here = ap here (sym slots) ∙ has.is_here;
          }

  -- each is a member's, and no slot has the seats of two
  seat_at : (here : ℕ → Bool) (n k : ℕ) (seat : Seat) → slice_get (seats_by here 0 n) k ≡ Some seat → (slot : ℕ) × ((here slot ≡ true) × (seat ≡ seat_of slot))
  seat_at here n k seat at =
      let from = in_filter (λ slot. seat_if (here slot) floor (disk slot) slot) (range_with_len 0 n) k seat at in by from.item (here from.item) refl from.gives
    where
      by : (slot : ℕ) (b : Bool) → here slot ≡ b → seat_if b floor (disk slot) slot ≡ Some seat → (slot : ℕ) × ((here slot ≡ true) × (seat ≡ seat_of slot))
      by slot true is e = let same : seat_of slot ≡ seat = cc in (slot, (is, sym same))
      by slot false is e = absurd (cc)

  pub are_seats : (config : Configuration) (here : ℕ → Bool) (n : ℕ) → ((slot : ℕ) → here slot ≡ true → has_current config (disk slot) ≡ true) → AreSeats config.members (seats_by here 0 n)
  are_seats config here n current = record {
    of_members = λ k seat at.
        let from = seat_at here n k seat at in
        subst (λ (s : Seat). is_some (lookup (nat_eq s.reference) config.members) ≡ true) (sym from.1.1)
        (some_by (lookup (nat_eq (disk from.0).reference) config.members) (is_current_by config (disk from.0) (current from.0 from.1.0)));
    differ = λ j k one other first second same.
        let from = seat_at here n j one first in
        let to = seat_at here n k other second in
        let slot : from.0 ≡ to.0 = ap (λ (s : Seat). s.slot) (sym from.1.1) ∙ same ∙ ap (λ (s : Seat). s.slot) to.1.1 in
        ap (λ (s : Seat). s.reference) from.1.1 ∙ ap (λ (t : ℕ). (disk t).reference) slot ∙ ap (λ (s : Seat). s.reference) (sym to.1.1);
  }
    where
      some_by : (o : Option Member) → ◌≡◌ {A = Bool} (elim o [ None ↦ false | Some member ↦ not member.missing ]) true → is_some o ≡ true
      some_by None e = absurd (cc)
      some_by (Some member) e = refl

  -- ---- each is a current member's

  pub are_current : (config : Configuration) (here : ℕ → Bool) (n : ℕ) → ((slot : ℕ) → here slot ≡ true → has_current config (disk slot) ≡ true) → ((slot : ℕ) → floor slot < 2 ^ 64) → AreCurrentSeats config.members (seats_by here 0 n)
  are_current config here n current small = record {
    current = λ reference f e. by_current reference (found here reference 0 n) refl e;
    small = λ reference f e. by_small reference f (found here reference 0 n) refl e;
  }
    where
      by_current : (reference : ℕ) (o : Option Seat) → found here reference 0 n ≡ o → {f : ℕ} → option_map (λ (seat : Seat). seat.floor) o ≡ Some f → is_current config.members reference ≡ true
      by_current reference None is e = absurd (cc)
      by_current reference (Some seat) is e =
          let has = has_seat here reference 0 n seat is in
          subst (λ (k : ℕ). is_current config.members k ≡ true) has.is_reference (is_current_by config (disk has.slot) (current has.slot has.is_here))

      by_small : (reference f : ℕ) (o : Option Seat) → found here reference 0 n ≡ o → option_map (λ (seat : Seat). seat.floor) o ≡ Some f → f < 2 ^ 64
      by_small reference f None is e = absurd (cc)
      by_small reference f (Some seat) is e =
          let has = has_seat here reference 0 n seat is in
          let same : seat.floor ≡ f = cc in
          subst (λ (k : ℕ). k < 2 ^ 64) (ap (λ (s : Seat). s.floor) (sym has.is_seat) ∙ same) (small has.slot)
