-- No two seats of a group that was assembled have one reference: disks that do contradict each other.
use Rattle.std.proofs.Common.{◌≡◌, ◌∙◌, ⊎_elim, ℕ, zero, suc, ◌+◌, ◌≤◌, ◌<◌, Bool, true, false, cond, List, [], ◌∷◌, length, map, Option, Some, None, Result, Ok, Err, refl, sym, ap, arith, nat_eq}
use Rattle.std.proofs.lemmas.Bool.{cases_lt, eq-eqb, eqb-true, or_right}
use Rattle.std.proofs.lemmas.List.{length-map}
use Rattle.std.proofs.lemmas.Option.{slice_get_within}
use Rattle.std.specs.Prelude.{filter, find, option_map, slice_get}
use Rattle.std.specs.List.{range_with_len}
use Rattle.std.specs.Option.{option_and_then}
use Rattle.ddf_lemmas.proofs.Lists.{found_place}
use Rattle.ddf_lemmas.proofs.Options.{none_of_both}
use Rattle.ddf_bytes.specs.Choices.{first_of, when}
use Rattle.ddf_copy.specs.declared.copy.DiskCopy.{DiskCopy}
use Rattle.ddf_copy.specs.declared.newest_copy.Newest.{Newest}
use Rattle.ddf_copy.specs.Copies.{standing_copy}
use Rattle.ddf_config.specs.declared.seat.Seat.{Seat}
use Rattle.ddf_config.specs.Seats.{floor_of, slot_of}
use Rattle.ddf_view.specs.View.{View, view_of}
use Rattle.ddf_group.specs.declared.shown.Shown.{Shown}
use Rattle.ddf_group.specs.declared.answer.Assembled.{Assembled}
use Rattle.ddf_group.specs.declared.answer.Assembly.{Assembly}
use Rattle.ddf_group.specs.declared.answer.Differ.TheVariants as differs
use Rattle.ddf_group.specs.Assembled.{assembled, assembled_as, assembled_group, config_of, unless_contradicted}
use Rattle.ddf_group.specs.Choice.{chosen}
use Rattle.ddf_group.specs.Conflicts.{contradiction, differing, in_conflict, is_concerned, same_reference, split_in, twin_of, twins, two_copies}
use Rattle.ddf_group.specs.Pairs.{first_pair, first_with}
use Rattle.ddf_group.specs.Shown.{shown_of}
use Rattle.ddf_group.specs.Slots.{claimed, claims, numbers, reference_at, shows_group, slot_at}
use Rattle.ddf_seats.specs.Group.{GroupValue, seat_at, seat_of, seats_of}
use Rattle.ddf_request.specs.Slots.{is_on}
use Rattle.ddf_assembly.specs.Group.{group_of}
use Rattle.ddf_history_steps.proofs.Begun.{found_of}
use Rattle.ddf_history_steps.proofs.Filtered.{made_of}
use Rattle.ddf_history_steps.proofs.Seats.{seat_there, view_at}

-- ---- pairs of numbers

module _ {Y : Type 0} (passes : ℕ → Bool) where
  with_none : (test : ℕ → Option Y) (a n : ℕ) → first_with test (filter passes (range_with_len a n)) ≡ None → (t : ℕ) → a ≤ t → t < a + n → passes t ≡ true → test t ≡ None
  with_none test a zero none t low high is = absurd (omega (arith, low, high))
  with_none test a (suc n) none t low high is = by (λ rest behind. with_none test (a + 1) n rest t (omega (arith, behind)) (omega (arith, high)) is) (passes a) refl none
    where
      by : (later : first_with test (filter passes (range_with_len (a + 1) n)) ≡ None → a < t → test t ≡ None) (b : Bool) → passes a ≡ b → first_with test (cond b (a ∷ filter passes (range_with_len (a + 1) n)) (filter passes (range_with_len (a + 1) n))) ≡ None → test t ≡ None
      by later true e both =
          let halves = none_of_both (test a) (first_with test (filter passes (range_with_len (a + 1) n))) both in
          ⊎_elim (λ (behind : a < t). later halves.1 behind) (λ (here : t ≤ a). let same : a ≡ t = omega (arith, here, low) in ap test (sym same) ∙ halves.0) (cases_lt a t)
      by later false e rest =
          ⊎_elim (λ (behind : a < t). later rest behind)
          (λ (here : t ≤ a). let same : t ≡ a = omega (arith, here, low) in let other : true ≡ false = sym is ∙ ap passes same ∙ e in absurd cc) (cases_lt a t)

  pair_none : (test : ℕ → ℕ → Option Y) (a n : ℕ) → first_pair test (filter passes (range_with_len a n)) ≡ None
      → (s t : ℕ) → a ≤ s → s < t → t < a + n → passes s ≡ true → passes t ≡ true → test s t ≡ None
  pair_none test a zero none s t low less high one other = absurd (omega (arith, low, less, high))
  pair_none test a (suc n) none s t low less high one other = by (λ rest behind. pair_none test (a + 1) n rest s t (omega (arith, behind)) less (omega (arith, high)) one other) (passes a) refl none
    where
      by : (later : first_pair test (filter passes (range_with_len (a + 1) n)) ≡ None → a < s → test s t ≡ None) (b : Bool) → passes a ≡ b → first_pair test (cond b (a ∷ filter passes (range_with_len (a + 1) n)) (filter passes (range_with_len (a + 1) n))) ≡ None → test s t ≡ None
      by later true e both =
          let halves = none_of_both (first_with (test a) (filter passes (range_with_len (a + 1) n))) (first_pair test (filter passes (range_with_len (a + 1) n))) both in
          ⊎_elim (λ (behind : a < s). later halves.1 behind)
          (λ (here : s ≤ a).
          let same : a ≡ s = omega (arith, here, low) in
          ap (λ (k : ℕ). test k t) (sym same) ∙ with_none (test a) (a + 1) n halves.0 t (omega (arith, same, less)) (omega (arith, high)) other) (cases_lt a s)
      by later false e rest =
          ⊎_elim (λ (behind : a < s). later rest behind)
          (λ (here : s ≤ a). let same : s ≡ a = omega (arith, here, low) in let both : true ≡ false = sym one ∙ ap passes same ∙ e in absurd cc) (cases_lt a s)

-- ---- what was not contradicted

-- The group is made of the slots that it claims, and nothing contradicts it.
record IsSound (slots : List Shown) (found : Assembled) : Type 0 where
  group : List ℕ
  none : contradiction slots group ≡ None
  seats_are : found.seats ≡ claimed slots group

sound : (slots : List Shown) (named : Option (List ℕ)) (found : Assembled) → assembled slots named ≡ Ok found → IsSound slots found
unfolding assembled assembled_as
sound slots named found is = by (chosen slots named) is
  where
    by_fault : (group : List ℕ) (fault : Option Assembly) → contradiction slots group ≡ fault → unless_contradicted slots group fault ≡ Ok found → IsSound slots found
    by_fault group None none made =
        let same : assembled_as slots (claimed slots group) (config_of slots group) ≡ found = cc in
        record { group = group; none = none; seats_are = ap (λ (one : Assembled). one.seats) (sym same) }
    by_fault group (Some fault) none made = absurd cc

    by : (answer : Result (List ℕ) Assembly) → assembled_group slots answer ≡ Ok found → IsSound slots found
    by (Ok group) made = by_fault group (contradiction slots group) refl made
    by (Err fault) made = absurd cc

no_twins : (slots : List Shown) (group : List ℕ) → contradiction slots group ≡ None → twins slots group ≡ None
unfolding contradiction
no_twins slots group none =
    (none_of_both (twins slots group) (first_of (differing slots group ∷ split_in slots group ∷ []))
    (none_of_both (two_copies slots group) (first_of (twins slots group ∷ differing slots group ∷ split_in slots group ∷ [])) none).1).0

twin_there : (slots : List Shown) (group : List ℕ) (i j : ℕ) (a b : Option ℕ) (r : ℕ) → a ≡ Some r → b ≡ Some r
    → option_map (λ reference. in_conflict slots group i j (differs.Twin reference)) (same_reference a b) ≡ None → ⊥
twin_there slots group i j None b r one other none = absurd cc
twin_there slots group i j (Some x) None r one other none = absurd cc
twin_there slots group i j (Some x) (Some y) r one other none =
    let first : x ≡ r = cc in
    let second : y ≡ r = cc in
    let is : option_map (λ reference. in_conflict slots group i j (differs.Twin reference)) (when true x) ≡ None =
    ap (λ (b : Bool). option_map (λ reference. in_conflict slots group i j (differs.Twin reference)) (when b x)) (sym (eq-eqb x y (first ∙ sym second))) ∙ none in
    absurd cc

-- ---- what is found in a list

never_none : {X : Type 0} (test : X → Bool) (xs : List X) (place : ℕ) (x : X) → slice_get xs place ≡ Some x → test x ≡ true → find test xs ≡ None → ⊥
never_none test [] place x at passes none = absurd cc
never_none test (first ∷ xs) zero x at passes none =
    let same : first ≡ x = cc in
    let here : cond true (Some first) (find test xs) ≡ None = ap (λ (b : Bool). cond b (Some first) (find test xs)) (sym (ap test same ∙ passes)) ∙ none in absurd cc
never_none test (first ∷ xs) (suc place) x at passes none = by (λ rest. never_none test xs place x at passes rest) (test first) none
  where
    by : (later : find test xs ≡ None → ⊥) (b : Bool) → cond b (Some first) (find test xs) ≡ None → ⊥
    by later true none = absurd cc
    by later false none = later none

-- ---- the seats

module _ (newest : List (Option Newest)) (named : Option (List ℕ)) (g : GroupValue) (is : group_of newest named ≡ Ok g) where
  -- what is known of a slot with a seat
  record IsSeat (group : List ℕ) (seat : Seat) : Type 0 where
    claimed_is : claims (map shown_of newest) group seat.slot ≡ true
    below : seat.slot < length (map shown_of newest)
    reference_is : reference_at (map shown_of newest) seat.slot ≡ Some seat.reference

  below_by : (slot : ℕ) (copy : DiskCopy) (found : Option (Option Newest)) → slice_get newest slot ≡ found → option_and_then (λ one. option_and_then standing_copy one) found ≡ Some copy → slot < length newest
  below_by slot copy None at has = absurd cc
  below_by slot copy (Some one) at has = slice_get_within newest slot one at

  seat_is : (group : List ℕ) → g.seats ≡ seats_of newest (filter (claims (map shown_of newest) group) (numbers (map shown_of newest))) → (place : ℕ) (seat : Seat) → slice_get g.seats place ≡ Some seat → IsSeat group seat
  unfolding view_of
  seat_is group seats_are place seat at =
      let from = made_of (seat_at newest) (claims (map shown_of newest) group) (numbers (map shown_of newest)) place seat (ap (λ (all : List Seat). slice_get all place) (sym seats_are) ∙ at) in
      let own = seat_there newest from.0 seat from.2 in
      let slot_same : from.0 ≡ seat.slot = ap (λ (one : Seat). one.slot) own.2 in
      let low = below_by from.0 own.0 (slice_get newest from.0) refl own.1 in
      let long = length-map newest shown_of in
      record {
        claimed_is = ap (claims (map shown_of newest) group) (sym slot_same) ∙ from.1;
        below = omega (arith, low, long, slot_same);
        reference_is = ap (reference_at (map shown_of newest)) (sym slot_same)
            ∙ ap (option_map (λ (view : View). view.reference)) (view_at newest from.0 ∙ ap (option_map view_of) own.1) ∙ told from.0 own.0 seat own.2;
      }
    where
      told : (slot : ℕ) (copy : DiskCopy) (one : Seat) → seat_of slot copy ≡ one → Some (view_of copy).reference ≡ Some one.reference
      told slot copy one same = ap (λ (s : Seat). Some s.reference) same

  clash : (group : List ℕ) → twins (map shown_of newest) group ≡ None → (one other : Seat) → IsSeat group one → IsSeat group other → one.reference ≡ other.reference → one.slot < other.slot → ⊥
  clash group none one other first second same less =
      twin_there (map shown_of newest) group one.slot other.slot (reference_at (map shown_of newest) one.slot) (reference_at (map shown_of newest) other.slot) one.reference first.reference_is
      (second.reference_is ∙ ap Some (sym same))
      (pair_none (is_concerned (map shown_of newest) group) (twin_of (map shown_of newest) group) 0 (length (map shown_of newest)) none one.slot other.slot (omega arith) less (omega (arith, second.below))
      (or_right (shows_group group (slot_at (map shown_of newest) one.slot)) (claims (map shown_of newest) group one.slot) first.claimed_is)
      (or_right (shows_group group (slot_at (map shown_of newest) other.slot)) (claims (map shown_of newest) group other.slot) second.claimed_is))

  -- Seats of one reference are one slot's.
  pub one_slot : (i j : ℕ) (one other : Seat) → slice_get g.seats i ≡ Some one → slice_get g.seats j ≡ Some other → one.reference ≡ other.reference → one.slot ≡ other.slot
  unfolding claimed
  one_slot i j one other at there same =
      let made = found_of newest named g is in
      let whole = sound (map shown_of newest) named made.found made.is_answer in
      let none = no_twins (map shown_of newest) whole.group whole.none in
      let seats_are : g.seats ≡ seats_of newest (filter (claims (map shown_of newest) whole.group) (numbers (map shown_of newest))) =
      sym (ap (λ (x : GroupValue). x.seats) made.is_group) ∙ ap (seats_of newest) whole.seats_are in
      let first = seat_is whole.group seats_are i one at in
      let second = seat_is whole.group seats_are j other there in
      ⊎_elim (λ (less : one.slot < other.slot). absurd (clash whole.group none one other first second same less))
      (λ (le : other.slot ≤ one.slot).
      ⊎_elim (λ (less : other.slot < one.slot). absurd (clash whole.group none other one second first (sym same) less)) (λ (ge : one.slot ≤ other.slot). omega (arith, le, ge)) (cases_lt other.slot one.slot))
      (cases_lt one.slot other.slot)

  -- So the disk that is found on a slot is found there by its reference.
  pub slot_of_on : (slot : ℕ) (seat : Seat) → find (is_on slot) g.seats ≡ Some seat → (slot_of g.seats seat.reference ≡ slot) × (floor_of g.seats seat.reference ≡ None → ⊥)
  slot_of_on slot seat at =
      let own = found_place (is_on slot) g.seats seat at in
      by own.0 own.1 (eqb-true seat.slot slot own.2) (find (λ (one : Seat). nat_eq one.reference seat.reference) g.seats) refl
    where
      by : (place : ℕ) → slice_get g.seats place ≡ Some seat → seat.slot ≡ slot → (o : Option Seat) → find (λ (one : Seat). nat_eq one.reference seat.reference) g.seats ≡ o
          → (slot_of g.seats seat.reference ≡ slot) × (floor_of g.seats seat.reference ≡ None → ⊥)
      by place there on None e = absurd (never_none (λ (one : Seat). nat_eq one.reference seat.reference) g.seats place seat there (eq-eqb seat.reference seat.reference refl) e)
      by place there on (Some other) e =
          let its = found_place (λ (one : Seat). nat_eq one.reference seat.reference) g.seats other e in (
            ap (λ (o : Option Seat). elim o [ None ↦ 64 | Some one ↦ one.slot ]) e
                ∙ one_slot its.0 place other seat its.1 there (eqb-true other.reference seat.reference its.2) ∙ on,
            λ none. let some : option_map (λ (one : Seat). one.floor) (Some other) ≡ None = ap (option_map (λ (one : Seat). one.floor)) (sym e) ∙ none in absurd cc,
          )
