-- The arrays of a configuration stay where the members and arrays of another one join it.
use Rattle.std.proofs.Common.{◌≡◌, ◌⊎◌, ◌∙◌, inl, inr, ⊎_elim, ℕ, ◌<◌, ◌^◌, Bool, true, false, not, ◌&&◌, List, [], ◌∷◌, ◌++◌, Option, Some, None, cond, slice_get, refl, ap, sym, subst}
use Rattle.std.specs.Prelude.{option_map}
use Rattle.std.proofs.lemmas.Bool.{eqb-true}
use Rattle.std.specs.Map.{lookup}
use Rattle.ddf_bay.specs.Sectors.{Image}
use Rattle.ddf_config.specs.declared.array.Array.{Array}
use Rattle.ddf_config.specs.declared.element.Position.{Position}
use Rattle.ddf_config.specs.declared.extent.Extent.{Extent}
use Rattle.ddf_config.specs.declared.member.Member.{Member}
use Rattle.ddf_config.specs.declared.seat.Seat.{Seat}
use Rattle.ddf_config.specs.Configuration.{Configuration}
use Rattle.ddf_config.specs.ElementValue.{ElementValue}
use Rattle.ddf_config.specs.Extents.{extents}
use Rattle.ddf_config.specs.Members.{is_current, same_guid}
use Rattle.ddf_config.specs.States.{array_with_low, is_marked, with_low_states}
use Rattle.ddf_import.specs.Clash.{join_cause}
use Rattle.ddf_import.specs.Joined.{arrays_joined, members_joined, number_of, numbered, numbers_of, with_number}
use Rattle.ddf_data_array.specs.Allowed.{Allowed}
use Rattle.ddf_data_group.specs.Agreeing.{AgreeOn}
use Rattle.ddf_data_group.specs.Grouped.{Promises}
use Rattle.ddf_data_group.proofs.Agreed.{agreed}
use Rattle.ddf_data_group.proofs.Cleared.{same_marked}
use Rattle.ddf_data_group.proofs.Entries.{before as value_before, found_in, never_drops, same_mark}
use Rattle.ddf_history.specs.Groups.{groups}
use Rattle.ddf_history.specs.Issued.{IsSince, Past, issue}
use Rattle.ddf_data_history.specs.History.{IsStaying}
use Rattle.ddf_data_history.specs.Promised.{KeepsData, is_seat, seats_in}
use Rattle.ddf_data_history.proofs.Seats.{found}
use Rattle.ddf_data_history.proofs.Steps.{by_issue}
use Rattle.ddf_data_events.proofs.JoinSeats.{alike_found, same_slots}
use Rattle.ddf_data_events.proofs.JoinReferred.{disk_same, is_referred_to, still_current}

-- Of joining arrays that get numbers each is one of those before, with a number.
numbered_found : (test : List ℕ → Bool) (taken : List ℕ) (entries : List (List ℕ × Array)) (array : Array) → lookup test (numbered taken entries) ≡ Some array
    → (one : Array) × (number : ℕ) × (lookup test entries ≡ Some one) × (with_number one number ≡ array)
numbered_found test taken [] array is = absurd cc
numbered_found test taken (entry ∷ entries) array is =
    let number = number_of taken entry.1.number in
    let behind = taken ++ number ∷ [] in
    go number (lookup test (numbered behind entries)) (λ later. numbered_found test behind entries array later) (test entry.0) is
  where
    go : (number : ℕ) (rest : Option Array) → (rest ≡ Some array → (one : Array) × (n : ℕ) × (lookup test entries ≡ Some one) × (with_number one n ≡ array)) → (b : Bool)
        → cond b (Some (with_number entry.1 number)) rest ≡ Some array → (one : Array) × (n : ℕ) × (cond b (Some entry.1) (lookup test entries) ≡ Some one) × (with_number one n ≡ array)
    go number rest later true here = (entry.1, number, refl, cc)
    go number rest later false there = later there

module _ (config joining next : Configuration) (free : join_cause config joining ≡ None) (members : next.members ≡ members_joined config joining)
    (arrays : next.arrays ≡ with_low_states (members_joined config joining) (arrays_joined config joining)) where
  abbrev all : List Extent
  all = extents (arrays_joined config joining)

  -- An array is one from before, its low state aside, or one that joins, its number aside too.
  pub array_from : (guid : List ℕ) (after : Array) → lookup (same_guid guid) next.arrays ≡ Some after
      → ((before : Array) × (lookup (same_guid guid) config.arrays ≡ Some before) × (array_with_low (members_joined config joining) (extents (arrays_joined config joining)) before ≡ after))
      ⊎ ((one : Array) × (number : ℕ) × (lookup (same_guid guid) joining.arrays ≡ Some one)
      × (array_with_low (members_joined config joining) (extents (arrays_joined config joining)) (with_number one number) ≡ after))
  array_from guid after is =
      let low = λ (key : List ℕ) (array : Array). array_with_low (members_joined config joining) all array in
      let has =
      value_before (λ key array. Some (low key array)) (same_guid guid) (never_drops low (same_guid guid)) (arrays_joined config joining) after
      (ap (lookup (same_guid guid)) (sym arrays) ∙ is) in
      let made : array_with_low (members_joined config joining) all has.value ≡ after = let e = has.is_changed in cc in
      ⊎_elim
      (λ own. inl (has.value, own, made))
      (λ others.
      let one = numbered_found (same_guid guid) (numbers_of config.arrays) joining.arrays has.value others in
      inr (one.0, one.1, one.2, ap (λ (array : Array). array_with_low (members_joined config joining) all array) one.3 ∙ made))
      (found_in (same_guid guid) config.arrays (numbered (numbers_of config.arrays) joining.arrays) has.value has.was)

  module _ (group : List ℕ) (floor : ℕ → ℕ) (past : Past (groups group)) where
    -- Where an array of the configuration refers to a disk it has the same seat.
    seat_same : (guid : List ℕ) (array : Array) → lookup (same_guid guid) config.arrays ≡ Some array → (k j : ℕ) (element : ElementValue) (position : Position)
        → slice_get array.elements k ≡ Some (Some element) → slice_get element.positions j ≡ Some position
        → found floor past.disk (is_seat group past next) position.reference 0 past.slots ≡ found floor past.disk (is_seat group past config) position.reference 0 past.slots
    seat_same guid array was k j element position at there =
        let referred = is_referred_to config guid array was k j element position at there in
        alike_found floor position.reference past.disk past.disk (is_seat group past next) (is_seat group past config) (λ slot.
        same_slots position.reference past.disk (is_seat group past next) (is_seat group past config) slot
        (λ on. ap (λ (current : Bool). not (past.lost slot) && current) (disk_same config joining free position.reference referred next members (past.disk slot) on))
        (eqb-true (past.disk slot).reference position.reference)) 0 past.slots

    agree : (guid : List ℕ) (array : Array) → lookup (same_guid guid) config.arrays ≡ Some array
        → AgreeOn array.elements config.members next.members (seats_in group past floor config) (seats_in group past floor next)
    agree guid array was = record {
      same_floors = λ k j element position at there. ap (option_map (λ (seat : Seat). seat.floor)) (seat_same guid array was k j element position at there);
      same_slots = λ k j element position at there. ap (λ (o : Option Seat). elim o [ None ↦ 64 | Some seat ↦ seat.slot ]) (seat_same guid array was k j element position at there);
      same_current = λ k j element position at there.
          ap (λ (entries : List (ℕ × Member)). is_current entries position.reference) members
          ∙ still_current config joining free position.reference (is_referred_to config guid array was k j element position at there);
    }

    module _ (image : Image) (promises : Promises) (none : (guid : List ℕ) (one : Array) → lookup (same_guid guid) joining.arrays ≡ Some one → promises guid ≡ None) where
      -- So each array of which something is promised stays.
      stays : (guid : List ℕ) (allowed : Allowed) (after : Array) → promises guid ≡ Some allowed → lookup (same_guid guid) next.arrays ≡ Some after
          → (before : Array) × ((lookup (same_guid guid) config.arrays ≡ Some before) × IsStaying group floor (record { past = past; image = image; promises = promises }) config next before after)
      stays guid allowed after promised is = ⊎_elim
          (λ (own : (before : Array) × (lookup (same_guid guid) config.arrays ≡ Some before) × (array_with_low (members_joined config joining) all before ≡ after)).
          let elements : after.elements ≡ own.0.elements = ap (λ (array : Array). array.elements) (sym own.2) in (
            own.0,
            (
              own.1,
              record {
                same = record { same_secondary = ap (λ (array : Array). array.secondary) (sym own.2); same_elements = elements };
                same_mark = ap (λ (array : Array). is_marked array) (sym own.2) ∙ same_mark (members_joined config joining) all own.0;
                agree = subst (λ (known : List (Option ElementValue)). AgreeOn known config.members next.members (seats_in group past floor config) (seats_in group past floor next)) (sym elements)
                    (agree guid own.0 own.1);
              },
            ),
          ))
          (λ others. absurd (let both = sym (none guid others.0 others.2) ∙ promised in cc))
          (array_from guid after is)

      -- The data are kept where the join is issued behind the configuration.
      pub joined_keeps : (small : (slot : ℕ) → floor slot < 2 ^ 64) (number : ℕ) → IsSince past.changes number config → KeepsData group past floor image promises
          → KeepsData group (issue past next) floor image promises
      joined_keeps small number since kept =
          by_issue group floor small past image promises kept next (λ guid allowed after promised is.
          let staying = stays guid allowed after promised is in
          let seats = seats_in group past floor config in
          agreed config.members next.members seats (seats_in group past floor next) after image allowed staying.1.1.agree
          (same_marked config.members config.members seats staying.0 after image allowed staying.1.1.same staying.1.1.same_mark (λ reference. refl) (kept number config since guid allowed staying.0 promised staying.1.0)))
