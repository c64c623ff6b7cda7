-- The arrays of a configuration that joins another one keep their data, over the seats that the history of the group that both have become lists.
use Rattle.std.proofs.Common.{◌≡◌, ◌∙◌, inl, inr, ℕ, Bool, true, false, not, nat_eq, List, Option, Some, None, refl, ap, sym, subst, slice_get}
use Rattle.std.proofs.lemmas.Bool.{and_parts, eqb-true, false_from_ne_true}
use Rattle.std.specs.Prelude.{option_map}
use Rattle.std.specs.Map.{lookup}
use Rattle.ddf_bay.specs.Sectors.{Image}
use Rattle.ddf_config.specs.declared.array.Array.{Array}
use Rattle.ddf_config.specs.declared.element.Position.{Position}
use Rattle.ddf_config.specs.declared.extent.Extent.{Extent}
use Rattle.ddf_config.specs.declared.member.Member.{Member}
use Rattle.ddf_config.specs.declared.seat.Seat.{Seat}
use Rattle.ddf_config.specs.Configuration.{Configuration}
use Rattle.ddf_config.specs.ElementValue.{ElementValue}
use Rattle.ddf_config.specs.Members.{is_current, same_guid}
use Rattle.ddf_config.specs.States.{array_with_low, is_marked}
use Rattle.ddf_import.specs.Clash.{join_cause}
use Rattle.ddf_import.specs.Joined.{members_joined, with_number}
use Rattle.ddf_data_array.specs.Allowed.{Allowed}
use Rattle.ddf_data_group.specs.Agreeing.{AgreeOn}
use Rattle.ddf_data_group.specs.Kept.{KeepsArray}
use Rattle.ddf_data_group.proofs.Agreed.{agreed}
use Rattle.ddf_data_group.proofs.Cleared.{same_marked}
use Rattle.ddf_data_group.proofs.Entries.{same_mark}
use Rattle.ddf_history.specs.Groups.{Disk, groups, has_current}
use Rattle.ddf_history.specs.Issued.{Past}
use Rattle.ddf_data_history.specs.Promised.{is_seat, seats_in}
use Rattle.ddf_data_history.proofs.Seats.{found}
use Rattle.ddf_data_events.proofs.JoinReferred.{current_theirs, disk_theirs, is_referred_to}
use Rattle.ddf_data_events.proofs.JoinSeats.{IsAlikeSlot, alike_found, has_it}

module _ (config joining next : Configuration) (free : join_cause config joining ≡ None) (members : next.members ≡ members_joined config joining)
    (group former : List ℕ) (floor : ℕ → ℕ) (past : Past (groups group)) (theirs : Past (groups former)) (same_count : past.slots ≡ theirs.slots)
    -- Each seat that the former history lists is one of this history, for the same disk; and so is each current member of what joins.
    (brought : (slot : ℕ) → is_seat former theirs joining slot ≡ true → (past.disk slot ≡ theirs.disk slot) × (past.lost slot ≡ false))
    (known : (slot : ℕ) → has_current joining (past.disk slot) ≡ true → (past.disk slot ≡ theirs.disk slot) × (theirs.lost slot ≡ false)) where
  module _ (guid : List ℕ) (array : Array) (was : lookup (same_guid guid) joining.arrays ≡ Some array) where
    alike : (k j : ℕ) (element : ElementValue) (position : Position) → slice_get array.elements k ≡ Some (Some element) → slice_get element.positions j ≡ Some position
        → (slot : ℕ) → IsAlikeSlot position.reference past.disk theirs.disk (is_seat group past next) (is_seat former theirs joining) slot
    alike k j element position at there slot = by (has_it position.reference past.disk (is_seat group past next) slot) refl
      where
        as_theirs : (past.disk slot).reference ≡ position.reference → has_current next (past.disk slot) ≡ has_current joining (past.disk slot)
        as_theirs on = disk_theirs config joining free position.reference (is_referred_to joining guid array was k j element position at there) next members (past.disk slot) on

        by : (here : Bool) → has_it position.reference past.disk (is_seat group past next) slot ≡ here
            → IsAlikeSlot position.reference past.disk theirs.disk (is_seat group past next) (is_seat former theirs joining) slot
        by true here =
            let parts = and_parts (is_seat group past next slot) (nat_eq (past.disk slot).reference position.reference) here in
            let on = eqb-true (past.disk slot).reference position.reference parts.1 in
            let current = (and_parts (not (past.lost slot)) (has_current next (past.disk slot)) parts.0).1 in
            let joins : has_current joining (past.disk slot) ≡ true = sym (as_theirs on) ∙ current in
            let one = known slot joins in
            let seat : is_seat former theirs joining slot ≡ true = rw one.1 (ap (has_current joining) (sym one.0) ∙ joins) in
            inl (here, rw seat (ap (λ (disk : Disk). nat_eq disk.reference position.reference) (sym one.0) ∙ parts.1), one.0)
        by false none = inr (none, false_from_ne_true (has_it position.reference theirs.disk (is_seat former theirs joining) slot) (λ there. not_both (has_it position.reference past.disk (is_seat group past next) slot) none (from_theirs there)))
          where
            not_both : (b : Bool) → b ≡ false → b ≡ true → ⊥
            not_both b x y = cc

            from_theirs : has_it position.reference theirs.disk (is_seat former theirs joining) slot ≡ true → has_it position.reference past.disk (is_seat group past next) slot ≡ true
            from_theirs there =
                let parts = and_parts (is_seat former theirs joining slot) (nat_eq (theirs.disk slot).reference position.reference) there in
                let one = brought slot parts.0 in
                let on : nat_eq (past.disk slot).reference position.reference ≡ true = ap (λ (disk : Disk). nat_eq disk.reference position.reference) one.0 ∙ parts.1 in
                let joins : has_current joining (past.disk slot) ≡ true = ap (has_current joining) one.0 ∙ (and_parts (not (theirs.lost slot)) (has_current joining (theirs.disk slot)) parts.0).1 in
                let current : has_current next (past.disk slot) ≡ true = as_theirs (eqb-true (past.disk slot).reference position.reference on) ∙ joins in
                rw (one.1, current) on

    seat_same : (k j : ℕ) (element : ElementValue) (position : Position) → slice_get array.elements k ≡ Some (Some element) → slice_get element.positions j ≡ Some position
        → found floor past.disk (is_seat group past next) position.reference 0 past.slots ≡ found floor theirs.disk (is_seat former theirs joining) position.reference 0 theirs.slots
    seat_same k j element position at there =
        alike_found floor position.reference past.disk theirs.disk (is_seat group past next) (is_seat former theirs joining) (alike k j element position at there) 0 past.slots
        ∙ ap (λ (n : ℕ). found floor theirs.disk (is_seat former theirs joining) position.reference 0 n) same_count

    agree : AgreeOn array.elements joining.members next.members (seats_in former theirs floor joining) (seats_in group past floor next)
    agree = record {
      same_floors = λ k j element position at there. ap (option_map (λ (seat : Seat). seat.floor)) (seat_same k j element position at there);
      same_slots = λ k j element position at there. ap (λ (o : Option Seat). elim o [ None ↦ 64 | Some seat ↦ seat.slot ]) (seat_same k j element position at there);
      same_current = λ k j element position at there.
          ap (λ (entries : List (ℕ × Member)). is_current entries position.reference) members
          ∙ current_theirs config joining free position.reference (is_referred_to joining guid array was k j element position at there);
    }

    -- So it keeps its data.
    pub brought_keeps : (all : List Extent) (number : ℕ) (after : Array) → array_with_low (members_joined config joining) all (with_number array number) ≡ after → (image : Image) (allowed : Allowed)
        → KeepsArray joining.members (seats_in former theirs floor joining) array image allowed → KeepsArray next.members (seats_in group past floor next) after image allowed
    brought_keeps all number after made image allowed kept =
        let seats = seats_in former theirs floor joining in
        let elements : after.elements ≡ array.elements = ap (λ (one : Array). one.elements) (sym made) in
        agreed joining.members next.members seats (seats_in group past floor next) after image allowed
        (subst (λ (parts : List (Option ElementValue)). AgreeOn parts joining.members next.members (seats_in former theirs floor joining) (seats_in group past floor next)) (sym elements) (agree))
        (same_marked joining.members joining.members seats array after image allowed
        (record { same_secondary = ap (λ (one : Array). one.secondary) (sym made); same_elements = elements })
        (ap (λ (one : Array). is_marked one) (sym made) ∙ same_mark (members_joined config joining) all (with_number array number)) (λ reference. refl) kept)
