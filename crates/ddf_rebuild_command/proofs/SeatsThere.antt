-- Once a group is recovered each current member has a seat.
use Rattle.std.proofs.Common.{◌≡◌, ◌∙◌, ℕ, zero, suc, ◌<◌, Bool, true, false, not, ◌||◌, cond, eqb, List, [], ◌∷◌, length, map, Option, Some, None, Ok, nat_eq, refl, sym, ap, subst, if◌then◌else◌, zero-add}
use Rattle.std.proofs.lemmas.Bool.{and_from, eq-eqb, eqb-true, false≢true}
use Rattle.std.proofs.lemmas.Map.Entries.{place_from_lookup}
use Rattle.std.proofs.lemmas.Option.{slice_get_within}
use Rattle.std.specs.Prelude.{filter, filter_map, find, is_some, option_map, slice_get, unwrap_or}
use Rattle.std.specs.List.{list_any}
use Rattle.std.specs.Map.{lookup}
use Rattle.std.specs.Option.{option_map_or}
use Rattle.ddf_lemmas.proofs.Lists.{filtered_passes, get_filter_map, mapped_at}
use Rattle.ddf_copy.specs.declared.copy.DiskCopy.{DiskCopy}
use Rattle.ddf_copy.specs.declared.newest_copy.Newest.{Newest}
use Rattle.ddf_config.specs.declared.member.Member.{Member}
use Rattle.ddf_config.specs.declared.seat.Seat.{Seat}
use Rattle.ddf_config.specs.Entries.{changed_entries}
use Rattle.ddf_config.specs.Members.{is_current}
use Rattle.ddf_config.specs.Seats.{floor_of}
use Rattle.ddf_plan.specs.declared.change.Change.TheVariants.{Lose}
use Rattle.ddf_plan.specs.Lose.{is_among}
use Rattle.ddf_plan.specs.Members.{member_after, members_after}
use Rattle.ddf_view.specs.View.{View, view_of}
use Rattle.ddf_group.specs.declared.shown.Shown.{Shown}
use Rattle.ddf_group.specs.declared.shown.Shown.TheVariants.{Nothing}
use Rattle.ddf_group.specs.Assembled.{absent, assembled_as, has_reference, is_absent}
use Rattle.ddf_group.specs.Shown.{shown_of}
use Rattle.ddf_group.specs.Slots.{claimed, claims, numbers, slot_at, view_in}
use Rattle.ddf_rewrite.proofs.Lists.{get_range}
use Rattle.ddf_seats.specs.Group.{GroupValue, copy_at, seat_at, seat_of}
use Rattle.ddf_assembly.specs.Group.{group_of}
use Rattle.ddf_recovery.specs.Recovery.{config_lost, config_recovered}
use Rattle.ddf_seats.specs.Leading.{some}
use Rattle.ddf_history_steps.proofs.Begun.{IsMadeOf, found_named}
use Rattle.ddf_history_steps.proofs.Filtered.{any_kept}
use Rattle.ddf_history_steps.proofs.Seats.{absent_are, copy_there, group_made}
use Rattle.ddf_history_steps.proofs.Claimed.{listed_among}
use Rattle.ddf_rebuild_command.specs.Plans.{HaveSeats}

-- ---- lists

found_there : (seats : List Seat) (place reference : ℕ) (seat : Seat) → slice_get seats place ≡ Some seat → seat.reference ≡ reference → is_some (floor_of seats reference) ≡ true
found_there [] place reference seat at same = absurd cc
found_there (first ∷ seats) place reference seat at same = by (nat_eq first.reference reference) refl place at (found_there seats)
  where
    by : (b : Bool) → nat_eq first.reference reference ≡ b → (place : ℕ) → slice_get (first ∷ seats) place ≡ Some seat
        → ((k n : ℕ) (one : Seat) → slice_get seats k ≡ Some one → one.reference ≡ n → is_some (floor_of seats n) ≡ true)
        → is_some (option_map (λ (one : Seat). one.floor) (cond b (Some first) (find (λ (one : Seat). nat_eq one.reference reference) seats))) ≡ true
    by true e place at later = refl
    by false e zero at later =
        let here : first ≡ seat = cc in
        absurd (false≢true (sym e ∙ eq-eqb first.reference reference (ap (λ (one : Seat). one.reference) here ∙ same)))
    by false e (suc place) at later = later place reference seat at same

-- a member behind what a change makes of each is what it makes of one
was_member : (made : ℕ → Member → Member) (reference : ℕ) (members : List (ℕ × Member)) (next : Member) → lookup (nat_eq reference) (changed_entries (λ r m. Some (made r m)) members) ≡ Some next
    → (member : Member) × (lookup (nat_eq reference) members ≡ Some member) × (next ≡ made reference member)
was_member made reference [] next found = absurd cc
was_member made reference (entry ∷ members) next found = by (nat_eq reference entry.0) refl found (was_member made reference members next)
  where
    by : (b : Bool) → nat_eq reference entry.0 ≡ b → cond b (Some (made entry.0 entry.1)) (lookup (nat_eq reference) (changed_entries (λ r m. Some (made r m)) members)) ≡ Some next
        → (lookup (nat_eq reference) (changed_entries (λ r m. Some (made r m)) members) ≡ Some next → (member : Member) × (lookup (nat_eq reference) members ≡ Some member) × (next ≡ made reference member))
        → (member : Member) × (cond b (Some entry.1) (lookup (nat_eq reference) members) ≡ Some member) × (next ≡ made reference member)
    by true e is later =
        let same : made entry.0 entry.1 ≡ next = cc in
        (entry.1, refl, sym same ∙ ap (λ (n : ℕ). made n entry.1) (sym (eqb-true reference entry.0 e)))
    by false e is later = later is

-- what it is to be current, by what is looked up
found_current : (members : List (ℕ × Member)) (reference : ℕ) → is_current members reference ≡ true → (member : Member) × (lookup (nat_eq reference) members ≡ Some member) × (member.missing ≡ false)
found_current members reference current = by (lookup (nat_eq reference) members) refl current
  where
    not_true : (b : Bool) → not b ≡ true → b ≡ false
    not_true true e = absurd (false≢true e)
    not_true false e = refl

    by : (found : Option Member) → lookup (nat_eq reference) members ≡ found → elim found [ None ↦ false | Some member ↦ not member.missing ] ≡ true
        → (member : Member) × (lookup (nat_eq reference) members ≡ Some member) × (member.missing ≡ false)
    by None is e = absurd (false≢true e)
    by (Some member) is e = (member, is, not_true member.missing e)

-- ---- members of a group that was found

module _ (newest : List (Option Newest)) (named : Option (List ℕ)) (g : GroupValue) (is : group_of newest named ≡ Ok g) where
  abbrev own : List ℕ
  own = g.config.group

  abbrev slots : List Shown
  slots = map shown_of newest

  abbrev seated_slots : List ℕ
  seated_slots = filter (claims slots own) (numbers slots)

  made : IsMadeOf newest (Some own) g
  made = found_named newest named own g is refl

  seats_are : g.seats ≡ filter_map (seat_at newest) seated_slots
  unfolding assembled_as claimed
  seats_are = sym (ap (λ (one : GroupValue). one.seats) (group_made newest own g made))

  -- A member that isn't absent has a slot.
  has_slot : (reference : ℕ) (member : Member) → lookup (nat_eq reference) g.config.members ≡ Some member → member.missing ≡ false → is_among g.absent reference ≡ false
      → list_any (has_reference slots reference) seated_slots ≡ true
  has_slot reference member found here there = by (list_any (has_reference slots reference) seated_slots) refl
    where
      by : (b : Bool) → list_any (has_reference slots reference) seated_slots ≡ b → b ≡ true
      by true e = refl
      by false e =
          let entry = place_from_lookup (nat_eq reference) g.config.members member found in
          let key : entry.1 ≡ reference = sym (eqb-true reference entry.1 entry.3) in
          let passes : is_absent slots seated_slots (entry.1, member) ≡ true =
          and_from (not member.missing) (not (list_any (has_reference slots entry.1) seated_slots)) (ap not here)
          (ap (λ (n : ℕ). not (list_any (has_reference slots n) seated_slots)) key ∙ ap not e) in
          let kept = filtered_passes (is_absent slots seated_slots) g.config.members entry.0 (entry.1, member) entry.2 passes in
          let listed = mapped_at (λ (one : ℕ × Member). one.0) (filter (is_absent slots seated_slots) g.config.members) kept.0 (entry.1, member) kept.1 in
          let among = listed_among (absent slots seated_slots g.config.members) kept.0 entry.1 listed in
          absurd (false≢true (sym there ∙ subst (λ (n : ℕ). is_among g.absent n ≡ true) key (subst (λ (all : List ℕ). is_among all entry.1 ≡ true) (sym (absent_are newest own g made)) among)))

  -- what a slot shows that has a reference
  shows_it : (reference slot : ℕ) → has_reference slots reference slot ≡ true → (view : View) × (view_in (slot_at slots slot) ≡ Some view) × (view.reference ≡ reference)
  shows_it reference slot has = by (view_in (slot_at slots slot)) refl has
    where
      by : (found : Option View) → view_in (slot_at slots slot) ≡ found → option_map_or (λ (one : ℕ). eqb one reference) (option_map (λ (view : View). view.reference) found) false ≡ true
          → (view : View) × (view_in (slot_at slots slot) ≡ Some view) × (view.reference ≡ reference)
      by None at e = absurd (false≢true e)
      by (Some view) at e = (view, at, eqb-true view.reference reference e)

  within : (slot : ℕ) (view : View) → view_in (slot_at slots slot) ≡ Some view → slot < length slots
  within slot view at = by (slice_get slots slot) refl at
    where
      by : (shown : Option Shown) → slice_get slots slot ≡ shown → view_in (unwrap_or shown Nothing) ≡ Some view → slot < length slots
      by None e there = absurd cc
      by (Some shown) e there = slice_get_within slots slot shown e

  number_at : (slot : ℕ) → slot < length slots → slice_get (numbers slots) slot ≡ Some slot
  number_at slot below = let at = get_range 0 (length slots) slot below in at.2 ∙ ap Some (at.1 ∙ zero-add slot)

  reference_is : (copy : DiskCopy) (view : View) → view_of copy ≡ view → copy.disk_data.reference ≡ view.reference
  unfolding view_of
  reference_is copy view e = ap (λ (one : View). one.reference) e

  -- A slot that the group claims has a seat, that of its copy.
  seat_there : (slot : ℕ) (view : View) (copy : DiskCopy) → claims slots own slot ≡ true → view_in (slot_at slots slot) ≡ Some view → copy_at newest slot ≡ Some copy
      → (place : ℕ) × (slice_get g.seats place ≡ Some (seat_of slot copy))
  seat_there slot view copy claimed at has =
      let kept = filtered_passes (claims slots own) (numbers slots) slot slot (number_at slot (within slot view at)) claimed in
      let seat = get_filter_map (seat_at newest) seated_slots kept.0 slot (seat_of slot copy) kept.1 (ap (option_map (seat_of slot)) has) in
      (seat.0, subst (λ (seats : List Seat). slice_get seats seat.0 ≡ Some (seat_of slot copy)) (sym seats_are) seat.1)

  -- So the member has a seat.
  has_seat : (reference : ℕ) (member : Member) → lookup (nat_eq reference) g.config.members ≡ Some member → member.missing ≡ false → is_among g.absent reference ≡ false
      → is_some (floor_of g.seats reference) ≡ true
  has_seat reference member found here there =
      let slot = any_kept (claims slots own) (has_reference slots reference) (numbers slots) (has_slot reference member found here there) in
      let shown = shows_it reference slot.0 slot.2 in
      let copy = copy_there newest slot.0 shown.0 shown.1 in
      let seat = seat_there slot.0 shown.0 copy.0 slot.1 shown.1 copy.1 in
      found_there g.seats seat.0 reference (seat_of slot.0 copy.0) seat.1 (subst (λ (n : ℕ). copy.0.disk_data.reference ≡ n) shown.2 (reference_is copy.0 shown.0 copy.2))

  -- Once the group is recovered each current member does.
  by_loss : (lost : Bool) → some g.absent ≡ lost → (reference : ℕ) → is_current (if lost then config_lost g else g.config).members reference ≡ true → is_some (floor_of g.seats reference) ≡ true
  by_loss true e reference current =
      let next = found_current (members_after g.config (Lose g.absent)) reference current in
      let was = was_member (member_after g.config (Lose g.absent)) reference g.config.members next.0 next.1 in
      let stays = either (is_among g.absent reference) was.0.missing (sym (ap (λ (one : Member). one.missing) was.2) ∙ next.2) in
      has_seat reference was.0 was.1 stays.1 stays.0
    where
      either : (a b : Bool) → (a || b) ≡ false → (a ≡ false) × (b ≡ false)
      either true b h = absurd (false≢true (sym h))
      either false b h = (refl, h)
  by_loss false e reference current =
      let was = found_current g.config.members reference current in
      has_seat reference was.0 was.1 was.2 (none g.absent e)
    where
      none : (references : List ℕ) → some references ≡ false → is_among references reference ≡ false
      none [] h = refl
      none (first ∷ references) h = absurd (false≢true (sym h))

  pub have_seats : HaveSeats (config_recovered g) g.seats
  unfolding config_recovered
  have_seats reference current = by_loss (some g.absent) refl reference current
