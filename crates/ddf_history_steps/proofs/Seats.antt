-- The seats of an assembled group: the slots that its lowest leader claims, with their copies.
use Rattle.std.proofs.Common.{◌≡◌, ℕ, ◌<◌, Bool, true, false, List, length, map, Option, Some, None, Ok, Err, if◌then◌else◌, refl, ap, sym, ◌∙◌, zero-add}
use Rattle.std.proofs.lemmas.Option.{slice_get-map}
use Rattle.std.specs.Prelude.{filter, option_map, slice_get, unwrap_or}
use Rattle.std.specs.Option.{option_and_then}
use Rattle.ddf_lemmas.proofs.Lists.{filtered_passes, get_filter_map, mapped_at}
use Rattle.ddf_config.specs.declared.seat.Seat.{Seat}
use Rattle.ddf_copy.specs.declared.copy.DiskCopy.{DiskCopy}
use Rattle.ddf_copy.specs.declared.newest_copy.Newest.{Newest}
use Rattle.ddf_copy.specs.declared.newest_copy.Newest.TheVariants as newests
use Rattle.ddf_copy.specs.Copies.{standing_copy}
use Rattle.ddf_view.specs.View.{View, view_of}
use Rattle.ddf_group.specs.declared.shown.Shown.{Shown as GroupShown}
use Rattle.ddf_group.specs.declared.shown.Shown.TheVariants as shown
use Rattle.ddf_group.specs.declared.answer.Assembled.{Assembled}
use Rattle.ddf_group.specs.declared.answer.Assembly.{Assembly}
use Rattle.ddf_group.specs.declared.answer.Assembly.TheVariants as faults
use Rattle.ddf_group.specs.Assembled.{absent, assembled, assembled_as, assembled_group, config_of, unless_contradicted}
use Rattle.ddf_group.specs.Choice.{chosen, is_shown}
use Rattle.ddf_group.specs.Conflicts.{contradiction}
use Rattle.ddf_group.specs.Shown.{shown_of}
use Rattle.ddf_group.specs.Slots.{claimed, claims, numbers, slot_at, view_in}
use Rattle.ddf_rewrite.proofs.Lists.{get_range}
use Rattle.ddf_steps.specs.Committed.{slots_of}
use Rattle.ddf_seats.specs.Group.{GroupValue, copy_at, seat_at, seat_of, seats_of}
use Rattle.ddf_assembly.specs.Group.{group_as}
use Rattle.ddf_history_steps.proofs.Begun.{IsMadeOf}
use Rattle.ddf_history_steps.proofs.Filtered.{made_of}

-- ---- the copy of a slot

-- The copy that stands for a newest copy says what is shown.
view_is_copy : (found : Option (Option Newest))
    → view_in (unwrap_or (option_map shown_of found) shown.Nothing) ≡ option_map view_of (option_and_then (λ one. option_and_then standing_copy one) found)
unfolding shown_of
view_is_copy None = refl
view_is_copy (Some None) = refl
view_is_copy (Some (Some (newests.One which copy))) = refl
view_is_copy (Some (Some (newests.Level copy))) = refl
view_is_copy (Some (Some (newests.TwoDiffer primary secondary))) = refl
view_is_copy (Some (Some (newests.Neither first second))) = refl

-- The copy of a slot says what the slot shows.
pub view_at : (newest : List (Option Newest)) (slot : ℕ) → view_in (slot_at (map shown_of newest) slot) ≡ option_map view_of (copy_at newest slot)
view_at newest slot = ap (λ (o : Option GroupShown). view_in (unwrap_or o shown.Nothing)) (slice_get-map shown_of newest slot) ∙ view_is_copy (slice_get newest slot)

-- A slot with a view has the copy that says it.
pub copy_there : (newest : List (Option Newest)) (slot : ℕ) (view : View) → view_in (slot_at (map shown_of newest) slot) ≡ Some view
    → (copy : DiskCopy) × (copy_at newest slot ≡ Some copy) × (view_of copy ≡ view)
copy_there newest slot view at = go (copy_at newest slot) refl (sym (view_at newest slot) ∙ at)
  where
    go : (o : Option DiskCopy) → copy_at newest slot ≡ o → option_map view_of o ≡ Some view
        → (copy : DiskCopy) × (copy_at newest slot ≡ Some copy) × (view_of copy ≡ view)
    go None is says = absurd cc
    go (Some copy) is says = (copy, is, cc)

-- ---- a seat

-- A seat at a slot is that of its copy.
pub seat_there : (newest : List (Option Newest)) (slot : ℕ) (seat : Seat) → seat_at newest slot ≡ Some seat
    → (copy : DiskCopy) × (copy_at newest slot ≡ Some copy) × (seat_of slot copy ≡ seat)
seat_there newest slot seat at = go (copy_at newest slot) refl at
  where
    go : (o : Option DiskCopy) → copy_at newest slot ≡ o → option_map (seat_of slot) o ≡ Some seat
        → (copy : DiskCopy) × (copy_at newest slot ≡ Some copy) × (seat_of slot copy ≡ seat)
    go None is made = absurd cc
    go (Some copy) is made = (copy, is, cc)

-- ---- what was found

-- What is found of a group is its configuration over the slots that it claims.
found_as : (slots : List GroupShown) (group : List ℕ) (found : Assembled) → assembled slots (Some group) ≡ Ok found
    → found ≡ assembled_as slots (claimed slots group) (config_of slots group)
unfolding assembled chosen
found_as slots group found is = go (is_shown slots group) is
  where
    by_fault : (fault : Option Assembly) → unless_contradicted slots group fault ≡ Ok found
        → found ≡ assembled_as slots (claimed slots group) (config_of slots group)
    by_fault None same = cc
    by_fault (Some fault) same = absurd cc

    go : (b : Bool) → assembled_group slots (if b then Ok group else Err faults.NoGroup) ≡ Ok found
        → found ≡ assembled_as slots (claimed slots group) (config_of slots group)
    go true same = by_fault (contradiction slots group) same
    go false same = absurd cc

module _ (newest : List (Option Newest)) (group : List ℕ) (g : GroupValue) (made : IsMadeOf newest (Some group) g) where
  abbrev slots : List GroupShown
  slots = map shown_of newest

  -- The group is made of its configuration over the slots that it claims.
  pub group_made : group_as newest (assembled_as slots (claimed slots group) (config_of slots group)) ≡ g
  group_made = ap (group_as newest) (sym (found_as slots group made.found made.is_answer)) ∙ made.is_group

  -- Its seats are those of the slots that it claims.
  pub seats_are : g.seats ≡ seats_of newest (filter (claims slots group) (numbers slots))
  unfolding assembled_as claimed
  seats_are = sym (ap (λ (one : GroupValue). one.seats) group_made)

  -- Its absent members are those without a seat.
  pub absent_are : g.absent ≡ absent slots (filter (claims slots group) (numbers slots)) g.config.members
  unfolding assembled_as claimed
  absent_are =
      sym (ap (λ (one : GroupValue). one.absent) group_made)
      ∙ ap (λ (one : GroupValue). absent slots (filter (claims slots group) (numbers slots)) one.config.members) group_made

  -- Each of its seats is on a slot that it claims.
  pub seat_claims : (place : ℕ) (seat : Seat) → slice_get g.seats place ≡ Some seat → claims slots group seat.slot ≡ true
  seat_claims place seat at =
      let found = made_of (seat_at newest) (claims slots group) (numbers slots) place seat (sym (ap (λ (seats : List Seat). slice_get seats place) seats_are) ∙ at) in
      let own = seat_there newest found.0 seat found.2 in
      ap (claims slots group) (sym (ap (λ (one : Seat). one.slot) own.2)) ∙ found.1

  -- A slot that it claims, with a copy, is that of a seat.
  pub claims_seat : (slot : ℕ) (copy : DiskCopy) → slot < length slots → claims slots group slot ≡ true → copy_at newest slot ≡ Some copy
      → (place : ℕ) × (slice_get (slots_of g.seats) place ≡ Some slot)
  claims_seat slot copy below claimed has =
      let number : slice_get (numbers slots) slot ≡ Some slot = (let at = get_range 0 (length slots) slot below in at.2 ∙ ap Some (at.1 ∙ zero-add slot)) in
      let kept = filtered_passes (claims slots group) (numbers slots) slot slot number claimed in
      let seat = get_filter_map (seat_at newest) (filter (claims slots group) (numbers slots)) kept.0 slot (seat_of slot copy) kept.1 (ap (option_map (seat_of slot)) has) in
      let there : slice_get g.seats seat.0 ≡ Some (seat_of slot copy) = ap (λ (seats : List Seat). slice_get seats seat.0) seats_are ∙ seat.1 in
      (seat.0, mapped_at (λ (one : Seat). one.slot) g.seats seat.0 (seat_of slot copy) there)
