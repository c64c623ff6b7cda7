-- What is planned of a position that goes back, and the steps of its group that were readied for it.
use Rattle.std.proofs.Common.{◌≡◌, ◌∙◌, ℕ, ◌+◌, ◌<◌, ◌≤◌, ◌==◌, Bool, true, false, not, ◌||◌, cond, List, [], ◌∷◌, ◌++◌, append-nil, length, Option, Some, None, Result, Ok, Err, nat_eq, inr, refl, sym, ap, subst, arith}
use Rattle.std.proofs.lemmas.Bool.{eq-eqb, eqb-true, false≢true, le-leb, ltb-false, or_parts}
use Rattle.std.specs.Prelude.{find, min, nat_le, nat_lt, option_and_then, option_map, slice_get, if◌then◌else◌}
use Rattle.std.specs.List.{AllByRecursion, list_any}
use Rattle.std.specs.Map.{lookup}
use Rattle.ddf_config.specs.declared.array.Array.{Array}
use Rattle.ddf_config.specs.declared.element.Position.{Position}
use Rattle.ddf_config.specs.declared.extent.Extent.{Extent}
use Rattle.ddf_config.specs.declared.refusal.Refusal.{Refusal}
use Rattle.ddf_config.specs.declared.refusal.Refusal.TheVariants.{InUse, Level, Lost, Marked}
use Rattle.ddf_config.specs.declared.seat.Seat.{Seat}
use Rattle.ddf_config.specs.Configuration.{Configuration}
use Rattle.ddf_config.specs.ElementValue.{ElementValue}
use Rattle.ddf_config.specs.Extents.{array_extents, extent, extents, part_extents}
use Rattle.ddf_config.specs.Members.{same_guid}
use Rattle.ddf_config.specs.Refusals.{first_refusal, refuse_if}
use Rattle.ddf_config.specs.States.{is_marked}
use Rattle.ddf_plan.specs.declared.change.Change.{Change}
use Rattle.ddf_plan.specs.declared.change.Change.TheVariants.{Return}
use Rattle.ddf_plan.specs.CreateRefusal.{is_spare_disk}
use Rattle.ddf_plan.specs.Same.{is_step}
use Rattle.ddf_repair.specs.declared.first.Target.{Target}
use Rattle.ddf_repair.specs.Choose.{array_room, part_room, room_for}
use Rattle.ddf_config.specs.Room.{least_start_of}
use Rattle.ddf_repair.specs.Spares.{extent_on, taken_on}
use Rattle.std.proofs.lemmas.Option.{slice_get-map}
use Rattle.ddf_lemmas.proofs.Lists.{mapped_at, none_any}
use Rattle.ddf_lemmas.proofs.Options.{ok_is}
use Rattle.ddf_repair.proofs.Begins.{free_on}
use Rattle.ddf_repair.proofs.Rooms.{IsRoom, room_is}
use Rattle.ddf_plan.specs.Create.{element_strip}
use Rattle.ddf_plan.specs.Rebuild.{element_at}
use Rattle.ddf_config.specs.declared.member.Member.{Member}
use Rattle.ddf_primary.specs.Cells.{depth_of}
use Rattle.ddf_primary.proofs.ShapeFacts.{depth_le}
use Rattle.ddf_array.specs.declared.part.Part.{Part}
use Rattle.ddf_array.proofs.Shapes.{blocks_are}
use Rattle.ddf_rebuild.specs.Target.{IsAside}
use Rattle.ddf_data_group.proofs.Apart.{SeatOf, seat_of}
use Rattle.ddf_data_group.proofs.Free.{aside}
use Rattle.ddf_data_group.proofs.Lessened.{slot_ends}
use Rattle.ddf_rebuild_command.proofs.TargetCells.{floor_found}
use Rattle.ddf_array.proofs.Consistent.{to_flat}
use Rattle.ddf_request.specs.Slots.{is_on, reference_on, slot_refusals}
use Rattle.ddf_request.specs.Usable.{lies_on}
use Rattle.ddf_config.specs.Seats.{SeatsFit, floor_of, slot_of}
use Rattle.ddf_plan.specs.Members.{lost_by}
use Rattle.ddf_array.specs.Apart.{IsApart}
use Rattle.ddf_array.specs.Viewing.{is_array_within, seat_slot, view_of}
use Rattle.ddf_array.specs.Within.{is_within}
use Rattle.ddf_array.proofs.Apart.{view_apart}
use Rattle.ddf_array.proofs.Told.{told_within}
use Rattle.ddf_array.proofs.Viewed.{from_view}
use Rattle.ddf_data_group.specs.Over.{IsOver}
use Rattle.ddf_seats.specs.Group.{GroupValue}
use Rattle.ddf_steps.specs.Asked.{CanBeAsked}
use Rattle.ddf_steps.specs.Ready.{ReadyStep, steps_from}
use Rattle.ddf_steps.specs.Steps.{Step, step_of}
use Rattle.ddf_recovery.specs.Committed.{WasReadied}
use Rattle.ddf_recovery.specs.Ready.{ReadyValue, readied}
use Rattle.ddf_recovery.specs.Recovery.{config_recovered, disks_recovered}
use Rattle.ddf_recovery.proofs.ReadiedParts.{are_tried}
use Rattle.ddf_group_commands.specs.Change.{steps_asked as steps_by, steps_of as steps_asked, steps_or}
use Rattle.ddf_group_commands.specs.Requests.{linux_members}
use Rattle.ddf_group_commands.proofs.StepsWritten.{steps_in}
use Rattle.ddf_read_commands.proofs.ArrayUse.{named_is}
use Rattle.ddf_read_commands.specs.declared.using.Access.TheVariants.{Reads}
use Rattle.ddf_read_commands.specs.Use.{array_refusals}
use Rattle.ddf_write_commands.specs.Opened.{AreMembers}
use Rattle.ddf_write_commands.specs.Planned.{Entry}
use Rattle.ddf_rebuild_command.specs.declared.going_back.GoingBack.{GoingBack}
use Rattle.ddf_rebuild_command.specs.Asked.{bad_on, rebuild_refusals}
use Rattle.ddf_write_commands.specs.Around.{config_behind}
use Rattle.ddf_bay.specs.ReadsOnly.{ReadsOnly}
use Rattle.ddf_answer.specs.Call.{work_of}
use Rattle.ddf_answer.specs.Costs.{WritesAtMost}
use Rattle.ddf_recovery.specs.Ready.{all_ready}
use Rattle.ddf_group_commands.specs.Costs.{ready_sectors, steps_sectors}
use Rattle.ddf_group_commands.proofs.Costs.{ready_count}
use Rattle.ddf_rebuild_command.specs.BackPlanned.{IsBackPlanned}
use Rattle.ddf_rebuild_command.specs.BackRun.{AsksGoingBack}
use Rattle.ddf_rebuild_command.specs.CopiedBack.{CostsOfGoingBack}
use Rattle.ddf_rebuild_command.proofs.Costs.{most_since}
use Rattle.ddf_rebuild_command.specs.BackPlans.{CanCopy, IsBackPlanOf, IsGoingOf, IsHere}
use Rattle.ddf_rebuild_command.specs.GoingBack.{copyback_asked, copyback_changes, copyback_request, copyback_unless, disk_refusals, go_to, is_misread_on, is_taken, room_of, room_unless}
use Rattle.ddf_rebuild_command.specs.Standing.{KeepSeats, recovery_in}
use Rattle.ddf_rebuild_command.proofs.BackChosen.{IsBackAt, is_chosen}
use Rattle.ddf_rebuild_command.proofs.BackFits.{IsBackFor}
use Rattle.ddf_rebuild_command.proofs.PlanFitted.{are_seats, within_by}
use Rattle.ddf_rebuild_command.proofs.PlanKept.{HasFirst, all_readied, config_first, first_readied, has_first}
use Rattle.ddf_rebuild_command.proofs.Positions.{IsHeld, element_there}
use Rattle.ddf_rebuild_command.proofs.SeatsKept.{LosesNone, seats_kept}
use Rattle.ddf_rebuild_command.proofs.Steps.{return_steps}
use Rattle.ddf_rebuild_command.proofs.Views.{IsAt, is_at}
use Rattle.ddf_bay.specs.State.{BayState}
use Rattle.ddf_plan.proofs.Afters.{last_pass}
use Rattle.ddf_seats.specs.Seated.{seated}
use Rattle.ddf_steps.proofs.Common.{same_steps}
use Rattle.ddf_history_steps.specs.BlockFloors.{AreFloored, floor_in}
use Rattle.ddf_data_group.proofs.Common.{view_over}
use Rattle.ddf_group_commands.specs.GroupRead.{IsReadFrom}
use Rattle.ddf_rebuild_command.specs.Opened.{CanOpen}

-- ---- what the disk was not refused for

neither : (taken misread : Bool) (slot : ℕ) → first_refusal (refuse_if taken (InUse slot) ∷ refuse_if misread (Level 0x11) ∷ []) ≡ None → taken ≡ false
neither true misread slot none = absurd cc
neither false misread slot none = refl

-- what is known of the room on a disk
pub record HasRoom (config : Configuration) (seats : List Seat) (linux : List ℕ) (guid : List ℕ) (array : Array) (slot reference : ℕ) (target : Target) (room : Extent) : Type 0 where
  pub free : first_refusal (disk_refusals config linux array slot reference) ≡ None
  pub is_room : room_for config guid seats target reference ≡ Some room
  pub sound : bad_on reference seats ≡ None

module _ (config : Configuration) (seats : List Seat) (linux : List ℕ) (guid : List ℕ) (array : Array) (slot reference : ℕ) (target : Target) (room : Extent) where
  unless_room : (found : Option Extent) → room_unless seats slot reference found ≡ Ok room → (found ≡ Some room) × (bad_on reference seats ≡ None)
  unless_room None e = absurd cc
  unless_room (Some one) e = by (bad_on reference seats) refl e
    where
      by : (bad : Option Refusal) → bad_on reference seats ≡ bad → ◌≡◌ {A = Result Extent Refusal} (elim bad [ None ↦ Ok one | Some refusal ↦ Err refusal ]) (Ok room) → (Some one ≡ Some room) × (bad_on reference seats ≡ None)
      by None is e = let same : one ≡ room = cc in (ap (λ (x : Extent). Some x) same, is)
      by (Some refusal) is e = absurd cc

  pub has_room : room_of config seats linux (guid, array) slot reference target ≡ Ok room → HasRoom config seats linux guid array slot reference target room
  has_room e = by (first_refusal (disk_refusals config linux array slot reference)) refl e
    where
      by : (refusal : Option Refusal) → first_refusal (disk_refusals config linux array slot reference) ≡ refusal
          → ◌≡◌ {A = Result Extent Refusal} (elim refusal [ None ↦ room_unless seats slot reference (room_for config guid seats target reference) | Some one ↦ Err one ]) (Ok room)
          → HasRoom config seats linux guid array slot reference target room
      by None is e = let parts = unless_room (room_for config guid seats target reference) e in record { free = is; is_room = parts.0; sound = parts.1 }
      by (Some one) is e = absurd cc

-- ---- the position isn't on that disk

pub not_there : (config : Configuration) (guid : List ℕ) (linux : List ℕ) (slot reference element position : ℕ) (held : Position) (before : IsHeld config guid element position held)
    → first_refusal (disk_refusals config linux before.array slot reference) ≡ None → held.reference ≡ reference → ⊥
not_there config guid linux slot reference element position held before free same =
    let taken = neither (is_taken config before.array reference) (is_misread_on linux before.array reference) slot free in
    let off = (or_parts (is_spare_disk config reference) (lies_on (array_extents before.array) reference) taken).1 in
    let at = to_flat part_extents before.array.elements element position (Some before.plan) (extent before.plan.blocks held) (element_there before.array element before.plan before.is_plan)
    (mapped_at (extent before.plan.blocks) before.plan.positions position held before.is_held) in
    let none = none_any (λ (one : Extent). one.reference == reference) (array_extents before.array) at.0 (extent before.plan.blocks held) off at.1 in
    false≢true (sym none ∙ eq-eqb held.reference reference same)

-- ---- the room

room_floor : (members : List (ℕ × Member)) (all : List Extent) (seats : List Seat) (strip blocks reference : ℕ) (room : Extent) → extent_on members all seats strip blocks reference ≡ Some room
    → (floor : ℕ) × (floor_of seats reference ≡ Some floor)
room_floor members all seats strip blocks reference room h = by (floor_of seats reference) refl (lookup (nat_eq reference) members) h
  where
    by : (known : Option ℕ) → floor_of seats reference ≡ known → (found : Option Member)
        → option_and_then (λ limit. option_map (λ start. record { reference = reference; start = start; blocks = blocks }) (least_start_of (taken_on all reference) limit strip blocks))
        (option_and_then (λ (member : Member). option_map (λ floor. min member.size floor) known) found) ≡ Some room
        → (floor : ℕ) × (floor_of seats reference ≡ Some floor)
    by (Some floor) e found h = (floor, e)
    by None e None h = absurd cc
    by None e (Some member) h = absurd cc

record IsRoomOf (config : Configuration) (guid : List ℕ) (seats : List Seat) (target : Target) (reference : ℕ) (room : Extent) : Type 0 where
  array : Array
  is_array : lookup (same_guid guid) config.arrays ≡ Some array
  plan : ElementValue
  is_plan : element_at array target.element ≡ Some plan
  is_blocks : room.blocks ≡ plan.blocks
  floor : ℕ
  is_floor : floor_of seats reference ≡ Some floor

room_parts : (config : Configuration) (guid : List ℕ) (seats : List Seat) (target : Target) (reference : ℕ) (room : Extent) → room_for config guid seats target reference ≡ Some room
    → IsRoomOf config guid seats target reference room
unfolding room_for
room_parts config guid seats target reference room h = by (lookup (same_guid guid) config.arrays) refl h
  where
    by_part : (array : Array) → lookup (same_guid guid) config.arrays ≡ Some array → (part : Option ElementValue) → element_at array target.element ≡ part
        → part_room config.members (extents config.arrays) seats (length array.elements) part reference ≡ Some room → IsRoomOf config guid seats target reference room
    by_part array is None is_part e = absurd cc
    by_part array is (Some plan) is_part e =
        let free = free_on config.members (extents config.arrays) seats (element_strip (length array.elements) plan) plan.blocks reference room e in
        let floor = room_floor config.members (extents config.arrays) seats (element_strip (length array.elements) plan) plan.blocks reference room e in
        record { array = array; is_array = is; plan = plan; is_plan = is_part; is_blocks = sym (ap (λ (one : Extent). one.blocks) free.is); floor = floor.0; is_floor = floor.1 }

    by : (o : Option Array) → lookup (same_guid guid) config.arrays ≡ o
        → ◌≡◌ {A = Option Extent} (elim o [ None ↦ None | Some array ↦ array_room config.members (extents config.arrays) seats array target.element reference ]) (Some room)
        → IsRoomOf config guid seats target reference room
    by None is e = absurd cc
    by (Some array) is e = by_part array is (element_at array target.element) refl e

unmarked_by : (within marked : Bool) → first_refusal (refuse_if (not within) Lost ∷ refuse_if marked Marked ∷ []) ≡ None → marked ≡ false
unmarked_by false marked none = absurd cc
unmarked_by true true none = absurd cc
unmarked_by true false none = refl

-- ---- seats

-- A disk whose slot has a seat is the seat's.
slot_found : (seats : List Seat) (slot : ℕ) → list_any (is_on slot) seats ≡ true → (seat : Seat) × (find (is_on slot) seats ≡ Some seat) × (seat.slot ≡ slot)
slot_found [] slot any = absurd (false≢true any)
slot_found (first ∷ seats) slot any = by (first.slot == slot) refl any (slot_found seats slot)
  where
    by : (b : Bool) → (first.slot == slot) ≡ b → (b || list_any (is_on slot) seats) ≡ true
        → (list_any (is_on slot) seats ≡ true → (seat : Seat) × (find (is_on slot) seats ≡ Some seat) × (seat.slot ≡ slot))
        → (seat : Seat) × (cond b (Some first) (find (is_on slot) seats) ≡ Some seat) × (seat.slot ≡ slot)
    by true e some rest = (first, refl, eqb-true first.slot slot e)
    by false e some rest = rest some

-- ---- all that is planned

module _ (found : GroupValue) (count : ℕ) (word : List ℕ) (slot : ℕ) (plan : GoingBack) (timestamp : ℕ) (is : IsBackPlanOf count (config_recovered found) found.seats (linux_members found) word slot plan)
    (members : AreMembers (config_recovered found) found.seats) where
  abbrev config : Configuration
  config = config_recovered found

  abbrev entry : Entry
  entry = is.entry

  abbrev goes : IsGoingOf config found.seats (linux_members found) entry slot plan
  goes = is.goes

  abbrev reference : ℕ
  reference = reference_on found.seats slot

  there : lookup (same_guid entry.0) config.arrays ≡ Some entry.1
  there = named_is config.arrays word entry is.is_named

  room : HasRoom config found.seats (linux_members found) entry.0 entry.1 slot reference plan.target goes.room
  room = has_room config found.seats (linux_members found) entry.0 entry.1 slot reference plan.target goes.room goes.is_room

  clear : IsRoom config found.seats reference goes.room
  clear = room_is config entry.0 found.seats plan.target reference goes.room room.is_room

  back : IsBackAt config entry.0 found.seats plan.target
  back = is_chosen config entry.0 found.seats plan.target goes.is_chosen

  same_array : back.is_held.array ≡ entry.1
  same_array = let both : Some back.is_held.array ≡ Some entry.1 = sym back.is_held.is_array ∙ there in cc

  elsewhere : back.held.reference ≡ goes.room.reference → ⊥
  elsewhere same =
      not_there config entry.0 (linux_members found) slot reference plan.target.element plan.target.position back.held back.is_held
      (ap (λ (one : Array). first_refusal (disk_refusals config (linux_members found) one slot reference)) same_array ∙ room.free) (same ∙ clear.on)

  change_is : plan.change ≡ Return entry.0 plan.target.element plan.target.position goes.room.reference goes.room.start
  change_is = goes.change_is

  -- The change is a step.
  stepped : is_step config plan.change ≡ true
  stepped = ap (is_step config) change_is ∙ return_steps config entry.0 plan.target.element plan.target.position goes.room.reference goes.room.start back.held back.is_held elsewhere

  pub asked : steps_asked found timestamp (copyback_request count word slot (linux_members found)) ≡ steps_or (readied found (plan.change ∷ []) timestamp)
  asked =
      ap (steps_by found timestamp)
      (ap (copyback_asked count config found.seats (linux_members found) slot) is.is_named
      ∙ ap (copyback_unless config found.seats (linux_members found) entry slot) is.accepted
      ∙ ap (copyback_changes config found.seats (linux_members found) entry slot) goes.is_chosen
      ∙ ap (go_to entry plan.target) goes.is_room ∙ ap (λ (change : Change). Ok (change ∷ [])) (sym goes.change_is))

  pub can_be_asked : AllByRecursion CanBeAsked (plan.change ∷ [])
  can_be_asked = (goes.can_be_asked, tt)

  none_lost : AllByRecursion LosesNone (plan.change ∷ [])
  none_lost = (ap lost_by change_is, tt)

  unmarked : is_marked entry.1 ≡ false
  unmarked =
      unmarked_by (is_array_within found.seats entry.1) (is_marked entry.1)
      (last_pass (array_refusals Reads config found.seats entry.0 entry.1 0 0) (refuse_if (not (is_array_within found.seats entry.1)) Lost ∷ refuse_if (is_marked entry.1) Marked ∷ [])
      (last_pass (slot_refusals count found.seats (slot ∷ [])) (rebuild_refusals config found.seats entry) is.accepted))

  within : is_array_within found.seats entry.1 ≡ true
  within =
      within_by (is_array_within found.seats entry.1) (is_marked entry.1)
      (last_pass (array_refusals Reads config found.seats entry.0 entry.1 0 0) (refuse_if (not (is_array_within found.seats entry.1)) Lost ∷ refuse_if (is_marked entry.1) Marked ∷ [])
      (last_pass (slot_refusals count found.seats (slot ∷ [])) (rebuild_refusals config found.seats entry) is.accepted))

  module _ (ready : ReadyValue) (was : WasReadied found (plan.change ∷ []) timestamp ready) where
    tried : steps_from timestamp None (plan.change ∷ []) config (disks_recovered timestamp found) ≡ Ok (steps_in ready.steps)
    tried = are_tried found (plan.change ∷ []) timestamp ready was

    first : HasFirst timestamp config (disks_recovered timestamp found) plan.change [] (steps_in ready.steps)
    first = has_first timestamp config (disks_recovered timestamp found) plan.change [] stepped (steps_in ready.steps) tried

    -- One step is ready behind the recovery.
    pub one : (step : ReadyStep) × (ready.steps ≡ step ∷ [])
    one =
        let none : [] ≡ first.behind = (let e = first.behind_are in same_steps first.behind e) in
        by ready.steps (first.steps_are ∙ ap (λ (behind : List Step). step_of timestamp config (disks_recovered timestamp found) plan.change ∷ behind) (sym none))
      where
        by : (steps : List ReadyStep) → steps_in steps ≡ step_of timestamp config (disks_recovered timestamp found) plan.change ∷ [] → (step : ReadyStep) × (steps ≡ step ∷ [])
        by [] e = absurd cc
        by (only ∷ []) e = (only, refl)
        by (only ∷ other ∷ others) e = absurd cc

    first_steps : readied found [] timestamp ≡ Ok (recovery_in ready.recovery)
    first_steps = first_readied found (plan.change ∷ []) timestamp ready was [] false refl ∙ ap (λ (steps : List Step). Ok steps) (append-nil (recovery_in ready.recovery))

    all_steps : readied found (plan.change ∷ []) timestamp ≡ Ok (recovery_in ready.recovery ++ one.0.step ∷ [])
    all_steps =
        all_readied found (plan.change ∷ []) timestamp ready was false
        ∙ ap (λ (steps : List ReadyStep). Ok ((recovery_in ready.recovery ++ []) ++ steps_in steps)) one.1
        ∙ ap (λ (steps : List Step). Ok (steps ++ one.0.step ∷ [])) (append-nil (recovery_in ready.recovery))

    pub keep_seats : KeepSeats found.seats ready.steps
    keep_seats = seats_kept found (plan.change ∷ []) timestamp ready was members none_lost

    -- The group can be recovered, and the step be written.
    pub back_opens : {D : Type 0} (tells : Type 0) (start : BayState D) → IsReadFrom tells start found → AreFloored (seated found) → CanOpen tells start found ready
    back_opens tells start from floored = record {
      from = from;
      changes = plan.change ∷ [];
      timestamp = timestamp;
      was = was;
      can_be_asked = can_be_asked;
      members = members;
      floored = floored;
      keep_seats = keep_seats;
    }

    module _ (sizes : List ℕ) (counted : count ≡ length sizes) (fit : SeatsFit sizes found.seats) where
      apart : IsApart plan.view
      apart = view_apart config entry.0 found.seats plan.view goes.is_view (are_seats config.members found.seats members was.assembled.slots_rise)

      over : IsOver found.seats entry.1 plan.view
      over = subst (λ (array : Array). IsOver found.seats array plan.view) same (view_over config entry.0 found.seats plan.view goes.known goes.is_view)
        where
          same : (from_view config entry.0 found.seats plan.view goes.is_view).array ≡ entry.1
          same = let both : Some (from_view config entry.0 found.seats plan.view goes.is_view).array ≡ Some entry.1 = sym (from_view config entry.0 found.seats plan.view goes.is_view).array_is ∙ there in cc

      is_within_view : is_within plan.view ≡ true
      is_within_view = told_within config entry.0 found.seats plan.view entry.1 goes.is_view there ∙ within

      free : (floor : ℕ) → floor_of found.seats goes.room.reference ≡ Some floor → seat_slot found.seats goes.room ≡ Some (slot_of found.seats goes.room.reference)
      free floor has =
          ap (λ (known : Option ℕ). elim known [ None ↦ None | Some most ↦ if nat_le (goes.room.start + goes.room.blocks) most then Some (slot_of found.seats goes.room.reference) else None ]) has
          ∙ ap (λ (b : Bool). if b then Some (slot_of found.seats goes.room.reference) else None)
          (le-leb (goes.room.start + goes.room.blocks) floor (ltb-false floor (goes.room.start + goes.room.blocks)
          (sym (ap (λ (known : Option ℕ). elim known [ None ↦ false | Some most ↦ nat_lt most (goes.room.start + goes.room.blocks) ]) has) ∙ clear.below)))

      -- the element of the position, in the view and in the room
      at_place : IsAt config entry.0 found.seats plan.view plan.target.element plan.target.position back.held back.is_held
      at_place = is_at config entry.0 found.seats plan.view goes.is_view plan.target.element plan.target.position back.held back.is_held

      pub is_here : IsHere plan.view plan.target.element plan.target.position
      is_here = record {
        part = at_place.part;
        place = at_place.place;
        slot = slot_of found.seats back.held.reference;
        is_part = at_place.is_part;
        is_place = at_place.is_place;
        is_synced = at_place.synced_is ∙ back.is_synced;
        is_there = at_place.is_there back.here;
      }

      parts : IsRoomOf config entry.0 found.seats plan.target reference goes.room
      parts = room_parts config entry.0 found.seats plan.target reference goes.room room.is_room

      has_floor : floor_of found.seats goes.room.reference ≡ Some parts.floor
      has_floor = ap (floor_of found.seats) clear.on ∙ parts.is_floor

      abbrev to : ℕ
      to = slot_of found.seats goes.room.reference

      seat : SeatOf found.seats goes.room.reference parts.floor
      seat = seat_of found.seats goes.room.reference parts.floor has_floor

      same_plan : back.is_held.plan ≡ parts.plan
      same_plan =
          let arrays : Some back.is_held.array ≡ Some parts.array = sym back.is_held.is_array ∙ parts.is_array in
          let same : back.is_held.array ≡ parts.array = cc in
          let both : Some back.is_held.plan ≡ Some parts.plan = sym back.is_held.is_plan ∙ ap (λ (one : Array). element_at one plan.target.element) same ∙ parts.is_plan in
          cc

      same_blocks : at_place.part.shape.blocks ≡ goes.room.blocks
      same_blocks =
          blocks_are (length back.is_held.array.elements) back.is_held.plan at_place.part.shape at_place.is_shape ∙ ap (λ (one : ElementValue). one.blocks) same_plan ∙ sym parts.is_blocks

      aside_to : IsAside sizes plan.view plan.target.element to goes.room.start
      aside_to =
          aside config found.seats (are_seats config.members found.seats members was.assembled.slots_rise) goes.room to (free parts.floor has_floor) clear.clear entry.0 entry.1 plan.view there over goes.small sizes
          plan.target.element at_place.part fit at_place.is_part same_blocks

      under : (part : Part) → slice_get plan.view.parts plan.target.element ≡ Some part → goes.room.start + depth_of part.shape ≤ floor_in found.seats to
      under part at =
          let both : Some at_place.part ≡ Some part = sym at_place.is_part ∙ at in
          let same : at_place.part ≡ part = cc in
          let blocks : part.shape.blocks ≡ goes.room.blocks = ap (λ (one : Part). one.shape.blocks) (sym same) ∙ same_blocks in
          let deep = depth_le part.shape.layout part.shape.strip part.shape.blocks in
          let ends = slot_ends found.seats goes.room to (free parts.floor has_floor) in
          let floors : Some ends.0 ≡ Some parts.floor = sym ends.1 ∙ has_floor in
          let floor : ends.0 ≡ parts.floor = cc in
          let own = floor_found found.seats was.assembled.slots_rise seat.at seat.seat seat.is_at in
          let most = ends.2 in
          let seat_floor = seat.is_floor in
          subst (λ (n : ℕ). goes.room.start + depth_of part.shape ≤ floor_in found.seats n) (sym seat.is_slot) (omega (arith, deep, blocks, most, own, seat_floor, floor))

      is_unmarked : plan.view.marked ≡ false
      is_unmarked =
          let view = from_view config entry.0 found.seats plan.view goes.is_view in
          let both : Some view.array ≡ Some entry.1 = sym view.array_is ∙ there in
          let same : view.array ≡ entry.1 = cc in
          view.marked_is ∙ ap is_marked same ∙ unmarked

      pub can_copy : CanCopy sizes found.seats plan.view plan.target plan.slot plan.start ready
      can_copy =
          subst (λ (n : ℕ). CanCopy sizes found.seats plan.view plan.target n plan.start ready) (sym goes.slot_is)
          (subst (λ (start : ℕ). CanCopy sizes found.seats plan.view plan.target to start ready) (sym goes.start_is) (record {
            config = config;
            guid = entry.0;
            is_view = goes.is_view;
            fit = fit;
            apart = apart;
            unmarked = is_unmarked;
            is_within = is_within_view;
            aside = aside_to;
            is_seat = record {
              place = seat.at;
              is_there = slice_get-map (λ (one : Seat). one.slot) found.seats seat.at ∙ ap (option_map (λ (one : Seat). one.slot)) seat.is_at ∙ ap (λ (n : ℕ). Some n) (sym seat.is_slot);
            };
            below = under;
            one = ap (λ (steps : List ReadyStep). length steps) one.1;
          }))

      -- That is what a copyback is to do.
      pub back_planned : IsBackPlanned sizes found timestamp word slot
      back_planned = record {
        entry = entry;
        is_named = is.is_named;
        target = plan.target;
        is_chosen = goes.is_chosen;
        room = goes.room;
        is_room = room.is_room;
        to = to;
        to_is = refl;
        first = recovery_in ready.recovery;
        are_first = first_steps;
        last = one.0.step;
        are_asked = ap (λ (n : ℕ). steps_asked found timestamp (copyback_request n word slot (linux_members found))) (sym counted) ∙ asked ∙ ap steps_or all_steps;
        are_readied = ap (λ (change : Change). readied found (change ∷ []) timestamp) (sym goes.change_is) ∙ all_steps;
        volume = plan.view;
        is_view = ap (λ (steps : List Step). view_of (config_behind found.config steps) entry.0 found.seats) (sym (append-nil (recovery_in ready.recovery)))
            ∙ ap (λ (one : Configuration). view_of one entry.0 found.seats) (config_first found (plan.change ∷ []) timestamp ready was false) ∙ goes.is_view;
        known = goes.known;
        apart = apart;
        is_here = goes.is_here;
        aside = aside_to;
        unmarked = is_unmarked;
        within = is_within_view;
      }

      pub back_for : IsBackFor sizes found timestamp word slot plan ready
      unfolding back_planned
      back_for = record {
        planned = back_planned;
        volume_is = refl;
        target_is = refl;
        to_is = sym goes.slot_is;
        start_is = sym goes.start_is;
        first_is = refl;
        one = one.0;
        last_is = refl;
        steps_are = one.1;
      }

    -- What it costs since the entry of its call.
    module _ {D : Type 0} (tells : Type 0) (entry_state start new : BayState D) (reads : ReadsOnly entry_state start) (counted : count ≡ length entry_state.sizes) (fit : SeatsFit entry_state.sizes found.seats) where
      pub costs_back : AsksGoingBack start new ready plan → CostsOfGoingBack (work_of tells entry_state new) timestamp word slot (Ok found)
      unfolding back_planned
      costs_back asks =
          let whole = back_planned entry_state.sizes counted fit in
          let part = goes.is_here.part in
          let same : steps_in (all_ready ready) ≡ recovery_in ready.recovery ++ one.0.step ∷ [] = ok_is (sym was.is_readied ∙ all_steps) in
          let steps = ready_count found (plan.change ∷ []) timestamp ready was ∙ ap steps_sectors same in
          inr (record {
            plan = whole;
            most = subst (λ (n : ℕ). WritesAtMost (work_of tells entry_state new) (n + depth_of part.shape)) steps
                (most_since tells entry_state start new reads (ready_sectors (all_ready ready) + depth_of part.shape) (asks part goes.is_here.is_part));
          })
