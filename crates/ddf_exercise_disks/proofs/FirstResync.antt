-- The resync of a new array, of which nothing was written yet: its blocks are zeros.
use Rattle.std.proofs.Common.{◌≡◌, ◌∙◌, ◌⊎◌, ℕ, zero, suc, ◌+◌, ◌*◌, ◌^◌, ◌<◌, ◌≤◌, Bool, true, false, List, [], ◌∷◌, ◌++◌, length, fold, max, replicate, Some, None, Ok, refl, sym, ap, subst, inl, inr, ⊎_elim, arith}
use Rattle.std.specs.Prelude.{if◌then◌else◌, slice_get}
use Rattle.std.specs.List.{AllByRecursion}
use Rattle.ddf_lemmas.proofs.Lists.{zero_first}
use Rattle.ddf_lemmas.proofs.Options.{same_ok_value, same_some}
use Rattle.ddf_bytes.specs.Streams.{SinkState}
use Rattle.ddf_bay.specs.Memory.{disks_of, state_of}
use Rattle.ddf_bay.specs.Moments.{GoesOn}
use Rattle.ddf_bay.specs.declared.memory.MemoryBay.{MemoryBay}
use Rattle.ddf_header.specs.declared.geometry.Geometry.{Geometry}
use Rattle.ddf_parity.specs.Xor.{zeros}
use Rattle.ddf_config.specs.declared.member.SpareUse.TheVariants.{No}
use Rattle.ddf_config.specs.declared.seat.Seat.{Seat}
use Rattle.ddf_config.specs.Configuration.{Configuration}
use Rattle.ddf_plan.specs.declared.change.Change.{Change}
use Rattle.ddf_plan.specs.declared.change.Change.TheVariants.{Mark, Unmark}
use Rattle.ddf_plan.specs.Refusals.{greatest_sequence}
use Rattle.ddf_array.specs.declared.part.Part.{Part}
use Rattle.ddf_array.specs.declared.place.Place.{Place}
use Rattle.ddf_array.specs.Places.{is_available}
use Rattle.ddf_array.specs.Sound.{AreSectors}
use Rattle.ddf_array.specs.Viewing.{view_of}
use Rattle.ddf_array.specs.Volume.{Volume}
use Rattle.ddf_array.specs.Within.{is_redundant}
use Rattle.ddf_cells.specs.Apart.{LiesAt}
use Rattle.ddf_read.specs.Reading.{Failed}
use Rattle.ddf_resync.specs.Several.{resync_sectors}
use Rattle.ddf_resync.proofs.Extents.{sectors_in_extents}
use Rattle.ddf_data_group.specs.Clear.{ChangesItsCells, IsItsCell}
use Rattle.ddf_data_group.proofs.Clearly.{resync_changes}
use Rattle.ddf_history_steps.specs.BlockFloors.{floor_in}
use Rattle.ddf_resync.specs.Resyncing.{HasResynced, IsLeftByResync}
use Rattle.ddf_seats.specs.declared.seated.Seated.{Seated}
use Rattle.ddf_seats.specs.Group.{GroupValue}
use Rattle.ddf_assembly.specs.Group.{group_of}
use Rattle.ddf_recovery.specs.Ready.{readied}
use Rattle.ddf_recovery.specs.Recovery.{config_recovered}
use Rattle.ddf_steps.specs.Refusing.{most_members, step_refusal}
use Rattle.ddf_seats.specs.Seated.{seated}
use Rattle.ddf_steps.specs.Steps.{Step}
use Rattle.ddf_rebuild.proofs.Aiming.{cell_lies}
use Rattle.ddf_request.specs.Named.{named_array}
use Rattle.ddf_text.specs.Done.{sequence_line}
use Rattle.ddf_answer.specs.Call.{Work, answer_of, work_of}
use Rattle.ddf_answer.specs.Costs.{WritesAtMost}
use Rattle.ddf_group_commands.specs.Change.{Request, last_sequence, steps_of}
use Rattle.ddf_group_commands.specs.Costs.{steps_sectors}
use Rattle.ddf_group_commands.specs.Written.{AreWritten}
use Rattle.ddf_write_commands.specs.Around.{config_behind, marking}
use Rattle.ddf_write_commands.specs.Costs.{CostsOfDoing}
use Rattle.ddf_write_commands.specs.Planned.{Entry, IsPlanned}
use Rattle.ddf_write_commands.specs.Resync.{IsResyncDone, resync_request, resyncing}
use Rattle.ddf_write_commands.specs.Worked.{AreBlocksDone, IsArrayDone}
use Rattle.ddf_uncut_group.specs.Asking.{AreNext, AreReadiedTo, IsNothing}
use Rattle.ddf_uncut_group.specs.Blocks.{LeavesRecords}
use Rattle.ddf_uncut_group.specs.Plain.{ArePlain, HavePlain}
use Rattle.ddf_uncut_group.specs.Settled.{AreSettledAs, IsToldByAll, group_behind}
use Rattle.ddf_uncut_group.proofs.AskingReadied.{all_asked, all_readied, seats_long}
use Rattle.ddf_uncut_group.proofs.BlocksBelow.{blocks_settled}
use Rattle.ddf_uncut_group.proofs.PlainNewest.{newest_seated}
use Rattle.ddf_uncut_group.proofs.StepsSettled.{steps_settled}
use Rattle.ddf_uncut_group.proofs.StepsSplit.{one_same, readied_none}
use Rattle.ddf_uncut_data.specs.Blank.{IsBlank}
use Rattle.ddf_uncut_data.specs.Blocks.{HoldsBlocks}
use Rattle.ddf_uncut_data.specs.Whole.{IsWhole}
use Rattle.ddf_uncut_data.proofs.Held.{holds_equal, holds_same}
use Rattle.ddf_uncut_data.proofs.Resync.{holds_zeros}
use Rattle.ddf_exercise_config.specs.Disks.{AreApart, Disks}
use Rattle.ddf_exercise_config.specs.Stages.{array, created, marked, not_at_all, positions_at, resynced, seats_at, wholly}
use Rattle.ddf_exercise_config.specs.Turns.Turn.{Opening}
use Rattle.ddf_exercise_config.specs.Words.{word}
use Rattle.ddf_exercise_config.proofs.Asked as wanted
use Rattle.ddf_exercise_config.proofs.Made as made
use Rattle.ddf_exercise_config.proofs.Readable as readable
use Rattle.ddf_exercise_config.proofs.Used as used
use Rattle.ddf_exercise_config.specs.Views.{part as laid, places_at, view_at}
use Rattle.ddf_exercise_disks.specs.Ending.{EndsWell, unused}
use Rattle.ddf_exercise_disks.specs.Standing.{StandsAt}
use Rattle.ddf_exercise_disks.specs.Storing.{StoresAt, filled_with}
use Rattle.ddf_exercise_disks.specs.Well.{sizes_made}
use Rattle.ddf_exercise_disks.specs.Zeros.{IsZero}
use Rattle.ddf_exercise_disks.proofs.Aside.{steps_aside}
use Rattle.ddf_exercise_disks.proofs.Clip.{alike_low, memory_sectors, view_below}
use Rattle.ddf_exercise_disks.proofs.FirstChange.{room_none}
use Rattle.ddf_exercise_disks.proofs.Next.{makes_next}
use Rattle.ddf_exercise_disks.proofs.Healthy.{stays_well}
use Rattle.ddf_exercise_disks.proofs.Outcomes.{resync_ends}
use Rattle.ddf_exercise_disks.proofs.Standing.{asks, calm as calm_on, ends_then, finds, last_is, memory_or, memory_told, on_five, recovered, steps_cost}
use Rattle.ddf_exercise_disks.proofs.WritingRoom.{place_at}

-- ---- a change that is no step

most_from : (disks : List Seated) (so_far : ℕ) → ArePlain sizes_made disks → (so_far ≡ 16) ⊎ ((so_far ≡ 0) × (0 < length disks))
    → fold (λ most (disk : Seated). max most disk.copy.header.geometry.max_members) so_far disks ≡ 16
most_from [] so_far plain (inl is) = is
most_from [] so_far plain (inr none) = absurd (omega (arith, none.1))
most_from (disk ∷ disks) so_far plain is =
    let here : disk.copy.header.geometry.max_members ≡ 16 = ap (λ (geometry : Geometry). geometry.max_members) plain.0.same_geometry in
    let next : max so_far disk.copy.header.geometry.max_members ≡ 16 = ⊎_elim (λ all. omega (arith, here, all)) (λ none. omega (arith, here, none.0)) is in
    most_from disks (max so_far disk.copy.header.geometry.max_members) plain.1 (inl next)

nothing_refused : (timestamp : ℕ) (group : GroupValue) → IsToldByAll group → HavePlain sizes_made group.newest → (change : Change) → IsNothing group.config group.seats change
    → step_refusal timestamp None group.config (seated group) change ≡ None
unfolding step_refusal
nothing_refused timestamp group told plain change is =
    let seats = told.is_settled.are_seated in
    let long = seats_long (seated group) in
    let same = ap (λ (all : List Seat). length all) told.is_settled.are_seated in
    let some = told.some_seat in
    let most : most_members (seated group) ≡ 16 = most_from (seated group) 0 (newest_seated sizes_made group plain) (inr (refl, omega (arith, long, same, some))) in
    rw (most, seats, is.no_cause, is.is_no_step) refl

-- It is readied as nothing.
pub nothing_readied : (timestamp : ℕ) (group : GroupValue) → IsToldByAll group → HavePlain sizes_made group.newest → (change : Change) → IsNothing group.config group.seats change
    → readied group (change ∷ []) timestamp ≡ Ok []
nothing_readied timestamp group told plain change is = one_same timestamp group told.is_settled change (nothing_refused timestamp group told plain change is) is.is_no_step

-- ---- the array

abbrev view : Volume
view = view_at Opening true

part_is : (element : ℕ) (part : Part) → slice_get view.parts element ≡ Some part → part.places ≡ places_at Opening
part_is zero part at = let is : laid (places_at Opening) ≡ part = cc in ap (λ (one : Part). one.places) (sym is)
part_is (suc element) part at = absurd cc

view_place : (P : Place → Type 0) → AllByRecursion P (places_at Opening) → (element position : ℕ) (part : Part) (place : Place) → slice_get view.parts element ≡ Some part → slice_get part.places position ≡ Some place
    → P place
view_place P all element position part place at there = place_at P (places_at Opening) all position place (subst (λ (places : List Place). slice_get places position ≡ Some place) (part_is element part at) there)

view_whole : IsWhole view
view_whole element position part place at there = view_place (λ (one : Place). is_available one ≡ true) (refl, (refl, (refl, tt))) element position part place at there

-- its cells are on the first three slots
abbrev IsOnFirst : Place → Type 0
IsOnFirst place = (slot : ℕ) → place.slot ≡ Some slot → slot < 3

view_slot : (element position sector slot lba : ℕ) → LiesAt view element position sector slot lba → slot < 3
view_slot element position sector slot lba lies =
    view_place IsOnFirst
    (λ s is. let same : 0 ≡ s = cc in omega (arith, same), (λ s is. let same : 1 ≡ s = cc in omega (arith, same), (λ s is. let same : 2 ≡ s = cc in omega (arith, same), tt)))
    element position lies.part lies.place lies.is_part lies.is_place slot lies.is_there

floor_first : (disks : Disks) (slot : ℕ) → slot < 3 → floor_in (seats_at disks Opening) slot ≡ 32687
floor_first disks zero low = refl
floor_first disks (suc zero) low = refl
floor_first disks (suc (suc zero)) low = refl
floor_first disks (suc (suc (suc slot))) low = absurd (omega (arith, low))

-- the sectors that its resync writes
resync_few : resyncing.most_sectors view ≤ 12288
resync_few = by (is_redundant view)
  where
    few : resync_sectors view ≤ 12288
    few = sectors_in_extents view (used.is_volume_at Opening true)

    by : (redundant : Bool) → (if redundant then resync_sectors view else 0) ≤ 12288
    by true = few
    by false = omega arith

zero_filled : (block : ℕ) → filled_with (replicate 8192 0) block ≡ zeros
unfolding zeros
zero_filled block = ap (λ (byte : ℕ). replicate 512 byte) (zero_first 8192 block)

-- ---- results

asked_most : (new old asked steps most : ℕ) → new ≤ old + (steps + most) → old ≤ asked → steps ≤ 415 → most ≤ 12288 → new ≤ asked + 415 + 12288
asked_most new old asked steps most cost before few small = omega (arith, cost, before, few, small)

-- ---- the resync

module _ (name : List ℕ) (total asked : ℕ) (out : List Bool) (disks : Disks) (apart : AreApart disks) (guid : List ℕ) (sequence : ℕ) (within : sequence + 1 ≤ greatest_sequence) (old new : MemoryBay)
    (stands : StandsAt name total asked out (created name disks guid sequence) (seats_at disks Opening) old) (empty : IsZero old) (goes : GoesOn (disks_of old) (disks_of new)) (timestamp : ℕ) (time : timestamp < 2 ^ 32)
    (enough : asked + 415 + 12288 ≤ total) where
  abbrev work : Work MemoryBay
  work = work_of (Unit {0}) (disks_of old) (disks_of new)

  abbrev config : Configuration
  config = created name disks guid sequence

  abbrev next : Configuration
  next = resynced name disks guid (sequence + 1)

  abbrev seats : List Seat
  seats = seats_at disks Opening

  abbrev asking : Request
  asking = resync_request word

  nothing : IsNothing stands.group.config stands.group.seats (Mark guid)
  nothing =
      subst (λ (some : Configuration). IsNothing some stands.group.seats (Mark guid)) (sym stands.config_is)
      (subst (λ (all : List Seat). IsNothing config all (Mark guid)) (sym stands.seats_are)
      (record { can_be_asked = tt; no_cause = made.resync_marks name disks guid sequence; is_no_step = made.is_marked_already name disks apart guid sequence }))

  mark_ready : readied stands.group (Mark guid ∷ []) timestamp ≡ Ok []
  mark_ready = nothing_readied timestamp stands.group stands.settled.is_told stands.plain (Mark guid) nothing

  are_next : AreNext stands.group.seats stands.group.config (Unmark guid wholly ∷ []) next
  are_next =
      subst (λ (some : Configuration). AreNext stands.group.seats some (Unmark guid wholly ∷ []) next) (sym stands.config_is)
      (subst (λ (all : List Seat). AreNext all config (Unmark guid wholly ∷ []) next) (sym stands.seats_are)
      (makes_next seats config (Unmark guid wholly) next (made.resync name disks apart guid sequence within) tt within
      (readable.early_current name disks apart guid (sequence + 1) No No (array (positions_at disks Opening) 0 2)).seats_are (room_none name disks guid 0 2 (sequence + 1))))

  readies : AreReadiedTo sizes_made timestamp stands.group (Unmark guid wholly ∷ []) next
  readies = all_readied sizes_made timestamp time (Unmark guid wholly ∷ []) stands.group next stands.settled.is_told stands.plain are_next

  both_ready : readied stands.group (Mark guid ∷ Unmark guid wholly ∷ []) timestamp ≡ Ok readies.steps
  both_ready = readied_none timestamp stands.group stands.settled.is_told.is_settled (Mark guid) (Unmark guid wholly ∷ []) mark_ready ∙ readies.are_readied

  steps_are : steps_of stands.group timestamp asking ≡ Ok readies.steps
  steps_are = asks name total asked out config seats old new stands goes timestamp asking (Mark guid ∷ Unmark guid wholly ∷ []) readies.steps (wanted.resyncs name disks apart guid sequence) both_ready

  steps_few : steps_sectors readies.steps ≤ 415
  steps_few =
      let cost = steps_cost stands.group.seats readies.steps readies.plain_steps readies.on_all in
      let same : 83 * length stands.group.seats * length readies.steps ≡ 83 * 5 * length readies.steps = ap (λ (all : List Seat). 83 * length all * length readies.steps) stands.seats_are in
      let fewer = readies.few in
      omega (arith, cost, same, fewer)

  -- ---- what is planned

  module _ (plan : IsPlanned stands.group timestamp word asking) where
    entry_is : plan.entry ≡ (guid, array (positions_at disks Opening) marked not_at_all)
    entry_is =
        same_some (named_array (config_recovered stands.group).arrays word) plan.entry (guid, array (positions_at disks Opening) marked not_at_all) plan.is_named
        (ap (λ (some : Configuration). named_array some.arrays word) (recovered name total asked out config seats old new stands goes) ∙ used.is_named guid (positions_at disks Opening) 16 0)

    -- no step comes before the blocks
    first_none : plan.first ≡ []
    first_none =
        same_ok_value (readied stands.group (Mark guid ∷ []) timestamp) plan.first []
        (sym (ap (λ (entry : Entry). readied stands.group (marking entry) timestamp) entry_is) ∙ plan.are_first) mark_ready

    all_are : plan.first ++ plan.last ≡ readies.steps
    all_are = same_ok_value (steps_of stands.group timestamp asking) (plan.first ++ plan.last) readies.steps plan.are_asked steps_are

    last_are : plan.last ≡ readies.steps
    last_are = sym (ap (λ (first : List Step). first ++ plan.last) first_none) ∙ all_are

    volume_is : plan.volume ≡ view
    volume_is =
        same_ok_value (view_of config guid seats) plan.volume view
        (sym
        (ap (λ (first : List Step). view_of (config_behind stands.group.config first) plan.entry.0 stands.group.seats) first_none
        ∙ ap (λ (some : Configuration). view_of some plan.entry.0 stands.group.seats) stands.config_is
        ∙ ap (λ (entry : Entry). view_of config entry.0 stands.group.seats) entry_is
        ∙ ap (λ (all : List Seat). view_of config guid all) stands.seats_are)
        ∙ plan.is_view)
        (used.early_view name disks apart guid 16 0 sequence false false No No)

    costs_few : WritesAtMost work (steps_sectors (plan.first ++ plan.last) + resyncing.most_sectors plan.volume) → (state_of new).asked ≤ asked + 415 + 12288
    costs_few cost =
        asked_most (state_of new).asked (state_of old).asked asked (steps_sectors (plan.first ++ plan.last)) (resyncing.most_sectors plan.volume) cost.asked stands.few
        (subst (λ (steps : List Step). steps_sectors steps ≤ 415) (sym all_are) steps_few) (subst (λ (v : Volume). resyncing.most_sectors v ≤ 12288) (sym volume_is) resync_few)

    -- ---- what it did

    module _ (blocks : AreBlocksDone resyncing work stands.group plan.first plan.last plan.volume) where
      before_same : (slot l : ℕ) → blocks.before slot l ≡ (disks_of old).held slot l
      before_same slot l = (subst (λ (first : List Step). AreWritten (disks_of old).sizes (disks_of old).held first blocks.before) first_none blocks.first_written) slot l

      changes : ChangesItsCells view blocks.before blocks.behind
      changes =
          resync_changes view blocks.before blocks.before blocks.behind (used.is_volume_at Opening true)
          (subst (λ (v : Volume). IsLeftByResync v (Unit {0}) blocks.before blocks.behind) volume_is blocks.is_left)

      cell_low : (slot l : ℕ) → IsItsCell view slot l → l < 4096
      cell_low slot l cell = view_below Opening true cell.element cell.position cell.sector slot l cell.lies

      last_written : AreWritten sizes_made blocks.behind readies.steps (disks_of new).held
      last_written =
          subst (λ (sizes : List ℕ). AreWritten sizes blocks.behind readies.steps (disks_of new).held) stands.well.sizes_are
          (subst (λ (steps : List Step). AreWritten (disks_of old).sizes blocks.behind steps (disks_of new).held) last_are blocks.last_written)

      last_same : (slot l : ℕ) → l < 32687 → (disks_of new).held slot l ≡ blocks.behind slot l
      last_same slot l low =
          steps_aside readies.steps stands.group.seats blocks.behind (disks_of new).held last_written readies.plain_steps readies.on_all (on_five name total asked out config seats old stands) slot l low

      behind_sectors : AreSectors blocks.behind
      behind_sectors slot l = ⊎_elim
          (λ stayed. ap (λ (bytes : List ℕ). length bytes) (stayed ∙ before_same slot l) ∙ memory_sectors old slot l)
          (λ cell.
          let low = cell_low slot l cell in
          ap (λ (bytes : List ℕ). length bytes) (sym (last_same slot l (omega (arith, low)))) ∙ memory_sectors new slot l)
          (changes slot l)

      -- The disks are the group, settled, behind the blocks too.
      leaves : LeavesRecords stands.group.seats (disks_of old).held blocks.behind
      leaves slot l = ⊎_elim
          (λ stayed. inl (stayed ∙ before_same slot l))
          (λ cell.
          let low = cell_low slot l cell in
          let floor : floor_in stands.group.seats slot ≡ 32687 =
          ap (λ (all : List Seat). floor_in all slot) stands.seats_are ∙ floor_first disks slot (view_slot cell.element cell.position cell.sector slot l cell.lies) in
          inr (omega (arith, low, floor)))
          (changes slot l)

      settled_then : AreSettledAs sizes_made (disks_of new).held out (group_behind stands.group readies.steps)
      settled_then =
          steps_settled timestamp time (Unmark guid wholly ∷ []) sizes_made blocks.behind (disks_of new).held out stands.group readies.steps
          (blocks_settled sizes_made (disks_of old).held blocks.behind out stands.group stands.settled leaves)
          (all_asked (Unmark guid wholly ∷ []) stands.group.seats stands.group.config next are_next) readies.are_readied readies.members last_written

      -- The blocks are zeros.
      blank : IsBlank view blocks.before
      blank slot lba cell =
          let low = view_below Opening true cell.element cell.position cell.sector slot lba (cell_lies view slot lba cell) in
          before_same slot lba ∙ empty slot lba (omega (arith, low))

      holds_behind : HoldsBlocks (view_at Opening false) blocks.behind (λ block. zeros)
      holds_behind =
          holds_zeros (Failed (disks_of old) (disks_of new)) view blocks.before blocks.behind (used.is_volume_at Opening true) (used.is_apart_at Opening true) refl view_whole behind_sectors
          (subst (λ (v : Volume). HasResynced (Failed (disks_of old) (disks_of new)) v blocks.before blocks.behind) volume_is blocks.has_done) blank

      holds_then : HoldsBlocks (view_at Opening false) (disks_of new).held (filled_with (replicate 8192 0))
      holds_then =
          holds_equal (view_at Opening false) (disks_of new).held (λ block. zeros) (filled_with (replicate 8192 0)) (λ block low. zero_filled block)
          (holds_same (view_at Opening false) blocks.behind (disks_of new).held (λ block. zeros) (memory_sectors new)
          (alike_low (view_at Opening false) (view_below Opening false) blocks.behind (disks_of new).held (λ slot l low. sym (last_same slot l low))) holds_behind)

      stores_then : (state_of new).asked ≤ asked + 415 + 12288 → StoresAt name total (asked + 415 + 12288) out next seats (view_at Opening false) (replicate 8192 0) new
      stores_then few = record {
        stands = record {
          well = stays_well total out old new stands.well goes (omega (arith, few, enough));
          few = few;
          group = group_behind stands.group readies.steps;
          settled = settled_then;
          plain = readies.plain_newest;
          config_is = readies.is_last;
          seats_are = readies.same_seats ∙ stands.seats_are;
          named = stands.named;
          here = stands.here;
        };
        holds = holds_then;
      }

  -- ---- how it ends

  module _ (after : SinkState) (status : ℕ) (done : IsResyncDone work (Some name) timestamp word (answer_of (Unit {0}) unused after status)) where
    abbrev Then : Type 0
    Then = StoresAt name total (asked + 415 + 12288) out next seats (view_at Opening false) (replicate 8192 0) new

    module _ (is_found : group_of done.has.taken.newest (Some name) ≡ Ok stands.group) where
      asks_few : (state_of new).asked ≤ asked + 415 + 12288
      asks_few = ⊎_elim
          (λ none. let cost = none.asked in let before = stands.few in omega (arith, cost, before))
          (λ costs. costs_few costs.plan costs.most)
          (subst (CostsOfDoing resyncing work timestamp word asking) is_found done.has.costs)

      ends_so : EndsWell (answer_of (Unit {0}) unused after status) (sequence_line (last_sequence stands.group.config.sequence readies.steps))
          (IsArrayDone resyncing work stands.group timestamp word asking (last_sequence stands.group.config.sequence readies.steps))
      ends_so =
          resync_ends work (answer_of (Unit {0}) unused after status) tt stands.group timestamp word readies.steps
          (calm_on name total asked out config seats old new stands goes (let few = asks_few in omega (arith, few, enough))) steps_are (Some name) done is_found

      sequence_is : last_sequence stands.group.config.sequence readies.steps ≡ sequence + 1
      sequence_is = last_is stands.group readies.steps ∙ ap (λ (some : Configuration). some.sequence) readies.is_last

      found_ends : EndsWell (answer_of (Unit {0}) unused after status) (sequence_line (sequence + 1)) Then
      found_ends =
          subst (λ (number : ℕ). EndsWell (answer_of (Unit {0}) unused after status) (sequence_line number) Then) sequence_is
          (ends_then (answer_of (Unit {0}) unused after status) (sequence_line (last_sequence stands.group.config.sequence readies.steps)) (λ worked. stores_then worked.plan (worked.done tt) asks_few) ends_so)

    -- It is done, and the blocks of the array are zeros.
    pub resync_stores : EndsWell (answer_of (Unit {0}) unused after status) (sequence_line (sequence + 1)) Then
    resync_stores = ⊎_elim
        (λ memory. inl (memory_told done.outcome (answer_of (Unit {0}) unused after status) memory done.ends))
        (λ ample. found_ends (finds name total asked out config seats old new stands goes done.has.taken.left done.has.taken.newest done.has.taken.every_slot done.has.taken.failed
        (done.has.gone (λ none. ample none)) (done.has.taken.read tt)))
        (memory_or done.outcome)
