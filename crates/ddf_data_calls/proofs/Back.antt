-- A position that goes back keeps the data of its group, wherever a stop leaves it.
use Rattle.std.proofs.Common.{◌≡◌, ◌∙◌, ◌⊎◌, inl, inr, ⊎_elim, ℕ, ◌+◌, ◌<◌, ◌≤◌, Bool, true, false, List, [], ◌∷◌, ◌++◌, length, Option, Some, None, Ok, refl, ap, sym, subst, arith}
use Rattle.std.specs.Prelude.{is_some, slice_get}
use Rattle.std.specs.Map.{lookup}
use Rattle.ddf_lemmas.proofs.Options.{some_is}
use Rattle.ddf_bay.specs.Sectors.{Image, IsLeft}
use Rattle.ddf_bay.specs.State.{BayState}
use Rattle.ddf_primary.specs.Cells.{depth_of}
use Rattle.ddf_primary.proofs.ShapeFacts.{depth_le}
use Rattle.ddf_config.specs.declared.array.Array.{Array}
use Rattle.ddf_config.specs.declared.extent.Extent.{Extent}
use Rattle.ddf_config.specs.declared.seat.Seat.{Seat}
use Rattle.ddf_config.specs.Configuration.{Configuration}
use Rattle.ddf_config.specs.ElementValue.{ElementValue}
use Rattle.ddf_config.specs.Extents.{extents}
use Rattle.ddf_config.specs.Members.{is_current, same_guid}
use Rattle.ddf_config.specs.Seats.{floor_of, slot_of}
use Rattle.ddf_copy.specs.declared.newest_copy.Newest.{Newest}
use Rattle.ddf_plan.specs.declared.change.Change.{Change}
use Rattle.ddf_plan.specs.declared.change.Change.TheVariants.{Return}
use Rattle.ddf_plan.specs.Create.{lies_clear}
use Rattle.ddf_array.specs.declared.part.Part.{Part}
use Rattle.ddf_array.specs.Redundant.{IsRedundant}
use Rattle.ddf_array.specs.Sound.{AreSectors}
use Rattle.ddf_array.specs.Viewing.{seat_slot, view_of}
use Rattle.ddf_array.specs.Volume.{Volume}
use Rattle.ddf_array.proofs.Shapes.{blocks_are}
use Rattle.ddf_cells.specs.Alike.{AreAlike}
use Rattle.ddf_cells.specs.Apart.{LiesAt}
use Rattle.ddf_cells.specs.Writing.{IsAmongSectors}
use Rattle.ddf_cells.proofs.Alike.{redundant_same}
use Rattle.ddf_rebuild.specs.Filling.{HoldsWanted, IsFilled}
use Rattle.ddf_rebuild.proofs.Kept.{alike_filled, wanted_alike}
use Rattle.ddf_data_array.specs.Allowed.{Allowed}
use Rattle.ddf_data_array.specs.Moved.{HoldsTheSame}
use Rattle.ddf_data_array.specs.Rows.{AreAlikeThroughout, NoneAbsent}
use Rattle.ddf_data_array.proofs.Holding.{holds_same}
use Rattle.ddf_data_group.specs.Clear.{IsItsCell}
use Rattle.ddf_data_group.specs.Clearing.{MayMove}
use Rattle.ddf_data_group.specs.Grouped.{MayChange, Promises}
use Rattle.ddf_data_group.specs.Over.{IsOver as IsSeatedOver, absent_in}
use Rattle.ddf_data_group.proofs.Clearly.{IsUsed, below_floor, used}
use Rattle.ddf_data_group.proofs.Free.{never}
use Rattle.ddf_data_group.proofs.Lessened.{slot_ends}
use Rattle.ddf_data_group.proofs.Parts.{of_part}
use Rattle.ddf_data_group.proofs.Readied.{none_absent}
use Rattle.ddf_history.specs.Groups.{Disk, groups, has_current}
use Rattle.ddf_history.specs.Issued.{IsSince, Past}
use Rattle.ddf_seats.specs.Group.{GroupValue}
use Rattle.ddf_steps.specs.Committed.{slots_of}
use Rattle.ddf_recovery.specs.Recovery.{config_recovered}
use Rattle.ddf_steps.specs.Steps.{config_after}
use Rattle.ddf_rebuild.proofs.Aiming.{cell_lies}
use Rattle.ddf_history_steps.specs.Going.{Goes, IsOver, changes_in, issue_all}
use Rattle.ddf_history_steps.specs.Kept.{is_read, is_slot}
use Rattle.ddf_history_steps.proofs.Recovering.{acked_still}
use Rattle.ddf_data_history.specs.Promised.{AreAlone, IsAlone, KeepsData, is_seat, seats_in}
use Rattle.ddf_data_history.proofs.Seats.{is_at}
use Rattle.ddf_data_history.proofs.Steps.{by_acknowledge, by_records}
use Rattle.ddf_data_history.proofs.Viewed.{are_members, over_unique}
use Rattle.ddf_data_disks.specs.Seats.{AreAlikeSeats}
use Rattle.ddf_answer.specs.Call.{work_of}
use Rattle.ddf_request.specs.Slots.{reference_on}
use Rattle.ddf_group_commands.specs.Writing.{IsLeftWriting}
use Rattle.ddf_group_commands.specs.Written.{AreWritten}
use Rattle.ddf_group_commands.specs.Requests.{linux_members}
use Rattle.ddf_write_commands.specs.Holding.{holding}
use Rattle.ddf_data_calls.specs.Calls.{AreMade, left_over}
use Rattle.ddf_rebuild_command.specs.Along.{AreIssued}
use Rattle.ddf_rebuild_command.specs.BackAlong.{HasGone}
use Rattle.ddf_rebuild_command.specs.BackPlanned.{BackStage, IsBackLeftAt, IsBackPlanned, IsLeftCopying, IsLeftReturning}
use Rattle.ddf_rebuild_command.specs.BackPlanned.BackStage.{Copying, Opening, Returning}
use Rattle.ddf_rebuild_command.specs.GoingBack.{back_to, copyback_asked}
use Rattle.ddf_rebuild_command.proofs.SeatsThere.{have_seats}
use Rattle.ddf_data_calls.proofs.Asked.{slots_same}
use Rattle.ddf_data_calls.proofs.BackRoom.{IsRoomFor, IsSeatOf, room_of, seat_of_slot, seat_slot_is, slot_seated}
use Rattle.ddf_data_calls.proofs.Below.{was, was_held, was_left, was_own}
use Rattle.ddf_data_calls.proofs.First as opening
use Rattle.ddf_data_calls.proofs.First.{IsCalled}
use Rattle.ddf_data_calls.proofs.Issued.{all_keep}
use Rattle.ddf_data_calls.proofs.OneArray as one
use Rattle.ddf_data_calls.proofs.Split as split
use Rattle.ddf_data_calls.proofs.Standing as standing
use Rattle.ddf_data_calls.proofs.Begins.{none_some}
use Rattle.ddf_data_calls.proofs.Filling.{true_false}

module _ {D : Type 0} (group : List ℕ) (old new : BayState D) (past : Past (groups group)) (floor : ℕ → ℕ) (promises : Promises) (left : List Bool) (newest : List (Option Newest)) (named : Option (List ℕ)) (found : GroupValue)
    (called : IsCalled group old past floor promises left newest named found) (tells : Type 0) (timestamp : ℕ) (word : List ℕ) (slot : ℕ) (plan : IsBackPlanned old.sizes found timestamp word slot) where
  abbrev v : Volume
  v = plan.volume

  abbrev e : ℕ
  e = plan.target.element

  abbrev p : ℕ
  p = plan.target.position

  abbrev from : ℕ
  from = plan.room.start

  abbrev here : ℕ → Bool
  here s = is_slot (slots_of found.seats) s

  abbrev change : Change
  change = back_to plan.entry plan.target plan.room

  -- the configuration behind the first steps: the recovered one
  abbrev between : Configuration
  between = split.between found timestamp None (change ∷ []) plan.first (plan.last ∷ []) plan.are_first plan.are_readied

  same_config : between ≡ config_recovered found
  same_config = ⊎_elim
      (λ same. same)
      (λ (made : (one : Change) × (None ≡ Some one) × (between ≡ config_after (config_recovered found) one)). none_some None made.0 refl made.1)
      (split.between_config found timestamp None (change ∷ []) plan.first (plan.last ∷ []) plan.are_first plan.are_readied)

  current : (disk : Disk) → has_current between disk ≡ has_current (config_recovered found) disk
  current disk = ap (λ (c : Configuration). has_current c disk) same_config

  is_view : view_of between plan.entry.0 found.seats ≡ Ok plan.volume
  is_view =
      ap (λ (c : Configuration). view_of c plan.entry.0 found.seats)
      (sym (split.between_is found timestamp None (change ∷ []) plan.first (plan.last ∷ []) plan.are_first plan.are_readied)) ∙ plan.is_view

  cells_on : (s l : ℕ) → IsItsCell v s l → (is_slot (slots_of found.seats) s ≡ true) × (l < floor s)
  cells_on = opening.cells_on group old past floor promises left newest named found called between plan.entry.0 plan.volume is_view plan.known

  -- ---- the first steps

  -- While they are written the data are kept.
  pub opening_keeps : (image : Image) → AreSectors image → IsLeftWriting old plan.first image → (now : Past (groups group)) → Goes group past (is_read left) found (changes_in found plan.first) now
      → KeepsData group now floor image promises
  opening_keeps =
      opening.opening_keeps group old past floor promises left newest named found called timestamp None (change ∷ []) plan.first (plan.last ∷ []) plan.are_first plan.are_readied (λ image. tt)

  made_first : (image : Image) → AreMade (seats_in group (left_over group past (is_read left) found) floor) image promises found.config (changes_in found plan.first)
  made_first =
      opening.made_first group old past floor promises left newest named found called timestamp None (change ∷ []) plan.first (plan.last ∷ []) plan.are_first plan.are_readied (λ image. tt)

  floored_first : (s l : ℕ) (opened : Image) → AreWritten old.sizes old.held plan.first opened → l < floor s → opened s l ≡ old.held s l
  floored_first = opening.floored_first group old past floor promises left newest named found called timestamp None (change ∷ []) plan.first (plan.last ∷ []) plan.are_first plan.are_readied

  last_same : (behind image : Image) (writing : IsLeftWriting (holding old (slots_of found.seats) behind) (plan.last ∷ []) image) (s l : ℕ) → l < floor s → image s l ≡ writing.before s l
  last_same = opening.last_same group old past floor promises left newest named found called timestamp None (change ∷ []) plan.first (plan.last ∷ []) plan.are_first plan.are_readied

  issued_is : slice_get (found.config ∷ changes_in found plan.first) (length (changes_in found plan.first)) ≡ Some between
  issued_is = split.between_issued found timestamp None (change ∷ []) plan.first (plan.last ∷ []) plan.are_first plan.are_readied

  -- ---- the room

  room : IsRoomFor (config_recovered found) plan.entry.0 found.seats plan.target (reference_on found.seats slot) plan.room
  room = room_of (config_recovered found) plan.entry.0 found.seats plan.target (reference_on found.seats slot) plan.room plan.is_room

  seat : IsSeatOf group old past floor promises left newest named found called slot
  seat =
      seat_of_slot group old past floor promises left newest named found called slot
      (slot_seated found timestamp (length old.sizes) word slot plan.entry (plan.first ++ plan.last ∷ [])
      (ap (copyback_asked (length old.sizes) (config_recovered found) found.seats (linux_members found) slot) plan.is_named) plan.are_asked)

  -- it is filled on that slot
  to_slot : plan.to ≡ slot
  to_slot = plan.to_is ∙ ap (slot_of found.seats) room.on ∙ seat.same_slot

  to_here : is_slot (slots_of found.seats) plan.to ≡ true
  to_here = ap (is_slot (slots_of found.seats)) to_slot ∙ seat.is_here

  room_floor : floor_of found.seats plan.room.reference ≡ Some (floor plan.to)
  room_floor = ap (floor_of found.seats) room.on ∙ seat.floor_is ∙ ap (λ (n : ℕ). Some (floor n)) (sym to_slot)

  on_found : seat_slot found.seats plan.room ≡ Some plan.to
  on_found = seat_slot_is found.seats plan.room (floor plan.to) plan.to room_floor (sym plan.to_is) room.below

  clear_between : lies_clear (between).members (extents (between).arrays) plan.room ≡ true
  clear_between = ap (λ (c : Configuration). lies_clear c.members (extents c.arrays) plan.room) same_config ∙ room.clear

  -- It ends at or below the floor of its slot.
  room_low : plan.room.start + plan.room.blocks ≤ floor plan.to
  room_low =
      let ends = slot_ends found.seats plan.room plan.to on_found in
      let same : ends.0 ≡ floor plan.to = some_is (sym ends.1 ∙ room_floor) in
      omega (arith, ends.2, same)

  -- it is as long as the extents of its element
  array_is : (array : Array) → lookup (same_guid plan.entry.0) (between).arrays ≡ Some array → room.array ≡ array
  array_is array there = some_is (sym room.is_array ∙ sym (ap (λ (c : Configuration). lookup (same_guid plan.entry.0) c.arrays) same_config) ∙ there)

  plan_is : (array : Array) → lookup (same_guid plan.entry.0) (between).arrays ≡ Some array → (known : ElementValue) → slice_get array.elements e ≡ Some (Some known) → room.plan ≡ known
  plan_is array there known at = some_is (some_is (sym room.is_plan ∙ ap (λ (a : Array). slice_get a.elements e) (array_is array there) ∙ at))

  part_blocks : plan.is_here.part.shape.blocks ≡ plan.room.blocks
  part_blocks =
      let uses = used between plan.entry.0 found.seats plan.volume is_view plan.known in
      let of = of_part found.seats uses.array plan.volume uses.over e plan.is_here.part plan.is_here.is_part in
      blocks_are (length uses.array.elements) of.element plan.is_here.part.shape of.shape_is
      ∙ ap (λ (x : ElementValue). x.blocks) (sym (plan_is uses.array uses.is_found of.element of.is_element)) ∙ sym room.blocks_are

  -- ---- images

  -- Below the floors the seats' slots have what the disks held, but for the room's sectors, and the others what a stop might have left.
  pub record IsReached (image : Image) : Type 0 where
    pub beside : (s l : ℕ) → is_slot (slots_of found.seats) s ≡ false → l < floor s → old.may_hold s l (image s l)
    pub given : (s l : ℕ) → is_slot (slots_of found.seats) s ≡ true → l < floor s → (image s l ≡ old.held s l) ⊎ IsFilled plan.volume plan.target.element plan.to plan.room.start s l

  own_part : (part : Part) → slice_get v.parts e ≡ Some part → part ≡ plan.is_here.part
  own_part part at = some_is (sym at ∙ plan.is_here.is_part)

  filled_slot : (s l : ℕ) → IsFilled v e plan.to from s l → s ≡ plan.to
  filled_slot s l cell = cell.among.on_slot

  on_seat : (s l : ℕ) → IsFilled v e plan.to from s l → is_slot (slots_of found.seats) s ≡ true
  on_seat s l cell = ap (is_slot (slots_of found.seats)) (filled_slot s l cell) ∙ to_here

  -- a sector that is filled lies in the room
  in_room : (s l : ℕ) → IsFilled v e plan.to from s l → (plan.room.start ≤ l) × (l < plan.room.start + plan.room.blocks)
  in_room s l cell =
      let shape = plan.is_here.part.shape in
      let among : IsAmongSectors plan.to from (depth_of shape) s l = subst (λ (x : Part). IsAmongSectors plan.to from (depth_of x.shape) s l) (own_part cell.part cell.is_part) cell.among in
      (among.from, omega (arith, among.below, depth_le shape.layout shape.strip shape.blocks, part_blocks))

  -- Each is on the slot of a seat, below its floor.
  pub filled_low : (s l : ℕ) → IsFilled plan.volume plan.target.element plan.to plan.room.start s l → (is_slot (slots_of found.seats) s ≡ true) × (l < floor s)
  filled_low s l cell =
      let low = in_room s l cell in
      (on_seat s l cell, subst (λ (n : ℕ). l < floor n) (sym (filled_slot s l cell)) (omega (arith, low.1, room_low)))

  -- ---- the history behind the first steps

  module _ (begin : Past (groups group)) (over : IsOver group past (is_read left) found (changes_in found plan.first) begin) where
    alone : IsAlone group begin between
    alone =
        standing.alone group old past floor called.small left newest named found called.long called.read called.is_found called.own called.admitted called.floors (changes_in found plan.first) between issued_is
        current begin over

    since : IsSince begin.changes begin.changes.acked between
    since =
        standing.since group old past floor called.small left newest named found called.long called.read called.is_found called.own called.admitted called.floors (changes_in found plan.first) between issued_is
        current begin over

    in_one : AreAlone group begin
    in_one =
        standing.in_one group old past floor called.small left newest named found called.long called.read called.is_found called.own called.admitted called.floors (changes_in found plan.first) between issued_is
        current begin over

    view : view_of between plan.entry.0 (seats_in group begin floor between) ≡ Ok plan.volume
    view =
        standing.view group old past floor called.small left newest named found called.long called.read called.is_found called.own called.admitted called.floors (changes_in found plan.first) between issued_is
        current begin over plan.entry.0 plan.volume is_view

    alike : AreAlikeSeats found.seats (seats_in group begin floor between)
    alike =
        standing.alike group old past floor called.small left newest named found called.long called.read called.is_found called.own called.admitted called.floors (changes_in found plan.first) between issued_is
        current begin over

    before_keeps : (image : Image) → IsLeft old.may_hold image → KeepsData group begin floor image promises
    before_keeps image was_left_then =
        standing.keeps group old past floor called.small left newest named found called.long called.read called.is_found called.own called.admitted called.floors (changes_in found plan.first) between issued_is
        current begin over promises called.all image was_left_then (made_first image)

    abbrev listed : List Seat
    listed = seats_in group begin floor between

    abbrev use_of : IsUsed between plan.entry.0 (seats_in group begin floor between) plan.volume
    use_of = one.use_of group floor called.small begin between alone plan.entry.0 plan.volume view plan.known

    seat_there : (reference : ℕ) → is_current (between).members reference ≡ true → is_some (floor_of listed reference) ≡ true
    seat_there reference is =
        sym (ap (λ (o : Option ℕ). is_some o) (alike.same_floors reference))
        ∙ have_seats newest named found called.is_found reference (sym (ap (λ (c : Configuration). is_current c.members reference) same_config) ∙ is)

    lacks_none : (array : Array) → lookup (same_guid plan.entry.0) (between).arrays ≡ Some array → (element : ℕ) → NoneAbsent (absent_in (between).members listed array.elements) element
    lacks_none array there = none_absent between plan.entry.0 listed plan.volume view array there seat_there

    on_listed : seat_slot listed plan.room ≡ Some plan.to
    on_listed = ap (λ (slots : Extent → Option ℕ). slots plan.room) (sym (slots_same found.seats listed alike)) ∙ on_found

    -- so it is no array's
    no_arrays : (guid : List ℕ) (array : Array) (w : Volume) → lookup (same_guid guid) (between).arrays ≡ Some array → IsSeatedOver listed array w
        → (element position sector s l : ℕ) → LiesAt w element position sector s l → IsFilled v e plan.to from s l → ⊥
    no_arrays guid array w there over_w element position sector s l lies cell =
        let low = in_room s l cell in
        never between listed (are_members group floor begin between) plan.room plan.to on_listed clear_between guid array w there over_w element position sector l
        (subst (λ (n : ℕ). LiesAt w element position sector n l) (filled_slot s l cell) lies) low.0 low.1

    -- ---- the data while the room is filled, and behind it

    module _ (image : Image) (are : AreSectors image) (reached : IsReached image) where
      abbrev earlier : Image
      earlier = was old floor (λ s. is_slot (slots_of found.seats) s) image

      earlier_keeps : KeepsData group begin floor earlier promises
      earlier_keeps = before_keeps earlier (was_left old floor (λ s. is_slot (slots_of found.seats) s) image called.told reached.beside)

      same_cell : (guid : List ℕ) (array : Array) (w : Volume) → lookup (same_guid guid) (between).arrays ≡ Some array → IsSeatedOver listed array w
          → (element position sector s l : ℕ) → LiesAt w element position sector s l → (b : Bool) → is_slot (slots_of found.seats) s ≡ b → l < floor s → earlier s l ≡ image s l
      same_cell guid array w there over_w element position sector s l lies true on low =
          was_held old floor (λ s. is_slot (slots_of found.seats) s) image s l on
          ∙ ⊎_elim (λ same. sym same) (λ cell. absurd (no_arrays guid array w there over_w element position sector s l lies cell)) (reached.given s l on low)
      same_cell guid array w there over_w element position sector s l lies false away low = was_own old floor (λ s. is_slot (slots_of found.seats) s) image s l away low

      arrays_alike : (guid : List ℕ) (array : Array) (w : Volume) → lookup (same_guid guid) (between).arrays ≡ Some array → IsSeatedOver listed array w → AreAlikeThroughout w earlier image
      arrays_alike guid array w there over_w element position sector s l lies =
          let below = below_floor listed array w over_w element position sector s l lies in
          let at = is_at floor begin.disk (is_seat group begin between) begin.slots below.0 below.1 s below.2 below.3 in
          same_cell guid array w there over_w element position sector s l lies (is_slot (slots_of found.seats) s) refl (subst (λ (n : ℕ). l < n) at.is_floor below.4)

      pub reached_keeps : KeepsData group begin floor image promises
      reached_keeps =
          by_records group floor called.small begin earlier promises earlier_keeps image are (λ number config is guid array w there over_w.
          subst (λ (c : Configuration). lookup (same_guid guid) c.arrays ≡ Some array → IsSeatedOver (seats_in group begin floor c) array w → AreAlikeThroughout w earlier image)
          (sym (alone number config is)) (arrays_alike guid array w) there over_w)

  -- ---- while the room is filled

  module _ (image : Image) (are : AreSectors image) (begin : Past (groups group)) (over : IsOver group past (is_read left) found (changes_in found plan.first) begin) where
    module _ (at : IsLeftCopying (work_of tells old new) found plan image) where
      copying_reached : IsReached image
      copying_reached = record {
        beside = λ s l away below. ⊎_elim
            (⊎_elim (λ on. true_false (is_slot (slots_of found.seats) s) on.0 away) (λ other. other.1))
            (λ cell. true_false (is_slot (slots_of found.seats) s) (on_seat s l cell) away) (at.is_left s l);
        given = λ s l there below. ⊎_elim
            (⊎_elim (λ on. inl (on.1 ∙ floored_first s l at.before at.first_written below)) (λ other. true_false (is_slot (slots_of found.seats) s) there other.0))
            (λ cell. inr cell) (at.is_left s l);
      }

      pub copying_keeps : KeepsData group begin floor image promises
      copying_keeps = reached_keeps begin over image are copying_reached

    -- ---- while the step is written by which the position is there

    module _ (tell : new.tells_left) (at : IsLeftReturning (work_of tells old new) found plan image) where
      abbrev writing : IsLeftWriting (holding old (slots_of found.seats) at.filled) (plan.last ∷ []) image
      writing = at.is_left

      held_same : (s l : ℕ) → is_slot (slots_of found.seats) s ≡ true → l < floor s → image s l ≡ (at.filled) s l
      held_same s l there below =
          last_same at.filled image writing s l below ∙ ⊎_elim (λ on. on.1) (λ other. true_false (is_slot (slots_of found.seats) s) there other.0) (writing.is_left s l)

      returning_reached : IsReached image
      returning_reached = record {
        beside = λ s l away below.
            subst (old.may_hold s l) (sym (last_same at.filled image writing s l below))
            (⊎_elim (λ on. true_false (is_slot (slots_of found.seats) s) on.0 away) (λ other. other.1) (writing.is_left s l));
        given = λ s l there below. ⊎_elim
            (λ same. inl (held_same s l there below ∙ same ∙ floored_first s l at.before at.first_written below)) (λ cell. inr cell) ((at.is_filled).stays s l);
      }

      kept : KeepsData group begin floor image promises
      kept = reached_keeps begin over image are returning_reached

      before_alike : AreAlike v at.before image
      before_alike s l cell =
          let on = cells_on s l (record { element = cell.element; position = cell.position; sector = cell.sector; lies = cell_lies v s l cell }) in
          alike_filled old.sizes v e plan.to from plan.aside at.before at.filled (at.is_filled).stays s l cell ∙ sym (held_same s l on.0 on.1)

      abbrev lists : List Seat
      lists = seats_in group begin floor between

      abbrev uses : IsUsed between plan.entry.0 lists plan.volume
      uses = one.use_of group floor called.small begin between (alone begin over) plan.entry.0 plan.volume (view begin over) plan.known

      -- What it holds there is what it should hold, since what was read is sure.
      holds : IsRedundant v image → HoldsWanted v e p plan.to from image image
      holds redundant part sector part_at deep =
          let sure : IsRedundant v at.before = redundant_same v plan.known image at.before (λ s l cell. sym (before_alike s l cell)) redundant in
          let wanted = wanted_alike v e p plan.to from at.before image at.filled plan.known before_alike ((at.is_filled).copied (inr ((at.is_filled).are_sectors tell, sure))) part sector part_at deep in
          let shape = plan.is_here.part.shape in
          let same : depth_of part.shape ≡ depth_of shape = ap (λ (x : Part). depth_of x.shape) (own_part part part_at) in
          let low : from + sector < floor plan.to = omega (arith, deep, same, depth_le shape.layout shape.strip shape.blocks, part_blocks, room_low) in
          held_same plan.to (from + sector) to_here low ∙ wanted

      holds_the_same : (allowed : Allowed) → promises plan.entry.0 ≡ Some allowed → HoldsTheSame v image e p plan.to from
      holds_the_same allowed promised =
          let its = one.own_kept group floor called.small begin between (alone begin over) plan.entry.0 plan.volume (view begin over) plan.known image promises kept begin.changes.acked (since begin over) allowed promised in
          holds_same (absent_in (between).members lists (uses).array.elements) v plan.known image its.sound plan.unmarked plan.within e plan.is_here.part plan.is_here.is_part
          (lacks_none begin over (uses).array (uses).is_found e) p plan.is_here.place plan.is_here.is_place plan.is_here.is_synced plan.is_here.slot plan.is_here.is_there plan.to from
          (holds (its.sound.redundant plan.unmarked plan.within))

      seated_at : (array : Array) → (uses).array ≡ array → (known : ElementValue) → slice_get array.elements e ≡ Some (Some known)
          → seat_slot lists (record { reference = plan.room.reference; start = plan.room.start; blocks = known.blocks }) ≡ Some plan.to
      seated_at array same known at_e =
          let there : lookup (same_guid plan.entry.0) (between).arrays ≡ Some array = (uses).is_found ∙ ap Some same in
          ap (λ (n : ℕ). seat_slot lists (record { reference = plan.room.reference; start = plan.room.start; blocks = n }))
          (sym (room.blocks_are ∙ ap (λ (x : ElementValue). x.blocks) (plan_is array there known at_e)))
          ∙ on_listed begin over

      -- So the position may be there.
      may_move : MayChange between lists image promises (Return plan.entry.0 plan.target.element plan.target.position plan.room.reference plan.room.start)
      may_move guid allowed array promised there same w over_w =
          let there_own : lookup (same_guid plan.entry.0) (between).arrays ≡ Some array = ap (λ (name : List ℕ). lookup (same_guid name) (between).arrays) (sym same) ∙ there in
          let one_array : (uses).array ≡ array = some_is (sym (uses).is_found ∙ there_own) in
          let its : IsSeatedOver lists array v = subst (λ (a : Array). IsSeatedOver lists a v) one_array (uses).over in
          subst (λ (x : Volume). MayMove lists array x image e p plan.room.reference plan.room.start) (over_unique lists array v w its over_w)
          (record { slot = plan.to; is_seated = seated_at array one_array; same = holds_the_same allowed (ap promises (sym same) ∙ promised) })

      issued_keeps : KeepsData group (issue_all group begin (changes_in found (plan.last ∷ []))) floor image promises
      issued_keeps =
          all_keep group floor called.small image promises begin (in_one begin over) begin.changes.acked between (since begin over) (changes_in found (plan.last ∷ []))
          (split.last_made found timestamp None (change ∷ []) plan.first (plan.last ∷ []) plan.are_first plan.are_readied (Some change) refl (seats_in group begin floor) image promises may_move) kept

      pub returning_keeps : (now : Past (groups group)) → AreIssued group begin (changes_in found (plan.last ∷ [])) now → KeepsData group now floor image promises
      returning_keeps now (inl is_issued) = subst (λ (some : Past (groups group)). KeepsData group some floor image promises) (sym is_issued) issued_keeps
      returning_keeps now (inr is_acked) =
          subst (λ (some : Past (groups group)). KeepsData group some floor image promises) (sym is_acked)
          (by_acknowledge group floor called.small (issue_all group begin (changes_in found (plan.last ∷ []))) image promises issued_keeps (begin.changes.acked + length (changes_in found (plan.last ∷ [])))
          (let same = acked_still group begin (changes_in found (plan.last ∷ [])) in omega (arith, same)))

  -- So they are at each stage.
  pub stage_keeps : new.tells_left → (image : Image) → AreSectors image → (stage : BackStage) (now : Past (groups group)) → HasGone group (work_of tells old new) past left found plan stage now
      → IsBackLeftAt (work_of tells old new) found plan stage image → KeepsData group now floor image promises
  stage_keeps tell image are Opening now gone at = opening_keeps image are at now gone
  stage_keeps tell image are Copying now gone at = copying_keeps image are now gone at
  stage_keeps tell image are Returning now gone at = returning_keeps image are gone.0 gone.1 tell at now gone.2
