-- What recovery writes where no member is absent: the leaders' configuration, to the seats that lag.
use Rattle.std.proofs.Common.{◌≡◌, ℕ, Bool, true, false, not, eqb, List, [], map, Option, Some, None, if◌then◌else◌, refl, ap, sym, ◌∙◌, subst}
use Rattle.std.proofs.lemmas.Bool.{false≢true}
use Rattle.std.specs.Prelude.{filter, slice_get, slice_index}
use Rattle.std.specs.List.{AllByRecursion, list_any}
use Rattle.std.specs.Str.{bytes_eq}
use Rattle.ddf_lemmas.proofs.Lists.{all_filter, filter_none}
use Rattle.ddf_lemmas.proofs.Options.{none_from_map}
use Rattle.ddf_update.specs.declared.prepared.Mode.TheVariants as modes
use Rattle.ddf_update.specs.Prepared.{writes_anchor}
use Rattle.ddf_bay.specs.Sectors.{Image, IsLeft}
use Rattle.ddf_bay.specs.State.{BayState}
use Rattle.ddf_copy.specs.declared.copy.DiskCopy.{DiskCopy}
use Rattle.ddf_copy.specs.declared.newest_copy.Newest.TheVariants.{Level}
use Rattle.ddf_copy.specs.Copies.{newest_of}
use Rattle.ddf_copy.specs.Written.{CanBeCopy}
use Rattle.ddf_plan.specs.declared.change.Change.{Change}
use Rattle.ddf_view.specs.View.{View, view_of}
use Rattle.ddf_view.specs.Reading.{read}
use Rattle.ddf_view.specs.Shows.{shows}
use Rattle.ddf_rewrite.specs.Before.{before}
use Rattle.ddf_rewrite.specs.Hold.{CanBeRecovered}
use Rattle.ddf_rewrite.proofs.Lists.{all_at, all_mapped}
use Rattle.ddf_history.specs.Reading.{Scene, IsCopyOf}
use Rattle.ddf_history.specs.Reading.Shown.{One}
use Rattle.ddf_history.specs.Issued.{Past, IsSince, acknowledge, is_away, take_off}
use Rattle.ddf_history.specs.Leaders.{leading_copies, seen}
use Rattle.ddf_history.specs.Answer.{IsClaimed}
use Rattle.ddf_history.specs.Calls.{AreSure, IsAssembled, NoneAbsent}
use Rattle.ddf_history.specs.Groups.{groups, has_current}
use Rattle.ddf_history.specs.Promise.{IsKept}
use Rattle.ddf_history.specs.Scenes.{scene_of}
use Rattle.ddf_history.specs.Steps.{AreWritten, MayWrite}
use Rattle.ddf_history.proofs.Since.{first_is_copy}
use Rattle.ddf_history.proofs.Sound.{groups_are_sound}
use Rattle.ddf_history.proofs.AnsweredLists.{map_some}
use Rattle.ddf_seats.specs.declared.seated.Seated.{Seated}
use Rattle.ddf_assembly.specs.Assembled.{IsAsGroup}
use Rattle.ddf_recovery.specs.Committed.{MayRecover, WasReadied, disks_written, recovery_slots}
use Rattle.ddf_steps.specs.Full.{full_of}
use Rattle.ddf_seats.specs.Group.{GroupValue}
use Rattle.ddf_recovery.specs.Mending.{CanMend}
use Rattle.ddf_steps.specs.Ready.{ReadyStep}
use Rattle.ddf_recovery.specs.Ready.{ReadyValue}
use Rattle.ddf_recovery.specs.Recovery.{config_lost, full_mended, full_of_mending, full_of_recovery, lost_step, mended, mended_copy as mended_by, mending_step, recovery_of}
use Rattle.ddf_seats.specs.Leading.{lags, leading, leading_disks, leading_views, leads, some}
use Rattle.ddf_seats.specs.Seated.{seated, is_adopted}
use Rattle.ddf_steps.specs.Steps.{Step, in_order}
use Rattle.ddf_recovery.proofs.Mended.{HasMendingRoom, can_mend_all, mending_room, recovers, where_kept}
use Rattle.ddf_seats.proofs.RecordsHeld.{views_are}
use Rattle.ddf_recovery.proofs.ReadiedParts.{has_room}
use Rattle.ddf_steps.proofs.Rewritten.{closed_view}
use Rattle.ddf_recovery.proofs.Behind.{none_some}
use Rattle.ddf_history_steps.specs.Kept.{is_read, is_slot}
use Rattle.ddf_history_steps.proofs.Mending.{begun_kept, mending_acknowledged, mending_kept, mending_may_write}
use Rattle.ddf_history_steps.proofs.MendingSeats.{mended_copy}
use Rattle.ddf_history_steps.proofs.RecoveringEntry.{IsTaken, are_sure, assembled, current_seated, issued, none_absent, old, seat_claimed, seat_on, seat_sure, sure_kept, sure_state}
use Rattle.ddf_history_steps.proofs.RecoveringLeaders.{leaders_are}
use Rattle.ddf_history_steps.proofs.RecoveringPlaces.{IsWrittenOn, new_views, others_last, passes_written, written_on, written_seated}
use Rattle.ddf_history_steps.proofs.ShownCopies.{shows_newest, level_told}
use Rattle.ddf_history_steps.proofs.Stops.{AreInTurn, same_scene, scene_at}
use Rattle.ddf_history_steps.proofs.TheoryClaimed.{claimed_held}

module _ (group : List ℕ) {D : Type 0} (past : Past (groups group)) (state : BayState D) (left : List Bool) (named : Option (List ℕ)) (found : GroupValue)
    (taken : IsTaken group past state left named found) (changes : List Change) (timestamp : ℕ) (ready : ReadyValue) (was : WasReadied found changes timestamp ready)
    (may : MayRecover state found ready) (present : some found.absent ≡ false) where
  abbrev slots : List ℕ
  slots = recovery_slots ready

  abbrev held : Scene View
  held = scene_of state.sizes state.held

  abbrev old_on : ℕ → DiskCopy
  old_on = old group past state left named found taken

  abbrev number : ℕ
  number = (issued group past state left named found taken).0

  since : IsSince past.changes number found.config
  since = (issued group past state left named found taken).1

  all_assembled : IsAssembled past held (is_read left) found.config
  all_assembled = assembled group past state left named found taken

  -- No member is absent.
  pub none : found.absent ≡ []
  none = none_some found.absent present

  all_present : NoneAbsent (groups group) (is_read left) held found.config
  all_present = none_absent group past state left named found taken none

  none_lags : (disk : Seated) → found.lagging ≡ [] → lags found disk ≡ false
  none_lags disk no_lag = ap (λ (lagging : List ℕ). list_any (λ slot. eqb slot disk.seat.slot) lagging) no_lag

  -- ---- what is written

  recovery_is : recovery_of timestamp found ≡ (if some found.lagging then Some (mending_step timestamp found) else None)
  unfolding recovery_of
  recovery_is =
      ap (λ (b : Bool). if b then Some (lost_step timestamp found) else if some found.lagging then Some (mending_step timestamp found) else None) present

  -- The disks that lag are written; where none does, nothing is.
  pub mended_disks : disks_written ready.recovery ≡ in_order (map (mended (leading found) found.config timestamp) (filter (lags found) (seated found)))
  mended_disks = by (some found.lagging) refl
    where
      by : (b : Bool) → some found.lagging ≡ b → disks_written ready.recovery ≡ in_order (map (mended (leading found) found.config timestamp) (filter (lags found) (seated found)))
      by true is =
          let step : recovery_of timestamp found ≡ Some (mending_step timestamp found) =
          recovery_is ∙ ap (λ (b : Bool). if b then Some (mending_step timestamp found) else None) is in
          let one = map_some (λ (one : ReadyStep). one.step) ready.recovery (mending_step timestamp found) (was.is_recovery ∙ step) in
          ap disks_written one.1 ∙ ap (λ (made : Step). in_order made.disks) one.2
      by false is =
          let step : recovery_of timestamp found ≡ None = recovery_is ∙ ap (λ (b : Bool). if b then Some (mending_step timestamp found) else None) is in
          let nothing = none_from_map (λ (one : ReadyStep). one.step) ready.recovery (was.is_recovery ∙ step) in
          let no_lag = none_some found.lagging is in
          let kept = filter_none (lags found) (seated found) (λ disk. none_lags disk no_lag) in
          ap disks_written nothing ∙ sym (ap (λ (disks : List Seated). in_order (map (mended (leading found) found.config timestamp) disks)) kept)

  -- ---- the leaders

  abbrev pub leaders : List DiskCopy
  leaders = map (λ (disk : Seated). disk.copy) (leading_disks found)

  views : map view_of leaders ≡ leading_views found
  views = views_are (leading_disks found)

  -- What they say is what histories read.
  pub leaders_told : map view_of leaders ≡ leading_copies (groups group) found.config.sequence (seen (is_read left) held) past.slots
  leaders_told = views ∙ leaders_are group past state left named found taken none

  pub leaders_can : AllByRecursion CanBeCopy leaders
  unfolding leading_disks
  leaders_can =
      all_mapped CanBeCopy (λ (disk : Seated). disk.copy) (leading_disks found)
      (all_filter (λ (disk : Seated). CanBeCopy disk.copy) (leads found.config) (seated found) taken.assembled.are_copies)

  -- They give the configuration.
  pub leaders_read : read group found.config.sequence (map view_of leaders) ≡ found.config
  leaders_read =
      ap (λ (said : List View). read group found.config.sequence said) views
      ∙ ap (λ (name : List ℕ). read name found.config.sequence (leading_views found)) (sym taken.same_group)
      ∙ taken.assembled.is_read

  -- ---- a slot that is written

  abbrev IsOn : ℕ → Type 0
  IsOn slot = IsWrittenOn group past state left named found taken ready may (lags found) (mended (leading found) found.config timestamp) (λ disk. refl) mended_disks slot

  on : (slot : ℕ) → is_slot slots slot ≡ true → IsOn slot
  on = written_on group past state left named found taken ready may (lags found) (mended (leading found) found.config timestamp) (λ disk. refl) mended_disks

  -- Its copy claims it.
  pub mended_claimed : (slot : ℕ) → is_slot slots slot ≡ true → IsClaimed (groups group) (seen (is_read left) held) slot (view_of (old_on slot))
  mended_claimed slot seat =
      seat_claimed group past state left named found taken slot
      (written_seated group past state left named found taken ready may (lags found) (mended (leading found) found.config timestamp) (λ disk. refl) mended_disks slot seat)

  -- Where a disk lags no table is full.
  room : (disk : Seated) → lags found disk ≡ true → HasMendingRoom found
  unfolding full_of_recovery
  room disk lagging = by (some found.lagging) refl
    where
      free : (if some found.lagging then full_of_mending found else None) ≡ None
      free =
          sym (ap (λ (b : Bool). if b then full_of timestamp (leading found) (config_lost found) (seated found)
          else if some found.lagging then full_of_mending found else None) present)
          ∙ has_room found changes timestamp ready was

      by : (b : Bool) → some found.lagging ≡ b → HasMendingRoom found
      by true is = mending_room found (sym (ap (λ (b : Bool). if b then full_of_mending found else None) is) ∙ free)
      by false is = absurd (false≢true (sym (none_lags disk (none_some found.lagging is)) ∙ lagging))

  module _ (slot : ℕ) (seat : is_slot slots slot ≡ true) where
    -- Its copy can be recovered, where it doesn't show the configuration.
    pub mended_can : shows found.config (view_of (old_on slot)) ≡ false → CanBeRecovered (old_on slot) (before (map view_of leaders)) found.config timestamp
    mended_can behind =
        let is = on slot seat in
        let has = room is.disk is.passes in
        let fits = all_at (CanMend (leading found) found.config) (seated found) is.k is.disk (can_mend_all found taken.assembled has.same) is.is_there in
        let free = all_at (λ (disk : Seated). lags found disk ≡ true → full_mended (leading found) found.config disk ≡ None) (seated found) is.k is.disk
        (where_kept (λ (disk : Seated). full_mended (leading found) found.config disk ≡ None) (lags found) (seated found) has.none) is.is_there is.passes in
        let can = recovers (leading found) found.config timestamp was.time is.disk (record { can = fits; room = free })
        (ap (λ (copy : DiskCopy). shows found.config (view_of copy)) (sym is.is_old) ∙ behind) in
        subst (λ (said : List View). CanBeRecovered (old_on slot) (before said) found.config timestamp) (sym views)
        (subst (λ (copy : DiskCopy). CanBeRecovered copy (leading found) found.config timestamp) (sym is.is_old) can)

    -- It can be written.
    pub old_can : CanBeCopy (old_on slot)
    old_can =
        let is = on slot seat in
        subst CanBeCopy (sym is.is_old) (all_at (λ (disk : Seated). CanBeCopy disk.copy) (seated found) is.k is.disk taken.assembled.are_copies is.is_there)

  -- A disk whose copy is of another group is adopted.
  adopts : (disk : Seated) → is_adopted (mended (leading found) found.config timestamp disk) ≡ not (bytes_eq disk.copy.header.guid group)
  adopts disk = ap (λ (name : List ℕ). writes_anchor (if bytes_eq disk.copy.header.guid name then modes.Change else modes.Adopt)) taken.same_group ∙ by (bytes_eq disk.copy.header.guid group)
    where
      by : (b : Bool) → writes_anchor (if b then modes.Change else modes.Adopt) ≡ not b
      by true = refl
      by false = refl

  -- ---- what the slots show

  -- what they get
  abbrev pub new : ℕ → View
  new slot = view_of (mended_copy found.config leaders timestamp (old_on slot))

  pub mended_views : (place slot : ℕ) → slice_get slots place ≡ Some slot → new slot ≡ view_of (may.seat place).new
  mended_views =
      new_views group past state left named found taken ready may (lags found) (mended (leading found) found.config timestamp) (λ disk. refl) mended_disks
      (mended_copy found.config leaders timestamp)
      (λ disk.
      closed_view (mended_by (leading found) found.config timestamp disk.copy)
      ∙ ap (λ (said : List View). view_of (mended_by (before said) found.config timestamp disk.copy)) (sym views))

  -- A slot with level copies shows what they say.
  level_shows : (slot : ℕ) (copy : DiskCopy) → slice_get found.newest slot ≡ Some (Some (Level copy)) → held slot ≡ One (view_of copy)
  level_shows slot copy at =
      let is = taken.are_held slot (Level copy) at in
      let below = (taken.anchored slot (Level copy) at).0 in
      let size = slice_index state.sizes slot in
      let shown = shows_newest size (state.held slot) is.anchor is.is_anchored in
      let level = level_told (newest_of size (state.held slot) is.anchor) copy is.is_newest in
      scene_at state.sizes state.held slot below ∙ shown ∙ level

  -- A member whose slot isn't written shows the configuration.
  pub others_show : (image : Image) → IsLeft (sure_state group past state left named found taken).may_hold image
      → (slot : ℕ) → is_slot slots slot ≡ false → is_away past slot ≡ false → has_current found.config (past.disk slot) ≡ true
      → (view : View) × (scene_of state.sizes image slot ≡ One view) × (shows found.config view ≡ true)
  others_show image leaves slot rest here now =
      let seat = current_seated group past state left named found taken none slot now in
      let one = seat_on group past state left named found taken slot seat in
      let own = all_at (λ (disk : Seated). lags found disk ≡ false → IsAsGroup found disk) (seated found) one.place one.disk taken.assembled.unless_lags one.is_there
      (not_lagging one.place one.disk one.is_there one.slot_is (lags found one.disk) refl) in
      let newest : slice_get found.newest slot ≡ Some (Some (Level one.disk.copy)) = ap (slice_get found.newest) (sym one.slot_is) ∙ own.is_newest in
      let level = level_shows slot one.disk.copy newest in
      let sure = same_scene state.sizes image state.held slot (seat_sure group past state left named found taken image leaves slot seat) in
      (view_of one.disk.copy, sure ∙ level, own.is_shown)
    where
      not_lagging : (k : ℕ) (disk : Seated) → slice_get (seated found) k ≡ Some disk → disk.seat.slot ≡ slot → (b : Bool) → lags found disk ≡ b → lags found disk ≡ false
      not_lagging k disk at there false is = is
      not_lagging k disk at there true is =
          absurd (false≢true (sym rest ∙ ap (is_slot slots) (sym there)
          ∙ passes_written group past state left named found taken ready may (lags found) (mended (leading found) found.config timestamp) (λ one. refl)
          mended_disks k disk at is))

  -- ---- the history

  module _ (image : Image) (leaves : IsLeft (sure_state group past state left named found taken).may_hold image) where
    abbrev scene : Scene View
    scene = scene_of state.sizes image

    is_kept : IsKept past scene
    is_kept = sure_kept group past state left named found taken image leaves

    is_sure : AreSure (groups group) (is_read left) held scene
    is_sure = are_sure group past state left named found taken image leaves

    -- A slot that is written shows its old copy.
    shows_old : (slot : ℕ) → is_slot slots slot ≡ true → IsCopyOf (scene slot) (view_of (old_on slot))
    shows_old slot seat =
        let claimed = mended_claimed slot seat in
        let first = (claimed_held (groups group) (groups_are_sound group) past held (is_read left) found.config all_assembled slot (view_of (old_on slot)) claimed).1 in
        subst (λ (it : _). IsCopyOf it (view_of (old_on slot))) (sym (is_sure slot (view_of (old_on slot)) claimed))
        (first_is_copy (held slot) (view_of (old_on slot)) first)

    -- Its new copy is of the group.
    may_write : MayWrite (take_off past number) scene number found.config (is_slot slots) new
    may_write =
        mending_may_write past held scene (is_read left) number found.config all_assembled since is_kept is_sure all_present taken.same_group leaders leaders_told
        leaders_can leaders_read timestamp (is_slot slots) old_on mended_claimed mended_can old_can (others_show image leaves)

    -- The configuration that was assembled is the last.
    pub mended_begins : IsKept (take_off past number) scene
    mended_begins =
        begun_kept past held scene (is_read left) number found.config all_assembled since is_kept is_sure all_present taken.same_group leaders leaders_told
        leaders_can leaders_read timestamp (is_slot slots) old_on mended_claimed mended_can old_can (others_show image leaves)

    module _ (shown : Scene View) (written : AreWritten (is_slot slots) new scene shown) where
      -- Each slot shows what it should, whichever seats are written.
      pub mended_goes : AreInTurn slots new scene shown → IsKept (take_off past number) shown
      mended_goes turns =
          mending_kept past held scene (is_read left) number found.config all_assembled since is_kept is_sure all_present taken.same_group leaders leaders_told
          leaders_can leaders_read timestamp (is_slot slots) old_on mended_claimed mended_can old_can (others_show image leaves) shown written
          (others_last group past state left named found taken ready may (lags found) (mended (leading found) found.config timestamp) (λ disk. refl) mended_disks
          adopts new scene shown shows_old may_write.are_ours turns)

      -- Once all were, the configuration may be acknowledged.
      pub mended_ends : ((slot : ℕ) → is_slot slots slot ≡ true → shown slot ≡ One (new slot)) → IsKept (acknowledge (take_off past number) number) shown
      mended_ends done =
          (mending_acknowledged past held scene (is_read left) number found.config all_assembled since is_kept is_sure all_present taken.same_group leaders
          leaders_told leaders_can leaders_read timestamp (is_slot slots) old_on mended_claimed mended_can old_can (others_show image leaves) shown written done).0
