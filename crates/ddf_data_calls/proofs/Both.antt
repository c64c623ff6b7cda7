-- A call on the blocks of an array, its first steps, its work and its last step, keeps the data of its group wherever it stops.
use Rattle.std.proofs.Common.{◌≡◌, ◌⊎◌, ◌∙◌, inl, inr, ⊎_elim, ℕ, ◌+◌, ◌<◌, Bool, true, false, List, ◌∷◌, ◌++◌, length, Option, Some, None, Ok, refl, ap, sym, subst, arith, if◌then◌else◌}
use Rattle.std.specs.Prelude.{option_map, option_to_list, slice_get}
use Rattle.ddf_lemmas.proofs.Tests.{true_false}
use Rattle.ddf_bay.specs.Sectors.{Image, IsLeft}
use Rattle.ddf_bay.specs.State.{BayState}
use Rattle.ddf_config.specs.Configuration.{Configuration}
use Rattle.ddf_config.specs.Members.{same_guid}
use Rattle.ddf_copy.specs.declared.newest_copy.Newest.{Newest}
use Rattle.ddf_plan.specs.declared.change.Change.{Change}
use Rattle.ddf_plan.specs.declared.change.Change.TheVariants.{Mark, Unmark}
use Rattle.ddf_array.specs.Apart.{IsApart}
use Rattle.ddf_array.specs.Redundant.{IsRedundant}
use Rattle.ddf_array.specs.Sound.{AreSectors}
use Rattle.ddf_array.specs.Viewing.{is_array_redundant, view_of}
use Rattle.ddf_array.specs.Volume.{IsVolume, Volume}
use Rattle.ddf_array.specs.Within.{is_redundant, is_within}
use Rattle.ddf_array.proofs.Apart.{view_apart}
use Rattle.ddf_cells.specs.Alike.{AreAlike}
use Rattle.ddf_cells.specs.Degraded.{is_degraded}
use Rattle.ddf_data_array.specs.Allowed.{Allowed}
use Rattle.ddf_data_array.specs.Changing.{IsWritable, with_mark}
use Rattle.ddf_data_array.specs.Rows.{AreRowsKept, HasNoRows}
use Rattle.ddf_data_array.proofs.RowsKept.{no_rows_kept, writable_rows}
use Rattle.ddf_data_group.specs.Clear.{IsItsCell}
use Rattle.ddf_data_group.specs.Grouped.{MayChange, Promises}
use Rattle.ddf_history.specs.Groups.{Disk, groups, has_current}
use Rattle.ddf_history.specs.Issued.{IsSince, Past, acknowledge}
use Rattle.ddf_steps.specs.Committed.{slots_of}
use Rattle.ddf_seats.specs.Group.{GroupValue}
use Rattle.ddf_recovery.specs.Ready.{readied}
use Rattle.ddf_recovery.specs.Recovery.{config_recovered}
use Rattle.ddf_steps.specs.Steps.{Step, config_after}
use Rattle.ddf_rebuild.proofs.Aiming.{cell_lies}
use Rattle.ddf_history_steps.specs.Going.{Goes, IsOver, begun, changes_in, issue_all}
use Rattle.ddf_history_steps.specs.Kept.{is_read, is_slot}
use Rattle.ddf_history_steps.proofs.Recovering.{acked_still}
use Rattle.ddf_data_history.specs.Promised.{AreAlone, IsAlone, KeepsData, seats_in}
use Rattle.ddf_data_history.proofs.Steps.{by_acknowledge}
use Rattle.ddf_data_history.proofs.Viewed.{are_members}
use Rattle.ddf_group_commands.specs.Writing.{IsLeftWriting}
use Rattle.ddf_group_commands.specs.Written.{AreWritten}
use Rattle.ddf_write_commands.specs.Holding.{holding}
use Rattle.ddf_write_commands.specs.Planned.{Entry}
use Rattle.ddf_data_calls.specs.Calls.{AreMade, MayAsk, left_over}
use Rattle.ddf_data_calls.proofs.Issued.{all_keep}
use Rattle.ddf_data_calls.proofs.Seats as seating
use Rattle.ddf_data_calls.specs.Promised.{counted, with_allowed}
use Rattle.ddf_data_calls.proofs.Accepted.{mark_is, mark_of}
use Rattle.ddf_data_calls.proofs.Amid as amid
use Rattle.ddf_data_calls.proofs.Carried.{Carrying}
use Rattle.ddf_data_calls.proofs.First as start
use Rattle.ddf_data_calls.proofs.First.{IsCalled}
use Rattle.ddf_data_calls.proofs.OneArray as one
use Rattle.ddf_data_calls.proofs.Split as split
use Rattle.ddf_data_calls.proofs.Standing as standing
use Rattle.ddf_data_calls.proofs.Standing.{mark_current}

-- what is promised of an array once its promise became another one was promised in some way before
pub promised_back : (next : Allowed → Allowed) (guid : List ℕ) (promises : Promises) (allowed : Allowed) → with_allowed next guid promises guid ≡ Some allowed → (was : Allowed) × (promises guid ≡ Some was)
promised_back next guid promises allowed is = by (same_guid guid guid) is
  where
    mapped : (o : Option Allowed) → option_map next o ≡ Some allowed → (was : Allowed) × (o ≡ Some was)
    mapped None e = absurd cc
    mapped (Some was) e = (was, refl)

    by : (b : Bool) → ◌≡◌ {A = Option Allowed} (if b then option_map next (promises guid) else promises guid) (Some allowed) → (was : Allowed) × (promises guid ≡ Some was)
    by true e = mapped (promises guid) e
    by false e = (allowed, e)

-- its steps, and the array between them
pub record IsSplit (found : GroupValue) (timestamp : ℕ) (entry : Entry) (asked : List Change) (ask : Option Change) (first last : List Step) (v : Volume) : Type 0 where
  pub are_first : readied found (option_to_list (mark_of entry)) timestamp ≡ Ok first
  pub are_all : readied found (option_to_list (mark_of entry) ++ asked) timestamp ≡ Ok (first ++ last)
  pub is_asked : asked ≡ option_to_list ask
  pub unmarks : (change : Change) → ask ≡ Some change → (init : ℕ) × (change ≡ Unmark entry.0 init)
  pub is_view : view_of (split.between found timestamp (mark_of entry) asked first last are_first are_all) entry.0 found.seats ≡ Ok v
  pub known : IsVolume v
  pub within : is_within v ≡ true
  pub undegraded : is_degraded v ≡ false
  pub writable : IsWritable v
  pub no_rows : HasNoRows v ⊎ (is_redundant v ≡ false)

module _ {D : Type 0} (group : List ℕ) (old : BayState D) (past : Past (groups group)) (floor : ℕ → ℕ) (promises : Promises) (left : List Bool) (newest : List (Option Newest)) (named : Option (List ℕ)) (found : GroupValue)
    (called : IsCalled group old past floor promises left newest named found) (timestamp : ℕ) (entry : Entry) (asked : List Change) (ask : Option Change) (first last : List Step) (v : Volume)
    (is : IsSplit found timestamp entry asked ask first last v) where
  -- no rows count as rebuilt, or it has none that could
  rows_kept : (mark : Bool) (is_absent : ℕ → ℕ → Bool) (image : Image) → AreRowsKept is_absent (with_mark mark v) image
  rows_kept mark is_absent image =
      ⊎_elim (λ none. no_rows_kept is_absent (with_mark mark v) image none) (λ plain. writable_rows is_absent (with_mark mark v) image (inr plain)) is.no_rows

  abbrev pub between : Configuration
  between = split.between found timestamp (mark_of entry) asked first last is.are_first is.are_all

  between_current : (disk : Disk) → has_current between disk ≡ has_current (config_recovered found) disk
  between_current disk = ⊎_elim
      (λ same. ap (λ (c : Configuration). has_current c disk) same)
      (λ (made : (change : Change) × (mark_of entry ≡ Some change) × (between ≡ config_after (config_recovered found) change)).
      ap (λ (c : Configuration). has_current c disk) made.2
      ∙ ap (λ (change : Change). has_current (config_after (config_recovered found) change) disk) (mark_is entry made.0 made.1).1
      ∙ mark_current group (config_recovered found) entry.0 (config_after (config_recovered found) (Mark entry.0)).sequence disk)
      (split.between_config found timestamp (mark_of entry) asked first last is.are_first is.are_all)

  -- ---- the array's sectors

  -- Each is on the slot of a seat, below its floor.
  pub cells_on : (s l : ℕ) → IsItsCell v s l → (is_slot (slots_of found.seats) s ≡ true) × (l < floor s)
  cells_on s l its = start.cells_on group old past floor promises left newest named found called between entry.0 v is.is_view is.known s l its

  -- ---- nothing is written below the floors but blocks

  floored_first : (s l : ℕ) (before : Image) → AreWritten old.sizes old.held first before → l < floor s → before s l ≡ old.held s l
  floored_first = start.floored_first group old past floor promises left newest named found called timestamp (mark_of entry) asked first last is.are_first is.are_all

  last_same : (behind image : Image) (writing : IsLeftWriting (holding old (slots_of found.seats) behind) last image) (s l : ℕ) → l < floor s → image s l ≡ writing.before s l
  last_same = start.last_same group old past floor promises left newest named found called timestamp (mark_of entry) asked first last is.are_first is.are_all

  -- What the disks held is the same of the array once the first steps are written.
  pub before_alike : (before : Image) → AreWritten old.sizes old.held first before → AreAlike v before old.held
  before_alike before written slot lba cell =
      let on = cells_on slot lba (record { element = cell.element; position = cell.position; sector = cell.sector; lies = cell_lies v slot lba cell }) in
      floored_first slot lba before written on.1

  -- ---- the changes of the first steps

  may_mark : (image : Image) → MayAsk (config_recovered found) (seats_in group (left_over group past (is_read left) found) floor (config_recovered found)) image promises (mark_of entry)
  may_mark image = by (is_array_redundant entry.1)
    where
      by : (b : Bool) → MayAsk (config_recovered found) (seats_in group (left_over group past (is_read left) found) floor (config_recovered found)) image promises (if b then Some (Mark entry.0) else None)
      by true = tt
      by false = tt

  made_first : (image : Image) → AreMade (seats_in group (left_over group past (is_read left) found) floor) image promises found.config (changes_in found first)
  made_first = start.made_first group old past floor promises left newest named found called timestamp (mark_of entry) asked first last is.are_first is.are_all may_mark

  -- While they are written the data are kept, however far the changes have come.
  pub opening_keeps : (image : Image) → AreSectors image → IsLeftWriting old first image → (now : Past (groups group)) → Goes group past (is_read left) found (changes_in found first) now
      → KeepsData group now floor image promises
  opening_keeps = start.opening_keeps group old past floor promises left newest named found called timestamp (mark_of entry) asked first last is.are_first is.are_all may_mark

  -- ---- once they are acknowledged

  module _ (carrying : Carrying) (now : Past (groups group)) (over : IsOver group past (is_read left) found (changes_in found first) now) where
    issued_is : slice_get (found.config ∷ changes_in found first) (length (changes_in found first)) ≡ Some between
    issued_is = split.between_issued found timestamp (mark_of entry) asked first last is.are_first is.are_all

    alone : IsAlone group now between
    alone =
        standing.alone group old past floor called.small left newest named found called.long called.read called.is_found called.own called.admitted called.floors (changes_in found first) between issued_is
        between_current now over

    since : IsSince now.changes now.changes.acked between
    since =
        standing.since group old past floor called.small left newest named found called.long called.read called.is_found called.own called.admitted called.floors (changes_in found first) between issued_is
        between_current now over

    in_one : AreAlone group now
    in_one =
        standing.in_one group old past floor called.small left newest named found called.long called.read called.is_found called.own called.admitted called.floors (changes_in found first) between issued_is
        between_current now over

    view : view_of between entry.0 (seats_in group now floor between) ≡ Ok v
    view =
        standing.view group old past floor called.small left newest named found called.long called.read called.is_found called.own called.admitted called.floors (changes_in found first) between issued_is
        between_current now over entry.0 v is.is_view

    before_keeps : (image : Image) → IsLeft old.may_hold image → KeepsData group now floor image promises
    before_keeps image was =
        standing.keeps group old past floor called.small left newest named found called.long called.read called.is_found called.own called.admitted called.floors (changes_in found first) between issued_is
        between_current now over promises called.all image was (made_first image)

    -- ---- images of the work

    -- below the floors it has what the disks held, or gets bytes
    pub record IsWorked (image : Image) : Type 0 where
      pub beside : (s l : ℕ) → is_slot (slots_of found.seats) s ≡ false → l < floor s → old.may_hold s l (image s l)
      pub given : (s l : ℕ) → is_slot (slots_of found.seats) s ≡ true → l < floor s → (image s l ≡ old.held s l) ⊎ carrying.Gives v old.held s l (image s l)

    gives_held : (before : Image) → AreWritten old.sizes old.held first before → (s l : ℕ) (bytes : List ℕ) → carrying.Gives v before s l bytes → carrying.Gives v old.held s l bytes
    gives_held before written s l bytes gives = carrying.same v is.known before old.held (before_alike before written) s l bytes gives

    not_beside : (before : Image) (s l : ℕ) (bytes : List ℕ) → carrying.Gives v before s l bytes → is_slot (slots_of found.seats) s ≡ false → ⊥
    not_beside before s l bytes gives away = true_false (is_slot (slots_of found.seats) s) (cells_on s l (carrying.its v is.known before s l bytes gives)).0 away

    -- under way
    pub while_working : (before image : Image) → AreWritten old.sizes old.held first before
        → ((s l : ℕ) → (holding old (slots_of found.seats) before).may_hold s l (image s l) ⊎ carrying.Gives v before s l (image s l)) → IsWorked image
    while_working before image written among = record {
      beside = λ s l away low. ⊎_elim
          (⊎_elim (λ on. absurd (true_false (is_slot (slots_of found.seats) s) on.0 away)) (λ left. left.1))
          (λ gives. absurd (not_beside before s l (image s l) gives away)) (among s l);
      given = λ s l there low. ⊎_elim
          (⊎_elim (λ on. inl (on.1 ∙ floored_first s l before written low)) (λ left. absurd (true_false (is_slot (slots_of found.seats) s) there left.0)))
          (λ gives. inr (gives_held before written s l (image s l) gives)) (among s l);
    }

    module _ (before behind image : Image) (written : AreWritten old.sizes old.held first before)
        (left_behind : (s l : ℕ) → (behind s l ≡ before s l) ⊎ carrying.Gives v before s l (behind s l))
        (writing : IsLeftWriting (holding old (slots_of found.seats) behind) last image) where
      -- once it is done, as far as the seats' slots show it
      behind_same : (s l : ℕ) → is_slot (slots_of found.seats) s ≡ true → l < floor s → image s l ≡ behind s l
      behind_same s l there low =
          last_same behind image writing s l low
          ∙ ⊎_elim (λ on. on.1) (λ away. absurd (true_false (is_slot (slots_of found.seats) s) there away.0)) (writing.is_left s l)

      pub behind_alike : AreAlike v behind image
      behind_alike slot lba cell =
          let on = cells_on slot lba (record { element = cell.element; position = cell.position; sector = cell.sector; lies = cell_lies v slot lba cell }) in
          sym (behind_same slot lba on.0 on.1)

      pub once_done : IsWorked image
      once_done = record {
        beside = λ s l away low.
            subst (old.may_hold s l) (sym (last_same behind image writing s l low))
            (⊎_elim (λ on. absurd (true_false (is_slot (slots_of found.seats) s) on.0 away)) (λ left. left.1) (writing.is_left s l));
        given = λ s l there low. ⊎_elim
            (λ same. inl (behind_same s l there low ∙ same ∙ floored_first s l before written low))
            (λ gives. inr (subst (carrying.Gives v old.held s l) (sym (behind_same s l there low)) (gives_held before written s l (behind s l) gives)))
            (left_behind s l);
      }

    -- ---- the data between the steps

    module _ (image : Image) (are : AreSectors image) (worked : IsWorked image) where
      pub amid_keeps : KeepsData group now floor image (with_allowed carrying.next entry.0 promises)
      amid_keeps =
          amid.amid_keeps carrying group floor called.small now between alone now.changes.acked since entry.0 v view is.known is.writable promises old called.told called.whole before_keeps
          (is_slot (slots_of found.seats)) cells_on image are worked.beside worked.given

      pub done_keeps : carrying.Holds v image → KeepsData group now floor image (with_allowed carrying.last entry.0 promises)
      done_keeps holds =
          amid.done_keeps carrying group floor called.small now between alone now.changes.acked since entry.0 v view is.known is.writable promises old called.told called.whole before_keeps
          (is_slot (slots_of found.seats)) cells_on image are worked.beside worked.given holds

    -- and once the blocks count with what the disks hold
    pub count_keeps : (image : Image) (some : Promises) → KeepsData group now floor image some → AreSectors image → IsRedundant v image
        → KeepsData group now floor image (counted entry.0 v image some)
    count_keeps image some kept are redundant = one.counts group floor called.small now between alone entry.0 v view is.known image some (λ is_absent. rows_kept v.marked is_absent image) kept are is.undegraded redundant

    -- ---- behind them

    module _ (image : Image) (some : Promises) (kept : KeepsData group now floor image some) (redundant : (allowed : Allowed) → some entry.0 ≡ Some allowed → IsRedundant v image) where
      may_unmark : (change : Change) → ask ≡ Some change → MayChange between (seats_in group now floor between) image some change
      may_unmark change asks =
          let unmark = is.unmarks change asks in
          subst (MayChange between (seats_in group now floor between) image some) (sym unmark.1)
          (one.may_unmark group floor called.small now between alone entry.0 v view is.known image some (λ is_absent. rows_kept false is_absent image) kept now.changes.acked since is.within is.undegraded redundant unmark.0)

      may_ask : MayAsk between (seats_in group now floor between) image some ask
      may_ask = by ask may_unmark
        where
          by : (o : Option Change) → ((change : Change) → o ≡ Some change → MayChange between (seats_in group now floor between) image some change)
              → MayAsk between (seats_in group now floor between) image some o
          by None may = tt
          by (Some change) may = may change refl

      -- the last change is issued,
      pub closing_keeps : KeepsData group (issue_all group now (changes_in found last)) floor image some
      closing_keeps =
          all_keep group floor called.small image some now in_one now.changes.acked between since (changes_in found last)
          (split.last_made found timestamp (mark_of entry) asked first last is.are_first is.are_all ask is.is_asked (seats_in group now floor) image some may_ask) kept

      -- and acknowledged.
      pub ended_keeps : KeepsData group (acknowledge (issue_all group now (changes_in found last)) (now.changes.acked + length (changes_in found last))) floor image some
      ended_keeps =
          by_acknowledge group floor called.small (issue_all group now (changes_in found last)) image some closing_keeps (now.changes.acked + length (changes_in found last))
          (let same = acked_still group now (changes_in found last) in omega (arith, same))

  -- ---- the array's places

  -- The extents of the array's positions lie apart.
  pub places_apart : IsApart v
  places_apart =
      let from = seating.since group old left newest called.long called.read past called.admitted.same_slots called.admitted.is_kept called.admitted.may_read called.admitted.member named found called.is_found called.own in
      let now = acknowledge (issue_all group (begun group past (is_read left) found from.0) (changes_in found first)) (from.0 + length (changes_in found first)) in
      let over : IsOver group past (is_read left) found (changes_in found first) now = record { number = from.0; since = from.1; is_now = refl } in
      let listed = standing.view group old past floor called.small left newest named found called.long called.read called.is_found called.own called.admitted called.floors (changes_in found first) between
      (split.between_issued found timestamp (mark_of entry) asked first last is.are_first is.are_all) between_current now over entry.0 v is.is_view in
      view_apart between entry.0 (seats_in group now floor between) v listed (are_members group floor now between)
