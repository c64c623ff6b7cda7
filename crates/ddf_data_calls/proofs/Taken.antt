-- A write keeps its history and the data of its group.
use Rattle.std.proofs.Common.{◌≡◌, ◌∙◌, inl, inr, ⊎_elim, ℕ, ◌<◌, ◌^◌, Bool, true, false, List, [], ◌∷◌, ◌++◌, Option, Some, None, Result, Ok, refl, sym, ap, subst, length, if◌then◌else◌}
use Rattle.std.specs.Prelude.{option_to_list}
use Rattle.ddf_bay.specs.ReadsOnly.{ReadsOnly}
use Rattle.ddf_bay.specs.Sectors.{Image, IsLeft}
use Rattle.ddf_bay.specs.State.{BayState}
use Rattle.ddf_config.specs.declared.refusal.Refusal.TheVariants.{Degraded, Lost, Marked}
use Rattle.ddf_config.specs.Configuration.{Configuration}
use Rattle.ddf_config.specs.States.{is_marked}
use Rattle.ddf_plan.specs.declared.change.Change.{Change}
use Rattle.ddf_plan.specs.declared.change.Change.TheVariants.{Unmark}
use Rattle.ddf_array.specs.Sound.{AreSectors}
use Rattle.ddf_array.specs.Viewing.{is_array_redundant, is_array_within, view_of}
use Rattle.ddf_cells.proofs.Alike.{redundant_same}
use Rattle.ddf_read.specs.Reading.{Failed}
use Rattle.ddf_data_group.specs.Grouped.{Promises}
use Rattle.ddf_history.specs.Groups.{groups}
use Rattle.ddf_history.specs.Issued.{Past}
use Rattle.ddf_history.specs.Promise.{IsKept}
use Rattle.ddf_history.specs.Scenes.{scene_of}
use Rattle.ddf_group.specs.declared.answer.Assembly.{Assembly}
use Rattle.ddf_seats.specs.Group.{GroupValue}
use Rattle.ddf_assembly.specs.Group.{group_of}
use Rattle.ddf_recovery.specs.Recovery.{config_recovered}
use Rattle.ddf_history_steps.specs.Going.{Ends, Goes, changes_in}
use Rattle.ddf_history_steps.specs.Kept.{AreAllKept, is_read}
use Rattle.ddf_data_history.specs.Carried.{IsAllData, Stays}
use Rattle.ddf_data_history.specs.Promised.{KeepsData}
use Rattle.ddf_answer.specs.Call.{Input, Work, work_of}
use Rattle.ddf_group_commands.specs.Change.{is_done}
use Rattle.ddf_read_commands.specs.declared.using.Access.TheVariants.{Writes}
use Rattle.ddf_read_commands.specs.Use.{array_refusals}
use Rattle.ddf_write_commands.specs.Planned.{Entry, IsPlanned, lacks_position}
use Rattle.ddf_write_commands.specs.Write.{GoesAlongWriting, HasWrittenArray, Outcome, is_written, write_behind, write_refusals, write_request, writing}
use Rattle.ddf_write_commands.specs.Write.Outcome.{Broken, NotRead, Short, Taken, Unfit}
use Rattle.ddf_data_calls.specs.Calls.{AdmitsCall, KeepsBoth}
use Rattle.ddf_write_commands.specs.Along.{ComesAlong, EndsAlong, GoesAlong, Stage}
use Rattle.ddf_write_commands.specs.Along.Stage.{Closing, Done, Opening, Working}
use Rattle.ddf_data_calls.specs.Promised.{HasGiven, IsWrittenOf, MayBeWritten, interrupted, written}
use Rattle.ddf_data_calls.proofs.Accepted.{HasView, accepted_plan, has_view, mark_of, three_pass}
use Rattle.ddf_data_calls.proofs.Both as both
use Rattle.ddf_data_calls.proofs.Both.{IsSplit}
use Rattle.ddf_data_calls.proofs.First.{IsCalled, called_by}
use Rattle.ddf_data_calls.proofs.ByWrite.{by_write}
use Rattle.ddf_data_calls.proofs.Prepared as prepared
use Rattle.ddf_data_calls.proofs.Staged as staged
use Rattle.ddf_data_calls.proofs.Staged.{IsCarried}
use Rattle.ddf_data_calls.proofs.WriteSound.{behind_redundant}
use Rattle.ddf_read_commands.proofs.ArrayUse.{named_is}
use Rattle.ddf_bay.specs.Moments.{StopsLeave}
use Rattle.ddf_recovery.specs.Ready.{readied}
use Rattle.ddf_data_calls.specs.Floors.{AllHaveFloors, HaveFloorsIn}
use Rattle.ddf_data_calls.proofs.Floored.{floors_along}

-- ---- calls that only read

pub only_reads : (group : List ℕ) {D : Type 0} (old new : BayState D) (past : Past (groups group)) (floor : ℕ → ℕ) (promises : Promises) → ReadsOnly old new → AreAllKept group past old
    → IsAllData group past floor old promises → KeepsBoth group old new floor (λ now. now ≡ past) (λ now. now ≡ past) (Stays promises) (Stays promises)
only_reads group old new past floor promises reads kept all = record {
  any_moment = record {
    later = reads.any_moment.later;
    since = λ t image le was_left. ⊎_elim inl
        (λ left. inr (λ are. record { now = past; promised = promises; goes = refl; may = refl; is_kept = kept image left; keeps = all image left })) (reads.any_moment.since t image le was_left);
  };
  ends = λ tells. record {
    now = past;
    promised = promises;
    ends = refl;
    is_so = refl;
    all_kept = λ image left. subst (λ (sizes : List ℕ). IsKept past (scene_of sizes image)) (sym reads.same_sizes) (kept image (λ s l. reads.keeps s l (image s l) (left s l)));
    all_data = λ image left. all image (λ s l. reads.keeps s l (image s l) (left s l));
  };
}

-- a call that only read issued none of its changes, where it says that they aren't done
pub none_came : (group : List ℕ) {D : Type 0} (old new : BayState D) (past : Past (groups group)) (floor : ℕ → ℕ) (promises : Promises) (left : List Bool) (found : GroupValue) (changes : List Configuration) (done : Bool)
    → done ≡ false → ReadsOnly old new → AreAllKept group past old → IsAllData group past floor old promises
    → KeepsBoth group old new floor (Goes group past (is_read left) found changes) (Ends group past (is_read left) found changes done) (Stays promises) (Stays promises)
none_came group old new past floor promises left found changes done none reads all_kept all_data =
    let kept = only_reads group old new past floor promises reads all_kept all_data in
    record {
      any_moment = record {
        later = kept.any_moment.later;
        since = λ t image le was_left. ⊎_elim inl
            (λ way. inr (λ are. let both = way are in record { now = both.now; promised = both.promised; goes = inl both.goes; may = both.may; is_kept = both.is_kept; keeps = both.keeps }))
            (kept.any_moment.since t image le was_left);
      };
      ends = λ tells_left.
          let end = kept.ends tells_left in
          record {
            now = end.now;
            promised = end.promised;
            ends = subst (λ (is : Bool). Ends group past (is_read left) found changes is end.now) (sym none) (inl end.ends);
            is_so = end.is_so;
            all_kept = end.all_kept;
            all_data = end.all_data;
          };
    }

-- a write that took no bytes only read
pub untaken : {D : Type 0} (tells : Type 0) (old new : BayState D) (input : Input) (named : Option (List ℕ)) (timestamp : ℕ) (word : List ℕ) (start count : ℕ) (outcome : Outcome)
    → HasWrittenArray (work_of tells old new) input named timestamp word start count outcome → ((sectors : List (List ℕ)) → HasGiven outcome sectors → ⊥) → ReadsOnly old new
untaken tells old new input named timestamp word start count (Taken sectors worked) called none = absurd (none sectors refl)
untaken tells old new input named timestamp word start count (Broken sectors) called none = absurd (none sectors refl)
untaken tells old new input named timestamp word start count (Short found) called none = called.gives.2
untaken tells old new input named timestamp word start count NotRead called none = called.gives.2
untaken tells old new input named timestamp word start count (Unfit failure) called none = called.gives.1

-- How far the histories come along a write is told by the sectors that it was given.
pub given_along : {D : Type 0} (work : Work D) (input : Input) (timestamp : ℕ) (word : List ℕ) (start count : ℕ) (left : List Bool) (meaning : Result GroupValue Assembly) (sectors : List (List ℕ)) (outcome : Outcome) → HasGiven outcome sectors
    → GoesAlongWriting work input timestamp word start count left meaning outcome
    → GoesAlong (writing start sectors) work left timestamp word (write_request word start count) (is_written outcome) meaning
given_along work input timestamp word start count left meaning sectors (Taken some worked) given along =
    subst (λ (those : List (List ℕ)). GoesAlong (writing start those) work left timestamp word (write_request word start count) (is_done worked) meaning) given along
given_along work input timestamp word start count left meaning sectors (Broken some) given along =
    subst (λ (those : List (List ℕ)). GoesAlong (writing start those) work left timestamp word (write_request word start count) false meaning) given along
given_along work input timestamp word start count left meaning sectors (Short found) given along = absurd given
given_along work input timestamp word start count left meaning sectors NotRead given along = absurd given
given_along work input timestamp word start count left meaning sectors (Unfit failure) given along = absurd given

-- ---- the change behind the blocks

abbrev ask_of : Entry → Option Change
ask_of entry = if is_array_redundant entry.1 then Some (Unmark entry.0 entry.1.init) else None

ask_is : (entry : Entry) → write_behind entry ≡ option_to_list (ask_of entry)
ask_is entry = by (is_array_redundant entry.1)
  where
    by : (b : Bool) → ◌≡◌ {A = List Change} (if b then Unmark entry.0 entry.1.init ∷ [] else []) (option_to_list (if b then Some (Unmark entry.0 entry.1.init) else None))
    by true = refl
    by false = refl

ask_unmarks : (entry : Entry) (change : Change) → ask_of entry ≡ Some change → (init : ℕ) × (change ≡ Unmark entry.0 init)
ask_unmarks entry change = by (is_array_redundant entry.1)
  where
    by : (b : Bool) → ◌≡◌ {A = Option Change} (if b then Some (Unmark entry.0 entry.1.init) else None) (Some change) → (init : ℕ) × (change ≡ Unmark entry.0 init)
    by true e = (entry.1.init, let same : Unmark entry.0 entry.1.init ≡ change = cc in sym same)
    by false e = absurd cc

-- ---- the call

module _ {D : Type 0} (tells : Type 0) (told : tells) (old new : BayState D) (group : List ℕ) (past : Past (groups group)) (floor : ℕ → ℕ) (small : (slot : ℕ) → floor slot < 2 ^ 64) (promises : Promises)
    (input : Input) (named : Option (List ℕ)) (timestamp : ℕ) (word : List ℕ) (start count : ℕ) (sectors : List (List ℕ)) (outcome : Outcome)
    (wrote : HasWrittenArray (work_of tells old new) input named timestamp word start count outcome)
    (found : GroupValue) (is_found : group_of wrote.taken.newest named ≡ Ok found) (own : found.config.group ≡ group)
    (admits : AdmitsCall group past floor promises old wrote.taken.left found) (left_held : IsLeft old.may_hold old.held) (whole_held : AreSectors old.held)
    (plan : IsPlanned found timestamp word (write_request word start count)) (whole : (image : Image) → IsLeft new.may_hold image → AreSectors image) where
  called : IsCalled group old past floor promises wrote.taken.left wrote.taken.newest named found
  called = called_by tells told old new group past floor small promises named timestamp _ _ wrote.taken found is_found own admits left_held whole_held

  record IsFit : Type 0 where
    pub has : HasView (config_recovered found) found.seats plan.entry
    pub unmarked : is_marked plan.entry.1 ≡ false

  fit : IsFit
  fit =
      let passed = three_pass (array_refusals Writes (config_recovered found) found.seats plan.entry.0 plan.entry.1 start count) (is_array_within found.seats plan.entry.1) (is_marked plan.entry.1)
      (lacks_position (view_of (config_recovered found) plan.entry.0 found.seats)) Lost Marked Degraded (accepted_plan found timestamp word (write_refusals start count) write_behind plan).accepted in
      record {
        has = has_view Writes (config_recovered found) found.seats start count word plan.entry passed.0 (named_is (config_recovered found).arrays word plan.entry plan.is_named) passed.1 passed.3;
        unmarked = passed.2;
      }

  is_split : IsSplit found timestamp plan.entry (write_behind plan.entry) (ask_of plan.entry) plan.first plan.last plan.volume
  is_split =
      prepared.is_split group old past floor promises wrote.taken.left wrote.taken.newest named found called timestamp word (write_refusals start count) write_behind plan (fit).has (ask_of plan.entry)
      (ask_is plan.entry) (ask_unmarks plan.entry)

  carried : IsCarried old new promises plan.entry.0 (writing start sectors) (by_write start sectors) plan.volume
  carried = record {
    among = λ before may image among. among;
    left = λ before image left. left;
    redundant = λ before behind alike done left are allowed promised.
        behind_redundant (Failed old new) plan.volume is_split.known
        (both.places_apart group old past floor promises wrote.taken.left wrote.taken.newest named found called timestamp plan.entry (write_behind plan.entry) (ask_of plan.entry) plan.first plan.last plan.volume is_split)
        is_split.undegraded start sectors before behind (λ slot lba cell. ap length (alike slot lba cell) ∙ whole_held slot lba) are
        (redundant_same plan.volume is_split.known old.held before (λ slot lba cell. sym (alike slot lba cell))
        (prepared.was_redundant group old past floor promises wrote.taken.left wrote.taken.newest named found called plan.entry (named_is (config_recovered found).arrays word plan.entry plan.is_named) (fit).has
        plan.volume is_split.known is_split.within (fit).unmarked
        (prepared.view_is group old past floor promises wrote.taken.left wrote.taken.newest named found called timestamp word (write_refusals start count) write_behind plan (fit).has (ask_of plan.entry)
        (ask_is plan.entry) (ask_unmarks plan.entry)) allowed promised))
        left done;
    holds = λ before behind done. record { cells = done.cells; parity = λ none. absurd none };
  }

  -- The disks of members keep their floors.
  pub floors_kept : AllHaveFloors group past old floor → ComesAlong group (writing start sectors) (work_of tells old new) past wrote.taken.left found plan (is_written outcome)
      → StopsLeave old new (λ image. HaveFloorsIn group past old.sizes image floor)
  floors_kept floored along =
      floors_along tells old new group past floor promises wrote.taken.left wrote.taken.newest named found called floored timestamp word (write_request word start count) plan (write_behind plan.entry)
      (ask_of plan.entry) is_split (writing start sectors) (by_write start sectors) carried (is_written outcome) along

  pub are_readied : readied found (option_to_list (mark_of plan.entry) ++ write_behind plan.entry) timestamp ≡ Ok (plan.first ++ plan.last)
  are_readied = (is_split).are_all

  -- on the way
  amid : (image : Image) → AreSectors image → (stage : Stage) (now : Past (groups group)) → staged.Come tells old new group past floor promises wrote.taken.left wrote.taken.newest named found called timestamp word
      (write_request word start count) plan (write_behind plan.entry) (ask_of plan.entry) is_split (writing start sectors) (by_write start sectors) carried stage now
      → staged.LeftAt tells old new group past floor promises wrote.taken.left wrote.taken.newest named found called timestamp word
      (write_request word start count) plan (write_behind plan.entry) (ask_of plan.entry) is_split (writing start sectors) (by_write start sectors) carried stage image
      → KeepsData group now floor image (interrupted plan.entry.0 start sectors promises)
  amid image are stage now come left_at =
      staged.stage_keeps tells old new group past floor promises wrote.taken.left wrote.taken.newest named found called timestamp word (write_request word start count) plan (write_behind plan.entry)
      (ask_of plan.entry) is_split (writing start sectors) (by_write start sectors) carried image are stage now come left_at

  -- at the end
  at_end : (done : Bool) (end : EndsAlong group (writing start sectors) (work_of tells old new) past wrote.taken.left found plan done)
      → (promised : Promises) × IsWrittenOf done plan.entry.0 start sectors promises promised × ((image : Image) → IsLeft new.may_hold image → AreSectors image → KeepsData group end.now floor image promised)
  at_end true end = (
    written plan.entry.0 start sectors promises,
    refl,
    λ image left are.
        staged.done_keeps tells old new group past floor promises wrote.taken.left wrote.taken.newest named found called timestamp word (write_request word start count) plan (write_behind plan.entry)
        (ask_of plan.entry) is_split (writing start sectors) (by_write start sectors) carried image are end.stage (end.is_over refl) end.now end.has_come (end.is_left image left),
  )
  at_end false end = (
    interrupted plan.entry.0 start sectors promises,
    refl,
    λ image left are. amid image are end.stage end.now end.has_come (end.is_left image left),
  )

  pub both_kept : ComesAlong group (writing start sectors) (work_of tells old new) past wrote.taken.left found plan (is_written outcome)
      → KeepsBoth group old new floor (Goes group past (is_read wrote.taken.left) found (changes_in found (plan.first ++ plan.last)))
      (Ends group past (is_read wrote.taken.left) found (changes_in found (plan.first ++ plan.last)) (is_written outcome)) (MayBeWritten plan.entry.0 start sectors promises)
      (IsWrittenOf (is_written outcome) plan.entry.0 start sectors promises)
  both_kept along =
      staged.keeps_both tells old new group past floor promises wrote.taken.left wrote.taken.newest named found called timestamp word (write_request word start count) plan (write_behind plan.entry)
      (ask_of plan.entry) is_split (writing start sectors) (by_write start sectors) carried (MayBeWritten plan.entry.0 start sectors promises) (IsWrittenOf (is_written outcome) plan.entry.0 start sectors promises)
      (is_written outcome) along whole on_the_way (λ tells_left end. at_end (is_written outcome) end)
    where
      on_the_way : (image : Image) → AreSectors image → (stage : Stage) (now : Past (groups group)) → staged.Come tells old new group past floor promises wrote.taken.left wrote.taken.newest named found called
          timestamp word (write_request word start count) plan (write_behind plan.entry) (ask_of plan.entry) is_split (writing start sectors) (by_write start sectors) carried stage now
          → staged.LeftAt tells old new group past floor promises wrote.taken.left wrote.taken.newest named found called timestamp word
          (write_request word start count) plan (write_behind plan.entry) (ask_of plan.entry) is_split (writing start sectors) (by_write start sectors) carried stage image
          → (promised : Promises) × MayBeWritten plan.entry.0 start sectors promises promised × KeepsData group now floor image promised
      on_the_way image are Opening now come left_at = (
        promises,
        inl refl,
        both.opening_keeps group old past floor promises wrote.taken.left wrote.taken.newest named found called timestamp plan.entry (write_behind plan.entry) (ask_of plan.entry) plan.first plan.last
            plan.volume is_split image are left_at now come,
      )
      on_the_way image are Working now come left_at = (interrupted plan.entry.0 start sectors promises, inr refl, amid image are Working now come left_at)
      on_the_way image are Closing now come left_at = (interrupted plan.entry.0 start sectors promises, inr refl, amid image are Closing now come left_at)
      on_the_way image are Done now come left_at = (interrupted plan.entry.0 start sectors promises, inr refl, amid image are Done now come left_at)
