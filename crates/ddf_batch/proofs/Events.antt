-- Lines of a batch are events of histories.
use Rattle.std.proofs.Common.{◌≡◌, ◌∙◌, ◌||◌, ap, inl, ℕ, ◌≤◌, Bool, true, false, nat_lt, List, [], ◌∷◌, Option, Result, Ok, Err, refl, sym, subst, arith}
use Rattle.std.proofs.lemmas.Bool.{false≢true}
use Rattle.ddf_bytes.specs.declared.stamp.Stamp.{Stamp}
use Rattle.ddf_bytes.specs.Streams.{SinkState}
use Rattle.ddf_bay.specs.ReadsOnly.{ReadsOnly}
use Rattle.ddf_bay.specs.Sectors.{Image, IsLeft}
use Rattle.ddf_bay.specs.State.{BayState}
use Rattle.ddf_view.specs.View.{View}
use Rattle.ddf_seats.specs.Group.{GroupValue}
use Rattle.ddf_group.specs.declared.answer.Assembly.{Assembly}
use Rattle.ddf_assembly.specs.Group.{group_of}
use Rattle.ddf_history.specs.Groups.{groups}
use Rattle.ddf_history.specs.History.{IsHistory, Moment}
use Rattle.ddf_history.specs.Issued.{Past}
use Rattle.ddf_history.specs.Promise.{IsKept}
use Rattle.ddf_history.specs.Reading.{Scene}
use Rattle.ddf_history.specs.Scenes.{scene_of}
use Rattle.ddf_history_steps.specs.Going.{Ends, Goes, IsOver, changes_in}
use Rattle.ddf_history_steps.specs.Kept.{AreAllKept, is_read}
use Rattle.ddf_words.specs.Traits.{traits_of}
use Rattle.ddf_words.specs.Words.{Word}
use Rattle.ddf_words.specs.declared.command.Command.{Command}
use Rattle.ddf_words.specs.declared.command.Command.TheVariants.{Assemble, Change, Copyback, Examine, Import, Label, Read, Rebuild, Resync, Scrub, Show, Write}
use Rattle.ddf_answer.specs.Call.{Answer, answer_of, work_of}
use Rattle.ddf_answer.specs.declared.failure.Failure.{Failure}
use Rattle.ddf_group_commands.proofs.Beside.{reads_beside}
use Rattle.ddf_group_commands.specs.Assemble.{IsTold}
use Rattle.ddf_group_commands.specs.Change.{IsToldChange, is_done}
use Rattle.ddf_group_commands.specs.Requests.{linux_found}
use Rattle.ddf_command.specs.History.{GroupCall, IsCall, IsCut, IsEnd, IsOther, Leaves, OtherCall, kept_by, past_at}
use Rattle.ddf_command.specs.Run.{IsCommandDone}
use Rattle.ddf_words.specs.Lines.{is_for_lines}
use Rattle.ddf_answer.proofs.Common.{no_failure}
use Rattle.ddf_batch.specs.Batch.{AreLinesRun, Going, goes_on, point}
use Rattle.ddf_batch.specs.History.{AreCallsOf, Behind, IsLineOf, LineJoined, LineTook, is_join}
use Rattle.ddf_batch.specs.Line.{Point, no_input}

-- ---- status 0 is that of a call that was done

-- At status 0 a change was done,
pub changed_done : (outcome : Result ℕ Failure) (answer : Answer) → IsToldChange outcome answer → answer.status ≡ 0 → is_done outcome ≡ true
changed_done (Ok sequence) answer told zero = refl
changed_done (Err failure) answer told zero = absurd (no_failure failure answer told zero)

-- and so was a recovery.
pub told_done : (found : Result GroupValue Assembly) (outcome : Result ℕ Failure) (answer : Answer) → IsTold found outcome answer → answer.status ≡ 0 → is_done outcome ≡ true
told_done (Ok group) (Ok sequence) answer told zero = refl
told_done (Err fault) (Ok sequence) answer told zero = refl
told_done (Ok group) (Err failure) answer told zero = absurd (no_failure failure answer told zero)
told_done (Err fault) (Err failure) answer told zero = absurd (no_failure failure answer told zero)

-- ---- what it took

module _ {B : Type 0} (tells : Type 0) (disks : B → BayState B) (told : Type 0) (stamp : Stamp) (group : Option (List ℕ)) (from to : Point B) (code : ℕ) where
  pub line_took : (command : Command) → is_for_lines command ≡ true → (traits_of command).may_write ≡ true → is_join command ≡ false
      → IsCommandDone (work_of tells (disks from.bay) (disks to.bay)) no_input stamp group command (answer_of told from.output to.output code)
      → LineTook tells disks stamp group command from to code
  line_took Examine line writes joins done = absurd (false≢true line)
  line_took (Label style large slots) line writes joins done = absurd (false≢true line)
  line_took (Read name start count) line writes joins done = absurd (false≢true line)
  line_took (Write name start count) line writes joins done = absurd (false≢true line)
  line_took (Import other) line writes joins done = absurd (false≢true (sym joins))
  line_took Show line writes joins done = absurd (false≢true writes)
  line_took (Scrub name) line writes joins done = absurd (false≢true writes)
  line_took Assemble line writes joins done =
      record { done = is_done done.outcome; linux = linux_found (group_of done.has.taken.newest group); taken = done.has.taken; are_its = refl; is_done = told_done _ done.outcome (answer_of told from.output to.output code) done.ends }
  line_took (Resync name) line writes joins done =
      record { done = is_done done.outcome; linux = linux_found (group_of done.has.taken.newest group); taken = done.has.taken; are_its = refl; is_done = changed_done done.outcome (answer_of told from.output to.output code) done.ends }
  line_took (Rebuild name) line writes joins done =
      record { done = is_done done.outcome; linux = done.has.linux; taken = done.has.taken; are_its = done.has.are_its; is_done = changed_done done.outcome (answer_of told from.output to.output code) done.ends }
  line_took (Copyback name slot) line writes joins done =
      record { done = is_done done.outcome; linux = done.has.linux; taken = done.has.taken; are_its = done.has.are_its; is_done = changed_done done.outcome (answer_of told from.output to.output code) done.ends }
  line_took (Change wish) line writes joins done =
      record {
        done = is_done done.outcome;
        linux = done.wished.linux;
        taken = done.wished.has.taken;
        are_its = done.wished.are_its;
        is_done = changed_done done.outcome (answer_of told from.output to.output code) done.ends;
      }

  -- The line of an import came to what a call of the program does.
  pub line_joined : (other : List ℕ) → IsCommandDone (work_of tells (disks from.bay) (disks to.bay)) no_input stamp group (Import other) (answer_of told from.output to.output code)
      → LineJoined tells disks stamp group other from to code
  line_joined other done = record { outcome = done.outcome; has = done.has; was_done = changed_done done.outcome (answer_of told from.output to.output code) done.ends }

-- ---- its call in a history

module _ {B : Type 0} {tells : Type 0} (told : tells) (disks : B → BayState B) (stamp : Stamp) (group : Option (List ℕ)) (command : Command) (guid : List ℕ) (old : Moment (groups guid) B)
    (output : SinkState) (to : Point B) (code : ℕ) (took : LineTook tells disks stamp group command (point old.bay output) to code)
    (is : IsLineOf tells disks stamp group command guid old output to code took) (kept : AreAllKept guid old.past (disks old.bay)) where
  abbrev call : GroupCall told disks guid old
  call = record {
    exit = to.bay;
    named = group;
    timestamp = _;
    request = _;
    done = took.done;
    taken = took.taken;
    group = is.found;
    is_group = is.is_group;
    same_group = is.same_group;
    steps = is.steps;
    are_asked = is.are_asked;
    admitted = is.admitted;
  }

  pub ends : (disks to.bay).tells_left → (new : Moment (groups guid) B) × (end : IsEnd told disks guid old new) × (new.bay ≡ to.bay) × (code ≡ 0 → end.call.done ≡ true)
  ends tells_left = (
    record { past = ((kept_by told disks guid old call kept).ends tells_left).0; bay = to.bay },
    record { call = call; kept = kept; tells_left = tells_left; is_left = λ scene leaves. leaves; is_past = refl },
    refl,
    took.is_done,
  )

  pub cuts : (cut : B) (image : Image) → (disks to.bay).left_since (disks old.bay).moment image
      → ((scene : Scene View) → Leaves told disks guid cut scene → scene ≡ scene_of (disks old.bay).sizes image)
      → (new : Moment (groups guid) B) × (new.bay ≡ cut) × IsCut told disks guid old new
  cuts cut image was_left is_left =
      let since : (disks old.bay).moment ≤ (disks old.bay).moment = omega arith in (
        record {
          past = past_at told disks guid {P = Goes guid old.past (is_read call.taken.left) call.group (changes_in call.group call.steps)} {Q = λ now. IsKept now (scene_of (disks old.bay).sizes image)}
              old.past ((kept_by told disks guid old call kept).any_moment.since (disks old.bay).moment image since was_left);
          bay = cut;
        },
        refl,
        record { call = call; kept = kept; image = image; since = since; was_left = was_left; is_left = is_left; is_past = refl },
      )

-- ---- it wrote nothing

module _ {B : Type 0} {tells : Type 0} (told : tells) (disks : B → BayState B) (counts_now : (bay : B) (t : ℕ) (image : Image) → t ≤ (disks bay).moment → IsLeft (disks bay).may_hold image → (disks bay).left_since t image)
    (guid : List ℕ) (old : Moment (groups guid) B) (to : Point B) (reads : ReadsOnly (disks old.bay) (disks to.bay)) (held : IsLeft (disks old.bay).may_hold (disks old.bay).held) where
  abbrev other : OtherCall told disks guid old
  other = record {
    exit = to.bay;
    written = [];
    leaves_others = reads_beside (disks old.bay) (disks to.bay) [] reads;
    is_held = held;
    are_aside = λ image left slot is. absurd (false≢true is);
  }

  pub reads_other : (new : Moment (groups guid) B) × (new.bay ≡ to.bay) × IsOther told disks guid old new
  reads_other = (
    record { past = old.past; bay = to.bay },
    refl,
    record {
      call = other;
      same_past = refl;
      was_left = λ scene leaves. (
        leaves.image,
        counts_now to.bay (disks old.bay).moment leaves.image reads.any_moment.later leaves.is_left,
        leaves.is_shown ∙ ap (λ (sizes : List ℕ). scene_of sizes leaves.image) reads.same_sizes,
      );
    },
  )

-- ---- what it acknowledged

pub is_over : {B : Type 0} {tells : Type 0} (told : tells) (disks : B → BayState B) (guid : List ℕ) (old new : Moment (groups guid) B) (end : IsEnd told disks guid old new) → end.call.done ≡ true
    → IsOver guid old.past (is_read end.call.taken.left) end.call.group (changes_in end.call.group end.call.steps) new.past
is_over told disks guid old new end done =
    let own = (kept_by told disks guid old end.call end.kept).ends end.tells_left in
    let over : Ends guid old.past (is_read end.call.taken.left) end.call.group (changes_in end.call.group end.call.steps) true own.0 =
    subst (λ (whole : Bool). Ends guid old.past (is_read end.call.taken.left) end.call.group (changes_in end.call.group end.call.steps) whole own.0) done own.1 in
    subst (λ (past : Past (groups guid)). IsOver guid old.past (is_read end.call.taken.left) end.call.group (changes_in end.call.group end.call.steps) past) (sym end.is_past) over

-- ---- the moments behind lines

module _ {B : Type 0} {tells : Type 0} (told : tells) (disks : B → BayState B) (sink : Type 0) (stamp : Stamp) (group : Option (List ℕ)) (images : List Word) (guid : List ℕ) where
  abbrev History : (old : Moment (groups guid) B) → List (Moment (groups guid) B) → Type 0
  History old moments = IsHistory (Leaves told disks guid) (IsCall told disks guid) old moments

  no_more : (old : Moment (groups guid) B) (moments : List (Moment (groups guid) B)) → moments ≡ [] → History old moments
  no_more old moments none = subst (λ (some : List (Moment (groups guid) B)). History old some) (sym none) tt

  by_going : (going_on : Bool) (follows ends : Type 0) (going : Going going_on follows ends) (of_others : follows → Type 0) (at_end goal : Type 0)
      → ((others : follows) → of_others others → goal) → (at_end → goal) → Behind going_on follows ends going of_others at_end → goal
  by_going true follows ends going of_others at_end goal others last is = others going is
  by_going false follows ends going of_others at_end goal others last is = last is

  pub lines_history : (lines : List (List ℕ)) (from to : Point B) (refused : Bool) (status : ℕ) (ran : AreLinesRun tells disks sink stamp group images lines from to refused status)
      (old : Moment (groups guid) B) (moments : List (Moment (groups guid) B)) → AreCallsOf told disks sink stamp group images guid lines from to refused status ran old moments → History old moments
  lines_history [] from to refused status ran old moments none = no_more old moments none
  lines_history (line ∷ lines) from to refused status ran old [] is = absurd is
  lines_history (line ∷ lines) from to refused status ran old (new ∷ moments) is = (
    inl is.0,
    by_going (goes_on ran.1) (AreLinesRun tells disks sink stamp group images lines ran.0 to (refused || nat_lt 0 ran.1) status) ((to ≡ ran.0) × (status ≡ ran.1)) ran.3
        (λ others. AreCallsOf told disks sink stamp group images guid lines ran.0 to (refused || nat_lt 0 ran.1) status others new moments) (moments ≡ []) (History new moments)
        (λ others calls. lines_history lines ran.0 to (refused || nat_lt 0 ran.1) status others new moments calls)
        (no_more new moments)
        is.2,
  )
