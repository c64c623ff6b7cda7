-- A life of a group on disks in memory, step by step.
use Rattle.std.proofs.Common.{◌≡◌, ◌∙◌, ℕ, ◌<◌, ◌==◌, ◌&&◌, ◌||◌, not, Bool, true, false, List, [], length, Result, Ok, Err, sym, ap, subst, arith}
use Rattle.std.proofs.lemmas.Bool.{eqb-true}
use Rattle.std.specs.Prelude.{slice_index_or}
use Rattle.ddf_lemmas.proofs.Lists.{set_true_other}
use Rattle.ddf_bytes.specs.declared.stamp.Stamp.{Stamp}
use Rattle.ddf_header.specs.declared.kind.Revision.{Revision}
use Rattle.ddf_bay.specs.Memory.{MemoryState, disks_of}
use Rattle.ddf_bay.specs.declared.memory.MemoryBay.{MemoryBay}
use Rattle.ddf_config.specs.Configuration.{Configuration}
use Rattle.ddf_update.specs.NewCopies.{group_of as name_of}
use Rattle.ddf_history.specs.Groups.{Disk, groups, has_current, has_missing}
use Rattle.ddf_history.specs.Issued.{IsSince, Past, give_back, lose}
use Rattle.ddf_seats.specs.Group.{GroupValue}
use Rattle.ddf_history_steps.specs.Going.{Ends, IsOver, KeepsSlots, changes_in}
use Rattle.ddf_history_steps.specs.Kept.{is_read}
use Rattle.ddf_history_steps.proofs.LastIssued.{over_last, over_length}
use Rattle.ddf_history_steps.proofs.SlotsKept.{ends_slots}
use Rattle.ddf_answer.specs.declared.failure.Failure.{Failure}
use Rattle.ddf_answer.specs.declared.failure.Failure.TheVariants.{Memory}
use Rattle.ddf_disk_commands.specs.Label.{label_copy}
use Rattle.ddf_group_commands.specs.Change.{is_done}
use Rattle.ddf_history_memory.specs.Histories.{HasMemberOn, IsHistoryOn, IsTaken, LeavesCut, LeavesHistory, StaysMember}
use Rattle.ddf_history_memory.proofs.Members as members
use Rattle.ddf_history_memory.proofs.Slots.{becomes, before_told, reads_left}
use Rattle.ddf_history_memory.proofs.Stops.{come_back, lost as lost_on}
use Rattle.ddf_history_life.specs.Commands.{IsBegun, IsCommand}
use Rattle.ddf_history_life.specs.Life.{IsLife, Outlives}
use Rattle.ddf_history_life.proofs.Commands.{acked_then, asked_changes, asked_cut, asked_ends, command_tells, taken}
use Rattle.ddf_history_life.proofs.Labels.{label_begins}

-- Calls leave what is unplugged.
gone_before : (old exit : MemoryBay) {group : List ℕ} (command : IsCommand group old exit) (slot : ℕ) → (disks_of exit).gone slot → (disks_of old).gone slot
gone_before old exit command slot gone = ap (λ (unplugged : List Bool). slice_index_or unplugged slot false) (sym (becomes old exit command.well).same_unplugged) ∙ gone

-- A disk that is a current member of each configuration since the last acknowledged one can be read.
member_on : (group : List ℕ) (past : Past (groups group)) (bay : MemoryBay) → IsHistoryOn group past bay → (disks_of bay).tells_left → (slot : ℕ) → slot < length (disks_of bay).sizes
    → ((disks_of bay).gone slot → ⊥) → ((number : ℕ) (config : Configuration) → IsSince past.changes number config → has_current config (past.disk slot) ≡ true) → HasMemberOn group past bay
member_on group past bay history told slot there plugged current =
    let shown = history.kept (disks_of bay).held (reads_left bay told) in
    record {
      slot = slot;
      there = there;
      plugged = plugged;
      config = shown.last;
      is_last = shown.is_last;
      is_current = current past.changes.acked shown.last (record { late = omega arith; is_there = shown.is_last });
    }

not_spent : {outcome : Result ℕ Failure} {sequence : ℕ} → outcome ≡ Ok sequence → outcome ≡ Err Memory → ⊥
not_spent done spent = let both = sym done ∙ spent in cc

-- A command that was done is over.
is_over : (group : List ℕ) (past : Past (groups group)) (readable : ℕ → Bool) (found : GroupValue) (changes : List Configuration) (outcome : Result ℕ Failure) (sequence : ℕ) → outcome ≡ Ok sequence
    → (now : Past (groups group)) → Ends group past readable found changes (is_done outcome) now → IsOver group past readable found changes now
is_over group past readable found changes outcome sequence done now ends = subst (λ (one : Result ℕ Failure). Ends group past readable found changes (is_done one) now) done ends

module _ (large : Bool) (revision : Revision) (stamp : Stamp) (kept lost : ℕ) (life : IsLife large revision stamp kept lost) where
  abbrev group : List ℕ
  group = name_of stamp

  abbrev sizes : List ℕ
  sizes = (disks_of life.blank).sizes

  -- ---- the label

  begun : IsBegun group (length sizes) (label_copy large revision stamp sizes []) life.labelled
  begun = label_begins large revision stamp life.blank life.labelled life.label life.same_sizes life.tells_blank

  abbrev founded : Past (groups group)
  founded = begun.past

  there_labelled : kept < length (disks_of life.labelled).sizes
  there_labelled = subst (λ (all : List ℕ). kept < length all) (sym life.same_sizes) life.kept_there

  -- ---- the first command

  first_told : (disks_of life.first_exit).tells_left
  first_told = life.was_left.0

  first_member : HasMemberOn group founded life.labelled
  first_member =
      member_on group founded life.labelled begun.history (before_told life.labelled life.first_exit life.first.well first_told) kept there_labelled life.kept_labelled
      (begun.members kept life.kept_there)

  first_stays : StaysMember group founded kept life.first_asked.steps
  first_stays = record {
    pending = begun.members kept life.kept_there;
    each = λ place step at. ap (has_current step.config) (begun.names kept life.kept_there) ∙ life.first_keeps place step at;
  }

  abbrev first_left : List Bool
  first_left = life.first.has.taken.left

  abbrev first_changes : List Configuration
  first_changes = changes_in life.first_asked.found life.first_asked.steps

  cut_leaves : LeavesCut group founded life.cut first_left life.first_asked.found first_changes
  cut_leaves = asked_cut group life.labelled life.first_exit life.first founded begun.history first_member life.cut life.image life.was_left life.is_cut life.first_asked

  abbrev after_first : Past (groups group)
  after_first = cut_leaves.now

  first_slots : KeepsSlots group founded after_first (is_read first_left) life.first_asked.found
  first_slots = ends_slots group founded (is_read first_left) life.first_asked.found first_changes false after_first cut_leaves.goes

  first_disk : (slot : ℕ) → after_first.disk slot ≡ founded.disk slot
  first_disk slot = ap (λ (disk : ℕ → Disk). disk slot) first_slots.same_disks

  first_current : (number : ℕ) (config : Configuration) → IsSince after_first.changes number config → has_current config (after_first.disk kept) ≡ true
  first_current =
      let ready = asked_changes group life.labelled life.first_exit life.first life.first_asked in
      members.stays_current group founded after_first (is_read first_left) life.first_asked.found ready.changes life.first.timestamp life.first_asked.steps false ready.is cut_leaves.goes kept first_stays

  -- ---- the loss

  abbrev after_loss : Past (groups group)
  after_loss = lose after_first lost

  loss_history : IsHistoryOn group after_loss life.without_one
  loss_history = lost_on group after_first life.cut life.without_one lost cut_leaves.history life.is_unplugged life.lost_gone

  kept_without : (disks_of life.without_one).gone kept → ⊥
  kept_without gone =
      life.kept_cut (set_true_other life.cut.unplugged lost kept life.apart
      (ap (λ (state : MemoryState). slice_index_or state.unplugged kept false) (sym life.is_unplugged) ∙ gone))

  same_without : (disks_of life.without_one).sizes ≡ sizes
  same_without = ap (λ (state : MemoryState). state.sizes) life.is_unplugged ∙ life.is_cut.same_sizes ∙ life.same_sizes

  kept_there_without : kept < length (disks_of life.without_one).sizes
  kept_there_without = subst (λ (all : List ℕ). kept < length all) (sym same_without) life.kept_there

  -- ---- the second command

  second_member : HasMemberOn group after_loss life.without_one
  second_member =
      member_on group after_loss life.without_one loss_history (before_told life.without_one life.second_exit life.second.well life.second_tells) kept kept_there_without kept_without first_current

  second_stays : StaysMember group after_loss kept life.second_asked.steps
  second_stays = record {
    pending = first_current;
    each = λ place step at. ap (has_current step.config) (first_disk kept ∙ begun.names kept life.kept_there) ∙ life.second_keeps place step at;
  }

  abbrev second_left : List Bool
  second_left = life.second.has.taken.left

  abbrev second_changes : List Configuration
  second_changes = changes_in life.second_asked.found life.second_asked.steps

  second_leaves : LeavesHistory group after_loss life.second_exit second_left life.second_asked.found second_changes (is_done life.second.outcome)
  second_leaves =
      asked_ends group life.without_one life.second_exit life.second after_loss loss_history second_member life.second_asked (not_spent life.second_done) life.second_tells

  abbrev after_second : Past (groups group)
  after_second = second_leaves.now

  second_over : IsOver group after_loss (is_read second_left) life.second_asked.found second_changes after_second
  second_over = is_over group after_loss (is_read second_left) life.second_asked.found second_changes life.second.outcome life.second_sequence life.second_done after_second second_leaves.ends

  second_taken : IsTaken group life.without_one life.second_exit second_left life.second_asked.found second_changes true
  second_taken =
      subst (λ (one : Result ℕ Failure). IsTaken group life.without_one life.second_exit second_left life.second_asked.found second_changes (is_done one)) life.second_done
      (taken group life.without_one life.second_exit life.second life.second_asked (not_spent life.second_done))

  second_current : (number : ℕ) (config : Configuration) → IsSince after_second.changes number config → has_current config (after_second.disk kept) ≡ true
  second_current =
      let ready = asked_changes group life.without_one life.second_exit life.second life.second_asked in
      members.stays_current group after_loss after_second (is_read second_left) life.second_asked.found ready.changes life.second.timestamp life.second_asked.steps true ready.is second_over kept second_stays

  second_missing : (number : ℕ) (config : Configuration) → IsSince after_second.changes number config → has_missing config (after_second.disk lost) ≡ true
  second_missing =
      let ready = asked_changes group life.without_one life.second_exit life.second life.second_asked in
      members.left_missing group after_loss after_second life.without_one life.second_exit second_left life.second_asked.found ready.changes life.second.timestamp life.second_asked.steps
      loss_history second_member life.second.well second_taken life.second_tells ready.is second_over lost
      (subst (λ (all : List ℕ). lost < length all) (sym same_without) life.lost_there) life.lost_gone
      (ap (has_current life.second_asked.found.config) (first_disk lost ∙ begun.names lost life.lost_there) ∙ life.lost_listed)

  second_slots : KeepsSlots group after_loss after_second (is_read second_left) life.second_asked.found
  second_slots = ends_slots group after_loss (is_read second_left) life.second_asked.found second_changes true after_second second_over

  second_disk : (slot : ℕ) → after_second.disk slot ≡ founded.disk slot
  second_disk slot = ap (λ (disk : ℕ → Disk). disk slot) second_slots.same_disks ∙ first_disk slot

  -- ---- the third one

  same_second : (disks_of life.second_exit).sizes ≡ sizes
  same_second = (becomes life.without_one life.second_exit life.second.well).same_sizes ∙ same_without

  kept_second : (disks_of life.second_exit).gone kept → ⊥
  kept_second gone = kept_without (gone_before life.without_one life.second_exit life.second kept gone)

  third_member : HasMemberOn group after_second life.second_exit
  third_member =
      member_on group after_second life.second_exit second_leaves.history life.second_tells kept
      (subst (λ (all : List ℕ). kept < length all) (sym same_second) life.kept_there) kept_second second_current

  third_stays : StaysMember group after_second kept life.third_asked.steps
  third_stays = record {
    pending = second_current;
    each = λ place step at. ap (has_current step.config) (second_disk kept ∙ begun.names kept life.kept_there) ∙ life.third_keeps place step at;
  }

  abbrev third_left : List Bool
  third_left = life.third.has.taken.left

  abbrev third_changes : List Configuration
  third_changes = changes_in life.third_asked.found life.third_asked.steps

  third_leaves : LeavesHistory group after_second life.third_exit third_left life.third_asked.found third_changes (is_done life.third.outcome)
  third_leaves =
      asked_ends group life.second_exit life.third_exit life.third after_second second_leaves.history third_member life.third_asked (not_spent life.third_done) life.third_tells

  abbrev after_third : Past (groups group)
  after_third = third_leaves.now

  third_over : IsOver group after_second (is_read third_left) life.third_asked.found third_changes after_third
  third_over = is_over group after_second (is_read third_left) life.third_asked.found third_changes life.third.outcome life.third_sequence life.third_done after_third third_leaves.ends

  third_slots : KeepsSlots group after_second after_third (is_read third_left) life.third_asked.found
  third_slots = ends_slots group after_second (is_read third_left) life.third_asked.found third_changes true after_third third_over

  third_current : (number : ℕ) (config : Configuration) → IsSince after_third.changes number config → has_current config (after_third.disk kept) ≡ true
  third_current =
      let ready = asked_changes group life.second_exit life.third_exit life.third life.third_asked in
      members.stays_current group after_second after_third (is_read third_left) life.third_asked.found ready.changes life.third.timestamp life.third_asked.steps true ready.is third_over kept third_stays

  third_missing : (number : ℕ) (config : Configuration) → IsSince after_third.changes number config → has_missing config (after_third.disk lost) ≡ true
  third_missing =
      let ready = asked_changes group life.second_exit life.third_exit life.third life.third_asked in
      members.stays_missing group after_second after_third (is_read third_left) life.third_asked.found ready.changes life.third.timestamp life.third_asked.steps true ready.is third_over lost second_missing

  -- ---- the return

  -- No other disk than the lost one has come back.
  none_returned : (slot : ℕ) → after_third.returned slot ≡ false
  none_returned slot =
      let first : after_first.returned slot ≡ false = ap (λ (returned : ℕ → Bool). returned slot) first_slots.same_returned ∙ begun.returned_none slot in
      let second : after_second.returned slot ≡ false =
      ap (λ (returned : ℕ → Bool). returned slot) second_slots.same_returned ∙ ap (λ (b : Bool). b && not (slot == lost)) first in
      ap (λ (returned : ℕ → Bool). returned slot) third_slots.same_returned ∙ second

  one_returned : (slot : ℕ) → (after_third.returned slot || (slot == lost)) ≡ true → slot ≡ lost
  one_returned slot is = eqb-true slot lost (rw (none_returned slot) at is)

  abbrev in_the_end : Past (groups group)
  in_the_end = give_back after_third lost

  end_history : IsHistoryOn group in_the_end life.back
  end_history = come_back group after_third life.third_exit third_leaves.history life.back lost third_missing life.comes_back

  same_back : (disks_of life.back).sizes ≡ sizes
  same_back = life.comes_back.same_sizes ∙ (becomes life.second_exit life.third_exit life.third.well).same_sizes ∙ same_second

  end_member : HasMemberOn group in_the_end life.back
  end_member =
      member_on group in_the_end life.back end_history (before_told life.back life.last_exit life.last.well life.last_tells) kept
      (subst (λ (all : List ℕ). kept < length all) (sym same_back) life.kept_there) life.kept_back third_current

  pub outlives : Outlives large revision stamp kept lost life
  outlives = record {
    begun = begun;
    after_first = after_first;
    first_shown = cut_leaves.history;
    first_goes = cut_leaves.goes;
    after_second = after_second;
    second_shown = second_leaves.history;
    second_over = second_over;
    after_third = after_third;
    third_shown = third_leaves.history;
    third_over = third_over;
    end_shown = end_history;
    one_returned = one_returned;
    none_behind = over_length group after_second (is_read third_left) life.third_asked.found third_changes after_third third_over;
    is_last = over_last group after_second (is_read third_left) life.third_asked.found third_changes after_third third_over;
    all_acked =
        acked_then group founded after_first after_third cut_leaves.acked
        (acked_then group after_first after_second after_third
        (record { later = second_leaves.acked.later; same = second_leaves.acked.same })
        (record { later = third_leaves.acked.later; same = third_leaves.acked.same }));
    is_told = command_tells group life.back life.last_exit life.last in_the_end end_history end_member life.last_ample life.last_tells;
  }
