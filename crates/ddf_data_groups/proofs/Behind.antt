-- Behind a call of the one group both groups are apart as before, and each has its own members.
use Rattle.std.proofs.Common.{◌≡◌, ℕ, Bool, true, false, List, ◌++◌, Some, Ok, sym, ap, subst, arith}
use Rattle.std.specs.Prelude.{length, slice_get}
use Rattle.ddf_bytes.specs.Streams.{SourceState}
use Rattle.ddf_bay.specs.State.{BayState}
use Rattle.ddf_config.specs.Configuration.{Configuration}
use Rattle.ddf_history.specs.Groups.{Disk, groups, has_current}
use Rattle.ddf_history.specs.Issued.{Changes as Issues, IsSince, Past}
use Rattle.ddf_recovery.specs.Recovery.{config_recovered}
use Rattle.ddf_seats.specs.Group.{GroupValue}
use Rattle.ddf_steps.specs.Steps.{Step}
use Rattle.ddf_history_steps.specs.Going.{Ends, changes_in}
use Rattle.ddf_history_steps.specs.Kept.{is_read}
use Rattle.ddf_history_steps.proofs.MembersKept.{had}
use Rattle.ddf_history_steps.proofs.SlotsKept.{ends_slots}
use Rattle.ddf_group_commands.specs.Change.{Request, is_done, steps_of}
use Rattle.ddf_group_commands.specs.Requests.{linux_members}
use Rattle.ddf_write_commands.specs.Resync.{resync_request}
use Rattle.ddf_write_commands.specs.Write.{is_written, write_request}
use Rattle.ddf_rebuild_command.specs.Asked.{rebuild_request}
use Rattle.ddf_rebuild_command.specs.GoingBack.{copyback_request}
use Rattle.ddf_group_commands.proofs.Outcomes.{readied_by}
use Rattle.ddf_data_events.specs.Calls.{Call, EndsAt, HasComeTo}
use Rattle.ddf_data_events.specs.Calls.Call.{Accepts, Changes, Copies, Joins, Others, Reads, Rebuilds, Resyncs, Writes}
use Rattle.ddf_data_groups.specs.Beside.{AreApart, AreBeside, Both, HasItsMembers, our_moment, turned}
use Rattle.ddf_data_groups.specs.Going.{TakesItsOwn}
use Rattle.ddf_data_groups.proofs.Falling.{members_behind}

-- the same, told of the other one
pub apart_turned : (one other : List ℕ) (ours : Past (groups one)) (theirs : Past (groups other)) → AreApart one other ours theirs → AreApart other one theirs ours
apart_turned one other ours theirs apart = record {
  another = λ same. apart.another (sym same);
  no_slot = λ slot m n config next since later current also. apart.no_slot slot n m next config later since also current;
  no_disk = λ disk m n config next since later current also. apart.no_disk disk n m next config later since also current;
}

pub beside_turned : {one other : List ℕ} {B : Type 0} (disks : B → BayState B) (both : Both one other B) → AreBeside disks both → AreBeside disks (turned both)
beside_turned {one = one} {other = other} disks both beside = record {
  keeps = beside.keeps_theirs;
  keeps_theirs = beside.keeps;
  members = beside.their_members;
  their_members = beside.members;
  apart = apart_turned one other both.ours.past both.theirs.past beside.apart;
}

module _ (one other : List ℕ) (ours : Past (groups one)) (theirs : Past (groups other)) (apart : AreApart one other ours theirs) (its : HasItsMembers one ours) where
  -- What a history has become: apart from the other one, with its own members.
  pub record StaysApart (now : Past (groups one)) : Type 0 where
    pub apart_then : AreApart one other now theirs
    pub members : HasItsMembers one now

  pub still_apart : (now : Past (groups one)) → now ≡ ours → StaysApart now
  still_apart now same = subst StaysApart (sym same) (record { apart_then = apart; members = its })

  -- So where the changes are what they were, and the disks in the slots.
  pub same_changes : (now : Past (groups one)) → now.changes ≡ ours.changes → now.disk ≡ ours.disk → StaysApart now
  same_changes now same same_disks = record {
    apart_then = record {
      another = apart.another;
      no_slot = λ slot m n config next since later current also.
          apart.no_slot slot m n config next (subst (λ (changes : Issues (groups one)). IsSince changes m config) same since) later
          (subst (λ (disk : ℕ → Disk). has_current config (disk slot) ≡ true) same_disks current) also;
      no_disk = λ disk m n config next since later current also.
          apart.no_disk disk m n config next (subst (λ (changes : Issues (groups one)). IsSince changes m config) same since) later current also;
    };
    members = record {
      own = let low = its.own in let from = ap (λ (changes : Issues (groups one)). changes.own_from) same in let to = ap (λ (changes : Issues (groups one)). changes.acked) same in omega (arith, low, from, to);
      none_joins = λ number config last disk since current is.
          its.none_joins number config last disk (subst (λ (changes : Issues (groups one)). IsSince changes number config) same since) current
          (subst (λ (changes : Issues (groups one)). slice_get changes.issued changes.acked ≡ Some last) same is);
    };
  }

  -- ---- behind a call

  module _ (first : Configuration) (first_is : slice_get ours.changes.issued ours.changes.acked ≡ Some first) (readable : ℕ → Bool) (found : GroupValue) (timestamp : ℕ) (request : Request)
      (steps : List Step) (are_asked : steps_of found timestamp request ≡ Ok steps) where
    pub steps_apart : (done : Bool) (now : Past (groups one)) → Ends one ours readable found (changes_in found steps) done now → StaysApart now
    steps_apart done now ends =
        let asked = readied_by found timestamp (request (config_recovered found) found.seats) steps are_asked in
        let was = had one ours now readable found asked.changes timestamp steps asked.is done ends in
        let same = (ends_slots one ours readable found (changes_in found steps) done now ends).same_disks in
        record {
          apart_then = record {
            another = apart.another;
            no_slot = λ slot m n config next since later current also.
                let from = was m config since in
                apart.no_slot slot from.number n from.earlier next from.since later
                (from.within.no_more (ours.disk slot) (subst (λ (disk : ℕ → Disk). has_current config (disk slot) ≡ true) same current)) also;
            no_disk = λ disk m n config next since later current also.
                let from = was m config since in apart.no_disk disk from.number n from.earlier next from.since later (from.within.no_more disk current) also;
          };
          members = members_behind one ours readable found its first first_is asked.changes timestamp steps asked.is done now ends;
        }

-- ---- each call

module _ {B : Type 0} {tells : Type 0} (told : tells) (disks : B → BayState B) {S : Type 0} (tells_bytes : Type 0) (streams : S → SourceState) (one other : List ℕ) (both : Both one other B)
    (beside : AreBeside disks both) (first_of : (disks both.bay).tells_left → (first : Configuration) × (slice_get both.ours.past.changes.issued both.ours.past.changes.acked ≡ Some first)) where
  abbrev Stays : Past (groups one) → Type 0
  Stays now = StaysApart one other both.ours.past both.theirs.past beside.apart beside.members now

  stepped : (disks both.bay).tells_left → (readable : ℕ → Bool) (found : GroupValue) (timestamp : ℕ) (request : Request) (steps : List Step) → steps_of found timestamp request ≡ Ok steps → (done : Bool) (now : Past (groups one))
      → Ends one both.ours.past readable found (changes_in found steps) done now → Stays now
  stepped tells_left readable found timestamp request steps are_asked done now ends =
      let first = first_of tells_left in
      steps_apart one other both.ours.past both.theirs.past beside.apart beside.members first.0 first.1 readable found timestamp request steps are_asked done now ends

  still : (now : Past (groups one)) → now ≡ both.ours.past → Stays now
  still = still_apart one other both.ours.past both.theirs.past beside.apart beside.members

  pub ended_apart : (call : Call told disks tells_bytes streams one (our_moment both)) → TakesItsOwn told disks tells_bytes streams call → (now : Past (groups one))
      → EndsAt told disks tells_bytes streams one call now → Stays now
  ended_apart (Changes call) own now ends = stepped call.finds.tells_left (is_read call.changed.taken.left) call.finds.found call.timestamp call.request call.steps call.are_asked (is_done call.outcome) now ends
  ended_apart (Accepts accept) own now ends =
      stepped accept.call.finds.tells_left (is_read accept.call.changed.taken.left) accept.call.finds.found accept.call.timestamp accept.call.request accept.call.steps accept.call.are_asked (is_done accept.call.outcome) now ends
  ended_apart (Resyncs call) own now ends =
      stepped call.finds.tells_left (is_read call.resynced.taken.left) call.finds.found call.timestamp (resync_request call.word) (call.plan.first ++ call.plan.last) call.plan.are_asked (is_done call.outcome) now ends
  ended_apart (Writes call) own now ends =
      stepped call.finds.tells_left (is_read call.wrote.taken.left) call.finds.found call.timestamp (write_request call.word call.start call.count) (call.plan.first ++ call.plan.last) call.plan.are_asked (is_written call.outcome) now ends
  ended_apart (Rebuilds call) own now ends =
      stepped call.finds.tells_left (is_read call.rebuilt.taken.left) call.finds.found call.timestamp (rebuild_request call.word (linux_members call.finds.found)) call.steps call.are_asked (is_done call.outcome) now ends
  ended_apart (Copies call) own now ends =
      stepped call.finds.tells_left (is_read call.copied.taken.left) call.finds.found call.timestamp (copyback_request (length (disks both.bay).sizes) call.word call.slot (linux_members call.finds.found)) call.steps
      call.are_asked (is_done call.outcome) now ends
  ended_apart (Joins call) own now ends = absurd own
  ended_apart (Others call) own now ends = absurd own
  ended_apart (Reads exit reads) own now same = still now same

  pub cut_apart : (call : Call told disks tells_bytes streams one (our_moment both)) → TakesItsOwn told disks tells_bytes streams call → (now : Past (groups one))
      → HasComeTo told disks tells_bytes streams one call now → Stays now
  cut_apart (Changes call) own now goes = stepped call.finds.tells_left (is_read call.changed.taken.left) call.finds.found call.timestamp call.request call.steps call.are_asked false now goes
  cut_apart (Accepts accept) own now goes =
      stepped accept.call.finds.tells_left (is_read accept.call.changed.taken.left) accept.call.finds.found accept.call.timestamp accept.call.request accept.call.steps accept.call.are_asked false now goes
  cut_apart (Resyncs call) own now goes =
      stepped call.finds.tells_left (is_read call.resynced.taken.left) call.finds.found call.timestamp (resync_request call.word) (call.plan.first ++ call.plan.last) call.plan.are_asked false now goes
  cut_apart (Writes call) own now goes =
      stepped call.finds.tells_left (is_read call.wrote.taken.left) call.finds.found call.timestamp (write_request call.word call.start call.count) (call.plan.first ++ call.plan.last) call.plan.are_asked false now goes
  cut_apart (Rebuilds call) own now goes =
      stepped call.finds.tells_left (is_read call.rebuilt.taken.left) call.finds.found call.timestamp (rebuild_request call.word (linux_members call.finds.found)) call.steps call.are_asked false now goes
  cut_apart (Copies call) own now goes =
      stepped call.finds.tells_left (is_read call.copied.taken.left) call.finds.found call.timestamp (copyback_request (length (disks both.bay).sizes) call.word call.slot (linux_members call.finds.found)) call.steps
      call.are_asked false now goes
  cut_apart (Joins call) own now goes = absurd own
  cut_apart (Others call) own now goes = absurd own
  cut_apart (Reads exit reads) own now same = still now same
