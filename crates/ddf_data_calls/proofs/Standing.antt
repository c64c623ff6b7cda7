-- A group whose first changes are acknowledged, of which nothing else is issued: its one configuration, and its seats.
use Rattle.std.proofs.Common.{◌≡◌, ◌∙◌, ℕ, ◌+◌, ◌<◌, ◌^◌, Bool, true, false, not, ◌&&◌, List, [], ◌∷◌, length, Option, Some, Ok, refl, ap, sym, subst, filter_map, if◌then◌else◌, arith}
use Rattle.std.proofs.Math.Path.{fun_ext}
use Rattle.std.specs.Prelude.{slice_get}
use Rattle.std.specs.List.{range_with_len}
use Rattle.std.specs.Cmp.Derive.{one_truth}
use Rattle.ddf_bay.specs.Sectors.{Image, IsLeft}
use Rattle.ddf_bay.specs.State.{BayState}
use Rattle.ddf_config.specs.declared.member.Member.{Member}
use Rattle.ddf_config.specs.declared.seat.Seat.{Seat}
use Rattle.ddf_config.specs.Configuration.{Configuration}
use Rattle.ddf_copy.specs.declared.newest_copy.Newest.{Newest}
use Rattle.ddf_plan.specs.declared.change.Change.{Change}
use Rattle.ddf_plan.specs.declared.change.Change.TheVariants.{Lose, Mark}
use Rattle.ddf_plan.specs.Changes.{changed_at}
use Rattle.ddf_plan.specs.Members.{member_after}
use Rattle.ddf_array.specs.Viewing.{view_of}
use Rattle.ddf_array.specs.Volume.{Volume}
use Rattle.ddf_data_group.specs.Grouped.{Promises}
use Rattle.ddf_data_group.proofs.Entries.{current_same}
use Rattle.ddf_history.specs.Groups.{Disk, groups, has_current}
use Rattle.ddf_history.specs.Issued.{IsSince, Past, issue, leave_out, take_off}
use Rattle.ddf_history.proofs.Following.{changes_follow}
use Rattle.ddf_seats.specs.Group.{GroupValue}
use Rattle.ddf_assembly.specs.Group.{group_of}
use Rattle.ddf_recovery.specs.Recovery.{config_lost, config_recovered}
use Rattle.ddf_seats.specs.Leading.{some}
use Rattle.ddf_assembly.specs.Slots.{newest_from}
use Rattle.ddf_history_steps.specs.Going.{IsAdmitted, IsOver, begun, issue_all}
use Rattle.ddf_history_steps.specs.Kept.{is_read}
use Rattle.ddf_history_steps.proofs.ChangingStays.{stays_current}
use Rattle.ddf_history_steps.proofs.LastIssued.{over_last}
use Rattle.ddf_data_history.specs.Carried.{IsAllData}
use Rattle.ddf_data_history.specs.Promised.{AreAlone, IsAlone, KeepsData, seat_if, seats_in}
use Rattle.ddf_data_history.proofs.Seats.{is_current_by}
use Rattle.ddf_data_disks.specs.Seats.{AreAlikeSeats}
use Rattle.ddf_data_disks.proofs.Alike.{view_same}
use Rattle.ddf_data_calls.specs.Calls.{AreMade, left_over}
use Rattle.ddf_data_calls.specs.Floors.{HaveFloors}
use Rattle.ddf_data_calls.proofs.Begun.{done_is}
use Rattle.ddf_data_calls.proofs.Issued.{ends_keep}
use Rattle.ddf_data_calls.proofs.Recovered.{recovered_alike}

-- ---- members

-- a change that loses no member makes none current either
pub kept_current : (group : List ℕ) (config : Configuration) (change : Change) → ((reference : ℕ) (member : Member) → (member_after config change reference member).missing ≡ member.missing) → (sequence : ℕ) (disk : Disk)
    → has_current (changed_at config change sequence) disk ≡ has_current config disk
kept_current group config change same sequence disk =
    one_truth (has_current (changed_at config change sequence) disk) (has_current config disk)
    (λ is. let follow = changes_follow group config change (config.sequence + 1) (omega arith) in follow.no_more disk is)
    (λ was. stays_current config change sequence disk was
    (current_same (member_after config change) same config.members disk.reference ∙ is_current_by config disk was))

-- so does a mark
pub mark_current : (group : List ℕ) (config : Configuration) (guid : List ℕ) (sequence : ℕ) (disk : Disk) → has_current (changed_at config (Mark guid) sequence) disk ≡ has_current config disk
mark_current group config guid sequence disk = kept_current group config (Mark guid) (λ reference member. refl) sequence disk

-- a member that is current once absent ones are lost was so before
pub recovered_was : (group : List ℕ) (found : GroupValue) (disk : Disk) → has_current (config_recovered found) disk ≡ true → has_current found.config disk ≡ true
unfolding config_recovered
recovered_was group found disk = by (some found.absent)
  where
    by : (absent : Bool) → has_current (if absent then config_lost found else found.config) disk ≡ true → has_current found.config disk ≡ true
    by true now = let follow = changes_follow group found.config (Lose found.absent) (found.config.sequence + 1) (omega arith) in follow.no_more disk now
    by false now = now

-- ---- the slots

-- the same slots, disks, and lost slots
pub record IsSameSlots (group : List ℕ) (one other : Past (groups group)) : Type 0 where
  pub same_slots : one.slots ≡ other.slots
  pub same_disks : one.disk ≡ other.disk
  pub same_lost : one.lost ≡ other.lost

module _ (group : List ℕ) where
  issued_slots : (past : Past (groups group)) (changes : List Configuration) → IsSameSlots group (issue_all group past changes) past
  issued_slots past [] = record { same_slots = refl; same_disks = refl; same_lost = refl }
  issued_slots past (next ∷ others) = let rest = issued_slots (issue past next) others in record { same_slots = rest.same_slots; same_disks = rest.same_disks; same_lost = rest.same_lost }

  begun_slots : (past : Past (groups group)) (readable : ℕ → Bool) (found : GroupValue) (number : ℕ) → IsSameSlots group (begun group past readable found number) (left_over group past readable found)
  begun_slots past readable found number = by (some found.absent)
    where
      by : (absent : Bool) → IsSameSlots group (if absent then take_off (leave_out past readable found.config) number else take_off past number) (if absent then leave_out past readable found.config else past)
      by true = record { same_slots = refl; same_disks = refl; same_lost = refl }
      by false = record { same_slots = refl; same_disks = refl; same_lost = refl }

  pub over_slots : (past now : Past (groups group)) (readable : ℕ → Bool) (found : GroupValue) (changes : List Configuration) → IsOver group past readable found changes now
      → IsSameSlots group now (left_over group past readable found)
  over_slots past now readable found changes over =
      let all = issued_slots (begun group past readable found over.number) changes in
      let start = begun_slots past readable found over.number in
      subst (λ (one : Past (groups group)). IsSameSlots group one (left_over group past readable found)) (sym over.is_now)
      (record { same_slots = all.same_slots ∙ start.same_slots; same_disks = all.same_disks ∙ start.same_disks; same_lost = all.same_lost ∙ start.same_lost })

  start_disks : (past : Past (groups group)) (readable : ℕ → Bool) (found : GroupValue) → (left_over group past readable found).disk ≡ past.disk
  start_disks past readable found = by (some found.absent)
    where
      by : (absent : Bool) → (if absent then leave_out past readable found.config else past).disk ≡ past.disk
      by true = refl
      by false = refl

-- the seats by what they are listed from
abbrev listed_by : (floor : ℕ → ℕ) → (lost : ℕ → Bool) (disk : ℕ → Disk) (slots : ℕ) (current : Disk → Bool) → List Seat
listed_by floor lost disk slots current = filter_map (λ slot. seat_if (not (lost slot) && current (disk slot)) floor (disk slot) slot) (range_with_len 0 slots)

pub seats_same : (group : List ℕ) (floor : ℕ → ℕ) (one other : Past (groups group)) → IsSameSlots group one other → (config last : Configuration) → ((disk : Disk) → has_current config disk ≡ has_current last disk)
    → seats_in group one floor config ≡ seats_in group other floor last
seats_same group floor one other same config last current =
    ap (λ (lost : ℕ → Bool). listed_by floor lost one.disk one.slots (has_current config)) same.same_lost
    ∙ ap (λ (disk : ℕ → Disk). listed_by floor other.lost disk one.slots (has_current config)) same.same_disks
    ∙ ap (λ (slots : ℕ). listed_by floor other.lost other.disk slots (has_current config)) same.same_slots
    ∙ ap (λ (is : Disk → Bool). listed_by floor other.lost other.disk other.slots is) (fun_ext (λ (disk : Disk). current disk))

-- ---- the group

module _ (group : List ℕ) {D : Type 0} (old : BayState D) (past : Past (groups group)) (floor : ℕ → ℕ) (small : (slot : ℕ) → floor slot < 2 ^ 64) (left : List Bool) (newest : List (Option Newest)) (named : Option (List ℕ)) (found : GroupValue)
    (long : length left ≡ length old.sizes) (read : newest ≡ newest_from old 0 left) (is_found : group_of newest named ≡ Ok found) (own : found.config.group ≡ group)
    (admitted : IsAdmitted group past old left found) (floors : HaveFloors group past old floor)
    (changes : List Configuration) (config : Configuration) (last : slice_get (found.config ∷ changes) (length changes) ≡ Some config)
    (current : (disk : Disk) → has_current config disk ≡ has_current (config_recovered found) disk)
    (now : Past (groups group)) (over : IsOver group past (is_read left) found changes now) where
  -- It has one configuration,
  pub alone : IsAlone group now config
  alone number other since =
      let same : ◌≡◌ {A = Option Configuration} (Some other) (Some config) = sym (done_is group past now (is_read left) found changes over number other since) ∙ last in cc

  pub since : IsSince now.changes now.changes.acked config
  since = record { late = omega arith; is_there = over_last group past (is_read left) found changes now over ∙ last }

  -- and the seats that the call found.
  pub alike : AreAlikeSeats found.seats (seats_in group now floor config)
  alike =
      subst (AreAlikeSeats found.seats) (sym (seats_same group floor now (left_over group past (is_read left) found) (over_slots group past now (is_read left) found changes over) config (config_recovered found) current))
      (recovered_alike group old left newest long read past admitted.same_slots admitted.is_kept admitted.may_read admitted.member named found is_found own floor floors)

  pub view : (guid : List ℕ) (v : Volume) → view_of config guid found.seats ≡ Ok v → view_of config guid (seats_in group now floor config) ≡ Ok v
  view guid v is = sym (view_same found.seats (seats_in group now floor config) alike config guid) ∙ is

  -- No member is in two slots.
  pub in_one : AreAlone group now
  in_one s t number other since_it here same =
      let is = alone number other since_it in
      let slots = over_slots group past now (is_read left) found changes over in
      let disks : now.disk ≡ past.disk = slots.same_disks ∙ start_disks group past (is_read left) found in
      let early : has_current (config_recovered found) (now.disk s) ≡ true = sym (current (now.disk s)) ∙ ap (λ (c : Configuration). has_current c (now.disk s)) (sym is) ∙ here in
      admitted.is_kept.alone s t over.number found.config over.since
      (ap (λ (disk : ℕ → Disk). has_current found.config (disk s)) (sym disks) ∙ recovered_was group found (now.disk s) early)
      (ap (λ (disk : ℕ → Disk). disk s) (sym disks) ∙ same ∙ ap (λ (disk : ℕ → Disk). disk t) disks)

  -- Its data are kept as they were.
  pub keeps : (promises : Promises) → IsAllData group past floor old promises → (image : Image) → IsLeft old.may_hold image
      → AreMade (seats_in group (left_over group past (is_read left) found) floor) image promises found.config changes → KeepsData group now floor image promises
  keeps promises all image was made = ends_keep group floor small image promises past admitted.is_kept.alone (all image was) (is_read left) found changes made true now over
