-- The steps of a rebuild keep the seats of their group: no change of one loses a member.
use Rattle.std.proofs.Common.{◌≡◌, ◌∙◌, ℕ, Bool, true, false, not, ◌||◌, cond, List, [], ◌∷◌, map, Option, Some, None, Result, Ok, Err, nat_eq, refl, sym, ap, subst, if◌then◌else◌}
use Rattle.std.specs.Prelude.{option_map, slice_get}
use Rattle.std.specs.List.{AllByRecursion}
use Rattle.std.specs.Map.{lookup}
use Rattle.ddf_lemmas.proofs.Lists.{mapped_at}
use Rattle.ddf_config.specs.declared.member.Member.{Member}
use Rattle.ddf_config.specs.declared.refusal.Refusal.{Refusal}
use Rattle.ddf_config.specs.declared.seat.Seat.{Seat}
use Rattle.ddf_config.specs.Configuration.{Configuration}
use Rattle.ddf_config.specs.Entries.{changed_entries}
use Rattle.ddf_config.specs.Members.{is_current}
use Rattle.ddf_plan.specs.declared.change.Change.{Change}
use Rattle.ddf_plan.specs.Lose.{is_among}
use Rattle.ddf_plan.specs.Members.{lost_by, member_after, members_after}
use Rattle.ddf_plan.specs.Same.{is_step}
use Rattle.ddf_rewrite.specs.Before.{before}
use Rattle.ddf_seats.specs.declared.seated.Seated.{Seated}
use Rattle.ddf_recovery.specs.Committed.{WasReadied, group_recovered}
use Rattle.ddf_seats.specs.Group.{GroupValue}
use Rattle.ddf_steps.specs.Ready.{ReadyStep, steps_from, with_step}
use Rattle.ddf_recovery.specs.Ready.{ReadyValue}
use Rattle.ddf_recovery.specs.Recovery.{config_lost, config_recovered, disks_recovered, lost_step, mending_step, recovery_of}
use Rattle.ddf_seats.specs.Leading.{leading, some}
use Rattle.ddf_steps.specs.Refusing.{step_refusal}
use Rattle.ddf_seats.specs.Seated.{seated, seats_in, views_in, levelled}
use Rattle.ddf_steps.specs.Steps.{Step, config_after, stays_in, step_of}
use Rattle.ddf_steps.proofs.CommittedLevels.{seats_levelled}
use Rattle.ddf_recovery.proofs.ReadiedParts.{are_tried}
use Rattle.ddf_recovery.proofs.RecoveredGroup.{is_recovered}
use Rattle.ddf_group_commands.proofs.StepsWritten.{steps_in}
use Rattle.ddf_write_commands.specs.Opened.{AreMembers}
use Rattle.ddf_write_commands.proofs.Staying.{seats_stay}
use Rattle.ddf_rebuild_command.specs.Standing.{KeepSeats}

-- ---- a change that loses none

-- it loses no member
abbrev pub LosesNone : Change → Type 0
LosesNone change = lost_by change ≡ []

-- a member is current still where none is missing that wasn't
told_same : (made : ℕ → Member → Member) → ((k : ℕ) (m : Member) → (made k m).missing ≡ m.missing) → (reference : ℕ) (members : List (ℕ × Member))
    → is_current (changed_entries (λ k m. Some (made k m)) members) reference ≡ is_current members reference
told_same made same reference [] = refl
told_same made same reference (entry ∷ members) = by (nat_eq reference entry.0) (told_same made same reference members)
  where
    by : (b : Bool) → is_current (changed_entries (λ k m. Some (made k m)) members) reference ≡ is_current members reference
        → ◌≡◌ {A = Bool} (elim (cond b (Some (made entry.0 entry.1)) (lookup (nat_eq reference) (changed_entries (λ k m. Some (made k m)) members))) [ None ↦ false | Some m ↦ not m.missing ])
        (elim (cond b (Some entry.1) (lookup (nat_eq reference) members)) [ None ↦ false | Some m ↦ not m.missing ])
    by true rest = ap not (same entry.0 entry.1)
    by false rest = rest

not_lost : (config : Configuration) (change : Change) → LosesNone change → (reference : ℕ) (member : Member) → (member_after config change reference member).missing ≡ member.missing
not_lost config change none reference member = ap (λ (lost : List ℕ). is_among lost reference || member.missing) none

-- A member that is current stays so.
pub still_current : (config : Configuration) (change : Change) → LosesNone change → (reference : ℕ) → is_current (members_after config change) reference ≡ is_current config.members reference
still_current config change none reference = told_same (member_after config change) (not_lost config change none) reference config.members

-- ---- the steps of such changes

abbrev KeepsSeats : List Seat → Step → Type 0
KeepsSeats seats step = seats_in step.disks ≡ seats

module _ (timestamp : ℕ) (seats : List Seat) where
  step_keeps : (config : Configuration) (disks : List Seated) (change : Change) → LosesNone change → AreMembers config seats → seats_in disks ≡ seats → KeepsSeats seats (step_of timestamp config disks change)
  step_keeps config disks change none members same =
      seats_stay timestamp (before (views_in disks)) (config_after config change) disks
      (λ k disk at.
      let seat : slice_get seats k ≡ Some disk.seat = ap (λ (all : List Seat). slice_get all k) (sym same) ∙ mapped_at (λ (one : Seated). one.seat) disks k disk at in
      still_current config change none disk.seat.reference ∙ members k disk.seat seat)
      ∙ same

  steps_keep : (changes : List Change) → AllByRecursion LosesNone changes → (config : Configuration) (disks : List Seated) → AreMembers config seats → seats_in disks ≡ seats → (steps : List Step)
      → steps_from timestamp None changes config disks ≡ Ok steps → AllByRecursion (KeepsSeats seats) steps
  steps_keep [] none config disks members same steps h = let empty : [] ≡ steps = cc in subst (AllByRecursion (KeepsSeats seats)) empty tt
  steps_keep (change ∷ changes) none config disks members same steps h =
      let first = step_of timestamp config disks change in
      by (step_refusal timestamp None config disks change) (is_step config change) (steps_from timestamp None changes first.config (map levelled first.disks)) refl
      (steps_keep changes none.1 first.config (map levelled first.disks) (λ place seat at. still_current config change none.0 seat.reference ∙ members place seat at)
      (seats_levelled first.disks ∙ step_keeps config disks change none.0 members same))
      (steps_keep changes none.1 config disks members same) h
    where
      by : (refusal : Option Refusal) (is : Bool) (after : Result (List Step) Refusal) → steps_from timestamp None changes (step_of timestamp config disks change).config (map levelled (step_of timestamp config disks change).disks) ≡ after
          → ((rest : List Step) → steps_from timestamp None changes (step_of timestamp config disks change).config (map levelled (step_of timestamp config disks change).disks) ≡ Ok rest → AllByRecursion (KeepsSeats seats) rest)
          → ((rest : List Step) → steps_from timestamp None changes config disks ≡ Ok rest → AllByRecursion (KeepsSeats seats) rest)
          → ◌≡◌ {A = Result (List Step) Refusal} (elim refusal [ Some one ↦ Err one | None ↦ if is then with_step (step_of timestamp config disks change) after else steps_from timestamp None changes config disks ]) (Ok steps)
          → AllByRecursion (KeepsSeats seats) steps
      by (Some one) is after e later beside made = absurd cc
      by None true (Err refusal) e later beside made = absurd cc
      by None true (Ok rest) e later beside made =
          let both : step_of timestamp config disks change ∷ rest ≡ steps = cc in
          subst (AllByRecursion (KeepsSeats seats)) both (step_keeps config disks change none.0 members same, later rest e)
      by None false after e later beside made = beside steps made

as_ready : (seats : List Seat) (steps : List ReadyStep) → AllByRecursion (KeepsSeats seats) (steps_in steps) → KeepSeats seats steps
as_ready seats [] keep = tt
as_ready seats (one ∷ others) keep = (keep.0, as_ready seats others keep.1)

-- ---- of a group

module _ (found : GroupValue) (changes : List Change) (timestamp : ℕ) (ready : ReadyValue) (was : WasReadied found changes timestamp ready)
    (members : AreMembers (config_recovered found) found.seats) where
  seats_by : (recovery : Option ReadyStep) → option_map (λ (one : ReadyStep). one.step) recovery ≡ recovery_of timestamp found → (group_recovered found recovery).seats ≡ found.seats
  unfolding recovery_of config_recovered
  seats_by None is = refl
  seats_by (Some one) is = lost (some found.absent) refl
    where
      stay : some found.absent ≡ true → (k : ℕ) (disk : Seated) → slice_get (seated found) k ≡ Some disk → stays_in (config_lost found) disk ≡ true
      stay absent k disk at =
          let seat : slice_get found.seats k ≡ Some disk.seat = ap (λ (seats : List Seat). slice_get seats k) (sym was.assembled.are_seated) ∙ mapped_at (λ (one : Seated). one.seat) (seated found) k disk at in
          subst (λ (b : Bool). is_current (if b then config_lost found else found.config).members disk.seat.reference ≡ true) absent (members k disk.seat seat)

      lost : (b : Bool) → some found.absent ≡ b → (if b then seats_in one.step.disks else found.seats) ≡ found.seats
      lost false e = refl
      lost true e =
          let step : one.step ≡ lost_step timestamp found =
          let whole : Some one.step ≡ Some (lost_step timestamp found) =
          is ∙ ap (λ (b : Bool). if b then Some (lost_step timestamp found) else if some found.lagging then Some (mending_step timestamp found) else None) e in cc in
          ap (λ (one : Step). seats_in one.disks) step ∙ seats_stay timestamp (leading found) (config_lost found) (seated found) (stay e) ∙ was.assembled.are_seated

  -- Its recovery keeps the seats,
  pub recovered_seats : (group_recovered found ready.recovery).seats ≡ found.seats
  recovered_seats = seats_by ready.recovery was.is_recovery

  disks_seats : seats_in (disks_recovered timestamp found) ≡ found.seats
  disks_seats =
      let is = is_recovered found changes timestamp ready was in
      ap seats_in (sym is.disks_are) ∙ is.is_settled.are_seated ∙ recovered_seats

  -- and so does each step behind it.
  pub seats_kept : AllByRecursion LosesNone changes → KeepSeats found.seats ready.steps
  seats_kept none =
      as_ready found.seats ready.steps
      (steps_keep timestamp found.seats changes none (config_recovered found) (disks_recovered timestamp found) members disks_seats (steps_in ready.steps) (are_tried found changes timestamp ready was))
