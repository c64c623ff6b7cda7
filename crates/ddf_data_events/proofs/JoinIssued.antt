-- However far the changes of an import have come, the data of the group that it joins are kept.
use Rattle.std.proofs.Common.{◌≡◌, ◌∙◌, inl, inr, ⊎_elim, ℕ, zero, suc, ◌+◌, ◌<◌, ◌≤◌, ◌^◌, not, cond, Bool, true, false, List, [], ◌∷◌, ◌++◌, length, map, take, Some, None, if◌then◌else◌, refl, ap, sym, subst, arith, length-append}
use Rattle.std.proofs.Math.Seq.{take-length}
use Rattle.std.proofs.lemmas.Bool.{cases_lt, eq-eqb, ne_eqb}
use Rattle.std.proofs.lemmas.List.{take-append-le}
use Rattle.std.specs.Prelude.{option_to_list, slice_get}
use Rattle.std.proofs.lemmas.Option.{slice_get_within}
use Rattle.ddf_lemmas.proofs.Lists.{get_last}
use Rattle.ddf_bay.specs.Sectors.{Image}
use Rattle.ddf_config.specs.declared.seat.Seat.{Seat}
use Rattle.ddf_config.specs.Configuration.{Configuration}
use Rattle.ddf_data_group.specs.Grouped.{Promises}
use Rattle.ddf_history.specs.Groups.{Disk, groups, has_current}
use Rattle.ddf_history.specs.Issued.{IsSince, Past, acknowledge, issue, leave_out, take_off}
use Rattle.ddf_history.proofs.Lists.{get_more, get_taken, taken_get}
use Rattle.ddf_seats.specs.Group.{GroupValue}
use Rattle.ddf_recovery.specs.Recovery.{config_lost, config_recovered, loss, lost_step, mending_step, recovery_of}
use Rattle.ddf_seats.specs.Leading.{some}
use Rattle.ddf_steps.specs.Steps.{Step, raised}
use Rattle.ddf_plan.specs.Causes.{steps_of as change_steps}
use Rattle.ddf_history_steps.specs.Going.{Ends, IsUnderway, begun, changes_in, issue_all}
use Rattle.ddf_history_steps.specs.Steps.{recovery_changes}
use Rattle.ddf_history_steps.proofs.MembersKept.{change_from}
use Rattle.ddf_data_history.specs.Promised.{AreAlone, KeepsData, seats_in}
use Rattle.ddf_data_history.proofs.Steps.{by_acknowledge}
use Rattle.ddf_data_calls.specs.Calls.{AreMade, left_over}
use Rattle.ddf_data_calls.proofs.Gone.{goes_by}
use Rattle.ddf_data_calls.proofs.Issued.{ends_keep}

-- ---- the recovery

-- the last of changes behind a configuration
abbrev pub last_of : Configuration → List Configuration → Configuration
last_of config [] = config
last_of config (next ∷ others) = last_of next others

-- What the recovery issues: the loss of absent members, where there are some.
abbrev losses : GroupValue → List Configuration
losses native = if some native.absent then config_lost native ∷ [] else []

module _ (timestamp : ℕ) (native : GroupValue) (rises : some native.absent ≡ true → native.config.sequence < (config_lost native).sequence) where
  issues : recovery_changes timestamp native ≡ losses native
  unfolding recovery_of
  issues = by (some native.absent) refl (some native.lagging)
    where
      by : (absent : Bool) → some native.absent ≡ absent → (lagging : Bool)
          → changes_in native (option_to_list (if absent then Some (lost_step timestamp native) else if lagging then Some (mending_step timestamp native) else None)) ≡ (if absent then config_lost native ∷ [] else [])
      by true absent lagging =
          let more = rises absent in
          ap (λ (same : Bool). map (λ (step : Step). step.config) (cond (not same) (lost_step timestamp native ∷ []) []))
          (ne_eqb (config_lost native).sequence native.config.sequence (λ same. omega (arith, more, same)))
      by false present true =
          ap (λ (same : Bool). map (λ (step : Step). step.config) (cond (not same) (mending_step timestamp native ∷ []) [])) (eq-eqb native.config.sequence native.config.sequence refl)
      by false present false = refl

  -- It is what a change makes of what was found,
  pub recovery_made : (seats : Configuration → List Seat) (image : Image) (promises : Promises) → AreMade seats image promises native.config (recovery_changes timestamp native)
  recovery_made seats image promises = subst (AreMade seats image promises native.config) (sym issues) (by (some native.absent))
    where
      by : (absent : Bool) → AreMade seats image promises native.config (if absent then config_lost native ∷ [] else [])
      by true = (record { change = loss native; sequence = raised native.config.sequence (change_steps (loss native)); is_next = refl; may = tt }, tt)
      by false = tt

  -- and ends with the group as it is recovered.
  pub recovery_ends : last_of native.config (recovery_changes timestamp native) ≡ config_recovered native
  unfolding config_recovered
  recovery_ends = ap (last_of native.config) issues ∙ by (some native.absent)
    where
      by : (absent : Bool) → last_of native.config (if absent then config_lost native ∷ [] else []) ≡ (if absent then config_lost native else native.config)
      by true = refl
      by false = refl

  pub recovery_loses : some native.absent ≡ true → 1 ≤ length (recovery_changes timestamp native)
  recovery_loses absent = subst (λ (changes : List Configuration). 1 ≤ length changes) (sym issues) (by (some native.absent) absent)
    where
      by : (b : Bool) → b ≡ true → 1 ≤ length (if b then config_lost native ∷ [] else [])
      by true e = omega arith
      by false e = absurd cc

  -- None of it makes a disk a current member.
  pub recovery_members : (i : ℕ) (config : Configuration) → slice_get (recovery_changes timestamp native) i ≡ Some config → (disk : Disk) → has_current config disk ≡ true → has_current native.config disk ≡ true
  recovery_members i config at disk current = by (some native.absent) i (subst (λ (changes : List Configuration). slice_get changes i ≡ Some config) issues at)
    where
      by : (absent : Bool) (k : ℕ) → slice_get (if absent then config_lost native ∷ [] else []) k ≡ Some config → has_current native.config disk ≡ true
      by true zero here =
          let same : config_lost native ≡ config = cc in
          (change_from native.config (loss native)).no_more disk (subst (λ (one : Configuration). has_current one disk ≡ true) (sym same) current)
      by true (suc k) none = absurd cc
      by false k none = absurd cc

  -- So each current member of the group as it is recovered was one.
  pub recovered_members : (disk : Disk) → has_current (config_recovered native) disk ≡ true → has_current native.config disk ≡ true
  unfolding config_recovered
  recovered_members disk current = by (some native.absent) current
    where
      by : (absent : Bool) → has_current (if absent then config_lost native else native.config) disk ≡ true → has_current native.config disk ≡ true
      by true was = (change_from native.config (loss native)).no_more disk was
      by false was = was

-- ---- changes that are issued one after another

module _ (group : List ℕ) where
  issue_more : (past : Past (groups group)) (changes : List Configuration) (next : Configuration) → issue_all group past (changes ++ next ∷ []) ≡ issue (issue_all group past changes) next
  issue_more past [] next = refl
  issue_more past (first ∷ changes) next = issue_more (issue past first) changes next

  -- The last of them stands at the end, behind what stood so before and the others.
  last_there : (past : Past (groups group)) (number : ℕ) (config : Configuration) → slice_get past.changes.issued number ≡ Some config → (changes : List Configuration)
      → (n : ℕ) × (slice_get (issue_all group past changes).changes.issued n ≡ Some (last_of config changes)) × (number + length changes ≤ n)
  last_there past number config at [] = (number, at, omega arith)
  last_there past number config at (next ∷ others) =
      let within = slice_get_within past.changes.issued number config at in
      let rest = last_there (issue past next) (length past.changes.issued) next (get_last past.changes.issued next) others in
      (rest.0, rest.1, let more = rest.2 in omega (arith, within, more))

  -- Each issued change is one from before, or one of these.
  pub issued_from : (P : ℕ → Configuration → Type 0) (past : Past (groups group)) (changes : List Configuration) → ((n : ℕ) (config : Configuration) → slice_get past.changes.issued n ≡ Some config → P n config)
      → ((i : ℕ) (config : Configuration) → slice_get changes i ≡ Some config → (n : ℕ) → P n config)
      → (n : ℕ) (config : Configuration) → slice_get (issue_all group past changes).changes.issued n ≡ Some config → P n config
  issued_from P past [] before these n config at = before n config at
  issued_from P past (next ∷ others) before these n config at =
      issued_from P (issue past next) others
      (λ m one there. ⊎_elim (λ old. before m one old) (λ new. these 0 one (ap Some (sym new.1)) m) (get_more past.changes.issued next m one there))
      (λ i one there. these (suc i) one there) n config at

  module _ (past : Past (groups group)) (readable : ℕ → Bool) (native : GroupValue) (number : ℕ) where
    -- where the call goes on from
    pub begun_from : (n : ℕ) (config : Configuration) → slice_get (begun group past readable native number).changes.issued n ≡ Some config → slice_get past.changes.issued n ≡ Some config
    begun_from n config at = by (some native.absent) at
      where
        by : (absent : Bool) → slice_get (if absent then take_off (leave_out past readable native.config) number else take_off past number).changes.issued n ≡ Some config
            → slice_get past.changes.issued n ≡ Some config
        by true is = (get_taken past.changes.issued (number + 1) n config is).0
        by false is = (get_taken past.changes.issued (number + 1) n config is).0

    begun_there : (config : Configuration) → slice_get past.changes.issued number ≡ Some config → slice_get (begun group past readable native number).changes.issued number ≡ Some config
    begun_there config at = by (some native.absent)
      where
        by : (absent : Bool) → slice_get (if absent then take_off (leave_out past readable native.config) number else take_off past number).changes.issued number ≡ Some config
        by true = taken_get past.changes.issued (number + 1) number config at (omega arith)
        by false = taken_get past.changes.issued (number + 1) number config at (omega arith)

-- ---- a change behind others

module _ (group : List ℕ) (floor : ℕ → ℕ) (small : (slot : ℕ) → floor slot < 2 ^ 64) (image : Image) (promises : Promises) (past : Past (groups group)) (alone : AreAlone group past)
    (kept : KeepsData group past floor image promises) (readable : ℕ → Bool) (native : GroupValue) (first : List Configuration) (next : Configuration)
    (made : AreMade (seats_in group (left_over group past readable native) floor) image promises native.config first) (loses : some native.absent ≡ true → 1 ≤ length first)
    (joins : (middle : Past (groups group)) (number : ℕ) → IsSince middle.changes number (last_of native.config first) → KeepsData group middle floor image promises → KeepsData group (issue middle next) floor image promises) where
  first_keeps : (done : Bool) (now : Past (groups group)) → Ends group past readable native first done now → KeepsData group now floor image promises
  first_keeps done now ends = ends_keep group floor small image promises past alone kept readable native first made done now ends

  -- All of them are issued, and the first acknowledged.
  whole_keeps : (number : ℕ) → IsSince past.changes number native.config → (acked : ℕ) → number + length first ≤ acked
      → KeepsData group (acknowledge (issue_all group (begun group past readable native number) (first ++ next ∷ [])) acked) floor image promises
  whole_keeps number since acked late =
      let start = begun group past readable native number in
      let middle = acknowledge (issue_all group start first) (number + length first) in
      let middle_keeps : KeepsData group middle floor image promises = first_keeps true middle (record { number = number; since = since; is_now = refl }) in
      let last = last_there group start number native.config (begun_there group past readable native number native.config since.is_there) first in
      let behind = joins middle last.0 (let more = last.2 in record { late = omega (arith, more); is_there = last.1 }) middle_keeps in
      subst (λ (all : Past (groups group)). KeepsData group (acknowledge all acked) floor image promises) (sym (issue_more group start first next))
      (by_acknowledge group floor small (issue middle next) image promises behind acked late)

  -- Where the last one is issued the first are acknowledged.
  first_acked : (now : Past (groups group)) (way : IsUnderway group past readable native (first ++ next ∷ []) now) → length first < way.issued → way.number + length first ≤ way.acked
  first_acked now way all = ⊎_elim
      (λ none. absurd (omega (arith, all, none)))
      (λ others. ⊎_elim (λ turn. omega (arith, all, turn)) (λ loss. absurd (let least = loses loss.0 in let one = loss.1 in omega (arith, all, one, least))) others)
      way.in_turn

  -- However far the call came.
  pub all_keep : (done : Bool) (now : Past (groups group)) → Ends group past readable native (first ++ next ∷ []) done now → KeepsData group now floor image promises
  all_keep true now over =
      let long = length-append first (next ∷ []) in
      subst (λ (p : Past (groups group)). KeepsData group p floor image promises) (sym over.is_now)
      (whole_keeps over.number over.since (over.number + length (first ++ next ∷ [])) (omega (arith, long)))
  all_keep false now (inl same) = first_keeps false now (inl same)
  all_keep false now (inr way) =
      let long = length-append first (next ∷ []) in
      let few = way.few in
      ⊎_elim
      (λ all.
      let whole : take way.issued (first ++ next ∷ []) ≡ first ++ next ∷ [] =
      ap (λ (n : ℕ). take n (first ++ next ∷ [])) (let same : way.issued ≡ length (first ++ next ∷ []) = omega (arith, all, few, long) in same) ∙ take-length (first ++ next ∷ []) in
      subst (λ (p : Past (groups group)). KeepsData group p floor image promises) (sym (way.is_now
      ∙ ap (λ (changes : List Configuration). acknowledge (issue_all group (begun group past readable native way.number) changes) way.acked) whole))
      (whole_keeps way.number way.since way.acked (first_acked now way all)))
      (λ some_of.
      let within : way.issued ≤ length first = omega (arith, some_of) in
      first_keeps false now (goes_by group past readable native (first ++ next ∷ []) first now way within (take-append-le way.issued first (next ∷ []) within)))
      (cases_lt (length first) way.issued)
