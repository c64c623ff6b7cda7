-- Each step of a history keeps the data of its group with what is staged.
use Rattle.std.proofs.Common.{◌≡◌, ◌∙◌, ⊎_elim, ℕ, zero, suc, ◌+◌, ◌<◌, ◌≤◌, ◌^◌, Bool, true, false, not, List, [], ◌∷◌, Option, Some, refl, sym, ap, subst, arith, slice_get, ◌&&◌}
use Rattle.std.specs.Prelude.{◌==◌, if◌then◌else◌}
use Rattle.std.specs.Map.{lookup}
use Rattle.std.proofs.lemmas.Bool.{cases_eq, ne_eqb}
use Rattle.ddf_lemmas.proofs.Options.{none_some}
use Rattle.ddf_lemmas.proofs.Tests.{and_second}
use Rattle.ddf_bay.specs.Sectors.{Image}
use Rattle.ddf_config.specs.Configuration.{Configuration}
use Rattle.ddf_config.specs.Members.{same_guid}
use Rattle.ddf_plan.specs.declared.change.Change.TheVariants.{Delete, Lose}
use Rattle.ddf_plan.specs.Changes.{changed_at}
use Rattle.ddf_data_array.specs.Allowed.{Allowed, once_written, while_written}
use Rattle.ddf_data_group.specs.Grouped.{Promises}
use Rattle.ddf_data_group.specs.Kept.{KeepsArray}
use Rattle.ddf_data_group.proofs.Entries.{guid_is}
use Rattle.ddf_history.specs.Groups.{groups, has_current, has_missing}
use Rattle.ddf_history.specs.Issued.{Past, IsSince, acknowledge, give_back, issue, take_off, with_slots}
use Rattle.ddf_history.proofs.Lists.{get_taken}
use Rattle.ddf_history.proofs.Sound.{groups_are_sound}
use Rattle.ddf_data_history.specs.Promised.{is_seat, with_promise}
use Rattle.ddf_data_history.specs.History.{Moment, IsDropped, IsLoss, IsReturn, IsSettling}
use Rattle.ddf_data_history.proofs.Steps.{step_keeps as plain_step_keeps}
use Rattle.ddf_stage_data.specs.Moments.{value_of}
use Rattle.ddf_stage_promise.specs.Closing.{LiePastFloors}
use Rattle.ddf_stage_promise.specs.Footing.{Footing}
use Rattle.ddf_stage_promise.specs.History.{IsAside, IsClosing, IsClosingAlone, IsCountedLost, IsDeleted, IsHistory, IsJoined, IsPlain, IsPromisedOver, IsStagedWrite, IsStep, IsUncounted, Keeps, KeepsShown}
use Rattle.ddf_stage_promise.specs.Staged.{KeepsStaged, NoneOpen, ShowsOne, laid_over, losing, seats_on}
use Rattle.ddf_stage_promise.proofs.Closing.{closing_keeps, closing_shows}
use Rattle.ddf_stage_promise.proofs.Deleting.{deleted_keeps, deleted_shows}
use Rattle.ddf_stage_promise.proofs.Desks.{desk_before, desk_of, to_desk}
use Rattle.ddf_stage_promise.proofs.Joining.{join_keeps}
use Rattle.ddf_stage_promise.proofs.Losing.{lost_keeps, lost_shows}
use Rattle.ddf_stage_promise.proofs.Plain.{closed_keeps, closed_shows}
use Rattle.ddf_stage_promise.proofs.Steps.{loss_keeps, plain_keeps, records_keep, records_show, return_keeps, shown_keep, shown_show, staged_keeps}
use Rattle.ddf_stage_promise.proofs.Writing.{writing_keeps, writing_shows, written_keeps}

module _ (group : List ℕ) (footing : Footing) (small : (slot : ℕ) → footing.floor slot < 2 ^ 64) (past_floors : LiePastFloors footing) where
  moved : (new : Moment group) (past : Past (groups group)) (image : Image) (promises : Promises) → new.past ≡ past → new.image ≡ image → new.promises ≡ promises → KeepsShown group footing past image promises → Keeps group footing new
  moved new past image promises a b c kept =
      subst (λ x. KeepsShown group footing x new.image new.promises) (sym a)
      (subst (λ x. KeepsShown group footing past x new.promises) (sym b) (subst (KeepsShown group footing past image) (sym c) kept))

  -- no gate that counts stands open: all show one thing
  none_shows : (past : Past (groups group)) (image : Image) → NoneOpen group footing past image → ShowsOne group footing past image
  none_shows past image none number config since j k one other staged shown at at' opens opens' = absurd (none_some _ staged (none number config since j one at) opens)

  -- ---- what was issued

  acknowledged_keeps : (past : Past (groups group)) (image : Image) (promises : Promises) (number : ℕ) → past.changes.acked ≤ number → KeepsShown group footing past image promises
      → KeepsShown group footing (acknowledge past number) image promises
  acknowledged_keeps past image promises number later kept =
      record {
        keeps = λ lost stay n config since. kept.keeps lost stay n config (record { late = omega (arith, later, since.late); is_there = since.is_there });
        shows = λ n config since. kept.shows n config (record { late = omega (arith, later, since.late); is_there = since.is_there });
      }

  taken_keeps : (past : Past (groups group)) (image : Image) (promises : Promises) (number : ℕ) → KeepsShown group footing past image promises → KeepsShown group footing (take_off past number) image promises
  taken_keeps past image promises number kept =
      record {
        keeps = λ lost stay n config since. kept.keeps lost stay n config (record { late = since.late; is_there = (get_taken past.changes.issued (number + 1) n config since.is_there).0 });
        shows = λ n config since. kept.shows n config (record { late = since.late; is_there = (get_taken past.changes.issued (number + 1) n config since.is_there).0 });
      }

  -- ---- slots

  loss_shows : (past : Past (groups group)) (image : Image) (lost returned : ℕ → Bool) → ((slot : ℕ) → past.lost slot ≡ true → lost slot ≡ true) → ShowsOne group footing past image
      → ShowsOne group footing (with_slots past lost returned) image
  loss_shows past image lost returned stay shows number config since j k one other staged shown at at' opens opens' =
      let was = desk_before group footing past config lost stay j one at in
      let was' = desk_before group footing past config lost stay k other at' in
      shows number config (record { late = since.late; is_there = since.is_there }) was.0 was'.0 one other staged shown was.1 was'.1 opens opens'

  module _ (past : Past (groups group)) (slot : ℕ) (missing : (number : ℕ) (config : Configuration) → IsSince past.changes number config → has_missing config (past.disk slot) ≡ true) where
    apart_same : (a b c : Bool) → b ≡ false → (not (a && not b) && c) ≡ true → (not a && c) ≡ true
    apart_same true true c e f = absurd (cc)
    apart_same true false c e f = absurd (cc)
    apart_same false b c e f = f

    seat_was : (number : ℕ) (config : Configuration) → IsSince past.changes number config → (s : ℕ) → is_seat group (give_back past slot) config s ≡ true → is_seat group past config s ≡ true
    seat_was number config since s is =
        ⊎_elim
        (λ on. absurd ((groups_are_sound group).not_both config (past.disk s) (and_second (not (past.lost s && not (s == slot))) (has_current config (past.disk s)) is)
        (ap (λ (k : ℕ). has_missing config (past.disk k)) on ∙ missing number config since)))
        (λ apart. apart_same (past.lost s) (s == slot) (has_current config (past.disk s)) (ne_eqb s slot apart) is) (cases_eq s slot)

    return_shows : (image : Image) → ShowsOne group footing past image → ShowsOne group footing (give_back past slot) image
    return_shows image shows number config since j k one other staged shown at at' opens opens' =
        let old : IsSince past.changes number config = record { late = since.late; is_there = since.is_there } in
        let of = desk_of group footing (give_back past slot) config j one at in
        let of' = desk_of group footing (give_back past slot) config k other at' in
        let was = to_desk group footing past config one.slot one.lba (seat_was number config old one.slot of.is_its) of.below of.is_gate in
        let was' = to_desk group footing past config other.slot other.lba (seat_was number config old other.slot of'.is_its) of'.below of'.is_gate in
        shows number config old was.0 was'.0 one other staged shown was.1 was'.1 opens opens'

  -- ---- steps

  module _ (old new : Moment group) (kept : Keeps group footing old) where
    plain : IsPlain group footing old new → Keeps group footing new
    plain is =
        let plainly = plain_keeps group footing small old.past old.image old.promises kept.keeps is.none in
        record {
          keeps = staged_keeps group footing small new.past new.image new.promises is.alone (plain_step_keeps group footing.floor small old new plainly is.step) is.none_behind;
          shows = none_shows new.past new.image is.none_behind;
        }

    settled : IsSettling group footing.floor old new → Keeps group footing new
    settled is =
        ⊎_elim
        (λ acks. moved new (acknowledge old.past is.number) old.image old.promises acks.1 is.same_image is.same_promises (acknowledged_keeps old.past old.image old.promises is.number acks.0 kept))
        (λ takes. moved new (take_off old.past is.number) old.image old.promises takes is.same_image is.same_promises (taken_keeps old.past old.image old.promises is.number kept)) is.how

    lost : IsLoss group footing.floor old new → Keeps group footing new
    lost is =
        moved new (with_slots old.past is.lost is.returned) old.image old.promises is.is_lost is.same_image is.same_promises
        (record {
          keeps = loss_keeps group footing small old.past old.image old.promises kept.keeps is.lost is.returned is.stay_lost;
          shows = loss_shows old.past old.image is.lost is.returned is.stay_lost kept.shows;
        })

    back : IsReturn group footing.floor old new → Keeps group footing new
    back is =
        moved new (give_back old.past is.slot) old.image old.promises is.is_back is.same_image is.same_promises
        (record {
          keeps = return_keeps group footing small old.past old.image old.promises kept.keeps is.slot is.is_missing;
          shows = return_shows old.past is.slot is.is_missing old.image kept.shows;
        })

    dropped : IsDropped group footing.floor old new → Keeps group footing new
    dropped is =
        subst (λ x. KeepsShown group footing x new.image new.promises) (sym is.same_past)
        (subst (λ x. KeepsShown group footing old.past x new.promises) (sym is.same_image)
        (record {
          keeps = λ lost stay number config since guid allowed array promised found. kept.keeps lost stay number config since guid allowed array (is.fewer guid allowed promised) found;
          shows = kept.shows;
        }))

    aside : IsAside group footing old new → Keeps group footing new
    aside is =
        moved new old.past new.image old.promises is.same_past refl is.same_promises
        (record {
          keeps = records_keep group footing small old.past old.image new.image is.are_sectors is.same old.promises kept.keeps;
          shows = records_show group footing small old.past old.image new.image is.are_sectors is.same old.promises kept.keeps kept.shows;
        })

    uncounted : IsUncounted group footing old new → Keeps group footing new
    uncounted is =
        moved new old.past new.image old.promises is.same_past refl is.same_promises
        (record {
          keeps = shown_keep group footing small old.past old.image new.image is.are_sectors is.same_below old.promises kept.keeps is.same_shown;
          shows = shown_show group footing small old.past old.image new.image is.are_sectors is.same_below old.promises kept.keeps is.same_shown kept.shows;
        })

    counted : IsCountedLost group footing old new → Keeps group footing new
    counted is =
        moved new (issue old.past (changed_at is.last (Lose is.references) is.sequence)) old.image old.promises is.is_issued is.same_image is.same_promises
        (record {
          keeps = lost_keeps group footing small old.past old.image is.are_sectors old.promises kept.keeps is.number is.last is.is_last is.references is.sequence is.rises is.known is.known_behind is.counts;
          shows = lost_shows group footing small old.past old.image is.are_sectors old.promises kept.keeps is.number is.last is.is_last is.references is.sequence is.rises is.known is.known_behind is.counts kept.shows;
        })

    deleted : IsDeleted group footing old new → Keeps group footing new
    deleted is =
        moved new (issue old.past (changed_at is.last (Delete is.gone) is.sequence)) old.image old.promises is.is_issued is.same_image is.same_promises
        (record {
          keeps = deleted_keeps group footing small old.past old.image is.are_sectors old.promises kept.keeps kept.shows is.number is.last is.is_last is.gone is.sequence is.rises is.known is.counts is.stays_viewed;
          shows = deleted_shows group footing small old.past old.image is.are_sectors old.promises kept.keeps kept.shows is.number is.last is.is_last is.gone is.sequence is.rises is.known is.counts is.stays_viewed;
        })

    joined : IsJoined group footing old new → Keeps group footing new
    joined is =
        moved new (issue old.past is.next) old.image old.promises is.is_issued is.same_image is.same_promises
        (record {
          keeps = join_keeps group footing small old.past old.image is.are_sectors old.promises kept.keeps is.none is.number is.last is.next is.is_last is.known is.all_stay is.shut;
          shows = is.shows_one;
        })

    begin_keeps : (is : IsPromisedOver group footing old new) → KeepsStaged group footing old.past old.image (with_promise old.promises is.guid (Some is.allowed))
    begin_keeps is lost stay number config since other allowed array promised found = by (same_guid is.guid other) refl promised
      where
        by : (b : Bool) → same_guid is.guid other ≡ b → ◌≡◌ {A = Option Allowed} (if b then Some is.allowed else old.promises other) (Some allowed)
            → KeepsArray config.members (seats_on group footing (losing group footing old.past lost) config) array (laid_over group footing (losing group footing old.past lost) number config old.image) allowed
        by true same e =
            let one = guid_is is.guid other same in
            let allowed_is : is.allowed ≡ allowed = cc in
            subst (KeepsArray config.members (seats_on group footing (losing group footing old.past lost) config) array (laid_over group footing (losing group footing old.past lost) number config old.image)) allowed_is
            (is.begins lost stay number config since array (ap (λ (g : List ℕ). lookup (same_guid g) config.arrays) one ∙ found))
        by false differs e = kept.keeps lost stay number config since other allowed array e found

    begun : IsPromisedOver group footing old new → Keeps group footing new
    begun is =
        moved new old.past old.image (with_promise old.promises is.guid (Some is.allowed)) is.same_past is.same_image is.are_promises (record { keeps = begin_keeps is; shows = kept.shows })

    written : IsStagedWrite group footing old new → Keeps group footing new
    written is =
        let shows = writing_shows group footing small past_floors old.past is.is_one.alone is.number is.config is.is_one.is_since is.known is.before new.image is.are_sectors is.promised is.before_kept is.none
        is.staged is.allowed is.is_promised is.volume is.is_viewed is.desks is.may is.is_moment is.is_one.only in
        ⊎_elim
        (λ while. moved new old.past new.image (with_promise is.promised is.staged.gate.array (Some (while_written is.allowed is.staged.gate.block (value_of is.staged ∷ [])))) is.same_past refl while
        (record {
          keeps = writing_keeps group footing small past_floors old.past is.is_one.alone is.number is.config is.is_one.is_since is.known is.before new.image is.are_sectors is.promised is.before_kept is.none
              is.staged is.allowed is.is_promised is.volume is.is_viewed is.desks is.may is.is_moment is.is_one.only;
          shows = shows;
        }))
        (λ once. moved new old.past new.image (with_promise is.promised is.staged.gate.array (Some (once_written is.allowed is.staged.gate.block (value_of is.staged ∷ [])))) is.same_past refl once.2
        (record {
          keeps = written_keeps group footing small past_floors old.past is.is_one.alone is.number is.config is.is_one.is_since is.known is.before new.image is.are_sectors is.promised is.before_kept is.none
              is.staged is.allowed is.is_promised is.volume is.is_viewed is.desks is.may is.is_moment once.0 once.1 is.is_one.only;
          shows = shows;
        }))
        is.how

    closed : IsClosing group footing old new → Keeps group footing new
    closed is =
        moved new old.past new.image old.promises is.same_past refl is.same_promises
        (record {
          keeps = closing_keeps group footing small past_floors old.past is.is_one.alone is.number is.config is.is_one.is_since is.known is.before new.image is.are_sectors old.promises is.before_keeps.keeps is.before_keeps.shows
              is.staged is.is_stage is.is_first is.volume is.is_viewed is.desks is.to_close is.is_moment is.is_one.only;
          shows = closing_shows group footing small past_floors old.past is.is_one.alone is.number is.config is.is_one.is_since is.known is.before new.image is.are_sectors old.promises is.before_keeps.keeps is.before_keeps.shows
              is.staged is.is_stage is.is_first is.volume is.is_viewed is.desks is.to_close is.is_moment is.is_one.only;
        })

    closed_alone : IsClosingAlone group footing old new → Keeps group footing new
    closed_alone is =
        moved new old.past new.image old.promises is.same_past refl is.same_promises
        (record {
          keeps = closed_keeps group footing small past_floors old.past is.is_one.alone is.number is.config is.is_one.is_since is.is_one.only is.before new.image is.are_sectors old.promises is.before_keeps.keeps
              is.before_keeps.shows is.staged is.is_stage is.is_first is.refusal is.is_refused is.desks is.among is.left;
          shows = closed_shows group footing small past_floors old.past is.is_one.alone is.number is.config is.is_one.is_since is.is_one.only is.before new.image is.are_sectors old.promises is.before_keeps.keeps
              is.before_keeps.shows is.staged is.is_stage is.is_first is.refusal is.is_refused is.desks is.among is.left;
        })

    pub step_keeps : IsStep group footing old new → Keeps group footing new
    step_keeps step =
        ⊎_elim (λ a. plain a) (λ b. ⊎_elim (λ a. settled a) (λ b. ⊎_elim (λ a. lost a) (λ b. ⊎_elim (λ a. back a) (λ b. ⊎_elim (λ a. dropped a) (λ b. ⊎_elim (λ a. aside a)
        (λ b. ⊎_elim (λ a. uncounted a) (λ b. ⊎_elim (λ a. counted a) (λ b. ⊎_elim (λ a. deleted a) (λ b. ⊎_elim (λ a. joined a) (λ b. ⊎_elim (λ a. begun a) (λ b. ⊎_elim (λ a. written a)
        (λ b. ⊎_elim (λ a. closed a) (λ a. closed_alone a) b) b) b) b) b) b) b) b) b) b) b) b) step

  pub history_keeps : (start : Moment group) (rest : List (Moment group)) → IsHistory group footing start rest → Keeps group footing start → (k : ℕ) (moment : Moment group) → slice_get (start ∷ rest) k ≡ Some moment
      → Keeps group footing moment
  history_keeps start rest history kept zero moment at = let same : start ≡ moment = cc in subst (Keeps group footing) same kept
  history_keeps start [] history kept (suc k) moment at = absurd (cc)
  history_keeps start (next ∷ rest) history kept (suc k) moment at = history_keeps next rest history.1 (step_keeps start next kept history.0) k moment at
