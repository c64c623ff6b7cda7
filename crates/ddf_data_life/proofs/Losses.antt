-- Stops between calls and slots that are unplugged, over disks in memory.
use Rattle.std.proofs.Common.{◌≡◌, ◌∙◌, ℕ, ◌==◌, ◌<◌, Bool, true, false, List, length, sym, ap, subst}
use Rattle.std.proofs.Math.Path.{fun_ext}
use Rattle.std.specs.Prelude.{slice_index}
use Rattle.ddf_bay.specs.Memory.{MemoryState, disks_of, state_of, without}
use Rattle.ddf_bay.specs.Sectors.{Image, IsLeft}
use Rattle.ddf_bay.specs.declared.memory.MemoryBay.{MemoryBay}
use Rattle.ddf_config.specs.Configuration.{Configuration}
use Rattle.ddf_history.specs.Groups.{groups, has_missing}
use Rattle.ddf_history.specs.Issued.{IsSince, Past, give_back, lose}
use Rattle.ddf_history_steps.specs.Floors.{HasFloor}
use Rattle.ddf_history_memory.specs.Histories.{IsStopped}
use Rattle.ddf_history_memory.proofs.Stops as stops
use Rattle.ddf_data_events.specs.Events.{Resumes}
use Rattle.ddf_data_events.specs.Moments.{KeepsAll, Moment}
use Rattle.ddf_data_events.proofs.Floors.{by_image}
use Rattle.ddf_data_events.proofs.Happening.{lost_keeps, resumed, returned_keeps}
use Rattle.ddf_data_life.specs.Histories.{IsDataHistoryOn, behind, read_as}
use Rattle.ddf_data_life.proofs.Memory.{bays}

module _ (group : List ℕ) (old : Moment group MemoryBay) (all : IsDataHistoryOn group old) where
  -- ---- a stop

  module _ (cut : MemoryBay) (back : ℕ → Bool) (is : IsStopped old.bay cut back) (told : (disks_of cut).tells_left) where
    resumes : Resumes (disks_of old.bay) (disks_of cut) (IsLeft (disks_of old.bay).may_hold)
    resumes = record {
      tells_left = told;
      same_sizes = is.same_sizes;
      is_left = λ one left.
          let same : one ≡ (disks_of cut).held = fun_ext (λ s. fun_ext (λ l. is.settled s l (one s l) (left s l))) in
          subst (λ (image : Image). IsLeft (disks_of old.bay).may_hold image) (sym same) is.left;
    }

    -- What was kept is so, also for other slots that are away.
    keeps_then : (past : Past (groups group)) → KeepsAll disks_of (behind old past old.bay old.promises) → KeepsAll disks_of (behind old past cut old.promises)
    keeps_then past keeps =
        resumed {tells = Unit {0}} tt disks_of (Unit {0}) read_as group bays (behind old past old.bay old.promises) cut (IsLeft (disks_of old.bay).may_hold) resumes past old.promises keeps.shows keeps.keeps
        (by_image group disks_of bays past old.floor old.bay keeps.floored)

    pub stopped : ((slot : ℕ) → old.past.lost slot ≡ true → back slot ≡ false) → IsDataHistoryOn group (behind old old.past cut old.promises)
    stopped away =
        let keeps = keeps_then old.past all.keeps in
        record {
          history = record {
            kept = keeps.shows;
            same_slots = all.history.same_slots ∙ sym (ap length is.same_sizes);
            own = all.history.own;
            lost_gone = λ s there lost. is.still_gone s (away s lost) (all.history.lost_gone s (subst (λ (sizes : List ℕ). s < length sizes) is.same_sizes there) lost);
          };
          keeps = keeps;
        }

  pub come_back : (cut : MemoryBay) (slot : ℕ) → ((number : ℕ) (config : Configuration) → IsSince old.past.changes number config → has_missing config (old.past.disk slot) ≡ true)
      → IsStopped old.bay cut (λ other. other == slot) → (disks_of cut).tells_left → IsDataHistoryOn group (behind old (give_back old.past slot) cut old.promises)
  come_back cut slot missing is told = record {
    history = stops.come_back group old.past old.bay all.history cut slot missing is;
    keeps = keeps_then cut (λ other. other == slot) is told (give_back old.past slot)
        (returned_keeps {tells = Unit {0}} tt disks_of (Unit {0}) read_as group bays old all.keeps slot all.history.own missing);
  }

  -- ---- a slot is unplugged

  module _ (new : MemoryBay) (slot : ℕ) (is : state_of new ≡ without (state_of old.bay) slot) where
    same_sizes : (disks_of new).sizes ≡ (disks_of old.bay).sizes
    same_sizes = ap (λ (state : MemoryState). state.sizes) is

    same_sector : (s l : ℕ) (bytes : List ℕ) → (disks_of new).may_hold s l bytes → (disks_of old.bay).may_hold s l bytes
    same_sector s l bytes left =
        let clock : new.clock ≡ old.bay.clock = ap (λ (state : MemoryState). state.clock) is in
        let logged : new.log.logged.items ≡ old.bay.log.logged.items = ap (λ (state : MemoryState). state.logged) is in
        rw (clock, logged) at left

    pub unplugged : IsDataHistoryOn group (behind old old.past new old.promises)
    unplugged =
        let history = stops.unplugged group old.past old.bay new slot all.history is in
        record {
          history = history;
          keeps = record {
            shows = history.kept;
            keeps = λ image left. all.keeps.keeps image (λ s l. same_sector s l (image s l) (left s l));
            floored = λ s number config since stays current sector left.
                subst (λ (sizes : List ℕ). HasFloor (slice_index sizes s) sector (old.floor s)) (sym same_sizes)
                (all.keeps.floored s number config since stays current sector (λ l. same_sector s l (sector l) (left l)));
          };
        }

    pub lost : (disks_of new).gone slot → IsDataHistoryOn group (behind old (lose old.past slot) new old.promises)
    lost gone = record {
      history = stops.lost group old.past old.bay new slot all.history is gone;
      keeps = let still = unplugged in lost_keeps {tells = Unit {0}} tt disks_of (Unit {0}) read_as group bays (behind old old.past new old.promises) still.keeps slot all.history.own;
    }
