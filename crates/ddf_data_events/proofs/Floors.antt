-- The disks of members keep their floors through the calls of a history.
use Rattle.std.proofs.Common.{◌≡◌, ⊎_elim, ℕ, ◌==◌, Bool, true, false, List, Ok, if◌then◌else◌, refl, sym, ap, subst, arith}
use Rattle.std.proofs.lemmas.Bool.{eq-eqb, eqb-true}
use Rattle.std.proofs.Math.Path.{fun_ext}
use Rattle.std.specs.Prelude.{slice_index}
use Rattle.ddf_bay.specs.Moments.{StopsLeave}
use Rattle.ddf_bay.specs.Sectors.{Image, IsLeft}
use Rattle.ddf_bay.specs.State.{BayState}
use Rattle.ddf_plan.specs.declared.change.Change.{Change}
use Rattle.ddf_history.specs.Groups.{Disk, groups, has_current}
use Rattle.ddf_history.specs.Issued.{Past}
use Rattle.ddf_seats.specs.Group.{GroupValue}
use Rattle.ddf_recovery.specs.Ready.{readied}
use Rattle.ddf_steps.specs.Steps.{Step}
use Rattle.ddf_history_steps.specs.Floors.{HasFloor}
use Rattle.ddf_history_steps.specs.Going.{Ends, changes_in}
use Rattle.ddf_history_steps.proofs.SlotsKept.{ends_slots}
use Rattle.ddf_data_calls.specs.Floors.{AllHaveFloors, HaveFloors, HaveFloorsIn}
use Rattle.ddf_history_steps.proofs.MembersKept.{had}
use Rattle.ddf_data_events.proofs.Bays.{AreBays}

module _ (guid : List ℕ) where
  -- However far a call came, a member since then was one since before it.
  module _ (past now : Past (groups guid)) (readable : ℕ → Bool) (found : GroupValue) (asked : List Change) (timestamp : ℕ) (steps : List Step) (are : readied found asked timestamp ≡ Ok steps) where
    not_lost : (done : Bool) → Ends guid past readable found (changes_in found steps) done now → (slot : ℕ) → now.lost slot ≡ false → past.lost slot ≡ false
    not_lost done ends slot stays = by (past.lost slot) refl
      where
        by : (was : Bool) → past.lost slot ≡ was → past.lost slot ≡ false
        by true lost = absurd (let still = (ends_slots guid past readable found (changes_in found steps) done now ends).still_lost slot lost in not_both (now.lost slot) still stays)
          where
            not_both : (b : Bool) → b ≡ true → b ≡ false → ⊥
            not_both b x y = cc
        by false lost = lost

    pub floors_go : (done : Bool) → Ends guid past readable found (changes_in found steps) done now → (sizes : List ℕ) (image : Image) (floor : ℕ → ℕ) → HaveFloorsIn guid past sizes image floor
        → HaveFloorsIn guid now sizes image floor
    floors_go done ends sizes image floor has slot number config since stays current =
        let was = had guid past now readable found asked timestamp steps are done ends number config since in
        let same = (ends_slots guid past readable found (changes_in found steps) done now ends).same_disks in
        has slot was.number was.earlier was.since (not_lost done ends slot stays)
        (was.within.no_more (past.disk slot) (subst (λ (disk : ℕ → Disk). has_current config (disk slot) ≡ true) same current))

  module _ {B : Type 0} (disks : B → BayState B) (are : AreBays disks) where
    -- ---- one slot, and an image of all

    -- the slot with these sectors, beside what the disks hold
    mixed : B → (slot : ℕ) → (sector : ℕ → List ℕ) → Image
    mixed bay slot sector s l = if s == slot then sector l else (disks bay).held s l

    mixed_here : (bay : B) (slot : ℕ) (sector : ℕ → List ℕ) → mixed bay slot sector slot ≡ sector
    unfolding mixed
    mixed_here bay slot sector = fun_ext (λ (l : ℕ). ap (λ (b : Bool). if b then sector l else (disks bay).held slot l) (eq-eqb slot slot refl))

    mixed_left : (bay : B) → (disks bay).tells_left → (slot : ℕ) (sector : ℕ → List ℕ) → ((l : ℕ) → (disks bay).may_hold slot l (sector l)) → IsLeft (disks bay).may_hold (mixed bay slot sector)
    unfolding mixed
    mixed_left bay tells_left slot sector left s l = by (s == slot) refl
      where
        by : (b : Bool) → (s == slot) ≡ b → (disks bay).may_hold s l (if b then sector l else (disks bay).held s l)
        by true is = subst (λ (n : ℕ). (disks bay).may_hold n l (sector l)) (sym (eqb-true s slot is)) (left l)
        by false is = (are bay).held tells_left s l

    -- Where each image that may be left has the floors, each slot has its own by whatever may be left of it,
    pub by_slots : (past : Past (groups guid)) (floor : ℕ → ℕ) (bay : B) → (disks bay).tells_left → (sizes : List ℕ) → (disks bay).sizes ≡ sizes
        → ((image : Image) → IsLeft (disks bay).may_hold image → HaveFloorsIn guid past sizes image floor) → AllHaveFloors guid past (disks bay) floor
    by_slots past floor bay tells_left sizes same has slot number config since stays current sector left =
        subst (λ (all : List ℕ). HasFloor (slice_index all slot) sector (floor slot)) (sym same)
        (subst (λ (one : ℕ → List ℕ). HasFloor (slice_index sizes slot) one (floor slot)) (mixed_here bay slot sector)
        (has (mixed bay slot sector) (mixed_left bay tells_left slot sector left) slot number config since stays current))

    -- and back.
    pub by_image : (past : Past (groups guid)) (floor : ℕ → ℕ) (bay : B) → AllHaveFloors guid past (disks bay) floor → (image : Image) → IsLeft (disks bay).may_hold image
        → HaveFloorsIn guid past (disks bay).sizes image floor
    by_image past floor bay has image left slot number config since stays current = has slot number config since stays current (image slot) (left slot)

    pub by_held : (past : Past (groups guid)) (floor : ℕ → ℕ) (bay : B) → AllHaveFloors guid past (disks bay) floor → (disks bay).tells_left → HaveFloors guid past (disks bay) floor
    by_held past floor bay has tells_left = by_image past floor bay has (disks bay).held ((are bay).held tells_left)

    -- What a stop left since a call's entry has them where each image on its way has.
    pub since_entry : (past : Past (groups guid)) (floor : ℕ → ℕ) (old exit : B) → AllHaveFloors guid past (disks old) floor
        → StopsLeave (disks old) (disks exit) (λ image. HaveFloorsIn guid past (disks old).sizes image floor)
        → (image : Image) → (disks exit).left_since (disks old).moment image → HaveFloorsIn guid past (disks old).sizes image floor
    since_entry past floor old exit has way image was_left =
        ⊎_elim (λ before. by_image past floor old has image ((are old).only_now image before)) (λ now. now) (way.since (disks old).moment image (omega arith) was_left)
