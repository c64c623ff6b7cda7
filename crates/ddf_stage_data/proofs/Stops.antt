-- An image that a stop leaves while a block is staged, or written from its stage, comes from one that might be left before.
use Rattle.std.proofs.Common.{◌≡◌, ◌∙◌, ◌⊎◌, inl, inr, ⊎_elim, ℕ, zero, suc, ◌+◌, ◌-◌, ◌<◌, ◌≤◌, Bool, true, false, not, List, [], ◌∷◌, Option, Some, None, refl, sym, ap, subst, arith, slice_get}
use Rattle.std.specs.Prelude.{slice_index_or, if◌then◌else◌}
use Rattle.std.proofs.lemmas.Bool.{false≢true}
use Rattle.ddf_lemmas.proofs.Options.{some_is}
use Rattle.ddf_bay.specs.Sectors.{Image, Outcomes, InRun, IsLeft}
use Rattle.ddf_stage.specs.declared.desk.Desk.{Desk}
use Rattle.ddf_stage.specs.declared.desk.StageCell.{StageCell}
use Rattle.ddf_stage.specs.declared.desk.Staged.{Staged}
use Rattle.ddf_stage.specs.declared.gate.Gate.{Gate}
use Rattle.ddf_stage.specs.Gate.{gate_bytes, opened}
use Rattle.ddf_stage.specs.Laid.{names_one, on_desk, sectors_from, staged_behind}
use Rattle.ddf_stage.specs.Desks.{HasDesk, HaveOwnSlots, IsGateAt, IsPayload}
use Rattle.ddf_stage.specs.Staging.{AreOffDesks, AreSettled, ClosedGates, Either, Giving, IsAmong, IsBetween, IsCell, IsThere, OpenGates}
use Rattle.ddf_stage.proofs.Gates.{opened_closed, opened_is, opened_open}
use Rattle.ddf_stage_data.specs.Moments.{AllOpen, IsBehindOpen, IsDeskSector, IsStage, is_shut}
use Rattle.ddf_stage_data.specs.Stops.{AreShut, ComesAgain, ComesFrom, IsStagedBehind, MayStageAgain}

-- the sector of an image from before: as it is where it was left, or as it was held
abbrev pub before_of : {P Q : Type 0} → List ℕ → List ℕ → P ⊎ Q → List ℕ
before_of now base (inl was) = now
before_of now base (inr given) = base

left_of : {Q : Type 0} (P : List ℕ → Type 0) (now base : List ℕ) (case : P now ⊎ Q) → P base → P (before_of now base case)
left_of P now base (inl was) left = was
left_of P now base (inr given) left = left

same_of : {P Q : Type 0} (now base : List ℕ) (case : P ⊎ Q) → (now ≡ before_of now base case) ⊎ Q
same_of now base (inl was) = inl refl
same_of now base (inr given) = inr given

-- a gate's only sector
gate_is : (desk : Desk) (gate : List ℕ) (l : ℕ) (bytes : List ℕ) → InRun (desk.lba + 0) (gate ∷ []) l bytes → (l ≡ desk.lba) × (bytes ≡ gate)
gate_is desk gate l bytes run =
    let at : l ≡ desk.lba = omega (arith, run.from, run.below) in
    let none : l - (desk.lba + 0) ≡ 0 = omega (arith, at) in
    (at, run.are ∙ ap (λ (n : ℕ). slice_index_or (gate ∷ []) n []) none)

gate_here : (desks : List Desk) (gate : List ℕ) (k : ℕ) (desk : Desk) → slice_get desks k ≡ Some desk → IsGateAt desks gate desk.slot desk.lba gate
gate_here desks gate k desk at =
    let none : desk.lba - (desk.lba + 0) ≡ 0 = omega arith in
    record {
      number = k;
      desk = desk;
      is_desk = at;
      on_slot = refl;
      in_run = record { from = omega arith; below = omega arith; are = ap (λ (n : ℕ). slice_index_or (gate ∷ []) n []) (sym none) };
    }

-- a gate that is no open one, or names none of the arrays
names_out : (arrays : List (List ℕ)) (sector : List ℕ) (o : Option Gate) → opened sector ≡ o → ◌≡◌ {A = Bool} (elim o [ None ↦ true | Some gate ↦ not (names_one arrays gate) ]) true → is_shut arrays sector ≡ true
names_out arrays sector o is e = ap (λ (p : Option Gate). elim p [ None ↦ true | Some gate ↦ not (names_one arrays gate) ]) is ∙ e

-- ---- what a desk shows

pub record IsOpenBefore (image : Image) (desk : Desk) (staged : Staged) : Type 0 where
  pub gate : image desk.slot desk.lba ≡ gate_bytes true staged.gate
  pub behind : (i : ℕ) → i < 17 → image desk.slot (desk.lba + 1 + i) ≡ slice_index_or staged.sectors i []

from_at : (held : ℕ → List ℕ) (a n i : ℕ) → i < n → slice_index_or (sectors_from held a n) i [] ≡ held (a + i)
from_at held a zero i below = absurd (omega (arith, below))
from_at held a (suc n) zero below = let zeroth : a ≡ a + 0 = omega arith in ap held zeroth
from_at held a (suc n) (suc i) below = let next : a + 1 + i ≡ a + suc i = omega arith in from_at held (a + 1) n i (omega (arith, below)) ∙ ap held next

pub open_before : (arrays : List (List ℕ)) (image : Image) (desk : Desk) (staged : Staged) → on_desk arrays image desk ≡ Some staged → IsOpenBefore image desk staged
open_before arrays image desk staged e = by (opened (image desk.slot desk.lba)) refl e
  where
    by_name : (gate : Gate) (b : Bool) → opened (image desk.slot desk.lba) ≡ Some gate → ◌≡◌ {A = Option Staged} (if b then Some (staged_behind image desk gate) else None) (Some staged) → IsOpenBefore image desk staged
    by_name gate true is e =
        let same : staged_behind image desk gate ≡ staged = some_is e in
        let gates : gate ≡ staged.gate = ap (λ (x : Staged). x.gate) same in
        record {
          gate = (opened_is (image desk.slot desk.lba) gate is).1 ∙ ap (gate_bytes true) gates;
          behind = λ i below.
              sym (from_at (image desk.slot) (desk.lba + 1) 17 i below) ∙ ap (λ (x : Staged). slice_index_or x.sectors i []) same;
        }
    by_name gate false is e = absurd (cc)

    by : (o : Option Gate) → opened (image desk.slot desk.lba) ≡ o
        → ◌≡◌ {A = Option Staged} (elim o [ None ↦ None | Some gate ↦ if names_one arrays gate then Some (staged_behind image desk gate) else None ]) (Some staged) → IsOpenBefore image desk staged
    by None is e = absurd (cc)
    by (Some gate) is e = by_name gate (names_one arrays gate) is e

module _ (arrays : List (List ℕ)) (desks : List Desk) (own : HaveOwnSlots desks) (staged : Staged) (is_stage : IsStage staged) (cells : List StageCell) where
  payload_sector : (s l : ℕ) (bytes : List ℕ) → IsPayload desks staged s l bytes → IsDeskSector desks s l
  payload_sector s l bytes on =
      record { number = on.number; desk = on.desk; is_desk = on.is_desk; on_slot = on.on_slot; from = omega (arith, on.in_run.from); below = omega (arith, on.in_run.below, is_stage.sectors) }

  gate_sector : (gate : List ℕ) (s l : ℕ) (bytes : List ℕ) → IsGateAt desks gate s l bytes → IsDeskSector desks s l
  gate_sector gate s l bytes on =
      record { number = on.number; desk = on.desk; is_desk = on.is_desk; on_slot = on.on_slot; from = omega (arith, on.in_run.from); below = omega (arith, on.in_run.below) }

  -- what is behind a gate isn't it
  no_payload : (k : ℕ) (desk : Desk) (bytes : List ℕ) → slice_get desks k ≡ Some desk → IsPayload desks staged desk.slot desk.lba bytes → ⊥
  no_payload k desk bytes at on =
      let same : k ≡ on.number = own k on.number desk on.desk at on.is_desk on.on_slot in
      let is : desk ≡ on.desk = some_is (sym at ∙ ap (slice_get desks) same ∙ on.is_desk) in
      let lba : desk.lba ≡ on.desk.lba = ap (λ (d : Desk). d.lba) is in
      omega (arith, on.in_run.from, lba)

  gate_of : (gate : List ℕ) (k : ℕ) (desk : Desk) (bytes : List ℕ) → slice_get desks k ≡ Some desk → IsGateAt desks gate desk.slot desk.lba bytes → bytes ≡ gate
  gate_of gate k desk bytes at on = (gate_is on.desk gate desk.lba bytes on.in_run).1

  -- the sectors of a run behind a gate are what is staged
  at_payload : (k i : ℕ) (desk : Desk) → slice_get desks k ≡ Some desk → i < 17 → IsPayload desks staged desk.slot (desk.lba + 1 + i) (slice_index_or staged.sectors i [])
  at_payload k i desk at below =
      let offset : desk.lba + 1 + i - (desk.lba + 1) ≡ i = omega arith in
      record {
        number = k;
        desk = desk;
        is_desk = at;
        on_slot = refl;
        in_run = record { from = omega arith; below = omega (arith, below, is_stage.sectors); are = ap (λ (m : ℕ). slice_index_or staged.sectors m []) (sym offset) };
      }

  all_behind : (image : Image) → IsThere (IsPayload desks staged) image → IsBehindOpen desks staged image
  all_behind image there k i desk at opens below = there desk.slot (desk.lba + 1 + i) (slice_index_or staged.sectors i []) (at_payload k i desk at below)

  -- what is given there is what is staged there
  given_is : (k i : ℕ) (desk : Desk) (bytes : List ℕ) → slice_get desks k ≡ Some desk → i < 17 → IsPayload desks staged desk.slot (desk.lba + 1 + i) bytes → bytes ≡ slice_index_or staged.sectors i []
  given_is k i desk bytes at below on =
      let same : k ≡ on.number = own k on.number desk on.desk at on.is_desk on.on_slot in
      let is : desk ≡ on.desk = some_is (sym at ∙ ap (slice_get desks) same ∙ on.is_desk) in
      let lba : desk.lba ≡ on.desk.lba = ap (λ (d : Desk). d.lba) is in
      let offset : desk.lba + 1 + i - (on.desk.lba + 1) ≡ i = omega (arith, lba) in
      on.in_run.are ∙ ap (λ (m : ℕ). slice_index_or staged.sectors m []) offset

  -- a gate isn't behind one
  no_gate : (k i : ℕ) (desk : Desk) (gate bytes : List ℕ) → slice_get desks k ≡ Some desk → IsGateAt desks gate desk.slot (desk.lba + 1 + i) bytes → ⊥
  no_gate k i desk gate bytes at on =
      let same : k ≡ on.number = own k on.number desk on.desk at on.is_desk on.on_slot in
      let is : desk ≡ on.desk = some_is (sym at ∙ ap (slice_get desks) same ∙ on.is_desk) in
      let lba : desk.lba ≡ on.desk.lba = ap (λ (d : Desk). d.lba) is in
      omega (arith, on.in_run.below, lba)

  closed_shut : is_shut arrays (gate_bytes false staged.gate) ≡ true
  closed_shut = names_out arrays (gate_bytes false staged.gate) None (opened_closed staged.gate is_stage.is_gate) refl

  -- ---- while it is staged

  module _ (may : Outcomes) (held image : Image) (left : IsLeft may held) (shut : AreShut arrays desks may) where
    -- before the gates
    first_comes : IsAmong (IsPayload desks staged) may image → ComesFrom arrays desks staged cells may image
    first_comes among =
        let before : Image = λ s l. before_of (image s l) (held s l) (among s l) in
        record {
          before = before;
          is_left = λ s l. left_of (may s l) (image s l) (held s l) (among s l) (left s l);
          moment = inl (record {
            others = λ s l. same_of (image s l) (held s l) (among s l);
            gates = λ k desk at.
                ⊎_elim (λ was. shut k desk (image desk.slot desk.lba) at was) (λ given. absurd (no_payload k desk (image desk.slot desk.lba) at given)) (among desk.slot desk.lba);
          });
        }

    -- once what is staged is there
    then_comes : IsThere (IsPayload desks staged) image → IsAmong (Either (IsPayload desks staged) (OpenGates desks staged)) may image → ComesFrom arrays desks staged cells may image
    then_comes there among =
        let before : Image = λ s l. before_of (image s l) (held s l) (among s l) in
        let on_a_desk : (s l : ℕ) → (image s l ≡ before s l) ⊎ IsDeskSector desks s l =
        λ s l. ⊎_elim inl (λ given. inr (⊎_elim (λ payload. payload_sector s l (image s l) payload) (λ gate. gate_sector (gate_bytes true staged.gate) s l (image s l) gate) given))
        (same_of (image s l) (held s l) (among s l)) in
        record {
          before = before;
          is_left = λ s l. left_of (may s l) (image s l) (held s l) (among s l) (left s l);
          moment = inr (record {
            payload = all_behind image there;
            gates = λ k desk at.
                ⊎_elim (λ was. inr (shut k desk (image desk.slot desk.lba) at was))
                (⊎_elim (λ payload. absurd (no_payload k desk (image desk.slot desk.lba) at payload)) (λ gate. inl (gate_of (gate_bytes true staged.gate) k desk (image desk.slot desk.lba) at gate)))
                (among desk.slot desk.lba);
            others = λ s l. ⊎_elim inl (λ desk. inr (inl desk)) (on_a_desk s l);
            phase = inl (
              on_a_desk,
              λ k desk at opens.
                  ⊎_elim (λ same. same ∙ opens)
                  (⊎_elim (λ payload. absurd (no_payload k desk (image desk.slot desk.lba) at payload)) (λ gate. gate_of (gate_bytes true staged.gate) k desk (image desk.slot desk.lba) at gate))
                  (same_of (image desk.slot desk.lba) (held desk.slot desk.lba) (among desk.slot desk.lba)),
            );
          });
        }

    pub stage_comes : IsBetween (IsPayload desks staged) (OpenGates desks staged) may image → ComesFrom arrays desks staged cells may image
    stage_comes (inl among) = first_comes among
    stage_comes (inr there) = then_comes there.0 there.1

  -- ---- while it is staged again

  module _ (names : names_one arrays staged.gate ≡ true) (may : Outcomes) (held image : Image) (left : IsLeft may held) (ready : MayStageAgain arrays desks staged may held) where
    -- a gate that stood open did so before what is staged
    stood_open : (k : ℕ) (desk : Desk) → slice_get desks k ≡ Some desk → held desk.slot desk.lba ≡ gate_bytes true staged.gate → IsOpenBefore held desk staged
    stood_open k desk at opens =
        ⊎_elim (λ on. open_before arrays held desk staged on)
        (λ shut. absurd (false≢true (sym open_names ∙ ap (is_shut arrays) (sym opens) ∙ shut)))
        (ready.stands k desk at)
      where
        open_names : is_shut arrays (gate_bytes true staged.gate) ≡ false
        open_names =
            ap (λ (p : Option Gate). elim p [ None ↦ true | Some gate ↦ not (names_one arrays gate) ]) (opened_open staged.gate is_stage.is_gate) ∙ ap not names

    module _ (among : IsAmong (Either (IsPayload desks staged) (OpenGates desks staged)) may image)
        (there : (k : ℕ) (desk : Desk) → slice_get desks k ≡ Some desk → IsGateAt desks (gate_bytes true staged.gate) desk.slot desk.lba (image desk.slot desk.lba) → (i : ℕ) → i < 17
        → image desk.slot (desk.lba + 1 + i) ≡ slice_index_or staged.sectors i []) where
      abbrev again_before : Image
      again_before s l = before_of (image s l) (held s l) (among s l)

      on_a_desk : (s l : ℕ) → (image s l ≡ again_before s l) ⊎ IsDeskSector desks s l
      on_a_desk s l =
          ⊎_elim inl (λ given. inr (⊎_elim (λ payload. payload_sector s l (image s l) payload) (λ gate. gate_sector (gate_bytes true staged.gate) s l (image s l) gate) given))
          (same_of (image s l) (held s l) (among s l))

      behind_open : IsBehindOpen desks staged image
      behind_open k i desk at opens below =
          ⊎_elim
          (λ was.
          let stood = stood_open k desk at (sym (ready.settled k desk at desk.lba (image desk.slot desk.lba) was) ∙ opens) in
          ⊎_elim
          (λ now. ready.settled k desk at (desk.lba + 1 + i) (image desk.slot (desk.lba + 1 + i)) now ∙ stood.behind i below)
          (⊎_elim (λ payload. given_is k i desk (image desk.slot (desk.lba + 1 + i)) at below payload)
          (λ gate. absurd (no_gate k i desk (gate_bytes true staged.gate) (image desk.slot (desk.lba + 1 + i)) at gate)))
          (among desk.slot (desk.lba + 1 + i)))
          (⊎_elim (λ payload. absurd (no_payload k desk (image desk.slot desk.lba) at payload)) (λ gate. there k desk at gate i below))
          (among desk.slot desk.lba)

      gates_stand : (k : ℕ) (desk : Desk) → slice_get desks k ≡ Some desk → (image desk.slot desk.lba ≡ gate_bytes true staged.gate) ⊎ (is_shut arrays (image desk.slot desk.lba) ≡ true)
      gates_stand k desk at =
          ⊎_elim
          (λ was.
          let same = ready.settled k desk at desk.lba (image desk.slot desk.lba) was in
          ⊎_elim (λ on. inl (same ∙ (open_before arrays held desk staged on).gate)) (λ shut. inr (ap (is_shut arrays) same ∙ shut)) (ready.stands k desk at))
          (⊎_elim (λ payload. absurd (no_payload k desk (image desk.slot desk.lba) at payload)) (λ gate. inl (gate_of (gate_bytes true staged.gate) k desk (image desk.slot desk.lba) at gate)))
          (among desk.slot desk.lba)

      again_by : ComesAgain arrays desks staged cells may image
      again_by = record {
        before = again_before;
        is_left = λ s l. left_of (may s l) (image s l) (held s l) (among s l) (left s l);
        moment = record {
          payload = behind_open;
          gates = gates_stand;
          others = λ s l. ⊎_elim inl (λ desk. inr (inl desk)) (on_a_desk s l);
          phase = inl (
            on_a_desk,
            λ k desk at opens.
                ⊎_elim (λ same. same ∙ opens)
                (⊎_elim (λ payload. absurd (no_payload k desk (image desk.slot desk.lba) at payload)) (λ gate. gate_of (gate_bytes true staged.gate) k desk (image desk.slot desk.lba) at gate))
                (same_of (image desk.slot desk.lba) (held desk.slot desk.lba) (among desk.slot desk.lba)),
          );
        };
      }

    pub again_comes : IsBetween (IsPayload desks staged) (OpenGates desks staged) may image → ComesAgain arrays desks staged cells may image
    again_comes (inl among) =
        again_by (λ s l. ⊎_elim inl (λ payload. inr (inl payload)) (among s l))
        (λ k desk at gate i below.
        ⊎_elim
        (λ was. absurd_open k desk at was gate i below)
        (λ payload. absurd (no_payload k desk (image desk.slot desk.lba) at payload)) (among desk.slot desk.lba))
      where
        -- a gate that is as it was, and an open one, stood open
        absurd_open : (k : ℕ) (desk : Desk) → slice_get desks k ≡ Some desk → may desk.slot desk.lba (image desk.slot desk.lba) → IsGateAt desks (gate_bytes true staged.gate) desk.slot desk.lba (image desk.slot desk.lba)
            → (i : ℕ) → i < 17 → image desk.slot (desk.lba + 1 + i) ≡ slice_index_or staged.sectors i []
        absurd_open k desk at was gate i below =
            let opens = gate_of (gate_bytes true staged.gate) k desk (image desk.slot desk.lba) at gate in
            let stood = stood_open k desk at (sym (ready.settled k desk at desk.lba (image desk.slot desk.lba) was) ∙ opens) in
            ⊎_elim
            (λ now. ready.settled k desk at (desk.lba + 1 + i) (image desk.slot (desk.lba + 1 + i)) now ∙ stood.behind i below)
            (λ payload. given_is k i desk (image desk.slot (desk.lba + 1 + i)) at below payload) (among desk.slot (desk.lba + 1 + i))
    again_comes (inr there) = again_by there.1 (λ k desk at gate i below. there.0 desk.slot (desk.lba + 1 + i) (slice_index_or staged.sectors i []) (at_payload k i desk at below))

  -- ---- once gates are closed

  pub closed_are_shut : (may : Outcomes) (held : Image) → IsThere (ClosedGates desks staged) held → AreSettled (HasDesk desks) may held → AreShut arrays desks may
  closed_are_shut may held there settled k desk bytes at now =
      ap (is_shut arrays)
      (settled desk.slot (record { number = k; desk = desk; is_desk = at; on_slot = refl }) desk.lba bytes now
      ∙ there desk.slot desk.lba (gate_bytes false staged.gate) (gate_here desks (gate_bytes false staged.gate) k desk at))
      ∙ closed_shut

  -- ---- while it is written from the stage

  module _ (off : AreOffDesks desks cells) (old may : Outcomes) (held_old held image : Image) (left : IsLeft old held_old) (behind : IsStagedBehind desks staged old may held) where
    -- a cell isn't a sector of a desk
    no_cell : (k : ℕ) (desk : Desk) (l : ℕ) (bytes : List ℕ) → slice_get desks k ≡ Some desk → desk.lba ≤ l → l < desk.lba + 18 → IsCell cells staged desk.slot l bytes → ⊥
    no_cell k desk l bytes at low high cell =
        ⊎_elim (λ under. omega (arith, under, low, cell.at)) (λ over. omega (arith, over, high, cell.at)) (off cell.number k cell.cell desk cell.is_cell at (sym cell.on_slot))

    open_held : (k : ℕ) (desk : Desk) → slice_get desks k ≡ Some desk → held desk.slot desk.lba ≡ gate_bytes true staged.gate
    open_held k desk at = behind.gates desk.slot desk.lba (gate_bytes true staged.gate) (gate_here desks (gate_bytes true staged.gate) k desk at)

    desk_of : (k : ℕ) (desk : Desk) → slice_get desks k ≡ Some desk → HasDesk desks desk.slot
    desk_of k desk at = record { number = k; desk = desk; is_desk = at; on_slot = refl }

    module _ (Then : Giving) (then_gate : (s l : ℕ) (bytes : List ℕ) → Then s l bytes → IsGateAt desks (gate_bytes false staged.gate) s l bytes)
        (among : (s l : ℕ) → may s l (image s l) ⊎ (IsCell cells staged s l (image s l) ⊎ Then s l (image s l)))
        (phase : AllOpen desks staged image ⊎ IsThere (IsCell cells staged) image) where
      widened : (s l : ℕ) → old s l (image s l) ⊎ (IsDeskSector desks s l ⊎ IsCell cells staged s l (image s l))
      widened s l =
          ⊎_elim
          (λ now. ⊎_elim inl
          (λ given. inr (inl (⊎_elim (λ payload. payload_sector s l (image s l) payload) (λ gate. gate_sector (gate_bytes true staged.gate) s l (image s l) gate) given)))
          (behind.adds s l (image s l) now))
          (⊎_elim (λ cell. inr (inr cell)) (λ gated. inr (inl (gate_sector (gate_bytes false staged.gate) s l (image s l) (then_gate s l (image s l) gated)))))
          (among s l)

      payload_there : IsThere (IsPayload desks staged) image
      payload_there s l bytes on =
          ⊎_elim
          (λ now. behind.settled s (record { number = on.number; desk = on.desk; is_desk = on.is_desk; on_slot = on.on_slot }) l (image s l) now ∙ behind.payload s l bytes on)
          (⊎_elim
          (λ cell. absurd (no_cell on.number on.desk l (image s l) on.is_desk (omega (arith, on.in_run.from)) (omega (arith, on.in_run.below, is_stage.sectors)) (subst (λ (n : ℕ). IsCell cells staged n l (image s l)) on.on_slot cell)))
          (λ gated.
          let gate = then_gate s l (image s l) gated in
          let same : gate.number ≡ on.number = own gate.number on.number gate.desk on.desk gate.is_desk on.is_desk (sym gate.on_slot ∙ on.on_slot) in
          let is : gate.desk ≡ on.desk = some_is (sym gate.is_desk ∙ ap (slice_get desks) same ∙ on.is_desk) in
          let lba : gate.desk.lba ≡ on.desk.lba = ap (λ (d : Desk). d.lba) is in
          absurd (omega (arith, on.in_run.from, gate.in_run.below, lba))))
          (among s l)

      gate_there : (k : ℕ) (desk : Desk) → slice_get desks k ≡ Some desk → (image desk.slot desk.lba ≡ gate_bytes true staged.gate) ⊎ (is_shut arrays (image desk.slot desk.lba) ≡ true)
      gate_there k desk at =
          ⊎_elim
          (λ now. inl (behind.settled desk.slot (desk_of k desk at) desk.lba (image desk.slot desk.lba) now ∙ open_held k desk at))
          (⊎_elim
          (λ cell. absurd (no_cell k desk desk.lba (image desk.slot desk.lba) at (omega arith) (omega arith) cell))
          (λ gated.
          let gate = gate_of (gate_bytes false staged.gate) k desk (image desk.slot desk.lba) at (then_gate desk.slot desk.lba (image desk.slot desk.lba) gated) in
          inr (ap (is_shut arrays) gate ∙ closed_shut)))
          (among desk.slot desk.lba)

      pub comes : ComesAgain arrays desks staged cells old image
      comes = record {
        before = λ s l. before_of (image s l) (held_old s l) (widened s l);
        is_left = λ s l. left_of (old s l) (image s l) (held_old s l) (widened s l) (left s l);
        moment = record {
          payload = all_behind image payload_there;
          gates = gate_there;
          others = λ s l. same_of (image s l) (held_old s l) (widened s l);
          phase = inr phase;
        };
      }

    pub replay_comes : IsBetween (IsCell cells staged) (ClosedGates desks staged) may image → ComesAgain arrays desks staged cells old image
    replay_comes (inl among) =
        comes (λ s l bytes. ⊥) (λ s l bytes never. absurd never) (λ s l. ⊎_elim inl (λ cell. inr (inl cell)) (among s l))
        (inl (λ k desk at.
        ⊎_elim
        (λ now. behind.settled desk.slot (desk_of k desk at) desk.lba (image desk.slot desk.lba) now ∙ open_held k desk at)
        (λ cell. absurd (no_cell k desk desk.lba (image desk.slot desk.lba) at (omega arith) (omega arith) cell))
        (among desk.slot desk.lba)))
    replay_comes (inr there) = comes (ClosedGates desks staged) (λ s l bytes gate. gate) there.1 (inr there.0)
