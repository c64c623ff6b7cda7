-- Two things that are done one after the other, with a sync behind each: what a stop on the way leaves.
use Rattle.std.proofs.Common.{◌∙◌, inl, ⊎_elim, ℕ, List, [], ◌∷◌, sym, arith}
use Rattle.ddf_bay.specs.Sectors.{Image, Outcomes, IsLeft}
use Rattle.ddf_bay.specs.State.{BayState}
use Rattle.ddf_bay.specs.Moments.{IsSettled, StopsLeave}
use Rattle.ddf_bay.proofs.Steps.{stops_then, stops_weaken}
use Rattle.ddf_stage.specs.declared.desk.Desk.{Desk}
use Rattle.ddf_stage.specs.declared.desk.StageCell.{StageCell}
use Rattle.ddf_stage.specs.declared.desk.Staged.{Staged}
use Rattle.ddf_stage.specs.Desks.{HasDesk, IsOnDesks}
use Rattle.ddf_stage.specs.Staging.{Adds, AreAside, AreOffDesks, Giving, HasCell, IsAmong, IsBetween, IsCell, IsThere, Mixes}
use Rattle.ddf_stage.proofs.Giving.{among_left, between_then}

-- the first is written, and made sure
pub first_done : {D : Type 0} (First Then : Giving) (a b c : BayState D) → StopsLeave a b (IsAmong First a.may_hold) → Adds First a.may_hold b.may_hold → StopsLeave b c (IsLeft b.may_hold)
    → StopsLeave a c (IsBetween First Then a.may_hold)
first_done First Then a b c write adds sync =
    stops_then {P = IsBetween First Then a.may_hold} {Q = IsLeft b.may_hold}
    (stops_weaken {P = IsBetween First Then a.may_hold} {Q = IsAmong First a.may_hold} write (λ image among. inl among))
    sync (λ image left. inl (among_left First a.may_hold b.may_hold adds image left))

-- then the second is written
pub then_written : {D : Type 0} (First Then : Giving) (a c d : BayState D) → StopsLeave a c (IsBetween First Then a.may_hold) → AreAside First Then
    → ((s l : ℕ) (bytes : List ℕ) → First s l bytes → IsSettled c.may_hold c.held s) → IsThere First c.held → Adds First a.may_hold c.may_hold → StopsLeave c d (IsAmong Then c.may_hold)
    → StopsLeave a d (IsBetween First Then a.may_hold)
then_written First Then a c d so_far aside settled there adds write =
    stops_then {P = IsBetween First Then a.may_hold} {Q = IsAmong Then c.may_hold} so_far write
    (λ image among. between_then First Then a.may_hold c.may_hold c.held image aside settled there adds among)

-- and made sure
pub then_sure : {D : Type 0} (First Then : Giving) (a c d e : BayState D) → StopsLeave a d (IsBetween First Then a.may_hold) → AreAside First Then
    → ((s l : ℕ) (bytes : List ℕ) → First s l bytes → IsSettled c.may_hold c.held s) → IsThere First c.held → Adds First a.may_hold c.may_hold → Adds Then c.may_hold d.may_hold
    → StopsLeave d e (IsLeft d.may_hold) → StopsLeave a e (IsBetween First Then a.may_hold)
then_sure First Then a c d e so_far aside settled there adds then sync =
    stops_then {P = IsBetween First Then a.may_hold} {Q = IsLeft d.may_hold} so_far sync
    (λ image left. between_then First Then a.may_hold c.may_hold c.held image aside settled there adds (among_left Then c.may_hold d.may_hold then image left))

-- ---- which slots are written

pub desk_slot : (desks : List Desk) (offset : ℕ) (sectors : List (List ℕ)) (s l : ℕ) (bytes : List ℕ) → IsOnDesks desks offset sectors s l bytes → HasDesk desks s
desk_slot desks offset sectors s l bytes on = record { number = on.number; desk = on.desk; is_desk = on.is_desk; on_slot = on.on_slot }

pub cell_slot : (cells : List StageCell) (staged : Staged) (s l : ℕ) (bytes : List ℕ) → IsCell cells staged s l bytes → HasCell cells s
cell_slot cells staged s l bytes on = record { number = on.number; cell = on.cell; is_cell = on.is_cell; on_slot = on.on_slot }

-- a cell isn't a gate
pub cells_aside : (desks : List Desk) (cells : List StageCell) → AreOffDesks desks cells → (staged : Staged) (gate : List ℕ) → AreAside (IsCell cells staged) (IsOnDesks desks 0 (gate ∷ []))
cells_aside desks cells off staged gate s l first second a b =
    ⊎_elim
    (λ below. omega (arith, a.at, b.in_run.from, below))
    (λ above. omega (arith, a.at, b.in_run.below, above))
    (off a.number b.number a.cell b.desk a.is_cell b.is_desk (sym a.on_slot ∙ b.on_slot))

-- what is settled stays so beside the gates, and where they are it is
pub settled_beside : (desks : List Desk) (gate : List (List ℕ)) (may after : Outcomes) (held then : Image) (slot : ℕ) → IsSettled may held slot → Adds (IsOnDesks desks 0 gate) may after
    → Mixes (IsOnDesks desks 0 gate) held then → ((s : ℕ) → HasDesk desks s → IsSettled after then s) → IsSettled after then slot
settled_beside desks gate may after held then slot settled adds mixes sure l bytes left =
    ⊎_elim
    (λ before. ⊎_elim
    (λ same. settled l bytes before ∙ sym same)
    (λ on. sure slot (desk_slot desks 0 gate slot l (then slot l) on) l bytes left)
    (mixes slot l))
    (λ on. sure slot (desk_slot desks 0 gate slot l bytes on) l bytes left)
    (adds slot l bytes left)
