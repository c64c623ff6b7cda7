-- Calls that give sectors bytes, one after another.
use Rattle.std.proofs.Common.{◌≡◌, ◌≢◌, ◌∙◌, inl, inr, ⊎_elim, ℕ, ◌+◌, ◌-◌, ◌<◌, List, [], ◌∷◌, Some, sym, ap, subst, arith, length, slice_get}
use Rattle.std.specs.Prelude.{slice_index_or}
use Rattle.ddf_bay.specs.Sectors.{Image, Outcomes, InRun, IsLeft, put_run}
use Rattle.ddf_bay.specs.Moments as bay
use Rattle.ddf_bay.specs.Moments.{IsSettled, Keeps}
use Rattle.std.proofs.lemmas.Bool.{cases_eq, cases_lt}
use Rattle.ddf_lemmas.proofs.Options.{some_is}
use Rattle.ddf_bay.proofs.Runs.{inside, before as put_before, after as put_after, other as put_other}
use Rattle.ddf_stage.specs.declared.desk.Desk.{Desk}
use Rattle.ddf_stage.specs.declared.desk.StageCell.{StageCell}
use Rattle.ddf_stage.specs.declared.desk.Staged.{Staged}
use Rattle.ddf_stage.specs.Desks.{HaveOwnSlots, IsOnDesks}
use Rattle.ddf_stage.specs.Laid.{sector_of}
use Rattle.ddf_stage.specs.Staging.{Adds, AreAside, AreOwnCells, Either, Giving, IsAmong, IsBetween, IsCell, IsThere, Mixes}

-- ---- one run more on a desk

module _ (desks : List Desk) (offset : ℕ) (sectors : List (List ℕ)) (k : ℕ) (desk : Desk) (at : slice_get desks k ≡ Some desk) where
  on_desk : (s l : ℕ) (bytes : List ℕ) → (s ≡ desk.slot) × InRun (desk.lba + offset) sectors l bytes → IsOnDesks desks offset sectors s l bytes
  on_desk s l bytes here = record { number = k; desk = desk; is_desk = at; on_slot = here.0; in_run = here.1 }

  pub adds_more : (a b c : Outcomes) → Adds (IsOnDesks desks offset sectors) a b → bay.Adds b c desk.slot (desk.lba + offset) sectors → Adds (IsOnDesks desks offset sectors) a c
  adds_more a b c so_far step s l bytes now = ⊎_elim (λ before. so_far s l bytes before) (λ here. inr (on_desk s l bytes here)) (step s l bytes now)

  pub among_more : (a b : Outcomes) → Adds (IsOnDesks desks offset sectors) a b → (image : Image) → bay.IsAmong b desk.slot (desk.lba + offset) sectors image → IsAmong (IsOnDesks desks offset sectors) a image
  among_more a b so_far image among s l = ⊎_elim (λ before. so_far s l (image s l) before) (λ here. inr (on_desk s l (image s l) here)) (among s l)

  pub mixes_more : (a b c : Image) → Mixes (IsOnDesks desks offset sectors) a b → bay.Mixes b c desk.slot (desk.lba + offset) sectors → Mixes (IsOnDesks desks offset sectors) a c
  mixes_more a b c so_far step s l = ⊎_elim
      (λ same. ⊎_elim (λ was. inl (same ∙ was)) (λ there. inr (subst (λ (bytes : List ℕ). IsOnDesks desks offset sectors s l bytes) (sym same) there)) (so_far s l))
      (λ here. inr (on_desk s l (c s l) here))
      (step s l)

-- the desks so far
abbrev pub ThereUpTo : List Desk → (offset : ℕ) → List (List ℕ) → ℕ → Image → Type 0
ThereUpTo desks offset sectors n held =
    (k : ℕ) (desk : Desk) → k < n → slice_get desks k ≡ Some desk → (l : ℕ) (bytes : List ℕ) → InRun (desk.lba + offset) sectors l bytes → held desk.slot l ≡ bytes

pub there_all : (desks : List Desk) (offset : ℕ) (sectors : List (List ℕ)) (held : Image) → ((k : ℕ) (desk : Desk) → slice_get desks k ≡ Some desk → k < length desks)
    → ThereUpTo desks offset sectors (length desks) held → IsThere (IsOnDesks desks offset sectors) held
there_all desks offset sectors held within there s l bytes on =
    subst (λ (n : ℕ). held n l ≡ bytes) (sym on.on_slot) (there on.number on.desk (within on.number on.desk on.is_desk) on.is_desk l bytes on.in_run)

-- one desk more
pub there_more : (desks : List Desk) → HaveOwnSlots desks → (offset : ℕ) (sectors : List (List ℕ)) (n : ℕ) (desk : Desk) → slice_get desks n ≡ Some desk → (a b : Image)
    → b ≡ put_run a desk.slot (desk.lba + offset) sectors → ThereUpTo desks offset sectors n a → ThereUpTo desks offset sectors (n + 1) b
there_more desks own offset sectors n desk at a b put there k other below is l bytes run =
    ap (λ (i : Image). i other.slot l) put
    ∙ ⊎_elim
    (λ same.
    let one : desk ≡ other = some_is (sym at ∙ ap (slice_get desks) (sym same) ∙ is) in
    let here : InRun (desk.lba + offset) sectors l bytes = subst (λ (d : Desk). InRun (d.lba + offset) sectors l bytes) (sym one) run in
    ap (λ (d : Desk). put_run a desk.slot (desk.lba + offset) sectors d.slot l) (sym one)
    ∙ inside a desk.slot (desk.lba + offset) sectors l here.from here.below ∙ sym here.are)
    (λ apart.
    put_other a desk.slot (desk.lba + offset) sectors other.slot l (λ slot. apart (own k n other desk is at slot)) ∙ there k other (omega (arith, below, apart)) is l bytes run)
    (cases_eq k n)

-- ---- one cell more

module _ (cells : List StageCell) (staged : Staged) (k : ℕ) (cell : StageCell) (at : slice_get cells k ≡ Some cell) where
  of_cell : (s l : ℕ) (bytes : List ℕ) → (s ≡ cell.slot) × InRun cell.lba (sector_of staged cell ∷ []) l bytes → IsCell cells staged s l bytes
  of_cell s l bytes here =
      let lba : l ≡ cell.lba = omega (arith, here.1.from, here.1.below) in
      let none : l - cell.lba ≡ 0 = omega (arith, lba) in
      record { number = k; cell = cell; is_cell = at; on_slot = here.0; at = lba; are = here.1.are ∙ ap (λ (n : ℕ). slice_index_or (sector_of staged cell ∷ []) n []) none }

  pub cell_adds : (a b c : Outcomes) → Adds (IsCell cells staged) a b → bay.Adds b c cell.slot cell.lba (sector_of staged cell ∷ []) → Adds (IsCell cells staged) a c
  cell_adds a b c so_far step s l bytes now = ⊎_elim (λ before. so_far s l bytes before) (λ here. inr (of_cell s l bytes here)) (step s l bytes now)

  pub cell_among : (a b : Outcomes) → Adds (IsCell cells staged) a b → (image : Image) → bay.IsAmong b cell.slot cell.lba (sector_of staged cell ∷ []) image → IsAmong (IsCell cells staged) a image
  cell_among a b so_far image among s l = ⊎_elim (λ before. so_far s l (image s l) before) (λ here. inr (of_cell s l (image s l) here)) (among s l)

  pub cell_mixes : (a b c : Image) → Mixes (IsCell cells staged) a b → bay.Mixes b c cell.slot cell.lba (sector_of staged cell ∷ []) → Mixes (IsCell cells staged) a c
  cell_mixes a b c so_far step s l = ⊎_elim
      (λ same. ⊎_elim (λ was. inl (same ∙ was)) (λ there. inr (subst (λ (bytes : List ℕ). IsCell cells staged s l bytes) (sym same) there)) (so_far s l))
      (λ here. inr (of_cell s l (c s l) here))
      (step s l)

-- the cells so far
abbrev pub CellsUpTo : List StageCell → Staged → ℕ → Image → Type 0
CellsUpTo cells staged n held = (k : ℕ) (cell : StageCell) → k < n → slice_get cells k ≡ Some cell → held cell.slot cell.lba ≡ sector_of staged cell

-- one cell more
pub cells_more : (cells : List StageCell) → AreOwnCells cells → (staged : Staged) (n : ℕ) (cell : StageCell) → slice_get cells n ≡ Some cell → (a b : Image)
    → b ≡ put_run a cell.slot cell.lba (sector_of staged cell ∷ []) → CellsUpTo cells staged n a → CellsUpTo cells staged (n + 1) b
cells_more cells own staged n cell at a b put there k other below is =
    ap (λ (i : Image). i other.slot other.lba) put
    ∙ ⊎_elim
    (λ same.
    let one : cell ≡ other = some_is (sym at ∙ ap (slice_get cells) (sym same) ∙ is) in
    let none : cell.lba - cell.lba ≡ 0 = omega arith in
    ap (λ (d : StageCell). put_run a cell.slot cell.lba (sector_of staged cell ∷ []) d.slot d.lba) (sym one)
    ∙ inside a cell.slot cell.lba (sector_of staged cell ∷ []) cell.lba (omega arith) (omega arith)
    ∙ ap (λ (m : ℕ). slice_index_or (sector_of staged cell ∷ []) m []) none
    ∙ ap (sector_of staged) one)
    (λ apart.
    ⊎_elim
    (λ slot.
    let lba : other.lba ≢ cell.lba = λ lba. apart (own k n other cell is at slot lba) in
    ap (λ (m : ℕ). put_run a cell.slot cell.lba (sector_of staged cell ∷ []) m other.lba) slot
    ∙ ⊎_elim (λ less. put_before a cell.slot cell.lba (sector_of staged cell ∷ []) cell.slot other.lba less)
    (λ more. put_after a cell.slot cell.lba (sector_of staged cell ∷ []) cell.slot other.lba (omega (arith, more, lba))) (cases_lt other.lba cell.lba)
    ∙ ap (λ (m : ℕ). a m other.lba) (sym slot))
    (λ slot. put_other a cell.slot cell.lba (sector_of staged cell ∷ []) other.slot other.lba slot)
    (cases_eq other.slot cell.slot)
    ∙ there k other (omega (arith, below, apart)) is)
    (cases_eq k n)

pub cells_all : (cells : List StageCell) (staged : Staged) (held : Image) → ((k : ℕ) (cell : StageCell) → slice_get cells k ≡ Some cell → k < length cells)
    → CellsUpTo cells staged (length cells) held → IsThere (IsCell cells staged) held
cells_all cells staged held within there s l bytes on =
    ap (λ (n : ℕ). held n l) on.on_slot ∙ ap (held on.cell.slot) on.at ∙ there on.number on.cell (within on.number on.cell on.is_cell) on.is_cell ∙ sym on.are

-- ---- what is done before, and what comes then

pub adds_then : (First Then : Giving) (a b c : Outcomes) → Adds First a b → Adds Then b c → Adds (Either First Then) a c
adds_then First Then a b c first then s l bytes now = ⊎_elim (λ mid. ⊎_elim inl (λ given. inr (inl given)) (first s l bytes mid)) (λ given. inr (inr given)) (then s l bytes now)

pub mixes_then : (First Then : Giving) (a b c : Image) → Mixes First a b → Mixes Then b c → Mixes (Either First Then) a c
mixes_then First Then a b c first then s l =
    ⊎_elim (λ same. ⊎_elim (λ was. inl (same ∙ was)) (λ given. inr (inl (subst (λ (bytes : List ℕ). First s l bytes) (sym same) given))) (first s l)) (λ given. inr (inr given)) (then s l)

pub adds_keeps : (May : Giving) (a b c : Outcomes) → Adds May a b → Keeps b c → Adds May a c
adds_keeps May a b c adds keeps s l bytes now = adds s l bytes (keeps s l bytes now)

-- an image that may be left behind the first
pub among_left : (First : Giving) (a b : Outcomes) → Adds First a b → (image : Image) → IsLeft b image → IsAmong First a image
among_left First a b adds image left s l = adds s l (image s l) (left s l)

-- Once the first is there, and nothing is pending on its slots, an image of what comes then has it.
pub there_then : (First Then : Giving) (may : Outcomes) (held image : Image) → AreAside First Then → ((s l : ℕ) (bytes : List ℕ) → First s l bytes → IsSettled may held s) → IsThere First held
    → IsAmong Then may image → IsThere First image
there_then First Then may held image aside settled there among s l bytes given =
    ⊎_elim (λ left. settled s l bytes given l (image s l) left ∙ there s l bytes given) (λ then. absurd (aside s l bytes (image s l) given then)) (among s l)

pub between_then : (First Then : Giving) (a may : Outcomes) (held image : Image) → AreAside First Then → ((s l : ℕ) (bytes : List ℕ) → First s l bytes → IsSettled may held s) → IsThere First held
    → Adds First a may → IsAmong Then may image → IsBetween First Then a image
between_then First Then a may held image aside settled there adds among =
    inr (
      there_then First Then may held image aside settled there among,
      λ s l. ⊎_elim (λ left. ⊎_elim inl (λ given. inr (inl given)) (adds s l (image s l) left)) (λ then. inr (inr then)) (among s l),
    )

-- what is there stays while other sectors are given bytes
pub there_stays : (First Then : Giving) (a b : Image) → AreAside First Then → IsThere First a → Mixes Then a b → IsThere First b
there_stays First Then a b aside there mixes s l bytes given = ⊎_elim (λ same. same ∙ there s l bytes given) (λ then. absurd (aside s l bytes (b s l) given then)) (mixes s l)

-- ---- desks

-- the sectors behind a gate aren't the gate
pub payload_aside : (desks : List Desk) → HaveOwnSlots desks → (payload gate : List (List ℕ)) → length gate ≡ 1 → AreAside (IsOnDesks desks 1 payload) (IsOnDesks desks 0 gate)
payload_aside desks own payload gate one s l first second a b =
    let same : a.number ≡ b.number = own a.number b.number a.desk b.desk a.is_desk b.is_desk (sym a.on_slot ∙ b.on_slot) in
    let desk : a.desk ≡ b.desk = some_is (sym a.is_desk ∙ ap (slice_get desks) same ∙ b.is_desk) in
    let lba : a.desk.lba ≡ b.desk.lba = ap (λ (d : Desk). d.lba) desk in
    omega (arith, a.in_run.from, b.in_run.below, lba, one)
