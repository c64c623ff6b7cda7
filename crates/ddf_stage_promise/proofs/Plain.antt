-- Gates that are closed without cells, or that count for nothing, change nothing of what the group keeps.
use Rattle.std.proofs.Common.{◌≡◌, ◌∙◌, ◌⊎◌, ⊎_elim, ℕ, zero, suc, ◌+◌, ◌<◌, ◌^◌, Bool, true, false, List, [], ◌∷◌, Option, Some, None, Result, Err, refl, sym, ap, subst, arith, length, slice_get}
use Rattle.std.specs.Prelude.{find, slice_index_or, ◌-◌, if◌then◌else◌}
use Rattle.ddf_lemmas.proofs.Options.{none_some, some_is}
use Rattle.ddf_bay.specs.Sectors.{Image}
use Rattle.ddf_config.specs.declared.refusal.Refusal.{Refusal}
use Rattle.ddf_config.specs.Configuration.{Configuration}
use Rattle.ddf_array.specs.Sound.{AreSectors}
use Rattle.ddf_array.specs.Viewing.{view_of}
use Rattle.ddf_array.specs.Volume.{Volume}
use Rattle.ddf_data_group.specs.Grouped.{KeepsArrays, Promises}
use Rattle.ddf_data_group.proofs.Keeping.{kept_fewer}
use Rattle.ddf_history.specs.Groups.{groups}
use Rattle.ddf_history.specs.Issued.{Past, IsSince}
use Rattle.ddf_data_history.specs.Promised.{AreAlone}
use Rattle.ddf_data_history.proofs.Steps.{seats_are}
use Rattle.ddf_stage.specs.declared.desk.Desk.{Desk}
use Rattle.ddf_stage.specs.declared.desk.StageCell.{StageCell}
use Rattle.ddf_stage.specs.declared.desk.Staged.{Staged}
use Rattle.ddf_stage.specs.declared.gate.Gate.{Gate}
use Rattle.ddf_stage.specs.Gate.{gate_bytes, opened}
use Rattle.ddf_stage.specs.Laid.{first_open, is_at, laid, names_one, on_desk, sectors_from}
use Rattle.ddf_stage.specs.Staging.{ClosedGates}
use Rattle.ddf_stage_data.specs.Moments.{IsStage, through}
use Rattle.ddf_stage_data.proofs.Moments.{open_at}
use Rattle.ddf_stage.proofs.Gates.{opened_closed}
use Rattle.ddf_stage_promise.specs.Cells.{cells_by, cells_in}
use Rattle.ddf_stage_promise.specs.Closing.{LiePastFloors}
use Rattle.ddf_stage_promise.specs.Footing.{Footing}
use Rattle.ddf_stage_promise.specs.Staged.{KeepsStaged, ShowsOne, arrays_by, arrays_on, desks_on, does_count, losing, seats_on}
use Rattle.ddf_stage_promise.proofs.Desks.{all_none, desk_before, desk_of, some_first}
use Rattle.ddf_stage_promise.proofs.Fewer.{seats_fewer}
use Rattle.ddf_stage_promise.proofs.Laying.{laid_none, laid_some}
use Rattle.ddf_stage_promise.proofs.Losing.{names_none, through_none, through_some}
use Rattle.ddf_stage_promise.proofs.OnlyOne.{keeps_each, shows_each}
use Rattle.ddf_stage_promise.proofs.Steps.{same_low}

-- ---- gates that count for nothing

module _ (group : List ℕ) (footing : Footing) (small : (slot : ℕ) → footing.floor slot < 2 ^ 64) (past : Past (groups group)) (before image : Image) (are : AreSectors image) (promises : Promises)
    (kept : KeepsStaged group footing past before promises) (same : (s l : ℕ) → l < footing.floor s → image s l ≡ before s l)
    (none_count : (number : ℕ) (config : Configuration) → IsSince past.changes number config → does_count footing past.changes.own_from number ≡ false) where
  plain_first : (x : Image) (desks : List Desk) (number : ℕ) (config : Configuration) → IsSince past.changes number config → first_open (arrays_on group footing past number config) x desks ≡ None
  plain_first x desks number config since =
      all_none (arrays_on group footing past number config) x desks
      (λ k desk at. ap (λ (b : Bool). on_desk (arrays_by b config) x desk) (none_count number config since) ∙ names_none x desk)

  pub uncounted_keep : KeepsStaged group footing past image promises
  uncounted_keep lost stay number config since =
      let here = desks_on group footing (losing group footing past lost) config in
      let named = arrays_on group footing past number config in
      let cells = cells_in config (seats_on group footing (losing group footing past lost) config) in
      subst (λ (x : Image). KeepsArrays config (seats_on group footing (losing group footing past lost) config) x promises) (sym (through_none here named cells image (plain_first image here number config since)))
      (same_low group footing small (losing group footing past lost) config before image promises (λ were. are) (λ s l low. sym (same s l low))
      (subst (λ (x : Image). KeepsArrays config (seats_on group footing (losing group footing past lost) config) x promises) (through_none here named cells before (plain_first before here number config since))
      (kept lost stay number config since)))

-- ---- closing without cells

module _ (group : List ℕ) (footing : Footing) (small : (slot : ℕ) → footing.floor slot < 2 ^ 64) (past_floors : LiePastFloors footing) (past : Past (groups group)) (alone : AreAlone group past)
    (number : ℕ) (config : Configuration) (since : IsSince past.changes number config) (only : (n : ℕ) (c : Configuration) → IsSince past.changes n c → (n ≡ number) × (c ≡ config))
    (before image : Image) (are : AreSectors image) (promises : Promises) (kept : KeepsStaged group footing past before promises) (one : ShowsOne group footing past before)
    (staged : Staged) (is_stage : IsStage staged) (first : first_open (arrays_on group footing past number config) before (desks_on group footing past config) ≡ Some staged)
    (refusal : Refusal) (none_viewed : view_of config staged.gate.array (seats_on group footing past config) ≡ Err refusal)
    (desks : List Desk) (among : (k : ℕ) (desk : Desk) → slice_get desks k ≡ Some desk → (j : ℕ) × (slice_get (desks_on group footing past config) j ≡ Some desk))
    (left : (s l : ℕ) → (image s l ≡ before s l) ⊎ ClosedGates desks staged s l (image s l)) where
  abbrev arrays : List (List ℕ)
  arrays = arrays_on group footing past number config

  abbrev all : List Desk
  all = desks_on group footing past config

  -- a closed gate is the first sector of a desk
  record IsClosedAt (s l : ℕ) (bytes : List ℕ) : Type 0 where
    pub gate : footing.gate s ≡ Some l
    pub is_closed : bytes ≡ gate_bytes false staged.gate

  closed_at : (s l : ℕ) (bytes : List ℕ) → ClosedGates desks staged s l bytes → IsClosedAt s l bytes
  closed_at s l bytes on =
      let its = among on.number on.desk on.is_desk in
      let gate = (desk_of group footing past config its.0 on.desk its.1).is_gate in
      let lba : l ≡ on.desk.lba = omega (arith, on.in_run.from, on.in_run.below) in
      let none : l - (on.desk.lba + 0) ≡ 0 = omega (arith, lba) in
      record {
        gate = ap footing.gate on.on_slot ∙ gate ∙ ap Some (sym lba);
        is_closed = on.in_run.are ∙ ap (λ (n : ℕ). slice_index_or (gate_bytes false staged.gate ∷ []) n []) none;
      }

  -- a desk that shows something does as before
  shows_before : (k : ℕ) (desk : Desk) (shown : Staged) → slice_get all k ≡ Some desk → on_desk arrays image desk ≡ Some shown → on_desk arrays before desk ≡ Some shown
  shows_before k desk shown at opens =
      let its = (desk_of group footing past config k desk at).is_gate in
      ⊎_elim
      (λ gate. sym (on_same gate (λ i below. payload i below its)) ∙ opens)
      (λ closed.
      let is = closed_at desk.slot desk.lba (image desk.slot desk.lba) closed in
      let shut : on_desk arrays image desk ≡ None =
      ap (λ (o : Option Gate). elim o [ None ↦ None | Some gate ↦ if names_one arrays gate then Some (record { gate = gate; sectors = sectors_from (image desk.slot) (desk.lba + 1) 17 }) else None ])
      (ap opened is.is_closed ∙ opened_closed staged.gate is_stage.is_gate) in
      absurd (none_some (on_desk arrays image desk) shown shut opens)) (left desk.slot desk.lba)
    where
      payload : (i : ℕ) → i < 17 → footing.gate desk.slot ≡ Some desk.lba → image desk.slot (desk.lba + 1 + i) ≡ before desk.slot (desk.lba + 1 + i)
      payload i below its =
          ⊎_elim (λ same. same)
          (λ closed.
          let is = closed_at desk.slot (desk.lba + 1 + i) (image desk.slot (desk.lba + 1 + i)) closed in
          let lba : desk.lba ≡ desk.lba + 1 + i = some_is (sym its ∙ is.gate) in
          absurd (omega (arith, lba))) (left desk.slot (desk.lba + 1 + i))

      run_same : (x y : ℕ → List ℕ) (a n : ℕ) → ((i : ℕ) → i < n → x (a + i) ≡ y (a + i)) → sectors_from x a n ≡ sectors_from y a n
      run_same x y a zero alike = refl
      run_same x y a (suc n) alike =
          let zeroth : a ≡ a + 0 = omega arith in
          ap (λ (z : List ℕ). z ∷ sectors_from x (a + 1) n) (ap x zeroth ∙ alike 0 (omega arith) ∙ ap y (sym zeroth))
          ∙ ap (λ (zs : List (List ℕ)). y a ∷ zs) (run_same x y (a + 1) n (λ i below. let next : a + 1 + i ≡ a + suc i = omega arith in ap x next ∙ alike (suc i) (omega (arith, below)) ∙ ap y (sym next)))

      on_same : image desk.slot desk.lba ≡ before desk.slot desk.lba → ((i : ℕ) → i < 17 → image desk.slot (desk.lba + 1 + i) ≡ before desk.slot (desk.lba + 1 + i)) → on_desk arrays image desk ≡ on_desk arrays before desk
      on_same gate behind =
          ap (λ (o : Option Gate). elim o [ None ↦ None | Some gate ↦ if names_one arrays gate then Some (record { gate = gate; sectors = sectors_from (image desk.slot) (desk.lba + 1) 17 }) else None ]) (ap opened gate)
          ∙ ap (λ (xs : List (List ℕ)). elim (opened (before desk.slot desk.lba)) [ None ↦ None | Some gate ↦ if names_one arrays gate then Some (record { gate = gate; sectors = xs }) else None ])
          (run_same (image desk.slot) (before desk.slot) (desk.lba + 1) 17 behind)

  low_same : (s l : ℕ) → l < footing.floor s → before s l ≡ image s l
  low_same s l low =
      ⊎_elim (λ same. sym same)
      (λ closed. let is = closed_at s l (image s l) closed in let floor = past_floors s l is.gate in absurd (omega (arith, floor, low))) (left s l)

  laid_same : (shown : Staged) (cells : List StageCell) (s l : ℕ) → l < footing.floor s → laid shown cells before s l ≡ laid shown cells image s l
  laid_same shown cells s l low = by (find (is_at s l) cells) refl
    where
      by : (o : Option StageCell) → find (is_at s l) cells ≡ o → laid shown cells before s l ≡ laid shown cells image s l
      by None e = laid_none shown cells before s l e ∙ low_same s l low ∙ sym (laid_none shown cells image s l e)
      by (Some cell) e = laid_some shown cells before s l cell e ∙ sym (laid_some shown cells image s l cell e)

  laid_are : (shown : Staged) (cells : List StageCell) → AreSectors (laid shown cells before) → AreSectors (laid shown cells image)
  laid_are shown cells were s l = by (find (is_at s l) cells) refl
    where
      by : (o : Option StageCell) → find (is_at s l) cells ≡ o → length (laid shown cells image s l) ≡ 512
      by None e = ap length (laid_none shown cells image s l e) ∙ are s l
      by (Some cell) e = ap length (laid_some shown cells image s l cell e ∙ sym (laid_some shown cells before s l cell e)) ∙ were s l

  module _ (lost : ℕ → Bool) (stay : (slot : ℕ) → past.lost slot ≡ true → lost slot ≡ true) where
    abbrev here : List Desk
    here = desks_on group footing (losing group footing past lost) config

    abbrev Keeps : Image → Type 0
    Keeps x = KeepsArrays config (seats_on group footing (losing group footing past lost) config) x promises

    abbrev left_cells : Staged → List StageCell
    left_cells = cells_in config (seats_on group footing (losing group footing past lost) config)

    -- where all is there nothing is laid over
    plain : Keeps before
    plain guid allowed array promised found =
        let over = through_some all arrays (cells_in config (seats_on group footing past config)) before staged first in
        let of = ap (λ (r : Result Volume Refusal). laid staged (cells_by r staged.gate) before) none_viewed in
        let keeps = subst (λ (x : Image). KeepsArrays config (seats_on group footing past config) x promises) (over ∙ of) (kept past.lost (λ slot e. e) number config since) in
        kept_fewer config.members (seats_on group footing past config) (seats_on group footing (losing group footing past lost) config) array before allowed (seats_are group footing.floor small past config)
        (seats_fewer group footing past alone number config since lost stay) (keeps guid allowed array promised found)

    by_first : (o : Option Staged) → first_open arrays image here ≡ o → Keeps (through here arrays left_cells image)
    by_first None e =
        subst Keeps (sym (through_none here arrays left_cells image e))
        (same_low group footing small (losing group footing past lost) config before image promises (λ were. are) low_same plain)
    by_first (Some shown) e =
        let at = open_at arrays image here shown e in
        let was = desk_before group footing past config lost stay at.number at.desk at.is_desk in
        let stood = shows_before was.0 at.desk shown was.1 at.stands in
        let some = some_first arrays before here at.number at.desk shown at.is_desk stood in
        let there = open_at arrays before here some.0 some.1 in
        let its = desk_before group footing past config lost stay there.number there.desk there.is_desk in
        let same = one number config since its.0 was.0 there.desk at.desk some.0 shown its.1 was.1 there.stands stood in
        let keeps = subst Keeps (through_some here arrays left_cells before shown (some.1 ∙ ap Some same)) (kept lost stay number config since) in
        subst Keeps (sym (through_some here arrays left_cells image shown e))
        (same_low group footing small (losing group footing past lost) config (laid shown (left_cells shown) before) (laid shown (left_cells shown) image) promises (laid_are shown (left_cells shown)) (laid_same shown (left_cells shown)) keeps)

    closed_by : Keeps (through here arrays left_cells image)
    closed_by = by_first (first_open arrays image here) refl

  pub closed_keeps : KeepsStaged group footing past image promises
  closed_keeps = keeps_each group footing past number config only image promises closed_by

  pub closed_shows : ShowsOne group footing past image
  closed_shows = shows_each group footing past number config only image
      (λ j k desk other shown found at at' opens opens'. one number config since j k desk other shown found at at' (shows_before j desk shown at opens) (shows_before k other found at' opens'))
