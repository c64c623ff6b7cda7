-- Steps of a history keep the data of a group with what is staged: where no gate stands open, through losses and returns of slots, and while records are
-- written.
use Rattle.std.proofs.Common.{◌≡◌, ◌∙◌, ⊎_elim, ℕ, zero, suc, ◌+◌, ◌<◌, ◌^◌, Bool, true, false, not, List, [], ◌∷◌, Option, Some, None, refl, sym, ap, subst, arith, length, slice_get, ◌&&◌, ◌||◌}
use Rattle.std.proofs.Math.Path.{fun_ext}
use Rattle.std.specs.Prelude.{filter_map, find, ◌==◌, if◌then◌else◌}
use Rattle.std.specs.List.{range_with_len}
use Rattle.std.proofs.lemmas.Bool.{cases_eq, eq-eqb, ne_eqb}
use Rattle.ddf_bay.specs.Sectors.{Image}
use Rattle.ddf_config.specs.declared.array.Array.{Array}
use Rattle.ddf_config.specs.declared.seat.Seat.{Seat}
use Rattle.ddf_config.specs.Configuration.{Configuration}
use Rattle.ddf_array.specs.Sound.{AreSectors}
use Rattle.ddf_array.specs.Volume.{Volume}
use Rattle.ddf_cells.specs.Apart.{LiesAt}
use Rattle.ddf_data_array.proofs.Same.{kept_same}
use Rattle.ddf_data_group.specs.Grouped.{KeepsArrays, Promises}
use Rattle.ddf_data_group.specs.Over.{IsOver, absent_in}
use Rattle.ddf_data_group.proofs.Clearly.{below_floor}
use Rattle.ddf_history.specs.Groups.{groups, has_current, has_missing}
use Rattle.ddf_history.specs.Issued.{Past, IsSince, give_back, with_slots}
use Rattle.ddf_history.proofs.Sound.{groups_are_sound}
use Rattle.ddf_data_history.specs.Promised.{AreAlone, KeepsData, is_seat, seat_if}
use Rattle.ddf_data_history.proofs.Seats.{is_at}
use Rattle.ddf_data_history.proofs.Steps.{by_loss}
use Rattle.ddf_stage.specs.declared.desk.Desk.{Desk}
use Rattle.ddf_stage.specs.declared.desk.StageCell.{StageCell}
use Rattle.ddf_stage.specs.declared.desk.Staged.{Staged}
use Rattle.ddf_stage.specs.declared.gate.Gate.{Gate}
use Rattle.ddf_stage.specs.Gate.{opened}
use Rattle.ddf_stage.specs.Laid.{first_open, is_at as is_cell_at, laid, names_one, on_desk, sectors_from}
use Rattle.ddf_stage_data.specs.Moments.{through}
use Rattle.ddf_stage_promise.specs.Cells.{cells_in}
use Rattle.ddf_stage_promise.specs.Closing.{SameButRecords}
use Rattle.ddf_stage_promise.specs.Footing.{Footing, desks_of}
use Rattle.ddf_stage_promise.specs.Staged.{KeepsStaged, NoneOpen, ShowsOne, arrays_on, desks_on, laid_over, losing, seats_on}
use Rattle.ddf_stage_promise.proofs.Desks.{all_none, desk_before, desk_of}
use Rattle.ddf_stage_promise.proofs.Fewer.{slot_within}
use Rattle.ddf_stage_promise.proofs.Laying.{laid_none, laid_some}
use Rattle.ddf_stage_promise.proofs.Losing.{through_none, through_some}

module _ (group : List ℕ) (footing : Footing) (small : (slot : ℕ) → footing.floor slot < 2 ^ 64) where
  -- ---- where no gate stands open

  pub plain_keeps : (past : Past (groups group)) (image : Image) (promises : Promises) → KeepsStaged group footing past image promises → NoneOpen group footing past image → KeepsData group past footing.floor image promises
  plain_keeps past image promises kept none number config since =
      let open_none = all_none (arrays_on group footing past number config) image (desks_on group footing past config) (none number config since) in
      subst (λ (x : Image). KeepsArrays config (seats_on group footing past config) x promises)
      (through_none (desks_on group footing past config) (arrays_on group footing past number config) (cells_in config (seats_on group footing past config)) image open_none)
      (kept past.lost (λ slot e. e) number config since)

  pub staged_keeps : (past : Past (groups group)) (image : Image) (promises : Promises) → AreAlone group past → KeepsData group past footing.floor image promises → NoneOpen group footing past image → KeepsStaged group footing past image promises
  staged_keeps past image promises alone kept none lost stay number config since =
      let fewer = by_loss group footing.floor small past image promises kept alone lost past.returned stay number config (record { late = since.late; is_there = since.is_there }) in
      let open_none = all_none (arrays_on group footing past number config) image (desks_on group footing (losing group footing past lost) config)
      (λ k desk at. let old = desk_before group footing past config lost stay k desk at in none number config since old.0 desk old.1) in
      subst (λ (x : Image). KeepsArrays config (seats_on group footing (losing group footing past lost) config) x promises)
      (sym (through_none (desks_on group footing (losing group footing past lost) config) (arrays_on group footing past number config) (cells_in config (seats_on group footing (losing group footing past lost) config)) image open_none))
      fewer

  -- ---- slots

  pub loss_keeps : (past : Past (groups group)) (image : Image) (promises : Promises) → KeepsStaged group footing past image promises → (lost returned : ℕ → Bool) → ((slot : ℕ) → past.lost slot ≡ true → lost slot ≡ true)
      → KeepsStaged group footing (with_slots past lost returned) image promises
  loss_keeps past image promises kept lost returned stay further still number config since =
      kept further (λ slot e. still slot (stay slot e)) number config (record { late = since.late; is_there = since.is_there })

  module _ (past : Past (groups group)) (image : Image) (promises : Promises) (kept : KeepsStaged group footing past image promises) (slot : ℕ)
      (missing : (number : ℕ) (config : Configuration) → IsSince past.changes number config → has_missing config (past.disk slot) ≡ true) where
    module _ (further : ℕ → Bool) (still : (s : ℕ) → (give_back past slot).lost s ≡ true → further s ≡ true) where
      -- the slot that returns counts as lost: its member has no seat
      with_it : ℕ → Bool
      with_it s = further s || (s == slot)

      or_first : (a b : Bool) → a ≡ true → (a || b) ≡ true
      or_first true b e = refl
      or_first false b e = absurd (cc)

      or_second : (a b : Bool) → b ≡ true → (a || b) ≡ true
      or_second true b e = refl
      or_second false b e = e

      and_both : (a b : Bool) → a ≡ true → b ≡ true → (a && b) ≡ true
      and_both true b e f = f
      and_both false b e f = e

      with_it_stays : (s : ℕ) → past.lost s ≡ true → with_it s ≡ true
      unfolding with_it
      with_it_stays s gone =
          ⊎_elim (λ on. or_second (further s) (s == slot) (eq-eqb s slot on))
          (λ apart. or_first (further s) (s == slot) (still s (and_both (past.lost s) (not (s == slot)) gone (ap not (ne_eqb s slot apart)))))
          (cases_eq s slot)

      by_current : (a b c : Bool) → c ≡ false → (not (a || b) && c) ≡ (not a && c)
      by_current a b true e = absurd (cc)
      by_current true b false e = refl
      by_current false true false e = refl
      by_current false false false e = refl

      by_other : (a b c : Bool) → b ≡ false → (not (a || b) && c) ≡ (not a && c)
      by_other a true c e = absurd (cc)
      by_other true false c e = refl
      by_other false false c e = refl

      not_current : (b : Bool) → (b ≡ true → ⊥) → b ≡ false
      not_current true never = absurd (never refl)
      not_current false never = refl

      seat_same : (number : ℕ) (config : Configuration) → IsSince past.changes number config → (s : ℕ) → is_seat group (losing group footing past with_it) config s ≡ is_seat group (losing group footing past further) config s
      unfolding with_it
      seat_same number config since s =
          ⊎_elim
          (λ on. by_current (further s) (s == slot) (has_current config (past.disk s))
          (not_current (has_current config (past.disk s)) (λ current. (groups_are_sound group).not_both config (past.disk s) current (ap (λ (k : ℕ). has_missing config (past.disk k)) on ∙ missing number config since))))
          (λ apart. by_other (further s) (s == slot) (has_current config (past.disk s)) (ne_eqb s slot apart)) (cases_eq s slot)

      seats_same : (number : ℕ) (config : Configuration) → IsSince past.changes number config → seats_on group footing (losing group footing past with_it) config ≡ seats_on group footing (losing group footing past further) config
      seats_same number config since =
          ap (λ (here : ℕ → Bool). filter_map (λ s. seat_if (here s) footing.floor (past.disk s) s) (range_with_len 0 past.slots)) (fun_ext (seat_same number config since))

      returned_keeps : (number : ℕ) (config : Configuration) → IsSince past.changes number config
          → KeepsArrays config (seats_on group footing (losing group footing past further) config) (laid_over group footing (losing group footing past further) number config image) promises
      returned_keeps number config since =
          subst
          (λ (over : List Seat). KeepsArrays config over (through (desks_of footing.gate over) (arrays_on group footing past number config) (cells_in config over) image) promises)
          (seats_same number config since) (kept with_it with_it_stays number config since)

    pub return_keeps : KeepsStaged group footing (give_back past slot) image promises
    return_keeps further still number config since = returned_keeps further still number config (record { late = since.late; is_there = since.is_there })

  -- ---- below the floors

  -- a sector of an array's extent is below the floor of a seat's slot
  pub record IsLow (past : Past (groups group)) (config : Configuration) (s l : ℕ) : Type 0 where
    pub low : l < footing.floor s
    pub is_its : is_seat group past config s ≡ true
    pub within : s < past.slots

  pub lies_low : (past : Past (groups group)) (config : Configuration) (array : Array) (w : Volume) → IsOver (seats_on group footing past config) array w → (e p x s l : ℕ) → LiesAt w e p x s l → IsLow past config s l
  lies_low past config array w over e p x s l lies =
      let below = below_floor (seats_on group footing past config) array w over e p x s l lies in
      let at = is_at footing.floor past.disk (is_seat group past config) past.slots below.0 below.1 s below.2 below.3 in
      record {
        low = subst (λ (n : ℕ). l < n) at.is_floor below.4;
        is_its = at.is_here;
        within = slot_within group footing past config below.0 below.1 s below.2 below.3;
      }

  -- what is the same below the floors keeps the same
  pub same_low : (past : Past (groups group)) (config : Configuration) (one other : Image) (promises : Promises) → (AreSectors one → AreSectors other) → ((s l : ℕ) → l < footing.floor s → one s l ≡ other s l)
      → KeepsArrays config (seats_on group footing past config) one promises → KeepsArrays config (seats_on group footing past config) other promises
  same_low past config one other promises are same kept guid allowed array promised found w over =
      let keeps = kept guid allowed array promised found w over in
      kept_same (absent_in config.members (seats_on group footing past config) array.elements) w one other allowed over.is_volume (are keeps.sound.are_sectors)
      (λ e p x s l lies. same s l (lies_low past config array w over e p x s l lies).low) keeps

  -- ---- what desks show

  pub first_shown : (arrays : List (List ℕ)) (one other : Image) (desks : List Desk) → ((k : ℕ) (desk : Desk) → slice_get desks k ≡ Some desk → on_desk arrays one desk ≡ on_desk arrays other desk)
      → first_open arrays one desks ≡ first_open arrays other desks
  first_shown arrays one other [] same = refl
  first_shown arrays one other (desk ∷ desks) same =
      ap (λ (o : Option Staged). elim o [ None ↦ first_open arrays one desks | Some staged ↦ Some staged ]) (same 0 desk refl)
      ∙ ap (λ (p : Option Staged). elim (on_desk arrays other desk) [ None ↦ p | Some staged ↦ Some staged ]) (first_shown arrays one other desks (λ k next at. same (suc k) next at))

  -- Where each desk shows what it did, and nothing is another below the floors, the same is kept.
  module _ (past : Past (groups group)) (before image : Image) (are : AreSectors image) (low : (s l : ℕ) → l < footing.floor s → image s l ≡ before s l) (promises : Promises)
      (kept : KeepsStaged group footing past before promises)
      (shown : (number : ℕ) (config : Configuration) → IsSince past.changes number config → (k : ℕ) (desk : Desk) → slice_get (desks_on group footing past config) k ≡ Some desk
      → on_desk (arrays_on group footing past number config) image desk ≡ on_desk (arrays_on group footing past number config) before desk) where
    over_same : (staged : Staged) (cells : List StageCell) (s l : ℕ) → l < footing.floor s → laid staged cells before s l ≡ laid staged cells image s l
    over_same staged cells s l below = by (find (is_cell_at s l) cells) refl
      where
        by : (o : Option StageCell) → find (is_cell_at s l) cells ≡ o → laid staged cells before s l ≡ laid staged cells image s l
        by None e = laid_none staged cells before s l e ∙ sym (low s l below) ∙ sym (laid_none staged cells image s l e)
        by (Some cell) e = laid_some staged cells before s l cell e ∙ sym (laid_some staged cells image s l cell e)

    over_are : (staged : Staged) (cells : List StageCell) → AreSectors (laid staged cells before) → AreSectors (laid staged cells image)
    over_are staged cells were s l = by (find (is_cell_at s l) cells) refl
      where
        by : (o : Option StageCell) → find (is_cell_at s l) cells ≡ o → length (laid staged cells image s l) ≡ 512
        by None e = ap length (laid_none staged cells image s l e) ∙ are s l
        by (Some cell) e = ap length (laid_some staged cells image s l cell e ∙ sym (laid_some staged cells before s l cell e)) ∙ were s l

    module _ (lost : ℕ → Bool) (stay : (slot : ℕ) → past.lost slot ≡ true → lost slot ≡ true) (number : ℕ) (config : Configuration) (since : IsSince past.changes number config) where
      abbrev its_arrays : List (List ℕ)
      its_arrays = arrays_on group footing past number config

      abbrev its_desks : List Desk
      its_desks = desks_on group footing (losing group footing past lost) config

      abbrev its_cells : Staged → List StageCell
      its_cells = cells_in config (seats_on group footing (losing group footing past lost) config)

      abbrev KeepsIt : Image → Type 0
      KeepsIt x = KeepsArrays config (seats_on group footing (losing group footing past lost) config) x promises

      its_first : first_open its_arrays image its_desks ≡ first_open its_arrays before its_desks
      its_first = first_shown its_arrays image before its_desks (λ k desk at. let was = desk_before group footing past config lost stay k desk at in shown number config since was.0 desk was.1)

      by_shown : (o : Option Staged) → first_open its_arrays before its_desks ≡ o → KeepsIt (through its_desks its_arrays its_cells image)
      by_shown None e =
          subst KeepsIt (sym (through_none its_desks its_arrays its_cells image (its_first ∙ e)))
          (same_low (losing group footing past lost) config before image promises (λ were. are) (λ s l below. sym (low s l below))
          (subst KeepsIt (through_none its_desks its_arrays its_cells before e) (kept lost stay number config since)))
      by_shown (Some staged) e =
          subst KeepsIt (sym (through_some its_desks its_arrays its_cells image staged (its_first ∙ e)))
          (same_low (losing group footing past lost) config (laid staged (its_cells staged) before) (laid staged (its_cells staged) image) promises (over_are staged (its_cells staged)) (over_same staged (its_cells staged))
          (subst KeepsIt (through_some its_desks its_arrays its_cells before staged e) (kept lost stay number config since)))

      shown_by : KeepsIt (through its_desks its_arrays its_cells image)
      shown_by = by_shown (first_open its_arrays before its_desks) refl

    pub shown_keep : KeepsStaged group footing past image promises
    shown_keep lost stay number config since = shown_by lost stay number config since

    pub shown_show : ShowsOne group footing past before → ShowsOne group footing past image
    shown_show shows number config since j k one other staged found at at' opens opens' =
        shows number config since j k one other staged found at at' (sym (shown number config since j one at) ∙ opens) (sym (shown number config since k other at') ∙ opens')

  -- ---- records

  module _ (past : Past (groups group)) (before image : Image) (are : AreSectors image) (same : SameButRecords footing before image) (promises : Promises) (kept : KeepsStaged group footing past before promises) where
    run_same : (one other : ℕ → List ℕ) (a n : ℕ) → ((i : ℕ) → i < n → one (a + i) ≡ other (a + i)) → sectors_from one a n ≡ sectors_from other a n
    run_same one other a zero alike = refl
    run_same one other a (suc n) alike =
        let zeroth : a ≡ a + 0 = omega arith in
        ap (λ (x : List ℕ). x ∷ sectors_from one (a + 1) n) (ap one zeroth ∙ alike 0 (omega arith) ∙ ap other (sym zeroth))
        ∙ ap (λ (xs : List (List ℕ)). other a ∷ xs) (run_same one other (a + 1) n (λ i below. let next : a + 1 + i ≡ a + suc i = omega arith in ap one next ∙ alike (suc i) (omega (arith, below)) ∙ ap other (sym next)))

    -- each desk shows what it did
    desk_same : (arrays : List (List ℕ)) (desk : Desk) → footing.gate desk.slot ≡ Some desk.lba → on_desk arrays image desk ≡ on_desk arrays before desk
    desk_same arrays desk is =
        let zeroth : desk.lba ≡ desk.lba + 0 = omega arith in
        let gate : image desk.slot desk.lba ≡ before desk.slot desk.lba =
        ap (image desk.slot) zeroth ∙ same.on_desks desk.slot desk.lba 0 is (omega arith) ∙ ap (before desk.slot) (sym zeroth) in
        let run = run_same (image desk.slot) (before desk.slot) (desk.lba + 1) 17
        (λ i below. let next : desk.lba + 1 + i ≡ desk.lba + (1 + i) = omega arith in ap (image desk.slot) next ∙ same.on_desks desk.slot desk.lba (1 + i) is (omega (arith, below)) ∙ ap (before desk.slot) (sym next)) in
        ap (λ (o : Option Gate). elim o [ None ↦ None | Some gate ↦ if names_one arrays gate then Some (record { gate = gate; sectors = sectors_from (image desk.slot) (desk.lba + 1) 17 }) else None ]) (ap opened gate)
        ∙ ap (λ (xs : List (List ℕ)). elim (opened (before desk.slot desk.lba)) [ None ↦ None | Some gate ↦ if names_one arrays gate then Some (record { gate = gate; sectors = xs }) else None ]) run

    pub records_keep : KeepsStaged group footing past image promises
    records_keep =
        shown_keep past before image are same.below promises kept
        (λ number config since k desk at. desk_same (arrays_on group footing past number config) desk (desk_of group footing past config k desk at).is_gate)

    -- and shows what it did
    pub records_show : ShowsOne group footing past before → ShowsOne group footing past image
    records_show =
        shown_show past before image are same.below promises kept
        (λ number config since k desk at. desk_same (arrays_on group footing past number config) desk (desk_of group footing past config k desk at).is_gate)
