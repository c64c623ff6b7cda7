-- The data of a group are kept where an array is deleted while gates stand open.
use Rattle.std.proofs.Common.{◌≡◌, ◌∙◌, ◌⊎◌, inl, inr, ⊎_elim, ℕ, suc, ◌<◌, ◌≤◌, ◌^◌, Bool, true, false, not, List, [], ◌∷◌, ◌++◌, map, Option, Some, None, Result, Ok, Err, refl, sym, ap, subst, arith, slice_get, nat_eq, ◌&&◌, ◌||◌}
use Rattle.std.specs.Prelude.{find, nat_le, option_map, if◌then◌else◌}
use Rattle.std.specs.Cmp.Lexicographic.{pointwise}
use Rattle.std.specs.List.{cons_option}
use Rattle.std.specs.Map.{lookup}
use Rattle.std.proofs.lemmas.Bool.{leb-true, le-leb}
use Rattle.std.proofs.lemmas.Option.{slice_get_within}
use Rattle.ddf_lemmas.proofs.Options.{some_is}
use Rattle.ddf_lemmas.proofs.Tests.{true_false}
use Rattle.ddf_bay.specs.Sectors.{Image}
use Rattle.ddf_config.specs.declared.array.Array.{Array}
use Rattle.ddf_config.specs.declared.element.Position.{Position}
use Rattle.ddf_config.specs.declared.refusal.Refusal.{Refusal}
use Rattle.ddf_config.specs.declared.seat.Seat.{Seat}
use Rattle.ddf_config.specs.Configuration.{Configuration}
use Rattle.ddf_config.specs.ElementValue.{ElementValue}
use Rattle.ddf_config.specs.Entries.{changed_entries}
use Rattle.ddf_config.specs.Extents.{extents}
use Rattle.ddf_config.specs.Members.{same_guid}
use Rattle.ddf_config.specs.Seats.{floor_of}
use Rattle.ddf_config.specs.States.{array_with_low}
use Rattle.ddf_plan.specs.declared.change.Change.TheVariants.{Delete}
use Rattle.ddf_plan.specs.Arrays.{kept_and_added}
use Rattle.ddf_plan.specs.Changes.{changed_at}
use Rattle.ddf_plan.specs.Members.{members_after}
use Rattle.ddf_array.specs.Sound.{AreSectors}
use Rattle.ddf_array.specs.Viewing.{view_of}
use Rattle.ddf_array.specs.Volume.{Volume, IsVolume}
use Rattle.ddf_cells.specs.Alike.{IsCell as IsCellOf}
use Rattle.ddf_data_group.specs.Grouped.{KeepsArrays, Promises}
use Rattle.ddf_data_group.specs.Lessening.{AreLessParts, AreLessPositions, IsLessArray}
use Rattle.ddf_data_group.specs.Over.{AreCurrentSeats, IsOver}
use Rattle.ddf_data_group.proofs.Changed.{changed_keeps}
use Rattle.ddf_data_group.proofs.Entries.{before as value_before, found_in, guid_is, never_drops, same_mark}
use Rattle.ddf_history.specs.Groups.{Disk, groups, has_current}
use Rattle.ddf_history.specs.Issued.{Past, IsSince, issue}
use Rattle.ddf_history.proofs.Following.{changes_follow}
use Rattle.ddf_history.proofs.Lists.{get_more}
use Rattle.ddf_data_history.proofs.Steps.{seats_are}
use Rattle.ddf_data_history.proofs.Viewed.{are_members}
use Rattle.ddf_stage.specs.declared.desk.Desk.{Desk}
use Rattle.ddf_stage.specs.declared.desk.StageCell.{StageCell}
use Rattle.ddf_stage.specs.declared.desk.Staged.{Staged}
use Rattle.ddf_stage.specs.declared.gate.Gate.{Gate}
use Rattle.ddf_stage.specs.Gate.{opened}
use Rattle.ddf_stage.specs.Laid.{first_open, is_at as is_cell_at, laid, names_one, on_desk, staged_behind}
use Rattle.ddf_stage_data.specs.Moments.{through}
use Rattle.ddf_stage_data.proofs.Moments.{none_at, open_at}
use Rattle.ddf_stage_promise.specs.Cells.{HasVolumes, cells_by, cells_in, cells_of}
use Rattle.ddf_stage_promise.specs.Deleting.{StaysViewed}
use Rattle.ddf_stage_promise.specs.Footing.{Footing, desks_of, guids_of}
use Rattle.ddf_stage_promise.specs.Staged.{KeepsStaged, ShowsOne, arrays_by, desks_on, does_count, laid_over, losing, seats_on}
use Rattle.ddf_stage_promise.proofs.Between.{ArraysRemain, arrays_between}
use Rattle.ddf_stage_promise.proofs.Closing.{names_it}
use Rattle.ddf_stage_promise.proofs.Cells.{are_cells, found_cell}
use Rattle.ddf_stage_promise.proofs.Desks.{all_none, desk_before, desk_of, to_desk}
use Rattle.ddf_stage_promise.proofs.Laying.{laid_none}
use Rattle.ddf_stage_promise.proofs.Losing.{through_none, through_some}
use Rattle.ddf_stage_promise.proofs.MoreLost.{more as more_lost, more_stay, seats_same}
use Rattle.ddf_stage_promise.proofs.LostViews.{remains_over}
use Rattle.ddf_stage_promise.proofs.Remains.{DoRemain, Remains, parts_stay}

-- ---- what a gate shows, by fewer arrays

module _ (arrays fewer : List (List ℕ)) (image : Image) (desk : Desk) where
  abbrev shown_by : Bool → Gate → Option Staged
  shown_by b gate = if b then Some (staged_behind image desk gate) else None

  none_less : ((gate : Gate) → names_one fewer gate ≡ true → names_one arrays gate ≡ true) → on_desk arrays image desk ≡ None → on_desk fewer image desk ≡ None
  none_less less e = by (opened (image desk.slot desk.lba)) e
    where
      by_names : (gate : Gate) (a b : Bool) → (b ≡ true → a ≡ true) → shown_by a gate ≡ None → shown_by b gate ≡ None
      by_names gate true b up e = absurd (cc)
      by_names gate false true up e = absurd (let both : false ≡ true = up refl in cc)
      by_names gate false false up e = refl

      by : (o : Option Gate) → ◌≡◌ {A = Option Staged} (elim o [ None ↦ None | Some gate ↦ if names_one arrays gate then Some (staged_behind image desk gate) else None ]) None
          → ◌≡◌ {A = Option Staged} (elim o [ None ↦ None | Some gate ↦ if names_one fewer gate then Some (staged_behind image desk gate) else None ]) None
      by None e = refl
      by (Some gate) e = by_names gate (names_one arrays gate) (names_one fewer gate) (less gate) e

  -- a gate that one shows is shown by the other where it names one there
  shown_same : (staged : Staged) (c : Bool) → names_one fewer staged.gate ≡ c → on_desk arrays image desk ≡ Some staged → on_desk fewer image desk ≡ (if c then Some staged else None)
  shown_same staged c names e = by (opened (image desk.slot desk.lba)) e
    where
      by_names : (gate : Gate) (a : Bool) → shown_by a gate ≡ Some staged → shown_by (names_one fewer gate) gate ≡ (if c then Some staged else None)
      by_names gate true e =
          let same : staged_behind image desk gate ≡ staged = some_is e in
          let gates : gate ≡ staged.gate = ap (λ (x : Staged). x.gate) same in
          ap (λ (b : Bool). shown_by b gate) (ap (names_one fewer) gates ∙ names) ∙ ap (λ (x : Staged). if c then Some x else None) same
      by_names gate false e = absurd (cc)

      by : (o : Option Gate) → ◌≡◌ {A = Option Staged} (elim o [ None ↦ None | Some gate ↦ if names_one arrays gate then Some (staged_behind image desk gate) else None ]) (Some staged)
          → ◌≡◌ {A = Option Staged} (elim o [ None ↦ None | Some gate ↦ if names_one fewer gate then Some (staged_behind image desk gate) else None ]) (if c then Some staged else None)
      by None e = absurd (cc)
      by (Some gate) e = by_names gate (names_one arrays gate) e

  shown_more : ((gate : Gate) → names_one fewer gate ≡ true → names_one arrays gate ≡ true) → (staged : Staged) → on_desk fewer image desk ≡ Some staged → on_desk arrays image desk ≡ Some staged
  shown_more less staged e = by (opened (image desk.slot desk.lba)) e
    where
      by_names : (gate : Gate) (a b : Bool) → (b ≡ true → a ≡ true) → shown_by b gate ≡ Some staged → shown_by a gate ≡ Some staged
      by_names gate true true up e = e
      by_names gate false true up e = absurd (let both : false ≡ true = up refl in cc)
      by_names gate a false up e = absurd (cc)

      by : (o : Option Gate) → ◌≡◌ {A = Option Staged} (elim o [ None ↦ None | Some gate ↦ if names_one fewer gate then Some (staged_behind image desk gate) else None ]) (Some staged)
          → ◌≡◌ {A = Option Staged} (elim o [ None ↦ None | Some gate ↦ if names_one arrays gate then Some (staged_behind image desk gate) else None ]) (Some staged)
      by None e = absurd (cc)
      by (Some gate) e = by_names gate (names_one arrays gate) (names_one fewer gate) (less gate) e

firsts_same : (arrays fewer : List (List ℕ)) (image : Image) (desks : List Desk) → ((k : ℕ) (desk : Desk) → slice_get desks k ≡ Some desk → on_desk arrays image desk ≡ on_desk fewer image desk)
    → first_open arrays image desks ≡ first_open fewer image desks
firsts_same arrays fewer image [] same = refl
firsts_same arrays fewer image (desk ∷ desks) same =
    ap (λ (o : Option Staged). elim o [ None ↦ first_open arrays image desks | Some staged ↦ Some staged ]) (same 0 desk refl)
    ∙ ap (λ (p : Option Staged). elim (on_desk fewer image desk) [ None ↦ p | Some staged ↦ Some staged ]) (firsts_same arrays fewer image desks (λ k next at. same (suc k) next at))

-- ---- the arrays that are left

abbrev guid_list : List (List ℕ × Array) → List (List ℕ)
guid_list es = map (λ (entry : List ℕ × Array). entry.0) es

guids_by : (f : List ℕ → Array → Array) (es : List (List ℕ × Array)) → guid_list (changed_entries (λ g a. Some (f g a)) es) ≡ guid_list es
guids_by f [] = refl
guids_by f (entry ∷ es) = ap (λ (l : List (List ℕ)). entry.0 ∷ l) (guids_by f es)

plus_none : (es : List (List ℕ × Array)) → es ++ [] ≡ es
plus_none [] = refl
plus_none (e ∷ es) = ap (λ (l : List (List ℕ × Array)). e ∷ l) (plus_none es)

module _ (gone : List ℕ) where
  abbrev drop_it : List ℕ → Array → Option Array
  drop_it k x = if same_guid gone k then None else Some x

  abbrev entry_if : Bool → List ℕ × Array → Option (List ℕ × Array)
  entry_if b e = option_map (λ value. (e.0, value)) (if b then None else Some e.1)

  not_or : (a b : Bool) → a ≡ false → b ≡ (a || b)
  not_or true b e = absurd (cc)
  not_or false b e = refl

  names_kept : (es : List (List ℕ × Array)) (gate : Gate) → same_guid gone gate.array ≡ false → names_one (guid_list (changed_entries drop_it es)) gate ≡ names_one (guid_list es) gate
  names_kept [] gate differs = refl
  names_kept (e ∷ es) gate differs = by (same_guid gone e.0) refl (names_kept es gate differs)
    where
      by : (b : Bool) → same_guid gone e.0 ≡ b → names_one (guid_list (changed_entries drop_it es)) gate ≡ names_one (guid_list es) gate
          → names_one (guid_list (cons_option (entry_if b e) (changed_entries drop_it es))) gate ≡ (pointwise nat_eq e.0 gate.array || names_one (guid_list es) gate)
      by true is rest = rest ∙ not_or (pointwise nat_eq e.0 gate.array) (names_one (guid_list es) gate) (ap (λ (g : List ℕ). same_guid g gate.array) (sym (guid_is gone e.0 is)) ∙ differs)
      by false is rest = ap (λ (b : Bool). pointwise nat_eq e.0 gate.array || b) rest

  neither : (a b : Bool) → a ≡ false → b ≡ false → (a || b) ≡ false
  neither true b e f = absurd (cc)
  neither false b e f = f

  not_true : (b : Bool) → (b ≡ true → ⊥) → b ≡ false
  not_true true never = absurd (never refl)
  not_true false never = refl

  names_gone : (es : List (List ℕ × Array)) (gate : Gate) → same_guid gone gate.array ≡ true → names_one (guid_list (changed_entries drop_it es)) gate ≡ false
  names_gone [] gate same = refl
  names_gone (e ∷ es) gate same = by (same_guid gone e.0) refl (names_gone es gate same)
    where
      by : (b : Bool) → same_guid gone e.0 ≡ b → names_one (guid_list (changed_entries drop_it es)) gate ≡ false → names_one (guid_list (cons_option (entry_if b e) (changed_entries drop_it es))) gate ≡ false
      by true is rest = rest
      by false is rest =
          neither (pointwise nat_eq e.0 gate.array) (names_one (guid_list (changed_entries drop_it es)) gate)
          (not_true (pointwise nat_eq e.0 gate.array)
          (λ named. let one = guid_is e.0 gate.array named in true_false (same_guid gone e.0) (ap (same_guid gone) one ∙ same) is)) rest

  module _ (last : Configuration) (sequence : ℕ) where
    guids_left : guids_of (changed_at last (Delete gone) sequence) ≡ guid_list (changed_entries drop_it last.arrays)
    guids_left =
        guids_by (λ g. array_with_low (members_after last (Delete gone)) (extents (kept_and_added last (Delete gone)))) (kept_and_added last (Delete gone)) ∙ ap guid_list (plus_none (changed_entries drop_it last.arrays))

    names_left : (gate : Gate) → same_guid gone gate.array ≡ false → names_one (guids_of (changed_at last (Delete gone) sequence)) gate ≡ names_one (guids_of last) gate
    names_left gate differs = ap (λ (l : List (List ℕ)). names_one l gate) guids_left ∙ names_kept last.arrays gate differs

    names_no_more : (gate : Gate) → same_guid gone gate.array ≡ true → names_one (guids_of (changed_at last (Delete gone) sequence)) gate ≡ false
    names_no_more gate same = ap (λ (l : List (List ℕ)). names_one l gate) guids_left ∙ names_gone last.arrays gate same

    names_less : (gate : Gate) → names_one (guids_of (changed_at last (Delete gone) sequence)) gate ≡ true → names_one (guids_of last) gate ≡ true
    names_less gate named = by (same_guid gone gate.array) refl
      where
        by : (b : Bool) → same_guid gone gate.array ≡ b → names_one (guids_of last) gate ≡ true
        by true is = absurd (true_false (names_one (guids_of (changed_at last (Delete gone) sequence)) gate) named (names_no_more gate is))
        by false is = sym (names_left gate is) ∙ named

    drops_by : (b : Bool) (x y : Array) → (if b then None else Some x) ≡ None → (◌≡◌ {A = Option Array} (if b then None else Some y) None)
    drops_by true x y e = refl
    drops_by false x y e = absurd (cc)

    drops : (guid : List ℕ) (k l : List ℕ) (x y : Array) → same_guid guid k ≡ true → same_guid guid l ≡ true → (if same_guid gone k then None else Some x) ≡ None → (◌≡◌ {A = Option Array} (if same_guid gone l then None else Some y) None)
    drops guid k l x y a b e =
        let same : k ≡ l = sym (guid_is guid k a) ∙ guid_is guid l b in drops_by (same_guid gone l) x y (ap (λ (c : List ℕ). if same_guid gone c then None else Some x) (sym same) ∙ e)

    kept_by : (b : Bool) (x y : Array) → (if b then None else Some x) ≡ Some y → (b ≡ false) × (x ≡ y)
    kept_by true x y e = absurd (cc)
    kept_by false x y e = (refl, some_is e)

    -- an array that is left was there, its low state aside, and isn't the one that is gone
    pub record WasThere (guid : List ℕ) (array : Array) : Type 0 where
      pub value : Array
      pub was : lookup (same_guid guid) last.arrays ≡ Some value
      pub is_low : array_with_low (members_after last (Delete gone)) (extents (kept_and_added last (Delete gone))) value ≡ array
      pub differs : same_guid gone guid ≡ false

    was_there : (guid : List ℕ) (array : Array) → lookup (same_guid guid) (changed_at last (Delete gone) sequence).arrays ≡ Some array → WasThere guid array
    was_there guid array found =
        let members = members_after last (Delete gone) in
        let all = extents (kept_and_added last (Delete gone)) in
        let low = value_before (λ k x. Some (array_with_low members all x)) (same_guid guid) (never_drops (λ k x. array_with_low members all x) (same_guid guid)) (kept_and_added last (Delete gone)) array found in
        let same : array_with_low members all low.value ≡ array = let e = low.is_changed in cc in
        let there = ⊎_elim (λ old. old) (λ added. absurd (none_there low.value added)) (found_in (same_guid guid) (changed_entries drop_it last.arrays) [] low.value low.was) in
        let was = value_before drop_it (same_guid guid) (drops guid) last.arrays low.value there in
        let kept = kept_by (same_guid gone was.key) was.value low.value was.is_changed in
        record {
          value = was.value;
          was = was.was;
          is_low = ap (array_with_low members all) kept.1 ∙ same;
          differs = ap (same_guid gone) (guid_is guid was.key was.passes) ∙ kept.0;
        }
      where
        none_there : (x : Array) → ◌≡◌ {A = Option Array} None (Some x) → ⊥
        none_there x e = cc

    positions_self : (positions : List Position) → AreLessPositions positions positions
    positions_self [] = tt
    positions_self (one ∷ positions) = (inr (refl, refl, refl, inr refl), positions_self positions)

    parts_self : (known : List (Option ElementValue)) → AreLessParts known known
    parts_self [] = tt
    parts_self (None ∷ known) = (tt, parts_self known)
    parts_self (Some element ∷ known) = (record { same_level = refl; same_qualifier = refl; same_strip = refl; same_blocks = refl; less = positions_self element.positions }, parts_self known)

    low_less : (array : Array) → IsLessArray array (array_with_low (members_after last (Delete gone)) (extents (kept_and_added last (Delete gone))) array)
    low_less array = record { same_secondary = refl; mark_is = inr (same_mark (members_after last (Delete gone)) (extents (kept_and_added last (Delete gone))) array); less = parts_self array.elements }

    pub left_remain : (seats : List Seat) → AreCurrentSeats last.members seats → ArraysRemain last (changed_at last (Delete gone) sequence) seats seats
    left_remain seats are guid array found =
        let was = was_there guid array found in (
          was.value,
          was.was,
          λ w over.
              remains_over last.members seats seats was.value array w are (λ reference. inr (refl, refl)) (subst (IsLessArray was.value) was.is_low (low_less was.value))
              (subst (λ (a : Array). DoRemain was.value.elements a.elements) was.is_low (parts_stay was.value.elements)) over,
        )

-- ---- an array is deleted

module _ (group : List ℕ) (footing : Footing) (small : (slot : ℕ) → footing.floor slot < 2 ^ 64) (past : Past (groups group)) (image : Image) (are_image : AreSectors image) (promises : Promises)
    (kept : KeepsStaged group footing past image promises) (one : ShowsOne group footing past image) (number : ℕ) (last : Configuration) (since : IsSince past.changes number last) (gone : List ℕ) (sequence : ℕ)
    (rises : last.sequence < sequence) (known : HasVolumes last) (counts : does_count footing past.changes.own_from number ≡ true)
    (viewed : StaysViewed gone last (changed_at last (Delete gone) sequence) (desks_on group footing past last) image) where
  abbrev next : Configuration
  next = changed_at last (Delete gone) sequence

  no_more : (disk : Disk) → has_current (changed_at last (Delete gone) sequence) disk ≡ true → has_current last disk ≡ true
  no_more = (changes_follow group last (Delete gone) sequence rises).no_more

  up_by : (b c d : Bool) → (c ≡ true → d ≡ true) → (b || c) ≡ true → (b || d) ≡ true
  up_by true c d up e = refl
  up_by false c d up e = up e

  counts_up : (n : ℕ) → number ≤ n → does_count footing past.changes.own_from n ≡ true
  counts_up n later =
      up_by footing.counts (nat_le past.changes.own_from number) (nat_le past.changes.own_from n)
      (λ low. let own = leb-true past.changes.own_from number low in le-leb past.changes.own_from n (omega (arith, own, later))) counts

  module _ (lost : ℕ → Bool) (stay : (slot : ℕ) → past.lost slot ≡ true → lost slot ≡ true) where
    abbrev more : ℕ → Bool
    more = more_lost group past (changed_at last (Delete gone) sequence) lost

    more_stays : (slot : ℕ) → past.lost slot ≡ true → more slot ≡ true
    more_stays = more_stay group past (changed_at last (Delete gone) sequence) lost stay

    same_seats : seats_on group footing (losing group footing past lost) (changed_at last (Delete gone) sequence) ≡ seats_on group footing (losing group footing past more) last
    same_seats = seats_same group past (changed_at last (Delete gone) sequence) lost footing last no_more

    abbrev seats : List Seat
    seats = seats_on group footing (losing group footing past more) last

    abbrev desks : List Desk
    desks = desks_of footing.gate (seats_on group footing (losing group footing past more) last)

    are : AreCurrentSeats last.members (seats_on group footing (losing group footing past more) last)
    are = seats_are group footing.floor small (losing group footing past more) last

    after_are : AreCurrentSeats (members_after last (Delete gone)) (seats_on group footing (losing group footing past more) last)
    after_are =
        subst (AreCurrentSeats (members_after last (Delete gone))) same_seats (seats_are group footing.floor small (losing group footing past lost) (changed_at last (Delete gone) sequence))

    abbrev Holds : Image → Type 0
    Holds x = KeepsArrays (changed_at last (Delete gone) sequence) (seats_on group footing (losing group footing past more) last) x promises

    -- what was laid over before, under the later configuration
    before : Holds (through desks (guids_of last) (cells_in last seats) image)
    before =
        changed_keeps last (seats_on group footing (losing group footing past more) last) (seats_on group footing (losing group footing past more) last) (through desks (guids_of last) (cells_in last seats) image) promises
        are (λ reference. inr (refl, refl))
        (subst (λ (b : Bool). KeepsArrays last (seats_on group footing (losing group footing past more) last) (through desks (arrays_by b last) (cells_in last seats) image) promises) counts (kept more more_stays number last since))
        (Delete gone) sequence after_are tt

    floors : (reference floor : ℕ) → floor_of (seats_on group footing (losing group footing past more) last) reference ≡ Some floor → floor < 2 ^ 64
    floors = are.small

    -- over none of the cells of the array that is gone
    bare : (staged : Staged) → same_guid gone staged.gate.array ≡ true → (r : Result Volume Refusal) → view_of last staged.gate.array seats ≡ r → Holds (laid staged (cells_by r staged.gate) image) → Holds image
    bare staged same (Err refusal) view keeps = keeps
    bare staged same (Ok v) view keeps =
        let v_known = known staged.gate.array seats v floors view in
        arrays_between last (changed_at last (Delete gone) sequence) seats seats are (are_members group footing.floor (losing group footing past more) last) (left_remain gone last sequence seats are)
        (λ s l. Unit {0}) (λ array w over e p x s l lies. tt) staged.gate.array v view v_known (laid staged (cells_of v staged.gate) image) image (λ was. are_image)
        (λ s l low. by v v_known s l (find (is_cell_at s l) (cells_of v staged.gate)) refl) promises keeps
      where
        by : (v : Volume) (v_known : IsVolume v) (s l : ℕ) (o : Option StageCell) → find (is_cell_at s l) (cells_of v staged.gate) ≡ o
            → (laid staged (cells_of v staged.gate) image s l ≡ image s l)
            ⊎ (IsCellOf v s l × ((w : Volume) → Remains v w → IsCellOf w s l → (array : Array) → lookup (same_guid staged.gate.array) (changed_at last (Delete gone) sequence).arrays ≡ Some array → IsOver seats array w → ⊥))
        by v v_known s l None e = inl (laid_none staged (cells_of v staged.gate) image s l e)
        by v v_known s l (Some cell) e =
            inr (
              found_cell v v_known staged s l cell (cells_of v staged.gate) (are_cells v v_known staged) e,
              λ w remains its array found over. true_false (same_guid gone staged.gate.array) same (was_there gone last sequence staged.gate.array array found).differs,
            )

    was_desk : (k : ℕ) (desk : Desk) → slice_get desks k ≡ Some desk → (j : ℕ) × (slice_get (desks_on group footing past last) j ≡ Some desk)
    was_desk k desk at = desk_before group footing past last more more_stays k desk at

    shows_it : (staged : Staged) → first_open (guids_of last) image desks ≡ Some staged → (k : ℕ) (desk : Desk) (shown : Staged) → slice_get desks k ≡ Some desk → on_desk (guids_of last) image desk ≡ Some shown → shown ≡ staged
    shows_it staged e k desk shown at opens =
        let there = open_at (guids_of last) image desks staged e in
        let was = was_desk k desk at in
        let was' = was_desk there.number there.desk there.is_desk in
        one number last since was.0 was'.0 desk there.desk shown staged was.1 was'.1
        (subst (λ (b : Bool). on_desk (arrays_by b last) image desk ≡ Some shown) (sym counts) opens) (subst (λ (b : Bool). on_desk (arrays_by b last) image there.desk ≡ Some staged) (sym counts) there.stands)

    -- what each desk shows then
    shows_next : (staged : Staged) → first_open (guids_of last) image desks ≡ Some staged → (c : Bool) → names_one (guids_of (changed_at last (Delete gone) sequence)) staged.gate ≡ c → (k : ℕ) (desk : Desk)
        → slice_get desks k ≡ Some desk → (o : Option Staged) → on_desk (guids_of last) image desk ≡ o → on_desk (guids_of (changed_at last (Delete gone) sequence)) image desk ≡ (if c then o else None)
    shows_next staged e c names k desk at None is = by c
      where
        by : (b : Bool) → on_desk (guids_of (changed_at last (Delete gone) sequence)) image desk ≡ (if b then None else None)
        by true = none_less (guids_of last) (guids_of (changed_at last (Delete gone) sequence)) image desk (names_less gone last sequence) is
        by false = none_less (guids_of last) (guids_of (changed_at last (Delete gone) sequence)) image desk (names_less gone last sequence) is
    shows_next staged e c names k desk at (Some shown) is =
        let same = shows_it staged e k desk shown at is in
        shown_same (guids_of last) (guids_of (changed_at last (Delete gone) sequence)) image desk shown c (ap (λ (x : Staged). names_one (guids_of (changed_at last (Delete gone) sequence)) x.gate) same ∙ names) is

    by_gone : (staged : Staged) → first_open (guids_of last) image desks ≡ Some staged → (b : Bool) → same_guid gone staged.gate.array ≡ b
        → Holds (through desks (guids_of (changed_at last (Delete gone) sequence)) (cells_in (changed_at last (Delete gone) sequence) seats) image)
    by_gone staged e true same =
        let none = all_none (guids_of (changed_at last (Delete gone) sequence)) image desks
        (λ k desk at. shows_next staged e false (names_no_more gone last sequence staged.gate same) k desk at (on_desk (guids_of last) image desk) refl) in
        subst Holds (sym (through_none desks (guids_of (changed_at last (Delete gone) sequence)) (cells_in (changed_at last (Delete gone) sequence) seats) image none))
        (bare staged same (view_of last staged.gate.array seats) refl (subst Holds (through_some desks (guids_of last) (cells_in last seats) image staged e) before))
    by_gone staged e false differs =
        let there = open_at (guids_of last) image desks staged e in
        let was = was_desk there.number there.desk there.is_desk in
        let views = viewed was.0 there.desk staged was.1 there.stands differs seats in
        let names = names_left gone last sequence staged.gate differs ∙ names_it (guids_of last) image there.desk staged there.stands in
        let first = sym (firsts_same (guids_of last) (guids_of (changed_at last (Delete gone) sequence)) image desks (λ k desk at. sym (shows_next staged e true names k desk at (on_desk (guids_of last) image desk) refl))) ∙ e in
        subst Holds
        (through_some desks (guids_of last) (cells_in last seats) image staged e
        ∙ ap (λ (r : Result Volume Refusal). laid staged (cells_by r staged.gate) image) (sym views)
        ∙ sym (through_some desks (guids_of (changed_at last (Delete gone) sequence)) (cells_in (changed_at last (Delete gone) sequence) seats) image staged first)) before

    by_first : (o : Option Staged) → first_open (guids_of last) image desks ≡ o → Holds (through desks (guids_of (changed_at last (Delete gone) sequence)) (cells_in (changed_at last (Delete gone) sequence) seats) image)
    by_first None e =
        let none = all_none (guids_of (changed_at last (Delete gone) sequence)) image desks
        (λ k desk at. none_less (guids_of last) (guids_of (changed_at last (Delete gone) sequence)) image desk (names_less gone last sequence) (none_at (guids_of last) image desks e k desk at)) in
        subst Holds
        (through_none desks (guids_of last) (cells_in last seats) image e
        ∙ sym (through_none desks (guids_of (changed_at last (Delete gone) sequence)) (cells_in (changed_at last (Delete gone) sequence) seats) image none)) before
    by_first (Some staged) e = by_gone staged e (same_guid gone staged.gate.array) refl

    next_keeps : (n : ℕ) → number ≤ n
        → KeepsArrays (changed_at last (Delete gone) sequence) (seats_on group footing (losing group footing past lost) (changed_at last (Delete gone) sequence))
        (laid_over group footing (losing group footing past lost) n (changed_at last (Delete gone) sequence) image) promises
    next_keeps n later =
        subst
        (λ (over : List Seat). KeepsArrays (changed_at last (Delete gone) sequence) over
        (through (desks_of footing.gate over) (arrays_by (does_count footing past.changes.own_from n) (changed_at last (Delete gone) sequence)) (cells_in (changed_at last (Delete gone) sequence) over) image) promises) (sym same_seats)
        (subst (λ (b : Bool). Holds (through desks (arrays_by b (changed_at last (Delete gone) sequence)) (cells_in (changed_at last (Delete gone) sequence) seats) image)) (sym (counts_up n later))
        (by_first (first_open (guids_of last) image desks) refl))

  pub deleted_keeps : KeepsStaged group footing (issue past (changed_at last (Delete gone) sequence)) image promises
  deleted_keeps lost stay n config issued =
      ⊎_elim
      (λ old. kept lost stay n config (record { late = issued.late; is_there = old }))
      (λ new.
      subst (λ (c : Configuration). KeepsArrays c (seats_on group footing (losing group footing past lost) c) (laid_over group footing (losing group footing past lost) n c image) promises) (sym new.1)
      (next_keeps lost stay n (omega (arith, new.0, slice_get_within past.changes.issued number last since.is_there))))
      (get_more past.changes.issued (changed_at last (Delete gone) sequence) n config issued.is_there)

  -- and all gates still show one thing
  desk_was : (k : ℕ) (desk : Desk) → slice_get (desks_on group footing past (changed_at last (Delete gone) sequence)) k ≡ Some desk → (j : ℕ) × (slice_get (desks_on group footing past last) j ≡ Some desk)
  desk_was k desk at =
      let of = desk_of group footing past (changed_at last (Delete gone) sequence) k desk at in
      to_desk group footing past last desk.slot desk.lba
      (seat_more (past.lost desk.slot) (has_current (changed_at last (Delete gone) sequence) (past.disk desk.slot)) (has_current last (past.disk desk.slot)) (no_more (past.disk desk.slot)) of.is_its) of.below of.is_gate
    where
      seat_more : (a c d : Bool) → (c ≡ true → d ≡ true) → (not a && c) ≡ true → (not a && d) ≡ true
      seat_more true c d up e = absurd (cc)
      seat_more false c d up e = up e

  abbrev OneBy : Bool → Configuration → Type 0
  OneBy b config =
      (j k : ℕ) (desk other : Desk) (staged shown : Staged) → slice_get (desks_on group footing past config) j ≡ Some desk → slice_get (desks_on group footing past config) k ≡ Some other
      → on_desk (arrays_by b config) image desk ≡ Some staged → on_desk (arrays_by b config) image other ≡ Some shown → staged ≡ shown

  one_next : OneBy true (changed_at last (Delete gone) sequence)
  one_next j k desk other staged shown at at' opens opens' =
      let was = desk_was j desk at in
      let was' = desk_was k other at' in
      let up = names_less gone last sequence in
      one number last since was.0 was'.0 desk other staged shown was.1 was'.1
      (subst (λ (b : Bool). on_desk (arrays_by b last) image desk ≡ Some staged) (sym counts) (shown_more (guids_of last) (guids_of (changed_at last (Delete gone) sequence)) image desk up staged opens))
      (subst (λ (b : Bool). on_desk (arrays_by b last) image other ≡ Some shown) (sym counts) (shown_more (guids_of last) (guids_of (changed_at last (Delete gone) sequence)) image other up shown opens'))

  pub deleted_shows : ShowsOne group footing (issue past (changed_at last (Delete gone) sequence)) image
  deleted_shows n config issued =
      ⊎_elim
      (λ old. one n config (record { late = issued.late; is_there = old }))
      (λ new.
      subst (OneBy (does_count footing past.changes.own_from n)) (sym new.1)
      (subst (λ (b : Bool). OneBy b (changed_at last (Delete gone) sequence)) (sym (counts_up n (omega (arith, new.0, slice_get_within past.changes.issued number last since.is_there)))) one_next))
      (get_more past.changes.issued (changed_at last (Delete gone) sequence) n config issued.is_there)
