-- The data of a group are kept where members are counted as lost while gates stand open.
use Rattle.std.proofs.Common.{◌≡◌, ◌∙◌, ◌⊎◌, inr, ⊎_elim, ℕ, ◌<◌, ◌≤◌, ◌^◌, Bool, true, false, not, List, [], Option, Some, None, Result, refl, sym, ap, subst, arith, slice_get, ◌&&◌, ◌||◌}
use Rattle.std.specs.Prelude.{nat_le, if◌then◌else◌}
use Rattle.std.proofs.lemmas.Bool.{leb-true, le-leb}
use Rattle.std.proofs.lemmas.Option.{slice_get_within}
use Rattle.ddf_bay.specs.Sectors.{Image}
use Rattle.ddf_config.specs.declared.refusal.Refusal.{Refusal}
use Rattle.ddf_config.specs.declared.seat.Seat.{Seat}
use Rattle.ddf_config.specs.Configuration.{Configuration}
use Rattle.ddf_config.specs.Seats.{floor_of}
use Rattle.ddf_plan.specs.declared.change.Change.TheVariants.{Lose}
use Rattle.ddf_plan.specs.Changes.{changed_at}
use Rattle.ddf_plan.specs.Members.{members_after}
use Rattle.ddf_array.specs.Sound.{AreSectors}
use Rattle.ddf_array.specs.Volume.{Volume}
use Rattle.ddf_data_group.specs.Grouped.{KeepsArrays, Promises}
use Rattle.ddf_data_group.specs.Over.{AreCurrentSeats}
use Rattle.ddf_data_group.proofs.Changed.{changed_keeps}
use Rattle.ddf_history.specs.Groups.{Disk, groups, has_current}
use Rattle.ddf_history.specs.Issued.{Past, IsSince, issue}
use Rattle.ddf_history.proofs.Following.{changes_follow}
use Rattle.ddf_history.proofs.Lists.{get_more}
use Rattle.ddf_data_history.proofs.Steps.{seats_are}
use Rattle.ddf_data_history.proofs.Viewed.{are_members}
use Rattle.ddf_stage.specs.declared.desk.Desk.{Desk}
use Rattle.ddf_stage.specs.declared.desk.StageCell.{StageCell}
use Rattle.ddf_stage.specs.declared.desk.Staged.{Staged}
use Rattle.ddf_stage.specs.declared.gate.Gate.{Gate}
use Rattle.ddf_stage.specs.Gate.{opened}
use Rattle.ddf_stage.specs.Laid.{first_open, laid, names_one, on_desk, staged_behind}
use Rattle.ddf_stage_data.specs.Moments.{through}
use Rattle.ddf_stage_promise.specs.Cells.{HasVolumes, cells_by, cells_in}
use Rattle.ddf_stage_promise.specs.Footing.{Footing, desks_of, guids_of}
use Rattle.ddf_stage_promise.specs.Staged.{KeepsStaged, ShowsOne, arrays_by, desks_on, does_count, laid_over, losing, seats_on}
use Rattle.ddf_stage_promise.proofs.Desks.{all_none, desk_before, desk_of, to_desk}
use Rattle.ddf_stage_promise.proofs.Laying.{laid_between, view_remains}
use Rattle.ddf_stage_promise.proofs.LostViews.{arrays_remain, guids_same, views_agree}
use Rattle.ddf_stage_promise.proofs.MoreLost.{more as more_lost, more_stay, seats_same}

-- ---- gates that count for nothing

-- no gate names one of no arrays
pub names_none : (image : Image) (desk : Desk) → on_desk [] image desk ≡ None
names_none image desk = by (opened (image desk.slot desk.lba))
  where
    by : (o : Option Gate) → ◌≡◌ {A = Option Staged} (elim o [ None ↦ None | Some gate ↦ if names_one [] gate then Some (staged_behind image desk gate) else None ]) None
    by None = refl
    by (Some gate) = refl

-- a gate that names none of the arrays counts for nothing, whether gates count or not
pub shut_for : (image : Image) (desk : Desk) (b : Bool) (config : Configuration) (guids : List (List ℕ)) → guids_of config ≡ guids → on_desk guids image desk ≡ None → on_desk (arrays_by b config) image desk ≡ None
shut_for image desk true config guids same shut = ap (λ (l : List (List ℕ)). on_desk l image desk) same ∙ shut
shut_for image desk false config guids same shut = names_none image desk

-- ---- what is laid over by the first open gate

pub through_none : (desks : List Desk) (arrays : List (List ℕ)) (cells : Staged → List StageCell) (image : Image) → first_open arrays image desks ≡ None → through desks arrays cells image ≡ image
through_none desks arrays cells image e = ap (λ (o : Option Staged). elim o [ None ↦ image | Some staged ↦ laid staged (cells staged) image ]) e

pub through_some : (desks : List Desk) (arrays : List (List ℕ)) (cells : Staged → List StageCell) (image : Image) (staged : Staged) → first_open arrays image desks ≡ Some staged
    → through desks arrays cells image ≡ laid staged (cells staged) image
through_some desks arrays cells image staged e = ap (λ (o : Option Staged). elim o [ None ↦ image | Some staged ↦ laid staged (cells staged) image ]) e

-- ---- members are counted as lost

module _ (group : List ℕ) (footing : Footing) (small : (slot : ℕ) → footing.floor slot < 2 ^ 64) (past : Past (groups group)) (image : Image) (are_image : AreSectors image) (promises : Promises)
    (kept : KeepsStaged group footing past image promises) (number : ℕ) (last : Configuration) (since : IsSince past.changes number last) (references : List ℕ) (sequence : ℕ) (rises : last.sequence < sequence)
    (known : HasVolumes last) (next_known : HasVolumes (changed_at last (Lose references) sequence))
    -- gates count already, or none stands open that will
    (counts : (does_count footing past.changes.own_from number ≡ true)
    ⊎ ((k : ℕ) (desk : Desk) → slice_get (desks_on group footing past last) k ≡ Some desk → on_desk (guids_of last) image desk ≡ None)) where
  abbrev next : Configuration
  next = changed_at last (Lose references) sequence

  no_more : (disk : Disk) → has_current (changed_at last (Lose references) sequence) disk ≡ true → has_current last disk ≡ true
  no_more = (changes_follow group last (Lose references) sequence rises).no_more

  module _ (lost : ℕ → Bool) (stay : (slot : ℕ) → past.lost slot ≡ true → lost slot ≡ true) where
    -- the slots of members that are counted as lost are lost too
    abbrev more : ℕ → Bool
    more = more_lost group past (changed_at last (Lose references) sequence) lost

    more_stays : (slot : ℕ) → past.lost slot ≡ true → more slot ≡ true
    more_stays = more_stay group past (changed_at last (Lose references) sequence) lost stay

    same_seats : seats_on group footing (losing group footing past lost) (changed_at last (Lose references) sequence) ≡ seats_on group footing (losing group footing past more) last
    same_seats = seats_same group past (changed_at last (Lose references) sequence) lost footing last no_more

    abbrev seats : List Seat
    seats = seats_on group footing (losing group footing past more) last

    are : AreCurrentSeats last.members (seats_on group footing (losing group footing past more) last)
    are = seats_are group footing.floor small (losing group footing past more) last

    after_are : AreCurrentSeats (members_after last (Lose references)) (seats_on group footing (losing group footing past more) last)
    after_are =
        subst (AreCurrentSeats (members_after last (Lose references))) same_seats (seats_are group footing.floor small (losing group footing past lost) (changed_at last (Lose references) sequence))

    -- what was laid over before, under the later configuration
    before : KeepsArrays (changed_at last (Lose references) sequence) (seats_on group footing (losing group footing past more) last) (laid_over group footing (losing group footing past more) number last image) promises
    before =
        changed_keeps last (seats_on group footing (losing group footing past more) last) (seats_on group footing (losing group footing past more) last) (laid_over group footing (losing group footing past more) number last image) promises
        are (λ reference. inr (refl, refl)) (kept more more_stays number last since) (Lose references) sequence after_are tt

    floors : (reference floor : ℕ) → floor_of (seats_on group footing (losing group footing past more) last) reference ≡ Some floor → floor < 2 ^ 64
    floors = are.small

    -- over the cells that remain
    module _ (staged : Staged) where
      abbrev Keeps : List StageCell → Type 0
      Keeps cells = KeepsArrays (changed_at last (Lose references) sequence) (seats_on group footing (losing group footing past more) last) (laid staged cells image) promises

      remains_laid : Keeps (cells_in last (seats_on group footing (losing group footing past more) last) staged)
          → Keeps (cells_in (changed_at last (Lose references) sequence) (seats_on group footing (losing group footing past more) last) staged)
      remains_laid keeps =
          ⊎_elim
          (λ both.
          let v_known = known staged.gate.array (seats_on group footing (losing group footing past more) last) both.v floors both.view in
          let w_known = next_known staged.gate.array (seats_on group footing (losing group footing past more) last) both.w floors both.after_view in
          let remain = arrays_remain last references sequence (seats_on group footing (losing group footing past more) last) are in
          let remains = view_remains last (changed_at last (Lose references) sequence) (seats_on group footing (losing group footing past more) last) (seats_on group footing (losing group footing past more) last) remain
          staged.gate.array both.v both.w both.view v_known both.after_view w_known in
          subst Keeps (ap (λ (r : Result Volume Refusal). cells_by r staged.gate) (sym both.after_view))
          (laid_between last (changed_at last (Lose references) sequence) (seats_on group footing (losing group footing past more) last) (seats_on group footing (losing group footing past more) last) are
          (are_members group footing.floor (losing group footing past more) last) remain (λ s l. Unit {0}) (λ array w over e p x s l lies. tt)
          staged.gate.array both.v both.w both.view v_known both.after_view w_known remains staged image image are_image promises (λ s l low none. refl)
          (subst Keeps (ap (λ (r : Result Volume Refusal). cells_by r staged.gate) both.view) keeps)))
          (λ none. subst Keeps (ap (λ (r : Result Volume Refusal). cells_by r staged.gate) none.view ∙ ap (λ (r : Result Volume Refusal). cells_by r staged.gate) (sym none.after_view)) keeps)
          (views_agree last references sequence (seats_on group footing (losing group footing past more) last) staged.gate.array)

    -- ---- by the first open gate

    abbrev desks : List Desk
    desks = desks_of footing.gate (seats_on group footing (losing group footing past more) last)

    abbrev named : ℕ → Configuration → List (List ℕ)
    named n config = arrays_by (does_count footing past.changes.own_from n) config

    abbrev Holds : ℕ → Type 0
    Holds n =
        KeepsArrays (changed_at last (Lose references) sequence) (seats_on group footing (losing group footing past more) last)
        (through desks (named n (changed_at last (Lose references) sequence)) (cells_in (changed_at last (Lose references) sequence) (seats_on group footing (losing group footing past more) last)) image) promises

    up_by : (b c d : Bool) → (c ≡ true → d ≡ true) → (b || c) ≡ true → (b || d) ≡ true
    up_by true c d up e = refl
    up_by false c d up e = up e

    counts_up : (n : ℕ) → number ≤ n → does_count footing past.changes.own_from number ≡ true → does_count footing past.changes.own_from n ≡ true
    counts_up n later is =
        up_by footing.counts (nat_le past.changes.own_from number) (nat_le past.changes.own_from n)
        (λ low. let own = leb-true past.changes.own_from number low in le-leb past.changes.own_from n (omega (arith, own, later))) is

    named_same : (n : ℕ) → number ≤ n → does_count footing past.changes.own_from number ≡ true → named n (changed_at last (Lose references) sequence) ≡ named number last
    named_same n later is =
        ap (λ (b : Bool). arrays_by b (changed_at last (Lose references) sequence)) (counts_up n later is) ∙ guids_same last references sequence ∙ ap (λ (b : Bool). arrays_by b last) (sym is)

    by_first : (n : ℕ) → named n (changed_at last (Lose references) sequence) ≡ named number last → (o : Option Staged) → first_open (named number last) image desks ≡ o → Holds n
    by_first n same None is =
        let plain = through_none desks (named number last) (cells_in last (seats_on group footing (losing group footing past more) last)) image is in
        let plain' = through_none desks (named n (changed_at last (Lose references) sequence)) (cells_in (changed_at last (Lose references) sequence) (seats_on group footing (losing group footing past more) last)) image
        (ap (λ (l : List (List ℕ)). first_open l image desks) same ∙ is) in
        subst (λ (x : Image). KeepsArrays (changed_at last (Lose references) sequence) (seats_on group footing (losing group footing past more) last) x promises) (plain ∙ sym plain') before
    by_first n same (Some staged) is =
        let over = through_some desks (named number last) (cells_in last (seats_on group footing (losing group footing past more) last)) image staged is in
        let over' = through_some desks (named n (changed_at last (Lose references) sequence)) (cells_in (changed_at last (Lose references) sequence) (seats_on group footing (losing group footing past more) last)) image staged
        (ap (λ (l : List (List ℕ)). first_open l image desks) same ∙ is) in
        subst (λ (x : Image). KeepsArrays (changed_at last (Lose references) sequence) (seats_on group footing (losing group footing past more) last) x promises) (sym over')
        (remains_laid staged (subst (λ (x : Image). KeepsArrays (changed_at last (Lose references) sequence) (seats_on group footing (losing group footing past more) last) x promises) over before))

    by_shut : (n : ℕ) → ((k : ℕ) (desk : Desk) → slice_get (desks_on group footing past last) k ≡ Some desk → on_desk (guids_of last) image desk ≡ None) → Holds n
    by_shut n shut =
        let all : (k : ℕ) (desk : Desk) → slice_get desks k ≡ Some desk → on_desk (guids_of last) image desk ≡ None =
        λ k desk at. let old = desk_before group footing past last more more_stays k desk at in shut old.0 desk old.1 in
        let plain = through_none desks (named number last) (cells_in last (seats_on group footing (losing group footing past more) last)) image
        (all_none (named number last) image desks (λ k desk at. shut_for image desk (does_count footing past.changes.own_from number) last (guids_of last) refl (all k desk at))) in
        let plain' = through_none desks (named n (changed_at last (Lose references) sequence)) (cells_in (changed_at last (Lose references) sequence) (seats_on group footing (losing group footing past more) last)) image
        (all_none (named n (changed_at last (Lose references) sequence)) image desks
        (λ k desk at. shut_for image desk (does_count footing past.changes.own_from n) (changed_at last (Lose references) sequence) (guids_of last) (guids_same last references sequence) (all k desk at))) in
        subst (λ (x : Image). KeepsArrays (changed_at last (Lose references) sequence) (seats_on group footing (losing group footing past more) last) x promises) (plain ∙ sym plain') before

    holds : (n : ℕ) → number ≤ n → Holds n
    holds n later = ⊎_elim (λ is. by_first n (named_same n later is) (first_open (named number last) image desks) refl) (λ shut. by_shut n shut) counts

    next_keeps : (n : ℕ) → number ≤ n
        → KeepsArrays (changed_at last (Lose references) sequence) (seats_on group footing (losing group footing past lost) (changed_at last (Lose references) sequence))
        (laid_over group footing (losing group footing past lost) n (changed_at last (Lose references) sequence) image) promises
    next_keeps n later =
        subst
        (λ (over : List Seat). KeepsArrays (changed_at last (Lose references) sequence) over
        (through (desks_of footing.gate over) (named n (changed_at last (Lose references) sequence)) (cells_in (changed_at last (Lose references) sequence) over) image) promises) (sym same_seats) (holds n later)

  pub lost_keeps : KeepsStaged group footing (issue past (changed_at last (Lose references) sequence)) image promises
  lost_keeps lost stay n config issued =
      ⊎_elim
      (λ old. kept lost stay n config (record { late = issued.late; is_there = old }))
      (λ new.
      subst (λ (c : Configuration). KeepsArrays c (seats_on group footing (losing group footing past lost) c) (laid_over group footing (losing group footing past lost) n c image) promises) (sym new.1)
      (next_keeps lost stay n (omega (arith, new.0, slice_get_within past.changes.issued number last since.is_there))))
      (get_more past.changes.issued (changed_at last (Lose references) sequence) n config issued.is_there)

  -- and all gates still show one thing
  desk_was : (k : ℕ) (desk : Desk) → slice_get (desks_on group footing past (changed_at last (Lose references) sequence)) k ≡ Some desk → (j : ℕ) × (slice_get (desks_on group footing past last) j ≡ Some desk)
  desk_was k desk at =
      let of = desk_of group footing past (changed_at last (Lose references) sequence) k desk at in
      to_desk group footing past last desk.slot desk.lba
      (seat_more (past.lost desk.slot) (has_current (changed_at last (Lose references) sequence) (past.disk desk.slot)) (has_current last (past.disk desk.slot)) (no_more (past.disk desk.slot)) of.is_its) of.below of.is_gate
    where
      seat_more : (a c d : Bool) → (c ≡ true → d ≡ true) → (not a && c) ≡ true → (not a && d) ≡ true
      seat_more true c d up e = absurd (cc)
      seat_more false c d up e = up e

  pub lost_shows : ShowsOne group footing past image → ShowsOne group footing (issue past (changed_at last (Lose references) sequence)) image
  lost_shows shows n config issued =
      ⊎_elim
      (λ old. shows n config (record { late = issued.late; is_there = old }))
      (λ new. subst
      (λ (c : Configuration). (j k : ℕ) (one other : Desk) (staged shown : Staged) → slice_get (desks_on group footing past c) j ≡ Some one → slice_get (desks_on group footing past c) k ≡ Some other
      → on_desk (arrays_by (does_count footing past.changes.own_from n) c) image one ≡ Some staged → on_desk (arrays_by (does_count footing past.changes.own_from n) c) image other ≡ Some shown → staged ≡ shown) (sym new.1)
      (λ j k one other staged shown at at' opens opens'.
      let was = desk_was j one at in
      let was' = desk_was k other at' in
      let later : number ≤ n = omega (arith, new.0, slice_get_within past.changes.issued number last since.is_there) in
      ⊎_elim
      (λ is.
      let same = named_same (λ slot. true) (λ slot e. refl) n later is in
      shows number last since was.0 was'.0 one other staged shown was.1 was'.1 (ap (λ (l : List (List ℕ)). on_desk l image one) (sym same) ∙ opens) (ap (λ (l : List (List ℕ)). on_desk l image other) (sym same) ∙ opens'))
      (λ shut.
      let none = shut_for image one (does_count footing past.changes.own_from n) (changed_at last (Lose references) sequence) (guids_of last) (guids_same last references sequence) (shut was.0 one was.1) in
      let both : None ≡ Some staged = sym none ∙ opens in
      absurd (cc))
      counts))
      (get_more past.changes.issued (changed_at last (Lose references) sequence) n config issued.is_there)
