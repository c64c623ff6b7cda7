-- Arrays that join a group keep their data with what is staged, as they did in the group that they come from.
use Rattle.std.proofs.Common.{◌≡◌, ◌∙◌, ⊎_elim, ℕ, zero, suc, ◌+◌, ◌<◌, Bool, true, false, not, ◌&&◌, ◌||◌, nat_eq, List, [], ◌∷◌, map, filter_map, Option, Some, None, Result, refl, sym, ap, subst, slice_get}
use Rattle.std.specs.Prelude.{option_map, if◌then◌else◌}
use Rattle.std.specs.Cmp.Lexicographic.{pointwise}
use Rattle.std.specs.List.{cons_option, list_any, range_with_len}
use Rattle.std.specs.Map.{lookup}
use Rattle.std.proofs.Common.{cond}
use Rattle.ddf_lemmas.proofs.Tests.{and_second}
use Rattle.ddf_bay.specs.Sectors.{Image}
use Rattle.ddf_config.specs.declared.array.Array.{Array}
use Rattle.ddf_config.specs.declared.refusal.Refusal.{Refusal}
use Rattle.ddf_config.specs.declared.seat.Seat.{Seat}
use Rattle.ddf_config.specs.Configuration.{Configuration}
use Rattle.ddf_config.specs.Members.{same_guid}
use Rattle.ddf_array.specs.Volume.{Volume}
use Rattle.ddf_data_array.specs.Allowed.{Allowed}
use Rattle.ddf_data_group.specs.Grouped.{Promises}
use Rattle.ddf_data_group.specs.Kept.{KeepsArray}
use Rattle.ddf_data_group.proofs.Agreed.{agreed}
use Rattle.ddf_data_group.proofs.Cleared.{same_marked}
use Rattle.ddf_data_group.proofs.Entries.{guid_is}
use Rattle.ddf_history.specs.Groups.{Disk, groups, has_current}
use Rattle.ddf_history.specs.Issued.{Past, IsSince, issue}
use Rattle.ddf_history.proofs.Lists.{get_more}
use Rattle.ddf_data_history.specs.Promised.{is_seat, seat_if}
use Rattle.ddf_stage.specs.declared.desk.Desk.{Desk}
use Rattle.ddf_stage.specs.declared.desk.Staged.{Staged}
use Rattle.ddf_stage.specs.declared.gate.Gate.{Gate}
use Rattle.ddf_stage.specs.Laid.{first_open, laid, names_one, on_desk}
use Rattle.ddf_config.proofs.Common.{same_self}
use Rattle.ddf_stage_data.specs.Moments.{through}
use Rattle.ddf_stage_data.proofs.Moments.{open_at}
use Rattle.ddf_stage_promise.specs.Cells.{cells_by, cells_in}
use Rattle.ddf_stage_promise.specs.Footing.{Footing, desk_at, desk_on, guids_of}
use Rattle.ddf_stage_promise.specs.Joining.{AllBrought, HaveJoined, IsBrought, IsJoinOf, lost_too, with_counts}
use Rattle.ddf_stage_promise.specs.Staged.{KeepsStaged, NoneOpen, ShowsOne, arrays_by, arrays_on, desks_on, does_count, laid_over, losing, seats_on}
use Rattle.ddf_stage_promise.proofs.Closing.{names_it}
use Rattle.ddf_stage_promise.proofs.Desks.{desk_of, seat_before, to_desk}
use Rattle.ddf_stage_promise.proofs.JoinedViews.{view_joined}
use Rattle.ddf_stage_promise.proofs.Losing.{through_none, through_some}

-- a gate names an array that is there
named_there : (arrays : List (List ℕ × Array)) (guid : List ℕ) → list_any (λ array. pointwise nat_eq array guid) (map (λ (entry : List ℕ × Array). entry.0) arrays) ≡ true
    → (one : Array) × (lookup (same_guid guid) arrays ≡ Some one)
named_there [] guid e = absurd (cc)
named_there (entry ∷ arrays) guid e = by (pointwise nat_eq entry.0 guid) refl e (same_guid guid entry.0) refl (named_there arrays guid)
  where
    by : (b : Bool) → pointwise nat_eq entry.0 guid ≡ b → (b || list_any (λ array. pointwise nat_eq array guid) (map (λ (entry : List ℕ × Array). entry.0) arrays)) ≡ true → (c : Bool) → same_guid guid entry.0 ≡ c
        → (list_any (λ array. pointwise nat_eq array guid) (map (λ (entry : List ℕ × Array). entry.0) arrays) ≡ true → (one : Array) × (lookup (same_guid guid) arrays ≡ Some one))
        → (one : Array) × (cond c (Some entry.1) (lookup (same_guid guid) arrays) ≡ Some one)
    by b is e true same rest = (entry.1, refl)
    by true is e false differs rest =
        let same = guid_is entry.0 guid is in
        let both : true ≡ false = sym (same_self guid) ∙ ap (same_guid guid) (sym same) ∙ differs in
        absurd (cc)
    by false is e false differs rest = rest e

-- so it is where gates count, and else none names one
named_by : (b : Bool) (joining : Configuration) (gate : Gate) → names_one (arrays_by b joining) gate ≡ true → (one : Array) × (lookup (same_guid gate.array) joining.arrays ≡ Some one)
named_by true joining gate e = named_there joining.arrays gate.array e
named_by false joining gate e = absurd (cc)

module _ (group former : List ℕ) (footing : Footing) (counts counted : Bool) (past : Past (groups group)) (theirs : Past (groups former)) (config joining next : Configuration) (image : Image) (is_join : IsJoinOf config joining next)
    (all_brought : AllBrought joining next) (have : HaveJoined group former footing counts counted past theirs joining next image) where
  abbrev their : Footing
  their = with_counts counts footing

  module _ (lost : ℕ → Bool) (stay : (slot : ℕ) → past.lost slot ≡ true → lost slot ≡ true) where
    abbrev here_by : ℕ → Bool
    here_by = is_seat group (losing group footing past lost) next

    abbrev its_by : ℕ → Bool
    its_by = is_seat former (losing former (with_counts counts footing) theirs (lost_too former theirs lost)) joining

    abbrev desks_from : (ℕ → Bool) → (ℕ → Disk) → (a n : ℕ) → List Desk
    desks_from seat disk a n =
        filter_map (λ (seat : Seat). desk_on footing.gate seat.slot) (filter_map (λ slot. seat_if (seat slot) footing.floor (disk slot) slot) (range_with_len a n))

    -- what the slot adds
    abbrev adds : (b : Bool) → (g : Option ℕ) → (arrays : List (List ℕ)) → (slot : ℕ) → Option Staged
    adds b g arrays slot = if b then (elim g [ None ↦ None | Some lba ↦ on_desk arrays image (desk_at slot lba) ]) else None

    step : (b : Bool) (g : Option ℕ) (arrays : List (List ℕ)) (disk : Disk) (slot : ℕ) (seats : List Seat) → footing.gate slot ≡ g
        → first_open arrays image (filter_map (λ (seat : Seat). desk_on footing.gate seat.slot) (cons_option (seat_if b footing.floor disk slot) seats))
        ≡ elim (adds b g arrays slot) [ None ↦ first_open arrays image (filter_map (λ (seat : Seat). desk_on footing.gate seat.slot) seats) | Some staged ↦ Some staged ]
    step false g arrays disk slot seats is = refl
    step true None arrays disk slot seats is =
        ap (λ (o : Option ℕ). first_open arrays image (cons_option (option_map (desk_at slot) o) (filter_map (λ (seat : Seat). desk_on footing.gate seat.slot) seats))) is
    step true (Some lba) arrays disk slot seats is =
        ap (λ (o : Option ℕ). first_open arrays image (cons_option (option_map (desk_at slot) o) (filter_map (λ (seat : Seat). desk_on footing.gate seat.slot) seats))) is

    not_true : (b : Bool) → (b ≡ true → ⊥) → b ≡ false
    not_true true never = absurd (never refl)
    not_true false never = refl

    same_seat : (a c d f : Bool) → c ≡ true → d ≡ false → f ≡ true → (not a && c) ≡ (not (a || d) && f)
    same_seat true true true true e g h = refl
    same_seat true true false true e g h = refl
    same_seat false true true true e g h = absurd (cc)
    same_seat false true false true e g h = refl
    same_seat a false d f e g h = absurd (cc)
    same_seat a true d false e g h = absurd (cc)

    is_less : (a d f : Bool) → (not (a || d) && f) ≡ true → (not d && f) ≡ true
    is_less true d f e = absurd (cc)
    is_less false d f e = e

    adds_same : (slot : ℕ) (j : Bool) → has_current joining (past.disk slot) ≡ j → (g : Option ℕ) → footing.gate slot ≡ g → adds (here_by slot) g (guids_of next) slot ≡ adds (its_by slot) g (arrays_by counted joining) slot
    adds_same slot true is g gate =
        let known = have.known slot is in
        let seats : here_by slot ≡ its_by slot =
        same_seat (lost slot) (has_current next (past.disk slot)) (theirs.lost slot) (has_current joining (theirs.disk slot)) (have.joins (past.disk slot) is) known.1 (ap (has_current joining) known.0 ∙ is) in
        ap (λ (b : Bool). adds b g (guids_of next) slot) seats ∙ by (its_by slot) g gate
      where
        by : (b : Bool) (g : Option ℕ) → footing.gate slot ≡ g → adds b g (guids_of next) slot ≡ adds b g (arrays_by counted joining) slot
        by false g gate = refl
        by true None gate = refl
        by true (Some lba) gate = have.theirs_shut slot lba is gate
    adds_same slot false is g gate =
        let none : its_by slot ≡ false =
        not_true (its_by slot) (λ seat.
        let old = is_less (lost slot) (theirs.lost slot) (has_current joining (theirs.disk slot)) seat in
        let disk = have.brought slot old in
        let both : false ≡ true = sym is ∙ ap (has_current joining) disk ∙ and_second (not (theirs.lost slot)) (has_current joining (theirs.disk slot)) old in
        cc) in
        by (here_by slot) refl g gate ∙ ap (λ (b : Bool). adds b g (arrays_by counted joining) slot) (sym none)
      where
        by : (b : Bool) → here_by slot ≡ b → (g : Option ℕ) → footing.gate slot ≡ g → adds b g (guids_of next) slot ≡ None
        by false seat g gate = refl
        by true seat None gate = refl
        by true seat (Some lba) gate = have.others_shut slot lba (seat_before group footing past next lost stay slot seat) is gate

    firsts : (a n : ℕ) → first_open (guids_of next) image (desks_from here_by past.disk a n) ≡ first_open (arrays_by counted joining) image (desks_from its_by theirs.disk a n)
    firsts a zero = refl
    firsts a (suc n) =
        step (here_by a) (footing.gate a) (guids_of next) (past.disk a) a (filter_map (λ slot. seat_if (here_by slot) footing.floor (past.disk slot) slot) (range_with_len (a + 1) n)) refl
        ∙ ap (λ (o : Option Staged). elim o [ None ↦ first_open (guids_of next) image (desks_from here_by past.disk (a + 1) n) | Some staged ↦ Some staged ]) (adds_same a (has_current joining (past.disk a)) refl (footing.gate a) refl)
        ∙ ap (λ (p : Option Staged). elim (adds (its_by a) (footing.gate a) (arrays_by counted joining) a) [ None ↦ p | Some staged ↦ Some staged ]) (firsts (a + 1) n)
        ∙ sym (step (its_by a) (footing.gate a) (arrays_by counted joining) (theirs.disk a) a (filter_map (λ slot. seat_if (its_by slot) footing.floor (theirs.disk slot) slot) (range_with_len (a + 1) n)) refl)

    abbrev seats : List Seat
    seats = seats_on group footing (losing group footing past lost) next

    abbrev its_seats : List Seat
    its_seats = seats_on former (with_counts counts footing) (losing former (with_counts counts footing) theirs (lost_too former theirs lost)) joining

    abbrev here : List Desk
    here = desks_on group footing (losing group footing past lost) next

    abbrev its_here : List Desk
    its_here = desks_on former (with_counts counts footing) (losing former (with_counts counts footing) theirs (lost_too former theirs lost)) joining

    first_same : first_open (guids_of next) image here ≡ first_open (arrays_by counted joining) image its_here
    first_same = firsts 0 past.slots ∙ ap (λ (n : ℕ). first_open (arrays_by counted joining) image (desks_from its_by theirs.disk 0 n)) have.same_slots

    -- what is laid over is the same
    laid_same : (o : Option Staged) → first_open (arrays_by counted joining) image its_here ≡ o
        → through its_here (arrays_by counted joining) (cells_in joining its_seats) image ≡ through here (guids_of next) (cells_in next seats) image
    laid_same None e =
        through_none its_here (arrays_by counted joining) (cells_in joining its_seats) image e ∙ sym (through_none here (guids_of next) (cells_in next seats) image (first_same ∙ e))
    laid_same (Some staged) e =
        let at = open_at (arrays_by counted joining) image its_here staged e in
        let named = named_by counted joining staged.gate (names_it (arrays_by counted joining) image at.desk staged at.stands) in
        let after = all_brought staged.gate.array named.0 named.1 in
        let is = after.1 in
        let view = view_joined config joining next is_join.free is_join.members is_join.arrays staged.gate.array named.0 after.0 is.was is.is_there is.same is.same_mark its_seats seats
        (have.agree lost stay staged.gate.array named.0 after.0 is) in
        through_some its_here (arrays_by counted joining) (cells_in joining its_seats) image staged e
        ∙ ap (λ (r : Result Volume Refusal). laid staged (cells_by r staged.gate) image) (sym view)
        ∙ sym (through_some here (guids_of next) (cells_in next seats) image staged (first_same ∙ e))

  module _ (promises : Promises) (kept : KeepsStaged former (with_counts counts footing) theirs image promises) (m n : ℕ) (since : IsSince theirs.changes m joining)
      (its_count : does_count (with_counts counts footing) theirs.changes.own_from m ≡ counted) (count : does_count footing past.changes.own_from n ≡ true) where
    or_second : (a b : Bool) → b ≡ true → (a || b) ≡ true
    or_second true b e = refl
    or_second false b e = e

    pub brought_keeps : (lost : ℕ → Bool) (stay : (slot : ℕ) → past.lost slot ≡ true → lost slot ≡ true) (guid : List ℕ) (allowed : Allowed) (one after : Array) → promises guid ≡ Some allowed → IsBrought joining next guid one after
        → KeepsArray next.members (seats lost stay) after (laid_over group footing (losing group footing past lost) n next image) allowed
    brought_keeps lost stay guid allowed one after promised is =
        let was = kept (lost_too former theirs lost) (λ slot e. or_second (lost slot) (theirs.lost slot) e) m joining since guid allowed one promised is.was in
        let kept_there = subst (λ (b : Bool). KeepsArray joining.members (its_seats lost stay) one (through (its_here lost stay) (arrays_by b joining) (cells_in joining (its_seats lost stay)) image) allowed) its_count was in
        let same = laid_same lost stay (first_open (arrays_by counted joining) image (its_here lost stay)) refl in
        let over = subst (λ (x : Image). KeepsArray joining.members (its_seats lost stay) one x allowed) same kept_there in
        subst (λ (b : Bool). KeepsArray next.members (seats lost stay) after (through (here lost stay) (arrays_by b next) (cells_in next (seats lost stay)) image) allowed) (sym count)
        (agreed joining.members next.members (its_seats lost stay) (seats lost stay) after (through (here lost stay) (guids_of next) (cells_in next (seats lost stay)) image) allowed (have.agree lost stay guid one after is)
        (same_marked joining.members joining.members (its_seats lost stay) one after (through (here lost stay) (guids_of next) (cells_in next (seats lost stay)) image) allowed is.same is.same_mark (λ reference. refl) over))

  -- ---- all that stand open show one thing

  none_named : (image : Image) (desk : Desk) (staged : Staged) → on_desk [] image desk ≡ Some staged → ⊥
  none_named x desk staged e = let named = names_it [] x desk staged e in cc

  some_none : (o : Option Staged) (staged : Staged) → o ≡ None → o ≡ Some staged → ⊥
  some_none o staged a b = cc

  not_lost : (b c : Bool) → b ≡ false → c ≡ true → (not b && c) ≡ true
  not_lost true c e f = absurd (cc)
  not_lost false c e f = f

  -- an open gate of a seat of the joined group is one of what joins
  pub record IsTheirs (desk : Desk) (staged : Staged) : Type 0 where
    pub k : ℕ
    pub is_at : slice_get (desks_on former their theirs joining) k ≡ Some desk
    pub opens : on_desk (arrays_by counted joining) image desk ≡ Some staged

  open_theirs : (k : ℕ) (desk : Desk) (staged : Staged) → slice_get (desks_on group footing past next) k ≡ Some desk → on_desk (guids_of next) image desk ≡ Some staged → IsTheirs desk staged
  open_theirs k desk staged at opens = by (has_current joining (past.disk desk.slot)) refl
    where
      by : (j : Bool) → has_current joining (past.disk desk.slot) ≡ j → IsTheirs desk staged
      by false is =
          let of = desk_of group footing past next k desk at in absurd (some_none (on_desk (guids_of next) image desk) staged (have.others_shut desk.slot desk.lba of.is_its is of.is_gate) opens)
      by true is =
          let of = desk_of group footing past next k desk at in
          let known = have.known desk.slot is in
          let seat = not_lost (theirs.lost desk.slot) (has_current joining (theirs.disk desk.slot)) known.1 (ap (has_current joining) known.0 ∙ is) in
          let there = to_desk former their theirs joining desk.slot desk.lba seat (subst (λ (n : ℕ). desk.slot < n) have.same_slots of.below) of.is_gate in
          record { k = there.0; is_at = there.1; opens = sym (have.theirs_shut desk.slot desk.lba is of.is_gate) ∙ opens }

  module _ (none : NoneOpen group footing past image) (m : ℕ) (since : IsSince theirs.changes m joining) (its_count : does_count their theirs.changes.own_from m ≡ counted) (shows : ShowsOne former their theirs image) where
    abbrev OneBy : Bool → Configuration → Type 0
    OneBy b config =
        (j k : ℕ) (one other : Desk) (staged shown : Staged) → slice_get (desks_on group footing past config) j ≡ Some one → slice_get (desks_on group footing past config) k ≡ Some other
        → on_desk (arrays_by b config) image one ≡ Some staged → on_desk (arrays_by b config) image other ≡ Some shown → staged ≡ shown

    one_by : (b : Bool) → OneBy b next
    one_by false j k one other staged shown at at' opens opens' = absurd (none_named image one staged opens)
    one_by true j k one other staged shown at at' opens opens' =
        let was = open_theirs j one staged at opens in
        let was' = open_theirs k other shown at' opens' in
        shows m joining since was.k was'.k one other staged shown was.is_at was'.is_at
        (subst (λ (b : Bool). on_desk (arrays_by b joining) image one ≡ Some staged) (sym its_count) was.opens)
        (subst (λ (b : Bool). on_desk (arrays_by b joining) image other ≡ Some shown) (sym its_count) was'.opens)

    pub brought_shows : ShowsOne group footing (issue past next) image
    brought_shows n config issued =
        ⊎_elim
        (λ old j k one other staged shown at at' opens opens'.
        absurd (some_none (on_desk (arrays_on group footing past n config) image one) staged (none n config (record { late = issued.late; is_there = old }) j one at) opens))
        (λ new. subst (OneBy (does_count footing past.changes.own_from n)) (sym new.1) (one_by (does_count footing past.changes.own_from n)))
        (get_more past.changes.issued next n config issued.is_there)
