-- An array that joins has the view that it had, over the seats of its own members.
use Rattle.std.proofs.Common.{◌≡◌, ◌∙◌, ℕ, zero, suc, ◌+◌, Bool, true, false, not, ◌&&◌, ◌||◌, cond, nat_eq, List, [], ◌∷◌, ◌++◌, map, filter_map, length, Option, Some, None, Result, Ok, Err, refl, sym, ap, subst, arith, slice_get}
use Rattle.std.specs.Prelude.{count_by, find, is_some, nat_le, nat_lt, option_map, ◌==◌, if◌then◌else◌}
use Rattle.std.specs.List.{cons_option, flat_map, list_all, list_any}
use Rattle.std.specs.Map.{lookup}
use Rattle.std.proofs.lemmas.Bool.{eqb-true}
use Rattle.std.proofs.lemmas.List.Sums.{sum_by-append, sum_by-cons}
use Rattle.ddf_lemmas.proofs.Lists.{in_map, last_found, map_alike}
use Rattle.ddf_lemmas.proofs.Options.{none_from_map, none_from_not_some, some_is}
use Rattle.ddf_lemmas.proofs.Tests.{or_second}
use Rattle.ddf_primary.specs.Placement.{Placement}
use Rattle.ddf_secondary.specs.Arrangement.{Arrangement}
use Rattle.ddf_config.specs.declared.array.Array.{Array}
use Rattle.ddf_config.specs.declared.element.Position.{Position}
use Rattle.ddf_config.specs.declared.extent.Extent.{Extent}
use Rattle.ddf_config.specs.declared.member.Member.{Member}
use Rattle.ddf_config.specs.declared.refusal.Refusal.{Refusal}
use Rattle.ddf_config.specs.declared.refusal.Refusal.TheVariants.{Clash, Lost, NameTaken, Shape}
use Rattle.ddf_config.specs.declared.seat.Seat.{Seat}
use Rattle.ddf_config.specs.Configuration.{Configuration}
use Rattle.ddf_config.specs.ElementValue.{ElementValue}
use Rattle.ddf_config.specs.Extents.{array_extents, extent, extents, part_extents}
use Rattle.ddf_config.specs.Levels.{unserved_level}
use Rattle.ddf_config.specs.Members.{same_guid}
use Rattle.ddf_config.specs.Refusals.{first_refusal, refuse_if}
use Rattle.ddf_config.specs.Room.{meets}
use Rattle.ddf_config.specs.Seats.{floor_of, slot_of}
use Rattle.ddf_config.specs.Served.{lies_well, meets_extent}
use Rattle.ddf_config.specs.Shapes.{array_tiers, element_shape, has_shapes, has_tiers}
use Rattle.ddf_config.specs.States.{array_with_low, is_marked, with_low_states}
use Rattle.ddf_config.specs.Unusable.{is_served_on, passes_floor, unusable}
use Rattle.ddf_config.specs.Within.{is_complete}
use Rattle.ddf_config.proofs.Entries.{absent_changed}
use Rattle.ddf_config.proofs.Firsts.{all_pass}
use Rattle.ddf_import.specs.Clash.{array_clash, bound, bound_in, disk_clash, is_there, join_cause, takes_name}
use Rattle.ddf_import.specs.Joined.{arrays_joined, kept_member, kept_members, members_joined, number_of, numbered, numbers_of}
use Rattle.ddf_repair.proofs.Numbers.{AreSame, KeepsNumbers, numbers_kept, tiers_kept}
use Rattle.ddf_repair.proofs.Usable.{all_stay}
use Rattle.ddf_array.specs.declared.part.Part.{Part}
use Rattle.ddf_array.specs.declared.place.Place.{Place}
use Rattle.ddf_array.specs.Viewing.{known_part, parts_of, place_of, seat_slot, view_by, view_of, viewed}
use Rattle.ddf_array.specs.Volume.{Volume, volume}
use Rattle.ddf_array.proofs.Consistent.{to_flat, in_flat}
use Rattle.ddf_data_group.specs.Agreeing.{AgreeOn}
use Rattle.ddf_data_group.specs.Clearing.{IsSameButMark}
use Rattle.ddf_data_group.proofs.Apart.{entry_of}
use Rattle.ddf_stage_promise.proofs.LostViews.{numbers_same}
use Rattle.ddf_stage_promise.proofs.Remains.{parts_stay}

-- ---- lists

all_same : {X : Type 0} (p q : X → Bool) (xs : List X) → ((k : ℕ) (x : X) → slice_get xs k ≡ Some x → p x ≡ q x) → list_all p xs ≡ list_all q xs
all_same p q [] same = refl
all_same p q (x ∷ xs) same = ap (λ (b : Bool). b && list_all p xs) (same 0 x refl) ∙ ap (λ (b : Bool). q x && b) (all_same p q xs (λ k y at. same (suc k) y at))

any_same : {X : Type 0} (p q : X → Bool) (xs : List X) → ((k : ℕ) (x : X) → slice_get xs k ≡ Some x → p x ≡ q x) → list_any p xs ≡ list_any q xs
any_same p q [] same = refl
any_same p q (x ∷ xs) same = ap (λ (b : Bool). b || list_any p xs) (same 0 x refl) ∙ ap (λ (b : Bool). q x || b) (any_same p q xs (λ k y at. same (suc k) y at))

module _ {X : Type 0} (test : X → Bool) where
  abbrev weight : X → ℕ
  weight x = if test x then 1 else 0

  count_both : (xs ys : List X) → count_by test (xs ++ ys) ≡ count_by test xs + count_by test ys
  count_both xs ys = sum_by-append weight xs ys

  count_none : (xs : List X) → ((k : ℕ) (x : X) → slice_get xs k ≡ Some x → test x ≡ false) → count_by test xs ≡ 0
  count_none [] none = refl
  count_none (x ∷ xs) none =
      let first : weight x ≡ 0 = ap (λ (b : Bool). if b then 1 else 0) (none 0 x refl) in
      let one : count_by test (x ∷ xs) ≡ weight x + count_by test xs = sum_by-cons weight x xs in
      let rest = count_none xs (λ k y at. none (suc k) y at) in
      omega (arith, one, first, rest)

-- ---- causes

first_none : (check : Option Refusal) (checks : List (Option Refusal)) → first_refusal (check ∷ checks) ≡ None → (check ≡ None) × (first_refusal checks ≡ None)
first_none None checks e = (refl, e)
first_none (Some refusal) checks e = absurd (cc)

bound_at : (own others : List (ℕ × Member)) (all : List Extent) → first_refusal (map (bound own others) all) ≡ None → (k : ℕ) (one : Extent) → slice_get all k ≡ Some one → bound own others one ≡ None
bound_at own others [] none k one at = absurd (cc)
bound_at own others (first ∷ all) none zero one at =
    let same : first ≡ one = some_is at in ap (bound own others) (sym same) ∙ (first_none (bound own others first) (map (bound own others) all) none).0
bound_at own others (first ∷ all) none (suc k) one at = bound_at own others all (first_none (bound own others first) (map (bound own others) all) none).1 k one at

free_by : (o p : Option Member) → (if is_some o then None else option_map (λ (member : Member). Clash member.guid) p) ≡ None → o ≡ None → p ≡ None
free_by None None e none = refl
free_by None (Some member) e none = absurd (cc)
free_by (Some other) p e none = absurd (cc)

-- a reference of no member is one of no other side's
free_of : (own others : List (ℕ × Member)) (one : Extent) → bound own others one ≡ None → lookup (nat_eq one.reference) own ≡ None → lookup (nat_eq one.reference) others ≡ None
free_of own others one e none = free_by (lookup (nat_eq one.reference) own) (lookup (nat_eq one.reference) others) e none

-- a joining member is none of the other side
no_member : (own joining : List (ℕ × Member)) → find (is_there own) joining ≡ None → (reference : ℕ) (member : Member) → lookup (nat_eq reference) joining ≡ Some member → lookup (nat_eq reference) own ≡ None
no_member own [] none reference member at = absurd (cc)
no_member own (entry ∷ joining) none reference member at = by (is_there own entry) refl none (nat_eq reference entry.0) refl at (no_member own joining)
  where
    by : (b : Bool) → is_there own entry ≡ b → (if b then Some entry else find (is_there own) joining) ≡ None → (c : Bool) → nat_eq reference entry.0 ≡ c
        → cond c (Some entry.1) (lookup (nat_eq reference) joining) ≡ Some member
        → (find (is_there own) joining ≡ None → (reference : ℕ) (member : Member) → lookup (nat_eq reference) joining ≡ Some member → lookup (nat_eq reference) own ≡ None)
        → lookup (nat_eq reference) own ≡ None
    by true is e c same at rest = absurd (cc)
    by false is e true same at rest =
        ap (λ (n : ℕ). lookup (nat_eq n) own) (eqb-true reference entry.0 same) ∙ none_from_not_some (lookup (nat_eq entry.0) own) (or_second _ (is_some (lookup (nat_eq entry.0) own)) is)
    by false is e false same at rest = rest e reference member at

-- ---- what joins

module _ (config joining next : Configuration) (free : join_cause config joining ≡ None) (members : next.members ≡ members_joined config joining)
    (arrays : next.arrays ≡ with_low_states (members_joined config joining) (arrays_joined config joining)) where
  no_disk : find (is_there config.members) joining.members ≡ None
  no_disk =
      none_from_map _ (find (is_there config.members) joining.members)
      (all_pass [] (disk_clash config.members joining.members)
      (array_clash config.arrays joining.arrays ∷ bound_in config joining ∷ bound_in joining config ∷ refuse_if (takes_name config joining) NameTaken ∷ []) free)

  ours : bound_in config joining ≡ None
  ours =
      all_pass (disk_clash config.members joining.members ∷ array_clash config.arrays joining.arrays ∷ []) (bound_in config joining)
      (bound_in joining config ∷ refuse_if (takes_name config joining) NameTaken ∷ []) free

  theirs : bound_in joining config ≡ None
  theirs =
      all_pass (disk_clash config.members joining.members ∷ array_clash config.arrays joining.arrays ∷ bound_in config joining ∷ []) (bound_in joining config)
      (refuse_if (takes_name config joining) NameTaken ∷ []) free

  -- where the group has no such member, the joined one has the other side's
  joined_member : (reference : ℕ) → lookup (nat_eq reference) config.members ≡ None → lookup (nat_eq reference) next.members ≡ lookup (nat_eq reference) joining.members
  joined_member reference none =
      ap (lookup (nat_eq reference)) members
      ∙ last_found (nat_eq reference) (kept_members config) joining.members (absent_changed (kept_member config) (nat_eq reference) config.members none)

  -- ---- extents

  numbered_extents : (taken : List ℕ) (es : List (List ℕ × Array)) → extents (numbered taken es) ≡ extents es
  numbered_extents taken [] = refl
  numbered_extents taken (entry ∷ es) = ap (λ (l : List Extent). array_extents entry.1 ++ l) (numbered_extents (taken ++ number_of taken entry.1.number ∷ []) es)

  count_arrays : (test : Extent → Bool) (xs ys : List (List ℕ × Array)) → count_by test (extents (xs ++ ys)) ≡ count_by test (extents xs) + count_by test (extents ys)
  count_arrays test [] ys = let none : count_by test (extents []) ≡ 0 = refl in omega (arith, none)
  count_arrays test (entry ∷ xs) ys =
      let rest = count_arrays test xs ys in
      let one = count_both test (array_extents entry.1) (extents (xs ++ ys)) in
      let two = count_both test (array_extents entry.1) (extents xs) in
      omega (arith, rest, one, two)

  all_extents : extents next.arrays ≡ extents (arrays_joined config joining)
  all_extents =
      ap extents arrays
      ∙ all_stay (λ g a. array_with_low (members_joined config joining) (extents (arrays_joined config joining)) a) (λ g a. refl) (arrays_joined config joining)

  count_joined : (test : Extent → Bool) → count_by test (extents next.arrays) ≡ count_by test (extents config.arrays) + count_by test (extents joining.arrays)
  count_joined test =
      ap (count_by test) all_extents ∙ count_arrays test config.arrays (numbered (numbers_of config.arrays) joining.arrays)
      ∙ ap (λ (l : List Extent). count_by test (extents config.arrays) + count_by test l) (numbered_extents (numbers_of config.arrays) joining.arrays)

  -- an extent of what joins lies as it did
  abbrev well_by : ℕ → Extent → Option Member → Bool
  well_by count one found = elim found [ None ↦ true | Some member ↦ nat_le (one.start + one.blocks) member.size && nat_le count 1 ]

  lies_same : (k : ℕ) (one : Extent) → slice_get (extents joining.arrays) k ≡ Some one → lies_well next.members (extents next.arrays) one ≡ lies_well joining.members (extents joining.arrays) one
  lies_same k one at = by (lookup (nat_eq one.reference) joining.members) refl
    where
      apart : (member : Member) → lookup (nat_eq one.reference) joining.members ≡ Some member → lookup (nat_eq one.reference) config.members ≡ None → (j : ℕ) (other : Extent) → slice_get (extents config.arrays) j ≡ Some other
          → meets_extent one other ≡ false
      apart member is none j other there = by_reference (one.reference == other.reference) refl
        where
          by_reference : (b : Bool) → (one.reference == other.reference) ≡ b → ((one.reference == other.reference) && meets one.start one.blocks (other.start, other.blocks)) ≡ false
          by_reference false apart = ap (λ (b : Bool). b && meets one.start one.blocks (other.start, other.blocks)) apart
          by_reference true same =
              let on : one.reference ≡ other.reference = eqb-true one.reference other.reference same in
              let unbound = bound_at config.members joining.members (extents config.arrays) ours j other there in
              let none' : lookup (nat_eq other.reference) config.members ≡ None = ap (λ (n : ℕ). lookup (nat_eq n) config.members) (sym on) ∙ none in
              let gone = free_of config.members joining.members other unbound none' in
              let both : None ≡ Some member = sym gone ∙ ap (λ (n : ℕ). lookup (nat_eq n) joining.members) (sym on) ∙ is in
              absurd (cc)

      by : (o : Option Member) → lookup (nat_eq one.reference) joining.members ≡ o → lies_well next.members (extents next.arrays) one ≡ lies_well joining.members (extents joining.arrays) one
      by None is =
          let unbound = bound_at joining.members config.members (extents joining.arrays) theirs k one at in
          let none = free_of joining.members config.members one unbound is in
          ap (well_by (count_by (meets_extent one) (extents next.arrays)) one) (joined_member one.reference none ∙ is)
          ∙ ap (well_by (count_by (meets_extent one) (extents joining.arrays)) one) (sym is)
      by (Some member) is =
          let none = no_member config.members joining.members no_disk one.reference member is in
          let zeroes = count_none (meets_extent one) (extents config.arrays) (apart member is none) in
          let count : count_by (meets_extent one) (extents next.arrays) ≡ count_by (meets_extent one) (extents joining.arrays) = let all = count_joined (meets_extent one) in omega (arith, all, zeroes) in
          ap (well_by (count_by (meets_extent one) (extents next.arrays)) one) (joined_member one.reference none)
          ∙ ap (λ (n : ℕ). well_by n one (lookup (nat_eq one.reference) joining.members)) count

  -- ---- one array

  module _ (guid : List ℕ) (one after : Array) (is_one : lookup (same_guid guid) joining.arrays ≡ Some one) (is_after : lookup (same_guid guid) next.arrays ≡ Some after) (same : IsSameButMark one after)
      (mark : is_marked after ≡ is_marked one) (seats other : List Seat) (agree : AgreeOn after.elements joining.members next.members seats other) where
    numbers : KeepsNumbers one after
    numbers = numbers_kept one after same.same_secondary (subst (λ (l : List (Option ElementValue)). AreSame one.elements l) (sym same.same_elements) (numbers_same one.elements one.elements (parts_stay one.elements)))

    own_extents : array_extents after ≡ array_extents one
    own_extents = ap (λ (l : List (Option ElementValue)). flat_map part_extents l) same.same_elements

    all_well : list_all (lies_well next.members (extents next.arrays)) (array_extents one) ≡ list_all (lies_well joining.members (extents joining.arrays)) (array_extents one)
    all_well =
        all_same (lies_well next.members (extents next.arrays)) (lies_well joining.members (extents joining.arrays)) (array_extents one)
        (λ k e at.
        let entry = entry_of guid joining.arrays one is_one in
        let there = to_flat (λ (x : List ℕ × Array). array_extents x.1) joining.arrays entry.at k (entry.key, one) e entry.is_entry at in
        lies_same there.0 e there.1)

    -- the extent is one of a position
    of_position : (k : ℕ) (e : Extent) → slice_get (array_extents after) k ≡ Some e → floor_of other e.reference ≡ floor_of seats e.reference
    of_position k e at =
        let from = in_flat part_extents after.elements k e at in by from.item from.at from.inner from.is_at from.is_inner
      where
        by : (part : Option ElementValue) (i j : ℕ) → slice_get after.elements i ≡ Some part → slice_get (part_extents part) j ≡ Some e → floor_of other e.reference ≡ floor_of seats e.reference
        by None i j is inner = absurd (cc)
        by (Some element) i j is inner =
            let position = in_map (extent element.blocks) element.positions j e inner in
            let reference : position.0.reference ≡ e.reference = ap (λ (x : Extent). x.reference) position.2 in
            ap (floor_of other) (sym reference) ∙ agree.same_floors i j element position.0 is position.1 ∙ ap (floor_of seats) reference

    all_pass_alike : list_any (passes_floor other) (array_extents after) ≡ list_any (passes_floor seats) (array_extents after)
    all_pass_alike =
        any_same (passes_floor other) (passes_floor seats) (array_extents after)
        (λ k e at. ap (λ (f : Option ℕ). elim f [ None ↦ false | Some floor ↦ nat_lt floor (e.start + e.blocks) ]) (of_position k e at))

    served : is_served_on next.members other (extents next.arrays) after ≡ is_served_on joining.members seats (extents joining.arrays) one
    served =
        let well = lies_well next.members (extents next.arrays) in
        ap (λ (b : Bool). b && has_tiers after && list_all well (array_extents after) && not (list_any (passes_floor other) (array_extents after))) numbers.shapes
        ∙ ap (λ (b : Bool). has_shapes one && b && list_all well (array_extents after) && not (list_any (passes_floor other) (array_extents after))) (tiers_kept one after numbers)
        ∙ ap (λ (b : Bool). has_shapes one && has_tiers one && list_all well (array_extents after) && not b) all_pass_alike
        ∙ ap (λ (l : List Extent). has_shapes one && has_tiers one && list_all well l && not (list_any (passes_floor seats) l)) own_extents
        ∙ ap (λ (b : Bool). has_shapes one && has_tiers one && b && not (list_any (passes_floor seats) (array_extents one))) all_well

    usable_same : unusable next.members other (extents next.arrays) guid after ≡ unusable joining.members seats (extents joining.arrays) guid one
    usable_same =
        ap (λ (level : Option Refusal). first_refusal (level ∷ refuse_if (not (is_served_on next.members other (extents next.arrays) after)) Shape ∷ refuse_if (not (is_complete after)) Lost ∷ [])) (numbers.levels guid)
        ∙ ap (λ (b : Bool). first_refusal (unserved_level guid one ∷ refuse_if (not b) Shape ∷ refuse_if (not (is_complete after)) Lost ∷ [])) served
        ∙ ap (λ (b : Bool). first_refusal (unserved_level guid one ∷ refuse_if (not (is_served_on joining.members seats (extents joining.arrays) one)) Shape ∷ refuse_if (not b) Lost ∷ [])) numbers.complete

    -- ---- its parts

    slot_agrees : (e : Extent) → floor_of other e.reference ≡ floor_of seats e.reference → slot_of other e.reference ≡ slot_of seats e.reference → seat_slot other e ≡ seat_slot seats e
    slot_agrees e floors slots =
        ap (λ (f : Option ℕ). elim f [ None ↦ None | Some floor ↦ if nat_le (e.start + e.blocks) floor then Some (slot_of other e.reference) else None ]) floors
        ∙ ap (λ (s : ℕ). elim (floor_of seats e.reference) [ None ↦ None | Some floor ↦ if nat_le (e.start + e.blocks) floor then Some s else None ]) slots

    place_agrees : (blocks : ℕ) (position : Position) → seat_slot other (extent blocks position) ≡ seat_slot seats (extent blocks position) → place_of other blocks position ≡ place_of seats blocks position
    place_agrees blocks position slots = ap (λ (o : Option ℕ). record { slot = o; start = position.start; synced = position.synced; row = position.row }) slots

    parts_agree : (n : ℕ) (elements : List (Option ElementValue))
        → ((k j : ℕ) (element : ElementValue) (position : Position) → slice_get elements k ≡ Some (Some element) → slice_get element.positions j ≡ Some position
        → seat_slot other (extent element.blocks position) ≡ seat_slot seats (extent element.blocks position))
        → filter_map (known_part other n) elements ≡ filter_map (known_part seats n) elements
    parts_agree n [] slots = refl
    parts_agree n (None ∷ elements) slots = parts_agree n elements (λ k j element position at there. slots (suc k) j element position at there)
    parts_agree n (Some element ∷ elements) slots =
        ap (λ (l : List Place). cons_option (option_map (λ (shape : Placement). record { shape = shape; places = l }) (element_shape n element)) (filter_map (known_part other n) elements))
        (map_alike (place_of other element.blocks) (place_of seats element.blocks) element.positions (λ j position at. place_agrees element.blocks position (slots 0 j element position refl at)))
        ∙ ap (cons_option (option_map (λ (shape : Placement). record { shape = shape; places = map (place_of seats element.blocks) element.positions }) (element_shape n element)))
        (parts_agree n elements (λ k j element position at there. slots (suc k) j element position at there))

    parts_same : parts_of other after.elements ≡ parts_of seats one.elements
    parts_same =
        parts_agree (length after.elements) after.elements
        (λ k j element position at there. slot_agrees (extent element.blocks position) (agree.same_floors k j element position at there) (agree.same_slots k j element position at there))
        ∙ ap (parts_of seats) same.same_elements

    viewed_same : viewed other after ≡ viewed seats one
    viewed_same =
        ap (λ (t : Option Arrangement). elim t [ None ↦ Err Shape | Some tiers ↦ Ok (volume (is_marked after) tiers (parts_of other after.elements)) ]) numbers.tiers
        ∙ ap (λ (b : Bool). elim (array_tiers one) [ None ↦ Err Shape | Some tiers ↦ Ok (volume b tiers (parts_of other after.elements)) ]) mark
        ∙ ap (λ (l : List Part). elim (array_tiers one) [ None ↦ Err Shape | Some tiers ↦ Ok (volume (is_marked one) tiers l) ]) parts_same

    pub view_joined : view_of next guid other ≡ view_of joining guid seats
    view_joined =
        ap (view_by next guid other) is_after
        ∙ ap (λ (r : Option Refusal). elim r [ None ↦ viewed other after | Some refusal ↦ Err refusal ]) usable_same
        ∙ ap (λ (v : Result Volume Refusal). elim (unusable joining.members seats (extents joining.arrays) guid one) [ None ↦ v | Some refusal ↦ Err refusal ]) viewed_same
        ∙ sym (ap (view_by joining guid seats) is_one)
