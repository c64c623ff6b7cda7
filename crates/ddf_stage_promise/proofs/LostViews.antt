-- Where members are counted as lost, an array can be used as before, over the same seats: of its positions some are out of sync now.
use Rattle.std.proofs.Common.{◌≡◌, ◌∙◌, ◌⊎◌, inl, inr, ⊎_elim, ℕ, Bool, true, false, not, ◌&&◌, cond, List, [], ◌∷◌, ◌++◌, map, filter_map, length, Option, Some, None, Result, Ok, Err, refl, sym, ap, subst}
use Rattle.std.specs.Prelude.{option_map, if◌then◌else◌}
use Rattle.std.specs.List.{flat_map, list_all, list_any}
use Rattle.std.specs.Map.{lookup}
use Rattle.ddf_secondary.specs.Arrangement.{Arrangement}
use Rattle.ddf_config.specs.declared.array.Array.{Array}
use Rattle.ddf_config.specs.declared.element.Position.{Position}
use Rattle.ddf_config.specs.declared.extent.Extent.{Extent}
use Rattle.ddf_config.specs.declared.member.Member.{Member}
use Rattle.ddf_config.specs.declared.refusal.Refusal.{Refusal}
use Rattle.ddf_config.specs.declared.refusal.Refusal.TheVariants.{Shape, Lost}
use Rattle.ddf_config.specs.declared.seat.Seat.{Seat}
use Rattle.ddf_config.specs.Configuration.{Configuration}
use Rattle.ddf_config.specs.ElementValue.{ElementValue}
use Rattle.ddf_config.specs.Entries.{changed_entries}
use Rattle.ddf_config.specs.Extents.{array_extents, extent, extents, part_extents}
use Rattle.ddf_config.specs.Levels.{unserved_level}
use Rattle.ddf_config.specs.Members.{same_guid}
use Rattle.ddf_config.specs.Refusals.{first_refusal, refuse_if}
use Rattle.ddf_config.specs.Served.{lies_well}
use Rattle.ddf_config.specs.Shapes.{array_tiers, has_shapes, has_tiers}
use Rattle.ddf_config.specs.States.{array_with_low, is_marked}
use Rattle.ddf_config.specs.Unusable.{is_served_on, passes_floor, unusable}
use Rattle.ddf_config.specs.Within as config
use Rattle.ddf_plan.specs.declared.change.Change.TheVariants.{Lose}
use Rattle.ddf_plan.specs.Arrays.{arrays_after, kept_and_added}
use Rattle.ddf_plan.specs.Changes.{changed_at}
use Rattle.ddf_plan.specs.Lose.{has_part_within, is_among, lost_array, lost_element, lost_parts, lost_position, lost_stand_in, out_beyond, out_of_sync, wholly_out}
use Rattle.ddf_plan.specs.Members.{members_after}
use Rattle.ddf_repair.proofs.Numbers.{AreSame, KeepsNumbers, numbers_kept, tiers_kept}
use Rattle.ddf_repair.proofs.Usable.{all_lie_kept, both_changed, looked_up, all_stay}
use Rattle.ddf_array.specs.Losing.{AreFewer}
use Rattle.ddf_array.specs.Viewing.{parts_of, view_by, view_of, viewed, known_part}
use Rattle.ddf_array.specs.Volume.{Volume, volume}
use Rattle.ddf_array.specs.declared.part.Part.{Part}
use Rattle.ddf_data_group.specs.Lessening.{IsLessArray}
use Rattle.ddf_data_group.specs.Over.{AreCurrentSeats, IsOver}
use Rattle.ddf_data_group.proofs.Entries.{before as value_before, never_drops, same_mark}
use Rattle.ddf_data_group.proofs.Lessened.{lessened, parts_count}
use Rattle.ddf_data_group.proofs.Lost.{is_less}
use Rattle.ddf_stage_promise.proofs.Between.{ArraysRemain}
use Rattle.ddf_stage_promise.proofs.Remains.{ArePositions, AreRemaining, DoRemain, Remains, RemainsElement, RemainsPart, RemainsPosition, count_positions, extent_is, parts_remain}

-- ---- an array over seats

-- over fewer seats, or with positions out of sync, what remains of an array is of what it was
pub remains_over : (members : List (ℕ × Member)) (seats fewer : List Seat) (was array : Array) (w : Volume) → AreCurrentSeats members seats → AreFewer seats fewer → IsLessArray was array → DoRemain was.elements array.elements
    → IsOver fewer array w → (v : Volume) × IsOver seats was v × Remains v w
remains_over members seats fewer was array w are few less remain over =
    let old = lessened members seats fewer was array w are few less over in
    let count = parts_count was.elements array.elements less.less in (
      old.0,
      old.1,
      record {
        same_tiers = old.2.same_tiers;
        parts = subst (λ (l : List Part). AreRemaining l w.parts) (sym old.1.parts_are)
            (subst (AreRemaining (parts_of seats was.elements)) (ap (λ (n : ℕ). filter_map (known_part fewer n) array.elements) (sym count) ∙ sym over.parts_are)
            (parts_remain seats fewer few (length was.elements) was.elements array.elements remain));
      },
    )

-- ---- a lost array

module _ (references : List ℕ) where
  position_by : (b : Bool) (one : Position) → RemainsPosition one (if b then out_of_sync one else one)
  position_by true one = record { same_reference = refl; same_start = refl; sync_is = inr (refl, refl) }
  position_by false one = record { same_reference = refl; same_start = refl; sync_is = inl (refl, refl) }

  out_by : (b : Bool) (one : Position) → RemainsPosition one (out_of_sync (if b then out_of_sync one else one))
  out_by true one = record { same_reference = refl; same_start = refl; sync_is = inr (refl, refl) }
  out_by false one = record { same_reference = refl; same_start = refl; sync_is = inr (refl, refl) }

  positions_lost : (positions : List Position) → ArePositions positions (map (lost_position references) positions)
  positions_lost [] = tt
  positions_lost (one ∷ positions) = (position_by (is_among references one.reference) one, positions_lost positions)

  positions_out : (positions : List Position) → ArePositions positions (map out_of_sync (map (lost_position references) positions))
  positions_out [] = tt
  positions_out (one ∷ positions) = (out_by (is_among references one.reference) one, positions_out positions)

  element_lost : (element : ElementValue) → RemainsElement element (lost_element references element)
  element_lost element = record { stand_in = lost_stand_in references element; positions = map (lost_position references) element.positions; is = refl; remain = positions_lost element.positions }

  element_out : (element : ElementValue) → RemainsElement element (wholly_out (lost_element references element))
  element_out element = record { stand_in = lost_stand_in references element; positions = map out_of_sync (map (lost_position references) element.positions); is = refl; remain = positions_out element.positions }

  parts_lost : (known : List (Option ElementValue)) → DoRemain known (map (option_map (lost_element references)) known)
  parts_lost [] = tt
  parts_lost (None ∷ known) = (tt, parts_lost known)
  parts_lost (Some element ∷ known) = (element_lost element, parts_lost known)

  module _ (members : List (ℕ × Member)) where
    beyond_by : (element : ElementValue) (b : Bool) → RemainsPart (Some element) (if b then Some (lost_element references element) else option_map wholly_out (Some (lost_element references element)))
    beyond_by element true = element_lost element
    beyond_by element false = element_out element

    none_by : (b : Bool) → RemainsPart None (if b then None else option_map wholly_out None)
    none_by true = tt
    none_by false = tt

    parts_beyond : (known : List (Option ElementValue)) → DoRemain known (map (out_beyond members) (map (option_map (lost_element references)) known))
    parts_beyond [] = tt
    parts_beyond (None ∷ known) = (none_by (config.is_part_within (config.is_available members) None), parts_beyond known)
    parts_beyond (Some element ∷ known) = (beyond_by element (config.is_part_within (config.is_available members) (Some (lost_element references element))), parts_beyond known)

    all_by : (known : List (Option ElementValue)) (b : Bool) → DoRemain known (if b then map (out_beyond members) (map (option_map (lost_element references)) known) else map (option_map (lost_element references)) known)
    all_by known true = parts_beyond known
    all_by known false = parts_lost known

    pub lost_remains : (array : Array) → DoRemain array.elements (lost_array members references array).elements
    lost_remains array = all_by array.elements (config.is_mirrored array && has_part_within members (lost_parts references array))

-- ---- its numbers and its extents stay

pub numbers_same : (known nexts : List (Option ElementValue)) → DoRemain known nexts → AreSame known nexts
numbers_same [] [] are = tt
numbers_same [] (next ∷ nexts) are = absurd are
numbers_same (part ∷ known) [] are = absurd are
numbers_same (None ∷ known) (None ∷ nexts) are = (tt, numbers_same known nexts are.1)
numbers_same (None ∷ known) (Some next ∷ nexts) are = absurd are.0
numbers_same (Some plan ∷ known) (None ∷ nexts) are = absurd are.0
numbers_same (Some plan ∷ known) (Some next ∷ nexts) are =
    (record { stand_in = are.0.stand_in; positions = are.0.positions; is = are.0.is; many = count_positions plan.positions are.0.positions are.0.remain }, numbers_same known nexts are.1)

extents_by : (blocks : ℕ) (befores afters : List Position) → ArePositions befores afters → map (extent blocks) afters ≡ map (extent blocks) befores
extents_by blocks [] [] are = refl
extents_by blocks [] (a ∷ afters) are = absurd are
extents_by blocks (b ∷ befores) [] are = absurd are
extents_by blocks (b ∷ befores) (a ∷ afters) are =
    ap (λ (one : Extent). one ∷ map (extent blocks) afters) (extent_is blocks b a are.0) ∙ ap (λ (l : List Extent). extent blocks b ∷ l) (extents_by blocks befores afters are.1)

extents_same : (known nexts : List (Option ElementValue)) → DoRemain known nexts → flat_map part_extents nexts ≡ flat_map part_extents known
extents_same [] [] are = refl
extents_same [] (next ∷ nexts) are = absurd are
extents_same (part ∷ known) [] are = absurd are
extents_same (None ∷ known) (None ∷ nexts) are = extents_same known nexts are.1
extents_same (None ∷ known) (Some next ∷ nexts) are = absurd are.0
extents_same (Some plan ∷ known) (None ∷ nexts) are = absurd are.0
extents_same (Some plan ∷ known) (Some next ∷ nexts) are =
    ap (λ (x : ElementValue). map (extent x.blocks) x.positions ++ flat_map part_extents nexts) are.0.is
    ∙ ap (λ (l : List Extent). l ++ flat_map part_extents nexts) (extents_by plan.blocks plan.positions are.0.positions are.0.remain)
    ∙ ap (λ (l : List Extent). map (extent plan.blocks) plan.positions ++ l) (extents_same known nexts are.1)

-- ---- the table

lookup_none : (k : List ℕ → Array → Array) (test : List ℕ → Bool) (es : List (List ℕ × Array)) → lookup test es ≡ None → lookup test (changed_entries (λ g a. Some (k g a)) es) ≡ None
lookup_none k test [] e = refl
lookup_none k test (entry ∷ es) e = by (test entry.0) e (lookup_none k test es)
  where
    by : (b : Bool) → cond b (Some entry.1) (lookup test es) ≡ None → (lookup test es ≡ None → lookup test (changed_entries (λ g a. Some (k g a)) es) ≡ None)
        → cond b (Some (k entry.0 entry.1)) (lookup test (changed_entries (λ g a. Some (k g a)) es)) ≡ None
    by true e rest = absurd (cc)
    by false e rest = rest e

module _ (before : Configuration) (references : List ℕ) (sequence : ℕ) where
  abbrev made : List ℕ → Array → Array
  made guid array = array_with_low (members_after before (Lose references)) (extents (kept_and_added before (Lose references))) (lost_array (members_after before (Lose references)) references array)

  table_is : arrays_after before (Lose references) ≡ changed_entries (λ g a. Some (made g a)) before.arrays
  table_is =
      both_changed (λ g. array_with_low (members_after before (Lose references)) (extents (kept_and_added before (Lose references)))) (λ g. lost_array (members_after before (Lose references)) references) before.arrays

  made_remains : (guid : List ℕ) (array : Array) → DoRemain array.elements (made guid array).elements
  made_remains guid array = lost_remains references (members_after before (Lose references)) array

  made_stays : (guid : List ℕ) (array : Array) → array_extents (made guid array) ≡ array_extents array
  made_stays guid array = extents_same array.elements (made guid array).elements (made_remains guid array)

  made_numbers : (guid : List ℕ) (array : Array) → KeepsNumbers array (made guid array)
  made_numbers guid array = numbers_kept array (made guid array) refl (numbers_same array.elements (made guid array).elements (made_remains guid array))

  made_less : (guid : List ℕ) (array : Array) → IsLessArray array (made guid array)
  made_less guid array =
      let less = is_less references (members_after before (Lose references)) array in
      record {
        same_secondary = less.same_secondary;
        mark_is = inr (same_mark (members_after before (Lose references)) (extents (kept_and_added before (Lose references))) (lost_array (members_after before (Lose references)) references array));
        less = less.less;
      }

  all_is : extents (arrays_after before (Lose references)) ≡ extents before.arrays
  all_is = ap extents table_is ∙ all_stay made made_stays before.arrays

  module _ (seats : List Seat) where
    served_is : (guid : List ℕ) (array : Array)
        → is_served_on (members_after before (Lose references)) seats (extents (arrays_after before (Lose references))) (made guid array) ≡ is_served_on before.members seats (extents before.arrays) array
    served_is guid array =
        let keeps = made_numbers guid array in
        let next = made guid array in
        let own = made_stays guid array in
        let after_members = members_after before (Lose references) in
        ap (λ (all : List Extent). is_served_on after_members seats all next) all_is
        ∙ ap (λ (b : Bool). b && has_tiers next && list_all (lies_well after_members (extents before.arrays)) (array_extents next) && not (list_any (passes_floor seats) (array_extents next))) keeps.shapes
        ∙ ap (λ (b : Bool). has_shapes array && b && list_all (lies_well after_members (extents before.arrays)) (array_extents next) && not (list_any (passes_floor seats) (array_extents next))) (tiers_kept array next keeps)
        ∙ ap (λ (l : List Extent). has_shapes array && has_tiers array && list_all (lies_well after_members (extents before.arrays)) l && not (list_any (passes_floor seats) l)) own
        ∙ ap (λ (b : Bool). has_shapes array && has_tiers array && b && not (list_any (passes_floor seats) (array_extents array))) (all_lie_kept before (Lose references) (extents before.arrays) (array_extents array))

    usable_is : (guid key : List ℕ) (array : Array)
        → unusable (members_after before (Lose references)) seats (extents (arrays_after before (Lose references))) guid (made key array) ≡ unusable before.members seats (extents before.arrays) guid array
    usable_is guid key array =
        let keeps = made_numbers key array in
        let next = made key array in
        ap (λ (level : Option Refusal). first_refusal
        (level ∷ refuse_if (not (is_served_on (members_after before (Lose references)) seats (extents (arrays_after before (Lose references))) next)) Shape ∷ refuse_if (not (config.is_complete next)) Lost ∷ [])) (keeps.levels guid)
        ∙ ap (λ (b : Bool). first_refusal (unserved_level guid array ∷ refuse_if (not b) Shape ∷ refuse_if (not (config.is_complete next)) Lost ∷ [])) (served_is key array)
        ∙ ap (λ (b : Bool). first_refusal (unserved_level guid array ∷ refuse_if (not (is_served_on before.members seats (extents before.arrays) array)) Shape ∷ refuse_if (not b) Lost ∷ [])) keeps.complete

    -- both have a view, or neither has
    pub record BothViewed (guid : List ℕ) : Type 0 where
      pub v : Volume
      pub w : Volume
      pub view : view_of before guid seats ≡ Ok v
      pub after_view : view_of (changed_at before (Lose references) sequence) guid seats ≡ Ok w

    pub record NoneViewed (guid : List ℕ) : Type 0 where
      pub refusal : Refusal
      pub after_refusal : Refusal
      pub view : view_of before guid seats ≡ Err refusal
      pub after_view : view_of (changed_at before (Lose references) sequence) guid seats ≡ Err after_refusal

    by_tiers : (array next : Array) (o p : Option Arrangement) → array_tiers array ≡ o → array_tiers next ≡ p → p ≡ o
        → ((v : Volume) × (w : Volume) × (viewed seats array ≡ Ok v) × (viewed seats next ≡ Ok w)) ⊎ ((viewed seats array ≡ Err Shape) × (viewed seats next ≡ Err Shape))
    by_tiers array next None None is is' same = inr (
      ap (λ (t : Option Arrangement). elim t [ None ↦ Err Shape | Some tiers ↦ Ok (volume (is_marked array) tiers (parts_of seats array.elements)) ]) is,
      ap (λ (t : Option Arrangement). elim t [ None ↦ Err Shape | Some tiers ↦ Ok (volume (is_marked next) tiers (parts_of seats next.elements)) ]) is',
    )
    by_tiers array next None (Some t) is is' same = absurd (cc)
    by_tiers array next (Some t) None is is' same = absurd (cc)
    by_tiers array next (Some t) (Some t') is is' same = inl (
      volume (is_marked array) t (parts_of seats array.elements),
      volume (is_marked next) t' (parts_of seats next.elements),
      ap (λ (t : Option Arrangement). elim t [ None ↦ Err Shape | Some tiers ↦ Ok (volume (is_marked array) tiers (parts_of seats array.elements)) ]) is,
      ap (λ (t : Option Arrangement). elim t [ None ↦ Err Shape | Some tiers ↦ Ok (volume (is_marked next) tiers (parts_of seats next.elements)) ]) is',
    )

    abbrev seen : Array → Option Refusal → Result Volume Refusal
    seen array refused = elim refused [ None ↦ viewed seats array | Some refusal ↦ Err refusal ]

    by_refusal : (guid : List ℕ) (array next : Array) → lookup (same_guid guid) before.arrays ≡ Some array → lookup (same_guid guid) (arrays_after before (Lose references)) ≡ Some next → array_tiers next ≡ array_tiers array
        → (r : Option Refusal) → unusable before.members seats (extents before.arrays) guid array ≡ r
        → unusable (members_after before (Lose references)) seats (extents (arrays_after before (Lose references))) guid next ≡ r → BothViewed guid ⊎ NoneViewed guid
    by_refusal guid array next found there tiers (Some refusal) is is' = inr (record {
      refusal = refusal;
      after_refusal = refusal;
      view = ap (view_by before guid seats) found ∙ ap (seen array) is;
      after_view = ap (view_by (changed_at before (Lose references) sequence) guid seats) there ∙ ap (seen next) is';
    })
    by_refusal guid array next found there tiers None is is' =
        ⊎_elim
        (λ both. inl (record {
          v = both.0;
          w = both.1;
          view = ap (view_by before guid seats) found ∙ ap (seen array) is ∙ both.2;
          after_view = ap (view_by (changed_at before (Lose references) sequence) guid seats) there ∙ ap (seen next) is' ∙ both.3;
        }))
        (λ none. inr (record {
          refusal = Shape;
          after_refusal = Shape;
          view = ap (view_by before guid seats) found ∙ ap (seen array) is ∙ none.0;
          after_view = ap (view_by (changed_at before (Lose references) sequence) guid seats) there ∙ ap (seen next) is' ∙ none.1;
        }))
        (by_tiers array next (array_tiers array) (array_tiers next) refl refl tiers)

    by_array : (guid : List ℕ) (found : Option Array) → lookup (same_guid guid) before.arrays ≡ found → BothViewed guid ⊎ NoneViewed guid
    by_array guid None is = inr (record {
      refusal = _;
      after_refusal = _;
      view = ap (view_by before guid seats) is;
      after_view = ap (view_by (changed_at before (Lose references) sequence) guid seats) (ap (lookup (same_guid guid)) table_is ∙ lookup_none made (same_guid guid) before.arrays is);
    })
    by_array guid (Some array) is =
        let next = looked_up made (same_guid guid) before.arrays array is in
        by_refusal guid array (made next.0 array) is (ap (lookup (same_guid guid)) table_is ∙ next.2) (made_numbers next.0 array).tiers
        (unusable before.members seats (extents before.arrays) guid array) refl (usable_is guid next.0 array)

    pub views_agree : (guid : List ℕ) → BothViewed guid ⊎ NoneViewed guid
    views_agree guid = by_array guid (lookup (same_guid guid) before.arrays) refl

    -- each array was one from before
    pub arrays_remain : AreCurrentSeats before.members seats → ArraysRemain before (changed_at before (Lose references) sequence) seats seats
    arrays_remain are guid array found =
        let was = value_before (λ g a. Some (made g a)) (same_guid guid) (never_drops made (same_guid guid)) before.arrays array (ap (lookup (same_guid guid)) (sym table_is) ∙ found) in
        let same : made was.key was.value ≡ array = let e = was.is_changed in cc in (
          was.value,
          was.was,
          λ w over.
              remains_over before.members seats seats was.value array w are (λ reference. inr (refl, refl))
              (subst (IsLessArray was.value) same (made_less was.key was.value))
              (subst (λ (a : Array). DoRemain was.value.elements a.elements) same (made_remains was.key was.value)) over,
        )

  -- the GUIDs stay
  guids_by : (es : List (List ℕ × Array)) → map (λ (entry : List ℕ × Array). entry.0) (changed_entries (λ g a. Some (made g a)) es) ≡ map (λ (entry : List ℕ × Array). entry.0) es
  guids_by [] = refl
  guids_by (entry ∷ es) = ap (λ (l : List (List ℕ)). entry.0 ∷ l) (guids_by es)

  pub guids_same : map (λ (entry : List ℕ × Array). entry.0) (arrays_after before (Lose references)) ≡ map (λ (entry : List ℕ × Array). entry.0) before.arrays
  guids_same = ap (λ (es : List (List ℕ × Array)). map (λ (entry : List ℕ × Array). entry.0) es) table_is ∙ guids_by before.arrays
