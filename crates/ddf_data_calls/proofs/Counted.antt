-- What the changes of a rebuild make of the arrays of a configuration, taken together: notes of how far a position has come, and its end.
use Rattle.std.proofs.Common.{◌≡◌, ◌∙◌, ◌⊎◌, inl, inr, ⊎_elim, ℕ, zero, suc, Bool, true, false, List, [], ◌∷◌, ◌++◌, map, Option, Some, None, refl, sym, ap, subst, if◌then◌else◌}
use Rattle.std.specs.Map.{lookup}
use Rattle.ddf_bay.specs.Sectors.{Image}
use Rattle.ddf_config.specs.declared.array.Array.{Array}
use Rattle.ddf_config.specs.declared.element.Position.{Position}
use Rattle.ddf_config.specs.declared.extent.Extent.{Extent}
use Rattle.ddf_config.specs.declared.member.Member.{Member}
use Rattle.ddf_config.specs.declared.seat.Seat.{Seat}
use Rattle.ddf_config.specs.Configuration.{Configuration}
use Rattle.ddf_config.specs.ElementValue.{ElementValue}
use Rattle.ddf_config.specs.Entries.{changed_entries}
use Rattle.ddf_config.specs.Extents.{extents}
use Rattle.ddf_config.specs.Members.{is_current, same_guid}
use Rattle.ddf_config.specs.States.{array_with_low, is_marked}
use Rattle.ddf_plan.specs.declared.change.Change.TheVariants.{Finish, Progress}
use Rattle.ddf_plan.specs.Arrays.{kept_and_added, rebuilding}
use Rattle.ddf_plan.specs.Changes.{changed_at}
use Rattle.ddf_plan.specs.Members.{member_after, members_after}
use Rattle.ddf_array.specs.Losing.{AreFewer}
use Rattle.ddf_array.specs.Volume.{Volume}
use Rattle.ddf_data_array.specs.Allowed.{Allowed}
use Rattle.ddf_data_array.specs.Changing.{changed_item}
use Rattle.ddf_data_group.specs.Clearing.{IsNotedArray, IsSameButMark, MayBeInSync, MayBeNoted, element_in_sync, element_noted, elements_in_sync, elements_noted, position_in_sync, position_noted}
use Rattle.ddf_data_group.specs.Grouped.{KeepsArrays, Promises}
use Rattle.ddf_data_group.specs.Kept.{KeepsArray}
use Rattle.ddf_data_group.specs.Lessening.{AllStay, AreLessParts, AreLessPositions, AreStaying, IsLessArray}
use Rattle.ddf_data_group.specs.Over.{AreCurrentSeats, IsOver, absent_in}
use Rattle.ddf_data_group.proofs.Cleared.{same_marked}
use Rattle.ddf_data_group.proofs.Entries.{before, current_same, found_in, guid_is, never_drops, same_mark}
use Rattle.ddf_data_group.proofs.Keeping.{kept_staying, less_parts, less_position, stay_position}
use Rattle.ddf_data_group.proofs.Named.{finished_synced, progressed_noted}
use Rattle.ddf_data_group.proofs.Synced.{finished, noted_rows}

-- ---- an array behind a change of one

-- the same array, its low state aside
pub record IsLike (one other : Array) : Type 0 where
  pub same : IsSameButMark one other
  pub same_mark : is_marked other ≡ is_marked one

like_then : (one middle other : Array) → IsLike one middle → IsLike middle other → IsLike one other
like_then one middle other first last = record {
  same = record { same_secondary = last.same.same_secondary ∙ first.same.same_secondary; same_elements = last.same.same_elements ∙ first.same.same_elements };
  same_mark = last.same_mark ∙ first.same_mark;
}

like_low : (members : List (ℕ × Member)) (all : List Extent) (array : Array) → IsLike array (array_with_low members all array)
like_low members all array = record { same = record { same_secondary = refl; same_elements = refl }; same_mark = same_mark members all array }

-- It is what the change makes of one from before, where it is the one that is named, and else as it was, its low state aside.
pub record HasWas (f : Array → Array) (guid : List ℕ) (arrays : List (List ℕ × Array)) (other : List ℕ) (after : Array) : Type 0 where
  pub before : Array
  pub was : lookup (same_guid other) arrays ≡ Some before
  pub how : ((same_guid guid other ≡ true) × IsLike (f before) after) ⊎ ((same_guid guid other ≡ false) × IsLike before after)

module _ (members : List (ℕ × Member)) (all : List Extent) (f : Array → Array) (guid : List ℕ) (arrays : List (List ℕ × Array)) where
  abbrev Made : List ℕ → Array → Array
  Made k x = if same_guid guid k then f x else x

  pub was_before : (other : List ℕ) (after : Array)
      → lookup (same_guid other) (changed_entries (λ k x. Some (array_with_low members all x)) (changed_entries (λ k x. Some (if same_guid guid k then f x else x)) arrays ++ [])) ≡ Some after
      → HasWas f guid arrays other after
  was_before other after found =
      let low = before (λ k x. Some (array_with_low members all x)) (same_guid other) (never_drops (λ k x. array_with_low members all x) (same_guid other))
      (changed_entries (λ k x. Some (if same_guid guid k then f x else x)) arrays ++ []) after found in
      behind low.value (let e = low.is_changed in cc)
      (⊎_elim (λ old. old) (λ added. absurd (none_there low.value added)) (found_in (same_guid other) (changed_entries (λ k x. Some (if same_guid guid k then f x else x)) arrays) [] low.value low.was))
    where
      none_there : (x : Array) → ◌≡◌ {A = Option Array} None (Some x) → ⊥
      none_there x e = cc

      by : (b : Bool) → same_guid guid other ≡ b → (x : Array) → lookup (same_guid other) arrays ≡ Some x → IsLike (if b then f x else x) after → HasWas f guid arrays other after
      by true is x was like = record { before = x; was = was; how = inl (is, like) }
      by false is x was like = record { before = x; was = was; how = inr (is, like) }

      named : (k : List ℕ) (x y : Array) → same_guid other k ≡ true → lookup (same_guid other) arrays ≡ Some x → (if same_guid guid k then f x else x) ≡ y → IsLike y after → HasWas f guid arrays other after
      named k x y key was made like =
          by (same_guid guid k) (ap (same_guid guid) (guid_is other k key)) x was (subst (λ (z : Array). IsLike z after) (sym made) like)

      behind : (x : Array) → array_with_low members all x ≡ after → lookup (same_guid other) (changed_entries (λ k x. Some (if same_guid guid k then f x else x)) arrays) ≡ Some x → HasWas f guid arrays other after
      behind x same there =
          let was = before (λ k x. Some (if same_guid guid k then f x else x)) (same_guid other) (never_drops (λ k x. if same_guid guid k then f x else x) (same_guid other)) arrays x there in
          named was.key was.value x was.passes was.was (let e = was.is_changed in cc) (subst (IsLike x) same (like_low members all x))

-- ---- a note behind another

rows_twice : (b : ℕ) (positions : List Position) → map (position_noted 0) (map (position_noted b) positions) ≡ map (position_noted 0) positions
rows_twice b [] = refl
rows_twice b (one ∷ positions) = ap (λ l. position_noted 0 one ∷ l) (rows_twice b positions)

positions_twice : (a b p : ℕ) (positions : List Position)
    → changed_item (position_noted b) p (map (position_noted 0) (changed_item (position_noted a) p (map (position_noted 0) positions))) ≡ changed_item (position_noted b) p (map (position_noted 0) positions)
positions_twice a b p [] = refl
positions_twice a b zero (one ∷ positions) = ap (λ l. position_noted b one ∷ l) (rows_twice 0 positions)
positions_twice a b (suc p) (one ∷ positions) = ap (λ l. position_noted 0 one ∷ l) (positions_twice a b p positions)

elements_twice : (a b e p : ℕ) (elements : List (Option ElementValue)) → elements_noted e p b (elements_noted e p a elements) ≡ elements_noted e p b elements
elements_twice a b e p [] = refl
elements_twice a b zero p (None ∷ elements) = refl
elements_twice a b zero p (Some plan ∷ elements) = ap (λ (l : List Position). Some (record plan { positions = l }) ∷ elements) (positions_twice a b p plan.positions)
elements_twice a b (suc e) p (part ∷ elements) = ap (λ l. part ∷ l) (elements_twice a b e p elements)

-- ---- an end behind a note

less_rest : (positions : List Position) → AreLessPositions positions (map (position_noted 0) positions)
less_rest [] = tt
less_rest (one ∷ positions) = (inr (refl, refl, refl, inl refl), less_rest positions)

less_synced : (a p : ℕ) (positions : List Position) → AreLessPositions (changed_item position_in_sync p positions) (changed_item position_in_sync p (changed_item (position_noted a) p (map (position_noted 0) positions)))
less_synced a p [] = tt
less_synced a zero (one ∷ positions) = (inr (refl, refl, refl, inl refl), less_rest positions)
less_synced a (suc p) (one ∷ positions) = (inr (refl, refl, refl, inl refl), less_synced a p positions)

less_ended : (a e p : ℕ) (elements : List (Option ElementValue)) → AreLessParts (elements_in_sync e p elements) (elements_in_sync e p (elements_noted e p a elements))
less_ended a e p [] = tt
less_ended a zero p (None ∷ elements) = (tt, less_parts elements)
less_ended a zero p (Some plan ∷ elements) = (record { same_level = refl; same_qualifier = refl; same_strip = refl; same_blocks = refl; less = less_synced a p plan.positions }, less_parts elements)
less_ended a (suc e) p (None ∷ elements) = (tt, less_ended a e p elements)
less_ended a (suc e) p (Some plan ∷ elements) = (record { same_level = refl; same_qualifier = refl; same_strip = refl; same_blocks = refl; less = less_position plan.positions }, less_ended a e p elements)

stay_rest : (c : ℕ → Bool) (positions : List Position) → AreStaying c positions (map (position_noted 0) positions)
stay_rest c [] = tt
stay_rest c (one ∷ positions) = (inr (refl, refl, refl), stay_rest c positions)

stay_synced : (c : ℕ → Bool) (a p : ℕ) (positions : List Position) → AreStaying c (changed_item position_in_sync p positions) (changed_item position_in_sync p (changed_item (position_noted a) p (map (position_noted 0) positions)))
stay_synced c a p [] = tt
stay_synced c a zero (one ∷ positions) = (inr (refl, refl, refl), stay_rest c positions)
stay_synced c a (suc p) (one ∷ positions) = (inr (refl, refl, refl), stay_synced c a p positions)

one_element : {one other : ElementValue} → ◌≡◌ {A = Option (Option ElementValue)} (Some (Some one)) (Some (Some other)) → one ≡ other
one_element e = cc

stay_itself : (c : ℕ → Bool) (elements : List (Option ElementValue)) → AllStay c elements elements
stay_itself c elements k one other at there = subst (λ (plan : ElementValue). AreStaying c one.positions plan.positions) (one_element (sym at ∙ there)) (stay_position c one.positions)

stay_ended : (c : ℕ → Bool) (a e p : ℕ) (elements : List (Option ElementValue)) → AllStay c (elements_in_sync e p elements) (elements_in_sync e p (elements_noted e p a elements))
stay_ended c a e p [] k one other at there = absurd cc
stay_ended c a zero p (None ∷ elements) zero one other at there = absurd cc
stay_ended c a zero p (Some plan ∷ elements) zero one other at there =
    let first : element_in_sync p plan ≡ one = cc in
    let last : element_in_sync p (element_noted p a plan) ≡ other = cc in
    subst (λ (x : ElementValue). AreStaying c x.positions other.positions) first
    (subst (λ (x : ElementValue). AreStaying c (element_in_sync p plan).positions x.positions) last (stay_synced c a p plan.positions))
stay_ended c a zero p (part ∷ elements) (suc k) one other at there = stay_itself c elements k one other at there
stay_ended c a (suc e) p (part ∷ elements) zero one other at there = stay_itself c (part ∷ []) zero one other at there
stay_ended c a (suc e) p (part ∷ elements) (suc k) one other at there = stay_ended c a e p elements k one other at there

few_itself : (seats : List Seat) → AreFewer seats seats
few_itself seats reference = inr (refl, refl)

-- ---- the arrays of a configuration, some changes behind another one

module _ (guid : List ℕ) (element position : ℕ) where
  -- nothing was noted of an array yet, or so many rows count
  abbrev pub IsCounted : Option ℕ → Array → Array → Type 0
  IsCounted None one other = IsLike one other
  IsCounted (Some row) one other = IsNotedArray element position row one other

  abbrev noting : ℕ → Array → Array
  noting row array = rebuilding false (Progress guid element position row) element array

  abbrev ending : Array → Array
  ending array = rebuilding false (Finish guid element position) element array

  noted_behind : (row : Option ℕ) (next : ℕ) (one middle other : Array) → IsCounted row one middle → IsLike (noting next middle) other → IsNotedArray element position next one other
  noted_behind None next one middle other counted like =
      let noted = progressed_noted guid element position next middle in
      record {
        same_secondary = like.same.same_secondary ∙ counted.same.same_secondary;
        same_mark = like.same_mark ∙ counted.same_mark;
        elements_are = like.same.same_elements ∙ noted.elements_are ∙ ap (elements_noted element position next) counted.same.same_elements;
      }
  noted_behind (Some row) next one middle other counted like =
      let noted = progressed_noted guid element position next middle in
      record {
        same_secondary = like.same.same_secondary ∙ counted.same_secondary;
        same_mark = like.same_mark ∙ counted.same_mark;
        elements_are = like.same.same_elements ∙ noted.elements_are ∙ ap (elements_noted element position next) counted.elements_are ∙ elements_twice row next element position one.elements;
      }

  -- The arrays of a configuration are those of one before, of which nothing was noted yet or so many rows of the position are, and members are current as they were.
  pub record IsAfter (row : Option ℕ) (start config : Configuration) : Type 0 where
    pub current : (reference : ℕ) → is_current config.members reference ≡ is_current start.members reference
    pub arrays : (other : List ℕ) (after : Array) → lookup (same_guid other) config.arrays ≡ Some after
        → (one : Array) × (lookup (same_guid other) start.arrays ≡ Some one) × (((same_guid guid other ≡ true) × IsCounted row one after) ⊎ ((same_guid guid other ≡ false) × IsLike one after))

  -- Behind these the position is in sync.
  pub record IsEnded (row : Option ℕ) (start config : Configuration) : Type 0 where
    pub current : (reference : ℕ) → is_current config.members reference ≡ is_current start.members reference
    pub arrays : (other : List ℕ) (after : Array) → lookup (same_guid other) config.arrays ≡ Some after
        → (one : Array) × (lookup (same_guid other) start.arrays ≡ Some one)
        × (((same_guid guid other ≡ true) × ((middle : Array) × IsCounted row one middle × IsLike (ending middle) after)) ⊎ ((same_guid guid other ≡ false) × IsLike one after))

  pub at_start : (config : Configuration) → IsAfter None config config
  at_start config = record {
    current = λ reference. refl;
    arrays = λ other after found. (after, found, by (same_guid guid other) after);
  }
    where
      by : (b : Bool) (array : Array) → ((b ≡ true) × IsLike array array) ⊎ ((b ≡ false) × IsLike array array)
      by true array = inl (refl, record { same = record { same_secondary = refl; same_elements = refl }; same_mark = refl })
      by false array = inr (refl, record { same = record { same_secondary = refl; same_elements = refl }; same_mark = refl })

  true_false : {A : Type 0} (b : Bool) → b ≡ true → b ≡ false → A
  true_false b x y = absurd cc

  module _ (row : Option ℕ) (start config : Configuration) (is : IsAfter row start config) (sequence : ℕ) where
    -- So they are behind one more note,
    pub noted_after : (next : ℕ) → IsAfter (Some next) start (changed_at config (Progress guid element position next) sequence)
    noted_after next = record {
      current = λ reference. current_same (member_after config (Progress guid element position next)) (λ k m. refl) config.members reference ∙ is.current reference;
      arrays = λ other after found.
          let was = was_before (members_after config (Progress guid element position next)) (extents (kept_and_added config (Progress guid element position next))) (noting next) guid config.arrays other after found in
          let from = is.arrays other was.before was.was in (
            from.0,
            from.1,
            ⊎_elim
                (λ own. ⊎_elim (λ counted. inl (own.0, noted_behind row next from.0 was.before after counted.1 own.1)) (λ like. true_false (same_guid guid other) own.0 like.0) from.2)
                (λ aside. ⊎_elim (λ counted. true_false (same_guid guid other) counted.0 aside.0) (λ like. inr (aside.0, like_then from.0 was.before after like.1 aside.1)) from.2)
                was.how,
          );
    }

    -- or behind the end.
    pub ended_after : IsEnded row start (changed_at config (Finish guid element position) sequence)
    ended_after = record {
      current = λ reference. current_same (member_after config (Finish guid element position)) (λ k m. refl) config.members reference ∙ is.current reference;
      arrays = λ other after found.
          let was = was_before (members_after config (Finish guid element position)) (extents (kept_and_added config (Finish guid element position))) ending guid config.arrays other after found in
          let from = is.arrays other was.before was.was in (
            from.0,
            from.1,
            ⊎_elim
                (λ own. ⊎_elim (λ counted. inl (own.0, (was.before, counted.1, own.1))) (λ like. true_false (same_guid guid other) own.0 like.0) from.2)
                (λ aside. ⊎_elim (λ counted. true_false (same_guid guid other) counted.0 aside.0) (λ like. inr (aside.0, like_then from.0 was.before after like.1 aside.1)) from.2)
                was.how,
          );
    }

  -- ---- what they keep

  module _ (start config : Configuration) (seats : List Seat) (image : Image) (promises : Promises) (kept : KeepsArrays start seats image promises) where
    -- the array that is rebuilt, where something is promised of it
    abbrev pub OfOwn : ((array : Array) (v : Volume) → Type 0) → Type 0
    OfOwn Says = (allowed : Allowed) (array : Array) (v : Volume) → promises guid ≡ Some allowed → lookup (same_guid guid) start.arrays ≡ Some array → IsOver seats array v → Says array v

    like_keeps : ((reference : ℕ) → is_current config.members reference ≡ is_current start.members reference) → (one other : Array) (allowed : Allowed) → IsLike one other
        → KeepsArray start.members seats one image allowed → KeepsArray config.members seats other image allowed
    like_keeps current one other allowed like keeps = same_marked start.members config.members seats one other image allowed like.same like.same_mark current keeps

    module _ (other : List ℕ) (allowed : Allowed) (one : Array) (promised : promises other ≡ Some allowed) (found : lookup (same_guid other) start.arrays ≡ Some one) (own : same_guid guid other ≡ true) where
      own_promised : promises guid ≡ Some allowed
      own_promised = ap promises (guid_is guid other own) ∙ promised

      own_found : lookup (same_guid guid) start.arrays ≡ Some one
      own_found = ap (λ (g : List ℕ). lookup (same_guid g) start.arrays) (guid_is guid other own) ∙ found

      counted_keeps : (row : Option ℕ) (after : Array) → IsCounted row one after → ((number : ℕ) → row ≡ Some number → OfOwn (λ array v. MayBeNoted v image element position number))
          → KeepsArray start.members seats after image allowed
      counted_keeps None after like may = same_marked start.members start.members seats one after image allowed like.same like.same_mark (λ reference. refl) (kept other allowed one promised found)
      counted_keeps (Some row) after noted may =
          noted_rows start.members seats element position row one after image allowed noted (λ v over. may row refl allowed one v own_promised own_found over) (kept other allowed one promised found)

      ended_less : (row : Option ℕ) (middle after : Array) → IsCounted row one middle → IsLike (ending middle) after
          → IsLessArray (ending one) after × ((c : ℕ → Bool) → AllStay c (ending one).elements after.elements)
      ended_less None middle after counted like =
          let first = finished_synced guid element position one in
          let last = finished_synced guid element position middle in
          let same : after.elements ≡ (ending one).elements =
          like.same.same_elements ∙ last.elements_are ∙ ap (elements_in_sync element position) counted.same.same_elements ∙ sym first.elements_are in (
            record {
              same_secondary = like.same.same_secondary ∙ counted.same.same_secondary;
              mark_is = inr (like.same_mark ∙ counted.same_mark);
              less = subst (AreLessParts (ending one).elements) (sym same) (less_parts (ending one).elements);
            },
            λ c. subst (AllStay c (ending one).elements) (sym same) (stay_itself c (ending one).elements),
          )
      ended_less (Some row) middle after counted like =
          let first = finished_synced guid element position one in
          let last = finished_synced guid element position middle in
          let same : after.elements ≡ elements_in_sync element position (elements_noted element position row one.elements) =
          like.same.same_elements ∙ last.elements_are ∙ ap (elements_in_sync element position) counted.elements_are in (
            record {
              same_secondary = like.same.same_secondary ∙ counted.same_secondary;
              mark_is = inr (like.same_mark ∙ counted.same_mark);
              less = subst (λ (elements : List (Option ElementValue)). AreLessParts elements after.elements) (sym first.elements_are)
                  (subst (AreLessParts (elements_in_sync element position one.elements)) (sym same) (less_ended row element position one.elements));
            },
            λ c. subst (λ (elements : List (Option ElementValue)). AllStay c elements after.elements) (sym first.elements_are)
                (subst (AllStay c (elements_in_sync element position one.elements)) (sym same) (stay_ended c row element position one.elements)),
          )

      ended_own : (row : Option ℕ) (middle after : Array) → IsCounted row one middle → IsLike (ending middle) after → ((reference : ℕ) → is_current config.members reference ≡ is_current start.members reference)
          → AreCurrentSeats start.members seats → OfOwn (λ array v. MayBeInSync (absent_in start.members seats array.elements) v image element position) → KeepsArray config.members seats after image allowed
      ended_own row middle after counted like current are may =
          let less = ended_less row middle after counted like in
          kept_staying start.members config.members seats seats (ending one) after image allowed current are (few_itself seats) less.0 (less.1 (is_current start.members))
          (finished start.members seats element position one (ending one) image allowed (finished_synced guid element position one) (λ v over. may allowed one v own_promised own_found over) (kept other allowed one promised found))

    -- Where so many rows hold what they should, the arrays keep what is promised of them,
    pub after_keeps : (row : Option ℕ) → IsAfter row start config → ((number : ℕ) → row ≡ Some number → OfOwn (λ array v. MayBeNoted v image element position number)) → KeepsArrays config seats image promises
    after_keeps row is may other allowed after promised found =
        let from = is.arrays other after found in
        ⊎_elim
        (λ own. like_keeps is.current after after allowed (record { same = record { same_secondary = refl; same_elements = refl }; same_mark = refl }) (counted_keeps other allowed from.0 promised from.1 own.0 row after own.1 may))
        (λ like. like_keeps is.current from.0 after allowed like.1 (kept other allowed from.0 promised from.1)) from.2

    -- and where all do, once the position is in sync.
    pub ended_keeps : (row : Option ℕ) → IsEnded row start config → AreCurrentSeats start.members seats → OfOwn (λ array v. MayBeInSync (absent_in start.members seats array.elements) v image element position)
        → KeepsArrays config seats image promises
    ended_keeps row is are may other allowed after promised found =
        let from = is.arrays other after found in
        ⊎_elim
        (λ own. ended_own other allowed from.0 promised from.1 own.0 row own.1.0 after own.1.1 own.1.2 is.current are may)
        (λ like. like_keeps is.current from.0 after allowed like.1 (kept other allowed from.0 promised from.1)) from.2
