-- What a command on the blocks of an array isn't refused for: so the array is within its level, and no element of it that keeps parity lacks a position.
use Rattle.std.proofs.Common.{◌≡◌, ◌⊎◌, ◌∙◌, inl, inr, ⊎_elim, ℕ, Bool, true, false, not, List, [], ◌∷◌, ◌++◌, Option, Some, None, Result, Ok, refl, ap, sym, subst, if◌then◌else◌}
use Rattle.std.specs.Option.{option_or}
use Rattle.std.specs.Prelude.{option_to_list}
use Rattle.std.specs.Map.{lookup}
use Rattle.std.proofs.lemmas.Bool.{not-false}
use Rattle.ddf_config.specs.declared.refusal.Refusal.{Refusal}
use Rattle.ddf_config.specs.declared.refusal.Refusal.TheVariants.{Held, Lost, Range, Shape}
use Rattle.ddf_config.specs.declared.seat.Seat.{Seat}
use Rattle.ddf_config.specs.Configuration.{Configuration}
use Rattle.ddf_config.specs.Extents.{extents}
use Rattle.ddf_config.specs.Levels.{unserved_level}
use Rattle.ddf_config.specs.Members.{same_guid}
use Rattle.ddf_config.specs.Refusals.{first_refusal, refuse_if}
use Rattle.ddf_config.specs.Shapes.{array_capacity}
use Rattle.ddf_config.specs.Unusable.{is_served_on}
use Rattle.ddf_config.specs.Within.{is_complete}
use Rattle.ddf_config.proofs.Firsts.{all_pass, first_append}
use Rattle.ddf_plan.specs.declared.change.Change.{Change}
use Rattle.ddf_plan.specs.declared.change.Change.TheVariants.{Mark}
use Rattle.ddf_plan.specs.Changes.{changed_at}
use Rattle.ddf_plan.proofs.Made.{not_refused}
use Rattle.ddf_array.specs.Viewing.{is_array_redundant, is_array_within, view_of}
use Rattle.ddf_array.specs.Volume.{Volume}
use Rattle.ddf_array.specs.Within.{is_redundant, is_within}
use Rattle.ddf_array.proofs.Told.{told_redundant, told_within}
use Rattle.ddf_array.proofs.Viewed.{has_view as view_there}
use Rattle.ddf_read.specs.declared.fault.VolumeFault.TheVariants as volumes
use Rattle.ddf_cells.specs.Degraded.{is_degraded}
use Rattle.ddf_resync.specs.Resyncing.{resync_refusal}
use Rattle.ddf_data_array.specs.Changing.{IsWritable}
use Rattle.ddf_seats.specs.Group.{GroupValue}
use Rattle.ddf_recovery.specs.Ready.{readied}
use Rattle.ddf_recovery.specs.Recovery.{config_recovered}
use Rattle.ddf_steps.specs.Steps.{Step}
use Rattle.ddf_resync.proofs.Resynced.{not_refused as refused_none}
use Rattle.ddf_answer.specs.declared.failure.Failure.{Failure}
use Rattle.ddf_group_commands.specs.Change.{steps_asked}
use Rattle.ddf_group_commands.proofs.Outcomes.{asked_of as readied_of}
use Rattle.ddf_read_commands.specs.declared.using.Access.{Access}
use Rattle.ddf_request.specs.Usable.{bad_blocks, useless}
use Rattle.ddf_read_commands.specs.Use.{array_refusals, is_forbidden, is_out_of_range}
use Rattle.ddf_read_commands.proofs.ArrayUse.{none_of_three}
use Rattle.ddf_write_commands.specs.Around.{marking}
use Rattle.ddf_write_commands.specs.Planned.{Entry, IsPlanned, Refusing, asked_of, lacks_position, request_around, unless_refused}
use Rattle.ddf_write_commands.proofs.Marked.{marked_view, refusal_same, with_mark}

-- ---- what is asked

-- nothing refuses it, and its steps are those of its changes
pub record IsAccepted (found : GroupValue) (timestamp : ℕ) (refusing : Refusing) (behind : Entry → List Change) (entry : Entry) (steps : List Step) : Type 0 where
  pub accepted : first_refusal (refusing (config_recovered found) found.seats entry) ≡ None
  pub are_steps : readied found (marking entry ++ behind entry) timestamp ≡ Ok steps

pub accepted_plan : (found : GroupValue) (timestamp : ℕ) (word : List ℕ) (refusing : Refusing) (behind : Entry → List Change) (plan : IsPlanned found timestamp word (request_around refusing behind word))
    → IsAccepted found timestamp refusing behind plan.entry (plan.first ++ plan.last)
accepted_plan found timestamp word refusing behind plan =
    by (first_refusal (refusing (config_recovered found) found.seats plan.entry)) refl
    (sym (ap (λ (o : Option Entry). steps_asked found timestamp (asked_of refusing behind (config_recovered found) found.seats o)) plan.is_named) ∙ plan.are_asked)
  where
    by : (o : Option Refusal) → first_refusal (refusing (config_recovered found) found.seats plan.entry) ≡ o
        → ◌≡◌ {A = Result (List Step) Failure} (steps_asked found timestamp (unless_refused (marking plan.entry ++ behind plan.entry) o)) (Ok (plan.first ++ plan.last))
        → IsAccepted found timestamp refusing behind plan.entry (plan.first ++ plan.last)
    by None none is = record { accepted = none; are_steps = readied_of (readied found (marking plan.entry ++ behind plan.entry) timestamp) (plan.first ++ plan.last) is }
    by (Some refusal) some is = absurd cc

-- the mark that stands before the blocks, if there is one
abbrev pub mark_of : Entry → Option Change
mark_of entry = if is_array_redundant entry.1 then Some (Mark entry.0) else None

pub marking_is : (entry : Entry) → marking entry ≡ option_to_list (mark_of entry)
marking_is entry = by (is_array_redundant entry.1)
  where
    by : (b : Bool) → ◌≡◌ {A = List Change} (if b then Mark entry.0 ∷ [] else []) (option_to_list (if b then Some (Mark entry.0) else None))
    by true = refl
    by false = refl

pub mark_is : (entry : Entry) (change : Change) → mark_of entry ≡ Some change → (is_array_redundant entry.1 ≡ true) × (change ≡ Mark entry.0)
mark_is entry change = by (is_array_redundant entry.1) refl
  where
    by : (b : Bool) → is_array_redundant entry.1 ≡ b → ◌≡◌ {A = Option Change} (if b then Some (Mark entry.0) else None) (Some change)
        → (is_array_redundant entry.1 ≡ true) × (change ≡ Mark entry.0)
    by true is e = let same : Mark entry.0 ≡ change = cc in (is, sym same)
    by false is e = absurd cc

-- ---- what isn't refused

-- the first of several causes
pub front_passes : (xs ys : List (Option Refusal)) → first_refusal (xs ++ ys) ≡ None → first_refusal xs ≡ None
front_passes xs ys none = by (first_refusal xs) refl (sym (first_append xs ys) ∙ none)
  where
    by : (o : Option Refusal) → first_refusal xs ≡ o → option_or o (first_refusal ys) ≡ None → o ≡ None
    by None is e = refl
    by (Some refusal) is e = absurd cc

both_pass : (xs : List (Option Refusal)) (x y : Option Refusal) (ys : List (Option Refusal)) → first_refusal (xs ++ x ∷ y ∷ ys) ≡ None → y ≡ None
both_pass [] None y ys none = all_pass [] y ys none
both_pass [] (Some refusal) y ys none = absurd cc
both_pass (None ∷ xs) x y ys none = both_pass xs x y ys none
both_pass (Some refusal ∷ xs) x y ys none = absurd cc

third_passes : (xs : List (Option Refusal)) (x y z : Option Refusal) (ys : List (Option Refusal)) → first_refusal (xs ++ x ∷ y ∷ z ∷ ys) ≡ None → z ≡ None
third_passes [] None y z ys none = both_pass [] y z ys none
third_passes [] (Some refusal) y z ys none = absurd cc
third_passes (None ∷ xs) x y z ys none = third_passes xs x y z ys none
third_passes (Some refusal ∷ xs) x y z ys none = absurd cc

-- of two causes behind others
pub two_pass : (xs : List (Option Refusal)) (a b : Bool) (one other : Refusal) → first_refusal (xs ++ refuse_if (not a) one ∷ refuse_if b other ∷ []) ≡ None
    → (first_refusal xs ≡ None) × (a ≡ true) × (b ≡ false)
two_pass xs a b one other none = (
  front_passes xs (refuse_if (not a) one ∷ refuse_if b other ∷ []) none,
  not-false a (not_refused (not a) one (all_pass xs (refuse_if (not a) one) (refuse_if b other ∷ []) none)),
  not_refused b other (both_pass xs (refuse_if (not a) one) (refuse_if b other) [] none),
)

-- and of three
pub three_pass : (xs : List (Option Refusal)) (a b c : Bool) (one other third : Refusal) → first_refusal (xs ++ refuse_if (not a) one ∷ refuse_if b other ∷ refuse_if c third ∷ []) ≡ None
    → (first_refusal xs ≡ None) × (a ≡ true) × (b ≡ false) × (c ≡ false)
three_pass xs a b c one other third none = (
  front_passes xs (refuse_if (not a) one ∷ refuse_if b other ∷ refuse_if c third ∷ []) none,
  not-false a (not_refused (not a) one (all_pass xs (refuse_if (not a) one) (refuse_if b other ∷ refuse_if c third ∷ []) none)),
  not_refused b other (both_pass xs (refuse_if (not a) one) (refuse_if b other) (refuse_if c third ∷ []) none),
  not_refused c third (third_passes xs (refuse_if (not a) one) (refuse_if b other) (refuse_if c third) [] none),
)

-- ---- the array that a word names

-- One whose blocks nothing of its records refuses has a view.
viewable : (access : Access) (config : Configuration) (seats : List Seat) (start count : ℕ) (entry : Entry) → first_refusal (array_refusals access config seats entry.0 entry.1 start count) ≡ None
    → lookup (same_guid entry.0) config.arrays ≡ Some entry.1 → (v : Volume) × (view_of config entry.0 seats ≡ Ok v)
viewable access config seats start count entry accepted there =
    let out : Option Refusal = refuse_if (is_out_of_range entry.1 start count) (Range (array_capacity entry.1)) in
    let unknown : Option Refusal = refuse_if (not (is_complete entry.1)) Lost in
    let forbidden : Option Refusal = refuse_if (is_forbidden access entry.1) Held in
    let first : useless config seats entry.0 entry.1 ≡ None = all_pass [] (useless config seats entry.0 entry.1) (out ∷ bad_blocks seats entry.1 ∷ forbidden ∷ unknown ∷ []) accepted in
    let last : refuse_if (not (is_complete entry.1)) Lost ≡ None = all_pass (useless config seats entry.0 entry.1 ∷ out ∷ bad_blocks seats entry.1 ∷ forbidden ∷ []) unknown [] accepted in
    view_there config entry.0 seats entry.1 there
    (none_of_three (unserved_level entry.0 entry.1) (refuse_if (not (is_served_on config.members seats (extents config.arrays) entry.1)) Shape) unknown first last)

-- ---- its view

-- The array has a view before its mark, within its level, and no element that keeps parity lacks a position.
pub record HasView (config : Configuration) (seats : List Seat) (entry : Entry) : Type 0 where
  pub volume : Volume
  pub is_view : view_of config entry.0 seats ≡ Ok volume
  pub within : is_within volume ≡ true
  pub whole : is_degraded volume ≡ false

pub has_view : (access : Access) (config : Configuration) (seats : List Seat) (start count : ℕ) (word : List ℕ) (entry : Entry) → first_refusal (array_refusals access config seats entry.0 entry.1 start count) ≡ None
    → lookup (same_guid entry.0) config.arrays ≡ Some entry.1 → is_array_within seats entry.1 ≡ true → lacks_position (view_of config entry.0 seats) ≡ false → HasView config seats entry
has_view access config seats start count word entry accepted there within whole =
    let view = viewable access config seats start count entry accepted there in
    record {
      volume = view.0;
      is_view = view.1;
      within = told_within config entry.0 seats view.0 entry.1 view.1 there ∙ within;
      whole = sym (ap lacks_position view.1) ∙ whole;
    }

none_refused : (v : Volume) → is_within v ≡ true → is_degraded v ≡ false → resync_refusal v ≡ None
none_refused v within whole =
    ap (λ (b : Bool). if not b then Some volumes.Lost else (if is_degraded v then Some volumes.Unsure else None)) within
    ∙ ap (λ (b : Bool). if b then Some volumes.Unsure else None) whole

-- so once it is marked
pub record IsReadied (v : Volume) : Type 0 where
  pub within : is_within v ≡ true
  pub whole : is_degraded v ≡ false
  pub writable : IsWritable v

module _ (config : Configuration) (seats : List Seat) (entry : Entry) (there : lookup (same_guid entry.0) config.arrays ≡ Some entry.1) (has : HasView config seats entry) where
  -- The view in between is the same, or has the mark.
  pub between_view : (between : Configuration) (v : Volume) → view_of between entry.0 seats ≡ Ok v
      → (between ≡ config) ⊎ ((sequence : ℕ) × (between ≡ changed_at config (Mark entry.0) sequence)) → (v ≡ has.volume) ⊎ (v ≡ with_mark has.volume)
  between_view between v view is = ⊎_elim
      (λ same. inl (let one : ◌≡◌ {A = Result Volume Refusal} (Ok v) (Ok has.volume) = sym view ∙ ap (λ (c : Configuration). view_of c entry.0 seats) same ∙ has.is_view in cc))
      (λ marked. inr (let one : ◌≡◌ {A = Result Volume Refusal} (Ok v) (Ok (with_mark has.volume)) =
      sym view ∙ ap (λ (c : Configuration). view_of c entry.0 seats) marked.1 ∙ marked_view config entry.0 seats has.volume has.is_view marked.0 in cc))
      is

  pub readied_view : (v : Volume) → (v ≡ has.volume) ⊎ (v ≡ with_mark has.volume) → IsWritable v → IsReadied v
  readied_view v is writable =
      let both = ⊎_elim
      (λ same. subst (λ (x : Volume). (is_within x ≡ true) × (is_degraded x ≡ false)) (sym same) (has.within, has.whole))
      (λ marked. subst (λ (x : Volume). (is_within x ≡ true) × (is_degraded x ≡ false)) (sym marked)
      (refused_none (with_mark has.volume) (refusal_same has.volume ∙ none_refused has.volume has.within has.whole))) is in
      record { within = both.0; whole = both.1; writable = writable }

  -- An array that keeps what it holds in one place alone isn't redundant by its view.
  pub plain_view : is_array_redundant entry.1 ≡ false → is_redundant has.volume ≡ false
  plain_view plain = told_redundant config entry.0 seats has.volume entry.1 has.is_view there ∙ plain
