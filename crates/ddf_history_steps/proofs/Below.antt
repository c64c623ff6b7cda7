-- Calls that write below the floors leave a group at the end of its history there.
use Rattle.std.proofs.Common.{◌≡◌, ◌⊎◌, ℕ, ◌<◌, ◌≤◌, nat_lt, Bool, List, length, Ok, if◌then◌else◌, inl, inr, sym, ap, subst, ◌∙◌, arith}
use Rattle.std.proofs.lemmas.Bool.{cases_lt, le-ltb, lt-ltb}
use Rattle.std.proofs.Math.Path.{fun_ext}
use Rattle.std.specs.Prelude.{slice_index}
use Rattle.ddf_lemmas.proofs.Options.{ok_is}
use Rattle.ddf_header.specs.declared.reading.Header.{Header}
use Rattle.ddf_bay.specs.Moments.{StopsLeave}
use Rattle.ddf_bay.specs.Sectors.{Image, IsLeft}
use Rattle.ddf_bay.specs.State.{BayState, size_of}
use Rattle.ddf_bay.proofs.Steps.{stops_weaken}
use Rattle.ddf_copy.specs.declared.newest_copy.Newest.{Newest}
use Rattle.ddf_copy.specs.declared.which.Which.TheVariants.{Primary, Secondary}
use Rattle.ddf_copy.specs.Anchor.{anchor_at}
use Rattle.ddf_copy.specs.Copies.{newest_at, newest_of}
use Rattle.ddf_group.specs.Shown.{shown_of}
use Rattle.ddf_history.specs.Reading.Shown.{Nothing}
use Rattle.ddf_history.specs.Groups.{groups}
use Rattle.ddf_history.specs.Issued.{Past}
use Rattle.ddf_history.specs.Promise.{IsKept}
use Rattle.ddf_history.specs.Scenes.{scene_of, told_of}
use Rattle.ddf_steps.specs.Committed.{AreSettled}
use Rattle.ddf_seats.specs.Group.{GroupValue}
use Rattle.ddf_assembly.specs.Held.{IsHeldOn, StandsUnder}
use Rattle.ddf_assembly.specs.Reading.{HaveAnchors}
use Rattle.ddf_history_steps.specs.AtEnd.{IsAtEnd}
use Rattle.ddf_history_steps.specs.Kept.{AreAllKept, SaysOne}
use Rattle.ddf_history_steps.proofs.Stops.{same_scene}
use Rattle.ddf_history_steps.specs.BlockFloors.{HasFloor, HaveFloors, StaySettled, WritesBelow}
use Rattle.ddf_history_steps.proofs.Above.{AreSameFrom, anchor_same, copy_same, newest_at_same, newest_of_same}

module _ {D : Type 0} (floor : ℕ → ℕ) (old new : BayState D) (floors : HaveFloors old floor) (below : WritesBelow floor old new) where
  -- What a stop left while sectors below the floors were written.
  abbrev IsAmong : Image → Type 0
  IsAmong image = (s l : ℕ) → old.may_hold s l (image s l) ⊎ (l < floor s)

  -- ---- the image as it was before

  -- an image with what the disks held below the floors
  abbrev before : Image → Image
  before image s l = if nat_lt l (floor s) then old.held s l else image s l

  above_before : (image : Image) (s l : ℕ) → floor s ≤ l → before image s l ≡ image s l
  above_before image s l le = ap (λ (under : Bool). if under then old.held s l else image s l) (le-ltb l (floor s) le)

  below_before : (image : Image) (s l : ℕ) → l < floor s → before image s l ≡ old.held s l
  below_before image s l under = ap (λ (under : Bool). if under then old.held s l else image s l) (lt-ltb l (floor s) under)

  -- It was left before.
  before_left : IsLeft old.may_hold old.held → (image : Image) → IsAmong image → IsLeft old.may_hold (before image)
  before_left is_left image among s l = elim (cases_lt l (floor s)) [
    | inl under ↦ subst (old.may_hold s l) (sym (below_before image s l under)) (is_left s l)
    | inr past ↦ subst (old.may_hold s l) (sym (above_before image s l past)) (elim (among s l) [
      | inl was ↦ was
      | inr under ↦ absurd (omega (arith, past, under))
    ])
  ]

  -- ---- it shows the same

  -- A slot that has a floor holds from there on what it held.
  from_floor : (slot : ℕ) → HasFloor old slot (floor slot) → (image : Image) → IsAmong image → AreSameFrom (floor slot) (old.held slot) (image slot)
  from_floor slot has image among l past = elim (among slot l) [
    | inl was ↦ sym (has.is_settled l (image slot l) was)
    | inr under ↦ absurd (omega (arith, past, under))
  ]

  scene_at_same : (slot : ℕ) (one other : ℕ → List ℕ) → newest_at (slice_index old.sizes slot) one ≡ newest_at (slice_index old.sizes slot) other
      → (if nat_lt slot (length old.sizes) then told_of (shown_of (newest_at (slice_index old.sizes slot) one)) else Nothing)
      ≡ (if nat_lt slot (length old.sizes) then told_of (shown_of (newest_at (slice_index old.sizes slot) other)) else Nothing)
  scene_at_same slot one other same = ap (λ newest. if nat_lt slot (length old.sizes) then told_of (shown_of newest) else Nothing) same

  shows_same : (image : Image) → IsAmong image → (slot : ℕ) → scene_of old.sizes (before image) slot ≡ scene_of old.sizes image slot
  shows_same image among slot = elim (floors slot) [
    | inl none ↦ same_scene old.sizes (before image) image slot (fun_ext (λ l. above_before image slot l (omega (arith, none))))
    | inr has ↦
        let same = from_floor slot has image among in
        let same_before : AreSameFrom (floor slot) (old.held slot) (before image slot) = λ l past. same l past ∙ sym (above_before image slot l past) in
        let one = newest_at_same (floor slot) (old.held slot) (image slot) same (size_of old slot) has.anchor has.within has.is_anchored has.primary has.secondary in
        let other = newest_at_same (floor slot) (old.held slot) (before image slot) same_before (size_of old slot) has.anchor has.within has.is_anchored has.primary has.secondary in
        scene_at_same slot (before image slot) (image slot) (sym other ∙ one)
  ]

  module _ (group : List ℕ) (past : Past (groups group)) (found : GroupValue) (end : IsAtEnd group past old found) where
    -- Such an image shows what it should.
    pub among_kept : (image : Image) → IsAmong image → IsKept past (scene_of old.sizes image)
    among_kept image among =
        subst (IsKept past) (fun_ext (shows_same image among)) (end.all_kept (before image) (before_left end.is_left image among))

    pub moments_kept : StopsLeave old new (λ image. IsKept past (scene_of old.sizes image))
    moments_kept = stops_weaken below.any_moment among_kept

    pub all_kept : AreAllKept group past new
    all_kept image left = rw below.same_sizes (among_kept image (λ s l. below.left s l (image s l) (left s l)))

    -- ---- the group stands where it stood

    held_among : IsAmong new.held
    held_among s l = elim (below.held s l) [
      | inl same ↦ inl (subst (old.may_hold s l) (sym same) (end.is_left s l))
      | inr under ↦ inr under
    ]

    -- A slot without a floor holds what it held.
    none_written : (slot : ℕ) → floor slot ≡ 0 → new.held slot ≡ old.held slot
    none_written slot none = fun_ext (λ l. elim (below.held slot l) [
      | inl same ↦ same
      | inr under ↦ absurd (omega (arith, none, under))
    ])

    same_from : (slot : ℕ) → HasFloor old slot (floor slot) → AreSameFrom (floor slot) (old.held slot) (new.held slot)
    same_from slot has = from_floor slot has new.held held_among

    size_same : (slot : ℕ) → size_of new slot ≡ size_of old slot
    size_same slot = ap (λ (sizes : List ℕ). slice_index sizes slot) below.same_sizes

    anchor_still : (slot : ℕ) → anchor_at (size_of old slot) (old.held slot) ≡ anchor_at (size_of old slot) (new.held slot)
    anchor_still slot = elim (floors slot) [
      | inl none ↦ ap (anchor_at (size_of old slot)) (sym (none_written slot none))
      | inr has ↦ anchor_same (floor slot) (old.held slot) (new.held slot) (same_from slot has) (size_of old slot) has.within
    ]

    newest_still : (slot : ℕ) (anchor : Header) → anchor_at (size_of old slot) (old.held slot) ≡ Ok anchor
        → newest_of (size_of old slot) (old.held slot) anchor ≡ newest_of (size_of old slot) (new.held slot) anchor
    newest_still slot anchor is = elim (floors slot) [
      | inl none ↦ ap (λ (sector : ℕ → List ℕ). newest_of (size_of old slot) sector anchor) (sym (none_written slot none))
      | inr has ↦
          let own : has.anchor ≡ anchor = ok_is (sym has.is_anchored ∙ is) in
          newest_of_same (floor slot) (old.held slot) (new.held slot) (same_from slot has) (size_of old slot) anchor
          (subst (λ (one : Header). floor slot ≤ one.primary_lba) own has.primary) (subst (λ (one : Header). floor slot ≤ one.secondary_lba) own has.secondary)
    ]

    held_still : (slot : ℕ) (newest : Newest) → IsHeldOn old slot newest → IsHeldOn new slot newest
    held_still slot newest is = record {
      anchor = is.anchor;
      is_anchored = rw (size_same slot) (sym (anchor_still slot) ∙ is.is_anchored);
      is_newest = rw (size_same slot) (sym (newest_still slot is.anchor is.is_anchored) ∙ is.is_newest);
    }

    under_still : (slot : ℕ) (newest : Newest) → StandsUnder old slot newest → StandsUnder new slot newest
    under_still slot newest is anchor at =
        let there : anchor_at (size_of old slot) (new.held slot) ≡ Ok anchor = rw (size_same slot) at at in
        rw (size_same slot) (is anchor (anchor_still slot ∙ there))

    says_still : (slot : ℕ) → SaysOne (size_of old slot) (old.held slot) → SaysOne (size_of new slot) (new.held slot)
    says_still slot says = rw (size_same slot) (elim (floors slot) [
      | inl none ↦ subst (SaysOne (size_of old slot)) (sym (none_written slot none)) says
      | inr has ↦ record {
        one_view = λ anchor primary secondary at first second level.
            let is = anchor_still slot ∙ at in
            let own : has.anchor ≡ anchor = ok_is (sym has.is_anchored ∙ is) in
            let le = subst (λ (one : Header). floor slot ≤ one.primary_lba) own has.primary in
            let other_le = subst (λ (one : Header). floor slot ≤ one.secondary_lba) own has.secondary in
            says.one_view anchor primary secondary is
            (copy_same (floor slot) (old.held slot) (new.held slot) (same_from slot has) (size_of old slot) anchor Primary le ∙ first)
            (copy_same (floor slot) (old.held slot) (new.held slot) (same_from slot has) (size_of old slot) anchor Secondary other_le ∙ second)
            level;
      }
    ])

    module _ (stay : StaySettled old new) where
      settled_still : (count : ℕ) → AreSettled old found.seats count → AreSettled new found.seats count
      settled_still count are place seat under at = stay seat.slot (are place seat under at)

      -- So it stands at the end of the history.
      pub stands_still : IsLeft new.may_hold new.held → IsAtEnd group past new found
      stands_still is_left = record {
        all_kept = all_kept;
        is_last = end.is_last;
        is_settled = end.is_settled;
        holds = record {
          are_held = λ slot newest at. held_still slot newest (end.holds.are_held slot newest at);
          are_under = λ slot newest at. under_still slot newest (end.holds.are_under slot newest at);
          are_settled = settled_still (length found.seats) end.holds.are_settled;
        };
        under = subst (λ (sizes : List ℕ). HaveAnchors sizes found.newest) (sym below.same_sizes) end.under;
        same_slots = end.same_slots ∙ ap length (sym below.same_sizes);
        same_group = end.same_group;
        are_seated = end.are_seated;
        are_members = end.are_members;
        says_one = λ slot. says_still slot (end.says_one slot);
        is_left = is_left;
      }

module _ {D : Type 0} (floor : ℕ → ℕ) (old new : BayState D) (floors : HaveFloors old floor) (below : WritesBelow floor old new) (stay : StaySettled old new) where
  -- A slot that has a floor holds from there on what it held.
  held_from : (slot : ℕ) → AreSameFrom (floor slot) (old.held slot) (new.held slot)
  held_from slot l past = elim (below.held slot l) [
    | inl same ↦ sym same
    | inr under ↦ absurd (omega (arith, past, under))
  ]

  -- The floors stay.
  pub floors_stay : HaveFloors new floor
  floors_stay slot = elim (floors slot) [
    | inl none ↦ inl none
    | inr has ↦
        let size : size_of new slot ≡ size_of old slot = ap (λ (sizes : List ℕ). slice_index sizes slot) below.same_sizes in
        inr (record {
          anchor = has.anchor;
          is_anchored = rw size (sym (anchor_same (floor slot) (old.held slot) (new.held slot) (held_from slot) (size_of old slot) has.within) ∙ has.is_anchored);
          primary = has.primary;
          secondary = has.secondary;
          within = rw size has.within;
          is_settled = stay slot has.is_settled;
        })
  ]
