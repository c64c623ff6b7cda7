-- A founding that a stop cut short: a history of the new group begins with the disks that have their copies by then.
use Rattle.std.proofs.Common.{◌≡◌, ◌⊎◌, ℕ, ◌<◌, ◌==◌, Bool, true, false, List, length, Some, Ok, Err, if◌then◌else◌, refl, ap, sym, ◌∙◌, subst, inl, inr}
use Rattle.std.proofs.lemmas.Bool.{eq-eqb, eqb-true, false≢true}
use Rattle.std.proofs.lemmas.List.{length-map}
use Rattle.std.proofs.lemmas.Option.{slice_get_within}
use Rattle.std.proofs.Math.Path.{fun_ext}
use Rattle.std.specs.Prelude.{Result, slice_get, slice_index}
use Rattle.ddf_bytes.specs.declared.stamp.Stamp.{Stamp}
use Rattle.ddf_header.specs.declared.kind.Revision.{Revision}
use Rattle.ddf_bay.specs.Sectors.{Image, IsLeft}
use Rattle.ddf_bay.specs.State.{BayState, size_of}
use Rattle.ddf_header.specs.declared.reading.Header.{Header}
use Rattle.ddf_copy.specs.declared.copy.DiskCopy.{DiskCopy}
use Rattle.ddf_copy.specs.declared.fault.AnchorFault.{AnchorFault}
use Rattle.ddf_copy.specs.declared.fault.AnchorFault.TheVariants.{Blank}
use Rattle.ddf_copy.specs.Anchor.{anchor_at}
use Rattle.ddf_copy.specs.Copies.{newest_under}
use Rattle.ddf_copy.specs.Headers.{anchor_header}
use Rattle.ddf_update.specs.Group.{AreSlots, IsLeftFoundingAll, slot_sizes}
use Rattle.ddf_update.specs.declared.new_layout.NewLayout.{NewLayout}
use Rattle.ddf_update.specs.NewCopies.{group_of, new_copy}
use Rattle.ddf_update.specs.Update.{AreBoth}
use Rattle.ddf_view.specs.View.{View}
use Rattle.ddf_group.specs.Shown.{shown_of}
use Rattle.ddf_history.specs.Reading.{Scene, Shown, IsCopyOf, stands}
use Rattle.ddf_history.specs.Reading.Shown.{Nothing, One}
use Rattle.ddf_history.specs.Groups.{disk_of, groups, has_current}
use Rattle.ddf_history.specs.Issued.{Past}
use Rattle.ddf_history.specs.Promise.{IsKept}
use Rattle.ddf_history.specs.Scenes.{scene_of, told_of}
use Rattle.ddf_history.proofs.Since.{which}
use Rattle.ddf_history_steps.specs.Founding.{AreFounded, AreNamesNew, IsNewGroup, founding_config}
use Rattle.ddf_seats.specs.Group.{GroupValue}
use Rattle.ddf_assembly.specs.Group.{group_of as group_in}
use Rattle.ddf_assembly.specs.Slots.{newest_from}
use Rattle.ddf_history_steps.specs.Kept.{is_read, is_slot}
use Rattle.ddf_history_steps.proofs.Founding.{scene_kept, view_at, view_stands}
use Rattle.ddf_history_steps.proofs.FoundingRead.{first_is_new, first_past, founding_read}
use Rattle.ddf_history_steps.proofs.FoundingRows.{new_view}
use Rattle.ddf_history_steps.proofs.ShownCopies.{both_show, shows_at}
use Rattle.ddf_history_steps.proofs.Slots.{not_placed, slot_is, slot_placed}
use Rattle.ddf_history_steps.proofs.Stops.{same_scene, scene_at}

-- A disk without an anchor shows nothing.
blank_shows : (size : ℕ) (sector : ℕ → List ℕ) → anchor_at size sector ≡ Err Blank → shows_at size sector ≡ Nothing
unfolding shown_of
blank_shows size sector blank = ap (λ (found : Result Header AnchorFault). told_of (shown_of (newest_under size sector found))) blank

-- An anchor isn't blank.
not_blank : {A E : Type 0} (anchor : A) (fault : E) (found : Result A E) → found ≡ Ok anchor → found ≡ Err fault → ⊥
not_blank {A = A} {E = E} anchor fault found is blank = let both : ◌≡◌ {A = Result A E} (Ok anchor) (Err fault) = sym is ∙ blank in absurd cc

module _ {D : Type 0} (layout : NewLayout) (revision : Revision) (stamp : Stamp) (old : BayState D) (slots : List ℕ) (are : AreSlots old.sizes slots) (is_left : IsLeft old.may_hold old.held) where
  -- the new copies
  abbrev copy : ℕ → DiskCopy
  copy = new_copy layout revision stamp (slot_sizes old.sizes slots)

  -- What might be left before is left before a slot gets its copy.
  pub before_founding : (image : Image) → IsLeft old.may_hold image → IsLeftFoundingAll old slots copy image
  before_founding image left = record { each = λ place slot at. inl (left slot); before = λ place slot l at front. inr (left slot l); others = λ s l none. left s l }

  module _ (image : Image) where
    abbrev scene : Scene View
    scene = scene_of old.sizes image

    -- what is left of one slot, with what the others held
    pub beside : (slot : ℕ) → Image
    beside slot s l = if s == slot then image s l else old.held s l

    pub beside_left : (slot : ℕ) → ((l : ℕ) → old.may_hold slot l (image slot l)) → IsLeft old.may_hold (beside slot)
    unfolding beside
    beside_left slot may s l = by (s == slot) refl
      where
        by : (b : Bool) → (s == slot) ≡ b → old.may_hold s l (if b then image s l else old.held s l)
        by true here = subst (λ (n : ℕ). old.may_hold n l (image n l)) (sym (eqb-true s slot here)) (may l)
        by false other = is_left s l

    beside_here : (slot : ℕ) → beside slot slot ≡ image slot
    unfolding beside
    beside_here slot = fun_ext (λ l. ap (λ (b : Bool). if b then image slot l else old.held slot l) (eq-eqb slot slot refl))

    pub same_shown : (slot : ℕ) → scene slot ≡ scene_of old.sizes (beside slot) slot
    same_shown slot = same_scene old.sizes image (beside slot) slot (sym (beside_here slot))

    -- A blank one shows nothing.
    pub blank_there : (place slot : ℕ) → slice_get slots place ≡ Some slot → anchor_at (size_of old slot) (image slot) ≡ Err Blank → scene slot ≡ Nothing
    blank_there place slot at blank = scene_at old.sizes image slot (are.there place slot at) ∙ blank_shows (size_of old slot) (image slot) blank

    -- the slot has its copy in both places
    abbrev HasCopy : (place slot : ℕ) → Type 0
    HasCopy place slot = AreBoth (size_of old slot) (image slot) (anchor_header (copy place)) (copy place)

    -- One with its copy shows it.
    pub copy_there : (place slot : ℕ) → slice_get slots place ≡ Some slot → HasCopy place slot → scene slot ≡ One (view_at layout revision stamp (slot_sizes old.sizes slots) place)
    copy_there place slot at both =
        scene_at old.sizes image slot (are.there place slot at)
        ∙ both_show (size_of old slot) (image slot) (anchor_header (copy place)) (copy place) both
        ∙ ap (λ (one : View). One one) (new_view layout revision stamp (slot_sizes old.sizes slots) place)

    module _ (names_new : (before : Image) → IsLeft old.may_hold before → AreNamesNew (group_of stamp) (λ slot. false) copy (scene_of old.sizes before)) where
      -- A slot as it might be left before shows no copy of the group, nor one that names a member.
      before_shows : (slot : ℕ) → ((l : ℕ) → old.may_hold slot l (image slot l)) → (other : View) → IsCopyOf (scene slot) other → stands (groups (group_of stamp)) other ≡ true → ⊥
      before_shows slot may other is_copy =
          (names_new (beside slot) (beside_left slot may)).shows_none slot other refl (subst (λ (shown : Shown View). IsCopyOf shown other) (same_shown slot) is_copy)

      before_names : (slot : ℕ) → ((l : ℕ) → old.may_hold slot l (image slot l)) → (other : View) → IsCopyOf (scene slot) other
          → has_current (founding_config copy) (disk_of other) ≡ true → ⊥
      before_names slot may other is_copy =
          (names_new (beside slot) (beside_left slot may)).names_none slot other refl (subst (λ (shown : Shown View). IsCopyOf shown other) (same_shown slot) is_copy)

      -- So it isn't as it might be left before.
      not_before : (place slot : ℕ) → slice_get slots place ≡ Some slot → HasCopy place slot → ((l : ℕ) → old.may_hold slot l (image slot l)) → ⊥
      not_before place slot at both may =
          let there = copy_there place slot at both in
          let own = view_at layout revision stamp (slot_sizes old.sizes slots) place in
          let within : place < length (slot_sizes old.sizes slots) = rw (length-map slots (slice_index old.sizes)) (slice_get_within slots place slot at) in
          before_shows slot may own (subst (λ (shown : Shown View). IsCopyOf shown own) (sym there) refl) (view_stands layout revision stamp (slot_sizes old.sizes slots) place within)

      module _ (left : IsLeftFoundingAll old slots copy image) where
        -- ---- the slots that are founded

        -- what a stop left of a slot: as before, blank, or with its copy
        abbrev IsLeftAs : (place slot : ℕ) → Type 0
        IsLeftAs place slot = ((l : ℕ) → old.may_hold slot l (image slot l)) ⊎ (anchor_at (size_of old slot) (image slot) ≡ Err Blank) ⊎ HasCopy place slot

        has_copy : (place slot : ℕ) → IsLeftAs place slot → Bool
        has_copy place slot (inl before) = false
        has_copy place slot (inr (inl blank)) = false
        has_copy place slot (inr (inr both)) = true

        is_founded_by : (slot : ℕ) (among : Bool) → is_slot slots slot ≡ among → Bool
        is_founded_by slot false none = false
        is_founded_by slot true here = let place = slot_placed slots slot here in has_copy place.0 slot (left.each place.0 slot place.1)

        is_founded : ℕ → Bool
        is_founded slot = is_founded_by slot (is_slot slots slot) refl

        by_copy : (place slot : ℕ) (is : IsLeftAs place slot) → has_copy place slot is ≡ true → HasCopy place slot
        unfolding has_copy
        by_copy place slot (inl before) has = absurd (false≢true has)
        by_copy place slot (inr (inl blank)) has = absurd (false≢true has)
        by_copy place slot (inr (inr both)) has = both

        with_copy : (place slot : ℕ) → slice_get slots place ≡ Some slot → HasCopy place slot → (is : IsLeftAs place slot) → has_copy place slot is ≡ true
        unfolding has_copy
        with_copy place slot at both (inl before) = absurd (not_before place slot at both before)
        with_copy place slot at both (inr (inl blank)) =
            absurd (not_blank (anchor_header (copy place)) Blank (anchor_at (size_of old slot) (image slot)) both.is_anchored blank)
        with_copy place slot at both (inr (inr also)) = refl

        founded_among : (slot : ℕ) (among : Bool) (is : is_slot slots slot ≡ among) → is_founded_by slot among is ≡ true → among ≡ true
        unfolding is_founded_by
        founded_among slot true here has = refl
        founded_among slot false none has = absurd (false≢true has)

        founded_has : (place slot : ℕ) → slice_get slots place ≡ Some slot → (among : Bool) (is : is_slot slots slot ≡ among) → is_founded_by slot among is ≡ true → HasCopy place slot
        unfolding is_founded_by
        founded_has place slot at false none has = absurd (false≢true has)
        founded_has place slot at true here has =
            let own = slot_placed slots slot here in
            subst (λ (n : ℕ). HasCopy n slot) (are.differ own.0 place slot own.1 at) (by_copy own.0 slot (left.each own.0 slot own.1) has)

        has_founded : (place slot : ℕ) → slice_get slots place ≡ Some slot → HasCopy place slot → (among : Bool) (is : is_slot slots slot ≡ among) → is_founded_by slot among is ≡ true
        unfolding is_founded_by
        has_founded place slot at both false none = absurd (false≢true (sym none ∙ slot_is slots place slot at))
        has_founded place slot at both true here =
            let own = slot_placed slots slot here in
            with_copy own.0 slot own.1 (subst (λ (n : ℕ). HasCopy n slot) (are.differ place own.0 slot at own.1) both) (left.each own.0 slot own.1)

        -- They are told.
        pub founded_told : (founded : ℕ → Bool) × AreFounded old.sizes slots copy image founded
        unfolding is_founded
        founded_told = (
          is_founded,
          record {
            are_among = λ slot has. founded_among slot (is_slot slots slot) refl has;
            have_copies = λ place slot at has. founded_has place slot at (is_slot slots slot) refl has;
            no_others = λ place slot at both. has_founded place slot at both (is_slot slots slot) refl;
          },
        )

        -- ---- the group

        module _ (founded : ℕ → Bool) (are_founded : AreFounded old.sizes slots copy image founded) where
          -- Beside the founded slots each is as it might be left before, or blank.
          out : (slot : ℕ) → founded slot ≡ false → ((l : ℕ) → old.may_hold slot l (image slot l)) ⊎ (scene slot ≡ Nothing)
          out slot none = elim (which (is_slot slots slot)) [
            | inl here ↦
                let place = slot_placed slots slot here in
                elim (left.each place.0 slot place.1) [
                  | inl before ↦ inl before
                  | inr now ↦ elim now [
                    | inl blank ↦ inr (blank_there place.0 slot place.1 blank)
                    | inr both ↦ absurd (false≢true (sym none ∙ are_founded.no_others place.0 slot place.1 both))
                  ]
                ]
            | inr beside_all ↦ inl (λ l. left.others slot l (not_placed slots slot beside_all))
          ]

          -- So none of them shows the group, or names a member.
          pub others_new : AreNamesNew (group_of stamp) founded copy scene
          others_new = record {
            shows_none = λ slot other none is_copy. elim (out slot none) [
              | inl before ↦ before_shows slot before other is_copy
              | inr nothing ↦ absurd (subst (λ (shown : Shown View). IsCopyOf shown other) nothing is_copy)
            ];
            names_none = λ slot other none is_copy. elim (out slot none) [
              | inl before ↦ before_names slot before other is_copy
              | inr nothing ↦ absurd (subst (λ (shown : Shown View). IsCopyOf shown other) nothing is_copy)
            ];
          }

          -- Each slot shows what it should.
          pub cut_kept : (past : Past (groups (group_of stamp))) → IsNewGroup (group_of stamp) past old.sizes slots copy founded → IsKept past scene
          cut_kept past is_new =
              scene_kept layout revision stamp old.sizes slots founded are_founded.are_among past is_new scene
              (λ place slot at here. copy_there place slot at (are_founded.have_copies place slot at here)) others_new

          -- So where a founded slot is read, assembly gives the founding configuration.
          pub cut_read : (disks : BayState D) → disks.sizes ≡ old.sizes → disks.held ≡ image → (read : List Bool) → length read ≡ length disks.sizes
              → (slot : ℕ) → founded slot ≡ true → is_read read slot ≡ true
              → (found : GroupValue) × (group_in (newest_from disks 0 read) (Some (group_of stamp)) ≡ Ok found) × (found.config ≡ founding_config copy)
          cut_read disks same_sizes holds read long slot here readable =
              let place = slot_placed slots slot (are_founded.are_among slot here) in
              let among = are_founded.are_among in
              let same : scene_of disks.sizes disks.held ≡ scene =
              ap (λ (sizes : List ℕ). scene_of sizes disks.held) same_sizes ∙ ap (λ (held : Image). scene_of old.sizes held) holds in
              let kept = cut_kept (first_past layout revision stamp old.sizes slots are founded among) (first_is_new layout revision stamp old.sizes slots are founded among) in
              let counted : length (slot_sizes old.sizes slots) ≡ length slots = length-map slots (slice_index old.sizes) in
              founding_read layout revision stamp old.sizes slots are founded among disks same_sizes
              (subst (λ (shown : Scene View). IsKept (first_past layout revision stamp old.sizes slots are founded among) shown) (sym same) kept) read long
              place.0 slot (subst (λ (n : ℕ). place.0 < n) (sym counted) (slice_get_within slots place.0 slot place.1))
              (ap (λ (shown : Scene View). shown slot) same ∙ copy_there place.0 slot place.1 (are_founded.have_copies place.0 slot place.1 here)) readable
