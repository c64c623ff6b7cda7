-- A founded slot of a new group is a current member.
use Rattle.std.proofs.Common.{◌≡◌, ℕ, ◌<◌, Bool, true, List, length, refl, ap, sym, ◌∙◌, subst, arith}
use Rattle.std.proofs.lemmas.List.{length-map}
use Rattle.std.proofs.lemmas.Option.{slice_get_within}
use Rattle.std.specs.Prelude.{slice_index}
use Rattle.ddf_bytes.specs.declared.stamp.Stamp.{Stamp}
use Rattle.ddf_header.specs.declared.kind.Revision.{Revision}
use Rattle.ddf_bay.specs.Sectors.{Image}
use Rattle.ddf_bay.specs.State.{BayState}
use Rattle.ddf_copy.specs.declared.copy.DiskCopy.{DiskCopy}
use Rattle.ddf_copy.specs.Headers.{anchor_header}
use Rattle.ddf_update.specs.Group.{AreSlots, HaveFirstCopies, slot_sizes}
use Rattle.ddf_update.specs.declared.new_layout.NewLayout.{NewLayout}
use Rattle.ddf_update.specs.NewCopies.{group_of, new_copy}
use Rattle.ddf_view.specs.View.{View}
use Rattle.ddf_history.specs.Answer.{HasMember}
use Rattle.ddf_history.specs.Groups.{disk_of, groups, has_current}
use Rattle.ddf_history.specs.Issued.{Past}
use Rattle.ddf_history.specs.Reading.{IsCopyOf, Shown}
use Rattle.ddf_history.specs.Reading.Shown.{One}
use Rattle.ddf_history.specs.Scenes.{scene_of}
use Rattle.ddf_history_steps.specs.Founding.{AreFounded, IsNewGroup, founding_config}
use Rattle.ddf_history_steps.proofs.Founding.{view_at, view_is_member, view_shows, view_stands}
use Rattle.ddf_history_steps.proofs.FoundingRows.{new_view}
use Rattle.ddf_history_steps.proofs.ShownCopies.{both_show}
use Rattle.ddf_history_steps.specs.Kept.{is_slot}
use Rattle.ddf_history_steps.proofs.Slots.{slot_is, slot_placed}
use Rattle.ddf_history_steps.proofs.Stops.{scene_at}

module _ (layout : NewLayout) (revision : Revision) (stamp : Stamp) (sizes slots : List ℕ) (are : AreSlots sizes slots) (image : Image) (founded : ℕ → Bool) (are_founded : AreFounded sizes slots (new_copy layout revision stamp (slot_sizes sizes slots)) image founded)
    (past : Past (groups (group_of stamp))) (is_new : IsNewGroup (group_of stamp) past sizes slots (new_copy layout revision stamp (slot_sizes sizes slots)) founded) (readable : ℕ → Bool) where
  -- It shows the founding configuration, which was issued alone.
  pub founded_member : (slot : ℕ) → founded slot ≡ true → readable slot ≡ true → HasMember past (scene_of sizes image) readable
  founded_member slot here read =
      let place = slot_placed slots slot (are_founded.are_among slot here) in
      let own = view_at layout revision stamp (slot_sizes sizes slots) place.0 in
      let within : place.0 < length (slot_sizes sizes slots) = rw (length-map slots (slice_index sizes)) (slice_get_within slots place.0 slot place.1) in
      let copy = new_copy layout revision stamp (slot_sizes sizes slots) place.0 in
      let shown : scene_of sizes image slot ≡ One own =
      scene_at sizes image slot (are.there place.0 slot place.1)
      ∙ both_show (slice_index sizes slot) (image slot) (anchor_header copy) copy (are_founded.have_copies place.0 slot place.1 here)
      ∙ ap (λ (one : View). One one) (new_view layout revision stamp (slot_sizes sizes slots) place.0) in
      record {
        slot = slot;
        is_readable = read;
        is_here = is_new.returned_none slot;
        number = 0;
        config = founding_config (new_copy layout revision stamp (slot_sizes sizes slots));
        since = rw (is_new.issued_is, is_new.acked_is) (record { late = omega arith; is_there = refl });
        copy = own;
        is_copy = subst (λ (shows : Shown View). IsCopyOf shows own) (sym shown) refl;
        is_standing = view_stands layout revision stamp (slot_sizes sizes slots) place.0 within;
        shows = (view_shows layout revision stamp (slot_sizes sizes slots) place.0).shows;
      }

  -- Its disk is one of the founding configuration.
  pub founded_listed : (slot : ℕ) → founded slot ≡ true → has_current (founding_config (new_copy layout revision stamp (slot_sizes sizes slots))) (past.disk slot) ≡ true
  founded_listed slot here =
      let place = slot_placed slots slot (are_founded.are_among slot here) in
      let within : place.0 < length (slot_sizes sizes slots) = rw (length-map slots (slice_index sizes)) (slice_get_within slots place.0 slot place.1) in
      ap (has_current (founding_config (new_copy layout revision stamp (slot_sizes sizes slots))))
      (is_new.names place.0 slot place.1 here ∙ ap disk_of (new_view layout revision stamp (slot_sizes sizes slots) place.0))
      ∙ view_is_member layout revision stamp (slot_sizes sizes slots) place.0 within

-- Where all slots have their copies, all are founded.
pub all_founded : {D : Type 0} (old new : BayState D) (slots : List ℕ) (copy : ℕ → DiskCopy) → HaveFirstCopies old new slots copy (length slots)
    → AreFounded old.sizes slots copy new.held (is_slot slots)
all_founded old new slots copy have = record {
  are_among = λ slot here. here;
  have_copies = λ place slot at here. have.are_both place slot (slice_get_within slots place slot at) at;
  no_others = λ place slot at both. slot_is slots place slot at;
}
