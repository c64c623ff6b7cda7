-- A new group, as the history of it begins.
use Rattle.std.specs.Prelude.{◌≡◌, ℕ, Bool, false, true, List, [], ◌∷◌, length, Some, slice_get, slice_index}
use Rattle.ddf_bay.specs.Sectors.{Image}
use Rattle.ddf_config.specs.Configuration.{Configuration}
use Rattle.ddf_copy.specs.declared.copy.DiskCopy.{DiskCopy}
use Rattle.ddf_copy.specs.Headers.{anchor_header}
use Rattle.ddf_update.specs.Update.{AreBoth}
use Rattle.ddf_view.specs.View.{View, view_of}
use Rattle.ddf_view.specs.Reading.{read}
use Rattle.ddf_history.specs.Reading.{Scene, IsCopyOf, stands}
use Rattle.ddf_history.specs.Issued.{Past}
use Rattle.ddf_history.specs.Groups.{groups, disk_of, has_current}
use Rattle.ddf_history_steps.specs.Kept.{is_slot}

-- The founding configuration: what the first of the new copies says, read alone.
abbrev pub founding_config : (copy : ℕ → DiskCopy) → Configuration
founding_config copy = read (copy 0).header.guid 1 (view_of (copy 0) ∷ [])

-- Of these slots those that are founded, and no others, have their anchors and the copies at their places, in both places of each.
pub record AreFounded (sizes slots : List ℕ) (copy : ℕ → DiskCopy) (image : Image) (founded : ℕ → Bool) : Type 0 where
  pub are_among : (slot : ℕ) → founded slot ≡ true → is_slot slots slot ≡ true
  pub have_copies : (place slot : ℕ) → slice_get slots place ≡ Some slot → founded slot ≡ true
      → AreBoth (slice_index sizes slot) (image slot) (anchor_header (copy place)) (copy place)
  pub no_others : (place slot : ℕ) → slice_get slots place ≡ Some slot
      → AreBoth (slice_index sizes slot) (image slot) (anchor_header (copy place)) (copy place) → founded slot ≡ true

module _ (group : List ℕ) where
  -- A history begins with a new group on these slots, of which those that are founded have the copies at their places: the founding
  -- configuration alone was issued, and is acknowledged, and nothing is lost. The disk of each of the founded ones is the one that its copy
  -- names, and that of no other slot is a member.
  pub record IsNewGroup (past : Past (groups group)) (sizes slots : List ℕ) (copy : ℕ → DiskCopy) (founded : ℕ → Bool) : Type 0 where
    pub issued_is : past.changes.issued ≡ founding_config copy ∷ []
    pub acked_is : past.changes.acked ≡ 0
    pub own : past.changes.own_from ≡ 0
    pub lost_none : (slot : ℕ) → past.lost slot ≡ false
    pub returned_none : (slot : ℕ) → past.returned slot ≡ false
    pub same_slots : past.slots ≡ length sizes
    pub names : (place slot : ℕ) → slice_get slots place ≡ Some slot → founded slot ≡ true → past.disk slot ≡ disk_of (view_of (copy place))
    pub no_member : (slot : ℕ) → founded slot ≡ false → has_current (founding_config copy) (past.disk slot) ≡ false

  -- The names of the new group are new: beside the founded slots none shows a copy of the group, or one that names a member.
  pub record AreNamesNew (founded : ℕ → Bool) (copy : ℕ → DiskCopy) (scene : Scene View) : Type 0 where
    pub shows_none : (slot : ℕ) (other : View) → founded slot ≡ false → IsCopyOf (scene slot) other → stands (groups group) other ≡ true → ⊥
    pub names_none : (slot : ℕ) (other : View) → founded slot ≡ false → IsCopyOf (scene slot) other
        → has_current (founding_config copy) (disk_of other) ≡ true → ⊥
