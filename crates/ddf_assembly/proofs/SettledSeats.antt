-- Slots that rise, and those that hold the configuration of a group in two level copies.
use Rattle.std.proofs.Common.{◌≡◌, ℕ, zero, suc, ◌+◌, ◌<◌, Bool, true, false, eqb, List, [], ◌∷◌, map, Option, Some, None, refl, subst, arith}
use Rattle.std.proofs.lemmas.Bool.{eqb-true}
use Rattle.std.proofs.lemmas.Option.{slice_get-map}
use Rattle.std.specs.Prelude.{IfSome, filter, option_map, slice_get, unwrap_or}
use Rattle.std.specs.List.{AllByRecursion, list_all, range_with_len}
use Rattle.std.specs.Str.{bytes_eq}
use Rattle.std.specs.Cmp.Lexicographic.{pointwise}
use Rattle.ddf_copy.specs.declared.copy.DiskCopy.{DiskCopy}
use Rattle.ddf_copy.specs.declared.newest_copy.Newest.{Newest}
use Rattle.ddf_copy.specs.declared.newest_copy.Newest.TheVariants as newests
use Rattle.ddf_copy.specs.Whole.{IsNewestCopy}
use Rattle.ddf_copy.specs.Written.{CanBeCopy}
use Rattle.ddf_config.specs.Configuration.{Configuration}
use Rattle.ddf_view.specs.View.{view_of}
use Rattle.ddf_view.specs.Shows.{gives_array, gives_elements, gives_member, shows}
use Rattle.ddf_view.proofs.Tests.{and_five, same_bytes}
use Rattle.ddf_group.specs.declared.shown.Shown.{Shown}
use Rattle.ddf_group.specs.declared.shown.Shown.TheVariants.{Nothing}
use Rattle.ddf_group.specs.Assembled.{has_config}
use Rattle.ddf_group.specs.Shown.{shown_of}
use Rattle.ddf_group.specs.Slots.{slot_at}
use Rattle.ddf_rewrite.proofs.Lists.{all_at}
use Rattle.ddf_seats.specs.Group.{GroupValue}
use Rattle.ddf_assembly.specs.Reading.{AreNewest}

-- ---- slots that rise

-- Numbers from one on that pass a test are above those before it.
above : (test : ℕ → Bool) (low first count : ℕ) → low < first → AllByRecursion (λ slot. low < slot) (filter test (range_with_len first count))
above test low first zero below = tt
above test low first (suc count) below = go (above test low (first + 1) count (omega (arith, below))) (test first) refl
  where
    go : AllByRecursion (λ slot. low < slot) (filter test (range_with_len (first + 1) count)) → (b : Bool) → test first ≡ b
        → AllByRecursion (λ slot. low < slot) (filter test (range_with_len first (suc count)))
    go rest true e = rw e (below, rest)
    go rest false e = rw e rest

-- Each of these is less than those behind it.
abbrev pub Rise : List ℕ → Type 0
Rise [] = Unit {0}
Rise (slot ∷ slots) = AllByRecursion (λ other. slot < other) slots × Rise slots

-- The numbers that pass a test rise.
pub filter_rises : (test : ℕ → Bool) (first count : ℕ) → Rise (filter test (range_with_len first count))
filter_rises test first zero = tt
filter_rises test first (suc count) = go (above test first (first + 1) count (omega arith)) (filter_rises test (first + 1) count) (test first) refl
  where
    go : AllByRecursion (λ slot. first < slot) (filter test (range_with_len (first + 1) count)) → Rise (filter test (range_with_len (first + 1) count)) → (b : Bool) → test first ≡ b
        → Rise (filter test (range_with_len first (suc count)))
    go later rest true e = rw e (later, rest)
    go later rest false e = rw e rest

-- ---- a level slot

-- A slot has two level copies, which can be written and show the configuration of a group.
pub record IsLevelOn (group : GroupValue) (slot : ℕ) : Type 0 where
  pub copy : DiskCopy
  pub is_newest : slice_get group.newest slot ≡ Some (Some (newests.Level copy))
  pub is_copy : CanBeCopy copy
  pub is_shown : shows group.config (view_of copy) ≡ true

-- A slot has the configuration of a group in two level copies only where its newest copy is level.
level_from : (group : GroupValue) (slot : ℕ) → AreNewest group.newest → (found : Option (Option Newest)) → slice_get group.newest slot ≡ found
    → has_config group.config (unwrap_or (option_map shown_of found) Nothing) ≡ true → IsLevelOn group slot
unfolding shown_of
level_from group slot are None e h = absurd cc
level_from group slot are (Some None) e h = absurd cc
level_from group slot are (Some (Some (newests.One which copy))) e h = absurd cc
level_from group slot are (Some (Some (newests.TwoDiffer primary secondary))) e h = absurd cc
level_from group slot are (Some (Some (newests.Neither first second))) e h = absurd cc
level_from group slot are (Some (Some (newests.Level copy))) e h = record {
  copy = copy;
  is_newest = e;
  is_copy = all_at (λ (one : Option Newest). IfSome one IsNewestCopy) group.newest slot (Some (newests.Level copy)) are e;
  is_shown = h;
}

-- A slot that has the configuration of a group doesn't lag.
pub level_on : (group : GroupValue) → AreNewest group.newest → (slot : ℕ) → has_config group.config (slot_at (map shown_of group.newest) slot) ≡ true → IsLevelOn group slot
level_on group are slot h =
    level_from group slot are (slice_get group.newest slot) refl
    (subst (λ (found : Option Shown). has_config group.config (unwrap_or found Nothing) ≡ true) (slice_get-map shown_of group.newest slot) h)

-- What shows a configuration is of its group.
pub same_group : (config : Configuration) (copy : DiskCopy) → shows config (view_of copy) ≡ true → copy.header.guid ≡ config.group
unfolding shows view_of
same_group config copy h =
    let view = view_of copy in
    let parts = and_five (eqb view.sequence config.sequence) (bytes_eq view.group config.group) (pointwise gives_member view.disks config.members)
    (pointwise gives_array view.arrays config.arrays) (list_all (gives_elements view.elements) config.arrays) h in
    same_bytes copy.header.guid config.group parts.1

-- It is of its sequence number.
pub same_sequence : (config : Configuration) (copy : DiskCopy) → shows config (view_of copy) ≡ true → copy.header.sequence ≡ config.sequence
unfolding shows view_of
same_sequence config copy h =
    let view = view_of copy in
    let parts = and_five (eqb view.sequence config.sequence) (bytes_eq view.group config.group) (pointwise gives_member view.disks config.members)
    (pointwise gives_array view.arrays config.arrays) (list_all (gives_elements view.elements) config.arrays) h in
    eqb-true copy.header.sequence config.sequence parts.0
