-- Stops between calls, slots that are unplugged and disks that come back, in a history of a group of disks in memory; and what is assembled of them.
use Rattle.std.proofs.Common.{◌≡◌, ◌∙◌, ℕ, zero, suc, ◌<◌, ◌==◌, not, Bool, true, false, List, [], ◌∷◌, length, refl, sym, ap, subst, ⊎_elim, arith}
use Rattle.std.proofs.Math.Path.{fun_ext}
use Rattle.std.proofs.lemmas.Bool.{and_parts, eqb-true, false_from_ne_true, false≢true, not-true, or_cases}
use Rattle.std.specs.Prelude.{slice_index_or, slice_set}
use Rattle.ddf_lemmas.proofs.Lists.{bytes_same}
use Rattle.ddf_bay.specs.Memory.{MemoryState, disks_of, state_of, without}
use Rattle.ddf_bay.specs.Sectors.{Image, IsLeft}
use Rattle.ddf_bay.specs.declared.memory.MemoryBay.{MemoryBay}
use Rattle.ddf_config.specs.Configuration.{Configuration}
use Rattle.ddf_view.specs.View.{View}
use Rattle.ddf_history.specs.Groups.{groups, has_missing}
use Rattle.ddf_history.specs.Issued.{IsSince, Past, give_back, lose}
use Rattle.ddf_history.specs.Promise.{IsKept}
use Rattle.ddf_history.specs.Reading.{Scene}
use Rattle.ddf_history.specs.Scenes.{scene_of}
use Rattle.ddf_history.proofs.Cutting.{given_back_kept, lost_kept}
use Rattle.ddf_history.proofs.Members.{own_member}
use Rattle.ddf_history.proofs.Sound.{groups_are_sound}
use Rattle.ddf_assembly.specs.Slots.{AreOut, newest_from}
use Rattle.ddf_history_steps.specs.Kept.{AreAllKept, is_read}
use Rattle.ddf_history_steps.proofs.Begun.{group_answered}
use Rattle.ddf_history_memory.specs.Histories.{AreRead, HasMemberOn, IsAnswered, IsHistoryOn, IsStopped}
use Rattle.ddf_history_memory.proofs.Slots.{not_read, read_at, read_below, reads_left}

module _ (group : List ℕ) (past : Past (groups group)) (old : MemoryBay) (history : IsHistoryOn group past old) where
  -- ---- a stop

  module _ (cut : MemoryBay) (back : ℕ → Bool) (is : IsStopped old cut back) where
    stopped_kept : AreAllKept group past (disks_of cut)
    stopped_kept image left =
        let same : image ≡ (disks_of cut).held = fun_ext (λ s. fun_ext (λ l. is.settled s l (image s l) (left s l))) in
        subst (λ (one : Image). IsKept past (scene_of (disks_of cut).sizes one)) (sym same)
        (subst (λ (sizes : List ℕ). IsKept past (scene_of sizes (disks_of cut).held)) (sym is.same_sizes) (history.kept (disks_of cut).held is.left))

    stopped_slots : past.slots ≡ length (disks_of cut).sizes
    stopped_slots = history.same_slots ∙ sym (ap length is.same_sizes)

    stopped_gone : (s : ℕ) → s < length (disks_of cut).sizes → back s ≡ false → past.lost s ≡ true → (disks_of cut).gone s
    stopped_gone s there away lost = is.still_gone s away (history.lost_gone s (subst (λ (sizes : List ℕ). s < length sizes) is.same_sizes there) lost)

  -- each slot that counts as lost is still away
  pub stopped_but : (cut : MemoryBay) (back : ℕ → Bool) → IsStopped old cut back → ((slot : ℕ) → past.lost slot ≡ true → back slot ≡ false) → IsHistoryOn group past cut
  stopped_but cut back is away = record {
    kept = stopped_kept cut back is;
    same_slots = stopped_slots cut back is;
    own = history.own;
    lost_gone = λ s there lost. stopped_gone cut back is s there (away s lost) lost;
  }

  pub stopped : (cut : MemoryBay) → IsStopped old cut (λ slot. false) → IsHistoryOn group past cut
  stopped cut is = stopped_but cut (λ slot. false) is (λ s lost. refl)

  -- ---- a disk comes back

  pub come_back : (cut : MemoryBay) (slot : ℕ) → ((number : ℕ) (config : Configuration) → IsSince past.changes number config → has_missing config (past.disk slot) ≡ true)
      → IsStopped old cut (λ other. other == slot) → IsHistoryOn group (give_back past slot) cut
  come_back cut slot missing is = record {
    kept = λ image left. given_back_kept past (scene_of (disks_of cut).sizes image) slot history.own (stopped_kept cut (λ other. other == slot) is image left) missing;
    same_slots = stopped_slots cut (λ other. other == slot) is;
    own = history.own;
    lost_gone = λ s there lost.
        let parts = and_parts (past.lost s) (not (s == slot)) lost in
        stopped_gone cut (λ other. other == slot) is s there (not-true (s == slot) parts.1) parts.0;
  }

-- ---- a slot is unplugged

-- what was unplugged is so when another is
set_stays : (unplugged : List Bool) (slot s : ℕ) → slice_index_or unplugged s false ≡ true → slice_index_or (slice_set unplugged slot true) s false ≡ true
set_stays [] slot s is = absurd (false≢true is)
set_stays (one ∷ others) zero zero is = refl
set_stays (one ∷ others) zero (suc s) is = is
set_stays (one ∷ others) (suc slot) zero is = is
set_stays (one ∷ others) (suc slot) (suc s) is = set_stays others slot s is

module _ (group : List ℕ) (past : Past (groups group)) (old new : MemoryBay) (slot : ℕ) (history : IsHistoryOn group past old)
    (is : state_of new ≡ without (state_of old) slot) where
  same_sizes : (disks_of new).sizes ≡ (disks_of old).sizes
  same_sizes = ap (λ (state : MemoryState). state.sizes) is

  still_gone : (s : ℕ) → (disks_of old).gone s → (disks_of new).gone s
  still_gone s gone = ap (λ (state : MemoryState). slice_index_or state.unplugged s false) is ∙ set_stays old.unplugged slot s gone

  same_left : (image : Image) → IsLeft (disks_of new).may_hold image → IsLeft (disks_of old).may_hold image
  same_left image left s l =
      let clock : new.clock ≡ old.clock = ap (λ (state : MemoryState). state.clock) is in
      let logged : new.log.logged.items ≡ old.log.logged.items = ap (λ (state : MemoryState). state.logged) is in
      rw (clock, logged) at (left s l)

  unplugged_kept : AreAllKept group past (disks_of new)
  unplugged_kept image left = subst (λ (sizes : List ℕ). IsKept past (scene_of sizes image)) (sym same_sizes) (history.kept image (same_left image left))

  unplugged_gone : (s : ℕ) → s < length (disks_of new).sizes → past.lost s ≡ true → (disks_of new).gone s
  unplugged_gone s there lost = still_gone s (history.lost_gone s (subst (λ (sizes : List ℕ). s < length sizes) same_sizes there) lost)

  pub unplugged : IsHistoryOn group past new
  unplugged = record {
    kept = unplugged_kept;
    same_slots = history.same_slots ∙ sym (ap length same_sizes);
    own = history.own;
    lost_gone = unplugged_gone;
  }

  pub lost : (disks_of new).gone slot → IsHistoryOn group (lose past slot) new
  lost gone = record {
    kept = λ image left. lost_kept past (scene_of (disks_of new).sizes image) slot history.own (unplugged_kept image left);
    same_slots = history.same_slots ∙ sym (ap length same_sizes);
    own = history.own;
    lost_gone = λ s there away. ⊎_elim
        (λ was. unplugged_gone s there was)
        (λ here. subst (λ (n : ℕ). (disks_of new).gone n) (sym (eqb-true s slot here)) gone)
        (or_cases (past.lost s) (s == slot) away);
  }

-- ---- assembly

module _ (group : List ℕ) (past : Past (groups group)) (bay : MemoryBay) (left : List Bool) (history : IsHistoryOn group past bay) (member : HasMemberOn group past bay)
    (told : (disks_of bay).tells_left) (long : length left ≡ length (disks_of bay).sizes) (out : AreOut (disks_of bay) left) (read : AreRead bay left) where
  abbrev shown : Scene View
  shown = scene_of (disks_of bay).sizes (disks_of bay).held

  shown_kept : IsKept past shown
  shown_kept = history.kept (disks_of bay).held (reads_left bay told)

  member_here : is_read left member.slot ≡ true
  member_here =
      let low : member.slot < length left = subst (λ (n : ℕ). member.slot < n) (sym long) member.there in
      read_at left member.slot low (false_from_ne_true (slice_index_or left member.slot false) (λ away. member.plugged (read member.slot low away)))

  pub answered : IsAnswered group past bay left
  answered =
      group_answered group (disks_of bay) left (newest_from (disks_of bay) 0 left) long refl past history.same_slots shown_kept
      (record {
        below = λ s is. let low = read_below left s is in let counted = history.same_slots in omega (arith, low, long, counted);
        not_lost = λ s is.
            let low = read_below left s is in
            false_from_ne_true (past.lost s) (λ away. not_read left s (out s low (history.lost_gone s (subst (λ (n : ℕ). s < n) long low) away)) is);
        all_young = λ young. let own = history.own in absurd (omega (arith, young, own));
      })
      (own_member (groups group) (groups_are_sound group) past shown shown_kept member.slot member.config member.is_last member.is_current
      (false_from_ne_true (past.lost member.slot) (λ away. member.plugged (history.lost_gone member.slot member.there away)))
      (is_read left) member_here history.own)
      group (bytes_same group)
