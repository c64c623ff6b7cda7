-- A change is issued behind the last one, and its new copies are written to its seats.
use Rattle.std.proofs.Common.{◌≡◌, ◌⊎◌, ℕ, Bool, true, false, length, sym, ◌∙◌, ⊎_elim, arith}
use Rattle.std.proofs.lemmas.Bool.{true≢false}
use Rattle.std.proofs.lemmas.Option.{same_Some}
use Rattle.ddf_history.specs.Reading.{Reading, Scene, IsCopyOf, IsSound}
use Rattle.ddf_history.specs.Reading.Shown.{One}
use Rattle.ddf_history.specs.Issued.{Past, is_away, issue, acknowledge}
use Rattle.ddf_history.specs.Promise.{IsKept, IsStanding}
use Rattle.ddf_history.specs.Steps.{DoRemain, IsLast, MayFollow, MayWrite, AreWritten, JoinLast, GivesAfter, AllShow, OthersLast}
use Rattle.ddf_history.proofs.Since.{in_order, last_since, on_shows}
use Rattle.ddf_history.proofs.Issuing.{issued_kept, follows}
use Rattle.ddf_history.proofs.Turns.{join_last}
use Rattle.ddf_history.proofs.Writing.{on_either, written_kept}
use Rattle.ddf_history.proofs.Cutting.{acknowledged_kept}
use Rattle.ddf_history_steps.proofs.TheoryLast.{last_next, number_next}

-- What is asked of the new copies of a change by themselves: each names its slot's disk, is of the group, and shows the
-- configuration fully; its disk is a current member; and any two agree.
pub record AreNew (r : Reading) (past : Past r) (config : r.Config) (seats : ℕ → Bool) (new : ℕ → r.Copy) : Type 0 where
  pub names : (slot : ℕ) → seats slot ≡ true → r.disk_of (new slot) ≡ past.disk slot
  pub are_ours : (slot : ℕ) → seats slot ≡ true → r.is_ours (new slot) ≡ true
  pub are_full : (slot : ℕ) → seats slot ≡ true → r.ShowsFully (new slot) config
  pub are_members : (slot : ℕ) → seats slot ≡ true → r.has_current config (past.disk slot) ≡ true
  pub agree : (s t : ℕ) → seats s ≡ true → seats t ≡ true → r.Agree (new s) (new t)

-- Each seat shows a copy of the group.
abbrev pub AreOurs : (r : Reading) → Scene r.Copy → (seats : ℕ → Bool) → Type 0
AreOurs r scene seats = (slot : ℕ) → seats slot ≡ true → (copy : r.Copy) × IsCopyOf (scene slot) copy × (r.is_ours copy ≡ true)

module _ (r : Reading) (sound : IsSound r) (past : Past r) (scene : Scene r.Copy) (kept : IsKept past scene) (n : ℕ) (last next : r.Config)
    (at_last : IsLast past.changes n last) (follow : MayFollow r last next)
    -- all before it is acknowledged, or each member that isn't away remains one
    (remains : (n ≡ past.changes.acked) ⊎ DoRemain r (λ s. is_away past s ≡ false) past.disk last next) where
  -- It may be issued.
  pub next_issued : IsKept (issue past next) scene
  next_issued = issued_kept r sound past scene kept next (follows r past scene kept n last next at_last follow remains)

  -- no slot shows it yet
  not_yet : (s : ℕ) (copy : r.Copy) → IsStanding (issue past next) scene s copy → r.Shows copy next → ⊥
  not_yet s copy stand shows =
      let same = sound.same_sequence copy next shows in
      let rise = follow.rises in
      let last_le = in_order kept.chain past.changes.acked n kept.last last (last_since past scene kept) at_last.since at_last.since.late in
      ⊎_elim
      (λ on.
      let also = sound.same_sequence copy on.config (on_shows (past.disk s) (scene s) on copy stand.is_copy) in
      let le = in_order kept.chain on.number n on.config last on.since at_last.since (at_last.none_later on.number on.config on.since) in
      omega arith)
      (⊎_elim
      (λ outside. let older = (outside.is_behind copy stand.is_copy stand.is_standing).is_older kept.last kept.is_last in omega arith)
      (λ lagging. let older = lagging.is_older copy kept.last stand.is_copy stand.is_standing kept.is_last in omega arith))
      (kept.each s stand.is_here)

  module _ (seats : ℕ → Bool) (new : ℕ → r.Copy) (are : AreNew r past next seats new) where
    -- Its new copies may be written.
    pub next_may_write : MayWrite (issue past next) scene (length past.changes.issued) next seats new
    next_may_write = record {
      at_last = last_next past.changes n last next at_last;
      names = are.names;
      are_ours = are.are_ours;
      show = λ s seat. sound.fully_shows (new s) next (are.are_full s seat);
      are_full = λ s seat own. are.are_full s seat;
      are_members = are.are_members;
      agree = λ s t apart. are.agree s t;
      agree_before = λ s t other apart seat stand shows. absurd (not_yet t other stand shows);
      agree_after = λ s t other apart seat stand shows. absurd (not_yet t other stand shows);
    }

    module _ (after : Scene r.Copy) (written : AreWritten seats new scene after) where
      -- No disk joins by it: a seat whose disk joined before shows a copy of the group, so it shows such a configuration already.
      pub next_joins_last : AreOurs r scene seats → JoinLast (issue past next) seats new after
      next_joins_last ours first s t there here seat joins only other native on = ⊎_elim
          (λ own. ⊎_elim
          (λ was. let lt = next_issued.entered s t here other own s_joins was.0 t_native in omega (arith, was.1))
          (λ wrote. let more = number_next past.changes n last at_last in omega (arith, wrote.2))
          (on_either r sound (issue past next) scene after next_issued (length past.changes.issued) next seats new next_may_write written t on other))
          (λ rest. absurd (⊎_elim
          (λ outside.
          let copy = ours s seat in
          outside.joins_later (length past.changes.issued) next copy.0 (last_next past.changes n last next at_last).since (are.are_members s seat) copy.1 copy.2)
          (λ lagging. true≢false (sym (lagging.is_member next_issued.last next_issued.is_last) ∙ s_joins))
          rest))
          (next_issued.each s here)
        where
          first_is : first ≡ next_issued.last
          first_is = same_Some first next_issued.last (sym there ∙ next_issued.is_last)

          s_joins : r.has_current next_issued.last (past.disk s) ≡ false
          s_joins = rw first_is at joins

          t_native : r.has_current next_issued.last (past.disk t) ≡ true
          t_native = rw first_is at native

      -- So it is where slots that show nothing of the group are written last, and each member's is written.
      pub next_turned_last : OthersLast r seats new scene after → ((slot : ℕ) → is_away past slot ≡ false → r.has_current next (past.disk slot) ≡ true → seats slot ≡ true)
          → JoinLast (issue past next) seats new after
      next_turned_last last all =
          join_last r sound (issue past next) scene after next_issued (length past.changes.issued) next seats new next_may_write written last
          (λ slot here rest now. absurd (true≢false (sym (all slot here now) ∙ rest)))

      -- The change is this engine's.
      pub next_gives : GivesAfter (issue past next) (length past.changes.issued) next after
      next_gives young =
          let own = kept.own_next in
          let more = number_next past.changes n last at_last in
          absurd (omega arith)

      -- Each slot shows what it should.
      pub next_kept : JoinLast (issue past next) seats new after → IsKept (issue past next) after
      next_kept joins =
          written_kept r sound (issue past next) scene after next_issued (length past.changes.issued) next seats new next_may_write written
          joins next_gives

      module _
          (all : (slot : ℕ) → is_away past slot ≡ false → r.has_current next (past.disk slot) ≡ true → (seats slot ≡ true) × (after slot ≡ One (new slot))) where
        -- All its members show it.
        pub next_shown : AllShow (issue past next) after (length past.changes.issued) next
        next_shown s here now =
            let seat = all s here now in
            record {
              copy = new s;
              is_only = seat.1;
              is_ours = are.are_ours s seat.0;
              names = are.names s seat.0;
              shows = sound.fully_shows (new s) next (are.are_full s seat.0);
              is_full = λ own. are.are_full s seat.0;
            }

        -- It may be acknowledged.
        pub next_acknowledged : JoinLast (issue past next) seats new after → IsKept (acknowledge (issue past next) (length past.changes.issued)) after
        next_acknowledged joins =
            acknowledged_kept r sound (issue past next) after (next_kept joins) (length past.changes.issued) next
            (last_next past.changes n last next at_last) next_shown
