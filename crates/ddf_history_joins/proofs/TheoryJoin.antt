-- A change by which disks join is issued behind the last acknowledged one, and its new copies are written to its seats.
use Rattle.std.proofs.Common.{◌≡◌, ℕ, Bool, true, false, length, sym, ◌∙◌, ⊎_elim, arith}
use Rattle.std.proofs.lemmas.Bool.{true≢false}
use Rattle.ddf_history.specs.Reading.{Reading, Scene, IsSound}
use Rattle.ddf_history.specs.Reading.Shown.{One}
use Rattle.ddf_history.specs.Issued.{Past, is_away, issue, acknowledge}
use Rattle.ddf_history.specs.Promise.{IsKept, IsStanding}
use Rattle.ddf_history.specs.Steps.{AllShow, AreWritten, GivesAfter, IsLast, JoinLast, MayJoin, MayWrite, OthersLast}
use Rattle.ddf_history.proofs.Since.{in_order, last_since, on_shows}
use Rattle.ddf_history.proofs.Issuing.{issued_kept, joins}
use Rattle.ddf_history.proofs.Turns.{join_last}
use Rattle.ddf_history.proofs.Writing.{written_kept}
use Rattle.ddf_history.proofs.Cutting.{acknowledged_kept}
use Rattle.ddf_history_steps.proofs.TheoryChange.{AreNew}
use Rattle.ddf_history_steps.proofs.TheoryLast.{last_next, number_next}

module _ (r : Reading) (sound : IsSound r) (past : Past r) (scene : Scene r.Copy) (kept : IsKept past scene) (last next : r.Config)
    (at_last : IsLast past.changes past.changes.acked last) (may : MayJoin past scene last next) where
  -- It may be issued.
  pub join_issued : IsKept (issue past next) scene
  join_issued = issued_kept r sound past scene kept next (joins r past scene kept last next at_last may)

  -- no slot shows it yet
  not_yet : (s : ℕ) (copy : r.Copy) → IsStanding (issue past next) scene s copy → r.Shows copy next → ⊥
  not_yet s copy stand shows =
      let same = sound.same_sequence copy next shows in
      let rise = may.rises in
      let last_le = in_order kept.chain past.changes.acked past.changes.acked kept.last last (last_since past scene kept) at_last.since (omega arith) in
      ⊎_elim
      (λ on.
      let also = sound.same_sequence copy on.config (on_shows (past.disk s) (scene s) on copy stand.is_copy) in
      let le = in_order kept.chain on.number past.changes.acked on.config last on.since at_last.since (at_last.none_later on.number on.config on.since) in
      omega arith)
      (⊎_elim
      (λ outside. let older = (outside.is_behind copy stand.is_copy stand.is_standing).is_older kept.last kept.is_last in omega arith)
      (λ lagging. let older = lagging.is_older copy kept.last stand.is_copy stand.is_standing kept.is_last in omega arith))
      (kept.each s stand.is_here)

  module _ (seats : ℕ → Bool) (new : ℕ → r.Copy) (are : AreNew r past next seats new) where
    -- Its new copies may be written.
    pub join_may_write : MayWrite (issue past next) scene (length past.changes.issued) next seats new
    join_may_write = record {
      at_last = last_next past.changes past.changes.acked last next at_last;
      names = are.names;
      are_ours = are.are_ours;
      show = λ s seat. sound.fully_shows (new s) next (are.are_full s seat);
      are_full = λ s seat own. are.are_full s seat;
      are_members = are.are_members;
      agree = λ s t apart. are.agree s t;
      agree_before = λ s t other apart seat stand shows. absurd (not_yet t other stand shows);
      agree_after = λ s t other apart seat stand shows. absurd (not_yet t other stand shows);
    }

    module _ (after : Scene r.Copy) (written : AreWritten seats new scene after) (others_last : OthersLast r seats new scene after)
        (all : (slot : ℕ) → is_away past slot ≡ false → r.has_current next (past.disk slot) ≡ true → seats slot ≡ true) where
      -- The disks that join do so last.
      joined_last : JoinLast (issue past next) seats new after
      joined_last =
          join_last r sound (issue past next) scene after join_issued (length past.changes.issued) next seats new join_may_write written others_last
          (λ slot here rest now. absurd (true≢false (sym (all slot here now) ∙ rest)))

      -- The change is this engine's.
      gives : GivesAfter (issue past next) (length past.changes.issued) next after
      gives young =
          let own = kept.own_next in
          let more = number_next past.changes past.changes.acked last at_last in
          absurd (omega arith)

      -- Each slot shows what it should.
      pub join_kept : IsKept (issue past next) after
      join_kept =
          written_kept r sound (issue past next) scene after join_issued (length past.changes.issued) next seats new join_may_write written joined_last gives

      -- Where each of the seats has its new copy, all members show it.
      module _ (done : (slot : ℕ) → seats slot ≡ true → after slot ≡ One (new slot)) where
        all_show : AllShow (issue past next) after (length past.changes.issued) next
        all_show s here now =
            let seat = all s here now in
            record {
              copy = new s;
              is_only = done s seat;
              is_ours = are.are_ours s seat;
              names = are.names s seat;
              shows = sound.fully_shows (new s) next (are.are_full s seat);
              is_full = λ own. are.are_full s seat;
            }

        -- It may be acknowledged.
        pub join_acknowledged : IsKept (acknowledge (issue past next) (length past.changes.issued)) after
        join_acknowledged =
            acknowledged_kept r sound (issue past next) after join_kept (length past.changes.issued) next
            (last_next past.changes past.changes.acked last next at_last) all_show
