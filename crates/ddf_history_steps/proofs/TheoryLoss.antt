-- A call that leaves out absent members goes on from what it assembled.
use Rattle.std.proofs.Common.{ℕ, ◌≤◌, Bool}
use Rattle.ddf_history.specs.Reading.{Reading, Scene, IsSound}
use Rattle.ddf_history.specs.Issued.{Past, IsSince, take_off, leave_out}
use Rattle.ddf_history.specs.Promise.{IsKept}
use Rattle.ddf_history.specs.Steps.{IsLast}
use Rattle.ddf_history.specs.Calls.{IsAssembled, AreSure}
use Rattle.ddf_history.proofs.Calls.{cut_at, last_cut, seated_where_left_out, assembled_left_out}
use Rattle.ddf_history.proofs.Cutting.{left_out_kept}

-- What a call goes on from that left out absent members: these count as lost, and the changes behind what it assembled are taken
-- off.
abbrev pub left_from : {r : Reading} → Past r → (readable : ℕ → Bool) → r.Config → ℕ → Past r
left_from past readable config number = take_off (leave_out past readable config) number

module _ (r : Reading) (sound : IsSound r) (past : Past r) (held scene : Scene r.Copy) (readable : ℕ → Bool) (number : ℕ) (config : r.Config)
    (assembled : IsAssembled past held readable config) (at : IsSince past.changes number config) where
  -- Each slot shows what it should.
  pub left_kept : IsKept past scene → AreSure r readable held scene → past.changes.own_from ≤ past.changes.acked
      → IsKept (left_from past readable config number) scene
  left_kept kept sure own =
      cut_at r sound (leave_out past readable config) held scene readable number config (assembled_left_out past held readable config own assembled) at
      (left_out_kept past scene readable config own kept) sure (seated_where_left_out past readable config)

  -- The configuration that was assembled is the last one.
  pub left_last : IsLast (left_from past readable config number).changes number config
  left_last = last_cut past.changes number config at
