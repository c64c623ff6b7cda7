use Rattle.std.proofs.Common.{◌≡◌, ◌∙◌, ⊎_elim, ◌+◌, ◌-◌, ◌<◌, ◌≤◌, Some, sym, subst, arith}
use Rattle.std.proofs.lemmas.Bool.{cases_lt}
use Rattle.std.proofs.lemmas.Result.{err_from_is_err_and}
use Rattle.ddf_array.specs.declared.part.Part.{Part}
use Rattle.ddf_cells.specs.Touching.{IsTouchedSlot}
use Rattle.ddf_cells.proofs.WriteSteps.{writes_then}
use Rattle.ddf_resync.specs.Setting.{IsNotedAt, IsRightAt, SetsParity}
use Rattle.ddf_resync.proofs.Stops.{asks_from, asks_then, row_since}
use Rattle.ddf_resync.proofs.Resynced.{equal_kept}
use Rattle.ddf_resync.proofs.setting.set_element.Goals as goal

pub depth_of-depth-requires : goal.depth_of-depth-requires
depth_of-depth-requires g c = c.requires.known.are_parts c.args.element c.args.part.now c.requires.is_part

pub piece_at-count-requires-clause-part : goal.piece_at-count-requires-clause-part
piece_at-count-requires-clause-part g c = c.requires.known.are_parts c.args.element c.args.part.now c.requires.is_part

pub set_piece-requires-clause-fits : goal.set_piece-requires-clause-fits
set_piece-requires-clause-fits g c = rw c.loop-sector.invariant.writes.same_sizes c.requires.fits

pub returns-in_err-set_piece-clause-writes : goal.returns-in_err-set_piece-clause-writes
returns-in_err-set_piece-clause-writes g c = writes_then (SetsParity c.args.view.now) g.B.Bay.tells c.loop-sector.invariant.writes c.in_err-set_piece.ensures.writes

pub returns-in_err-set_piece-clause-cause : goal.returns-in_err-set_piece-clause-cause
returns-in_err-set_piece-clause-cause g c =
    let p = err_from_is_err_and c.from_residual.result c.from_residual.ensures.1 in
    rw (p.1, p.2) (row_since (SetsParity c.args.view.now) (SetsParity c.args.view.now) g.B.Bay.tells c.loop-sector.invariant.writes c.in_err-set_piece.ensures.writes c.args.view.now (IsTouchedSlot c.set_piece.new.touched) _ c.in_err-set_piece.ensures.cause)

pub loop-sector-preserved : goal.loop-sector-preserved
loop-sector-preserved g c =
    let v = c.args.view.now in
    let so_far = c.loop-sector.invariant in
    let next = c.in_ok-set_piece.ensures in
    let at = c.loop-sector.sector in
    let n = c.piece_at-count.result in
    record {
      inside = omega (arith, c.piece_at-count.ensures.within, so_far.inside);
      writes = writes_then (SetsParity v) g.B.Bay.tells so_far.writes next.writes;
      set = λ tells equal part sector is_part below deep.
          let here = equal_kept v c.requires.known c.requires.apart g.B.Bay.tells so_far.writes tells equal in
          ⊎_elim
          (λ (before : sector < at). next.kept tells here c.args.element sector part is_part deep (so_far.set tells equal part sector is_part before deep))
          (λ (from : at ≤ sector).
          let same : c.args.part.now ≡ part = some_is (sym c.requires.is_part ∙ is_part) in
          let row : at + (sector - at) ≡ sector = omega (arith, from) in
          subst (λ (q : Part). IsRightAt v (g.B.Bay.disks c.set_piece.new.bay).held c.args.element q sector) same
          (subst (λ x. IsRightAt v (g.B.Bay.disks c.set_piece.new.bay).held c.args.element c.args.part.now x) row (next.set tells here (sector - at) (omega (arith, from, below)))))
          (cases_lt sector at);
      noted = λ sector below. ⊎_elim
          (λ (before : sector < at) position own is there. next.writes.touched_up own.slot (so_far.noted sector before position own is there))
          (λ (from : at ≤ sector).
          let row : at + (sector - at) ≡ sector = omega (arith, from) in
          subst (λ x. IsNotedAt c.set_piece.new.touched c.args.part.now x) row (next.noted (sector - at) (omega (arith, from, below))))
          (cases_lt sector at);
      unfailed = next.unfailed ∙ so_far.unfailed;
      asks = asks_then 0 at (at + n) so_far.asks (asks_from n n at (at + n) next.asks (omega arith) (omega arith));
      kept = λ tells equal element sector part is_part deep was.
          next.kept tells (equal_kept v c.requires.known c.requires.apart g.B.Bay.tells so_far.writes tells equal) element sector part is_part deep (so_far.kept tells equal element sector part is_part deep was);
    }
  where
    some_is : {X : Type 0} {a b : X} → Some a ≡ Some b → a ≡ b
    some_is e = cc
