use Rattle.std.proofs.Common.{◌≡◌, ◌+◌, ℕ, Some, refl, sym, ◌∙◌, ap, subst, arith, ⊎_elim}
use Rattle.std.specs.Prelude.{slice_get, slice_index_or}
use Rattle.std.proofs.lemmas.Bool.{cases_eq}
use Rattle.std.proofs.lemmas.Grind.{common_steps}
use Rattle.std.proofs.lemmas.Option.{slice_get-get_or, slice_get_within}
use Rattle.ddf_lemmas.proofs.Options.{some_is}
use Rattle.ddf_bay.specs.Moments.{IsSettled}
use Rattle.ddf_bay.specs.Sectors.{IsLeft}
use Rattle.ddf_bay.proofs.Steps.{keeps_then, left_keeps, over_most, over_then, over_writes, settled_keeps, stops_then}
use Rattle.ddf_stage.specs.declared.desk.Desk.{Desk}
use Rattle.ddf_stage.specs.Desks.{HasDesk}
use Rattle.ddf_stage.proofs.each.sync_each.Goals as goal

pub sync-requires : goal.sync-requires
sync-requires g c =
    let desk : Desk = slice_index_or c.args.desks.now c.loop-desk.desk-index (record { slot = 0; lba = 0 }) in
    let at : slice_get c.args.desks.now c.loop-desk.desk-index ≡ Some desk = slice_get-get_or c.args.desks.now c.loop-desk.desk-index (record { slot = 0; lba = 0 }) c.loop-desk-test.true in
    rw c.loop-desk.invariant.spends.same_sizes (c.requires c.loop-desk.desk-index desk at).0

pub returns-in_err-map_err-clause-failed : goal.returns-in_err-map_err-clause-failed
returns-in_err-map_err-clause-failed g c =
    let desk : Desk = slice_index_or c.args.desks.now c.loop-desk.desk-index (record { slot = 0; lba = 0 }) in
    let at : slice_get c.args.desks.now c.loop-desk.desk-index ≡ Some desk = slice_get-get_or c.args.desks.now c.loop-desk.desk-index (record { slot = 0; lba = 0 }) c.loop-desk-test.true in
    let has : HasDesk c.args.desks.now desk.slot = record { number = c.loop-desk.desk-index; desk = desk; is_desk = at; on_slot = refl } in
    grind (arith, common_steps, has)

pub loop-desk-preserved : goal.loop-desk-preserved
loop-desk-preserved g c =
    let desk : Desk = slice_index_or c.args.desks.now c.loop-desk.desk-index (record { slot = 0; lba = 0 }) in
    let at : slice_get c.args.desks.now c.loop-desk.desk-index ≡ Some desk = slice_get-get_or c.args.desks.now c.loop-desk.desk-index (record { slot = 0; lba = 0 }) c.loop-desk-test.true in
    let durable : IsSettled (g.B.Bay.disks c.sync.new.self).may_hold (g.B.Bay.disks c.sync.new.self).held desk.slot = grind (arith, common_steps, c.sync.ensures.durable) in
    record {
      settled = λ k other below is.
          ⊎_elim
          (λ same.
          let one : desk ≡ other = some_is (sym at ∙ ap (slice_get c.args.desks.now) (sym same) ∙ is) in
          subst (λ (d : Desk). IsSettled (g.B.Bay.disks c.sync.new.self).may_hold (g.B.Bay.disks c.sync.new.self).held d.slot) one durable)
          (λ apart.
          settled_keeps (g.B.Bay.disks c.loop-desk.bay).may_hold (g.B.Bay.disks c.sync.new.self).may_hold (g.B.Bay.disks c.loop-desk.bay).held (g.B.Bay.disks c.sync.new.self).held other.slot
          (c.loop-desk.invariant.settled k other (omega (arith, below, apart)) is) c.sync.ensures.left (λ l. ap (λ (i : ℕ → ℕ → _). i other.slot l) c.sync.ensures.held))
          (cases_eq k c.loop-desk.desk-index);
      held = c.sync.ensures.held ∙ c.loop-desk.invariant.held;
      left = keeps_then {a = (g.B.Bay.disks c.args.bay.now).may_hold} c.loop-desk.invariant.left c.sync.ensures.left;
      any_moment = stops_then {Q = IsLeft (g.B.Bay.disks c.loop-desk.bay).may_hold} c.loop-desk.invariant.any_moment c.sync.ensures.any_moment
          (λ image left. left_keeps (g.B.Bay.disks c.args.bay.now).may_hold (g.B.Bay.disks c.loop-desk.bay).may_hold image c.loop-desk.invariant.left left);
      reads = grind (arith, common_steps);
      spends = over_most 0 (c.loop-desk.desk-index + 1) (over_then c.loop-desk.invariant.spends (over_writes c.sync.ensures.spends)) (omega arith) (omega arith);
      writes = grind (arith, common_steps);
    }

pub returns-clause-settled : goal.returns-clause-settled
returns-clause-settled g c = λ slot has.
    subst (λ (n : ℕ). IsSettled (g.B.Bay.disks c.loop-desk.bay).may_hold (g.B.Bay.disks c.loop-desk.bay).held n) (sym has.on_slot)
    (c.loop-desk.invariant.settled has.number has.desk (omega (arith, slice_get_within c.args.desks.now has.number has.desk has.is_desk, c.loop-desk-test.false)) has.is_desk)
