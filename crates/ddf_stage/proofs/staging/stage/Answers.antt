use Rattle.std.proofs.Common.{ℕ, List, [], ◌∷◌, refl}
use Rattle.std.specs.Prelude.{true}
use Rattle.ddf_bay.specs.Moments.{IsSettled}
use Rattle.ddf_stage.specs.Gate.{gate_bytes}
use Rattle.ddf_stage.specs.Desks.{IsPayload}
use Rattle.ddf_stage.specs.Staging.{Adds, AreAside, IsThere, Mixes, OpenGates}
use Rattle.ddf_stage.proofs.Between.{desk_slot, first_done, then_sure, then_written}
use Rattle.ddf_stage.proofs.Giving.{adds_keeps, payload_aside, there_stays}
use Rattle.ddf_stage.proofs.staging.stage.Goals as goal

pub sync_each-requires : goal.sync_each-requires
sync_each-requires g c = rw c.write_each.ensures.spends.same_sizes c.requires.on

pub write_each-requires-2-clause-on : goal.write_each-requires-2-clause-on
write_each-requires-2-clause-on g c = rw (c.sync_each.ensures.spends.same_sizes, c.write_each.ensures.spends.same_sizes) c.requires.on

pub sync_each-requires-2 : goal.sync_each-requires-2
sync_each-requires-2 g c = rw (c.write_each-2.ensures.spends.same_sizes, c.sync_each.ensures.spends.same_sizes, c.write_each.ensures.spends.same_sizes) c.requires.on

pub returns-in_err-write_each-2-clause-any_moment : goal.returns-in_err-write_each-2-clause-any_moment
returns-in_err-write_each-2-clause-any_moment g c = λ tells.
    let first = IsPayload c.args.desks.now c.args.staged.now in
    let then = OpenGates c.args.desks.now c.args.staged.now in
    let a = g.B.Bay.disks c.args.bay.now in
    let b = g.B.Bay.disks c.write_each.new.bay in
    let m = g.B.Bay.disks c.sync_each.new.bay in
    let d = g.B.Bay.disks c.write_each-2.new.bay in
    then_written first then a m d
    (first_done first then a b m c.write_each.ensures.any_moment c.write_each.ensures.left c.sync_each.ensures.any_moment)
    (payload_aside c.args.desks.now c.requires.own c.args.staged.now.sectors (gate_bytes true c.args.staged.now.gate ∷ []) refl)
    (λ s l bytes on. c.in_ok-sync_each.ensures.settled s (desk_slot c.args.desks.now 1 c.args.staged.now.sectors s l bytes on))
    (rw c.sync_each.ensures.held (c.in_ok-write_each.ensures.there tells))
    (adds_keeps first a.may_hold b.may_hold m.may_hold c.write_each.ensures.left c.sync_each.ensures.left)
    (rw c.gate_sector-gate.ensures.exact at c.write_each-2.ensures.any_moment)

pub returns-in_err-sync_each-2-clause-any_moment : goal.returns-in_err-sync_each-2-clause-any_moment
returns-in_err-sync_each-2-clause-any_moment g c = λ tells.
    let first = IsPayload c.args.desks.now c.args.staged.now in
    let then = OpenGates c.args.desks.now c.args.staged.now in
    let a = g.B.Bay.disks c.args.bay.now in
    let b = g.B.Bay.disks c.write_each.new.bay in
    let m = g.B.Bay.disks c.sync_each.new.bay in
    let d = g.B.Bay.disks c.write_each-2.new.bay in
    let e = g.B.Bay.disks c.sync_each-2.new.bay in
    let aside : AreAside first then = payload_aside c.args.desks.now c.requires.own c.args.staged.now.sectors (gate_bytes true c.args.staged.now.gate ∷ []) refl in
    let settled : (s l : ℕ) (bytes : List ℕ) → first s l bytes → IsSettled m.may_hold m.held s =
    λ s l bytes on. c.in_ok-sync_each.ensures.settled s (desk_slot c.args.desks.now 1 c.args.staged.now.sectors s l bytes on) in
    let there : IsThere first m.held = rw c.sync_each.ensures.held (c.in_ok-write_each.ensures.there tells) in
    let adds : Adds first a.may_hold m.may_hold = adds_keeps first a.may_hold b.may_hold m.may_hold c.write_each.ensures.left c.sync_each.ensures.left in
    then_sure first then a m d e
    (then_written first then a m d
    (first_done first then a b m c.write_each.ensures.any_moment c.write_each.ensures.left c.sync_each.ensures.any_moment)
    aside settled there adds (rw c.gate_sector-gate.ensures.exact at c.write_each-2.ensures.any_moment))
    aside settled there adds (rw c.gate_sector-gate.ensures.exact at c.write_each-2.ensures.left) c.sync_each-2.ensures.any_moment

pub returns-clause-any_moment : goal.returns-clause-any_moment
returns-clause-any_moment g c = λ tells.
    let first = IsPayload c.args.desks.now c.args.staged.now in
    let then = OpenGates c.args.desks.now c.args.staged.now in
    let a = g.B.Bay.disks c.args.bay.now in
    let b = g.B.Bay.disks c.write_each.new.bay in
    let m = g.B.Bay.disks c.sync_each.new.bay in
    let d = g.B.Bay.disks c.write_each-2.new.bay in
    let e = g.B.Bay.disks c.sync_each-2.new.bay in
    let aside : AreAside first then = payload_aside c.args.desks.now c.requires.own c.args.staged.now.sectors (gate_bytes true c.args.staged.now.gate ∷ []) refl in
    let settled : (s l : ℕ) (bytes : List ℕ) → first s l bytes → IsSettled m.may_hold m.held s =
    λ s l bytes on. c.in_ok-sync_each.ensures.settled s (desk_slot c.args.desks.now 1 c.args.staged.now.sectors s l bytes on) in
    let there : IsThere first m.held = rw c.sync_each.ensures.held (c.in_ok-write_each.ensures.there tells) in
    let adds : Adds first a.may_hold m.may_hold = adds_keeps first a.may_hold b.may_hold m.may_hold c.write_each.ensures.left c.sync_each.ensures.left in
    then_sure first then a m d e
    (then_written first then a m d
    (first_done first then a b m c.write_each.ensures.any_moment c.write_each.ensures.left c.sync_each.ensures.any_moment)
    aside settled there adds (rw c.gate_sector-gate.ensures.exact at c.write_each-2.ensures.any_moment))
    aside settled there adds (rw c.gate_sector-gate.ensures.exact at c.write_each-2.ensures.left) c.sync_each-2.ensures.any_moment

pub returns-clause-payload : goal.returns-clause-payload
returns-clause-payload g c = λ tells.
    let first = IsPayload c.args.desks.now c.args.staged.now in
    let then = OpenGates c.args.desks.now c.args.staged.now in
    let m = g.B.Bay.disks c.sync_each.new.bay in
    let d = g.B.Bay.disks c.write_each-2.new.bay in
    let there : IsThere first m.held = rw c.sync_each.ensures.held (c.in_ok-write_each.ensures.there tells) in
    let mixes : Mixes then m.held d.held = rw c.gate_sector-gate.ensures.exact at (c.write_each-2.ensures.held tells) in
    let stays : IsThere first d.held =
    there_stays first then m.held d.held (payload_aside c.args.desks.now c.requires.own c.args.staged.now.sectors (gate_bytes true c.args.staged.now.gate ∷ []) refl) there mixes in
    rw c.sync_each-2.ensures.held stays

pub returns-clause-gates : goal.returns-clause-gates
returns-clause-gates g c = λ tells.
    let then = OpenGates c.args.desks.now c.args.staged.now in
    let d = g.B.Bay.disks c.write_each-2.new.bay in
    let opened : IsThere then d.held = rw c.gate_sector-gate.ensures.exact at (c.in_ok-write_each-2.ensures.there tells) in
    rw c.sync_each-2.ensures.held opened
