-- How a plan begins: the position goes on where it is, or gets a spare.
use Rattle.std.proofs.Common.{◌≡◌, ◌∙◌, ℕ, List, [], ◌∷◌, Result, Ok, Err, refl, sym, ap}
use Rattle.ddf_config.specs.declared.seat.Seat.{Seat}
use Rattle.ddf_config.specs.Configuration.{Configuration}
use Rattle.ddf_plan.specs.declared.change.Change.{Change}
use Rattle.ddf_repair.specs.declared.first.Target.{Target}
use Rattle.ddf_repair.specs.declared.beginning.Begun.{Begun}
use Rattle.ddf_repair.specs.declared.beginning.Begun.TheVariants.{Nothing, Fresh, Again}
use Rattle.ddf_repair.specs.declared.beginning.RebuildFault.{RebuildFault}
use Rattle.ddf_repair.specs.Begin.{begun}
use Rattle.ddf_write_commands.specs.Planned.{Entry}
use Rattle.ddf_rebuild_command.specs.Asked.{kept_in}
use Rattle.ddf_rebuild_command.specs.Planned.{BeginsAt}

pub data Beginning (config : Configuration) (seats : List Seat) (aside : List ℕ) (entry : Entry) (target : Target) (kept : ℕ) (before : List Change) : Type 0 where
  goes_on : begun config entry.0 seats aside ≡ Ok (Again target) → kept ≡ kept_in entry.1 target → before ≡ [] → Beginning config seats aside entry target kept before
  spares : (change : Change) → begun config entry.0 seats aside ≡ Ok (Fresh target change) → kept ≡ 0 → before ≡ change ∷ [] → Beginning config seats aside entry target kept before

pub beginning : (config : Configuration) (seats : List Seat) (aside : List ℕ) (entry : Entry) (target : Target) (kept : ℕ) (before : List Change) → BeginsAt entry target kept before (begun config entry.0 seats aside)
    → Beginning config seats aside entry target kept before
beginning config seats aside entry target kept before is = by (begun config entry.0 seats aside) refl is
  where
    by : (result : Result Begun RebuildFault) → begun config entry.0 seats aside ≡ result → BeginsAt entry target kept before result → Beginning config seats aside entry target kept before
    by (Ok Nothing) e h = absurd h
    by (Ok (Again at)) e h =
        goes_on (e ∙ ap (λ (one : Target). Ok (Again one)) (sym h.0)) (h.1 ∙ ap (kept_in entry.1) (sym h.0)) h.2
    by (Ok (Fresh at change)) e h = spares change (e ∙ ap (λ (one : Target). Ok (Fresh one change)) (sym h.0)) h.1 h.2
    by (Err fault) e h = absurd h
