-- The configuration that joins a group, and the one that both make.
use Rattle.std.proofs.Common.{◌≡◌, [], ◌∷◌, Option, Some, None, Ok, Err, refl, sym, ap, ◌∙◌}
use Rattle.ddf_config.specs.declared.refusal.Refusal.{Refusal}
use Rattle.ddf_config.specs.Configuration.{Configuration}
use Rattle.ddf_config.specs.Refusals.{first_refusal}
use Rattle.ddf_plan.specs.Refusals.{spent}
use Rattle.ddf_import.specs.Clash.{join_cause}
use Rattle.ddf_import.specs.Joined.{after_join, join_by, joined, offer_by, offered}
use Rattle.ddf_seats.specs.Group.{GroupValue}
use Rattle.ddf_joining.specs.Joining.{config_joining}

offer_ok : (joining next : Configuration) (cause : Option Refusal) → offer_by joining cause ≡ Ok next → (cause ≡ None) × (next ≡ joining)
offer_ok joining next None is = (refl, let same : joining ≡ next = cc in sym same)
offer_ok joining next (Some refusal) is = absurd cc

offer_refused : (joining : Configuration) (refusal : Refusal) (cause : Option Refusal) → offer_by joining cause ≡ Err refusal → cause ≡ Some refusal
offer_refused joining refusal None is = absurd cc
offer_refused joining refusal (Some other) is = let same : other ≡ refusal = cc in ap (λ (one : Refusal). Some one) same

-- What is offered is what joins, where nothing is against it.
pub offered_joins : (config : Configuration) (other : GroupValue) (next : Configuration) → offered config other.config other.absent ≡ Ok next → (join_cause config (config_joining other) ≡ None) × (next ≡ config_joining other)
unfolding offered
offered_joins config other next is = offer_ok (config_joining other) next (join_cause config (config_joining other)) is

-- Else that is told.
pub offered_refused : (config : Configuration) (other : GroupValue) (refusal : Refusal) → offered config other.config other.absent ≡ Err refusal → join_cause config (config_joining other) ≡ Some refusal
unfolding offered
offered_refused config other refusal is = offer_refused (config_joining other) refusal (join_cause config (config_joining other)) is

-- ---- the configuration of both

join_unspent : (cause other : Option Refusal) → cause ≡ None → other ≡ None → first_refusal (cause ∷ other ∷ []) ≡ None
join_unspent None None h k = refl
join_unspent (Some one) other h k = absurd cc
join_unspent None (Some one) h k = absurd cc

abbrev pub at_start : Configuration → Configuration
at_start config = record config { sequence = 0 }

-- From the least sequence number on nothing is against the join but its causes.
pub start_joins : (config joining : Configuration) → join_cause config joining ≡ None → after_join (at_start config) joining ≡ Ok (joined (at_start config) joining)
unfolding after_join
start_joins config joining free =
    ap (join_by (at_start config) joining) (join_unspent (join_cause (at_start config) joining) (spent 0 1) free refl)

-- What is given from there on is this.
pub from_start : (config joining start next : Configuration) → join_cause config joining ≡ None → start ≡ at_start config → after_join start joining ≡ Ok next → next ≡ joined (at_start config) joining
from_start config joining start next free is given =
    let both : Ok next ≡ Ok (joined (at_start config) joining) = sym given ∙ ap (λ (one : Configuration). after_join one joining) is ∙ start_joins config joining free in
    cc
