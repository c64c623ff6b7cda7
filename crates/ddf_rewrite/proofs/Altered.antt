-- A record as a change alters it, without the bytes that no field names.
use Rattle.std.proofs.Common.{◌≡◌, ◌∙◌, ℕ, ◌≤◌, Bool, true, false, cond, [], length, Option, Some, None, refl, ap, sym}
use Rattle.std.proofs.lemmas.List.{length-map}
use Rattle.ddf_header.specs.declared.geometry.Geometry.{Geometry}
use Rattle.ddf_config_records.specs.ElementValue.{ElementValue}
use Rattle.ddf_config_records.specs.Building.{element_over}
use Rattle.ddf_config.specs.Configuration.{Configuration}
use Rattle.ddf_view.specs.Differ.{same_record}
use Rattle.ddf_view.specs.View.{HeldRecord}
use Rattle.ddf_rewrite.specs.Elements.{altered, changed_over, place_in, planned}
use Rattle.ddf_rewrite.specs.Wanted.{Wanted}

-- the named fields alone
abbrev pub named : ElementValue → ElementValue
named element = record element { rest = [] }

same_named : (config : Configuration) (wanted : Wanted) (leader : ElementValue) → same_record leader (planned config wanted (named leader)) ≡ same_record leader (planned config wanted leader)
unfolding same_record
same_named config wanted leader = refl

pub stays_named : (config : Configuration) (timestamp : ℕ) (wanted : Wanted) (leader : ElementValue) → same_record leader (planned config wanted (named leader)) ≡ true → named leader ≡ named (altered config timestamp wanted leader)
unfolding altered
stays_named config timestamp wanted leader is = go (same_record leader (planned config wanted leader)) (sym (same_named config wanted leader) ∙ is)
  where
    go : (b : Bool) → b ≡ true → named leader ≡ named (cond b leader (record (planned config wanted leader) { timestamp = timestamp; sequence = config.sequence }))
    go b e = ap (λ t. named (cond t leader (record (planned config wanted leader) { timestamp = timestamp; sequence = config.sequence }))) (sym e)

pub changes_named : (config : Configuration) (timestamp : ℕ) (wanted : Wanted) (leader : ElementValue) → same_record leader (planned config wanted (named leader)) ≡ false
    → record (planned config wanted (named leader)) { timestamp = timestamp; sequence = config.sequence } ≡ named (altered config timestamp wanted leader)
unfolding altered
changes_named config timestamp wanted leader is = go (same_record leader (planned config wanted leader)) (sym (same_named config wanted leader) ∙ is)
  where
    go : (b : Bool) → b ≡ false → record (planned config wanted (named leader)) { timestamp = timestamp; sequence = config.sequence }
        ≡ named (cond b leader (record (planned config wanted leader) { timestamp = timestamp; sequence = config.sequence }))
    go b e = ap (λ t. named (cond t leader (record (planned config wanted leader) { timestamp = timestamp; sequence = config.sequence }))) (sym e)

-- It has as many members as a record allows.
pub altered_few : (most : ℕ) (config : Configuration) (timestamp : ℕ) (wanted : Wanted) (leader : ElementValue) → length leader.members ≤ most → length wanted.plan.positions ≤ most
    → length (altered config timestamp wanted leader).members ≤ most
unfolding altered
altered_few most config timestamp wanted leader before few = go (same_record leader (planned config wanted leader))
  where
    go : (b : Bool) → length (cond b leader (record (planned config wanted leader) { timestamp = timestamp; sequence = config.sequence })).members ≤ most
    go true = before
    go false = rw (length-map wanted.plan.positions place_in) few

-- What no field names is not read.
pub element_named : (geometry : Geometry) (bytes element : ElementValue) → element_over geometry bytes (named element) ≡ element_over geometry bytes element
element_named geometry bytes element = refl

pub over_named : (geometry : Geometry) (own : Option HeldRecord) (leader element : ElementValue) → changed_over geometry own leader (named element) ≡ changed_over geometry own leader element
unfolding same_record
over_named geometry None leader element = refl
over_named geometry (Some own) leader element = go (same_record own.element leader)
  where
    kept : ElementValue → ElementValue
    kept one = record one { block_size = own.element.block_size; timestamp = cond (same_record leader one) own.element.timestamp one.timestamp }

    go : (b : Bool) → element_over geometry own.element (cond b (kept (named element)) (named element)) ≡ element_over geometry own.element (cond b (kept element) element)
    go true = refl
    go false = refl
