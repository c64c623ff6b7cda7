-- Where no gate stands open none does behind what leaves the gates as they are.
use Rattle.std.proofs.Common.{◌≡◌, ⊎_elim, ℕ, ◌+◌, ◌≤◌, Bool, true, List, Option, Some, None, refl, sym, subst, arith, slice_get}
use Rattle.ddf_lemmas.proofs.Options.{none_some}
use Rattle.ddf_bay.specs.Sectors.{Image}
use Rattle.ddf_config.specs.Configuration.{Configuration}
use Rattle.ddf_history.specs.Groups.{groups}
use Rattle.ddf_history.specs.Issued.{Past, acknowledge, issue, take_off, with_slots}
use Rattle.ddf_history.proofs.Lists.{get_more, get_taken}
use Rattle.ddf_stage.specs.declared.desk.Desk.{Desk}
use Rattle.ddf_stage.specs.declared.desk.Staged.{Staged}
use Rattle.ddf_stage.specs.Laid.{on_desk}
use Rattle.ddf_stage_promise.specs.Footing.{Footing, guids_of}
use Rattle.ddf_stage_promise.specs.Staged.{NoneOpen, arrays_by, arrays_on, desks_on, does_count}
use Rattle.ddf_stage_promise.proofs.Closing.{shows_some}
use Rattle.ddf_stage_promise.proofs.Desks.{desk_before, desk_of}
use Rattle.ddf_stage_promise.proofs.Losing.{shut_for}

is_none : (o : Option Staged) → ((shown : Staged) → o ≡ Some shown → ⊥) → o ≡ None
is_none None never = refl
is_none (Some shown) never = absurd (never shown refl)

module _ (group : List ℕ) (footing : Footing) (past : Past (groups group)) where
  pub none_same : (before image : Image) → ((slot lba : ℕ) → footing.gate slot ≡ Some lba → image slot lba ≡ before slot lba) → NoneOpen group footing past before → NoneOpen group footing past image
  none_same before image same none number config since k desk at =
      let of = desk_of group footing past config k desk at in
      is_none (on_desk (arrays_on group footing past number config) image desk)
      (λ shown e.
      let was = shows_some (arrays_on group footing past number config) image before desk shown (same desk.slot desk.lba of.is_gate) e in
      none_some (on_desk (arrays_on group footing past number config) before desk) was.0 (none number config since k desk at) was.1)

  pub none_lost : (image : Image) → NoneOpen group footing past image → (lost returned : ℕ → Bool) → ((slot : ℕ) → past.lost slot ≡ true → lost slot ≡ true) → NoneOpen group footing (with_slots past lost returned) image
  none_lost image none lost returned stay number config since k desk at =
      let was = desk_before group footing past config lost stay k desk at in none number config (record { late = since.late; is_there = since.is_there }) was.0 desk was.1

  pub none_acked : (image : Image) → NoneOpen group footing past image → (number : ℕ) → past.changes.acked ≤ number → NoneOpen group footing (acknowledge past number) image
  none_acked image none number later n config since = none n config (record { late = omega (arith, later, since.late); is_there = since.is_there })

  pub none_taken : (image : Image) → NoneOpen group footing past image → (number : ℕ) → NoneOpen group footing (take_off past number) image
  none_taken image none number n config since = none n config (record { late = since.late; is_there = (get_taken past.changes.issued (number + 1) n config since.is_there).0 })

  pub none_issued : (image : Image) → NoneOpen group footing past image → (next : Configuration)
      → ((k : ℕ) (desk : Desk) → slice_get (desks_on group footing past next) k ≡ Some desk → on_desk (guids_of next) image desk ≡ None) → NoneOpen group footing (issue past next) image
  none_issued image none next shut n config issued =
      ⊎_elim
      (λ old. none n config (record { late = issued.late; is_there = old }))
      (λ new.
      subst (λ (c : Configuration). (k : ℕ) (desk : Desk) → slice_get (desks_on group footing past c) k ≡ Some desk → on_desk (arrays_by (does_count footing past.changes.own_from n) c) image desk ≡ None) (sym new.1)
      (λ k desk at. shut_for image desk (does_count footing past.changes.own_from n) next (guids_of next) refl (shut k desk at)))
      (get_more past.changes.issued next n config issued.is_there)
