-- What is planned of a group is one: the steps before the blocks and behind them, and the view between these.
use Rattle.std.proofs.Common.{◌≡◌, ◌∙◌, ℕ, List, ◌++◌, sym, ap}
use Rattle.std.proofs.lemmas.List.{append_cancel_left}
use Rattle.ddf_lemmas.proofs.Options.{ok_is, some_is}
use Rattle.ddf_array.specs.Viewing.{view_of}
use Rattle.ddf_seats.specs.Group.{GroupValue}
use Rattle.ddf_recovery.specs.Ready.{readied}
use Rattle.ddf_steps.specs.Steps.{Step}
use Rattle.ddf_group_commands.specs.Change.{Request}
use Rattle.ddf_write_commands.specs.Around.{config_behind, marking}
use Rattle.ddf_write_commands.specs.Planned.{Entry, IsPlanned}

module _ (found : GroupValue) (timestamp : ℕ) (word : List ℕ) (request : Request) (one other : IsPlanned found timestamp word request) where
  same_entry : one.entry ≡ other.entry
  same_entry = some_is (sym one.is_named ∙ other.is_named)

  pub same_first : one.first ≡ other.first
  same_first = ok_is (sym one.are_first ∙ ap (λ (entry : Entry). readied found (marking entry) timestamp) same_entry ∙ other.are_first)

  pub same_last : one.last ≡ other.last
  same_last =
      append_cancel_left other.first one.last other.last
      (ap (λ (steps : List Step). steps ++ one.last) (sym same_first) ∙ ok_is (sym one.are_asked ∙ other.are_asked))

  pub same_volume : one.volume ≡ other.volume
  same_volume =
      ok_is (sym one.is_view ∙ ap (λ (entry : Entry). view_of (config_behind found.config one.first) entry.0 found.seats) same_entry
      ∙ ap (λ (steps : List Step). view_of (config_behind found.config steps) other.entry.0 found.seats) same_first ∙ other.is_view)
