-- The copies that a change gives its seats are what is asked of copies that are written.
use Rattle.std.proofs.Common.{◌≡◌, ℕ, true, [], refl}
use Rattle.std.specs.Str.{bytes_eq}
use Rattle.ddf_lemmas.proofs.Lists.{bytes_same}
use Rattle.ddf_config.specs.Configuration.{Configuration}
use Rattle.ddf_copy.specs.declared.copy.DiskCopy.{DiskCopy}
use Rattle.ddf_copy.specs.Written.{CanBeCopy}
use Rattle.ddf_view.specs.View.{view_of}
use Rattle.ddf_view.proofs.Names.{names_differ}
use Rattle.ddf_rewrite.specs.Before.{Before}
use Rattle.ddf_rewrite.specs.Changing.{CanChange}
use Rattle.ddf_rewrite.specs.Copies.{changed_copy}
use Rattle.ddf_rewrite.proofs.Changed.{changed_shows}
use Rattle.ddf_rewrite.proofs.Fully.{changed_fully, changed_has_notes}
use Rattle.ddf_history.specs.Groups.{Shows, ShowsFully, disk_of}

-- It names the disk that the old copy names.
pub changed_names : (old : DiskCopy) (leaders : Before) (config : Configuration) (timestamp : ℕ) → disk_of (view_of (changed_copy old leaders config timestamp)) ≡ disk_of (view_of old)
unfolding changed_copy view_of
changed_names old leaders config timestamp = refl

-- It is of the configuration's group.
pub changed_is_ours : (old : DiskCopy) (leaders : Before) (config : Configuration) (timestamp : ℕ) → bytes_eq config.group (view_of (changed_copy old leaders config timestamp)).group ≡ true
unfolding changed_copy view_of
changed_is_ours old leaders config timestamp = bytes_same config.group

module _ (old : DiskCopy) (leaders : Before) (config : Configuration) (timestamp : ℕ) (change : CanChange old leaders config timestamp) (can : CanBeCopy (changed_copy old leaders config timestamp)) where
  -- It shows the configuration.
  pub changed_is_shown : Shows (view_of (changed_copy old leaders config timestamp)) config
  changed_is_shown = record {
    shows = changed_shows old leaders config timestamp change.names change.rebuilt change.room;
    names = names_differ (changed_copy old leaders config timestamp) [] can;
  }

  -- It shows it fully.
  pub changed_is_full : ShowsFully (view_of (changed_copy old leaders config timestamp)) config
  changed_is_full = record {
    shows = changed_is_shown;
    fully = changed_fully old leaders config timestamp change;
    notes = changed_has_notes old leaders config timestamp change.names change.room;
    readable = change.readable;
  }
