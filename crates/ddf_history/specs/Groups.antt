-- The groups of this engine, read by what the copies of their disks say.
use Rattle.std.specs.Prelude.{◌≡◌, ℕ, Bool, true, false, not, ◌&&◌, ◌==◌, List, [], ◌∷◌, None}
use Rattle.std.specs.Map.{lookup}
use Rattle.std.specs.Option.{option_map_or}
use Rattle.std.specs.Str.{bytes_eq}
use Rattle.ddf_config.specs.declared.member.Member.{Member}
use Rattle.ddf_config.specs.Configuration.{Configuration}
use Rattle.ddf_view.specs.View.{View, lists_current, lists_missing}
use Rattle.ddf_view.specs.Reading.{read}
use Rattle.ddf_view.specs.Shows.{shows, shows_fully}
use Rattle.ddf_view.specs.Differ.{difference}
use Rattle.ddf_view.specs.Readable.{AreReadable, DoNamesDiffer, HasNotes}
use Rattle.ddf_history.specs.Reading.{Reading}

-- what a disk is known by
pub record Disk : Type 0 where
  pub guid : List ℕ
  pub reference : ℕ

-- the disk that a copy stands on, as it says
abbrev pub disk_of : View → Disk
disk_of view = record { guid = view.guid; reference = view.reference }

-- ---- members

-- whether a disk is a member of this kind, by the entry of its reference
abbrev pub is_member : (Member → Bool) → Configuration → Disk → Bool
is_member test config disk = option_map_or (λ (member : Member). bytes_eq member.guid disk.guid && test member) (lookup (λ reference. reference == disk.reference) config.members) false

abbrev pub has_current : Configuration → Disk → Bool
has_current config disk = is_member (λ (member : Member). not member.missing) config disk

abbrev pub has_missing : Configuration → Disk → Bool
has_missing config disk = is_member (λ (member : Member). member.missing) config disk

-- ---- copies

-- It shows the configuration. A copy that was read names each disk and each array once.
pub record Shows (view : View) (config : Configuration) : Type 0 where
  pub shows : shows config view ≡ true
  pub names : DoNamesDiffer (view ∷ [])

-- It shows it fully.
pub record ShowsFully (view : View) (config : Configuration) : Type 0 where
  pub shows : Shows view config
  pub fully : shows_fully config view ≡ true
  pub notes : HasNotes view
  pub readable : AreReadable config

-- what leaders give, at the sequence of the first
abbrev pub read_leaders : (group : List ℕ) → List View → Configuration
read_leaders group [] = read group 0 []
read_leaders group (view ∷ views) = read group view.sequence (view ∷ views)

-- ---- the reading

-- the group of this GUID
abbrev pub groups : (group : List ℕ) → Reading
groups group = record {
  Copy = View;
  Config = Configuration;
  Disk = Disk;
  reference = λ (disk : Disk). disk.reference;
  is_ours = λ (view : View). bytes_eq group view.group;
  sequence_of = λ (view : View). view.sequence;
  disk_of = disk_of;
  lists_current = λ (view : View) (disk : Disk). lists_current view disk.guid disk.reference;
  lists_missing = λ (view : View) (disk : Disk). lists_missing view disk.guid disk.reference;
  Agree = λ (one other : View). difference one other ≡ None;
  read = read_leaders group;
  sequence = λ (config : Configuration). config.sequence;
  has_current = has_current;
  has_missing = has_missing;
  Shows = Shows;
  ShowsFully = ShowsFully;
}
