-- A copy that was rewritten shows the configuration where its entries and its records give it.
use Rattle.std.proofs.Common.{◌≡◌, ℕ, ◌≤◌, Bool, true, eqb, List, length, refl, ap, ◌∙◌, arith}
use Rattle.std.proofs.lemmas.Bool.{eq-eqb}
use Rattle.std.proofs.lemmas.List.{length-map}
use Rattle.std.specs.List.{list_all}
use Rattle.std.specs.Str.{bytes_eq}
use Rattle.std.specs.Cmp.Lexicographic.{pointwise}
use Rattle.ddf_lemmas.proofs.Lists.{bytes_same}
use Rattle.ddf_tables.specs.declared.disks.DiskEntry.{DiskEntry}
use Rattle.ddf_tables.specs.declared.arrays.ArrayEntry.{ArrayEntry}
use Rattle.ddf_copy.specs.declared.copy.DiskCopy.{DiskCopy}
use Rattle.ddf_config.specs.Configuration.{Configuration}
use Rattle.ddf_view.specs.Shows.{gives_array, gives_elements, gives_member, shows}
use Rattle.ddf_view.specs.View.{view_of}
use Rattle.ddf_rewrite.specs.Arrays.{array_on, arrays_after}
use Rattle.ddf_rewrite.specs.Copies.{copy_after}
use Rattle.ddf_rewrite.specs.Disks.{disks_for}
use Rattle.ddf_rewrite.specs.Notes.{Holding}
use Rattle.ddf_rewrite.specs.Wanted.{all_wanted}
use Rattle.ddf_rewrite.proofs.Filled.{filled_count, filled_gives}
use Rattle.ddf_rewrite.proofs.Tables.{arrays_given, arrays_read, disks_read}

module _ (old : DiskCopy) (noted : Bool) (config : Configuration) (timestamp : ℕ) (disks : List DiskEntry) (holdings : List Holding) where
  -- the entries of the disks
  pub copy_disks : length disks ≤ length old.disks.rows → (view_of (copy_after old noted config timestamp disks holdings)).disks ≡ disks_for old.header.revision noted config disks
  unfolding view_of
  copy_disks few =
      let count = filled_count old.header.revision noted config disks in
      disks_read old.disks.rows (disks_for old.header.revision noted config disks) (omega (arith, count, few))

  -- the entries of the arrays
  pub copy_arrays : length config.arrays ≤ length old.arrays.rows → (view_of (copy_after old noted config timestamp disks holdings)).arrays ≡ arrays_after config (view_of old).arrays
  unfolding view_of arrays_after
  copy_arrays few = arrays_read old.arrays.rows (arrays_after config (view_of old).arrays) (let long = length-map config.arrays (array_on (view_of old).arrays) in omega (arith, long, few))

  -- the sequence and the group
  copy_head : ((view_of (copy_after old noted config timestamp disks holdings)).sequence ≡ config.sequence) × ((view_of (copy_after old noted config timestamp disks holdings)).group ≡ config.group)
  unfolding view_of
  copy_head = (refl, refl)

  -- It shows the configuration.
  pub copy_shows : length disks ≤ length old.disks.rows → length config.arrays ≤ length old.arrays.rows → pointwise gives_member disks config.members ≡ true
      → list_all (gives_elements (view_of (copy_after old noted config timestamp disks holdings)).elements) config.arrays ≡ true → shows config (view_of (copy_after old noted config timestamp disks holdings)) ≡ true
  unfolding shows disks_for
  copy_shows few_disks few_arrays given elements =
      let view = view_of (copy_after old noted config timestamp disks holdings) in
      let sequence : eqb view.sequence config.sequence ≡ true = eq-eqb view.sequence config.sequence copy_head.0 in
      let group : bytes_eq view.group config.group ≡ true = ap (λ (g : List ℕ). bytes_eq g config.group) copy_head.1 ∙ bytes_same config.group in
      let members : pointwise gives_member view.disks config.members ≡ true = ap (λ (list : List DiskEntry). pointwise gives_member list config.members) (copy_disks few_disks)
      ∙ filled_gives old.header.revision noted (all_wanted config) disks config.members ∙ given in
      let arrays : pointwise gives_array view.arrays config.arrays ≡ true =
      ap (λ (rows : List ArrayEntry). pointwise gives_array rows config.arrays) (copy_arrays few_arrays) ∙ arrays_given config (view_of old).arrays in
      rw (sequence, group, members, arrays, elements) refl
