-- What the table that a change gives a disk of Linux's tells of a disk that is being filled.
use Rattle.std.proofs.Common.{◌≡◌, ℕ, ◌&&◌, Bool, true, false, not, eqb, List, map, max, Some, refl, ap, ◌∙◌, arith}
use Rattle.std.proofs.lemmas.Bool.{and_from}
use Rattle.std.proofs.lemmas.Nat.Bits.{bit_at-lt, bit_at_or}
use Rattle.std.specs.Prelude.{option_map, slice_get}
use Rattle.std.specs.Int.{bit_at}
use Rattle.std.specs.Int.RustNames.{bit_or}
use Rattle.ddf_lemmas.proofs.Lists.{mapped_at}
use Rattle.ddf_tables.specs.DiskFlags.{spare}
use Rattle.ddf_tables.specs.declared.disks.DiskEntry.{DiskEntry}
use Rattle.ddf_copy.specs.declared.copy.DiskCopy.{DiskCopy}
use Rattle.ddf_config.specs.Configuration.{Configuration}
use Rattle.ddf_config.specs.declared.member.Member.{Member}
use Rattle.ddf_view.specs.View.{has_bit, view_of}
use Rattle.ddf_rewrite.specs.Before.{Before}
use Rattle.ddf_rewrite.specs.Changing.{CanChange}
use Rattle.ddf_rewrite.specs.Copies.{changed_copy}
use Rattle.ddf_rewrite.specs.Disks.{block_size_of, changed_disks, disk_on, disks_for, filled, is_behind, is_filled, is_global, is_linux, kind_after, kind_in, member_entry, state_after, state_in, with_flag}
use Rattle.ddf_rewrite.specs.Wanted.{all_wanted}
use Rattle.ddf_rewrite.proofs.Changed.{disks_are}
use Rattle.ddf_rewrite.proofs.Flags.{kind_global, rebuilding_after}

spare_bit : (kind : ℕ) → has_bit (bit_or kind spare) 3 ≡ true
spare_bit kind =
    let low = bit_at-lt kind 3 in
    let all : max (bit_at kind 3) 1 ≡ 1 = omega (arith, low) in
    ap (λ (n : ℕ). eqb n 1) (bit_at_or kind spare 3 ∙ all)

module _ (old : DiskCopy) (leaders : Before) (config : Configuration) (timestamp : ℕ) (can : CanChange old leaders config timestamp) (linux : is_linux old.header.revision ≡ true)
    (k : ℕ) (entry : ℕ × Member) (at : slice_get config.members k ≡ Some entry) (current : entry.1.missing ≡ false) (behind : is_behind (all_wanted config) entry.0 ≡ true) where
  make : ℕ × Member → DiskEntry
  make one = disk_on (view_of old).disks (block_size_of old.header.revision) (member_entry (all_wanted config) leaders.disks one)

  there : slice_get (view_of (changed_copy old leaders config timestamp)).disks k ≡ Some (filled old.header.revision true (all_wanted config) (make entry))
  unfolding disks_for changed_disks make
  there =
      ap (λ (disks : List DiskEntry). slice_get disks k) (disks_are old leaders config timestamp can.room)
      ∙ mapped_at (filled old.header.revision true (all_wanted config)) (map make config.members) k (make entry) (mapped_at make config.members k entry at)

  state_is : has_bit (make entry).state.0 2 ≡ true
  unfolding make
  state_is = rebuilding_after (all_wanted config) entry (state_in leaders.disks entry.0) current behind

  is_told : is_global entry.1.spare ≡ false → is_filled old.header.revision true (all_wanted config) (make entry) ≡ true
  unfolding make
  is_told plain =
      let a = has_bit (state_after (all_wanted config) entry (state_in leaders.disks entry.0)) 2 in
      let b = not (has_bit (kind_after (all_wanted config) entry (kind_in leaders.disks entry.0)) 2) in
      let c = is_linux old.header.revision in
      let other : b ≡ true = ap not (kind_global (all_wanted config) entry (kind_in leaders.disks entry.0) ∙ plain) in
      and_from (a && b && c && true) (is_behind (all_wanted config) entry.0) (and_from (a && b && c) true (and_from (a && b) c (and_from a b state_is other) linux) refl) behind

  -- bit 3 of its type is set
  pub filled_kind : is_global entry.1.spare ≡ false → option_map (λ (disk : DiskEntry). has_bit disk.kind.0 3) (slice_get (view_of (changed_copy old leaders config timestamp)).disks k) ≡ Some true
  filled_kind plain =
      ap (option_map (λ (disk : DiskEntry). has_bit disk.kind.0 3)) there
      ∙ ap (λ (test : Bool). Some (has_bit (with_flag test spare (make entry).kind.0) 3)) (is_told plain)
      ∙ ap (λ (b : Bool). Some b) (spare_bit (make entry).kind.0)

  -- and bit 2 of its state
  pub filled_state : option_map (λ (disk : DiskEntry). has_bit disk.state.0 2) (slice_get (view_of (changed_copy old leaders config timestamp)).disks k) ≡ Some true
  filled_state = ap (option_map (λ (disk : DiskEntry). has_bit disk.state.0 2)) there ∙ ap (λ (b : Bool). Some b) state_is
