-- What the blocks of an array have where it has fewer places to read from.
use Rattle.std.proofs.Common.{◌≡◌, ℕ, Bool, true, false, List, Some, arith, slice_get}
use Rattle.std.specs.Prelude.{if◌then◌else◌}
use Rattle.std.specs.List.{list_all, list_any}
use Rattle.ddf_bay.specs.Sectors.{Image}
use Rattle.ddf_array.specs.declared.part.Part.{Part}
use Rattle.ddf_array.specs.Apart.{IsApart}
use Rattle.ddf_array.specs.Volume.{Volume, IsVolume}
use Rattle.ddf_array.specs.Within.{is_mirrored, is_part_within, is_within}
use Rattle.ddf_array.proofs.Enough.{all_pass}
use Rattle.ddf_data_array.specs.Fewer.{IsFewer, LeavesRows}
use Rattle.ddf_data_array.proofs.LessRows.{kept_less, few_away}
use Rattle.ddf_uncut_data.specs.Blocks.{HoldsBlocks, exactly, none_absent}

each_within : (mirrored : Bool) (parts : List Part) → mirrored ≡ false → (if mirrored then list_any is_part_within parts else list_all is_part_within parts) ≡ true → list_all is_part_within parts ≡ true
each_within true parts apart within = absurd (cc)
each_within false parts apart within = within

pub holds_less : (before after : Volume) (image : Image) (blocks : ℕ → List ℕ) → IsVolume after → IsApart after → after.marked ≡ false → is_within after ≡ true → is_mirrored after ≡ false → IsFewer before after → LeavesRows before after
    → HoldsBlocks before image blocks → HoldsBlocks after image blocks
holds_less before after image blocks known apart unmarked within alone fewer rows holds =
    let enough : (element : ℕ) (part : Part) → slice_get after.parts element ≡ Some part → is_part_within part ≡ true =
    λ element part at. all_pass is_part_within after.parts (each_within (is_mirrored after) after.parts alone within) element part at in
    record {
      is_volume = known;
      apart = apart;
      unmarked = unmarked;
      within = within;
      kept = kept_less none_absent none_absent before after image (exactly blocks) known fewer
          (record {
            stays = λ unmarked' within' element one other one_at other_at keeps lacks none.
                absurd (omega (arith, lacks, few_away other.shape.layout other.places keeps (enough element other other_at)));
          })
          rows holds.kept;
    }
