-- What lies below the floors of the slots, where steps of a group write nothing.
use Rattle.std.proofs.Common.{◌≡◌, ℕ, ◌<◌, List, sym}
use Rattle.ddf_bay.specs.Sectors.{Image}
use Rattle.ddf_parity.specs.Xor.{zeros}
use Rattle.ddf_array.specs.Volume.{Volume}
use Rattle.ddf_data_group.specs.Clear.{IsItsCell}
use Rattle.ddf_steps.specs.Steps.{Step}
use Rattle.ddf_rebuild.proofs.Aiming.{cell_lies}
use Rattle.ddf_group_commands.specs.Written.{AreWritten}
use Rattle.ddf_uncut_data.specs.Aside.{LieAside}
use Rattle.ddf_uncut_data.specs.Blank.{IsBlank}

module _ (floor : ℕ → ℕ) (v : Volume) (low : (slot lba : ℕ) → IsItsCell v slot lba → lba < floor slot) where
  pub aside_below : (sizes : List ℕ) (steps : List Step) → ((before after : Image) → AreWritten sizes before steps after → (slot lba : ℕ) → lba < floor slot → after slot lba ≡ before slot lba) → LieAside sizes v steps
  aside_below sizes steps same before after written element position sector slot lba lies =
      sym (same before after written slot lba (low slot lba (record { element = element; position = position; sector = sector; lies = lies })))

  pub blank_below : (image : Image) → ((slot lba : ℕ) → lba < floor slot → image slot lba ≡ zeros) → IsBlank v image
  blank_below image empty slot lba cell =
      empty slot lba (low slot lba (record { element = cell.element; position = cell.position; sector = cell.sector; lies = cell_lies v slot lba cell }))
