-- What several crates above ask of the definitions of this one.
use Rattle.std.proofs.Common.{List, None, Some, [], refl, true, ℕ, ◌∷◌, ◌≡◌}
use Rattle.std.proofs.lemmas.Bool.{eq-eqb}
use Rattle.std.specs.declared.cmp.Ordering.{Ordering}
use Rattle.ddf_lemmas.proofs.Lists.{bytes_same}
use Rattle.ddf_tables.specs.declared.disks.DiskEntry.{DiskEntry}
use Rattle.ddf_config_records.specs.ElementValue.{ElementValue}
use Rattle.ddf_config_records.specs.declared.notes.SlotNote.{SlotNote}
use Rattle.ddf_view.specs.Differ.{least, same_disk, told_kind}
use Rattle.ddf_view.specs.Reading.{plan_of}

-- A list without a least item is empty.
pub least_none : {X : Type 0} (compare : X → X → Ordering) (items : List X) → least compare items ≡ None → items ≡ []
least_none compare [] h = refl
least_none compare (item ∷ items) h = absurd cc

-- A disk is the same as itself.
pub disk_itself : (placed : ℕ × DiskEntry) → same_disk placed placed ≡ true
disk_itself placed =
    let disk = placed.1 in
    let types = eq-eqb (told_kind disk) (told_kind disk) refl in
    let states = eq-eqb disk.state.0 disk.state.0 refl in
    rw (eq-eqb placed.0 placed.0 refl, bytes_same disk.guid, types, states, eq-eqb disk.size disk.size refl) refl

-- With a note the states of the disks don't count.
pub plan_anywhere : (disks : List DiskEntry) (given : SlotNote) (element : ElementValue) → plan_of disks (Some given) element ≡ plan_of [] (Some given) element
unfolding plan_of
plan_anywhere disks given element = refl
