-- What `label` does, and how it ends.
use Rattle.std.specs.Prelude.{◌≡◌, ℕ, Bool, ◌+◌, ◌*◌, ◌<◌, ◌≤◌, List, length, codes, Some, None, OnOk, Result, Ok, Err}
use Rattle.ddf_bytes.specs.declared.stamp.Stamp.{Stamp}
use Rattle.ddf_bay.specs.Moments.{StopsLeave}
use Rattle.ddf_bay.specs.ReadsOnly.{ReadsOnly, SlotRose}
use Rattle.ddf_header.specs.declared.kind.Revision.{Revision}
use Rattle.ddf_header.specs.declared.kind.Revision.TheVariants.{R120, R200}
use Rattle.ddf_copy.specs.declared.copy.DiskCopy.{DiskCopy}
use Rattle.ddf_update.specs.Group.{HaveFirstCopies, IsLeftFoundingAll, slot_sizes}
use Rattle.ddf_update.specs.declared.new_layout.NewLayout.{NewLayout}
use Rattle.ddf_update.specs.NewCopies.{new_copy}
use Rattle.ddf_update.specs.NewLayouts.{copy_length}
use Rattle.ddf_answer.specs.declared.failure.Failure.{Failure}
use Rattle.ddf_answer.specs.declared.failure.Failure.TheVariants.{Conflict, Disk, Memory, Refused, Split}
use Rattle.ddf_config.specs.declared.refusal.Refusal.{Refusal}
use Rattle.ddf_words.specs.declared.command.DiskStyle.{DiskStyle}
use Rattle.ddf_words.specs.declared.command.DiskStyle.TheVariants.{Linux, Standard}
use Rattle.ddf_answer.specs.Answers.{IsToldFailure}
use Rattle.ddf_answer.specs.Call.{Answer, Work}
use Rattle.ddf_answer.specs.Costs.{WritesAtMost}
use Rattle.ddf_disk_commands.specs.LabelRefusal.{chosen, label_layout, label_refusal}
use Rattle.ddf_answer.specs.Tells.{ClosesWith}

-- the slots to label on a bay of these sizes
abbrev pub label_slots : List ℕ → (named : List ℕ) → List ℕ
label_slots sizes named = chosen (length sizes) named

-- the revision of disks that are made in a style: Linux takes none but this one
abbrev pub revision_of : DiskStyle → Revision
revision_of Standard = R200
revision_of Linux = R120

-- the copy that each of them gets, by its place
abbrev pub label_copy : (large : Bool) → Revision → Stamp → List ℕ → (named : List ℕ) → ℕ → DiskCopy
label_copy large revision stamp sizes named = new_copy (label_layout large sizes named) revision stamp (slot_sizes sizes (label_slots sizes named))

-- the most sectors that each of them gets written: its two copies, whose headers are written twice, and the anchor
abbrev pub label_sectors : NewLayout → ℕ
label_sectors layout = 2 * (copy_length layout + 1) + 1

-- the most calls on so many of them: each is looked at once, and gets its copies in at most 25
abbrev pub most_labelled : (slots : ℕ) → ℕ
most_labelled slots = 26 * slots

-- What it did, by its answer: the slots have their copies, sure; or else it was refused and nothing was written, or a call on a
-- slot failed, or memory ran out and nothing was written.
abbrev pub IsTried : {D : Type 0} → Work D → (large : Bool) → Revision → Stamp → (named : List ℕ) → Result (Unit {0}) Failure → Type 0
IsTried work large revision stamp named (Ok done) =
    work.tells → (label_refusal large work.old.sizes work.old.held named ≡ None)
    × HaveFirstCopies work.old work.new (label_slots work.old.sizes named) (label_copy large revision stamp work.old.sizes named) (length (label_slots work.old.sizes named))
IsTried work large revision stamp named (Err (Refused refusal)) =
    (work.tells → label_refusal large work.old.sizes work.old.held named ≡ Some refusal) × ReadsOnly work.old work.new
IsTried work large revision stamp named (Err (Disk slot)) =
    (slot < length work.old.sizes) × SlotRose work.old work.new slot
IsTried work large revision stamp named (Err (Conflict i j sequence differ)) = ⊥
IsTried work large revision stamp named (Err (Split i j)) = ⊥
IsTried work large revision stamp named (Err Memory) =
    ReadsOnly work.old work.new

-- what is told of it, and with which status
abbrev pub IsToldLabel : Result (Unit {0}) Failure → Answer → Type 0
IsToldLabel (Ok done) answer = ClosesWith 0 (codes "ok sequence 1\n") answer
IsToldLabel (Err failure) answer = IsToldFailure failure answer

-- It did this, and said so. A stop leaves each slot as it might have left it before, or blank, or with its copy, and no sector
-- before both places of the copy is written. Where it is to be refused nothing is written, whatever it answers; and no more than the sectors
-- of the slots' copies ever are, with no more calls than these take. Where it is done no write or sync of any slot failed.
pub record IsLabelled {D : Type 0} (work : Work D) (large : Bool) (revision : Revision) (stamp : Stamp) (named : List ℕ) (answer : Answer) : Type 0 where
  pub outcome : Result (Unit {0}) Failure
  pub tried : IsTried work large revision stamp named outcome
  pub ends : IsToldLabel outcome answer
  pub unfailed : OnOk outcome ((slot : ℕ) → work.new.failed_writes slot ≡ work.old.failed_writes slot)
  pub any_moment : work.tells → StopsLeave work.old work.new (IsLeftFoundingAll work.old (label_slots work.old.sizes named) (label_copy large revision stamp work.old.sizes named))
  pub costs : WritesAtMost work (label_sectors (label_layout large work.old.sizes named) * length (label_slots work.old.sizes named))
  pub calls : work.new.calls ≤ work.old.calls + most_labelled (length (label_slots work.old.sizes named))
  pub refused : work.tells → (refusal : Refusal) → label_refusal large work.old.sizes work.old.held named ≡ Some refusal → ReadsOnly work.old work.new
