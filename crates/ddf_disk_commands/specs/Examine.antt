-- What `examine` tells, and how it ends.
use Rattle.std.specs.Prelude.{◌≡◌, ◌⊎◌, ℕ, suc, ◌+◌, ◌*◌, ◌≤◌, List, [], ◌∷◌, ◌++◌, length, Bool, Result, IfOk, OnOk, slice_index, if◌then◌else◌}
use Rattle.std.specs.List.{list_any}
use Rattle.ddf_bytes.specs.Streams.{SinkState, TakesFront}
use Rattle.ddf_bay.specs.State.{BayState}
use Rattle.ddf_bay.specs.Sectors.{Image}
use Rattle.ddf_bay.specs.ReadsOnly.{AreFailed, LooksAt}
use Rattle.ddf_disk_commands.specs.declared.examining.Stop.{Stop}
use Rattle.ddf_answer.specs.Call.{Answer, Work}
use Rattle.ddf_answer.specs.Tells.{IsCutShort, Tells}
use Rattle.ddf_disk_commands.specs.Disk.{disk_view}
use Rattle.ddf_text.specs.Report.{fault_text, view_text}

-- the lines of a slot: that a call on it failed, or else what it shows
abbrev pub one_text : ℕ → Bool → List ℕ → Image → List ℕ
one_text slot failed sizes held =
    if failed then fault_text slot else view_text slot (slice_index sizes slot) (disk_view (slice_index sizes slot) (held slot))

-- the lines of so many slots, from one on
abbrev pub slots_text : ℕ → List Bool → List ℕ → Image → List ℕ
slots_text slot [] sizes held = []
slots_text slot (failed ∷ others) sizes held = one_text slot failed sizes held ++ slots_text (suc slot) others sizes held

-- some slot failed
abbrev pub some_failed : List Bool → Bool
some_failed failed = list_any (λ f. f) failed

-- the most calls on so many slots: the anchor of each is read, its two headers, and the 14 parts of its copies
abbrev pub most_examined : (slots : ℕ) → ℕ
most_examined slots = 17 * slots

-- What the slots showed was told, up to where memory or the output gave out.
pub record IsExamined {D : Type 0} (work : Work D) (answer : Answer) : Type 0 where
  pub failed : List Bool
  pub every_slot : length failed ≡ length work.old.sizes
  pub are_failed : AreFailed work.old work.new failed
  pub ends : (answer.status ≡ (if some_failed failed then 3 else 0)) ⊎ IsCutShort answer.status
  pub tells : work.tells → answer.tells → Tells answer (slots_text 0 failed work.old.sizes work.old.held)
  pub calls : work.new.calls ≤ work.old.calls + most_examined (length work.old.sizes)

-- The lines of one slot were told, or a front of them where memory or the output gave out.
pub record IsSlotShown {D : Type 0} (old new : BayState D) (slot : ℕ) (told : Type 0) (before after : SinkState) (result : Result Bool Stop) : Type 0 where
  pub failed : Bool
  pub look : LooksAt old new slot failed
  pub answer : IfOk result (λ answer. answer ≡ failed)
  pub whole : told → OnOk result (after.taken ≡ before.taken ++ one_text slot failed old.sizes old.held)
  pub front : told → TakesFront before after (one_text slot failed old.sizes old.held)
