-- What a batch does: its lines, one after another.
use Rattle.std.specs.Prelude.{◌≡◌, ◌⊎◌, ℕ, List, [], ◌∷◌, Option, Bool, true, false, ◌||◌, ◌==◌, nat_lt, codes, if◌then◌else◌}
use Rattle.std.specs.List.{list_any}
use Rattle.ddf_bytes.specs.declared.stamp.Stamp.{Stamp}
use Rattle.ddf_bytes.specs.Streams.{SinkRose, SinkState, SourceState}
use Rattle.ddf_bay.specs.State.{BayState}
use Rattle.ddf_words.specs.Words.{Word}
use Rattle.ddf_answer.specs.Call.{answer_of}
use Rattle.ddf_answer.specs.Tells.{ClosesWith}
use Rattle.ddf_words.specs.Input.{IsRead, IsUnread}
use Rattle.ddf_words.specs.declared.batch_input.BatchFault.TheVariants.{Failed, Long, Memory}
use Rattle.ddf_words.specs.Lines.{AreLines, numbered, parts_of}
use Rattle.ddf_batch.specs.Line.{IsLineRun, Point}

abbrev pub point : {B : Type 0} → B → SinkState → Point B
point bay output = record { bay = bay; output = output }

-- the statuses that a batch may end with
abbrev pub is_batch_status : ℕ → Bool
is_batch_status number = list_any (λ status. status == number) (0 ∷ 1 ∷ 3 ∷ 4 ∷ 5 ∷ 6 ∷ [])

-- what is printed where the input has more bytes than a batch
abbrev pub long_line : List ℕ
long_line = codes "refused 36 batch over 65536\n"

-- behind this status of a line the next one follows: it was done, it was refused, or it isn't a command's
abbrev pub goes_on : (code : ℕ) → Bool
goes_on code = nat_lt code 3

-- the status where all lines were run, and perhaps some of them refused
abbrev pub whole_status : (refused : Bool) → ℕ
whole_status refused = if refused then 1 else 0

-- Either what follows holds, or what ends the lines.
abbrev pub Going : (goes_on : Bool) → (follows ends : Type 0) → Type 0
Going true follows ends = follows
Going false follows ends = ends

module _ {B : Type 0} (tells : Type 0) (disks : B → BayState B) (told : Type 0) (stamp : Stamp) (group : Option (List ℕ)) (images : List Word) where
  -- a line was run: the paths of the images stand for their slots
  abbrev pub IsRun : (line : List ℕ) → (from to : Point B) → (code : ℕ) → Type 0
  IsRun line from to code = IsLineRun tells disks told stamp group (numbered images (parts_of line)) from to code

  -- The lines were run from one moment to another, the call of each beginning where that before it ended: the others follow, or the status of this one is
  -- the whole's. `refused` tells whether an earlier one wasn't done.
  abbrev pub AreLinesRun : (lines : List (List ℕ)) → (from to : Point B) → (refused : Bool) → (status : ℕ) → Type 0
  AreLinesRun [] from to refused status = (to ≡ from) × (status ≡ whole_status refused)
  AreLinesRun (line ∷ lines) from to refused status =
      (next : Point B) × (code : ℕ) × IsRun line from next code
      × Going (goes_on code) (AreLinesRun lines next to (refused || nat_lt 0 code) status) ((to ≡ next) × (status ≡ code))

  -- `reads` is that the input tells what is left.
  module _ (reads : Type 0) (input_old input_new : SourceState) (from to : Point B) (status : ℕ) where
    -- The whole input was read, and then its lines were run.
    pub record RanLines : Type 0 where
      pub text : List ℕ
      pub read : IsRead reads input_old input_new text
      pub lines : List (List ℕ)
      pub are_lines : AreLines text lines
      pub ran : AreLinesRun lines from to false status

    -- It had more bytes than a batch, and that was told.
    pub record WasLong : Type 0 where
      pub is_long : IsUnread reads input_old input_new Long
      pub ends : ClosesWith 1 long_line (answer_of told from.output to.output status)
      pub stream : status ≡ 6 → SinkRose from.output to.output
      pub same_bay : to.bay ≡ from.bay

    -- It couldn't be read, and nothing was told.
    pub record WasUnread : Type 0 where
      pub cause : ((status ≡ 6) × IsUnread reads input_old input_new Failed) ⊎ ((status ≡ 5) × IsUnread reads input_old input_new Memory)
      pub same : to ≡ from

    -- what came of a batch
    abbrev pub IsBatchRun : Type 0
    IsBatchRun = RanLines ⊎ WasLong ⊎ WasUnread
