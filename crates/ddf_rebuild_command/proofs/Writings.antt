-- Steps that are written one after another, and what a stop leaves on the way of all.
use Rattle.std.proofs.Common.{◌≡◌, ℕ, List, [], ◌∷◌, ◌++◌, refl, sym, ap, subst, ◌∙◌, inl, inr, ⊎_elim}
use Rattle.std.proofs.Math.Path.{fun_ext}
use Rattle.ddf_lemmas.proofs.Lists.{first_get, in_second}
use Rattle.ddf_bay.specs.Sectors.{Image, IsLeft}
use Rattle.ddf_bay.specs.State.{BayState, size_of}
use Rattle.ddf_view.specs.View.{View, view_of}
use Rattle.ddf_history.specs.Reading.{Shown}
use Rattle.ddf_history.specs.Reading.Shown.{One}
use Rattle.ddf_steps.specs.Steps.{Step}
use Rattle.ddf_group_commands.specs.Change.{last_sequence}
use Rattle.ddf_group_commands.specs.Writing.{IsLeftWriting, IsStepsSector, IsWrittenOn}
use Rattle.ddf_group_commands.specs.Written.{AreWritten}
use Rattle.ddf_group_commands.proofs.LeftWriting.{ShowsFrom, writing_by}
use Rattle.ddf_seats.specs.Group.{floor_of}
use Rattle.ddf_seats.specs.declared.seated.Seated.{Seated}

-- ---- more steps

on_first : (steps more : List Step) (slot : ℕ) → IsWrittenOn steps slot → IsWrittenOn (steps ++ more) slot
on_first steps more slot on = record {
  number = on.number;
  step = on.step;
  is_step = first_get steps more on.number on.step on.is_step;
  place = on.place;
  disk = on.disk;
  is_disk = on.is_disk;
  on_slot = on.on_slot;
}

on_last : (steps more : List Step) (slot : ℕ) → IsWrittenOn more slot → IsWrittenOn (steps ++ more) slot
on_last steps more slot on =
    let at = in_second steps more on.number on.step on.is_step in
    record { number = at.0; step = on.step; is_step = at.1; place = on.place; disk = on.disk; is_disk = on.is_disk; on_slot = on.on_slot }

-- Where each slot that some steps write is one that others write too.
module _ (steps more : List Step) (each : (slot : ℕ) → IsWrittenOn steps slot → IsWrittenOn more slot)
    (same : (slot : ℕ) (on : IsWrittenOn steps slot) → (each slot on).disk ≡ on.disk) where
  shows_more : (slot : ℕ) (before after : Shown View) → ShowsFrom steps slot before after → ShowsFrom more slot before after
  shows_more slot before after (inl still) = inl still
  shows_more slot before after (inr (inl part)) = inr (inl part)
  shows_more slot before after (inr (inr new)) =
      inr (inr (each slot new.0, new.1 ∙ ap (λ disk. One (view_of disk.copy)) (sym (same slot new.0))))

  sector_more : (size slot l : ℕ) → IsStepsSector size steps slot l → IsStepsSector size more slot l
  sector_more size slot l is = record { on = each slot is.on; update = is.update; is_prepared = rw (same slot is.on) is.is_prepared; is_in = is.is_in }

  left_more : {D : Type 0} (start : BayState D) (image : Image) → IsLeftWriting start steps image → IsLeftWriting start more image
  left_more start image writing = record {
    before = writing.before;
    is_left = writing.is_left;
    shows = λ slot. shows_more slot _ _ (writing.shows slot);
    outside = λ slot l. ⊎_elim inl (λ is. inr (sector_more (size_of start slot) slot l is)) (writing.outside slot l);
    floors = λ slot floor has own. writing.floors slot floor has (λ on. ap (λ (disk : Seated). floor_of disk.copy) (sym (same slot on)) ∙ own (each slot on));
  }

pub writing_first : {D : Type 0} (start : BayState D) (steps more : List Step) (image : Image) → IsLeftWriting start steps image → IsLeftWriting start (steps ++ more) image
unfolding on_first
writing_first start steps more image writing = left_more steps (steps ++ more) (on_first steps more) (λ slot on. refl) start image writing

pub writing_last : {D : Type 0} (start : BayState D) (steps more : List Step) (image : Image) → IsLeftWriting start more image → IsLeftWriting start (steps ++ more) image
unfolding on_last
writing_last start steps more image writing = left_more more (steps ++ more) (on_last steps more) (λ slot on. refl) start image writing

-- ---- one behind another

-- What is left behind other steps.
pub writing_then : {D : Type 0} (old middle : BayState D) (steps more : List Step) (image : Image) → middle.sizes ≡ old.sizes → IsLeftWriting middle more image
    → ((before : Image) → IsLeft middle.may_hold before → IsLeftWriting old steps before) → IsLeftWriting old (steps ++ more) image
writing_then old middle steps more image same_sizes next earlier =
    let now = writing_last middle steps more image next in
    writing_by old middle (steps ++ more) image same_sizes now (writing_first old steps more now.before (earlier now.before now.is_left))

-- ---- what was written

-- from the same disks
from_same : (sizes : List ℕ) (one other after : Image) (steps : List Step) → ((s l : ℕ) → one s l ≡ other s l) → AreWritten sizes one steps after → AreWritten sizes other steps after
from_same sizes one other after steps same written =
    subst (λ (image : Image). AreWritten sizes image steps after) (fun_ext (λ s. fun_ext (λ l. same s l))) written

pub written_then : (sizes : List ℕ) (before middle after : Image) (steps more : List Step) → AreWritten sizes before steps middle → AreWritten sizes middle more after
    → AreWritten sizes before (steps ++ more) after
written_then sizes before middle after [] more first last = from_same sizes middle before after more first last
written_then sizes before middle after (step ∷ steps) more first last = (first.0, first.1, written_then sizes first.0 middle after steps more first.2 last)

pub last_then : (sequence : ℕ) (steps more : List Step) → last_sequence sequence (steps ++ more) ≡ last_sequence (last_sequence sequence steps) more
last_then sequence [] more = refl
last_then sequence (step ∷ steps) more = last_then step.config.sequence steps more
