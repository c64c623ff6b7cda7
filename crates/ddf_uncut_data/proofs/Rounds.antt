-- What the blocks of an array have behind the rounds of a rebuild.
use Rattle.std.proofs.Common.{◌≡◌, ◌∙◌, inr, ℕ, suc, ◌≤◌, List, [], ◌∷◌, ◌++◌, Some, refl, sym, ap, arith, length, slice_get}
use Rattle.ddf_bay.specs.Sectors.{Image}
use Rattle.ddf_array.specs.declared.part.Part.{Part}
use Rattle.ddf_array.specs.Sound.{AreSectors}
use Rattle.ddf_array.specs.Volume.{Volume}
use Rattle.ddf_read.specs.Reading.{Failed}
use Rattle.ddf_rebuild.specs.Target.{IsOut, row_count}
use Rattle.ddf_repair.specs.declared.first.Target.{Target}
use Rattle.ddf_data_array.specs.Changing.{in_sync}
use Rattle.ddf_data_array.specs.Rows.{AreAlikeThroughout, GoesOnBehind, IsFirstOut}
use Rattle.ddf_seats.specs.Group.{GroupValue}
use Rattle.ddf_answer.specs.Call.{Work}
use Rattle.ddf_rebuild_command.specs.Asked.{rows_in}
use Rattle.ddf_rebuild_command.specs.Notes.{notes}
use Rattle.ddf_rebuild_command.specs.Planned.{IsPlanned, first_row}
use Rattle.ddf_rebuild_command.specs.Rebuilt.{AreRoundsDone}
use Rattle.ddf_rebuild_command.specs.Rounds.{AreRounds, IsFilled, Round, row_before, rows_of}
use Rattle.ddf_uncut_data.specs.Aside.{LieAside}
use Rattle.ddf_uncut_data.specs.Blocks.{HoldsBlocks}
use Rattle.ddf_uncut_data.specs.Going.{GoOn}
use Rattle.ddf_uncut_data.proofs.Held.{holds_same, is_redundant_now}
use Rattle.ddf_uncut_data.proofs.Rebuild.{AreSet, filled_sectors, holds_finished, rows_counted, set_filled, set_same}

module _ (failed : ℕ → Type 0) (told : Type 0) (tell : told) (sizes : List ℕ) (v : Volume) (target : Target) (blocks : ℕ → List ℕ) where
  -- what rounds begin with has sectors of 512 bytes
  pub first_sectors : (rounds : List Round) (from : ℕ) (before after : Image) → AreSectors after → AreRounds failed told sizes v target from before rounds after → AreSectors before
  first_sectors [] from before after are done slot lba = ap length (sym (done slot lba)) ∙ are slot lba
  first_sectors (round ∷ rounds) from before after are done slot lba = (done.1).are_sectors tell slot lba

  round_set : (from to : ℕ) (before filled : Image) → AreSectors filled → GoesOnBehind v target.element target.position from → IsFilled failed told v target from to before filled
      → AreSet v target.element target.position blocks from before → AreSet v target.element target.position blocks to filled
  round_set from to before filled are behind is set =
      set_filled v target.element target.position blocks from to before filled are behind is.stays
      (is.rebuilt (inr (set.holds.kept.sound.are_sectors, is_redundant_now v before blocks set.holds))) set

  pub rounds_set : (rounds : List Round) → ((number : ℕ) (round : Round) → slice_get rounds number ≡ Some round → LieAside sizes v (round.step ∷ [])) → (from : ℕ)
      → ((number : ℕ) → GoesOnBehind v target.element target.position (row_before from rounds number)) → (before after : Image) → AreSectors after
      → AreRounds failed told sizes v target from before rounds after → AreSet v target.element target.position blocks from before
      → AreSet v target.element target.position blocks (row_before from rounds (length rounds)) after
  rounds_set [] aside from behind before after are done set =
      set_same v target.element target.position blocks from before after are (λ element position sector slot lba lies. sym (done slot lba)) set
  rounds_set (round ∷ rounds) aside from behind before after are done set =
      let filled = done.0 in
      let written = done.2 in
      let same : AreAlikeThroughout v filled written = aside 0 round refl filled written done.3 in
      let later : AreSectors written = first_sectors rounds round.row written after are done.4 in
      let filled_are : AreSectors filled =
      filled_sectors v target.element target.position blocks from round.row before filled written set.holds.is_volume (done.1).stays ((done.1).are_sectors tell) later same in
      rounds_set rounds (λ number other at. aside (suc number) other at) round.row (λ number. behind (suc number)) written after are done.4
      (set_same v target.element target.position blocks round.row filled written later same (round_set from round.row before filled filled_are (behind 0) done.1 set))

  -- Behind them the position is in sync, where they fill all its rows.
  pub holds_rounds : (rounds : List Round) → ((number : ℕ) (round : Round) → slice_get rounds number ≡ Some round → LieAside sizes v (round.step ∷ [])) → (from : ℕ) → GoOn v target from rounds
      → IsOut v target.element target.position → IsFirstOut v target.element target.position → ((part : Part) → slice_get v.parts target.element ≡ Some part → row_count part.shape ≤ row_before from rounds (length rounds))
      → (before after : Image) → AreSectors after → AreRounds failed told sizes v target from before rounds after → HoldsBlocks v before blocks
      → HoldsBlocks (in_sync target.element target.position v) after blocks
  holds_rounds rounds aside from goes out first all before after are done holds =
      let set = rounds_set rounds aside from goes.behind before after are done (record { holds = holds; rows = rows_counted v target.element target.position from before blocks holds goes.counted }) in
      holds_finished v after blocks target.element target.position (row_before from rounds (length rounds)) out first all set.rows set.holds

-- ---- the rounds of a plan

last_row : (from : ℕ) (rounds : List Round) (rows : List ℕ) (last : ℕ) → rows_of rounds ≡ rows ++ last ∷ [] → row_before from rounds (length rounds) ≡ last
last_row from [] [] last is = absurd (cc)
last_row from [] (row ∷ rows) last is = absurd (cc)
last_row from (round ∷ []) [] last is = cc
last_row from (round ∷ (next ∷ rounds)) [] last is = absurd (cc)
last_row from (round ∷ rounds) (row ∷ rows) last is = let rest : rows_of rounds ≡ rows ++ last ∷ [] = cc in last_row round.row rounds rows last rest

pub holds_rebuilt : {D : Type 0} (work : Work D) (found : GroupValue) (timestamp : ℕ) (word : List ℕ) (plan : IsPlanned found timestamp word) (blocks : ℕ → List ℕ) → work.new.tells_left
    → LieAside work.old.sizes plan.volume plan.first → ((number : ℕ) (round : Round) → slice_get plan.rounds number ≡ Some round → LieAside work.old.sizes plan.volume (round.step ∷ []))
    → GoOn plan.volume plan.target (first_row plan) plan.rounds → IsFirstOut plan.volume plan.target.element plan.target.position → AreSectors work.new.held → AreRoundsDone work found plan
    → HoldsBlocks plan.volume work.old.held blocks → HoldsBlocks (in_sync plan.target.element plan.target.position plan.volume) work.new.held blocks
holds_rebuilt work found timestamp word plan blocks tell aside each goes first are done holds =
    let rows = rows_in plan.entry.1 plan.target.element in
    let failed = Failed work.old work.new in
    let before_are = first_sectors failed work.new.tells_left tell work.old.sizes plan.volume plan.target blocks plan.rounds (first_row plan) done.before work.new.held are done.rounds_done in
    let all : row_before (first_row plan) plan.rounds (length plan.rounds) ≡ rows = last_row (first_row plan) plan.rounds (notes plan.kept rows) rows plan.rows_are in
    holds_rounds failed work.new.tells_left tell work.old.sizes plan.volume plan.target blocks plan.rounds each (first_row plan) goes plan.is_out first
    (λ part at. let same = plan.all_rows part at in omega (arith, same, all)) done.before work.new.held are done.rounds_done
    (holds_same plan.volume work.old.held done.before blocks before_are (aside work.old.held done.before done.first_written) holds)
