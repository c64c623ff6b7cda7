-- Calls that only read the blocks of an array, where nothing refuses them and no slot of a seat fails.
use Rattle.std.proofs.Common.{◌≡◌, ◌∙◌, ◌⊎◌, ℕ, suc, ◌+◌, ◌≤◌, Bool, false, List, [], ◌∷◌, ◌++◌, length, map, replicate, Some, None, Result, Ok, Err, codes, refl, sym, ap, subst, inl, inr, ⊎_elim, arith, lit≤}
use Rattle.std.specs.Prelude.{slice_get, slice_index, slice_index_or}
use Rattle.std.specs.List.{flat_map, range_with_len}
use Rattle.ddf_lemmas.proofs.Options.{same_ok_value, same_some, none_some}
use Rattle.ddf_bytes.specs.Streams.{SinkState}
use Rattle.ddf_bay.specs.Memory.{disks_of, state_of}
use Rattle.ddf_bay.specs.ReadsOnly.{ReadsOnly}
use Rattle.ddf_bay.specs.Sectors.{Image}
use Rattle.ddf_bay.specs.declared.memory.MemoryBay.{MemoryBay}
use Rattle.ddf_update.specs.Group.{IsOneOf}
use Rattle.ddf_config.specs.declared.array.Array.{Array}
use Rattle.ddf_config.specs.declared.seat.Seat.{Seat}
use Rattle.ddf_config.specs.Configuration.{Configuration}
use Rattle.ddf_array.specs.Viewing.{view_of}
use Rattle.ddf_array.specs.declared.site.Site.{Site}
use Rattle.ddf_array.specs.Sources.{Source}
use Rattle.ddf_array.specs.Values.{value}
use Rattle.ddf_array.specs.Volume.{IsVolume, Volume}
use Rattle.ddf_read.specs.Reading.{Failed, HasSite, HasSlot, IsOn}
use Rattle.ddf_read.proofs.SourceSlots.{first_on}
use Rattle.ddf_cells.specs.Alike.{IsCell}
use Rattle.ddf_cells.proofs.Alike.{IsOfCells, depth_below, source_is_cells, whole_cells}
use Rattle.ddf_cells.proofs.Alike.IsOfCells.{of_copy, of_row}
use Rattle.ddf_resync.specs.Compared.{FailedOn, IsCompared}
use Rattle.ddf_resync.specs.Scrubbing.{IsScrubbed}
use Rattle.ddf_resync.specs.declared.outcome.Scrub.{Scrub}
use Rattle.ddf_resync.specs.declared.outcome.Scrub.TheVariants.{Clean}
use Rattle.ddf_pieces.specs.Pieces.{bytes_of}
use Rattle.ddf_group.specs.declared.answer.Assembly.{Assembly}
use Rattle.ddf_steps.specs.Committed.{slots_of}
use Rattle.ddf_seats.specs.Group.{GroupValue}
use Rattle.ddf_recovery.specs.Recovery.{trusted_seats}
use Rattle.ddf_request.specs.Named.{named_array}
use Rattle.ddf_answer.specs.declared.failure.Failure.{Failure}
use Rattle.ddf_answer.specs.declared.failure.Failure.TheVariants.{Conflict, Disk, Memory, Refused, Split}
use Rattle.ddf_answer.specs.Answers.{IsToldFailure}
use Rattle.ddf_answer.specs.Call.{Answer, Work, answer_of, work_of}
use Rattle.ddf_read_commands.specs.Read.{IsReadDone, IsReadIn, IsReadOf, IsReadTold, IsReadable, IsWithoutSource, Outcome, read_refusal}
use Rattle.ddf_read_commands.specs.Read.Outcome.{CutShort, NotRead, Stopped, Whole}
use Rattle.ddf_read_commands.specs.Scrub.{IsScrubDone, IsScrubIn, IsScrubOf, IsScrubTold, scrub_refusal, scrub_text}
use Rattle.ddf_recovery.proofs.Trusted.{trusted_all}
use Rattle.ddf_rebuild.proofs.Aiming.{cell_lies}
use Rattle.ddf_read_commands.proofs.Common.{read_memory}
use Rattle.ddf_uncut_group.specs.Settled.{AreSettledAs}
use Rattle.ddf_uncut_group.proofs.SettledStray.{not_stray}
use Rattle.ddf_uncut_data.specs.Blocks.{HoldsBlocks}
use Rattle.ddf_uncut_data.proofs.Held.{scrub_clean, value_blocks}
use Rattle.ddf_exercise_config.specs.Disks.{AreApart, Disks}
use Rattle.ddf_exercise_config.specs.Stages.{array, positions_at, seats_at, whole}
use Rattle.ddf_exercise_config.specs.Turns.{Turn}
use Rattle.ddf_exercise_config.specs.Views.{view_at}
use Rattle.ddf_exercise_config.specs.Words.{word}
use Rattle.ddf_exercise_config.proofs.Asked as wanted
use Rattle.ddf_exercise_config.proofs.Used as used
use Rattle.ddf_exercise_disks.specs.Ending.{EndsWell, unused}
use Rattle.ddf_exercise_disks.specs.Standing.{StandsAt}
use Rattle.ddf_exercise_disks.specs.Storing.{StoresAt, filled_with}
use Rattle.ddf_exercise_disks.specs.Well.{sizes_made}
use Rattle.ddf_exercise_disks.proofs.Clip.{memory_sectors}
use Rattle.ddf_exercise_disks.proofs.Healthy.{stays_well}
use Rattle.ddf_exercise_disks.proofs.Standing.{calm as calm_on, finds}
use Rattle.ddf_exercise_disks.proofs.WritingRoom.{cell_seat, place_seat}

-- ---- bytes

filled_from : (front bytes : List ℕ) (start : ℕ) (own : (k : ℕ) → slice_index (front ++ bytes) (start + k) ≡ slice_index bytes k)
    → map (filled_with (front ++ bytes)) (range_with_len start (length bytes)) ≡ map (λ (byte : ℕ). replicate 512 byte) bytes
filled_from front [] start own = refl
filled_from front (byte ∷ bytes) start own =
    let here : slice_index (front ++ byte ∷ bytes) start ≡ byte = ap (slice_index (front ++ byte ∷ bytes)) (let e : start ≡ start + 0 = omega arith in e) ∙ own 0 in
    let joined : front ++ byte ∷ bytes ≡ (front ++ byte ∷ []) ++ bytes = sym (append_one front byte bytes) in
    ap (λ (one : ℕ). replicate 512 one ∷ map (filled_with (front ++ byte ∷ bytes)) (range_with_len (start + 1) (length bytes))) here
    ∙ ap (λ (rest : List (List ℕ)). replicate 512 byte ∷ rest)
    (ap (λ (all : List ℕ). map (filled_with all) (range_with_len (start + 1) (length bytes))) joined
    ∙ filled_from (front ++ byte ∷ []) bytes (start + 1)
    (λ k. ap (λ (all : List ℕ). slice_index all (start + 1 + k)) (sym joined) ∙ ap (slice_index (front ++ byte ∷ bytes)) (let e : start + 1 + k ≡ start + suc k = omega arith in e) ∙ own (suc k)))
  where
    append_one : (front : List ℕ) (one : ℕ) (rest : List ℕ) → (front ++ one ∷ []) ++ rest ≡ front ++ one ∷ rest
    append_one [] one rest = refl
    append_one (first ∷ front) one rest = ap (λ (all : List ℕ). first ∷ all) (append_one front one rest)

-- blocks that are filled each with a byte, one after another
blocks_filled : (bytes : List ℕ) → map (filled_with bytes) (range_with_len 0 (length bytes)) ≡ map (λ (byte : ℕ). replicate 512 byte) bytes
blocks_filled bytes = filled_from [] bytes 0 (λ k. ap (slice_index bytes) (let e : 0 + k ≡ k = omega arith in e))

bytes_joined : (bytes : List ℕ) → bytes_of (map (λ (byte : ℕ). replicate 512 byte) bytes) ≡ flat_map (λ (byte : ℕ). replicate 512 byte) bytes
bytes_joined [] = refl
bytes_joined (byte ∷ bytes) = ap (λ (rest : List ℕ). replicate 512 byte ++ rest) (bytes_joined bytes)

-- ---- what a call finds

scrub_memory : (result : Result Scrub Failure) → (result ≡ Err Memory) ⊎ (result ≡ Err Memory → ⊥)
scrub_memory (Ok found) = inr (λ is. cc)
scrub_memory (Err (Refused refusal)) = inr (λ is. cc)
scrub_memory (Err (Disk slot)) = inr (λ is. cc)
scrub_memory (Err (Conflict i j sequence differ)) = inr (λ is. cc)
scrub_memory (Err (Split i j)) = inr (λ is. cc)
scrub_memory (Err Memory) = inl refl

-- ---- the sectors that a scrub compares

site_in : (slot : ℕ) (sites : List Site) → HasSite (λ other. other ≡ slot) sites → (k : ℕ) × (one : Site) × (slice_get sites k ≡ Some one) × (one.slot ≡ slot)
site_in slot [] has = absurd has
site_in slot (one ∷ sites) (inl here) = (0, one, refl, here)
site_in slot (one ∷ sites) (inr later) = let found = site_in slot sites later in (suc found.0, found.1, found.2, found.3)

of_source : (v : Volume) (slot : ℕ) (source : Source) → IsOfCells v source → HasSlot (λ other. other ≡ slot) source → (lba : ℕ) × IsCell v slot lba
of_source v slot source (of_copy one is) has = (one.lba, subst (λ (s : ℕ). IsCell v s one.lba) has is)
of_source v slot source (of_row sites are) has =
    let found = site_in slot sites has in (found.1.lba, subst (λ (s : ℕ). IsCell v s found.1.lba) found.3 (are found.0 found.1 found.2))

-- They are cells of the array.
compared_cell : (v : Volume) → IsVolume v → (slot : ℕ) → IsCompared v slot → (lba : ℕ) × IsCell v slot lba
compared_cell v known slot (inl of) = of_source v slot of.source (source_is_cells v known of.block of.number of.source of.is_source) of.is_on
compared_cell v known slot (inr of) =
    let found = site_in slot of.sites of.is_on in
    (found.1.lba, subst (λ (s : ℕ). IsCell v s found.1.lba) found.3 (whole_cells v known of.element of.part of.is_part of.sector of.sites (depth_below v known of.part of.sector of.deep) of.is_whole found.0 found.1 found.2))

module _ (name : List ℕ) (total asked : ℕ) (out : List Bool) (disks : Disks) (apart : AreApart disks) (guid : List ℕ) (turn : Turn) (sequence : ℕ) (bytes : List ℕ) (enough : asked ≤ total)
    (old new : MemoryBay) (stores : StoresAt name total asked out (whole name disks guid turn sequence) (seats_at disks turn) (view_at turn false) bytes old)
    (reads : ReadsOnly (disks_of old) (disks_of new)) where
  abbrev work : Work MemoryBay
  work = work_of (Unit {0}) (disks_of old) (disks_of new)

  abbrev seats : List Seat
  seats = seats_at disks turn

  abbrev config : Configuration
  config = whole name disks guid turn sequence

  abbrev stands : StandsAt name total asked out config seats old
  stands = stores.stands

  abbrev view : Volume
  view = view_at turn false

  few : (state_of new).asked ≤ asked
  few = let same = reads.none_asked in let before = stands.few in omega (arith, same, before)

  few_in_all : (state_of new).asked ≤ total
  few_in_all = let less = few in omega (arith, less, enough)

  -- They are as they were.
  pub stores_still : StoresAt name total asked out config seats view bytes new
  stores_still = record {
    stands = record {
      well = stays_well total out old new stands.well reads.goes_on few_in_all;
      few = few;
      group = stands.group;
      settled = subst (λ (held : Image). AreSettledAs sizes_made held out stands.group) (sym reads.same_held) stands.settled;
      plain = stands.plain;
      config_is = stands.config_is;
      seats_are = stands.seats_are;
      named = stands.named;
      here = stands.here;
    };
    holds = subst (λ (held : Image). HoldsBlocks view held (filled_with bytes)) (sym reads.same_held) stores.holds;
  }

  calm_seat : (slot : ℕ) → IsOneOf (slots_of seats) slot → Failed (disks_of old) (disks_of new) slot → ⊥
  calm_seat slot seat failed =
      calm_on name total asked out config seats old new stands reads.goes_on few_in_all slot (subst (λ (all : List Seat). IsOneOf (slots_of all) slot) (sym stands.seats_are) seat) (inl failed)

  calm : (slot : ℕ) → IsOn view slot → Failed (disks_of old) (disks_of new) slot → ⊥
  calm slot on failed = calm_seat slot (place_seat disks turn false slot on) failed

  -- Blocks may be read from each of its disks, since it is settled.
  trusted_are : trusted_seats stands.group ≡ seats
  trusted_are =
      let settled = stands.settled.is_told.is_settled in
      trusted_all stands.group settled.are_seated (not_stray stands.group settled) ∙ stands.seats_are

  -- The array that the word names is seen whole.
  seen_so : (entry : List ℕ × Array) (volume : Volume) → named_array stands.group.config.arrays word ≡ Some entry → view_of stands.group.config entry.0 (trusted_seats stands.group) ≡ Ok volume → volume ≡ view
  seen_so entry volume is_named is_view =
      let is : entry ≡ (guid, array (positions_at disks turn) 0 2) =
      same_some (named_array config.arrays word) entry (guid, array (positions_at disks turn) 0 2) (ap (λ (some : Configuration). named_array some.arrays word) (sym stands.config_is) ∙ is_named)
      (used.is_named guid (positions_at disks turn) 0 2) in
      same_ok_value (view_of config guid seats) volume view
      (sym
      (ap (λ (some : Configuration). view_of some entry.0 (trusted_seats stands.group)) stands.config_is
      ∙ ap (λ (one : List ℕ × Array). view_of config one.0 (trusted_seats stands.group)) is
      ∙ ap (λ (all : List Seat). view_of config guid all) trusted_are)
      ∙ is_view)
      (used.turn_view name disks apart guid 0 2 sequence turn)

  -- ---- a scrub

  module _ (after : SinkState) (status : ℕ) where
    abbrev answer : Answer
    answer = answer_of (Unit {0}) unused after status

    abbrev Still : Type 0
    Still = StoresAt name total asked out config seats view bytes new

    scrubs : scrub_refusal stands.group.config (trusted_seats stands.group) (named_array stands.group.config.arrays word) ≡ None
    scrubs =
        ap (λ (some : Configuration). scrub_refusal some (trusted_seats stands.group) (named_array some.arrays word)) stands.config_is
        ∙ ap (λ (all : List Seat). scrub_refusal config all (named_array config.arrays word)) trusted_are
        ∙ wanted.scrubs name disks apart guid sequence turn

    scrub_by : (result : Result Scrub Failure) → IsScrubOf work stands.group.config (trusted_seats stands.group) word result → IsScrubTold result answer → EndsWell answer (codes "clean\n") Still
    scrub_by (Ok found) is ends =
        let volume = seen_so (is.used.0, is.usable.array) is.used.1 is.usable.is_named is.usable.is_view in
        let clean : found ≡ Clean =
        scrub_clean view (disks_of old).held (filled_with bytes) found stores.holds (subst (λ (v : Volume). IsScrubbed v (disks_of old).held found) volume (is.scrubbed tt (memory_sectors old))) in
        ⊎_elim
        (λ zero. inr (inr (zero, (ends.tells tt).whole (omega (arith, zero)) ∙ ap (λ (one : Scrub). unused.taken ++ (scrub_text one ++ codes "\n")) clean, stores_still)))
        (λ short. ⊎_elim inl (λ six. inr (inl six)) short)
        ends.ends
    scrub_by (Err (Refused refusal)) is ends = absurd (none_some (scrub_refusal stands.group.config (trusted_seats stands.group) (named_array stands.group.config.arrays word)) refusal scrubs is)
    scrub_by (Err (Disk slot)) is ends =
        let volume = seen_so (is.used.0, is.usable.array) is.used.1 is.usable.is_named is.usable.is_view in
        let failed : FailedOn view (disks_of old) (disks_of new) slot = subst (λ (v : Volume). FailedOn v (disks_of old) (disks_of new) slot) volume is.stopped.1 in
        let cell = compared_cell view (used.is_volume_at turn false) slot failed.0 in
        let lies = cell_lies view slot cell.0 cell.1 in
        absurd (calm_seat slot (cell_seat disks turn false cell.1.element cell.1.position cell.1.sector slot cell.0 lies) failed.1)
    scrub_by (Err (Conflict i j sequence differ)) is ends = absurd is
    scrub_by (Err (Split i j)) is ends = absurd is
    scrub_by (Err Memory) is ends = inl ends.0

    pub scrub_stores : IsScrubDone work (Some name) word answer → EndsWell answer (codes "clean\n") Still
    scrub_stores done = ⊎_elim
        (λ memory. let told : IsToldFailure Memory answer = subst (λ (result : Result Scrub Failure). IsScrubTold result answer) memory done.ends in inl told.0)
        (λ ample.
        let is_found = finds name total asked out config seats old new stands reads.goes_on done.has.left done.has.newest done.has.every_slot done.has.failed (done.has.gone ample) (done.has.read tt) in
        scrub_by done.result (subst (λ (meaning : Result GroupValue Assembly). IsScrubIn work word meaning done.result) is_found done.has.gives) done.ends)
        (scrub_memory done.result)

    -- ---- a read of all blocks

    module _ (long : length bytes ≡ 8192) where
      abbrev text : List ℕ
      text = flat_map (λ (byte : ℕ). replicate 512 byte) bytes

      accepted : read_refusal stands.group.config (trusted_seats stands.group) (named_array stands.group.config.arrays word) 0 8192 ≡ None
      accepted =
          ap (λ (some : Configuration). read_refusal some (trusted_seats stands.group) (named_array some.arrays word) 0 8192) stands.config_is
          ∙ ap (λ (all : List Seat). read_refusal config all (named_array config.arrays word) 0 8192) trusted_are
          ∙ wanted.reads name disks apart guid sequence turn 0 8192 (lit≤ tt)

      has_source : (volume : Volume) (from many slot : ℕ) → IsReadable stands.group.config (trusted_seats stands.group) word 0 8192 volume → IsWithoutSource work volume from many slot → ⊥
      has_source volume from many slot readable without =
          let is : volume ≡ view = seen_so readable.entry volume readable.is_named readable.is_view in
          let left = without.none_left in
          let on = first_on volume (λ other. other ≡ slot) (from + left.block) left.none_left.is_of_first in
          calm on.0 (subst (λ (v : Volume). IsOn v on.0) is on.1.0) (subst (Failed (disks_of old) (disks_of new)) (sym on.1.1) left.none_left.this_failed)

      read_by : (outcome : Outcome) → IsReadOf work stands.group.config (trusted_seats stands.group) word 0 8192 outcome → IsReadTold outcome answer → EndsWell answer text Still
      read_by (Whole sectors) is ends =
          let volume : is.0 ≡ view = seen_so is.1.entry is.0 is.1.is_named is.1.is_view in
          let values = is.2.1.values tt (λ slot on failed. calm slot (subst (λ (v : Volume). IsOn v slot) volume on) failed) in
          let are : sectors ≡ map (filled_with bytes) (range_with_len 0 (length sectors)) =
          value_blocks view (disks_of old).held (filled_with bytes) 0 sectors stores.holds
          (λ k below. subst (λ (v : Volume). value v (disks_of old).held (0 + k) ≡ Some (slice_index_or sectors k [])) volume (values k below)) in
          let same : length sectors ≡ length bytes = is.2.0 ∙ sym long in
          let all : sectors ≡ map (λ (byte : ℕ). replicate 512 byte) bytes =
          are ∙ ap (λ (n : ℕ). map (filled_with bytes) (range_with_len 0 n)) same ∙ blocks_filled bytes in
          inr (inr (ends.ends, ends.tells tt ∙ ap (λ (one : List (List ℕ)). unused.taken ++ bytes_of one) all ∙ ap (λ (told : List ℕ). unused.taken ++ told) (bytes_joined bytes), stores_still))
      read_by (NotRead (Refused refusal)) is ends =
          absurd (none_some (read_refusal stands.group.config (trusted_seats stands.group) (named_array stands.group.config.arrays word) 0 8192) refusal accepted is)
      read_by (NotRead (Disk slot)) is ends = absurd (has_source is.0 0 _ slot is.1 is.2)
      read_by (NotRead (Conflict i j sequence differ)) is ends = absurd is.2
      read_by (NotRead (Split i j)) is ends = absurd is.2
      read_by (NotRead Memory) is ends = inl ends.0
      read_by (Stopped front slot) is ends = absurd (has_source is.0 _ _ slot is.1 is.2.2)
      read_by (CutShort front) is ends = inr (inl ends.0)

      pub read_stores : IsReadDone work (Some name) word 0 8192 answer → EndsWell answer text Still
      read_stores done = ⊎_elim
          (λ memory. let told : IsToldFailure Memory answer = subst (λ (outcome : Outcome). IsReadTold outcome answer) memory done.ends in inl told.0)
          (λ ample.
          let is_found = finds name total asked out config seats old new stands reads.goes_on done.has.left done.has.newest done.has.every_slot done.has.failed (done.has.gone ample) (done.has.read tt) in
          read_by done.outcome (subst (λ (meaning : Result GroupValue Assembly). IsReadIn work word 0 8192 meaning done.outcome) is_found done.has.gives) done.ends)
          (read_memory done.outcome)
