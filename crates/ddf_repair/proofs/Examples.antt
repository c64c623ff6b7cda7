-- Examples of rebuilds that begin, and of what changes make of arrays.
use Rattle.std.proofs.Common.{◌≡◌, ℕ, Bool, true, false, List, [], ◌∷◌, Some, None, Ok, Err, refl, if◌then◌else◌}
use Rattle.ddf_config.specs.declared.member.Member.{Member}
use Rattle.ddf_config.specs.declared.member.SpareUse.{SpareUse}
use Rattle.ddf_config.specs.declared.member.SpareUse.TheVariants.{No, Global, Revertible, Dedicated}
use Rattle.ddf_config.specs.declared.element.Position.{Position}
use Rattle.ddf_config.specs.declared.array.Array.{Array}
use Rattle.ddf_config.specs.declared.seat.Seat.{Seat}
use Rattle.ddf_config.specs.Configuration.{Configuration}
use Rattle.ddf_config.specs.ElementValue.{ElementValue}
use Rattle.ddf_config.specs.Room.{least_start_of}
use Rattle.ddf_config.specs.declared.refusal.Refusal.TheVariants.{NotMember}
use Rattle.ddf_plan.specs.declared.change.Change.TheVariants.{Begin, Delete, Finish, Lose, Progress, Mark, Return, Rewind}
use Rattle.ddf_plan.specs.Changes.{after, changed}
use Rattle.ddf_plan.specs.Causes.{causes}
use Rattle.ddf_plan.specs.Floors.{extents_refusal}
use Rattle.ddf_repair.specs.declared.beginning.Begun.TheVariants.{Nothing, Fresh}
use Rattle.ddf_repair.specs.declared.beginning.RebuildFault.TheVariants.{NoSpare, Small}
use Rattle.ddf_repair.specs.Begin.{begun}
use Rattle.ddf_repair.specs.Choose.{chosen}
use Rattle.ddf_repair.specs.Accept.{accepted}

member : ℕ → Bool → SpareUse → Member
member size missing spare = record { guid = []; size = size; missing = missing; spare = spare }

at : ℕ → ℕ → Bool → Position
at reference start synced = record { reference = reference; start = start; synced = synced; row = 0 }

seat : ℕ → ℕ → ℕ → Seat
seat reference slot floor = record { reference = reference; slot = slot; floor = floor; bad = 0 }

mirror : ℕ → ℕ → List Position → ElementValue
mirror strip blocks positions = record { level = 1; qualifier = 0; strip = strip; blocks = blocks; stand_in = 0; positions = positions }

array : ElementValue → ℕ → Array
array plan state = record { name = []; number = 0; secondary = 0; elements = Some plan ∷ []; state = state; init = 0x42 }

-- needs 152 blocks, the spare has room for 151
small : Configuration
small = record {
  group = [];
  sequence = 5;
  members = (7, member 32687 false No) ∷ (8, member 32687 true No) ∷ (9, member 151 false Global) ∷ [];
  arrays = ((1 ∷ []), array (mirror 0 152 (at 7 0 true ∷ at 8 0 false ∷ [])) 1) ∷ [];
}

row_small : begun small (1 ∷ []) (seat 7 0 32687 ∷ seat 9 2 32687 ∷ []) [] ≡ Err (Small 152 151)
unfolding begun least_start_of small mirror array seat member at
row_small = refl

no_seat : begun small (1 ∷ []) (seat 7 0 32687 ∷ []) [] ≡ Err NoSpare
unfolding begun least_start_of small mirror array seat member at
no_seat = refl

-- two spares, the first one for another array, the second one global, with sectors 0 to 8 taken
other : Configuration
other = record {
  group = [];
  sequence = 5;
  members = (7, member 100 false No) ∷ (8, member 100 true No) ∷ (9, member 100 false (Dedicated ((2 ∷ []) ∷ []))) ∷ (10, member 100 false Global) ∷ (11, member 100 false (Dedicated ((1 ∷ []) ∷ []))) ∷ [];
  arrays = ((1 ∷ []), array (mirror 2 10 (at 7 0 true ∷ at 8 0 false ∷ [])) 1) ∷ ((2 ∷ []), array (mirror 0 9 (at 10 0 true ∷ at 11 0 true ∷ [])) 0) ∷ [];
}

takes_global : begun other (1 ∷ []) (seat 7 0 100 ∷ seat 9 1 100 ∷ seat 10 2 22 ∷ []) [] ≡ Ok (Fresh (record { element = 0; position = 1 }) (Begin (1 ∷ []) 0 1 10 12))
unfolding begun least_start_of other mirror array seat member at
takes_global = refl

takes_own : begun other (1 ∷ []) (seat 7 0 100 ∷ seat 9 1 100 ∷ seat 10 2 22 ∷ seat 11 3 100 ∷ []) [] ≡ Ok (Fresh (record { element = 0; position = 1 }) (Begin (1 ∷ []) 0 1 11 12))
unfolding begun least_start_of other mirror array seat member at
takes_own = refl

floor_too_low : begun other (1 ∷ []) (seat 7 0 100 ∷ seat 10 2 21 ∷ []) [] ≡ Err (Small 10 9)
unfolding begun least_start_of other mirror array seat member at
floor_too_low = refl

none_out : begun other (2 ∷ []) (seat 7 0 100 ∷ []) [] ≡ Ok Nothing
unfolding begun least_start_of other mirror array seat member at
none_out = refl

unmarked_none : accepted other (2 ∷ []) ≡ None
unfolding other array
unmarked_none = refl

second : List ℕ × Array
second = ((2 ∷ []), array (mirror 0 9 (at 10 0 true ∷ at 11 0 true ∷ [])) 0)

row_begin : (changed other (Begin (1 ∷ []) 0 1 10 12)).arrays ≡ ((1 ∷ []), array (mirror 2 10 (at 7 0 true ∷ at 10 12 false ∷ [])) 1) ∷ second ∷ []
unfolding other mirror array member at second
row_begin = refl

row_mark : (changed other (Mark (1 ∷ []))).arrays ≡ ((1 ∷ []), array (mirror 2 10 (at 7 0 true ∷ at 8 0 false ∷ [])) 17) ∷ second ∷ []
unfolding other mirror array member at second
row_mark = refl

-- a rebuild has set three rows
with_rows : Configuration
with_rows = record other { arrays = ((1 ∷ []), array (mirror 2 10 (at 7 0 true ∷ record (at 8 0 false) { row = 3 } ∷ [])) 1) ∷ second ∷ [] }

row_rewind : (changed with_rows (Rewind (1 ∷ []))).arrays ≡ ((1 ∷ []), array (mirror 2 10 (at 7 0 true ∷ at 8 0 false ∷ [])) 1) ∷ second ∷ []
unfolding with_rows other mirror array member at second
row_rewind = refl

row_finish : (changed other (Finish (1 ∷ []) 0 1)).arrays ≡ ((1 ∷ []), array (mirror 2 10 (at 7 0 true ∷ at 8 0 true ∷ [])) 0) ∷ second ∷ []
unfolding other mirror array member at second
row_finish = refl

-- the end of a rebuild on a disk that is missing
finish_lost : after other (Finish (1 ∷ []) 0 1) (seat 7 3 100 ∷ []) ≡ Err (NotMember 64)
unfolding after causes extents_refusal other mirror array seat member at second
finish_lost = refl

progress_lost : after other (Progress (1 ∷ []) 0 1 4) [] ≡ Err (NotMember 64)
unfolding after causes extents_refusal other mirror array seat member at second
progress_lost = refl

-- the only spare holds the other copy of the array
twice : Configuration
twice = record {
  group = [];
  sequence = 5;
  members = (7, member 100 false Global) ∷ (8, member 100 true No) ∷ [];
  arrays = ((1 ∷ []), array (mirror 0 10 (at 7 0 true ∷ at 8 0 false ∷ [])) 1) ∷ [];
}

not_twice : begun twice (1 ∷ []) (seat 7 0 100 ∷ []) [] ≡ Err NoSpare
unfolding begun least_start_of twice mirror array seat member at
not_twice = refl

-- a spare that is set aside is passed over: the array's own one gives way to the global one, and where no other is left there is none
sets_own_aside : begun other (1 ∷ []) (seat 7 0 100 ∷ seat 9 1 100 ∷ seat 10 2 22 ∷ seat 11 3 100 ∷ []) (11 ∷ []) ≡ Ok (Fresh (record { element = 0; position = 1 }) (Begin (1 ∷ []) 0 1 10 12))
unfolding begun least_start_of other mirror array seat member at
sets_own_aside = refl

sets_both_aside : begun other (1 ∷ []) (seat 7 0 100 ∷ seat 9 1 100 ∷ seat 10 2 22 ∷ seat 11 3 100 ∷ []) (10 ∷ 11 ∷ []) ≡ Err NoSpare
unfolding begun least_start_of other mirror array seat member at
sets_both_aside = refl

-- ---- revertible spares

-- the disk 10 is one, and takes the second position's place
reverting : Configuration
reverting = record other { members = (7, member 100 false No) ∷ (8, member 100 true No) ∷ (9, member 100 false No) ∷ (10, member 100 false Revertible) ∷ (11, member 100 false No) ∷ [] }

stood : ℕ → ℕ → List Position → ElementValue
stood stand_in strip positions = record (mirror strip 10 positions) { stand_in = stand_in }

row_stands : (changed reverting (Begin (1 ∷ []) 0 1 10 12)).arrays ≡ ((1 ∷ []), array (stood 10 2 (at 7 0 true ∷ at 10 12 false ∷ [])) 1) ∷ second ∷ []
unfolding reverting stood other mirror array member at second
row_stands = refl

-- the array as it is once the rebuild is done; its disk is asked back on 9 from sector 4 on
given : Bool → Configuration
given lone = record other {
  members = (7, member 100 false No) ∷ (8, member 100 true No) ∷ (9, member 100 false No) ∷ (10, member 100 false No) ∷ (11, member 100 false No) ∷ [];
  arrays = ((1 ∷ []), array (stood 10 2 (at 7 0 true ∷ at 10 12 true ∷ [])) 0) ∷ (if lone then [] else second ∷ []);
}

goes_back : chosen (given true) (1 ∷ []) (seat 7 0 100 ∷ seat 9 1 100 ∷ seat 10 2 100 ∷ []) ≡ Some (record { element = 0; position = 1 })
unfolding chosen given stood other mirror array seat member at
goes_back = refl

away_stays : chosen (given true) (1 ∷ []) (seat 7 0 100 ∷ seat 9 1 100 ∷ []) ≡ None
unfolding chosen given stood other mirror array seat member at
away_stays = refl

row_return : changed (given true) (Return (1 ∷ []) 0 1 9 4) ≡ record (given true) {
  sequence = 6;
  members = (7, member 100 false No) ∷ (8, member 100 true No) ∷ (9, member 100 false No) ∷ (10, member 100 false Revertible) ∷ (11, member 100 false No) ∷ [];
  arrays = ((1 ∷ []), array (mirror 2 10 (at 7 0 true ∷ at 9 4 true ∷ [])) 0) ∷ [];
}
unfolding given stood other mirror array member at
row_return = refl

-- the disk holds a part of another array too
row_kept : changed (given false) (Return (1 ∷ []) 0 1 9 4) ≡ record (given false) {
  sequence = 6;
  arrays = ((1 ∷ []), array (mirror 2 10 (at 7 0 true ∷ at 9 4 true ∷ [])) 0) ∷ second ∷ [];
}
unfolding given stood other mirror array member at second
row_kept = refl

-- a lost stand-in stands in no more
row_lost : (changed (given true) (Lose (10 ∷ []))).arrays ≡ ((1 ∷ []), array (mirror 2 10 (at 7 0 true ∷ at 10 12 false ∷ [])) 1) ∷ []
unfolding given stood other mirror array member at
row_lost = refl

-- the array is deleted: the disk that stood in there is a revertible spare again
row_delete : (changed (given true) (Delete (1 ∷ []))).members
    ≡ (7, member 100 false No) ∷ (8, member 100 true No) ∷ (9, member 100 false No) ∷ (10, member 100 false Revertible) ∷ (11, member 100 false No) ∷ []
unfolding given stood other mirror array member at
row_delete = refl
