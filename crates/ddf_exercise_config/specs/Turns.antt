-- The turns of an exercise, and the losses between them.

-- Blocks are written with the array on its first three disks, behind the loss of one of them, and behind that of another.
pub data Turn : Type 0 where
  Opening : Turn
  Middle : Turn
  Closing : Turn

-- The second disk is lost, and the fourth takes its place; then the third, and the fifth takes its place.
pub data Loss : Type 0 where
  OfSecond : Loss
  OfThird : Loss

-- the turn before a loss
abbrev pub turn_before : Loss → Turn
turn_before OfSecond = Opening
turn_before OfThird = Middle

-- the turn behind it
abbrev pub turn_behind : Loss → Turn
turn_behind OfSecond = Middle
turn_behind OfThird = Closing
