-- What bytes are placed at an offset leave of each byte.
use Rattle.std.proofs.Common.{◌≡◌, ℕ, ◌+◌, ◌-◌, ◌<◌, ◌≤◌, List, length, get_or, arith}
use Rattle.std.proofs.lemmas.List.{places}
use Rattle.ddf_bytes.specs.Bytes.{bytes_at}
use Rattle.ddf_seal.specs.Unread.{placed}

pub length-placed : (bytes : List ℕ) (at : ℕ) (new : List ℕ) → at + length new ≤ length bytes → length (placed bytes at new) ≡ length bytes
unfolding placed
length-placed bytes at new h = grind (arith, places)

pub get_or-placed_below : (bytes : List ℕ) (at : ℕ) (new : List ℕ) (i d : ℕ) → at + length new ≤ length bytes → i < at → get_or (placed bytes at new) i d ≡ get_or bytes i d
unfolding placed
get_or-placed_below bytes at new i d h lt = grind (arith, places)

pub get_or-placed_in : (bytes : List ℕ) (at : ℕ) (new : List ℕ) (i d : ℕ) → at + length new ≤ length bytes → at ≤ i → i < at + length new → get_or (placed bytes at new) i d ≡ get_or new (i - at) d
unfolding placed
get_or-placed_in bytes at new i d h le lt = grind (arith, places)

pub get_or-placed_above : (bytes : List ℕ) (at : ℕ) (new : List ℕ) (i d : ℕ) → at + length new ≤ length bytes → at + length new ≤ i → get_or (placed bytes at new) i d ≡ get_or bytes i d
unfolding placed
get_or-placed_above bytes at new i d h le = grind (arith, places)

pub length-bytes_at : (bytes : List ℕ) (at size : ℕ) → at + size ≤ length bytes → length (bytes_at bytes at size) ≡ size
length-bytes_at bytes at size h = grind (arith, places)

pub get_or-bytes_at : (bytes : List ℕ) (at size i d : ℕ) → i < size → get_or (bytes_at bytes at size) i d ≡ get_or bytes (at + i) d
get_or-bytes_at bytes at size i d lt = grind (arith, places)
