-- Bytes that are put in a buffer at an index, for functions that know that they fit.
use Rattle.std.specs.Prelude.{List, ◌≡◌, ℕ, ◌+◌, ◌≤◌, length}
use Rattle.octets.specs.Bytes.{put_at}

-- the bytes bs were put in out at index at, and r is the index past them
pub record Put (out : List ℕ) (at : ℕ) (bs : List ℕ) (r : ℕ) (after : List ℕ) : Type 0 where
  pub past : r ≡ at + length bs
  pub written : after ≡ put_at out at bs

-- the bytes bs were put in out at index at, and r, the index past them, is at most limit
pub record PutWithin (limit : ℕ) (out : List ℕ) (at : ℕ) (bs : List ℕ) (r : ℕ) (after : List ℕ) : Type 0 where
  pub put : Put out at bs r after
  pub within : r ≤ limit
