-- Hashes of names, which tell most names apart without reading them, and a bitmap filter of hashes. No promise rests on how good they are: where
-- two hashes are the same, which is a collision, the names themselves are compared.
use Rattle.std.specs.Prelude.{Bool, true, false, cond, ◌||◌, List, [], ◌∷◌, ◌≡◌, ℕ, ◌+◌, ◌*◌, ◌/◌, ◌%◌, ◌^◌, ◌<◌, min, eqb, leb, get_or, length, set, take}
use Rattle.std.specs.Int.Bits.{bit_or}
use Rattle.common.specs.Index.{some_below, tabulate}
use Rattle.label.specs.Words.{bit}
use Rattle.octets.specs.Bytes.{same_bytes}
use Rattle.alias_entry.specs.Entry.{abbreviation_bytes, name_bytes}
use Rattle.alias_entry.specs.declared.Entry.{Entry}
use Rattle.alias.specs.declared.filter.Filter.{Filter}
use Rattle.alias.specs.declared.hash.Hashes.{Hashes}
use Rattle.alias.specs.declared.hash.LineHashes.{LineHashes}
use Rattle.alias.specs.Lines.{entry_at, max_lines}

-- the modulus is 2 ^ 48. The multiplier is below 2 ^ 16, so that the product and a byte fit a word of 64 bits; near 2 ^ 16, so that a byte soon
-- counts in the high bits; and odd, so that multiplying by it modulo 2 ^ 48 takes no two hashes to the same
abbrev pub hash_modulus : ℕ
hash_modulus = 281474976710656

abbrev pub hash_multiplier : ℕ
hash_multiplier = 65491

-- a hash with one byte more
abbrev pub next_hash : ℕ → ℕ → ℕ
next_hash hash b = hash % hash_modulus * hash_multiplier + b

unfoldable pub hash_from : ℕ → List ℕ → ℕ
hash_from hash [] = hash
hash_from hash (b ∷ bs) = hash_from (next_hash hash b) bs

-- 2 ^ 32: a hash is kept in 32 bits, of which a loop compares several at a time
abbrev pub folded_modulus : ℕ
folded_modulus = 4294967296

-- the halves of a word in one: their sum, modulo 2 ^ 32, so that all bits count
abbrev pub folded_hash : ℕ → ℕ
folded_hash hash = (hash / folded_modulus + hash % folded_modulus) % folded_modulus

-- the hash of bytes: any function of them would do
unfoldable pub hash_of : List ℕ → ℕ
hash_of bs = folded_hash (hash_from (length bs) bs)

-- an entry's other name: its abbreviation, and its name where that is empty
unfoldable pub other_bytes : Entry → List ℕ
other_bytes e = cond (leb 1 (length (abbreviation_bytes e))) (abbreviation_bytes e) (name_bytes e)

-- so many of n entries have hashes
abbrev pub hashed_count : ℕ → ℕ
hashed_count n = min n max_lines

abbrev pub name_hash : List Entry → ℕ → ℕ
name_hash es k = hash_of (name_bytes (entry_at es k))

abbrev pub other_hash : List Entry → ℕ → ℕ
other_hash es k = hash_of (other_bytes (entry_at es k))

-- whether an entry has its name as its abbreviation too
abbrev pub repeats_within : Entry → Bool
repeats_within e = same_bytes (name_bytes e) (abbreviation_bytes e)

-- none of the first n entries has
abbrev pub NoneWithin : List Entry → ℕ → Type 0
NoneWithin es n = (k : ℕ) → k < n → repeats_within (entry_at es k) ≡ false

-- the hashes of an entry's names, and whether its name may be its abbreviation too
pub record HashesOf (e : Entry) (h : LineHashes) : Type 0 where
  pub name_is : h.name ≡ hash_of (name_bytes e)
  pub other_is : h.other ≡ hash_of (other_bytes e)
  pub within : h.unclear ≡ false → repeats_within e ≡ false

-- the same of the first n entries: the first n of each are the hashes of their names, and of their other names
pub record HashesKept (es : List Entry) (n : ℕ) (h : Hashes) : Type 0 where
  pub name : take n h.names ≡ tabulate (name_hash es) n
  pub other : take n h.others ≡ tabulate (other_hash es) n
  pub within : h.unclear ≡ false → NoneWithin es n

-- a collision: whether one of the hashes a and b is one of c and d
abbrev pub collide : ℕ → ℕ → ℕ → ℕ → Bool
collide a b c d = (eqb a c || eqb b c) || (eqb a d || eqb b d)

abbrev pub collide_at : Hashes → ℕ → ℕ → Bool
collide_at h k j = collide (get_or h.names j 0) (get_or h.others j 0) (get_or h.names k 0) (get_or h.others k 0)

-- whether entry k, by its hashes, may have a name in common with an earlier entry: one that has no hashes may
unfoldable pub collides_before : Hashes → ℕ → Bool
collides_before h k = leb max_lines k || some_below (collide_at h k) k

abbrev pub NoneCollide : Hashes → ℕ → Type 0
NoneCollide h n = (k : ℕ) → k < n → collides_before h k ≡ false

-- ---- a bitmap filter of the hashes so far: a bit for each remainder of a hash, in so many words of 64 bits. A hash whose bit is not set is none
-- of them. With 16,384 bits for at most 1,024 hashes, one in sixteen is set at most
abbrev pub filter_words : ℕ
filter_words = 256

-- whether the bit of a hash is set
abbrev pub in_filter : Filter → ℕ → Bool
in_filter f hash = bit (get_or f.words (hash / 64 % filter_words) 0) (hash % 64)

-- with the bit of one more hash
abbrev pub with_hash : Filter → ℕ → Filter
with_hash f hash = record { words = set f.words (hash / 64 % filter_words) (bit_or (get_or f.words (hash / 64 % filter_words) 0) (2 ^ (hash % 64))) }

-- the bits of the hashes of the first k entries are set
pub record Filtered (h : Hashes) (k : ℕ) (f : Filter) : Type 0 where
  pub size : length f.words ≡ filter_words
  pub name : (j : ℕ) → j < k → in_filter f (get_or h.names j 0) ≡ true
  pub other : (j : ℕ) → j < k → in_filter f (get_or h.others j 0) ≡ true
