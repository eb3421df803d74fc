-- A word and a number that are appended where there is room for them.
use mathlib.Core.List.{List}
use Prim.Native.Nat.{ℕ, ◌+◌, ◌^◌, ◌≤◌, ◌<◌}
use native.Mathlib.Omega.{arith}
use lib.ListN.{length, length-append}
use Rattle.octets.specs.Bytes.{Appended}
use Rattle.octets.proofs.ByteLaws.{appended_put}
use Rattle.console.specs.Format.{decimal_of, field}
use Rattle.console.specs.Internal.Numbers.{number_bytes}
use Rattle.octets.specs.Internal.Put.{PutWithin}
use Rattle.console.proofs.DecimalLaws.{decimal_length}

-- a number of the code takes at most 20 bytes
pub number_length : (n : ℕ) → n < 2 ^ 64 → length (decimal_of n) ≤ number_bytes
number_length n h = decimal_length n 19 (omega arith)

pub field_within : {out : List ℕ} {at : ℕ} {r : ℕ} {after : List ℕ} (word : List ℕ) (n : ℕ) → n < 2 ^ 64 → at + length word + number_bytes ≤ length out
    → Appended out at (field word n) r after → PutWithin (at + length word + number_bytes) out at (field word n) r after
field_within {out} {at} {r} {after} word n h room a =
    let l = number_length n h in
    let e = length-append word (decimal_of n) in
    let p = appended_put (omega arith) a in
    let i = p.past in record { put = p; within = omega arith }
