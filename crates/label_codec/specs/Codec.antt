-- The bytes of any label, range or tuple, valid or not, as other crates put them in bodies of their own: those of kinds 01 to 03 behind the kind,
-- where they fit. A number above 255 has no byte, and a byte that stood for it would be read as another number, so that such a value has no bytes.
use Rattle.std.specs.Prelude.{Bool, true, ◌&&◌, cond, List, [], ℕ, ◌+◌, min, leb}
use Rattle.common.specs.Index.{every}
use Rattle.label.specs.Region.{regions}
use Rattle.label.specs.Words.{words}
use Rattle.label.specs.declared.Label.{Label}
use Rattle.range.specs.Tuple
use Rattle.range.specs.declared.Range.{Range}
use Rattle.range.specs.declared.tuple.RegionRange.{RegionRange}
use Rattle.range.specs.declared.tuple.Tuple.{Tuple}
use Rattle.label_codec.specs.Body.{byte_at, label_bytes, range_bytes}
use Rattle.label_codec.specs.Tuples.{tuple_at, tuple_bytes}

-- how many words of a set stand in bytes for w words: all that it has, where w is more
abbrev pub width : ℕ → ℕ
width w = min w words

-- ---- what fits its bytes

-- each number of a label has a byte, and of a range
abbrev pub label_fits : Label → Bool
label_fits l = leb l.hierarchy 255

abbrev pub range_fits : Range → Bool
range_fits x = label_fits x.low && label_fits x.high

-- and of each range that is there in a tuple
abbrev pub region_fits : RegionRange → Bool
region_fits e = cond (Tuple.is_there e) (range_fits e.range) true

abbrev pub tuple_fits : Tuple → Bool
tuple_fits t = every (λ r. region_fits (Tuple.region_range_at t r)) regions

-- ---- bytes, with w words of a set

unfoldable pub label_code : ℕ → Label → List ℕ
label_code w l = cond (label_fits l) (label_bytes w l) []

unfoldable pub range_code : ℕ → Range → List ℕ
range_code w x = cond (range_fits x) (range_bytes w x) []

unfoldable pub tuple_code : ℕ → Tuple → List ℕ
tuple_code w t = cond (tuple_fits t) (tuple_bytes w t) []

-- ---- what stands at an index: beside `label_at` and `range_at`, the tuple whose byte of presence is there

abbrev pub tuple_from : ℕ → List ℕ → ℕ → Tuple
tuple_from w bs i = tuple_at w bs (byte_at bs i) (i + 1)
