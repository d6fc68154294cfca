-- Worked cases of points: which are alike, their order, and what comes back of a value's bits.
use Rattle.std.specs.Prelude.{◌≡◌, Bool, true, false, List, [], ◌∷◌, map, ℕ}
use Rattle.point.specs.Points.{same_of, time_order, to_stored, to_point}
use Rattle.std.specs.declared.cmp.Ordering.{Ordering}
use Rattle.std.specs.declared.cmp.Ordering.TheVariants.{Less, Equal, Greater}

pub data Case : Type 0 where
  -- two points, each a time and the bits of a value
  alike : (t a u b : ℕ) (expected : Bool) → Case
  -- two times
  order : (t u : ℕ) (expected : Ordering) → Case
  -- bits made a value, and the value's bits
  there : (a : ℕ) (expected : ℕ) → Case

pub data Seen : Type 0 where
  whether : Bool → Seen
  how : Ordering → Seen
  number : ℕ → Seen

unfoldable pub seen : Case → Seen
seen (alike t a u b e) = whether (same_of (to_point (record { time = t; bits = a })) (to_point (record { time = u; bits = b })))
seen (order t u e) = how (time_order t u)
seen (there a e) = number (to_stored (to_point (record { time = 0; bits = a }))).bits

unfoldable pub expected : Case → Seen
expected (alike t a u b e) = whether e
expected (order t u e) = how e
expected (there a e) = number e

unfoldable pub cases : List Case
cases =
    -- any two NaNs, whatever their signs and payloads; 0.0 and -0.0
    alike 5 0x7ff8000000000000 5 0xfff0000000000001 true
    ∷ alike 5 0x0000000000000000 5 0x8000000000000000 true
    -- a NaN and a number, on either side
    ∷ alike 5 0x7ff8000000000000 5 0x3ff0000000000000 false
    ∷ alike 5 0x3ff0000000000000 5 0x7ff8000000000000 false
    -- 1.0 and 1.0, 1.0 and 2.0, the infinities, the smallest number and 0.0
    ∷ alike 5 0x3ff0000000000000 5 0x3ff0000000000000 true
    ∷ alike 5 0x3ff0000000000000 5 0x4000000000000000 false
    ∷ alike 5 0x7ff0000000000000 5 0x7ff0000000000000 true
    ∷ alike 5 0x7ff0000000000000 5 0xfff0000000000000 false
    ∷ alike 5 0x0000000000000001 5 0x0000000000000000 false
    -- another time
    ∷ alike 5 0x3ff0000000000000 6 0x3ff0000000000000 false
    ∷ alike 5 0x7ff8000000000000 6 0x7ff8000000000000 false
    ∷ order 1 2 Less
    ∷ order 2 2 Equal
    ∷ order 3 2 Greater
    -- bits come back: -0.0, the smallest number, the largest, an infinity
    ∷ there 0x8000000000000000 0x8000000000000000
    ∷ there 0x0000000000000001 0x0000000000000001
    ∷ there 0x7fefffffffffffff 0x7fefffffffffffff
    ∷ there 0xfff0000000000000 0xfff0000000000000
    -- a NaN's do not: they are the one pattern
    ∷ there 0x7ff0000000000001 0x7ff8000000000000
    ∷ there 0xffffffffffffffff 0x7ff8000000000000
    ∷ []

-- `worked`
abbrev pub Worked : Type 0
Worked = map seen cases ≡ map expected cases
