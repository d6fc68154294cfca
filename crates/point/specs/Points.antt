-- Points: when two are alike, how they are ordered, and their two forms. Floats and their bits are as lib.Ieee has them.
use Rattle.std.specs.Prelude.{ℕ, Bool, cond, ◌&&◌, ◌||◌, eqb, ltb, Float}
use Rattle.std.specs.Float.Ieee.{eq, is_nan, to_bits, of_bits}
use Rattle.std.specs.Float.{binary64}
use Rattle.point.specs.declared.DataPoint.{DataPoint}
use Rattle.point.specs.declared.Stored.{Stored}
use Rattle.std.specs.declared.cmp.Ordering.{Ordering}
use Rattle.std.specs.declared.cmp.Ordering.TheVariants.{Less, Equal, Greater}

abbrev pub new_of : ℕ → Float → DataPoint
new_of time value = record { time = time; value = value }

-- equal times, and values that IEEE's == takes as equal or that are both NaN
abbrev pub same_of : DataPoint → DataPoint → Bool
same_of a b = eqb a.time b.time && (eq a.value b.value || (is_nan a.value && is_nan b.value))

-- the order of two points is that of their times
abbrev pub time_order : ℕ → ℕ → Ordering
time_order x y = cond (ltb x y) Less (cond (eqb x y) Equal Greater)

-- a point with its value's bits; lib.Ieee writes its one NaN as 0x7ff8000000000000
abbrev pub to_stored : DataPoint → Stored
to_stored p = record { time = p.time; bits = to_bits binary64 p.value }

-- a point with the value of its bits
abbrev pub to_point : Stored → DataPoint
to_point s = record { time = s.time; value = of_bits binary64 s.bits }
