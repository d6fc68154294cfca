-- The worked cases, by computing.
use mathlib.Core.Path.{refl}
use lib.Ieee.{eq, is_nan, to_bits, of_bits}
use Rattle.point.specs.Cases.{seen, expected, cases, Worked}

pub worked : Worked
unfolding eq is_nan to_bits of_bits seen expected cases
worked = refl
