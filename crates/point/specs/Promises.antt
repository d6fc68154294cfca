-- What is promised of points.
use Rattle.std.specs.Prelude.{◌≡◌, true, false, ℕ, ◌^◌, ◌<◌, T}
use Rattle.std.specs.Float.Ieee.{fits, is_nan, nan_bits}
use Rattle.std.specs.Float.{binary64}
use Rattle.point.specs.Points.{same_of, time_order, to_stored, to_point}
use Rattle.point.specs.declared.DataPoint.{DataPoint}
use Rattle.point.specs.declared.Stored.{Stored}
use Rattle.std.specs.declared.cmp.Ordering.TheVariants.{Less, Equal, Greater}

-- `there_and_back`: what the two forms keep
pub record ThereAndBack : Type 0 where
  -- every bit, for each pattern that is no NaN's
  pub bits_back : (s : Stored) → s.bits < 2 ^ 64 → nan_bits binary64 s.bits ≡ false → to_stored (to_point s) ≡ s
  -- of a NaN's pattern, that it is one
  pub nan_back : (s : Stored) → nan_bits binary64 s.bits ≡ true → to_stored (to_point s) ≡ record { time = s.time; bits = 0x7ff8_0000_0000_0000 }
  -- the whole point, for each value that an f64 has
  pub point_back : (p : DataPoint) → T (fits binary64 p.value) → to_point (to_stored p) ≡ p

-- `alike`
pub record Alike : Type 0 where
  -- a point and itself, a NaN too
  pub self : (p : DataPoint) → same_of p p ≡ true
  -- any two NaNs at one time
  pub nans : (p q : DataPoint) → p.time ≡ q.time → is_nan p.value ≡ true → is_nan q.value ≡ true → same_of p q ≡ true

-- `by_time`: the order looks at the times alone
pub record ByTime (x y : ℕ) : Type 0 where
  pub less : x < y → time_order x y ≡ Less
  pub equal : x ≡ y → time_order x y ≡ Equal
  pub greater : y < x → time_order x y ≡ Greater
