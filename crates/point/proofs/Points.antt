-- The promises of points.
use mathlib.Core.Path.{◌≡◌, refl, sym, ap, ◌∙◌}
use mathlib.Core.Bool.{true, or-true, and_self, not-or_self}
use Prim.Native.Nat.{ℕ}
use lib.Ieee.{Float, nan, inf, fin, eq, is_nan, binary64, to_bits, of_bits}
use lib.Ieee.Bits.{of_bits-to_bits, to_bits-of_bits, nan_bits_is}
use native.Mathlib.Omega.{arith}
use borrow.Author.Tests.{lt-ltb, le-ltb, eq-eqb, ne_eqb}
use Rattle.point.specs.Promises.{ThereAndBack, Alike, ByTime}
use Rattle.point.specs.Alike.{self_eq}

pub alike : Alike
alike = record {
  self = λ p. rw (eq-eqb p.time p.time refl, self_eq p.value, and_self (is_nan p.value)) (not-or_self (is_nan p.value));
  nans = λ p q e x y. rw (eq-eqb p.time q.time e, x, y) (or-true (eq p.value q.value));
}

is_nan_lem : (x : Float) → is_nan x ≡ true → x ≡ nan
unfolding is_nan
is_nan_lem nan e = refl
is_nan_lem (inf s) e = cc
is_nan_lem (fin s m d) e = cc

pub there_and_back : ThereAndBack
unfolding to_bits
there_and_back = record {
  bits_back = λ s h e. λ i. record { time = s.time; bits = to_bits-of_bits binary64 s.bits h (rw (sym (nan_bits_is binary64 s.bits) ∙ e) tt) i };
  nan_back = λ s e. λ i. record { time = s.time; bits = ap (to_bits binary64) (is_nan_lem (of_bits binary64 s.bits) (sym (nan_bits_is binary64 s.bits) ∙ e)) i };
  point_back = λ p h. λ i. record { time = p.time; value = of_bits-to_bits binary64 p.value h i };
}

pub by_time : (x y : ℕ) → ByTime x y
by_time x y = record {
  less = λ h. simp (lt-ltb x y h);
  equal = λ e. simp (le-ltb x y (omega arith), eq-eqb x y e);
  greater = λ h. simp (le-ltb x y (omega arith), ne_eqb x y (omega arith));
}
