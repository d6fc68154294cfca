-- Signed numbers between their bits and their values: a difference made in 128 bits, and the field of a dod.
use mathlib.Core.Path.{◌≡◌, refl, ap, ◌∙◌}
use mathlib.Core.Bool.{Bool, true, false, cond}
use Prim.Native.Nat.{ℕ, zero, suc, ◌+◌, ◌-◌, ◌%◌, ◌^◌, ◌<◌, ◌≤◌}
use native.Mathlib.Nat.{mod-eq_of_lt}
use native.Mathlib.Omega.{arith}
use lib.IntN.{ℤ, pos, negsuc, nat_abs, ◌-ℤ◌, sub_ℕ}
use lib.Signed.{le_z, mag}
use lib.Dec.{ltb, leb}
use lib.Pow.{not_mod}
use mir.Syntax.{w64, w128}
use mir.Val.{SFits, to_z, of_z}
use mir.Facts.{to_z-of_z, to_z_pos}
use borrow.Author.Tests.{le-ltb, leb-true}
use Rattle.std.specs.Prelude.{Some, None}
use Rattle.layout.specs.Rows.{within, raw}
use Rattle.layout.specs.Writing.{in_range}
use Rattle.layout.proofs.Tests.{by_bool, both, and_never}
use Rattle.encode.specs.Parts.{dod_for}

-- ---- a difference of two numbers

sub_is : (d p : ℕ) → (pos d -ℤ pos p) ≡ sub_ℕ d p
sub_is d zero = rw (le-ltb d 0 (omega arith)) (ap pos (omega arith))
sub_is d (suc p) = refl

sub_fits : (d p : ℕ) → d < 2 ^ 64 → p < 2 ^ 64 → SFits w128 (sub_ℕ d p)
sub_fits d p h k =
    record { sfits = by_bool (λ (b : Bool). mag (cond b (negsuc (p - suc d)) (pos (d - p))) < 2 ^ 127) (ltb d p) (λ t. omega arith) (λ t. omega arith) }

wide : (n : ℕ) (z : ℤ) → z ≡ pos n → n < 2 ^ 64 → to_z w128 (of_z w128 z) ≡ pos n
wide n z e h = rw e (to_z_pos w128 (omega arith))

module _ (d p : ℕ) (a b : ℤ) (e : a ≡ pos d) (f : b ≡ pos p) (h : d < 2 ^ 64) (k : p < 2 ^ 64) where
  difference : (to_z w128 (of_z w128 a) -ℤ to_z w128 (of_z w128 b)) ≡ sub_ℕ d p
  difference = rw (wide d a e h, wide p b f k) (sub_is d p)

  pub machine_sub : to_z w128 (of_z w128 (to_z w128 (of_z w128 a) -ℤ to_z w128 (of_z w128 b))) ≡ sub_ℕ d p
  machine_sub = rw difference (to_z-of_z (sub_fits d p h k))

-- ---- a dod, if it is in range

pub range_fits : (z : ℤ) → in_range z ≡ true → SFits w64 z
unfolding within
range_fits (pos a) t = record { sfits = omega (arith, leb-true a 2147483648 (both true (leb a 2147483648) t).1) }
range_fits (negsuc a) t = record { sfits = omega (arith, leb-true a 2147483646 (both (leb a 2147483646) true t).0) }

module _ (d p : ℕ) (z : ℤ) (e : z ≡ sub_ℕ d p) where
  pub dod_taken : le_z (negsuc 2147483646) z ≡ true → le_z z (pos 2147483648) ≡ true → Some (to_z w64 (of_z w64 z)) ≡ dod_for d p
  unfolding dod_for within
  dod_taken f g =
      let t : in_range z ≡ true = rw (f, g) in
      rw (to_z-of_z (range_fits z t), ← e, t)

  pub dod_low : le_z (negsuc 2147483646) z ≡ false → None ≡ dod_for d p
  unfolding dod_for within
  dod_low f = rw (← e, f)

  pub dod_high : le_z z (pos 2147483648) ≡ false → None ≡ dod_for d p
  unfolding dod_for within
  dod_high f = rw (← e, and_never _ _ f)

-- ---- the field of a dod

pub field_is : (n : ℕ) (d : ℤ) → n ≤ 32 → nat_abs d ≤ 2 ^ n → raw n d < 2 ^ n → of_z w64 d % 2 ^ n ≡ raw n d
unfolding raw
field_is n (pos a) h k b = mod-eq_of_lt b
field_is n (negsuc a) h k b =
    let e : 64 - n + n ≡ 64 = omega arith in
    let f : 2 ^ 64 - suc a ≡ 2 ^ (64 - n + n) - 1 - a = rw e (omega arith) in
    ap (λ (x : ℕ). x % 2 ^ n) f ∙ not_mod (64 - n) n (omega arith) ∙ omega arith
