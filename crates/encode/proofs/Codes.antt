-- Codes and the layout's words.
use mathlib.Core.Path.{◌≡◌, refl, sym, ap, ◌∙◌, subst}
use mathlib.Core.Bool.{Bool, true, false, cond}
use mathlib.Core.List.{List, [], ◌∷◌, ◌++◌}
use Prim.Native.Nat.{ℕ, zero, suc, ◌+◌, ◌*◌, ◌%◌, ◌^◌, ◌≤◌, ◌<◌}
use native.Mathlib.Nat.{mod-eq_of_lt}
use native.Mathlib.Numerals.{add-one}
use native.Mathlib.Omega.{arith}
use lib.Arith.{digits_lt}
use lib.Pow.{pow-add, pow_mono}
use lib.IntN.{ℤ, pos, negsuc}
use lib.ListN.{get_or, drop, drop_of_length-le}
use lib.Seq.{drop-cons}
use mir.Syntax.{w64}
use mir.Val.{SFits, to_z, of_z}
use mir.Facts.{to_z-of_z}
use Rattle.stream.specs.Bits.{odd, bits_of}
use Rattle.stream.proofs.Numbers.{bits_of_join}
use Rattle.layout.specs.declared.Row.{Row}
use Rattle.layout.specs.Rows.{row7, row9, row12, row32, rows, row_at, fits, raw, Good}
use Rattle.layout.specs.Writing.{in_range, in_row, row_bits, dod_bits}
use Rattle.layout.proofs.Table.{at_any, good_at}

-- ---- rows

-- the first rows do not take a dod: it is written by those from i on
module _ (d : ℤ) (i : ℕ) (z : Row) (s : row_bits rows d ≡ row_bits (drop i rows) d) (h : i < 4) where
  abbrev here : Row
  here = get_or rows i z

  turn : (v : Bool) → fits here d ≡ v → row_bits rows d ≡ cond v (in_row here d) (row_bits (drop (i + 1) rows) d)
  unfolding row_bits
  turn v t = s ∙ ap (λ (l : List Row). row_bits l d) (drop-cons rows i z h) ∙ rw (t, add-one)

  good_here : Good here
  unfolding row_at
  good_here = subst Good (at_any rows i row32 z h) (good_at i)

  -- row i takes it: it is the first to do so
  pub row_here : (b : ℤ) → d ≡ b → fits here d ≡ true → (row_bits rows b ≡ in_row here b) × (fits here b ≡ true) × Good here
  row_here b e t = rw (← e) (turn true t, t, good_here)

  -- it does not
  pub row_next : fits here d ≡ false → row_bits rows d ≡ row_bits (drop (i + 1) rows) d
  row_next t = turn false t

-- what is in range is taken by one of them
some_bits : (b x : Bool) (l r : List Bool) → (r ≡ [] → ⊥) → cond b (x ∷ l) r ≡ [] → ⊥
some_bits true x l r n e = cc
some_bits false x l r n e = n e

last_bits : (b x : Bool) (l : List Bool) → b ≡ true → cond b (x ∷ l) [] ≡ [] → ⊥
last_bits true x l t e = cc
last_bits false x l t e = cc

pub one_takes : (d : ℤ) (i : ℕ) → in_range d ≡ true → row_bits rows d ≡ row_bits (drop i rows) d → 4 ≤ i → ⊥
unfolding row_bits in_row bits_of
one_takes d i t s h =
    let e : row_bits rows d ≡ [] = s ∙ ap (λ (l : List Row). row_bits l d) (drop_of_length-le rows h) in
    some_bits (fits row7 d) _ _ _ (some_bits (fits row9 d) _ _ _ (some_bits (fits row12 d) _ _ _ (last_bits (fits row32 d) _ _ t))) e

pub row_word : (r : Row) (d z : ℤ) (v : ℕ) → v ≡ raw r.width z → z ≡ d → bits_of r.prefix_len r.prefix ++ bits_of r.width v ≡ in_row r d
unfolding in_row
row_word r d z v e f = rw (e, f)

-- ---- joining

join_lt : (hi lo a n : ℕ) → hi < 2 ^ a → lo < 2 ^ n → hi * 2 ^ n + lo < 2 ^ (a + n)
join_lt hi lo a n h l = rw (pow-add 2 a n) (digits_lt h l)

module _ (hi lo a n : ℕ) (h : hi < 2 ^ a) (s : a + n ≤ 50) (l : lo < 2 ^ n) where
  joined : hi * 2 ^ n % 2 ^ 64 + lo ≡ hi * 2 ^ n + lo
  joined = ap (λ (x : ℕ). x + lo) (mod-eq_of_lt (omega (arith, join_lt hi lo a n h l, pow_mono {i = a + n} {j = 50} s)))

  pub joined_fits : hi * 2 ^ n % 2 ^ 64 + lo < 2 ^ 64
  joined_fits = rw joined (omega (arith, join_lt hi lo a n h l, pow_mono {i = a + n} {j = 50} s))

  pub joined_short : hi * 2 ^ n % 2 ^ 64 + lo < 2 ^ (a + n)
  joined_short = rw joined (join_lt hi lo a n h l)

  pub joined_word : bits_of (a + n) (hi * 2 ^ n % 2 ^ 64 + lo) ≡ bits_of a hi ++ bits_of n lo
  joined_word = rw joined (bits_of_join a n hi lo l)

-- ---- a dod

-- the test for 0 is made on the bits
pub zero_is : (d : ℤ) → SFits w64 d → of_z w64 d ≡ 0 → d ≡ pos 0
zero_is d f e = sym (to_z-of_z f) ∙ ap (to_z w64) e

pub dod_zero : (d : ℤ) → d ≡ pos 0 → bits_of 1 0 ≡ dod_bits d
unfolding dod_bits bits_of odd
dod_zero d e = rw e

dod_rows : (d : ℤ) → ¬ (d ≡ pos 0) → dod_bits d ≡ row_bits rows d
unfolding dod_bits
dod_rows (pos zero) n = absurd (n refl)
dod_rows (pos (suc a)) n = refl
dod_rows (negsuc a) n = refl

pub in_rows : (r : Row) (d : ℤ) → SFits w64 d → row_bits rows (to_z w64 (of_z w64 d)) ≡ in_row r (to_z w64 (of_z w64 d)) → (of_z w64 d ≡ 0 → ⊥)
    → in_row r (to_z w64 (of_z w64 d)) ≡ dod_bits d
in_rows r d f e n = sym e ∙ ap (row_bits rows) (to_z-of_z f) ∙ sym (dod_rows d (λ z. n (ap (of_z w64) z)))
