-- The field of a dod, once over its width; and the rows, which cite it.
use mathlib.Core.Path.{◌≡◌, refl, ap, ◌∙◌}
use Prim.Native.Nat.{ℕ, zero, suc, ◌-◌, ◌*◌, ◌^◌, ◌≤◌, ◌<◌}
use native.Mathlib.Nat.{pow-suc}
use native.Mathlib.Omega.{arith}
use mathlib.Core.Bool.{Bool, true, false}
use mathlib.Core.List.{List, [], ◌∷◌, ◌++◌}
use lib.Dec.{leb, lit≤}
use lib.Pow.{pow_pos}
use lib.IntN.{ℤ, pos, negsuc, nat_abs}
use lib.Signed.{le_z}
use borrow.Author.Tests.{leb-true, lt-ltb, le-ltb}
use Rattle.stream.specs.Bits.{odd, bits_of}
use Rattle.layout.specs.declared.Row.{Row}
use Rattle.layout.specs.Rows.{minus, within, row7, longer_rows, fits, in_field, raw, signed, Spans}
use Rattle.layout.specs.Promises.{FieldBack, FieldsBack, Every, RowsBack}
use Rattle.layout.proofs.Tests.{never, both}

double : (n : ℕ) → 1 ≤ n → 2 ^ n ≡ 2 ^ (n - 1) * 2
double n h = let e : n ≡ suc (n - 1) = omega arith in ap (λ (k : ℕ). 2 ^ k) e ∙ pow-suc 2 (n - 1)

-- ---- what lies between two ends, by the sign

upper : (lo : ℤ) (h a : ℕ) → within lo (pos h) (pos a) ≡ true → a ≤ h
unfolding within
upper lo h a e = leb-true a h (both (le_z lo (pos a)) (leb a h) e).1

lower : (m : ℕ) (hi : ℤ) (a : ℕ) → within (minus m) hi (negsuc a) ≡ true → suc a ≤ m
unfolding within
lower zero hi a e = never false e refl
lower (suc k) hi a e = omega (arith, leb-true a k (both (leb a k) (le_z (negsuc a) hi) e).0)

-- ---- the field

pub field_back : FieldsBack
unfolding raw signed
field_back n (pos a) h e =
    let small = upper _ _ a e in
    record {
      whole = omega (arith, double n h, pow_pos (n - 1));
      back = rw (le-ltb (2 ^ (n - 1)) a small);
    }
field_back n (negsuc a) h e =
    let small = lower (2 ^ (n - 1) - 1) _ a e in
    let twice = double n h in
    let kept : 2 ^ n - (2 ^ n - suc a) ≡ suc a = omega arith in
    record {
      whole = omega (arith, pow_pos n);
      back = rw (lt-ltb (2 ^ (n - 1)) (2 ^ n - suc a) (omega arith), kept);
    }

-- what a field takes is no larger than its numbers
pub field_size : (n : ℕ) (d : ℤ) → 1 ≤ n → in_field n d ≡ true → nat_abs d ≤ 2 ^ n
field_size n (pos a) h e = omega (arith, upper _ _ a e, double n h)
field_size n (negsuc a) h e = omega (arith, lower (2 ^ (n - 1) - 1) _ a e, double n h)

-- only the dod 0 has a field of 0
pub raw_some : (n : ℕ) (d : ℤ) → 1 ≤ n → in_field n d ≡ true → ¬ (d ≡ pos 0) → 0 < raw n d
unfolding raw
raw_some n (pos zero) h e z = absurd (z refl)
raw_some n (pos (suc a)) h e z = omega arith
raw_some n (negsuc a) h e z = omega (arith, lower (2 ^ (n - 1) - 1) _ a e, double n h)

-- ---- the table

pub in_row_lem : (r : Row) (d : ℤ) → Spans r → fits r d ≡ true → in_field r.width d ≡ true
in_row_lem r d s e = rw (s.lo, s.hi) at e

-- so what it takes comes back
pub span_back : (r : Row) (d : ℤ) → Spans r → fits r d ≡ true → FieldBack r.width d
span_back r d s e = field_back r.width d s.some (in_row_lem r d s e)

-- the control bits: behind those that are shared, `pre`, a row has 0 and the rows after it 1; the last has no more
abbrev pub Chain : List Bool → Row → List Row → Type 0
Chain pre r [] = Spans r × (bits_of r.prefix_len r.prefix ≡ pre)
Chain pre r (r' ∷ rs) = Spans r × (bits_of r.prefix_len r.prefix ≡ pre ++ (false ∷ [])) × Chain (pre ++ (true ∷ [])) r' rs

pub table : Chain (true ∷ []) row7 longer_rows
unfolding bits_of odd
table = (spans _ (lit≤ tt) refl refl, refl, (spans _ (lit≤ tt) refl refl, refl, (spans _ (lit≤ tt) refl refl, refl, (spans _ (lit≤ tt) refl refl, refl))))
  where
    spans : (r : Row) → 1 ≤ r.width → r.lowest ≡ minus (2 ^ (r.width - 1) - 1) → r.highest ≡ pos (2 ^ (r.width - 1)) → Spans r
    spans r some lo hi = record { some = some; lo = lo; hi = hi }

chain_back : (pre : List Bool) (r : Row) (rs : List Row) → Chain pre r rs → Every (λ (r : Row). (d : ℤ) → fits r d ≡ true → FieldBack r.width d) (r ∷ rs)
chain_back pre r [] t = (λ d e. span_back r d t.0 e, tt)
chain_back pre r (r' ∷ rs) t = (λ d e. span_back r d t.0 e, chain_back (pre ++ (true ∷ [])) r' rs t.2)

pub rows_back : RowsBack
rows_back = chain_back (true ∷ []) row7 longer_rows table
