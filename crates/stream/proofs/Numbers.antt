-- Laws of numbers as bits.
use mathlib.Core.Path.{◌≡◌, refl, sym, ap, ap₂, ◌∙◌}
use mathlib.Core.Bool.{Bool, true, false}
use mathlib.Core.List.{List, [], ◌∷◌, ◌++◌}
use Prim.Native.Nat.{ℕ, zero, suc, ◌+◌, ◌*◌, ◌/◌, ◌%◌, ◌^◌, ◌≤◌, ◌<◌}
use native.Mathlib.Nat.{zero-add, suc-add, add_comm, mod-lt, mod-eq_of_lt, mod-mod, zero-div, zero-mul, mul-le-mul_right, two-pow-succ}
use native.Mathlib.Numerals.{one-add}
use native.Mathlib.Omega.{arith}
use lib.ListN.{length, replicate, length-append}
use lib.Dec.{eqb}
use lib.Pow.{shr-shr, mod-pow-add, high, low, field, mod-mod-pow, pow-add}
use Rattle.stream.specs.Bits.{odd, bits_of, digit, value_of}
use Rattle.stream.specs.Promises.{Digits}

pub length_bits_of : (n x : ℕ) → length (bits_of n x) ≡ n
unfolding bits_of
length_bits_of zero x = refl
length_bits_of (suc n) x = ap suc (length_bits_of n _)

-- ---- one digit

digit_of : (r : ℕ) → r < 2 → digit (eqb r 1) ≡ r
unfolding digit
digit_of zero h = refl
digit_of (suc zero) h = refl
digit_of (suc (suc r)) h = omega arith

pub digit_odd : (x : ℕ) → digit (odd x) ≡ x % 2
unfolding odd
digit_odd x = digit_of (x % 2) (mod-lt x (omega arith))

odd_digit : (b : Bool) → odd (digit b) ≡ b
unfolding odd digit
odd_digit true = refl
odd_digit false = refl

odd_mod : (x : ℕ) → odd (x % 2) ≡ odd x
unfolding odd
odd_mod x = rw mod-mod

digit_le : (b : Bool) → digit b ≤ 1
unfolding digit
digit_le true = omega arith
digit_le false = omega arith

-- ---- many digits

-- a + b digits are the a from b on, then the b low ones
pub bits_of_add : (a b x : ℕ) → bits_of (a + b) x ≡ bits_of a (x / 2 ^ b) ++ bits_of b x
unfolding bits_of
bits_of_add zero b x = rw zero-add
bits_of_add (suc a) b x = rw (suc-add, shr-shr, add_comm b a) (ap (λ (l : List Bool). odd (x / 2 ^ (a + b)) ∷ l) (bits_of_add a b x))

-- the value of the n low digits is the remainder by 2 ^ n
pub value_bits_of : (n x : ℕ) → value_of (bits_of n x) ≡ x % 2 ^ n
unfolding bits_of value_of
value_bits_of zero x = omega arith
value_bits_of (suc n) x = rw (digit_odd, length_bits_of n x, value_bits_of n x, ← one-add n) (sym (mod-pow-add x 1 n))

-- the low n digits of a number taken modulo a higher power
mod_low : (n x : ℕ) → x % 2 ^ suc n % 2 ^ n ≡ x % 2 ^ n
mod_low n x = rw (← one-add n) (mod-mod-pow x 1 n)

-- only the n low digits count
pub bits_of_mod : (n x : ℕ) → bits_of n (x % 2 ^ n) ≡ bits_of n x
unfolding bits_of
bits_of_mod zero x = refl
bits_of_mod (suc n) x =
    ap₂ (λ (b : Bool) (l : List Bool). b ∷ l) (rw (← one-add n, field x 1 n) (odd_mod (x / 2 ^ n)))
    (sym (bits_of_mod n (x % 2 ^ suc n)) ∙ ap (bits_of n) (mod_low n x) ∙ bits_of_mod n x)

-- a number made of two parts: the digits of the one, then those of the other
pub bits_of_join : (a b hi lo : ℕ) → lo < 2 ^ b → bits_of (a + b) (hi * 2 ^ b + lo) ≡ bits_of a hi ++ bits_of b lo
bits_of_join a b hi lo h =
    bits_of_add a b (hi * 2 ^ b + lo)
    ∙ ap₂ (λ (x : ℕ) (l : List Bool). bits_of a x ++ l) (high hi b h)
    (sym (bits_of_mod b (hi * 2 ^ b + lo)) ∙ ap (bits_of b) (low hi b h))

pub bits_of_zero : (n : ℕ) → bits_of n 0 ≡ replicate n false
unfolding bits_of odd
bits_of_zero zero = refl
bits_of_zero (suc n) = ap₂ (λ (b : Bool) (l : List Bool). b ∷ l) (rw zero-div) (bits_of_zero n)

-- numbers that fit n digits and have the same ones are the same
pub bits_of_inj : (n x y : ℕ) → x < 2 ^ n → y < 2 ^ n → bits_of n x ≡ bits_of n y → x ≡ y
bits_of_inj n x y hx hy e =
    sym (mod-eq_of_lt hx) ∙ sym (value_bits_of n x) ∙ ap value_of e ∙ value_bits_of n y ∙ mod-eq_of_lt hy

pub value_lt : (bs : List Bool) → value_of bs < 2 ^ length bs
unfolding value_of
value_lt [] = omega arith
value_lt (b ∷ bs) = omega (arith, value_lt bs, mul-le-mul_right (2 ^ length bs) (digit_le b), two-pow-succ (length bs))

pub value_append : (f g : List Bool) → value_of (f ++ g) ≡ value_of f * 2 ^ length g + value_of g
unfolding value_of
value_append [] g = rw zero-mul (sym (zero-add (value_of g)))
value_append (b ∷ f) g = rw (length-append f g, value_append f g, pow-add 2 (length f) (length g)) (omega arith)

-- a list of digits is that of its value
pub bits_of_value : (bs : List Bool) → bits_of (length bs) (value_of bs) ≡ bs
unfolding bits_of value_of
bits_of_value [] = refl
bits_of_value (b ∷ bs) =
    ap₂ (λ (c : Bool) (l : List Bool). c ∷ l) (ap odd (high (digit b) (length bs) (value_lt bs)) ∙ odd_digit b)
    (sym (bits_of_mod (length bs) (digit b * 2 ^ length bs + value_of bs))
    ∙ ap (bits_of (length bs)) (low (digit b) (length bs) (value_lt bs))
    ∙ bits_of_value bs)

pub digits : Digits
digits = record { size = length_bits_of; number = value_bits_of; back = bits_of_value; below = value_lt; parts = bits_of_add }
