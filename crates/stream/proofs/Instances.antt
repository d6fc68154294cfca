-- The promises at a few points each, by computing. The general proofs stand in the other files. A changed definition may break one of
-- them only because its text no longer fits; what breaks here is a promise that has become false.
use mathlib.Core.Path.{◌≡◌, refl, ap}
use mathlib.Core.Bool.{Bool, true, false}
use mathlib.Core.List.{List, [], ◌∷◌, map}
use Prim.Native.Nat.{ℕ}
use native.Mathlib.Omega.{arith}
use lib.ListN.{length, replicate}
use Rattle.stream.specs.Bits.{odd, bits_of, digit, value_of, bits, edge, spare, field, laid, replaced}

-- ---- `digits`: the low four bits of a number come back, and three digits

number_at : map (λ (x : ℕ). value_of (bits_of 4 x)) (0 ∷ 1 ∷ 6 ∷ 9 ∷ 17 ∷ []) ≡ 0 ∷ 1 ∷ 6 ∷ 9 ∷ 1 ∷ []
unfolding odd bits_of digit value_of
number_at = refl

digits_at : bits_of 3 (value_of (true ∷ false ∷ false ∷ [])) ≡ true ∷ false ∷ false ∷ []
unfolding odd bits_of digit value_of
digits_at = refl

-- ---- `bytes_are_bits`: two bytes have sixteen bits; 0 and 1 have other bits

bytes_at : length (bits (0 ∷ 255 ∷ [])) ≡ 16
unfolding bits_of bits
bytes_at = refl

one_at : ¬ (bits (0 ∷ []) ≡ bits (1 ∷ []))
unfolding odd bits_of digit value_of bits
one_at e = let z : ◌≡◌ {A = ℕ} 0 1 = ap value_of e in let y : ⊥ = omega arith in y

-- ---- `writes_leave`: over three bytes of ones: no bits at 3; six bits at 3; five bits that end the buffer

ones : List Bool
unfolding bits bits_of odd
ones = bits (255 ∷ 255 ∷ 255 ∷ [])

none_at : replaced ones 3 [] ≡ ones
unfolding ones odd bits_of bits edge laid replaced
none_at = refl

back_at : field (replaced ones 3 (bits_of 6 0b010011)) 3 6 ≡ bits_of 6 0b010011
unfolding ones odd bits_of bits edge field laid replaced
back_at = refl

rest_at : field (replaced ones 3 (bits_of 6 0)) 9 (spare 9) ≡ replicate (spare 9) false
unfolding ones odd bits_of bits edge field laid replaced
rest_at = refl

size_at : length (replaced ones 19 (bits_of 5 0)) ≡ length ones
unfolding ones odd bits_of bits edge laid replaced
size_at = refl
