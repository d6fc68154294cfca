-- Laws of bytes as bits.
use mathlib.Core.Path.{◌≡◌, refl, sym, ap, ap₂, ◌∙◌}
use mathlib.Core.Bool.{Bool}
use mathlib.Core.List.{List, [], ◌∷◌, ◌++◌, append_assoc}
use Prim.Native.Nat.{ℕ, zero, suc, ◌+◌, ◌*◌, ◌<◌}
use native.Mathlib.Omega.{arith}
use lib.ListN.{length, take, drop, get_or, length-append}
use lib.Seq.{take_at, drop_at, take-nil, drop-nil, take-append-add, drop-append-add, drop-cons}
use Rattle.stream.specs.Bits.{bits_of, bits}
use Rattle.stream.specs.Promises.{AreBytes, BytesAreBits}
use Rattle.stream.proofs.Numbers.{length_bits_of, bits_of_inj}

pub length_bits : (l : List ℕ) → length (bits l) ≡ 8 * length l
unfolding bits
length_bits [] = refl
length_bits (x ∷ l) = rw (length-append (bits_of 8 x) (bits l), length_bits_of 8 x, length_bits l) (omega arith)

pub bits_cons : (x : ℕ) (l : List ℕ) → bits (x ∷ l) ≡ bits_of 8 x ++ bits l
unfolding bits
bits_cons x l = refl

pub bits_append : (l m : List ℕ) → bits (l ++ m) ≡ bits l ++ bits m
unfolding bits
bits_append [] m = refl
bits_append (x ∷ l) m = rw (bits_append l m) (sym (append_assoc (bits_of 8 x) (bits l) (bits m)))

-- two lists of bytes with the same bits are the same
pub bits_inj : (l m : List ℕ) → AreBytes l → AreBytes m → bits l ≡ bits m → l ≡ m
unfolding bits
bits_inj [] [] hl hm e = refl
bits_inj [] (y ∷ m) hl hm e = absurd (omega (arith, ap length e, length_bits (y ∷ m)))
bits_inj (x ∷ l) [] hl hm e = absurd (omega (arith, ap length e, length_bits (x ∷ l)))
bits_inj (x ∷ l) (y ∷ m) hl hm e =
    ap₂ (λ (a : ℕ) (k : List ℕ). a ∷ k)
    (bits_of_inj 8 x y (hl 0) (hm 0)
    (sym (take_at (bits_of 8 x) (bits l) 8 (length_bits_of 8 x)) ∙ ap (take 8) e ∙ take_at (bits_of 8 y) (bits m) 8 (length_bits_of 8 y)))
    (bits_inj l m (λ i. hl (suc i)) (λ i. hm (suc i))
    (sym (drop_at (bits_of 8 x) (bits l) 8 (length_bits_of 8 x)) ∙ ap (drop 8) e ∙ drop_at (bits_of 8 y) (bits m) 8 (length_bits_of 8 y)))

-- a byte, then what lies behind it
one_more : (k : ℕ) → 8 * suc k ≡ 8 + 8 * k
one_more k = omega arith

take_byte : (a b : List Bool) (m : ℕ) → length a ≡ 8 → take (8 + m) (a ++ b) ≡ a ++ take m b
take_byte a b m e = rw (← e) (take-append-add a b m)

drop_byte : (a b : List Bool) (m : ℕ) → length a ≡ 8 → drop (8 + m) (a ++ b) ≡ drop m b
drop_byte a b m e = rw (← e) (drop-append-add a b m)

pub bits_take : (k : ℕ) (l : List ℕ) → bits (take k l) ≡ take (8 * k) (bits l)
unfolding bits
bits_take zero l = refl
bits_take (suc k) [] = sym (take-nil (8 * suc k))
bits_take (suc k) (b ∷ l) =
    rw (one_more k, take_byte (bits_of 8 b) (bits l) (8 * k) (length_bits_of 8 b)) (ap (λ (m : List Bool). bits_of 8 b ++ m) (bits_take k l))

pub bits_drop : (k : ℕ) (l : List ℕ) → bits (drop k l) ≡ drop (8 * k) (bits l)
unfolding bits
bits_drop zero l = refl
bits_drop (suc k) [] = sym (drop-nil (8 * suc k))
bits_drop (suc k) (b ∷ l) = rw (one_more k, drop_byte (bits_of 8 b) (bits l) (8 * k) (length_bits_of 8 b)) (bits_drop k l)

-- the bits from byte i on
pub bits_at : (i : ℕ) (l : List ℕ) → i < length l → drop (8 * i) (bits l) ≡ bits_of 8 (get_or l i 0) ++ bits (drop (suc i) l)
bits_at i l h = sym (bits_drop i l) ∙ ap bits (drop-cons l i 0 h) ∙ bits_cons (get_or l i 0) (drop (suc i) l)

pub bytes_are_bits : BytesAreBits
bytes_are_bits = record { size = length_bits; one = bits_inj; first = bits_take; rest = bits_drop }
