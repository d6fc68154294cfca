-- Laws of a field taken out of its bytes: a byte's bits at a time, and out of a word of 64 bits.
use mathlib.Core.Path.{◌≡◌, refl, sym, ap, ap₂, ◌∙◌}
use mathlib.Core.Bool.{Bool}
use mathlib.Core.List.{List, [], ◌∷◌, ◌++◌, append_assoc}
use Prim.Native.Nat.{ℕ, suc, ◌+◌, ◌-◌, ◌*◌, ◌/◌, ◌%◌, ◌^◌, ◌≤◌, ◌<◌}
use native.Mathlib.Nat.{add-zero, mod-eq_of_lt, lt_of_lt_of_le, min-le_left, one-mul, sub-zero}
use native.Mathlib.Omega.{arith}
use lib.ListN.{length, take, drop, get_or, length-take, length-drop}
use lib.Seq.{take_at, drop_at, length-take-le, drop-drop, take-add}
use lib.Arith.{digits_lt}
use lib.Pow.{high, low, pow-add, pow_pos, pow-lt, pow_mono, mod-pow-add, shl_exact, shl-shr}
use Rattle.std.specs.Int.{w64, from_be_bytes}
use Rattle.stream.specs.Bits.{bits_of, value_of, bits, field}
use Rattle.stream.proofs.Numbers.{length_bits_of, bits_of_add, value_bits_of, value_lt, value_append}
use Rattle.stream.proofs.Bytes.{bits_at, length_bits}

-- `1 << c`
pub one_shl : (c w : ℕ) → c < w → (1 * 2 ^ c) % 2 ^ w ≡ 2 ^ c
one_shl c w h = rw one-mul (mod-eq_of_lt (pow-lt h))

-- ---- fields and their values

pub length_field : (bs : List Bool) (p n : ℕ) → p + n ≤ length bs → length (field bs p n) ≡ n
unfolding field
length_field bs p n h = length-take-le n (drop p bs) (rw length-drop (omega arith))

-- a value of n digits
pub field_lt : (bs : List Bool) (p n : ℕ) → value_of (field bs p n) < 2 ^ n
unfolding field
field_lt bs p n = lt_of_lt_of_le (value_lt (take n (drop p bs))) (pow_mono (rw length-take (min-le_left n (length (drop p bs)))))

-- a field of a + b bits is one of a and the b behind it
field_add : (bs : List Bool) (p a b : ℕ) → field bs p (a + b) ≡ field bs p a ++ field bs (p + a) b
unfolding field
field_add bs p a b = rw (take-add a b (drop p bs), drop-drop a p bs)

-- its value, the value of the high part and that of the low part
module _ (bs : List Bool) (p a b : ℕ) (h : p + (a + b) ≤ length bs) where
  pub field_both : value_of (field bs p (a + b)) ≡ value_of (field bs p a) * 2 ^ b + value_of (field bs (p + a) b)
  field_both = rw (field_add bs p a b, value_append (field bs p a) (field bs (p + a) b), length_field bs (p + a) b (omega arith))

  pub field_high : value_of (field bs p (a + b)) / 2 ^ b ≡ value_of (field bs p a)
  field_high = rw field_both (high (value_of (field bs p a)) b (field_lt bs (p + a) b))

  pub field_low : value_of (field bs p (a + b)) % 2 ^ b ≡ value_of (field bs (p + a) b)
  field_low = rw field_both (low (value_of (field bs p a)) b (field_lt bs (p + a) b))

-- ---- within one byte

-- the c digits behind the first k of k + (c + r)
middle : (k c r x : ℕ) (rest : List Bool) → take c (drop k (bits_of (k + (c + r)) x ++ rest)) ≡ bits_of c (x / 2 ^ r)
middle k c r x rest =
    rw (bits_of_add k (c + r) x, bits_of_add c r x, append_assoc (bits_of k (x / 2 ^ (c + r))), append_assoc (bits_of c (x / 2 ^ r)))
    (ap (take c) (drop_at (bits_of k (x / 2 ^ (c + r))) _ k (length_bits_of k _)) ∙ take_at (bits_of c (x / 2 ^ r)) _ c (length_bits_of c _))

-- c bits at p that lie in one byte
byte_field : (l : List ℕ) (p c : ℕ) → 0 < c → p % 8 + c ≤ 8 → p + c ≤ 8 * length l
    → field (bits l) p c ≡ bits_of c (get_or l (p / 8) 0 / 2 ^ (8 - p % 8 - c))
unfolding field
byte_field l p c some fit h =
    let place : 8 * (p / 8) + p % 8 ≡ p = omega arith in
    let eight : p % 8 + (c + (8 - p % 8 - c)) ≡ 8 = omega arith in
    ap (take c) (ap (λ (n : ℕ). drop n (bits l)) (sym place) ∙ sym (drop-drop (p % 8) (8 * (p / 8)) (bits l))
    ∙ ap (drop (p % 8)) (bits_at (p / 8) l (omega arith)))
    ∙ rw eight at (middle (p % 8) c (8 - p % 8 - c) (get_or l (p / 8) 0) (bits (drop (suc (p / 8)) l)))

-- a number of c digits is the value of its digits
value_of_digits : (c x y : ℕ) → x < 2 ^ c → bits_of c x ≡ bits_of c y → x ≡ value_of (bits_of c y)
value_of_digits c x y h e = sym (mod-eq_of_lt h) ∙ sym (value_bits_of c x) ∙ ap value_of e

-- `(v << c) + x`
module _ (v c x : ℕ) (hc : c ≤ 64) (hv : v < 2 ^ (64 - c)) (hx : x < 2 ^ c) where
  both : 64 - c + c ≡ 64
  both = omega arith

  shl_small : v * 2 ^ c % 2 ^ 64 ≡ v * 2 ^ c
  shl_small = shl_exact (64 - c) c 64 hv (omega arith)

  pub shl_sum : v * 2 ^ c % 2 ^ 64 + x < 2 ^ 64
  shl_sum = rw shl_small (rw (← (pow-add 2 (64 - c) c), both) at (digits_lt hv hx))

-- v, and the c digits at p behind it
pub more_value : (l : List ℕ) (p c v x w : ℕ) → 0 < c → p % 8 + c ≤ 8 → p + c ≤ 8 * length l → v < 2 ^ (64 - c) → w ≡ get_or l (p / 8) 0
    → x < 2 ^ c → bits_of c x ≡ bits_of c (w / 2 ^ (8 - p % 8 - c)) → v * 2 ^ c % 2 ^ 64 + x ≡ v * 2 ^ c + value_of (field (bits l) p c)
more_value l p c v x w some fit h hv ew hx ex =
    ap₂ (λ (a b : ℕ). a + b) (shl_small v c x (omega arith) hv hx)
    (value_of_digits c x (w / 2 ^ (8 - p % 8 - c)) hx ex ∙ ap value_of (rw ew (sym (byte_field l p c some fit h))))

-- ---- a byte's bits at a time

pub none_read : (bs : List Bool) (at d : ℕ) → d ≡ 0 → 0 ≡ value_of (field bs at d)
unfolding value_of field
none_read bs at d e = rw e

-- a value of d digits has room for c more
pub has_room : (bs : List Bool) (at d c v : ℕ) → d + c ≤ 64 → v ≡ value_of (field bs at d) → v < 2 ^ (64 - c)
has_room bs at d c v h e = rw e (lt_of_lt_of_le (field_lt bs at d) (pow_mono (omega arith)))

-- c digits more are read
pub more_read : (bs : List Bool) (at n left c p v r : ℕ) → left ≤ n → c ≤ left → p ≡ at + (n - left) → p + c ≤ length bs
    → v ≡ value_of (field bs at (n - left)) → r ≡ v * 2 ^ c + value_of (field bs p c)
    → r ≡ value_of (field bs at (n - (left - c)))
more_read bs at n left c p v r ln cl ep h ev er =
    let more : n - left + c ≡ n - (left - c) = omega arith in
    let whole : r ≡ value_of (field bs at (n - left + c)) = rw (er, ev, ep) (sym (field_both bs at (n - left) c (omega arith))) in
    rw more at whole

pub all_read : (bs : List Bool) (at n left v : ℕ) → left ≡ 0 → v ≡ value_of (field bs at (n - left)) → v ≡ value_of (field bs at n)
all_read bs at n left v z e = rw (z, sub-zero) at e

-- ---- out of a word

-- a byte is the value of its eight bits
pub byte_value : (l : List ℕ) (i x : ℕ) → x ≡ get_or l i 0 → i < length l → x < 256 → x ≡ value_of (field (bits l) (8 * i) 8)
unfolding field
byte_value l i x e h k =
    sym (ap value_of (ap (take 8) (bits_at i l h) ∙ take_at (bits_of 8 (get_or l i 0)) _ 8 (length_bits_of 8 _))
    ∙ value_bits_of 8 (get_or l i 0) ∙ mod-eq_of_lt (rw e at k) ∙ sym e)

-- the k bytes from byte i on, and the next one
next_byte : (bs : List Bool) (i k v x : ℕ) → v ≡ value_of (field bs (8 * i) (8 * k)) → x ≡ value_of (field bs (8 * (i + k)) 8) → 8 * (i + k) + 8 ≤ length bs
    → v * 256 + x ≡ value_of (field bs (8 * i) (8 * k + 8))
next_byte bs i k v x ev ex h =
    let e : 8 * (i + k) ≡ 8 * i + 8 * k = omega arith in
    rw (ev, ex, e) (sym (field_both bs (8 * i) (8 * k) 8 (omega arith)))

-- eight bytes as a number, highest first, one byte at a time
horner : (a b c d e f g h : ℕ)
    → from_be_bytes w64 (a ∷ b ∷ c ∷ d ∷ e ∷ f ∷ g ∷ h ∷ []) ≡ ((((((a * 256 + b) * 256 + c) * 256 + d) * 256 + e) * 256 + f) * 256 + g) * 256 + h
horner a b c d e f g h = omega arith

-- the eight bytes from byte i on
pub eight_bytes : (l : List ℕ) (i : ℕ) → ((j : ℕ) → get_or l j 0 < 256) → i + 8 ≤ length l
    → from_be_bytes w64
    (get_or l i 0 ∷ get_or l (i + 1) 0 ∷ get_or l (i + 2) 0 ∷ get_or l (i + 3) 0 ∷ get_or l (i + 4) 0 ∷ get_or l (i + 5) 0 ∷ get_or l (i + 6) 0 ∷ get_or l (i + 7) 0 ∷ [])
    ≡ value_of (field (bits l) (8 * i) 64)
eight_bytes l i small h =
    let more : (k v : ℕ) → k < 8 → v ≡ value_of (field (bits l) (8 * i) (8 * k)) → v * 256 + get_or l (i + k) 0 ≡ value_of (field (bits l) (8 * i) (8 * k + 8)) =
    λ k v some e. next_byte (bits l) i k v (get_or l (i + k) 0) e (byte_value l (i + k) _ refl (omega (arith, some)) (small (i + k))) (rw length_bits (omega (arith, some))) in
    horner _ _ _ _ _ _ _ _ ∙ more 7 _ (omega arith) (more 6 _ (omega arith) (more 5 _ (omega arith) (more 4 _ (omega arith) (more 3 _ (omega arith) (more 2 _ (omega arith) (more 1 _ (omega arith) (byte_value l i _ refl (omega arith) (small i))))))))

-- `w << k` in r + k digits
pub shl_mod : (w r k : ℕ) → w * 2 ^ k % 2 ^ (r + k) ≡ w % 2 ^ r * 2 ^ k
shl_mod w r k =
    let none : w * 2 ^ k % 2 ^ k ≡ 0 = ap (λ (n : ℕ). n % 2 ^ k) (sym (add-zero (w * 2 ^ k))) ∙ low w k (pow_pos k) in
    mod-pow-add (w * 2 ^ k) r k ∙ ap₂ (λ (a b : ℕ). a % 2 ^ r * 2 ^ k + b) (shl-shr w k) none ∙ add-zero (w % 2 ^ r * 2 ^ k)

-- all but the first k of k + r bits, with the first k of the k + m behind them
ahead_parts : (bs : List Bool) (p k r m w y : ℕ) → w ≡ value_of (field bs p (k + r)) → y ≡ value_of (field bs (p + (k + r)) (k + m))
    → p + (k + r) + (k + m) ≤ length bs → w * 2 ^ k % 2 ^ (r + k) + y / 2 ^ m ≡ value_of (field bs (p + k) (r + k))
ahead_parts bs p k r m w y ew ey h =
    let e : p + k + r ≡ p + (k + r) = omega arith in
    rw (ew, ey, shl_mod (value_of (field bs p (k + r))) r k, field_low bs p k r (omega arith), field_high bs (p + (k + r)) k m (omega arith))
    (sym (rw e at (field_both bs (p + k) r k (omega arith))))

-- 64 bits at a place, out of the word of its byte and the byte behind it
module _ (bs : List Bool) (at w y : ℕ) (ew : w ≡ value_of (field bs (8 * (at / 8)) 64)) (ey : y ≡ value_of (field bs (8 * (at / 8 + 8)) 8)) (h : 8 * (at / 8 + 9) ≤ length bs) where
  pub ahead_sum : w * 2 ^ (at % 8) % 2 ^ 64 + y / 2 ^ (8 - at % 8) ≡ value_of (field bs at 64)
  ahead_sum =
      let a : at % 8 + (64 - at % 8) ≡ 64 = omega arith in
      let b : 64 - at % 8 + at % 8 ≡ 64 = omega arith in
      let c : at % 8 + (8 - at % 8) ≡ 8 = omega arith in
      let d : 8 * (at / 8) + at % 8 ≡ at = omega arith in
      let e : 8 * (at / 8 + 8) ≡ 8 * (at / 8) + 64 = omega arith in
      rw (b, d) at
      (ahead_parts bs (8 * (at / 8)) (at % 8) (64 - at % 8) (8 - at % 8) w y (rw a ew) (rw (a, c) (rw e at ey)) (rw (a, c) (omega arith)))

  pub ahead_fits : w * 2 ^ (at % 8) % 2 ^ 64 + y / 2 ^ (8 - at % 8) < 2 ^ 64
  ahead_fits = rw ahead_sum (field_lt bs at 64)

-- the first n of them
pub ahead_some : (bs : List Bool) (at n w : ℕ) → w ≡ value_of (field bs at 64) → n ≤ 64 → at + 64 ≤ length bs
    → w / 2 ^ (64 - n) ≡ value_of (field bs at n)
ahead_some bs at n w ew l h =
    let a : n + (64 - n) ≡ 64 = omega arith in
    rw ew (rw a at (field_high bs at n (64 - n) (rw a h)))
