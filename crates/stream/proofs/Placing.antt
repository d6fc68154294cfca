-- Laws of a field put into its bytes: within one byte, then a byte's bits at a time.
use mathlib.Core.Path.{◌≡◌, refl, sym, ap, ap₂, ◌∙◌}
use mathlib.Core.Bool.{Bool, false}
use mathlib.Core.List.{List, [], ◌∷◌, ◌++◌, append_assoc}
use Prim.Native.Nat.{ℕ, suc, ◌+◌, ◌-◌, ◌*◌, ◌/◌, ◌%◌, ◌^◌, ◌≤◌, ◌<◌}
use native.Mathlib.Nat.{add-zero, mod-eq_of_lt, sub-zero, div-one}
use native.Mathlib.Omega.{arith}
use lib.ListN.{length, take, set, replicate, get_or}
use lib.Seq.{take_at, take-add, take-append-le, set_split}
use lib.Pow.{shl_lt, shr_lt, pow_pos, pow-add, shr-shr}
use lib.Arith.{digits_lt}
use lib.Bits.{bit_or, or_shifted}
use Rattle.stream.specs.Bits.{bits_of, bits, edge, laid, replaced}
use Rattle.stream.proofs.Numbers.{length_bits_of, bits_of_add, bits_of_join, bits_of_zero}
use Rattle.stream.proofs.Bytes.{bits_append, bits_cons, bits_take, bits_drop, bits_at}
use Rattle.stream.proofs.Writes.{replaced_append}

-- ---- one byte changed

replaced_laid : (bs : List Bool) (p : ℕ) (f : List Bool) → 0 < length f → replaced bs p f ≡ laid bs p f
unfolding replaced
replaced_laid bs p [] h = absurd (omega arith)
replaced_laid bs p (b ∷ f) h = refl

module _ (l : List ℕ) (i k y : ℕ) (f : List Bool) (h : i < length l) (some : 0 < length f) (fit : k + length f ≤ 8) where
  byte_edge : edge (8 * i + k + length f) ≡ 8 * suc i
  unfolding edge
  byte_edge = omega arith

  byte_gap : 8 * suc i - (8 * i + k + length f) ≡ 8 - (k + length f)
  byte_gap = omega arith

  byte_head : take (8 * i + k) (bits l) ≡ bits (take i l) ++ take k (bits_of 8 (get_or l i 0))
  byte_head =
      take-add (8 * i) k (bits l)
      ∙ ap₂ (λ (a b : List Bool). a ++ b) (sym (bits_take i l))
      (ap (take k) (bits_at i l h)
      ∙ take-append-le k (bits_of 8 (get_or l i 0)) _ (omega (arith, length_bits_of 8 (get_or l i 0))))

  byte_laid : bits_of 8 y ≡ take k (bits_of 8 (get_or l i 0)) ++ (f ++ replicate (8 - (k + length f)) false)
      → bits (set l i y) ≡ laid (bits l) (8 * i + k) f
  unfolding laid
  byte_laid e =
      rw (byte_edge, byte_head, byte_gap, ← (bits_drop (suc i) l), set_split l i y h, bits_append (take i l), bits_cons y, e)
      (simp append_assoc)

-- c digits put into the byte of bit p
pub chunk_put : (l : List ℕ) (p c y chunk : ℕ) → 0 < c → p % 8 + c ≤ 8 → p + c ≤ 8 * length l
    → bits_of 8 y ≡ take (p % 8) (bits_of 8 (get_or l (p / 8) 0)) ++ (bits_of c chunk ++ replicate (8 - (p % 8 + c)) false)
    → bits (set l (p / 8) y) ≡ replaced (bits l) p (bits_of c chunk)
chunk_put l p c y chunk some fit lt e =
    let n : length (bits_of c chunk) ≡ c = length_bits_of c chunk in
    let place : 8 * (p / 8) + p % 8 ≡ p = omega arith in
    rw (replaced_laid (bits l) p (bits_of c chunk) (rw n some))
    (rw place at (byte_laid l (p / 8) (p % 8) y (bits_of c chunk) (omega arith) (rw n some) (rw n fit) (rw n e)))

-- ---- that byte

-- the digits above are kept, those below are zero
placed : (k c r old chunk : ℕ) → chunk < 2 ^ c
    → bits_of (k + (c + r)) (old / 2 ^ (c + r) * 2 ^ (c + r) + chunk * 2 ^ r)
    ≡ take k (bits_of (k + (c + r)) old) ++ (bits_of c chunk ++ replicate r false)
placed k c r old chunk h =
    bits_of_join k (c + r) (old / 2 ^ (c + r)) (chunk * 2 ^ r) (shl_lt c r h)
    ∙ ap₂ (λ (a b : List Bool). a ++ b)
    (sym (ap (take k) (bits_of_add k (c + r) old) ∙ take_at (bits_of k (old / 2 ^ (c + r))) _ k (length_bits_of k _)))
    (ap (bits_of (c + r)) (sym (add-zero (chunk * 2 ^ r))) ∙ bits_of_join c r chunk 0 (pow_pos r)
    ∙ ap (λ (l : List Bool). bits_of c chunk ++ l) (bits_of_zero r))

placed_lt : (k c r old chunk : ℕ) → old < 2 ^ (k + (c + r)) → chunk < 2 ^ c
    → old / 2 ^ (c + r) * 2 ^ (c + r) + chunk * 2 ^ r < 2 ^ (k + (c + r))
placed_lt k c r old chunk h hc = rw (pow-add 2 k (c + r)) (digits_lt (shr_lt k (c + r) h) (shl_lt c r hc))

-- the same as the machine computes it, in 64 digits
module _ (old k c chunk : ℕ) (h : old < 256) (fit : k + c ≤ 8) (hc : chunk < 2 ^ c) where
  low_part : c + (8 - k - c) ≡ 8 - k
  low_part = omega arith

  whole : k + (8 - k) ≡ 8
  whole = omega arith

  rest : 8 - k - c ≡ 8 - (k + c)
  rest = omega arith

  placed_small : old / 2 ^ (8 - k) * 2 ^ (8 - k) + chunk * 2 ^ (8 - k - c) < 256
  placed_small = rw (low_part, whole) at (placed_lt k c (8 - k - c) old chunk (rw (low_part, whole) h) hc)

  placed_or : bit_or ((old / 2 ^ (8 - k) * 2 ^ (8 - k)) % 2 ^ 64) ((chunk * 2 ^ (8 - k - c)) % 2 ^ 64)
      ≡ old / 2 ^ (8 - k) * 2 ^ (8 - k) + chunk * 2 ^ (8 - k - c)
  placed_or =
      let below : chunk * 2 ^ (8 - k - c) < 2 ^ (8 - k) = rw low_part at (shl_lt c (8 - k - c) hc) in
      let high : (old / 2 ^ (8 - k) * 2 ^ (8 - k)) % 2 ^ 64 ≡ old / 2 ^ (8 - k) * 2 ^ (8 - k) = mod-eq_of_lt (omega (arith, placed_small)) in
      let low : (chunk * 2 ^ (8 - k - c)) % 2 ^ 64 ≡ chunk * 2 ^ (8 - k - c) = mod-eq_of_lt (omega (arith, placed_small)) in
      rw (high, low) (or_shifted (old / 2 ^ (8 - k)) (8 - k) (chunk * 2 ^ (8 - k - c)) below)

  pub placed_bits : bits_of 8 (bit_or ((old / 2 ^ (8 - k) * 2 ^ (8 - k)) % 2 ^ 64) ((chunk * 2 ^ (8 - k - c)) % 2 ^ 64))
      ≡ take k (bits_of 8 old) ++ (bits_of c chunk ++ replicate (8 - (k + c)) false)
  placed_bits = rw (placed_or, ← rest) (rw (low_part, whole) at (placed k c (8 - k - c) old chunk hc))

  pub placed_byte : bit_or ((old / 2 ^ (8 - k) * 2 ^ (8 - k)) % 2 ^ 64) ((chunk * 2 ^ (8 - k - c)) % 2 ^ 64) < 256
  placed_byte = rw placed_or placed_small

-- ---- a byte's bits at a time

-- no digit is put yet
pub none_put : (bs : List Bool) (p d x : ℕ) → d ≡ 0 → bs ≡ replaced bs p (bits_of d x)
unfolding replaced bits_of
none_put bs p d x e = rw e

-- a field of d + c digits: first the d high ones, then the c that follow
grown : (bs : List Bool) (p d c left value : ℕ) → p ≤ length bs
    → replaced (replaced bs p (bits_of d (value / 2 ^ (left + c)))) (p + d) (bits_of c (value / 2 ^ left))
    ≡ replaced bs p (bits_of (d + c) (value / 2 ^ left))
grown bs p d c left value h =
    rw (bits_of_add d c (value / 2 ^ left), shr-shr value left c)
    (rw (length_bits_of d (value / 2 ^ (left + c))) at
    (replaced_append bs p (bits_of d (value / 2 ^ (left + c))) (bits_of c (value / 2 ^ left)) h))

-- c digits more are put
pub more_put : (bs b m : List Bool) (at n value left c p : ℕ) → at ≤ length bs → left ≤ n → c ≤ left → p ≡ at + (n - left)
    → b ≡ replaced bs at (bits_of (n - left) (value / 2 ^ left))
    → m ≡ replaced b p (bits_of c (value / 2 ^ (left - c)))
    → m ≡ replaced bs at (bits_of (n - (left - c)) (value / 2 ^ (left - c)))
more_put bs b m at n value left c p h ln cl ep eb em =
    let back : left - c + c ≡ left = omega arith in
    let more : n - left + c ≡ n - (left - c) = omega arith in
    rw (em, ep, eb) (rw (back, more) at (grown bs at (n - left) c (left - c) value h))

-- all digits are put
pub all_put : (bs b : List Bool) (at n value left : ℕ) → left ≡ 0
    → b ≡ replaced bs at (bits_of (n - left) (value / 2 ^ left)) → b ≡ replaced bs at (bits_of n value)
all_put bs b at n value left z e = rw (z, sub-zero, div-one) at e
