-- What a word that was peeked says of the fields within it.
use Rattle.std.proofs.Common.{◌≡◌, ℕ, ◌+◌, ◌-◌, ◌*◌, ◌/◌, ◌%◌, ◌^◌, ◌≤◌, Bool, List, length, sym, refl, ap, ◌∙◌, mul_assoc, zero-mul, mul-one, arith, pow-add, shr-shr}
use lib.Pow.{shl-shr}
use Rattle.stream.specs.Bits.{value_of, bits, field}
use Rattle.stream.specs.Calls.{tell_ahead, ahead_of}
use Rattle.std.specs.declared.option.Option.{Option}
use Rattle.std.specs.Prelude.{Some}
use Rattle.stream.proofs.Bytes.{length_bits}
use Rattle.stream.proofs.Taking.{none_read, field_high, field_low, shl_mod}
use Rattle.stream.proofs.Outcomes.{ahead_there}
use Rattle.decode.specs.Words.{Known}

-- of nothing nothing is known
pub none_known : (s : List Bool) (q : ℕ) → q ≤ length s → Known s q 0 0
unfolding Known
none_known s q h = (omega arith, omega arith, rw (← (none_read s q 0 refl)) (sym (zero-mul (2 ^ 64))))

-- a word that is there is known whole
pub word_known : (l : List ℕ) (p w : ℕ) (a : Option ℕ) → tell_ahead a ≡ ahead_of l p → a ≡ Some w → Known (bits l) p 64 w
unfolding Known
word_known l p w a e f =
    let k = ahead_there l p w (sym (ap tell_ahead f) ∙ e) in
    (omega arith, rw (length_bits l) (omega (arith, k.0)), k.1 ∙ sym (mul-one _))

-- ---- n + m bits at q, the highest of a word of (n + m) + t

module _ (s : List Bool) (q n m t w : ℕ) (e : w ≡ value_of (field s q (n + m)) * 2 ^ t) (h : q + (n + m) ≤ length s) where
  -- the first n of them
  first_of : w / 2 ^ (t + m) ≡ value_of (field s q n)
  first_of =
      rw e (sym (shr-shr (value_of (field s q (n + m)) * 2 ^ t) t m) ∙ ap (λ (k : ℕ). k / 2 ^ m) (shl-shr (value_of (field s q (n + m))) t)
      ∙ field_high s q n m h)

  -- the m behind those
  rest_of : w * 2 ^ n % 2 ^ (m + (t + n)) ≡ value_of (field s (q + n) m) * 2 ^ (t + n)
  rest_of =
      rw (e, mul_assoc (value_of (field s q (n + m))) (2 ^ t) (2 ^ n), ← (pow-add 2 t n))
      (shl_mod (value_of (field s q (n + m))) m (t + n) ∙ ap (λ (k : ℕ). k * 2 ^ (t + n)) (field_low s q n m h))

module _ (s : List Bool) (q h w n : ℕ) (known : Known s q h w) (l : n ≤ h) where
  -- a field that the word has
  pub known_first : w / 2 ^ (64 - n) ≡ value_of (field s q n)
  unfolding Known
  known_first =
      let a : n + (h - n) ≡ h = omega arith in
      let b : 64 - h + (h - n) ≡ 64 - n = omega (arith, known.0) in
      rw b at (first_of s q n (h - n) (64 - h) w (rw a known.2) (rw a known.1))

  -- what is known behind it
  pub known_rest : Known s (q + n) (h - n) (w * 2 ^ n % 2 ^ 64)
  unfolding Known
  known_rest =
      let a : n + (h - n) ≡ h = omega arith in
      let b : 64 - h + n ≡ 64 - (h - n) = omega (arith, known.0) in
      let c : h - n + (64 - (h - n)) ≡ 64 = omega (arith, known.0) in
      (omega (arith, known.0), omega (arith, known.1), rw (b, c) at (rest_of s q n (h - n) (64 - h) w (rw a known.2) (rw a known.1)))
