-- A value that was written is read back.
use mathlib.Core.Path.{◌≡◌, refl, sym, ap, ◌∙◌}
use Prim.Native.Nat.{ℕ, zero, suc, ◌+◌, ◌-◌, ◌*◌, ◌/◌, ◌^◌, ◌≤◌, ◌<◌}
use native.Mathlib.Nat.{le_refl, zero-lt-suc}
use native.Mathlib.Omega.{arith}
use mathlib.Core.Bool.{Bool, true, cond}
use mathlib.Core.List.{List, ◌++◌, append_assoc}
use lib.Bits.{bit_xor}
use lib.Count.{count_leading_zeros, count_trailing_zeros}
use lib.ListN.{length, length-append}
use borrow.Author.Tests.{le-ltb}
use Rattle.stream.specs.Bits.{digit, bits_of}
use Rattle.stream.proofs.Numbers.{length_bits_of}
use Rattle.layout.specs.declared.Window.{Window}
use Rattle.layout.specs.Windows.{digits, reuses, tight, digit_bits, reuse_bits, open_bits, xor_bits, window_after}
use Rattle.layout.specs.Reading.{ask, item, window_zeros, value_digits, Reader, read_digits, read_opened, read_window, read_xor, read_value}
use Rattle.layout.proofs.Tests.{by_bool}
use Rattle.layout.proofs.Xors.{xor_twice, xor_eq, trailing_back, zeros_lt, reused, digits_fit}
use Rattle.layout.proofs.Runs.{run_on, Leads, moved, run_field, run_bit}

module _ (c : ℕ) where
  -- The decoder's window need not be the encoder's before the first opening: where the encoder's w is the last one opened, it is the
  -- decoder's w' too
  abbrev pub Agree : Window → Window → Type 0
  Agree w w' = w.lead < 2 ^ c → w ≡ w'

  -- the decoder's window after a xor
  unfoldable pub window_read : Window → Window → ℕ → Window
  window_read w w' zero = w'
  window_read w w' (suc y) = window_after c w (suc y)

  pub agree_after : (w w' : Window) (x : ℕ) → Agree w w' → Agree (window_after c w x) (window_read w w' x)
  unfolding window_after window_read
  agree_after w w' zero a = a
  agree_after w w' (suc y) a = λ h. refl

  -- u is the new value, v the previous one, x their xor
  module _ (u v x : ℕ) (e : bit_xor u v ≡ x) (b : x < 2 ^ (2 ^ c)) (f : Window → ℕ → Reader) (rest : List Bool) where
    -- the bits l are read by r as the value u, with the window w behind it
    abbrev Gives : Window → Reader → ℕ → List Bool → Type 0
    Gives w r p l = Leads rest r (f w u) p l

    -- the digits of a window that holds the xor
    digits_back : (w : Window) (p : ℕ) → w.lead ≤ count_leading_zeros (2 ^ c) x → w.trail ≤ count_trailing_zeros (2 ^ c) x
        → Gives w (read_digits c v w f) p (digit_bits c w x)
    unfolding read_digits
    digits_back w p hl ht =
        let t = w.trail in
        run_field (item value_digits 0) (digits c w) (λ z. f w (bit_xor (z * 2 ^ t) v)) p (x / 2 ^ t) rest (digits_fit c w x b hl)
        ∙ ap (λ (z : ℕ). run_on (f w z) (p + digits c w) rest) (ap (λ (z : ℕ). bit_xor z v) (trailing_back (2 ^ c) t x ht ∙ sym e) ∙ xor_twice u v)
        ∙ moved (f w u) rest _ _ (omega (arith, length_bits_of (digits c w) (x / 2 ^ t)))

    reuse_back : (w : Window) (p : ℕ) → reuses c w x ≡ true → Gives w (read_value c v w f) p (reuse_bits c w x)
    unfolding read_value read_xor reuse_bits digit
    reuse_back w p t =
        rw (run_bit, run_bit) (digits_back w (p + 1 + 1) (reused c w x t).0 (reused c w x t).1 ∙ moved (f w u) rest _ _ (omega arith))

    -- the fields of a tight window give it back
    opened_back : 0 < x → read_opened c v f (count_leading_zeros (2 ^ c) x) (digits c (tight c x) - 1 + 1) ≡ read_digits c v (tight c x) f
    unfolding read_opened tight
    opened_back h =
        let room = zeros_lt (2 ^ c) x h b in
        let k = digits c (tight c x) - 1 + 1 in
        let l = count_leading_zeros (2 ^ c) x in
        let fit : l + k ≤ 2 ^ c = omega arith in
        let back : 2 ^ c - l - k ≡ count_trailing_zeros (2 ^ c) x = omega arith in
        rw (le-ltb (2 ^ c) (l + k) fit, back)

    open_back : (w : Window) (p : ℕ) → 0 < x → Gives (tight c x) (read_value c v w f) p (open_bits c (tight c x) x)
    unfolding read_value read_xor read_window open_bits tight digit
    open_back w p h =
        let room = zeros_lt (2 ^ c) x h b in
        let l = count_leading_zeros (2 ^ c) x in
        let k = digits c (tight c x) - 1 in
        let ds = digit_bits c (tight c x) x in
        rw (run_bit, run_bit, append_assoc (bits_of c l) (bits_of c k ++ ds) rest, append_assoc (bits_of c k) ds rest)
        (run_field (item window_zeros 0) c (λ i. ask (item window_zeros c) c (λ j. read_opened c v f i (j + 1))) (p + 1 + 1) l (bits_of c k ++ (ds ++ rest)) (omega arith)
        ∙ run_field (item window_zeros c) c (λ j. read_opened c v f l (j + 1)) (p + 1 + 1 + c) k (ds ++ rest) (omega arith)
        ∙ ap (λ (r : Reader). run_on r (p + 1 + 1 + c + c) (ds ++ rest)) (opened_back h)
        ∙ digits_back (tight c x) (p + 1 + 1 + c + c) (le_refl _) (le_refl _)
        ∙ moved (f (tight c x) u) rest _ _ (simp (length-append, length_bits_of) (omega arith)))

  pub value_back : (u v x : ℕ) → bit_xor u v ≡ x → x < 2 ^ (2 ^ c) → (f : Window → ℕ → Reader) (rest : List Bool) (w w' : Window) (p : ℕ) → Agree w w'
      → run_on (read_value c v w' f) p (xor_bits c w x ++ rest) ≡ run_on (f (window_read w w' x) u) (p + length (xor_bits c w x)) rest
  unfolding xor_bits window_after window_read read_value digit
  value_back u v zero e b f rest w w' p a = rw (run_bit) (ap (λ (z : ℕ). run_on (f w' z) (p + 1) rest) (sym (xor_eq u v e)))
  value_back u v (suc y) e b f rest w w' p a =
      let x = suc y in
      by_bool (λ (t : Bool). run_on (read_value c v w' f) p (cond t (reuse_bits c w x) (open_bits c (tight c x) x) ++ rest)
      ≡ run_on (f (cond t w (tight c x)) u) (p + length (cond t (reuse_bits c w x) (open_bits c (tight c x) x))) rest) (reuses c w x)
      (λ t. rw (← a (omega (arith, zeros_lt (2 ^ c) x (zero-lt-suc y) b, (reused c w x t).0))) (reuse_back u v x e b f rest w p t))
      (λ t. open_back u v x e b f rest w' p (zero-lt-suc y))
