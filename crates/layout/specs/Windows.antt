-- Windows, and the digits of a xor: document 01, "Later value" and "The window".
-- The parameter c gives the width of a value, 2 ^ c bits: 6 for 64 bits.
use Rattle.std.specs.Prelude.{ℕ, zero, suc, ◌+◌, ◌-◌, ◌/◌, ◌^◌, Bool, true, false, cond, not, ◌&&◌, List, [], ◌∷◌, ◌++◌, eqb, leb, ltb}
use Rattle.std.specs.Int.Count.{count_leading_zeros, count_trailing_zeros}
use Rattle.stream.specs.Bits.{bits_of}
use Rattle.layout.specs.declared.Window.{Window}

-- a window: how many zeros stand above the digits, and how many below
abbrev pub window : ℕ → ℕ → Window
window l t = record { lead = l; trail = t }

-- the decoder begins with 0 and 0: reuse before any opening reads all digits
abbrev pub decoder_window : Window
decoder_window = window 0 0

module _ (c : ℕ) where
  -- the encoder begins with 64 and 64, so its first nonzero xor opens one
  abbrev pub encoder_window : Window
  encoder_window = window (2 ^ c) (2 ^ c)

  abbrev pub digits : Window → ℕ
  digits w = 2 ^ c - w.lead - w.trail

  -- zeros that leave no digit: they sum above 63
  unfoldable pub no_digit : Window → Bool
  no_digit w = ltb (2 ^ c - 1) (w.lead + w.trail)

  -- the window that the encoder begins with
  unfoldable pub unopened : Window → Bool
  unopened w = eqb w.lead (2 ^ c) && eqb w.trail (2 ^ c)

  -- a window that no state can have: without a digit, and not that one
  unfoldable pub bad_window : Window → Bool
  bad_window w = no_digit w && not (unopened w)

  -- are the xor's zeros each at least those of the window?
  unfoldable pub reuses : Window → ℕ → Bool
  reuses w x = leb w.lead (count_leading_zeros (2 ^ c) x) && leb w.trail (count_trailing_zeros (2 ^ c) x)

  -- the window that just holds a xor
  unfoldable pub tight : ℕ → Window
  tight x = window (count_leading_zeros (2 ^ c) x) (count_trailing_zeros (2 ^ c) x)

  -- the window's digits of a xor
  abbrev pub digit_bits : Window → ℕ → List Bool
  digit_bits w x = bits_of (digits w) (x / 2 ^ w.trail)

  -- bits 10 and the window's digits
  unfoldable pub reuse_bits : Window → ℕ → List Bool
  reuse_bits w x = true ∷ false ∷ digit_bits w x

  -- bits 11, the leading zeros, the number of digits less one, the digits
  unfoldable pub open_bits : Window → ℕ → List Bool
  open_bits w x = true ∷ true ∷ bits_of c w.lead ++ (bits_of c (digits w - 1) ++ digit_bits w x)

  -- a xor after a window: bit 0 for zero; else reuse, or open
  unfoldable pub xor_bits : Window → ℕ → List Bool
  xor_bits w zero = false ∷ []
  xor_bits w (suc y) = cond (reuses w (suc y)) (reuse_bits w (suc y)) (open_bits (tight (suc y)) (suc y))

  -- the window is the last one opened
  unfoldable pub window_after : Window → ℕ → Window
  window_after w zero = w
  window_after w (suc y) = cond (reuses w (suc y)) w (tight (suc y))
