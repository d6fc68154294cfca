-- What the encoder writes, and which times it takes: document 01, "The bit layout", and refusals 2, 3 and 4.
-- The parameter c gives the width of a value, 2 ^ c bits: 6 for 64 bits.
use Rattle.std.specs.Prelude.{◌≡◌, ℕ, zero, suc, ◌-◌, ◌^◌, ◌<◌, Bool, true, false, cond, List, [], ◌∷◌, ◌++◌, ltb, ℤ, pos, negsuc}
use Rattle.std.proofs.Math.IntN.{sub_ℕ}
use Rattle.std.specs.Int.Bits.{bit_xor}
use Rattle.stream.specs.Bits.{bits_of}
use Rattle.layout.specs.declared.Row.{Row}
use Rattle.layout.specs.declared.Window.{Window}
use Rattle.layout.specs.Rows.{minus, within, rows, fits, raw}
use Rattle.layout.specs.declared.State.{State}
use Rattle.layout.specs.Windows.{encoder_window, xor_bits, window_after}

-- ---- what both ends keep

-- a time and the bits of a value
pub record Point : Type 0 where
  pub time : ℕ
  pub value : ℕ

abbrev pub point_of : ℕ → ℕ → Point
point_of t v = record { time = t; value = v }

-- after a point: its time, the delta that led to it, its value, and the window
abbrev pub state : ℕ → ℕ → ℕ → Window → State
state t d v w = record { time = t; delta = d; value = v; window = w }

-- how far a series is: at its start, or after a point
pub data Progress : Type 0 where
  begun : (start : ℕ) (window : Window) → Progress
  going : State → Progress

-- ---- times

-- the delta of a time, less the previous delta
abbrev pub dod_of : State → ℕ → ℤ
dod_of s t = sub_ℕ (t - s.time) s.delta

-- -(2^31 - 1) to 2^31
abbrev pub in_range : ℤ → Bool
in_range d = within (minus 2147483647) (pos 2147483648) d

-- the refusal of an offered time, 0 for none: 2 if it falls, then 3 for a first delta, 4 for a dod
unfoldable pub time_fault : Progress → ℕ → ℕ
time_fault (begun start w) t = cond (ltb t start) 2 (cond (ltb 16383 (t - start)) 3 0)
time_fault (going s) t = cond (ltb t s.time) 2 (cond (in_range (dod_of s t)) 0 4)

-- a row's control bits and field
unfoldable pub in_row : Row → ℤ → List Bool
in_row r d = bits_of r.prefix_len r.prefix ++ bits_of r.width (raw r.width d)

-- the first row that fits is used
unfoldable pub row_bits : List Row → ℤ → List Bool
row_bits [] d = []
row_bits (r ∷ rs) d = cond (fits r d) (in_row r d) (row_bits rs d)

-- dod 0 is the single bit 0
unfoldable pub dod_bits : ℤ → List Bool
dod_bits (pos zero) = false ∷ []
dod_bits (pos (suc a)) = row_bits rows (pos (suc a))
dod_bits (negsuc a) = row_bits rows (negsuc a)

-- ---- the stream

unfoldable pub start_bits : ℕ → List Bool
start_bits start = bits_of 64 start

-- 1111 and 32 zeros, where a time would stand
unfoldable pub marker : List Bool
marker = true ∷ true ∷ true ∷ true ∷ bits_of 32 0

-- the first point leaves the window as it is
unfoldable pub first_state : ℕ → Window → Point → State
first_state start w p = state p.time (p.time - start) p.value w

module _ (c : ℕ) where
  -- a 0 bit, 14 bits of the first delta, the value's bits
  unfoldable pub first_bits : ℕ → Point → List Bool
  first_bits start p = false ∷ bits_of 14 (p.time - start) ++ bits_of (2 ^ c) p.value

  unfoldable pub later_bits : State → Point → List Bool
  later_bits s p = dod_bits (dod_of s p.time) ++ xor_bits c s.window (bit_xor p.value s.value)

  unfoldable pub point_bits : Progress → Point → List Bool
  point_bits (begun start w) p = first_bits start p
  point_bits (going s) p = later_bits s p

  unfoldable pub later_state : State → Point → State
  later_state s p = state p.time (p.time - s.time) p.value (window_after c s.window (bit_xor p.value s.value))

  -- the state after a point
  unfoldable pub state_after : Progress → Point → State
  state_after (begun start w) p = first_state start w p
  state_after (going s) p = later_state s p

  -- points from here on, one after the other, and the marker
  unfoldable pub rest_bits : Progress → List Point → List Bool
  rest_bits g [] = marker
  rest_bits g (p ∷ ps) = point_bits g p ++ rest_bits (going (state_after g p)) ps

  -- the encoder after opening
  abbrev pub opened : ℕ → Progress
  opened start = begun start (encoder_window c)

  -- a closed stream
  unfoldable pub stream_bits : ℕ → List Point → List Bool
  stream_bits start ps = start_bits start ++ rest_bits (opened start) ps

  -- ---- points that are accepted, one after the other

  pub record Fitting (p : Point) : Type 0 where
    pub time_fits : p.time < 2 ^ 64
    pub value_fits : p.value < 2 ^ (2 ^ c)

  abbrev pub Accepted : Progress → List Point → Type 0
  Accepted g [] = Unit {0}
  Accepted g (p ∷ ps) = Fitting p × (time_fault g p.time ≡ 0) × Accepted (going (state_after g p)) ps
