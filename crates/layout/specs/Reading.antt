-- What the decoder reads, field after field, each check as soon as its own bits are read: document 01, "The bit layout" and
-- refusals 8 to 11. The parameter c gives the width of a value, 2 ^ c bits: 6 for 64 bits.
use Rattle.std.specs.Prelude.{ℕ, ◌+◌, ◌-◌, ◌*◌, ◌^◌, Bool, cond, List, [], ◌∷◌, eqb, ltb, ℤ, pos, negsuc, ◌+ℤ◌, length}
use Rattle.std.specs.Int.Bits.{bit_xor}
use Rattle.stream.specs.Bits.{value_of, field}
use Rattle.layout.specs.declared.Row.{Row}
use Rattle.layout.specs.Rows.{row7, longer_rows, signed}
use Rattle.layout.specs.declared.Window.{Window}
use Rattle.layout.specs.Windows.{window, digits}
use Rattle.layout.specs.declared.State.{State}
use Rattle.layout.specs.Writing.{state, Progress, begun, going}

-- ---- readers

-- what is read: nothing more, with a result; or a field of n bits, named l, and what its number leads to
pub data Read (L A : Type 0) : Type 0 where
  done : A → Read L A
  ask : (l : L) (n : ℕ) → (ℕ → Read L A) → Read L A

-- a result, with the position behind the last bit used; or the field that is not wholly there: its name, its place, its size
pub data Outcome (L A : Type 0) : Type 0 where
  got : (result : A) (position : ℕ) → Outcome L A
  cut : (l : L) (place size : ℕ) → Outcome L A

-- the position behind the last bit that was asked for
unfoldable pub reach : {L A : Type 0} → Outcome L A → ℕ
reach (got a q) = q
reach (cut l p n) = p + n

-- a reader run on the bits s from the position p on
unfoldable pub run : {L A : Type 0} → Read L A → ℕ → List Bool → Outcome L A
run (done a) p s = got a p
run (ask l n f) p s = cond (ltb (length s) (p + n)) (cut l p n) (run (f (value_of (field s p n))) (p + n) s)

-- ---- the start, by a reader of its own: no name, since it is its only field

unfoldable pub read_start : Read (Unit {0}) ℕ
read_start = ask tt 64 (λ start. done start)

-- ---- the fields behind the start

-- the item that a field belongs to, and how many bits before the field the item begins
pub data Kind : Type 0 where
  time_control time_field value_control window_zeros value_digits first_marker : Kind

pub data Label : Type 0 where
  item : (kind : Kind) (back : ℕ) → Label

-- what a step finds: a point, with the state after it; the end; or a refusal
pub data Found : Type 0 where
  point : State → Found
  ending : Found
  wrong : (number : ℕ) → Found

abbrev pub Reader : Type 0
Reader = Read Label Found

-- ---- times

-- behind the control bits that the row r shares with those after it: 0 chooses r; the last row has no 0, and there a field of 0 is
-- the end
unfoldable pub read_row : Row → List Row → (ℤ → Reader) → Reader
read_row r [] f = ask (item time_field 0) r.width (λ x. cond (eqb x 0) (done ending) (f (signed r.width x)))
read_row r (r' ∷ rs) f =
    ask (item time_control (r.prefix_len - 1)) 1 (λ b.
    cond (eqb b 0) (ask (item time_field 0) r.width (λ x. f (signed r.width x))) (read_row r' rs f))

unfoldable pub read_dod : (ℤ → Reader) → Reader
read_dod f = ask (item time_control 0) 1 (λ b. cond (eqb b 0) (f (pos 0)) (read_row row7 longer_rows f))

-- the new time from the previous one and the new delta: 10 if that is below 0, 11 if the time is above 2^64 - 1
unfoldable pub new_time : ℕ → ℤ → (ℕ → ℕ → Reader) → Reader
new_time t (negsuc a) f = done (wrong 10)
new_time t (pos δ) f = cond (ltb (2 ^ 64 - 1) (t + δ)) (done (wrong 11)) (f (t + δ) δ)

-- the marker at the first point's place, behind its first bit: 111 and 32 zeros, or 8
abbrev pub marker_rest : ℕ
marker_rest = 0b111 * 2 ^ 32

unfoldable pub read_marker : Reader
read_marker = ask (item first_marker 1) 35 (λ m. done (cond (eqb m marker_rest) ending (wrong 8)))

module _ (c : ℕ) where
  -- ---- values: v is the previous value, w the window, f takes the window and the value

  -- the digits of a window
  unfoldable pub read_digits : ℕ → Window → (Window → ℕ → Reader) → Reader
  read_digits v w f = ask (item value_digits 0) (digits c w) (λ x. f w (bit_xor (x * 2 ^ w.trail) v))

  -- a window of l leading zeros and k digits is opened, or 9
  unfoldable pub read_opened : ℕ → (Window → ℕ → Reader) → ℕ → ℕ → Reader
  read_opened v f l k = cond (ltb (2 ^ c) (l + k)) (done (wrong 9)) (read_digits v (window l (2 ^ c - l - k)) f)

  -- behind bits 11
  unfoldable pub read_window : ℕ → (Window → ℕ → Reader) → Reader
  read_window v f = ask (item window_zeros 0) c (λ l. ask (item window_zeros c) c (λ k. read_opened v f l (k + 1)))

  -- behind bit 1
  unfoldable pub read_xor : ℕ → Window → (Window → ℕ → Reader) → Reader
  read_xor v w f = ask (item value_control 1) 1 (λ b. cond (eqb b 0) (read_digits v w f) (read_window v f))

  unfoldable pub read_value : ℕ → Window → (Window → ℕ → Reader) → Reader
  read_value v w f = ask (item value_control 0) 1 (λ b. cond (eqb b 0) (f w v) (read_xor v w f))

  -- ---- points

  -- behind the dod of a later point
  unfoldable pub after_dod : State → ℤ → Reader
  after_dod s d =
      new_time s.time (pos s.delta +ℤ d) (λ t δ. read_value s.value s.window (λ w v. done (point (state t δ v w))))

  unfoldable pub read_later : State → Reader
  read_later s = read_dod (after_dod s)

  -- behind the control bit of the first point; it leaves the window as it is
  unfoldable pub first_time : ℕ → Window → Reader
  first_time start w =
      ask (item time_field 0) 14 (λ d. new_time start (pos d) (λ t δ.
      ask (item value_digits 0) (2 ^ c) (λ v. done (point (state t δ v w)))))

  unfoldable pub read_first : ℕ → Window → Reader
  read_first start w = ask (item time_control 0) 1 (λ b. cond (eqb b 0) (first_time start w) read_marker)

  -- the next point, the end or a refusal
  unfoldable pub read_next : Progress → Reader
  read_next (begun start w) = read_first start w
  read_next (going s) = read_later s
