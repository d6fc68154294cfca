-- The promises at a few points each, by computing. The general proofs stand in the other files. A changed definition may break one of
-- them only because its text no longer fits; what breaks here is a promise that has become false.
use mathlib.Core.Path.{◌≡◌, refl}
use Prim.Native.Nat.{ℕ, ◌+◌, ◌-◌, ◌*◌, ◌/◌, ◌^◌}
use mathlib.Core.Bool.{Bool, true, false, cond}
use mathlib.Core.List.{List, [], ◌∷◌, ◌++◌, map}
use lib.Count.{count_leading_zeros, count_trailing_zeros}
use lib.Dec.{ltb}
use lib.IntN.{ℤ, pos}
use lib.ListN.{take}
use Rattle.stream.specs.Bits.{odd, digit, bits_of, value_of, field}
use Rattle.layout.specs.declared.Row.{Row}
use Rattle.layout.specs.Rows.{minus, within, rows, fits, in_field, raw, signed}
use Rattle.layout.specs.declared.Window.{Window}
use Rattle.layout.specs.Windows.{window, no_digit, unopened, bad_window, digits, reuses, tight, reuse_bits, open_bits, xor_bits, window_after}
use Rattle.layout.specs.Writing.{Point, point_of, in_row, row_bits, dod_bits, start_bits, marker, first_bits, later_bits, point_bits, first_state, later_state, state_after, rest_bits, opened, stream_bits}
use Rattle.layout.specs.Reading.{run, read_start, read_row, read_dod, new_time, read_marker, read_digits, read_opened, read_window, read_xor, read_value, after_dod, read_later, first_time, read_first, read_next}
use Rattle.layout.specs.Answers.{position, reached, answer_of, step, after_start, first_step, next_step, outcomes_after, outcomes, answers, lack, torn_by, torn}
use Rattle.layout.specs.Cases.{one, half, m6, windowed}
use Rattle.layout.specs.Promises.{place_of, cut_to, back}

-- ---- `field_back`: a dod that the field, or a row, takes comes back

dods : List ℤ
dods = minus 65 ∷ minus 64 ∷ minus 63 ∷ minus 1 ∷ pos 0 ∷ pos 1 ∷ pos 63 ∷ pos 64 ∷ pos 65 ∷ minus 2147483647 ∷ pos 2147483648 ∷ []

field_at : map (λ (d : ℤ). cond (in_field 7 d) (signed 7 (raw 7 d)) d) dods ≡ dods
unfolding dods within raw signed
field_at = refl

rows_at : map (λ (r : Row). map (λ (d : ℤ). cond (fits r d) (signed r.width (raw r.width d)) d) dods) rows ≡ map (λ (r : Row). dods) rows
unfolding dods within raw signed
rows_at = refl

-- ---- `windows`: the digits of a xor that fits, shifted back, are the xor, and fit

windows : List Window
windows = window 0 0 ∷ window 2 52 ∷ window 63 0 ∷ window 0 63 ∷ []

xors : List ℕ
xors = 1 ∷ one ∷ (2 ^ 63) ∷ (2 ^ 64 - 1) ∷ []

window_at : map (λ (w : Window). map (λ (x : ℕ). cond (reuses 6 w x) (x / 2 ^ w.trail * 2 ^ w.trail) x) xors) windows ≡ map (λ (w : Window). xors) windows
unfolding windows xors reuses count_leading_zeros count_trailing_zeros
window_at = refl

digits_at : map (λ (w : Window). map (λ (x : ℕ). cond (reuses 6 w x) (ltb (x / 2 ^ w.trail) (2 ^ digits 6 w)) true) xors) windows
    ≡ map (λ (w : Window). map (λ (x : ℕ). true) xors) windows
unfolding windows xors reuses count_leading_zeros count_trailing_zeros
digits_at = refl

-- ---- `bad_windows`

bad_at : map (bad_window 6) (window 64 64 ∷ window 64 0 ∷ window 0 64 ∷ window 32 32 ∷ window 63 0 ∷ window 0 63 ∷ window 0 0 ∷ [])
    ≡ (false ∷ true ∷ true ∷ true ∷ false ∷ false ∷ false ∷ [])
unfolding bad_window no_digit unopened
bad_at = refl

-- ---- `points_come_back`: of series that are accepted, with noise behind them

series : List (List Point)
series =
    [] ∷ m6
    -- a xor that fits its window loosely, then one that would fit it tightly
    ∷ (point_of 10 0 ∷ point_of 20 one ∷ point_of 30 half ∷ point_of 40 one ∷ [])
    -- a new window for too few zeros below; 64 digits; each row; deltas above 2^32
    ∷ (point_of 10 0 ∷ point_of 20 one ∷ point_of 30 (one + 1) ∷ [])
    ∷ (point_of 0 0 ∷ point_of (2 ^ 31) (2 ^ 63 + 1) ∷ [])
    ∷ (point_of 5000 0 ∷ point_of 10064 0 ∷ point_of 15193 0 ∷ point_of 22370 0 ∷ [])
    ∷ (point_of 0 0 ∷ point_of (2 ^ 31) 0 ∷ point_of (2 ^ 31 + 2 ^ 32) 0 ∷ [])
    ∷ []

back_at : map (λ (ps : List Point). answers 6 6 (stream_bits 6 0 ps ++ bits_of 5 0b10110)) series ≡ map (λ (ps : List Point). back 6 6 64 (opened 6 0) ps) series
unfolding series odd digit bits_of value_of field within raw signed reuses tight reuse_bits open_bits xor_bits window_after in_row row_bits dod_bits start_bits marker first_bits later_bits point_bits first_state later_state state_after rest_bits stream_bits run read_start read_row read_dod new_time read_marker read_digits read_opened read_window read_xor read_value after_dod read_later first_time read_first read_next reached answer_of step after_start first_step next_step outcomes_after outcomes answers back count_leading_zeros count_trailing_zeros
back_at = refl

-- ---- `more_data`: M6, a 9, a 10, an 11 and an 8, each cut around the bits that its answers use

parts : List ℕ
parts = 0 ∷ 63 ∷ 64 ∷ 79 ∷ 99 ∷ 100 ∷ 142 ∷ 143 ∷ 151 ∷ 152 ∷ 157 ∷ 158 ∷ 167 ∷ 168 ∷ 229 ∷ 230 ∷ 300 ∷ []

wholes : List (List Bool)
wholes =
    stream_bits 6 0 m6
    ∷ windowed 1 63 (bits_of 64 5)
    ∷ (start_bits 0 ++ bits_of 15 10 ++ bits_of 64 0 ++ bits_of 2 0b10 ++ bits_of 7 117 ++ bits_of 9 0)
    ∷ (start_bits (2 ^ 64 - 1) ++ bits_of 15 1 ++ bits_of 64 0)
    ∷ (start_bits 0 ++ bits_of 36 0xF00000001 ++ bits_of 9 0)
    ∷ []

prefix_at : map (λ (s : List Bool). map (λ (j : ℕ). answers 6 4 (take j s)) parts) wholes ≡ map (λ (s : List Bool). map (λ (j : ℕ). torn j (outcomes 6 4 s)) parts) wholes
unfolding parts wholes odd digit bits_of value_of field within raw signed reuses tight reuse_bits open_bits xor_bits window_after in_row row_bits dod_bits start_bits marker first_bits later_bits point_bits first_state later_state state_after rest_bits stream_bits run read_start read_row read_dod new_time read_marker read_digits read_opened read_window read_xor read_value after_dod read_later first_time read_first read_next position reached answer_of step after_start first_step next_step outcomes_after outcomes answers lack torn_by count_leading_zeros count_trailing_zeros
prefix_at = refl

-- ---- `closed_cut`: of M6

cut_at : map (λ (j : ℕ). answers 6 6 (take j (stream_bits 6 0 m6))) parts ≡ map (λ (j : ℕ). cut_to j (back 6 6 64 (opened 6 0) m6)) parts
unfolding parts odd digit bits_of value_of field within raw signed reuses tight reuse_bits open_bits xor_bits window_after in_row row_bits dod_bits start_bits marker first_bits later_bits point_bits first_state later_state state_after rest_bits stream_bits run read_start read_row read_dod new_time read_marker read_digits read_opened read_window read_xor read_value after_dod read_later first_time read_first read_next position reached answer_of step after_start first_step next_step outcomes_after outcomes answers lack torn_by place_of back count_leading_zeros count_trailing_zeros
cut_at = refl
