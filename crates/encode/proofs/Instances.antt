-- The promises at a few points, by computing: where a wrong definition has to fail.
use mathlib.Core.Path.{◌≡◌, refl}
use mathlib.Core.Bool.{Bool, true, false}
use mathlib.Core.List.{[], ◌∷◌}
use Prim.Native.Nat.{ℕ}
use lib.Count.{count_leading_zeros, count_trailing_zeros}
use lib.ListN.{replicate}
use Rattle.stream.specs.Bits.{odd, bits_of, digit, value_of}
use Rattle.stream.specs.Refusals.{when, or_else, by_fault}
use Rattle.stream.specs.Calls.{given, refused}
use Rattle.layout.specs.Rows.{within, raw}
use Rattle.layout.specs.Windows.{window, no_digit, unopened, bad_window, reuses, tight, reuse_bits, open_bits, xor_bits, window_after}
use Rattle.layout.specs.Writing.{point_of, state, going, time_fault, in_row, row_bits, dod_bits, first_bits, later_bits, point_bits, later_state, state_after}
use Rattle.encode.specs.States.{Enc, enc, progress_by, progress}
use Rattle.encode.specs.Codes.{xor_digits, digits_in, code_of}
use Rattle.encode.specs.Calls.{Outcome, no_fit, standing, open_fault, room_fault, point_fault, encode_of}

-- after opening on n bytes at 0, and at a place of our own
abbrev begins : ℕ → ℕ → Bool → Enc
begins n at closed = enc n at (state 0 0 0 (window 64 64)) true closed

-- a closed state, and a buffer of another length: 12
standing_at : standing 6 (begins 23 64 true) 24 ≡ 12
unfolding standing no_fit when or_else
standing_at = refl

-- a position in the start; the last one with room for the marker, and the next
misfit_at : no_fit 6 (begins 23 63 false) 23 ≡ true
unfolding no_fit bad_window no_digit unopened
misfit_at = refl

last_at : no_fit 6 (begins 23 148 false) 23 ≡ false
unfolding no_fit bad_window no_digit unopened
last_at = refl

past_at : no_fit 6 (begins 23 149 false) 23 ≡ true
unfolding no_fit bad_window no_digit unopened
past_at = refl

open_at : open_fault 12 ≡ 1
unfolding open_fault when or_else
open_at = refl

-- a first delta of 16384: 3
first_at : time_fault (progress (begins 23 64 false)) 16384 ≡ 3
unfolding progress_by time_fault
first_at = refl

-- M2's point on 22 bytes, and a time that falls where there is no room either
room_at : point_fault 6 (begins 22 64 false) 22 (point_of 10 0) ≡ 1
unfolding point_fault standing no_fit bad_window no_digit unopened room_fault when or_else progress_by time_fault point_bits first_bits bits_of
room_at = refl

order_at : point_fault 6 (enc 22 64 (state 10 10 0 (window 64 64)) false false) 22 (point_of 9 1) ≡ 2
unfolding point_fault standing no_fit bad_window no_digit unopened room_fault when or_else progress_by time_fault
order_at = refl

-- refused 2, with the bits as they were
refused_at : ◌≡◌ {A = Outcome} (encode_of 6 (enc 22 64 (state 10 10 0 (window 64 64)) false false) 22 (replicate 176 true) (point_of 9 1))
    (refused 2, enc 22 64 (state 10 10 0 (window 64 64)) false false, replicate 176 true)
unfolding encode_of by_fault point_fault standing no_fit bad_window no_digit unopened room_fault when or_else progress_by time_fault
refused_at = refl

-- M4's second point: 0 11 000010 001001, ten ones, and the window 2 and 52
code_at : code_of 6 (going (state 10 10 0 (window 64 64))) (point_of 20 0x3ff0000000000000) ≡ given (0b011000010001001 ∷ 15 ∷ 0b1111111111 ∷ 10 ∷ 2 ∷ 52 ∷ [])
unfolding code_of by_fault digits_in xor_digits time_fault within point_bits later_bits dod_bits row_bits in_row raw xor_bits open_bits reuse_bits reuses tight window_after state_after later_state count_leading_zeros count_trailing_zeros bits_of odd value_of digit
code_at = refl
