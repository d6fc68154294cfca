-- The promises at one sitting, by computing: where a wrong definition has to fail. 25 bytes of ones; four offers at start 0, of which the
-- second falls (and has no room either), and the third has no room; the others are M3.
use mathlib.Core.Path.{◌≡◌, refl}
use mathlib.Core.List.{List, [], ◌∷◌, ◌++◌, map}
use Prim.Native.Nat.{ℕ, ◌+◌}
use lib.Count.{count_leading_zeros, count_trailing_zeros}
use lib.ListN.{take, replicate}
use Rattle.stream.specs.Bits.{odd, digit, bits_of, value_of, bits, edge, field, laid, replaced}
use Rattle.stream.specs.Refusals.{when, or_else, by_fault}
use Rattle.stream.specs.Calls.{given, refused}
use Rattle.layout.specs.Rows.{within, signed}
use Rattle.layout.specs.Windows.{no_digit, unopened, bad_window, reuses, tight, open_bits, reuse_bits, xor_bits, window_after}
use Rattle.layout.specs.Writing.{Point, point_of, opened, time_fault, dod_bits, start_bits, marker, first_state, first_bits, later_bits, point_bits, later_state, state_after}
use Rattle.layout.specs.Reading.{run, read_start, read_row, read_dod, new_time, read_marker, read_value, after_dod, read_later, first_time, read_first, read_next}
use Rattle.layout.specs.Answers.{a_point, an_end, refusal, reached, answer_of, step, after_start, first_step}
use Rattle.layout.specs.Cases.{m3}
use Rattle.encode.specs.States.{progress_by}
use Rattle.encode.specs.Calls.{no_fit, standing, open_fault, room_fault, point_fault, fresh, after, open_of, encode_of, close_of}
use Rattle.decode.specs.Calls as decoder
use Rattle.series.specs.Sittings.{offers_of, sat_of, closed_of, ruling, accepts, rulings, sum_of, taken_of}
use Rattle.series.specs.Promises.{decodes}

offers : List Point
offers = point_of 10 0 ∷ point_of 9 0x3ff0000000000000 ∷ point_of 20 0x3ff0000000000000 ∷ point_of 20 0 ∷ []

ones : List ℕ
ones = replicate 25 255

-- ---- `sitting`: the calls' answers, the rules', and the bytes behind closing

answers_at : (sat_of 6 0 25 (bits ones) offers).0 ≡ given [] ∷ refused 2 ∷ refused 1 ∷ given [] ∷ []
unfolding offers ones bits bits_of odd edge laid replaced when or_else by_fault within no_digit unopened bad_window reuses tight open_bits reuse_bits xor_bits window_after time_fault dod_bits start_bits marker first_state first_bits later_bits point_bits later_state state_after progress_by no_fit standing open_fault room_fault point_fault fresh after open_of encode_of offers_of count_leading_zeros count_trailing_zeros
answers_at = refl

rulings_at : rulings 6 25 64 (opened 6 0) offers ≡ given [] ∷ refused 2 ∷ refused 1 ∷ given [] ∷ []
unfolding offers bits_of when or_else by_fault within reuses tight open_bits reuse_bits xor_bits window_after time_fault dod_bits first_state first_bits later_bits point_bits later_state state_after ruling rulings count_leading_zeros count_trailing_zeros
rulings_at = refl

taken_at : taken_of 6 0 25 offers ≡ point_of 10 0 ∷ point_of 20 0 ∷ []
unfolding offers bits_of when or_else by_fault within reuses tight open_bits reuse_bits xor_bits window_after time_fault dod_bits first_state first_bits later_bits point_bits later_state state_after ruling accepts count_leading_zeros count_trailing_zeros
taken_at = refl

closed_at : (closed_of 6 0 25 (bits ones) offers).0 ≡ given (181 ∷ 23 ∷ [])
unfolding offers ones bits bits_of odd edge laid replaced when or_else by_fault within no_digit unopened bad_window reuses tight open_bits reuse_bits xor_bits window_after time_fault dod_bits start_bits marker first_state first_bits later_bits point_bits later_state state_after progress_by no_fit standing open_fault room_fault point_fault fresh after open_of encode_of close_of offers_of count_leading_zeros count_trailing_zeros
closed_at = refl

bytes_at : (closed_of 6 0 25 (bits ones) offers).2 ≡ bits (m3 ++ (255 ∷ 255 ∷ []))
unfolding offers ones bits bits_of odd edge laid replaced when or_else by_fault within no_digit unopened bad_window reuses tight open_bits reuse_bits xor_bits window_after time_fault dod_bits start_bits marker first_state first_bits later_bits point_bits later_state state_after progress_by no_fit standing open_fault room_fault point_fault fresh after open_of encode_of close_of offers_of count_leading_zeros count_trailing_zeros
bytes_at = refl

-- ---- `in_use`

sum_at : 64 + sum_of 6 (opened 6 0) (taken_of 6 0 25 offers) ≡ 145
unfolding offers bits_of when or_else by_fault within reuses tight open_bits reuse_bits xor_bits window_after time_fault dod_bits first_state first_bits later_bits point_bits later_state state_after ruling accepts sum_of count_leading_zeros count_trailing_zeros
sum_at = refl

-- ---- `points_come_back`, `more_data` and `closed_cut`: those bytes with two more behind them; cut before the last, before the second
-- point's end, behind the start and in it

back_at : map (decodes 6 4) ((m3 ++ (255 ∷ 255 ∷ [])) ∷ take 22 m3 ∷ take 18 m3 ∷ take 8 m3 ∷ take 7 m3 ∷ [])
    ≡ (a_point 10 0 143 ∷ a_point 20 0 145 ∷ an_end 181 ∷ an_end 181 ∷ [])
    ∷ (a_point 10 0 143 ∷ a_point 20 0 145 ∷ refusal 7 ∷ refusal 7 ∷ [])
    ∷ (a_point 10 0 143 ∷ refusal 7 ∷ refusal 7 ∷ refusal 7 ∷ []) ∷ replicate 4 (refusal 7) ∷ replicate 4 (refusal 6) ∷ []
unfolding odd digit bits_of value_of bits field when by_fault signed no_digit run read_start read_row read_dod new_time read_marker read_value after_dod read_later first_time read_first read_next reached answer_of step after_start first_step decoder.fresh decoder.open_of decoder.ends decoder.stepped decoder.no_fit decoder.onward decoder.next_by decoder.next_of decoder.nexts_of
back_at = refl
