-- The two calls at a few points, by computing: where a wrong definition has to fail.
use mathlib.Core.Path.{◌≡◌, refl}
use mathlib.Core.Bool.{true}
use mathlib.Core.List.{[], ◌∷◌, ◌++◌}
use lib.ListN.{drop, replicate}
use Rattle.stream.specs.Bits.{odd, digit, bits_of, value_of, bits, edge, field, laid, replaced}
use Rattle.stream.specs.Refusals.{when, or_else, by_fault}
use Rattle.layout.specs.Rows.{within, signed}
use Rattle.layout.specs.Windows.{no_digit, unopened, bad_window}
use Rattle.layout.specs.Writing.{time_fault, start_bits, marker, first_bits, point_bits, first_state, state_after}
use Rattle.layout.specs.Reading.{run, read_start, read_row, read_dod, new_time, read_marker, read_digits, read_opened, read_window, read_xor, read_value, after_dod, read_later, first_time, read_first, read_next}
use Rattle.layout.specs.Answers.{reached, answer_of, step, after_start, first_step}
use Rattle.layout.specs.Cases.{m2, m3}
use Rattle.encode.specs.States.{progress_by}
use Rattle.encode.specs.Calls as encoder
use Rattle.encode.specs.Lists.{pairs, on_told, packs_of}
use Rattle.decode.specs.Calls as decoder
use Rattle.decode.specs.Lists.{on_point, starting_with, filling, unpacks_of, fills_of}
use Rattle.tsz.specs.Files.{saying, fault_in, used_in, PackLeaves, closing, packed_of, saying_at, answer_behind, UnpackLeaves, telling, unpacked_of}

-- 143 bits take 18 bytes
saying_at_lem : saying 7 1 143 ≡ 7 ∷ 1 ∷ 143 ∷ 18 ∷ []
unfolding saying
saying_at_lem = refl

-- the second time falls: the stream of the first point, M2, and a byte behind it that was not touched
packed_at : ◌≡◌ {A = PackLeaves} (packed_of 6 0 24 (replicate 192 true) (pairs (10 ∷ 9 ∷ []) (0 ∷ 0 ∷ []))) (2 ∷ 1 ∷ 179 ∷ 23 ∷ [], bits m2 ++ replicate 8 true)
unfolding packed_of closing fault_in used_in pairs on_told packs_of encoder.open_of encoder.open_fault encoder.fresh encoder.encode_of encoder.close_of encoder.marked encoder.point_fault encoder.standing encoder.no_fit encoder.room_fault encoder.after when or_else by_fault progress_by time_fault within bad_window no_digit unopened odd bits_of bits start_bits marker point_bits first_bits first_state state_after edge laid replaced
packed_at = refl

-- its end alone: the last digit of the value and 1111, and 32 zeros
closed_at : drop 136 (packed_of 6 0 24 (replicate 192 true) (pairs (10 ∷ 9 ∷ []) (0 ∷ 0 ∷ []))).1 ≡ bits (0x01 ∷ 0xE0 ∷ 0x00 ∷ 0x00 ∷ 0x00 ∷ 0x00 ∷ 0xFF ∷ [])
unfolding packed_of closing fault_in used_in pairs on_told packs_of encoder.open_of encoder.open_fault encoder.fresh encoder.encode_of encoder.close_of encoder.marked encoder.point_fault encoder.standing encoder.no_fit encoder.room_fault encoder.after when or_else by_fault progress_by time_fault within bad_window no_digit unopened odd bits_of bits start_bits marker point_bits first_bits first_state state_after edge laid replaced
closed_at = refl

-- 12 bytes
unopened_at : ◌≡◌ {A = PackLeaves} (packed_of 6 0 12 [] []) (1 ∷ 0 ∷ 0 ∷ 0 ∷ [], [])
unfolding saying packed_of fault_in on_told encoder.open_of encoder.open_fault encoder.shut when or_else by_fault
unopened_at = refl

-- M3 into lists of one entry, which are too short, and into lists of two
short_at : ◌≡◌ {A = UnpackLeaves} (unpacked_of 6 23 (bits m3) (7 ∷ []) (8 ∷ [])) (1 ∷ 1 ∷ 143 ∷ 18 ∷ [], 10 ∷ [], 0 ∷ [])
unfolding saying saying_at answer_behind telling unpacked_of unpacks_of on_point starting_with filling fills_of odd digit bits_of value_of bits field when by_fault signed no_digit run read_start read_row read_dod new_time read_marker read_digits read_opened read_window read_xor read_value after_dod read_later first_time read_first read_next reached answer_of step after_start first_step decoder.open_of decoder.fresh decoder.ends decoder.stepped decoder.no_fit decoder.onward decoder.next_by decoder.next_of
short_at = refl

enough_at : ◌≡◌ {A = UnpackLeaves} (unpacked_of 6 23 (bits m3) (7 ∷ 7 ∷ []) (8 ∷ 8 ∷ [])) (0 ∷ 2 ∷ 181 ∷ 23 ∷ [], 10 ∷ 20 ∷ [], 0 ∷ 0 ∷ [])
unfolding saying saying_at answer_behind telling unpacked_of unpacks_of on_point starting_with filling fills_of odd digit bits_of value_of bits field when by_fault signed no_digit run read_start read_row read_dod new_time read_marker read_digits read_opened read_window read_xor read_value after_dod read_later first_time read_first read_next reached answer_of step after_start first_step decoder.open_of decoder.fresh decoder.ends decoder.stepped decoder.no_fit decoder.onward decoder.next_by decoder.next_of
enough_at = refl
