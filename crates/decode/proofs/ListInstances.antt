-- Unpacking at a few points, by computing: what breaks here is a promise that has become false.
use Rattle.std.proofs.Common.{◌≡◌, ℕ, List, [], ◌∷◌, refl}
use Rattle.stream.specs.Bits.{odd, digit, bits_of, value_of, bits, field}
use Rattle.layout.specs.Rows.{signed}
use Rattle.layout.specs.Windows.{no_digit}
use Rattle.layout.specs.Reading.{run, read_start, read_row, read_dod, new_time, read_marker, read_digits, read_opened, read_window, read_xor, read_value, after_dod, read_later, first_time, read_first, read_next}
use Rattle.layout.specs.Answers.{an_end, reached, answer_of, step, after_start, first_step}
use Rattle.layout.specs.Cases.{m3}
use Rattle.decode.specs.Calls as decoder
use Rattle.decode.specs.Lists.{Stop, full, said, on_point, starting_with, Filling, filling, unpacks_of, fills_of}

-- M3, opened on its 23 bytes

filled : List ℕ → List ℕ → Filling
filled ts vs = fills_of 6 (decoder.fresh 23) 23 (bits m3) ts vs

-- what is told without the state
told : Filling → ℕ × Stop × List ℕ × List ℕ
told f = (f.0, f.1, f.3, f.4)

-- three entries: two points, the end behind 181 bits, and an entry that stays
ended_at : told (filled (7 ∷ 8 ∷ 9 ∷ []) (4 ∷ 5 ∷ 6 ∷ [])) ≡ (2, said (an_end 181), 10 ∷ 20 ∷ 9 ∷ [], 0 ∷ 0 ∷ 6 ∷ [])
unfolding told filled unpacks_of on_point starting_with filling fills_of odd digit bits_of value_of bits field signed no_digit run read_start read_row read_dod new_time read_marker read_digits read_opened read_window read_xor read_value after_dod read_later first_time read_first read_next reached answer_of step after_start first_step decoder.fresh decoder.ends decoder.stepped decoder.no_fit decoder.onward decoder.next_by decoder.next_of
ended_at = refl

-- one time and two values: one point, and the second value stays
full_at : told (filled (7 ∷ []) (4 ∷ 5 ∷ [])) ≡ (1, full, 10 ∷ [], 0 ∷ 5 ∷ [])
unfolding told filled unpacks_of on_point starting_with filling fills_of odd digit bits_of value_of bits field signed no_digit run read_start read_row read_dod new_time read_marker read_digits read_opened read_window read_xor read_value after_dod read_later first_time read_first read_next reached answer_of step after_start first_step decoder.fresh decoder.ends decoder.stepped decoder.no_fit decoder.onward decoder.next_by decoder.next_of
full_at = refl
