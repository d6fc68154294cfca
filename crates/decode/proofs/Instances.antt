-- The promises at a few points each, by computing. The general proofs stand in the other files. A changed definition may break one of
-- them only because its text no longer fits; what breaks here is a promise that has become false.
use Rattle.std.proofs.Common.{◌≡◌, ℕ, ◌+◌, true, false, List, [], ◌∷◌, map, length, take, replicate, refl}
use Rattle.stream.specs.Bits.{odd, digit, bits_of, value_of, bits, field}
use Rattle.stream.specs.Refusals.{when, by_fault}
use Rattle.stream.specs.Calls.{limit, Told, refused}
use Rattle.layout.specs.Rows.{signed}
use Rattle.layout.specs.Windows.{window, no_digit}
use Rattle.layout.specs.Writing.{state}
use Rattle.layout.specs.Reading.{run, read_start, read_row, read_dod, new_time, read_marker, read_digits, read_opened, read_window, read_xor, read_value, after_dod, read_later, first_time, read_first, read_next}
use Rattle.layout.specs.Answers.{Answer, an_end, refusal, reached, answer_of, step, after_start, first_step, next_step, outcomes_after, outcomes, answers}
use Rattle.layout.specs.Cases.{m1, m3}
use Rattle.decode.specs.States.{still, over, Dec, dec}
use Rattle.decode.specs.Calls.{fresh, shut, open_of, ends, stepped, no_fit, onward, next_by, next_of, nexts_of}

-- ---- `opened_answers`: M3, and M1 whole and cut

buffers : List (List ℕ)
buffers = m3 ∷ m1 ∷ take 7 m1 ∷ take 12 m1 ∷ []

opened_at : map (λ (l : List ℕ). nexts_of 6 4 (open_of (length l)).1 (length l) (bits l)) buffers ≡ map (λ (l : List ℕ). answers 6 4 (bits l)) buffers
unfolding buffers odd digit bits_of value_of bits field when by_fault signed no_digit run read_start read_row read_dod new_time read_marker read_digits read_opened read_window read_xor read_value after_dod read_later first_time read_first read_next reached answer_of step after_start first_step next_step outcomes_after outcomes answers fresh open_of ends stepped no_fit onward next_by next_of nexts_of
opened_at = refl

-- ---- `refused_answers`: one byte above the limit

refused_at : ◌≡◌ {A = Told × List Answer} ((open_of (limit + 1)).0, nexts_of 6 3 (open_of (limit + 1)).1 0 []) (refused 5, replicate 3 (refusal 5))
unfolding when by_fault shut open_of next_by next_of nexts_of
refused_at = refl

-- ---- `misfits`: states of 2 bytes on 1, 3 and 2; at the last bit and behind it; with windows of one digit and of none; states at the
-- limit and above it

-- behind a point, at q of n bytes, with a window of l and t zeros
stood : ℕ → ℕ → ℕ → ℕ → Dec
stood n q l t = dec n q (state 0 0 0 (window l t)) false still

misfit_at : map (λ (x : Dec × ℕ). no_fit 6 x.0 x.1)
    ((stood 2 0 0 0, 1) ∷ (stood 2 0 0 0, 3) ∷ (stood 2 0 0 0, 2) ∷ (stood 2 16 0 0, 2) ∷ (stood 2 17 0 0, 2)
    ∷ (stood 2 0 32 31, 2) ∷ (stood 2 0 32 32, 2) ∷ (stood limit 0 0 0, limit) ∷ (stood (limit + 1) 0 0 0, limit + 1) ∷ [])
    ≡ true ∷ true ∷ false ∷ false ∷ true ∷ false ∷ true ∷ false ∷ true ∷ []
unfolding stood no_digit no_fit
misfit_at = refl

-- ---- `every_state`: an ended one on a buffer that it does not fit; one on another length; one behind which nothing stands

stopped : Dec
stopped = dec 13 0 (state 0 0 0 (window 0 0)) true (over (an_end 100))

state_at : map (λ (d : Dec). next_of 6 d 0 []) (stopped ∷ stood 1 0 0 0 ∷ stood 0 0 0 0 ∷ [])
    ≡ (an_end 100, stopped) ∷ (refusal 13, stood 1 0 0 0) ∷ (refusal 7, dec 0 0 (state 0 0 0 (window 0 0)) false (over (refusal 7))) ∷ []
unfolding stood stopped value_of field no_digit run read_dod read_later read_next reached answer_of step ends stepped no_fit onward next_by next_of
state_at = refl
