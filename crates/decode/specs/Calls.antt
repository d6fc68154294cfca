-- What each call of the decoder answers and the state it returns, for all states and inputs: document 01, "A decoder step".
use Rattle.std.specs.Prelude.{ℕ, zero, suc, ◌*◌, Bool, true, false, cond, not, ◌||◌, List, [], ◌∷◌, ◌==◌, nat_lt, ⊤}
use Rattle.stream.specs.Refusals.{when, by_fault}
use Rattle.stream.specs.Calls.{limit, Told, given, refused}
use Rattle.layout.specs.Windows.{decoder_window, window, no_digit}
use Rattle.layout.specs.Writing.{state, going}
use Rattle.layout.specs.Answers.{Reached, point_at, end_at, wrong_at, Answer, refusal, answer_of, step, first_step}
use Rattle.std.specs.declared.result.Result.{Result}
use Rattle.stream.specs.declared.refusal.Refusal.{Refusal}
use Rattle.decode.specs.declared.std_decoder.Step.{Step}
use Rattle.decode.specs.declared.std_decoder.Decoded.{Decoded}
use Rattle.decode.specs.States.{tell, tell_open, Ending, still, over, Dec, dec, kept, view}

-- ---- outcomes on paper: what was answered, and the state after it; no call writes

abbrev pub told_opened : Decoded (Result ⊤ Refusal) → Told × Dec
told_opened r = (tell_open r.answer, view r.decoder)

abbrev pub told_next : Decoded Step → Answer × Dec
told_next r = (tell r.answer, view r.decoder)

-- ---- opening on n bytes: 5, or a decoder before the start

unfoldable pub fresh : ℕ → Dec
fresh n = dec n 0 (state 0 0 0 decoder_window) true still

-- ended with a refusal, its other fields zero
unfoldable pub shut : ℕ → Dec
shut r = dec 0 0 (state 0 0 0 (window 0 0)) false (over (refusal r))

unfoldable pub open_of : ℕ → Told × Dec
open_of n = by_fault {A = Told × Dec} (when (nat_lt limit n) 5) (given [], fresh n) (λ r. (refused r, shut r))

-- ---- what a step comes to

-- as before the step, with the answer to repeat
unfoldable pub ends : Dec → Answer → Answer × Dec
ends d a = (a, dec d.len d.at (kept d) d.first (over a))

-- a point moves the decoder behind it; the end and a refusal end it
unfoldable pub stepped : Dec → Reached → Answer × Dec
stepped d (point_at s q) = (answer_of (point_at s q), dec d.len q s false still)
stepped d (end_at q) = ends d (answer_of (end_at q))
stepped d (wrong_at k q) = ends d (answer_of (wrong_at k q))

-- values of 2^c bits; n is the buffer's length in bytes, bs its bits
module _ (c : ℕ) where
  -- 13: another length than at opening, one above the limit, a position beyond the buffer, a window without a digit
  unfoldable pub no_fit : Dec → ℕ → Bool
  no_fit d n = not (n == d.len) || (nat_lt limit d.len || (nat_lt (8 * d.len) d.at || no_digit c d.window))

  -- the start and the first point, or a later one, from the state's position on
  unfoldable pub onward : Dec → List Bool → Reached
  onward d bs = cond d.first (first_step c d.window d.at bs) (step c (going (kept d)) d.at bs)

  -- an ended decoder repeats its answer; then 13, which neither ends nor changes it; then the fields
  unfoldable pub next_by : Ending → Dec → ℕ → List Bool → Answer × Dec
  next_by (over a) d n bs = (a, d)
  next_by still d n bs = cond (no_fit d n) (refusal 13, d) (stepped d (onward d bs))

  unfoldable pub next_of : Dec → ℕ → List Bool → Answer × Dec
  next_of d n bs = next_by d.ended d n bs

  -- the answers of k steps, each given the state that the last one returned
  unfoldable pub nexts_of : ℕ → Dec → ℕ → List Bool → List Answer
  nexts_of zero d n bs = []
  nexts_of (suc k) d n bs = (next_of d n bs).0 ∷ nexts_of k (next_of d n bs).1 n bs
