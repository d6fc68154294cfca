-- What the decoder's steps come to, one after the other: document 01, "A decoder step", and what is left of it on the first j bits.
-- The parameter c gives the width of a value, 2 ^ c bits: 6 for 64 bits.
use Rattle.std.specs.Prelude.{ℕ, zero, suc, ◌+◌, Bool, cond, List, [], ◌∷◌, map, leb, ltb, length, replicate}
use Rattle.layout.specs.declared.Window.{Window}
use Rattle.layout.specs.Windows.{decoder_window}
use Rattle.layout.specs.declared.State.{State}
use Rattle.layout.specs.Writing.{Progress, begun, going}
use Rattle.layout.specs.Reading.{Outcome, got, cut, run, read_start, Label, Found, point, ending, wrong, read_next}

-- ---- one step

-- what a step comes to, with the position behind the last bit that it used, refusals too;
-- of 6 and 7 the position behind the field that is not wholly there
pub data Reached : Type 0 where
  point_at : (after : State) (position : ℕ) → Reached
  end_at : (position : ℕ) → Reached
  wrong_at : (number position : ℕ) → Reached

unfoldable pub position : Reached → ℕ
position (point_at s q) = q
position (end_at q) = q
position (wrong_at k q) = q

-- the refusal where a field is not wholly there
abbrev pub lack_of : Label → ℕ
lack_of l = 7

unfoldable pub reached : Outcome Label Found → Reached
reached (got (point s) q) = point_at s q
reached (got ending q) = end_at q
reached (got (wrong k) q) = wrong_at k q
reached (cut l p n) = wrong_at (lack_of l) (p + n)

-- document 01's answers: a refusal has no position
pub data Answer : Type 0 where
  a_point : (time value position : ℕ) → Answer
  an_end : (position : ℕ) → Answer
  refusal : (number : ℕ) → Answer

unfoldable pub answer_of : Reached → Answer
answer_of (point_at s q) = a_point s.time s.value q
answer_of (end_at q) = an_end q
answer_of (wrong_at k q) = refusal k

module _ (c : ℕ) where
  -- a step from the position q on
  unfoldable pub step : Progress → ℕ → List Bool → Reached
  step g q s = reached (run (read_next c g) q s)

  -- behind the start: the first point; 6 where the start is not wholly there
  unfoldable pub after_start : Window → Outcome (Unit {0}) ℕ → List Bool → Reached
  after_start w (got start q) s = step (begun start w) q s
  after_start w (cut l p n) s = wrong_at 6 (p + n)

  unfoldable pub first_step : Window → ℕ → List Bool → Reached
  first_step w p s = after_start w (run read_start p s) s

  -- behind a point the next one is read; what ended is repeated
  unfoldable pub next_step : Reached → List Bool → Reached
  next_step (point_at st q) s = step (going st) q s
  next_step (end_at q) s = end_at q
  next_step (wrong_at k q) s = wrong_at k q

  -- ---- the first n steps on the bits s

  unfoldable pub outcomes_after : ℕ → Reached → List Bool → List Reached
  outcomes_after zero o s = []
  outcomes_after (suc n) o s = next_step o s ∷ outcomes_after n (next_step o s) s

  unfoldable pub outcomes : ℕ → List Bool → List Reached
  outcomes zero s = []
  outcomes (suc n) s = first_step decoder_window 0 s ∷ outcomes_after n (first_step decoder_window 0 s) s

  unfoldable pub answers : ℕ → List Bool → List Answer
  answers n s = map answer_of (outcomes n s)

-- ---- the first j bits

-- 6 below 64 bits, else 7
unfoldable pub lack : ℕ → ℕ
lack j = cond (ltb j 64) 6 7

-- from what the steps on a whole came to, each with its place and its answer, the answers on its first j bits:
-- the same as long as their place lies in the j; from the first whose does not, 6 or 7 for ever
unfoldable pub torn_by : {A : Type 0} → (A → ℕ) → (A → Answer) → ℕ → List A → List Answer
torn_by place told j [] = []
torn_by place told j (o ∷ os) = cond (leb (place o) j) (told o ∷ torn_by place told j os) (replicate (suc (length os)) (refusal (lack j)))

abbrev pub torn : ℕ → List Reached → List Answer
torn j os = torn_by position answer_of j os
