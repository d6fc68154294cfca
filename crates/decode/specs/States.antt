-- The decoder's answers and its state in plain numbers, and what the layout makes of them.
use Rattle.std.specs.Prelude.{ℕ, Bool, Some, None, ⊤}
use Rattle.std.specs.declared.option.Option.{Option}
use Rattle.std.specs.declared.result.Result.{Result}
use Rattle.stream.specs.declared.refusal.Refusal.{Refusal}
use Rattle.stream.specs.Refusals.{number_of}
use Rattle.stream.specs.Calls.{Told, tell_write}
use Rattle.layout.specs.declared.Window.{Window}
use Rattle.layout.specs.declared.State.{State}
use Rattle.layout.specs.Writing.{state}
use Rattle.layout.specs.Answers.{Answer, a_point, an_end, refusal}
use Rattle.decode.specs.declared.std_decoder.Step.{Step}
use Rattle.decode.specs.declared.std_decoder.Step.TheVariants as step
use Rattle.decode.specs.declared.std_decoder.StdDecoder.{StdDecoder}

-- ---- answers

abbrev pub tell_open : Result ⊤ Refusal → Told
tell_open = tell_write

abbrev pub tell : Step → Answer
tell (step.Point p q) = a_point p.time p.bits q.0
tell (step.End q) = an_end q.0
tell (step.Refused r) = refusal (number_of r)

-- ---- states

-- running, or ended with the answer to repeat
pub data Ending : Type 0 where
  still : Ending
  over : Answer → Ending

abbrev pub ending_of : Option Step → Ending
ending_of None = still
ending_of (Some a) = over (tell a)

pub record Dec : Type 0 where
  -- the buffer's length in bytes, at opening
  pub len : ℕ
  -- where the next bit comes from
  pub at : ℕ
  -- the last point: its time, the delta that led to it, its value
  pub time : ℕ
  pub delta : ℕ
  pub value : ℕ
  pub window : Window
  -- is the next point the first?
  pub first : Bool
  pub ended : Ending

abbrev pub dec : ℕ → ℕ → State → Bool → Ending → Dec
dec n q s f e =
    record { len = n; at = q; time = s.time; delta = s.delta; value = s.value; window = s.window; first = f; ended = e }

-- the layout's state in it
abbrev pub kept : Dec → State
kept d = state d.time d.delta d.value d.window

abbrev pub view : StdDecoder → Dec
view d = dec d.len.0 d.r.at.0 d.kept d.first (ending_of d.ended)
