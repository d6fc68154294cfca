-- The encoder's state in plain numbers, and how it stands to the layout.
use Rattle.std.specs.Prelude.{Bool, cond, ℕ}
use Rattle.layout.specs.declared.Window.{Window}
use Rattle.layout.specs.declared.State.{State}
use Rattle.layout.specs.Writing.{Point, state, Progress, begun, going}
use Rattle.point.specs.declared.Stored.{Stored}
use Rattle.encode.specs.declared.last.Last.{Last}
use Rattle.encode.specs.declared.std_encoder.StdEncoder.{StdEncoder}

pub record Enc : Type 0 where
  -- the buffer's length in bytes, at opening
  pub len : ℕ
  -- where the next bit goes
  pub at : ℕ
  -- the last point: its time, the delta that led to it, its value; before the first point the time is the start
  pub time : ℕ
  pub delta : ℕ
  pub value : ℕ
  pub window : Window
  -- is the next point the first?
  pub first : Bool
  pub closed : Bool

abbrev pub enc : ℕ → ℕ → State → Bool → Bool → Enc
enc n q s f x =
    record { len = n; at = q; time = s.time; delta = s.delta; value = s.value; window = s.window; first = f; closed = x }

-- the layout's state in it
abbrev pub kept : Enc → State
kept e = state e.time e.delta e.value e.window

-- how far a series is: at its start, or after a point
unfoldable pub progress_by : Bool → State → Progress
progress_by first s = cond first (begun s.time s.window) (going s)

abbrev pub progress : Enc → Progress
progress e = progress_by e.first (kept e)

abbrev pub view : StdEncoder → Enc
view e = enc e.len.0 e.w.at.0 e.last.kept e.last.first e.closed

abbrev pub point_of : Stored → Point
point_of p = record { time = p.time; value = p.bits }

-- ---- what is kept of the last point

abbrev pub last_of : Enc → Last
last_of e = record { kept = kept e; first = e.first }

abbrev pub progress_in : Last → Progress
progress_in k = progress_by k.first k.kept
