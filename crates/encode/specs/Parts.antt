-- What the private parts of a call mean. No public call mentions it.
use Rattle.std.specs.Prelude.{◌≡◌, Bool, false, cond, List, [], ◌++◌, ℕ, ◌+◌, ◌-◌, ◌*◌, ◌^◌, ◌≤◌, ◌<◌, ℤ, Ok, Err, Some, None}
use Rattle.std.specs.declared.option.Option.{Option}
use Rattle.std.specs.declared.result.Result.{Result}
use Rattle.std.proofs.Math.IntN.{sub_ℕ}
use Rattle.stream.specs.Bits.{bits_of, replaced}
use Rattle.stream.specs.Refusals.{number_of}
use Rattle.stream.specs.Calls.{given}
use Rattle.stream.specs.declared.refusal.Refusal.{Refusal}
use Rattle.layout.specs.declared.Window.{Window}
use Rattle.layout.specs.Writing.{Point, state, Progress, in_range, time_fault, point_bits, state_after}
use Rattle.encode.specs.declared.code.Code.{Code}
use Rattle.encode.specs.declared.code.PointCode.{PointCode}
use Rattle.encode.specs.declared.std_encoder.StdEncoder.{StdEncoder}
use Rattle.encode.specs.States.{Enc, enc}
use Rattle.encode.specs.Codes.{digits_in}
use Rattle.encode.specs.Lists.{Packing}

-- a dod, if it is in range
unfoldable pub dod_for : ℕ → ℕ → Option ℤ
dod_for delta previous = cond (in_range (sub_ℕ delta previous)) (Some (sub_ℕ delta previous)) None

-- the bits that a code holds
unfoldable pub word_of : Code → List Bool
word_of k = bits_of k.len k.bits

-- nothing stands above a code's digits
abbrev pub Short : Code → Type 0
Short k = k.bits < 2 ^ k.len

unfoldable pub words : PointCode → List Bool
words k = word_of k.head ++ word_of k.digits

-- a point's code that holds the bits bs, the last n of them in its digits, with the window w
pub record Holds (k : PointCode) (bs : List Bool) (n : ℕ) (w : Window) : Type 0 where
  pub head : (k.head.len ≤ 50) × Short k.head
  pub digits : (k.digits.len ≤ 64) × Short k.digits
  pub size : k.digits.len ≡ n
  pub held : words k ≡ bs
  pub window : k.window ≡ w

-- the code of a point, or why its time is refused
abbrev pub Coded : Progress → Point → PointCode → Type 0
Coded g p k = (0 ≡ time_fault g p.time) × Holds k (point_bits 6 g p) (digits_in 6 g p) (state_after 6 g p).window

unfoldable pub Meets : Progress → Point → Result PointCode Refusal → Type 0
Meets g p (Ok k) = Coded g p k
Meets g p (Err r) = number_of r ≡ time_fault g p.time

-- ---- zeros that wait

-- a state z zeros further on, its last point at t
unfoldable pub ahead : ℕ → ℕ → Enc → Enc
ahead t z e = enc e.len (e.at + z) (state t e.delta e.value e.window) e.first e.closed

-- bits with z zeros put at q
unfoldable pub zeroed : List Bool → ℕ → ℕ → List Bool
zeroed bs q z = replaced bs q (bits_of z 0)

-- z zeros may wait: one write takes them, and the marker has room behind them
abbrev pub MayWait : ℕ → StdEncoder → Type 0
MayWait z e = (z ≤ 62) × (e.w.at.0 + z + 36 ≤ 8 * e.len.0)

-- the last point, at t, again, a delta later
pub record Repeats (e : Enc) (t : ℕ) (p : Point) : Type 0 where
  pub later : e.first ≡ false
  pub value : p.value ≡ e.value
  pub rises : t ≤ p.time
  pub delta : p.time - t ≡ e.delta

-- all k points were accepted
unfoldable pub all_taken : ℕ → Enc → List Bool → Packing
all_taken k e bs = (k, (given [], e, bs))
