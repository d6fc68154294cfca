-- The code of a point after a state: its bits in the layout, as two numbers.
use Rattle.std.specs.Prelude.{List, [], ◌∷◌, Bool, ℕ, zero, suc, ◌-◌, ◌^◌, length, take, drop}
use Rattle.std.specs.Int.Bits.{bit_xor}
use Rattle.stream.specs.Bits.{value_of}
use Rattle.std.specs.declared.result.Result.{Result}
use Rattle.stream.specs.Refusals.{by_fault}
use Rattle.stream.specs.Calls.{Told, given, refused, tell}
use Rattle.stream.specs.declared.refusal.Refusal.{Refusal}
use Rattle.layout.specs.declared.Window.{Window}
use Rattle.layout.specs.Windows.{digits, window_after}
use Rattle.layout.specs.Writing.{Point, Progress, begun, going, time_fault, point_bits, state_after}
use Rattle.encode.specs.declared.code.PointCode.{PointCode}

-- the numbers in it
abbrev pub in_code : PointCode → List ℕ
in_code k = k.head.bits ∷ k.head.len ∷ k.digits.bits ∷ k.digits.len ∷ k.window.lead ∷ k.window.trail ∷ []

abbrev pub tell_point : PointCode → Told
tell_point k = given (in_code k)

abbrev pub tell_code : Result PointCode Refusal → Told
tell_code = tell in_code

-- the numbers of bits of which the last k are digits: those before them and how many they are, the digits and how many they are;
-- and the window after them
abbrev pub numbers : List Bool → ℕ → Window → List ℕ
numbers bs k w =
    value_of (take (length bs - k) bs) ∷ (length bs - k) ∷ value_of (drop (length bs - k) bs) ∷ k ∷ w.lead ∷ w.trail ∷ []

module _ (c : ℕ) where
  -- how many digits a xor after a window takes
  unfoldable pub xor_digits : Window → ℕ → ℕ
  xor_digits w zero = 0
  xor_digits w (suc y) = digits c (window_after c w (suc y))

  -- how many of a point's bits are digits of its value
  unfoldable pub digits_in : Progress → Point → ℕ
  digits_in (begun start w) p = 2 ^ c
  digits_in (going s) p = xor_digits s.window (bit_xor p.value s.value)

  -- 2, then 3 or 4; or the point's bits, in two numbers
  unfoldable pub code_of : Progress → Point → Told
  code_of g p = by_fault (time_fault g p.time) (given (numbers (point_bits c g p) (digits_in g p) (state_after c g p).window)) refused
