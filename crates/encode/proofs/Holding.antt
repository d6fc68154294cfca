-- A point's code is the point's bits.
use mathlib.Core.Path.{◌≡◌, ap₂, ◌∙◌}
use mathlib.Core.Bool.{Bool, cond}
use mathlib.Core.List.{List, ◌++◌}
use Prim.Native.Nat.{ℕ, zero, suc, ◌-◌, ◌≤◌}
use native.Mathlib.Omega.{arith}
use lib.Bits.{bit_xor}
use lib.ListN.{length, take, drop, take-append-drop, length-append, length-take, length-drop}
use Rattle.stream.specs.Bits.{bits_of, value_of}
use Rattle.stream.specs.Calls.{given, refused}
use Rattle.stream.proofs.Numbers.{length_bits_of, bits_of_value}
use Rattle.stream.proofs.Outcomes.{either, by_none, by_some}
use Rattle.layout.specs.declared.Window.{Window}
use Rattle.layout.specs.Windows.{digits, reuses, tight, reuse_bits, open_bits, xor_bits, window_after}
use Rattle.layout.specs.Writing.{Point, Progress, begun, going, dod_of, time_fault, dod_bits, first_bits, later_bits, point_bits, state_after}
use Rattle.layout.proofs.Tests.{by_bool}
use Rattle.encode.specs.Codes.{tell_point, numbers, xor_digits, digits_in, code_of}
use Rattle.encode.specs.Promises.{CodeHolds}

module _ (c : ℕ) where
  -- the digits are among the bits
  xor_has : (w : Window) (x : ℕ) → xor_digits c w x ≤ length (xor_bits c w x)
  unfolding xor_digits xor_bits window_after reuse_bits open_bits
  xor_has w zero = omega arith
  xor_has w (suc y) =
      by_bool (λ (b : Bool). digits c (cond b w (tight c (suc y))) ≤ length (cond b (reuse_bits c w (suc y)) (open_bits c (tight c (suc y)) (suc y)))) (reuses c w (suc y))
      (λ t. simp length_bits_of (omega arith))
      (λ t. simp (length-append, length_bits_of) (omega arith))

  point_has : (g : Progress) (p : Point) → digits_in c g p ≤ length (point_bits c g p)
  unfolding digits_in point_bits first_bits later_bits
  point_has (begun start w) p = simp (length-append, length_bits_of) (omega arith)
  point_has (going s) p =
      omega (arith, length-append (dod_bits (dod_of s p.time)) (xor_bits c s.window (bit_xor p.value s.value)), xor_has s.window (bit_xor p.value s.value))

-- the number of some bits, with their length, is those bits
number_back : (m x : ℕ) (l : List Bool) → m ≡ length l → x ≡ value_of l → bits_of m x ≡ l
number_back m x l e f = rw (e, f) (bits_of_value l)

-- two numbers of a list's two parts
parts_back : (bs : List Bool) (n a m b k : ℕ) → n ≤ length bs → a ≡ value_of (take (length bs - n) bs) → m ≡ length bs - n → b ≡ value_of (drop (length bs - n) bs) → k ≡ n
    → bits_of m a ++ bits_of k b ≡ bs
parts_back bs n a m b k h e₁ e₂ e₃ e₄ =
    ap₂ ◌++◌
    (number_back m a _ (rw length-take (omega arith)) e₁)
    (number_back k b _ (rw length-drop (omega arith)) e₃)
    ∙ take-append-drop (length bs - n) bs

pub code_holds : (c : ℕ) → CodeHolds c
unfolding code_of
code_holds c g p k e =
    either (time_fault g p.time)
    (λ none.
    let t : tell_point k ≡ given (numbers (point_bits c g p) (digits_in c g p) (state_after c g p).window) = e ∙ by_none (time_fault g p.time) _ refused none in
    parts_back (point_bits c g p) (digits_in c g p) k.head.bits k.head.len k.digits.bits k.digits.len (point_has c g p) (cc) (cc) (cc) (cc))
    (λ some.
    let t : tell_point k ≡ refused (time_fault g p.time) = e ∙ by_some (time_fault g p.time) _ refused some in
    let z : ◌≡◌ {A = ℕ} 0 1 = cc in
    absurd (omega arith))
