-- The readers of a value, by what was read.
use Rattle.std.proofs.Common.{◌≡◌, ℕ, ◌+◌, ◌-◌, ◌*◌, ◌%◌, ◌^◌, ◌<◌, ◌≤◌, Bool, List, ◌∙◌, arith, shl_exact, le-ltb, lt-ltb}
use lib.Bits.{bit_xor}
use Rattle.layout.specs.declared.Window.{Window}
use Rattle.layout.specs.Windows.{window}
use Rattle.layout.specs.Reading.{ask, item, window_zeros, value_digits, Reader, read_digits, read_opened, read_window}
use Rattle.layout.specs.Answers.{wrong_at}
use Rattle.decode.specs.declared.field.Peeked.{Peeked}
use Rattle.std.specs.Prelude.{Ok}
use Rattle.stream.specs.Bits.{bits}
use Rattle.decode.specs.Parts.{place, GotField, comes_to, from}
use Rattle.decode.proofs.Fields.{by_whole, whole_lt, done_wrong}

-- the digits of a window, shifted among 64: none is lost
pub digits_read : (l : List ℕ) (p v : ℕ) (w : Window) (x : ℕ × Peeked) → GotField l p (64 - w.lead - w.trail) (Ok x) → w.lead + w.trail < 64
    → (f : Window → ℕ → Reader) → from (f w (bit_xor (x.0 * 2 ^ w.trail % 2 ^ 64) v)) x.1 ≡ comes_to (read_digits 6 v w f) p (bits l)
unfolding read_digits
digits_read l p v w x k h f =
    let n = 64 - w.lead - w.trail in
    let exact : x.0 * 2 ^ w.trail % 2 ^ 64 ≡ x.0 * 2 ^ w.trail = shl_exact n w.trail 64 (whole_lt l p n x k) (omega arith) in
    rw exact (by_whole (item value_digits 0) n (λ x. f w (bit_xor (x * 2 ^ w.trail) v)) p l x k)

-- a window of l leading zeros and k digits
module _ (v l k q : ℕ) (s : List Bool) (f : Window → ℕ → Reader) where
  pub opened_bad : 64 < l + k → wrong_at 9 0 ≡ comes_to (read_opened 6 v f l k) q s
  unfolding read_opened
  opened_bad h = rw (lt-ltb 64 (l + k) h) (done_wrong q s 9)

  pub opened_good : l + k ≤ 64 → comes_to (read_digits 6 v (window l (64 - l - k)) f) q s ≡ comes_to (read_opened 6 v f l k) q s
  unfolding read_opened
  opened_good h = rw (le-ltb 64 (l + k) h)

-- the two fields of a window
pub window_read_lem : (l : List ℕ) (p v : ℕ) (x y : ℕ × Peeked) → GotField l p 6 (Ok x) → GotField x.1.buf.now (place x.1) 6 (Ok y)
    → (f : Window → ℕ → Reader) → from (read_opened 6 v f x.0 (y.0 + 1)) y.1 ≡ comes_to (read_window 6 v f) p (bits l)
unfolding read_window
window_read_lem l p v x y k k' f =
    by_whole (item window_zeros 6) 6 (λ k. read_opened 6 v f x.0 (k + 1)) (place x.1) x.1.buf.now y k'
    ∙ by_whole (item window_zeros 0) 6 (λ z. ask (item window_zeros 6) 6 (λ k. read_opened 6 v f z (k + 1))) p l x k
