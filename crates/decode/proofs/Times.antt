-- A dod's field as a machine word, and the new time: checks 10 and 11, and that behind them the wrapping sum is the true one.
use Rattle.std.proofs.Common.{◌≡◌, ℕ, zero, suc, ◌+◌, ◌-◌, ◌*◌, ◌%◌, ◌^◌, ◌<◌, ◌≤◌, Bool, List, ℤ, pos, negsuc, ◌+ℤ◌, ap, ◌∙◌, arith, pow_mono, w64, of_z, le-ltb, lt-ltb}
use Rattle.stream.proofs.Taking.{one_shl}
use Rattle.layout.specs.Rows.{minus, signed}
use Rattle.layout.specs.Reading.{Reader, new_time}
use Rattle.layout.specs.Answers.{wrong_at}
use Rattle.decode.specs.Parts.{comes_to}
use Rattle.decode.proofs.Fields.{done_wrong}

minus_some : (m : ℕ) → 0 < m → minus m ≡ negsuc (m - 1)
minus_some zero h = absurd (omega arith)
minus_some (suc k) h = ap negsuc (omega arith)

module _ (n raw : ℕ) (h : 1 ≤ n) (k : n ≤ 32) (b : raw < 2 ^ n) where
  half : 1 * 2 ^ (n - 1) % 2 ^ 64 ≡ 2 ^ (n - 1)
  half = one_shl (n - 1) 64 (omega arith)

  small : 2 ^ n ≤ 2 ^ 32
  small = pow_mono k

  -- a number above the half is negative
  below : 1 * 2 ^ (n - 1) % 2 ^ 64 < raw → signed n raw ≡ negsuc (2 ^ n - raw - 1)
  unfolding signed
  below l = rw (lt-ltb (2 ^ (n - 1)) raw (rw half at l)) (minus_some (2 ^ n - raw) (omega arith))

  above : raw ≤ 1 * 2 ^ (n - 1) % 2 ^ 64 → signed n raw ≡ pos raw
  unfolding signed
  above l = rw (le-ltb (2 ^ (n - 1)) raw (rw half at l))

  pub extend_below : (r : ℕ) → r < 2 ^ 64 → 1 * 2 ^ (n - 1) % 2 ^ 64 < raw → (r + 1 * 2 ^ n % 2 ^ 64) % 2 ^ 64 ≡ raw → r ≡ of_z w64 (signed n raw)
  extend_below r f l e = rw (below l) (omega (arith, small, rw (one_shl n 64 (omega arith)) at e))

  pub extend_above : raw ≤ 1 * 2 ^ (n - 1) % 2 ^ 64 → raw ≡ of_z w64 (signed n raw)
  extend_above l = rw (above l)

  -- the true sum, by the sign
  pub sum_falls : (delta : ℕ) → 1 * 2 ^ (n - 1) % 2 ^ 64 < raw → delta < 1 * 2 ^ n % 2 ^ 64 - raw → (j : ℕ) × (pos delta +ℤ signed n raw ≡ negsuc j)
  sum_falls delta l m =
      let m' : delta < 2 ^ n - raw = rw (one_shl n 64 (omega arith)) at m in
      let g : delta < suc (2 ^ n - raw - 1) = omega arith in
      (suc (2 ^ n - raw - 1) - suc delta, rw (below l, lt-ltb delta (suc (2 ^ n - raw - 1)) g))

  pub sum_above : (delta : ℕ) → raw ≤ 1 * 2 ^ (n - 1) % 2 ^ 64 → pos delta +ℤ signed n raw ≡ pos (delta + raw)
  sum_above delta l = rw (above l)

  -- and the wrapping sum
  module _ (delta d x : ℕ) (f : delta < 2 ^ 64) (e : x ≡ of_z w64 (signed n raw)) (w : d ≡ (delta + x) % 2 ^ 64) where
    pub wraps_below : 1 * 2 ^ (n - 1) % 2 ^ 64 < raw → 1 * 2 ^ n % 2 ^ 64 - raw ≤ delta → pos delta +ℤ signed n raw ≡ pos d
    wraps_below l m =
        let m' : 2 ^ n - raw ≤ delta = rw (one_shl n 64 (omega arith)) at m in
        let g : suc (2 ^ n - raw - 1) ≤ delta = omega arith in
        let e' : x ≡ 2 ^ 64 - suc (2 ^ n - raw - 1) = rw (below l) at e in
        rw (below l, le-ltb delta (suc (2 ^ n - raw - 1)) g) (ap pos (omega (arith, small)))

    pub wraps_above : raw ≤ 1 * 2 ^ (n - 1) % 2 ^ 64 → raw ≤ 2 ^ 64 - 1 - delta → pos delta +ℤ signed n raw ≡ pos d
    wraps_above l m = let e' : x ≡ raw = rw (above l) at e in sum_above delta l ∙ ap pos (omega arith)

module _ (t q : ℕ) (s : List Bool) (f : ℕ → ℕ → Reader) (z : ℤ) where
  pub time_falls : (j : ℕ) × (z ≡ negsuc j) → wrong_at 10 0 ≡ comes_to (new_time t z f) q s
  unfolding new_time
  time_falls k = rw k.1 (done_wrong q s 10)

  pub time_passes : (d : ℕ) → z ≡ pos d → 2 ^ 64 ≤ t + d → wrong_at 11 0 ≡ comes_to (new_time t z f) q s
  unfolding new_time
  time_passes d e h = rw (e, lt-ltb (2 ^ 64 - 1) (t + d) (omega arith)) (done_wrong q s 11)

  pub time_got : (d : ℕ) → z ≡ pos d → t + d < 2 ^ 64 → comes_to (f (t + d) d) q s ≡ comes_to (new_time t z f) q s
  unfolding new_time
  time_got d e h = rw (e, le-ltb (2 ^ 64 - 1) (t + d) (omega arith))
