-- How long a stream is.
use mathlib.Core.Path.{◌≡◌, refl}
use Prim.Native.Nat.{ℕ, zero, suc, ◌+◌, ◌-◌, ◌*◌, ◌^◌, ◌≤◌}
use native.Mathlib.Omega.{arith}
use mathlib.Core.Bool.{Bool, true, cond}
use mathlib.Core.List.{List, [], ◌∷◌}
use lib.ListN.{length, length-append}
use lib.IntN.{ℤ, pos, negsuc}
use lib.Bits.{bit_xor}
use lib.Count.{count_leading_zeros, count_trailing_zeros}
use Rattle.stream.specs.Bits.{odd, bits_of, bytes_for}
use Rattle.stream.proofs.Numbers.{length_bits_of}
use Rattle.layout.specs.declared.Row.{Row}
use Rattle.layout.specs.Rows.{within, row7, longer_rows, rows, fits, raw}
use Rattle.layout.specs.declared.Window.{Window}
use Rattle.layout.specs.Windows.{reuses, tight, reuse_bits, open_bits, xor_bits, window_after}
use Rattle.layout.specs.declared.State.{State}
use Rattle.layout.specs.Writing.{Point, going, dod_of, in_range, time_fault, in_row, row_bits, dod_bits, start_bits, marker, first_bits, later_bits, point_bits, first_state, later_state, state_after, rest_bits, opened, stream_bits, Accepted}
use Rattle.layout.specs.Promises.{Every, Sizes}
use Rattle.layout.proofs.Tests.{by_bool}
use Rattle.layout.proofs.Times.{last_fits}
use Rattle.layout.proofs.Round.{later_taken}

abbrev Between : ℕ → ℕ → ℕ → Type 0
Between a b n = (a ≤ n) × (n ≤ b)

-- ---- a time

abbrev RowSize : Row → Type 0
RowSize r = Between 1 36 (r.prefix_len + r.width)

row_sizes : Every RowSize rows
row_sizes = ((omega arith, omega arith), ((omega arith, omega arith), ((omega arith, omega arith), ((omega arith, omega arith), tt))))

length_row : (r : Row) (d : ℤ) → length (in_row r d) ≡ r.prefix_len + r.width
unfolding in_row
length_row r d = simp (length-append, length_bits_of)

row_size : (r : Row) (rs : List Row) (d : ℤ) → last_fits r rs d ≡ true → Every RowSize (r ∷ rs) → Between 1 36 (length (row_bits (r ∷ rs) d))
unfolding row_bits
row_size r [] d h t = rw (h, length_row r d) t.0
row_size r (r' ∷ rs) d h t =
    by_bool (λ (b : Bool). Between 1 36 (length (cond b (in_row r d) (row_bits (r' ∷ rs) d)))) (fits r d)
    (λ e. rw (length_row r d) t.0)
    (λ e. row_size r' rs d h t.1)

dod_size : (d : ℤ) → in_range d ≡ true → Between 1 36 (length (dod_bits d))
unfolding dod_bits
dod_size (pos zero) h = (omega arith, omega arith)
dod_size (pos (suc a)) h = row_size row7 longer_rows (pos (suc a)) h row_sizes
dod_size (negsuc a) h = row_size row7 longer_rows (negsuc a) h row_sizes

module _ (c : ℕ) where
  -- ---- a point

  xor_size : (w : Window) (x : ℕ) → Between 1 (2 + 2 * c + 2 ^ c) (length (xor_bits c w x))
  unfolding xor_bits reuse_bits open_bits
  xor_size w zero = (omega arith, omega arith)
  xor_size w (suc y) =
      by_bool (λ (b : Bool). Between 1 (2 + 2 * c + 2 ^ c) (length (cond b (reuse_bits c w (suc y)) (open_bits c (tight c (suc y)) (suc y))))) (reuses c w (suc y))
      (λ t. simp length_bits_of (omega arith))
      (λ t. simp (length-append, length_bits_of) (omega arith))

  -- the most bits that a later point takes
  abbrev pub most : ℕ
  most = 38 + 2 * c + 2 ^ c

  pub later_size : (s : State) (p : Point) → time_fault (going s) p.time ≡ 0 → Between 2 most (length (later_bits c s p))
  unfolding later_bits
  later_size s p ok =
      let d = dod_size (dod_of s p.time) (later_taken s p.time ok).1 in
      let x = xor_size s.window (bit_xor p.value s.value) in
      omega (arith, length-append (dod_bits (dod_of s p.time)) (xor_bits c s.window (bit_xor p.value s.value)), d.0, d.1, x.0, x.1)

  -- ---- a stream

  laters_size : (s : State) (ps : List Point) → Accepted c (going s) ps
      → Between (36 + 2 * length ps) (36 + most * length ps) (length (rest_bits c (going s) ps))
  unfolding rest_bits point_bits marker
  laters_size s [] ok = simp length_bits_of (omega arith)
  laters_size s (p ∷ ps) ok =
      let next = state_after c (going s) p in
      let ih = laters_size next ps ok.2 in
      let one = later_size s p ok.1 in
      omega (arith, length-append (later_bits c s p) (rest_bits c (going next) ps), ih.0, ih.1, one.0, one.1)

  pub empty_size : (start : ℕ) → length (stream_bits c start []) ≡ 100
  unfolding stream_bits start_bits rest_bits marker
  empty_size start = simp (length-append, length_bits_of)

  pub stream_size : (start : ℕ) (p : Point) (ps : List Point) → Accepted c (opened c start) (p ∷ ps)
      → Between (115 + 2 ^ c + 2 * length ps) (115 + 2 ^ c + most * length ps) (length (stream_bits c start (p ∷ ps)))
  unfolding stream_bits start_bits rest_bits point_bits first_bits
  stream_size start p ps ok =
      let l = laters_size (state_after c (opened c start) p) ps ok.2 in
      simp (length-append, length_bits_of) (omega (arith, l.0, l.1))

-- ---- values of 64 bits

some_size : (start : ℕ) (ps : List Point) → Accepted 6 (opened 6 start) ps → 1 ≤ length ps
    → Between (115 + 2 ^ 6 + 2 * (length ps - 1)) (115 + 2 ^ 6 + most 6 * (length ps - 1)) (length (stream_bits 6 start ps))
some_size start [] ok h = absurd (omega arith)
some_size start (p ∷ ps) ok h = let s = stream_size 6 start p ps ok in (omega (arith, s.0), omega (arith, s.1))

empty_bytes : (start : ℕ) → bytes_for (length (stream_bits 6 start [])) ≡ 13
empty_bytes start = rw (empty_size 6 start)

pub sizes : Sizes
unfolding odd bits_of within raw reuses tight reuse_bits open_bits xor_bits window_after in_row row_bits dod_bits start_bits marker first_bits later_bits point_bits first_state later_state state_after rest_bits stream_bits count_leading_zeros count_trailing_zeros
sizes = record {
  empty = empty_size 6;
  empty_bytes = empty_bytes;
  least = λ start ps ok h. omega (arith, (some_size start ps ok h).0);
  most = λ start ps ok h. omega (arith, (some_size start ps ok h).1);
  least_met = refl;
  most_met = refl;
}
