-- Laws of readers: on the first j bits; and field by field on the bits that are left.
use mathlib.Core.Path.{◌≡◌, refl, ap}
use Prim.Native.Nat.{ℕ, ◌+◌, ◌^◌, ◌≤◌, ◌<◌}
use native.Mathlib.Nat.{mod-eq_of_lt, lt_of_not-le}
use native.Mathlib.Decide.{dec_le}
use native.Mathlib.Omega.{arith}
use mathlib.Core.Bool.{Bool, true, false, cond}
use mathlib.Core.List.{List, ◌∷◌, ◌++◌}
use lib.Dec.{ltb}
use lib.ListN.{length, take, drop, length-take, length-drop, length-append}
use lib.Seq.{take_at, drop_at, drop-drop}
use borrow.Author.Tests.{lt-ltb, le-ltb}
use Rattle.stream.specs.Bits.{odd, digit, bits_of, value_of, field}
use Rattle.stream.proofs.Numbers.{length_bits_of, value_bits_of}
use Rattle.stream.proofs.Writes.{field_take}
use Rattle.layout.specs.Reading.{Read, done, ask, Outcome, got, cut, reach, run}

module _ {L A : Type 0} (l : L) (n : ℕ) (f : ℕ → Read L A) (p : ℕ) (s : List Bool) where
  -- a field that is wholly there, and one that is not
  pub run_there : p + n ≤ length s → run (ask l n f) p s ≡ run (f (value_of (field s p n))) (p + n) s
  unfolding run
  run_there h = rw (le-ltb (length s) (p + n) h)

  pub run_cut : length s < p + n → run (ask l n f) p s ≡ cut l p n
  unfolding run
  run_cut h = rw (lt-ltb (length s) (p + n) h)

  -- either way it reaches its own end
  reach_ask : ((x : ℕ) → p + n ≤ reach (run (f x) (p + n) s)) → p + n ≤ reach (run (ask l n f) p s)
  unfolding reach
  reach_ask g = elim (dec_le (p + n) (length s)) [
    | yes h ↦ rw (run_there h) (g (value_of (field s p n)))
    | no h ↦ rw (run_cut (lt_of_not-le h)) (omega arith)
  ]

-- ---- the first j bits

-- `Upto j o o'`: what a reader comes to on a whole, o, and on its first j bits, o':
-- the same, where the whole asked for no bit at or behind j; else a cut
pub data Upto {L A : Type 0} (j : ℕ) : Outcome L A → Outcome L A → Type 0 where
  same : {o : Outcome L A} → reach o ≤ j → Upto j o o
  late : {o : Outcome L A} {l : L} {q n : ℕ} → j < reach o → Upto j o (cut l q n)

module _ {L A : Type 0} where
  -- what begins at p reaches p
  pub reach_from : (r : Read L A) (p : ℕ) (s : List Bool) → p ≤ reach (run r p s)
  unfolding run reach
  reach_from (done a) p s = omega arith
  reach_from (ask l n f) p s = omega (arith, reach_ask l n f p s (λ x. reach_from (f x) (p + n) s))

  -- the prefix law
  pub run_take : (r : Read L A) (p j : ℕ) (s : List Bool) → p ≤ j → Upto j (run r p s) (run r p (take j s))
  unfolding run reach
  run_take (done a) p j s b = same {o = got a p} b
  run_take (ask l n f) p j s b = elim (dec_le (p + n) (length s)) [
    | yes h ↦ elim (dec_le (p + n) j) [
      | yes i ↦
          rw (run_there l n f p s h, run_there l n f p (take j s) (rw length-take (omega arith)), field_take j p n s i)
          (run_take (f (value_of (field s p n))) (p + n) j s i)
      | no i ↦
          rw (run_cut l n f p (take j s) (rw length-take (omega (arith, lt_of_not-le i))))
          (late {o = run (ask l n f) p s} (omega (arith, lt_of_not-le i, reach_ask l n f p s (λ x. reach_from (f x) (p + n) s))))
    ]
    | no h ↦
        rw (run_cut l n f p s (lt_of_not-le h), run_cut l n f p (take j s) (rw length-take (omega (arith, lt_of_not-le h))))
        (elim (dec_le (p + n) j) [ yes i ↦ same {o = cut l p n} i | no i ↦ late {o = cut l p n} (lt_of_not-le i) ])
  ]

-- ---- the bits that are left

-- a reader run on the bits from p on
unfoldable pub run_on : {L A : Type 0} → Read L A → ℕ → List Bool → Outcome L A
run_on (done a) p s = got a p
run_on (ask l n f) p s = cond (ltb (length s) n) (cut l p n) (run_on (f (value_of (take n s))) (p + n) (drop n s))

pub run_on_lem : {L A : Type 0} (r : Read L A) (p : ℕ) (s : List Bool) → p ≤ length s → run r p s ≡ run_on r p (drop p s)
unfolding run_on run field
run_on_lem (done a) p s b = refl
run_on_lem (ask l n f) p s b = elim (dec_le (p + n) (length s)) [
  | yes h ↦
      rw (run_there l n f p s h, le-ltb (length (drop p s)) n (rw length-drop (omega arith)), drop-drop n p s)
      (run_on_lem (f (value_of (field s p n))) (p + n) s h)
  | no h ↦ rw (run_cut l n f p s (lt_of_not-le h), lt-ltb (length (drop p s)) n (rw length-drop (omega (arith, lt_of_not-le h))))
]

-- the bits l, before rest, lead from the reader r at p to the reader r' behind them
abbrev pub Leads : {L A : Type 0} → List Bool → Read L A → Read L A → ℕ → List Bool → Type 0
Leads rest r r' p l = run_on r p (l ++ rest) ≡ run_on r' (p + length l) rest

pub moved : {L A : Type 0} (r : Read L A) (rest : List Bool) (q q' : ℕ) → q ≡ q' → run_on r q rest ≡ run_on r q' rest
moved r rest q q' e = ap (λ (z : ℕ). run_on r z rest) e

-- a field that was written
pub run_field : {L A : Type 0} (l : L) (n : ℕ) (f : ℕ → Read L A) (p x : ℕ) (rest : List Bool) → x < 2 ^ n
    → run_on (ask l n f) p (bits_of n x ++ rest) ≡ run_on (f x) (p + n) rest
unfolding run_on
run_field l n f p x rest h =
    let size : n ≤ length (bits_of n x ++ rest) = rw (length-append (bits_of n x) rest, length_bits_of n x) (omega arith) in
    rw (le-ltb (length (bits_of n x ++ rest)) n size, take_at (bits_of n x) rest n (length_bits_of n x), drop_at (bits_of n x) rest n (length_bits_of n x), value_bits_of n x, mod-eq_of_lt h)

-- a control bit
pub run_bit : {L A : Type 0} (l : L) (f : ℕ → Read L A) (p : ℕ) (b : Bool) (rest : List Bool)
    → run_on (ask l 1 f) p (b ∷ rest) ≡ run_on (f (digit b)) (p + 1) rest
unfolding digit bits_of odd
run_bit l f p true rest = run_field l 1 f p 1 rest (omega arith)
run_bit l f p false rest = run_field l 1 f p 0 rest (omega arith)
