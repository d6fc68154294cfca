-- A sitting of the encoder: an opening, offers in a row, a close, each call given the state and the bits that the last one left. And, apart
-- from the encoder, what document 01's rules say of the same offers.
use Rattle.std.specs.Prelude.{List, [], ◌∷◌, ℕ, ◌+◌, ◌*◌, ltb, length, Bool}
use Rattle.stream.specs.Refusals.{when, or_else, by_fault}
use Rattle.stream.specs.Calls.{Told, given, refused}
use Rattle.layout.specs.Writing.{Point, Progress, going, time_fault, point_bits, state_after, opened, stream_bits}
use Rattle.encode.specs.States.{Enc}
use Rattle.encode.specs.Calls.{Outcome, open_of, encode_of, close_of}

-- ---- the calls

-- the answers to offers, the state and the bits after them
abbrev pub Offers : Type 0
Offers = List Told × Enc × List Bool

abbrev pub noted : Told → Offers → Offers
noted t o = (t ∷ o.0, o.1, o.2)

-- values of 2^c bits; n is the buffer's length in bytes, bs its bits
module _ (c : ℕ) where
  unfoldable pub offers_of : Enc → ℕ → List Bool → List Point → Offers
  offers_of e n bs [] = ([], e, bs)
  offers_of e n bs (p ∷ ps) = noted (encode_of c e n bs p).0 (offers_of (encode_of c e n bs p).1 n (encode_of c e n bs p).2 ps)

  -- after an opening
  abbrev pub sat_of : ℕ → ℕ → List Bool → List Point → Offers
  sat_of start n bs ps = offers_of (open_of c start n bs).1 n (open_of c start n bs).2 ps

  -- then closing
  abbrev pub closed_of : ℕ → ℕ → List Bool → List Point → Outcome
  closed_of start n bs ps = close_of c (sat_of start n bs ps).1 n (sat_of start n bs ps).2

  -- ---- the rules

  -- the ruling on a point where q bits of n bytes are in use and the series is at g: 0, or 2, then 3 or 4, then 1
  unfoldable pub ruling : ℕ → ℕ → Progress → Point → ℕ
  ruling n q g p = or_else (time_fault g p.time) (when (ltb (8 * n) (q + length (point_bits c g p) + 36)) 1)

  -- the points that the rules accept; a refused one leaves the series where it is
  unfoldable pub accepts : ℕ → ℕ → Progress → List Point → List Point
  accepts n q g [] = []
  accepts n q g (p ∷ ps) =
      by_fault (ruling n q g p)
      (p ∷ accepts n (q + length (point_bits c g p)) (going (state_after c g p)) ps)
      (λ r. accepts n q g ps)

  -- the answers that they give
  unfoldable pub rulings : ℕ → ℕ → Progress → List Point → List Told
  rulings n q g [] = []
  rulings n q g (p ∷ ps) =
      by_fault (ruling n q g p)
      (given [] ∷ rulings n (q + length (point_bits c g p)) (going (state_after c g p)) ps)
      (λ r. refused r ∷ rulings n q g ps)

  -- the bits that points take, the sum of the layout's lengths
  unfoldable pub sum_of : Progress → List Point → ℕ
  sum_of g [] = 0
  sum_of g (p ∷ ps) = length (point_bits c g p) + sum_of (going (state_after c g p)) ps

  -- of the offers ps after an opening on n bytes: the points that the rules accept, and their stream
  abbrev pub taken_of : ℕ → ℕ → List Point → List Point
  taken_of start n ps = accepts n 64 (opened c start) ps

  abbrev pub stream_of : ℕ → ℕ → List Point → List Bool
  stream_of start n ps = stream_bits c start (taken_of start n ps)
