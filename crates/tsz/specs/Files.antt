-- A whole series in one call, for programs in other languages: what the two calls say, and what they leave in the bytes and the lists
-- that were lent.
use Rattle.std.specs.Prelude.{Bool, List, [], ◌∷◌, ℕ}
use Rattle.stream.specs.Bits.{bytes_for}
use Rattle.stream.specs.Fits.{fault_of}
use Rattle.stream.specs.Calls.{Told, given, refused}
use Rattle.layout.specs.Writing.{Point}
use Rattle.layout.specs.Answers.{Answer, a_point, an_end, refusal}
use Rattle.encode.specs.Calls as encoder
use Rattle.encode.specs.Lists.{Packing, on_told, packs_of}
use Rattle.decode.specs.States.{Dec}
use Rattle.decode.specs.Calls as decoder
use Rattle.tsz.specs.declared.said.Said.{Said}
use Rattle.decode.specs.Lists.{Stop, full, said, Filling, fills_of}

-- ---- the four numbers said: the refusal, 0 for none; the points; the bits, and the bytes that hold them

abbrev pub said_of : Said → List ℕ
said_of s = fault_of s.outcome ∷ s.points ∷ s.bits.0 ∷ s.bytes.0 ∷ []

-- r, k points and q bits
unfoldable pub saying : ℕ → ℕ → ℕ → List ℕ
saying r k q = r ∷ k ∷ q ∷ bytes_for q ∷ []

-- the refusal in an answer
unfoldable pub fault_in : Told → ℕ
fault_in (given vs) = 0
fault_in (refused r) = r

-- ---- packing

-- the bits and the bytes that a close tells to be in use; one that was opened is never refused its close
unfoldable pub used_in : Told → List ℕ
used_in (given vs) = vs
used_in (refused r) = 0 ∷ 0 ∷ []

-- what is said, and the bits of the buffer
abbrev pub PackLeaves : Type 0
PackLeaves = List ℕ × List Bool

module _ (c : ℕ) where
  -- after the offers the stream is closed, also when one was refused; n is the buffer's length in bytes
  unfoldable pub closing : ℕ → Packing → PackLeaves
  closing n o = (fault_in o.1.0 ∷ o.0 ∷ used_in (encoder.close_of c o.1.1 n o.1.2).0, (encoder.close_of c o.1.1 n o.1.2).2)

  -- an encoder is opened on n bytes with the bits bs, and points are offered until one is refused
  unfoldable pub packed_of : ℕ → ℕ → List Bool → List Point → PackLeaves
  packed_of start n bs ps =
      on_told (encoder.open_of c start n bs).0
      (closing n (packs_of c (encoder.open_of c start n bs).1 n (encoder.open_of c start n bs).2 ps))
      (saying (fault_in (encoder.open_of c start n bs).0) 0 0, (encoder.open_of c start n bs).2)

-- ---- unpacking

-- k points were given, the last ends at q, and this is the answer behind it: the end, a refusal, or one point more, for which the lists
-- are too short: 1
unfoldable pub saying_at : ℕ → ℕ → Answer → List ℕ
saying_at k q (an_end p) = saying 0 k p
saying_at k q (refusal r) = saying r k q
saying_at k q (a_point t v p) = saying 1 k q

-- what is said, and the two lists
abbrev pub UnpackLeaves : Type 0
UnpackLeaves = List ℕ × List ℕ × List ℕ

module _ (c : ℕ) where
  -- the answer behind the points given; where the lists are full, one step more is asked
  unfoldable pub answer_behind : Stop → Dec → ℕ → List Bool → Answer
  answer_behind (said a) d n bs = a
  answer_behind full d n bs = (decoder.next_of c d n bs).0

  -- the lists filled, and what is said of it
  unfoldable pub telling : ℕ → List Bool → Filling → UnpackLeaves
  telling n bs f = (saying_at f.0 f.2.at (answer_behind f.1 f.2 n bs), f.3, f.4)

  -- a decoder is opened on n bytes with the bits bs; one that was refused its opening answers every step with that
  unfoldable pub unpacked_of : ℕ → List Bool → List ℕ → List ℕ → UnpackLeaves
  unpacked_of n bs ts vs = telling n bs (fills_of c (decoder.open_of n).1 n bs ts vs)
