-- What is promised of whole runs of calls: of a sitting of the encoder, of decoding what it left, and of a part of any bytes. As document 01
-- has it: the first call is an opening, each later one is given the state that the last one returned, and nobody else alters the bytes.
use Rattle.std.specs.Prelude.{◌≡◌, Bool, cond, List, [], ◌∷◌, ◌++◌, ℕ, ◌+◌, ◌-◌, ◌*◌, ◌^◌, ◌≤◌, ◌<◌, ltb, length, take, drop, get_or, replicate}
use Rattle.stream.specs.Bits.{bits, bytes_for, padded}
use Rattle.stream.specs.Calls.{limit, given, refused}
use Rattle.stream.specs.Promises.{AreBytes}
use Rattle.layout.specs.Writing.{Point, time_fault, point_bits, opened, Fitting, Accepted}
use Rattle.layout.specs.Answers.{Reached, position, Answer, an_end, refusal, answer_of, outcomes, lack}
use Rattle.layout.specs.Promises.{Every, back, cut_to}
use Rattle.encode.specs.States.{Enc, progress}
use Rattle.encode.specs.Calls.{Outcome, open_fault, shut, marked, open_of, encode_of, close_of}
use Rattle.decode.specs.Calls as decoder
use Rattle.series.specs.Sittings.{sat_of, closed_of, rulings, sum_of, taken_of, stream_of}

-- values of 2^c bits
module _ (c : ℕ) where
  -- ---- the encoder: an opening on n bytes with the bits bs, the offers ps, refused ones among them, and closing

  module _ (start n : ℕ) (bs : List Bool) (ps : List Point) where
    -- the encoder and the bits after the offers, and after closing
    abbrev encoder : Enc
    encoder = (sat_of c start n bs ps).1

    abbrev held : List Bool
    held = (sat_of c start n bs ps).2

    abbrev closed : Outcome
    closed = closed_of c start n bs ps

    -- the points that the rules accept, and their stream
    abbrev taken : List Point
    taken = taken_of c start n ps

    abbrev stream : List Bool
    stream = stream_of c start n ps

    -- `sitting`
    pub record Sitting : Type 0 where
      -- each offer is answered as the rules say
      pub answers : (sat_of c start n bs ps).0 ≡ rulings c n 64 (opened c start) ps
      -- closing is accepted and tells the length of the accepted points' stream, in bits and in bytes; the buffer's first bytes are that
      -- stream, padded by zeros, and the rest is as before
      pub closes : closed ≡ (given (length stream ∷ bytes_for (length stream) ∷ []), marked encoder, padded stream ++ drop (length (padded stream)) bs)
      -- the accepted points are such as the layout takes, one after the other
      pub accepted : Accepted c (opened c start) taken
      -- `in_use`: at any time the bits in use are the start's and those of the accepted points, by the layout's lengths
      pub in_use : encoder.at ≡ 64 + sum_of c (opened c start) taken
      -- and with the marker they are the stream's
      pub closed_use : length stream ≡ 64 + sum_of c (opened c start) taken + 36
      -- which lies in the buffer
      pub within : length stream ≤ 8 * n
      -- `full`: a point for which there is no room is refused with 1, nothing changes, and closing then does what it would have done
      pub full : (p : Point) → time_fault (progress encoder) p.time ≡ 0 → 8 * n < encoder.at + length (point_bits c (progress encoder) p) + 36
          → (encode_of c encoder n held p ≡ (refused 1, encoder, held)) × (close_of c (encode_of c encoder n held p).1 n (encode_of c encoder n held p).2 ≡ closed)
      -- `sealed`: once closed, a point and a close are refused with 12, and nothing changes
      pub sealed : (p : Point)
          → (encode_of c closed.1 n closed.2 p ≡ (refused 12, closed.1, closed.2)) × (close_of c closed.1 n closed.2 ≡ (refused 12, closed.1, closed.2))

    -- `never_opened`: after a refused opening every offer and the close are refused with 12, and no bit changes
    pub record NeverOpened : Type 0 where
      pub opening : open_of c start n bs ≡ (refused (open_fault n), shut, bs)
      pub offers : sat_of c start n bs ps ≡ (replicate (length ps) (refused 12), shut, bs)
      pub closing : closed ≡ (refused 12, shut, bs)

  abbrev pub Sittings : Type 0
  Sittings = (start n : ℕ) (bs : List Bool) (ps : List Point) → open_fault n ≡ 0 → Every (Fitting c) ps → Sitting start n bs ps

  abbrev pub NeverOpeneds : Type 0
  NeverOpeneds = (start n : ℕ) (bs : List Bool) (ps : List Point) → 0 < open_fault n → NeverOpened start n bs ps

  -- ---- the same in bytes, l before the opening; and decoders on them

  -- the answers of k steps of a decoder opened on a buffer's bytes
  abbrev pub decodes : ℕ → List ℕ → List Answer
  decodes k l = decoder.nexts_of c k (decoder.open_of (length l)).1 (length l) (bits l)

  module _ (start : ℕ) (ps : List Point) (l : List ℕ) where
    -- how many bytes are in use
    abbrev used : ℕ
    used = bytes_for (length (stream_of c start (length l) ps))

    abbrev closed_bits : List Bool
    closed_bits = (closed_of c start (length l) (bits l) ps).2

    -- `sitting_bytes`: m after closing
    pub record SittingBytes (m : List ℕ) : Type 0 where
      pub size : length m ≡ length l
      -- the first bytes are the stream, the bits left over in the last of them zero
      pub first : bits (take used m) ≡ padded (stream_of c start (length l) ps)
      -- the other bytes are as before
      pub rest : drop used m ≡ drop used l

    -- `closed_cut`: the bytes in use of m, cut to k of them
    pub record ClosedCut (m : List ℕ) : Type 0 where
      -- the points that lie in them are given, then 6 or 7 for ever
      pub given : (n k : ℕ) → k < used → decodes n (take k m) ≡ cut_to (8 * k) (back c n 64 (opened c start) (taken_of c start (length l) ps))
      -- and the end is not: 6 below 8 bytes, else 7
      pub ends : (n k : ℕ) → k < used → length (taken_of c start (length l) ps) < n
          → get_or (decodes n (take k m)) (length (taken_of c start (length l) ps)) (an_end 0) ≡ refusal (cond (ltb k 8) 6 7)

  abbrev pub SittingsBytes : Type 0
  SittingsBytes = (start : ℕ) (ps : List Point) (l m : List ℕ) → AreBytes l → AreBytes m → open_fault (length l) ≡ 0 → Every (Fitting c) ps
      → bits m ≡ closed_bits start ps l → SittingBytes start ps l m

  -- `points_come_back`: a buffer m that begins with the bits in use, whatever follows them, is decoded to the accepted points with times,
  -- value bits and positions, then the end for ever
  abbrev pub PointsComeBack : Type 0
  PointsComeBack = (k start : ℕ) (ps : List Point) (l m : List ℕ) → open_fault (length l) ≡ 0 → start < 2 ^ 64 → Every (Fitting c) ps → length m ≤ limit
      → take (length (stream_of c start (length l) ps)) (bits m) ≡ take (length (stream_of c start (length l) ps)) (closed_bits start ps l)
      → decodes k m ≡ back c k 64 (opened c start) (taken_of c start (length l) ps)

  abbrev pub ClosedCuts : Type 0
  ClosedCuts = (start : ℕ) (ps : List Point) (l m : List ℕ) → open_fault (length l) ≡ 0 → start < 2 ^ 64 → Every (Fitting c) ps
      → bits m ≡ closed_bits start ps l → ClosedCut start ps l m

  -- `more_data`: any bytes l within the limit, and their first k; of n steps on each, the i-th is looked at (o and a stand in past the last)
  pub record MoreData (n k : ℕ) (l : List ℕ) (o : Reached) (a : Answer) (i : ℕ) : Type 0 where
    -- what it answers on the whole is what the layout's step comes to
    pub whole : get_or (decodes n l) i (answer_of o) ≡ answer_of (get_or (outcomes c n (bits l)) i o)
    -- where its last bit lies in the k bytes, it answers the same on them
    pub given : position (get_or (outcomes c n (bits l)) i o) ≤ 8 * k → get_or (decodes n (take k l)) i a ≡ get_or (decodes n l) i (answer_of o)
    -- where it does not, 6 or 7
    pub torn : 8 * k < position (get_or (outcomes c n (bits l)) i o) → get_or (decodes n (take k l)) i a ≡ refusal (lack (8 * k))
    -- and from there on nothing else
    pub stays : (j : ℕ) → i ≤ j → j < n → 8 * k < position (get_or (outcomes c n (bits l)) i o) → get_or (decodes n (take k l)) j a ≡ refusal (lack (8 * k))

  abbrev pub MoreDatas : Type 0
  MoreDatas = (n k : ℕ) (l : List ℕ) (o : Reached) (a : Answer) (i : ℕ) → length l ≤ limit → i < n → MoreData n k l o a i

-- `sizes` of a sitting: 100 bits, or from 179 + 2(k - 1) to 179 + 114(k - 1) where k points were accepted
pub record SittingSize (start n : ℕ) (ps : List Point) : Type 0 where
  pub none : length (taken_of 6 start n ps) ≡ 0 → length (stream_of 6 start n ps) ≡ 100
  pub least : 1 ≤ length (taken_of 6 start n ps) → 179 + 2 * (length (taken_of 6 start n ps) - 1) ≤ length (stream_of 6 start n ps)
  pub most : 1 ≤ length (taken_of 6 start n ps) → length (stream_of 6 start n ps) ≤ 179 + 114 * (length (taken_of 6 start n ps) - 1)

abbrev pub SittingSizes : Type 0
SittingSizes = (start n : ℕ) (ps : List Point) → Every (Fitting 6) ps → SittingSize start n ps
