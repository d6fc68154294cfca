-- What is promised of a whole series in one call.
use Rattle.std.specs.Prelude.{◌≡◌, Bool, List, [], ◌∷◌, ◌++◌, ℕ, suc, ◌^◌, ◌≤◌, ◌<◌, min, length, take, drop, get_or}
use Rattle.stream.specs.Bits.{bits, padded}
use Rattle.stream.specs.Calls.{limit}
use Rattle.stream.specs.Promises.{AreBytes}
use Rattle.layout.specs.Writing.{Point, stream_bits, Fitting}
use Rattle.layout.specs.Answers.{Answer, an_end, answers}
use Rattle.layout.specs.Promises.{Every, place_of}
use Rattle.encode.specs.Calls as encoder
use Rattle.encode.specs.Lists.{pairs, Packing, packs_of}
use Rattle.decode.specs.Lists.{starting_with}
use Rattle.series.specs.ListPromises.{points_in}
use Rattle.tsz.specs.Files.{saying, fault_in, PackLeaves, packed_of, saying_at, UnpackLeaves, unpacked_of}

-- `one_outcome`: no two outcomes meet the statement of `tsz_pack`, what is said and the bytes of the buffer; `tsz_unpack` states what is
-- said and the lists themselves
pub record OneOutcome : Type 0 where
  pub pack : (w x l m : List ℕ) → AreBytes l → AreBytes m → ◌≡◌ {A = PackLeaves} (w, bits l) (x, bits m) → (w ≡ x) × (l ≡ m)

module _ (start n : ℕ) (bs : List Bool) (ps : List Point) where
  -- the offers after an opening on n bytes with the bits bs
  abbrev pub offers_in : Packing
  offers_in = packs_of 6 (encoder.open_of 6 start n bs).1 n (encoder.open_of 6 start n bs).2 ps

  -- the layout's stream of the points that were accepted
  abbrev pub stream_in : List Bool
  stream_in = stream_bits 6 start (take offers_in.0 ps)

-- `always_closed`: where the buffer is not refused, the accepted points' stream is in it from its first byte on, closed, also when one was
-- refused; the bits and the bytes said are that stream's, and the bytes behind it are as they were
abbrev pub AlwaysClosed : Type 0
AlwaysClosed = (start n : ℕ) (bs : List Bool) (ps : List Point) → encoder.open_fault n ≡ 0 → Every (Fitting 6) ps
    → packed_of 6 start n bs ps
    ≡ (
      saying (fault_in (offers_in start n bs ps).1.0) (offers_in start n bs ps).0 (length (stream_in start n bs ps)),
      padded (stream_in start n bs ps) ++ drop (length (padded (stream_in start n bs ps))) bs,
    )

-- `buffers_refused`: where the buffer is refused, nothing changes and nothing but the refusal is said
pub record RefusedBuffers (start n : ℕ) (bs : List Bool) : Type 0 where
  pub pack : (ps : List Point) → 0 < encoder.open_fault n → packed_of 6 start n bs ps ≡ (encoder.open_fault n ∷ 0 ∷ 0 ∷ 0 ∷ [], bs)
  pub unpack : (us ws : List ℕ) → limit < n → unpacked_of 6 n bs us ws ≡ (5 ∷ 0 ∷ 0 ∷ 0 ∷ [], us, ws)

abbrev pub BuffersRefused : Type 0
BuffersRefused = (start n : ℕ) (bs : List Bool) → RefusedBuffers start n bs

-- `whole_file`: `tsz_pack` of two lists into the bytes l says r, k, q and b, and leaves the bytes l'
pub record WholeFile (ts vs l l' : List ℕ) (r k q b : ℕ) : Type 0 where
  -- where nothing was refused, every point was packed
  pub all : r ≡ 0 → (encoder.open_fault (length l) ≡ 0) × (k ≡ min (length ts) (length vs))
  -- where the buffer was not refused, `tsz_unpack` of bytes m that begin with the b in use, whatever follows them, into lists with enough
  -- entries says 0, k, q and b, and puts the first k times and values into them
  pub back : encoder.open_fault (length l) ≡ 0 → (us ws m : List ℕ) → take b m ≡ take b l' → length m ≤ limit → k ≤ length us → k ≤ length ws
      → unpacked_of 6 (length m) (bits m) us ws ≡ (0 ∷ k ∷ q ∷ b ∷ [], starting_with (take k ts) us, starting_with (take k vs) ws)

abbrev pub WholeFiles : Type 0
WholeFiles = (start : ℕ) (ts vs l l' : List ℕ) (r k q b : ℕ) → start < 2 ^ 64 → Every (Fitting 6) (pairs ts vs)
    → packed_of 6 start (length l) (bits l) (pairs ts vs) ≡ (r ∷ k ∷ q ∷ b ∷ [], bits l') → WholeFile ts vs l l' r k q b

-- ---- any bytes

-- the place behind the last of some answers, q where there is none
unfoldable pub last_place : ℕ → List Answer → ℕ
last_place q [] = q
last_place q (a ∷ more) = last_place (place_of a) more

-- `file_answers`: `tsz_unpack` of any bytes l within the limit into the lists us and ws says, as its second number, k, and leaves s
pub record FileAnswers (l us ws : List ℕ) (s : UnpackLeaves) (k : ℕ) : Type 0 where
  pub fits : k ≤ min (length us) (length ws)
  -- the points put into the lists are the layout's first k answers, and the other entries stay
  pub points : pairs (take k s.1) (take k s.2) ≡ points_in (answers 6 k (bits l))
  pub times : drop k s.1 ≡ drop k us
  pub values : drop k s.2 ≡ drop k ws
  -- what is said is by the next answer, and by the place behind the k-th
  pub says : s.0 ≡ saying_at k (last_place 0 (answers 6 k (bits l))) (get_or (answers 6 (suc k) (bits l)) k (an_end 0))
  -- entries are left only where that answer is no point
  pub stops : k < min (length us) (length ws) → points_in (get_or (answers 6 (suc k) (bits l)) k (an_end 0) ∷ []) ≡ []

abbrev pub FilesAnswers : Type 0
FilesAnswers = (l us ws : List ℕ) → length l ≤ limit
    → FileAnswers l us ws (unpacked_of 6 (length l) (bits l) us ws) (get_or (unpacked_of 6 (length l) (bits l) us ws).0 1 0)
