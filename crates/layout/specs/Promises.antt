-- What is promised of the layout: of its fields and windows, of reading what was written, of a part of the bits, and of sizes.
-- (`marked` stands with its cases in Cases.)
use Rattle.std.specs.Prelude.{◌≡◌, ℕ, zero, suc, ◌+◌, ◌-◌, ◌*◌, ◌/◌, ◌^◌, ◌≤◌, ◌<◌, Bool, true, false, cond, List, [], ◌∷◌, ◌++◌, ltb, ℤ, length, take, replicate, get_or}
use Rattle.std.specs.Int.Bits.{bit_xor}
use Rattle.std.specs.Int.Count.{count_leading_zeros, count_trailing_zeros}
use Rattle.stream.specs.Bits.{bits, bytes_for, padded}
use Rattle.layout.specs.declared.Row.{Row}
use Rattle.layout.specs.Rows.{rows, fits, in_field, raw, signed}
use Rattle.layout.specs.declared.Window.{Window}
use Rattle.layout.specs.Windows.{digits, reuses, bad_window}
use Rattle.layout.specs.Writing.{Point, point_of, Progress, going, point_bits, state_after, opened, stream_bits, Accepted}
use Rattle.layout.specs.Answers.{Reached, position, Answer, a_point, an_end, refusal, answer_of, outcomes, answers, lack, torn_by, torn}

-- ---- `field_back`: a dod's field, once over its width

pub record FieldBack (n : ℕ) (d : ℤ) : Type 0 where
  pub whole : raw n d < 2 ^ n
  pub back : signed n (raw n d) ≡ d

abbrev pub FieldsBack : Type 0
FieldsBack = (n : ℕ) (d : ℤ) → 1 ≤ n → in_field n d ≡ true → FieldBack n d

-- a rule that holds of each entry of a list
abbrev pub Every : {A : Type 0} → (A → Type 0) → List A → Type 0
Every P [] = Unit {0}
Every P (x ∷ xs) = P x × Every P xs

-- each row takes what its field takes, so what it takes comes back
abbrev pub RowsBack : Type 0
RowsBack = Every (λ (r : Row). (d : ℤ) → fits r d ≡ true → FieldBack r.width d) rows

-- ---- points and ends, cut to the first j bits: those whose position lies in them, then 6 or 7 for ever

unfoldable pub place_of : Answer → ℕ
place_of (a_point t v q) = q
place_of (an_end q) = q
place_of (refusal k) = 0

abbrev pub cut_to : ℕ → List Answer → List Answer
cut_to j l = torn_by place_of (λ a. a) j l

module _ (c : ℕ) where
  -- ---- `windows`: the laws of windows, over the width

  pub record WindowLaws : Type 0 where
    -- the digits of a fitting xor, shifted back, are the xor
    pub back : (w : Window) (x : ℕ) → reuses c w x ≡ true → x / 2 ^ w.trail * 2 ^ w.trail ≡ x
    -- they fit the window
    pub fit : (w : Window) (x : ℕ) → x < 2 ^ (2 ^ c) → reuses c w x ≡ true → x / 2 ^ w.trail < 2 ^ digits c w
    -- a xor, taken twice, is the value
    pub twice : (u v : ℕ) → bit_xor (bit_xor u v) v ≡ u
    -- a number that is not 0 has a digit between its zeros
    pub zeros : (x : ℕ) → 0 < x → x < 2 ^ (2 ^ c) → count_leading_zeros (2 ^ c) x + count_trailing_zeros (2 ^ c) x < 2 ^ c

  -- `bad_windows`: which windows a state can't have: their zeros sum above 63, and they are not the 64 and 64 of the beginning
  pub record BadWindow (w : Window) : Type 0 where
    pub digit : w.lead + w.trail < 2 ^ c → bad_window c w ≡ false
    pub begins : w.lead ≡ 2 ^ c → w.trail ≡ 2 ^ c → bad_window c w ≡ false
    pub other : 2 ^ c ≤ w.lead + w.trail → (w.lead ≡ 2 ^ c → w.trail ≡ 2 ^ c → ⊥) → bad_window c w ≡ true

  -- ---- `points_come_back`

  -- n answers from the position `at` on: the points with their positions, then the end for ever
  unfoldable pub back : ℕ → ℕ → Progress → List Point → List Answer
  back zero at g ps = []
  back (suc n) at g [] = replicate (suc n) (an_end (at + 36))
  back (suc n) at g (p ∷ ps) =
      a_point p.time p.value (at + length (point_bits c g p)) ∷ back n (at + length (point_bits c g p)) (going (state_after c g p)) ps

  -- the answers on a closed stream's bits, whatever follows them
  abbrev pub PointsComeBack : Type 0
  PointsComeBack = (n start : ℕ) (ps : List Point) (junk : List Bool) → start < 2 ^ 64 → Accepted c (opened c start) ps
      → answers c n (stream_bits c start ps ++ junk) ≡ back n 64 (opened c start) ps

  -- ---- `more_data`

  -- f's answers on the first j bits are told by the outcomes on the whole
  abbrev pub KeepsPrefix : (ℕ → List Bool → List Answer) → Type 0
  KeepsPrefix f = (n j : ℕ) (s : List Bool) → f n (take j s) ≡ torn j (outcomes c n s)

  pub record MoreData : Type 0 where
    pub bits_form : KeepsPrefix (answers c)
    -- the first k bytes of any buffer, so of one within the limit
    pub bytes_form : (n k : ℕ) (l : List ℕ) → answers c n (bits (take k l)) ≡ torn (8 * k) (outcomes c n (bits l))
    -- where no outcome used a bit at or behind j, whoever keeps it answers as on the whole: no 7 for a 9 whose bits are there
    pub none_torn : (f : ℕ → List Bool → List Answer) → KeepsPrefix f → (n j : ℕ) (s : List Bool)
        → Every (λ (o : Reached). position o ≤ j) (outcomes c n s) → f n (take j s) ≡ answers c n s
    -- it leaves no choice: whoever keeps it is this decoder
    pub determines : (f : ℕ → List Bool → List Answer) → KeepsPrefix f → (n : ℕ) (s : List Bool) → f n s ≡ answers c n s

  -- ---- `precisely`: the same, answer by answer; the n outcomes on s, of which the i-th is looked at (o and a stand in past the last)

  pub record Precise (n j : ℕ) (s : List Bool) (o : Reached) (a : Answer) (i : ℕ) : Type 0 where
    -- where its last bit lies in the first j bits, it is answered on them as on the whole
    pub given : position (get_or (outcomes c n s) i o) ≤ j → get_or (answers c n (take j s)) i a ≡ answer_of (get_or (outcomes c n s) i o)
    -- where it does not, 6 or 7 is
    pub torn : j < position (get_or (outcomes c n s) i o) → get_or (answers c n (take j s)) i a ≡ refusal (lack j)
    -- and then none behind it lies in them either
    pub rising : (k : ℕ) → i ≤ k → k < n → position (get_or (outcomes c n s) i o) ≤ position (get_or (outcomes c n s) k o)

  abbrev pub Precisely : Type 0
  Precisely = (n j : ℕ) (s : List Bool) (o : Reached) (a : Answer) (i : ℕ) → i < n → Precise n j s o a i

  -- ---- `closed_cut`

  -- a closed stream, in bits and as the bytes l that hold it
  pub record ClosedCut (start : ℕ) (ps : List Point) : Type 0 where
    -- its first j bits give the points that lie in them
    pub given : (n j : ℕ) → answers c n (take j (stream_bits c start ps)) ≡ cut_to j (back n 64 (opened c start) ps)
    -- short of its full length, 6 or 7 stands at the latest where the end would
    pub ends : (n j : ℕ) → j < length (stream_bits c start ps) → length ps < n
        → get_or (answers c n (take j (stream_bits c start ps))) (length ps) (an_end 0) ≡ refusal (lack j)
    -- the same in bytes: 6 below 8 of them, else 7
    pub bytes_given : (n k : ℕ) (l : List ℕ) → bits l ≡ padded (stream_bits c start ps) → k < length l
        → answers c n (bits (take k l)) ≡ cut_to (8 * k) (back n 64 (opened c start) ps)
    pub bytes_end : (n k : ℕ) (l : List ℕ) → bits l ≡ padded (stream_bits c start ps) → k < length l → length ps < n
        → get_or (answers c n (bits (take k l))) (length ps) (an_end 0) ≡ refusal (cond (ltb k 8) 6 7)

  abbrev pub ClosedCuts : Type 0
  ClosedCuts = (start : ℕ) (ps : List Point) → start < 2 ^ 64 → Accepted c (opened c start) ps → ClosedCut start ps

-- ---- `sizes`, of values of 64 bits

pub record Sizes : Type 0 where
  pub empty : (start : ℕ) → length (stream_bits 6 start []) ≡ 100
  pub empty_bytes : (start : ℕ) → bytes_for (length (stream_bits 6 start [])) ≡ 13
  pub least : (start : ℕ) (ps : List Point) → Accepted 6 (opened 6 start) ps → 1 ≤ length ps → 179 + 2 * (length ps - 1) ≤ length (stream_bits 6 start ps)
  pub most : (start : ℕ) (ps : List Point) → Accepted 6 (opened 6 start) ps → 1 ≤ length ps → length (stream_bits 6 start ps) ≤ 179 + 114 * (length ps - 1)
  -- both ends are reached, the upper one by a second point
  pub least_met : length (stream_bits 6 0 (point_of 0 0 ∷ point_of 0 0 ∷ [])) ≡ 179 + 2 * 1
  pub most_met : length (stream_bits 6 0 (point_of 0 0 ∷ point_of (2 ^ 31) (2 ^ 63 + 1) ∷ [])) ≡ 179 + 114 * 1
