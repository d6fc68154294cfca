-- What is promised of the encoder's calls.
use Rattle.std.specs.Prelude.{◌≡◌, Bool, true, false, List, ◌++◌, ℕ, ◌+◌, ◌-◌, ◌*◌, ◌^◌, ◌≤◌, ◌<◌, length, ⊤}
use Rattle.std.specs.declared.result.Result.{Result}
use Rattle.stream.specs.Bits.{bits_of, bits}
use Rattle.stream.specs.declared.refusal.Refusal.{Refusal}
use Rattle.stream.specs.declared.position.BitPos.{BitPos}
use Rattle.stream.specs.declared.position.ByteCount.{ByteCount}
use Rattle.stream.specs.Calls.{limit, Told, refused}
use Rattle.stream.specs.Promises.{AreBytes, Tells}
use Rattle.layout.specs.Windows.{bad_window}
use Rattle.layout.specs.declared.State.{State}
use Rattle.layout.specs.Writing.{Point, Progress, dod_of, in_range, time_fault, point_bits}
use Rattle.encode.specs.declared.std_encoder.StdEncoder.{StdEncoder}
use Rattle.encode.specs.declared.std_encoder.Encoded.{Encoded}
use Rattle.encode.specs.declared.code.PointCode.{PointCode}
use Rattle.encode.specs.States.{Enc, progress_by, progress, view}
use Rattle.encode.specs.Codes.{tell_point, tell_code, code_of}
use Rattle.encode.specs.Calls.{tell_encode, tell_close, told_encoded, told_closing, open_fault, no_fit, standing, point_fault, shut, fresh, after, open_of, encode_of, close_of}
use Rattle.encode.specs.declared.pack.Packed.{Packed}
use Rattle.encode.specs.Lists.{told_packed}

-- `one_outcome`: no two outcomes meet the statement of a call
pub record OneOutcome : Type 0 where
  -- an opening and a point
  pub encode : (r s : Encoded ⊤) (l m : List ℕ) → AreBytes l → AreBytes m → told_encoded r l ≡ told_encoded s m → (r ≡ s) × (l ≡ m)
  pub close : (r s : Encoded (BitPos × ByteCount)) (l m : List ℕ) → AreBytes l → AreBytes m → told_closing r l ≡ told_closing s m → (r ≡ s) × (l ≡ m)
  pub code : Tells (Result PointCode Refusal) Told tell_code
  pub pack : (r s : Packed) (l m : List ℕ) → AreBytes l → AreBytes m → told_packed r l ≡ told_packed s m → (r ≡ s) × (l ≡ m)

-- ---- which refusal is given: the first rule that holds

-- `open_faults`: of an opening on n bytes
pub record OpenFault (n : ℕ) : Type 0 where
  pub too_long : limit < n → open_fault n ≡ 5
  pub no_room : n ≤ limit → n < 13 → open_fault n ≡ 1
  pub opens : n ≤ limit → 13 ≤ n → open_fault n ≡ 0

-- `time_faults`: of a time offered to a state s, before the first point or after one
pub record TimeFault (s : State) (t : ℕ) : Type 0 where
  pub time_falls : (first : Bool) → t < s.time → time_fault (progress_by first s) t ≡ 2
  pub first_delta : s.time ≤ t → 16383 < t - s.time → time_fault (progress_by true s) t ≡ 3
  pub first_taken : s.time ≤ t → t - s.time ≤ 16383 → time_fault (progress_by true s) t ≡ 0
  pub dod_range : s.time ≤ t → in_range (dod_of s t) ≡ false → time_fault (progress_by false s) t ≡ 4
  pub dod_taken : s.time ≤ t → in_range (dod_of s t) ≡ true → time_fault (progress_by false s) t ≡ 0

module _ (c : ℕ) where
  -- `code_holds`: the two numbers of a point's code, each with its length, are the point's bits
  abbrev pub CodeHolds : Type 0
  CodeHolds = (g : Progress) (p : Point) (k : PointCode) → tell_point k ≡ code_of c g p
      → bits_of k.head.len k.head.bits ++ bits_of k.digits.len k.digits.bits ≡ point_bits c g p

  -- `misfits`: when a state does not fit a buffer of n bytes, rule by rule; which windows are bad is layout's `bad_windows`
  pub record Misfit (e : Enc) (n : ℕ) : Type 0 where
    pub other_length : (n ≡ e.len → ⊥) → no_fit c e n ≡ true
    pub too_long : n ≡ e.len → limit < e.len → no_fit c e n ≡ true
    pub too_early : n ≡ e.len → e.len ≤ limit → e.at < 64 → no_fit c e n ≡ true
    pub too_late : n ≡ e.len → e.len ≤ limit → 64 ≤ e.at → 8 * e.len < e.at + 36 → no_fit c e n ≡ true
    pub otherwise : n ≡ e.len → e.len ≤ limit → 64 ≤ e.at → e.at + 36 ≤ 8 * e.len → no_fit c e n ≡ bad_window c e.window

  -- `standing_faults`: of a point and of closing, before anything else
  pub record StandingFault (e : Enc) (n : ℕ) : Type 0 where
    pub closed : e.closed ≡ true → standing c e n ≡ 12
    pub misfit : e.closed ≡ false → no_fit c e n ≡ true → standing c e n ≡ 13
    pub stands : e.closed ≡ false → no_fit c e n ≡ false → standing c e n ≡ 0

  -- `point_faults`: of a point
  pub record PointFault (e : Enc) (n : ℕ) (p : Point) : Type 0 where
    pub first : 0 < standing c e n → point_fault c e n p ≡ standing c e n
    pub time : standing c e n ≡ 0 → 0 < time_fault (progress e) p.time → point_fault c e n p ≡ time_fault (progress e) p.time
    pub no_room : standing c e n ≡ 0 → time_fault (progress e) p.time ≡ 0 → 8 * e.len < e.at + length (point_bits c (progress e) p) + 36
        → point_fault c e n p ≡ 1
    pub none : standing c e n ≡ 0 → time_fault (progress e) p.time ≡ 0 → e.at + length (point_bits c (progress e) p) + 36 ≤ 8 * e.len
        → point_fault c e n p ≡ 0

  -- `stands_on`: an accepted opening or point hands back a state that stands, so that closing is never refused for want of room
  pub record StandsOn : Type 0 where
    pub opened : (start n : ℕ) → open_fault n ≡ 0 → standing c (fresh c n start) n ≡ 0
    pub offered : (e : Enc) (n : ℕ) (p : Point) → e.value < 2 ^ (2 ^ c) → p.value < 2 ^ (2 ^ c) → point_fault c e n p ≡ 0
        → standing c (after c e p) n ≡ 0

-- ---- `refused_nothing`: a refused call tells its number, hands back the encoder that it was given and leaves every byte; a refused
-- opening hands back a closed one; l are the bytes before, m those after it

pub record RefusedNothing (l m : List ℕ) : Type 0 where
  pub «open» : (r : Encoded ⊤) (start : ℕ) → told_encoded r m ≡ open_of 6 start (length l) (bits l) → 0 < open_fault (length l)
      → (tell_encode r.answer ≡ refused (open_fault (length l))) × (view r.encoder ≡ shut) × (m ≡ l)
  pub encode : (r : Encoded ⊤) (e : StdEncoder) (p : Point) → told_encoded r m ≡ encode_of 6 (view e) (length l) (bits l) p → 0 < point_fault 6 (view e) (length l) p
      → (tell_encode r.answer ≡ refused (point_fault 6 (view e) (length l) p)) × (r.encoder ≡ e) × (m ≡ l)
  pub close : (r : Encoded (BitPos × ByteCount)) (e : StdEncoder) → told_closing r m ≡ close_of 6 (view e) (length l) (bits l) → 0 < standing 6 (view e) (length l)
      → (tell_close r.answer ≡ refused (standing 6 (view e) (length l))) × (r.encoder ≡ e) × (m ≡ l)

abbrev pub RefusedNothings : Type 0
RefusedNothings = (l m : List ℕ) → AreBytes l → AreBytes m → RefusedNothing l m
