-- What each call of the encoder answers, the state it returns and the bits it leaves, for all states and inputs: document 01,
-- "Numbers of refusal", and what an accepted call writes.
use Rattle.std.specs.Prelude.{Bool, true, false, not, ◌||◌, List, [], ◌∷◌, ℕ, ◌+◌, ◌*◌, eqb, ltb, length, ⊤}
use Rattle.std.specs.declared.result.Result.{Result}
use Rattle.stream.specs.Bits.{bits, bytes_for, replaced}
use Rattle.stream.specs.Refusals.{when, or_else, by_fault}
use Rattle.stream.specs.Calls.{limit, Told, given, refused, tell}
use Rattle.stream.specs.declared.refusal.Refusal.{Refusal}
use Rattle.stream.specs.declared.position.BitPos.{BitPos}
use Rattle.stream.specs.declared.position.ByteCount.{ByteCount}
use Rattle.layout.specs.Windows.{window, encoder_window, bad_window}
use Rattle.layout.specs.Writing.{Point, state, time_fault, start_bits, marker, point_bits, state_after}
use Rattle.encode.specs.declared.std_encoder.Encoded.{Encoded}
use Rattle.encode.specs.States.{Enc, enc, kept, progress, view}

-- ---- outcomes on paper: what was answered, the state after it, the bits of the buffer after it

abbrev pub Outcome : Type 0
Outcome = Told × Enc × List Bool

-- what a call's values are told as
abbrev pub told : {A : Type 0} → (A → List ℕ) → Encoded A → List ℕ → Outcome
told values r l = (tell values r.answer, view r.encoder, bits l)

-- an opening and a point: nothing
abbrev pub no_values : ⊤ → List ℕ
no_values done = []

-- closing: the bits and the bytes in use
abbrev pub in_use : BitPos × ByteCount → List ℕ
in_use used = used.0.0 ∷ used.1.0 ∷ []

abbrev pub tell_encode : Result ⊤ Refusal → Told
tell_encode = tell no_values

abbrev pub tell_close : Result (BitPos × ByteCount) Refusal → Told
tell_close = tell in_use

abbrev pub told_encoded : Encoded ⊤ → List ℕ → Outcome
told_encoded = told no_values

abbrev pub told_closing : Encoded (BitPos × ByteCount) → List ℕ → Outcome
told_closing = told in_use

-- a refusal with the state that goes with it; the bits stay
abbrev pub refusing : Enc → List Bool → ℕ → Outcome
refusing e bs r = (refused r, e, bs)

-- ---- refusals, 0 for none; n is the buffer's length in bytes

-- opening: 5, then 1
unfoldable pub open_fault : ℕ → ℕ
open_fault n = or_else (when (ltb limit n) 5) (when (ltb n 13) 1)

-- 1: the bits f of a point, and the marker, do not fit in what is left
unfoldable pub room_fault : Enc → List Bool → ℕ
room_fault e f = when (ltb (8 * e.len) (e.at + length f + 36)) 1

-- values of 2^c bits
module _ (c : ℕ) where
  -- 13: another length than at opening, one above the limit, a position below 64 or without room for the marker behind it, a window
  -- that no state can have
  unfoldable pub no_fit : Enc → ℕ → Bool
  no_fit e n =
      not (eqb n e.len) || (ltb limit e.len || (ltb e.at 64 || (ltb (8 * e.len) (e.at + 36)
      || bad_window c e.window)))

  -- 12, then 13
  unfoldable pub standing : Enc → ℕ → ℕ
  standing e n = or_else (when e.closed 12) (when (no_fit e n) 13)

  -- a point: these, then 2, then 3 or 4, then 1
  unfoldable pub point_fault : Enc → ℕ → Point → ℕ
  point_fault e n p =
      or_else (standing e n) (or_else (time_fault (progress e) p.time) (room_fault e (point_bits c (progress e) p)))

-- ---- states after a call

-- closed, its other fields zero
unfoldable pub shut : Enc
shut = enc 0 0 (state 0 0 0 (window 0 0)) false true

-- as it was, marked closed
unfoldable pub marked : Enc → Enc
marked e = enc e.len e.at (kept e) e.first true

module _ (c : ℕ) where
  -- behind the start
  unfoldable pub fresh : ℕ → ℕ → Enc
  fresh n start = enc n 64 (state start 0 0 (encoder_window c)) true false

  -- behind a point's bits, with the layout's state after it
  unfoldable pub after : Enc → Point → Enc
  after e p = enc e.len (e.at + length (point_bits c (progress e) p)) (state_after c (progress e) p) false false

  -- ---- the calls; bs are the buffer's bits

  -- the start is written
  unfoldable pub open_of : ℕ → ℕ → List Bool → Outcome
  open_of start n bs =
      by_fault {A = Outcome} (open_fault n)
      (given [], fresh n start, replaced bs 0 (start_bits start))
      (refusing shut bs)

  -- the point's bits are written
  unfoldable pub encode_of : Enc → ℕ → List Bool → Point → Outcome
  encode_of e n bs p =
      by_fault {A = Outcome} (point_fault c e n p)
      (given [], after e p, replaced bs e.at (point_bits c (progress e) p))
      (refusing e bs)

  -- the marker is written, for which room was kept: never 1
  unfoldable pub close_of : Enc → ℕ → List Bool → Outcome
  close_of e n bs =
      by_fault {A = Outcome} (standing c e n)
      (given ((e.at + 36) ∷ bytes_for (e.at + 36) ∷ []), marked e, replaced bs e.at marker)
      (refusing e bs)
