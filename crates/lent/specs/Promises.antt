-- What is promised of the lent shapes.
use Rattle.std.specs.Prelude.{◌≡◌, List, ℕ, ◌+◌, ◌<◌, length, ⊤}
use Rattle.stream.specs.Bits.{bits}
use Rattle.stream.specs.Calls.{Told, refused, tell_bits, width, field_fault, read_of, peek_of}
use Rattle.stream.specs.Promises.{AreBytes, Tells}
use Rattle.std.specs.declared.result.Result.{Result}
use Rattle.stream.specs.declared.refusal.Refusal.{Refusal}
use Rattle.stream.specs.declared.position.BitPos.{BitPos}
use Rattle.stream.specs.declared.position.ByteCount.{ByteCount}
use Rattle.layout.specs.Writing.{Point}
use Rattle.encode.specs.States as encoder
use Rattle.encode.specs.Calls.{tell_encode, tell_close, told_encoded, told_closing, standing, point_fault, encode_of, close_of}
use Rattle.encode.specs.declared.std_encoder.StdEncoder.{StdEncoder}
use Rattle.decode.specs.Calls.{told_next}
use Rattle.decode.specs.declared.std_decoder.StdDecoder.{StdDecoder}
use Rattle.decode.specs.declared.std_decoder.Step.{Step}
use Rattle.lent.specs.declared.held_reader.HeldReader.{HeldReader}
use Rattle.lent.specs.declared.held_reader.TwoReads.{TwoReads}
use Rattle.lent.specs.Calls.{told_held, held_of, told_two, offered, shutting, answered}

-- `one_outcome`: no two outcomes meet the statement of a call. What `position` answers is an equation; `encode_lent`, `close_lent` and `next_lent` state
-- what the calls by value state, and the other crates' `one_outcome` is about them
pub record OneOutcome : Type 0 where
  -- `new` and `at`: its bytes and its place are all of a reader
  pub made : (r s : HeldReader) → r.bytes ≡ s.bytes → r.at.0 ≡ s.at.0 → r ≡ s
  -- `read_bits`: the answer, and the reader behind the reference
  pub read : (a b : Result ℕ Refusal) (r s : HeldReader) → told_held a r ≡ told_held b s → (a ≡ b) × (r ≡ s)
  -- `peak_bits` and `first_bits`
  pub peak : Tells (Result ℕ Refusal) Told tell_bits
  -- `read_two`
  pub two : Tells TwoReads (Told × (Told × ℕ)) told_two
  -- in place: the answer, the state behind the reference and, of the encoder, the bytes
  pub encode : (a b : Result ⊤ Refusal) (e f : StdEncoder) (l m : List ℕ) → AreBytes l → AreBytes m → told_encoded (offered a e) l ≡ told_encoded (offered b f) m
      → (a ≡ b) × (e ≡ f) × (l ≡ m)
  pub close : (a b : Result (BitPos × ByteCount) Refusal) (e f : StdEncoder) (l m : List ℕ) → AreBytes l → AreBytes m → told_closing (shutting a e) l ≡ told_closing (shutting b f) m
      → (a ≡ b) × (e ≡ f) × (l ≡ m)
  pub next : (a b : Step) (d e : StdDecoder) → told_next (answered a d) ≡ told_next (answered b e) → (a ≡ b) × (d ≡ e)

-- the refusal of a read of num bits, 0 for none
abbrev pub fault_of : HeldReader → ℕ → ℕ
fault_of r num = field_fault 7 (length r.bytes.now) r.at.0 (width num)

-- `held_reads`: after a read of num bits by a reader that was r, which has answered a and left the reader s
pub record HeldRead (r s : HeldReader) (num : ℕ) (a : Result ℕ Refusal) : Type 0 where
  -- it holds the bytes that it held
  pub holds : s.bytes ≡ r.bytes
  -- it stands behind the field, so the next read goes on there
  pub moves : fault_of r num ≡ 0 → s.at.0 ≡ r.at.0 + width num
  pub goes_on : fault_of r num ≡ 0 → (k : ℕ) → (held_of s k).0 ≡ (read_of r.bytes.now (r.at.0 + width num) k).0
  -- refused, it is as it was
  pub stays : 0 < fault_of r num → (tell_bits a ≡ refused (fault_of r num)) × (s ≡ r)
  -- a peek before it answered the same
  pub foreseen : (b : Result ℕ Refusal) → tell_bits b ≡ (peek_of r.bytes.now r.at.0 num).0 → b ≡ a

-- for all that meets what the call states
abbrev pub HeldReads : Type 0
HeldReads = (r s : HeldReader) (num : ℕ) (a : Result ℕ Refusal) → told_held a s ≡ held_of r num → HeldRead r s num a

-- `refused_in_place`: the encoder's `refused_nothing`, for a state behind a reference: a refused point or close tells its number, and leaves that state
-- and every byte as they were; l are the bytes before, m those after it
pub record RefusedInPlace (l m : List ℕ) : Type 0 where
  pub encode : (e f : StdEncoder) (p : Point) (a : Result ⊤ Refusal) → told_encoded (offered a f) m ≡ encode_of 6 (encoder.view e) (length l) (bits l) p
      → 0 < point_fault 6 (encoder.view e) (length l) p → (tell_encode a ≡ refused (point_fault 6 (encoder.view e) (length l) p)) × (f ≡ e) × (m ≡ l)
  pub close : (e f : StdEncoder) (a : Result (BitPos × ByteCount) Refusal) → told_closing (shutting a f) m ≡ close_of 6 (encoder.view e) (length l) (bits l)
      → 0 < standing 6 (encoder.view e) (length l) → (tell_close a ≡ refused (standing 6 (encoder.view e) (length l))) × (f ≡ e) × (m ≡ l)

abbrev pub RefusedInPlaces : Type 0
RefusedInPlaces = (l m : List ℕ) → AreBytes l → AreBytes m → RefusedInPlace l m
