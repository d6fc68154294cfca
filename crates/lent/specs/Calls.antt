-- What the calls of the lent shapes tell: by the words of the calls that they are thin over.
use Rattle.std.specs.Prelude.{ℕ, List, ⊤}
use Rattle.std.specs.Borrow.{Bor}
use Rattle.std.specs.declared.result.Result.{Result}
use Rattle.stream.specs.declared.refusal.Refusal.{Refusal}
use Rattle.stream.specs.declared.position.BitPos.{BitPos}
use Rattle.stream.specs.declared.position.ByteCount.{ByteCount}
use Rattle.stream.specs.Calls.{Told, tell_bits, read_of}
use Rattle.encode.specs.declared.std_encoder.StdEncoder.{StdEncoder}
use Rattle.encode.specs.declared.std_encoder.Encoded.{Encoded}
use Rattle.decode.specs.declared.std_decoder.StdDecoder.{StdDecoder}
use Rattle.decode.specs.declared.std_decoder.Step.{Step}
use Rattle.decode.specs.declared.std_decoder.Decoded.{Decoded}
use Rattle.lent.specs.declared.held_reader.HeldReader.{HeldReader}
use Rattle.lent.specs.declared.held_reader.TwoReads.{TwoReads}

-- ---- a reader that holds its bytes

-- what was answered, the place that the reader has after it, and the bytes that it holds
abbrev pub Reading : Type 0
Reading = Told × ℕ × Bor (List ℕ)

abbrev pub told_held : Result ℕ Refusal → HeldReader → Reading
told_held a r = (tell_bits a, r.at.0, r.bytes)

-- a read of num bits: the bit reader's on the bytes held, from the place held; the bytes stay
abbrev pub held_of : HeldReader → ℕ → Reading
held_of r num = ((read_of r.bytes.now r.at.0 num).0, (read_of r.bytes.now r.at.0 num).1, r.bytes)

-- two reads: what each answered, and the place after both
abbrev pub told_two : TwoReads → Told × (Told × ℕ)
told_two r = (tell_bits r.first, (tell_bits r.second, r.at.0))

-- the second from where the first left the reader
abbrev pub two_of : List ℕ → ℕ → ℕ → ℕ → Told × (Told × ℕ)
two_of l p first second = ((read_of l p first).0, read_of l (read_of l p first).1 second)

-- ---- a state changed in place: the answer, and the state behind the reference after it, as the call by value returns them

abbrev pub returned : {A : Type 0} → Result A Refusal → StdEncoder → Encoded A
returned a e = record { answer = a; encoder = e }

abbrev pub offered : Result ⊤ Refusal → StdEncoder → Encoded ⊤
offered = returned

abbrev pub shutting : Result (BitPos × ByteCount) Refusal → StdEncoder → Encoded (BitPos × ByteCount)
shutting = returned

abbrev pub answered : Step → StdDecoder → Decoded Step
answered a d = record { answer = a; decoder = d }
