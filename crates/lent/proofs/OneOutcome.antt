-- What the calls state leaves no choice, and what is refused changes nothing.
use mathlib.Core.Path.{◌≡◌, ap}
use Prim.Native.Nat.{ℕ}
use Rattle.stream.specs.Calls.{Told, tell_bits}
use Rattle.stream.specs.Promises.{Tells}
use Rattle.std.specs.Prelude.{⊤}
use Rattle.std.specs.declared.result.Result.{Result}
use Rattle.stream.specs.declared.refusal.Refusal.{Refusal}
use Rattle.stream.specs.declared.position.BitPos.{BitPos}
use Rattle.stream.specs.declared.position.ByteCount.{ByteCount}
use Rattle.stream.proofs.OneOutcome as stream
use Rattle.encode.specs.declared.std_encoder.Encoded.{Encoded}
use Rattle.encode.proofs.OneOutcome as encoder
use Rattle.decode.specs.declared.std_decoder.Decoded.{Decoded}
use Rattle.decode.specs.declared.std_decoder.Step.{Step}
use Rattle.decode.proofs.OneOutcome as decoder
use Rattle.lent.specs.declared.held_reader.HeldReader.{HeldReader}
use Rattle.lent.specs.declared.held_reader.TwoReads.{TwoReads}
use Rattle.lent.specs.Calls.{Reading, told_held, told_two, offered, shutting, answered}
use Rattle.lent.specs.Promises.{OneOutcome, RefusedInPlaces}

bits_told : Tells (Result ℕ Refusal) Told tell_bits
bits_told = stream.told _ (λ x y e. let n : x ≡ y = cc in n)

read_once : (a b : Result ℕ Refusal) (r s : HeldReader) → told_held a r ≡ told_held b s → (a ≡ b) × (r ≡ s)
read_once a b r s e = (bits_told a b (ap (λ (o : Reading). o.0) e), λ i. record { bytes = (e i).2; at = record { 0 = (e i).1 } })

two_told : Tells TwoReads (Told × (Told × ℕ)) told_two
two_told r s e =
    let t = bits_told r.first s.first (ap (λ (o : Told × (Told × ℕ)). o.0) e) in
    let u = bits_told r.second s.second (ap (λ (o : Told × (Told × ℕ)). o.1.0) e) in
    λ i. record { first = t i; second = u i; at = record { 0 = (e i).1.1 } }

pub one_outcome : OneOutcome
one_outcome = record {
  made = λ r s b p. λ i. record { bytes = b i; at = record { 0 = p i } };
  read = read_once;
  peak = bits_told;
  two = two_told;
  encode = λ a b e f l m hl hm t.
      let o = (encoder.one_outcome).encode (offered a e) (offered b f) l m hl hm t in
      (ap (λ (r : Encoded ⊤). r.answer) o.0, ap (λ (r : Encoded ⊤). r.encoder) o.0, o.1);
  close = λ a b e f l m hl hm t.
      let o = (encoder.one_outcome).close (shutting a e) (shutting b f) l m hl hm t in
      (ap (λ (r : Encoded (BitPos × ByteCount)). r.answer) o.0, ap (λ (r : Encoded (BitPos × ByteCount)). r.encoder) o.0, o.1);
  next = λ a b d e t.
      let o = (decoder.one_outcome).next (answered a d) (answered b e) t in
      (ap (λ (r : Decoded Step). r.answer) o, ap (λ (r : Decoded Step). r.decoder) o);
}

pub refused_in_place : RefusedInPlaces
refused_in_place l m hl hm = record {
  encode = λ e f p a s h. (encoder.refused_nothing l m hl hm).encode (offered a f) e p s h;
  close = λ e f a s h. (encoder.refused_nothing l m hl hm).close (shutting a f) e s h;
}
