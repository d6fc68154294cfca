-- What the calls state leaves no choice, and what is refused changes nothing.
use mathlib.Core.Path.{◌≡◌, refl, ap, ◌∙◌}
use mathlib.Core.List.{List}
use Prim.Native.Nat.{ℕ}
use lib.ListN.{length}
use Rattle.std.specs.Prelude.{⊤}
use Rattle.stream.specs.Promises.{AreBytes, Tells}
use Rattle.stream.specs.declared.position.BitPos.{BitPos}
use Rattle.stream.specs.declared.position.ByteCount.{ByteCount}
use Rattle.stream.proofs.Bytes.{bits_inj}
use Rattle.stream.proofs.Outcomes.{by_some}
use Rattle.stream.proofs.OneOutcome as stream
use Rattle.encode.specs.declared.std_encoder.StdEncoder.{StdEncoder}
use Rattle.encode.specs.declared.std_encoder.Encoded.{Encoded}
use Rattle.encode.specs.declared.code.PointCode.{PointCode}
use Rattle.encode.specs.States.{Enc, view}
use Rattle.encode.specs.Codes.{in_code}
use Rattle.encode.specs.Calls.{Outcome, told, no_values, in_use, open_fault, standing, point_fault, open_of, encode_of, close_of}
use Rattle.encode.specs.Lists.{Packing}
use Rattle.encode.specs.Promises.{OneOutcome, RefusedNothings}

-- ---- answers

none_told : Tells ⊤ (List ℕ) no_values
none_told u v e = refl

close_told : Tells (BitPos × ByteCount) (List ℕ) in_use
close_told u v e =
    let a : u.0.0 ≡ v.0.0 = cc in
    let b : u.1.0 ≡ v.1.0 = cc in
    λ i. (record { 0 = a i }, record { 0 = b i })

code_told : Tells PointCode (List ℕ) in_code
code_told k j e =
    let a : k.head.bits ≡ j.head.bits = cc in
    let b : k.head.len ≡ j.head.len = cc in
    let d : k.digits.bits ≡ j.digits.bits = cc in
    let f : k.digits.len ≡ j.digits.len = cc in
    let g : k.window.lead ≡ j.window.lead = cc in
    let h : k.window.trail ≡ j.window.trail = cc in
    λ i. record { head = record { bits = a i; len = b i }; digits = record { bits = d i; len = f i }; window = record { lead = g i; trail = h i } }

-- an encoder is its numbers
by_view : Tells StdEncoder Enc view
by_view s t e =
    λ i. record {
      last = record {
        kept = record { time = (e i).time; delta = (e i).delta; value = (e i).value; window = (e i).window };
        first = (e i).first;
      };
      closed = (e i).closed;
      len = record { 0 = (e i).len };
      w = record { at = record { 0 = (e i).at } };
    }

-- ---- calls

-- where the values of an answer are what is told of them, so are the answer, the encoder and the bytes
once : {A : Type 0} (values : A → List ℕ) → Tells A (List ℕ) values → (r s : Encoded A) (l m : List ℕ) → AreBytes l → AreBytes m
    → told values r l ≡ told values s m → (r ≡ s) × (l ≡ m)
once values by r s l m a b e =
    let t = stream.told values by r.answer s.answer (ap (λ (o : Outcome). o.0) e) in
    let v = by_view r.encoder s.encoder (ap (λ (o : Outcome). o.1) e) in
    (λ i. record { answer = t i; encoder = v i }, bits_inj l m a b (ap (λ (o : Outcome). o.2) e))

pub one_outcome : OneOutcome
one_outcome = record {
  encode = once no_values none_told;
  close = once in_use close_told;
  code = stream.told in_code code_told;
  pack = λ r s l m a b e.
      let o = once no_values none_told r.last s.last l m a b (ap (λ (o : Packing). o.1) e) in
      (λ i. record { accepted = (e i).0; last = o.0 i }, o.1);
}

pub refused_nothing : RefusedNothings
unfolding open_of encode_of close_of
refused_nothing l m a b = record {
  «open» = λ r start e h.
      let o = e ∙ by_some (open_fault (length l)) _ _ h in
      (ap (λ (o : Outcome). o.0) o, ap (λ (o : Outcome). o.1) o, bits_inj m l b a (ap (λ (o : Outcome). o.2) o));
  encode = λ r s p e h.
      let o = e ∙ by_some (point_fault 6 (view s) (length l) p) _ _ h in
      (ap (λ (o : Outcome). o.0) o, by_view r.encoder s (ap (λ (o : Outcome). o.1) o), bits_inj m l b a (ap (λ (o : Outcome). o.2) o));
  close = λ r s e h.
      let o = e ∙ by_some (standing 6 (view s) (length l)) _ _ h in
      (ap (λ (o : Outcome). o.0) o, by_view r.encoder s (ap (λ (o : Outcome). o.1) o), bits_inj m l b a (ap (λ (o : Outcome). o.2) o));
}
