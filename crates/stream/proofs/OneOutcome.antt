-- What the calls state leaves no choice.
use mathlib.Core.Path.{◌≡◌, refl, ap}
use mathlib.Core.Bool.{Bool}
use mathlib.Core.List.{List}
use Prim.Native.Nat.{ℕ}
use Rattle.std.specs.Prelude.{Ok, Err, Some, None, ⊤}
use Rattle.std.specs.declared.option.Option.{Option}
use Rattle.std.specs.declared.result.Result.{Result}
use Rattle.stream.specs.Refusals.{number_of}
use Rattle.stream.specs.Calls.{Told, refused, bit_number, tell, tell_write, tell_bit, tell_byte, tell_bits, tell_ahead, tell_in_bits, told_write}
use Rattle.stream.specs.Promises.{AreBytes, Tells, OneOutcome}
use Rattle.stream.specs.declared.Bit.{Bit}
use Rattle.stream.specs.declared.Bit.TheVariants.{Zero, One}
use Rattle.stream.specs.declared.refusal.Refusal.{Refusal}
use Rattle.stream.specs.declared.position.BitPos.{BitPos}
use Rattle.stream.specs.declared.buffered_write.Written.{Written}
use Rattle.stream.proofs.Bytes.{bits_inj}
use Rattle.stream.proofs.Outcomes.{by_number, by_name}

-- ---- answers

refused_once : (r s : Refusal) → refused (number_of r) ≡ refused (number_of s) → r ≡ s
refused_once r s e = let n : number_of r ≡ number_of s = cc in by_number r s n

by_bit : Tells Bit ℕ bit_number
by_bit Zero Zero e = refl
by_bit Zero One e = cc
by_bit One Zero e = cc
by_bit One One e = refl

-- a result is what is told of it, where its values are
pub told : {A : Type 0} (values : A → List ℕ) → Tells A (List ℕ) values → Tells (Result A Refusal) Told (tell values)
told values once (Ok x) (Ok y) e = let n : values x ≡ values y = cc in ap Ok (once x y n)
told values once (Ok x) (Err s) e = cc
told values once (Err r) (Ok y) e = cc
told values once (Err r) (Err s) e = ap Err (refused_once r s e)

write_told : Tells (Result ⊤ Refusal) Told tell_write
write_told = told _ (λ u v e. refl)

bit_told : Tells (Result Bit Refusal) Told tell_bit
bit_told = told _ (λ a b e. let n : bit_number a ≡ bit_number b = cc in by_bit a b n)

byte_told : Tells (Result ℕ Refusal) Told tell_byte
byte_told = told _ (λ x y e. let n : x ≡ y = cc in n)

bits_told : Tells (Result ℕ Refusal) Told tell_bits
bits_told = told _ (λ x y e. let n : x ≡ y = cc in n)

place_told : Tells (Result BitPos Refusal) Told tell_in_bits
place_told = told _ (λ p q e. let n : p.0 ≡ q.0 = cc in λ i. record { 0 = n i })

ahead_told : Tells (Option ℕ) Told tell_ahead
ahead_told None None e = refl
ahead_told None (Some w) e = cc
ahead_told (Some v) None e = cc
ahead_told (Some v) (Some w) e = let n : v ≡ w = cc in ap Some n

-- ---- calls

-- the answer and the position of a pair
module _ (s t : Told) (p q : ℕ) (e : ◌≡◌ {A = Told × ℕ} (s, p) (t, q)) where
  answers : s ≡ t
  answers = ap (λ (o : Told × ℕ). o.0) e

  places : p ≡ q
  places = ap (λ (o : Told × ℕ). o.1) e

write_once : (r s : Written) (m n : List ℕ) → AreBytes m → AreBytes n → told_write r m ≡ told_write s n → (r ≡ s) × (m ≡ n)
write_once r s m n hm hn e =
    let t = write_told r.answer s.answer (ap (λ (o : Told × ℕ × List Bool). o.0) e) in
    let p : r.writer.at.0 ≡ s.writer.at.0 = ap (λ (o : Told × ℕ × List Bool). o.1) e in
    (λ i. record { answer = t i; writer = record { at = record { 0 = p i } } }, bits_inj m n hm hn (ap (λ (o : Told × ℕ × List Bool). o.2) e))

pub one_outcome : OneOutcome
one_outcome = record {
  write = write_once;
  read_bit = λ r s e.
      let t = bit_told r.answer s.answer (answers _ _ _ _ e) in
      let p = places _ _ _ _ e in
      λ i. record { answer = t i; reader = record { at = record { 0 = p i } } };
  read_byte = λ r s e.
      let t = byte_told r.answer s.answer (answers _ _ _ _ e) in
      let p = places _ _ _ _ e in
      λ i. record { answer = t i; reader = record { at = record { 0 = p i } } };
  read_bits = λ r s e.
      let t = bits_told r.answer s.answer (answers _ _ _ _ e) in
      let p = places _ _ _ _ e in
      λ i. record { answer = t i; reader = record { at = record { 0 = p i } } };
  ahead = ahead_told;
  to_bits = place_told;
  number = by_number;
  name = by_name;
  bit = by_bit;
  position = λ p q e. λ i. record { 0 = e i };
  count = λ m n e. λ i. record { 0 = e i };
  writer = λ v w e. λ i. record { at = record { 0 = e i } };
  reader = λ r s e. λ i. record { at = record { 0 = e i } };
}
