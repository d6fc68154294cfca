-- What the bit reader's answer says of a field, and what a field says of a reader that begins with it.
use Rattle.std.proofs.Common.{◌≡◌, ℕ, ◌+◌, ◌-◌, ◌*◌, ◌/◌, ◌^◌, ◌<◌, ◌≤◌, Bool, cond, eqb, List, [], ◌∷◌, length, refl, ap, ◌∙◌, lt_of_not-le, arith, ne_eqb}
use native.Mathlib.Decide.{dec_le}
use Rattle.stream.specs.Bits.{value_of, bits, field}
use Rattle.stream.specs.Calls.{limit, Told, given, refused, tell_bits, field_fault, read_of}
use Rattle.std.specs.declared.result.Result.{Result}
use Rattle.std.specs.Prelude.{Ok, Err}
use Rattle.stream.specs.declared.refusal.Refusal.{Refusal}
use Rattle.stream.specs.declared.refusal.Refusal.TheVariants.{CutShort}
use Rattle.stream.specs.Refusals.{number_of}
use Rattle.stream.proofs.Bytes.{length_bits}
use Rattle.stream.proofs.Taking.{field_lt}
use Rattle.stream.proofs.Outcomes.{read_is, read_none, told_as}
use Rattle.layout.specs.declared.State.{State}
use Rattle.layout.specs.Reading.{done, ask, run, Label, point, ending, wrong, Reader}
use Rattle.layout.specs.Answers.{point_at, end_at, wrong_at, reached}
use Rattle.layout.proofs.Runs.{run_there, run_cut}
use Rattle.decode.specs.declared.field.Peeked.{Peeked}
use Rattle.decode.specs.Words.{Known}
use Rattle.decode.specs.Parts.{place, GotField, unplaced, comes_to, from}
use Rattle.decode.proofs.Peeks.{known_first}

-- ---- the bit reader's answer

module _ (l : List ℕ) (p n : ℕ) (few : n ≤ 64) (short : length l ≤ limit) where
  module _ (q : ℕ) (a : Result ℕ Refusal) (e : (tell_bits a, q) ≡ read_of l p n) where
    whole : (v : ℕ) → a ≡ Ok v → (v ≡ value_of (field (bits l) p n)) × (q ≡ p + n) × (p + n ≤ length (bits l))
    whole v f = elim (dec_le (p + n) (8 * length l)) [
      | yes h ↦
          let o = told_as l p n q a (Ok v) f e ∙ read_is l p n few short h in
          let t : given (v ∷ []) ≡ given (value_of (field (bits l) p n) ∷ []) = ap (λ (o : Told × ℕ). o.0) o in
          let x : v ≡ value_of (field (bits l) p n) = cc in
          (x, ap (λ (o : Told × ℕ). o.1) o, rw (length_bits l) h)
      | no h ↦
          let o = told_as l p n q a (Ok v) f e ∙ read_none l p n few short (lt_of_not-le h) in
          let t : given (v ∷ []) ≡ refused (field_fault 7 (length l) p n) = ap (λ (o : Told × ℕ). o.0) o in
          let z : ◌≡◌ {A = ℕ} 0 1 = cc in
          absurd (omega arith)
    ]

    pub read_inside : (v : ℕ) → a ≡ Ok v → q ≤ length (bits l)
    read_inside v f = let k = whole v f in rw k.1 k.2

    pub got_whole : (v : ℕ) → a ≡ Ok v → (r : Peeked) → (place r ≡ q) × (r.buf.now ≡ l) → GotField l p n (Ok (v, r))
    unfolding GotField
    got_whole v f r b = let k = whole v f in (k.2, k.0, rw k.0 (field_lt (bits l) p n), b.0 ∙ k.1, b.1)

    pub got_short : (x : Refusal) → a ≡ Err x → GotField l p n (Err CutShort)
    unfolding GotField
    got_short x f = elim (dec_le (p + n) (8 * length l)) [
      | yes h ↦
          let o = told_as l p n q a (Err x) f e ∙ read_is l p n few short h in
          let t : tell_bits (Err x) ≡ given (value_of (field (bits l) p n) ∷ []) = ap (λ (o : Told × ℕ). o.0) o in
          let z : ◌≡◌ {A = ℕ} 0 1 = cc in
          absurd (omega arith)
      | no h ↦ (refl, rw (length_bits l) (lt_of_not-le h))
    ]

-- ---- a field out of a word that has it

pub known_room : (s : List Bool) (q h w n : ℕ) → Known s q h w → n ≤ h → q + n ≤ length s
unfolding Known
known_room s q h w n known few = omega (arith, known.1)

pub got_known : (l : List ℕ) (q h w n : ℕ) (r : Peeked) → Known (bits l) q h w → n ≤ h → place r ≡ q + n → r.buf.now ≡ l
    → GotField l q n (Ok (w / 2 ^ (64 - n), r))
unfolding GotField
got_known l q h w n r known few behind same =
    let x = known_first (bits l) q h w n known few in
    (known_room (bits l) q h w n known few, x, rw x (field_lt (bits l) q n), behind, same)

-- a place in a buffer within the limit leaves room for the sum of it and a field
pub place_fits : (l : List ℕ) (q n : ℕ) → q ≤ length (bits l) → length l ≤ limit → n ≤ 64 → q + n < 2 ^ 64
place_fits l q n h k m = omega (arith, length_bits l)

pub known_inside : (s : List Bool) (q h w : ℕ) → Known s q h w → q ≤ length s
unfolding Known
known_inside s q h w k = omega (arith, k.1)

-- a reader from the same place of the same bytes on
pub at_place : (p : Peeked) (q : ℕ) (l : List ℕ) → (place p ≡ q) × (p.buf.now ≡ l) → (r : Reader) → from r p ≡ comes_to r q (bits l)
at_place p q l e r = λ i. comes_to r (e.0 i) (bits (e.1 i))

-- ---- a reader that begins with the field

module _ (a : Label) (n : ℕ) (f : ℕ → Reader) (p : ℕ) (l : List ℕ) where
  pub by_short : (x : Refusal) → GotField l p n (Err x) → wrong_at (number_of x) 0 ≡ comes_to (ask a n f) p (bits l)
  unfolding GotField comes_to unplaced reached
  by_short x k = rw (k.0, run_cut a n f p (bits l) k.1)

  pub by_whole : (x : ℕ × Peeked) → GotField l p n (Ok x) → from (f x.0) x.1 ≡ comes_to (ask a n f) p (bits l)
  unfolding GotField comes_to
  by_whole x k = at_place x.1 _ l (k.3, k.4) (f x.0) ∙ rw (run_there a n f p (bits l) k.0, ← k.1) refl

module _ (l : List ℕ) (p n : ℕ) (x : ℕ × Peeked) (k : GotField l p n (Ok x)) where
  -- its number has no more digits than were asked for
  pub whole_lt : x.0 < 2 ^ n
  unfolding GotField
  whole_lt = k.2

  -- what is behind it is on the same bytes
  pub whole_on : x.1.buf.now ≡ l
  unfolding GotField
  whole_on = k.4

-- a field in which 0 chooses
module _ (a : Label) (n : ℕ) (y : Reader) (z : ℕ → Reader) (p : ℕ) (l : List ℕ) (x : ℕ × Peeked) (k : GotField l p n (Ok x)) where
  pub by_zero : x.0 ≡ 0 → from y x.1 ≡ comes_to (ask a n (λ v. cond (eqb v 0) y (z v))) p (bits l)
  by_zero h = rw h at (by_whole a n (λ v. cond (eqb v 0) y (z v)) p l x k)

  pub by_other : (x.0 ≡ 0 → ⊥) → from (z x.0) x.1 ≡ comes_to (ask a n (λ v. cond (eqb v 0) y (z v))) p (bits l)
  by_other h = rw (ne_eqb x.0 0 h) at (by_whole a n (λ v. cond (eqb v 0) y (z v)) p l x k)

-- ---- a reader that is done

module _ (q : ℕ) (s : List Bool) where
  pub done_point : (st : State) → point_at st q ≡ comes_to (done (point st)) q s
  unfolding comes_to run reached unplaced
  done_point st = refl

  pub done_end : end_at q ≡ comes_to (done ending) q s
  unfolding comes_to run reached unplaced
  done_end = refl

  pub done_wrong : (k : ℕ) → wrong_at k 0 ≡ comes_to (done (wrong k)) q s
  unfolding comes_to run reached unplaced
  done_wrong k = refl
