-- A later point as a step of unpacking: what was found behind what is kept is what the decoder there answers.
use Rattle.std.proofs.Common.{◌≡◌, ℕ, suc, ◌+◌, ◌-◌, ◌*◌, ◌<◌, ◌≤◌, Bool, false, List, length, set, sym, refl, ap, ◌∙◌, arith}
use Rattle.stream.specs.Refusals.{number_of}
use Rattle.stream.specs.Calls.{limit}
use Rattle.stream.specs.declared.buffered_read.BufferedReader.{BufferedReader}
use Rattle.stream.specs.declared.refusal.Refusal.{Refusal}
use Rattle.layout.specs.Reading.{read_later}
use Rattle.layout.specs.Answers.{Answer, an_end, refusal, answer_of}
use Rattle.decode.specs.declared.field.Peeked.{Peeked}
use Rattle.layout.specs.declared.State.{State}
use Rattle.std.specs.declared.result.Result.{Result}
use Rattle.std.specs.Prelude.{Ok, Err}
use Rattle.decode.specs.declared.found.Found.{Found}
use Rattle.decode.specs.declared.found.Found.TheVariants as found
use Rattle.decode.specs.declared.std_decoder.unpack.Unpacked.{Unpacked}
use Rattle.decode.specs.States.{still, Dec, dec, kept}
use Rattle.decode.specs.Calls.{ends, stepped, no_fit, onward, next_of}
use Rattle.decode.specs.Parts.{place, comes_to, then_found, step_of, found_of}
use Rattle.decode.specs.Lists.{Stop, full, said, Filling, told_unpacked, unpacks_of}
use Rattle.decode.specs.Filling.{told_stopped, stopped_of, filling_from}
use Rattle.decode.proofs.CallLaws.{misfits, found_stepped, onward_later, every_state}
use Rattle.decode.proofs.Holds.{has_digit}
use Rattle.decode.proofs.Unpacks.{one_left, goes_on, ends_here, refuses_here}

-- the decoder behind a point, on a buffer of l bytes
abbrev at : ℕ → ℕ → State → Dec
at l q k = dec l q k false still

module _ (m l q : ℕ) (k : State) (bs : List Bool) (f : Result Found Refusal) (e : found_of f ≡ comes_to (read_later 6 k) q bs)
    (same : l ≡ m) (short : m ≤ limit) (all : length bs ≡ 8 * m) (inside : q ≤ length bs) (some : k.window.lead + k.window.trail < 64) where
  -- it fits its buffer
  fits : no_fit 6 (at l q k) m ≡ false
  fits = (misfits 6 (at l q k) m).otherwise (sym same) (omega arith) (omega arith) ∙ has_digit 6 k.window some

  answers : stepped (at l q k) (found_of f) ≡ next_of 6 (at l q k) m bs
  answers =
      found_stepped (at l q k) (found_of f) (onward 6 (at l q k) bs) (e ∙ onward_later 6 (at l q k) bs refl)
      ∙ sym ((every_state 6 (at l q k) m bs).goes_on refl fits)

  module _ (i n : ℕ) (ts vs : List ℕ) (x : Filling) (inv : filling_from i ts vs (unpacks_of 6 (n - i) (at l q k) m bs) ≡ x) (h : i < n) where
    here : filling_from i ts vs (unpacks_of 6 (suc (n - (i + 1))) (at l q k) m bs) ≡ x
    here = one_left i n m (at l q k) bs ts vs x inv h

    pub gives_one : (s : State) (r : Peeked) → f ≡ Ok (found.Point s r) → i < length ts → i < length vs
        → filling_from (i + 1) (set ts i s.time) (set vs i s.value) (unpacks_of 6 (n - (i + 1)) (at l (place r) s) m bs) ≡ x
    unfolding stepped then_found step_of answer_of
    gives_one s r z j k' = goes_on 6 i _ m _ _ bs ts vs x here s.time s.value (place r) (rw z at answers) j k'

    pub ends_there : (r : BufferedReader) → f ≡ Ok (found.End r) → (i, said (an_end r.at.0), (ends (at l q k) (an_end r.at.0)).1, ts, vs) ≡ x
    unfolding stepped then_found step_of answer_of ends
    ends_there r z = ends_here 6 i _ m _ _ bs ts vs x here r.at.0 (rw z at answers)

    pub refuses_there : (r : Refusal) → f ≡ Err r → (i, said (refusal (number_of r)), (ends (at l q k) (refusal (number_of r))).1, ts, vs) ≡ x
    unfolding stepped then_found step_of answer_of ends
    refuses_there r z = refuses_here 6 i _ m _ _ bs ts vs x here (number_of r) (rw z at answers)

-- ---- what was stopped, with its lists

pub with_lists : (u : Unpacked) (i : ℕ) (d d' : Dec) (a b : Answer) (ts vs : List ℕ) → told_stopped u ≡ stopped_of i d a → d ≡ d' → a ≡ b
    → told_unpacked u ts vs ≡ (i, said b, (ends d' b).1, ts, vs)
with_lists u i d d' a b ts vs e f g =
    ap (λ (o : ℕ × Stop × Dec). (o.0, o.1, o.2, ts, vs)) e ∙ ap (λ (d : Dec). (i, said a, (ends d a).1, ts, vs)) f ∙ ap (λ (a : Answer). (i, said a, (ends d' a).1, ts, vs)) g

pub full_lists : (i j : ℕ) (d d' : Dec) (ts vs : List ℕ) → i ≡ j → d ≡ d' → ◌≡◌ {A = Filling} (i, full, d, ts, vs) (j, full, d', ts, vs)
full_lists i j d d' ts vs e f = λ k. (e k, full, f k, ts, vs)

-- ---- the decoder with which unpacking begins

pub begins : (d : Dec) (q i n m : ℕ) (bs : List Bool) (ts vs : List ℕ) → d.first ≡ false → d.ended ≡ still → q ≡ d.at
    → filling_from i ts vs (unpacks_of 6 (n - i) (dec d.len q (kept d) false still) m bs) ≡ filling_from i ts vs (unpacks_of 6 (n - i) d m bs)
begins d q i n m bs ts vs f s e =
    ap (λ (z : Dec). filling_from i ts vs (unpacks_of 6 (n - i) z m bs)) (λ j. dec d.len (e j) (kept d) (sym f j) (sym s j))
