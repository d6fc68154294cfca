-- More data never changes an answer.
use mathlib.Core.Path.{◌≡◌, refl, sym, ap, ◌∙◌}
use Prim.Native.Nat.{ℕ, zero, suc, ◌+◌, ◌*◌, ◌≤◌, ◌<◌}
use native.Mathlib.Nat.{lt_of_not-le}
use native.Mathlib.Decide.{dec_le}
use native.Mathlib.Omega.{arith}
use mathlib.Core.Bool.{Bool}
use mathlib.Core.List.{List, [], ◌∷◌, map}
use lib.ListN.{length, take, replicate}
use lib.Seq.{take-length}
use borrow.Author.Tests.{le-ltb, lt-ltb, le-leb, lt-leb}
use Rattle.stream.specs.Bits.{bits}
use Rattle.stream.proofs.Bytes.{bits_take}
use Rattle.layout.specs.Windows.{decoder_window}
use Rattle.layout.specs.Writing.{begun, going}
use Rattle.layout.specs.Reading.{Outcome, got, cut, reach, run, read_start, Label, Found, point, ending, wrong, read_next}
use Rattle.layout.specs.Answers.{Reached, point_at, end_at, wrong_at, position, reached, Answer, refusal, answer_of, step, after_start, first_step, next_step, outcomes_after, outcomes, answers, lack, torn_by, torn}
use Rattle.layout.specs.Promises.{Every, KeepsPrefix, MoreData}
use Rattle.layout.proofs.Runs.{Upto, same, late, run_take, reach_from}

pub position_reached : (o : Outcome Label Found) → position (reached o) ≡ reach o
unfolding position reached reach
position_reached (got (point s) q) = refl
position_reached (got ending q) = refl
position_reached (got (wrong k) q) = refl
position_reached (cut l p n) = refl

-- ---- what is torn

module _ {A : Type 0} (place : A → ℕ) (told : A → Answer) (j : ℕ) where
  -- an answer that lies in the first j bits stays; one that does not is torn
  pub torn_in : (o : A) (os : List A) → place o ≤ j → torn_by place told j (o ∷ os) ≡ told o ∷ torn_by place told j os
  unfolding torn_by
  torn_in o os h = rw (le-leb _ _ h)

  pub torn_out : (o : A) (os : List A) → j < place o → torn_by place told j (o ∷ os) ≡ replicate (suc (length os)) (refusal (lack j))
  unfolding torn_by
  torn_out o os h = rw (lt-leb _ _ h)

torn_none : (j : ℕ) (os : List Reached) → Every (λ (o : Reached). position o ≤ j) os → torn j os ≡ map answer_of os
unfolding torn_by
torn_none j [] h = refl
torn_none j (o ∷ os) h = torn_in position answer_of j o os h.0 ∙ ap (λ (l : List Answer). answer_of o ∷ l) (torn_none j os h.1)

lack_short : (j : ℕ) → j < 64 → lack j ≡ 6
unfolding lack
lack_short j h = rw (lt-ltb _ _ h)

lack_long : (j : ℕ) → 64 ≤ j → lack j ≡ 7
unfolding lack
lack_long j h = rw (le-ltb _ _ h)

module _ (c : ℕ) where
  pub length_after : (n : ℕ) (o : Reached) (s : List Bool) → length (outcomes_after c n o s) ≡ n
  unfolding outcomes_after
  length_after zero o s = refl
  length_after (suc n) o s = ap suc (length_after n (next_step c o s) s)

  -- an outcome that is its own next one is repeated
  pub repeats : (n : ℕ) (o : Reached) (s : List Bool) → next_step c o s ≡ o → map answer_of (outcomes_after c n o s) ≡ replicate n (answer_of o)
  unfolding outcomes_after
  repeats zero o s e = refl
  repeats (suc n) o s e = rw e (ap (λ (l : List Answer). answer_of o ∷ l) (repeats n o s e))

  -- from here on: the outcome o, on the part its own answer or, where o goes beyond j, what is lacking
  abbrev Follows : ℕ → ℕ → List Bool → Reached → Reached → Type 0
  Follows n j s o o' = map answer_of (o' ∷ outcomes_after c n o' (take j s)) ≡ torn j (o ∷ outcomes_after c n o s)

  -- the part is refused with k, where the whole goes beyond j
  torn_now : (n j k q : ℕ) (s : List Bool) (o : Reached) → lack j ≡ k → j < position o → Follows n j s o (wrong_at k q)
  unfolding answer_of next_step
  torn_now n j k q s o e h =
      rw (torn_out position answer_of j o (outcomes_after c n o s) h, length_after n o s, e) (ap (λ (l : List Answer). refusal k ∷ l) (repeats n (wrong_at k q) (take j s) refl))

  -- both came to the same, which lies in the first j bits
  torn_on : (n j : ℕ) (s : List Bool) (o : Reached) → position o ≤ j
      → map answer_of (outcomes_after c n o (take j s)) ≡ torn j (outcomes_after c n o s) → Follows n j s o o
  torn_on n j s o h go =
      rw (torn_in position answer_of j o (outcomes_after c n o s) h) (ap (λ (l : List Answer). answer_of o ∷ l) go)

  -- a step on the whole, which came to w, and on the part, which came to w'
  torn_step : (n j : ℕ) (s : List Bool) (w w' : Outcome Label Found) → 64 ≤ j → Upto j w w'
      → ((o : Reached) → position o ≤ j → map answer_of (outcomes_after c n o (take j s)) ≡ torn j (outcomes_after c n o s))
      → Follows n j s (reached w) (reached w')
  unfolding reached
  torn_step n j s w w' b (same h) go =
      let k : position (reached w) ≤ j = rw (position_reached w) h in
      torn_on n j s (reached w) k (go (reached w) k)
  torn_step n j s w (cut l q m) b (late h) go =
      torn_now n j 7 (q + m) s (reached w) (lack_long j b) (rw (position_reached w) h)

  torn_after : (n j : ℕ) (s : List Bool) → 64 ≤ j → (o : Reached) → position o ≤ j
      → map answer_of (outcomes_after c n o (take j s)) ≡ torn j (outcomes_after c n o s)
  unfolding outcomes_after torn_by next_step step position
  torn_after zero j s b o h = refl
  torn_after (suc n) j s b (end_at q) h = torn_on n j s (end_at q) h (torn_after n j s b (end_at q) h)
  torn_after (suc n) j s b (wrong_at k q) h = torn_on n j s (wrong_at k q) h (torn_after n j s b (wrong_at k q) h)
  torn_after (suc n) j s b (point_at st q) h = torn_step n j s _ _ b (run_take (read_next c (going st)) q j s h) (torn_after n j s b)

  -- ---- the first step

  -- the start is the first 64 bits
  reach_start : (s : List Bool) → reach (run read_start 0 s) ≡ 64
  unfolding read_start run reach
  reach_start s = elim (dec_le 64 (length s)) [
    | yes h ↦ rw (le-ltb (length s) 64 h)
    | no h ↦ rw (lt-ltb (length s) 64 (lt_of_not-le h))
  ]

  -- what follows the start lies behind it
  start_late : (j : ℕ) (s : List Bool) (w : Outcome (Unit {0}) ℕ) → j < reach w → j < position (after_start c decoder_window w s)
  unfolding after_start step reach position
  start_late j s (got start q) h =
      let r = read_next c (begun start decoder_window) in
      rw (position_reached (run r q s)) (omega (arith, reach_from r q s))
  start_late j s (cut l p n) h = h

  -- the start, which came to w on the whole and to w' on the part
  torn_start : (n j : ℕ) (s : List Bool) (w w' : Outcome (Unit {0}) ℕ) → reach w ≡ 64 → Upto j w w'
      → Follows n j s (after_start c decoder_window w s) (after_start c decoder_window w' (take j s))
  unfolding after_start step reach position
  torn_start n j s (got start q) w' e (same h) =
      torn_step n j s _ _ (omega arith) (run_take (read_next c (begun start decoder_window)) q j s h) (torn_after n j s (omega arith))
  torn_start n j s (cut l p m) w' e (same h) = torn_on n j s (wrong_at 6 (p + m)) h (torn_after n j s (omega arith) (wrong_at 6 (p + m)) h)
  torn_start n j s w (cut l p m) e (late h) =
      torn_now n j 6 (p + m) s (after_start c decoder_window w s) (lack_short j (omega arith)) (start_late j s w h)

  more_bits : KeepsPrefix c (answers c)
  unfolding answers outcomes torn_by first_step
  more_bits zero j s = refl
  more_bits (suc n) j s = torn_start n j s (run read_start 0 s) (run read_start 0 (take j s)) (reach_start s) (run_take read_start 0 j s (omega arith))

  pub more_data : MoreData c
  unfolding answers
  more_data = record {
    bits_form = more_bits;
    bytes_form = λ n k l. ap (answers c n) (bits_take k l) ∙ more_bits n (8 * k) (bits l);
    none_torn = λ f k n j s h. k n j s ∙ torn_none j (outcomes c n s) h;
    determines = λ f k n s. ap (f n) (sym (take-length s)) ∙ k n (length s) s ∙ sym (more_bits n (length s) s) ∙ ap (answers c n) (take-length s);
  }
