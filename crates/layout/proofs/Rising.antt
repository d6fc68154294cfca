-- Steps use bits ever further on; so the answers on a part of the bits are precisely those that lie in it.
use mathlib.Core.Path.{◌≡◌, refl, ap}
use Prim.Native.Nat.{ℕ, zero, suc, ◌≤◌, ◌<◌}
use native.Mathlib.Nat.{le_refl, lt_of_not-le}
use native.Mathlib.Decide.{dec_le}
use native.Mathlib.Omega.{arith}
use mathlib.Core.Bool.{Bool}
use mathlib.Core.List.{List, [], ◌∷◌}
use lib.ListN.{length, get_or, get_or-replicate}
use Rattle.layout.specs.Windows.{decoder_window}
use Rattle.layout.specs.Writing.{going}
use Rattle.layout.specs.Reading.{run, read_next}
use Rattle.layout.specs.Answers.{Reached, point_at, end_at, wrong_at, position, Answer, refusal, answer_of, step, first_step, next_step, outcomes_after, outcomes, lack, torn}
use Rattle.layout.specs.Promises.{Precisely}
use Rattle.layout.proofs.Runs.{reach_from}
use Rattle.layout.proofs.Prefix.{position_reached, torn_in, torn_out, length_after, more_data}

-- positions from q on that never fall
abbrev Rising : ℕ → List Reached → Type 0
Rising q [] = Unit {0}
Rising q (o ∷ os) = (q ≤ position o) × Rising (position o) os

rises_from : (q : ℕ) (os : List Reached) (o : Reached) (i : ℕ) → Rising q os → i < length os → q ≤ position (get_or os i o)
rises_from q [] o i r h = absurd (omega arith)
rises_from q (x ∷ xs) o zero r h = r.0
rises_from q (x ∷ xs) o (suc i) r h = let k = rises_from (position x) xs o i r.1 (omega arith) in omega (arith, k, r.0)

rises : (q : ℕ) (os : List Reached) (o : Reached) (i k : ℕ) → Rising q os → i ≤ k → k < length os → position (get_or os i o) ≤ position (get_or os k o)
rises q [] o i k r h b = absurd (omega arith)
rises q (x ∷ xs) o zero zero r h b = le_refl _
rises q (x ∷ xs) o zero (suc k) r h b = rises_from (position x) xs o k r.1 (omega arith)
rises q (x ∷ xs) o (suc i) zero r h b = absurd (omega arith)
rises q (x ∷ xs) o (suc i) (suc k) r h b = rises (position x) xs o i k r.1 (omega arith) (omega arith)

-- ---- the i-th of what is torn

module _ (j : ℕ) (o : Reached) (a : Answer) where
  torn_given : (q : ℕ) (os : List Reached) (i : ℕ) → Rising q os → i < length os → position (get_or os i o) ≤ j → get_or (torn j os) i a ≡ answer_of (get_or os i o)
  torn_given q [] i r b h = absurd (omega arith)
  torn_given q (x ∷ xs) zero r b h = rw (torn_in position answer_of j x xs h)
  torn_given q (x ∷ xs) (suc i) r b h =
      let k = rises_from (position x) xs o i r.1 (omega arith) in
      rw (torn_in position answer_of j x xs (omega (arith, k, h))) (torn_given (position x) xs i r.1 (omega arith) h)

  -- behind one that is not torn
  lost_behind : (x : Reached) (xs : List Reached) (i : ℕ) → position x ≤ j → j < position (get_or (x ∷ xs) i o)
      → ((k : ℕ) → suc k ≡ i → get_or (torn j xs) k a ≡ refusal (lack j)) → get_or (torn j (x ∷ xs)) i a ≡ refusal (lack j)
  lost_behind x xs zero e h go = absurd (omega arith)
  lost_behind x xs (suc i) e h go = rw (torn_in position answer_of j x xs e) (go i refl)

  torn_lost : (os : List Reached) (i : ℕ) → i < length os → j < position (get_or os i o) → get_or (torn j os) i a ≡ refusal (lack j)
  torn_lost [] i b h = absurd (omega arith)
  torn_lost (x ∷ xs) i b h = elim (dec_le (position x) j) [
    | yes e ↦ lost_behind x xs i e h (λ k f. torn_lost xs k (omega arith) (rw (← f) at h))
    | no e ↦ rw (torn_out position answer_of j x xs (lt_of_not-le e)) (get_or-replicate (suc (length xs)) i (refusal (lack j)) a b)
  ]

-- ---- the outcomes of steps

module _ (c : ℕ) where
  step_on : (o : Reached) (s : List Bool) → position o ≤ position (next_step c o s)
  unfolding next_step step position
  step_on (point_at st q) s =
      let r = read_next c (going st) in
      rw (position_reached (run r q s)) (reach_from r q s)
  step_on (end_at q) s = le_refl q
  step_on (wrong_at k q) s = le_refl q

  rising_after : (n : ℕ) (o : Reached) (s : List Bool) → Rising (position o) (outcomes_after c n o s)
  unfolding outcomes_after
  rising_after zero o s = tt
  rising_after (suc n) o s = (step_on o s, rising_after n (next_step c o s) s)

  rising : (n : ℕ) (s : List Bool) → Rising 0 (outcomes c n s)
  unfolding outcomes
  rising zero s = tt
  rising (suc n) s = (omega arith, rising_after n (first_step c decoder_window 0 s) s)

  pub length_outcomes : (n : ℕ) (s : List Bool) → length (outcomes c n s) ≡ n
  unfolding outcomes
  length_outcomes zero s = refl
  length_outcomes (suc n) s = ap suc (length_after c n (first_step c decoder_window 0 s) s)

  pub precisely : Precisely c
  precisely n j s o a i h =
      let os = outcomes c n s in
      let b : i < length os = rw (length_outcomes n s) h in
      record {
        given = λ e. rw ((more_data c).bits_form n j s) (torn_given j o a 0 os i (rising n s) b e);
        torn = λ e. rw ((more_data c).bits_form n j s) (torn_lost j o a os i b e);
        rising = λ k e f. rises 0 os o i k (rising n s) e (rw (length_outcomes n s) f);
      }
