-- A decoder's steps, one after the other, answer as the layout does.
use Rattle.std.proofs.Common.{◌≡◌, ℕ, zero, suc, ◌*◌, ◌≤◌, Bool, false, List, ◌∷◌, map, length, replicate, sym, refl, ap, ◌∙◌, ap₂, arith, pow_pos}
use Rattle.stream.specs.Calls.{limit}
use Rattle.layout.specs.Windows.{decoder_window}
use Rattle.layout.specs.Answers.{Reached, point_at, end_at, wrong_at, Answer, refusal, answer_of, next_step, outcomes_after, outcomes, answers}
use Rattle.layout.proofs.Prefix.{repeats}
use Rattle.decode.specs.States.{still, over, Dec, dec, kept}
use Rattle.decode.specs.Calls.{fresh, shut, ends, stepped, no_fit, onward, nexts_of}
use Rattle.decode.specs.Promises.{OpenedAnswers, RefusedAnswers}
use Rattle.decode.proofs.CallLaws.{open_not, open_there, misfits, every_state}
use Rattle.decode.proofs.Holds.{by_cond, HasDigit, has_digit, Inside, later_inside, first_inside}

-- what is answered, of each outcome
told : (d : Dec) (o : Reached) → (stepped d o).0 ≡ answer_of o
unfolding stepped ends
told d (point_at s q) = refl
told d (end_at q) = refl
told d (wrong_at k q) = refl

module _ (c : ℕ) where
  -- what ended is repeated
  over_repeats : (k n : ℕ) (d : Dec) (bs : List Bool) (a : Answer) → d.ended ≡ over a → nexts_of c k d n bs ≡ replicate k a
  unfolding nexts_of
  over_repeats zero n d bs a e = refl
  over_repeats (suc k) n d bs a e =
      rw ((every_state c d n bs).repeats a e) (ap (λ (l : List Answer). a ∷ l) (over_repeats k n d bs a e))

  -- ---- over a buffer of n bytes, whose bits are bs

  module _ (n : ℕ) (bs : List Bool) (small : n ≤ limit) (size : length bs ≡ 8 * n) where
    -- a decoder that has not ended, as its steps leave it
    record Runs (d : Dec) : Type 0 where
      running : d.ended ≡ still
      sized : d.len ≡ n
      within : d.at ≤ length bs
      digit : HasDigit c d.window

    -- 13 does not come
    fits : (d : Dec) → Runs d → no_fit c d n ≡ false
    fits d r =
        (misfits c d n).otherwise (sym r.sized) (omega (arith, r.sized)) (omega (arith, r.sized, r.within)) ∙ r.digit

    found_inside : (d : Dec) → Runs d → Inside c (length bs) (onward c d bs)
    unfolding onward
    found_inside d r =
        by_cond (Inside c (length bs)) d.first (first_inside c bs d.window d.at r.digit) (λ e. later_inside c bs (kept d) d.at r.within r.digit)

    -- one step, and those after it
    steps : (k : ℕ) (d : Dec) → Runs d → nexts_of c k (stepped d (onward c d bs)).1 n bs ≡ map answer_of (outcomes_after c k (onward c d bs) bs)
        → nexts_of c (suc k) d n bs ≡ map answer_of (onward c d bs ∷ outcomes_after c k (onward c d bs) bs)
    unfolding nexts_of
    steps k d r rest =
        rw ((every_state c d n bs).goes_on r.running (fits d r)) (ap₂ ◌∷◌ (told d (onward c d bs)) rest)

    -- the steps behind an outcome
    after : (k : ℕ) (d : Dec) (o : Reached) → d.len ≡ n → Inside c (length bs) o → nexts_of c k (stepped d o).1 n bs ≡ map answer_of (outcomes_after c k o bs)
    unfolding nexts_of outcomes_after next_step stepped ends onward
    after zero d o e h = refl
    after (suc k) d (end_at q) e h = over_repeats (suc k) n _ bs (answer_of (end_at q)) refl ∙ sym (repeats c (suc k) (end_at q) bs refl)
    after (suc k) d (wrong_at x q) e h = over_repeats (suc k) n _ bs (answer_of (wrong_at x q)) refl ∙ sym (repeats c (suc k) (wrong_at x q) bs refl)
    after (suc k) d (point_at s q) e h =
        let d' = dec d.len q s false still in
        let r : Runs d' = record { running = refl; sized = e; within = h.1; digit = h.0 } in
        steps k d' r (after k d' (onward c d' bs) e (found_inside d' r))

    opened : (k : ℕ) → nexts_of c k (fresh n) n bs ≡ answers c k bs
    unfolding nexts_of fresh answers outcomes onward
    opened zero = refl
    opened (suc k) =
        let r : Runs (fresh n) = record { running = refl; sized = refl; within = omega arith; digit = has_digit c decoder_window (pow_pos c) } in
        steps k (fresh n) r (after k (fresh n) (onward c (fresh n) bs) refl (found_inside (fresh n) r))

  pub opened_answers : OpenedAnswers c
  opened_answers k n bs small size = rw (open_there n small) (opened n bs small size k)

  pub refused_answers : RefusedAnswers c
  unfolding shut
  refused_answers k n m bs h = rw (open_not n h) (refl, over_repeats k m (shut 5) bs (refusal 5) refl)
