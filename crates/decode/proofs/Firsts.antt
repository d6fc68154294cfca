-- The first point as a step of unpacking, and the decoder behind it.
use Rattle.std.proofs.Common.{◌≡◌, ℕ, ◌*◌, ◌≤◌, Bool, true, false, List, length, sym, refl, ap, ◌∙◌, arith}
use Rattle.stream.specs.Calls.{limit}
use Rattle.layout.specs.Answers.{Reached, point_at, end_at, wrong_at, Answer, a_point, an_end, refusal, answer_of, first_step}
use Rattle.decode.specs.States.{still, Dec}
use Rattle.decode.specs.Calls.{ends, stepped, no_fit, onward, next_of}
use Rattle.decode.specs.Parts.{unplaced}
use Rattle.decode.proofs.CallLaws.{fit_gives, misfits, found_stepped, onward_first, every_state}
use Rattle.decode.proofs.Holds.{Inside, has_digit, first_inside}

-- behind a point the decoder still reads, and fits its buffer
stands : (d e : Dec) (m : ℕ) (bs : List Bool) (t v b : ℕ) (o : Reached) → Inside 6 (length bs) o → length bs ≡ 8 * m → d.len ≡ m → m ≤ limit
    → (a_point t v b, e) ≡ stepped d o → (no_fit 6 e m ≡ false) × (e.first ≡ false) × (e.ended ≡ still)
unfolding stepped ends answer_of
stands d e m bs t v b (point_at s q) h all same short z =
    let k = ap (λ (x : Answer × Dec). x.1) z in
    rw k ((misfits 6 _ m).otherwise (sym same) (omega arith) (omega (arith, h.1)) ∙ h.0, refl, refl)
stands d e m bs t v b (end_at q) h all same short z =
    let k : a_point t v b ≡ an_end q = ap (λ (x : Answer × Dec). x.0) z in
    let y : ◌≡◌ {A = ℕ} 0 1 = cc in
    absurd (omega arith)
stands d e m bs t v b (wrong_at r q) h all same short z =
    let k : a_point t v b ≡ refusal r = ap (λ (x : Answer × Dec). x.0) z in
    let y : ◌≡◌ {A = ℕ} 0 1 = cc in
    absurd (omega arith)

module _ (d : Dec) (m : ℕ) (bs : List Bool) (fit : no_fit 6 d m ≡ false) (first : d.first ≡ true) (going : d.ended ≡ still)
    (o : Reached) (e : o ≡ unplaced (first_step 6 d.window d.at bs)) where
  -- it is what the decoder answers
  pub first_answers : (x : Answer × Dec) → x ≡ stepped d o → x ≡ next_of 6 d m bs
  first_answers x z =
      z ∙ found_stepped d o (onward 6 d bs) (e ∙ onward_first 6 d bs first) ∙ sym ((every_state 6 d m bs).goes_on going fit)

  pub first_stands : (t v b : ℕ) (e' : Dec) → (a_point t v b, e') ≡ stepped d o → length bs ≡ 8 * m
      → (no_fit 6 e' m ≡ false) × (e'.first ≡ false) × (e'.ended ≡ still)
  first_stands t v b e' z all =
      let k = fit_gives 6 d m fit in
      stands d e' m bs t v b (first_step 6 d.window d.at bs) (first_inside 6 bs d.window d.at (has_digit 6 d.window (omega (arith, k.1)))) all k.3 k.0
      (z ∙ found_stepped d o (first_step 6 d.window d.at bs) e)
