-- What a step leads to: a point leaves a window with a digit, and a place inside the bits.
use Rattle.std.proofs.Common.{◌≡◌, ℕ, ◌+◌, ◌-◌, ◌^◌, ◌<◌, ◌≤◌, Bool, false, cond, eqb, ltb, List, [], ◌∷◌, length, ℤ, pos, negsuc, ◌+ℤ◌, arith, ltb-false, le-ltb}
use Rattle.stream.specs.Bits.{value_of, field}
use Rattle.layout.specs.declared.Row.{Row}
use Rattle.layout.specs.Rows.{row7, longer_rows}
use Rattle.layout.specs.declared.Window.{Window}
use Rattle.layout.specs.Windows.{window, no_digit}
use Rattle.layout.specs.declared.State.{State}
use Rattle.layout.specs.Writing.{going}
use Rattle.layout.specs.Reading.{done, ask, Outcome, run, read_start, Label, Found, point, ending, wrong, Reader, read_row, read_dod, new_time, marker_rest, read_marker, read_digits, read_opened, read_window, read_xor, read_value, after_dod, read_later, first_time, read_first, read_next}
use Rattle.layout.specs.Answers.{Reached, point_at, end_at, wrong_at, reached, step, after_start, first_step}
use Rattle.layout.proofs.Tests.{by_bool}

-- by the cases of a test
pub by_cond : {A : Type 0} (P : A → Type 0) (b : Bool) {x y : A} → P x → (b ≡ false → P y) → P (cond b x y)
by_cond P b {x} {y} f g = by_bool (λ z. P (cond z x y)) b (λ e. f) g

module _ (c : ℕ) where
  abbrev pub HasDigit : Window → Type 0
  HasDigit w = no_digit c w ≡ false

  pub has_digit : (w : Window) → w.lead + w.trail < 2 ^ c → HasDigit w
  unfolding no_digit
  has_digit w h = le-ltb (2 ^ c - 1) (w.lead + w.trail) (omega arith)

  -- a step's outcome among e bits; none follows the end or a refusal
  abbrev pub Inside : ℕ → Reached → Type 0
  Inside e (point_at s q) = HasDigit s.window × (q ≤ e)
  Inside e (end_at q) = Unit {0}
  Inside e (wrong_at k q) = Unit {0}

  -- ---- readers whose points all have such a window, whatever the fields hold

  abbrev Keep : Reader → Type 0
  Keep (done (point s)) = HasDigit s.window
  Keep (done ending) = Unit {0}
  Keep (done (wrong k)) = Unit {0}
  Keep (ask l n f) = (x : ℕ) → Keep (f x)

  keep_row : (r : Row) (rs : List Row) (f : ℤ → Reader) → ((d : ℤ) → Keep (f d)) → Keep (read_row r rs f)
  unfolding read_row
  keep_row r [] f g = λ x. by_cond Keep (eqb x 0) tt (λ e. g _)
  keep_row r (r' ∷ rs) f g = λ b. by_cond Keep (eqb b 0) (λ x. g _) (λ e. keep_row r' rs f g)

  keep_dod : (f : ℤ → Reader) → ((d : ℤ) → Keep (f d)) → Keep (read_dod f)
  unfolding read_dod
  keep_dod f g = λ b. by_cond Keep (eqb b 0) (g (pos 0)) (λ e. keep_row row7 longer_rows f g)

  keep_time : (t : ℕ) (z : ℤ) (f : ℕ → ℕ → Reader) → ((a b : ℕ) → Keep (f a b)) → Keep (new_time t z f)
  unfolding new_time
  keep_time t (negsuc a) f g = tt
  keep_time t (pos δ) f g = by_cond Keep (ltb (2 ^ 64 - 1) (t + δ)) tt (λ e. g (t + δ) δ)

  module _ (v : ℕ) (f : Window → ℕ → Reader) (g : (w : Window) (u : ℕ) → HasDigit w → Keep (f w u)) where
    keep_digits : (w : Window) → HasDigit w → Keep (read_digits c v w f)
    unfolding read_digits
    keep_digits w h = λ x. g w _ h

    keep_opened : (l k : ℕ) → 0 < k → Keep (read_opened c v f l k)
    unfolding read_opened
    keep_opened l k h =
        let w = window l (2 ^ c - l - k) in
        by_cond Keep (ltb (2 ^ c) (l + k)) tt (λ e. keep_digits w (has_digit w (omega (arith, ltb-false (2 ^ c) (l + k) e))))

    keep_value : (w : Window) → HasDigit w → Keep (read_value c v w f)
    unfolding read_value read_xor read_window
    keep_value w h =
        λ b. by_cond Keep (eqb b 0) (g w v h)
        (λ e b'. by_cond Keep (eqb b' 0) (keep_digits w h) (λ e' l k. keep_opened l (k + 1) (omega arith)))

  keep_later : (s : State) → HasDigit s.window → Keep (read_later c s)
  unfolding read_later after_dod
  keep_later s h =
      keep_dod _ (λ d. keep_time s.time (pos s.delta +ℤ d) _ (λ t δ. keep_value s.value _ (λ w u k. k) s.window h))

  keep_first : (start : ℕ) (w : Window) → HasDigit w → Keep (read_first c start w)
  unfolding read_first first_time read_marker
  keep_first start w h =
      λ b. by_cond Keep (eqb b 0) (λ d. keep_time start (pos d) _ (λ t δ v. h)) (λ e m. by_cond (λ (a : Found). Keep (done a)) (eqb m marker_rest) tt (λ e'. tt))

  -- ---- steps

  module _ (s : List Bool) where
    inside : (r : Reader) (p : ℕ) → p ≤ length s → Keep r → Inside (length s) (reached (run r p s))
    unfolding run reached
    inside (done (point st)) p h w = (w, h)
    inside (done ending) p h w = tt
    inside (done (wrong k)) p h w = tt
    inside (ask l n f) p h w =
        by_cond (λ (o : Outcome Label Found). Inside (length s) (reached o)) (ltb (length s) (p + n)) tt
        (λ e. inside (f (value_of (field s p n))) (p + n) (ltb-false _ _ e) (w (value_of (field s p n))))

    pub later_inside : (st : State) (p : ℕ) → p ≤ length s → HasDigit st.window → Inside (length s) (step c (going st) p s)
    unfolding step read_next
    later_inside st p h w = inside (read_later c st) p h (keep_later st w)

    pub first_inside : (w : Window) (p : ℕ) → HasDigit w → Inside (length s) (first_step c w p s)
    unfolding first_step read_start run after_start step read_next
    first_inside w p h =
        by_cond (λ (o : Outcome (Unit {0}) ℕ). Inside (length s) (after_start c w o s)) (ltb (length s) (p + 64)) tt
        (λ e. inside (read_first c _ w) (p + 64) (ltb-false _ _ e) (keep_first _ w h))
