-- Which windows a state can't have.
use mathlib.Core.Path.{◌≡◌, refl, sym, ◌∙◌}
use mathlib.Core.Bool.{Bool, true, false, not, ◌&&◌}
use Prim.Native.Nat.{ℕ, ◌+◌, ◌-◌, ◌^◌}
use native.Mathlib.Omega.{arith}
use lib.Dec.{eqb, ltb}
use lib.Pow.{pow_pos}
use borrow.Author.Tests.{lt-ltb, le-ltb, eq-eqb, ne_eqb, eqb-true}
use Rattle.layout.specs.declared.Window.{Window}
use Rattle.layout.specs.Windows.{window, no_digit, unopened, bad_window}
use Rattle.layout.specs.Promises.{BadWindow}
use Rattle.layout.proofs.Tests.{and_false, and_never, and_still}

module _ (c : ℕ) (w : Window) where
  not_begun : (w.lead ≡ 2 ^ c → w.trail ≡ 2 ^ c → ⊥) → not (unopened c w) ≡ true
  unfolding unopened
  not_begun f = go (eqb w.lead (2 ^ c)) (eqb w.trail (2 ^ c)) refl refl
    where
      go : (a b : Bool) → eqb w.lead (2 ^ c) ≡ a → eqb w.trail (2 ^ c) ≡ b → not (a && b) ≡ true
      go true true p q = absurd (f (eqb-true _ _ p) (eqb-true _ _ q))
      go true false p q = refl
      go false b p q = refl

  pub bad_windows : BadWindow c w
  unfolding bad_window no_digit unopened
  bad_windows = record {
    digit = λ h. and_false _ _ (le-ltb (2 ^ c - 1) (w.lead + w.trail) (omega (arith, pow_pos c)));
    begins = λ h g. and_never (ltb (2 ^ c - 1) (w.lead + w.trail)) _ (rw (eq-eqb w.lead (2 ^ c) h, eq-eqb w.trail (2 ^ c) g));
    other = λ h f. and_still _ _ (not_begun f) ∙ lt-ltb (2 ^ c - 1) (w.lead + w.trail) (omega (arith, pow_pos c));
  }

pub bad_64 : (l t : ℕ) → l ≡ 64 → not (eqb t 64) ≡ bad_window 6 (window l t)
unfolding bad_window no_digit unopened
bad_64 l t h = rw (h, lt-ltb 63 (64 + t) (omega arith))

pub bad_other : (b : Bool) (l t : ℕ) → (l ≡ 64 → ⊥) → b ≡ no_digit 6 (window l t) → b ≡ bad_window 6 (window l t)
unfolding bad_window unopened
bad_other b l t h e = e ∙ sym (and_still (no_digit 6 (window l t)) _ (rw (ne_eqb l 64 h)))
