-- The laws of windows, over the width.
use mathlib.Core.Path.{◌≡◌, refl, sym, ap, ap₂, ◌∙◌}
use Prim.Native.Nat.{ℕ, zero, suc, ◌+◌, ◌-◌, ◌*◌, ◌/◌, ◌%◌, ◌^◌, ◌≤◌, ◌<◌}
use native.Mathlib.Nat.{mod-lt, mod-one, suc-mul, lt_of_not-le, lt_irrefl, lt_of_lt_of_le, div-add-mod', le_of_suc-le-suc, not-suc-le-zero, le_refl}
use native.Mathlib.Numerals.{add-one}
use native.Mathlib.Omega.{arith}
use mathlib.Core.Bool.{true}
use lib.Dec.{leb}
use lib.Arith.{bin_ind}
use lib.Pow.{pow_pos, pow_mono, shr_lt, split, mod-pow-add}
use lib.Bits.{bit_xor, differ, xor_step, xor_self, xor_shr, xor_mod}
use lib.Count.{count_leading_zeros, count_trailing_zeros, under, leading_top, leading_length}
use borrow.Author.Tests.{leb-true}
use Rattle.layout.specs.declared.Window.{Window}
use Rattle.layout.specs.Windows.{digits, reuses}
use Rattle.layout.specs.Promises.{WindowLaws}
use Rattle.layout.proofs.Tests.{both}

-- ---- xor with the same number twice

data Digit : ℕ → Type 0 where
  d0 : Digit 0
  d1 : Digit 1

digit_of : (x : ℕ) → Digit (x % 2)
digit_of x = go (x % 2) (mod-lt x (pow_pos 1))
  where
    go : (d : ℕ) → d < 2 → Digit d
    go zero h = d0
    go (suc zero) h = d1
    go (suc (suc d)) h = let z : ⊥ = omega arith in absurd z

differ_twice : {x y : ℕ} → Digit x → Digit y → differ (bit_xor x y) y ≡ x
differ_twice d0 d0 = refl
differ_twice d0 d1 = refl
differ_twice d1 d0 = refl
differ_twice d1 d1 = refl

pub xor_twice : (u v : ℕ) → bit_xor (bit_xor u v) v ≡ u
xor_twice = bin_ind (λ (a : ℕ). (b : ℕ) → bit_xor (bit_xor a b) b ≡ a) xor_self
    (λ a ih b.
    xor_step (bit_xor a b) b
    ∙ ap₂ (λ (x y : ℕ). x * 2 + y)
    (ap (λ (x : ℕ). bit_xor x (b / 2)) (xor_shr a b 1) ∙ ih (b / 2))
    (ap (λ (x : ℕ). differ x (b % 2)) (xor_mod a b 1) ∙ differ_twice (digit_of a) (digit_of b))
    ∙ div-add-mod' a 2)

-- equal if their xor is 0
pub xor_eq : (u v : ℕ) → bit_xor u v ≡ 0 → u ≡ v
xor_eq u v e = sym (xor_twice u v) ∙ ap (λ (x : ℕ). bit_xor x v) e

-- ---- zeros below: the number is its digits above them, shifted back

trailing_mod : (k t x : ℕ) → t ≤ count_trailing_zeros k x → x % 2 ^ t ≡ 0
unfolding count_trailing_zeros
trailing_mod k zero x h = mod-one x
trailing_mod zero (suc t) x h = absurd (not-suc-le-zero h)
trailing_mod (suc k) (suc t) x h = go (trailing_mod k t (x / 2)) (x % 2) refl h
  where
    go : (t ≤ count_trailing_zeros k (x / 2) → x / 2 % 2 ^ t ≡ 0) → (d : ℕ) → x % 2 ≡ d → suc t ≤ under d (count_trailing_zeros k (x / 2)) → x % 2 ^ suc t ≡ 0
    go ih zero e g = ap (λ (i : ℕ). x % 2 ^ i) (sym (add-one t)) ∙ mod-pow-add x t 1 ∙ ap₂ (λ (q r : ℕ). q * 2 + r) (ih (le_of_suc-le-suc g)) e
    go ih (suc d) e g = absurd (not-suc-le-zero g)

pub trailing_back : (k t x : ℕ) → t ≤ count_trailing_zeros k x → x / 2 ^ t * 2 ^ t ≡ x
trailing_back k t x h = omega (arith, split x t, trailing_mod k t x h)

-- ---- zeros above: the number is below 2 ^ (k - l)

pub leading_lt : (k l x : ℕ) → x < 2 ^ k → l ≤ count_leading_zeros k x → x < 2 ^ (k - l)
leading_lt k l x b h =
    let m = leading_length k x b in
    lt_of_lt_of_le m.2 (pow_mono (omega (arith, m.1)))

-- ---- zeros of a number that is not 0

-- what divides a number that is not 0 is at most it
divides_le : (n t : ℕ) → 0 < n → n % 2 ^ t ≡ 0 → 2 ^ t ≤ n
divides_le n t h e = go (n / 2 ^ t) (split n t)
  where
    go : (q : ℕ) → q * 2 ^ t + n % 2 ^ t ≡ n → 2 ^ t ≤ n
    go zero f = absurd (omega arith)
    go (suc q) f = omega (arith, suc-mul q (2 ^ t))

pub zeros_lt : (k n : ℕ) → 0 < n → n < 2 ^ k → count_leading_zeros k n + count_trailing_zeros k n < k
zeros_lt k n h b = go (leading_top k n h b)
  where
    small : (j : ℕ) → n < 2 ^ suc j → count_trailing_zeros k n < suc j
    small j l = lt_of_not-le (λ g. lt_irrefl n (omega (arith, pow_mono g, divides_le n (count_trailing_zeros k n) h (trailing_mod k (count_trailing_zeros k n) n (le_refl _)))))

    go : (j : ℕ) × (count_leading_zeros k n + suc j ≡ k) × (2 ^ j ≤ n) × (n < 2 ^ suc j) → count_leading_zeros k n + count_trailing_zeros k n < k
    go (j, e, l, u) = omega (arith, small j u)

-- ---- a window

module _ (c : ℕ) (w : Window) (x : ℕ) where
  pub reused : reuses c w x ≡ true → (w.lead ≤ count_leading_zeros (2 ^ c) x) × (w.trail ≤ count_trailing_zeros (2 ^ c) x)
  unfolding reuses
  reused e =
      let t = both (leb w.lead (count_leading_zeros (2 ^ c) x)) (leb w.trail (count_trailing_zeros (2 ^ c) x)) e in
      (leb-true _ _ t.0, leb-true _ _ t.1)

  pub digits_fit : x < 2 ^ (2 ^ c) → w.lead ≤ count_leading_zeros (2 ^ c) x → x / 2 ^ w.trail < 2 ^ digits c w
  digits_fit b h = shr_lt (digits c w) w.trail (lt_of_lt_of_le (leading_lt (2 ^ c) w.lead x b h) (pow_mono (omega arith)))

pub windows : (c : ℕ) → WindowLaws c
windows c = record {
  back = λ w x e. trailing_back (2 ^ c) w.trail x (reused c w x e).1;
  fit = λ w x b e. digits_fit c w x b (reused c w x e).0;
  twice = xor_twice;
  zeros = zeros_lt (2 ^ c);
}
