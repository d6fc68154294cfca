-- Tests, by cases.
use mathlib.Core.Path.{◌≡◌, refl, sym, ap₂, ◌∙◌}
use mathlib.Core.Bool.{Bool, true, false, cond, ◌&&◌, ◌||◌}
use native.Mathlib.Omega.{arith}
use Prim.Native.Nat.{ℕ, suc}
use lib.IntN.{ℤ}
use lib.Signed.{le_z}
use mir.Syntax.{w64}
use mir.Val.{SFits, to_z, of_z}
use mir.Facts.{to_z-of_z}

pub by_bool {ℓ} : (P : Bool → Type ℓ) (b : Bool) → (b ≡ true → P true) → (b ≡ false → P false) → P b
by_bool P true f g = f refl
by_bool P false f g = g refl

pub never {ℓ} : {A : Type ℓ} (b : Bool) → b ≡ true → b ≡ false → A
never b e f = let z : true ≡ false = sym e ∙ f in let y : ◌≡◌ {A = ℕ} 0 1 = cc in absurd (omega arith)

pub both : (a b : Bool) → (a && b) ≡ true → (a ≡ true) × (b ≡ true)
both true b e = (refl, e)
both false b e = never false e refl

pub and_true : (a b : Bool) → a ≡ true → (a && b) ≡ b
and_true a b e = rw e

pub and_false : (a b : Bool) → a ≡ false → (a && b) ≡ false
and_false a b e = rw e

pub and_never : (a b : Bool) → b ≡ false → (a && b) ≡ false
and_never true b e = e
and_never false b e = refl

pub and_still : (a b : Bool) → b ≡ true → (a && b) ≡ a
and_still true b e = e
and_still false b e = refl

pub neither : (a b : Bool) → (a || b) ≡ false → (a ≡ false) × (b ≡ false)
neither true b e = never true refl e
neither false b e = (refl, e)

-- a refusal's number is 0: its test was not met
pub unmet : (b : Bool) (k y : ℕ) → cond b (suc k) y ≡ 0 → (b ≡ false) × (y ≡ 0)
unmet true k y e = absurd (omega arith)
unmet false k y e = (refl, e)

pub met : (b : Bool) (k : ℕ) → cond b 0 (suc k) ≡ 0 → b ≡ true
met true k e = refl
met false k e = absurd (omega arith)

-- two signed numbers, compared by their bits
pub le_is : (a b : ℤ) → SFits w64 a → SFits w64 b → le_z (to_z w64 (of_z w64 a)) (to_z w64 (of_z w64 b)) ≡ le_z a b
le_is a b f g = ap₂ le_z (to_z-of_z f) (to_z-of_z g)
