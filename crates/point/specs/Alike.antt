-- Being alike is an equivalence, as std's `Eq` asks of `==`: at the times, at the values, and so at points.
use Rattle.std.specs.Prelude.{◌≡◌, ◌*◌, Bool, true, false, not, ◌&&◌, ◌||◌, Float}
use Rattle.std.specs.Cmp.{IsEquivalence, and_equiv, on_equiv, nat_eq_equiv, per_alike}
use Rattle.std.specs.Float.Cmp.{floats_per}
use mathlib.Core.Path.{refl, sym, ap, ◌∙◌}
use mathlib.Core.Bool.{true≢false, and_comm, and_self, or-false, not-or_self}
use lib.Ieee.{nan, inf, fin, up, down, eq, is_nan}
use borrow.Author.Tests.{eq-eqb}
use Rattle.point.specs.Points.{same_of}
use Rattle.point.specs.declared.DataPoint.{DataPoint}

-- values that IEEE's == takes as equal or that are both NaN, as in `same_of`
abbrev like : Float → Float → Bool
like x y = eq x y || (is_nan x && is_nan y)

-- only a NaN differs from itself
pub self_eq : (x : Float) → eq x x ≡ not (is_nan x)
unfolding eq is_nan
self_eq nan = refl
self_eq (inf true) = refl
self_eq (inf false) = refl
self_eq (fin true m e) = simp (eq-eqb (m * up e * down e) (m * up e * down e) refl)
self_eq (fin false m e) = simp (eq-eqb (m * up e * down e) (m * up e * down e) refl)

numbers : (x y z : Float) → (eq x y || false) ≡ true → (eq x z || false) ≡ (eq y z || false)
numbers x y z e = ap (λ (b : Bool). b || false) (per_alike floats_per x y z (sym (or-false (eq x y)) ∙ e))

like_congr : (x y z : Float) → like x y ≡ true → like x z ≡ like y z
unfolding eq is_nan
like_congr nan nan z e = refl
like_congr nan (inf t) z e = absurd (true≢false (sym e))
like_congr nan (fin t n d) z e = absurd (true≢false (sym e))
like_congr (inf s) nan z e = absurd (true≢false (sym e))
like_congr (inf s) (inf t) z e = numbers (inf s) (inf t) z e
like_congr (inf s) (fin t n d) z e = numbers (inf s) (fin t n d) z e
like_congr (fin s m c) nan z e = absurd (true≢false (sym e))
like_congr (fin s m c) (inf t) z e = numbers (fin s m c) (inf t) z e
like_congr (fin s m c) (fin t n d) z e = numbers (fin s m c) (fin t n d) z e

like_equiv : IsEquivalence like
like_equiv = record {
  refl = λ x. rw (self_eq x, and_self (is_nan x)) (not-or_self (is_nan x));
  symm = λ x y. λ i. floats_per.symm x y i || and_comm (is_nan x) (is_nan y) i;
  congr = like_congr;
}

pub same_equiv : IsEquivalence same_of
same_equiv = and_equiv (on_equiv (λ (p : DataPoint). p.time) nat_eq_equiv) (on_equiv (λ (p : DataPoint). p.value) like_equiv)
