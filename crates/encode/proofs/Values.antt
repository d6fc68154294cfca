-- The code of a xor, and the layout's words.
use mathlib.Core.Path.{◌≡◌, refl, ap, ◌∙◌}
use mathlib.Core.Bool.{Bool, true, false, cond, ◌&&◌}
use mathlib.Core.List.{List, [], ◌∷◌, ◌++◌, append_assoc, append-nil}
use Prim.Native.Nat.{ℕ, zero, suc, ◌+◌, ◌-◌, ◌/◌, ◌^◌, ◌<◌}
use native.Mathlib.Omega.{arith}
use native.Mathlib.Nat.{le_refl}
use lib.Dec.{leb}
use lib.Count.{count_leading_zeros, count_trailing_zeros}
use borrow.Author.Tests.{le-leb}
use Rattle.stream.specs.Bits.{odd, bits_of}
use Rattle.layout.specs.declared.Window.{Window}
use Rattle.layout.specs.Windows.{digits, reuses, tight, digit_bits, reuse_bits, open_bits, xor_bits, window_after}
use Rattle.layout.proofs.Xors.{zeros_lt, reused, digits_fit}
use Rattle.encode.specs.declared.code.PointCode.{PointCode}
use Rattle.encode.specs.Codes.{xor_digits}
use Rattle.encode.specs.Parts.{Holds}

-- ---- control bits

pub none : bits_of 1 0 ≡ false ∷ []
unfolding bits_of odd
none = refl

ten : bits_of 2 0b10 ≡ true ∷ false ∷ []
unfolding bits_of odd
ten = refl

eleven : bits_of 2 0b11 ≡ true ∷ true ∷ []
unfolding bits_of odd
eleven = refl

-- ---- the words behind a time

module _ (time : List Bool) (x : ℕ) (w : Window) where
  pub reuse_words : (h d : List Bool) → h ≡ time ++ bits_of 2 0b10 → d ≡ digit_bits 6 w x → h ++ d ≡ time ++ reuse_bits 6 w x
  unfolding reuse_bits
  reuse_words h d e f = rw (e, f, ten, append_assoc)

  pub open_words : (a b h d : List Bool) (n : ℕ) → d ≡ digit_bits 6 w x → n ≡ digits 6 w → a ≡ time ++ bits_of 2 0b11 → b ≡ a ++ bits_of 6 w.lead
      → h ≡ b ++ bits_of 6 (n - 1) → h ++ d ≡ time ++ open_bits 6 w x
  unfolding open_bits
  open_words a b h d n f m e₁ e₂ e₃ = rw (e₃, e₂, e₁, f, m, eleven) (simp append_assoc)

  pub same_words : (h : List Bool) → h ≡ time ++ bits_of 1 0 → x ≡ 0 → h ++ [] ≡ time ++ xor_bits 6 w x
  unfolding xor_bits
  same_words h e z = rw (e, z, none) (append-nil _)

-- ---- a xor by its cases

pub record Xor (w v : Window) (x : ℕ) (bs : List Bool) : Type 0 where
  pub word : bs ≡ xor_bits 6 w x
  pub size : digits 6 v ≡ xor_digits 6 w x
  pub after : v ≡ window_after 6 w x

pub xor_none : (w : Window) (x : ℕ) → x ≡ 0 → (0 ≡ xor_digits 6 w x) × (w ≡ window_after 6 w x)
unfolding xor_digits window_after
xor_none w x e = rw e (refl, refl)

chosen : {A : Type 0} (b v : Bool) (x y : A) → b ≡ v → cond v x y ≡ cond b x y
chosen b v x y e = rw e

xor_some : (w v : Window) (x : ℕ) (b : Bool) (bs : List Bool) → 0 < x → reuses 6 w x ≡ b
    → bs ≡ cond b (reuse_bits 6 w x) (open_bits 6 (tight 6 x) x) → v ≡ cond b w (tight 6 x) → Xor w v x bs
unfolding xor_bits window_after xor_digits
xor_some w v zero b bs h e f g = absurd (omega arith)
xor_some w v (suc y) b bs h e f g =
    let a : v ≡ window_after 6 w (suc y) = g ∙ chosen _ _ _ _ e in
    record { word = f ∙ chosen _ _ _ _ e; size = ap (digits 6) a; after = a }

module _ (w : Window) (x : ℕ) (h : 0 < x) where
  -- a window that covers the xor
  pub xor_reused : reuses 6 w x ≡ true → Xor w w x (reuse_bits 6 w x)
  xor_reused f = xor_some _ _ x true _ h f refl refl

  -- one that does not: the tight one is opened
  pub xor_opened : reuses 6 w x ≡ false → Xor w (tight 6 x) x (open_bits 6 (tight 6 x) x)
  xor_opened f = xor_some _ _ x false _ h f refl refl

-- it covers the xor by the tight window's zeros
pub by_zeros : (w v : Window) (x : ℕ) → v ≡ tight 6 x → (leb w.lead v.lead && leb w.trail v.trail) ≡ reuses 6 w x
unfolding reuses tight
by_zeros w v x e = rw e

-- the tight window covers its xor
pub tight_reuses : (x : ℕ) → reuses 6 (tight 6 x) x ≡ true
unfolding reuses tight
tight_reuses x = rw (le-leb _ _ (le_refl (count_leading_zeros 64 x)), le-leb _ _ (le_refl (count_trailing_zeros 64 x)))

-- a window that covers a xor has a digit
pub covers_room : (w : Window) (x : ℕ) → 0 < x → x < 2 ^ 64 → reuses 6 w x ≡ true → w.lead + w.trail < 64
covers_room w x h b e = let r = reused 6 w x e in omega (arith, zeros_lt 64 x h b, r.0, r.1)

-- and holds all its digits
pub covers_digits : (w : Window) (x : ℕ) → x < 2 ^ 64 → reuses 6 w x ≡ true → x / 2 ^ w.trail < 2 ^ digits 6 w
covers_digits w x b e = digits_fit 6 w x b (reused 6 w x e).0

-- a code of one of the cases is a code of the xor
pub holds_xor : (time bs : List Bool) (w v : Window) (x : ℕ) (k : PointCode) → Holds k (time ++ bs) (digits 6 v) v → Xor w v x bs
    → Holds k (time ++ xor_bits 6 w x) (xor_digits 6 w x) (window_after 6 w x)
holds_xor time bs w v x k h e = record {
  head = h.head;
  digits = h.digits;
  size = h.size ∙ e.size;
  held = h.held ∙ ap (λ (l : List Bool). time ++ l) e.word;
  window = h.window ∙ e.after;
}
