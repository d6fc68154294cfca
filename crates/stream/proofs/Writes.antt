-- Laws of fields: what is taken out of a part of the bits, and what a write leaves.
use mathlib.Core.Path.{◌≡◌, refl, sym, ap, ◌∙◌}
use mathlib.Core.Bool.{Bool, false}
use mathlib.Core.List.{List, [], ◌∷◌, ◌++◌, append_assoc, append-nil}
use Prim.Native.Nat.{ℕ, zero, suc, ◌+◌, ◌-◌, ◌*◌, ◌≤◌, ◌<◌}
use native.Mathlib.Nat.{add-zero, add_assoc, le_refl}
use native.Mathlib.Omega.{arith}
use lib.ListN.{length, take, drop, replicate, length-append, length-replicate, length-drop}
use lib.Seq.{take_at, drop_at, take-take, take-append_seam, length-take-le, drop-append-add, drop-drop}
use Rattle.stream.specs.Bits.{edge, spare, field, laid, replaced}
use Rattle.stream.specs.Promises.{WritesLeave}

-- ---- fields

-- a field that lies in the first j bits is taken from them
pub field_take : (j p n : ℕ) (bs : List Bool) → p + n ≤ j → field (take j bs) p n ≡ field bs p n
unfolding field
field_take j zero n bs h = take-take n j bs (omega arith)
field_take zero (suc p) n bs h = absurd (omega arith)
field_take (suc j) (suc p) n [] h = refl
field_take (suc j) (suc p) n (b ∷ bs) h = field_take j p n bs (omega arith)

-- equal from e on: so are the fields there
field_drop : (e q m : ℕ) (bs cs : List Bool) → drop e bs ≡ drop e cs → e ≤ q → field bs q m ≡ field cs q m
unfolding field
field_drop e q m bs cs same h =
    let k : e + (q - e) ≡ q = omega arith in
    rw k at (rw (drop-drop (q - e) e bs, drop-drop (q - e) e cs) at (ap (λ (l : List Bool). take m (drop (q - e) l)) same))

-- ---- edges

pub edge_le : (q : ℕ) → q ≤ edge q
unfolding edge
edge_le q = omega arith

edge_mono : (q r : ℕ) → q ≤ r → edge q ≤ edge r
unfolding edge
edge_mono q r h = omega arith

edge_within : (q m : ℕ) → q ≤ 8 * m → edge q ≤ 8 * m
unfolding edge
edge_within q m h = omega arith

-- ---- a field laid over bits

-- what lies past a part that was laid over a list is the list's own
drop_past : (X bs : List Bool) (e e' : ℕ) → length X ≡ e → e ≤ e' → drop e' (X ++ drop e bs) ≡ drop e' bs
drop_past X bs e e' h l =
    let k : e' ≡ length X + (e' - e) = omega arith in
    let m : e + (e' - e) ≡ e' = omega arith in
    ap (λ (n : ℕ). drop n (X ++ drop e bs)) k
    ∙ drop-append-add X (drop e bs) (e' - e)
    ∙ drop-drop (e' - e) e bs
    ∙ ap (λ (n : ℕ). drop n bs) m

module _ (bs : List Bool) (p : ℕ) (h : p ≤ length bs) (f : List Bool) where
  length_head : length (take p bs ++ f) ≡ p + length f
  length_head = rw (length-append, length-take-le)

  take_laid : take (p + length f) (laid bs p f) ≡ take p bs ++ f
  unfolding laid
  take_laid = rw (← (append_assoc (take p bs) f)) (take_at (take p bs ++ f) _ (p + length f) length_head)

  drop_laid : (e : ℕ) → edge (p + length f) ≤ e → drop e (laid bs p f) ≡ drop e bs
  unfolding laid
  drop_laid e l =
      rw (← (append_assoc (take p bs) f), ← (append_assoc (take p bs ++ f)))
      (drop_past (take p bs ++ f ++ replicate (spare (p + length f)) false) bs (edge (p + length f)) e
      (simp (length-append, length-replicate, length-take-le) (omega (arith, edge_le (p + length f)))) l)

  rest_laid : field (laid bs p f) (p + length f) (spare (p + length f)) ≡ replicate (spare (p + length f)) false
  unfolding laid field
  rest_laid =
      rw (← (append_assoc (take p bs) f))
      (ap (take (spare (p + length f))) (drop_at (take p bs ++ f) _ (p + length f) length_head)
      ∙ take_at (replicate (spare (p + length f)) false) (drop (edge (p + length f)) bs) (spare (p + length f)) (length-replicate (spare (p + length f)) false))

-- one field after another is their concatenation
laid_over : (bs m : List Bool) (p : ℕ) (f g : List Bool) → take (p + length f) m ≡ take p bs ++ f
    → drop (edge (p + length f + length g)) m ≡ drop (edge (p + length f + length g)) bs
    → laid m (p + length f) g ≡ laid bs p (f ++ g)
unfolding laid
laid_over bs m p f g t d = rw (t, d, length-append f g, ← (add_assoc p), append_assoc (take p bs) f, append_assoc f g)

laid_append : (bs : List Bool) (p : ℕ) (f g : List Bool) → p ≤ length bs → laid (laid bs p f) (p + length f) g ≡ laid bs p (f ++ g)
laid_append bs p f g h =
    laid_over bs (laid bs p f) p f g (take_laid bs p h f) (drop_laid bs p h f _ (edge_mono (p + length f) _ (omega arith)))

-- ---- a write

module _ (bs : List Bool) (p : ℕ) where
  pub replaced_append : (f g : List Bool) → p ≤ length bs → replaced (replaced bs p f) (p + length f) g ≡ replaced bs p (f ++ g)
  unfolding replaced
  replaced_append [] g h = ap (λ (n : ℕ). replaced bs n g) (add-zero p)
  replaced_append (b ∷ f) [] h = ap (replaced bs p) (sym (append-nil (b ∷ f)))
  replaced_append (b ∷ f) (c ∷ g) h = laid_append bs p (b ∷ f) (c ∷ g) h

  -- the field that was put is there
  pub field_replaced : (f : List Bool) → p ≤ length bs → field (replaced bs p f) p (length f) ≡ f
  unfolding field replaced laid
  field_replaced [] h = refl
  field_replaced (b ∷ f) h =
      ap (take (suc (length f))) (drop_at (take p bs) _ p (length-take-le p bs h)) ∙ take-append_seam (b ∷ f) _

  take_replaced : (f : List Bool) → p ≤ length bs → take p (replaced bs p f) ≡ take p bs
  unfolding replaced laid
  take_replaced [] h = refl
  take_replaced (b ∷ f) h = take_at (take p bs) _ p (length-take-le p bs h)

  drop_replaced : (f : List Bool) → p ≤ length bs → drop (edge (p + length f)) (replaced bs p f) ≡ drop (edge (p + length f)) bs
  unfolding replaced
  drop_replaced [] h = refl
  drop_replaced (b ∷ f) h = drop_laid bs p h (b ∷ f) _ (le_refl _)

  rest_replaced : (f : List Bool) → p ≤ length bs → 0 < length f
      → field (replaced bs p f) (p + length f) (spare (p + length f)) ≡ replicate (spare (p + length f)) false
  unfolding replaced
  rest_replaced [] h some = absurd (omega arith)
  rest_replaced (b ∷ f) h some = rest_laid bs p h (b ∷ f)

  none_replaced : (f : List Bool) → length f ≡ 0 → replaced bs p f ≡ bs
  unfolding replaced
  none_replaced [] e = refl
  none_replaced (b ∷ f) e = absurd (omega arith)

  pub length_replaced : (m : ℕ) (f : List Bool) → length bs ≡ 8 * m → p + length f ≤ length bs → length (replaced bs p f) ≡ length bs
  unfolding replaced laid
  length_replaced m [] e h = refl
  length_replaced m (b ∷ f) e h =
      let k = edge_within (p + suc (length f)) m (omega arith) in
      let j = edge_le (p + suc (length f)) in
      simp (length-append, length-replicate, length-drop, length-take-le p bs (omega arith)) (omega arith)

pub writes_leave : WritesLeave
writes_leave bs p f h = record {
  back = field_replaced bs p f h;
  before = λ q m l. sym (field_take p q m (replaced bs p f) l) ∙ ap (λ (k : List Bool). field k q m) (take_replaced bs p f h) ∙ field_take p q m bs l;
  none = none_replaced bs p f;
  rest = rest_replaced bs p f h;
  after = λ q m l. field_drop (edge (p + length f)) q m _ _ (drop_replaced bs p f h) l;
  two = λ g. replaced_append bs p f g h;
  size = λ m e l. length_replaced bs p m f e l;
}
