-- Packing, an offer at a time.
use mathlib.Core.Path.{◌≡◌, refl, sym, ap, ◌∙◌}
use mathlib.Core.Bool.{Bool}
use mathlib.Core.List.{List, [], ◌∷◌}
use Prim.Native.Nat.{ℕ, zero, suc, ◌+◌, ◌≤◌, ◌<◌, min}
use native.Mathlib.Numerals.{add-one}
use native.Mathlib.Omega.{arith}
use lib.ListN.{length, drop, get_or}
use lib.Seq.{drop-cons, drop-nil}
use Rattle.std.specs.Prelude.{Ok, Err, ⊤}
use Rattle.std.specs.declared.result.Result.{Result}
use Rattle.stream.specs.declared.refusal.Refusal.{Refusal}
use Rattle.stream.specs.Calls.{given, refused}
use Rattle.layout.specs.Writing.{Point, point_of}
use Rattle.encode.specs.States.{Enc}
use Rattle.encode.specs.Calls.{Outcome, tell_encode, encode_of}
use Rattle.encode.specs.Lists.{pairs, Packing, on_told, packs_of}

-- ---- the points of two lists from an entry on

pub pairs_next : (ts vs : List ℕ) (i : ℕ) → i < min (length ts) (length vs)
    → pairs (drop i ts) (drop i vs) ≡ point_of (get_or ts i 0) (get_or vs i 0) ∷ pairs (drop (i + 1) ts) (drop (i + 1) vs)
unfolding pairs
pairs_next ts vs i h = rw (drop-cons ts i 0 (omega arith), drop-cons vs i 0 (omega arith), add-one i)

no_values : (ts : List ℕ) → pairs ts [] ≡ []
unfolding pairs
no_values [] = refl
no_values (t ∷ ts) = refl

pub pairs_out : (ts vs : List ℕ) (i : ℕ) → min (length ts) (length vs) ≤ i → pairs (drop i ts) (drop i vs) ≡ []
unfolding pairs
pairs_out [] vs i h = rw (drop-nil {A = ℕ} i)
pairs_out (t ∷ ts) [] i h = rw (drop-nil {A = ℕ} i) (no_values (drop i (t ∷ ts)))
pairs_out (t ∷ ts) (v ∷ vs) zero h = absurd (omega arith)
pairs_out (t ∷ ts) (v ∷ vs) (suc i) h = pairs_out ts vs i (omega arith)

-- ---- a turn

-- i more were accepted before
abbrev pub later : ℕ → Packing → Packing
later i o = (i + o.0, o.1)

-- a count by another sum
same_count : (a b : ℕ) (o : Outcome) → a ≡ b → ◌≡◌ {A = Packing} (a, o) (b, o)
same_count a b o e = ap (λ (k : ℕ). (k, o)) e

pub none_before : (o : Packing) → later 0 o ≡ o
none_before o = same_count _ _ _ (omega arith)

module _ (c i n : ℕ) (s s' : Enc) (bs bs' : List Bool) (p : Point) (ps : List Point) (x : Packing) where
  goes_on : (given [], s', bs') ≡ encode_of c s n bs p → later i (packs_of c s n bs (p ∷ ps)) ≡ x → later (i + 1) (packs_of c s' n bs' ps) ≡ x
  unfolding packs_of on_told
  goes_on e q = same_count _ _ _ (omega arith) ∙ (rw (← e) at q)

  stops : (r : ℕ) → (refused r, s', bs') ≡ encode_of c s n bs p → later i (packs_of c s n bs (p ∷ ps)) ≡ x → (i, (refused r, s', bs')) ≡ x
  unfolding packs_of on_told
  stops r e q = same_count _ _ _ (omega arith) ∙ (rw (← e) at q)

module _ (ts vs : List ℕ) (i n m : ℕ) (s s' : Enc) (bs bs' : List Bool) (a : Result ⊤ Refusal) (x : Packing)
    (e : (tell_encode a, s', bs') ≡ encode_of 6 s m bs (point_of (get_or ts i 0) (get_or vs i 0)))
    (q : later i (packs_of 6 s n bs (pairs (drop i ts) (drop i vs))) ≡ x) where
  -- the point offered is the next of the two lists
  here : i < min (length ts) (length vs)
      → later i (packs_of 6 s n bs (point_of (get_or ts i 0) (get_or vs i 0) ∷ pairs (drop (i + 1) ts) (drop (i + 1) vs))) ≡ x
  here h = ap (λ (ps : List Point). later i (packs_of 6 s n bs ps)) (sym (pairs_next ts vs i h)) ∙ q

  outcome : m ≡ n → (tell_encode a, s', bs') ≡ encode_of 6 s n bs (point_of (get_or ts i 0) (get_or vs i 0))
  outcome j = e ∙ ap (λ (k : ℕ). encode_of 6 s k bs (point_of (get_or ts i 0) (get_or vs i 0))) j

  pub accepted : a ≡ Ok tt → i < min (length ts) (length vs) → m ≡ n
      → later (i + 1) (packs_of 6 s' n bs' (pairs (drop (i + 1) ts) (drop (i + 1) vs))) ≡ x
  accepted d h j = goes_on 6 i n s s' bs bs' _ _ x (sym (ap (λ (b : Result ⊤ Refusal). (tell_encode b, s', bs')) d) ∙ outcome j) (here h)

  pub stopped : (r : Refusal) → a ≡ Err r → i < min (length ts) (length vs) → m ≡ n → (i, (tell_encode a, s', bs')) ≡ x
  stopped r d h j =
      ap (λ (b : Result ⊤ Refusal). (i, (tell_encode b, s', bs'))) d
      ∙ stops 6 i n s s' bs bs' _ _ x _ (sym (ap (λ (b : Result ⊤ Refusal). (tell_encode b, s', bs')) d) ∙ outcome j) (here h)

-- no point is left
pub all_taken_lem : (ps : List Point) (i n : ℕ) (s : Enc) (bs : List Bool) (x : Packing) → later i (packs_of 6 s n bs ps) ≡ x → ps ≡ []
    → (i, (given [], s, bs)) ≡ x
unfolding packs_of
all_taken_lem ps i n s bs x q z = same_count _ _ _ (omega arith) ∙ (rw z at q)
