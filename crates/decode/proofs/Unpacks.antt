-- Unpacking, a step at a time.
use Rattle.std.proofs.Common.{◌≡◌, length-take-le, ℕ, suc, ◌+◌, ◌-◌, ◌<◌, ◌≤◌, min, Bool, List, [], ◌∷◌, ◌++◌, map, length, take, drop, set, replicate, zero, sym, refl, ap, ◌∙◌, add-one, arith, take-append-drop, drop-cons, take-suc-set, drop-set-lt}
use Rattle.std.proofs.lemmas.List.{length-replicate}
use lib.Seq.{append_snoc}
use Rattle.stream.specs.declared.position.BitPos.{BitPos}
use Rattle.stream.specs.declared.refusal.Refusal.{Refusal}
use Rattle.point.specs.declared.Stored.{Stored}
use Rattle.layout.specs.Writing.{Point, point_of}
use Rattle.layout.specs.Answers.{Answer, a_point, an_end, refusal}
use Rattle.decode.specs.declared.std_decoder.Step.{Step}
use Rattle.decode.specs.declared.std_decoder.Step.TheVariants as step
use Rattle.decode.specs.States.{tell, Dec}
use Rattle.decode.specs.Calls.{next_of}
use Rattle.decode.specs.Filling.{over_from, filling_from}
use Rattle.decode.specs.Lists.{Stop, full, said, Unpacking, behind, on_point, starting_with, Filling, filling, unpacks_of, fills_of}

-- ---- entries from i on

over_next : (i x : ℕ) (xs ts : List ℕ) → i < length ts → over_from (i + 1) xs (set ts i x) ≡ over_from i (x ∷ xs) ts
unfolding over_from starting_with
over_next i x xs ts h = rw (add-one i, take-suc-set ts i x h, drop-set-lt (suc i) ts i x (omega arith), drop-cons ts i 0 h) (append_snoc (take i ts) x (xs ++ drop (length xs) (drop (suc i) ts)))

over_none : (i : ℕ) (ts : List ℕ) → over_from i [] ts ≡ ts
unfolding over_from starting_with
over_none i ts = take-append-drop i ts

alike : (a b : ℕ) (s : Stop) (d : Dec) (ts us vs ws : List ℕ) → a ≡ b → ts ≡ us → vs ≡ ws → ◌≡◌ {A = Filling} (a, s, d, ts, vs) (b, s, d, us, ws)
alike a b s d ts us vs ws e f g = λ i. (e i, s, d, f i, g i)

pub none_before : (ts vs : List ℕ) (u : Unpacking) → filling_from 0 ts vs u ≡ filling ts vs u
unfolding filling_from filling over_from
none_before ts vs u = alike _ _ _ _ _ _ _ _ (omega arith) refl refl

one_more : (i : ℕ) (ts vs : List ℕ) (p : Point) (u : Unpacking) → i < length ts → i < length vs
    → filling_from (i + 1) (set ts i p.time) (set vs i p.value) u ≡ filling_from i ts vs (behind p u)
unfolding filling_from
one_more i ts vs p u h k =
    alike _ _ _ _ _ _ _ _ (omega arith) (over_next i p.time (map (λ (p : Point). p.time) u.0) ts h) (over_next i p.value (map (λ (p : Point). p.value) u.0) vs k)

no_more : (i : ℕ) (ts vs : List ℕ) (s : Stop) (d : Dec) → (i, s, d, ts, vs) ≡ filling_from i ts vs ([], s, d)
unfolding filling_from
no_more i ts vs s d = alike _ _ _ _ _ _ _ _ (omega arith) (sym (over_none i ts)) (sym (over_none i vs))

-- ---- before the first, and after the last

-- none was given before
pub from_first : (n m : ℕ) (d : Dec) (bs : List Bool) (ts vs : List ℕ)
    → filling_from 0 ts vs (unpacks_of 6 (n - 0) d m bs) ≡ filling_from 0 ts vs (unpacks_of 6 n d m bs)
from_first n m d bs ts vs = let z : n - 0 ≡ n = omega arith in rw z

pub at_start : (n m : ℕ) (d : Dec) (bs : List Bool) (ts vs : List ℕ) → filling_from 0 ts vs (unpacks_of 6 (n - 0) d m bs) ≡ filling ts vs (unpacks_of 6 n d m bs)
at_start n m d bs ts vs = from_first n m d bs ts vs ∙ none_before ts vs _

pub filled : (n m : ℕ) (d : Dec) (bs : List Bool) (ts vs : List ℕ) (x : Filling) → x ≡ filling ts vs (unpacks_of 6 n d m bs)
    → n ≡ min (length ts) (length vs) → x ≡ fills_of 6 d m bs ts vs
unfolding fills_of
filled n m d bs ts vs x e h = rw h at e

-- one of those left is given
pub one_left : (i n m : ℕ) (d : Dec) (bs : List Bool) (ts vs : List ℕ) (x : Filling) → filling_from i ts vs (unpacks_of 6 (n - i) d m bs) ≡ x
    → i < n → filling_from i ts vs (unpacks_of 6 (suc (n - (i + 1))) d m bs) ≡ x
one_left i n m d bs ts vs x q h = let j : suc (n - (i + 1)) ≡ n - i = omega arith in rw j q

-- an answer that is known
pub told_as : (a b : Step) (d : Dec) (y : Answer × Dec) → (tell a, d) ≡ y → a ≡ b → (tell b, d) ≡ y
told_as a b d y e z = sym (ap (λ (x : Step). (tell x, d)) z) ∙ e

-- ---- a turn; k more are left to give

module _ (c i k m : ℕ) (d d' : Dec) (bs : List Bool) (ts vs : List ℕ) (x : Filling) (q : filling_from i ts vs (unpacks_of c (suc k) d m bs) ≡ x) where
  pub goes_on : (t v b : ℕ) → (a_point t v b, d') ≡ next_of c d m bs → i < length ts → i < length vs
      → filling_from (i + 1) (set ts i t) (set vs i v) (unpacks_of c k d' m bs) ≡ x
  unfolding unpacks_of on_point
  goes_on t v b e h j = one_more i ts vs (point_of t v) _ h j ∙ (rw (← e) at q)

  pub ends_here : (b : ℕ) → (an_end b, d') ≡ next_of c d m bs → (i, said (an_end b), d', ts, vs) ≡ x
  unfolding unpacks_of on_point
  ends_here b e = no_more i ts vs _ _ ∙ (rw (← e) at q)

  pub refuses_here : (r : ℕ) → (refusal r, d') ≡ next_of c d m bs → (i, said (refusal r), d', ts, vs) ≡ x
  unfolding unpacks_of on_point
  refuses_here r e = no_more i ts vs _ _ ∙ (rw (← e) at q)

module _ (i n m : ℕ) (d d' : Dec) (bs : List Bool) (ts vs : List ℕ) (a : Step) (x : Filling)
    (e : (tell a, d') ≡ next_of 6 d m bs) (q : filling_from i ts vs (unpacks_of 6 (n - i) d m bs) ≡ x) where
  pub put_in : (p : Stored) (b : BitPos) → a ≡ step.Point p b → i < n → i < length ts → i < length vs
      → filling_from (i + 1) (set ts i p.time) (set vs i p.bits) (unpacks_of 6 (n - (i + 1)) d' m bs) ≡ x
  put_in p b z h j k = goes_on 6 i _ m d d' bs ts vs x (one_left i n m d bs ts vs x q h) _ _ _ (told_as a _ d' _ e z) j k

  pub at_end : (b : BitPos) → a ≡ step.End b → i < n → (i, said (tell a), d', ts, vs) ≡ x
  at_end b z h = ap (λ (y : Step). (i, said (tell y), d', ts, vs)) z ∙ ends_here 6 i _ m d d' bs ts vs x (one_left i n m d bs ts vs x q h) _ (told_as a _ d' _ e z)

  pub at_refusal : (r : Refusal) → a ≡ step.Refused r → i < n → (i, said (tell a), d', ts, vs) ≡ x
  at_refusal r z h = ap (λ (y : Step). (i, said (tell y), d', ts, vs)) z ∙ refuses_here 6 i _ m d d' bs ts vs x (one_left i n m d bs ts vs x q h) _ (told_as a _ d' _ e z)

-- the lists are full
pub all_full : (i n m : ℕ) (d : Dec) (bs : List Bool) (ts vs : List ℕ) (x : Filling) → filling_from i ts vs (unpacks_of 6 (n - i) d m bs) ≡ x
    → n ≤ i → (i, full, d, ts, vs) ≡ x
unfolding unpacks_of
all_full i n m d bs ts vs x q h = let z : n - i ≡ 0 = omega arith in no_more i ts vs _ _ ∙ (rw z at q)

-- ---- a decoder that ended with a point, which it gives again and again

map_replicate : {A : Type 0} (f : A → ℕ) (n : ℕ) (x : A) → map f (replicate n x) ≡ replicate n (f x)
map_replicate f zero x = refl
map_replicate f (suc n) x = ap (λ (l : List ℕ). f x ∷ l) (map_replicate f n x)

again : (c n m : ℕ) (d : Dec) (bs : List Bool) (t v b : ℕ) → (a_point t v b, d) ≡ next_of c d m bs
    → unpacks_of c n d m bs ≡ (replicate n (point_of t v), full, d)
unfolding unpacks_of on_point
again c zero m d bs t v b e = refl
again c (suc n) m d bs t v b e = rw (← e) (ap (behind (point_of t v)) (again c n m d bs t v b e))

pub repeated : (n m : ℕ) (d : Dec) (bs : List Bool) (a : Step) (ts vs xs ys : List ℕ) → (tell a, d) ≡ next_of 6 d m bs
    → (p : Stored) (b : BitPos) → a ≡ step.Point p b → n ≤ length ts → n ≤ length vs
    → xs ≡ replicate (length (take n ts)) p.time → ys ≡ replicate (length (take n vs)) p.bits
    → (n, full, d, xs ++ drop n ts, ys ++ drop n vs) ≡ filling_from 0 ts vs (unpacks_of 6 n d m bs)
unfolding filling starting_with
repeated n m d bs a ts vs xs ys e p b z h k f g =
    let q = point_of p.time p.bits in
    let times : map (λ (p : Point). p.time) (replicate n q) ≡ replicate n p.time = map_replicate (λ (p : Point). p.time) n q in
    let values : map (λ (p : Point). p.value) (replicate n q) ≡ replicate n p.bits = map_replicate (λ (p : Point). p.value) n q in
    rw (none_before ts vs (unpacks_of 6 n d m bs), again 6 n m d bs _ _ _ (told_as a _ d _ e z), times, values, length-replicate n q, length-replicate n p.time, length-replicate n p.bits, f, g, length-take-le n ts h, length-take-le n vs k) refl
