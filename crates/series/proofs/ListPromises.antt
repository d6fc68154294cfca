-- Packing is offers, unpacking is steps.
use mathlib.Core.Path.{◌≡◌, refl, sym, ap, subst, ◌∙◌}
use mathlib.Core.Bool.{Bool}
use mathlib.Core.List.{List, [], ◌∷◌, map}
use Prim.Native.Nat.{ℕ, zero, suc, ◌≤◌, ◌<◌, min}
use native.Mathlib.Nat.{suc-add, zero-add}
use native.Mathlib.Omega.{arith}
use lib.ListN.{length, take, drop, length-map}
use lib.Seq.{take_at, drop_at}
use Rattle.stream.specs.Calls.{given, refused}
use Rattle.stream.proofs.Outcomes.{either, by_none, by_some}
use Rattle.layout.specs.Writing.{Point, point_of}
use Rattle.layout.specs.Answers.{Answer, a_point, an_end, refusal}
use Rattle.encode.specs.States.{Enc}
use Rattle.encode.specs.Calls.{Outcome, refusing, point_fault, encode_of}
use Rattle.encode.specs.Lists.{pairs, Packing, one_more, on_told, packs_of}
use Rattle.decode.specs.States.{Dec}
use Rattle.decode.specs.Calls.{next_of, nexts_of}
use Rattle.series.specs.Sittings.{offers_of}
use Rattle.decode.specs.Lists.{Stop, full, said, Unpacking, behind, on_point, starting_with, filling, unpacks_of, fills_of}
use Rattle.series.specs.ListPromises.{points_in, on_full, preceded, RestKept, RestsKept, after_steps, AreOffers, PacksAreOffers, AreAnswers, UnpacksAreAnswers, UnpacksGoOn}

-- ---- packing

module _ (c : ℕ) (e : Enc) (n : ℕ) (bs : List Bool) where
  none_left : AreOffers c e n bs [] (0, (given [], e, bs))
  unfolding offers_of
  none_left = record {
    count = omega arith;
    accepted = refl;
    all = λ z. refl;
    stopped = λ p qs z. let zero_one : ◌≡◌ {A = ℕ} 0 1 = cc in absurd (omega (arith, zero_one));
  }

  first_refused : (p : Point) (ps : List Point) → 0 < point_fault c e n p → AreOffers c e n bs (p ∷ ps) (0, refusing e bs (point_fault c e n p))
  unfolding offers_of
  first_refused p ps h = record {
    count = omega arith;
    accepted = refl;
    all = λ z. cc;
    stopped = λ q qs z. let same : p ≡ q = cc in subst (λ (r : Point). (0 < point_fault c e n r) × (refused (point_fault c e n p) ≡ refused (point_fault c e n r))) same (h, refl);
  }

  one_taken : (p : Point) (ps : List Point) (o : Outcome) (k : Packing) → o ≡ encode_of c e n bs p → o.0 ≡ given [] → AreOffers c o.1 n o.2 ps k
      → AreOffers c e n bs (p ∷ ps) (one_more k)
  unfolding offers_of
  one_taken p ps o k z g a = record {
    count = omega (arith, a.count);
    accepted = rw (← z, g, a.accepted);
    all = λ w. a.all w;
    stopped = λ q qs w. a.stopped q qs w;
  }

  -- by what the first offer is answered
  taken_first : (p : Point) (ps : List Point) → (encode_of c e n bs p).0 ≡ given []
      → packs_of c e n bs (p ∷ ps) ≡ one_more (packs_of c (encode_of c e n bs p).1 n (encode_of c e n bs p).2 ps)
  unfolding packs_of on_told
  taken_first p ps g = rw g

  refused_first : (p : Point) (ps : List Point) (r : ℕ) → encode_of c e n bs p ≡ refusing e bs r → packs_of c e n bs (p ∷ ps) ≡ (0, refusing e bs r)
  unfolding packs_of on_told
  refused_first p ps r z = rw z

  turn : (p : Point) (ps : List Point) → ((e' : Enc) (bs' : List Bool) → AreOffers c e' n bs' ps (packs_of c e' n bs' ps))
      → AreOffers c e n bs (p ∷ ps) (packs_of c e n bs (p ∷ ps))
  unfolding encode_of
  turn p ps more =
      either (point_fault c e n p)
      (λ none.
      let g : (encode_of c e n bs p).0 ≡ given [] = ap (λ (o : Outcome). o.0) (by_none (point_fault c e n p) _ (refusing e bs) none) in
      subst (AreOffers c e n bs (p ∷ ps)) (sym (taken_first p ps g)) (one_taken p ps (encode_of c e n bs p) _ refl g (more _ _)))
      (λ some. subst (AreOffers c e n bs (p ∷ ps)) (sym (refused_first p ps _ (by_some (point_fault c e n p) _ (refusing e bs) some))) (first_refused p ps some))

pub packs_are_offers : (c : ℕ) → PacksAreOffers c
unfolding packs_of
packs_are_offers c e n bs [] = none_left c e n bs
packs_are_offers c e n bs (p ∷ ps) = turn c e n bs p ps (λ e' bs'. packs_are_offers c e' n bs' ps)

-- ---- unpacking

-- a point before both
go_on : (a : Answer) (d : Dec) (x u : Unpacking) (from : Dec → Unpacking) → x ≡ on_full u.1 (preceded u.0 (from u.2)) u
    → on_point a (λ p. behind p x) ([], said a, d)
    ≡ on_full (on_point a (λ p. behind p u) ([], said a, d)).1 (preceded (on_point a (λ p. behind p u) ([], said a, d)).0 (from (on_point a (λ p. behind p u) ([], said a, d)).2)) (on_point a (λ p. behind p u) ([], said a, d))
unfolding on_point on_full
go_on (a_point t v q) d x u from e = on_stop u.1 refl
  where
    on_stop : (s : Stop) → s ≡ u.1 → behind (point_of t v) x ≡ on_full u.1 (preceded (point_of t v ∷ u.0) (from u.2)) (behind (point_of t v) u)
    on_stop full z = rw (← z) (ap (behind (point_of t v)) (rw (← z) at e))
    on_stop (said a) z = rw (← z) (ap (behind (point_of t v)) (rw (← z) at e))
go_on (an_end q) d x u from e = refl
go_on (refusal r) d x u from e = refl

pub unpacks_go_on : (c : ℕ) → UnpacksGoOn c
unfolding unpacks_of on_full
unpacks_go_on c zero k d n bs = rw (zero-add k)
unpacks_go_on c (suc j) k d n bs =
    rw (suc-add j k) (go_on (next_of c d n bs).0 (next_of c d n bs).1 _ _ (λ d'. unpacks_of c k d' n bs) (unpacks_go_on c j k (next_of c d n bs).1 n bs))

-- answers of steps, the first of them known
module _ (c k : ℕ) (d d' : Dec) (n : ℕ) (bs : List Bool) where
  first_point : (t v q : ℕ) (u : Unpacking) → (a_point t v q, d') ≡ next_of c d n bs → AreAnswers c k d' n bs u
      → AreAnswers c (suc k) d n bs (behind (point_of t v) u)
  unfolding nexts_of points_in after_steps
  first_point t v q u e a = record {
    points = rw (← e, a.points);
    filled = λ f. let b = a.filled f in (omega (arith, b.0), rw (← e) b.1);
    stopped = λ w f. let b = a.stopped w f in (omega (arith, b.0), b.1, b.2 ∙ ap (λ (o : Answer × Dec). after_steps c (suc (length u.0)) o.1 n bs) e, rw (← e) (ap (λ (l : List Answer). a_point t v q ∷ l) b.3));
  }

  first_stops : (a : Answer) → (a, d') ≡ next_of c d n bs → points_in (a ∷ []) ≡ [] → AreAnswers c (suc k) d n bs ([], said a, d')
  unfolding nexts_of points_in after_steps
  first_stops a e h = record {
    points = refl;
    filled = λ f. let zero_one : ◌≡◌ {A = ℕ} 0 1 = cc in absurd (omega (arith, zero_one));
    stopped = λ b f. let same : a ≡ b = cc in (omega arith, rw (← same) h, ap (λ (o : Answer × Dec). o.1) e, rw (← e) (ap (λ (y : Answer). y ∷ []) same));
  }

  answered : (a : Answer) → (a, d') ≡ next_of c d n bs → AreAnswers c k d' n bs (unpacks_of c k d' n bs)
      → AreAnswers c (suc k) d n bs (on_point a (λ p. behind p (unpacks_of c k d' n bs)) ([], said a, d'))
  unfolding on_point points_in
  answered (a_point t v q) e more = first_point t v q _ e more
  answered (an_end q) e more = first_stops (an_end q) e refl
  answered (refusal r) e more = first_stops (refusal r) e refl

pub unpacks_are_answers : (c : ℕ) → UnpacksAreAnswers c
unfolding unpacks_of points_in nexts_of after_steps
unpacks_are_answers c zero d n bs = record {
  points = refl;
  filled = λ f. (refl, refl);
  stopped = λ a f. let zero_one : ◌≡◌ {A = ℕ} 0 1 = cc in absurd (omega (arith, zero_one));
}
unpacks_are_answers c (suc k) d n bs = answered c k d (next_of c d n bs).1 n bs (next_of c d n bs).0 refl (unpacks_are_answers c k (next_of c d n bs).1 n bs)

-- ---- entries

-- no more points than were asked for
few : (c k : ℕ) (d : Dec) (n : ℕ) (bs : List Bool) (u : Unpacking) (s : Stop) → AreAnswers c k d n bs u → s ≡ u.1 → length u.0 ≤ k
few c k d n bs u full a e = omega (arith, (a.filled (sym e)).0)
few c k d n bs u (said w) a e = omega (arith, (a.stopped w (sym e)).0)

pairs_apart : (ps : List Point) → pairs (map (λ (p : Point). p.time) ps) (map (λ (p : Point). p.value) ps) ≡ ps
unfolding pairs
pairs_apart [] = refl
pairs_apart (p ∷ ps) = ap (λ (qs : List Point). p ∷ qs) (pairs_apart ps)

first_over : (k : ℕ) (xs ts : List ℕ) → length xs ≡ k → take k (starting_with xs ts) ≡ xs
unfolding starting_with
first_over k xs ts h = take_at xs _ k h

rest_over : (k : ℕ) (xs ts : List ℕ) → length xs ≡ k → drop k (starting_with xs ts) ≡ drop k ts
unfolding starting_with
rest_over k xs ts h = drop_at xs _ k h ∙ ap (λ (j : ℕ). drop j ts) h

kept : (ts vs : List ℕ) (u : Unpacking) → length u.0 ≤ min (length ts) (length vs) → RestKept ts vs u (filling ts vs u)
unfolding filling
kept ts vs u h =
    let t = length-map u.0 (λ (p : Point). p.time) in
    let v = length-map u.0 (λ (p : Point). p.value) in
    record {
      count = refl;
      fits = (omega arith, omega arith);
      points = rw (first_over _ _ ts t, first_over _ _ vs v) (pairs_apart u.0);
      times = rest_over _ _ ts t;
      values = rest_over _ _ vs v;
    }

pub rest_kept : (c : ℕ) → RestsKept c
unfolding fills_of
rest_kept c d n bs ts vs =
    let u = unpacks_of c (min (length ts) (length vs)) d n bs in
    kept ts vs u (few c _ d n bs u u.1 (unpacks_are_answers c _ d n bs) refl)
