-- What is promised of lists in one call.
use Rattle.std.specs.Prelude.{◌≡◌, Bool, List, [], ◌∷◌, ◌++◌, ℕ, zero, suc, ◌+◌, ◌≤◌, ◌<◌, min, length, take, drop, replicate}
use Rattle.stream.specs.Calls.{given, refused}
use Rattle.layout.specs.Writing.{Point, point_of}
use Rattle.layout.specs.Answers.{Answer, a_point, an_end, refusal}
use Rattle.encode.specs.States.{Enc}
use Rattle.encode.specs.Calls.{point_fault}
use Rattle.encode.specs.Lists.{pairs, Packing, packs_of}
use Rattle.decode.specs.States.{Dec}
use Rattle.decode.specs.Calls.{next_of, nexts_of}
use Rattle.series.specs.Sittings.{offers_of}
use Rattle.decode.specs.Lists.{Stop, full, said, Unpacking, Filling, unpacks_of, fills_of}

-- ---- answers and lists

-- the points among answers
unfoldable pub points_in : List Answer → List Point
points_in [] = []
points_in (a_point t v q ∷ more) = point_of t v ∷ points_in more
points_in (an_end q ∷ more) = points_in more
points_in (refusal r ∷ more) = points_in more

-- goes on where the lists are full
unfoldable pub on_full : {A : Type 0} → Stop → A → A → A
on_full full onward stop = onward
on_full (said a) onward stop = stop

-- with points given before
abbrev pub preceded : List Point → Unpacking → Unpacking
preceded ps u = (ps ++ u.0, u.1, u.2)

-- `rest_kept`: the first entries are the points, as many as the count says, and the entries past them stay
pub record RestKept (ts vs : List ℕ) (u : Unpacking) (f : Filling) : Type 0 where
  pub count : f.0 ≡ length u.0
  pub fits : (f.0 ≤ length ts) × (f.0 ≤ length vs)
  pub points : pairs (take f.0 f.3) (take f.0 f.4) ≡ u.0
  pub times : drop f.0 f.3 ≡ drop f.0 ts
  pub values : drop f.0 f.4 ≡ drop f.0 vs

module _ (c : ℕ) where
  -- the state after k steps
  unfoldable pub after_steps : ℕ → Dec → ℕ → List Bool → Dec
  after_steps zero d n bs = d
  after_steps (suc k) d n bs = after_steps k (next_of c d n bs).1 n bs

  -- ---- packing

  -- `packs_are_offers`: the first k points are offered one after the other and each is accepted; behind them there is none, or the one
  -- there is refused, which changes neither the state nor the bits
  pub record AreOffers (e : Enc) (n : ℕ) (bs : List Bool) (ps : List Point) (o : Packing) : Type 0 where
    pub count : o.0 ≤ length ps
    pub accepted : offers_of c e n bs (take o.0 ps) ≡ (replicate o.0 (given []), o.1.1, o.1.2)
    pub all : drop o.0 ps ≡ [] → o.1.0 ≡ given []
    pub stopped : (p : Point) (qs : List Point) → drop o.0 ps ≡ p ∷ qs
        → (0 < point_fault c o.1.1 n p) × (o.1.0 ≡ refused (point_fault c o.1.1 n p))

  abbrev pub PacksAreOffers : Type 0
  PacksAreOffers = (e : Enc) (n : ℕ) (bs : List Bool) (ps : List Point) → AreOffers e n bs ps (packs_of c e n bs ps)

  -- ---- unpacking

  -- `unpacks_are_answers`: the points given are the answers of that many steps; as many as were asked for, or the next answer is no point
  pub record AreAnswers (k : ℕ) (d : Dec) (n : ℕ) (bs : List Bool) (u : Unpacking) : Type 0 where
    pub points : points_in (nexts_of c (length u.0) d n bs) ≡ u.0
    pub filled : u.1 ≡ full → (length u.0 ≡ k) × (u.2 ≡ after_steps k d n bs)
    pub stopped : (a : Answer) → u.1 ≡ said a
        → (length u.0 < k) × (points_in (a ∷ []) ≡ []) × (u.2 ≡ after_steps (suc (length u.0)) d n bs)
        × (nexts_of c (suc (length u.0)) d n bs ≡ nexts_of c (length u.0) d n bs ++ (a ∷ []))

  abbrev pub UnpacksAreAnswers : Type 0
  UnpacksAreAnswers = (k : ℕ) (d : Dec) (n : ℕ) (bs : List Bool) → AreAnswers k d n bs (unpacks_of c k d n bs)

  -- `unpacks_go_on`: unpacking j + k points is unpacking j and, if those were all given, k more from there
  abbrev pub UnpacksGoOn : Type 0
  UnpacksGoOn = (j k : ℕ) (d : Dec) (n : ℕ) (bs : List Bool)
      → unpacks_of c (j + k) d n bs
      ≡ on_full (unpacks_of c j d n bs).1
      (preceded (unpacks_of c j d n bs).0 (unpacks_of c k (unpacks_of c j d n bs).2 n bs))
      (unpacks_of c j d n bs)

  abbrev pub RestsKept : Type 0
  RestsKept = (d : Dec) (n : ℕ) (bs : List Bool) (ts vs : List ℕ) → RestKept ts vs (unpacks_of c (min (length ts) (length vs)) d n bs) (fills_of c d n bs ts vs)
