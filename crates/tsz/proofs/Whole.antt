-- A series packed in one call and unpacked in another.
use mathlib.Core.Path.{◌≡◌, refl, sym, ap, ◌∙◌}
use mathlib.Core.Bool.{Bool}
use mathlib.Core.List.{List, [], ◌∷◌, map}
use Prim.Native.Nat.{ℕ, zero, suc, ◌+◌, ◌*◌, ◌^◌, ◌≤◌, ◌<◌, min}
use native.Mathlib.Omega.{arith}
use borrow.Author.Tests.{lt-ltb}
use lib.ListN.{length, take, drop, replicate, length-drop}
use lib.Seq.{take-take, length-take-le}
use Rattle.stream.specs.Bits.{bits, bytes_for}
use Rattle.stream.specs.Refusals.{when, by_fault}
use Rattle.stream.specs.Calls.{limit, given, refused}
use Rattle.stream.proofs.Bytes.{bits_inj, bits_take}
use Rattle.stream.proofs.Outcomes.{either}
use Rattle.layout.specs.Writing.{Point, Progress, going, point_bits, state_after, opened, Fitting}
use Rattle.layout.specs.Answers.{an_end}
use Rattle.layout.specs.Promises.{Every, back}
use Rattle.encode.specs.States.{Enc}
use Rattle.encode.specs.Calls as encoder
use Rattle.encode.specs.Lists.{pairs, Packing, on_told}
use Rattle.decode.specs.States.{Dec}
use Rattle.decode.specs.Calls as decoder
use Rattle.series.specs.Sittings.{Offers, ruling, rulings, accepts, sum_of, closed_of, taken_of}
use Rattle.series.specs.Promises.{Sitting, decodes}
use Rattle.series.specs.ListPromises.{AreOffers}
use Rattle.decode.specs.Lists.{Unpacking, on_point, starting_with, filling, unpacks_of, fills_of}
use Rattle.series.proofs.Sits.{opens}
use Rattle.series.proofs.Refused.{never_opened}
use Rattle.series.proofs.Sitting.{sitting}
use Rattle.series.proofs.Decodes.{points_come_back}
use Rattle.series.proofs.ListPromises.{packs_are_offers}
use Rattle.tsz.specs.Files.{saying, fault_in, used_in, PackLeaves, closing, packed_of, saying_at, answer_behind, telling, unpacked_of}
use Rattle.tsz.specs.Promises.{OneOutcome, offers_in, stream_in, AlwaysClosed, BuffersRefused, WholeFiles}

pub one_outcome : OneOutcome
one_outcome = record { pack = λ w x l m a b e. (ap (λ (o : PackLeaves). o.0) e, bits_inj l m a b (ap (λ (o : PackLeaves). o.1) e)) }

-- two lists that are equal begin alike and go on alike
heads : {A : Type 0} (x y : A) (xs ys : List A) → x ∷ xs ≡ y ∷ ys → x ≡ y
heads x y xs ys e = cc

tails : {A : Type 0} (x y : A) (xs ys : List A) → x ∷ xs ≡ y ∷ ys → xs ≡ ys
tails x y xs ys e = cc

-- ---- offers that are all accepted

module _ (c n q : ℕ) (g : Progress) (p : Point) (ps : List Point) where
  turn : (k : ℕ) → k ≡ ruling c n q g p
      → (rulings c n (q + length (point_bits c g p)) (going (state_after c g p)) ps ≡ replicate (length ps) (given []) → accepts c n (q + length (point_bits c g p)) (going (state_after c g p)) ps ≡ ps)
      → rulings c n q g (p ∷ ps) ≡ replicate (length (p ∷ ps)) (given []) → accepts c n q g (p ∷ ps) ≡ p ∷ ps
  unfolding rulings accepts by_fault
  turn zero z more e = rw (← z) (ap (λ (l : List Point). p ∷ l) (more (tails _ _ _ _ (rw (← z) at e))))
  turn (suc r) z more e =
      let f : refused (suc r) ≡ given [] = heads _ _ _ _ (rw (← z) at e) in
      let x : ◌≡◌ {A = ℕ} 0 1 = cc in
      absurd (omega (arith, x))

all_accepted : (c n q : ℕ) (g : Progress) (ps : List Point) → rulings c n q g ps ≡ replicate (length ps) (given []) → accepts c n q g ps ≡ ps
unfolding accepts
all_accepted c n q g [] e = refl
all_accepted c n q g (p ∷ ps) e = turn c n q g p ps _ refl (all_accepted c n (q + length (point_bits c g p)) (going (state_after c g p)) ps) e

-- ---- what steps give back

ends_at : (p q : ℕ) → p ≡ q → an_end p ≡ an_end q
ends_at p q e = ap an_end e

module _ (c n : ℕ) (bs : List Bool) where
  came_back : (ps : List Point) (j q : ℕ) (g : Progress) (d : Dec) → length ps ≤ j → decoder.nexts_of c (suc (length ps)) d n bs ≡ back c (suc (length ps)) q g ps
      → ((unpacks_of c j d n bs).0 ≡ ps) × (answer_behind c (unpacks_of c j d n bs).1 (unpacks_of c j d n bs).2 n bs ≡ an_end (q + sum_of c g ps + 36))
  unfolding unpacks_of answer_behind sum_of back decoder.nexts_of on_point
  came_back [] zero q g d h e = (refl, heads _ _ _ _ e ∙ ends_at _ _ (omega arith))
  came_back [] (suc j) q g d h e = rw (heads _ _ _ _ e) (refl, ends_at _ _ (omega arith))
  came_back (p ∷ ps) zero q g d h e = absurd (omega arith)
  came_back (p ∷ ps) (suc j) q g d h e =
      let more = came_back ps j (q + length (point_bits c g p)) (going (state_after c g p)) (decoder.next_of c d n bs).1 (omega arith) (tails _ _ _ _ e) in
      rw (heads _ _ _ _ e) (ap (λ (l : List Point). p ∷ l) more.0, more.1 ∙ ends_at _ _ (omega arith))

-- ---- lists

every_take : (P : Point → Type 0) (k : ℕ) (ps : List Point) → Every P ps → Every P (take k ps)
every_take P zero ps v = tt
every_take P (suc k) [] v = tt
every_take P (suc k) (p ∷ ps) v = (v.0, every_take P k ps v.1)

length_pairs : (ts vs : List ℕ) → length (pairs ts vs) ≡ min (length ts) (length vs)
unfolding pairs
length_pairs [] vs = omega arith
length_pairs (t ∷ ts) [] = omega arith
length_pairs (t ∷ ts) (v ∷ vs) = let e = length_pairs ts vs in omega (arith, e)

-- the first points' times and values are the first of the two lists
first_entries : (k : ℕ) (ts vs : List ℕ) → k ≤ min (length ts) (length vs)
    → (map (λ (p : Point). p.time) (take k (pairs ts vs)) ≡ take k ts) × (map (λ (p : Point). p.value) (take k (pairs ts vs)) ≡ take k vs)
unfolding pairs
first_entries zero ts vs h = (refl, refl)
first_entries (suc k) [] vs h = absurd (omega arith)
first_entries (suc k) (t ∷ ts) [] h = absurd (omega arith)
first_entries (suc k) (t ∷ ts) (v ∷ vs) h =
    let e = first_entries k ts vs (omega arith) in
    (ap (λ (l : List ℕ). t ∷ l) e.0, ap (λ (l : List ℕ). v ∷ l) e.1)

-- ---- packing

module _ (start n : ℕ) (bs : List Bool) (ps : List Point) (z : encoder.open_fault n ≡ 0) (v : Every (Fitting 6) ps) where
  offers : AreOffers 6 (encoder.open_of 6 start n bs).1 n (encoder.open_of 6 start n bs).2 ps (offers_in start n bs ps)
  offers = packs_are_offers 6 _ n _ ps

  sits : Sitting 6 start n bs (take (offers_in start n bs ps).0 ps)
  sits = sitting 6 start n bs _ z (every_take (Fitting 6) (offers_in start n bs ps).0 ps v)

  taken_all : taken_of 6 start n (take (offers_in start n bs ps).0 ps) ≡ take (offers_in start n bs ps).0 ps
  taken_all =
      all_accepted 6 n 64 (opened 6 start) (take (offers_in start n bs ps).0 ps)
      (sym sits.answers ∙ ap (λ (o : Offers). o.0) offers.accepted ∙ ap (λ (i : ℕ). replicate i (given [])) (sym (length-take-le (offers_in start n bs ps).0 ps offers.count)))

  -- closing there is closing a sitting
  closes_as : encoder.close_of 6 (offers_in start n bs ps).1.1 n (offers_in start n bs ps).1.2 ≡ closed_of 6 start n bs (take (offers_in start n bs ps).0 ps)
  closes_as = ap (λ (o : Offers). encoder.close_of 6 o.1 n o.2) (sym offers.accepted)

  stream_is : length (stream_in start n bs ps) ≡ 64 + sum_of 6 (opened 6 start) (take (offers_in start n bs ps).0 ps) + 36
  stream_is = rw taken_all at sits.closed_use

pub always_closed : AlwaysClosed
unfolding packed_of closing used_in on_told saying
always_closed start n bs ps z v =
    let w = closes_as start n bs ps z v ∙ (sits start n bs ps z v).closes in
    let x = rw (taken_all start n bs ps z v) at w in
    rw (ap (λ (o : encoder.Outcome). o.0) (opens 6 start n bs z), x)

-- ---- unpacking

-- what is said of points and the end behind them
told : (n : ℕ) (bs : List Bool) (us ws : List ℕ) (u : Unpacking) (ps : List Point) (q : ℕ) → u.0 ≡ ps → answer_behind 6 u.1 u.2 n bs ≡ an_end q
    → telling 6 n bs (filling us ws u) ≡ (saying 0 (length ps) q, starting_with (map (λ (p : Point). p.time) ps) us, starting_with (map (λ (p : Point). p.value) ps) ws)
unfolding telling filling saying_at
told n bs us ws u ps q e f = rw (e, f)

-- the bits of bytes that begin alike
begins_alike : (q : ℕ) (l m : List ℕ) → take (bytes_for q) m ≡ take (bytes_for q) l → take q (bits m) ≡ take q (bits l)
begins_alike q l m e =
    sym (take-take q (8 * bytes_for q) (bits m) (omega arith))
    ∙ ap (take q) (sym (bits_take (bytes_for q) m) ∙ ap bits e ∙ bits_take (bytes_for q) l)
    ∙ take-take q (8 * bytes_for q) (bits l) (omega arith)

module _ (start : ℕ) (ts vs l l' : List ℕ) (b : start < 2 ^ 64) (v : Every (Fitting 6) (pairs ts vs)) (z : encoder.open_fault (length l) ≡ 0) where
  -- how many were packed, and their stream
  abbrev count : ℕ
  count = (offers_in start (length l) (bits l) (pairs ts vs)).0

  abbrev stream : List Bool
  stream = stream_in start (length l) (bits l) (pairs ts vs)

  few : count ≤ min (length ts) (length vs)
  few = omega (arith, (offers start (length l) (bits l) (pairs ts vs) z v).count, length_pairs ts vs)

  decoded : (m : List ℕ) → bits l' ≡ (closed_of 6 start (length l) (bits l) (take count (pairs ts vs))).2 → take (bytes_for (length stream)) m ≡ take (bytes_for (length stream)) l' → length m ≤ limit
      → decodes 6 (suc (length (take count (pairs ts vs)))) m ≡ back 6 (suc (length (take count (pairs ts vs)))) 64 (opened 6 start) (take count (pairs ts vs))
  decoded m w e h =
      let t = taken_all start (length l) (bits l) (pairs ts vs) z v in
      let f : take (length stream) (bits m) ≡ take (length stream) (closed_of 6 start (length l) (bits l) (take count (pairs ts vs))).2 = begins_alike (length stream) l' m e ∙ ap (take (length stream)) w in
      rw t at (points_come_back 6 (suc (length (take count (pairs ts vs)))) start (take count (pairs ts vs)) l m z b (every_take (Fitting 6) count (pairs ts vs) v) h (rw t f))

  gives_back : (us ws m : List ℕ) → bits l' ≡ (closed_of 6 start (length l) (bits l) (take count (pairs ts vs))).2 → take (bytes_for (length stream)) m ≡ take (bytes_for (length stream)) l' → length m ≤ limit
      → count ≤ length us → count ≤ length ws
      → unpacked_of 6 (length m) (bits m) us ws ≡ (0 ∷ count ∷ length stream ∷ bytes_for (length stream) ∷ [], starting_with (take count ts) us, starting_with (take count vs) ws)
  unfolding unpacked_of fills_of saying
  gives_back us ws m w e h i j =
      let size : length (take count (pairs ts vs)) ≡ count = length-take-le count (pairs ts vs) (offers start (length l) (bits l) (pairs ts vs) z v).count in
      let g = came_back 6 (length m) (bits m) (take count (pairs ts vs)) (min (length us) (length ws)) 64 (opened 6 start) (decoder.open_of (length m)).1 (omega (arith, size)) (decoded m w e h) in
      let q : answer_behind 6 _ _ (length m) (bits m) ≡ an_end (length stream) = g.1 ∙ ends_at _ _ (sym (stream_is start (length l) (bits l) (pairs ts vs) z v)) in
      told (length m) (bits m) us ws _ (take count (pairs ts vs)) (length stream) g.0 q
      ∙ rw (size, (first_entries count ts vs few).0, (first_entries count ts vs few).1)

-- ---- both

-- four numbers by their places
four : (r k q b s j p c : ℕ) → r ∷ k ∷ q ∷ b ∷ [] ≡ s ∷ j ∷ p ∷ c ∷ [] → (r ≡ s) × (k ≡ j) × (q ≡ p) × (b ≡ c)
four r k q b s j p c e = (cc, cc, cc, cc)

-- where none was refused, none is left
none_refused : (e : Enc) (n : ℕ) (bs : List Bool) (ps : List Point) (o : Packing) (rest : List Point) → AreOffers 6 e n bs ps o → fault_in o.1.0 ≡ 0 → drop o.0 ps ≡ rest
    → o.0 ≡ length ps
unfolding fault_in
none_refused e n bs ps o [] a f h = let s : length (drop o.0 ps) ≡ 0 = ap length h in omega (arith, s, length-drop o.0 ps, a.count)
none_refused e n bs ps o (p ∷ rest) a f h =
    let s = a.stopped p rest h in
    let g = ap fault_in s.1 in
    absurd (omega (arith, f, g, s.0))

not_opened : (start n : ℕ) (bs : List Bool) (ps : List Point) → 0 < encoder.open_fault n → packed_of 6 start n bs ps ≡ (encoder.open_fault n ∷ 0 ∷ 0 ∷ 0 ∷ [], bs)
unfolding packed_of on_told fault_in saying
not_opened start n bs ps h = rw (never_opened 6 start n bs ps h).opening

-- one that ended with 5 before its first step
too_long : (n : ℕ) (bs : List Bool) (us ws : List ℕ) (j : ℕ) → telling 6 n bs (filling us ws (unpacks_of 6 j (decoder.shut 5) n bs)) ≡ (5 ∷ 0 ∷ 0 ∷ 0 ∷ [], us, ws)
unfolding telling filling unpacks_of on_point answer_behind saying_at saying starting_with decoder.shut decoder.next_of decoder.next_by
too_long n bs us ws zero = refl
too_long n bs us ws (suc j) = refl

pub buffers_refused : BuffersRefused
unfolding unpacked_of fills_of decoder.open_of by_fault when
buffers_refused start n bs = record {
  pack = λ ps h. not_opened start n bs ps h;
  unpack = λ us ws h. rw (lt-ltb limit n h) (too_long n bs us ws (min (length us) (length ws)));
}

module _ (start : ℕ) (ts vs l l' : List ℕ) (r k q b : ℕ) (s : start < 2 ^ 64) (v : Every (Fitting 6) (pairs ts vs))
    (e : packed_of 6 start (length l) (bits l) (pairs ts vs) ≡ (r ∷ k ∷ q ∷ b ∷ [], bits l')) where
  all_packed : r ≡ 0 → (encoder.open_fault (length l) ≡ 0) × (k ≡ min (length ts) (length vs))
  unfolding saying
  all_packed f =
      either (encoder.open_fault (length l))
      (λ none.
      let o = four _ _ _ _ _ _ _ _ (ap (λ (x : PackLeaves). x.0) (sym e ∙ always_closed start (length l) (bits l) (pairs ts vs) (sym none) v)) in
      let a = none_refused _ _ _ _ _ _ (offers start (length l) (bits l) (pairs ts vs) (sym none) v) (sym o.0 ∙ f) refl in
      (sym none, o.1 ∙ a ∙ length_pairs ts vs))
      (λ some.
      let o = four _ _ _ _ _ _ _ _ (ap (λ (x : PackLeaves). x.0) (sym e ∙ not_opened start (length l) (bits l) (pairs ts vs) some)) in
      absurd (omega (arith, f, some, o.0)))

  comes_back : encoder.open_fault (length l) ≡ 0 → (us ws m : List ℕ) → take b m ≡ take b l' → length m ≤ limit → k ≤ length us → k ≤ length ws
      → unpacked_of 6 (length m) (bits m) us ws ≡ (0 ∷ k ∷ q ∷ b ∷ [], starting_with (take k ts) us, starting_with (take k vs) ws)
  unfolding saying
  comes_back z us ws m f h i j =
      let a = sym e ∙ always_closed start (length l) (bits l) (pairs ts vs) z v in
      let o = four _ _ _ _ _ _ _ _ (ap (λ (x : PackLeaves). x.0) a) in
      let x = rw (taken_all start (length l) (bits l) (pairs ts vs) z v) at (sits start (length l) (bits l) (pairs ts vs) z v).closes in
      rw (o.1, o.2, o.3)
      (gives_back start ts vs l l' s v z us ws m (ap (λ (x : PackLeaves). x.1) a ∙ sym (ap (λ (x : encoder.Outcome). x.2) x)) (rw o.3 at f) h (rw o.1 at i) (rw o.1 at j))

pub whole_file : WholeFiles
whole_file start ts vs l l' r k q b s v e = record {
  all = all_packed start ts vs l l' r k q b s v e;
  back = comes_back start ts vs l l' r k q b s v e;
}
