-- The two calls, put together from what their parts state.
use mathlib.Core.Path.{◌≡◌, refl, sym, ap, ap₂, ◌∙◌}
use mathlib.Core.Bool.{Bool}
use mathlib.Core.List.{List, [], ◌∷◌}
use Prim.Native.Nat.{ℕ}
use native.Mathlib.Omega.{arith}
use lib.ListN.{length}
use Rattle.stream.specs.Bits.{bytes_for}
use Rattle.std.specs.Prelude.{Ok, Err, Some, None, ⊤}
use Rattle.std.specs.declared.option.Option.{Option}
use Rattle.std.specs.declared.result.Result.{Result}
use Rattle.std.specs.Result.{result_unwrap_or}
use Rattle.stream.specs.Refusals.{number_of}
use Rattle.stream.specs.Fits.{fault_of}
use Rattle.stream.specs.Calls.{Told}
use Rattle.stream.specs.declared.refusal.Refusal.{Refusal}
use Rattle.stream.specs.declared.position.BitPos.{BitPos}
use Rattle.stream.specs.declared.position.ByteCount.{ByteCount}
use Rattle.layout.specs.Writing.{Point}
use Rattle.layout.specs.Answers.{Answer, a_point, an_end, refusal}
use Rattle.encode.specs.States.{Enc}
use Rattle.encode.specs.Calls as encoder
use Rattle.encode.specs.Lists.{Packing, on_told, packs_of}
use Rattle.decode.specs.declared.std_decoder.Step.{Step}
use Rattle.decode.specs.States.{tell, Dec}
use Rattle.decode.specs.Calls as decoder
use Rattle.decode.specs.Lists.{Stop, full, said, tell_stop, Unpacking, behind, on_point, Filling, filling, unpacks_of, fills_of}
use Rattle.tsz.specs.Files.{saying, fault_in, used_in, PackLeaves, closing, packed_of, saying_at, answer_behind, telling, unpacked_of}

-- ---- what is said

pub said_is : (r k q n : ℕ) → n ≡ bytes_for q → (r ∷ k ∷ q ∷ n ∷ []) ≡ saying r k q
unfolding saying
said_is r k q n e = rw e

-- the refusal in an answer is that of the result
pub fault_is : (a : Result ⊤ Refusal) → fault_of a ≡ fault_in (encoder.tell_encode a)
unfolding fault_in
fault_is (Ok done) = refl
fault_is (Err r) = refl

-- what a close tells to be in use; zeros where it was refused
pub used_said : (f k : ℕ) (a : Result (BitPos × ByteCount) Refusal) (z : BitPos × ByteCount) (b : BitPos) (n : ByteCount) → z ≡ result_unwrap_or a (b, n)
    → b.0 ≡ 0 → n.0 ≡ 0 → (f ∷ k ∷ z.0.0 ∷ z.1.0 ∷ []) ≡ f ∷ k ∷ used_in (encoder.tell_close a)
unfolding used_in
used_said f k (Ok u) z b n e h j = λ i. f ∷ k ∷ (e i).0.0 ∷ (e i).1.0 ∷ []
used_said f k (Err w) z b n e h j = rw (e, h, j)

-- ---- packing

pub closes : (s : List ℕ) (f k n m : ℕ) (a u : Told) (e e' : Enc) (bs bs' : List Bool) (o : Packing) → (k, (a, e, bs)) ≡ o
    → (u, e', bs') ≡ encoder.close_of 6 e m bs → f ≡ fault_in a → s ≡ f ∷ k ∷ used_in u → m ≡ n → (s, bs') ≡ closing 6 n o
unfolding closing
closes s f k n m a u e e' bs bs' o q c d h j =
    let c' : (u, e', bs') ≡ encoder.close_of 6 e n bs = c ∙ ap (λ (i : ℕ). encoder.close_of 6 e i bs) j in
    let x : ◌≡◌ {A = PackLeaves} (s, bs') (closing 6 n (k, (a, e, bs))) =
    ap₂ (λ (y : List ℕ) (z : List Bool). (y, z))
    (h ∙ ap (λ (i : ℕ). i ∷ k ∷ used_in u) d ∙ ap (λ (z : encoder.Outcome). fault_in a ∷ k ∷ used_in z.0) c')
    (ap (λ (z : encoder.Outcome). z.2) c')
    in x ∙ ap (closing 6 n) q

module _ (s : List ℕ) (start n : ℕ) (e : Enc) (bs bs' : List Bool) (ps : List Point) where
  pub not_opened : (w : Refusal) (q : ℕ) → (encoder.tell_encode (Err w), e, bs') ≡ encoder.open_of 6 start n bs → s ≡ saying (number_of w) 0 q → q ≡ 0
      → (s, bs') ≡ packed_of 6 start n bs ps
  unfolding packed_of on_told fault_in
  not_opened w q o h j = rw (← o, h, j)

  pub opened : (m : ℕ) (bs'' : List Bool) (u : ⊤) → (encoder.tell_encode (Ok u), e, bs') ≡ encoder.open_of 6 start n bs
      → (s, bs'') ≡ closing 6 m (packs_of 6 e m bs' ps) → m ≡ n → (s, bs'') ≡ packed_of 6 start n bs ps
  unfolding packed_of on_told
  opened m bs'' u o h j = rw (← o) (rw j at h)

pub passed_on : (w s : List ℕ) (bs : List Bool) (x : PackLeaves) → w ≡ s → ◌≡◌ {A = PackLeaves} (s, bs) x → ◌≡◌ {A = PackLeaves} (w, bs) x
passed_on w s bs x e h = ap (λ (y : List ℕ). (y, bs)) e ∙ h

-- ---- unpacking

-- why a list of one entry has no more points, by the next answer x
unfoldable stop_of : Answer → Dec → Stop
stop_of x d = (on_point {A = Unpacking} x (λ p. behind p ([], full, d)) ([], said x, d)).1

module _ (k q : ℕ) (d : Dec) where
  by_stop : (x : Answer) (b : Step) → said (tell b) ≡ stop_of x d → saying_at k q (tell b) ≡ saying_at k q x
  unfolding stop_of on_point
  by_stop (a_point t v p) b e = let z : ◌≡◌ {A = ℕ} 0 1 = cc in absurd (omega arith)
  by_stop (an_end p) b e = let z : tell b ≡ an_end p = cc in ap (saying_at k q) z
  by_stop (refusal r) b e = let z : tell b ≡ refusal r = cc in ap (saying_at k q) z

  by_full : (x : Answer) (t v p : ℕ) → full ≡ stop_of x d → saying_at k q (a_point t v p) ≡ saying_at k q x
  unfolding stop_of on_point saying_at
  by_full (a_point t' v' p') t v p e = refl
  by_full (an_end p') t v p e = let z : ◌≡◌ {A = ℕ} 0 1 = cc in absurd (omega arith)
  by_full (refusal r) t v p e = let z : ◌≡◌ {A = ℕ} 0 1 = cc in absurd (omega arith)

module _ (d : Dec) (n : ℕ) (bs : List Bool) (i : ℕ) (a : Option Step) (d' : Dec) (us ws ts vs : List ℕ)
    (e : (i, tell_stop a, d', us, ws) ≡ fills_of 6 d n bs ts vs) (one : length ts ≡ 1) (also : length vs ≡ 1) where
  stop_here : tell_stop a ≡ stop_of (decoder.next_of 6 d n bs).0 (decoder.next_of 6 d n bs).1
  unfolding fills_of filling unpacks_of stop_of
  stop_here = ap (λ (f : Filling). f.1) e ∙ rw (one, also) refl

  pub more_stop : (b : Step) → a ≡ Some b → (k q : ℕ) → saying_at k q (tell b) ≡ saying_at k q (decoder.next_of 6 d n bs).0
  more_stop b z k q = by_stop k q _ (decoder.next_of 6 d n bs).0 b (sym (ap tell_stop z) ∙ stop_here)

  pub more_full : (t v p : ℕ) → a ≡ None → (k q : ℕ) → saying_at k q (a_point t v p) ≡ saying_at k q (decoder.next_of 6 d n bs).0
  more_full t v p z k q = by_full k q _ (decoder.next_of 6 d n bs).0 t v p (sym (ap tell_stop z) ∙ stop_here)

module _ (a : Option Step) (d : Dec) (n : ℕ) (bs : List Bool) (k q : ℕ) where
  pub behind_stop : (b : Step) → a ≡ Some b → saying_at k q (tell b) ≡ saying_at k q (answer_behind 6 (tell_stop a) d n bs)
  unfolding answer_behind
  behind_stop b e = rw e

  pub behind_full : (b : Answer) → saying_at k q b ≡ saying_at k q (decoder.next_of 6 d n bs).0 → a ≡ None
      → saying_at k q b ≡ saying_at k q (answer_behind 6 (tell_stop a) d n bs)
  unfolding answer_behind
  behind_full b h e = rw e h

pub unpacked : (w s : List ℕ) (k q n : ℕ) (a : Answer) (t : Stop) (u : Told) (d d' : Dec) (bs : List Bool) (ts ts' vs vs' : List ℕ)
    → (u, d) ≡ decoder.open_of n → (k, t, d', ts', vs') ≡ fills_of 6 d n bs ts vs → ((i j : ℕ) → saying_at i j a ≡ saying_at i j (answer_behind 6 t d' n bs)) → q ≡ d'.at → s ≡ saying_at k q a → w ≡ s
    → (w, ts', vs') ≡ unpacked_of 6 n bs ts vs
unfolding unpacked_of telling
unpacked w s k q n a t u d d' bs ts ts' vs vs' o f h j g z = rw (← o, ← f, z, g, h k q, j)
