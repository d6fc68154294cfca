-- What is said of any bytes, by the layout's answers on them.
use mathlib.Core.Path.{◌≡◌, refl, sym, ap, subst, ◌∙◌}
use mathlib.Core.Bool.{Bool, true, false, cond}
use mathlib.Core.List.{List, [], ◌∷◌}
use Prim.Native.Nat.{ℕ, zero, suc, ◌≤◌, ◌<◌, min}
use native.Mathlib.Omega.{arith}
use borrow.Author.Tests.{le-ltb}
use lib.ListN.{length, get_or}
use Rattle.stream.specs.Bits.{bits}
use Rattle.stream.specs.Refusals.{when, by_fault}
use Rattle.stream.specs.Calls.{limit}
use Rattle.stream.proofs.Bytes.{length_bits}
use Rattle.layout.specs.Writing.{point_of}
use Rattle.layout.specs.Answers.{Reached, point_at, end_at, wrong_at, Answer, a_point, an_end, refusal, answer_of, answers}
use Rattle.layout.specs.Promises.{place_of}
use Rattle.decode.specs.States.{Ending, still, over, Dec}
use Rattle.decode.specs.Calls as decoder
use Rattle.decode.proofs.Along.{opened_answers}
use Rattle.decode.specs.Lists.{Stop, full, said, Unpacking, behind, on_point, filling, unpacks_of, fills_of}
use Rattle.series.specs.ListPromises.{points_in, AreAnswers}
use Rattle.series.proofs.ListPromises.{unpacks_are_answers, rest_kept}
use Rattle.tsz.specs.Files.{saying, saying_at, answer_behind, telling, unpacked_of}
use Rattle.tsz.specs.Promises.{last_place, FileAnswers, FilesAnswers}

-- ---- where a decoder stands

-- where a state that was at q is after an answer
unfoldable place_after : ℕ → Answer → ℕ
place_after q (a_point t v p) = p
place_after q (an_end p) = q
place_after q (refusal r) = q

-- one that has ended has ended with no point
abbrev Live : Dec → Type 0
Live d = (a : Answer) → d.ended ≡ over a → points_in (a ∷ []) ≡ []

-- the answer of a step and the state after it
record Stepping (d : Dec) (o : Answer × Dec) : Type 0 where
  live : Live o.1
  place : o.1.at ≡ place_after d.at o.0

repeats : (a : Answer) (d : Dec) → Live d → d.ended ≡ over a → Stepping d (a, d)
unfolding place_after points_in
repeats (a_point t v q) d h e =
    let z : point_of t v ∷ [] ≡ [] = h (a_point t v q) e in
    let w : ◌≡◌ {A = ℕ} 0 1 = cc in
    absurd (omega (arith, w))
repeats (an_end q) d h e = record { live = h; place = refl }
repeats (refusal r) d h e = record { live = h; place = refl }

reaches : (d : Dec) (r : Reached) → Stepping d (decoder.stepped d r)
unfolding place_after points_in decoder.stepped decoder.ends answer_of
reaches d (point_at s q) = record { live = λ a e. cc; place = refl }
reaches d (end_at q) = record { live = λ a e. let z : an_end q ≡ a = cc in rw (← z); place = refl }
reaches d (wrong_at k q) = record { live = λ a e. let z : refusal k ≡ a = cc in rw (← z); place = refl }

module _ (c n : ℕ) (bs : List Bool) where
  by_fit : (b : Bool) (d : Dec) (r : Reached) → Live d → Stepping d (cond b (refusal 13, d) (decoder.stepped d r))
  unfolding place_after
  by_fit true d r h = record { live = h; place = refl }
  by_fit false d r h = reaches d r

  by_ending : (t : Ending) (d : Dec) → t ≡ d.ended → Live d → Stepping d (decoder.next_by c t d n bs)
  unfolding decoder.next_by
  by_ending still d e h = by_fit (decoder.no_fit c d n) d (decoder.onward c d bs) h
  by_ending (over a) d e h = repeats a d h (sym e)

  steps : (d : Dec) → Live d → Stepping d (decoder.next_of c d n bs)
  unfolding decoder.next_of
  steps d h = by_ending d.ended d refl h

  -- ---- points and the answer behind them

  -- the place of the state is the one behind the last point given, and the answer behind the points is the step's after them
  record Known (d : Dec) (u : Unpacking) : Type 0 where
    place : u.2.at ≡ last_place d.at (decoder.nexts_of c (length u.0) d n bs)
    answer : answer_behind c u.1 u.2 n bs ≡ get_or (decoder.nexts_of c (suc (length u.0)) d n bs) (length u.0) (an_end 0)

  module _ (d d' : Dec) (u : Unpacking) where
    after_point : (t v q : ℕ) → (a_point t v q, d') ≡ decoder.next_of c d n bs → d'.at ≡ q → Known d' u → Known d (behind (point_of t v) u)
    unfolding decoder.nexts_of last_place place_of
    after_point t v q e h k = record {
      place = k.place ∙ ap (λ (p : ℕ). last_place p (decoder.nexts_of c (length u.0) d' n bs)) h ∙ ap (λ (o : Answer × Dec). last_place (place_of o.0) (decoder.nexts_of c (length u.0) o.1 n bs)) e;
      answer = k.answer ∙ ap (λ (o : Answer × Dec). get_or (decoder.nexts_of c (suc (length u.0)) o.1 n bs) (length u.0) (an_end 0)) e;
    }

    after_stop : (a : Answer) → (a, d') ≡ decoder.next_of c d n bs → d'.at ≡ d.at → Known d ([], said a, d')
    unfolding decoder.nexts_of last_place answer_behind
    after_stop a e h = record { place = h; answer = ap (λ (o : Answer × Dec). o.0) e }

    after_step : (a : Answer) → (a, d') ≡ decoder.next_of c d n bs → d'.at ≡ place_after d.at a → Known d' u
        → Known d (on_point a (λ p. behind p u) ([], said a, d'))
    unfolding on_point place_after
    after_step (a_point t v q) e h k = after_point t v q e h k
    after_step (an_end q) e h k = after_stop (an_end q) e h
    after_step (refusal r) e h k = after_stop (refusal r) e h

  known : (j : ℕ) (d : Dec) → Live d → Known d (unpacks_of c j d n bs)
  unfolding unpacks_of decoder.nexts_of last_place answer_behind
  known zero d h = record { place = refl; answer = refl }
  known (suc j) d h =
      let o = decoder.next_of c d n bs in
      let s = steps d h in
      after_step d o.1 (unpacks_of c j o.1 n bs) o.0 refl s.place (known j o.1 s.live)

-- ---- files

opened_live : (n : ℕ) → n ≤ limit → ((decoder.open_of n).1.at ≡ 0) × Live (decoder.open_of n).1
unfolding decoder.open_of decoder.fresh by_fault when
opened_live n h = rw (le-ltb limit n h) (refl, λ a e. cc)

-- the second number said is the count
second : (k q : ℕ) (a : Answer) → get_or (saying_at k q a) 1 0 ≡ k
unfolding saying_at saying
second k q (a_point t v p) = refl
second k q (an_end p) = refl
second k q (refusal r) = refl

-- where fewer were given than asked for, the answer behind them is no point
no_point : (c k : ℕ) (d : Dec) (n : ℕ) (bs : List Bool) (u : Unpacking) (s : Stop) → AreAnswers c k d n bs u → s ≡ u.1 → length u.0 < k
    → points_in (answer_behind c u.1 u.2 n bs ∷ []) ≡ []
unfolding answer_behind
no_point c k d n bs u full a e h = absurd (omega (arith, (a.filled (sym e)).0, h))
no_point c k d n bs u (said w) a e h = rw (← e) (a.stopped w (sym e)).1

module _ (l us ws : List ℕ) (h : length l ≤ limit) where
  abbrev first : Dec
  first = (decoder.open_of (length l)).1

  abbrev all : Unpacking
  all = unpacks_of 6 (min (length us) (length ws)) first (length l) (bits l)

  answers_are : (k : ℕ) → decoder.nexts_of 6 k first (length l) (bits l) ≡ answers 6 k (bits l)
  answers_are k = opened_answers 6 k (length l) (bits l) h (length_bits l)

  told : FileAnswers l us ws (unpacked_of 6 (length l) (bits l) us ws) (length all.0)
  unfolding unpacked_of telling fills_of filling
  told =
      let o = opened_live (length l) h in
      let r = rest_kept 6 first (length l) (bits l) us ws in
      let a = unpacks_are_answers 6 (min (length us) (length ws)) first (length l) (bits l) in
      let w = known 6 (length l) (bits l) (min (length us) (length ws)) first o.1 in
      let b : answer_behind 6 all.1 all.2 (length l) (bits l) ≡ get_or (answers 6 (suc (length all.0)) (bits l)) (length all.0) (an_end 0) =
      w.answer ∙ ap (λ (x : List Answer). get_or x (length all.0) (an_end 0)) (answers_are (suc (length all.0))) in
      let p : all.2.at ≡ last_place 0 (answers 6 (length all.0) (bits l)) =
      w.place ∙ ap (λ (x : ℕ). last_place x (decoder.nexts_of 6 (length all.0) first (length l) (bits l))) o.0 ∙ ap (last_place 0) (answers_are (length all.0)) in
      record {
        fits = omega (arith, r.count, r.fits.0, r.fits.1);
        points = r.points ∙ sym a.points ∙ ap points_in (answers_are (length all.0));
        times = r.times;
        values = r.values;
        says = ap (λ (x : ℕ). saying_at (length all.0) x (answer_behind 6 all.1 all.2 (length l) (bits l))) p ∙ ap (saying_at (length all.0) (last_place 0 (answers 6 (length all.0) (bits l)))) b;
        stops = λ j. rw (← b) (no_point 6 _ first (length l) (bits l) all all.1 a refl j);
      }

  counted : get_or (unpacked_of 6 (length l) (bits l) us ws).0 1 0 ≡ length all.0
  unfolding unpacked_of telling fills_of filling
  counted = second (length all.0) all.2.at (answer_behind 6 all.1 all.2 (length l) (bits l))

pub file_answers : FilesAnswers
file_answers l us ws h = subst (FileAnswers l us ws (unpacked_of 6 (length l) (bits l) us ws)) (sym (counted l us ws h)) (told l us ws h)
