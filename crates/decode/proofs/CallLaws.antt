-- The cases of what the calls answer.
use Rattle.std.proofs.Common.{◌≡◌, ℕ, ◌+◌, ◌-◌, ◌*◌, ◌^◌, ◌<◌, ◌≤◌, Bool, true, false, not, eqb, ltb, List, [], sym, refl, ap, ◌∙◌, ltb-false, le-ltb, lt-ltb, eq-eqb, ne_eqb, eqb-true}
use borrow.Author.Tests.{not-false}
use Rattle.stream.specs.Refusals.{when, by_fault}
use Rattle.stream.specs.Calls.{limit, given, refused}
use Rattle.layout.specs.Windows.{no_digit}
use Rattle.layout.specs.Reading.{read_next, read_later}
use Rattle.layout.specs.Answers.{Reached, point_at, end_at, wrong_at, answer_of, step, first_step}
use Rattle.layout.proofs.Tests.{neither}
use Rattle.decode.specs.declared.std_decoder.Step.{Step}
use Rattle.std.specs.declared.option.Option.{Option}
use Rattle.std.specs.Prelude.{Some, None}
use Rattle.decode.specs.States.{tell, Ending, still, over, Dec, kept}
use Rattle.decode.specs.Calls.{fresh, shut, open_of, stepped, no_fit, onward, next_by, next_of}
use Rattle.decode.specs.Parts.{unplaced, comes_to, AtOnce}
use Rattle.decode.specs.Promises.{Misfits, EveryStates}

-- ---- opening

pub open_not : (n : ℕ) → limit < n → open_of n ≡ (refused 5, shut 5)
unfolding open_of by_fault when
open_not n h = rw (lt-ltb limit n h)

pub open_there : (n : ℕ) → n ≤ limit → open_of n ≡ (given [], fresh n)
unfolding open_of by_fault when
open_there n h = rw (le-ltb limit n h)

-- ---- does a state fit a buffer of n bytes?

module _ (c : ℕ) where
  pub misfits : Misfits c
  unfolding no_fit
  misfits d n = record {
    other_length = λ a. simp (ne_eqb n d.len a);
    too_long = λ a b. simp (eq-eqb n d.len a, lt-ltb limit d.len b);
    too_late = λ a b e. simp (eq-eqb n d.len a, le-ltb limit d.len b, lt-ltb (8 * d.len) d.at e);
    otherwise = λ a b e. simp (eq-eqb n d.len a, le-ltb limit d.len b, le-ltb (8 * d.len) d.at e);
  }

  pub fit_gives : (d : Dec) (n : ℕ) → no_fit c d n ≡ false → (n ≤ limit) × (d.window.lead + d.window.trail ≤ 2 ^ c - 1) × (d.at ≤ 8 * n) × (d.len ≡ n)
  unfolding no_fit no_digit
  fit_gives d n e =
      let a = neither (not (eqb n d.len)) _ e in
      let b = neither (ltb limit d.len) _ a.1 in
      let w = neither (ltb (8 * d.len) d.at) _ b.1 in
      let same : n ≡ d.len = eqb-true n d.len (not-false _ a.0) in
      (rw same (ltb-false limit d.len b.0), ltb-false _ _ w.1, rw same (ltb-false (8 * d.len) d.at w.0), sym same)

-- ---- a step

-- no answer tells a refusal's place
unplaced_stepped : (d : Dec) (o : Reached) → stepped d (unplaced o) ≡ stepped d o
unfolding stepped unplaced answer_of
unplaced_stepped d (point_at s q) = refl
unplaced_stepped d (end_at q) = refl
unplaced_stepped d (wrong_at k q) = refl

pub found_stepped : (d : Dec) (o o' : Reached) → o ≡ unplaced o' → stepped d o ≡ stepped d o'
found_stepped d o o' e = ap (stepped d) e ∙ unplaced_stepped d o'

module _ (c : ℕ) (d : Dec) (s : List Bool) where
  pub onward_first : d.first ≡ true → unplaced (first_step c d.window d.at s) ≡ unplaced (onward c d s)
  unfolding onward
  onward_first e = rw e

  pub onward_later : d.first ≡ false → comes_to (read_later c (kept d)) d.at s ≡ unplaced (onward c d s)
  unfolding onward step read_next comes_to
  onward_later e = rw e

by_ending : (c : ℕ) (d : Dec) (n : ℕ) (s : List Bool) (x : Ending) → d.ended ≡ x → next_of c d n s ≡ next_by c x d n s
unfolding next_of
by_ending c d n s x e = ap (λ (z : Ending). next_by c z d n s) e

pub every_state : (c : ℕ) → EveryStates c
unfolding next_by
every_state c d n s = record {
  repeats = λ a e. by_ending c d n s (over a) e;
  thirteen = λ e h. by_ending c d n s still e ∙ rw h;
  goes_on = λ e h. by_ending c d n s still e ∙ rw h;
}

-- what was answered at once
module _ (d : Dec) (n : ℕ) (p : Option Step) (at : AtOnce d n p) where
  pub said_at_once : (a : Step) → p ≡ Some a → (bs : List Bool) → (tell a, d) ≡ next_of 6 d n bs
  unfolding AtOnce
  said_at_once a e = let k : AtOnce d n (Some a) = rw e at at in k

  pub reads_on : p ≡ None → (d.ended ≡ still) × (no_fit 6 d n ≡ false)
  unfolding AtOnce
  reads_on e = let k : AtOnce d n None = rw e at at in k
