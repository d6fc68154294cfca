use mathlib.Core.Path.{refl}
use native.Mathlib.Omega.{arith}
use Rattle.encode.specs.Parts.{word_of, words}
use Rattle.encode.proofs.Values.{open_words}
use Rattle.encode.proofs.code.open_window.Goals as goal

-- the check finds this alone; it stands here so that 64 digits written as 64 are refused at it
pub with-head-requires-clause-low_bound : goal.with-head-requires-clause-low_bound
with-head-requires-clause-low_bound c = omega (arith, c.digits_of-digits.ensures.0)

pub returns : goal.returns
unfolding words
returns c =
    let d = c.digits_of-digits.ensures in
    let a = c.with-control.ensures in
    let b = c.with-zeros.ensures in
    let h = c.with-head.ensures in
    record {
      head = (omega (arith, h.0, b.0, a.0, c.requires.len_bound.0), h.1);
      digits = (omega (arith, d.0), d.1);
      size = d.0;
      held = open_words (word_of c.args.time) _ _ (word_of c.with-control.result) (word_of c.with-zeros.result) _ _ _ d.2 d.0 a.2 (rw c.from.ensures at b.2) (rw c.from-2.ensures at h.2);
      window = refl;
    }
