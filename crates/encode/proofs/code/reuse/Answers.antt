use mathlib.Core.Path.{refl}
use native.Mathlib.Omega.{arith}
use Rattle.encode.specs.Parts.{word_of, words}
use Rattle.encode.proofs.Values.{reuse_words}
use Rattle.encode.proofs.code.reuse.Goals as goal

pub returns : goal.returns
unfolding words
returns c =
    let j = c.with.ensures in
    let d = c.digits_of.ensures in
    record {
      head = (omega (arith, j.0, c.requires.len_bound.0), j.1);
      digits = (omega (arith, d.0), d.1);
      size = d.0;
      held = reuse_words (word_of c.args.time) _ _ _ _ j.2 d.2;
      window = refl;
    }
