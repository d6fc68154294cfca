use mathlib.Core.Path.{◌∙◌}
use native.Mathlib.Omega.{arith}
use mir.Facts.{to_z-of_z}
use Rattle.layout.proofs.Fields.{span_back}
use Rattle.encode.specs.Parts.{word_of}
use Rattle.encode.proofs.Codes.{row_word}
use Rattle.encode.proofs.code.row_code.Goals as goal

pub with-requires-clause-low_bound : goal.with-requires-clause-low_bound
with-requires-clause-low_bound c = rw (c.field_of.ensures, to_z-of_z c.ranges.d) (span_back _ _ c.requires.good.spans c.requires.d_value).whole

pub returns : goal.returns
unfolding word_of
returns c =
    let g = c.requires.good in
    let j = c.with.ensures in
    (omega (arith, j.0, g.short, g.narrow), j.1, j.2 ∙ row_word c.args.row _ _ _ c.field_of.ensures (to_z-of_z c.ranges.d))
