use mathlib.Core.Path.{◌∙◌}
use Rattle.stream.proofs.Taking.{eight_bytes}
use Rattle.stream.proofs.get.word.Goals as goal

pub returns : goal.returns
returns c = c.from_be_bytes.ensures ∙ eight_bytes _ _ (λ j. (c.type_inv.buf j).fits) c.requires
