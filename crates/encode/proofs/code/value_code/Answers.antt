use mathlib.Core.Path.{sym, ◌∙◌}
use native.Mathlib.Omega.{arith}
use Rattle.stream.specs.Bits.{bits_of}
use Rattle.layout.proofs.Xors.{zeros_lt}
use Rattle.layout.specs.Windows.{tight}
use Rattle.encode.specs.Parts.{word_of, words}
use Rattle.encode.proofs.Values.{same_words, xor_none, xor_reused, xor_opened, tight_reuses, covers_room, holds_xor}
use Rattle.encode.proofs.code.value_code.Goals as goal

pub returns-then-x-eq0 : goal.returns-then-x-eq0
unfolding words word_of bits_of
returns-then-x-eq0 c =
    let j = c.with.ensures in
    let x = xor_none c.args.window _ c.if-x-eq0.true in
    record {
      head = (omega (arith, j.0, c.requires.0), j.1);
      digits = (omega arith, omega arith);
      size = x.0;
      held = same_words (word_of c.args.time) _ _ _ j.2 c.if-x-eq0.true;
      window = x.1;
    }

pub reuse-requires-clause-room : goal.reuse-requires-clause-room
reuse-requires-clause-room c = covers_room _ c.args.x (omega arith) c.ranges.x.fits (sym c.covers.ensures ∙ c.if-covers.true)

pub returns-then-covers : goal.returns-then-covers
returns-then-covers c = holds_xor (word_of c.args.time) _ _ _ _ _ c.reuse.ensures (xor_reused _ c.args.x (omega arith) (sym c.covers.ensures ∙ c.if-covers.true))

pub open_window-requires : goal.open_window-requires
unfolding tight
open_window-requires c = rw c.tight_of.ensures record { len_bound = c.requires; room = zeros_lt 64 c.args.x (omega arith) c.ranges.x.fits; x_value = tight_reuses c.args.x }

pub returns : goal.returns
returns c = holds_xor (word_of c.args.time) _ _ _ _ _ (rw c.tight_of.ensures at c.open_window.ensures) (xor_opened _ c.args.x (omega arith) (sym c.covers.ensures ∙ c.if-covers.false))
