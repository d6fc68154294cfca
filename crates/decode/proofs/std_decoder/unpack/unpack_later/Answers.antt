use Rattle.std.proofs.Common.{refl, ap, ◌∙◌, arith, rules}
use Rattle.stream.specs.declared.position.BitPos.{BitPos}
use Rattle.stream.proofs.Bytes.{length_bits}
use Rattle.layout.specs.Answers.{an_end}
use Rattle.decode.specs.States.{view}
use Rattle.decode.specs.Parts.{Then, CarriedOn}
use Rattle.decode.proofs.CallLaws.{fit_gives}
use Rattle.decode.proofs.Fields.{known_inside}
use Rattle.decode.proofs.Unpacks.{all_full}
use Rattle.decode.proofs.Later.{begins, gives_one, ends_there, refuses_there, with_lists, full_lists}
use Rattle.decode.proofs.std_decoder.unpack.unpack_later.Goals as goal

pub loop-i-init : goal.loop-i-init
loop-i-init c =
    let k = fit_gives 6 _ _ c.requires.buf_value in
    (search rules, search rules, search rules, omega arith, c.bare-p.ensures.1, k.3, k.0, refl)

pub bare-p-requires : goal.bare-p-requires
bare-p-requires c = let k = fit_gives 6 _ _ c.requires.buf_value in record { short = k.0; inside = rw length_bits k.2 }

pub returns-in-Err : goal.returns-in-Err
returns-in-Err c =
    let loop = c.loop-i in
    with_lists c.stopped.result _ _ _ _ _ _ _ c.stopped.ensures c.behind.ensures refl
    ∙ refuses_there _ _ _ _ _ _ (rw loop.invariant.4 at c.in-Err.ensures.0) loop.invariant.5 loop.invariant.6 (length_bits _) (known_inside _ _ _ _ (rw loop.invariant.4 at loop.p.known)) loop.invariant.3 _ _ _ _ _ loop.invariant.7 (omega arith) _ refl
    ∙ (begins (view c.args.d) _ _ _ _ _ _ _ c.requires.d_value.0 c.requires.d_value.1 c.bare-p.ensures.0)

pub returns-in-Ok-End : goal.returns-in-Ok-End
returns-in-Ok-End c =
    let loop = c.loop-i in
    let k = rw c.in-Ok-End.field-0-is at c.in-Ok-End.ensures in
    with_lists c.stopped-in-Ok-End.result _ _ _ _ _ _ _ c.stopped-in-Ok-End.ensures c.behind-in-Ok-End.ensures (ap (λ (p : BitPos). an_end p.0) c.position.ensures)
    ∙ ends_there _ _ _ _ _ _ (rw loop.invariant.4 at k.0) loop.invariant.5 loop.invariant.6 (length_bits _) (known_inside _ _ _ _ (rw loop.invariant.4 at loop.p.known)) loop.invariant.3 _ _ _ _ _ loop.invariant.7 (omega arith) _ refl
    ∙ (begins (view c.args.d) _ _ _ _ _ _ _ c.requires.d_value.0 c.requires.d_value.1 c.bare-p.ensures.0)

pub loop-i-preserved : goal.loop-i-preserved
unfolding Then CarriedOn
loop-i-preserved c =
    let loop = c.loop-i in
    let k = rw c.in-Ok-Point.field-0-is at c.in-Ok-Point.ensures in (
      search rules,
      search rules,
      search rules,
      k.1.1,
      k.1.0 ∙ loop.invariant.4,
      loop.invariant.5,
      loop.invariant.6,
      gives_one _ _ _ _ _ _ (rw loop.invariant.4 at k.0) loop.invariant.5 loop.invariant.6 (length_bits _) (known_inside _ _ _ _ (rw loop.invariant.4 at loop.p.known)) loop.invariant.3 _ _ _ _ _ loop.invariant.7 (omega arith) _ _ refl (omega arith) (omega arith),
    )

pub returns : goal.returns
returns c =
    let loop = c.loop-i in
    full_lists _ _ _ _ _ _ (omega arith) c.behind-2.ensures ∙ all_full _ _ _ _ _ _ _ _ loop.invariant.7 (omega arith) ∙ (begins (view c.args.d) _ _ _ _ _ _ _ c.requires.d_value.0 c.requires.d_value.1 c.bare-p.ensures.0)
