use mathlib.Core.Path.{sym, ap, ◌∙◌}
use native.Mathlib.Omega.{arith}
use Rattle.stream.specs.Fits.{fault_of}
use Rattle.stream.proofs.Outcomes.{no_fault, fits, wrote_not, wrote}
use Rattle.stream.proofs.buffered_write.BufferedWriter.write_bits.Goals as goal

pub put_field-requires : goal.put_field-requires
put_field-requires c = let k = fits 1 _ _ _ (omega arith) (no_fault _ _ _ c.in-Ok.is c.fit_of.ensures) in record { buf_len_bound = k.0; n_bound = omega arith; n_bound_2 = k.1 }

pub overflow_add-end : goal.overflow_add-end
overflow_add-end c =
    let k = fits 1 _ _ _ (omega arith) (no_fault _ _ _ c.in-Ok.is c.fit_of.ensures) in
    omega arith

pub returns-in-Err : goal.returns-in-Err
returns-in-Err c = wrote_not _ _ _ _ _ c.width_of-n.ensures c.in-Err.r (ap fault_of (sym c.in-Err.is) ∙ c.fit_of.ensures)

pub returns-in-Ok : goal.returns-in-Ok
returns-in-Ok c = wrote _ _ _ _ _ c.width_of-n.ensures _ (no_fault _ _ _ c.in-Ok.is c.fit_of.ensures) c.put_field.ensures
