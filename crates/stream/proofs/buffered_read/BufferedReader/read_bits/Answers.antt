use mathlib.Core.Path.{sym, ap, ◌∙◌}
use native.Mathlib.Omega.{arith}
use Rattle.stream.specs.Fits.{fault_of}
use Rattle.stream.proofs.Outcomes.{no_fault, fits, read_not, read_there}
use Rattle.stream.proofs.buffered_read.BufferedReader.read_bits.Goals as goal

pub get_field-v-requires : goal.get_field-v-requires
get_field-v-requires c = let k = fits 7 _ _ _ (omega arith) (no_fault _ _ _ c.in-Ok.is c.fit_of.ensures) in record { buf_len_bound = k.0; n_bound = omega arith; n_bound_2 = k.1 }

pub overflow_add-end : goal.overflow_add-end
overflow_add-end c =
    let k = fits 7 _ _ _ (omega arith) (no_fault _ _ _ c.in-Ok.is c.fit_of.ensures) in
    omega arith

pub returns-in-Err : goal.returns-in-Err
returns-in-Err c = read_not _ _ _ _ c.width_of-n.ensures c.in-Err.r (ap fault_of (sym c.in-Err.is) ∙ c.fit_of.ensures)

pub returns-in-Ok : goal.returns-in-Ok
returns-in-Ok c = read_there _ _ _ _ c.width_of-n.ensures _ (no_fault _ _ _ c.in-Ok.is c.fit_of.ensures) c.get_field-v.ensures
