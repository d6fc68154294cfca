-- What a read leaves of a reader that holds its bytes.
use mathlib.Core.Path.{◌≡◌, refl, ap, sym, ◌∙◌}
use mathlib.Core.List.{List}
use Prim.Native.Nat.{ℕ, ◌+◌, ◌<◌}
use lib.ListN.{length}
use denote.Ref.{Bor}
use Rattle.stream.specs.Calls.{Told, refused, tell_bits, width, field_fault, read_of, peek_of}
use Rattle.stream.proofs.Outcomes.{by_some, read_there}
use Rattle.lent.specs.declared.held_reader.HeldReader.{HeldReader}
use Rattle.lent.specs.Calls.{Reading, held_of}
use Rattle.lent.specs.Promises.{HeldReads}
use Rattle.lent.proofs.OneOutcome.{one_outcome}

-- where a read that finds its field ends, and what one that is refused comes to
module _ (l : List ℕ) (p num : ℕ) where
  behind : field_fault 7 (length l) p (width num) ≡ 0 → (read_of l p num).1 ≡ p + width num
  behind h = sym (ap (λ (o : Told × ℕ). o.1) (read_there l p num (width num) refl _ (sym h) refl))

  lost : 0 < field_fault 7 (length l) p (width num) → ◌≡◌ {A = Told × ℕ} (read_of l p num) (refused (field_fault 7 (length l) p (width num)), p)
  unfolding read_of
  lost h = by_some (field_fault 7 (length l) p (width num)) _ _ h

-- where a reader reads next, by what it holds
reads_at : (s : HeldReader) (b : Bor (List ℕ)) (p k : ℕ) → s.bytes ≡ b → s.at.0 ≡ p → (held_of s k).0 ≡ (read_of b.now p k).0
reads_at s b p k e h = (λ i. (read_of (e i).now (h i) k).0)

pub held_reads : HeldReads
unfolding peek_of
held_reads r s num a e =
    let at : s.at.0 ≡ (read_of r.bytes.now r.at.0 num).1 = ap (λ (o : Reading). o.1) e in
    let said : tell_bits a ≡ (read_of r.bytes.now r.at.0 num).0 = ap (λ (o : Reading). o.0) e in
    let kept : s.bytes ≡ r.bytes = ap (λ (o : Reading). o.2) e in
    record {
      holds = kept;
      moves = λ h. at ∙ behind _ _ num h;
      goes_on = λ h k. reads_at s r.bytes _ k kept (at ∙ behind _ _ num h);
      stays = λ h.
          let o = lost r.bytes.now r.at.0 num h in
          (said ∙ ap (λ (t : Told × ℕ). t.0) o, one_outcome.made s r kept (at ∙ ap (λ (t : Told × ℕ). t.1) o));
      foreseen = λ b f. one_outcome.peak b a (f ∙ sym said);
    }
