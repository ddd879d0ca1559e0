use Rattle.std.proofs.Common.{◌≡◌, ◌∙◌, ℕ, ◌-◌, List, ◌++◌, length, take, drop, sym, ap, append_assoc, take-append-drop}
use Rattle.std.proofs.KnownBytes.{Appends-trans}
use Rattle.std.proofs.lemmas.List.{take_rest}
use Rattle.beam_print.proofs.blocks.write_text.Goals as goal

-- the front of the rest was written too
moves_on : (text front rest : List ℕ) (n : ℕ) → text ≡ front ++ rest → text ≡ (front ++ take n rest) ++ take (length rest - n) (drop n rest)
moves_on text front rest n is =
    is ∙ ap (λ (t : List ℕ). front ++ t) (sym (take-append-drop n rest)) ∙ sym (append_assoc front (take n rest) (drop n rest))
    ∙ ap (λ (t : List ℕ). (front ++ take n rest) ++ t) (sym (take_rest rest n))

pub loop-preserved : goal.loop-preserved
loop-preserved g c =
    let before = c.loop.invariant in
    let rest = c.loop.rest.now in
    let count = c.in_ok-count.count in
    record {
      front = before.front ++ take count rest;
      whole = moves_on _ before.front rest count before.whole;
      appended = Appends-trans _ _ _ _ _ before.appended c.in_ok-count.ensures.bytes;
    }
