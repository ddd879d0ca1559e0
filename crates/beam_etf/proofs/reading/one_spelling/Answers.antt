use Rattle.std.proofs.Common.{◌≡◌, ℕ, List, ◌++◌, sym, ap, ◌∙◌}
use Rattle.std.proofs.lemmas.List.{append_cancel_right}
use Rattle.beam_model.specs.Prelude.{external_at}
use Rattle.beam_term.specs.Prelude.{TermValue}
use Rattle.beam_etf.proofs.ReadingComplete.{external_again}
use Rattle.beam_etf.proofs.ReadingSound.{ok_is}
use Rattle.beam_etf.proofs.reading.one_spelling.Goals as goal

pub returns : goal.returns
returns c = λ a b x y t u h k e.
    let same : (t, x) ≡ (u, y) = ok_is (t, x) (u, y) (sym (external_again a t h x) ∙ ap external_at e ∙ external_again b u k y) in
    let rest : x ≡ y = ap (λ (p : TermValue × List ℕ). p.1) same in
    (append_cancel_right a b y (ap (λ (r : List ℕ). a ++ r) (sym rest) ∙ e), ap (λ (p : TermValue × List ℕ). p.0) same)
