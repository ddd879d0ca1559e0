use Rattle.std.proofs.Common.{◌≡◌, ℕ, List, sym, subst}
use Rattle.std.proofs.lemmas.List.{append_cancel_right}
use Rattle.beam_model.specs.Prelude.{IsExternal}
use Rattle.beam_etf.proofs.ReadingComplete.{external_again}
use Rattle.beam_etf.proofs.ReadingSoundParts.{external_takes}
use Rattle.beam_etf.proofs.reading.spelled_is_read.Goals as goal

pub returns : goal.returns
returns c = λ t front rest. (
  λ h. external_again front t h rest,
  λ e.
      let x = external_takes _ t rest e in
      let same : x.front ≡ front = append_cancel_right x.front front rest (sym x.parts) in
      subst (λ (f : List ℕ). IsExternal f t) same x.external,
)
