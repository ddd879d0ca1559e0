-- The bytes that are written for a term are read as that term.
use Rattle.std.proofs.Common.{◌≡◌, [], Ok, sym, ap, ◌∙◌, append-nil}
use Rattle.beam_model.specs.Prelude.{external_bytes, external_at}
use Rattle.beam_term.specs.Prelude.{TermValue, IsTerm}
use Rattle.beam_etf.proofs.ReadingComplete.{external_again}
use Rattle.beam_etf.proofs.Written.{written_spelled}

pub written_back : (t : TermValue) → IsTerm t → external_at (external_bytes t) ≡ Ok (t, [])
written_back t lawful = ap external_at (sym (append-nil (external_bytes t))) ∙ external_again (external_bytes t) t (written_spelled t lawful) []
