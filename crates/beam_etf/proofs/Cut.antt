-- A term that ends too early is Truncated.
use Rattle.std.proofs.Common.{◌≡◌, ◌≢◌, ℕ, List, [], ◌++◌, length, Result, Ok, Err, refl, sym, ap, ◌∙◌, arith, MatchResult, append-nil, length-append}
use Rattle.std.specs.Result.{IsErrAnd}
use Rattle.std.proofs.lemmas.List.{nil_from_length}
use Rattle.beam_model.specs.Prelude.{IsExternal, ExternalFault, bad_tag, out_of_profile, too_deep, bad_utf8, external_at}
use Rattle.beam_term.specs.Prelude.{TermValue}
use Rattle.beam_model.specs.ExternalFault.{truncated, integer_too_large}
use Rattle.beam_etf.specs.declared.error.EtfError.{EtfError}
use Rattle.beam_etf.specs.declared.error.EtfError.TheVariants.{Truncated, BadTag, OutOfProfile, IntegerTooLarge, TooDeep, BadUtf8, NoMemory}
use Rattle.beam_etf.specs.Faults.{fault_of}
use Rattle.beam_etf.proofs.ReadingComplete.{external_again}
use Rattle.beam_etf.proofs.ReadingSound.{ok_is}
use Rattle.beam_etf.proofs.Grows.{Grown, external_grows}

none_but_truncated : (f : ExternalFault) → (f ≢ truncated → ⊥) → f ≡ truncated
none_but_truncated truncated k = refl
none_but_truncated bad_tag k = absurd (k (λ q. cc))
none_but_truncated out_of_profile k = absurd (k (λ q. cc))
none_but_truncated integer_too_large k = absurd (k (λ q. cc))
none_but_truncated too_deep k = absurd (k (λ q. cc))
none_but_truncated bad_utf8 k = absurd (k (λ q. cc))

-- the error of this fault
is_truncated : (e : EtfError) → e ≢ NoMemory → fault_of e ≡ truncated → e ≡ Truncated
is_truncated Truncated n h = refl
is_truncated NoMemory n h = absurd (n refl)
is_truncated BadTag n h = absurd cc
is_truncated OutOfProfile n h = absurd cc
is_truncated IntegerTooLarge n h = absurd cc
is_truncated TooDeep n h = absurd cc
is_truncated BadUtf8 n h = absurd cc

pub cut_short : (a b : List ℕ) (t : TermValue) → IsExternal (a ++ b) t → b ≢ [] → external_at a ≡ Err truncated
cut_short a b t h some = by (external_at a) (external_grows a b)
  where
    whole : external_at (a ++ b) ≡ Ok (t, [])
    whole = ap external_at (sym (append-nil (a ++ b))) ∙ external_again (a ++ b) t h []

    by : (r : Result (TermValue × List ℕ) ExternalFault) → Grown b r (external_at (a ++ b)) → r ≡ Err truncated
    by (Ok x) g =
        let same = ok_is {A = TermValue × List ℕ} (t, []) (x.0, x.1 ++ b) (sym whole ∙ g) in
        let none : length b ≡ 0 = omega (arith, ap (λ (p : TermValue × List ℕ). length p.1) same, length-append x.1 b) in
        absurd (some (nil_from_length b none))
    by (Err e) g = ap (λ (f : ExternalFault). Err f) (none_but_truncated e (λ n. let both = sym whole ∙ g n in cc))

pub exit_cut : {X : Type 0} (result : Result X EtfError) (e : EtfError) → IsErrAnd result (λ y. y ≡ e) → (e ≢ NoMemory → fault_of e ≡ truncated) → MatchResult result (λ x. ⊥) (λ y. y ≢ NoMemory → y ≡ Truncated)
exit_cut (Ok x) e h k = absurd h
exit_cut (Err y) e h k = rw h (λ n. is_truncated e n (k n))
