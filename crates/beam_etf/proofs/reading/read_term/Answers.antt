use Rattle.std.proofs.Common.{◌≡◌, ℕ, ◌-◌, List, Ok, length, take, drop, sym, ap, subst, ◌∙◌, arith, length-append, take_at, drop_at}
use Rattle.beam_model.specs.Prelude.{IsExternal, external_at}
use Rattle.beam_term.specs.Prelude.{TermValue}
use Rattle.beam_etf.specs.Faults.{fault_of}
use Rattle.beam_etf.proofs.ReadingComplete.{external_again}
use Rattle.beam_etf.proofs.Cut.{cut_short, exit_cut}
use Rattle.beam_etf.proofs.Exits.{exit_only, exit_fault}
use Rattle.beam_etf.proofs.Faults.{external_err}
use Rattle.beam_etf.proofs.ReadingSound.{ok_is}
use Rattle.beam_etf.proofs.ReadingSoundParts.{external_takes}
use Rattle.beam_etf.proofs.reading.read_term.Goals as goal

pub overflow_sub-result : goal.overflow_sub-result
overflow_sub-result c =
    let x = external_takes c.args.bytes.now c.in_ok-term.term c.in_ok-term.rest.now c.in_ok-term.ensures in
    omega (arith, ap length x.parts, length-append x.front c.in_ok-term.rest.now)

pub returns-clause-found : goal.returns-clause-found
returns-clause-found c =
    let x = external_takes c.args.bytes.now c.in_ok-term.term c.in_ok-term.rest.now c.in_ok-term.ensures in
    let len : length x.front ≡ length c.args.bytes.now - length c.in_ok-term.rest.now = omega (arith, ap length x.parts, length-append x.front c.in_ok-term.rest.now) in
    let front : take (length c.args.bytes.now - length c.in_ok-term.rest.now) c.args.bytes.now ≡ x.front =
    ap (λ (bytes : List ℕ). take (length c.args.bytes.now - length c.in_ok-term.rest.now) bytes) x.parts ∙ take_at x.front c.in_ok-term.rest.now _ len in
    (omega (arith, len), subst (λ (f : List ℕ). IsExternal f c.in_ok-term.term) (sym front) x.external)

pub returns-clause-only : goal.returns-clause-only
returns-clause-only c = λ t front rest e h.
    let same = ok_is {A = TermValue × List ℕ} (c.in_ok-term.term, c.in_ok-term.rest.now) (t, rest) (sym c.in_ok-term.ensures ∙ ap external_at e ∙ external_again front t h rest) in
    let after : length c.in_ok-term.rest.now ≡ length rest = ap (λ (p : TermValue × List ℕ). length p.1) same in
    (ap (λ (p : TermValue × List ℕ). p.0) same, omega (arith, ap length e, length-append front rest, after))

pub returns-in_err-term-clause-only : goal.returns-in_err-term-clause-only
returns-in_err-term-clause-only c = λ t front rest e h.
    exit_only c.from_residual.result _ c.in_err-term.field-0.0 c.from_residual.ensures.1
    (λ n.
    let read = sym (c.in_err-term.ensures n) ∙ ap external_at e ∙ external_again front t h rest in
    cc)

pub returns-clause-cut : goal.returns-clause-cut
returns-clause-cut c = λ t more h some.
    let both = sym c.in_ok-term.ensures ∙ cut_short c.args.bytes.now more t h some in
    cc

pub returns-in_err-term-clause-cut : goal.returns-in_err-term-clause-cut
returns-in_err-term-clause-cut c = λ t more h some.
    exit_cut c.from_residual.result c.in_err-term.field-0.0 c.from_residual.ensures.1
    (λ n.
    let both = sym (c.in_err-term.ensures n) ∙ cut_short c.args.bytes.now more t h some in
    cc)

pub returns-in_err-term-clause-fault : goal.returns-in_err-term-clause-fault
returns-in_err-term-clause-fault c =
    exit_fault c.from_residual.result _ c.in_err-term.field-0.0 c.from_residual.ensures.1
    (λ n. external_err c.args.bytes.now (fault_of c.in_err-term.field-0.0) (c.in_err-term.ensures n))

pub returns-clause-read : goal.returns-clause-read
returns-clause-read c =
    let x = external_takes c.args.bytes.now c.in_ok-term.term c.in_ok-term.rest.now c.in_ok-term.ensures in
    let size : ℕ = length c.args.bytes.now - length c.in_ok-term.rest.now in
    let len : length x.front ≡ size = omega (arith, ap length x.parts, length-append x.front c.in_ok-term.rest.now) in
    let behind : drop size c.args.bytes.now ≡ c.in_ok-term.rest.now = ap (λ (bytes : List ℕ). drop size bytes) x.parts ∙ drop_at x.front c.in_ok-term.rest.now _ len in
    c.in_ok-term.ensures ∙ ap (λ (rest : List ℕ). Ok (c.in_ok-term.term, rest)) (sym behind)
