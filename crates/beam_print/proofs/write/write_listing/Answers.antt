use Rattle.std.proofs.Common.{◌≡◌, rules, subst, sym, ℕ, List, ◌++◌}
use Rattle.beam_model.specs.Prelude.{listing_text}
use Rattle.beam_print.specs.Begun.{IsWrittenUpTo}
use Rattle.beam_print.proofs.Begun.{begun_on, err_more}
use Rattle.beam_print.proofs.write.write_listing.Goals as goal

pub returns-clause-begun : goal.returns-clause-begun
returns-clause-begun g c =
    let text : List ℕ = listing_text c.args.listing.now in
    let waiting : List ℕ = c.write_forms.new.waiting.items in
    let same : c.deref.result.now ≡ waiting = search rules in
    let old = g.W.Write.contents c.args.out.now in
    let mid = g.W.Write.contents c.write_forms.new.out in
    let up_to = subst (λ (t : List ℕ). IsWrittenUpTo old mid (t ++ text) waiting) c.new-waiting.ensures.items c.in_ok-write_forms.ensures.written in
    let rest = subst (λ (t : List ℕ). IsWrittenUpTo old mid text t) (sym same) up_to in
    err_more c.write_text.result _ _ (λ h. begun_on _ _ _ text c.deref.result.now rest h) c.write_text.ensures.begun
