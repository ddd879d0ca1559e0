-- How rows over break spots end.
use Rattle.std.proofs.Common.{◌≡◌, ℕ, zero, suc, ◌+◌, ◌≤◌, ◌<◌, Bool, true, false, not, List, refl, sym, subst, ◌∙◌, arith, ◌&&◌}
use Rattle.beam_machine.specs.Prelude.{Code, is_at_spot, Process, is_running, Outcome, makes, sends, asks, sleeps, outcome, Private, End, at_limit, after_row, before_node_row, at_spot, private_by, private_to_spot}
use Rattle.beam_model.specs.Prelude.{Place}
use Rattle.beam_laws.specs.Prelude.{Origin, slice_of, passes_after}
use Rattle.beam_laws.proofs.Spots.{by_row}
use Rattle.beam_laws.proofs.Halts.{passed, passed_one}

-- before a row of the node or a break spot the process runs; the row of the node may be done, the break spot's may not
abbrev pub EndsAt : List Place → Bool → ℕ → ℕ → Process → End → Type 0
EndsAt spots passes n count p at_limit = count ≡ n
EndsAt spots passes n count p after_row = (count ≤ n) × (is_running p.status ≡ false)
EndsAt spots passes n count p before_node_row = (count < n) × (is_running p.status ≡ true) × ((not passes && is_at_spot spots p.goes) ≡ false)
EndsAt spots passes n count p at_spot = (count < n) × (is_running p.status ≡ true) × ((not passes && is_at_spot spots p.goes) ≡ true)

abbrev Ends : List Place → Bool → ℕ → Private → Type 0
Ends spots passes n rows = EndsAt spots (passes_after rows.count passes) n rows.count rows.process rows.end

one_more_ends : (spots : List Place) (passes : Bool) (n count : ℕ) (p : Process) (end : End) → EndsAt spots passes n count p end → EndsAt spots passes (suc n) (count + 1) p end
one_more_ends spots passes n count p at_limit h = omega (arith, h)
one_more_ends spots passes n count p after_row h = (omega (arith, h.0), h.1)
one_more_ends spots passes n count p before_node_row h = (omega (arith, h.0), h.1, h.2)
one_more_ends spots passes n count p at_spot h = (omega (arith, h.0), h.1, h.2)

first_ends : (spots : List Place) (passes : Bool) (n count : ℕ) (p : Process) (end : End) → EndsAt spots (passes_after count false) n count p end
    → EndsAt spots (passes_after (count + 1) passes) (suc n) (count + 1) p end
first_ends spots passes n count p end h =
    one_more_ends spots (passes_after (count + 1) passes) n count p end (subst (λ b. EndsAt spots b n count p end) (passed spots 0 0 count ∙ sym (passed_one spots 0 0 count passes)) h)

row_ends : (spots : List Place) (passes : Bool) (n : ℕ) (rest : Process → Private) (p : Process) (o : Outcome) → ((q : Process) → Ends spots false n (rest q))
    → is_running p.status ≡ true → (not passes && is_at_spot spots p.goes) ≡ false → Ends spots passes (suc n) (private_by rest p o)
row_ends spots passes n rest p (makes q) h r free = first_ends spots passes n (rest q).count (rest q).process (rest q).end (h q)
row_ends spots passes n rest p (sends q to signal) h r free = first_ends spots passes n (rest q).count (rest q).process (rest q).end (h q)
row_ends spots passes n rest p (asks q native arity after) h r free = (omega arith, r, free)
row_ends spots passes n rest p (sleeps q k next) h r free = (omega arith, r, free)

go_ends : (spots : List Place) (passes : Bool) (code : Code) (n : ℕ) (p : Process) (runs stopped : Bool) → is_running p.status ≡ runs → (not passes && is_at_spot spots p.goes) ≡ stopped
    → ((q : Process) → Ends spots false n (private_to_spot spots false code n q)) → Ends spots passes (suc n) (by_row spots code passes n p runs stopped)
go_ends spots passes code n p false stopped r e h = (omega arith, r)
go_ends spots passes code n p true true r e h = (omega arith, r, e)
go_ends spots passes code n p true false r e h = row_ends spots passes n (private_to_spot spots false code n) p (outcome code p) h r e

spot_ends : (spots : List Place) (passes : Bool) (code : Code) (n : ℕ) (p : Process) → Ends spots passes n (private_to_spot spots passes code n p)
spot_ends spots passes code zero p = refl
spot_ends spots passes code (suc n) p = go_ends spots passes code n p (is_running p.status) (not passes && is_at_spot spots p.goes) refl refl (spot_ends spots false code n)

pub slice_ends : (o : Origin) (n : ℕ) (end : End) → (slice_of o n).end ≡ end → EndsAt o.spots (passes_after (slice_of o n).count o.passes) n (slice_of o n).count (slice_of o n).process end
slice_ends o n end e =
    subst (EndsAt o.spots (passes_after (slice_of o n).count o.passes) n (slice_of o n).count (slice_of o n).process) e (spot_ends o.spots o.passes o.code n o.process)

pub ends_at_limit : (o : Origin) (n : ℕ) → (slice_of o n).end ≡ at_limit → (slice_of o n).count ≡ n
ends_at_limit o n e = slice_ends o n at_limit e

pub ends_after_row : (o : Origin) (n : ℕ) → (slice_of o n).end ≡ after_row → ((slice_of o n).count ≤ n) × (is_running (slice_of o n).process.status ≡ false)
ends_after_row o n e = slice_ends o n after_row e

pub ends_before_node_row : (o : Origin) (n : ℕ) → (slice_of o n).end ≡ before_node_row → ((slice_of o n).count < n) × (is_running (slice_of o n).process.status ≡ true)
ends_before_node_row o n e = let ends = slice_ends o n before_node_row e in (ends.0, ends.1)

both_true : (a b : Bool) → (a && b) ≡ true → b ≡ true
both_true true b e = e
both_true false b e = absurd cc

pub ends_at_spot : (o : Origin) (n : ℕ) → (slice_of o n).end ≡ at_spot
    → ((slice_of o n).count < n) × (is_running (slice_of o n).process.status ≡ true) × (is_at_spot o.spots (slice_of o n).process.goes ≡ true)
ends_at_spot o n e =
    let ends = slice_ends o n at_spot e in
    (ends.0, ends.1, both_true (not (passes_after (slice_of o n).count o.passes)) (is_at_spot o.spots (slice_of o n).process.goes) ends.2)
