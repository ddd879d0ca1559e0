-- Rows that were executed apart add no monitor to their process.
use Rattle.std.proofs.Common.{◌≡◌, ℕ, zero, suc, Bool, true, false, cond, not, List, refl, sym, ap, subst, ◌∙◌, ◌&&◌, Some}
use Rattle.beam_model.specs.Prelude.{Place}
use Rattle.beam_machine.specs.Prelude.{Code, is_at_spot, Private, at_spot, after_row, stops, private_by, private_to_spot, Process, is_running, is_ended, Outcome, makes, sends, asks, sleeps, outcome, State, process_of}
use Rattle.beam_laws.specs.Prelude.{ArePart, MonitorsNoMore, Rise, AreRising}
use Rattle.beam_laws.proofs.Ending.{runs_on}
use Rattle.beam_laws.proofs.Monitoring.{all_are, part_of_part, row_part}
use Rattle.beam_laws.proofs.Rising.{RisesIf, process_up}
use Rattle.beam_rows.specs.Prelude.{LeadsTo}
use Rattle.beam_state.proofs.Replacing.{having_monitors}
use Rattle.beam_core.specs.Installing.{AreRowsOf}

-- ---- private rows

pub leads_part : (code : Code) (n : ℕ) (p q : Process) → LeadsTo code n p q → ArePart p.monitors q.monitors
leads_part code zero p q h = subst (λ (r : Process). ArePart p.monitors r.monitors) (sym h) (all_are p.monitors)
leads_part code (suc n) p q h =
    let r : Process = h.1.0 in
    part_of_part p.monitors r.monitors q.monitors
    (subst (MonitorsNoMore p.monitors) h.1.1.0 (row_part code p (ap is_ended h.0))) (leads_part code n r q h.1.1.1)

-- ---- rows that were executed apart

part_by : (rest : Process → Private) → ((q : Process) → ArePart q.monitors (rest q).process.monitors) → (p : Process) (o : Outcome)
    → MonitorsNoMore p.monitors o → ArePart p.monitors (private_by rest p o).process.monitors
part_by rest h p (makes q) part = part_of_part p.monitors q.monitors (rest q).process.monitors part (h q)
part_by rest h p (sends q to signal) part = part_of_part p.monitors q.monitors (rest q).process.monitors part (h q)
part_by rest h p (asks q native arity after) part = all_are p.monitors
part_by rest h p (sleeps q n next) part = all_are p.monitors

rows_part : (spots : List Place) (code : Code) (n : ℕ) (passes : Bool) (p : Process) → ArePart p.monitors (private_to_spot spots passes code n p).process.monitors
rows_part spots code zero passes p = all_are p.monitors
rows_part spots code (suc n) passes p = go (is_running p.status) refl (not passes && is_at_spot spots p.goes) (rows_part spots code n false)
  where
    go : (b : Bool) → is_running p.status ≡ b → (c : Bool) → ((q : Process) → ArePart q.monitors (private_to_spot spots false code n q).process.monitors)
        → ArePart p.monitors (cond b (cond c (stops p at_spot) (private_by (private_to_spot spots false code n) p (outcome code p))) (stops p after_row)).process.monitors
    go false r c h = all_are p.monitors
    go true r true h = all_are p.monitors
    go true r false h = part_by (private_to_spot spots false code n) h p (outcome code p) (row_part code p (runs_on p.status r))

-- ---- references rise

there_rise : (count : ℕ) (ps : List Process) (pid : ℕ) (p : Process) → AreRising count ps → process_of ps pid ≡ Some p → Rise 0 count p.monitors
there_rise count ps pid p h e = subst (RisesIf count) e (process_up count ps pid h)

module _ (s : State) (pid : ℕ) (rows : Private) (h : AreRowsOf s pid rows) (count : ℕ) (rise : AreRising count s.processes) where
  pub now_rise : Rise 0 count h.now.monitors
  now_rise = there_rise count s.processes pid h.now rise h.there

-- each monitor after the rows was there before them
pub now_part : (s : State) (pid : ℕ) (rows : Private) (h : AreRowsOf s pid rows) → ArePart h.now.monitors rows.process.monitors
now_part s pid rows h =
    let same : h.now.monitors ≡ h.first.monitors = ap (λ (p : Process). p.monitors) h.still ∙ having_monitors h.now.name h.now.transit h.first in
    subst (λ (rows : Private). ArePart h.now.monitors rows.process.monitors) (sym h.done)
    (subst (λ ms. ArePart ms (private_to_spot h.spots h.passes s.code h.limit h.first).process.monitors) (sym same) (rows_part h.spots s.code h.limit h.passes h.first))
