-- Private rows read neither the name of their process nor the signals in transit to it.
use Rattle.std.proofs.Common.{◌≡◌, ℕ, suc, zero, cond, Bool, true, false, List, [], refl, sym, ap, subst, ◌∙◌, Option, None}
use Rattle.beam_machine.specs.declared.process.Signal.{Signal}
use Rattle.beam_machine.specs.declared.process.Status.{Status}
use Rattle.beam_machine.specs.declared.process.Status.TheVariants.{Running, Waiting, Ended}
use Rattle.beam_machine.specs.Prelude.{Code, Process, is_running, is_ended, Outcome, makes, sends, asks, sleeps, outcome, Private, with_first_row, with_first_sending, private_by, private_rows}
use Rattle.beam_laws.specs.Prelude.{with_name_and_transit}
use Rattle.beam_laws.proofs.Unread.{with, moved, outcome_same}

pub having_having : (name m : Option (List ℕ)) (transit t : List Signal) (p : Process) → with_name_and_transit name transit (with_name_and_transit m t p) ≡ with_name_and_transit name transit p
having_having name m transit t p = go (is_ended p.status) refl
  where
    go : (b : Bool) → is_ended p.status ≡ b → with_name_and_transit name transit (cond b p (record p { name = m; transit = t })) ≡ with_name_and_transit name transit p
    go true e = refl
    go false e = ap (λ b. cond b (record p { name = m; transit = t }) (record p { name = name; transit = transit })) e ∙ sym (ap (λ b. cond b p (record p { name = name; transit = transit })) e)

pub having_own : (p : Process) → with_name_and_transit p.name p.transit p ≡ p
having_own p = elim (is_ended p.status) as (λ b. cond b p p ≡ p) [ true ↦ refl | false ↦ refl ]

pub having_status : (name : Option (List ℕ)) (transit : List Signal) (p : Process) → (with_name_and_transit name transit p).status ≡ p.status
having_status name transit p = elim (is_ended p.status) as (λ b. (cond {A = Process} b p (record p { name = name; transit = transit })).status ≡ p.status) [ true ↦ refl | false ↦ refl ]

-- private rows, after which the process has this name and these signals in transit to it
abbrev pub private_having : Option (List ℕ) → List Signal → Private → Private
private_having name transit rows = record rows { process = with_name_and_transit name transit rows.process }

again : (name m : Option (List ℕ)) (transit t : List Signal) (rows : Private) → private_having name transit (private_having m t rows) ≡ private_having name transit rows
again name m transit t rows = ap (λ p. record rows { process = p }) (having_having name m transit t rows.process)

abbrev Unread : Code → ℕ → Type 0
Unread code n = (p : Process) (name : Option (List ℕ)) (transit : List Signal) → private_rows code n (with_name_and_transit name transit p) ≡ private_having name transit (private_rows code n p)

-- rows of one process with two names and two lists of signals in transit
both : (code : Code) (n : ℕ) → Unread code n → (q : Process) (name m : Option (List ℕ)) (transit t : List Signal)
    → private_rows code n (with_name_and_transit name transit q) ≡ private_having name transit (private_rows code n (with_name_and_transit m t q))
both code n u q name m transit t = u q name transit ∙ (sym (again name m transit t (private_rows code n q)) ∙ sym (ap (private_having name transit) (u q m t)))

row_unread : (code : Code) (n : ℕ) → Unread code n → (p : Process) (name m : Option (List ℕ)) (transit t : List Signal) (o : Outcome)
    → private_by (private_rows code n) (with name transit p) (moved name transit o) ≡ private_having name transit (private_by (private_rows code n) (with m t p) (moved m t o))
row_unread code n u p name m transit t (makes q) = ap with_first_row (both code n u q name m transit t)
row_unread code n u p name m transit t (sends q to signal) = ap (with_first_sending (record { to = to; signal = signal })) (both code n u (record q { status = Running }) name m transit t)
row_unread code n u p name m transit t (asks q native arity after) = refl
row_unread code n u p name m transit t (sleeps q k next) = refl

more_unread : (code : Code) (n : ℕ) → Unread code n → (p : Process) (name : Option (List ℕ)) (transit : List Signal) (status : Status)
    → private_rows code (suc n) (with_name_and_transit name transit (record p { status = status })) ≡ private_having name transit (private_rows code (suc n) (record p { status = status }))
more_unread code n u p name transit Waiting = refl
more_unread code n u p name transit (Ended reason value) = refl
more_unread code n u p name transit Running =
    ap (private_by (private_rows code n) (with name transit p)) (outcome_same name transit code p)
    ∙ (row_unread code n u p name p.name transit p.transit (outcome code (with None [] p))
    ∙ ap (λ o. private_having name transit (private_by (private_rows code n) (with p.name p.transit p) o)) (sym (outcome_same p.name p.transit code p)))

pub rows_unread : (code : Code) (n : ℕ) → Unread code n
rows_unread code zero p name transit = refl
rows_unread code (suc n) p name transit = more_unread code n (rows_unread code n) p name transit p.status

-- private rows keep the name of the process and the signals in transit to it
pub rows_keep : (code : Code) (n : ℕ) (p : Process) → with_name_and_transit p.name p.transit (private_rows code n p).process ≡ (private_rows code n p).process
rows_keep code n p = ap (λ rows. rows.process) (sym (rows_unread code n p p.name p.transit)) ∙ ap (λ q. (private_rows code n q).process) (having_own p)

-- ---- one row

-- the process of a row that sends or asks runs on, and keeps its name and the signals in transit to it
abbrev pub Keeps : Option (List ℕ) → List Signal → Outcome → Type 0
Keeps name transit (makes q) = q ≡ with_name_and_transit name transit q
Keeps name transit (sends q to signal) = q ≡ with name transit q
Keeps name transit (asks q native arity after) = q ≡ with name transit q
Keeps name transit (sleeps q n next) = q ≡ with_name_and_transit name transit q

moved_keeps : (name : Option (List ℕ)) (transit : List Signal) (o : Outcome) → Keeps name transit (moved name transit o)
moved_keeps name transit (makes q) = sym (having_having name name transit transit q)
moved_keeps name transit (sends q to signal) = refl
moved_keeps name transit (asks q native arity after) = refl
moved_keeps name transit (sleeps q n next) = sym (having_having name name transit transit q)

running_keeps : (code : Code) (p : Process) (status : Status) → p.status ≡ status → is_running status ≡ true → Keeps p.name p.transit (outcome code p)
running_keeps code p Waiting e r = cc
running_keeps code p (Ended reason value) e r = cc
running_keeps code p Running e r =
    let is : with p.name p.transit p ≡ p = ap (λ status. record p { status = status }) (sym e) in
    subst (λ q. Keeps p.name p.transit (outcome code q)) is
    (subst (Keeps p.name p.transit) (sym (outcome_same p.name p.transit code p)) (moved_keeps p.name p.transit (outcome code (with None [] p))))

pub row_keeps : (code : Code) (p : Process) → is_running p.status ≡ true → Keeps p.name p.transit (outcome code p)
row_keeps code p r = running_keeps code p p.status refl r
