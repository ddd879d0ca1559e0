-- Events that only an allocation failure refuses.
use Rattle.std.proofs.Common.{◌≡◌, ℕ, ◌<◌, true, false, cond, ◌==◌, [], refl, ap, ◌∙◌, arith, Ok, Option, Some, None, is_ok}
use Rattle.std.proofs.lemmas.Bool.Decides.{nat_tests}
use Rattle.beam_machine.specs.declared.event.Event.TheVariants as event
use Rattle.beam_machine.specs.declared.event.Reply.TheVariants.{Ran}
use Rattle.beam_machine.specs.declared.event.Then.{Then}
use Rattle.beam_machine.specs.declared.event.Refused.TheVariants.{NotReady}
use Rattle.beam_machine.specs.Prelude.{Process, is_waiting, State, process_of, live_process, Next, Answer, refused, ran, ran_to, next_steps, next, Code, Answers, effective_rows, LacksMemory}
use Rattle.beam_machine.specs.Next.{steps}
use Rattle.beam_laws.proofs.Ending.{alive_is}
use Rattle.beam_laws.proofs.Refusing.{stays, steps_longer}
use Rattle.beam_state.specs.Prelude.{Parts, node}
use Rattle.beam_core.specs.Halt.{HaltsAt}
use Rattle.beam_core.proofs.Stepping.{done_steps, rows_answer}

ran_ok : (s : State) (pid n : ℕ) (p : Process) (o : Option Process) → process_of s.processes pid ≡ Some p → process_of (steps s pid n).state.processes pid ≡ o → is_ok (ran_to (steps s pid n) o).answer ≡ true
ran_ok s pid n p (Some q) e f = refl
ran_ok s pid n p None e f = absurd (stays s.processes (steps s pid n).state.processes pid p (steps_longer n s pid) e f)

pub steps_accepted : (s : State) (pid n : ℕ) (p : Process) → live_process s.processes pid ≡ Some p → is_waiting p.status ≡ false → is_ok (next s (event.Steps pid n)).answer ≡ true
steps_accepted s pid n p live runs =
    ap (λ o. is_ok (next_steps s pid n o).answer) live
    ∙ (ap (λ b. is_ok (cond {A = Next} b (refused s NotReady) (ran pid (steps s pid n))).answer) runs
    ∙ ran_ok s pid n p (process_of (steps s pid n).state.processes pid) (alive_is (process_of s.processes pid) p live).0 refl)

-- what the rows of a process that runs answer
pub rows_answered : (code : Code) (pid m count : ℕ) (after : Then) (old new : Parts) (p : Process) → live_process old.processes pid ≡ Some p → is_waiting p.status ≡ false
    → HaltsAt [] false pid m (node code old) (Ok (count, Some after)) (node code new) → Answers (node code old) (event.Steps pid m) (Ok (Ran count after)) (node code new)
rows_answered code pid m count after old new p live runs h =
    let s : State = node code old in
    let g : ℕ = effective_rows m count after in
    ap (λ o. next_steps s pid g o) live
    ∙ (ap (λ b. cond {A = Next} b (refused s NotReady) (ran pid (steps s pid g))) runs
    ∙ rows_answer s (node code new) pid g count after (done_steps g count false s (node code new) pid h.0) h.1)

-- rows that may take memory
pub steps_may : (code : Code) (pid m : ℕ) (old new : Parts) (p : Process) (a : Answer) → live_process old.processes pid ≡ Some p → is_waiting p.status ≡ false → 0 < m
    → LacksMemory (node code old) (event.Steps pid m) a (node code new)
steps_may code pid m old new p a live runs some = λ e. (positive m some, steps_accepted (node code old) pid m p live runs)
  where
    positive : (m : ℕ) → 0 < m → (m == 0) ≡ false
    positive m h = grind (arith, nat_tests)
