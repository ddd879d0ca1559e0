-- Runs of events, one event at a time.
use Rattle.std.proofs.Common.{◌≡◌, List, [], ◌∷◌, ◌++◌, length, refl, sym, ap, subst, ◌∙◌, arith, append_assoc, Err, append-nil}
use Rattle.beam_model.specs.Prelude.{Listing}
use Rattle.beam_machine.specs.declared.event.Event.{Event as TheEvent}
use Rattle.beam_machine.specs.declared.event.Refused.TheVariants.{NoMemory}
use Rattle.beam_machine.specs.Prelude.{State, Answer, Next, next, Answers, Run, run, effective_events, effective_answers, effective_event, effective_answer, cut_event, after, Each}

abbrev Event : Type 0
Event = TheEvent Listing

-- a run after another
before_run : List Answer → Run → Run
before_run answers r = record { answers = answers ++ r.answers; state = r.state }

run_append : (s : State) (xs ys : List Event) → run s (xs ++ ys) ≡ before_run (run s xs).answers (run (run s xs).state ys)
unfolding before_run
run_append s [] ys = refl
run_append s (x ∷ xs) ys = ap (λ (r : Run). record { answers = (next s x).answer ∷ r.answers; state = r.state }) (run_append (next s x).state xs ys)

run_single : (s : State) (e : Event) (n : Next) → next s e ≡ n → run s (e ∷ []) ≡ record { answers = n.answer ∷ []; state = n.state }
run_single s e n h = ap (λ (n : Next). record { answers = n.answer ∷ []; state = n.state }) h

-- one event, as the list has it
run_one : (s : State) (e : Event) (a : Answer) (t : State) → Answers s e a t → run s (effective_event e a) ≡ record { answers = effective_answer a; state = t }
run_one s e (Err NoMemory) t h = ap (λ (u : State). record { answers = []; state = u }) (sym h)
run_one s e a t h = run_single s (cut_event e a) (record { answer = a; state = t }) h

cut_append : (es : List Event) (as' : List Answer) (e : Event) (a : Answer) → length as' ≡ length es → effective_events (es ++ e ∷ []) (as' ++ a ∷ []) ≡ effective_events es as' ++ effective_event e a
cut_append [] [] e a h = append-nil (effective_event e a)
cut_append [] (b ∷ bs) e a h = absurd (omega arith)
cut_append (x ∷ xs) [] e a h = absurd (omega arith)
cut_append (x ∷ xs) (b ∷ bs) e a h =
    let shorter : length bs ≡ length xs = omega arith in
    ap (λ l. effective_event x b ++ l) (cut_append xs bs e a shorter) ∙ sym (append_assoc (effective_event x b) (effective_events xs bs) (effective_event e a))

told_append : (as' : List Answer) (a : Answer) → effective_answers (as' ++ a ∷ []) ≡ effective_answers as' ++ effective_answer a
told_append [] a = append-nil (effective_answer a)
told_append (b ∷ bs) a = ap (λ l. effective_answer b ++ l) (told_append bs a) ∙ sym (append_assoc (effective_answer b) (effective_answers bs) (effective_answer a))

-- a run goes on by one event
pub run_more : (start mid new : State) (es : List Event) (as' : List Answer) (e : Event) (a : Answer) → length as' ≡ length es → run start (effective_events es as') ≡ record { answers = effective_answers as'; state = mid } → Answers mid e a new → run start (effective_events (es ++ e ∷ []) (as' ++ a ∷ [])) ≡ record { answers = effective_answers (as' ++ a ∷ []); state = new }
unfolding before_run
run_more start mid new es as' e a each so_far one =
    ap (λ l. run start l) (cut_append es as' e a each)
    ∙ (run_append start (effective_events es as') (effective_event e a)
    ∙ (ap (λ (r : Run). before_run r.answers (run r.state (effective_event e a))) so_far
    ∙ (ap (λ r. before_run (effective_answers as') r) (run_one mid e a new one)
    ∙ ap (λ l. record { answers = l; state = new }) (sym (told_append as' a)))))

-- ---- what holds of each event of a run

pub after_is : (s t : State) (e : Event) (a : Answer) → Answers s e a t → t ≡ after s e a
after_is s t e (Err NoMemory) h = h
after_is s t e a h = sym (ap (λ n. n.state) h)

state_after : (s : State) (e : Event) (a : Answer) (rest : List Event) → (run s (effective_event e a ++ rest)).state ≡ (run (after s e a) rest).state
state_after s e (Err NoMemory) rest = refl
state_after s e a rest = refl

pub each_more : (P : State → Event → Answer → State → Type 0) (s mid new : State) (es : List Event) (as' : List Answer) (e : Event) (a : Answer)
    → length as' ≡ length es → (run s (effective_events es as')).state ≡ mid → Each P s es as' → Answers mid e a new → P mid e a new → Each P s (es ++ e ∷ []) (as' ++ a ∷ [])
each_more P s mid new [] [] e a h g k answers p =
    (subst (λ t. P t e a (after t e a)) (sym g) (subst (λ t. P mid e a t) (after_is mid new e a answers) p), tt)
each_more P s mid new [] (b ∷ bs) e a h g k answers p = absurd (omega arith)
each_more P s mid new (x ∷ xs) [] e a h g k answers p = absurd (omega arith)
each_more P s mid new (x ∷ xs) (b ∷ bs) e a h g k answers p =
    let shorter : length bs ≡ length xs = omega arith in
    (k.0, each_more P (after s x b) mid new xs bs e a shorter (sym (state_after s x b (effective_events xs bs)) ∙ g) k.1 answers p)
