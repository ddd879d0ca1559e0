-- Runs of events of a node with a debugger, one event at a time.
use Rattle.std.proofs.Common.{◌≡◌, List, [], ◌∷◌, ◌++◌, length, refl, sym, ap, subst, ◌∙◌, arith, append_assoc, Err, append-nil, map}
use Rattle.beam_model.specs.Prelude.{Listing}
use Rattle.beam_machine.specs.declared.debug.DebugEvent.{DebugEvent as TheEvent}
use Rattle.beam_machine.specs.declared.event.Refused.TheVariants.{NoMemory}
use Rattle.beam_machine.specs.Prelude.{Debugged, DebugAnswer, DebugNext, DebugRun, debug_next, debug_run, debug_cut_event, DebugAnswers, debug_after, effective_debug_event, effective_debug_answer, effective_debug_events, effective_debug_answers}
use Rattle.beam_debug.specs.Prelude.{Each}

pub map_push : {A B : Type 0} (f : A → B) (xs : List A) (x : A) → map f (xs ++ x ∷ []) ≡ map f xs ++ f x ∷ []
map_push f [] x = refl
map_push f (y ∷ xs) x = ap (λ l. f y ∷ l) (map_push f xs x)

abbrev Event : Type 0
Event = TheEvent Listing

-- a run after another
before_run : List DebugAnswer → DebugRun → DebugRun
before_run answers r = record { answers = answers ++ r.answers; state = r.state }

run_append : (d : Debugged) (xs ys : List Event) → debug_run d (xs ++ ys) ≡ before_run (debug_run d xs).answers (debug_run (debug_run d xs).state ys)
unfolding before_run
run_append d [] ys = refl
run_append d (x ∷ xs) ys = ap (λ (r : DebugRun). record { answers = (debug_next d x).answer ∷ r.answers; state = r.state }) (run_append (debug_next d x).state xs ys)

run_single : (d : Debugged) (e : Event) (n : DebugNext) → debug_next d e ≡ n → debug_run d (e ∷ []) ≡ record { answers = n.answer ∷ []; state = n.state }
run_single d e n h = ap (λ (n : DebugNext). record { answers = n.answer ∷ []; state = n.state }) h

-- one event, as the list has it
run_one : (d : Debugged) (e : Event) (a : DebugAnswer) (t : Debugged) → DebugAnswers d e a t → debug_run d (effective_debug_event e a) ≡ record { answers = effective_debug_answer a; state = t }
run_one d e (Err NoMemory) t h = ap (λ (u : Debugged). record { answers = []; state = u }) (sym h)
run_one d e a t h = run_single d (debug_cut_event e a) (record { answer = a; state = t }) h

cut_append : (es : List Event) (as' : List DebugAnswer) (e : Event) (a : DebugAnswer) → length as' ≡ length es → effective_debug_events (es ++ e ∷ []) (as' ++ a ∷ []) ≡ effective_debug_events es as' ++ effective_debug_event e a
cut_append [] [] e a h = append-nil (effective_debug_event e a)
cut_append [] (b ∷ bs) e a h = absurd (omega arith)
cut_append (x ∷ xs) [] e a h = absurd (omega arith)
cut_append (x ∷ xs) (b ∷ bs) e a h =
    let shorter : length bs ≡ length xs = omega arith in
    ap (λ l. effective_debug_event x b ++ l) (cut_append xs bs e a shorter) ∙ sym (append_assoc (effective_debug_event x b) (effective_debug_events xs bs) (effective_debug_event e a))

told_append : (as' : List DebugAnswer) (a : DebugAnswer) → effective_debug_answers (as' ++ a ∷ []) ≡ effective_debug_answers as' ++ effective_debug_answer a
told_append [] a = append-nil (effective_debug_answer a)
told_append (b ∷ bs) a = ap (λ l. effective_debug_answer b ++ l) (told_append bs a) ∙ sym (append_assoc (effective_debug_answer b) (effective_debug_answers bs) (effective_debug_answer a))

-- a run goes on by one event
pub run_more : (start mid new : Debugged) (es : List Event) (as' : List DebugAnswer) (e : Event) (a : DebugAnswer) → length as' ≡ length es
    → debug_run start (effective_debug_events es as') ≡ record { answers = effective_debug_answers as'; state = mid } → DebugAnswers mid e a new
    → debug_run start (effective_debug_events (es ++ e ∷ []) (as' ++ a ∷ [])) ≡ record { answers = effective_debug_answers (as' ++ a ∷ []); state = new }
unfolding before_run
run_more start mid new es as' e a each so_far one =
    ap (λ l. debug_run start l) (cut_append es as' e a each)
    ∙ (run_append start (effective_debug_events es as') (effective_debug_event e a)
    ∙ (ap (λ (r : DebugRun). before_run r.answers (debug_run r.state (effective_debug_event e a))) so_far
    ∙ (ap (λ r. before_run (effective_debug_answers as') r) (run_one mid e a new one)
    ∙ ap (λ l. record { answers = l; state = new }) (sym (told_append as' a)))))

-- ---- what holds of each event of a run

after_is : (d t : Debugged) (e : Event) (a : DebugAnswer) → DebugAnswers d e a t → t ≡ debug_after d e a
after_is d t e (Err NoMemory) h = h
after_is d t e a h = sym (ap (λ (n : DebugNext). n.state) h)

state_after : (d : Debugged) (e : Event) (a : DebugAnswer) (rest : List Event) → (debug_run d (effective_debug_event e a ++ rest)).state ≡ (debug_run (debug_after d e a) rest).state
state_after d e (Err NoMemory) rest = refl
state_after d e a rest = refl

pub each_more : (P : Debugged → Event → DebugAnswer → Debugged → Type 0) (d mid new : Debugged) (es : List Event) (as' : List DebugAnswer) (e : Event) (a : DebugAnswer)
    → length as' ≡ length es → (debug_run d (effective_debug_events es as')).state ≡ mid → Each P d es as' → DebugAnswers mid e a new → P mid e a new
    → Each P d (es ++ e ∷ []) (as' ++ a ∷ [])
each_more P d mid new [] [] e a h g k answers p =
    (subst (λ t. P t e a (debug_after t e a)) (sym g) (subst (λ t. P mid e a t) (after_is mid new e a answers) p), tt)
each_more P d mid new [] (b ∷ bs) e a h g k answers p = absurd (omega arith)
each_more P d mid new (x ∷ xs) [] e a h g k answers p = absurd (omega arith)
each_more P d mid new (x ∷ xs) (b ∷ bs) e a h g k answers p =
    let shorter : length bs ≡ length xs = omega arith in
    (k.0, each_more P (debug_after d x b) mid new xs bs e a shorter (sym (state_after d x b (effective_debug_events xs bs)) ∙ g) k.1 answers p)
