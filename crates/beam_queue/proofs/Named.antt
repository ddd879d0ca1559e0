-- The index of an element is the length of the list before it.
use Rattle.std.proofs.Common.{◌≡◌, ℕ, ◌+◌, List, [], ◌∷◌, ◌++◌, length, map, Some, refl, ap, sym, ◌∙◌, arith, slice_get}
use Rattle.std.proofs.lemmas.List.{map-append, length-map, length_push}
use Rattle.std.proofs.lemmas.List.FromFn.{length-range_with_len, map-range_with_len_more}
use Rattle.std.specs.List.{range_with_len}
use Rattle.beam_queue.specs.Prelude.{RunQueue, new_run_queue}

at_end : {X : Type 0} (xs rest : List X) (x : X) → slice_get (xs ++ x ∷ rest) (length xs) ≡ Some x
at_end [] rest x = refl
at_end (y ∷ xs) rest x = at_end xs rest x

pub named_at : {X Y : Type 0} (f : X → Y) (xs ys vs : List X) (x : X) (all : List Y) (n : ℕ) → xs ++ x ∷ ys ≡ vs → map f vs ≡ all → n ≡ length xs → slice_get all n ≡ Some (f x)
named_at f xs ys vs x all n is names at =
    ap (λ l. slice_get l n) (sym names ∙ ap (map f) (sym is) ∙ map-append f xs (x ∷ ys))
    ∙ (ap (λ k. slice_get (map f xs ++ (f x ∷ map f ys)) k) (at ∙ sym (length-map xs f)) ∙ at_end (map f xs) (map f ys) (f x))

-- one run queue more
pub one_run_queue : {X : Type 0} (run_queues new : List RunQueue) (before : List X) (x : X) (run_queue : RunQueue) (n : ℕ) → run_queues ≡ map new_run_queue (range_with_len 0 (length before)) → n ≡ length before
    → run_queue ≡ new_run_queue n → new ≡ run_queues ++ run_queue ∷ [] → new ≡ map new_run_queue (range_with_len 0 (length (before ++ x ∷ [])))
one_run_queue run_queues new before x run_queue n old at is grown =
    let more : map new_run_queue (range_with_len 0 (length before + 1)) ≡ map new_run_queue (range_with_len 0 (length before)) ++ new_run_queue (length before) ∷ [] =
    map-range_with_len_more new_run_queue 0 (length before) (length before) (omega arith) in
    grown ∙ (ap (λ (ls : List RunQueue). ls ++ run_queue ∷ []) old ∙ (ap (λ (l : RunQueue). map new_run_queue (range_with_len 0 (length before)) ++ l ∷ []) (is ∙ ap new_run_queue at)
    ∙ (sym more ∙ ap (λ k. map new_run_queue (range_with_len 0 k)) (sym (length_push before x)))))

pub equal_lengths : {X : Type 0} (run_queues : List RunQueue) (before : List X) → run_queues ≡ map new_run_queue (range_with_len 0 (length before)) → length run_queues ≡ length before
equal_lengths run_queues before is = ap length is ∙ (length-map (range_with_len 0 (length before)) new_run_queue ∙ length-range_with_len 0 (length before))
