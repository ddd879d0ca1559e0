-- An element is inserted where the lists of the debugger have it.
use Rattle.std.proofs.Common.{◌≡◌, ℕ, ◌+◌, ◌==◌, nat_lt, Bool, true, false, cond, List, [], ◌∷◌, ◌++◌, length, drop, refl, sym, ap, ◌∙◌, append_assoc, length-append, Option, Some, None}
use Rattle.std.specs.List.{insert}
use Rattle.std.proofs.Math.Seq.{take-append_seam, drop-append_seam}
use Rattle.beam_machine.specs.Prelude.{with_pid, with_spot, comes_before}
use Rattle.beam_model.specs.Prelude.{Place, is_same_place}
use Rattle.beam_debug.specs.Prelude.{insert_position, spot_insert_position}

-- a list with an element at a position, if there is one
abbrev pub opened : {X : Type 0} → Option ℕ → X → List X → List X
opened None x xs = xs
opened (Some at) x xs = insert xs at x

inserted : {X : Type 0} (x : X) (front rest : List X) → opened (Some (length front)) x (front ++ rest) ≡ front ++ x ∷ rest
inserted x front rest =
    ap (λ xs. xs ++ x ∷ drop (length front) (front ++ rest)) (take-append_seam front rest)
    ∙ ap (λ xs. front ++ x ∷ xs) (drop-append_seam front rest)

one_longer : {X : Type 0} (x : X) (front : List X) → length (front ++ x ∷ []) ≡ length front + 1
one_longer x front = length-append front (x ∷ [])

moved : {X : Type 0} (x : X) (front rest : List X) → (front ++ x ∷ []) ++ rest ≡ front ++ x ∷ rest
moved x front rest = append_assoc front (x ∷ []) rest

pid_opened : (n : ℕ) (front ns : List ℕ) → opened (insert_position n (length front) ns) n (front ++ ns) ≡ front ++ with_pid n ns
pid_opened n front [] = inserted n front []
pid_opened n front (m ∷ rest) = at (n == m) (nat_lt n m) (pid_opened n (front ++ m ∷ []) rest)
  where
    further : opened (insert_position n (length (front ++ m ∷ [])) rest) n ((front ++ m ∷ []) ++ rest) ≡ (front ++ m ∷ []) ++ with_pid n rest
        → opened (insert_position n (length front + 1) rest) n (front ++ m ∷ rest) ≡ front ++ m ∷ with_pid n rest
    further more =
        ap (λ k. opened (insert_position n k rest) n (front ++ m ∷ rest)) (sym (one_longer m front))
        ∙ (ap (opened (insert_position n (length (front ++ m ∷ [])) rest) n) (sym (moved m front rest))
        ∙ (more ∙ moved m front (with_pid n rest)))

    at : (b c : Bool) → opened (insert_position n (length (front ++ m ∷ [])) rest) n ((front ++ m ∷ []) ++ rest) ≡ (front ++ m ∷ []) ++ with_pid n rest
        → opened (cond {A = Option ℕ} b None (cond {A = Option ℕ} c (Some (length front)) (insert_position n (length front + 1) rest))) n (front ++ m ∷ rest)
        ≡ front ++ cond {A = List ℕ} b (m ∷ rest) (cond {A = List ℕ} c (n ∷ m ∷ rest) (m ∷ with_pid n rest))
    at true c more = refl
    at false true more = inserted n front (m ∷ rest)
    at false false more = further more

pub pid_put : (n : ℕ) (ns : List ℕ) → opened (insert_position n 0 ns) n ns ≡ with_pid n ns
pid_put n ns = pid_opened n [] ns

spot_opened : (place : Place) (front spots : List Place) → opened (spot_insert_position place (length front) spots) place (front ++ spots) ≡ front ++ with_spot place spots
spot_opened place front [] = inserted place front []
spot_opened place front (spot ∷ rest) = at (is_same_place place spot) (comes_before place spot) (spot_opened place (front ++ spot ∷ []) rest)
  where
    further : opened (spot_insert_position place (length (front ++ spot ∷ [])) rest) place ((front ++ spot ∷ []) ++ rest) ≡ (front ++ spot ∷ []) ++ with_spot place rest
        → opened (spot_insert_position place (length front + 1) rest) place (front ++ spot ∷ rest) ≡ front ++ spot ∷ with_spot place rest
    further more =
        ap (λ k. opened (spot_insert_position place k rest) place (front ++ spot ∷ rest)) (sym (one_longer spot front))
        ∙ (ap (opened (spot_insert_position place (length (front ++ spot ∷ [])) rest) place) (sym (moved spot front rest))
        ∙ (more ∙ moved spot front (with_spot place rest)))

    at : (b c : Bool) → opened (spot_insert_position place (length (front ++ spot ∷ [])) rest) place ((front ++ spot ∷ []) ++ rest) ≡ (front ++ spot ∷ []) ++ with_spot place rest
        → opened (cond {A = Option ℕ} b None (cond {A = Option ℕ} c (Some (length front)) (spot_insert_position place (length front + 1) rest))) place (front ++ spot ∷ rest)
        ≡ front ++ cond {A = List Place} b (spot ∷ rest) (cond {A = List Place} c (place ∷ spot ∷ rest) (spot ∷ with_spot place rest))
    at true c more = refl
    at false true more = inserted place front (spot ∷ rest)
    at false false more = further more

pub spot_put : (place : Place) (spots : List Place) → opened (spot_insert_position place 0 spots) place spots ≡ with_spot place spots
spot_put place spots = spot_opened place [] spots
