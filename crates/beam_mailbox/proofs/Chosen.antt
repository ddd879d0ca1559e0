-- The messages that indices name.
use Rattle.std.proofs.Common.{◌≡◌, ℕ, ◌+◌, List, [], ◌∷◌, ◌++◌, length, remove, slice_index_or, sym, ap, ◌∙◌, refl, arith, map-id}
use Rattle.std.specs.List.{range_with_len}
use Rattle.std.proofs.lemmas.List.{map-append, take-map, drop-map}
use Rattle.std.proofs.lemmas.List.FromFn.{map-range_with_len_more, fill_by_all}
use Rattle.beam_term.specs.Prelude.{TermValue, nil_term}
use Rattle.beam_mailbox.specs.Chunks.{chosen}

pub range_more : (n : ℕ) → range_with_len 0 (n + 1) ≡ range_with_len 0 n ++ n ∷ []
range_more n = simp map-id at (map-range_with_len_more (λ (x : ℕ). x) 0 n n (omega arith))

pub chosen_remove : (ts : List TermValue) (is : List ℕ) (i : ℕ) → chosen ts (remove is i) ≡ remove (chosen ts is) i
chosen_remove ts is i = simp (map-append, take-map, drop-map)

pub chosen_all : (ts : List TermValue) → chosen ts (range_with_len 0 (length ts)) ≡ ts
chosen_all ts = sym (fill_by_all (λ i. slice_index_or ts i nil_term) ts (length ts) nil_term refl (λ k h. refl))

pub chosen_first : (ts rest all : List TermValue) (is : List ℕ) → is ≡ range_with_len 0 256 → length ts ≡ 256 → ts ++ rest ≡ all → chosen ts is ++ rest ≡ all
chosen_first ts rest all is named n whole =
    ap (λ l. chosen ts l ++ rest) (named ∙ ap (λ k. range_with_len 0 k) (sym n)) ∙ ap (λ l. l ++ rest) (chosen_all ts) ∙ whole
