-- A row that names no y registers.
use Rattle.std.proofs.Common.{◌≡◌, ℕ, Bool, true, false, List, [], ◌∷◌, Option, Some, None, refl, ap, ◌∙◌, ◌&&◌, is_some, option_map}
use Rattle.std.specs.List.{list_all}
use Rattle.std.proofs.lemmas.Bool.{and_right}
use Rattle.beam_model.specs.declared.instruction.Instruction.{Instruction}
use Rattle.beam_model.specs.Prelude.{bare, sized, any, is_value, is_there, put_all, tags_a_y, read_ys, written_ys, tag, frame_effect, after_effect, finds, shape_after, Shape}
use Rattle.beam_shapes.specs.Prelude.{Leaves}

pub put_none : (t : Option ℕ) (s : Shape) → put_all t [] s ≡ s
put_none t bare = refl
put_none t (sized y) = refl
put_none t any = refl

puts_none : (t : Option ℕ) (ws : List ℕ) (o : Option Shape) → ws ≡ [] → option_map (put_all t ws) o ≡ o
puts_none t [] None e = refl
puts_none t [] (Some s) e = ap Some (put_none t s)
puts_none t (n ∷ ws) o e = absurd (cc e)

found : (s : Shape) (t : Option ℕ) (rs ws : List ℕ) → rs ≡ [] → ws ≡ [] → t ≡ None
    → (list_all (is_value s) rs && list_all (is_there s) ws && tags_a_y t ws) ≡ true
found s None [] [] e f g = refl
found s None [] (n ∷ ws) e f g = absurd (cc f)
found s None (n ∷ rs) ws e f g = absurd (cc e)
found s (Some n) rs ws e f g = absurd (cc g)

untagged : (t : Option ℕ) (ws : List ℕ) → ws ≡ [] → is_some t ≡ true → tags_a_y t ws ≡ false
untagged None ws e some = absurd (cc some)
untagged (Some n) [] e some = refl
untagged (Some n) (m ∷ ws) e some = absurd (cc e)

third : (a b c d : Bool) → c ≡ false → ((a && b && c) && d) ≡ false
third true true c d e = ap (λ (x : Bool). x && d) e
third true false c d e = refl
third false b c d e = refl

pub leaves_so : (i : Instruction) (s t : Shape) → read_ys i ≡ [] → written_ys i ≡ [] → tag i ≡ None → after_effect (frame_effect i) s ≡ Some t → Leaves i s t
leaves_so i s t reads writes none is =
    (found s (tag i) (read_ys i) (written_ys i) reads writes none, puts_none (tag i) (written_ys i) (after_effect (frame_effect i) s) writes ∙ is)

pub never_tagged : (i : Instruction) (s : Shape) → written_ys i ≡ [] → is_some (tag i) ≡ true → (finds i s && is_some (shape_after i s)) ≡ false
never_tagged i s writes some =
    third (list_all (is_value s) (read_ys i)) (list_all (is_there s) (written_ys i)) (tags_a_y (tag i) (written_ys i)) (is_some (shape_after i s))
    (untagged (tag i) (written_ys i) writes some)

pub never_made : (i : Instruction) (s : Shape) → written_ys i ≡ [] → after_effect (frame_effect i) s ≡ None → (finds i s && is_some (shape_after i s)) ≡ false
never_made i s writes none = and_right (finds i s) (is_some (shape_after i s)) (ap is_some (puts_none (tag i) (written_ys i) (after_effect (frame_effect i) s) writes ∙ none))
