-- Numbers of modules that are written one after another, as a loop does.
use Rattle.std.proofs.Common.{◌≡◌, ℕ, ◌+◌, ◌<◌, List, [], ◌∷◌, ◌++◌, length, take, get_or, sym, ap, ◌∙◌}
use Rattle.std.specs.List.{flat_map}
use Rattle.std.proofs.lemmas.List.{take_more, flat_map_more}
use Rattle.beam_machine.specs.declared.event.Numbers.{Numbers}
use Rattle.beam_machine.specs.Prelude.{numbers_bytes}

pub goes_on : (list : List Numbers) (i : ℕ) (d : Numbers) (front out new : List ℕ) → i < length list → out ≡ front ++ flat_map numbers_bytes (take i list)
    → new ≡ out ++ numbers_bytes (get_or list i d) → new ≡ front ++ flat_map numbers_bytes (take (i + 1) list)
goes_on list i d front out new lt so_far one =
    let more : take (i + 1) list ≡ take i list ++ get_or list i d ∷ [] = take_more list i d lt in
    one ∙ ap (λ (bytes : List ℕ). bytes ++ numbers_bytes (get_or list i d)) so_far ∙ flat_map_more numbers_bytes front (take i list) (get_or list i d)
    ∙ ap (λ ns. front ++ flat_map numbers_bytes ns) (sym more)
