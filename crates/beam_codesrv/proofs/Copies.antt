-- The entries of a copied map, and the homes of copied code.
use Rattle.std.proofs.Common.{◌≡◌, ℕ, nat_eq, List, sym, subst}
use Rattle.std.specs.List.{AllZip}
use Rattle.std.specs.Map.{lookup}
use Rattle.std.proofs.lemmas.Map.Entries.{entries_from_clone}
use Rattle.beam_model.specs.Prelude.{Listing}
use Rattle.beam_codesrv.specs.Homes.{ModuleEntry, code_of, IsIndexOf}

pub same_entries : {K V : Type 0} (es fs : List (K × V)) → AllZip (λ p q. (q.0 ≡ p.0) × (q.1 ≡ p.1)) es fs → fs ≡ es
same_entries = entries_from_clone (λ x y. y ≡ x) (λ x y. y ≡ x) (λ x y e. e) (λ x y e. e)

pub copied_stands : (homes copies : List (ℕ × Listing)) (modules others : List ModuleEntry) → copies ≡ homes → others ≡ modules
    → IsIndexOf (λ n. lookup (nat_eq n) homes) (code_of modules) → IsIndexOf (λ n. lookup (nat_eq n) copies) (code_of others)
copied_stands homes copies modules others same again stands =
    subst (λ ms. IsIndexOf (λ n. lookup (nat_eq n) copies) (code_of ms)) (sym again)
    (subst (λ hs. IsIndexOf (λ n. lookup (nat_eq n) hs) (code_of modules)) (sym same) stands)
