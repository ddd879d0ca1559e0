-- A listing with catch tags that can be loaded: shapes for its rows, position by position.
use Rattle.std.proofs.Common.{◌≡◌, ℕ, suc, zero, ◌≤◌, ◌&&◌, ◌⊎◌, inl, inr, Bool, true, List, [], ◌∷◌, take, drop, refl, sym, subst, arith, Option, Some, None, slice_get, option_and_then, codes}
use Rattle.std.proofs.lemmas.Bool.{and_parts, cases_eq}
use Rattle.std.proofs.lemmas.List.Elements.{All-nil, All-cons}
use Rattle.std.specs.List.{AllByRecursion, All}
use Rattle.beam_model.specs.declared.function.Function.{Function}
use Rattle.beam_model.specs.declared.instruction.Instruction.{Instruction}
use Rattle.beam_model.specs.Prelude.{bare, sized, Assignment, fits_at, IsLine, IsInBody, IsFunction, AreFunctions, IsWellFormed, CanLoad, Shape}
use Rattle.beam_laws.specs.Prelude.{e}

-- ---- shapes

-- one y register
abbrev one : Option ℕ → Option Shape
one tag = Some (sized (tag ∷ []))

-- the shape before each row; None before labels, and before rows that are never reached
abbrev each : List (Option Shape)
each =
    None ∷ None ∷ None
    ∷ Some bare ∷ one None ∷ one (Some 3) ∷ one (Some 3)
    ∷ None ∷ one (Some 3) ∷ one None ∷ Some bare
    ∷ None ∷ None ∷ None
    ∷ Some bare ∷ one None ∷ one (Some 6) ∷ one (Some 6)
    ∷ None ∷ one (Some 6) ∷ one None
    ∷ []

abbrev shapes : Assignment
shapes at = option_and_then (λ shape. shape) (slice_get each at)

-- each position up to this one passes
abbrev all_to : (ℕ → Bool) → ℕ → Bool
all_to test zero = test zero
all_to test (suc n) = test (suc n) && all_to test n

passes : (test : ℕ → Bool) (n : ℕ) → all_to test n ≡ true → (at : ℕ) → at ≤ n → test at ≡ true
passes test zero h at below = subst (λ at. test at ≡ true) (omega (arith, below)) h
passes test (suc n) h at below = go (passes test n) (cases_eq at (suc n))
  where
    both : (test (suc n) ≡ true) × (all_to test n ≡ true)
    both = and_parts (test (suc n)) (all_to test n) h

    go : (all_to test n ≡ true → (at : ℕ) → at ≤ n → test at ≡ true) → (at ≡ suc n) ⊎ (at ≡ suc n → ⊥) → test at ≡ true
    go lower (inl e) = subst (λ at. test at ≡ true) (sym e) both.0
    go lower (inr other) = lower both.1 at (omega (arith, below, other))

-- ---- functions

abbrev functions : List Function
functions = record { name = codes "c"; arity = 0; entry = 2 } ∷ record { name = codes "t"; arity = 0; entry = 5 } ∷ []

-- the instructions of a body, one after another
body_is : (code : List Instruction) → AllByRecursion IsInBody code → All IsInBody code
body_is [] h = All-nil IsInBody
body_is (i ∷ code) h = All-cons IsInBody i code h.0 (body_is code h.1)

-- the bodies of c and t
c_body : AllByRecursion IsInBody (take 8 (drop 3 e.instructions))
c_body = ((λ q. cc, λ q. cc), ((λ q. cc, λ q. cc), ((λ q. cc, λ q. cc), ((λ q. cc, λ q. cc), ((λ q. cc, λ q. cc), ((λ q. cc, λ q. cc), ((λ q. cc, λ q. cc), ((λ q. cc, λ q. cc), tt))))))))

t_body : AllByRecursion IsInBody (drop 14 e.instructions)
t_body = ((λ q. cc, λ q. cc), ((λ q. cc, λ q. cc), ((λ q. cc, λ q. cc), ((λ q. cc, λ q. cc), ((λ q. cc, λ q. cc), ((λ q. cc, λ q. cc), ((λ q. cc, λ q. cc), tt)))))))

c_part : IsFunction (codes "e") (record { name = codes "c"; arity = 0; entry = 2 }) (take 11 e.instructions)
c_part = record { first = 1; lines = []; body = take 8 (drop 3 e.instructions); parts = refl; are_lines = All-nil IsLine; is_body = body_is (take 8 (drop 3 e.instructions)) c_body }

t_part : IsFunction (codes "e") (record { name = codes "t"; arity = 0; entry = 5 }) (drop 11 e.instructions)
t_part = record { first = 4; lines = []; body = drop 14 e.instructions; parts = refl; are_lines = All-nil IsLine; is_body = body_is (drop 14 e.instructions) t_body }

are_functions : AreFunctions (codes "e") functions e.instructions
are_functions = (take 11 e.instructions, drop 11 e.instructions, refl, c_part, (drop 11 e.instructions, [], refl, t_part, refl))

well_formed : IsWellFormed e
well_formed = record {
  labels = refl;
  functions = functions;
  are_functions = are_functions;
  count = refl;
  distinct = refl;
  entries = refl;
  exports = refl;
  natives = refl;
  limits = refl;
  framed = record { shapes = shapes; begin = refl; fit = λ at below. passes (fits_at shapes e.instructions) 21 refl at below };
}

pub can_load : CanLoad e
can_load = ∣ well_formed ∣₁
