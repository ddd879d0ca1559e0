-- The forms of instructions add their functions and the instructions themselves to a body.
use Rattle.std.proofs.Common.{◌≡◌, sym, refl, subst, false, List, [], ◌∷◌, ◌++◌, length, append_assoc, append-nil, arith, ◌==◌, map}
use Rattle.beam_model.specs.declared.function.Function.{Function}
use Rattle.beam_model.specs.declared.instruction.Instruction.{Instruction}
use Rattle.beam_model.specs.declared.item.Item.{Item}
use Rattle.beam_model.specs.Prelude.{without_line_number, ListingBody, no_body}
use Rattle.beam_model.specs.declared.item.Item.TheVariants as item
use Rattle.beam_erltext.proofs.Texts.{differ}
use Rattle.beam_listing.proofs.Bodies.{Adds}
use Rattle.beam_listing.proofs.Printed.{function_before}
use Rattle.beam_listing.proofs.Items.{function_items, items_of}

abbrev with_functions : ListingBody → List Function → ListingBody
with_functions body fs = record { functions = body.functions ++ fs; instructions = body.instructions }

adds_functions : (body whole : ListingBody) (fs : List Function) (xs : List Item) → Adds (with_functions body fs) xs whole → Adds body (function_items fs ++ xs) whole
adds_functions body whole [] xs adds = subst (λ (gs : List Function). Adds (record { functions = gs; instructions = body.instructions }) xs whole) (append-nil body.functions) adds
adds_functions body whole (f ∷ fs) xs adds = (
  with_functions body (f ∷ []),
  λ left. refl,
  adds_functions (with_functions body (f ∷ [])) whole fs xs
      (subst (λ (gs : List Function). Adds (record { functions = gs; instructions = body.instructions }) xs whole) (sym (append_assoc body.functions (f ∷ []) fs)) adds),
)

abbrev with_instruction : ListingBody → Instruction → ListingBody
with_instruction body i = record { functions = body.functions; instructions = body.instructions ++ i ∷ [] }

abbrev pub IsLed : List Function → Type 0
IsLed fs = (length fs == 0) ≡ false

adds_instruction : (body whole : ListingBody) (i : Instruction) (xs : List Item) → IsLed body.functions → Adds (with_instruction body i) xs whole → Adds body (item.Instruction i ∷ xs) whole
adds_instruction body whole i xs led adds = (with_instruction body i, λ left. rw led refl, adds)

-- ---- all instructions

-- the functions whose `{function,..}` lines are printed before these instructions
abbrev pub functions_in : List Instruction → List Function
functions_in [] = []
functions_in (i ∷ rest) = function_before i rest ++ functions_in rest

-- a body with these instructions more, and with their functions
abbrev with_all : ListingBody → List Instruction → ListingBody
with_all body is = record { functions = body.functions ++ functions_in is; instructions = body.instructions ++ map without_line_number is }

still_led : (fs gs : List Function) → IsLed fs → IsLed (fs ++ gs)
still_led [] gs led = absurd cc
still_led (f ∷ fs) gs led = differ (length (f ∷ (fs ++ gs))) 0 (λ e. omega (arith, e))

with_none : (body : ListingBody) → body ≡ with_all body []
with_none body = λ k. record { functions = sym (append-nil body.functions) k; instructions = sym (append-nil body.instructions) k }

with_first : (body : ListingBody) (i : Instruction) (rest : List Instruction) → with_all (with_instruction (with_functions body (function_before i rest)) (without_line_number i)) rest ≡ with_all body (i ∷ rest)
with_first body i rest = λ k. record {
  functions = append_assoc body.functions (function_before i rest) (functions_in rest) k;
  instructions = append_assoc body.instructions (without_line_number i ∷ []) (map without_line_number rest) k;
}

adds_all : (body : ListingBody) (is : List Instruction) → IsLed body.functions → Adds body (items_of is) (with_all body is)
adds_all body [] led = with_none body
adds_all body (i ∷ rest) led =
    let fs : List Function = function_before i rest in
    let next : ListingBody = with_functions body fs in
    let one : Instruction = without_line_number i in
    let more : IsLed next.functions = still_led body.functions fs led in
    let others : Adds (with_instruction next one) (items_of rest) (with_all body (i ∷ rest)) = subst (λ (whole : ListingBody). Adds (with_instruction next one) (items_of rest) whole) (with_first body i rest) (adds_all (with_instruction next one) rest more) in
    adds_functions body (with_all body (i ∷ rest)) fs (item.Instruction one ∷ items_of rest) (adds_instruction next (with_all body (i ∷ rest)) one (items_of rest) more others)

-- a function's line stands in front of the first instruction
abbrev pub Begins : List Instruction → Type 0
Begins [] = Unit {0}
Begins (i ∷ rest) = IsLed (function_before i rest)

abbrev pub body_of : List Instruction → ListingBody
body_of is = record { functions = functions_in is; instructions = map without_line_number is }

pub adds_body : (is : List Instruction) → Begins is → Adds no_body (items_of is) (body_of is)
adds_body [] led = refl
adds_body (i ∷ rest) led =
    let fs : List Function = function_before i rest in
    let one : Instruction = without_line_number i in
    adds_functions no_body (body_of (i ∷ rest)) fs (item.Instruction one ∷ items_of rest)
    (adds_instruction (with_functions no_body fs) (body_of (i ∷ rest)) one (items_of rest) led (adds_all (with_instruction (with_functions no_body fs) one) rest led))
