-- The forms of JSON in which facts are told, as tokens.
use Rattle.std.specs.Prelude.{◌≡◌, ℕ, List, Option, None, Some, Result, Bool, ◌++◌, ◌∷◌, [], OnOk, decimal}
use Rattle.std.specs.List.{flat_map}
use Rattle.json.specs.Token.{Token, begin_object, end_object, begin_array, end_array, key, string, number, boolean, null}
use Rattle.json.specs.Written.{Written}

-- these tokens were appended, unless memory was lacking
abbrev pub Appends : {E : Type 0} → Result (Unit {0}) E → Written → Written → List Token → Type 0
Appends r old new tokens = OnOk r ((new.tokens ≡ old.tokens ++ tokens) × (new.before ≡ old.before))

abbrev pub text : List ℕ → List Token
text s = string s ∷ []

abbrev pub count : ℕ → List Token
count n = number (decimal n) ∷ []

abbrev pub truth : Bool → List Token
truth b = boolean b ∷ []

-- the value, or null where there is none
abbrev pub or_null : {A : Type 0} → (A → List Token) → Option A → List Token
or_null value None = null ∷ []
or_null value (Some x) = value x

unfoldable pub member : List ℕ → List Token → List Token
member name value = key name ∷ [] ++ value

abbrev pub object : List Token → List Token
object members = begin_object ∷ [] ++ members ++ end_object ∷ []

abbrev pub array : {A : Type 0} → (A → List Token) → List A → List Token
array value xs = begin_array ∷ [] ++ flat_map value xs ++ end_array ∷ []
