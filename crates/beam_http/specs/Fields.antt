-- The fields of a head by their names, which are written in any case. (RFC 9110, section 5.1)
use Rattle.std.specs.Prelude.{◌≡◌, ℕ, Bool, List, [], ◌∷◌, map, if◌then◌else◌, codes, All}
use Rattle.std.specs.Str.{str_eq_ignore_ascii_case}
use Rattle.httparse.specs.Grammar.{RequestHead}
use Rattle.httparse.specs.Spans.{name_and_value}

-- a field's name, and its value without the white space around it
abbrev pub Field : Type 0
Field = List ℕ × List ℕ

-- the fields of a head, in their order
abbrev pub fields_of : RequestHead → List Field
fields_of head = map name_and_value head.fields

-- whether a field has that name
abbrev pub is_named : List ℕ → Field → Bool
is_named name field = str_eq_ignore_ascii_case field.0 name

-- the values of the fields of that name, in their order
abbrev pub values_of : List ℕ → List Field → List (List ℕ)
values_of name [] = []
values_of name (field ∷ fields) = if is_named name field then field.1 ∷ values_of name fields else values_of name fields

-- the fields announce no body (RFC 9112, section 6)
pub record LacksBody (fields : List Field) : Type 0 where
  pub coding : values_of (codes "transfer-encoding") fields ≡ []
  pub length : All (λ value. value ≡ codes "0") (values_of (codes "content-length") fields)
