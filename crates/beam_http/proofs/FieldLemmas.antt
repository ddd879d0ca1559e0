-- The values of a name, a field at a time.
use Rattle.std.proofs.Common.{◌≡◌, ℕ, true, false, List, ◌∷◌, map, refl}
use Rattle.httparse.specs.declared.spans.HeaderSpan.{HeaderSpan}
use Rattle.httparse.specs.Spans.{header_bytes}
use Rattle.beam_http.specs.Fields.{is_named, values_of}

-- a field of the name gives the first value: by the definition
pub values_first : (name bytes : List ℕ) (spans rest : List HeaderSpan) (span : HeaderSpan) → spans ≡ span ∷ rest
    → is_named name (header_bytes bytes span) ≡ true
    → values_of name (map (header_bytes bytes) spans) ≡ (header_bytes bytes span).1 ∷ values_of name (map (header_bytes bytes) rest)
values_first name bytes spans rest span parts named = rw (parts, named) refl

-- and one of another name none
pub values_behind : (name bytes : List ℕ) (spans rest : List HeaderSpan) (span : HeaderSpan) → spans ≡ span ∷ rest
    → is_named name (header_bytes bytes span) ≡ false
    → values_of name (map (header_bytes bytes) spans) ≡ values_of name (map (header_bytes bytes) rest)
values_behind name bytes spans rest span parts named = rw (parts, named) refl
