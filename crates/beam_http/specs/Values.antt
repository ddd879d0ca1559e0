-- What the values of a name are that are left.
use Rattle.std.specs.Prelude.{ℕ, List, map}
use Rattle.httparse.specs.Spans.{header_bytes}
use Rattle.beam_http.specs.declared.fields.Values.{Values}
use Rattle.beam_http.specs.declared.fields.Fields as Declared
use Rattle.beam_http.specs.Fields.{Field, values_of}

-- the fields that spans cover
abbrev pub fields_in : Declared.Fields → List Field
fields_in fields = map (header_bytes fields.bytes.now) fields.spans.now

-- the values that are left
abbrev pub values_left : Values → List (List ℕ)
values_left values = values_of values.name.now (fields_in values.fields)
