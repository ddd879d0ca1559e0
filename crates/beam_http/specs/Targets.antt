-- The target of a request. (RFC 9112, section 3.2; RFC 3986, section 3.4)
use Rattle.std.specs.Prelude.{ℕ, List, take, ◌==◌}
use Rattle.std.specs.List.{position_or_len}

-- the part before the first `?`
abbrev pub path_of : List ℕ → List ℕ
path_of target = take (position_or_len (λ byte. byte == 63) target) target
