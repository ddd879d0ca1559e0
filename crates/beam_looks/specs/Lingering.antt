-- Who lingers in some instances. (Erlang Reference Manual, Compilation and Code Loading)
use Rattle.std.specs.Prelude.{ℕ, List, map, filter}
use Rattle.std.specs.List.{list_any}
use Rattle.beam_machine.specs.Prelude.{Process, lingers}

-- the numbers of those of these processes that linger in one of these instances
abbrev pub lingering : List ℕ → List Process → List ℕ
lingering numbers ps = map (λ p. p.pid) (filter (λ p. list_any (λ n. lingers n p) numbers) ps)
