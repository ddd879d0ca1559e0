-- What is told of a node, as tokens of JSON.
use Rattle.std.specs.Prelude.{ℕ, ◌+◌, ◌-◌, ◌^◌, List, Option, ◌++◌, codes, min, string_bytes}
use Rattle.json.specs.Token.{Token}
use Rattle.beam_page.specs.Json.{array, count, member, object, or_null, text, truth}
use Rattle.beam_page.specs.Journals.{journal_tokens}
use Rattle.beam_page.specs.declared.node.ConnectionCounts.{ConnectionCounts}
use Rattle.beam_page.specs.declared.node.ModuleCounts.{ModuleCounts}
use Rattle.beam_page.specs.declared.node.NodeFacts.{NodeFacts}
use Rattle.beam_page.specs.declared.node.ProcessCounts.{ProcessCounts}
use Rattle.beam_page.specs.declared.node.SchedulerFacts.{SchedulerFacts}

-- how many processes live, as far as 64 bits hold it
abbrev pub live_count : ProcessCounts → ℕ
live_count p = min (p.running + p.waiting + p.held) (2 ^ 64 - 1)

unfoldable pub process_count_tokens : ProcessCounts → List Token
process_count_tokens p = object (
    member (codes "started") (count p.started) ++ member (codes "ended") (count p.ended) ++ member (codes "live") (count (live_count p)) ++
    member (codes "running") (count p.running) ++ member (codes "waiting") (count p.waiting) ++ member (codes "held") (count p.held) ++
    member (codes "counted_ms") (count p.counted_ms))

unfoldable pub module_count_tokens : ModuleCounts → List Token
module_count_tokens m = object (member (codes "current") (count m.current) ++ member (codes "old") (count m.old))

unfoldable pub scheduler_tokens : SchedulerFacts → List Token
scheduler_tokens s = object (
    member (codes "busy_us") (count s.busy_us) ++ member (codes "slices") (count s.slices) ++ member (codes "rows") (count s.rows))

unfoldable pub connection_count_tokens : ConnectionCounts → List Token
connection_count_tokens c = object (
    member (codes "places") (count c.places) ++ member (codes "taken") (count c.taken) ++ member (codes "accepted") (count c.accepted) ++
    member (codes "failed") (count c.failed))

unfoldable pub memory_member : Option ℕ → List Token
memory_member bytes = member (codes "resident_bytes") (or_null count bytes)

unfoldable pub memory_tokens : Option ℕ → List Token
memory_tokens bytes = object (memory_member bytes)

-- who the node is
unfoldable pub node_head : NodeFacts → List Token
node_head n =
    member (codes "name") (text (string_bytes n.name)) ++ member (codes "version") (text n.version.now) ++
    member (codes "address") (text (string_bytes n.address)) ++ member (codes "uptime_ms") (count n.uptime_ms) ++
    member (codes "can_stop") (truth n.can_stop)

-- what it has and did
unfoldable pub node_counts : NodeFacts → List Token
node_counts n =
    member (codes "processes") (process_count_tokens n.processes) ++ member (codes "modules") (module_count_tokens n.modules) ++
    member (codes "schedulers") (array scheduler_tokens n.schedulers.items) ++ member (codes "journal") (journal_tokens n.journal) ++
    member (codes "connections") (connection_count_tokens n.connections) ++ member (codes "memory") (memory_tokens n.resident_bytes)

unfoldable pub node_tokens : NodeFacts → List Token
node_tokens n = object (node_head n ++ node_counts n)
