-- What the metrics of a node tell. (This node's own.)
use Rattle.std.specs.Prelude.{ℕ, ◌+◌, ◌*◌, ◌/◌, ◌%◌, List, Option, None, Some, ◌++◌, ◌∷◌, [], codes, decimal}
use Rattle.beam_page.specs.MetricText.{Metric, Told, labelled, labelled_twice, number_label_text, seconds_text, single, value_text}
use Rattle.beam_page.specs.declared.journal.JournalFacts.{JournalFacts}
use Rattle.beam_page.specs.declared.metric.SampleValue.{SampleValue}
use Rattle.beam_page.specs.declared.metric.SampleValue.TheVariants.{Count, Micros}
use Rattle.beam_page.specs.declared.metric_name.MetricName.{MetricName}
use Rattle.beam_page.specs.declared.metric_name.MetricName.TheVariants.{BuildInfo, Changes, ConnectionPlaces, Connections, ConnectionsAccepted, ConnectionsFailed, JournalEntries, JournalInMemory, JournalLimit, LogLinesLost, MemoryRefusals, Modules, PageRequests, Processes, ProcessesEnded, ProcessesStarted, ResidentMemory, SchedulerBusy, SchedulerRows, SchedulerSlices, Uptime}
use Rattle.beam_page.specs.declared.node.ChangeCount.{ChangeCount}
use Rattle.beam_page.specs.declared.node.ChangeCounts.{ChangeCounts}
use Rattle.beam_page.specs.declared.node.ConnectionCounts.{ConnectionCounts}
use Rattle.beam_page.specs.declared.node.ModuleCounts.{ModuleCounts}
use Rattle.beam_page.specs.declared.node.NodeFacts.{NodeFacts}
use Rattle.beam_page.specs.declared.node.ProcessCounts.{ProcessCounts}
use Rattle.beam_page.specs.declared.node.RequestCounts.{RequestCounts}
use Rattle.beam_page.specs.declared.node.SchedulerFacts.{SchedulerFacts}
use Rattle.beam_page.specs.declared.scheduler_metrics.SchedulerNumber.{SchedulerNumber}
use Rattle.beam_page.specs.declared.scheduler_metrics.SchedulerNumber.TheVariants.{Busy, Rows, Slices}

abbrev pub metric : MetricName → List Told → Metric
metric name samples = record { name = name; samples = samples }

unfoldable pub head_metrics : NodeFacts → List Metric
head_metrics n =
    metric BuildInfo (labelled (codes "version") n.version.now 1 ∷ []) ∷
    single Uptime (seconds_text (n.uptime_ms / 1000) (n.uptime_ms % 1000 * 1000)) ∷ []

abbrev pub state_samples : ProcessCounts → List Told
state_samples p =
    labelled (codes "state") (codes "running") p.running ∷ labelled (codes "state") (codes "waiting") p.waiting ∷
    labelled (codes "state") (codes "held") p.held ∷ []

unfoldable pub process_metrics : ProcessCounts → List Metric
process_metrics p =
    metric Processes (state_samples p) ∷
    single ProcessesStarted (decimal p.started) ∷
    single ProcessesEnded (decimal p.ended) ∷ []

unfoldable pub module_metrics : ModuleCounts → List Metric
module_metrics m =
    metric Modules
    (labelled (codes "instance") (codes "current") m.current ∷ labelled (codes "instance") (codes "old") m.old ∷ []) ∷ []

-- a scheduler's number that a metric tells
abbrev pub scheduler_value : SchedulerNumber → SchedulerFacts → SampleValue
scheduler_value Busy s = Micros s.busy_us
scheduler_value Slices s = Count s.slices
scheduler_value Rows s = Count s.rows

-- a sample for each scheduler, the first of which has the number n
abbrev pub scheduler_samples : SchedulerNumber → ℕ → List SchedulerFacts → List Told
scheduler_samples what n [] = []
scheduler_samples what n (s ∷ ss) =
    record { labels = number_label_text (codes "scheduler") n; value = value_text (scheduler_value what s) } ∷ scheduler_samples what (n + 1) ss

unfoldable pub scheduler_metrics : List SchedulerFacts → List Metric
scheduler_metrics ss =
    metric SchedulerBusy (scheduler_samples Busy 1 ss) ∷
    metric SchedulerSlices (scheduler_samples Slices 1 ss) ∷
    metric SchedulerRows (scheduler_samples Rows 1 ss) ∷ []

abbrev pub kind_samples : JournalFacts → List Told
kind_samples j =
    labelled (codes "kind") (codes "command") j.kinds.commands ∷ labelled (codes "kind") (codes "slice") j.kinds.slices ∷
    labelled (codes "kind") (codes "delivery") j.kinds.deliveries ∷ labelled (codes "kind") (codes "moment") j.kinds.moments ∷
    labelled (codes "kind") (codes "timeout") j.kinds.timeouts ∷ []

unfoldable pub journal_metrics : JournalFacts → List Metric
journal_metrics j =
    metric JournalEntries (kind_samples j) ∷
    single JournalInMemory (decimal j.in_memory) ∷
    single JournalLimit (decimal j.limit) ∷ []

unfoldable pub connection_metrics : ConnectionCounts → List Metric
connection_metrics c =
    single Connections (decimal c.taken) ∷
    single ConnectionPlaces (decimal c.places) ∷
    single ConnectionsAccepted (decimal c.accepted) ∷
    single ConnectionsFailed (decimal c.failed) ∷ []

-- the samples of one kind of change
abbrev pub change_samples : List ℕ → ChangeCount → List Told
change_samples change c =
    labelled_twice (codes "change") change (codes "result") (codes "ok") c.ok ∷
    labelled_twice (codes "change") change (codes "result") (codes "refused") c.refused ∷ []

unfoldable pub change_metrics : ChangeCounts → List Metric
change_metrics c =
    metric Changes
    (change_samples (codes "load") c.load ++ change_samples (codes "purge") c.purge ++ change_samples (codes "soft_purge") c.soft_purge ++
    change_samples (codes "delete") c.delete ++ change_samples (codes "atomic") c.atomic) ∷ []

-- what was lacking: memory, and room for lines of the log
unfoldable pub loss_metrics : NodeFacts → List Metric
loss_metrics n =
    single MemoryRefusals (decimal n.memory_refusals) ∷
    single LogLinesLost (decimal n.log_lines_lost) ∷ []

-- nothing where it can't be read
unfoldable pub resident_metrics : Option ℕ → List Metric
resident_metrics None = []
resident_metrics (Some n) = single ResidentMemory (decimal n) ∷ []

unfoldable pub request_metrics : RequestCounts → List Metric
request_metrics r =
    metric PageRequests
    (labelled (codes "status") (codes "2xx") r.ok ∷ labelled (codes "status") (codes "4xx") r.client_errors ∷
    labelled (codes "status") (codes "5xx") r.server_errors ∷ []) ∷ []

-- what it is and runs
unfoldable pub running_metrics : NodeFacts → List Metric
running_metrics n =
    head_metrics n ++ process_metrics n.processes ++ module_metrics n.modules ++ scheduler_metrics n.schedulers.items ++
    journal_metrics n.journal

-- whom it serves, and what it lacks
unfoldable pub serving_metrics : NodeFacts → List Metric
serving_metrics n =
    connection_metrics n.connections ++ change_metrics n.changes ++ loss_metrics n ++ resident_metrics n.resident_bytes ++
    request_metrics n.requests

-- all of them, in their order
unfoldable pub node_metrics : NodeFacts → List Metric
node_metrics n = running_metrics n ++ serving_metrics n
