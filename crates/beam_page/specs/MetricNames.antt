-- The metrics of a node: their names, their kinds, and what they count. (This node's own; the name of the memory's is Prometheus'.)
use Rattle.std.specs.Prelude.{ℕ, List, codes}
use Rattle.beam_page.specs.declared.metric_name.MetricKind.{MetricKind}
use Rattle.beam_page.specs.declared.metric_name.MetricKind.TheVariants.{Counter, Gauge}
use Rattle.beam_page.specs.declared.metric_name.MetricName.{MetricName}
use Rattle.beam_page.specs.declared.metric_name.MetricName.TheVariants.{BuildInfo, Changes, ConnectionPlaces, Connections, ConnectionsAccepted, ConnectionsFailed, JournalEntries, JournalInMemory, JournalLimit, LogLinesLost, MemoryRefusals, Modules, PageRequests, Processes, ProcessesEnded, ProcessesStarted, ResidentMemory, SchedulerBusy, SchedulerRows, SchedulerSlices, Uptime}

unfoldable pub metric_name : MetricName → List ℕ
metric_name BuildInfo = codes "kanguriwe_build_info"
metric_name Uptime = codes "kanguriwe_uptime_seconds"
metric_name Processes = codes "kanguriwe_processes"
metric_name ProcessesStarted = codes "kanguriwe_processes_started_total"
metric_name ProcessesEnded = codes "kanguriwe_processes_ended_total"
metric_name Modules = codes "kanguriwe_modules"
metric_name SchedulerBusy = codes "kanguriwe_scheduler_busy_seconds_total"
metric_name SchedulerSlices = codes "kanguriwe_scheduler_slices_total"
metric_name SchedulerRows = codes "kanguriwe_scheduler_rows_total"
metric_name JournalEntries = codes "kanguriwe_journal_entries_total"
metric_name JournalInMemory = codes "kanguriwe_journal_in_memory"
metric_name JournalLimit = codes "kanguriwe_journal_limit"
metric_name Connections = codes "kanguriwe_connections"
metric_name ConnectionPlaces = codes "kanguriwe_connection_places"
metric_name ConnectionsAccepted = codes "kanguriwe_connections_accepted_total"
metric_name ConnectionsFailed = codes "kanguriwe_connections_failed_total"
metric_name Changes = codes "kanguriwe_changes_total"
metric_name MemoryRefusals = codes "kanguriwe_memory_refusals_total"
metric_name LogLinesLost = codes "kanguriwe_log_lines_lost_total"
metric_name ResidentMemory = codes "process_resident_memory_bytes"
metric_name PageRequests = codes "kanguriwe_page_requests_total"

-- what is said of it
unfoldable pub metric_help : MetricName → List ℕ
metric_help BuildInfo = codes "The version of the program."
metric_help Uptime = codes "Seconds since the node began."
metric_help Processes = codes "Processes that live, by what they do."
metric_help ProcessesStarted = codes "Processes that began."
metric_help ProcessesEnded = codes "Processes that ended."
metric_help Modules = codes "Instances of modules, by their age."
metric_help SchedulerBusy = codes "Seconds of a scheduler in slices."
metric_help SchedulerSlices = codes "Slices that a scheduler ran."
metric_help SchedulerRows = codes "Rows of code that a scheduler ran."
metric_help JournalEntries = codes "Entries of the journal, by their kind."
metric_help JournalInMemory = codes "Entries of the journal that are in memory."
metric_help JournalLimit = codes "How many entries of the journal may be in memory."
metric_help Connections = codes "Connections that are open."
metric_help ConnectionPlaces = codes "How many connections there may be at a time."
metric_help ConnectionsAccepted = codes "Connections that were accepted."
metric_help ConnectionsFailed = codes "Connections that failed."
metric_help Changes = codes "Changes of code, by their kind and result."
metric_help MemoryRefusals = codes "How often memory was refused."
metric_help LogLinesLost = codes "Lines of the log that were lost."
metric_help ResidentMemory = codes "Resident memory size in bytes."
metric_help PageRequests = codes "Requests to the page, by the status of their answers."

unfoldable pub metric_kind : MetricName → MetricKind
metric_kind BuildInfo = Gauge
metric_kind Uptime = Gauge
metric_kind Processes = Gauge
metric_kind ProcessesStarted = Counter
metric_kind ProcessesEnded = Counter
metric_kind Modules = Gauge
metric_kind SchedulerBusy = Counter
metric_kind SchedulerSlices = Counter
metric_kind SchedulerRows = Counter
metric_kind JournalEntries = Counter
metric_kind JournalInMemory = Gauge
metric_kind JournalLimit = Gauge
metric_kind Connections = Gauge
metric_kind ConnectionPlaces = Gauge
metric_kind ConnectionsAccepted = Counter
metric_kind ConnectionsFailed = Counter
metric_kind Changes = Counter
metric_kind MemoryRefusals = Counter
metric_kind LogLinesLost = Counter
metric_kind ResidentMemory = Gauge
metric_kind PageRequests = Counter

abbrev pub kind_word : MetricKind → List ℕ
kind_word Counter = codes "counter"
kind_word Gauge = codes "gauge"
