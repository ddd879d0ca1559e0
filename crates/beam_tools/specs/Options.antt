-- The command line of `beamnode`: the command, and what a line asks for.
use Rattle.std.specs.Prelude.{◌∷◌, ◌==◌, ◌&&◌, ℕ, Bool, List, [], Option, Some, None, if◌then◌else◌, codes, false, length, map, nat_le, nat_lt, option_and_then, option_map, pos, true, unwrap_or}
use Rattle.std.specs.Borrow.{Bor}
use Rattle.std.specs.Char.{digit_value}
use Rattle.std.specs.Str.{bytes_eq}
use Rattle.std.specs.List.{after_first, before_first, list_all, position_or_len}
use Rattle.std.specs.Option.{option_map_or}
use Rattle.std.specs.Str.Parse.{digits_value, without_leading_plus}
use Rattle.clap.specs.ValueTests.{is_unsigned_in}
use Rattle.clap.specs.Words.{App, Row, Rule, Text, all_of, first_of, new_app, new_rule, one_of, subcommand_of, with_rule, with_subcommand}
use Rattle.clap.specs.declared.builder.ArgAction.TheVariants.{Append, Set, SetTrue}
use Rattle.clap.specs.declared.builder.value_parser.ValueParser.TheVariants as vp
use Rattle.beam_tools.specs.Rules.{positional_rule, verbose_rule, with_version}
use Rattle.beam_tools.specs.declared.entry_range.EntryRange.{EntryRange}
use Rattle.beam_tools.specs.declared.line.Call.{Call as CallOptions}
use Rattle.beam_tools.specs.declared.line.LogLevel.{LogLevel}
use Rattle.beam_tools.specs.declared.line.LogLevel.TheVariants.{Error, Info, Warn}
use Rattle.beam_tools.specs.declared.line.HttpOptions.{HttpOptions}
use Rattle.beam_tools.specs.declared.line.Options.{Options}
use Rattle.beam_tools.specs.declared.line.Replay.{Replay as ReplayOptions}
use Rattle.beam_tools.specs.declared.line.ReplayGoal.{ReplayGoal}
use Rattle.beam_tools.specs.declared.line.ReplayGoal.TheVariants as goal
use Rattle.beam_tools.specs.declared.line.Serve.{Serve as ServeOptions}
use Rattle.beam_tools.specs.declared.line.SocketOptions.{SocketOptions}
use Rattle.beam_tools.specs.declared.line.Start.{Start}
use Rattle.beam_tools.specs.declared.line.SyncMode.{SyncMode}
use Rattle.beam_tools.specs.declared.line.SyncMode.TheVariants.{Always, No, Second}
use Rattle.beam_tools.specs.declared.line.Options.TheVariants as options
use Rattle.beam_tools.specs.declared.serve_options.Addresses.{Addresses}
use Rattle.beam_tools.specs.declared.serve_options.ServeNumbers.{ServeNumbers}

-- ---- the command

-- `--NAME VALUE`, which takes one value
abbrev pub option_rule : Text → Rule
option_rule name = record (new_rule name) { long = Some name; value_names = 1; action = Some Set }

-- `--module M`
abbrev pub module_rule : Rule
module_rule = record (option_rule (codes "module")) { required = true }

-- `--function F`
abbrev pub function_rule : Rule
function_rule = record (option_rule (codes "function")) { required = true }

-- `--args LIST`, `[]` where it is left out
abbrev pub arguments_rule : Rule
arguments_rule = record (option_rule (codes "args")) { defaults = codes "[]" ∷ [] }

-- `--steps N`, a number of 32 bits, 1,000,000 where it is left out
abbrev pub steps_rule : Rule
steps_rule = record (option_rule (codes "steps")) {
  defaults = codes "1000000" ∷ [];
  parser = Some (vp.Signed (pos 0) (pos 4294967295));
}

-- `--port P`, a number of 16 bits
abbrev pub port_rule : Rule
port_rule = record (option_rule (codes "port")) { parser = Some (vp.Signed (pos 0) (pos 65535)) }

-- `--socket PATH`
abbrev pub socket_rule : Rule
socket_rule = option_rule (codes "socket")

-- `--socket-mode MODE`, 600 where it is left out
abbrev pub socket_mode_rule : Rule
socket_mode_rule = record (option_rule (codes "socket-mode")) { defaults = codes "600" ∷ [] }

-- `--socket-clients S`, from 1 to 16, 4 where it is left out
abbrev pub socket_clients_rule : Rule
socket_clients_rule = record (option_rule (codes "socket-clients")) {
  defaults = codes "4" ∷ [];
  parser = Some (vp.Signed (pos 1) (pos 16));
}

-- `--http P`, a number of 16 bits
abbrev pub http_rule : Rule
http_rule = record (option_rule (codes "http")) { parser = Some (vp.Signed (pos 0) (pos 65535)) }

-- `--http-token FILE`
abbrev pub http_token_rule : Rule
http_token_rule = option_rule (codes "http-token")

-- `--connections K`, a number of 32 bits, 0 where it is left out
abbrev pub connections_rule : Rule
connections_rule = record (option_rule (codes "connections")) {
  defaults = codes "0" ∷ [];
  parser = Some (vp.Signed (pos 0) (pos 4294967295));
}

-- `--clients C`, from 1 to 16, 1 where it is left out
abbrev pub clients_rule : Rule
clients_rule = record (option_rule (codes "clients")) {
  defaults = codes "1" ∷ [];
  parser = Some (vp.Signed (pos 1) (pos 16));
}

-- `--schedulers N`, from 1 to 64, 2 where it is left out
abbrev pub schedulers_rule : Rule
schedulers_rule = record (option_rule (codes "schedulers")) {
  defaults = codes "2" ∷ [];
  parser = Some (vp.Signed (pos 1) (pos 64));
}

-- `--log LEVEL`, `warn` where it is left out
abbrev pub log_rule : Rule
log_rule = record (option_rule (codes "log")) { defaults = codes "warn" ∷ [] }

-- `--idle SECONDS`, a number of 32 bits, 0 where it is left out
abbrev pub idle_rule : Rule
idle_rule = record (option_rule (codes "idle")) {
  defaults = codes "0" ∷ [];
  parser = Some (vp.Signed (pos 0) (pos 4294967295));
}

-- `--stop-when-full`
abbrev pub stop_rule : Rule
stop_rule = record (new_rule (codes "stop-when-full")) { long = Some (codes "stop-when-full"); action = Some SetTrue }

-- `--journal-limit N`, from 1 to 16,777,216, which it is where it is left out
abbrev pub journal_rule : Rule
journal_rule = record (option_rule (codes "journal-limit")) {
  defaults = codes "16777216" ∷ [];
  parser = Some (vp.Signed (pos 1) (pos 16777216));
}

-- `--journal FILE`
abbrev pub journal_file_rule : Rule
journal_file_rule = option_rule (codes "journal")

-- `--sync WHEN`, `second` where it is left out
abbrev pub sync_rule : Rule
sync_rule = record (option_rule (codes "sync")) { defaults = codes "second" ∷ [] }

-- `--start M:F`
abbrev pub start_rule : Rule
start_rule = option_rule (codes "start")

-- `FILE..`, one or more
abbrev pub files_rule : Rule
files_rule = record (new_rule (codes "file")) { value_names = 1; action = Some Append; required = true }

-- `FILE..`, none or more
abbrev pub more_files_rule : Rule
more_files_rule = record (new_rule (codes "file")) { value_names = 1; action = Some Append }

abbrev pub call_app : App
call_app =
    with_rule (with_rule (with_rule (with_rule (with_rule (with_rule (new_app (codes "call")) verbose_rule) module_rule) function_rule) arguments_rule) steps_rule)
    files_rule

abbrev pub pipe_app : App
pipe_app = with_rule (new_app (codes "pipe")) verbose_rule

-- `serve`, of which these are the first options: where it listens
abbrev pub address_app : App
address_app =
    with_rule (with_rule (with_rule (with_rule (with_rule (new_app (codes "serve")) verbose_rule) port_rule) socket_rule) socket_mode_rule)
    socket_clients_rule

-- then come those about its page
abbrev pub http_app : App
http_app = with_rule (with_rule address_app http_rule) http_token_rule

-- and those about its connections and its threads
abbrev pub threads_app : App
threads_app = with_rule (with_rule (with_rule http_app connections_rule) clients_rule) schedulers_rule

-- and those about its log and its journal
abbrev pub journal_app : App
journal_app =
    with_rule (with_rule (with_rule (with_rule (with_rule (with_rule threads_app log_rule) idle_rule) stop_rule) journal_rule) journal_file_rule) sync_rule

abbrev pub serve_app : App
serve_app = with_rule (with_rule journal_app start_rule) more_files_rule

-- `--upto N`, a number of 32 bits, the greatest where it is left out
abbrev pub upto_rule : Rule
upto_rule = record (option_rule (codes "upto")) {
  defaults = codes "4294967295" ∷ [];
  parser = Some (vp.Signed (pos 0) (pos 4294967295));
}

-- `--print FROM..TO`
abbrev pub print_rule : Rule
print_rule = option_rule (codes "print")

-- `--inspect PID`, a number of 32 bits above 0
abbrev pub inspect_rule : Rule
inspect_rule = record (option_rule (codes "inspect")) { parser = Some (vp.Signed (pos 1) (pos 4294967295)) }

-- `--pipe`
abbrev pub pipe_rule : Rule
pipe_rule = record (new_rule (codes "pipe")) { long = Some (codes "pipe"); action = Some SetTrue }

abbrev pub replay_app : App
replay_app =
    with_rule (with_rule (with_rule (with_rule (with_rule (with_rule (new_app (codes "replay")) verbose_rule) upto_rule) print_rule) inspect_rule) pipe_rule)
    (positional_rule (codes "file"))

-- the command `beamnode` without its subcommands
abbrev pub top_app : App
top_app = with_rule (with_version (new_app (codes "beamnode"))) verbose_rule

-- the command `beamnode`
abbrev pub node_app : App
node_app = with_subcommand (with_subcommand (with_subcommand (with_subcommand top_app call_app.top) pipe_app.top) serve_app.top) replay_app.top

-- ---- what a line asks for

-- the arguments of `call`
pub record CallLine : Type 0 where
  pub module_name : Text
  pub function_name : Text
  pub arguments : Text
  pub steps : ℕ
  pub files : List Text

-- a function without arguments
pub record StartLine : Type 0 where
  pub module_name : Text
  pub function_name : Text

-- a Unix-domain socket: its path, the mode of its file, and how many of its connections are served at once
pub record SocketLine : Type 0 where
  pub path : Text
  pub mode : ℕ
  pub clients : ℕ

-- a page: its port, and the file of its token, if it has one
pub record HttpLine : Type 0 where
  pub port : ℕ
  pub token : Option Text

-- the arguments of `serve`: the port, if any, the socket, if any, and the page, if any; how many connections are served, 0 for no end, and how many of the
-- port at once; how many scheduler threads run; how much is logged; the seconds after which a silent session ends, 0 for never; whether the
-- node ends when its journal is full; how many entries the journal may have; the files to load; the function with which a process starts
-- then; the file that keeps the journal, and when it is put on the device
pub record ServeLine : Type 0 where
  pub port : Option ℕ
  pub socket : Option SocketLine
  pub http : Option HttpLine
  pub connections : ℕ
  pub clients : ℕ
  pub schedulers : ℕ
  pub log : LogLevel
  pub idle : ℕ
  pub stop_when_full : Bool
  pub journal_limit : ℕ
  pub files : List Text
  pub start : Option StartLine
  pub journal : Option Text
  pub sync : SyncMode

-- the arguments of `replay`: the journal's file, the number of the entry before which the replay ends, and what is done with the entries
pub record ReplayLine : Type 0 where
  pub file : Text
  pub upto : ℕ
  pub goal : ReplayGoal

pub data Line : Type 0 where
  call : CallLine → Line
  pipe : Line
  serve : ServeLine → Line
  replay : ReplayLine → Line

-- the number that a decimal text writes, if it is at most the greatest
abbrev pub number_up_to : ℕ → Text → Option ℕ
number_up_to greatest text = if is_unsigned_in 0 greatest text then Some (digits_value 10 (without_leading_plus text)) else None

-- a number of 32 bits
abbrev pub number_of : Text → Option ℕ
number_of text = number_up_to 4294967295 text

-- a number of 16 bits
abbrev pub port_of : Text → Option ℕ
port_of text = number_up_to 65535 text

-- a number of 8 bits
abbrev pub count_of : Text → Option ℕ
count_of text = number_up_to 255 text

-- a call with these parts, if each of them is there
abbrev pub call_with : Option Text → Option Text → Option Text → Option ℕ → Option (List Text) → Option Line
call_with (Some m) (Some f) (Some args) (Some n) (Some files) = Some (call (record {
  module_name = m;
  function_name = f;
  arguments = args;
  steps = n;
  files = files;
}))
call_with _ _ _ _ _ = None

-- the call in the matches of `call`
abbrev pub call_in : List Row → Option Line
call_in rows = call_with (first_of (codes "module") rows) (first_of (codes "function") rows) (first_of (codes "args") rows)
    (option_and_then number_of (one_of (codes "steps") rows)) (all_of (codes "file") rows)

-- the level of that name
abbrev pub level_of : Text → Option LogLevel
level_of text = if bytes_eq text (codes "error") then Some Error
    else (if bytes_eq text (codes "warn") then Some Warn else (if bytes_eq text (codes "info") then Some Info else None))

-- a colon
abbrev pub is_colon : ℕ → Bool
is_colon c = c == 58

abbrev pub start_with : Text → Text → Option StartLine
start_with [] function = None
start_with (c ∷ cs) [] = None
start_with (c ∷ cs) (d ∷ ds) = Some (record { module_name = c ∷ cs; function_name = d ∷ ds })

-- the names before and after the first colon, if both are there
abbrev pub start_of : Text → Option StartLine
start_of text = start_with (before_first is_colon text) (after_first is_colon text)

-- one to four octal digits
abbrev pub is_octal : Text → Bool
is_octal text = nat_lt 0 (length text) && nat_le (length text) 4 && list_all (λ c. nat_lt (digit_value c) 8) text

-- the mode that one to four octal digits write, up to 777
abbrev pub mode_of : Text → Option ℕ
mode_of text = if is_octal text && nat_le (digits_value 8 text) 511 then Some (digits_value 8 text) else None

-- where a service listens: at a port of 127.0.0.1, at a socket, or at both; and for its page
pub record AddressLines : Type 0 where
  pub port : Option ℕ
  pub socket : Option SocketLine
  pub http : Option HttpLine

-- the port, where one is given
abbrev pub port_given : Option Text → Option ℕ → Option (Option ℕ)
port_given None port = Some None
port_given (Some text) port = option_map Some port

abbrev pub port_in : List Row → Option (Option ℕ)
port_in rows = port_given (first_of (codes "port") rows) (option_and_then port_of (one_of (codes "port") rows))

abbrev pub mode_in : List Row → Option ℕ
mode_in rows = option_and_then mode_of (first_of (codes "socket-mode") rows)

-- the socket of this path, which has at most 102 bytes
abbrev pub socket_at : ℕ → ℕ → Text → Option SocketLine
socket_at mode clients path = if nat_lt 102 (length path) then None else Some (record { path = path; mode = mode; clients = clients })

-- the socket, where a path is given
abbrev pub socket_with : Option ℕ → Option ℕ → Option Text → Option (Option SocketLine)
socket_with (Some mode) (Some clients) None = Some None
socket_with (Some mode) (Some clients) (Some path) = option_map Some (socket_at mode clients path)
socket_with _ _ _ = None

abbrev pub socket_in : List Row → Option (Option SocketLine)
socket_in rows = socket_with (mode_in rows) (option_and_then count_of (one_of (codes "socket-clients") rows)) (first_of (codes "socket") rows)

-- the page, where its port is given; no token is without it
abbrev pub http_with : Option Text → Option ℕ → Option Text → Option (Option HttpLine)
http_with None port None = Some None
http_with None port (Some file) = None
http_with (Some text) port file = option_map (λ p. Some (record { port = p; token = file })) port

abbrev pub http_in : List Row → Option (Option HttpLine)
http_in rows = http_with (first_of (codes "http") rows) (option_and_then port_of (one_of (codes "http") rows)) (first_of (codes "http-token") rows)

-- the addresses of a service, of which there is at least one beside that of the page
abbrev pub addresses_with : Option (Option ℕ) → Option (Option SocketLine) → Option (Option HttpLine) → Option AddressLines
addresses_with (Some (Some port)) (Some socket) (Some http) = Some (record { port = Some port; socket = socket; http = http })
addresses_with (Some None) (Some (Some socket)) (Some http) = Some (record { port = None; socket = Some socket; http = http })
addresses_with _ _ _ = None

abbrev pub addresses_in : List Row → Option AddressLines
addresses_in rows = addresses_with (port_in rows) (socket_in rows) (http_in rows)

-- the numbers of a service, if each of them is there
abbrev pub numbers_with : Option ℕ → Option ℕ → Option ℕ → Option ℕ → Option ℕ → Option ServeNumbers
numbers_with (Some connections) (Some clients) (Some schedulers) (Some idle) (Some limit) = Some (record {
  connections = connections;
  clients = clients;
  schedulers = schedulers;
  idle = idle;
  journal_limit = limit;
})
numbers_with _ _ _ _ _ = None

abbrev pub numbers_in : List Row → Option ServeNumbers
numbers_in rows = numbers_with (option_and_then number_of (one_of (codes "connections") rows))
    (option_and_then count_of (one_of (codes "clients") rows)) (option_and_then count_of (one_of (codes "schedulers") rows))
    (option_and_then number_of (one_of (codes "idle") rows)) (option_and_then number_of (one_of (codes "journal-limit") rows))

abbrev pub log_in : List Row → Option LogLevel
log_in rows = option_and_then level_of (first_of (codes "log") rows)

abbrev pub is_stop_set : List Row → Bool
is_stop_set rows = option_map_or (λ text. bytes_eq text (codes "true")) (first_of (codes "stop-when-full") rows) false

-- the function with which a process starts, where one is asked for
abbrev pub start_given : Option Text → Option (Option StartLine)
start_given None = Some None
start_given (Some text) = option_map Some (start_of text)

abbrev pub start_in : List Row → Option (Option StartLine)
start_in rows = start_given (first_of (codes "start") rows)

-- the file that keeps the journal, where one is given; no service has one that ends when its journal is full
abbrev pub journal_given : Bool → Option Text → Option (Option Text)
journal_given stops None = Some None
journal_given false (Some name) = Some (Some name)
journal_given true (Some name) = None

abbrev pub journal_in : List Row → Option (Option Text)
journal_in rows = journal_given (is_stop_set rows) (first_of (codes "journal") rows)

-- when answers are told and the journal's file is put on the device, by its word
abbrev pub sync_of : Text → Option SyncMode
sync_of text = if bytes_eq text (codes "always") then Some Always
    else (if bytes_eq text (codes "second") then Some Second else (if bytes_eq text (codes "no") then Some No else None))

abbrev pub sync_in : List Row → Option SyncMode
sync_in rows = option_and_then sync_of (first_of (codes "sync") rows)

abbrev pub files_in : List Row → List Text
files_in rows = unwrap_or (all_of (codes "file") rows) []

-- a service with these parts, if each of them is there
abbrev pub serve_with :
    Option ServeNumbers → Option AddressLines → Option LogLevel → Option (Option StartLine) → Option (Option Text) → Option SyncMode → Bool → List Text
    → Option Line
serve_with (Some n) (Some addresses) (Some log) (Some start) (Some journal) (Some sync) stops files = Some (serve (record {
  port = addresses.port;
  socket = addresses.socket;
  http = addresses.http;
  connections = n.connections;
  clients = n.clients;
  schedulers = n.schedulers;
  log = log;
  idle = n.idle;
  stop_when_full = stops;
  journal_limit = n.journal_limit;
  files = files;
  start = start;
  journal = journal;
  sync = sync;
}))
serve_with _ _ _ _ _ _ _ _ = None

-- the service in the matches of `serve`
abbrev pub serve_in : List Row → Option Line
serve_in rows = serve_with (numbers_in rows) (addresses_in rows) (log_in rows) (start_in rows) (journal_in rows) (sync_in rows) (is_stop_set rows)
    (files_in rows)

-- a number is less than the end of a range, if there is one
abbrev pub is_before : ℕ → Option ℕ → Bool
is_before number None = true
is_before number (Some to) = nat_lt number to

-- the entry of this number is in the range
abbrev pub has_number : EntryRange → ℕ → Bool
has_number range number = nat_le range.from number && is_before number range.to

-- a full stop
abbrev pub is_dot : ℕ → Bool
is_dot c = c == 46

abbrev pub two_texts : Bor Text × Bor Text → Text × Text
two_texts parts = (parts.0.now, parts.1.now)

-- what stands before and after the first full stop, if there is one
abbrev pub split_at_dot : Text → Option (Text × Text)
split_at_dot text = if nat_lt (position_or_len is_dot text) (length text) then Some (before_first is_dot text, after_first is_dot text) else None

abbrev pub around_with : Text → Text × Text → Option (Text × Text)
around_with before ([], after) = Some (before, after)
around_with before (c ∷ cs, after) = None

-- what stands before and after two full stops, where the first full stop is followed by another one
abbrev pub around_dots : Text → Option (Text × Text)
around_dots text = option_and_then (λ parts. option_and_then (around_with parts.0) (split_at_dot parts.1)) (split_at_dot text)

-- the number at which a range begins: 0 where it is left out
abbrev pub lower_end : Text → Option ℕ
lower_end [] = Some 0
lower_end (c ∷ cs) = number_of (c ∷ cs)

-- the number before which a range ends; none where it is left out
abbrev pub upper_end : Text → Option (Option ℕ)
upper_end [] = Some None
upper_end (c ∷ cs) = option_map Some (number_of (c ∷ cs))

-- a range that begins and ends there, unless its end is less than its beginning
abbrev pub range_between : ℕ → Option ℕ → Option EntryRange
range_between from None = Some (record { from = from; to = None })
range_between from (Some to) = if nat_lt to from then None else Some (record { from = from; to = Some to })

abbrev pub range_with : Text × Text → Option EntryRange
range_with (first, last) = option_and_then (λ from. option_and_then (range_between from) (upper_end last)) (lower_end first)

-- the range that a text spells: FROM..TO, where FROM is at most TO and each of them may be left out
abbrev pub range_of : Text → Option EntryRange
range_of text = option_and_then range_with (around_dots text)

abbrev pub is_pipe_set : List Row → Bool
is_pipe_set rows = option_map_or (λ text. bytes_eq text (codes "true")) (first_of (codes "pipe") rows) false

-- the entries that are printed, where some are asked for
abbrev pub print_given : Option Text → Option (Option EntryRange)
print_given None = Some None
print_given (Some text) = option_map Some (range_of text)

abbrev pub print_in : List Row → Option (Option EntryRange)
print_in rows = print_given (first_of (codes "print") rows)

-- the process that is printed, where one is asked for
abbrev pub inspect_in : List Row → Option ℕ
inspect_in rows = option_and_then number_of (one_of (codes "inspect") rows)

-- what is done with the entries; no replay that answers commands prints entries or a process
abbrev pub goal_with : Bool → Option (Option EntryRange) → Option ℕ → Option ReplayGoal
goal_with false (Some print) inspect = Some (goal.Report print inspect)
goal_with true (Some None) None = Some goal.Pipe
goal_with _ _ _ = None

abbrev pub goal_in : List Row → Option ReplayGoal
goal_in rows = goal_with (is_pipe_set rows) (print_in rows) (inspect_in rows)

-- a replay with these parts, if each of them is there
abbrev pub replay_with : Option Text → Option ℕ → Option ReplayGoal → Option Line
replay_with (Some file) (Some upto) (Some goal) = Some (replay (record { file = file; upto = upto; goal = goal }))
replay_with _ _ _ = None

-- the replay in the matches of `replay`
abbrev pub replay_in : List Row → Option Line
replay_in rows = replay_with (first_of (codes "file") rows) (option_and_then number_of (one_of (codes "upto") rows)) (goal_in rows)

-- the line in the matches of a subcommand
abbrev pub line_in : Text × List Row → Option Line
line_in (name, rows) = if bytes_eq name (codes "call") then call_in rows
    else (if bytes_eq name (codes "pipe") then Some pipe
    else (if bytes_eq name (codes "serve") then serve_in rows else (if bytes_eq name (codes "replay") then replay_in rows else None)))

-- the line for which the words ask, if the command takes them
abbrev pub line_of : List Text → Option Line
line_of words = option_and_then line_in (subcommand_of node_app words)

-- ---- the answer, as a line

abbrev pub call_line : CallOptions → CallLine
call_line c = record {
  module_name = c.module.now;
  function_name = c.function.now;
  arguments = c.arguments.now;
  steps = c.steps;
  files = map (λ s. s.now) c.files.items;
}

abbrev pub start_line : Start → StartLine
start_line s = record { module_name = s.module.now; function_name = s.function.now }

abbrev pub socket_line : SocketOptions → SocketLine
socket_line s = record { path = s.path.now; mode = s.mode; clients = s.clients }

abbrev pub http_line : HttpOptions → HttpLine
http_line h = record { port = h.port; token = option_map (λ s. s.now) h.token }

abbrev pub address_lines : Addresses → AddressLines
address_lines a = record { port = a.port; socket = option_map socket_line a.socket; http = option_map http_line a.http }

abbrev pub serve_line : ServeOptions → ServeLine
serve_line s = record {
  port = s.port;
  socket = option_map socket_line s.socket;
  http = option_map http_line s.http;
  connections = s.connections;
  clients = s.clients;
  schedulers = s.schedulers;
  log = s.log;
  idle = s.idle;
  stop_when_full = s.stop_when_full;
  journal_limit = s.journal_limit;
  files = map (λ s. s.now) s.files.items;
  start = option_map start_line s.start;
  journal = option_map (λ s. s.now) s.journal;
  sync = s.sync;
}

abbrev pub replay_line : ReplayOptions → ReplayLine
replay_line r = record { file = r.file.now; upto = r.upto; goal = r.goal }

abbrev pub as_line : Options → Line
as_line (options.Call c) = call (call_line c)
as_line options.Pipe = pipe
as_line (options.Serve s) = serve (serve_line s)
as_line (options.Replay r) = replay (replay_line r)
