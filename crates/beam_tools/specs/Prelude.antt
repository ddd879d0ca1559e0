-- The definitions of this crate that specs and proofs above cite, passed on from one place. Declares nothing.
pub use Rattle.beam_tools.specs.Assembler.{IsReportedBeside, NameSays, as_app}
pub use Rattle.beam_tools.specs.Call.{AreFilesOf, ComesTo, HasExit, IsFileOf, Loads}
pub use Rattle.beam_tools.specs.Dis.{IsListingTextOf, dis_app}
pub use Rattle.beam_tools.specs.Fault.{status_of}
pub use Rattle.beam_tools.specs.Files.{Contents}
pub use Rattle.beam_tools.specs.Job.{IfDone, IfLeft, IsOfPort, IsService, StartingSays}
pub use Rattle.beam_tools.specs.Lines.{CallIsWrong, IsAnswer, IsNoLine, LineFault, NamesStop, OptionsStop, ReplayStops, ServeStops, StopSays, StopsBy, WrongSays}
pub use Rattle.beam_tools.specs.Names.{newline, refusal_name, session_name}
pub use Rattle.beam_tools.specs.Node.{CallSays, EntrySays, IsValueLine, OutcomeSays, RunSays, TellsNoEnd, value_line}
pub use Rattle.beam_tools.specs.Options.{AddressLines, CallLine, HttpLine, Line, SocketLine, StartLine, addresses_in, addresses_with, call, call_in, call_line, count_of, files_in, http_in, http_with, is_octal, is_stop_set, journal_in, level_of, line_in, line_of, log_in, mode_in, mode_of, node_app, number_of, number_up_to, numbers_in, port_in, port_of, replay_in, serve_in, serve_with, socket_in, socket_with, start_in, sync_in, sync_of}
pub use Rattle.beam_tools.specs.Output.{Leaves}
pub use Rattle.beam_tools.specs.Place.{after_mark, byte_text, up_to}
unfoldable pub use Rattle.beam_tools.specs.Place.{after_lines}
pub use Rattle.beam_tools.specs.Program.{help_of}
pub use Rattle.beam_tools.specs.Report.{report_text}
pub use Rattle.beam_tools.specs.Rounds.{IsWhole, onward, onward_of, outcome_by, rows_of, wake}
unfoldable pub use Rattle.beam_tools.specs.Rounds.{outcome_within, woken}
pub use Rattle.beam_tools.specs.Rules.{app_by, rule_by, subcommand_app, with_rows, with_subcommands}
pub use Rattle.beam_tools.specs.Unloaded.{IsFirstUnloaded, IsNotLoaded}
