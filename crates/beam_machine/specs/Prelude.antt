-- The definitions of this crate that specs and proofs above cite, passed on from one place. Declares nothing.
pub use Rattle.beam_machine.specs.Action.{action_by, action_of, all_by, atom_in, before, bif0, call_ext_last, call_last, catch', choice, choices_in, clear, computes_0, computes_1, computes_2, external_call, from_to, get_element, get_list, given, illegal_action, import_in, label_in, list_in, local_call, number_in, of_one, of_two, on_fault, peek, put_list, put_tuple, raise_again, raise_clause, reads, reads_both, register_by, register_in, select_size, select_value, size_choices_in, source_by, source_in, step_at, swap, target_of, test_of_comparison, test_of_size, test_of_tag, test_of_type, to_label, update, update_record, updates_in, wait_timeout, with_number, with_numbers, with_register}
pub use Rattle.beam_machine.specs.Callee.{callee_of, erlang_callee, node_callee, process_callee}
unfoldable pub use Rattle.beam_machine.specs.Callee.{callee_named}
pub use Rattle.beam_machine.specs.Change.{AreHome, IsHome, changed, current_of, deleted, ends_or_hears, goes_in, has_instance, has_tag_in, is_deadline_in, is_frame_in, is_in, is_live, is_place_in, is_tag_in, killing, lingers, lingers_at, lingers_in_old, lingers_in_olds, loaded, old_of, pids_of, purged, with_versions}
pub use Rattle.beam_machine.specs.Code.{Code, Instance, Versions, entry_in, listing_in, listing_of, versions_of}
unfoldable pub use Rattle.beam_machine.specs.Code.{entry_of, step_of}
pub use Rattle.beam_machine.specs.Constants.{IsIndexOf, are_constants, first_of, found_in}
pub use Rattle.beam_machine.specs.Debug.{DebugAnswer, DebugNext, DebugRun, Debugged, Halting, after_rows, and_one, answered, comes_before, debug_clear, debug_inspect, debug_next, debug_resume, debug_run, debug_set, debug_step_one, debug_steps, erase, erased, halted, halting, halts, halts_or, held_at, instance_of_version, is_among, is_at_spot, is_live_process, is_spot, no_rows, of_node, passes_on, place_named, pruned, refuses, replies, row_in, rows_after, rows_of_answer, stepped, steps_of, steps_one, undisturbed, with_pid, with_spot, without_pid, without_spot}
pub use Rattle.beam_machine.specs.DebugRun.{DebugAnswers, DebugLacksMemory, debug_after, debug_cut_event, effective_debug_answer, effective_debug_answers, effective_debug_event, effective_debug_events, is_quiet_debug_event}
pub use Rattle.beam_machine.specs.Frames.{AreFiles, Command, FirstFrame, IsNumber, SpellsCommand, Stream, after_number, at_fault, atomic_load, atomic_load_in, bad_frame, between_frames, clear_break, command_in, command_of, command_or_fault, delete, deliver, empty_stream, event_of, fault_frame, fields_in, fields_of, file_before, frame_content, frame_of, inside_frame, inspect, load, load_strict, longest_frame, mode_number, mode_of, names_process, no_files, no_frame, number_of_fault, numbers_bytes, of_kind, one_file, one_frame, only_term, purge, reply_body, response_of, resume, send, send_of, set_break, soft_purge, spawn, spawn_of, spawned, spot_at, spot_of, spot_term, step_one, steps_in, stream_by, stream_end, stream_of, term_read, timeout, version_of, version_text, versions, with_command}
unfoldable pub use Rattle.beam_machine.specs.Frames.{after_length, atom_in_body, files_in, frame_in, kind_of, number_in_body, stream_within, term_in}
pub use Rattle.beam_machine.specs.Journal.{Entry, IsLawful, SentEvent, replay, sent_event_of}
pub use Rattle.beam_machine.specs.Next.{Answer, Next, Rows, are_apart, arrived, continues, deadline_at, delivered, done_by, down_term, end_old, end_olds, goes_on_with, has_instances_left, is_lingered_in, is_nothing, load_each, load_new, made_process, next, next_atomic, next_delete, next_deliver, next_load, next_load_strict, next_purge, next_send, next_soft_purge, next_spawn, next_steps, next_timeout, notified, numbers_of, one_more, purge_old, put_process, raised, ran, ran_to, received, refused, replied, row, row_and, running, sent_to, signalled, stands_in_way, timed_out, upgraded}
pub use Rattle.beam_machine.specs.NodeNative.{Answered, answer, answer_of, fault, is_alive, is_free, makes_reference, monitored, monitors_by, most_processes, most_references, names, or_noproc, pid_or_undefined, posted_if_own, put_monitor, registers, sends_named, spawns, spawns_with, unnames, unregisters, with_new_monitor}
pub use Rattle.beam_machine.specs.Private.{End, Private, Sent, after_row, at_limit, at_spot, before_node_row, private_by, private_rows, private_to_spot, stops, with_first_row, with_first_sending}
pub use Rattle.beam_machine.specs.Process.{Process, bared, dropped, ended, in_front, is_ended, is_running, is_waiting, killed, monitor_of, normal, own_pid, own_reference, put, put_slots, put_x, put_y, read, read_all, read_slots, read_x, read_y, started, then_of, value_in, with_slots, with_y, without_monitor, without_slots, words_in, words_of, written_x}
pub use Rattle.beam_machine.specs.Quiet.{Each, IsLoud, LacksMemory, StopsLoudly, ends_monitored, is_calm, is_monitored, is_quiet, is_quiet_action, is_quiet_at, is_quiet_control, is_quiet_message, is_quiet_stack, is_quiet_step, is_upgrade}
pub use Rattle.beam_machine.specs.Ready.{due_at, due_of, first_ready, is_ready, next_deadline, ready_after, sooner}
pub use Rattle.beam_machine.specs.Refusal.{number_of_refusal}
pub use Rattle.beam_machine.specs.Row.{Duration, Outcome, after_dropping, allocates_in, answers, answers_true, applies, arguments_from, arguments_of, asks, callee_at, calls, calls_only, catch_rows, catches, caught_at, changed_by, changes, chosen, cleared, computes, controls, decides, demonitored, demonitors, duration_of, enters, exits, fails, faults, finds_message, flush_in, flushed_if, follows, forever, goes_on, goes_to, handles, has_size, held_in, illegal, is_of_reference, is_tagged, is_this_atom, is_this_term, makes, message_rows, milliseconds, moves, opens, outcome, outcome_at, own_number, peeks, perform, performs, pushes, put_element, put_elements, raises, raises_again, raises_raw, returns, returns_from, returns_to, selects, selects_size, sends, sends_own, sends_to, size_chosen, sleeps, sleeps_at, sleeps_for, splits, stacks, stores, stores_computed, stores_made, stores_second, stores_tuple, stores_two, tag_in, tag_of, tags, tests, traced, trims_in, trims_newest, unwound, updates_record, waits, waits_for, waits_for_message, waits_with, with_message_at, with_new_frame, with_one, with_two}
pub use Rattle.beam_machine.specs.Run.{Answers, Run, after, cut_event, effective_answer, effective_answers, effective_event, effective_events, effective_rows, run}
pub use Rattle.beam_machine.specs.State.{State, alive, downs, empty, has_name, hearing_by, live_process, monitors_process, posted, posted_to, process_of, receiver_of, registered, with_made, with_process, with_signals}
pub use Rattle.beam_machine.specs.Touch.{Touch, Touches, arrives, code, deletes, ends, in_turn, loads, nothing, posts, process, purges, runs, starts, stays, ticks, times_out, touch_of}
pub use Rattle.beam_machine.specs.View.{FrameView, LastLabel, LiveView, Location, NextView, View, at_row, back_text, counts_text, entry, frame_view, frames_text, function_of, instruction_in, instructions_of, label_or_row, last_function, last_label, later, live, location, location_in, next_of, next_text, nowhere, over, register_text, slot_text, slots_of, status_text, view_of, view_text, xs_text, ys_text}
