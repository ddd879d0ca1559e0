-- Matches of `serve` that make no service.
use Rattle.std.proofs.Common.{◌≡◌, ◌∙◌, ℕ, Bool, List, None, Option, Some, ap, refl, codes, option_and_then}
use Rattle.clap.specs.Words.{Row, Text, first_of, one_of}
use Rattle.beam_tools.specs.declared.line.LogLevel.{LogLevel}
use Rattle.beam_tools.specs.declared.line.SyncMode.{SyncMode}
use Rattle.beam_tools.specs.declared.serve_options.ServeNumbers.{ServeNumbers}
use Rattle.beam_tools.specs.Prelude.{AddressLines, HttpLine, SocketLine, StartLine, addresses_in, addresses_with, count_of, files_in, http_in, is_stop_set, journal_in, level_of, log_in, mode_of, numbers_in, port_in, serve_in, serve_with, socket_in, socket_with, start_in, sync_in, sync_of}

-- without addresses there is no service
no_addresses : (n : Option ServeNumbers) (log : Option LogLevel) (start : Option (Option StartLine)) (journal : Option (Option Text)) (sync : Option SyncMode)
    (stops : Bool) (files : List Text) → serve_with n None log start journal sync stops files ≡ None
no_addresses None log start journal sync stops files = refl
no_addresses (Some n) log start journal sync stops files = refl

-- rows without addresses make no service
unaddressed : (rows : List Row) → addresses_in rows ≡ None → serve_in rows ≡ None
unaddressed rows missing =
    ap (λ (addresses : Option AddressLines). serve_with (numbers_in rows) addresses (log_in rows) (start_in rows) (journal_in rows) (sync_in rows)
    (is_stop_set rows) (files_in rows)) missing
    ∙ no_addresses (numbers_in rows) (log_in rows) (start_in rows) (journal_in rows) (sync_in rows) (is_stop_set rows) (files_in rows)

-- rows whose text for the port writes none make no service
pub no_port : (rows : List Row) → port_in rows ≡ None → serve_in rows ≡ None
no_port rows missing = unaddressed rows (ap (λ (port : Option (Option ℕ)). addresses_with port (socket_in rows) (http_in rows)) missing)

without_socket : (port : Option (Option ℕ)) (http : Option (Option HttpLine)) → addresses_with port None http ≡ None
without_socket None http = refl
without_socket (Some None) http = refl
without_socket (Some (Some port)) http = refl

-- rows that don't say whether a socket is listened on make no service
no_socket : (rows : List Row) → socket_in rows ≡ None → serve_in rows ≡ None
no_socket rows missing =
    unaddressed rows (ap (λ (socket : Option (Option SocketLine)). addresses_with (port_in rows) socket (http_in rows)) missing
    ∙ without_socket (port_in rows) (http_in rows))

without_http : (port : Option (Option ℕ)) (socket : Option (Option SocketLine)) → addresses_with port socket None ≡ None
without_http None socket = refl
without_http (Some None) None = refl
without_http (Some None) (Some None) = refl
without_http (Some None) (Some (Some socket)) = refl
without_http (Some (Some port)) None = refl
without_http (Some (Some port)) (Some socket) = refl

-- rows that don't say whether there is a page make no service
pub no_http : (rows : List Row) → http_in rows ≡ None → serve_in rows ≡ None
no_http rows missing =
    unaddressed rows (ap (λ (http : Option (Option HttpLine)). addresses_with (port_in rows) (socket_in rows) http) missing
    ∙ without_http (port_in rows) (socket_in rows))

-- rows in which no mode is given make no service
pub no_mode : (rows : List Row) → first_of (codes "socket-mode") rows ≡ None → serve_in rows ≡ None
no_mode rows missing =
    no_socket rows (ap (λ text. socket_with (option_and_then mode_of text) (option_and_then count_of (one_of (codes "socket-clients") rows))
    (first_of (codes "socket") rows)) missing)

-- without the number of the connections that are served at once there is no socket
no_number : (mode : Option ℕ) (path : Option Text) → socket_with mode None path ≡ None
no_number None path = refl
no_number (Some mode) path = refl

-- rows in which that number isn't given make no service
pub no_socket_clients : (rows : List Row) → option_and_then count_of (one_of (codes "socket-clients") rows) ≡ None → serve_in rows ≡ None
no_socket_clients rows missing =
    no_socket rows (ap (λ (clients : Option ℕ). socket_with (option_and_then mode_of (first_of (codes "socket-mode") rows)) clients
    (first_of (codes "socket") rows)) missing
    ∙ no_number (option_and_then mode_of (first_of (codes "socket-mode") rows)) (first_of (codes "socket") rows))

-- without a level there is no service
no_level : (n : Option ServeNumbers) (addresses : Option AddressLines) (start : Option (Option StartLine)) (journal : Option (Option Text))
    (sync : Option SyncMode) (stops : Bool) (files : List Text) → serve_with n addresses None start journal sync stops files ≡ None
no_level None addresses start journal sync stops files = refl
no_level (Some n) None start journal sync stops files = refl
no_level (Some n) (Some addresses) start journal sync stops files = refl

-- rows in which no level is given make no service
pub no_log : (rows : List Row) → first_of (codes "log") rows ≡ None → serve_in rows ≡ None
no_log rows missing =
    ap (λ text. serve_with (numbers_in rows) (addresses_in rows) (option_and_then level_of text) (start_in rows) (journal_in rows) (sync_in rows)
    (is_stop_set rows) (files_in rows)) missing
    ∙ no_level (numbers_in rows) (addresses_in rows) (start_in rows) (journal_in rows) (sync_in rows) (is_stop_set rows) (files_in rows)

-- without a time at which the journal's file is put on the device there is no service
no_sync : (n : Option ServeNumbers) (addresses : Option AddressLines) (log : Option LogLevel) (start : Option (Option StartLine))
    (journal : Option (Option Text)) (stops : Bool) (files : List Text) → serve_with n addresses log start journal None stops files ≡ None
no_sync None addresses log start journal stops files = refl
no_sync (Some n) None log start journal stops files = refl
no_sync (Some n) (Some addresses) None start journal stops files = refl
no_sync (Some n) (Some addresses) (Some log) None journal stops files = refl
no_sync (Some n) (Some addresses) (Some log) (Some start) None stops files = refl
no_sync (Some n) (Some addresses) (Some log) (Some start) (Some journal) stops files = refl

-- rows in which no such time is given make no service
pub no_time : (rows : List Row) → first_of (codes "sync") rows ≡ None → serve_in rows ≡ None
no_time rows missing =
    ap (λ text. serve_with (numbers_in rows) (addresses_in rows) (log_in rows) (start_in rows) (journal_in rows) (option_and_then sync_of text)
    (is_stop_set rows) (files_in rows)) missing
    ∙ no_sync (numbers_in rows) (addresses_in rows) (log_in rows) (start_in rows) (journal_in rows) (is_stop_set rows) (files_in rows)
