-- Why a command line gives nothing to do, from the command's error.
use Rattle.std.proofs.Common.{◌≡◌, ◌∙◌, ◌⊎◌, ap, codes, inl, inr, sym, subst, List, Option, Some, Err, IfOk, Ok, OnOk, Result, option_and_then}
use Rattle.clap.specs.Words.{App, IsAmong, Row, Text, fault_of, matches_of, subcommand_of}
use Rattle.clap.specs.declared.error.kind.ErrorKind.{ErrorKind}
use Rattle.clap.specs.declared.error.kind.ErrorKind.TheVariants as kind
use Rattle.beam_tools.specs.Prelude.{IsNoLine, NamesStop, OptionsStop, ReplayStops, ServeStops, StopSays, StopsBy, call_in, line_in, node_app}
use Rattle.beam_tools.specs.declared.early_exit.EarlyExit.{EarlyExit}
use Rattle.beam_tools.specs.declared.early_exit.EarlyExit.TheVariants as stop
use Rattle.beam_tools.specs.declared.early_exit.Wrong.TheVariants as wrong

-- an error other than an allocation failure has a kind that is possible for the words
among : (app : App) (words : List Text) (k wanted : ErrorKind) → (wanted ≡ kind.OutOfMemory → ⊥) → k ≡ wanted
    → (k ≡ kind.OutOfMemory) ⊎ IsAmong k (fault_of app words) → IsAmong wanted (fault_of app words)
among app words k wanted other is (inl memory) = absurd (other (sym is ∙ memory))
among app words k wanted other is (inr h) = subst (λ (x : ErrorKind). IsAmong x (fault_of app words)) is h

refused : (app : App) (words : List Text) (k : ErrorKind) → (k ≡ kind.OutOfMemory → ⊥)
    → (k ≡ kind.OutOfMemory) ⊎ IsAmong k (fault_of app words) → IsAmong k (fault_of app words)
refused app words k other (inl memory) = absurd (other memory)
refused app words k other (inr h) = h

-- what an error was turned into holds of the words, if the words can give errors of that kind
pub stop_said : (app : App) (words : List Text) (k : ErrorKind) (s : EarlyExit) → (k ≡ kind.OutOfMemory) ⊎ IsAmong k (fault_of app words)
    → StopsBy k s → StopSays app words s
stop_said app words k stop.Help h is = among app words k kind.DisplayHelp (λ e. cc) is h
stop_said app words k stop.Version h is = among app words k kind.DisplayVersion (λ e. cc) is h
stop_said app words k (stop.Wrong (wrong.Words text)) h is = (k, refused app words k is.0 h, is.1, is.2)
stop_said app words k (stop.Wrong wrong.NoText) h is = absurd is
stop_said app words k (stop.Wrong wrong.NoCommand) h is = absurd is
stop_said app words k (stop.Wrong wrong.NoFile) h is = absurd is
stop_said app words k (stop.Wrong (wrong.Same name)) h is = absurd is
stop_said app words k (stop.Wrong (wrong.LongModule name)) h is = absurd is
stop_said app words k (stop.Wrong (wrong.LongFunction name)) h is = absurd is
stop_said app words k (stop.Wrong (wrong.NoList text)) h is = absurd is
stop_said app words k (stop.Wrong (wrong.NoLevel text)) h is = absurd is
stop_said app words k (stop.Wrong (wrong.NoStart text)) h is = absurd is
stop_said app words k (stop.Wrong (wrong.NoSync text)) h is = absurd is
stop_said app words k (stop.Wrong wrong.StopsWithJournal) h is = absurd is
stop_said app words k (stop.Wrong (wrong.NoMode text)) h is = absurd is
stop_said app words k (stop.Wrong (wrong.LongSocket path)) h is = absurd is
stop_said app words k (stop.Wrong wrong.NoAddress) h is = absurd is
stop_said app words k (stop.Wrong wrong.TokenAlone) h is = absurd is
stop_said app words k (stop.Wrong (wrong.NoRange text)) h is = absurd is
stop_said app words k (stop.Wrong wrong.PipesAndPrints) h is = absurd is
stop_said app words k stop.NoMemory h is = tt

-- `call` was entered with matches that make no line
pub call_stops : (entered : Option (Text × List Row)) (rows : List Row) (s : EarlyExit) → entered ≡ Some (codes "call", rows) → IsNoLine (call_in rows) s
    → OptionsStop entered s
call_stops entered rows stop.Help is h = absurd h
call_stops entered rows stop.Version is h = absurd h
call_stops entered rows stop.NoMemory is h = tt
call_stops entered rows (stop.Wrong wrong.NoCommand) is h = ap (option_and_then line_in) is ∙ h
call_stops entered rows (stop.Wrong (wrong.NoLevel text)) is h = absurd h
call_stops entered rows (stop.Wrong (wrong.NoStart text)) is h = absurd h
call_stops entered rows (stop.Wrong (wrong.NoSync text)) is h = absurd h
call_stops entered rows (stop.Wrong wrong.StopsWithJournal) is h = absurd h
call_stops entered rows (stop.Wrong (wrong.NoMode text)) is h = absurd h
call_stops entered rows (stop.Wrong (wrong.LongSocket path)) is h = absurd h
call_stops entered rows (stop.Wrong wrong.NoAddress) is h = absurd h
call_stops entered rows (stop.Wrong wrong.TokenAlone) is h = absurd h
call_stops entered rows (stop.Wrong (wrong.NoRange text)) is h = absurd h
call_stops entered rows (stop.Wrong wrong.PipesAndPrints) is h = absurd h
call_stops entered rows (stop.Wrong (wrong.Words text)) is h = absurd h
call_stops entered rows (stop.Wrong wrong.NoText) is h = absurd h
call_stops entered rows (stop.Wrong wrong.NoFile) is h = absurd h
call_stops entered rows (stop.Wrong (wrong.Same name)) is h = absurd h
call_stops entered rows (stop.Wrong (wrong.LongModule name)) is h = absurd h
call_stops entered rows (stop.Wrong (wrong.LongFunction name)) is h = absurd h
call_stops entered rows (stop.Wrong (wrong.NoList text)) is h = absurd h

-- `serve` was entered with matches that make no line
pub serve_stops : (entered : Option (Text × List Row)) (rows : List Row) (s : EarlyExit) → entered ≡ Some (codes "serve", rows) → ServeStops rows s
    → OptionsStop entered s
serve_stops entered rows stop.Help is h = absurd h
serve_stops entered rows stop.Version is h = absurd h
serve_stops entered rows stop.NoMemory is h = tt
serve_stops entered rows (stop.Wrong wrong.NoCommand) is h = ap (option_and_then line_in) is ∙ h
serve_stops entered rows (stop.Wrong (wrong.NoLevel text)) is h = (rows, is, h)
serve_stops entered rows (stop.Wrong (wrong.NoStart text)) is h = (rows, is, h)
serve_stops entered rows (stop.Wrong (wrong.NoSync text)) is h = (rows, is, h)
serve_stops entered rows (stop.Wrong wrong.StopsWithJournal) is h = (rows, is, h)
serve_stops entered rows (stop.Wrong (wrong.NoMode text)) is h = (rows, is, h)
serve_stops entered rows (stop.Wrong (wrong.LongSocket path)) is h = (rows, is, h)
serve_stops entered rows (stop.Wrong wrong.NoAddress) is h = (rows, is, h)
serve_stops entered rows (stop.Wrong wrong.TokenAlone) is h = (rows, is, h)
serve_stops entered rows (stop.Wrong (wrong.NoRange text)) is h = absurd h
serve_stops entered rows (stop.Wrong wrong.PipesAndPrints) is h = absurd h
serve_stops entered rows (stop.Wrong (wrong.Words text)) is h = absurd h
serve_stops entered rows (stop.Wrong wrong.NoText) is h = absurd h
serve_stops entered rows (stop.Wrong wrong.NoFile) is h = absurd h
serve_stops entered rows (stop.Wrong (wrong.Same name)) is h = absurd h
serve_stops entered rows (stop.Wrong (wrong.LongModule name)) is h = absurd h
serve_stops entered rows (stop.Wrong (wrong.LongFunction name)) is h = absurd h
serve_stops entered rows (stop.Wrong (wrong.NoList text)) is h = absurd h

-- `replay` was entered with matches that make no line
pub replay_stops : (entered : Option (Text × List Row)) (rows : List Row) (s : EarlyExit) → entered ≡ Some (codes "replay", rows) → ReplayStops rows s
    → OptionsStop entered s
replay_stops entered rows stop.Help is h = absurd h
replay_stops entered rows stop.Version is h = absurd h
replay_stops entered rows stop.NoMemory is h = absurd h
replay_stops entered rows (stop.Wrong wrong.NoCommand) is h = ap (option_and_then line_in) is ∙ h
replay_stops entered rows (stop.Wrong (wrong.NoLevel text)) is h = absurd h
replay_stops entered rows (stop.Wrong (wrong.NoStart text)) is h = absurd h
replay_stops entered rows (stop.Wrong (wrong.NoSync text)) is h = absurd h
replay_stops entered rows (stop.Wrong wrong.StopsWithJournal) is h = absurd h
replay_stops entered rows (stop.Wrong (wrong.NoMode text)) is h = absurd h
replay_stops entered rows (stop.Wrong (wrong.LongSocket path)) is h = absurd h
replay_stops entered rows (stop.Wrong wrong.NoAddress) is h = absurd h
replay_stops entered rows (stop.Wrong wrong.TokenAlone) is h = absurd h
replay_stops entered rows (stop.Wrong (wrong.NoRange text)) is h = (rows, is, h)
replay_stops entered rows (stop.Wrong wrong.PipesAndPrints) is h = (rows, is, h)
replay_stops entered rows (stop.Wrong (wrong.Words text)) is h = absurd h
replay_stops entered rows (stop.Wrong wrong.NoText) is h = absurd h
replay_stops entered rows (stop.Wrong wrong.NoFile) is h = absurd h
replay_stops entered rows (stop.Wrong (wrong.Same name)) is h = absurd h
replay_stops entered rows (stop.Wrong (wrong.LongModule name)) is h = absurd h
replay_stops entered rows (stop.Wrong (wrong.LongFunction name)) is h = absurd h
replay_stops entered rows (stop.Wrong (wrong.NoList text)) is h = absurd h

-- the subcommand that the matches have is the one that the words enter
pub options_say : (words : List Text) (entered : Option (Text × List Row)) (s : EarlyExit) → entered ≡ subcommand_of node_app words → OptionsStop entered s
    → StopSays node_app words s
options_say words entered stop.Help is h = absurd h
options_say words entered stop.Version is h = absurd h
options_say words entered stop.NoMemory is h = tt
options_say words entered (stop.Wrong wrong.NoCommand) is h = ap (option_and_then line_in) (sym is) ∙ h
options_say words entered (stop.Wrong (wrong.NoLevel text)) is h = (h.0, sym is ∙ h.1, h.2)
options_say words entered (stop.Wrong (wrong.NoStart text)) is h = (h.0, sym is ∙ h.1, h.2)
options_say words entered (stop.Wrong (wrong.NoSync text)) is h = (h.0, sym is ∙ h.1, h.2)
options_say words entered (stop.Wrong wrong.StopsWithJournal) is h = (h.0, sym is ∙ h.1, h.2)
options_say words entered (stop.Wrong (wrong.NoMode text)) is h = (h.0, sym is ∙ h.1, h.2)
options_say words entered (stop.Wrong (wrong.LongSocket path)) is h = (h.0, sym is ∙ h.1, h.2)
options_say words entered (stop.Wrong wrong.NoAddress) is h = (h.0, sym is ∙ h.1, h.2)
options_say words entered (stop.Wrong wrong.TokenAlone) is h = (h.0, sym is ∙ h.1, h.2)
options_say words entered (stop.Wrong (wrong.NoRange text)) is h = (h.0, sym is ∙ h.1, h.2)
options_say words entered (stop.Wrong wrong.PipesAndPrints) is h = (h.0, sym is ∙ h.1, h.2)
options_say words entered (stop.Wrong (wrong.Words text)) is h = absurd h
options_say words entered (stop.Wrong wrong.NoText) is h = absurd h
options_say words entered (stop.Wrong wrong.NoFile) is h = absurd h
options_say words entered (stop.Wrong (wrong.Same name)) is h = absurd h
options_say words entered (stop.Wrong (wrong.LongModule name)) is h = absurd h
options_say words entered (stop.Wrong (wrong.LongFunction name)) is h = absurd h
options_say words entered (stop.Wrong (wrong.NoList text)) is h = absurd h

-- the files that the matches name are those that the words name
pub names_say : (app : App) (words : List Text) (rows : List Row) (s : EarlyExit) → rows ≡ matches_of app words → NamesStop rows s → StopSays app words s
names_say app words rows stop.Help is h = absurd h
names_say app words rows stop.Version is h = absurd h
names_say app words rows stop.NoMemory is h = absurd h
names_say app words rows (stop.Wrong (wrong.Same name)) is h = subst (λ (rs : List Row). NamesStop rs (stop.Wrong (wrong.Same name))) is h
names_say app words rows (stop.Wrong wrong.NoFile) is h = subst (λ (rs : List Row). NamesStop rs (stop.Wrong wrong.NoFile)) is h
names_say app words rows (stop.Wrong wrong.NoCommand) is h = absurd h
names_say app words rows (stop.Wrong (wrong.NoLevel text)) is h = absurd h
names_say app words rows (stop.Wrong (wrong.NoStart text)) is h = absurd h
names_say app words rows (stop.Wrong (wrong.NoSync text)) is h = absurd h
names_say app words rows (stop.Wrong wrong.StopsWithJournal) is h = absurd h
names_say app words rows (stop.Wrong (wrong.NoMode text)) is h = absurd h
names_say app words rows (stop.Wrong (wrong.LongSocket path)) is h = absurd h
names_say app words rows (stop.Wrong wrong.NoAddress) is h = absurd h
names_say app words rows (stop.Wrong wrong.TokenAlone) is h = absurd h
names_say app words rows (stop.Wrong (wrong.NoRange text)) is h = absurd h
names_say app words rows (stop.Wrong wrong.PipesAndPrints) is h = absurd h
names_say app words rows (stop.Wrong (wrong.Words text)) is h = absurd h
names_say app words rows (stop.Wrong wrong.NoText) is h = absurd h
names_say app words rows (stop.Wrong (wrong.LongModule name)) is h = absurd h
names_say app words rows (stop.Wrong (wrong.LongFunction name)) is h = absurd h
names_say app words rows (stop.Wrong (wrong.NoList text)) is h = absurd h

-- what holds anyway holds of each value
pub always : {T F : Type 0} (r : Result T F) (P : Type 0) → P → IfOk r (λ x. P)
always (Ok x) P p = p
always (Err e) P p = tt

-- a statement of what is done implies a weaker one
pub done_more : {T E : Type 0} (r : Result T E) (P Q : Type 0) → (P → Q) → OnOk r P → OnOk r Q
done_more (Ok x) P Q more h = more h
done_more (Err e) P Q more h = tt
