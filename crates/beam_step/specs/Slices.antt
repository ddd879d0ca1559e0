-- A slice: rows of one process, executed apart from the node and handed in later. (This node's own.)
use Rattle.std.specs.Prelude.{◌≡◌, ℕ, ◌+◌, ◌<◌, ◌≤◌, Bool, true, false, nat_lt, if◌then◌else◌, List, [], ◌∷◌, ◌++◌, Option, Some, None, Result, Ok, Err}
use Rattle.std.specs.declared.alloc.AllocError.{AllocError}
use Rattle.beam_model.specs.Prelude.{Place}
use Rattle.beam_machine.specs.Prelude.{Code, Process, is_running, put_x, read_x, goes_on, Sent, Private, End, at_limit, after_row, before_node_row, at_spot, private_to_spot, stops, is_quiet}
use Rattle.beam_machine.specs.declared.process.Signal.TheVariants.{Message}
use Rattle.beam_rows.specs.declared.request.Request.{Request}
use Rattle.beam_rows.specs.declared.request.Request.TheVariants.{Send}
use Rattle.beam_step.specs.declared.cause.Cause.{Cause}
use Rattle.beam_step.specs.declared.cause.Cause.TheVariants.{AtLimit, AfterRow, BeforeNodeRow, AtSpot, WantOfMemory}
use Rattle.beam_step.specs.declared.row.Did.{Did}
use Rattle.beam_step.specs.declared.row.Did.TheVariants.{ARow, Nothing}

-- a process to be run, and whether it may pass a break spot as its first row
pub record Work : Type 0 where
  pub process : Process
  pub passes : Bool

-- what rows of a process came to
pub record Slice : Type 0 where
  pub rows : Private
  pub cut : Bool  -- whether an allocation failure ended them

-- at most 4,000 rows a slice
abbrev pub capped : ℕ → ℕ
capped n = if nat_lt 4000 n then 4000 else n

abbrev pub private_end : Cause → End
private_end AtLimit = at_limit
private_end AfterRow = after_row
private_end BeforeNodeRow = before_node_row
private_end AtSpot = at_spot
private_end WantOfMemory = at_limit

abbrev pub is_cut : Cause → Bool
is_cut WantOfMemory = true
is_cut _ = false

-- fewer than n rows were executed, since memory was refused: the process still runs, and its next row isn't quiet
pub record IsCut (spots : List Place) (passes : Bool) (code : Code) (n : ℕ) (p : Process) (rows : Private) : Type 0 where
  pub short : rows.count < n
  pub done : rows ≡ private_to_spot spots passes code rows.count p
  pub runs : is_running rows.process.status ≡ true
  pub loud : is_quiet code rows.process ≡ false

-- what n rows of a process come to, where memory may be refused
abbrev pub RowsComeTo : List Place → Bool → Code → ℕ → Process → Private → Bool → Type 0
RowsComeTo spots passes code n p rows false = rows ≡ private_to_spot spots passes code n p
RowsComeTo spots passes code n p rows true = IsCut spots passes code n p rows

-- rows that made this process and sent these signals
abbrev pub rows_of : Process → List Sent → ℕ → Cause → Private
rows_of process sent count end = record { count = count; process = process; sent = sent; end = private_end end }

-- ---- one row after others

-- the rows of `rest`, after `count` others that sent these signals
abbrev pub joined : ℕ → List Sent → Private → Private
joined count sent rest = record rest { count = count + rest.count; sent = sent ++ rest.sent }

-- the first `count` rows of p sent these signals and made q of it; q may pass a break spot if `still`
abbrev pub Made : List Place → Bool → Code → Process → ℕ → List Sent → Bool → Process → Type 0
Made spots passes code p count sent still q = (m : ℕ) → private_to_spot spots passes code (count + m) p ≡ joined count sent (private_to_spot spots still code m q)

-- whatever m rows led to the old process and the signals before: `count` more rows lead to the new process and the signals after; it may
-- then pass no break spot
abbrev pub MadeMore : List Place → Bool → Code → Process → List Sent → ℕ → List Sent → Process → Type 0
MadeMore spots passes code old before count after new =
    (p : Process) (first : Bool) (m : ℕ) → Made spots first code p m before passes old → Made spots first code p (m + count) after false new

-- the next row, before which the process doesn't stop: it is executed; or it asks something of the node; or memory is refused. In the last
-- two cases nothing changed
abbrev pub DoesRow : List Place → Bool → Code → Process → List Sent → Result Did AllocError → Process → List Sent → Type 0
DoesRow spots passes code old before (Ok ARow) new after = MadeMore spots passes code old before 1 after new
DoesRow spots passes code old before (Ok Nothing) new after =
    (new ≡ old) × (after ≡ before) × ((m : ℕ) → private_to_spot spots passes code (m + 1) old ≡ stops old before_node_row)
DoesRow spots passes code old before (Err refused) new after = (new ≡ old) × (after ≡ before) × (is_quiet code old ≡ false)

-- `count` rows of a running process, at most n: more may follow, or they end by this cause and are what n rows come to
abbrev pub DoesRows : List Place → Bool → Code → ℕ → Process → List Sent → ℕ → Option Cause → Process → List Sent → Type 0
DoesRows spots passes code n old before count None new after = (0 < count) × (count ≤ n) × MadeMore spots passes code old before count after new
DoesRows spots passes code n old before count (Some end) new after =
    (count ≤ n) × (after ≡ before) × RowsComeTo spots passes code n old (rows_of new [] count end) (is_cut end)

-- a message is sent to a process
abbrev pub is_send : Request → Bool
is_send (Send to next) = true
is_send request = false

-- a request of a row: a message is sent, and the process goes on; or it is another request, or memory is refused, and nothing changed
abbrev pub Responds : Process → List Sent → Request → Result Did AllocError → Process → List Sent → Type 0
Responds old before (Send to next) (Ok ARow) new after =
    (new ≡ goes_on (put_x old 0 (read_x old.x 1)) next) × (after ≡ before ++ record { to = to; signal = Message (read_x old.x 1) } ∷ [])
Responds old before request (Ok ARow) new after = ⊥
Responds old before request (Ok Nothing) new after = (new ≡ old) × (after ≡ before) × (is_send request ≡ false)
Responds old before request (Err refused) new after = (new ≡ old) × (after ≡ before)
