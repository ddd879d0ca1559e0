-- The view of a process, and its text. (This node's own.)
use Rattle.std.specs.Prelude.{ℕ, ◌+◌, Bool, true, false, if◌then◌else◌, List, [], ◌∷◌, ◌++◌, length, take, map, Option, Some, None, option_map, codes}
use Rattle.std.specs.Fmt.{decimal}
use Rattle.beam_model.specs.declared.function.Import.{Import}
use Rattle.beam_model.specs.declared.instruction.Instruction.{Instruction}
use Rattle.beam_model.specs.declared.instruction.Operand.{Operand}
use Rattle.beam_model.specs.declared.opcode.Opcode.{Opcode}
use Rattle.beam_model.specs.Prelude.{end_of_code, instruction_at, Listing, label_of, is_row, instruction_text, atom_in, number_in, Place, atom_text, text_of}
use Rattle.beam_term.specs.Prelude.{TermValue, nil_term}
use Rattle.beam_model.specs.declared.opcode.Opcode.TheVariants as op
use Rattle.beam_machine.specs.declared.process.Frame.{Frame}
use Rattle.beam_machine.specs.declared.process.Goes.{Goes}
use Rattle.beam_machine.specs.declared.process.Goes.TheVariants.{At, Enter, Nowhere}
use Rattle.beam_machine.specs.declared.process.Slot.{Slot}
use Rattle.beam_machine.specs.declared.process.Slot.TheVariants.{Value, Tag}
use Rattle.beam_machine.specs.declared.process.Status.{Status}
use Rattle.beam_machine.specs.declared.process.Status.TheVariants.{Running, Waiting, Ended}
use Rattle.beam_machine.specs.Code.{Code, listing_of}
use Rattle.beam_machine.specs.Process.{Process}

-- ---- parts

-- where a row stands: the function, the last label before it, and how many rows stand between
pub record Location : Type 0 where
  pub function : Option Import
  pub label : ℕ
  pub rows : ℕ
  pub instance : ℕ

-- the next action of a process: a row with its instruction, its first entry, or nothing
pub data NextView : Type 0 where
  at_row : Location → Instruction → NextView
  entry : Import → NextView
  nowhere : NextView

-- where a frame returns, which the first frame doesn't, and its y registers
pub record FrameView : Type 0 where
  pub back : Option Location
  pub y : List Slot

pub record LiveView : Type 0 where
  pub pid : ℕ
  pub status : Status
  pub held : Bool
  pub next : NextView
  pub x : List TermValue
  pub frames : List FrameView
  pub messages : ℕ
  pub save : ℕ  -- how many messages stand before the save pointer
  pub transit : ℕ

pub data View : Type 0 where
  live : LiveView → View
  over : ℕ → TermValue → View  -- the pid and the reason of a process that has ended

-- ---- where a row stands

abbrev pub function_from : Option (List ℕ) → Option (List ℕ) → Option ℕ → Option Import
function_from (Some m) (Some f) (Some a) = Some (record { «module» = m; function = f; arity = a })
function_from _ _ _ = None

abbrev pub function_by : Opcode → List Operand → Option Import
function_by op.FuncInfo (m ∷ f ∷ a ∷ []) = function_from (atom_in m) (atom_in f) (number_in a)
function_by _ _ = None

-- the function that an instruction is the head of
abbrev pub function_of : Instruction → Option Import
function_of i = function_by i.opcode i.operands

abbrev pub later : Option Import → Option Import → Option Import
later (Some f) found = Some f
later None found = found

-- the function of the last head among these instructions
abbrev pub last_function : Option Import → List Instruction → Option Import
last_function found [] = found
last_function found (i ∷ rest) = last_function (later (function_of i) found) rest

-- a label, and how many rows stand after it
pub record LastLabel : Type 0 where
  pub label : ℕ
  pub rows : ℕ

abbrev pub label_or_row : Option ℕ → Instruction → LastLabel → LastLabel
label_or_row (Some n) i last_label = record { label = n; rows = 0 }
label_or_row None i last_label = if is_row i then record last_label { rows = last_label.rows + 1 } else last_label

-- the last label among these instructions, and how many rows stand after it
abbrev pub last_label : LastLabel → List Instruction → LastLabel
last_label found [] = found
last_label found (i ∷ rest) = last_label (label_or_row (label_of i) i found) rest

-- the function of a row is the one whose head stands last, at the row or before it
abbrev pub location_in : Place → List Instruction → Location
location_in place code =
    let found = last_label (record { label = 0; rows = 0 }) (take place.at code) in
    record { function = last_function None (take (place.at + 1) code); label = found.label; rows = found.rows; instance = place.instance }

abbrev pub instructions_of : Option Listing → List Instruction
instructions_of (Some l) = l.instructions
instructions_of None = []

abbrev pub location : Code → Place → Location
location code place = location_in place (instructions_of (listing_of code place.instance))

-- the instruction of a row, and int_code_end after the last
abbrev pub instruction_in : Option Listing → ℕ → Instruction
instruction_in (Some l) at = instruction_at l at
instruction_in None at = end_of_code

-- ---- the view of a process

abbrev pub next_of : Code → Goes → NextView
next_of code (At place) = at_row (location code place) (instruction_in (listing_of code place.instance) place.at)
next_of code (Enter «module» function arity) = entry (record { «module» = «module»; function = function; arity = arity })
next_of code Nowhere = nowhere

abbrev pub slots_of : Option (List Slot) → List Slot
slots_of (Some y) = y
slots_of None = []

abbrev pub frame_view : Code → Frame → FrameView
frame_view code frame = record { back = option_map (location code) frame.back; y = slots_of frame.y }

abbrev pub view_by : Code → Bool → Process → Status → View
view_by code held p (Ended reason value) = over p.pid reason
view_by code held p status = live (record {
  pid = p.pid;
  status = status;
  held = held;
  next = next_of code p.goes;
  x = p.x;
  frames = map (frame_view code) p.frames;
  messages = length p.mailbox.messages;
  save = p.mailbox.position;
  transit = length p.transit;
})

abbrev pub view_of : Code → Bool → Process → View
view_of code held p = view_by code held p p.status

-- ---- its text

abbrev pub function_text : Import → List ℕ
function_text f = atom_text f.«module» ++ codes ":" ++ atom_text f.function ++ codes "/" ++ decimal f.arity

abbrev pub function_text_if : Option Import → List ℕ
function_text_if (Some f) = function_text f
function_text_if None = []

abbrev pub location_text : Location → List ℕ
location_text s =
    function_text_if s.function ++ codes " label " ++ decimal s.label ++ codes " + " ++ decimal s.rows ++ codes " instance " ++ decimal s.instance

abbrev pub next_text : NextView → List ℕ
next_text (at_row s i) = codes "at " ++ location_text s ++ codes "\nnext " ++ instruction_text i ++ codes "\n"
next_text (entry f) = codes "at entry " ++ function_text f ++ codes "\n"
next_text nowhere = []

-- the status of a process: held, or else waiting or running
abbrev pub status_text : Bool → Status → List ℕ
status_text true status = codes "held"
status_text false Running = codes "running"
status_text false Waiting = codes "waiting"
status_text false (Ended reason value) = []

-- a register's line, after its letter
abbrev pub register_text : ℕ → List ℕ → List ℕ
register_text n value = decimal n ++ codes " = " ++ value ++ codes "\n"

abbrev pub x_text : ℕ → TermValue → List ℕ
x_text n nil_term = []
x_text n value = codes "x" ++ register_text n (text_of value)

-- the lines of registers from that one on; those that are [] have none
abbrev pub xs_text : ℕ → List TermValue → List ℕ
xs_text n [] = []
xs_text n (value ∷ rest) = x_text n value ++ xs_text (n + 1) rest

abbrev pub slot_text : Slot → List ℕ
slot_text (Value value) = text_of value
slot_text (Tag tag) = codes "catch label " ++ decimal tag.label

abbrev pub ys_text : ℕ → List Slot → List ℕ
ys_text n [] = []
ys_text n (slot ∷ rest) = codes "y" ++ register_text n (slot_text slot) ++ ys_text (n + 1) rest

abbrev pub back_text : Option Location → List ℕ
back_text (Some s) = location_text s
back_text None = codes "end"

abbrev pub frames_text : List FrameView → List ℕ
frames_text [] = []
frames_text (frame ∷ older) = codes "frame return " ++ back_text frame.back ++ codes "\n" ++ ys_text 0 frame.y ++ frames_text older

abbrev pub counts_text : LiveView → List ℕ
counts_text v =
    codes "mailbox " ++ decimal v.messages ++ codes " save " ++ decimal v.save ++ codes " transit " ++ decimal v.transit ++ codes "\n"

abbrev pub live_text : LiveView → List ℕ
live_text v =
    codes "pid " ++ decimal v.pid ++ codes " " ++ status_text v.held v.status ++ codes "\n"
    ++ next_text v.next ++ xs_text 0 v.x ++ frames_text v.frames ++ counts_text v

abbrev pub view_text : View → List ℕ
view_text (live v) = live_text v
view_text (over pid reason) = codes "pid " ++ decimal pid ++ codes " ended " ++ text_of reason ++ codes "\n"
