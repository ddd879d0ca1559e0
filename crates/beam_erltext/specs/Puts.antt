-- The stack of the terms that were read, after a reader of terms with parts. `place` is how many bytes of the text are left at a fault.
use Rattle.std.specs.Prelude.{◌≡◌, ℕ, ◌-◌, ◌^◌, ◌<◌, ◌≤◌, nat_lt, if◌then◌else◌, Bool, true, false, List, [], ◌∷◌, ◌++◌, length, Result, Ok, Err}
use Rattle.std.specs.Borrow.{Bor}
use Rattle.beam_term.specs.Prelude.{TermValue, nil_term, tuple_of, depth_of}
use Rattle.beam_term.specs.declared.error.TermError.{TermError}
use Rattle.beam_term.specs.declared.error.TermError.TheVariants as terms
use Rattle.beam_model.specs.Prelude.{Reading, fault_at, closed_by, tail_by, items_by, term_at, pairs_at}
use Rattle.beam_model.specs.TextReading.{◌>>=◌}
use Rattle.beam_erltext.specs.declared.read_fault.ReadFault.{ReadFault}
use Rattle.beam_erltext.specs.declared.read_fault.ReadFault.TheVariants as faults
use Rattle.beam_erltext.specs.declared.read.ReadStop.{ReadStop}
use Rattle.beam_erltext.specs.declared.read.ReadStop.TheVariants as stops
use Rattle.beam_erltext.specs.declared.read.Front.{Front}
use Rattle.beam_erltext.specs.declared.read.Front.TheVariants as front
use Rattle.beam_erltext.specs.declared.read.Parts.{Parts}
use Rattle.beam_erltext.specs.declared.read.Parts.TheVariants as parts
use Rattle.beam_erltext.specs.declared.read.AfterElement.{AfterElement}
use Rattle.beam_erltext.specs.declared.read.AfterElement.TheVariants as behind
use Rattle.beam_erltext.specs.Gives.{Fails}

abbrev pub stop_of : TermError → ReadStop
stop_of terms.NoMemory = stops.NoMemory
stop_of terms.TooDeep = stops.Fault

abbrev pub StopsAt : ReadFault → ℕ → ReadStop → Type 0
StopsAt faults.NoMemory place stop = stop ≡ stops.NoMemory
StopsAt (faults.At left) place stop = (stop ≡ stops.Fault) × (place ≡ left)

-- a reader that stops at a fault has written its place, unless memory ran out
abbrev pub Stopped : {A : Type 0} → Reading A → ℕ → ReadStop → Type 0
Stopped read place stops.NoMemory = Unit {0}
Stopped read place stops.Fault = read ≡ Err place

-- the term that is read goes onto the stack, and the rest begins after the term
abbrev pub Puts : ℕ → Reading TermValue → List ℕ → ℕ → List TermValue → List TermValue → Result Unit ReadStop → Type 0
Puts depth_left read rest place old new (Ok _) = (t : TermValue) × (new ≡ old ++ t ∷ []) × (read ≡ Ok (t, rest)) × (depth_of t ≤ depth_left)
Puts depth_left read rest place old new (Err stop) = Stopped read place stop

-- the elements of a tuple, after its opening brace, where it has some
abbrev pub tuple_elements_at : ℕ → List ℕ → Reading TermValue
tuple_elements_at depth_left text =
    items_by (term_at depth_left) (length text) text >>= λ items. if nat_lt (length items.0) (2 ^ 32) then Ok (tuple_of items.0, items.1) else fault_at text

abbrev pub begins_with : ℕ → Front → List ℕ → Reading TermValue
begins_with depth_left (front.Whole t) rest = Ok (t, rest)
begins_with depth_left front.List rest = pairs_at depth_left rest
begins_with depth_left front.Tuple rest = tuple_elements_at (depth_left - 1) rest

abbrev pub FitsDepth : ℕ → Front → Type 0
FitsDepth depth_left (front.Whole t) = depth_of t ≤ depth_left
FitsDepth depth_left front.List = Unit {0}
FitsDepth depth_left front.Tuple = 0 < depth_left

abbrev pub BeginsWith : ℕ → Reading TermValue → Result (Front × Bor (List ℕ)) ReadFault → Type 0
BeginsWith depth_left read (Ok x) = read ≡ begins_with depth_left x.0 x.1.now
BeginsWith depth_left read (Err e) = Fails e read

-- a whole term goes onto the stack; of a list and a tuple the parts are still to be read
abbrev pub LeavesParts : ℕ → List ℕ → List ℕ → ℕ → List TermValue → List TermValue → Result Parts ReadStop → Type 0
LeavesParts depth_left text rest place old new (Ok parts.None) = (t : TermValue) × (new ≡ old ++ t ∷ []) × (term_at depth_left text ≡ Ok (t, rest)) × (depth_of t ≤ depth_left)
LeavesParts depth_left text rest place old new (Ok parts.List) = (new ≡ old) × (term_at depth_left text ≡ pairs_at depth_left rest)
LeavesParts depth_left text rest place old new (Ok parts.Tuple) = (new ≡ old) × (0 < depth_left) × (term_at depth_left text ≡ tuple_elements_at (depth_left - 1) rest)
LeavesParts depth_left text rest place old new (Err stop) = Stopped (term_at depth_left text) place stop

-- the text after an element of a list: a further element, a tail or the end
abbrev pub IsAfterElement : List ℕ → List ℕ → ℕ → Result AfterElement ReadStop → Type 0
IsAfterElement old new place (Ok behind.Element) = (term pairs : List ℕ → Reading TermValue) → tail_by term pairs old ≡ pairs new
IsAfterElement old new place (Ok behind.Tail) = (term pairs : List ℕ → Reading TermValue) → tail_by term pairs old ≡ (term new >>= λ tail. closed_by 93 tail.0 tail.1)
IsAfterElement old new place (Ok behind.End) = (term pairs : List ℕ → Reading TermValue) → tail_by term pairs old ≡ Ok (nil_term, new)
IsAfterElement old new place (Err stop) = (term pairs : List ℕ → Reading TermValue) → Stopped (tail_by term pairs old) place stop

abbrev pub Closes : Reading TermValue → TermValue → List ℕ → ℕ → Result Unit ReadStop → Type 0
Closes read t rest place (Ok _) = read ≡ Ok (t, rest)
Closes read t rest place (Err stop) = Stopped read place stop

-- whether a further element of a tuple follows
abbrev pub Follows : (List ℕ → Reading (List TermValue)) → Reading (List TermValue) → List ℕ → ℕ → Result Bool ReadStop → Type 0
Follows items read rest place (Ok true) = read ≡ items rest
Follows items read rest place (Ok false) = read ≡ Ok ([], rest)
Follows items read rest place (Err stop) = Stopped read place stop
