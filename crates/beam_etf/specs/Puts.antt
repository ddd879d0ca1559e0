-- The stack of the terms that were read, after a reader of terms with parts.
use Rattle.std.specs.Prelude.{◌≡◌, ◌≢◌, ℕ, ◌≤◌, List, [], ◌∷◌, ◌++◌, Result, Ok, Err}
use Rattle.std.specs.Borrow.{Bor}
use Rattle.beam_model.specs.Prelude.{ExternalFault, below, whole_at, external_list_at, external_tuple_at}
use Rattle.beam_term.specs.Prelude.{TermValue}
use Rattle.beam_etf.specs.declared.error.EtfError.{EtfError}
use Rattle.beam_etf.specs.declared.error.EtfError.TheVariants.{NoMemory}
use Rattle.beam_etf.specs.declared.reading.Front.{Front}
use Rattle.beam_etf.specs.declared.reading.Front.TheVariants as front
use Rattle.beam_etf.specs.declared.reading.Parts.{Parts}
use Rattle.beam_etf.specs.declared.reading.Parts.TheVariants as parts
use Rattle.beam_etf.specs.Faults.{fault_of}

-- the term that is read goes onto the stack, and the rest begins after the term
abbrev pub Puts : Result (TermValue × List ℕ) ExternalFault → List ℕ → List TermValue → List TermValue → Result Unit EtfError → Type 0
Puts read rest old new (Ok _) = (t : TermValue) × (new ≡ old ++ t ∷ []) × (read ≡ Ok (t, rest))
Puts read rest old new (Err e) = e ≢ NoMemory → read ≡ Err (fault_of e)

abbrev pub begins_with : ℕ → Front → List ℕ → Result (TermValue × List ℕ) ExternalFault
begins_with depth_left (front.Whole t) rest = Ok (t, rest)
begins_with depth_left (front.List count) rest = external_list_at (below depth_left) depth_left count rest
begins_with depth_left (front.Tuple count) rest = external_tuple_at (below depth_left) depth_left count rest

-- a list that is read has elements
abbrev pub HasElements : Front → Type 0
HasElements (front.List count) = 1 ≤ count
HasElements _ = Unit {0}

-- the front of a term at the front of these bytes
abbrev pub BeginsWith : ℕ → List ℕ → Result (Front × Bor (List ℕ)) EtfError → Type 0
BeginsWith depth_left bytes (Ok x) = whole_at (below depth_left) depth_left bytes ≡ begins_with depth_left x.0 x.1.now
BeginsWith depth_left bytes (Err e) = e ≢ NoMemory → whole_at (below depth_left) depth_left bytes ≡ Err (fault_of e)

-- a whole term goes onto the stack; of a list and a tuple the parts are still to be read
abbrev pub LeavesParts : ℕ → List ℕ → List ℕ → List TermValue → List TermValue → Result Parts EtfError → Type 0
LeavesParts depth_left bytes rest old new (Ok parts.None) = (t : TermValue) × (new ≡ old ++ t ∷ []) × (whole_at (below depth_left) depth_left bytes ≡ Ok (t, rest))
LeavesParts depth_left bytes rest old new (Ok (parts.List count)) = (new ≡ old) × (1 ≤ count) × (whole_at (below depth_left) depth_left bytes ≡ external_list_at (below depth_left) depth_left count rest)
LeavesParts depth_left bytes rest old new (Ok (parts.Tuple count)) = (new ≡ old) × (whole_at (below depth_left) depth_left bytes ≡ external_tuple_at (below depth_left) depth_left count rest)
LeavesParts depth_left bytes rest old new (Err e) = e ≢ NoMemory → whole_at (below depth_left) depth_left bytes ≡ Err (fault_of e)
