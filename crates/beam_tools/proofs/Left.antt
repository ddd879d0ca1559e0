-- The output of a run that fails.
use Rattle.std.proofs.Common.{arith, refl, subst, sym, ◌<◌, ◌≡◌, append-nil, ℕ, List, [], Option, Err, IfErr, Ok, OnErr, Result}
use Rattle.std.specs.Io.KnownBytes.{Appends, Keeps}
use Rattle.std.proofs.KnownBytes.{Appends-kept}
use Rattle.clap.specs.Words.{App, Text}
use Rattle.beam_print.specs.Begun.{IsBegun}
use Rattle.beam_tools.specs.Prelude.{NameSays, status_of, Contents, LineFault, Leaves}
use Rattle.beam_tools.specs.Dis as dis
use Rattle.beam_tools.specs.declared.fault.RunFault.{RunFault}
use Rattle.beam_tools.specs.declared.fault.RunFault.TheVariants.{Exit, File, NoMemory, Spent, Stuck, Unwritten, Wrong}
use Rattle.beam_tools.specs.declared.fault.FileFaultKind.{FileFaultKind}
use Rattle.beam_tools.specs.declared.fault.FileFaultKind.TheVariants as why

-- a text that was written whole is begun, also where the output then couldn't be flushed
pub flushed : (a b c : Option (List ℕ)) (text : List ℕ) → Appends a b text → Keeps b c → IsBegun a c text
flushed a b c text appends keeps = record {
  rest = [];
  written = record { front = text; whole = sym (append-nil text); appended = Appends-kept a b c text appends keeps };
}

-- ---- where the output fails

more : {O : Type 0} (contents : O → Option (List ℕ)) (P Q : List ℕ → Type 0) (f : RunFault) (old new : O) → ((t : List ℕ) → P t → Q t)
    → Leaves contents P f old new → Leaves contents Q f old new
more contents P Q Unwritten old new weaker h = (h.0, weaker h.0 h.1, h.2)
more contents P Q (Wrong w) old new weaker h = h
more contents P Q NoMemory old new weaker h = h
more contents P Q (File f) old new weaker h = h
more contents P Q (Exit text) old new weaker h = h
more contents P Q Stuck old new weaker h = h
more contents P Q Spent old new weaker h = h

-- each error leaves a beginning of a text of a wider kind too
pub left_more : {T O : Type 0} (contents : O → Option (List ℕ)) (P Q : List ℕ → Type 0) (r : Result T RunFault) (old new : O) → ((t : List ℕ) → P t → Q t)
    → IfErr r (λ f. Leaves contents P f old new) → IfErr r (λ f. Leaves contents Q f old new)
left_more contents P Q (Ok x) old new weaker h = tt
left_more contents P Q (Err f) old new weaker h = more contents P Q f old new weaker h

-- an error in printing a text left a beginning of it
pub left_begun : {T O : Type 0} (contents : O → Option (List ℕ)) (P : List ℕ → Type 0) (r : Result T RunFault) (old new : O) (text : List ℕ) → P text
    → IfErr r (λ f. f ≡ Unwritten) → OnErr r (IsBegun (contents old) (contents new) text) → IfErr r (λ f. Leaves contents P f old new)
left_begun contents P (Ok x) old new text prints is begun = tt
left_begun contents P (Err f) old new text prints is begun =
    subst (λ (g : RunFault). Leaves contents P g old new) (sym is) (text, prints, begun)

-- a fault other than a failed write left the output as it was
pub untouched : {O : Type 0} (contents : O → Option (List ℕ)) (P : List ℕ → Type 0) (f : RunFault) (o : O) → (f ≡ Unwritten → ⊥) → Leaves contents P f o o
untouched contents P Unwritten o not = absurd (not refl)
untouched contents P (Wrong w) o not = refl
untouched contents P NoMemory o not = refl
untouched contents P (File f) o not = refl
untouched contents P (Exit text) o not = refl
untouched contents P Stuck o not = refl
untouched contents P Spent o not = refl

pub left_untouched : {T O : Type 0} (contents : O → Option (List ℕ)) (P : List ℕ → Type 0) (r : Result T RunFault) (o : O) → IfErr r (λ f. f ≡ Unwritten → ⊥)
    → IfErr r (λ f. Leaves contents P f o o)
left_untouched contents P (Ok x) o not = tt
left_untouched contents P (Err f) o not = untouched contents P f o not

pub left_by_name : {T O : Type 0} (contents : O → Option (List ℕ)) (P : List ℕ → Type 0) (files : Contents) (input output : Text) (text : List ℕ)
    (r : Result T RunFault) (o : O) → IfErr r (NameSays files input output text) → IfErr r (λ f. Leaves contents P f o o)
left_by_name contents P files input output text (Ok x) o says = tt
left_by_name contents P files input output text (Err (File f)) o says = refl
left_by_name contents P files input output text (Err Unwritten) o says = absurd says
left_by_name contents P files input output text (Err (Wrong w)) o says = absurd says
left_by_name contents P files input output text (Err NoMemory) o says = absurd says
left_by_name contents P files input output text (Err (Exit t)) o says = absurd says
left_by_name contents P files input output text (Err Stuck) o says = absurd says
left_by_name contents P files input output text (Err Spent) o says = absurd says

-- a run with a status above 1 left the output as it was
pub same_above : {O : Type 0} (contents : O → Option (List ℕ)) (P : List ℕ → Type 0) (f : RunFault) (old new : O) (status : ℕ) → Leaves contents P f old new
    → status ≡ status_of f → 1 < status → new ≡ old
same_above contents P Unwritten old new status h is above = absurd (omega arith)
same_above contents P (Wrong w) old new status h is above = h
same_above contents P NoMemory old new status h is above = h
same_above contents P (File f) old new status h is above = h
same_above contents P (Exit text) old new status h is above = h
same_above contents P Stuck old new status h is above = h
same_above contents P Spent old new status h is above = h

-- ---- the listing of a file

-- a command line that gives nothing to do reads no file
pub dis_line_left : {T O : Type 0} (contents : O → Option (List ℕ)) (app : App) (words : List Text) (P Q : List ℕ → Type 0) (r : Result T RunFault) (old new : O)
    → ((t : List ℕ) → P t → Q t) → IfErr r (LineFault app words) → IfErr r (λ f. Leaves contents P f old new) → IfErr r (λ f. dis.Leaves contents Q f old new)
dis_line_left contents app words P Q (Ok x) old new weaker says h = tt
dis_line_left contents app words P Q (Err Unwritten) old new weaker says h = (h.0, weaker h.0 h.1, h.2)
dis_line_left contents app words P Q (Err (Wrong w)) old new weaker says h = h
dis_line_left contents app words P Q (Err NoMemory) old new weaker says h = h
dis_line_left contents app words P Q (Err (File f)) old new weaker says h = absurd says
dis_line_left contents app words P Q (Err (Exit text)) old new weaker says h = h
dis_line_left contents app words P Q (Err Stuck) old new weaker says h = h
dis_line_left contents app words P Q (Err Spent) old new weaker says h = h

file_more : {O : Type 0} (contents : O → Option (List ℕ)) (P Q : List ℕ → Type 0) (w : FileFaultKind) (old new : O) → ((t : List ℕ) → P t → Q t)
    → dis.FileLeaves contents P w old new → dis.FileLeaves contents Q w old new
file_more contents P Q why.NoMemory old new weaker h = (h.0, weaker h.0 h.1, h.2)
file_more contents P Q (why.Unread e) old new weaker h = h
file_more contents P Q (why.Unwritten os_error) old new weaker h = h
file_more contents P Q (why.BadFile e) old new weaker h = h
file_more contents P Q (why.Refused r) old new weaker h = h
file_more contents P Q why.NoText old new weaker h = h
file_more contents P Q (why.Syntax n) old new weaker h = h
file_more contents P Q (why.UnknownForm n) old new weaker h = h
file_more contents P Q (why.Unassembled e) old new weaker h = h

pub dis_left_more : {T O : Type 0} (contents : O → Option (List ℕ)) (P Q : List ℕ → Type 0) (r : Result T RunFault) (old new : O) → ((t : List ℕ) → P t → Q t)
    → IfErr r (λ f. dis.Leaves contents P f old new) → IfErr r (λ f. dis.Leaves contents Q f old new)
dis_left_more contents P Q (Ok x) old new weaker h = tt
dis_left_more contents P Q (Err Unwritten) old new weaker h = (h.0, weaker h.0 h.1, h.2)
dis_left_more contents P Q (Err (File f)) old new weaker h = file_more contents P Q f.why old new weaker h
dis_left_more contents P Q (Err (Wrong w)) old new weaker h = h
dis_left_more contents P Q (Err NoMemory) old new weaker h = h
dis_left_more contents P Q (Err (Exit text)) old new weaker h = h
dis_left_more contents P Q (Err Stuck) old new weaker h = h
dis_left_more contents P Q (Err Spent) old new weaker h = h

-- an error in printing a listing left a beginning of its text
pub dis_left_begun : {T O : Type 0} (contents : O → Option (List ℕ)) (P : List ℕ → Type 0) (name : Text) (r : Result T RunFault) (old new : O) (text : List ℕ)
    → P text → IfErr r (dis.StopsPrinting name) → OnErr r (IsBegun (contents old) (contents new) text) → IfErr r (λ f. dis.Leaves contents P f old new)
dis_left_begun contents P name (Ok x) old new text prints stops begun = tt
dis_left_begun contents P name (Err Unwritten) old new text prints stops begun = (text, prints, begun)
dis_left_begun contents P name (Err (File f)) old new text prints stops begun =
    subst (λ (w : FileFaultKind). dis.FileLeaves contents P w old new) (sym stops.1) (text, prints, begun)
dis_left_begun contents P name (Err (Wrong w)) old new text prints stops begun = absurd stops
dis_left_begun contents P name (Err NoMemory) old new text prints stops begun = absurd stops
dis_left_begun contents P name (Err (Exit t)) old new text prints stops begun = absurd stops
dis_left_begun contents P name (Err Stuck) old new text prints stops begun = absurd stops
dis_left_begun contents P name (Err Spent) old new text prints stops begun = absurd stops

-- a file that isn't listed left the output as it was
pub unlisted : {O : Type 0} (contents : O → Option (List ℕ)) (P : List ℕ → Type 0) (w : FileFaultKind) (o : O) → (w ≡ why.NoMemory → ⊥) → dis.FileLeaves contents P w o o
unlisted contents P why.NoMemory o not = absurd (not refl)
unlisted contents P (why.Unread e) o not = refl
unlisted contents P (why.Unwritten os_error) o not = refl
unlisted contents P (why.BadFile e) o not = refl
unlisted contents P (why.Refused r) o not = refl
unlisted contents P why.NoText o not = refl
unlisted contents P (why.Syntax n) o not = refl
unlisted contents P (why.UnknownForm n) o not = refl
unlisted contents P (why.Unassembled e) o not = refl

pub stops_says : {T : Type 0} (files : Contents) (name : Text) (r : Result T RunFault) → IfErr r (dis.StopsPrinting name) → IfErr r (dis.FileSays files name)
stops_says files name (Ok x) h = tt
stops_says files name (Err Unwritten) h = tt
stops_says files name (Err (File f)) h = (h.0, subst (dis.IsNotListed files name) (sym h.1) tt)
stops_says files name (Err (Wrong w)) h = absurd h
stops_says files name (Err NoMemory) h = absurd h
stops_says files name (Err (Exit text)) h = absurd h
stops_says files name (Err Stuck) h = absurd h
stops_says files name (Err Spent) h = absurd h

pub dis_same_above : {O : Type 0} (contents : O → Option (List ℕ)) (P : List ℕ → Type 0) (f : RunFault) (old new : O) (status : ℕ)
    → dis.Leaves contents P f old new → status ≡ status_of f → 1 < status → new ≡ old
dis_same_above contents P Unwritten old new status h is above = absurd (omega arith)
dis_same_above contents P (File f) old new status h is above = absurd (omega arith)
dis_same_above contents P (Wrong w) old new status h is above = h
dis_same_above contents P NoMemory old new status h is above = h
dis_same_above contents P (Exit text) old new status h is above = h
dis_same_above contents P Stuck old new status h is above = h
dis_same_above contents P Spent old new status h is above = h
