-- Loads, one after another.
use Rattle.std.proofs.Common.{arith, ◌+◌, ◌<◌, ◌≡◌, ◌∙◌, ap, sym, subst, refl, ℕ, Bor, Option, List, [], ◌∷◌, ◌++◌, length, get_or, take, IfSome, Ok, zero, suc}
use Rattle.std.proofs.lemmas.List.{map-append, take_more}
use Rattle.clap.specs.Walk.{Text, texts}
use Rattle.beam_model.specs.Prelude.{IsWellFormed, Listing}
use Rattle.beam_machine.specs.declared.event.Event.TheVariants.{Load}
use Rattle.beam_machine.specs.declared.event.Reply.{Reply}
use Rattle.beam_machine.specs.Prelude.{next, State}
use Rattle.beam_tools.specs.Prelude.{AreFilesOf, IsFileOf, Loads, Contents, IsFirstUnloaded, IsNotLoaded}
use Rattle.beam_tools.specs.declared.fault.FileFaultKind.{FileFaultKind}
use Rattle.beam_tools.specs.declared.fault.FileFaultKind.TheVariants.{BadFile, NoMemory, NoText, Refused, Syntax, Unassembled, UnknownForm, Unread, Unwritten}

-- one more load
Loads-append : (old s new : State) (ls : List Listing) (l : Listing) (reply : Reply) → Loads old ls s
    → next s (Load l) ≡ record { answer = Ok reply; state = new } → Loads old (ls ++ l ∷ []) new
Loads-append old s new [] l reply before last = (reply, new, rw (← before) last, refl)
Loads-append old s new (x ∷ xs) l reply before last =
    (before.0, before.1, before.2, Loads-append before.1 s new xs l reply before.3 last)

-- what one reading of a file gives, another one gives too, if the files have the same bytes
pub same_file : (f g : Contents) (name : Text) (l : Listing) → ((n : Text) → f n ≡ g n) → IsFileOf f name l → IsFileOf g name l
same_file f g name l same file =
    let P : Option (List ℕ) → Type 0 = λ known. IfSome known (λ bytes. file.0 ≡ bytes) in
    (file.0, subst P (same name) file.1, file.2)

AreFilesOf-append : (files : Contents) (names : List Text) (ls : List Listing) (name : Text) (l : Listing) → AreFilesOf files names ls
    → IsFileOf files name l → IsWellFormed l → AreFilesOf files (names ++ name ∷ []) (ls ++ l ∷ [])
AreFilesOf-append files [] [] name l before last good = (last, good, tt)
AreFilesOf-append files [] (x ∷ xs) name l before last good = absurd before
AreFilesOf-append files (n ∷ ns) [] name l before last good = absurd before
AreFilesOf-append files (n ∷ ns) (x ∷ xs) name l before last good = (before.0, before.1, AreFilesOf-append files ns xs name l before.2 last good)

-- one more file
pub one_more_load : (files : Contents) (names : List (Bor Text)) (i : ℕ) (d : Bor Text) (old s new : State) → i < length names
    → (ls : List Listing) × Loads old ls s × AreFilesOf files (texts (take i names)) ls
    → (l : Listing) × IsFileOf files (get_or names i d).now l × IsWellFormed l × ((reply : Reply) × (next s (Load l) ≡ record { answer = Ok reply; state = new }))
    → (ls : List Listing) × Loads old ls new × AreFilesOf files (texts (take (i + 1) names)) ls
one_more_load files names i d old s new within before last =
    let text : Bor Text → Text = λ x. x.now in
    let name : Text = (get_or names i d).now in
    let more : texts (take (i + 1) names) ≡ texts (take i names) ++ name ∷ [] =
    ap texts (take_more names i d within) ∙ map-append text (take i names) (get_or names i d ∷ []) in
    let all : AreFilesOf files (texts (take i names) ++ name ∷ []) (before.0 ++ last.0 ∷ []) =
    AreFilesOf-append files (texts (take i names)) before.0 name last.0 before.2 last.1 last.2 in (
      before.0 ++ last.0 ∷ [],
      Loads-append old s new before.0 last.0 last.3.0 before.1 last.3.1,
      subst (λ (ns : List Text). AreFilesOf files ns (before.0 ++ last.0 ∷ [])) (sym more) all,
    )

-- ---- a file that isn't loaded

same_fault : (f g : Contents) (name : Text) (s : State) (why : FileFaultKind) → ((n : Text) → f n ≡ g n) → IsNotLoaded f name s why → IsNotLoaded g name s why
same_fault f g name s (Unread e) same h = tt
same_fault f g name s (BadFile e) same h =
    let P : Option (List ℕ) → Type 0 = λ known. IfSome known (λ bytes. h.0 ≡ bytes) in
    (h.0, subst P (same name) h.1, h.2)
same_fault f g name s (Refused r) same h = (h.0, same_file f g name h.0 same h.1, h.2)
same_fault f g name s (Unwritten os_error) same h = absurd h
same_fault f g name s NoText same h = absurd h
same_fault f g name s (Syntax line) same h = absurd h
same_fault f g name s (UnknownForm line) same h = absurd h
same_fault f g name s (Unassembled e) same h = absurd h
same_fault f g name s NoMemory same h = absurd h

-- the names before one, that one, and those after it
split_at : (names : List (Bor Text)) (i : ℕ) (d : Bor Text) → i < length names
    → (after : List Text) × (texts names ≡ texts (take i names) ++ (get_or names i d).now ∷ after)
split_at [] i d within = absurd (omega arith)
split_at (x ∷ xs) zero d within = (texts xs, refl)
split_at (x ∷ xs) (suc i) d within =
    let rest = split_at xs i d (omega arith) in
    (rest.0, ap (λ (names : List Text). x.now ∷ names) rest.1)

pub first_unloaded : (files seen : Contents) (names : List (Bor Text)) (i : ℕ) (d : Bor Text) (old s : State) (why : FileFaultKind) → i < length names
    → ((n : Text) → seen n ≡ files n) → (ls : List Listing) × Loads old ls s × AreFilesOf files (texts (take i names)) ls
    → IsNotLoaded seen (get_or names i d).now s why → IsFirstUnloaded files (texts names) old (get_or names i d).now why
first_unloaded files seen names i d old s why within same before h =
    let cut = split_at names i d within in
    (texts (take i names), cut.0, before.0, s, cut.1, before.1, before.2, same_fault seen files (get_or names i d).now s why same h)
