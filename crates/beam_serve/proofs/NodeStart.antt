-- A seat that keeps the loads of files, one after another, and the start of a process.
use Rattle.std.proofs.Common.{◌≡◌, ℕ, ◌+◌, ◌<◌, ◌++◌, ◌∷◌, [], Bor, List, get_or, length, map, take, Option, Some, None, IfSome, Result, Ok, Err, refl, sym, ap, subst, ◌∙◌, append-nil}
use Rattle.std.proofs.lemmas.List.{take_more, map-append}
use Rattle.beam_model.specs.Prelude.{IsWellFormed, Listing}
use Rattle.beam_machine.specs.declared.command.Response.{Response}
use Rattle.beam_machine.specs.declared.debug.DebugEvent.{DebugEvent}
use Rattle.beam_machine.specs.declared.debug.DebugReply.{DebugReply}
use Rattle.beam_machine.specs.Prelude.{View}
use Rattle.beam_receipts.specs.declared.refusal.Refusal.{Refusal}
use Rattle.beam_receipts.specs.declared.refusal.Refusal.TheVariants as refusal
use Rattle.beam_receipts.specs.Receipts.{SeatHistory}
use Rattle.beam_sched.specs.CommandAnswers.{CommandAnswered}
use Rattle.beam_tools.specs.Prelude.{AreFilesOf, Contents, IsFileOf}
use Rattle.beam_tools.specs.declared.line.Start.{Start}
use Rattle.beam_serve.specs.Answers.{SeatAnswers, response_by, response_to}
use Rattle.beam_serve.specs.Loading.{Begins, IsReply, Keeps, KeepsAll, LoadsFiles, load_of, starts_of, texts}

-- ---- an answer that is no refusal is of an event that the seat keeps

no_reply : (why : Refusal) → IsReply (response_to why) → ⊥
no_reply (refusal.Node r) h = h
no_reply refusal.Busy h = h
no_reply refusal.JournalFull h = h

by_answer : (s t : SeatHistory) (event : DebugEvent Listing) (answer : Result (DebugReply View) Refusal) → CommandAnswered s event answer t
    → IsReply (response_by answer) → Keeps s event t
by_answer s t event (Ok reply) c is = (reply, c.answered.seat)
by_answer s t event (Err why) c is = absurd (no_reply why is)

pub kept_if_reply : (s t : SeatHistory) (event : DebugEvent Listing) (r : Response) → SeatAnswers s event r t → IsReply r → Keeps s event t
kept_if_reply s t event r a is = by_answer s t event a.answer a.command_answered (subst IsReply a.is_response is)

-- ---- one event after others

keeps_more : (s t u : SeatHistory) (events : List (DebugEvent Listing)) (event : DebugEvent Listing) → KeepsAll s events t → Keeps t event u → KeepsAll s (events ++ event ∷ []) u
keeps_more s t u [] event kept one = (u, subst (λ x. Keeps x event u) kept one, refl)
keeps_more s t u (first ∷ rest) event kept one = (kept.0, kept.1, keeps_more kept.0 t u rest event kept.2 one)

files_more : (files : Contents) (names : List (List ℕ)) (ls : List Listing) (name : List ℕ) (l : Listing) → AreFilesOf files names ls
    → IsFileOf files name l → IsWellFormed l → AreFilesOf files (names ++ name ∷ []) (ls ++ l ∷ [])
files_more files [] [] name l before last good = (last, good, tt)
files_more files [] (x ∷ xs) name l before last good = absurd before
files_more files (n ∷ ns) [] name l before last good = absurd before
files_more files (n ∷ ns) (x ∷ xs) name l before last good = (before.0, before.1, files_more files ns xs name l before.2 last good)

pub none_loaded : (files : Contents) (s : SeatHistory) → LoadsFiles files [] s s
none_loaded files s = record { listings = []; are_of = tt; kept = refl }

-- one more file
pub one_more_file : (files : Contents) (names : List (Bor (List ℕ))) (i : ℕ) (d : Bor (List ℕ)) (s t u : SeatHistory) (l : Listing) → i < length names
    → LoadsFiles files (texts (take i names)) s t → IsFileOf files (get_or names i d).now l → IsWellFormed l → Keeps t (load_of l) u
    → LoadsFiles files (texts (take (i + 1) names)) s u
one_more_file files names i d s t u l within before file good kept =
    let text : Bor (List ℕ) → List ℕ = λ x. x.now in
    let name : List ℕ = (get_or names i d).now in
    let more : texts (take (i + 1) names) ≡ texts (take i names) ++ name ∷ [] =
    ap texts (take_more names i d within) ∙ map-append text (take i names) (get_or names i d ∷ []) in
    let all : LoadsFiles files (texts (take i names) ++ name ∷ []) s u = record {
      listings = before.listings ++ l ∷ [];
      are_of = files_more files (texts (take i names)) before.listings name l before.are_of file good;
      kept = subst (λ events. KeepsAll s events u) (sym (map-append load_of before.listings (l ∷ [])))
          (keeps_more s t u (map load_of before.listings) (load_of l) before.kept kept);
    } in
    subst (λ (ns : List (List ℕ)). LoadsFiles files ns s u) (sym more) all

-- a file of the files as they are now is one of the files as they were
pub file_before : (f g : Contents) (name : List ℕ) (l : Listing) → ((n : List ℕ) → f n ≡ g n) → IsFileOf f name l → IsFileOf g name l
file_before f g name l same file =
    let P : Option (List ℕ) → Type 0 = λ known. IfSome known (λ bytes. file.0 ≡ bytes) in
    (file.0, subst P (same name) file.1, file.2)

-- ---- the start

pub begins_without : (files : Contents) (names : List (List ℕ)) (s t : SeatHistory) → LoadsFiles files names s t → Begins files names None s t
begins_without files names s t loaded = record {
  listings = loaded.listings;
  are_of = loaded.are_of;
  kept = subst (λ events. KeepsAll s events t) (sym (append-nil (map load_of loaded.listings))) loaded.kept;
}

pub begins_with : (files : Contents) (names : List (List ℕ)) (start : Start) (s t u : SeatHistory) (event : DebugEvent Listing) → LoadsFiles files names s t
    → starts_of (Some start) ≡ event ∷ [] → Keeps t event u → Begins files names (Some start) s u
begins_with files names start s t u event loaded is kept = record {
  listings = loaded.listings;
  are_of = loaded.are_of;
  kept = subst (λ events. KeepsAll s (map load_of loaded.listings ++ events) u) (sym is)
      (keeps_more s t u (map load_of loaded.listings) event loaded.kept kept);
}
