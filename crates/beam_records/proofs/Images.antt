-- Files and the images that are made of them; commands that are read.
use Rattle.std.proofs.Common.{◌≡◌, ℕ, ◌+◌, ◌<◌, List, [], ◌∷◌, ◌++◌, length, take, get_or, Some, None, sym, ap, subst, ◌∙◌}
use Rattle.std.proofs.lemmas.List.{take_more}
use Rattle.std.proofs.Math.Logic.{∥∥₁_elim}
use Rattle.std.specs.Option.{option_and_then}
use Rattle.beam_frame.proofs.Spelling.{read_again, read_is_spelled}
use Rattle.beam_machine.specs.declared.command.CommandKind.{CommandKind}
use Rattle.beam_machine.specs.declared.command.Response.TheVariants as response
use Rattle.beam_machine.specs.declared.debug.DebugEvent.{DebugEvent}
use Rattle.beam_machine.specs.declared.debug.DebugEvent.TheVariants.{Node, SetBreak, ClearBreak, Resume, StepOne, Inspect}
use Rattle.beam_machine.specs.declared.event.Event.TheVariants as event
use Rattle.beam_machine.specs.Prelude.{Command, SpellsCommand, command_in, kind_of}
use Rattle.beam_model.specs.Prelude.{CanLoad, IsFile, Listing}
use Rattle.beam_records.specs.JournalFile.{AreImages, IsEventOf, IsImage}
use Rattle.beam_remote.specs.Serving.{ArePrepared, IsBadFile, IsEvent, IsPrepared, IsUnloaded}

-- ---- images as files

pub image_of : (file bytes : List ℕ) (l : Listing) → file ≡ bytes → IsFile bytes l → CanLoad l → IsImage file l
image_of file bytes l e is_file can_load = record { is_file = subst (λ (f : List ℕ). IsFile f l) (sym e) is_file; can_load = can_load }

one_more : (files : List (List ℕ)) (ls : List Listing) (file : List ℕ) (l : Listing) → AreImages files ls → IsImage file l → AreImages (files ++ file ∷ []) (ls ++ l ∷ [])
one_more [] [] file l all one = (one, tt)
one_more [] (m ∷ ls) file l all one = absurd all
one_more (f ∷ files) [] file l all one = absurd all
one_more (f ∷ files) (m ∷ ls) file l all one = (all.0, one_more files ls file l all.1 one)

pub goes_on : (files : List (List ℕ)) (images : List Listing) (i : ℕ) (d l : Listing) (file : List ℕ) → i < length images → l ≡ get_or images i d
    → AreImages files (take i images) → IsImage file l → AreImages (files ++ file ∷ []) (take (i + 1) images)
goes_on files images i d l file lt is all one =
    let more : take (i + 1) images ≡ take i images ++ l ∷ [] = take_more images i d lt ∙ ap (λ m. take i images ++ m ∷ []) (sym is) in
    subst (λ (ls : List Listing). AreImages (files ++ file ∷ []) ls) (sym more) (one_more files (take i images) file l all one)

-- ---- files that are prepared

image_prepared : (file : List ℕ) (l : Listing) → IsPrepared file l → IsImage file l
image_prepared file l h = record { is_file = h.is_file; can_load = ∣ h.well_formed ∣₁ }

images_prepared : (files : List (List ℕ)) (ls : List Listing) → ArePrepared files ls → AreImages files ls
images_prepared [] [] h = tt
images_prepared [] (l ∷ ls) h = absurd h
images_prepared (file ∷ files) [] h = absurd h
images_prepared (file ∷ files) (l ∷ ls) h = (image_prepared file l h.0, images_prepared files ls h.1)

pub event_prepared : (c : Command) (e : DebugEvent Listing) → IsEvent c e → IsEventOf c e
event_prepared (Node (event.Load file)) e h = (h.0, image_prepared file h.0 h.1, h.2)
event_prepared (Node (event.LoadStrict file)) e h = (h.0, image_prepared file h.0 h.1, h.2)
event_prepared (Node (event.AtomicLoad mode files)) e h = (h.0, images_prepared files h.0 h.1, h.2)
event_prepared (Node (event.Delete name)) e h = h
event_prepared (Node (event.SoftPurge name)) e h = h
event_prepared (Node (event.Purge name)) e h = h
event_prepared (Node (event.Versions name)) e h = h
event_prepared (Node (event.Spawn name function arguments)) e h = h
event_prepared (Node (event.Send to message)) e h = h
event_prepared (Node (event.Steps pid rows)) e h = h
event_prepared (Node (event.Deliver pid)) e h = h
event_prepared (Node (event.Clock now)) e h = h
event_prepared (Node (event.Timeout pid)) e h = h
event_prepared (SetBreak spot) e h = h
event_prepared (ClearBreak spot) e h = h
event_prepared (Resume pid) e h = h
event_prepared (StepOne pid) e h = h
event_prepared (Inspect pid) e h = h

-- ---- files that can't be prepared

no_image : (file : List ℕ) (layer number : ℕ) (l : Listing) → IsBadFile file layer number → IsImage file l → ⊥
no_image file layer number l bad h =
    ∥∥₁_elim h.can_load (λ x y. absurd x) (λ well. bad.unloadable l (record { is_file = h.is_file; well_formed = well }))

no_images_after : (before : List (List ℕ)) (bad : List ℕ) (others : List (List ℕ)) (layer number : ℕ) (ls : List Listing) → IsBadFile bad layer number → AreImages (before ++ bad ∷ others) ls → ⊥
no_images_after [] bad others layer number [] h all = absurd all
no_images_after [] bad others layer number (l ∷ ls) h all = no_image bad layer number l h all.0
no_images_after (file ∷ before) bad others layer number [] h all = absurd all
no_images_after (file ∷ before) bad others layer number (l ∷ ls) h all = no_images_after before bad others layer number ls h all.1

pub event_unprepared : (c : Command) (layer number : ℕ) → IsUnloaded c (response.BadFile layer number) → (e : DebugEvent Listing) → IsEventOf c e → ⊥
event_unprepared (Node (event.Load file)) layer number bad e h = no_image file layer number h.0 bad h.1
event_unprepared (Node (event.LoadStrict file)) layer number bad e h = no_image file layer number h.0 bad h.1
event_unprepared (Node (event.AtomicLoad mode files)) layer number bad e h =
    no_images_after bad.before bad.bad bad.others layer number h.0 bad.is_bad (subst (λ (fs : List (List ℕ)). AreImages fs h.0) bad.stands h.1)
event_unprepared (Node (event.Delete name)) layer number bad e h = absurd bad
event_unprepared (Node (event.SoftPurge name)) layer number bad e h = absurd bad
event_unprepared (Node (event.Purge name)) layer number bad e h = absurd bad
event_unprepared (Node (event.Versions name)) layer number bad e h = absurd bad
event_unprepared (Node (event.Spawn name function arguments)) layer number bad e h = absurd bad
event_unprepared (Node (event.Send to message)) layer number bad e h = absurd bad
event_unprepared (Node (event.Steps pid rows)) layer number bad e h = absurd bad
event_unprepared (Node (event.Deliver pid)) layer number bad e h = absurd bad
event_unprepared (Node (event.Clock now)) layer number bad e h = absurd bad
event_unprepared (Node (event.Timeout pid)) layer number bad e h = absurd bad
event_unprepared (SetBreak spot) layer number bad e h = absurd bad
event_unprepared (ClearBreak spot) layer number bad e h = absurd bad
event_unprepared (Resume pid) layer number bad e h = absurd bad
event_unprepared (StepOne pid) layer number bad e h = absurd bad
event_unprepared (Inspect pid) layer number bad e h = absurd bad

-- ---- commands that are read

pub command_read : (n : ℕ) (body : List ℕ) (kind : CommandKind) (c : Command) → kind_of n ≡ Some kind → command_in kind body ≡ Some c → SpellsCommand n body c
command_read n body kind c e f = read_is_spelled n body c (ap (option_and_then (λ k. command_in k body)) e ∙ f)

pub no_kind : (n : ℕ) (body : List ℕ) → kind_of n ≡ None → (c : Command) → SpellsCommand n body c → ⊥
no_kind n body e c spelled =
    let f : None ≡ Some c = sym (ap (option_and_then (λ k. command_in k body)) e) ∙ read_again n body c spelled in
    absurd cc

pub no_command : (n : ℕ) (body : List ℕ) (kind : CommandKind) → kind_of n ≡ Some kind → command_in kind body ≡ None → (c : Command) → SpellsCommand n body c → ⊥
no_command n body kind e g c spelled =
    let f : None ≡ Some c = sym (ap (option_and_then (λ k. command_in k body)) e ∙ g) ∙ read_again n body c spelled in
    absurd cc
