-- Worked bytes.
use Rattle.std.proofs.Common.{◌≡◌, ◌≤◌, ℕ, zero, suc, List, [], ◌∷◌, length, Some, None, refl, ap, arith, codes, pos}
use Rattle.std.specs.Str.{IsAscii}
use Rattle.std.specs.Option.{option_map}
use Rattle.std.proofs.lemmas.Str.{IsUtf8-from_ascii, chars-IsAscii}
use Rattle.beam_machine.specs.declared.command.FrameFault.TheVariants.{TooLong, BadKind, BadCommand}
use Rattle.beam_machine.specs.declared.event.Event.TheVariants.{AtomicLoad, Spawn, Steps, Versions}
use Rattle.beam_machine.specs.declared.event.UpgradeMode.TheVariants.{Soft}
use Rattle.beam_machine.specs.declared.event.Reply.TheVariants.{Ran, Started, Upgraded, Versions as InstancesOf}
use Rattle.beam_machine.specs.Prelude.{SpellsCommand, spawn, kind_of, number_in_body, files_in, command_or_fault, after_length, frame_in, one_frame, bad_frame, reply_body, frame_of, fault_frame}
use Rattle.beam_model.specs.Prelude.{written_integer, written_atom, small_atom_utf8_ext, SpellsTerm, utf8_atom, string_ext, small_tuple_ext, no_elements, one_element}
use Rattle.beam_term.specs.Prelude.{IsAtomText, int_term, atom_term, tuple_of, list_of, terms_of, no_terms}
use Rattle.beam_machine.specs.declared.command.Response.TheVariants as response
use Rattle.beam_machine.specs.declared.debug.DebugEvent.TheVariants.{Node}
use Rattle.beam_machine.specs.declared.event.Then.TheVariants.{Ended}
use Rattle.beam_frame.proofs.Spelling.{atom_again}

pub steps_frame : frame_in (0 ∷ 0 ∷ 0 ∷ 9 ∷ 8 ∷ 0 ∷ 0 ∷ 0 ∷ 1 ∷ 0 ∷ 0 ∷ 0 ∷ 100 ∷ []) ≡ one_frame (Node (Steps 1 100)) []
unfolding frame_in after_length kind_of number_in_body
steps_frame = refl

pub upgrade_frame : frame_in (0 ∷ 0 ∷ 0 ∷ 17 ∷ 18 ∷ 1 ∷ 0 ∷ 0 ∷ 0 ∷ 2 ∷ 0 ∷ 0 ∷ 0 ∷ 1 ∷ 70 ∷ 0 ∷ 0 ∷ 0 ∷ 2 ∷ 79 ∷ 82 ∷ []) ≡ one_frame (Node (AtomicLoad Soft ((70 ∷ []) ∷ (79 ∷ 82 ∷ []) ∷ []))) []
unfolding frame_in after_length kind_of number_in_body files_in
upgrade_frame = refl

pub cut_file : frame_in (0 ∷ 0 ∷ 0 ∷ 11 ∷ 18 ∷ 0 ∷ 0 ∷ 0 ∷ 0 ∷ 1 ∷ 0 ∷ 0 ∷ 0 ∷ 2 ∷ 70 ∷ []) ≡ bad_frame BadCommand
unfolding frame_in after_length kind_of number_in_body files_in
cut_file = refl

pub empty_frame : frame_in (0 ∷ 0 ∷ 0 ∷ 0 ∷ []) ≡ bad_frame BadKind
unfolding frame_in after_length
empty_frame = refl

pub unknown_frame : frame_in (0 ∷ 0 ∷ 0 ∷ 1 ∷ 99 ∷ []) ≡ bad_frame BadKind
unfolding frame_in after_length kind_of
unknown_frame = refl

pub long_frame : frame_in (0 ∷ 128 ∷ 0 ∷ 1 ∷ []) ≡ bad_frame TooLong
unfolding frame_in after_length
long_frame = refl

pub cut_body : frame_in (0 ∷ 0 ∷ 0 ∷ 8 ∷ 8 ∷ 0 ∷ 0 ∷ 0 ∷ 1 ∷ 0 ∷ 0 ∷ 0 ∷ []) ≡ bad_frame BadCommand
unfolding frame_in after_length kind_of number_in_body
cut_body = refl

name : (text : List ℕ) → IsAtomText text → SpellsTerm (119 ∷ length text ∷ text) (atom_term text)
name text h = utf8_atom (119 ∷ length text ∷ text) text (small_atom_utf8_ext text h)

ascii_t : IsAscii (codes "t")
ascii_t zero = omega arith
ascii_t (suc i) = omega arith

ascii_sum : IsAscii (codes "sum")
ascii_sum zero = omega arith
ascii_sum (suc zero) = omega arith
ascii_sum (suc (suc zero)) = omega arith
ascii_sum (suc (suc (suc i))) = omega arith

lawful : (text : List ℕ) → IsAscii text → length text ≤ 255 → IsAtomText text
lawful text ascii few = record { utf8 = IsUtf8-from_ascii text ascii; short = rw (chars-IsAscii text ascii) few }

lawful_t : IsAtomText (codes "t")
lawful_t = lawful (codes "t") ascii_t (omega arith)

lawful_sum : IsAtomText (codes "sum")
lawful_sum = lawful (codes "sum") ascii_sum (omega arith)

pub versions_frame : frame_in (0 ∷ 0 ∷ 0 ∷ 2 ∷ 17 ∷ 116 ∷ []) ≡ one_frame (Node (Versions (codes "t"))) []
unfolding frame_in after_length kind_of
versions_frame = ap (λ o. command_or_fault (option_map (λ name. Node (Versions name)) o) []) (atom_again (codes "t") lawful_t)

four : SpellsTerm (107 ∷ 0 ∷ 1 ∷ 4 ∷ []) (list_of (int_term (pos 4) ∷ []))
four = string_ext (0 ∷ 1 ∷ []) (4 ∷ []) (record { wide = refl; value = refl })

call : SpellsTerm (104 ∷ 3 ∷ 119 ∷ 1 ∷ 116 ∷ 119 ∷ 3 ∷ 115 ∷ 117 ∷ 109 ∷ 107 ∷ 0 ∷ 1 ∷ 4 ∷ []) (tuple_of (atom_term (codes "t") ∷ atom_term (codes "sum") ∷ list_of (int_term (pos 4) ∷ []) ∷ []))
call = small_tuple_ext (119 ∷ 1 ∷ 116 ∷ 119 ∷ 3 ∷ 115 ∷ 117 ∷ 109 ∷ 107 ∷ 0 ∷ 1 ∷ 4 ∷ []) (terms_of (atom_term (codes "t") ∷ atom_term (codes "sum") ∷ list_of (int_term (pos 4) ∷ []) ∷ []))
    (one_element (119 ∷ 1 ∷ 116 ∷ []) (119 ∷ 3 ∷ 115 ∷ 117 ∷ 109 ∷ 107 ∷ 0 ∷ 1 ∷ 4 ∷ []) (atom_term (codes "t")) (terms_of (atom_term (codes "sum") ∷ list_of (int_term (pos 4) ∷ []) ∷ [])) (name (codes "t") lawful_t)
    (one_element (119 ∷ 3 ∷ 115 ∷ 117 ∷ 109 ∷ []) (107 ∷ 0 ∷ 1 ∷ 4 ∷ []) (atom_term (codes "sum")) (terms_of (list_of (int_term (pos 4) ∷ []) ∷ [])) (name (codes "sum") lawful_sum)
    (one_element (107 ∷ 0 ∷ 1 ∷ 4 ∷ []) [] (list_of (int_term (pos 4) ∷ [])) no_terms four no_elements)))

pub spawn_body : SpellsCommand 6 (131 ∷ 104 ∷ 3 ∷ 119 ∷ 1 ∷ 116 ∷ 119 ∷ 3 ∷ 115 ∷ 117 ∷ 109 ∷ 107 ∷ 0 ∷ 1 ∷ 4 ∷ []) (Node (Spawn (codes "t") (codes "sum") (int_term (pos 4) ∷ [])))
spawn_body = spawn (131 ∷ 104 ∷ 3 ∷ 119 ∷ 1 ∷ 116 ∷ 119 ∷ 3 ∷ 115 ∷ 117 ∷ 109 ∷ 107 ∷ 0 ∷ 1 ∷ 4 ∷ []) (codes "t") (codes "sum") (int_term (pos 4) ∷ []) (omega arith)
    (record { body = 104 ∷ 3 ∷ 119 ∷ 1 ∷ 116 ∷ 119 ∷ 3 ∷ 115 ∷ 117 ∷ 109 ∷ 107 ∷ 0 ∷ 1 ∷ 4 ∷ []; versioned = refl; spelled = call; shallow = omega arith })

pub ended_reply : frame_of (reply_body (response.Node (Ran 22 (Ended (atom_term (codes "normal")) (int_term (pos 10)))))) ≡ 0 ∷ 0 ∷ 0 ∷ 18 ∷ 3 ∷ 0 ∷ 0 ∷ 0 ∷ 22 ∷ 3 ∷ 131 ∷ 119 ∷ 6 ∷ 110 ∷ 111 ∷ 114 ∷ 109 ∷ 97 ∷ 108 ∷ 131 ∷ 97 ∷ 10 ∷ []
unfolding written_integer written_atom
ended_reply = refl

pub started_reply : frame_of (reply_body (response.Node (Started 1))) ≡ 0 ∷ 0 ∷ 0 ∷ 5 ∷ 2 ∷ 0 ∷ 0 ∷ 0 ∷ 1 ∷ []
started_reply = refl

pub loaded_reply : frame_of (reply_body (response.Node (InstancesOf (Some 1) None))) ≡ 0 ∷ 0 ∷ 0 ∷ 9 ∷ 5 ∷ 0 ∷ 0 ∷ 0 ∷ 1 ∷ 0 ∷ 0 ∷ 0 ∷ 0 ∷ []
loaded_reply = refl

pub upgraded_reply : frame_of (reply_body (response.Node (Upgraded (record { current = Some 3; old = Some 1 } ∷ record { current = Some 4; old = Some 2 } ∷ []))))
    ≡ 0 ∷ 0 ∷ 0 ∷ 21 ∷ 8 ∷ 0 ∷ 0 ∷ 0 ∷ 2 ∷ 0 ∷ 0 ∷ 0 ∷ 3 ∷ 0 ∷ 0 ∷ 0 ∷ 1 ∷ 0 ∷ 0 ∷ 0 ∷ 4 ∷ 0 ∷ 0 ∷ 0 ∷ 2 ∷ []
upgraded_reply = refl

pub busy_reply : frame_of (reply_body response.Busy) ≡ 0 ∷ 0 ∷ 0 ∷ 2 ∷ 6 ∷ 6 ∷ []
busy_reply = refl

pub full_reply : frame_of (reply_body response.JournalFull) ≡ 0 ∷ 0 ∷ 0 ∷ 2 ∷ 6 ∷ 10 ∷ []
full_reply = refl

pub kind_reply : fault_frame BadKind ≡ 0 ∷ 0 ∷ 0 ∷ 2 ∷ 7 ∷ 2 ∷ []
kind_reply = refl
