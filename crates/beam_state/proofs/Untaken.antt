-- Signals that are posted and taken back.
use Rattle.std.proofs.Common.{◌≡◌, ℕ, ◌-◌, List, [], ◌∷◌, ◌++◌, length, take, refl, ap, ◌∙◌, arith, Option, Some, None}
use Rattle.std.proofs.Math.Seq.{take-append_seam}
use Rattle.std.proofs.lemmas.List.{length_push}
use Rattle.beam_machine.specs.declared.process.Signal.{Signal}
use Rattle.beam_machine.specs.Prelude.{Sent, Process, process_of, with_process, alive, live_process, posted_to, posted}
use Rattle.beam_laws.specs.Prelude.{posted_all}
use Rattle.beam_laws.proofs.Ending.{alive_is}
use Rattle.beam_laws.proofs.Numbered.{put_same, put_put, put_here, alive_of}
use Rattle.beam_state.specs.Posting.{without_last, taken_of, taken, all_taken}

-- ---- one signal

last_gone : (xs : List Signal) (x : Signal) → take (length (xs ++ x ∷ []) - 1) (xs ++ x ∷ []) ≡ xs
last_gone xs x =
    let many : length (xs ++ x ∷ []) - 1 ≡ length xs = omega (arith, length_push xs x) in
    ap (λ n. take n (xs ++ x ∷ [])) many ∙ take-append_seam xs (x ∷ [])

abbrev more : Signal → Process → Process
more signal p = record p { transit = p.transit ++ signal ∷ [] }

of_one : (ps : List Process) (to : ℕ) (signal : Signal) (o : Option Process) → live_process ps to ≡ o → taken (posted_to ps to signal o) to ≡ ps
of_one ps to signal None e = ap (taken_of ps to) e
of_one ps to signal (Some p) e =
    let is = alive_is (process_of ps to) p e in
    let qs : List Process = with_process ps to (more signal p) in
    let there : live_process qs to ≡ Some (more signal p) = ap alive (put_here ps to p (more signal p) is.0) ∙ alive_of (more signal p) is.1 in
    let back : without_last (more signal p) ≡ p = ap (λ (ts : List Signal). record p { transit = ts }) (last_gone p.transit signal) in
    ap (taken_of qs to) there
    ∙ (put_put ps to (more signal p) (without_last (more signal p))
    ∙ (ap (with_process ps to) back ∙ put_same ps to p is.0))

untaken : (ps : List Process) (to : ℕ) (signal : Signal) → taken (posted ps to signal) to ≡ ps
untaken ps to signal = of_one ps to signal (live_process ps to) refl

-- ---- several

-- signals that were posted last are taken back
pub all_untaken : (ps : List Process) (sent : List Sent) → all_taken (posted_all ps sent) sent ≡ ps
all_untaken ps [] = refl
all_untaken ps (one ∷ rest) = ap (λ qs. taken qs one.to) (all_untaken (posted ps one.to one.signal) rest) ∙ untaken ps one.to one.signal

pub posted_more : (ps : List Process) (sent : List Sent) (one : Sent) → posted_all ps (sent ++ one ∷ []) ≡ posted (posted_all ps sent) one.to one.signal
posted_more ps [] one = refl
posted_more ps (first ∷ rest) one = posted_more (posted ps first.to first.signal) rest one
