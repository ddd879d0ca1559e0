use Rattle.std.proofs.Common.{◌≡◌, ◌∙◌, ap, ℕ, List, ◌++◌, map, codes}
use Rattle.std.specs.Fmt.{decimal}
use Rattle.beam_machine.specs.Prelude.{counts_text, frames_text, next_text, status_text, xs_text}
use Rattle.beam_debug.specs.Prelude.{frame_seen, live_seen, next_seen}
use Rattle.beam_debug.proofs.Printed.{piece_last, piece_more}
use Rattle.beam_debug.proofs.print.print_live.Goals as goal

pub returns : goal.returns
returns c =
    let view = c.args.view.now in
    let old : List ℕ = c.args.out.now in
    let word : List ℕ = codes "pid " in
    let pid : List ℕ = word ++ decimal view.pid in
    let space : List ℕ = pid ++ codes " " in
    let status : List ℕ = space ++ status_text view.held view.status in
    let line : List ℕ = status ++ codes "\n" in
    let next : List ℕ = line ++ next_text (next_seen view.next) in
    let xs : List ℕ = next ++ xs_text 0 view.x.items in
    let frames : List ℕ = xs ++ frames_text (map frame_seen view.frames.items) in
    let to_word : c.push_bytes.new.self ≡ old ++ word = c.in_ok-push_bytes.ensures in
    let to_pid : c.print_number.new.out ≡ old ++ pid = piece_more old _ _ word (decimal view.pid) to_word c.in_ok-print_number.ensures in
    let to_space : c.push_bytes-2.new.self ≡ old ++ space =
    piece_more old _ _ pid (codes " ") to_pid c.in_ok-push_bytes-2.ensures in
    let to_status : c.print_status.new.out ≡ old ++ status =
    piece_more old _ _ space (status_text view.held view.status) to_space c.in_ok-print_status.ensures in
    let to_line : c.push_bytes-3.new.self ≡ old ++ line =
    piece_more old _ _ status (codes "\n") to_status c.in_ok-push_bytes-3.ensures in
    let to_next : c.print_next.new.out ≡ old ++ next = piece_more old _ _ line (next_text (next_seen view.next)) to_line c.in_ok-print_next.ensures in
    let to_xs : c.print_xs.new.out ≡ old ++ xs = piece_more old _ _ next (xs_text 0 view.x.items) to_next
    (c.in_ok-print_xs.ensures ∙ ap (λ values. c.print_next.new.out ++ xs_text 0 values) c.deref.ensures.value) in
    let to_frames : c.print_frames.new.out ≡ old ++ frames = piece_more old _ _ xs (frames_text (map frame_seen view.frames.items)) to_xs
    (c.in_ok-print_frames.ensures ∙ ap (λ values. c.print_xs.new.out ++ frames_text (map frame_seen values)) c.deref-2.ensures.value) in
    piece_last c.print_counts.result old _ _ frames (counts_text (live_seen view)) to_frames c.print_counts.ensures
