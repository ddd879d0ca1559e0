-- Frames, newest first.
use Rattle.std.proofs.Common.{◌≡◌, List, [], ◌∷◌, ◌++◌, reverse, sym, ap, ◌∙◌, append_assoc, map}
use Rattle.std.proofs.lemmas.List.{reverse-append}
use Rattle.beam_machine.specs.declared.process.Frame.{Frame}
use Rattle.beam_machine.specs.Prelude.{Code, FrameView, frame_view}
use Rattle.beam_debug.specs.declared.view.FrameView.{FrameView as TheFrameView}
use Rattle.beam_debug.specs.Prelude.{frame_seen}
use Rattle.beam_debug.proofs.Runs.{map_push}

newest_first : (older : List Frame) (newest : Frame) → reverse (older ++ newest ∷ []) ≡ newest ∷ reverse older
newest_first older newest = reverse-append older (newest ∷ [])

-- the view of one more frame is added
pub one_seen : (code : Code) (views : List TheFrameView) (view : TheFrameView) (older rest : List Frame) (newest : Frame) → rest ≡ older ++ newest ∷ []
    → frame_seen view ≡ frame_view code newest
    → map frame_seen (views ++ view ∷ []) ++ map (frame_view code) (reverse older) ≡ map frame_seen views ++ map (frame_view code) (reverse rest)
one_seen code views view older rest newest is same =
    let left : List FrameView = map (frame_view code) (reverse older) in
    ap (λ l. l ++ left) (map_push frame_seen views view)
    ∙ (append_assoc (map frame_seen views) (frame_seen view ∷ []) left
    ∙ (ap (λ (v : FrameView). map frame_seen views ++ v ∷ left) same
    ∙ ap (λ l. map frame_seen views ++ map (frame_view code) l) (sym (newest_first older newest) ∙ ap reverse (sym is))))
