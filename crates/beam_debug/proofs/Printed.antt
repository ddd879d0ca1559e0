-- Texts that are appended piece by piece.
use Rattle.std.proofs.Common.{◌≡◌, ◌∙◌, ap, sym, ℕ, List, ◌∷◌, ◌++◌, append_assoc, map, Result, Ok, Err, OnOk}
use Rattle.beam_machine.specs.Prelude.{frames_text}
use Rattle.beam_debug.specs.declared.view.FrameView.{FrameView as TheFrameView}
use Rattle.beam_debug.specs.Prelude.{frame_seen, frame_text}

-- one more piece was appended
pub piece_more : (old mid new text piece : List ℕ) → mid ≡ old ++ text → new ≡ mid ++ piece → new ≡ old ++ (text ++ piece)
piece_more old mid new text piece before appended = appended ∙ ap (λ (t : List ℕ). t ++ piece) before ∙ append_assoc old text piece

-- the last piece was appended
pub piece_last : {T E : Type 0} (r : Result T E) (old mid new text piece : List ℕ)
    → mid ≡ old ++ text → OnOk r (new ≡ mid ++ piece) → OnOk r (new ≡ old ++ (text ++ piece))
piece_last (Err e) old mid new text piece before appended = appended
piece_last (Ok x) old mid new text piece before appended = piece_more old mid new text piece before appended

-- the lines of a frame come before those of older frames
frames_first : (out : List ℕ) (frame : TheFrameView) (older : List TheFrameView)
    → (out ++ frame_text (frame_seen frame)) ++ frames_text (map frame_seen older) ≡ out ++ frames_text (map frame_seen (frame ∷ older))
frames_first out frame older = simp append_assoc

-- the lines of one more frame were appended
pub frame_first : (out new whole : List ℕ) (frame : TheFrameView) (older rest : List TheFrameView)
    → rest ≡ frame ∷ older → new ≡ out ++ frame_text (frame_seen frame)
    → out ++ frames_text (map frame_seen rest) ≡ whole → new ++ frames_text (map frame_seen older) ≡ whole
frame_first out new whole frame older rest is appended before =
    ap (λ (t : List ℕ). t ++ frames_text (map frame_seen older)) appended ∙ frames_first out frame older
    ∙ ap (λ (fs : List TheFrameView). out ++ frames_text (map frame_seen fs)) (sym is) ∙ before
