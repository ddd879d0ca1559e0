-- The views of frames that are walked over.
use Rattle.std.proofs.Common.{◌≡◌, ◌==◌, false, true, List, [], ◌∷◌, length, refl, arith, eqb-true, map, option_map}
use Rattle.beam_machine.specs.declared.process.Frame.{Frame}
use Rattle.beam_machine.specs.Prelude.{Code, FrameView, frame_view, slots_of, location}
use Rattle.beam_stack.specs.Prelude.{newest_y, newest_back, older_than}

-- the view of the newest of frames
abbrev pub newest_view : Code → List Frame → FrameView
newest_view code fs = record { back = option_map (location code) (newest_back fs); y = slots_of (newest_y fs) }

pub one_more : (code : Code) (fs : List Frame) → (length fs == 0) ≡ false → newest_view code fs ∷ map (frame_view code) (older_than fs) ≡ map (frame_view code) fs
one_more code [] e = cc
one_more code (f ∷ fs) e = refl

pub none_more : (code : Code) (fs : List Frame) → (length fs == 0) ≡ true → map (frame_view code) fs ≡ []
none_more code [] e = refl
none_more code (f ∷ fs) e = absurd (omega (arith, eqb-true (length (f ∷ fs)) 0 e))
