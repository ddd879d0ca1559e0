-- Stories of the node with its debugger: events from the empty node on, each with the answer to it.
use Prim.Native.String.{String}
use Rattle.std.specs.Prelude.{◌≡◌, ℕ, List, [], ◌∷◌, ◌++◌, map, Option, Some, None, option_map, Ok, codes}
use Rattle.beam_machine.specs.declared.debug.DebugEvent.{DebugEvent}
use Rattle.beam_machine.specs.declared.debug.Spot.{Spot}
use Rattle.beam_machine.specs.declared.debug.Version.{Version}
use Rattle.beam_machine.specs.declared.event.Event.TheVariants.{Load, Spawn}
use Rattle.beam_machine.specs.declared.event.Reply.TheVariants.{Started, Versions}
use Rattle.beam_machine.specs.Prelude.{Debugged, DebugAnswer, undisturbed, is_among, debug_run, empty, process_of, view_of, view_text}
use Rattle.beam_model.specs.Prelude.{Listing}
use Rattle.beam_machine.specs.declared.debug.DebugEvent.TheVariants.{Node as NodeEvent}
use Rattle.beam_machine.specs.declared.debug.DebugReply.TheVariants.{Node}
use Rattle.beam_laws.specs.Listings.{t}
use Rattle.beam_laws.specs.Terms.{integer}

abbrev pub Debugging : Type 0
Debugging = List (DebugEvent Listing × DebugAnswer)

-- from the empty node on, each event has the answer that the story has
abbrev pub Happens : Debugging → Type 0
Happens story = (debug_run (undisturbed empty) (map (λ part. part.0) story)).answers ≡ map (λ part. part.1) story

-- the node after the story
abbrev pub after : Debugging → Debugged
after story = (debug_run (undisturbed empty) (map (λ part. part.0) story)).state

-- the view of a process after the story
abbrev pub seen_in : Debugged → ℕ → Option (List ℕ)
seen_in d pid = option_map (λ p. view_text (view_of d.node.code (is_among pid d.held) p)) (process_of d.node.processes pid)

abbrev pub seen_after : Debugging → ℕ → Option (List ℕ)
seen_after story pid = seen_in (after story) pid

abbrev pub spot : Version → String → ℕ → ℕ → Spot
spot version name label rows = record { version = version; «module» = codes name; label = label; rows = rows }

-- t is loaded, and a process is about to enter t:sum(4)
abbrev pub before_sum : Debugging
before_sum =
    (NodeEvent (Load t), Ok (Node (Versions (Some 1) None)))
    ∷ (NodeEvent (Spawn (codes "t") (codes "sum") (integer 4 ∷ [])), Ok (Node (Started 1)))
    ∷ []

-- the view of that process after five rows, and its status
abbrev pub sum_seen : String → List ℕ
sum_seen stands =
    codes "pid 1 " ++ codes stands ++ codes "\nat t:sum/2 label 5 + 1 instance 1\nnext {gc_bif,'-',{f,0},2,[{x,0},{integer,1}],{x,0}}\n"
    ++ codes "x0 = 4\nx1 = 4\nframe return end\nmailbox 0 save 0 transit 0\n"
