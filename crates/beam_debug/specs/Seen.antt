-- Views of a process, as values of the definitions.
use Rattle.std.specs.Prelude.{ℕ, Bool, List, ◌++◌, length, map, option_map, codes}
use Rattle.beam_machine.specs.declared.process.Slot.{Slot}
use Rattle.beam_machine.specs.Prelude.{Code, Process, Location, NextView, at_row, entry, nowhere, FrameView, LiveView, View, live, over, frame_view, instruction_in, next_of, back_text, register_text, slot_text, ys_text}
use Rattle.beam_debug.specs.declared.view.Location.{Location as TheLocation}
use Rattle.beam_debug.specs.declared.view.Next.{Next as TheNext}
use Rattle.beam_debug.specs.declared.view.Next.TheVariants.{Row, Entry, Nothing}
use Rattle.beam_debug.specs.declared.view.FrameView.{FrameView as TheFrameView}
use Rattle.beam_debug.specs.declared.view.LiveView.{LiveView as TheLiveView}
use Rattle.beam_debug.specs.declared.view.View.{View as TheView}
use Rattle.beam_debug.specs.declared.view.View.TheVariants.{Live, Over}

abbrev pub location_seen : TheLocation → Location
location_seen s = record { function = s.function; label = s.label; rows = s.rows; instance = s.instance }

abbrev pub next_seen : TheNext → NextView
next_seen (Row r) = at_row (location_seen r.location) (instruction_in r.image r.at)
next_seen (Entry function) = entry function
next_seen Nothing = nowhere

abbrev pub frame_seen : TheFrameView → FrameView
frame_seen f = record { back = option_map location_seen f.back; y = f.y.items }

abbrev pub live_seen : TheLiveView → LiveView
live_seen v = record {
  pid = v.pid;
  status = v.status;
  held = v.held;
  next = next_seen v.next;
  x = v.x.items;
  frames = map frame_seen v.frames.items;
  messages = v.messages;
  save = v.save;
  transit = v.transit;
}

abbrev pub seen : TheView → View
seen (Live v) = live (live_seen v)
seen (Over pid reason) = over pid reason

-- the view of a process that hasn't ended
abbrev pub live_of : Code → Bool → Process → LiveView
live_of code held p = record {
  pid = p.pid;
  status = p.status;
  held = held;
  next = next_of code p.goes;
  x = p.x;
  frames = map (frame_view code) p.frames;
  messages = length p.mailbox.messages;
  save = p.mailbox.position;
  transit = length p.transit;
}

-- ---- text

-- the line of a y register
abbrev pub y_text : ℕ → Slot → List ℕ
y_text n slot = codes "y" ++ register_text n (slot_text slot)

-- the lines of a frame
abbrev pub frame_text : FrameView → List ℕ
frame_text frame = codes "frame return " ++ back_text frame.back ++ codes "\n" ++ ys_text 0 frame.y
