-- What is told of one process, as tokens of JSON.
use Rattle.std.specs.Prelude.{List, ◌++◌, codes, string_bytes}
use Rattle.json.specs.Token.{Token}
use Rattle.beam_page.specs.Json.{array, count, member, object, or_null, text, truth}
use Rattle.beam_page.specs.Processes.{clipped_tokens, place_tokens, process_members}
use Rattle.beam_page.specs.declared.process_detail.FrameFacts.{FrameFacts}
use Rattle.beam_page.specs.declared.process_detail.ProcessDetail.{ProcessDetail}

unfoldable pub frame_tokens : FrameFacts → List Token
frame_tokens f = object (
    member (codes "back") (or_null place_tokens f.back) ++ member (codes "y") (array (or_null clipped_tokens) f.y.items))

-- what only one process tells, behind the members of each
unfoldable pub detail_members : ProcessDetail → List Token
detail_members d =
    member (codes "save") (count d.save) ++ member (codes "deadline_ms") (or_null count d.deadline_ms) ++
    member (codes "next") (or_null (λ s. text (string_bytes s)) d.next) ++ member (codes "x") (array clipped_tokens d.x.items) ++
    member (codes "frames") (array frame_tokens d.frames.items) ++
    member (codes "first_messages") (array clipped_tokens d.first_messages.items) ++
    member (codes "monitored") (array count d.monitored.items) ++ member (codes "cut") (truth d.is_cut)

unfoldable pub process_detail_tokens : ProcessDetail → List Token
process_detail_tokens d = object (process_members d.process ++ detail_members d)
