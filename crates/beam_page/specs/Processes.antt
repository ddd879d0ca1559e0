-- What is told of processes, as tokens of JSON.
use Rattle.std.specs.Prelude.{ℕ, List, ◌++◌, codes, string_bytes}
use Rattle.json.specs.Token.{Token}
use Rattle.beam_page.specs.Json.{array, count, member, object, or_null, text, truth}
use Rattle.beam_page.specs.declared.process.ClippedText.{ClippedText}
use Rattle.beam_page.specs.declared.process.CodeAge.{CodeAge}
use Rattle.beam_page.specs.declared.process.CodeAge.TheVariants.{Entry, Current, Old, Gone}
use Rattle.beam_page.specs.declared.process.PlaceFacts.{PlaceFacts}
use Rattle.beam_page.specs.declared.process.ProcessFacts.{ProcessFacts}
use Rattle.beam_page.specs.declared.process.ProcessList.{ProcessList}
use Rattle.beam_page.specs.declared.process.ProcessState.{ProcessState}
use Rattle.beam_page.specs.declared.process.ProcessState.TheVariants.{Running, Waiting, Held, Ended}

abbrev pub age_word : CodeAge → List ℕ
age_word Entry = codes "entry"
age_word Current = codes "current"
age_word Old = codes "old"
age_word Gone = codes "gone"

abbrev pub state_word : ProcessState → List ℕ
state_word Running = codes "running"
state_word Waiting = codes "waiting"
state_word Held = codes "held"
state_word Ended = codes "ended"

unfoldable pub place_tokens : PlaceFacts → List Token
place_tokens p = object (
    member (codes "module") (text p.module) ++ member (codes "function") (text p.function) ++ member (codes "arity") (count p.arity) ++
    member (codes "label") (count p.label) ++ member (codes "row") (count p.row) ++ member (codes "instance") (count p.instance) ++
    member (codes "code") (text (age_word p.code)))

unfoldable pub clipped_tokens : ClippedText → List Token
clipped_tokens t = object (member (codes "text") (text (string_bytes t.text)) ++ member (codes "whole") (truth t.is_whole))

unfoldable pub process_members : ProcessFacts → List Token
process_members p =
    member (codes "pid") (count p.pid) ++ member (codes "name") (or_null text p.name) ++ member (codes "state") (text (state_word p.state)) ++
    member (codes "mailbox") (count p.mailbox) ++ member (codes "transit") (count p.transit) ++ member (codes "stack_words") (count p.stack_words) ++
    member (codes "monitors") (count p.monitors) ++ member (codes "at") (or_null place_tokens p.at) ++
    member (codes "reason") (or_null clipped_tokens p.reason)

unfoldable pub process_tokens : ProcessFacts → List Token
process_tokens p = object (process_members p)

unfoldable pub process_list_tokens : ProcessList → List Token
process_list_tokens l = object (
    member (codes "processes") (array process_tokens l.processes.items) ++ member (codes "next") (or_null count l.next) ++
    member (codes "matching") (or_null count l.matching) ++ member (codes "seen") (count l.seen) ++
    member (codes "partial") (truth l.is_partial))
