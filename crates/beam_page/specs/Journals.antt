-- What is told of a journal, as tokens of JSON.
use Rattle.std.specs.Prelude.{List, ◌++◌, codes}
use Rattle.json.specs.Token.{Token}
use Rattle.beam_page.specs.Json.{count, member, object, truth}
use Rattle.beam_page.specs.declared.journal.EntryFacts.{EntryFacts}
use Rattle.beam_page.specs.declared.journal.JournalFacts.{JournalFacts}

unfoldable pub entry_tokens : EntryFacts → List Token
entry_tokens e = object (
    member (codes "commands") (count e.commands) ++ member (codes "slices") (count e.slices) ++
    member (codes "deliveries") (count e.deliveries) ++ member (codes "moments") (count e.moments) ++
    member (codes "timeouts") (count e.timeouts))

unfoldable pub journal_tokens : JournalFacts → List Token
journal_tokens j = object (
    member (codes "entries") (count j.entries) ++ member (codes "in_memory") (count j.in_memory) ++
    member (codes "limit") (count j.limit) ++ member (codes "in_file") (truth j.is_in_file) ++
    member (codes "stops_when_full") (truth j.stops_when_full) ++ member (codes "kinds") (entry_tokens j.kinds))
