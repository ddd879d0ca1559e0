-- What is told of the log, as tokens of JSON.
use Rattle.std.specs.Prelude.{List, ◌++◌, codes, string_bytes}
use Rattle.json.specs.Token.{Token}
use Rattle.beam_page.specs.Json.{array, count, member, object, text}
use Rattle.beam_page.specs.declared.log.LogFacts.{LogFacts}
use Rattle.beam_page.specs.declared.log.LogTail.{LogTail}

unfoldable pub line_tokens : LogFacts → List Token
line_tokens l = object (
    member (codes "number") (count l.number) ++ member (codes "time_ms") (count l.time_ms) ++
    member (codes "text") (text (string_bytes l.text)))

unfoldable pub log_tail_tokens : LogTail → List Token
log_tail_tokens t = object (member (codes "lines") (array line_tokens t.lines.items) ++ member (codes "lost") (count t.lost))
