-- What is told of connections, as tokens of JSON.
use Rattle.std.specs.Prelude.{List, ◌++◌, codes, string_bytes}
use Rattle.json.specs.Token.{Token}
use Rattle.beam_page.specs.Json.{array, count, member, object, text}
use Rattle.beam_page.specs.declared.connection.ConnectionFacts.{ConnectionFacts}
use Rattle.beam_page.specs.declared.connection.ConnectionList.{ConnectionList}

unfoldable pub connection_tokens : ConnectionFacts → List Token
connection_tokens c = object (
    member (codes "place") (count c.place) ++ member (codes "peer") (text (string_bytes c.peer)) ++
    member (codes "since_ms") (count c.since_ms))

unfoldable pub connection_list_member : ConnectionList → List Token
connection_list_member l = member (codes "connections") (array connection_tokens l.connections.items)

unfoldable pub connection_list_tokens : ConnectionList → List Token
connection_list_tokens l = object (connection_list_member l)
