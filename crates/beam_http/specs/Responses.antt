-- The bytes of a response. (RFC 9112, sections 2.1, 4, 5 and 6.2; RFC 9110, sections 8.3 and 11.6.1)
use Rattle.std.specs.Prelude.{ℕ, List, [], ◌++◌, codes, decimal, length}
use Rattle.beam_http.specs.declared.response.TheConstants.{SCRIPT_HASH}
use Rattle.beam_http.specs.declared.refusal.RequestRefusal.{RequestRefusal}
use Rattle.beam_http.specs.declared.refusal.RequestRefusal.TheVariants as refusal
use Rattle.beam_http.specs.declared.response.ContentType.{ContentType}
use Rattle.beam_http.specs.declared.response.ContentType.TheVariants as content
use Rattle.beam_http.specs.declared.response.StatusCode.{StatusCode}
use Rattle.beam_http.specs.declared.response.StatusCode.TheVariants as status

-- the status of a request by which nothing is done
abbrev pub status_of : RequestRefusal → StatusCode
status_of refusal.BadRequest = status.BadRequest
status_of refusal.Unauthorized = status.Unauthorized
status_of refusal.Forbidden = status.Forbidden
status_of refusal.NotFound = status.NotFound
status_of refusal.NotAllowed = status.NotAllowed
status_of refusal.TooLarge = status.TooLarge

-- a status with its reason
abbrev pub reason_of : StatusCode → List ℕ
reason_of status.Ok = codes "200 OK"
reason_of status.Accepted = codes "202 Accepted"
reason_of status.BadRequest = codes "400 Bad Request"
reason_of status.Unauthorized = codes "401 Unauthorized"
reason_of status.Forbidden = codes "403 Forbidden"
reason_of status.NotFound = codes "404 Not Found"
reason_of status.NotAllowed = codes "405 Method Not Allowed"
reason_of status.TooLarge = codes "431 Request Header Fields Too Large"
reason_of status.Unavailable = codes "503 Service Unavailable"

-- the field that says how a client is known, where it wasn't
abbrev pub challenge_of : StatusCode → List ℕ
challenge_of status.Ok = []
challenge_of status.Accepted = []
challenge_of status.BadRequest = []
challenge_of status.Unauthorized = codes "WWW-Authenticate: Bearer\r\n"
challenge_of status.Forbidden = []
challenge_of status.NotFound = []
challenge_of status.NotAllowed = []
challenge_of status.TooLarge = []
challenge_of status.Unavailable = []

-- the media type of a body
abbrev pub content_type_of : ContentType → List ℕ
content_type_of content.Text = codes "text/plain; charset=utf-8"
content_type_of content.Json = codes "application/json; charset=utf-8"
content_type_of content.Metrics = codes "text/plain; version=0.0.4; charset=utf-8"
content_type_of content.Page = codes "text/html; charset=utf-8"

-- how long a body is, the empty line that ends the fields, and the body
unfoldable pub body_text : List ℕ → List ℕ
body_text body = codes "Content-Length: " ++ decimal (length body) ++ codes "\r\n\r\n" ++ body

-- what a browser is asked to do and to leave
unfoldable pub policies : List ℕ
policies =
    codes "Connection: close\r\nCache-Control: no-store\r\n"
    ++ codes "X-Content-Type-Options: nosniff\r\nReferrer-Policy: no-referrer\r\n"
    ++ codes "Cross-Origin-Resource-Policy: same-origin\r\n"
    ++ codes "Content-Security-Policy: default-src 'none'; style-src 'unsafe-inline'; script-src '" ++ SCRIPT_HASH.now
    ++ codes "'; img-src data:; connect-src 'self'; base-uri 'none'; form-action 'none'; frame-ancestors 'none'\r\n"

-- a response of this status with this body
unfoldable pub response_text : StatusCode → ContentType → List ℕ → List ℕ
response_text s c body =
    codes "HTTP/1.1 " ++ reason_of s ++ codes "\r\n" ++ challenge_of s
    ++ codes "Content-Type: " ++ content_type_of c ++ codes "\r\n"
    ++ policies ++ body_text body
