-- What is asked of a node, and by whom. (This node's own; the parts of a target are of RFC 3986, section 3)
use Rattle.std.specs.Prelude.{◌≡◌, ◌≢◌, ℕ, ◌<◌, ◌≤◌, ◌⊎◌, List, ◌++◌, length, codes, ⊤, Bool, true, false, IsTrue}
use Rattle.httparse.specs.Grammar.{RequestHead, print_request, ReadsRequest, HasNoRequest, NeverHasRequest}
use Rattle.httparse.specs.Spans.{RequestExceeds}
use Rattle.std.specs.Str.Parse.{IsNumeral, digits_value}
use Rattle.beam_http.specs.declared.access.Door.{Door}
use Rattle.beam_http.specs.declared.refusal.Fault.{Fault}
use Rattle.beam_http.specs.declared.refusal.Fault.TheVariants.{Refused, NoMemory}
use Rattle.beam_http.specs.declared.refusal.RequestRefusal.{RequestRefusal}
use Rattle.beam_http.specs.declared.refusal.RequestRefusal.TheVariants as refusal
use Rattle.beam_http.specs.declared.request.Request.{Request}
use Rattle.beam_http.specs.declared.request.Request.TheVariants.{Health, Readiness, Stop, Page, Metrics, Node, Processes, Process, Modules, Journal, Connections, Log}
use Rattle.beam_http.specs.Access.{NamesHost, HasOwnOrigins, ShowsToken, CanStop, HasMarker}
use Rattle.beam_http.specs.Fields.{Field, fields_of, LacksBody}
use Rattle.beam_http.specs.Targets.{path_of}

-- the method by which something is asked
abbrev pub method_of : Request → List ℕ
method_of Stop = codes "POST"
method_of _ = codes "GET"

-- the path is the one by which something is asked
abbrev pub IsPathOf : Request → List ℕ → Type 0
IsPathOf Health path = path ≡ codes "/healthz"
IsPathOf Readiness path = path ≡ codes "/readyz"
IsPathOf Stop path = path ≡ codes "/stop"
IsPathOf Page path = path ≡ codes "/"
IsPathOf Metrics path = path ≡ codes "/metrics"
IsPathOf Node path = path ≡ codes "/api/node"
IsPathOf (Processes query) path = path ≡ codes "/api/processes"
IsPathOf (Process pid) path =
    (digits : List ℕ) × (path ≡ codes "/api/process/" ++ digits) × IsNumeral 10 digits × (digits_value 10 digits ≡ pid)
IsPathOf (Modules after) path = path ≡ codes "/api/modules"
IsPathOf Journal path = path ≡ codes "/api/journal"
IsPathOf Connections path = path ≡ codes "/api/connections"
IsPathOf (Log after) path = path ≡ codes "/api/log"

-- whether something is asked only by who shows the token of a port
abbrev pub needs_token : Request → Bool
needs_token Health = false
needs_token Readiness = false
needs_token Page = false
needs_token _ = true

-- the path of what all may ask
abbrev pub IsOpenPath : List ℕ → Type 0
IsOpenPath path = (path ≡ codes "/healthz") ⊎ (path ≡ codes "/readyz") ⊎ (path ≡ codes "/")

-- nothing has that name, unless it is a process
pub record IsUnknown (path : List ℕ) : Type 0 where
  pub health : path ≢ codes "/healthz"
  pub readiness : path ≢ codes "/readyz"
  pub stop : path ≢ codes "/stop"
  pub page : path ≢ codes "/"
  pub metrics : path ≢ codes "/metrics"
  pub node : path ≢ codes "/api/node"
  pub journal : path ≢ codes "/api/journal"
  pub connections : path ≢ codes "/api/connections"

-- the path of what a query says more of
abbrev pub IsQueriedPath : List ℕ → Type 0
IsQueriedPath path = (path ≡ codes "/api/processes") ⊎ (path ≡ codes "/api/modules") ⊎ (path ≡ codes "/api/log")

-- why nothing is asked by a path and its query; memory may always be short
abbrev pub IsPathFault : List ℕ → Fault → Type 0
IsPathFault path (Refused refusal.BadRequest) = IsQueriedPath path
IsPathFault path (Refused refusal.NotFound) = IsUnknown path × ¬ (IsQueriedPath path)
IsPathFault path (Refused _) = ⊥
IsPathFault path (NoMemory error) = ⊤

-- a head of this method, target and fields asks for that over this door, and may
pub record IsAdmitted (door : Door) (method target : List ℕ) (fields : List Field) (request : Request) : Type 0 where
  pub by : method ≡ method_of request
  pub path : IsPathOf request (path_of target)
  pub host : NamesHost door fields
  pub origin : HasOwnOrigins door fields
  pub token : IsTrue (needs_token request) → ShowsToken door fields
  pub stop : request ≡ Stop → CanStop door × HasMarker fields
  pub body : LacksBody fields

-- bytes begin with a head by which that is asked over this door, and may be
abbrev pub Asks : Door → List ℕ → Request → Type 0
Asks door bytes request =
    (head : RequestHead) × (rest : List ℕ) × ReadsRequest bytes head rest
    × IsAdmitted door head.method head.target (fields_of head) request

-- some bytes ask for that over this door, and may
abbrev pub IsAsked : Door → Request → Type 0
IsAsked door request = (bytes : List ℕ) × Asks door bytes request

-- why a head of this method, target and fields is refused over this door
abbrev pub IsReason : Door → List ℕ → List ℕ → List Field → RequestRefusal → Type 0
IsReason door method target fields refusal.BadRequest = ¬ (LacksBody fields) ⊎ IsQueriedPath (path_of target)
IsReason door method target fields refusal.Unauthorized = ¬ (ShowsToken door fields) × ¬ (IsOpenPath (path_of target))
IsReason door method target fields refusal.Forbidden =
    ¬ (NamesHost door fields × HasOwnOrigins door fields)
    ⊎ ((path_of target ≡ codes "/stop") × ¬ (CanStop door × HasMarker fields))
IsReason door method target fields refusal.NotFound = IsUnknown (path_of target) × ¬ (IsQueriedPath (path_of target))
IsReason door method target fields refusal.NotAllowed =
    (request : Request) × IsPathOf request (path_of target) × (method ≢ method_of request)
IsReason door method target fields refusal.TooLarge = ⊥

-- the same of a fault; memory may always be short
abbrev pub IsReasonOfFault : Door → List ℕ → List ℕ → List Field → Fault → Type 0
IsReasonOfFault door method target fields (Refused r) = IsReason door method target fields r
IsReasonOfFault door method target fields (NoMemory error) = ⊤

-- a head that is whole has more than that many bytes
abbrev pub IsLongHead : ℕ → List ℕ → Type 0
IsLongHead most bytes =
    (head : RequestHead) × (rest : List ℕ) × ReadsRequest bytes head rest × (most < length (print_request head))

-- why bytes are refused of which no head is read
abbrev pub IsUnreadable : List ℕ → RequestRefusal → Type 0
IsUnreadable bytes refusal.BadRequest = NeverHasRequest bytes
IsUnreadable bytes refusal.TooLarge =
    ((8192 ≤ length bytes) × HasNoRequest bytes) ⊎ IsLongHead 8192 bytes ⊎ RequestExceeds 32 bytes
IsUnreadable bytes _ = ⊥

-- why bytes are refused over a door: by what their head says, or since they have none
abbrev pub IsRefused : Door → List ℕ → RequestRefusal → Type 0
IsRefused door bytes why =
    ((head : RequestHead) × (rest : List ℕ) × ReadsRequest bytes head rest
    × IsReason door head.method head.target (fields_of head) why)
    ⊎ IsUnreadable bytes why
