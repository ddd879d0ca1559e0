-- Who may ask for what.
use Rattle.std.specs.Prelude.{◌≡◌, ℕ, ◌<◌, ◌⊎◌, List, [], ◌∷◌, ◌++◌, length, codes, All, IfSome, IsSome, ⊤}
use Rattle.beam_http.specs.declared.access.Door.{Door}
use Rattle.beam_http.specs.declared.access.Door.TheVariants.{Socket, Port}
use Rattle.beam_http.specs.declared.access.PortAccess.{PortAccess}
use Rattle.beam_http.specs.Fields.{Field, values_of}

-- the host is one of the two names of a port
abbrev pub IsOwnHost : PortAccess → List ℕ → Type 0
IsOwnHost access host = (host ≡ access.number.items) ⊎ (host ≡ access.name.items)

-- the origin is that of the page of a port: http, and one of its names
unfoldable pub IsOwnOrigin : PortAccess → List ℕ → Type 0
IsOwnOrigin access origin = (host : List ℕ) × (origin ≡ codes "http://" ++ host) × IsOwnHost access host

-- over a port, one host is named, and it is the port's own
abbrev pub NamesHost : Door → List Field → Type 0
NamesHost Socket fields = ⊤
NamesHost (Port access) fields = (host : List ℕ) × (values_of (codes "host") fields ≡ host ∷ []) × IsOwnHost access host

-- over a port, each origin that is named is the port's own
abbrev pub HasOwnOrigins : Door → List Field → Type 0
HasOwnOrigins Socket fields = ⊤
HasOwnOrigins (Port access) fields = All (IsOwnOrigin access) (values_of (codes "origin") fields)

-- over a port with a token, one authorization is shown, by the token
abbrev pub ShowsToken : Door → List Field → Type 0
ShowsToken Socket fields = ⊤
ShowsToken (Port access) fields =
    IfSome access.token (λ token. values_of (codes "authorization") fields ≡ (codes "Bearer " ++ token.items) ∷ [])

-- a stop comes over a socket, or over a port with a token
abbrev pub CanStop : Door → Type 0
CanStop Socket = ⊤
CanStop (Port access) = IsSome access.token

-- some field has the name of the marker
abbrev pub HasMarker : List Field → Type 0
HasMarker fields = 0 < length (values_of (codes "x-kanguriwe") fields)
