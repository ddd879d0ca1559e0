-- An upgrade list changes nothing, or the processes that linger in removed code end, and its listings are loaded one after another.
use Rattle.std.proofs.Common.{◌+◌, ◌^◌, Bool, true, false, cond, not, nat_lt, List, [], ◌∷◌, length}
use Rattle.std.specs.List.{list_any}
use Rattle.beam_machine.specs.declared.event.Event.TheVariants as event
use Rattle.beam_model.specs.Prelude.{Listing, is_erlang}
use Rattle.beam_machine.specs.declared.event.UpgradeMode.{UpgradeMode}
use Rattle.beam_machine.specs.declared.event.Refused.TheVariants.{Sticky, NotPurged, Duplicated, TooMany}
use Rattle.beam_machine.specs.Prelude.{State, Next, refused, are_apart, stands_in_way, end_olds, load_each, upgraded, next}

-- a statement that each load keeps
abbrev pub Loads : (State → Type 0) → Type 0
Loads P = (s : State) (l : Listing) → P s → P (next s (event.Load l)).state

-- a statement that the ends before an upgrade keep
abbrev pub Ends : (State → Type 0) → Type 0
Ends P = (s : State) (ls : List Listing) → P s → P (end_olds s ls)

pub each : (P : State → Type 0) → Loads P → (s : State) (ls : List Listing) → P s → P (load_each s ls)
each P loads s [] h = h
each P loads s (l ∷ rest) h = each P loads (next s (event.Load l)).state rest (loads s l h)

either : (P : State → Type 0) (b : Bool) (x y : Next) → P x.state → P y.state → P (cond b x y).state
either P true x y h k = h
either P false x y h k = k

-- an upgrade list keeps each statement that those ends and a load keep
pub kept : (P : State → Type 0) → Ends P → Loads P → (s : State) (mode : UpgradeMode) (ls : List Listing) → P s → P (next s (event.AtomicLoad mode ls)).state
kept P ends loads s mode ls h =
    either P (list_any (λ l. is_erlang l.name) ls) (refused s Sticky) _ h
    (either P (not (are_apart ls)) (refused s Duplicated) _ h
    (either P (list_any (λ l. stands_in_way mode s l.name) ls) (refused s NotPurged) _ h
    (either P (nat_lt (s.instances + length ls) (2 ^ 32)) (upgraded (load_each (end_olds s ls) ls) ls) (refused s TooMany) (each P loads (end_olds s ls) ls (ends s ls h)) h)))
