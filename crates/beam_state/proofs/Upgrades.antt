-- What an upgrade list comes to, test by test.
use Rattle.std.proofs.Common.{◌≡◌, ◌+◌, ◌<◌, ◌≤◌, ◌^◌, Bool, true, false, cond, not, nat_lt, List, length, ap, ◌∙◌, arith}
use Rattle.std.proofs.lemmas.Bool.Decides.{nat_tests}
use Rattle.std.specs.List.{list_any}
use Rattle.beam_machine.specs.declared.event.Event.TheVariants as event
use Rattle.beam_model.specs.Prelude.{Listing, is_erlang}
use Rattle.beam_machine.specs.declared.event.UpgradeMode.{UpgradeMode}
use Rattle.beam_machine.specs.declared.event.Refused.TheVariants.{Sticky, NotPurged, Duplicated, TooMany}
use Rattle.beam_machine.specs.Prelude.{State, Next, refused, are_apart, stands_in_way, end_olds, load_each, upgraded, next}
use Rattle.beam_laws.proofs.Upgraded.{with_each, loads_are, olds_ended}

abbrev erlang_among : List Listing → Bool
erlang_among ls = list_any (λ l. is_erlang l.name) ls

abbrev one_stands : UpgradeMode → State → List Listing → Bool
one_stands mode s ls = list_any (λ l. stands_in_way mode s l.name) ls

-- the tests, with what comes of each
abbrev tested : State → Bool → Bool → Bool → Bool → Next → Next
tested s sticky apart stands room done =
    cond sticky (refused s Sticky) (cond (not apart) (refused s Duplicated) (cond stands (refused s NotPurged) (cond room done (refused s TooMany))))

abbrev done_of : State → List Listing → Next
done_of s ls = upgraded (load_each (end_olds s ls) ls) ls

pub sticky : (s : State) (mode : UpgradeMode) (ls : List Listing) → erlang_among ls ≡ true → next s (event.AtomicLoad mode ls) ≡ refused s Sticky
sticky s mode ls e = ap (λ b. tested s b (are_apart ls) (one_stands mode s ls) (nat_lt (s.instances + length ls) (2 ^ 32)) (done_of s ls)) e

pub duplicated : (s : State) (mode : UpgradeMode) (ls : List Listing) → erlang_among ls ≡ false → are_apart ls ≡ false → next s (event.AtomicLoad mode ls) ≡ refused s Duplicated
duplicated s mode ls e apart =
    ap (λ b. tested s b (are_apart ls) (one_stands mode s ls) (nat_lt (s.instances + length ls) (2 ^ 32)) (done_of s ls)) e
    ∙ ap (λ b. tested s false b (one_stands mode s ls) (nat_lt (s.instances + length ls) (2 ^ 32)) (done_of s ls)) apart

pub unpurged : (s : State) (mode : UpgradeMode) (ls : List Listing) → erlang_among ls ≡ false → are_apart ls ≡ true → one_stands mode s ls ≡ true
    → next s (event.AtomicLoad mode ls) ≡ refused s NotPurged
unpurged s mode ls e apart stands =
    ap (λ b. tested s b (are_apart ls) (one_stands mode s ls) (nat_lt (s.instances + length ls) (2 ^ 32)) (done_of s ls)) e
    ∙ (ap (λ b. tested s false b (one_stands mode s ls) (nat_lt (s.instances + length ls) (2 ^ 32)) (done_of s ls)) apart
    ∙ ap (λ b. tested s false true b (nat_lt (s.instances + length ls) (2 ^ 32)) (done_of s ls)) stands)

rooms : (s : State) (mode : UpgradeMode) (ls : List Listing) → erlang_among ls ≡ false → are_apart ls ≡ true → one_stands mode s ls ≡ false
    → next s (event.AtomicLoad mode ls) ≡ tested s false true false (nat_lt (s.instances + length ls) (2 ^ 32)) (done_of s ls)
rooms s mode ls e apart stands =
    ap (λ b. tested s b (are_apart ls) (one_stands mode s ls) (nat_lt (s.instances + length ls) (2 ^ 32)) (done_of s ls)) e
    ∙ (ap (λ b. tested s false b (one_stands mode s ls) (nat_lt (s.instances + length ls) (2 ^ 32)) (done_of s ls)) apart
    ∙ ap (λ b. tested s false true b (nat_lt (s.instances + length ls) (2 ^ 32)) (done_of s ls)) stands)

pub too_many : (s : State) (mode : UpgradeMode) (ls : List Listing) → erlang_among ls ≡ false → are_apart ls ≡ true → one_stands mode s ls ≡ false → 2 ^ 32 ≤ s.instances + length ls
    → next s (event.AtomicLoad mode ls) ≡ refused s TooMany
too_many s mode ls e apart stands many =
    let full : nat_lt (s.instances + length ls) (2 ^ 32) ≡ false = grind (arith, nat_tests) in
    rooms s mode ls e apart stands ∙ ap (λ b. tested s false true false b (done_of s ls)) full

pub done : (s : State) (mode : UpgradeMode) (ls : List Listing) → erlang_among ls ≡ false → are_apart ls ≡ true → one_stands mode s ls ≡ false → s.instances + length ls < 2 ^ 32
    → next s (event.AtomicLoad mode ls) ≡ upgraded (with_each (end_olds s ls) ls) ls
done s mode ls e apart stands few =
    let room : nat_lt (s.instances + length ls) (2 ^ 32) ≡ true = grind (arith, nat_tests) in
    rooms s mode ls e apart stands
    ∙ (ap (λ b. tested s false true false b (done_of s ls)) room ∙ ap (λ t. upgraded t ls) (loads_are (end_olds s ls) ls e apart few (olds_ended s ls)))
