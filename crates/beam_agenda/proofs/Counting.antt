-- The list above a list of numbers that changes.
use Rattle.std.proofs.Common.{◌≡◌, ℕ, zero, suc, ◌+◌, ◌-◌, ◌*◌, ◌/◌, ◌%◌, ◌<◌, ◌≤◌, Bool, true, false, nat_eq, List, [], ◌∷◌, ◌++◌, length, take, get_or, slice_get, refl, sym, ap, subst, ◌∙◌, length-take, length-append, arith, get_or-take, take_all, Some, None, option_map}
use Rattle.std.specs.List.{count_by}
use Rattle.std.proofs.Math.ListN.{set, length-set}
use Rattle.std.proofs.lemmas.Bool.Decides.{nat_tests}
use Rattle.std.proofs.lemmas.List.{drop-take}
use Rattle.std.proofs.lemmas.Option.{slice_get-get_or, slice_get_past}
use Rattle.beam_agenda.specs.declared.flags.Above.{Above}
use Rattle.beam_agenda.specs.declared.flags.Above.TheVariants.{Top, Level}
use Rattle.beam_agenda.specs.FlagLevels.{LevelsAgree}
use Rattle.beam_agenda.specs.Prelude.{length-groups, is_set, groups, all_groups, first_position, position_from}
use Rattle.beam_agenda.proofs.Groups.{one_if, set_false, group_small, group_has, groups-set, groups-set_same, groups-append, groups-more, in_group, position_by_groups}
use Rattle.beam_agenda.proofs.Positions.{position_here, position_later, position_past, position_near, position_far}
use mathlib.Core.Bool.{beq, not}

-- the list above a list of more than one group
abbrev pub IsAbove : List ℕ → List ℕ → Type 0
IsAbove ns above = (16 < length ns) × (above ≡ all_groups ns)

pub length-above : (ns above : List ℕ) → above ≡ all_groups ns → length above ≡ (length ns + 15) / 16
length-above ns above h = ap length h ∙ length-groups ((length ns + 15) / 16) ns

pub above_shorter : (ns above : List ℕ) → IsAbove ns above → length above < length ns
above_shorter ns above h = omega (arith, h.0, length-above ns above h.1)

pub group_within : (ns above : List ℕ) (i : ℕ) → above ≡ all_groups ns → i < length ns → i / 16 < length above
group_within ns above i h l = omega (arith, length-above ns above h)

-- ---- whether a number isn't 0

pub isnt_zero : (n : ℕ) → not (nat_eq n 0) ≡ is_set n
isnt_zero n = grind (arith, nat_tests)

same_test : (s t : Bool) → beq s t ≡ true → s ≡ t
same_test true true h = refl
same_test true false h = cc
same_test false true h = cc
same_test false false h = refl

pub both_set : (m n : ℕ) → beq (not (nat_eq m 0)) (not (nat_eq n 0)) ≡ true → is_set m ≡ is_set n
both_set m n h = sym (isnt_zero m) ∙ (same_test (not (nat_eq m 0)) (not (nat_eq n 0)) h ∙ isnt_zero n)

other_test : (s t : Bool) → beq s t ≡ false → s ≡ not t
other_test true true h = cc
other_test true false h = refl
other_test false true h = refl
other_test false false h = cc

pub one_set : (m n : ℕ) → beq (not (nat_eq m 0)) (not (nat_eq n 0)) ≡ false → is_set m ≡ not (is_set n)
one_set m n h = sym (isnt_zero m) ∙ (other_test (not (nat_eq m 0)) (not (nat_eq n 0)) h ∙ ap not (isnt_zero n))

-- ---- a number that changes

got : (ns : List ℕ) (i n : ℕ) → Some n ≡ slice_get ns i → n ≡ get_or ns i 0
got [] i n h = absurd (cc)
got (m ∷ ns) zero n h = cc
got (m ∷ ns) (suc i) n h = got ns i n h

pub count_got : (ns above : List ℕ) (g n : ℕ) → above ≡ all_groups ns → Some n ≡ slice_get above g → n ≡ get_or (all_groups ns) g 0
count_got ns above g n h e = got above g n e ∙ ap (λ ns. get_or ns g 0) h

pub count_small : (ns above : List ℕ) (g n : ℕ) → above ≡ all_groups ns → Some n ≡ slice_get above g → n ≤ 16
count_small ns above g n h e = omega (arith, count_got ns above g n h e, group_small ((length ns + 15) / 16) ns g)

pub count_has : (ns above : List ℕ) (i n : ℕ) → i < length ns → is_set (get_or ns i 0) ≡ true → above ≡ all_groups ns → Some n ≡ slice_get above (i / 16) → 1 ≤ n
count_has ns above i n l s h e = omega (arith, count_got ns above (i / 16) n h e, group_has ((length ns + 15) / 16) ns i l (omega arith), ap one_if s)

pub levels_same : (ns : List ℕ) (above : Above) (i n : ℕ) → i < length ns → is_set (get_or ns i 0) ≡ is_set n → LevelsAgree ns above → LevelsAgree (set ns i n) above
levels_same ns Top i n l e h = omega (arith, length-set ns i n)
levels_same ns (Level above) i n l e h = (
  omega (arith, h.0, length-set ns i n),
  h.1 ∙ (sym (groups-set_same ((length ns + 15) / 16) ns i n l (omega arith) e) ∙ ap (λ m. groups ((m + 15) / 16) (set ns i n)) (sym (length-set ns i n))),
)

pub set_above : (ns above new : List ℕ) (i n m c : ℕ) → i < length ns → IsAbove ns above → Some m ≡ slice_get above (i / 16) → c + one_if (is_set (get_or ns i 0)) ≡ m + one_if (is_set n) → new ≡ set above (i / 16) c
    → IsAbove (set ns i n) new
set_above ns above new i n m c l h g e s = (
  omega (arith, h.0, length-set ns i n),
  s ∙ (ap (λ above. set above (i / 16) c) h.1
      ∙ (sym (groups-set ((length ns + 15) / 16) ns i n c l (omega arith) (e ∙ ap (λ m. m + one_if (is_set n)) (count_got ns above (i / 16) m h.1 g)))
      ∙ ap (λ m. groups ((m + 15) / 16) (set ns i n)) (sym (length-set ns i n)))),
)

-- one more of a group isn't 0, or one fewer
pub one_more : (m n c : ℕ) → is_set m ≡ not (is_set n) → (n ≡ 0 → ⊥) → c + 1 + one_if (is_set m) ≡ c + one_if (is_set n)
one_more m n c e z = at (is_set n) refl
  where
    at : (t : Bool) → is_set n ≡ t → c + 1 + one_if (is_set m) ≡ c + one_if (is_set n)
    at true h = omega (arith, ap one_if h, ap one_if e, ap (λ t. one_if (not t)) h)
    at false h = absurd (z (set_false n h))

pub one_fewer : (m n c : ℕ) → is_set m ≡ not (is_set n) → n ≡ 0 → 1 ≤ c → c - 1 + one_if (is_set m) ≡ c + one_if (is_set n)
one_fewer m n c e z l =
    let h : is_set n ≡ false = ap is_set z in
    omega (arith, l, ap one_if h, ap one_if e, ap (λ t. one_if (not t)) h)

-- ---- a 0 more

all_groups-append : (ns : List ℕ) (k : ℕ) → k ≡ (length ns + 16) / 16 → all_groups (ns ++ 0 ∷ []) ≡ groups k ns
all_groups-append ns k h =
    let same : (length (ns ++ 0 ∷ []) + 15) / 16 ≡ k = omega (arith, h, length-append ns (0 ∷ [])) in
    ap (λ k. groups k (ns ++ 0 ∷ [])) same ∙ groups-append k ns

all_groups-append_full : (ns : List ℕ) → length ns % 16 ≡ 0 → all_groups (ns ++ 0 ∷ []) ≡ all_groups ns ++ 0 ∷ []
all_groups-append_full ns h = all_groups-append ns (suc ((length ns + 15) / 16)) (omega arith) ∙ groups-more ((length ns + 15) / 16) ns (omega arith)

pub add_first : (ns : List ℕ) (first : ℕ) (above : List ℕ) → length ns ≤ 16 → 16 ≤ length ns → first ≡ count_by is_set ns → above ≡ first ∷ 0 ∷ [] → IsAbove (ns ++ 0 ∷ []) above
add_first ns first above l g f h =
    let two : 1 ≡ (length ns + 15) / 16 = omega arith in (
      omega (arith, length-append ns (0 ∷ [])),
      h ∙ (ap (λ first. first ∷ 0 ∷ []) (f ∙ ap (count_by is_set) (sym (take_all 16 ns l)))
          ∙ (ap (λ k. groups k ns ++ 0 ∷ []) two ∙ sym (all_groups-append_full ns (omega arith)))),
    )

pub add_full : (ns above new : List ℕ) → IsAbove ns above → length ns % 16 ≡ 0 → new ≡ above ++ 0 ∷ [] → IsAbove (ns ++ 0 ∷ []) new
add_full ns above new h full n = (
  omega (arith, h.0, length-append ns (0 ∷ [])),
  n ∙ (ap (λ above. above ++ 0 ∷ []) h.1 ∙ sym (all_groups-append_full ns full)),
)

pub add_within : (ns above : List ℕ) → IsAbove ns above → 0 < length ns % 16 → IsAbove (ns ++ 0 ∷ []) above
add_within ns above h part = (
  omega (arith, h.0, length-append ns (0 ∷ [])),
  h.1 ∙ sym (all_groups-append ns ((length ns + 15) / 16) (omega arith)),
)

pub levels_as : (ns now : List ℕ) (above top : Above) → now ≡ ns → top ≡ above → LevelsAgree ns above → LevelsAgree now top
levels_as ns now above top e a h = subst (λ ns. LevelsAgree ns top) (sym e) (subst (LevelsAgree ns) (sym a) h)

-- ---- the first of a group

number_there : (m at : ℕ) (ns : List ℕ) → at < m → at < length ns → slice_get (take m ns) at ≡ Some (get_or ns at 0)
number_there m at ns b l = slice_get-get_or (take m ns) at 0 (omega (arith, length-take m ns)) ∙ ap Some (get_or-take m ns at 0 b)

pub found : (m at : ℕ) (ns : List ℕ) → at < m → at < length ns → (get_or ns at 0 ≡ 0 → ⊥) → Some at ≡ position_from is_set at (take m ns)
found m at ns b l h = position_here is_set at (take m ns) (get_or ns at 0) (number_there m at ns b l) (is (is_set (get_or ns at 0)) refl)
  where
    is : (t : Bool) → is_set (get_or ns at 0) ≡ t → is_set (get_or ns at 0) ≡ true
    is true e = e
    is false e = absurd (h (set_false (get_or ns at 0) e))

pub passed : (m at : ℕ) (ns : List ℕ) → at < m → at < length ns → get_or ns at 0 ≡ 0 → position_from is_set (at + 1) (take m ns) ≡ position_from is_set at (take m ns)
passed m at ns b l h =
    let next : at + 1 ≡ suc at = omega arith in
    ap (λ at. position_from is_set at (take m ns)) next ∙ sym (position_later is_set at (take m ns) (get_or ns at 0) (number_there m at ns b l) (ap is_set h))

pub ended : (m at : ℕ) (ns : List ℕ) → length (take m ns) ≤ at → None ≡ position_from is_set at (take m ns)
ended m at ns h = position_past is_set at (take m ns) (slice_get_past (take m ns) at h)

-- ---- the first of all

pub first_same_group : (from at : ℕ) (ns : List ℕ) → Some at ≡ position_from is_set from (take (16 * (from / 16) + 16) ns) → Some at ≡ position_from is_set from ns
first_same_group from at ns h =
    let j : ℕ = 16 * (from / 16) + 16 - from in
    let end : 16 * (from / 16) + 16 ≡ from + j = omega arith in
    position_near is_set from j ns at (h ∙ ap (λ m. position_from is_set from (take m ns)) end)

later_groups : (from : ℕ) (ns : List ℕ) → None ≡ position_from is_set from (take (16 * (from / 16) + 16) ns) → position_from is_set from ns ≡ in_group ns (position_from is_set (from / 16 + 1) (all_groups ns))
later_groups from ns h =
    let j : ℕ = 16 * (from / 16) + 16 - from in
    let end : 16 * (from / 16) + 16 ≡ from + j = omega arith in
    let next : from + j ≡ 16 * (from / 16 + 1) = omega arith in
    position_far is_set from j ns (h ∙ ap (λ m. position_from is_set from (take m ns)) end)
    ∙ (ap (λ from. position_from is_set from ns) next ∙ position_by_groups (from / 16 + 1) ((length ns + 15) / 16) ns (omega arith))

pub no_later_group : (from : ℕ) (ns above : List ℕ) → None ≡ position_from is_set from (take (16 * (from / 16) + 16) ns) → above ≡ all_groups ns → None ≡ position_from is_set (from / 16 + 1) above
    → None ≡ position_from is_set from ns
no_later_group from ns above h e f = ap (in_group ns) (f ∙ ap (position_from is_set (from / 16 + 1)) e) ∙ sym (later_groups from ns h)

pub first_later_group : (from g : ℕ) (ns above : List ℕ) → None ≡ position_from is_set from (take (16 * (from / 16) + 16) ns) → above ≡ all_groups ns → Some g ≡ position_from is_set (from / 16 + 1) above
    → position_from is_set (16 * g) (take (16 * (16 * g / 16) + 16) ns) ≡ position_from is_set from ns
first_later_group from g ns above h e f =
    let same : 16 * (16 * g / 16) + 16 ≡ 16 * g + 16 = omega arith in
    ap (λ m. position_from is_set (16 * g) (take m ns)) same
    ∙ (ap (λ ns. option_map (λ n. 16 * g + n) (first_position is_set ns)) (drop-take (16 * g) 16 ns)
    ∙ (ap (in_group ns) (f ∙ ap (position_from is_set (from / 16 + 1)) e) ∙ sym (later_groups from ns h)))
