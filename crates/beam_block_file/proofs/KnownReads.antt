-- Files of blocks that are read: the bytes that were read stand in the file, and a block that was found is the next one.
use Rattle.std.proofs.Common.{◌≡◌, ℕ, ◌+◌, ◌-◌, List, [], ◌∷◌, ◌++◌, Option, Some, None, IfSome, option_map, length, take, drop, refl, sym, ap, subst, ◌∙◌, arith, length-append, append_assoc, append-nil, drop-drop, take_at, drop_at}
use Rattle.beam_blocks.specs.Blocks.{block, block_in, one_block}
use Rattle.beam_blocks.proofs.RoundTrip.{block_again}
use Rattle.beam_block_file.specs.declared.front.Front.{Front}
use Rattle.beam_block_file.specs.declared.front.Front.TheVariants.{Nothing}
use Rattle.beam_block_file.specs.Fronts.{IfBlock, IsFirst, IsUnsettled, front_in}
use Rattle.beam_block_file.specs.Shelves.{StandAt}
use Rattle.beam_block_file.specs.StoredBlocks.{HasBlocks, IsNext, KnownBlocks, known_blocks, with_next}
use Rattle.beam_block_file.proofs.KnownFiles.{drop_blocks, known_is, length_of_block, one_more}
use Rattle.beam_block_file.proofs.KnownFronts.{nothing_front, settled_stays}

-- ---- bytes that were read

one_joined : (at : ℕ) (pending piece bytes : List ℕ) → StandAt at pending bytes → StandAt (at + length pending) piece bytes → StandAt at (pending ++ piece) bytes
one_joined at pending piece bytes first second =
    let size : (at + length pending) + length piece ≡ at + length (pending ++ piece) = omega (arith, length-append pending piece) in
    first ∙ ap (λ (l : List ℕ). pending ++ l) (second ∙ ap (λ (n : ℕ). piece ++ drop n bytes) size)
    ∙ sym (append_assoc pending piece (drop (at + length (pending ++ piece)) bytes))

pub stand_joined : (told : Option (List ℕ)) (at : ℕ) (pending piece : List ℕ) → IfSome told (StandAt at pending) → IfSome told (StandAt (at + length pending) piece)
    → IfSome told (StandAt at (pending ++ piece))
stand_joined None at pending piece first second = tt
stand_joined (Some bytes) at pending piece first second = one_joined at pending piece bytes first second

pub stand_none : (told : Option (List ℕ)) → IfSome told (StandAt 0 [])
stand_none None = tt
stand_none (Some bytes) = refl

-- ---- fronts

pub front_settled : (told : Option (List ℕ)) (at : ℕ) (pending : List ℕ) (front : Front) → IfSome told (StandAt at pending) → front ≡ front_in pending
    → IfBlock front (λ n. IsFirst n pending) → (IsUnsettled front → ⊥) → IfSome told (λ b. front ≡ front_in (drop at b))
front_settled None at pending front stands is block settled = tt
front_settled (Some bytes) at pending front stands is block settled =
    settled_stays front pending (drop (at + length pending) bytes) is block settled ∙ ap front_in (sym stands)

one_all : (at : ℕ) (pending bytes : List ℕ) → StandAt at pending bytes → drop (at + length pending) bytes ≡ [] → drop at bytes ≡ pending
one_all at pending bytes stands end = stands ∙ ap (λ (l : List ℕ). pending ++ l) end ∙ append-nil pending

pub all_read : (told : Option (List ℕ)) (at : ℕ) (pending : List ℕ) → IfSome told (StandAt at pending) → IfSome told (λ b. drop (at + length pending) b ≡ [])
    → IfSome told (λ b. drop at b ≡ pending)
all_read None at pending stands end = tt
all_read (Some bytes) at pending stands end = one_all at pending bytes stands end

pub front_at_end : (told : Option (List ℕ)) (at : ℕ) (pending : List ℕ) (front : Front) → IfSome told (λ b. drop at b ≡ pending) → front ≡ front_in pending
    → IfSome told (λ b. front ≡ front_in (drop at b))
front_at_end None at pending front all is = tt
front_at_end (Some bytes) at pending front all is = is ∙ ap front_in (sym all)

-- ---- the next block

next_rest : (at n : ℕ) (pending bytes : List ℕ) (h : HasBlocks at bytes) → StandAt at pending bytes → (f : IsFirst n pending)
    → h.rest ≡ block f.content ++ (f.rest ++ drop (at + length pending) bytes)
next_rest at n pending bytes h stands f =
    sym (drop_blocks at bytes h) ∙ stands ∙ ap (λ (l : List ℕ). l ++ drop (at + length pending) bytes) f.stands
    ∙ append_assoc (block f.content) f.rest (drop (at + length pending) bytes)

next_end : (at at' n : ℕ) (pending : List ℕ) (f : IsFirst n pending) → at' ≡ at + (16 + n) → at' ≡ at + length (block f.content)
next_end at at' n pending f is = omega (arith, is, f.size, length_of_block f.content)

abbrev next_one : (at at' n : ℕ) (pending bytes : List ℕ) (h : HasBlocks at bytes) → StandAt at pending bytes → IsFirst n pending → at' ≡ at + (16 + n) → HasBlocks at' bytes
next_one at at' n pending bytes h stands f is =
    one_more at at' bytes f.content (f.rest ++ drop (at + length pending) bytes) h (next_rest at n pending bytes h stands f) f.short (next_end at at' n pending f is)

pub next_has : (told : Option (List ℕ)) (at at' n : ℕ) (pending : List ℕ) → IfSome told (HasBlocks at) → IfSome told (StandAt at pending) → IsFirst n pending
    → at' ≡ at + (16 + n) → IfSome told (HasBlocks at')
next_has None at at' n pending h stands f is = tt
next_has (Some bytes) at at' n pending h stands f is = next_one at at' n pending bytes h stands f is

-- what is left of the bytes that were read
pub next_pending : (n : ℕ) (pending : List ℕ) (f : IsFirst n pending) → drop (16 + n) pending ≡ f.rest
next_pending n pending f =
    ap (drop (16 + n)) f.stands ∙ drop_at (block f.content) f.rest (16 + n) (omega (arith, f.size, length_of_block f.content))

left_of : (n : ℕ) (pending : List ℕ) (f : IsFirst n pending) → length pending ≡ (16 + n) + length f.rest
left_of n pending f = omega (arith, ap length f.stands, length-append (block f.content) f.rest, length_of_block f.content, f.size)

stands_one : (at at' n : ℕ) (pending bytes : List ℕ) → HasBlocks at bytes → StandAt at pending bytes → IsFirst n pending → at' ≡ at + (16 + n)
    → StandAt at' (drop (16 + n) pending) bytes
stands_one at at' n pending bytes h stands f is =
    let size : at + length pending ≡ at' + length (drop (16 + n) pending) =
    omega (arith, is, left_of n pending f, ap length (next_pending n pending f)) in
    drop_blocks at' bytes (next_one at at' n pending bytes h stands f is)
    ∙ (λ i. sym (next_pending n pending f) i ++ drop (size i) bytes)

pub next_stands : (told : Option (List ℕ)) (at at' n : ℕ) (pending : List ℕ) → IfSome told (HasBlocks at) → IfSome told (StandAt at pending) → IsFirst n pending
    → at' ≡ at + (16 + n) → IfSome told (StandAt at' (drop (16 + n) pending))
next_stands None at at' n pending h stands f is = tt
next_stands (Some bytes) at at' n pending h stands f is = stands_one at at' n pending bytes h stands f is

next_drop : (at n : ℕ) (pending bytes : List ℕ) (h : HasBlocks at bytes) → StandAt at pending bytes → (f : IsFirst n pending)
    → drop (16 + length f.content) h.rest ≡ f.rest ++ drop (at + length pending) bytes
next_drop at n pending bytes h stands f =
    ap (drop (16 + length f.content)) (next_rest at n pending bytes h stands f)
    ∙ drop_at (block f.content) (f.rest ++ drop (at + length pending) bytes) (16 + length f.content) (length_of_block f.content)

known_next : (at at' n : ℕ) (pending bytes : List ℕ) → HasBlocks at bytes → StandAt at pending bytes → (f : IsFirst n pending) → at' ≡ at + (16 + n)
    → known_blocks at' bytes ≡ with_next f.content (known_blocks at bytes)
known_next at at' n pending bytes h stands f is =
    let rest = next_drop at n pending bytes h stands f in
    let same : KnownBlocks = record { contents = h.contents; rest = h.rest } in
    let next : record { contents = h.contents ++ f.content ∷ []; rest = f.rest ++ drop (at + length pending) bytes } ≡ with_next f.content same =
    λ i. record { contents = h.contents ++ f.content ∷ []; rest = sym rest i } in
    known_is at' bytes (next_one at at' n pending bytes h stands f is) ∙ next ∙ ap (with_next f.content) (sym (known_is at bytes h))

pub next_known : (told : Option (List ℕ)) (at at' n : ℕ) (pending : List ℕ) → IfSome told (HasBlocks at) → IfSome told (StandAt at pending) → (f : IsFirst n pending)
    → at' ≡ at + (16 + n) → option_map (known_blocks at') told ≡ option_map (with_next f.content) (option_map (known_blocks at) told)
next_known None at at' n pending h stands f is = refl
next_known (Some bytes) at at' n pending h stands f is = ap Some (known_next at at' n pending bytes h stands f is)

is_next_one : (at n : ℕ) (pending bytes : List ℕ) → HasBlocks at bytes → StandAt at pending bytes → (f : IsFirst n pending) → IsNext f.content (known_blocks at bytes)
is_next_one at n pending bytes h stands f =
    let rest = f.rest ++ drop (at + length pending) bytes in
    let here : block_in h.rest ≡ one_block f.content (drop (16 + length f.content) h.rest) =
    ap block_in (next_rest at n pending bytes h stands f) ∙ block_again f.content rest f.short
    ∙ ap (one_block f.content) (sym (next_drop at n pending bytes h stands f)) in
    subst (IsNext f.content) (sym (known_is at bytes h)) here

pub is_next : (told : Option (List ℕ)) (at n : ℕ) (pending : List ℕ) → IfSome told (HasBlocks at) → IfSome told (StandAt at pending) → (f : IsFirst n pending)
    → IfSome (option_map (known_blocks at) told) (IsNext f.content)
is_next None at n pending h stands f = tt
is_next (Some bytes) at n pending h stands f = is_next_one at n pending bytes h stands f

-- the content of the block that was found
content_first : (n : ℕ) (pending : List ℕ) (f : IsFirst n pending) → take n (drop 16 pending) ≡ f.content
unfolding block
content_first n pending f =
    ap (λ (l : List ℕ). take n (drop 16 l)) f.stands ∙ take_at f.content f.rest n f.size

pub content_is : (items : List ℕ) (start n : ℕ) (f : IsFirst n (drop start items)) → take n (drop ((start + (16 + n)) - n) items) ≡ f.content
content_is items start n f =
    let place : (start + (16 + n)) - n ≡ start + 16 = omega arith in
    ap (λ (k : ℕ). take n (drop k items)) place ∙ ap (take n) (sym (drop-drop 16 start items)) ∙ content_first n (drop start items) f

-- ---- what stands behind the blocks

pub nothing_known : (told : Option (List ℕ)) (at : ℕ) → IfSome told (λ b. Nothing ≡ front_in (drop at b)) → IfSome (option_map (known_blocks at) told) (λ k. k.rest ≡ [])
nothing_known None at h = tt
nothing_known (Some bytes) at h = nothing_front (drop at bytes) h
