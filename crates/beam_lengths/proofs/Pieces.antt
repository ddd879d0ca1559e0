-- Parts of a text, as a loop goes over them: the text of one part more is that of the parts so far and then its own, and the text of some of
-- the parts is a beginning of the text of all.
use Rattle.std.proofs.Common.{◌≡◌, ◌∙◌, refl, ap, sym, arith, Option, Some, None, IfNone, ℕ, ◌+◌, ◌<◌, ◌≤◌, List, [], ◌∷◌, ◌++◌, length, take, drop, get_or, length-append, take-append-drop}
use Rattle.std.specs.List.{flat_map}
use Rattle.std.proofs.lemmas.List.{take_more, flat_map_more}
use Rattle.std.proofs.lemmas.List.Concat.{flat_map-append}
use Rattle.beam_machine.specs.declared.text_parts.TextPart.{TextPart}
use Rattle.beam_machine.specs.TextParts.{part_text, parts_text}

-- one part more was appended
pub goes_on : (parts : List TextPart) (i : ℕ) (d : TextPart) (front out new : List ℕ) → i < length parts → out ≡ front ++ parts_text (take i parts)
    → new ≡ out ++ part_text (get_or parts i d) → new ≡ front ++ parts_text (take (i + 1) parts)
goes_on parts i d front out new lt so_far one =
    one ∙ ap (λ (bytes : List ℕ). bytes ++ part_text (get_or parts i d)) so_far ∙ flat_map_more part_text front (take i parts) (get_or parts i d)
    ∙ ap (λ ps. front ++ flat_map part_text ps) (sym (take_more parts i d lt))

-- the length of one part more
one_more : (parts : List TextPart) (i : ℕ) (d : TextPart) → i < length parts
    → length (parts_text (take (i + 1) parts)) ≡ length (parts_text (take i parts)) + length (part_text (get_or parts i d))
one_more parts i d lt =
    ap length (sym (goes_on parts i d [] (parts_text (take i parts)) _ lt refl refl)) ∙ length-append (parts_text (take i parts)) (part_text (get_or parts i d))

-- the lengths of a beginning and of the rest
split : (n : ℕ) (parts : List TextPart) → length (parts_text parts) ≡ length (parts_text (take n parts)) + length (parts_text (drop n parts))
split n parts =
    ap (λ ps. length (parts_text ps)) (sym (take-append-drop n parts)) ∙ ap length (flat_map-append part_text (take n parts) (drop n parts))
    ∙ length-append (parts_text (take n parts)) (parts_text (drop n parts))

-- one part more was counted
pub counted : (parts : List TextPart) (i : ℕ) (d : TextPart) (left new most : ℕ) → i < length parts → left + length (parts_text (take i parts)) ≡ most
    → new + length (part_text (get_or parts i d)) ≡ left → new + length (parts_text (take (i + 1) parts)) ≡ most
counted parts i d left new most lt so_far one = omega (arith, one_more parts i d lt)

-- one part more passes the limit, and so does the whole text
pub too_long : (parts : List TextPart) (last : List ℕ) (i : ℕ) (d : TextPart) (left most : ℕ) → i < length parts
    → left + length (parts_text (take i parts)) ≡ most → left < length (part_text (get_or parts i d)) → most < length (parts_text parts ++ last)
too_long parts last i d left most lt so_far above =
    omega (arith, one_more parts i d lt, split (i + 1) parts, length-append (parts_text parts) last)

-- what holds in any case holds where there is nothing
pub held : {A P : Type 0} (o : Option A) → P → IfNone o P
held None p = p
held (Some x) p = tt
