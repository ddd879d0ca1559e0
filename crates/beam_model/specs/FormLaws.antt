-- Laws of forms: what is written is read again, and a file that is cut is truncated.
use Rattle.std.specs.Prelude.{◌≡◌, ℕ, zero, suc, ◌+◌, ◌-◌, ◌^◌, ◌<◌, ◌≤◌, Bool, true, false, cond, ltb, ◌&&◌, ◌||◌, List, [], ◌∷◌, ◌++◌, length, take, drop, codes, Option, Some, None, Result, Ok, Err, refl, nat_eq, ◌==◌}
use Rattle.std.proofs.Common.{inl, inr, sym, ap, ◌∙◌, append_assoc, arith, length-append, length-drop}
use Rattle.std.specs.List.{list_all, starts_with, zip}
use Rattle.std.proofs.lemmas.Bool.{cases_lt, ltb-false, lt-ltb, le-ltb}
use Rattle.std.proofs.lemmas.List.{drop-take, nil_from_length, append-nil, take_at, drop_at, take-append-drop, length-replicate, length-take}
use Rattle.byteorder.specs.Endian.{big_number, big_bytes}
use Rattle.byteorder.specs.Numbers.{big_number-reads_back, big_from-append}
use Rattle.beam_model.specs.Form.{Form, FormFault, Chunk, not_form, truncated, compressed_file, ◌>>=◌, agree, size_at, form_end, content_at, padded, chunk_at, with_chunk, with_chunks, empty_form, form_at, padding, chunk_bytes, form_chunks, form_body, form_bytes}

-- ---- steps of reading

-- a test that did not fail
guard_ok : {A : Type 0} (b : Bool) (d : FormFault) (r : Result A FormFault) (y : A) → cond b (Err d) r ≡ Ok y → (b ≡ false) × (r ≡ Ok y)
guard_ok true d r y e = absurd cc
guard_ok false d r y e = (refl, e)

-- the value of a step that did not fail
bind_ok : {A B : Type 0} (r : Result A FormFault) (f : A → Result B FormFault) (y : B) → (r >>= f) ≡ Ok y → (x : A) × (r ≡ Ok x) × (f x ≡ Ok y)
bind_ok (Ok x) f y e = (x, refl, e)
bind_ok (Err d) f y e = absurd cc

abbrev done : {A : Type 0} → A → Result A FormFault
done x = Ok x

ok_is : {A : Type 0} (x y : A) → done x ≡ done y → x ≡ y
ok_is x y e = cc

-- a chunk takes at least its name and its size
pub chunk_takes : (bytes rest : List ℕ) (chunk : Chunk) → chunk_at bytes ≡ Ok (chunk, rest) → length rest + 8 ≤ length bytes
unfolding chunk_at
chunk_takes bytes rest chunk e =
    let first = guard_ok (ltb (length bytes) 8) truncated _ (chunk, rest) e in
    let second = guard_ok (ltb (length bytes) (8 + size_at bytes)) truncated _ (chunk, rest) first.1 in
    let both = ok_is _ (chunk, rest) second.1 in
    let rest-is : drop (padded (size_at bytes)) (drop 8 bytes) ≡ rest = ap (λ (p : Chunk × List ℕ). p.1) both in
    let long : 8 ≤ length bytes = grind (arith, first.0) in
    rw (← rest-is) (omega (arith, length-drop (padded (size_at bytes)) (drop 8 bytes), length-drop 8 bytes, long))

-- a chunk is taken, and the limit suffices for the rest
pub after_chunk : (limit : ℕ) (form more : Form) (bytes rest : List ℕ) (chunk : Chunk) (total : Result Form FormFault)
    → chunk_at bytes ≡ Ok (chunk, rest) → with_chunk form chunk ≡ Ok more → length bytes ≤ limit → with_chunks limit form bytes ≡ total
    → (less : ℕ) × (length rest ≤ less) × (with_chunks less more rest ≡ total)
unfolding with_chunks
after_chunk limit form more [] rest chunk total e w le h = absurd (omega (arith, chunk_takes [] rest chunk e))
after_chunk zero form more (b ∷ bytes) rest chunk total e w le h = absurd (omega arith)
after_chunk (suc limit) form more (b ∷ bytes) rest chunk total e w le h =
    let one : with_chunks (suc limit) form (b ∷ bytes) ≡ with_chunks limit more rest = rw (e, w) refl in
    (limit, omega (arith, chunk_takes (b ∷ bytes) rest chunk e), sym one ∙ h)

-- all chunks are taken
pub is_done : (limit : ℕ) (form : Form) (bytes : List ℕ) (total : Result Form FormFault) → length bytes ≡ 0 → with_chunks limit form bytes ≡ total → total ≡ Ok form
unfolding with_chunks
is_done limit form [] total none h = sym h
is_done limit form (b ∷ bytes) total none h = absurd (omega arith)

-- ---- a written form is read again

content_from : (bytes : List ℕ) → starts_with nat_eq bytes (0x1F ∷ 0x8B ∷ []) ≡ false → agree bytes (codes "FOR1") ≡ true → agree (drop 8 bytes) (codes "BEAM") ≡ true
    → 12 ≤ length bytes → 4 ≤ size_at bytes → 8 + size_at bytes ≤ length bytes → content_at bytes ≡ Ok (take (size_at bytes - 4) (drop 12 bytes))
unfolding content_at
content_from bytes plain name type long some within =
    let t0 : ltb (length bytes) 12 ≡ false = le-ltb _ _ long in
    let t1 : ltb (size_at bytes) 4 ≡ false = le-ltb _ _ some in
    let t2 : ltb (length bytes) (8 + size_at bytes) ≡ false = le-ltb _ _ within in
    rw (plain, name, type, t0, t1, t2) refl

-- any bytes may follow the last letter of a name
agree_behind : (rest : List ℕ) → list_all (λ (p : ℕ × ℕ). p.0 == p.1) (zip rest []) ≡ true
agree_behind [] = refl
agree_behind (b ∷ rest) = refl

take-whole : (xs : List ℕ) (n : ℕ) → n ≡ length xs → take n xs ≡ xs
take-whole xs n e = ap (take n) (sym (append-nil xs)) ∙ take_at xs [] n (sym e)

content_again : (chunks : List ℕ) → length chunks + 4 < 2 ^ 32 → content_at (codes "FOR1" ++ big_bytes 4 (length (codes "BEAM" ++ chunks)) ++ (codes "BEAM" ++ chunks)) ≡ Ok chunks
content_again chunks fits =
    let n : ℕ = length (codes "BEAM" ++ chunks) in
    let bytes : List ℕ = codes "FOR1" ++ big_bytes 4 n ++ (codes "BEAM" ++ chunks) in
    let size : size_at bytes ≡ n = big_number-reads_back 4 n (codes "BEAM" ++ chunks) (omega arith) in
    let read = content_from bytes refl (agree_behind (drop 4 bytes)) (agree_behind chunks) (omega arith) (omega (arith, size)) (omega (arith, size)) in
    let whole : take (size_at bytes - 4) (drop 12 bytes) ≡ chunks = take-whole chunks (size_at bytes - 4) (omega (arith, size)) in
    read ∙ ap (λ (c : List ℕ). done c) whole

chunk_from : (bytes : List ℕ) → 8 ≤ length bytes → 8 + size_at bytes ≤ length bytes
    → chunk_at bytes ≡ Ok (record { name = take 4 bytes; content = take (size_at bytes) (drop 8 bytes) }, drop (padded (size_at bytes)) (drop 8 bytes))
unfolding chunk_at
chunk_from bytes long within =
    let t0 : ltb (length bytes) 8 ≡ false = le-ltb _ _ long in
    let t1 : ltb (length bytes) (8 + size_at bytes) ≡ false = le-ltb _ _ within in
    rw (t0, t1) refl

padded-le : (n : ℕ) → n ≤ padded n
padded-le n = omega arith

chunk_is : (n : ℕ) (bytes name behind content rest : List ℕ) → size_at bytes ≡ n → take 4 bytes ≡ name → drop 8 bytes ≡ behind → take n behind ≡ content → drop (padded n) behind ≡ rest
    → 8 + n ≤ length bytes → chunk_at bytes ≡ Ok (record { name = name; content = content }, rest)
chunk_is n bytes name behind content rest size front after inner left long =
    let read = chunk_from bytes (omega arith) (omega (arith, size)) in
    let inner' : take (size_at bytes) (drop 8 bytes) ≡ content = ap (λ (k : ℕ). take k (drop 8 bytes)) size ∙ ap (take n) after ∙ inner in
    let left' : drop (padded (size_at bytes)) (drop 8 bytes) ≡ rest = ap (λ (k : ℕ). drop (padded k) (drop 8 bytes)) size ∙ ap (drop (padded n)) after ∙ left in
    read ∙ rw (front, inner', left') refl

chunk_again : (a b c d : ℕ) (content rest : List ℕ) → length content < 2 ^ 32
    → chunk_at (chunk_bytes (a ∷ b ∷ c ∷ d ∷ []) (Some content) ++ rest) ≡ Ok (record { name = a ∷ b ∷ c ∷ d ∷ []; content = content }, rest)
chunk_again a b c d content rest fits =
    let both : length (content ++ padding (length content)) ≡ padded (length content) = omega (arith, length-append content (padding (length content)), length-replicate {A = ℕ} (padded (length content) - length content) 0, padded-le (length content)) in
    chunk_is (length content) (chunk_bytes (a ∷ b ∷ c ∷ d ∷ []) (Some content) ++ rest) (a ∷ b ∷ c ∷ d ∷ []) ((content ++ padding (length content)) ++ rest) content rest
    (big_number-reads_back 4 (length content) ((content ++ padding (length content)) ++ rest) (omega arith)) refl refl
    (rw (append_assoc content (padding (length content)) rest) (take_at content (padding (length content) ++ rest) (length content) refl))
    (drop_at (content ++ padding (length content)) rest (padded (length content)) both)
    (omega (arith, both, padded-le (length content), length-append (content ++ padding (length content)) rest))

-- reading that goes on with this form at these bytes has the total as its result
record Left (form : Form) (bytes : List ℕ) (total : Result Form FormFault) : Type 0 where
  limit : ℕ
  room : length bytes ≤ limit
  same : with_chunks limit form bytes ≡ total

-- one chunk of a form, if it is there: `put` is the form with the chunk
part : (total : Result Form FormFault) (a b c d : ℕ) (o : Option (List ℕ)) (rest : List ℕ) (put : Option (List ℕ) → Form)
    → ((content : List ℕ) → with_chunk (put None) (record { name = a ∷ b ∷ c ∷ d ∷ []; content = content }) ≡ Ok (put (Some content)))
    → length (chunk_bytes (a ∷ b ∷ c ∷ d ∷ []) o ++ rest) < 2 ^ 32 → Left (put None) (chunk_bytes (a ∷ b ∷ c ∷ d ∷ []) o ++ rest) total
    → Left (put o) rest total
part total a b c d None rest put adds fits left = record { limit = left.limit; room = left.room; same = left.same }
part total a b c d (Some content) rest put adds fits left =
    let small : length content < 2 ^ 32 = omega (arith, length-append (content ++ padding (length content)) rest, length-append content (padding (length content))) in
    let taken = after_chunk left.limit (put None) (put (Some content)) (chunk_bytes (a ∷ b ∷ c ∷ d ∷ []) (Some content) ++ rest) rest (record { name = a ∷ b ∷ c ∷ d ∷ []; content = content }) total (chunk_again a b c d content rest small) (adds content) left.room left.same in
    record { limit = taken.0; room = taken.1; same = taken.2 }

at_end : (form : Form) (bytes : List ℕ) (total : Result Form FormFault) → Left form bytes total → Left form (bytes ++ []) total
at_end form bytes total left = record { limit = left.limit; room = omega (arith, length-append bytes [], left.room); same = ap (with_chunks left.limit form) (append-nil bytes) ∙ left.same }

chunks_again : (form : Form) (limit : ℕ) → length (form_chunks form) ≤ limit → length (form_chunks form) < 2 ^ 32 → with_chunks limit empty_form (form_chunks form) ≡ Ok form
unfolding with_chunk
chunks_again form limit le fits =
    let total : Result Form FormFault = with_chunks limit empty_form (form_chunks form) in
    let last : List ℕ = chunk_bytes (codes "LitT") form.literals in
    let from_exports : List ℕ = chunk_bytes (codes "ExpT") form.exports ++ last in
    let from_imports : List ℕ = chunk_bytes (codes "ImpT") form.imports ++ from_exports in
    let from_code : List ℕ = chunk_bytes (codes "Code") form.code ++ from_imports in
    let l1 : length (form_chunks form) ≡ length (chunk_bytes (codes "AtU8") form.atoms) + length from_code = length-append (chunk_bytes (codes "AtU8") form.atoms) from_code in
    let l2 : length from_code ≡ length (chunk_bytes (codes "Code") form.code) + length from_imports = length-append (chunk_bytes (codes "Code") form.code) from_imports in
    let l3 : length from_imports ≡ length (chunk_bytes (codes "ImpT") form.imports) + length from_exports = length-append (chunk_bytes (codes "ImpT") form.imports) from_exports in
    let l4 : length from_exports ≡ length (chunk_bytes (codes "ExpT") form.exports) + length last = length-append (chunk_bytes (codes "ExpT") form.exports) last in
    let p1 = part total 65 116 85 56 form.atoms from_code (λ (o : Option (List ℕ)). record empty_form { atoms = o }) (λ c. refl) fits (record { limit = limit; room = le; same = refl }) in
    let p2 = part total 67 111 100 101 form.code from_imports (λ (o : Option (List ℕ)). record empty_form { atoms = form.atoms; code = o }) (λ c. refl) (omega (arith, l1, fits)) (record { limit = p1.limit; room = p1.room; same = p1.same }) in
    let p3 = part total 73 109 112 84 form.imports from_exports (λ (o : Option (List ℕ)). record empty_form { atoms = form.atoms; code = form.code; imports = o }) (λ c. refl) (omega (arith, l1, l2, fits)) (record { limit = p2.limit; room = p2.room; same = p2.same }) in
    let p4 = part total 69 120 112 84 form.exports last (λ (o : Option (List ℕ)). record empty_form { atoms = form.atoms; code = form.code; imports = form.imports; exports = o }) (λ c. refl) (omega (arith, l1, l2, l3, fits)) (record { limit = p3.limit; room = p3.room; same = p3.same }) in
    let p5 = part total 76 105 116 84 form.literals [] (λ (o : Option (List ℕ)). record form { literals = o }) (λ c. refl) (omega (arith, l1, l2, l3, l4, fits, length-append last [])) (at_end (record form { literals = None }) last total (record { limit = p4.limit; room = p4.room; same = p4.same })) in
    is_done p5.limit form [] total refl p5.same

-- the bytes that are written for a form are read as that form
pub read_again : (form : Form) → length (form_body form) < 2 ^ 32 → form_at (form_bytes form) ≡ Ok form
unfolding form_at
read_again form fits =
    let content = content_again (form_chunks form) (omega arith) in
    let chunks = chunks_again form (length (form_chunks form)) (omega arith) (omega arith) in
    rw content chunks

-- ---- a file that is cut

both_true : (p q : Bool) → (p && q) ≡ true → (p ≡ true) × (q ≡ true)
both_true true q h = (refl, h)
both_true false q h = absurd cc

agree-take : (n : ℕ) (bytes name : List ℕ) → agree bytes name ≡ true → agree (take n bytes) name ≡ true
agree-take zero bytes name h = refl
agree-take (suc n) [] name h = refl
agree-take (suc n) (b ∷ bytes) [] h = refl
agree-take (suc n) (b ∷ bytes) (x ∷ name) h =
    let p = both_true (b == x) (agree bytes name) h in
    rw (p.0, agree-take n bytes name p.1) refl

never : (b : Bool) → (b && false) ≡ false
never true = refl
never false = refl

-- a file that isn't compressed isn't so when it is cut
plain-take : (n : ℕ) (bytes : List ℕ) → starts_with nat_eq bytes (0x1F ∷ 0x8B ∷ []) ≡ false → starts_with nat_eq (take n bytes) (0x1F ∷ 0x8B ∷ []) ≡ false
plain-take zero bytes h = refl
plain-take (suc n) [] h = refl
plain-take (suc zero) (a ∷ bytes) h = never (nat_eq 0x1F a)
plain-take (suc (suc n)) (a ∷ []) h = h
plain-take (suc (suc n)) (a ∷ b ∷ bytes) h = h

type-take : (n : ℕ) (bytes name : List ℕ) → agree (drop 8 bytes) name ≡ true → agree (drop 8 (take n bytes)) name ≡ true
type-take n bytes name h =
    elim (cases_lt n 8) [
      | inl lt ↦ let nothing : drop 8 (take n bytes) ≡ [] = nil_from_length (drop 8 (take n bytes)) (omega (arith, length-drop 8 (take n bytes), length-take n bytes)) in rw nothing refl
      | inr le ↦
          let k : n ≡ 8 + (n - 8) = omega arith in
          let e : drop 8 (take n bytes) ≡ take (n - 8) (drop 8 bytes) = ap (λ (m : ℕ). drop 8 (take m bytes)) k ∙ drop-take 8 (n - 8) bytes in
          rw e (agree-take (n - 8) (drop 8 bytes) name h)
    ]

size_at-take : (n : ℕ) (bytes : List ℕ) → 8 ≤ n → 8 ≤ length bytes → size_at (take n bytes) ≡ size_at bytes
size_at-take n bytes le long =
    let k : n ≡ 4 + (n - 4) = omega arith in
    let front : List ℕ = take (n - 4) (drop 4 bytes) in
    let e : drop 4 (take n bytes) ≡ front = ap (λ (m : ℕ). drop 4 (take m bytes)) k ∙ drop-take 4 (n - 4) bytes in
    let same : big_number 4 (front ++ drop (n - 4) (drop 4 bytes)) ≡ big_number 4 front = big_from-append 4 front (drop (n - 4) (drop 4 bytes)) (omega (arith, length-take (n - 4) (drop 4 bytes), length-drop 4 bytes)) in
    ap (big_number 4) e ∙ sym same ∙ ap (big_number 4) (take-append-drop (n - 4) (drop 4 bytes))

short_from : (bytes : List ℕ) → starts_with nat_eq bytes (0x1F ∷ 0x8B ∷ []) ≡ false → agree bytes (codes "FOR1") ≡ true → agree (drop 8 bytes) (codes "BEAM") ≡ true
    → length bytes < 12 → content_at bytes ≡ Err truncated
unfolding content_at
short_from bytes plain name type short =
    let t0 : ltb (length bytes) 12 ≡ true = lt-ltb _ _ short in
    rw (plain, name, type, t0) refl

passes_from : (bytes : List ℕ) → starts_with nat_eq bytes (0x1F ∷ 0x8B ∷ []) ≡ false → agree bytes (codes "FOR1") ≡ true → agree (drop 8 bytes) (codes "BEAM") ≡ true
    → 12 ≤ length bytes → 4 ≤ size_at bytes → length bytes < 8 + size_at bytes → content_at bytes ≡ Err truncated
unfolding content_at
passes_from bytes plain name type long some passes =
    let t0 : ltb (length bytes) 12 ≡ false = le-ltb _ _ long in
    let t1 : ltb (size_at bytes) 4 ≡ false = le-ltb _ _ some in
    let t2 : ltb (length bytes) (8 + size_at bytes) ≡ true = lt-ltb _ _ passes in
    rw (plain, name, type, t0, t1, t2) refl

-- the bytes begin as a form does, up to its content
record HasForm (bytes : List ℕ) : Type 0 where
  plain : starts_with nat_eq bytes (0x1F ∷ 0x8B ∷ []) ≡ false
  name : agree bytes (codes "FOR1") ≡ true
  type : agree (drop 8 bytes) (codes "BEAM") ≡ true
  long : 12 ≤ length bytes
  some : 4 ≤ size_at bytes
  within : 8 + size_at bytes ≤ length bytes

guard_true : {A : Type 0} (b : Bool) (d : FormFault) (r : Result A FormFault) (y : A) → cond b r (Err d) ≡ Ok y → (b ≡ true) × (r ≡ Ok y)
guard_true true d r y e = (refl, e)
guard_true false d r y e = absurd cc

both_false : (p q : Bool) → (p || q) ≡ false → (p ≡ false) × (q ≡ false)
both_false true q h = absurd cc
both_false false q h = (refl, h)

has_form : (bytes content : List ℕ) → content_at bytes ≡ Ok content → HasForm bytes
unfolding content_at
has_form bytes content e =
    let a = guard_ok (starts_with nat_eq bytes (0x1F ∷ 0x8B ∷ [])) compressed_file _ content e in
    let b = guard_true (agree bytes (codes "FOR1") && agree (drop 8 bytes) (codes "BEAM")) not_form _ content a.1 in
    let names = both_true (agree bytes (codes "FOR1")) (agree (drop 8 bytes) (codes "BEAM")) b.0 in
    let c = guard_ok (ltb (length bytes) 12) truncated _ content b.1 in
    let d = guard_ok (ltb (size_at bytes) 4 || ltb (length bytes) (8 + size_at bytes)) truncated _ content c.1 in
    let sizes = both_false (ltb (size_at bytes) 4) (ltb (length bytes) (8 + size_at bytes)) d.0 in
    record { plain = a.0; name = names.0; type = names.1; long = ltb-false _ _ c.0; some = ltb-false _ _ sizes.0; within = ltb-false _ _ sizes.1 }

content_cut : (bytes content : List ℕ) (n : ℕ) → content_at bytes ≡ Ok content → n < 8 + size_at bytes → content_at (take n bytes) ≡ Err truncated
content_cut bytes content n e lt =
    let h = has_form bytes content e in
    let plain = plain-take n bytes h.plain in
    let name = agree-take n bytes (codes "FOR1") h.name in
    let type = type-take n bytes (codes "BEAM") h.type in
    let len : length (take n bytes) ≡ n = omega (arith, length-take n bytes, h.within) in
    elim (cases_lt n 12) [
      | inl short ↦ short_from (take n bytes) plain name type (omega (arith, len))
      | inr long ↦
          let size = size_at-take n bytes (omega arith) (omega (arith, h.long)) in
          passes_from (take n bytes) plain name type (omega (arith, len)) (omega (arith, size, h.some)) (omega (arith, size, len))
    ]

-- a file that spells a form and is cut before the form's end is truncated
pub cut_short : (bytes : List ℕ) (form : Form) (n : ℕ) → form_at bytes ≡ Ok form → n < form_end bytes → form_at (take n bytes) ≡ Err truncated
unfolding form_at
cut_short bytes form n e lt =
    let c = bind_ok (content_at bytes) (λ content. with_chunks (length content) empty_form content) form e in
    rw (content_cut bytes c.0 n c.1 lt) refl
