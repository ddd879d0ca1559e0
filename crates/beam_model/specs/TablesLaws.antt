-- Laws of tables: what is written is read again.
use Rattle.std.specs.Prelude.{◌≡◌, ℕ, zero, suc, ◌+◌, ◌-◌, ◌^◌, ◌<◌, Bool, true, false, cond, ltb, List, [], ◌∷◌, ◌++◌, length, get_or, Option, Some, None, Result, Ok, Err, refl, nat_le, ◌&&◌, slice_get, position}
use Rattle.std.specs.List.{All}
use Rattle.std.proofs.Common.{sym, ap, ◌∙◌, append_assoc, arith, length-append}
use Rattle.std.specs.Str.{is_utf8, bytes_eq}
use Rattle.std.proofs.lemmas.Bool.{ltb-true, lt-ltb, le-ltb}
use Rattle.std.proofs.lemmas.List.{take_at, drop_at, append-nil}
use Rattle.std.proofs.lemmas.List.Elements.{All-head, All-tail}
use Rattle.std.proofs.lemmas.List.Quantifiers.{position-Some}
use Rattle.std.proofs.lemmas.Option.{slice_get-get_or}
use Rattle.std.proofs.lemmas.Slice.Eq.{bytes_eq-Decides}
use Rattle.byteorder.specs.Endian.{big_number, big_bytes}
use Rattle.byteorder.specs.Numbers.{big_number-reads_back}
use Rattle.beam_term.specs.Prelude.{TermValue}
use Rattle.beam_model.specs.External.{external_bytes}
use Rattle.beam_model.specs.ExternalReading.{external_at}
use Rattle.beam_model.specs.declared.function.Import.{Import}
use Rattle.beam_model.specs.declared.function.Export.{Export}
use Rattle.beam_model.specs.Tables.{Tables, TableFault, TableChunks, bad_table, ◌>>=◌, table_number_at, entries_at, utf8_text, table_atom_at, atoms_at, atom_of_index, import_at, imports_at, export_at, exports_at, sized_at, literal_of, literal_at, literals_at, literals_in, required_chunk, tables_at, number_bytes, atom_bytes, placed, index_of, index_bytes, import_bytes, export_bytes, entries_bytes, table_bytes, atoms_bytes, literal_bytes, literals_bytes, tables_bytes, form_with}

-- the value of a step that did not fail
bind_ok : {A B : Type 0} (r : Result A TableFault) (f : A → Result B TableFault) (y : B) → (r >>= f) ≡ Ok y → (x : A) × (r ≡ Ok x) × (f x ≡ Ok y)
bind_ok (Ok x) f y e = (x, refl, e)
bind_ok (Err d) f y e = absurd cc

-- tests that did not fail
guard_ok : {A : Type 0} (b : Bool) (d : TableFault) (r : Result A TableFault) (y : A) → cond b (Err d) r ≡ Ok y → (b ≡ false) × (r ≡ Ok y)
guard_ok true d r y e = absurd cc
guard_ok false d r y e = (refl, e)

guard_true : {A : Type 0} (b : Bool) (d : TableFault) (r : Result A TableFault) (y : A) → cond b r (Err d) ≡ Ok y → (b ≡ true) × (r ≡ Ok y)
guard_true true d r y e = (refl, e)
guard_true false d r y e = absurd cc

abbrev done : {A : Type 0} → A → Result A TableFault
done x = Ok x

ok_is : {A : Type 0} (x y : A) → done x ≡ done y → x ≡ y
ok_is x y e = cc

-- a function has one value at equal bytes
at_equal : {A B : Type 0} (f : A → B) (x y : A) (r : B) → x ≡ y → f y ≡ r → f x ≡ r
at_equal f x y r e h = ap f e ∙ h

-- ---- fields

number_again : (n : ℕ) (bytes rest : List ℕ) → number_bytes n ≡ Ok bytes → table_number_at (bytes ++ rest) ≡ Ok (n, rest)
unfolding number_bytes table_number_at
number_again n bytes rest e =
    let g = guard_true (ltb n (2 ^ 32)) bad_table (done (big_bytes 4 n)) bytes e in
    let lt : n < 2 ^ 32 = ltb-true _ _ g.0 in
    let is : big_bytes 4 n ≡ bytes = ok_is (big_bytes 4 n) bytes g.1 in
    let long : ltb (length (big_bytes 4 n ++ rest)) 4 ≡ false = le-ltb _ _ (omega arith) in
    let value : big_number 4 (big_bytes 4 n ++ rest) ≡ n = big_number-reads_back 4 n rest (omega arith) in
    let read : table_number_at (big_bytes 4 n ++ rest) ≡ Ok (n, rest) = rw long (ap (λ (m : ℕ). done (m, rest)) value) in
    ap (λ (b : List ℕ). table_number_at (b ++ rest)) (sym is) ∙ read

text_is : (text t : List ℕ) → utf8_text text ≡ Ok t → text ≡ t
unfolding utf8_text
text_is text t e = ok_is text t (guard_true (is_utf8 text) bad_table (done text) t e).1

text_again : (text bytes rest : List ℕ) → atom_bytes text ≡ Ok bytes → table_atom_at (bytes ++ rest) ≡ Ok (text, rest)
unfolding atom_bytes table_atom_at
text_again text bytes rest e =
    let g = guard_ok (ltb 255 (length text)) bad_table _ bytes e in
    let b = bind_ok (utf8_text text) (λ t. done (length text ∷ t)) bytes g.1 in
    let same : text ≡ b.0 = text_is text b.0 b.1 in
    let is : length text ∷ text ≡ bytes = ap (λ (t : List ℕ). length text ∷ t) same ∙ ok_is (length text ∷ b.0) bytes b.2 in
    let whole : utf8_text text ≡ Ok text = b.1 ∙ ap (λ (t : List ℕ). done t) (sym same) in
    let long : ltb (length (text ++ rest)) (length text) ≡ false = le-ltb _ _ (omega (arith, length-append text rest)) in
    let read : table_atom_at (length text ∷ (text ++ rest)) ≡ Ok (text, rest) = rw (long, take_at text rest (length text) refl, whole, drop_at text rest (length text) refl) refl in
    ap (λ (x : List ℕ). table_atom_at (x ++ rest)) (sym is) ∙ read

placed_ok : (o : Option ℕ) (index : ℕ) → placed o ≡ Ok index → (place : ℕ) × (o ≡ Some place) × (place + 1 ≡ index)
placed_ok None index e = absurd cc
placed_ok (Some place) index e = (place, refl, ok_is (place + 1) index e)

-- the index of an atom names it
atom_again : (atoms : List (List ℕ)) (text : List ℕ) (index : ℕ) → index_of atoms text ≡ Ok index → atom_of_index atoms index ≡ Ok text
unfolding index_of atom_of_index
atom_again atoms text index e =
    let p = placed_ok (position (bytes_eq text) atoms) index e in
    let q = position-Some (bytes_eq text) atoms p.0 [] p.1 in
    let same : text ≡ get_or atoms p.0 [] = (bytes_eq-Decides text (get_or atoms p.0 [])).0 q.1 in
    let some : ltb 0 index ≡ true = lt-ltb _ _ (omega (arith, p.2)) in
    let place : index - 1 ≡ p.0 = omega (arith, p.2) in
    let there : slice_get atoms (index - 1) ≡ Some text = ap (slice_get atoms) place ∙ slice_get-get_or atoms p.0 [] q.0 ∙ ap (λ (a : List ℕ). Some a) (sym same) in
    rw (some, there) refl

record Indexed (atoms : List (List ℕ)) (text bytes : List ℕ) : Type 0 where
  index : ℕ
  again : (rest : List ℕ) → table_number_at (bytes ++ rest) ≡ Ok (index, rest)
  atom : atom_of_index atoms index ≡ Ok text

indexed : (atoms : List (List ℕ)) (text bytes : List ℕ) → index_bytes atoms text ≡ Ok bytes → Indexed atoms text bytes
unfolding index_bytes
indexed atoms text bytes e =
    let i = bind_ok (index_of atoms text) number_bytes bytes e in
    record { index = i.0; again = λ rest. number_again i.0 bytes rest i.2; atom = atom_again atoms text i.0 i.1 }

-- two or three fields and what stands after them
paired : (bytes a b rest : List ℕ) → a ++ b ≡ bytes → bytes ++ rest ≡ a ++ (b ++ rest)
paired bytes a b rest is = ap (λ (x : List ℕ). x ++ rest) (sym is) ∙ append_assoc a b rest

parted : (bytes a b c rest : List ℕ) → (a ++ b) ++ c ≡ bytes → bytes ++ rest ≡ a ++ (b ++ (c ++ rest))
parted bytes a b c rest is = paired bytes (a ++ b) c rest is ∙ append_assoc a b (c ++ rest)

import_again : (atoms : List (List ℕ)) (i : Import) (bytes rest : List ℕ) → import_bytes atoms i ≡ Ok bytes → import_at atoms (bytes ++ rest) ≡ Ok (i, rest)
unfolding import_bytes import_at
import_again atoms i bytes rest e =
    let m = bind_ok (index_bytes atoms i.«module») (λ a. index_bytes atoms i.function >>= λ b. number_bytes i.arity >>= λ c. done (a ++ b ++ c)) bytes e in
    let f = bind_ok (index_bytes atoms i.function) (λ b. number_bytes i.arity >>= λ c. done (m.0 ++ b ++ c)) bytes m.2 in
    let a = bind_ok (number_bytes i.arity) (λ c. done (m.0 ++ f.0 ++ c)) bytes f.2 in
    let is : (m.0 ++ f.0) ++ a.0 ≡ bytes = ok_is ((m.0 ++ f.0) ++ a.0) bytes a.2 in
    let first = indexed atoms i.«module» m.0 m.1 in
    let second = indexed atoms i.function f.0 f.1 in
    let third = number_again i.arity a.0 rest a.1 in
    at_equal (import_at atoms) (bytes ++ rest) (m.0 ++ (f.0 ++ (a.0 ++ rest))) (Ok (i, rest)) (parted bytes m.0 f.0 a.0 rest is) (rw (first.again (f.0 ++ (a.0 ++ rest)), second.again (a.0 ++ rest), third, first.atom, second.atom) refl)

export_again : (atoms : List (List ℕ)) (x : Export) (bytes rest : List ℕ) → export_bytes atoms x ≡ Ok bytes → export_at atoms (bytes ++ rest) ≡ Ok (x, rest)
unfolding export_bytes export_at
export_again atoms x bytes rest e =
    let n = bind_ok (index_bytes atoms x.name) (λ a. number_bytes x.arity >>= λ b. number_bytes x.label >>= λ c. done (a ++ b ++ c)) bytes e in
    let a = bind_ok (number_bytes x.arity) (λ b. number_bytes x.label >>= λ c. done (n.0 ++ b ++ c)) bytes n.2 in
    let l = bind_ok (number_bytes x.label) (λ c. done (n.0 ++ a.0 ++ c)) bytes a.2 in
    let is : (n.0 ++ a.0) ++ l.0 ≡ bytes = ok_is ((n.0 ++ a.0) ++ l.0) bytes l.2 in
    let first = indexed atoms x.name n.0 n.1 in
    let second = number_again x.arity a.0 (l.0 ++ rest) a.1 in
    let third = number_again x.label l.0 rest l.1 in
    at_equal (export_at atoms) (bytes ++ rest) (n.0 ++ (a.0 ++ (l.0 ++ rest))) (Ok (x, rest)) (parted bytes n.0 a.0 l.0 rest is) (rw (first.again (a.0 ++ (l.0 ++ rest)), second, third, first.atom) refl)

-- ---- tables

-- reading n entries gives n
pub length-entries : {X : Type 0} (entry : List ℕ → Result (X × List ℕ) TableFault) (count : ℕ) (bytes : List ℕ) (xs : List X) → entries_at entry count bytes ≡ Ok xs → length xs ≡ count
unfolding entries_at
length-entries {X = X} entry zero bytes xs e = let none : List X = [] in ap length (sym (ok_is none xs e))
length-entries {X = X} entry (suc count) bytes xs e =
    let a = bind_ok (entry bytes) (λ first. entries_at entry count first.1 >>= λ others. done (first.0 ∷ others)) xs e in
    let b = bind_ok (entries_at entry count a.0.1) (λ others. done (a.0.0 ∷ others)) xs a.2 in
    omega (arith, ap length (ok_is (a.0.0 ∷ b.0) xs b.2), length-entries entry count a.0.1 b.0 b.1)

-- an entry that is written is read again
abbrev IsReadAgain : {X : Type 0} → (List ℕ → Result (X × List ℕ) TableFault) → (X → Result (List ℕ) TableFault) → X → Type 0
IsReadAgain entry bytes_of x = (bytes rest : List ℕ) → bytes_of x ≡ Ok bytes → entry (bytes ++ rest) ≡ Ok (x, rest)

entries_again : {X : Type 0} (entry : List ℕ → Result (X × List ℕ) TableFault) (bytes_of : X → Result (List ℕ) TableFault)
    → (xs : List X) → All (IsReadAgain entry bytes_of) xs → (bytes rest : List ℕ) → entries_bytes bytes_of xs ≡ Ok bytes → entries_at entry (length xs) (bytes ++ rest) ≡ Ok xs
unfolding entries_bytes entries_at
entries_again entry bytes_of [] again bytes rest e = refl
entries_again entry bytes_of (x ∷ xs) again bytes rest e =
    let a = bind_ok (bytes_of x) (λ first. entries_bytes bytes_of xs >>= λ others. done (first ++ others)) bytes e in
    let b = bind_ok (entries_bytes bytes_of xs) (λ others. done (a.0 ++ others)) bytes a.2 in
    let is : a.0 ++ b.0 ≡ bytes = ok_is (a.0 ++ b.0) bytes b.2 in
    at_equal (entries_at entry (suc (length xs))) (bytes ++ rest) (a.0 ++ (b.0 ++ rest)) (Ok (x ∷ xs)) (paired bytes a.0 b.0 rest is) (rw (All-head (IsReadAgain entry bytes_of) x xs again a.0 (b.0 ++ rest) a.1, entries_again entry bytes_of xs (All-tail (IsReadAgain entry bytes_of) x xs again) b.0 rest b.1) refl)

table_again : {X : Type 0} (entry : List ℕ → Result (X × List ℕ) TableFault) (bytes_of : X → Result (List ℕ) TableFault)
    → (xs : List X) → All (IsReadAgain entry bytes_of) xs → (bytes : List ℕ) → table_bytes bytes_of xs ≡ Ok bytes → (rest : List ℕ) × (table_number_at bytes ≡ Ok (length xs, rest)) × (entries_at entry (length xs) rest ≡ Ok xs)
unfolding table_bytes
table_again entry bytes_of xs again bytes e =
    let a = bind_ok (number_bytes (length xs)) (λ count. entries_bytes bytes_of xs >>= λ entries. done (count ++ entries)) bytes e in
    let b = bind_ok (entries_bytes bytes_of xs) (λ entries. done (a.0 ++ entries)) bytes a.2 in
    let is : a.0 ++ b.0 ≡ bytes = ok_is (a.0 ++ b.0) bytes b.2 in
    let count : table_number_at bytes ≡ Ok (length xs, b.0) = ap table_number_at (sym is) ∙ number_again (length xs) a.0 b.0 a.1 in
    let entries : entries_at entry (length xs) b.0 ≡ Ok xs = ap (entries_at entry (length xs)) (sym (append-nil b.0)) ∙ entries_again entry bytes_of xs again b.0 [] b.1 in
    (b.0, count, entries)

atoms_from : (count : ℕ) (atoms : List (List ℕ)) (bytes rest : List ℕ) → (ltb 0 count && nat_le count 65535) ≡ true → table_number_at bytes ≡ Ok (count, rest) → entries_at table_atom_at count rest ≡ Ok atoms → atoms_at bytes ≡ Ok atoms
unfolding atoms_at
atoms_from count atoms bytes rest fits read entries = rw (read, fits, entries) refl

atoms_again : (atoms : List (List ℕ)) (bytes : List ℕ) → atoms_bytes atoms ≡ Ok bytes → atoms_at bytes ≡ Ok atoms
unfolding atoms_bytes
atoms_again atoms bytes e =
    let g = guard_true (ltb 0 (length atoms) && nat_le (length atoms) 65535) bad_table _ bytes e in
    let t = table_again table_atom_at atom_bytes atoms (λ k d lt. text_again _) bytes g.1 in
    atoms_from (length atoms) atoms bytes t.0 g.0 t.1 t.2

imports_again : (atoms : List (List ℕ)) (is : List Import) (bytes : List ℕ) → table_bytes (import_bytes atoms) is ≡ Ok bytes → imports_at atoms bytes ≡ Ok is
unfolding imports_at
imports_again atoms is bytes e =
    let t = table_again (import_at atoms) (import_bytes atoms) is (λ k d lt. import_again atoms _) bytes e in
    rw (t.1, t.2) refl

exports_again : (atoms : List (List ℕ)) (xs : List Export) (bytes : List ℕ) → table_bytes (export_bytes atoms) xs ≡ Ok bytes → exports_at atoms bytes ≡ Ok xs
unfolding exports_at
exports_again atoms xs bytes e =
    let t = table_again (export_at atoms) (export_bytes atoms) xs (λ k d lt. export_again atoms _) bytes e in
    rw (t.1, t.2) refl

-- ---- literals

-- a size, and as many bytes
sized_again : (front size rest : List ℕ) → number_bytes (length front) ≡ Ok size → sized_at (size ++ (front ++ rest)) ≡ Ok (front, rest)
unfolding sized_at
sized_again front size rest e =
    let long : ltb (length (front ++ rest)) (length front) ≡ false = le-ltb _ _ (omega (arith, length-append front rest)) in
    rw (number_again (length front) size (front ++ rest) e, long, take_at front rest (length front) refl, drop_at front rest (length front) refl) refl

-- the bytes that are written for a term are read as that term
abbrev pub IsReadBack : TermValue → Type 0
IsReadBack t = external_at (external_bytes t) ≡ Ok (t, [])

literal_is : (t : TermValue) (front : List ℕ) → external_at front ≡ Ok (t, []) → literal_of front ≡ Ok t
unfolding literal_of
literal_is t front e = rw e refl

literal_again : (t : TermValue) → IsReadBack t → IsReadAgain literal_at literal_bytes t
unfolding literal_bytes literal_at
literal_again t again bytes rest e =
    let s = bind_ok (number_bytes (length (external_bytes t))) (λ size. done (size ++ external_bytes t)) bytes e in
    let is : s.0 ++ external_bytes t ≡ bytes = ok_is (s.0 ++ external_bytes t) bytes s.2 in
    let field = sized_again (external_bytes t) s.0 rest s.1 in
    let literal = literal_is t (external_bytes t) again in
    at_equal literal_at (bytes ++ rest) (s.0 ++ (external_bytes t ++ rest)) (Ok (t, rest)) (paired bytes s.0 (external_bytes t) rest is) (rw (field, literal) refl)

literals_from : (count : ℕ) (ts : List TermValue) (bytes counted rest : List ℕ) → table_number_at bytes ≡ Ok (0, counted) → table_number_at counted ≡ Ok (count, rest) → entries_at literal_at count rest ≡ Ok ts → literals_at bytes ≡ Ok ts
unfolding literals_at
literals_from count ts bytes counted rest first read entries = rw (first, read, entries) refl

literals_again : (ts : List TermValue) → All IsReadBack ts → (chunk : Option (List ℕ)) → literals_bytes ts ≡ Ok chunk → literals_in chunk ≡ Ok ts
unfolding literals_bytes literals_in
literals_again [] again chunk e =
    let none : Option (List ℕ) = None in
    at_equal literals_in chunk none (Ok []) (sym (ok_is none chunk e)) refl
literals_again (t ∷ ts) again chunk e =
    let z = bind_ok (number_bytes 0) (λ compressed. table_bytes literal_bytes (t ∷ ts) >>= λ table. done (Some (compressed ++ table))) chunk e in
    let b = bind_ok (table_bytes literal_bytes (t ∷ ts)) (λ table. done (Some (z.0 ++ table))) chunk z.2 in
    let is : Some (z.0 ++ b.0) ≡ chunk = ok_is (Some (z.0 ++ b.0)) chunk b.2 in
    let table = table_again literal_at literal_bytes (t ∷ ts) (λ k d lt. literal_again _ (again k d lt)) b.0 b.1 in
    let first = number_again 0 z.0 b.0 z.1 in
    at_equal literals_in chunk (Some (z.0 ++ b.0)) (Ok (t ∷ ts)) (sym is) (literals_from (length (t ∷ ts)) (t ∷ ts) (z.0 ++ b.0) b.0 table.0 first table.1 table.2)

-- ---- all tables

-- tables that are written are read again, whatever the code, where what is written of each literal is read as it
pub tables_again : (t : Tables) (chunks : TableChunks) (code : List ℕ) → All IsReadBack t.literals → tables_bytes t ≡ Ok chunks → tables_at (form_with chunks code) ≡ Ok t
unfolding tables_bytes tables_at required_chunk
tables_again t chunks code again e =
    let a = bind_ok (atoms_bytes t.atoms) (λ atoms. table_bytes (import_bytes t.atoms) t.imports >>= λ imports. table_bytes (export_bytes t.atoms) t.exports >>= λ exports. literals_bytes t.literals >>= λ literals. done (record { atoms = atoms; imports = imports; exports = exports; literals = literals })) chunks e in
    let i = bind_ok (table_bytes (import_bytes t.atoms) t.imports) (λ imports. table_bytes (export_bytes t.atoms) t.exports >>= λ exports. literals_bytes t.literals >>= λ literals. done (record { atoms = a.0; imports = imports; exports = exports; literals = literals })) chunks a.2 in
    let x = bind_ok (table_bytes (export_bytes t.atoms) t.exports) (λ exports. literals_bytes t.literals >>= λ literals. done (record { atoms = a.0; imports = i.0; exports = exports; literals = literals })) chunks i.2 in
    let l = bind_ok (literals_bytes t.literals) (λ literals. done (record { atoms = a.0; imports = i.0; exports = x.0; literals = literals })) chunks x.2 in
    let made : TableChunks = record { atoms = a.0; imports = i.0; exports = x.0; literals = l.0 } in
    let is : made ≡ chunks = ok_is made chunks l.2 in
    at_equal (λ (c : TableChunks). tables_at (form_with c code)) chunks made (Ok t) (sym {a = made} {b = chunks} is) (rw (atoms_again t.atoms a.0 a.1, imports_again t.atoms t.imports i.0 i.1, exports_again t.atoms t.exports x.0 x.1, literals_again t.literals again l.0 l.1) refl)
