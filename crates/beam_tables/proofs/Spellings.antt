-- Tables are read exactly from the chunks that spell them.
use Rattle.std.proofs.Common.{◌≡◌, ℕ, zero, suc, ◌-◌, ◌<◌, ◌≤◌, true, false, cond, ltb, List, [], ◌∷◌, ◌++◌, length, take, drop, Option, Some, None, Result, Ok, Err, refl, sym, ap, subst, ◌∙◌, append_assoc, arith, nat_le, ◌&&◌, ◌==◌, slice_get, MatchOption, ltb-true, ltb-false, lt-ltb, le-ltb, leb-true, le-leb, eqb-true, append-nil, take_at, drop_at, take-append-drop, length-take, length-append}
use Rattle.std.specs.Str.{is_utf8}
use Rattle.std.proofs.lemmas.Bool.{and_parts}
use Rattle.beam_lemmas.proofs.Steps.{bind_ok, guard_true, guard_false}
use Rattle.byteorder.specs.Endian.{big_number}
use Rattle.byteorder.specs.Numbers.{big_from-take, big_from-append}
use Rattle.beam_model.specs.Prelude.{IsExternal, ExternalFault, external_at, Tables, TableFault, bad_table, compressed_literals, table_number_at, entries_at, utf8_text, table_atom_at, atoms_at, found, atom_of_index, import_at, imports_at, export_at, exports_at, sized_at, literal_alone, literal_of, literal_at, literals_at, literals_in, required_chunk, tables_at, length-entries, InSequence, IsTable, IsAtom, AreAtoms, IsAtomIndex, IsImport, IsExport, IsLiteral, AreLiterals, AreTables, Form}
use Rattle.beam_model.specs.declared.function.Import.{Import}
use Rattle.beam_model.specs.declared.function.Export.{Export}
use Rattle.beam_term.specs.Prelude.{TermValue}
use Rattle.beam_etf.proofs.ReadingComplete.{external_again}
use Rattle.beam_etf.proofs.ReadingSoundParts.{external_takes}
use Rattle.beam_model.specs.Tables.{◌>>=◌}
use Rattle.beam_model.specs.ChunkForm.{IsWord}

-- ---- steps of reading

abbrev done : {A : Type 0} → A → Result A TableFault
done x = Ok x

pub ok_is : {A : Type 0} (x y : A) → done x ≡ done y → x ≡ y
ok_is x y e = cc

-- ---- what stands in front

-- bytes of this kind, and the rest after them
record Front (Is : List ℕ → Type 0) (bytes rest : List ℕ) : Type 0 where
  front : List ℕ
  parts : bytes ≡ front ++ rest
  is : Is front

-- reading takes exactly the bytes that spell an entry at the front
record IsRead {X : Type 0} (stands : X → List ℕ → Type 0) (entry : List ℕ → Result (X × List ℕ) TableFault) : Type 0 where
  told : (bytes : List ℕ) (p : X × List ℕ) → entry bytes ≡ Ok p → Front (stands p.0) bytes p.1
  read : (front rest : List ℕ) (x : X) → stands x front → entry (front ++ rest) ≡ Ok (x, rest)

-- ---- numbers

number_told : (bytes : List ℕ) (p : ℕ × List ℕ) → table_number_at bytes ≡ Ok p → Front (IsWord p.0) bytes p.1
unfolding table_number_at
number_told bytes p e =
    let g = guard_false (ltb (length bytes) 4) bad_table _ p e in
    let long : 4 ≤ length bytes = ltb-false _ _ g.0 in
    let front : Front (IsWord (big_number 4 bytes)) bytes (drop 4 bytes) = record {
      front = take 4 bytes;
      parts = sym (take-append-drop 4 bytes);
      is = record { wide = omega (arith, length-take 4 bytes, long); value = sym (big_from-take 0 4 4 bytes (omega arith)) };
    } in
    subst (λ (q : ℕ × List ℕ). Front (IsWord q.0) bytes q.1) (ok_is _ p g.1) front

number_read : (front rest : List ℕ) (n : ℕ) → IsWord n front → table_number_at (front ++ rest) ≡ Ok (n, rest)
unfolding table_number_at
number_read front rest n w =
    let long : ltb (length (front ++ rest)) 4 ≡ false = le-ltb _ _ (omega (arith, length-append front rest, w.wide)) in
    let value : big_number 4 (front ++ rest) ≡ n = big_from-append 4 front rest (omega (arith, w.wide)) ∙ sym w.value in
    let after : drop 4 (front ++ rest) ≡ rest = drop_at front rest 4 w.wide in
    rw (long, value, after) refl

-- ---- tables

entries_told : {X : Type 0} (stands : X → List ℕ → Type 0) (entry : List ℕ → Result (X × List ℕ) TableFault) → IsRead stands entry
    → (n : ℕ) (bytes : List ℕ) (xs : List X) → entries_at entry n bytes ≡ Ok xs → (body after : List ℕ) × (bytes ≡ body ++ after) × InSequence stands xs body
unfolding entries_at
entries_told {X} stands entry is zero bytes xs e =
    let none : List X = [] in
    ([], bytes, refl, subst (λ (ys : List X). InSequence stands ys []) (ok_is none xs e) refl)
entries_told {X} stands entry is (suc n) bytes xs e =
    let a = bind_ok (entry bytes) (λ (first : X × List ℕ). entries_at entry n first.1 >>= λ others. done (first.0 ∷ others)) xs e in
    let b = bind_ok (entries_at entry n a.0.1) (λ (others : List X). done (a.0.0 ∷ others)) xs a.2 in
    let first = is.told bytes a.0 a.1 in
    let others = entries_told stands entry is n a.0.1 b.0 b.1 in
    let parts : bytes ≡ (first.front ++ others.0) ++ others.1 = first.parts ∙ ap (λ (t : List ℕ). first.front ++ t) others.2 ∙ sym (append_assoc first.front others.0 others.1) in (
      first.front ++ others.0,
      others.1,
      parts,
      subst (λ (ys : List X). InSequence stands ys (first.front ++ others.0)) (ok_is (a.0.0 ∷ b.0) xs b.2) (first.front, others.0, refl, first.is, others.3),
    )

entries_read : {X : Type 0} (stands : X → List ℕ → Type 0) (entry : List ℕ → Result (X × List ℕ) TableFault) → IsRead stands entry
    → (xs : List X) (body after : List ℕ) → InSequence stands xs body → entries_at entry (length xs) (body ++ after) ≡ Ok xs
unfolding entries_at
entries_read stands entry is [] body after are = refl
entries_read {X} stands entry is (x ∷ xs) body after (front, rest, parts, first, others) =
    let whole : body ++ after ≡ front ++ (rest ++ after) = ap (λ (t : List ℕ). t ++ after) parts ∙ append_assoc front rest after in
    ap (entries_at entry (suc (length xs))) whole
    ∙ ap (λ (r : Result (X × List ℕ) TableFault). r >>= λ p. entries_at entry (length xs) p.1 >>= λ ys. done (p.0 ∷ ys)) (is.read front (rest ++ after) x first)
    ∙ ap (λ (r : Result (List X) TableFault). r >>= λ ys. done (x ∷ ys)) (entries_read stands entry is xs rest after others)

table_told : {X : Type 0} (stands : X → List ℕ → Type 0) (entry : List ℕ → Result (X × List ℕ) TableFault) → IsRead stands entry
    → (bytes : List ℕ) (p : ℕ × List ℕ) (xs : List X) → table_number_at bytes ≡ Ok p → entries_at entry p.0 p.1 ≡ Ok xs → IsTable stands xs bytes
table_told stands entry is bytes p xs e f =
    let count = number_told bytes p e in
    let entries = entries_told stands entry is p.0 p.1 xs f in
    record {
      count = count.front;
      body = entries.0;
      after = entries.1;
      parts = count.parts ∙ ap (λ (t : List ℕ). count.front ++ t) entries.2;
      is_count = subst (λ (n : ℕ). IsWord n count.front) (sym (length-entries entry p.0 p.1 xs f)) count.is;
      are_entries = entries.3;
    }

record TableRead {X : Type 0} (entry : List ℕ → Result (X × List ℕ) TableFault) (xs : List X) (bytes : List ℕ) : Type 0 where
  rest : List ℕ
  count : table_number_at bytes ≡ Ok (length xs, rest)
  entries : entries_at entry (length xs) rest ≡ Ok xs

table_read : {X : Type 0} (stands : X → List ℕ → Type 0) (entry : List ℕ → Result (X × List ℕ) TableFault) → IsRead stands entry
    → (bytes : List ℕ) (xs : List X) → IsTable stands xs bytes → TableRead entry xs bytes
table_read stands entry is bytes xs t = record {
  rest = t.body ++ t.after;
  count = ap table_number_at t.parts ∙ number_read t.count (t.body ++ t.after) (length xs) t.is_count;
  entries = entries_read stands entry is xs t.body t.after t.are_entries;
}

-- ---- atoms

text_told : (bytes text : List ℕ) → utf8_text bytes ≡ Ok text → (bytes ≡ text) × (is_utf8 bytes ≡ true)
unfolding utf8_text
text_told bytes text e = let g = guard_true (is_utf8 bytes) bad_table (done bytes) text e in (ok_is bytes text g.1, g.0)

text_read : (bytes : List ℕ) → is_utf8 bytes ≡ true → utf8_text bytes ≡ Ok bytes
unfolding utf8_text
text_read bytes e = rw e refl

atom_told : (bytes : List ℕ) (p : List ℕ × List ℕ) → table_atom_at bytes ≡ Ok p → Front (IsAtom p.0) bytes p.1
unfolding table_atom_at
atom_told [] p e = absurd cc
atom_told (n ∷ bytes) p e =
    let g = guard_false (ltb (length bytes) n) bad_table _ p e in
    let b = bind_ok (utf8_text (take n bytes)) (λ (text : List ℕ). done (text, drop n bytes)) p g.1 in
    let t = text_told (take n bytes) b.0 b.1 in
    let long : n ≤ length bytes = ltb-false _ _ g.0 in
    let size : n ≡ length (take n bytes) = omega (arith, length-take n bytes, long) in
    let front : Front (IsAtom (take n bytes)) (n ∷ bytes) (drop n bytes) = record {
      front = n ∷ take n bytes;
      parts = ap (λ (t : List ℕ). n ∷ t) (sym (take-append-drop n bytes));
      is = record { parts = ap (λ (k : ℕ). k ∷ take n bytes) size; utf8 = t.1 };
    } in
    subst (λ (q : List ℕ × List ℕ). Front (IsAtom q.0) (n ∷ bytes) q.1) (ap (λ (u : List ℕ). (u, drop n bytes)) t.0 ∙ ok_is (b.0, drop n bytes) p b.2) front

atom_read : (front rest text : List ℕ) → IsAtom text front → table_atom_at (front ++ rest) ≡ Ok (text, rest)
unfolding table_atom_at
atom_read front rest text a =
    let long : ltb (length (text ++ rest)) (length text) ≡ false = le-ltb _ _ (omega (arith, length-append text rest)) in
    let read : table_atom_at (length text ∷ (text ++ rest)) ≡ Ok (text, rest) = rw (long, take_at text rest (length text) refl, text_read text a.utf8, drop_at text rest (length text) refl) refl in
    ap (λ (t : List ℕ). table_atom_at (t ++ rest)) a.parts ∙ read

atom_is_read : IsRead IsAtom table_atom_at
atom_is_read = record { told = atom_told; read = λ front rest text a. atom_read front rest text a }

pub atoms_told : (bytes : List ℕ) (atoms : List (List ℕ)) → atoms_at bytes ≡ Ok atoms → AreAtoms atoms bytes
unfolding atoms_at
atoms_told bytes atoms e =
    let c = bind_ok (table_number_at bytes) (λ (count : ℕ × List ℕ). cond (ltb 0 count.0 && nat_le count.0 65535) (entries_at table_atom_at count.0 count.1) (Err bad_table)) atoms e in
    let g = guard_true (ltb 0 c.0.0 && nat_le c.0.0 65535) bad_table (entries_at table_atom_at c.0.0 c.0.1) atoms c.2 in
    let b = and_parts (ltb 0 c.0.0) (nat_le c.0.0 65535) g.0 in
    let count : length atoms ≡ c.0.0 = length-entries table_atom_at c.0.0 c.0.1 atoms g.1 in
    let low : 0 < c.0.0 = ltb-true _ _ b.0 in
    let high : c.0.0 ≤ 65535 = leb-true _ _ b.1 in
    record {
      table = table_told IsAtom table_atom_at atom_is_read bytes c.0 atoms c.1 g.1;
      some = omega (arith, count, low);
      within = omega (arith, count, high);
    }

pub atoms_read : (bytes : List ℕ) (atoms : List (List ℕ)) → AreAtoms atoms bytes → atoms_at bytes ≡ Ok atoms
unfolding atoms_at
atoms_read bytes atoms a =
    let t = table_read IsAtom table_atom_at atom_is_read bytes atoms a.table in
    let low : ltb 0 (length atoms) ≡ true = lt-ltb _ _ a.some in
    let high : nat_le (length atoms) 65535 ≡ true = le-leb _ _ a.within in
    rw (t.count, low, high, t.entries) refl

-- ---- imports and exports

found_is : (o : Option (List ℕ)) (text : List ℕ) → found o ≡ Ok text → o ≡ Some text
found_is None text e = absurd cc
found_is (Some t) text e = ap (λ (u : List ℕ). Some u) (ok_is t text e)

pub atom_of_told : (atoms : List (List ℕ)) (n : ℕ) (text : List ℕ) → atom_of_index atoms n ≡ Ok text → (place : ℕ) × (n ≡ suc place) × (slice_get atoms place ≡ Some text)
unfolding atom_of_index
atom_of_told atoms n text e =
    let g = guard_true (ltb 0 n) bad_table (found (slice_get atoms (n - 1))) text e in
    let some : 0 < n = ltb-true _ _ g.0 in
    (n - 1, omega (arith, some), found_is (slice_get atoms (n - 1)) text g.1)

pub atom_of_read : (atoms : List (List ℕ)) (place : ℕ) (text : List ℕ) → slice_get atoms place ≡ Some text → atom_of_index atoms (suc place) ≡ Ok text
unfolding atom_of_index
atom_of_read atoms place text e =
    let some : ltb 0 (suc place) ≡ true = lt-ltb _ _ (omega arith) in
    let back : suc place - 1 ≡ place = omega arith in
    rw (some, back, e) refl

index_told : (atoms : List (List ℕ)) (bytes : List ℕ) (p : ℕ × List ℕ) (text : List ℕ) → table_number_at bytes ≡ Ok p → atom_of_index atoms p.0 ≡ Ok text → Front (IsAtomIndex atoms text) bytes p.1
index_told atoms bytes p text e f =
    let number = number_told bytes p e in
    let atom = atom_of_told atoms p.0 text f in
    record {
      front = number.front;
      parts = number.parts;
      is = record { place = atom.0; index = subst (λ (n : ℕ). IsWord n number.front) atom.1 number.is; atom = atom.2 };
    }

import_told : (atoms : List (List ℕ)) (bytes : List ℕ) (p : Import × List ℕ) → import_at atoms bytes ≡ Ok p → Front (IsImport atoms p.0) bytes p.1
unfolding import_at
import_told atoms bytes p e =
    let m = bind_ok (table_number_at bytes) (λ (a : ℕ × List ℕ). table_number_at a.1 >>= λ b. table_number_at b.1 >>= λ c. atom_of_index atoms a.0 >>= λ s. atom_of_index atoms b.0 >>= λ t. done (record { «module» = s; function = t; arity = c.0 }, c.1)) p e in
    let f = bind_ok (table_number_at m.0.1) (λ (b : ℕ × List ℕ). table_number_at b.1 >>= λ c. atom_of_index atoms m.0.0 >>= λ s. atom_of_index atoms b.0 >>= λ t. done (record { «module» = s; function = t; arity = c.0 }, c.1)) p m.2 in
    let a = bind_ok (table_number_at f.0.1) (λ (c : ℕ × List ℕ). atom_of_index atoms m.0.0 >>= λ s. atom_of_index atoms f.0.0 >>= λ t. done (record { «module» = s; function = t; arity = c.0 }, c.1)) p f.2 in
    let s = bind_ok (atom_of_index atoms m.0.0) (λ (s : List ℕ). atom_of_index atoms f.0.0 >>= λ t. done (record { «module» = s; function = t; arity = a.0.0 }, a.0.1)) p a.2 in
    let t = bind_ok (atom_of_index atoms f.0.0) (λ (t : List ℕ). done (record { «module» = s.0; function = t; arity = a.0.0 }, a.0.1)) p s.2 in
    let first = index_told atoms bytes m.0 s.0 m.1 s.1 in
    let second = index_told atoms m.0.1 f.0 t.0 f.1 t.1 in
    let third = number_told f.0.1 a.0 a.1 in
    let made : Import = record { «module» = s.0; function = t.0; arity = a.0.0 } in
    let front : Front (IsImport atoms made) bytes a.0.1 = record {
      front = first.front ++ (second.front ++ third.front);
      parts = first.parts ∙ ap (λ (u : List ℕ). first.front ++ u) (second.parts ∙ ap (λ (u : List ℕ). second.front ++ u) third.parts ∙ sym (append_assoc second.front third.front a.0.1))
          ∙ sym (append_assoc first.front (second.front ++ third.front) a.0.1);
      is = record { module_index = first.front; function_index = second.front; arity = third.front; parts = refl; is_module = first.is; is_function = second.is; is_arity = third.is };
    } in
    subst (λ (q : Import × List ℕ). Front (IsImport atoms q.0) bytes q.1) (ok_is (made, a.0.1) p t.2) front

import_read : (atoms : List (List ℕ)) (front rest : List ℕ) (i : Import) → IsImport atoms i front → import_at atoms (front ++ rest) ≡ Ok (i, rest)
unfolding import_at
import_read atoms front rest i is =
    let first = number_read is.module_index (is.function_index ++ (is.arity ++ rest)) (suc is.is_module.place) is.is_module.index in
    let second = number_read is.function_index (is.arity ++ rest) (suc is.is_function.place) is.is_function.index in
    let third = number_read is.arity rest i.arity is.is_arity in
    let module_name = atom_of_read atoms is.is_module.place i.«module» is.is_module.atom in
    let function_name = atom_of_read atoms is.is_function.place i.function is.is_function.atom in
    let parts : front ++ rest ≡ is.module_index ++ (is.function_index ++ (is.arity ++ rest)) =
    ap (λ (t : List ℕ). t ++ rest) is.parts ∙ append_assoc is.module_index (is.function_index ++ is.arity) rest
    ∙ ap (λ (t : List ℕ). is.module_index ++ t) (append_assoc is.function_index is.arity rest) in
    ap (import_at atoms) parts ∙ rw (first, second, third, module_name, function_name) refl

import_is_read : (atoms : List (List ℕ)) → IsRead (IsImport atoms) (import_at atoms)
import_is_read atoms = record { told = import_told atoms; read = λ front rest i is. import_read atoms front rest i is }

export_told : (atoms : List (List ℕ)) (bytes : List ℕ) (p : Export × List ℕ) → export_at atoms bytes ≡ Ok p → Front (IsExport atoms p.0) bytes p.1
unfolding export_at
export_told atoms bytes p e =
    let n = bind_ok (table_number_at bytes) (λ (a : ℕ × List ℕ). table_number_at a.1 >>= λ b. table_number_at b.1 >>= λ c. atom_of_index atoms a.0 >>= λ t. done (record { name = t; arity = b.0; label = c.0 }, c.1)) p e in
    let a = bind_ok (table_number_at n.0.1) (λ (b : ℕ × List ℕ). table_number_at b.1 >>= λ c. atom_of_index atoms n.0.0 >>= λ t. done (record { name = t; arity = b.0; label = c.0 }, c.1)) p n.2 in
    let l = bind_ok (table_number_at a.0.1) (λ (c : ℕ × List ℕ). atom_of_index atoms n.0.0 >>= λ t. done (record { name = t; arity = a.0.0; label = c.0 }, c.1)) p a.2 in
    let t = bind_ok (atom_of_index atoms n.0.0) (λ (t : List ℕ). done (record { name = t; arity = a.0.0; label = l.0.0 }, l.0.1)) p l.2 in
    let first = index_told atoms bytes n.0 t.0 n.1 t.1 in
    let second = number_told n.0.1 a.0 a.1 in
    let third = number_told a.0.1 l.0 l.1 in
    let made : Export = record { name = t.0; arity = a.0.0; label = l.0.0 } in
    let front : Front (IsExport atoms made) bytes l.0.1 = record {
      front = first.front ++ (second.front ++ third.front);
      parts = first.parts ∙ ap (λ (u : List ℕ). first.front ++ u) (second.parts ∙ ap (λ (u : List ℕ). second.front ++ u) third.parts ∙ sym (append_assoc second.front third.front l.0.1))
          ∙ sym (append_assoc first.front (second.front ++ third.front) l.0.1);
      is = record { name_index = first.front; arity = second.front; label = third.front; parts = refl; is_name = first.is; is_arity = second.is; is_label = third.is };
    } in
    subst (λ (q : Export × List ℕ). Front (IsExport atoms q.0) bytes q.1) (ok_is (made, l.0.1) p t.2) front

export_read : (atoms : List (List ℕ)) (front rest : List ℕ) (x : Export) → IsExport atoms x front → export_at atoms (front ++ rest) ≡ Ok (x, rest)
unfolding export_at
export_read atoms front rest x is =
    let first = number_read is.name_index (is.arity ++ (is.label ++ rest)) (suc is.is_name.place) is.is_name.index in
    let second = number_read is.arity (is.label ++ rest) x.arity is.is_arity in
    let third = number_read is.label rest x.label is.is_label in
    let name = atom_of_read atoms is.is_name.place x.name is.is_name.atom in
    let parts : front ++ rest ≡ is.name_index ++ (is.arity ++ (is.label ++ rest)) =
    ap (λ (t : List ℕ). t ++ rest) is.parts ∙ append_assoc is.name_index (is.arity ++ is.label) rest
    ∙ ap (λ (t : List ℕ). is.name_index ++ t) (append_assoc is.arity is.label rest) in
    ap (export_at atoms) parts ∙ rw (first, second, third, name) refl

export_is_read : (atoms : List (List ℕ)) → IsRead (IsExport atoms) (export_at atoms)
export_is_read atoms = record { told = export_told atoms; read = λ front rest x is. export_read atoms front rest x is }

-- ---- literals

alone_is : (r : Result (TermValue × List ℕ) ExternalFault) (t : TermValue) → literal_alone r ≡ Ok t → r ≡ Ok (t, [])
alone_is (Ok (term, [])) t e = ap (λ (u : TermValue). Ok (u, [])) (ok_is term t e)
alone_is (Ok (term, byte ∷ rest)) t e = absurd cc
alone_is (Err fault) t e = absurd cc

literal_of_told : (bytes : List ℕ) (t : TermValue) → literal_of bytes ≡ Ok t → IsExternal bytes t
unfolding literal_of
literal_of_told bytes t e =
    let x = external_takes bytes t [] (alone_is (external_at bytes) t e) in
    subst (λ (b : List ℕ). IsExternal b t) (sym (x.parts ∙ append-nil x.front)) x.external

literal_of_read : (bytes : List ℕ) (t : TermValue) → IsExternal bytes t → literal_of bytes ≡ Ok t
unfolding literal_of
literal_of_read bytes t is =
    let read : external_at bytes ≡ Ok (t, []) = ap external_at (sym (append-nil bytes)) ∙ external_again bytes t is [] in
    rw read refl

record Sized (bytes : List ℕ) (p : List ℕ × List ℕ) : Type 0 where
  size : List ℕ
  parts : bytes ≡ size ++ (p.0 ++ p.1)
  is_size : IsWord (length p.0) size

sized_told : (bytes : List ℕ) (p : List ℕ × List ℕ) → sized_at bytes ≡ Ok p → Sized bytes p
unfolding sized_at
sized_told bytes p e =
    let n = bind_ok (table_number_at bytes) (λ (size : ℕ × List ℕ). cond (ltb (length size.1) size.0) (Err bad_table) (done (take size.0 size.1, drop size.0 size.1))) p e in
    let g = guard_false (ltb (length n.0.1) n.0.0) bad_table _ p n.2 in
    let number = number_told bytes n.0 n.1 in
    let long : n.0.0 ≤ length n.0.1 = ltb-false _ _ g.0 in
    let count : n.0.0 ≡ length (take n.0.0 n.0.1) = omega (arith, length-take n.0.0 n.0.1, long) in
    let sized : Sized bytes (take n.0.0 n.0.1, drop n.0.0 n.0.1) = record {
      size = number.front;
      parts = number.parts ∙ ap (λ (t : List ℕ). number.front ++ t) (sym (take-append-drop n.0.0 n.0.1));
      is_size = subst (λ (k : ℕ). IsWord k number.front) count number.is;
    } in
    subst (λ (q : List ℕ × List ℕ). Sized bytes q) (ok_is _ p g.1) sized

sized_read : (size content rest : List ℕ) → IsWord (length content) size → sized_at (size ++ (content ++ rest)) ≡ Ok (content, rest)
unfolding sized_at
sized_read size content rest w =
    let long : ltb (length (content ++ rest)) (length content) ≡ false = le-ltb _ _ (omega (arith, length-append content rest)) in
    rw (number_read size (content ++ rest) (length content) w, long, take_at content rest (length content) refl, drop_at content rest (length content) refl) refl

literal_told : (bytes : List ℕ) (p : TermValue × List ℕ) → literal_at bytes ≡ Ok p → Front (IsLiteral p.0) bytes p.1
unfolding literal_at
literal_told bytes p e =
    let s = bind_ok (sized_at bytes) (λ (field : List ℕ × List ℕ). literal_of field.0 >>= λ literal. done (literal, field.1)) p e in
    let l = bind_ok (literal_of s.0.0) (λ (literal : TermValue). done (literal, s.0.1)) p s.2 in
    let sized = sized_told bytes s.0 s.1 in
    let front : Front (IsLiteral l.0) bytes s.0.1 = record {
      front = sized.size ++ s.0.0;
      parts = sized.parts ∙ sym (append_assoc sized.size s.0.0 s.0.1);
      is = record { size = sized.size; content = s.0.0; parts = refl; is_size = sized.is_size; is_term = literal_of_told s.0.0 l.0 l.1 };
    } in
    subst (λ (q : TermValue × List ℕ). Front (IsLiteral q.0) bytes q.1) (ok_is (l.0, s.0.1) p l.2) front

literal_read : (front rest : List ℕ) (t : TermValue) → IsLiteral t front → literal_at (front ++ rest) ≡ Ok (t, rest)
unfolding literal_at
literal_read front rest t is =
    let sized = sized_read is.size is.content rest is.is_size in
    let literal = literal_of_read is.content t is.is_term in
    ap literal_at (ap (λ (u : List ℕ). u ++ rest) is.parts ∙ append_assoc is.size is.content rest) ∙ rw (sized, literal) refl

literal_is_read : IsRead IsLiteral literal_at
literal_is_read = record { told = literal_told; read = λ front rest t is. literal_read front rest t is }

literals_told : (bytes : List ℕ) (ts : List TermValue) → literals_at bytes ≡ Ok ts → AreLiterals ts bytes
unfolding literals_at
literals_told bytes ts e =
    let z = bind_ok (table_number_at bytes) (λ (compressed : ℕ × List ℕ). cond (compressed.0 == 0) (table_number_at compressed.1 >>= λ count. entries_at literal_at count.0 count.1) (Err compressed_literals)) ts e in
    let g = guard_true (z.0.0 == 0) compressed_literals (table_number_at z.0.1 >>= λ count. entries_at literal_at count.0 count.1) ts z.2 in
    let c = bind_ok (table_number_at z.0.1) (λ (count : ℕ × List ℕ). entries_at literal_at count.0 count.1) ts g.1 in
    let first = number_told bytes z.0 z.1 in
    record {
      zero = first.front;
      rest = z.0.1;
      parts = first.parts;
      is_zero = subst (λ (n : ℕ). IsWord n first.front) (eqb-true z.0.0 0 g.0) first.is;
      table = table_told IsLiteral literal_at literal_is_read z.0.1 c.0 ts c.1 c.2;
    }

literals_read : (bytes : List ℕ) (ts : List TermValue) → AreLiterals ts bytes → literals_at bytes ≡ Ok ts
unfolding literals_at
literals_read bytes ts are =
    let first = number_read are.zero are.rest 0 are.is_zero in
    let t = table_read IsLiteral literal_at literal_is_read are.rest ts are.table in
    ap literals_at are.parts ∙ rw (first, t.count, t.entries) refl

literals_in_told : (o : Option (List ℕ)) (ts : List TermValue) → literals_in o ≡ Ok ts → MatchOption o (ts ≡ []) (AreLiterals ts)
unfolding literals_in
literals_in_told None ts e = let none : List TermValue = [] in sym (ok_is none ts e)
literals_in_told (Some bytes) ts e = literals_told bytes ts e

literals_in_read : (o : Option (List ℕ)) (ts : List TermValue) → MatchOption o (ts ≡ []) (AreLiterals ts) → literals_in o ≡ Ok ts
unfolding literals_in
literals_in_read None ts e = ap (λ (us : List TermValue). done us) (sym e)
literals_in_read (Some bytes) ts are = literals_read bytes ts are

-- ---- all tables

pub wanted_is : (o : Option (List ℕ)) (bytes : List ℕ) → required_chunk o ≡ Ok bytes → o ≡ Some bytes
unfolding required_chunk
wanted_is None bytes e = absurd cc
wanted_is (Some b) bytes e = ap (λ (c : List ℕ). Some c) (ok_is b bytes e)

pub there : (o : Option (List ℕ)) (bytes : List ℕ) (P : List ℕ → Type 0) → o ≡ Some bytes → P bytes → MatchOption o ⊥ P
there o bytes P e p = subst (λ (q : Option (List ℕ)). MatchOption q ⊥ P) (sym e) p

pub is_there : (o : Option (List ℕ)) (P : List ℕ → Type 0) → MatchOption o ⊥ P → (bytes : List ℕ) × (o ≡ Some bytes) × P bytes
is_there None P h = absurd h
is_there (Some bytes) P h = (bytes, refl, h)

imports_told : (atoms : List (List ℕ)) (bytes : List ℕ) (is : List Import) → imports_at atoms bytes ≡ Ok is → IsTable (IsImport atoms) is bytes
unfolding imports_at
imports_told atoms bytes is e =
    let c = bind_ok (table_number_at bytes) (λ (count : ℕ × List ℕ). entries_at (import_at atoms) count.0 count.1) is e in
    table_told (IsImport atoms) (import_at atoms) (import_is_read atoms) bytes c.0 is c.1 c.2

imports_read : (atoms : List (List ℕ)) (bytes : List ℕ) (is : List Import) → IsTable (IsImport atoms) is bytes → imports_at atoms bytes ≡ Ok is
unfolding imports_at
imports_read atoms bytes is t = let r = table_read (IsImport atoms) (import_at atoms) (import_is_read atoms) bytes is t in rw (r.count, r.entries) refl

exports_told : (atoms : List (List ℕ)) (bytes : List ℕ) (xs : List Export) → exports_at atoms bytes ≡ Ok xs → IsTable (IsExport atoms) xs bytes
unfolding exports_at
exports_told atoms bytes xs e =
    let c = bind_ok (table_number_at bytes) (λ (count : ℕ × List ℕ). entries_at (export_at atoms) count.0 count.1) xs e in
    table_told (IsExport atoms) (export_at atoms) (export_is_read atoms) bytes c.0 xs c.1 c.2

exports_read : (atoms : List (List ℕ)) (bytes : List ℕ) (xs : List Export) → IsTable (IsExport atoms) xs bytes → exports_at atoms bytes ≡ Ok xs
unfolding exports_at
exports_read atoms bytes xs t = let r = table_read (IsExport atoms) (export_at atoms) (export_is_read atoms) bytes xs t in rw (r.count, r.entries) refl

-- the chunks of a form spell the tables that are read, and the code chunk is there
pub tables_told : (form : Form) (t : Tables) → tables_at form ≡ Ok t → AreTables form t × ((code : List ℕ) × (form.code ≡ Some code))
unfolding tables_at
tables_told form t e =
    let b1 = bind_ok (required_chunk form.atoms) (λ (atom_bytes : List ℕ). atoms_at atom_bytes >>= λ atoms. required_chunk form.code >>= λ code. required_chunk form.imports >>= λ import_bytes. imports_at atoms import_bytes >>= λ imports. required_chunk form.exports >>= λ export_bytes. exports_at atoms export_bytes >>= λ exports. literals_in form.literals >>= λ literals. done (record { atoms = atoms; imports = imports; exports = exports; literals = literals })) t e in
    let b2 = bind_ok (atoms_at b1.0) (λ (atoms : List (List ℕ)). required_chunk form.code >>= λ code. required_chunk form.imports >>= λ import_bytes. imports_at atoms import_bytes >>= λ imports. required_chunk form.exports >>= λ export_bytes. exports_at atoms export_bytes >>= λ exports. literals_in form.literals >>= λ literals. done (record { atoms = atoms; imports = imports; exports = exports; literals = literals })) t b1.2 in
    let b3 = bind_ok (required_chunk form.code) (λ (code : List ℕ). required_chunk form.imports >>= λ import_bytes. imports_at b2.0 import_bytes >>= λ imports. required_chunk form.exports >>= λ export_bytes. exports_at b2.0 export_bytes >>= λ exports. literals_in form.literals >>= λ literals. done (record { atoms = b2.0; imports = imports; exports = exports; literals = literals })) t b2.2 in
    let b4 = bind_ok (required_chunk form.imports) (λ (import_bytes : List ℕ). imports_at b2.0 import_bytes >>= λ imports. required_chunk form.exports >>= λ export_bytes. exports_at b2.0 export_bytes >>= λ exports. literals_in form.literals >>= λ literals. done (record { atoms = b2.0; imports = imports; exports = exports; literals = literals })) t b3.2 in
    let b5 = bind_ok (imports_at b2.0 b4.0) (λ (imports : List Import). required_chunk form.exports >>= λ export_bytes. exports_at b2.0 export_bytes >>= λ exports. literals_in form.literals >>= λ literals. done (record { atoms = b2.0; imports = imports; exports = exports; literals = literals })) t b4.2 in
    let b6 = bind_ok (required_chunk form.exports) (λ (export_bytes : List ℕ). exports_at b2.0 export_bytes >>= λ exports. literals_in form.literals >>= λ literals. done (record { atoms = b2.0; imports = b5.0; exports = exports; literals = literals })) t b5.2 in
    let b7 = bind_ok (exports_at b2.0 b6.0) (λ (exports : List Export). literals_in form.literals >>= λ literals. done (record { atoms = b2.0; imports = b5.0; exports = exports; literals = literals })) t b6.2 in
    let b8 = bind_ok (literals_in form.literals) (λ (literals : List TermValue). done (record { atoms = b2.0; imports = b5.0; exports = b7.0; literals = literals })) t b7.2 in
    let made : Tables = record { atoms = b2.0; imports = b5.0; exports = b7.0; literals = b8.0 } in
    let are : AreTables form made = record {
      atoms = there form.atoms b1.0 (AreAtoms b2.0) (wanted_is form.atoms b1.0 b1.1) (atoms_told b1.0 b2.0 b2.1);
      imports = there form.imports b4.0 (IsTable (IsImport b2.0) b5.0) (wanted_is form.imports b4.0 b4.1) (imports_told b2.0 b4.0 b5.0 b5.1);
      exports = there form.exports b6.0 (IsTable (IsExport b2.0) b7.0) (wanted_is form.exports b6.0 b6.1) (exports_told b2.0 b6.0 b7.0 b7.1);
      literals = literals_in_told form.literals b8.0 b8.1;
    } in
    (subst (λ (u : Tables). AreTables form u) (ok_is made t b8.2) are, (b3.0, wanted_is form.code b3.0 b3.1))

-- the tables that the chunks spell are read, where the code chunk is there
pub tables_read : (form : Form) (t : Tables) (code : List ℕ) → AreTables form t → form.code ≡ Some code → tables_at form ≡ Ok t
unfolding tables_at required_chunk
tables_read form t code are c =
    let a = is_there form.atoms (AreAtoms t.atoms) are.atoms in
    let i = is_there form.imports (IsTable (IsImport t.atoms) t.imports) are.imports in
    let x = is_there form.exports (IsTable (IsExport t.atoms) t.exports) are.exports in
    rw (a.1, atoms_read a.0 t.atoms a.2, c, i.1, imports_read t.atoms i.0 t.imports i.2, x.1, exports_read t.atoms x.0 t.exports x.2, literals_in_read form.literals t.literals are.literals) refl
