-- A form is read exactly from the bytes that spell it.
use Rattle.std.proofs.Common.{◌≡◌, ℕ, zero, suc, ◌+◌, ◌-◌, ◌≤◌, Bool, true, false, cond, ltb, List, [], ◌∷◌, ◌++◌, length, take, drop, codes, Option, Some, None, Result, Ok, refl, sym, ap, subst, ◌∙◌, arith, nat_eq, ◌==◌, ◌&&◌, ◌||◌, ltb-false, le-ltb, eqb-true, append-nil, take_at, take-append-drop, length-take, length-drop, length-append}
use Rattle.std.specs.Str.{bytes_eq}
use Rattle.std.specs.Option.{option_to_list}
use Rattle.std.specs.List.{list_all, starts_with, zip}
use Rattle.std.proofs.lemmas.Slice.Eq.{bytes_eq-Decides}
use Rattle.std.proofs.lemmas.Bool.{and_parts, or_parts}
use Rattle.beam_lemmas.proofs.Steps.{bind_ok, guard_true, guard_false}
use Rattle.byteorder.specs.Endian.{big_number}
use Rattle.beam_model.specs.Prelude.{FormFault, Chunk, not_form, compressed_file, agree, size_at, content_at, chunk_at, once, with_chunk, with_chunks, empty_form, form_at, after_chunk, is_done, AreChunks, contents_of, IsForm, Form}
use Rattle.beam_model.specs.Form.{truncated, ◌>>=◌}
use Rattle.beam_model.specs.ChunkForm.{IsWord}
use Rattle.beam_iff.proofs.EachChunk.{ok_is, four, chunk_told, chunk_read, Added, Adds, contents_by, contents_more, added_on}

abbrev done : {A : Type 0} → A → Result A FormFault
done x = Ok x

-- ---- one chunk more

record Step (form more : Form) (chunk : Chunk) : Type 0 where
  atoms : Added form.atoms more.atoms (contents_by (bytes_eq chunk.name (codes "AtU8")) chunk [])
  code : Added form.code more.code (contents_by (bytes_eq chunk.name (codes "Code")) chunk [])
  imports : Added form.imports more.imports (contents_by (bytes_eq chunk.name (codes "ImpT")) chunk [])
  exports : Added form.exports more.exports (contents_by (bytes_eq chunk.name (codes "ExpT")) chunk [])
  literals : Added form.literals more.literals (contents_by (bytes_eq chunk.name (codes "LitT")) chunk [])

untouched : (o : Option (List ℕ)) (b : Bool) (chunk : Chunk) → b ≡ false → Added o o (contents_by b chunk [])
untouched o b chunk e = ap (λ (c : Bool). option_to_list o ++ contents_by c chunk []) e ∙ append-nil (option_to_list o)

once_told : (old new : Option (List ℕ)) (b : Bool) (chunk : Chunk) → b ≡ true → once old chunk.content ≡ Ok new → Added old new (contents_by b chunk [])
once_told None new b chunk t e = let same : Some chunk.content ≡ new = ok_is (Some chunk.content) new e in ap (λ (c : Bool). contents_by c chunk []) t ∙ ap option_to_list same
once_told (Some x) new b chunk t e = absurd cc

-- equal names have equal tests against another
test_of : (name one other : List ℕ) (b : Bool) → name ≡ one → bytes_eq one other ≡ b → bytes_eq name other ≡ b
test_of name one other b e f = ap (λ (n : List ℕ). bytes_eq n other) e ∙ f

step_atoms : (form more : Form) (chunk : Chunk) → chunk.name ≡ codes "AtU8" → (once form.atoms chunk.content >>= λ o. done (record form { atoms = o })) ≡ Ok more → Step form more chunk
step_atoms form more chunk name e =
    let b = bind_ok (once form.atoms chunk.content) (λ (o : Option (List ℕ)). done (record form { atoms = o })) more e in
    let test = test_of chunk.name (codes "AtU8") in
    subst (λ (m : Form). Step form m chunk) (ok_is (record form { atoms = b.0 }) more b.2) (record {
      atoms = once_told form.atoms b.0 (bytes_eq chunk.name (codes "AtU8")) chunk (test (codes "AtU8") true name refl) b.1;
      code = untouched form.code (bytes_eq chunk.name (codes "Code")) chunk (test (codes "Code") false name refl);
      imports = untouched form.imports (bytes_eq chunk.name (codes "ImpT")) chunk (test (codes "ImpT") false name refl);
      exports = untouched form.exports (bytes_eq chunk.name (codes "ExpT")) chunk (test (codes "ExpT") false name refl);
      literals = untouched form.literals (bytes_eq chunk.name (codes "LitT")) chunk (test (codes "LitT") false name refl);
    })

step_code : (form more : Form) (chunk : Chunk) → chunk.name ≡ codes "Code" → (once form.code chunk.content >>= λ o. done (record form { code = o })) ≡ Ok more → Step form more chunk
step_code form more chunk name e =
    let b = bind_ok (once form.code chunk.content) (λ (o : Option (List ℕ)). done (record form { code = o })) more e in
    let test = test_of chunk.name (codes "Code") in
    subst (λ (m : Form). Step form m chunk) (ok_is (record form { code = b.0 }) more b.2) (record {
      atoms = untouched form.atoms (bytes_eq chunk.name (codes "AtU8")) chunk (test (codes "AtU8") false name refl);
      code = once_told form.code b.0 (bytes_eq chunk.name (codes "Code")) chunk (test (codes "Code") true name refl) b.1;
      imports = untouched form.imports (bytes_eq chunk.name (codes "ImpT")) chunk (test (codes "ImpT") false name refl);
      exports = untouched form.exports (bytes_eq chunk.name (codes "ExpT")) chunk (test (codes "ExpT") false name refl);
      literals = untouched form.literals (bytes_eq chunk.name (codes "LitT")) chunk (test (codes "LitT") false name refl);
    })

step_imports : (form more : Form) (chunk : Chunk) → chunk.name ≡ codes "ImpT" → (once form.imports chunk.content >>= λ o. done (record form { imports = o })) ≡ Ok more → Step form more chunk
step_imports form more chunk name e =
    let b = bind_ok (once form.imports chunk.content) (λ (o : Option (List ℕ)). done (record form { imports = o })) more e in
    let test = test_of chunk.name (codes "ImpT") in
    subst (λ (m : Form). Step form m chunk) (ok_is (record form { imports = b.0 }) more b.2) (record {
      atoms = untouched form.atoms (bytes_eq chunk.name (codes "AtU8")) chunk (test (codes "AtU8") false name refl);
      code = untouched form.code (bytes_eq chunk.name (codes "Code")) chunk (test (codes "Code") false name refl);
      imports = once_told form.imports b.0 (bytes_eq chunk.name (codes "ImpT")) chunk (test (codes "ImpT") true name refl) b.1;
      exports = untouched form.exports (bytes_eq chunk.name (codes "ExpT")) chunk (test (codes "ExpT") false name refl);
      literals = untouched form.literals (bytes_eq chunk.name (codes "LitT")) chunk (test (codes "LitT") false name refl);
    })

step_exports : (form more : Form) (chunk : Chunk) → chunk.name ≡ codes "ExpT" → (once form.exports chunk.content >>= λ o. done (record form { exports = o })) ≡ Ok more → Step form more chunk
step_exports form more chunk name e =
    let b = bind_ok (once form.exports chunk.content) (λ (o : Option (List ℕ)). done (record form { exports = o })) more e in
    let test = test_of chunk.name (codes "ExpT") in
    subst (λ (m : Form). Step form m chunk) (ok_is (record form { exports = b.0 }) more b.2) (record {
      atoms = untouched form.atoms (bytes_eq chunk.name (codes "AtU8")) chunk (test (codes "AtU8") false name refl);
      code = untouched form.code (bytes_eq chunk.name (codes "Code")) chunk (test (codes "Code") false name refl);
      imports = untouched form.imports (bytes_eq chunk.name (codes "ImpT")) chunk (test (codes "ImpT") false name refl);
      exports = once_told form.exports b.0 (bytes_eq chunk.name (codes "ExpT")) chunk (test (codes "ExpT") true name refl) b.1;
      literals = untouched form.literals (bytes_eq chunk.name (codes "LitT")) chunk (test (codes "LitT") false name refl);
    })

step_literals : (form more : Form) (chunk : Chunk) → chunk.name ≡ codes "LitT" → (once form.literals chunk.content >>= λ o. done (record form { literals = o })) ≡ Ok more → Step form more chunk
step_literals form more chunk name e =
    let b = bind_ok (once form.literals chunk.content) (λ (o : Option (List ℕ)). done (record form { literals = o })) more e in
    let test = test_of chunk.name (codes "LitT") in
    subst (λ (m : Form). Step form m chunk) (ok_is (record form { literals = b.0 }) more b.2) (record {
      atoms = untouched form.atoms (bytes_eq chunk.name (codes "AtU8")) chunk (test (codes "AtU8") false name refl);
      code = untouched form.code (bytes_eq chunk.name (codes "Code")) chunk (test (codes "Code") false name refl);
      imports = untouched form.imports (bytes_eq chunk.name (codes "ImpT")) chunk (test (codes "ImpT") false name refl);
      exports = untouched form.exports (bytes_eq chunk.name (codes "ExpT")) chunk (test (codes "ExpT") false name refl);
      literals = once_told form.literals b.0 (bytes_eq chunk.name (codes "LitT")) chunk (test (codes "LitT") true name refl) b.1;
    })

-- which name it is
choose : {A : Type 0} (name wanted : List ℕ) (x y z : A) (G : Type 0) → cond (bytes_eq name wanted) x y ≡ z → (name ≡ wanted → x ≡ z → G) → (bytes_eq name wanted ≡ false → y ≡ z → G) → G
choose name wanted x y z G e same other = by (bytes_eq name wanted) refl e
  where
    by : (b : Bool) → bytes_eq name wanted ≡ b → cond b x y ≡ z → G
    by true t f = same ((bytes_eq-Decides name wanted).0 t) f
    by false t f = other t f

step_told : (form more : Form) (chunk : Chunk) → with_chunk form chunk ≡ Ok more → Step form more chunk
unfolding with_chunk
step_told form more chunk e =
    choose chunk.name (codes "AtU8") _ _ (done more) (Step form more chunk) e (step_atoms form more chunk) (λ a e1.
    choose chunk.name (codes "Code") _ _ (done more) (Step form more chunk) e1 (step_code form more chunk) (λ b e2.
    choose chunk.name (codes "ImpT") _ _ (done more) (Step form more chunk) e2 (step_imports form more chunk) (λ c e3.
    choose chunk.name (codes "ExpT") _ _ (done more) (Step form more chunk) e3 (step_exports form more chunk) (λ d e4.
    choose chunk.name (codes "LitT") _ _ (done more) (Step form more chunk) e4 (step_literals form more chunk) (λ f e5.
    subst (λ (m : Form). Step form m chunk) (ok_is form more e5) (record {
      atoms = untouched form.atoms (bytes_eq chunk.name (codes "AtU8")) chunk a;
      code = untouched form.code (bytes_eq chunk.name (codes "Code")) chunk b;
      imports = untouched form.imports (bytes_eq chunk.name (codes "ImpT")) chunk c;
      exports = untouched form.exports (bytes_eq chunk.name (codes "ExpT")) chunk d;
      literals = untouched form.literals (bytes_eq chunk.name (codes "LitT")) chunk f;
    }))))))

adds : (form more total : Form) (chunk : Chunk) (chunks : List Chunk) → Step form more chunk → Adds more total chunks → Adds form total (chunk ∷ chunks)
adds form more total chunk chunks s a = record {
  atoms = added_on form.atoms more.atoms total.atoms (codes "AtU8") chunk chunks s.atoms a.atoms;
  code = added_on form.code more.code total.code (codes "Code") chunk chunks s.code a.code;
  imports = added_on form.imports more.imports total.imports (codes "ImpT") chunk chunks s.imports a.imports;
  exports = added_on form.exports more.exports total.exports (codes "ExpT") chunk chunks s.exports a.exports;
  literals = added_on form.literals more.literals total.literals (codes "LitT") chunk chunks s.literals a.literals;
}

nothing_added : (form total : Form) → form ≡ total → Adds form total []
nothing_added form total e =
    let none = λ (o : Option (List ℕ)). append-nil (option_to_list o) in
    subst (λ (t : Form). Adds form t []) e (record { atoms = none form.atoms; code = none form.code; imports = none form.imports; exports = none form.exports; literals = none form.literals })

-- ---- all chunks

chunks_told : (limit : ℕ) (form total : Form) (bytes : List ℕ) → with_chunks limit form bytes ≡ Ok total → (chunks : List Chunk) × AreChunks chunks bytes × Adds form total chunks
unfolding with_chunks
chunks_told limit form total [] e = ([], refl, nothing_added form total (ok_is form total e))
chunks_told zero form total (b ∷ bytes) e = absurd cc
chunks_told (suc limit) form total (b ∷ bytes) e =
    let f = bind_ok (chunk_at (b ∷ bytes)) (λ (front : Chunk × List ℕ). with_chunk form front.0 >>= λ more. with_chunks limit more front.1) total e in
    let m = bind_ok (with_chunk form f.0.0) (λ (more : Form). with_chunks limit more f.0.1) total f.2 in
    let front = chunk_told (b ∷ bytes) f.0.1 f.0.0 f.1 in
    let others = chunks_told limit m.0 total f.0.1 m.2 in
    (f.0.0 ∷ others.0, (front.front, front.padding, f.0.1, front.parts, front.is_chunk, front.is_padding, others.1), adds form m.0 total f.0.0 others.0 (step_told form m.0 f.0.0 m.1) others.2)

-- ---- a spelled form is read

-- a name that comes was not there
vacant : (old new : Option (List ℕ)) (content : List ℕ) (rest : List (List ℕ)) → option_to_list old ++ (content ∷ rest) ≡ option_to_list new → (old ≡ None) × (content ∷ rest ≡ option_to_list new)
vacant None new content rest e = (refl, e)
vacant (Some x) None content rest e = absurd cc
vacant (Some x) (Some y) content rest e = absurd cc

others_of : (old new : Option (List ℕ)) (name : List ℕ) (chunk : Chunk) (chunks : List Chunk) → bytes_eq chunk.name name ≡ false → Added old new (contents_of name (chunk ∷ chunks)) → Added old new (contents_of name chunks)
others_of old new name chunk chunks test a =
    ap (λ (t : List (List ℕ)). option_to_list old ++ t) (sym (contents_more name chunk chunks ∙ ap (λ (b : Bool). contents_by b chunk (contents_of name chunks)) test)) ∙ a

this_of : (old new : Option (List ℕ)) (name : List ℕ) (chunk : Chunk) (chunks : List Chunk) → bytes_eq chunk.name name ≡ true → Added old new (contents_of name (chunk ∷ chunks))
    → (old ≡ None) × Added (Some chunk.content) new (contents_of name chunks)
this_of old new name chunk chunks test a =
    vacant old new chunk.content (contents_of name chunks)
    (ap (λ (t : List (List ℕ)). option_to_list old ++ t) (sym (contents_more name chunk chunks ∙ ap (λ (b : Bool). contents_by b chunk (contents_of name chunks)) test)) ∙ a)

record Next (form total : Form) (chunk : Chunk) (chunks : List Chunk) : Type 0 where
  mid : Form
  is : with_chunk form chunk ≡ Ok mid
  adds : Adds mid total chunks

record Tests (name : List ℕ) (a b c d f : Bool) : Type 0 where
  atoms : bytes_eq name (codes "AtU8") ≡ a
  code : bytes_eq name (codes "Code") ≡ b
  imports : bytes_eq name (codes "ImpT") ≡ c
  exports : bytes_eq name (codes "ExpT") ≡ d
  literals : bytes_eq name (codes "LitT") ≡ f

by_tests : (form total : Form) (chunk : Chunk) (chunks : List Chunk) (a b c d f : Bool) → Tests chunk.name a b c d f → Adds form total (chunk ∷ chunks) → Next form total chunk chunks
unfolding with_chunk
by_tests form total chunk chunks true b c d f t s =
    let name : chunk.name ≡ codes "AtU8" = (bytes_eq-Decides chunk.name (codes "AtU8")).0 t.atoms in
    let v = this_of form.atoms total.atoms (codes "AtU8") chunk chunks t.atoms s.atoms in
    let test = test_of chunk.name (codes "AtU8") in
    record {
      mid = record form { atoms = Some chunk.content };
      is = rw (t.atoms, v.0) refl;
      adds = record {
        atoms = v.1;
        code = others_of form.code total.code (codes "Code") chunk chunks (test (codes "Code") false name refl) s.code;
        imports = others_of form.imports total.imports (codes "ImpT") chunk chunks (test (codes "ImpT") false name refl) s.imports;
        exports = others_of form.exports total.exports (codes "ExpT") chunk chunks (test (codes "ExpT") false name refl) s.exports;
        literals = others_of form.literals total.literals (codes "LitT") chunk chunks (test (codes "LitT") false name refl) s.literals;
      };
    }
by_tests form total chunk chunks false true c d f t s =
    let name : chunk.name ≡ codes "Code" = (bytes_eq-Decides chunk.name (codes "Code")).0 t.code in
    let v = this_of form.code total.code (codes "Code") chunk chunks t.code s.code in
    let test = test_of chunk.name (codes "Code") in
    record {
      mid = record form { code = Some chunk.content };
      is = rw (t.atoms, t.code, v.0) refl;
      adds = record {
        atoms = others_of form.atoms total.atoms (codes "AtU8") chunk chunks t.atoms s.atoms;
        code = v.1;
        imports = others_of form.imports total.imports (codes "ImpT") chunk chunks (test (codes "ImpT") false name refl) s.imports;
        exports = others_of form.exports total.exports (codes "ExpT") chunk chunks (test (codes "ExpT") false name refl) s.exports;
        literals = others_of form.literals total.literals (codes "LitT") chunk chunks (test (codes "LitT") false name refl) s.literals;
      };
    }
by_tests form total chunk chunks false false true d f t s =
    let name : chunk.name ≡ codes "ImpT" = (bytes_eq-Decides chunk.name (codes "ImpT")).0 t.imports in
    let v = this_of form.imports total.imports (codes "ImpT") chunk chunks t.imports s.imports in
    let test = test_of chunk.name (codes "ImpT") in
    record {
      mid = record form { imports = Some chunk.content };
      is = rw (t.atoms, t.code, t.imports, v.0) refl;
      adds = record {
        atoms = others_of form.atoms total.atoms (codes "AtU8") chunk chunks t.atoms s.atoms;
        code = others_of form.code total.code (codes "Code") chunk chunks t.code s.code;
        imports = v.1;
        exports = others_of form.exports total.exports (codes "ExpT") chunk chunks (test (codes "ExpT") false name refl) s.exports;
        literals = others_of form.literals total.literals (codes "LitT") chunk chunks (test (codes "LitT") false name refl) s.literals;
      };
    }
by_tests form total chunk chunks false false false true f t s =
    let name : chunk.name ≡ codes "ExpT" = (bytes_eq-Decides chunk.name (codes "ExpT")).0 t.exports in
    let v = this_of form.exports total.exports (codes "ExpT") chunk chunks t.exports s.exports in
    let test = test_of chunk.name (codes "ExpT") in
    record {
      mid = record form { exports = Some chunk.content };
      is = rw (t.atoms, t.code, t.imports, t.exports, v.0) refl;
      adds = record {
        atoms = others_of form.atoms total.atoms (codes "AtU8") chunk chunks t.atoms s.atoms;
        code = others_of form.code total.code (codes "Code") chunk chunks t.code s.code;
        imports = others_of form.imports total.imports (codes "ImpT") chunk chunks t.imports s.imports;
        exports = v.1;
        literals = others_of form.literals total.literals (codes "LitT") chunk chunks (test (codes "LitT") false name refl) s.literals;
      };
    }
by_tests form total chunk chunks false false false false true t s =
    let v = this_of form.literals total.literals (codes "LitT") chunk chunks t.literals s.literals in
    record {
      mid = record form { literals = Some chunk.content };
      is = rw (t.atoms, t.code, t.imports, t.exports, t.literals, v.0) refl;
      adds = record {
        atoms = others_of form.atoms total.atoms (codes "AtU8") chunk chunks t.atoms s.atoms;
        code = others_of form.code total.code (codes "Code") chunk chunks t.code s.code;
        imports = others_of form.imports total.imports (codes "ImpT") chunk chunks t.imports s.imports;
        exports = others_of form.exports total.exports (codes "ExpT") chunk chunks t.exports s.exports;
        literals = v.1;
      };
    }
by_tests form total chunk chunks false false false false false t s = record {
  mid = form;
  is = rw (t.atoms, t.code, t.imports, t.exports, t.literals) refl;
  adds = record {
    atoms = others_of form.atoms total.atoms (codes "AtU8") chunk chunks t.atoms s.atoms;
    code = others_of form.code total.code (codes "Code") chunk chunks t.code s.code;
    imports = others_of form.imports total.imports (codes "ImpT") chunk chunks t.imports s.imports;
    exports = others_of form.exports total.exports (codes "ExpT") chunk chunks t.exports s.exports;
    literals = others_of form.literals total.literals (codes "LitT") chunk chunks t.literals s.literals;
  };
}

next : (form total : Form) (chunk : Chunk) (chunks : List Chunk) → Adds form total (chunk ∷ chunks) → Next form total chunk chunks
next form total chunk chunks s =
    by_tests form total chunk chunks (bytes_eq chunk.name (codes "AtU8")) (bytes_eq chunk.name (codes "Code")) (bytes_eq chunk.name (codes "ImpT")) (bytes_eq chunk.name (codes "ExpT")) (bytes_eq chunk.name (codes "LitT"))
    (record { atoms = refl; code = refl; imports = refl; exports = refl; literals = refl }) s

same_option : (o p : Option (List ℕ)) → option_to_list o ++ [] ≡ option_to_list p → o ≡ p
same_option None None e = refl
same_option None (Some y) e = absurd cc
same_option (Some x) None e = absurd cc
same_option (Some x) (Some y) e = let same : x ≡ y = cc in ap (λ (t : List ℕ). Some t) same

same_form : (form total : Form) → Adds form total [] → form ≡ total
same_form form total a = λ k. record {
  atoms = same_option form.atoms total.atoms a.atoms k;
  code = same_option form.code total.code a.code k;
  imports = same_option form.imports total.imports a.imports k;
  exports = same_option form.exports total.exports a.exports k;
  literals = same_option form.literals total.literals a.literals k;
}

chunks_read : (chunks : List Chunk) (limit : ℕ) (form total : Form) (bytes : List ℕ) → AreChunks chunks bytes → Adds form total chunks → length bytes ≤ limit → with_chunks limit form bytes ≡ Ok total
chunks_read [] limit form total bytes none a le =
    is_done limit form bytes (with_chunks limit form bytes) (ap length none) refl ∙ ap (λ (f : Form). done f) (same_form form total a)
chunks_read (chunk ∷ chunks) limit form total bytes (front, padding, rest, parts, is, pads, others) a le =
    let n = next form total chunk chunks a in
    let at : chunk_at bytes ≡ Ok (chunk, rest) = ap chunk_at parts ∙ chunk_read chunk front padding rest is pads in
    let on = after_chunk limit form n.mid bytes rest chunk (with_chunks limit form bytes) at n.is le refl in
    sym on.2 ∙ chunks_read chunks on.0 n.mid total rest others n.adds on.1

-- ---- the form

record Content (bytes content : List ℕ) : Type 0 where
  size : List ℕ
  after : List ℕ
  parts : bytes ≡ codes "FOR1" ++ (size ++ (codes "BEAM" ++ (content ++ after)))
  is_size : IsWord (4 + length content) size

agreed : (name bytes : List ℕ) → agree bytes name ≡ true → length name ≤ length bytes → bytes ≡ name ++ drop (length name) bytes
agreed [] bytes e le = refl
agreed (x ∷ name) [] e le = absurd (omega arith)
agreed (x ∷ name) (b ∷ bytes) e le =
    let p = and_parts (b == x) (agree bytes name) e in
    let same : b ≡ x = eqb-true b x p.0 in
    ap (λ (y : ℕ). y ∷ bytes) same ∙ ap (λ (t : List ℕ). x ∷ t) (agreed name bytes p.1 (omega arith))

record Opened (bytes content : List ℕ) : Type 0 where
  name : agree bytes (codes "FOR1") ≡ true
  type : agree (drop 8 bytes) (codes "BEAM") ≡ true
  long : 12 ≤ length bytes
  some : 4 ≤ size_at bytes
  within : 8 + size_at bytes ≤ length bytes
  is : take (size_at bytes - 4) (drop 12 bytes) ≡ content

opened : (bytes content : List ℕ) → content_at bytes ≡ Ok content → Opened bytes content
unfolding content_at
opened bytes content e =
    let a = guard_false (starts_with nat_eq bytes (0x1F ∷ 0x8B ∷ [])) compressed_file _ content e in
    let b = guard_true (agree bytes (codes "FOR1") && agree (drop 8 bytes) (codes "BEAM")) not_form _ content a.1 in
    let names = and_parts (agree bytes (codes "FOR1")) (agree (drop 8 bytes) (codes "BEAM")) b.0 in
    let c = guard_false (ltb (length bytes) 12) truncated _ content b.1 in
    let d = guard_false (ltb (size_at bytes) 4 || ltb (length bytes) (8 + size_at bytes)) truncated _ content c.1 in
    let sizes = or_parts (ltb (size_at bytes) 4) (ltb (length bytes) (8 + size_at bytes)) d.0 in
    record { name = names.0; type = names.1; long = ltb-false _ _ c.0; some = ltb-false _ _ sizes.0; within = ltb-false _ _ sizes.1; is = ok_is _ content d.1 }

-- eight bytes, and what stands after them
content_told : (bytes content : List ℕ) → Opened bytes content → Content bytes content
content_told (a ∷ b ∷ c ∷ d ∷ e ∷ f ∷ g ∷ h ∷ more) content o =
    let n : ℕ = size_at (a ∷ b ∷ c ∷ d ∷ e ∷ f ∷ g ∷ h ∷ more) in
    let name : a ∷ b ∷ c ∷ d ∷ e ∷ f ∷ g ∷ h ∷ more ≡ codes "FOR1" ++ (e ∷ f ∷ g ∷ h ∷ more) = agreed (codes "FOR1") (a ∷ b ∷ c ∷ d ∷ e ∷ f ∷ g ∷ h ∷ more) o.name (omega arith) in
    let type : more ≡ codes "BEAM" ++ drop 4 more = agreed (codes "BEAM") more o.type (omega (arith, o.long)) in
    let cut : drop 4 more ≡ content ++ drop (n - 4) (drop 4 more) = sym (take-append-drop (n - 4) (drop 4 more)) ∙ ap (λ (t : List ℕ). t ++ drop (n - 4) (drop 4 more)) o.is in
    let long : length content ≡ n - 4 = ap length (sym o.is) ∙ omega (arith, length-take (n - 4) (drop 4 more), length-drop 4 more, o.within, o.some) in
    record {
      size = e ∷ f ∷ g ∷ h ∷ [];
      after = drop (n - 4) (drop 4 more);
      parts = name ∙ ap (λ (t : List ℕ). codes "FOR1" ++ (e ∷ f ∷ g ∷ h ∷ t)) (type ∙ ap (λ (t : List ℕ). codes "BEAM" ++ t) cut);
      is_size = record { wide = refl; value = omega (arith, long, o.some) };
    }
content_told [] content o = absurd (omega (arith, o.long))
content_told (a ∷ []) content o = absurd (omega (arith, o.long))
content_told (a ∷ b ∷ []) content o = absurd (omega (arith, o.long))
content_told (a ∷ b ∷ c ∷ []) content o = absurd (omega (arith, o.long))
content_told (a ∷ b ∷ c ∷ d ∷ []) content o = absurd (omega (arith, o.long))
content_told (a ∷ b ∷ c ∷ d ∷ e ∷ []) content o = absurd (omega (arith, o.long))
content_told (a ∷ b ∷ c ∷ d ∷ e ∷ f ∷ []) content o = absurd (omega (arith, o.long))
content_told (a ∷ b ∷ c ∷ d ∷ e ∷ f ∷ g ∷ []) content o = absurd (omega (arith, o.long))

-- any bytes may follow the last letter of a name
agree_behind : (rest : List ℕ) → list_all (λ (p : ℕ × ℕ). p.0 == p.1) (zip rest []) ≡ true
agree_behind [] = refl
agree_behind (b ∷ rest) = refl

content_of : (e f g h : ℕ) (content after : List ℕ) → 4 + length content ≡ big_number 4 (e ∷ f ∷ g ∷ h ∷ [])
    → content_at (codes "FOR1" ++ ((e ∷ f ∷ g ∷ h ∷ []) ++ (codes "BEAM" ++ (content ++ after)))) ≡ Ok content
unfolding content_at
content_of e f g h content after value =
    let n : ℕ = big_number 4 (e ∷ f ∷ g ∷ h ∷ []) in
    let bytes : List ℕ = codes "FOR1" ++ ((e ∷ f ∷ g ∷ h ∷ []) ++ (codes "BEAM" ++ (content ++ after))) in
    let name : agree bytes (codes "FOR1") ≡ true = agree_behind (e ∷ f ∷ g ∷ h ∷ (codes "BEAM" ++ (content ++ after))) in
    let type : agree (drop 8 bytes) (codes "BEAM") ≡ true = agree_behind (content ++ after) in
    let t0 : ltb (length bytes) 12 ≡ false = le-ltb _ _ (omega arith) in
    let t1 : ltb n 4 ≡ false = le-ltb _ _ (omega (arith, value)) in
    let t2 : ltb (length bytes) (8 + n) ≡ false = le-ltb _ _ (omega (arith, value, length-append content after)) in
    let inner : take (n - 4) (content ++ after) ≡ content = take_at content after (n - 4) (omega (arith, value)) in
    rw (name, type, t0, t1, t2, inner) refl

content_read : (bytes content : List ℕ) → Content bytes content → content_at bytes ≡ Ok content
content_read bytes content c =
    let size = four c.size c.is_size.wide in
    let value : 4 + length content ≡ big_number 4 (size.a ∷ size.b ∷ size.c ∷ size.d ∷ []) = c.is_size.value ∙ ap (big_number 4) size.is in
    ap content_at (c.parts ∙ ap (λ (t : List ℕ). codes "FOR1" ++ (t ++ (codes "BEAM" ++ (content ++ c.after)))) size.is)
    ∙ content_of size.a size.b size.c size.d content c.after value

-- the bytes spell the form that is read from them
pub form_told : (bytes : List ℕ) (form : Form) → form_at bytes ≡ Ok form → IsForm form bytes
unfolding form_at
form_told bytes form e =
    let b = bind_ok (content_at bytes) (λ (content : List ℕ). with_chunks (length content) empty_form content) form e in
    let c = content_told bytes b.0 (opened bytes b.0 b.1) in
    let t = chunks_told (length b.0) empty_form form b.0 b.2 in
    record {
      size = c.size;
      content = b.0;
      after = c.after;
      parts = c.parts;
      is_size = c.is_size;
      chunks = t.0;
      are_chunks = t.1;
      has_chunks = record { atoms = t.2.atoms; code = t.2.code; imports = t.2.imports; exports = t.2.exports; literals = t.2.literals };
    }

-- the form that the bytes spell is read from them
pub form_read : (bytes : List ℕ) (form : Form) → IsForm form bytes → form_at bytes ≡ Ok form
unfolding form_at
form_read bytes form i =
    let h = i.has_chunks in
    let a : Adds empty_form form i.chunks = record { atoms = h.atoms; code = h.code; imports = h.imports; exports = h.exports; literals = h.literals } in
    let content : content_at bytes ≡ Ok i.content = content_read bytes i.content (record { size = i.size; after = i.after; parts = i.parts; is_size = i.is_size }) in
    rw content (chunks_read i.chunks (length i.content) empty_form form i.content i.are_chunks a (omega arith))
