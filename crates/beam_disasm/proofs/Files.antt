-- A listing is read exactly from the bytes of a file that spell it.
use Rattle.std.proofs.Common.{◌≡◌, ℕ, List, Some, Result, Ok, Err, refl, sym, ap, subst, ◌∙◌, arith, slice_get}
use Rattle.beam_lemmas.proofs.Steps.{bind_ok}
use Rattle.beam_model.specs.Prelude.{Listing, form_at, Tables, tables_at, required_chunk, atom_of_index, CodeParts, code_of, FileFault, Parts, form_fault, table_fault, code_fault, in_layer, parts_of_form, listing_of_parts, listing_of_form, listing_of_file, AreTables, IsCode, IsFile, Form}
use Rattle.beam_model.specs.File.{◌>>=◌}
use Rattle.beam_model.specs.FileForm.{code_parts}
use Rattle.beam_iff.proofs.Forms.{form_told, form_read}
use Rattle.beam_tables.proofs.Spellings.{tables_told, tables_read, wanted_is, atom_of_told, atom_of_read, there as at_code, is_there as has_code}
use Rattle.beam_code.proofs.Codes.{code_told, code_read}

pub layer_is : {A F : Type 0} (fault : F → FileFault) (r : Result A F) (x : A) → in_layer fault r ≡ Ok x → r ≡ Ok x
layer_is fault (Ok y) x e = cc (e)
layer_is fault (Err f) x e = absurd cc

abbrev done : {A : Type 0} → A → Result A FileFault
done x = Ok x

pub ok_is : {A : Type 0} (x y : A) → done x ≡ done y → x ≡ y
ok_is x y e = cc

-- ---- parts

pub parts_told : (form : Form) (p : Parts) → parts_of_form form ≡ Ok p → AreTables form p.tables × (form.code ≡ Some p.code)
unfolding parts_of_form
parts_told form p e =
    let t = bind_ok (in_layer table_fault (tables_at form)) (λ (tables : Tables). in_layer table_fault (required_chunk form.code) >>= λ code. done (record { tables = tables; code = code })) p e in
    let c = bind_ok (in_layer table_fault (required_chunk form.code)) (λ (code : List ℕ). done (record { tables = t.0; code = code })) p t.2 in
    let are = (tables_told form t.0 (layer_is table_fault (tables_at form) t.0 t.1)).0 in
    let made : Parts = record { tables = t.0; code = c.0 } in
    let there : form.code ≡ Some c.0 = wanted_is form.code c.0 (layer_is table_fault (required_chunk form.code) c.0 c.1) in
    subst (λ (q : Parts). AreTables form q.tables × (form.code ≡ Some q.code)) (ok_is made p c.2) (are, there)

parts_read : (form : Form) (tables : Tables) (code : List ℕ) → AreTables form tables → form.code ≡ Some code → parts_of_form form ≡ Ok (record { tables = tables; code = code })
unfolding parts_of_form required_chunk
parts_read form tables code are e =
    let read = tables_read form tables code are e in
    rw (read, e) refl

-- ---- the listing

record Spelled (p : Parts) (l : Listing) : Type 0 where
  named : slice_get p.tables.atoms 0 ≡ Some l.name
  exports : l.exports ≡ p.tables.exports
  is_code : IsCode p.tables (code_parts l) p.code

first_atom : (atoms : List (List ℕ)) (name : List ℕ) → atom_of_index atoms 1 ≡ Ok name → slice_get atoms 0 ≡ Some name
first_atom atoms name e =
    let t = atom_of_told atoms 1 name e in
    let place : 0 ≡ t.0 = omega (arith, t.1) in
    ap (slice_get atoms) place ∙ t.2

listing_told : (p : Parts) (l : Listing) → listing_of_parts p ≡ Ok l → Spelled p l
unfolding listing_of_parts
listing_told p l e =
    let n = bind_ok (in_layer table_fault (atom_of_index p.tables.atoms 1)) (λ (name : List ℕ). in_layer code_fault (code_of p.tables.atoms p.tables.imports p.tables.literals p.code) >>= λ code. done (record { name = name; exports = p.tables.exports; label_count = code.label_count; function_count = code.function_count; instructions = code.instructions })) l e in
    let c = bind_ok (in_layer code_fault (code_of p.tables.atoms p.tables.imports p.tables.literals p.code)) (λ (code : CodeParts). done (record { name = n.0; exports = p.tables.exports; label_count = code.label_count; function_count = code.function_count; instructions = code.instructions })) l n.2 in
    let made : Listing = record { name = n.0; exports = p.tables.exports; label_count = c.0.label_count; function_count = c.0.function_count; instructions = c.0.instructions } in
    subst (λ (m : Listing). Spelled p m) (ok_is made l c.2) (record {
      named = first_atom p.tables.atoms n.0 (layer_is table_fault (atom_of_index p.tables.atoms 1) n.0 n.1);
      exports = refl;
      is_code = code_told p.tables p.code c.0 (layer_is code_fault (code_of p.tables.atoms p.tables.imports p.tables.literals p.code) c.0 c.1);
    })

listing_read : (p : Parts) (l : Listing) → Spelled p l → listing_of_parts p ≡ Ok l
unfolding listing_of_parts
listing_read p l s =
    let name = atom_of_read p.tables.atoms 0 l.name s.named in
    let code = code_read p.tables p.code (code_parts l) s.is_code in
    rw (name, code) (ap (λ xs. done (record { name = l.name; exports = xs; label_count = l.label_count; function_count = l.function_count; instructions = l.instructions })) (sym s.exports))

-- ---- the file

-- a file spells the listing that is read from it
pub file_told : (bytes : List ℕ) (l : Listing) → listing_of_file bytes ≡ Ok l → IsFile bytes l
unfolding listing_of_file listing_of_form
file_told bytes l e =
    let f = bind_ok (in_layer form_fault (form_at bytes)) (λ (form : Form). listing_of_form form) l e in
    let p = bind_ok (parts_of_form f.0) (λ (parts : Parts). listing_of_parts parts) l f.2 in
    let parts = parts_told f.0 p.0 p.1 in
    let s = listing_told p.0 l p.2 in
    record {
      form = f.0;
      is_form = form_told bytes f.0 (layer_is form_fault (form_at bytes) f.0 f.1);
      tables = p.0.tables;
      are_tables = parts.0;
      named = s.named;
      exports = s.exports;
      is_code = at_code f.0.code p.0.code (IsCode p.0.tables (code_parts l)) parts.1 s.is_code;
    }

-- the listing that a file spells is read from it
pub file_read : (bytes : List ℕ) (l : Listing) → IsFile bytes l → listing_of_file bytes ≡ Ok l
unfolding listing_of_file listing_of_form
file_read bytes l is =
    let c = has_code is.form.code (IsCode is.tables (code_parts l)) is.is_code in
    let form = form_read bytes is.form is.is_form in
    let parts = parts_read is.form is.tables c.0 is.are_tables c.1 in
    let listing = listing_read (record { tables = is.tables; code = c.0 }) l (record { named = is.named; exports = is.exports; is_code = c.2 }) in
    rw (form, parts) listing

-- a file spells at most one listing
pub one_listing : (bytes : List ℕ) (l m : Listing) → IsFile bytes l → IsFile bytes m → l ≡ m
one_listing bytes l m a b = ok_is l m (sym (file_read bytes l a) ∙ file_read bytes m b)
