-- Which chunks spell which tables, by what stands where (the BEAM file format: AtU8, ImpT, ExpT and LitT; External Term Format).
use Rattle.std.specs.Prelude.{◌≡◌, ℕ, suc, ◌<◌, ◌≤◌, List, [], ◌∷◌, ◌++◌, length, slice_get, Some, IsTrue, MatchOption}
use Rattle.std.specs.Str.{is_utf8}
use Rattle.beam_term.specs.Prelude.{TermValue}
use Rattle.beam_model.specs.External.{IsExternal}
use Rattle.beam_model.specs.Form.{Form}
use Rattle.beam_model.specs.Tables.{Tables}
use Rattle.beam_model.specs.declared.function.Import.{Import}
use Rattle.beam_model.specs.declared.function.Export.{Export}
use Rattle.beam_model.specs.ChunkForm.{IsWord}
use Rattle.beam_model.specs.Sequence.{InSequence}

-- how many entries there are, and the entries, one after the other; what stands after the last is ignored
pub record IsTable {X : Type 0} (stands : X → List ℕ → Type 0) (entries : List X) (bytes : List ℕ) : Type 0 where
  pub count : List ℕ
  pub body : List ℕ
  pub after : List ℕ
  pub parts : bytes ≡ count ++ (body ++ after)
  pub is_count : IsWord (length entries) count
  pub are_entries : InSequence stands entries body

-- ---- AtU8

-- an atom: its length in a byte, and its UTF-8
pub record IsAtom (text : List ℕ) (bytes : List ℕ) : Type 0 where
  pub parts : bytes ≡ length text ∷ text
  pub utf8 : IsTrue (is_utf8 text)

-- from 1 to 65,535 atoms
pub record AreAtoms (atoms : List (List ℕ)) (bytes : List ℕ) : Type 0 where
  pub table : IsTable IsAtom atoms bytes
  pub some : 0 < length atoms
  pub within : length atoms ≤ 65535

-- the index of an atom, counted from 1
pub record IsAtomIndex (atoms : List (List ℕ)) (text : List ℕ) (bytes : List ℕ) : Type 0 where
  pub place : ℕ
  pub index : IsWord (suc place) bytes
  pub atom : slice_get atoms place ≡ Some text

-- ---- ImpT and ExpT

-- a module, a function and its arity
pub record IsImport (atoms : List (List ℕ)) (i : Import) (bytes : List ℕ) : Type 0 where
  pub module_index : List ℕ
  pub function_index : List ℕ
  pub arity : List ℕ
  pub parts : bytes ≡ module_index ++ (function_index ++ arity)
  pub is_module : IsAtomIndex atoms i.«module» module_index
  pub is_function : IsAtomIndex atoms i.function function_index
  pub is_arity : IsWord i.arity arity

-- a function, its arity and the label of its entry
pub record IsExport (atoms : List (List ℕ)) (e : Export) (bytes : List ℕ) : Type 0 where
  pub name_index : List ℕ
  pub arity : List ℕ
  pub label : List ℕ
  pub parts : bytes ≡ name_index ++ (arity ++ label)
  pub is_name : IsAtomIndex atoms e.name name_index
  pub is_arity : IsWord e.arity arity
  pub is_label : IsWord e.label label

-- ---- LitT

-- a literal: its size, and a term in the External Term Format
pub record IsLiteral (t : TermValue) (bytes : List ℕ) : Type 0 where
  pub size : List ℕ
  pub content : List ℕ
  pub parts : bytes ≡ size ++ content
  pub is_size : IsWord (length content) size
  pub is_term : IsExternal content t

-- a 0, since they aren't compressed, and the literals
pub record AreLiterals (ts : List TermValue) (bytes : List ℕ) : Type 0 where
  pub zero : List ℕ
  pub rest : List ℕ
  pub parts : bytes ≡ zero ++ rest
  pub is_zero : IsWord 0 zero
  pub table : IsTable IsLiteral ts rest

-- ---- all tables

-- the chunks of atoms, imports and exports are there; that of literals is left out only where there are none
pub record AreTables (form : Form) (t : Tables) : Type 0 where
  pub atoms : MatchOption form.atoms ⊥ (AreAtoms t.atoms)
  pub imports : MatchOption form.imports ⊥ (IsTable (IsImport t.atoms) t.imports)
  pub exports : MatchOption form.exports ⊥ (IsTable (IsExport t.atoms) t.exports)
  pub literals : MatchOption form.literals (t.literals ≡ []) (AreLiterals t.literals)
