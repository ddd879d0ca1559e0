-- From the answer of a reading to the tables that chunks spell.
use Rattle.std.proofs.Common.{◌≡◌, ℕ, List, Some, Result, Ok, Err, refl, sym, subst, ◌∙◌, IfOk, MatchResult}
use Rattle.beam_model.specs.Prelude.{Form, Tables, TableFault, tables_at, AreTables}
use Rattle.beam_tables.specs.declared.error.TablesError.{TablesError}
use Rattle.beam_tables.specs.declared.error.TablesError.TheVariants.{MissingChunk, BadTable, CompressedLiterals, BadLiteral, NoMemory}
use Rattle.beam_tables.specs.Readings.{Fails, Gives}
use Rattle.beam_tables.proofs.Spellings.{ok_is, tables_told, tables_read}

-- a reading that has a result has no fault, so an error is NoMemory
pub only_memory : {Y : Type 0} (e : TablesError) (y : Y) → Fails e (Ok y) → e ≡ NoMemory
only_memory MissingChunk y f = absurd cc
only_memory BadTable y f = absurd cc
only_memory CompressedLiterals y f = absurd cc
only_memory BadLiteral y f = absurd cc
only_memory NoMemory y f = refl

pub spelled : {X : Type 0} (view : X → Tables) (r : Result X TablesError) (form : Form) → Gives view r (tables_at form) → IfOk r (λ x. AreTables form (view x))
spelled view (Ok x) form g = (tables_told form (view x) g).0
spelled view (Err e) form g = tt

pub only : {X : Type 0} (view : X → Tables) (r : Result X TablesError) (form : Form) → Gives view r (tables_at form)
    → (t : Tables) (code : List ℕ) → AreTables form t → form.code ≡ Some code → MatchResult r (λ x. view x ≡ t) (λ e. e ≡ NoMemory)
only view (Ok x) form g t code are there = ok_is (view x) t (sym g ∙ tables_read form t code are there)
only view (Err e) form g t code are there = only_memory e t (subst (λ (r : Result Tables TableFault). Fails e r) (tables_read form t code are there) g)
