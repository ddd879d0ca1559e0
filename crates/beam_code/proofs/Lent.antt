-- Operands that are read where they stand.
use Rattle.std.proofs.Common.{◌≡◌, ◌≢◌, ℕ, zero, suc, ◌+◌, ◌-◌, ◌^◌, ◌<◌, ◌≤◌, Bool, true, false, cond, ltb, List, [], ◌∷◌, length, get_or, drop, Option, Some, None, Result, Ok, Err, refl, sym, ap, subst, ◌∙◌, arith, IsSome, map, option_map, slice_get, ltb-true, ltb-false, length-append, length-drop}
use Rattle.std.proofs.lemmas.List.{drop_all, length-map}
use Rattle.std.proofs.lemmas.Option.{same_Some}
use Rattle.beam_lemmas.proofs.Steps.{bind_ok}
use Rattle.beam_model.specs.declared.compact.CompactTag.{CompactTag}
use Rattle.beam_model.specs.declared.compact.Compact.{Compact}
use Rattle.beam_model.specs.declared.compact.CompactOperand.{CompactOperand}
use Rattle.beam_model.specs.declared.function.Import.{Import}
use Rattle.beam_model.specs.declared.instruction.Argument.{Argument}
use Rattle.beam_model.specs.declared.instruction.Operand.{Operand}
use Rattle.beam_model.specs.declared.opcode.Kind.{Kind}
use Rattle.beam_model.specs.Prelude.{OperandFault, value_at, compact_tag, atom_or_nil, is_one, number_at, members_at, compact_list_at, extended_of, single_of_tag, single_at, as_operand, operand_of_tag, operand_at, CodeFault, argument_of, argument_of_source, argument_of_member, import_of_index, meaning_of, spelled_at, or_bad_operand, meant_at, operands_at}
use Rattle.beam_term.specs.Prelude.{TermValue, atom_term}
use Rattle.beam_model.specs.declared.compact.CompactTag.TheVariants as tag
use Rattle.beam_model.specs.declared.compact.Compact.TheVariants as compact
use Rattle.beam_model.specs.declared.compact.CompactOperand.TheVariants as compact_operand
use Rattle.beam_model.specs.declared.instruction.Argument.TheVariants as argument
use Rattle.beam_model.specs.declared.instruction.Operand.TheVariants as operand
use Rattle.beam_model.specs.declared.opcode.Kind.TheVariants as kind
use Rattle.beam_model.specs.Compact.{◌>>=◌}
use Rattle.beam_operand.specs.declared.error.OperandError.{OperandError}
use Rattle.beam_operand.specs.declared.error.OperandError.TheVariants.{NoMemory}
use Rattle.beam_operand.specs.Faults.{Fails}
use Rattle.beam_operand.proofs.Fronts.{is_memory}
use Rattle.beam_operand.proofs.Prefix.{ok_is as read_is}
use Rattle.beam_operand.proofs.Reading.{prefix_single}
use Rattle.beam_code.specs.Prelude.{CodeBytes, is_argument_next, is_import_next, operands_from, read_or_none, AreRead, meant_in, argument_in, argument_at, index_in, index_at}
use Rattle.beam_code.proofs.Codes.{done, ok_is, wanted_is, behind_is}

-- ---- what stands at a byte

-- an operand is read at a byte, and the rest is no longer than the bytes from there on
pub record WasRead (code : List ℕ) (at : ℕ) (x : Compact) (rest : List ℕ) : Type 0 where
  pub is : single_at (drop at code) ≡ Ok (x, rest)
  pub within : at < length code
  pub shorter : length rest ≤ length (drop at code)

was_read : (code : List ℕ) (at : ℕ) (x : Compact) (rest : List ℕ) → single_at (drop at code) ≡ Ok (x, rest) → WasRead code at x rest
was_read code at x rest e =
    let t = prefix_single.took (drop at code) x rest e in
    record {
      is = e;
      within = inside (ltb at (length code)) refl;
      shorter = omega (arith, ap length t.parts, length-append t.text rest);
    }
  where
    inside : (b : Bool) → ltb at (length code) ≡ b → at < length code
    inside true lt = ltb-true _ _ lt
    inside false ge =
        let none : drop at code ≡ [] = drop_all at code (ltb-false _ _ ge) in
        let fault = ap single_at (sym none) ∙ e in
        absurd (cc)

-- an argument that can be lent
pub record IsLendable (c : CodeBytes) (at : ℕ) : Type 0 where
  pub x : Compact
  pub rest : List ℕ
  pub read : WasRead c.code at x rest
  pub means : IsSome (meant_in c x)

pub some_mapped : {A B : Type 0} (f : A → B) (o : Option A) → IsSome (option_map f o) → IsSome o
some_mapped f (Some x) h = refl
some_mapped f None h = absurd cc

lendable_in : (c : CodeBytes) (at : ℕ) (r : Result (Compact × List ℕ) OperandFault) → single_at (drop at c.code) ≡ r → IsSome (argument_in c r) → IsLendable c at
lendable_in c at (Ok (x, rest)) e h = record { x = x; rest = rest; read = was_read c.code at x rest e; means = some_mapped _ (meant_in c x) h }
lendable_in c at (Err f) e h = absurd cc

pub lendable : (c : CodeBytes) (at : ℕ) → IsSome (argument_at c at) → IsLendable c at
unfolding argument_at
lendable c at h = lendable_in c at (single_at (drop at c.code)) refl h

-- the index of an import
pub record IsIndex (c : CodeBytes) (at : ℕ) : Type 0 where
  pub n : ℕ
  pub rest : List ℕ
  pub read : WasRead c.code at (compact.Number n) rest

index_read_in : (c : CodeBytes) (at : ℕ) (r : Result (Compact × List ℕ) OperandFault) → single_at (drop at c.code) ≡ r → IsSome (index_in c r) → IsIndex c at
index_read_in c at (Ok (compact.Number n, rest)) e h = record { n = n; rest = rest; read = was_read c.code at (compact.Number n) rest e }
index_read_in c at (Ok (_, rest)) e h = absurd cc
index_read_in c at (Err f) e h = absurd cc

pub index_read : (c : CodeBytes) (at : ℕ) → IsSome (index_at c at) → IsIndex c at
unfolding index_at
index_read c at h = index_read_in c at (single_at (drop at c.code)) refl h

-- reading the same bytes again gives the same operand
pub same_read : (c : CodeBytes) (at : ℕ) (x : Compact) (rest : List ℕ) → WasRead c.code at x rest → (bytes : List ℕ) → bytes ≡ drop at c.code → (r : Compact × List ℕ) → single_at bytes ≡ Ok r → r ≡ (x, rest)
same_read c at x rest w bytes same r e = read_is {F = OperandFault} r (x, rest) (sym e ∙ ap single_at same ∙ w.is)

pub no_fault : (code : List ℕ) (at : ℕ) (x : Compact) (rest : List ℕ) → WasRead code at x rest → (bytes : List ℕ) → bytes ≡ drop at code → (e : OperandError) → Fails e (single_at bytes) → e ≢ NoMemory → ⊥
no_fault code at x rest w bytes same e f n = n (is_memory e (x, rest) (subst (λ (r : Result (Compact × List ℕ) OperandFault). Fails e r) (ap single_at same ∙ w.is) f))

-- the byte after an operand that was read
after : (code : List ℕ) (at : ℕ) (bytes rest : List ℕ) → bytes ≡ drop at code → length rest ≤ length bytes → at < length code → length code - length rest ≡ at + (length bytes - length rest)
after code at bytes rest same shorter within = omega (arith, ap length same, length-drop at code)

pub read_shorter : (code : List ℕ) (at : ℕ) (x : Compact) (rest : List ℕ) → WasRead code at x rest → (bytes : List ℕ) → bytes ≡ drop at code → (r : Compact × List ℕ) → r ≡ (x, rest) → length r.1 ≤ length bytes
read_shorter code at x rest w bytes same r e = omega (arith, ap (λ (p : Compact × List ℕ). length p.1) e, ap length same, w.shorter)

pub next_fits : (code : List ℕ) (at : ℕ) (bytes : List ℕ) → bytes ≡ drop at code → at < length code → length code < 2 ^ 64 → (n : ℕ) → at + (length bytes - n) < 2 ^ 64
next_fits code at bytes same within room n = omega (arith, ap length same, length-drop at code)

pub lent_is : (c : CodeBytes) (at : ℕ) (x : Compact) (rest : List ℕ) → WasRead c.code at x rest → (bytes : List ℕ) → bytes ≡ drop at c.code → (r : Compact × List ℕ) → single_at bytes ≡ Ok r → (a : Argument) → meant_in c r.0 ≡ Some a
    → argument_at c at ≡ Some (a, at + (length bytes - length r.1))
unfolding argument_at
lent_is c at x rest w bytes same r e a m =
    let next = after c.code at bytes r.1 same (read_shorter c.code at x rest w bytes same r (same_read c at x rest w bytes same r e)) w.within in
    ap (argument_in c) (ap single_at (sym same) ∙ e) ∙ ap (option_map (λ b. (b, length c.code - length r.1))) m ∙ ap (λ (n : ℕ). Some (a, n)) next

pub index_is : (c : CodeBytes) (at : ℕ) (x : Compact) (rest : List ℕ) → WasRead c.code at x rest → (bytes : List ℕ) → bytes ≡ drop at c.code → (n : ℕ) (left : List ℕ) → single_at bytes ≡ Ok (compact.Number n, left)
    → index_at c at ≡ Some (n, at + (length bytes - length left))
unfolding index_at
index_is c at x rest w bytes same n left e =
    let next = after c.code at bytes left same (read_shorter c.code at x rest w bytes same (compact.Number n, left) (same_read c at x rest w bytes same (compact.Number n, left) e)) w.within in
    ap (index_in c) (ap single_at (sym same) ∙ e) ∙ ap (λ (k : ℕ). Some (n, k)) next

-- ---- atoms

atom_there : (atoms : List (List ℕ)) (n : ℕ) (t : TermValue) → t ≡ get_or (map (λ text. atom_term text) atoms) n t → IsSome (option_map (λ text. argument.Term (atom_term text)) (slice_get atoms n))
    → option_map (λ text. argument.Term (atom_term text)) (slice_get atoms n) ≡ Some (argument.Term t)
atom_there [] n t e h = absurd cc
atom_there (text ∷ atoms) zero t e h = ap (λ (u : TermValue). Some (argument.Term u)) (sym e)
atom_there (text ∷ atoms) (suc n) t e h = atom_there atoms n t e h

atom_inside : (atoms : List (List ℕ)) (n : ℕ) → IsSome (option_map (λ text. argument.Term (atom_term text)) (slice_get atoms n)) → n < length atoms
atom_inside [] n h = absurd cc
atom_inside (text ∷ atoms) zero h = omega arith
atom_inside (text ∷ atoms) (suc n) h = let more : n < length atoms = atom_inside atoms n h in omega arith

pub atom_within : (v c : CodeBytes) → v ≡ c → (terms : List TermValue) → terms ≡ map (λ text. atom_term text) v.tables.atoms → (number : ℕ) → number ≢ 0
    → IsSome (meant_in c (atom_or_nil number)) → number - 1 < length terms
atom_within v c same terms are zero not h = absurd (not refl)
atom_within v c same terms are (suc n) not h =
    omega (arith, atom_inside c.tables.atoms n h, ap length are, length-map v.tables.atoms (λ text. atom_term text), ap (λ (b : CodeBytes). length b.tables.atoms) same)

pub atom_lent : (v c : CodeBytes) → v ≡ c → (terms : List TermValue) → terms ≡ map (λ text. atom_term text) v.tables.atoms → (number : ℕ) → number ≢ 0 → (t : TermValue) → t ≡ get_or terms (number - 1) t
    → IsSome (meant_in c (atom_or_nil number)) → meant_in c (atom_or_nil number) ≡ Some (argument.Term t)
atom_lent v c same terms are zero not t e h = absurd (not refl)
atom_lent v c same terms are (suc n) not t e h =
    let before : suc n - 1 ≡ n = omega arith in
    let all : terms ≡ map (λ text. atom_term text) c.tables.atoms = are ∙ ap (λ (b : CodeBytes). map (λ text. atom_term text) b.tables.atoms) same in
    atom_there c.tables.atoms n t (e ∙ ap (λ (k : ℕ). get_or terms k t) before ∙ ap (λ (ts : List TermValue). get_or ts n t) all) h

-- ---- operands that are no lists

one_is : (r : Result (Compact × List ℕ) OperandFault) (x : Compact) (rest : List ℕ) → as_operand r ≡ Ok (compact_operand.One x, rest) → r ≡ Ok (x, rest)
one_is (Ok y) x rest e =
    let same : (compact_operand.One y.0, y.1) ≡ (compact_operand.One x, rest) = read_is {F = OperandFault} (compact_operand.One y.0, y.1) (compact_operand.One x, rest) e in
    let ones : compact_operand.One y.0 ≡ compact_operand.One x = ap (λ (p : CompactOperand × List ℕ). p.0) same in
    let first : y.0 ≡ x = cc (ones) in
    let second : y.1 ≡ rest = ap (λ (p : CompactOperand × List ℕ). p.1) same in
    ap (λ (z : Compact). Ok (z, y.1)) first ∙ ap (λ (w : List ℕ). Ok (x, w)) second
one_is (Err f) x rest e = absurd cc

no_list : (bytes : List ℕ) (x : Compact) (rest : List ℕ) → compact_list_at bytes ≡ Ok (compact_operand.One x, rest) → ⊥
unfolding compact_list_at
no_list bytes x rest e =
    let n = bind_ok (number_at bytes) (λ (count : ℕ × List ℕ). members_at count.0 count.1 >>= λ members. Ok (compact_operand.List members.0, members.1)) (compact_operand.One x, rest) e in
    let m = bind_ok (members_at n.0.0 n.0.1) (λ (members : List Compact × List ℕ). Ok (compact_operand.List members.0, members.1)) (compact_operand.One x, rest) n.2 in
    let same : (compact_operand.List m.0.0, m.0.1) ≡ (compact_operand.One x, rest) = read_is {F = OperandFault} (compact_operand.List m.0.0, m.0.1) (compact_operand.One x, rest) m.2 in
    let kinds : compact_operand.List m.0.0 ≡ compact_operand.One x = ap (λ (p : CompactOperand × List ℕ). p.0) same in
    cc (kinds)

extended_is : (b : Bool) (bytes : List ℕ) (r : Result (Compact × List ℕ) OperandFault) (x : Compact) (rest : List ℕ) → cond b (compact_list_at bytes) (as_operand r) ≡ Ok (compact_operand.One x, rest) → r ≡ Ok (x, rest)
extended_is true bytes r x rest e = absurd (no_list bytes x rest e)
extended_is false bytes r x rest e = one_is r x rest e

single_is_of : (t : CompactTag) (first : ℕ) (bytes : List ℕ) (x : Compact) (rest : List ℕ) → operand_of_tag t first bytes ≡ Ok (compact_operand.One x, rest) → single_of_tag t first bytes ≡ Ok (x, rest)
unfolding operand_of_tag single_of_tag
single_is_of tag.Extended first bytes x rest e =
    let v = bind_ok (value_at first bytes) (λ v. cond (is_one v.0) (compact_list_at v.1) (as_operand (extended_of v.0 v.1))) (compact_operand.One x, rest) e in
    let value = v.1 in
    rw value (extended_is (is_one v.0.0) v.0.1 (extended_of v.0.0 v.0.1) x rest v.2)
single_is_of tag.Number first bytes x rest e = one_is (single_of_tag tag.Number first bytes) x rest e
single_is_of tag.Integer first bytes x rest e = one_is (single_of_tag tag.Integer first bytes) x rest e
single_is_of tag.Atom first bytes x rest e = one_is (single_of_tag tag.Atom first bytes) x rest e
single_is_of tag.X first bytes x rest e = one_is (single_of_tag tag.X first bytes) x rest e
single_is_of tag.Y first bytes x rest e = one_is (single_of_tag tag.Y first bytes) x rest e
single_is_of tag.Label first bytes x rest e = one_is (single_of_tag tag.Label first bytes) x rest e
single_is_of tag.Character first bytes x rest e = one_is (single_of_tag tag.Character first bytes) x rest e

single_is : (bytes : List ℕ) (x : Compact) (rest : List ℕ) → operand_at bytes ≡ Ok (compact_operand.One x, rest) → single_at bytes ≡ Ok (x, rest)
single_is [] x rest e = absurd cc
single_is (first ∷ bytes) x rest e = single_is_of (compact_tag first) first bytes x rest e

-- ---- what they mean

source_member : (atoms : List (List ℕ)) (literals : List TermValue) (x : Compact) (a : Argument) → argument_of_source atoms literals x ≡ Some a → argument_of_member atoms literals x ≡ Some a
source_member atoms literals (compact.Number n) a e = absurd cc
source_member atoms literals (compact.Label n) a e = absurd cc
source_member atoms literals (compact.X n) a e = e
source_member atoms literals (compact.Y n) a e = e
source_member atoms literals (compact.Integer z) a e = e
source_member atoms literals compact.Nil a e = e
source_member atoms literals (compact.Atom n) a e = e
source_member atoms literals (compact.Literal n) a e = e

-- an operand means the same under a kind as without one
argument_member : (k : Kind) (atoms : List (List ℕ)) (literals : List TermValue) (x : Compact) (a : Argument) → argument_of k atoms literals x ≡ Some a → argument_of_member atoms literals x ≡ Some a
argument_member kind.Number atoms literals (compact.Number n) a e = e
argument_member kind.Number atoms literals _ a e = absurd cc
argument_member kind.Arity atoms literals (compact.Number n) a e = e
argument_member kind.Arity atoms literals _ a e = absurd cc
argument_member kind.FrameSize atoms literals (compact.Number n) a e = e
argument_member kind.FrameSize atoms literals _ a e = absurd cc
argument_member kind.Label atoms literals (compact.Label n) a e = e
argument_member kind.Label atoms literals _ a e = absurd cc
argument_member kind.FailLabel atoms literals (compact.Label n) a e = e
argument_member kind.FailLabel atoms literals _ a e = absurd cc
argument_member kind.Atom atoms literals (compact.Atom n) a e = e
argument_member kind.Atom atoms literals _ a e = absurd cc
argument_member kind.Source atoms literals x a e = source_member atoms literals x a e
argument_member kind.Register atoms literals (compact.X n) a e = e
argument_member kind.Register atoms literals (compact.Y n) a e = e
argument_member kind.Register atoms literals _ a e = absurd cc
argument_member kind.Import atoms literals x a e = absurd cc
argument_member (kind.Native n) atoms literals x a e = absurd cc
argument_member kind.List atoms literals x a e = absurd cc

record IsOne (k : Kind) (c : CodeBytes) (x : CompactOperand) (o : Operand) : Type 0 where
  compact : Compact
  argument : Argument
  is : x ≡ compact_operand.One compact
  means : meant_in c compact ≡ Some argument
  operand : o ≡ operand.One argument

mapped : {A : Type 0} (f : A → Operand) (r : Option A) (o : Operand) → option_map f r ≡ Some o → (a : A) × (r ≡ Some a) × (o ≡ f a)
mapped f (Some a) o e = let same : f a ≡ o = cc (e) in (a, refl, sym same)
mapped f None o e = absurd cc

one_of : (k : Kind) (c : CodeBytes) (x : Compact) (o : Operand) → option_map (λ a. operand.One a) (argument_of k c.tables.atoms c.tables.literals x) ≡ Some o → IsOne k c (compact_operand.One x) o
one_of k c x o e =
    let m = mapped (λ a. operand.One a) (argument_of k c.tables.atoms c.tables.literals x) o e in
    record { compact = x; argument = m.0; is = refl; means = argument_member k c.tables.atoms c.tables.literals x m.0 m.1; operand = m.2 }

one_meant : (k : Kind) → is_argument_next (k ∷ []) ≡ true → (c : CodeBytes) (x : CompactOperand) (o : Operand) → meaning_of k c.tables.atoms c.tables.imports c.tables.literals x ≡ Some o → IsOne k c x o
unfolding meaning_of
one_meant kind.Number h c (compact_operand.One x) o e = one_of kind.Number c x o e
one_meant kind.Arity h c (compact_operand.One x) o e = one_of kind.Arity c x o e
one_meant kind.FrameSize h c (compact_operand.One x) o e = one_of kind.FrameSize c x o e
one_meant kind.Label h c (compact_operand.One x) o e = one_of kind.Label c x o e
one_meant kind.FailLabel h c (compact_operand.One x) o e = one_of kind.FailLabel c x o e
one_meant kind.Atom h c (compact_operand.One x) o e = one_of kind.Atom c x o e
one_meant kind.Source h c (compact_operand.One x) o e = one_of kind.Source c x o e
one_meant kind.Register h c (compact_operand.One x) o e = one_of kind.Register c x o e
one_meant kind.Number h c (compact_operand.List xs) o e = absurd cc
one_meant kind.Arity h c (compact_operand.List xs) o e = absurd cc
one_meant kind.FrameSize h c (compact_operand.List xs) o e = absurd cc
one_meant kind.Label h c (compact_operand.List xs) o e = absurd cc
one_meant kind.FailLabel h c (compact_operand.List xs) o e = absurd cc
one_meant kind.Atom h c (compact_operand.List xs) o e = absurd cc
one_meant kind.Source h c (compact_operand.List xs) o e = absurd cc
one_meant kind.Register h c (compact_operand.List xs) o e = absurd cc
one_meant kind.Import h c x o e = absurd cc
one_meant (kind.Native n) h c x o e = absurd cc
one_meant kind.List h c x o e = absurd cc

-- the meaning of an operand that was read, and the byte after it
record IsMeant (k : Kind) (c : CodeBytes) (at : ℕ) (o : Operand) (next : ℕ) : Type 0 where
  x : CompactOperand
  rest : List ℕ
  read : operand_at (drop at c.code) ≡ Ok (x, rest)
  means : meaning_of k c.tables.atoms c.tables.imports c.tables.literals x ≡ Some o
  ends : next ≡ length c.code - length rest

is_meant : (k : Kind) (c : CodeBytes) (at : ℕ) (o : Operand) (next : ℕ) → meant_at c.tables.atoms c.tables.imports c.tables.literals c.code k at ≡ Ok (o, next) → IsMeant k c at o next
unfolding meant_at spelled_at
is_meant k c at o next e =
    let t = c.tables in
    let s = bind_ok (spelled_at c.code at) (λ (spelled : CompactOperand × ℕ). or_bad_operand at (meaning_of k t.atoms t.imports t.literals spelled.0) >>= λ meant. done (meant, spelled.1)) (o, next) e in
    let m = bind_ok (or_bad_operand at (meaning_of k t.atoms t.imports t.literals s.0.0)) (λ (meant : Operand). done (meant, s.0.1)) (o, next) s.2 in
    let b = behind_is c.code at (operand_at (drop at c.code)) s.0 s.1 in
    let same : (m.0, s.0.1) ≡ (o, next) = ok_is (m.0, s.0.1) (o, next) m.2 in
    let meant : m.0 ≡ o = ap (λ (p : Operand × ℕ). p.0) same in
    let last : s.0.1 ≡ next = ap (λ (p : Operand × ℕ). p.1) same in
    record {
      x = s.0.0;
      rest = b.0;
      read = b.1;
      means = wanted_is at (meaning_of k t.atoms t.imports t.literals s.0.0) m.0 m.1 ∙ ap (λ (p : Operand). Some p) meant;
      ends = sym last ∙ b.2;
    }

argument_stands : (k : Kind) → is_argument_next (k ∷ []) ≡ true → (c : CodeBytes) (at : ℕ) (o : Operand) (next : ℕ) → meant_at c.tables.atoms c.tables.imports c.tables.literals c.code k at ≡ Ok (o, next)
    → (a : Argument) × (o ≡ operand.One a) × (argument_at c at ≡ Some (a, next))
unfolding argument_at
argument_stands k h c at o next e =
    let m = is_meant k c at o next e in
    let p = one_meant k h c m.x o m.means in
    let single : single_at (drop at c.code) ≡ Ok (p.compact, m.rest) = single_is (drop at c.code) p.compact m.rest (m.read ∙ ap (λ (x : CompactOperand). Ok (x, m.rest)) p.is) in
    let argument : argument_in c (single_at (drop at c.code)) ≡ Some (p.argument, next) =
    ap (argument_in c) single ∙ ap (option_map (λ a. (a, length c.code - length m.rest))) p.means ∙ ap (λ (n : ℕ). Some (p.argument, n)) (sym m.ends) in
    (p.argument, p.operand, argument)

-- ---- imports

record IsIndexOf (c : CodeBytes) (x : CompactOperand) (o : Operand) : Type 0 where
  n : ℕ
  import : Import
  is : x ≡ compact_operand.One (compact.Number n)
  there : slice_get c.tables.imports n ≡ Some import
  operand : o ≡ operand.Import import

index_of : (c : CodeBytes) (x : Compact) (o : Operand) → option_map (λ i. operand.Import i) (import_of_index c.tables.imports x) ≡ Some o → IsIndexOf c (compact_operand.One x) o
index_of c (compact.Number n) o e =
    let m = mapped (λ i. operand.Import i) (slice_get c.tables.imports n) o e in
    record { n = n; import = m.0; is = refl; there = m.1; operand = m.2 }
index_of c _ o e = absurd cc

index_meant : (k : Kind) → is_import_next (k ∷ []) ≡ true → (c : CodeBytes) (x : CompactOperand) (o : Operand) → meaning_of k c.tables.atoms c.tables.imports c.tables.literals x ≡ Some o → IsIndexOf c x o
unfolding meaning_of
index_meant kind.Import h c (compact_operand.One x) o e = index_of c x o e
index_meant (kind.Native n) h c (compact_operand.One x) o e = index_of c x o e
index_meant kind.Import h c (compact_operand.List xs) o e = absurd cc
index_meant (kind.Native n) h c (compact_operand.List xs) o e = absurd cc
index_meant _ h c x o e = absurd cc

import_stands : (k : Kind) → is_import_next (k ∷ []) ≡ true → (c : CodeBytes) (at : ℕ) (o : Operand) (next : ℕ) → meant_at c.tables.atoms c.tables.imports c.tables.literals c.code k at ≡ Ok (o, next)
    → (n : ℕ) × (i : Import) × (slice_get c.tables.imports n ≡ Some i) × (o ≡ operand.Import i) × (index_at c at ≡ Some (n, next))
unfolding index_at
import_stands k h c at o next e =
    let m = is_meant k c at o next e in
    let p = index_meant k h c m.x o m.means in
    let single : single_at (drop at c.code) ≡ Ok (compact.Number p.n, m.rest) = single_is (drop at c.code) (compact.Number p.n) m.rest (m.read ∙ ap (λ (x : CompactOperand). Ok (x, m.rest)) p.is) in
    let index : index_in c (single_at (drop at c.code)) ≡ Some (p.n, next) = ap (index_in c) single ∙ ap (λ (n : ℕ). Some (p.n, n)) (sym m.ends) in
    (p.n, p.import, p.there, p.operand, index)

-- ---- one after another

-- the first operand, and the operands after it
record Opened (c : CodeBytes) (k : Kind) (kinds : List Kind) (at : ℕ) : Type 0 where
  first : Operand
  next : ℕ
  read : meant_at c.tables.atoms c.tables.imports c.tables.literals c.code k at ≡ Ok (first, next)
  others : AreRead c kinds next
  are : read_or_none (operands_from c (k ∷ kinds) at) ≡ first ∷ read_or_none (operands_from c kinds next)

opened : (c : CodeBytes) (k : Kind) (kinds : List Kind) (at : ℕ) → AreRead c (k ∷ kinds) at → Opened c k kinds at
unfolding operands_at
opened c k kinds at (p, e) =
    let t = c.tables in
    let f = bind_ok (meant_at t.atoms t.imports t.literals c.code k at) (λ (first : Operand × ℕ). operands_at t.atoms t.imports t.literals c.code kinds first.1 >>= λ others. done (first.0 ∷ others.0, others.1)) p e in
    let g = bind_ok (operands_at t.atoms t.imports t.literals c.code kinds f.0.1) (λ (others : List Operand × ℕ). done (f.0.0 ∷ others.0, others.1)) p f.2 in
    let same : f.0.0 ∷ g.0.0 ≡ p.0 = ap (λ (q : List Operand × ℕ). q.0) (ok_is (f.0.0 ∷ g.0.0, g.0.1) p g.2) in
    record {
      first = f.0.0;
      next = f.0.1;
      read = f.1;
      others = (g.0, g.1);
      are = ap read_or_none e ∙ sym same ∙ ap (λ (r : Result (List Operand × ℕ) CodeFault). f.0.0 ∷ read_or_none r) (sym g.1);
    }

pub as_many : (c : CodeBytes) (kinds : List Kind) (at : ℕ) → AreRead c kinds at → length (read_or_none (operands_from c kinds at)) ≡ length kinds
unfolding operands_at
as_many c [] at read = refl
as_many c (k ∷ kinds) at read =
    let o = opened c k kinds at read in
    let others = as_many c kinds o.next o.others in
    omega (arith, ap length o.are, others)

-- an operand of these kinds is read, and the others follow it
pub record Follows (c : CodeBytes) (kinds : List Kind) (at : ℕ) (o : Operand) (next : ℕ) : Type 0 where
  pub others : AreRead c (drop 1 kinds) next
  pub are : read_or_none (operands_from c kinds at) ≡ o ∷ read_or_none (operands_from c (drop 1 kinds) next)

pub argument_next : (c : CodeBytes) (kinds : List Kind) (at : ℕ) → is_argument_next kinds ≡ true → AreRead c kinds at
    → (a : Argument) × (next : ℕ) × (argument_at c at ≡ Some (a, next)) × Follows c kinds at (operand.One a) next
argument_next c [] at h read = absurd cc
argument_next c (k ∷ kinds) at h read =
    let o = opened c k kinds at read in
    let s = argument_stands k (by_first k kinds h) c at o.first o.next o.read in
    (s.0, o.next, s.2, record { others = o.others; are = o.are ∙ ap (λ (p : Operand). p ∷ read_or_none (operands_from c kinds o.next)) s.1 })
  where
    by_first : (k : Kind) (kinds : List Kind) → is_argument_next (k ∷ kinds) ≡ true → is_argument_next (k ∷ []) ≡ true
    by_first kind.List ks g = g
    by_first kind.Import ks g = g
    by_first (kind.Native n) ks g = g
    by_first _ ks g = refl

pub import_next : (c : CodeBytes) (kinds : List Kind) (at : ℕ) → is_import_next kinds ≡ true → AreRead c kinds at
    → (n : ℕ) × (i : Import) × (next : ℕ) × (slice_get c.tables.imports n ≡ Some i) × (index_at c at ≡ Some (n, next)) × Follows c kinds at (operand.Import i) next
import_next c [] at h read = absurd cc
import_next c (k ∷ kinds) at h read =
    let o = opened c k kinds at read in
    let s = import_stands k (by_first k kinds h) c at o.first o.next o.read in
    (s.0, s.1, o.next, s.2, s.4, record { others = o.others; are = o.are ∙ ap (λ (p : Operand). p ∷ read_or_none (operands_from c kinds o.next)) s.3 })
  where
    by_first : (k : Kind) (kinds : List Kind) → is_import_next (k ∷ kinds) ≡ true → is_import_next (k ∷ []) ≡ true
    by_first kind.Import ks g = refl
    by_first (kind.Native n) ks g = refl
    by_first _ ks g = absurd cc

pub argument_follows : (c : CodeBytes) (kinds : List Kind) (at : ℕ) → is_argument_next kinds ≡ true → AreRead c kinds at → (a : Argument) (next : ℕ) → argument_at c at ≡ Some (a, next)
    → Follows c kinds at (operand.One a) next
argument_follows c kinds at h read a next e =
    let n = argument_next c kinds at h read in
    subst (λ (p : Argument × ℕ). Follows c kinds at (operand.One p.0) p.1) (same_Some (n.0, n.1) (a, next) (sym n.2 ∙ e)) n.3

pub import_follows : (c : CodeBytes) (kinds : List Kind) (at : ℕ) → is_import_next kinds ≡ true → AreRead c kinds at → (n next : ℕ) → index_at c at ≡ Some (n, next)
    → (i : Import) × (slice_get c.tables.imports n ≡ Some i) × Follows c kinds at (operand.Import i) next
import_follows c kinds at h read n next e =
    let m = import_next c kinds at h read in
    subst (λ (p : ℕ × ℕ). (i : Import) × (slice_get c.tables.imports p.0 ≡ Some i) × Follows c kinds at (operand.Import i) p.1) (same_Some (m.0, m.2) (n, next) (sym m.4 ∙ e)) (m.1, m.3, m.5)
