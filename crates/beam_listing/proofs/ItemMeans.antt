-- The forms after the heads are read exactly as they stand.
use Rattle.std.proofs.Common.{◌≡◌, ℕ, List, [], ◌∷◌, Some, refl, subst, codes, ◌==◌}
use Rattle.std.proofs.lemmas.Option.{same_Some}
use Rattle.beam_model.specs.declared.function.Function.{Function}
use Rattle.beam_model.specs.declared.instruction.Instruction.{Instruction}
use Rattle.beam_model.specs.declared.item.Item.{Item}
use Rattle.beam_model.specs.Prelude.{same_text, tuple_parts, atom_of_text, number_of_text, headed_by, headed_of, only, plain_of, instruction_by, function_of_parts, item_by, bare_item, item_of}
use Rattle.beam_model.specs.declared.item.Item.TheVariants as item
use Rattle.beam_model.specs.Forms.{◌>>=◌}
use Rattle.beam_listing.specs.Prelude.{IsHeaded, IsFunctionForm, IsCall, IsItemForm}
use Rattle.beam_listing.proofs.FrontForms.{Means}
use Rattle.beam_listing.proofs.InstructionMeans.{plain_told, instruction_told}
use Rattle.beam_listing.proofs.InstructionRead.{item_read, instruction_read}
use Rattle.beam_listing.proofs.PartMeans.{bind_some, branches, renamed, atom_told, atom_read, number_told, number_read, head_some, headed_told, only_told}

-- ---- functions

abbrev made : List ℕ → ℕ → ℕ → Function
made name arity entry = record { name = name; arity = arity; entry = entry }

function_told : (parts : List (List ℕ)) (f : Function) (form : List ℕ) → IsHeaded (codes "function") parts form → function_of_parts parts ≡ Some f → IsFunctionForm f form
unfolding function_of_parts
function_told (f ∷ a ∷ x ∷ []) g form is e =
    let w = bind_some (atom_of_text f) (λ (name : List ℕ). number_of_text a >>= λ n. number_of_text x >>= λ m. Some (made name n m)) g e in
    let n = bind_some (number_of_text a) (λ (n : ℕ). number_of_text x >>= λ m. Some (made w.0 n m)) g w.2 in
    let m = bind_some (number_of_text x) (λ (m : ℕ). Some (made w.0 n.0 m)) g n.2 in
    subst (λ (h : Function). IsFunctionForm h form) (same_Some (made w.0 n.0 m.0) g m.2) (record {
      name_part = f;
      arity_part = a;
      entry_part = x;
      in_braces = is;
      is_name = atom_told f w.0 w.1;
      is_arity = number_told a n.0 n.1;
      is_entry = number_told x m.0 m.1;
    })
function_told _ g form is e = absurd cc (e)

function_read : (f : Function) (form : List ℕ) (is : IsFunctionForm f form) → function_of_parts (is.name_part ∷ is.arity_part ∷ is.entry_part ∷ []) ≡ Some f
unfolding function_of_parts
function_read f form is = rw (atom_read is.name_part f.name is.is_name, number_read is.arity_part f.arity is.is_arity, number_read is.entry_part f.entry is.is_entry) refl

function_item : (parts : List (List ℕ)) (f : Function) → function_of_parts parts ≡ Some f → item_by (codes "function") parts ≡ Some (item.Function f)
unfolding item_by
function_item parts f e = rw e refl

-- ---- items

remark_item : (about : List ℕ) → item_by (codes "%") (about ∷ []) ≡ Some item.Remark
unfolding item_by
remark_item about = refl

item_by_told : (name : List ℕ) (parts : List (List ℕ)) (x : Item) (form : List ℕ) → IsHeaded name parts form → IsCall name parts form → item_by name parts ≡ Some x → IsItemForm x form
unfolding item_by
item_by_told name parts x form is call e =
    branches (same_text name (codes "function")) (function_of_parts parts >>= λ f. Some (item.Function f)) _ x e (λ same g.
    let f = bind_some (function_of_parts parts) (λ (f : Function). Some (item.Function f)) x g in
    subst (λ (y : Item). IsItemForm y form) (same_Some (item.Function f.0) x f.2) (function_told parts f.0 form (renamed name (codes "function") parts form same is) f.1))
    (λ other g.
    branches (same_text name (codes "%")) (only parts >>= λ about. Some item.Remark) (instruction_by name parts >>= λ i. Some (item.Instruction i)) x g (λ same h.
    let about = bind_some (only parts) (λ (about : List ℕ). Some item.Remark) x h in
    let remark = subst (λ (ps : List (List ℕ)). IsHeaded (codes "%") ps form) (only_told parts about.0 about.1) (renamed name (codes "%") parts form same is) in
    subst (λ (y : Item). IsItemForm y form) (same_Some item.Remark x about.2) (about.0, remark))
    (λ none h.
    let i = bind_some (instruction_by name parts) (λ (i : Instruction). Some (item.Instruction i)) x h in
    subst (λ (y : Item). IsItemForm y form) (same_Some (item.Instruction i.0) x i.2) (instruction_told name parts i.0 form is call i.1)))

call_told : (form name : List ℕ) (parts : List (List ℕ)) → headed_of form ≡ Some (name, parts) → IsCall name parts form
unfolding headed_of
call_told form name (part ∷ parts) e = headed_told form name (part ∷ parts) e
call_told form name [] e = let all = bind_some (tuple_parts form) headed_by (name, []) e in absurd (head_some all.0 name all.2)

item_told : (form : List ℕ) (x : Item) → item_of form ≡ Some x → IsItemForm x form
unfolding item_of bare_item
item_told [] x e = absurd cc (e)
item_told (c ∷ cs) x e =
    branches (c == 123) (headed_of (c ∷ cs) >>= λ h. item_by h.0 h.1) (bare_item (c ∷ cs)) x e (λ brace f.
    let h = bind_some (headed_of (c ∷ cs)) (λ (h : List ℕ × List (List ℕ)). item_by h.0 h.1) x f in
    item_by_told h.0.0 h.0.1 x (c ∷ cs) (headed_told (c ∷ cs) h.0.0 h.0.1 h.1) (call_told (c ∷ cs) h.0.0 h.0.1 h.1) h.2)
    (λ other f.
    let w = bind_some (atom_of_text (c ∷ cs)) (λ (name : List ℕ). plain_of name [] >>= λ i. Some (item.Instruction i)) x f in
    let i = bind_some (plain_of w.0 []) (λ (i : Instruction). Some (item.Instruction i)) x w.2 in
    subst (λ (y : Item). IsItemForm y (c ∷ cs)) (same_Some (item.Instruction i.0) x i.2) (plain_told w.0 [] i.0 (c ∷ cs) (atom_told (c ∷ cs) w.0 w.1) i.1))

items_read : (form : List ℕ) (x : Item) → IsItemForm x form → item_of form ≡ Some x
items_read form (item.Function f) is =
    item_read form (codes "function") is.name_part (is.arity_part ∷ is.entry_part ∷ []) (item.Function f) is.in_braces (function_item (is.name_part ∷ is.arity_part ∷ is.entry_part ∷ []) f (function_read f form is))
items_read form (item.Instruction i) is = instruction_read i form is
items_read form item.Remark (about, is) = item_read form (codes "%") about [] item.Remark is (remark_item about)

pub item_means : Means IsItemForm item_of
item_means = record { told = item_told; read = items_read }
