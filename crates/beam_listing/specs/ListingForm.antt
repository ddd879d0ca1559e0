-- Which text has which listing, by what stands where: forms, each with its full stop (the compiler's .S files).
use Rattle.std.specs.Prelude.{◌≡◌, ℕ, length, map, List, [], ◌∷◌, ◌++◌, ⊤}
use Rattle.beam_model.specs.declared.function.Signature.{Signature}
use Rattle.beam_model.specs.declared.function.Function.{Function}
use Rattle.beam_model.specs.declared.instruction.Instruction.{Instruction}
use Rattle.beam_model.specs.declared.item.Item.{Item}
use Rattle.beam_model.specs.Prelude.{Listing, InSequence, uncommented, export_by}
use Rattle.beam_model.specs.declared.item.Item.TheVariants as item
use Rattle.beam_listing.specs.BracketForm.{HasNoMargin, AreBlanks, IsBalanced}
use Rattle.beam_listing.specs.ItemForm.{IsModuleForm, IsExportsForm, IsAttributesForm, IsLabelsForm, IsItemForm}

-- ---- forms

-- a form with this value, without a full stop, 46, outside of its quotes and brackets, then its full stop, and blanks
pub record IsForm {A : Type 0} (Says : A → List ℕ → Type 0) (x : A) (text : List ℕ) : Type 0 where
  pub form : List ℕ
  pub blanks : List ℕ
  pub parts : text ≡ form ++ (46 ∷ blanks)
  pub begins : HasNoMargin form
  pub balanced : IsBalanced 46 form
  pub are_blanks : AreBlanks blanks
  pub says : Says x form

-- ---- the forms after the heads

-- `{function,F,A,Entry}`, where a function begins
abbrev pub functions_in : List Item → List Function
functions_in [] = []
functions_in (item.Function f ∷ items) = f ∷ functions_in items
functions_in (_ ∷ items) = functions_in items

abbrev pub instructions_in : List Item → List Instruction
instructions_in [] = []
instructions_in (item.Instruction i ∷ items) = i ∷ instructions_in items
instructions_in (_ ∷ items) = instructions_in items

-- no instruction stands before the first function
abbrev pub AreInFunctions : List Item → Type 0
AreInFunctions [] = ⊤
AreInFunctions (item.Function f ∷ items) = ⊤
AreInFunctions (item.Instruction i ∷ items) = ⊥
AreInFunctions (item.Remark ∷ items) = AreInFunctions items

-- ---- the listing

-- The heads `{module,M}`, `{exports,[..]}`, `{attributes,_}` and `{labels,N}`, and items: functions, each with its instructions after
-- it, and remarks. An export's label is the entry of the first function of its name and arity, 0 if there is none.
pub record AreForms (text : List ℕ) (l : Listing) : Type 0 where
  pub module_text : List ℕ
  pub exports_text : List ℕ
  pub attributes_text : List ℕ
  pub labels_text : List ℕ
  pub body : List ℕ
  pub parts : text ≡ module_text ++ (exports_text ++ (attributes_text ++ (labels_text ++ body)))
  pub is_module : IsForm IsModuleForm l.name module_text
  pub signatures : List Signature
  pub are_exports : IsForm IsExportsForm signatures exports_text
  pub about : List ℕ
  pub are_attributes : IsForm IsAttributesForm about attributes_text
  pub is_count : IsForm IsLabelsForm l.label_count labels_text
  pub items : List Item
  pub are_items : InSequence (IsForm IsItemForm) items body
  pub in_functions : AreInFunctions items
  pub exports : l.exports ≡ map (export_by (functions_in items)) signatures
  pub function_count : l.function_count ≡ length (functions_in items)
  pub instructions : l.instructions ≡ instructions_in items

-- with blanks for its comments the text is blanks, and the forms of the listing
pub record IsListingText (text : List ℕ) (l : Listing) : Type 0 where
  pub blanks : List ℕ
  pub forms : List ℕ
  pub parts : uncommented text ≡ blanks ++ forms
  pub are_blanks : AreBlanks blanks
  pub are_forms : AreForms forms l
