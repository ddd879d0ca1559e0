-- A text is read exactly as the listing whose forms stand in it.
use Rattle.std.proofs.Common.{◌≡◌, ℕ, zero, suc, ◌≤◌, Bool, true, false, cond, List, [], ◌∷◌, ◌++◌, map, length, Result, Ok, Err, refl, sym, ap, subst, ◌∙◌, append_assoc, arith, ◌==◌, append-nil, length-append}
use Rattle.beam_lemmas.proofs.Steps.{bind_ok}
use Rattle.beam_erltext.proofs.Texts.{differ}
use Rattle.beam_model.specs.declared.function.Signature.{Signature}
use Rattle.beam_model.specs.declared.function.Function.{Function}
use Rattle.beam_model.specs.declared.instruction.Instruction.{Instruction}
use Rattle.beam_model.specs.declared.item.Item.{Item}
use Rattle.beam_model.specs.Prelude.{Listing, InSequence, uncommented, item_of, module_of, exports_of, attributes_of, labels_of, ListingFault, syntax, unknown, next_form, ListingBody, with_item, body_by, body_from, no_body, export_by, listing_at, with_line, listing_of_forms, listing_of_text, after_blanks}
use Rattle.beam_model.specs.declared.item.Item.TheVariants as item
use Rattle.beam_model.specs.Reading.{◌>>=◌}
use Rattle.beam_listing.specs.Prelude.{HasNoMargin, IsModuleForm, IsExportsForm, IsAttributesForm, IsLabelsForm, IsItemForm, IsForm, functions_in, instructions_in, AreInFunctions, AreForms, IsListingText}
use Rattle.beam_listing.proofs.FrontForms.{done, ok_is, no_margin, margin, after_margin, next_told, next_read, form_margin, form_bytes}
use Rattle.beam_listing.proofs.HeadMeans.{module_means, exports_means, attributes_means, labels_means}
use Rattle.beam_listing.proofs.ItemMeans.{item_means}

-- ---- one item more

abbrev added : ListingBody → List Item → ListingBody
added body items = record { functions = body.functions ++ functions_in items; instructions = body.instructions ++ instructions_in items }

-- whether items may stand after a body: after a function anything may, before the first function no instruction
abbrev MayFollow : ListingBody → List Item → Type 0
MayFollow body items = (length body.functions == 0) ≡ true → AreInFunctions items

record Step (body next : ListingBody) (i : Item) : Type 0 where
  adds : (items : List Item) → added next items ≡ added body (i ∷ items)
  order : (items : List Item) → MayFollow next items → MayFollow body (i ∷ items)

with_told : (left : ℕ) (body : ListingBody) (i : Item) (next : ListingBody) → with_item left body i ≡ Ok next → Step body next i
with_told left body (item.Function f) next e =
    subst (λ (b : ListingBody). Step body b (item.Function f)) (ok_is (record { functions = body.functions ++ f ∷ []; instructions = body.instructions }) next e) (record {
      adds = λ items. ap (λ (fs : List Function). record { functions = fs; instructions = body.instructions ++ instructions_in items }) (append_assoc body.functions (f ∷ []) (functions_in items));
      order = λ items h none. tt;
    })
with_told left body (item.Instruction i) next e = by (length body.functions == 0) refl e
  where
    made : ListingBody
    made = record { functions = body.functions; instructions = body.instructions ++ i ∷ [] }

    by : (b : Bool) → (length body.functions == 0) ≡ b → cond b (Err (unknown left)) (done made) ≡ Ok next → Step body next (item.Instruction i)
    by true t f = absurd cc
    by false t f = subst (λ (b : ListingBody). Step body b (item.Instruction i)) (ok_is made next f) (record {
      adds = λ items. ap (λ (is : List Instruction). record { functions = body.functions ++ functions_in items; instructions = is }) (append_assoc body.instructions (i ∷ []) (instructions_in items));
      order = λ items h none. let both : false ≡ true = sym t ∙ none in absurd cc;
    })
with_told left body item.Remark next e = subst (λ (b : ListingBody). Step body b item.Remark) (ok_is body next e) (record { adds = λ items. refl; order = λ items h none. h none })

record Taken (left : ℕ) (body : ListingBody) (i : Item) (items : List Item) : Type 0 where
  next : ListingBody
  is : with_item left body i ≡ Ok next
  adds : added next items ≡ added body (i ∷ items)
  follows : MayFollow next items

with_read : (left : ℕ) (body : ListingBody) (i : Item) (items : List Item) → MayFollow body (i ∷ items) → Taken left body i items
with_read left body (item.Function f) items h =
    let some : (length (body.functions ++ f ∷ []) == 0) ≡ false = differ (length (body.functions ++ f ∷ [])) 0 (λ e. omega (arith, e, length-append body.functions (f ∷ []))) in
    record {
      next = record { functions = body.functions ++ f ∷ []; instructions = body.instructions };
      is = refl;
      adds = ap (λ (fs : List Function). record { functions = fs; instructions = body.instructions ++ instructions_in items }) (append_assoc body.functions (f ∷ []) (functions_in items));
      follows = λ none. let both : false ≡ true = sym some ∙ none in absurd cc;
    }
with_read left body (item.Instruction i) items h = by (length body.functions == 0) refl
  where
    by : (b : Bool) → (length body.functions == 0) ≡ b → Taken left body (item.Instruction i) items
    by true t = absurd (h t)
    by false t = record {
      next = record { functions = body.functions; instructions = body.instructions ++ i ∷ [] };
      is = rw t refl;
      adds = ap (λ (is : List Instruction). record { functions = body.functions ++ functions_in items; instructions = is }) (append_assoc body.instructions (i ∷ []) (instructions_in items));
      follows = λ none. let both : false ≡ true = sym t ∙ none in absurd cc;
    }
with_read left body item.Remark items h = record { next = body; is = refl; adds = refl; follows = h }

-- ---- all items

added_none : (body : ListingBody) → added body [] ≡ body
added_none body = rw (append-nil body.functions, append-nil body.instructions) refl

record Items (body : ListingBody) (text : List ℕ) (total : ListingBody) : Type 0 where
  items : List Item
  are : InSequence (IsForm IsItemForm) items text
  follow : MayFollow body items
  adds : total ≡ added body items

no_items : (body total : ListingBody) → body ≡ total → Items body [] total
no_items body total e = record { items = []; are = refl; follow = λ none. tt; adds = sym e ∙ sym (added_none body) }

body_zero : (body : ListingBody) (text : List ℕ) → 1 ≤ length text → body_from zero body text ≡ Err (syntax (length text))
unfolding body_from
body_zero body text some = let is : (length text == 0) ≡ false = differ (length text) 0 (λ e. omega (arith, e, some)) in rw is refl

body_more : (n : ℕ) (body : ListingBody) (text : List ℕ) → 1 ≤ length text → body_from (suc n) body text ≡ body_by (body_from n) body text
unfolding body_from
body_more n body text some = let is : (length text == 0) ≡ false = differ (length text) 0 (λ e. omega (arith, e, some)) in rw is refl

body_told : (n : ℕ) (body : ListingBody) (text : List ℕ) (total : ListingBody) → HasNoMargin text → body_from n body text ≡ Ok total → Items body text total
unfolding body_from
body_told zero body [] total h e = no_items body total (ok_is body total e)
body_told zero body (c ∷ cs) total h e = let none = sym (body_zero body (c ∷ cs) (omega arith)) ∙ e in absurd cc (none)
body_told (suc n) body [] total h e = no_items body total (ok_is body total e)
body_told (suc n) body (c ∷ cs) total h e =
    let i = bind_ok (next_form item_of (c ∷ cs)) (λ (item : Item × List ℕ). with_item (length (c ∷ cs)) body item.0 >>= λ next. body_from n next item.1) total (sym (body_more n body (c ∷ cs) (omega arith)) ∙ e) in
    let w = bind_ok (with_item (length (c ∷ cs)) body i.0.0) (λ (next : ListingBody). body_from n next i.0.1) total i.2 in
    let front = next_told IsItemForm item_of item_means (c ∷ cs) i.0 h i.1 in
    let step = with_told (length (c ∷ cs)) body i.0.0 w.0 w.1 in
    let others = body_told n w.0 i.0.1 total front.margin w.2 in
    record {
      items = i.0.0 ∷ others.items;
      are = (front.front, i.0.1, front.parts, front.is, others.are);
      follow = step.order others.items others.follow;
      adds = others.adds ∙ step.adds others.items;
    }

items_margin : (items : List Item) (text : List ℕ) → InSequence (IsForm IsItemForm) items text → HasNoMargin text
items_margin [] text are = subst HasNoMargin (sym are) tt
items_margin (i ∷ items) text (front, rest, parts, is, are) = subst HasNoMargin (sym parts) (form_margin IsItemForm front rest i is)

body_none : (n : ℕ) (body : ListingBody) → body_from n body [] ≡ Ok body
unfolding body_from
body_none zero body = refl
body_none (suc n) body = refl

body_read : (n : ℕ) (body : ListingBody) (items : List Item) (text : List ℕ) → length text ≤ n → InSequence (IsForm IsItemForm) items text → MayFollow body items → body_from n body text ≡ Ok (added body items)
body_read n body [] text few are h = ap (body_from n body) are ∙ body_none n body ∙ ap (λ (b : ListingBody). done b) (sym (added_none body))
body_read zero body (i ∷ items) text few (front, rest, parts, is, are) h = absurd (omega (arith, few, ap length parts, length-append front rest, form_bytes IsItemForm front i is))
body_read (suc n) body (i ∷ items) text few (front, rest, parts, is, are) h =
    let some : 1 ≤ length text = omega (arith, ap length parts, length-append front rest, form_bytes IsItemForm front i is) in
    let fewer : length rest ≤ n = omega (arith, few, ap length parts, length-append front rest, form_bytes IsItemForm front i is) in
    let read : next_form item_of text ≡ Ok (i, rest) = ap (next_form item_of) parts ∙ next_read IsItemForm item_of item_means front rest i is (items_margin items rest are) in
    let taken = with_read (length text) body i items h in
    let step = taken.is in
    body_more n body text some ∙ rw (read, step) (body_read n taken.next items rest fewer are taken.follows ∙ ap (λ (b : ListingBody). done b) taken.adds)

-- ---- the listing

abbrev made : List ℕ → List Signature → ℕ → ListingBody → Listing
made name signatures labels body =
    record { name = name; exports = map (export_by body.functions) signatures; label_count = labels; function_count = length body.functions; instructions = body.instructions }

listing_told : (text : List ℕ) (l : Listing) → HasNoMargin text → listing_at text ≡ Ok l → AreForms text l
unfolding listing_at
listing_told text l h e =
    let m = bind_ok (next_form module_of text) (λ (name : List ℕ × List ℕ). next_form exports_of name.1 >>= λ exports. next_form attributes_of exports.1 >>= λ attributes. next_form labels_of attributes.1 >>= λ labels. body_from (length labels.1) no_body labels.1 >>= λ body. done (made name.0 exports.0 labels.0 body)) l e in
    let x = bind_ok (next_form exports_of m.0.1) (λ (exports : List Signature × List ℕ). next_form attributes_of exports.1 >>= λ attributes. next_form labels_of attributes.1 >>= λ labels. body_from (length labels.1) no_body labels.1 >>= λ body. done (made m.0.0 exports.0 labels.0 body)) l m.2 in
    let a = bind_ok (next_form attributes_of x.0.1) (λ (attributes : List ℕ × List ℕ). next_form labels_of attributes.1 >>= λ labels. body_from (length labels.1) no_body labels.1 >>= λ body. done (made m.0.0 x.0.0 labels.0 body)) l x.2 in
    let n = bind_ok (next_form labels_of a.0.1) (λ (labels : ℕ × List ℕ). body_from (length labels.1) no_body labels.1 >>= λ body. done (made m.0.0 x.0.0 labels.0 body)) l a.2 in
    let b = bind_ok (body_from (length n.0.1) no_body n.0.1) (λ (body : ListingBody). done (made m.0.0 x.0.0 n.0.0 body)) l n.2 in
    let fm = next_told IsModuleForm module_of module_means text m.0 h m.1 in
    let fx = next_told IsExportsForm exports_of exports_means m.0.1 x.0 fm.margin x.1 in
    let fa = next_told IsAttributesForm attributes_of attributes_means x.0.1 a.0 fx.margin a.1 in
    let fn = next_told IsLabelsForm labels_of labels_means a.0.1 n.0 fa.margin n.1 in
    let fb = body_told (length n.0.1) no_body n.0.1 b.0 fn.margin b.1 in
    let stands : AreForms text (made m.0.0 x.0.0 n.0.0 b.0) = record {
      module_text = fm.front;
      exports_text = fx.front;
      attributes_text = fa.front;
      labels_text = fn.front;
      body = n.0.1;
      parts = fm.parts ∙ ap (λ (t : List ℕ). fm.front ++ t) (fx.parts ∙ ap (λ (t : List ℕ). fx.front ++ t) (fa.parts ∙ ap (λ (t : List ℕ). fa.front ++ t) fn.parts));
      is_module = fm.is;
      signatures = x.0.0;
      are_exports = fx.is;
      about = a.0.0;
      are_attributes = fa.is;
      is_count = fn.is;
      items = fb.items;
      are_items = fb.are;
      in_functions = fb.follow refl;
      exports = ap (λ (body : ListingBody). map (export_by body.functions) x.0.0) fb.adds;
      function_count = ap (λ (body : ListingBody). length body.functions) fb.adds;
      instructions = ap (λ (body : ListingBody). body.instructions) fb.adds;
    } in
    subst (λ (k : Listing). AreForms text k) (ok_is (made m.0.0 x.0.0 n.0.0 b.0) l b.2) stands

listing_read : (text : List ℕ) (l : Listing) → AreForms text l → listing_at text ≡ Ok l
unfolding listing_at
listing_read text l s =
    let rn = next_read IsLabelsForm labels_of labels_means s.labels_text s.body l.label_count s.is_count (items_margin s.items s.body s.are_items) in
    let ra = next_read IsAttributesForm attributes_of attributes_means s.attributes_text (s.labels_text ++ s.body) s.about s.are_attributes (form_margin IsLabelsForm s.labels_text s.body l.label_count s.is_count) in
    let rx = next_read IsExportsForm exports_of exports_means s.exports_text (s.attributes_text ++ (s.labels_text ++ s.body)) s.signatures s.are_exports (form_margin IsAttributesForm s.attributes_text (s.labels_text ++ s.body) s.about s.are_attributes) in
    let rm : next_form module_of text ≡ Ok (l.name, s.exports_text ++ (s.attributes_text ++ (s.labels_text ++ s.body))) =
    ap (next_form module_of) s.parts
    ∙ next_read IsModuleForm module_of module_means s.module_text (s.exports_text ++ (s.attributes_text ++ (s.labels_text ++ s.body))) l.name s.is_module (form_margin IsExportsForm s.exports_text (s.attributes_text ++ (s.labels_text ++ s.body)) s.signatures s.are_exports) in
    let rb = body_read (length s.body) no_body s.items s.body (omega arith) s.are_items (λ none. s.in_functions) in
    let exports = sym s.exports in
    let count = sym s.function_count in
    let instructions = sym s.instructions in
    rw (rm, rx, ra, rn, rb, exports, count, instructions) refl

with_line_is : (text : List ℕ) (r : Result Listing ListingFault) (l : Listing) → with_line text r ≡ Ok l → r ≡ Ok l
with_line_is text (Ok k) l e = e
with_line_is text (Err fault) l e = absurd cc

-- a text that is read as a listing has that listing
pub text_told : (text : List ℕ) (l : Listing) → listing_of_text text ≡ Ok l → IsListingText text l
unfolding listing_of_forms
text_told text l e =
    let shown : List ℕ = uncommented text in
    let m = margin shown in
    record {
      blanks = m.blanks;
      forms = after_blanks shown;
      parts = m.parts;
      are_blanks = m.are_blanks;
      are_forms = listing_told (after_blanks shown) l (no_margin shown) (with_line_is shown (listing_at (after_blanks shown)) l e);
    }

-- the listing that a text has is read
pub text_read : (text : List ℕ) (l : Listing) → IsListingText text l → listing_of_text text ≡ Ok l
unfolding listing_of_forms
text_read text l i =
    let shown : List ℕ = uncommented text in
    let f = i.are_forms in
    let begins : HasNoMargin i.forms =
    subst HasNoMargin (sym f.parts) (form_margin IsModuleForm f.module_text (f.exports_text ++ (f.attributes_text ++ (f.labels_text ++ f.body))) l.name f.is_module) in
    let after : after_blanks shown ≡ i.forms = ap after_blanks i.parts ∙ after_margin i.blanks i.forms i.are_blanks begins in
    ap (with_line shown) (ap listing_at after ∙ listing_read i.forms l f)

-- a text has at most one listing
pub one_listing : (text : List ℕ) (l m : Listing) → IsListingText text l → IsListingText text m → l ≡ m
one_listing text l m a b = ok_is l m (sym (text_read text l a) ∙ text_read text m b)
