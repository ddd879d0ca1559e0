-- Forms are read exactly from the text in which they stand.
use Rattle.std.proofs.Common.{◌≡◌, ℕ, ◌≤◌, Bool, true, false, cond, List, [], ◌∷◌, ◌++◌, length, take, drop, Option, Some, None, Result, Ok, Err, refl, sym, ap, subst, ◌∙◌, append_assoc, arith, ◌==◌, eqb-true, take_at, drop_at, take-append-drop, length-take, length-drop, length-append}
use Rattle.std.specs.List.{list_all}
use Rattle.std.proofs.lemmas.Bool.{and_parts}
use Rattle.beam_lemmas.proofs.Steps.{bind_ok}
use Rattle.beam_model.specs.Prelude.{stop_in, ListingFault, syntax, ended_form, form_up_to, listing_form_at, meant, next_form, is_blank, after_blanks}
use Rattle.beam_model.specs.Reading.{◌>>=◌}
use Rattle.beam_listing.specs.Prelude.{HasNoMargin, AreBlanks, IsBalanced, IsForm}
use Rattle.beam_listing.proofs.Balanced.{balanced_told, balanced_read}

-- ---- steps of reading

abbrev pub done : {A : Type 0} → A → Result A ListingFault
done x = Ok x

pub ok_is : {A : Type 0} (x y : A) → done x ≡ done y → x ≡ y
ok_is x y e = cc

-- ---- blanks

pub no_margin : (text : List ℕ) → HasNoMargin (after_blanks text)
unfolding after_blanks
no_margin [] = tt
no_margin (c ∷ cs) = by (is_blank c) refl (no_margin cs)
  where
    by : (b : Bool) → is_blank c ≡ b → HasNoMargin (after_blanks cs) → HasNoMargin (cond b (after_blanks cs) (c ∷ cs))
    by true e others = others
    by false e others = e

pub record Margin (text : List ℕ) : Type 0 where
  pub blanks : List ℕ
  pub parts : text ≡ blanks ++ after_blanks text
  pub are_blanks : AreBlanks blanks

pub margin : (text : List ℕ) → Margin text
unfolding after_blanks
margin [] = record { blanks = []; parts = refl; are_blanks = refl }
margin (c ∷ cs) = by (is_blank c) refl (margin cs)
  where
    by : (b : Bool) → is_blank c ≡ b → Margin cs → Margin (c ∷ cs)
    by true e more =
        record { blanks = c ∷ more.blanks; parts = rw e (ap (λ (t : List ℕ). c ∷ t) more.parts); are_blanks = rw (e, more.are_blanks) refl }
    by false e more = record { blanks = []; parts = rw e refl; are_blanks = refl }

pub after_margin : (blanks rest : List ℕ) → AreBlanks blanks → HasNoMargin rest → after_blanks (blanks ++ rest) ≡ rest
unfolding after_blanks
after_margin [] [] a h = refl
after_margin [] (c ∷ cs) a h = rw h refl
after_margin (c ∷ blanks) rest a h =
    let both = and_parts (is_blank c) (list_all is_blank blanks) a in
    let first = both.0 in
    rw first (after_margin blanks rest both.1 h)

-- ---- a form at the front

record Ended (behind form first rest : List ℕ) : Type 0 where
  more : List ℕ
  stop : behind ≡ 46 ∷ more
  same : first ≡ form
  after : rest ≡ after_blanks more

ended_is : (text form behind first rest : List ℕ) → ended_form text form behind ≡ Ok (first, rest) → Ended behind form first rest
ended_is text form [] first rest e = absurd cc
ended_is text form (c ∷ cs) first rest e = by (c == 46) refl e
  where
    by : (b : Bool) → (c == 46) ≡ b → cond b (done {A = List ℕ × List ℕ} (form, after_blanks cs)) (Err (syntax (length text))) ≡ Ok (first, rest) → Ended (c ∷ cs) form first rest
    by true t f =
        let pair : (form, after_blanks cs) ≡ (first, rest) = ok_is (form, after_blanks cs) (first, rest) f in
        record {
          more = cs;
          stop = ap (λ (k : ℕ). k ∷ cs) (eqb-true c 46 t);
          same = sym (ap (λ (p : List ℕ × List ℕ). p.0) pair);
          after = sym (ap (λ (p : List ℕ × List ℕ). p.1) pair);
        }
    by false t f = absurd cc

record AtFront (text form rest : List ℕ) : Type 0 where
  more : List ℕ
  parts : text ≡ form ++ (46 ∷ more)
  after : rest ≡ after_blanks more
  balanced : IsBalanced 46 form

stopped_is : (text : List ℕ) (o : Option ℕ) (form rest : List ℕ) → stop_in 46 text ≡ o → form_up_to text o ≡ Ok (form, rest) → AtFront text form rest
stopped_is text None form rest s e = absurd cc
stopped_is text (Some size) form rest s e =
    let x = ended_is text (take size text) (drop size text) form rest e in
    let parts : text ≡ form ++ (46 ∷ x.more) =
    sym (take-append-drop size text) ∙ ap (λ (t : List ℕ). take size text ++ t) x.stop ∙ ap (λ (t : List ℕ). t ++ (46 ∷ x.more)) (sym x.same) in
    let count : size ≡ length form = omega (arith, length-take size text, length-drop size text, ap length x.stop, ap length x.same) in
    record {
      more = x.more;
      parts = parts;
      after = x.after;
      balanced = balanced_told 46 form 46 x.more (ap (stop_in 46) (sym parts) ∙ s ∙ ap (λ (k : ℕ). Some k) count);
    }

form_told : (text form rest : List ℕ) → listing_form_at text ≡ Ok (form, rest) → AtFront text form rest
unfolding listing_form_at
form_told text form rest e = stopped_is text (stop_in 46 text) form rest refl e

form_read : (form more : List ℕ) → IsBalanced 46 form → listing_form_at (form ++ (46 ∷ more)) ≡ Ok (form, after_blanks more)
unfolding listing_form_at
form_read form more e =
    let stop = balanced_read 46 form 46 more refl refl e in
    rw (stop, take_at form (46 ∷ more) (length form) refl, drop_at form (46 ∷ more) (length form) refl) refl

-- ---- a form that means something

meant_is : {A : Type 0} (text form : List ℕ) (o : Option A) (x : A) → meant text form o ≡ Ok x → o ≡ Some x
meant_is text form None x e = absurd cc
meant_is text form (Some y) x e = ap (λ z. Some z) (ok_is y x e)

pub begins : (text form more : List ℕ) → HasNoMargin text → text ≡ form ++ more → HasNoMargin form
begins text [] more h e = tt
begins text (d ∷ form) more h e = subst HasNoMargin e h

-- reading a form gives exactly the value that its text has by the definition
pub record Means {A : Type 0} (Says : A → List ℕ → Type 0) (meaning : List ℕ → Option A) : Type 0 where
  pub told : (form : List ℕ) (x : A) → meaning form ≡ Some x → Says x form
  pub read : (form : List ℕ) (x : A) → Says x form → meaning form ≡ Some x

-- a form with a value at the front of a text, and the rest
pub record Front {A : Type 0} (Says : A → List ℕ → Type 0) (text : List ℕ) (x : A) (rest : List ℕ) : Type 0 where
  pub front : List ℕ
  pub parts : text ≡ front ++ rest
  pub is : IsForm Says x front
  pub margin : HasNoMargin rest

front_of : {A : Type 0} (Says : A → List ℕ → Type 0) (text form rest : List ℕ) (x : A) → HasNoMargin text → AtFront text form rest → Says x form → Front Says text x rest
front_of Says text form rest x h t says =
    let m = margin t.more in
    let more : t.more ≡ m.blanks ++ rest = m.parts ∙ ap (λ (u : List ℕ). m.blanks ++ u) (sym t.after) in
    record {
      front = form ++ (46 ∷ m.blanks);
      parts = t.parts ∙ ap (λ (u : List ℕ). form ++ (46 ∷ u)) more ∙ sym (append_assoc form (46 ∷ m.blanks) rest);
      is = record { form = form; blanks = m.blanks; parts = refl; begins = begins text form (46 ∷ t.more) h t.parts; balanced = t.balanced; are_blanks = m.are_blanks; says = says };
      margin = subst HasNoMargin (sym t.after) (no_margin t.more);
    }

pub next_told : {A : Type 0} (Says : A → List ℕ → Type 0) (meaning : List ℕ → Option A) → Means Says meaning → (text : List ℕ) (p : A × List ℕ) → HasNoMargin text
    → next_form meaning text ≡ Ok p → Front Says text p.0 p.1
unfolding next_form
next_told Says meaning law [] p h e = absurd cc
next_told {A = A} Says meaning law (c ∷ cs) p h e =
    let f = bind_ok (listing_form_at (c ∷ cs)) (λ (form : List ℕ × List ℕ). meant (c ∷ cs) form.0 (meaning form.0) >>= λ x. done (x, form.1)) p e in
    let m = bind_ok (meant (c ∷ cs) f.0.0 (meaning f.0.0)) (λ (x : A). done (x, f.0.1)) p f.2 in
    let says = law.told f.0.0 m.0 (meant_is (c ∷ cs) f.0.0 (meaning f.0.0) m.0 m.1) in
    let front = front_of Says (c ∷ cs) f.0.0 f.0.1 m.0 h (form_told (c ∷ cs) f.0.0 f.0.1 f.1) says in
    subst (λ (q : A × List ℕ). Front Says (c ∷ cs) q.0 q.1) (ok_is (m.0, f.0.1) p m.2) front

next_is : {A : Type 0} (meaning : List ℕ → Option A) (c : ℕ) (cs form rest : List ℕ) (x : A) → listing_form_at (c ∷ cs) ≡ Ok (form, rest) → meaning form ≡ Some x → next_form meaning (c ∷ cs) ≡ Ok (x, rest)
unfolding next_form
next_is meaning c cs form rest x e m = rw (e, m) refl

next_by : {A : Type 0} (meaning : List ℕ → Option A) (form more rest : List ℕ) (x : A) → listing_form_at (form ++ (46 ∷ more)) ≡ Ok (form, rest) → meaning form ≡ Some x
    → next_form meaning (form ++ (46 ∷ more)) ≡ Ok (x, rest)
next_by meaning [] more rest x e m = next_is meaning 46 more [] rest x e m
next_by meaning (c ∷ form) more rest x e m = next_is meaning c (form ++ (46 ∷ more)) (c ∷ form) rest x e m

pub next_read : {A : Type 0} (Says : A → List ℕ → Type 0) (meaning : List ℕ → Option A) → Means Says meaning → (front rest : List ℕ) (x : A) → IsForm Says x front → HasNoMargin rest
    → next_form meaning (front ++ rest) ≡ Ok (x, rest)
next_read Says meaning law front rest x is h =
    let parts : front ++ rest ≡ is.form ++ (46 ∷ (is.blanks ++ rest)) = ap (λ (t : List ℕ). t ++ rest) is.parts ∙ append_assoc is.form (46 ∷ is.blanks) rest in
    let read : listing_form_at (is.form ++ (46 ∷ (is.blanks ++ rest))) ≡ Ok (is.form, rest) =
    form_read is.form (is.blanks ++ rest) is.balanced ∙ ap (λ (t : List ℕ). done (is.form, t)) (after_margin is.blanks rest is.are_blanks h) in
    ap (next_form meaning) parts ∙ next_by meaning is.form (is.blanks ++ rest) rest x read (law.read is.form x is.says)

stops_margin : (form more : List ℕ) → HasNoMargin form → HasNoMargin (form ++ (46 ∷ more))
stops_margin [] more h = refl
stops_margin (c ∷ form) more h = h

-- a form begins with no blank, and has a byte at least
pub form_margin : {A : Type 0} (Says : A → List ℕ → Type 0) (front rest : List ℕ) (x : A) → IsForm Says x front → HasNoMargin (front ++ rest)
form_margin Says front rest x is =
    let parts : front ++ rest ≡ is.form ++ (46 ∷ (is.blanks ++ rest)) = ap (λ (t : List ℕ). t ++ rest) is.parts ∙ append_assoc is.form (46 ∷ is.blanks) rest in
    subst HasNoMargin (sym parts) (stops_margin is.form (is.blanks ++ rest) is.begins)

pub form_bytes : {A : Type 0} (Says : A → List ℕ → Type 0) (front : List ℕ) (x : A) → IsForm Says x front → 1 ≤ length front
form_bytes Says front x is = omega (arith, ap length is.parts, length-append is.form (46 ∷ is.blanks))
