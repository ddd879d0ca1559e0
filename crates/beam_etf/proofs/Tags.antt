-- The tag of each form.
use Rattle.std.proofs.Common.{◌≡◌, ◌≢◌, ℕ, Bool, true, false, cond, eqb, refl, sym, subst, ◌∙◌, eqb-true, eq-eqb}
use Rattle.beam_model.specs.Prelude.{is_left_out, IsUnknown, form_of}
use Rattle.beam_model.specs.declared.external.Form.{Form}
use Rattle.beam_model.specs.declared.external.Form.TheVariants as forms

-- the tag of each form, and what is known of a tag that is none
abbrev pub Tagged : Form → ℕ → Type 0
Tagged forms.SmallInteger tag = tag ≡ 97
Tagged forms.Integer tag = tag ≡ 98
Tagged forms.SmallBig tag = tag ≡ 110
Tagged forms.Nil tag = tag ≡ 106
Tagged forms.String tag = tag ≡ 107
Tagged forms.List tag = tag ≡ 108
Tagged forms.SmallTuple tag = tag ≡ 104
Tagged forms.LargeTuple tag = tag ≡ 105
Tagged forms.SmallAtom tag = tag ≡ 119
Tagged forms.LongAtom tag = tag ≡ 118
Tagged forms.Pid tag = tag ≡ 88
Tagged forms.Reference tag = tag ≡ 90
Tagged forms.LeftOut tag = is_left_out tag ≡ true
Tagged forms.Unknown tag = IsUnknown tag

choose : (tag k : ℕ) (f g : Form) → (tag ≡ k → Tagged f tag) → (tag ≢ k → Tagged g tag) → (b : Bool) → eqb tag k ≡ b → Tagged (cond b f g) tag
choose tag k f g h rest true e = h (eqb-true tag k e)
choose tag k f g h rest false e = rest (λ is. let both = sym e ∙ eq-eqb tag k is in cc)

pub tagged : (tag : ℕ) → Tagged (form_of tag) tag
unfolding form_of
tagged tag =
    choose tag 97 forms.SmallInteger _ (λ e. e) (λ n0.
    choose tag 98 forms.Integer _ (λ e. e) (λ n1.
    choose tag 110 forms.SmallBig _ (λ e. e) (λ n2.
    choose tag 106 forms.Nil _ (λ e. e) (λ n3.
    choose tag 107 forms.String _ (λ e. e) (λ n4.
    choose tag 108 forms.List _ (λ e. e) (λ n5.
    choose tag 104 forms.SmallTuple _ (λ e. e) (λ n6.
    choose tag 105 forms.LargeTuple _ (λ e. e) (λ n7.
    choose tag 119 forms.SmallAtom _ (λ e. e) (λ n8.
    choose tag 118 forms.LongAtom _ (λ e. e) (λ n9.
    choose tag 88 forms.Pid _ (λ e. e) (λ n10.
    choose tag 90 forms.Reference _ (λ e. e) (λ n11. last n0 n1 n2 n3 n4 n5 n6 n7 n8 n9 n10 n11 (is_left_out tag) refl)
    (eqb tag 90) refl) (eqb tag 88) refl) (eqb tag 118) refl) (eqb tag 119) refl) (eqb tag 105) refl) (eqb tag 104) refl) (eqb tag 108) refl) (eqb tag 107) refl) (eqb tag 106) refl) (eqb tag 110) refl) (eqb tag 98) refl) (eqb tag 97) refl
  where
    last : tag ≢ 97 → tag ≢ 98 → tag ≢ 110 → tag ≢ 106 → tag ≢ 107 → tag ≢ 108 → tag ≢ 104 → tag ≢ 105 → tag ≢ 119 → tag ≢ 118 → tag ≢ 88 → tag ≢ 90
        → (b : Bool) → is_left_out tag ≡ b → Tagged (cond b forms.LeftOut forms.Unknown) tag
    last n0 n1 n2 n3 n4 n5 n6 n7 n8 n9 n10 n11 true e = e
    last n0 n1 n2 n3 n4 n5 n6 n7 n8 n9 n10 n11 false e = record {
      small_integer = n0;
      integer = n1;
      small_big = n2;
      nil = n3;
      string = n4;
      list = n5;
      small_tuple = n6;
      large_tuple = n7;
      small_atom = n8;
      atom = n9;
      pid = n10;
      reference = n11;
      left_out = e;
    }

pub tag_is : (tag : ℕ) (form : Form) → form_of tag ≡ form → Tagged form tag
tag_is tag form e = subst (λ (f : Form). Tagged f tag) e (tagged tag)
