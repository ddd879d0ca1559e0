-- Reading a form gives the contents that its chunks spell.
use Rattle.std.proofs.Common.{◌≡◌, inl, inr, ℕ, ◌+◌, ◌-◌, ◌≤◌, Bool, true, false, ltb, List, [], ◌∷◌, ◌++◌, length, take, drop, codes, Option, Some, None, Result, Ok, refl, sym, ap, subst, ◌∙◌, arith, ltb-false, le-ltb, append-nil, take_at, drop_at, drop-drop, take-append-drop, length-take, length-drop, length-append}
use Rattle.std.specs.Str.{bytes_eq}
use Rattle.std.specs.Option.{option_to_list}
use Rattle.std.proofs.lemmas.Bool.{cases_lt}
use Rattle.std.proofs.lemmas.List.{drop_all}
use Rattle.beam_lemmas.proofs.Steps.{guard_false}
use Rattle.byteorder.specs.Endian.{big_number}
use Rattle.beam_model.specs.Prelude.{FormFault, Chunk, size_at, padded, chunk_at, chunk_takes, IsChunk, IsPadding, contents_of, Form}
use Rattle.beam_model.specs.Form.{truncated}

-- ---- steps of reading

abbrev done : {A : Type 0} → A → Result A FormFault
done x = Ok x

pub ok_is : {A : Type 0} (x y : A) → done x ≡ done y → x ≡ y
ok_is x y e = cc

-- ---- four bytes

pub record Four (xs : List ℕ) : Type 0 where
  pub a : ℕ
  pub b : ℕ
  pub c : ℕ
  pub d : ℕ
  pub is : xs ≡ a ∷ b ∷ c ∷ d ∷ []

pub four : (xs : List ℕ) → length xs ≡ 4 → Four xs
four [] e = absurd (omega arith)
four (a ∷ []) e = absurd (omega arith)
four (a ∷ b ∷ []) e = absurd (omega arith)
four (a ∷ b ∷ c ∷ []) e = absurd (omega arith)
four (a ∷ b ∷ c ∷ d ∷ []) e = record { a = a; b = b; c = c; d = d; is = refl }
four (a ∷ b ∷ c ∷ d ∷ x ∷ xs) e = absurd (omega arith)

-- ---- a chunk at the front

pub record Front (chunk : Chunk) (rest bytes : List ℕ) : Type 0 where
  pub front : List ℕ
  pub padding : List ℕ
  pub parts : bytes ≡ front ++ (padding ++ rest)
  pub is_chunk : IsChunk chunk front
  pub is_padding : IsPadding (length chunk.content) padding rest

padded-le : (n : ℕ) → n ≤ padded n
padded-le n = omega arith

padding_told : (n : ℕ) (more : List ℕ) → n ≤ length more → IsPadding (length (take n more)) (take (padded n - n) (drop n more)) (drop (padded n) more)
padding_told n more within =
    let size : length (take n more) ≡ n = omega (arith, length-take n more, within) in
    let le = padded-le n in
    elim (cases_lt (length more) (padded n)) [
      | inl short ↦ inr (
        omega (arith, size, le, short, length-take (padded n - n) (drop n more), length-drop n more),
        drop_all (padded n) more (omega (arith, short)),
      )
      | inr long ↦ inl (omega (arith, size, le, long, length-take (padded n - n) (drop n more), length-drop n more))
    ]

parted : (n : ℕ) (more : List ℕ) → more ≡ take n more ++ (take (padded n - n) (drop n more) ++ drop (padded n) more)
parted n more =
    let p : ℕ = padded n - n in
    let rest : drop p (drop n more) ≡ drop (padded n) more = drop-drop p n more ∙ ap (λ (k : ℕ). drop k more) (omega (arith, padded-le n)) in
    sym (take-append-drop n more)
    ∙ ap (λ (t : List ℕ). take n more ++ t) (sym (take-append-drop p (drop n more)))
    ∙ ap (λ (t : List ℕ). take n more ++ (take p (drop n more) ++ t)) rest

front_at : (a b c d e f g h : ℕ) (more : List ℕ) (n : ℕ) → n ≡ big_number 4 (e ∷ f ∷ g ∷ h ∷ []) → n ≤ length more
    → Front (record { name = a ∷ b ∷ c ∷ d ∷ []; content = take n more }) (drop (padded n) more) (a ∷ b ∷ c ∷ d ∷ e ∷ f ∷ g ∷ h ∷ more)
front_at a b c d e f g h more n value within = record {
  front = a ∷ b ∷ c ∷ d ∷ e ∷ f ∷ g ∷ h ∷ take n more;
  padding = take (padded n - n) (drop n more);
  parts = ap (λ (t : List ℕ). a ∷ b ∷ c ∷ d ∷ e ∷ f ∷ g ∷ h ∷ t) (parted n more);
  is_chunk = record {
    size = e ∷ f ∷ g ∷ h ∷ [];
    parts = refl;
    named = refl;
    is_size = record { wide = refl; value = omega (arith, length-take n more, within, value) };
  };
  is_padding = padding_told n more within;
}

pub chunk_told : (bytes rest : List ℕ) (chunk : Chunk) → chunk_at bytes ≡ Ok (chunk, rest) → Front chunk rest bytes
unfolding chunk_at
chunk_told (a ∷ b ∷ c ∷ d ∷ e ∷ f ∷ g ∷ h ∷ more) rest chunk is =
    let bytes : List ℕ = a ∷ b ∷ c ∷ d ∷ e ∷ f ∷ g ∷ h ∷ more in
    let first = guard_false (ltb (length bytes) 8) truncated _ (chunk, rest) is in
    let second = guard_false (ltb (length bytes) (8 + size_at bytes)) truncated _ (chunk, rest) first.1 in
    let both = ok_is _ (chunk, rest) second.1 in
    let within : 8 + size_at bytes ≤ length bytes = ltb-false _ _ second.0 in
    let front = front_at a b c d e f g h more (size_at bytes) refl (omega (arith, within)) in
    subst (λ (p : Chunk × List ℕ). Front p.0 p.1 bytes) both front
chunk_told [] rest chunk is = absurd (omega (arith, chunk_takes [] rest chunk is))
chunk_told (a ∷ []) rest chunk is = absurd (omega (arith, chunk_takes (a ∷ []) rest chunk is))
chunk_told (a ∷ b ∷ []) rest chunk is = absurd (omega (arith, chunk_takes (a ∷ b ∷ []) rest chunk is))
chunk_told (a ∷ b ∷ c ∷ []) rest chunk is = absurd (omega (arith, chunk_takes (a ∷ b ∷ c ∷ []) rest chunk is))
chunk_told (a ∷ b ∷ c ∷ d ∷ []) rest chunk is = absurd (omega (arith, chunk_takes (a ∷ b ∷ c ∷ d ∷ []) rest chunk is))
chunk_told (a ∷ b ∷ c ∷ d ∷ e ∷ []) rest chunk is = absurd (omega (arith, chunk_takes (a ∷ b ∷ c ∷ d ∷ e ∷ []) rest chunk is))
chunk_told (a ∷ b ∷ c ∷ d ∷ e ∷ f ∷ []) rest chunk is = absurd (omega (arith, chunk_takes (a ∷ b ∷ c ∷ d ∷ e ∷ f ∷ []) rest chunk is))
chunk_told (a ∷ b ∷ c ∷ d ∷ e ∷ f ∷ g ∷ []) rest chunk is = absurd (omega (arith, chunk_takes (a ∷ b ∷ c ∷ d ∷ e ∷ f ∷ g ∷ []) rest chunk is))

-- the rest after padding
padding_passed : (content padding rest : List ℕ) → IsPadding (length content) padding rest → drop (padded (length content)) (content ++ (padding ++ rest)) ≡ rest
padding_passed content padding rest (inl full) =
    drop-drop-seam
  where
    drop-drop-seam : drop (padded (length content)) (content ++ (padding ++ rest)) ≡ rest
    drop-drop-seam =
        ap (λ (k : ℕ). drop k (content ++ (padding ++ rest))) (sym full)
        ∙ sym (drop-drop (length padding) (length content) (content ++ (padding ++ rest)))
        ∙ ap (drop (length padding)) (drop_at content (padding ++ rest) (length content) refl)
        ∙ drop_at padding rest (length padding) refl
padding_passed content padding rest (inr short) =
    let none : padding ++ rest ≡ padding = ap (λ (t : List ℕ). padding ++ t) short.1 ∙ append-nil padding in
    ap (λ (t : List ℕ). drop (padded (length content)) (content ++ t)) none
    ∙ drop_all (padded (length content)) (content ++ padding) (omega (arith, short.0, length-append content padding))
    ∙ sym short.1

chunk_of : (a b c d e f g h : ℕ) (content padding rest : List ℕ) → length content ≡ big_number 4 (e ∷ f ∷ g ∷ h ∷ []) → IsPadding (length content) padding rest
    → chunk_at (a ∷ b ∷ c ∷ d ∷ e ∷ f ∷ g ∷ h ∷ (content ++ (padding ++ rest))) ≡ Ok (record { name = a ∷ b ∷ c ∷ d ∷ []; content = content }, rest)
unfolding chunk_at
chunk_of a b c d e f g h content padding rest value is =
    let bytes : List ℕ = a ∷ b ∷ c ∷ d ∷ e ∷ f ∷ g ∷ h ∷ (content ++ (padding ++ rest)) in
    let n : ℕ = big_number 4 (e ∷ f ∷ g ∷ h ∷ []) in
    let t0 : ltb (length bytes) 8 ≡ false = le-ltb _ _ (omega arith) in
    let t1 : ltb (length bytes) (8 + n) ≡ false = le-ltb _ _ (omega (arith, value, length-append content (padding ++ rest))) in
    let inner : take n (content ++ (padding ++ rest)) ≡ content = take_at content (padding ++ rest) n value in
    let after : drop (padded n) (content ++ (padding ++ rest)) ≡ rest = ap (λ (k : ℕ). drop (padded k) (content ++ (padding ++ rest))) (sym value) ∙ padding_passed content padding rest is in
    rw (t0, t1, inner, after) refl

pub chunk_read : (chunk : Chunk) (front padding rest : List ℕ) → IsChunk chunk front → IsPadding (length chunk.content) padding rest → chunk_at (front ++ (padding ++ rest)) ≡ Ok (chunk, rest)
chunk_read chunk front padding rest is pads =
    let name = four chunk.name is.named in
    let size = four is.size is.is_size.wide in
    let value : length chunk.content ≡ big_number 4 (size.a ∷ size.b ∷ size.c ∷ size.d ∷ []) = is.is_size.value ∙ ap (big_number 4) size.is in
    let whole : chunk.name ++ (is.size ++ chunk.content) ≡ (name.a ∷ name.b ∷ name.c ∷ name.d ∷ []) ++ ((size.a ∷ size.b ∷ size.c ∷ size.d ∷ []) ++ chunk.content) =
    ap (λ (t : List ℕ). t ++ (is.size ++ chunk.content)) name.is ∙ ap (λ (t : List ℕ). (name.a ∷ name.b ∷ name.c ∷ name.d ∷ []) ++ (t ++ chunk.content)) size.is in
    ap (λ (t : List ℕ). chunk_at (t ++ (padding ++ rest))) (is.parts ∙ whole)
    ∙ chunk_of name.a name.b name.c name.d size.a size.b size.c size.d chunk.content padding rest value pads
    ∙ ap (λ (t : List ℕ). done (record { name = t; content = chunk.content }, rest)) (sym name.is)

-- ---- the contents of a name

abbrev pub Added : Option (List ℕ) → Option (List ℕ) → List (List ℕ) → Type 0
Added old new contents = option_to_list old ++ contents ≡ option_to_list new

-- a form, and one with these chunks more
pub record Adds (form total : Form) (chunks : List Chunk) : Type 0 where
  pub atoms : Added form.atoms total.atoms (contents_of (codes "AtU8") chunks)
  pub code : Added form.code total.code (contents_of (codes "Code") chunks)
  pub imports : Added form.imports total.imports (contents_of (codes "ImpT") chunks)
  pub exports : Added form.exports total.exports (contents_of (codes "ExpT") chunks)
  pub literals : Added form.literals total.literals (contents_of (codes "LitT") chunks)

-- the content of a chunk that has the name, and of one that hasn't
abbrev pub contents_by : Bool → Chunk → List (List ℕ) → List (List ℕ)
contents_by true chunk rest = chunk.content ∷ rest
contents_by false chunk rest = rest

pub contents_more : (name : List ℕ) (chunk : Chunk) (chunks : List Chunk) → contents_of name (chunk ∷ chunks) ≡ contents_by (bytes_eq chunk.name name) chunk (contents_of name chunks)
contents_more name chunk chunks = by (bytes_eq chunk.name name) refl
  where
    by : (b : Bool) → bytes_eq chunk.name name ≡ b → contents_of name (chunk ∷ chunks) ≡ contents_by b chunk (contents_of name chunks)
    by true e = rw e refl
    by false e = rw e refl

-- one chunk, and then others
pub added_on : (old mid new : Option (List ℕ)) (name : List ℕ) (chunk : Chunk) (chunks : List Chunk)
    → Added old mid (contents_by (bytes_eq chunk.name name) chunk []) → Added mid new (contents_of name chunks) → Added old new (contents_of name (chunk ∷ chunks))
added_on old mid new name chunk chunks first others =
    ap (λ (t : List (List ℕ)). option_to_list old ++ t) (contents_more name chunk chunks)
    ∙ by (bytes_eq chunk.name name) first
    ∙ others
  where
    by : (b : Bool) → Added old mid (contents_by b chunk []) → option_to_list old ++ contents_by b chunk (contents_of name chunks) ≡ option_to_list mid ++ contents_of name chunks
    by true f = pushed old mid f
      where
        pushed : (o p : Option (List ℕ)) → option_to_list o ++ (chunk.content ∷ []) ≡ option_to_list p → option_to_list o ++ (chunk.content ∷ contents_of name chunks) ≡ option_to_list p ++ contents_of name chunks
        pushed None p e = ap (λ (t : List (List ℕ)). t ++ contents_of name chunks) e
        pushed (Some x) p e = ap (λ (t : List (List ℕ)). t ++ contents_of name chunks) e
    by false f = ap (λ (t : List (List ℕ)). t ++ contents_of name chunks) (sym (append-nil (option_to_list old)) ∙ f)
