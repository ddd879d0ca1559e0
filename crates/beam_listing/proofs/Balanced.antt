-- The text before the first mark outside of quotes and brackets is balanced.
use Rattle.std.proofs.Common.{◌≡◌, ◌≢◌, inl, inr, ℕ, ◌+◌, ◌≤◌, Bool, true, false, cond, List, [], ◌∷◌, ◌++◌, length, Option, Some, None, refl, sym, ap, subst, ◌∙◌, append_assoc, arith, IsFalse, ◌==◌, ◌||◌, eqb-true, length-append}
use Rattle.std.specs.List.{list_all, list_any}
use Rattle.std.proofs.lemmas.Bool.{and_parts, or_parts}
use Rattle.std.proofs.lemmas.Option.{same_Some}
use Rattle.beam_erltext.proofs.Texts.{differ}
use Rattle.beam_model.specs.declared.lex_state.LexState.{LexState}
use Rattle.beam_model.specs.Prelude.{inside_after, is_closing, closed, open_after, is_stop, stop_from, stop_in}
use Rattle.beam_model.specs.declared.lex_state.LexState.TheVariants as inside
use Rattle.beam_model.specs.Forms.{◌>>=◌}
use Rattle.beam_listing.specs.Prelude.{IsQuote, IsQuoted, no_byte, one_byte, escape, ArePair, round_pair, square_pair, brace_pair, IsPlain, IsBalanced, empty, plain, quoted, bracketed, commented}

-- ---- bytes

-- each byte is of one kind
data Class (c : ℕ) : Type 0 where
  percent : c ≡ 37 → Class c
  quote : IsQuote c → Class c
  opening : (close : ℕ) → ArePair c close → Class c
  closing : is_closing c ≡ true → inside_after inside.Nothing c ≡ inside.Nothing → ((d : List ℕ) → open_after inside.Nothing c d ≡ closed c d) → Class c
  other : IsPlain c → Class c

pair_of : (c first close : ℕ) → c ≡ first → ArePair first close → Class c
pair_of c first close e pair = opening close (subst (λ (x : ℕ). ArePair x close) (sym e) pair)

closing_of : (c close : ℕ) → c ≡ close → Class close → Class c
closing_of c close e is = subst Class (sym e) is

class_of : (c : ℕ) → Class c
class_of c = by (c == 34) (c == 37) (c == 39) (c == 40) (c == 41) (c == 91) (c == 93) (c == 123) (c == 125) refl refl refl refl refl refl refl refl refl
  where
    by : (p q r s t u v w x : Bool) → (c == 34) ≡ p → (c == 37) ≡ q → (c == 39) ≡ r → (c == 40) ≡ s → (c == 41) ≡ t → (c == 91) ≡ u → (c == 93) ≡ v → (c == 123) ≡ w → (c == 125) ≡ x → Class c
    by true q r s t u v w x a b d e f g h i j = quote (inl (eqb-true c 34 a))
    by false true r s t u v w x a b d e f g h i j = percent (eqb-true c 37 b)
    by false false true s t u v w x a b d e f g h i j = quote (inr (eqb-true c 39 d))
    by false false false true t u v w x a b d e f g h i j = pair_of c 40 41 (eqb-true c 40 e) round_pair
    by false false false false true u v w x a b d e f g h i j = closing_of c 41 (eqb-true c 41 f) (closing refl refl (λ z. refl))
    by false false false false false true v w x a b d e f g h i j = pair_of c 91 93 (eqb-true c 91 g) square_pair
    by false false false false false false true w x a b d e f g h i j = closing_of c 93 (eqb-true c 93 h) (closing refl refl (λ z. refl))
    by false false false false false false false true x a b d e f g h i j = pair_of c 123 125 (eqb-true c 123 i) brace_pair
    by false false false false false false false false true a b d e f g h i j = closing_of c 125 (eqb-true c 125 j) (closing refl refl (λ z. refl))
    by false false false false false false false false false a b d e f g h i j = other (rw (a, b, d, e, f, g, h, i, j) refl)

record PlainByte (c : ℕ) : Type 0 where
  stays : inside_after inside.Nothing c ≡ inside.Nothing
  opens : (d : List ℕ) → open_after inside.Nothing c d ≡ Some d
  ends : is_closing c ≡ false

plain_byte : (c : ℕ) → IsPlain c → PlainByte c
plain_byte c p = by (c == 34) (c == 37) (c == 39) (c == 40) (c == 41) (c == 91) (c == 93) (c == 123) (c == 125) refl refl refl refl refl refl refl refl refl p
  where
    by : (p q r s t u v w x : Bool) → (c == 34) ≡ p → (c == 37) ≡ q → (c == 39) ≡ r → (c == 40) ≡ s → (c == 41) ≡ t → (c == 91) ≡ u → (c == 93) ≡ v → (c == 123) ≡ w → (c == 125) ≡ x
        → IsFalse (p || (q || (r || (s || (t || (u || (v || (w || (x || false))))))))) → PlainByte c
    by false false false false false false false false false a b d e f g h i j z = record { stays = rw (b, a, d) refl; opens = λ k. rw (e, g, i, f, h, j) refl; ends = rw (f, h, j) refl }
    by _ _ _ _ _ _ _ _ _ a b d e f g h i j z = absurd cc

record Pair (opening close : ℕ) : Type 0 where
  stays : inside_after inside.Nothing opening ≡ inside.Nothing
  opens : (d : List ℕ) → open_after inside.Nothing opening d ≡ Some (close ∷ d)
  goes_on : is_closing opening ≡ false
  marked : IsPlain opening → ⊥
  ends : is_closing close ≡ true
  stays_closed : inside_after inside.Nothing close ≡ inside.Nothing
  closes : (d : List ℕ) → open_after inside.Nothing close (close ∷ d) ≡ Some d

pair_is : (opening close : ℕ) → ArePair opening close → Pair opening close
pair_is _ _ round_pair = record { stays = refl; opens = λ d. refl; goes_on = refl; marked = λ p. absurd cc; ends = refl; stays_closed = refl; closes = λ d. refl }
pair_is _ _ square_pair = record { stays = refl; opens = λ d. refl; goes_on = refl; marked = λ p. absurd cc; ends = refl; stays_closed = refl; closes = λ d. refl }
pair_is _ _ brace_pair = record { stays = refl; opens = λ d. refl; goes_on = refl; marked = λ p. absurd cc; ends = refl; stays_closed = refl; closes = λ d. refl }

-- ---- balanced text is passed over

step : (mark : ℕ) (s : LexState) (d : List ℕ) (n c : ℕ) (cs : List ℕ) (t : LexState) (inner : List ℕ) → is_stop mark s d c ≡ false → inside_after s c ≡ t → open_after s c d ≡ Some inner
    → stop_from mark s d n (c ∷ cs) ≡ stop_from mark t inner (n + 1) cs
unfolding stop_from
step mark s d n c cs t inner a b e = rw (a, b, e) refl

-- within brackets no byte is a stop, outside of them none but the mark and closing brackets
abbrev Passes : ℕ → List ℕ → ℕ → Type 0
Passes mark d m = (c : ℕ) → c ≢ m → is_closing c ≡ false → is_stop mark inside.Nothing d c ≡ false

passes_outside : (mark : ℕ) → Passes mark [] mark
passes_outside mark c m k = rw (differ c mark m, k) refl

within_none : (mark o : ℕ) (d : List ℕ) (c : ℕ) → is_stop mark inside.Nothing (o ∷ d) c ≡ false
within_none mark o d c = rw (differ (length (o ∷ d)) 0 (λ e. omega (arith, e))) refl

passes_plain : (mark : ℕ) (d : List ℕ) (m c : ℕ) → Passes mark d m → IsPlain m → (IsPlain c → ⊥) → is_closing c ≡ false → is_stop mark inside.Nothing d c ≡ false
passes_plain mark d m c passes p none k = passes c (λ e. none (subst IsPlain (sym e) p)) k

quote_inside : (q : ℕ) → IsQuote q → inside_after inside.Nothing q ≡ inside.Quotes q
quote_inside q (inl e) = rw e refl
quote_inside q (inr e) = rw e refl

quote_open : (q : ℕ) (d : List ℕ) → IsQuote q → open_after inside.Nothing q d ≡ Some d
quote_open q d (inl e) = rw e refl
quote_open q d (inr e) = rw e refl

quote_goes_on : (q : ℕ) → IsQuote q → is_closing q ≡ false
quote_goes_on q (inl e) = rw e refl
quote_goes_on q (inr e) = rw e refl

quote_marked : (q : ℕ) → IsQuote q → IsPlain q → ⊥
quote_marked q (inl e) p = let bad : IsPlain 34 = subst IsPlain e p in absurd cc
quote_marked q (inr e) p = let bad : IsPlain 39 = subst IsPlain e p in absurd cc

quote_escapes : (q : ℕ) → IsQuote q → inside_after (inside.Quotes q) 92 ≡ inside.Escape q
quote_escapes q (inl e) = rw e refl
quote_escapes q (inr e) = rw e refl

quote_ends : (q : ℕ) → inside_after (inside.Quotes q) q ≡ inside.Nothing
quote_ends q = let same : (q == q) ≡ true = grind arith in rw same refl

quoted_byte : (q c : ℕ) → c ≢ q → c ≢ 92 → inside_after (inside.Quotes q) c ≡ inside.Quotes q
quoted_byte q c a b = rw (differ c q a, differ c 92 b) refl

-- a quoted piece is passed over, up to its closing quote
quoted_skip : (mark : ℕ) (d : List ℕ) (q : ℕ) (text : List ℕ) → IsQuote q → IsQuoted q text → (n : ℕ) (rest : List ℕ)
    → stop_from mark (inside.Quotes q) d n (text ++ rest) ≡ stop_from mark (inside.Quotes q) d (n + length text) rest
quoted_skip mark d q _ i (no_byte _) n rest = ap (λ (k : ℕ). stop_from mark (inside.Quotes q) d k rest) (omega arith)
quoted_skip mark d q _ i (one_byte _ c cs a b more) n rest =
    step mark (inside.Quotes q) d n c (cs ++ rest) (inside.Quotes q) d refl (quoted_byte q c a b) refl
    ∙ quoted_skip mark d q cs i more (n + 1) rest ∙ ap (λ (k : ℕ). stop_from mark (inside.Quotes q) d k rest) (omega arith)
quoted_skip mark d q _ i (escape _ c cs more) n rest =
    step mark (inside.Quotes q) d n 92 (c ∷ (cs ++ rest)) (inside.Escape q) d refl (quote_escapes q i) refl
    ∙ step mark (inside.Escape q) d (n + 1) c (cs ++ rest) (inside.Quotes q) d refl refl refl
    ∙ quoted_skip mark d q cs i more (n + 1 + 1) rest ∙ ap (λ (k : ℕ). stop_from mark (inside.Quotes q) d k rest) (omega arith)

no_test : (a b : ℕ) → (a == b) ≡ false → a ≢ b
no_test a b e same = let bad : (a == b) ≡ true = rw same (grind arith) in let both : true ≡ false = sym bad ∙ e in absurd cc (both)

-- a comment is passed over, up to the line's end
comment_skip : (mark : ℕ) (d text : List ℕ) → list_any (λ c. c == 10) text ≡ false → (n : ℕ) (rest : List ℕ)
    → stop_from mark inside.Comment d n (text ++ rest) ≡ stop_from mark inside.Comment d (n + length text) rest
comment_skip mark d [] e n rest = ap (λ (k : ℕ). stop_from mark inside.Comment d k rest) (omega arith)
comment_skip mark d (c ∷ cs) e n rest =
    let both = or_parts (c == 10) (list_any (λ c. c == 10) cs) e in
    step mark inside.Comment d n c (cs ++ rest) inside.Comment d refl (let first = both.0 in rw first refl) refl
    ∙ comment_skip mark d cs both.1 (n + 1) rest ∙ ap (λ (k : ℕ). stop_from mark inside.Comment d k rest) (omega arith)

piece_long : (n a b : ℕ) (inner rest : List ℕ) → (n + 1 + length inner + 1) + length rest ≡ n + length (a ∷ (inner ++ (b ∷ rest)))
piece_long n a b inner rest = omega (arith, length-append inner (b ∷ rest))

skip : (mark : ℕ) (d : List ℕ) (m : ℕ) (text : List ℕ) → Passes mark d m → ((c : ℕ) → (IsPlain c → ⊥) → is_closing c ≡ false → is_stop mark inside.Nothing d c ≡ false) → IsBalanced m text
    → (n : ℕ) (rest : List ℕ) → stop_from mark inside.Nothing d n (text ++ rest) ≡ stop_from mark inside.Nothing d (n + length text) rest
skip mark d m _ passes marked (empty _) n rest = ap (λ (k : ℕ). stop_from mark inside.Nothing d k rest) (omega arith)
skip mark d m _ passes marked (plain _ c cs p differs more) n rest =
    let byte = plain_byte c p in
    step mark inside.Nothing d n c (cs ++ rest) inside.Nothing d (passes c differs byte.ends) byte.stays (byte.opens d)
    ∙ skip mark d m cs passes marked more (n + 1) rest ∙ ap (λ (k : ℕ). stop_from mark inside.Nothing d k rest) (omega arith)
skip mark d m _ passes marked (quoted _ q inner cs i is more) n rest =
    step mark inside.Nothing d n q (inner ++ (q ∷ cs) ++ rest) (inside.Quotes q) d (marked q (quote_marked q i) (quote_goes_on q i)) (quote_inside q i) (quote_open q d i)
    ∙ ap (stop_from mark (inside.Quotes q) d (n + 1)) (append_assoc inner (q ∷ cs) rest)
    ∙ quoted_skip mark d q inner i is (n + 1) (q ∷ (cs ++ rest))
    ∙ step mark (inside.Quotes q) d (n + 1 + length inner) q (cs ++ rest) inside.Nothing d refl (quote_ends q) refl
    ∙ skip mark d m cs passes marked more (n + 1 + length inner + 1) rest
    ∙ ap (λ (k : ℕ). stop_from mark inside.Nothing d k rest) (piece_long n q q inner cs)
skip mark d m _ passes marked (bracketed _ a b inner cs pair is more) n rest =
    let p = pair_is a b pair in
    step mark inside.Nothing d n a (inner ++ (b ∷ cs) ++ rest) inside.Nothing (b ∷ d) (marked a p.marked p.goes_on) p.stays (p.opens d)
    ∙ ap (stop_from mark inside.Nothing (b ∷ d) (n + 1)) (append_assoc inner (b ∷ cs) rest)
    ∙ skip mark (b ∷ d) b inner (λ c e k. within_none mark b d c) (λ c e k. within_none mark b d c) is (n + 1) (b ∷ (cs ++ rest))
    ∙ step mark inside.Nothing (b ∷ d) (n + 1 + length inner) b (cs ++ rest) inside.Nothing d (within_none mark b d b) p.stays_closed (p.closes d)
    ∙ skip mark d m cs passes marked more (n + 1 + length inner + 1) rest
    ∙ ap (λ (k : ℕ). stop_from mark inside.Nothing d k rest) (piece_long n a b inner cs)
skip mark d m _ passes marked (commented _ inner cs none more) n rest =
    step mark inside.Nothing d n 37 (inner ++ (10 ∷ cs) ++ rest) inside.Comment d (marked 37 (λ p. absurd cc) refl) refl refl
    ∙ ap (stop_from mark inside.Comment d (n + 1)) (append_assoc inner (10 ∷ cs) rest)
    ∙ comment_skip mark d inner none (n + 1) (10 ∷ (cs ++ rest))
    ∙ step mark inside.Comment d (n + 1 + length inner) 10 (cs ++ rest) inside.Nothing d refl refl refl
    ∙ skip mark d m cs passes marked more (n + 1 + length inner + 1) rest
    ∙ ap (λ (k : ℕ). stop_from mark inside.Nothing d k rest) (piece_long n 37 10 inner cs)

stop_here : (mark n at : ℕ) (rest : List ℕ) → is_stop mark inside.Nothing [] at ≡ true → stop_from mark inside.Nothing [] n (at ∷ rest) ≡ Some n
unfolding stop_from
stop_here mark n at rest e = rw e refl

-- the mark after balanced text is found
pub balanced_read : (mark : ℕ) (text : List ℕ) (at : ℕ) (rest : List ℕ) → IsPlain mark → is_stop mark inside.Nothing [] at ≡ true → IsBalanced mark text
    → stop_in mark (text ++ (at ∷ rest)) ≡ Some (length text)
balanced_read mark text at rest p stop is =
    skip mark [] mark text (passes_outside mark) (λ c none k. passes_plain mark [] mark c (passes_outside mark) p none k) is 0 (at ∷ rest)
    ∙ stop_here mark (0 + length text) at rest stop ∙ ap (λ (k : ℕ). Some k) (omega arith)

-- ---- text in front of the first mark is balanced

-- a text closes the open brackets, each given by its closing bracket, one after another, and then goes on balanced
abbrev Closes : List ℕ → ℕ → List ℕ → Type 0
Closes [] mark text = IsBalanced mark text
Closes (b ∷ d) mark text = (inner rest : List ℕ) × (text ≡ inner ++ (b ∷ rest)) × IsBalanced b inner × Closes d mark rest

abbrev QuoteCloses : ℕ → List ℕ → ℕ → List ℕ → Type 0
QuoteCloses q d mark text = (inner rest : List ℕ) × (text ≡ inner ++ (q ∷ rest)) × IsQuoted q inner × Closes d mark rest

abbrev Remains : LexState → List ℕ → ℕ → List ℕ → Type 0
Remains inside.Nothing d mark text = Closes d mark text
Remains (inside.Quotes q) d mark text = QuoteCloses q d mark text
Remains (inside.Escape q) d mark text = (c : ℕ) × (rest : List ℕ) × (text ≡ c ∷ rest) × QuoteCloses q d mark rest
Remains inside.Comment d mark text = (inner rest : List ℕ) × (text ≡ inner ++ (10 ∷ rest)) × (list_any (λ c. c == 10) inner ≡ false) × Closes d mark rest

-- the mark that ends the innermost piece: its closing bracket, or outside of brackets the mark that is looked for
abbrev front : List ℕ → ℕ → ℕ
front [] mark = mark
front (b ∷ d) mark = b

byte_pushed : (d : List ℕ) (mark c : ℕ) (rest : List ℕ) → IsPlain c → c ≢ front d mark → Closes d mark rest → Closes d mark (c ∷ rest)
byte_pushed [] mark c rest p differs is = plain mark c rest p differs is
byte_pushed (b ∷ d) mark c rest p differs (inner, after, parts, is, more) = (c ∷ inner, after, ap (λ (t : List ℕ). c ∷ t) parts, plain b c inner p differs is, more)

piece_pushed : (d : List ℕ) (mark a b : ℕ) (inner rest : List ℕ) → ((m : ℕ) (t : List ℕ) → IsBalanced m t → IsBalanced m (a ∷ (inner ++ (b ∷ t)))) → Closes d mark rest
    → Closes d mark (a ∷ (inner ++ (b ∷ rest)))
piece_pushed [] mark a b inner rest piece is = piece mark rest is
piece_pushed (k ∷ d) mark a b inner rest piece (before, after, parts, is, more) = (
  a ∷ (inner ++ (b ∷ before)),
  after,
  ap (λ (t : List ℕ). a ∷ (inner ++ (b ∷ t))) parts ∙ ap (λ (t : List ℕ). a ∷ t) (sym (append_assoc inner (b ∷ before) (k ∷ after))),
  piece k before is,
  more,
)

-- open brackets are given by closing brackets
abbrev AreClosing : List ℕ → Type 0
AreClosing d = list_all is_closing d ≡ true

pub mark_stops : (mark : ℕ) → is_stop mark inside.Nothing [] mark ≡ true
mark_stops mark = let same : (mark == mark) ≡ true = grind arith in rw same refl

-- a closing bracket outside of all others is a stop
pub closing_stops : (mark c : ℕ) → is_closing c ≡ true → is_stop mark inside.Nothing [] c ≡ true
closing_stops mark c e = rw e (or_true (c == mark))
  where
    or_true : (b : Bool) → (b || true) ≡ true
    or_true true = refl
    or_true false = refl

-- a closing bracket that isn't a stop closes the innermost open bracket
closing_back : (mark : ℕ) (d : List ℕ) (c : ℕ) (inner cs : List ℕ) → is_closing c ≡ true → is_stop mark inside.Nothing d c ≡ false → closed c d ≡ Some inner → Closes inner mark cs → Closes d mark (c ∷ cs)
closing_back mark [] c inner cs e stop f is = absurd cc
closing_back mark (b ∷ d) c inner cs e stop f is = by (c == b) refl f
  where
    by : (t : Bool) → (c == b) ≡ t → cond t (Some d) None ≡ Some inner → Closes (b ∷ d) mark (c ∷ cs)
    by true same g = ([], cs, ap (λ (x : ℕ). x ∷ cs) (eqb-true c b same), empty b, subst (λ (t : List ℕ). Closes t mark cs) (sym (same_Some d inner g)) is)
    by false same g = absurd cc

-- no plain byte ends the piece in which it stands
front_differs : (mark : ℕ) (d : List ℕ) (c : ℕ) → AreClosing d → IsPlain c → is_stop mark inside.Nothing d c ≡ false → c ≢ front d mark
front_differs mark [] c are p stop e =
    let same : (c == mark) ≡ true = rw e (grind arith) in
    let stops : is_stop mark inside.Nothing [] c ≡ true = rw same refl in
    let bad : true ≡ false = sym stops ∙ stop in
    absurd cc (bad)
front_differs mark (b ∷ d) c are p stop e =
    let bad : true ≡ false = sym (and_parts (is_closing b) (list_all is_closing d) are).0 ∙ ap is_closing (sym e) ∙ (plain_byte c p).ends in
    absurd cc (bad)

-- one byte more before a text that closes the open brackets
outside_back : (mark : ℕ) (d : List ℕ) (c : ℕ) (inner cs : List ℕ) → AreClosing d → is_stop mark inside.Nothing d c ≡ false → open_after inside.Nothing c d ≡ Some inner
    → Remains (inside_after inside.Nothing c) inner mark cs → Closes d mark (c ∷ cs)
outside_back mark d c inner cs are stop opens is = by (class_of c)
  where
    stays : (s : LexState) (k : List ℕ) → inside_after inside.Nothing c ≡ s → open_after inside.Nothing c d ≡ Some k → Remains s k mark cs
    stays s k e f = subst (λ (t : LexState). Remains t k mark cs) e (subst (λ (t : List ℕ). Remains (inside_after inside.Nothing c) t mark cs) (same_Some inner k (sym opens ∙ f)) is)

    by : Class c → Closes d mark (c ∷ cs)
    by (percent e) =
        let r : Remains inside.Comment d mark cs = stays inside.Comment d (ap (inside_after inside.Nothing) e) (ap (λ (x : ℕ). open_after inside.Nothing x d) e) in
        let whole = piece_pushed d mark 37 10 r.0 r.1 (λ m t more. commented m r.0 t r.3 more) r.4 in
        subst (Closes d mark) ((λ i. sym e i ∷ sym r.2 i)) whole
    by (quote q) =
        let r : Remains (inside.Quotes c) d mark cs = stays (inside.Quotes c) d (quote_inside c q) (quote_open c d q) in
        let whole = piece_pushed d mark c c r.0 r.1 (λ m t more. quoted m c r.0 t q r.3 more) r.4 in
        subst (Closes d mark) (ap (λ (t : List ℕ). c ∷ t) (sym r.2)) whole
    by (opening close pair) =
        let p = pair_is c close pair in
        let r : Closes (close ∷ d) mark cs = stays inside.Nothing (close ∷ d) p.stays (p.opens d) in
        let whole = piece_pushed d mark c close r.0 r.1 (λ m t more. bracketed m c close r.0 t pair r.3 more) r.4 in
        subst (Closes d mark) (ap (λ (t : List ℕ). c ∷ t) (sym r.2)) whole
    by (closing k s o) = closing_back mark d c inner cs k stop (sym (o d) ∙ opens) (subst (λ (t : LexState). Remains t inner mark cs) s is)
    by (other p) =
        let byte = plain_byte c p in
        byte_pushed d mark c cs p (front_differs mark d c are p stop) (stays inside.Nothing d byte.stays (byte.opens d))

quoted_back : (mark q : ℕ) (d : List ℕ) (c : ℕ) (cs : List ℕ) → Remains (inside_after (inside.Quotes q) c) d mark cs → QuoteCloses q d mark (c ∷ cs)
quoted_back mark q d c cs is = by (c == q) (c == 92) refl refl is
  where
    by : (k e : Bool) → (c == q) ≡ k → (c == 92) ≡ e → Remains (cond k inside.Nothing (cond e (inside.Escape q) (inside.Quotes q))) d mark cs → QuoteCloses q d mark (c ∷ cs)
    by true e f g r = ([], cs, ap (λ (x : ℕ). x ∷ cs) (eqb-true c q f), no_byte q, r)
    by false true f g (x, rest, parts, (inner, after, more, is, closes)) = (
      92 ∷ x ∷ inner,
      after,
      (λ i. eqb-true c 92 g i ∷ (parts ∙ ap (λ (t : List ℕ). x ∷ t) more) i),
      escape q x inner is,
      closes,
    )
    by false false f g (inner, after, parts, is, closes) = (c ∷ inner, after, ap (λ (t : List ℕ). c ∷ t) parts, one_byte q c inner (no_test c q f) (no_test c 92 g) is, closes)

comment_back : (mark : ℕ) (d : List ℕ) (c : ℕ) (cs : List ℕ) → Remains (inside_after inside.Comment c) d mark cs → Remains inside.Comment d mark (c ∷ cs)
comment_back mark d c cs is = by (c == 10) refl is
  where
    by : (e : Bool) → (c == 10) ≡ e → Remains (cond e inside.Nothing inside.Comment) d mark cs → Remains inside.Comment d mark (c ∷ cs)
    by true e r = ([], cs, ap (λ (x : ℕ). x ∷ cs) (eqb-true c 10 e), refl, r)
    by false e (inner, after, parts, none, closes) = (c ∷ inner, after, ap (λ (t : List ℕ). c ∷ t) parts, rw (e, none) refl, closes)

back : (mark : ℕ) (s : LexState) (d : List ℕ) (c : ℕ) (inner cs : List ℕ) → AreClosing d → is_stop mark s d c ≡ false → open_after s c d ≡ Some inner
    → Remains (inside_after s c) inner mark cs → Remains s d mark (c ∷ cs)
back mark inside.Nothing d c inner cs are stop opens is = outside_back mark d c inner cs are stop opens is
back mark (inside.Quotes q) d c inner cs are stop opens is = quoted_back mark q d c cs (subst (λ (k : List ℕ). Remains (inside_after (inside.Quotes q) c) k mark cs) (sym (same_Some d inner opens)) is)
back mark (inside.Escape q) d c inner cs are stop opens is = (c, cs, refl, subst (λ (k : List ℕ). QuoteCloses q k mark cs) (sym (same_Some d inner opens)) is)
back mark inside.Comment d c inner cs are stop opens is = comment_back mark d c cs (subst (λ (k : List ℕ). Remains (inside_after inside.Comment c) k mark cs) (sym (same_Some d inner opens)) is)

-- after a byte the open brackets are still given by closing brackets
still_closing : (s : LexState) (c : ℕ) (d inner : List ℕ) → AreClosing d → open_after s c d ≡ Some inner → AreClosing inner
still_closing inside.Nothing c d inner are e = by (class_of c)
  where
    same : (k : List ℕ) → open_after inside.Nothing c d ≡ Some k → AreClosing k → AreClosing inner
    same k f is = subst AreClosing (same_Some k inner (sym f ∙ e)) is

    closer : (d : List ℕ) → AreClosing d → closed c d ≡ Some inner → AreClosing inner
    closer [] a f = absurd cc
    closer (b ∷ d) a f = by_same (c == b) f
      where
        by_same : (t : Bool) → cond t (Some d) None ≡ Some inner → AreClosing inner
        by_same true g = subst AreClosing (same_Some d inner g) (and_parts (is_closing b) (list_all is_closing d) a).1
        by_same false g = absurd cc

    by : Class c → AreClosing inner
    by (percent f) = same d (ap (λ (x : ℕ). open_after inside.Nothing x d) f) are
    by (quote q) = same d (quote_open c d q) are
    by (opening close pair) =
        let p = pair_is c close pair in
        let closing = p.ends in
        same (close ∷ d) (p.opens d) (rw (closing, are) refl)
    by (closing k s o) = closer d are (sym (o d) ∙ e)
    by (other p) = same d ((plain_byte c p).opens d) are
still_closing (inside.Quotes q) c d inner are e = subst AreClosing (same_Some d inner e) are
still_closing (inside.Escape q) c d inner are e = subst AreClosing (same_Some d inner e) are
still_closing inside.Comment c d inner are e = subst AreClosing (same_Some d inner e) are

-- a stop stands after the bytes that were counted
stop_grows : (mark : ℕ) (s : LexState) (d : List ℕ) (n : ℕ) (text : List ℕ) (m : ℕ) → stop_from mark s d n text ≡ Some m → n ≤ m
unfolding stop_from
stop_grows mark s d n [] m e = absurd cc
stop_grows mark s d n (c ∷ cs) m e = by (is_stop mark s d c) (open_after s c d) e (λ inner f. stop_grows mark (inside_after s c) inner (n + 1) cs m f)
  where
    by : (b : Bool) (o : Option (List ℕ)) → cond b (Some n) (o >>= λ inner. stop_from mark (inside_after s c) inner (n + 1) cs) ≡ Some m
        → ((inner : List ℕ) → stop_from mark (inside_after s c) inner (n + 1) cs ≡ Some m → n + 1 ≤ m) → n ≤ m
    by true o f more = let same : n ≡ m = cc (f) in omega (arith, same)
    by false None f more = absurd cc (f)
    by false (Some inner) f more = omega (arith, more inner f)

-- no bracket is open at the stop
stop_outside : (mark : ℕ) (s : LexState) (d : List ℕ) (n at : ℕ) (more : List ℕ) → stop_from mark s d n (at ∷ more) ≡ Some (n + 0) → Remains s d mark []
unfolding stop_from
stop_outside mark s d n at more e = by (is_stop mark s d at) (open_after s at d) refl e
  where
    outside : (s : LexState) (d : List ℕ) → is_stop mark s d at ≡ true → Remains s d mark []
    outside inside.Nothing [] t = empty mark
    outside inside.Nothing (b ∷ d) t = let bad : true ≡ false = sym t ∙ within_none mark b d at in absurd cc (bad)
    outside (inside.Quotes q) d t = absurd cc
    outside (inside.Escape q) d t = absurd cc
    outside inside.Comment d t = absurd cc

    by : (b : Bool) (o : Option (List ℕ)) → is_stop mark s d at ≡ b → cond b (Some n) (o >>= λ inner. stop_from mark (inside_after s at) inner (n + 1) more) ≡ Some (n + 0) → Remains s d mark []
    by true o t f = outside s d t
    by false None t f = absurd cc (f)
    by false (Some inner) t f = absurd (omega (arith, stop_grows mark (inside_after s at) inner (n + 1) more (n + 0) f))

remains : (mark : ℕ) (s : LexState) (d : List ℕ) (n : ℕ) (text : List ℕ) (at : ℕ) (more : List ℕ) → AreClosing d → stop_from mark s d n (text ++ (at ∷ more)) ≡ Some (n + length text) → Remains s d mark text
unfolding stop_from
remains mark s d n [] at more are e = stop_outside mark s d n at more e
remains mark s d n (c ∷ cs) at more are e =
    by (is_stop mark s d c) (open_after s c d) refl refl e (λ inner closing f. remains mark (inside_after s c) inner (n + 1) cs at more closing f)
  where
    by : (b : Bool) (o : Option (List ℕ)) → is_stop mark s d c ≡ b → open_after s c d ≡ o
        → cond b (Some n) (o >>= λ inner. stop_from mark (inside_after s c) inner (n + 1) (cs ++ (at ∷ more))) ≡ Some (n + length (c ∷ cs))
        → ((inner : List ℕ) → AreClosing inner → stop_from mark (inside_after s c) inner (n + 1) (cs ++ (at ∷ more)) ≡ Some ((n + 1) + length cs) → Remains (inside_after s c) inner mark cs)
        → Remains s d mark (c ∷ cs)
    by true o t u f others = let same : n ≡ n + length (c ∷ cs) = cc (f) in absurd (omega (arith, same))
    by false None t u f others = absurd cc (f)
    by false (Some inner) t u f others =
        let shift : n + length (c ∷ cs) ≡ (n + 1) + length cs = omega arith in
        back mark s d c inner cs are t u (others inner (still_closing s c d inner are u) (f ∙ ap (λ (k : ℕ). Some k) shift))

-- the text in front of the first mark is balanced
pub balanced_told : (mark : ℕ) (text : List ℕ) (at : ℕ) (more : List ℕ) → stop_in mark (text ++ (at ∷ more)) ≡ Some (length text) → IsBalanced mark text
balanced_told mark text at more e =
    let count : 0 + length text ≡ length text = omega arith in
    remains mark inside.Nothing [] 0 text at more refl (e ∙ ap (λ (k : ℕ). Some k) (sym count))
