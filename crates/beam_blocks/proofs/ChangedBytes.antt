-- A block with another byte is bad: by the field in which the byte stands. Four other bytes are another number, and a content with another byte
-- has another first sum.
use Rattle.std.proofs.Common.{◌≡◌, ◌≢◌, ℕ, zero, suc, ◌+◌, ◌-◌, ◌%◌, ◌^◌, ◌<◌, ◌≤◌, Bool, true, false, eqb, List, [], ◌∷◌, ◌++◌, length, get_or, set, take, drop, refl, sym, ap, subst, ◌∙◌, arith, length-append, length-set, append_assoc, inl, inr, le-ltb, eq-eqb, take_at, drop_at, get_or-set_same, get_or-set_other}
use Rattle.std.proofs.lemmas.Bool.{cases_lt, cases_eq}
use Rattle.std.proofs.lemmas.List.{set-append_left, set-append_right, get_or_append_left, get_or-append_right}
use Rattle.std.proofs.lemmas.Nat.{be_bytes_4, from_be_bytes-to_be_bytes_4}
use Rattle.std.specs.Int.{w32, to_be_bytes, from_be_bytes}
use Rattle.beam_blocks.specs.declared.sums.FletcherSums.{FletcherSums}
use Rattle.beam_blocks.specs.Blocks.{with_byte, with_bytes, initial_sums, sums_of, block, IsShort, AreBytes, bad_block, number_at, with_sums, after_header, block_in}
use Rattle.beam_blocks.proofs.RoundTrip.{sums_fit, header_at, is_other}

-- ---- numbers

number_bytes : (n : ℕ) → AreBytes (to_be_bytes w32 n)
number_bytes n zero = omega arith
number_bytes n (suc zero) = omega arith
number_bytes n (suc (suc zero)) = omega arith
number_bytes n (suc (suc (suc zero))) = omega arith
number_bytes n (suc (suc (suc (suc i)))) = omega arith

set_bytes : (bytes : List ℕ) (at byte : ℕ) → AreBytes bytes → byte < 256 → at < length bytes → AreBytes (set bytes at byte)
set_bytes bytes at byte fit lt within i =
    elim (cases_eq i at) [
      | inl same ↦ subst (λ k. get_or (set bytes at byte) k 0 < 256) (sym same) (rw (get_or-set_same bytes at byte 0 within) lt)
      | inr other ↦ rw (get_or-set_other bytes at i byte 0 other) (fit i)
    ]

-- four bytes of which one is another are another number
another : (n at byte : ℕ) → at < 4 → byte < 256 → byte ≢ get_or (to_be_bytes w32 n) at 0 → from_be_bytes w32 (set (to_be_bytes w32 n) at byte) ≢ n
another n at byte within lt differs = λ e.
    let field = set (to_be_bytes w32 n) at byte in
    let same : to_be_bytes w32 n ≡ field = be_bytes_4 field n (length-set (to_be_bytes w32 n) at byte) (set_bytes (to_be_bytes w32 n) at byte (number_bytes n) lt within) (sym e) in
    differs (sym (get_or-set_same (to_be_bytes w32 n) at byte 0 within) ∙ ap (λ (l : List ℕ). get_or l at 0) (sym same))

-- ---- a header of four fields

abbrev fields : List ℕ → List ℕ → List ℕ → List ℕ → List ℕ → List ℕ
fields p q r s rest = p ++ (q ++ (r ++ (s ++ rest)))

record AreFour (p q r s : List ℕ) : Type 0 where
  first : length p ≡ 4
  second : length q ≡ 4
  third : length r ≡ 4
  fourth : length s ≡ 4

front : (p rest : List ℕ) → length p ≡ 4 → from_be_bytes w32 (take 4 (p ++ rest)) ≡ from_be_bytes w32 p
front p rest wide = ap (from_be_bytes w32) (take_at p rest 4 wide)

drop_8 : (p q rest : List ℕ) → length p ≡ 4 → length q ≡ 4 → drop 8 (p ++ (q ++ rest)) ≡ rest
drop_8 p q rest a b = ap (drop 8) (sym (append_assoc p q rest)) ∙ drop_at (p ++ q) rest 8 (omega (arith, length-append p q, a, b))

drop_12 : (p q r rest : List ℕ) → length p ≡ 4 → length q ≡ 4 → length r ≡ 4 → drop 12 (p ++ (q ++ (r ++ rest))) ≡ rest
drop_12 p q r rest a b c =
    ap (λ (l : List ℕ). drop 12 (p ++ l)) (sym (append_assoc q r rest)) ∙ ap (drop 12) (sym (append_assoc p (q ++ r) rest))
    ∙ drop_at (p ++ (q ++ r)) rest 12 (omega (arith, length-append p (q ++ r), length-append q r, a, b, c))

drop_16 : (p q r s rest : List ℕ) → AreFour p q r s → drop 16 (fields p q r s rest) ≡ rest
drop_16 p q r s rest f =
    ap (λ (l : List ℕ). drop 16 (p ++ (q ++ l))) (sym (append_assoc r s rest)) ∙ ap (λ (l : List ℕ). drop 16 (p ++ l)) (sym (append_assoc q (r ++ s) rest))
    ∙ ap (drop 16) (sym (append_assoc p (q ++ (r ++ s)) rest))
    ∙ drop_at (p ++ (q ++ (r ++ s))) rest 16 (omega (arith, length-append p (q ++ (r ++ s)), length-append q (r ++ s), length-append r s, f.first, f.second, f.third, f.fourth))

found_in : (p q r s rest : List ℕ) → AreFour p q r s
    → block_in (fields p q r s rest) ≡ after_header (from_be_bytes w32 p) (from_be_bytes w32 q) (from_be_bytes w32 r) (from_be_bytes w32 s) rest
found_in p q r s rest f =
    let bytes = fields p q r s rest in
    let long : 16 ≤ length bytes = omega (arith, length-append p (q ++ (r ++ (s ++ rest))), length-append q (r ++ (s ++ rest)), length-append r (s ++ rest), length-append s rest, f.first, f.second, f.third, f.fourth) in
    let a : number_at 0 bytes ≡ from_be_bytes w32 p = front p (q ++ (r ++ (s ++ rest))) f.first in
    let b : number_at 4 bytes ≡ from_be_bytes w32 q = ap (λ (l : List ℕ). from_be_bytes w32 (take 4 l)) (drop_at p (q ++ (r ++ (s ++ rest))) 4 f.first) ∙ front q (r ++ (s ++ rest)) f.second in
    let c : number_at 8 bytes ≡ from_be_bytes w32 r = ap (λ (l : List ℕ). from_be_bytes w32 (take 4 l)) (drop_8 p q (r ++ (s ++ rest)) f.first f.second) ∙ front r (s ++ rest) f.third in
    let d : number_at 12 bytes ≡ from_be_bytes w32 s = ap (λ (l : List ℕ). from_be_bytes w32 (take 4 l)) (drop_12 p q r (s ++ rest) f.first f.second f.third) ∙ front s rest f.fourth in
    let e : drop 16 bytes ≡ rest = drop_16 p q r s rest f in
    header_at bytes long ∙ (λ i. after_header (a i) (b i) (c i) (d i) (e i))

-- ---- what is refused

not_mirrored : (a b c d : ℕ) (rest : List ℕ) → a + b ≢ 2 ^ 32 - 1 → after_header a b c d rest ≡ bad_block
unfolding after_header
not_mirrored a b c d rest h = rw (is_other (a + b) (2 ^ 32 - 1) _ refl h) refl

other_sums : (low high : ℕ) (bytes rest : List ℕ) (test : Bool) → eqb (sums_of bytes).second high ≡ test → (sums_of bytes).first ≢ low → with_sums low high bytes rest ≡ bad_block
other_sums low high bytes rest test e h = rw (is_other (sums_of bytes).first low _ refl h) refl

other_high : (low high : ℕ) (bytes rest : List ℕ) (test : Bool) → eqb (sums_of bytes).first low ≡ test → (sums_of bytes).second ≢ high → with_sums low high bytes rest ≡ bad_block
other_high low high bytes rest true e h = rw (e, is_other (sums_of bytes).second high _ refl h) refl
other_high low high bytes rest false e h = rw e refl

whole_after : (b c d : ℕ) (bytes more : List ℕ) → length bytes + b ≡ 2 ^ 32 - 1 → after_header (length bytes) b c d (bytes ++ more) ≡ with_sums c d bytes more
unfolding after_header
whole_after b c d bytes more adds =
    let fits : length bytes ≤ length (bytes ++ more) = omega (arith, length-append bytes more) in
    rw (eq-eqb _ _ adds, le-ltb (length (bytes ++ more)) (length bytes) fits, take_at bytes more (length bytes) refl, drop_at bytes more (length bytes) refl) refl

-- ---- sums

total : List ℕ → ℕ
total [] = 0
total (byte ∷ rest) = byte + total rest

low_is : (s : FletcherSums) (bytes : List ℕ) → s.first < 2 ^ 32 → (with_bytes s bytes).first ≡ (s.first + total bytes) % 2 ^ 32
unfolding total with_byte
low_is s [] lt = omega arith
low_is s (byte ∷ rest) lt = low_is (with_byte s byte) rest (omega arith) ∙ omega arith

total_set : (bytes : List ℕ) (at byte : ℕ) → at < length bytes → total (set bytes at byte) + get_or bytes at 0 ≡ total bytes + byte
unfolding total
total_set [] at byte lt = absurd (omega arith)
total_set (b ∷ rest) zero byte lt = omega arith
total_set (b ∷ rest) (suc at) byte lt = omega (arith, total_set rest at byte (omega arith))

other_low : (bytes : List ℕ) (at byte : ℕ) → AreBytes bytes → at < length bytes → byte < 256 → byte ≢ get_or bytes at 0 → (sums_of (set bytes at byte)).first ≢ (sums_of bytes).first
other_low bytes at byte fit within lt differs = λ e.
    differs (omega (arith, e, low_is initial_sums bytes (omega arith), low_is initial_sums (set bytes at byte) (omega arith), total_set bytes at byte within, fit at))

-- ---- a byte of a block

abbrev Refused : List ℕ → List ℕ → ℕ → ℕ → Type 0
Refused bytes more at byte = block_in (set (block bytes) at byte ++ more) ≡ bad_block

-- what a set in a part of a block makes of it, and what follows
in_part : (p rest more : List ℕ) (at byte : ℕ) → at < length p → set (p ++ rest) at byte ++ more ≡ set p at byte ++ (rest ++ more)
in_part p rest more at byte lt = ap (λ (l : List ℕ). l ++ more) (set-append_left p rest at byte lt) ∙ append_assoc (set p at byte) rest more

behind_part : (p rest more : List ℕ) (n at byte : ℕ) → length p ≡ n → n ≤ at → set (p ++ rest) at byte ++ more ≡ p ++ (set rest (at - n) byte ++ more)
behind_part p rest more n at byte wide le = ap (λ (l : List ℕ). l ++ more) (set-append_right p rest n at byte wide le) ∙ append_assoc p (set rest (at - n) byte) more

get_in : (p rest : List ℕ) (at : ℕ) → at < length p → get_or (p ++ rest) at 0 ≡ get_or p at 0
get_in p rest at lt = get_or_append_left p rest 0 at lt

get_behind : (p rest : List ℕ) (n at : ℕ) → length p ≡ n → n ≤ at → get_or (p ++ rest) at 0 ≡ get_or rest (at - n) 0
get_behind p rest n at wide le = get_or-append_right p rest n at 0 wide le

-- a field of four bytes at the front, and what follows; the byte lies in the field, or after it
data Where (p rest more : List ℕ) (at byte : ℕ) : Type 0 where
  inside : at < 4 → byte ≢ get_or p at 0 → set (p ++ rest) at byte ++ more ≡ set p at byte ++ (rest ++ more) → Where p rest more at byte
  behind : 4 ≤ at → byte ≢ get_or rest (at - 4) 0 → set (p ++ rest) at byte ++ more ≡ p ++ (set rest (at - 4) byte ++ more) → Where p rest more at byte

where_is : (p rest more : List ℕ) (at byte : ℕ) → length p ≡ 4 → byte ≢ get_or (p ++ rest) at 0 → Where p rest more at byte
where_is p rest more at byte wide differs =
    elim (cases_lt at 4) [
      | inl lt ↦ inside lt (λ e. differs (e ∙ sym (get_in p rest at (omega (arith, wide))))) (in_part p rest more at byte (omega (arith, wide)))
      | inr le ↦ behind le (λ e. differs (e ∙ sym (get_behind p rest 4 at wide le))) (behind_part p rest more 4 at byte wide le)
    ]

number : ℕ → List ℕ
number n = to_be_bytes w32 n

-- the four numbers of a block's header
record Head (bytes : List ℕ) (a b c d : ℕ) : Type 0 where
  is_count : length bytes ≡ a
  adds : a + b ≡ 2 ^ 32 - 1
  first_is : (sums_of bytes).first ≡ c
  second_is : (sums_of bytes).second ≡ d
  count_fits : a < 2 ^ 32
  mirror_fits : b < 2 ^ 32
  first_fits : c < 2 ^ 32
  second_fits : d < 2 ^ 32

again_is : (n : ℕ) → n < 2 ^ 32 → from_be_bytes w32 (to_be_bytes w32 n) ≡ n
again_is n lt = from_be_bytes-to_be_bytes_4 n lt

four : (a b c d : ℕ) → AreFour (to_be_bytes w32 a) (to_be_bytes w32 b) (to_be_bytes w32 c) (to_be_bytes w32 d)
four a b c d = record { first = refl; second = refl; third = refl; fourth = refl }

set_wide : (n at byte : ℕ) → length (set (to_be_bytes w32 n) at byte) ≡ 4
set_wide n at byte = length-set (to_be_bytes w32 n) at byte

in_count : (bytes more : List ℕ) (a b c d at byte : ℕ) → Head bytes a b c d → at < 4 → byte < 256 → byte ≢ get_or (to_be_bytes w32 a) at 0
    → block_in (fields (set (to_be_bytes w32 a) at byte) (to_be_bytes w32 b) (to_be_bytes w32 c) (to_be_bytes w32 d) (bytes ++ more)) ≡ bad_block
in_count bytes more a b c d at byte h within lt differs =
    let p = set (to_be_bytes w32 a) at byte in
    let other : from_be_bytes w32 p ≢ a = another a at byte within lt differs in
    found_in p (to_be_bytes w32 b) (to_be_bytes w32 c) (to_be_bytes w32 d) (bytes ++ more) (record { first = set_wide a at byte; second = refl; third = refl; fourth = refl })
    ∙ not_mirrored (from_be_bytes w32 p) (from_be_bytes w32 (to_be_bytes w32 b)) _ _ (bytes ++ more)
    (λ e. other (omega (arith, e, again_is b h.mirror_fits, h.adds)))

in_mirror : (bytes more : List ℕ) (a b c d at byte : ℕ) → Head bytes a b c d → at < 4 → byte < 256 → byte ≢ get_or (to_be_bytes w32 b) at 0
    → block_in (fields (to_be_bytes w32 a) (set (to_be_bytes w32 b) at byte) (to_be_bytes w32 c) (to_be_bytes w32 d) (bytes ++ more)) ≡ bad_block
in_mirror bytes more a b c d at byte h within lt differs =
    let q = set (to_be_bytes w32 b) at byte in
    let other : from_be_bytes w32 q ≢ b = another b at byte within lt differs in
    found_in (to_be_bytes w32 a) q (to_be_bytes w32 c) (to_be_bytes w32 d) (bytes ++ more) (record { first = refl; second = set_wide b at byte; third = refl; fourth = refl })
    ∙ not_mirrored (from_be_bytes w32 (to_be_bytes w32 a)) (from_be_bytes w32 q) _ _ (bytes ++ more)
    (λ e. other (omega (arith, e, again_is a h.count_fits, h.adds)))

-- behind a whole header, what is left is whether the sums agree
sums_left : (bytes more : List ℕ) (a b c d : ℕ) (r s : List ℕ) → length bytes ≡ a → a + b ≡ 2 ^ 32 - 1 → a < 2 ^ 32 → b < 2 ^ 32 → length r ≡ 4 → length s ≡ 4
    → block_in (fields (to_be_bytes w32 a) (to_be_bytes w32 b) r s (bytes ++ more)) ≡ with_sums (from_be_bytes w32 r) (from_be_bytes w32 s) bytes more
sums_left bytes more a b c d r s count adds la lb wr ws =
    found_in (to_be_bytes w32 a) (to_be_bytes w32 b) r s (bytes ++ more) (record { first = refl; second = refl; third = wr; fourth = ws })
    ∙ (λ i. after_header (again_is a la i) (again_is b lb i) (from_be_bytes w32 r) (from_be_bytes w32 s) (bytes ++ more))
    ∙ (λ i. after_header (sym count i) b (from_be_bytes w32 r) (from_be_bytes w32 s) (bytes ++ more))
    ∙ whole_after b (from_be_bytes w32 r) (from_be_bytes w32 s) bytes more (omega (arith, count, adds))

in_low : (bytes more : List ℕ) (a b c d at byte : ℕ) → Head bytes a b c d → at < 4 → byte < 256 → byte ≢ get_or (to_be_bytes w32 c) at 0
    → block_in (fields (to_be_bytes w32 a) (to_be_bytes w32 b) (set (to_be_bytes w32 c) at byte) (to_be_bytes w32 d) (bytes ++ more)) ≡ bad_block
in_low bytes more a b c d at byte h within lt differs =
    let r = set (to_be_bytes w32 c) at byte in
    let other : from_be_bytes w32 r ≢ c = another c at byte within lt differs in
    sums_left bytes more a b c d r (to_be_bytes w32 d) h.is_count h.adds h.count_fits h.mirror_fits (set_wide c at byte) refl
    ∙ other_sums (from_be_bytes w32 r) _ bytes more _ refl (λ e. other (sym e ∙ h.first_is))

in_high : (bytes more : List ℕ) (a b c d at byte : ℕ) → Head bytes a b c d → at < 4 → byte < 256 → byte ≢ get_or (to_be_bytes w32 d) at 0
    → block_in (fields (to_be_bytes w32 a) (to_be_bytes w32 b) (to_be_bytes w32 c) (set (to_be_bytes w32 d) at byte) (bytes ++ more)) ≡ bad_block
in_high bytes more a b c d at byte h within lt differs =
    let s = set (to_be_bytes w32 d) at byte in
    let other : from_be_bytes w32 s ≢ d = another d at byte within lt differs in
    sums_left bytes more a b c d (to_be_bytes w32 c) s h.is_count h.adds h.count_fits h.mirror_fits refl (set_wide d at byte)
    ∙ other_high (from_be_bytes w32 (to_be_bytes w32 c)) (from_be_bytes w32 s) bytes more _ refl (λ e. other (sym e ∙ h.second_is))

in_bytes : (bytes more : List ℕ) (a b c d at byte : ℕ) → AreBytes bytes → Head bytes a b c d → at < length bytes → byte < 256 → byte ≢ get_or bytes at 0
    → block_in (fields (to_be_bytes w32 a) (to_be_bytes w32 b) (to_be_bytes w32 c) (to_be_bytes w32 d) (set bytes at byte ++ more)) ≡ bad_block
in_bytes bytes more a b c d at byte fit h within lt differs =
    sums_left (set bytes at byte) more a b c d (to_be_bytes w32 c) (to_be_bytes w32 d) (length-set bytes at byte ∙ h.is_count) h.adds h.count_fits h.mirror_fits refl refl
    ∙ other_sums (from_be_bytes w32 (to_be_bytes w32 c)) _ (set bytes at byte) more _ refl
    (λ e. other_low bytes at byte fit within lt differs (e ∙ again_is c h.first_fits ∙ sym h.first_is))

head_of : (bytes : List ℕ) → IsShort bytes → Head bytes (length bytes) (2 ^ 32 - 1 - length bytes) (sums_of bytes).first (sums_of bytes).second
head_of bytes short =
    let fit = sums_fit bytes in
    record { is_count = refl; adds = omega arith; first_is = refl; second_is = refl; count_fits = short; mirror_fits = omega arith; first_fits = fit.first; second_fits = fit.second }

pub changed_again : (bytes more : List ℕ) (at byte : ℕ) → IsShort bytes → AreBytes bytes → at < length (block bytes) → byte < 256 → byte ≢ get_or (block bytes) at 0
    → block_in (set (block bytes) at byte ++ more) ≡ bad_block
unfolding block
changed_again bytes more at byte short fit within lt differs =
    let a = length bytes in let b = 2 ^ 32 - 1 - length bytes in let c = (sums_of bytes).first in let d = (sums_of bytes).second in
    let h = head_of bytes short in
    let p = to_be_bytes w32 a in let q = to_be_bytes w32 b in let r = to_be_bytes w32 c in let s = to_be_bytes w32 d in
    elim (where_is p (q ++ (r ++ (s ++ bytes))) more at byte refl differs) [
      | inside lt1 differs1 is1 ↦
          ap block_in is1 ∙ ap (λ (l : List ℕ). block_in (set p at byte ++ l)) (append_assoc q (r ++ (s ++ bytes)) more ∙ ap (λ (l : List ℕ). q ++ l) (append_assoc r (s ++ bytes) more ∙ ap (λ (l : List ℕ). r ++ l) (append_assoc s bytes more)))
          ∙ in_count bytes more a b c d at byte h lt1 lt differs1
      | behind le1 differs1 is1 ↦
          elim (where_is q (r ++ (s ++ bytes)) more (at - 4) byte refl differs1) [
            | inside lt2 differs2 is2 ↦
                ap block_in is1 ∙ ap (λ (l : List ℕ). block_in (p ++ l)) (is2 ∙ ap (λ (l : List ℕ). set q (at - 4) byte ++ l) (append_assoc r (s ++ bytes) more ∙ ap (λ (l : List ℕ). r ++ l) (append_assoc s bytes more)))
                ∙ in_mirror bytes more a b c d (at - 4) byte h lt2 lt differs2
            | behind le2 differs2 is2 ↦
                elim (where_is r (s ++ bytes) more (at - 4 - 4) byte refl differs2) [
                  | inside lt3 differs3 is3 ↦
                      ap block_in is1 ∙ ap (λ (l : List ℕ). block_in (p ++ l)) (is2 ∙ ap (λ (l : List ℕ). q ++ l) (is3 ∙ ap (λ (l : List ℕ). set r (at - 4 - 4) byte ++ l) (append_assoc s bytes more)))
                      ∙ in_low bytes more a b c d (at - 4 - 4) byte h lt3 lt differs3
                  | behind le3 differs3 is3 ↦
                      elim (where_is s bytes more (at - 4 - 4 - 4) byte refl differs3) [
                        | inside lt4 differs4 is4 ↦
                            ap block_in is1 ∙ ap (λ (l : List ℕ). block_in (p ++ l)) (is2 ∙ ap (λ (l : List ℕ). q ++ l) (is3 ∙ ap (λ (l : List ℕ). r ++ l) is4))
                            ∙ in_high bytes more a b c d (at - 4 - 4 - 4) byte h lt4 lt differs4
                        | behind le4 differs4 is4 ↦
                            ap block_in is1 ∙ ap (λ (l : List ℕ). block_in (p ++ l)) (is2 ∙ ap (λ (l : List ℕ). q ++ l) (is3 ∙ ap (λ (l : List ℕ). r ++ l) is4))
                            ∙ in_bytes bytes more a b c d (at - 4 - 4 - 4 - 4) byte fit h
                            (omega (arith, within, le1, le2, le3, le4, length-append p (q ++ (r ++ (s ++ bytes))), length-append q (r ++ (s ++ bytes)), length-append r (s ++ bytes), length-append s bytes)) lt differs4
                      ]
                ]
          ]
    ]
