-- A file keeps one list: its blocks are read back, then each page's records, one after another.
use Rattle.std.proofs.Common.{◌≡◌, ℕ, ◌+◌, List, [], ◌∷◌, ◌++◌, length, Option, Some, None, refl, sym, ap, subst, ◌∙◌, arith, length-append, append-nil}
use Rattle.byteorder.specs.Endian.{big_bytes}
use Rattle.byteorder.specs.Numbers.{length-bytes_high_first}
use Rattle.beam_blocks.specs.Blocks.{AreShort, IsShort, Blocks, blocks_in, blocks_of, blocks_within}
use Rattle.beam_blocks.proofs.RoundTrip.{written_again}
use Rattle.beam_machine.specs.Prelude.{SentEvent}
use Rattle.beam_records.specs.JournalFile.{AreRecords, ArePages, IsPage, IsRecord, Keeps, head_of, opening, sized}
use Rattle.beam_records.proofs.Fronts.{same_front}
use Rattle.beam_records.proofs.OneRecord.{record_says, record_leaves}

-- ---- records

opened : (seat : Option ℕ) (kind : ℕ) (rest : List ℕ) → [] ≡ opening seat kind ++ rest → ⊥
opened None kind rest e = absurd cc
opened (Some n) kind rest e = absurd cc

no_record : (first rest : List ℕ) (s : SentEvent) → [] ≡ first ++ rest → IsRecord first s → ⊥
no_record [] rest s e r = opened s.seat r.kind (sized r.kind r.body) r.stands
no_record (b ∷ first) rest s e r = absurd cc

one_records : (bytes : List ℕ) (ss ts : List SentEvent) → AreRecords bytes ss → AreRecords bytes ts → ss ≡ ts
one_records bytes [] [] a b = refl
one_records bytes [] (t ∷ ts) a b = absurd (no_record b.0 b.1 t (sym a ∙ b.2) b.3)
one_records bytes (s ∷ ss) [] a b = absurd (no_record a.0 a.1 s (sym b ∙ a.2) a.3)
one_records bytes (s ∷ ss) (t ∷ ts) a b =
    let same : a.0 ++ a.1 ≡ b.0 ++ b.1 = sym a.2 ∙ b.2 in
    let one : s ≡ t = record_says a.0 a.1 b.0 b.1 s t a.3 b.3 same in
    let left : a.1 ≡ b.1 = record_leaves a.0 a.1 b.0 b.1 s t a.3 b.3 same in
    let others : ss ≡ ts = one_records b.1 ss ts (subst (λ (l : List ℕ). AreRecords l ss) left a.4) b.4 in
    λ i. one i ∷ others i

-- ---- pages

one_page : (number : ℕ) (bytes : List ℕ) (ss ts : List SentEvent) → IsPage number bytes ss → IsPage number bytes ts → ss ≡ ts
one_page number bytes ss ts a b =
    let same : a.0 ≡ b.0 = (same_front (big_bytes 8 number) (big_bytes 8 number) a.0 b.0 refl (sym a.1 ∙ b.1)).1 in
    one_records b.0 ss ts (subst (λ (l : List ℕ). AreRecords l ss) same a.2) b.2

one_pages : (number : ℕ) (pages : List (List ℕ)) (ss ts : List SentEvent) → ArePages number pages ss → ArePages number pages ts → ss ≡ ts
one_pages number [] ss ts a b = a ∙ sym b
one_pages number (page ∷ pages) ss ts a b =
    let here : a.0 ≡ b.0 = one_page number page a.0 b.0 a.3 b.3 in
    let later : a.1 ≡ b.1 = one_pages (number + length b.0) pages a.1 b.1 (subst (λ (l : List SentEvent). ArePages (number + length l) pages a.1) here a.4) b.4 in
    a.2 ∙ (λ i. here i ++ later i) ∙ sym b.2

-- ---- blocks

none_within : (blocks_in []).contents ≡ []
unfolding blocks_within
none_within = refl

contents_read : (contents : List (List ℕ)) → AreShort contents → (blocks_in (blocks_of contents)).contents ≡ contents
contents_read contents short =
    ap (λ (l : List ℕ). (blocks_in l).contents) (sym (append-nil (blocks_of contents)))
    ∙ ap (λ (b : Blocks). b.contents) (written_again contents [] short)
    ∙ ap (λ (l : List (List ℕ)). contents ++ l) none_within ∙ append-nil contents

pub short_head : (id : List ℕ) → length id ≡ 16 → IsShort (head_of id)
short_head id wide = omega (arith, wide, length-append id (big_bytes 8 0), length-bytes_high_first 8 0)

pages_of : (a b : List ℕ) (p q : List (List ℕ)) → a ∷ p ≡ b ∷ q → p ≡ q
pages_of a b p q e = cc

pub one_kept : (file : List ℕ) (ss ts : List SentEvent) → Keeps file ss → Keeps file ts → ss ≡ ts
one_kept file ss ts a b =
    let same : head_of a.id ∷ a.pages ≡ head_of b.id ∷ b.pages =
    sym (contents_read (head_of a.id ∷ a.pages) (short_head a.id a.is_id, a.are_short))
    ∙ ap (λ (l : List ℕ). (blocks_in l).contents) (sym a.stands ∙ b.stands)
    ∙ contents_read (head_of b.id ∷ b.pages) (short_head b.id b.is_id, b.are_short) in
    let pages : a.pages ≡ b.pages = pages_of (head_of a.id) (head_of b.id) a.pages b.pages same in
    one_pages 0 b.pages ss ts (subst (λ (p : List (List ℕ)). ArePages 0 p ss) pages a.are_pages) b.are_pages
