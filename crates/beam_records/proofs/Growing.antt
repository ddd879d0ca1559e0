-- A file that keeps a list keeps more with one page more; a page has one event more with its record.
use Rattle.std.proofs.Common.{◌≡◌, ℕ, ◌+◌, List, [], ◌∷◌, ◌++◌, length, refl, sym, ap, subst, ◌∙◌, arith, length-append, append_assoc, append-nil}
use Rattle.byteorder.specs.Endian.{big_bytes}
use Rattle.beam_blocks.specs.Blocks.{AreShort, IsShort, block, blocks_of}
use Rattle.beam_machine.specs.Prelude.{SentEvent}
use Rattle.beam_records.specs.JournalFile.{AreRecords, ArePages, IsPage, IsRecord, Keeps, head_of}

-- ---- pages

pub empty_page : (number : ℕ) → IsPage number (big_bytes 8 number) []
empty_page number = ([], sym (append-nil (big_bytes 8 number)), refl)

one_record : (bytes : List ℕ) (s : SentEvent) → IsRecord bytes s → AreRecords bytes (s ∷ [])
one_record bytes s r = (bytes, [], sym (append-nil bytes), r, refl)

records_then : (bytes : List ℕ) (ss : List SentEvent) (more : List ℕ) (s : SentEvent) → AreRecords bytes ss → IsRecord more s → AreRecords (bytes ++ more) (ss ++ s ∷ [])
records_then bytes [] more s a r = subst (λ (l : List ℕ). AreRecords (l ++ more) (s ∷ [])) (sym a) (one_record more s r)
records_then bytes (t ∷ ss) more s a r =
    (a.0, a.1 ++ more, ap (λ (l : List ℕ). l ++ more) a.2 ∙ append_assoc a.0 a.1 more, a.3, records_then a.1 ss more s a.4 r)

pub page_then : (number : ℕ) (page : List ℕ) (ss : List SentEvent) (bytes : List ℕ) (s : SentEvent) → IsPage number page ss → IsRecord bytes s → IsPage number (page ++ bytes) (ss ++ s ∷ [])
page_then number page ss bytes s p r =
    (p.0 ++ bytes, ap (λ (l : List ℕ). l ++ bytes) p.1 ∙ append_assoc (big_bytes 8 number) p.0 bytes, records_then p.0 ss bytes s p.2 r)

-- ---- files

pub new_file : (id : List ℕ) → length id ≡ 16 → Keeps (block (head_of id)) []
new_file id wide = record {
  id = id;
  pages = [];
  is_id = wide;
  are_short = tt;
  stands = sym (append-nil (block (head_of id)));
  are_pages = refl;
}

one_page : (number : ℕ) (page : List ℕ) (ts : List SentEvent) → IsPage number page ts → ArePages number (page ∷ []) ts
one_page number page ts p = (ts, [], sym (append-nil ts), p, refl)

pages_then : (number : ℕ) (pages : List (List ℕ)) (ss : List SentEvent) (page : List ℕ) (ts : List SentEvent) → ArePages number pages ss → IsPage (number + length ss) page ts
    → ArePages number (pages ++ page ∷ []) (ss ++ ts)
pages_then number [] ss page ts a p =
    let empty : number + length ss ≡ number = omega (arith, ap length a) in
    subst (λ (l : List SentEvent). ArePages number (page ∷ []) (l ++ ts)) (sym a)
    (one_page number page ts (subst (λ (n : ℕ). IsPage n page ts) empty p))
pages_then number (first ∷ pages) ss page ts a p =
    let on : number + length ss ≡ (number + length a.0) + length a.1 = omega (arith, ap length a.2, length-append a.0 a.1) in (
      a.0,
      a.1 ++ ts,
      ap (λ (l : List SentEvent). l ++ ts) a.2 ∙ append_assoc a.0 a.1 ts,
      a.3,
      pages_then (number + length a.0) pages a.1 page ts a.4 (subst (λ (n : ℕ). IsPage n page ts) on p),
    )

short_then : (pages : List (List ℕ)) (page : List ℕ) → AreShort pages → IsShort page → AreShort (pages ++ page ∷ [])
short_then [] page a s = (s, tt)
short_then (first ∷ pages) page a s = (a.0, short_then pages page a.1 s)

blocks_then : (contents : List (List ℕ)) (page : List ℕ) → blocks_of contents ++ block page ≡ blocks_of (contents ++ page ∷ [])
blocks_then [] page = sym (append-nil (block page))
blocks_then (first ∷ contents) page = append_assoc (block first) (blocks_of contents) (block page) ∙ ap (λ (l : List ℕ). block first ++ l) (blocks_then contents page)

pub file_then : (file : List ℕ) (ss : List SentEvent) (page : List ℕ) (ts : List SentEvent) → Keeps file ss → IsPage (length ss) page ts → IsShort page → Keeps (file ++ block page) (ss ++ ts)
file_then file ss page ts k p s = record {
  id = k.id;
  pages = k.pages ++ page ∷ [];
  is_id = k.is_id;
  are_short = short_then k.pages page k.are_short s;
  stands = ap (λ (l : List ℕ). l ++ block page) k.stands ∙ blocks_then (head_of k.id ∷ k.pages) page;
  are_pages = pages_then 0 k.pages ss page ts k.are_pages (subst (λ (n : ℕ). IsPage n page ts) (omega arith) p);
}
