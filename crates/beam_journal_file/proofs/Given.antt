-- What a reader gave: by recursion on the pages that it read, one record after another. Once all records of these were given, the blocks are a
-- file that keeps what was given.
use Rattle.std.proofs.Common.{◌≡◌, ◌≢◌, ℕ, ◌+◌, ◌<◌, ◌≤◌, inl, inr, List, [], ◌∷◌, ◌++◌, Option, Some, None, option_map, IfSome, length, drop, refl, sym, ap, subst, ◌∙◌, arith, append_assoc, append-nil}
use Rattle.std.proofs.lemmas.List.{drop_all, length-append, length-drop}
use Rattle.byteorder.specs.Endian.{big_bytes}
use Rattle.beam_blocks.specs.Blocks.{AreShort, blocks_of}
use Rattle.beam_block_file.specs.StoredBlocks.{KnownBlocks, with_next, with_rest}
use Rattle.beam_machine.specs.Prelude.{SentEvent}
use Rattle.beam_records.proofs.Growing.{empty_page, page_then}
use Rattle.beam_records.specs.JournalFile.{ArePages, IsPage, IsRecord, Keeps, head_of, opening, sized}
use Rattle.beam_journal_file.specs.JournalRead.{AreGiven, GivesRecord, HasGiven, HasRead, JournalRead, ReadsPage, gives, with_next_event}
use Rattle.beam_journal_file.specs.WrittenJournal.{HasWritten, WrittenJournal}

-- ---- pages

-- a page more, of which no record was given yet
page_begun : (number : ℕ) (pages : List (List ℕ)) (ss : List SentEvent) (rest : List ℕ) → AreGiven number pages [] ss
    → AreGiven number (pages ++ (big_bytes 8 (number + length ss) ++ rest) ∷ []) rest ss
page_begun number [] ss rest (over, none) =
    let first : number ≡ number + length ss = omega (arith, ap length none) in
    let empty : IsPage number (big_bytes 8 (number + length ss)) [] = subst (λ (n : ℕ). IsPage number (big_bytes 8 n) []) first (empty_page number) in
    (big_bytes 8 (number + length ss), refl, subst (λ (l : List SentEvent). IsPage number (big_bytes 8 (number + length ss)) l) (sym none) empty)
page_begun number (page ∷ []) ss rest (given, stands, is_page) =
    let whole : given ≡ page = sym (stands ∙ append-nil given) in (
      ss,
      [],
      sym (append-nil ss),
      subst (λ (bytes : List ℕ). IsPage number bytes ss) whole is_page,
      (big_bytes 8 (number + length ss), refl, empty_page (number + length ss)),
    )
page_begun number (page ∷ next ∷ pages) ss rest (here, later, all, is_page, others) =
    let on : (number + length here) + length later ≡ number + length ss = omega (arith, ap length all, length-append here later) in (
      here,
      later,
      all,
      is_page,
      subst (λ (n : ℕ). AreGiven (number + length here) (next ∷ (pages ++ (big_bytes 8 n ++ rest) ∷ [])) rest later) on
          (page_begun (number + length here) (next ∷ pages) later rest others),
    )

opened : (seat : Option ℕ) (kind : ℕ) → 0 < length (opening seat kind)
opened None kind = omega arith
opened (Some seat) kind = omega arith

no_record : (bytes rest : List ℕ) (s : SentEvent) → bytes ++ rest ≡ [] → IsRecord bytes s → ⊥
no_record bytes rest s none is =
    omega (arith, ap length none, length-append bytes rest, ap length is.stands, length-append (opening s.seat is.kind) (sized is.kind is.body), opened s.seat is.kind)

-- the next record of the last page
record_given : (number : ℕ) (pages : List (List ℕ)) (bytes rest : List ℕ) (ss : List SentEvent) (s : SentEvent) → AreGiven number pages (bytes ++ rest) ss → IsRecord bytes s
    → AreGiven number pages rest (ss ++ s ∷ [])
record_given number [] bytes rest ss s (over, none) is = absurd (no_record bytes rest s over is)
record_given number (page ∷ []) bytes rest ss s (given, stands, is_page) is =
    (given ++ bytes, stands ∙ sym (append_assoc given bytes rest), page_then number given ss bytes s is_page is)
record_given number (page ∷ next ∷ pages) bytes rest ss s (here, later, all, is_page, others) is = (
  here,
  later ++ s ∷ [],
  ap (λ (l : List SentEvent). l ++ s ∷ []) all ∙ append_assoc here later (s ∷ []),
  is_page,
  record_given (number + length here) (next ∷ pages) bytes rest later s others is,
)

all_given : (number : ℕ) (pages : List (List ℕ)) (ss : List SentEvent) → AreGiven number pages [] ss → ArePages number pages ss
all_given number [] ss (over, none) = none
all_given number (page ∷ []) ss (given, stands, is_page) =
    let whole : given ≡ page = sym (stands ∙ append-nil given) in
    (ss, [], sym (append-nil ss), subst (λ (bytes : List ℕ). IsPage number bytes ss) whole is_page, refl)
all_given number (page ∷ next ∷ pages) ss (here, later, all, is_page, others) =
    (here, later, all, is_page, all_given (number + length here) (next ∷ pages) later others)

-- ---- the reader

known_head : (known : Option KnownBlocks) (id rest : List ℕ) → length id ≡ 16 → IfSome known (λ k. k.contents ≡ head_of id ∷ []) → rest ≡ []
    → IfSome known (λ k. HasGiven k.contents rest [])
known_head None id rest wide head over = tt
known_head (Some k) id rest wide head over = record { id = id; pages = []; is_id = wide; stand = head; are_given = (over, refl) }

-- the head was read, and nothing was given
pub none_read : (r : JournalRead) (id : List ℕ) → length id ≡ 16 → IfSome r.known (λ k. k.contents ≡ head_of id ∷ []) → r.rest ≡ [] → r.number ≡ 0 → HasRead r []
none_read r id wide head over none = (sym none, known_head r.known id r.rest wide head over)

known_page : (known : Option KnownBlocks) (number : ℕ) (rest : List ℕ) (ss : List SentEvent) → length ss ≡ number → IfSome known (λ k. HasGiven k.contents [] ss)
    → IfSome (option_map (with_next (big_bytes 8 number ++ rest)) known) (λ k. HasGiven k.contents rest ss)
known_page None number rest ss count given = tt
known_page (Some k) number rest ss count given =
    let next : 0 + length ss ≡ number = omega (arith, count) in record {
      id = given.id;
      pages = given.pages ++ (big_bytes 8 number ++ rest) ∷ [];
      is_id = given.is_id;
      stand = ap (λ (contents : List (List ℕ)). contents ++ (big_bytes 8 number ++ rest) ∷ []) given.stand;
      are_given = subst (λ (n : ℕ). AreGiven 0 (given.pages ++ (big_bytes 8 n ++ rest) ∷ []) rest ss) next (page_begun 0 given.pages ss rest given.are_given);
    }

pub page_read : (old new : JournalRead) → ReadsPage old new → (ss : List SentEvent) → HasRead old ss → HasRead new ss
page_read old new page ss (count, given) =
    let all : IfSome old.known (λ k. HasGiven k.contents [] ss) = subst (λ (rest : List ℕ). IfSome old.known (λ k. HasGiven k.contents rest ss)) page.is_over given in (
      count ∙ sym page.number,
      subst (λ (known : Option KnownBlocks). IfSome known (λ k. HasGiven k.contents new.rest ss)) (sym page.known)
          (known_page old.known old.number new.rest ss count all),
    )

known_record : (known : Option KnownBlocks) (bytes rest : List ℕ) (ss : List SentEvent) (s : SentEvent) → IfSome known (λ k. HasGiven k.contents (bytes ++ rest) ss)
    → IsRecord bytes s → IfSome known (λ k. HasGiven k.contents rest (ss ++ s ∷ []))
known_record None bytes rest ss s given is = tt
known_record (Some k) bytes rest ss s given is = record {
  id = given.id;
  pages = given.pages;
  is_id = given.is_id;
  stand = given.stand;
  are_given = record_given 0 given.pages bytes rest ss s given.are_given is;
}

pub record_read : (old new : JournalRead) (s : SentEvent) → GivesRecord old s new → (ss : List SentEvent) → HasRead old ss → HasRead new (ss ++ s ∷ [])
record_read old new s one ss (count, given) =
    let stands : IfSome old.known (λ k. HasGiven k.contents (one.bytes ++ new.rest) ss) =
    subst (λ (rest : List ℕ). IfSome old.known (λ k. HasGiven k.contents rest ss)) one.stands given in (
      length-append ss (s ∷ []) ∙ (omega (arith, count, one.number)),
      subst (λ (known : Option KnownBlocks). IfSome known (λ k. HasGiven k.contents new.rest (ss ++ s ∷ []))) (sym one.known)
          (known_record old.known one.bytes new.rest ss s stands one.is_record),
    )

pub next_read : (old new : JournalRead) (next : Option SentEvent) → gives old next new → (ss : List SentEvent) → HasRead old ss → HasRead new (with_next_event ss next)
next_read old new None (same, end) ss read = subst (λ (r : JournalRead). HasRead r ss) (sym same) read
next_read old new (Some s) (before, inl one) ss read = record_read old new s one ss read
next_read old new (Some s) (before, inr (middle, page, one)) ss read = record_read middle new s one ss (page_read old middle page ss read)

-- ---- the writer that goes on

known_whole : (known : Option KnownBlocks) (ss : List SentEvent) → IfSome (option_map (with_rest []) known) (λ k. AreShort k.contents)
    → IfSome known (λ k. HasGiven k.contents [] ss) → IfSome (option_map (with_rest []) known) (λ k. Keeps (blocks_of k.contents) ss)
known_whole None ss short given = tt
known_whole (Some k) ss short given = record {
  id = given.id;
  pages = given.pages;
  is_id = given.is_id;
  are_short = (subst (λ (contents : List (List ℕ)). AreShort contents) given.stand short).1;
  stands = ap blocks_of given.stand;
  are_pages = all_given 0 given.pages ss given.are_given;
}

-- all that was given is what the file keeps, if no records of the last page are left
pub goes_on : (r : JournalRead) (w : WrittenJournal) → r.rest ≡ [] → w.file.known ≡ option_map (with_rest []) r.known → IfSome w.file.known (λ k. AreShort k.contents)
    → w.written ≡ r.number → (ss : List SentEvent) → HasRead r ss → HasWritten w ss
goes_on r w over known short number ss (count, given) =
    let all : IfSome r.known (λ k. HasGiven k.contents [] ss) = subst (λ (rest : List ℕ). IfSome r.known (λ k. HasGiven k.contents rest ss)) over given in
    let are_short : IfSome (option_map (with_rest []) r.known) (λ k. AreShort k.contents) =
    subst (λ (told : Option KnownBlocks). IfSome told (λ k. AreShort k.contents)) known short in (
      count ∙ sym number,
      subst (λ (told : Option KnownBlocks). IfSome told (λ k. Keeps (blocks_of k.contents) ss)) (sym known) (known_whole r.known ss are_short all),
    )

pub none_left : (used : ℕ) (page : List ℕ) → length page ≤ used → drop used page ≡ []
none_left used page all = drop_all used page all

pub some_left : (used : ℕ) (page : List ℕ) → used < length page → drop used page ≢ []
some_left used page less = λ none. omega (arith, length-drop used page, ap length none)
