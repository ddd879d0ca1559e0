-- Pages of a journal's file: what the file keeps with one more, and what is left of one that is read.
use Rattle.std.proofs.Common.{◌≡◌, ℕ, ◌+◌, ◌-◌, ◌<◌, List, [], ◌∷◌, ◌++◌, Option, Some, None, option_map, IfSome, length, drop, take, refl, sym, ap, subst, ◌∙◌, arith, append_assoc, append-nil}
use Rattle.std.proofs.lemmas.List.{length-append, length-drop, take-append-drop}
use Rattle.std.proofs.Math.Seq.{drop-append_seam, take-length}
use Rattle.beam_blocks.specs.Blocks.{IsShort, block, blocks_of}
use Rattle.beam_block_file.specs.StoredBlocks.{KnownBlocks, with_block}
use Rattle.beam_machine.specs.Prelude.{SentEvent}
use Rattle.beam_records.proofs.Growing.{file_then, page_then}
use Rattle.beam_records.specs.JournalFile.{IsPage, IsRecord, Keeps}
use Rattle.beam_journal_file.specs.JournalRead.{GivesRecord, JournalRead}
use Rattle.beam_journal_file.specs.WrittenJournal.{HasTaken, HasWritten, WrittenJournal}

-- ---- a page more

blocks_more : (contents : List (List ℕ)) (page : List ℕ) → blocks_of (contents ++ page ∷ []) ≡ blocks_of contents ++ block page
blocks_more [] page = append-nil (block page)
blocks_more (c ∷ cs) page = ap (λ b. block c ++ b) (blocks_more cs page) ∙ sym (append_assoc (block c) (blocks_of cs) (block page))

known_more : (known : Option KnownBlocks) (page : List ℕ) (kept taken : List SentEvent) → IsShort page
    → IfSome known (λ k. Keeps (blocks_of k.contents) kept) → IsPage (length kept) page taken
    → IfSome (option_map (with_block page) known) (λ k. Keeps (blocks_of k.contents) (kept ++ taken))
known_more None page kept taken short keeps is = tt
known_more (Some k) page kept taken short keeps is =
    subst (λ bytes. Keeps bytes (kept ++ taken)) (sym (blocks_more k.contents page)) (file_then (blocks_of k.contents) kept page taken keeps is short)

-- the file keeps the entries of the page too, once the page is written
pub written_more : (old new : WrittenJournal) → IsShort old.page → 0 < old.taken → new.file.known ≡ option_map (with_block old.page) old.file.known
    → new.written ≡ old.written + old.taken → (kept taken : List SentEvent) → HasWritten old kept → HasTaken old taken → HasWritten new (kept ++ taken)
written_more old new short some known count kept taken (kept_count, keeps) (taken_count, is_page) =
    let counts : length (kept ++ taken) ≡ new.written = length-append kept taken ∙ (omega (arith, kept_count, taken_count, count)) in
    let page : IsPage (length kept) old.page taken = subst (λ n. IsPage n old.page taken) (sym kept_count) (is_page some) in
    (counts, subst (λ told. IfSome told (λ k. Keeps (blocks_of k.contents) (kept ++ taken))) (sym known) (known_more old.file.known old.page kept taken short keeps page))

-- the page that was begun has one entry more with its record
pub taken_more : (old begun : WrittenJournal) (page bytes : List ℕ) (s : SentEvent) → begun ≡ record old { page = begun.page } → page ≡ begun.page ++ bytes → IsRecord bytes s
    → (ss : List SentEvent) → HasTaken old ss → IsPage old.written begun.page ss
    → (length (ss ++ s ∷ []) ≡ begun.taken + 1) × (0 < begun.taken + 1 → IsPage begun.written page (ss ++ s ∷ []))
taken_more old begun page bytes s same more is ss (count, _) is_page =
    let written : old.written ≡ begun.written = sym (ap (λ (j : WrittenJournal). j.written) same) in
    let taken : begun.taken ≡ old.taken = ap (λ (j : WrittenJournal). j.taken) same in
    let counts : length (ss ++ s ∷ []) ≡ begun.taken + 1 = length-append ss (s ∷ []) ∙ (omega (arith, count, taken)) in
    let page' : IsPage begun.written (begun.page ++ bytes) (ss ++ s ∷ []) =
    subst (λ n. IsPage n (begun.page ++ bytes) (ss ++ s ∷ [])) written (page_then old.written begun.page ss bytes s is_page is) in
    (counts, λ some. subst (λ b. IsPage begun.written b (ss ++ s ∷ [])) (sym more) page')

-- ---- what is left of a page

suffix : (xs ys : List ℕ) → drop (length (xs ++ ys) - length ys) (xs ++ ys) ≡ ys
suffix xs ys =
    let count : length (xs ++ ys) - length ys ≡ length xs = omega (arith, length-append xs ys) in
    ap (λ n. drop n (xs ++ ys)) count ∙ drop-append_seam xs ys

pub tail_is : (page : List ℕ) (used : ℕ) → take (length page - used) (drop used page) ≡ drop used page
tail_is page used = ap (λ n. take n (drop used page)) (sym (length-drop used page)) ∙ take-length (drop used page)

pub rest_of : (page bytes rest : List ℕ) (used : ℕ) → drop used page ≡ bytes ++ rest → drop (length page - length rest) page ≡ rest
rest_of page bytes rest used stands =
    let whole : page ≡ (take used page ++ bytes) ++ rest =
    sym (take-append-drop used page) ∙ (ap (λ b. take used page ++ b) stands ∙ sym (append_assoc (take used page) bytes rest)) in
    subst (λ p. drop (length p - length rest) p ≡ rest) (sym whole) (suffix (take used page ++ bytes) rest)

-- the record at the front of what is left of the page
pub gives_record : (old : JournalRead) (page bytes rest : List ℕ) (used : ℕ) (s : SentEvent) → old.rest ≡ drop used page → drop used page ≡ bytes ++ rest → IsRecord bytes s
    → GivesRecord old s (record old { rest = drop (length page - length rest) page; number = old.number + 1 })
gives_record old page bytes rest used s left stands is = record {
  bytes = bytes;
  stands = left ∙ (stands ∙ ap (λ b. bytes ++ b) (sym (rest_of page bytes rest used stands)));
  is_record = is;
  known = refl;
  number = refl;
  upto = refl;
}
