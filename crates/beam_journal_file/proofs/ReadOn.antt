-- A reader that gives entries reads on in its file: by recursion on the blocks that it read.
use Rattle.std.proofs.Common.{◌≡◌, ℕ, inl, inr, List, [], ◌∷◌, ◌++◌, Option, Some, None, option_map, IfSome, refl, sym, subst, ◌∙◌}
use Rattle.std.specs.Iterator.{Yields}
use Rattle.byteorder.specs.Endian.{big_bytes}
use Rattle.beam_block_file.specs.StoredBlocks.{IsNext, KnownBlocks, with_next}
use Rattle.beam_machine.specs.Prelude.{SentEvent}
use Rattle.beam_journal_file.specs.JournalRead.{JournalRead, KnowsMore, ReadsBlocks, ReadsOn, gives}

read_further : (old middle new : KnownBlocks) (contents more : List (List ℕ)) → ReadsBlocks old contents middle → ReadsBlocks middle more new
    → ReadsBlocks old (contents ++ more) new
read_further old middle new [] more same reads = subst (λ (k : KnownBlocks). ReadsBlocks k more new) same reads
read_further old middle new (content ∷ contents) more (is, first) reads = (is, read_further (with_next content old) middle new contents more first reads)

knows_same : (known : Option KnownBlocks) → KnowsMore known known
knows_same None = refl
knows_same (Some k) = ([], k, refl, refl)

knows_next : (known : Option KnownBlocks) (content : List ℕ) → IfSome known (IsNext content) → KnowsMore known (option_map (with_next content) known)
knows_next None content is = refl
knows_next (Some k) content is = (content ∷ [], with_next content k, refl, (is, refl))

knows_further : (old middle new : Option KnownBlocks) → KnowsMore old middle → KnowsMore middle new → KnowsMore old new
knows_further None middle new none more = subst (λ (k : Option KnownBlocks). KnowsMore k new) none more
knows_further (Some k) middle new (contents, m, is, first) more =
    let (others, n, here, reads) = subst (λ (o : Option KnownBlocks). KnowsMore o new) is more in
    (contents ++ others, n, here, read_further k m n contents others first reads)

pub reads_same : (r : JournalRead) → ReadsOn r r
reads_same r = record { known = knows_same r.known; upto = refl }

pub reads_further : (r s t : JournalRead) → ReadsOn r s → ReadsOn s t → ReadsOn r t
reads_further r s t first more = record { known = knows_further r.known s.known t.known first.known more.known; upto = more.upto ∙ first.upto }

reads_next : (r t : JournalRead) (next : Option SentEvent) → gives r next t → ReadsOn r t
reads_next r t None (same, over) = subst (λ (j : JournalRead). ReadsOn r j) (sym same) (reads_same r)
reads_next r t (Some s) (before, inl one) = record {
  known = subst (λ (k : Option KnownBlocks). KnowsMore r.known k) (sym one.known) (knows_same r.known);
  upto = one.upto;
}
reads_next r t (Some s) (before, inr (m, page, one)) = record {
  known = subst (λ (k : Option KnownBlocks). KnowsMore r.known k) (sym (one.known ∙ page.known)) (knows_next r.known (big_bytes 8 r.number ++ m.rest) page.is_next);
  upto = one.upto ∙ page.upto;
}

-- it gave these entries, one after another
pub reads_those : (r t : JournalRead) (given : List SentEvent) → Yields gives r given t → ReadsOn r t
reads_those r t [] same = subst (λ (j : JournalRead). ReadsOn r j) same (reads_same r)
reads_those r t (s ∷ given) (j, one, others) = reads_further r j t (reads_next r j (Some s) one) (reads_those j t given others)
