-- Files that are prepared one after another.
use Rattle.std.proofs.Common.{◌≡◌, ℕ, suc, ◌+◌, ◌<◌, List, [], ◌∷◌, ◌++◌, length, take, drop, get_or, sym, ap, subst, ◌∙◌}
use Rattle.std.proofs.lemmas.List.{take_more}
use Rattle.std.proofs.Math.Seq.{split_at}
use Rattle.beam_machine.specs.declared.command.Response.{Response}
use Rattle.beam_machine.specs.declared.command.Response.TheVariants as response
use Rattle.beam_machine.specs.declared.event.Refused.TheVariants as refused
use Rattle.beam_model.specs.Prelude.{Listing}
use Rattle.beam_remote.specs.Prelude.{IsPrepared, ArePrepared, IsUnprepared, AreUnprepared}

one_more : (files : List (List ℕ)) (ls : List Listing) (file : List ℕ) (l : Listing) → ArePrepared files ls → IsPrepared file l → ArePrepared (files ++ file ∷ []) (ls ++ l ∷ [])
one_more [] [] file l all one = (one, tt)
one_more [] (m ∷ ls) file l all one = absurd all
one_more (f ∷ files) [] file l all one = absurd all
one_more (f ∷ files) (m ∷ ls) file l all one = (all.0, one_more files ls file l all.1 one)

pub goes_on : (files : List (List ℕ)) (i : ℕ) (d file : List ℕ) (ls : List Listing) (l : Listing) → i < length files → file ≡ get_or files i d
    → ArePrepared (take i files) ls → IsPrepared file l → ArePrepared (take (i + 1) files) (ls ++ l ∷ [])
goes_on files i d file ls l lt is all one =
    let more : take (i + 1) files ≡ take i files ++ file ∷ [] = take_more files i d lt ∙ ap (λ f. take i files ++ f ∷ []) (sym is) in
    subst (λ (fs : List (List ℕ)). ArePrepared fs (ls ++ l ∷ [])) (sym more) (one_more (take i files) ls file l all one)

-- a file that isn't prepared, after others that are
pub first_isnt : (r : Response) (files : List (List ℕ)) (i : ℕ) (d file : List ℕ) (ls : List Listing) → i < length files → file ≡ get_or files i d
    → ArePrepared (take i files) ls → IsUnprepared file r → AreUnprepared files r
first_isnt (response.BadFile layer number) files i d file ls lt is all bad = record {
  before = take i files;
  bad = file;
  others = drop (suc i) files;
  stands = split_at files i d lt ∙ ap (λ f. take i files ++ f ∷ drop (suc i) files) (sym is);
  listings = ls;
  prepared = all;
  is_bad = bad;
}
first_isnt (response.Refused refused.NoMemory) files i d file ls lt is all bad = tt
first_isnt _ files i d file ls lt is all bad = absurd bad
