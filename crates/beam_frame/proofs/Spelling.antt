-- The bytes that spell a command are read as that command, and bytes spell the command that is read from them.
use Rattle.std.proofs.Common.{◌≡◌, ℕ, ◌≤◌, Bool, true, false, not, cond, eqb, IsTrue, List, [], ◌∷◌, ◌++◌, length, take, drop, Result, Ok, Err, Option, Some, None, refl, sym, ap, subst, ◌∙◌, suc, zero, arith, ◌&&◌, nat_lt, ℤ, codes, ltb-false, le-ltb, eqb-true, eq-eqb, append-nil, length-append, length-take-le, take-append-drop}
use Rattle.std.specs.Option.{option_map, option_and_then}
use Rattle.std.specs.Str.{is_utf8, chars}
use Rattle.std.proofs.lemmas.Str.{IsUtf8-from_is_utf8, is_utf8-from_IsUtf8}
use Rattle.beam_lemmas.proofs.SameText.{text_is}
use Rattle.beam_lemmas.proofs.Options.{chained, mapped}
use Rattle.byteorder.specs.Endian.{big_number}
use Rattle.beam_model.specs.Prelude.{IsExternal, ExternalFault, external_at, elements_in, put_before, same_text}
use Rattle.beam_term.specs.Prelude.{IsAtomText, elements_of-terms_of, terms_of-elements_of, TermValue, int_term, atom_term, reference_term, pid_term, nil_term, pair_term, tuple_term, terms_of, elements_of, tuple_of, list_of}
use Rattle.beam_etf.proofs.ReadingComplete.{external_again}
use Rattle.beam_etf.proofs.ReadingSoundParts.{external_takes}
use Rattle.beam_machine.specs.declared.command.CommandKind.{CommandKind}
use Rattle.beam_machine.specs.declared.debug.DebugEvent.TheVariants.{SetBreak, ClearBreak, Resume, StepOne, Inspect, Node}
use Rattle.beam_machine.specs.declared.debug.Spot.{Spot}
use Rattle.beam_machine.specs.declared.debug.Version.{Version}
use Rattle.beam_machine.specs.declared.debug.Version.TheVariants.{Current, Old}
use Rattle.beam_machine.specs.declared.event.UpgradeMode.{UpgradeMode}
use Rattle.beam_machine.specs.declared.event.UpgradeMode.TheVariants.{Strict, Soft, Hard}
use Rattle.beam_machine.specs.Prelude.{Command, IsNumber, names_process, version_text, spot_term, spot_at, mode_number, AreFiles, no_files, one_file, SpellsCommand, load, load_strict, delete, soft_purge, purge, spawn, send, deliver, timeout, set_break, clear_break, resume, step_one, inspect, versions, atomic_load, kind_of, atom_in_body, number_in_body, only_term, term_read, term_in, fields_of, fields_in, spawned, spawn_of, send_of, version_of, spot_of, steps_in, mode_of, after_number, file_before, files_in, atomic_load_in, command_in, command_of}
use Rattle.beam_machine.specs.declared.command.CommandKind.TheVariants as kind
use Rattle.beam_machine.specs.declared.event.Event.TheVariants as event
use Rattle.beam_machine.specs.Frames.{steps, clock}

-- ---- a spelled command is read

pub atom_again : (name : List ℕ) → IsAtomText name → atom_in_body name ≡ Some name
unfolding atom_in_body
atom_again name h = rw (is_utf8-from_IsUtf8 name h.utf8, le-ltb 255 (length (chars name)) h.short) refl

number_again : (count : ℕ) (field : List ℕ) (n : ℕ) → IsNumber count field n → number_in_body count field ≡ Some n
unfolding number_in_body
number_again count field n h = rw (eq-eqb (length field) count h.wide) (ap Some h.value)

term_again : (body : List ℕ) (t : TermValue) → IsExternal body t → term_in body ≡ Some t
unfolding term_in
term_again body t h = ap term_read (ap external_at (sym (append-nil body)) ∙ external_again body t h [])

fields_again : (body : List ℕ) (xs : List TermValue) → IsExternal body (tuple_of xs) → fields_in body ≡ Some xs
fields_again body xs h = ap (option_and_then fields_of) (term_again body (tuple_of xs) h) ∙ ap Some (elements_of-terms_of xs)

elements_again : (xs : List TermValue) → elements_in (list_of xs) ≡ Some xs
elements_again [] = refl
elements_again (x ∷ xs) = ap (put_before x) (elements_again xs)

spawn_again : (name function : List ℕ) (arguments : List TermValue) → length arguments ≤ 255
    → spawn_of (atom_term name ∷ atom_term function ∷ list_of arguments ∷ []) ≡ Some (Node (event.Spawn name function arguments))
spawn_again name function arguments few = rw (elements_again arguments, le-ltb 255 (length arguments) few) refl

send_again : (to message : TermValue) → IsTrue (names_process to) → send_of (to ∷ message ∷ []) ≡ Some (Node (event.Send to message))
send_again (atom_term a) message h = refl
send_again (pid_term n i s c) message h = refl
send_again (int_term n) message h = absurd cc
send_again (reference_term n c w) message h = absurd cc
send_again nil_term message h = absurd cc
send_again (pair_term a b) message h = absurd cc
send_again (tuple_term xs) message h = absurd cc

spot_again : (version : Version) (name : List ℕ) (label rows : ℤ)
    → spot_of (atom_term (version_text version) ∷ atom_term name ∷ int_term label ∷ int_term rows ∷ []) ≡ Some (spot_at version name label rows)
spot_again Current name label rows = refl
spot_again Old name label rows = refl

take_first : (xs ys : List ℕ) → take (length xs) (xs ++ ys) ≡ xs
take_first [] ys = refl
take_first (x ∷ xs) ys = ap (λ r. x ∷ r) (take_first xs ys)

drop_first : (xs ys : List ℕ) → drop (length xs) (xs ++ ys) ≡ ys
drop_first [] ys = refl
drop_first (x ∷ xs) ys = drop_first xs ys

steps_again : (first second : List ℕ) (pid rows : ℕ) → IsNumber 4 first pid → IsNumber 4 second rows → steps_in (first ++ second) ≡ Some (Node (event.Steps pid rows))
steps_again first second pid rows a b =
    let front : take 4 (first ++ second) ≡ first = ap (λ n. take n (first ++ second)) (sym a.wide) ∙ take_first first second in
    let back : drop 4 (first ++ second) ≡ second = ap (λ n. drop n (first ++ second)) (sym a.wide) ∙ drop_first first second in
    rw (front, back, number_again 4 first pid a, number_again 4 second rows b) refl

mode_again : (mode : UpgradeMode) → mode_of (mode_number mode) ≡ Some mode
mode_again Strict = refl
mode_again Soft = refl
mode_again Hard = refl

after_again : {X : Type 0} (read : ℕ → List ℕ → Option X) (field rest : List ℕ) (n : ℕ) → IsNumber 4 field n → after_number read (field ++ rest) ≡ read n rest
after_again read field rest n h =
    let front : take 4 (field ++ rest) ≡ field = ap (λ n. take n (field ++ rest)) (sym h.wide) ∙ take_first field rest in
    let back : drop 4 (field ++ rest) ≡ rest = ap (λ n. drop n (field ++ rest)) (sym h.wide) ∙ drop_first field rest in
    rw (front, back, number_again 4 field n h) refl

file_again : (others : List ℕ → Option (List (List ℕ))) (file rest : List ℕ)
    → file_before others (length file) (file ++ rest) ≡ option_map (λ files. file ∷ files) (others rest)
file_again others file rest =
    let fits : length file ≤ length (file ++ rest) = omega (arith, length-append file rest) in
    rw (le-ltb (length (file ++ rest)) (length file) fits, take_first file rest, drop_first file rest) refl

files_again : (body : List ℕ) (files : List (List ℕ)) → AreFiles body files → files_in (length files) body ≡ Some files
unfolding files_in
files_again _ _ no_files = refl
files_again _ _ (one_file size file rest files h parts) =
    after_again (file_before (files_in (length files))) size (file ++ rest) (length file) h ∙ file_again (files_in (length files)) file rest
    ∙ ap (option_map (λ files. file ∷ files)) (files_again rest files parts)

atomic_again : (mode : UpgradeMode) (count body : List ℕ) (files : List (List ℕ)) → IsNumber 4 count (length files) → AreFiles body files
    → atomic_load_in (mode_number mode ∷ (count ++ body)) ≡ Some (Node (event.AtomicLoad mode files))
atomic_again mode count body files h parts =
    rw (mode_again mode, after_again files_in count body (length files) h, files_again body files parts) refl

pub read_again : (n : ℕ) (body : List ℕ) (c : Command) → SpellsCommand n body c → command_of n body ≡ Some c
unfolding kind_of
read_again _ _ _ (load file) = refl
read_again _ _ _ (load_strict file) = refl
read_again _ _ _ (delete name h) = ap (option_map (λ name. Node (event.Delete name))) (atom_again name h)
read_again _ _ _ (soft_purge name h) = ap (option_map (λ name. Node (event.SoftPurge name))) (atom_again name h)
read_again _ _ _ (purge name h) = ap (option_map (λ name. Node (event.Purge name))) (atom_again name h)
read_again _ _ _ (spawn body name function arguments few h) = ap (option_and_then spawn_of) (fields_again body (atom_term name ∷ atom_term function ∷ list_of arguments ∷ []) h) ∙ spawn_again name function arguments few
read_again _ _ _ (send body to message names h) = ap (option_and_then send_of) (fields_again body (to ∷ message ∷ []) h) ∙ send_again to message names
read_again _ _ _ (steps first second pid rows a b) = steps_again first second pid rows a b
read_again _ _ _ (deliver field pid h) = ap (option_map (λ pid. Node (event.Deliver pid))) (number_again 4 field pid h)
read_again _ _ _ (clock field now h) = ap (option_map (λ now. Node (event.Clock now))) (number_again 8 field now h)
read_again _ _ _ (timeout field pid h) = ap (option_map (λ pid. Node (event.Timeout pid))) (number_again 4 field pid h)
read_again _ _ _ (set_break body version name label rows h) =
    ap (option_map (λ spot. SetBreak spot)) (ap (option_and_then spot_of) (fields_again body (atom_term (version_text version) ∷ atom_term name ∷ int_term label ∷ int_term rows ∷ []) h) ∙ spot_again version name label rows)
read_again _ _ _ (clear_break body version name label rows h) =
    ap (option_map (λ spot. ClearBreak spot)) (ap (option_and_then spot_of) (fields_again body (atom_term (version_text version) ∷ atom_term name ∷ int_term label ∷ int_term rows ∷ []) h) ∙ spot_again version name label rows)
read_again _ _ _ (resume field pid h) = ap (option_map (λ pid. Resume pid)) (number_again 4 field pid h)
read_again _ _ _ (step_one field pid h) = ap (option_map (λ pid. StepOne pid)) (number_again 4 field pid h)
read_again _ _ _ (inspect field pid h) = ap (option_map (λ pid. Inspect pid)) (number_again 4 field pid h)
read_again _ _ _ (versions name h) = ap (option_map (λ name. Node (event.Versions name))) (atom_again name h)
read_again _ _ _ (atomic_load mode count body files h parts) = atomic_again mode count body files h parts

-- ---- a command that is read is spelled

pub some_is : {A : Type 0} (x y : A) → ◌≡◌ {A = Option A} (Some x) (Some y) → x ≡ y
some_is x y e = cc

pub none_is : {A B : Type 0} (y : A) → ◌≡◌ {A = Option A} None (Some y) → B
none_is y e = absurd cc

-- a value that a test lets through
if_some : {A : Type 0} (b : Bool) (o : Option A) (y : A) → cond b o None ≡ Some y → (b ≡ true) × (o ≡ Some y)
if_some true o y e = (refl, e)
if_some false o y e = none_is y e

unless_some : {A : Type 0} (b : Bool) (o : Option A) (y : A) → cond b None o ≡ Some y → (b ≡ false) × (o ≡ Some y)
unless_some true o y e = none_is y e
unless_some false o y e = (refl, e)

and_true : (a b : Bool) → (a && not b) ≡ true → (a ≡ true) × (b ≡ false)
and_true true false e = (refl, refl)
and_true true true e = absurd cc
and_true false b e = absurd cc

record AtomIs (body name : List ℕ) : Type 0 where
  is : name ≡ body
  lawful : IsAtomText body

atom_is : (body name : List ℕ) → atom_in_body body ≡ Some name → AtomIs body name
unfolding atom_in_body
atom_is body name e =
    let t = if_some (is_utf8 body && not (nat_lt 255 (length (chars body)))) (Some body) name e in
    let p = and_true (is_utf8 body) (nat_lt 255 (length (chars body))) t.0 in
    record { is = sym (some_is body name t.1); lawful = record { utf8 = IsUtf8-from_is_utf8 body p.0; short = ltb-false 255 (length (chars body)) p.1 } }

number_is : (count : ℕ) (body : List ℕ) (n : ℕ) → number_in_body count body ≡ Some n → IsNumber count body n
unfolding number_in_body
number_is count body n e =
    let t = if_some (eqb (length body) count) (Some (big_number count body)) n e in
    record { wide = eqb-true (length body) count t.0; value = some_is (big_number count body) n t.1 }

only_is : (s : TermValue) (rest : List ℕ) (t : TermValue) → only_term s rest ≡ Some t → (s ≡ t) × (rest ≡ [])
only_is s [] t e = (some_is s t e, refl)
only_is s (b ∷ rest) t e = none_is t e

read_is : (r : Result (TermValue × List ℕ) ExternalFault) (t : TermValue) → term_read r ≡ Some t → r ≡ Ok (t, [])
read_is (Ok x) t e = let p = only_is x.0 x.1 t e in λ i. Ok (p.0 i, p.1 i)
read_is (Err f) t e = none_is t e

term_is : (body : List ℕ) (t : TermValue) → term_in body ≡ Some t → IsExternal body t
unfolding term_in
term_is body t e =
    let x = external_takes body t [] (read_is (external_at body) t e) in
    subst (λ (f : List ℕ). IsExternal f t) (sym (x.parts ∙ append-nil x.front)) x.external

tuple_is : (t : TermValue) (xs : List TermValue) → fields_of t ≡ Some xs → t ≡ tuple_of xs
tuple_is (tuple_term items) xs e = ap tuple_term (sym (terms_of-elements_of items) ∙ ap terms_of (some_is (elements_of items) xs e))
tuple_is (int_term n) xs e = none_is xs e
tuple_is (atom_term a) xs e = none_is xs e
tuple_is (reference_term n c w) xs e = none_is xs e
tuple_is (pid_term n i s c) xs e = none_is xs e
tuple_is nil_term xs e = none_is xs e
tuple_is (pair_term a b) xs e = none_is xs e

fields_are : (body : List ℕ) (xs : List TermValue) → fields_in body ≡ Some xs → IsExternal body (tuple_of xs)
fields_are body xs e =
    let p = chained fields_of (term_in body) xs e in
    subst (λ (t : TermValue). IsExternal body t) (tuple_is p.0 xs p.2) (term_is body p.0 p.1)

put_is : (x : TermValue) (o : Option (List TermValue)) (xs : List TermValue) → put_before x o ≡ Some xs → (rest : List TermValue) × (o ≡ Some rest) × (x ∷ rest ≡ xs)
put_is x (Some rest) xs e = (rest, refl, some_is (x ∷ rest) xs e)
put_is x None xs e = none_is xs e

list_is : (t : TermValue) (xs : List TermValue) → elements_in t ≡ Some xs → t ≡ list_of xs
list_is nil_term xs e = ap list_of (some_is [] xs e)
list_is (pair_term x rest) xs e =
    let p = put_is x (elements_in rest) xs e in
    ap (pair_term x) (list_is rest p.0 p.1) ∙ ap list_of p.2
list_is (int_term n) xs e = none_is xs e
list_is (atom_term a) xs e = none_is xs e
list_is (reference_term n c w) xs e = none_is xs e
list_is (pid_term n i s c) xs e = none_is xs e
list_is (tuple_term items) xs e = none_is xs e

spawn_is : (body : List ℕ) (xs : List TermValue) (c : Command) → IsExternal body (tuple_of xs) → spawn_of xs ≡ Some c → SpellsCommand 6 body c
spawn_is body (atom_term name ∷ atom_term function ∷ list ∷ []) c h e =
    let p = chained (spawned name function) (elements_in list) c e in
    let q = unless_some (nat_lt 255 (length p.0)) (Some (Node (event.Spawn name function p.0))) c p.2 in
    let whole : IsExternal body (tuple_of (atom_term name ∷ atom_term function ∷ list_of p.0 ∷ [])) =
    subst (λ (l : TermValue). IsExternal body (tuple_of (atom_term name ∷ atom_term function ∷ l ∷ []))) (list_is list p.0 p.1) h in
    subst (λ (d : Command). SpellsCommand 6 body d) (some_is (Node (event.Spawn name function p.0)) c q.1) (spawn body name function p.0 (ltb-false 255 (length p.0) q.0) whole)
spawn_is body _ c h e = none_is c e

send_is : (body : List ℕ) (xs : List TermValue) (c : Command) → IsExternal body (tuple_of xs) → send_of xs ≡ Some c → SpellsCommand 7 body c
send_is body (to ∷ message ∷ []) c h e =
    let p = if_some (names_process to) (Some (Node (event.Send to message))) c e in
    subst (λ (d : Command). SpellsCommand 7 body d) (some_is (Node (event.Send to message)) c p.1) (send body to message p.0 h)
send_is body _ c h e = none_is c e

version_by : (text : List ℕ) (v : Version) (current old : Bool) → same_text text (codes "current") ≡ current → same_text text (codes "old") ≡ old
    → cond current (Some Current) (cond old (Some Old) None) ≡ Some v → text ≡ version_text v
version_by text v true old f g e = text_is text (codes "current") f ∙ ap version_text (some_is Current v e)
version_by text v false true f g e = text_is text (codes "old") g ∙ ap version_text (some_is Old v e)
version_by text v false false f g e = none_is v e

version_is : (text : List ℕ) (v : Version) → version_of text ≡ Some v → text ≡ version_text v
version_is text v e = version_by text v (same_text text (codes "current")) (same_text text (codes "old")) refl refl e

-- the spot that fields name
record SpotIs (body : List ℕ) (s : Spot) : Type 0 where
  version : Version
  name : List ℕ
  label : ℤ
  rows : ℤ
  whole : IsExternal body (spot_term version name label rows)
  is : spot_at version name label rows ≡ s

spot_is : (body : List ℕ) (xs : List TermValue) (s : Spot) → IsExternal body (tuple_of xs) → spot_of xs ≡ Some s → SpotIs body s
spot_is body (atom_term text ∷ atom_term name ∷ int_term label ∷ int_term rows ∷ []) s h e =
    let p = mapped (λ version. spot_at version name label rows) (version_of text) s e in
    record {
      version = p.0;
      name = name;
      label = label;
      rows = rows;
      whole = subst (λ (t : List ℕ). IsExternal body (tuple_of (atom_term t ∷ atom_term name ∷ int_term label ∷ int_term rows ∷ []))) (version_is text p.0 p.1) h;
      is = p.2;
    }
spot_is body _ s h e = none_is s e

spot_in : (body : List ℕ) (s : Spot) → option_and_then spot_of (fields_in body) ≡ Some s → SpotIs body s
spot_in body s e =
    let p = chained spot_of (fields_in body) s e in
    spot_is body p.0 s (fields_are body p.0 p.1) p.2

by_atom : (n : ℕ) (make : List ℕ → Command) (body : List ℕ) (c : Command) → ((name : List ℕ) → IsAtomText name → SpellsCommand n name (make name))
    → option_map make (atom_in_body body) ≡ Some c → SpellsCommand n body c
by_atom n make body c spells e =
    let p = mapped make (atom_in_body body) c e in
    let a = atom_is body p.0 p.1 in
    subst (λ (d : Command). SpellsCommand n body d) (ap make (sym a.is) ∙ p.2) (spells body a.lawful)

by_number : (n count : ℕ) (make : ℕ → Command) (body : List ℕ) (c : Command) → ((field : List ℕ) (m : ℕ) → IsNumber count field m → SpellsCommand n field (make m))
    → option_map make (number_in_body count body) ≡ Some c → SpellsCommand n body c
by_number n count make body c spells e =
    let p = mapped make (number_in_body count body) c e in
    subst (λ (d : Command). SpellsCommand n body d) p.2 (spells body p.0 (number_is count body p.0 p.1))

by_spot : (n : ℕ) (make : Spot → Command) (body : List ℕ) (c : Command)
    → ((version : Version) (name : List ℕ) (label rows : ℤ) → IsExternal body (spot_term version name label rows) → SpellsCommand n body (make (spot_at version name label rows)))
    → option_map make (option_and_then spot_of (fields_in body)) ≡ Some c → SpellsCommand n body c
by_spot n make body c spells e =
    let p = mapped make (option_and_then spot_of (fields_in body)) c e in
    let s = spot_in body p.0 p.1 in
    subst (λ (d : Command). SpellsCommand n body d) (ap make s.is ∙ p.2) (spells s.version s.name s.label s.rows s.whole)

steps_is : (body : List ℕ) (c : Command) → steps_in body ≡ Some c → SpellsCommand 8 body c
steps_is body c e =
    let p = chained (λ pid. option_map (λ rows. Node (event.Steps pid rows)) (number_in_body 4 (drop 4 body))) (number_in_body 4 (take 4 body)) c e in
    let q = mapped (λ rows. Node (event.Steps p.0 rows)) (number_in_body 4 (drop 4 body)) c p.2 in
    let both : SpellsCommand 8 (take 4 body ++ drop 4 body) (Node (event.Steps p.0 q.0)) =
    steps (take 4 body) (drop 4 body) p.0 q.0 (number_is 4 (take 4 body) p.0 p.1) (number_is 4 (drop 4 body) q.0 q.1) in
    subst (λ (b : List ℕ). SpellsCommand 8 b c) (take-append-drop 4 body) (subst (λ (d : Command). SpellsCommand 8 (take 4 body ++ drop 4 body) d) q.2 both)

mode_by : (n : ℕ) (mode : UpgradeMode) (a b c : Bool) → eqb n 0 ≡ a → eqb n 1 ≡ b → eqb n 2 ≡ c
    → cond a (Some Strict) (cond b (Some Soft) (cond c (Some Hard) None)) ≡ Some mode → mode_number mode ≡ n
mode_by n mode true b c f g h e = sym (eqb-true n 0 f ∙ ap mode_number (some_is Strict mode e))
mode_by n mode false true c f g h e = sym (eqb-true n 1 g ∙ ap mode_number (some_is Soft mode e))
mode_by n mode false false true f g h e = sym (eqb-true n 2 h ∙ ap mode_number (some_is Hard mode e))
mode_by n mode false false false f g h e = none_is mode e

mode_is : (n : ℕ) (mode : UpgradeMode) → mode_of n ≡ Some mode → mode_number mode ≡ n
mode_is n mode e = mode_by n mode (eqb n 0) (eqb n 1) (eqb n 2) refl refl refl e

-- bytes that are a number, and then as many files
record FilesAre (count : ℕ) (bytes : List ℕ) (files : List (List ℕ)) : Type 0 where
  counts : length files ≡ count
  parts : AreFiles bytes files

files_are : (count : ℕ) (bytes : List ℕ) (files : List (List ℕ)) → files_in count bytes ≡ Some files → FilesAre count bytes files
unfolding files_in
files_are zero [] files e = subst (λ (files : List (List ℕ)). FilesAre zero [] files) (some_is [] files e) (record { counts = refl; parts = no_files })
files_are zero (byte ∷ rest) files e = none_is files e
files_are (suc n) bytes files e =
    let rest : List ℕ = drop 4 bytes in
    let p = chained (λ size. file_before (files_in n) size rest) (number_in_body 4 (take 4 bytes)) files e in
    let size : ℕ = p.0 in
    let q = unless_some (nat_lt (length rest) size) (option_map (λ others. take size rest ∷ others) (files_in n (drop size rest))) files p.2 in
    let r = mapped (λ others. take size rest ∷ others) (files_in n (drop size rest)) files q.1 in
    let others = files_are n (drop size rest) r.0 r.1 in
    let long : length (take size rest) ≡ size = length-take-le size rest (ltb-false (length rest) size q.0) in
    let field = number_is 4 (take 4 bytes) (length (take size rest)) (p.1 ∙ ap Some (sym long)) in
    let whole : take 4 bytes ++ (take size rest ++ drop size rest) ≡ bytes = ap (λ r. take 4 bytes ++ r) (take-append-drop size rest) ∙ take-append-drop 4 bytes in
    record {
      counts = ap length (sym r.2) ∙ ap suc others.counts;
      parts = subst (λ (b : List ℕ). AreFiles b files) whole
          (subst (λ (fs : List (List ℕ)). AreFiles (take 4 bytes ++ (take size rest ++ drop size rest)) fs) r.2
          (one_file (take 4 bytes) (take size rest) (drop size rest) r.0 field others.parts));
    }

atomic_is : (body : List ℕ) (c : Command) → atomic_load_in body ≡ Some c → SpellsCommand 18 body c
atomic_is [] c e = none_is c e
atomic_is (n ∷ body) c e =
    let p = chained (λ mode. option_map (λ files. Node (event.AtomicLoad mode files)) (after_number files_in body)) (mode_of n) c e in
    let q = mapped (λ files. Node (event.AtomicLoad p.0 files)) (after_number files_in body) c p.2 in
    let r = chained (λ count. files_in count (drop 4 body)) (number_in_body 4 (take 4 body)) q.0 q.1 in
    let files = files_are r.0 (drop 4 body) q.0 r.2 in
    let field = number_is 4 (take 4 body) (length q.0) (r.1 ∙ ap Some (sym files.counts)) in
    let whole : SpellsCommand 18 (mode_number p.0 ∷ (take 4 body ++ drop 4 body)) (Node (event.AtomicLoad p.0 q.0)) =
    atomic_load p.0 (take 4 body) (drop 4 body) q.0 field files.parts in
    let same : mode_number p.0 ∷ (take 4 body ++ drop 4 body) ≡ n ∷ body = λ i. mode_is n p.0 p.1 i ∷ take-append-drop 4 body i in
    subst (λ (b : List ℕ). SpellsCommand 18 b c) same (subst (λ (d : Command). SpellsCommand 18 (mode_number p.0 ∷ (take 4 body ++ drop 4 body)) d) q.2 whole)

-- the number of a kind
abbrev numbered : CommandKind → ℕ
numbered kind.Load = 1
numbered kind.LoadStrict = 2
numbered kind.Delete = 3
numbered kind.SoftPurge = 4
numbered kind.Purge = 5
numbered kind.Spawn = 6
numbered kind.Send = 7
numbered kind.Steps = 8
numbered kind.Deliver = 9
numbered kind.Clock = 10
numbered kind.Timeout = 11
numbered kind.SetBreak = 12
numbered kind.ClearBreak = 13
numbered kind.Resume = 14
numbered kind.StepOne = 15
numbered kind.Inspect = 16
numbered kind.Versions = 17
numbered kind.AtomicLoad = 18

choice_by : (b : Bool) (n m : ℕ) (k l : CommandKind) (rest : Option CommandKind) → (b ≡ true → n ≡ m) → m ≡ numbered k
    → cond b (Some k) rest ≡ Some l → (rest ≡ Some l → n ≡ numbered l) → n ≡ numbered l
choice_by true n m k l rest test is e more = test refl ∙ is ∙ ap numbered (some_is k l e)
choice_by false n m k l rest test is e more = more e

choice : (n m : ℕ) (k l : CommandKind) (rest : Option CommandKind) → m ≡ numbered k
    → cond (eqb n m) (Some k) rest ≡ Some l → (rest ≡ Some l → n ≡ numbered l) → n ≡ numbered l
choice n m k l rest is e more = choice_by (eqb n m) n m k l rest (eqb-true n m) is e more

kind_is : (n : ℕ) (l : CommandKind) → kind_of n ≡ Some l → n ≡ numbered l
unfolding kind_of
kind_is n l e =
    choice n 1 kind.Load l _ refl e (λ e.
    choice n 2 kind.LoadStrict l _ refl e (λ e.
    choice n 3 kind.Delete l _ refl e (λ e.
    choice n 4 kind.SoftPurge l _ refl e (λ e.
    choice n 5 kind.Purge l _ refl e (λ e.
    choice n 6 kind.Spawn l _ refl e (λ e.
    choice n 7 kind.Send l _ refl e (λ e.
    choice n 8 kind.Steps l _ refl e (λ e.
    choice n 9 kind.Deliver l _ refl e (λ e.
    choice n 10 kind.Clock l _ refl e (λ e.
    choice n 11 kind.Timeout l _ refl e (λ e.
    choice n 12 kind.SetBreak l _ refl e (λ e.
    choice n 13 kind.ClearBreak l _ refl e (λ e.
    choice n 14 kind.Resume l _ refl e (λ e.
    choice n 15 kind.StepOne l _ refl e (λ e.
    choice n 16 kind.Inspect l _ refl e (λ e.
    choice n 17 kind.Versions l _ refl e (λ e.
    choice n 18 kind.AtomicLoad l None refl e (λ e. none_is l e))))))))))))))))))

spelled_by : (k : CommandKind) (body : List ℕ) (c : Command) → command_in k body ≡ Some c → SpellsCommand (numbered k) body c
spelled_by kind.Load body c e = subst (λ (d : Command). SpellsCommand 1 body d) (some_is (Node (event.Load body)) c e) (load body)
spelled_by kind.LoadStrict body c e = subst (λ (d : Command). SpellsCommand 2 body d) (some_is (Node (event.LoadStrict body)) c e) (load_strict body)
spelled_by kind.Delete body c e = by_atom 3 (λ name. Node (event.Delete name)) body c delete e
spelled_by kind.SoftPurge body c e = by_atom 4 (λ name. Node (event.SoftPurge name)) body c soft_purge e
spelled_by kind.Purge body c e = by_atom 5 (λ name. Node (event.Purge name)) body c purge e
spelled_by kind.Spawn body c e = let p = chained spawn_of (fields_in body) c e in spawn_is body p.0 c (fields_are body p.0 p.1) p.2
spelled_by kind.Send body c e = let p = chained send_of (fields_in body) c e in send_is body p.0 c (fields_are body p.0 p.1) p.2
spelled_by kind.Steps body c e = steps_is body c e
spelled_by kind.Deliver body c e = by_number 9 4 (λ pid. Node (event.Deliver pid)) body c deliver e
spelled_by kind.Clock body c e = by_number 10 8 (λ now. Node (event.Clock now)) body c clock e
spelled_by kind.Timeout body c e = by_number 11 4 (λ pid. Node (event.Timeout pid)) body c timeout e
spelled_by kind.SetBreak body c e = by_spot 12 (λ spot. SetBreak spot) body c (set_break body) e
spelled_by kind.ClearBreak body c e = by_spot 13 (λ spot. ClearBreak spot) body c (clear_break body) e
spelled_by kind.Resume body c e = by_number 14 4 (λ pid. Resume pid) body c resume e
spelled_by kind.StepOne body c e = by_number 15 4 (λ pid. StepOne pid) body c step_one e
spelled_by kind.Inspect body c e = by_number 16 4 (λ pid. Inspect pid) body c inspect e
spelled_by kind.Versions body c e = by_atom 17 (λ name. Node (event.Versions name)) body c versions e
spelled_by kind.AtomicLoad body c e = atomic_is body c e

pub read_is_spelled : (n : ℕ) (body : List ℕ) (c : Command) → command_of n body ≡ Some c → SpellsCommand n body c
read_is_spelled n body c e =
    let p = chained (λ k. command_in k body) (kind_of n) c e in
    subst (λ (m : ℕ). SpellsCommand m body c) (sym (kind_is n p.0 p.1)) (spelled_by p.0 body c p.2)

pub one_spelling : (n : ℕ) (body : List ℕ) (c d : Command) → SpellsCommand n body c → SpellsCommand n body d → c ≡ d
one_spelling n body c d h k = some_is c d (sym (read_again n body c h) ∙ read_again n body d k)
