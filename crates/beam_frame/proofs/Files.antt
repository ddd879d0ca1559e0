-- Files that are read one after another, as a loop does.
use Rattle.std.proofs.Common.{◌≡◌, ℕ, suc, ◌-◌, ◌+◌, ◌≤◌, ◌<◌, Bool, true, false, cond, List, [], ◌∷◌, ◌++◌, length, take, drop, Option, Some, None, refl, sym, ap, ◌∙◌, append_assoc, arith, nat_lt, append-nil}
use Rattle.std.specs.Option.{option_map, option_and_then}
use Rattle.beam_machine.specs.Prelude.{number_in_body, after_number, file_before, files_in}
use Rattle.beam_frame.specs.Faults.{Misses}
use Rattle.beam_frame.specs.Files.{sized_file}
use Rattle.beam_frame.specs.declared.error.FrameError.{FrameError}
use Rattle.beam_frame.specs.declared.error.FrameError.TheVariants.{TooLong, BadKind, BadCommand, NoMemory, Failed}
use Rattle.beam_frame.proofs.Spelling.{some_is, none_is}

-- the files so far, and then those of the rest
abbrev pub with_front : List (List ℕ) → Option (List (List ℕ)) → Option (List (List ℕ))
with_front front read = option_map (λ files. front ++ files) read

regroup : (front : List (List ℕ)) (file : List ℕ) (read : Option (List (List ℕ))) → with_front front (option_map (λ files. file ∷ files) read) ≡ with_front (front ++ file ∷ []) read
regroup front file (Some files) = ap Some (sym (append_assoc front (file ∷ []) files))
regroup front file None = refl

room_found : (b : Bool) (others : List ℕ → Option (List (List ℕ))) (found left file rest : List ℕ)
    → ◌≡◌ {A = Option (List ℕ × List ℕ)} (cond b None (Some (found, left))) (Some (file, rest))
    → cond b None (option_map (λ files. found ∷ files) (others left)) ≡ option_map (λ files. file ∷ files) (others rest)
room_found true others found left file rest e = none_is (file, rest) e
room_found false others found left file rest e =
    ap (λ (p : List ℕ × List ℕ). option_map (λ files. p.0 ∷ files) (others p.1)) (some_is (found, left) (file, rest) e)

found_first : (o : Option ℕ) (others : List ℕ → Option (List (List ℕ))) (bytes file rest : List ℕ) → option_and_then (λ size. sized_file size bytes) o ≡ Some (file, rest)
    → option_and_then (λ size. file_before others size bytes) o ≡ option_map (λ files. file ∷ files) (others rest)
found_first (Some size) others bytes file rest e = room_found (nat_lt (length bytes) size) others (take size bytes) (drop size bytes) file rest e
found_first None others bytes file rest e = none_is (file, rest) e

room_missed : (b : Bool) (others : List ℕ → Option (List (List ℕ))) (found left : List ℕ) → ◌≡◌ {A = Option (List ℕ × List ℕ)} (cond b None (Some (found, left))) None
    → ◌≡◌ {A = Option (List (List ℕ))} (cond b None (option_map (λ files. found ∷ files) (others left))) None
room_missed true others found left e = refl
room_missed false others found left e = none_is (found, left) (sym e)

missed_first : (o : Option ℕ) (others : List ℕ → Option (List (List ℕ))) (bytes : List ℕ) → option_and_then (λ size. sized_file size bytes) o ≡ None
    → option_and_then (λ size. file_before others size bytes) o ≡ None
missed_first (Some size) others bytes e = room_missed (nat_lt (length bytes) size) others (take size bytes) (drop size bytes) e
missed_first None others bytes e = refl

pub goes_on : (front : List (List ℕ)) (count i : ℕ) (bytes file after : List ℕ) (total : Option (List (List ℕ))) → i < count → after_number sized_file bytes ≡ Some (file, after)
    → with_front front (files_in (count - i) bytes) ≡ total → with_front (front ++ file ∷ []) (files_in (count - (i + 1)) after) ≡ total
unfolding files_in
goes_on front count i bytes file after total lt h so_far =
    let k : count - i ≡ suc (count - (i + 1)) = omega arith in
    let first : files_in (count - i) bytes ≡ option_map (λ files. file ∷ files) (files_in (count - (i + 1)) after) =
    rw k (found_first (number_in_body 4 (take 4 bytes)) (files_in (count - (i + 1))) (drop 4 bytes) file after h) in
    let one : with_front front (files_in (count - i) bytes) ≡ with_front (front ++ file ∷ []) (files_in (count - (i + 1)) after) =
    rw first (regroup front file (files_in (count - (i + 1)) after)) in
    sym one ∙ so_far

-- where the next file is missing, the whole isn't read
none_ends : (front : List (List ℕ)) (count i : ℕ) (bytes : List ℕ) (total : Option (List (List ℕ))) → i < count → after_number sized_file bytes ≡ None
    → with_front front (files_in (count - i) bytes) ≡ total → total ≡ None
unfolding files_in
none_ends front count i bytes total lt h so_far =
    let k : count - i ≡ suc (count - (i + 1)) = omega arith in
    let none : files_in (count - i) bytes ≡ None = rw k (missed_first (number_in_body 4 (take 4 bytes)) (files_in (count - (i + 1))) (drop 4 bytes) h) in
    let one : with_front front (files_in (count - i) bytes) ≡ None = rw none refl in
    sym so_far ∙ one

pub ends : (e : FrameError) (front : List (List ℕ)) (count i : ℕ) (bytes : List ℕ) (total : Option (List (List ℕ))) → i < count → Misses e (after_number sized_file bytes)
    → with_front front (files_in (count - i) bytes) ≡ total → Misses e total
ends NoMemory front count i bytes total lt h so_far = tt
ends BadCommand front count i bytes total lt h so_far = none_ends front count i bytes total lt h so_far
ends TooLong front count i bytes total lt h so_far = absurd h
ends BadKind front count i bytes total lt h so_far = absurd h
ends Failed front count i bytes total lt h so_far = absurd h

pub is_done : (front : List (List ℕ)) (count i : ℕ) (bytes : List ℕ) (total : Option (List (List ℕ))) → count ≤ i → length bytes ≡ 0
    → with_front front (files_in (count - i) bytes) ≡ total → total ≡ Some front
unfolding files_in
is_done front count i [] total le none so_far =
    let k : count - i ≡ 0 = omega arith in
    let one : with_front front (files_in (count - i) []) ≡ Some front = rw k (ap Some (append-nil front)) in
    sym so_far ∙ one
is_done front count i (byte ∷ bytes) total le none so_far = absurd (omega (arith, none))

pub goes_past : (front : List (List ℕ)) (count i : ℕ) (bytes : List ℕ) (total : Option (List (List ℕ))) → count ≤ i → 0 < length bytes
    → with_front front (files_in (count - i) bytes) ≡ total → total ≡ None
unfolding files_in
goes_past front count i [] total le some so_far = absurd (omega (arith, some))
goes_past front count i (byte ∷ bytes) total le some so_far =
    let k : count - i ≡ 0 = omega arith in
    let one : with_front front (files_in (count - i) (byte ∷ bytes)) ≡ None = rw k refl in
    sym so_far ∙ one
