-- Files by name, as they are read and written.
use Rattle.std.specs.Prelude.{◌≡◌, ℕ, List, [], ◌∷◌, ◌++◌, Option, option_map, IfSome}
use Rattle.clap.specs.Words.{Text}

-- the bytes of files by their names, if the device reports them
abbrev pub Contents : Type 0
Contents = Text → Option (List ℕ)

-- the bytes of the file of that name, if the device reports them
abbrev pub HasBytes : Contents → Text → List ℕ → Type 0
HasBytes files name bytes = IfSome (files name) (λ known. bytes ≡ known)

-- the names and bytes that were written whole, if the device reports them
abbrev pub Written : Type 0
Written = Option (List (List ℕ × List ℕ))

abbrev pub with_file : Written → Text → List ℕ → Written
with_file written name bytes = option_map (λ files. files ++ (name, bytes) ∷ []) written
