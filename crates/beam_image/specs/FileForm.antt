-- The form of a module's file, without its code chunk and with it. (This node's own.)
use Rattle.std.specs.Prelude.{◌≡◌, ℕ, List, Some, None, Ok}
use Rattle.beam_code.specs.Prelude.{CodeBytes}
use Rattle.beam_model.specs.Prelude.{Form, Listing, listing_of_form}

abbrev pub without_code : Form → Form
without_code form = record form { code = None }

abbrev pub with_code : List ℕ → Form → Form
with_code bytes form = record form { code = Some bytes }

-- with this code chunk the other chunks of a form spell a listing
abbrev pub Spells : Form → CodeBytes → Listing → Type 0
Spells chunks code l = listing_of_form (with_code code.code chunks) ≡ Ok l
