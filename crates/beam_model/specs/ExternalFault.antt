-- The faults of bytes that should spell a term in the External Term Format, and where each of them stands.
use Rattle.std.specs.Prelude.{◌≡◌, ◌≢◌, ◌⊎◌, ◌+◌, ◌*◌, ℕ, suc, ◌<◌, ℤ, Bool, true, false, ◌==◌, ◌&&◌, ◌||◌, nat_lt, List, [], ◌∷◌, ◌++◌, length}
use Rattle.std.specs.Str.{chars, IsUtf8}
use Rattle.beam_term.specs.Prelude.{TermValue, IsSmall}
use Rattle.beam_model.specs.External.{IsHalf, IsWord, little, IsSigned, SpellsAtom, SpellsTerm}

pub data ExternalFault : Type 0 where
  truncated : ExternalFault
  bad_tag : ExternalFault
  out_of_profile : ExternalFault
  integer_too_large : ExternalFault
  too_deep : ExternalFault
  bad_utf8 : ExternalFault

-- the tags of the format that the profile leaves out: floats, ports, exports, maps, functions and binaries among them
abbrev pub is_left_out : ℕ → Bool
is_left_out tag =
    tag == 70 || tag == 77 || tag == 80 || tag == 89 || nat_lt 98 tag && nat_lt tag 104 || tag == 109
    || nat_lt 110 tag && nat_lt tag 118 || tag == 120

-- neither a tag of the profile nor one that it leaves out
pub record IsUnknown (tag : ℕ) : Type 0 where
  pub small_integer : tag ≢ 97
  pub integer : tag ≢ 98
  pub small_big : tag ≢ 110
  pub nil : tag ≢ 106
  pub string : tag ≢ 107
  pub list : tag ≢ 108
  pub small_tuple : tag ≢ 104
  pub large_tuple : tag ≢ 105
  pub small_atom : tag ≢ 119
  pub atom : tag ≢ 118
  pub pid : tag ≢ 88
  pub reference : tag ≢ 90
  pub left_out : is_left_out tag ≡ false

-- a tag, and how many bytes of one width stand after it in any case
pub data WantsField : ℕ → ℕ → Type 0 where
  byte_of_integer : WantsField 97 1
  word_of_integer : WantsField 98 4
  count_of_string : WantsField 107 2
  count_of_list : WantsField 108 4
  count_of_small_tuple : WantsField 104 1
  count_of_large_tuple : WantsField 105 4
  count_of_small_atom : WantsField 119 1
  count_of_atom : WantsField 118 2
  count_of_big : WantsField 110 1
  sign_of_big : WantsField 110 2
  count_of_reference : WantsField 90 2

-- a text of n bytes at the front: cut short, not UTF-8, or of more than 255 characters
pub data TextFault : ℕ → List ℕ → ExternalFault → Type 0 where
  text_cut : (n : ℕ) (bytes : List ℕ) → length bytes < n → TextFault n bytes truncated
  text_bad : (text rest : List ℕ) → ¬ (IsUtf8 text) → TextFault (length text) (text ++ rest) bad_utf8
  text_long : (text rest : List ℕ) → 255 < length (chars text) → TextFault (length text) (text ++ rest) out_of_profile

-- an atom at the front, after one of its tags
pub data AtomFault : List ℕ → ExternalFault → Type 0 where
  small_count_cut : AtomFault (119 ∷ []) truncated
  small_text : (n : ℕ) (rest : List ℕ) (f : ExternalFault) → TextFault n rest f → AtomFault (119 ∷ n ∷ rest) f
  count_cut : (rest : List ℕ) → length rest < 2 → AtomFault (118 ∷ rest) truncated
  long_text : (field rest : List ℕ) (n : ℕ) (f : ExternalFault) → IsHalf field n → TextFault n rest f → AtomFault (118 ∷ (field ++ rest)) f

-- the front of a place where an atom is wanted
pub data NodeFault : List ℕ → ExternalFault → Type 0 where
  node_missing : NodeFault [] truncated
  node_left_out : (tag : ℕ) (rest : List ℕ) → is_left_out tag ≡ true → NodeFault (tag ∷ rest) out_of_profile
  node_no_atom : (tag : ℕ) (rest : List ℕ) → tag ≢ 119 → tag ≢ 118 → is_left_out tag ≡ false → NodeFault (tag ∷ rest) bad_tag
  node_atom : (bytes : List ℕ) (f : ExternalFault) → AtomFault bytes f → NodeFault bytes f

mutual
  -- a fault stands in a term at the front, which has room for n levels of pairs and tuples
  pub data HasFault : ℕ → List ℕ → ExternalFault → Type 0 where
    tag_missing : (depth_left : ℕ) → HasFault depth_left [] truncated
    tag_unknown : (depth_left tag : ℕ) (rest : List ℕ) → IsUnknown tag → HasFault depth_left (tag ∷ rest) bad_tag
    tag_left_out : (depth_left tag : ℕ) (rest : List ℕ) → is_left_out tag ≡ true → HasFault depth_left (tag ∷ rest) out_of_profile
    field_cut : (depth_left tag n : ℕ) (rest : List ℕ) → WantsField tag n → length rest < n → HasFault depth_left (tag ∷ rest) truncated
    sign_bad : (depth_left count sign : ℕ) (rest : List ℕ) → 1 < sign → HasFault depth_left (110 ∷ count ∷ sign ∷ rest) bad_tag
    digits_cut : (depth_left count sign : ℕ) (rest : List ℕ) → length rest < count → HasFault depth_left (110 ∷ count ∷ sign ∷ rest) truncated
    integer_large : (depth_left sign : ℕ) (digits rest : List ℕ) (z : ℤ) → IsSigned sign (little digits) z → ¬ (IsSmall z)
        → HasFault depth_left (110 ∷ length digits ∷ sign ∷ (digits ++ rest)) integer_too_large
    atom_fault : (depth_left : ℕ) (bytes : List ℕ) (f : ExternalFault) → AtomFault bytes f → HasFault depth_left bytes f
    node_fault : (depth_left : ℕ) (bytes : List ℕ) (f : ExternalFault) → NodeFault bytes f → HasFault depth_left (88 ∷ bytes) f
    pid_cut : (depth_left : ℕ) (name node rest : List ℕ) → SpellsAtom name node → length rest < 12 → HasFault depth_left (88 ∷ (name ++ rest)) truncated
    reference_left_out : (depth_left n : ℕ) (field rest : List ℕ) → IsHalf field n → (n ≡ 0) ⊎ (5 < n) → HasFault depth_left (90 ∷ (field ++ rest)) out_of_profile
    reference_node : (depth_left n : ℕ) (field rest : List ℕ) (f : ExternalFault) → IsHalf field n → 0 < n → n < 6 → NodeFault rest f
        → HasFault depth_left (90 ∷ (field ++ rest)) f
    reference_cut : (depth_left n : ℕ) (field name node rest : List ℕ) → IsHalf field n → 0 < n → n < 6 → SpellsAtom name node → length rest < 4 + 4 * n
        → HasFault depth_left (90 ∷ (field ++ name ++ rest)) truncated
    string_deep : (depth_left n : ℕ) (field rest : List ℕ) → IsHalf field n → depth_left < n → HasFault depth_left (107 ∷ (field ++ rest)) too_deep
    string_cut : (depth_left n : ℕ) (field rest : List ℕ) → IsHalf field n → length rest < n → HasFault depth_left (107 ∷ (field ++ rest)) truncated
    list_deep : (depth_left n : ℕ) (field rest : List ℕ) → IsWord field n → depth_left < n → HasFault depth_left (108 ∷ (field ++ rest)) too_deep
    list_fault : (depth_left n : ℕ) (field rest : List ℕ) (f : ExternalFault) → IsWord field n → ListFault depth_left n rest f → HasFault depth_left (108 ∷ (field ++ rest)) f
    small_tuple_deep : (n : ℕ) (rest : List ℕ) → HasFault 0 (104 ∷ n ∷ rest) too_deep
    large_tuple_deep : (n : ℕ) (field rest : List ℕ) → IsWord field n → HasFault 0 (105 ∷ (field ++ rest)) too_deep
    small_tuple_fault : (depth_left n : ℕ) (rest : List ℕ) (f : ExternalFault) → ItemsFault depth_left n rest f → HasFault (suc depth_left) (104 ∷ n ∷ rest) f
    large_tuple_fault : (depth_left n : ℕ) (field rest : List ℕ) (f : ExternalFault) → IsWord field n → ItemsFault depth_left n rest f → HasFault (suc depth_left) (105 ∷ (field ++ rest)) f

  -- a fault stands in one of n terms, after terms that are spelled
  pub data ItemsFault : ℕ → ℕ → List ℕ → ExternalFault → Type 0 where
    this_item : (depth_left n : ℕ) (bytes : List ℕ) (f : ExternalFault) → HasFault depth_left bytes f → ItemsFault depth_left (suc n) bytes f
    later_item : (depth_left n : ℕ) (first rest : List ℕ) (x : TermValue) (f : ExternalFault) → SpellsTerm first x → ItemsFault depth_left n rest f → ItemsFault depth_left (suc n) (first ++ rest) f

  -- a fault stands in one of n elements of a list or in its tail, each with one level of room less
  pub data ListFault : ℕ → ℕ → List ℕ → ExternalFault → Type 0 where
    this_element : (depth_left n : ℕ) (bytes : List ℕ) (f : ExternalFault) → HasFault depth_left bytes f → ListFault (suc depth_left) (suc n) bytes f
    later_element : (depth_left n : ℕ) (first rest : List ℕ) (x : TermValue) (f : ExternalFault) → SpellsTerm first x → ListFault depth_left n rest f → ListFault (suc depth_left) (suc n) (first ++ rest) f
    no_depth_left : (n : ℕ) (bytes : List ℕ) → ListFault 0 (suc n) bytes too_deep
    in_tail : (depth_left : ℕ) (bytes : List ℕ) (f : ExternalFault) → HasFault depth_left bytes f → ListFault depth_left 0 bytes f

-- a fault stands in a whole term: in the version byte, or after it
pub data HasExternalFault : List ℕ → ExternalFault → Type 0 where
  version_missing : HasExternalFault [] truncated
  version_bad : (version : ℕ) (rest : List ℕ) → version ≢ 131 → HasExternalFault (version ∷ rest) bad_tag
  after_version : (rest : List ℕ) (f : ExternalFault) → HasFault 4096 rest f → HasExternalFault (131 ∷ rest) f
