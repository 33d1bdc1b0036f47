-- Names that are taken, and names that are made so that they are none of them (ISO/IEC 1539:1991 section 3.2.1).
use Rattle.std.specs.Prelude.{◌≡◌, ℕ, ◌<◌, Bool, false, ◌&&◌, IsTrue, List, [], ◌∷◌, ◌++◌, zero, suc, if◌then◌else◌, take, slice_index, codes, decimal}
use Rattle.std.specs.List.{list_any, list_all}
use Rattle.std.specs.Str.{bytes_eq}
use Rattle.text_base.specs.Chars.{is_upper, is_name_byte}
use Rattle.text_base.specs.declared.limits.TheConstants.{LONGEST_NAME}
use Rattle.tree90.specs.declared.names.TheConstants.{LONGEST_STEM}

-- whether a name is among those that are taken
abbrev pub is_taken : List (List ℕ) → List ℕ → Bool
is_taken taken name = list_any (bytes_eq name) taken

-- a name joins those that are taken at their end, unless it is among them
abbrev pub with_taken : List (List ℕ) → List ℕ → List (List ℕ)
with_taken taken name = if is_taken taken name then taken else taken ++ name ∷ []

-- what a name can be made from: a letter, and then letters, digits and underscores, also more than a name's 31 characters
abbrev pub is_base : List ℕ → Bool
is_base text = is_upper (slice_index text 0) && list_all is_name_byte text

-- the first 21 characters of a base, and the number behind an underscore
abbrev pub numbered : List ℕ → ℕ → List ℕ
numbered base number = take LONGEST_STEM base ++ codes "_" ++ decimal number

-- what is tried as a name for a base, in turn: the base cut to 31 characters, and then the base with the numbers from 1 on
abbrev pub tried : List ℕ → ℕ → List ℕ
tried base zero = take LONGEST_NAME base
tried base (suc n) = numbered base (suc n)

-- the name that is made from a base: the first that is tried and isn't taken
pub record IsFresh (taken : List (List ℕ)) (base name : List ℕ) : Type 0 where
  pub number : ℕ
  pub is : name ≡ tried base number
  pub free : is_taken taken name ≡ false
  pub first : (n : ℕ) → n < number → IsTrue (is_taken taken (tried base n))
