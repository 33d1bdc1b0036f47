-- Integer constants and names of a free-form text (ISO/IEC 1539:1991 sections 3.2.1 and 4.3.1.1).
use Rattle.std.specs.Prelude.{◌≡◌, ℕ, ◌<◌, ◌≤◌, Bool, ◌&&◌, ◌||◌, ◌==◌, nat_le, IsTrue, List, length, slice_index}
use Rattle.std.specs.List.{list_all}
use Rattle.std.specs.Str.Parse.{digits_value}
use Rattle.text_base.specs.declared.limits.TheConstants.{GREATEST_INTEGER, LONGEST_NAME}

-- the letters, which are read as upper case, and the digits (ISO/IEC 1539:1991 section 3.1)
abbrev pub is_letter : ℕ → Bool
is_letter c = nat_le 65 c && nat_le c 90

abbrev pub is_figure : ℕ → Bool
is_figure c = nat_le 48 c && nat_le c 57

-- letters, digits and the underscore (ISO/IEC 1539:1991 section 3.1.3)
abbrev pub is_alphanumeric : ℕ → Bool
is_alphanumeric c = is_letter c || is_figure c || c == 95

-- a name: a letter, and then letters, digits and underscores, at most 31 characters in all (ISO/IEC 1539:1991 section 3.2.1)
abbrev pub is_free_form_name : List ℕ → Bool
is_free_form_name text = is_letter (slice_index text 0) && (list_all is_alphanumeric text && nat_le (length text) LONGEST_NAME)

-- an integer constant: digits, with any number of leading zeros
pub record IsConstant (text : List ℕ) (value : ℕ) : Type 0 where
  pub some : 0 < length text
  pub digits : IsTrue (list_all is_figure text)
  pub is : value ≡ digits_value 10 text
  pub within : value ≤ GREATEST_INTEGER
