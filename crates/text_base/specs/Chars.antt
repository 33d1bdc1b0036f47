-- Characters, as bytes.
use Rattle.std.specs.Prelude.{ℕ, ◌-◌, Bool, map, if◌then◌else◌, not, ◌&&◌, ◌||◌, ◌==◌, nat_le, List, length, filter, slice_index}
use Rattle.std.specs.List.{list_all}
use Rattle.text_base.specs.declared.limits.TheConstants.{LONGEST_NAME}

-- A to Z
abbrev pub is_upper : ℕ → Bool
is_upper c = nat_le 65 c && nat_le c 90

-- 0 to 9
abbrev pub is_digit : ℕ → Bool
is_digit c = nat_le 48 c && nat_le c 57

-- an upper-case letter, a digit or an underscore
abbrev pub is_name_byte : ℕ → Bool
is_name_byte c = is_upper c || is_digit c || c == 95

-- A symbolic name (X3.9 section 2.2, lengthened to 31 characters and with underscores). The empty text is no name,
-- since it has no first letter.
abbrev pub is_name : List ℕ → Bool
is_name text = is_upper (slice_index text 0) && (list_all is_name_byte text && nat_le (length text) LONGEST_NAME)

-- lower-case letters are read as upper case
abbrev pub to_upper : ℕ → ℕ
to_upper c = if nat_le 97 c && nat_le c 122 then c - 32 else c

-- blanks don't count in a statement (X3.9 section 3.1.6)
abbrev pub without_blanks : List ℕ → List ℕ
without_blanks text = filter (λ c. not (c == 32)) text

-- the characters of a statement as they are read
abbrev pub characters : List ℕ → List ℕ
characters text = map to_upper (without_blanks text)
