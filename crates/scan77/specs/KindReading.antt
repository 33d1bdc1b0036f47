-- The reading of a statement's kind as a function: what it gives is the kind.
use Rattle.std.specs.Prelude.{ℕ, Bool, true, false, not, ◌&&◌, ◌||◌, ◌==◌, nat_lt, List, [], ◌∷◌, ◌++◌, length, codes, Option, Some, None, if◌then◌else◌}
use Rattle.std.specs.Option.{option_map, option_and_then, option_or}
use Rattle.text_base.specs.Chars.{is_upper, is_digit, is_name_byte}
use Rattle.tree77.specs.Kinds.{Kind, format, loop, assign, keyword, unsupported, refused_function, nothing, open_after, accepted, refused, accepted_types, refused_types, is_among}

-- ---- parts, each with what is left behind it

-- what is left behind a word, if it stands here
abbrev pub behind_text : List ℕ → List ℕ → Option (List ℕ)
behind_text [] text = Some text
behind_text (d ∷ ds) [] = None
behind_text (d ∷ ds) (c ∷ t) = if c == d then behind_text ds t else None

-- what is left behind all first characters that pass
abbrev pub behind_all : (ℕ → Bool) → List ℕ → List ℕ
behind_all test [] = []
behind_all test (c ∷ t) = if test c then behind_all test t else c ∷ t

-- what is left behind the longest name, and behind the longest number, if one stands here
abbrev pub behind_name : List ℕ → Option (List ℕ)
behind_name [] = None
behind_name (c ∷ t) = if is_upper c then Some (behind_all is_name_byte t) else None

abbrev pub behind_number : List ℕ → Option (List ℕ)
behind_number [] = None
behind_number (c ∷ t) = if is_digit c then Some (behind_all is_digit t) else None

-- what is left behind a comma, if one stands here, and all where none does
abbrev pub behind_comma : List ℕ → List ℕ
behind_comma [] = []
behind_comma (c ∷ t) = if c == 44 then t else c ∷ t

-- what is left behind the parenthesis that closes, where so many more are open
abbrev pub behind_close : ℕ → List ℕ → Option (List ℕ)
behind_close n [] = None
behind_close n (c ∷ t) = if c == 41 && n == 0 then Some t else behind_close (open_after n c) t

-- what is left behind a group, if one stands here
abbrev pub behind_group : List ℕ → Option (List ℕ)
behind_group [] = None
behind_group (c ∷ t) = if c == 40 then behind_close 0 t else None

-- ---- steps

-- it stands here
abbrev pub stands : Option (List ℕ) → Bool
stands None = false
stands (Some rest) = true

-- what is left passes, if something stands here
abbrev pub passes : Option (List ℕ) → (List ℕ → Bool) → Bool
passes None test = false
passes (Some rest) test = test rest

abbrev pub reads_format : ℕ → List ℕ → Bool
reads_format label text = not (label == 0) && stands (behind_text (codes "FORMAT(") text)

-- a comma stands outside parentheses, where so many are open
abbrev pub has_comma : ℕ → List ℕ → Bool
has_comma n [] = false
has_comma n (c ∷ t) = if c == 44 && n == 0 then true else has_comma (open_after n c) t

-- behind DO, digits and an optional comma
abbrev pub behind_loop_label : List ℕ → Option (List ℕ)
behind_loop_label text = option_map behind_comma (option_and_then behind_number (behind_text (codes "DO") text))

-- an equals sign, and a comma outside parentheses
abbrev pub reads_range : List ℕ → Bool
reads_range [] = false
reads_range (c ∷ t) = c == 61 && has_comma 0 t

abbrev pub reads_loop : List ℕ → Bool
reads_loop text = passes (option_and_then behind_name (behind_loop_label text)) reads_range

abbrev pub reads_equals : List ℕ → Bool
reads_equals [] = false
reads_equals (c ∷ t) = c == 61

-- an equals sign, or a group behind which it passes
abbrev pub reads_past : (List ℕ → Bool) → List ℕ → Bool
reads_past test text = reads_equals text || passes (behind_group text) test

abbrev pub reads_assignment : List ℕ → Bool
reads_assignment text = passes (behind_name text) (reads_past (reads_past reads_equals))

-- the type of a FUNCTION statement, and what is left behind it
abbrev pub behind_type : List (List ℕ) → List ℕ → Option (List ℕ × List ℕ)
behind_type [] text = None
behind_type (type ∷ types) text = option_or (option_map (λ rest. (type, rest)) (behind_text type text)) (behind_type types text)

-- what is left behind a length
abbrev pub behind_length : List ℕ → Option (List ℕ)
behind_length [] = Some []
behind_length (c ∷ t) = if c == 42 then option_or (behind_number t) (behind_group t) else Some (c ∷ t)

abbrev pub is_end : List ℕ → Bool
is_end [] = true
is_end (c ∷ t) = false

-- names with commas between them, and the last parenthesis, from the beginning of a name or from inside one
abbrev pub reads_names : Bool → List ℕ → Bool
reads_names begin [] = false
reads_names true (c ∷ t) = is_upper c && reads_names false t
reads_names false (c ∷ t) = if c == 44 then reads_names true t else (if c == 41 then is_end t else is_name_byte c && reads_names false t)

-- nothing or names in parentheses, and no more
abbrev pub reads_dummies : List ℕ → Bool
reads_dummies [] = false
reads_dummies (c ∷ t) = if c == 41 then is_end t else reads_names true (c ∷ t)

abbrev pub reads_dummy_list : List ℕ → Bool
reads_dummy_list [] = false
reads_dummy_list (c ∷ t) = c == 40 && reads_dummies t

-- behind the length of a type, FUNCTION and a name stand dummies
abbrev pub reads_header : List ℕ → Bool
reads_header text = passes (option_and_then behind_name (option_and_then (behind_text (codes "FUNCTION")) (behind_length text))) reads_dummy_list

abbrev pub header_type : Option (List ℕ × List ℕ) → Option (List ℕ)
header_type None = None
header_type (Some t) = if reads_header t.1 then Some t.0 else None

-- the type, one of some, with which a FUNCTION statement begins
abbrev pub function_type : List (List ℕ) → List ℕ → Option (List ℕ)
function_type types text = header_type (behind_type types text)

abbrev pub reads_while : List ℕ → Bool
reads_while text = stands (option_and_then (behind_text (codes "WHILE")) (behind_loop_label text))

-- the longer of two words, the first where they are equal
abbrev pub longer : Option (List ℕ) → Option (List ℕ) → Option (List ℕ)
longer None other = other
longer (Some word) None = Some word
longer (Some word) (Some other) = if nat_lt (length word) (length other) then Some other else Some word

-- the word, if it stands here
abbrev pub word_here : List ℕ → List ℕ → Option (List ℕ)
word_here word text = if stands (behind_text word text) then Some word else None

-- the longest word that stands here
abbrev pub longest_of : List (List ℕ) → List ℕ → Option (List ℕ)
longest_of [] text = None
longest_of (word ∷ words) text = longer (word_here word text) (longest_of words text)

abbrev pub kind_of_word : Option (List ℕ) → Kind
kind_of_word None = nothing
kind_of_word (Some word) = if is_among accepted word then keyword word else unsupported word

abbrev pub kind_of_type : Option (List ℕ) → Kind → Kind
kind_of_type None other = other
kind_of_type (Some type) other = refused_function type

abbrev pub is_some : Option (List ℕ) → Bool
is_some None = false
is_some (Some x) = true

-- the kind of a statement that is none of a FORMAT, a DO, an assignment and a FUNCTION with an accepted type
abbrev pub other_kind : List ℕ → Kind
other_kind text =
    kind_of_type (function_type refused_types text)
    (if reads_while text then unsupported (codes "DOWHILE") else kind_of_word (longest_of (accepted ++ refused) text))

-- the kind of a statement with this label and these characters
abbrev pub read_kind : ℕ → List ℕ → Kind
read_kind label text =
    if reads_format label text then format else
    (if reads_loop text then loop else
    (if reads_assignment text then assign else
    (if is_some (function_type accepted_types text) then keyword (codes "FUNCTION") else other_kind text)))
