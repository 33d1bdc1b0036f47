-- The kind of a statement: conditions on its characters, one for each step of the order in which they are looked at.
use Rattle.std.specs.Prelude.{◌≡◌, ◌≢◌, ◌⊎◌, ℕ, ◌+◌, ◌-◌, ◌≤◌, Bool, true, false, not, ◌&&◌, ◌||◌, ◌==◌, List, [], ◌∷◌, ◌++◌, length, map, filter, replicate, flat_map, codes, if◌then◌else◌}
use Rattle.std.specs.List.{list_all, list_any, zip}
use Rattle.std.specs.Str.{bytes_eq}
use Rattle.text_base.specs.Chars.{is_upper, is_digit, is_name_byte, to_upper}
use Rattle.text_base.specs.Pieces.{Piece, plain, whole, broken}

-- The characters of a statement without blanks and with kept text aside: an apostrophe stands for each character of it.
abbrev pub outline : List ℕ → List ℕ → List ℕ
outline text marks = map (λ p. if p.1 == 1 then 39 else to_upper p.0) (filter (λ p. p.1 == 1 || not (p.0 == 32)) (zip text marks))

-- The same of the pieces of a statement: a law says that both are equal.
abbrev pub piece_outline : Piece → List ℕ
piece_outline (plain c) = c ∷ []
piece_outline (whole text) = replicate (length text) 39
piece_outline (broken text) = replicate (length text) 39

abbrev pub outline_of : List Piece → List ℕ
outline_of pieces = flat_map piece_outline pieces

pub data Kind : Type 0 where
  format : Kind
  loop : Kind
  assign : Kind
  -- the statement of an accepted keyword
  keyword : List ℕ → Kind
  -- the statement of a keyword that isn't accepted
  unsupported : List ℕ → Kind
  -- a FUNCTION statement that begins with a type that isn't accepted
  refused_function : List ℕ → Kind
  -- no statement
  nothing : Kind

-- ---- parts

-- a name of any length: letters, digits and underscores, of which the first is a letter
abbrev pub is_word : List ℕ → Bool
is_word [] = false
is_word (c ∷ t) = is_upper c && list_all is_name_byte t

-- digits, one or more
abbrev pub is_number : List ℕ → Bool
is_number [] = false
is_number (c ∷ t) = is_digit c && list_all is_digit t

-- how many parentheses are open after one character, and after some
abbrev pub open_after : ℕ → ℕ → ℕ
open_after n c = if c == 40 then n + 1 else (if c == 41 then n - 1 else n)

abbrev pub open_at_end : ℕ → List ℕ → ℕ
open_at_end n [] = n
open_at_end n (c ∷ t) = open_at_end (open_after n c) t

-- text in which each parenthesis has its partner
pub data IsBalanced : List ℕ → Type 0 where
  balanced_nothing : {text : List ℕ} → text ≡ [] → IsBalanced text
  balanced_other : {text more : List ℕ} (c : ℕ) → text ≡ c ∷ more → c ≢ 40 → c ≢ 41 → IsBalanced more → IsBalanced text
  balanced_group : {text inside more : List ℕ} → text ≡ 40 ∷ (inside ++ 41 ∷ more) → IsBalanced inside → IsBalanced more → IsBalanced text

-- a group in parentheses
pub record IsGroup (text : List ℕ) : Type 0 where
  pub inside : List ℕ
  pub whole : text ≡ 40 ∷ (inside ++ 41 ∷ [])
  pub balanced : IsBalanced inside

-- no group, one or two
pub data IsGroups : List ℕ → Type 0 where
  no_group : {text : List ℕ} → text ≡ [] → IsGroups text
  one_group : {text : List ℕ} → IsGroup text → IsGroups text
  two_groups : {text first second : List ℕ} → text ≡ first ++ second → IsGroup first → IsGroup second → IsGroups text

-- nothing, or a comma
abbrev pub IsComma : List ℕ → Type 0
IsComma text = (text ≡ []) ⊎ (text ≡ 44 ∷ [])

-- ---- the first three steps

-- a label, and `FORMAT(` (X3.9 section 13.1)
pub record IsFormat (label : ℕ) (text : List ℕ) : Type 0 where
  pub labelled : label ≢ 0
  pub rest : List ℕ
  pub whole : text ≡ codes "FORMAT(" ++ rest

-- DO, digits, an optional comma and a name, then an equals sign and a comma outside parentheses (X3.9 section 11.10)
pub record IsLoop (text : List ℕ) : Type 0 where
  pub label : List ℕ
  pub comma : List ℕ
  pub variable : List ℕ
  pub before : List ℕ
  pub after : List ℕ
  pub whole : text ≡ codes "DO" ++ (label ++ (comma ++ (variable ++ 61 ∷ (before ++ 44 ∷ after))))
  pub numbered : is_number label ≡ true
  pub separated : IsComma comma
  pub named : is_word variable ≡ true
  pub outside : open_at_end 0 before ≡ 0

-- a name, none, one or two groups in parentheses, and an equals sign (X3.9 sections 10.1, 10.2, 10.4 and 15.4)
pub record IsAssignment (text : List ℕ) : Type 0 where
  pub name : List ℕ
  pub groups : List ℕ
  pub rest : List ℕ
  pub whole : text ≡ name ++ (groups ++ 61 ∷ rest)
  pub named : is_word name ≡ true
  pub grouped : IsGroups groups

-- ---- keywords

-- the length of a type: nothing, a star and digits, or a star and a group
pub data IsLength : List ℕ → Type 0 where
  no_length : {text : List ℕ} → text ≡ [] → IsLength text
  digit_length : {text : List ℕ} (digits : List ℕ) → text ≡ 42 ∷ digits → is_number digits ≡ true → IsLength text
  group_length : {text : List ℕ} (group : List ℕ) → text ≡ 42 ∷ group → IsGroup group → IsLength text

-- names with commas between them, one or more
pub data IsNames : List ℕ → Type 0 where
  one_name : {text : List ℕ} → is_word text ≡ true → IsNames text
  more_names : {text more : List ℕ} (name : List ℕ) → text ≡ name ++ 44 ∷ more → is_word name ≡ true → IsNames more → IsNames text

-- the types that a FUNCTION statement may begin with, and those with which it is refused
abbrev pub accepted_types : List (List ℕ)
accepted_types = codes "INTEGER" ∷ codes "LOGICAL" ∷ codes "CHARACTER" ∷ []

abbrev pub refused_types : List (List ℕ)
refused_types = codes "REAL" ∷ codes "DOUBLEPRECISION" ∷ codes "COMPLEX" ∷ []

abbrev pub is_among : List (List ℕ) → List ℕ → Bool
is_among words word = list_any (bytes_eq word) words

-- one of some types with its length, FUNCTION, a name, and at the end parentheses around nothing or names (X3.9 section 15.5.1)
pub record IsTypedFunction (types : List (List ℕ)) (text : List ℕ) : Type 0 where
  pub type : List ℕ
  pub size : List ℕ
  pub name : List ℕ
  pub dummies : List ℕ
  pub whole : text ≡ type ++ (size ++ (codes "FUNCTION" ++ (name ++ 40 ∷ (dummies ++ 41 ∷ []))))
  pub typed : is_among types type ≡ true
  pub sized : IsLength size
  pub named : is_word name ≡ true
  pub listed : (dummies ≡ []) ⊎ IsNames dummies

-- DO, digits, an optional comma and WHILE
pub record IsLabelledWhile (text : List ℕ) : Type 0 where
  pub label : List ℕ
  pub comma : List ℕ
  pub rest : List ℕ
  pub whole : text ≡ codes "DO" ++ (label ++ (comma ++ (codes "WHILE" ++ rest)))
  pub numbered : is_number label ≡ true
  pub separated : IsComma comma

-- the keywords of accepted statements
abbrev pub accepted : List (List ℕ)
accepted =
    -- program units (X3.9 sections 14.1, 15.6, 15.5.1 and 16.1)
    codes "PROGRAM" ∷ codes "SUBROUTINE" ∷ codes "FUNCTION" ∷ codes "BLOCKDATA"
    -- specifications (X3.9 section 8), DATA (X3.9 section 9) and FORMAT (X3.9 section 13.1)
    ∷ codes "IMPLICIT" ∷ codes "PARAMETER" ∷ codes "INTEGER" ∷ codes "LOGICAL" ∷ codes "CHARACTER" ∷ codes "DIMENSION" ∷ codes "COMMON"
    ∷ codes "EQUIVALENCE" ∷ codes "EXTERNAL" ∷ codes "INTRINSIC" ∷ codes "SAVE" ∷ codes "DATA" ∷ codes "FORMAT"
    -- control (X3.9 section 11), CALL and RETURN (X3.9 sections 15.6.2 and 15.8)
    ∷ codes "GOTO" ∷ codes "IF" ∷ codes "ELSEIF" ∷ codes "ELSE" ∷ codes "ENDIF" ∷ codes "DO" ∷ codes "CONTINUE" ∷ codes "STOP" ∷ codes "END"
    ∷ codes "CALL" ∷ codes "RETURN"
    -- input and output (X3.9 sections 12.8 and 12.10)
    ∷ codes "READ" ∷ codes "WRITE" ∷ codes "PRINT" ∷ codes "OPEN" ∷ codes "CLOSE" ∷ codes "REWIND" ∷ []

-- the keywords of other statements: of X3.9 sections 8.4, 10.3, 11.13, 12.10 and 15.7, and of none
abbrev pub refused : List (List ℕ)
refused =
    codes "REAL" ∷ codes "DOUBLEPRECISION" ∷ codes "COMPLEX" ∷ codes "ENTRY" ∷ codes "PAUSE" ∷ codes "INQUIRE" ∷ codes "BACKSPACE" ∷ codes "ENDFILE"
    ∷ codes "INCLUDE" ∷ codes "NAMELIST" ∷ codes "ASSIGN" ∷ codes "DOWHILE" ∷ codes "ENDDO" ∷ codes "IMPLICITNONE" ∷ []

abbrev pub is_keyword : List ℕ → Bool
is_keyword word = is_among accepted word || is_among refused word

-- the longest keyword that begins the statement
pub record IsLongest (text word : List ℕ) : Type 0 where
  pub listed : is_keyword word ≡ true
  pub rest : List ℕ
  pub whole : text ≡ word ++ rest
  pub longest : (other more : List ℕ) → is_keyword other ≡ true → text ≡ other ++ more → length other ≤ length word

-- no keyword begins the statement
abbrev pub HasNoKeyword : List ℕ → Type 0
HasNoKeyword text = (word rest : List ℕ) → is_keyword word ≡ true → text ≡ word ++ rest → ⊥

-- ---- the kind

-- none of the first three steps applies
pub record IsOther (label : ℕ) (text : List ℕ) : Type 0 where
  pub no_format : IsFormat label text → ⊥
  pub no_loop : IsLoop text → ⊥
  pub no_assignment : IsAssignment text → ⊥

-- nor is it a FUNCTION statement that begins with a type, or a DO WHILE with a label, so the longest keyword counts
pub record IsPlainKeyword (label : ℕ) (text : List ℕ) : Type 0 where
  pub other : IsOther label text
  pub no_function : IsTypedFunction accepted_types text → ⊥
  pub no_refused : IsTypedFunction refused_types text → ⊥
  pub no_while : IsLabelledWhile text → ⊥

-- a statement with this label and these characters has this kind
pub data IsKind (label : ℕ) (text : List ℕ) (kind : Kind) : Type 0 where
  is_format : IsFormat label text → kind ≡ format → IsKind label text kind
  is_loop : (IsFormat label text → ⊥) → IsLoop text → kind ≡ loop → IsKind label text kind
  is_assignment : (IsFormat label text → ⊥) → (IsLoop text → ⊥) → IsAssignment text → kind ≡ assign → IsKind label text kind
  -- a FUNCTION statement that begins with a type
  is_function : IsOther label text → IsTypedFunction accepted_types text → kind ≡ keyword (codes "FUNCTION") → IsKind label text kind
  is_refused_function : IsOther label text → (f : IsTypedFunction refused_types text) → kind ≡ refused_function f.type → IsKind label text kind
  -- a DO WHILE with a label
  is_while : IsOther label text → IsLabelledWhile text → kind ≡ unsupported (codes "DOWHILE") → IsKind label text kind
  -- the longest keyword is of an accepted statement, or of another one
  is_accepted : IsPlainKeyword label text → (word : List ℕ) → IsLongest text word → is_among accepted word ≡ true → kind ≡ keyword word → IsKind label text kind
  is_refused : IsPlainKeyword label text → (word : List ℕ) → IsLongest text word → is_among accepted word ≡ false → kind ≡ unsupported word → IsKind label text kind
  -- no keyword begins it
  is_nothing : IsPlainKeyword label text → HasNoKeyword text → kind ≡ nothing → IsKind label text kind
