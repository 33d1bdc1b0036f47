-- How statements are spelled: a relation on the pieces of a statement. The kind is fixed first; then one rule for each form.
use Rattle.std.specs.Prelude.{◌≡◌, ℕ, Bool, true, false, List, [], ◌∷◌, ◌++◌, length, map, take, flat_map, codes, Option, Some, None, if◌then◌else◌}
use Rattle.std.specs.Str.{bytes_eq}
use Rattle.text_base.specs.Formats as format
use Rattle.text_base.specs.Formats.{FormatItems, SpellsFormat, IsRefusedFormat}
use Rattle.text_base.specs.Pieces.{Piece, plain, piece_text}
use Rattle.text_base.specs.Trees.{Expr}
use Rattle.text_base.specs.declared.limits.TheConstants.{MOST_SHOWN}
use Rattle.text_base.specs.declared.refusal.Cause.TheVariants.{NotAStatement}
use Rattle.tree77.specs.Forms.{one, text, ahead, behind_group, Matches}
use Rattle.tree77.specs.FormTable as sort
use Rattle.tree77.specs.FormTable.{Sort, form_of}
use Rattle.tree77.specs.FormWords.{unsupported}
use Rattle.tree77.specs.Kinds as kind
use Rattle.tree77.specs.Kinds.{Kind, IsKind, outline_of, is_among}
use Rattle.tree77.specs.Lexemes.{Part, first_lowest}
use Rattle.tree77.specs.Statements as stmt
use Rattle.tree77.specs.Statements.{Statement, Simple, Type77, header, declared, simple, guarded, end}

-- the kind of a statement with this label
abbrev pub HasKind : ℕ → List Piece → Kind → Type 0
HasKind label pieces k = IsKind label (outline_of pieces) k

-- how many characters pieces have; their lists nest less deep
abbrev pub room_of : List Piece → ℕ
room_of pieces = length (flat_map piece_text pieces)

-- The pieces have the form of a sort and stand for s; ps are the parts of them that are refused.
abbrev pub HasForm : Sort → List Piece → Statement → List Part → Type 0
HasForm k pieces s ps = Matches (form_of (room_of pieces) k) 0 pieces s ps

-- ---- statements that their keyword tells

abbrev pub Sorts : Type 0
Sorts = List (List ℕ × Sort)

abbrev pub sort_in : Sorts → List ℕ → Option Sort
sort_in [] word = None
sort_in (k ∷ ks) word = if bytes_eq k.0 word then Some k.1 else sort_in ks word

abbrev pub keyword_sorts : Sorts
keyword_sorts =
    -- program units (X3.9 sections 14.1, 15.6.1, 15.5.1 and 16.1)
    (codes "PROGRAM", sort.program_sort) ∷ (codes "SUBROUTINE", sort.subroutine_sort) ∷ (codes "FUNCTION", sort.function_sort) ∷ (codes "BLOCKDATA", sort.block_data_sort)
    -- specifications (X3.9 section 8) and DATA (X3.9 section 9)
    ∷ (codes "IMPLICIT", sort.implicit_sort) ∷ (codes "PARAMETER", sort.parameter_sort) ∷ (codes "INTEGER", sort.integer_sort) ∷ (codes "LOGICAL", sort.logical_sort)
    ∷ (codes "CHARACTER", sort.character_sort) ∷ (codes "DIMENSION", sort.dimension_sort) ∷ (codes "COMMON", sort.common_sort) ∷ (codes "EQUIVALENCE", sort.equivalence_sort)
    ∷ (codes "EXTERNAL", sort.external_sort) ∷ (codes "INTRINSIC", sort.intrinsic_sort) ∷ (codes "SAVE", sort.save_sort) ∷ (codes "DATA", sort.data_sort)
    -- control (X3.9 section 11), CALL and RETURN (X3.9 sections 15.6.2 and 15.8)
    ∷ (codes "GOTO", sort.goto_sort) ∷ (codes "ELSEIF", sort.else_if_sort) ∷ (codes "ELSE", sort.else_sort) ∷ (codes "ENDIF", sort.end_if_sort)
    ∷ (codes "CONTINUE", sort.continue_sort) ∷ (codes "STOP", sort.stop_sort) ∷ (codes "END", sort.end_sort) ∷ (codes "CALL", sort.call_sort) ∷ (codes "RETURN", sort.return_sort)
    -- input and output (X3.9 sections 12.8 and 12.10)
    ∷ (codes "READ", sort.read_sort) ∷ (codes "WRITE", sort.write_sort) ∷ (codes "PRINT", sort.print_sort) ∷ (codes "OPEN", sort.open_sort) ∷ (codes "CLOSE", sort.close_sort)
    ∷ (codes "REWIND", sort.rewind_sort) ∷ []

-- a word stands first, and behind it the form of a sort
pub record IsBehind (word : List ℕ) (k : Sort) (pieces : List Piece) (s : Statement) (ps : List Part) : Type 0 where
  pub rest : List Piece
  pub whole : pieces ≡ map plain word ++ rest
  pub formed : HasForm k rest s ps

-- ---- FORMAT (X3.9 section 13.1)

-- a format in its parentheses; where a part of it is refused, nothing stands for it in the tree, and the first such part counts
pub data IsFormatBody (pieces : List Piece) (s : Statement) (ps : List Part) : Type 0 where
  body_spelled : {items : FormatItems} → SpellsFormat 0 pieces items → s ≡ declared (stmt.format items) → ps ≡ [] → IsFormatBody pieces s ps
  body_refused : {word : List ℕ} → IsRefusedFormat 0 pieces word → s ≡ declared (stmt.format format.none) → ps ≡ unsupported word ∷ [] → IsFormatBody pieces s ps

pub record IsFormatStatement (pieces : List Piece) (s : Statement) (ps : List Part) : Type 0 where
  pub rest : List Piece
  pub whole : pieces ≡ map plain (codes "FORMAT") ++ rest
  pub body : IsFormatBody rest s ps

-- ---- FUNCTION with a type (X3.9 section 15.5.1)

abbrev pub size_sorts : Sorts
size_sorts = (codes "INTEGER", sort.integer_size_sort) ∷ (codes "LOGICAL", sort.logical_size_sort) ∷ (codes "CHARACTER", sort.character_size_sort) ∷ []

-- a type, its length or none, FUNCTION, a name and dummies
pub record IsTypedHeader (pieces : List Piece) (s : Statement) (ps : List Part) : Type 0 where
  pub word : List ℕ
  pub of : Sort
  pub size : List Piece
  pub rest : List Piece
  pub type : Type77
  pub name : List ℕ
  pub dummies : List (List ℕ)
  pub first : List Part
  pub second : List Part
  pub listed : sort_in size_sorts word ≡ Some of
  pub whole : pieces ≡ map plain word ++ (size ++ (map plain (codes "FUNCTION") ++ rest))
  pub sized : HasForm of size (declared (stmt.typed type [])) first
  pub headed : HasForm sort.function_sort rest (header (stmt.function None name dummies)) second
  pub is : s ≡ header (stmt.function (Some type) name dummies)
  pub parts : ps ≡ first ++ second

-- ---- IF

-- a digit stands behind the first parentheses: the IF is an arithmetic one (X3.9 section 11.4)
abbrev pub has_labels : List Piece → Bool
has_labels rest = ahead (one (codes "0")) (behind_group 0 rest)

-- nothing but THEN stands there: it begins a block (X3.9 section 11.6)
abbrev pub has_then : List Piece → Bool
has_then rest = ahead (text (codes "THEN") (0 ∷ [])) (behind_group 0 rest)

-- behind IF: the two forms that no statement stands in
pub data IsPlainIf (rest : List Piece) (s : Statement) (ps : List Part) : Type 0 where
  if_labels : has_labels rest ≡ true → HasForm sort.arithmetic_sort rest s ps → IsPlainIf rest s ps
  if_block : has_labels rest ≡ false → has_then rest ≡ true → HasForm sort.then_sort rest s ps → IsPlainIf rest s ps

-- ---- statements that are refused whatever stands behind their keyword

-- the word that the refusal shows
abbrev pub shown_word : List ℕ → List ℕ
shown_word word = if bytes_eq word (codes "DOWHILE") then codes "WHILE" else (if bytes_eq word (codes "IMPLICITNONE") then codes "NONE" else word)

-- those that a logical IF may have: PAUSE, and statements of X3.9 sections 10.3 and 12.10
abbrev pub refused_actions : List (List ℕ)
refused_actions = codes "PAUSE" ∷ codes "ASSIGN" ∷ codes "INQUIRE" ∷ codes "BACKSPACE" ∷ codes "ENDFILE" ∷ []

-- declarations of other types, and NAMELIST; and those that may stand anywhere in a unit
abbrev pub refused_declarations : List (List ℕ)
refused_declarations = codes "REAL" ∷ codes "DOUBLEPRECISION" ∷ codes "COMPLEX" ∷ codes "NAMELIST" ∷ []

abbrev pub refused_anywhere : List (List ℕ)
refused_anywhere = codes "ENTRY" ∷ codes "INCLUDE" ∷ []

-- What stands for such a statement: one of its sort, with nothing in it; END for DO WHILE and END DO, which no other statement
-- stands for. A logical IF may have none of them but those of the first list.
abbrev pub stand_in : List ℕ → Statement
stand_in word =
    if is_among refused_actions word then simple stmt.continue
    else (if is_among refused_declarations word then declared (stmt.typed stmt.integer_type [])
    else (if is_among refused_anywhere word then declared (stmt.data_ [])
    else (if bytes_eq word (codes "IMPLICITNONE") then declared (stmt.implicit [])
    else end)))

-- what stands for a FUNCTION statement whose type is refused: its name isn't read, and a unit without one is shown as MAIN
abbrev pub unread_function : Statement
unread_function = header (stmt.function None (codes "MAIN") [])

-- ---- statements but logical IF

-- a statement that begins with this keyword
pub data IsKeywordStatement (word : List ℕ) (pieces : List Piece) (s : Statement) (ps : List Part) : Type 0 where
  keyword_form : {k : Sort} → sort_in keyword_sorts word ≡ Some k → IsBehind word k pieces s ps → IsKeywordStatement word pieces s ps
  keyword_typed : word ≡ codes "FUNCTION" → IsTypedHeader pieces s ps → IsKeywordStatement word pieces s ps
  keyword_if : {rest : List Piece} → word ≡ codes "IF" → pieces ≡ map plain word ++ rest → IsPlainIf rest s ps → IsKeywordStatement word pieces s ps

-- the pieces of a statement of this kind
abbrev pub IsSpelledAs : Kind → List Piece → Statement → List Part → Type 0
IsSpelledAs kind.format pieces s ps = IsFormatStatement pieces s ps
-- DO (X3.9 section 11.10)
IsSpelledAs kind.loop pieces s ps = IsBehind (codes "DO") sort.do_sort pieces s ps
-- an assignment or a statement function (X3.9 sections 10 and 15.4)
IsSpelledAs kind.assign pieces s ps = HasForm sort.assignment_sort pieces s ps
IsSpelledAs (kind.keyword word) pieces s ps = IsKeywordStatement word pieces s ps
IsSpelledAs (kind.unsupported word) pieces s ps = (s ≡ stand_in word) × (ps ≡ unsupported (shown_word word) ∷ [])
IsSpelledAs (kind.refused_function type) pieces s ps = (s ≡ unread_function) × (ps ≡ unsupported type ∷ [])
IsSpelledAs kind.nothing pieces s ps = ⊥

pub record IsPlainStatement (label : ℕ) (pieces : List Piece) (s : Statement) (ps : List Part) : Type 0 where
  pub of : Kind
  pub kind : HasKind label pieces of
  pub spelled : IsSpelledAs of pieces s ps

-- ---- logical IF (X3.9 section 11.5)

-- behind IF: a condition in parentheses, and a simple statement by itself
pub record IsGuarded (rest : List Piece) (s : Statement) (ps : List Part) : Type 0 where
  pub front : List Piece
  pub under : List Piece
  pub test : Expr
  pub action : Simple
  pub first : List Part
  pub second : List Part
  pub whole : rest ≡ front ++ under
  pub condition : HasForm sort.condition_sort front (stmt.if_then test) first
  pub statement : IsPlainStatement 0 under (simple action) second
  pub is : s ≡ guarded test action
  pub parts : ps ≡ first ++ second

pub record IsLogicalIf (label : ℕ) (pieces : List Piece) (s : Statement) (ps : List Part) : Type 0 where
  pub rest : List Piece
  pub kind : HasKind label pieces (kind.keyword (codes "IF"))
  pub whole : pieces ≡ map plain (codes "IF") ++ rest
  pub no_labels : has_labels rest ≡ false
  pub no_then : has_then rest ≡ false
  pub guarded : IsGuarded rest s ps

-- ---- all statements

-- The pieces of a statement with this label spell s; ps are the parts that are refused, each of which stands for one that may
-- stand in its place.
pub data IsWideStatement (label : ℕ) (pieces : List Piece) (s : Statement) (ps : List Part) : Type 0 where
  wide_plain : IsPlainStatement label pieces s ps → IsWideStatement label pieces s ps
  wide_logical : IsLogicalIf label pieces s ps → IsWideStatement label pieces s ps

-- the pieces spell the statement, and no part of it is refused
abbrev pub SpellsStatement : ℕ → List Piece → Statement → Type 0
SpellsStatement label pieces s = IsWideStatement label pieces s []

-- The pieces are refused: they spell no statement, even with parts that are refused; or a part of them is refused, the one of
-- the lowest cause, among equal ones the first from left to right.
pub data IsRefusedStatement (label : ℕ) (pieces : List Piece) (p : Part) : Type 0 where
  refused_whole : ((s : Statement) (ps : List Part) → IsWideStatement label pieces s ps → ⊥) → p ≡ record { cause = NotAStatement; shown = take MOST_SHOWN (flat_map piece_text pieces) } → IsRefusedStatement label pieces p
  refused_part : (s : Statement) (ps : List Part) → IsWideStatement label pieces s ps → first_lowest ps ≡ Some p → IsRefusedStatement label pieces p
