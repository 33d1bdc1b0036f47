-- The reading of a free-form text (ISO/IEC 1539:1991 sections 3.2, 3.3.1, 5, 7 and 11.1), for the forms that are written:
-- a relation between a text and a plain program with its comments. No statement of these forms is continued.
use Rattle.std.specs.Prelude.{◌≡◌, ℕ, Bool, true, false, ◌==◌, nat_le, IsTrue, List, [], ◌∷◌, ◌++◌, length, drop, map, codes, if◌then◌else◌}
use Rattle.std.specs.List.{list_all}
use Rattle.text_base.specs.Lines.{cut, is_blank}
use Rattle.text_base.specs.Trees.{Expr, name, assign, stop}
use Rattle.text_base.specs.Remarks.{Remark}
use Rattle.text_base.specs.declared.limits.TheConstants.{LONGEST_WRITTEN}
use Rattle.tree90.specs.Constants.{is_free_form_name}
use Rattle.tree90.specs.FreeTokens.{Token, plain, tokens}
use Rattle.tree90.specs.FreeExpressions.{IsFreeExpression}
use Rattle.tree90.specs.Tree.{Stmt, simple, Code, done, item, Declared, integer_object, FreeUnit, FreeProgram}

-- ---- statements

-- a statement by itself
pub data FreeStatement : Type 0 where
  header : List ℕ → FreeStatement
  implicit_none : FreeStatement
  save : FreeStatement
  declaration : Declared → FreeStatement
  executable : Stmt → FreeStatement
  end : List ℕ → FreeStatement

pub data SpellsFree (ts : List Token) (s : FreeStatement) : Type 0 where
  free_header : {x : List ℕ} → ts ≡ plain (codes "PROGRAM") ∷ plain x ∷ [] → IsTrue (is_free_form_name x) → s ≡ header x → SpellsFree ts s
  free_implicit : ts ≡ plain (codes "IMPLICIT") ∷ plain (codes "NONE") ∷ [] → s ≡ implicit_none → SpellsFree ts s
  free_save : ts ≡ plain (codes "SAVE") ∷ [] → s ≡ save → SpellsFree ts s
  free_integer : {x : List ℕ} → ts ≡ plain (codes "INTEGER") ∷ plain (codes "::") ∷ plain x ∷ [] → IsTrue (is_free_form_name x) → s ≡ declaration (integer_object x) → SpellsFree ts s
  free_assign : {x : List ℕ} {us : List Token} {e : Expr} → ts ≡ plain x ∷ plain (codes "=") ∷ us → IsTrue (is_free_form_name x) → IsFreeExpression us e → s ≡ executable (simple (assign (name x) e)) → SpellsFree ts s
  free_stop : ts ≡ plain (codes "STOP") ∷ [] → s ≡ executable (simple stop) → SpellsFree ts s
  -- the two words of END PROGRAM may stand together (ISO/IEC 1539:1991 section 3.3.1)
  free_end : {x : List ℕ} → ts ≡ plain (codes "END") ∷ plain (codes "PROGRAM") ∷ plain x ∷ [] → IsTrue (is_free_form_name x) → s ≡ end x → SpellsFree ts s
  free_end_together : {x : List ℕ} → ts ≡ plain (codes "ENDPROGRAM") ∷ plain x ∷ [] → IsTrue (is_free_form_name x) → s ≡ end x → SpellsFree ts s

-- ---- lines

-- a line is a comment or the tokens of a statement
pub data FreeLine : Type 0 where
  comment_line : Remark → FreeLine
  statement_line : List Token → FreeLine

abbrev pub starts_comment : List ℕ → Bool
starts_comment [] = false
starts_comment (c ∷ l) = c == 33

-- a comment has `!` in column 1, or blanks alone or nothing
abbrev pub free_line_of : List ℕ → FreeLine
free_line_of l =
    if starts_comment l then comment_line (record { marked = true; text = drop 1 l })
    else (if is_blank l then comment_line (record { marked = false; text = l }) else statement_line (tokens l))

abbrev pub comment_lines : List Remark → List FreeLine
comment_lines = map comment_line

-- ---- units

-- After some comments the lines have a statement, and then the rest.
pub record SpellsNext (ls : List FreeLine) (remarks : List Remark) (s : FreeStatement) (rest : List FreeLine) : Type 0 where
  pub line : List Token
  pub whole : ls ≡ comment_lines remarks ++ statement_line line ∷ rest
  pub spelled : SpellsFree line s

-- statements one after another, with all comments up to the last of them
abbrev pub SpellsParts : List FreeLine → List Remark → List FreeStatement → List FreeLine → Type 0
SpellsParts ls remarks [] rest = (remarks ≡ []) × (ls ≡ rest)
SpellsParts ls remarks (p ∷ ps) rest = (first : List Remark) × (later : List Remark) × (mid : List FreeLine) × (remarks ≡ first ++ later) × SpellsNext ls first p mid × SpellsParts mid later ps rest

-- a list of statements, each after its comments, and after further comments the END line
abbrev pub SpellsCode : List FreeLine → Code → List Remark → List ℕ → List FreeLine → Type 0
SpellsCode ls done tail x rest = SpellsNext ls tail (end x) rest
SpellsCode ls (item remarks s more) tail x rest = (mid : List FreeLine) × SpellsNext ls remarks (executable s) mid × SpellsCode mid more tail x rest

abbrev pub unit_parts : FreeUnit → List FreeStatement
unit_parts u = implicit_none ∷ save ∷ map declaration u.declared

-- header, specification part and execution part of a main program (ISO/IEC 1539:1991 section 11.1)
abbrev pub SpellsUnit : List FreeLine → FreeUnit → List FreeLine → Type 0
SpellsUnit ls u rest = (parts : List FreeLine) × (code : List FreeLine) × SpellsNext ls u.head (header u.name) parts
    × SpellsParts parts u.inner (unit_parts u) code × SpellsCode code u.code u.tail u.name rest

abbrev pub SpellsUnits : List FreeLine → List FreeUnit → List Remark → Type 0
SpellsUnits ls [] tail = ls ≡ comment_lines tail
SpellsUnits ls (u ∷ us) tail = (rest : List FreeLine) × SpellsUnit ls u rest × SpellsUnits rest us tail

-- the text is that of the program, and no line is too long
pub record SpellsText (text : List ℕ) (p : FreeProgram) : Type 0 where
  pub short : IsTrue (list_all (λ l. nat_le (length l) LONGEST_WRITTEN) (cut text))
  pub spelled : SpellsUnits (map free_line_of (cut text)) p.units p.tail
