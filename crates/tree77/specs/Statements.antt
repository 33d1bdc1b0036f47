-- Statements as they are written, as plain trees: one constructor for each form of the language.
use Rattle.std.specs.Prelude.{ℕ, ℤ, List, [], ◌∷◌, Option}
use Rattle.text_base.specs.Formats.{FormatItems}
use Rattle.text_base.specs.Trees.{Expr}
use Rattle.text_base.specs.declared.stop_code.StopCode.{StopCode}

-- ---- types and declarations

-- a length of characters, which may be `*` (X3.9 section 8.4.2)
pub data Length : Type 0 where
  assumed : Length
  given : Expr → Length

-- a type (X3.9 section 8.4), with the length of characters where it is written
pub data Type77 : Type 0 where
  integer_type : Type77
  logical_type : Type77
  character_type : Option Length → Type77

-- a dimension of an array, with a lower bound where it is written (X3.9 section 5.1); an upper bound that is missing is `*`
pub record Dimension : Type 0 where
  pub lower : Option Expr
  pub upper : Option Expr

-- a name that is declared, with its dimensions, none for a scalar, and its own length where it is written
pub record Declarator : Type 0 where
  pub name : List ℕ
  pub dimensions : List Dimension
  pub length : Option Length

-- a constant and its value (X3.9 section 8.6)
pub record Equation : Type 0 where
  pub name : List ℕ
  pub value : Expr

-- the letters from one to another
pub record Letters : Type 0 where
  pub from : ℕ
  pub to : ℕ

-- a type, and the letters with which names of it begin (X3.9 section 8.5)
pub record Implicit : Type 0 where
  pub type : Type77
  pub letters : List Letters

-- a block of COMMON, blank where it has no name, and its members (X3.9 section 8.3)
pub record Block : Type 0 where
  pub name : Option (List ℕ)
  pub members : List Declarator

-- a name or a block that is saved (X3.9 section 8.9)
pub data Saved : Type 0 where
  saved_name : List ℕ → Saved
  saved_block : List ℕ → Saved

-- ---- lists

-- the values of a DO variable (X3.9 section 11.10)
pub record Range : Type 0 where
  pub variable : List ℕ
  pub from : Expr
  pub to : Expr
  pub by : Option Expr

mutual
  -- an item of a list, or an implied DO list (X3.9 sections 9.3 and 12.8.2.3)
  pub data Listed : Type 0 where
    item : Expr → Listed
    loop : Listeds → Range → Listed

  pub data Listeds : Type 0 where
    none : Listeds
    more : Listed → Listeds → Listeds

abbrev pub listeds_of : List Listed → Listeds
listeds_of [] = none
listeds_of (x ∷ xs) = more x (listeds_of xs)

-- how often a constant of DATA counts (X3.9 section 9.1)
pub data Times : Type 0 where
  once : Times
  number_times : ℤ → Times
  name_times : List ℕ → Times

pub record Value : Type 0 where
  pub times : Times
  pub constant : Expr

-- objects and their values
pub record DataGroup : Type 0 where
  pub objects : Listeds
  pub values : List Value

-- ---- input and output

-- a unit (X3.9 section 12.3)
pub data UnitRef : Type 0 where
  star_unit : UnitRef
  given_unit : Expr → UnitRef

-- a format (X3.9 section 12.4): `*`, a label, or the characters of a constant with the format that they are
pub data FormatRef : Type 0 where
  star_format : FormatRef
  label_format : ℕ → FormatRef
  text_format : List ℕ → FormatItems → FormatRef

-- the control list of a READ or WRITE (X3.9 section 12.8.1)
pub record Control : Type 0 where
  pub unit : UnitRef
  pub format : FormatRef
  pub iostat : Option (List ℕ)
  pub error : Option ℕ
  pub ending : Option ℕ

-- the control list of an OPEN, CLOSE or REWIND (X3.9 section 12.10)
pub record FileControl : Type 0 where
  pub unit : Expr
  pub file : Option Expr
  pub status : Option Expr
  pub iostat : Option (List ℕ)
  pub error : Option ℕ

-- what a READ is directed by
pub data ReadBy : Type 0 where
  by_control : Control → ReadBy
  by_format : FormatRef → ReadBy

-- ---- statements

-- the first statement of a unit (X3.9 sections 14.1, 15.6.1, 15.5.1 and 16.1)
pub data Header : Type 0 where
  program : List ℕ → Header
  subroutine : List ℕ → List (List ℕ) → Header
  function : Option Type77 → List ℕ → List (List ℕ) → Header
  block_data : Option (List ℕ) → Header

-- declarations (X3.9 sections 8, 9 and 13.1)
pub data Declared : Type 0 where
  implicit : List Implicit → Declared
  parameter : List Equation → Declared
  typed : Type77 → List Declarator → Declared
  dimension : List Declarator → Declared
  common : List Block → Declared
  equivalence : List (List Expr) → Declared
  external : List (List ℕ) → Declared
  intrinsic : List (List ℕ) → Declared
  save : List Saved → Declared
  data_ : List DataGroup → Declared
  format : FormatItems → Declared

-- the executable statements that a logical IF may have (X3.9 sections 10, 11, 12 and 15)
pub data Simple : Type 0 where
  assign : Expr → Expr → Simple
  goto : ℕ → Simple
  computed : List ℕ → Expr → Simple
  arithmetic : Expr → ℕ → ℕ → ℕ → Simple
  continue : Simple
  return_ : Simple
  stop : Option StopCode → Simple
  calling : List ℕ → List Expr → Simple
  read : ReadBy → Listeds → Simple
  write : Control → Listeds → Simple
  print : FormatRef → Listeds → Simple
  open_ : FileControl → Simple
  close_ : FileControl → Simple
  rewind : FileControl → Simple

-- A statement by itself. A statement function with dummies (X3.9 section 15.4) has the form of an assignment to an array
-- element; its unit tells which it is.
pub data Statement : Type 0 where
  header : Header → Statement
  declared : Declared → Statement
  statement_function : List ℕ → List (List ℕ) → Expr → Statement
  simple : Simple → Statement
  -- a logical IF (X3.9 section 11.5)
  guarded : Expr → Simple → Statement
  -- a block IF and its parts (X3.9 sections 11.6 to 11.9)
  if_then : Expr → Statement
  else_if : Expr → Statement
  else_ : Statement
  end_if : Statement
  -- a DO, with the label of its terminal statement (X3.9 section 11.10)
  do_ : ℕ → Range → Statement
  end : Statement
