-- What contracts see of what is read.
use Rattle.std.specs.Prelude.{ℕ, List, [], Option, Some, None}
use Rattle.std.specs.Option.{option_map, option_and_then}
use Rattle.text_base.specs.Pieces.{Piece}
use Rattle.tree77.specs.FormTable as sort
use Rattle.tree77.specs.Kinds.{outline_of}
use Rattle.tree77.specs.Lexemes.{first_lowest}
use Rattle.tree77.specs.Spelling.{sort_in, keyword_sorts}
use Rattle.tree77.specs.StatementPlain.{statement_of}
use Rattle.tree77.specs.Statements as s
use Rattle.tree77.specs.Statements.{Statement, declared}
use Rattle.tree77.specs.declared.statement.Statement77.{Statement77}
use Rattle.scan77.specs.KindReading.{read_kind}
use Rattle.scan77.specs.PieceSlice.{slice_of}
use Rattle.expr77.specs.Views.{plain_part}
use Rattle.expr77.specs.declared.part.Part.{Part}
use Rattle.format77.specs.Reading.{Outcome}
use Rattle.format77.specs.TextReading.{items_and_parts}
use Rattle.forms77.specs.Whole.{whole_of}
use Rattle.parse77.specs.Reading.{Read, read_behind, read_as, no_other}
use Rattle.parse77.specs.declared.branch.Branch.{Branch}
use Rattle.parse77.specs.declared.branch.Branch.TheVariants.{Labels, Block, Guard, Other}

-- what was read, with its lowest part that is refused
abbrev pub read_made : Option (Statement77 × Option Part) → Read
read_made made = option_map (λ p. (statement_of p.0, option_map plain_part p.1)) made

-- what is read of a FORMAT, by the outcome of its format
abbrev pub format_read : Outcome → Read
format_read outcome = option_map (λ r. (declared (s.format r.0), first_lowest r.1)) (items_and_parts outcome)

-- what is read behind a keyword that tells a sort
abbrev pub read_told : List ℕ → List Piece → Read
read_told word pieces = option_and_then (λ k. read_behind word k pieces) (sort_in keyword_sorts word)

-- what is read under a logical IF
abbrev pub read_under : List Piece → Read
read_under pieces = read_as no_other (read_kind 0 (outline_of pieces)) pieces

-- what is read of an IF of this shape, where `under` reads what stands under a logical IF
abbrev pub read_shape : (List Piece → List Piece → Read) → Branch → Read
read_shape under (Labels rest) = whole_of sort.arithmetic_sort (slice_of rest)
read_shape under (Block rest) = whole_of sort.then_sort (slice_of rest)
read_shape under (Guard front rest) = under (slice_of front) (slice_of rest)
read_shape under Other = None

-- ---- parts of a statement that are read by themselves

-- a statement where it is the beginning of a block IF, nothing where it is another
abbrev pub as_test : Statement → Option Statement
as_test (s.if_then x) = Some (s.if_then x)
as_test _ = None

-- where it is a simple one
abbrev pub as_simple : Statement → Option Statement
as_simple (s.simple a) = Some (s.simple a)
as_simple _ = None

-- where it is a type alone
abbrev pub as_type : Statement → Option Statement
as_type (declared (s.typed t [])) = Some (declared (s.typed t []))
as_type _ = None

-- where it is a FUNCTION statement without a type
abbrev pub as_untyped : Statement → Option Statement
as_untyped (s.header (s.function None x ds)) = Some (s.header (s.function None x ds))
as_untyped _ = None

-- what was read, where it is such a statement
abbrev pub only : (Statement → Option Statement) → Read → Read
only view read = option_and_then (λ p. option_map (λ x. (x, p.1)) (view p.0)) read
