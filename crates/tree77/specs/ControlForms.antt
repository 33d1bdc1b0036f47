-- The forms of headers, assignments and control statements, behind their keywords.
use Rattle.std.specs.Prelude.{pos, ℕ, true, nat_le, List, [], ◌∷◌, ◌++◌, length, codes, flat_map, Option, Some, None, if◌then◌else◌}
use Rattle.std.specs.Option.{option_map}
use Rattle.text_base.specs.Trees as e
use Rattle.text_base.specs.Trees.{Expr, int}
use Rattle.text_base.specs.declared.stop_code.StopCode.{StopCode}
use Rattle.text_base.specs.declared.stop_code.StopCode.TheVariants as code
use Rattle.tree77.specs.FormWords.{made, behind, flag, listed, enclosed, grouped, unsupported, expression, expression_sorts, is_designator, text_of}
use Rattle.tree77.specs.Forms.{Form, one, nothing, mark, word, name, label, numeral, portion, inside, both, choice, told, perhaps, seen, refused}
use Rattle.tree77.specs.Statements as s
use Rattle.tree77.specs.Statements.{Header, Simple, Statement, Range}

-- ---- headers

-- `PROGRAM name` (X3.9 section 14.1)
abbrev pub program : Form Header
program = made s.program name

-- a dummy: a name, or `*`, which is refused (X3.9 section 15.9.3.5) and for which nothing stands in the tree
abbrev pub dummy : Form (List (List ℕ))
dummy = choice (codes "*") (refused (unsupported (codes "RETURN")) (made (λ x. []) (mark 42))) (made (λ x. x ∷ []) name)

abbrev pub all_names : List (List (List ℕ)) → List (List ℕ)
all_names xs = flat_map (λ x. x) xs

-- `SUBROUTINE name [([dummy, ..])]` (X3.9 section 15.6.1)
abbrev pub subroutine : Form Header
subroutine = made (λ p. s.subroutine p.0 (all_names p.1)) (both name (grouped (codes "A*") dummy))

-- `FUNCTION name ([dummy, ..])` (X3.9 section 15.5.1)
abbrev pub function : Form Header
function = made (λ p. s.function None p.0 (all_names p.1)) (both name (enclosed (codes "A*") dummy))

-- `BLOCK DATA [name]` (X3.9 section 16.1)
abbrev pub block_data : Form Header
block_data = choice (codes "A") (made (λ x. s.block_data (Some x)) name) (nothing (s.block_data None))

-- ---- assignments

-- What becomes what: a variable, an element or a substring; or a name with empty parentheses, which is a statement function.
abbrev pub assigned : Expr → Expr → Option Statement
assigned (e.call f e.none) x = Some (s.statement_function f [] x)
assigned d x = if is_designator d then Some (s.simple (s.assign d x)) else None

-- `variable = e`, `name() = e` (X3.9 sections 10.1 and 15.4)
abbrev pub assignment : Form Statement
assignment = seen (λ p. assigned p.0 p.1) (both (portion true (codes "),=:")) (behind 61 expression))

-- ---- jumps

-- `GO TO (label, ..) [,] e` (X3.9 section 11.2)
abbrev pub computed : Form Simple
computed = made (λ p. s.computed p.0 p.1.1) (both (inside (listed label)) (both (flag 44) expression))

-- `GO TO name [[,] (label, ..)]`, which is refused (X3.9 section 11.3)
abbrev pub assigned_goto : Form Simple
assigned_goto = refused (unsupported (codes "GOTO")) (made (λ p. s.continue) (both name (choice (codes ",(") (made (λ p. p.1) (both (flag 44) (inside (listed label)))) (nothing []))))

-- `GO TO label` (X3.9 section 11.1), and the others
abbrev pub goto : Form Simple
goto = told (one (codes "(")) computed (told (one (codes "A")) assigned_goto (made s.goto label))

-- `IF (e) label, label, label` (X3.9 section 11.4)
abbrev pub arithmetic : Form Simple
arithmetic = made (λ p. s.arithmetic p.0 p.1.0 p.1.1.0 p.1.1.1) (both (inside expression) (both label (both (behind 44 label) (behind 44 label))))

-- ---- blocks

-- `(e)`
abbrev pub condition : Form Expr
condition = inside expression

-- `(e) THEN` (X3.9 sections 11.6 and 11.7)
abbrev pub then_block : Form Expr
then_block = made (λ p. p.0) (both condition (word (codes "THEN")))

-- `name = e, e [, e]` (X3.9 section 11.10)
abbrev pub range : Form Range
range = made (λ p. record { variable = p.0; from = p.1.0; to = p.1.1.0; by = p.1.1.1 }) (both name (both (behind 61 expression) (both (behind 44 expression) (perhaps 44 expression))))

-- `DO label [,] name = e, e [, e]` (X3.9 section 11.10)
abbrev pub do_ : Form Statement
do_ = made (λ p. s.do_ p.0 p.1.1) (both label (both (flag 44) range))

-- ---- others

-- RETURN; an expression is refused (X3.9 section 15.8)
abbrev pub return_ : Form Simple
return_ = choice expression_sorts (refused (unsupported (codes "RETURN")) (made (λ x. s.return_) expression)) (nothing s.return_)

-- up to five digits
abbrev pub digits_code : List ℕ → Option StopCode
digits_code w = if nat_le (length w) 5 then Some (code.Digits w) else None

abbrev pub text_code : Expr → Option StopCode
text_code x = option_map code.Text (text_of x)

-- `STOP [digits]`, `STOP text` (X3.9 section 11.12)
abbrev pub stop : Form Simple
stop =
    told (one (codes "0")) (made (λ c. s.stop (Some c)) (seen digits_code numeral))
    (told (one (codes "'")) (made (λ c. s.stop (Some c)) (seen text_code expression)) (nothing (s.stop None)))

-- an actual argument: an expression, or `*label`, which is refused and for which 0 stands (X3.9 section 15.8.3)
abbrev pub actual : Form Expr
actual = choice (codes "*") (refused (unsupported (codes "RETURN")) (made (λ l. int (pos 0)) (behind 42 label))) expression

-- `CALL name [([actual, ..])]` (X3.9 section 15.6.2)
abbrev pub call : Form Simple
call = made (λ p. s.calling p.0 p.1) (both name (grouped (expression_sorts ++ codes "*") actual))
