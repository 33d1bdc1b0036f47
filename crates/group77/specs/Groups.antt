-- What clauses see of the grouping of operands and operators.
use Rattle.std.specs.Prelude.{◌≡◌, Bool, true, false, List, [], ◌∷◌, map, Option, Some, None, Result, Ok, Err}
use Rattle.text_base.specs.Trees as plain
use Rattle.expr_tree.specs.Plain.{expr_of}
use Rattle.tree77.specs.Expressions.{Symbol, operator, is_product, is_sum, is_concat, is_relation, is_conjunction, is_disjunction, is_equivalence}
use Rattle.expr_tree.specs.declared.tree.Expr.{Expr}
use Rattle.group77.specs.Grouping.{Reader, is_power, is_not, behind_operator, behind_not, read_factor, read_term, read_signed, read_sum, read_concatenation, read_relation, read_negation, read_conjunction, read_disjunction, read_equivalence}
use Rattle.group77.specs.Symbol.{grammar_symbol}
use Rattle.group77.specs.declared.feed.Feed.{Feed}
use Rattle.group77.specs.declared.feed.Sort.{Sort}
use Rattle.group77.specs.declared.feed.Sort.TheVariants as sort
use Rattle.group77.specs.declared.group.Rule.{Rule}
use Rattle.group77.specs.declared.group.Rule.TheVariants as rule
use Rattle.group77.specs.declared.build_error.BuildError.{BuildError}
use Rattle.group77.specs.declared.build_error.BuildError.TheVariants as build_error

-- the symbols that are left
unfoldable pub symbols_left : Feed → List Symbol
symbols_left feed = map grammar_symbol feed.symbols

-- what a reader gives, and what is left then; want of memory says nothing
abbrev pub GivesAndLeaves : Result Expr BuildError → List Symbol → Option (plain.Expr × List Symbol) → Type 0
GivesAndLeaves (Ok x) left read = read ≡ Some (expr_of x, left)
GivesAndLeaves (Err build_error.NotSpelled) left read = read ≡ None
GivesAndLeaves (Err build_error.Memory) left read = Unit {0}

-- whether an operator is of the sort
abbrev pub test_of : Sort → plain.BinaryOp → Bool
test_of sort.Power = is_power
test_of sort.Product = is_product
test_of sort.Sum = is_sum
test_of sort.Concat = is_concat
test_of sort.Relation = is_relation
test_of sort.Conjunction = is_conjunction
test_of sort.Disjunction = is_disjunction
test_of sort.Equivalence = is_equivalence

-- the operator that stands next
abbrev pub operator_at : Symbol → Option plain.BinaryOp
operator_at (operator o) = Some o
operator_at _ = None

abbrev pub operator_here : List Symbol → Option plain.BinaryOp
operator_here [] = None
operator_here (s ∷ rest) = operator_at s

-- .NOT. stands next
abbrev pub is_at_not : List Symbol → Bool
is_at_not [] = false
is_at_not (s ∷ rest) = is_not s

-- an operator of the sort stood next and was taken, or none did and all is left
abbrev pub OperatorTaken : Sort → List Symbol → Option plain.BinaryOp → List Symbol → Type 0
OperatorTaken s before (Some o) after = behind_operator (test_of s) before ≡ Some (o, after)
OperatorTaken s before None after = (behind_operator (test_of s) before ≡ None) × (after ≡ before)

-- .NOT. stood next and was taken, or didn't and all is left
abbrev pub NotTaken : List Symbol → Bool → List Symbol → Type 0
NotTaken before true after = behind_not before ≡ Some after
NotTaken before false after = (behind_not before ≡ None) × (after ≡ before)

-- how the symbols of a rule are read
abbrev pub reader_of : Rule → Reader
reader_of rule.Factor = read_factor
reader_of rule.Term = read_term
reader_of rule.Signed = read_signed
reader_of rule.Sum = read_sum
reader_of rule.Concatenation = read_concatenation
reader_of rule.Relation = read_relation
reader_of rule.Negation = read_negation
reader_of rule.Conjunction = read_conjunction
reader_of rule.Disjunction = read_disjunction
reader_of rule.Equivalence = read_equivalence
