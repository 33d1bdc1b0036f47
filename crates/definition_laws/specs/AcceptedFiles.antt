-- When nothing is refused of a file, by the program that it is the source of.
use Rattle.std.specs.Prelude.{◌≡◌, ◌↔◌, ◌⊎◌, ℕ, ℤ, ◌+◌, ◌≤◌, IsTrue, List, [], length, Some}
use Rattle.std.specs.List.{All}
use Rattle.text_base.specs.Cards.{Card}
use Rattle.text_base.specs.Operators.{unary_op, binary_op, intrinsic}
use Rattle.text_base.specs.Trees.{UnaryOp, BinaryOp, Expr, int, name, call, unary, binary, paren, Exprs, none, more, Action, assign, stop}
use Rattle.text_base.specs.declared.operation.Op.{Op}
use Rattle.text_base.specs.declared.operation.Op.TheVariants as op
use Rattle.text_base.specs.declared.limits.TheConstants.{LONGEST_WRITTEN}
use Rattle.program77.specs.Built.{SpellsBuilt}
use Rattle.program77.specs.Source.{IsSource}
use Rattle.program77.specs.Built.{Built}
use Rattle.program77.specs.Tree.{simple, continue, Code, done, item, SourceProgram}
use Rattle.tree90.specs.Printed.{stmt_text}
use Rattle.tree90.specs.Tree as free
use Rattle.project_set.specs.Refusals.{is_built_statement, is_built_card, refusals}

-- ---- programs

-- the operations that give an integer of so many integers
abbrev pub IsOfIntegers : Op → ℕ → Type 0
IsOfIntegers op.Positive n = n ≡ 1
IsOfIntegers op.Negative n = n ≡ 1
IsOfIntegers op.Abs n = n ≡ 1
IsOfIntegers op.Iabs n = n ≡ 1
IsOfIntegers op.Power n = n ≡ 2
IsOfIntegers op.Times n = n ≡ 2
IsOfIntegers op.Over n = n ≡ 2
IsOfIntegers op.Plus n = n ≡ 2
IsOfIntegers op.Minus n = n ≡ 2
IsOfIntegers op.Mod n = n ≡ 2
IsOfIntegers op.Sign n = n ≡ 2
IsOfIntegers op.Isign n = n ≡ 2
IsOfIntegers op.Dim n = n ≡ 2
IsOfIntegers op.Idim n = n ≡ 2
IsOfIntegers op.Max n = 2 ≤ n
IsOfIntegers op.Max0 n = 2 ≤ n
IsOfIntegers op.Min n = 2 ≤ n
IsOfIntegers op.Min0 n = 2 ≤ n
IsOfIntegers _ n = ⊥

-- Integer constants and names, and operations and intrinsic functions that give integers of such, also in parentheses. That a
-- function has as many arguments as it takes is asked of a whole source.
mutual
  pub data IsArithmetic : Expr → Type 0 where
    constant : {v : ℤ} → IsArithmetic (int v)
    variable : {x : List ℕ} → IsArithmetic (name x)
    signed : {o : UnaryOp} {a : Expr} → IsOfIntegers (unary_op o) 1 → IsArithmetic a → IsArithmetic (unary o a)
    operation : {o : BinaryOp} {a b : Expr} → IsOfIntegers (binary_op o) 2 → IsArithmetic a → IsArithmetic b → IsArithmetic (binary o a b)
    function : {f : List ℕ} {xs : Exprs} {o : Op} → intrinsic f ≡ Some o → IsOfIntegers o 1 ⊎ IsOfIntegers o 2 → AreArithmetic xs → IsArithmetic (call f xs)
    parenthesized : {a : Expr} → IsArithmetic a → IsArithmetic (paren a)

  -- each is such an expression
  pub data AreArithmetic : Exprs → Type 0 where
    no_more : AreArithmetic none
    one_more : {a : Expr} {rest : Exprs} → IsArithmetic a → AreArithmetic rest → AreArithmetic (more a rest)

-- a statement that is converted: a name becomes such an expression, in a line of at most 132 characters, and LF; or STOP
pub data IsConverted : Action → Type 0 where
  converted_assign : {x : List ℕ} {e : Expr} → IsArithmetic e → length (stmt_text 1 (free.simple (assign (name x) e))) ≤ LONGEST_WRITTEN + 1 → IsConverted (assign (name x) e)
  converted_stop : IsConverted stop

abbrev pub AreConverted : Code → Type 0
AreConverted done = Unit {0}
AreConverted (item label here (simple a) rest) = IsConverted a × AreConverted rest
AreConverted (item label here continue rest) = AreConverted rest

-- A program whose statements are all converted. That nothing is refused of its names and their types is asked of each source.
abbrev pub IsBuiltProgram : SourceProgram → Type 0
IsBuiltProgram p = All (λ unit. AreConverted unit.code) p.units

-- ---- laws

-- A card of a file is converted exactly where it spells a statement that is.
abbrev pub CardsAreSpelled : Type 0
CardsAreSpelled = (card : Card) → IsTrue (is_built_card card) ↔ ((b : Built) × SpellsBuilt card b × IsTrue (is_built_statement b))

-- Nothing is refused of a file exactly where it is the source of a program whose statements are all converted.
abbrev pub FilesAreSources : Type 0
FilesAreSources = (bytes : List ℕ) → (refusals bytes ≡ []) ↔ ((p : SourceProgram) × IsSource 0 bytes p × IsBuiltProgram p)
