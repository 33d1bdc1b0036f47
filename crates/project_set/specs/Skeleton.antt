-- The skeleton of a unit: what it does, in the order of the text, without the names of its variables.
use Rattle.std.specs.Prelude.{ℕ, ℤ, Bool, List, [], ◌∷◌, ◌++◌, map}
use Rattle.text_base.specs.Trees.{UnaryOp, BinaryOp, Expr, int, bool, text, name, call, substring, unary, binary, paren, Exprs, none, more, Action, assign, stop}
use Rattle.program77.specs.Tree as source
use Rattle.program77.specs.Tree.{SourceUnit, SourceProgram}
use Rattle.tree90.specs.Tree as free
use Rattle.tree90.specs.Tree.{FreeUnit, FreeProgram}

-- what a skeleton shows of an expression: a variable is a leaf, a function has its name
pub data Mark : Type 0 where
  leaf : Mark
  integer : ℤ → Mark
  logical : Bool → Mark
  characters : List ℕ → Mark
  sign : UnaryOp → Mark
  operator : BinaryOp → Mark
  function : List ℕ → Mark
  opening : Mark
  closing : Mark

-- the constants, the operators, the functions and the parentheses of an expression, in order; a substring is a leaf without its
-- bounds
abbrev mutual
  pub marks : Expr → List Mark
  marks (int v) = integer v ∷ []
  marks (bool b) = logical b ∷ []
  marks (text t) = characters t ∷ []
  marks (name x) = leaf ∷ []
  marks (call f xs) = function f ∷ opening ∷ (marks_of xs ++ closing ∷ [])
  marks (substring a from to) = leaf ∷ []
  marks (unary op a) = sign op ∷ marks a
  marks (binary op a b) = marks a ++ operator op ∷ marks b
  marks (paren a) = opening ∷ (marks a ++ closing ∷ [])

  pub marks_of : Exprs → List Mark
  marks_of none = []
  marks_of (more a rest) = marks a ++ marks_of rest

-- an entry of a skeleton
pub data Entry : Type 0 where
  -- what is assigned to, and the expression
  assigned : List Mark → List Mark → Entry
  -- STOP without a code
  stopped : Entry
  -- END
  ended : Entry

abbrev pub action_entry : Action → Entry
action_entry (assign d e) = assigned (marks d) (marks e)
action_entry stop = stopped

-- ---- of a source

-- a CONTINUE has no entry
abbrev pub stmt_entries : source.Stmt → List Entry
stmt_entries (source.simple a) = action_entry a ∷ []
stmt_entries source.continue = []

abbrev pub code_entries : source.Code → List Entry
code_entries source.done = []
code_entries (source.item label here s rest) = stmt_entries s ++ code_entries rest

abbrev pub source_skeleton : SourceUnit → List Entry
source_skeleton u = code_entries u.code ++ ended ∷ []

-- ---- of a written text

abbrev pub free_entry : free.Stmt → Entry
free_entry (free.simple a) = action_entry a

abbrev pub free_entries : free.Code → List Entry
free_entries free.done = []
free_entries (free.item remarks s rest) = free_entry s ∷ free_entries rest

abbrev pub written_skeleton : FreeUnit → List Entry
written_skeleton u = free_entries u.code ++ ended ∷ []

-- the skeletons of the units of both, in their order
abbrev pub source_skeletons : SourceProgram → List (List Entry)
source_skeletons p = map source_skeleton p.units

abbrev pub written_skeletons : FreeProgram → List (List Entry)
written_skeletons p = map written_skeleton p.units
