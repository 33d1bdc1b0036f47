-- The grammar of expressions (X3.9 section 6): a relation between lists of symbols and trees.
use Rattle.std.specs.Prelude.{pos, ◌≡◌, ◌≢◌, ℕ, zero, suc, IsTrue, Bool, true, false, List, [], ◌∷◌, ◌++◌}
use Rattle.text_base.specs.Trees.{UnaryOp, plus, minus, negation, BinaryOp, power, times, over, add, subtract, concat, less, less_equal, equal, not_equal, greater, greater_equal, conjunction, disjunction, equivalence, nonequivalence, Expr, int, name, call, substring, unary, binary, paren, Exprs, none, more, Bound, absent, at}

-- what an expression is made of
pub data Symbol : Type 0 where
  -- a constant or a name
  operand : Expr → Symbol
  -- an alternate return specifier, `*label` (X3.9 section 15.8.3)
  alternate : Symbol
  -- an operator; `+` and `-` are signs too
  operator : BinaryOp → Symbol
  -- .NOT.
  not_sign : Symbol
  opening : Symbol
  closing : Symbol
  comma : Symbol
  colon : Symbol

-- symbols that are an expression of some sort
abbrev pub Grammar : Type 1
Grammar = List Symbol → Expr → Type 0

-- ---- operators

abbrev pub is_product : BinaryOp → Bool
is_product times = true
is_product over = true
is_product _ = false

abbrev pub is_sum : BinaryOp → Bool
is_sum add = true
is_sum subtract = true
is_sum _ = false

abbrev pub is_concat : BinaryOp → Bool
is_concat concat = true
is_concat _ = false

abbrev pub is_relation : BinaryOp → Bool
is_relation less = true
is_relation less_equal = true
is_relation equal = true
is_relation not_equal = true
is_relation greater = true
is_relation greater_equal = true
is_relation _ = false

abbrev pub is_conjunction : BinaryOp → Bool
is_conjunction conjunction = true
is_conjunction _ = false

abbrev pub is_disjunction : BinaryOp → Bool
is_disjunction disjunction = true
is_disjunction _ = false

abbrev pub is_equivalence : BinaryOp → Bool
is_equivalence equivalence = true
is_equivalence nonequivalence = true
is_equivalence _ = false

-- the operator that a sign is written as
abbrev pub sign_symbol : UnaryOp → Symbol
sign_symbol plus = operator add
sign_symbol minus = operator subtract
sign_symbol negation = not_sign

-- ---- precedence (X3.9 section 6.5), over what is a primary

-- operands with operators of one sort between them, grouped from the left
pub data Chain (joins : BinaryOp → Bool) (First Next : Grammar) : List Symbol → Expr → Type 0 where
  chain_one : {t : List Symbol} {x : Expr} → First t x → Chain joins First Next t x
  chain_more : {t u v : List Symbol} {x a b : Expr} (o : BinaryOp) → t ≡ u ++ operator o ∷ v → IsTrue (joins o) → Chain joins First Next u a → Next v b → x ≡ binary o a b → Chain joins First Next t x

-- a primary, or a primary and a power of it, so that powers group from the right (X3.9 section 6.1.2)
pub data Factor (Primary : Grammar) : List Symbol → Expr → Type 0 where
  factor_one : {t : List Symbol} {x : Expr} → Primary t x → Factor Primary t x
  factor_power : {t u v : List Symbol} {x a b : Expr} → t ≡ u ++ operator power ∷ v → Primary u a → Factor Primary v b → x ≡ binary power a b → Factor Primary t x

-- factors with * and / (X3.9 section 6.1.2)
abbrev pub Term : Grammar → Grammar
Term Primary = Chain is_product (Factor Primary) (Factor Primary)

-- a term, which may have a sign before it
pub data Signed (Primary : Grammar) : List Symbol → Expr → Type 0 where
  signed_none : {t : List Symbol} {x : Expr} → Term Primary t x → Signed Primary t x
  signed_by : {t u : List Symbol} {x a : Expr} (s : UnaryOp) → s ≢ negation → t ≡ sign_symbol s ∷ u → Term Primary u a → x ≡ unary s a → Signed Primary t x

-- terms with + and -; a sign stands before the first alone (X3.9 section 6.1.2)
abbrev pub Sum : Grammar → Grammar
Sum Primary = Chain is_sum (Signed Primary) (Term Primary)

-- sums with // (X3.9 section 6.2.2)
abbrev pub Concatenation : Grammar → Grammar
Concatenation Primary = Chain is_concat (Sum Primary) (Sum Primary)

-- one or two of these, with a relation between them (X3.9 section 6.3)
pub data Relation (Primary : Grammar) : List Symbol → Expr → Type 0 where
  relation_one : {t : List Symbol} {x : Expr} → Concatenation Primary t x → Relation Primary t x
  relation_two : {t u v : List Symbol} {x a b : Expr} (o : BinaryOp) → t ≡ u ++ operator o ∷ v → IsTrue (is_relation o) → Concatenation Primary u a → Concatenation Primary v b → x ≡ binary o a b
      → Relation Primary t x

-- a relation, which may have .NOT. before it (X3.9 section 6.4.2)
pub data Negation (Primary : Grammar) : List Symbol → Expr → Type 0 where
  negation_none : {t : List Symbol} {x : Expr} → Relation Primary t x → Negation Primary t x
  negation_by : {t u : List Symbol} {x a : Expr} → t ≡ not_sign ∷ u → Relation Primary u a → x ≡ unary negation a → Negation Primary t x

-- .AND., then .OR., then .EQV. and .NEQV. (X3.9 section 6.4.2)
abbrev pub Conjunction : Grammar → Grammar
Conjunction Primary = Chain is_conjunction (Negation Primary) (Negation Primary)

abbrev pub Disjunction : Grammar → Grammar
Disjunction Primary = Chain is_disjunction (Conjunction Primary) (Conjunction Primary)

abbrev pub Equivalence : Grammar → Grammar
Equivalence Primary = Chain is_equivalence (Disjunction Primary) (Disjunction Primary)

-- ---- primaries, over the expressions inside their parentheses

-- one or more of some sort, with commas between them
pub data Listed (Part : Grammar) : List Symbol → Exprs → Type 0 where
  listed_one : {t : List Symbol} {xs : Exprs} {a : Expr} → Part t a → xs ≡ more a none → Listed Part t xs
  listed_more : {t u v : List Symbol} {xs others : Exprs} {a : Expr} → t ≡ u ++ comma ∷ v → Part u a → Listed Part v others → xs ≡ more a others → Listed Part t xs

-- a name, and in parentheses one or more of some sort
pub record IsCall (Part : Grammar) (t : List Symbol) (x : Expr) : Type 0 where
  pub of : List ℕ
  pub inside : List Symbol
  pub parts : Exprs
  pub whole : t ≡ operand (name of) ∷ opening ∷ (inside ++ closing ∷ [])
  pub listed : Listed Part inside parts
  pub tree : x ≡ call of parts

-- an array element with its subscripts, which are expressions (X3.9 section 5.4)
abbrev pub IsElement : Grammar → Grammar
IsElement Inner = IsCall Inner

-- an argument of a reference: an expression, or an alternate return specifier, which is refused: 0 stands for it in the tree
pub data Argument (Inner : Grammar) : List Symbol → Expr → Type 0 where
  argument_expression : {t : List Symbol} {x : Expr} → Inner t x → Argument Inner t x
  argument_alternate : {t : List Symbol} {x : Expr} → t ≡ alternate ∷ [] → x ≡ int (pos 0) → Argument Inner t x

-- A function reference with its arguments (X3.9 section 15.2). Its form doesn't tell it from an array element, unless an
-- alternate return specifier is an argument.
abbrev pub IsReference : Grammar → Grammar
IsReference Inner = IsCall (Argument Inner)

-- what a substring may be of (X3.9 section 5.7)
pub data IsParent (Inner : Grammar) : List Symbol → Expr → Type 0 where
  parent_variable : {t : List Symbol} {x : Expr} (of : List ℕ) → t ≡ operand (name of) ∷ [] → x ≡ name of → IsParent Inner t x
  parent_element : {t : List Symbol} {x : Expr} → IsElement Inner t x → IsParent Inner t x

-- a bound of a substring, which may be left out
pub data IsBound (Inner : Grammar) : List Symbol → Bound → Type 0 where
  bound_absent : {t : List Symbol} {b : Bound} → t ≡ [] → b ≡ absent → IsBound Inner t b
  bound_at : {t : List Symbol} {b : Bound} {x : Expr} → Inner t x → b ≡ at x → IsBound Inner t b

pub data Primary (Inner : Grammar) : List Symbol → Expr → Type 0 where
  -- a constant or a name
  primary_operand : {t : List Symbol} {x : Expr} → t ≡ operand x ∷ [] → Primary Inner t x
  -- an array element or a function reference
  primary_reference : {t : List Symbol} {x : Expr} → IsReference Inner t x → Primary Inner t x
  -- a function reference without arguments
  primary_empty : {t : List Symbol} {x : Expr} (of : List ℕ) → t ≡ operand (name of) ∷ opening ∷ closing ∷ [] → x ≡ call of none → Primary Inner t x
  primary_substring : {t u v w : List Symbol} {x a : Expr} {from to : Bound} → t ≡ u ++ opening ∷ (v ++ colon ∷ (w ++ closing ∷ [])) → IsParent Inner u a → IsBound Inner v from → IsBound Inner w to
      → x ≡ substring a from to → Primary Inner t x
  primary_paren : {t u : List Symbol} {x a : Expr} → t ≡ opening ∷ (u ++ closing ∷ []) → Inner u a → x ≡ paren a → Primary Inner t x

-- an expression in which parentheses are nested less than so deep
abbrev pub Nested : ℕ → Grammar
Nested zero t x = ⊥
Nested (suc n) t x = Equivalence (Primary (Nested n)) t x

-- an expression (X3.9 section 6)
abbrev pub IsExpression : Grammar
IsExpression t x = (n : ℕ) × Nested n t x
