-- The grammar of expressions (ISO/IEC 1539:1991 section 7.1.1): a relation between lists of tokens and trees.
use Rattle.std.specs.Prelude.{◌≡◌, ℕ, zero, suc, ◌≤◌, true, false, IsTrue, List, [], ◌∷◌, ◌++◌, codes, pos}
use Rattle.text_base.specs.Trees.{UnaryOp, plus, minus, negation, BinaryOp, power, times, over, add, subtract, concat, less, less_equal, equal, not_equal, greater, greater_equal, conjunction, disjunction, equivalence, nonequivalence, Expr, int, bool, text, name, call, substring, unary, binary, paren, Exprs, none, more, Bound, absent, at}
use Rattle.tree90.specs.Constants.{is_free_form_name, IsConstant}
use Rattle.tree90.specs.FreeTokens.{Token, plain, quoted}

-- tokens that are an expression of some sort
abbrev pub Grammar : Type 1
Grammar = List Token → Expr → Type 0

-- ---- operators

-- The operators between two operands. Of the two spellings that a relation has, only that by signs is read.
abbrev pub operator : BinaryOp → Token
operator power = plain (codes "**")
operator times = plain (codes "*")
operator over = plain (codes "/")
operator add = plain (codes "+")
operator subtract = plain (codes "-")
operator concat = plain (codes "//")
operator less = plain (codes "<")
operator less_equal = plain (codes "<=")
operator equal = plain (codes "==")
operator not_equal = plain (codes "/=")
operator greater = plain (codes ">")
operator greater_equal = plain (codes ">=")
operator conjunction = plain (codes ".AND.")
operator disjunction = plain (codes ".OR.")
operator equivalence = plain (codes ".EQV.")
operator nonequivalence = plain (codes ".NEQV.")

-- the operators before one operand
abbrev pub prefix : UnaryOp → Token
prefix plus = plain (codes "+")
prefix minus = plain (codes "-")
prefix negation = plain (codes ".NOT.")

-- ---- precedence

-- The level of what an operator makes: from 1 for .EQV. and .NEQV. up to 9 for powers. Primaries are of level 10.
abbrev pub level : BinaryOp → ℕ
level power = 9
level times = 8
level over = 8
level add = 7
level subtract = 7
level concat = 6
level conjunction = 3
level disjunction = 2
level equivalence = 1
level nonequivalence = 1
-- the relations
level _ = 5

-- The least level of a left and of a right operand. Powers group from the right, and what stands between operators of one
-- level from the left otherwise; relations don't group.
abbrev pub left_level : BinaryOp → ℕ
left_level power = 10
left_level times = 8
left_level over = 8
left_level add = 7
left_level subtract = 7
left_level concat = 6
left_level conjunction = 3
left_level disjunction = 2
left_level equivalence = 1
left_level nonequivalence = 1
left_level _ = 6

abbrev pub right_level : BinaryOp → ℕ
right_level power = 9
right_level times = 9
right_level over = 9
right_level add = 8
right_level subtract = 8
right_level concat = 7
right_level conjunction = 4
right_level disjunction = 3
right_level equivalence = 2
right_level nonequivalence = 2
right_level _ = 6

-- The level of what a sign or .NOT. makes, and the least level of its operand: a sign stands before the first term of a sum,
-- and .NOT. before a relation.
abbrev pub prefix_level : UnaryOp → ℕ
prefix_level negation = 4
prefix_level _ = 7

abbrev pub operand_level : UnaryOp → ℕ
operand_level negation = 5
operand_level _ = 8

-- an expression of at least this level, over what is a primary
pub data Spells (Primary : Grammar) : ℕ → List Token → Expr → Type 0 where
  spells_primary : {k : ℕ} {ts : List Token} {e : Expr} → Primary ts e → Spells Primary k ts e
  spells_unary : {k : ℕ} {ts us : List Token} {e a : Expr} (o : UnaryOp) → k ≤ prefix_level o → ts ≡ prefix o ∷ us → Spells Primary (operand_level o) us a → e ≡ unary o a → Spells Primary k ts e
  spells_binary : {k : ℕ} {ts us vs : List Token} {e a b : Expr} (o : BinaryOp) → k ≤ level o → ts ≡ us ++ operator o ∷ vs → Spells Primary (left_level o) us a → Spells Primary (right_level o) vs b → e ≡ binary o a b
      → Spells Primary k ts e

-- ---- primaries, over the expressions inside their parentheses

-- parentheses
abbrev pub opening : Token
opening = plain (codes "(")

abbrev pub closing : Token
closing = plain (codes ")")

-- one or more expressions, with commas between them
pub data Listed (Inner : Grammar) : List Token → Exprs → Type 0 where
  listed_one : {ts : List Token} {xs : Exprs} {a : Expr} → Inner ts a → xs ≡ more a none → Listed Inner ts xs
  listed_more : {ts us vs : List Token} {xs others : Exprs} {a : Expr} → ts ≡ us ++ plain (codes ",") ∷ vs → Inner us a → Listed Inner vs others → xs ≡ more a others → Listed Inner ts xs

-- a name, and in parentheses one or more expressions: an array element or a function reference
pub record IsCall (Inner : Grammar) (ts : List Token) (e : Expr) : Type 0 where
  pub of : List ℕ
  pub inside : List Token
  pub parts : Exprs
  pub named : IsTrue (is_free_form_name of)
  pub whole : ts ≡ plain of ∷ opening ∷ (inside ++ closing ∷ [])
  pub listed : Listed Inner inside parts
  pub tree : e ≡ call of parts

-- what a substring may be of (ISO/IEC 1539:1991 section 6.1.1)
pub data IsParent (Inner : Grammar) (ts : List Token) (e : Expr) : Type 0 where
  parent_name : {x : List ℕ} → ts ≡ plain x ∷ [] → IsTrue (is_free_form_name x) → e ≡ name x → IsParent Inner ts e
  parent_element : IsCall Inner ts e → IsParent Inner ts e

-- a bound of a substring, which may be left out
pub data IsBound (Inner : Grammar) (ts : List Token) (b : Bound) : Type 0 where
  bound_absent : ts ≡ [] → b ≡ absent → IsBound Inner ts b
  bound_at : {a : Expr} → Inner ts a → b ≡ at a → IsBound Inner ts b

-- a primary (ISO/IEC 1539:1991 section 7.1.1.1)
pub data IsPrimary (Inner : Grammar) (ts : List Token) (e : Expr) : Type 0 where
  -- constants (ISO/IEC 1539:1991 section 4.3), and a variable
  primary_integer : {w : List ℕ} {v : ℕ} → ts ≡ plain w ∷ [] → IsConstant w v → e ≡ int (pos v) → IsPrimary Inner ts e
  primary_true : ts ≡ plain (codes ".TRUE.") ∷ [] → e ≡ bool true → IsPrimary Inner ts e
  primary_false : ts ≡ plain (codes ".FALSE.") ∷ [] → e ≡ bool false → IsPrimary Inner ts e
  primary_text : {cs : List ℕ} → ts ≡ quoted cs ∷ [] → e ≡ text cs → IsPrimary Inner ts e
  primary_name : {x : List ℕ} → ts ≡ plain x ∷ [] → IsTrue (is_free_form_name x) → e ≡ name x → IsPrimary Inner ts e
  primary_call : IsCall Inner ts e → IsPrimary Inner ts e
  -- a function reference without arguments
  primary_empty : {x : List ℕ} → ts ≡ plain x ∷ opening ∷ closing ∷ [] → IsTrue (is_free_form_name x) → e ≡ call x none → IsPrimary Inner ts e
  primary_substring : {us vs ws : List Token} {a : Expr} {from to : Bound} → ts ≡ us ++ opening ∷ (vs ++ plain (codes ":") ∷ (ws ++ closing ∷ [])) → IsParent Inner us a → IsBound Inner vs from → IsBound Inner ws to
      → e ≡ substring a from to → IsPrimary Inner ts e
  primary_paren : {us : List Token} {a : Expr} → ts ≡ opening ∷ (us ++ closing ∷ []) → Inner us a → e ≡ paren a → IsPrimary Inner ts e

-- an expression in which parentheses are nested less than so deep
abbrev pub Nested : ℕ → Grammar
Nested zero ts e = ⊥
Nested (suc n) ts e = Spells (IsPrimary (Nested n)) 1 ts e

-- an expression (ISO/IEC 1539:1991 section 7.1.1)
abbrev pub IsFreeExpression : Grammar
IsFreeExpression ts e = (n : ℕ) × Nested n ts e
