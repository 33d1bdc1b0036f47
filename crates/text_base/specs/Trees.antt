-- Expressions and simple statements, as plain trees that both languages share (X3.9 section 6; ISO/IEC 1539:1991 section 7.1).
use Rattle.std.specs.Prelude.{ℕ, ℤ, Bool, List}

-- a sign (X3.9 section 6.1), and .NOT. (X3.9 section 6.4)
pub data UnaryOp : Type 0 where
  plus : UnaryOp
  minus : UnaryOp
  negation : UnaryOp

-- the operators between two operands (X3.9 sections 6.1 to 6.4)
pub data BinaryOp : Type 0 where
  power : BinaryOp
  times : BinaryOp
  over : BinaryOp
  add : BinaryOp
  subtract : BinaryOp
  concat : BinaryOp
  less : BinaryOp
  less_equal : BinaryOp
  equal : BinaryOp
  not_equal : BinaryOp
  greater : BinaryOp
  greater_equal : BinaryOp
  conjunction : BinaryOp
  disjunction : BinaryOp
  equivalence : BinaryOp
  nonequivalence : BinaryOp

mutual
  pub data Expr : Type 0 where
    -- constants (X3.9 sections 4.3, 4.7 and 4.8); a character constant is the characters that it stands for
    int : ℤ → Expr
    bool : Bool → Expr
    text : List ℕ → Expr
    name : List ℕ → Expr
    -- an array element or a function reference (X3.9 sections 5.3 and 15.2)
    call : List ℕ → Exprs → Expr
    -- a substring (X3.9 section 5.7), and its bounds where they are written
    substring : Expr → Bound → Bound → Expr
    unary : UnaryOp → Expr → Expr
    binary : BinaryOp → Expr → Expr → Expr
    paren : Expr → Expr

  pub data Exprs : Type 0 where
    none : Exprs
    more : Expr → Exprs → Exprs

  pub data Bound : Type 0 where
    absent : Bound
    at : Expr → Bound

-- a simple statement
pub data Action : Type 0 where
  -- the variable, and the expression (X3.9 section 10.1)
  assign : Expr → Expr → Action
  -- STOP without a code (X3.9 section 11.12)
  stop : Action
