-- The names that stand in expressions and simple statements.
use Rattle.std.specs.Prelude.{ℕ, List, [], ◌∷◌, ◌++◌}
use Rattle.text_base.specs.Trees.{Expr, int, bool, text, name, call, substring, unary, binary, paren, Exprs, none, more, Bound, absent, at, Action, assign, stop}

-- the names of an expression and of a simple statement, in the order of the text
abbrev mutual
  pub expr_names : Expr → List (List ℕ)
  expr_names (int v) = []
  expr_names (bool b) = []
  expr_names (text t) = []
  expr_names (name x) = x ∷ []
  expr_names (call f xs) = f ∷ exprs_names xs
  expr_names (substring a from to) = expr_names a ++ bound_names from ++ bound_names to
  expr_names (unary op a) = expr_names a
  expr_names (binary op a b) = expr_names a ++ expr_names b
  expr_names (paren a) = expr_names a

  pub exprs_names : Exprs → List (List ℕ)
  exprs_names none = []
  exprs_names (more a rest) = expr_names a ++ exprs_names rest

  pub bound_names : Bound → List (List ℕ)
  bound_names absent = []
  bound_names (at a) = expr_names a

abbrev pub action_names : Action → List (List ℕ)
action_names (assign d e) = expr_names d ++ expr_names e
action_names stop = []

-- ---- variables, and functions

-- the names that don't stand before parentheses
abbrev mutual
  pub expr_variables : Expr → List (List ℕ)
  expr_variables (int v) = []
  expr_variables (bool b) = []
  expr_variables (text t) = []
  expr_variables (name x) = x ∷ []
  expr_variables (call f xs) = exprs_variables xs
  expr_variables (substring a from to) = expr_variables a ++ bound_variables from ++ bound_variables to
  expr_variables (unary op a) = expr_variables a
  expr_variables (binary op a b) = expr_variables a ++ expr_variables b
  expr_variables (paren a) = expr_variables a

  pub exprs_variables : Exprs → List (List ℕ)
  exprs_variables none = []
  exprs_variables (more a rest) = expr_variables a ++ exprs_variables rest

  pub bound_variables : Bound → List (List ℕ)
  bound_variables absent = []
  bound_variables (at a) = expr_variables a

-- the names that stand before parentheses
abbrev mutual
  pub expr_functions : Expr → List (List ℕ)
  expr_functions (int v) = []
  expr_functions (bool b) = []
  expr_functions (text t) = []
  expr_functions (name x) = []
  expr_functions (call f xs) = f ∷ exprs_functions xs
  expr_functions (substring a from to) = expr_functions a ++ bound_functions from ++ bound_functions to
  expr_functions (unary op a) = expr_functions a
  expr_functions (binary op a b) = expr_functions a ++ expr_functions b
  expr_functions (paren a) = expr_functions a

  pub exprs_functions : Exprs → List (List ℕ)
  exprs_functions none = []
  exprs_functions (more a rest) = expr_functions a ++ exprs_functions rest

  pub bound_functions : Bound → List (List ℕ)
  bound_functions absent = []
  bound_functions (at a) = expr_functions a

abbrev pub action_variables : Action → List (List ℕ)
action_variables (assign d e) = expr_variables d ++ expr_variables e
action_variables stop = []

abbrev pub action_functions : Action → List (List ℕ)
action_functions (assign d e) = expr_functions d ++ expr_functions e
action_functions stop = []
