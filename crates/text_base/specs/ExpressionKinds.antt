-- Types of expressions (X3.9 section 6; ISO/IEC 1539:1991 section 7.1.4).
use Rattle.std.specs.Prelude.{ℕ, Bool, true, false, List, [], ◌∷◌, Option, Some, None}
use Rattle.std.specs.Option.{option_and_then, option_map}
use Rattle.text_base.specs.Trees.{Expr, int, bool, text, name, call, substring, unary, binary, paren, Exprs, none, more, Action, assign, stop}
use Rattle.text_base.specs.Values.{Kind, integers, logicals, characters}
use Rattle.text_base.specs.Operations.{is_kind, outcome_kind}
use Rattle.text_base.specs.Operators.{unary_op, binary_op, intrinsic}

-- the type of a function of arguments of some types: an intrinsic function's, where no variable has its name
abbrev pub call_kind : Option Kind → List ℕ → List Kind → Option Kind
call_kind None f kinds = option_and_then (λ o. outcome_kind o kinds) (intrinsic f)
call_kind (Some kind) f kinds = None

-- The type of an expression, by the types of the variables, where each of its parts has the type that its place needs.
abbrev mutual
  pub kind_of_expr : (List ℕ → Option Kind) → Expr → Option Kind
  kind_of_expr kinds (int v) = Some integers
  kind_of_expr kinds (bool b) = Some logicals
  kind_of_expr kinds (text t) = Some characters
  kind_of_expr kinds (name x) = kinds x
  kind_of_expr kinds (call f xs) = option_and_then (call_kind (kinds f) f) (kinds_of_exprs kinds xs)
  kind_of_expr kinds (substring a from to) = None
  kind_of_expr kinds (unary op a) = option_and_then (λ k. outcome_kind (unary_op op) (k ∷ [])) (kind_of_expr kinds a)
  kind_of_expr kinds (binary op a b) = option_and_then (λ k. option_and_then (λ l. outcome_kind (binary_op op) (k ∷ l ∷ [])) (kind_of_expr kinds b)) (kind_of_expr kinds a)
  kind_of_expr kinds (paren a) = kind_of_expr kinds a

  pub kinds_of_exprs : (List ℕ → Option Kind) → Exprs → Option (List Kind)
  kinds_of_exprs kinds none = Some []
  kinds_of_exprs kinds (more a rest) = option_and_then (λ k. option_map (λ ks. k ∷ ks) (kinds_of_exprs kinds rest)) (kind_of_expr kinds a)

-- What is assigned has the type of the variable (X3.9 section 10; ISO/IEC 1539:1991 section 7.5.1.4).
abbrev pub are_same : Option Kind → Option Kind → Bool
are_same (Some k) (Some l) = is_kind k l
are_same _ _ = false

abbrev pub is_typed_action : (List ℕ → Option Kind) → Action → Bool
is_typed_action kinds (assign d e) = are_same (kind_of_expr kinds d) (kind_of_expr kinds e)
is_typed_action kinds stop = true
