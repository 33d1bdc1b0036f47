-- What a card spells can be written where it is converted: it has no LF, and its names are names.
use Rattle.std.proofs.Common.{◌≡◌, ℕ, ◌+◌, ◌%◌, ◌^◌, ◌<◌, pos, negsuc, true, ◌&&◌, List, [], ◌∷◌, ◌++◌, codes, Some, None, refl, sym, ◌∙◌, subst, arith}
use Rattle.std.specs.Fmt.{decimal}
use Rattle.std.specs.List.{list_all}
use Rattle.std.proofs.lemmas.Fmt.{decimal_by_steps}
use Rattle.std.proofs.lemmas.List.Folds.{list_all-append}
use Rattle.std.proofs.lemmas.Bool.{and_from, and_parts, leb-true}
use Rattle.text_base.specs.Chars.{is_name}
use Rattle.text_base.specs.Names.{expr_variables, exprs_variables, action_variables}
use Rattle.text_base.specs.Cards.{Card}
use Rattle.text_base.specs.Trees.{UnaryOp, plus, minus, negation, BinaryOp, Expr, int, bool, text, name, call, substring, unary, binary, paren, Exprs, none, more, Action, assign, stop}
use Rattle.text_base.specs.Trees as t
use Rattle.text_base.specs.declared.limits.TheConstants.{GREATEST_INTEGER}
use Rattle.program77.specs.Built.{SpellsBuilt, built_of, built_simple, action, program}
use Rattle.tree77.specs.Statements as s
use Rattle.tree77.specs.Statements.{Statement}
use Rattle.tree90.specs.Printed.{sign_text, operator_text, expr_text, exprs_text, others_text, action_text}
use Rattle.tree90.specs.Proper.{is_free, are_free, IsWritableAction, writable_assign, writable_stop}
use Rattle.project_set.specs.Refusals.{is_sign, is_arithmetic, is_built, are_built, is_built_action}
use Rattle.project_set.proofs.FormLemmas.{IsSound, statement_is_sound}
use Rattle.project_set.proofs.OperandLemmas.{IsSoundExpr}
use Rattle.project_set.proofs.ShortPieces.{has_no_feed, no_feed_append, no_feed_name}

-- a number in decimal has no LF
no_feed_decimal : (n : ℕ) → n < 2 ^ 64 → has_no_feed (decimal n) ≡ true
no_feed_decimal = decimal_by_steps (λ n text. has_no_feed text ≡ true) (λ n lt. digit n) (λ n text le e. no_feed_append text ((48 + n % 10) ∷ []) e (digit (n % 10)))
  where
    digit : (d : ℕ) → has_no_feed ((48 + d) ∷ []) ≡ true
    digit d = grind arith

-- a sign is no LF
no_feed_sign : (op : UnaryOp) → has_no_feed (sign_text op) ≡ true
no_feed_sign plus = refl
no_feed_sign minus = refl
no_feed_sign negation = refl

-- an operator is no LF
no_feed_operator : (op : BinaryOp) → has_no_feed (operator_text op) ≡ true
no_feed_operator t.power = refl
no_feed_operator t.times = refl
no_feed_operator t.over = refl
no_feed_operator t.add = refl
no_feed_operator t.subtract = refl
no_feed_operator t.concat = refl
no_feed_operator t.less = refl
no_feed_operator t.less_equal = refl
no_feed_operator t.equal = refl
no_feed_operator t.not_equal = refl
no_feed_operator t.greater = refl
no_feed_operator t.greater_equal = refl
no_feed_operator t.conjunction = refl
no_feed_operator t.disjunction = refl
no_feed_operator t.equivalence = refl
no_feed_operator t.nonequivalence = refl

-- a sum has no LF where its operands have none
no_feed_sum : (op : BinaryOp) (s t : List ℕ) → has_no_feed s ≡ true → has_no_feed t ≡ true → has_no_feed (s ++ codes " " ++ operator_text op ++ codes " " ++ t) ≡ true
no_feed_sum op s t e f =
    no_feed_append (s ++ codes " " ++ operator_text op ++ codes " ") t
    (no_feed_append (s ++ codes " " ++ operator_text op) (codes " ")
    (no_feed_append (s ++ codes " ") (operator_text op) (no_feed_append s (codes " ") e refl) (no_feed_operator op))
    refl)
    f

-- ---- expressions

-- an expression whose text has no LF, and whose variables have names
record PlainExpr (e : Expr) : Type 0 where
  plain : has_no_feed (expr_text e) ≡ true
  named : list_all is_name (expr_variables e) ≡ true

-- expressions with commas before them
record PlainExprs (xs : Exprs) : Type 0 where
  plain : has_no_feed (exprs_text xs) ≡ true
  others : has_no_feed (others_text xs) ≡ true
  named : list_all is_name (exprs_variables xs) ≡ true

in_parentheses : (u : List ℕ) → has_no_feed u ≡ true → has_no_feed (codes "(" ++ u ++ codes ")") ≡ true
in_parentheses u e = no_feed_append (codes "(" ++ u) (codes ")") (no_feed_append (codes "(") u refl e) refl

-- what is converted can be written so
mutual
  expr_is_plain : (e : Expr) → is_built e ≡ true → is_free e ≡ true → PlainExpr e
  expr_is_plain (int (pos v)) built free = let within = leb-true v GREATEST_INTEGER free in record { plain = no_feed_decimal v (omega (arith, within)); named = refl }
  expr_is_plain (int (negsuc v)) built free = absurd cc
  expr_is_plain (name x) built free = record { plain = no_feed_name x free; named = and_from (is_name x) true free refl }
  expr_is_plain (call f xs) built free =
      let b = and_parts (is_name f) (are_free xs) free in
      let args = exprs_are_plain xs (and_parts _ (are_built xs) built).1 b.1 in
      record {
        plain = no_feed_append (f ++ codes "(" ++ exprs_text xs) (codes ")") (no_feed_append (f ++ codes "(") (exprs_text xs) (no_feed_append f (codes "(") (no_feed_name f b.0) refl) args.plain) refl;
        named = args.named;
      }
  expr_is_plain (unary op a) built free =
      let one = expr_is_plain a (and_parts (is_sign op) (is_built a) built).1 (and_parts _ (is_free a) free).1 in
      record { plain = no_feed_append (sign_text op) (expr_text a) (no_feed_sign op) one.plain; named = one.named }
  expr_is_plain (binary op a b) built free =
      let parts = and_parts (is_built a) (is_built b) (and_parts (is_arithmetic op) (is_built a && is_built b) built).1 in
      let right = and_parts _ (is_free b) free in
      let l = expr_is_plain a parts.0 (and_parts _ (is_free a) right.0).1 in
      let r = expr_is_plain b parts.1 right.1 in
      record {
        plain = no_feed_sum op (expr_text a) (expr_text b) l.plain r.plain;
        named = list_all-append is_name (expr_variables a) (expr_variables b) ∙ and_from _ _ l.named r.named;
      }
  expr_is_plain (paren a) built free = let one = expr_is_plain a built free in record { plain = in_parentheses (expr_text a) one.plain; named = one.named }
  expr_is_plain (bool b) built free = absurd cc
  expr_is_plain (text cs) built free = absurd cc
  expr_is_plain (substring a from to) built free = absurd cc

  exprs_are_plain : (xs : Exprs) → are_built xs ≡ true → are_free xs ≡ true → PlainExprs xs
  exprs_are_plain none built free = record { plain = refl; others = refl; named = refl }
  exprs_are_plain (more a rest) built free =
      let b = and_parts (is_built a) (are_built rest) built in
      let f = and_parts (is_free a) (are_free rest) free in
      let one = expr_is_plain a b.0 f.0 in
      let rests = exprs_are_plain rest b.1 f.1 in
      record {
        plain = no_feed_append (expr_text a) (others_text rest) one.plain rests.others;
        others = no_feed_append (codes ", " ++ expr_text a) (others_text rest) (no_feed_append (codes ", ") (expr_text a) refl one.plain) rests.others;
        named = list_all-append is_name (expr_variables a) (exprs_variables rest) ∙ and_from _ _ one.named rests.named;
      }

-- ---- statements

-- a statement that can be written, whose text has no LF
pub record PlainAction (a : Action) : Type 0 where
  pub plain : has_no_feed (action_text a) ≡ true
  pub named : list_all is_name (action_variables a) ≡ true
  pub writable : IsWritableAction a

assign_is_plain : (x : List ℕ) (e : Expr) → is_name x ≡ true → is_free e ≡ true → PlainExpr e → PlainAction (assign (name x) e)
assign_is_plain x e named free value = record {
  plain = no_feed_append (x ++ codes " = ") (expr_text e) (no_feed_append x (codes " = ") (no_feed_name x named) refl) value.plain;
  named = and_from (is_name x) (list_all is_name (expr_variables e)) named value.named;
  writable = writable_assign named free;
}

-- an assignment that is sound and converted can be written
assignment_is_plain : (d e : Expr) → is_built_action (assign d e) ≡ true → IsSoundExpr d → IsSoundExpr e → PlainAction (assign d e)
assignment_is_plain (name x) e built left right = assign_is_plain x e (left refl) (right built) (expr_is_plain e built (right built))
assignment_is_plain _ e built left right = absurd cc

-- a statement that is spelled and converted can be written
pub action_is_plain : (card : Card) (a : Action) → SpellsBuilt card (action a) → is_built_action a ≡ true → PlainAction a
action_is_plain card a b built = go b.statement b.built (statement_is_sound card.label b.spelled.pieces b.statement [] b.spelled.spelled)
  where
    -- an assignment to a name
    assigned : (d x : Expr) → built_simple (s.assign d x) ≡ Some (action a) → IsSoundExpr d → IsSoundExpr x → PlainAction a
    assigned (name v) x e left right =
        let same : assign (name v) x ≡ a = cc in
        subst PlainAction same (assignment_is_plain (name v) x (subst (λ b. is_built_action b ≡ true) (sym same) built) left right)
    assigned _ x e left right = absurd cc

    go : (s : Statement) → built_of s ≡ Some (action a) → IsSound s → PlainAction a
    go (s.simple (s.assign d x)) e sound = assigned d x e sound.0 sound.1
    go (s.simple (s.stop None)) e sound = let same : stop ≡ a = cc in subst PlainAction same (record { plain = refl; named = refl; writable = writable_stop })
    go (s.simple (s.goto l)) e sound = absurd cc
    go (s.simple (s.computed ls y)) e sound = absurd cc
    go (s.simple (s.arithmetic y l m n)) e sound = absurd cc
    go (s.simple s.continue) e sound = absurd cc
    go (s.simple s.return_) e sound = absurd cc
    go (s.simple (s.stop (Some code))) e sound = absurd cc
    go (s.simple (s.calling f ys)) e sound = absurd cc
    go (s.simple (s.read by ls)) e sound = absurd cc
    go (s.simple (s.write c ls)) e sound = absurd cc
    go (s.simple (s.print f ls)) e sound = absurd cc
    go (s.simple (s.open_ c)) e sound = absurd cc
    go (s.simple (s.close_ c)) e sound = absurd cc
    go (s.simple (s.rewind c)) e sound = absurd cc
    go (s.header (s.program y)) e sound = absurd cc
    go (s.header (s.subroutine f ds)) e sound = absurd cc
    go (s.header (s.function t f ds)) e sound = absurd cc
    go (s.header (s.block_data f)) e sound = absurd cc
    go (s.declared d) e sound = absurd cc
    go (s.statement_function f ds y) e sound = absurd cc
    go (s.guarded y c) e sound = absurd cc
    go (s.if_then y) e sound = absurd cc
    go (s.else_if y) e sound = absurd cc
    go s.else_ e sound = absurd cc
    go s.end_if e sound = absurd cc
    go (s.do_ l r) e sound = absurd cc
    go s.end e sound = absurd cc

-- the name of a unit is a name
pub header_is_named : (card : Card) (x : List ℕ) → SpellsBuilt card (program x) → is_name x ≡ true
header_is_named card x b = go b.statement b.built (statement_is_sound card.label b.spelled.pieces b.statement [] b.spelled.spelled)
  where
    -- an assignment is no header
    assigned : (d y : Expr) → built_simple (s.assign d y) ≡ Some (program x) → ⊥
    assigned (name v) y e = cc
    assigned _ y e = cc

    go : (s : Statement) → built_of s ≡ Some (program x) → IsSound s → is_name x ≡ true
    go (s.header (s.program y)) e sound = let same : y ≡ x = cc in subst (λ z. is_name z ≡ true) same sound
    go (s.header (s.subroutine f ds)) e sound = absurd cc
    go (s.header (s.function t f ds)) e sound = absurd cc
    go (s.header (s.block_data f)) e sound = absurd cc
    go (s.simple (s.assign y z)) e sound = absurd (assigned y z e)
    go (s.simple (s.stop None)) e sound = absurd cc
    go (s.simple (s.goto l)) e sound = absurd cc
    go (s.simple (s.computed ls y)) e sound = absurd cc
    go (s.simple (s.arithmetic y l m n)) e sound = absurd cc
    go (s.simple s.continue) e sound = absurd cc
    go (s.simple s.return_) e sound = absurd cc
    go (s.simple (s.stop (Some code))) e sound = absurd cc
    go (s.simple (s.calling f ys)) e sound = absurd cc
    go (s.simple (s.read by ls)) e sound = absurd cc
    go (s.simple (s.write c ls)) e sound = absurd cc
    go (s.simple (s.print f ls)) e sound = absurd cc
    go (s.simple (s.open_ c)) e sound = absurd cc
    go (s.simple (s.close_ c)) e sound = absurd cc
    go (s.simple (s.rewind c)) e sound = absurd cc
    go (s.declared d) e sound = absurd cc
    go (s.statement_function f ds y) e sound = absurd cc
    go (s.guarded y c) e sound = absurd cc
    go (s.if_then y) e sound = absurd cc
    go (s.else_if y) e sound = absurd cc
    go s.else_ e sound = absurd cc
    go s.end_if e sound = absurd cc
    go (s.do_ l r) e sound = absurd cc
    go s.end e sound = absurd cc
