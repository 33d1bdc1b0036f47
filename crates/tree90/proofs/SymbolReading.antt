-- The tokens of an expression as symbols of which each expression has one tree.
use Rattle.std.proofs.Common.{pos, ◌≡◌, ◌⊎◌, inl, inr, ℕ, zero, suc, ◌<◌, ◌≤◌, true, false, List, [], ◌∷◌, ◌++◌, map, codes, refl, sym, ap, ◌∙◌, subst, arith}
use Rattle.std.proofs.lemmas.List.{map-append}
use Rattle.std.specs.Prelude.{slice_index, nat_le, if◌then◌else◌}
use Rattle.std.specs.List.{list_all}
use Rattle.std.specs.Str.{bytes_eq}
use Rattle.std.specs.Str.Parse.{digits_value}
use Rattle.std.proofs.lemmas.Bool.{and_parts, and_left, cases_lt, lt-leb, leb-true}
use Rattle.text_base.specs.Trees.{UnaryOp, plus, minus, negation, BinaryOp, power, times, over, add, subtract, concat, less, less_equal, equal, not_equal, greater, greater_equal, conjunction, disjunction, equivalence, nonequivalence, Expr, int, bool, text, name, unary, binary, Exprs, Bound}
use Rattle.tree77.specs.Expressions as s
use Rattle.tree77.specs.Expressions.{Symbol, operand, alternate, not_sign, comma, colon}
use Rattle.tree90.specs.Constants.{is_letter, is_figure, is_free_form_name, IsConstant}
use Rattle.tree90.specs.FreeTokens.{Token, plain, quoted, unended}
use Rattle.tree90.specs.FreeExpressions.{Grammar, operator, prefix, level, left_level, right_level, prefix_level, operand_level, Spells, spells_primary, spells_unary, spells_binary, opening, closing, Listed, listed_one, listed_more, IsCall, IsParent, parent_name, parent_element, IsBound, bound_absent, bound_at, IsPrimary, primary_integer, primary_true, primary_false, primary_text, primary_name, primary_call, primary_empty, primary_substring, primary_paren, Nested, IsFreeExpression}

-- ---- symbols

-- the symbols of operators, marks and words between dots
abbrev marks : List (List ℕ × Symbol)
marks =
    (codes "**", s.operator power) ∷ (codes "*", s.operator times) ∷ (codes "/", s.operator over) ∷ (codes "+", s.operator add) ∷ (codes "-", s.operator subtract) ∷ (codes "//", s.operator concat)
    ∷ (codes "<", s.operator less) ∷ (codes "<=", s.operator less_equal) ∷ (codes "==", s.operator equal) ∷ (codes "/=", s.operator not_equal) ∷ (codes ">", s.operator greater) ∷ (codes ">=", s.operator greater_equal)
    ∷ (codes ".AND.", s.operator conjunction) ∷ (codes ".OR.", s.operator disjunction) ∷ (codes ".EQV.", s.operator equivalence) ∷ (codes ".NEQV.", s.operator nonequivalence) ∷ (codes ".NOT.", not_sign)
    ∷ (codes "(", s.opening) ∷ (codes ")", s.closing) ∷ (codes ",", comma) ∷ (codes ":", colon) ∷ (codes ".TRUE.", operand (bool true)) ∷ (codes ".FALSE.", operand (bool false)) ∷ []

-- what stands for a text among these
abbrev found : List (List ℕ × Symbol) → List ℕ → Symbol
found [] w = alternate
found (m ∷ ms) w = if bytes_eq w m.0 then m.1 else found ms w

-- a name begins with a letter, and a constant with a digit
abbrev word_symbol : List ℕ → Symbol
word_symbol w = if is_letter (slice_index w 0) then operand (name w) else (if is_figure (slice_index w 0) then operand (int (pos (digits_value 10 w))) else found marks w)

-- the symbol of a token
abbrev pub symbol : Token → Symbol
symbol (plain w) = word_symbol w
symbol (quoted cs) = operand (text cs)
symbol unended = alternate

-- the symbols of tokens
abbrev pub symbols : List Token → List Symbol
symbols = map symbol

-- the symbols of tokens with one among them
split : (us : List Token) (c : Token) (vs : List Token) → symbols (us ++ c ∷ vs) ≡ symbols us ++ symbol c ∷ symbols vs
split us c vs = map-append symbol us (c ∷ vs)

-- an operator is read as itself
operator_symbol : (o : BinaryOp) → symbol (operator o) ≡ s.operator o
operator_symbol power = refl
operator_symbol _ = refl

-- and so are a sign and .NOT.
prefix_symbol : (o : UnaryOp) → symbol (prefix o) ≡ s.sign_symbol o
prefix_symbol plus = refl
prefix_symbol _ = refl

-- ---- levels

-- the other grammar's sort of expression at each level
abbrev At : s.Grammar → ℕ → s.Grammar
At Q zero = s.Equivalence Q
At Q (suc zero) = s.Equivalence Q
At Q (suc (suc zero)) = s.Disjunction Q
At Q (suc (suc (suc zero))) = s.Conjunction Q
At Q (suc (suc (suc (suc zero)))) = s.Negation Q
At Q (suc (suc (suc (suc (suc zero))))) = s.Relation Q
At Q (suc (suc (suc (suc (suc (suc zero)))))) = s.Concatenation Q
At Q (suc (suc (suc (suc (suc (suc (suc zero))))))) = s.Sum Q
At Q (suc (suc (suc (suc (suc (suc (suc (suc zero)))))))) = s.Term Q
At Q (suc (suc (suc (suc (suc (suc (suc (suc (suc zero))))))))) = s.Factor Q
At Q (suc (suc (suc (suc (suc (suc (suc (suc (suc (suc k)))))))))) = Q

-- each sort is of the level below too
below : (Q : s.Grammar) (k : ℕ) (t : List Symbol) (x : Expr) → At Q (suc k) t x → At Q k t x
below Q zero t x a = a
below Q (suc zero) t x a = s.chain_one a
below Q (suc (suc zero)) t x a = s.chain_one a
below Q (suc (suc (suc zero))) t x a = s.chain_one a
below Q (suc (suc (suc (suc zero)))) t x a = s.negation_none a
below Q (suc (suc (suc (suc (suc zero))))) t x a = s.relation_one a
below Q (suc (suc (suc (suc (suc (suc zero)))))) t x a = s.chain_one a
below Q (suc (suc (suc (suc (suc (suc (suc zero))))))) t x a = s.chain_one (s.signed_none a)
below Q (suc (suc (suc (suc (suc (suc (suc (suc zero)))))))) t x a = s.chain_one a
below Q (suc (suc (suc (suc (suc (suc (suc (suc (suc zero))))))))) t x a = s.factor_one a
below Q (suc (suc (suc (suc (suc (suc (suc (suc (suc (suc k)))))))))) t x a = a

-- and of each lower level
lower : (Q : s.Grammar) (k m : ℕ) (t : List Symbol) (x : Expr) → k ≤ m → At Q m t x → At Q k t x
lower Q k zero t x le a = let e : 0 ≡ k = omega (arith, le) in subst (λ n. At Q n t x) e a
lower Q k (suc m) t x le a = choose (cases_lt m k) (λ under. lower Q k m t x under (below Q m t x a))
  where
    choose : (m < k) ⊎ (k ≤ m) → (k ≤ m → At Q k t x) → At Q k t x
    choose (inl above) other = let e : suc m ≡ k = omega (arith, le, above) in subst (λ n. At Q n t x) e a
    choose (inr under) other = other under

-- a primary is of each level
raise : (Q : s.Grammar) (k : ℕ) (t : List Symbol) (x : Expr) → Q t x → At Q k t x
raise Q k t x a = lower Q k (suc (suc (suc (suc (suc (suc (suc (suc (suc (suc k)))))))))) t x (omega arith) a

-- an operator with its operands
of_binary : (Q : s.Grammar) (o : BinaryOp) (t u v : List Symbol) (x a b : Expr) → t ≡ u ++ s.operator o ∷ v → At Q (left_level o) u a → At Q (right_level o) v b → x ≡ binary o a b → At Q (level o) t x
of_binary Q power t u v x a b whole left right is = s.factor_power whole left right is
of_binary Q less t u v x a b whole left right is = s.relation_two less whole refl left right is
of_binary Q less_equal t u v x a b whole left right is = s.relation_two less_equal whole refl left right is
of_binary Q equal t u v x a b whole left right is = s.relation_two equal whole refl left right is
of_binary Q not_equal t u v x a b whole left right is = s.relation_two not_equal whole refl left right is
of_binary Q greater t u v x a b whole left right is = s.relation_two greater whole refl left right is
of_binary Q greater_equal t u v x a b whole left right is = s.relation_two greater_equal whole refl left right is
of_binary Q o t u v x a b whole left right is = s.chain_more o whole refl left right is

-- a sign or .NOT. with its operand
of_unary : (Q : s.Grammar) (o : UnaryOp) (t u : List Symbol) (x a : Expr) → t ≡ s.sign_symbol o ∷ u → At Q (operand_level o) u a → x ≡ unary o a → At Q (prefix_level o) t x
of_unary Q negation t u x a whole part is = s.negation_by whole part is
of_unary Q plus t u x a whole part is = s.chain_one (s.signed_by plus (λ e. cc) whole part is)
of_unary Q minus t u x a whole part is = s.chain_one (s.signed_by minus (λ e. cc) whole part is)

module _ (P : Grammar) (Q : s.Grammar) (primary : (ts : List Token) (e : Expr) → P ts e → Q (symbols ts) e) where
  -- an expression of a level is of its sort
  spells : (k : ℕ) (ts : List Token) (e : Expr) → Spells P k ts e → At Q k (symbols ts) e
  spells k ts e (spells_primary p) = raise Q k (symbols ts) e (primary ts e p)
  spells k ts e (spells_unary {us = us} {a = a} o within whole part is) =
      lower Q k (prefix_level o) (symbols ts) e within (of_unary Q o (symbols ts) (symbols us) e a (ap symbols whole ∙ ap (λ c. c ∷ symbols us) (prefix_symbol o)) (spells (operand_level o) us a part) is)
  spells k ts e (spells_binary {us = us} {vs = vs} {a = a} {b = b} o within whole left right is) =
      lower Q k (level o) (symbols ts) e within
      (of_binary Q o (symbols ts) (symbols us) (symbols vs) e a b (ap symbols whole ∙ split us (operator o) vs ∙ ap (λ c. symbols us ++ c ∷ symbols vs) (operator_symbol o))
      (spells (left_level o) us a left) (spells (right_level o) vs b right) is)

-- ---- primaries

-- a name is the symbol of its token
name_symbol : (x : List ℕ) → is_free_form_name x ≡ true → symbol (plain x) ≡ operand (name x)
name_symbol x named =
    ap (λ b. if b then operand (name x) else (if is_figure (slice_index x 0) then operand (int (pos (digits_value 10 x))) else found marks x)) (and_parts _ _ named).0

-- a constant is the symbol of its token
constant_symbol : (w : List ℕ) (v : ℕ) → IsConstant w v → symbol (plain w) ≡ operand (int (pos v))
constant_symbol [] v c = absurd (omega (arith, c.some))
constant_symbol (d ∷ w) v c =
    let first = (and_parts (is_figure d) (list_all is_figure w) c.digits).0 in
    ap (λ b. if b then operand (name (d ∷ w)) else (if is_figure d then operand (int (pos (digits_value 10 (d ∷ w)))) else found marks (d ∷ w))) (figure_is_no_letter d first)
    ∙ ap (λ b. if b then operand (int (pos (digits_value 10 (d ∷ w)))) else found marks (d ∷ w)) first
    ∙ ap (λ n. operand (int (pos n))) (sym c.is)
  where
    -- a digit is no letter
    figure_is_no_letter : (d : ℕ) → is_figure d ≡ true → is_letter d ≡ false
    figure_is_no_letter d e = and_left (nat_le 65 d) (nat_le d 90) (lt-leb 65 d (omega (arith, leb-true d 57 (and_parts (nat_le 48 d) (nat_le d 57) e).1)))

-- the symbols of a name and of what stands in parentheses behind it
call_symbols : (ts us : List Token) (x : List ℕ) → is_free_form_name x ≡ true → ts ≡ plain x ∷ opening ∷ (us ++ closing ∷ []) → symbols ts ≡ operand (name x) ∷ s.opening ∷ (symbols us ++ s.closing ∷ [])
call_symbols ts us x named whole = ap symbols whole ∙ (λ i. name_symbol x named i ∷ s.opening ∷ split us closing [] i)

module _ (P : Grammar) (Q : s.Grammar) (inner : (ts : List Token) (e : Expr) → P ts e → Q (symbols ts) e) where
  -- expressions with commas between them
  listed : (ts : List Token) (xs : Exprs) → Listed P ts xs → s.Listed Q (symbols ts) xs
  listed ts xs (listed_one {a = a} part is) = s.listed_one (inner ts a part) is
  listed ts xs (listed_more {us = us} {vs = vs} {others = others} {a = a} whole part rest is) =
      s.listed_more (ap symbols whole ∙ split us (plain (codes ",")) vs) (inner us a part) (listed vs others rest) is

  -- a name with expressions in parentheses behind it
  element : (ts : List Token) (e : Expr) → IsCall P ts e → s.IsCall Q (symbols ts) e
  element ts e c = record { of = c.of; inside = symbols c.inside; parts = c.parts; whole = call_symbols ts c.inside c.of c.named c.whole; listed = listed c.inside c.parts c.listed; tree = c.tree }

module _ (P : Grammar) (Q : s.Grammar) (inner : (ts : List Token) (e : Expr) → P ts e → Q (symbols ts) e) where
  -- what a substring may be of
  parent : (ts : List Token) (e : Expr) → IsParent P ts e → s.IsParent Q (symbols ts) e
  parent ts e (parent_name {x} whole named is) = s.parent_variable x (ap symbols whole ∙ ap (λ c. c ∷ []) (name_symbol x named)) is
  parent ts e (parent_element c) = s.parent_element (element P Q inner ts e c)

  -- a bound of a substring
  bound : (ts : List Token) (b : Bound) → IsBound P ts b → s.IsBound Q (symbols ts) b
  bound ts b (bound_absent whole is) = s.bound_absent (ap symbols whole) is
  bound ts b (bound_at {a} part is) = s.bound_at (inner ts a part) is

  -- a primary
  primary : (ts : List Token) (e : Expr) → IsPrimary P ts e → s.Primary Q (symbols ts) e
  primary ts e (primary_integer {w} {v} whole c is) = s.primary_operand (ap symbols whole ∙ ap (λ c. c ∷ []) (constant_symbol w v c ∙ ap operand (sym is)))
  primary ts e (primary_true whole is) = s.primary_operand (ap symbols whole ∙ ap (λ x. operand x ∷ []) (sym is))
  primary ts e (primary_false whole is) = s.primary_operand (ap symbols whole ∙ ap (λ x. operand x ∷ []) (sym is))
  primary ts e (primary_text whole is) = s.primary_operand (ap symbols whole ∙ ap (λ x. operand x ∷ []) (sym is))
  primary ts e (primary_name {x} whole named is) = s.primary_operand (ap symbols whole ∙ ap (λ c. c ∷ []) (name_symbol x named ∙ ap operand (sym is)))
  primary ts e (primary_call c) = s.primary_reference (element P (s.Argument Q) (λ us a part. s.argument_expression (inner us a part)) ts e c)
  primary ts e (primary_empty {x} whole named is) = s.primary_empty x (call_symbols ts [] x named whole) is
  primary ts e (primary_substring {us} {vs} {ws} {a} {from} {to} whole of left right is) =
      s.primary_substring
      (ap symbols whole ∙ split us opening (vs ++ plain (codes ":") ∷ (ws ++ closing ∷ [])) ∙ ap (λ (ss : List Symbol). symbols us ++ s.opening ∷ ss) (split vs (plain (codes ":")) (ws ++ closing ∷ []) ∙ ap (λ (ss : List Symbol). symbols vs ++ colon ∷ ss) (split ws closing [])))
      (parent us a of) (bound vs from left) (bound ws to right) is
  primary ts e (primary_paren {us} {a} whole part is) = s.primary_paren (ap symbols whole ∙ ap (λ (ss : List Symbol). s.opening ∷ ss) (split us closing [])) (inner us a part) is

-- ---- expressions

-- an expression with so many nested parentheses
nested : (n : ℕ) (ts : List Token) (e : Expr) → Nested n ts e → s.Nested n (symbols ts) e
nested zero ts e a = a
nested (suc n) ts e a = spells (IsPrimary (Nested n)) (s.Primary (s.Nested n)) (primary (Nested n) (s.Nested n) (nested n)) 1 ts e a

-- an expression is one of the other grammar
pub is_expression : (ts : List Token) (e : Expr) → IsFreeExpression ts e → s.IsExpression (symbols ts) e
is_expression ts e a = (a.0, nested a.0 ts e a.1)
