-- An expression that a card spells can be written where it is converted: its constants are in the range, its names are names, and
-- no operand would be read differently without parentheses.
use Rattle.std.proofs.Common.{◌≡◌, ℕ, zero, suc, pos, Bool, true, false, ◌&&◌, ◌||◌, List, [], ◌∷◌, ◌++◌, length, map, take, refl, sym, ap, ◌∙◌, ◌≤◌, ◌≢◌, subst, arith, le-leb}
use Rattle.std.specs.Prelude.{◌==◌, nat_le, if◌then◌else◌}
use Rattle.std.specs.List.{list_all}
use Rattle.std.proofs.lemmas.Bool.{and_from, and_parts}
use Rattle.std.proofs.lemmas.List.{length-take}
use Rattle.std.proofs.lemmas.List.Folds.{list_all-append}
use Rattle.text_base.specs.Chars.{is_upper, is_digit, is_name_byte, is_name}
use Rattle.text_base.specs.Pieces.{Piece}
use Rattle.text_base.specs.Trees.{UnaryOp, plus, minus, negation, BinaryOp, power, times, over, add, subtract, concat, less, less_equal, equal, not_equal, greater, greater_equal, conjunction, disjunction, equivalence, nonequivalence, Expr, int, bool, text, name, unary, binary, Exprs}
use Rattle.text_base.specs.declared.limits.TheConstants.{GREATEST_INTEGER}
use Rattle.tree77.specs.Kinds.{is_word}
use Rattle.tree77.specs.Expressions.{Symbol, operand, alternate, operator, not_sign, opening, closing, comma, colon, Grammar, is_product, is_sum, is_concat, is_relation, is_conjunction, is_disjunction, is_equivalence, Listed, listed_one, listed_more, Argument, argument_expression, argument_alternate, Chain, chain_one, chain_more, Factor, factor_one, factor_power, Term, Signed, signed_none, signed_by, Concatenation, Sum, Relation, relation_one, relation_two, Negation, negation_none, negation_by, Conjunction, Disjunction, Primary, primary_operand, primary_reference, primary_empty, primary_substring, primary_paren, Nested}
use Rattle.tree77.specs.Lexemes.{Lexeme, IsLexeme, lexeme_integer, lexeme_constant, lexeme_logical, lexeme_characters, lexeme_name, lexeme_alternate, lexeme_operator, lexeme_not, lexeme_open, lexeme_close, lexeme_comma, lexeme_colon, AreLexemes, lexemes_none, lexemes_more, decimal, is_small, symbol_of, IsWideExpression}
use Rattle.tree90.specs.FreeExpressions.{level, left_level, right_level, prefix_level, operand_level}
use Rattle.tree90.specs.Proper.{is_free_constant, level_of, is_free, are_free}
use Rattle.project_set.specs.Refusals.{is_sign, is_arithmetic, is_built, are_built}
use Rattle.project_set.proofs.Seen.{all_taken}

-- what an operand outside parentheses is: a constant in the range, or a name
abbrev is_sound : Expr → Bool
is_sound (int v) = is_free_constant v
is_sound (name x) = is_name x
is_sound (bool b) = true
is_sound (text t) = true
is_sound _ = false

abbrev is_sound_symbol : Symbol → Bool
is_sound_symbol (operand e) = is_sound e
is_sound_symbol alternate = true
is_sound_symbol (operator o) = true
is_sound_symbol not_sign = true
is_sound_symbol opening = true
is_sound_symbol closing = true
is_sound_symbol comma = true
is_sound_symbol colon = true

abbrev are_sound : List Symbol → Bool
are_sound = list_all is_sound_symbol

-- ---- the grammar

-- an expression of the level, which can be written where it is converted
record Leveled (k : ℕ) (x : Expr) : Type 0 where
  level : k ≤ level_of x
  free : is_built x ≡ true → is_free x ≡ true

-- what the grammar makes of sound symbols is so
abbrev IsKept : ℕ → Grammar → Type 0
IsKept k G = (t : List Symbol) (x : Expr) → G t x → are_sound t ≡ true → Leveled k x

weaker : (k n : ℕ) (x : Expr) → k ≤ n → Leveled n x → Leveled k x
weaker k n x le l = record { level = omega (arith, le, l.level); free = l.free }

-- symbols before and behind another
around : (t u v : List Symbol) (s : Symbol) → t ≡ u ++ s ∷ v → are_sound t ≡ true → (are_sound u ≡ true) × (are_sound v ≡ true)
around t u v s whole sound =
    let all = and_parts (are_sound u) (are_sound (s ∷ v)) (sym (list_all-append is_sound_symbol u (s ∷ v)) ∙ sym (ap are_sound whole) ∙ sound) in
    (all.0, (and_parts (is_sound_symbol s) (are_sound v) all.1).1)

joined : (k : ℕ) (x a b : Expr) (o : BinaryOp) → x ≡ binary o a b → k ≤ level o → Leveled (left_level o) a → Leveled (right_level o) b → Leveled k x
joined k x a b o is le left right = subst (Leveled k) (sym is) (record {
  level = le;
  free = λ built.
      let one = and_parts (is_arithmetic o) (is_built a && is_built b) built in
      let both = and_parts (is_built a) (is_built b) one.1 in
      let low = le-leb (left_level o) (level_of a) left.level in
      let high = le-leb (right_level o) (level_of b) right.level in
      let first = left.free both.0 in
      let second = right.free both.1 in
      and_from _ _ (and_from _ _ (and_from _ _ low high) first) second;
})

prefixed : (k : ℕ) (x a : Expr) (o : UnaryOp) → x ≡ unary o a → k ≤ prefix_level o → Leveled (operand_level o) a → Leveled k x
prefixed k x a o is le one = subst (Leveled k) (sym is) (record {
  level = le;
  free = λ built. and_from _ _ (le-leb (operand_level o) (level_of a) one.level) (one.free (and_parts (is_sign o) (is_built a) built).1);
})

-- the levels of an operator that groups from the left
record At (k : ℕ) (o : BinaryOp) : Type 0 where
  own : k ≤ level o
  left : left_level o ≤ k
  right : right_level o ≤ suc k

product_at : (o : BinaryOp) → is_product o ≡ true → At 8 o
product_at times e = record { own = omega arith; left = omega arith; right = omega arith }
product_at over e = record { own = omega arith; left = omega arith; right = omega arith }
product_at _ e = absurd cc

sum_at : (o : BinaryOp) → is_sum o ≡ true → At 7 o
sum_at add e = record { own = omega arith; left = omega arith; right = omega arith }
sum_at subtract e = record { own = omega arith; left = omega arith; right = omega arith }
sum_at _ e = absurd cc

concat_at : (o : BinaryOp) → is_concat o ≡ true → At 6 o
concat_at concat e = record { own = omega arith; left = omega arith; right = omega arith }
concat_at _ e = absurd cc

conjunction_at : (o : BinaryOp) → is_conjunction o ≡ true → At 3 o
conjunction_at conjunction e = record { own = omega arith; left = omega arith; right = omega arith }
conjunction_at _ e = absurd cc

disjunction_at : (o : BinaryOp) → is_disjunction o ≡ true → At 2 o
disjunction_at disjunction e = record { own = omega arith; left = omega arith; right = omega arith }
disjunction_at _ e = absurd cc

equivalence_at : (o : BinaryOp) → is_equivalence o ≡ true → At 1 o
equivalence_at equivalence e = record { own = omega arith; left = omega arith; right = omega arith }
equivalence_at nonequivalence e = record { own = omega arith; left = omega arith; right = omega arith }
equivalence_at _ e = absurd cc

relation_at : (o : BinaryOp) → is_relation o ≡ true → (5 ≤ level o) × (left_level o ≤ 6) × (right_level o ≤ 6)
relation_at less e = (omega arith, omega arith, omega arith)
relation_at less_equal e = (omega arith, omega arith, omega arith)
relation_at equal e = (omega arith, omega arith, omega arith)
relation_at not_equal e = (omega arith, omega arith, omega arith)
relation_at greater e = (omega arith, omega arith, omega arith)
relation_at greater_equal e = (omega arith, omega arith, omega arith)
relation_at _ e = absurd cc

chain_kept : (k : ℕ) (joins : BinaryOp → Bool) (First Next : Grammar) → ((o : BinaryOp) → joins o ≡ true → At k o) → IsKept k First → IsKept (suc k) Next → IsKept k (Chain joins First Next)
chain_kept k joins First Next at first next t x (chain_one one) sound = first t x one sound
chain_kept k joins First Next at first next t x (chain_more {u = u} {v = v} {a = a} {b = b} o whole is_join left right is) sound =
    let parts = around t u v (operator o) whole sound in
    let levels = at o is_join in
    joined k x a b o is levels.own (weaker (left_level o) k a levels.left (chain_kept k joins First Next at first next u a left parts.0)) (weaker (right_level o) (suc k) b levels.right (next v b right parts.1))

module _ (Inner : Grammar) (inner : IsKept 1 Inner) where
  argument_kept : (t : List Symbol) (x : Expr) → Argument Inner t x → are_sound t ≡ true → is_built x ≡ true → is_free x ≡ true
  argument_kept t x (argument_expression one) sound = (inner t x one sound).free
  argument_kept t x (argument_alternate whole is) sound = λ built. ap is_free is

  listed_kept : (t : List Symbol) (xs : Exprs) → Listed (Argument Inner) t xs → are_sound t ≡ true → are_built xs ≡ true → are_free xs ≡ true
  listed_kept t xs (listed_one {a = a} one is) sound built =
      ap are_free is ∙ and_from (is_free a) true (argument_kept t a one sound (and_parts (is_built a) true (sym (ap are_built is) ∙ built)).0) refl
  listed_kept t xs (listed_more {u = u} {v = v} {others = others} {a = a} whole one more is) sound built =
      let parts = around t u v comma whole sound in
      let b = and_parts (is_built a) (are_built others) (sym (ap are_built is) ∙ built) in
      ap are_free is ∙ and_from (is_free a) (are_free others) (argument_kept u a one parts.0 b.0) (listed_kept v others more parts.1 b.1)

  operand_kept : (x : Expr) → is_sound x ≡ true → Leveled 10 x
  operand_kept (int v) e = record { level = omega arith; free = λ built. e }
  operand_kept (name x) e = record { level = omega arith; free = λ built. e }
  operand_kept (bool b) e = record { level = omega arith; free = λ built. refl }
  operand_kept (text t) e = record { level = omega arith; free = λ built. absurd cc }
  operand_kept _ e = absurd cc

  primary_kept : IsKept 10 (Primary Inner)
  primary_kept t x (primary_operand whole) sound = operand_kept x (and_parts (is_sound x) true (sym (ap are_sound whole) ∙ sound)).0
  primary_kept t x (primary_reference r) sound =
      let all = sym (ap are_sound r.whole) ∙ sound in
      let named = and_parts (is_name r.of) (are_sound (opening ∷ (r.inside ++ closing ∷ []))) all in
      let inside = (around (r.inside ++ closing ∷ []) r.inside [] closing refl named.1).0 in
      subst (Leveled 10) (sym r.tree) (record {
        level = omega arith;
        free = λ built. and_from (is_name r.of) (are_free r.parts) named.0 (listed_kept r.inside r.parts r.listed inside (and_parts _ (are_built r.parts) built).1);
      })
  primary_kept t x (primary_empty of whole is) sound =
      let named = and_parts (is_name of) (are_sound (opening ∷ closing ∷ [])) (sym (ap are_sound whole) ∙ sound) in
      subst (Leveled 10) (sym is) (record { level = omega arith; free = λ built. and_from (is_name of) true named.0 refl })
  primary_kept t x (primary_substring whole parent from to is) sound = subst (Leveled 10) (sym is) (record { level = omega arith; free = λ built. absurd cc })
  primary_kept t x (primary_paren {u = u} {a = a} whole one is) sound =
      let inside = (around (u ++ closing ∷ []) u [] closing refl (sym (ap are_sound whole) ∙ sound)).0 in
      subst (Leveled 10) (sym is) (record { level = omega arith; free = (inner u a one inside).free })

module _ (P : Grammar) (kept : IsKept 10 P) where
  factor_kept : IsKept 9 (Factor P)
  factor_kept t x (factor_one one) sound = weaker 9 10 x (omega arith) (kept t x one sound)
  factor_kept t x (factor_power {u = u} {v = v} {a = a} {b = b} whole left right is) sound =
      let parts = around t u v _ whole sound in
      joined 9 x a b power is (omega arith) (kept u a left parts.0) (factor_kept v b right parts.1)

  term_kept : IsKept 8 (Term P)
  term_kept = chain_kept 8 is_product (Factor P) (Factor P) product_at (λ t x one sound. weaker 8 9 x (omega arith) (factor_kept t x one sound)) factor_kept

  signed_kept : IsKept 7 (Signed P)
  signed_kept t x (signed_none one) sound = weaker 7 8 x (omega arith) (term_kept t x one sound)
  signed_kept t x (signed_by {u = u} {a = a} s sign whole one is) sound = go s sign is (term_kept u a one (around t [] u _ whole sound).1)
    where
      go : (s : UnaryOp) → s ≢ negation → x ≡ unary s a → Leveled 8 a → Leveled 7 x
      go plus sign is one = prefixed 7 x a plus is (omega arith) one
      go minus sign is one = prefixed 7 x a minus is (omega arith) one
      go negation sign is one = absurd (sign refl)

  sum_kept : IsKept 7 (Sum P)
  sum_kept = chain_kept 7 is_sum (Signed P) (Term P) sum_at signed_kept term_kept

  concatenation_kept : IsKept 6 (Concatenation P)
  concatenation_kept = chain_kept 6 is_concat (Sum P) (Sum P) concat_at (λ t x one sound. weaker 6 7 x (omega arith) (sum_kept t x one sound)) sum_kept

  relation_kept : IsKept 5 (Relation P)
  relation_kept t x (relation_one one) sound = weaker 5 6 x (omega arith) (concatenation_kept t x one sound)
  relation_kept t x (relation_two {u = u} {v = v} {a = a} {b = b} o whole is_join left right is) sound =
      let parts = around t u v (operator o) whole sound in
      let levels = relation_at o is_join in
      joined 5 x a b o is levels.0 (weaker (left_level o) 6 a levels.1 (concatenation_kept u a left parts.0)) (weaker (right_level o) 6 b levels.2 (concatenation_kept v b right parts.1))

  negation_kept : IsKept 4 (Negation P)
  negation_kept t x (negation_none one) sound = weaker 4 5 x (omega arith) (relation_kept t x one sound)
  negation_kept t x (negation_by {u = u} {a = a} whole one is) sound = prefixed 4 x a negation is (omega arith) (relation_kept u a one (around t [] u _ whole sound).1)

  logical_kept : IsKept 1 (Chain is_equivalence (Disjunction P) (Disjunction P))
  logical_kept =
      let conjunction = chain_kept 3 is_conjunction (Negation P) (Negation P) conjunction_at (λ t x one sound. weaker 3 4 x (omega arith) (negation_kept t x one sound)) negation_kept in
      let disjunction = chain_kept 2 is_disjunction (Conjunction P) (Conjunction P) disjunction_at (λ t x one sound. weaker 2 3 x (omega arith) (conjunction t x one sound)) conjunction in
      chain_kept 1 is_equivalence (Disjunction P) (Disjunction P) equivalence_at (λ t x one sound. weaker 1 2 x (omega arith) (disjunction t x one sound)) disjunction

nested_kept : (n : ℕ) → IsKept 1 (Nested n)
nested_kept zero t x nested sound = absurd nested
nested_kept (suc n) t x nested sound = logical_kept (Primary (Nested n)) (primary_kept (Nested n) (nested_kept n)) t x nested sound

-- ---- lexemes

-- the first characters of a word are a name
pub word_is_name : (word : List ℕ) → is_word word ≡ true → is_name (take 31 word) ≡ true
word_is_name [] e = absurd cc
word_is_name (c ∷ t) e =
    let b = and_parts (is_upper c) (list_all is_name_byte t) e in
    let first : is_name_byte c ≡ true = ap (λ u. (u || is_digit c) || c == 95) b.0 in
    and_from (is_upper c) _ b.0
    (and_from (list_all is_name_byte (c ∷ take 30 t)) _ (and_from (is_name_byte c) (list_all is_name_byte (take 30 t)) first (all_taken is_name_byte 30 t b.1))
    (le-leb (length (take 31 (c ∷ t))) 31 (omega (arith, length-take 31 (c ∷ t)))))

number_is_sound : (digits : List ℕ) → is_sound (int (pos (if is_small digits then decimal digits else 0))) ≡ true
number_is_sound digits = go (is_small digits) refl
  where
    go : (b : Bool) → is_small digits ≡ b → nat_le (if b then decimal digits else 0) GREATEST_INTEGER ≡ true
    go true is = is
    go false is = refl

lexeme_is_sound : (pieces : List Piece) (i : Lexeme) → IsLexeme pieces i → is_sound_symbol (symbol_of i) ≡ true
lexeme_is_sound pieces i (lexeme_integer digits whole numbered is) = ap (λ j. is_sound_symbol (symbol_of j)) is ∙ number_is_sound digits
lexeme_is_sound pieces i (lexeme_constant t whole constant is) = ap (λ j. is_sound_symbol (symbol_of j)) is
lexeme_is_sound pieces i (lexeme_logical b whole is) = ap (λ j. is_sound_symbol (symbol_of j)) is
lexeme_is_sound pieces i (lexeme_characters inside value whole quoted some is) = ap (λ j. is_sound_symbol (symbol_of j)) is
lexeme_is_sound pieces i (lexeme_name word whole worded is) = ap (λ j. is_sound_symbol (symbol_of j)) is ∙ word_is_name word worded
lexeme_is_sound pieces i (lexeme_alternate label whole labelled is) = ap (λ j. is_sound_symbol (symbol_of j)) is
lexeme_is_sound pieces i (lexeme_operator o whole is) = ap (λ j. is_sound_symbol (symbol_of j)) is
lexeme_is_sound pieces i (lexeme_not whole is) = ap (λ j. is_sound_symbol (symbol_of j)) is
lexeme_is_sound pieces i (lexeme_open whole is) = ap (λ j. is_sound_symbol (symbol_of j)) is
lexeme_is_sound pieces i (lexeme_close whole is) = ap (λ j. is_sound_symbol (symbol_of j)) is
lexeme_is_sound pieces i (lexeme_comma whole is) = ap (λ j. is_sound_symbol (symbol_of j)) is
lexeme_is_sound pieces i (lexeme_colon whole is) = ap (λ j. is_sound_symbol (symbol_of j)) is

lexemes_are_sound : (pieces : List Piece) (lexemes : List Lexeme) → AreLexemes pieces lexemes → are_sound (map symbol_of lexemes) ≡ true
lexemes_are_sound pieces lexemes (lexemes_none whole is) = ap (λ l. are_sound (map symbol_of l)) is
lexemes_are_sound pieces lexemes (lexemes_more {first = first} {rest = rest} {others = others} {i = i} whole one more is) =
    ap (λ l. are_sound (map symbol_of l)) is
    ∙ and_from (is_sound_symbol (symbol_of i)) (are_sound (map symbol_of others)) (lexeme_is_sound first i one) (lexemes_are_sound rest others more)

-- an expression that can be written where it is converted
abbrev pub IsSoundExpr : Expr → Type 0
IsSoundExpr x = is_built x ≡ true → is_free x ≡ true

-- a spelled expression is such a one
pub expression_is_sound : (pieces : List Piece) (lexemes : List Lexeme) (x : Expr) → IsWideExpression pieces lexemes x → IsSoundExpr x
expression_is_sound pieces lexemes x wide = (nested_kept wide.formed.0 (map symbol_of lexemes) x wide.formed.1 (lexemes_are_sound pieces lexemes wide.spelled)).free
