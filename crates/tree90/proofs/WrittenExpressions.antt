-- The text of an expression that can be written is read as tokens that spell it.
use Rattle.std.proofs.Common.{◌≡◌, ℕ, zero, suc, ◌+◌, ◌<◌, ◌≤◌, ◌==◌, Bool, true, false, not, ◌&&◌, List, [], ◌∷◌, ◌++◌, codes, pos, negsuc, refl, sym, ap, subst, arith, append_assoc}
use Rattle.std.specs.Prelude.{nat_le, if◌then◌else◌}
use Rattle.std.specs.List.{list_all}
use Rattle.std.specs.Fmt.{decimal}
use Rattle.std.proofs.lemmas.Bool.{leb-true, ne_eqb, not-true, and_parts}
use Rattle.std.proofs.lemmas.Fmt.{decimal_is_IsNumeral}
use Rattle.std.proofs.lemmas.List.{append-nil}
use Rattle.text_base.specs.Chars.{is_name_byte}
use Rattle.text_base.proofs.CharTests.{all_append, digits_are_name_bytes}
use Rattle.text_base.specs.Trees.{UnaryOp, plus, minus, negation, BinaryOp, power, Expr, int, bool, text, name, call, substring, unary, binary, paren, Exprs, none, more, Bound, absent, at}
use Rattle.text_base.specs.declared.limits.TheConstants.{GREATEST_INTEGER}
use Rattle.tree90.specs.Constants.{is_free_form_name, IsConstant}
use Rattle.tree90.specs.FreeTokens.{Token, plain, quoted, tokens}
use Rattle.tree90.specs.FreeExpressions.{operator, prefix, left_level, right_level, operand_level, Spells, spells_primary, spells_unary, spells_binary, opening, closing, Listed, listed_one, listed_more, IsCall, IsParent, parent_name, parent_element, IsBound, bound_absent, bound_at, IsPrimary, primary_integer, primary_true, primary_false, primary_text, primary_name, primary_call, primary_empty, primary_substring, primary_paren, Nested}
use Rattle.tree90.specs.Printed.{operator_text, logical_text, doubled, expr_text, others_text, bound_text}
use Rattle.tree90.specs.Proper.{is_graphic, is_parent, level_of, is_free, are_free, is_free_bound}
use Rattle.tree90.proofs.TokenLemmas.{has_no_break, apart, NameWord, name_word, digits_are, quoted_token, Reads, Any, Ends, begins_colon, BeforeNoColon, join, fewer, mark, blank_mark, comma_mark, colon_mark, operator_mark, prefix_mark, word_mark}

-- ---- what is shown of each part

-- a text begins, and not with a colon
abbrev pub is_begun : List ℕ → Bool
is_begun [] = false
is_begun (c ∷ t) = not (c == 58)

-- the same as a type
pub record Begun (x : List ℕ) : Type 0 where
  pub is : is_begun x ≡ true

-- and so where a further text follows
before : {x : List ℕ} (y : List ℕ) → Begun x → Begun (x ++ y)
before {x = x} y b = record { is = go x b.is }
  where
    go : (x : List ℕ) → is_begun x ≡ true → is_begun (x ++ y) ≡ true
    go [] e = absurd cc
    go (c ∷ x) e = e

-- so no colon follows what stands before it
no_colon : (x rest : List ℕ) → Begun x → begins_colon (x ++ rest) ≡ false
no_colon [] rest b = let e = b.is in absurd cc
no_colon (c ∷ x) rest b = not-true (c == 58) b.is

-- The tokens of an expression: they spell it wherever parentheses may be nested deep enough, at each level up to its own,
-- and its text is read as them.
pub record Written (e : Expr) : Type 0 where
  pub depth : ℕ
  pub list : List Token
  pub parent : is_parent e ≡ true → (n : ℕ) → depth ≤ n → IsParent (Nested n) list e
  pub spelled : (n k : ℕ) → depth ≤ n → k ≤ level_of e → Spells (IsPrimary (Nested n)) k list e
  pub shown : Reads Ends (expr_text e) list
  pub begun : Begun (expr_text e)

-- the tokens of the expressions behind the first
record WrittenOthers (xs : Exprs) : Type 0 where
  depth : ℕ
  list : List Token
  spelled : (n : ℕ) (us : List Token) (a : Expr) → depth ≤ n → Nested n us a → Listed (Nested n) (us ++ list) (more a xs)
  shown : Reads Ends (others_text xs) list
  closes : (rest : List ℕ) → Ends rest → Ends (others_text xs ++ rest)

-- the tokens of a bound
record WrittenBound (b : Bound) : Type 0 where
  depth : ℕ
  list : List Token
  spelled : (n : ℕ) → depth ≤ n → IsBound (Nested n) list b
  shown : Reads Ends (bound_text b) list
  apart : (rest : List ℕ) → BeforeNoColon rest → BeforeNoColon (bound_text b ++ rest)

-- each level is the first or a higher one
some_level : (e : Expr) → 1 ≤ level_of e
some_level (unary negation a) = omega arith
some_level (unary plus a) = omega arith
some_level (unary minus a) = omega arith
some_level (binary power a b) = omega arith
some_level (binary o a b) = omega arith
some_level (int v) = omega arith
some_level e = omega arith

-- an expression inside parentheses
pub inner : (e : Expr) (w : Written e) (n : ℕ) → w.depth < n → Nested n w.list e
inner e w zero deep = absurd (omega (arith, deep))
inner e w (suc n) deep = w.spelled n 1 (omega (arith, deep)) (some_level e)

-- in front of what ends a word, and is no colon
abbrev EndsNoColon : List ℕ → Type 0
EndsNoColon rest = Ends rest × BeforeNoColon rest

-- nothing
nothing : {P : List ℕ → Type 0} → Reads P [] []
nothing = record { unbroken = refl; read = λ rest q. refl }

-- a parenthesis that opens
open_mark : {P : List ℕ → Type 0} → Reads P (codes "(") (opening ∷ [])
open_mark = mark 40 refl refl (λ d t. refl)

-- and one that closes
close_mark : {P : List ℕ → Type 0} → Reads P (codes ")") (closing ∷ [])
close_mark = mark 41 refl refl (λ d t. refl)

-- ---- expressions without parts

-- a word is no colon
word_begun : (w : List ℕ) → NameWord w → Begun w
word_begun [] n = absurd (omega (arith, n.some))
word_begun (c ∷ w) n = record { is = ap not (apart c 58 (and_parts (is_name_byte c) (list_all is_name_byte w) n.bytes).0 refl) }

-- a constant
written_int : (v : ℕ) → nat_le v GREATEST_INTEGER ≡ true → Written (int (pos v))
written_int v e =
    let within = leb-true v GREATEST_INTEGER e in
    let numeral = decimal_is_IsNumeral v (omega (arith, within)) in
    let digits = digits_are (decimal v) numeral.0.1 in
    let word : NameWord (decimal v) = record { bytes = digits_are_name_bytes (decimal v) digits; some = numeral.0.0 } in
    let constant : IsConstant (decimal v) v = record { some = numeral.0.0; digits = digits; is = sym numeral.1; within = within } in
    record {
      depth = 0;
      list = plain (decimal v) ∷ [];
      parent = λ p. absurd cc;
      spelled = λ n k deep under. spells_primary (primary_integer refl constant refl);
      shown = word_mark (decimal v) word;
      begun = word_begun (decimal v) word;
    }

-- a logical constant is a token, whatever follows
logical_before : (b : Bool) (rest : List ℕ) → tokens (logical_text b ++ rest) ≡ plain (logical_text b) ∷ tokens rest
logical_before true [] = refl
logical_before true (d ∷ rest) = refl
logical_before false [] = refl
logical_before false (d ∷ rest) = refl

-- a logical constant
written_bool : (b : Bool) → Written (bool b)
written_bool true = record {
  depth = 0;
  list = plain (codes ".TRUE.") ∷ [];
  parent = λ p. absurd cc;
  spelled = λ n k deep under. spells_primary (primary_true refl refl);
  shown = record { unbroken = refl; read = λ rest stop. logical_before true rest };
  begun = record { is = refl };
}
written_bool false = record {
  depth = 0;
  list = plain (codes ".FALSE.") ∷ [];
  parent = λ p. absurd cc;
  spelled = λ n k deep under. spells_primary (primary_false refl refl);
  shown = record { unbroken = refl; read = λ rest stop. logical_before false rest };
  begun = record { is = refl };
}

-- characters of a constant have no LF
doubled_unbroken : (cs : List ℕ) → list_all is_graphic cs ≡ true → has_no_break (doubled cs) ≡ true
doubled_unbroken [] e = refl
doubled_unbroken (c ∷ cs) e =
    let parts = and_parts (is_graphic c) (list_all is_graphic cs) e in
    let low = leb-true 32 c (and_parts _ _ parts.0).0 in
    all_append (λ d. not (d == 10)) (if c == 39 then 39 ∷ 39 ∷ [] else c ∷ []) (doubled cs) (go (c == 39) (ne_eqb c 10 (λ is. omega (arith, low, is)))) (doubled_unbroken cs parts.1)
  where
    go : (b : Bool) → (c == 10) ≡ false → has_no_break (if b then 39 ∷ 39 ∷ [] else c ∷ []) ≡ true
    go true e = refl
    go false e = ap (λ b. not b && true) e

-- a character constant
written_text : (cs : List ℕ) → list_all is_graphic cs ≡ true → Written (text cs)
written_text cs e = record {
  depth = 0;
  list = quoted cs ∷ [];
  parent = λ p. absurd cc;
  spelled = λ n k deep under. spells_primary (primary_text refl refl);
  shown = record { unbroken = all_append (λ c. not (c == 10)) (39 ∷ doubled cs) (39 ∷ []) (doubled_unbroken cs e) refl; read = quoted_token cs };
  begun = record { is = refl };
}

-- a variable
written_name : (x : List ℕ) → is_free_form_name x ≡ true → Written (name x)
written_name x named =
    let word = name_word x named in
    record {
      depth = 0;
      list = plain x ∷ [];
      parent = λ p n deep. parent_name refl named refl;
      spelled = λ n k deep under. spells_primary (primary_name refl named refl);
      shown = word_mark x word;
      begun = word_begun x word;
    }

-- ---- expressions with parts

-- no expressions behind the first
others_none : WrittenOthers none
others_none = record {
  depth = 0;
  list = [];
  spelled = λ n us a deep part. listed_one (subst (λ ts. Nested n ts a) (sym (append-nil us)) part) refl;
  shown = nothing;
  closes = λ rest stop. stop;
}

-- further expressions, each behind a comma
others_more : (b : Expr) (xs : Exprs) → Written b → WrittenOthers xs → WrittenOthers (more b xs)
others_more b xs w o = record {
  depth = suc w.depth + o.depth;
  list = plain (codes ",") ∷ (w.list ++ o.list);
  spelled = λ n us a deep part. listed_more refl part (o.spelled n w.list b (omega (arith, deep)) (inner b w n (omega (arith, deep)))) refl;
  shown = join (join (comma_mark {P = Any}) w.shown (λ rest q. tt)) o.shown o.closes;
  closes = λ rest stop. refl;
}

-- a function reference without arguments
written_empty : (f : List ℕ) → is_free_form_name f ≡ true → Written (call f none)
written_empty f named =
    let word = name_word f named in
    record {
      depth = 0;
      list = plain f ∷ opening ∷ closing ∷ [];
      parent = λ p. absurd cc;
      spelled = λ n k deep under. spells_primary (primary_empty refl named refl);
      shown = join (join (join (word_mark f word) (open_mark {P = Any}) (λ rest q. refl)) (nothing {P = Any}) (λ rest q. tt)) (close_mark {P = Ends}) (λ rest q. tt);
      begun = before (codes ")") (before [] (before (codes "(") (word_begun f word)));
    }

-- an array element, or a function reference
written_call : (f : List ℕ) (a : Expr) (xs : Exprs) → is_free_form_name f ≡ true → Written a → WrittenOthers xs → Written (call f (more a xs))
written_call f a xs named w o =
    let word = name_word f named in
    let list = plain f ∷ opening ∷ ((w.list ++ o.list) ++ closing ∷ []) in
    let is_call : (n : ℕ) → suc w.depth + o.depth ≤ n → IsCall (Nested n) list (call f (more a xs)) =
    λ n deep. record {
      of = f;
      inside = w.list ++ o.list;
      parts = more a xs;
      named = named;
      whole = refl;
      listed = o.spelled n w.list a (omega (arith, deep)) (inner a w n (omega (arith, deep)));
      tree = refl;
    } in
    record {
      depth = suc w.depth + o.depth;
      list = list;
      parent = λ p n deep. parent_element (is_call n deep);
      spelled = λ n k deep under. spells_primary (primary_call (is_call n deep));
      shown = join (join (join (word_mark f word) (open_mark {P = Any}) (λ rest q. refl)) (join w.shown o.shown o.closes) (λ rest q. tt)) (close_mark {P = Ends}) (λ rest q. refl);
      begun = before (codes ")") (before (expr_text a ++ others_text xs) (before (codes "(") (word_begun f word)));
    }

-- a bound that is left out
bound_none : WrittenBound absent
bound_none = record {
  depth = 0;
  list = [];
  spelled = λ n deep. bound_absent refl refl;
  shown = nothing;
  apart = λ rest e. e;
}

-- a bound
bound_some : (a : Expr) → Written a → WrittenBound (at a)
bound_some a w = record {
  depth = suc w.depth;
  list = w.list;
  spelled = λ n deep. bound_at (inner a w n (omega (arith, deep))) refl;
  shown = w.shown;
  apart = λ rest e. no_colon (expr_text a) rest w.begun;
}

-- a substring
written_substring : (a : Expr) (from to : Bound) → is_parent a ≡ true → Written a → WrittenBound from → WrittenBound to → Written (substring a from to)
written_substring a from to is w f t = record {
  depth = w.depth + f.depth + t.depth;
  list = ((((w.list ++ opening ∷ []) ++ f.list) ++ plain (codes ":") ∷ []) ++ t.list) ++ closing ∷ [];
  parent = λ p. absurd cc;
  spelled = λ n k deep under. spells_primary (primary_substring (simp append_assoc) (w.parent is n (omega (arith, deep))) (f.spelled n (omega (arith, deep))) (t.spelled n (omega (arith, deep))) refl);
  shown =
      join (join (join (join (join w.shown (open_mark {P = Any}) (λ rest q. refl)) f.shown (λ rest q. tt)) colon_mark (λ rest q. refl)) (fewer {Q = EndsNoColon} t.shown (λ rest q. q.0)) (λ rest q. t.apart rest q.1)) (close_mark {P = Ends}) (λ rest q. (refl, refl));
  begun = before (codes ")") (before (bound_text to) (before (codes ":") (before (bound_text from) (before (codes "(") w.begun))));
}

-- an operand behind a sign or .NOT.
written_unary : (o : UnaryOp) (a : Expr) → operand_level o ≤ level_of a → Written a → Written (unary o a)
written_unary o a within w = record {
  depth = w.depth;
  list = prefix o ∷ w.list;
  parent = λ p. absurd cc;
  spelled = λ n k deep under. spells_unary o under refl (w.spelled n (operand_level o) deep within) refl;
  shown = join (prefix_mark {P = Any} o) w.shown (λ rest q. tt);
  begun = record { is = sign_begun o };
}
  where
    sign_begun : (o : UnaryOp) → is_begun (expr_text (unary o a)) ≡ true
    sign_begun plus = refl
    sign_begun _ = refl

-- two operands with an operator between them
written_binary : (o : BinaryOp) (a b : Expr) → left_level o ≤ level_of a → right_level o ≤ level_of b → Written a → Written b → Written (binary o a b)
written_binary o a b left right w v = record {
  depth = w.depth + v.depth;
  list = ((((w.list ++ []) ++ operator o ∷ []) ++ []) ++ v.list);
  parent = λ p. absurd cc;
  spelled = λ n k deep under. spells_binary o under (simp (append_assoc, append-nil)) (w.spelled n (left_level o) (omega (arith, deep)) left) (v.spelled n (right_level o) (omega (arith, deep)) right) refl;
  shown = join (join (join (join w.shown (blank_mark {P = Any}) (λ rest q. refl)) (operator_mark o) (λ rest q. tt)) (blank_mark {P = Any}) (λ rest q. (rest, refl))) v.shown (λ rest q. tt);
  begun = before (expr_text b) (before (codes " ") (before (operator_text o) (before (codes " ") w.begun)));
}

-- parentheses
written_paren : (a : Expr) → Written a → Written (paren a)
written_paren a w = record {
  depth = suc w.depth;
  list = opening ∷ (w.list ++ closing ∷ []);
  parent = λ p. absurd cc;
  spelled = λ n k deep under. spells_primary (primary_paren refl (inner a w n (omega (arith, deep))) refl);
  shown = join (join (open_mark {P = Any}) w.shown (λ rest q. tt)) (close_mark {P = Ends}) (λ rest q. refl);
  begun = record { is = refl };
}

-- ---- all expressions

mutual
  -- every expression that can be written
  pub written : (e : Expr) → is_free e ≡ true → Written e
  written (int (pos v)) h = written_int v h
  written (int (negsuc v)) h = absurd cc
  written (bool b) h = written_bool b
  written (text cs) h = written_text cs h
  written (name x) h = written_name x h
  written (call f none) h = written_empty f (and_parts _ _ h).0
  written (call f (more a xs)) h =
      let parts = and_parts _ _ h in
      let inside = and_parts _ _ parts.1 in
      written_call f a xs parts.0 (written a inside.0) (written_others xs inside.1)
  written (substring a from to) h =
      let parts = and_parts _ _ h in
      let left = and_parts _ _ parts.0 in
      let of = and_parts _ _ left.0 in
      written_substring a from to of.0 (written a of.1) (written_bound from left.1) (written_bound to parts.1)
  written (unary o a) h = let parts = and_parts _ _ h in written_unary o a (leb-true _ _ parts.0) (written a parts.1)
  written (binary o a b) h =
      let parts = and_parts _ _ h in
      let left = and_parts _ _ parts.0 in
      let levels = and_parts _ _ left.0 in
      written_binary o a b (leb-true _ _ levels.0) (leb-true _ _ levels.1) (written a left.1) (written b parts.1)
  written (paren a) h = written_paren a (written a h)

  -- expressions behind another
  written_others : (xs : Exprs) → are_free xs ≡ true → WrittenOthers xs
  written_others none h = others_none
  written_others (more b xs) h = let parts = and_parts _ _ h in others_more b xs (written b parts.0) (written_others xs parts.1)

  -- every bound
  written_bound : (b : Bound) → is_free_bound b ≡ true → WrittenBound b
  written_bound absent h = bound_none
  written_bound (at a) h = bound_some a (written a h)
