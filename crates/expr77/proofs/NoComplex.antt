-- What is read of a number and of a mark, and where no complex constant can be read.
use Rattle.std.proofs.Common.{◌≡◌, ℕ, suc, ◌≤◌, ◌==◌, Bool, true, false, List, [], ◌∷◌, map, length, Option, Some, None, refl, sym, ap, ◌∙◌, subst, arith}
use Rattle.std.specs.Prelude.{if◌then◌else◌}
use Rattle.std.specs.Option.{option_map, option_and_then, option_or}
use Rattle.std.proofs.lemmas.Bool.{eqb-true}
use Rattle.text_base.specs.Trees.{BinaryOp, add, subtract, Expr}
use Rattle.tree77.specs.Expressions as symbol
use Rattle.tree77.specs.Expressions.{Symbol, is_sum}
use Rattle.tree77.specs.Tokens.{Token, TokenKind, run, digits, kept, mark}
use Rattle.tree77.specs.Lexemes.{Lexeme, constant, operator, comma, symbol_of}
use Rattle.text_base.proofs.Optional.{mapped}
use Rattle.expr77.specs.LexemeReading.{first_or_0, behind_mark, or_all, behind_sign, run_here, digits_here, behind_exponent, behind_exponent_run, Number, whole, real, behind_digits, read_number, behind_part, behind_complex, behind_hollerith, Stand, at_argument, at_operand, lexeme_of_number, found_number, or_found, point_at, read_mark, read_token, read_lexeme, stand_behind, read_lexemes}
use Rattle.expr77.proofs.Standing.{fits}
use Rattle.expr77.proofs.NumberOnly.{marked, run_token, number_token}

-- ---- a number or a mark is read as a lexeme

-- a number that no run follows is no Hollerith constant
no_hollerith : (d : List ℕ) (ts : List Token) (n : Number) (rest : List Token) → behind_digits d ts (behind_exponent ts) (behind_mark 46 ts) ≡ (n, rest) → run_here rest ≡ None → behind_hollerith ts ≡ None
no_hollerith d [] n rest e no_run = refl
no_hollerith d (t ∷ ts) n rest e no_run = go t.kind t.text e
  where
    behind_h : (text : List ℕ) → behind_exponent_run (72 ∷ text) ts ≡ None
    behind_h [] = refl
    behind_h (c ∷ text) = refl

    at : (c : ℕ) (text : List ℕ) (b : Bool) → (c == 72) ≡ b → behind_digits d (run_token (c ∷ text) ∷ ts) (behind_exponent_run (c ∷ text) ts) None ≡ (n, rest) → (if b then Some ts else None) ≡ None
    at c text false is e = refl
    at c text true is e =
        let h : behind_exponent_run (c ∷ text) ts ≡ None = ap (λ c. behind_exponent_run (c ∷ text) ts) (eqb-true c 72 is) ∙ behind_h text in
        let found : ◌≡◌ {A = Number × List Token} (whole d, run_token (c ∷ text) ∷ ts) (n, rest) = rw h at e in
        let same : run_token (c ∷ text) ∷ ts ≡ rest = ap (λ (p : Number × List Token). p.1) found in
        let none : ◌≡◌ {A = Option (List ℕ × List Token)} (Some (c ∷ text, ts)) None = ap run_here same ∙ no_run in
        absurd cc

    go : (kind : TokenKind) (text : List ℕ) → behind_digits d (record { kind = kind; text = text } ∷ ts) (behind_exponent (record { kind = kind; text = text } ∷ ts)) (behind_mark 46 (record { kind = kind; text = text } ∷ ts)) ≡ (n, rest)
        → behind_hollerith (record { kind = kind; text = text } ∷ ts) ≡ None
    go run [] e = refl
    go run (c ∷ text) e = at c text (c == 72) refl e
    go digits text e = refl
    go kept text e = refl
    go mark text e = refl

-- a number is read as a lexeme, which is an integer or another constant
pub number_lexeme : (s : Stand) (tokens : List Token) (n : Number) (rest : List Token) → read_number tokens ≡ Some (n, rest) → run_here rest ≡ None → read_lexeme s tokens ≡ Some (lexeme_of_number n, rest)
unfolding read_lexeme read_number
number_lexeme s [] n rest e no_run = absurd cc
number_lexeme s (t ∷ ts) n rest e no_run = go t.kind t.text e
  where
    point : (text : List ℕ) (d : Option (List ℕ × List Token)) → digits_here ts ≡ d → option_map {U = Number × List Token} (λ d. (real, or_all d.1 (behind_exponent d.1))) d ≡ Some (n, rest)
        → read_number (record { kind = mark; text = text } ∷ ts) ≡ Some (n, rest) → point_at (record { kind = mark; text = text } ∷ ts) ts d ≡ Some (lexeme_of_number n, rest)
    point text None is e all = absurd cc
    point text (Some d) is e all = ap (option_map (λ n. (lexeme_of_number n.0, n.1))) all

    at : (text : List ℕ) (b : Bool) → (first_or_0 text == 46) ≡ b → option_map {U = Number × List Token} (λ d. (real, or_all d.1 (behind_exponent d.1))) (option_and_then digits_here (if b then Some ts else None)) ≡ Some (n, rest)
        → read_number (record { kind = mark; text = text } ∷ ts) ≡ Some (n, rest) → read_mark s (first_or_0 text) (record { kind = mark; text = text } ∷ ts) ts ≡ Some (lexeme_of_number n, rest)
    at text false is e all = absurd cc
    at text true is e all = ap (λ c. read_mark s c (record { kind = mark; text = text } ∷ ts) ts) (eqb-true (first_or_0 text) 46 is) ∙ point text (digits_here ts) refl e all

    go : (kind : TokenKind) (text : List ℕ) → read_number (record { kind = kind; text = text } ∷ ts) ≡ Some (n, rest)
        → read_token s kind text (record { kind = kind; text = text } ∷ ts) ts ≡ Some (lexeme_of_number n, rest)
    go run text e = absurd cc
    go digits text e =
        let found : behind_digits text ts (behind_exponent ts) (behind_mark 46 ts) ≡ (n, rest) = cc in
        ap (λ h. or_found h constant (found_number (number_token text ∷ ts))) (no_hollerith text ts n rest found no_run) ∙ ap (option_map (λ n. (lexeme_of_number n.0, n.1))) e
    go kept text e = absurd cc
    go mark text e = at text (first_or_0 text == 46) refl e e

-- a mark that is a lexeme by itself
pub mark_lexeme : (c : ℕ) (i : Lexeme) (s : Stand) (tokens rest : List Token) → (0 == c) ≡ false → ((ts more : List Token) → read_mark s c ts more ≡ Some (i, more)) → behind_mark c tokens ≡ Some rest
    → (read_lexeme s tokens ≡ Some (i, rest)) × (run_here tokens ≡ None)
unfolding read_lexeme
mark_lexeme c i s [] rest apart is e = absurd cc
mark_lexeme c i s (t ∷ ts) rest apart is e = go t.kind t.text e
  where
    none : (if 0 == c then Some ts else None) ≡ Some rest → ⊥
    none e = let refused : None ≡ Some rest = rw apart at e in absurd cc

    at : (text : List ℕ) (b : Bool) → (first_or_0 text == c) ≡ b → (if b then Some ts else None) ≡ Some rest → read_mark s (first_or_0 text) (record { kind = mark; text = text } ∷ ts) ts ≡ Some (i, rest)
    at text false same e = absurd cc
    at text true same e =
        let left : ts ≡ rest = cc in
        ap (λ c. read_mark s c (record { kind = mark; text = text } ∷ ts) ts) (eqb-true (first_or_0 text) c same) ∙ is (record { kind = mark; text = text } ∷ ts) ts ∙ ap (λ (m : List Token). Some (i, m)) left

    go : (kind : TokenKind) (text : List ℕ) → behind_mark c (record { kind = kind; text = text } ∷ ts) ≡ Some rest
        → (read_token s kind text (record { kind = kind; text = text } ∷ ts) ts ≡ Some (i, rest)) × (run_here (record { kind = kind; text = text } ∷ ts) ≡ None)
    go run text e = absurd (none e)
    go digits text e = absurd (none e)
    go kept text e = absurd (none e)
    go mark text e = (at text (first_or_0 text == c) refl e, refl)

-- ---- no complex constant begins with a parenthesis that is open

-- after the first lexeme the others are read
pub unrolled : (k : ℕ) (s : Stand) (tokens rest : List Token) (i : Lexeme) → read_lexeme s tokens ≡ Some (i, rest) → read_lexemes (suc k) s tokens ≡ option_map (λ is. i ∷ is) (read_lexemes k (stand_behind i) rest)
unfolding read_lexeme
unrolled k s [] rest i e = absurd cc
unrolled k s (t ∷ ts) rest i e = ap (option_and_then (λ (p : Lexeme × List Token). option_map (λ is. p.0 ∷ is) (read_lexemes k (stand_behind p.0) p.1))) e

-- the lexeme stands for an operand
record IsOperandLexeme (i : Lexeme) : Type 0 where
  of : Expr
  is : symbol_of i ≡ symbol.operand of

-- a number stands for an operand
number_symbol : (n : Number) → IsOperandLexeme (lexeme_of_number n)
number_symbol (whole d) = record { of = _; is = refl }
number_symbol real = record { of = _; is = refl }

-- the tokens are read as the lexemes, with as many turns as there are tokens, or more
abbrev pub AreRead : Stand → List Token → List Lexeme → Type 0
AreRead s tokens lexemes = (n : ℕ) → length tokens ≤ n → read_lexemes n s tokens ≡ Some lexemes

-- a lexeme, a comma and others
record IsPair (i : Lexeme) (lexemes : List Lexeme) : Type 0 where
  others : List Lexeme
  is : lexemes ≡ i ∷ comma ∷ others

-- what begins with a lexeme and a comma
pair_read : (i : Lexeme) (lexemes : List Lexeme) (o : Option (List Lexeme)) → option_map (λ is. i ∷ is) (option_map (λ is. comma ∷ is) o) ≡ Some lexemes → IsPair i lexemes
pair_read i lexemes None e = absurd cc
pair_read i lexemes (Some others) e = record { others = others; is = cc }

-- ---- no number and comma behind such a parenthesis

-- a comma behind an operand may not stand there
no_comma : (ls : List Bool) (i : Lexeme) (y : Expr) (others : List Lexeme) → symbol_of i ≡ symbol.operand y → fits at_argument (false ∷ ls) (map symbol_of (i ∷ comma ∷ others)) ≡ true → ⊥
no_comma ls i y others is e = let refused : false ≡ true = rw is at e in absurd cc

-- nor behind an operand with a sign
no_signed_comma : (ls : List Bool) (i : Lexeme) (o : BinaryOp) (y : Expr) (others : List Lexeme) → is_sum o ≡ true → symbol_of i ≡ symbol.operand y
    → fits at_argument (false ∷ ls) (map symbol_of (operator o ∷ i ∷ comma ∷ others)) ≡ true → ⊥
no_signed_comma ls i o y others sign is e = let refused : false ≡ true = rw (sign, is) at e in absurd cc

-- a number and a comma aren't read there
no_pair : (ls : List Bool) (tokens rest more : List Token) (lexemes : List Lexeme) (n : Number) → AreRead at_argument tokens lexemes → fits at_argument (false ∷ ls) (map symbol_of lexemes) ≡ true
    → read_number (behind_sign tokens) ≡ Some (n, rest) → behind_mark 44 rest ≡ Some more → ⊥
no_pair ls tokens rest more lexemes n read fitting number e = signs (behind_mark 43 tokens) (behind_mark 45 tokens) refl refl number
  where
    operand : IsOperandLexeme (lexeme_of_number n)
    operand = number_symbol n

    comma_there : (read_lexeme (stand_behind (lexeme_of_number n)) rest ≡ Some (comma, more)) × (run_here rest ≡ None)
    comma_there = mark_lexeme 44 comma (stand_behind (lexeme_of_number n)) rest more refl (λ ts more. refl) e

    -- the lexemes of a number and a comma
    pair : (k : ℕ) (s : Stand) (ts : List Token) → read_number ts ≡ Some (n, rest) → read_lexemes (suc (suc k)) s ts ≡ option_map (λ is. lexeme_of_number n ∷ is) (option_map (λ is. comma ∷ is) (read_lexemes k at_argument more))
    pair k s ts number =
        unrolled (suc k) s ts rest (lexeme_of_number n) (number_lexeme s ts n rest number comma_there.1)
        ∙ ap (option_map (λ is. lexeme_of_number n ∷ is)) (unrolled k (stand_behind (lexeme_of_number n)) rest more comma comma_there.0)

    unsigned : read_number tokens ≡ Some (n, rest) → ⊥
    unsigned number =
        let p = pair_read (lexeme_of_number n) lexemes (read_lexemes (length tokens) at_argument more) (sym (pair (length tokens) at_argument tokens number) ∙ read (suc (suc (length tokens))) (omega arith)) in
        no_comma ls (lexeme_of_number n) operand.of p.others operand.is (subst (λ (is : List Lexeme). fits at_argument (false ∷ ls) (map symbol_of is) ≡ true) p.is fitting)

    signed : (o : BinaryOp) (ts : List Token) → is_sum o ≡ true → read_lexeme at_argument tokens ≡ Some (operator o, ts) → read_number ts ≡ Some (n, rest) → ⊥
    signed o ts sign first number =
        let signs = unrolled (suc (suc (length tokens))) at_argument tokens ts (operator o) first in
        let z = mapped (read_lexemes (suc (suc (length tokens))) at_operand ts) (λ is. operator o ∷ is) lexemes (sym signs ∙ read (suc (suc (suc (length tokens)))) (omega arith)) in
        let p = pair_read (lexeme_of_number n) z.from (read_lexemes (length tokens) at_argument more) (sym (pair (length tokens) at_operand ts number) ∙ z.was) in
        let is : lexemes ≡ operator o ∷ lexeme_of_number n ∷ comma ∷ p.others = sym z.is ∙ ap (λ (is : List Lexeme). operator o ∷ is) p.is in
        no_signed_comma ls (lexeme_of_number n) o operand.of p.others sign operand.is (subst (λ (is : List Lexeme). fits at_argument (false ∷ ls) (map symbol_of is) ≡ true) is fitting)

    signs : (p q : Option (List Token)) → behind_mark 43 tokens ≡ p → behind_mark 45 tokens ≡ q → read_number (or_all tokens (option_or p q)) ≡ Some (n, rest) → ⊥
    signs None None plus minus number = unsigned number
    signs None (Some after) plus minus number = signed subtract after refl (mark_lexeme 45 (operator subtract) at_argument tokens after refl (λ ts more. refl) minus).0 number
    signs (Some after) q plus minus number = signed add after refl (mark_lexeme 43 (operator add) at_argument tokens after refl (λ ts more. refl) plus).0 number

-- where the lexemes behind an open parenthesis may stand there, and it stands behind no operand, no complex constant can be read
pub no_complex : (ls : List Bool) (tokens : List Token) (lexemes : List Lexeme) → AreRead at_argument tokens lexemes → fits at_argument (false ∷ ls) (map symbol_of lexemes) ≡ true → behind_complex (marked 40 ∷ tokens) ≡ None
unfolding behind_complex
no_complex ls tokens lexemes read fitting = ap (λ o. option_and_then (behind_mark 41) (option_and_then behind_part o)) (part (read_number (behind_sign tokens)) refl)
  where
    comma_at : (n : Number) (rest : List Token) (o : Option (List Token)) → read_number (behind_sign tokens) ≡ Some (n, rest) → behind_mark 44 rest ≡ o → o ≡ None
    comma_at n rest None number e = refl
    comma_at n rest (Some more) number e = absurd (no_pair ls tokens rest more lexemes n read fitting number e)

    part : (o : Option (Number × List Token)) → read_number (behind_sign tokens) ≡ o → option_and_then (behind_mark 44) (option_map (λ n. n.1) o) ≡ None
    part None number = refl
    part (Some (n, rest)) number = comma_at n rest (behind_mark 44 rest) number refl
