-- A constant alone ends at the first mark outside parentheses that doesn't stand in one.
use Rattle.std.proofs.Common.{◌≡◌, ◌≢◌, inl, inr, ℕ, zero, suc, Bool, true, false, ◌&&◌, ◌||◌, ◌==◌, List, [], ◌∷◌, ◌++◌, map, take, refl, sym, ap, ◌∙◌, subst, append_assoc, arith}
use Rattle.std.specs.Prelude.{if◌then◌else◌}
use Rattle.std.specs.List.{list_all}
use Rattle.std.proofs.lemmas.Bool.{and_parts, and_from, eqb-true}
use Rattle.std.proofs.lemmas.Bool.Decides.{nat_tests}
use Rattle.std.proofs.lemmas.List.{map-append}
use Rattle.std.proofs.Math.Bool.{and-false}
use Rattle.text_base.specs.Pieces.{Piece, plain, whole, broken}
use Rattle.text_base.specs.Trees.{UnaryOp, plus, minus, negation, BinaryOp, power, times, over, add, subtract, concat, less, less_equal, equal, not_equal, greater, greater_equal, conjunction, disjunction, equivalence, nonequivalence, Expr}
use Rattle.text_base.specs.Trees as e
use Rattle.text_base.specs.declared.limits.TheConstants.{LONGEST_NAME}
use Rattle.tree77.specs.Kinds.{open_after}
use Rattle.tree77.specs.Expressions as symbol
use Rattle.tree77.specs.Expressions.{Symbol, Grammar, is_sum, sign_symbol, Chain, chain_one, chain_more, Factor, factor_one, factor_power, Term, Signed, signed_none, signed_by, Sum, Relation, relation_one, relation_two, Negation, negation_none, negation_by, Primary, primary_operand, primary_reference, primary_empty, primary_substring, primary_paren, Nested, IsExpression}
use Rattle.tree77.specs.Lexemes.{Lexeme, integer, constant, logical, characters, name, alternate, operator, not_sign, opening, closing, comma, colon, IsComplex, IsConstant, operator_text, logical_text, IsLexeme, lexeme_integer, lexeme_constant, lexeme_logical, lexeme_characters, lexeme_name, lexeme_alternate, lexeme_operator, lexeme_not, lexeme_open, lexeme_close, lexeme_comma, lexeme_colon, AreLexemes, lexemes_none, lexemes_more, symbol_of, IsWideExpression}
use Rattle.tree77.specs.Forms.{is_in, stays}
use Rattle.tree77.specs.FormWords.{is_integer, is_sign, is_constant}
use Rattle.expr77.specs.Constants.{is_ending, is_single, is_numeric, is_plus_or_minus, is_alone, EndsAt, until_mark}
use Rattle.expr77.proofs.ConstantTexts.{is_character, AreCharacters, number_characters, word_characters, real_characters, part_characters, hollerith_characters, logical_characters}

-- ---- characters

character_stays : (n c : ℕ) → is_character c ≡ true → open_after n c ≡ n
character_stays n c is = grind (arith, nat_tests)

character_ends_none : (c : ℕ) → is_character c ≡ true → is_ending c ≡ false
character_ends_none c is = grind (arith, nat_tests)

suc_is_some : (n : ℕ) → (suc n == 0) ≡ false
suc_is_some n = grind (arith, nat_tests)

-- what ends no constant is none of the marks
not_among : (marks : List ℕ) (c : ℕ) → list_all is_ending marks ≡ true → is_ending c ≡ false → is_in marks c ≡ false
not_among [] c all off = refl
not_among (m ∷ ms) c all off = go (c == m) refl (not_among ms c parts.1 off)
  where
    parts : (is_ending m ≡ true) × (list_all is_ending ms ≡ true)
    parts = and_parts (is_ending m) (list_all is_ending ms) all

    go : (b : Bool) → (c == m) ≡ b → is_in ms c ≡ false → (c == m || is_in ms c) ≡ false
    go true is later = let on : is_ending c ≡ true = ap is_ending (eqb-true c m is) ∙ parts.0 in absurd cc
    go false is later = ap (λ b. b || is_in ms c) is ∙ later

-- ---- pieces in which no mark stands outside parentheses

module _ (marks : List ℕ) (all : list_all is_ending marks ≡ true) where
  -- no mark stands in these pieces where n parentheses are open, and behind them m are open
  abbrev Keeps : List Piece → ℕ → ℕ → Type 0
  Keeps first n m = (rest : List Piece) → stays marks n (first ++ rest) ≡ stays marks m rest

  one_keeps : (n m c : ℕ) → (n == 0 && is_in marks c) ≡ false → open_after n c ≡ m → Keeps (plain c ∷ []) n m
  one_keeps n m c on is rest = ap (λ b. if b then false else stays marks (open_after n c) rest) on ∙ ap (λ k. stays marks k rest) is

  both_keep : (u v : List Piece) (n m k : ℕ) → Keeps u n m → Keeps v m k → Keeps (u ++ v) n k
  both_keep u v n m k a b rest = ap (stays marks n) (append_assoc u v rest) ∙ a (v ++ rest) ∙ b rest

  texts_keep : (u v : List ℕ) (n m k : ℕ) → Keeps (map plain u) n m → Keeps (map plain v) m k → Keeps (map plain (u ++ v)) n k
  texts_keep u v n m k a b = subst (λ x. Keeps x n k) (sym (map-append plain u v)) (both_keep (map plain u) (map plain v) n m k a b)

  no_mark : (n c : ℕ) → is_ending c ≡ false → (n == 0 && is_in marks c) ≡ false
  no_mark n c off = ap (λ b. n == 0 && b) (not_among marks c all off) ∙ and-false (n == 0)

  text_keeps : (n : ℕ) (u : List ℕ) → AreCharacters u → Keeps (map plain u) n n
  text_keeps n [] is = λ rest. refl
  text_keeps n (c ∷ u) is =
      let parts = and_parts (is_character c) (list_all is_character u) is in
      both_keep (plain c ∷ []) (map plain u) n n n (one_keeps n n c (no_mark n c (character_ends_none c parts.0)) (character_stays n c parts.0)) (text_keeps n u parts.1)

  inner_keeps : (n m c : ℕ) → open_after (suc n) c ≡ m → Keeps (plain c ∷ []) (suc n) m
  inner_keeps n m c is = one_keeps (suc n) m c (ap (λ b. b && is_in marks c) (suc_is_some n)) is

  complex_keeps : (u : List ℕ) → IsComplex u → Keeps (map plain u) 0 0
  complex_keeps u c =
      let last = texts_keep c.imaginary (41 ∷ []) 1 1 0 (text_keeps 1 c.imaginary (part_characters c.imaginary c.imaginary_part)) (inner_keeps 0 0 41 refl) in
      let second = both_keep (plain 44 ∷ []) (map plain (c.imaginary ++ 41 ∷ [])) 1 1 0 (inner_keeps 0 1 44 refl) last in
      let first = texts_keep c.real (44 ∷ (c.imaginary ++ 41 ∷ [])) 1 1 0 (text_keeps 1 c.real (part_characters c.real c.real_part)) second in
      subst (λ x. Keeps (map plain x) 0 0) (sym c.whole) (both_keep (plain 40 ∷ []) (map plain (c.real ++ 44 ∷ (c.imaginary ++ 41 ∷ []))) 0 1 0 (one_keeps 0 1 40 (no_mark 0 40 refl) refl) first)

  constant_keeps : (u : List ℕ) → IsConstant u → Keeps (map plain u) 0 0
  constant_keeps u (inl is) = text_keeps 0 u (real_characters u is)
  constant_keeps u (inr (inl is)) = complex_keeps u is
  constant_keeps u (inr (inr is)) = text_keeps 0 u (hollerith_characters u is)

  -- ---- lexemes

  keeps_here : (first more : List Piece) → first ≡ more → Keeps more 0 0 → Keeps first 0 0
  keeps_here first more is keeps = subst (λ x. Keeps x 0 0) (sym is) keeps

  -- a lexeme of a test that this one doesn't pass
  other : {X : Type 0} (test : Lexeme → Bool) (i j : Lexeme) → i ≡ j → test j ≡ false → test i ≡ true → X
  other test i j is off on = let bad : true ≡ false = sym on ∙ ap test is ∙ off in absurd cc

  single_keeps : (first : List Piece) (i : Lexeme) → IsLexeme first i → is_single i ≡ true → Keeps first 0 0
  single_keeps first i (lexeme_integer u front number is) on = keeps_here first (map plain u) front (text_keeps 0 u (number_characters u number))
  single_keeps first i (lexeme_constant u front refused is) on = keeps_here first (map plain u) front (constant_keeps u refused)
  single_keeps first i (lexeme_logical b front is) on = keeps_here first (map plain (logical_text b)) front (text_keeps 0 (logical_text b) (logical_characters b))
  single_keeps first i (lexeme_characters within value front quoted some is) on = keeps_here first (whole (39 ∷ (within ++ 39 ∷ [])) ∷ []) front (λ rest. refl)
  single_keeps first i (lexeme_name u front word is) on = keeps_here first (map plain u) front (text_keeps 0 u (word_characters u word))
  single_keeps first i (lexeme_alternate u front label is) on = other is_single i alternate is refl on
  single_keeps first i (lexeme_operator o front is) on = other is_single i (operator o) is refl on
  single_keeps first i (lexeme_not front is) on = other is_single i not_sign is refl on
  single_keeps first i (lexeme_open front is) on = other is_single i opening is refl on
  single_keeps first i (lexeme_close front is) on = other is_single i closing is refl on
  single_keeps first i (lexeme_comma front is) on = other is_single i comma is refl on
  single_keeps first i (lexeme_colon front is) on = other is_single i colon is refl on

  sum_characters : (o : BinaryOp) → is_sum o ≡ true → AreCharacters (operator_text o)
  sum_characters add on = refl
  sum_characters subtract on = refl
  sum_characters power on = absurd cc
  sum_characters times on = absurd cc
  sum_characters over on = absurd cc
  sum_characters concat on = absurd cc
  sum_characters less on = absurd cc
  sum_characters less_equal on = absurd cc
  sum_characters equal on = absurd cc
  sum_characters not_equal on = absurd cc
  sum_characters greater on = absurd cc
  sum_characters greater_equal on = absurd cc
  sum_characters conjunction on = absurd cc
  sum_characters disjunction on = absurd cc
  sum_characters equivalence on = absurd cc
  sum_characters nonequivalence on = absurd cc

  sign_keeps : (first : List Piece) (i : Lexeme) → IsLexeme first i → is_plus_or_minus i ≡ true → Keeps first 0 0
  sign_keeps first i (lexeme_operator o front is) on = keeps_here first (map plain (operator_text o)) front (text_keeps 0 (operator_text o) (sum_characters o (sym (ap is_plus_or_minus is) ∙ on)))
  sign_keeps first i (lexeme_integer u front number is) on = other is_plus_or_minus i (integer u) is refl on
  sign_keeps first i (lexeme_constant u front refused is) on = other is_plus_or_minus i constant is refl on
  sign_keeps first i (lexeme_logical b front is) on = other is_plus_or_minus i (logical b) is refl on
  sign_keeps first i (lexeme_characters within value front quoted some is) on = other is_plus_or_minus i (characters value) is refl on
  sign_keeps first i (lexeme_name u front word is) on = other is_plus_or_minus i (name u) is refl on
  sign_keeps first i (lexeme_alternate u front label is) on = other is_plus_or_minus i alternate is refl on
  sign_keeps first i (lexeme_not front is) on = other is_plus_or_minus i not_sign is refl on
  sign_keeps first i (lexeme_open front is) on = other is_plus_or_minus i opening is refl on
  sign_keeps first i (lexeme_close front is) on = other is_plus_or_minus i closing is refl on
  sign_keeps first i (lexeme_comma front is) on = other is_plus_or_minus i comma is refl on
  sign_keeps first i (lexeme_colon front is) on = other is_plus_or_minus i colon is refl on

  numeric_single : (i : Lexeme) → is_numeric i ≡ true → is_single i ≡ true
  numeric_single (integer d) on = refl
  numeric_single constant on = refl
  numeric_single (logical b) on = absurd cc
  numeric_single (characters v) on = absurd cc
  numeric_single (name w) on = absurd cc
  numeric_single alternate on = absurd cc
  numeric_single (operator o) on = absurd cc
  numeric_single not_sign on = absurd cc
  numeric_single opening on = absurd cc
  numeric_single closing on = absurd cc
  numeric_single comma on = absurd cc
  numeric_single colon on = absurd cc

  -- the first lexeme, and the others
  record Leads (pieces : List Piece) (i : Lexeme) (others : List Lexeme) : Type 0 where
    first : List Piece
    rest : List Piece
    front : pieces ≡ first ++ rest
    is : IsLexeme first i
    follow : AreLexemes rest others

  leads : (pieces : List Piece) (i : Lexeme) (others : List Lexeme) → AreLexemes pieces (i ∷ others) → Leads pieces i others
  leads pieces i others (lexemes_none none empty) = absurd cc
  leads pieces i others (lexemes_more {first = first} {rest = rest} {others = more} {i = j} front lexeme follow is) =
      let same : j ≡ i = cc in
      let behind : more ≡ others = cc in
      record { first = first; rest = rest; front = front; is = subst (IsLexeme first) same lexeme; follow = subst (AreLexemes rest) behind follow }

  no_more : (pieces : List Piece) → AreLexemes pieces [] → pieces ≡ []
  no_more pieces (lexemes_none none empty) = none
  no_more pieces (lexemes_more front lexeme follow is) = absurd cc

  pub alone_stays : (pieces : List Piece) (lexemes : List Lexeme) → AreLexemes pieces lexemes → is_alone lexemes ≡ true → stays marks 0 pieces ≡ true
  alone_stays pieces [] are on = absurd cc
  alone_stays pieces (i ∷ []) are on =
      let one = leads pieces i [] are in
      ap (stays marks 0) one.front ∙ single_keeps one.first i one.is on one.rest ∙ ap (stays marks 0) (no_more one.rest one.follow)
  alone_stays pieces (i ∷ j ∷ []) are on =
      let parts = and_parts (is_plus_or_minus i) (is_numeric j) on in
      let one = leads pieces i (j ∷ []) are in
      let two = leads one.rest j [] one.follow in
      ap (stays marks 0) one.front ∙ sign_keeps one.first i one.is parts.0 one.rest
      ∙ ap (stays marks 0) two.front ∙ single_keeps two.first j two.is (numeric_single j parts.1) two.rest ∙ ap (stays marks 0) (no_more two.rest two.follow)
  alone_stays pieces (i ∷ j ∷ k ∷ more) are on = absurd cc

-- ---- the search for a mark

-- pieces in which none of the marks stands outside parentheses end at the first that does
ends_here : (marks : List ℕ) (n : ℕ) (rest : List Piece) → (n == 0) ≡ true → EndsAt marks rest → until_mark marks n rest ≡ ([], rest)
ends_here marks n [] none ends = refl
ends_here marks n (plain c ∷ rest) none ends =
    ap (λ b. if b then ([], plain c ∷ rest) else (plain c ∷ (until_mark marks (open_after n c) rest).0, (until_mark marks (open_after n c) rest).1)) (and_from (n == 0) (is_in marks c) none ends)
ends_here marks n (whole t ∷ rest) none ends = absurd ends
ends_here marks n (broken t ∷ rest) none ends = absurd ends

abbrev with_first : Piece → List Piece × List Piece → List Piece × List Piece
with_first p parts = (p ∷ parts.0, parts.1)

stops_behind : (marks : List ℕ) (n : ℕ) (u rest : List Piece) → stays marks n u ≡ true → EndsAt marks rest → until_mark marks n (u ++ rest) ≡ (u, rest)
stops_behind marks n [] rest stay ends = ends_here marks n rest stay ends
stops_behind marks n (plain c ∷ u) rest stay ends = go (n == 0 && is_in marks c) stay (λ later. stops_behind marks (open_after n c) u rest later ends)
  where
    go : (b : Bool) → (if b then false else stays marks (open_after n c) u) ≡ true → (stays marks (open_after n c) u ≡ true → until_mark marks (open_after n c) (u ++ rest) ≡ (u, rest))
        → (if b then ([], plain c ∷ (u ++ rest)) else with_first (plain c) (until_mark marks (open_after n c) (u ++ rest))) ≡ (plain c ∷ u, rest)
    go true stay more = absurd cc
    go false stay more = ap (with_first (plain c)) (more stay)
stops_behind marks n (whole t ∷ u) rest stay ends = ap (with_first (whole t)) (stops_behind marks n u rest stay ends)
stops_behind marks n (broken t ∷ u) rest stay ends = ap (with_first (broken t)) (stops_behind marks n u rest stay ends)

pub alone_keeps : (marks : List ℕ) (pieces : List Piece) (lexemes : List Lexeme) → AreLexemes pieces lexemes → is_alone lexemes ≡ true → list_all is_ending marks ≡ true → stays marks 0 pieces ≡ true
alone_keeps marks pieces lexemes are on all = alone_stays marks all pieces lexemes are on

pub alone_stops : (marks : List ℕ) (pieces rest : List Piece) (lexemes : List Lexeme) → AreLexemes pieces lexemes → is_alone lexemes ≡ true → list_all is_ending marks ≡ true → EndsAt marks rest
    → until_mark marks 0 (pieces ++ rest) ≡ (pieces, rest)
alone_stops marks pieces rest lexemes are on all ends = stops_behind marks 0 pieces rest (alone_keeps marks pieces lexemes are on all) ends

-- ---- trees

-- an operand alone, or one with a sign before it
data IsAloneTree (t : List Symbol) (x : Expr) : Type 0 where
  alone_operand : t ≡ symbol.operand x ∷ [] → IsAloneTree t x
  alone_signed : (s : UnaryOp) (a : Expr) → s ≢ negation → is_integer a ≡ true → t ≡ sign_symbol s ∷ symbol.operand a ∷ [] → IsAloneTree t x

-- another tree is no constant
no_constant : {X : Type 0} (x y : Expr) → x ≡ y → is_constant y ≡ false → is_constant x ≡ true → X
no_constant x y is off on = let bad : true ≡ false = sym on ∙ ap is_constant is ∙ off in absurd cc

module _ (Inner : Grammar) where
  primary_alone : (t : List Symbol) (x : Expr) → Primary Inner t x → is_constant x ≡ true → t ≡ symbol.operand x ∷ []
  primary_alone t x (primary_operand is) on = is
  primary_alone t x (primary_reference call) on = no_constant x (e.call call.of call.parts) call.tree refl on
  primary_alone t x (primary_empty of front is) on = no_constant x (e.call of e.none) is refl on
  primary_alone t x (primary_substring {a = a} {from = from} {to = to} front parent first last is) on = no_constant x (e.substring a from to) is refl on
  primary_alone t x (primary_paren {a = a} front inner is) on = no_constant x (e.paren a) is refl on

  factor_alone : (t : List Symbol) (x : Expr) → Factor (Primary Inner) t x → is_constant x ≡ true → t ≡ symbol.operand x ∷ []
  factor_alone t x (factor_one p) on = primary_alone t x p on
  factor_alone t x (factor_power {a = a} {b = b} front first more is) on = no_constant x (e.binary power a b) is refl on

  -- a constant is no chain of more than one
  chain_alone : {joins : BinaryOp → Bool} {First Next : Grammar} {X : Type 0} (t : List Symbol) (x : Expr) → Chain joins First Next t x → is_constant x ≡ true → (First t x → X) → X
  chain_alone t x (chain_one one) on more = more one
  chain_alone t x (chain_more {a = a} {b = b} o front joined first next is) on more = no_constant x (e.binary o a b) is refl on

  term_alone : (t : List Symbol) (x : Expr) → Term (Primary Inner) t x → is_constant x ≡ true → t ≡ symbol.operand x ∷ []
  term_alone t x term on = chain_alone t x term on (λ f. factor_alone t x f on)

  integer_constant : (a : Expr) → is_integer a ≡ true → is_constant a ≡ true
  integer_constant (e.int n) on = refl
  integer_constant (e.bool b) on = absurd cc
  integer_constant (e.text v) on = absurd cc
  integer_constant (e.name w) on = absurd cc
  integer_constant (e.call of parts) on = absurd cc
  integer_constant (e.substring a from to) on = absurd cc
  integer_constant (e.unary o a) on = absurd cc
  integer_constant (e.binary o a b) on = absurd cc
  integer_constant (e.paren a) on = absurd cc

  signed_alone : (t : List Symbol) (x : Expr) → Signed (Primary Inner) t x → is_constant x ≡ true → IsAloneTree t x
  signed_alone t x (signed_none term) on = alone_operand (term_alone t x term on)
  signed_alone t x (signed_by {u = u} {a = a} s no_negation front term is) on =
      let whole_number = (and_parts (is_sign s) (is_integer a) (sym (ap is_constant is) ∙ on)).1 in
      alone_signed s a no_negation whole_number (front ∙ ap (λ (v : List Symbol). sign_symbol s ∷ v) (term_alone u a term (integer_constant a whole_number)))

  relation_alone : (t : List Symbol) (x : Expr) → Relation (Primary Inner) t x → is_constant x ≡ true → IsAloneTree t x
  relation_alone t x (relation_one one) on = chain_alone t x one on (λ c. chain_alone t x c on (λ s. signed_alone t x s on))
  relation_alone t x (relation_two {a = a} {b = b} o front is_one first second is) on = no_constant x (e.binary o a b) is refl on

  negation_alone : (t : List Symbol) (x : Expr) → Negation (Primary Inner) t x → is_constant x ≡ true → IsAloneTree t x
  negation_alone t x (negation_none one) on = relation_alone t x one on
  negation_alone t x (negation_by {a = a} front one is) on = no_constant x (e.unary negation a) is refl on

tree_alone : (t : List Symbol) (x : Expr) → IsExpression t x → is_constant x ≡ true → IsAloneTree t x
tree_alone t x (n, nested) on = go n nested
  where
    go : (n : ℕ) → Nested n t x → IsAloneTree t x
    go zero nested = absurd nested
    go (suc n) nested = chain_alone (Nested n) t x nested on (λ d. chain_alone (Nested n) t x d on (λ c. chain_alone (Nested n) t x c on (λ o. negation_alone (Nested n) t x o on)))

-- ---- the lexemes of these symbols

operand_single : (i : Lexeme) (x : Expr) → symbol_of i ≡ symbol.operand x → is_single i ≡ true
operand_single (integer d) x is = refl
operand_single constant x is = refl
operand_single (logical b) x is = refl
operand_single (characters v) x is = refl
operand_single (name w) x is = refl
operand_single alternate x is = absurd cc
operand_single (operator o) x is = absurd cc
operand_single not_sign x is = absurd cc
operand_single opening x is = absurd cc
operand_single closing x is = absurd cc
operand_single comma x is = absurd cc
operand_single colon x is = absurd cc

operand_numeric : (i : Lexeme) (x : Expr) → symbol_of i ≡ symbol.operand x → is_integer x ≡ true → is_numeric i ≡ true
operand_numeric (integer d) x is on = refl
operand_numeric constant x is on = refl
operand_numeric (logical b) x is on = let same : x ≡ e.bool b = cc in let bad : true ≡ false = sym on ∙ ap is_integer same in absurd cc
operand_numeric (characters v) x is on = let same : x ≡ e.text v = cc in let bad : true ≡ false = sym on ∙ ap is_integer same in absurd cc
operand_numeric (name w) x is on = let same : x ≡ e.name (take LONGEST_NAME w) = cc in let bad : true ≡ false = sym on ∙ ap is_integer same in absurd cc
operand_numeric alternate x is on = absurd cc
operand_numeric (operator o) x is on = absurd cc
operand_numeric not_sign x is on = absurd cc
operand_numeric opening x is on = absurd cc
operand_numeric closing x is on = absurd cc
operand_numeric comma x is on = absurd cc
operand_numeric colon x is on = absurd cc

sign_passes : (i : Lexeme) (o : BinaryOp) → is_sum o ≡ true → symbol_of i ≡ symbol.operator o → is_plus_or_minus i ≡ true
sign_passes (operator p) o on is = let same : p ≡ o = cc in ap is_sum same ∙ on
sign_passes (integer d) o on is = absurd cc
sign_passes constant o on is = absurd cc
sign_passes (logical b) o on is = absurd cc
sign_passes (characters v) o on is = absurd cc
sign_passes (name w) o on is = absurd cc
sign_passes alternate o on is = absurd cc
sign_passes not_sign o on is = absurd cc
sign_passes opening o on is = absurd cc
sign_passes closing o on is = absurd cc
sign_passes comma o on is = absurd cc
sign_passes colon o on is = absurd cc

symbol_passes : (i : Lexeme) (s : UnaryOp) → s ≢ negation → symbol_of i ≡ sign_symbol s → is_plus_or_minus i ≡ true
symbol_passes i plus no_negation is = sign_passes i add refl is
symbol_passes i minus no_negation is = sign_passes i subtract refl is
symbol_passes i negation no_negation is = absurd (no_negation refl)

one_alone : (lexemes : List Lexeme) (x : Expr) → map symbol_of lexemes ≡ symbol.operand x ∷ [] → is_alone lexemes ≡ true
one_alone [] x is = absurd cc
one_alone (i ∷ []) x is = operand_single i x cc
one_alone (i ∷ j ∷ more) x is = absurd cc

two_alone : (lexemes : List Lexeme) (s : UnaryOp) (a : Expr) → s ≢ negation → is_integer a ≡ true → map symbol_of lexemes ≡ sign_symbol s ∷ symbol.operand a ∷ [] → is_alone lexemes ≡ true
two_alone [] s a no_negation on is = absurd cc
two_alone (i ∷ []) s a no_negation on is = absurd cc
two_alone (i ∷ j ∷ []) s a no_negation on is = and_from (is_plus_or_minus i) (is_numeric j) (symbol_passes i s no_negation cc) (operand_numeric j a (cc) on)
two_alone (i ∷ j ∷ k ∷ more) s a no_negation on is = absurd cc

-- the lexemes of a constant or a name
pub constant_alone : (pieces : List Piece) (lexemes : List Lexeme) (x : Expr) → IsWideExpression pieces lexemes x → is_constant x ≡ true → is_alone lexemes ≡ true
constant_alone pieces lexemes x wide on = go (tree_alone (map symbol_of lexemes) x wide.formed on)
  where
    go : IsAloneTree (map symbol_of lexemes) x → is_alone lexemes ≡ true
    go (alone_operand is) = one_alone lexemes x is
    go (alone_signed s a no_negation whole_number is) = two_alone lexemes s a no_negation whole_number is
