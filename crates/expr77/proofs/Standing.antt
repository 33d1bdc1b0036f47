-- What may stand where among the symbols of an expression.
use Rattle.std.proofs.Common.{◌≡◌, Bool, true, false, not, ◌||◌, List, [], ◌∷◌, ◌++◌, Option, Some, None, refl, sym, ap, ◌∙◌, subst, append_assoc, append-nil}
use Rattle.std.specs.Prelude.{ℕ, zero, suc, if◌then◌else◌}
use Rattle.text_base.specs.Trees.{UnaryOp, plus, minus, negation, BinaryOp, power, Expr, Exprs, Bound, name}
use Rattle.tree77.specs.Expressions.{Symbol, operand, alternate, operator, not_sign, opening, closing, comma, colon, Grammar, is_product, is_sum, is_concat, is_conjunction, is_disjunction, is_equivalence, sign_symbol, Chain, chain_one, chain_more, Factor, factor_one, factor_power, Term, Signed, signed_none, signed_by, Sum, Concatenation, Relation, relation_one, relation_two, Negation, negation_none, negation_by, Conjunction, Disjunction, Equivalence, Listed, listed_one, listed_more, IsCall, Argument, argument_expression, argument_alternate, IsParent, parent_variable, parent_element, IsBound, bound_absent, bound_at, Primary, primary_operand, primary_reference, primary_empty, primary_substring, primary_paren, Nested, IsExpression}
use Rattle.expr77.specs.LexemeReading.{Stand, at_argument, at_operand, after_operand, is_after, is_argument}

-- ---- one symbol

-- the symbol may stand there
abbrev pub may_stand : Stand → Symbol → Bool
may_stand s (operand x) = not (is_after s)
may_stand s alternate = is_argument s
may_stand s (operator o) = is_after s || is_sum o
may_stand s not_sign = not (is_after s)
may_stand s _ = true

-- what stands behind the symbol
abbrev pub stand_after : Symbol → Stand
stand_after (operator o) = at_operand
stand_after not_sign = at_operand
stand_after opening = at_argument
stand_after comma = at_argument
stand_after colon = at_operand
stand_after _ = after_operand

-- the levels behind a closing parenthesis, a comma and a colon, which stand in parentheses alone, a comma in those of a list
abbrev pub behind_closing : List Bool → Option (List Bool)
behind_closing [] = None
behind_closing (l ∷ ls) = Some ls

abbrev pub behind_comma : List Bool → Option (List Bool)
behind_comma [] = None
behind_comma (l ∷ ls) = if l then Some (l ∷ ls) else None

abbrev pub behind_colon : List Bool → Option (List Bool)
behind_colon [] = None
behind_colon (l ∷ ls) = Some (l ∷ ls)

-- The parentheses that are open behind the symbol, the innermost first: for each, whether it stands behind an operand, so
-- that commas may stand in it.
abbrev pub levels_behind : Stand → List Bool → Symbol → Option (List Bool)
levels_behind s ls opening = Some (is_after s ∷ ls)
levels_behind s ls closing = behind_closing ls
levels_behind s ls comma = behind_comma ls
levels_behind s ls colon = behind_colon ls
levels_behind s ls _ = Some ls

-- ---- all symbols

abbrev pub holds_of : (List Bool → Bool) → Option (List Bool) → Bool
holds_of test None = false
holds_of test (Some ls) = test ls

-- at the end no parenthesis is open, and an operand stands last
abbrev pub fits_end : Stand → List Bool → Bool
fits_end s [] = is_after s
fits_end s (l ∷ ls) = false

-- each symbol may stand where it stands
abbrev pub fits : Stand → List Bool → List Symbol → Bool
fits s ls [] = fits_end s ls
fits s ls (c ∷ cs) = if may_stand s c then holds_of (λ next. fits (stand_after c) next cs) (levels_behind s ls c) else false

-- the first symbol may stand there, and the others behind it
pub record FirstFits (s : Stand) (ls : List Bool) (c : Symbol) (cs : List Symbol) : Type 0 where
  pub may : may_stand s c ≡ true
  pub levels : List Bool
  pub are : levels_behind s ls c ≡ Some levels
  pub others : fits (stand_after c) levels cs ≡ true

pub first_fits : (s : Stand) (ls : List Bool) (c : Symbol) (cs : List Symbol) → fits s ls (c ∷ cs) ≡ true → FirstFits s ls c cs
first_fits s ls c cs e = go (may_stand s c) refl (levels_behind s ls c) refl e
  where
    go : (b : Bool) → may_stand s c ≡ b → (o : Option (List Bool)) → levels_behind s ls c ≡ o → (if b then holds_of (λ next. fits (stand_after c) next cs) o else false) ≡ true → FirstFits s ls c cs
    go false may o are e = absurd cc
    go true may None are e = absurd cc
    go true may (Some levels) are e = record { may = may; levels = levels; are = are; others = e }

-- ---- parts of an expression

-- the symbols may stand where an operand may, and then an operand stands before what follows
record IsWhole (t : List Symbol) : Type 0 where
  argument : (ls : List Bool) (others : List Symbol) → fits at_argument ls (t ++ others) ≡ fits after_operand ls others
  operand_ : (ls : List Bool) (others : List Symbol) → fits at_operand ls (t ++ others) ≡ fits after_operand ls others

-- so may all symbols of a grammar
abbrev AreWhole : Grammar → Type 0
AreWhole G = (t : List Symbol) (x : Expr) → G t x → IsWhole t

-- an operand
one_operand : (t : List Symbol) (x : Expr) → t ≡ operand x ∷ [] → IsWhole t
one_operand t x is = subst IsWhole (sym is) (record { argument = λ ls others. refl; operand_ = λ ls others. refl })

-- two parts with an operator between them
joined : (t u v : List Symbol) (o : BinaryOp) → t ≡ u ++ operator o ∷ v → IsWhole u → IsWhole v → IsWhole t
joined t u v o is a b = subst IsWhole (sym is) (record {
  argument = λ ls others. ap (fits at_argument ls) (append_assoc u (operator o ∷ v) others) ∙ a.argument ls (operator o ∷ (v ++ others)) ∙ b.operand_ ls others;
  operand_ = λ ls others. ap (fits at_operand ls) (append_assoc u (operator o ∷ v) others) ∙ a.operand_ ls (operator o ∷ (v ++ others)) ∙ b.operand_ ls others;
})

-- operands with operators between them
chain_whole : (joins : BinaryOp → Bool) (First Next : Grammar) → AreWhole First → AreWhole Next → AreWhole (Chain joins First Next)
chain_whole joins First Next first next t x (chain_one is) = first t x is
chain_whole joins First Next first next t x (chain_more {u = u} {v = v} {a = a} {b = b} o is passes before last tree) =
    joined t u v o is (chain_whole joins First Next first next u a before) (next v b last)

-- a primary, or a power
factor_whole : (P : Grammar) → AreWhole P → AreWhole (Factor P)
factor_whole P primary t x (factor_one is) = primary t x is
factor_whole P primary t x (factor_power {u = u} {v = v} {a = a} {b = b} is base exponent tree) = joined t u v power is (primary u a base) (factor_whole P primary v b exponent)

-- factors with * and /
term_whole : (P : Grammar) → AreWhole P → AreWhole (Term P)
term_whole P primary = chain_whole is_product (Factor P) (Factor P) (factor_whole P primary) (factor_whole P primary)

-- a sign or .NOT., and what stands behind it
behind_sign : (s : UnaryOp) (t u : List Symbol) → t ≡ sign_symbol s ∷ u → IsWhole u → IsWhole t
behind_sign plus t u is whole = subst IsWhole (sym is) (record { argument = whole.operand_; operand_ = whole.operand_ })
behind_sign minus t u is whole = subst IsWhole (sym is) (record { argument = whole.operand_; operand_ = whole.operand_ })
behind_sign negation t u is whole = subst IsWhole (sym is) (record { argument = whole.operand_; operand_ = whole.operand_ })

-- a term, which may have a sign
signed_whole : (P : Grammar) → AreWhole P → AreWhole (Signed P)
signed_whole P primary t x (signed_none is) = term_whole P primary t x is
signed_whole P primary t x (signed_by {u = u} {a = a} s no_negation is term tree) = behind_sign s t u is (term_whole P primary u a term)

-- sums with //
concatenation_whole : (P : Grammar) → AreWhole P → AreWhole (Concatenation P)
concatenation_whole P primary = chain_whole is_concat (Sum P) (Sum P) sum sum
  where
    sum : AreWhole (Sum P)
    sum = chain_whole is_sum (Signed P) (Term P) (signed_whole P primary) (term_whole P primary)

-- one or two of these, with a relation between them
relation_whole : (P : Grammar) → AreWhole P → AreWhole (Relation P)
relation_whole P primary t x (relation_one is) = concatenation_whole P primary t x is
relation_whole P primary t x (relation_two {u = u} {v = v} {a = a} {b = b} o is passes left right tree) =
    joined t u v o is (concatenation_whole P primary u a left) (concatenation_whole P primary v b right)

-- a relation, which may have .NOT. before it
negation_whole : (P : Grammar) → AreWhole P → AreWhole (Negation P)
negation_whole P primary t x (negation_none is) = relation_whole P primary t x is
negation_whole P primary t x (negation_by {u = u} {a = a} is relation tree) = behind_sign negation t u is (relation_whole P primary u a relation)

-- these with .AND., then with .OR., then with .EQV. and .NEQV.
equivalence_whole : (P : Grammar) → AreWhole P → AreWhole (Equivalence P)
equivalence_whole P primary = chain_whole is_equivalence (Disjunction P) (Disjunction P) disjunction disjunction
  where
    conjunction : AreWhole (Conjunction P)
    conjunction = chain_whole is_conjunction (Negation P) (Negation P) (negation_whole P primary) (negation_whole P primary)

    disjunction : AreWhole (Disjunction P)
    disjunction = chain_whole is_disjunction (Conjunction P) (Conjunction P) conjunction conjunction

-- ---- in parentheses

-- a comma, a colon or a closing parenthesis: it doesn't matter what stands before it
abbrev IsFree : Symbol → Type 0
IsFree c = (s : Stand) (l : Bool) (ls : List Bool) (others : List Symbol) → fits s (l ∷ ls) (c ∷ others) ≡ fits after_operand (l ∷ ls) (c ∷ others)

-- in such a parenthesis the symbols may stand before such a mark
abbrev Ends : Stand → Bool → List Symbol → Type 0
Ends s l t = (ls : List Bool) (c : Symbol) (others : List Symbol) → IsFree c → fits s (l ∷ ls) (t ++ c ∷ others) ≡ fits after_operand (l ∷ ls) (c ∷ others)

-- an argument
argument_ends : (Inner : Grammar) → AreWhole Inner → (t : List Symbol) (x : Expr) → Argument Inner t x → (l : Bool) → Ends at_argument l t
argument_ends Inner inner t x (argument_expression is) l = λ ls c others free. (inner t x is).argument (l ∷ ls) (c ∷ others)
argument_ends Inner inner t x (argument_alternate is tree) l = subst (Ends at_argument l) (sym is) (λ ls c others free. refl)

-- some parts with commas between them
listed_ends : (Part : Grammar) → ((t : List Symbol) (x : Expr) → Part t x → (l : Bool) → Ends at_argument l t) → (t : List Symbol) (xs : Exprs) → Listed Part t xs → Ends at_argument true t
listed_ends Part part t xs (listed_one {a = a} is tree) = part t a is true
listed_ends Part part t xs (listed_more {u = u} {v = v} {others = behind} {a = a} is first rest tree) = subst (Ends at_argument true) (sym is) (λ ls c others free.
    ap (fits at_argument (true ∷ ls)) (append_assoc u (comma ∷ v) (c ∷ others))
    ∙ part u a first true ls comma (v ++ c ∷ others) (λ s l ls others. refl)
    ∙ listed_ends Part part v behind rest ls c others free)

-- a name with such a list
call_whole : (Part : Grammar) → ((t : List Symbol) (x : Expr) → Part t x → (l : Bool) → Ends at_argument l t) → (t : List Symbol) (x : Expr) → IsCall Part t x → IsWhole t
call_whole Part part t x e = subst IsWhole (sym e.whole) (record { argument = passes; operand_ = passes })
  where
    passes : (ls : List Bool) (others : List Symbol) → fits at_argument (true ∷ ls) ((e.inside ++ closing ∷ []) ++ others) ≡ fits after_operand ls others
    passes ls others =
        ap (fits at_argument (true ∷ ls)) (append_assoc e.inside (closing ∷ []) others)
        ∙ listed_ends Part part e.inside e.parts e.listed ls closing others (λ s l ls others. refl)

-- what a substring is of
parent_whole : (Inner : Grammar) → AreWhole Inner → (t : List Symbol) (x : Expr) → IsParent Inner t x → IsWhole t
parent_whole Inner inner t x (parent_variable of is tree) = one_operand t (name of) is
parent_whole Inner inner t x (parent_element is) = call_whole Inner (λ t x is l ls c others free. (inner t x is).argument (l ∷ ls) (c ∷ others)) t x is

-- a bound of a substring
bound_ends : (Inner : Grammar) → AreWhole Inner → (t : List Symbol) (b : Bound) → IsBound Inner t b → (l : Bool) → Ends at_argument l t × Ends at_operand l t
bound_ends Inner inner t b (bound_absent is tree) l =
    (subst (Ends at_argument l) (sym is) (λ ls c others free. free at_argument l ls others), subst (Ends at_operand l) (sym is) (λ ls c others free. free at_operand l ls others))
bound_ends Inner inner t b (bound_at {x = x} is tree) l = (λ ls c others free. (inner t x is).argument (l ∷ ls) (c ∷ others), λ ls c others free. (inner t x is).operand_ (l ∷ ls) (c ∷ others))

-- what stands before an opening parenthesis, and what stands in it
substring_whole : (t u v w : List Symbol) → t ≡ u ++ opening ∷ (v ++ colon ∷ (w ++ closing ∷ [])) → IsWhole u → Ends at_argument true v → Ends at_operand true w → IsWhole t
substring_whole t u v w is of from to = subst IsWhole (sym is) (record {
  argument = λ ls others. ap (fits at_argument ls) (append_assoc u (opening ∷ (v ++ colon ∷ (w ++ closing ∷ []))) others) ∙ of.argument ls (opening ∷ ((v ++ colon ∷ (w ++ closing ∷ [])) ++ others)) ∙ bounds ls others;
  operand_ = λ ls others. ap (fits at_operand ls) (append_assoc u (opening ∷ (v ++ colon ∷ (w ++ closing ∷ []))) others) ∙ of.operand_ ls (opening ∷ ((v ++ colon ∷ (w ++ closing ∷ [])) ++ others)) ∙ bounds ls others;
})
  where
    bounds : (ls : List Bool) (others : List Symbol) → fits at_argument (true ∷ ls) ((v ++ colon ∷ (w ++ closing ∷ [])) ++ others) ≡ fits after_operand ls others
    bounds ls others =
        ap (fits at_argument (true ∷ ls)) (append_assoc v (colon ∷ (w ++ closing ∷ [])) others)
        ∙ from ls colon ((w ++ closing ∷ []) ++ others) (λ s l ls others. refl)
        ∙ ap (fits at_operand (true ∷ ls)) (append_assoc w (closing ∷ []) others)
        ∙ to ls closing others (λ s l ls others. refl)

-- a primary, where this holds of what stands in its parentheses
primary_whole : (Inner : Grammar) → AreWhole Inner → AreWhole (Primary Inner)
primary_whole Inner inner t x (primary_operand is) = one_operand t x is
primary_whole Inner inner t x (primary_reference is) = call_whole (Argument Inner) (argument_ends Inner inner) t x is
primary_whole Inner inner t x (primary_empty of is tree) = subst IsWhole (sym is) (record { argument = λ ls others. refl; operand_ = λ ls others. refl })
primary_whole Inner inner t x (primary_substring {u = u} {v = v} {w = w} {a = a} {from = from} {to = to} is of lower upper tree) =
    substring_whole t u v w is (parent_whole Inner inner u a of) (bound_ends Inner inner v from lower true).0 (bound_ends Inner inner w to upper true).1
primary_whole Inner inner t x (primary_paren {u = u} {a = a} is of tree) = subst IsWhole (sym is) (record { argument = passes; operand_ = passes })
  where
    passes : (ls : List Bool) (others : List Symbol) → fits at_argument (false ∷ ls) ((u ++ closing ∷ []) ++ others) ≡ fits after_operand ls others
    passes ls others = ap (fits at_argument (false ∷ ls)) (append_assoc u (closing ∷ []) others) ∙ (inner u a of).argument (false ∷ ls) (closing ∷ others)

-- an expression of any depth
nested_whole : (n : ℕ) → AreWhole (Nested n)
nested_whole zero t x is = absurd is
nested_whole (suc n) t x is = equivalence_whole (Primary (Nested n)) (primary_whole (Nested n) (nested_whole n)) t x is

-- the symbols of an expression may stand where they stand
pub expression_fits : (t : List Symbol) (x : Expr) → IsExpression t x → fits at_operand [] t ≡ true
expression_fits t x is = ap (fits at_operand []) (sym (append-nil t)) ∙ (nested_whole is.0 t x is.1).operand_ [] []
