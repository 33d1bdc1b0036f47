-- The reading of symbols one after another as a function: levels of parentheses are open, each with what stands before it.
use Rattle.std.specs.Prelude.{pos, ℕ, Bool, true, false, not, ◌&&◌, List, [], ◌∷◌, ◌++◌, Option, Some, None, if◌then◌else◌}
use Rattle.std.specs.Option.{option_map, option_and_then}
use Rattle.text_base.specs.Trees.{BinaryOp, Expr, int, name, call, substring, paren, none, Bound, absent, at}
use Rattle.expr_tree.specs.Plain.{exprs_of}
use Rattle.tree77.specs.Expressions.{Symbol, operand, alternate, operator, not_sign, opening, closing, comma, colon, is_sum}
use Rattle.group77.specs.Grouping.{group}

-- what an open parenthesis belongs to
pub data Opening : Type 0 where
  -- an expression in parentheses
  grouping : Opening
  -- an array element, a function reference or a substring of a variable: the name, what has been read in it, and whether no
  -- alternate return specifier is among it, so that it may be an array element
  listing : List ℕ → List Expr → Bool → Opening
  -- a substring of an array element
  parting : Expr → Opening
  -- a substring of which the lower bound has been read
  bounding : Expr → Bound → Opening

-- an open parenthesis, and the operands and operators before it
pub record Level : Type 0 where
  pub before : List Symbol
  pub of : Opening

-- the open parentheses, the innermost first, the operands and operators behind it, and whether an array element stands last
pub record State : Type 0 where
  pub levels : List Level
  pub symbols : List Symbol
  pub element : Bool

-- ---- the operands and operators of one level

-- the last of them, and those before it
abbrev pub with_last : Symbol → Option (List Symbol × Symbol) → Option (List Symbol × Symbol)
with_last s None = Some ([], s)
with_last s (Some p) = Some (s ∷ p.0, p.1)

abbrev pub split_last : List Symbol → Option (List Symbol × Symbol)
split_last [] = None
split_last (s ∷ ss) = with_last s (split_last ss)

-- an operand may not stand behind it
abbrev pub ends : Symbol → Bool
ends (operand x) = true
ends alternate = true
ends _ = false

abbrev pub is_after_last : Option (List Symbol × Symbol) → Bool
is_after_last None = false
is_after_last (Some p) = ends p.1

-- an operand stands last
abbrev pub is_after : List Symbol → Bool
is_after symbols = is_after_last (split_last symbols)

-- an alternate return specifier alone
abbrev pub is_specifier : List Symbol → Bool
is_specifier (alternate ∷ []) = true
is_specifier _ = false

-- an argument or subscript
abbrev pub read_argument : List Symbol → Option Expr
read_argument (alternate ∷ []) = Some (int (pos 0))
read_argument symbols = group symbols

-- a bound of a substring
abbrev pub read_bound : List Symbol → Option Bound
read_bound [] = Some absent
read_bound (s ∷ ss) = option_map at (group (s ∷ ss))

-- ---- steps

-- these levels are open, and these symbols stand behind the innermost
abbrev pub standing : List Level → List Symbol → State
standing levels symbols = record { levels = levels; symbols = symbols; element = false }

abbrev pub push : Symbol → State → State
push s state = standing state.levels (state.symbols ++ s ∷ [])

-- an operand, behind none
abbrev pub step_operand : Expr → State → Option State
step_operand x state = if is_after state.symbols then None else Some (push (operand x) state)

-- an operator, behind an operand, or a sign
abbrev pub step_operator : BinaryOp → State → Option State
step_operator o state = if is_after state.symbols then Some (push (operator o) state) else (if is_sum o then Some (push (operator o) state) else None)

abbrev pub step_not : State → Option State
step_not state = if is_after state.symbols then None else Some (push not_sign state)

-- an alternate return specifier, which begins an argument
abbrev pub alternate_in : List Level → Opening → List Symbol → Option State
alternate_in levels (listing f xs e) [] = Some (standing levels (alternate ∷ []))
alternate_in levels _ symbols = None

abbrev pub step_alternate : List Level → List Symbol → Option State
step_alternate [] symbols = None
step_alternate (l ∷ ls) symbols = alternate_in (l ∷ ls) l.of symbols

-- a parenthesis opens: behind an array element or a name it belongs to it, behind other operands none may stand
abbrev pub open_level : List Level → List Symbol → Opening → State
open_level levels before of = standing (record { before = before; of = of } ∷ levels) []

abbrev pub behind_operand : Bool → Expr → Option Opening
behind_operand true x = Some (parting x)
behind_operand false (name f) = Some (listing f [] true)
behind_operand false x = None

abbrev pub behind_symbol : Bool → Symbol → Option Opening
behind_symbol element (operand x) = behind_operand element x
behind_symbol element s = None

abbrev pub opening_at : Bool → List Level → List Symbol → Option (List Symbol × Symbol) → Option State
opening_at element levels symbols None = Some (open_level levels symbols grouping)
opening_at element levels symbols (Some (before, s)) = if ends s then option_map (open_level levels before) (behind_symbol element s) else Some (open_level levels symbols grouping)

-- a comma ends an argument or subscript
abbrev pub comma_in : List Level → List Symbol → Opening → List Symbol → Option State
comma_in levels before (listing f xs e) symbols = option_map (λ a. open_level levels before (listing f (xs ++ a ∷ []) (e && not (is_specifier symbols)))) (read_argument symbols)
comma_in levels before _ symbols = None

abbrev pub step_comma : List Level → List Symbol → Option State
step_comma [] symbols = None
step_comma (l ∷ ls) symbols = comma_in ls l.before l.of symbols

-- what a substring that begins here is part of
abbrev pub parent_in : Opening → Option Expr
parent_in (listing f [] e) = Some (name f)
parent_in (parting a) = Some a
parent_in _ = None

-- a colon ends the lower bound of a substring
abbrev pub step_colon : List Level → List Symbol → Option State
step_colon [] symbols = None
step_colon (l ∷ ls) symbols = option_and_then (λ a. option_map (λ from. open_level ls l.before (bounding a from)) (read_bound symbols)) (parent_in l.of)

-- nothing stands in a list
abbrev pub is_bare : List Expr → List Symbol → Bool
is_bare [] [] = true
is_bare xs symbols = false

-- what a parenthesis that closes makes of its level
abbrev pub close_list : List ℕ → List Expr → List Symbol → Option Expr
close_list f xs symbols = if is_bare xs symbols then Some (call f none) else option_map (λ a. call f (exprs_of (xs ++ a ∷ []))) (read_argument symbols)

abbrev pub close_level : Opening → List Symbol → Option Expr
close_level grouping symbols = option_map paren (group symbols)
close_level (listing f xs e) symbols = close_list f xs symbols
close_level (parting a) symbols = None
close_level (bounding a from) symbols = option_map (substring a from) (read_bound symbols)

-- whether that is an array element
abbrev pub is_element : Opening → List Symbol → Bool
is_element (listing f xs e) symbols = e && (not (is_bare xs symbols) && not (is_specifier symbols))
is_element _ symbols = false

abbrev pub step_closing : List Level → List Symbol → Option State
step_closing [] symbols = None
step_closing (l ∷ ls) symbols = option_map (λ x. record { levels = ls; symbols = l.before ++ operand x ∷ []; element = is_element l.of symbols }) (close_level l.of symbols)

abbrev pub step : Symbol → State → Option State
step (operand x) s = step_operand x s
step alternate s = step_alternate s.levels s.symbols
step (operator o) s = step_operator o s
step not_sign s = step_not s
step opening s = opening_at s.element s.levels s.symbols (split_last s.symbols)
step closing s = step_closing s.levels s.symbols
step comma s = step_comma s.levels s.symbols
step colon s = step_colon s.levels s.symbols

-- ---- all symbols

-- at the end no parenthesis is open
abbrev pub finish_in : List Level → List Symbol → Option Expr
finish_in [] symbols = group symbols
finish_in (l ∷ ls) symbols = None

abbrev pub finish : State → Option Expr
finish s = finish_in s.levels s.symbols

abbrev pub build_from : State → List Symbol → Option Expr
build_from s [] = finish s
build_from s (c ∷ cs) = option_and_then (λ (next : State). build_from next cs) (step c s)

-- the expression that the symbols are
unfoldable pub build : List Symbol → Option Expr
build symbols = build_from (standing [] []) symbols
