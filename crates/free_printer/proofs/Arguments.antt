-- The arguments of a call, one by one, and the parts of a substring.
use Rattle.std.proofs.Common.{◌≡◌, ℕ, zero, ◌+◌, ◌<◌, ◌≤◌, List, [], ◌∷◌, ◌++◌, suc, codes, map, length, get_or, take, Option, refl, sym, ap, ◌∙◌, arith, append_assoc, length-append}
use Rattle.std.specs.Option.{option_map}
use Rattle.std.specs.Prelude.{if◌then◌else◌}
use Rattle.std.proofs.lemmas.Bool.{ne_eqb}
use Rattle.std.proofs.lemmas.List.{take_more, append-nil, length-take-le}
use Rattle.expr_tree.specs.Plain.{exprs_of, bound_of, expr_of}
use Rattle.expr_tree.specs.declared.tree.Expr.{Expr}
use Rattle.expr_tree.specs.declared.tree.Expr.TheVariants.{Substring}
use Rattle.expr_tree.proofs.Equations.{expr_substring}
use Rattle.tree90.specs.Printed.{expr_text, exprs_text, others_text, bound_text}
use Rattle.free_printer.specs.Expression.{separator}

-- the text of the arguments so far
abbrev pub arguments_text : List Expr → List ℕ
arguments_text xs = exprs_text (exprs_of (map expr_of xs))

-- the arguments behind the first, and one more
others_more : (xs : List Expr) (x : Expr)
    → others_text (exprs_of (map expr_of (xs ++ x ∷ []))) ≡ others_text (exprs_of (map expr_of xs)) ++ (codes ", " ++ expr_text (expr_of x))
others_more [] x = append-nil (codes ", " ++ expr_text (expr_of x))
others_more (y ∷ xs) x =
    let front : List ℕ = codes ", " ++ expr_text (expr_of y) in
    ap (λ (l : List ℕ). front ++ l) (others_more xs x) ∙ sym (append_assoc front (others_text (exprs_of (map expr_of xs))) (codes ", " ++ expr_text (expr_of x)))

-- a comma stands before an argument behind the first
comma : (n : ℕ) → separator (suc n) ≡ codes ", "
comma n = ap (λ b. if b then [] else codes ", ") (ne_eqb (suc n) 0 (λ e. omega (arith, e)))

-- the arguments so far, and one more
pub arguments_more : (xs : List Expr) (x : Expr)
    → arguments_text (xs ++ x ∷ []) ≡ arguments_text xs ++ (separator (length xs) ++ expr_text (expr_of x))
arguments_more [] x = append-nil (expr_text (expr_of x))
arguments_more (y ∷ xs) x =
    ap (λ (l : List ℕ). expr_text (expr_of y) ++ l) (others_more xs x)
    ∙ sym (append_assoc (expr_text (expr_of y)) (others_text (exprs_of (map expr_of xs))) (codes ", " ++ expr_text (expr_of x)))
    ∙ ap (λ (l : List ℕ). arguments_text (y ∷ xs) ++ (l ++ expr_text (expr_of x))) (sym (comma (length xs)))

-- the step of a loop that goes over arguments
pub arguments_step : (xs : List Expr) (i : ℕ) (x : Expr) (start out mid new : List ℕ)
    → x ≡ get_or xs i x → i < length xs → out ≡ start ++ arguments_text (take i xs) → mid ≡ out ++ separator i → new ≡ mid ++ expr_text (expr_of x)
    → new ≡ start ++ arguments_text (take (i + 1) xs)
arguments_step xs i x start out mid new is lt before comma_put put =
    let so_far = take i xs in
    let own = expr_text (expr_of x) in
    put
    ∙ ap (λ l. l ++ own) comma_put
    ∙ ap (λ l. (l ++ separator i) ++ own) before
    ∙ ap (λ n. ((start ++ arguments_text so_far) ++ separator n) ++ own) (sym (length-take-le i xs (omega (arith, lt))))
    ∙ regroup start (arguments_text so_far) (separator (length so_far)) own
    ∙ ap (λ (l : List ℕ). start ++ l) (sym (arguments_more so_far x))
    ∙ ap (λ y. start ++ arguments_text (so_far ++ y ∷ [])) is
    ∙ ap (λ l. start ++ arguments_text l) (sym (take_more xs i x lt))
  where
    regroup : (a b c d : List ℕ) → ((a ++ b) ++ c) ++ d ≡ a ++ (b ++ (c ++ d))
    regroup a b c d = simp append_assoc

-- ---- sizes

-- a first part of the arguments behind the first is no longer than all
others_grow : (k : ℕ) (xs : List Expr) → length (others_text (exprs_of (map expr_of (take k xs)))) ≤ length (others_text (exprs_of (map expr_of xs)))
others_grow zero xs = omega arith
others_grow (suc k) [] = omega arith
others_grow (suc k) (y ∷ xs) =
    let front : List ℕ = codes ", " ++ expr_text (expr_of y) in
    omega (arith, length-append front (others_text (exprs_of (map expr_of (take k xs)))), length-append front (others_text (exprs_of (map expr_of xs))), others_grow k xs)

-- a first part of the arguments is no longer than all
arguments_grow : (k : ℕ) (xs : List Expr) → length (arguments_text (take k xs)) ≤ length (arguments_text xs)
arguments_grow zero xs = omega arith
arguments_grow (suc k) [] = omega arith
arguments_grow (suc k) (y ∷ xs) =
    let front : List ℕ = expr_text (expr_of y) in
    omega (arith, length-append front (others_text (exprs_of (map expr_of (take k xs)))), length-append front (others_text (exprs_of (map expr_of xs))), others_grow k xs)

-- how much of the room an argument takes with the comma before it
pub record ArgumentSize (xs : List Expr) (i : ℕ) (x : Expr) : Type 0 where
  pub more : length (arguments_text (take (i + 1) xs)) ≡ length (arguments_text (take i xs)) + length (separator i) + length (expr_text (expr_of x))
  pub within : length (arguments_text (take i xs)) + length (separator i) + length (expr_text (expr_of x)) ≤ length (arguments_text xs)

pub argument_size : (xs : List Expr) (i : ℕ) (x : Expr) → x ≡ get_or xs i x → i < length xs → ArgumentSize xs i x
argument_size xs i x is lt =
    let so_far = arguments_text (take i xs) in
    let own = expr_text (expr_of x) in
    let step : (so_far ++ separator i) ++ own ≡ arguments_text (take (i + 1) xs) =
    arguments_step xs i x [] so_far (so_far ++ separator i) ((so_far ++ separator i) ++ own) is lt refl refl refl in
    let more : length (arguments_text (take (i + 1) xs)) ≡ length so_far + length (separator i) + length own =
    omega (arith, ap length step, length-append (so_far ++ separator i) own, length-append so_far (separator i)) in
    record { more = more; within = omega (arith, more, arguments_grow (i + 1) xs) }

-- how much of the room a substring takes
pub substring_size : (e a : Expr) (from to : Option Expr) → e ≡ Substring a from to
    → length (expr_text (expr_of e)) ≡ (length (expr_text (expr_of a)) + 3 + length (bound_text (bound_of (option_map expr_of from)))) + length (bound_text (bound_of (option_map expr_of to)))
substring_size e a from to is =
    let whole = ap (λ x. length (expr_text (expr_of x))) is ∙ ap (λ x. length (expr_text x)) (expr_substring a from to) in
    whole ∙ parts (expr_text (expr_of a)) (bound_text (bound_of (option_map expr_of from))) (bound_text (bound_of (option_map expr_of to)))
  where
    parts : (x y z : List ℕ) → length (x ++ codes "(" ++ y ++ codes ":" ++ z ++ codes ")") ≡ (length x + 3 + length y) + length z
    parts x y z = grind (arith, length-append)
