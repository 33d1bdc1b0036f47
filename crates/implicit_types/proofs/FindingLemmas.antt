-- Lists of findings that grow, by the expressions that they are of.
use Rattle.std.proofs.Common.{◌≡◌, Bool, true, false, List, [], ◌∷◌, ◌++◌, map, length, refl, sym, ap, ◌∙◌, append_assoc, append-nil, arith}
use Rattle.std.specs.Prelude.{ℕ, suc, not, ◌&&◌, ◌||◌, ◌==◌, zip, flat_map, Option, Some}
use Rattle.std.specs.List.{list_all, list_any}
use Rattle.std.specs.Option.{option_map}
use Rattle.std.specs.Borrow.{Bor}
use Rattle.std.proofs.lemmas.List.{length-map}
use Rattle.std.proofs.lemmas.Bool.Decides.{nat_tests}
use Rattle.text_base.specs.Values.{Kind}
use Rattle.text_base.specs.declared.refusal.Cause.TheVariants.{TypeMismatch}
use Rattle.expr_tree.specs.Plain.{expr_of, exprs_of, bound_of}
use Rattle.expr_tree.specs.declared.tree.Expr.{Expr}
use Rattle.expr_tree.specs.declared.tree.Expr.TheVariants as v
use Rattle.expr_tree.proofs.Equations.{expr_equations, expr_substring}
use Rattle.tree77.specs.StatementPlain.{dimension_of}
use Rattle.tree77.specs.declared.statement.Dimension77.{Dimension77}
use Rattle.names77.specs.Notes.{Around}
use Rattle.names77.specs.Rows.{row_in}
use Rattle.names77.specs.Views.{shown_row}
use Rattle.names77.specs.declared.table.Row.{Row}
use Rattle.names77.specs.Known.{Known, kind_in}
use Rattle.implicit_types.specs.Findings.{Finding}
use Rattle.implicit_types.specs.Operands.{may_agree, kind_of, is_apart}
use Rattle.implicit_types.specs.PartFindings.{of_name, count, any_apart, has_other_count, fits_dummies, substring_name, is_wrong_substring, expr_findings, exprs_findings, bound_findings}

-- ---- lists behind names

pub count_each : (xs : List Expr) → count (exprs_of (map expr_of xs)) ≡ length xs
count_each [] = refl
count_each (x ∷ xs) = ap suc (count_each xs)

pub apart_each : (k : Known) (kind : Kind) (xs : List Expr) → any_apart k kind (exprs_of (map expr_of xs)) ≡ list_any (λ x. is_apart k kind (expr_of x)) xs
apart_each k kind [] = refl
apart_each k kind (x ∷ xs) = ap (λ b. is_apart k kind (expr_of x) || b) (apart_each k kind xs)

-- by what the table of the code has of the array
pub other_count : (k : Known) (x : List ℕ) (xs : List Expr) (r : Row) (ds : Bor (List Dimension77)) → shown_row r ≡ row_in k.table x → r.shape ≡ Some ds
    → not (length ds.now == length xs) ≡ has_other_count k x (exprs_of (map expr_of xs))
other_count k x xs r ds told is =
    let e : (row_in k.table x).shape ≡ Some (map dimension_of ds.now) = ap (λ y. y.shape) (sym told) ∙ ap (option_map (λ b. map dimension_of b.now)) is in
    rw e (ap (λ n. not (n == length xs)) (sym (length-map ds.now dimension_of)) ∙ ap (λ n. not (length (map dimension_of ds.now) == n)) (sym (count_each xs)))

pub dummies_each : (k : Known) (ds : List (List ℕ)) (xs : List Expr)
    → fits_dummies k ds (exprs_of (map expr_of xs)) ≡ ((length ds == length xs) && list_all (λ p. may_agree (kind_in k p.0) (kind_of k (expr_of p.1))) (zip ds xs))
dummies_each k [] [] = refl
dummies_each k [] (x ∷ xs) = grind (arith, nat_tests)
dummies_each k (d ∷ ds) [] = grind (arith, nat_tests)
dummies_each k (d ∷ ds) (x ∷ xs) = grind (arith, nat_tests, dummies_each k ds xs)

pub ruleset lists = (apart_each, append_assoc, append-nil)

-- ---- expressions

pub findings_each : (k : Known) (c : Around) (whole : Bool) (xs : List Expr)
    → exprs_findings k c whole (exprs_of (map expr_of xs)) ≡ flat_map (λ x. expr_findings k c whole false (expr_of x)) xs
findings_each k c whole [] = refl
findings_each k c whole (x ∷ xs) = ap (λ fs. expr_findings k c whole false (expr_of x) ++ fs) (findings_each k c whole xs)

four : (a b c d old one two three : List Finding) → one ≡ old ++ a → two ≡ one ++ b → three ≡ two ++ c → three ++ d ≡ old ++ (a ++ (b ++ (c ++ d)))
four a b c d old one two three e f g = grind (arith, append_assoc)

-- the findings of a substring: of its name, of what has it, and of its bounds
pub substring_found : (k : Known) (c : Around) (whole is_place : Bool) (e a b : Expr) (from to : Option Expr) (old named placed bounded : List Finding) → e ≡ v.Substring a from to → b ≡ a
    → named ≡ old ++ of_name k TypeMismatch (substring_name (expr_of b)) (is_wrong_substring k (expr_of b) (bound_of (option_map expr_of from)) (bound_of (option_map expr_of to)))
    → placed ≡ named ++ expr_findings k c false true (expr_of b)
    → bounded ≡ placed ++ bound_findings k c (bound_of (option_map expr_of from))
    → bounded ++ bound_findings k c (bound_of (option_map expr_of to)) ≡ old ++ expr_findings k c whole is_place (expr_of e)
substring_found k c whole is_place e a b from to old named placed bounded is same n p f =
    four _ _ _ _ old named placed bounded n p f
    ∙ ap (λ x. old ++ expr_findings k c whole is_place x) (sym (expr_substring b from to) ∙ ap (λ x. expr_of (v.Substring x from to)) same ∙ ap expr_of (sym is))

pub ruleset steps = (findings_each, append_assoc, append-nil)

pub ruleset expr_steps = (expr_equations, append_assoc, append-nil)
