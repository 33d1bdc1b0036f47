-- Objects that are defined, and the names of statements.
use Rattle.std.proofs.Common.{◌≡◌, ℕ, Bool, true, false, List, [], ◌∷◌, ◌++◌, Some, refl, sym, ap, ◌∙◌}
use Rattle.std.specs.Prelude.{ℤ, pos, flat_map, unwrap_or, if◌then◌else◌}
use Rattle.std.specs.Option.{option_and_then}
use Rattle.std.specs.Str.{bytes_eq}
use Rattle.std.proofs.lemmas.Bool.{and_parts}
use Rattle.std.proofs.lemmas.Slice.Eq.{bytes_eq-Decides}
use Rattle.text_base.specs.Names.{action_variables}
use Rattle.text_base.specs.Trees.{Action}
use Rattle.text_base.specs.Values.{Value, integer}
use Rattle.text_base.specs.declared.refusal.Place.{Place}
use Rattle.program77.specs.Tree.{simple, continue, Code, done, item}
use Rattle.program77.specs.Typing.{code_variables}
use Rattle.tree90.specs.Meaning.{Cells, Objects, is_object, cells_of, with_cells, integer_at, scalar, untagged}
use Rattle.definition_laws.specs.Statements.{actions_of}

pub names_of : (c : Code) → code_variables c ≡ flat_map (λ (q : Place × Action). action_variables q.1) (actions_of c)
names_of done = refl
names_of (item label here (simple a) rest) = ap (λ xs. action_variables a ++ xs) (names_of rest)
names_of (item label here continue rest) = names_of rest

-- an object that is there has the places that it is given
cells_given : (home x : List ℕ) (w : Objects) (cells new : Cells) → cells_of w home x ≡ Some cells → cells_of (with_cells w home x new) home x ≡ Some new
cells_given home x [] cells new e = absurd cc
cells_given home x (o ∷ os) cells new e = go (is_object home x o) refl e (cells_given home x os cells new)
  where
    go : (b : Bool) → is_object home x o ≡ b → (if b then Some o.cells else cells_of os home x) ≡ Some cells → (cells_of os home x ≡ Some cells → cells_of (with_cells os home x new) home x ≡ Some new)
        → cells_of (if b then record o { cells = new } ∷ os else o ∷ with_cells os home x new) home x ≡ Some new
    go true is e rest = ap (λ b. if b then Some new else cells_of os home x) is
    go false is e rest = ap (λ b. if b then Some o.cells else cells_of (with_cells os home x new) home x) is ∙ rest e

pub object_read : (home x : List ℕ) (w : Objects) (cells : Cells) (z : ℤ) → cells_of w home x ≡ Some cells → (untagged home).read ((untagged home).write w x (integer z)) x ≡ Some (integer z)
object_read home x w cells z e = ap (λ o. Some (integer (unwrap_or (option_and_then (integer_at 1) o) (pos 0)))) (cells_given home x w cells (scalar (integer z)) e)

cells_kept : (home other x y : List ℕ) (w : Objects) (new : Cells) → ((home ≡ other) × (x ≡ y) → ⊥) → cells_of (with_cells w home x new) other y ≡ cells_of w other y
cells_kept home other x y [] new differ = refl
cells_kept home other x y (o ∷ os) new differ = go (is_object home x o) refl (is_object other y o) refl (cells_kept home other x y os new differ)
  where
    go : (b : Bool) → is_object home x o ≡ b → (c : Bool) → is_object other y o ≡ c → cells_of (with_cells os home x new) other y ≡ cells_of os other y
        → cells_of (if b then record o { cells = new } ∷ os else o ∷ with_cells os home x new) other y ≡ (if is_object other y o then Some o.cells else cells_of os other y)
    go true is true that rest =
        let here = and_parts (bytes_eq o.home home) (bytes_eq o.name x) is in
        let there = and_parts (bytes_eq o.home other) (bytes_eq o.name y) that in
        absurd (differ (sym ((bytes_eq-Decides o.home home).0 here.0) ∙ (bytes_eq-Decides o.home other).0 there.0, sym ((bytes_eq-Decides o.name x).0 here.1) ∙ (bytes_eq-Decides o.name y).0 there.1))
    go true is false that rest =
        ap (λ b. if b then Some new else cells_of os other y) that ∙ sym (ap (λ b. if b then Some o.cells else cells_of os other y) that)
    go false is c that rest = ap (λ r. if is_object other y o then Some o.cells else r) rest

pub object_kept : (home other x y : List ℕ) (w : Objects) (v : Value) → ((home ≡ other) × (x ≡ y) → ⊥) → cells_of ((untagged home).write w x v) other y ≡ cells_of w other y
object_kept home other x y w v differ = cells_kept home other x y w (scalar v) differ
