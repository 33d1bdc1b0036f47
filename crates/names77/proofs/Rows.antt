-- The laws of grouped notes, at the names of a unit: what is said of them, and the roles that they may have.
use Rattle.std.proofs.Common.{◌≡◌, ℕ, List, [], ◌∷◌, map, refl, arith}
use Rattle.std.specs.Prelude.{Option, Some, None, is_some, unwrap_or}
use Rattle.std.specs.Option.{option_map, option_or}
use Rattle.std.specs.Str.{bytes_eq}
use Rattle.std.specs.Map.{lookup}
use Rattle.std.specs.Borrow.{Bor}
use Rattle.std.proofs.lemmas.Slice.Eq.{bytes_eq-Decides}
use Rattle.indexmap.specs.IndexMap.{insert_entry}
use Rattle.names77.specs.Grouped.{put}
use Rattle.names77.specs.Notes.{Note}
use Rattle.names77.specs.Rows.{Table, blank, with_fact, row_in, has_name, with_notes, rows_of}
use Rattle.names77.specs.Roles.{narrowed}
use Rattle.names77.specs.RoleTables.{role_note, allowed_in, with_roles, roles_of}
use Rattle.names77.specs.Views.{shown_row, shown_entry, shown_roles}
use Rattle.names77.specs.declared.table.Row.{Row}
use Rattle.names77.specs.declared.role.Allowed.{Allowed}
use Rattle.names77.specs.declared.role.Allowed.TheVariants.{Anything}
use Rattle.names77.specs.declared.roles.Roles.{Roles}
use Rattle.names77.proofs.Grouping as law

abbrev name_of : Bor (List ℕ) → List ℕ
name_of k = k.now

tests : law.Tests bytes_eq
tests x y = ((bytes_eq-Decides x y).0, (bytes_eq-Decides x y).1)

-- ---- what is said of names

pub shown_or : {A B : Type 0} (f : A → B) (o p : Option A) → option_map f (option_or o p) ≡ option_or (option_map f o) (option_map f p)
shown_or f None p = refl
shown_or f (Some x) p = refl

pub shown_some : {A B : Type 0} (f : A → B) (o : Option A) → is_some (option_map f o) ≡ is_some o
shown_some f None = refl
shown_some f (Some x) = refl

pub one_name : (ns : List Note) → with_notes [] ns ≡ rows_of ns
one_name ns = law.one_name bytes_eq tests with_fact blank ns

pub looked_up : (x : List ℕ) (es : List (Bor (List ℕ) × Row)) → row_in (map shown_entry es) x ≡ law.found_or bytes_eq name_of shown_row blank (lookup (λ k. bytes_eq x k.now) es)
looked_up x es = law.looked_up bytes_eq name_of shown_row blank x es

pub has_looked_up : (x : List ℕ) (es : List (Bor (List ℕ) × Row)) → has_name (map shown_entry es) x ≡ is_some (lookup (λ k. bytes_eq x k.now) es)
has_looked_up x es = law.has_looked_up bytes_eq name_of shown_row blank x es

pub inserted : (x : Bor (List ℕ)) (r : Row) (es : List (Bor (List ℕ) × Row))
    → map shown_entry (insert_entry (λ a b. bytes_eq a.now b.now) es x r) ≡ put bytes_eq (map shown_entry es) x.now (shown_row r)
inserted x r es = law.put_inserted bytes_eq name_of shown_row blank x r es

-- ---- roles

abbrev shown_role : Bor (List ℕ) × Allowed → List ℕ × Allowed
shown_role e = (e.0.now, e.1)

pub one_role : (t : Table) (ns : List Note) → with_roles [] (map (role_note t) ns) ≡ roles_of t ns
one_role t ns = law.one_name bytes_eq tests narrowed Anything (map (role_note t) ns)

pub role_looked_up : (r : Roles) (x : List ℕ) → allowed_in (shown_roles r) x ≡ unwrap_or (lookup (λ k. bytes_eq x k.now) r.map.entries) Anything
role_looked_up r x = found r.map.entries
  where
    found : (es : List (Bor (List ℕ) × Allowed)) → allowed_in (map shown_role es) x ≡ unwrap_or (lookup (λ k. bytes_eq x k.now) es) Anything
    found [] = refl
    found (e ∷ es) = grind (arith, found es)

pub role_inserted : (x : Bor (List ℕ)) (r : Allowed) (es : List (Bor (List ℕ) × Allowed))
    → map shown_role (insert_entry (λ a b. bytes_eq a.now b.now) es x r) ≡ put bytes_eq (map shown_role es) x.now r
role_inserted x r es = law.put_inserted bytes_eq name_of (λ a. a) Anything x r es
