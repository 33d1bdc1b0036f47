-- Each variable is the entity of its own number, and has the place of that number.
use Rattle.std.proofs.Common.{◌≡◌, ◌≢◌, ◌⊎◌, inl, inr, ℕ, zero, suc, ◌+◌, ◌-◌, ◌<◌, ◌≤◌, ◌==◌, Bool, true, false, ◌&&◌, List, [], ◌∷◌, ◌++◌, length, get_or, map, take, replicate, All, Option, Some, None, refl, sym, ap, ◌∙◌, subst, ⊎_elim, arith}
use Rattle.std.specs.Prelude.{slice_get, flat_map, sum_by, if◌then◌else◌, unwrap_or}
use Rattle.std.specs.List.{enumerate_from}
use Rattle.std.specs.Str.{bytes_eq}
use Rattle.std.proofs.lemmas.List.{length-map, length-append, length-set, length-replicate, length-take-le, take-map, map-append, get_or-set_same, get_or-set_other, get_or-replicate, get_or_past}
use Rattle.std.proofs.lemmas.List.FromFn.{length-enumerate_from}
use Rattle.std.proofs.lemmas.List.Sums.{sum_by-cons}
use Rattle.std.proofs.lemmas.List.Elements.{All-replicate}
use Rattle.std.proofs.lemmas.Option.{slice_get_within, get_or_from_slice_get, same_Some}
use Rattle.std.proofs.lemmas.Bool.{cases_order, cases_lt, and_parts, and_from, eqb-true, eq-eqb}
use Rattle.std.proofs.lemmas.Slice.Eq.{bytes_eq-Decides}
use Rattle.text_base.specs.Values.{Value, integer, logical, string, integers, kind_of, Held, undefined, held, integer_in}
use Rattle.program77.specs.Tree.{SourceUnit, SourceProgram}
use Rattle.program77.specs.Typing.{code_variables, first_seen, variables}
use Rattle.program77.specs.Layout.{Layout, Entity, variables_from, sequence_of, entity_of, layout_of, numeric_count, entity_named}
use Rattle.program77.specs.Meaning.{Store, tagged, start77, read_at, write_at}
use Rattle.project_set.specs.MapText.{map_line_of, map_lines}
use Rattle.definition_laws.specs.Storage.{AreNamed, first_place, IsVariableOf, OneEntity, place_of, DefinedIsRead, OtherTypesAreNotRead, line_pair, pairs_of}
use Rattle.definition_laws.proofs.NameOrder.{in_order}
use Rattle.definition_laws.proofs.Places.{at_some_place, in_the_list, mapped, mapped_at, numbered, numbered_at, appended, at_left, at_right}

-- ---- names by first appearance

-- names stand in the order in which they appear
pub in_place : (xs : List (List ℕ)) (i j : ℕ) (x y : List ℕ) → i < j → slice_get (first_seen xs) i ≡ Some x → slice_get (first_seen xs) j ≡ Some y → first_place xs x < first_place xs y
in_place xs i j x y lt at_i at_j =
    subst (λ z. first_place xs z < first_place xs y) (get_or_from_slice_get (first_seen xs) i x x at_i)
    (subst (λ z. first_place xs (get_or (first_seen xs) i x) < first_place xs z) (get_or_from_slice_get (first_seen xs) j y x at_j) (in_order xs i j x lt (slice_get_within (first_seen xs) j y at_j)))

-- a name stands at one place
one_name : (xs : List (List ℕ)) (i j : ℕ) (x : List ℕ) → slice_get (first_seen xs) i ≡ Some x → slice_get (first_seen xs) j ≡ Some x → i ≡ j
one_name xs i j x at_i at_j = go (cases_order i j)
  where
    go : (i ≡ j) ⊎ ((i < j) ⊎ (j < i)) → i ≡ j
    go (inl e) = e
    go (inr (inl lt)) = absurd (omega (arith, in_place xs i j x x lt at_i at_j))
    go (inr (inr lt)) = absurd (omega (arith, in_place xs j i x x lt at_j at_i))

-- ---- the variables of all units

abbrev of_unit : ℕ → SourceUnit → List (ℕ × List ℕ)
of_unit b unit = map (λ x. (b, x)) (variables unit)

-- those of later units stand behind
abbrev Later : ℕ → SourceUnit → List SourceUnit → ℕ × List ℕ → ℕ → Type 0
Later b unit units v k = (length (of_unit b unit) ≤ k) × (slice_get (variables_from (b + 1) units) (k - length (of_unit b unit)) ≡ Some v)

record Stands (b : ℕ) (units : List SourceUnit) (v : ℕ × List ℕ) : Type 0 where
  from : b ≤ v.0
  unit : SourceUnit
  at : slice_get units (v.0 - b) ≡ Some unit
  place : ℕ
  named : slice_get (variables unit) place ≡ Some v.1

-- each stands in its unit
stands : (b : ℕ) (units : List SourceUnit) (i : ℕ) (v : ℕ × List ℕ) → slice_get (variables_from b units) i ≡ Some v → Stands b units v
stands b [] i v e = absurd cc
stands b (unit ∷ units) i v e = go (stands (b + 1) units (i - length (of_unit b unit)) v) (appended (of_unit b unit) (variables_from (b + 1) units) i v e)
  where
    go : (slice_get (variables_from (b + 1) units) (i - length (of_unit b unit)) ≡ Some v → Stands (b + 1) units v)
        → (slice_get (of_unit b unit) i ≡ Some v) ⊎ Later b unit units v i → Stands b (unit ∷ units) v
    go rest (inl at) =
        let m = mapped (λ (x : List ℕ). (b, x)) (variables unit) i v at in
        let number : b ≡ v.0 = ap (λ (p : ℕ × List ℕ). p.0) m.is in
        let first : v.0 - b ≡ 0 = omega arith in
        record { from = omega arith; unit = unit; at = ap (slice_get (unit ∷ units)) first; place = i; named = m.at ∙ ap (λ (p : ℕ × List ℕ). Some p.1) m.is }
    go rest (inr at) =
        let s = rest at.1 in
        let later : v.0 - b ≡ suc (v.0 - (b + 1)) = omega (arith, s.from) in
        record { from = omega (arith, s.from); unit = s.unit; at = ap (slice_get (unit ∷ units)) later ∙ s.at; place = s.place; named = s.named }

-- each variable stands among them
has_variable : (b : ℕ) (units : List SourceUnit) (u : ℕ) (unit : SourceUnit) (i : ℕ) (x : List ℕ) → slice_get units u ≡ Some unit → slice_get (variables unit) i ≡ Some x
    → (k : ℕ) × (slice_get (variables_from b units) k ≡ Some (b + u, x))
has_variable b [] u unit i x at named = absurd cc
has_variable b (first ∷ units) zero unit i x at named =
    let same : first ≡ unit = same_Some first unit at in
    let n : b ≡ b + 0 = omega arith in
    (i, at_left (of_unit b first) (variables_from (b + 1) units) i (b + 0, x) (mapped_at (λ (y : List ℕ). (b, y)) (variables first) i x (ap (λ (t : SourceUnit). slice_get (variables t) i) same ∙ named) ∙ ap (λ (k : ℕ). Some (k, x)) n))
has_variable b (first ∷ units) (suc u) unit i x at named =
    let rest = has_variable (b + 1) units u unit i x at named in
    let n : b + 1 + u ≡ b + suc u = omega arith in
    (length (of_unit b first) + rest.0, at_right (of_unit b first) (variables_from (b + 1) units) rest.0 (b + suc u, x) (rest.1 ∙ ap (λ (k : ℕ). Some (k, x)) n))

-- each stands once, where units have each name once
abbrev NamedOnce : List SourceUnit → Type 0
NamedOnce units = (k : ℕ) (unit : SourceUnit) → slice_get units k ≡ Some unit → variables unit ≡ first_seen (code_variables unit.code)

stands_once : (b : ℕ) (units : List SourceUnit) → NamedOnce units → (i j : ℕ) (v : ℕ × List ℕ) → slice_get (variables_from b units) i ≡ Some v → slice_get (variables_from b units) j ≡ Some v → i ≡ j
stands_once b [] once i j v at_i at_j = absurd cc
stands_once b (unit ∷ units) once i j v at_i at_j =
    go (stands_once (b + 1) units (λ k. once (suc k)) (i - length (of_unit b unit)) (j - length (of_unit b unit)) v)
    (appended (of_unit b unit) (variables_from (b + 1) units) i v at_i) (appended (of_unit b unit) (variables_from (b + 1) units) j v at_j)
  where
    number : (k : ℕ) → slice_get (of_unit b unit) k ≡ Some v → b ≡ v.0
    number k at = ap (λ (p : ℕ × List ℕ). p.0) (mapped (λ (x : List ℕ). (b, x)) (variables unit) k v at).is

    name : (k : ℕ) → slice_get (of_unit b unit) k ≡ Some v → slice_get (first_seen (code_variables unit.code)) k ≡ Some v.1
    name k at =
        let m = mapped (λ (x : List ℕ). (b, x)) (variables unit) k v at in
        ap (λ xs. slice_get xs k) (sym (once 0 unit refl)) ∙ m.at ∙ ap (λ (p : ℕ × List ℕ). Some p.1) m.is

    later : (k : ℕ) → Later b unit units v k → b + 1 ≤ v.0
    later k rest = (stands (b + 1) units _ v rest.1).from

    go : (slice_get (variables_from (b + 1) units) (i - length (of_unit b unit)) ≡ Some v → slice_get (variables_from (b + 1) units) (j - length (of_unit b unit)) ≡ Some v
        → i - length (of_unit b unit) ≡ j - length (of_unit b unit))
        → (slice_get (of_unit b unit) i ≡ Some v) ⊎ Later b unit units v i → (slice_get (of_unit b unit) j ≡ Some v) ⊎ Later b unit units v j → i ≡ j
    go rest (inl e) (inl f) = one_name (code_variables unit.code) i j v.1 (name i e) (name j f)
    go rest (inl e) (inr f) = absurd (omega (arith, number i e, later j f))
    go rest (inr e) (inl f) = absurd (omega (arith, later i e, number j f))
    go rest (inr e) (inr f) = omega (arith, e.0, f.0, rest e.1 f.1)

-- ---- entities and their places

abbrev all_of : SourceProgram → List (ℕ × List ℕ)
all_of p = variables_from 0 p.units

record IsEntity (p : SourceProgram) (k : ℕ) (e : Entity) : Type 0 where
  variable : ℕ × List ℕ
  at : slice_get (all_of p) k ≡ Some variable
  is : entity_of (k, variable) ≡ e

is_entity : (p : SourceProgram) (k : ℕ) (e : Entity) → slice_get (layout_of p).entities k ≡ Some e → IsEntity p k e
is_entity p k e at =
    let m = mapped entity_of (enumerate_from 0 (all_of p)) k e at in
    let n = numbered 0 (all_of p) k m.from m.at in
    let number : k ≡ m.from.0 = omega (arith, n.0) in
    record { variable = m.from.1; at = n.1; is = ap (λ (i : ℕ). entity_of (i, m.from.1)) number ∙ m.is }

count_all : (vs : List (ℕ × List ℕ)) → sum_by numeric_count (map sequence_of vs) ≡ length vs
count_all [] = refl
count_all (v ∷ vs) = omega (arith, sum_by-cons numeric_count (sequence_of v) (map sequence_of vs), count_all vs)

pub store_length : (p : SourceProgram) → length (start77 (layout_of p)).numbers ≡ length (all_of p)
store_length p = length-replicate (sum_by numeric_count (layout_of p).sequences) undefined ∙ count_all (all_of p)

pub place_is : (p : SourceProgram) (k : ℕ) (e : Entity) → slice_get (layout_of p).entities k ≡ Some e → place_of (layout_of p) e ≡ k
place_is p k e at =
    let i = is_entity p k e at in
    let within = slice_get_within (all_of p) k i.variable i.at in
    let before : sum_by numeric_count (take k (map sequence_of (all_of p))) ≡ k =
    ap (sum_by numeric_count) (take-map sequence_of k (all_of p)) ∙ count_all (take k (all_of p)) ∙ length-take-le k (all_of p) (omega (arith, within)) in
    ap (place_of (layout_of p)) (sym i.is) ∙ omega (arith, before)

pub within : (p : SourceProgram) (k : ℕ) (e : Entity) → slice_get (layout_of p).entities k ≡ Some e → place_of (layout_of p) e < length (start77 (layout_of p)).numbers
within p k e at = let i = is_entity p k e at in omega (arith, place_is p k e at, slice_get_within (all_of p) k i.variable i.at, store_length p)

pub all_places : (p : SourceProgram) → length (layout_of p).entities ≡ length (start77 (layout_of p)).numbers
all_places p = length-map (enumerate_from 0 (all_of p)) entity_of ∙ length-enumerate_from 0 (all_of p) ∙ sym (store_length p)

pub apart : (p : SourceProgram) (i j : ℕ) (e f : Entity) → slice_get (layout_of p).entities i ≡ Some e → slice_get (layout_of p).entities j ≡ Some f
    → place_of (layout_of p) e ≡ place_of (layout_of p) f → i ≡ j
apart p i j e f at_i at_j same = sym (place_is p i e at_i) ∙ same ∙ place_is p j f at_j

pub is_variable : (p : SourceProgram) (k : ℕ) (e : Entity) → slice_get (layout_of p).entities k ≡ Some e → IsVariableOf p e.unit e.name
is_variable p k e at =
    let i = is_entity p k e at in
    let s = stands 0 p.units k i.variable i.at in
    let number : i.variable.0 - 0 ≡ i.variable.0 = omega arith in
    subst (λ (f : Entity). IsVariableOf p f.unit f.name) i.is (record { unit = s.unit; at = ap (slice_get p.units) (sym number) ∙ s.at; named = in_the_list (variables s.unit) s.place i.variable.1 s.named })

-- an entity that is found by its unit and name
pub record IsFound (es : List Entity) (u : ℕ) (x : List ℕ) : Type 0 where
  pub index : ℕ
  pub entity : Entity
  pub at : slice_get es index ≡ Some entity
  pub in_unit : entity.unit ≡ u
  pub named : entity.name ≡ x
  pub found : entity_named es u x ≡ Some entity

-- where one of the unit has the name, one is found
finds : (es : List Entity) (u : ℕ) (x : List ℕ) (i : ℕ) (e : Entity) → slice_get es i ≡ Some e → e.unit ≡ u → e.name ≡ x → IsFound es u x
finds [] u x i e at unit name = absurd cc
finds (f ∷ es) u x i e at unit name = go (f.unit == u && bytes_eq f.name x) refl i at (λ k at_k. finds es u x k e at_k unit name)
  where
    go : (b : Bool) → (f.unit == u && bytes_eq f.name x) ≡ b → (k : ℕ) → slice_get (f ∷ es) k ≡ Some e → ((k : ℕ) → slice_get es k ≡ Some e → IsFound es u x) → IsFound (f ∷ es) u x
    go true test k at rest =
        let parts = and_parts (f.unit == u) (bytes_eq f.name x) test in
        record { index = 0; entity = f; at = refl; in_unit = eqb-true f.unit u parts.0; named = (bytes_eq-Decides f.name x).0 parts.1; found = ap (λ b. if b then Some f else entity_named es u x) test }
    go false test zero at rest =
        let same : f ≡ e = same_Some f e at in
        let other : (f.unit == u && bytes_eq f.name x) ≡ true = and_from (f.unit == u) (bytes_eq f.name x) (eq-eqb f.unit u (ap (λ (g : Entity). g.unit) same ∙ unit)) ((bytes_eq-Decides f.name x).1 (ap (λ (g : Entity). g.name) same ∙ name)) in
        let wrong : true ≡ false = sym other ∙ test in
        absurd cc
    go false test (suc k) at rest =
        let r = rest k at in
        record { index = suc r.index; entity = r.entity; at = r.at; in_unit = r.in_unit; named = r.named; found = ap (λ b. if b then Some f else entity_named es u x) test ∙ r.found }

pub is_found : (p : SourceProgram) (u : ℕ) (x : List ℕ) → IsVariableOf p u x → IsFound (layout_of p).entities u x
is_found p u x v =
    let name = at_some_place (variables v.unit) x v.named in
    let there = has_variable 0 p.units u v.unit name.0 x v.at name.1 in
    let number : 0 + u ≡ u = omega arith in
    let at : slice_get (all_of p) there.0 ≡ Some (u, x) = there.1 ∙ ap (λ (k : ℕ). Some (k, x)) number in
    finds (layout_of p).entities u x there.0 (entity_of (0 + there.0, (u, x))) (mapped_at entity_of (enumerate_from 0 (all_of p)) there.0 (0 + there.0, (u, x)) (numbered_at 0 (all_of p) there.0 (u, x) at)) refl refl

pub one_entity : (p : SourceProgram) (u : ℕ) (x : List ℕ) → AreNamed p → IsVariableOf p u x → OneEntity (layout_of p) u x
one_entity p u x names v =
    let e = is_found p u x v in
    record { index = e.index; entity = e.entity; at = e.at; in_unit = e.in_unit; named = e.named; only = λ j f at unit named. only j f at unit named e.index e.entity e.at e.in_unit e.named; found = e.found }
  where
    stands_at : (j : ℕ) (f : Entity) → slice_get (layout_of p).entities j ≡ Some f → f.unit ≡ u → f.name ≡ x → slice_get (all_of p) j ≡ Some (u, x)
    stands_at j f at unit named =
        let i = is_entity p j f at in
        let same : i.variable ≡ (u, x) = λ k. ((ap (λ (g : Entity). g.unit) i.is ∙ unit) k, (ap (λ (g : Entity). g.name) i.is ∙ named) k) in
        i.at ∙ ap Some same

    only : (j : ℕ) (f : Entity) → slice_get (layout_of p).entities j ≡ Some f → f.unit ≡ u → f.name ≡ x
        → (i : ℕ) (e : Entity) → slice_get (layout_of p).entities i ≡ Some e → e.unit ≡ u → e.name ≡ x → j ≡ i
    only j f at_j unit_f named_f i e at_i unit_e named_e =
        stands_once 0 p.units (λ k unit at. names unit (in_the_list p.units k unit at)) j i (u, x) (stands_at j f at_j unit_f named_f) (stands_at i e at_i unit_e named_e)

-- ---- the store

read_back : (p : SourceProgram) (u : ℕ) (x : List ℕ) (w : Store) (v : Value) → IsVariableOf p u x → length w.numbers ≡ length (start77 (layout_of p)).numbers
    → (tagged (layout_of p) u).read ((tagged (layout_of p) u).write w x v) x ≡ integer_in (held v)
read_back p u x w v is size =
    let e = is_found p u x is in
    let place = place_of (layout_of p) e.entity in
    ap (λ (o : Option Entity). read_at (layout_of p) (write_at (layout_of p) w o v) o) e.found
    ∙ ap integer_in (get_or-set_same w.numbers place (held v) undefined (omega (arith, size, within p e.index e.entity e.at)))

pub defined : DefinedIsRead
defined p u x w z = read_back p u x w (integer z)

pub not_read : OtherTypesAreNotRead
not_read p u x w v is size other = read_back p u x w v is size ∙ none v other
  where
    none : (v : Value) → kind_of v ≢ integers → integer_in (held v) ≡ None
    none (integer z) other = absurd (other refl)
    none (logical b) other = refl
    none (string t) other = refl

pub others : (p : SourceProgram) (u t : ℕ) (x y : List ℕ) (w : Store) (v : Value) → IsVariableOf p u x → IsVariableOf p t y → ((u ≡ t) × (x ≡ y) → ⊥)
    → (tagged (layout_of p) t).read ((tagged (layout_of p) u).write w x v) y ≡ (tagged (layout_of p) t).read w y
others p u t x y w v is_x is_y other =
    let e = is_found p u x is_x in
    let f = is_found p t y is_y in
    let differ : place_of (layout_of p) f.entity ≡ place_of (layout_of p) e.entity → ⊥ = λ same.
    let index = apart p f.index e.index f.entity e.entity f.at e.at same in
    let entity : e.entity ≡ f.entity = same_Some e.entity f.entity (sym e.at ∙ ap (slice_get (layout_of p).entities) (sym index) ∙ f.at) in
    other (sym e.in_unit ∙ ap (λ (g : Entity). g.unit) entity ∙ f.in_unit, sym e.named ∙ ap (λ (g : Entity). g.name) entity ∙ f.named) in
    ap (λ (o : Option Entity). read_at (layout_of p) (write_at (layout_of p) w o v) (entity_named (layout_of p).entities t y)) e.found
    ∙ ap (read_at (layout_of p) (write_at (layout_of p) w (Some e.entity) v)) f.found
    ∙ ap integer_in (get_or-set_other w.numbers (place_of (layout_of p) e.entity) (place_of (layout_of p) f.entity) (held v) undefined differ)
    ∙ ap (read_at (layout_of p) w) (sym f.found)

pub length_kept : (layout : Layout) (u : ℕ) (x : List ℕ) (w : Store) (v : Value) → length ((tagged layout u).write w x v).numbers ≡ length w.numbers
length_kept layout u x w v = go (entity_named layout.entities u x)
  where
    go : (o : Option Entity) → length (write_at layout w o v).numbers ≡ length w.numbers
    go None = refl
    go (Some e) = length-set w.numbers (place_of layout e) (held v)

pub undefined_at : (n i : ℕ) → get_or (replicate n undefined) i undefined ≡ undefined
undefined_at n i = ⊎_elim (λ lt. get_or-replicate n i undefined undefined lt) (λ le. get_or_past (replicate n undefined) i undefined (omega (arith, le, length-replicate n undefined))) (cases_lt i n)

pub nothing : (layout : Layout) (u : ℕ) (x : List ℕ) → (tagged layout u).read (start77 layout) x ≡ None
nothing layout u x = go (entity_named layout.entities u x)
  where
    go : (o : Option Entity) → read_at layout (start77 layout) o ≡ None
    go None = refl
    go (Some e) = ap integer_in (undefined_at (sum_by numeric_count layout.sequences) (place_of layout e))

pub start_undefined : (layout : Layout) → All (λ h. h ≡ undefined) (start77 layout).numbers
start_undefined layout = All-replicate (λ (h : Held). h ≡ undefined) (sum_by numeric_count layout.sequences) undefined refl

-- ---- the map

-- the lines of one unit
unit_lines : (names : List (List ℕ)) (b : ℕ) (home : List ℕ) → slice_get names b ≡ Some home → (xs : List (List ℕ))
    → map line_pair (map (map_line_of names) (map {B = ℕ × List ℕ} (λ x. (b, x)) xs)) ≡ map {B = List ℕ × List ℕ} (λ x. (home, x)) xs
unit_lines names b home at [] = refl
unit_lines names b home at (x ∷ xs) =
    ap (λ (o : Option (List ℕ)). (unwrap_or o [], x) ∷ map line_pair (map (map_line_of names) (map {B = ℕ × List ℕ} (λ y. (b, y)) xs))) at
    ∙ ap (λ (ps : List (List ℕ × List ℕ)). (home, x) ∷ ps) (unit_lines names b home at xs)

lines_from : (names : List (List ℕ)) (b : ℕ) (units : List SourceUnit) → ((k : ℕ) (u : SourceUnit) → slice_get units k ≡ Some u → slice_get names (b + k) ≡ Some u.name)
    → map line_pair (map (map_line_of names) (variables_from b units)) ≡ flat_map pairs_of units
lines_from names b [] at = refl
lines_from names b (unit ∷ units) at =
    let n : b ≡ b + 0 = omega arith in
    ap (map line_pair) (map-append (map_line_of names) (of_unit b unit) (variables_from (b + 1) units))
    ∙ map-append line_pair (map (map_line_of names) (of_unit b unit)) (map (map_line_of names) (variables_from (b + 1) units))
    ∙ ap (λ ps. ps ++ map line_pair (map (map_line_of names) (variables_from (b + 1) units))) (unit_lines names b unit.name (ap (slice_get names) n ∙ at 0 unit refl) (variables unit))
    ∙ ap (λ ps. pairs_of unit ++ ps) (lines_from names (b + 1) units (λ k u e. let m : b + 1 + k ≡ b + suc k = omega arith in ap (slice_get names) m ∙ at (suc k) u e))

pub map_pairs : (p : SourceProgram) → map line_pair (map_lines p) ≡ flat_map pairs_of p.units
map_pairs p =
    lines_from (map (λ (u : SourceUnit). u.name) p.units) 0 p.units (λ k u e. let n : 0 + k ≡ k = omega arith in ap (slice_get (map (λ (v : SourceUnit). v.name) p.units)) n ∙ mapped_at (λ (v : SourceUnit). v.name) p.units k u e)

count_pairs : (units : List SourceUnit) → length (flat_map pairs_of units) ≡ sum_by (λ (unit : SourceUnit). length (variables unit)) units
count_pairs [] = refl
count_pairs (unit ∷ units) =
    omega (arith, length-append (pairs_of unit) (flat_map pairs_of units), length-map {B = List ℕ × List ℕ} (variables unit) (λ x. (unit.name, x)), count_pairs units, sum_by-cons (λ (u : SourceUnit). length (variables u)) unit units)

pub count_lines : (p : SourceProgram) → length (map_lines p) ≡ sum_by (λ (unit : SourceUnit). length (variables unit)) p.units
count_lines p = sym (length-map (map_lines p) line_pair) ∙ ap length (map_pairs p) ∙ count_pairs p.units
