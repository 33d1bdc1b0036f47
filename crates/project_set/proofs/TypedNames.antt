-- What the statements of a converted unit say of its names, and the roles and types that these have.
use Rattle.std.proofs.Common.{◌≡◌, ℕ, Bool, true, false, not, ◌&&◌, ◌||◌, List, [], ◌∷◌, ◌++◌, map, filter, fold, flat_map, Contains, bytes_eq, is_some, Some, None, refl, ap, ◌∙◌, arith}
use Rattle.std.specs.List.{list_all, list_any}
use Rattle.std.proofs.lemmas.Bool.{and_parts, false≢true, not_from_false}
use Rattle.std.proofs.lemmas.List.{map-append}
use Rattle.std.proofs.lemmas.List.Elements.{All-weaker, filter_passes, filter-append, Contains-append_right, All-contains, All-contains_itself}
use Rattle.std.proofs.lemmas.List.Folds.{list_all-append, list_all-map, list_any_at}
use Rattle.std.proofs.lemmas.List.Sums.{AllPass-from_list_all, list_all-from_AllPass}
use Rattle.std.proofs.lemmas.Slice.Eq.{bytes_eq-Decides}
use Rattle.text_base.specs.Names.{expr_variables, exprs_variables, expr_functions, exprs_functions}
use Rattle.text_base.specs.Operators.{intrinsic}
use Rattle.text_base.specs.Values.{integers}
use Rattle.text_base.specs.ExpressionKinds.{are_same}
use Rattle.text_base.specs.Trees.{Expr, int, name, call, unary, binary, paren, Exprs, none, more}
use Rattle.tree77.specs.Statements as s
use Rattle.order77.specs.Naming.{own_names, name_or_main}
use Rattle.unit77.specs.Programs.{ProgramUnit}
use Rattle.unit77.specs.Tree.{Line, Items, done, simple, flat}
use Rattle.names77.specs.declared.role.Role.{Role}
use Rattle.names77.specs.declared.role.Role.TheVariants as role
use Rattle.names77.specs.declared.role.Allowed.{Allowed}
use Rattle.names77.specs.declared.role.Allowed.TheVariants.{Anything, Valued, Definable, Only}
use Rattle.names77.specs.Text.{merged, text_of}
use Rattle.names77.specs.Notes.{Fact, titled, valued, variable, referred, given_to, head_notes, Note, note, elsewhere, expr_notes, exprs_notes, statement_notes, notes_of}
use Rattle.names77.specs.Grouped.{Said, facts_about, row_about, first_seen as keys_seen, look_up_or}
use Rattle.names77.specs.Rows.{Row, blank, with_fact, Table, row_in}
use Rattle.names77.specs.Roles.{is_role, allows, narrowed, first_role}
use Rattle.names77.specs.RoleTables.{referred_as, allowed_as, RoleNote, role_note}
use Rattle.names77.specs.Types.{initials_of, statement_initials}
use Rattle.names77.specs.Known.{Known, role_in, kind_in, is_real}
use Rattle.implicit_types.specs.Typing.{Entity, row_entities}
use Rattle.implicit_types.specs.TypingLaws.{TypedUnits, of_unit}
use Rattle.program77.specs.Built.{built_of}
use Rattle.program77.specs.Plain.{is_step, is_converted_header, are_converted, is_none, is_converted, stmt_of, code_of, source_unit}
use Rattle.program77.specs.Typing.{is_variable_kind, stmt_variables, code_variables, stmt_functions, code_functions, first_seen}
use Rattle.project_set.specs.Refusals.{gives_integer_of, is_built, are_built}
use Rattle.project_set.proofs.RefusalLemmas.{is_built_stmt, are_built_actions}
use Rattle.project_set.proofs.TypedForms.{unit_variables, Converted, VariablesAreNames, VariablesAreIntegers, NamesAreApart, FunctionsAreApart}

-- ---- what a test leaves of a list

filters_commute : {A : Type 0} (p q : A → Bool) (xs : List A) → filter p (filter q xs) ≡ filter q (filter p xs)
filters_commute p q [] = refl
filters_commute p q (x ∷ xs) = grind (arith, filters_commute p q xs)

all_weaker : {A : Type 0} (p q : A → Bool) → ((x : A) → p x ≡ true → q x ≡ true) → (xs : List A) → list_all p xs ≡ true → list_all q xs ≡ true
all_weaker p q w xs h = list_all-from_AllPass q xs (All-weaker (λ x. p x ≡ true) (λ x. q x ≡ true) w xs (AllPass-from_list_all p xs h))

all_filtered : {A : Type 0} (p q : A → Bool) → ((x : A) → p x ≡ true → q x ≡ true) → (xs : List A) → list_all q (filter p xs) ≡ true
all_filtered p q w xs = list_all-from_AllPass q (filter p xs) (All-weaker (λ x. p x ≡ true) (λ x. q x ≡ true) w (filter p xs) (filter_passes p xs))

-- a test that each element passes
pub each : {A : Type 0} (p : A → Bool) (xs : List A) → ((x : A) → Contains xs x → p x ≡ true) → list_all p xs ≡ true
each p xs h = list_all-from_AllPass p xs (All-weaker (Contains xs) (λ x. p x ≡ true) h xs (All-contains_itself xs))

-- a name that the test leaves out is none of those that it leaves
out_of : (p : List ℕ → Bool) (x : List ℕ) → p x ≡ false → (xs : List (List ℕ)) → list_all (λ y. not (bytes_eq x y)) (filter p xs) ≡ true
out_of p x e xs = all_filtered p (λ y. not (bytes_eq x y)) (λ y h. grind (arith, (bytes_eq-Decides x y).0)) xs

none_in : (p : List ℕ → Bool) (x : List ℕ) → p x ≡ false → (xs : List (List ℕ)) → not (list_any (bytes_eq x) (filter p xs)) ≡ true
none_in p x e [] = refl
none_in p x e (y ∷ ys) = grind (arith, (bytes_eq-Decides x y).0, none_in p x e ys)

left_out : (p : List ℕ → Bool) (x : List ℕ) → p x ≡ false → (xs : List (List ℕ)) → filter p (filter (λ y. not (bytes_eq x y)) xs) ≡ filter p xs
left_out p x e [] = refl
left_out p x e (y ∷ ys) = grind (arith, left_out p x e ys, (bytes_eq-Decides x y).0)

seen_filtered : (p : List ℕ → Bool) (xs : List (List ℕ)) → filter p (keys_seen bytes_eq xs) ≡ first_seen (filter p xs)
seen_filtered p [] = refl
seen_filtered p (x ∷ xs) = grind (arith, seen_filtered p xs, left_out p x, filters_commute p (λ y. not (bytes_eq x y)) (keys_seen bytes_eq xs))

-- what holds of each row of a table
module _ {F R : Type 0} (add : R → F → R) (p : R → Bool) (q : Said (List ℕ) F → Bool) (step : (r : R) (m : Said (List ℕ) F) → p r ≡ true → q m ≡ true → p (add r m.fact) ≡ true) where
  kept : (x : List ℕ) (r : R) (ns : List (Said (List ℕ) F)) → p r ≡ true → list_all q ns ≡ true → p (fold add r (facts_about bytes_eq x ns)) ≡ true
  kept x r [] h e = h
  kept x r (m ∷ ns) h e = grind (arith, kept x r ns, kept x (add r m.fact) ns, step r m)

  of_rows : (b : R) (ns : List (Said (List ℕ) F)) → p b ≡ true → list_all q ns ≡ true → (xs : List (List ℕ)) (x : List ℕ) → p (look_up_or bytes_eq b (map (λ y. (y, row_about bytes_eq add b y ns)) xs) x) ≡ true
  of_rows b ns h e [] x = h
  of_rows b ns h e (y ∷ ys) x = grind (arith, kept y b ns h e, of_rows b ns h e ys x)

-- ---- what the statements say of names

-- the notes of a converted unit
abbrev is_fact : List ℕ → Fact → Bool
is_fact x titled = true
is_fact x variable = true
is_fact x valued = true
is_fact x (referred c) = is_some (intrinsic x)
is_fact x (given_to f) = is_some (intrinsic f)
is_fact x _ = false

abbrev is_plain : Note → Bool
is_plain m = is_fact m.key m.fact

-- the roles that they give
abbrev allowed_of : Fact → Allowed
allowed_of titled = Only role.Unit
allowed_of (referred c) = Only role.Intrinsic
allowed_of variable = Definable
allowed_of f = Valued

abbrev says_role : Role → Note → Bool
says_role r m = is_role r (first_role (allowed_of m.fact))

abbrev keys : List Note → List (List ℕ)
keys ns = map (λ (m : Note). m.key) ns

-- the names that a test leaves are those of the notes that another leaves
keys_filtered : (p : List ℕ → Bool) (q : Note → Bool) (ns : List Note) → ((m : Note) → Contains ns m → p m.key ≡ q m) → filter p (keys ns) ≡ keys (filter q ns)
keys_filtered p q [] each = refl
keys_filtered p q (m ∷ ns) each = grind (arith, each m (0, omega arith, refl), keys_filtered p q ns (λ o i. each o (Contains-append_right (m ∷ []) ns o i)))

-- the names that some notes are about
record Says (ns : List Note) (xs fs : List (List ℕ)) : Type 0 where
  plain : list_all is_plain ns ≡ true
  variables : keys (filter (says_role role.Variable) ns) ≡ xs
  functions : keys (filter (says_role role.Intrinsic) ns) ≡ fs

joined : {ns ms : List Note} {xs ys fs gs : List (List ℕ)} → Says ns xs fs → Says ms ys gs → Says (ns ++ ms) (xs ++ ys) (fs ++ gs)
joined {ns} {ms} a b = record { plain = rw (list_all-append is_plain ns ms, a.plain) b.plain; variables = rw (filter-append, map-append, a.variables, b.variables) refl; functions = rw (filter-append, map-append, a.functions, b.functions) refl }

-- a function of integers is an intrinsic one
is_known : (f : List ℕ) → (gives_integer_of f 1 || gives_integer_of f 2) ≡ true → is_some (intrinsic f) ≡ true
is_known f h = grind (arith, h)

-- of an expression that is a value, or an argument of an intrinsic function
abbrev is_operand : Fact → Bool
is_operand valued = true
is_operand (given_to f) = is_some (intrinsic f)
is_operand _ = false

mutual
  expr_says : (f : Fact) (e : Expr) → is_operand f ≡ true → is_built e ≡ true → Says (expr_notes elsewhere f e) (expr_variables e) (expr_functions e)
  expr_says f (int v) h b = record { plain = refl; variables = refl; functions = refl }
  expr_says f (name x) h b = record { plain = grind (arith, h); variables = grind (arith, h); functions = grind (arith, h) }
  expr_says f (call x es) h b =
      let p = and_parts _ _ b in let k = is_known x p.0 in
      joined {ns = head_notes elsewhere x f} {xs = []} {fs = x ∷ []} (record { plain = grind (arith, h, k); variables = grind (arith, h); functions = grind (arith, h) }) (exprs_says (given_to x) es k p.1)
  expr_says f (unary op a) h b = expr_says valued a refl (and_parts _ _ b).1
  expr_says f (binary op a c) h b = let p = and_parts _ _ (and_parts _ _ b).1 in joined (expr_says valued a refl p.0) (expr_says valued c refl p.1)
  expr_says f (paren a) h b = expr_says valued a refl b
  expr_says f _ h b = absurd (false≢true b)

  exprs_says : (f : Fact) (es : Exprs) → is_operand f ≡ true → are_built es ≡ true → Says (exprs_notes elsewhere f es) (exprs_variables es) (exprs_functions es)
  exprs_says f none h b = record { plain = refl; variables = refl; functions = refl }
  exprs_says f (more e es) h b = let p = and_parts _ _ b in joined (expr_says f e h p.0) (exprs_says f es h p.1)

statement_says : (a : s.Statement) → is_step (built_of a) ≡ true → is_built_stmt (stmt_of a) ≡ true → Says (statement_notes a) (stmt_variables (stmt_of a)) (stmt_functions (stmt_of a))
statement_says (s.simple (s.assign (name v) e)) h b = joined {ns = note v variable ∷ []} (record { plain = refl; variables = refl; functions = refl }) (expr_says valued e refl b)
statement_says (s.simple s.continue) h b = record { plain = refl; variables = refl; functions = refl }
statement_says (s.simple (s.stop None)) h b = record { plain = refl; variables = refl; functions = refl }
statement_says (s.header (s.program x)) h b = absurd (false≢true h)
statement_says _ h b = absurd (false≢true h)

items_say : (is : Items) → are_converted is ≡ true → are_built_actions (code_of is) ≡ true → Says (notes_of (flat is)) (code_variables (code_of is)) (code_functions (code_of is))
items_say done h b = record { plain = refl; variables = refl; functions = refl }
items_say (simple l is) h b =
    let p = and_parts _ _ h in let q = and_parts _ _ b in joined (statement_says l.statement (and_parts _ _ p.0).1 q.0) (items_say is p.1 q.1)
items_say _ h b = absurd (false≢true h)

-- they say nothing of first letters
items_initials : (is : Items) → are_converted is ≡ true → initials_of (flat is) ≡ []
items_initials done h = refl
items_initials (simple l is) h = let p = and_parts _ _ h in ap (λ xs. xs ++ initials_of (flat is)) (step_initials l.statement (and_parts _ _ p.0).1) ∙ items_initials is p.1
  where
    step_initials : (a : s.Statement) → is_step (built_of a) ≡ true → statement_initials a ≡ []
    step_initials (s.declared d) h = absurd (false≢true h)
    step_initials _ h = refl
items_initials _ h = absurd (false≢true h)

-- the text of a unit that is converted: its header, which says its name, and its statements
pub record ConvertedText (unit : ProgramUnit) : Type 0 where
  pub text : text_of unit ≡ unit.headers ++ flat unit.items
  pub converted : are_converted unit.items ≡ true
  pub notes : notes_of (text_of unit) ≡ note (source_unit unit).name titled ∷ notes_of (flat unit.items)
  pub initials : initials_of (text_of unit) ≡ []

without : (ds fs ls : List Line) → is_none ds ≡ true → is_none fs ≡ true → merged (merged ds fs) ls ≡ ls
without ds fs ls d f = grind (arith, d, f)

header_said : (hs ls : List Line) → is_converted_header hs ≡ true → notes_of (hs ++ ls) ≡ note (name_or_main (flat_map (λ (l : Line). own_names l.statement) hs)) titled ∷ notes_of ls
header_said hs ls h = grind (arith, h)

header_initials : (hs ls : List Line) → is_converted_header hs ≡ true → initials_of (hs ++ ls) ≡ initials_of ls
header_initials hs ls h = grind (arith, h)

pub unit_text : (unit : ProgramUnit) → is_converted unit ≡ true → ConvertedText unit
unit_text unit h =
    let p = and_parts _ _ h in let q = and_parts _ _ p.1 in let r = and_parts _ _ q.1 in let is = (and_parts _ _ r.1).0 in
    let text : text_of unit ≡ unit.headers ++ flat unit.items = ap (λ ls. unit.headers ++ ls) (without unit.declared unit.functions (flat unit.items) q.0 r.0) in
    record {
      text = text;
      converted = is;
      notes = ap notes_of text ∙ header_said unit.headers (flat unit.items) p.0;
      initials = ap initials_of text ∙ header_initials unit.headers (flat unit.items) p.0 ∙ items_initials unit.items is;
    }

unit_says : (unit : ProgramUnit) → Converted unit → Says (notes_of (text_of unit)) (code_variables (code_of unit.items)) (code_functions (code_of unit.items))
unit_says unit c = let t = unit_text unit c.converted in rw t.notes (joined {ns = note (source_unit unit).name titled ∷ []} (record { plain = refl; variables = refl; functions = refl }) (items_say unit.items t.converted c.built))

-- ---- the roles of names

-- what no row of such a unit has
abbrev pub is_bare : Row → Bool
is_bare r = not (is_some r.typed) && (not (is_some r.shape) && (not (is_some r.dummies) && (not r.is_result && (not r.is_intrinsic && not r.is_external))))

pub bare_rows : (unit : ProgramUnit) → Converted unit → (x : List ℕ) → is_bare (row_in (of_unit unit).table x) ≡ true
bare_rows unit c = of_rows with_fact is_bare is_plain (λ r m h k. grind (arith, h, k)) blank (notes_of (text_of unit)) refl (unit_says unit c).plain (keys_seen bytes_eq (keys (notes_of (text_of unit))))

-- the roles that names of such a unit have
abbrev is_settled : Role → Bool
is_settled r = list_any (is_role r) (role.Variable ∷ role.Unit ∷ role.Intrinsic ∷ [])

-- a name that something is said of stands elsewhere than as a dummy of a statement function
first_stands : (m : Note) → is_plain m ≡ true → (with_fact blank m.fact).stands ≡ true
first_stands m h = grind (arith, h)

stays : (r : Row) (m : Note) → r.stands ≡ true → is_plain m ≡ true → (with_fact r m.fact).stands ≡ true
stays r m h k = grind (arith, h)

stood : (x : List ℕ) (ns : List Note) → list_all is_plain ns ≡ true → list_any (λ (m : Note). bytes_eq x m.key) ns ≡ true → (row_about bytes_eq with_fact blank x ns).stands ≡ true
stood x [] h e = absurd (false≢true e)
stood x (m ∷ ns) h e = grind (arith, stood x ns, first_stands m, kept with_fact (λ r. r.stands) is_plain stays x (with_fact blank m.fact) ns)

-- what a fact allows in such a unit
settles : (t : Table) → ((x : List ℕ) → is_some (intrinsic x) ≡ true → referred_as x (row_in t x) ≡ Only role.Intrinsic) → (m : Note) → is_plain m ≡ true → allowed_as t m.key m.fact ≡ allowed_of m.fact
settles t known m h = grind (arith, h, known)

-- where the role is settled and allowed by a fact, it is the one that the fact gives
one_role : (r : Role) (f : Fact) → is_settled r ≡ true → allows (allowed_of f) r ≡ true → r ≡ first_role (allowed_of f)
one_role r f h e = grind (arith, h, e)

-- the variables among the entities
all_shown : (k : Known) (row : List ℕ → Row) (xs : List (List ℕ))
    → map (λ (e : Entity). e.name) (filter (λ (e : Entity). is_variable_kind e.kind) (flat_map (row_entities k) (map (λ x. (x, row x)) xs)))
    ≡ filter (λ x. (row x).stands && is_role role.Variable (role_in k x)) xs
all_shown k row [] = refl
all_shown k row (x ∷ xs) = grind (arith, all_shown k row xs)

not_both : (b : Bool) (r : Role) → is_role role.Intrinsic r ≡ true → (b && is_role role.Variable r) ≡ false
not_both b r h = grind (arith, h)

-- what holds of the names of all notes
filter_pass : (p q : List ℕ → Bool) (xs : List (List ℕ)) → list_all p xs ≡ true → list_all p (filter q xs) ≡ true
filter_pass p q [] h = refl
filter_pass p q (x ∷ xs) h = grind (arith, h, filter_pass p q xs)

seen_pass : (p : List ℕ → Bool) (xs : List (List ℕ)) → list_all p xs ≡ true → list_all p (keys_seen bytes_eq xs) ≡ true
seen_pass p [] h = refl
seen_pass p (x ∷ xs) h = grind (arith, h, seen_pass p xs, filter_pass p (λ y. not (bytes_eq x y)) (keys_seen bytes_eq xs))

-- the type of a variable that has none of its own, where nothing is said of first letters and it isn't real
integer_name : (k : Known) (x : List ℕ) → k.initials ≡ [] → is_bare (row_in k.table x) ≡ true → is_role role.Variable (role_in k x) ≡ true → not (is_real k x) ≡ true → kind_in k x ≡ Some integers
integer_name k x i t r n = grind (arith, i, t, r, n)

abbrev is_integer : Entity → Bool
is_integer e = not (is_variable_kind e.kind) || are_same e.scalar (Some integers)

all_integers : (k : Known) (row : List ℕ → Row) → ((x : List ℕ) → is_role role.Variable (role_in k x) ≡ true → not (is_real k x) ≡ true → kind_in k x ≡ Some integers)
    → (xs : List (List ℕ)) → list_all (λ x. not (is_real k x)) xs ≡ true → list_all is_integer (flat_map (row_entities k) (map (λ x. (x, row x)) xs)) ≡ true
all_integers k row known [] h = refl
all_integers k row known (x ∷ xs) h = grind (arith, h, all_integers k row known xs, known x)

module _ (typed : TypedUnits) (unit : ProgramUnit) (c : Converted unit) where
  abbrev notes : List Note
  notes = notes_of (text_of unit)

  abbrev is_variable : List ℕ → Bool
  is_variable x = (row_about bytes_eq with_fact blank x notes).stands && is_role role.Variable (role_in (of_unit unit) x)

  abbrev is_function : List ℕ → Bool
  is_function x = is_role role.Intrinsic (role_in (of_unit unit) x)

  allowed : (m : Note) → is_plain m ≡ true → allowed_as (of_unit unit).table m.key m.fact ≡ allowed_of m.fact
  allowed = settles (of_unit unit).table (λ x i. grind (arith, i, bare_rows unit c x))

  settled : (x : List ℕ) → is_settled (role_in (of_unit unit) x) ≡ true
  settled x = of_rows narrowed (λ a. is_settled (first_role a)) (λ (m : RoleNote). is_settled (first_role m.fact)) (λ a m h i. grind (arith, h, i)) Anything (map (role_note (of_unit unit).table) notes) refl
      (list_all-map (λ (m : RoleNote). is_settled (first_role m.fact)) (role_note (of_unit unit).table) notes ∙ all_weaker is_plain _ (λ m h. grind (arith, allowed m h)) notes (unit_says unit c).plain) _ x

  role_is : (m : Note) → Contains notes m → role_in (of_unit unit) m.key ≡ first_role (allowed_of m.fact)
  role_is m i =
      let h = All-contains (λ o. is_plain o ≡ true) notes m (AllPass-from_list_all is_plain notes (unit_says unit c).plain) i in
      one_role (role_in (of_unit unit) m.key) m.fact (settled m.key) (rw (← allowed m h) (typed.0 unit c.accepted m i))

  title : role_in (of_unit unit) (source_unit unit).name ≡ role.Unit
  title = role_is (note (source_unit unit).name titled) (rw (unit_text unit c.converted).notes (0, omega arith, refl))

  seen : unit_variables unit ≡ filter is_variable (keys_seen bytes_eq (keys notes))
  seen = all_shown (of_unit unit) (λ x. row_about bytes_eq with_fact blank x notes) (keys_seen bytes_eq (keys notes))

  the_variables : filter is_variable (keys notes) ≡ code_variables (code_of unit.items)
  the_variables = keys_filtered is_variable (says_role role.Variable) notes (λ m i. rw (stood m.key notes (unit_says unit c).plain (list_any_at (λ (o : Note). bytes_eq m.key o.key) notes i.0 m i.1 (rw i.2 ((bytes_eq-Decides m.key m.key).1 refl))), role_is m i) refl) ∙ (unit_says unit c).variables

  the_functions : filter is_function (keys notes) ≡ code_functions (code_of unit.items)
  the_functions = keys_filtered is_function (says_role role.Intrinsic) notes (λ m i. ap (is_role role.Intrinsic) (role_is m i)) ∙ (unit_says unit c).functions

  named : unit_variables unit ≡ first_seen (code_variables (code_of unit.items))
  named = seen ∙ seen_filtered is_variable (keys notes) ∙ ap first_seen the_variables

  apart : (list_all (λ x. not (bytes_eq (source_unit unit).name x)) (code_variables (code_of unit.items)) ≡ true) × (list_all (λ f. not (bytes_eq (source_unit unit).name f)) (code_functions (code_of unit.items)) ≡ true)
  apart = (rw (← the_variables) (out_of is_variable (source_unit unit).name (grind (arith, title)) (keys notes)), rw (← the_functions) (out_of is_function (source_unit unit).name (rw title refl) (keys notes)))

  functions_apart : list_all (λ f. not (list_any (bytes_eq f) (unit_variables unit))) (code_functions (code_of unit.items)) ≡ true
  functions_apart = rw (← the_functions, seen) (all_filtered is_function _ (λ f h. none_in is_variable f (not_both _ (role_in (of_unit unit) f) h) (keys_seen bytes_eq (keys notes))) (keys notes))

  integers_alone : list_all is_integer (source_unit unit).entities ≡ true
  integers_alone =
      let unreal : List ℕ → Bool = λ x. not (is_real (of_unit unit) x) in
      all_integers (of_unit unit) (λ x. row_about bytes_eq with_fact blank x notes) (λ x. integer_name (of_unit unit) x (unit_text unit c.converted).initials (bare_rows unit c x)) (keys_seen bytes_eq (keys notes))
      (seen_pass unreal (keys notes) (list_all-map unreal (λ (m : Note). m.key) notes ∙ each (λ (m : Note). unreal m.key) notes (λ m i. not_from_false _ (typed.1 unit c.accepted m i))))

pub names_agree : TypedUnits → VariablesAreNames × NamesAreApart × FunctionsAreApart
names_agree t = (named t, apart t, functions_apart t)

pub variables_are_integers : TypedUnits → VariablesAreIntegers
variables_are_integers t unit c e there is =
    let known = All-contains (λ e. is_integer e ≡ true) (source_unit unit).entities e (AllPass-from_list_all is_integer (source_unit unit).entities (integers_alone t unit c)) there in grind (arith, known, is)
