-- The statements of a converted unit are typed.
use Rattle.std.proofs.Common.{◌≡◌, ℕ, Bool, true, false, not, ◌||◌, List, [], ◌∷◌, ◌++◌, length, zero, suc, Option, Some, None, refl, sym, ap, ◌∙◌, arith}
use Rattle.std.specs.Prelude.{◌==◌, nat_le, replicate, filter}
use Rattle.std.specs.Option.{option_and_then}
use Rattle.std.specs.List.{list_all, list_any, Contains}
use Rattle.std.specs.Str.{bytes_eq}
use Rattle.std.proofs.lemmas.Bool.{false≢true, and_parts, eqb-true, not-true, not_from_false}
use Rattle.std.proofs.lemmas.Cmp.{nat_list_eq_equiv}
use Rattle.std.proofs.lemmas.List.{length-replicate}
use Rattle.std.proofs.lemmas.List.Elements.{Contains-append_left, Contains-append_right, Contains-push}
use Rattle.std.proofs.lemmas.List.Folds.{list_all-append}
use Rattle.std.proofs.lemmas.Map.Views.{list_any-from_Contains, any-filter_same}
use Rattle.std.proofs.lemmas.Slice.Eq.{bytes_eq-Decides}
use Rattle.text_base.specs.Trees.{Expr, int, name, call, unary, binary, paren, Exprs, none, more}
use Rattle.text_base.specs.Values.{Kind, integers}
use Rattle.text_base.specs.Names.{expr_variables, exprs_variables, expr_functions, exprs_functions}
use Rattle.text_base.specs.Operations.{is_kind, from_integer, from_integers, from_two_or_more, outcome_kind}
use Rattle.text_base.specs.Operators.{unary_op, intrinsic}
use Rattle.text_base.specs.ExpressionKinds.{are_same, kind_of_expr, kinds_of_exprs}
use Rattle.text_base.specs.declared.operation.Op.{Op}
use Rattle.text_base.specs.declared.operation.Op.TheVariants as op
use Rattle.tree77.specs.Statements as s
use Rattle.tree77.specs.Statements.{Statement, simple}
use Rattle.unit77.specs.Tree as u
use Rattle.unit77.specs.Tree.{Line, Items, flat}
use Rattle.names77.specs.Notes.{elsewhere, Fact, titled, valued, given_to, Note, note, expr_notes, exprs_notes, statement_notes, line_notes, notes_of}
use Rattle.names77.specs.declared.role.Role.TheVariants.{Intrinsic}
use Rattle.names77.specs.declared.role.Allowed.TheVariants.{Only}
use Rattle.names77.specs.RoleTables.{referred_as}
use Rattle.names77.specs.Rows.{Row, row_in}
use Rattle.names77.specs.Text.{text_of}
use Rattle.names77.specs.Known.{Known, is_real}
use Rattle.implicit_types.specs.Operands.{is_count, count_of, takes, kinds_of}
use Rattle.implicit_types.specs.PartFindings.{list_findings, expr_findings, exprs_findings, statement_findings, variable_findings, value_findings, takes_arrays}
use Rattle.implicit_types.specs.TypingLaws.{TypedUnits, of_unit}
use Rattle.program77.specs.Plain.{are_converted, stmt_of, code_of, source_unit}
use Rattle.program77.specs.Typing.{code_variables, code_functions, stmt_variables, stmt_functions, first_seen, is_typed_code, is_typed_stmt}
use Rattle.project_set.specs.Refusals.{gives_integer_of, is_sign, is_arithmetic, is_built, are_built}
use Rattle.project_set.proofs.RefusalLemmas.{is_built_stmt, are_built_actions}
use Rattle.project_set.proofs.TypedNames.{each, is_bare, bare_rows, unit_text}
use Rattle.project_set.proofs.TypedForms.{unit_variables, kind_among, VariablesAreNames, FunctionsAreApart, StatementsAreTyped}

-- ---- lists

halves : {X : Type 0} (p : X → Bool) (xs ys : List X) → list_all p (xs ++ ys) ≡ true → (list_all p xs ≡ true) × (list_all p ys ≡ true)
halves p xs ys e = and_parts (list_all p xs) (list_all p ys) (sym (list_all-append p xs ys) ∙ e)

both_none : {X : Type 0} (xs ys : List X) → xs ++ ys ≡ [] → (xs ≡ []) × (ys ≡ [])
both_none [] ys e = (refl, e)
both_none (x ∷ xs) ys e = absurd cc

-- ---- names that are seen first

others : (x y : List ℕ) (ys : List (List ℕ)) → bytes_eq x y ≡ false → list_any (bytes_eq x) (filter (λ z. not (bytes_eq y z)) ys) ≡ list_any (bytes_eq x) ys
others x y ys e = any-filter_same (bytes_eq x) (λ z. not (bytes_eq y z)) true (λ z f. grind (arith, bytes_eq-Decides x y, bytes_eq-Decides x z, bytes_eq-Decides y z)) ys

seen : (x : List ℕ) (ys : List (List ℕ)) → list_any (bytes_eq x) ys ≡ true → list_any (bytes_eq x) (first_seen ys) ≡ true
seen x [] e = e
seen x (y ∷ ys) e = grind (arith, seen x ys, others x y (first_seen ys))

all_seen : (xs : List (List ℕ)) → list_all (λ x. list_any (bytes_eq x) (first_seen xs)) xs ≡ true
all_seen xs = each (λ x. list_any (bytes_eq x) (first_seen xs)) xs (λ x h. seen x xs (list_any-from_Contains nat_list_eq_equiv x xs h))

-- ---- operations

one_given : (n : ℕ) → (n == 1) ≡ true → from_integer (replicate n integers) ≡ Some integers
one_given n e = rw (eqb-true n 1 e)

two_given : (n : ℕ) → (n == 2) ≡ true → from_integers (replicate n integers) ≡ Some integers
two_given n e = rw (eqb-true n 2 e)

all_integers : (n : ℕ) → list_all (is_kind integers) (replicate n integers) ≡ true
all_integers zero = refl
all_integers (suc n) = all_integers n

more_given : (n : ℕ) → nat_le 2 n ≡ true → from_two_or_more (replicate n integers) ≡ Some integers
more_given n e = grind (arith, length-replicate n integers, all_integers n)

-- it gives an integer of one integer or of two
abbrev gives : Op → Bool
gives o = are_same (outcome_kind o (replicate 1 integers)) (Some integers) || are_same (outcome_kind o (replicate 2 integers)) (Some integers)

-- so it gives an integer of as many integers as it takes
given : (o : Op) (n : ℕ) → gives o ≡ true → is_count (count_of o) n ≡ true → outcome_kind o (replicate n integers) ≡ Some integers
given op.Power n g c = two_given n c
given _ n g c = first_of (cc, search one_given, search two_given, search more_given)

-- ---- expressions

same : (o : Option Kind) → are_same o (Some integers) ≡ true → o ≡ Some integers
same (Some integers) e = refl
same _ e = absurd (false≢true e)

intrinsic_row : (x : List ℕ) (r : Row) (o : Op) → is_bare r ≡ true → intrinsic x ≡ Some o → referred_as x r ≡ Only Intrinsic
intrinsic_row x r o p i = grind arith

module _ (k : Known) (names : List (List ℕ)) (bare : (x : List ℕ) → is_bare (row_in k.table x) ≡ true) where
  abbrev kinds : List ℕ → Option Kind
  kinds = kind_among names

  abbrev among : List ℕ → Bool
  among x = list_any (bytes_eq x) names

  abbrev apart : List ℕ → Bool
  apart f = not (list_any (bytes_eq f) names)

  abbrev unreal : Note → Bool
  unreal x = not (is_real k x.key)

  -- an intrinsic function takes its arguments
  accepted : (f : List ℕ) (es : Exprs) (o : Op) → intrinsic f ≡ Some o → not (is_real k f) ≡ true → list_findings k false f es ≡ [] → takes o (kinds_of k es) ≡ true
  accepted f es o i r e = grind (arith, intrinsic_row f (row_in k.table f) o (bare f) i, bare f)

  called : (f : List ℕ) (es : Exprs) (o : Option Op) → intrinsic f ≡ o → (gives_integer_of f 1 || gives_integer_of f 2) ≡ true → not (is_real k f) ≡ true
      → list_findings k false f es ≡ [] → option_and_then (λ o. outcome_kind o (replicate (length (kinds_of k es)) integers)) o ≡ Some integers
  called f es None i g r e = absurd (false≢true (rw i at g))
  called f es (Some o) i g r e = given o (length (kinds_of k es)) (rw i at g) (and_parts (is_count (count_of o) (length (kinds_of k es))) _ (accepted f es o i r e)).0

  mutual
    typed : (w : Bool) (a : Fact) (e : Expr) → is_built e ≡ true → list_all among (expr_variables e) ≡ true → list_all apart (expr_functions e) ≡ true
        → list_all unreal (expr_notes elsewhere a e) ≡ true → expr_findings k elsewhere w false e ≡ [] → kind_of_expr kinds e ≡ Some integers
    typed w a (int i) b v f n e = refl
    typed w a (name x) b v f n e = rw (and_parts (among x) true v).0
    typed w a (call x es) b v f n e =
        let found = both_none (list_findings k false x es) _ e in
        let given = all_typed (takes_arrays k x) (given_to x) es (and_parts _ (are_built es) b).1 v (and_parts (apart x) _ f).1 (and_parts (not (is_real k x)) _ n).1 found.1 in
        rw (given, not-true (among x) (and_parts (apart x) _ f).0) (called x es (intrinsic x) refl (and_parts _ (are_built es) b).0 (and_parts (not (is_real k x)) _ n).0 found.0)
    typed w a (unary op i) b v f n e = ap (option_and_then (λ k. outcome_kind (unary_op op) (k ∷ []))) (typed false valued i (and_parts (is_sign op) _ b).1 v f n (both_none _ _ e).1) ∙ same _ (and_parts (is_sign op) _ b).0
    typed w a (binary op i j) b v f n e =
        let found = both_none (expr_findings k elsewhere false false i) _ e in
        let parts : (kind_of_expr kinds i ≡ Some integers) × (kind_of_expr kinds j ≡ Some integers) = grind (
          arith,
          typed false valued i,
          typed false valued j,
          both_none _ (expr_findings k elsewhere false false j) found.1,
          halves among (expr_variables i) (expr_variables j) v,
          halves apart (expr_functions i) (expr_functions j) f,
          halves unreal (expr_notes elsewhere valued i) (expr_notes elsewhere valued j) n,
        ) in
        rw (parts.0, parts.1) (same _ (and_parts (is_arithmetic op) _ b).0)
    typed w a (paren i) b v f n e = typed false valued i b v f n e
    typed w a _ b v f n e = absurd (false≢true b)

    all_typed : (w : Bool) (a : Fact) (es : Exprs) → are_built es ≡ true → list_all among (exprs_variables es) ≡ true → list_all apart (exprs_functions es) ≡ true
        → list_all unreal (exprs_notes elsewhere a es) ≡ true → exprs_findings k elsewhere w es ≡ [] → kinds_of_exprs kinds es ≡ Some (replicate (length (kinds_of k es)) integers)
    all_typed w a none b v f n e = refl
    all_typed w a (more i es) b v f n e = grind (
      arith,
      typed w a i,
      all_typed w a es,
      both_none (expr_findings k elsewhere w false i) (exprs_findings k elsewhere w es) e,
      halves among (expr_variables i) (exprs_variables es) v,
      halves apart (expr_functions i) (exprs_functions es) f,
      halves unreal (expr_notes elsewhere a i) (exprs_notes elsewhere a es) n,
    )

  typed_step : (a : Statement) → is_built_stmt (stmt_of a) ≡ true → list_all among (stmt_variables (stmt_of a)) ≡ true → list_all apart (stmt_functions (stmt_of a)) ≡ true
      → list_all unreal (statement_notes a) ≡ true → statement_findings k a ≡ [] → is_typed_stmt kinds (stmt_of a) ≡ true
  typed_step (simple (s.assign (name x) e)) b v f n d =
      let found = both_none _ (value_findings k e) (both_none (variable_findings k (name x)) _ d).1 in
      let known = and_parts (among x) (list_all among (expr_variables e)) v in
      rw (known.0, typed false valued e b known.1 f (and_parts (not (is_real k x)) _ n).1 found.1)
  typed_step (simple (s.assign d e)) b v f n i = absurd (false≢true b)
  typed_step _ b v f n d = refl

  typed_items : (is : Items) → ((l : Line) → Contains (flat is) l → statement_findings k l.statement ≡ []) → are_converted is ≡ true → are_built_actions (code_of is) ≡ true
      → list_all among (code_variables (code_of is)) ≡ true → list_all apart (code_functions (code_of is)) ≡ true → list_all unreal (notes_of (flat is)) ≡ true → is_typed_code kinds (code_of is) ≡ true
  typed_items u.done d c b v f n = refl
  typed_items (u.simple l is) d c b v f n = grind (
    arith,
    typed_step l.statement,
    d l (Contains-append_left (l ∷ []) (flat is) l (Contains-push [] l)),
    typed_items is (λ m h. d m (Contains-append_right (l ∷ []) (flat is) m h)),
    halves among (stmt_variables (stmt_of l.statement)) (code_variables (code_of is)) v,
    halves apart (stmt_functions (stmt_of l.statement)) (code_functions (code_of is)) f,
    halves unreal (line_notes l) (notes_of (flat is)) n,
  )
  typed_items _ d c b v f n = absurd (false≢true c)

-- ---- units

pub statements_typed : TypedUnits → VariablesAreNames → FunctionsAreApart → StatementsAreTyped
statements_typed t named functions unit c =
    let said = unit_text unit c.converted in
    let unreal : Note → Bool = λ x. not (is_real (of_unit unit) x.key) in
    let noted = each unreal (notes_of (text_of unit)) (λ x m. not_from_false (is_real (of_unit unit) x.key) (t.1 unit c.accepted x m)) in
    typed_items (of_unit unit) (unit_variables unit) (bare_rows unit c) unit.items
    (λ l m. t.2 unit c.accepted l (rw said.text (Contains-append_right unit.headers (flat unit.items) l m))) said.converted c.built
    (rw (← named unit c) at (all_seen (code_variables (code_of unit.items)))) (functions unit c)
    (and_parts (unreal (note (source_unit unit).name titled)) _ (sym (ap (list_all unreal) said.notes) ∙ noted)).1
