-- What is written for a source that is converted is proper.
use Rattle.std.proofs.Common.{◌≡◌, ℕ, ◌+◌, Bool, true, false, not, ◌&&◌, ◌||◌, List, [], ◌∷◌, ◌++◌, map, Contains, Option, Some, None, refl, sym, ap, ◌∙◌, subst}
use Rattle.std.specs.Prelude.{if◌then◌else◌}
use Rattle.std.specs.List.{list_all, list_any}
use Rattle.std.specs.Str.{bytes_eq}
use Rattle.std.proofs.lemmas.List.{append-nil}
use Rattle.std.proofs.lemmas.List.Elements.{Contains-push}
use Rattle.std.proofs.lemmas.List.Folds.{list_all-map}
use Rattle.std.proofs.lemmas.Bool.{and_from}
use Rattle.text_base.specs.Lines.{cut}
use Rattle.text_base.specs.Cards.{Card, Comment, cards, comments}
use Rattle.unit77.specs.CardPrograms.{AreUnitsOf}
use Rattle.unit77.specs.Programs.{ProgramUnit}
use Rattle.text_base.specs.Chars.{is_name}
use Rattle.text_base.specs.ExpressionKinds.{is_typed_action}
use Rattle.text_base.specs.Names.{action_functions}
use Rattle.text_base.specs.Values.{Kind, integers}
use Rattle.program77.specs.Plain.{one_converted, source_unit}
use Rattle.program77.specs.SourceReading.{read_of, read_unit}
use Rattle.program77.specs.Tree.{simple, continue, Code, done, item, SourceUnit, SourceProgram}
use Rattle.program77.specs.Typing as source
use Rattle.program77.specs.Typing.{variables, is_local}
use Rattle.text_base.specs.Remarks.{Remark}
use Rattle.tree90.specs.Tree.{integer_object}
use Rattle.tree90.specs.Printed.{printed}
use Rattle.tree90.specs.Proper as p
use Rattle.tree90.specs.Proper.{declared_name, is_among, are_distinct, IsWritableUnit, IsWritable, IsProper}
use Rattle.project_set.specs.Rewrite.{remark_of, comments_from, remarks_at, written_list, written_unit, sizes_of, written}
use Rattle.project_set.specs.Laws.{WrittenIsProper}
use Rattle.project_set.specs.Conversion.{IsConvertible}
use Rattle.project_set.specs.Typed.{IsTypedUnit, SourcesAreTyped}
use Rattle.project_set.proofs.Names.{Distinct, distinct_first_seen}
use Rattle.project_set.proofs.RefusalLemmas.{accepted}
use Rattle.project_set.proofs.Seen.{all_first, apart_from_all, are_distinct_names}
use Rattle.project_set.proofs.ShortPieces.{is_short, short_nothing, short_append}
use Rattle.project_set.proofs.ShortRemarks.{are_short_comments, are_writable, remarks_are_short, remarks_of_comments, remarks_at_are_short, comments_from_are_short, comments_are_short}
use Rattle.project_set.proofs.ShortLineLemmas.{CardFound, ShortUnit, unit_is_short, unit_lines}

-- ---- names

-- what is written for a list is typed where the list is
written_type : (kinds : List ℕ → Option Kind) (cs : List Comment) (k : ℕ) (left : List Remark) (code : Code) → p.is_typed_code kinds (written_list cs k left code).0 ≡ source.is_typed_code kinds code
written_type kinds cs k left done = refl
written_type kinds cs k left (item label here (simple a) rest) = ap (λ b. is_typed_action kinds a && b) (written_type kinds cs (k + 1) [] rest)
written_type kinds cs k left (item label here continue rest) = written_type kinds cs (k + 1) _ rest

-- declared objects have the names that they are made of
declared_names : (xs : List (List ℕ)) → map declared_name (map integer_object xs) ≡ xs
declared_names [] = refl
declared_names (x ∷ xs) = ap (λ ys. x ∷ ys) (declared_names xs)

-- a unit's name and its variables are distinct
pub distinct_variables : (u : SourceUnit) → IsTypedUnit u → Distinct (variables u)
distinct_variables u t = subst Distinct (sym t.names) (distinct_first_seen (source.code_variables u.code))

names_are_distinct : (u : SourceUnit) → IsTypedUnit u → are_distinct (u.name ∷ map declared_name (map integer_object (variables u))) ≡ true
names_are_distinct u t =
    let apart : list_all (is_local u.name) (variables u) ≡ true = subst (λ xs. list_all (is_local u.name) xs ≡ true) (sym t.names) (all_first (is_local u.name) (source.code_variables u.code) t.own) in
    ap (λ xs. are_distinct (u.name ∷ xs)) (declared_names (variables u))
    ∙ and_from (not (is_among (variables u) u.name)) (are_distinct (variables u)) (apart_from_all u.name (variables u) apart) (are_distinct_names (variables u) (distinct_variables u t))

-- the type of a declared name
declared_kind : (xs : List (List ℕ)) (x : List ℕ) → p.kind_in (map integer_object xs) x ≡ (if list_any (bytes_eq x) xs then Some integers else None)
declared_kind [] x = refl
declared_kind (y ∷ ys) x = go (bytes_eq x y) (declared_kind ys x)
  where
    go : (b : Bool) → p.kind_in (map integer_object ys) x ≡ (if list_any (bytes_eq x) ys then Some integers else None)
        → (if b then Some integers else p.kind_in (map integer_object ys) x) ≡ (if b || list_any (bytes_eq x) ys then Some integers else None)
    go true rest = refl
    go false rest = rest

-- the declarations give each name the type that it has in the unit
same_kinds : (u : SourceUnit) (x : List ℕ) → p.kind_in (map integer_object (variables u)) x ≡ source.kind_in u x
same_kinds u x = declared_kind (variables u) x

-- what is written for a unit is typed
unit_is_typed : (cs : List Comment) (first : ℕ) (u : SourceUnit) → IsTypedUnit u → p.is_typed_code (p.kind_in (map integer_object (variables u))) (written_unit cs first u).code ≡ true
unit_is_typed cs first u t =
    ap (λ kinds. p.is_typed_code kinds (written_unit cs first u).code) (λ i x. same_kinds u x i)
    ∙ written_type (source.kind_in u) (comments_from cs (first + 2)) (first + 1) [] u.code
    ∙ t.typed

-- the functions of what is written for a list are those of the list
written_functions : (cs : List Comment) (k : ℕ) (left : List Remark) (code : Code) → p.code_functions (written_list cs k left code).0 ≡ source.code_functions code
written_functions cs k left done = refl
written_functions cs k left (item label here (simple a) rest) = ap (λ names. action_functions a ++ names) (written_functions cs (k + 1) [] rest)
written_functions cs k left (item label here continue rest) = written_functions cs (k + 1) _ rest

-- none of them has the unit's name
functions_are_local : (cs : List Comment) (first : ℕ) (u : SourceUnit) → IsTypedUnit u → list_all (is_local u.name) (p.code_functions (written_unit cs first u).code) ≡ true
functions_are_local cs first u t = ap (list_all (is_local u.name)) (written_functions (comments_from cs (first + 2)) (first + 1) [] u.code) ∙ t.own_functions

-- declared objects that are made of names have names
declared_are_named : (xs : List (List ℕ)) → list_all is_name xs ≡ true → list_all (λ d. is_name (declared_name d)) (map integer_object xs) ≡ true
declared_are_named xs e = list_all-map (λ d. is_name (declared_name d)) integer_object xs ∙ e

-- its variables have names
pub variables_are_named : (u : SourceUnit) → ShortUnit u → IsTypedUnit u → list_all is_name (variables u) ≡ true
variables_are_named u s t = subst (λ xs. list_all is_name xs ≡ true) (sym t.names) (all_first is_name (source.code_variables u.code) s.names)

-- ---- programs

-- what is written for a unit can be written
unit_is_writable : (cs : List Comment) (first : ℕ) (u : SourceUnit) → are_short_comments cs ≡ true → ShortUnit u → IsTypedUnit u → IsWritableUnit (written_unit cs first u)
unit_is_writable cs first u short s t =
    let listed = s.listed (comments_from cs (first + 2)) (first + 1) [] (comments_from_are_short cs (first + 2) short) refl in
    record {
      head = are_writable (remarks_at cs first) (remarks_at_are_short cs first short);
      named = s.named;
      inner = are_writable (remarks_at cs (first + 1)) (remarks_at_are_short cs (first + 1) short);
      declared = declared_are_named (variables u) (variables_are_named u s t);
      code = listed.writable;
      tail = are_writable (written_unit cs first u).tail listed.tail;
    }

-- the lines of what is written for one unit are short
lines_are_short : (cs : List Comment) (u : SourceUnit) → are_short_comments cs ≡ true → ShortUnit u → IsTypedUnit u → list_all is_short (cut (printed (written cs (record { units = u ∷ [] })))) ≡ true
lines_are_short cs u short s t =
    let last : List Remark = map remark_of (comments_from cs (sizes_of (u ∷ []))) in
    let all = short_append (short_append (unit_lines cs 0 u short s (variables_are_named u s t)) short_nothing)
    (remarks_are_short last (remarks_of_comments (comments_from cs (sizes_of (u ∷ []))) (comments_from_are_short cs (sizes_of (u ∷ [])) short))) in
    subst (λ x. list_all is_short (cut x) ≡ true) (append-nil (printed (written cs (record { units = u ∷ [] })))) (all.before [] refl)

-- what is written for one unit can be written
program_is_writable : (cs : List Comment) (u : SourceUnit) → are_short_comments cs ≡ true → ShortUnit u → IsTypedUnit u → IsWritable (written cs (record { units = u ∷ [] }))
program_is_writable cs u short s t = record {
  units = (unit_is_writable cs 0 u short s t, tt);
  tail = are_writable (map remark_of (comments_from cs (sizes_of (u ∷ [])))) (remarks_of_comments (comments_from cs (sizes_of (u ∷ []))) (comments_from_are_short cs (sizes_of (u ∷ [])) short));
  short = lines_are_short cs u short s t;
}

-- what is written for one unit is proper
program_is_proper : (cs : List Comment) (u : SourceUnit) → are_short_comments cs ≡ true → ShortUnit u → IsTypedUnit u → IsProper (written cs (record { units = u ∷ [] }))
program_is_proper cs u short s t = record {
  unit = written_unit cs 0 u;
  whole = refl;
  writable = program_is_writable cs u short s t;
  distinct = names_are_distinct u t;
  typed = unit_is_typed cs 0 u t;
  local = functions_are_local cs 0 u t;
}

-- the one unit of a source that is converted
pub typed_unit : SourcesAreTyped → (bytes : List ℕ) (q : SourceProgram) (c : IsConvertible bytes q) → IsTypedUnit (source_unit c.is_source.unit)
typed_unit typed bytes q c = typed bytes q c (source_unit c.is_source.unit) (subst (λ (r : SourceProgram). Contains r.units (source_unit c.is_source.unit)) (sym c.is_source.whole) (Contains-push [] (source_unit c.is_source.unit)))

-- what is written for a source that is converted is proper
pub written_is_proper : SourcesAreTyped → CardFound → ((cards : List Card) (us : List ProgramUnit) → AreUnitsOf cards us → read_unit (map read_of cards) ≡ one_converted us) → WrittenIsProper
written_is_proper typed found read bytes q c =
    let s = c.is_source in
    let made : read_unit (map read_of (cards 0 bytes)) ≡ Some (source_unit s.unit) =
    read (cards 0 bytes) (s.unit ∷ []) s.units ∙ ap (λ b. if b then Some (source_unit s.unit) else None) s.converted in
    let unit = unit_is_short found (cards 0 bytes) (source_unit s.unit) (accepted bytes c.accepted).built made in
    subst (λ (r : SourceProgram). IsProper (written (comments bytes) r)) (sym s.whole)
    (program_is_proper (comments bytes) (source_unit s.unit) (comments_are_short bytes s.accepted) unit (typed_unit typed bytes q c))
