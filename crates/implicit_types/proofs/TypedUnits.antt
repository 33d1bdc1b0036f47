-- Where nothing is refused of a unit: the role of each name, that none is real, and the parts of statements.
use Rattle.std.proofs.Common.{◌≡◌, ℕ, Bool, true, false, not, List, [], ◌∷◌, ◌++◌, map, fold, Option, Some, None, refl, sym, ap, ◌∙◌, arith, append_assoc}
use Rattle.std.specs.Prelude.{if◌then◌else◌}
use Rattle.std.specs.List.{All, list_any}
use Rattle.std.specs.Str.{bytes_eq}
use Rattle.std.proofs.lemmas.List.Elements.{All-nil, All-cons, All-rest, All-contains}
use Rattle.std.proofs.lemmas.Bool.{or_parts, and_parts}
use Rattle.std.proofs.lemmas.Slice.Eq.{bytes_eq-Decides}
use Rattle.text_base.specs.declared.refusal.Cause.TheVariants as cause
use Rattle.unit77.specs.Tree.{Line}
use Rattle.unit77.specs.Programs.{ProgramUnit}
use Rattle.names77.specs.declared.role.Role.{Role}
use Rattle.names77.specs.declared.role.Allowed.{Allowed}
use Rattle.names77.specs.Grouped as g
use Rattle.names77.specs.Grouped.{Grouped}
use Rattle.names77.specs.Notes.{Note, line_notes, notes_of}
use Rattle.names77.specs.Text.{text_of}
use Rattle.names77.specs.Roles.{allows, agree, narrowed, first_role}
use Rattle.names77.specs.RoleLaws.{BothAllow, RolesAreNarrowed}
use Rattle.names77.specs.Rows.{row_in, has_name}
use Rattle.names77.specs.RoleTables.{Roles, allowed_as, allowed_in, role_note, with_roles}
use Rattle.names77.specs.Known.{Known, is_real}
use Rattle.names77.proofs.Rows.{one_role}
use Rattle.implicit_types.specs.Findings.{Finding, finding, along, is_lower, first_lowest}
use Rattle.implicit_types.specs.NameFindings.{Before, nothing, noted, is_repeated, is_clashing, is_redeclared, is_bad_constant, note_findings, notes_findings, with_line}
use Rattle.implicit_types.specs.PartFindings.{statement_findings}
use Rattle.implicit_types.specs.Typing.{line_findings, line_refusals, refusal_at, refusals_of}
use Rattle.implicit_types.specs.TypingLaws.{of_unit, EachRoleIsAllowed, TypedUnits}

-- ---- lists

nothing_left : {A : Type 0} (xs ys : List A) → xs ++ ys ≡ [] → (xs ≡ []) × (ys ≡ [])
nothing_left [] ys e = (refl, e)
nothing_left (x ∷ xs) ys e = grind (arith, e)

nothing_lowest : (fs : List Finding) → first_lowest fs ≡ None → fs ≡ []
nothing_lowest [] e = refl
nothing_lowest (p ∷ ps) e = by (list_any (λ q. is_lower q p) ps) refl e (nothing_lowest ps)
  where
    by : (b : Bool) → list_any (λ q. is_lower q p) ps ≡ b → (if b then first_lowest ps else Some p) ≡ None → (first_lowest ps ≡ None → ps ≡ []) → p ∷ ps ≡ []
    by true any none rest = absurd (grind (arith, any, rest none))
    by false any none rest = absurd (grind (arith, none))

all_parts : {A : Type 0} (P : A → Type 0) (x : A) (xs : List A) → All P (x ∷ xs) → P x × All P xs
all_parts P x xs h = (h 0 x (omega arith), All-rest P x xs (x ∷ xs) refl h)

-- ---- the parts of each statement

nothing_refused : (l : Line) (f : Option Finding) → refusal_at l.place f ≡ [] → f ≡ None
nothing_refused l None e = refl
nothing_refused l (Some f) e = grind (arith, e)

nothing_found : (k : Known) (before : Before) (l : Line) → line_refusals k before l ≡ [] → line_findings k before l ≡ []
nothing_found k before l e = nothing_lowest (line_findings k before l) (nothing_refused l (first_lowest (line_findings k before l)) e)

abbrev Fits : Known → Line → Type 0
Fits k l = statement_findings k l.statement ≡ []

pub parts_fit : (k : Known) (before : Before) (ls : List Line) → along (with_line k) (line_refusals k) before ls ≡ [] → All (Fits k) ls
parts_fit k before [] e = All-nil (Fits k)
parts_fit k before (l ∷ ls) e =
    let parts = nothing_left (line_refusals k before l) (along (with_line k) (line_refusals k) (with_line k before l) ls) e in
    All-cons (Fits k) l ls (nothing_left (notes_findings k before (line_notes l)) (statement_findings k l.statement) (nothing_found k before l parts.0)).1 (parts_fit k (with_line k before l) ls parts.1)

-- ---- all notes of the unit, one after another

along_joined : {B X Y : Type 0} (next : B → X → B) (found : B → X → List Y) (before : B) (xs ys : List X)
    → along next found before (xs ++ ys) ≡ along next found before xs ++ along next found (fold next before xs) ys
along_joined next found before [] ys = refl
along_joined next found before (x ∷ xs) ys = grind (arith, along_joined next found (next before x) xs ys, append_assoc (found before x) (along next found (next before x) xs) (along next found (fold next (next before x) xs) ys))

notes_clean : (k : Known) (before : Before) (ls : List Line) → along (with_line k) (line_refusals k) before ls ≡ [] → notes_findings k before (notes_of ls) ≡ []
notes_clean k before [] e = refl
notes_clean k before (l ∷ ls) e =
    let parts = nothing_left (line_refusals k before l) (along (with_line k) (line_refusals k) (with_line k before l) ls) e in
    let here = nothing_left (notes_findings k before (line_notes l)) (statement_findings k l.statement) (nothing_found k before l parts.0) in
    along_joined (noted k) (note_findings k) before (line_notes l) (notes_of ls)
    ∙ ap (λ fs. fs ++ notes_findings k (with_line k before l) (notes_of ls)) here.0 ∙ notes_clean k (with_line k before l) ls parts.1

-- ---- no name is real

abbrev pub IsClean : Known → Before → List Note → Type 0
IsClean k before notes = notes_findings k before notes ≡ []

-- what is found at a note is nothing
abbrev Passes : Known → Before → Note → Type 0
Passes k before x = note_findings k before x ≡ []

clean_parts : (k : Known) (before : Before) (x : Note) (xs : List Note) → IsClean k before (x ∷ xs) → Passes k before x × IsClean k (noted k before x) xs
clean_parts k before x xs e = nothing_left (note_findings k before x) (notes_findings k (noted k before x) xs) e

not_found : (f : Finding) (b : Bool) → (if b then f ∷ [] else []) ≡ [] → b ≡ false
not_found f true e = grind (arith, e)
not_found f false e = refl

has_put : {R : Type 0} (x y : List ℕ) (r : R) (t : Grouped (List ℕ) R) → bytes_eq y x ≡ false → g.has_key bytes_eq (g.put bytes_eq t x r) y ≡ g.has_key bytes_eq t y
has_put x y r [] e = grind (arith, e)
has_put x y r (h ∷ t) e = grind (arith, e, has_put x y r t e, (bytes_eq-Decides x h.0).0, (bytes_eq-Decides y h.0).0, (bytes_eq-Decides y x).1)

-- no real name has been noted
abbrev NoneReal : Known → Before → Type 0
NoneReal k before = (y : List ℕ) → is_real k y ≡ true → has_name before.table y ≡ false

is_not_real : (k : Known) (before : Before) (x : Note) → NoneReal k before → Passes k before x → is_real k x.key ≡ false
is_not_real k before x none e = by (is_real k x.key) refl e
  where
    by : (b : Bool) → is_real k x.key ≡ b
        → (if b then finding cause.RealType x.key (not (has_name before.table x.key)) else finding cause.Redeclared x.key (is_redeclared k before x) ++ finding cause.BadConstant x.key (is_bad_constant k before x)) ≡ []
        → is_real k x.key ≡ false
    by true real found = grind (arith, none x.key real, not_found (record { cause = cause.RealType; name = x.key }) (not (has_name before.table x.key)) found)
    by false real found = real

none_real_next : (k : Known) (before : Before) (x : Note) → NoneReal k before → is_real k x.key ≡ false → NoneReal k (noted k before x)
none_real_next k before x none real y is = has_put x.key y _ before.table (apart (bytes_eq y x.key) refl) ∙ none y is
  where
    apart : (b : Bool) → bytes_eq y x.key ≡ b → b ≡ false
    apart true same = let e : y ≡ x.key = (bytes_eq-Decides y x.key).0 same in grind (arith, e, is, real)
    apart false same = refl

abbrev IsUnreal : Known → Note → Type 0
IsUnreal k x = is_real k x.key ≡ false

pub none_real : (k : Known) (before : Before) (xs : List Note) → NoneReal k before → IsClean k before xs → All (IsUnreal k) xs
none_real k before [] none e = All-nil (IsUnreal k)
none_real k before (x ∷ xs) none e =
    let parts = clean_parts k before x xs e in
    let unreal = is_not_real k before x none parts.0 in
    All-cons (IsUnreal k) x xs unreal (none_real k (noted k before x) xs (none_real_next k before x none unreal) parts.1)

-- ---- each role is allowed

agrees : (k : Known) (before : Before) (x : Note) → is_real k x.key ≡ false → Passes k before x → agree (allowed_in before.roles x.key) (allowed_as k.table x.key x.fact) ≡ true
agrees k before x unreal e = by (is_real k x.key) unreal e
  where
    clashing : finding cause.Redeclared x.key (is_redeclared k before x) ++ finding cause.BadConstant x.key (is_bad_constant k before x) ≡ [] → agree (allowed_in before.roles x.key) (allowed_as k.table x.key x.fact) ≡ true
    clashing found =
        let parts = nothing_left (finding cause.Redeclared x.key (is_redeclared k before x)) (finding cause.BadConstant x.key (is_bad_constant k before x)) found in
        grind (arith, or_parts (is_repeated (row_in k.table x.key) (row_in before.table x.key) x.fact x.key) (is_clashing k before.roles x) (not_found (record { cause = cause.Redeclared; name = x.key }) (is_redeclared k before x) parts.0))

    by : (b : Bool) → b ≡ false
        → (if b then finding cause.RealType x.key (not (has_name before.table x.key)) else finding cause.Redeclared x.key (is_redeclared k before x) ++ finding cause.BadConstant x.key (is_bad_constant k before x)) ≡ []
        → agree (allowed_in before.roles x.key) (allowed_as k.table x.key x.fact) ≡ true
    by true is found = absurd (grind (arith, is))
    by false is found = clashing found

found_put : (x : List ℕ) (r : Allowed) (t : Roles) → allowed_in (g.put bytes_eq t x r) x ≡ r
found_put x r [] = grind (arith, (bytes_eq-Decides x x).1 refl)
found_put x r (h ∷ t) = grind (arith, found_put x r t)

others_put : (x y : List ℕ) (r : Allowed) (t : Roles) → bytes_eq y x ≡ false → allowed_in (g.put bytes_eq t x r) y ≡ allowed_in t y
others_put x y r [] e = grind (arith, e)
others_put x y r (h ∷ t) e = grind (arith, e, others_put x y r t e, (bytes_eq-Decides x h.0).0, (bytes_eq-Decides y h.0).0, (bytes_eq-Decides y x).1)

module _ (both : BothAllow) (k : Known) where
  -- what is allowed behind a note was allowed before it, and is allowed by the note
  narrower : (before : Before) (x : Note) (y : List ℕ) (r : Role) → agree (allowed_in before.roles x.key) (allowed_as k.table x.key x.fact) ≡ true
      → allows (allowed_in (noted k before x).roles y) r ≡ true → allows (allowed_in before.roles y) r ≡ true
  narrower before x y r agreed allowed = by (bytes_eq y x.key) refl
    where
      by : (b : Bool) → bytes_eq y x.key ≡ b → allows (allowed_in before.roles y) r ≡ true
      by true same =
          let e : y ≡ x.key = (bytes_eq-Decides y x.key).0 same in
          let here : allowed_in (noted k before x).roles y ≡ narrowed (allowed_in before.roles x.key) (allowed_as k.table x.key x.fact) = ap (allowed_in (noted k before x).roles) e ∙ found_put x.key _ before.roles in
          ap (λ z. allows (allowed_in before.roles z) r) e
          ∙ (and_parts (allows (allowed_in before.roles x.key) r) (allows (allowed_as k.table x.key x.fact) r) (sym (both (allowed_in before.roles x.key) (allowed_as k.table x.key x.fact) r agreed) ∙ ap (λ a. allows a r) (sym here) ∙ allowed)).0
      by false same = ap (λ a. allows a r) (sym (others_put x.key y _ before.roles same)) ∙ allowed

  by_note : (before : Before) (x : Note) (r : Role) → agree (allowed_in before.roles x.key) (allowed_as k.table x.key x.fact) ≡ true
      → allows (allowed_in (noted k before x).roles x.key) r ≡ true → allows (allowed_as k.table x.key x.fact) r ≡ true
  by_note before x r agreed allowed =
      (and_parts (allows (allowed_in before.roles x.key) r) (allows (allowed_as k.table x.key x.fact) r)
      (sym (both (allowed_in before.roles x.key) (allowed_as k.table x.key x.fact) r agreed) ∙ ap (λ a. allows a r) (sym (found_put x.key _ before.roles)) ∙ allowed)).1

  narrower_all : (before : Before) (xs : List Note) (y : List ℕ) (r : Role) → All (IsUnreal k) xs → IsClean k before xs
      → allows (allowed_in (fold (noted k) before xs).roles y) r ≡ true → allows (allowed_in before.roles y) r ≡ true
  narrower_all before [] y r unreal e allowed = allowed
  narrower_all before (x ∷ xs) y r unreal e allowed =
      let parts = clean_parts k before x xs e in
      let u = all_parts (IsUnreal k) x xs unreal in
      narrower before x y r (agrees k before x u.0 parts.0) (narrower_all (noted k before x) xs y r u.1 parts.1 allowed)

  -- a role that is allowed at the end is allowed by each note
  abbrev AllowsAt : Roles → Note → Type 0
  AllowsAt roles x = (r : Role) → allows (allowed_in roles x.key) r ≡ true → allows (allowed_as k.table x.key x.fact) r ≡ true

  pub each_allows : (before : Before) (xs : List Note) → All (IsUnreal k) xs → IsClean k before xs → All (AllowsAt (fold (noted k) before xs).roles) xs
  each_allows before [] unreal e = All-nil (AllowsAt before.roles)
  each_allows before (x ∷ xs) unreal e =
      let parts = clean_parts k before x xs e in
      let u = all_parts (IsUnreal k) x xs unreal in
      All-cons (AllowsAt (fold (noted k) (noted k before x) xs).roles) x xs
      (λ r allowed. by_note before x r (agrees k before x u.0 parts.0) (narrower_all (noted k before x) xs x.key r u.1 parts.1 allowed))
      (each_allows (noted k before x) xs u.1 parts.1)

  roles_noted : (before : Before) (xs : List Note) → (fold (noted k) before xs).roles ≡ with_roles before.roles (map (role_note k.table) xs)
  roles_noted before [] = refl
  roles_noted before (x ∷ xs) = roles_noted (noted k before x) xs

-- ---- a unit

no_names : (k : Known) → NoneReal k nothing
no_names k y real = refl

-- what is found of a unit of which nothing is refused
pub unit_clean : (unit : ProgramUnit) → refusals_of unit ≡ [] → IsClean (of_unit unit) nothing (notes_of (text_of unit))
unit_clean unit e = notes_clean (of_unit unit) nothing (text_of unit) e

pub unit_unreal : (unit : ProgramUnit) → refusals_of unit ≡ [] → All (IsUnreal (of_unit unit)) (notes_of (text_of unit))
unit_unreal unit e = none_real (of_unit unit) nothing (notes_of (text_of unit)) (no_names (of_unit unit)) (unit_clean unit e)

pub typed_units : RolesAreNarrowed → TypedUnits
typed_units roles = (each_role, (λ unit e x there. All-contains (IsUnreal (of_unit unit)) (notes_of (text_of unit)) x (unit_unreal unit e) there), (λ unit e l there. All-contains (Fits (of_unit unit)) (text_of unit) l (parts_fit (of_unit unit) nothing (text_of unit) e) there))
  where
    each_role : EachRoleIsAllowed
    each_role unit e x there =
        let k = of_unit unit in
        let notes = notes_of (text_of unit) in
        let final : (fold (noted k) nothing notes).roles ≡ k.roles = roles_noted roles.0 k nothing notes ∙ one_role k.table notes in
        let allowed = All-contains (AllowsAt roles.0 k (fold (noted k) nothing notes).roles) notes x (each_allows roles.0 k nothing notes (unit_unreal unit e) (unit_clean unit e)) there in
        allowed (first_role (allowed_in k.roles x.key)) (ap (λ r. allows (allowed_in r x.key) (first_role (allowed_in k.roles x.key))) final ∙ roles.2 (allowed_in k.roles x.key))
