-- A text has at most one reading.
use Rattle.std.proofs.Common.{◌≡◌, ℕ, List, [], ◌∷◌, ◌++◌, map, refl, sym, ◌∙◌, subst}
use Rattle.text_base.specs.Lines.{cut}
use Rattle.text_base.specs.Remarks.{Remark}
use Rattle.tree90.specs.Tree.{Code, done, item, Declared, FreeUnit, FreeProgram}
use Rattle.tree90.specs.FreeTokens.{Token}
use Rattle.tree90.specs.FreeText.{FreeStatement, header, implicit_none, save, declaration, executable, end, SpellsFree, FreeLine, statement_line, free_line_of, comment_lines, SpellsNext, SpellsParts, SpellsCode, SpellsUnit, SpellsUnits, SpellsText}
use Rattle.tree90.proofs.TokenReading.{OneTree, free_unique}

-- ---- lines

-- comments are known by their lines
comments_unique : (r q : List Remark) → comment_lines r ≡ comment_lines q → r ≡ q
comments_unique [] [] e = refl
comments_unique [] (b ∷ q) e = absurd cc
comments_unique (a ∷ r) [] e = absurd cc
comments_unique (a ∷ r) (b ∷ q) e =
    let here : a ≡ b = cc in
    let behind : comment_lines r ≡ comment_lines q = cc in
    let more = comments_unique r q behind in
    λ i. here i ∷ more i

-- comments have no statement
comments_alone : (r q : List Remark) (l : List Token) (rest : List FreeLine) → comment_lines r ≡ comment_lines q ++ statement_line l ∷ rest → ⊥
comments_alone [] [] l rest e = cc
comments_alone [] (b ∷ q) l rest e = cc
comments_alone (a ∷ r) [] l rest e = cc
comments_alone (a ∷ r) (b ∷ q) l rest e =
    let behind : comment_lines r ≡ comment_lines q ++ statement_line l ∷ rest = cc in comments_alone r q l rest behind

-- two lists of lines with a first statement each
record SameLines (r q : List Remark) (l k : List Token) (rest more : List FreeLine) : Type 0 where
  remarks : r ≡ q
  line : l ≡ k
  left : rest ≡ more

-- equal lines have the same first statement after the same comments
lines_unique : (r q : List Remark) (l k : List Token) (rest more : List FreeLine) → comment_lines r ++ statement_line l ∷ rest ≡ comment_lines q ++ statement_line k ∷ more → SameLines r q l k rest more
lines_unique [] [] l k rest more e = record { remarks = refl; line = cc; left = cc }
lines_unique [] (b ∷ q) l k rest more e = absurd cc
lines_unique (a ∷ r) [] l k rest more e = absurd cc
lines_unique (a ∷ r) (b ∷ q) l k rest more e =
    let here : a ≡ b = cc in
    let behind : comment_lines r ++ statement_line l ∷ rest ≡ comment_lines q ++ statement_line k ∷ more = cc in
    let same = lines_unique r q l k rest more behind in
    record { remarks = λ i. here i ∷ same.remarks i; line = same.line; left = same.left }

-- ---- statements after their comments

-- two statements with what stands before and after them
record SameNext (r q : List Remark) (s t : FreeStatement) (rest more : List FreeLine) : Type 0 where
  remarks : r ≡ q
  statement : s ≡ t
  left : rest ≡ more

module _ (one_tree : OneTree) where
  -- equal lines begin with the same statement
  next_unique : (ls ms : List FreeLine) (r q : List Remark) (s t : FreeStatement) (rest more : List FreeLine) → ls ≡ ms → SpellsNext ls r s rest → SpellsNext ms q t more → SameNext r q s t rest more
  next_unique ls ms r q s t rest more e a b =
      let same = lines_unique r q a.line b.line rest more (sym a.whole ∙ e ∙ b.whole) in
      record {
        remarks = same.remarks;
        statement = free_unique one_tree b.line s t (subst (λ l. SpellsFree l s) same.line a.spelled) b.spelled;
        left = same.left;
      }

  -- ---- code

  -- two lists of statements up to an END line
  record SameCode (c d : Code) (t u : List Remark) (x y : List ℕ) (rest more : List FreeLine) : Type 0 where
    code : c ≡ d
    tail : t ≡ u
    name : x ≡ y
    left : rest ≡ more

  -- equal lines begin with the same code
  code_unique : (ls ms : List FreeLine) (c d : Code) (t u : List Remark) (x y : List ℕ) (rest more : List FreeLine) → ls ≡ ms → SpellsCode ls c t x rest → SpellsCode ms d u y more → SameCode c d t u x y rest more
  code_unique ls ms done done t u x y rest more e a b =
      let same = next_unique ls ms t u (end x) (end y) rest more e a b in
      let ends : end x ≡ end y = same.statement in
      record { code = refl; tail = same.remarks; name = cc; left = same.left }
  code_unique ls ms done (item q z d) t u x y rest more e a b =
      let same = next_unique ls ms t q (end x) (executable z) rest b.0 e a b.1 in
      let other : end x ≡ executable z = same.statement in
      absurd cc
  code_unique ls ms (item r s c) done t u x y rest more e a b =
      let same = next_unique ls ms r u (executable s) (end y) a.0 more e a.1 b in
      let other : executable s ≡ end y = same.statement in
      absurd cc
  code_unique ls ms (item r s c) (item q z d) t u x y rest more e a b =
      let same = next_unique ls ms r q (executable s) (executable z) a.0 b.0 e a.1 b.1 in
      let statements : executable s ≡ executable z = same.statement in
      let here : s ≡ z = cc in
      let behind = code_unique a.0 b.0 c d t u x y rest more same.left a.2 b.2 in
      record { code = λ i. item (same.remarks i) (here i) (behind.code i); tail = behind.tail; name = behind.name; left = behind.left }

  -- code begins with no declaration
  no_declaration : (ls ms : List FreeLine) (c : Code) (t r : List Remark) (x : List ℕ) (d : Declared) (rest more : List FreeLine) → ls ≡ ms → SpellsCode ls c t x rest → SpellsNext ms r (declaration d) more → ⊥
  no_declaration ls ms done t r x d rest more e a b =
      let same = next_unique ls ms t r (end x) (declaration d) rest more e a b in
      let other : end x ≡ declaration d = same.statement in
      cc
  no_declaration ls ms (item q s c) t r x d rest more e a b =
      let same = next_unique ls ms q r (executable s) (declaration d) a.0 more e a.1 b in
      let other : executable s ≡ declaration d = same.statement in
      cc

  -- ---- declarations, and code after them

  -- two lists of declarations, each with code after it
  record SameBody (i j : List Remark) (ds es : List Declared) (c d : Code) (t u : List Remark) (x y : List ℕ) (rest more : List FreeLine) : Type 0 where
    inner : i ≡ j
    declared : ds ≡ es
    after : SameCode c d t u x y rest more

  -- equal lines have the same declarations, and the same code after them
  body_unique : (ls ms : List FreeLine) (inner within : List Remark) (ds es : List Declared) (mid half : List FreeLine) (c d : Code) (t u : List Remark) (x y : List ℕ) (rest more : List FreeLine) → ls ≡ ms
      → SpellsParts ls inner (map declaration ds) mid → SpellsCode mid c t x rest → SpellsParts ms within (map declaration es) half → SpellsCode half d u y more
      → SameBody inner within ds es c d t u x y rest more
  body_unique ls ms inner within [] [] mid half c d t u x y rest more e p a q b =
      record { inner = p.0 ∙ sym q.0; declared = refl; after = code_unique mid half c d t u x y rest more (sym p.1 ∙ e ∙ q.1) a b }
  body_unique ls ms inner within [] (f ∷ es) mid half c d t u x y rest more e p a q b =
      absurd (no_declaration mid ms c t q.0 x f rest q.2 (sym p.1 ∙ e) a q.4)
  body_unique ls ms inner within (f ∷ ds) [] mid half c d t u x y rest more e p a q b =
      absurd (no_declaration half ls d u p.0 y f more p.2 (sym q.1 ∙ sym e) b p.4)
  body_unique ls ms inner within (f ∷ ds) (g ∷ es) mid half c d t u x y rest more e p a q b =
      let same = next_unique ls ms p.0 q.0 (declaration f) (declaration g) p.2 q.2 e p.4 q.4 in
      let statements : declaration f ≡ declaration g = same.statement in
      let here : f ≡ g = cc in
      let behind = body_unique p.2 q.2 p.1 q.1 ds es mid half c d t u x y rest more same.left p.5 a q.5 b in
      record {
        inner = p.3 ∙ (λ i. same.remarks i ++ behind.inner i) ∙ sym q.3;
        declared = λ i. here i ∷ behind.declared i;
        after = behind.after;
      }

  -- ---- units

  -- two units, and what is left after them
  record SameUnit (u v : FreeUnit) (rest more : List FreeLine) : Type 0 where
    unit : u ≡ v
    left : rest ≡ more

  -- equal lines begin with the same unit
  unit_unique : (ls ms : List FreeLine) (u v : FreeUnit) (rest more : List FreeLine) → ls ≡ ms → SpellsUnit ls u rest → SpellsUnit ms v more → SameUnit u v rest more
  unit_unique ls ms u v rest more e a b =
      let p = a.3 in
      let q = b.3 in
      let head = next_unique ls ms u.head v.head (header u.name) (header v.name) a.0 b.0 e a.2 b.2 in
      let headers : header u.name ≡ header v.name = head.statement in
      let names : u.name ≡ v.name = cc in
      let first = next_unique a.0 b.0 p.0 q.0 implicit_none implicit_none p.2 q.2 head.left p.4 q.4 in
      let second = next_unique p.2 q.2 p.5.0 q.5.0 save save p.5.2 q.5.2 first.left p.5.4 q.5.4 in
      let body = body_unique p.5.2 q.5.2 p.5.1 q.5.1 u.declared v.declared a.1 b.1 u.code v.code u.tail v.tail u.name v.name rest more second.left p.5.5 a.4 q.5.5 b.4 in
      let later = p.5.3 ∙ (λ i. second.remarks i ++ body.inner i) ∙ sym q.5.3 in
      let inner = p.3 ∙ (λ i. first.remarks i ++ later i) ∙ sym q.3 in
      record {
        unit = λ i. record { head = head.remarks i; name = names i; inner = inner i; declared = body.declared i; code = body.after.code i; tail = body.after.tail i };
        left = body.after.left;
      }

  -- lines that are comments alone are no unit
  no_unit : (ls ms : List FreeLine) (r : List Remark) (u : FreeUnit) (rest : List FreeLine) → ls ≡ ms → ls ≡ comment_lines r → SpellsUnit ms u rest → ⊥
  no_unit ls ms r u rest e a b = comments_alone r u.head b.2.line b.0 (sym a ∙ e ∙ b.2.whole)

  -- two lists of units, each with the comments after it
  record SameUnits (us vs : List FreeUnit) (t w : List Remark) : Type 0 where
    units : us ≡ vs
    tail : t ≡ w

  -- equal lines are the same units and comments
  units_unique : (ls ms : List FreeLine) (us vs : List FreeUnit) (t w : List Remark) → ls ≡ ms → SpellsUnits ls us t → SpellsUnits ms vs w → SameUnits us vs t w
  units_unique ls ms [] [] t w e a b = record { units = refl; tail = comments_unique t w (sym a ∙ e ∙ b) }
  units_unique ls ms [] (v ∷ vs) t w e a b = absurd (no_unit ls ms t v b.0 e a b.1)
  units_unique ls ms (u ∷ us) [] t w e a b = absurd (no_unit ms ls w u a.0 (sym e) b a.1)
  units_unique ls ms (u ∷ us) (v ∷ vs) t w e a b =
      let same = unit_unique ls ms u v a.0 b.0 e a.1 b.1 in
      let behind = units_unique a.0 b.0 us vs t w same.left a.2 b.2 in
      record { units = λ i. same.unit i ∷ behind.units i; tail = behind.tail }

  -- ---- programs

  -- a text is one program at most
  pub program_unique : (text : List ℕ) (p q : FreeProgram) → SpellsText text p → SpellsText text q → p ≡ q
  program_unique text p q a b =
      let same = units_unique (map free_line_of (cut text)) (map free_line_of (cut text)) p.units q.units p.tail q.tail refl a.spelled b.spelled in
      λ i. record { units = same.units i; tail = same.tail i }
