-- What is read of a statement is spelled.
use Rattle.std.proofs.Common.{◌≡◌, ℕ, Bool, true, false, List, [], ◌∷◌, ◌++◌, map, codes, Option, Some, None, refl, sym, ap, ◌∙◌, subst}
use Rattle.std.specs.Prelude.{if◌then◌else◌}
use Rattle.std.specs.Option.{option_map, option_and_then}
use Rattle.std.specs.Str.{bytes_eq}
use Rattle.text_base.specs.Pieces.{Piece, plain}
use Rattle.text_base.specs.Trees.{Expr}
use Rattle.text_base.proofs.CharTests.{same_bytes}
use Rattle.text_base.proofs.Optional.{went, mapped}
use Rattle.tree77.specs.Forms.{ahead, one, text, behind_group}
use Rattle.tree77.specs.FormTable as sort
use Rattle.tree77.specs.FormTable.{Sort}
use Rattle.tree77.specs.FormWords.{unsupported}
use Rattle.tree77.specs.Kinds as kind
use Rattle.tree77.specs.Kinds.{Kind, outline_of}
use Rattle.tree77.specs.Lexemes.{Part, first_lowest}
use Rattle.tree77.specs.Spelling.{HasKind, HasForm, sort_in, keyword_sorts, size_sorts, IsBehind, IsFormatBody, IsFormatStatement, IsTypedHeader, has_labels, has_then, if_labels, if_block}
use Rattle.tree77.specs.Spelling.{stand_in, unread_function, shown_word, IsKeywordStatement, keyword_form, keyword_typed, keyword_if, IsSpelledAs, IsPlainStatement, IsGuarded, IsWideStatement, wide_plain, wide_logical}
use Rattle.tree77.specs.Statements as s
use Rattle.tree77.specs.Statements.{Statement, Type77, Simple, header, declared, simple, guarded, if_then}
use Rattle.scan77.specs.KindReading.{read_kind}
use Rattle.scan77.specs.PieceSlice.{behind_plain, split_group, split_size}
use Rattle.format77.specs.Reading.{format_of}
use Rattle.format77.specs.TextReading.{items_and_parts}
use Rattle.forms77.specs.Whole.{whole_of}
use Rattle.parse77.specs.Reading.{Read, read_behind, read_body, read_format, with_type, lower_of, joined, read_sized, read_header, behind_type, read_typed, untyped_or, read_function, read_branch, read_if}
use Rattle.parse77.specs.Reading.{read_keyword, read_refused, read_as, no_other, guards, read_guarded, read_statement}
use Rattle.parse77.proofs.LowestParts.{lowest_of_both}
use Rattle.parse77.proofs.StatementLaws.{Laws}
use Rattle.parse77.proofs.WordPieces.{word_before}

-- it is spelled with some parts, of which this is the lowest
abbrev pub Found : (List Part → Type 0) → Option Part → Type 0
Found IsSo lowest = (ps : List Part) × IsSo ps × (lowest ≡ first_lowest ps)

-- what was read, and its parts
same_parts : (r : Statement × Option Part) (x : Statement) (lowest : Option Part) → r ≡ (x, lowest) → (r.0 ≡ x) × (r.1 ≡ lowest)
same_parts r x lowest e = (ap (λ (p : Statement × Option Part). p.0) e, ap (λ (p : Statement × Option Part). p.1) e)

-- what was read with this part beside it
with_part : (o : Option Statement) (k : Option Part) (x : Statement) (lowest : Option Part) → option_map {U = Statement × Option Part} (λ y. (y, k)) o ≡ Some (x, lowest) → (o ≡ Some x) × (k ≡ lowest)
with_part None k x lowest e = absurd cc
with_part (Some y) k x lowest e =
    let same : ◌≡◌ {A = Statement × Option Part} (y, k) (x, lowest) = cc in
    let p = same_parts (y, k) x lowest same in (ap Some p.0, p.1)

-- ---- two parts as one

-- what two parts of a statement were read as
record Both (join : Statement → Statement → Option Statement) (first second : Read) (x : Statement) (lowest : Option Part) : Type 0 where
  pub left : Statement × Option Part
  pub right : Statement × Option Part
  pub left_was : first ≡ Some left
  pub right_was : second ≡ Some right
  pub joins : join left.0 right.0 ≡ Some x
  pub least : lower_of left.1 right.1 ≡ lowest

both : (join : Statement → Statement → Option Statement) (first second : Read) (x : Statement) (lowest : Option Part) → joined join first second ≡ Some (x, lowest) → Both join first second x lowest
both join first second x lowest e =
    let a = went first (λ a. option_and_then (λ b. option_map (λ y. (y, lower_of a.1 b.1)) (join a.0 b.0)) second) (x, lowest) e in
    let b = went second (λ b. option_map (λ y. (y, lower_of a.from.1 b.1)) (join a.from.0 b.0)) (x, lowest) a.is in
    let p = with_part (join a.from.0 b.from.0) (lower_of a.from.1 b.from.1) x lowest b.is in
    record {
      left = a.from;
      right = b.from;
      left_was = a.was;
      right_was = b.was;
      joins = p.0;
      least = p.1;
    }

-- the lowest of both
least_of_both : (a b lowest : Option Part) (ps qs : List Part) → lower_of a b ≡ lowest → a ≡ first_lowest ps → b ≡ first_lowest qs → lowest ≡ first_lowest (ps ++ qs)
least_of_both a b lowest ps qs e f g = sym e ∙ (λ i. lower_of (f i) (g i)) ∙ sym (lowest_of_both ps qs)

-- a type and a header without one
record Typed (a b x : Statement) : Type 0 where
  pub type : Type77
  pub name : List ℕ
  pub dummies : List (List ℕ)
  pub left : a ≡ declared (s.typed type [])
  pub right : b ≡ header (s.function None name dummies)
  pub whole : x ≡ header (s.function (Some type) name dummies)

typed_of : (a b x : Statement) → with_type a b ≡ Some x → Typed a b x
typed_of (declared (s.typed t [])) (header (s.function None name ds)) x e = record { type = t; name = name; dummies = ds; left = refl; right = refl; whole = cc }
typed_of a b x e = absurd cc

-- a condition and what it guards
record Guards (a b x : Statement) : Type 0 where
  pub test : Expr
  pub action : Simple
  pub left : a ≡ if_then test
  pub right : b ≡ simple action
  pub whole : x ≡ guarded test action

guards_of : (a b x : Statement) → guards a b ≡ Some x → Guards a b x
guards_of (if_then e) (simple a) x is = record { test = e; action = a; left = refl; right = refl; whole = cc }
guards_of a b x e = absurd cc

-- what a kind is read as: a plain statement, or what is read under a logical IF
data Shape (under : List Piece → List Piece → Read) (k : Kind) (pieces : List Piece) (x : Statement) (lowest : Option Part) : Type 0 where
  shape_plain : Found (IsSpelledAs k pieces x) lowest → Shape under k pieces x lowest
  shape_under : {rest front back : List Piece} → k ≡ kind.keyword (codes "IF") → pieces ≡ map plain (codes "IF") ++ rest → has_labels rest ≡ false → has_then rest ≡ false → rest ≡ front ++ back
      → under front back ≡ Some (x, lowest) → Shape under k pieces x lowest

module _ (l : Laws) where
  behind_found : (word : List ℕ) (k : Sort) (pieces : List Piece) (x : Statement) (lowest : Option Part) → read_behind word k pieces ≡ Some (x, lowest) → Found (IsBehind word k pieces x) lowest
  behind_found word k pieces x lowest e =
      let w = went (behind_plain word pieces) (whole_of k) (x, lowest) e in
      let f = l.form_found k w.from x lowest w.is in
      (f.0, record { rest = w.from; whole = word_before word pieces w.from w.was; formed = f.1 }, f.2)

  format_found : (pieces : List Piece) (x : Statement) (lowest : Option Part) → read_format pieces ≡ Some (x, lowest) → Found (IsFormatStatement pieces x) lowest
  format_found pieces x lowest e =
      let w = went (behind_plain (codes "FORMAT") pieces) read_body (x, lowest) e in
      let m = mapped (items_and_parts (format_of 0 w.from)) (λ r. (declared (s.format r.0), first_lowest r.1)) (x, lowest) w.is in
      let same = same_parts (declared (s.format m.from.0), first_lowest m.from.1) x lowest m.is in
      let body = subst (λ y. IsFormatBody w.from y m.from.1) same.0 (l.body_found w.from m.from.0 m.from.1 m.was) in
      (m.from.1, record { rest = w.from; whole = word_before (codes "FORMAT") pieces w.from w.was; body = body }, sym same.1)

  -- ---- FUNCTION

  header_found : (word : List ℕ) (k : Sort) (pieces rest : List Piece) (x : Statement) (lowest : Option Part) → sort_in size_sorts word ≡ Some k → pieces ≡ map plain word ++ rest
      → read_header k rest ≡ Some (x, lowest) → Found (IsTypedHeader pieces x) lowest
  header_found word k pieces rest x lowest listed whole e =
      let w = went (split_size rest) (read_sized k) (x, lowest) e in
      let b = both with_type (whole_of k w.from.0) (read_behind (codes "FUNCTION") sort.function_sort w.from.1) x lowest w.is in
      let t = typed_of b.left.0 b.right.0 x b.joins in
      let f = l.form_found k w.from.0 b.left.0 b.left.1 b.left_was in
      let h = behind_found (codes "FUNCTION") sort.function_sort w.from.1 b.right.0 b.right.1 b.right_was in (
        f.0 ++ h.0,
        record {
          word = word;
          of = k;
          size = w.from.0;
          rest = h.1.rest;
          type = t.type;
          name = t.name;
          dummies = t.dummies;
          first = f.0;
          second = h.0;
          listed = listed;
          whole = whole ∙ ap (λ (p : List Piece). map plain word ++ p) (l.size_parted rest w.from.0 w.from.1 w.was ∙ ap (λ (p : List Piece). w.from.0 ++ p) h.1.whole);
          sized = subst (λ y. HasForm k w.from.0 y f.0) t.left f.1;
          headed = subst (λ y. HasForm sort.function_sort h.1.rest y h.0) t.right h.1.formed;
          is = t.whole;
          parts = refl;
        },
        least_of_both b.left.1 b.right.1 lowest f.0 h.0 b.least f.2 h.2,
      )

  -- behind one type, or as others say
  type_found : (word : List ℕ) (k : Sort) → sort_in size_sorts word ≡ Some k → (others : Read) (pieces : List Piece) (x : Statement) (lowest : Option Part)
      → (others ≡ Some (x, lowest) → Found (IsTypedHeader pieces x) lowest) → behind_type (behind_plain word pieces) k others ≡ Some (x, lowest) → Found (IsTypedHeader pieces x) lowest
  type_found word k listed others pieces x lowest else_found e = go (behind_plain word pieces) refl e
    where
      go : (o : Option (List Piece)) → behind_plain word pieces ≡ o → behind_type o k others ≡ Some (x, lowest) → Found (IsTypedHeader pieces x) lowest
      go None was e = else_found e
      go (Some rest) was e = header_found word k pieces rest x lowest listed (word_before word pieces rest was) e

  function_found : (pieces : List Piece) (x : Statement) (lowest : Option Part) → read_function pieces ≡ Some (x, lowest) → Found (IsKeywordStatement (codes "FUNCTION") pieces x) lowest
  function_found pieces x lowest e = go (behind_plain (codes "FUNCTION") pieces) refl e
    where
      go : (o : Option (List Piece)) → behind_plain (codes "FUNCTION") pieces ≡ o → untyped_or o (read_typed size_sorts pieces) ≡ Some (x, lowest) → Found (IsKeywordStatement (codes "FUNCTION") pieces x) lowest
      go (Some rest) was e =
          let f = l.form_found sort.function_sort rest x lowest e in
          (f.0, keyword_form refl (record { rest = rest; whole = word_before (codes "FUNCTION") pieces rest was; formed = f.1 }), f.2)
      go None was e =
          let third = type_found (codes "CHARACTER") sort.character_size_sort refl None pieces x lowest (λ none. absurd cc) in
          let second = type_found (codes "LOGICAL") sort.logical_size_sort refl (read_typed ((codes "CHARACTER", sort.character_size_sort) ∷ []) pieces) pieces x lowest third in
          let t = type_found (codes "INTEGER") sort.integer_size_sort refl (read_typed ((codes "LOGICAL", sort.logical_size_sort) ∷ (codes "CHARACTER", sort.character_size_sort) ∷ []) pieces) pieces x lowest second e in
          (t.0, keyword_typed refl t.1, t.2)

  -- ---- IF

  if_found : (under : List Piece → List Piece → Read) (pieces : List Piece) (x : Statement) (lowest : Option Part) → read_if under pieces ≡ Some (x, lowest) → Shape under (kind.keyword (codes "IF")) pieces x lowest
  if_found under pieces x lowest e =
      let w = went (behind_plain (codes "IF") pieces) (λ rest. option_and_then (read_branch under rest) (split_group rest)) (x, lowest) e in
      let g = went (split_group w.from) (read_branch under w.from) (x, lowest) w.is in
      let p = l.group_parted w.from g.from.0 g.from.1 g.was in
      go w.from g.from.0 g.from.1 (word_before (codes "IF") pieces w.from w.was) p.0 p.1 (ahead (one (codes "0")) g.from.1) refl (ahead (text (codes "THEN") (0 ∷ [])) g.from.1) refl g.is
    where
      go : (rest front back : List Piece) → pieces ≡ map plain (codes "IF") ++ rest → rest ≡ front ++ back → behind_group 0 rest ≡ back → (a : Bool) → ahead (one (codes "0")) back ≡ a → (b : Bool) → ahead (text (codes "THEN") (0 ∷ [])) back ≡ b
          → (if a then whole_of sort.arithmetic_sort rest else (if b then whole_of sort.then_sort rest else under front back)) ≡ Some (x, lowest) → Shape under (kind.keyword (codes "IF")) pieces x lowest
      go rest front back whole parts group true a_is b b_is e =
          let f = l.form_found sort.arithmetic_sort rest x lowest e in
          shape_plain (f.0, keyword_if refl whole (if_labels (ap (ahead (one (codes "0"))) group ∙ a_is) f.1), f.2)
      go rest front back whole parts group false a_is true b_is e =
          let f = l.form_found sort.then_sort rest x lowest e in
          shape_plain (f.0, keyword_if refl whole (if_block (ap (ahead (one (codes "0"))) group ∙ a_is) (ap (ahead (text (codes "THEN") (0 ∷ []))) group ∙ b_is) f.1), f.2)
      go rest front back whole parts group false a_is false b_is e =
          shape_under refl whole (ap (ahead (one (codes "0"))) group ∙ a_is) (ap (ahead (text (codes "THEN") (0 ∷ []))) group ∙ b_is) parts e

  -- ---- all kinds

  keyword_found : (under : List Piece → List Piece → Read) (word : List ℕ) (pieces : List Piece) (x : Statement) (lowest : Option Part) → read_keyword under word pieces ≡ Some (x, lowest) → Shape under (kind.keyword word) pieces x lowest
  keyword_found under word pieces x lowest e = go (bytes_eq word (codes "FUNCTION")) refl (bytes_eq word (codes "IF")) refl e
    where
      go : (a : Bool) → bytes_eq word (codes "FUNCTION") ≡ a → (b : Bool) → bytes_eq word (codes "IF") ≡ b
          → (if a then read_function pieces else (if b then read_if under pieces else option_and_then (λ k. read_behind word k pieces) (sort_in keyword_sorts word))) ≡ Some (x, lowest) → Shape under (kind.keyword word) pieces x lowest
      go true a_is b b_is e = subst (λ w. Shape under (kind.keyword w) pieces x lowest) (sym (same_bytes word (codes "FUNCTION") a_is)) (shape_plain (function_found pieces x lowest e))
      go false a_is true b_is e = subst (λ w. Shape under (kind.keyword w) pieces x lowest) (sym (same_bytes word (codes "IF") b_is)) (if_found under pieces x lowest e)
      go false a_is false b_is e =
          let w = went (sort_in keyword_sorts word) (λ k. read_behind word k pieces) (x, lowest) e in
          let f = behind_found word w.from pieces x lowest w.is in
          shape_plain (f.0, keyword_form w.was f.1, f.2)

  refused_found : (y : Statement) (word : List ℕ) (x : Statement) (lowest : Option Part) → read_refused y word ≡ Some (x, lowest) → (x ≡ y) × (lowest ≡ Some (unsupported word))
  refused_found y word x lowest e =
      let same : ◌≡◌ {A = Statement × Option Part} (x, lowest) (y, Some (unsupported word)) = cc in
      same_parts (x, lowest) y (Some (unsupported word)) same

  as_found : (under : List Piece → List Piece → Read) (k : Kind) (pieces : List Piece) (x : Statement) (lowest : Option Part) → read_as under k pieces ≡ Some (x, lowest) → Shape under k pieces x lowest
  as_found under kind.format pieces x lowest e = shape_plain (format_found pieces x lowest e)
  as_found under kind.loop pieces x lowest e = shape_plain (behind_found (codes "DO") sort.do_sort pieces x lowest e)
  as_found under kind.assign pieces x lowest e = shape_plain (l.form_found sort.assignment_sort pieces x lowest e)
  as_found under (kind.keyword word) pieces x lowest e = keyword_found under word pieces x lowest e
  as_found under (kind.unsupported word) pieces x lowest e =
      let r = refused_found (stand_in word) (shown_word word) x lowest e in
      shape_plain (unsupported (shown_word word) ∷ [], (r.0, refl), r.1)
  as_found under (kind.refused_function type) pieces x lowest e =
      let r = refused_found unread_function type x lowest e in
      shape_plain (unsupported type ∷ [], (r.0, refl), r.1)
  as_found under kind.nothing pieces x lowest e = absurd cc

  -- ---- all statements

  -- a statement but a logical IF
  plain_found : (label : ℕ) (pieces : List Piece) (x : Statement) (lowest : Option Part) → read_as no_other (read_kind label (outline_of pieces)) pieces ≡ Some (x, lowest) → Found (IsPlainStatement label pieces x) lowest
  plain_found label pieces x lowest e = go (as_found no_other (read_kind label (outline_of pieces)) pieces x lowest e)
    where
      go : Shape no_other (read_kind label (outline_of pieces)) pieces x lowest → Found (IsPlainStatement label pieces x) lowest
      go (shape_plain f) = (f.0, record { of = read_kind label (outline_of pieces); kind = l.kind_found label (outline_of pieces); spelled = f.1 }, f.2)
      go (shape_under is whole no_labels no_then parts e) = absurd cc

  guarded_found : (rest front under : List Piece) (x : Statement) (lowest : Option Part) → rest ≡ front ++ under → read_guarded front under ≡ Some (x, lowest) → Found (IsGuarded rest x) lowest
  guarded_found rest front under x lowest parts e =
      let b = both guards (whole_of sort.condition_sort front) (read_as no_other (read_kind 0 (outline_of under)) under) x lowest e in
      let g = guards_of b.left.0 b.right.0 x b.joins in
      let f = l.form_found sort.condition_sort front b.left.0 b.left.1 b.left_was in
      let h = plain_found 0 under b.right.0 b.right.1 b.right_was in (
        f.0 ++ h.0,
        record {
          front = front;
          under = under;
          test = g.test;
          action = g.action;
          first = f.0;
          second = h.0;
          whole = parts;
          condition = subst (λ y. HasForm sort.condition_sort front y f.0) g.left f.1;
          statement = subst (λ y. IsPlainStatement 0 under y h.0) g.right h.1;
          is = g.whole;
          parts = refl;
        },
        least_of_both b.left.1 b.right.1 lowest f.0 h.0 b.least f.2 h.2,
      )

  -- what is read is spelled, with this lowest part
  pub is_found : (label : ℕ) (pieces : List Piece) (x : Statement) (lowest : Option Part) → read_statement label pieces ≡ Some (x, lowest) → Found (IsWideStatement label pieces x) lowest
  unfolding read_statement
  is_found label pieces x lowest e = go (as_found read_guarded (read_kind label (outline_of pieces)) pieces x lowest e)
    where
      has : HasKind label pieces (read_kind label (outline_of pieces))
      has = l.kind_found label (outline_of pieces)

      go : Shape read_guarded (read_kind label (outline_of pieces)) pieces x lowest → Found (IsWideStatement label pieces x) lowest
      go (shape_plain f) = (f.0, wide_plain (record { of = read_kind label (outline_of pieces); kind = has; spelled = f.1 }), f.2)
      go (shape_under {rest} {front} {back} is whole no_labels no_then parts e) =
          let g = guarded_found rest front back x lowest parts e in
          (g.0, wide_logical (record { rest = rest; kind = subst (HasKind label pieces) is has; whole = whole; no_labels = no_labels; no_then = no_then; guarded = g.1 }), g.2)
