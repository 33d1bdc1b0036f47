-- What is spelled as a statement is read.
use Rattle.std.proofs.Common.{◌≡◌, ℕ, Bool, true, false, List, [], ◌∷◌, ◌++◌, map, codes, Option, Some, None, refl, sym, ap, ◌∙◌, subst}
use Rattle.std.specs.Prelude.{if◌then◌else◌}
use Rattle.std.specs.Option.{option_map, option_and_then}
use Rattle.std.specs.Str.{bytes_eq}
use Rattle.text_base.specs.Pieces.{Piece, plain}
use Rattle.text_base.proofs.CharTests.{same_bytes}
use Rattle.tree77.specs.Forms.{ahead, one, text, behind_group}
use Rattle.tree77.specs.FormTable as sort
use Rattle.tree77.specs.FormTable.{Sort}
use Rattle.tree77.specs.Kinds as kind
use Rattle.tree77.specs.Kinds.{Kind, outline_of}
use Rattle.tree77.specs.Lexemes.{Part, first_lowest}
use Rattle.tree77.specs.Spelling.{Sorts, HasKind, HasForm, sort_in, keyword_sorts, size_sorts, IsBehind, IsFormatBody, IsFormatStatement, IsTypedHeader, has_labels, has_then, IsPlainIf, if_labels, if_block}
use Rattle.tree77.specs.Spelling.{IsKeywordStatement, keyword_form, keyword_typed, keyword_if, IsSpelledAs, IsPlainStatement, IsGuarded, IsWideStatement, wide_plain, wide_logical}
use Rattle.tree77.specs.Statements as s
use Rattle.tree77.specs.Statements.{Statement, header, declared, simple, guarded, if_then}
use Rattle.scan77.specs.KindReading.{read_kind}
use Rattle.scan77.specs.PieceSlice.{behind_plain, split_group}
use Rattle.forms77.specs.Whole.{whole_of}
use Rattle.parse77.specs.Reading.{Read, read_behind, read_body, read_format, with_type, joined, read_sized, read_header, read_function, read_branch, read_if, read_keyword, read_as, no_other, guards, read_guarded, read_statement}
use Rattle.parse77.proofs.LowestParts.{lowest_of_both}
use Rattle.parse77.proofs.StatementLaws.{Laws}
use Rattle.parse77.proofs.WordPieces.{word_behind}

-- ---- words

-- a word of a list, or one of the others
listed_or : (word other : List ℕ) (j k : Sort) (ks : Sorts) (P : List ℕ → Sort → Type 0) → P other j → (sort_in ks word ≡ Some k → P word k) → sort_in ((other, j) ∷ ks) word ≡ Some k → P word k
listed_or word other j k ks P first others e = go (bytes_eq other word) refl e
  where
    go : (b : Bool) → bytes_eq other word ≡ b → (if b then Some j else sort_in ks word) ≡ Some k → P word k
    go true is e = let same : j ≡ k = cc in subst (λ w. P w k) (same_bytes other word is) (subst (P other) same first)
    go false is e = others e

-- the types of FUNCTION begin with other letters than FUNCTION, and with letters of their own
abbrev ReadsHeader : List Piece → List ℕ → Sort → Type 0
ReadsHeader rest word k = read_function (map plain word ++ rest) ≡ read_header k rest

typed_reads : (word : List ℕ) (k : Sort) (rest : List Piece) → sort_in size_sorts word ≡ Some k → ReadsHeader rest word k
typed_reads word k rest =
    listed_or word (codes "INTEGER") sort.integer_size_sort k ((codes "LOGICAL", sort.logical_size_sort) ∷ (codes "CHARACTER", sort.character_size_sort) ∷ []) (ReadsHeader rest) refl
    (listed_or word (codes "LOGICAL") sort.logical_size_sort k ((codes "CHARACTER", sort.character_size_sort) ∷ []) (ReadsHeader rest) refl
    (listed_or word (codes "CHARACTER") sort.character_size_sort k [] (ReadsHeader rest) refl (λ e. absurd cc)))

-- what two parts that are known are as one
joined_read : (join : Statement → Statement → Option Statement) (first second : Read) (a b x : Statement) (ps qs rs : List Part) → first ≡ Some (a, first_lowest ps) → second ≡ Some (b, first_lowest qs)
    → join a b ≡ Some x → rs ≡ ps ++ qs → joined join first second ≡ Some (x, first_lowest rs)
joined_read join first second a b x ps qs rs e f g parts =
    (λ i. joined join (e i) (f i))
    ∙ ap (option_map (λ y. (y, _))) g
    ∙ ap (λ o. Some (x, o)) (sym (lowest_of_both ps qs) ∙ ap first_lowest (sym parts))

module _ (l : Laws) where
  behind_read : (word : List ℕ) (k : Sort) (pieces : List Piece) (x : Statement) (ps : List Part) → IsBehind word k pieces x ps → read_behind word k pieces ≡ Some (x, first_lowest ps)
  behind_read word k pieces x ps b =
      ap (λ p. option_and_then (whole_of k) (behind_plain word p)) b.whole
      ∙ ap (option_and_then (whole_of k)) (word_behind word b.rest)
      ∙ l.form_only k b.rest x ps b.formed

  body_read : (rest : List Piece) (x : Statement) (ps : List Part) → IsFormatBody rest x ps → read_body rest ≡ Some (x, first_lowest ps)
  body_read rest x ps b =
      let r = l.body_only rest x ps b in
      ap (option_map (λ r. (declared (s.format r.0), first_lowest r.1))) r.2 ∙ ap (λ y. Some (y, first_lowest ps)) (sym r.1)

  format_read : (pieces : List Piece) (x : Statement) (ps : List Part) → IsFormatStatement pieces x ps → read_format pieces ≡ Some (x, first_lowest ps)
  format_read pieces x ps f =
      ap (λ p. option_and_then read_body (behind_plain (codes "FORMAT") p)) f.whole
      ∙ ap (option_and_then read_body) (word_behind (codes "FORMAT") f.rest)
      ∙ body_read f.rest x ps f.body

  typed_read : (pieces : List Piece) (x : Statement) (ps : List Part) → IsTypedHeader pieces x ps → read_function pieces ≡ Some (x, first_lowest ps)
  typed_read pieces x ps t =
      let behind = map plain (codes "FUNCTION") ++ t.rest in
      ap read_function t.whole
      ∙ typed_reads t.word t.of (t.size ++ behind) t.listed
      ∙ ap (option_and_then (read_sized t.of)) (l.size t.of t.word t.size t.rest (declared (s.typed t.type [])) t.first t.listed t.sized)
      ∙ joined_read with_type (whole_of t.of t.size) (read_behind (codes "FUNCTION") sort.function_sort behind) (declared (s.typed t.type [])) (header (s.function None t.name t.dummies)) x t.first t.second ps
      (l.form_only t.of t.size (declared (s.typed t.type [])) t.first t.sized)
      (behind_read (codes "FUNCTION") sort.function_sort behind (header (s.function None t.name t.dummies)) t.second (record { rest = t.rest; whole = refl; formed = t.headed }))
      (ap Some (sym t.is))
      t.parts

  -- ---- IF

  -- behind IF stand a group and other pieces, by which it is told
  group_read : (under : List Piece → List Piece → Read) (rest front back : List Piece) → split_group rest ≡ Some (front, back) → behind_group 0 rest ≡ back
      → read_if under (map plain (codes "IF") ++ rest) ≡ (if has_labels rest then whole_of sort.arithmetic_sort rest else (if has_then rest then whole_of sort.then_sort rest else under front back))
  group_read under rest front back e group =
      ap (option_and_then (read_branch under rest)) e
      ∙ ap (λ (p : List Piece). if ahead (one (codes "0")) p then whole_of sort.arithmetic_sort rest else (if ahead (text (codes "THEN") (0 ∷ [])) p then whole_of sort.then_sort rest else under front back)) (sym group)

  plain_if_read : (under : List Piece → List Piece → Read) (pieces rest : List Piece) (x : Statement) (ps : List Part) → pieces ≡ map plain (codes "IF") ++ rest → IsPlainIf rest x ps → read_if under pieces ≡ Some (x, first_lowest ps)
  plain_if_read under pieces rest x ps whole (if_labels labels formed) =
      let g = l.labels rest x ps formed in
      ap (read_if under) whole
      ∙ group_read under rest g.0 g.1 g.2 g.3
      ∙ ap (λ b. if b then whole_of sort.arithmetic_sort rest else (if has_then rest then whole_of sort.then_sort rest else under g.0 g.1)) labels
      ∙ l.form_only sort.arithmetic_sort rest x ps formed
  plain_if_read under pieces rest x ps whole (if_block no_labels then_ formed) =
      let g = l.block rest x ps formed in
      ap (read_if under) whole
      ∙ group_read under rest g.0 g.1 g.2 g.3
      ∙ ap (λ b. if b then whole_of sort.arithmetic_sort rest else (if has_then rest then whole_of sort.then_sort rest else under g.0 g.1)) no_labels
      ∙ ap (λ b. if b then whole_of sort.then_sort rest else under g.0 g.1) then_
      ∙ l.form_only sort.then_sort rest x ps formed

  -- ---- all kinds

  keyword_read : (under : List Piece → List Piece → Read) (word : List ℕ) (pieces : List Piece) (x : Statement) (ps : List Part) → IsKeywordStatement word pieces x ps → read_keyword under word pieces ≡ Some (x, first_lowest ps)
  keyword_read under word pieces x ps (keyword_form {k} listed b) = go (bytes_eq word (codes "FUNCTION")) refl (bytes_eq word (codes "IF")) refl
    where
      as_function : codes "FUNCTION" ≡ word → read_function pieces ≡ Some (x, first_lowest ps)
      as_function same =
          let k_is : sort.function_sort ≡ k = (let e : Some sort.function_sort ≡ Some k = ap (sort_in keyword_sorts) same ∙ listed in cc) in
          let formed = subst (λ k. HasForm k b.rest x ps) (sym k_is) b.formed in
          ap read_function (b.whole ∙ ap (λ w. map plain w ++ b.rest) (sym same)) ∙ l.form_only sort.function_sort b.rest x ps formed

      go : (a : Bool) → bytes_eq word (codes "FUNCTION") ≡ a → (i : Bool) → bytes_eq word (codes "IF") ≡ i
          → (if a then read_function pieces else (if i then read_if under pieces else option_and_then (λ k. read_behind word k pieces) (sort_in keyword_sorts word))) ≡ Some (x, first_lowest ps)
      go true a_is i i_is = as_function (sym (same_bytes word (codes "FUNCTION") a_is))
      go false a_is true i_is = absurd (let e : None ≡ Some k = ap (sort_in keyword_sorts) (sym (same_bytes word (codes "IF") i_is)) ∙ listed in cc)
      go false a_is false i_is = ap (option_and_then (λ k. read_behind word k pieces)) listed ∙ behind_read word k pieces x ps b
  keyword_read under word pieces x ps (keyword_typed is t) = ap (λ w. read_keyword under w pieces) is ∙ typed_read pieces x ps t
  keyword_read under word pieces x ps (keyword_if {rest} is whole f) =
      ap (λ w. read_keyword under w pieces) is ∙ plain_if_read under pieces rest x ps (whole ∙ ap (λ w. map plain w ++ rest) is) f

  as_read : (under : List Piece → List Piece → Read) (k : Kind) (pieces : List Piece) (x : Statement) (ps : List Part) → IsSpelledAs k pieces x ps → read_as under k pieces ≡ Some (x, first_lowest ps)
  as_read under kind.format pieces x ps f = format_read pieces x ps f
  as_read under kind.loop pieces x ps b = behind_read (codes "DO") sort.do_sort pieces x ps b
  as_read under kind.assign pieces x ps f = l.form_only sort.assignment_sort pieces x ps f
  as_read under (kind.keyword word) pieces x ps f = keyword_read under word pieces x ps f
  as_read under (kind.unsupported word) pieces x ps r = λ i. Some (sym r.0 i, first_lowest (sym r.1 i))
  as_read under (kind.refused_function type) pieces x ps r = λ i. Some (sym r.0 i, first_lowest (sym r.1 i))
  as_read under kind.nothing pieces x ps r = absurd r

  -- ---- all statements

  kind_read : (under : List Piece → List Piece → Read) (label : ℕ) (pieces : List Piece) (k : Kind) → HasKind label pieces k → read_as under (read_kind label (outline_of pieces)) pieces ≡ read_as under k pieces
  kind_read under label pieces k has = ap (λ k. read_as under k pieces) (sym (l.kind_only label (outline_of pieces) k has))

  -- a statement but a logical IF, whatever is read under one
  plain_read : (under : List Piece → List Piece → Read) (label : ℕ) (pieces : List Piece) (x : Statement) (ps : List Part) → IsPlainStatement label pieces x ps
      → read_as under (read_kind label (outline_of pieces)) pieces ≡ Some (x, first_lowest ps)
  plain_read under label pieces x ps p = kind_read under label pieces p.of p.kind ∙ as_read under p.of pieces x ps p.spelled

  guarded_read : (rest : List Piece) (x : Statement) (ps : List Part) (g : IsGuarded rest x ps) → read_guarded g.front g.under ≡ Some (x, first_lowest ps)
  guarded_read rest x ps g =
      joined_read guards (whole_of sort.condition_sort g.front) (read_as no_other (read_kind 0 (outline_of g.under)) g.under) (if_then g.test) (simple g.action) x g.first g.second ps
      (l.form_only sort.condition_sort g.front (if_then g.test) g.first g.condition)
      (plain_read no_other 0 g.under (simple g.action) g.second g.statement)
      (ap Some (sym g.is))
      g.parts

  -- what is spelled is read, with the lowest part
  pub is_read : (label : ℕ) (pieces : List Piece) (x : Statement) (ps : List Part) → IsWideStatement label pieces x ps → read_statement label pieces ≡ Some (x, first_lowest ps)
  unfolding read_statement
  is_read label pieces x ps (wide_plain p) = plain_read read_guarded label pieces x ps p
  is_read label pieces x ps (wide_logical f) =
      let g = f.guarded in
      let split = ap split_group g.whole ∙ l.condition g.front g.under (if_then g.test) g.first g.condition in
      let parted = l.group_parted f.rest g.front g.under split in
      kind_read read_guarded label pieces (kind.keyword (codes "IF")) f.kind
      ∙ ap (read_if read_guarded) f.whole
      ∙ group_read read_guarded f.rest g.front g.under split parted.1
      ∙ ap (λ b. if b then whole_of sort.arithmetic_sort f.rest else (if has_then f.rest then whole_of sort.then_sort f.rest else read_guarded g.front g.under)) f.no_labels
      ∙ ap (λ b. if b then whole_of sort.then_sort f.rest else read_guarded g.front g.under) f.no_then
      ∙ guarded_read f.rest x ps g
