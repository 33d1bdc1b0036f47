-- The text of a program that can be written is read as that program.
use Rattle.std.proofs.Common.{◌≡◌, ℕ, suc, true, List, [], ◌∷◌, ◌++◌, map, codes, refl, sym, ap, ◌∙◌, subst, append_assoc, arith}
use Rattle.std.specs.Prelude.{flat_map}
use Rattle.std.specs.List.{list_all}
use Rattle.std.proofs.lemmas.List.{append-nil}
use Rattle.std.proofs.lemmas.Bool.{and_parts}
use Rattle.text_base.specs.Chars.{is_name_byte, is_name}
use Rattle.text_base.specs.Trees.{Expr, Action, name, assign}
use Rattle.text_base.specs.Remarks.{Remark, remarks_text, are_writable_remarks}
use Rattle.tree90.specs.Tree.{simple, Code, done, item, Declared, integer_object, FreeUnit, FreeProgram}
use Rattle.tree90.specs.FreeTokens.{Token, plain, tokens}
use Rattle.tree90.specs.FreeText.{FreeStatement, header, implicit_none, save, declaration, executable, end, SpellsFree, free_header, free_implicit, free_save, free_integer, free_assign, free_stop, free_end, FreeLine, comment_lines, SpellsNext, SpellsParts, SpellsCode, SpellsUnit, SpellsUnits, SpellsText}
use Rattle.tree90.specs.Printed.{line, expr_text, action_text, code_text, declared_text, unit_text, printed}
use Rattle.tree90.specs.Proper.{IsWritableAction, writable_assign, writable_stop, IsWritableCode, declared_name, IsWritableUnit, AreWritableUnits, IsWritable}
use Rattle.tree90.proofs.TokenLemmas.{has_no_break, name_bytes_unbroken, NameWord, name_word, name_token, Reads, Any, join, word_mark}
use Rattle.tree90.proofs.WrittenExpressions.{Written, inner, written}
use Rattle.tree90.proofs.CutLemmas.{lines_of, begins_word, line_step, comments_step}

-- ---- statements

-- the text of a line that spells a statement
record LineText (text : List ℕ) (s : FreeStatement) : Type 0 where
  unbroken : has_no_break text ≡ true
  begins : begins_word text ≡ true
  spelled : SpellsFree (tokens text) s

-- a name has no LF
name_unbroken : (x : List ℕ) → is_name x ≡ true → has_no_break x ≡ true
name_unbroken x named = name_bytes_unbroken x (name_word x named).bytes

-- the header line
header_text : (x : List ℕ) → is_name x ≡ true → LineText (codes "PROGRAM " ++ x) (header x)
header_text x named = record {
  unbroken = name_unbroken x named;
  begins = refl;
  spelled = free_header (ap (λ (ts : List Token). plain (codes "PROGRAM") ∷ ts) (name_token x named)) named refl;
}

-- the first fixed line
implicit_text : LineText (codes "IMPLICIT NONE") implicit_none
implicit_text = record { unbroken = refl; begins = refl; spelled = free_implicit refl refl }

-- the second fixed line
save_text : LineText (codes "SAVE") save
save_text = record { unbroken = refl; begins = refl; spelled = free_save refl refl }

-- a declaration of an integer
integer_text : (x : List ℕ) → is_name x ≡ true → LineText (codes "INTEGER :: " ++ x) (declaration (integer_object x))
integer_text x named = record {
  unbroken = name_unbroken x named;
  begins = refl;
  spelled = free_integer (ap (λ (ts : List Token). plain (codes "INTEGER") ∷ plain (codes "::") ∷ ts) (name_token x named)) named refl;
}

-- the END line
end_text : (x : List ℕ) → is_name x ≡ true → LineText (codes "END PROGRAM " ++ x) (end x)
end_text x named = record {
  unbroken = name_unbroken x named;
  begins = refl;
  spelled = free_end (ap (λ (ts : List Token). plain (codes "END") ∷ plain (codes "PROGRAM") ∷ ts) (name_token x named)) named refl;
}

-- a name begins a word
word_begins : (x : List ℕ) → NameWord x → begins_word x ≡ true
word_begins [] w = absurd (omega (arith, w.some))
word_begins (c ∷ x) w = (and_parts (is_name_byte c) (list_all is_name_byte x) w.bytes).0

-- and what follows it changes nothing
begun_word : (x y : List ℕ) → begins_word x ≡ true → begins_word (x ++ y) ≡ true
begun_word [] y e = absurd cc
begun_word (c ∷ x) y e = e

-- the equals sign of an assignment
equals_mark : Reads Any (codes " = ") (plain (codes "=") ∷ [])
equals_mark = record { unbroken = refl; read = λ rest q. refl }

-- an assignment
assign_text : (x : List ℕ) (e : Expr) → is_name x ≡ true → Written e → LineText (x ++ codes " = " ++ expr_text e) (executable (simple (assign (name x) e)))
assign_text x e named w =
    let word = name_word x named in
    let text : List ℕ = x ++ codes " = " ++ expr_text e in
    let shown = join (join (word_mark x word) equals_mark (λ rest q. refl)) w.shown (λ rest q. tt) in
    let whole : tokens text ≡ plain x ∷ plain (codes "=") ∷ w.list =
    ap tokens (sym (append-nil text)) ∙ shown.read [] refl ∙ append-nil (plain x ∷ plain (codes "=") ∷ w.list) in
    record {
      unbroken = shown.unbroken;
      begins = begun_word (x ++ codes " = ") (expr_text e) (begun_word x (codes " = ") (word_begins x word));
      spelled = free_assign whole named (suc w.depth, inner e w (suc w.depth) (omega arith)) refl;
    }

-- an executable statement
action_line : (a : Action) → IsWritableAction a → LineText (action_text a) (executable (simple a))
action_line a (writable_assign {x} {e} named free) = assign_text x e named (written e free)
action_line a writable_stop = record { unbroken = refl; begins = refl; spelled = free_stop refl refl }

-- ---- statements after comments

-- comments and a line are read as a statement after those comments
next_step : (remarks : List Remark) (level : ℕ) (text more : List ℕ) (s : FreeStatement) → are_writable_remarks remarks ≡ true → LineText text s
    → SpellsNext (lines_of (remarks_text remarks ++ (line level text ++ more))) remarks s (lines_of more)
next_step remarks level text more s writable t = record {
  line = tokens text;
  whole = comments_step remarks (line level text ++ more) writable ∙ ap (λ (ls : List FreeLine). comment_lines remarks ++ ls) (line_step level text more t.unbroken t.begins);
  spelled = t.spelled;
}

-- the declarations have no comments
declared_step : (ds : List Declared) (more : List ℕ) → list_all (λ d. is_name (declared_name d)) ds ≡ true
    → SpellsParts (lines_of (flat_map declared_text ds ++ more)) [] (map declaration ds) (lines_of more)
declared_step [] more named = (refl, refl)
declared_step (integer_object x ∷ ds) more named =
    let parts = and_parts (is_name x) (list_all (λ d. is_name (declared_name d)) ds) named in
    let text : List ℕ = codes "INTEGER :: " ++ x in
    let after : List ℕ = flat_map declared_text ds ++ more in
    let first : SpellsNext (lines_of (line 1 text ++ after)) [] (declaration (integer_object x)) (lines_of after) =
    next_step [] 1 text after (declaration (integer_object x)) refl (integer_text x parts.0) in
    let whole : (line 1 text ++ flat_map declared_text ds) ++ more ≡ line 1 text ++ after = append_assoc (line 1 text) (flat_map declared_text ds) more in (
      [],
      [],
      lines_of after,
      refl,
      subst (λ t. SpellsNext (lines_of t) [] (declaration (integer_object x)) (lines_of after)) (sym whole) first,
      declared_step ds more parts.1,
    )

-- the statements, the comments after them and the END line
code_step : (code : Code) (tail : List Remark) (x more : List ℕ) → IsWritableCode code → are_writable_remarks tail ≡ true → is_name x ≡ true
    → SpellsCode (lines_of (code_text 1 code ++ (remarks_text tail ++ (line 0 (codes "END PROGRAM " ++ x) ++ more)))) code tail x (lines_of more)
code_step done tail x more writable tail_writable named = next_step tail 0 (codes "END PROGRAM " ++ x) more (end x) tail_writable (end_text x named)
code_step (item remarks (simple a) rest) tail x more writable tail_writable named =
    let behind : List ℕ = remarks_text tail ++ (line 0 (codes "END PROGRAM " ++ x) ++ more) in
    let after : List ℕ = code_text 1 rest ++ behind in
    let first : SpellsNext (lines_of (remarks_text remarks ++ (line 1 (action_text a) ++ after))) remarks (executable (simple a)) (lines_of after) =
    next_step remarks 1 (action_text a) after (executable (simple a)) writable.0 (action_line a writable.1) in
    let whole : (remarks_text remarks ++ line 1 (action_text a) ++ code_text 1 rest) ++ behind ≡ remarks_text remarks ++ (line 1 (action_text a) ++ after) =
    three (remarks_text remarks) (line 1 (action_text a)) (code_text 1 rest) behind in (
      lines_of after,
      subst (λ t. SpellsNext (lines_of t) remarks (executable (simple a)) (lines_of after)) (sym whole) first,
      code_step rest tail x more writable.2 tail_writable named,
    )
  where
    -- three texts before a fourth
    three : (a b c d : List ℕ) → (a ++ b ++ c) ++ d ≡ a ++ (b ++ (c ++ d))
    three a b c d = simp append_assoc

-- ---- units

-- the fixed lines and the declarations, after the comments of the unit
parts_step : (inner : List Remark) (ds : List Declared) (more : List ℕ) → are_writable_remarks inner ≡ true → list_all (λ d. is_name (declared_name d)) ds ≡ true
    → SpellsParts (lines_of (remarks_text inner ++ (line 1 (codes "IMPLICIT NONE") ++ (line 1 (codes "SAVE") ++ (flat_map declared_text ds ++ more))))) inner (implicit_none ∷ save ∷ map declaration ds) (lines_of more)
parts_step inner ds more writable named =
    let after_save : List ℕ = flat_map declared_text ds ++ more in
    let after_implicit : List ℕ = line 1 (codes "SAVE") ++ after_save in (
      inner,
      [],
      lines_of after_implicit,
      sym (append-nil inner),
      next_step inner 1 (codes "IMPLICIT NONE") after_implicit implicit_none writable implicit_text,
      ([], [], lines_of after_save, refl, next_step [] 1 (codes "SAVE") after_save save refl save_text, declared_step ds more named),
    )

-- a unit
unit_step : (u : FreeUnit) (more : List ℕ) → IsWritableUnit u → SpellsUnit (lines_of (unit_text u ++ more)) u (lines_of more)
unit_step u more w =
    let header_line : List ℕ = line 0 (codes "PROGRAM " ++ u.name) in
    let end_line : List ℕ = line 0 (codes "END PROGRAM " ++ u.name) in
    let implicit_line : List ℕ = line 1 (codes "IMPLICIT NONE") in
    let save_line : List ℕ = line 1 (codes "SAVE") in
    let declared : List ℕ = flat_map declared_text u.declared in
    let code : List ℕ = code_text 1 u.code ++ (remarks_text u.tail ++ (end_line ++ more)) in
    let parts : List ℕ = remarks_text u.inner ++ (implicit_line ++ (save_line ++ (declared ++ code))) in
    let whole : unit_text u ++ more ≡ remarks_text u.head ++ (header_line ++ parts) =
    nine (remarks_text u.head) header_line (remarks_text u.inner) implicit_line save_line declared (code_text 1 u.code) (remarks_text u.tail) end_line more in
    let first : SpellsNext (lines_of (remarks_text u.head ++ (header_line ++ parts))) u.head (header u.name) (lines_of parts) =
    next_step u.head 0 (codes "PROGRAM " ++ u.name) parts (header u.name) w.head (header_text u.name w.named) in (
      lines_of parts,
      lines_of code,
      subst (λ t. SpellsNext (lines_of t) u.head (header u.name) (lines_of parts)) (sym whole) first,
      parts_step u.inner u.declared code w.inner w.declared,
      code_step u.code u.tail u.name more w.code w.tail w.named,
    )
  where
    -- nine texts before the rest
    nine : (a b c d e f g h i more : List ℕ) → (a ++ b ++ c ++ d ++ e ++ f ++ g ++ h ++ i) ++ more ≡ a ++ (b ++ (c ++ (d ++ (e ++ (f ++ (g ++ (h ++ (i ++ more))))))))
    nine a b c d e f g h i more = simp append_assoc

-- units one after another, and the comments after the last of them
units_step : (us : List FreeUnit) (tail : List Remark) → AreWritableUnits us → are_writable_remarks tail ≡ true → SpellsUnits (lines_of (flat_map unit_text us ++ remarks_text tail)) us tail
units_step [] tail writable tail_writable =
    ap lines_of (sym (append-nil (remarks_text tail))) ∙ comments_step tail [] tail_writable ∙ append-nil (comment_lines tail)
units_step (u ∷ us) tail writable tail_writable =
    let more : List ℕ = flat_map unit_text us ++ remarks_text tail in (
      lines_of more,
      subst (λ t. SpellsUnit (lines_of t) u (lines_of more)) (sym (append_assoc (unit_text u) (flat_map unit_text us) (remarks_text tail))) (unit_step u more writable.0),
      units_step us tail writable.1 tail_writable,
    )

-- the text of a program that can be written is read as that program
pub printed_is_read : (p : FreeProgram) → IsWritable p → SpellsText (printed p) p
printed_is_read p w = record { short = w.short; spelled = units_step p.units p.tail w.units w.tail }
