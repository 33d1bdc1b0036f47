-- The lines of a text that is written.
use Rattle.std.proofs.Common.{◌≡◌, ℕ, zero, suc, ◌==◌, Bool, true, false, not, ◌&&◌, List, [], ◌∷◌, ◌++◌, map, refl, ap, ◌∙◌, append_assoc, arith}
use Rattle.std.specs.Prelude.{min, ◌*◌, replicate, drop, if◌then◌else◌}
use Rattle.std.proofs.lemmas.Bool.{eqb-true, and_parts}
use Rattle.text_base.specs.Lines.{cut, is_blank}
use Rattle.text_base.specs.Remarks.{Remark, remark_text, remarks_text, is_writable_remark, are_writable_remarks}
use Rattle.text_base.specs.Chars.{is_name_byte}
use Rattle.text_base.proofs.CharTests.{all_append}
use Rattle.text_base.proofs.RemarkLines.{cut_line}
use Rattle.text_base.specs.declared.limits.TheConstants.{MOST_INDENTED}
use Rattle.tree90.specs.FreeTokens.{tokens}
use Rattle.tree90.specs.FreeText.{FreeLine, comment_line, statement_line, starts_comment, free_line_of, comment_lines}
use Rattle.tree90.specs.Printed.{line}
use Rattle.tree90.proofs.TokenLemmas.{has_no_break, apart}

-- the lines of a text
abbrev pub lines_of : List ℕ → List FreeLine
lines_of text = map free_line_of (cut text)

-- ---- lines of statements

-- a text without LF whose first byte is of a name
abbrev pub begins_word : List ℕ → Bool
begins_word [] = false
begins_word (c ∷ t) = is_name_byte c

-- blanks before a text don't count
tokens_after_blanks : (n : ℕ) (text : List ℕ) → tokens (replicate n 32 ++ text) ≡ tokens text
tokens_after_blanks zero text = refl
tokens_after_blanks (suc n) text = tokens_after_blanks n text

-- an indented word is no comment
no_comment : (n : ℕ) (text : List ℕ) → begins_word text ≡ true → starts_comment (replicate n 32 ++ text) ≡ false
no_comment zero [] e = absurd cc
no_comment zero (c ∷ text) e = apart c 33 e refl
no_comment (suc n) text e = refl

-- an indented word isn't blank
no_blank : (n : ℕ) (text : List ℕ) → begins_word text ≡ true → is_blank (replicate n 32 ++ text) ≡ false
no_blank zero [] e = absurd cc
no_blank zero (c ∷ text) e = ap (λ b. b && is_blank text) (apart c 32 e refl)
no_blank (suc n) text e = no_blank n text e

-- an indented word begins a statement
line_of_statement : (n : ℕ) (text : List ℕ) → begins_word text ≡ true → free_line_of (replicate n 32 ++ text) ≡ statement_line (tokens text)
line_of_statement n text e =
    let l : List ℕ = replicate n 32 ++ text in
    ap (λ b. if b then comment_line (record { marked = true; text = drop 1 l }) else (if is_blank l then comment_line (record { marked = false; text = l }) else statement_line (tokens l))) (no_comment n text e)
    ∙ ap (λ b. if b then comment_line (record { marked = false; text = l }) else statement_line (tokens l)) (no_blank n text e)
    ∙ ap statement_line (tokens_after_blanks n text)

-- blanks have no LF
blanks_unbroken : (n : ℕ) → has_no_break (replicate n 32) ≡ true
blanks_unbroken zero = refl
blanks_unbroken (suc n) = blanks_unbroken n

-- a written line is the line of a statement
pub line_step : (level : ℕ) (text more : List ℕ) → has_no_break text ≡ true → begins_word text ≡ true → lines_of (line level text ++ more) ≡ statement_line (tokens text) ∷ lines_of more
line_step level text more unbroken begins = go (min (2 * level) MOST_INDENTED)
  where
    go : (n : ℕ) → lines_of ((replicate n 32 ++ text ++ 10 ∷ []) ++ more) ≡ statement_line (tokens text) ∷ lines_of more
    go n =
        let front : List ℕ = replicate n 32 in
        let whole : (front ++ text ++ 10 ∷ []) ++ more ≡ (front ++ text) ++ 10 ∷ more = simp append_assoc in
        ap lines_of whole
        ∙ ap (map free_line_of) (cut_line (front ++ text) more (all_append (λ c. not (c == 10)) front text (blanks_unbroken n) unbroken))
        ∙ ap (λ (l : FreeLine). l ∷ lines_of more) (line_of_statement n text begins)

-- ---- comments

-- a blank text begins no comment by its mark
blank_unmarked : (text : List ℕ) → is_blank text ≡ true → starts_comment text ≡ false
blank_unmarked [] e = refl
blank_unmarked (c ∷ text) e = go (c == 33) refl (and_parts (c == 32) (is_blank text) e).0
  where
    go : (b : Bool) → (c == 33) ≡ b → (c == 32) ≡ true → b ≡ false
    go false is blank = refl
    go true is blank = absurd (omega (arith, eqb-true c 33 is, eqb-true c 32 blank))

-- a written comment is the line of that comment
comment_step : (marked : Bool) (text more : List ℕ) → is_writable_remark (record { marked = marked; text = text }) ≡ true
    → lines_of (remark_text (record { marked = marked; text = text }) ++ more) ≡ comment_line (record { marked = marked; text = text }) ∷ lines_of more
comment_step true text more e =
    let parts = and_parts (has_no_break text) true e in
    ap lines_of (append_assoc (33 ∷ text) (10 ∷ []) more) ∙ ap (map free_line_of) (cut_line (33 ∷ text) more parts.0)
comment_step false text more e =
    let parts = and_parts (has_no_break text) (is_blank text) e in
    ap lines_of (append_assoc text (10 ∷ []) more)
    ∙ ap (map free_line_of) (cut_line text more parts.0)
    ∙ ap (λ b. (if b then comment_line (record { marked = true; text = drop 1 text }) else (if is_blank text then comment_line (record { marked = false; text = text }) else statement_line (tokens text))) ∷ lines_of more) (blank_unmarked text parts.1)
    ∙ ap (λ b. (if b then comment_line (record { marked = false; text = text }) else statement_line (tokens text)) ∷ lines_of more) parts.1

-- written comments are the lines of those comments
pub comments_step : (remarks : List Remark) (more : List ℕ) → are_writable_remarks remarks ≡ true → lines_of (remarks_text remarks ++ more) ≡ comment_lines remarks ++ lines_of more
comments_step [] more e = refl
comments_step (r ∷ remarks) more e =
    let parts = and_parts (is_writable_remark r) (are_writable_remarks remarks) e in
    ap lines_of (append_assoc (remark_text r) (remarks_text remarks) more)
    ∙ comment_step r.marked r.text (remarks_text remarks ++ more) parts.0
    ∙ ap (λ (ls : List FreeLine). comment_line r ∷ ls) (comments_step remarks more parts.1)
