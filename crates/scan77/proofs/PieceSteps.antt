-- The pieces of plain text, of a character constant and of an nH text, with anything behind them.
use Rattle.std.proofs.Common.{◌≡◌, ◌≢◌, ℕ, zero, suc, ◌-◌, ◌≤◌, Bool, true, false, not, cond, ◌==◌, List, [], ◌∷◌, ◌++◌, length, map, slice_index, Option, None, refl, sym, ap, ◌∙◌, subst, arith}
use Rattle.std.proofs.lemmas.List.{append-nil}
use Rattle.std.proofs.lemmas.Bool.{ne_eqb}
use Rattle.text_base.specs.Chars.{to_upper, without_blanks}
use Rattle.text_base.specs.Kept.{is_format, is_h, last_digits, IsPlain, IsInside, inside_nothing, inside_other, inside_doubled, Scan, count_or_none, scan_after}
use Rattle.text_base.specs.Pieces.{Piece, plain, whole, broken, plain_pieces, counted_piece}
use Rattle.scan77.specs.PieceReading.{Current, no_text, constant, counted, closed, more_constant, more_counted, closed_counted, closed_constant, last_piece, plain_piece, pieces_from, pieces_of}
use Rattle.card_reader.proofs.LastDigits.{count_of, count_step}
use Rattle.card_reader.proofs.ScanSteps.{decided, scan_at, plain_state, constant_state, keeping_state, after_opening, after_inside, after_plain, h_is_letter, after_h, some_left, after_kept}
use Rattle.card_reader.proofs.PlainText.{IsQuiet, onward, plain_quiet, count_none}
use Rattle.card_reader.proofs.FormatFlag.{IsReadAlong, by_flag_along}

-- ---- the flag

-- at a character of plain text
apart : (k : ℕ) (n : Option ℕ) (c : ℕ) (t : List ℕ) → c ≢ 39 → pieces_from (scan_at k n) no_text (c ∷ t) ≡ plain_piece c (pieces_from (scan_after (scan_at k n) c) no_text t)
apart k n c t differ =
    ap (λ b. cond b (pieces_from (scan_after (scan_at k n) c) (constant (c ∷ [])) t) (plain_piece c (pieces_from (scan_after (scan_at k n) c) no_text t))) (ne_eqb c 39 differ)

pieces_along : IsReadAlong (λ s t. pieces_from s no_text t)
pieces_along = record {
  at_end = λ k m n o. refl;
  opening = λ k m n o t same. ap (λ (s : Scan). pieces_from s (constant (39 ∷ [])) t) same;
  other = λ k m n o c t differ same. apart k n c t differ ∙ ap (λ (ps : List Piece). plain_piece c ps) same ∙ sym (apart m o c t differ);
}

-- the pieces of a statement are those of the scan that knows whether it is a FORMAT
pub pieces_by_flag : (label : ℕ) (text : List ℕ) → pieces_of label text ≡ pieces_from (plain_state (is_format label text) None) no_text text
pieces_by_flag label text = by_flag_along (λ s t. pieces_from s no_text t) pieces_along label text

-- ---- plain text

one_piece : (c : ℕ) (t : List ℕ) (more : List Piece) (b : Bool) → (c == 32) ≡ b → plain_pieces (c ∷ t) ++ more ≡ cond b (plain_pieces t ++ more) (plain (to_upper c) ∷ (plain_pieces t ++ more))
one_piece c t more true e = ap (λ b. map plain (map to_upper (cond (not b) (c ∷ without_blanks t) (without_blanks t))) ++ more) e
one_piece c t more false e = ap (λ b. map plain (map to_upper (cond (not b) (c ∷ without_blanks t) (without_blanks t))) ++ more) e

plain_cons : (c : ℕ) (t : List ℕ) (more : List Piece) → plain_pieces (c ∷ t) ++ more ≡ plain_piece c (plain_pieces t ++ more)
plain_cons c t more = one_piece c t more (c == 32) refl

pieces_after : (f : Bool) (before text rest : List ℕ) → IsQuiet f before text
    → pieces_from (plain_state f (count_of (last_digits before))) no_text (text ++ rest) ≡ plain_pieces text ++ pieces_from (plain_state f (count_of (last_digits (before ++ text)))) no_text rest
pieces_after f before [] rest quiet = ap (λ xs. pieces_from (plain_state f (count_of (last_digits xs))) no_text rest) (sym (append-nil before))
pieces_after f before (c ∷ t) rest quiet =
    let n = count_of (last_digits before) in
    let next : scan_after (plain_state f n) c ≡ plain_state f (count_of (last_digits (before ++ c ∷ []))) =
    after_plain f n c quiet.0 (λ is letter. count_none (last_digits before) (quiet.1 is letter)) ∙ ap (λ m. plain_state f m) (sym (count_step before c)) in
    apart (decided f) n c (t ++ rest) quiet.0
    ∙ ap (λ (s : Scan). plain_piece c (pieces_from s no_text (t ++ rest))) next
    ∙ ap (λ (ps : List Piece). plain_piece c ps) (pieces_after f (before ++ c ∷ []) t rest quiet.2)
    ∙ ap (λ (xs : List ℕ). plain_piece c (plain_pieces t ++ pieces_from (plain_state f (count_of (last_digits xs))) no_text rest)) (onward before c t)
    ∙ sym (plain_cons c t (pieces_from (plain_state f (count_of (last_digits (before ++ c ∷ t)))) no_text rest))

pub plain_text_pieces : (f : Bool) (text rest : List ℕ) → IsPlain f text
    → pieces_from (plain_state f None) no_text (text ++ rest) ≡ plain_pieces text ++ pieces_from (plain_state f (count_of (last_digits text))) no_text rest
plain_text_pieces f text rest is_plain = pieces_after f [] text rest (plain_quiet f text is_plain)

-- ---- what closes kept text

-- any character but an apostrophe closes a constant behind its apostrophe, and so does the end
pub closes_constant : (f : Bool) (text rest : List ℕ) → slice_index rest 0 ≢ 39 → pieces_from (plain_state f None) (constant text) rest ≡ whole text ∷ pieces_from (plain_state f None) no_text rest
closes_constant f text [] differ = refl
closes_constant f text (c ∷ t) differ =
    go (c == 39) (ne_eqb c 39 differ) (pieces_from (scan_after (plain_state f None) c) (constant (text ++ c ∷ [])) t) (pieces_from (scan_after (plain_state f None) c) (constant (c ∷ [])) t)
    (plain_piece c (pieces_from (scan_after (plain_state f None) c) no_text t))
  where
    go : (b : Bool) → b ≡ false → (x y z : List Piece) → cond b x (whole text ∷ z) ≡ whole text ∷ cond b y z
    go true e x y z = absurd cc
    go false e x y z = refl

-- the text of an nH so far, which may have no characters yet
abbrev pub counted_so_far : List ℕ → Current
counted_so_far [] = no_text
counted_so_far (c ∷ t) = counted (c ∷ t)

-- anything closes the text of an nH
pub closes_counted : (f : Bool) (text rest : List ℕ) → pieces_from (plain_state f None) (counted_so_far text) rest ≡ counted_piece text (pieces_from (plain_state f None) no_text rest)
closes_counted f [] rest = refl
closes_counted f (d ∷ text) [] = refl
closes_counted f (d ∷ text) (c ∷ t) =
    go (c == 39) (pieces_from (scan_after (plain_state f None) c) (constant (c ∷ [])) t) (plain_piece c (pieces_from (scan_after (plain_state f None) c) no_text t))
  where
    go : (b : Bool) (x y : List Piece) → cond b (whole (d ∷ text) ∷ x) (whole (d ∷ text) ∷ y) ≡ whole (d ∷ text) ∷ cond b x y
    go true x y = refl
    go false x y = refl

-- ---- kept text

-- what stands between apostrophes
inside_pieces : (f : Bool) (so_far text rest : List ℕ) → IsInside text → pieces_from (constant_state f) (constant so_far) (text ++ rest) ≡ pieces_from (constant_state f) (constant (so_far ++ text)) rest
inside_pieces f so_far text rest (inside_nothing e) =
    subst (λ (t : List ℕ). pieces_from (constant_state f) (constant so_far) (t ++ rest) ≡ pieces_from (constant_state f) (constant (so_far ++ t)) rest) (sym e)
    (ap (λ (xs : List ℕ). pieces_from (constant_state f) (constant xs) rest) (sym (append-nil so_far)))
inside_pieces f so_far text rest (inside_other {c = c} {more = more} e differ inner) =
    subst (λ (t : List ℕ). pieces_from (constant_state f) (constant so_far) (t ++ rest) ≡ pieces_from (constant_state f) (constant (so_far ++ t)) rest) (sym e)
    (ap (λ (s : Scan). pieces_from s (constant (so_far ++ c ∷ [])) (more ++ rest)) (after_inside f c differ)
    ∙ inside_pieces f (so_far ++ c ∷ []) more rest inner
    ∙ ap (λ (xs : List ℕ). pieces_from (constant_state f) (constant xs) rest) (onward so_far c more))
inside_pieces f so_far text rest (inside_doubled {more = more} e inner) =
    subst (λ (t : List ℕ). pieces_from (constant_state f) (constant so_far) (t ++ rest) ≡ pieces_from (constant_state f) (constant (so_far ++ t)) rest) (sym e)
    (ap (λ (s : Scan). pieces_from s (constant ((so_far ++ 39 ∷ []) ++ 39 ∷ [])) (more ++ rest)) (after_opening f None)
    ∙ inside_pieces f ((so_far ++ 39 ∷ []) ++ 39 ∷ []) more rest inner
    ∙ ap (λ (xs : List ℕ). pieces_from (constant_state f) (constant xs) rest) (onward (so_far ++ 39 ∷ []) 39 more ∙ onward so_far 39 (39 ∷ more)))

-- from an apostrophe that opens a constant
opened_pieces : (f : Bool) (n : Option ℕ) (inside rest : List ℕ) → IsInside inside
    → pieces_from (plain_state f n) no_text (39 ∷ (inside ++ rest)) ≡ pieces_from (constant_state f) (constant (39 ∷ inside)) rest
opened_pieces f n inside rest is_inside =
    ap (λ (s : Scan). pieces_from s (constant (39 ∷ [])) (inside ++ rest)) (after_opening f n)
    ∙ inside_pieces f (39 ∷ []) inside rest is_inside

-- to the one that closes it
pub constant_piece : (f : Bool) (n : Option ℕ) (inside rest : List ℕ) → IsInside inside → slice_index rest 0 ≢ 39
    → pieces_from (plain_state f n) no_text (39 ∷ (inside ++ 39 ∷ rest)) ≡ whole (39 ∷ (inside ++ 39 ∷ [])) ∷ pieces_from (plain_state f None) no_text rest
constant_piece f n inside rest is_inside differ =
    opened_pieces f n inside (39 ∷ rest) is_inside
    ∙ closes_constant f (39 ∷ (inside ++ 39 ∷ [])) rest differ

-- or to the end
pub broken_piece : (f : Bool) (n : Option ℕ) (inside : List ℕ) → IsInside inside → pieces_from (plain_state f n) no_text (39 ∷ inside) ≡ broken (39 ∷ inside) ∷ []
broken_piece f n inside is_inside =
    ap (λ (xs : List ℕ). pieces_from (plain_state f n) no_text (39 ∷ xs)) (sym (append-nil inside))
    ∙ opened_pieces f n inside [] is_inside

-- H after a number
pub h_piece : (n : Option ℕ) (h : ℕ) (t : List ℕ) → is_h h ≡ true → pieces_from (plain_state true n) no_text (h ∷ t) ≡ plain (to_upper h) ∷ pieces_from (keeping_state true (count_or_none n)) no_text t
h_piece n h t e =
    let letter = h_is_letter h e in
    apart 7 n h t (λ is. let same : (h == 39) ≡ true = ap (λ c. c == 39) is in absurd cc)
    ∙ ap (λ b. cond b (pieces_from (scan_after (plain_state true n) h) no_text t) (plain (to_upper h) ∷ pieces_from (scan_after (plain_state true n) h) no_text t)) letter.no_blank
    ∙ ap (λ (s : Scan). plain (to_upper h) ∷ pieces_from s no_text t) (after_h n h e)

-- it is the last of the plain text
pub h_last : (before : List ℕ) (h : ℕ) (more : List Piece) → is_h h ≡ true → plain_pieces before ++ plain (to_upper h) ∷ more ≡ plain_pieces (before ++ h ∷ []) ++ more
h_last [] h more e = let letter = h_is_letter h e in sym (one_piece h [] more false letter.no_blank)
h_last (c ∷ t) h more e =
    plain_cons c t (plain (to_upper h) ∷ more)
    ∙ ap (λ (ps : List Piece). plain_piece c ps) (h_last t h more e)
    ∙ sym (plain_cons c (t ++ h ∷ []) more)

one_more : (so_far : List ℕ) (c : ℕ) → more_counted (counted_so_far so_far) c ≡ counted_so_far (so_far ++ c ∷ [])
one_more [] c = refl
one_more (d ∷ so_far) c = refl

-- the text of an nH isn't closed as a constant
no_constant : (so_far : List ℕ) (more : List Piece) → closed_constant (counted_so_far so_far) more ≡ more
no_constant [] more = refl
no_constant (d ∷ so_far) more = refl

keeping_step : (f : Bool) (n : ℕ) (so_far : List ℕ) (c : ℕ) (t : List ℕ) → pieces_from (keeping_state f (suc n)) (counted_so_far so_far) (c ∷ t) ≡ pieces_from (keeping_state f n) (counted_so_far (so_far ++ c ∷ [])) t
keeping_step f n so_far c t =
    let s = scan_after (keeping_state f (suc n)) c in
    ap (λ b. cond (not b) (closed_constant (counted_so_far so_far) (pieces_from s (more_counted (counted_so_far so_far) c) t)) (cond (c == 39) (closed_counted (counted_so_far so_far) (pieces_from s (more_constant (counted_so_far so_far) c) t))
    (closed (counted_so_far so_far) (plain_piece c (pieces_from s no_text t))))) (some_left n)
    ∙ no_constant so_far (pieces_from s (more_counted (counted_so_far so_far) c) t)
    ∙ ap (λ (u : Scan). pieces_from u (more_counted (counted_so_far so_far) c) t) (after_kept f n c)
    ∙ ap (λ (now : Current). pieces_from (keeping_state f n) now t) (one_more so_far c)

-- as many characters as are still to be kept
keeping_pieces : (f : Bool) (so_far text rest : List ℕ) (n : ℕ) → length text ≤ n
    → pieces_from (keeping_state f n) (counted_so_far so_far) (text ++ rest) ≡ pieces_from (keeping_state f (n - length text)) (counted_so_far (so_far ++ text)) rest
keeping_pieces f so_far [] rest n le =
    let same : n ≡ n - 0 = omega arith in
    ap (λ m. pieces_from (keeping_state f m) (counted_so_far so_far) rest) same
    ∙ ap (λ (xs : List ℕ). pieces_from (keeping_state f (n - 0)) (counted_so_far xs) rest) (sym (append-nil so_far))
keeping_pieces f so_far (c ∷ text) rest zero le = absurd (omega (arith, le))
keeping_pieces f so_far (c ∷ text) rest (suc n) le =
    let fewer : n - length text ≡ suc n - suc (length text) = omega arith in
    keeping_step f n so_far c (text ++ rest)
    ∙ keeping_pieces f (so_far ++ c ∷ []) text rest n (omega (arith, le))
    ∙ ap (λ (xs : List ℕ). pieces_from (keeping_state f (n - length text)) (counted_so_far xs) rest) (onward so_far c text)
    ∙ ap (λ m. pieces_from (keeping_state f m) (counted_so_far (so_far ++ c ∷ text)) rest) fewer

-- all of them, and then the text is whole
pub counted_pieces : (f : Bool) (text rest : List ℕ) (n : ℕ) → n ≡ length text → pieces_from (keeping_state f n) no_text (text ++ rest) ≡ counted_piece text (pieces_from (plain_state f None) no_text rest)
counted_pieces f text rest n same =
    let none : n - length text ≡ 0 = omega (arith, same) in
    keeping_pieces f [] text rest n (omega (arith, same))
    ∙ ap (λ k. pieces_from (keeping_state f k) (counted_so_far text) rest) none
    ∙ closes_counted f text rest

-- or as many as there are
pub cut_pieces : (f : Bool) (text : List ℕ) (n : ℕ) → length text ≤ n → pieces_from (keeping_state f n) no_text text ≡ counted_piece text []
cut_pieces f text n le =
    ap (λ (xs : List ℕ). pieces_from (keeping_state f n) no_text xs) (sym (append-nil text))
    ∙ keeping_pieces f [] text [] n le
    ∙ at_end text
  where
    at_end : (xs : List ℕ) → last_piece (keeping_state f (n - length text)) (counted_so_far xs) ≡ counted_piece xs []
    at_end [] = refl
    at_end (x ∷ xs) = refl
