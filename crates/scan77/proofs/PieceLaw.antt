-- A statement has one list of pieces.
use Rattle.std.proofs.Common.{◌≡◌, ◌≢◌, ◌⊎◌, ℕ, zero, suc, ◌<◌, ◌≤◌, Bool, true, List, [], ◌∷◌, ◌++◌, length, take, drop, slice_index, None, refl, sym, ap, ◌∙◌, subst, inl, inr, append-nil, length-take, take-append-drop, arith}
use Rattle.std.proofs.lemmas.Bool.{cases_lt}
use Rattle.text_base.specs.Chars.{to_upper}
use Rattle.text_base.specs.Kept.{is_format, is_h, last_digits, count_before, IsPlain, IsInside, count_or_none}
use Rattle.text_base.specs.Pieces.{Piece, plain, whole, broken, plain_pieces, counted_piece, IsPieces, pieces_plain, pieces_constant, pieces_open, pieces_count}
use Rattle.scan77.specs.PieceReading.{no_text, pieces_from, pieces_of, format_pieces_of}
use Rattle.card_reader.proofs.LastDigits.{count_of}
use Rattle.card_reader.proofs.ScanSteps.{plain_state, keeping_state}
use Rattle.card_reader.proofs.PlainText.{quiet_plain, First, nowhere, at_apostrophe, at_count, first}
use Rattle.card_reader.proofs.KeptLaw.{IsCounted, counted, rest_shorter, inner_no_longer, Ends, ends_never, ends_after, ends}
use Rattle.scan77.proofs.PieceSteps.{pieces_by_flag, plain_text_pieces, constant_piece, broken_piece, h_piece, h_last, counted_pieces, cut_pieces}

-- the pieces of a text, where it is known whether it is of a FORMAT
abbrev pieces_at : Bool → List ℕ → List Piece
pieces_at f text = pieces_from (plain_state f None) no_text text

-- ---- plain text, and what stands behind it

only_plain : (f : Bool) (text : List ℕ) → IsPlain f text → pieces_at f text ≡ plain_pieces text
only_plain f text is_plain = ap (pieces_at f) (sym (append-nil text)) ∙ plain_text_pieces f text [] is_plain ∙ append-nil (plain_pieces text)

with_constant : (f : Bool) (before inside rest : List ℕ) → IsPlain f before → IsInside inside → slice_index rest 0 ≢ 39
    → pieces_at f (before ++ 39 ∷ (inside ++ 39 ∷ rest)) ≡ plain_pieces before ++ whole (39 ∷ (inside ++ 39 ∷ [])) ∷ pieces_at f rest
with_constant f before inside rest is_plain is_inside differ =
    plain_text_pieces f before (39 ∷ (inside ++ 39 ∷ rest)) is_plain
    ∙ ap (λ (ps : List Piece). plain_pieces before ++ ps) (constant_piece f (count_of (last_digits before)) inside rest is_inside differ)

with_broken : (f : Bool) (before inside : List ℕ) → IsPlain f before → IsInside inside → pieces_at f (before ++ 39 ∷ inside) ≡ plain_pieces before ++ broken (39 ∷ inside) ∷ []
with_broken f before inside is_plain is_inside =
    plain_text_pieces f before (39 ∷ inside) is_plain
    ∙ ap (λ (ps : List Piece). plain_pieces before ++ ps) (broken_piece f (count_of (last_digits before)) inside is_inside)

-- as many characters as are kept
kept_count : (f : Bool) (inside rest : List ℕ) (n : ℕ) → IsCounted inside rest n → pieces_from (keeping_state f n) no_text (inside ++ rest) ≡ counted_piece inside (pieces_at f rest)
kept_count f inside rest n (inl all) = counted_pieces f inside rest n (sym all)
kept_count f inside rest n (inr cut) =
    ap (λ (xs : List ℕ). pieces_from (keeping_state f n) no_text (inside ++ xs)) cut.1
    ∙ ap (λ (xs : List ℕ). pieces_from (keeping_state f n) no_text xs) (append-nil inside)
    ∙ cut_pieces f inside n cut.0
    ∙ ap (λ (xs : List ℕ). counted_piece inside (pieces_at f xs)) (sym cut.1)

with_count : (f : Bool) (before : List ℕ) (h : ℕ) (inside rest : List ℕ) → f ≡ true → IsPlain f before → last_digits before ≢ [] → is_h h ≡ true
    → IsCounted inside rest (count_before before)
    → pieces_at f (before ++ h ∷ (inside ++ rest)) ≡ plain_pieces (before ++ h ∷ []) ++ counted_piece inside (pieces_at f rest)
with_count f before h inside rest is is_plain some letter counts =
    plain_text_pieces f before (h ∷ (inside ++ rest)) is_plain
    ∙ ap (λ (ps : List Piece). plain_pieces before ++ ps)
    (subst (λ g. pieces_from (plain_state g (count_of (last_digits before))) no_text (h ∷ (inside ++ rest)) ≡ plain (to_upper h) ∷ pieces_from (keeping_state g (count_or_none (count_of (last_digits before)))) no_text (inside ++ rest)) (sym is)
    (h_piece (count_of (last_digits before)) h (inside ++ rest) letter))
    ∙ ap (λ n. plain_pieces before ++ plain (to_upper h) ∷ pieces_from (keeping_state f n) no_text (inside ++ rest)) (counted (last_digits before) some)
    ∙ ap (λ (ps : List Piece). plain_pieces before ++ plain (to_upper h) ∷ ps) (kept_count f inside rest (count_before before) counts)
    ∙ h_last before h (counted_piece inside (pieces_at f rest)) letter

-- ---- no others

only_pieces : (f : Bool) (text : List ℕ) (pieces : List Piece) → IsPieces f text pieces → pieces ≡ pieces_at f text
only_pieces f text pieces (pieces_plain is_plain p) = p ∙ sym (only_plain f text is_plain)
only_pieces f text pieces (pieces_constant {rest = rest} {more = more} before inside is_plain is_inside differ t next p) =
    p
    ∙ ap (λ (ps : List Piece). plain_pieces before ++ whole (39 ∷ (inside ++ 39 ∷ [])) ∷ ps) (only_pieces f rest more next)
    ∙ sym (with_constant f before inside rest is_plain is_inside differ)
    ∙ ap (pieces_at f) (sym t)
only_pieces f text pieces (pieces_open before inside is_plain is_inside t p) =
    p ∙ sym (with_broken f before inside is_plain is_inside) ∙ ap (pieces_at f) (sym t)
only_pieces f text pieces (pieces_count {rest = rest} {more = more} before h inside is is_plain some letter counts t next p) =
    p
    ∙ ap (λ (ps : List Piece). plain_pieces (before ++ h ∷ []) ++ counted_piece inside ps) (only_pieces f rest more next)
    ∙ sym (with_count f before h inside rest is is_plain some letter counts)
    ∙ ap (pieces_at f) (sym t)

-- ---- these

-- from the pieces behind the first kept text
abbrev ArePiecesBehind : Bool → List ℕ → Type 0
ArePiecesBehind f text = (rest : List ℕ) → length rest < length text → IsPieces f rest (pieces_at f rest)

after_apostrophe : (f : Bool) (text before rest : List ℕ) → IsPlain f before → text ≡ before ++ 39 ∷ rest → ArePiecesBehind f text → Ends rest → IsPieces f text (pieces_at f text)
after_apostrophe f text before rest is_plain e later (ends_never inner) = pieces_open before rest is_plain inner e (ap (pieces_at f) e ∙ with_broken f before rest is_plain inner)
after_apostrophe f text before rest is_plain e later (ends_after inside behind inner differ e2) =
    let all : text ≡ before ++ 39 ∷ (inside ++ 39 ∷ behind) = e ∙ ap (λ (xs : List ℕ). before ++ 39 ∷ xs) e2 in
    let long = ap length all in
    let after = rest_shorter before 39 (inside ++ 39 ∷ behind) in
    let shorter = rest_shorter inside 39 behind in
    pieces_constant before inside is_plain inner differ all (later behind (omega (arith, long, after, shorter))) (ap (pieces_at f) all ∙ with_constant f before inside behind is_plain inner differ)

after_count : (f : Bool) (text before : List ℕ) (h : ℕ) (inside rest : List ℕ) → f ≡ true → IsPlain f before → last_digits before ≢ [] → is_h h ≡ true
    → IsCounted inside rest (count_before before) → text ≡ before ++ h ∷ (inside ++ rest) → ArePiecesBehind f text → IsPieces f text (pieces_at f text)
after_count f text before h inside rest is is_plain some letter counts e later =
    let long = ap length e in
    let after = rest_shorter before h (inside ++ rest) in
    let inner = inner_no_longer inside rest in
    pieces_count before h inside is is_plain some letter counts e (later rest (omega (arith, long, after, inner.1)))
    (ap (pieces_at f) e ∙ with_count f before h inside rest is is_plain some letter counts)

by_first : (f : Bool) (text : List ℕ) → ArePiecesBehind f text → First f [] text → IsPieces f text (pieces_at f text)
by_first f text later (nowhere quiet) = let is_plain = quiet_plain f text quiet in pieces_plain is_plain (only_plain f text is_plain)
by_first f text later (at_apostrophe before rest quiet e) = after_apostrophe f text before rest (quiet_plain f before quiet) e later (ends rest)
by_first f text later (at_count before h rest is quiet some letter e) = go (cases_lt (length rest) n)
  where
    n : ℕ
    n = count_before before

    go : (length rest < n) ⊎ (n ≤ length rest) → IsPieces f text (pieces_at f text)
    go (inl less) =
        after_count f text before h rest [] is (quiet_plain f before quiet) some letter (inr (omega (arith, less), refl))
        (e ∙ ap (λ (xs : List ℕ). before ++ h ∷ xs) (sym (append-nil rest))) later
    go (inr enough) =
        let cut = length-take n rest in
        after_count f text before h (take n rest) (drop n rest) is (quiet_plain f before quiet) some letter (inl (omega (arith, cut, enough)))
        (e ∙ ap (λ (xs : List ℕ). before ++ h ∷ xs) (sym (take-append-drop n rest))) later

up_to : (f : Bool) (n : ℕ) (text : List ℕ) → length text ≤ n → IsPieces f text (pieces_at f text)
up_to f zero text le = by_first f text (λ rest less. absurd (omega (arith, le, less))) (first f [] text)
up_to f (suc n) text le = by_first f text (λ rest less. up_to f n rest (omega (arith, le, less))) (first f [] text)

-- ---- statements

pub found : (label : ℕ) (text : List ℕ) → IsPieces (is_format label text) text (pieces_of label text)
found label text = subst (IsPieces (is_format label text) text) (sym (pieces_by_flag label text)) (up_to (is_format label text) (length text) text (omega arith))

pub only : (label : ℕ) (text : List ℕ) (pieces : List Piece) → IsPieces (is_format label text) text pieces → pieces ≡ pieces_of label text
only label text pieces p = only_pieces (is_format label text) text pieces p ∙ sym (pieces_by_flag label text)

-- ---- texts in a FORMAT

pub format_found : (text : List ℕ) → IsPieces true text (format_pieces_of text)
format_found text = up_to true (length text) text (omega arith)

pub format_only : (text : List ℕ) (pieces : List Piece) → IsPieces true text pieces → pieces ≡ format_pieces_of text
format_only = only_pieces true
