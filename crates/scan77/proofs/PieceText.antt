-- The characters of the pieces of a statement are those of the statement as they are read, and their outline is its outline.
use Rattle.std.proofs.Common.{◌≡◌, ℕ, zero, suc, ◌-◌, Bool, true, false, not, ◌&&◌, ◌||◌, cond, ◌==◌, List, [], ◌∷◌, ◌++◌, length, map, filter, replicate, Option, None, refl, sym, ap, ◌∙◌, subst, arith}
use Rattle.std.specs.Prelude.{if◌then◌else◌}
use Rattle.std.specs.List.{flat_map, zip}
use Rattle.std.proofs.lemmas.List.{map-append}
use Rattle.text_base.specs.Chars.{is_digit, to_upper}
use Rattle.text_base.specs.Kept.{Scan, scan_start, more_matched, more_count, count_or_none, is_h, scan_plain, scan_after, marks_from, kept, read_characters}
use Rattle.text_base.specs.Pieces.{Piece, plain, whole, broken, counted_piece, piece_text}
use Rattle.scan77.specs.PieceReading.{Current, no_text, constant, counted, closed, more_constant, more_counted, closed_counted, closed_constant, last_piece, plain_piece, pieces_from, pieces_of}
use Rattle.tree77.specs.Kinds.{outline, outline_of}
use Rattle.card_reader.proofs.ScanSteps.{scan_at, some_left}
use Rattle.card_reader.proofs.PlainText.{onward}

-- the characters of a piece, kept ones as they are shown
abbrev piece_by : (ℕ → ℕ) → Piece → List ℕ
piece_by shown (plain c) = c ∷ []
piece_by shown (whole text) = map shown text
piece_by shown (broken text) = map shown text

module _ (shown : ℕ → ℕ) where
  abbrev shown_piece : Piece → List ℕ
  shown_piece = piece_by shown

  abbrev all_text : List Piece → List ℕ
  all_text pieces = flat_map shown_piece pieces

  -- the characters of the kept text that is being read
  abbrev text_of : Current → List ℕ
  text_of no_text = []
  text_of (constant text) = map shown text
  text_of (counted text) = map shown text

  -- the characters of a statement, kept ones as they are shown
  abbrev read_by : List ℕ → List ℕ → List ℕ
  read_by text marks = map (λ p. if p.1 == 1 then shown p.0 else to_upper p.0) (filter (λ p. p.1 == 1 || not (p.0 == 32)) (zip text marks))

  -- one more kept character
  goes_on : (text : List ℕ) (c : ℕ) (more : List ℕ) → map shown (text ++ c ∷ []) ++ more ≡ map shown text ++ shown c ∷ more
  goes_on text c more = ap (λ (x : List ℕ). x ++ more) (map-append shown text (c ∷ [])) ∙ onward (map shown text) (shown c) more

  -- a constant is open or just closed, and nothing else is in one
  abbrev Fits : Scan → Current → Type 0
  Fits s no_text = s.inside ≡ false
  Fits s (constant text) = s.left ≡ 0
  Fits s (counted text) = s.inside ≡ false

  -- ---- closing

  counted_text : (text : List ℕ) (more : List Piece) → all_text (counted_piece text more) ≡ map shown text ++ all_text more
  counted_text [] more = refl
  counted_text (c ∷ t) more = refl

  closed_text : (now : Current) (more : List Piece) → all_text (closed now more) ≡ text_of now ++ all_text more
  closed_text no_text more = refl
  closed_text (constant text) more = refl
  closed_text (counted text) more = counted_text text more

  last_text : (s : Scan) (now : Current) → all_text (last_piece s now) ≡ text_of now ++ []
  last_text s no_text = refl
  last_text s (constant text) = go s.inside
    where
      go : (b : Bool) → all_text (last_piece (record s { inside = b }) (constant text)) ≡ map shown text ++ []
      go true = refl
      go false = refl
  last_text s (counted text) = counted_text text []

  -- ---- one character

  plain_text : (c : ℕ) (more : List Piece) → all_text (plain_piece c more) ≡ cond (c == 32) (all_text more) (to_upper c ∷ all_text more)
  plain_text c more = go (c == 32)
    where
      go : (b : Bool) → all_text (cond b more (plain (to_upper c) ∷ more)) ≡ cond b (all_text more) (to_upper c ∷ all_text more)
      go true = refl
      go false = refl

  read_plain : (c : ℕ) (t ms : List ℕ) → read_by (c ∷ t) (0 ∷ ms) ≡ cond (c == 32) (read_by t ms) (to_upper c ∷ read_by t ms)
  read_plain c t ms = go (c == 32)
    where
      go : (b : Bool) → map (λ p. if p.1 == 1 then shown p.0 else to_upper p.0) (cond (not b) ((c, 0) ∷ filter (λ p. p.1 == 1 || not (p.0 == 32)) (zip t ms)) (filter (λ p. p.1 == 1 || not (p.0 == 32)) (zip t ms)))
          ≡ cond b (read_by t ms) (to_upper c ∷ read_by t ms)
      go true = refl
      go false = refl

  -- a character of plain text doesn't open a constant
  stays_outside : (m : ℕ) (n : Option ℕ) (c : ℕ) → (cond (c == 32) (scan_at m n) (scan_plain (scan_at m n) c)).inside ≡ false
  stays_outside m n c = go (c == 32) (is_digit c) (m == 7 && is_h c)
    where
      go : (a b d : Bool)
          → (cond a (scan_at m n) (cond b (scan_at (more_matched m c) (more_count n c)) (cond d (record { matched = m; inside = false; left = count_or_none n; count = None }) (scan_at (more_matched m c) None)))).inside ≡ false
      go true b d = refl
      go false true d = refl
      go false false true = refl
      go false false false = refl

  -- ---- a text

  -- the characters of the pieces are those that were read and those that are still to come
  abbrev IsJoined : Scan → Current → List ℕ → Type 0
  IsJoined s now t = Fits s now → all_text (pieces_from s now t) ≡ text_of now ++ read_by t (marks_from s t)

  -- one more character, where no characters of an nH are still to come
  outside_step : (c : ℕ) (t : List ℕ) → ((u : Scan) (v : Current) → IsJoined u v t) → (m : ℕ) (n : Option ℕ) (now : Current) → IsJoined (scan_at m n) now (c ∷ t)
  outside_step c t later m n now fits = go (scan_after (scan_at m n) c) (c == 39) now (opened (c == 39)) (plain_one (c == 39))
    where
      opened : (b : Bool) → b ≡ true → (cond b (record { matched = more_matched m c; inside = true; left = 0; count = None }) (cond (c == 32) (scan_at m n) (scan_plain (scan_at m n) c))).left ≡ 0
      opened true e = refl
      opened false e = absurd cc

      plain_one : (b : Bool) → b ≡ false → (cond b (record { matched = more_matched m c; inside = true; left = 0; count = None }) (cond (c == 32) (scan_at m n) (scan_plain (scan_at m n) c))).inside ≡ false
      plain_one true e = absurd cc
      plain_one false e = stays_outside m n c

      go : (u : Scan) (b : Bool) (v : Current) → (b ≡ true → u.left ≡ 0) → (b ≡ false → u.inside ≡ false)
          → all_text (cond b (closed_counted v (pieces_from u (more_constant v c) t)) (closed v (plain_piece c (pieces_from u no_text t)))) ≡ text_of v ++ read_by (c ∷ t) (cond b 1 0 ∷ marks_from u t)
      go u true no_text left inside = later u (constant (c ∷ [])) (left refl)
      go u true (constant text) left inside = later u (constant (text ++ c ∷ [])) (left refl) ∙ goes_on text c (read_by t (marks_from u t))
      go u true (counted text) left inside = counted_text text (pieces_from u (constant (c ∷ [])) t) ∙ ap (λ (xs : List ℕ). map shown text ++ xs) (later u (constant (c ∷ [])) (left refl))
      go u false v left inside =
          closed_text v (plain_piece c (pieces_from u no_text t))
          ∙ ap (λ (xs : List ℕ). text_of v ++ xs)
          (plain_text c (pieces_from u no_text t) ∙ ap (λ (xs : List ℕ). cond (c == 32) xs (to_upper c ∷ xs)) (later u no_text (inside refl)) ∙ sym (read_plain c t (marks_from u t)))

  -- and where some are
  keeping_step : (c : ℕ) (t : List ℕ) → ((u : Scan) (v : Current) → IsJoined u v t) → (m l : ℕ) (n : Option ℕ) (now : Current) → IsJoined (record { matched = m; inside = false; left = suc l; count = n }) now (c ∷ t)
  keeping_step c t later m l n now fits = subst (λ b. IsRead b now) (sym (some_left l)) (go now fits)
    where
      before : Scan
      before = record { matched = m; inside = false; left = suc l; count = n }

      after : Scan
      after = scan_after before c

      IsRead : Bool → Current → Type 0
      IsRead b v =
          all_text (cond (not b) (closed_constant v (pieces_from after (more_counted v c) t)) (cond (c == 39) (closed_counted v (pieces_from after (more_constant v c) t)) (closed v (plain_piece c (pieces_from after no_text t)))))
          ≡ text_of v ++ read_by (c ∷ t) (cond (not b || c == 39) 1 0 ∷ marks_from after t)

      outside : after.inside ≡ false
      outside = ap (λ b. (cond (not b) (record before { left = suc l - 1 }) (cond (c == 39) (record before { matched = more_matched m c; inside = true; count = None }) (cond (c == 32) before (scan_plain before c)))).inside) (some_left l)

      go : (v : Current) → Fits before v → IsRead false v
      go no_text fit = later after (counted (c ∷ [])) outside
      go (constant text) fit = absurd (omega (arith, fit))
      go (counted text) fit = later after (counted (text ++ c ∷ [])) outside ∙ goes_on text c (read_by t (marks_from after t))

  step : (c : ℕ) (t : List ℕ) → ((u : Scan) (v : Current) → IsJoined u v t) → (m : ℕ) (i : Bool) (l : ℕ) (n : Option ℕ) (now : Current) → IsJoined (record { matched = m; inside = i; left = l; count = n }) now (c ∷ t)
  step c t later m true l n no_text fits = absurd cc
  step c t later m true l n (constant text) fits =
      let after = scan_after (record { matched = m; inside = true; left = l; count = n }) c in
      later after (constant (text ++ c ∷ [])) fits ∙ goes_on text c (read_by t (marks_from after t))
  step c t later m true l n (counted text) fits = absurd cc
  step c t later m false zero n now fits = outside_step c t later m n now fits
  step c t later m false (suc l) n now fits = keeping_step c t later m l n now fits

  joined_from : (t : List ℕ) (s : Scan) (now : Current) → IsJoined s now t
  joined_from [] s now fits = last_text s now
  joined_from (c ∷ t) s now fits = step c t (λ u v. joined_from t u v) s.matched s.inside s.left s.count now fits

  pub joined_by : (label : ℕ) (text : List ℕ) → all_text (pieces_of label text) ≡ read_by text (kept label text)
  joined_by label text = joined_from text (scan_start label) no_text refl

-- ---- as they are

same_characters : (text : List ℕ) → map (λ c. c) text ≡ text
same_characters [] = refl
same_characters (c ∷ t) = ap (λ (x : List ℕ). c ∷ x) (same_characters t)

same_text : (pieces : List Piece) → flat_map (piece_by (λ c. c)) pieces ≡ flat_map piece_text pieces
same_text [] = refl
same_text (plain c ∷ ps) = ap (λ (x : List ℕ). c ∷ x) (same_text ps)
same_text (whole t ∷ ps) = λ i. same_characters t i ++ same_text ps i
same_text (broken t ∷ ps) = λ i. same_characters t i ++ same_text ps i

pub joined : (label : ℕ) (text : List ℕ) → flat_map piece_text (pieces_of label text) ≡ read_characters text (kept label text)
joined label text = sym (same_text (pieces_of label text)) ∙ joined_by (λ c. c) label text

-- ---- with an apostrophe for each

abbrev apostrophe : ℕ → ℕ
apostrophe c = 39

apostrophes : (text : List ℕ) → map apostrophe text ≡ replicate (length text) 39
apostrophes [] = refl
apostrophes (c ∷ t) = ap (λ (x : List ℕ). 39 ∷ x) (apostrophes t)

same_outline : (pieces : List Piece) → flat_map (piece_by apostrophe) pieces ≡ outline_of pieces
same_outline [] = refl
same_outline (plain c ∷ ps) = ap (λ (x : List ℕ). c ∷ x) (same_outline ps)
same_outline (whole t ∷ ps) = λ i. apostrophes t i ++ same_outline ps i
same_outline (broken t ∷ ps) = λ i. apostrophes t i ++ same_outline ps i

pub outlines_equal : (label : ℕ) (text : List ℕ) → outline_of (pieces_of label text) ≡ outline text (kept label text)
outlines_equal label text = sym (same_outline (pieces_of label text)) ∙ joined_by apostrophe label text
