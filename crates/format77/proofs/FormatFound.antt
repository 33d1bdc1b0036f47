-- Each format that is spelled is read, and nothing else: the reading has the same first refused part, and where none is
-- refused the same tree.
use Rattle.std.proofs.Common.{◌≡◌, ◌⊎◌, inl, inr, ℕ, zero, suc, ◌<◌, ◌≤◌, true, false, List, [], ◌∷◌, ◌++◌, map, length, Some, refl, sym, ap, ◌∙◌, subst, arith}
use Rattle.std.specs.Prelude.{slice_get, codes}
use Rattle.std.specs.Option.{option_map, option_and_then}
use Rattle.std.proofs.lemmas.Bool.{and_parts, and_from}
use Rattle.std.proofs.lemmas.List.{length-append}
use Rattle.text_base.specs.Pieces.{Piece, plain, whole}
use Rattle.text_base.specs.Formats.{FormatLexeme, descriptor, slash, opening, closing, comma, colon, scale, other, IsFormatLexeme, lexeme_integers, lexeme_least, lexeme_logicals, lexeme_texts, lexeme_width, lexeme_blanks, lexeme_quoted, lexeme_counted, lexeme_slash, lexeme_opening, lexeme_closing, lexeme_comma, lexeme_colon, lexeme_scale, lexeme_other, AreLetters, letters_e, letters_f, letters_d, letters_g, letters_t, letters_tl, letters_tr, letters_s, letters_sp, letters_ss, letters_bn, letters_bz, AreFormatLexemes, lexemes_none, lexemes_more, IsOther, IsUncut, may_follow, are_separated, refused_word, depth_behind, refused_words}
use Rattle.format77.specs.Reading.{behind_widths, lexeme_at, lexemes_in}
use Rattle.format77.proofs.LexemeSound.{lexeme_is}
use Rattle.format77.proofs.LexemeFound.{scaled_at}
use Rattle.format77.proofs.WidthsFound.{wants_end, is_scale, lexeme_found}
use Rattle.format77.proofs.ScaleFound.{balanced, Going, ends_behind, scale_going}
use Rattle.format77.proofs.Starts.{may_end}

-- ---- what two lists of lexemes have in common

pub record Like (ls ms : List FormatLexeme) : Type 0 where
  pub words : (d : ℕ) → slice_get (refused_words d ls) 0 ≡ slice_get (refused_words d ms) 0
  pub same : (d : ℕ) → refused_words d ls ≡ [] → ls ≡ ms
  pub balance : (k : ℕ) → balanced k ls ≡ balanced k ms

first_word : (w a b : List (List ℕ)) → slice_get a 0 ≡ slice_get b 0 → slice_get (w ++ a) 0 ≡ slice_get (w ++ b) 0
first_word [] a b e = e
first_word (x ∷ w) a b e = refl

no_word : (w a : List (List ℕ)) → w ++ a ≡ [] → a ≡ []
no_word [] a e = e
no_word (x ∷ w) a e = absurd cc

balance_more : (i : FormatLexeme) (ls ms : List FormatLexeme) → ((k : ℕ) → balanced k ls ≡ balanced k ms) → (k : ℕ) → balanced k (i ∷ ls) ≡ balanced k (i ∷ ms)
balance_more (opening r) ls ms f k = f (suc k)
balance_more closing ls ms f zero = refl
balance_more closing ls ms f (suc k) = f k
balance_more (descriptor d) ls ms f k = f k
balance_more slash ls ms f k = f k
balance_more comma ls ms f k = f k
balance_more colon ls ms f k = f k
balance_more scale ls ms f k = f k
balance_more other ls ms f k = f k

pub like_more : (i : FormatLexeme) (ls ms : List FormatLexeme) → Like ls ms → Like (i ∷ ls) (i ∷ ms)
like_more i ls ms l =
    record {
      words = λ d. first_word (refused_word d i) _ _ (l.words (depth_behind d i));
      same = λ d e. ap (λ x. i ∷ x) (l.same (depth_behind d i) (no_word (refused_word d i) _ e));
      balance = balance_more i ls ms l.balance;
    }

-- behind a scale factor only parentheses count
like_scale : (ls ms : List FormatLexeme) → ((k : ℕ) → balanced k ls ≡ balanced k ms) → Like (scale ∷ ls) (scale ∷ ms)
like_scale ls ms f = record { words = λ d. refl; same = λ d e. absurd cc; balance = f }

-- ---- lexemes take pieces

nonempty : (ds : List ℕ) (c : ℕ) (b : List ℕ) → (k : ℕ) × (length (map plain (ds ++ c ∷ b)) ≡ suc k)
nonempty [] c b = (length (map plain b), refl)
nonempty (d ∷ ds) c b = (length (map plain (ds ++ c ∷ b)), refl)

letters_some : (l : List ℕ) (behind : List ℕ) → AreLetters l → (c : ℕ) × (b : List ℕ) × (l ++ behind ≡ c ∷ b)
letters_some l behind (letters_e e) = (69, behind, ap (λ m. m ++ behind) e)
letters_some l behind (letters_f e) = (70, behind, ap (λ m. m ++ behind) e)
letters_some l behind (letters_d e) = (68, behind, ap (λ m. m ++ behind) e)
letters_some l behind (letters_g e) = (71, behind, ap (λ m. m ++ behind) e)
letters_some l behind (letters_t e) = (84, behind, ap (λ m. m ++ behind) e)
letters_some l behind (letters_tl e) = (84, 76 ∷ behind, ap (λ m. m ++ behind) e)
letters_some l behind (letters_tr e) = (84, 82 ∷ behind, ap (λ m. m ++ behind) e)
letters_some l behind (letters_s e) = (83, behind, ap (λ m. m ++ behind) e)
letters_some l behind (letters_sp e) = (83, 80 ∷ behind, ap (λ m. m ++ behind) e)
letters_some l behind (letters_ss e) = (83, 83 ∷ behind, ap (λ m. m ++ behind) e)
letters_some l behind (letters_bn e) = (66, 78 ∷ behind, ap (λ m. m ++ behind) e)
letters_some l behind (letters_bz e) = (66, 90 ∷ behind, ap (λ m. m ++ behind) e)

-- a lexeme has one piece at least
lexeme_some : (first : List Piece) (i : FormatLexeme) → IsFormatLexeme first i → (k : ℕ) × (length first ≡ suc k)
lexeme_some first i is = go is
  where
    from : (p : List Piece) → first ≡ p → (k : ℕ) × (length p ≡ suc k) → (k : ℕ) × (length first ≡ suc k)
    from p e s = (s.0, ap length e ∙ s.1)

    go : IsFormatLexeme first i → (k : ℕ) × (length first ≡ suc k)
    go (lexeme_integers ds us r w e count width j) = from _ e (nonempty ds 73 us)
    go (lexeme_least ds us vs r w m e count width least le j) = from _ e (nonempty ds 73 (us ++ 46 ∷ vs))
    go (lexeme_logicals ds us r w e count width j) = from _ e (nonempty ds 76 us)
    go (lexeme_texts ds r e count j) = from _ e (nonempty ds 65 [])
    go (lexeme_width ds us r w e count width j) = from _ e (nonempty ds 65 us)
    go (lexeme_blanks ds n e number j) = from _ e (nonempty ds 88 [])
    go (lexeme_quoted v e value j) = from _ e (0, refl)
    go (lexeme_counted ds v e number j) = (length (map plain (ds ++ 72 ∷ [])), ap length e ∙ length-append (map plain (ds ++ 72 ∷ [])) (whole v ∷ []) ∙ omega arith)
    go (lexeme_slash e j) = from _ e (0, refl)
    go (lexeme_opening ds r e count j) = from _ e (nonempty ds 40 [])
    go (lexeme_closing e j) = from _ e (0, refl)
    go (lexeme_comma e j) = from _ e (0, refl)
    go (lexeme_colon e j) = from _ e (0, refl)
    go (lexeme_scale t e o j) = from _ (e ∙ ap (map plain) o.whole) (nonempty o.before 80 o.behind)
    go (lexeme_other l t e are o j) =
        let s = letters_some l o.behind are in
        from _ (e ∙ ap (map plain) (o.whole ∙ ap (λ x. o.before ++ x) s.2)) (nonempty o.before s.0 s.1)

pub shorter : (pieces : List Piece) (i : FormatLexeme) (left : List Piece) → lexeme_at pieces ≡ Some (i, left) → length left < length pieces
shorter pieces i left e =
    let s = lexeme_is pieces i left e in
    let one = lexeme_some s.first i s.is in
    omega (arith, ap length s.whole, length-append s.first left, one.1)

-- ---- all lexemes

pub record Found (n : ℕ) (i : FormatLexeme) (pieces : List Piece) (ls : List FormatLexeme) : Type 0 where
  pub read : List FormatLexeme
  pub is : lexemes_in n pieces ≡ Some read
  pub separated : are_separated i read ≡ true
  pub like : Like ls read

-- one lexeme, and those behind it
step : (n : ℕ) (pieces : List Piece) (j : FormatLexeme) (left : List Piece) (read : List FormatLexeme) → lexeme_at pieces ≡ Some (j, left) → lexemes_in n left ≡ Some read → lexemes_in (suc n) pieces ≡ Some (j ∷ read)
unfolding lexeme_at
step n [] j left read e f = absurd cc
step n (p ∷ ps) j left read e f =
    ap (option_and_then (λ (r : FormatLexeme × List Piece). option_map (λ is. r.0 ∷ is) (lexemes_in n r.1))) e ∙ ap (option_map (λ is. j ∷ is)) f

scale_left : (first rest : List Piece) → (t : List ℕ) → (o : IsOther (codes "P") t) → first ≡ map plain t → lexeme_at (first ++ rest) ≡ Some (scale, behind_widths true (map plain o.behind ++ rest))
scale_left first rest t o e = ap (λ p. lexeme_at (p ++ rest)) (e ∙ ap (map plain) o.whole) ∙ scaled_at o.before 80 o.behind rest refl (λ ds left. refl) o.scaled

-- what may follow an item that wants its end
end_rule : (i : FormatLexeme) → wants_end i ≡ true → (j : FormatLexeme) → may_follow i j ≡ may_end j
end_rule (descriptor d) e j = refl
end_rule other e j = refl
end_rule slash e j = absurd cc
end_rule (opening r) e j = absurd cc
end_rule closing e j = absurd cc
end_rule comma e j = absurd cc
end_rule colon e j = absurd cc
end_rule scale e j = absurd cc

one_found : (n : ℕ) (i : FormatLexeme) (pieces : List Piece) (j : FormatLexeme) (js : List FormatLexeme) (left : List Piece) → lexeme_at pieces ≡ Some (j, left) → may_follow i j ≡ true → length pieces ≤ n
    → ((m : ℕ) → length left ≤ m → Found m j left js) → Found n i pieces (j ∷ js)
one_found zero i pieces j js left e may le more = let less = shorter pieces j left e in absurd (omega (arith, less, le))
one_found (suc n) i pieces j js left e may le more =
    let f = more n (omega (arith, shorter pieces j left e, le)) in
    record { read = j ∷ f.read; is = step n pieces j left f.read e f.is; separated = and_from (may_follow i j) (are_separated j f.read) may f.separated; like = like_more j js f.read f.like }

scaled_found : (n : ℕ) (i : FormatLexeme) (pieces : List Piece) (js : List FormatLexeme) (left : List Piece) → lexeme_at pieces ≡ Some (scale, left) → may_follow i scale ≡ true → length pieces ≤ n
    → (g : Going left js) → ((m : ℕ) → length left ≤ m → Found m scale left g.others) → Found n i pieces (scale ∷ js)
scaled_found zero i pieces js left e may le g more = let less = shorter pieces scale left e in absurd (omega (arith, less, le))
scaled_found (suc n) i pieces js left e may le g more =
    let f = more n (omega (arith, shorter pieces scale left e, le)) in
    record {
      read = scale ∷ f.read;
      is = step n pieces scale left f.read e f.is;
      separated = and_from (may_follow i scale) (are_separated scale f.read) may f.separated;
      like = like_scale js f.read (λ k. g.balance k ∙ f.like.balance k);
    }

-- which of the two a lexeme is
sort_of_lexeme : (first : List Piece) (j : FormatLexeme) → IsFormatLexeme first j → (is_scale j ≡ false) ⊎ ((j ≡ scale) × (t : List ℕ) × (IsOther (codes "P") t) × (first ≡ map plain t))
sort_of_lexeme first j (lexeme_integers ds us r w e count width is) = inl (ap is_scale is)
sort_of_lexeme first j (lexeme_least ds us vs r w m e count width least le is) = inl (ap is_scale is)
sort_of_lexeme first j (lexeme_logicals ds us r w e count width is) = inl (ap is_scale is)
sort_of_lexeme first j (lexeme_texts ds r e count is) = inl (ap is_scale is)
sort_of_lexeme first j (lexeme_width ds us r w e count width is) = inl (ap is_scale is)
sort_of_lexeme first j (lexeme_blanks ds n e number is) = inl (ap is_scale is)
sort_of_lexeme first j (lexeme_quoted v e value is) = inl (ap is_scale is)
sort_of_lexeme first j (lexeme_counted ds v e number is) = inl (ap is_scale is)
sort_of_lexeme first j (lexeme_slash e is) = inl (ap is_scale is)
sort_of_lexeme first j (lexeme_opening ds r e count is) = inl (ap is_scale is)
sort_of_lexeme first j (lexeme_closing e is) = inl (ap is_scale is)
sort_of_lexeme first j (lexeme_comma e is) = inl (ap is_scale is)
sort_of_lexeme first j (lexeme_colon e is) = inl (ap is_scale is)
sort_of_lexeme first j (lexeme_scale t e o is) = inr (is, t, o, e)
sort_of_lexeme first j (lexeme_other l t e are o is) = inl (ap is_scale is)

-- the reading of lexemes that are spelled
pub all_found : (k n : ℕ) (i : FormatLexeme) (pieces : List Piece) (ls : List FormatLexeme) → AreFormatLexemes pieces ls → are_separated i ls ≡ true → length ls ≤ k → length pieces ≤ n → Found n i pieces ls
all_found k n i pieces ls (lexemes_none e es) on short le =
    record { read = []; is = ap (lexemes_in n) e; separated = ap (are_separated i) (sym es) ∙ on; like = subst (λ x. Like x []) (sym es) (record { words = λ d. refl; same = λ d f. refl; balance = λ b. refl }) }
all_found zero n i pieces ls (lexemes_more first rest j js e is uncut spelled es) on short le = absurd (omega (arith, ap length es, short))
all_found (suc k) n i pieces ls (lexemes_more first rest j js e is uncut spelled es) on short le =
    subst (Found n i pieces) (sym es) (go (sort_of_lexeme first j is) (λ m fits sep. all_found k m j rest js spelled sep less fits) (λ m left others s sep f fits. all_found k m scale left others s sep f fits))
  where
    here : are_separated i (j ∷ js) ≡ true
    here = ap (are_separated i) (sym es) ∙ on

    parts : (may_follow i j ≡ true) × (are_separated j js ≡ true)
    parts = and_parts (may_follow i j) (are_separated j js) here

    less : length js ≤ k
    less = omega (arith, ap length es, short)

    go : (is_scale j ≡ false) ⊎ ((j ≡ scale) × (t : List ℕ) × (IsOther (codes "P") t) × (first ≡ map plain t)) → ((m : ℕ) → length rest ≤ m → are_separated j js ≡ true → Found m j rest js)
        → ((m : ℕ) (left : List Piece) (others : List FormatLexeme) → AreFormatLexemes left others → are_separated scale others ≡ true → length others ≤ k → length left ≤ m → Found m scale left others) → Found n i pieces (j ∷ js)
    go (inl off) same scaled =
        one_found n i pieces j js rest (ap lexeme_at e ∙ lexeme_found first j rest is off (λ w. ends_behind j rest js (end_rule j w) spelled parts.1)) parts.0 le (λ m fits. same m fits parts.1)
    go (inr s) same scaled =
        let left = behind_widths true (map plain s.2.behind ++ rest) in
        let sep : are_separated scale js ≡ true = ap (λ x. are_separated x js) (sym s.0) ∙ parts.1 in
        let g = scale_going s.2.before s.2.behind rest js s.2.sized (subst (λ p. IsUncut p rest) (s.3 ∙ ap (map plain) s.2.whole) uncut) spelled sep in
        let may : may_follow i scale ≡ true = ap (may_follow i) (sym s.0) ∙ parts.0 in
        subst (λ x. Found n i pieces (x ∷ js)) (sym s.0) (scaled_found n i pieces js left (ap lexeme_at e ∙ scale_left first rest s.1 s.2 s.3) may le g (λ m fits. scaled m left g.others g.spelled g.separated (omega (arith, g.short, less)) fits))
