-- The lexemes that are read are spelled by the pieces of their tokens.
use Rattle.std.proofs.Common.{◌≡◌, ◌≢◌, inl, inr, ℕ, zero, suc, Bool, true, false, ◌==◌, List, [], ◌∷◌, ◌++◌, length, map, Option, Some, None, refl, sym, ap, ◌∙◌, subst}
use Rattle.std.specs.Prelude.{if◌then◌else◌, codes}
use Rattle.std.specs.Str.{bytes_eq}
use Rattle.std.specs.Option.{option_map, option_and_then}
use Rattle.std.proofs.lemmas.Bool.{eqb-true, eqb-false}
use Rattle.std.proofs.lemmas.Option.{same_Some}
use Rattle.std.proofs.lemmas.Slice.Eq.{bytes_eq-Decides}
use Rattle.text_base.specs.Pieces.{Piece, plain}
use Rattle.text_base.specs.Pieces as piece
use Rattle.text_base.specs.Trees.{power, times, over, add, subtract, concat, less, less_equal, equal, not_equal, greater, greater_equal, conjunction, disjunction, equivalence, nonequivalence}
use Rattle.tree77.specs.Kinds.{is_word, is_number}
use Rattle.tree77.specs.Tokens.{Token, TokenKind, run, digits, kept, mark}
use Rattle.tree77.specs.Lexemes.{Lexeme, constant, logical, characters, name, alternate, operator, not_sign, opening, closing, comma, colon, is_label, IsQuoted, quoted_nothing, quoted_other, quoted_apostrophe, IsLexeme, lexeme_integer, lexeme_constant, lexeme_logical, lexeme_characters, lexeme_name, lexeme_alternate, lexeme_operator, lexeme_not, lexeme_open, lexeme_close, lexeme_comma, lexeme_colon, AreLexemes, lexemes_none, lexemes_more}
use Rattle.scan77.specs.TokenReading.{IsFormed, AllFormed}
use Rattle.text_base.proofs.Optional.{went, mapped}
use Rattle.expr77.specs.LexemeReading as reading
use Rattle.expr77.specs.LexemeReading.{Number, real, first_or_0, behind_mark, run_here, digits_here, read_number, behind_complex, behind_hollerith, Stand, is_after, is_argument, read_quoted, unless_empty, quoted_value, read_word, Found, lexeme_of_number, found_number, or_found, read_dotted, point_at, if_label, read_star, read_slash, read_open, read_mark, read_token, read_lexeme, stand_behind, read_lexemes, lexemes_of}
use Rattle.expr77.proofs.LexemeParts.{pieces_of_tokens, Behind, joined, first_read, mark_found, run_found, digits_found, IsNumberText, number_found, complex_found, hollerith_found}

-- the tokens begin with the lexeme, and the rest follows
record Leads (tokens : List Token) (i : Lexeme) (rest : List Token) : Type 0 where
  first : List Piece
  front : pieces_of_tokens tokens ≡ first ++ pieces_of_tokens rest
  spelled : IsLexeme first i
  formed : AllFormed rest

-- the same of a lexeme and the rest together
abbrev LeadsTo : List Token → Lexeme × List Token → Type 0
LeadsTo ts p = Leads ts p.0 p.1

-- a text at the front that spells the lexeme
leads : (text : List ℕ) (ts : List Token) (i : Lexeme) (rest : List Token) → Behind text ts rest → IsLexeme (map plain text) i → Leads ts i rest
leads text ts i rest behind spelled = record { first = map plain text; front = behind.front; spelled = spelled; formed = behind.formed }

-- the lexeme that is given, and no other
gives : (ts : List Token) (i : Lexeme) (rest : List Token) (p : Lexeme × List Token) → Some (i, rest) ≡ Some p → Leads ts i rest → LeadsTo ts p
gives ts i rest p e is = subst (LeadsTo ts) (same_Some (i, rest) p e) is

-- what stands first, or else another lexeme
first_or_other : (ts : List Token) (o : Option (List Token)) (i : Lexeme) (other : Found) (p : Lexeme × List Token) → ((after : List Token) → o ≡ Some after → Leads ts i after) → (other ≡ Some p → LeadsTo ts p)
    → or_found o i other ≡ Some p → LeadsTo ts p
first_or_other ts None i other p first second e = second e
first_or_other ts (Some after) i other p first second e = gives ts i after p e (first after refl)

-- ---- numbers

-- a number that is read is an integer constant or another one
number_leads : (ts : List Token) (p : Lexeme × List Token) → AllFormed ts → found_number ts ≡ Some p → LeadsTo ts p
number_leads ts p all e =
    let m = mapped (read_number ts) (λ n. (lexeme_of_number n.0, n.1)) p e in
    let n = number_found ts m.from all m.was in
    subst (LeadsTo ts) m.is (leads n.text ts (lexeme_of_number m.from.0) m.from.1 n.behind (lexeme m.from.0 n.text n.is))
  where
    lexeme : (n : Number) (text : List ℕ) → IsNumberText n text → IsLexeme (map plain text) (lexeme_of_number n)
    lexeme (reading.whole d) text is = lexeme_integer d (ap (map plain) is.0) is.1 refl
    lexeme real text is = lexeme_constant text refl (inl is) refl

-- a number, or digits that belong to a Hollerith constant
digits_lead : (t : List ℕ) (ts rest : List Token) (p : Lexeme × List Token) → AllFormed ts → Behind t ts rest → is_number t ≡ true → or_found (behind_hollerith rest) constant (found_number ts) ≡ Some p → LeadsTo ts p
digits_lead t ts rest p all here number e = first_or_other ts (behind_hollerith rest) constant (found_number ts) p hollerith (number_leads ts p all) e
  where
    hollerith : (after : List Token) → behind_hollerith rest ≡ Some after → Leads ts constant after
    hollerith after e =
        let h = hollerith_found rest after here.formed e in
        leads (t ++ h.text) ts constant after (joined t h.text ts rest after here h.behind)
        (lexeme_constant (t ++ h.text) refl (inr (inr (record { count = t; kept = h.is.0; whole = ap (λ (x : List ℕ). t ++ x) h.is.1; numbered = number; word = h.is.2 }))) refl)

-- ---- characters

-- the text, and before it an apostrophe that isn't doubled yet
abbrev with_open : Bool → List ℕ → List ℕ
with_open true t = 39 ∷ t
with_open false t = t

-- the text ends with an apostrophe, and what is before it stands for the value
record Quotes (text value : List ℕ) : Type 0 where
  inside : List ℕ
  whole : text ≡ inside ++ 39 ∷ []
  is : IsQuoted inside value

-- what is read to the last apostrophe stands for the value
quoted_found : (b : Bool) (t value : List ℕ) → read_quoted b t ≡ Some value → Quotes (with_open b t) value
quoted_found false [] value e = absurd cc
quoted_found true [] value e = record { inside = []; whole = refl; is = quoted_nothing refl (sym (same_Some {A = List ℕ} [] value e)) }
quoted_found false (c ∷ t) value e = go (c == 39) refl e (quoted_found true t value) (quoted_found false t)
  where
    go : (b : Bool) → (c == 39) ≡ b → (if b then read_quoted true t else option_map (λ v. c ∷ v) (read_quoted false t)) ≡ Some value → (read_quoted true t ≡ Some value → Quotes (39 ∷ t) value)
        → ((v : List ℕ) → read_quoted false t ≡ Some v → Quotes t v) → Quotes (c ∷ t) value
    go true is e open_ more = let q = open_ e in record { inside = q.inside; whole = ap (λ (n : ℕ). n ∷ t) (eqb-true c 39 is) ∙ q.whole; is = q.is }
    go false is e open_ more =
        let m = mapped (read_quoted false t) (λ (v : List ℕ). c ∷ v) value e in
        let q = more m.from m.was in
        record { inside = c ∷ q.inside; whole = ap (λ (x : List ℕ). c ∷ x) q.whole; is = quoted_other c refl (eqb-false c 39 is) q.is (sym m.is) }
quoted_found true (c ∷ t) value e = go (c == 39) refl e (quoted_found false t)
  where
    go : (b : Bool) → (c == 39) ≡ b → (if b then option_map (λ v. 39 ∷ v) (read_quoted false t) else None) ≡ Some value → ((v : List ℕ) → read_quoted false t ≡ Some v → Quotes t v) → Quotes (39 ∷ c ∷ t) value
    go true is e more =
        let m = mapped (read_quoted false t) (λ (v : List ℕ). 39 ∷ v) value e in
        let q = more m.from m.was in
        record { inside = 39 ∷ 39 ∷ q.inside; whole = ap (λ (n : ℕ). 39 ∷ n ∷ t) (eqb-true c 39 is) ∙ ap (λ (x : List ℕ). 39 ∷ 39 ∷ x) q.whole; is = quoted_apostrophe refl q.is (sym m.is) }
    go false is e more = absurd cc

-- where its characters are read, a text is an apostrophe, what stands for the value, and another one
pub record IsConstantText (text value : List ℕ) : Type 0 where
  pub inside : List ℕ
  pub whole : text ≡ 39 ∷ (inside ++ 39 ∷ [])
  pub is : IsQuoted inside value
  pub some : value ≢ []

pub text_found : (t value : List ℕ) → quoted_value t ≡ Some value → IsConstantText t value
text_found [] value e = absurd cc
text_found (c ∷ t) value e = go (c == 39) refl e
  where
    not_empty : (v : List ℕ) → unless_empty v ≡ Some value → (v ≡ value) × (value ≢ [])
    not_empty [] e = absurd cc
    not_empty (d ∷ v) e = let same = same_Some (d ∷ v) value e in (same, λ none. let bad : d ∷ v ≡ [] = same ∙ none in cc)

    go : (b : Bool) → (c == 39) ≡ b → (if b then option_and_then unless_empty (read_quoted false t) else None) ≡ Some value → IsConstantText (c ∷ t) value
    go false is e = absurd cc
    go true is e =
        let w = went (read_quoted false t) unless_empty value e in
        let q = quoted_found false t w.from w.was in
        let n = not_empty w.from w.is in
        record { inside = q.inside; whole = ap (λ (n : ℕ). n ∷ t) (eqb-true c 39 is) ∙ ap (λ (x : List ℕ). 39 ∷ x) q.whole; is = subst (IsQuoted q.inside) n.0 q.is; some = n.1 }

-- a kept text that is read is a character constant
characters_found : (t value : List ℕ) → quoted_value t ≡ Some value → IsLexeme (piece.whole t ∷ []) (characters value)
characters_found t value e = let f = text_found t value e in lexeme_characters f.inside value (ap (λ (x : List ℕ). piece.whole x ∷ []) f.whole) f.is f.some refl

-- ---- words between points

-- a word between points
abbrev dotted : List ℕ → List Piece
dotted t = map plain (46 ∷ (t ++ 46 ∷ []))

-- one word, or another
word_or_other : (t word : List ℕ) (i j : Lexeme) (other : Option Lexeme) → IsLexeme (dotted word) i → (other ≡ Some j → IsLexeme (dotted t) j) → (if bytes_eq t word then Some i else other) ≡ Some j → IsLexeme (dotted t) j
word_or_other t word i j other spelled second e = go (bytes_eq t word) refl e
  where
    go : (b : Bool) → bytes_eq t word ≡ b → (if b then Some i else other) ≡ Some j → IsLexeme (dotted t) j
    go false is e = second e
    go true is e = subst (IsLexeme (dotted t)) (same_Some i j e) (subst (λ (x : List ℕ). IsLexeme (dotted x) i) (sym ((bytes_eq-Decides t word).0 is)) spelled)

-- a word that is read is an operator or a logical constant between points
word_found : (t : List ℕ) (j : Lexeme) → read_word t ≡ Some j → IsLexeme (dotted t) j
word_found t j =
    word_or_other t (codes "LT") (operator less) j _ (lexeme_operator less refl refl)
    (word_or_other t (codes "LE") (operator less_equal) j _ (lexeme_operator less_equal refl refl)
    (word_or_other t (codes "EQ") (operator equal) j _ (lexeme_operator equal refl refl)
    (word_or_other t (codes "NE") (operator not_equal) j _ (lexeme_operator not_equal refl refl)
    (word_or_other t (codes "GT") (operator greater) j _ (lexeme_operator greater refl refl)
    (word_or_other t (codes "GE") (operator greater_equal) j _ (lexeme_operator greater_equal refl refl)
    (word_or_other t (codes "AND") (operator conjunction) j _ (lexeme_operator conjunction refl refl)
    (word_or_other t (codes "OR") (operator disjunction) j _ (lexeme_operator disjunction refl refl)
    (word_or_other t (codes "EQV") (operator equivalence) j _ (lexeme_operator equivalence refl refl)
    (word_or_other t (codes "NEQV") (operator nonequivalence) j _ (lexeme_operator nonequivalence refl refl)
    (word_or_other t (codes "NOT") not_sign j _ (lexeme_not refl refl)
    (word_or_other t (codes "TRUE") (logical true) j _ (lexeme_logical true refl refl)
    (word_or_other t (codes "FALSE") (logical false) j _ (lexeme_logical false refl refl)
    (λ (e : None ≡ Some j). absurd cc)))))))))))))

-- ---- marks

-- a point, a word and a point are what the word is read as
dotted_leads : (ts rest : List Token) (p : Lexeme × List Token) → Behind (46 ∷ []) ts rest → read_dotted rest ≡ Some p → LeadsTo ts p
dotted_leads ts rest p here e =
    let w = went (run_here rest) (λ r. option_and_then (λ more. option_map (λ i. (i, more)) (read_word r.0)) (behind_mark 46 r.1)) p e in
    let r = run_found rest w.from here.formed w.was in
    closed w.from.0 w.from.1 r.0 w.is
  where
    closed : (t : List ℕ) (more : List Token) → Behind t rest more → option_and_then (λ after. option_map (λ i. (i, after)) (read_word t)) (behind_mark 46 more) ≡ Some p → LeadsTo ts p
    closed t more behind e =
        let w = went (behind_mark 46 more) (λ after. option_map (λ i. (i, after)) (read_word t)) p e in
        let close = mark_found 46 more w.from refl behind.formed w.was in
        word w.from (joined (46 ∷ []) (t ++ 46 ∷ []) ts rest w.from here (joined t (46 ∷ []) rest more w.from behind close)) w.is
      where
        word : (after : List Token) → Behind (46 ∷ (t ++ 46 ∷ [])) ts after → option_map (λ i. (i, after)) (read_word t) ≡ Some p → LeadsTo ts p
        word after behind e =
            let m = mapped (read_word t) (λ i. (i, after)) p e in
            subst (LeadsTo ts) m.is (leads (46 ∷ (t ++ 46 ∷ [])) ts m.from after behind (word_found t m.from m.was))

-- a point begins a number or a word between points
point_leads : (ts rest : List Token) (p : Lexeme × List Token) → AllFormed ts → Behind (46 ∷ []) ts rest → point_at ts rest (digits_here rest) ≡ Some p → LeadsTo ts p
point_leads ts rest p all here e = go (digits_here rest) e
  where
    go : (o : Option (List ℕ × List Token)) → point_at ts rest o ≡ Some p → LeadsTo ts p
    go (Some d) e = number_leads ts p all e
    go None e = dotted_leads ts rest p here e

-- a star begins an operator or an alternate return specifier
star_leads : (s : Stand) (ts rest : List Token) (p : Lexeme × List Token) → Behind (42 ∷ []) ts rest → read_star s rest ≡ Some p → LeadsTo ts p
star_leads s ts rest p here e =
    first_or_other ts (behind_mark 42 rest) (operator power) (or_found (if is_argument s then if_label (digits_here rest) else None) alternate (Some (operator times, rest))) p twice
    (first_or_other ts (if is_argument s then if_label (digits_here rest) else None) alternate (Some (operator times, rest)) p (λ after. label (is_argument s) after)
    (λ e. gives ts (operator times) rest p e (leads (42 ∷ []) ts (operator times) rest here (lexeme_operator times refl refl))))
    e
  where
    twice : (after : List Token) → behind_mark 42 rest ≡ Some after → Leads ts (operator power) after
    twice after e = leads (42 ∷ 42 ∷ []) ts (operator power) after (joined (42 ∷ []) (42 ∷ []) ts rest after here (mark_found 42 rest after refl here.formed e)) (lexeme_operator power refl refl)

    labelled : (d : List ℕ × List Token) (after : List Token) → digits_here rest ≡ Some d → (b : Bool) → is_label d.0 ≡ b → (if b then Some d.1 else None) ≡ Some after → Leads ts alternate after
    labelled d after at false is e = absurd cc
    labelled d after at true is e =
        let f = digits_found rest d here.formed at in
        subst (Leads ts alternate) (same_Some d.1 after e) (leads (42 ∷ d.0) ts alternate d.1 (joined (42 ∷ []) d.0 ts rest d.1 here f.0) (lexeme_alternate d.0 refl is refl))

    if_digits : (o : Option (List ℕ × List Token)) (after : List Token) → digits_here rest ≡ o → if_label o ≡ Some after → Leads ts alternate after
    if_digits None after at e = absurd cc
    if_digits (Some d) after at e = labelled d after at (is_label d.0) refl e

    label : (b : Bool) (after : List Token) → (if b then if_label (digits_here rest) else None) ≡ Some after → Leads ts alternate after
    label false after e = absurd cc
    label true after e = if_digits (digits_here rest) after refl e

-- a slash begins an operator
slash_leads : (ts rest : List Token) (p : Lexeme × List Token) → Behind (47 ∷ []) ts rest → read_slash rest ≡ Some p → LeadsTo ts p
slash_leads ts rest p here =
    first_or_other ts (behind_mark 47 rest) (operator concat) (Some (operator over, rest)) p twice
    (λ e. gives ts (operator over) rest p e (leads (47 ∷ []) ts (operator over) rest here (lexeme_operator over refl refl)))
  where
    twice : (after : List Token) → behind_mark 47 rest ≡ Some after → Leads ts (operator concat) after
    twice after e = leads (47 ∷ 47 ∷ []) ts (operator concat) after (joined (47 ∷ []) (47 ∷ []) ts rest after here (mark_found 47 rest after refl here.formed e)) (lexeme_operator concat refl refl)

-- an opening parenthesis stands by itself, or begins a complex constant
open_leads : (s : Stand) (ts rest : List Token) (p : Lexeme × List Token) → AllFormed ts → Behind (40 ∷ []) ts rest → read_open s ts rest ≡ Some p → LeadsTo ts p
open_leads s ts rest p all here =
    first_or_other ts (if is_after s then None else behind_complex ts) constant (Some (opening, rest)) p (complex (is_after s))
    (λ e. gives ts opening rest p e (leads (40 ∷ []) ts opening rest here (lexeme_open refl refl)))
  where
    complex : (b : Bool) (after : List Token) → (if b then None else behind_complex ts) ≡ Some after → Leads ts constant after
    complex true after e = absurd cc
    complex false after e = let c = complex_found ts after all e in leads c.text ts constant after c.behind (lexeme_constant c.text refl (inr (inl c.is)) refl)

-- one mark, or another
mark_or_other : (ts rest : List Token) (c k : ℕ) (found other : Found) (p : Lexeme × List Token) → Behind (c ∷ []) ts rest → (Behind (k ∷ []) ts rest → found ≡ Some p → LeadsTo ts p)
    → (other ≡ Some p → LeadsTo ts p) → (if c == k then found else other) ≡ Some p → LeadsTo ts p
mark_or_other ts rest c k found other p here first second e = go (c == k) refl e
  where
    go : (b : Bool) → (c == k) ≡ b → (if b then found else other) ≡ Some p → LeadsTo ts p
    go false is e = second e
    go true is e = first (subst (λ n. Behind (n ∷ []) ts rest) (eqb-true c k is) here) e

-- the lexeme that is read at a mark stands at the front
mark_leads : (s : Stand) (c : ℕ) (ts rest : List Token) (p : Lexeme × List Token) → AllFormed ts → Behind (c ∷ []) ts rest → read_mark s c ts rest ≡ Some p → LeadsTo ts p
mark_leads s c ts rest p all here =
    mark_or_other ts rest c 40 _ _ p here (open_leads s ts rest p all)
    (mark_or_other ts rest c 41 _ _ p here (λ b e. gives ts closing rest p e (leads (41 ∷ []) ts closing rest b (lexeme_close refl refl)))
    (mark_or_other ts rest c 44 _ _ p here (λ b e. gives ts comma rest p e (leads (44 ∷ []) ts comma rest b (lexeme_comma refl refl)))
    (mark_or_other ts rest c 58 _ _ p here (λ b e. gives ts colon rest p e (leads (58 ∷ []) ts colon rest b (lexeme_colon refl refl)))
    (mark_or_other ts rest c 43 _ _ p here (λ b e. gives ts (operator add) rest p e (leads (43 ∷ []) ts (operator add) rest b (lexeme_operator add refl refl)))
    (mark_or_other ts rest c 45 _ _ p here (λ b e. gives ts (operator subtract) rest p e (leads (45 ∷ []) ts (operator subtract) rest b (lexeme_operator subtract refl refl)))
    (mark_or_other ts rest c 42 _ _ p here (star_leads s ts rest p)
    (mark_or_other ts rest c 47 _ _ p here (slash_leads ts rest p)
    (mark_or_other ts rest c 46 _ _ p here (point_leads ts rest p all)
    (λ (e : None ≡ Some p). absurd cc)))))))))

-- ---- lexemes

-- a word is a name
name_leads : (t : List ℕ) (ts rest : List Token) (p : Lexeme × List Token) (b : Bool) → is_word t ≡ b → Behind t ts rest → (if b then Some (name t, rest) else None) ≡ Some p → LeadsTo ts p
name_leads t ts rest p false word here e = absurd cc
name_leads t ts rest p true word here e = gives ts (name t) rest p e (leads t ts (name t) rest here (lexeme_name t refl word refl))

-- the lexeme that is read stands at the front
lexeme_leads : (s : Stand) (ts : List Token) (p : Lexeme × List Token) → AllFormed ts → read_lexeme s ts ≡ Some p → LeadsTo ts p
unfolding read_lexeme
lexeme_leads s [] p all e = absurd cc
lexeme_leads s (token ∷ rest) p all e = go token.kind token.text all.0 e
  where
    go : (k : TokenKind) (t : List ℕ) → IsFormed k t → read_token s k t (record { kind = k; text = t } ∷ rest) rest ≡ Some p → LeadsTo (record { kind = k; text = t } ∷ rest) p
    go run t formed e = name_leads t (record { kind = run; text = t } ∷ rest) rest p (is_word t) refl (first_read (record { kind = run; text = t }) rest rest t refl refl all.1) e
    go digits t formed e = digits_lead t (record { kind = digits; text = t } ∷ rest) rest p (formed, all.1) (first_read (record { kind = digits; text = t }) rest rest t refl refl all.1) formed e
    go kept t formed e =
        let m = mapped (quoted_value t) (λ v. (characters v, rest)) p e in
        subst (LeadsTo (record { kind = kept; text = t } ∷ rest)) m.is (record { first = piece.whole t ∷ []; front = refl; spelled = characters_found t m.from m.was; formed = all.1 })
    go mark t formed e =
        let text : t ≡ first_or_0 t ∷ [] = formed.1 ∙ ap (λ (n : ℕ). n ∷ []) (sym (ap first_or_0 formed.1)) in
        mark_leads s (first_or_0 t) (record { kind = mark; text = t } ∷ rest) rest p (formed, all.1) (first_read (record { kind = mark; text = t }) rest rest (first_or_0 t ∷ []) (ap (map plain) text) refl all.1) e

-- the lexemes that are read are spelled one after another
lexemes_lead : (n : ℕ) (s : Stand) (ts : List Token) (lexemes : List Lexeme) → AllFormed ts → read_lexemes n s ts ≡ Some lexemes → AreLexemes (pieces_of_tokens ts) lexemes
lexemes_lead n s [] lexemes all e = lexemes_none refl (sym (same_Some {A = List Lexeme} [] lexemes e))
lexemes_lead zero s (t ∷ ts) lexemes all e = absurd cc
lexemes_lead (suc n) s (t ∷ ts) lexemes all e =
    let w = went (read_lexeme s (t ∷ ts)) (λ (p : Lexeme × List Token). option_map (λ is. p.0 ∷ is) (read_lexemes n (stand_behind p.0) p.1)) lexemes e in
    let f = lexeme_leads s (t ∷ ts) w.from all w.was in
    let m = mapped (read_lexemes n (stand_behind w.from.0) w.from.1) (λ (is : List Lexeme). w.from.0 ∷ is) lexemes w.is in
    lexemes_more f.front f.spelled (lexemes_lead n (stand_behind w.from.0) w.from.1 m.from f.formed m.was) (sym m.is)

-- what is read of tokens is spelled by their pieces
pub lexemes_found : (tokens : List Token) (lexemes : List Lexeme) → AllFormed tokens → lexemes_of tokens ≡ Some lexemes → AreLexemes (pieces_of_tokens tokens) lexemes
unfolding lexemes_of
lexemes_found tokens lexemes all e = lexemes_lead (length tokens) reading.at_operand tokens lexemes all e
