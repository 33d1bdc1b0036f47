-- The cutting of pieces into tokens: the reading of pieces one after another gives it.
use Rattle.std.proofs.Common.{◌≡◌, ◌⊎◌, inl, inr, ℕ, Bool, true, false, ◌||◌, ◌==◌, List, [], ◌∷◌, ◌++◌, map, Option, Some, None, refl, sym, ap, ◌∙◌, subst, append_assoc}
use Rattle.std.specs.Prelude.{if◌then◌else◌}
use Rattle.std.specs.List.{list_all, flat_map}
use Rattle.std.specs.Option.{option_map}
use Rattle.std.proofs.lemmas.Bool.{and_parts, and_from, or_cases, eqb-true, false_from_ne_true}
use Rattle.std.proofs.lemmas.List.{append-nil}
use Rattle.text_base.specs.Chars.{is_upper, is_digit, is_name_byte}
use Rattle.text_base.specs.Pieces.{Piece, plain, whole, broken, piece_text}
use Rattle.text_base.proofs.CharTests.{digit_is_no_letter}
use Rattle.tree77.specs.Tokens.{TokenKind, run, digits, kept, mark, Token, is_mark, StopsAt, IsCut, cut_nothing, cut_run, cut_digits, cut_text, cut_mark, token_pieces}
use Rattle.scan77.specs.TokenReading.{AllFormed, Open, no_token, open_run, open_digits, with_open, begun_at, read_next, read_tokens}
use Rattle.text_base.proofs.Optional.{mapped}

-- ---- the tests are apart

-- what holds of each mark holds of a character that is one
pub each_mark : (test : ℕ → Bool) (c : ℕ) → test 40 ≡ false → test 41 ≡ false → test 44 ≡ false → test 61 ≡ false → test 43 ≡ false → test 45 ≡ false → test 42 ≡ false → test 47 ≡ false
    → test 58 ≡ false → test 46 ≡ false → is_mark c ≡ true → test c ≡ false
each_mark test c a b d e f g h i j k =
    other 46 k (other 58 j (other 47 i (other 42 h (other 45 g (other 43 f (other 61 e (other 44 d (other 41 b (λ same. ap test (eqb-true c 40 same) ∙ a)))))))))
  where
    other : (d : ℕ) {front : Bool} → test d ≡ false → (front ≡ true → test c ≡ false) → (front || c == d) ≡ true → test c ≡ false
    other d {front} off before is = go (or_cases front (c == d) is)
      where
        go : (front ≡ true) ⊎ (c == d ≡ true) → test c ≡ false
        go (inl earlier) = before earlier
        go (inr same) = ap test (eqb-true c d same) ∙ off

digit_is_not_upper : (c : ℕ) → is_digit c ≡ true → is_upper c ≡ false
digit_is_not_upper c digit = false_from_ne_true (is_upper c) (digit_is_no_letter c digit)

mark_is_not_upper : (c : ℕ) → is_mark c ≡ true → is_upper c ≡ false
mark_is_not_upper c = each_mark is_upper c refl refl refl refl refl refl refl refl refl refl

-- a mark is no digit
pub mark_is_not_digit : (c : ℕ) → is_mark c ≡ true → is_digit c ≡ false
mark_is_not_digit c = each_mark is_digit c refl refl refl refl refl refl refl refl refl refl

-- `begun_at` by what its three tests answer
abbrev pub begun_by : ℕ → (Open → Option (List Token)) → Bool → Bool → Bool → Option (List Token)
begun_by c more upper digit marks =
    if upper then more (open_run (c ∷ []))
    else (if digit then more (open_digits (c ∷ []))
    else (if marks then option_map (λ ts. record { kind = mark; text = c ∷ [] } ∷ ts) (more no_token) else None))

-- ---- runs and digits alike

-- `so_far t` is a token of this kind that is being read: characters that pass go on with it, others end it
pub record Opens (kind : TokenKind) (test : ℕ → Bool) (so_far : List ℕ → Open) : Type 0 where
  pub goes : (t : List ℕ) (c : ℕ) (more : Open → Option (List Token)) → test c ≡ true → read_next (so_far t) c more ≡ more (so_far (t ++ c ∷ []))
  pub ends : (t : List ℕ) (c : ℕ) (more : Open → Option (List Token)) → test c ≡ false → read_next (so_far t) c more ≡ with_open (so_far t) (begun_at c more)
  pub closes : (t : List ℕ) (more : Option (List Token)) → with_open (so_far t) more ≡ option_map (λ ts. record { kind = kind; text = t } ∷ ts) more

pub runs : Opens run is_name_byte open_run
runs = record {
  goes = λ t c more is. ap (λ b. if b then more (open_run (t ++ c ∷ [])) else with_open (open_run t) (begun_at c more)) is;
  ends = λ t c more is. ap (λ b. if b then more (open_run (t ++ c ∷ [])) else with_open (open_run t) (begun_at c more)) is;
  closes = λ t more. refl;
}

pub numbers : Opens digits is_digit open_digits
numbers = record {
  goes = λ t c more is. ap (λ b. if b then more (open_digits (t ++ c ∷ [])) else with_open (open_digits t) (begun_at c more)) is;
  ends = λ t c more is. ap (λ b. if b then more (open_digits (t ++ c ∷ [])) else with_open (open_digits t) (begun_at c more)) is;
  closes = λ t more. refl;
}

-- ---- what is cut is read

reads_on : {kind : TokenKind} {test : ℕ → Bool} {so_far : List ℕ → Open} → Opens kind test so_far → (t u : List ℕ) (rest : List Piece) → list_all test u ≡ true
    → read_tokens (map plain u ++ rest) (so_far t) ≡ read_tokens rest (so_far (t ++ u))
reads_on {so_far = so_far} is t [] rest all = ap (λ x. read_tokens rest (so_far x)) (sym (append-nil t))
reads_on {test = test} {so_far = so_far} is t (c ∷ u) rest all =
    let parts = and_parts (test c) (list_all test u) all in
    is.goes t c (read_tokens (map plain u ++ rest)) parts.0
    ∙ reads_on is (t ++ c ∷ []) u rest parts.1
    ∙ ap (λ x. read_tokens rest (so_far x)) (append_assoc t (c ∷ []) u)

stops_here : {kind : TokenKind} {test : ℕ → Bool} {so_far : List ℕ → Open} → Opens kind test so_far → (t : List ℕ) (rest : List Piece) → StopsAt test rest
    → read_tokens rest (so_far t) ≡ with_open (so_far t) (read_tokens rest no_token)
stops_here is t [] stops = refl
stops_here is t (plain c ∷ rest) stops = is.ends t c (read_tokens rest) stops
stops_here is t (whole text ∷ rest) stops = refl
stops_here is t (broken text ∷ rest) stops = sym (is.closes t None)

-- a token that is being read, to its end
pub reads_token : {kind : TokenKind} {test : ℕ → Bool} {so_far : List ℕ → Open} → Opens kind test so_far → (t u : List ℕ) (rest : List Piece) (o : Option (List Token)) → list_all test u ≡ true → StopsAt test rest
    → read_tokens rest no_token ≡ o → read_tokens (map plain u ++ rest) (so_far t) ≡ option_map (λ ts. record { kind = kind; text = t ++ u } ∷ ts) o
reads_token {kind = kind} {so_far = so_far} is t u rest o all stops e =
    reads_on is t u rest all
    ∙ stops_here is (t ++ u) rest stops
    ∙ is.closes (t ++ u) (read_tokens rest no_token)
    ∙ ap (option_map (λ ts. record { kind = kind; text = t ++ u } ∷ ts)) e

pub begins_run : (c : ℕ) (more : Open → Option (List Token)) → is_upper c ≡ true → begun_at c more ≡ more (open_run (c ∷ []))
begins_run c more upper = ap (λ b. begun_by c more b (is_digit c) (is_mark c)) upper

pub begins_digits : (c : ℕ) (more : Open → Option (List Token)) → is_digit c ≡ true → begun_at c more ≡ more (open_digits (c ∷ []))
begins_digits c more digit = ap (λ b. begun_by c more b (is_digit c) (is_mark c)) (digit_is_not_upper c digit) ∙ ap (λ b. begun_by c more false b (is_mark c)) digit

pub begins_mark : (c : ℕ) (more : Open → Option (List Token)) → is_mark c ≡ true → begun_at c more ≡ option_map (λ ts. record { kind = mark; text = c ∷ [] } ∷ ts) (more no_token)
begins_mark c more is =
    ap (λ b. begun_by c more b (is_digit c) (is_mark c)) (mark_is_not_upper c is)
    ∙ ap (λ b. begun_by c more false b (is_mark c)) (mark_is_not_digit c is)
    ∙ ap (begun_by c more false false) is

pub cut_only : (pieces : List Piece) (tokens : List Token) → IsCut pieces tokens → read_tokens pieces no_token ≡ Some tokens
cut_only pieces tokens (cut_nothing none end) = ap (λ x. read_tokens x no_token) none ∙ ap Some (sym end)
cut_only pieces tokens (cut_run {rest = rest} {more = more} c u front upper all stops follows is) =
    ap (λ x. read_tokens x no_token) front
    ∙ begins_run c (read_tokens (map plain u ++ rest)) upper
    ∙ reads_token runs (c ∷ []) u rest (Some more) all stops (cut_only rest more follows)
    ∙ ap Some (sym is)
cut_only pieces tokens (cut_digits {rest = rest} {more = more} c u front digit all stops follows is) =
    ap (λ x. read_tokens x no_token) front
    ∙ begins_digits c (read_tokens (map plain u ++ rest)) digit
    ∙ reads_token numbers (c ∷ []) u rest (Some more) all stops (cut_only rest more follows)
    ∙ ap Some (sym is)
cut_only pieces tokens (cut_text {rest = rest} {more = more} t front follows is) =
    ap (λ x. read_tokens x no_token) front
    ∙ ap (option_map (λ ts. record { kind = kept; text = t } ∷ ts)) (cut_only rest more follows)
    ∙ ap Some (sym is)
cut_only pieces tokens (cut_mark {rest = rest} {more = more} c front marks follows is) =
    ap (λ x. read_tokens x no_token) front
    ∙ begins_mark c (read_tokens rest) marks
    ∙ ap (option_map (λ ts. record { kind = mark; text = c ∷ [] } ∷ ts)) (cut_only rest more follows)
    ∙ ap Some (sym is)

-- ---- what is read is cut

-- the pieces begin with the rest of the token whose text began with t, and are then cut
record GoesOn (kind : TokenKind) (test : ℕ → Bool) (t : List ℕ) (pieces : List Piece) (tokens : List Token) : Type 0 where
  u : List ℕ
  rest : List Piece
  more : List Token
  front : pieces ≡ map plain u ++ rest
  passing : list_all test u ≡ true
  stops : StopsAt test rest
  cut : IsCut rest more
  is : tokens ≡ record { kind = kind; text = t ++ u } ∷ more

abbrev IsCutFrom : Open → List Piece → List Token → Type 0
IsCutFrom no_token pieces tokens = IsCut pieces tokens
IsCutFrom (open_run t) pieces tokens = GoesOn run is_name_byte t pieces tokens
IsCutFrom (open_digits t) pieces tokens = GoesOn digits is_digit t pieces tokens

-- the token ends before these pieces
ended : {kind : TokenKind} {test : ℕ → Bool} {so_far : List ℕ → Open} → Opens kind test so_far → (t : List ℕ) (pieces : List Piece) (tokens : List Token) (o : Option (List Token)) → StopsAt test pieces
    → with_open (so_far t) o ≡ Some tokens → ((more : List Token) → o ≡ Some more → IsCut pieces more) → GoesOn kind test t pieces tokens
ended {kind = kind} is t pieces tokens o stops e cut =
    let m = mapped o (λ (ts : List Token). record { kind = kind; text = t } ∷ ts) tokens (sym (is.closes t o) ∙ e) in
    record {
      u = [];
      rest = pieces;
      more = m.from;
      front = refl;
      passing = refl;
      stops = stops;
      cut = cut m.from m.was;
      is = sym m.is ∙ ap (λ x. record { kind = kind; text = x } ∷ m.from) (sym (append-nil t));
    }

-- one more character
one_more : {kind : TokenKind} {test : ℕ → Bool} {so_far : List ℕ → Open} → Opens kind test so_far → (t : List ℕ) (c : ℕ) (pieces : List Piece) (tokens : List Token)
    → read_tokens (plain c ∷ pieces) (so_far t) ≡ Some tokens → (read_tokens pieces (so_far (t ++ c ∷ [])) ≡ Some tokens → GoesOn kind test (t ++ c ∷ []) pieces tokens)
    → ((more : List Token) → begun_at c (read_tokens pieces) ≡ Some more → IsCut (plain c ∷ pieces) more) → GoesOn kind test t (plain c ∷ pieces) tokens
one_more {kind = kind} {test = test} {so_far = so_far} is t c pieces tokens e longer begun = go (test c) refl
  where
    go : (b : Bool) → test c ≡ b → GoesOn kind test t (plain c ∷ pieces) tokens
    go true passes =
        let g = longer (sym (is.goes t c (read_tokens pieces) passes) ∙ e) in
        record {
          u = c ∷ g.u;
          rest = g.rest;
          more = g.more;
          front = ap (λ (x : List Piece). plain c ∷ x) g.front;
          passing = and_from (test c) (list_all test g.u) passes g.passing;
          stops = g.stops;
          cut = g.cut;
          is = g.is ∙ ap (λ x. record { kind = kind; text = x } ∷ g.more) (append_assoc t (c ∷ []) g.u);
        }
    go false off = ended is t (plain c ∷ pieces) tokens (begun_at c (read_tokens pieces)) off (sym (is.ends t c (read_tokens pieces) off) ∙ e) begun

-- a character that begins a token
begun_is_cut : (c : ℕ) (pieces : List Piece) (tokens : List Token) → ((o : Open) (ts : List Token) → read_tokens pieces o ≡ Some ts → IsCutFrom o pieces ts)
    → begun_at c (read_tokens pieces) ≡ Some tokens → IsCut (plain c ∷ pieces) tokens
begun_is_cut c pieces tokens behind e = go (is_upper c) (is_digit c) (is_mark c) refl refl refl e
  where
    go : (upper digit marks : Bool) → is_upper c ≡ upper → is_digit c ≡ digit → is_mark c ≡ marks → begun_by c (read_tokens pieces) upper digit marks ≡ Some tokens → IsCut (plain c ∷ pieces) tokens
    go true digit marks is _ _ e = let g = behind (open_run (c ∷ [])) tokens e in cut_run c g.u (ap (λ (x : List Piece). plain c ∷ x) g.front) is g.passing g.stops g.cut g.is
    go false true marks _ is _ e = let g = behind (open_digits (c ∷ [])) tokens e in cut_digits c g.u (ap (λ (x : List Piece). plain c ∷ x) g.front) is g.passing g.stops g.cut g.is
    go false false true _ _ is e =
        let m = mapped (read_tokens pieces no_token) (λ (ts : List Token). record { kind = mark; text = c ∷ [] } ∷ ts) tokens e in
        cut_mark c refl is (behind no_token m.from m.was) (sym m.is)
    go false false false _ _ _ e = absurd cc

nothing_left : (tokens : List Token) → Some [] ≡ Some tokens → IsCut [] tokens
nothing_left tokens e = let none : ◌≡◌ {A = List Token} [] tokens = cc in cut_nothing refl (sym none)

text_is_cut : (t : List ℕ) (pieces : List Piece) (tokens : List Token) → ((ts : List Token) → read_tokens pieces no_token ≡ Some ts → IsCut pieces ts)
    → option_map (λ ts. record { kind = kept; text = t } ∷ ts) (read_tokens pieces no_token) ≡ Some tokens → IsCut (whole t ∷ pieces) tokens
text_is_cut t pieces tokens behind e =
    let m = mapped (read_tokens pieces no_token) (λ (ts : List Token). record { kind = kept; text = t } ∷ ts) tokens e in
    cut_text t refl (behind m.from m.was) (sym m.is)

read_is_cut : (pieces : List Piece) (o : Open) (tokens : List Token) → read_tokens pieces o ≡ Some tokens → IsCutFrom o pieces tokens
read_is_cut [] no_token tokens e = nothing_left tokens e
read_is_cut [] (open_run t) tokens e = ended runs t [] tokens (Some []) tt e nothing_left
read_is_cut [] (open_digits t) tokens e = ended numbers t [] tokens (Some []) tt e nothing_left
read_is_cut (plain c ∷ pieces) no_token tokens e = begun_is_cut c pieces tokens (read_is_cut pieces) e
read_is_cut (plain c ∷ pieces) (open_run t) tokens e =
    one_more runs t c pieces tokens e (read_is_cut pieces (open_run (t ++ c ∷ [])) tokens) (λ more. begun_is_cut c pieces more (read_is_cut pieces))
read_is_cut (plain c ∷ pieces) (open_digits t) tokens e =
    one_more numbers t c pieces tokens e (read_is_cut pieces (open_digits (t ++ c ∷ [])) tokens) (λ more. begun_is_cut c pieces more (read_is_cut pieces))
read_is_cut (whole text ∷ pieces) no_token tokens e = text_is_cut text pieces tokens (read_is_cut pieces no_token) e
read_is_cut (whole text ∷ pieces) (open_run t) tokens e =
    ended runs t (whole text ∷ pieces) tokens (read_tokens (whole text ∷ pieces) no_token) tt e (λ more. text_is_cut text pieces more (read_is_cut pieces no_token))
read_is_cut (whole text ∷ pieces) (open_digits t) tokens e =
    ended numbers t (whole text ∷ pieces) tokens (read_tokens (whole text ∷ pieces) no_token) tt e (λ more. text_is_cut text pieces more (read_is_cut pieces no_token))
read_is_cut (broken text ∷ pieces) o tokens e = absurd cc

pub cut_found : (pieces : List Piece) (tokens : List Token) → read_tokens pieces no_token ≡ Some tokens → IsCut pieces tokens
cut_found pieces = read_is_cut pieces no_token

-- ---- the characters of the tokens

plain_text : (u : List ℕ) (rest : List Piece) → flat_map piece_text (map plain u ++ rest) ≡ u ++ flat_map piece_text rest
plain_text [] rest = refl
plain_text (c ∷ u) rest = ap (λ (x : List ℕ). c ∷ x) (plain_text u rest)

pub cut_joined : (pieces : List Piece) (tokens : List Token) → IsCut pieces tokens → flat_map (λ t. t.text) tokens ≡ flat_map piece_text pieces
cut_joined pieces tokens (cut_nothing none end) = ap (flat_map (λ (t : Token). t.text)) end ∙ ap (flat_map piece_text) (sym none)
cut_joined pieces tokens (cut_run {rest = rest} {more = more} c u front upper all stops follows is) =
    ap (flat_map (λ (t : Token). t.text)) is
    ∙ ap (λ (x : List ℕ). (c ∷ u) ++ x) (cut_joined rest more follows)
    ∙ sym (plain_text (c ∷ u) rest)
    ∙ ap (flat_map piece_text) (sym front)
cut_joined pieces tokens (cut_digits {rest = rest} {more = more} c u front digit all stops follows is) =
    ap (flat_map (λ (t : Token). t.text)) is
    ∙ ap (λ (x : List ℕ). (c ∷ u) ++ x) (cut_joined rest more follows)
    ∙ sym (plain_text (c ∷ u) rest)
    ∙ ap (flat_map piece_text) (sym front)
cut_joined pieces tokens (cut_text {rest = rest} {more = more} t front follows is) =
    ap (flat_map (λ (t : Token). t.text)) is
    ∙ ap (λ (x : List ℕ). t ++ x) (cut_joined rest more follows)
    ∙ ap (flat_map piece_text) (sym front)
cut_joined pieces tokens (cut_mark {rest = rest} {more = more} c front marks follows is) =
    ap (flat_map (λ (t : Token). t.text)) is
    ∙ ap (λ (x : List ℕ). c ∷ x) (cut_joined rest more follows)
    ∙ ap (flat_map piece_text) (sym front)

-- ---- the tokens one by one

-- tokens that pieces are cut into are formed
pub cut_formed : (pieces : List Piece) (tokens : List Token) → IsCut pieces tokens → AllFormed tokens
cut_formed pieces tokens (cut_nothing none end) = subst AllFormed (sym end) tt
cut_formed pieces tokens (cut_run {rest = rest} {more = more} c u front upper all stops follows is) = subst AllFormed (sym is) (and_from (is_upper c) (list_all is_name_byte u) upper all, cut_formed rest more follows)
cut_formed pieces tokens (cut_digits {rest = rest} {more = more} c u front digit all stops follows is) = subst AllFormed (sym is) (and_from (is_digit c) (list_all is_digit u) digit all, cut_formed rest more follows)
cut_formed pieces tokens (cut_text {rest = rest} {more = more} t front follows is) = subst AllFormed (sym is) (tt, cut_formed rest more follows)
cut_formed pieces tokens (cut_mark {rest = rest} {more = more} c front marks follows is) = subst AllFormed (sym is) ((c, refl, marks), cut_formed rest more follows)

-- pieces are those of the tokens that they are cut into
pub cut_pieces : (pieces : List Piece) (tokens : List Token) → IsCut pieces tokens → pieces ≡ flat_map token_pieces tokens
cut_pieces pieces tokens (cut_nothing none end) = none ∙ ap (flat_map token_pieces) (sym end)
cut_pieces pieces tokens (cut_run {rest = rest} {more = more} c u front upper all stops follows is) =
    front ∙ ap (λ (x : List Piece). plain c ∷ (map plain u ++ x)) (cut_pieces rest more follows) ∙ ap (flat_map token_pieces) (sym is)
cut_pieces pieces tokens (cut_digits {rest = rest} {more = more} c u front digit all stops follows is) =
    front ∙ ap (λ (x : List Piece). plain c ∷ (map plain u ++ x)) (cut_pieces rest more follows) ∙ ap (flat_map token_pieces) (sym is)
cut_pieces pieces tokens (cut_text {rest = rest} {more = more} t front follows is) = front ∙ ap (λ (x : List Piece). token_pieces (record { kind = kept; text = t }) ++ x) (cut_pieces rest more follows) ∙ ap (flat_map token_pieces) (sym is)
cut_pieces pieces tokens (cut_mark {rest = rest} {more = more} c front marks follows is) = front ∙ ap (λ (x : List Piece). plain c ∷ x) (cut_pieces rest more follows) ∙ ap (flat_map token_pieces) (sym is)

-- ---- the first token, and then the others

abbrev Parted : List Piece → Token → List Token → Type 0
Parted pieces token tokens = (rest : List Piece) × (pieces ≡ token_pieces token ++ rest) × IsCut rest tokens

parted : (pieces rest : List Piece) (token first : Token) (tokens more : List Token) → pieces ≡ token_pieces first ++ rest → IsCut rest more → token ∷ tokens ≡ first ∷ more → Parted pieces token tokens
parted pieces rest token first tokens more front follows is =
    let same : token ≡ first = cc in
    let others : tokens ≡ more = cc in
    (rest, front ∙ ap (λ t. token_pieces t ++ rest) (sym same), subst (IsCut rest) (sym others) follows)

pub cut_next : (pieces : List Piece) (token : Token) (tokens : List Token) → IsCut pieces (token ∷ tokens) → (rest : List Piece) × (pieces ≡ token_pieces token ++ rest) × IsCut rest tokens
cut_next pieces token tokens (cut_nothing none end) = absurd cc
cut_next pieces token tokens (cut_run {rest = rest} {more = more} c u front upper all stops follows is) = parted pieces rest token (record { kind = run; text = c ∷ u }) tokens more front follows is
cut_next pieces token tokens (cut_digits {rest = rest} {more = more} c u front digit all stops follows is) = parted pieces rest token (record { kind = digits; text = c ∷ u }) tokens more front follows is
cut_next pieces token tokens (cut_text {rest = rest} {more = more} t front follows is) = parted pieces rest token (record { kind = kept; text = t }) tokens more front follows is
cut_next pieces token tokens (cut_mark {rest = rest} {more = more} c front marks follows is) = parted pieces rest token (record { kind = mark; text = c ∷ [] }) tokens more front follows is
