-- The pieces that aren't cut into tokens: the reading of pieces one after another finds none.
use Rattle.std.proofs.Common.{◌≡◌, ℕ, Bool, true, false, not, ◌&&◌, List, [], ◌∷◌, ◌++◌, map, Option, Some, None, refl, sym, ap, ◌∙◌}
use Rattle.std.specs.List.{list_all}
use Rattle.std.specs.Option.{option_map}
use Rattle.std.proofs.lemmas.Bool.{and_parts, and_from, not-true, not_from_false}
use Rattle.text_base.specs.Chars.{is_upper, is_digit, is_name_byte}
use Rattle.text_base.specs.Pieces.{Piece, plain, whole, broken}
use Rattle.tree77.specs.Tokens.{TokenKind, run, digits, kept, mark, Token, is_mark, StopsAt, IsCut, token_pieces, begins_none, MayPrecede, precedes_run, precedes_digits, precedes_text, precedes_mark, IsStuck, stuck_open, stuck_at, stuck_behind}
use Rattle.scan77.specs.TokenReading.{Open, no_token, open_run, open_digits, with_open, begun_at, read_tokens}
use Rattle.scan77.proofs.TokenCut.{Opens, runs, numbers, begun_by, begins_run, begins_digits, begins_mark, reads_token, cut_only}

-- ---- what is stuck isn't read

begins_nothing : (c : ℕ) (more : Open → Option (List Token)) → begins_none c ≡ true → begun_at c more ≡ None
begins_nothing c more none =
    let first = and_parts (not (is_upper c)) (not (is_digit c) && not (is_mark c)) none in
    let others = and_parts (not (is_digit c)) (not (is_mark c)) first.1 in
    ap (λ b. begun_by c more b (is_digit c) (is_mark c)) (not-true (is_upper c) first.0)
    ∙ ap (λ b. begun_by c more false b (is_mark c)) (not-true (is_digit c) others.0)
    ∙ ap (begun_by c more false false) (not-true (is_mark c) others.1)

-- a token before pieces that aren't read
behind_token : (token : Token) (rest : List Piece) → MayPrecede token rest → read_tokens rest no_token ≡ None → read_tokens (token_pieces token ++ rest) no_token ≡ None
behind_token token rest (precedes_run c u is upper all stops) e =
    ap (λ t. read_tokens (token_pieces t ++ rest) no_token) is
    ∙ begins_run c (read_tokens (map plain u ++ rest)) upper
    ∙ reads_token runs (c ∷ []) u rest None all stops e
behind_token token rest (precedes_digits c u is digit all stops) e =
    ap (λ t. read_tokens (token_pieces t ++ rest) no_token) is
    ∙ begins_digits c (read_tokens (map plain u ++ rest)) digit
    ∙ reads_token numbers (c ∷ []) u rest None all stops e
behind_token token rest (precedes_text t is) e =
    ap (λ x. read_tokens (token_pieces x ++ rest) no_token) is
    ∙ ap (option_map (λ ts. record { kind = kept; text = t } ∷ ts)) e
behind_token token rest (precedes_mark c is marks) e =
    ap (λ t. read_tokens (token_pieces t ++ rest) no_token) is
    ∙ begins_mark c (read_tokens rest) marks
    ∙ ap (option_map (λ ts. record { kind = mark; text = c ∷ [] } ∷ ts)) e

stuck_unread : (pieces : List Piece) → IsStuck pieces → read_tokens pieces no_token ≡ None
stuck_unread pieces (stuck_open t rest front) = ap (λ x. read_tokens x no_token) front
stuck_unread pieces (stuck_at c rest front none) = ap (λ x. read_tokens x no_token) front ∙ begins_nothing c (read_tokens rest) none
stuck_unread pieces (stuck_behind {rest = rest} token front before behind) = ap (λ x. read_tokens x no_token) front ∙ behind_token token rest before (stuck_unread rest behind)

pub stuck_uncut : (pieces : List Piece) (tokens : List Token) → IsStuck pieces → IsCut pieces tokens → ⊥
stuck_uncut pieces tokens stuck cut =
    let none : None ≡ Some tokens = sym (stuck_unread pieces stuck) ∙ cut_only pieces tokens cut in
    cc

-- ---- what isn't read is stuck

none_mapped : {A B : Type 0} (o : Option A) (f : A → B) → option_map f o ≡ None → o ≡ None
none_mapped None f e = refl
none_mapped (Some x) f e = absurd cc

-- the pieces begin with the rest of a token, and are then stuck
record StuckBehind (test : ℕ → Bool) (pieces : List Piece) : Type 0 where
  u : List ℕ
  rest : List Piece
  front : pieces ≡ map plain u ++ rest
  passing : list_all test u ≡ true
  stops : StopsAt test rest
  stuck : IsStuck rest

abbrev IsStuckFrom : Open → List Piece → Type 0
IsStuckFrom no_token pieces = IsStuck pieces
IsStuckFrom (open_run t) pieces = StuckBehind is_name_byte pieces
IsStuckFrom (open_digits t) pieces = StuckBehind is_digit pieces

-- the token ends before these pieces
ended_stuck : {kind : TokenKind} {test : ℕ → Bool} {so_far : List ℕ → Open} → Opens kind test so_far → (t : List ℕ) (pieces : List Piece) (o : Option (List Token)) → StopsAt test pieces
    → with_open (so_far t) o ≡ None → (o ≡ None → IsStuck pieces) → StuckBehind test pieces
ended_stuck {kind = kind} is t pieces o stops e stuck = record {
  u = [];
  rest = pieces;
  front = refl;
  passing = refl;
  stops = stops;
  stuck = stuck (none_mapped o (λ (ts : List Token). record { kind = kind; text = t } ∷ ts) (sym (is.closes t o) ∙ e));
}

-- one more character
one_more_stuck : {kind : TokenKind} {test : ℕ → Bool} {so_far : List ℕ → Open} → Opens kind test so_far → (t : List ℕ) (c : ℕ) (pieces : List Piece)
    → read_tokens (plain c ∷ pieces) (so_far t) ≡ None → (read_tokens pieces (so_far (t ++ c ∷ [])) ≡ None → StuckBehind test pieces)
    → (begun_at c (read_tokens pieces) ≡ None → IsStuck (plain c ∷ pieces)) → StuckBehind test (plain c ∷ pieces)
one_more_stuck {test = test} is t c pieces e longer begun = go (test c) refl
  where
    go : (b : Bool) → test c ≡ b → StuckBehind test (plain c ∷ pieces)
    go true passes =
        let g = longer (sym (is.goes t c (read_tokens pieces) passes) ∙ e) in
        record {
          u = c ∷ g.u;
          rest = g.rest;
          front = ap (λ (x : List Piece). plain c ∷ x) g.front;
          passing = and_from (test c) (list_all test g.u) passes g.passing;
          stops = g.stops;
          stuck = g.stuck;
        }
    go false off = ended_stuck is t (plain c ∷ pieces) (begun_at c (read_tokens pieces)) off (sym (is.ends t c (read_tokens pieces) off) ∙ e) begun

-- a character that begins a token or none
begun_is_stuck : (c : ℕ) (pieces : List Piece) → ((o : Open) → read_tokens pieces o ≡ None → IsStuckFrom o pieces) → begun_at c (read_tokens pieces) ≡ None → IsStuck (plain c ∷ pieces)
begun_is_stuck c pieces behind e = go (is_upper c) (is_digit c) (is_mark c) refl refl refl e
  where
    go : (upper digit marks : Bool) → is_upper c ≡ upper → is_digit c ≡ digit → is_mark c ≡ marks → begun_by c (read_tokens pieces) upper digit marks ≡ None → IsStuck (plain c ∷ pieces)
    go true digit marks is _ _ e =
        let g = behind (open_run (c ∷ [])) e in
        stuck_behind (record { kind = run; text = c ∷ g.u }) (ap (λ (x : List Piece). plain c ∷ x) g.front) (precedes_run c g.u refl is g.passing g.stops) g.stuck
    go false true marks _ is _ e =
        let g = behind (open_digits (c ∷ [])) e in
        stuck_behind (record { kind = digits; text = c ∷ g.u }) (ap (λ (x : List Piece). plain c ∷ x) g.front) (precedes_digits c g.u refl is g.passing g.stops) g.stuck
    go false false true _ _ is e =
        let none = none_mapped (read_tokens pieces no_token) (λ (ts : List Token). record { kind = mark; text = c ∷ [] } ∷ ts) e in
        stuck_behind (record { kind = mark; text = c ∷ [] }) refl (precedes_mark c refl is) (behind no_token none)
    go false false false upper digit marks e =
        let others = and_from (not (is_digit c)) (not (is_mark c)) (not_from_false (is_digit c) digit) (not_from_false (is_mark c) marks) in
        stuck_at c pieces refl (and_from (not (is_upper c)) (not (is_digit c) && not (is_mark c)) (not_from_false (is_upper c) upper) others)

text_is_stuck : (t : List ℕ) (pieces : List Piece) → (read_tokens pieces no_token ≡ None → IsStuck pieces) → read_tokens (whole t ∷ pieces) no_token ≡ None → IsStuck (whole t ∷ pieces)
text_is_stuck t pieces behind e =
    let none = none_mapped (read_tokens pieces no_token) (λ (ts : List Token). record { kind = kept; text = t } ∷ ts) e in
    stuck_behind (record { kind = kept; text = t }) refl (precedes_text t refl) (behind none)

unread_is_stuck : (pieces : List Piece) (o : Open) → read_tokens pieces o ≡ None → IsStuckFrom o pieces
unread_is_stuck [] no_token e = absurd cc
unread_is_stuck [] (open_run t) e = absurd cc
unread_is_stuck [] (open_digits t) e = absurd cc
unread_is_stuck (plain c ∷ pieces) no_token e = begun_is_stuck c pieces (unread_is_stuck pieces) e
unread_is_stuck (plain c ∷ pieces) (open_run t) e = one_more_stuck runs t c pieces e (unread_is_stuck pieces (open_run (t ++ c ∷ []))) (begun_is_stuck c pieces (unread_is_stuck pieces))
unread_is_stuck (plain c ∷ pieces) (open_digits t) e = one_more_stuck numbers t c pieces e (unread_is_stuck pieces (open_digits (t ++ c ∷ []))) (begun_is_stuck c pieces (unread_is_stuck pieces))
unread_is_stuck (whole text ∷ pieces) no_token e = text_is_stuck text pieces (unread_is_stuck pieces no_token) e
unread_is_stuck (whole text ∷ pieces) (open_run t) e =
    ended_stuck runs t (whole text ∷ pieces) (read_tokens (whole text ∷ pieces) no_token) tt e (text_is_stuck text pieces (unread_is_stuck pieces no_token))
unread_is_stuck (whole text ∷ pieces) (open_digits t) e =
    ended_stuck numbers t (whole text ∷ pieces) (read_tokens (whole text ∷ pieces) no_token) tt e (text_is_stuck text pieces (unread_is_stuck pieces no_token))
unread_is_stuck (broken text ∷ pieces) no_token e = stuck_open text pieces refl
unread_is_stuck (broken text ∷ pieces) (open_run t) e = ended_stuck runs t (broken text ∷ pieces) None tt refl (λ _. stuck_open text pieces refl)
unread_is_stuck (broken text ∷ pieces) (open_digits t) e = ended_stuck numbers t (broken text ∷ pieces) None tt refl (λ _. stuck_open text pieces refl)

pub cut_stuck : (pieces : List Piece) → read_tokens pieces no_token ≡ None → IsStuck pieces
cut_stuck pieces = unread_is_stuck pieces no_token
