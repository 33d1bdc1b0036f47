-- A cut of pieces is parted between any two tokens, and at any mark.
use Rattle.std.proofs.Common.{◌≡◌, ◌⊎◌, inl, inr, ℕ, Bool, true, false, List, [], ◌∷◌, ◌++◌, map, refl, sym, ap, ◌∙◌, subst, append_assoc}
use Rattle.std.specs.List.{list_all}
use Rattle.std.proofs.lemmas.Bool.{and_parts, and_from}
use Rattle.text_base.specs.Chars.{is_digit, is_name_byte}
use Rattle.text_base.specs.Pieces.{Piece, plain, whole, broken}
use Rattle.text_base.proofs.CharTests.{letter_is_name_byte}
use Rattle.tree77.specs.Tokens.{TokenKind, run, digits, kept, mark, Token, is_mark, StopsAt, IsCut, cut_nothing, cut_run, cut_digits, cut_text, cut_mark}
use Rattle.scan77.proofs.TokenCut.{each_mark, mark_is_not_digit}

-- ---- what stands behind a token, without its end

-- where pieces stop a token, so does their first part, which may be nothing
stops_before : (test : ℕ → Bool) (before after : List Piece) → StopsAt test (before ++ after) → StopsAt test before
stops_before test [] after stops = tt
stops_before test (plain c ∷ before) after stops = stops
stops_before test (whole t ∷ before) after stops = tt
stops_before test (broken t ∷ before) after stops = tt

-- the same, of pieces in two parts
stops_part : (test : ℕ → Bool) (rest before after : List Piece) → rest ≡ before ++ after → StopsAt test rest → StopsAt test before
stops_part test rest before after is stops = stops_before test before after (subst (StopsAt test) is stops)

-- ---- between tokens

-- pieces in two parts, each cut into its tokens
abbrev Between : List Piece → List Token → List Token → Type 0
Between pieces tokens more = (before : List Piece) × (after : List Piece) × (pieces ≡ before ++ after) × IsCut before tokens × IsCut after more

-- a token's characters before pieces in two parts
fronted : (pieces rest before after : List Piece) (u : List ℕ) → pieces ≡ map plain u ++ rest → rest ≡ before ++ after → pieces ≡ (map plain u ++ before) ++ after
fronted pieces rest before after u front is = front ∙ ap (λ x. map plain u ++ x) is ∙ sym (append_assoc (map plain u) before after)

-- a cut of some tokens and more is parted behind the first ones
pub parted_between : (pieces : List Piece) (tokens more : List Token) → IsCut pieces (tokens ++ more) → (before : List Piece) × (after : List Piece) × (pieces ≡ before ++ after) × IsCut before tokens × IsCut after more
parted_between pieces [] more cut = ([], pieces, refl, cut_nothing refl refl, cut)
parted_between pieces (t ∷ ts) more (cut_nothing none end) = absurd cc
parted_between pieces (t ∷ ts) more (cut_run {rest = rest} {more = others} c u front upper all stops follows is) =
    let first : t ≡ record { kind = run; text = c ∷ u } = cc in
    let behind : others ≡ ts ++ more = cc in
    let p = parted_between rest ts more (subst (IsCut rest) behind follows) in (
      map plain (c ∷ u) ++ p.0,
      p.1,
      fronted pieces rest p.0 p.1 (c ∷ u) front p.2,
      cut_run c u refl upper all (stops_part is_name_byte rest p.0 p.1 p.2 stops) p.3 (ap (λ x. x ∷ ts) first),
      p.4,
    )
parted_between pieces (t ∷ ts) more (cut_digits {rest = rest} {more = others} c u front digit all stops follows is) =
    let first : t ≡ record { kind = digits; text = c ∷ u } = cc in
    let behind : others ≡ ts ++ more = cc in
    let p = parted_between rest ts more (subst (IsCut rest) behind follows) in (
      map plain (c ∷ u) ++ p.0,
      p.1,
      fronted pieces rest p.0 p.1 (c ∷ u) front p.2,
      cut_digits c u refl digit all (stops_part is_digit rest p.0 p.1 p.2 stops) p.3 (ap (λ x. x ∷ ts) first),
      p.4,
    )
parted_between pieces (t ∷ ts) more (cut_text {rest = rest} {more = others} text front follows is) =
    let first : t ≡ record { kind = kept; text = text } = cc in
    let behind : others ≡ ts ++ more = cc in
    let p = parted_between rest ts more (subst (IsCut rest) behind follows) in
    (whole text ∷ p.0, p.1, front ∙ ap (λ (x : List Piece). whole text ∷ x) p.2, cut_text text refl p.3 (ap (λ x. x ∷ ts) first), p.4)
parted_between pieces (t ∷ ts) more (cut_mark {rest = rest} {more = others} c front marks follows is) =
    let first : t ≡ record { kind = mark; text = c ∷ [] } = cc in
    let behind : others ≡ ts ++ more = cc in
    let p = parted_between rest ts more (subst (IsCut rest) behind follows) in
    (plain c ∷ p.0, p.1, front ∙ ap (λ (x : List Piece). plain c ∷ x) p.2, cut_mark c refl marks p.3 (ap (λ x. x ∷ ts) first), p.4)

-- ---- at a mark

-- a mark is no letter, digit or underscore
mark_ends_run : (c : ℕ) → is_mark c ≡ true → is_name_byte c ≡ false
mark_ends_run c = each_mark is_name_byte c refl refl refl refl refl refl refl refl refl refl

-- characters that pass stand before the mark, which doesn't
record Behind (u : List ℕ) (rest before after : List Piece) (c : ℕ) : Type 0 where
  between : List Piece
  earlier : before ≡ map plain u ++ between
  later : rest ≡ between ++ plain c ∷ after

-- the characters of a longest run or of digits all stand before a mark behind them
behind : (test : ℕ → Bool) (c : ℕ) (u : List ℕ) (rest before after : List Piece) → test c ≡ false → list_all test u ≡ true → before ++ plain c ∷ after ≡ map plain u ++ rest → Behind u rest before after c
behind test c [] rest before after off all e = record { between = before; earlier = refl; later = sym e }
behind test c (d ∷ u) rest [] after off all e =
    let same : c ≡ d = cc in
    let on : test d ≡ true = (and_parts (test d) (list_all test u) all).0 in
    absurd cc
behind test c (d ∷ u) rest (p ∷ before) after off all e =
    let first : p ≡ plain d = cc in
    let others : before ++ plain c ∷ after ≡ map plain u ++ rest = cc in
    let b = behind test c u rest before after off (and_parts (test d) (list_all test u) all).1 others in
    record { between = b.between; earlier = ap (λ x. x ∷ before) first ∙ ap (λ (x : List Piece). plain d ∷ x) b.earlier; later = b.later }

-- one piece stands before the mark, or is it
record IsFirst (p : Piece) (rest before after : List Piece) (c : ℕ) : Type 0 where
  is : p ≡ plain c
  none : before ≡ []
  later : rest ≡ after

-- the piece stands before the mark
record IsEarlier (p : Piece) (rest before after : List Piece) (c : ℕ) : Type 0 where
  between : List Piece
  earlier : before ≡ p ∷ between
  later : rest ≡ between ++ plain c ∷ after

-- the first piece is the mark, or stands before it
first_or_earlier : (p : Piece) (rest before after : List Piece) (c : ℕ) → before ++ plain c ∷ after ≡ p ∷ rest → IsFirst p rest before after c ⊎ IsEarlier p rest before after c
first_or_earlier p rest [] after c e = let is : p ≡ plain c = cc in let later : rest ≡ after = cc in inl (record { is = is; none = refl; later = later })
first_or_earlier p rest (q ∷ before) after c e =
    let same : q ≡ p = cc in
    let later : rest ≡ before ++ plain c ∷ after = cc in
    inr (record { between = before; earlier = ap (λ x. x ∷ before) same; later = later })

-- tokens in two parts with a mark between them, and the cut of each part
abbrev AtMark : List Piece → List Piece → ℕ → List Token → Type 0
AtMark before after c tokens = (first : List Token) × (rest : List Token) × (tokens ≡ first ++ record { kind = mark; text = c ∷ [] } ∷ rest) × IsCut before first × IsCut after rest

-- a cut of pieces among which a mark stands is parted at it
pub parted_at_mark : (pieces before after : List Piece) (c : ℕ) (tokens : List Token) → is_mark c ≡ true → pieces ≡ before ++ plain c ∷ after → IsCut pieces tokens
    → (first : List Token) × (rest : List Token) × (tokens ≡ first ++ record { kind = mark; text = c ∷ [] } ∷ rest) × IsCut before first × IsCut after rest
parted_at_mark pieces before after c tokens marked e (cut_nothing none end) = no_mark before (sym e ∙ none)
  where
    no_mark : (b : List Piece) → b ++ plain c ∷ after ≡ [] → AtMark before after c tokens
    no_mark [] e = absurd cc
    no_mark (p ∷ b) e = absurd cc
parted_at_mark pieces before after c tokens marked e (cut_run {rest = rest} {more = more} d u front upper all stops follows is) =
    let b = behind is_name_byte c (d ∷ u) rest before after (mark_ends_run c marked) (and_from (is_name_byte d) (list_all is_name_byte u) (letter_is_name_byte d upper) all) (sym e ∙ front) in
    let p = parted_at_mark rest b.between after c more marked b.later follows in
    let t : Token = record { kind = run; text = d ∷ u } in
    (t ∷ p.0, p.1, is ∙ ap (λ (x : List Token). t ∷ x) p.2, cut_run d u b.earlier upper all (stops_part is_name_byte rest b.between (plain c ∷ after) b.later stops) p.3 refl, p.4)
parted_at_mark pieces before after c tokens marked e (cut_digits {rest = rest} {more = more} d u front digit all stops follows is) =
    let b = behind is_digit c (d ∷ u) rest before after (mark_is_not_digit c marked) (and_from (is_digit d) (list_all is_digit u) digit all) (sym e ∙ front) in
    let p = parted_at_mark rest b.between after c more marked b.later follows in
    let t : Token = record { kind = digits; text = d ∷ u } in
    (t ∷ p.0, p.1, is ∙ ap (λ (x : List Token). t ∷ x) p.2, cut_digits d u b.earlier digit all (stops_part is_digit rest b.between (plain c ∷ after) b.later stops) p.3 refl, p.4)
parted_at_mark pieces before after c tokens marked e (cut_text {rest = rest} {more = more} text front follows is) =
    go (first_or_earlier (whole text) rest before after c (sym e ∙ front)) (λ between later. parted_at_mark rest between after c more marked later follows)
  where
    go : IsFirst (whole text) rest before after c ⊎ IsEarlier (whole text) rest before after c → ((between : List Piece) → rest ≡ between ++ plain c ∷ after → AtMark between after c more) → AtMark before after c tokens
    go (inl f) other = let apart : whole text ≡ plain c = f.is in absurd cc
    go (inr f) other =
        let p = other f.between f.later in
        let t : Token = record { kind = kept; text = text } in
        (t ∷ p.0, p.1, is ∙ ap (λ (x : List Token). t ∷ x) p.2, cut_text text f.earlier p.3 refl, p.4)
parted_at_mark pieces before after c tokens marked e (cut_mark {rest = rest} {more = more} d front marks follows is) =
    go (first_or_earlier (plain d) rest before after c (sym e ∙ front)) (λ between later. parted_at_mark rest between after c more marked later follows)
  where
    go : IsFirst (plain d) rest before after c ⊎ IsEarlier (plain d) rest before after c → ((between : List Piece) → rest ≡ between ++ plain c ∷ after → AtMark between after c more) → AtMark before after c tokens
    go (inl f) other =
        let piece : plain d ≡ plain c = f.is in
        let same : d ≡ c = cc in
        ([], more, is ∙ ap (λ x. record { kind = mark; text = x ∷ [] } ∷ more) same, cut_nothing f.none refl, subst (λ x. IsCut x more) f.later follows)
    go (inr f) other =
        let p = other f.between f.later in
        let t : Token = record { kind = mark; text = d ∷ [] } in
        (t ∷ p.0, p.1, is ∙ ap (λ (x : List Token). t ∷ x) p.2, cut_mark d f.earlier marks p.3 refl, p.4)

-- ---- in a run

-- what stands behind the characters w of a list that begins with them
same_behind : (w u : List ℕ) (rest behind : List Piece) → map plain w ++ rest ≡ map plain (w ++ u) ++ behind → rest ≡ map plain u ++ behind
same_behind [] u rest behind e = e
same_behind (c ∷ w) u rest behind e = let others : map plain w ++ rest ≡ map plain (w ++ u) ++ behind = cc in same_behind w u rest behind others

-- the characters behind w pass where all do
last_pass : (test : ℕ → Bool) (w u : List ℕ) → list_all test (w ++ u) ≡ true → list_all test u ≡ true
last_pass test [] u all = all
last_pass test (c ∷ w) u all = last_pass test w u (and_parts (test c) (list_all test (w ++ u)) all).1

-- the rest of a run, and what stands behind it
abbrev InRun : List ℕ → List Piece → List Token → Type 0
InRun u rest more = (behind : List Piece) × (rest ≡ map plain u ++ behind) × (list_all is_name_byte u ≡ true) × StopsAt is_name_byte behind × IsCut behind more

-- the first tokens of equal lists are equal, and so are the others
same_tokens : (a b : Token) (more others : List Token) → a ∷ more ≡ b ∷ others → (a.kind ≡ b.kind) × (a.text ≡ b.text) × (more ≡ others)
same_tokens a b more others e = let first : a ≡ b = cc in let later : more ≡ others = cc in (ap (λ (t : Token). t.kind) first, ap (λ (t : Token). t.text) first, later)

-- the first token of a cut is no run
no_run : (kind : TokenKind) (t u : List ℕ) (tokens more others : List Token) → (kind ≡ run → ⊥) → tokens ≡ record { kind = kind; text = t } ∷ others → tokens ≡ record { kind = run; text = u } ∷ more → ⊥
no_run kind t u tokens more others differ e is = differ (same_tokens (record { kind = kind; text = t }) (record { kind = run; text = u }) others more (sym e ∙ is)).0

-- where a run begins with w, the rest of it is left behind w
pub parted_in_run : (w u : List ℕ) (rest : List Piece) (more : List Token) → IsCut (map plain w ++ rest) (record { kind = run; text = w ++ u } ∷ more)
    → (behind : List Piece) × (rest ≡ map plain u ++ behind) × (list_all is_name_byte u ≡ true) × StopsAt is_name_byte behind × IsCut behind more
parted_in_run w u rest more cut = go (map plain w ++ rest) (record { kind = run; text = w ++ u } ∷ more) refl refl cut
  where
    go : (pieces : List Piece) (tokens : List Token) → map plain w ++ rest ≡ pieces → tokens ≡ record { kind = run; text = w ++ u } ∷ more → IsCut pieces tokens → InRun u rest more
    go pieces tokens from is (cut_nothing none end) = let same : ◌≡◌ {A = List Token} [] (record { kind = run; text = w ++ u } ∷ more) = sym end ∙ is in absurd cc
    go pieces tokens from is (cut_run {rest = after} {more = others} c v front upper all stops follows same) =
        let parts = same_tokens (record { kind = run; text = c ∷ v }) (record { kind = run; text = w ++ u }) others more (sym same ∙ is) in (
          after,
          same_behind w u rest after (from ∙ front ∙ ap (λ x. map plain x ++ after) parts.1),
          last_pass is_name_byte w u (ap (list_all is_name_byte) (sym parts.1) ∙ and_from (is_name_byte c) (list_all is_name_byte v) (letter_is_name_byte c upper) all),
          stops,
          subst (IsCut after) parts.2 follows,
        )
    go pieces tokens from is (cut_digits {more = others} c v front digit all stops follows same) = absurd (no_run digits (c ∷ v) (w ++ u) tokens more others (λ e. cc) same is)
    go pieces tokens from is (cut_text {more = others} t front follows same) = absurd (no_run kept t (w ++ u) tokens more others (λ e. cc) same is)
    go pieces tokens from is (cut_mark {more = others} c front marks follows same) = absurd (no_run mark (c ∷ []) (w ++ u) tokens more others (λ e. cc) same is)
