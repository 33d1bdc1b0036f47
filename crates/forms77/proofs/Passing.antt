-- What is looked for among pieces and among the tokens that they are cut into.
use Rattle.std.proofs.Common.{◌≡◌, ℕ, zero, suc, Bool, true, false, ◌&&◌, ◌||◌, ◌==◌, List, [], ◌∷◌, ◌++◌, map, Option, Some, None, refl, sym, ap, ◌∙◌, subst, arith}
use Rattle.std.specs.Prelude.{if◌then◌else◌}
use Rattle.std.specs.List.{list_all, flat_map}
use Rattle.std.specs.Option.{option_map}
use Rattle.std.specs.Str.{bytes_eq}
use Rattle.std.proofs.lemmas.Bool.{and_parts, eqb-true}
use Rattle.std.proofs.lemmas.Bool.Decides.{nat_tests}
use Rattle.std.proofs.lemmas.Option.{same_Some}
use Rattle.std.proofs.Math.Bool.{and-false}
use Rattle.text_base.specs.Chars.{is_upper, is_digit, is_name_byte}
use Rattle.text_base.specs.Pieces.{Piece, plain, whole, broken}
use Rattle.text_base.proofs.CharTests.{digits_are_name_bytes}
use Rattle.text_base.proofs.Optional.{mapped}
use Rattle.tree77.specs.Kinds.{is_word, is_number, open_after}
use Rattle.tree77.specs.Tokens.{TokenKind, run, digits, kept, mark, Token, is_mark, StopsAt, IsCut, cut_nothing, cut_run, cut_digits, cut_text, cut_mark, token_pieces}
use Rattle.forms77.proofs.Marks.{mark_is_not_digit}
use Rattle.expr77.specs.LexemeReading.{character_of}
use Rattle.scan77.specs.TokenReading.{IsFormed, AllFormed}
use Rattle.tree77.specs.Forms.{first_sort, is_in, passing, first_text, behind_first, behind_group, equals_inside, equated, Look, one, two, three, text, group, ahead, stays, is_starred}
use Rattle.forms77.specs.Reading.{next_sort, behind_token, next_text, behind_partner, has_equals, is_ahead, split, has_star}
use Rattle.forms77.proofs.Fronts.{mark_of}
use Rattle.forms77.proofs.Sorts.{letter_sort, digit_sort, mark_sort, digit_is_not_upper, mark_is_not_upper, next_is_first, of_each}

-- the pieces of tokens, one token after another
abbrev pub pieces_of_tokens : List Token → List Piece
pieces_of_tokens = flat_map token_pieces

-- ---- texts

pub none_passes : (test : ℕ → Bool) (r : List Piece) → StopsAt test r → passing test r ≡ ([], r)
none_passes test [] stop = refl
none_passes test (plain c ∷ r) stop = ap (λ b. if b then (c ∷ (passing test r).0, (passing test r).1) else ([], plain c ∷ r)) stop
none_passes test (whole t ∷ r) stop = refl
none_passes test (broken t ∷ r) stop = refl

abbrev put_first : ℕ → List ℕ × List Piece → List ℕ × List Piece
put_first c q = (c ∷ q.0, q.1)

pub all_pass : (test : ℕ → Bool) (w : List ℕ) (r : List Piece) → list_all test w ≡ true → StopsAt test r → passing test (map plain w ++ r) ≡ (w, r)
all_pass test [] r all stop = none_passes test r stop
all_pass test (c ∷ w) r all stop =
    let p = and_parts (test c) (list_all test w) all in
    ap (λ b. if b then (c ∷ (passing test (map plain w ++ r)).0, (passing test (map plain w ++ r)).1) else ([], plain c ∷ (map plain w ++ r))) p.0
    ∙ ap (put_first c) (all_pass test w r p.1 stop)

-- `first_text` and `behind_first` by what their tests answer
abbrev text_by : ℕ → List Piece → Bool → List ℕ
text_by c rest upper = if upper then c ∷ (passing is_name_byte rest).0 else []

abbrev behind_by : List Piece → Bool → Bool → List Piece
behind_by rest upper digit = if upper then (passing is_name_byte rest).1 else (if digit then (passing is_digit rest).1 else rest)

pub text_is : (u : List Piece) (ts : List Token) → IsCut u ts → next_text ts ≡ first_text u
text_is u ts (cut_nothing none end) = ap next_text end ∙ ap first_text (sym none)
text_is u ts (cut_run {rest = rest} c w front upper all stop follows is) =
    ap next_text is ∙ sym (ap (λ b. text_by c (map plain w ++ rest) b) upper ∙ ap (λ (q : List ℕ × List Piece). c ∷ q.0) (all_pass is_name_byte w rest all stop)) ∙ ap first_text (sym front)
text_is u ts (cut_digits {rest = rest} c w front digit all stop follows is) =
    ap next_text is ∙ sym (ap (λ b. text_by c (map plain w ++ rest) b) (digit_is_not_upper c digit)) ∙ ap first_text (sym front)
text_is u ts (cut_text t front follows is) = ap next_text is ∙ ap first_text (sym front)
text_is u ts (cut_mark {rest = rest} c front marks follows is) = ap next_text is ∙ sym (ap (λ b. text_by c rest b) (mark_is_not_upper c marks)) ∙ ap first_text (sym front)

recut : {u v : List Piece} {ts us : List Token} → u ≡ v → ts ≡ us → IsCut v us → IsCut u ts
recut {u = u} {us = us} e f cut = subst (IsCut u) (sym f) (subst (λ w. IsCut w us) (sym e) cut)

pub behind_is : (u : List Piece) (ts : List Token) → IsCut u ts → IsCut (behind_first u) (behind_token ts)
behind_is u ts (cut_nothing none end) = recut (ap behind_first none) (ap behind_token end) (cut_nothing refl refl)
behind_is u ts (cut_run {rest = rest} c w front upper all stop follows is) =
    recut
    (ap behind_first front ∙ ap (λ b. behind_by (map plain w ++ rest) b (is_digit c)) upper ∙ ap (λ (q : List ℕ × List Piece). q.1) (all_pass is_name_byte w rest all stop))
    (ap behind_token is) follows
behind_is u ts (cut_digits {rest = rest} c w front digit all stop follows is) =
    recut
    (ap behind_first front ∙ ap (λ b. behind_by (map plain w ++ rest) b (is_digit c)) (digit_is_not_upper c digit) ∙ ap (behind_by (map plain w ++ rest) false) digit
    ∙ ap (λ (q : List ℕ × List Piece). q.1) (all_pass is_digit w rest all stop))
    (ap behind_token is) follows
behind_is u ts (cut_text t front follows is) = recut (ap behind_first front) (ap behind_token is) follows
behind_is u ts (cut_mark {rest = rest} c front marks follows is) =
    recut (ap behind_first front ∙ ap (λ b. behind_by rest b (is_digit c)) (mark_is_not_upper c marks) ∙ ap (behind_by rest false) (mark_is_not_digit c marks)) (ap behind_token is) follows

-- ---- parentheses

-- a letter, a digit or an underscore is no mark, and opens and closes nothing
pub no_mark : (c : ℕ) → is_name_byte c ≡ true → is_mark c ≡ false
no_mark c is = grind (arith, nat_tests)

pub opens_nothing : (c n : ℕ) → is_name_byte c ≡ true → open_after n c ≡ n
opens_nothing c n is = grind (arith, nat_tests)

pub letters : (w : List ℕ) → is_word w ≡ true → list_all is_name_byte w ≡ true
letters [] is = absurd cc
letters (c ∷ w) is = let parts = and_parts (is_upper c) (list_all is_name_byte w) is in grind (arith, nat_tests)

pub figures : (w : List ℕ) → is_number w ≡ true → list_all is_name_byte w ≡ true
figures [] is = absurd cc
figures (c ∷ w) is = digits_are_name_bytes (c ∷ w) is

pub never_0 : (m : ℕ) → (suc m == 0) ≡ false
never_0 m = grind (arith, nat_tests)

-- `behind_group` and `behind_partner` by what the test answers
abbrev group_by : Bool → ℕ → List Piece → List Piece
group_by b k r = if b then r else behind_group k r

abbrev partner_by : Bool → ℕ → List Token → List Token
partner_by b k ts = if b then ts else behind_partner k ts

-- where the level stays, the search goes on
goes_on : (m : ℕ) (ts : List Token) (t : Token) → character_of t.kind t.text ≡ 0 → behind_partner (suc m) (t ∷ ts) ≡ behind_partner (suc m) ts
goes_on m ts t none = ap (λ c. partner_by (open_after (suc m) c == 0) (open_after (suc m) c) ts) none ∙ ap (λ b. partner_by b (suc m) ts) (never_0 m)

group_past : (m : ℕ) (w : List ℕ) (r : List Piece) → list_all is_name_byte w ≡ true → behind_group (suc m) (map plain w ++ r) ≡ behind_group (suc m) r
group_past m [] r all = refl
group_past m (c ∷ w) r all =
    let p = and_parts (is_name_byte c) (list_all is_name_byte w) all in
    ap (λ k. group_by (k == 0) k (map plain w ++ r)) (opens_nothing c (suc m) p.0) ∙ ap (λ b. group_by b (suc m) (map plain w ++ r)) (never_0 m) ∙ group_past m w r p.1

pub partner_is : (m : ℕ) (u : List Piece) (ts : List Token) → IsCut u ts → IsCut (behind_group (suc m) u) (behind_partner (suc m) ts)
partner_is m u ts (cut_nothing none end) = recut (ap (behind_group (suc m)) none) (ap (behind_partner (suc m)) end) (cut_nothing refl refl)
partner_is m u ts (cut_run {rest = rest} {more = more} c w front upper all stop follows is) =
    recut (ap (behind_group (suc m)) front ∙ group_past m (c ∷ w) rest (letters (c ∷ w) (word c w upper all))) (ap (behind_partner (suc m)) is ∙ goes_on m more (record { kind = run; text = c ∷ w }) refl) (partner_is m rest more follows)
  where
    word : (c : ℕ) (w : List ℕ) → is_upper c ≡ true → list_all is_name_byte w ≡ true → is_word (c ∷ w) ≡ true
    word c w a b = ap (λ x. x && list_all is_name_byte w) a ∙ b
partner_is m u ts (cut_digits {rest = rest} {more = more} c w front digit all stop follows is) =
    recut (ap (behind_group (suc m)) front ∙ group_past m (c ∷ w) rest (figures (c ∷ w) (ap (λ x. x && list_all is_digit w) digit ∙ all))) (ap (behind_partner (suc m)) is ∙ goes_on m more (record { kind = digits; text = c ∷ w }) refl) (partner_is m rest more follows)
partner_is m u ts (cut_text {rest = rest} {more = more} t front follows is) = recut (ap (behind_group (suc m)) front) (ap (behind_partner (suc m)) is ∙ goes_on m more (record { kind = kept; text = t }) refl) (partner_is m rest more follows)
partner_is m u ts (cut_mark {rest = rest} {more = more} c front marks follows is) =
    recut (ap (behind_group (suc m)) front) (ap (behind_partner (suc m)) is) (go (λ k. partner_is k rest more follows) (open_after (suc m) c))
  where
    go : ((k : ℕ) → IsCut (behind_group (suc k) rest) (behind_partner (suc k) more)) → (k : ℕ) → IsCut (group_by (k == 0) k rest) (partner_by (k == 0) k more)
    go further zero = follows
    go further (suc k) = recut (ap (λ b. group_by b (suc k) rest) (never_0 k)) (ap (λ b. partner_by b (suc k) more) (never_0 k)) (further k)

-- ---- looks

-- the look at a group
group_ahead : (ks : List ℕ) (u : List Piece) (ts : List Token) → IsCut u ts → is_ahead (group ks) ts ≡ ahead (group ks) u
group_ahead ks u ts (cut_nothing none end) = ap (is_ahead (group ks)) end ∙ ap (ahead (group ks)) (sym none)
group_ahead ks u ts (cut_run {rest = rest} c w front upper all stop follows is) =
    ap (is_ahead (group ks)) is ∙ sym (ap (λ k. k == 40 && is_in ks (first_sort (behind_group 0 (plain c ∷ (map plain w ++ rest))))) (letter_sort c upper)) ∙ ap (ahead (group ks)) (sym front)
group_ahead ks u ts (cut_digits {rest = rest} c w front digit all stop follows is) =
    ap (is_ahead (group ks)) is ∙ sym (ap (λ k. k == 40 && is_in ks (first_sort (behind_group 0 (plain c ∷ (map plain w ++ rest))))) (digit_sort c digit)) ∙ ap (ahead (group ks)) (sym front)
group_ahead ks u ts (cut_text t front follows is) = ap (is_ahead (group ks)) is ∙ ap (ahead (group ks)) (sym front)
group_ahead ks u ts (cut_mark {rest = rest} {more = more} c front marks follows is) =
    ap (is_ahead (group ks)) is ∙ go (c == 40) refl
    ∙ sym (ap (λ k. k == 40 && is_in ks (first_sort (behind_group 0 (plain c ∷ rest)))) (mark_sort c marks)) ∙ ap (ahead (group ks)) (sym front)
  where
    go : (b : Bool) → (c == 40) ≡ b → (c == 40 && is_in ks (next_sort (behind_partner 0 (mark_of c ∷ more)))) ≡ (c == 40 && is_in ks (first_sort (behind_group 0 (plain c ∷ rest))))
    go false e = ap (λ b. b && is_in ks (next_sort (behind_partner 0 (mark_of c ∷ more)))) e ∙ sym (ap (λ b. b && is_in ks (first_sort (behind_group 0 (plain c ∷ rest)))) e)
    go true e =
        let same : c ≡ 40 = eqb-true c 40 e in
        ap (λ k. c == 40 && is_in ks (next_sort (behind_partner 0 (mark_of k ∷ more)))) same
        ∙ ap (λ k. c == 40 && is_in ks k) (next_is_first (behind_group 1 rest) (behind_partner 1 more) (partner_is 0 rest more follows))
        ∙ ap (λ k. c == 40 && is_in ks (first_sort (behind_group 0 (plain k ∷ rest)))) (sym same)

-- `equals_inside` and `has_equals` by what the tests answer
abbrev equals_by : Bool → Bool → ℕ → List Piece → Bool
equals_by closed here k r = if closed then false else (here || equals_inside k r)

abbrev has_by : Bool → Bool → ℕ → List Token → Bool
has_by closed here k ts = if closed then false else (here || has_equals k ts)

no_equals : (c : ℕ) → is_name_byte c ≡ true → c == 61 ≡ false
no_equals c is = grind (arith, nat_tests)

equals_past : (m : ℕ) (w : List ℕ) (r : List Piece) → list_all is_name_byte w ≡ true → equals_inside (suc m) (map plain w ++ r) ≡ equals_inside (suc m) r
equals_past m [] r all = refl
equals_past m (c ∷ w) r all =
    let p = and_parts (is_name_byte c) (list_all is_name_byte w) all in
    ap (λ k. equals_by (k == 0) (suc m == 1 && c == 61) k (map plain w ++ r)) (opens_nothing c (suc m) p.0)
    ∙ ap (λ b. equals_by b (suc m == 1 && c == 61) (suc m) (map plain w ++ r)) (never_0 m)
    ∙ ap (λ b. equals_by false (suc m == 1 && b) (suc m) (map plain w ++ r)) (no_equals c p.0)
    ∙ ap (λ b. equals_by false b (suc m) (map plain w ++ r)) (and-false (suc m == 1))
    ∙ equals_past m w r p.1

no_sign : (m : ℕ) (ts : List Token) (t : Token) → character_of t.kind t.text ≡ 0 → has_equals (suc m) (t ∷ ts) ≡ has_equals (suc m) ts
no_sign m ts t none =
    ap (λ c. has_by (open_after (suc m) c == 0) (suc m == 1 && c == 61) (open_after (suc m) c) ts) none
    ∙ ap (λ b. has_by b (suc m == 1 && false) (suc m) ts) (never_0 m)
    ∙ ap (λ b. has_by false b (suc m) ts) (and-false (suc m == 1))

equals_is : (m : ℕ) (u : List Piece) (ts : List Token) → IsCut u ts → has_equals (suc m) ts ≡ equals_inside (suc m) u
equals_is m u ts (cut_nothing none end) = ap (has_equals (suc m)) end ∙ sym (ap (equals_inside (suc m)) none)
equals_is m u ts (cut_run {rest = rest} {more = more} c w front upper all stop follows is) =
    ap (has_equals (suc m)) is ∙ no_sign m more (record { kind = run; text = c ∷ w }) refl ∙ equals_is m rest more follows
    ∙ sym (ap (equals_inside (suc m)) front ∙ equals_past m (c ∷ w) rest (letters (c ∷ w) (ap (λ x. x && list_all is_name_byte w) upper ∙ all)))
equals_is m u ts (cut_digits {rest = rest} {more = more} c w front digit all stop follows is) =
    ap (has_equals (suc m)) is ∙ no_sign m more (record { kind = digits; text = c ∷ w }) refl ∙ equals_is m rest more follows
    ∙ sym (ap (equals_inside (suc m)) front ∙ equals_past m (c ∷ w) rest (figures (c ∷ w) (ap (λ x. x && list_all is_digit w) digit ∙ all)))
equals_is m u ts (cut_text {rest = rest} {more = more} t front follows is) =
    ap (has_equals (suc m)) is ∙ no_sign m more (record { kind = kept; text = t }) refl ∙ equals_is m rest more follows ∙ sym (ap (equals_inside (suc m)) front)
equals_is m u ts (cut_mark {rest = rest} {more = more} c front marks follows is) =
    ap (has_equals (suc m)) is ∙ go (λ k. equals_is k rest more follows) (open_after (suc m) c) ∙ sym (ap (equals_inside (suc m)) front)
  where
    go : ((k : ℕ) → has_equals (suc k) more ≡ equals_inside (suc k) rest) → (k : ℕ) → has_by (k == 0) (suc m == 1 && c == 61) k more ≡ equals_by (k == 0) (suc m == 1 && c == 61) k rest
    go further zero = refl
    go further (suc k) =
        ap (λ b. has_by b (suc m == 1 && c == 61) (suc k) more) (never_0 k) ∙ ap (λ b. (suc m == 1 && c == 61) || b) (further k)
        ∙ sym (ap (λ b. equals_by b (suc m == 1 && c == 61) (suc k) rest) (never_0 k))

equated_ahead : (u : List Piece) (ts : List Token) → IsCut u ts → is_ahead equated ts ≡ ahead equated u
equated_ahead u ts (cut_nothing none end) = ap (is_ahead equated) end ∙ ap (ahead equated) (sym none)
equated_ahead u ts (cut_run {rest = rest} c w front upper all stop follows is) =
    ap (is_ahead equated) is ∙ sym (ap (λ k. k == 40 && equals_inside 0 (plain c ∷ (map plain w ++ rest))) (letter_sort c upper)) ∙ ap (ahead equated) (sym front)
equated_ahead u ts (cut_digits {rest = rest} c w front digit all stop follows is) =
    ap (is_ahead equated) is ∙ sym (ap (λ k. k == 40 && equals_inside 0 (plain c ∷ (map plain w ++ rest))) (digit_sort c digit)) ∙ ap (ahead equated) (sym front)
equated_ahead u ts (cut_text t front follows is) = ap (is_ahead equated) is ∙ ap (ahead equated) (sym front)
equated_ahead u ts (cut_mark {rest = rest} {more = more} c front marks follows is) =
    ap (is_ahead equated) is ∙ go (c == 40) refl ∙ sym (ap (λ k. k == 40 && equals_inside 0 (plain c ∷ rest)) (mark_sort c marks)) ∙ ap (ahead equated) (sym front)
  where
    go : (b : Bool) → (c == 40) ≡ b → (c == 40 && has_equals 0 (mark_of c ∷ more)) ≡ (c == 40 && equals_inside 0 (plain c ∷ rest))
    go false e = ap (λ b. b && has_equals 0 (mark_of c ∷ more)) e ∙ sym (ap (λ b. b && equals_inside 0 (plain c ∷ rest)) e)
    go true e =
        let same : c ≡ 40 = eqb-true c 40 e in
        ap (λ k. c == 40 && has_equals 0 (mark_of k ∷ more)) same ∙ ap (λ b. c == 40 && b) (equals_is 0 rest more follows) ∙ ap (λ k. c == 40 && equals_inside 0 (plain k ∷ rest)) (sym same)

-- what is looked for stands among the tokens exactly where it does among the pieces
pub look_is : (look : Look) (u : List Piece) (ts : List Token) → IsCut u ts → is_ahead look ts ≡ ahead look u
look_is (one ks) u ts cut = ap (is_in ks) (next_is_first u ts cut)
look_is (two k ks) u ts cut =
    ap (λ n. n == k && is_in ks (next_sort (behind_token ts))) (next_is_first u ts cut) ∙ ap (λ n. first_sort u == k && is_in ks n) (next_is_first (behind_first u) (behind_token ts) (behind_is u ts cut))
look_is (three a b c) u ts cut =
    let second = behind_is u ts cut in
    ap (λ n. n == a && (next_sort (behind_token ts) == b && next_sort (behind_token (behind_token ts)) == c)) (next_is_first u ts cut)
    ∙ ap (λ n. first_sort u == a && (n == b && next_sort (behind_token (behind_token ts)) == c)) (next_is_first (behind_first u) (behind_token ts) second)
    ∙ ap (λ n. first_sort u == a && (first_sort (behind_first u) == b && n == c)) (next_is_first (behind_first (behind_first u)) (behind_token (behind_token ts)) (behind_is (behind_first u) (behind_token ts) second))
look_is (text w ks) u ts cut =
    ap (λ t. bytes_eq t w && is_in ks (next_sort (behind_token ts))) (text_is u ts cut) ∙ ap (λ n. bytes_eq (first_text u) w && is_in ks n) (next_is_first (behind_first u) (behind_token ts) (behind_is u ts cut))
look_is (group ks) u ts cut = group_ahead ks u ts cut
look_is equated u ts cut = equated_ahead u ts cut

-- ---- the tokens before a mark

-- what is no mark is none of some marks
pub not_among : (marks : List ℕ) (c : ℕ) → list_all is_mark marks ≡ true → is_mark c ≡ false → is_in marks c ≡ false
not_among marks c all off = go (is_in marks c) refl
  where
    go : (b : Bool) → is_in marks c ≡ b → b ≡ false
    go false e = refl
    go true e = let on : true ≡ false = sym (of_each is_mark marks c all e) ∙ off in on

-- `stays` and `split` at one character, by what the test answers
abbrev stays_by : List ℕ → Bool → ℕ → List Piece → Bool
stays_by marks b n rest = if b then false else stays marks n rest

abbrev put_token : Token → List Token × List Token → List Token × List Token
put_token t p = (t ∷ p.0, p.1)

abbrev split_by : List ℕ → Bool → ℕ → Token → List Token → Option (List Token × List Token)
split_by marks b n t ts = if b then Some ([], t ∷ ts) else option_map (put_token t) (split marks n ts)

stays_past : (marks : List ℕ) (n : ℕ) (w : List ℕ) (r : List Piece) → list_all is_mark marks ≡ true → list_all is_name_byte w ≡ true → stays marks n (map plain w ++ r) ≡ stays marks n r
stays_past marks n [] r good all = refl
stays_past marks n (c ∷ w) r good all =
    let p = and_parts (is_name_byte c) (list_all is_name_byte w) all in
    ap (λ b. stays_by marks (n == 0 && b) (open_after n c) (map plain w ++ r)) (not_among marks c good (no_mark c p.0))
    ∙ ap (λ b. stays_by marks b (open_after n c) (map plain w ++ r)) (and-false (n == 0))
    ∙ ap (λ k. stays marks k (map plain w ++ r)) (opens_nothing c n p.0)
    ∙ stays_past marks n w r good p.1

-- another token than a mark parts nothing
other_token : (marks : List ℕ) (n : ℕ) (t : Token) (ts : List Token) → list_all is_mark marks ≡ true → character_of t.kind t.text ≡ 0 → split marks n (t ∷ ts) ≡ option_map (put_token t) (split marks n ts)
other_token marks n t ts good none =
    ap (λ c. split_by marks (n == 0 && is_in marks c) (open_after n c) t ts) none
    ∙ ap (λ b. split_by marks (n == 0 && b) n t ts) (not_among marks 0 good refl)
    ∙ ap (λ b. split_by marks b n t ts) (and-false (n == 0))

pub record Split (marks : List ℕ) (n : ℕ) (ts : List Token) (p : List Token × List Token) : Type 0 where
  pub whole : ts ≡ p.0 ++ p.1
  pub stays : stays marks n (pieces_of_tokens p.0) ≡ true

pub split_found : (marks : List ℕ) → list_all is_mark marks ≡ true → (n : ℕ) (ts : List Token) (p : List Token × List Token) → AllFormed ts → split marks n ts ≡ Some p → Split marks n ts p
split_found marks good n [] p formed e = go (n == 0) refl e
  where
    go : (b : Bool) → (n == 0) ≡ b → (if b then Some ([], []) else None) ≡ Some p → Split marks n [] p
    go true is e = subst (Split marks n []) (same_Some ([], []) p e) (record { whole = refl; stays = is })
    go false is e = absurd cc
split_found marks good n (t ∷ ts) p formed e = by_kind (λ m q. split_found marks good m ts q formed.1) t.kind t.text formed.0 e
  where
    further : (k : TokenKind) (x : List ℕ) → ((m : ℕ) (q : List Token × List Token) → split marks m ts ≡ Some q → Split marks m ts q) → (m : ℕ)
        → ((r : List Piece) → stays marks m r ≡ true → stays marks n (token_pieces (record { kind = k; text = x }) ++ r) ≡ true)
        → option_map (put_token (record { kind = k; text = x })) (split marks m ts) ≡ Some p → Split marks n (record { kind = k; text = x } ∷ ts) p
    further k x more m on e =
        let f = mapped (split marks m ts) (put_token (record { kind = k; text = x })) p e in
        let s = more m f.from f.was in
        subst (Split marks n (record { kind = k; text = x } ∷ ts)) f.is (record { whole = ap (λ (y : List Token). record { kind = k; text = x } ∷ y) s.whole; stays = on (pieces_of_tokens f.from.0) s.stays })

    by_kind : ((m : ℕ) (q : List Token × List Token) → split marks m ts ≡ Some q → Split marks m ts q) → (k : TokenKind) (x : List ℕ) → IsFormed k x → split marks n (record { kind = k; text = x } ∷ ts) ≡ Some p → Split marks n (record { kind = k; text = x } ∷ ts) p
    by_kind all_more run w is e =
        further run w all_more n (λ r s. stays_past marks n w r good (letters w is) ∙ s) (sym (other_token marks n (record { kind = run; text = w }) ts good refl) ∙ e)
    by_kind all_more digits w is e =
        further digits w all_more n (λ r s. stays_past marks n w r good (figures w is) ∙ s) (sym (other_token marks n (record { kind = digits; text = w }) ts good refl) ∙ e)
    by_kind all_more kept w is e = further kept w all_more n (λ r s. s) (sym (other_token marks n (record { kind = kept; text = w }) ts good refl) ∙ e)
    by_kind all_more mark w is e = subst (λ (y : List ℕ). Split marks n (record { kind = mark; text = y } ∷ ts) p) (sym is.1) (at_mark (n == 0 && is_in marks is.0) refl (subst (λ (y : List ℕ). split marks n (record { kind = mark; text = y } ∷ ts) ≡ Some p) is.1 e))
      where
        at_mark : (b : Bool) → (n == 0 && is_in marks is.0) ≡ b → split_by marks b (open_after n is.0) (mark_of is.0) ts ≡ Some p → Split marks n (mark_of is.0 ∷ ts) p
        at_mark true on e = subst (Split marks n (mark_of is.0 ∷ ts)) (same_Some ([], mark_of is.0 ∷ ts) p e) (record { whole = refl; stays = (and_parts (n == 0) (is_in marks is.0) on).0 })
        at_mark false off e =
            further mark (is.0 ∷ []) all_more (open_after n is.0) (λ r s. ap (λ b. stays_by marks b (open_after n is.0) r) off ∙ s) e

-- tokens that end, or go on with one of the marks
pub data Faces (marks : List ℕ) (vs : List Token) : Type 0 where
  faces_end : vs ≡ [] → Faces marks vs
  faces_mark : (c : ℕ) (us : List Token) → is_in marks c ≡ true → vs ≡ mark_of c ∷ us → Faces marks vs

pub split_reads : (marks : List ℕ) → list_all is_mark marks ≡ true → (n : ℕ) (us vs : List Token) → AllFormed us → Faces marks vs → stays marks n (pieces_of_tokens us) ≡ true → split marks n (us ++ vs) ≡ Some (us, vs)
split_reads marks good n [] vs formed (faces_end none) s = ap (split marks n) none ∙ ap (λ b. if b then Some ([], []) else None) s ∙ ap (λ (y : List Token). Some ([], y)) (sym none)
split_reads marks good n [] vs formed (faces_mark c us on is) s =
    ap (split marks n) is ∙ ap (λ b. split_by marks (b && is_in marks c) (open_after n c) (mark_of c) us) s ∙ ap (λ b. split_by marks b (open_after n c) (mark_of c) us) on ∙ ap (λ (y : List Token). Some ([], y)) (sym is)
split_reads marks good n (t ∷ us) vs formed faces s = by_kind (λ m. split_reads marks good m us vs formed.1 faces) t.kind t.text formed.0 s
  where
    by_kind : ((m : ℕ) → stays marks m (pieces_of_tokens us) ≡ true → split marks m (us ++ vs) ≡ Some (us, vs)) → (k : TokenKind) (x : List ℕ) → IsFormed k x → stays marks n (token_pieces (record { kind = k; text = x }) ++ pieces_of_tokens us) ≡ true → split marks n (record { kind = k; text = x } ∷ (us ++ vs)) ≡ Some (record { kind = k; text = x } ∷ us, vs)
    by_kind more run w is s =
        other_token marks n (record { kind = run; text = w }) (us ++ vs) good refl
        ∙ ap (option_map (put_token (record { kind = run; text = w }))) (more n (sym (stays_past marks n w (pieces_of_tokens us) good (letters w is)) ∙ s))
    by_kind more digits w is s =
        other_token marks n (record { kind = digits; text = w }) (us ++ vs) good refl
        ∙ ap (option_map (put_token (record { kind = digits; text = w }))) (more n (sym (stays_past marks n w (pieces_of_tokens us) good (figures w is)) ∙ s))
    by_kind more kept w is s = other_token marks n (record { kind = kept; text = w }) (us ++ vs) good refl ∙ ap (option_map (put_token (record { kind = kept; text = w }))) (more n s)
    by_kind more mark w is s =
        subst (λ (y : List ℕ). split marks n (record { kind = mark; text = y } ∷ (us ++ vs)) ≡ Some (record { kind = mark; text = y } ∷ us, vs)) (sym is.1)
        (at_mark (n == 0 && is_in marks is.0) (subst (λ (y : List ℕ). stays marks n (map plain y ++ pieces_of_tokens us) ≡ true) is.1 s))
      where
        at_mark : (b : Bool) → stays_by marks b (open_after n is.0) (pieces_of_tokens us) ≡ true → split_by marks b (open_after n is.0) (mark_of is.0) (us ++ vs) ≡ Some (mark_of is.0 ∷ us, vs)
        at_mark true s = absurd cc
        at_mark false s = ap (option_map (put_token (mark_of is.0))) (more (open_after n is.0) s)

-- ---- stars

name_byte_apart : (c : ℕ) → is_name_byte c ≡ true → (c == 42 ≡ false) × ((c == 40 || c == 44) ≡ false)
name_byte_apart c is = (star, opens)
  where
    star : c == 42 ≡ false
    star = grind (arith, nat_tests)

    opens : (c == 40 || c == 44) ≡ false
    opens = grind (arith, nat_tests)

none_starred : (n : ℕ) (w : List ℕ) (r : List Piece) → list_all is_name_byte w ≡ true → is_starred false n (map plain w ++ r) ≡ is_starred false n r
none_starred n [] r all = refl
none_starred n (c ∷ w) r all =
    let p = and_parts (is_name_byte c) (list_all is_name_byte w) all in
    ap (λ b. is_starred b (open_after n c) (map plain w ++ r)) (name_byte_apart c p.0).1 ∙ ap (λ k. is_starred false k (map plain w ++ r)) (opens_nothing c n p.0) ∙ none_starred n w r p.1

no_star : (after : Bool) (n : ℕ) (b : Bool) → ((after && (n == 1 && false)) || b) ≡ b
no_star after n b = ap (λ x. (after && x) || b) (and-false (n == 1)) ∙ ap (λ a. a || b) (and-false after)

star_past : (after : Bool) (n : ℕ) (c : ℕ) (w : List ℕ) (r : List Piece) → list_all is_name_byte (c ∷ w) ≡ true → is_starred after n (map plain (c ∷ w) ++ r) ≡ is_starred false n r
star_past after n c w r all =
    let p = and_parts (is_name_byte c) (list_all is_name_byte w) all in
    let a = name_byte_apart c p.0 in
    ap (λ b. (after && (n == 1 && b)) || is_starred (c == 40 || c == 44) (open_after n c) (map plain w ++ r)) a.0
    ∙ no_star after n (is_starred (c == 40 || c == 44) (open_after n c) (map plain w ++ r))
    ∙ ap (λ b. is_starred b (open_after n c) (map plain w ++ r)) a.1
    ∙ ap (λ k. is_starred false k (map plain w ++ r)) (opens_nothing c n p.0)
    ∙ none_starred n w r p.1

pub star_is : (after : Bool) (n : ℕ) (ts : List Token) → AllFormed ts → is_starred after n (pieces_of_tokens ts) ≡ has_star after n ts
star_is after n [] formed = refl
star_is after n (t ∷ ts) formed = by_kind (λ b m. star_is b m ts formed.1) t.kind t.text formed.0
  where
    by_kind : ((b : Bool) (m : ℕ) → is_starred b m (pieces_of_tokens ts) ≡ has_star b m ts) → (k : TokenKind) (x : List ℕ) → IsFormed k x → is_starred after n (token_pieces (record { kind = k; text = x }) ++ pieces_of_tokens ts) ≡ has_star after n (record { kind = k; text = x } ∷ ts)
    by_kind more run [] is = absurd cc
    by_kind more run (c ∷ w) is = star_past after n c w (pieces_of_tokens ts) (letters (c ∷ w) is) ∙ more false n ∙ sym (no_star after n (has_star false n ts))
    by_kind more digits [] is = absurd cc
    by_kind more digits (c ∷ w) is = star_past after n c w (pieces_of_tokens ts) (figures (c ∷ w) is) ∙ more false n ∙ sym (no_star after n (has_star false n ts))
    by_kind more kept w is = more false n ∙ sym (no_star after n (has_star false n ts))
    by_kind more mark w is =
        subst (λ (y : List ℕ). is_starred after n (map plain y ++ pieces_of_tokens ts) ≡ has_star after n (record { kind = mark; text = y } ∷ ts)) (sym is.1)
        (ap (λ b. (after && (n == 1 && is.0 == 42)) || b) (more (is.0 == 40 || is.0 == 44) (open_after n is.0)))
