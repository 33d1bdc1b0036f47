-- What is read line by line are the statements of the file, and the number of its lines that are cut off.
use Rattle.std.proofs.Common.{◌≡◌, ◌∙◌, sym, ap, refl, ℕ, ◌+◌, ◌≤◌, Bool, true, false, not, cond, ◌&&◌, List, [], ◌∷◌, ◌++◌, drop, map, append_assoc, append-nil, arith}
use Rattle.std.specs.Prelude.{if◌then◌else◌}
use Rattle.std.specs.List.{count_by}
use Rattle.std.proofs.lemmas.List.{map-append}
use Rattle.std.proofs.lemmas.List.Sums.{sum_by-cons}
use Rattle.text_base.specs.Lines.{lines, is_comment, is_blank, is_initial, is_cut, cut_lines, label_of, statement_field}
use Rattle.text_base.specs.Cards as source
use Rattle.text_base.specs.declared.limits.TheConstants.{LAST_COLUMN}
use Rattle.text_base.specs.Remarks.{Remark}
use Rattle.text_base.specs.declared.refusal.Place.{Place}
use Rattle.text_base.specs.declared.refusal.Refusal.{Refusal}
use Rattle.card_reader.specs.declared.card.Card.{Card}
use Rattle.card_reader.specs.Deck.{Contents, card_of, empty_deck, line_remark_of, with_comment, with_initial, with_field, longer, waiting, with_continuation, with_cut, with_line, with_lines}
use Rattle.card_reader.proofs.Grouping.{following, card_from, read_statements, read_is_cards}

-- ---- the last statement

pub longer_last : (comments : List Remark) (l : List ℕ) (cards : List Card) (card : Card) → longer comments l (cards ++ card ∷ []) ≡ cards ++ with_field comments l card ∷ []
longer_last comments l [] card = refl
longer_last comments l (first ∷ []) card = refl
longer_last comments l (first ∷ (next ∷ cards)) card = ap (λ more. first ∷ more) (longer_last comments l (next ∷ cards) card)

pub waiting_none : (cards : List Card) (card : Card) (tail : List Remark) → waiting (cards ++ card ∷ []) tail ≡ []
waiting_none [] card tail = refl
waiting_none (first ∷ cards) card tail = refl

-- what was read after a continuation line, part by part
pub continued : (statements rest new : List Card) (tail wait comments : List Remark) (card : Card) (l field text : List ℕ) (cut : ℕ) → statements ≡ rest ++ card ∷ [] → comments ≡ card.comments ++ tail → field ≡ statement_field l
    → text ≡ card.text ++ field → new ≡ rest ++ record { comments = comments; label = card.label; text = text; place = card.place } ∷ [] → wait ≡ []
    → ◌≡◌ {A = Contents} (record { statements = new; tail = wait; cut = cut }) (with_continuation l (record { statements = statements; tail = tail; cut = cut }))
continued statements rest new tail wait comments card l field text cut before grown_comments is grown_text after nothing =
    let grown : text ≡ card.text ++ statement_field l = grown_text ∙ ap (λ f. card.text ++ f) is in
    let whole : new ≡ longer tail l statements =
    after
    ∙ (λ i. rest ++ record { comments = grown_comments i; label = card.label; text = grown i; place = card.place } ∷ [])
    ∙ sym (longer_last tail l rest card) ∙ ap (longer tail l) (sym before) in
    let none : wait ≡ waiting statements tail = nothing ∙ sym (waiting_none rest card tail) ∙ ap (λ (cards : List Card). waiting cards tail) (sym before) in
    λ i. record { statements = whole i; tail = none i; cut = cut }

-- ---- statements

-- a statement that has more characters, as the definitions list it
abbrev ended : Card → List ℕ → source.Card
ended card more = card_of (record card { text = card.text ++ more })

-- a statement with this initial line
abbrev begun : List Remark → ℕ → ℕ → List ℕ → Card
begun comments file n l = record { comments = comments; label = label_of l; text = statement_field l; place = record { file = file; line = n } }

-- one more for a line that is cut off
abbrev more_cut : ℕ → List ℕ → ℕ
more_cut k l = k + (if is_cut l then 1 else 0)

-- what is read of some lines after the last of some statements
statements_after : (file n : ℕ) (ls : List (List ℕ)) (cards : List Card) (card : Card) (t : List Remark) (k : ℕ)
    → map card_of (with_lines file n ls (record { statements = cards ++ card ∷ []; tail = t; cut = k })).statements ≡ map card_of cards ++ ended card (following ls) ∷ read_statements file n ls
statements_after file n [] cards card t k =
    map-append card_of cards (card ∷ []) ∙ (λ i. map card_of cards ++ card_of (record card { text = sym (append-nil card.text) i }) ∷ [])
statements_after file n (l ∷ ls) cards card t k = go (is_comment l) (is_initial l) (statements_after file (n + 1) ls)
  where
    deck : Contents
    deck = record { statements = cards ++ card ∷ []; tail = t; cut = k }

    place : Place
    place = record { file = file; line = n }

    rest : List source.Card
    rest = read_statements file (n + 1) ls

    go : (c i : Bool)
        → ((cards : List Card) (card : Card) (t : List Remark) (k : ℕ) → map card_of (with_lines file (n + 1) ls (record { statements = cards ++ card ∷ []; tail = t; cut = k })).statements ≡ map card_of cards ++ ended card (following ls) ∷ rest)
        → map card_of (with_lines file (n + 1) ls (if c then with_comment l deck else with_cut l (if i then with_initial place l deck else with_continuation l deck))).statements
        ≡ map card_of cards ++ ended card (if c then following ls else (if i then [] else statement_field l ++ following ls)) ∷ (if not c && i then card_from place l ls ∷ rest else rest)
    go true i known = known cards card (t ++ line_remark_of l ∷ []) k
    go false true known =
        known (cards ++ card ∷ []) (begun t file n l) [] (more_cut k l)
        ∙ (λ i. map-append card_of cards (card ∷ []) i ++ card_from place l ls ∷ rest)
        ∙ append_assoc (map card_of cards) (card_of card ∷ []) (card_from place l ls ∷ rest)
        ∙ (λ i. map card_of cards ++ card_of (record card { text = sym (append-nil card.text) i }) ∷ (card_from place l ls ∷ rest))
    go false false known =
        (λ i. map card_of (with_lines file (n + 1) ls (record { statements = longer_last t l cards card i; tail = waiting (cards ++ card ∷ []) t; cut = more_cut k l })).statements)
        ∙ known cards (with_field t l card) (waiting (cards ++ card ∷ []) t) (more_cut k l)
        ∙ (λ i. map card_of cards ++ card_of (record card { text = append_assoc card.text (statement_field l) (following ls) i }) ∷ rest)

-- what is read of some lines where no statement has begun
statements_first : (file n : ℕ) (ls : List (List ℕ)) (t : List Remark) (k : ℕ) → map card_of (with_lines file n ls (record { statements = []; tail = t; cut = k })).statements ≡ read_statements file n ls
statements_first file n [] t k = refl
statements_first file n (l ∷ ls) t k = go (is_comment l) (is_initial l) (statements_first file (n + 1) ls)
  where
    deck : Contents
    deck = record { statements = []; tail = t; cut = k }

    place : Place
    place = record { file = file; line = n }

    rest : List source.Card
    rest = read_statements file (n + 1) ls

    go : (c i : Bool) → ((t : List Remark) (k : ℕ) → map card_of (with_lines file (n + 1) ls (record { statements = []; tail = t; cut = k })).statements ≡ rest)
        → map card_of (with_lines file (n + 1) ls (if c then with_comment l deck else with_cut l (if i then with_initial place l deck else with_continuation l deck))).statements
        ≡ (if not c && i then card_from place l ls ∷ rest else rest)
    go true i known = known (t ++ line_remark_of l ∷ []) k
    go false true known = statements_after file (n + 1) ls [] (begun t file n l) [] (more_cut k l)
    go false false known = known t (more_cut k l)

pub statements_are : (file : ℕ) (bytes : List ℕ) → map card_of (with_lines file 1 (lines bytes) empty_deck).statements ≡ source.cards file bytes
statements_are file bytes = statements_first file 1 (lines bytes) [] 0 ∙ read_is_cards file 1 (lines bytes)

-- ---- lines that are cut off

-- a comment isn't cut off
comment_kept : (l : List ℕ) → is_comment l ≡ true → is_cut l ≡ false
comment_kept l e = ap (λ b. not b && not (is_blank (drop LAST_COLUMN l))) e

-- one for a line that is cut off
abbrev one : List ℕ → ℕ
one l = cond (is_cut l) 1 0

cut_after : (file n : ℕ) (ls : List (List ℕ)) (deck : Contents) → (with_lines file n ls deck).cut ≡ deck.cut + count_by is_cut ls
cut_after file n [] deck = omega arith
cut_after file n (l ∷ ls) deck = go (is_comment l) refl (is_initial l) (cut_after file (n + 1) ls) (sum_by-cons one l ls)
  where
    place : Place
    place = record { file = file; line = n }

    go : (c : Bool) → is_comment l ≡ c → (i : Bool) → ((deck : Contents) → (with_lines file (n + 1) ls deck).cut ≡ deck.cut + count_by is_cut ls)
        → count_by is_cut (l ∷ ls) ≡ one l + count_by is_cut ls
        → (with_lines file (n + 1) ls (if c then with_comment l deck else with_cut l (if i then with_initial place l deck else with_continuation l deck))).cut ≡ deck.cut + count_by is_cut (l ∷ ls)
    go true e i known sum =
        let none : one l ≡ 0 = ap (λ b. cond {A = ℕ} b 1 0) (comment_kept l e) in
        known (with_comment l deck) ∙ omega (arith, none, sum)
    go false e true known sum = known (with_cut l (with_initial place l deck)) ∙ omega (arith, sum)
    go false e false known sum = known (with_cut l (with_continuation l deck)) ∙ omega (arith, sum)

pub cut_is : (file : ℕ) (bytes : List ℕ) → (with_lines file 1 (lines bytes) empty_deck).cut ≡ cut_lines bytes
cut_is file bytes = cut_after file 1 (lines bytes) empty_deck ∙ omega arith

-- a line adds at most one
pub cut_more : (place : Place) (l : List ℕ) (deck : Contents) → (with_line place l deck).cut ≤ deck.cut + 1
cut_more place l deck = go (is_comment l) (is_initial l) (is_cut l)
  where
    counted : Bool → Contents → Contents
    counted b deck = record deck { cut = deck.cut + (if b then 1 else 0) }

    go : (c i b : Bool) → (if c then with_comment l deck else counted b (if i then with_initial place l deck else with_continuation l deck)).cut ≤ deck.cut + 1
    go true i b = omega arith
    go false true true = omega arith
    go false true false = omega arith
    go false false true = omega arith
    go false false false = omega arith

-- ---- the lines that are left

first_nothing : (xs ys : List Refusal) → xs ++ ys ≡ [] → xs ≡ []
first_nothing [] ys e = refl
first_nothing (x ∷ xs) ys e = absurd cc

-- what is read with one more line goes on to what is read of all
pub read_more : (file : ℕ) (old new : Place) (refusals added more : List Refusal) (before after whole : Contents) (l : List ℕ) (ls all : List (List ℕ)) → old.file ≡ file
    → new ≡ record { file = old.file; line = old.line + 1 } → all ≡ l ∷ ls → more ≡ refusals ++ added → (more ≡ [] → after ≡ with_line old l before)
    → (refusals ≡ [] → with_lines file old.line all before ≡ whole) → more ≡ [] → with_lines file new.line ls after ≡ whole
read_more file old new refusals added more before after whole l ls all here next cut grown step known none =
    (λ i. with_lines file (next i).line ls (step none i))
    ∙ (λ i. with_lines file (old.line + 1) ls (with_line (record { file = here i; line = old.line }) l before))
    ∙ ap (λ (xs : List (List ℕ)). with_lines file old.line xs before) (sym cut)
    ∙ known (first_nothing refusals added (sym grown ∙ none))
