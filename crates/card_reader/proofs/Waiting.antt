-- The comments that are read line by line are those of the file.
use Rattle.std.proofs.Common.{◌≡◌, ◌∙◌, sym, ap, refl, ℕ, suc, ◌+◌, ◌-◌, Bool, true, false, not, List, [], ◌∷◌, ◌++◌, length, drop, append_assoc, append-nil, length-append, arith}
use Rattle.std.specs.Prelude.{if◌then◌else◌, ◌||◌}
use Rattle.std.proofs.lemmas.List.{map-append}
use Rattle.text_base.specs.Lines.{lines, is_comment, is_blank, is_marked, is_initial, is_cut, label_of, statement_field}
use Rattle.text_base.specs.Cards.{comment_of, goes_on, whole_before, comments_of, comments}
use Rattle.text_base.specs.Remarks.{Remark}
use Rattle.text_base.specs.declared.refusal.Place.{Place}
use Rattle.card_reader.specs.declared.card.Card.{Card}
use Rattle.card_reader.specs.Deck.{Contents, numbered, card_comments, deck_comments, empty_deck, line_remark_of, with_comment, with_initial, longer, waiting, with_continuation, with_cut, with_lines}

-- a line as a comment with a number
remark_numbered : (w : ℕ) (l : List ℕ) → numbered w (line_remark_of l ∷ []) ≡ comment_of w l ∷ []
remark_numbered w l = go (is_marked l || not (is_blank l))
  where
    go : (b : Bool) → numbered w ((if b then record { marked = true; text = drop 1 l } else record { marked = false; text = l }) ∷ [])
        ≡ (if b then record { marked = true; text = drop 1 l; before = w } else record { marked = false; text = l; before = w }) ∷ []
    go true = refl
    go false = refl

numbered_append : (w : ℕ) (xs ys : List Remark) → numbered w (xs ++ ys) ≡ numbered w xs ++ numbered w ys
numbered_append w xs ys = map-append (λ r. record { marked = r.marked; text = r.text; before = w }) xs ys

-- ---- the comments of some statements, and others

-- those behind the statements apart
tail_apart : (m k : ℕ) (cards : List Card) (t : List Remark) → k ≡ m + length cards → card_comments m cards t ≡ card_comments m cards [] ++ numbered k t
tail_apart m k [] t e = let same : m ≡ k = omega (arith, e) in ap (λ j. numbered j t) same
tail_apart m k (card ∷ cards) t e =
    ap (λ more. numbered m card.comments ++ more) (tail_apart (m + 1) k cards t (omega (arith, e)))
    ∙ sym (append_assoc (numbered m card.comments) (card_comments (m + 1) cards []) (numbered k t))

-- those of the last statement apart
last_apart : (m k : ℕ) (cards : List Card) (card : Card) → k ≡ m + length cards → card_comments m (cards ++ card ∷ []) [] ≡ card_comments m cards [] ++ numbered k card.comments
last_apart m k [] card e = let same : m ≡ k = omega (arith, e) in append-nil (numbered m card.comments) ∙ ap (λ j. numbered j card.comments) same
last_apart m k (first ∷ cards) card e =
    ap (λ more. numbered m first.comments ++ more) (last_apart (m + 1) k cards card (omega (arith, e)))
    ∙ sym (append_assoc (numbered m first.comments) (card_comments (m + 1) cards []) (numbered k card.comments))

-- where the last statement goes on, those that waited apart
longer_apart : (m k : ℕ) (t : List Remark) (l : List ℕ) (card : Card) (cards : List Card) → k ≡ m + length cards → card_comments m (longer t l (card ∷ cards)) [] ≡ card_comments m (card ∷ cards) [] ++ numbered k t
longer_apart m k t l card [] e =
    let same : m ≡ k = omega (arith, e) in
    append-nil (numbered m (card.comments ++ t))
    ∙ numbered_append m card.comments t
    ∙ (λ i. sym (append-nil (numbered m card.comments)) i ++ numbered (same i) t)
longer_apart m k t l card (next ∷ cards) e =
    ap (λ more. numbered m card.comments ++ more) (longer_apart (m + 1) k t l next cards (omega (arith, e)))
    ∙ sym (append_assoc (numbered m card.comments) (card_comments (m + 1) (next ∷ cards) []) (numbered k t))

longer_length : (t : List Remark) (l : List ℕ) (cards : List Card) → length (longer t l cards) ≡ length cards
longer_length t l [] = refl
longer_length t l (card ∷ []) = refl
longer_length t l (card ∷ (next ∷ cards)) = ap suc (longer_length t l (next ∷ cards))

-- ---- lines

none_before : (b : Bool) → (if b then 0 - 1 else 0) ≡ 0
none_before true = refl
none_before false = refl

-- What the comments of a deck are after some lines: those of its statements, those that wait with the number of the
-- statements that stand whole before the lines, and those of the lines.
abbrev IsGoneOn : ℕ → ℕ → List (List ℕ) → List Card → List Remark → ℕ → Type 0
IsGoneOn file n ls cards t k =
    deck_comments (with_lines file n ls (record { statements = cards; tail = t; cut = k }))
    ≡ card_comments 0 cards [] ++ (numbered (whole_before (length cards) ls) t ++ comments_of (length cards) ls)

abbrev more_cut : ℕ → List ℕ → ℕ
more_cut k l = k + (if is_cut l then 1 else 0)

at_comment : (file n : ℕ) (l : List ℕ) (ls : List (List ℕ)) (cards : List Card) (t : List Remark) (k : ℕ) → IsGoneOn file n ls cards (t ++ line_remark_of l ∷ []) k
    → deck_comments (with_lines file n ls (record { statements = cards; tail = t ++ line_remark_of l ∷ []; cut = k }))
    ≡ card_comments 0 cards [] ++ (numbered (whole_before (length cards) ls) t ++ comment_of (whole_before (length cards) ls) l ∷ comments_of (length cards) ls)
at_comment file n l ls cards t k known =
    let w = whole_before (length cards) ls in
    let more = comments_of (length cards) ls in
    known
    ∙ (λ i. card_comments 0 cards [] ++ (numbered_append w t (line_remark_of l ∷ []) i ++ more))
    ∙ ap (λ xs. card_comments 0 cards [] ++ xs) (append_assoc (numbered w t) (numbered w (line_remark_of l ∷ [])) more)
    ∙ (λ i. card_comments 0 cards [] ++ (numbered w t ++ (remark_numbered w l i ++ more)))

at_initial : (file n : ℕ) (ls : List (List ℕ)) (cards : List Card) (card : Card) (k : ℕ) → IsGoneOn file n ls (cards ++ card ∷ []) [] k
    → deck_comments (with_lines file n ls (record { statements = cards ++ card ∷ []; tail = []; cut = k }))
    ≡ card_comments 0 cards [] ++ (numbered (length cards) card.comments ++ comments_of (length cards + 1) ls)
at_initial file n ls cards card k known =
    let one_more : length (cards ++ card ∷ []) ≡ length cards + 1 = omega (arith, length-append cards (card ∷ [])) in
    known
    ∙ (λ i. last_apart 0 (length cards) cards card (omega arith) i ++ comments_of (one_more i) ls)
    ∙ append_assoc (card_comments 0 cards []) (numbered (length cards) card.comments) (comments_of (length cards + 1) ls)

at_continuation : (file n : ℕ) (l : List ℕ) (ls : List (List ℕ)) (cards : List Card) (t : List Remark) (k : ℕ) → IsGoneOn file n ls (longer t l cards) (waiting cards t) k
    → deck_comments (with_lines file n ls (record { statements = longer t l cards; tail = waiting cards t; cut = k }))
    ≡ card_comments 0 cards [] ++ (numbered (length cards - 1) t ++ comments_of (length cards) ls)
at_continuation file n l ls [] t k known = known ∙ ap (λ j. numbered j t ++ comments_of 0 ls) (none_before (goes_on ls))
at_continuation file n l ls (card ∷ cards) t k known =
    let before : length cards ≡ length (card ∷ cards) - 1 = omega arith in
    known
    ∙ (λ i. longer_apart 0 (length cards) t l card cards (omega arith) i ++ comments_of (longer_length t l (card ∷ cards) i) ls)
    ∙ append_assoc (card_comments 0 (card ∷ cards) []) (numbered (length cards) t) (comments_of (length (card ∷ cards)) ls)
    ∙ ap (λ j. card_comments 0 (card ∷ cards) [] ++ (numbered j t ++ comments_of (length (card ∷ cards)) ls)) before

comments_after : (file n : ℕ) (ls : List (List ℕ)) (cards : List Card) (t : List Remark) (k : ℕ) → IsGoneOn file n ls cards t k
comments_after file n [] cards t k =
    tail_apart 0 (length cards) cards t (omega arith) ∙ ap (λ xs. card_comments 0 cards [] ++ xs) (sym (append-nil (numbered (length cards) t)))
comments_after file n (l ∷ ls) cards t k = go (is_comment l) (is_initial l) (comments_after file (n + 1) ls)
  where
    deck : Contents
    deck = record { statements = cards; tail = t; cut = k }

    place : Place
    place = record { file = file; line = n }

    go : (c i : Bool) → ((cards : List Card) (t : List Remark) (k : ℕ) → IsGoneOn file (n + 1) ls cards t k)
        → deck_comments (with_lines file (n + 1) ls (if c then with_comment l deck else with_cut l (if i then with_initial place l deck else with_continuation l deck)))
        ≡ card_comments 0 cards [] ++ (numbered (if (if c then goes_on ls else not i) then length cards - 1 else length cards) t
        ++ (if c then comment_of (whole_before (length cards) ls) l ∷ comments_of (length cards) ls else comments_of (if i then length cards + 1 else length cards) ls))
    go true i known = at_comment file (n + 1) l ls cards t k (known cards (t ++ line_remark_of l ∷ []) k)
    go false true known =
        let card : Card = record { comments = t; label = label_of l; text = statement_field l; place = place } in
        at_initial file (n + 1) ls cards card (more_cut k l) (known (cards ++ card ∷ []) [] (more_cut k l))
    go false false known = at_continuation file (n + 1) l ls cards t (more_cut k l) (known (longer t l cards) (waiting cards t) (more_cut k l))

pub comments_are : (file : ℕ) (bytes : List ℕ) → deck_comments (with_lines file 1 (lines bytes) empty_deck) ≡ comments bytes
comments_are file bytes = comments_after file 1 (lines bytes) [] [] 0
