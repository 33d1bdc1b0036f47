-- The comments of a deck, statement by statement.
use Rattle.std.proofs.Common.{◌≡◌, ℕ, zero, suc, ◌+◌, ◌-◌, ◌<◌, ◌≤◌, ◌==◌, Bool, true, false, cond, nat_le, List, [], ◌∷◌, ◌++◌, length, map, filter, take, drop, get_or, refl, sym, ap, ◌∙◌, subst, arith}
use Rattle.std.proofs.Math.Seq.{take-length}
use Rattle.std.proofs.lemmas.Bool.{le-leb, lt-leb, eq-eqb}
use Rattle.std.proofs.lemmas.List.Elements.{filter-append}
use Rattle.text_base.specs.Cards.{Comment}
use Rattle.text_base.specs.Remarks.{Remark}
use Rattle.card_reader.specs.Deck.{Contents, numbered, card_comments, deck_comments}
use Rattle.card_reader.specs.declared.card.Card.{Card}
use Rattle.project_set.specs.Comments.{groups_at, ArePlaced}
use Rattle.project_set.specs.declared.comments.Comments.{Comments}
use Rattle.project_set.specs.Rewrite.{remark_of, comments_at, comments_from, remarks_at}
use Rattle.project_set.proofs.CommentLemmas.{less_differs, more_differs}

-- ---- comments with one number

-- all of some comments with one number pass a test of that number, or none does
all_numbered : (test : ℕ → Bool) (b : ℕ) (rs : List Remark) → test b ≡ true → filter (λ (c : Comment). test c.before) (numbered b rs) ≡ numbered b rs
all_numbered test b [] e = refl
all_numbered test b (r ∷ rs) e =
    let one : Comment = record { marked = r.marked; text = r.text; before = b } in
    ap (λ t. cond t (one ∷ filter (λ (c : Comment). test c.before) (numbered b rs)) (filter (λ (c : Comment). test c.before) (numbered b rs))) e
    ∙ ap (λ cs. one ∷ cs) (all_numbered test b rs e)

none_numbered : (test : ℕ → Bool) (b : ℕ) (rs : List Remark) → test b ≡ false → filter (λ (c : Comment). test c.before) (numbered b rs) ≡ []
none_numbered test b [] e = refl
none_numbered test b (r ∷ rs) e =
    let one : Comment = record { marked = r.marked; text = r.text; before = b } in
    ap (λ t. cond t (one ∷ filter (λ (c : Comment). test c.before) (numbered b rs)) (filter (λ (c : Comment). test c.before) (numbered b rs))) e
    ∙ none_numbered test b rs e

-- they are written as they stand
remarks_numbered : (b : ℕ) (rs : List Remark) → map remark_of (numbered b rs) ≡ rs
remarks_numbered b [] = refl
remarks_numbered b (r ∷ rs) = ap (λ (l : List Remark). r ∷ l) (remarks_numbered b rs)

-- before the statement of another number there are none of them
at_other : (b k : ℕ) (rs : List Remark) (cs : List Comment) → (b == k) ≡ false → comments_at (numbered b rs ++ cs) k ≡ comments_at cs k
at_other b k rs cs e = filter-append (λ (c : Comment). c.before == k) (numbered b rs) cs ∙ ap (λ l. l ++ comments_at cs k) (none_numbered (λ n. n == k) b rs e)

from_other : (b k : ℕ) (rs : List Remark) (cs : List Comment) → b < k → comments_from (numbered b rs ++ cs) k ≡ comments_from cs k
from_other b k rs cs lt =
    filter-append (λ (c : Comment). nat_le k c.before) (numbered b rs) cs ∙ ap (λ l. l ++ comments_from cs k) (none_numbered (λ n. nat_le k n) b rs (lt-leb k b lt))

-- ---- comments of cards

-- before an earlier statement there are none
none_earlier : (b k : ℕ) (cards : List Card) (tail : List Remark) → k < b → comments_at (card_comments b cards tail) k ≡ []
none_earlier b k [] tail lt = none_numbered (λ n. n == k) b tail (more_differs b k lt)
none_earlier b k (card ∷ cards) tail lt =
    at_other b k card.comments (card_comments (b + 1) cards tail) (more_differs b k lt) ∙ none_earlier (b + 1) k cards tail (omega (arith, lt))

-- before the first card stand its own
remarks_of_first : (b : ℕ) (card : Card) (cards : List Card) (tail : List Remark) → remarks_at (card_comments b (card ∷ cards) tail) b ≡ card.comments
remarks_of_first b card cards tail =
    ap (map remark_of)
    (filter-append (λ (c : Comment). c.before == b) (numbered b card.comments) (card_comments (b + 1) cards tail)
    ∙ ap (λ l. l ++ comments_at (card_comments (b + 1) cards tail) b) (all_numbered (λ n. n == b) b card.comments (eq-eqb b b refl))
    ∙ ap (λ l. numbered b card.comments ++ l) (none_earlier (b + 1) b cards tail (omega arith)))
    ∙ without_end (numbered b card.comments)
    ∙ remarks_numbered b card.comments
  where
    without_end : (cs : List Comment) → map remark_of (cs ++ []) ≡ map remark_of cs
    without_end [] = refl
    without_end (c ∷ cs) = ap (λ (l : List Remark). remark_of c ∷ l) (without_end cs)

-- before a later card stand those that stand there among the later cards
remarks_of_later : (b k : ℕ) (card : Card) (cards : List Card) (tail : List Remark) → b < k → remarks_at (card_comments b (card ∷ cards) tail) k ≡ remarks_at (card_comments (b + 1) cards tail) k
remarks_of_later b k card cards tail lt = ap (map remark_of) (at_other b k card.comments (card_comments (b + 1) cards tail) (less_differs b k lt))

-- lists that have the same comments before each statement from one on
groups_same : (cs ds : List Comment) (k n : ℕ) → ((i : ℕ) → k ≤ i → remarks_at cs i ≡ remarks_at ds i) → groups_at cs k n ≡ groups_at ds k n
groups_same cs ds k zero same = refl
groups_same cs ds k (suc n) same =
    ap (λ r. r ∷ groups_at cs (k + 1) n) (same k (omega arith))
    ∙ ap (λ l. remarks_at ds k ∷ l) (groups_same cs ds (k + 1) n (λ i le. same i (omega (arith, le))))

-- the comments before each card are its own
groups_of_cards : (b : ℕ) (cards : List Card) (tail : List Remark) → groups_at (card_comments b cards tail) b (length cards) ≡ map (λ (card : Card). card.comments) cards
groups_of_cards b [] tail = refl
groups_of_cards b (card ∷ cards) tail =
    ap (λ r. r ∷ groups_at (card_comments b (card ∷ cards) tail) (b + 1) (length cards)) (remarks_of_first b card cards tail)
    ∙ ap (λ l. card.comments ∷ l)
    (groups_same (card_comments b (card ∷ cards) tail) (card_comments (b + 1) cards tail) (b + 1) (length cards) (λ i le. remarks_of_later b i card cards tail (omega (arith, le)))
    ∙ groups_of_cards (b + 1) cards tail)

-- from the first card on there are all
all_from_first : (b k : ℕ) (cards : List Card) (tail : List Remark) → k ≤ b → comments_from (card_comments b cards tail) k ≡ card_comments b cards tail
all_from_first b k [] tail le = all_numbered (λ n. nat_le k n) b tail (le-leb k b le)
all_from_first b k (card ∷ cards) tail le =
    filter-append (λ (c : Comment). nat_le k c.before) (numbered b card.comments) (card_comments (b + 1) cards tail)
    ∙ ap (λ l. l ++ comments_from (card_comments (b + 1) cards tail) k) (all_numbered (λ n. nat_le k n) b card.comments (le-leb k b le))
    ∙ ap (λ l. numbered b card.comments ++ l) (all_from_first (b + 1) k cards tail (omega (arith, le)))

-- behind the last card stand the comments of the tail
remarks_behind : (b : ℕ) (cards : List Card) (tail : List Remark) → map remark_of (comments_from (card_comments b cards tail) (b + length cards)) ≡ tail
remarks_behind b [] tail = ap (map remark_of) (all_numbered (λ n. nat_le (b + 0) n) b tail (le-leb (b + 0) b (omega arith))) ∙ remarks_numbered b tail
remarks_behind b (card ∷ cards) tail =
    let n : b + suc (length cards) ≡ b + 1 + length cards = omega arith in
    ap (λ k. map remark_of (comments_from (card_comments b (card ∷ cards) tail) k)) n
    ∙ ap (map remark_of) (from_other b (b + 1 + length cards) card.comments (card_comments (b + 1) cards tail) (omega arith))
    ∙ remarks_behind (b + 1) cards tail

-- ---- the comments of a unit

-- from the second card behind the first on
from_third : (header first : Card) (rest : List Card) (tail : List Remark) → comments_from (card_comments 0 (header ∷ first ∷ rest) tail) 2 ≡ card_comments 2 rest tail
from_third header first rest tail =
    from_other 0 2 header.comments (card_comments 1 (first ∷ rest) tail) (omega arith)
    ∙ from_other 1 2 first.comments (card_comments 2 rest tail) (omega arith)
    ∙ all_from_first 2 2 rest tail (omega arith)

-- none before the statement behind the header, and before each later one its own
groups_behind_header : (header first : Card) (rest : List Card) (tail : List Remark)
    → groups_at (comments_from (card_comments 0 (header ∷ first ∷ rest) tail) 2) 1 (length rest + 1) ≡ [] ∷ map (λ (card : Card). card.comments) rest
groups_behind_header header first rest tail =
    let n : length rest + 1 ≡ suc (length rest) = omega arith in
    ap (λ cs. groups_at cs 1 (length rest + 1)) (from_third header first rest tail)
    ∙ ap (groups_at (card_comments 2 rest tail) 1) n
    ∙ ap (λ (cs : List Comment). map remark_of cs ∷ groups_at (card_comments 2 rest tail) 2 (length rest)) (none_earlier 2 1 rest tail (omega arith))
    ∙ ap (λ (l : List (List Remark)). [] ∷ l) (groups_of_cards 2 rest tail)

-- the comments of a file with two statements or more, by where they are written
placed_cards : (cards : List Card) (tail : List Remark) (header first : Card) (made : Comments)
    → 2 ≤ length cards → header ≡ get_or cards 0 header → first ≡ get_or cards 1 first
    → made.head ≡ header.comments → made.inner ≡ first.comments → made.before ≡ [] ∷ map (λ (card : Card). card.comments) (take (length cards - 2) (drop 2 cards)) → made.tail ≡ tail
    → ArePlaced (card_comments 0 cards tail) (length cards - 1) made
placed_cards [] tail header first made two a b head inner before end = absurd (omega (arith, two))
placed_cards (x ∷ []) tail header first made two a b head inner before end = absurd (omega (arith, two))
placed_cards (x ∷ (y ∷ rest)) tail header first made two a b head inner before end =
    let cards = x ∷ y ∷ rest in
    let n : length cards - 1 ≡ length rest + 1 = omega arith in
    let m : length cards - 2 ≡ length rest = omega arith in
    let e : length cards - 1 + 1 ≡ 0 + length cards = omega arith in
    record {
      head = head ∙ ap (λ (card : Card). card.comments) a ∙ sym (remarks_of_first 0 x (y ∷ rest) tail);
      inner = inner ∙ ap (λ (card : Card). card.comments) b ∙ sym (remarks_of_later 0 1 x (y ∷ rest) tail (omega arith) ∙ remarks_of_first 1 y rest tail);
      before = before
          ∙ ap (λ k. [] ∷ map (λ (card : Card). card.comments) (take k rest)) m
          ∙ ap (λ (l : List Card). [] ∷ map (λ (card : Card). card.comments) l) (take-length rest)
          ∙ sym (ap (groups_at (comments_from (card_comments 0 cards tail) 2) 1) n ∙ groups_behind_header x y rest tail);
      tail = end ∙ sym (ap (λ k. map remark_of (comments_from (card_comments 0 cards tail) k)) e ∙ remarks_behind 0 cards tail);
    }

pub placed_deck : (deck : Contents) (cards : List Card) (header first : Card) (made : Comments)
    → cards ≡ deck.statements → header ≡ get_or cards 0 header → first ≡ get_or cards 1 first
    → made.head ≡ header.comments → made.inner ≡ first.comments → made.before ≡ [] ∷ map (λ (card : Card). card.comments) (take (length cards - 2) (drop 2 cards)) → made.tail ≡ deck.tail
    → 2 ≤ length deck.statements → ArePlaced (deck_comments deck) (length deck.statements - 1) made
placed_deck deck cards header first made same a b head inner before end two =
    subst (λ (l : List Card). ArePlaced (card_comments 0 l deck.tail) (length l - 1) made) same
    (placed_cards cards deck.tail header first made (subst (λ (l : List Card). 2 ≤ length l) (sym same) two) a b head inner before end)
