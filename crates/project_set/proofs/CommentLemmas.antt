-- The comments of a file are in order, and lists of comments are cut by how many statements stand before them.
use Rattle.std.proofs.Common.{◌≡◌, ℕ, ◌+◌, ◌-◌, ◌<◌, ◌≤◌, ◌==◌, Bool, true, false, not, ◌||◌, ◌&&◌, cond, List, [], ◌∷◌, ◌++◌, drop, refl, sym, ap, ◌∙◌, subst, arith}
use Rattle.std.specs.Prelude.{nat_le}
use Rattle.std.proofs.lemmas.Bool.{and_from, and_parts, le-leb, lt-leb, leb-true, eq-eqb}
use Rattle.text_base.specs.Lines.{lines, is_blank, is_marked, is_comment, is_initial}
use Rattle.text_base.specs.Cards.{Comment, comment_of, goes_on, whole_before, comments_of, comments}
use Rattle.project_set.specs.Rewrite.{comments_at, comments_from}

-- ---- numbers

pub less_differs : (a b : ℕ) → a < b → (a == b) ≡ false
less_differs a b lt = grind (arith, lt)

pub more_differs : (a b : ℕ) → b < a → (a == b) ≡ false
more_differs a b lt = grind (arith, lt)

pub data Order (a b : ℕ) : Type 0 where
  less : a < b → Order a b
  same : a ≡ b → Order a b
  more : b < a → Order a b

pub order : (a b : ℕ) → Order a b
order a b = go (nat_le a b) refl (nat_le b a) refl
  where
    go : (p : Bool) → nat_le a b ≡ p → (q : Bool) → nat_le b a ≡ q → Order a b
    go true e true f = same (omega (arith, leb-true a b e, leb-true b a f))
    go true e false f = less (grind (arith, e, f))
    go false e q f = more (grind (arith, e))

-- ---- one comment before others

pub at_keeps : (c : Comment) (cs : List Comment) (k : ℕ) → c.before ≡ k → comments_at (c ∷ cs) k ≡ c ∷ comments_at cs k
at_keeps c cs k e = ap (λ b. cond b (c ∷ comments_at cs k) (comments_at cs k)) (eq-eqb c.before k e)

pub at_drops_less : (c : Comment) (cs : List Comment) (k : ℕ) → c.before < k → comments_at (c ∷ cs) k ≡ comments_at cs k
at_drops_less c cs k lt = ap (λ b. cond b (c ∷ comments_at cs k) (comments_at cs k)) (less_differs c.before k lt)

pub at_drops_more : (c : Comment) (cs : List Comment) (k : ℕ) → k < c.before → comments_at (c ∷ cs) k ≡ comments_at cs k
at_drops_more c cs k lt = ap (λ b. cond b (c ∷ comments_at cs k) (comments_at cs k)) (more_differs c.before k lt)

pub from_keeps : (c : Comment) (cs : List Comment) (k : ℕ) → k ≤ c.before → comments_from (c ∷ cs) k ≡ c ∷ comments_from cs k
from_keeps c cs k le = ap (λ b. cond b (c ∷ comments_from cs k) (comments_from cs k)) (le-leb k c.before le)

pub from_drops : (c : Comment) (cs : List Comment) (k : ℕ) → c.before < k → comments_from (c ∷ cs) k ≡ comments_from cs k
from_drops c cs k lt = ap (λ b. cond b (c ∷ comments_from cs k) (comments_from cs k)) (lt-leb k c.before lt)

-- ---- lists in order

-- each comment has at least so many statements before it, and at least as many as the comment before
abbrev pub is_ascending : ℕ → List Comment → Bool
is_ascending k [] = true
is_ascending k (c ∷ cs) = nat_le k c.before && is_ascending c.before cs

-- fewer statements stand before them too
pub ascending_from : (cs : List Comment) (j k : ℕ) → j ≤ k → is_ascending k cs ≡ true → is_ascending j cs ≡ true
ascending_from [] j k le e = refl
ascending_from (c ∷ cs) j k le e =
    let b = and_parts (nat_le k c.before) (is_ascending c.before cs) e in
    and_from _ _ (le-leb j c.before (omega (arith, le, leb-true k c.before b.0))) b.1

-- none stands before an earlier statement
pub none_before : (cs : List Comment) (k m : ℕ) → k < m → is_ascending m cs ≡ true → comments_at cs k ≡ []
none_before [] k m lt e = refl
none_before (c ∷ cs) k m lt e =
    let b = and_parts (nat_le m c.before) (is_ascending c.before cs) e in
    let after : k < c.before = omega (arith, lt, leb-true m c.before b.0) in
    at_drops_more c cs k after ∙ none_before cs k c.before after b.1

-- all have so many statements before them
pub all_from : (cs : List Comment) (k m : ℕ) → k ≤ m → is_ascending m cs ≡ true → comments_from cs k ≡ cs
all_from [] k m le e = refl
all_from (c ∷ cs) k m le e =
    let b = and_parts (nat_le m c.before) (is_ascending c.before cs) e in
    let after : k ≤ c.before = omega (arith, le, leb-true m c.before b.0) in
    from_keeps c cs k after ∙ ap (λ xs. c ∷ xs) (all_from cs k c.before after b.1)

-- first those before a statement, then the later ones
pub parted : (cs : List Comment) (k m : ℕ) → is_ascending m cs ≡ true → comments_from cs k ≡ comments_at cs k ++ comments_from cs (k + 1)
parted [] k m e = refl
parted (c ∷ cs) k m e = let rest = (and_parts (nat_le m c.before) (is_ascending c.before cs) e).1 in go rest (parted cs k c.before rest) (order c.before k)
  where
    go : is_ascending c.before cs ≡ true → comments_from cs k ≡ comments_at cs k ++ comments_from cs (k + 1) → Order c.before k
        → comments_from (c ∷ cs) k ≡ comments_at (c ∷ cs) k ++ comments_from (c ∷ cs) (k + 1)
    go rest tail (less lt) =
        from_drops c cs k lt ∙ tail
        ∙ ap (λ xs. xs ++ comments_from cs (k + 1)) (sym (at_drops_less c cs k lt))
        ∙ ap (λ xs. comments_at (c ∷ cs) k ++ xs) (sym (from_drops c cs (k + 1) (omega (arith, lt))))
    go rest tail (same is) =
        from_keeps c cs k (omega (arith, is)) ∙ ap (λ xs. c ∷ xs) tail
        ∙ ap (λ xs. xs ++ comments_from cs (k + 1)) (sym (at_keeps c cs k is))
        ∙ ap (λ xs. comments_at (c ∷ cs) k ++ xs) (sym (from_drops c cs (k + 1) (omega (arith, is))))
    go rest tail (more lt) =
        let none : comments_at (c ∷ cs) k ≡ [] = at_drops_more c cs k lt ∙ none_before cs k c.before lt rest in
        from_keeps c cs k (omega (arith, lt)) ∙ ap (λ xs. c ∷ xs) (all_from cs k c.before (omega (arith, lt)) rest)
        ∙ ap (λ xs. c ∷ xs) (sym (all_from cs (k + 1) c.before (omega (arith, lt)) rest))
        ∙ sym (from_keeps c cs (k + 1) (omega (arith, lt)))
        ∙ ap (λ xs. xs ++ comments_from (c ∷ cs) (k + 1)) (sym none)

-- ---- of a file

abbrev marked_comment : ℕ → List ℕ → Comment
marked_comment k l = record { marked = true; text = drop 1 l; before = k }

abbrev blank_comment : ℕ → List ℕ → Comment
blank_comment k l = record { marked = false; text = l; before = k }

-- a comment has the number that it is given
before_is : (k : ℕ) (l : List ℕ) → (comment_of k l).before ≡ k
before_is k l = go (is_marked l || not (is_blank l))
  where
    go : (b : Bool) → (cond b (marked_comment k l) (blank_comment k l)).before ≡ k
    go true = refl
    go false = refl

-- of the statements that have begun all but one stand whole before the lines, or all
nearly_whole : (begun : ℕ) (ls : List (List ℕ)) → begun ≤ whole_before begun ls + 1
nearly_whole begun ls = go (goes_on ls)
  where
    go : (b : Bool) → begun ≤ cond b (begun - 1) begun + 1
    go true = omega arith
    go false = omega arith

-- the comments of lines are in order, from the statements on that stand whole before the lines
lines_ascend : (ls : List (List ℕ)) (begun k : ℕ) → k ≤ whole_before begun ls → is_ascending k (comments_of begun ls) ≡ true
lines_ascend [] begun k le = refl
lines_ascend (l ∷ ls) begun k le = go (is_comment l) (is_initial l) le (λ n m. lines_ascend ls n m)
  where
    here : ℕ
    here = whole_before begun ls

    go : (b i : Bool) → k ≤ cond (cond b (goes_on ls) (not i)) (begun - 1) begun
        → ((n m : ℕ) → m ≤ whole_before n ls → is_ascending m (comments_of n ls) ≡ true)
        → is_ascending k (cond b (comment_of here l ∷ comments_of begun ls) (comments_of (cond i (begun + 1) begun) ls)) ≡ true
    go true i le rest =
        and_from _ _ (le-leb k (comment_of here l).before (omega (arith, le, before_is here l)))
        (subst (λ n. is_ascending n (comments_of begun ls) ≡ true) (sym (before_is here l)) (rest begun here (omega arith)))
    go false true le rest = rest (begun + 1) k (omega (arith, le, nearly_whole (begun + 1) ls))
    go false false le rest = rest begun k (omega (arith, le, nearly_whole begun ls))

-- the comments of a file are in order
pub comments_ascend : (bytes : List ℕ) → is_ascending 0 (comments bytes) ≡ true
comments_ascend bytes = lines_ascend (lines bytes) 0 0 (omega arith)
