-- What is counted before a comment are the statements whose last line stands before it.
use Rattle.std.proofs.Common.{◌≡◌, ℕ, zero, ◌+◌, ◌-◌, ◌<◌, ◌≤◌, Bool, true, false, not, cond, nat_lt, List, [], ◌∷◌, map, filter, refl, sym, ap, ◌∙◌, subst, arith}
use Rattle.std.specs.List.{count_by, enumerate_from, take_while}
use Rattle.std.proofs.lemmas.List.Sums.{sum_by-cons, take_while-cons}
use Rattle.text_base.specs.Lines.{lines, is_comment, is_initial}
use Rattle.text_base.specs.Cards.{statement_lines, grouped, Comment, comment_of, goes_on, whole_before, comments_of, comments}
use Rattle.text_base.specs.CommentLines.{last_of, last_line, comments_by_lines}

abbrev Group : Type 0
Group = (ℕ × List ℕ) × List (ℕ × List ℕ)

-- the continuation lines that some lines begin with
abbrev continued : List (ℕ × List ℕ) → List (ℕ × List ℕ)
continued ps = take_while (λ q. not (is_initial q.1)) ps

abbrev one_if : Bool → ℕ
one_if b = cond b 1 0

-- a statement whose last line so far has this number ends before the line m, if these lines follow
abbrev ends_before : ℕ → ℕ → List (ℕ × List ℕ) → ℕ
ends_before m n ps = one_if (nat_lt (last_of n (continued ps)) m)

-- how many groups of these lines end before the line m
abbrev groups_before : ℕ → List (ℕ × List ℕ) → ℕ
groups_before m ps = count_by (λ g. nat_lt (last_line g) m) (grouped ps)

-- ---- lines of statements

abbrev with_line : ℕ → List ℕ → List (List ℕ) → List (ℕ × List ℕ)
with_line k l ls = (k, l) ∷ statement_lines (k + 1) ls

at_comment : (k : ℕ) (l : List ℕ) (ls : List (List ℕ)) → is_comment l ≡ true → statement_lines k (l ∷ ls) ≡ statement_lines (k + 1) ls
at_comment k l ls e = ap (λ b. cond (not b) (with_line k l ls) (statement_lines (k + 1) ls)) e

at_statement : (k : ℕ) (l : List ℕ) (ls : List (List ℕ)) → is_comment l ≡ false → statement_lines k (l ∷ ls) ≡ with_line k l ls
at_statement k l ls e = ap (λ b. cond (not b) (with_line k l ls) (statement_lines (k + 1) ls)) e

continued_at : (k : ℕ) (l : List ℕ) (ps : List (ℕ × List ℕ)) (b : Bool) → is_initial l ≡ b → continued ((k, l) ∷ ps) ≡ cond (not b) ((k, l) ∷ continued ps) []
continued_at k l ps b e = take_while-cons (λ (q : ℕ × List ℕ). not (is_initial q.1)) (k, l) ps ∙ ap (λ c. cond (not c) ((k, l) ∷ continued ps) []) e

grouped_at : (k : ℕ) (l : List ℕ) (ps : List (ℕ × List ℕ)) (b : Bool) → is_initial l ≡ b → grouped ((k, l) ∷ ps) ≡ cond b (((k, l), continued ps) ∷ grouped ps) (grouped ps)
grouped_at k l ps b e = ap (λ c. cond c (((k, l), continued ps) ∷ grouped ps) (grouped ps)) e

-- ---- where statements end

-- a statement ends no earlier than at its last line so far
last_after : (n k : ℕ) (ls : List (List ℕ)) → n ≤ k → n ≤ last_of n (continued (statement_lines k ls))
last_after n k [] le = omega arith
last_after n k (l ∷ ls) le = go (last_after n (k + 1) ls (omega (arith, le))) (last_after k (k + 1) ls (omega arith)) (is_comment l) refl (is_initial l) refl
  where
    go : n ≤ last_of n (continued (statement_lines (k + 1) ls)) → k ≤ last_of k (continued (statement_lines (k + 1) ls))
        → (b : Bool) → is_comment l ≡ b → (c : Bool) → is_initial l ≡ c → n ≤ last_of n (continued (statement_lines k (l ∷ ls)))
    go past more true e c f = subst (λ ps. n ≤ last_of n (continued ps)) (sym (at_comment k l ls e)) past
    go past more false e true f =
        let lines_are = at_statement k l ls e in
        let same = continued_at k l (statement_lines (k + 1) ls) true f in
        subst (λ ps. n ≤ last_of n ps) (sym (ap continued lines_are ∙ same)) (omega arith)
    go past more false e false f =
        let lines_are = at_statement k l ls e in
        let same = continued_at k l (statement_lines (k + 1) ls) false f in
        subst (λ ps. n ≤ last_of n ps) (sym (ap continued lines_are ∙ same)) (omega (arith, le, more))

-- where it goes on, it ends no earlier than at the first of the lines
ends_later : (n k : ℕ) (ls : List (List ℕ)) → goes_on ls ≡ true → k ≤ last_of n (continued (statement_lines k ls))
ends_later n k [] e = absurd cc
ends_later n k (l ∷ ls) e = go (ends_later n (k + 1) ls) (is_comment l) refl (is_initial l) refl e
  where
    go : (goes_on ls ≡ true → k + 1 ≤ last_of n (continued (statement_lines (k + 1) ls))) → (b : Bool) → is_comment l ≡ b → (c : Bool) → is_initial l ≡ c → cond b (goes_on ls) (not c) ≡ true → k ≤ last_of n (continued (statement_lines k (l ∷ ls)))
    go later true e c f on =
        let more = later on in
        subst (λ ps. k ≤ last_of n (continued ps)) (sym (at_comment k l ls e)) (omega (arith, more))
    go later false e true f on = absurd cc
    go later false e false f on =
        let lines_are = at_statement k l ls e in
        let same = continued_at k l (statement_lines (k + 1) ls) false f in
        let more = last_after k (k + 1) ls (omega arith) in
        subst (λ ps. k ≤ last_of n ps) (sym (ap continued lines_are ∙ same)) more

-- where it doesn't go on, no line is added to it
ends_here : (k : ℕ) (ls : List (List ℕ)) → goes_on ls ≡ false → continued (statement_lines k ls) ≡ []
ends_here k [] e = refl
ends_here k (l ∷ ls) e = go (ends_here (k + 1) ls) (is_comment l) refl (is_initial l) refl e
  where
    go : (goes_on ls ≡ false → continued (statement_lines (k + 1) ls) ≡ []) → (b : Bool) → is_comment l ≡ b → (c : Bool) → is_initial l ≡ c → cond b (goes_on ls) (not c) ≡ false → continued (statement_lines k (l ∷ ls)) ≡ []
    go later true e c f on = ap continued (at_comment k l ls e) ∙ later on
    go later false e true f on = ap continued (at_statement k l ls e) ∙ continued_at k l (statement_lines (k + 1) ls) true f
    go later false e false f on = absurd cc

-- ---- groups

groups_at : (m k : ℕ) (l : List ℕ) (ps : List (ℕ × List ℕ)) → is_initial l ≡ true → groups_before m ((k, l) ∷ ps) ≡ ends_before m k ps + groups_before m ps
groups_at m k l ps e =
    let test : Group → Bool = λ g. nat_lt (last_line g) m in
    ap (count_by test) (grouped_at k l ps true e) ∙ sum_by-cons (λ g. one_if (test g)) ((k, l), continued ps) (grouped ps)

groups_past : (m k : ℕ) (l : List ℕ) (ps : List (ℕ × List ℕ)) → is_initial l ≡ false → groups_before m ((k, l) ∷ ps) ≡ groups_before m ps
groups_past m k l ps e = ap (count_by (λ (g : Group). nat_lt (last_line g) m)) (grouped_at k l ps false e)

not_less : (a m : ℕ) → m ≤ a → one_if (nat_lt a m) ≡ 0
not_less a m le = grind (arith, le)

is_less : (a m : ℕ) → a < m → one_if (nat_lt a m) ≡ 1
is_less a m lt = grind (arith, lt)

-- groups of later lines end later
no_group : (m k : ℕ) (ls : List (List ℕ)) → m ≤ k → groups_before m (statement_lines k ls) ≡ 0
no_group m k [] le = refl
no_group m k (l ∷ ls) le = go (no_group m (k + 1) ls (omega (arith, le))) (is_comment l) refl (is_initial l) refl
  where
    go : groups_before m (statement_lines (k + 1) ls) ≡ 0 → (b : Bool) → is_comment l ≡ b → (c : Bool) → is_initial l ≡ c → groups_before m (statement_lines k (l ∷ ls)) ≡ 0
    go rest true e c f = ap (groups_before m) (at_comment k l ls e) ∙ rest
    go rest false e true f =
        let last = last_after k (k + 1) ls (omega arith) in
        let none = not_less (last_of k (continued (statement_lines (k + 1) ls))) m (omega (arith, le, last)) in
        ap (groups_before m) (at_statement k l ls e) ∙ groups_at m k l (statement_lines (k + 1) ls) f ∙ omega (arith, none, rest)
    go rest false e false f = ap (groups_before m) (at_statement k l ls e) ∙ groups_past m k l (statement_lines (k + 1) ls) f ∙ rest

-- ---- comments

-- the comments of some lines, of which the first has the number k, by a count of the statements before a line
abbrev counted_comments : (ℕ → ℕ) → ℕ → List (List ℕ) → List Comment
counted_comments count k ls = map (λ p. comment_of (count p.0) p.1) (filter (λ p. is_comment p.1) (enumerate_from k ls))

comments_at_comment : (begun : ℕ) (count : ℕ → ℕ) (k : ℕ) (l : List ℕ) (ls : List (List ℕ)) → is_comment l ≡ true → count k ≡ whole_before begun ls
    → comments_of begun ls ≡ counted_comments count (k + 1) ls → comments_of begun (l ∷ ls) ≡ counted_comments count k (l ∷ ls)
comments_at_comment begun count k l ls e is more =
    let later : List (ℕ × List ℕ) = filter (λ p. is_comment p.1) (enumerate_from (k + 1) ls) in
    ap (λ b. cond b (comment_of (whole_before begun ls) l ∷ comments_of begun ls) (comments_of (cond (is_initial l) (begun + 1) begun) ls)) e
    ∙ ap (λ n. comment_of n l ∷ comments_of begun ls) (sym is)
    ∙ ap (λ cs. comment_of (count k) l ∷ cs) more
    ∙ ap (λ b. map (λ (p : ℕ × List ℕ). comment_of (count p.0) p.1) (cond b ((k, l) ∷ later) later)) (sym e)

comments_at_statement : (begun : ℕ) (count : ℕ → ℕ) (k : ℕ) (l : List ℕ) (ls : List (List ℕ)) (b : Bool) → is_comment l ≡ false → is_initial l ≡ b
    → comments_of (cond b (begun + 1) begun) ls ≡ counted_comments count (k + 1) ls → comments_of begun (l ∷ ls) ≡ counted_comments count k (l ∷ ls)
comments_at_statement begun count k l ls b e f more =
    let later : List (ℕ × List ℕ) = filter (λ p. is_comment p.1) (enumerate_from (k + 1) ls) in
    ap (λ c. cond c (comment_of (whole_before begun ls) l ∷ comments_of begun ls) (comments_of (cond (is_initial l) (begun + 1) begun) ls)) e
    ∙ ap (λ c. comments_of (cond c (begun + 1) begun) ls) f
    ∙ more
    ∙ ap (λ c. map (λ (p : ℕ × List ℕ). comment_of (count p.0) p.1) (cond c ((k, l) ∷ later) later)) (sym e)

-- how many statements end before the line m: so many whole ones, one whose last line so far is the line n, and those of
-- the lines that follow
abbrev all_before : ℕ → ℕ → ℕ → List (ℕ × List ℕ) → ℕ
all_before m whole n ps = whole + (ends_before m n ps + groups_before m ps)

-- before the line k, whether or not the last of the statements goes on behind it
here_whole : (whole n k : ℕ) (ls : List (List ℕ)) → n < k → all_before k whole n (statement_lines (k + 1) ls) ≡ whole_before (whole + 1) ls
here_whole whole n k ls lt = go (goes_on ls) refl
  where
    none : groups_before k (statement_lines (k + 1) ls) ≡ 0
    none = no_group k (k + 1) ls (omega arith)

    go : (b : Bool) → goes_on ls ≡ b → all_before k whole n (statement_lines (k + 1) ls) ≡ cond b (whole + 1 - 1) (whole + 1)
    go true e =
        let later = ends_later n (k + 1) ls e in
        let zero_yet : ends_before k n (statement_lines (k + 1) ls) ≡ 0 = not_less _ k (omega (arith, later)) in
        omega (arith, zero_yet, none)
    go false e =
        let ended : ends_before k n (statement_lines (k + 1) ls) ≡ 1 = ap (λ ps. one_if (nat_lt (last_of n ps) k)) (ends_here (k + 1) ls e) ∙ is_less n k lt in
        omega (arith, ended, none)

-- a new statement ends the one before it
all_initial : (m whole n k : ℕ) (l : List ℕ) (ps : List (ℕ × List ℕ)) → n < m → is_initial l ≡ true → all_before m whole n ((k, l) ∷ ps) ≡ all_before m (whole + 1) k ps
all_initial m whole n k l ps lt f =
    let ended : ends_before m n ((k, l) ∷ ps) ≡ 1 = ap (λ qs. one_if (nat_lt (last_of n qs) m)) (continued_at k l ps true f) ∙ is_less n m lt in
    let groups = groups_at m k l ps f in
    omega (arith, ended, groups)

-- a continuation line is the last so far of the statement that is open
all_continued : (m whole n k : ℕ) (l : List ℕ) (ps : List (ℕ × List ℕ)) → is_initial l ≡ false → all_before m whole n ((k, l) ∷ ps) ≡ all_before m whole k ps
all_continued m whole n k l ps f =
    let zero_yet : ends_before m n ((k, l) ∷ ps) ≡ ends_before m k ps = ap (λ qs. one_if (nat_lt (last_of n qs) m)) (continued_at k l ps false f) in
    let groups = groups_past m k l ps f in
    omega (arith, zero_yet, groups)

-- after so many whole statements and one more, whose last line so far is the line n
while_open : (whole n k : ℕ) (ls : List (List ℕ)) (count : ℕ → ℕ) → n < k
    → ((m : ℕ) → k ≤ m → count m ≡ all_before m whole n (statement_lines k ls))
    → comments_of (whole + 1) ls ≡ counted_comments count k ls
while_open whole n k [] count lt counts = refl
while_open whole n k (l ∷ ls) count lt counts =
    go (while_open whole n (k + 1) ls count (omega (arith, lt))) (while_open (whole + 1) k (k + 1) ls count (omega arith)) (while_open whole k (k + 1) ls count (omega arith))
    (is_comment l) refl (is_initial l) refl
  where
    go : (((m : ℕ) → k + 1 ≤ m → count m ≡ all_before m whole n (statement_lines (k + 1) ls)) → comments_of (whole + 1) ls ≡ counted_comments count (k + 1) ls)
        → (((m : ℕ) → k + 1 ≤ m → count m ≡ all_before m (whole + 1) k (statement_lines (k + 1) ls)) → comments_of (whole + 1 + 1) ls ≡ counted_comments count (k + 1) ls)
        → (((m : ℕ) → k + 1 ≤ m → count m ≡ all_before m whole k (statement_lines (k + 1) ls)) → comments_of (whole + 1) ls ≡ counted_comments count (k + 1) ls)
        → (b : Bool) → is_comment l ≡ b → (c : Bool) → is_initial l ≡ c → comments_of (whole + 1) (l ∷ ls) ≡ counted_comments count k (l ∷ ls)
    go same new more true e c f =
        comments_at_comment (whole + 1) count k l ls e
        (counts k (omega arith) ∙ ap (all_before k whole n) (at_comment k l ls e) ∙ here_whole whole n k ls lt)
        (same (λ m le. counts m (omega (arith, le)) ∙ ap (all_before m whole n) (at_comment k l ls e)))
    go same new more false e true f =
        comments_at_statement (whole + 1) count k l ls true e f
        (new (λ m le. counts m (omega (arith, le)) ∙ ap (all_before m whole n) (at_statement k l ls e) ∙ all_initial m whole n k l (statement_lines (k + 1) ls) (omega (arith, le, lt)) f))
    go same new more false e false f =
        comments_at_statement (whole + 1) count k l ls false e f
        (more (λ m le. counts m (omega (arith, le)) ∙ ap (all_before m whole n) (at_statement k l ls e) ∙ all_continued m whole n k l (statement_lines (k + 1) ls) f))

-- before the first statement
while_none : (k : ℕ) (ls : List (List ℕ)) (count : ℕ → ℕ) → ((m : ℕ) → k ≤ m → count m ≡ groups_before m (statement_lines k ls)) → comments_of 0 ls ≡ counted_comments count k ls
while_none k [] count counts = refl
while_none k (l ∷ ls) count counts = go (while_none (k + 1) ls count) (is_comment l) refl (is_initial l) refl
  where
    none_whole : (b : Bool) → cond b zero zero ≡ zero
    none_whole true = refl
    none_whole false = refl

    go : (((m : ℕ) → k + 1 ≤ m → count m ≡ groups_before m (statement_lines (k + 1) ls)) → comments_of 0 ls ≡ counted_comments count (k + 1) ls)
        → (b : Bool) → is_comment l ≡ b → (c : Bool) → is_initial l ≡ c → comments_of 0 (l ∷ ls) ≡ counted_comments count k (l ∷ ls)
    go same true e c f =
        comments_at_comment 0 count k l ls e
        (counts k (omega arith) ∙ ap (groups_before k) (at_comment k l ls e) ∙ no_group k (k + 1) ls (omega arith) ∙ sym (none_whole (goes_on ls)))
        (same (λ m le. counts m (omega (arith, le)) ∙ ap (groups_before m) (at_comment k l ls e)))
    go same false e true f =
        comments_at_statement 0 count k l ls true e f
        (while_open 0 k (k + 1) ls count (omega arith)
        (λ m le. counts m (omega (arith, le)) ∙ ap (groups_before m) (at_statement k l ls e) ∙ groups_at m k l (statement_lines (k + 1) ls) f ∙ omega arith))
    go same false e false f =
        comments_at_statement 0 count k l ls false e f
        (same (λ m le. counts m (omega (arith, le)) ∙ ap (groups_before m) (at_statement k l ls e) ∙ groups_past m k l (statement_lines (k + 1) ls) f))

pub by_lines : (bytes : List ℕ) → comments bytes ≡ comments_by_lines bytes
by_lines bytes = while_none 1 (lines bytes) (λ m. groups_before m (statement_lines 1 (lines bytes))) (λ m le. refl)
