-- The comments before a statement, and those from a statement on, among those from an earlier one on.
use Rattle.std.proofs.Common.{◌≡◌, ℕ, ◌≤◌, ◌<◌, Bool, true, false, cond, nat_le, ◌==◌, List, [], ◌∷◌, filter, refl, ap, ◌∙◌, arith}
use Rattle.std.proofs.lemmas.Bool.Decides.{nat_tests}
use Rattle.text_base.specs.Cards.{Comment}
use Rattle.project_set.specs.Rewrite.{comments_at, comments_from}

-- an item that the second test refuses is left out either way
refused_either_way : (b : Bool) (c : Comment) (cs : List Comment) → (b ≡ true → false ≡ true) → cs ≡ cond b (c ∷ cs) cs
refused_either_way true c cs never = let no : false ≡ true = never refl in cc
refused_either_way false c cs never = refl

-- an item that the test refuses
refused : (b : Bool) (c : Comment) (cs : List Comment) → b ≡ false → cond b (c ∷ cs) cs ≡ cs
refused true c cs is = cc
refused false c cs is = refl

-- one more item, where the second test implies the first
filter-filter_more : (q : Comment → Bool) (b : Bool) (c : Comment) (cs ds : List Comment)
    → filter q cs ≡ ds → (q c ≡ true → b ≡ true) → filter q (cond b (c ∷ cs) cs) ≡ cond (q c) (c ∷ ds) ds
filter-filter_more q true c cs ds same implied = ap (λ l. cond (q c) (c ∷ l) l) same
filter-filter_more q false c cs ds same implied = same ∙ refused_either_way (q c) c ds implied

-- a test that implies another, after that one
filter-filter : (p q : Comment → Bool) → ((c : Comment) → q c ≡ true → p c ≡ true) → (cs : List Comment)
    → filter q (filter p cs) ≡ filter q cs
filter-filter p q implied [] = refl
filter-filter p q implied (c ∷ cs) = filter-filter_more q (p c) c (filter p cs) (filter q cs) (filter-filter p q implied cs) (implied c)

-- one more item, where the first test rules the second out
filter_none_more : (q : Comment → Bool) (b : Bool) (c : Comment) (cs : List Comment)
    → filter q cs ≡ [] → (b ≡ true → q c ≡ false) → filter q (cond b (c ∷ cs) cs) ≡ []
filter_none_more q true c cs none never = refused (q c) c (filter q cs) (never refl) ∙ none
filter_none_more q false c cs none never = none

-- a test that another rules out, after that one
filter_none : (p q : Comment → Bool) → ((c : Comment) → p c ≡ true → q c ≡ false) → (cs : List Comment) → filter q (filter p cs) ≡ []
filter_none p q never [] = refl
filter_none p q never (c ∷ cs) = filter_none_more q (p c) c (filter p cs) (filter_none p q never cs) (never c)

-- a number that is at least the greater one
at_least : (j k n : ℕ) → j ≤ k → nat_le k n ≡ true → nat_le j n ≡ true
at_least j k n le test = grind (arith, nat_tests)

-- a number that equals the greater one
at_least_same : (j k n : ℕ) → j ≤ k → (n == k) ≡ true → nat_le j n ≡ true
at_least_same j k n le test = grind (arith, nat_tests)

-- a number that is greater than another
not_same : (j k n : ℕ) → k < j → nat_le j n ≡ true → (n == k) ≡ false
not_same j k n lt test = grind (arith, nat_tests)

-- the comments before a statement are among those from an earlier one on
pub at-from : (cs : List Comment) (j k : ℕ) → j ≤ k → comments_at (comments_from cs j) k ≡ comments_at cs k
at-from cs j k le = filter-filter (λ c. nat_le j c.before) (λ c. c.before == k) (λ c test. at_least_same j k c.before le test) cs

-- the comments from a statement on are among those from an earlier one on
pub from-from : (cs : List Comment) (j k : ℕ) → j ≤ k → comments_from (comments_from cs j) k ≡ comments_from cs k
from-from cs j k le = filter-filter (λ c. nat_le j c.before) (λ c. nat_le k c.before) (λ c test. at_least j k c.before le test) cs

-- none of the comments from a statement on stands before an earlier one
pub at-from_later : (cs : List Comment) (j k : ℕ) → k < j → comments_at (comments_from cs j) k ≡ []
at-from_later cs j k lt = filter_none (λ c. nat_le j c.before) (λ c. c.before == k) (λ c test. not_same j k c.before lt test) cs
