-- The comments of a file are in order, and so are their positions.
use Rattle.std.proofs.Common.{◌≡◌, ℕ, ◌+◌, ◌-◌, ◌<◌, ◌≤◌, Bool, true, false, not, ◌||◌, List, [], ◌∷◌, length, get_or, refl, ap, arith}
use Rattle.std.specs.Prelude.{All, if◌then◌else◌}
use Rattle.std.specs.List.{AllPairs}
use Rattle.std.proofs.lemmas.List.{get_or-map, length-map}
use Rattle.std.proofs.lemmas.List.Elements.{All-nil, All-cons, All-weaker}
use Rattle.std.proofs.lemmas.List.Kept.{AllPairs-cons}
use Rattle.text_base.specs.Lines.{lines, is_blank, is_marked, is_comment, is_initial}
use Rattle.text_base.specs.Cards.{Comment, comment_of, goes_on, whole_before, comments_of, comments}
use Rattle.program77.specs.Tree.{SourceProgram}
use Rattle.project_set.specs.Rewrite.{remark_of}
use Rattle.project_set.specs.Positions.{Placed, position_of, source_positions}
use Rattle.definition_laws.specs.CommentPlaces.{entries_before}
use Rattle.definition_laws.proofs.CommentTexts.{comment_if}
use Rattle.definition_laws.proofs.EntryCounts.{ascend}

-- at least so many statements stand before a comment
abbrev IsBehind : ℕ → Comment → Type 0
IsBehind n c = n ≤ c.before

abbrev IsInOrder : Comment → Comment → Type 0
IsInOrder c d = c.before ≤ d.before

before_is : (n : ℕ) (l : List ℕ) → (comment_of n l).before ≡ n
before_is n l = go (is_marked l || not (is_blank l))
  where
    go : (b : Bool) → (comment_if b n l).before ≡ n
    go true = refl
    go false = refl

-- the comments of some lines stand behind the statements that are whole before these
all_behind : (begun : ℕ) (ls : List (List ℕ)) → All (IsBehind (whole_before begun ls)) (comments_of begun ls) × AllPairs IsInOrder (comments_of begun ls)
all_behind begun [] = (All-nil (IsBehind begun), λ i j d lt within. absurd (omega arith))
all_behind begun (l ∷ ls) = go (is_comment l) (is_initial l) (all_behind begun ls) (all_behind (begun + 1) ls)
  where
    -- a statement that begins later has no fewer before it
    least : (n : ℕ) (b : Bool) → n ≤ (if b then n + 1 - 1 else n + 1)
    least n true = omega arith
    least n false = omega arith

    fewer : (n : ℕ) (b : Bool) → n - 1 ≤ (if b then n - 1 else n)
    fewer n true = omega arith
    fewer n false = omega arith

    go : (b i : Bool)
        → All (IsBehind (whole_before begun ls)) (comments_of begun ls) × AllPairs IsInOrder (comments_of begun ls)
        → All (IsBehind (whole_before (begun + 1) ls)) (comments_of (begun + 1) ls) × AllPairs IsInOrder (comments_of (begun + 1) ls)
        → All (IsBehind (if (if b then goes_on ls else not i) then begun - 1 else begun)) (if b then comment_of (whole_before begun ls) l ∷ comments_of begun ls else comments_of (if i then begun + 1 else begun) ls)
        × AllPairs IsInOrder (if b then comment_of (whole_before begun ls) l ∷ comments_of begun ls else comments_of (if i then begun + 1 else begun) ls)
    go true i same next =
        let c = comment_of (whole_before begun ls) l in
        let at = before_is (whole_before begun ls) l in (
          All-cons (IsBehind (whole_before begun ls)) c (comments_of begun ls) (omega (arith, at)) same.0,
          AllPairs-cons IsInOrder c (comments_of begun ls) (All-weaker (IsBehind (whole_before begun ls)) (IsInOrder c) (λ d behind. omega (arith, at, behind)) (comments_of begun ls) same.0) same.1,
        )
    go false true same next = (All-weaker (IsBehind (whole_before (begun + 1) ls)) (IsBehind begun) (λ d behind. omega (arith, behind, least begun (goes_on ls))) (comments_of (begun + 1) ls) next.0, next.1)
    go false false same next = (All-weaker (IsBehind (whole_before begun ls)) (IsBehind (begun - 1)) (λ d behind. omega (arith, behind, fewer begun (goes_on ls))) (comments_of begun ls) same.0, same.1)

pub comments_ascend : (bytes : List ℕ) → AllPairs IsInOrder (comments bytes)
comments_ascend bytes = (all_behind 0 (lines bytes)).1

-- a comment with its position
abbrev place : SourceProgram → Comment → Placed
place p c = record { remark = remark_of c; position = position_of 0 p.units c.before }

pub positions_ascend : (bytes : List ℕ) (p : SourceProgram) → AllPairs (λ (a b : Placed). entries_before p.units a.position ≤ entries_before p.units b.position) (source_positions bytes p)
positions_ascend bytes p i j d lt within =
    let size = length-map (comments bytes) (place p) in
    let nobody : Comment = record { marked = false; text = []; before = 0 } in
    let at = λ (k : ℕ) (h : k < length (comments bytes)). ap (λ (q : Placed). entries_before p.units q.position) (get_or-map (place p) (comments bytes) k nobody d h) in
    let order = comments_ascend bytes i j nobody lt (omega arith) in
    let ordered = ascend p.units (get_or (comments bytes) i nobody).before (get_or (comments bytes) j nobody).before order in
    omega (arith, at i (omega arith), at j (omega arith), ordered)
