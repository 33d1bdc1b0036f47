-- The comments of a file can be written, and each is a short line.
use Rattle.std.proofs.Common.{◌≡◌, ℕ, ◌+◌, ◌-◌, ◌==◌, Bool, true, false, cond, not, ◌&&◌, ◌||◌, List, [], ◌∷◌, ◌++◌, length, take, drop, map, Option, Some, None, refl, ap, ◌∙◌, arith}
use Rattle.std.specs.Prelude.{nat_le, nat_lt, decimal, slice_index, if◌then◌else◌}
use Rattle.std.specs.List.{list_all}
use Rattle.std.specs.Option.{option_or}
use Rattle.std.proofs.lemmas.Bool.{leb-true, and_from, and_parts}
use Rattle.std.proofs.lemmas.List.Folds.{list_all-map, list_all-append}
use Rattle.text_base.specs.Lines.{with_first, cut, without_return, lines, is_blank, is_marked, is_comment, is_initial}
use Rattle.text_base.specs.Cards.{Comment, comment_of, whole_before, comments_of, comments}
use Rattle.text_base.specs.LineRefusals.{Fault, Begun, long_fault, initial_fault, continuation_fault, line_fault, begun_after, refused_at, line_refusals, card_refusals}
use Rattle.text_base.specs.declared.refusal.Cause.TheVariants.{LineTooLong}
use Rattle.text_base.specs.Remarks.{Remark, remark_text, remarks_text, is_writable_remark, are_writable_remarks}
use Rattle.project_set.specs.Rewrite.{remark_of, comments_at, comments_from, remarks_at}
use Rattle.project_set.proofs.Names.{all_filtered}
use Rattle.project_set.proofs.Seen.{all_implied, all_taken}
use Rattle.project_set.proofs.RefusalLemmas.{lines_accepted}
use Rattle.project_set.proofs.ShortPieces.{is_short, has_no_feed, IsShortLines, short_nothing, short_append, short_line}

-- ---- remarks

-- a comment that can be written, and whose line is short
abbrev pub is_short_remark : Remark → Bool
is_short_remark r = is_short (if r.marked then 33 ∷ r.text else r.text) && is_writable_remark r

-- such comments alone
abbrev pub are_short_remarks : List Remark → Bool
are_short_remarks = list_all is_short_remark

-- short comments can be written
pub are_writable : (rs : List Remark) → are_short_remarks rs ≡ true → are_writable_remarks rs ≡ true
are_writable rs e = all_implied is_short_remark is_writable_remark (λ r h. (and_parts (is_short (if r.marked then 33 ∷ r.text else r.text)) (is_writable_remark r) h).1) rs e

-- comments after comments
pub remarks_append : (rs qs : List Remark) → are_short_remarks rs ≡ true → are_short_remarks qs ≡ true → are_short_remarks (rs ++ qs) ≡ true
remarks_append rs qs e f = list_all-append is_short_remark rs qs ∙ and_from (are_short_remarks rs) (are_short_remarks qs) e f

-- a short comment is one short line
remark_is_short : (r : Remark) → is_short_remark r ≡ true → IsShortLines (remark_text r)
remark_is_short r e =
    let b = and_parts (is_short (if r.marked then 33 ∷ r.text else r.text)) (is_writable_remark r) e in
    go r.marked b.0 (and_parts (has_no_feed r.text) (if r.marked then true else is_blank r.text) b.1).0
  where
    go : (marked : Bool) → is_short (if marked then 33 ∷ r.text else r.text) ≡ true → has_no_feed r.text ≡ true → IsShortLines ((if marked then 33 ∷ r.text else r.text) ++ 10 ∷ [])
    go true few none = short_line (33 ∷ r.text) none (leb-true _ _ few)
    go false few none = short_line r.text none (leb-true _ _ few)

-- short comments are short lines
pub remarks_are_short : (rs : List Remark) → are_short_remarks rs ≡ true → IsShortLines (remarks_text rs)
remarks_are_short [] e = short_nothing
remarks_are_short (r ∷ rs) e =
    let b = and_parts (is_short_remark r) (are_short_remarks rs) e in
    short_append (remark_is_short r b.0) (remarks_are_short rs b.1)

-- ---- comments of a file

-- a comment of a file that is short
abbrev pub is_short_comment : Comment → Bool
is_short_comment c = is_short_remark (remark_of c)

-- such comments of a file alone
abbrev pub are_short_comments : List Comment → Bool
are_short_comments = list_all is_short_comment

-- short comments are written as short ones
pub remarks_of_comments : (cs : List Comment) → are_short_comments cs ≡ true → are_short_remarks (map remark_of cs) ≡ true
remarks_of_comments cs e = list_all-map is_short_remark remark_of cs ∙ e

-- the comments that so many statements stand before are short where all are
pub remarks_at_are_short : (cs : List Comment) (k : ℕ) → are_short_comments cs ≡ true → are_short_remarks (remarks_at cs k) ≡ true
remarks_at_are_short cs k e = remarks_of_comments (comments_at cs k) (all_filtered (λ (c : Comment). c.before == k) is_short_comment cs e)

-- the comments that so many statements or more stand before are short where all are
pub comments_from_are_short : (cs : List Comment) (k : ℕ) → are_short_comments cs ≡ true → are_short_comments (comments_from cs k) ≡ true
comments_from_are_short cs k e = all_filtered (λ (c : Comment). nat_le k c.before) is_short_comment cs e

-- ---- lines of a file

-- a byte that is no LF before the first of some lines
first_has_no_feed : (c : ℕ) (ls : List (List ℕ)) → not (c == 10) ≡ true → list_all has_no_feed ls ≡ true → list_all has_no_feed (with_first c ls) ≡ true
first_has_no_feed c [] e f = and_from (not (c == 10) && true) true (and_from (not (c == 10)) true e refl) refl
first_has_no_feed c (l ∷ ls) e f =
    let b = and_parts (has_no_feed l) (list_all has_no_feed ls) f in
    and_from (not (c == 10) && has_no_feed l) (list_all has_no_feed ls) (and_from (not (c == 10)) (has_no_feed l) e b.0) b.1

-- lines that were cut have no LF
cut_has_no_feed : (bytes : List ℕ) → list_all has_no_feed (cut bytes) ≡ true
cut_has_no_feed [] = refl
cut_has_no_feed (c ∷ t) = go (c == 10) refl (cut_has_no_feed t)
  where
    go : (b : Bool) → (c == 10) ≡ b → list_all has_no_feed (cut t) ≡ true → list_all has_no_feed (if b then [] ∷ cut t else with_first c (cut t)) ≡ true
    go true is rest = rest
    go false is rest = first_has_no_feed c (cut t) (ap not is) rest

-- a line without its CR has no LF
return_has_no_feed : (l : List ℕ) → has_no_feed l ≡ true → has_no_feed (without_return l) ≡ true
return_has_no_feed l e = go (slice_index l (length l - 1) == 13)
  where
    go : (b : Bool) → has_no_feed (if b then take (length l - 1) l else l) ≡ true
    go true = all_taken (λ c. not (c == 10)) (length l - 1) l e
    go false = e

-- the lines of a file have no LF
lines_have_no_feed : (bytes : List ℕ) → list_all has_no_feed (lines bytes) ≡ true
lines_have_no_feed bytes =
    list_all-map has_no_feed without_return (cut bytes)
    ∙ all_implied has_no_feed (λ l. has_no_feed (without_return l)) return_has_no_feed (cut bytes) (cut_has_no_feed bytes)

-- what stands behind the first character of a line, as the text of a comment
marked_is_short : (before : ℕ) (l : List ℕ) → is_short l ≡ true → has_no_feed l ≡ true → is_short_comment (record { marked = true; text = drop 1 l; before = before }) ≡ true
marked_is_short before [] few none = refl
marked_is_short before (c ∷ l) few none =
    and_from (is_short (33 ∷ l)) (has_no_feed l && true) few (and_from (has_no_feed l) true (and_parts (not (c == 10)) (has_no_feed l) none).1 refl)

-- the comment of a line
comment_is_short : (before : ℕ) (l : List ℕ) → is_short l ≡ true → has_no_feed l ≡ true → is_short_comment (comment_of before l) ≡ true
comment_is_short before l few none = go (is_marked l) (is_blank l) refl
  where
    go : (marked blank : Bool) → is_blank l ≡ blank
        → is_short_comment (if marked || not blank then record { marked = true; text = drop 1 l; before = before } else record { marked = false; text = l; before = before }) ≡ true
    go true blank is = marked_is_short before l few none
    go false false is = marked_is_short before l few none
    go false true is = and_from (is_short l) (has_no_feed l && is_blank l) few (and_from (has_no_feed l) (is_blank l) none is)

-- the comments of short lines are short
comments_of_are_short : (begun : ℕ) (ls : List (List ℕ)) → list_all is_short ls ≡ true → list_all has_no_feed ls ≡ true → are_short_comments (comments_of begun ls) ≡ true
comments_of_are_short begun [] few none = refl
comments_of_are_short begun (l ∷ ls) few none =
    let f = and_parts (is_short l) (list_all is_short ls) few in
    let n = and_parts (has_no_feed l) (list_all has_no_feed ls) none in
    go (is_comment l) (is_initial l) (comment_is_short (whole_before begun ls) l f.0 n.0) (λ m. comments_of_are_short m ls f.1 n.1)
  where
    go : (comment initial : Bool) → is_short_comment (comment_of (whole_before begun ls) l) ≡ true → ((m : ℕ) → are_short_comments (comments_of m ls) ≡ true)
        → are_short_comments (if comment then comment_of (whole_before begun ls) l ∷ comments_of begun ls else comments_of (if initial then begun + 1 else begun) ls) ≡ true
    go true initial here rest = and_from (is_short_comment (comment_of (whole_before begun ls) l)) (are_short_comments (comments_of begun ls)) here (rest begun)
    go false true here rest = rest (begun + 1)
    go false false here rest = rest begun

-- ---- lines that are accepted

-- a line that isn't too long is short
not_long : (l : List ℕ) → long_fault l ≡ None → is_short l ≡ true
not_long l e = go (nat_lt 132 (length l)) refl e
  where
    go : (b : Bool) → nat_lt 132 (length l) ≡ b → cond {A = Option Fault} b (Some (LineTooLong, decimal (length l))) None ≡ None → is_short l ≡ true
    go true is e = absurd cc
    go false is e = grind (arith, is)

-- where neither of two is found, the first isn't
first_none : (a b : Option Fault) → option_or a b ≡ None → a ≡ None
first_none None b e = refl
first_none (Some fault) b e = absurd cc

-- a line that isn't refused is short
line_is_short : (b : Option Begun) (l : List ℕ) → line_fault b l ≡ None → is_short l ≡ true
line_is_short b l e = not_long l (go (is_comment l) (is_initial l) e)
  where
    go : (comment initial : Bool) → (if comment then long_fault l else (if initial then initial_fault l else continuation_fault b l)) ≡ None → long_fault l ≡ None
    go true initial e = e
    go false true e = first_none (long_fault l) _ e
    go false false e = first_none (long_fault l) _ e

-- lines of which none is refused are short
lines_are_short : (number : ℕ) (b : Option Begun) (ls : List (List ℕ)) → line_refusals 0 number b ls ≡ [] → list_all is_short ls ≡ true
lines_are_short number b [] e = refl
lines_are_short number b (l ∷ ls) e = go (line_fault b l) refl e (λ f. lines_are_short (number + 1) (begun_after b l) ls f)
  where
    go : (fault : Option Fault) → line_fault b l ≡ fault → refused_at 0 number fault ++ line_refusals 0 (number + 1) (begun_after b l) ls ≡ []
        → (line_refusals 0 (number + 1) (begun_after b l) ls ≡ [] → list_all is_short ls ≡ true) → list_all is_short (l ∷ ls) ≡ true
    go None is e rest = and_from (is_short l) (list_all is_short ls) (line_is_short b l is) (rest e)
    go (Some fault) is e rest = absurd cc

-- the comments of a file whose lines are accepted are short
pub comments_are_short : (bytes : List ℕ) → card_refusals 0 bytes ≡ [] → are_short_comments (comments bytes) ≡ true
comments_are_short bytes e = comments_of_are_short 0 (lines bytes) (lines_are_short 1 None (lines bytes) (lines_accepted bytes e).1) (lines_have_no_feed bytes)
