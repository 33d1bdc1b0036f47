-- The texts of comments, and their order.
use Rattle.std.proofs.Common.{◌≡◌, ℕ, zero, suc, ◌+◌, ◌-◌, ◌==◌, Bool, true, false, not, ◌||◌, List, [], ◌∷◌, ◌++◌, length, take, drop, map, refl, sym, ap, ◌∙◌, append_assoc}
use Rattle.std.specs.Prelude.{All, if◌then◌else◌, flat_map, slice_index}
use Rattle.std.specs.List.{list_all}
use Rattle.std.proofs.lemmas.List.{map-append}
use Rattle.std.proofs.lemmas.List.Elements.{All-nil, All-cons, All-weaker}
use Rattle.std.proofs.lemmas.Bool.{and_parts, and_from, or_parts, not-false}
use Rattle.text_base.specs.Lines.{cut, without_return, lines, is_blank, is_marked, is_comment, is_initial}
use Rattle.text_base.specs.Cards.{Comment, comment_of, whole_before, comments_of, comments}
use Rattle.text_base.specs.Remarks.{Remark, is_writable_remark}
use Rattle.program77.specs.Tree.{SourceProgram}
use Rattle.tree90.specs.Tree as free
use Rattle.tree90.specs.Tree.{FreeUnit, FreeProgram}
use Rattle.project_set.specs.Rewrite.{remark_of}
use Rattle.project_set.specs.Positions.{Position, before_header, after_header, before_entry, at_end, Placed, position_of, source_positions, placed_at, code_positions, unit_positions, units_positions, written_positions}
use Rattle.definition_laws.specs.FileLines.{is_line}
use Rattle.definition_laws.specs.CommentPlaces.{code_remarks, unit_remarks, remarks_of, placed_remarks}
use Rattle.definition_laws.proofs.ColumnLemmas.{cut_is_plain}

abbrev pub comment_if : Bool → ℕ → List ℕ → Comment
comment_if b before l = if b then record { marked = true; text = drop 1 l; before = before } else record { marked = false; text = l; before = before }

-- ---- lines without LF

-- what has no LF has none in a part
plain_take : (n : ℕ) (l : List ℕ) → is_line l ≡ true → is_line (take n l) ≡ true
plain_take zero l e = refl
plain_take (suc n) [] e = refl
plain_take (suc n) (c ∷ l) e = let parts = and_parts (not (c == 10)) (is_line l) e in and_from (not (c == 10)) (is_line (take n l)) parts.0 (plain_take n l parts.1)

plain_drop : (l : List ℕ) → is_line l ≡ true → is_line (drop 1 l) ≡ true
plain_drop [] e = refl
plain_drop (c ∷ l) e = (and_parts (not (c == 10)) (is_line l) e).1

plain_line : (l : List ℕ) → is_line l ≡ true → is_line (without_return l) ≡ true
plain_line l e = go (slice_index l (length l - 1) == 13)
  where
    go : (b : Bool) → is_line (if b then take (length l - 1) l else l) ≡ true
    go true = plain_take (length l - 1) l e
    go false = e

plain_lines : (ls : List (List ℕ)) → list_all is_line ls ≡ true → list_all is_line (map without_return ls) ≡ true
plain_lines [] e = refl
plain_lines (l ∷ ls) e =
    let parts = and_parts (is_line l) (list_all is_line ls) e in
    and_from (is_line (without_return l)) (list_all is_line (map without_return ls)) (plain_line l parts.0) (plain_lines ls parts.1)

-- a comment that can be written
abbrev Fits : Comment → Type 0
Fits c = is_writable_remark (remark_of c) ≡ true

fits : (before : ℕ) (l : List ℕ) → is_line l ≡ true → Fits (comment_of before l)
fits before l e = go (is_marked l || not (is_blank l)) refl
  where
    go : (b : Bool) → (is_marked l || not (is_blank l)) ≡ b → Fits (comment_if b before l)
    go true is = and_from (is_line (drop 1 l)) true (plain_drop l e) refl
    go false is = and_from (is_line l) (is_blank l) e (not-false (is_blank l) (or_parts (is_marked l) (not (is_blank l)) is).1)

all_fit : (begun : ℕ) (ls : List (List ℕ)) → list_all is_line ls ≡ true → All Fits (comments_of begun ls)
all_fit begun [] e = All-nil Fits
all_fit begun (l ∷ ls) e =
    let parts = and_parts (is_line l) (list_all is_line ls) e in
    go (is_comment l) parts.0 (all_fit begun ls parts.1) (all_fit (if is_initial l then begun + 1 else begun) ls parts.1)
  where
    go : (b : Bool) → is_line l ≡ true → All Fits (comments_of begun ls) → All Fits (comments_of (if is_initial l then begun + 1 else begun) ls)
        → All Fits (if b then comment_of (whole_before begun ls) l ∷ comments_of begun ls else comments_of (if is_initial l then begun + 1 else begun) ls)
    go true plain same next = All-cons Fits (comment_of (whole_before begun ls) l) (comments_of begun ls) (fits (whole_before begun ls) l plain) same
    go false plain same next = next

pub comments_fit : (bytes : List ℕ) → All Fits (comments bytes)
comments_fit bytes = all_fit 0 (lines bytes) (plain_lines (cut bytes) (cut_is_plain bytes))

pub comments_plain : (bytes : List ℕ) → All (λ (c : Comment). is_line c.text ≡ true) (comments bytes)
comments_plain bytes =
    All-weaker Fits (λ (c : Comment). is_line c.text ≡ true) (λ c e. (and_parts (is_line c.text) (if c.marked then true else is_blank c.text) e).0) (comments bytes) (comments_fit bytes)

-- ---- order

source_all : (p : SourceProgram) (cs : List Comment) → placed_remarks (map (λ (c : Comment). record { remark = remark_of c; position = position_of 0 p.units c.before }) cs) ≡ map remark_of cs
source_all p [] = refl
source_all p (c ∷ cs) = ap (λ (rs : List Remark). remark_of c ∷ rs) (source_all p cs)

pub all_of_source : (bytes : List ℕ) (p : SourceProgram) → placed_remarks (source_positions bytes p) ≡ map remark_of (comments bytes)
all_of_source bytes p = source_all p (comments bytes)

both : (xs ys : List Placed) (rs ss : List Remark) → placed_remarks xs ≡ rs → placed_remarks ys ≡ ss → placed_remarks (xs ++ ys) ≡ rs ++ ss
both xs ys rs ss e f = map-append (λ (p : Placed). p.remark) xs ys ∙ ap (λ (ts : List Remark). ts ++ placed_remarks ys) e ∙ ap (λ (ts : List Remark). rs ++ ts) f

there : (position : Position) (rs : List Remark) → placed_remarks (placed_at position rs) ≡ rs
there position [] = refl
there position (r ∷ rs) = ap (λ (ss : List Remark). r ∷ ss) (there position rs)

in_code : (unit entry : ℕ) (code : free.Code) (tail : List Remark) → placed_remarks (code_positions unit entry code tail) ≡ code_remarks code ++ tail
in_code unit entry free.done tail = there (before_entry unit entry) tail
in_code unit entry (free.item remarks s rest) tail =
    both (placed_at (before_entry unit entry) remarks) (code_positions unit (entry + 1) rest tail) remarks (code_remarks rest ++ tail) (there (before_entry unit entry) remarks) (in_code unit (entry + 1) rest tail)
    ∙ sym (append_assoc remarks (code_remarks rest) tail)

in_unit : (unit : ℕ) (u : FreeUnit) → placed_remarks (unit_positions unit u) ≡ unit_remarks u
in_unit unit u =
    both (placed_at (before_header unit) u.head ++ placed_at (after_header unit) u.inner) (code_positions unit 0 u.code u.tail) (u.head ++ u.inner) (code_remarks u.code ++ u.tail)
    (both (placed_at (before_header unit) u.head) (placed_at (after_header unit) u.inner) u.head u.inner (there (before_header unit) u.head) (there (after_header unit) u.inner)) (in_code unit 0 u.code u.tail)

in_units : (unit : ℕ) (us : List FreeUnit) (tail : List Remark) → placed_remarks (units_positions unit us tail) ≡ flat_map unit_remarks us ++ tail
in_units unit [] tail = there at_end tail
in_units unit (u ∷ us) tail =
    both (unit_positions unit u) (units_positions (unit + 1) us tail) (unit_remarks u) (flat_map unit_remarks us ++ tail) (in_unit unit u) (in_units (unit + 1) us tail)
    ∙ sym (append_assoc (unit_remarks u) (flat_map unit_remarks us) tail)

pub all_of_written : (p : FreeProgram) → placed_remarks (written_positions p) ≡ remarks_of p
all_of_written p = in_units 0 p.units p.tail
