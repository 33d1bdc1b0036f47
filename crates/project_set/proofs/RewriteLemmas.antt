-- What is written for a list, from its last item to its first, and for a unit.
use Rattle.std.proofs.Common.{◌≡◌, ℕ, zero, suc, ◌+◌, List, [], ◌∷◌, ◌++◌, length, map, drop, reverse, refl, sym, ap, ◌∙◌, subst, arith, append_assoc}
use Rattle.std.proofs.Math.Seq.{drop-append_seam}
use Rattle.std.proofs.lemmas.List.{length_push, reverse-append}
use Rattle.text_base.specs.Cards.{Comment}
use Rattle.text_base.specs.Remarks.{Remark}
use Rattle.text_base.specs.declared.refusal.Place.{Place}
use Rattle.program77.specs.Plain as source
use Rattle.program77.specs.Tree as t
use Rattle.program77.specs.Typing.{variables}
use Rattle.unit77.specs.declared.tree.Item77.{Item77}
use Rattle.unit77.specs.declared.tree.Unit77.{Unit77}
use Rattle.unit77.specs.Views.{item_of, items_of}
use Rattle.tree90.specs.Tree.{simple, Declared, integer_object, FreeUnit, FreeProgram}
use Rattle.tree90.specs.Plain as free
use Rattle.tree90.specs.Plain.{CodeAndTail, with_item}
use Rattle.tree90.specs.declared.tree.Item90.{Item90}
use Rattle.tree90.specs.declared.tree.Stmt90.{Stmt90}
use Rattle.tree90.specs.declared.tree.Unit90.{Unit90}
use Rattle.project_set.specs.Comments.{groups_at, ArePlaced}
use Rattle.project_set.specs.Rewrite.{remark_of, comments_from, remarks_at, statements_of, with_tail, written_list, sizes_of, written}
use Rattle.project_set.specs.declared.comments.Comments.{Comments}
use Rattle.project_set.proofs.ItemLemmas.{first_of_items, first_label, first_place}
use Rattle.project_set.proofs.SizeLemmas.{items_count}

-- ---- one item

-- the statements of an item, and then a list with more comments behind it
body_tail : (remarks : List Remark) (ss : List Stmt90) (rest : List Remark → CodeAndTail) (tail : List Remark)
    → with_tail (free.body_of remarks ss rest) tail ≡ free.body_of remarks ss (λ left. with_tail (rest left) tail)
body_tail remarks [] rest tail = refl
body_tail remarks (s ∷ ss) rest tail = ap (λ l. with_item remarks (free.stmt_of s) l) (body_tail [] ss rest tail)

-- what is written for one statement with these comments before it, and for those after it
abbrev written_first : t.Stmt → List Remark → (List Remark → CodeAndTail) → CodeAndTail
written_first (t.simple a) remarks rest = with_item remarks (simple a) (rest [])
written_first t.continue remarks rest = rest remarks

-- before equal lists
written_same : (s : t.Stmt) (remarks : List Remark) (rest other : List Remark → CodeAndTail) → ((left : List Remark) → rest left ≡ other left) → written_first s remarks rest ≡ written_first s remarks other
written_same (t.simple a) remarks rest other same = ap (λ l. with_item remarks (simple a) l) (same [])
written_same t.continue remarks rest other same = same remarks

-- the first statement of a source list, and then the others
written_list-first : (cs : List Comment) (k : ℕ) (left : List Remark) (label : ℕ) (here : Place) (s : t.Stmt) (rest : t.Code)
    → written_list cs k left (t.item label here s rest) ≡ written_first s (left ++ remarks_at cs k) (λ l. written_list cs (k + 1) l rest)
written_list-first cs k left label here (t.simple a) rest = refl
written_list-first cs k left label here t.continue rest = refl

-- the statements of an item are what is written for its source
body_of-first : (ss : List Stmt90) (s : t.Stmt) (remarks : List Remark) (rest : List Remark → CodeAndTail)
    → map free.stmt_of ss ≡ statements_of s → free.body_of remarks ss rest ≡ written_first s remarks rest
body_of-first [] (t.simple a) remarks rest same = cc
body_of-first (x ∷ []) (t.simple a) remarks rest same = let is : free.stmt_of x ≡ simple a = cc in ap (λ y. with_item remarks y (rest [])) is
body_of-first (x ∷ (y ∷ ss)) (t.simple a) remarks rest same = cc
body_of-first [] t.continue remarks rest same = refl
body_of-first (x ∷ ss) t.continue remarks rest same = cc

-- the list that is made is what is written from the statement of this number on, before comments that no statement follows
abbrev pub IsWritten : List Comment → ℕ → List Item90 → List Remark → t.Code → Type 0
IsWritten cs k made tail code = (left : List Remark) → with_tail (free.listed_of left made) tail ≡ written_list cs k left code

-- one item before others
item_before : (cs : List Comment) (k : ℕ) (x : Item77) (y : Item90) (made : List Item90) (tail : List Remark) (behind : List Item77)
    → y.comments ≡ remarks_at cs k → map free.stmt_of y.body ≡ statements_of (source.first_stmt (item_of x))
    → IsWritten cs (k + 1) made tail (source.code_of (items_of behind)) → IsWritten cs k (y ∷ made) tail (source.code_of (items_of (x ∷ behind)))
item_before cs k x y made tail behind comments body others left =
    let remarks = left ++ remarks_at cs k in
    let s = source.first_stmt (item_of x) in
    let code = source.code_of (items_of behind) in
    body_tail (left ++ y.comments) y.body (λ l. free.listed_of l made) tail
    ∙ ap (λ r. free.body_of (left ++ r) y.body (λ l. with_tail (free.listed_of l made) tail)) comments
    ∙ body_of-first y.body s remarks (λ l. with_tail (free.listed_of l made) tail) body
    ∙ written_same s remarks (λ l. with_tail (free.listed_of l made) tail) (λ l. written_list cs (k + 1) l code) others
    ∙ sym (written_list-first cs k left (first_label x) (first_place x) s code)
    ∙ ap (written_list cs k left) (sym (first_of_items x behind))

-- ---- the loop

-- the comments before one statement more
groups_more : (cs : List Comment) (k n : ℕ) → groups_at cs k (n + 1) ≡ groups_at cs k n ++ remarks_at cs (k + n) ∷ []
groups_more cs k zero = let e : k + 0 ≡ k = omega arith in ap (λ j. remarks_at cs j ∷ []) (sym e)
groups_more cs k (suc n) =
    let e : suc n + 1 ≡ suc (n + 1) = omega arith in
    let f : k + 1 + n ≡ k + suc n = omega arith in
    ap (groups_at cs k) e
    ∙ ap (λ l. remarks_at cs k ∷ l) (groups_more cs (k + 1) n ∙ ap (λ j. groups_at cs (k + 1) n ++ remarks_at cs j ∷ []) f)

-- the last comments are those before the last statement
pub groups_last : (cs : List Comment) (k n : ℕ) (groups front : List (List Remark)) (last : List Remark)
    → groups ≡ front ++ last ∷ [] → groups ≡ groups_at cs k (n + 1) → (front ≡ groups_at cs k n) × (last ≡ remarks_at cs (k + n))
groups_last cs k n groups front last parted is =
    same_parts front (groups_at cs k n) last (remarks_at cs (k + n)) (sym parted ∙ is ∙ groups_more cs k n)
  where
    same_parts : (xs ys : List (List Remark)) (x y : List Remark) → xs ++ x ∷ [] ≡ ys ++ y ∷ [] → (xs ≡ ys) × (x ≡ y)
    same_parts [] [] x y e = (refl, cc)
    same_parts [] (b ∷ []) x y e = absurd cc
    same_parts [] (b ∷ (c ∷ ys)) x y e = absurd cc
    same_parts (a ∷ []) [] x y e = absurd cc
    same_parts (a ∷ (c ∷ xs)) [] x y e = absurd cc
    same_parts (a ∷ xs) (b ∷ ys) x y e =
        let first : a ≡ b = cc in
        let rest : xs ++ x ∷ [] ≡ ys ++ y ∷ [] = cc in
        let more = same_parts xs ys x y rest in
        ((λ i. first i ∷ more.0 i), more.1)

-- what is behind the items that are left, once the last of them is taken
items_behind : (all old new : List Item77) (x : Item77) → old ≡ new ++ x ∷ [] → old ++ drop (length old) all ≡ all → drop (length new) all ≡ x ∷ drop (length old) all
items_behind all old new x parted whole =
    let behind = drop (length old) all in
    let split : all ≡ new ++ x ∷ behind = sym whole ∙ ap (λ l. l ++ behind) parted ∙ append_assoc new (x ∷ []) behind in
    ap (drop (length new)) split ∙ drop-append_seam new (x ∷ behind)

-- they stand before what is behind them
pub items_all : (all old new : List Item77) (x : Item77) → old ≡ new ++ x ∷ [] → old ++ drop (length old) all ≡ all → new ++ drop (length new) all ≡ all
items_all all old new x parted whole =
    ap (λ l. new ++ l) (items_behind all old new x parted whole)
    ∙ sym (append_assoc new (x ∷ []) (drop (length old) all))
    ∙ ap (λ l. l ++ drop (length old) all) (sym parted)
    ∙ whole

-- one item more is made
pub made_more : (cs : List Comment) (k : ℕ) (all old new : List Item77) (x : Item77) (made grown : List Item90) (y : Item90) (tail : List Remark)
    → old ≡ new ++ x ∷ [] → old ++ drop (length old) all ≡ all → grown ≡ made ++ y ∷ []
    → y.comments ≡ remarks_at cs (k + length new) → map free.stmt_of y.body ≡ statements_of (source.first_stmt (item_of x))
    → IsWritten cs (k + length old) (reverse made) tail (source.code_of (items_of (drop (length old) all)))
    → IsWritten cs (k + length new) (reverse grown) tail (source.code_of (items_of (drop (length new) all)))
made_more cs k all old new x made grown y tail parted whole pushed comments body others left =
    let next : k + length old ≡ k + length new + 1 = let e = ap length parted in let f = length_push new x in omega (arith, e, f) in
    let behind = drop (length old) all in
    ap (λ l. with_tail (free.listed_of left (reverse l)) tail) pushed
    ∙ ap (λ l. with_tail (free.listed_of left l) tail) (reverse-append made (y ∷ []))
    ∙ item_before cs (k + length new) x y (reverse made) tail behind comments body (subst (λ j. IsWritten cs j (reverse made) tail (source.code_of (items_of behind))) next others) left
    ∙ ap (λ l. written_list cs (k + length new) left (source.code_of (items_of l))) (sym (items_behind all old new x parted whole))

-- ---- a program of one unit

-- a written unit from its parts
abbrev free_with : List Remark → List ℕ → List Remark → List Declared → CodeAndTail → FreeUnit
free_with head name inner declared listed = record { head = head; name = name; inner = inner; declared = declared; code = listed.0; tail = listed.1 }

-- a program of one unit from its parts
abbrev one_free : FreeUnit → List Remark → FreeProgram
one_free unit tail = record { units = unit ∷ []; tail = tail }

-- what is made of a unit and its comments is what is written for its program
pub program_made : (cs : List Comment) (u : Unit77) (names : List (List ℕ)) (placed : Comments) (front : List (List Remark)) (tail : List Remark) (made : Unit90)
    → length placed.before ≡ length u.items + 1 → names ≡ variables (source.source_of u) → placed.before ≡ front ++ tail ∷ []
    → made.name ≡ (source.source_of u).name → made.head ≡ placed.head → made.inner ≡ placed.inner → made.tail ≡ tail → map free.declared_of made.declared ≡ map integer_object names
    → ((ds : List Comment) (k : ℕ) → front ≡ groups_at ds k (length u.items) → with_tail (free.listed_of [] made.items) (remarks_at ds (k + length u.items)) ≡ written_list ds k [] (source.code_of (items_of u.items)))
    → ArePlaced cs (length placed.before) placed
    → one_free (free.unit_of made) placed.tail ≡ written cs (record { units = source.source_of u ∷ [] })
program_made cs u names placed front tail made counted named parted name head inner end declared listed at =
    let ds = comments_from cs 2 in
    let n = length u.items in
    let groups : placed.before ≡ groups_at ds 1 (n + 1) = at.before ∙ ap (groups_at ds 1) counted in
    let split = groups_last ds 1 n placed.before front tail parted groups in
    let list : with_tail (free.listed_of [] made.items) made.tail ≡ written_list ds 1 [] (source.code_of (items_of u.items)) =
    ap (with_tail (free.listed_of [] made.items)) (end ∙ split.1) ∙ listed ds 1 split.0 in
    let size : length placed.before + 1 ≡ sizes_of (source.source_of u ∷ []) = let same = items_count u.items in omega (arith, counted, same) in
    let whole = written_list ds 1 [] (source.code_of (items_of u.items)) in
    let last : List Remark = map remark_of (comments_from cs (sizes_of (source.source_of u ∷ []))) in
    ap (λ l. one_free (free_with made.head made.name made.inner (map free.declared_of made.declared) l) placed.tail) list
    ∙ ap (λ l. one_free (free_with l made.name made.inner (map free.declared_of made.declared) whole) placed.tail) (head ∙ at.head)
    ∙ ap (λ l. one_free (free_with (remarks_at cs 0) l made.inner (map free.declared_of made.declared) whole) placed.tail) name
    ∙ ap (λ l. one_free (free_with (remarks_at cs 0) (source.source_of u).name l (map free.declared_of made.declared) whole) placed.tail) (inner ∙ at.inner)
    ∙ ap (λ l. one_free (free_with (remarks_at cs 0) (source.source_of u).name (remarks_at cs 1) l whole) placed.tail) (declared ∙ ap (map integer_object) named)
    ∙ ap (λ l. one_free (free_with (remarks_at cs 0) (source.source_of u).name (remarks_at cs 1) (map integer_object (variables (source.source_of u))) whole) l)
    (at.tail ∙ ap (λ j. map remark_of (comments_from cs j)) size)
