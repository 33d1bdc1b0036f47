-- The text of a unit: its items in order, and what stands around them.
use Rattle.std.proofs.Common.{◌≡◌, ℕ, List, [], ◌∷◌, ◌++◌, map, flat_map, codes, refl, sym, ap, ◌∙◌, append_assoc}
use Rattle.std.proofs.lemmas.List.{append-nil}
use Rattle.std.proofs.lemmas.Grind.{flat_map-append}
use Rattle.text_base.specs.Remarks.{Remark, remark_text, remarks_text}
use Rattle.tree90.specs.declared.tree.Stmt90.{Stmt90}
use Rattle.tree90.specs.declared.tree.Item90.{Item90}
use Rattle.tree90.specs.declared.tree.Declared90.{Declared90}
use Rattle.tree90.specs.declared.tree.Unit90.{Unit90}
use Rattle.tree90.specs.declared.tree.Type90.{Type90}
use Rattle.tree90.specs.declared.tree.Type90.TheVariants.{Integer}
use Rattle.tree90.specs.Plain.{CodeAndTail, stmt_of, body_of, listed_of, object_of, declared_of, unit_of}
use Rattle.tree90.specs.Printed.{line, stmt_text, code_text, declared_text, unit_text}
use Rattle.free_printer.specs.Statement.{item_text}

-- the declaration of an object of either type
pub object_text : (kind : Type90) (x : List ℕ) → declared_text (object_of kind x) ≡ line 1 (codes "INTEGER :: " ++ x)
object_text Integer x = refl

-- the text of a list, and then of the comments that no statement of it follows
abbrev listed_text : ℕ → CodeAndTail → List ℕ
listed_text level l = code_text level l.0 ++ remarks_text l.1

-- the statements of an item with the comments before them, and then the items that follow
body_text : (level : ℕ) (remarks : List Remark) (ss : List Stmt90) (rest : List Remark → CodeAndTail) (last : List ℕ)
    → ((left : List Remark) → listed_text level (rest left) ≡ remarks_text left ++ last)
    → listed_text level (body_of remarks ss rest) ≡ remarks_text remarks ++ (flat_map (stmt_text level) (map stmt_of ss) ++ last)
body_text level remarks [] rest last follows = follows remarks
body_text level remarks (s ∷ ss) rest last follows =
    let after = body_of [] ss rest in
    append_assoc (remarks_text remarks ++ stmt_text level (stmt_of s)) (code_text level after.0) (remarks_text after.1)
    ∙ ap (λ l. (remarks_text remarks ++ stmt_text level (stmt_of s)) ++ l) (body_text level [] ss rest last follows)
    ∙ append_assoc (remarks_text remarks) (stmt_text level (stmt_of s)) (flat_map (stmt_text level) (map stmt_of ss) ++ last)
    ∙ ap (λ l. remarks_text remarks ++ l) (sym (append_assoc (stmt_text level (stmt_of s)) (flat_map (stmt_text level) (map stmt_of ss)) last))

-- the text of a list is that of its items in order
items_text : (level : ℕ) (left : List Remark) (is : List Item90)
    → listed_text level (listed_of left is) ≡ remarks_text left ++ flat_map (item_text level) is
items_text level left [] = sym (append-nil (remarks_text left))
items_text level left (i ∷ is) =
    let own = remarks_text i.comments in
    let stmts = flat_map (stmt_text level) (map stmt_of i.body) in
    let last = flat_map (item_text level) is in
    body_text level (left ++ i.comments) i.body (λ l. listed_of l is) last (λ l. items_text level l is)
    ∙ ap (λ l. l ++ (stmts ++ last)) (flat_map-append remark_text left i.comments)
    ∙ append_assoc (remarks_text left) own (stmts ++ last)
    ∙ ap (λ l. remarks_text left ++ l) (sym (append_assoc own stmts last))

-- the text of a unit's statements, and of the comments before its END
tail_text : (level : ℕ) (is : List Item90) (tail : List Remark)
    → code_text level (listed_of [] is).0 ++ remarks_text ((listed_of [] is).1 ++ tail) ≡ flat_map (item_text level) is ++ remarks_text tail
tail_text level is tail =
    let listed = listed_of [] is in
    ap (λ l. code_text level listed.0 ++ l) (flat_map-append remark_text listed.1 tail)
    ∙ sym (append_assoc (code_text level listed.0) (remarks_text listed.1) (remarks_text tail))
    ∙ ap (λ l. l ++ remarks_text tail) (items_text level [] is)

-- the parts of a unit's text after what stands before it
unit_groups : (start header declared code tail last : List ℕ)
    → (((start ++ header) ++ declared) ++ code) ++ (tail ++ last) ≡ start ++ (header ++ declared ++ (code ++ tail) ++ last)
unit_groups start header declared code tail last = simp append_assoc

-- the same with the code and the comments after it apart
unit_apart : (header code tail last : List ℕ) → header ++ (code ++ tail) ++ last ≡ header ++ code ++ tail ++ last
unit_apart header code tail last = simp append_assoc

-- the header of a unit with the comments round it, and the fixed lines
abbrev header_text : Unit90 → List ℕ
header_text u = remarks_text u.head ++ line 0 (codes "PROGRAM " ++ u.name) ++ remarks_text u.inner ++ line 1 (codes "IMPLICIT NONE") ++ line 1 (codes "SAVE")

-- the comments that stand before END alone, and the END line
abbrev end_text : Unit90 → List ℕ
end_text u = remarks_text u.tail ++ line 0 (codes "END PROGRAM " ++ u.name)

-- the text so far with the comments that stand before END alone, and then with the END line
pub end_text-more : (start out given : List ℕ) (u : Unit90) (name : List ℕ)
    → given ≡ remarks_text u.tail → name ≡ u.name → out ≡ start ++ given
    → out ++ line 0 (codes "END PROGRAM " ++ name) ≡ start ++ end_text u
end_text-more start out given u name same is_name before =
    ap (λ l. l ++ line 0 (codes "END PROGRAM " ++ name)) before
    ∙ ap (λ (l : List ℕ). (start ++ l) ++ line 0 (codes "END PROGRAM " ++ name)) same
    ∙ ap (λ (l : List ℕ). (start ++ remarks_text u.tail) ++ line 0 (codes "END PROGRAM " ++ l)) is_name
    ∙ append_assoc start (remarks_text u.tail) (line 0 (codes "END PROGRAM " ++ u.name))

-- the text so far, with the parts of a unit one after another
pub unit_text-more : (start one two three : List ℕ) (u : Unit90) (declared : List Declared90) (items : List Item90)
    → one ≡ start ++ header_text u → declared ≡ u.declared → two ≡ one ++ flat_map declared_text (map declared_of declared)
    → items ≡ u.items → three ≡ two ++ flat_map (item_text 1) items
    → three ++ end_text u ≡ start ++ unit_text (unit_of u)
unit_text-more start one two three u declared items header same declarations is_items code =
    let lines = flat_map declared_text (map declared_of u.declared) in
    let own = flat_map (item_text 1) u.items in
    let listed = listed_of [] u.items in
    let tail = listed.1 ++ u.tail in
    let last = line 0 (codes "END PROGRAM " ++ u.name) in
    ap (λ l. l ++ end_text u) code
    ∙ ap (λ l. (two ++ flat_map (item_text 1) l) ++ end_text u) is_items
    ∙ ap (λ l. (l ++ own) ++ end_text u) declarations
    ∙ ap (λ l. ((one ++ flat_map declared_text (map declared_of l)) ++ own) ++ end_text u) same
    ∙ ap (λ l. ((l ++ lines) ++ own) ++ end_text u) header
    ∙ unit_groups start (header_text u) lines own (remarks_text u.tail) last
    ∙ ap (λ l. start ++ (header_text u ++ lines ++ l ++ last)) (sym (tail_text 1 u.items u.tail))
    ∙ ap (λ l. start ++ l) (unit_apart (header_text u ++ lines) (code_text 1 listed.0) (remarks_text tail) last)
