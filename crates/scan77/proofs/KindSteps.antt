-- The steps that look at a statement's characters: what stands there is what is read.
use Rattle.std.proofs.Common.{◌≡◌, ◌⊎◌, inl, inr, ℕ, Bool, true, false, not, List, [], ◌∷◌, ◌++◌, codes, Some, refl, sym, ap, ◌∙◌, subst, append_assoc}
use Rattle.std.specs.Prelude.{◌==◌, if◌then◌else◌}
use Rattle.std.specs.Option.{option_map, option_and_then}
use Rattle.std.proofs.lemmas.Bool.{and_parts, and_from, or_cases, or_right, not-true, eqb-true, eqb-false, ne_eqb}
use Rattle.text_base.specs.Chars.{is_digit, is_name_byte}
use Rattle.tree77.specs.Kinds.{is_number, open_at_end, IsGroup, IsGroups, no_group, one_group, two_groups, IsComma, IsFormat, IsLoop, IsAssignment, IsLabelledWhile}
use Rattle.scan77.specs.KindReading.{behind_text, behind_name, behind_number, behind_comma, behind_group, has_comma, stands, passes, reads_format, behind_loop_label, reads_range, reads_loop, reads_equals, reads_past, reads_assignment, reads_while}
use Rattle.text_base.proofs.Optional.{went, mapped}
use Rattle.scan77.proofs.Standing.{passed, stood}
use Rattle.scan77.proofs.KindParts.{goes_on, behind_text_is, text_stands, Ends, BeginsWithLetter, letter_is_not, word_letter, letter_ends_digits, behind_name_is, name_stands, behind_number_is, number_stands, behind_group_is, GroupCut, group_stands, has_comma_is, comma_stands}

-- ---- FORMAT

pub format_reads : (label : ℕ) (text : List ℕ) → IsFormat label text → reads_format label text ≡ true
format_reads label text f =
    and_from (not (label == 0)) (stands (behind_text (codes "FORMAT(") text)) (ap not (ne_eqb label 0 f.labelled))
    (ap (λ x. stands (behind_text (codes "FORMAT(") x)) f.whole ∙ ap stands (behind_text_is (codes "FORMAT(") f.rest))

pub format_found : (label : ℕ) (text : List ℕ) → reads_format label text ≡ true → IsFormat label text
format_found label text e =
    let parts = and_parts (not (label == 0)) (stands (behind_text (codes "FORMAT(") text)) e in
    let s = stood (behind_text (codes "FORMAT(") text) parts.1 in
    record { labelled = eqb-false label 0 (not-true (label == 0) parts.0); rest = s.from; whole = text_stands (codes "FORMAT(") text s.from s.was }

-- ---- DO, digits and an optional comma

comma_ends_digits : (comma rest : List ℕ) → IsComma comma → BeginsWithLetter rest → Ends is_digit (comma ++ rest)
comma_ends_digits comma rest (inl e) letter = subst (λ x. Ends is_digit (x ++ rest)) (sym e) (letter_ends_digits rest letter)
comma_ends_digits comma rest (inr e) letter = subst (λ x. Ends is_digit (x ++ rest)) (sym e) refl

behind_comma_is : (comma rest : List ℕ) → IsComma comma → BeginsWithLetter rest → behind_comma (comma ++ rest) ≡ rest
behind_comma_is comma rest (inl e) letter = ap (λ x. behind_comma (x ++ rest)) e ∙ no_comma rest letter
  where
    no_comma : (rest : List ℕ) → BeginsWithLetter rest → behind_comma rest ≡ rest
    no_comma [] letter = refl
    no_comma (c ∷ rest) letter = ap (λ b. if b then rest else c ∷ rest) (letter_is_not c 44 letter refl)
behind_comma_is comma rest (inr e) letter = ap (λ x. behind_comma (x ++ rest)) e

record OptionalComma (text : List ℕ) : Type 0 where
  comma : List ℕ
  whole : text ≡ comma ++ behind_comma text
  is : IsComma comma

optional_comma_stands : (text : List ℕ) → OptionalComma text
optional_comma_stands [] = record { comma = []; whole = refl; is = inl refl }
optional_comma_stands (c ∷ text) = go (c == 44) refl
  where
    go : (b : Bool) → (c == 44) ≡ b → OptionalComma (c ∷ text)
    go true is = record { comma = 44 ∷ []; whole = ap (λ d. d ∷ text) (eqb-true c 44 is) ∙ ap (λ b. 44 ∷ (if b then text else c ∷ text)) (sym is); is = inr refl }
    go false is = record { comma = []; whole = ap (λ b. if b then text else c ∷ text) (sym is); is = inl refl }

loop_label_is : (label comma rest : List ℕ) → is_number label ≡ true → IsComma comma → BeginsWithLetter rest → behind_loop_label (codes "DO" ++ (label ++ (comma ++ rest))) ≡ Some rest
loop_label_is label comma rest numbered separated letter =
    ap (λ o. option_map behind_comma (option_and_then behind_number o)) (behind_text_is (codes "DO") (label ++ (comma ++ rest)))
    ∙ ap (option_map behind_comma) (behind_number_is label (comma ++ rest) numbered (comma_ends_digits comma rest separated letter))
    ∙ ap Some (behind_comma_is comma rest separated letter)

record LoopLabel (text rest : List ℕ) : Type 0 where
  label : List ℕ
  comma : List ℕ
  whole : text ≡ codes "DO" ++ (label ++ (comma ++ rest))
  numbered : is_number label ≡ true
  separated : IsComma comma

loop_label_stands : (text rest : List ℕ) → behind_loop_label text ≡ Some rest → LoopLabel text rest
loop_label_stands text rest e =
    let m = mapped (option_and_then behind_number (behind_text (codes "DO") text)) behind_comma rest e in
    let w = went (behind_text (codes "DO") text) behind_number m.from m.was in
    let number = number_stands w.from m.from w.is in
    let o = optional_comma_stands m.from in
    record {
      label = number.front;
      comma = o.comma;
      whole = goes_on (codes "DO") (text_stands (codes "DO") text w.from w.was) (goes_on number.front number.whole (goes_on o.comma o.whole m.is));
      numbered = number.passing;
      separated = o.is;
    }

-- ---- DO loops

pub loop_reads : (text : List ℕ) → IsLoop text → reads_loop text ≡ true
loop_reads text l =
    let range = 61 ∷ (l.before ++ 44 ∷ l.after) in
    ap reads_loop l.whole
    ∙ ap (λ o. passes (option_and_then behind_name o) reads_range) (loop_label_is l.label l.comma (l.variable ++ range) l.numbered l.separated (word_letter l.variable range l.named))
    ∙ ap (λ o. passes o reads_range) (behind_name_is l.variable range l.named refl)
    ∙ has_comma_is 0 l.before l.after l.outside

record RangeCut (text : List ℕ) : Type 0 where
  before : List ℕ
  after : List ℕ
  whole : text ≡ 61 ∷ (before ++ 44 ∷ after)
  outside : open_at_end 0 before ≡ 0

range_stands : (text : List ℕ) → reads_range text ≡ true → RangeCut text
range_stands [] e = absurd cc
range_stands (c ∷ text) e =
    let parts = and_parts (c == 61) (has_comma 0 text) e in
    let cut = comma_stands 0 text parts.1 in
    record { before = cut.before; after = cut.after; whole = (λ i. eqb-true c 61 parts.0 i ∷ cut.whole i); outside = cut.outside }

pub loop_found : (text : List ℕ) → reads_loop text ≡ true → IsLoop text
loop_found text e =
    let p = passed (option_and_then behind_name (behind_loop_label text)) reads_range e in
    let w = went (behind_loop_label text) behind_name p.from p.was in
    let l = loop_label_stands text w.from w.was in
    let name = name_stands w.from p.from w.is in
    let range = range_stands p.from p.is in
    record {
      label = l.label;
      comma = l.comma;
      variable = name.front;
      before = range.before;
      after = range.after;
      whole = l.whole ∙ ap (λ (x : List ℕ). codes "DO" ++ (l.label ++ (l.comma ++ x))) (goes_on name.front name.whole range.whole);
      numbered = l.numbered;
      separated = l.separated;
      named = name.passing;
      outside = range.outside;
    }

-- ---- assignments

group_past : (test : List ℕ → Bool) (group rest : List ℕ) → IsGroup group → test rest ≡ true → reads_past test (group ++ rest) ≡ true
group_past test group rest is e = or_right (reads_equals (group ++ rest)) (passes (behind_group (group ++ rest)) test) (ap (λ o. passes o test) (behind_group_is group rest is) ∙ e)

groups_past : (groups rest : List ℕ) → IsGroups groups → reads_past (reads_past reads_equals) (groups ++ 61 ∷ rest) ≡ true
groups_past groups rest (no_group e) = ap (λ x. reads_past (reads_past reads_equals) (x ++ 61 ∷ rest)) e
groups_past groups rest (one_group is) = group_past (reads_past reads_equals) groups (61 ∷ rest) is refl
groups_past groups rest (two_groups {first = first} {second = second} e is also) =
    ap (λ x. reads_past (reads_past reads_equals) (x ++ 61 ∷ rest)) e
    ∙ ap (reads_past (reads_past reads_equals)) (append_assoc first second (61 ∷ rest))
    ∙ group_past (reads_past reads_equals) first (second ++ 61 ∷ rest) is (group_past reads_equals second (61 ∷ rest) also refl)

group_ends_name : (group rest : List ℕ) → IsGroup group → Ends is_name_byte (group ++ rest)
group_ends_name group rest g = subst (λ x. Ends is_name_byte (x ++ rest)) (sym g.whole) refl

groups_end_name : (groups rest : List ℕ) → IsGroups groups → Ends is_name_byte (groups ++ 61 ∷ rest)
groups_end_name groups rest (no_group e) = subst (λ x. Ends is_name_byte (x ++ 61 ∷ rest)) (sym e) refl
groups_end_name groups rest (one_group is) = group_ends_name groups (61 ∷ rest) is
groups_end_name groups rest (two_groups {first = first} {second = second} e is also) =
    subst (Ends is_name_byte) (sym (ap (λ x. x ++ 61 ∷ rest) e ∙ append_assoc first second (61 ∷ rest))) (group_ends_name first (second ++ 61 ∷ rest) is)

pub assignment_reads : (text : List ℕ) → IsAssignment text → reads_assignment text ≡ true
assignment_reads text a =
    ap reads_assignment a.whole
    ∙ ap (λ o. passes o (reads_past (reads_past reads_equals))) (behind_name_is a.name (a.groups ++ 61 ∷ a.rest) a.named (groups_end_name a.groups a.rest a.grouped))
    ∙ groups_past a.groups a.rest a.grouped

record EqualsCut (Front : List ℕ → Type 0) (text : List ℕ) : Type 0 where
  front : List ℕ
  rest : List ℕ
  whole : text ≡ front ++ 61 ∷ rest
  is : Front front

equals_stands : (text : List ℕ) → reads_equals text ≡ true → EqualsCut (λ front. front ≡ []) text
equals_stands [] e = absurd cc
equals_stands (c ∷ text) e = record { front = []; rest = text; whole = ap (λ d. d ∷ text) (eqb-true c 61 e); is = refl }

-- a group, and what passes behind it
record Past (test : List ℕ → Bool) (text : List ℕ) : Type 0 where
  rest : List ℕ
  cut : GroupCut text rest
  passing : test rest ≡ true

past_stands : (test : List ℕ → Bool) (text : List ℕ) → reads_past test text ≡ true → EqualsCut (λ front. front ≡ []) text ⊎ Past test text
past_stands test text e = go (or_cases (reads_equals text) (passes (behind_group text) test) e)
  where
    go : (reads_equals text ≡ true) ⊎ (passes (behind_group text) test ≡ true) → EqualsCut (λ front. front ≡ []) text ⊎ Past test text
    go (inl e) = inl (equals_stands text e)
    go (inr e) = let p = passed (behind_group text) test e in inr (record { rest = p.from; cut = group_stands text p.from p.was; passing = p.is })

groups_stand : (text : List ℕ) → reads_past (reads_past reads_equals) text ≡ true → EqualsCut IsGroups text
groups_stand text e = first (past_stands (reads_past reads_equals) text e)
  where
    second : (p : Past (reads_past reads_equals) text) → EqualsCut (λ front. front ≡ []) p.rest ⊎ Past reads_equals p.rest → EqualsCut IsGroups text
    second p (inl q) = record { front = p.cut.group; rest = q.rest; whole = goes_on p.cut.group p.cut.whole (q.whole ∙ ap (λ (x : List ℕ). x ++ 61 ∷ q.rest) q.is); is = one_group p.cut.is }
    second p (inr q) =
        let last = equals_stands q.rest q.passing in
        record {
          front = p.cut.group ++ q.cut.group;
          rest = last.rest;
          whole = goes_on p.cut.group p.cut.whole (goes_on q.cut.group q.cut.whole (last.whole ∙ ap (λ (x : List ℕ). x ++ 61 ∷ last.rest) last.is))
              ∙ sym (append_assoc p.cut.group q.cut.group (61 ∷ last.rest));
          is = two_groups refl p.cut.is q.cut.is;
        }

    first : EqualsCut (λ front. front ≡ []) text ⊎ Past (reads_past reads_equals) text → EqualsCut IsGroups text
    first (inl q) = record { front = q.front; rest = q.rest; whole = q.whole; is = no_group q.is }
    first (inr p) = second p (past_stands reads_equals p.rest p.passing)

pub assignment_found : (text : List ℕ) → reads_assignment text ≡ true → IsAssignment text
assignment_found text e =
    let p = passed (behind_name text) (reads_past (reads_past reads_equals)) e in
    let name = name_stands text p.from p.was in
    let cut = groups_stand p.from p.is in
    record { name = name.front; groups = cut.front; rest = cut.rest; whole = goes_on name.front name.whole cut.whole; named = name.passing; grouped = cut.is }

-- ---- DO WHILE with a label

pub while_reads : (text : List ℕ) → IsLabelledWhile text → reads_while text ≡ true
while_reads text w =
    ap reads_while w.whole
    ∙ ap (λ o. stands (option_and_then (behind_text (codes "WHILE")) o)) (loop_label_is w.label w.comma (codes "WHILE" ++ w.rest) w.numbered w.separated refl)
    ∙ ap stands (behind_text_is (codes "WHILE") w.rest)

pub while_found : (text : List ℕ) → reads_while text ≡ true → IsLabelledWhile text
while_found text e =
    let s = stood (option_and_then (behind_text (codes "WHILE")) (behind_loop_label text)) e in
    let w = went (behind_loop_label text) (behind_text (codes "WHILE")) s.from s.was in
    let l = loop_label_stands text w.from w.was in
    record {
      label = l.label;
      comma = l.comma;
      rest = s.from;
      whole = l.whole ∙ ap (λ (x : List ℕ). codes "DO" ++ (l.label ++ (l.comma ++ x))) (text_stands (codes "WHILE") w.from s.from w.is);
      numbered = l.numbered;
      separated = l.separated;
    }
