-- The step that looks for a FUNCTION statement that begins with a type: what stands there is what is read.
use Rattle.std.proofs.Common.{◌≡◌, ◌⊎◌, inl, inr, ℕ, Bool, true, false, ◌&&◌, List, [], ◌∷◌, ◌++◌, codes, Option, Some, None, refl, sym, ap, ◌∙◌, subst, append_assoc}
use Rattle.std.specs.Prelude.{◌==◌, if◌then◌else◌}
use Rattle.std.specs.List.{list_all}
use Rattle.std.specs.Option.{option_map, option_and_then, option_or}
use Rattle.std.specs.Str.{bytes_eq}
use Rattle.std.proofs.lemmas.Bool.{and_parts, and_from, or_left, or_right, eqb-true, ne_eqb}
use Rattle.std.proofs.lemmas.Slice.Eq.{bytes_eq-Decides}
use Rattle.std.proofs.lemmas.List.{append-nil}
use Rattle.std.proofs.lemmas.List.Folds.{list_all-append}
use Rattle.text_base.specs.Chars.{is_upper, is_digit, is_name_byte}
use Rattle.tree77.specs.Kinds.{is_word, is_number, IsLength, no_length, digit_length, group_length, IsNames, one_name, more_names, accepted_types, refused_types, is_among, IsTypedFunction, IsLabelledWhile}
use Rattle.scan77.specs.KindReading.{behind_text, behind_name, behind_number, behind_group, passes, behind_type, behind_length, is_end, reads_names, reads_dummies, reads_dummy_list, reads_header, header_type, function_type}
use Rattle.text_base.proofs.Optional.{went, mapped, either}
use Rattle.scan77.proofs.Standing.{passed}
use Rattle.scan77.proofs.KindParts.{goes_on, behind_text_is, text_stands, BeginsWithLetter, letter_is_not, word_letter, letter_ends_digits, behind_name_is, name_stands, behind_number_is, number_stands, behind_group_is, group_stands}
use Rattle.scan77.proofs.KindWords.{among_first}

-- ---- the type

-- what stands where one of some types does, and what is behind it, is what is read
abbrev pub AreApart : List (List ℕ) → Type 0
AreApart types = (type rest : List ℕ) → is_among types type ≡ true → behind_type types (type ++ rest) ≡ Some (type, rest)

three_apart : (a b c : List ℕ) → ((rest : List ℕ) → behind_type (a ∷ b ∷ c ∷ []) (a ++ rest) ≡ Some (a, rest)) → ((rest : List ℕ) → behind_type (a ∷ b ∷ c ∷ []) (b ++ rest) ≡ Some (b, rest))
    → ((rest : List ℕ) → behind_type (a ∷ b ∷ c ∷ []) (c ++ rest) ≡ Some (c, rest)) → AreApart (a ∷ b ∷ c ∷ [])
three_apart a b c first second third type rest e = one (among_first a (b ∷ c ∷ []) type e)
  where
    found : (word : List ℕ) → behind_type (a ∷ b ∷ c ∷ []) (word ++ rest) ≡ Some (word, rest) → type ≡ word → behind_type (a ∷ b ∷ c ∷ []) (type ++ rest) ≡ Some (type, rest)
    found word stands is = subst (λ x. behind_type (a ∷ b ∷ c ∷ []) (x ++ rest) ≡ Some (x, rest)) (sym is) stands

    three : (type ≡ c) ⊎ (is_among [] type ≡ true) → behind_type (a ∷ b ∷ c ∷ []) (type ++ rest) ≡ Some (type, rest)
    three (inl is) = found c (third rest) is
    three (inr e) = absurd cc

    two : (type ≡ b) ⊎ (is_among (c ∷ []) type ≡ true) → behind_type (a ∷ b ∷ c ∷ []) (type ++ rest) ≡ Some (type, rest)
    two (inl is) = found b (second rest) is
    two (inr e) = three (among_first c [] type e)

    one : (type ≡ a) ⊎ (is_among (b ∷ c ∷ []) type ≡ true) → behind_type (a ∷ b ∷ c ∷ []) (type ++ rest) ≡ Some (type, rest)
    one (inl is) = found a (first rest) is
    one (inr e) = two (among_first b (c ∷ []) type e)

pub accepted_apart : AreApart accepted_types
accepted_apart = three_apart (codes "INTEGER") (codes "LOGICAL") (codes "CHARACTER") (λ rest. refl) (λ rest. refl) (λ rest. refl)

pub refused_apart : AreApart refused_types
refused_apart = three_apart (codes "REAL") (codes "DOUBLEPRECISION") (codes "COMPLEX") (λ rest. refl) (λ rest. refl) (λ rest. refl)

-- a type before what is left
abbrev typed_by : List ℕ → List ℕ → List ℕ × List ℕ
typed_by word left = (word, left)

abbrev with_type : List ℕ → Option (List ℕ) → Option (List ℕ × List ℕ)
with_type word o = option_map (typed_by word) o

record TypeCut (types : List (List ℕ)) (text type rest : List ℕ) : Type 0 where
  whole : text ≡ type ++ rest
  typed : is_among types type ≡ true

type_stands : (types : List (List ℕ)) (text type rest : List ℕ) → behind_type types text ≡ Some (type, rest) → TypeCut types text type rest
type_stands [] text type rest e = absurd cc
type_stands (word ∷ types) text type rest e =
    go (either (with_type word (behind_text word text)) (behind_type types text) (type, rest) e) (type_stands types text type rest)
  where
    go : (with_type word (behind_text word text) ≡ Some (type, rest)) ⊎ (behind_type types text ≡ Some (type, rest))
        → (behind_type types text ≡ Some (type, rest) → TypeCut types text type rest) → TypeCut (word ∷ types) text type rest
    go (inl here) later_cut =
        let m = mapped (behind_text word text) (typed_by word) (type, rest) here in
        let same : word ≡ type = ap (λ (p : List ℕ × List ℕ). p.0) m.is in
        let behind : m.from ≡ rest = ap (λ (p : List ℕ × List ℕ). p.1) m.is in
        record {
          whole = text_stands word text m.from m.was ∙ (λ i. same i ++ behind i);
          typed = or_left (bytes_eq type word) (is_among types type) ((bytes_eq-Decides type word).1 (sym same));
        }
    go (inr later) later_cut =
        let cut = later_cut later in
        record { whole = cut.whole; typed = or_right (bytes_eq type word) (is_among types type) cut.typed }

-- ---- its length

behind_length_is : (size rest : List ℕ) → IsLength size → BeginsWithLetter rest → behind_length (size ++ rest) ≡ Some rest
behind_length_is size rest (no_length e) letter = ap (λ x. behind_length (x ++ rest)) e ∙ nothing_read rest letter
  where
    nothing_read : (rest : List ℕ) → BeginsWithLetter rest → behind_length rest ≡ Some rest
    nothing_read [] letter = refl
    nothing_read (c ∷ rest) letter = ap (λ b. if b then option_or (behind_number rest) (behind_group rest) else Some (c ∷ rest)) (letter_is_not c 42 letter refl)
behind_length_is size rest (digit_length digits e numbered) letter =
    ap (λ x. behind_length (x ++ rest)) e
    ∙ ap (λ o. option_or o (behind_group (digits ++ rest))) (behind_number_is digits rest numbered (letter_ends_digits rest letter))
behind_length_is size rest (group_length group e is) letter =
    ap (λ x. behind_length (x ++ rest)) e
    ∙ ap (λ o. option_or o (behind_group (group ++ rest))) (ap (λ x. behind_number (x ++ rest)) is.whole)
    ∙ behind_group_is group rest is

record LengthCut (text rest : List ℕ) : Type 0 where
  size : List ℕ
  whole : text ≡ size ++ rest
  is : IsLength size

length_stands : (text rest : List ℕ) → behind_length text ≡ Some rest → LengthCut text rest
length_stands [] rest e = let same : ◌≡◌ {A = List ℕ} [] rest = cc in record { size = []; whole = same; is = no_length refl }
length_stands (c ∷ text) rest e = go (c == 42) refl e
  where
    sized : c ≡ 42 → (behind_number text ≡ Some rest) ⊎ (behind_group text ≡ Some rest) → LengthCut (c ∷ text) rest
    sized star (inl e) =
        let cut = number_stands text rest e in
        record { size = 42 ∷ cut.front; whole = (λ i. star i ∷ cut.whole i); is = digit_length cut.front refl cut.passing }
    sized star (inr e) =
        let cut = group_stands text rest e in
        record { size = 42 ∷ cut.group; whole = (λ i. star i ∷ cut.whole i); is = group_length cut.group refl cut.is }

    go : (b : Bool) → (c == 42) ≡ b → (if b then option_or (behind_number text) (behind_group text) else Some (c ∷ text)) ≡ Some rest → LengthCut (c ∷ text) rest
    go true is e = sized (eqb-true c 42 is) (either (behind_number text) (behind_group text) rest e)
    go false is e = let same : c ∷ text ≡ rest = cc in record { size = []; whole = same; is = no_length refl }

-- ---- its dummy arguments

byte_is_not : (c d : ℕ) → is_name_byte c ≡ true → is_name_byte d ≡ false → (c == d) ≡ false
byte_is_not c d byte other = ne_eqb c d (λ e. let same = ap is_name_byte e in cc)

bytes_go_on : (front rest : List ℕ) → list_all is_name_byte front ≡ true → reads_names false (front ++ rest) ≡ reads_names false rest
bytes_go_on [] rest all = refl
bytes_go_on (c ∷ front) rest all =
    let parts = and_parts (is_name_byte c) (list_all is_name_byte front) all in
    ap (λ b. if b then reads_names true (front ++ rest) else (if c == 41 then is_end (front ++ rest) else is_name_byte c && reads_names false (front ++ rest))) (byte_is_not c 44 parts.0 refl)
    ∙ ap (λ b. if b then is_end (front ++ rest) else is_name_byte c && reads_names false (front ++ rest)) (byte_is_not c 41 parts.0 refl)
    ∙ ap (λ b. b && reads_names false (front ++ rest)) parts.0
    ∙ bytes_go_on front rest parts.1

name_goes_on : (name rest : List ℕ) → is_word name ≡ true → reads_names true (name ++ rest) ≡ reads_names false rest
name_goes_on [] rest named = absurd cc
name_goes_on (c ∷ name) rest named =
    let parts = and_parts (is_upper c) (list_all is_name_byte name) named in
    ap (λ b. b && reads_names false (name ++ rest)) parts.0 ∙ bytes_go_on name rest parts.1

names_read : (names : List ℕ) → IsNames names → reads_names true (names ++ 41 ∷ []) ≡ true
names_read names (one_name named) = name_goes_on names (41 ∷ []) named
names_read names (more_names {more = more} name e named follows) =
    ap (λ x. reads_names true (x ++ 41 ∷ [])) e
    ∙ ap (reads_names true) (append_assoc name (44 ∷ more) (41 ∷ []))
    ∙ name_goes_on name (44 ∷ (more ++ 41 ∷ [])) named
    ∙ names_read more follows

names_letter : (names rest : List ℕ) → IsNames names → BeginsWithLetter (names ++ rest)
names_letter names rest (one_name named) = word_letter names rest named
names_letter names rest (more_names {more = more} name e named follows) =
    subst BeginsWithLetter (sym (ap (λ x. x ++ rest) e ∙ append_assoc name (44 ∷ more) rest)) (word_letter name (44 ∷ (more ++ rest)) named)

dummies_read : (dummies : List ℕ) → (dummies ≡ []) ⊎ IsNames dummies → reads_dummies (dummies ++ 41 ∷ []) ≡ true
dummies_read dummies (inl e) = ap (λ x. reads_dummies (x ++ 41 ∷ [])) e
dummies_read dummies (inr is) = same (dummies ++ 41 ∷ []) (names_letter dummies (41 ∷ []) is) ∙ names_read dummies is
  where
    same : (text : List ℕ) → BeginsWithLetter text → reads_dummies text ≡ reads_names true text
    same [] letter = refl
    same (c ∷ text) letter = ap (λ b. if b then is_end text else reads_names true (c ∷ text)) (letter_is_not c 41 letter refl)

end_stands : (text : List ℕ) → is_end text ≡ true → text ≡ []
end_stands [] e = refl
end_stands (c ∷ text) e = absurd cc

-- names, or what may stand behind the beginning of a name
abbrev Names : Bool → List ℕ → Type 0
Names true names = IsNames names
Names false names = (front : List ℕ) → is_word front ≡ true → IsNames (front ++ names)

record NamesCut (begin : Bool) (text : List ℕ) : Type 0 where
  names : List ℕ
  whole : text ≡ names ++ 41 ∷ []
  is : Names begin names

word_longer : (front : List ℕ) (c : ℕ) → is_word front ≡ true → is_name_byte c ≡ true → is_word (front ++ c ∷ []) ≡ true
word_longer [] c named byte = absurd cc
word_longer (d ∷ front) c named byte =
    let parts = and_parts (is_upper d) (list_all is_name_byte front) named in
    and_from (is_upper d) (list_all is_name_byte (front ++ c ∷ [])) parts.0
    (list_all-append is_name_byte front (c ∷ []) ∙ and_from (list_all is_name_byte front) (is_name_byte c && true) parts.1 (and_from (is_name_byte c) true byte refl))

names_stand : (begin : Bool) (text : List ℕ) → reads_names begin text ≡ true → NamesCut begin text
names_stand true [] e = absurd cc
names_stand false [] e = absurd cc
names_stand true (c ∷ text) e =
    let parts = and_parts (is_upper c) (reads_names false text) e in
    let cut = names_stand false text parts.1 in
    record { names = c ∷ cut.names; whole = ap (λ (x : List ℕ). c ∷ x) cut.whole; is = cut.is (c ∷ []) (and_from (is_upper c) true parts.0 refl) }
names_stand false (c ∷ text) e = comma (c == 44) refl e (names_stand true text) (names_stand false text)
  where
    close : (b : Bool) → (c == 41) ≡ b → (if b then is_end text else is_name_byte c && reads_names false text) ≡ true → (reads_names false text ≡ true → NamesCut false text) → NamesCut false (c ∷ text)
    close true is e inner =
        record { names = []; whole = (λ i. eqb-true c 41 is i ∷ end_stands text e i); is = λ front named. subst IsNames (sym (append-nil front)) (one_name named) }
    close false is e inner =
        let parts = and_parts (is_name_byte c) (reads_names false text) e in
        let cut = inner parts.1 in
        record {
          names = c ∷ cut.names;
          whole = ap (λ (x : List ℕ). c ∷ x) cut.whole;
          is = λ front named. subst IsNames (append_assoc front (c ∷ []) cut.names) (cut.is (front ++ c ∷ []) (word_longer front c named parts.0));
        }

    comma : (b : Bool) → (c == 44) ≡ b → (if b then reads_names true text else (if c == 41 then is_end text else is_name_byte c && reads_names false text)) ≡ true
        → (reads_names true text ≡ true → NamesCut true text) → (reads_names false text ≡ true → NamesCut false text) → NamesCut false (c ∷ text)
    comma true is e next inner =
        let cut = next e in
        record { names = 44 ∷ cut.names; whole = (λ i. eqb-true c 44 is i ∷ cut.whole i); is = λ front named. more_names front refl named cut.is }
    comma false is e next inner = close (c == 41) refl e inner

record DummiesCut (front text : List ℕ) : Type 0 where
  dummies : List ℕ
  whole : text ≡ front ++ (dummies ++ 41 ∷ [])
  listed : (dummies ≡ []) ⊎ IsNames dummies

dummies_stand : (text : List ℕ) → reads_dummies text ≡ true → DummiesCut [] text
dummies_stand [] e = absurd cc
dummies_stand (c ∷ text) e = go (c == 41) refl e
  where
    go : (b : Bool) → (c == 41) ≡ b → (if b then is_end text else reads_names true (c ∷ text)) ≡ true → DummiesCut [] (c ∷ text)
    go true is e = record { dummies = []; whole = (λ i. eqb-true c 41 is i ∷ end_stands text e i); listed = inl refl }
    go false is e = let cut = names_stand true (c ∷ text) e in record { dummies = cut.names; whole = cut.whole; listed = inr cut.is }

dummy_list_stands : (text : List ℕ) → reads_dummy_list text ≡ true → DummiesCut (40 ∷ []) text
dummy_list_stands [] e = absurd cc
dummy_list_stands (c ∷ text) e =
    let parts = and_parts (c == 40) (reads_dummies text) e in
    let cut = dummies_stand text parts.1 in
    record { dummies = cut.dummies; whole = (λ i. eqb-true c 40 parts.0 i ∷ cut.whole i); listed = cut.listed }

-- ---- the statement

pub function_reads : (types : List (List ℕ)) (text : List ℕ) → AreApart types → (f : IsTypedFunction types text) → function_type types text ≡ Some f.type
function_reads types text apart f =
    let list = 40 ∷ (f.dummies ++ 41 ∷ []) in
    let behind = codes "FUNCTION" ++ (f.name ++ list) in
    ap (function_type types) f.whole
    ∙ ap header_type (apart f.type (f.size ++ behind) f.typed)
    ∙ ap (λ o. if passes (option_and_then behind_name (option_and_then (behind_text (codes "FUNCTION")) o)) reads_dummy_list then Some f.type else None) (behind_length_is f.size behind f.sized refl)
    ∙ ap (λ o. if passes (option_and_then behind_name o) reads_dummy_list then Some f.type else None) (behind_text_is (codes "FUNCTION") (f.name ++ list))
    ∙ ap (λ o. if passes o reads_dummy_list then Some f.type else None) (behind_name_is f.name list f.named refl)
    ∙ ap (λ b. if b then Some f.type else None) (dummies_read f.dummies f.listed)

record HeaderCut (o : Option (List ℕ × List ℕ)) (type : List ℕ) : Type 0 where
  rest : List ℕ
  was : o ≡ Some (type, rest)
  is : reads_header rest ≡ true

header_stands : (o : Option (List ℕ × List ℕ)) (type : List ℕ) → header_type o ≡ Some type → HeaderCut o type
header_stands None type e = absurd cc
header_stands (Some t) type e = go (reads_header t.1) refl e
  where
    go : (b : Bool) → reads_header t.1 ≡ b → (if b then Some t.0 else None) ≡ Some type → HeaderCut (Some t) type
    go true is e = let same : t.0 ≡ type = cc in record { rest = t.1; was = ap (λ (x : List ℕ). Some (x, t.1)) same; is = is }
    go false is e = absurd cc

-- what is read, with its type
pub record FunctionFound (types : List (List ℕ)) (text type : List ℕ) : Type 0 where
  pub function : IsTypedFunction types text
  pub same : function.type ≡ type

pub function_found : (types : List (List ℕ)) (text type : List ℕ) → function_type types text ≡ Some type → FunctionFound types text type
function_found types text type e =
    let h = header_stands (behind_type types text) type e in
    let t = type_stands types text type h.rest h.was in
    let p = passed (option_and_then behind_name (option_and_then (behind_text (codes "FUNCTION")) (behind_length h.rest))) reads_dummy_list h.is in
    let named = went (option_and_then (behind_text (codes "FUNCTION")) (behind_length h.rest)) behind_name p.from p.was in
    let word = went (behind_length h.rest) (behind_text (codes "FUNCTION")) named.from named.was in
    let size = length_stands h.rest word.from word.was in
    let name = name_stands named.from p.from named.is in
    let list = dummy_list_stands p.from p.is in
    record {
      function = record {
        type = type;
        size = size.size;
        name = name.front;
        dummies = list.dummies;
        whole = goes_on type t.whole (goes_on size.size size.whole (goes_on (codes "FUNCTION") (text_stands (codes "FUNCTION") word.from named.from word.is) (goes_on name.front name.whole list.whole)));
        typed = t.typed;
        sized = size.is;
        named = name.passing;
        listed = list.listed;
      };
      same = refl;
    }

-- ---- no others

-- a statement that begins with a refused type begins with no accepted one
pub refused_is_not_accepted : (text : List ℕ) → IsTypedFunction refused_types text → function_type accepted_types text ≡ None
refused_is_not_accepted text f =
    let behind = f.size ++ (codes "FUNCTION" ++ (f.name ++ 40 ∷ (f.dummies ++ 41 ∷ []))) in
    ap (function_type accepted_types) f.whole ∙ one behind (among_first (codes "REAL") (codes "DOUBLEPRECISION" ∷ codes "COMPLEX" ∷ []) f.type f.typed)
  where
    none : (rest word : List ℕ) → function_type accepted_types (word ++ rest) ≡ None → f.type ≡ word → function_type accepted_types (f.type ++ rest) ≡ None
    none rest word away is = ap (λ x. function_type accepted_types (x ++ rest)) is ∙ away

    three : (rest : List ℕ) → (f.type ≡ codes "COMPLEX") ⊎ (is_among [] f.type ≡ true) → function_type accepted_types (f.type ++ rest) ≡ None
    three rest (inl is) = none rest (codes "COMPLEX") refl is
    three rest (inr e) = absurd cc

    two : (rest : List ℕ) → (f.type ≡ codes "DOUBLEPRECISION") ⊎ (is_among (codes "COMPLEX" ∷ []) f.type ≡ true) → function_type accepted_types (f.type ++ rest) ≡ None
    two rest (inl is) = none rest (codes "DOUBLEPRECISION") refl is
    two rest (inr e) = three rest (among_first (codes "COMPLEX") [] f.type e)

    one : (rest : List ℕ) → (f.type ≡ codes "REAL") ⊎ (is_among (codes "DOUBLEPRECISION" ∷ codes "COMPLEX" ∷ []) f.type ≡ true) → function_type accepted_types (f.type ++ rest) ≡ None
    one rest (inl is) = none rest (codes "REAL") refl is
    one rest (inr e) = two rest (among_first (codes "DOUBLEPRECISION") (codes "COMPLEX" ∷ []) f.type e)

-- nor does one that begins with DO and a label begin with a type
numbered_away : (label rest : List ℕ) → is_number label ≡ true → (function_type accepted_types (codes "DO" ++ (label ++ rest)) ≡ None) × (function_type refused_types (codes "DO" ++ (label ++ rest)) ≡ None)
numbered_away [] rest numbered = absurd cc
numbered_away (c ∷ label) rest numbered =
    let digit = (and_parts (is_digit c) (list_all is_digit label) numbered).0 in
    let away : (c == 85) ≡ false = ne_eqb c 85 (λ e. let same = ap is_digit e in cc) in (
      refl,
      ap (λ b. header_type (option_or (with_type (codes "DOUBLEPRECISION") (if b then behind_text (codes "BLEPRECISION") (label ++ rest) else None)) None)) away,
    )

pub while_is_no_function : (text : List ℕ) → IsLabelledWhile text → (function_type accepted_types text ≡ None) × (function_type refused_types text ≡ None)
while_is_no_function text w =
    let away = numbered_away w.label (w.comma ++ (codes "WHILE" ++ w.rest)) w.numbered in
    (ap (function_type accepted_types) w.whole ∙ away.0, ap (function_type refused_types) w.whole ∙ away.1)
