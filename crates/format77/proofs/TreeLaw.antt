-- The tree of a format's lexemes: what is built from them has them, and each tree is built.
use Rattle.std.proofs.Common.{◌≡◌, List, [], ◌∷◌, ◌++◌, Some, refl, sym, ap, ◌∙◌, append_assoc, append-nil}
use Rattle.std.proofs.lemmas.Option.{same_Some}
use Rattle.text_base.specs.Formats.{FormatItem, edit, record_end, group, FormatItems, none, more, FormatLexeme, descriptor, slash, opening, closing, comma, colon, scale, other, item_lexemes, items_lexemes}
use Rattle.format77.specs.Reading.{Level, build_from}
use Rattle.text_base.specs.Formats.{items_of}

-- ---- each tree is built

abbrev pub list_of : FormatItems → List FormatItem
list_of none = []
list_of (more x xs) = x ∷ list_of xs

pub items_again : (t : FormatItems) → items_of (list_of t) ≡ t
items_again none = refl
items_again (more x t) = ap (more x) (items_again t)

mutual
  item_built : (levels : List Level) (xs : List FormatItem) (x : FormatItem) (rest : List FormatLexeme) → build_from levels xs (item_lexemes x ++ rest) ≡ build_from levels (xs ++ x ∷ []) rest
  item_built levels xs (edit d) rest = refl
  item_built levels xs record_end rest = refl
  item_built levels xs (group r t) rest =
      let level : Level = record { count = r; before = xs } in
      ap (λ is. build_from (level ∷ levels) [] is) (append_assoc (items_lexemes t) (closing ∷ []) rest) ∙ items_built (level ∷ levels) [] t (closing ∷ rest)
      ∙ ap (λ u. build_from levels (xs ++ group r u ∷ []) rest) (items_again t)

  items_built : (levels : List Level) (xs : List FormatItem) (t : FormatItems) (rest : List FormatLexeme) → build_from levels xs (items_lexemes t ++ rest) ≡ build_from levels (xs ++ list_of t) rest
  items_built levels xs none rest = ap (λ ys. build_from levels ys rest) (sym (append-nil xs))
  items_built levels xs (more x t) rest =
      ap (build_from levels xs) (append_assoc (item_lexemes x) (items_lexemes t) rest) ∙ item_built levels xs x (items_lexemes t ++ rest) ∙ items_built levels (xs ++ x ∷ []) t rest
      ∙ ap (λ ys. build_from levels ys rest) (append_assoc xs (x ∷ []) (list_of t))

-- the lexemes of a tree are built to it
pub tree_built : (t : FormatItems) → build_from [] [] (items_lexemes t) ≡ Some t
tree_built t = ap (build_from [] []) (sym (append-nil (items_lexemes t))) ∙ items_built [] [] t [] ∙ ap Some (items_again t)

-- ---- what is built has its lexemes

abbrev lexemes_of : List FormatItem → List FormatLexeme
lexemes_of xs = items_lexemes (items_of xs)

lexemes_put : (xs : List FormatItem) (x : FormatItem) (is : List FormatLexeme) → lexemes_of (xs ++ x ∷ []) ++ is ≡ lexemes_of xs ++ (item_lexemes x ++ is)
lexemes_put [] x is = ap (λ js. js ++ is) (append-nil (item_lexemes x))
lexemes_put (y ∷ xs) x is =
    append_assoc (item_lexemes y) (lexemes_of (xs ++ x ∷ [])) is ∙ ap (λ js. item_lexemes y ++ js) (lexemes_put xs x is) ∙ sym (append_assoc (item_lexemes y) (lexemes_of xs) (item_lexemes x ++ is))

-- the lexemes of open groups, and those behind them
abbrev with_open : List Level → List FormatLexeme → List FormatLexeme
with_open [] is = is
with_open (l ∷ ls) is = with_open ls (lexemes_of l.before ++ opening l.count ∷ is)

built_is : (levels : List Level) (xs : List FormatItem) (is : List FormatLexeme) (t : FormatItems) → build_from levels xs is ≡ Some t → items_lexemes t ≡ with_open levels (lexemes_of xs ++ is)
built_is [] xs [] t e = ap items_lexemes (sym (same_Some _ _ e)) ∙ sym (append-nil (lexemes_of xs))
built_is (l ∷ ls) xs [] t e = absurd cc
built_is levels xs (descriptor d ∷ is) t e = built_is levels (xs ++ edit d ∷ []) is t e ∙ ap (with_open levels) (lexemes_put xs (edit d) is)
built_is levels xs (slash ∷ is) t e = built_is levels (xs ++ record_end ∷ []) is t e ∙ ap (with_open levels) (lexemes_put xs record_end is)
built_is levels xs (opening r ∷ is) t e = built_is (record { count = r; before = xs } ∷ levels) [] is t e
built_is [] xs (closing ∷ is) t e = absurd cc
built_is (l ∷ ls) xs (closing ∷ is) t e =
    built_is ls (l.before ++ group l.count (items_of xs) ∷ []) is t e ∙ ap (with_open ls) (lexemes_put l.before (group l.count (items_of xs)) is)
    ∙ ap (λ js. with_open ls (lexemes_of l.before ++ opening l.count ∷ js)) (append_assoc (lexemes_of xs) (closing ∷ []) is)
built_is levels xs (comma ∷ is) t e = absurd cc
built_is levels xs (colon ∷ is) t e = absurd cc
built_is levels xs (scale ∷ is) t e = absurd cc
built_is levels xs (other ∷ is) t e = absurd cc

-- what is built from lexemes has them
pub tree_is : (is : List FormatLexeme) (t : FormatItems) → build_from [] [] is ≡ Some t → items_lexemes t ≡ is
tree_is is t e = built_is [] [] is t e
