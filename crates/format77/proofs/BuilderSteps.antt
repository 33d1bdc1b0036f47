-- One more lexeme, as the builder's lists show it.
use Rattle.std.proofs.Common.{◌≡◌, List, [], ◌∷◌, ◌++◌, map, reverse, sym, ap, ◌∙◌}
use Rattle.std.proofs.lemmas.List.{map-append, reverse-append}
use Rattle.text_base.specs.Formats as t
use Rattle.format77.specs.Reading as r
use Rattle.text_base.specs.FormatPlain.{edit_of, item_of}
use Rattle.format77.specs.Views.{level_of}
use Rattle.text_base.specs.declared.format.FormatEdit.{FormatEdit}
use Rattle.text_base.specs.declared.format.FormatItem.{FormatItem}
use Rattle.text_base.specs.declared.format.FormatItem.TheVariants as v
use Rattle.format77.specs.declared.builder.Level.{Level}
use Rattle.text_base.proofs.FormatEquations.{item_edit, item_end, item_group}

-- an item more
item_put : (levels : List r.Level) (xs : List FormatItem) (x : FormatItem) (y : t.FormatItem) (rest : List t.FormatLexeme) → item_of x ≡ y
    → r.build_from levels (map item_of xs ++ y ∷ []) rest ≡ r.build_from levels (map item_of (xs ++ x ∷ [])) rest
item_put levels xs x y rest e = ap (λ ys. r.build_from levels ys rest) (ap (λ z. map item_of xs ++ z ∷ []) (sym e) ∙ sym (map-append item_of xs (x ∷ [])))

pub edit_put : (levels : List r.Level) (xs : List FormatItem) (d : FormatEdit) (rest : List t.FormatLexeme)
    → r.build_from levels (map item_of xs) (t.descriptor (edit_of d) ∷ rest) ≡ r.build_from levels (map item_of (xs ++ v.Edit d ∷ [])) rest
edit_put levels xs d rest = item_put levels xs (v.Edit d) (t.edit (edit_of d)) rest (item_edit d)

pub end_put : (levels : List r.Level) (xs : List FormatItem) (rest : List t.FormatLexeme) → r.build_from levels (map item_of xs) (t.slash ∷ rest) ≡ r.build_from levels (map item_of (xs ++ v.RecordEnd ∷ [])) rest
end_put levels xs rest = item_put levels xs v.RecordEnd t.record_end rest item_end

levels_put : (levels : List Level) (l : Level) → reverse (map level_of (levels ++ l ∷ [])) ≡ level_of l ∷ reverse (map level_of levels)
levels_put levels l = ap reverse (map-append level_of levels (l ∷ [])) ∙ reverse-append (map level_of levels) (level_of l ∷ [])

-- a group opens
pub opened : (levels : List Level) (xs : List FormatItem) (l : Level) (rest : List t.FormatLexeme) → l.before ≡ xs
    → r.build_from (reverse (map level_of levels)) (map item_of xs) (t.opening l.count ∷ rest) ≡ r.build_from (reverse (map level_of (levels ++ l ∷ []))) [] rest
opened levels xs l rest e =
    ap (λ ys. r.build_from (record { count = l.count; before = map item_of ys } ∷ reverse (map level_of levels)) [] rest) (sym e) ∙ ap (λ ls. r.build_from ls [] rest) (sym (levels_put levels l))

-- a group closes
pub closed : (levels : List Level) (xs : List FormatItem) (l : Level) (rest : List t.FormatLexeme)
    → r.build_from (reverse (map level_of (levels ++ l ∷ []))) (map item_of xs) (t.closing ∷ rest) ≡ r.build_from (reverse (map level_of levels)) (map item_of (l.before ++ v.Group l.count xs ∷ [])) rest
closed levels xs l rest =
    ap (λ ls. r.build_from ls (map item_of xs) (t.closing ∷ rest)) (levels_put levels l) ∙ item_put (reverse (map level_of levels)) l.before (v.Group l.count xs) (t.group l.count (t.items_of (map item_of xs))) rest (item_group l.count xs)
