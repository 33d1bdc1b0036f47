-- The steps of the machine that builds a tree, by what stands last and what the innermost parenthesis belongs to.
use Rattle.std.proofs.Common.{◌≡◌, suc, ◌-◌, Bool, true, false, List, [], ◌∷◌, ◌++◌, map, length, slice_get, Option, Some, None, refl, sym, ap, ◌∙◌, arith}
use Rattle.std.specs.Option.{option_map}
use Rattle.std.proofs.lemmas.List.{map-append}
use Rattle.tree77.specs.Expressions.{Symbol}
use Rattle.group77.specs.Building.{grouping, Level, split_last, with_last, ends, is_after, is_after_last, open_level, behind_symbol, opening_at}
use Rattle.group77.specs.Symbol.{grammar_symbol}
use Rattle.group77.specs.BuilderViews.{level_of, opening_of, is_listing, is_in_list}
use Rattle.group77.specs.declared.symbol.Symbol as code
use Rattle.group77.specs.declared.builder.Level as stacked

-- ---- what stands last

-- the last symbol, and those before it
pub last_splits : (before : List Symbol) (s : Symbol) → split_last (before ++ s ∷ []) ≡ Some (before, s)
last_splits [] s = refl
last_splits (b ∷ before) s = ap (with_last b) (last_splits before s)

-- what stands last decides
pub after_last : (before : List Symbol) (s : Symbol) → is_after (before ++ s ∷ []) ≡ ends s
after_last before s = ap is_after_last (last_splits before s)

pub last_splits_seen : (before : List code.Symbol) (s : code.Symbol) → split_last (map grammar_symbol (before ++ s ∷ [])) ≡ Some (map grammar_symbol before, grammar_symbol s)
last_splits_seen before s = ap split_last (map-append grammar_symbol before (s ∷ [])) ∙ last_splits (map grammar_symbol before) (grammar_symbol s)

last_parts : {A : Type 0} (xs : List A) (x : A) → slice_get xs (length xs - 1) ≡ Some x → (before : List A) × (xs ≡ before ++ x ∷ [])
last_parts [] x is = absurd (cc)
last_parts (y ∷ []) x is = let same : y ≡ x = cc in ([], ap (λ v. v ∷ []) same)
last_parts (y ∷ z ∷ zs) x is =
    let place : suc (suc (length zs)) - 1 ≡ suc (suc (length zs) - 1) = omega arith in
    let rest = last_parts (z ∷ zs) x (sym (ap (slice_get (y ∷ z ∷ zs)) place) ∙ is) in
    (y ∷ rest.0, ap (λ v. y ∷ v) rest.1)

-- whether an operand stands last is told by the last symbol
pub last_ends : (symbols : List code.Symbol) (s : code.Symbol) → slice_get symbols (length symbols - 1) ≡ Some s → is_after (map grammar_symbol symbols) ≡ ends (grammar_symbol s)
last_ends symbols s is =
    let parts = last_parts symbols s is in
    ap is_after_last (ap (λ (x : List code.Symbol). split_last (map grammar_symbol x)) parts.1 ∙ last_splits_seen parts.0 s)

-- behind no operand a parenthesis opens a group
pub opens_group : (e : Bool) (ls : List Level) (symbols : List Symbol) → is_after symbols ≡ false → opening_at e ls symbols (split_last symbols) ≡ Some (open_level ls symbols grouping)
opens_group e ls symbols not_after = go (split_last symbols) not_after where
  go : (last : Option (List Symbol × Symbol)) → is_after_last last ≡ false → opening_at e ls symbols last ≡ Some (open_level ls symbols grouping)
  go None h = refl
  go (Some (before, s)) h = rw h refl

-- behind an operand it belongs to it
pub opens_behind : (e : Bool) (ls : List Level) (symbols before : List code.Symbol) (s : code.Symbol) → symbols ≡ before ++ s ∷ [] → is_after (map grammar_symbol symbols) ≡ true
    → opening_at e ls (map grammar_symbol symbols) (split_last (map grammar_symbol symbols)) ≡ option_map (open_level ls (map grammar_symbol before)) (behind_symbol e (grammar_symbol s))
opens_behind e ls symbols before s is after =
    let splits = ap (λ (x : List code.Symbol). split_last (map grammar_symbol x)) is ∙ last_splits_seen before s in
    let ends_there : ends (grammar_symbol s) ≡ true = sym (ap is_after_last splits) ∙ after in
    rw (splits, ends_there) refl

-- ---- the innermost parenthesis

-- whether arguments may stand here is told by the innermost open parenthesis
pub in_list_at : (levels : List stacked.Level) (l : stacked.Level) → slice_get levels 0 ≡ Some l → is_in_list (map level_of levels) ≡ is_listing (opening_of l.of)
in_list_at [] l is = absurd (cc)
in_list_at (k ∷ ks) l is = let same : k ≡ l = cc in ap (λ (x : stacked.Level). is_listing (opening_of x.of)) same

pub in_list_nowhere : (levels : List stacked.Level) → slice_get levels 0 ≡ None → is_in_list (map level_of levels) ≡ false
in_list_nowhere [] is = refl
in_list_nowhere (k ∷ ks) is = absurd (cc)
