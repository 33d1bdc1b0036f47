-- The symbols that are left, seen as the grammar has them.
use Rattle.std.proofs.Common.{◌≡◌, ◌∙◌, List, [], ◌∷◌, map, Option, Some, None, Bor, slice_get, refl, sym, ap}
use Rattle.std.specs.Prelude.{MatchOption}
use Rattle.std.specs.Option.{option_map, option_copied}
use Rattle.std.proofs.lemmas.Option.{slice_get-map}
use Rattle.group77.specs.declared.symbol.Symbol.{Symbol}
use Rattle.group77.specs.Symbol.{grammar_symbol}

-- no symbol is kept where none is seen
pub none_kept : (xs : List Symbol) → map grammar_symbol xs ≡ [] → xs ≡ []
none_kept [] e = refl
none_kept (x ∷ xs) e = absurd cc

-- what is taken off the symbols is taken off what is seen of them
pub taken_seen : (xs rest : List Symbol) (first : Option Symbol) → MatchOption first ((xs ≡ []) × (rest ≡ [])) (λ s. xs ≡ s ∷ rest)
    → MatchOption first ((map grammar_symbol xs ≡ []) × (map grammar_symbol rest ≡ [])) (λ s. map grammar_symbol xs ≡ grammar_symbol s ∷ map grammar_symbol rest)
taken_seen xs rest None h = (ap (map grammar_symbol) h.0, ap (map grammar_symbol) h.1)
taken_seen xs rest (Some s) h = ap (map grammar_symbol) h

-- the first symbol, seen, is the first of those seen
pub first_seen : (xs : List Symbol) (first : Option (Bor Symbol)) → option_copied first ≡ slice_get xs 0 → option_map (λ (s : Bor Symbol). grammar_symbol s.now) first ≡ slice_get (map grammar_symbol xs) 0
first_seen xs first e = go first ∙ ap (option_map grammar_symbol) e ∙ sym (slice_get-map grammar_symbol xs 0)
  where
    go : (o : Option (Bor Symbol)) → option_map (λ (s : Bor Symbol). grammar_symbol s.now) o ≡ option_map grammar_symbol (option_copied o)
    go None = refl
    go (Some s) = refl
