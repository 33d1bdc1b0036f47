-- What is gathered of lexemes one after another, and the lowest part among some.
use Rattle.std.proofs.Common.{◌≡◌, ℕ, suc, ◌+◌, ◌-◌, ◌<◌, arith, Bool, true, false, ◌||◌, List, [], ◌∷◌, ◌++◌, map, length, Option, Some, None, refl, sym, ap, ◌∙◌, append_assoc, append-nil}
use Rattle.std.specs.Prelude.{nat_lt, if◌then◌else◌}
use Rattle.std.specs.List.{list_any}
use Rattle.std.specs.Option.{option_map, option_and_then}
use Rattle.std.proofs.Math.Bool.{or-true}
use Rattle.std.proofs.lemmas.Grind.{common_steps}
use Rattle.text_base.specs.Causes.{cause_number}
use Rattle.tree77.specs.Tokens.{Token}
use Rattle.tree77.specs.Lexemes.{Lexeme, Part, symbol_of, part_of, parts_from, depth_behind, is_lower, first_lowest}
use Rattle.expr77.specs.LexemeReading.{Stand, at_operand, stand_behind, read_lexeme, read_lexemes, lexemes_of}
use Rattle.expr77.specs.Gathering.{keep, Gathered, with_lexemes}

-- ---- lexemes one after another

-- parts behind others
keep_append : (k : Option Part) (ps qs : List Part) → keep k (ps ++ qs) ≡ keep (keep k ps) qs
keep_append k [] qs = refl
keep_append None (p ∷ ps) qs = keep_append (Some p) ps qs
keep_append (Some k) (p ∷ ps) qs = keep_append (if is_lower p k then Some p else Some k) ps qs

-- one lexeme, and then the others
pub one_more : (g : Gathered) (depth : ℕ) (i : Lexeme) (is : List Lexeme) → with_lexemes (with_lexemes g depth (i ∷ [])) (depth_behind depth i) is ≡ with_lexemes g depth (i ∷ is)
one_more g depth i is =
    ap (λ s. record { symbols = s; lowest = keep (keep g.lowest (part_of depth i ++ [])) (parts_from (depth_behind depth i) is) }) (append_assoc g.symbols (symbol_of i ∷ []) (map symbol_of is))
    ∙ ap (λ ps. record { symbols = g.symbols ++ symbol_of i ∷ map symbol_of is; lowest = keep (keep g.lowest ps) (parts_from (depth_behind depth i) is) }) (append-nil (part_of depth i))
    ∙ ap (λ k. record { symbols = g.symbols ++ symbol_of i ∷ map symbol_of is; lowest = k }) (sym (keep_append g.lowest (part_of depth i) (parts_from (depth_behind depth i) is)))

-- none more
pub none_more : (g : Gathered) (depth : ℕ) → with_lexemes g depth [] ≡ g
none_more g depth = ap (λ s. record { symbols = s; lowest = g.lowest }) (append-nil g.symbols)

-- a lexeme that is read, and then the others
pub read_one_more : (g : Gathered) (depth n : ℕ) (s : Stand) (ts rest : List Token) (i : Lexeme) → read_lexeme s ts ≡ Some (i, rest)
    → option_map (with_lexemes (with_lexemes g depth (i ∷ [])) (depth_behind depth i)) (read_lexemes n (stand_behind i) rest) ≡ option_map (with_lexemes g depth) (read_lexemes (suc n) s ts)
unfolding read_lexeme
read_one_more g depth n s [] rest i e = absurd cc
read_one_more g depth n s (t ∷ ts) rest i e =
    go (read_lexemes n (stand_behind i) rest)
    ∙ sym (ap (λ (found : Option (Lexeme × List Token)). option_map (with_lexemes g depth) (option_and_then (λ (p : Lexeme × List Token). option_map (λ is. p.0 ∷ is) (read_lexemes n (stand_behind p.0) p.1)) found)) e)
  where
    go : (o : Option (List Lexeme)) → option_map (with_lexemes (with_lexemes g depth (i ∷ [])) (depth_behind depth i)) o ≡ option_map (with_lexemes g depth) (option_map (λ is. i ∷ is) o)
    go None = refl
    go (Some is) = ap Some (one_more g depth i is)

-- tokens that begin no lexeme are none
pub no_lexeme : (n : ℕ) (s : Stand) (t : Token) (ts : List Token) → read_lexeme s (t ∷ ts) ≡ None → read_lexemes (suc n) s (t ∷ ts) ≡ None
no_lexeme n s t ts e = ap (option_and_then (λ (p : Lexeme × List Token). option_map (λ is. p.0 ∷ is) (read_lexemes n (stand_behind p.0) p.1))) e

-- all lexemes, in as many turns as there are tokens
pub all_left : (g : Gathered) (depth n : ℕ) (ts : List Token) → n ≡ length ts → option_map (with_lexemes g depth) (read_lexemes n at_operand ts) ≡ option_map (with_lexemes g depth) (lexemes_of ts)
unfolding lexemes_of
all_left g depth n ts turns = ap (λ n. option_map (with_lexemes g depth) (read_lexemes n at_operand ts)) turns

-- a turn that is left
pub turn : (n k : ℕ) → k < n → n - k ≡ suc (n - (k + 1))
turn n k lt = omega (arith, lt)

-- ---- the lowest part

lower_than : (p q k : Part) → is_lower q k ≡ true → is_lower p k ≡ false → is_lower q p ≡ true
lower_than p q k e f = lower_numbers (cause_number p.cause) (cause_number q.cause) (cause_number k.cause) e f
  where
    lower_numbers : (a b c : ℕ) → nat_lt b c ≡ true → nat_lt a c ≡ false → nat_lt b a ≡ true
    lower_numbers a b c e f = grind (arith, common_steps)

any_lower : (p k : Part) (ps : List Part) → is_lower p k ≡ false → list_any (λ q. is_lower q k) ps ≡ true → list_any (λ q. is_lower q p) ps ≡ true
any_lower p k [] f e = absurd cc
any_lower p k (q ∷ ps) f e = go (any_lower p k ps f) (is_lower q k) refl
  where
    go : (list_any (λ q. is_lower q k) ps ≡ true → list_any (λ q. is_lower q p) ps ≡ true) → (b : Bool) → is_lower q k ≡ b → list_any (λ q. is_lower q p) (q ∷ ps) ≡ true
    go more true is = ap (λ b. b || list_any (λ q. is_lower q p) ps) (lower_than p q k is f)
    go more false is = ap (λ b. is_lower q p || b) (more (ap (λ b. b || list_any (λ q. is_lower q k) ps) (sym is) ∙ e)) ∙ or-true (is_lower q p)

-- a part that is kept stays, unless a lower one follows
keeps : (k : Part) (ps : List Part) → keep (Some k) ps ≡ (if list_any (λ q. is_lower q k) ps then first_lowest ps else Some k)
keeps k [] = refl
keeps k (p ∷ ps) = go (keeps p ps) (keeps k ps) (is_lower p k) refl (list_any (λ q. is_lower q k) ps) refl
  where
    go : keep (Some p) ps ≡ first_lowest (p ∷ ps) → keep (Some k) ps ≡ (if list_any (λ q. is_lower q k) ps then first_lowest ps else Some k)
        → (b : Bool) → is_lower p k ≡ b → (any : Bool) → list_any (λ q. is_lower q k) ps ≡ any
        → keep (if b then Some p else Some k) ps ≡ (if b || list_any (λ q. is_lower q k) ps then first_lowest (p ∷ ps) else Some k)
    go by_p by_k true is any e = by_p
    go by_p by_k false is true e =
        by_k ∙ ap (λ b. if b then first_lowest ps else Some k) e ∙ sym (ap (λ b. if b then first_lowest ps else Some p) (any_lower p k ps is e)) ∙ sym (ap (λ b. if b then first_lowest (p ∷ ps) else Some k) e)
    go by_p by_k false is false e = by_k ∙ ap (λ b. if b then first_lowest ps else Some k) e ∙ sym (ap (λ b. if b then first_lowest (p ∷ ps) else Some k) e)

keeps_lowest : (ps : List Part) → keep None ps ≡ first_lowest ps
keeps_lowest [] = refl
keeps_lowest (p ∷ ps) = keeps p ps

-- the lowest of some parts, carried on, is the lowest of them with the others behind them
pub keeps_on : (before ps : List Part) → keep (first_lowest before) ps ≡ first_lowest (before ++ ps)
keeps_on before ps = ap (λ k. keep k ps) (sym (keeps_lowest before)) ∙ sym (keep_append None before ps) ∙ keeps_lowest (before ++ ps)
