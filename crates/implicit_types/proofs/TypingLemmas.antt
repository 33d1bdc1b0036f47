-- The lowest finding, and lists that grow by what stands before each item.
use Rattle.std.proofs.Common.{◌≡◌, ◌≢◌, ℕ, ◌+◌, ◌<◌, Bool, true, false, ◌||◌, List, [], ◌∷◌, ◌++◌, map, take, get_or, length, fold, Some, None, refl, sym, ap, ◌∙◌, arith, append_assoc}
use Rattle.std.specs.Prelude.{nat_lt, if◌then◌else◌}
use Rattle.std.specs.List.{list_any}
use Rattle.std.proofs.lemmas.List.{map-append, append-nil, take_more}
use Rattle.std.proofs.lemmas.List.Sums.{fold-append}
use Rattle.std.proofs.lemmas.Grind.{common_steps}
use Rattle.text_base.specs.Causes.{cause_number}
use Rattle.unit77.specs.Programs.{ProgramUnit}
use Rattle.names77.specs.Text.{text_of}
use Rattle.names77.specs.Known.{Known, known}
use Rattle.names77.specs.Views.{shown_lines}
use Rattle.names77.specs.declared.lines.Line.{Line}
use Rattle.implicit_types.specs.NameFindings.{nothing, with_line}
use Rattle.implicit_types.specs.Typing.{Refused, line_refusals, refusals_of}
use Rattle.implicit_types.specs.Findings.{Finding, along, is_lower, better, first_lowest}

pub ruleset joining = (map-append, append_assoc, append-nil)

-- ---- a finding that is kept until a lower one follows is the lowest

lower_than : (p q k : Finding) → is_lower q k ≡ true → is_lower p k ≡ false → is_lower q p ≡ true
lower_than p q k e f = lower_numbers (cause_number p.cause) (cause_number q.cause) (cause_number k.cause) e f
  where
    lower_numbers : (a b c : ℕ) → nat_lt b c ≡ true → nat_lt a c ≡ false → nat_lt b a ≡ true
    lower_numbers a b c e f = grind (arith, common_steps)

or-true : (b : Bool) → (b || true) ≡ true
or-true true = refl
or-true false = refl

any_lower : (p k : Finding) (ps : List Finding) → is_lower p k ≡ false → list_any (λ q. is_lower q k) ps ≡ true → list_any (λ q. is_lower q p) ps ≡ true
any_lower p k [] f e = absurd cc
any_lower p k (q ∷ ps) f e = go (any_lower p k ps f) (is_lower q k) refl
  where
    go : (list_any (λ q. is_lower q k) ps ≡ true → list_any (λ q. is_lower q p) ps ≡ true) → (b : Bool) → is_lower q k ≡ b → list_any (λ q. is_lower q p) (q ∷ ps) ≡ true
    go more true is = ap (λ b. b || list_any (λ q. is_lower q p) ps) (lower_than p q k is f)
    go more false is = ap (λ b. is_lower q p || b) (more (ap (λ b. b || list_any (λ q. is_lower q k) ps) (sym is) ∙ e)) ∙ or-true (is_lower q p)

keeps : (k : Finding) (ps : List Finding) → fold better (Some k) ps ≡ (if list_any (λ q. is_lower q k) ps then first_lowest ps else Some k)
keeps k [] = refl
keeps k (p ∷ ps) = go (keeps p ps) (keeps k ps) (is_lower p k) refl (list_any (λ q. is_lower q k) ps) refl
  where
    go : fold better (Some p) ps ≡ first_lowest (p ∷ ps) → fold better (Some k) ps ≡ (if list_any (λ q. is_lower q k) ps then first_lowest ps else Some k)
        → (b : Bool) → is_lower p k ≡ b → (any : Bool) → list_any (λ q. is_lower q k) ps ≡ any
        → fold better (if b then Some p else Some k) ps ≡ (if b || list_any (λ q. is_lower q k) ps then first_lowest (p ∷ ps) else Some k)
    go by_p by_k true is any e = by_p
    go by_p by_k false is true e =
        by_k ∙ ap (λ b. if b then first_lowest ps else Some k) e ∙ sym (ap (λ b. if b then first_lowest ps else Some p) (any_lower p k ps is e)) ∙ sym (ap (λ b. if b then first_lowest (p ∷ ps) else Some k) e)
    go by_p by_k false is false e = by_k ∙ ap (λ b. if b then first_lowest ps else Some k) e ∙ sym (ap (λ b. if b then first_lowest (p ∷ ps) else Some k) e)

pub keeps_lowest : (ps : List Finding) → fold better None ps ≡ first_lowest ps
keeps_lowest [] = refl
keeps_lowest (p ∷ ps) = keeps p ps

-- ---- what items give by what stands before them

along_last : {S X Y : Type 0} (next : S → X → S) (found : S → X → List Y) (s : S) (xs : List X) (x : X)
    → along next found s (xs ++ x ∷ []) ≡ along next found s xs ++ found (fold next s xs) x
along_last next found s [] x = append-nil (found s x)
along_last next found s (y ∷ ys) x = ap (λ l. found s y ++ l) (along_last next found (next s y) ys x) ∙ sym (append_assoc (found s y) (along next found (next s y) ys) (found (fold next (next s y) ys) x))

-- one more item
pub along_more : {S X Y Z : Type 0} (next : S → X → S) (found : S → X → List Y) (g : Z → X) (s : S) (xs : List Z) (x : Z)
    → along next found s (map g (xs ++ x ∷ [])) ≡ along next found s (map g xs) ++ found (fold next s (map g xs)) (g x)
along_more next found g s xs x = ap (along next found s) (map-append g xs (x ∷ [])) ∙ along_last next found s (map g xs) (g x)

pub fold_more : {S X Z : Type 0} (next : S → X → S) (g : Z → X) (s : S) (xs : List Z) (x : Z)
    → fold next s (map g (xs ++ x ∷ [])) ≡ next (fold next s (map g xs)) (g x)
fold_more next g s xs x = ap (fold next s) (map-append g xs (x ∷ [])) ∙ fold-append next s (map g xs) (g x ∷ [])

pub ruleset along_steps = (take_more, along_more, fold_more, append_assoc)

-- ---- tests

pub any_mapped : {X Y : Type 0} (p : Y → Bool) (f : X → Y) (xs : List X) → list_any p (map f xs) ≡ list_any (λ x. p (f x)) xs
any_mapped p f [] = refl
any_mapped p f (x ∷ xs) = ap (λ b. p (f x) || b) (any_mapped p f xs)

-- ---- the parts of a typing are those of the unit

-- what is known of its lines, and what they are refused for
pub parts_of : (unit : ProgramUnit) (text lines : List Line) (k : Known) (rs : List Refused) → shown_lines text ≡ text_of unit → lines ≡ text → k ≡ known (shown_lines lines)
    → rs ≡ along (with_line k) (line_refusals k) nothing (shown_lines lines) → (k ≡ known (text_of unit)) × (rs ≡ refusals_of unit)
parts_of unit text lines k rs all same knows made =
    let first : k ≡ known (text_of unit) = knows ∙ ap (λ x. known (shown_lines x)) same ∙ ap known all in
    (first, made ∙ ap (λ u. along (with_line u) (line_refusals u) nothing (shown_lines lines)) first ∙ ap (along (with_line (known (text_of unit))) (line_refusals (known (text_of unit))) nothing) (ap shown_lines same ∙ all))

pub some_mapped : {X Y : Type 0} (f : X → Y) (xs : List X) → xs ≢ [] → map f xs ≢ []
some_mapped f [] other e = other refl
some_mapped f (x ∷ xs) other e = cc
