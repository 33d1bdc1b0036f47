-- The table of operations row by row: the type that is given, and that what is given can be held.
use Rattle.std.proofs.Common.{◌≡◌, inl, inr, refl, subst, sym, ap, ◌∙◌, ℕ, suc, ℤ, pos, negsuc, neg_ℤ, ◌+ℤ◌, ◌-ℤ◌, ◌*ℤ◌, Bool, true, false, List, [], ◌∷◌, ◌++◌, map, length, Option, Some, None, arith}
use Rattle.std.proofs.lemmas.Bool.{false≢true}
use Rattle.std.proofs.lemmas.Bool.Decides.{nat_tests}
use Rattle.std.proofs.lemmas.List.Folds.{list_all-append}
use Rattle.std.proofs.Math.Bool.{and-true}
use Rattle.std.specs.Cmp.{first_so, second_so}
use Rattle.std.specs.Prelude.{◌&&◌, ◌||◌, if◌then◌else◌, not, nat_lt, nat_le, fold, int_div, int_lt}
use Rattle.std.specs.Int.{int_pow, int_max, int_min}
use Rattle.std.specs.List.{list_all}
use Rattle.std.specs.Option.{is_some, option_map}
use Rattle.std.specs.declared.cmp.Ordering.{Ordering}
use Rattle.std.specs.Ordering.{is_lt, is_le, is_eq, is_ne, is_gt, is_ge}
use Rattle.text_base.specs.declared.operation.Op.{Op}
use Rattle.text_base.specs.declared.operation.Op.TheVariants as op
use Rattle.text_base.specs.declared.operation.RunFault.TheVariants.{Overflow, ZeroDivide, CharRange}
use Rattle.text_base.specs.Values.{Value, integer, logical, string, Kind, integers, logicals, characters, kind_of}
use Rattle.text_base.specs.Operations.{Computed, computes, faults, unfit, is_integer, in_range, is_zero, unless_zero, divided, raised, remainder, place_in, character, number_of, of_integer, of_integers, of_logicals, of_text, of_texts, related, texts_related, all_integers, outermost, negated, is_same, magnitude, with_sign, excess, outcome, is_kind, from_kinds, from_related, from_two_or_more, outcome_kind}
use Rattle.value_ops.specs.Laws.{is_storable, IsOperationFault, OperationsFaultInThreeWays}

-- a row of the table at some values: what is given, and its type; or why it is a fault
abbrev pub Row : List Value → Computed → Option Kind → Type 0
Row vs unfit k = k ≡ None
Row vs (faults f) k = (is_some k ≡ true) × IsOperationFault f
Row vs (computes v) k = (k ≡ Some (kind_of v)) × (list_all is_storable vs ≡ true → is_storable v ≡ true)

-- ---- what is given of fitting values

range_row : (vs : List Value) (z : ℤ) → Row vs (in_range z) (Some integers)
range_row vs z = by (is_integer z) refl
  where
    by : (b : Bool) → is_integer z ≡ b → Row vs (if b then computes (integer z) else faults Overflow) (Some integers)
    by true e = (refl, λ h. e)
    by false e = (refl, inl refl)

unless_row : (vs : List Value) (z : ℤ) (c : Computed) → Row vs c (Some integers) → Row vs (unless_zero z c) (Some integers)
unless_row vs z c h = by (is_zero z)
  where
    by : (b : Bool) → Row vs (if b then faults ZeroDivide else c) (Some integers)
    by true = (refl, inr (inl refl))
    by false = h

power_row : (vs : List Value) (a b : ℤ) → Row vs (raised a b) (Some integers)
power_row vs a (pos n) = range_row vs (int_pow a n)
power_row vs a (negsuc n) = unless_row vs (int_pow a (suc n)) _ (range_row vs (int_div (pos 1) (int_pow a (suc n))))

character_row : (vs : List Value) (a : ℤ) → Row vs (character a) (Some characters)
character_row vs (pos n) = by (nat_lt n 256) refl
  where
    by : (b : Bool) → nat_lt n 256 ≡ b → Row vs (if b then computes (string (n ∷ [])) else faults CharRange) (Some characters)
    by true e = (refl, λ h. ap (λ b. b && true) e)
    by false e = (refl, inr (inr refl))
character_row vs (negsuc n) = (refl, inr (inr refl))

number_row : (t : List ℕ) → Row (string t ∷ []) (number_of t) (Some integers)
number_row (c ∷ []) = (refl, λ h. grind (arith, nat_tests))
number_row _ = (refl, inr (inr refl))

joined_row : (a b : List ℕ) → Row (string a ∷ string b ∷ []) (computes (string (a ++ b))) (Some characters)
joined_row a b = (refl, λ h. list_all-append (λ c. nat_lt c 256) a b ∙ ap (λ r. is_storable (string a) && r) (sym (and-true (is_storable (string b)))) ∙ h)

-- ---- operands

integer_row : (f : ℤ → Computed) (k : Kind) → ((a : ℤ) → Row (integer a ∷ []) (f a) (Some k)) → (vs : List Value) → Row vs (of_integer f vs) (from_kinds (integers ∷ []) k (map kind_of vs))
integer_row f k h (integer a ∷ []) = h a
integer_row f k h _ = refl

pub integers_row : (f : ℤ → ℤ → Computed) → ((vs : List Value) (a b : ℤ) → Row vs (f a b) (Some integers)) → (vs : List Value) → Row vs (of_integers f vs) (from_kinds (integers ∷ integers ∷ []) integers (map kind_of vs))
integers_row f h (integer a ∷ integer b ∷ []) = h (integer a ∷ integer b ∷ []) a b
integers_row f h _ = refl

logicals_row : (f : Bool → Bool → Bool) (vs : List Value) → Row vs (of_logicals f vs) (from_kinds (logicals ∷ logicals ∷ []) logicals (map kind_of vs))
logicals_row f (logical a ∷ logical b ∷ []) = (refl, λ h. refl)
logicals_row f _ = refl

negated_row : (vs : List Value) → Row vs (negated vs) (from_kinds (logicals ∷ []) logicals (map kind_of vs))
negated_row (logical a ∷ []) = (refl, λ h. refl)
negated_row _ = refl

text_row : (f : List ℕ → Computed) → ((t : List ℕ) → Row (string t ∷ []) (f t) (Some integers)) → (vs : List Value) → Row vs (of_text f vs) (from_kinds (characters ∷ []) integers (map kind_of vs))
text_row f h (string t ∷ []) = h t
text_row f h _ = refl

texts_row : (f : List ℕ → List ℕ → Computed) (k : Kind) → ((a b : List ℕ) → Row (string a ∷ string b ∷ []) (f a b) (Some k)) → (vs : List Value) → Row vs (of_texts f vs) (from_kinds (characters ∷ characters ∷ []) k (map kind_of vs))
texts_row f k h (string a ∷ string b ∷ []) = h a b
texts_row f k h _ = refl

related_row : (test : Ordering → Bool) (vs : List Value) → Row vs (related test vs) (from_related (map kind_of vs))
related_row test (integer a ∷ integer b ∷ []) = (refl, λ h. refl)
related_row test (string a ∷ string b ∷ []) = (refl, λ h. refl)
related_row test _ = refl

texts_related_row : (test : Ordering → Bool) (vs : List Value) → Row vs (texts_related test vs) (from_kinds (characters ∷ characters ∷ []) logicals (map kind_of vs))
texts_related_row test = texts_row _ logicals (λ a b. (refl, λ h. refl))

-- ---- two integers or more

abbrev are_integers : List Value → Bool
are_integers vs = list_all (is_kind integers) (map kind_of vs)

-- the integers of some values
abbrev Integers : List Value → Option (List ℤ) → Type 0
Integers vs None = are_integers vs ≡ false
Integers vs (Some zs) = (are_integers vs ≡ true) × (list_all is_storable vs ≡ list_all is_integer zs)

are_read : (vs : List Value) → Integers vs (all_integers vs)
are_read [] = (refl, refl)
are_read (integer a ∷ vs) = by (all_integers vs) (are_read vs)
  where
    by : (o : Option (List ℤ)) → Integers vs o → Integers (integer a ∷ vs) (option_map (λ others. a ∷ others) o)
    by None h = h
    by (Some zs) h = (h.0, ap (λ b. is_integer a && b) h.1)
are_read (logical b ∷ vs) = refl
are_read (string t ∷ vs) = refl

abbrev Picks : (ℤ → ℤ → ℤ) → Type 0
Picks choice = (x y : ℤ) → is_integer x ≡ true → is_integer y ≡ true → is_integer (choice x y) ≡ true

fold_in : (choice : ℤ → ℤ → ℤ) → Picks choice → (a : ℤ) (zs : List ℤ) → (is_integer a && list_all is_integer zs) ≡ true → is_integer (fold choice a zs) ≡ true
fold_in choice picks a [] h = first_so _ _ h
fold_in choice picks a (z ∷ zs) h =
    let t = second_so (is_integer a) _ h in
    fold_in choice picks (choice a z) zs ((λ i. picks a z (first_so _ _ h) (first_so (is_integer z) _ t) i && second_so (is_integer z) (list_all is_integer zs) t i))

two : (ks : List Kind) → nat_le 2 (suc (suc (length ks))) ≡ true
two ks = grind (arith, nat_tests)

none : (ks : List Kind) → ◌≡◌ {A = Option Kind} (if nat_le 2 (suc (suc (length ks))) && false then Some integers else None) None
none ks = ap (λ b. if b && false then Some integers else None) (two ks)

outermost_row : (choice : ℤ → ℤ → ℤ) → Picks choice → (vs : List Value) → Row vs (outermost choice (all_integers vs)) (from_two_or_more (map kind_of vs))
outermost_row choice picks [] = refl
outermost_row choice picks (integer a ∷ []) = refl
outermost_row choice picks (logical b ∷ []) = refl
outermost_row choice picks (string t ∷ []) = refl
outermost_row choice picks (integer a ∷ integer b ∷ vs) = by (all_integers vs) (are_read vs)
  where
    by : (o : Option (List ℤ)) → Integers vs o → Row (integer a ∷ integer b ∷ vs) (outermost choice (option_map (λ others. a ∷ others) (option_map (λ others. b ∷ others) o))) (from_two_or_more (map kind_of (integer a ∷ integer b ∷ vs)))
    by None h = λ i. if two (map kind_of vs) i && h i then Some integers else None
    by (Some zs) h = (λ i. if two (map kind_of vs) i && h.0 i then Some integers else None, λ g. fold_in choice picks a (b ∷ zs) ((λ i. is_integer a && (is_integer b && sym h.1 i)) ∙ g))
outermost_row choice picks (integer a ∷ logical b ∷ vs) = none (map kind_of vs)
outermost_row choice picks (integer a ∷ string b ∷ vs) = none (map kind_of vs)
outermost_row choice picks (logical b ∷ w ∷ vs) = none (map kind_of vs)
outermost_row choice picks (string b ∷ w ∷ vs) = none (map kind_of vs)

picked : (b : Bool) (x y : ℤ) → is_integer x ≡ true → is_integer y ≡ true → is_integer (if b then x else y) ≡ true
picked true x y p q = p
picked false x y p q = q

-- ---- the table

numbers : (f : ℤ → ℤ → ℤ) (vs : List Value) → Row vs (of_integers (λ a b. in_range (f a b)) vs) (from_kinds (integers ∷ integers ∷ []) integers (map kind_of vs))
numbers f = integers_row (λ a b. in_range (f a b)) (λ vs a b. range_row vs (f a b))

number : (f : ℤ → ℤ) (vs : List Value) → Row vs (of_integer (λ a. in_range (f a)) vs) (from_kinds (integers ∷ []) integers (map kind_of vs))
number f = integer_row (λ a. in_range (f a)) integers (λ a. range_row (integer a ∷ []) (f a))

pub row : (o : Op) (vs : List Value) → Row vs (outcome o vs) (outcome_kind o (map kind_of vs))
row op.Power = integers_row raised power_row
row op.Times = numbers (λ a b. a *ℤ b)
row op.Over = integers_row divided (λ vs a b. unless_row vs b _ (range_row vs (int_div a b)))
row op.Positive = number (λ a. a)
row op.Negative = number neg_ℤ
row op.Plus = numbers (λ a b. a +ℤ b)
row op.Minus = numbers (λ a b. a -ℤ b)
row op.Concat = texts_row (λ a b. computes (string (a ++ b))) characters joined_row
row op.Lt = related_row is_lt
row op.Le = related_row is_le
row op.Eq = related_row is_eq
row op.Ne = related_row is_ne
row op.Gt = related_row is_gt
row op.Ge = related_row is_ge
row op.Not = negated_row
row op.And = logicals_row (λ a b. a && b)
row op.Or = logicals_row (λ a b. a || b)
row op.Eqv = logicals_row is_same
row op.Neqv = logicals_row (λ a b. not (is_same a b))
row op.Abs = number magnitude
row op.Iabs = number magnitude
row op.Mod = integers_row remainder (λ vs a b. unless_row vs b _ (range_row vs (a -ℤ (int_div a b *ℤ b))))
row op.Sign = numbers with_sign
row op.Isign = numbers with_sign
row op.Dim = numbers excess
row op.Idim = numbers excess
row op.Max = outermost_row int_max (λ x y. picked (int_lt y x) x y)
row op.Max0 = outermost_row int_max (λ x y. picked (int_lt y x) x y)
row op.Min = outermost_row int_min (λ x y p q. picked (int_lt y x) y x q p)
row op.Min0 = outermost_row int_min (λ x y p q. picked (int_lt y x) y x q p)
row op.Len = text_row (λ t. in_range (pos (length t))) (λ t. range_row (string t ∷ []) (pos (length t)))
row op.Index = texts_row (λ a b. in_range (pos (place_in a b))) integers (λ a b. range_row (string a ∷ string b ∷ []) (pos (place_in a b)))
row op.Char = integer_row character characters (λ a. character_row (integer a ∷ []) a)
row op.Ichar = text_row number_of number_row
row op.Lge = texts_related_row is_ge
row op.Lgt = texts_related_row is_gt
row op.Lle = texts_related_row is_le
row op.Llt = texts_related_row is_lt

-- ---- what it says

pub none_is_unfit : (o : Op) (vs : List Value) → outcome_kind o (map kind_of vs) ≡ None → outcome o vs ≡ unfit
none_is_unfit o vs e = by (outcome o vs) (subst (Row vs (outcome o vs)) e (row o vs))
  where
    by : (c : Computed) → Row vs c None → c ≡ unfit
    by (computes v) r = absurd (false≢true (ap is_some r.0))
    by (faults f) r = absurd (false≢true r.0)
    by unfit r = refl

pub unfit_is_none : (o : Op) (vs : List Value) → outcome o vs ≡ unfit → outcome_kind o (map kind_of vs) ≡ None
unfit_is_none o vs e = subst (λ c. Row vs c (outcome_kind o (map kind_of vs))) e (row o vs)

-- values that fit have types that fit
pub needs : (o : Op) (vs : List Value) → (outcome o vs ≡ unfit → ⊥) → is_some (outcome_kind o (map kind_of vs)) ≡ true
needs o vs n = by (outcome_kind o (map kind_of vs)) (none_is_unfit o vs)
  where
    by : (k : Option Kind) → (k ≡ None → outcome o vs ≡ unfit) → is_some k ≡ true
    by None e = absurd (n (e refl))
    by (Some k) e = refl

-- each fault is one of operations
pub three_ways : OperationsFaultInThreeWays
three_ways o vs kind e = (subst (λ c. Row vs c (outcome_kind o (map kind_of vs))) e (row o vs)).1
