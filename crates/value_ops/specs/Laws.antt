-- What holds of the table of operations.
use Rattle.std.specs.Prelude.{ℕ, suc, ◌≤◌, ◌<◌, nat_lt, ℤ, pos, negsuc, ◌-ℤ◌, ◌*ℤ◌, nat_abs, int_lt, Bool, true, List, [], ◌∷◌, ◌++◌, length, map, replicate, Some, None, ◌≡◌, ◌≢◌, ◌⊎◌, ◌↔◌}
use Rattle.std.specs.List.{list_all}
use Rattle.std.specs.declared.cmp.Ordering.TheVariants.{Equal}
use Rattle.text_base.specs.declared.operation.Op.{Op}
use Rattle.text_base.specs.declared.operation.Op.TheVariants as op
use Rattle.text_base.specs.declared.operation.RunFault.{RunFault}
use Rattle.text_base.specs.declared.operation.RunFault.TheVariants.{Overflow, ZeroDivide, CharRange}
use Rattle.text_base.specs.Values.{Value, integer, logical, string, kind_of}
use Rattle.text_base.specs.Operations.{computes, faults, unfit, is_integer, in_range, text_cmp, place_in, outcome, outcome_kind}

-- ---- types and ranges

-- a value that places can hold: an integer in the range, or characters, each of which is a byte
abbrev pub is_storable : Value → Bool
is_storable (integer z) = is_integer z
is_storable (logical b) = true
is_storable (string t) = list_all (λ c. nat_lt c 256) t

-- values don't fit an operation exactly where no type is given for their types
abbrev pub TypesFit : Type 0
TypesFit = (o : Op) (values : List Value) → (outcome o values ≡ unfit) ↔ (outcome_kind o (map kind_of values) ≡ None)

-- a value has the type that is given for the types of the operands (X3.9 section 6; ISO/IEC 1539:1991 section 7.1.4)
abbrev pub TypesAreGiven : Type 0
TypesAreGiven = (o : Op) (values : List Value) (v : Value) → outcome o values ≡ computes v → outcome_kind o (map kind_of values) ≡ Some (kind_of v)

-- the faults of operations: a result is out of the range, a divisor is 0, or a character or its number is none
abbrev pub IsOperationFault : RunFault → Type 0
IsOperationFault kind = (kind ≡ Overflow) ⊎ ((kind ≡ ZeroDivide) ⊎ (kind ≡ CharRange))

-- no operation faults in another way
abbrev pub OperationsFaultInThreeWays : Type 0
OperationsFaultInThreeWays = (o : Op) (values : List Value) (kind : RunFault) → outcome o values ≡ faults kind → IsOperationFault kind

-- values that places can hold give such a value
abbrev pub ValuesAreStorable : Type 0
ValuesAreStorable = (o : Op) (values : List Value) (v : Value) → list_all is_storable values ≡ true → outcome o values ≡ computes v → is_storable v ≡ true

-- ---- integers

-- what is left of a division by a quotient
abbrev pub left_of : ℤ → ℤ → ℤ → ℤ
left_of a b q = a -ℤ (q *ℤ b)

-- A quotient is truncated toward zero where what it leaves is less than the divisor, and is 0 or has the sign of the
-- dividend.
abbrev pub IsTruncated : ℤ → ℤ → ℤ → Type 0
IsTruncated a b q = (nat_abs (left_of a b q) < nat_abs b) × ((left_of a b q ≡ pos 0) ⊎ (int_lt (left_of a b q) (pos 0) ≡ int_lt a (pos 0)))

-- A division by other than 0 gives the truncated quotient where it is in the range. MOD gives what the quotient leaves,
-- also where the quotient is out of the range (X3.9 sections 6.1.5 and 15.10; ISO/IEC 1539:1991 sections 7.2.1.1 and 13.13).
abbrev pub QuotientsAreTruncated : Type 0
QuotientsAreTruncated = (a b : ℤ) → b ≢ pos 0 → is_integer a ≡ true
    → (q : ℤ) × IsTruncated a b q × (outcome op.Over (integer a ∷ integer b ∷ []) ≡ in_range q) × (outcome op.Mod (integer a ∷ integer b ∷ []) ≡ computes (integer (left_of a b q)))

-- the power 0 of each integer is 1, that of 0 too
abbrev pub PowersOfZero : Type 0
PowersOfZero = (a : ℤ) → outcome op.Power (integer a ∷ integer (pos 0) ∷ []) ≡ computes (integer (pos 1))

-- where a power is in the range, the next is its product with the base
abbrev pub NextPowers : Type 0
NextPowers = (a p : ℤ) (n : ℕ) → outcome op.Power (integer a ∷ integer (pos n) ∷ []) ≡ computes (integer p)
    → outcome op.Power (integer a ∷ integer (pos (suc n)) ∷ []) ≡ outcome op.Times (integer p ∷ integer a ∷ [])

-- a power below 0 divides by 0 exactly where the base is 0 (X3.9 section 6.1.5; ISO/IEC 1539:1991 section 7.2.1)
abbrev pub NegativePowers : Type 0
NegativePowers = (a : ℤ) (n : ℕ) → (outcome op.Power (integer a ∷ integer (negsuc n) ∷ []) ≡ faults ZeroDivide) ↔ (a ≡ pos 0)

-- ---- characters

-- a text begins at a place of another, counted from 1
abbrev pub BeginsAt : List ℕ → List ℕ → ℕ → Type 0
BeginsAt text part place = (before after : List ℕ) × (text ≡ before ++ (part ++ after)) × (place ≡ suc (length before))

-- INDEX is a place where the second text begins, unless it is 0 (X3.9 section 15.10; ISO/IEC 1539:1991 section 13.13)
abbrev pub IndexIsPlace : Type 0
IndexIsPlace = (text part : List ℕ) → place_in text part ≢ 0 → BeginsAt text part (place_in text part)

-- the second text begins at no place before INDEX
abbrev pub IndexIsFirst : Type 0
IndexIsFirst = (text part : List ℕ) (place : ℕ) → BeginsAt text part place → place_in text part ≤ place

-- where INDEX is 0 the second text begins nowhere
abbrev pub ZeroIsNowhere : Type 0
ZeroIsNowhere = (text part : List ℕ) (place : ℕ) → place_in text part ≡ 0 → BeginsAt text part place → ⊥

-- a text followed by blanks
abbrev pub then_blanks : List ℕ → ℕ → List ℕ
then_blanks text n = text ++ replicate n 32

-- two texts compare as they do with blanks after them (X3.9 section 6.3.5; ISO/IEC 1539:1991 section 7.2.3)
abbrev pub BlanksDontCount : Type 0
BlanksDontCount = (a b : List ℕ) (m n : ℕ) → text_cmp (then_blanks a m) (then_blanks b n) ≡ text_cmp a b

-- two texts are equal exactly where some blanks after each make them the same
abbrev pub EqualButForBlanks : Type 0
EqualButForBlanks = (a b : List ℕ) → (text_cmp a b ≡ Equal) ↔ ((m n : ℕ) × (then_blanks a m ≡ then_blanks b n))
