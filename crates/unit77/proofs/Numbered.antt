-- What is refused of statements is refused at some of them: what holds of their numbers holds of those.
use Rattle.std.proofs.Common.{ℕ, Bool, true, false, ◌||◌, List, [], ◌∷◌, ◌++◌, map, fold, Option, Some, None}
use Rattle.std.specs.Prelude.{nat_le, not, length, if◌then◌else◌}
use Rattle.unit77.specs.declared.limits.TheConstants.{MOST_LABELS}
use Rattle.order77.specs.declared.mark.Sort.{Sort}
use Rattle.order77.specs.declared.mark.Sort.TheVariants.{Plain, Leaving, Do, If, ElseIf, Else, EndIf}
use Rattle.order77.specs.declared.mark.Mark.{Mark}
use Rattle.order77.specs.declared.mark.Stray.{Stray}
use Rattle.order77.specs.declared.mark.Fault.TheVariants as fault
use Rattle.unit77.specs.Nesting.{names, named}
use Rattle.unit77.specs.Running.{may_part, may_close}
use Rattle.unit77.specs.Refusals.{without, outer, next_open, is_wrong, naming, strays, ended_wrongly, lacking, wrong, shown, is_loop, has_if, loops, unended, at_end}
use Rattle.order77.specs.Counts.{Reading, counts_as, is_first, sort_in, is_end}
use Rattle.unit77.specs.Units.{mark_as, open_behind, open_after, jumps_among, stray, strays_where, is_deep, nesting_strays, is_out_of_order, strays_at, different, end_strays, missing, strays_behind, file_strays}

abbrev pub Each : {A : Type 0} → (A → Type 0) → List A → Type 0
Each P [] = Unit {0}
Each P (x ∷ xs) = P x × Each P xs

pub each_append : {A : Type 0} (P : A → Type 0) (xs ys : List A) → Each P xs → Each P ys → Each P (xs ++ ys)
each_append P [] ys a b = b
each_append P (x ∷ xs) ys a b = (a.0, each_append P xs ys a.1 b)

pub either : {A : Type 0} (P : A → Type 0) (b : Bool) (x y : A) → P x → P y → P (if b then x else y)
either P true x y p q = p
either P false x y p q = q

-- Q holds of the numbers
abbrev Marks : (ℕ → Type 0) → List Mark → Type 0
Marks Q hs = Each (λ (m : Mark). Q m.number) hs

abbrev pub Strays : (ℕ → Type 0) → List Stray → Type 0
Strays Q xs = Each (λ (x : Stray). Q x.number) xs

abbrev pub Readings : (ℕ → Type 0) → List Reading → Type 0
Readings Q rs = Each (λ (r : Reading). Q r.number) rs

-- ---- open constructs

of_without : (Q : ℕ → Type 0) (k : ℕ) (hs : List Mark) → Marks Q hs → Marks Q (without k hs)
of_without Q k [] a = tt
of_without Q k (h ∷ hs) a = either (Marks Q) (names k h.sort) (without k hs) (h ∷ without k hs) (of_without Q k hs a.1) (a.0, of_without Q k hs a.1)

of_outer : (Q : ℕ → Type 0) (hs : List Mark) → Marks Q hs → Marks Q (outer hs)
of_outer Q [] a = tt
of_outer Q (h ∷ hs) a = a.1

of_next : (Q : ℕ → Type 0) (k : Sort) (m : Mark) (hs : List Mark) → Q m.number → Marks Q hs → Marks Q (next_open k m hs)
of_next Q Plain m hs q a = of_without Q m.label hs a
of_next Q Leaving m hs q a = of_without Q m.label hs a
of_next Q (Do t) m hs q a = (q, of_without Q m.label hs a)
of_next Q If m hs q a = (q, of_without Q m.label hs a)
of_next Q ElseIf m hs q a = either (Marks Q) (may_part hs) (m ∷ outer hs) hs (q, of_outer Q hs a) a
of_next Q Else m hs q a = either (Marks Q) (may_part hs) (m ∷ outer hs) hs (q, of_outer Q hs a) a
of_next Q EndIf m hs q a = either (Marks Q) (may_close hs) (outer hs) hs (of_outer Q hs a) a

of_behind : (Q : ℕ → Type 0) (o : Option Sort) (hs : List Mark) (r : Reading) → Q r.number → Marks Q hs → Marks Q (open_behind o hs r)
of_behind Q None hs r q a = a
of_behind Q (Some k) hs r q a = of_next Q k (mark_as r k) hs q a

of_open : (Q : ℕ → Type 0) (before : List Reading) (hs : List Mark) → Readings Q before → Marks Q hs → Marks Q (fold (λ hs r. open_behind (sort_in (counts_as r)) hs r) hs before)
of_open Q [] hs p a = a
of_open Q (r ∷ before) hs p a = of_open Q before (open_behind (sort_in (counts_as r)) hs r) p.1 (of_behind Q (sort_in (counts_as r)) hs r p.0 a)

of_naming : (Q : ℕ → Type 0) (k : ℕ) (hs : List Mark) → Marks Q hs → Marks Q (naming k hs)
of_naming Q k [] a = tt
of_naming Q k (h ∷ hs) a = either (Marks Q) (names k h.sort) (naming k hs ++ h ∷ []) (naming k hs) (each_append _ (naming k hs) (h ∷ []) (of_naming Q k hs a.1) (a.0, tt)) (of_naming Q k hs a.1)

of_inner : (Q : ℕ → Type 0) (k : ℕ) (hs : List Mark) → Marks Q hs → Marks Q (strays k hs)
of_inner Q k [] a = tt
of_inner Q k (h ∷ hs) a = either (Marks Q) (names k h.sort) (strays k hs) (naming k hs) (of_inner Q k hs a.1) (of_naming Q k hs a.1)

of_ended : (Q : ℕ → Type 0) (k : Sort) (l : ℕ) (hs : List Mark) → Marks Q hs → Marks Q (ended_wrongly k l hs)
of_ended Q ElseIf l hs a = tt
of_ended Q Else l hs a = tt
of_ended Q EndIf l hs a = tt
of_ended Q Plain l hs a = of_inner Q l hs a
of_ended Q Leaving l hs a = of_inner Q l hs a
of_ended Q (Do t) l hs a = of_inner Q l hs a
of_ended Q If l hs a = of_inner Q l hs a

of_loops : (Q : ℕ → Type 0) (hs : List Mark) → Marks Q hs → Marks Q (loops hs)
of_loops Q [] a = tt
of_loops Q (h ∷ hs) a = either (Marks Q) (is_loop h.sort) (loops hs ++ h ∷ []) (loops hs) (each_append _ (loops hs) (h ∷ []) (of_loops Q hs a.1) (a.0, tt)) (of_loops Q hs a.1)

of_unended : (Q : ℕ → Type 0) (k : ℕ) (hs : List Mark) → Marks Q hs → Marks Q (unended k hs)
of_unended Q k [] a = tt
of_unended Q k (h ∷ hs) a = either (Marks Q) (names k h.sort) (unended k hs) (loops (h ∷ hs)) (of_unended Q k hs a.1) (of_loops Q (h ∷ hs) a)

-- ---- what is refused

of_lacking : (Q : ℕ → Type 0) (hs : List Mark) → Marks Q hs → Strays Q (map lacking hs)
of_lacking Q [] a = tt
of_lacking Q (h ∷ hs) a = (a.0, of_lacking Q hs a.1)

-- one refusal or none, and DOs
of_one : (Q : ℕ → Type 0) (b : Bool) (x : Stray) (hs : List Mark) → Q x.number → Marks Q hs → Strays Q ((if b then x ∷ [] else []) ++ map lacking hs)
of_one Q b x hs q a = each_append _ (if b then x ∷ [] else []) (map lacking hs) (either (Strays Q) b (x ∷ []) [] (q, tt) tt) (of_lacking Q hs a)

of_shown : (Q : ℕ → Type 0) (o : Option Sort) (hs : List Mark) (r : Reading) → Q r.number → Marks Q hs → Strays Q (nesting_strays o hs r)
of_shown Q None hs r q a = tt
of_shown Q (Some k) hs r q a =
    each_append _ (shown hs (mark_as r k)) (strays_where (is_deep hs (mark_as r k)) (stray r fault.Depth))
    (of_one Q (is_wrong k r.label hs) (wrong (mark_as r k)) (ended_wrongly k r.label hs) q (of_ended Q k r.label hs a))
    (either (Strays Q) (is_deep hs (mark_as r k)) (stray r fault.Depth ∷ []) [] (q, tt) tt)

of_statement : (Q : ℕ → Type 0) (before : List Reading) (r : Reading) → Readings Q before → Q r.number → Strays Q (strays_at before r)
of_statement Q before r p q =
    each_append _ (strays_where (is_out_of_order before r) (stray r fault.Order)) (nesting_strays (sort_in (counts_as r)) (open_after before) r)
    (either (Strays Q) (is_out_of_order before r) (stray r fault.Order ∷ []) [] (q, tt) tt)
    (of_shown Q (sort_in (counts_as r)) (open_after before) r q (of_open Q before [] p tt))

of_end : (Q : ℕ → Type 0) (before : List Reading) (e : Reading) → Readings Q before → Q e.number → Strays Q (end_strays before e)
of_end Q before e p q =
    let a = of_open Q before [] p tt in
    let many = not (nat_le (length (different (jumps_among before))) MOST_LABELS) in
    each_append _ (at_end (open_after before) (mark_as e Leaving)) (strays_where many (stray e fault.Labels))
    (of_one Q (has_if (open_after before) || named e.label (open_after before)) (wrong (mark_as e Leaving)) (unended e.label (open_after before)) q (of_unended Q e.label (open_after before) a))
    (either (Strays Q) many (stray e fault.Labels ∷ []) [] (q, tt) tt)

of_missing : (Q : ℕ → Type 0) (before : List Reading) (n : ℕ) → Readings Q before → Q n → Strays Q (missing before n)
of_missing Q before n p q =
    either (Strays Q) (is_first before) [] (map lacking (loops (open_after before)) ++ record { number = n; fault = fault.MissingEnd } ∷ []) tt
    (each_append _ (map lacking (loops (open_after before))) (record { number = n; fault = fault.MissingEnd } ∷ []) (of_lacking Q (loops (open_after before)) (of_loops Q (open_after before) (of_open Q before [] p tt))) (q, tt))

of_all : (Q : ℕ → Type 0) (before : List Reading) (n : ℕ) (rs : List Reading) → Readings Q before → Q n → Readings Q rs → Strays Q (strays_behind before n rs)
of_all Q before n [] p q a = of_missing Q before n p q
of_all Q before n (r ∷ rs) p q a =
    either (Strays Q) (is_end (counts_as r)) (end_strays before r ++ strays_behind [] r.number rs) (strays_at before r ++ strays_behind (before ++ r ∷ []) r.number rs)
    (each_append _ (end_strays before r) (strays_behind [] r.number rs) (of_end Q before r p a.0) (of_all Q [] r.number rs tt a.0 a.1))
    (each_append _ (strays_at before r) (strays_behind (before ++ r ∷ []) r.number rs) (of_statement Q before r p a.0) (of_all Q (before ++ r ∷ []) r.number rs (each_append _ before (r ∷ []) p (a.0, tt)) a.0 a.1))

pub of_file : (Q : ℕ → Type 0) (rs : List Reading) → Readings Q rs → Strays Q (file_strays rs)
of_file Q [] a = tt
of_file Q (r ∷ rs) a = of_all Q [] r.number (r ∷ rs) tt a.0 a
