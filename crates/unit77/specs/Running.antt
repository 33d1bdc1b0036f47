-- Nesting by one pass: a list that grows, and the constructs that it stands in.
use Rattle.std.specs.Prelude.{not, ℕ, Bool, true, false, List, [], ◌∷◌, ◌++◌, map, Option, Some, None, if◌then◌else◌}
use Rattle.unit77.specs.Tree.{Line, Items, done, simple, loop, block, Arms, last, arm}
use Rattle.order77.specs.declared.mark.Sort.{Sort}
use Rattle.order77.specs.declared.mark.Sort.TheVariants.{Plain, Do, If, ElseIf, Else, EndIf}
use Rattle.order77.specs.declared.mark.Mark.{Mark}
use Rattle.unit77.specs.Nesting.{mark, sort, names, named}

abbrev pub join : Items → Items → Items
join done more = more
join (simple l is) more = simple l (join is more)
join (loop l inside is) more = loop l inside (join is more)
join (block arms e is) more = block arms e (join is more)

pub record Part : Type 0 where
  pub head : Line
  pub items : Items

abbrev pub arms_before : List Part → Arms → Arms
arms_before [] arms = arms
arms_before (p ∷ ps) arms = arm p.head p.items (arms_before ps arms)

-- an open construct: the list that it stands in, its earlier arms, and the statement that its open list begins with
pub record Open : Type 0 where
  pub before : Items
  pub arms : List Part
  pub head : Line

pub record State : Type 0 where
  pub items : Items
  pub open_ : List Open

abbrev pub head_of : Open → Mark
head_of o = mark o.head

abbrev pub heads : List Open → List Mark
heads os = map head_of os

abbrev pub state : Items → List Open → State
state is os = record { items = is; open_ = os }

abbrev pub opened : Items → Line → Open
opened is h = record { before = is; arms = []; head = h }

-- a construct begins
abbrev pub entered : Line → Items → List Open → State
entered l is os = state done (opened is l ∷ os)

-- ends the innermost DOs that name the label
abbrev pub ended : ℕ → Items → List Open → State
ended k is [] = state is []
ended k is (o ∷ os) = if names k (sort o.head) then ended k (join o.before (loop o.head is done)) os else state is (o ∷ os)

-- an arm begins
abbrev pub parted : Line → Items → List Open → State
parted l is [] = state is []
parted l is (o ∷ os) = state done (record { before = o.before; arms = o.arms ++ record { head = o.head; items = is } ∷ []; head = l } ∷ os)

-- an IF ends
abbrev pub closed : Line → Items → List Open → State
closed l is [] = state is []
closed l is (o ∷ os) = state (join o.before (block (arms_before o.arms (last o.head is)) l done)) os

abbrev pub moved : Sort → Line → Items → List Open → State
moved (Do t) l is os = entered l is os
moved If l is os = entered l is os
moved ElseIf l is os = parted l is os
moved Else l is os = parted l is os
moved EndIf l is os = closed l is os
moved _ l is os = ended l.label (join is (simple l done)) os

abbrev pub step : State → Line → State
step s l = moved (sort l) l s.items s.open_

-- ---- where a statement fits

abbrev pub is_if : Sort → Bool
is_if If = true
is_if ElseIf = true
is_if _ = false

abbrev pub is_arm : Sort → Bool
is_arm Else = true
is_arm h = is_if h

abbrev pub may_part : List Mark → Bool
may_part [] = false
may_part (h ∷ hs) = is_if h.sort

abbrev pub may_close : List Mark → Bool
may_close [] = false
may_close (h ∷ hs) = is_arm h.sort

-- the open DOs that name the label are the innermost constructs
abbrev pub in_own_list : ℕ → List Mark → Bool
in_own_list k [] = true
in_own_list k (h ∷ hs) = if names k h.sort then in_own_list k hs else not (named k hs)

abbrev pub fits_sort : Sort → ℕ → List Mark → Bool
fits_sort Plain k hs = in_own_list k hs
fits_sort ElseIf k hs = may_part hs
fits_sort Else k hs = may_part hs
fits_sort EndIf k hs = may_close hs
fits_sort _ k hs = not (named k hs)

abbrev pub fits : List Mark → Mark → Bool
fits hs m = fits_sort m.sort m.label hs

abbrev pub end_of : Items → List Open → Option Items
end_of is [] = Some is
end_of is (o ∷ os) = None

abbrev pub run : State → List Line → Option Items
run s [] = end_of s.items s.open_
run s (l ∷ ls) = if fits (heads s.open_) (mark l) then run (step s l) ls else None

abbrev pub start : State
start = state done []
