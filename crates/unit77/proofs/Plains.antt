-- The equations of the views.
use Rattle.std.proofs.Common.{◌≡◌, ℕ, true, false, Option, List, [], ◌∷◌, ◌++◌, map, refl, sym, ap, ◌∙◌}
use Rattle.std.specs.Prelude.{◌==◌}
use Rattle.std.proofs.lemmas.Bool.{eq-eqb}
use Rattle.std.proofs.lemmas.List.{map-append}
use Rattle.std.proofs.lemmas.List.Sums.{fold-append}
use Rattle.text_base.specs.declared.refusal.Place.{Place}
use Rattle.expr_tree.specs.Plain.{expr_of}
use Rattle.expr_tree.specs.declared.tree.Expr.{Expr}
use Rattle.tree77.specs.Statements as s
use Rattle.tree77.specs.StatementPlain.{simple_of}
use Rattle.tree77.specs.declared.statement.Stmt77.{Stmt77}
use Rattle.unit77.specs.declared.tree.Body77.{Body77, fold-roll-Body77, map-Body77, roll-Body77}
use Rattle.unit77.specs.declared.tree.Body77.TheOpen.{Body77-F, Arm77-F}
use Rattle.unit77.specs.declared.tree.Body77.TheVariants as v
use Rattle.unit77.specs.declared.tree.Item77.{Item77, out-Item77, fold_out-Item77}
use Rattle.unit77.specs.declared.tree.Arm77.{Arm77, roll-Arm77, fold-roll-Arm77}
use Rattle.unit77.specs.declared.tree.DoHead.{DoHead}
use Rattle.unit77.specs.declared.tree.EndIf.{EndIf}
use Rattle.unit77.specs.declared.nester.Construct.TheVariants as construct
use Rattle.unit77.specs.declared.nester.Open as code
use Rattle.unit77.specs.declared.nester.Spot.{Spot}
use Rattle.unit77.proofs.Complete.{join_done, join_assoc}
use Rattle.order77.specs.Counts.{simple_sort}
use Rattle.unit77.specs.Tree.{Line, Items, done, simple, loop, block, last, arm}
use Rattle.unit77.specs.Running.{Part, Open, join, arms_before, state, parted, closed, moved, ended}
use Rattle.unit77.specs.Views.{line, is_at, ArmPart, later, arm_statement, parts_of, open_arm, Placed, parts_from, arms_from, do_statement, body_step, arm_step, item_step, body_of, item_of, arm_of, items_of, arms_in, head_in, open_of, pushed, stack_of}

body_roll : (x : Body77-F Body77 Arm77 Item77) → body_of (roll-Body77 x) ≡ body_step (map-Body77 Body77 Arm77 Item77 Placed ArmPart Items body_of arm_of item_of x)
unfolding body_of arm_of item_of
body_roll x = fold-roll-Body77 Placed ArmPart Items body_step arm_step item_step x

pub body_simple : (a : Stmt77) (n l : ℕ) (p : Place) → body_of (v.Simple a) n l p ≡ simple (line n l p (s.simple (simple_of a))) done
body_simple a n l p = ap (λ b. body_of b n l p) (sym (v.rolls-Simple a)) ∙ ap (λ (f : Placed). f n l p) (body_roll (Body77-F.Simple a))

pub body_guarded : (x : Expr) (a : Stmt77) (n l : ℕ) (p : Place) → body_of (v.Guarded x a) n l p ≡ simple (line n l p (s.guarded (expr_of x) (simple_of a))) done
body_guarded x a n l p = ap (λ b. body_of b n l p) (sym (v.rolls-Guarded x a)) ∙ ap (λ (f : Placed). f n l p) (body_roll (Body77-F.Guarded x a))

pub body_loop : (h : DoHead) (is : List Item77) (n l : ℕ) (p : Place) → body_of (v.Do h is) n l p ≡ loop (line n l p (do_statement h)) (items_of is) done
body_loop h is n l p = ap (λ b. body_of b n l p) (sym (v.rolls-Do h is)) ∙ ap (λ (f : Placed). f n l p) (body_roll (Body77-F.Do h is))

pub body_block : (arms : List Arm77) (e : EndIf) (n l : ℕ) (p : Place) → body_of (v.If arms e) n l p ≡ block (arms_from (parts_from n l p (map arm_of arms))) (line e.number e.label e.place s.end_if) done
body_block arms e n l p = ap (λ b. body_of b n l p) (sym (v.rolls-If arms e)) ∙ ap (λ (f : Placed). f n l p) (body_roll (Body77-F.If arms e))

pub item_is : (i : Item77) → item_of i ≡ body_of (out-Item77 i).body (out-Item77 i).number (out-Item77 i).label (out-Item77 i).place
unfolding body_of item_of arm_of
item_is i = fold_out-Item77 Placed ArmPart Items body_step arm_step item_step i

pub arm_is : (x : Arm77-F Body77 Arm77 Item77) → arm_of (roll-Arm77 x) ≡ record { number = x.number; label = x.label; place = x.place; test = x.test; items = items_of x.items }
unfolding body_of item_of arm_of
arm_is x = fold-roll-Arm77 Placed ArmPart Items body_step arm_step item_step x

-- ---- what a push adds

pub items_more : (xs : List Item77) (x : Item77) → items_of (xs ++ x ∷ []) ≡ join (items_of xs) (item_of x)
items_more [] x = join_done (item_of x)
items_more (y ∷ ys) x = ap (join (item_of y)) (items_more ys x) ∙ sym (join_assoc (item_of y) (items_of ys) (item_of x))

arms_last : (ps : List Part) (p : Part) → arms_from (ps ++ p ∷ []) ≡ arms_before ps (last p.head p.items)
arms_last [] p = refl
arms_last (q ∷ []) p = refl
arms_last (q ∷ r ∷ ps) p = ap (arm q.head q.items) (arms_last (r ∷ ps) p)

-- one arm more
pub parts_more : (at here : Spot) (test : Option Expr) (is : Items) (arms : List Arm77) (a : Arm77)
    → arm_of a ≡ record { number = here.number; label = here.label; place = here.place; test = test; items = is }
    → parts_of at (arms ++ a ∷ []) ≡ parts_of at arms ++ record { head = open_arm at arms here test; items = is } ∷ []
parts_more at here test is [] a e =
    ap (λ (x : ArmPart). record { head = line at.number at.label at.place (arm_statement (is_at at.number at.label at.place x.number x.label x.place) x.test); items = x.items } ∷ []) e
parts_more at here test is (b ∷ bs) a e =
    ap (λ ps. record { head = line at.number at.label at.place (arm_statement (is_at at.number at.label at.place (arm_of b).number (arm_of b).label (arm_of b).place) (arm_of b).test); items = (arm_of b).items } ∷ ps)
    (ap (map later) (map-append arm_of bs (a ∷ [])) ∙ map-append later (map arm_of bs) (arm_of a ∷ []) ∙ ap (λ (x : ArmPart). map later (map arm_of bs) ++ later x ∷ []) e)

-- behind some arms the next one is a later one
pub open_more : (at here : Spot) (test : Option Expr) (arms : List Arm77) (a : Arm77) → open_arm at (arms ++ a ∷ []) here test ≡ line here.number here.label here.place (arm_statement false test)
open_more at here test [] a = refl
open_more at here test (b ∷ bs) a = refl

pub stack_more : (os : List code.Open) (o : code.Open) → stack_of (os ++ o ∷ []) ≡ open_of o ∷ stack_of os
stack_more os o = fold-append pushed [] os (o ∷ [])

-- an arm ends, and the next begins
pub arm_parted : (os old new : List code.Open) (o : code.Open) (arms : List Arm77) (here at : Spot) (tested test : Option Expr) (a : Arm77) (is : Items)
    → old ≡ os ++ o ∷ [] → o.construct ≡ construct.If arms here tested
    → arm_of a ≡ record { number = here.number; label = here.label; place = here.place; test = tested; items = is }
    → new ≡ os ++ record { before = o.before; at = o.at; construct = construct.If (arms ++ a ∷ []) at test } ∷ []
    → state done (stack_of new) ≡ parted (line at.number at.label at.place (arm_statement false test)) is (stack_of old)
arm_parted os old new o arms here at tested test a is was kind made now =
    ap (λ x. state done (stack_of x)) now ∙ ap (state done) (stack_more os _)
    ∙ ap (λ ps. state done (record { before = items_of o.before; arms = ps; head = open_arm o.at (arms ++ a ∷ []) at test } ∷ stack_of os)) (parts_more o.at here tested is arms a made)
    ∙ ap (λ h. state done (record { before = items_of o.before; arms = parts_of o.at arms ++ record { head = open_arm o.at arms here tested; items = is } ∷ []; head = h } ∷ stack_of os)) (open_more o.at at test arms a)
    ∙ ap (λ k. parted next is (record { before = items_of o.before; arms = arms_in o.at k; head = head_in o.at k } ∷ stack_of os)) (sym kind)
    ∙ ap (parted next is) (sym (ap stack_of was ∙ stack_more os o))
  where
    next : Line
    next = line at.number at.label at.place (arm_statement false test)

-- an IF ends
pub if_closed : (os old : List code.Open) (o : code.Open) (arms : List Arm77) (here : Spot) (tested : Option Expr) (a : Arm77) (is : Items) (e : EndIf) (i : Item77) (items : List Item77)
    → old ≡ os ++ o ∷ [] → o.construct ≡ construct.If arms here tested
    → arm_of a ≡ record { number = here.number; label = here.label; place = here.place; test = tested; items = is }
    → item_of i ≡ body_of (v.If (arms ++ a ∷ []) e) o.at.number o.at.label o.at.place → items ≡ o.before ++ i ∷ []
    → state (items_of items) (stack_of os) ≡ closed (line e.number e.label e.place s.end_if) is (stack_of old)
if_closed os old o arms here tested a is e i items was kind made item now =
    ap (λ x. state x (stack_of os))
    (ap items_of now ∙ items_more o.before i ∙ ap (join (items_of o.before))
    (item ∙ body_block (arms ++ a ∷ []) e o.at.number o.at.label o.at.place
    ∙ ap (λ ps. block (arms_from ps) last_line done) (parts_more o.at here tested is arms a made)
    ∙ ap (λ x. block x last_line done) (arms_last (parts_of o.at arms) _)))
    ∙ ap (λ k. closed last_line is (record { before = items_of o.before; arms = arms_in o.at k; head = head_in o.at k } ∷ stack_of os)) (sym kind)
    ∙ ap (closed last_line is) (sym (ap stack_of was ∙ stack_more os o))
  where
    last_line : Line
    last_line = line e.number e.label e.place s.end_if

-- a simple statement is taken, whatever its sort is
pub simple_moved : (a : s.Simple) (l : Line) (is : Items) (os : List Open) → moved (simple_sort a) l is os ≡ ended l.label (join is (simple l done)) os
simple_moved (s.goto k) l is os = refl
simple_moved (s.arithmetic x a b c) l is os = refl
simple_moved s.return_ l is os = refl
simple_moved (s.stop c) l is os = refl
simple_moved (s.assign x y) l is os = refl
simple_moved (s.computed ks x) l is os = refl
simple_moved s.continue l is os = refl
simple_moved (s.calling f xs) l is os = refl
simple_moved (s.read b xs) l is os = refl
simple_moved (s.write c xs) l is os = refl
simple_moved (s.print f xs) l is os = refl
simple_moved (s.open_ c) l is os = refl
simple_moved (s.close_ c) l is os = refl
simple_moved (s.rewind c) l is os = refl

-- an IF begins where it stands
same : (n : ℕ) → (n == n) ≡ true
same n = eq-eqb n n refl

pub at_itself : (n l : ℕ) (p : Place) → is_at n l p n l p ≡ true
at_itself n l p = rw (same n, same l, same p.file, same p.line) refl

pub ruleset taking = (simple_moved, body_simple, body_guarded, at_itself)

pub ruleset pushes = (items_more, open_more, stack_more, body_loop, body_block)
