-- The statements of nested lists.
use Rattle.std.proofs.Common.{◌≡◌, ℕ, zero, suc, ◌+◌, ◌<◌, Bool, true, false, List, [], ◌∷◌, ◌++◌, length, get_or, map, take, refl, sym, ap, ◌∙◌, append_assoc, append-nil}
use Rattle.std.specs.Prelude.{◌==◌, flat_map, if◌then◌else◌}
use Rattle.std.proofs.lemmas.List.{map-append, take_more}
use Rattle.std.proofs.lemmas.Grind.{flat_map-append}
use Rattle.std.proofs.Math.Dec.{eqb-suc-zero}
use Rattle.text_base.specs.declared.refusal.Place.{Place}
use Rattle.unit77.specs.declared.tree.Arm77.{Arm77, out-Arm77, fold_out-Arm77}
use Rattle.unit77.specs.declared.tree.Item77.{Item77, out-Item77}
use Rattle.unit77.specs.Tree.{Line, Items, first_line, flat, flat_arms}
use Rattle.unit77.specs.Running.{Part}
use Rattle.unit77.specs.Views.{line, ArmPart, Placed, arm_statement, later, is_at, parts_from, arms_from, front, body_step, arm_step, item_step, body_of, item_of, arm_of, items_of}
use Rattle.unit77.proofs.Plains.{items_more, item_is, body_simple, body_guarded, body_loop, body_block}
use Rattle.unit77.proofs.Sound.{flat_join}

pub arm_out : (a : Arm77) → arm_of a ≡ record { number = (out-Arm77 a).number; label = (out-Arm77 a).label; place = (out-Arm77 a).place; test = (out-Arm77 a).test; items = items_of (out-Arm77 a).items }
unfolding body_of item_of arm_of
arm_out a = fold_out-Arm77 Placed ArmPart Items body_step arm_step item_step a

pub ruleset bodies = (body_simple, body_guarded, body_loop, body_block, map-append, append_assoc, append-nil)

grown : (start before more out new : List Line) → out ≡ start ++ before → new ≡ out ++ more → new ≡ start ++ (before ++ more)
grown start before more out new was now = now ∙ ap (λ ls. ls ++ more) was ∙ append_assoc start before more

-- one item more
pub item_more : (items : List Item77) (i : ℕ) (x : Item77) (start out new : List Line) → x ≡ get_or items i x → i < length items
    → out ≡ start ++ flat (items_of (take i items))
    → new ≡ out ++ flat (body_of (out-Item77 x).body (out-Item77 x).number (out-Item77 x).label (out-Item77 x).place)
    → new ≡ start ++ flat (items_of (take (i + 1) items))
item_more items i x start out new is lt was now =
    grown start (flat (items_of (take i items))) _ out new was (now ∙ ap (λ is. out ++ flat is) (sym (item_is x)))
    ∙ ap (λ ls. start ++ ls) (sym (
    ap (λ xs. flat (items_of xs)) (take_more items i x lt ∙ ap (λ y. take i items ++ y ∷ []) (sym is))
    ∙ ap flat (items_more (take i items) x) ∙ flat_join (items_of (take i items)) (item_of x)))

-- ---- arms

abbrev pub part_lines : Part → List Line
part_lines p = p.head ∷ flat p.items

-- the statement that an arm begins with, the first one or a later one
abbrev head_at : Bool → ℕ → ℕ → Place → ArmPart → Line
head_at b n l p a = if b then line n l p (arm_statement (is_at n l p a.number a.label a.place) a.test) else (later a).head

parts_more : (n l : ℕ) (p : Place) (arms : List Arm77) (i : ℕ) (a : ArmPart) → i < length arms
    → parts_from n l p (map arm_of (take i arms) ++ a ∷ []) ≡ parts_from n l p (map arm_of (take i arms)) ++ record { head = head_at (i == 0) n l p a; items = a.items } ∷ []
parts_more n l p [] i a lt = elim lt [ ]
parts_more n l p (x ∷ arms) zero a lt = refl
parts_more n l p (x ∷ arms) (suc i) a lt =
    ap (λ ps. record { head = head_at true n l p (arm_of x); items = (arm_of x).items } ∷ ps)
    (map-append later (map arm_of (take i arms)) (a ∷ []) ∙ ap (λ b. map later (map arm_of (take i arms)) ++ record { head = head_at b n l p a; items = a.items } ∷ []) (sym (eqb-suc-zero i)))

-- one arm more
pub arm_more : (n l : ℕ) (p : Place) (arms : List Arm77) (i : ℕ) (x : Arm77) (start out mid new : List Line) (h : Line) → x ≡ get_or arms i x → i < length arms
    → h ≡ head_at (i == 0) n l p (arm_of x)
    → out ≡ start ++ flat_map part_lines (parts_from n l p (map arm_of (take i arms)))
    → mid ≡ out ++ h ∷ [] → new ≡ mid ++ flat (items_of (out-Arm77 x).items)
    → new ≡ start ++ flat_map part_lines (parts_from n l p (map arm_of (take (i + 1) arms)))
arm_more n l p arms i x start out mid new h is lt head was next now =
    grown start (flat_map part_lines (parts_from n l p (map arm_of (take i arms)))) (h ∷ flat (items_of (out-Arm77 x).items)) out new was
    (now ∙ ap (λ ls. ls ++ flat (items_of (out-Arm77 x).items)) next ∙ append_assoc out (h ∷ []) (flat (items_of (out-Arm77 x).items)))
    ∙ ap (λ ls. start ++ ls) (sym (
    ap (λ xs. flat_map part_lines (parts_from n l p (map arm_of xs))) (take_more arms i x lt ∙ ap (λ y. take i arms ++ y ∷ []) (sym is))
    ∙ ap (λ xs. flat_map part_lines (parts_from n l p xs)) (map-append arm_of (take i arms) (x ∷ []))
    ∙ ap (flat_map part_lines) (parts_more n l p arms i (arm_of x) lt)
    ∙ flat_map-append part_lines (parts_from n l p (map arm_of (take i arms))) _
    ∙ ap (λ ls. flat_map part_lines (parts_from n l p (map arm_of (take i arms))) ++ head_at (i == 0) n l p (arm_of x) ∷ ls) (append-nil (flat (arm_of x).items))
    ∙ ap (λ k. flat_map part_lines (parts_from n l p (map arm_of (take i arms))) ++ k ∷ flat (arm_of x).items) (sym head)
    ∙ ap (λ (a : ArmPart). flat_map part_lines (parts_from n l p (map arm_of (take i arms))) ++ h ∷ flat a.items) (arm_out x)))

arms_flat : (p : Part) (ps : List Part) → flat_map part_lines (p ∷ ps) ≡ first_line (front p ps) ∷ flat_arms (front p ps)
arms_flat p [] = ap (λ ls. p.head ∷ ls) (append-nil (flat p.items))
arms_flat p (q ∷ ps) = ap (λ ls. p.head ∷ (flat p.items ++ ls)) (arms_flat q ps)

-- all arms
pub arms_all : (n l : ℕ) (p : Place) (arms : List Arm77) → false ≡ (length arms == 0)
    → flat_map part_lines (parts_from n l p (map arm_of arms)) ≡ first_line (arms_from (parts_from n l p (map arm_of arms))) ∷ flat_arms (arms_from (parts_from n l p (map arm_of arms)))
arms_all n l p [] some = absurd cc
arms_all n l p (x ∷ arms) some = arms_flat _ (map later (map arm_of arms))
