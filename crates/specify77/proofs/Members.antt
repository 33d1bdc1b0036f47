-- Members of COMMON are taken from the last on.
use Rattle.std.proofs.Common.{◌≡◌, List, [], ◌∷◌, ◌++◌, map, reverse, refl, ap}
use Rattle.std.proofs.lemmas.List.{reverse-append}
use Rattle.specify77.specs.MemberViews.{member_of}
use Rattle.specify77.specs.declared.blocks.Member.{Member}
use Rattle.tree77.specs.SpecificationForms as form
use Rattle.tree77.specs.Statements.{Block, Declarator}

-- the last of a list is the first of what it is from the last to the first
pub turned : {A B : Type 0} (f : A → B) (xs : List A) (x : A) → map f (reverse (xs ++ x ∷ [])) ≡ f x ∷ map f (reverse xs)
turned f xs x = ap (map f) (reverse-append xs (x ∷ []))

-- members before members of no block yet and blocks
abbrev pub onto : List form.Member → List Declarator × List Block → List Declarator × List Block
onto [] p = p
onto (m ∷ ms) p = form.add_member m.block m.declared (onto ms p)

pub onto_none : (ms : List form.Member) → onto ms ([], []) ≡ form.in_blocks ms
onto_none [] = refl
onto_none (m ∷ ms) = ap (form.add_member m.block m.declared) (onto_none ms)

pub onto_last : (ms : List Member) (m : Member) (p : List Declarator × List Block) → onto (map member_of (ms ++ m ∷ [])) p ≡ onto (map member_of ms) (form.add_member (member_of m).block (member_of m).declared p)
onto_last [] m p = refl
onto_last (n ∷ ms) m p = ap (form.add_member (member_of n).block (member_of n).declared) (onto_last ms m p)

pub ruleset members_onto = (onto_none, onto_last)
