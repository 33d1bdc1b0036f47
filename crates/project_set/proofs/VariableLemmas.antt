-- The names of the variables among a unit's entities.
use Rattle.std.proofs.Common.{◌≡◌, ℕ, zero, suc, ◌<◌, Bool, true, false, cond, List, [], ◌∷◌, length, map, filter, get_or, Some, sym, ap, ◌∙◌}
use Rattle.std.specs.Prelude.{slice_get}
use Rattle.std.specs.List.{list_all}
use Rattle.std.proofs.lemmas.Bool.{and_parts}
use Rattle.std.proofs.lemmas.Option.{slice_get-get_or}
use Rattle.text_base.specs.Chars.{is_name}
use Rattle.implicit_types.specs.Typing as typing
use Rattle.implicit_types.specs.Views.{shown_entity}
use Rattle.implicit_types.specs.declared.entity.Entity.{Entity}
use Rattle.program77.specs.Typing.{is_variable}

abbrev pub names_among : List Entity → List (List ℕ)
names_among es = map (λ (e : typing.Entity). e.name) (filter is_variable (map shown_entity es))

abbrev pub are_named : List Entity → Bool
are_named es = list_all (λ (e : typing.Entity). is_name e.name) (filter is_variable (map shown_entity es))

-- a variable among them has a name
at_place : (es : List Entity) (i : ℕ) (e : Entity) → slice_get es i ≡ Some e → is_variable (shown_entity e) ≡ true → are_named es ≡ true → is_name e.name ≡ true
at_place [] i e at is all = absurd cc
at_place (x ∷ es) zero e at is all =
    let same : x ≡ e = cc in
    (and_parts (is_name e.name) _ (ap (λ b. list_all (λ (f : typing.Entity). is_name f.name) (cond b (shown_entity e ∷ filter is_variable (map shown_entity es)) (filter is_variable (map shown_entity es)))) (sym is) ∙ ap (λ y. are_named (y ∷ es)) (sym same) ∙ all)).0
at_place (x ∷ es) (suc i) e at is all = go (is_variable (shown_entity x)) all (λ h. at_place es i e at is h)
  where
    go : (b : Bool) → list_all (λ (f : typing.Entity). is_name f.name) (cond b (shown_entity x ∷ filter is_variable (map shown_entity es)) (filter is_variable (map shown_entity es))) ≡ true
        → (are_named es ≡ true → is_name e.name ≡ true) → is_name e.name ≡ true
    go true all more = more (and_parts (is_name x.name) _ all).1
    go false all more = more all

pub one_named : (es : List Entity) (i : ℕ) (e : Entity) → e ≡ get_or es i e → i < length es → is_variable (shown_entity e) ≡ true → are_named es ≡ true → is_name e.name ≡ true
one_named es i e is lt variable all = at_place es i e (slice_get-get_or es i e lt ∙ ap Some (sym is)) variable all
