-- The tagged places of a unit and its objects without tags, side by side.
use Rattle.std.proofs.Common.{◌≡◌, ℕ, suc, ◌+◌, ◌<◌, pos, Bool, true, false, ◌&&◌, List, [], ◌∷◌, length, map, replicate, Option, Some, None, refl, sym, ap, ◌∙◌, subst, arith}
use Rattle.std.specs.Prelude.{slice_index_or, slice_set, unwrap_or, if◌then◌else◌}
use Rattle.std.specs.Option.{option_map, option_and_then}
use Rattle.std.specs.Str.{bytes_eq}
use Rattle.text_base.specs.Values.{Value, integer, logical, string, Held, undefined, holds_integer, holds_logical, held, integer_in}
use Rattle.text_base.specs.Evaluation.{Storage}
use Rattle.program77.specs.Layout.{Entity, entity_of, entity_named, numeric_place}
use Rattle.program77.specs.Meaning.{Store, read_at, write_at, tagged, start77}
use Rattle.tree90.specs.Tree.{Declared, integer_object}
use Rattle.tree90.specs.Meaning.{Cells, integers, logicals, Object, Objects, is_object, cells_of, with_cells, integer_at, scalar, untagged, AreDeclaredAs}
use Rattle.project_set.proofs.Names.{place_of, bytes_same}
use Rattle.project_set.proofs.Placing.{in_first, layout_at, numeric_place_is, numeric_places, entity_named_is}

-- the places of an object have the value that a place holds
abbrev pub HasValue : Held → Cells → Type 0
HasValue undefined cells = Unit {0}
HasValue (holds_integer u) cells = cells ≡ integers (u ∷ [])
HasValue (holds_logical b) cells = cells ≡ logicals (b ∷ [])

-- place by place, the object of the name has the value
abbrev pub Beside : List ℕ → List (List ℕ) → List Held → Objects → Type 0
Beside home [] [] [] = Unit {0}
Beside home (x ∷ xs) (h ∷ hs) (o ∷ os) = (o.home ≡ home) × (o.name ≡ x) × HasValue h o.cells × Beside home xs hs os
Beside home [] [] (o ∷ os) = ⊥
Beside home [] (h ∷ hs) os = ⊥
Beside home (x ∷ xs) [] os = ⊥
Beside home (x ∷ xs) (h ∷ hs) [] = ⊥

-- the object at a place
pub record Found (home : List ℕ) (x : List ℕ) (hs : List Held) (os : Objects) (i : ℕ) : Type 0 where
  pub cells : Cells
  pub is : cells_of os home x ≡ Some cells
  pub has : HasValue (slice_index_or hs i undefined) cells
  pub within : i < length hs

is_that : (home x : List ℕ) (o : Object) (b : Bool) → o.home ≡ home → bytes_eq o.name x ≡ b → is_object home x o ≡ b
is_that home x o b at named = ap (λ c. c && bytes_eq o.name x) (bytes_same o.home home at) ∙ named

same_name : (o : Object) (y x : List ℕ) (b : Bool) → o.name ≡ y → bytes_eq y x ≡ b → bytes_eq o.name x ≡ b
same_name o y x b named is = ap (λ n. bytes_eq n x) named ∙ is

module _ (home x : List ℕ) where
  -- the object of a name stands where the name does
  pub found : (names : List (List ℕ)) (hs : List Held) (os : Objects) (i : ℕ) → Beside home names hs os → place_of names x ≡ Some i → Found home x hs os i
  found [] hs os i b at = absurd cc
  found (y ∷ ys) [] os i b at = absurd b
  found (y ∷ ys) (h ∷ hs) [] i b at = absurd b
  found (y ∷ ys) (h ∷ hs) (o ∷ os) i b at = go (bytes_eq y x) refl at (λ j rest. found ys hs os j b.3 rest) (place_of ys x) refl
    where
      later : ((j : ℕ) → place_of ys x ≡ Some j → Found home x hs os j) → (c : Bool) → bytes_eq y x ≡ c → c ≡ false → (r : Option ℕ) → place_of ys x ≡ r → option_map suc r ≡ Some i → Found home x (h ∷ hs) (o ∷ os) i
      later more c is off None rest e = absurd cc
      later more c is off (Some j) rest e =
          let next : suc j ≡ i = cc in
          let f = more j rest in
          let miss = is_that home x o false b.0 (same_name o y x false b.1 (is ∙ off)) in
          subst (λ k. Found home x (h ∷ hs) (o ∷ os) k) next (record {
            cells = f.cells;
            is = ap (λ t. if t then Some o.cells else cells_of os home x) miss ∙ f.is;
            has = f.has;
            within = omega (arith, f.within);
          })

      go : (c : Bool) → bytes_eq y x ≡ c → (if c then Some 0 else option_map suc (place_of ys x)) ≡ Some i → ((j : ℕ) → place_of ys x ≡ Some j → Found home x hs os j) → (r : Option ℕ) → place_of ys x ≡ r → Found home x (h ∷ hs) (o ∷ os) i
      go true is e more r rest =
          let here : 0 ≡ i = cc in
          let hit = is_that home x o true b.0 (same_name o y x true b.1 is) in
          subst (λ k. Found home x (h ∷ hs) (o ∷ os) k) here (record {
            cells = o.cells;
            is = ap (λ t. if t then Some o.cells else cells_of os home x) hit;
            has = b.2;
            within = omega arith;
          })
      go false is e more r rest = later more false is refl r rest (sym (ap (option_map suc) rest) ∙ e)

  -- a name that isn't there has no object
  pub not_found : (names : List (List ℕ)) (hs : List Held) (os : Objects) (cells : Cells) → Beside home names hs os → place_of names x ≡ None → Beside home names hs (with_cells os home x cells)
  not_found [] [] [] cells b at = b
  not_found [] [] (o ∷ os) cells b at = absurd b
  not_found [] (h ∷ hs) os cells b at = absurd b
  not_found (y ∷ ys) [] os cells b at = absurd b
  not_found (y ∷ ys) (h ∷ hs) [] cells b at = absurd b
  not_found (y ∷ ys) (h ∷ hs) (o ∷ os) cells b at = go (bytes_eq y x) refl at (λ rest. not_found ys hs os cells b.3 rest) (place_of ys x) refl
    where
      go : (c : Bool) → bytes_eq y x ≡ c → (if c then Some 0 else option_map suc (place_of ys x)) ≡ None → (place_of ys x ≡ None → Beside home ys hs (with_cells os home x cells)) → (r : Option ℕ) → place_of ys x ≡ r → Beside home (y ∷ ys) (h ∷ hs) (with_cells (o ∷ os) home x cells)
      go true is e more r rest = absurd cc
      go false is e more None rest =
          let miss = is_that home x o false b.0 (same_name o y x false b.1 is) in
          subst (Beside home (y ∷ ys) (h ∷ hs)) (sym (ap (λ t. if t then record o { cells = cells } ∷ os else o ∷ with_cells os home x cells) miss))
          (b.0, b.1, b.2, more rest)
      go false is e more (Some j) rest = let f : ◌≡◌ {A = Option ℕ} (Some (suc j)) None = sym (ap (option_map suc) rest) ∙ e in absurd cc

  -- a definition on both sides
  pub defined : (names : List (List ℕ)) (hs : List Held) (os : Objects) (i : ℕ) (h' : Held) (cells : Cells) → Beside home names hs os → place_of names x ≡ Some i → HasValue h' cells → Beside home names (slice_set hs i h') (with_cells os home x cells)
  defined [] hs os i h' cells b at v = absurd cc
  defined (y ∷ ys) [] os i h' cells b at v = absurd b
  defined (y ∷ ys) (h ∷ hs) [] i h' cells b at v = absurd b
  defined (y ∷ ys) (h ∷ hs) (o ∷ os) i h' cells b at v = go (bytes_eq y x) refl at (λ j rest. defined ys hs os j h' cells b.3 rest v) (place_of ys x) refl
    where
      go : (c : Bool) → bytes_eq y x ≡ c → (if c then Some 0 else option_map suc (place_of ys x)) ≡ Some i → ((j : ℕ) → place_of ys x ≡ Some j → Beside home ys (slice_set hs j h') (with_cells os home x cells)) → (r : Option ℕ) → place_of ys x ≡ r → Beside home (y ∷ ys) (slice_set (h ∷ hs) i h') (with_cells (o ∷ os) home x cells)
      go true is e more r rest =
          let here : 0 ≡ i = cc in
          let hit = is_that home x o true b.0 (same_name o y x true b.1 is) in
          subst (λ k. Beside home (y ∷ ys) (slice_set (h ∷ hs) k h') (with_cells (o ∷ os) home x cells)) here
          (subst (Beside home (y ∷ ys) (h' ∷ hs)) (sym (ap (λ t. if t then record o { cells = cells } ∷ os else o ∷ with_cells os home x cells) hit))
          (b.0, b.1, v, b.3))
      go false is e more None rest = let f : None ≡ Some i = sym (ap (option_map suc) rest) ∙ e in absurd cc
      go false is e more (Some j) rest =
          let f : Some (suc j) ≡ Some i = sym (ap (option_map suc) rest) ∙ e in
          let next : suc j ≡ i = cc in
          let miss = is_that home x o false b.0 (same_name o y x false b.1 is) in
          subst (λ k. Beside home (y ∷ ys) (slice_set (h ∷ hs) k h') (with_cells (o ∷ os) home x cells)) next
          (subst (Beside home (y ∷ ys) (h ∷ slice_set hs j h')) (sym (ap (λ t. if t then record o { cells = cells } ∷ os else o ∷ with_cells os home x cells) miss))
          (b.0, b.1, b.2, more j rest))

pub beside_length : (home : List ℕ) (names : List (List ℕ)) (hs : List Held) (os : Objects) → Beside home names hs os → length hs ≡ length names
beside_length home [] [] [] b = refl
beside_length home [] [] (o ∷ os) b = absurd b
beside_length home [] (h ∷ hs) os b = absurd b
beside_length home (x ∷ xs) [] os b = absurd b
beside_length home (x ∷ xs) (h ∷ hs) [] b = absurd b
beside_length home (x ∷ xs) (h ∷ hs) (o ∷ os) b = let rest = beside_length home xs hs os b.3 in omega (arith, rest)

module _ (home : List ℕ) (names : List (List ℕ)) where
  -- the store and the objects agree
  abbrev pub Agrees : Store → Objects → Type 0
  Agrees w w' = Beside home names w.numbers w'

  abbrev pub memory77 : Storage Store
  memory77 = tagged (layout_at home names) 0

  entity_is : (x : List ℕ) → entity_named (layout_at home names).entities 0 x ≡ option_map (λ i. entity_of (i, in_first x)) (place_of names x)
  entity_is x = entity_named_is names 0 x ∙ numbers (place_of names x)
    where
      numbers : (o : Option ℕ) → ◌≡◌ {A = Option Entity} (option_map (λ i. entity_of (0 + i, in_first x)) o) (option_map (λ i. entity_of (i, in_first x)) o)
      numbers None = refl
      numbers (Some i) = let e : 0 + i ≡ i = omega arith in ap (λ n. Some (entity_of (n, in_first x))) e

  place_within : (w : Store) (w' : Objects) (x : List ℕ) (i : ℕ) → Agrees w w' → place_of names x ≡ Some i → numeric_place (layout_at home names) i 0 ≡ i
  place_within w w' x i a at =
      let f = found home x names w.numbers w' i a at in
      let same = beside_length home names w.numbers w' a in
      numeric_place_is home names i (omega (arith, f.within, same))

  integer_shown : (h : Held) (cells : Cells) (v : Value) → HasValue h cells → integer_in h ≡ Some v → ◌≡◌ {A = Option Value} (Some (integer (unwrap_or (integer_at 1 cells) (pos 0)))) (Some v)
  integer_shown undefined cells v has e = absurd cc
  integer_shown (holds_logical b) cells v has e = absurd cc
  integer_shown (holds_integer u) cells v has e = ap (λ c. Some (integer (unwrap_or (integer_at 1 c) (pos 0)))) has ∙ e

  -- what has a value is read on both sides
  pub agrees_read : (w : Store) (w' : Objects) (x : List ℕ) (v : Value) → Agrees w w' → memory77.read w x ≡ Some v → (untagged home).read w' x ≡ Some v
  agrees_read w w' x v a e = go (place_of names x) refl (sym (ap (read_at (layout_at home names) w) (entity_is x)) ∙ e)
    where
      go : (o : Option ℕ) → place_of names x ≡ o → read_at (layout_at home names) w (option_map (λ i. entity_of (i, in_first x)) o) ≡ Some v → (untagged home).read w' x ≡ Some v
      go None at r = absurd cc
      go (Some i) at r =
          let f = found home x names w.numbers w' i a at in
          let here : integer_in (slice_index_or w.numbers i undefined) ≡ Some v = sym (ap (λ k. integer_in (slice_index_or w.numbers k undefined)) (place_within w w' x i a at)) ∙ r in
          ap (λ c. Some (integer (unwrap_or (option_and_then (integer_at 1) c) (pos 0)))) f.is ∙ integer_shown _ f.cells v f.has here

  has_held : (v : Value) → HasValue (held v) (scalar v)
  has_held (integer v) = refl
  has_held (logical b) = refl
  has_held (string t) = tt

  -- a definition is kept on both sides
  pub agrees_write : (w : Store) (w' : Objects) (x : List ℕ) (v : Value) → Agrees w w' → Agrees (memory77.write w x v) ((untagged home).write w' x v)
  agrees_write w w' x v a = subst (λ o. Agrees (write_at (layout_at home names) w o v) (with_cells w' home x (scalar v))) (sym (entity_is x)) (go (place_of names x) refl)
    where
      go : (o : Option ℕ) → place_of names x ≡ o → Agrees (write_at (layout_at home names) w (option_map (λ i. entity_of (i, in_first x)) o) v) (with_cells w' home x (scalar v))
      go None at = not_found home x names w.numbers w' (scalar v) a at
      go (Some i) at =
          subst (λ k. Beside home names (slice_set w.numbers k (held v)) (with_cells w' home x (scalar v))) (sym (place_within w w' x i a at))
          (defined home x names w.numbers w' i (held v) (scalar v) a at (has_held v))

-- the declarations of a unit that are of these names
abbrev pub declarations : List ℕ → List (List ℕ) → List (List ℕ × Declared)
declarations home names = map (λ d. (home, d)) (map integer_object names)

starts : (home : List ℕ) (names : List (List ℕ)) (os : Objects) → AreDeclaredAs (declarations home names) os → Beside home names (replicate (length names) undefined) os
starts home [] [] are = tt
starts home [] (o ∷ os) are = absurd are
starts home (x ∷ xs) [] are = absurd are
starts home (x ∷ xs) (o ∷ os) ((v, is), rest) = (ap (λ (p : Object). p.home) is, ap (λ (p : Object). p.name) is, tt, starts home xs os rest)

-- at the start nothing is defined, whatever the objects hold
pub agrees_start : (home : List ℕ) (names : List (List ℕ)) (os : Objects) → AreDeclaredAs (declarations home names) os → Agrees home names (start77 (layout_at home names)) os
agrees_start home names os are = subst (λ k. Beside home names (replicate k undefined) os) (sym (numeric_places home names)) (starts home names os are)
