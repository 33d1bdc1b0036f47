-- The map of a program of one unit: a line for each variable, and no other.
use Rattle.std.proofs.Common.{◌≡◌, ℕ, zero, suc, ◌+◌, ◌-◌, ◌<◌, Bool, true, false, not, ◌&&◌, List, [], ◌∷◌, ◌++◌, length, map, codes, Contains, Option, Some, None, refl, sym, ap, ◌∙◌, subst, arith, nat_lt}
use Rattle.std.specs.Prelude.{slice_get, slice_index_or, if◌then◌else◌}
use Rattle.std.specs.List.{enumerate_from}
use Rattle.std.specs.Option.{option_map, option_and_then}
use Rattle.std.proofs.lemmas.List.{append_cancel_left}
use Rattle.std.proofs.lemmas.Option.{slice_get-map, slice_get-get_or, slice_get_within, get_or_from_slice_get}
use Rattle.text_base.specs.Values.{Held, undefined, holds_integer, holds_logical, Kind, integers, logicals}
use Rattle.program77.specs.Layout.{Sequence, Entity, Layout, sequence_of, entity_of, numeric_place, text_place}
use Rattle.program77.specs.Meaning.{Store}
use Rattle.tree90.specs.Tree.{integer_object, FreeProgram}
use Rattle.tree90.specs.Meaning.{Cells, Objects, cells_of, integer_at, declared_in}
use Rattle.project_set.specs.MapText.{MapLine, home_text, sequence_text, map_line_of}
use Rattle.project_set.specs.Match.{IsSeen, Covers, object_place, OneLine, IsObjectPlace, IsNeeded, IsMap, held_in, held_at, byte_in, IsCarried}
use Rattle.project_set.proofs.Names.{Distinct, one_place, place_at}
use Rattle.project_set.proofs.Placing.{in_first, layout_at, numeric_place_is}
use Rattle.project_set.proofs.Agreeing.{declarations, Agrees, HasValue, found}

-- what stands in a list stands at some place
at_some_place : {X : Type 0} (xs : List X) (x : X) → Contains xs x → (i : ℕ) × (slice_get xs i ≡ Some x)
at_some_place xs x c = (c.0, slice_get-get_or xs c.0 x c.1 ∙ ap Some c.2)

-- what stands at a place stands in the list
in_the_list : {X : Type 0} (xs : List X) (i : ℕ) (x : X) → slice_get xs i ≡ Some x → Contains xs x
in_the_list xs i x at = (i, slice_get_within xs i x at, get_or_from_slice_get xs i x x at)

-- what a mapped list has at a place
record Mapped {X Y : Type 0} (f : X → Y) (xs : List X) (i : ℕ) (y : Y) : Type 0 where
  from : X
  at : slice_get xs i ≡ Some from
  is : f from ≡ y

mapped : {X Y : Type 0} (f : X → Y) (xs : List X) (i : ℕ) (y : Y) → slice_get (map f xs) i ≡ Some y → Mapped f xs i y
mapped f [] i y e = absurd cc
mapped f (x ∷ xs) zero y e = record { from = x; at = refl; is = cc }
mapped f (x ∷ xs) (suc i) y e = let m = mapped f xs i y e in record { from = m.from; at = m.at; is = m.is }

mapped_at : {X Y : Type 0} (f : X → Y) (xs : List X) (i : ℕ) (x : X) → slice_get xs i ≡ Some x → slice_get (map f xs) i ≡ Some (f x)
mapped_at f xs i x at = slice_get-map f xs i ∙ ap (option_map f) at

-- what a numbered list has at a place
numbered : {X : Type 0} (b : ℕ) (xs : List X) (i : ℕ) (p : ℕ × X) → slice_get (enumerate_from b xs) i ≡ Some p → (p.0 ≡ b + i) × (slice_get xs i ≡ Some p.1)
numbered b [] i p e = absurd cc
numbered b (x ∷ xs) zero p e = let same : (b, x) ≡ p = cc in (ap (λ q. q.0) (sym same) ∙ omega arith, ap (λ q. Some q.1) same)
numbered b (x ∷ xs) (suc i) p e = let rest = numbered (b + 1) xs i p e in (omega (arith, rest.0), rest.1)

module _ (home : List ℕ) (names : List (List ℕ)) where
  abbrev layout : Layout
  layout = layout_at home names

  abbrev pub map_lines_at : List MapLine
  map_lines_at = map (map_line_of (home ∷ [])) (map in_first names)

  -- a line of the map is that of a variable
  line_at : (i : ℕ) (line : MapLine) → slice_get map_lines_at i ≡ Some line → (x : List ℕ) × (slice_get names i ≡ Some x) × (map_line_of (home ∷ []) (in_first x) ≡ line)
  line_at i line at =
      let outer = mapped (map_line_of (home ∷ [])) (map in_first names) i line at in
      let inner = mapped in_first names i outer.from outer.at in
      (inner.from, inner.at, ap (map_line_of (home ∷ [])) inner.is ∙ outer.is)

  line_of : (i : ℕ) (x : List ℕ) → slice_get names i ≡ Some x → slice_get map_lines_at i ≡ Some (map_line_of (home ∷ []) (in_first x))
  line_of i x at = mapped_at (map_line_of (home ∷ [])) (map in_first names) i (in_first x) (mapped_at in_first names i x at)

  sequence_at : (s : ℕ) (x : List ℕ) → slice_get names s ≡ Some x → slice_get layout.sequences s ≡ Some (sequence_of (in_first x))
  sequence_at s x at = mapped_at sequence_of (map in_first names) s (in_first x) (mapped_at in_first names s x at)

  -- the name of a sequence tells its number's variable
  sequence_named : (s : ℕ) (text : List ℕ) → sequence_text layout s ≡ Some text → (x : List ℕ) × (slice_get names s ≡ Some x) × (text ≡ home ++ codes "." ++ x)
  sequence_named s text e = go (slice_get layout.sequences s) refl e
    where
      go : (o : Option Sequence) → slice_get layout.sequences s ≡ o → option_map (λ (q : Sequence). home_text (home ∷ []) q.home) o ≡ Some text → (x : List ℕ) × (slice_get names s ≡ Some x) × (text ≡ home ++ codes "." ++ x)
      go None is e = absurd cc
      go (Some q) is e =
          let outer = mapped sequence_of (map in_first names) s q is in
          let inner = mapped in_first names s outer.from outer.at in
          let which : sequence_of (in_first inner.from) ≡ q = ap sequence_of inner.is ∙ outer.is in
          let shown : Some (home ++ codes "." ++ inner.from) ≡ Some text = ap (λ (z : Sequence). Some (home_text (home ∷ []) z.home)) which ∙ e in
          (inner.from, inner.at, cc)

  named_at : (s : ℕ) (x : List ℕ) → slice_get names s ≡ Some x → sequence_text layout s ≡ Some (home ++ codes "." ++ x)
  named_at s x at = ap (option_map (λ (q : Sequence). home_text (home ∷ []) q.home)) (sequence_at s x at)

  -- a covering line is that of the sequence's variable
  record Covering (s o : ℕ) (k : Kind) (line : MapLine) : Type 0 where
    variable : List ℕ
    at : slice_get names s ≡ Some variable
    is : map_line_of (home ∷ []) (in_first variable) ≡ line
    offset : o ≡ 0
    kind : k ≡ integers

  covering : (s o : ℕ) (k : Kind) (i : ℕ) (line : MapLine) → slice_get map_lines_at i ≡ Some line → Covers layout line s o k → (slice_get names i ≡ slice_get names s) × Covering s o k line
  covering s o k i line at covers =
      let l = line_at i line at in
      let here = sequence_named s line.sequence covers.named in
      let texts : (home ++ codes ".") ++ l.0 ≡ (home ++ codes ".") ++ here.0 = ap (λ (z : MapLine). z.sequence) l.2 ∙ here.2 in
      let same : l.0 ≡ here.0 = append_cancel_left (home ++ codes ".") l.0 here.0 texts in
      let first : 0 ≡ line.first = ap (λ (z : MapLine). z.first) l.2 in
      let count : 1 ≡ line.count = ap (λ (z : MapLine). z.count) l.2 in (
        l.1 ∙ ap Some same ∙ sym here.1,
        record {
          variable = here.0;
          at = here.1;
          is = ap (λ x. map_line_of (home ∷ []) (in_first x)) (sym same) ∙ l.2;
          offset = omega (arith, first, count, covers.to);
          kind = sym covers.with_kind ∙ sym (ap (λ (z : MapLine). z.kind) l.2);
        },
      )

  covers_own : (i : ℕ) (x : List ℕ) → slice_get names i ≡ Some x → Covers layout (map_line_of (home ∷ []) (in_first x)) i 0 integers
  covers_own i x at = record { named = named_at i x at; from = omega arith; to = omega arith; with_kind = refl }

  -- what is seen is a variable at its first place
  record Seeing (s o : ℕ) (k : Kind) : Type 0 where
    variable : List ℕ
    at : slice_get names s ≡ Some variable
    offset : o ≡ 0
    kind : k ≡ integers

  seeing : (s o : ℕ) (k : Kind) → IsSeen layout s o k → Seeing s o k
  seeing s o k seen =
      let placed = at_some_place layout.entities seen.entity seen.placed in
      let outer = mapped entity_of (enumerate_from 0 (map in_first names)) placed.0 seen.entity placed.1 in
      let numbers = numbered 0 (map in_first names) placed.0 outer.from outer.at in
      let inner = mapped in_first names placed.0 outer.from.1 numbers.1 in
      let sequence : outer.from.0 ≡ s = ap (λ (z : Entity). z.sequence) outer.is ∙ seen.in_sequence in
      let place : placed.0 ≡ s = omega (arith, numbers.0, sequence) in
      let offset : 0 ≡ seen.entity.offset = ap (λ (z : Entity). z.offset) outer.is in
      let count : 1 ≡ seen.entity.count = ap (λ (z : Entity). z.count) outer.is in
      record {
        variable = inner.from;
        at = ap (slice_get names) (sym place) ∙ inner.at;
        offset = omega (arith, offset, count, seen.to);
        kind = sym seen.with_kind ∙ sym (ap (λ (z : Entity). z.kind) outer.is);
      }

  seen_own : (i : ℕ) (x : List ℕ) → slice_get names i ≡ Some x → IsSeen layout i 0 integers
  seen_own i x at =
      let entity = entity_of (0 + i, in_first x) in
      let e : 0 + i ≡ i = omega arith in
      record {
        entity = entity;
        placed = in_the_list layout.entities i entity (mapped_at entity_of (enumerate_from 0 (map in_first names)) i (0 + i, in_first x) (numbering 0 (map in_first names) i (in_first x) (mapped_at in_first names i x at)));
        in_sequence = e;
        from = omega arith;
        to = omega arith;
        with_kind = refl;
      }
    where
      numbering : {X : Type 0} (b : ℕ) (xs : List X) (i : ℕ) (x : X) → slice_get xs i ≡ Some x → slice_get (enumerate_from b xs) i ≡ Some (b + i, x)
      numbering b [] i x at = absurd cc
      numbering b (y ∷ xs) zero x at = let same : y ≡ x = cc in let e : b ≡ b + 0 = omega arith in λ j. Some (e j, same j)
      numbering b (y ∷ xs) (suc i) x at = let e : b + 1 + i ≡ b + suc i = omega arith in numbering (b + 1) xs i x at ∙ ap (λ n. Some (n, x)) e

  module _ (distinct : Distinct names) where
    one_line_at : (s o : ℕ) (k : Kind) → IsSeen layout s o k → OneLine layout map_lines_at s o k
    one_line_at s o k seen =
        let there = seeing s o k seen in
        let own = map_line_of (home ∷ []) (in_first there.variable) in
        record {
          index = s;
          line = own;
          at = line_of s there.variable there.at;
          covers = subst (λ z. Covers layout own s z k) (sym there.offset) (subst (λ z. Covers layout own s 0 z) (sym there.kind) (covers_own s there.variable there.at));
          only = λ other that at covers.
              let c = covering s o k other that at covers in
              one_place names other s there.variable distinct (c.0 ∙ there.at) there.at;
        }

    -- a variable's first place is one of the object that is declared for it
    object_of : (program : FreeProgram) → declared_in program ≡ declarations home names → (i : ℕ) (x : List ℕ) → slice_get names i ≡ Some x → IsObjectPlace program home x integers 1
    object_of program is i x at = record {
      declared = integer_object x;
      in_program = subst (λ ds. Contains ds (home, integer_object x)) (sym is)
          (in_the_list (declarations home names) i (home, integer_object x) (mapped_at (λ d. (home, d)) (map integer_object names) i (integer_object x) (mapped_at integer_object names i x at)));
      named = refl;
      has = refl;
    }

    no_other_at : (program : FreeProgram) → declared_in program ≡ declarations home names → (line : MapLine) → Contains map_lines_at line → IsNeeded layout program line
    no_other_at program is line here =
        let place = at_some_place map_lines_at line here in
        let l = line_at place.0 line place.1 in
        subst (IsNeeded layout program) l.2 (record {
          some = omega arith;
          objects = λ o from to. let first : 1 ≡ 1 + (o - 0) = omega (arith, from, to) in subst (IsObjectPlace program home l.0 integers) first (object_of program is place.0 l.0 l.1);
          sequence = place.0;
          named = named_at place.0 l.0 l.1;
          seen = λ o from to. let first : 0 ≡ o = omega arith in subst (λ z. IsSeen layout place.0 z integers) first (seen_own place.0 l.0 l.1);
        })

    apart_at : (s o s' o' : ℕ) (k k' : Kind) (line line' : MapLine) → Contains map_lines_at line → Contains map_lines_at line'
        → Covers layout line s o k → Covers layout line' s' o' k'
        → line.home ≡ line'.home → line.object ≡ line'.object → object_place line o ≡ object_place line' o'
        → (s ≡ s') × (o ≡ o') × (k ≡ k')
    apart_at s o s' o' k k' line line' here here' covers covers' homes objects places =
        let place = at_some_place map_lines_at line here in
        let place' = at_some_place map_lines_at line' here' in
        let c = covering s o k place.0 line place.1 covers in
        let c' = covering s' o' k' place'.0 line' place'.1 covers' in
        let same : c.1.variable ≡ c'.1.variable = ap (λ (z : MapLine). z.object) c.1.is ∙ objects ∙ sym (ap (λ (z : MapLine). z.object) c'.1.is) in
        (one_place names s s' c'.1.variable distinct (c.1.at ∙ ap Some same) c'.1.at, c.1.offset ∙ sym c'.1.offset, c.1.kind ∙ sym c'.1.kind)

    pub is_map_at : (program : FreeProgram) → declared_in program ≡ declarations home names → IsMap layout program map_lines_at
    is_map_at program is = record { one_line = one_line_at; no_other = no_other_at program is; apart = apart_at }

    -- ---- what agrees is carried

    held_is : (w : Store) (s o : ℕ) (h : Held) (q : Option Sequence) → held_in w.numbers (numeric_place layout s o) o q ≡ Some h → slice_get w.numbers (numeric_place layout s o) ≡ Some h
    held_is w s o h None e = absurd cc
    held_is w s o h (Some q) e = go (not q.has_text && nat_lt o q.count) e
      where
        go : (b : Bool) → (if b then slice_get w.numbers (numeric_place layout s o) else None) ≡ Some h → slice_get w.numbers (numeric_place layout s o) ≡ Some h
        go true e = e
        go false e = absurd cc

    -- a place that holds something is that of integers, and the object of its line has the value
    record Carrying (w : Store) (w' : Objects) (s o : ℕ) (h : Held) (k : Kind) (line : MapLine) : Type 0 where
      kind : k ≡ integers
      cells : Cells
      is : cells_of w' line.home line.object ≡ Some cells
      first : object_place line o ≡ 1
      has : HasValue h cells

    carrying : (w : Store) (w' : Objects) (s o : ℕ) (h : Held) (k : Kind) (line : MapLine) → Agrees home names w w' → held_at layout w s o ≡ Some h → Contains map_lines_at line → Covers layout line s o k → Carrying w w' s o h k line
    carrying w w' s o h k line a e here covers =
        let place = at_some_place map_lines_at line here in
        let c = (covering s o k place.0 line place.1 covers).1 in
        let f = found home c.variable names w.numbers w' s a (place_at names s c.variable distinct c.at) in
        let within : s < length names = slice_get_within names s c.variable c.at in
        let number : numeric_place layout s o ≡ s = ap (numeric_place layout s) c.offset ∙ numeric_place_is home names s (omega (arith, within)) in
        let read : slice_get w.numbers s ≡ Some h = ap (slice_get w.numbers) (sym number) ∙ held_is w s o h (slice_get layout.sequences s) e in
        let there : slice_index_or w.numbers s undefined ≡ h = get_or_from_slice_get w.numbers s h undefined read in
        record {
          kind = c.kind;
          cells = f.cells;
          is = subst (λ (z : MapLine). cells_of w' z.home z.object ≡ Some f.cells) c.is f.is;
          first = subst (λ (z : MapLine). object_place z o ≡ 1) c.is (ap (object_place (map_line_of (home ∷ []) (in_first c.variable))) c.offset);
          has = subst (λ z. HasValue z f.cells) there f.has;
        }

    no_logicals : ◌≡◌ {A = Kind} logicals integers → ⊥
    no_logicals e = cc

    no_byte : (w : Store) (s o b : ℕ) (q : Option Sequence) → slice_get layout.sequences s ≡ q → byte_in w.texts (text_place layout s o) o q ≡ Some b → ⊥
    no_byte w s o b None is e = cc
    no_byte w s o b (Some q) is e =
        let outer = mapped sequence_of (map in_first names) s q is in
        let numeric : false ≡ q.has_text = ap (λ (z : Sequence). z.has_text) outer.is in
        go q.has_text (sym numeric) e
      where
        go : (t : Bool) → t ≡ false → (if t && nat_lt o q.count then option_and_then (λ c. c) (slice_get w.texts (text_place layout s o)) else None) ≡ Some b → ⊥
        go true off e = cc
        go false off e = cc

    pub carried_at : (w : Store) (w' : Objects) → Agrees home names w w' → IsCarried layout map_lines_at w w'
    carried_at w w' a = record {
      integer = λ s o v line e here covers.
          let c = carrying w w' s o (holds_integer v) integers line a e here covers in
          ap (option_and_then (integer_at (object_place line o))) c.is ∙ ap (λ n. integer_at n c.cells) c.first ∙ ap (integer_at 1) c.has;
      logical = λ s o b line e here covers. let c = carrying w w' s o (holds_logical b) logicals line a e here covers in absurd (no_logicals c.kind);
      byte = λ s o b line e here covers. absurd (no_byte w s o b (slice_get layout.sequences s) refl e);
    }
