-- The reading of the items behind the first of an implied DO list, turn by turn.
use Rattle.std.proofs.Common.{◌≡◌, ℕ, zero, suc, ◌+◌, ◌-◌, ◌<◌, true, false, List, [], ◌∷◌, ◌++◌, Option, Some, None, refl, sym, ap, ◌∙◌, append_assoc, arith}
use Rattle.std.specs.Prelude.{if◌then◌else◌}
use Rattle.std.specs.Option.{option_map, option_and_then}
use Rattle.tree77.specs.FormWords.{made, behind}
use Rattle.tree77.specs.Forms.{Form, both, three}
use Rattle.tree77.specs.ListForms.{items_and_range}
use Rattle.tree77.specs.Statements.{Listed, Range}
use Rattle.forms77.specs.Leaf.{last_range, behind_items}
use Rattle.forms77.specs.Reading.{State, look_at, read_mark, read}

module _ (one : Form Listed) (xs : List Listed) (n k : ℕ) (t : State) where
  -- the values of the variable stand next
  pub range_is_next : look_at (three 44 65 61) t ≡ true → behind_items xs (read (items_and_range one (n - k)) t) ≡ behind_items xs (read last_range t)
  range_is_next is = go (n - k)
    where
      go : (m : ℕ) → behind_items xs (read (items_and_range one m) t) ≡ behind_items xs (read last_range t)
      go zero = refl
      go (suc m) = ap (λ b. behind_items xs (if b then read last_range t else read (made (λ p. (p.0 ∷ p.1.0, p.1.1)) (both (behind 44 one) (items_and_range one m))) t)) is

  pub no_turn_is_left : n - k ≡ 0 → behind_items xs (read (items_and_range one (n - k)) t) ≡ behind_items xs (read last_range t)
  no_turn_is_left none = ap (λ m. behind_items xs (read (items_and_range one m) t)) none

  -- a turn that is left
  another : k < n → look_at (three 44 65 61) t ≡ false
      → behind_items xs (read (items_and_range one (n - k)) t) ≡ behind_items xs (read (made (λ p. (p.0 ∷ p.1.0, p.1.1)) (both (behind 44 one) (items_and_range one (n - (k + 1))))) t)
  another lt off =
      let turn : n - k ≡ suc (n - (k + 1)) = omega (arith, lt) in
      ap (λ m. behind_items xs (read (items_and_range one m) t)) turn
      ∙ ap (λ b. behind_items xs (if b then read last_range t else read (made (λ p. (p.0 ∷ p.1.0, p.1.1)) (both (behind 44 one) (items_and_range one (n - (k + 1))))) t)) off

  abbrev with_item : (Listed × (List Listed × Range)) × State → Option ((List Listed × Range) × State)
  with_item a = Some ((a.0.0 ∷ a.0.1.0, a.0.1.1), a.1)

  moved : (x : Listed) (found : Option ((List Listed × Range) × State)) → behind_items xs (option_and_then with_item (option_map (λ (b : (List Listed × Range) × State). ((x, b.0), b.1)) found)) ≡ behind_items (xs ++ x ∷ []) found
  moved x None = refl
  moved x (Some p) = ap (λ (ys : List Listed). Some ((ys, p.0.1), p.1)) (sym (append_assoc xs (x ∷ []) p.0.0))

  pub item_is_next : (u v : State) (x : Listed) → k < n → look_at (three 44 65 61) t ≡ false → read_mark 44 t ≡ Some (tt, u) → read one u ≡ Some (x, v)
      → behind_items xs (read (items_and_range one (n - k)) t) ≡ behind_items (xs ++ x ∷ []) (read (items_and_range one (n - (k + 1))) v)
  item_is_next u v x lt off comma is = another lt off ∙ rw (comma, is) (moved x (read (items_and_range one (n - (k + 1))) v))

  pub no_comma : k < n → look_at (three 44 65 61) t ≡ false → read_mark 44 t ≡ None → behind_items xs (read (items_and_range one (n - k)) t) ≡ None
  no_comma lt off comma = another lt off ∙ rw comma refl

  pub no_item : (u : State) → k < n → look_at (three 44 65 61) t ≡ false → read_mark 44 t ≡ Some (tt, u) → read one u ≡ None → behind_items xs (read (items_and_range one (n - k)) t) ≡ None
  no_item u lt off comma is = another lt off ∙ rw (comma, is) refl
