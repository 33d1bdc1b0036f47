-- The form of each sort is good, however deep its lists may nest.
use Rattle.std.proofs.Common.{◌≡◌, ℕ, zero, suc, Bool, true, false, not, ◌||◌, ◌==◌, List, [], ◌∷◌, Option, refl, ap, ◌∙◌}
use Rattle.std.specs.Prelude.{codes}
use Rattle.std.specs.List.{list_all}
use Rattle.std.proofs.lemmas.Bool.{and_parts, and_from, eqb-true}
use Rattle.text_base.specs.Trees.{Expr}
use Rattle.tree77.specs.FormTable as sort
use Rattle.tree77.specs.FormTable.{Sort, form_of}
use Rattle.tree77.specs.Forms as Forms
use Rattle.tree77.specs.Forms.{Form, equated, group, mark, inside, both, told, perhaps, repeated}
use Rattle.tree77.specs.FormWords.{made, behind, flag, listed, expression, designator, element}
use Rattle.tree77.specs.ListForms.{items_and_range, item}
use Rattle.tree77.specs.Statements as s
use Rattle.tree77.specs.Statements.{Listed, Range, FormatRef, Control}
use Rattle.tree77.specs.SpecificationForms as d
use Rattle.tree77.specs.TransferForms as t
use Rattle.tree77.specs.TransferForms.{Specifier}
use Rattle.forms77.specs.Goodness.{sorts, is_null, begins, stops, implies, is_balanced, is_good}
use Rattle.forms77.proofs.Wholes.{IsWhole}

-- what leads to this sort alone leads to what passes it
leads_in : (a t : ℕ → Bool) (c : ℕ) (ks : List ℕ) → list_all (λ k. not (a k) || k == c) ks ≡ true → t c ≡ true → list_all (λ k. not (a k) || t k) ks ≡ true
leads_in a t c [] all passes = refl
leads_in a t c (k ∷ ks) all passes =
    let p = and_parts (not (a k) || k == c) (list_all (λ k. not (a k) || k == c) ks) all in
    and_from (not (a k) || t k) _ (go (a k) p.0) (leads_in a t c ks p.1 passes)
  where
    go : (b : Bool) → (not b || k == c) ≡ true → (not b || t k) ≡ true
    go false e = refl
    go true e = ap t (eqb-true k c e) ∙ passes

-- all lead to what is passed always
always : (a : ℕ → Bool) (ks : List ℕ) → list_all (λ k. not (a k) || true) ks ≡ true
always a [] = refl
always a (k ∷ ks) = and_from (not (a k) || true) _ (go (a k)) (always a ks)
  where
    go : (b : Bool) → (not b || true) ≡ true
    go false = refl
    go true = refl

-- an item that may stand in an implied DO list
record IsFit {A : Type 0} (f : Form A) : Type 0 where
  good : is_good f ≡ true
  balanced : is_balanced f ≡ true
  some : is_null f ≡ false
  comma : stops f 44 ≡ true

-- what may stand behind its first item
record IsLast {A : Type 0} (f : Form A) : Type 0 where
  good : is_good f ≡ true
  balanced : is_balanced f ≡ true
  some : is_null f ≡ false
  closes : stops f 41 ≡ true
  comma : implies (begins f) (λ k. k == 44) ≡ true

both_good : {A B : Type 0} (f : Form A) (g : Form B) → IsFit f → IsLast g → is_good (both f g) ≡ true
both_good f g a b = and_from (is_good f) _ a.good (and_from (is_good g) _ b.good (leads_in (begins g) (stops f) 44 sorts b.comma a.comma))

both_closes : {A B : Type 0} (f : Form A) (g : Form B) → IsLast g → stops (both f g) 41 ≡ true
both_closes f g b = and_from (stops g 41) _ b.closes (ap (λ n. not n || stops f 41) b.some)

behind_fit : {A : Type 0} (f : Form A) → IsFit f → IsFit (behind 44 f)
behind_fit f a =
    record {
      good = and_from (is_good f) _ a.good (always (begins f) sorts);
      balanced = a.balanced;
      some = refl;
      comma = and_from (stops f 44) _ a.comma (ap (λ b. not b || true) a.some);
    }

range_last : (one : Form Listed) (n : ℕ) → IsFit one → IsLast (items_and_range one n)
range_last one zero a = record { good = refl; balanced = refl; some = refl; closes = refl; comma = refl }
range_last one (suc n) a =
    let b = range_last one n a in
    let next = behind_fit one a in
    record {
      good = and_from (is_good (both (behind 44 one) (items_and_range one n))) _ (both_good (behind 44 one) (items_and_range one n) next b) refl;
      balanced = and_from (is_balanced one) _ a.balanced b.balanced;
      some = refl;
      closes = and_from (stops (both (behind 44 one) (items_and_range one n)) 41) _ (both_closes (behind 44 one) (items_and_range one n) b) refl;
      comma = refl;
    }

-- what stands in the parentheses of an implied DO list
record IsInside {A : Type 0} (f : Form A) : Type 0 where
  good : is_good f ≡ true
  closes : stops f 41 ≡ true
  balanced : is_balanced f ≡ true

inside_good : (one : Form Listed) (n : ℕ) → IsFit one → IsInside (both one (items_and_range one n))
inside_good one n a =
    let b = range_last one n a in
    record {
      good = both_good one (items_and_range one n) a b;
      closes = both_closes one (items_and_range one n) b;
      balanced = and_from (is_balanced one) _ a.balanced b.balanced;
    }

-- what holds of an item in any list of transfers
module _ (leaf : Form Expr) (fit : IsFit (made s.item leaf)) where
  item_fit : (n : ℕ) → IsFit (item leaf n)
  item_fit zero = fit
  item_fit (suc n) =
      let a = inside_good (item leaf n) n (item_fit n) in
      record {
        good = and_from (is_good (inside (both (item leaf n) (items_and_range (item leaf n) n)))) _ (and_from (is_good (both (item leaf n) (items_and_range (item leaf n) n))) _ a.good a.closes)
            (and_from (is_good leaf) _ fit.good (and_from (is_balanced (both (item leaf n) (items_and_range (item leaf n) n))) _ a.balanced fit.balanced));
        balanced = and_from (is_balanced (both (item leaf n) (items_and_range (item leaf n) n))) _ a.balanced fit.balanced;
        some = fit.some;
        comma = and_from (stops leaf 44) _ fit.comma refl;
      }

  item_inside : (n : ℕ) → IsInside (both (item leaf n) (items_and_range (item leaf n) n))
  item_inside n = inside_good (item leaf n) n (item_fit n)

-- the forms of transfers and of DATA, whose items have such an implied DO list
module _ {A : Type 0} (f : Form A) (view : A → Listed) (fit : IsInside f) where
  abbrev looped : Form Expr → Form Listed
  looped leaf = told equated (made view (inside f)) (made s.item leaf)

  abbrev by_format : Form Listed → Form (FormatRef × Option (List Listed))
  by_format one = both t.format (perhaps 44 (listed one))

  abbrev by_control : Form Specifier → Form Listed → Form (Control × List Listed)
  by_control keyword one = both (t.control keyword) (t.some_items one)

  looped_print : IsWhole (by_format (looped expression))
  looped_print = (rw (fit.good, fit.closes, fit.balanced) refl, refl)

  looped_write : IsWhole (by_control t.write_specifier (looped expression))
  looped_write = (rw (fit.good, fit.closes, fit.balanced) refl, refl)

  abbrev both_reads : Form Listed → Form (List Listed)
  both_reads one = told (group (codes ",/*+-.")) (made (λ p. []) (by_format one)) (told (Forms.one (codes "(")) (made (λ p. []) (by_control t.read_specifier one)) (made (λ p. []) (by_format one)))

  looped_read : IsWhole (both_reads (looped (designator (codes "),=:"))))
  looped_read = (rw (fit.good, fit.closes, fit.balanced) refl, refl)

  abbrev group_of : Form Listed → Form (List Listed)
  group_of one = made (λ p. p.0) (both (listed one) (both (mark 47) (both (listed d.value) (mark 47))))

  looped_data : IsWhole (both (group_of (looped (designator (codes "),/")))) (repeated (codes ",A0'(.+-") (made (λ p. p.1) (both (flag 44) (group_of (looped (designator (codes "),/"))))))))
  looped_data = (rw (fit.good, fit.closes, fit.balanced) refl, refl)

abbrev loop_of : Listed × (List Listed × Range) → Listed
loop_of p = s.loop (s.listeds_of (p.0 ∷ p.1.0)) p.1.1

expression_fit : IsFit (made s.item expression)
expression_fit = record { good = refl; balanced = refl; some = refl; comma = refl }

designator_fit : IsFit (made s.item (designator (codes "),=:")))
designator_fit = record { good = refl; balanced = refl; some = refl; comma = refl }

element_fit : IsFit (made s.item element)
element_fit = record { good = refl; balanced = refl; some = refl; comma = refl }

print_whole : (n : ℕ) → IsWhole (form_of n sort.print_sort)
print_whole zero = (refl, refl)
print_whole (suc n) = looped_print _ loop_of (item_inside expression expression_fit n)

write_whole : (n : ℕ) → IsWhole (form_of n sort.write_sort)
write_whole zero = (refl, refl)
write_whole (suc n) = looped_write _ loop_of (item_inside expression expression_fit n)

read_whole : (n : ℕ) → IsWhole (form_of n sort.read_sort)
read_whole zero = (refl, refl)
read_whole (suc n) = looped_read _ loop_of (item_inside (designator (codes "),=:")) designator_fit n)

data_whole : (n : ℕ) → IsWhole (form_of n sort.data_sort)
data_whole n = looped_data _ loop_of (item_inside element element_fit n)

pub all_whole : (n : ℕ) (k : Sort) → IsWhole (form_of n k)
all_whole n sort.program_sort = (refl, refl)
all_whole n sort.subroutine_sort = (refl, refl)
all_whole n sort.function_sort = (refl, refl)
all_whole n sort.integer_size_sort = (refl, refl)
all_whole n sort.logical_size_sort = (refl, refl)
all_whole n sort.character_size_sort = (refl, refl)
all_whole n sort.block_data_sort = (refl, refl)
all_whole n sort.implicit_sort = (refl, refl)
all_whole n sort.parameter_sort = (refl, refl)
all_whole n sort.integer_sort = (refl, refl)
all_whole n sort.logical_sort = (refl, refl)
all_whole n sort.character_sort = (refl, refl)
all_whole n sort.dimension_sort = (refl, refl)
all_whole n sort.common_sort = (refl, refl)
all_whole n sort.equivalence_sort = (refl, refl)
all_whole n sort.external_sort = (refl, refl)
all_whole n sort.intrinsic_sort = (refl, refl)
all_whole n sort.save_sort = (refl, refl)
all_whole n sort.data_sort = data_whole n
all_whole n sort.assignment_sort = (refl, refl)
all_whole n sort.goto_sort = (refl, refl)
all_whole n sort.arithmetic_sort = (refl, refl)
all_whole n sort.condition_sort = (refl, refl)
all_whole n sort.then_sort = (refl, refl)
all_whole n sort.else_if_sort = (refl, refl)
all_whole n sort.else_sort = (refl, refl)
all_whole n sort.end_if_sort = (refl, refl)
all_whole n sort.do_sort = (refl, refl)
all_whole n sort.continue_sort = (refl, refl)
all_whole n sort.return_sort = (refl, refl)
all_whole n sort.stop_sort = (refl, refl)
all_whole n sort.end_sort = (refl, refl)
all_whole n sort.call_sort = (refl, refl)
all_whole n sort.read_sort = read_whole n
all_whole n sort.write_sort = write_whole n
all_whole n sort.print_sort = print_whole n
all_whole n sort.open_sort = (refl, refl)
all_whole n sort.close_sort = (refl, refl)
all_whole n sort.rewind_sort = (refl, refl)
