-- What is held by the names of the outputs after a conversion.
use Rattle.std.proofs.Common.{◌≡◌, ◌≢◌, ℕ, ◌+◌, true, false, cond, List, ◌++◌, length, codes, Option, Some, None, IfSome, refl, ◌∙◌, ap, arith, length-append}
use Rattle.std.specs.FinMap.{get, insert, get-insert}
use Rattle.std.specs.Cmp.Lexicographic.{nat_list_cmp_total}
use Rattle.std.proofs.lemmas.Map.Text.{is_eq-slice_cmp}
use Rattle.text_base.specs.Files.{Files}
use Rattle.command.specs.Words.{Command, map_name, report_name}
use Rattle.command.specs.Outputs.{with_files, named_texts}
use Rattle.command.specs.FromFile.{Headline}
use Rattle.std.specs.Str.{bytes_eq}
use Rattle.std.proofs.lemmas.Slice.Eq.{bytes_eq-Decides}
use Rattle.project_set.specs.Laws.{IsFaithful}

-- the test of bytes holds of equal ones, and fails of others
bytes_same : (a b : List ℕ) → a ≡ b → bytes_eq a b ≡ true
bytes_same a b e = grind (arith, bytes_eq-Decides)

bytes_differ : (a b : List ℕ) → a ≢ b → bytes_eq a b ≡ false
bytes_differ a b e = grind (arith, bytes_eq-Decides)

-- a name with an ending isn't the name
name_differs : (out ending : List ℕ) (n : ℕ) → length ending ≡ n + 1 → out ≢ out ++ ending
name_differs out ending n long e = let size = length-append out ending in let same = ap length e in omega arith

-- names with endings of two lengths are two
endings_differ : (out a b : List ℕ) (n m : ℕ) → length a ≡ n → length b ≡ n + m + 1 → out ++ a ≢ out ++ b
endings_differ out a b n m short long e = let one = length-append out a in let two = length-append out b in let same = ap length e in omega arith

-- under the name that was set stand the bytes
get_same : (files : Files) (name bytes : List ℕ) → get (insert files name bytes) name ≡ Some bytes
get_same files name bytes = get-insert nat_list_cmp_total files name bytes name ∙ ap (λ t. cond t (Some bytes) (get files name)) (is_eq-slice_cmp name name ∙ bytes_same name name refl)

-- under another name stands what stood there
get_other : (files : Files) (name bytes other : List ℕ) → other ≢ name → get (insert files name bytes) other ≡ get files other
get_other files name bytes other differ = get-insert nat_list_cmp_total files name bytes other ∙ ap (λ t. cond t (Some bytes) (get files other)) (is_eq-slice_cmp other name ∙ bytes_differ other name differ)

module _ (command : Command) (bytes text map report : List ℕ) (faithful : IsFaithful bytes text map) where
  -- the text and the map stand under their names, and the text does the same by the map
  heads : (files : Files) → Headline command bytes (insert (insert (insert files command.out text) (map_name command.out) map) (report_name command.out) report)
  heads files = record {
    text = text;
    is_text =
        get_other (insert (insert files command.out text) (map_name command.out) map) (report_name command.out) report command.out (name_differs command.out (codes ".report") 6 refl)
        ∙ get_other (insert files command.out text) (map_name command.out) map command.out (name_differs command.out (codes ".map") 3 refl)
        ∙ get_same files command.out text;
    map = map;
    is_map =
        get_other (insert (insert files command.out text) (map_name command.out) map) (report_name command.out) report (map_name command.out) (endings_differ command.out (codes ".map") (codes ".report") 4 2 refl refl)
        ∙ get_same (insert files command.out text) (map_name command.out) map;
    faithful = faithful;
  }

  -- what is held once the texts of a source were set, where it is told
  pub headline : (old : Option Files) → IfSome (with_files (named_texts command.out text map report) old) (Headline command bytes)
  headline None = tt
  headline (Some files) = heads files
