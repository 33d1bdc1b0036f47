-- A text of parts with marks between them tells its parts.
use Rattle.std.proofs.Common.{◌≡◌, ℕ, suc, ◌<◌, ◌≤◌, ◌^◌, Bool, true, false, ◌||◌, ◌==◌, List, [], ◌∷◌, ◌++◌, length, map, codes, All, refl, sym, ap, ◌∙◌, append_assoc, arith, rules}
use Rattle.std.specs.Prelude.{slice_index, decimal, if◌then◌else◌}
use Rattle.std.specs.List.{list_all}
use Rattle.std.proofs.lemmas.Fmt.{digits_decimal, decimal_injective}
use Rattle.std.proofs.lemmas.Str.Parse.{IsDigitsTest, numerals_by_value}
use Rattle.std.proofs.lemmas.List.{append_cancel_left, length-map}
use Rattle.std.proofs.lemmas.List.Sums.{count_by-le-length}
use Rattle.std.proofs.lemmas.List.Elements.{All-nil, All-cons, All-head, All-tail}
use Rattle.std.proofs.lemmas.Bool.{and_parts, and_from, or_left}
use Rattle.text_base.specs.Chars.{is_digit, is_name_byte, is_name}
use Rattle.text_base.specs.Lines.{cut, with_first, without_return, lines, is_cut, cut_lines}
use Rattle.text_base.proofs.CharTests.{all_append}
use Rattle.program77.specs.Tree.{SourceUnit}
use Rattle.program77.specs.Typing.{variables}
use Rattle.text_base.specs.Values.{Kind, integers, logicals, characters}
use Rattle.project_set.specs.MapText.{MapLine, kind_text, map_line_text, map_text, map_line_of, map_lines}
use Rattle.project_set.specs.Report.{Counts, report_text}
use Rattle.definition_laws.specs.Texts.{are_named, IsWellNamed, AreSmall}

abbrev is_named : ℕ → Bool
is_named c = is_name_byte c || c == 46

-- parts before a mark that doesn't stand in them are the same where the texts are
parted : (q : ℕ → Bool) (mark : ℕ) (u v a b : List ℕ) → q mark ≡ false → list_all q u ≡ true → list_all q v ≡ true → u ++ mark ∷ a ≡ v ++ mark ∷ b → (u ≡ v) × (a ≡ b)
parted q mark [] [] a b none all_u all_v e = (refl, cc)
parted q mark [] (c ∷ v) a b none all_u all_v e =
    let same : mark ≡ c = cc in
    let wrong : false ≡ true = sym none ∙ ap q same ∙ (and_parts (q c) (list_all q v) all_v).0 in
    absurd cc
parted q mark (c ∷ u) [] a b none all_u all_v e =
    let same : c ≡ mark = cc in
    let wrong : false ≡ true = sym none ∙ ap q (sym same) ∙ (and_parts (q c) (list_all q u) all_u).0 in
    absurd cc
parted q mark (c ∷ u) (d ∷ v) a b none all_u all_v e =
    let same : c ≡ d = cc in
    let rest = parted q mark u v a b none (and_parts (q c) (list_all q u) all_u).1 (and_parts (q d) (list_all q v) all_v).1 cc in
    (λ i. same i ∷ rest.0 i, rest.1)

-- ---- numbers

all_digits : (n : ℕ) → n < 2 ^ 64 → list_all is_digit (decimal n) ≡ true
all_digits n small = digits_decimal (numerals_by_value (λ (ds : List ℕ). list_all is_digit ds ≡ true) test) n small
  where
    test : IsDigitsTest (λ ds. list_all is_digit ds ≡ true)
    test = search rules

-- numbers before a mark are the same
numbers : (mark m n : ℕ) (a b : List ℕ) → is_digit mark ≡ false → m < 2 ^ 64 → n < 2 ^ 64 → decimal m ++ mark ∷ a ≡ decimal n ++ mark ∷ b → (m ≡ n) × (a ≡ b)
numbers mark m n a b none small_m small_n e =
    let parts = parted is_digit mark (decimal m) (decimal n) a b none (all_digits m small_m) (all_digits n small_n) e in
    (decimal_injective m n small_m small_n parts.0, parts.1)

-- ---- lines of a map

kinds : (k h : Kind) (a b : List ℕ) → kind_text k ++ 32 ∷ a ≡ kind_text h ++ 32 ∷ b → (k ≡ h) × (a ≡ b)
kinds integers integers a b e = (refl, cc)
kinds logicals logicals a b e = (refl, cc)
kinds characters characters a b e = (refl, cc)
kinds integers logicals a b e = absurd (omega (arith, ap (λ (l : List ℕ). slice_index l 0) e))
kinds integers characters a b e = absurd (omega (arith, ap (λ (l : List ℕ). slice_index l 0) e))
kinds logicals integers a b e = absurd (omega (arith, ap (λ (l : List ℕ). slice_index l 0) e))
kinds logicals characters a b e = absurd (omega (arith, ap (λ (l : List ℕ). slice_index l 0) e))
kinds characters integers a b e = absurd (omega (arith, ap (λ (l : List ℕ). slice_index l 0) e))
kinds characters logicals a b e = absurd (omega (arith, ap (λ (l : List ℕ). slice_index l 0) e))

-- a line and what follows, from left to right
abbrev spread : MapLine → List ℕ → List ℕ
spread l rest =
    l.sequence ++ 32 ∷ (decimal l.first ++ 32 ∷ (decimal l.count ++ 32 ∷ (kind_text l.kind ++ 32 ∷ (l.home ++ 58 ∷ (l.object ++ 32 ∷ (decimal l.at ++ 10 ∷ rest))))))

spread_parts : (a b c d e f g rest : List ℕ)
    → (a ++ 32 ∷ [] ++ b ++ 32 ∷ [] ++ c ++ 32 ∷ [] ++ d ++ 32 ∷ [] ++ e ++ 58 ∷ [] ++ f ++ 32 ∷ [] ++ g ++ 10 ∷ []) ++ rest
    ≡ a ++ 32 ∷ (b ++ 32 ∷ (c ++ 32 ∷ (d ++ 32 ∷ (e ++ 58 ∷ (f ++ 32 ∷ (g ++ 10 ∷ rest))))))
spread_parts a b c d e f g rest = simp append_assoc

spread_is : (l : MapLine) (rest : List ℕ) → map_line_text l ++ rest ≡ spread l rest
spread_is l rest = spread_parts l.sequence (decimal l.first) (decimal l.count) (kind_text l.kind) l.home l.object (decimal l.at) rest

line_same : (l m : MapLine) (a b : List ℕ) → IsWellNamed l → IsWellNamed m → spread l a ≡ spread m b → (l ≡ m) × (a ≡ b)
line_same l m a b x y e =
    let p1 = parted is_named 32 l.sequence m.sequence _ _ refl x.sequence y.sequence e in
    let p2 = numbers 32 l.first m.first _ _ refl x.first y.first p1.1 in
    let p3 = numbers 32 l.count m.count _ _ refl x.count y.count p2.1 in
    let p4 = kinds l.kind m.kind _ _ p3.1 in
    let p5 = parted is_named 58 l.home m.home _ _ refl x.home y.home p4.1 in
    let p6 = parted is_named 32 l.object m.object _ _ refl x.object y.object p5.1 in
    let p7 = numbers 10 l.at m.at _ _ refl x.at y.at p6.1 in
    (λ i. record { sequence = p1.0 i; first = p2.0 i; count = p3.0 i; kind = p4.0 i; home = p5.0 i; object = p6.0 i; at = p7.0 i }, p7.1)

not_nothing : (l : MapLine) (rest : List ℕ) → [] ≡ spread l rest → ⊥
not_nothing l rest e = go l.sequence _ e
  where
    go : (u a : List ℕ) → [] ≡ u ++ 32 ∷ a → ⊥
    go [] a f = cc
    go (c ∷ u) a f = cc

pub one_list : (ls ms : List MapLine) → All IsWellNamed ls → All IsWellNamed ms → map_text ls ≡ map_text ms → ls ≡ ms
one_list [] [] x y e = refl
one_list [] (m ∷ ms) x y e = absurd (not_nothing m (map_text ms) (e ∙ spread_is m (map_text ms)))
one_list (l ∷ ls) [] x y e = absurd (not_nothing l (map_text ls) (sym e ∙ spread_is l (map_text ls)))
one_list (l ∷ ls) (m ∷ ms) x y e =
    let same = line_same l m (map_text ls) (map_text ms) (All-head IsWellNamed l ls x) (All-head IsWellNamed m ms y) (sym (spread_is l (map_text ls)) ∙ e ∙ spread_is m (map_text ms)) in
    let rest = one_list ls ms (All-tail IsWellNamed l ls x) (All-tail IsWellNamed m ms y) same.1 in
    λ i. same.0 i ∷ rest i

-- ---- the map of one unit

name_is_named : (x : List ℕ) → is_name x ≡ true → are_named x ≡ true
name_is_named x e = go x (and_parts _ _ (and_parts _ _ e).1).0
  where
    go : (y : List ℕ) → list_all is_name_byte y ≡ true → are_named y ≡ true
    go [] f = refl
    go (c ∷ y) f = let parts = and_parts (is_name_byte c) (list_all is_name_byte y) f in and_from (is_named c) (are_named y) (or_left (is_name_byte c) (c == 46) parts.0) (go y parts.1)

lines_named : (unit : List ℕ) → is_name unit ≡ true → (xs : List (List ℕ)) → list_all is_name xs ≡ true
    → All IsWellNamed (map (map_line_of (unit ∷ [])) (map {B = ℕ × List ℕ} (λ x. (0, x)) xs ++ []))
lines_named unit named [] e = All-nil IsWellNamed
lines_named unit named (x ∷ xs) e =
    let parts = and_parts (is_name x) (list_all is_name xs) e in
    let home = name_is_named unit named in
    let object = name_is_named x parts.0 in
    All-cons IsWellNamed (map_line_of (unit ∷ []) (0, x)) (map (map_line_of (unit ∷ [])) (map {B = ℕ × List ℕ} (λ y. (0, y)) xs ++ []))
    (record {
      sequence = all_append is_named (unit ++ 46 ∷ []) x (all_append is_named unit (46 ∷ []) home refl) object;
      home = home;
      object = object;
      first = omega arith;
      count = omega arith;
      at = omega arith;
    }) (lines_named unit named xs parts.1)

pub unit_named : (u : SourceUnit) → is_name u.name ≡ true → list_all is_name (variables u) ≡ true → All IsWellNamed (map_lines (record { units = u ∷ [] }))
unit_named u named all = lines_named u.name named (variables u) all

-- ---- reports

abbrev spread_counts : ℕ → ℕ → ℕ → ℕ → ℕ → List ℕ
spread_counts a b c d e =
    codes "UNITS " ++ (decimal a ++ 10 ∷ (codes "WEBS " ++ (decimal b ++ 10 ∷ (codes "KEPT " ++ (decimal c ++ 10 ∷ (codes "ARRAYS " ++ (decimal d ++ 10 ∷ (codes "CUT " ++ (decimal e ++ 10 ∷ [])))))))))

counts_parts : (a b c d e : List ℕ)
    → codes "UNITS " ++ a ++ codes "\nWEBS " ++ b ++ codes "\nKEPT " ++ c ++ codes "\nARRAYS " ++ d ++ codes "\nCUT " ++ e ++ codes "\n"
    ≡ codes "UNITS " ++ (a ++ 10 ∷ (codes "WEBS " ++ (b ++ 10 ∷ (codes "KEPT " ++ (c ++ 10 ∷ (codes "ARRAYS " ++ (d ++ 10 ∷ (codes "CUT " ++ (e ++ 10 ∷ [])))))))))
counts_parts a b c d e = simp append_assoc

spread_report : (c : Counts) → report_text c ≡ spread_counts c.units c.webs c.kept c.arrays c.cut
spread_report c = counts_parts (decimal c.units) (decimal c.webs) (decimal c.kept) (decimal c.arrays) (decimal c.cut)

pub one_report : (c d : Counts) → AreSmall c → AreSmall d → report_text c ≡ report_text d → c ≡ d
one_report c d x y e =
    let whole : spread_counts c.units c.webs c.kept c.arrays c.cut ≡ spread_counts d.units d.webs d.kept d.arrays d.cut = sym (spread_report c) ∙ e ∙ spread_report d in
    let p1 = numbers 10 c.units d.units _ _ refl x.units y.units (append_cancel_left (codes "UNITS ") _ _ whole) in
    let p2 = numbers 10 c.webs d.webs _ _ refl x.webs y.webs (append_cancel_left (codes "WEBS ") _ _ p1.1) in
    let p3 = numbers 10 c.kept d.kept _ _ refl x.kept y.kept (append_cancel_left (codes "KEPT ") _ _ p2.1) in
    let p4 = numbers 10 c.arrays d.arrays _ _ refl x.arrays y.arrays (append_cancel_left (codes "ARRAYS ") _ _ p3.1) in
    let p5 = numbers 10 c.cut d.cut _ _ refl x.cut y.cut (append_cancel_left (codes "CUT ") _ _ p4.1) in
    λ i. record { units = p1.0 i; webs = p2.0 i; kept = p3.0 i; arrays = p4.0 i; cut = p5.0 i }

-- a file has no more lines than bytes
cut_length : (bytes : List ℕ) → length (cut bytes) ≤ length bytes
cut_length [] = omega arith
cut_length (c ∷ t) = go (c == 10) (cut t) (cut_length t)
  where
    go : (b : Bool) (ls : List (List ℕ)) → length ls ≤ length t → length (if b then [] ∷ ls else with_first c ls) ≤ suc (length t)
    go true ls le = omega arith
    go false [] le = omega arith
    go false (l ∷ ls) le = omega (arith, le)

pub cut_count : (bytes : List ℕ) → cut_lines bytes ≤ length bytes
cut_count bytes = omega (arith, count_by-le-length is_cut (lines bytes), length-map (cut bytes) without_return, cut_length bytes)
