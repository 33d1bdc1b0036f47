-- One more item of a list, at the step of a loop that goes over it.
use Rattle.std.proofs.Common.{◌≡◌, ℕ, ◌+◌, ◌<◌, ◌≤◌, List, [], ◌∷◌, ◌++◌, map, flat_map, length, get_or, take, replicate, sym, ap, ◌∙◌, append_assoc}
use Rattle.std.proofs.lemmas.List.{take_more, append-nil, take-replicate}

-- what a loop has appended is the text of the items so far, and the text of one more item
pub appended : {X A : Type 0} (text : List X → List A) (one : X → List A)
    → ((xs : List X) (x : X) → text (xs ++ x ∷ []) ≡ text xs ++ one x)
    → (xs : List X) (i : ℕ) (x : X) (start out new : List A)
    → x ≡ get_or xs i x → i < length xs → out ≡ start ++ text (take i xs) → new ≡ out ++ one x
    → new ≡ start ++ text (take (i + 1) xs)
appended text one more xs i x start out new is lt before step =
    step
    ∙ ap (λ l. l ++ one x) before
    ∙ append_assoc start (text (take i xs)) (one x)
    ∙ ap (λ l. start ++ l) (sym (more (take i xs) x))
    ∙ ap (λ y. start ++ text (take i xs ++ y ∷ [])) is
    ∙ ap (λ l. start ++ text l) (sym (take_more xs i x lt))

-- the texts of items, and of one more
pub flat_map-map-more : {X Y A : Type 0} (f : Y → List A) (v : X → Y) (xs : List X) (x : X)
    → flat_map f (map v (xs ++ x ∷ [])) ≡ flat_map f (map v xs) ++ f (v x)
flat_map-map-more f v [] x = append-nil (f (v x))
flat_map-map-more f v (y ∷ ys) x =
    ap (λ l. f (v y) ++ l) (flat_map-map-more f v ys x) ∙ sym (append_assoc (f (v y)) (flat_map f (map v ys)) (f (v x)))

-- a first part of blanks is blanks
pub blanks : (n : ℕ) → n ≤ 60 → take {A = ℕ} n (replicate 60 32) ≡ replicate n 32
blanks n le = take-replicate n 60 32 le
