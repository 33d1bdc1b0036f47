-- When each part of a form ends where the next begins, and choices are made by what stands first.
use Rattle.std.specs.Prelude.{ℕ, ◌==◌, Bool, true, false, not, ◌&&◌, ◌||◌, List, [], ◌∷◌, if◌then◌else◌}
use Rattle.std.specs.List.{list_all}
use Rattle.tree77.specs.Kinds.{is_word}
use Rattle.tree77.specs.Tokens.{is_mark}
use Rattle.tree77.specs.Forms.{Form, nothing, mark, word, name, label, numeral, number, format_text, portion, inside, both, choice, told, perhaps, repeated, seen, judged, refused, Look, one, two, three, text, group, equated, is_in}

-- the sorts of what may stand first
abbrev pub sorts : List ℕ
sorts = 0 ∷ 1 ∷ 65 ∷ 48 ∷ 39 ∷ 40 ∷ 41 ∷ 44 ∷ 61 ∷ 43 ∷ 45 ∷ 42 ∷ 47 ∷ 58 ∷ 46 ∷ []

-- pieces of the form may be none
abbrev pub is_null : {A : Type 0} → Form A → Bool
is_null (nothing y) = true
is_null (both f g) = is_null f && is_null g
is_null (choice ks f g) = is_null g
is_null (told look f g) = is_null f || is_null g
is_null (perhaps c f) = true
is_null (repeated ks f) = true
is_null (seen view f) = is_null f
is_null (judged view f) = is_null f
is_null (refused p f) = is_null f
is_null _ = false

-- what they begin with, where they are some
abbrev pub begins : {A : Type 0} → Form A → ℕ → Bool
begins (nothing y) = λ k. false
begins (mark c) = λ k. k == c
begins (word w) = λ k. k == 65
begins name = λ k. k == 65
begins label = λ k. k == 48
begins numeral = λ k. k == 48
begins number = λ k. k == 48
begins format_text = λ k. k == 39
begins (portion strict marks) = is_in (65 ∷ 48 ∷ 39 ∷ 40 ∷ 46 ∷ 43 ∷ 45 ∷ [])
begins (inside f) = λ k. k == 40
begins (both f g) = λ k. begins f k || (is_null f && begins g k)
begins (choice ks f g) = λ k. begins f k || begins g k
begins (told look f g) = λ k. begins f k || begins g k
begins (perhaps c f) = λ k. k == c
begins (repeated ks f) = begins f
begins (seen view f) = begins f
begins (judged view f) = begins f
begins (refused p f) = begins f

-- both or neither
abbrev pub agree : Bool → Bool → Bool
agree a b = if a then b else not b

-- what stands behind doesn't change the look
abbrev pub look_stops : Look → ℕ → Bool
look_stops (one ks) k = agree (is_in ks k) (is_in ks 0)
look_stops (two c ks) k = not (k == c) && (not (is_in (65 ∷ 48 ∷ 1 ∷ []) k) && agree (is_in ks k) (is_in ks 0))
look_stops (three a b c) k = (not (k == a) && (not (k == b) && not (k == c))) && not (is_in (65 ∷ 48 ∷ 1 ∷ []) k)
look_stops (text w ks) k = not (is_in (65 ∷ 48 ∷ 1 ∷ []) k) && agree (is_in ks k) (is_in ks 0)
look_stops (group ks) k = k == 0
look_stops equated k = not (k == 40)

-- what may stand behind them
abbrev pub stops : {A : Type 0} → Form A → ℕ → Bool
stops (nothing y) = λ k. true
stops (mark c) = λ k. true
stops (word w) = λ k. not (is_in (65 ∷ 48 ∷ 1 ∷ []) k)
stops name = λ k. not (is_in (65 ∷ 48 ∷ 1 ∷ []) k)
stops label = λ k. not (k == 48)
stops numeral = λ k. not (k == 48)
stops number = λ k. not (k == 48)
stops format_text = λ k. true
stops (portion strict marks) = is_in (0 ∷ marks)
stops (inside f) = λ k. true
stops (both f g) = λ k. stops g k && (not (is_null g) || stops f k)
stops (choice ks f g) = λ k. stops f k && (stops g k && (not (is_null g) || not (is_in ks k)))
stops (told look f g) = λ k. stops f k && (stops g k && look_stops look k)
stops (perhaps c f) = λ k. stops f k && not (k == c)
stops (repeated ks f) = λ k. stops f k && not (is_in ks k)
stops (seen view f) = stops f
stops (judged view f) = stops f
stops (refused p f) = stops f

-- of each sort: one implies the other
abbrev pub implies : (ℕ → Bool) → (ℕ → Bool) → Bool
implies a b = list_all (λ k. not (a k) || b k) sorts

-- each parenthesis in pieces of the form has its partner in them
abbrev pub is_balanced : {A : Type 0} → Form A → Bool
is_balanced (mark c) = not (c == 40) && not (c == 41)
is_balanced (word w) = is_word w
is_balanced (portion strict marks) = is_in marks 41
is_balanced (inside f) = is_balanced f
is_balanced (both f g) = is_balanced f && is_balanced g
is_balanced (choice ks f g) = is_balanced f && is_balanced g
is_balanced (told look f g) = is_balanced f && is_balanced g
is_balanced (perhaps c f) = (not (c == 40) && not (c == 41)) && is_balanced f
is_balanced (repeated ks f) = is_balanced f
is_balanced (seen view f) = is_balanced f
is_balanced (judged view f) = is_balanced f
is_balanced (refused p f) = is_balanced f
is_balanced _ = true

-- two forms can be told by a look
abbrev pub are_told : {A : Type 0} → Look → Form A → Form A → Bool
are_told equated f g = is_balanced f && is_balanced g
are_told _ f g = true

-- what a look looks for can stand first
abbrev pub is_good_look : Look → Bool
is_good_look (one ks) = true
is_good_look (two k ks) = not (0 == k)
is_good_look (three a b c) = not (0 == a) && (not (0 == b) && not (0 == c))
is_good_look (text w ks) = is_word w
is_good_look (group ks) = true
is_good_look equated = true

-- each part of the form ends where the next begins, and choices are made by the first character
abbrev pub is_good : {A : Type 0} → Form A → Bool
is_good (mark c) = is_mark c
is_good (word w) = is_word w
is_good (portion strict marks) = list_all is_mark marks
is_good (inside f) = is_good f && stops f 41
is_good (both f g) = is_good f && (is_good g && implies (begins g) (stops f))
is_good (choice ks f g) = is_good f && (is_good g && (not (is_null f) && (implies (begins f) (is_in ks) && implies (begins g) (λ k. not (is_in ks k)))))
is_good (told look f g) = is_good f && (is_good g && (is_good_look look && are_told look f g))
is_good (perhaps c f) = is_mark c && is_good f
is_good (repeated ks f) = is_good f && (not (is_null f) && (implies (begins f) (is_in ks) && implies (begins f) (stops f)))
is_good (seen view f) = is_good f
is_good (judged view f) = is_good f
is_good (refused p f) = is_good f
is_good _ = true
